-- Slots lose their segments, which end below those of the line: the log fits what it fitted, over what is shown of its device with the slots that are left.
use Rattle.std.proofs.Common.{◌≡◌, ◌≢◌, ◌⊎◌, ◌∙◌, ◌+◌, ◌*◌, ◌/◌, ◌≤◌, ◌<◌, ℕ, List, ◌∷◌, length, map, get_or, None, refl, sym, ap}
use Rattle.std.proofs.Common.{subst, arith, inl, inr}
use Rattle.std.specs.List.{All, Contains}
use Rattle.std.proofs.Math.Nat.{mul-div_cancel}
use Rattle.std.proofs.lemmas.List.Elements.{All-contains}
use Rattle.sled_codec.specs.declared.result.DiskPtr.{DiskPtr}
use Rattle.sled_codec.specs.declared.result.DiskPtr.TheVariants.{Inline}
use Rattle.sled_codec.specs.History.{History, Message}
use Rattle.sled_codec.specs.Pointers.{lid_of}
use Rattle.sled_store.specs.Device.{State, at_rest}
use Rattle.sled_store.specs.Marks.{slot_with}
use Rattle.sled_store.specs.SegmentStates.{Machine, slot_at}
use Rattle.sled_store.proofs.Histories.Ascending.{Ascends}
use Rattle.sled_store.proofs.Marks.DeactivationSteps.{from_map}
use Rattle.sled_store.proofs.Marks.SlotMoves.{KeepOrLose, LosesSegment}
use Rattle.sled_store.proofs.Segments.Elements.{in_first, in_rest}
use Rattle.sled_core.specs.declared.logger.joined_marks.JoinedMarks.{JoinedMarks}
use Rattle.sled_core.specs.Begun.{SegmentParts, SegmentView}
use Rattle.sled_core.specs.Fits.{held_of}
use Rattle.sled_core.specs.LogFile.{StaysFrom}
use Rattle.sled_core.specs.Logged.{logged}
use Rattle.sled_core.specs.NoForeign.{NoHeaderOfZeros}
use Rattle.sled_core.specs.OpenBatches.{stable_below}
use Rattle.sled_core.specs.Tail.{least_place}
use Rattle.sled_core.specs.inside.Cleared.{cleared}
use Rattle.sled_core.specs.inside.Fits.{begun_segment, parts_in}
use Rattle.sled_core.specs.inside.FreeSlots.{HasSlot, HaveOwn}
use Rattle.sled_core.specs.inside.Hides.{Hides}
use Rattle.sled_core.specs.inside.LogFile.{padded}
use Rattle.sled_core.specs.inside.MarksFit.{MarkStands}
use Rattle.sled_core.specs.inside.OwnLog.{HasPlacedFile}
use Rattle.sled_core.specs.inside.Reached.{BegunSegment}
use Rattle.sled_core.specs.inside.Running.{FitsLine}
use Rattle.sled_core.specs.inside.Shown.{shown}
use Rattle.sled_core.specs.inside.Slots.{AreWhole}
use Rattle.sled_store.specs.Foreign.{HeaderWasPlaced, RecordWasPlaced}
use Rattle.sled_core.proofs.Cleared.Emptied.{NoneNeeds}
use Rattle.sled_core.proofs.Flush.Settled.{settled_recoverable}
use Rattle.sled_core.proofs.Freed.FilesLost.{slot_shown, zeros_shown}
use Rattle.sled_core.proofs.Freed.HoldsLost.{holds_same}
use Rattle.sled_core.proofs.Freed.PlacedLost.{placed_same}
use Rattle.sled_core.proofs.Freed.SameSlots.{SameSlot}
use Rattle.sled_core.proofs.Freed.SlotsLost.{has_segment}
use Rattle.sled_core.proofs.Freed.StandsLost.{ShowsStanding, standing_lost}
use Rattle.sled_core.proofs.Logged.Messages.{ascends_logged}
use Rattle.sled_core.proofs.Reached.AmongRaised.{among_raised, mark_beyond}
use Rattle.sled_core.proofs.Sealed.LaidLemmas.{EndsRise, ends_below}

module _ (size base : ℕ) (some : 256 ≤ size) (m m' : Machine) (changes : KeepOrLose size base m m') (line : List SegmentView)
    (taken : All (HasSlot size m) line) (low : (u : SegmentView) → Contains line u → base ≤ u.parts.site.place) where
  -- A slot loses its segment.
  abbrev IsLost : ℕ → Type 0
  IsLost k = LosesSegment size base (slot_at m k) (slot_at m' k)

  -- It isn't that of a segment of the line.
  line_beside : (u : SegmentView) → Contains line u → (k : ℕ) → IsLost k → u.parts.site.slot ≢ k * size
  line_beside u there k lost same =
      let has = All-contains (HasSlot size m) line u taken there in
      let one : has.number ≡ k =
      sym (mul-div_cancel has.number (omega (arith, some))) ∙ ap (λ n. n / size) (sym has.lies ∙ same) ∙ mul-div_cancel k (omega (arith, some)) in
      let at : (slot_at m k).lsn ≡ u.parts.site.place = ap (λ n. (slot_at m n).lsn) (sym one) ∙ has.is in
      let under = lost.below in let over = low u there in omega (arith, at, under, over, some)

  module _ (s : State) where
    abbrev log : List ℕ
    log = s.log.bytes

    abbrev old : List ℕ
    old = cleared size m line log

    abbrev new : List ℕ
    new = cleared size m' line log

    -- The slots of the line are shown as they were.
    line_shown : (u : SegmentView) → Contains line u → (k : ℕ) × (u.parts.site.slot ≡ k * size) × SameSlot size old new k
    line_shown u there =
        let has = All-contains (HasSlot size m) line u taken there in
        let is = has.is in
        let over = low u there in
        let now = has_segment size base (omega (arith, some)) m m' changes has.number has.taken (omega (arith, is, over, some)) in
        (has.number, has.lies, slot_shown size (omega (arith, some)) m m' line log has.number (now.0 ∙ sym has.taken))

    line_bytes : (u : SegmentView) → Contains line u → SameSlot size old new (u.parts.site.slot / size)
    line_bytes u there =
        let (k, lies, same) = line_shown u there in
        subst (SameSlot size old new) (sym (ap (λ n. n / size) lies ∙ mul-div_cancel k (omega (arith, some)))) same

    -- Each slot is shown as it was, or as zeros.
    each_shown : (k : ℕ) → SameSlot size old new k ⊎ ((i : ℕ) → k * size ≤ i → i < k * size + size → get_or new i 0 ≡ 0)
    each_shown k = elim (changes k) [
      | inl kept ↦ inl (slot_shown size (omega (arith, some)) m m' line log k kept.free)
      | inr lost ↦ inr (zeros_shown size (omega (arith, some)) m m' line log k lost.free)
    ]

    -- So is that of a message which lies in none that loses its segment.
    message_shown : (x : Message) → ((k : ℕ) → IsLost k → slot_with size x ≢ k) → (lid : ℕ) → x.pointer ≡ Inline lid → SameSlot size old new (lid / size)
    message_shown x beside lid is = elim (changes (lid / size)) [
      | inl kept ↦ slot_shown size (omega (arith, some)) m m' line log (lid / size) kept.free
      | inr lost ↦ absurd (beside (lid / size) lost (ap (λ (p : DiskPtr). lid_of p / size) is))
    ]

    -- What is own of what is shown stays so.
    pub placed_lost : (sum : List ℕ → ℕ) → NoHeaderOfZeros sum → HasPlacedFile sum size (shown size None m line s) line
        → HasPlacedFile sum size (shown size None m' line s) line
    placed_lost sum none own =
        placed_same sum none size some (HeaderWasPlaced s.placed) (RecordWasPlaced sum size s.placed) old new
        line line_shown each_shown own

-- A log that keeps no failure, with its slots before and behind that, and what it fits. Where headers are told from zeros: each slot that has a segment has its
-- own, the older ones are whole, the mark that joined stands, and the file has besides what it may have. No table needs anything of the slots that lose their
-- segments, from where what is held counts, and what stays lies in none of them.
module _ (sum : List ℕ → ℕ) (marks : JoinedMarks) (size base : ℕ) (some : 256 ≤ size) (m m' : Machine)
    (long : length m'.slots ≡ length m.slots) (changes : KeepOrLose size base m m') (v : SegmentView) (vs : List SegmentView)
    (taken : All (HasSlot size m) (v ∷ vs)) (low : (u : SegmentView) → Contains (v ∷ vs) u → base ≤ u.parts.site.place)
    (rise : EndsRise v.parts.written_len v.parts.sealed size) (end : ℕ) (own : HaveOwn size end m) (s : State) (reach pins : ℕ) (H : History) (A f : ℕ)
    (U : List Message) (order : Ascends H.messages) (fits : FitsLine sum marks size (shown size None m (v ∷ vs) s) None (v ∷ vs) reach pins H A f U)
    (stays : (x : Message) → StaysFrom (logged H) (held_of fits.holds.begun) x → (k : ℕ) → LosesSegment size base (slot_at m k) (slot_at m' k)
    → slot_with size x ≢ k)
    (high : base ≤ held_of fits.holds.begun / size * size)
    (unneeded : (k : ℕ) → LosesSegment size base (slot_at m k) (slot_at m' k) → NoneNeeds size (logged H) k (held_of fits.holds.begun) reach)
    (stands : NoHeaderOfZeros sum → MarkStands sum size (cleared size m (v ∷ vs) s.log.bytes) fits.holds.begun.first marks.joined)
    (whole : NoHeaderOfZeros sum → AreWhole sum size (cleared size m (v ∷ vs) s.log.bytes) (logged H) v.parts.site.place m)
    (hides : NoHeaderOfZeros sum → Hides sum size s m (v ∷ vs) (least_place size fits.holds.begun.first) base (logged H)) where
  abbrev line : List SegmentView
  line = v ∷ vs

  abbrev held : ℕ
  held = held_of fits.holds.begun

  abbrev others : List BegunSegment
  others = map begun_segment (map parts_in vs)

  abbrev Standing : Machine → NoHeaderOfZeros sum → Type 0
  Standing n zeros =
      ShowsStanding sum zeros size some s line base (logged H) fits.holds.begun.first v.parts.site v.parts.written_len others reach held n

  behind_beside : (k : ℕ) → LosesSegment size base (slot_at m k) (slot_at m' k) → (y : BegunSegment) → Contains others y → y.site.slot ≢ k * size
  behind_beside k lost y there =
      let found = from_map begun_segment (map parts_in vs) y there in
      let its = from_map parts_in vs found.0 found.1 in
      subst (λ (x : BegunSegment). x.site.slot ≢ k * size) found.2 (subst (λ (p : SegmentParts). p.site.slot ≢ k * size) its.2
      (line_beside size base some m m' changes line taken low its.0 (in_rest v its.0 vs its.1) k lost))

  -- What is shown stands as it did.
  standing : (zeros : NoHeaderOfZeros sum) → Standing m' zeros
  standing zeros =
      standing_lost sum zeros size some s line base (logged H) fits.holds.begun.first v.parts.site v.parts.written_len others reach held m m' long changes
      end own v.parts.site.place (whole zeros) (low v (in_first v vs)) high unneeded
      (λ k lost. line_beside size base some m m' changes line taken low v (in_first v vs) k lost) behind_beside (record {
        among =
            among_raised sum size some (cleared size m line s.log.bytes) (logged H) fits.holds.begun.first marks.joined (stands zeros) (fits.among refl zeros);
        beyond = λ to up.
            among_raised sum size some (padded to (cleared size m line s.log.bytes)) (logged H) fits.holds.begun.first marks.joined
            (mark_beyond sum size (cleared size m line s.log.bytes) fits.holds.begun.first marks.joined to (stands zeros)) (fits.beyond to up refl zeros);
        hides = hides zeros;
      })

  -- So this is what the file has besides,
  pub hides_lost : NoHeaderOfZeros sum → Hides sum size s m' line (least_place size fits.holds.begun.first) base (logged H)
  hides_lost zeros = (standing zeros).hides

  -- and the log fits what it fitted.
  pub fits_line_lost : FitsLine sum marks size (shown size None m' line s) None line reach pins H A f U
  unfolding holds_same
  fits_line_lost = record {
    holds =
        holds_same sum size some (cleared size m line s.log.bytes) (cleared size m' line s.log.bytes)
        (shown size None m line s) (at_rest (cleared size m' line s.log.bytes)) s.blobs s.temporary s.placed None (λ none. refl) (λ none. refl)
        v.parts.site v.parts.bytes v.parts.written_len v.parts.sealed v.parts.reserved (map parts_in vs) (logged H) rise
        (let rows = ends_below v.parts.written_len v.parts.sealed size rise in omega (arith, rows.0, rows.1))
        (line_bytes size base some m m' changes line taken low s v (in_first v vs))
        (λ p there.
        let its = from_map parts_in vs p there in
        subst (λ (q : SegmentParts). SameSlot size (cleared size m line s.log.bytes) (cleared size m' line s.log.bytes) (q.site.slot / size)) its.2
        (line_bytes size base some m m' changes line taken low s its.0 (in_rest v its.0 vs its.1)))
        fits.holds (λ x stay. message_shown size base some m m' changes line taken low s x (stays x stay));
    reached = fits.reached;
    among = λ none zeros. (standing zeros).among.0;
    beyond = λ to up none zeros. ((standing zeros).beyond to up).0;
    items = fits.items;
    named = record {
      names = fits.named.names;
      own_names = λ none. let its = fits.named.own_names none in record { of_blobs = its.of_blobs; of_snapshots = its.of_snapshots };
    };
    passes = fits.passes;
    pinned = fits.pinned;
    left =
        settled_recoverable sum size some (shown size None m' line s) H (stable_below reach H.batches) f fits.holds.begun.first reach (ascends_logged H order)
        fits.items.stored refl fits.named.names fits.items.blobs (λ zeros. (standing zeros).among.0.stands);
  }
