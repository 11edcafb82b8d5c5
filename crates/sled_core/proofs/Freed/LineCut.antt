-- Slots at the end of the log file that are free are cut off, and the cut is synced: what is shown is shorter by zeros, and the log fits what it fitted.
use Rattle.std.proofs.Common.{◌≡◌, ◌⊎◌, ◌∙◌, ◌+◌, ◌*◌, ◌/◌, ◌≤◌, ◌<◌, ℕ, pos, true, false, List, [], ◌∷◌, length-take, map, take, get_or, get_or-take}
use Rattle.std.proofs.Common.{None, if◌then◌else◌, refl, sym, ap, subst, arith, inl, inr}
use Rattle.std.specs.List.{All, Contains}
use Rattle.std.proofs.Math.Nat.{mul-div_cancel}
use Rattle.std.proofs.lemmas.Bool.{cases_lt, true≢false}
use Rattle.std.proofs.lemmas.List.Elements.{All-contains}
use Rattle.sled_codec.specs.declared.result.DiskPtr.{DiskPtr}
use Rattle.sled_codec.specs.declared.result.DiskPtr.TheVariants.{Inline}
use Rattle.sled_codec.specs.History.{History, Message}
use Rattle.sled_codec.specs.Pointers.{lid_of}
use Rattle.sled_codec.specs.Snapshots.{SnapshotModel}
use Rattle.sled_store.specs.Device.{Cut, Event, LeavesLog, Placement, State, Synced, at_rest, step}
use Rattle.sled_store.specs.Foreign.{NoForeignLog}
use Rattle.sled_store.specs.Marks.{slot_with}
use Rattle.sled_store.specs.SegmentStates.{Machine, is_free, slot_at}
use Rattle.sled_store.specs.inside.Script.{Along}
use Rattle.sled_store.proofs.Histories.Ascending.{Ascends}
use Rattle.sled_store.proofs.Marks.DeactivationSteps.{from_map}
use Rattle.sled_store.proofs.Segments.Elements.{in_first, in_rest}
use Rattle.sled_store.proofs.Segments.FilledLemmas.{slot_before}
use Rattle.sled_core.specs.declared.iobuf.SegmentPosition.{SegmentPosition}
use Rattle.sled_core.specs.declared.iterator.Segment.{Segment}
use Rattle.sled_core.specs.declared.logger.joined_marks.JoinedMarks.{JoinedMarks}
use Rattle.sled_core.specs.Begun.{SegmentParts, SegmentView}
use Rattle.sled_core.specs.Fits.{held_of}
use Rattle.sled_core.specs.LogFile.{StaysFrom}
use Rattle.sled_core.specs.Logged.{logged}
use Rattle.sled_core.specs.NoForeign.{NoHeaderOfZeros}
use Rattle.sled_core.specs.OpenBatches.{stable_below}
use Rattle.sled_core.specs.inside.Cleared.{cleared, is_stale}
use Rattle.sled_core.specs.inside.Fits.{parts_in}
use Rattle.sled_core.specs.inside.FreeSlots.{FreeAreZeros, HasSlot}
use Rattle.sled_core.specs.inside.LogFile.{padded}
use Rattle.sled_core.specs.inside.Lasting.{LeavesRecovering}
use Rattle.sled_core.specs.inside.Numbers.{HasNumbers}
use Rattle.sled_core.specs.inside.Reached.{BegunSegment, StandsAmong, StandsTo}
use Rattle.sled_core.specs.inside.Running.{FitsLine}
use Rattle.sled_core.specs.inside.Scan.{IsFoundSegment}
use Rattle.sled_core.specs.inside.Shown.{shown}
use Rattle.sled_core.specs.inside.Slots.{AreWhole}
use Rattle.sled_core.proofs.Cleared.Offsets.{cleared_zeros, zeroed_get, zeroed_long}
use Rattle.sled_core.proofs.Flush.Settled.{left_items, settled_recoverable, stands_recoverable}
use Rattle.sled_core.proofs.Freed.CutHides.{zeroed_taken}
use Rattle.sled_core.proofs.Freed.HoldsLost.{holds_same}
use Rattle.sled_core.proofs.Freed.SameSlots.{SameSlot, slot_back, slot_beyond, slot_in}
use Rattle.sled_core.proofs.Logged.Messages.{ascends_logged}
use Rattle.sled_core.proofs.Numbers.OwnLess.{less_cut, less_synced}
use Rattle.sled_core.proofs.Numbers.Stay.{numbers_less}
use Rattle.sled_core.proofs.Reached.AlikeStands.{alike_stands, standing_kept}
use Rattle.sled_core.proofs.Reached.WholeSegments.{whole_kept}
use Rattle.sled_core.proofs.Sealed.LaidLemmas.{EndsRise, ends_below}
use Rattle.sled_core.proofs.Sealed.Padded.{padded_get}
use Rattle.sled_core.proofs.Torn.AlikeSlots.{slot_found}
use Rattle.sled_core.proofs.Torn.CutSlots.{after_cut, below_same}
use Rattle.sled_core.proofs.Torn.KeptSlots.{cutting_keeps}
use Rattle.sled_core.proofs.Torn.WrittenBegun.{none_in_zeros}

module _ (size : ℕ) (some : 256 ≤ size) (m : Machine) (line : List SegmentView) (log : List ℕ) (slots : ℕ)
    (free : (k : ℕ) → slots ≤ k → is_free (slot_at m k).state ≡ true) where
  abbrev to : ℕ
  to = slots * size

  abbrev old : List ℕ
  old = cleared size m line log

  abbrev new : List ℕ
  new = cleared size m line (take to log)

  -- A slot that has a segment lies in front of the cut,
  used_front : (k : ℕ) → is_free (slot_at m k).state ≡ false → k < slots
  used_front k used = elim (cases_lt k slots) [ inl front ↦ front | inr behind ↦ absurd (true≢false (sym (free k behind) ∙ used)) ]

  -- and so it is shown as it was.
  front_shown : (k : ℕ) → k < slots → SameSlot size old new k
  front_shown k front = record {
    bytes = λ i low high.
        zeroed_get (is_stale size m line) (take to log) i
        ∙ ap (λ (n : ℕ). if is_stale size m line i then 0 else n) (get_or-take to log i 0 (omega (arith, high, row)))
        ∙ sym (zeroed_get (is_stale size m line) log i);
    long = omega (arith, zeroed_long (is_stale size m line) (take to log), length-take to log, zeroed_long (is_stale size m line) log, row);
  } where
    row : k * size + size ≤ slots * size
    row = slot_before size k slots front

  pub used_shown : (k : ℕ) → is_free (slot_at m k).state ≡ false → SameSlot size old new k
  used_shown k used = front_shown k (used_front k used)

  -- Each other one is shown as zeros.
  zeros_old : FreeAreZeros size old m
  zeros_old = (cleared_zeros size (omega (arith, some)) m line log).0

  pub zeros_new : FreeAreZeros size new m
  zeros_new = (cleared_zeros size (omega (arith, some)) m line (take to log)).0

  pub each_cut : (k : ℕ) → SameSlot size old new k ⊎ ((i : ℕ) → k * size ≤ i → i < k * size + size → get_or new i 0 ≡ 0)
  each_cut k = elim (cases_lt k slots) [ inl front ↦ inl (front_shown k front) | inr behind ↦ inr (zeros_new k (free k behind)) ]

  -- The slots of the line, and those of messages in slots that are used, are shown as they were.
  module _ (taken : All (HasSlot size m) line) where
    pub line_cut : (u : SegmentView) → Contains line u → (k : ℕ) × (u.parts.site.slot ≡ k * size) × SameSlot size old new k
    line_cut u there = let has = All-contains (HasSlot size m) line u taken there in (has.number, has.lies, used_shown has.number has.taken)

    line_front : (u : SegmentView) → Contains line u → SameSlot size old new (u.parts.site.slot / size)
    line_front u there =
        let (k, lies, same) = line_cut u there in
        subst (SameSlot size old new) (sym (ap (λ n. n / size) lies ∙ mul-div_cancel k (omega (arith, some)))) same

  message_front : (x : Message) → is_free (slot_at m (slot_with size x)).state ≡ false → (lid : ℕ) → x.pointer ≡ Inline lid → SameSlot size old new (lid / size)
  message_front x used lid is = subst (SameSlot size old new) (ap (λ (p : DiskPtr). lid_of p / size) is) (used_shown (slot_with size x) used)

  -- What is whole stays so.
  pub whole_cut : (sum : List ℕ → ℕ) (H : History) (below : ℕ) → AreWhole sum size old H below m → AreWhole sum size new H below m
  whole_cut sum H below are k used ends =
      whole_kept sum size old new (k * size) (omega (arith, some)) (slot_in size old new k (used_shown k used)) H (slot_at m k).lsn (are k used ends)

  -- Segments are found in front of the cut alone,
  module _ (sum : List ℕ → ℕ) (none : NoHeaderOfZeros sum) where
    found_front : (file : List ℕ) → FreeAreZeros size file m → (low : ℕ) (s : Segment) → IsFoundSegment sum size file low s → s.slot / size < slots
    found_front file zeros low s found = elim (cases_lt (s.slot / size) slots) [
      | inl front ↦ front
      | inr behind ↦ absurd (none_in_zeros sum size none (omega (arith, some)) file s.slot
          (λ i above below.
          let is = slot_found sum size file low s found in
          zeros (s.slot / size) (free (s.slot / size) behind) i (omega (arith, above, is)) (omega (arith, below, is))) (pos s.place) s.mark found.header)
    ]

    beyond_zeros : (reach : ℕ) (file : List ℕ) → FreeAreZeros size file m → FreeAreZeros size (padded reach file) m
    beyond_zeros reach file zeros k is i low high = padded_get reach file i ∙ zeros k is i low high

    -- so the file stands as it did, also with zeros behind its end.
    module _ {site : SegmentPosition} {from : ℕ} {others : List BegunSegment} {held : ℕ} (H : History) (reach : ℕ) (first : SnapshotModel) where
      pub stands_cut : StandsAmong sum held size old site from others reach H first → StandsAmong sum held size new site from others reach H first
      stands_cut =
          alike_stands sum size some old new (λ k. k < slots) (λ k front. slot_in size old new k (front_shown k front))
          (λ k front. slot_in size new old k (slot_back size old new k (front_shown k front))) (found_front old zeros_old) (found_front new zeros_new)
          H reach first

      pub stands_cut_beyond : (end : ℕ) → StandsAmong sum held size (padded end old) site from others reach H first
          → StandsAmong sum held size (padded end new) site from others reach H first
      stands_cut_beyond end =
          alike_stands sum size some (padded end old) (padded end new) (λ k. k < slots)
          (λ k front. slot_in size (padded end old) (padded end new) k (further k front))
          (λ k front. slot_in size (padded end new) (padded end old) k (slot_back size (padded end old) (padded end new) k (further k front)))
          (found_front (padded end old) (beyond_zeros end old zeros_old)) (found_front (padded end new) (beyond_zeros end new zeros_new)) H reach first where
            further : (k : ℕ) → k < slots → SameSlot size (padded end old) (padded end new) k
            further k front = slot_beyond size old new k (front_shown k front) end

  -- So does each that a crash may leave while that is done, with nothing foreign in it.
  module _ (sum : List ℕ → ℕ) (none : NoHeaderOfZeros sum) (now : ℕ) (no_less : slots * size ≤ now) (left : List ℕ)
      (leaves : LeavesLog (after_cut size old slots now) left) {placed : List Placement}
      (only_own : NoForeignLog sum size (after_cut size old slots now) placed left) where
    pub stands_cutting : (H : History) (reach : ℕ) (first : SnapshotModel) {site : SegmentPosition} {from : ℕ} {others : List BegunSegment} {held : ℕ}
        → StandsAmong sum held size old site from others reach H first → StandsAmong sum held size left site from others reach H first
    stands_cutting =
        standing_kept sum size some old left (λ k. k < slots) (below_same sum size old slots now no_less left leaves)
        (cutting_keeps sum size (λ k. k < slots) (omega (arith, some)) old slots (λ j front. front) now no_less left leaves only_own)
        (found_front sum none old zeros_old)

-- Slots have the numbers of their segments behind it, as less is own.
pub numbers_cut : (sum : List ℕ → ℕ) (size base : ℕ) (s : State) (m : Machine) (end to : ℕ) → HasNumbers sum size base s m end
    → HasNumbers sum size base (step Synced (step (Cut to to) s)) m end
numbers_cut sum size base s m end to has =
    numbers_less sum size (step Synced (step (Cut to to) s)) (step (Cut to to) s) (less_synced sum size (step (Cut to to) s)) m end
    (numbers_less sum size (step (Cut to to) s) s (less_cut sum size to to s) m end has)

-- A log that keeps no failure fits what it fitted. What stays is in slots that have a segment.
module _ (sum : List ℕ → ℕ) (marks : JoinedMarks) (size : ℕ) (some : 256 ≤ size) (m : Machine) (v : SegmentView)
    (vs : List SegmentView) (taken : All (HasSlot size m) (v ∷ vs)) (rise : EndsRise v.parts.written_len v.parts.sealed size)
    (slots : ℕ) (free : (k : ℕ) → slots ≤ k → is_free (slot_at m k).state ≡ true) (s : State) (reach pins : ℕ)
    (H : History) (A f : ℕ) (U : List Message) (order : Ascends H.messages)
    (fits : FitsLine sum marks size (shown size None m (v ∷ vs) s) None (v ∷ vs) reach pins H A f U)
    (stays : (x : Message) → StaysFrom (logged H) (held_of fits.holds.begun) x → is_free (slot_at m (slot_with size x)).state ≡ false) where
  abbrev line : List SegmentView
  line = v ∷ vs

  abbrev log : List ℕ
  log = s.log.bytes

  -- the state behind the cut and its sync
  abbrev behind : State
  behind = step Synced (step (Cut (slots * size) (slots * size)) s)

  -- What a crash may leave of what is shown while the cut is under way can be recovered,
  pub cutting_leaves : (now : ℕ) → slots * size ≤ now
      → LeavesRecovering sum size H (stable_below reach H.batches) f (step (Cut (slots * size) now) (shown size None m line s))
  cutting_leaves now no_less left leaves only_own =
      stands_recoverable sum size some left H (stable_below reach H.batches) f fits.holds.begun.first reach (ascends_logged H order)
      (left_items sum s.blobs left.blobs H (stable_below reach H.batches) leaves.blobs fits.items.stored)
      (fits.named.names left.snapshots leaves.snapshots only_own.snapshots) (fits.items.blobs left.blobs leaves.blobs only_own.blobs)
      (stands_cutting size some m line log slots free sum only_own.zeros now no_less left.log leaves.log only_own.log (logged H) reach fits.holds.begun.first
      (fits.among refl only_own.zeros)).stands

  -- and so it is behind the sync.
  behind_leaves : LeavesRecovering sum size H (stable_below reach H.batches) f
      (step Synced (step (Cut (slots * size) (slots * size)) (shown size None m line s)))
  behind_leaves =
      settled_recoverable sum size some (step Synced (step (Cut (slots * size) (slots * size)) (shown size None m line s))) H (stable_below reach H.batches) f
      fits.holds.begun.first reach (ascends_logged H order) fits.items.stored refl fits.named.names fits.items.blobs
      (λ zeros.
      subst (λ (l : List ℕ). StandsTo sum size l (logged H) (stable_below reach H.batches) fits.holds.begun.first reach)
      (zeroed_taken (is_stale size m line) log (slots * size))
      (stands_cut size some m line log slots free sum zeros (logged H) reach fits.holds.begun.first (fits.among refl zeros)).stands)

  -- So it is at each moment, of what is shown. (Of the device itself by `CutRecovers`.)
  pub along_cut_shown : Along (LeavesRecovering sum size H (stable_below reach H.batches) f) (Cut (slots * size) (slots * size) ∷ Synced ∷ [])
      (shown size None m line s)
  along_cut_shown = (
    fits.left,
    λ torn tears.
        subst (λ (e : Event). LeavesRecovering sum size H (stable_below reach H.batches) f (step e (shown size None m line s))) (sym tears.2)
        (cutting_leaves tears.0 tears.1),
    (cutting_leaves (slots * size) (omega arith), λ torn tears. absurd tears, behind_leaves),
  )

  pub fits_line_cut : FitsLine sum marks size (shown size None m line behind) None line reach pins H A f U
  unfolding holds_same
  fits_line_cut = record {
    holds =
        holds_same sum size some (cleared size m line log) (cleared size m line (take (slots * size) log)) (shown size None m line s)
        (at_rest (cleared size m line (take (slots * size) log))) behind.blobs behind.temporary behind.placed None (λ none. refl) (λ none. refl) v.parts.site
        v.parts.bytes v.parts.written_len v.parts.sealed v.parts.reserved (map parts_in vs) (logged H) rise
        (let rows = ends_below v.parts.written_len v.parts.sealed size rise in omega (arith, rows.0, rows.1))
        (line_front size some m line log slots free taken v (in_first v vs))
        (λ p there.
        let its = from_map parts_in vs p there in
        subst (λ (q : SegmentParts). SameSlot size (cleared size m line log) (cleared size m line (take (slots * size) log)) (q.site.slot / size)) its.2
        (line_front size some m line log slots free taken its.0 (in_rest v its.0 vs its.1)))
        fits.holds (λ x stay. message_front size some m line log slots free x (stays x stay));
    reached = fits.reached;
    among = λ none zeros. stands_cut size some m line log slots free sum zeros (logged H) reach fits.holds.begun.first (fits.among refl zeros);
    beyond = λ end up none zeros.
        stands_cut_beyond size some m line log slots free sum zeros (logged H) reach fits.holds.begun.first end (fits.beyond end up refl zeros);
    items = fits.items;
    named = record {
      names = fits.named.names;
      own_names = λ none. let its = fits.named.own_names none in record { of_blobs = its.of_blobs; of_snapshots = its.of_snapshots };
    };
    passes = fits.passes;
    pinned = fits.pinned;
    left =
        settled_recoverable sum size some (shown size None m line behind) H (stable_below reach H.batches) f fits.holds.begun.first reach
        (ascends_logged H order) fits.items.stored refl fits.named.names fits.items.blobs
        (λ zeros. (stands_cut size some m line log slots free sum zeros (logged H) reach fits.holds.begun.first (fits.among refl zeros)).stands);
  }
