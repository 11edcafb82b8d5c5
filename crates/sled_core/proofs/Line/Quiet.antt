-- While no call is under way, and nothing is foreign in it, a log file reads as what is shown of it, but for segments that are gone.
use Rattle.std.proofs.Common.{◌≡◌, ◌⊎◌, ◌∙◌, ◌+◌, ◌*◌, ◌%◌, ◌≤◌, ◌<◌, ◌&&◌, max, ℕ, zero, suc, Option, Some, true, false, not, List, [], ◌∷◌, length, map, refl, sym, ap, subst, arith, inl, inr}
use Rattle.std.specs.List.{Contains, slice_get}
use Rattle.std.proofs.Math.Nat.{suc-mul}
use Rattle.std.specs.Prelude.{take}
use Rattle.std.proofs.lemmas.Bool.{and_from, cases_order, or_left}
use Rattle.sled_codec.specs.History.{History}
use Rattle.sled_codec.specs.Snapshots.{SnapshotModel}
use Rattle.sled_store.specs.Device.{State}
use Rattle.sled_store.specs.SegmentStates.{Machine, is_free, slot_at}
use Rattle.sled_store.proofs.Segments.Elements.{in_first, in_rest}
use Rattle.sled_core.specs.declared.iobuf.Reserved.{Reserved}
use Rattle.sled_core.specs.declared.iobuf.Sealed.{Sealed}
use Rattle.sled_core.specs.declared.iterator.Segment.{Segment}
use Rattle.sled_core.specs.Begun.{SegmentView, records_to}
use Rattle.sled_core.specs.Recoverable.{NoHeaderOfZeros}
use Rattle.sled_core.specs.Tail.{Scanned, AreScanned, IsOrdering, least_place, tail_begins}
use Rattle.sled_core.specs.inside.Begun.{line_end}
use Rattle.sled_core.specs.inside.Cleared.{cleared, is_between, is_unwritten_in}
use Rattle.sled_core.specs.inside.Fits.{begun_segment, parts_in}
use Rattle.sled_core.specs.inside.FreeSlots.{HasSlot, HaveOwn}
use Rattle.sled_core.specs.inside.Hides.{Hides, ReadsShown}
use Rattle.sled_core.specs.inside.OwnLog.{ReadsPlaced}
use Rattle.sled_core.specs.inside.Recoverable.{IsRecoverableLog}
use Rattle.sled_core.specs.inside.Reached.{StandsAmong, StandsIn}
use Rattle.sled_core.specs.inside.SealedBuffers.{AreSealed, FirstUnwritten}
use Rattle.sled_core.specs.inside.Slots.{AreWhole}
use Rattle.sled_core.proofs.Cleared.Offsets.{LineRises, OthersBeside, between_is, slot_apart}
use Rattle.sled_core.proofs.Freed.Gone.{ReadsAs}
use Rattle.sled_core.proofs.Freed.GoneAlone.{found_alone}
use Rattle.sled_core.proofs.Freed.NoHarm.{gone_do_no_harm}
use Rattle.sled_core.proofs.Freed.ReadsAs.{own_header, reads_as_shown}
use Rattle.sled_core.proofs.Freed.ShownReads.{HeadWaits, ShowsSlot, line_shows, older_shows, reads_shown}
use Rattle.sled_core.proofs.Line.Segments.{AreSegments, first_below, nth_segment}
use Rattle.sled_core.proofs.Line.Shown.{line_rises, others_beside}
use Rattle.sled_core.proofs.Reserve.Ranges.{chain_grows}
use Rattle.sled_core.proofs.Tail.Multiples.{apart, next_multiple}

-- Nothing is written of a segment where its first buffer isn't: that has the header.
head_unwritten : (slot from : ℕ) (rs : List Reserved) (bs : List Sealed) (to : ℕ) → 20 ≤ to → FirstUnwritten bs → AreSealed from rs bs → from ≡ 0
    → (i : ℕ) → slot ≤ i → i < slot + 20 → is_unwritten_in slot from bs to i ≡ true
head_unwritten slot from rs [] to long fresh are none i low high = between_is (slot + from) (slot + to) i (omega (arith, low, none)) (omega (arith, high, long))
head_unwritten slot from rs (b ∷ bs) to long fresh are none i low high =
    let grows = chain_grows (max 20 from) b.end (take b.count rs) are.0.chain in
    or_left (not b.is_written && is_between (slot + from) (slot + b.end) i) (is_unwritten_in slot b.end bs to i)
    (and_from (not b.is_written) (is_between (slot + from) (slot + b.end) i) (ap not fresh)
    (between_is (slot + from) (slot + b.end) i (omega (arith, low, none)) (omega (arith, high, grows))))

-- A segment that ends where they end or below it is one of them, or ends where the first one begins or below that.
line_or_older : (size : ℕ) → 0 < size → (place : ℕ) (vs : List SegmentView) → AreSegments size place vs → place % size ≡ 0 → (p : ℕ) → p % size ≡ 0
    → p + size ≤ place + length vs * size
    → (p + size ≤ place) ⊎ ((n : ℕ) × (u : SegmentView) × (slice_get vs n ≡ Some u) × (u.parts.site.place ≡ p))
line_or_older size some place [] are begins p aligned below = inl (omega (arith, below))
line_or_older size some place (x ∷ xs) are begins p aligned below =
    elim (line_or_older size some (place + size) xs are.1 (next_multiple size place begins) p aligned (omega (arith, below, suc-mul (length xs) size))) [
      | inl under ↦ elim (cases_order p place) [
        | inl same ↦ inr (0, x, refl, are.0.at ∙ sym same)
        | inr (inl lower) ↦ inl (apart size some p place aligned begins lower)
        | inr (inr higher) ↦ absurd (omega (arith, under, higher))
      ]
      | inr (n, u, there, at) ↦ inr (suc n, u, there, at)
    ]

-- one of them is a begun one
begun_there : (vs : List SegmentView) (n : ℕ) (u : SegmentView) → slice_get vs n ≡ Some u → Contains (map begun_segment (map parts_in vs)) (begun_segment u.parts)
begun_there [] n u there = cc
begun_there (x ∷ xs) zero u there =
    let same : x ≡ u = cc in
    subst (λ (y : SegmentView). Contains (map begun_segment (map parts_in (x ∷ xs))) (begun_segment y.parts)) same
    (in_first (begun_segment x.parts) (map begun_segment (map parts_in xs)))
begun_there (x ∷ xs) (suc n) u there =
    in_rest (begun_segment x.parts) (begun_segment u.parts) (map begun_segment (map parts_in xs)) (begun_there xs n u there)

-- A line, and the slots of its segments.
module _ (sum : List ℕ → ℕ) (none : NoHeaderOfZeros sum) (size : ℕ) (some : 256 ≤ size) (m : Machine) (v : SegmentView) (vs : List SegmentView)
    (are : AreSegments size v.parts.site.place (v ∷ vs))
    (taken : (n : ℕ) (u : SegmentView) → slice_get (v ∷ vs) n ≡ Some u → HasSlot size m u) (own : HaveOwn size (line_end size (v ∷ vs)) m) where
  abbrev line : List SegmentView
  line = v ∷ vs

  abbrev place : ℕ
  place = v.parts.site.place

  -- the first one begins at a multiple of the size
  pub aligned : place % size ≡ 0
  aligned = let has = taken 0 v refl in ap (λ n. n % size) (sym has.is) ∙ own.aligned has.number has.taken

  rises : LineRises size line
  rises = line_rises size place line are

  -- the header of each is in its first buffer
  pub waits : (n : ℕ) (u : SegmentView) → slice_get line n ≡ Some u → HeadWaits size u
  waits n u at fresh i low high =
      let s = nth_segment size place line are n u at in
      head_unwritten u.parts.site.slot u.parts.written_len u.parts.reserved u.parts.sealed size (omega (arith, some)) s.fresh s.are fresh i low high

  -- they lie beside one another
  pub line_beside : (n : ℕ) (u : SegmentView) → slice_get line n ≡ Some u → OthersBeside size line n u
  line_beside = others_beside size (omega (arith, some)) m place line are taken

  module _ (log : List ℕ) where
    abbrev shown : List ℕ
    shown = cleared size m line log

    -- The older segments are whole in what is shown, and those of the line stand there as far as they are written.
    module _ (H : History) (whole : AreWhole sum size shown H place m) (least : ℕ) (ordering : List Segment)
        (numbers : IsOrdering sum size shown least ordering) (scanned : List Scanned) (reads : AreScanned sum size shown ordering scanned)
        (stands : (n : ℕ) (u : SegmentView) → slice_get line n ≡ Some u
        → (records : ℕ) × StandsIn sum size shown least scanned u.parts.site u.parts.written_len records) where
      each_shows : (k : ℕ) → is_free (slot_at m k).state ≡ false → ShowsSlot sum none size some m line log rises k
      each_shows k used =
          elim (line_or_older size (omega (arith, some)) place line are aligned (slot_at m k).lsn (own.aligned k used) (own.below k used)) [
            | inl older ↦ older_shows sum none size some m line log rises k used
                (λ j u at. slot_apart size m u k (taken j u at)
                (λ same. let low = first_below size place line are j u at in omega (arith, low, older, same, some)))
                H (whole k used older)
            | inr (n, u, at, is) ↦ (
                let has = taken n u at in
                let s = nth_segment size place line are n u at in
                let small = s.slot_small in
                let its = stands n u at in
                subst (ShowsSlot sum none size some m line log rises) (own.one has.number k has.taken used (has.is ∙ is))
                (line_shows sum none size some m line log rises n u at has (line_beside n u at) (waits n u at) (omega (arith, small)) least ordering numbers
                scanned reads its.0 its.1))
          ]

      -- So what is shown is read of bytes that count.
      pub shown_read : ReadsShown sum size m shown log
      shown_read = reads_shown sum none size some m line log rises each_shows

  -- The file of a log that runs, at rest: what is shown of it is read of bytes that count.
  module _ (s : State) (H : History) (first : SnapshotModel) (reach : ℕ) (whole : AreWhole sum size (cleared size m line s.log.bytes) H place m)
      {held : ℕ} (among : StandsAmong sum held size (cleared size m line s.log.bytes) v.parts.site v.parts.written_len (map begun_segment (map parts_in vs)) reach H first)
    where
      abbrev Stands : SegmentView → ℕ → Type 0
      Stands u = StandsIn sum size (cleared size m line s.log.bytes) (least_place size first) among.stands.scanned u.parts.site u.parts.written_len

      -- each of them stands there as far as it is written
      pub stands_each : (n : ℕ) (u : SegmentView) → slice_get line n ≡ Some u → (records : ℕ) × Stands u records
      stands_each zero u at = let same : v ≡ u = cc in (0, subst (λ (y : SegmentView). Stands y 0) same among.here)
      stands_each (suc n) u at = (records_to u.parts.filled size, among.behind (begun_segment u.parts) (begun_there vs n u at))

      pub quiet_shown : ReadsShown sum size m (cleared size m line s.log.bytes) s.log.bytes
      quiet_shown =
          shown_read s.log.bytes H whole (least_place size first) among.stands.ordering among.stands.numbers among.stands.scanned among.stands.reads stands_each

      -- Nothing is foreign in it.
      module _ (base : ℕ) (hides : Hides sum size s m line (least_place size first) base H) (placed : ReadsPlaced sum size s) where
        -- It reads as what is shown of it, but for segments that are gone.
        pub quiet_reads : ReadsAs sum size (least_place size first) H base (cleared size m line s.log.bytes) s.log.bytes
        quiet_reads = reads_as_shown sum size s m line (least_place size first) base H hides quiet_shown placed

        -- So it can be recovered where that can, with the same cut.
        pub quiet_recoverable : (A : ℕ) (cut : ℕ × Option ℕ) (is : IsRecoverableLog sum size (cleared size m line s.log.bytes) H A first cut)
            → base ≤ tail_begins size (least_place size first) is.ordering → IsRecoverableLog sum size s.log.bytes H A first cut
        quiet_recoverable A cut is low =
            gone_do_no_harm sum size some (cleared size m line s.log.bytes) s.log.bytes H A first cut is base quiet_reads low
            (λ t found gone. found_alone sum size (omega (arith, some)) s m line (least_place size first) base H hides quiet_shown (line_end size line) own
            s.log.bytes (λ k p mark header. inl (own_header sum size s s.log.bytes placed k p mark header)) t found gone.below)
