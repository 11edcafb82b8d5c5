-- What a log file has besides what is shown is what it may have behind each call of a log that runs, as the log's invariants give it: a buffer is written, a
-- segment is begun, a slot is freed.
use Rattle.std.proofs.Common.{◌≡◌, ◌⊎◌, ◌∙◌, ◌+◌, ◌/◌, ◌%◌, ◌≤◌, ◌<◌, ℕ, zero, suc, Some, true, false, List, ◌∷◌, ◌++◌, length, map, take, drop, set, ap, subst, arith, inl, inr}
use Rattle.std.specs.List.{slice_get}
use Rattle.std.proofs.Math.Nat.{add-mul-mod_self_right, suc-mul}
use Rattle.std.proofs.lemmas.Bool.{cases_lt}
use Rattle.std.proofs.lemmas.List.Elements.{All-drop, All-take}
use Rattle.sled_codec.specs.History.{History}
use Rattle.sled_codec.specs.Snapshots.{SnapshotModel, stable_place}
use Rattle.sled_store.specs.Accounts.{AreSlots}
use Rattle.sled_store.specs.Device.{State, Synced, Wrote, step}
use Rattle.sled_store.specs.SegmentStates.{Machine, freed, handed_out, is_free, slot_at}
use Rattle.sled_core.specs.declared.iobuf.Reserved.{Reserved}
use Rattle.sled_core.specs.declared.iobuf.Sealed.{Sealed}
use Rattle.sled_core.specs.Begun.{SegmentView}
use Rattle.sled_core.specs.Recoverable.{NoHeaderOfZeros}
use Rattle.sled_core.specs.SealedBuffers.{bytes_between, sealed_count}
use Rattle.sled_core.specs.Waiting.{last_of}
use Rattle.sled_core.specs.inside.Begun.{line_end}
use Rattle.sled_core.specs.inside.Buffers.{Stands}
use Rattle.sled_core.specs.inside.Cleared.{cleared}
use Rattle.sled_core.specs.inside.Fits.{HoldsRecords, begun_segment, parts_in}
use Rattle.sled_core.specs.inside.FreeSlots.{HasSlot, HaveOwn}
use Rattle.sled_core.specs.inside.Hides.{Hides}
use Rattle.sled_core.specs.inside.Reached.{StandsAmong}
use Rattle.sled_core.specs.inside.SealedBuffers.{AreSealed, IsSealed, is_ready}
use Rattle.sled_core.specs.inside.Slots.{AreWhole}
use Rattle.sled_core.specs.Tail.{least_place}
use Rattle.sled_core.specs.inside.Turned.{begin_at, next_line, promoted, written_now}
use Rattle.sled_core.specs.OpenBatches.{stable_below}
use Rattle.sled_core.proofs.Freed.FreedHides.{hides_freed}
use Rattle.sled_core.proofs.Line.LineHides.{hides_left, hides_next}
use Rattle.sled_core.proofs.Line.Quiet.{aligned, line_beside, quiet_shown}
use Rattle.sled_core.proofs.Line.WrittenHides.{hides_written}
use Rattle.sled_core.proofs.Holds.Facts.{IsSegment}
use Rattle.sled_core.proofs.Holds.Nth.{last_get}
use Rattle.sled_core.proofs.Line.PlacedWrite.{begins_so}
use Rattle.sled_core.proofs.Line.Segments.{AreSegments, first_below, nth_segment, set_segment, written_segment, written_within}
use Rattle.sled_core.proofs.Line.Shown.{line_rises, nth_at}
use Rattle.sled_core.proofs.Line.Shows.{number_small}
use Rattle.sled_core.proofs.Line.Slots.{next_free, next_within}
use Rattle.sled_core.proofs.Reached.BufferPath.{buffer_header}
use Rattle.sled_core.proofs.Reserve.Ranges.{there_split}
use Rattle.sled_core.proofs.Sealed.Ended.{ends_rise}
use Rattle.sled_core.proofs.Sealed.LaidLemmas.{EndsRise}
use Rattle.sled_core.proofs.Sealed.OneWritten.{rises_at, sealed_at}
use Rattle.sled_core.proofs.Tail.Multiples.{apart, put_down}

-- The segments of a log and their slots (`AreSegments`, `HasSlots`), what is shown of the older ones and of these (`AreWhole`, `StandsAmong`), and what the
-- file hides. The mark's segment isn't above the first one.
module _ (sum : List ℕ → ℕ) (none : NoHeaderOfZeros sum) (size : ℕ) (some : 256 ≤ size) (m : Machine) (v : SegmentView) (vs : List SegmentView)
    (are : AreSegments size v.parts.site.place (v ∷ vs))
    (taken : (n : ℕ) (u : SegmentView) → slice_get (v ∷ vs) n ≡ Some u → HasSlot size m u) (own : HaveOwn size (line_end size (v ∷ vs)) m)
    (s : State) (H : History) (first : SnapshotModel) (reach : ℕ)
    (whole : AreWhole sum size (cleared size m (v ∷ vs) s.log.bytes) H v.parts.site.place m)
    {held : ℕ} (among : StandsAmong sum held size (cleared size m (v ∷ vs) s.log.bytes) v.parts.site v.parts.written_len (map begun_segment (map parts_in vs)) reach H first)
    (base : ℕ) (hides : Hides sum size s m (v ∷ vs) (least_place size first) base H) (low : base ≤ v.parts.site.place) where
  abbrev line : List SegmentView
  line = v ∷ vs

  abbrev place : ℕ
  place = v.parts.site.place

  abbrev least : ℕ
  least = least_place size first

  begins : place % size ≡ 0
  begins = aligned sum none size some m v vs are taken own

  -- The first one ends behind what was reached, and so behind the snapshot's place.
  snapshot_low : stable_place first.stable ≤ place + v.parts.written_len
  snapshot_low =
      let not_below = among.stands.not_below in
      let passes = among.stands.passes in
      elim among.reached [
        | inl at ↦ omega (arith, not_below, passes, at)
        | inr (fresh, next) ↦ (let above = next.above in omega (arith, not_below, passes, above))
      ]

  -- So each of them that isn't wholly written begins no lower than the snapshot's segment.
  least_low : (n : ℕ) (u : SegmentView) → slice_get line n ≡ Some u → u.parts.written_len < size → least ≤ u.parts.site.place
  least_low zero u at short =
      let same : v ≡ u = cc in
      let its_len = ap (λ (x : SegmentView). x.parts.written_len) same in
      let its_place = ap (λ (x : SegmentView). x.parts.site.place) same in
      let parts = put_down size (stable_place first.stable) in
      elim (cases_lt place least) [
        | inl lower ↦ absurd (
            let far = apart size (omega (arith, some)) place least begins parts.1 lower in
            omega (arith, far, parts.0, snapshot_low, short, its_len))
        | inr above ↦ omega (arith, above, its_place)
      ]
  least_low (suc n) u at short =
      let is = are.0 in
      let full = written_within size place v is in
      let ends = is.begins in
      let inside = is.short in
      let at_place = nth_at size place line are (suc n) u at in
      omega (arith, snapshot_low, (put_down size (stable_place first.stable)).0, full, ends, inside, at_place, suc-mul n size)

  -- A buffer of one of them is written that is ready: what the log has of the segment holds records of a history (`HoldsLine`).
  module _ (n : ℕ) (u : SegmentView) (at : slice_get line n ≡ Some u) (k : ℕ) (b : Sealed) (there : slice_get u.parts.sealed k ≡ Some b) (ready : is_ready b ≡ true)
      (its : History) (records : HoldsRecords sum size u.parts.site u.parts.bytes u.parts.written_len u.parts.reserved its)
      (begun : (u.parts.written_len ≡ 0) ⊎ (20 ≤ u.parts.written_len)) where
    is : IsSegment size u.parts.site.place u
    is = nth_segment size place line are n u at

    abbrev front : List Sealed
    front = take k u.parts.sealed

    abbrev rest : List Sealed
    rest = drop (suc k) u.parts.sealed

    abbrev entries : List Reserved
    entries = take b.count (drop (sealed_count front) u.parts.reserved)

    abbrev Stand : Reserved → Type 0
    Stand = Stands sum size (u.parts.site.place / size) u.parts.bytes

    split : u.parts.sealed ≡ front ++ b ∷ rest
    split = there_split u.parts.sealed k b there

    sealed_so : IsSealed (begin_at u k) entries b
    sealed_so =
        sealed_at u.parts.written_len u.parts.reserved front b rest
        (subst (λ (cs : List Sealed). AreSealed u.parts.written_len u.parts.reserved cs) split is.are)

    rows : (u.parts.written_len ≤ begin_at u k) × (begin_at u k < b.end) × (b.end ≤ length u.parts.bytes)
    rows =
        let up = written_within size u.parts.site.place u is in
        let ends = is.begins in
        rises_at u.parts.written_len front b rest (length u.parts.bytes)
        (subst (λ (cs : List Sealed). EndsRise u.parts.written_len cs (length u.parts.bytes)) split
        (ends_rise u.parts.written_len u.parts.reserved u.parts.sealed (length u.parts.bytes) is.are (omega (arith, up, ends)) ends))

    -- the bytes of the buffer, and the state behind its write and the sync
    abbrev pub asked : List ℕ
    asked = bytes_between u.parts.bytes (begin_at u k) b.end

    abbrev pub behind : State
    behind = step Synced (step (Wrote (u.parts.site.slot + begin_at u k) asked asked) s)

    -- So it stays, also where those at the front that are wholly written leave the line.
    pub running_written : Hides sum size behind m (promoted size (set line n (written_now k u))) least base H
    running_written =
        let short = is.short in
        let small = is.place_small in
        let up = first_below size place line are n u at in
        hides_left sum size behind least base H m (set line n (written_now k u)) place
        (set_segment size place line are n u (written_now k u) at (λ p here. written_segment k u b there ready size p here))
        (hides_written sum size some s m line least base H hides (quiet_shown sum none size some m v vs are taken own s H first reach whole among)
        n u at k b there (taken n u at) (line_rises size place line are) (line_beside sum none size some m v vs are taken own n u at) own is.place_small
        rows.2 (begins_so u.parts.written_len u.parts.reserved u.parts.sealed is.are begun k) entries sealed_so.chain
        (All-take Stand b.count (drop (sealed_count front) u.parts.reserved) (All-drop Stand (sealed_count front) u.parts.reserved records.stand))
        (omega (arith, low, up)) (least_low n u at (omega (arith, rows.0, rows.1, rows.2, short)))
        (λ fresh.
        let mark = records.header (omega (arith, rows.0, fresh)) in
        (mark.mark, buffer_header sum u.parts.site u.parts.bytes its mark (omega (arith, small)))))

  -- A further segment is begun.
  pub running_next : AreSlots m.tip m.slots → (stable : ℕ)
      → Hides sum size s (handed_out (line_end size line) m) (next_line sum size m stable line) least base H
  running_next slots stable =
      let last = nth_segment size place line are (length vs) (last_of v vs) (last_get v vs) in
      hides_next sum size s least base H m v vs last.begins last.short (number_small size (last_of v vs).parts.site.place (last_of v vs) last) stable
      (next_free m slots) (next_within m slots) (add-mul-mod_self_right place (suc (length vs)) size ∙ begins) (omega (arith, some))
      (omega (arith, low)) hides

  -- A slot is freed whose segment ends at the mark's segment or below it.
  pub running_freed : (k : ℕ) → is_free (slot_at m k).state ≡ false → (slot_at m k).lsn + size ≤ base
      → Hides sum size s (freed size k m).machine line least base H
  running_freed k used below =
      hides_freed sum size some s m line base H first hides k used (line_end size line) own below (whole k used (omega (arith, below, low)))
      (stable_below reach H.batches) reach among.stands
