-- While the write of a sealed buffer of a segment of the line is under way each content that a crash may leave of the log file reads as one that it could leave
-- of what is shown, but for segments that are gone.
use Rattle.std.proofs.Common.{◌≡◌, ◌⊎◌, ◌∙◌, ◌<◌, ◌+◌, ◌*◌, ◌/◌, ◌%◌, ◌≤◌, ◌&&◌, not, ℕ, zero, suc, ℤ, pos, max, Some, true, false, List, [], ◌∷◌, ◌++◌, length, map, set, take, drop, get_or, refl, sym, ap, subst, arith, inl, inr}
use Rattle.std.specs.List.{All, slice_get}
use Rattle.std.proofs.Math.Nat.{mul-mod_left}
use Rattle.std.proofs.lemmas.Bool.{and_from, cases_eq, or_left, or_right}
use Rattle.std.proofs.lemmas.List.{take-take}
use Rattle.std.proofs.lemmas.List.Elements.{All-drop, All-take}
use Rattle.sled_codec.specs.History.{History}
use Rattle.sled_codec.specs.Places.{part}
use Rattle.sled_codec.specs.Record.{IsHeader}
use Rattle.sled_codec.specs.Snapshots.{SnapshotModel}
use Rattle.sled_store.specs.Device.{Event, LeavesLog, LogState, State, Synced, Wrote, at_rest, log_step, overwritten, step}
use Rattle.sled_store.specs.Foreign.{HeaderWasPlaced, NoForeignLog, RecordWasPlaced}
use Rattle.sled_store.specs.SegmentStates.{Machine}
use Rattle.sled_store.specs.inside.Script.{Along}
use Rattle.sled_store.proofs.Crashes.StoodLemmas.{header_before, record_before}
use Rattle.sled_core.specs.Begun.{SegmentView}
use Rattle.sled_core.specs.Logged.{logged}
use Rattle.sled_core.specs.Recoverable.{NoHeaderOfZeros}
use Rattle.sled_core.specs.SealedBuffers.{bytes_between, sealed_count, sealed_end}
use Rattle.sled_core.specs.declared.iobuf.Reserved.{Reserved}
use Rattle.sled_core.specs.declared.iobuf.Sealed.{Sealed}
use Rattle.sled_core.specs.inside.Begun.{line_end}
use Rattle.sled_core.specs.Scan.{IsEnd, IsPath}
use Rattle.sled_core.specs.inside.Buffers.{Stands, records_end, records_of}
use Rattle.sled_core.specs.inside.Cleared.{StandWritten, cleared, is_between, is_stale, is_unwritten_in}
use Rattle.sled_core.specs.inside.Fits.{begun_segment, parts_in}
use Rattle.sled_core.specs.inside.FreeSlots.{HasSlot, HaveOwn}
use Rattle.sled_core.specs.inside.Hides.{Hides, ReadsShown}
use Rattle.sled_core.specs.inside.Lasting.{LeavesRecovering}
use Rattle.sled_core.specs.inside.OwnLog.{HasOwnSlot, ReadsPlaced}
use Rattle.sled_core.specs.inside.Reached.{StandsAmong, StandsIn}
use Rattle.sled_core.specs.inside.Running.{NamesFit}
use Rattle.sled_core.specs.inside.SealedBuffers.{AreSealed, Laid, run_count, run_end}
use Rattle.sled_core.specs.inside.Slots.{AreWhole}
use Rattle.sled_core.specs.Tail.{least_place, tail_begins}
use Rattle.sled_core.specs.inside.Turned.{promoted, written_now}
use Rattle.sled_core.proofs.Freed.BesideReads.{header_beside}
use Rattle.sled_core.proofs.Cleared.Offsets.{LineRises, OthersBeside, between_is, zeroed_there}
use Rattle.sled_core.proofs.Cleared.Calls.{cleared_write}
use Rattle.sled_core.proofs.Freed.ClearedShows.{laid_shown, stale_in}
use Rattle.sled_core.proofs.Freed.FrontWritten.{front_leaves}
use Rattle.sled_core.proofs.Freed.Known.{WritesSlot}
use Rattle.sled_core.proofs.Freed.LeftOwn.{PlacesNumber}
use Rattle.sled_core.proofs.Freed.LeftRecovers.{KeepsHeaders, ReadsBy, leaves_as_shown, rest_recovers, shown_device}
use Rattle.sled_core.proofs.Line.Quiet.{quiet_shown, stands_each, waits}
use Rattle.sled_core.proofs.Line.Shown.{line_rises, others_beside}
use Rattle.sled_core.proofs.Freed.TornReads.{LeftReads, torn_reads}
use Rattle.sled_core.proofs.Freed.WriteLies.{lies_behind, lies_next}
use Rattle.sled_core.proofs.Freed.WriteSlots.{LiesIn, ReadsFrom}
use Rattle.sled_core.proofs.Line.PlacedWrite.{begins_so}
use Rattle.sled_core.proofs.Holds.Facts.{IsSegment}
use Rattle.sled_core.proofs.Line.Segments.{AreSegments, first_below, nth_segment}
use Rattle.sled_core.proofs.OwnLog.BufferPlaces.{buffer_places}
use Rattle.sled_core.proofs.OwnLog.NoneForeign.{WasPlaced}
use Rattle.sled_core.proofs.OwnLog.Placed.{asked_now}
use Rattle.sled_core.proofs.OwnLog.Starting.{file_synced}
use Rattle.sled_core.proofs.OwnLog.Zeroed.{own_read}
use Rattle.sled_core.proofs.Reached.BufferStands.{met_in}
use Rattle.sled_core.proofs.Reserve.Ranges.{there_split}
use Rattle.sled_core.proofs.Sealed.Ended.{ends_rise, ends_up}
use Rattle.sled_core.proofs.Sealed.LaidLemmas.{EndsRise}
use Rattle.sled_core.proofs.Sealed.OneWritten.{long, rises_at, sealed_at}
use Rattle.sled_core.proofs.Sealed.RecordsEnd.{records_why}
use Rattle.sled_core.proofs.Sealed.RunPath.{MeetsRun, meets_run}
use Rattle.sled_core.proofs.Tail.LogFileLemmas.{part_kept}
use Rattle.sled_core.proofs.Torn.TornLemmas.{after_write}
use Rattle.sled_core.proofs.Torn.WrittenBegun.{none_in_zeros}
use Rattle.sled_core.proofs.Torn.WrittenParts.{in_this_file, twenty}

-- A buffer that isn't written isn't, from its beginning to its end.
unwritten_at : (slot from : ℕ) (bs : List Sealed) (k : ℕ) (b : Sealed) (to i : ℕ) → slice_get bs k ≡ Some b → b.is_written ≡ false
    → slot + sealed_end from (take k bs) ≤ i → i < slot + b.end → is_unwritten_in slot from bs to i ≡ true
unwritten_at slot from [] k b to i there fresh low high = cc
unwritten_at slot from (x ∷ xs) zero b to i there fresh low high =
    let same : x ≡ b = cc in
    let ends : x.end ≡ b.end = ap (λ (y : Sealed). y.end) same in
    let none : x.is_written ≡ false = ap (λ (y : Sealed). y.is_written) same ∙ fresh in
    or_left (not x.is_written && is_between (slot + from) (slot + x.end) i) (is_unwritten_in slot x.end xs to i)
    (and_from (not x.is_written) (is_between (slot + from) (slot + x.end) i) (ap not none)
    (between_is (slot + from) (slot + x.end) i low (omega (arith, high, ends))))
unwritten_at slot from (x ∷ xs) (suc k) b to i there fresh low high =
    or_right (not x.is_written && is_between (slot + from) (slot + x.end) i) (is_unwritten_in slot x.end xs to i)
    (unwritten_at slot x.end xs k b to i there fresh low high)

-- One behind the first begins behind what is written.
behind_first : (from : ℕ) (bs : List Sealed) (k : ℕ) (b : Sealed) (to : ℕ) → EndsRise from bs to → slice_get bs (suc k) ≡ Some b
    → from < sealed_end from (take (suc k) bs)
behind_first from [] k b to rise there = cc
behind_first from (x ∷ xs) k b to rise there =
    let up = (rises_at x.end (take k xs) b (drop (suc k) xs) to (subst (λ (cs : List Sealed). EndsRise x.end cs to) (there_split xs k b there) rise.1)).0 in
    let first = rise.0 in
    omega (arith, up, first)

module _ (sum : List ℕ → ℕ) (none : NoHeaderOfZeros sum) (size : ℕ) (some : 256 ≤ size) (m : Machine) (v : SegmentView) (vs : List SegmentView)
    (are : AreSegments size v.parts.site.place (v ∷ vs))
    (taken : (n : ℕ) (u : SegmentView) → slice_get (v ∷ vs) n ≡ Some u → HasSlot size m u) (own : HaveOwn size (line_end size (v ∷ vs)) m)
    (s : State) (base : ℕ) (H : History) (first : SnapshotModel) (reach : ℕ) (hides : Hides sum size s m (v ∷ vs) (least_place size first) base H)
    (whole : AreWhole sum size (cleared size m (v ∷ vs) s.log.bytes) H v.parts.site.place m)
    {counts : ℕ} (among : StandsAmong sum counts size (cleared size m (v ∷ vs) s.log.bytes) v.parts.site v.parts.written_len (map begun_segment (map parts_in vs)) reach H first)
    (own_shown : (slot : ℕ) → HasOwnSlot sum size (HeaderWasPlaced s.placed) (RecordWasPlaced sum size s.placed) (cleared size m (v ∷ vs) s.log.bytes) slot)
    (held : base ≤ v.parts.site.place)
    -- the buffer of a segment
    (n : ℕ) (u : SegmentView) (at_n : slice_get (v ∷ vs) n ≡ Some u) (k : ℕ) (b : Sealed) (there : slice_get u.parts.sealed k ≡ Some b)
    (fresh : b.is_written ≡ false) (closed : b.open_count ≡ 0)
    (stand : All (Stands sum size (u.parts.site.place / size) u.parts.bytes) u.parts.reserved)
    (written : StandWritten s.log.bytes u.parts.site.slot u.parts.bytes u.parts.written_len u.parts.sealed)
    (begins : (u.parts.written_len ≡ 0) ⊎ (20 ≤ u.parts.written_len))
    (header : u.parts.written_len ≡ 0 → (mark : ℤ) × IsHeader sum (take 20 u.parts.bytes) (pos u.parts.site.place) mark) where
  abbrev line : List SegmentView
  line = v ∷ vs

  abbrev log : List ℕ
  log = s.log.bytes

  abbrev shown : List ℕ
  shown = cleared size m line log

  abbrev written_to : ℕ
  written_to = u.parts.written_len

  -- where it begins in the segment, and its bytes
  abbrev pub from : ℕ
  from = sealed_end written_to (take k u.parts.sealed)

  abbrev pub asked : List ℕ
  asked = bytes_between u.parts.bytes from b.end

  abbrev has : HasSlot size m u
  has = taken n u at_n

  abbrev slot : ℕ
  slot = has.number

  positive : 0 < size
  positive = omega (arith, some)

  rise_line : LineRises size line
  rise_line = line_rises size v.parts.site.place line are

  apart : OthersBeside size line n u
  apart = others_beside size positive m v.parts.site.place line are taken n u at_n

  facts : IsSegment size u.parts.site.place u
  facts = nth_segment size v.parts.site.place line are n u at_n

  rise : EndsRise written_to u.parts.sealed size
  rise = rise_line n u at_n

  split : u.parts.sealed ≡ take k u.parts.sealed ++ b ∷ drop (suc k) u.parts.sealed
  split = there_split u.parts.sealed k b there

  lies : (written_to ≤ from) × (from < b.end) × (b.end ≤ size)
  lies = rises_at written_to (take k u.parts.sealed) b (drop (suc k) u.parts.sealed) size (subst (λ (cs : List Sealed). EndsRise written_to cs size) split rise)

  held_bytes : b.end ≤ length u.parts.bytes
  held_bytes =
      let up = ends_up written_to u.parts.reserved u.parts.sealed facts.are in
      let begun = facts.begins in
      (rises_at written_to (take k u.parts.sealed) b (drop (suc k) u.parts.sealed) (length u.parts.bytes)
      (subst (λ (cs : List Sealed). EndsRise written_to cs (length u.parts.bytes)) split
      (ends_rise written_to u.parts.reserved u.parts.sealed (length u.parts.bytes) facts.are (omega (arith, up, begun)) begun))).2

  -- it is as long as it is in its segment
  ends : from + length asked ≡ b.end
  ends = long shown u.parts.site.slot u.parts.bytes written_to (take k u.parts.sealed) b (drop (suc k) u.parts.sealed) size
      (subst (λ (cs : List Sealed). EndsRise written_to cs size) split rise) held_bytes

  place_begins : u.parts.site.place % size ≡ 0
  place_begins = ap (λ x. x % size) (sym has.is) ∙ own.aligned has.number has.taken

  slot_begins : u.parts.site.slot % size ≡ 0
  slot_begins = ap (λ x. x % size) has.lies ∙ mul-mod_left has.number size

  short : written_to < size
  short = omega (arith, lies)

  its_stands : (records : ℕ) × StandsIn sum size shown (least_place size first) among.stands.scanned u.parts.site written_to records
  its_stands = stands_each sum none size some m v vs are taken own s H first reach whole among n u at_n

  -- What is shown there is zeros.
  clean : (i : ℕ) → slot * size + from ≤ i → i < slot * size + b.end → get_or shown i 0 ≡ 0
  clean i low high =
      let at_slot = has.lies in
      zeroed_there (is_stale size m line) log i
      (stale_in size positive m line log rise_line n u at_n has apart i (omega (arith, low, at_slot)) (omega (arith, high, at_slot, lies))
      ∙ unwritten_at u.parts.site.slot written_to u.parts.sealed k b size i there fresh (omega (arith, low, at_slot)) (omega (arith, high, at_slot)))

  -- The first of its segment's follows what is written.
  module _ (first_one : slice_get u.parts.sealed 0 ≡ Some b) where
    abbrev rest : List Sealed
    rest = drop 1 u.parts.sealed

    all : u.parts.sealed ≡ b ∷ rest
    all = there_split u.parts.sealed 0 b first_one

    abbrev its_asked : List ℕ
    its_asked = bytes_between u.parts.bytes written_to b.end

    abbrev done : List Reserved
    done = take (b.count + run_count rest) u.parts.reserved

    run : MeetsRun sum size shown (overwritten shown (u.parts.site.slot + written_to) its_asked) u.parts.site u.parts.bytes written_to b.end done
        (run_end b.end rest)
    run = meets_run sum size shown u.parts.site place_begins slot_begins facts.place_small facts.slot_small u.parts.bytes written_to
        u.parts.reserved b rest fresh closed
        (subst (λ (cs : List Sealed). AreSealed written_to u.parts.reserved cs) all facts.are)
        (subst (λ (cs : List Sealed). EndsRise written_to cs size) all rise)
        held_bytes stand
        (subst (λ (cs : List Sealed). Laid shown u.parts.site.slot u.parts.bytes written_to cs size) all
        (laid_shown size positive m line log rise_line n u at_n has apart written))

    on : ReadsFrom sum size (overwritten shown (slot * size + written_to) its_asked) slot u.parts.site.place (max 20 written_to) b.end
    on = record {
      more = met_in u.parts.site u.parts.bytes (records_of done);
      stop = records_end done (run_end b.end rest);
      why = records_why size done (run_end b.end rest);
      clear = run.clear;
      path = subst (λ x. IsPath sum size (overwritten shown (x + written_to) its_asked) x u.parts.site.place (max 20 written_to)
          (met_in u.parts.site u.parts.bytes (records_of done)) (records_end done (run_end b.end rest))) has.lies run.path;
      end = subst (λ x. IsEnd sum size (overwritten shown (x + written_to) its_asked) x u.parts.site.place (records_end done (run_end b.end rest))
          (records_why size done (run_end b.end rest))) has.lies run.ends;
    }

    first_header : written_to ≡ 0 → (mark : ℤ) × IsHeader sum (take 20 its_asked) (pos u.parts.site.place) mark
    first_header zero_written =
        let h = header zero_written in
        let same : take 20 its_asked ≡ take 20 u.parts.bytes =
        ap (λ x. take 20 (drop x (take b.end u.parts.bytes))) zero_written ∙ take-take 20 b.end u.parts.bytes (run.headed zero_written) in
        (h.0, subst (λ (l : List ℕ). IsHeader sum l (pos u.parts.site.place) h.0) (sym same) h.1)

    first_lies : LiesIn sum size shown slot written_to its_asked u.parts.site.place b.end
    first_lies = lies_next sum size shown
        (least_place size first) among.stands.ordering among.stands.numbers among.stands.scanned among.stands.reads u.parts.site slot
        has.lies written_to its_stands.0 its_stands.1 short its_asked b.end first_header on

  -- Another one lies behind a gap.
  none_waiting : written_to ≡ 0 → (lsn mark : ℤ) → IsHeader sum (part shown (slot * size) 20) lsn mark → ⊥
  none_waiting zero_written = none_in_zeros sum 20 none (omega arith) shown (slot * size) (λ i low high.
      let at_slot = has.lies in
      zeroed_there (is_stale size m line) log i
      (stale_in size positive m line log rise_line n u at_n has apart i (omega (arith, low, at_slot)) (omega (arith, high, at_slot, some))
      ∙ waits sum none size some m v vs are taken own n u at_n zero_written i (omega (arith, low, at_slot)) (omega (arith, high, at_slot))))

  from_begins : (from ≡ 0) ⊎ (20 ≤ from)
  from_begins = begins_so written_to u.parts.reserved u.parts.sealed facts.are begins k

  lies_in : (j : ℕ) → slice_get u.parts.sealed j ≡ Some b
      → LiesIn sum size shown slot (sealed_end written_to (take j u.parts.sealed))
      (bytes_between u.parts.bytes (sealed_end written_to (take j u.parts.sealed)) b.end)
      u.parts.site.place b.end
  lies_in zero there_j = first_lies there_j
  lies_in (suc j) there_j =
      let gap = behind_first written_to u.parts.sealed j b size rise there_j in
      let far : 20 ≤ sealed_end written_to (take (suc j) u.parts.sealed) =
      elim (begins_so written_to u.parts.reserved u.parts.sealed facts.are begins (suc j)) [
        | inl at_zero ↦ absurd (omega (arith, at_zero, gap))
        | inr far ↦ far
      ] in
      lies_behind sum size shown (least_place size first) among.stands.ordering among.stands.numbers among.stands.scanned among.stands.reads u.parts.site slot
      has.lies written_to its_stands.0 its_stands.1 short (sealed_end written_to (take (suc j) u.parts.sealed))
      (bytes_between u.parts.bytes (sealed_end written_to (take (suc j) u.parts.sealed)) b.end) b.end far (inl gap) none_waiting

  -- It places records of its segment's number.
  number_placed : PlacesNumber sum size (u.parts.site.slot + from) asked (u.parts.site.place / size)
  number_placed =
      let behind : ℕ = sealed_count (take k u.parts.sealed) in
      λ number lid text laid kind page body is. (buffer_places sum size u.parts.site slot_begins facts.place_small u.parts.bytes from b.end
      (omega (arith, lies)) held_bytes (omega (arith, lies)) from_begins
      (take b.count (drop behind u.parts.reserved))
      (sealed_at written_to u.parts.reserved (take k u.parts.sealed) b (drop (suc k) u.parts.sealed)
      (subst (λ (cs : List Sealed). AreSealed written_to u.parts.reserved cs) split facts.are)).chain
      (All-take (Stands sum size (u.parts.site.place / size) u.parts.bytes) b.count (drop behind u.parts.reserved)
      (All-drop (Stands sum size (u.parts.site.place / size) u.parts.bytes) behind u.parts.reserved stand))
      (asked_now (u.parts.site.slot + from) asked) refl refl number lid text laid kind page body is).0

  reads_now : ReadsShown sum size m shown log
  reads_now = quiet_shown sum none size some m v vs are taken own s H first reach whole among

  -- What is shown once the buffer is written is read of bytes that count, too.
  module _ (after : ReadsShown sum size m (cleared size m (promoted size (set line n (written_now k u))) (overwritten log (u.parts.site.slot + from) asked))
      (overwritten log (u.parts.site.slot + from) asked)) where
    reads_after : ReadsShown sum size m (overwritten shown (u.parts.site.slot + from) asked) (overwritten log (u.parts.site.slot + from) asked)
    reads_after = subst (λ (l : List ℕ). ReadsShown sum size m l (overwritten log (u.parts.site.slot + from) asked))
        (cleared_write size m line log n u at_n k b there has rise_line apart asked ends) after

    abbrev Torn : ℕ → Type 0
    Torn x = (now left : List ℕ) → length now ≤ length asked → LeavesLog (after_write log (x + from) asked now) left
        → NoForeignLog sum size (after_write log (x + from) asked now) (asked_now (x + from) asked ∷ s.placed) left
        → (c : ℕ) × LeftReads sum size s shown (x + from) asked now left H (least_place size first) base c

    torn_there : Torn (slot * size)
    torn_there now left no_more leaves only_own =
        let at_slot = has.lies in
        let small = facts.slot_small in
        let low = first_below size v.parts.site.place line are n u at_n in
        let w : WritesSlot sum size s m line (least_place size first) base H slot from asked u.parts.site.place b.end = record {
          known = record { some = some; hides = hides; reads = reads_now; own = own_shown };
          inside = omega (arith, ends, lies);
          reach = omega (arith, small, at_slot);
          taken = has.taken;
          its = has.is;
          held = omega (arith, held, low);
          places = subst (λ x. PlacesNumber sum size (x + from) asked (u.parts.site.place / size)) at_slot number_placed;
          covers = omega (arith, ends);
          clean = clean;
          reads_after =
              subst (λ x. ReadsShown sum size m (overwritten shown (x + from) asked) (overwritten log (x + from) asked)) at_slot reads_after;
        } in
        torn_reads none w (lies_in k there) (record { no_more = no_more; leaves = leaves; only_own = only_own })

    -- What a crash leaves of the write reads as what was shown, with the first bytes of the write.
    pub torn_line_reads : Torn u.parts.site.slot
    torn_line_reads = subst Torn (sym has.lies) torn_there

    -- It is so of each content that a crash may leave of the device while the write isn't synced.
    module _ (rest : s.log ≡ at_rest log) where
      abbrev shown_now : State
      shown_now = shown_device size m line s

      abbrev at : ℕ
      at = u.parts.site.slot + from

      -- the state behind the write and a sync, and the segments that are left of the line
      abbrev pub behind : State
      behind = step Synced (step (Wrote at asked asked) s)

      abbrev pub line_behind : List SegmentView
      line_behind = promoted size (set line n (written_now k u))

      -- Each header that is shown stands where all is written.
      headers_at_slot : KeepsHeaders sum size shown (overwritten shown (slot * size + from) asked)
      headers_at_slot j p mark is = elim (cases_eq j slot) [
        | inr other ↦ header_beside sum size some shown slot from asked asked (overwritten shown (slot * size + from) asked) (omega (arith, ends, lies))
            (omega arith) (front_leaves shown (slot * size + from) asked asked asked (omega arith)) j other (pos p) mark is
        | inl here ↦ subst (λ i. part (overwritten shown (slot * size + from) asked) (i * size) 20 ≡ part shown (i * size) 20) (sym here)
            (in_its_slot p mark (subst (λ i. IsHeader sum (part shown (i * size) 20) (pos p) mark) here is))
      ] where
        in_its_slot : (p : ℕ) (mark : ℤ) → IsHeader sum (part shown (slot * size) 20) (pos p) mark
            → part (overwritten shown (slot * size + from) asked) (slot * size) 20 ≡ part shown (slot * size) 20
        in_its_slot p mark header = elim from_begins [
          | inl begin ↦ absurd (none_waiting (omega (arith, lies, begin)) (pos p) mark header)
          | inr far ↦ (
              let inside = in_this_file sum size shown shown (slot * size) 20 (omega arith) (twenty sum size shown (slot * size) (pos p) mark header) refl in
              part_kept sum size shown (slot * size + from) asked (slot * size) 20 inside (inl (omega (arith, far))))
        ]

      headers_still : KeepsHeaders sum size shown (overwritten shown at asked)
      headers_still = subst (λ i. KeepsHeaders sum size shown (overwritten shown (i + from) asked)) (sym has.lies) headers_at_slot

      pub torn_device_reads : (now left : List ℕ) → length now ≤ length asked → LeavesLog (step (Wrote at asked now) s).log left
          → NoForeignLog sum size (step (Wrote at asked now) s).log (step (Wrote at asked now) s).placed left
          → (front : List ℕ) × LeavesLog (step (Wrote at asked now) shown_now).log front
          × NoForeignLog sum size (step (Wrote at asked now) shown_now).log (step (Wrote at asked now) shown_now).placed front
          × ReadsBy sum size s shown (least_place size first) base H front left
      torn_device_reads now left no_more leaves only_own =
          let r = torn_line_reads now left no_more (subst (λ (l : LogState). LeavesLog (log_step (Wrote at asked now) l) left) rest leaves)
          (subst (λ (l : LogState). NoForeignLog sum size (log_step (Wrote at asked now) l) (asked_now at asked ∷ s.placed) left) rest only_own) in
          (overwritten shown at (take r.0 asked), r.1.leaves, r.1.own, r.1.reads)

      -- So all that it may leave can be recovered where it can of what is shown: for a history of which the log has the same, from the snapshot of the log.
      module _ (tail : base ≤ tail_begins size (least_place size first) among.stands.ordering) (R : History) (same : logged H ≡ logged R) (K : History) (f : ℕ)
          (names : NamesFit sum size s.snapshots K f first) (A g : ℕ) where
        abbrev Recovers : State → Type 0
        Recovers = LeavesRecovering sum size R A g

        pub torn_recovers : (now : List ℕ) → length now ≤ length asked → Recovers (step (Wrote at asked now) shown_now) → Recovers (step (Wrote at asked now) s)
        torn_recovers now no_more =
            leaves_as_shown sum size some s m line first base H hides reads_now (line_end size line) own shown among.stands.ordering among.stands.numbers
            among.stands.marks tail R same (step (Wrote at asked now) s) (step (Wrote at asked now) shown_now) refl refl K f names
            (λ left. torn_device_reads now left no_more) A g

        -- Before the write it is so, too.
        pub still_recovers : Recovers shown_now → Recovers s
        still_recovers =
            rest_recovers sum size some s m line first base H hides reads_now (line_end size line) own shown among.stands.ordering among.stands.numbers
            among.stands.marks tail R same rest (λ k p mark is. refl) shown_now refl refl refl
            (λ slot. own_read sum size (HeaderWasPlaced s.placed) (RecordWasPlaced sum size s.placed) shown slot (own_shown slot)) K f names A g

        -- The write is done and synced: what the file hides then is what it may, and nothing is foreign in what is shown of it.
        module _ (hides_behind : Hides sum size behind m line_behind (least_place size first) base H)
            (own_behind : (j : ℕ) → WasPlaced sum size behind.placed (cleared size m line_behind behind.log.bytes) j) where
          abbrev asked_shown : State
          asked_shown = step (Wrote at asked asked) shown_now

          written_over : cleared size m line_behind behind.log.bytes ≡ overwritten shown at asked
          written_over = cleared_write size m line log n u at_n k b there has rise_line apart asked ends

          own_asked : ReadsPlaced sum size asked_shown
          own_asked j =
              let its = subst (λ (l : List ℕ). WasPlaced sum size behind.placed l j) written_over (own_behind j) in record {
                header = λ lsn mark is. header_before (overwritten log at asked) (asked_now at asked ∷ s.placed) (j * size)
                    (part (overwritten shown at asked) (j * size) 20) (its.header lsn mark is);
                records = λ lsn mark here len is r.
                    record_before sum size (overwritten log at asked) (asked_now at asked ∷ s.placed) (lsn / size) (j * size + here)
                    (part (overwritten shown at asked) (j * size + here) len) (its.records lsn mark here len is r);
              }

          stays_behind : KeepsHeaders sum size shown (cleared size m line_behind behind.log.bytes)
          stays_behind = subst (KeepsHeaders sum size shown) (sym written_over) headers_still

          pub behind_recovers : Recovers (step Synced asked_shown) → Recovers behind
          behind_recovers =
              rest_recovers sum size some behind m line_behind first base H hides_behind after (line_end size line) own shown among.stands.ordering
              among.stands.numbers among.stands.marks tail R same refl stays_behind (step Synced asked_shown) (ap at_rest (sym written_over)) refl refl
              (λ j. subst (λ (l : List ℕ). WasPlaced sum size (step Synced asked_shown).placed l j) (sym written_over)
              (file_synced sum size none (omega (arith, some)) asked_shown own_asked j)) K f names A g

          -- So it is at each moment of the calls where it is so of what is shown.
          pub along_shown : Along Recovers (Wrote at asked asked ∷ Synced ∷ []) shown_now → Along Recovers (Wrote at asked asked ∷ Synced ∷ []) s
          along_shown (before, torn, (during, none_tear, last)) = (
            still_recovers before,
            λ event tears. subst (λ (e : Event). Recovers (step e s)) (sym tears.2)
                (torn_recovers tears.0 tears.1 (subst (λ (e : Event). Recovers (step e shown_now)) tears.2 (torn event tears))),
            (torn_recovers asked (omega arith) during, λ event tears. absurd tears, behind_recovers last),
          )
