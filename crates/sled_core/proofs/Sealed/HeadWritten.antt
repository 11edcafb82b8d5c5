-- The write of the first sealed buffer, where no other segment that is found has the number of the current one: what a crash leaves of it stands up to what was written before, and all of it up to where the reading of the segment ends. That may be behind later buffers, which were written before it.
use Rattle.std.proofs.Common.{◌≡◌, ◌≢◌, ◌⊎◌, ◌≤◌, ◌<◌, ◌<ℤ◌, ◌-◌, ◌+◌, ◌*◌, ◌/◌, ◌%◌, ◌^◌, ℕ, ℤ, pos, negsuc, lt→ltb, max, List, [], ◌++◌, length, get_or, refl, sym, subst, arith, inl, inr}
use Rattle.std.specs.List.{Contains}
use Rattle.std.proofs.Math.Nat.{mod-add-div'}
use Rattle.std.proofs.lemmas.Bool.{cases_eq, cases_lt}
use Rattle.sled_codec.specs.Places.{part}
use Rattle.sled_codec.specs.Record.{IsHeader}
use Rattle.sled_codec.specs.History.{History}
use Rattle.sled_codec.specs.Snapshots.{SnapshotModel}
use Rattle.sled_store.specs.Device.{overwritten, LeavesLog, Placement}
use Rattle.sled_store.specs.Foreign.{NoForeignLog}
use Rattle.sled_store.proofs.Histories.Ascending.{Ascends}
use Rattle.sled_core.specs.Begun.{records_to}
use Rattle.sled_core.specs.OpenBatches.{stable_below}
use Rattle.sled_core.specs.declared.iobuf.SegmentPosition.{SegmentPosition}
use Rattle.sled_core.specs.declared.iterator.Segment.{Segment}
use Rattle.sled_core.specs.declared.iterator.scan.ScannedRecord.{ScannedRecord}
use Rattle.sled_core.specs.declared.iterator.scan.ScanEnd.{ScanEnd}
use Rattle.sled_core.specs.declared.iterator.scan.ScanEnd.TheVariants.{Broken}
use Rattle.sled_core.specs.inside.Fits.{HasMark}
use Rattle.sled_core.specs.LogFile.{HasHeader}
use Rattle.sled_core.specs.inside.Reached.{BeginsNext, BeginsOne, BegunSegment, GoesOnIn, IsReadTo, IsSoFar, ReachesIn, StandsAmong, StandsIn}
use Rattle.sled_core.specs.inside.Recoverable.{NothingBehind, NoMessageBegins, NoBatchBegins, NoBatchEnds, IsOfHistory}
use Rattle.sled_core.specs.Recoverable.{NoHeaderOfZeros}
use Rattle.sled_core.specs.inside.Scan.{IsFoundSegment}
use Rattle.sled_core.specs.Scan.{IsPath, IsEnd, IsScan}
use Rattle.sled_core.specs.Tail.{Scanned, IsScanned, least_place}
use Rattle.sled_core.proofs.Read.FoundLemmas.{pos_injective}
use Rattle.sled_core.proofs.Reached.BufferPath.{buffer_header, buffer_mark_below}
use Rattle.sled_core.proofs.Reached.Higher.{IsBegunOrLedTo, known_in}
use Rattle.sled_core.proofs.Reached.LeftBeside.{IsSameBeside}
use Rattle.sled_core.proofs.Reached.OneWrite.{BeginsSegment, torn_stands, written_stands}
use Rattle.sled_core.proofs.Reached.Marks.{less_than, mark_stable}
use Rattle.sled_core.specs.inside.Full.{StandsFull}
use Rattle.sled_core.proofs.Reached.SegmentsBeside.{follows, going_in, its_header, its_place_now, segment_grown, segment_stays}
use Rattle.sled_core.proofs.Reached.StandsTo.{StandsFrom, StandsTo}
use Rattle.sled_core.proofs.Reached.WrittenWhole.{same_whole}
use Rattle.sled_codec.specs.Coords.{raised}
use Rattle.sled_core.proofs.Tail.Multiples.{next_multiple, one_multiple}
use Rattle.sled_core.proofs.Tail.OneTail.{segment_there}
use Rattle.sled_core.proofs.Torn.TornLemmas.{after_write}
use Rattle.sled_core.proofs.Torn.WrittenBegun.{none_in_zeros}
use Rattle.sled_core.proofs.Torn.WrittenParts.{path_rises, path_whole, paths_joined}
use Rattle.sled_core.proofs.Torn.WrittenRecords.{AreClear}

-- a reader is led to the current segment
pub led_in : (sum : List ℕ → ℕ) (size : ℕ) (log : List ℕ) (site : SegmentPosition) (from reach : ℕ) (H : History) (first : SnapshotModel) {others : List BegunSegment} {held : ℕ} (alone : StandsAmong sum held size log site from others reach H first)
    → IsBegunOrLedTo size alone.stands.scanned (least_place size first) reach site.place
led_in sum size log site from reach H first alone = elim alone.led [
  | inl below ↦ inl below
  | inr (inl low) ↦ inr (inl low)
  | inr (inr l) ↦ inr (inr (record { scan = l.scan; there = known_in sum size log H (stable_below reach H.batches) first reach alone.stands l.scan l.found l.read; next = l.next; goes = l.goes; below = l.below }))
]

-- What was met of the current segment before, in a file that is the same up to what was written.
pub met_before : (sum : List ℕ → ℕ) (size : ℕ) (old new : List ℕ) (site : SegmentPosition) (from reach : ℕ) (H : History) (first : SnapshotModel) {others : List BegunSegment} {held : ℕ} (alone : StandsAmong sum held size old site from others reach H first) → from + 32 ≤ size
    → ((met : List ScannedRecord) → IsPath sum size old site.slot site.place 20 met from → IsPath sum size new site.slot site.place 20 met from)
    → (met : List ScannedRecord) × IsPath sum size new site.slot site.place 20 met (max 20 from)
unfolding IsScan
met_before sum size old new site from reach H first alone has_room stays = elim (cases_lt 0 from) [
  | inl later ↦ (
      let g = going_in sum size old (least_place size first) alone.stands.scanned site from alone.here later has_room in
      let scan = (segment_there sum size old alone.stands.ordering alone.stands.scanned alone.stands.reads g.scan g.there).1 in
      let path : IsPath sum size old site.slot site.place 20 g.scan.met from =
      subst (λ n. IsPath sum size old n site.place 20 g.scan.met from) g.in_slot
      (subst (λ n. IsPath sum size old g.scan.segment.slot n 20 g.scan.met from) g.at_place (subst (λ n. IsPath sum size old g.scan.segment.slot g.scan.segment.place 20 g.scan.met n) g.ended scan.0)) in
      let rises = path_rises sum size old site.slot site.place 20 g.scan.met from path in
      let far : from ≡ max 20 from = omega (arith, rises) in
      (g.scan.met, subst (λ n. IsPath sum size new site.slot site.place 20 g.scan.met n) far (stays g.scan.met path)))
  | inr first_one ↦ ([], omega (arith, first_one))
]

-- Where nothing of a segment is written, what was reached ends there where it begins, or before.
pub reached_first : (size : ℕ) (H : History) (place from reach : ℕ) → from ≡ 0 → ReachesIn size H place from reach → (reach ≡ place) ⊎ BeginsNext size H reach place
reached_first size H place from reach begins (inl at) = inl (omega (arith, at, begins))
reached_first size H place from reach begins (inr next) = inr next.1

-- and it never lies behind what is written
pub reached_near : (size : ℕ) (H : History) (place from reach : ℕ) → ReachesIn size H place from reach → reach ≤ place + from
reached_near size H place from reach (inl at) = omega (arith, at)
reached_near size H place from reach (inr next) = let above = next.1.above in omega (arith, above)

-- a mark that lies below a place lies below a higher one
pub mark_under : (mark : ℤ) (low high : ℕ) → low ≤ high → ((n : ℕ) → mark ≡ pos n → n < low) → mark <ℤ pos high
mark_under (pos n) low high le below = let under = below n refl in omega (arith, lt→ltb, le, under)
mark_under (negsuc n) low high le below = omega arith

module _ (sum : List ℕ → ℕ) (none : NoHeaderOfZeros sum) (size : ℕ) (some : 256 ≤ size) (old : List ℕ) (site : SegmentPosition) (from : ℕ) (asked : List ℕ)
    (until : ℕ) (covers : from + length asked ≤ until) (reaches : until ≤ size) (headed : from ≡ 0 → 20 ≤ until) (has_room : from + 32 ≤ size)
    (place_begins : site.place % size ≡ 0) (slot_begins : site.slot % size ≡ 0) (place_small : site.place + size < 2 ^ 63)
    {H : History} (header : from ≡ 0 → HasMark sum site asked H)
    (clean : (i : ℕ) → site.slot + from ≤ i → i < site.slot + until → get_or old i 0 ≡ 0)
    {others : List BegunSegment} (reach : ℕ) (first : SnapshotModel) {held : ℕ} (alone : StandsAmong sum held size old site from others reach H first)
    (more : List ScannedRecord) (stop : ℕ) (why : ScanEnd) (clear : AreClear size until (max 20 from) more)
    (path : IsPath sum size (overwritten old (site.slot + from) asked) site.slot site.place (max 20 from) more stop) (end : IsEnd sum size (overwritten old (site.slot + from) asked) site.slot site.place stop why)
    (truth : (x : ScannedRecord) → Contains more x → IsOfHistory sum size (overwritten old (site.slot + from) asked) H x)
    (caps : NothingBehind size H site.place stop why) where
  abbrev new : List ℕ
  new = overwritten old (site.slot + from) asked

  -- the number of its slot
  abbrev slot : ℕ
  slot = site.slot / size

  its_slot : slot * size ≡ site.slot
  its_slot = omega (arith, mod-add-div' site.slot size, slot_begins)

  inside : from + length asked ≤ size
  inside = omega (arith, covers, reaches)

  -- The segment goes on where it was read to, or the buffer begins it, in a slot of zeros.
  goes_on : GoesOnIn alone.stands.scanned (slot * size) from site.place ⊎ BeginsSegment sum size H alone.stands.ordering (stable_below reach H.batches) (slot * size) from asked site.place
  goes_on = elim (cases_lt 0 from) [
    | inl later ↦ inl (subst (λ n. GoesOnIn alone.stands.scanned n from site.place) (sym its_slot) (going_in sum size old (least_place size first) alone.stands.scanned site from alone.here later has_room))
    | inr first_one ↦ (
        let begins : from ≡ 0 = omega (arith, first_one) in
        let far = headed begins in
        let at : (reach ≡ site.place) ⊎ BeginsNext size H reach site.place = reached_first size H site.place from reach begins alone.reached in
        let m = header begins in
        inr (record {
          begins = begins;
          mark = m.mark;
          header = buffer_header sum site asked H m (omega (arith, place_small));
          whole = place_begins;
          fits = place_small;
          its_mark = record { least = m.of_history.least; below = m.of_history.below; apart = m.of_history.apart };
          mark_below = mark_stable size H reach m.mark m.of_history.apart (buffer_mark_below size H reach site.place m.mark at m.of_history.below);
          alone = λ s there same.
              let found = (alone.stands.numbers.found s).0 there in
              none_in_zeros sum until none far old site.slot (λ i above below. clean i (omega (arith, above, begins)) below) (pos s.place) s.mark
              (subst (λ n. IsHeader sum (part old n 20) (pos s.place) s.mark) (alone.here.only s found same) found.header);
        }))
  ]

  clean_there : (i : ℕ) → slot * size + from ≤ i → i < slot * size + until → get_or old i 0 ≡ 0
  clean_there i above below = clean i (omega (arith, its_slot, above)) (omega (arith, its_slot, below))

  path_there : IsPath sum size (overwritten old (slot * size + from) asked) (slot * size) site.place (max 20 from) more stop
  path_there = subst (λ n. IsPath sum size (overwritten old (n + from) asked) n site.place (max 20 from) more stop) (sym its_slot) path

  end_there : IsEnd sum size (overwritten old (slot * size + from) asked) (slot * size) site.place stop why
  end_there = subst (λ n. IsEnd sum size (overwritten old (n + from) asked) n site.place stop why) (sym its_slot) end

  truth_there : (x : ScannedRecord) → Contains more x → IsOfHistory sum size (overwritten old (slot * size + from) asked) H x
  truth_there = subst (λ n. (x : ScannedRecord) → Contains more x → IsOfHistory sum size (overwritten old (n + from) asked) H x) (sym its_slot) truth

  -- What a crash leaves of it.
  pub torn_head : (now left : List ℕ) → length now ≤ length asked → LeavesLog (after_write old (site.slot + from) asked now) left → {placed : List Placement}
      → NoForeignLog sum size (after_write old (site.slot + from) asked now) placed left → StandsTo sum size left H (stable_below reach H.batches) first reach
  torn_head now left no_more leaves {placed} only_own =
      torn_stands sum none size some old slot from asked inside until covers clean_there H (stable_below reach H.batches) first reach alone.stands site.place goes_on more stop why clear path_there end_there truth_there caps now left no_more
      (subst (λ n. LeavesLog (after_write old (n + from) asked now) left) (sym its_slot) leaves)
      (subst (λ n. NoForeignLog sum size (after_write old (n + from) asked now) placed left) (sym its_slot) only_own)

  -- All of it, where the file reaches up to the slot.
  module _ (ordered : Ascends H.messages) (there : site.slot ≤ length old) (low : least_place size first ≤ site.place)
      (has_header : HasHeader sum new site) where
    rises : max 20 from ≤ stop
    rises = path_rises sum size new site.slot site.place (max 20 from) more stop path

    near : reach ≤ site.place + from
    near = reached_near size H site.place from reach alone.reached

    -- Nothing begins between what was reached and the segment.
    between : NoMessageBegins H reach site.place
    between = elim alone.reached [
      | inl at ↦ λ m at_m. elim (cases_lt m.place reach) [ inl lower ↦ inl lower | inr above ↦ inr (omega (arith, above, at)) ]
      | inr next ↦ next.1.no_message
    ]

    stands_from : StandsFrom sum size new H (stable_below (site.place + stop) H.batches) first (site.place + stop) alone.stands.from
    stands_from =
        subst (λ n. StandsFrom sum size (overwritten old (n + from) asked) H (stable_below (site.place + stop) H.batches) first (site.place + stop) alone.stands.from) its_slot
        (written_stands sum none size some old slot from asked inside until covers clean_there H (stable_below reach H.batches) first reach alone.stands site.place goes_on more stop why clear path_there end_there truth_there caps
        ordered (omega (arith, its_slot, there)) low (omega arith) (omega (arith, rises, near)) (led_in sum size old site from reach H first alone) between)

    stands : StandsTo sum size new H (stable_below (site.place + stop) H.batches) first (site.place + stop)
    stands = stands_from.0

    low_from : stands.from ≤ held
    unfolding stands
    low_from = let same = stands_from.1 in let low = alone.low in omega (arith, same, low)

    -- It is read to where the path ends.

    before : (met : List ScannedRecord) × IsPath sum size new site.slot site.place 20 met (max 20 from)
    before = met_before sum size old new site from reach H first alone has_room (λ met is. path_whole sum size old (site.slot + from) asked site.slot site.place slot_begins 20 met from (inl (omega arith)) is)

    abbrev y : Scanned
    y = record { segment = record { place = site.place; slot = site.slot; mark = has_header.mark }; met = before.0 ++ more; stop = stop; why = why }

    y_scan : IsScanned sum size new y
    unfolding IsScan
    y_scan = (paths_joined sum size new site.slot site.place 20 before.0 (max 20 from) more stop before.1 path, end)

    y_found : IsFoundSegment sum size new (least_place size first) y.segment
    y_found = record { slot = slot_begins; header = has_header.header; not_below = low }

    read : IsReadTo stands.scanned site.slot site.place stop why
    read = record { scan = y; there = known_in sum size new H (stable_below (site.place + stop) H.batches) first (site.place + stop) stands y y_found y_scan; in_slot = refl; at_place = refl; ended = refl; ends = refl }

    stays : (other : SegmentPosition) (so_far : ℕ) → other.slot ≢ site.slot → other.place ≢ site.place → {records : ℕ} → StandsIn sum size old (least_place size first) alone.stands.scanned other so_far records → StandsIn sum size new (least_place size first) stands.scanned other so_far records
    stays other so_far apart behind = segment_stays sum size some old site.slot slot_begins from asked inside there H (stable_below reach H.batches) first reach alone.stands (stable_below (site.place + stop) H.batches) (site.place + stop) stands other so_far site.place apart behind
        (its_place_now sum size some old site.slot slot_begins from asked inside there H (stable_below reach H.batches) first reach alone.stands (stable_below (site.place + stop) H.batches) (site.place + stop) stands site from refl alone.here has_header)

    grown : (so_far : ℕ) → IsSoFar size so_far stop why → StandsIn sum size new (least_place size first) stands.scanned site so_far 0
    grown so_far far = segment_grown sum size some old site.slot slot_begins from asked inside there H (stable_below reach H.batches) first reach alone.stands (stable_below (site.place + stop) H.batches) (site.place + stop) stands site from refl alone.here has_header so_far 0 stop why read far (λ same. omega arith)

    its_header_now : (s : Segment) → IsFoundSegment sum size new (least_place size first) s → s.slot ≡ site.slot → (pos s.place ≡ pos site.place) × (s.mark ≡ has_header.mark)
    its_header_now = its_header sum size some old site.slot slot_begins from asked inside there H (stable_below reach H.batches) first reach alone.stands (stable_below (site.place + stop) H.batches) (site.place + stop) stands site from refl alone.here has_header

    beside : IsSameBeside sum size old new site.slot
    beside = subst (λ n. IsSameBeside sum size old (overwritten old (n + from) asked) n) its_slot (same_whole sum size some old slot from asked inside (omega (arith, its_slot, there)))

    -- None lies behind it, but for the others.
    last : (s : Segment) → IsFoundSegment sum size new (least_place size first) s → (s.place ≤ site.place) ⊎ BeginsOne others s.place
    last s found = elim (cases_eq s.slot site.slot) [
      | inl here ↦ inl (let same = pos_injective s.place site.place (its_header_now s found here).0 in omega (arith, same))
      | inr other ↦ alone.last s (beside.found (least_place size first) s other found)
    ]

    -- And no mark lies behind what is written now.
    below : (s : Segment) → IsFoundSegment sum size new (least_place size first) s → s.mark <ℤ pos (site.place + stop)
    below s found = elim (cases_eq s.slot site.slot) [
      | inl here ↦
          subst (λ z. z <ℤ pos (site.place + stop)) (sym (its_header_now s found here).1) (mark_under has_header.mark site.place (site.place + stop) (omega arith) has_header.below)
      | inr other ↦ less_than s.mark (site.place + from) (site.place + stop) (omega (arith, rises)) (alone.below s (beside.found (least_place size first) s other found))
    ]

    others_stay : (x : BegunSegment) → Contains others x → StandsIn sum size new (least_place size first) stands.scanned x.site x.from (records_to x.filled size)
    others_stay x among = let apart = follows site others alone.apart x among in stays x.site x.from apart.1 (λ at. let low = apart.0 in omega (arith, at, low)) (alone.behind x among)

    pub head_written : (stop + 32 ≤ size → why ≡ Broken) → StandsAmong sum held size new site stop others (site.place + stop) H first
    head_written broken = record {
      stands = stands;
      low = low_from;
      reached = inl refl;
      led = inl (omega (arith, rises));
      here = grown stop (inl (refl, broken));
      behind = others_stay;
      apart = alone.apart;
      last = last;
      below = below;
    }

    -- Where it is full now, the reading goes on in the next one.
    pub head_filled : why ≢ Broken → stop ≤ size → NoMessageBegins H (site.place + stop) (site.place + size) → NoBatchBegins H (site.place + stop) (site.place + size) → NoBatchEnds H (site.place + stop) (site.place + size)
        → StandsFull sum held size new (site.place + size) others (site.place + stop) H first
    head_filled goes within no_message no_batch no_end = record {
      stands = stands;
      low = low_from;
      leads = record { scan = y; found = y_found; read = y_scan; next = refl; goes = goes; below = omega (arith, rises) };
      near = record { above = omega (arith, within); next = omega (arith, further); no_message = no_message; no_batch = no_batch; no_end = no_end };
      behind = others_stay;
      last = λ s found. elim (last s found) [ inl low ↦ inl (omega (arith, low, some)) | inr one ↦ inr one ];
      below = λ s found. less_than s.mark (site.place + stop) (site.place + size) (omega (arith, within)) (below s found);
    }
      where
        further : raised size (site.place + stop) ≡ site.place + size
        further = one_multiple size some (site.place + size) (site.place + stop + (size - 1)) (next_multiple size site.place place_begins) (omega (arith, rises, some)) (omega (arith, within, some))
