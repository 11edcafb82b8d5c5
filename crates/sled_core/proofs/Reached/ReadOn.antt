-- Segments that are read to their end: those that lead on among the ones that are found, and what is met in them.
use Rattle.std.proofs.Common.{◌≡◌, ◌≢◌, ◌+◌, ◌%◌, ◌<◌, ◌≤◌, ℕ, List, sym, ap, subst, arith}
use Rattle.std.specs.List.{Contains}
use Rattle.sled_codec.specs.History.{History}
use Rattle.sled_core.specs.declared.iterator.Segment.{Segment}
use Rattle.sled_core.specs.declared.iterator.scan.ScannedRecord.{ScannedRecord}
use Rattle.sled_core.specs.declared.iterator.scan.ScanEnd.{ScanEnd}
use Rattle.sled_core.specs.declared.iterator.scan.ScanEnd.TheVariants.{Broken}
use Rattle.sled_core.specs.inside.Recoverable.{IsOfHistory, IsReadOn}
use Rattle.sled_core.specs.inside.Scan.{IsFoundSegment}
use Rattle.sled_core.specs.Scan.{IsEnd, IsScan}
use Rattle.sled_core.specs.Tail.{IsOrdering, AreScanned, Scanned}
use Rattle.sled_core.proofs.Tail.OneTail.{one_at_place, rises_of, segment_there}
use Rattle.sled_core.proofs.Tail.Rows.{IsWhole, end_there, path_stands, path_within, stand_in}

-- a reading behind which no further record has room isn't broken
pub full_goes : (sum : List ℕ → ℕ) (size : ℕ) (log : List ℕ) (some : 256 ≤ size) (t : Scanned) → IsWhole sum size log some t → size < t.stop + 32 → t.why ≢ Broken
full_goes sum size log some t whole filled broken =
    let room = (subst (λ (why : ScanEnd). IsEnd sum size log t.segment.slot t.segment.place t.stop why) broken (end_there sum size log some t whole)).0 in
    omega (arith, room, filled)

-- One of those that are found is read to its end where its reading leads on.
pub read_on : (sum : List ℕ → ℕ) (size : ℕ) (log : List ℕ) (H : History) (least : ℕ) (ordering : List Segment) → IsOrdering sum size log least ordering → (scanned : List Scanned) → AreScanned sum size log ordering scanned
    → ((t : Scanned) (x : ScannedRecord) → Contains scanned t → Contains t.met x → IsOfHistory sum size log H x) → (s : Segment) → IsFoundSegment sum size log 0 s → least ≤ s.place
    → (t : Scanned) → Contains scanned t → t.segment.place ≡ s.place → t.why ≢ Broken → IsReadOn sum size log H s
read_on sum size log H least ordering numbers scanned reads truth s found low t there at goes =
    let known = segment_there sum size log ordering scanned reads t there in
    let also = (numbers.found s).1 (record { slot = found.slot; header = found.header; not_below = low }) in
    record {
      scan = t;
      of = one_at_place ordering (rises_of ordering numbers.ascending) t.segment s known.0 also at;
      read = known.1;
      goes = goes;
      truth = λ x met. truth t x there met;
    }

-- What is met in such a segment ends no higher than the segment.
pub met_within : (sum : List ℕ → ℕ) (size : ℕ) (log : List ℕ) → 256 ≤ size → (H : History) (s : Segment) → s.slot % size ≡ 0 → (on : IsReadOn sum size log H s) → (x : ScannedRecord) → Contains on.scan.met x → x.place + x.len ≤ s.place + size
unfolding IsScan
met_within sum size log some H s aligned on x there =
    let t : Scanned = on.scan in
    let slot : t.segment.slot % size ≡ 0 = subst (λ (u : Segment). u.slot % size ≡ 0) (sym on.of) aligned in
    let within = path_within sum size log t.segment.slot t.segment.place slot 20 t.met t.stop (omega (arith, some)) on.read.0 in
    let lies = stand_in (t.segment.place + 20) t.met (t.segment.place + t.stop) (path_stands sum size log t.segment.slot t.segment.place 20 t.met t.stop on.read.0) x there in
    omega (arith, lies.2, within, ap (λ (u : Segment). u.place) on.of)

-- It is of another history too where all that is met in it is.
pub reads_on_in : (sum : List ℕ → ℕ) (size : ℕ) (log : List ℕ) (H H' : History) (s : Segment) (on : IsReadOn sum size log H s) → ((x : ScannedRecord) → Contains on.scan.met x → IsOfHistory sum size log H x → IsOfHistory sum size log H' x)
    → IsReadOn sum size log H' s
reads_on_in sum size log H H' s on stays = record { scan = on.scan; of = on.of; read = on.read; goes = on.goes; truth = λ x met. stays x met (on.truth x met) }
