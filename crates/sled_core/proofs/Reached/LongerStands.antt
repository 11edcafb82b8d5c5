-- A log file with more behind its end stands up to the same place, where what was found is read as before, and nothing else is found.
use Rattle.std.proofs.Common.{◌≡◌, ◌+◌, ◌≤◌, ℕ, List, ◌++◌, length, refl, subst, arith}
use Rattle.std.specs.List.{Contains}
use Rattle.sled_codec.specs.History.{Message, History, table}
use Rattle.sled_codec.specs.Places.{part}
use Rattle.sled_codec.specs.Snapshots.{SnapshotModel}
use Rattle.sled_core.specs.declared.iterator.Segment.{Segment}
use Rattle.sled_core.specs.inside.Hides.{IsTrueReading}
use Rattle.sled_core.specs.inside.Recoverable.{IsSegmentOf, StandsInline}
use Rattle.sled_core.specs.inside.Scan.{IsFoundSegment}
use Rattle.sled_core.specs.Scan.{IsScan}
use Rattle.sled_core.specs.Tail.{IsOrdering, least_place, IsScanned, Scanned}
use Rattle.sled_core.proofs.Read.FoundLemmas.{found_there}
use Rattle.sled_core.proofs.Reached.KeptStands.{alike_kept, item_kept, reached_kept, read_on_kept}
use Rattle.sled_core.proofs.Reached.LeftBeside.{truth_alike}
use Rattle.sled_core.proofs.Reached.Reread.{IsAsFar, stands_still}
use Rattle.sled_core.proofs.Reached.StandsTo.{StandsFrom, StandsTo}
use Rattle.sled_core.proofs.Reserve.Ranges.{part-append}
use Rattle.sled_core.proofs.Tail.OneTail.{scan_there, segment_there}
use Rattle.sled_core.proofs.Torn.WrittenBeside.{found_moved}

module _ (sum : List ℕ → ℕ) (size : ℕ) (log more : List ℕ) (H : History) (A : ℕ) (first : SnapshotModel) (reach : ℕ)
    (is : StandsTo sum size log H A first reach)
    (again : (t : Scanned) → Contains is.scanned t → IsScanned sum size (log ++ more) t)
    (old_one : (x : Segment) → IsFoundSegment sum size (log ++ more) (least_place size first) x → IsFoundSegment sum size log (least_place size first) x) where
  abbrev left : List ℕ
  left = log ++ more

  abbrev least : ℕ
  least = least_place size first

  -- what was there is as it was
  same : (slot lid len : ℕ) → slot ≤ lid → lid + len ≤ slot + size → lid + len ≤ length log → part left lid len ≡ part log lid len
  same slot lid len low high there = part-append log more lid len there

  pub found_on : (low : ℕ) (x : Segment) → IsFoundSegment sum size log low x → IsFoundSegment sum size left low x
  found_on low x found = found_moved sum size log left low x (part-append log more x.slot 20 (found_there sum size log low x found)) found

  known : (t : Scanned) → Contains is.scanned t → Contains is.ordering t.segment × IsScanned sum size log t
  known t there = segment_there sum size log is.ordering is.scanned is.reads t there

  pub numbers : IsOrdering sum size left least is.ordering
  numbers = record {
    ascending = is.numbers.ascending;
    found = λ s. (λ there. found_on least s ((is.numbers.found s).0 there), λ has. (is.numbers.found s).1 (old_one s has));
    placed = is.numbers.placed;
  }

  reading_of : (t : Scanned) → Contains is.scanned t → IsTrueReading sum size left H t.segment
  unfolding IsScan
  reading_of t there =
      let had = known t there in
      let found = (is.numbers.found t.segment).0 had.0 in
      let alike = alike_kept sum size log left t.segment.slot found.slot (same t.segment.slot) t.segment.place 20 t.met t.stop had.1.0 in
      let read = again t there in
      record {
        scan = t;
        segment = refl;
        read = read;
        truth = truth_alike sum size log left H t.segment.slot t.segment.place 20 t.met t.stop alike read.0 (λ x met. is.truth t x there met);
        caps = is.caps t there;
      }

  each : (s : Segment) → Contains is.ordering s → IsTrueReading sum size left H s
  each s there = let t = scan_there sum size log is.ordering is.scanned is.reads s there in subst (IsTrueReading sum size left H) t.2 (reading_of t.0 t.1)

  as_far : (t : Scanned) → Contains is.scanned t → IsAsFar sum size left is.ordering t
  as_far t there = record { scan = t; segment = refl; there = (known t there).0; read = again t there; far = omega arith; leads = λ goes. goes }

  needed : (cut : ℕ) → is.from ≤ cut → cut ≤ reach → (page : ℕ) (m : Message) → Contains (table H cut page) m
      → IsSegmentOf sum size left H cut m × StandsInline sum size left m m.pointer
  needed cut low high page m entry =
      let had = is.needed cut low high page m entry in
      let of = had.0 in
      let u : Segment = of.segment in
      let found = of.found in (
        record {
          segment = u;
          found = found_on 0 u found;
          place = of.place;
          reached = reached_kept sum size log left u.slot found.slot (same u.slot) u refl m of.reached;
          whole = λ n known_n number lower. reached_kept sum size log left u.slot found.slot (same u.slot) u refl n (of.whole n known_n number lower);
          full = λ under. read_on_kept sum size log left u.slot found.slot (same u.slot) H u refl (of.full under);
        },
        item_kept sum size log left u.slot found.slot (same u.slot) u refl m of.reached had.1,
      )

  pub longer_stands : 256 ≤ size → StandsFrom sum size left H A first reach is.from
  longer_stands some =
      stands_still sum size log left H A first reach is is.ordering numbers each is.marks (λ t there low. as_far t there) some is.marks_below needed
