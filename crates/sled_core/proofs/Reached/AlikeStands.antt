-- A file stands as another one does of which it keeps the slots in which segments are found: as it is where the two have these slots alike.
use Rattle.std.proofs.Common.{◌/◌, ◌≤◌, ℕ, List, arith, inl, inr}
use Rattle.sled_codec.specs.History.{History}
use Rattle.sled_codec.specs.Snapshots.{SnapshotModel}
use Rattle.sled_core.specs.OpenBatches.{stable_below}
use Rattle.sled_core.specs.Tail.{IsScanned, Scanned, least_place}
use Rattle.sled_core.specs.declared.iobuf.SegmentPosition.{SegmentPosition}
use Rattle.sled_core.specs.declared.iterator.Segment.{Segment}
use Rattle.sled_core.specs.inside.Reached.{BegunSegment, IsLed, StandsAmong, StandsIn}
use Rattle.sled_core.specs.inside.Scan.{IsFoundSegment}
use Rattle.sled_core.proofs.Reached.Higher.{known_in}
use Rattle.sled_core.proofs.Reached.KeptStands.{kept_stands, scan_kept}
use Rattle.sled_core.proofs.Reached.StandsTo.{StandsFrom, StandsTo}
use Rattle.sled_core.proofs.Tail.OneTail.{segment_there}
use Rattle.sled_core.proofs.Torn.AlikeSlots.{SameIn, found_same, scan_same, slot_found}
use Rattle.sled_core.proofs.Torn.KeptSlots.{KeepsSlots}

-- A file keeps the slots in which segments are found, and no others are found in it.
module _ (sum : List ℕ → ℕ) (size : ℕ) (some : 256 ≤ size) (old left : List ℕ) (Used : ℕ → Type 0) (same : (k : ℕ) → Used k → SameIn size old left k)
    (keeps : KeepsSlots sum size Used old left) (were : (least : ℕ) (s : Segment) → IsFoundSegment sum size old least s → Used (s.slot / size)) where
  -- The same are found, and read as they were.
  now_found : (least : ℕ) (s : Segment) → IsFoundSegment sum size old least s → IsFoundSegment sum size left least s
  now_found least s found = keeps.found (s.slot / size) (were least s found) least s (slot_found sum size old least s found) found

  was_found : (least : ℕ) (s : Segment) → IsFoundSegment sum size left least s → IsFoundSegment sum size old least s
  was_found = keeps.before

  now_read : (least : ℕ) (t : Scanned) → IsFoundSegment sum size old least t.segment → IsScanned sum size old t → IsScanned sum size left t
  now_read least t found scan = scan_kept sum size Used old left keeps same least t.segment found (were least t.segment found) t.met t.stop t.why scan

  module _ (H : History) (reach : ℕ) (first : SnapshotModel) {site : SegmentPosition} {from : ℕ} {others : List BegunSegment} {held : ℕ}
      (among : StandsAmong sum held size old site from others reach H first) where
    abbrev least : ℕ
    least = least_place size first

    stands_from : StandsFrom sum size left H (stable_below reach H.batches) first reach among.stands.from
    stands_from = kept_stands sum size Used old left keeps same H (stable_below reach H.batches) first reach among.stands
        (λ s there. were least s ((among.stands.numbers.found s).0 there))
        (λ cut low high page m entry. let of = (among.stands.needed cut low high page m entry).0 in were 0 of.segment of.found)
        some

    stands : StandsTo sum size left H (stable_below reach H.batches) first reach
    stands = stands_from.0

    stands_now : (x : SegmentPosition) (so_far : ℕ) {records : ℕ} → StandsIn sum size old least among.stands.scanned x so_far records
        → StandsIn sum size left least stands.scanned x so_far records
    stands_now x so_far its = record {
      only = λ s found here. its.only s (was_found least s found) here;
      own = λ s found here. its.own s (was_found least s found) here;
      read = λ later.
          let r = its.read later in
          let was = r.2 in
          let had = segment_there sum size old among.stands.ordering among.stands.scanned among.stands.reads was.scan was.there in
          let found = (among.stands.numbers.found was.scan.segment).0 had.0 in (
            r.0,
            r.1,
            record {
              scan = was.scan;
              there = known_in sum size left H (stable_below reach H.batches) first reach stands was.scan (now_found least was.scan.segment found)
                  (now_read least was.scan found had.1);
              in_slot = was.in_slot;
              at_place = was.at_place;
              ended = was.ended;
              ends = was.ends;
            },
            r.3,
            r.4,
          );
    }

    led_now : IsLed sum size left least reach site.place
    led_now = elim among.led [
      | inl below ↦ inl below
      | inr (inl low) ↦ inr (inl low)
      | inr (inr l) ↦ inr (inr (record {
        scan = l.scan;
        found = now_found least l.scan.segment l.found;
        read = now_read least l.scan l.found l.read;
        next = l.next;
        goes = l.goes;
        below = l.below;
      }))
    ]

    pub standing_kept : StandsAmong sum held size left site from others reach H first
    unfolding stands
    standing_kept = record {
      stands = stands;
      low = (let same = stands_from.1 in let low = among.low in omega (arith, same, low));
      reached = among.reached;
      led = led_now;
      here = stands_now site from among.here;
      behind = λ x has. stands_now x.site x.from (among.behind x has);
      apart = among.apart;
      last = λ s found. among.last s (was_found least s found);
      below = λ s found. among.below s (was_found least s found);
    }

-- Two files have the slots alike in which segments are found, in the one or in the other.
module _ (sum : List ℕ → ℕ) (size : ℕ) (some : 256 ≤ size) (old left : List ℕ) (Used : ℕ → Type 0) (same : (k : ℕ) → Used k → SameIn size old left k)
    (back : (k : ℕ) → Used k → SameIn size left old k)
    (were : (least : ℕ) (s : Segment) → IsFoundSegment sum size old least s → Used (s.slot / size))
    (are : (least : ℕ) (s : Segment) → IsFoundSegment sum size left least s → Used (s.slot / size)) where
  slots_alike : KeepsSlots sum size Used old left
  slots_alike = record {
    before = λ least s found.
        let k : ℕ = s.slot / size in
        found_same sum size left old k (back k (are least s found)) (omega (arith, some)) least s (slot_found sum size left least s found) found;
    found = λ j used. found_same sum size old left j (same j used) (omega (arith, some));
    met = λ j used place mark header. scan_same sum size old left j (same j used) (back j used) place;
    met_before = λ j used place mark header. scan_same sum size left old j (back j used) (same j used) place;
  }

  pub alike_stands : (H : History) (reach : ℕ) (first : SnapshotModel) {site : SegmentPosition} {from : ℕ} {others : List BegunSegment} {held : ℕ}
      → StandsAmong sum held size old site from others reach H first → StandsAmong sum held size left site from others reach H first
  alike_stands = standing_kept sum size some old left Used same slots_alike were
