-- What a reader finds of a log in its file: the segments from a place on, the tail of the log, and where a pass over all of it stops.
-- Stated for any number of segments and for all kinds of messages.
use Rattle.std.specs.Prelude.{◌≡◌, ◌≢◌, ◌⊎◌, ◌↔◌, ◌+◌, ◌*◌, ◌/◌, ℕ, ℤ, pos, negsuc, int_le, max, nat_lt, Bool, true, false, ◌&&◌, if◌then◌else◌, List}
use Rattle.std.specs.Prelude.{[], ◌∷◌, Option, Some, None, Contains}
use Rattle.sled_codec.specs.Snapshots.{SnapshotModel, stable_place}
use Rattle.sled_core.specs.declared.iterator.scan.ScannedRecord.{ScannedRecord}
use Rattle.sled_core.specs.declared.iterator.scan.RecordContent.{RecordContent}
use Rattle.sled_core.specs.declared.iterator.scan.RecordContent.TheVariants.{Gives, NamesBlob, Skipped, BatchStart}
use Rattle.sled_core.specs.declared.iterator.scan.ScanEnd.{ScanEnd}
use Rattle.sled_core.specs.declared.iterator.scan.ScanEnd.TheVariants.{Full, Capped, Broken}
use Rattle.sled_core.specs.declared.iterator.Segment.{Segment}
use Rattle.sled_core.specs.Scan.{IsFoundSegment, IsMisplaced, IsScan}

-- The segments that it finds.

-- Segments are found that can't be of one log.
abbrev pub IsUnordered : (List ℕ → ℕ) → ℕ → List ℕ → ℕ → Type 0
IsUnordered sum size log least =
    ((s : Segment) × IsFoundSegment sum size log least s × IsMisplaced size s)
    ⊎ ((s : Segment) × (t : Segment) × IsFoundSegment sum size log least s × IsFoundSegment sum size log least t × (s.slot ≢ t.slot) × (s.place ≡ t.place))

-- by place, the lowest first
abbrev pub is_ascending : List Segment → Bool
is_ascending [] = true
is_ascending (s ∷ []) = true
is_ascending (s ∷ t ∷ ss) = nat_lt s.place t.place && is_ascending (t ∷ ss)

-- the segments that are found, by place
pub record IsOrdering (sum : List ℕ → ℕ) (size : ℕ) (log : List ℕ) (least : ℕ) (ordering : List Segment) : Type 0 where
  pub ascending : is_ascending ordering ≡ true
  pub found : (s : Segment) → Contains ordering s ↔ IsFoundSegment sum size log least s
  pub placed : (s : Segment) → Contains ordering s → IsMisplaced size s → ⊥

-- The tail.

-- a segment and all that is met in it, where the reading ends and why
pub record Scanned : Type 0 where
  pub segment : Segment
  pub met : List ScannedRecord
  pub stop : ℕ
  pub why : ScanEnd

-- these are found in a segment
abbrev pub IsScanned : (List ℕ → ℕ) → ℕ → List ℕ → Scanned → Type 0
IsScanned sum size log s = IsScan sum size log s.segment.slot s.segment.place s.met s.stop s.why

-- the place of a mark; one that is negative says nothing
abbrev pub place_of_mark : ℤ → ℕ
place_of_mark (pos n) = n
place_of_mark (negsuc n) = 0

-- the greatest of a place and all marks
abbrev pub greatest_mark : ℕ → List Segment → ℕ
greatest_mark least [] = least
greatest_mark least (s ∷ ss) = max (place_of_mark s.mark) (greatest_mark least ss)

-- where the tail begins: the greatest mark, put down to the beginning of its segment
abbrev pub tail_begins : ℕ → ℕ → List Segment → ℕ
tail_begins size least ordering = greatest_mark least ordering / size * size

-- behind a broken segment nothing is read, and behind another one this
abbrev pub GoesOn : ScanEnd → List Scanned → Type 0 → Type 0
GoesOn Broken rest on = rest ≡ []
GoesOn Full rest on = on
GoesOn Capped rest on = on

-- The segments of the tail, one behind another without a gap. One that is broken ends it.
abbrev pub IsTail : (List ℕ → ℕ) → ℕ → List ℕ → List Segment → ℕ → List Scanned → Type 0
IsTail sum size log ordering place [] = (s : Segment) → Contains ordering s → s.place ≡ place → ⊥
IsTail sum size log ordering place (s ∷ ss) =
    Contains ordering s.segment × (s.segment.place ≡ place) × IsScanned sum size log s × GoesOn s.why ss (IsTail sum size log ordering (place + size) ss)

-- Segments of the tail, one behind another, each of which leads to the next.
abbrev pub IsTailPart : (List ℕ → ℕ) → ℕ → List ℕ → List Segment → ℕ → List Scanned → ℕ → Type 0
IsTailPart sum size log ordering place [] next = next ≡ place
IsTailPart sum size log ordering place (s ∷ ss) next =
    Contains ordering s.segment × (s.segment.place ≡ place) × IsScanned sum size log s × (s.why ≢ Broken)
    × IsTailPart sum size log ordering (place + size) ss next

-- where the reading of the tail ended, where a segment was read
abbrev pub tail_end : List Scanned → Option ℕ
tail_end [] = None
tail_end (s ∷ []) = Some (s.segment.place + s.stop)
tail_end (s ∷ t ∷ ss) = tail_end (t ∷ ss)

-- The pass, and where it stops.

-- the segments that begin below a place
abbrev pub begun_below : ℕ → List Segment → List Segment
begun_below end [] = []
begun_below end (s ∷ ss) = if nat_lt s.place end then s ∷ begun_below end ss else begun_below end ss

-- these segments, each with what is met in it
abbrev pub AreScanned : (List ℕ → ℕ) → ℕ → List ℕ → List Segment → List Scanned → Type 0
AreScanned sum size log [] [] = Unit {0}
AreScanned sum size log [] (x ∷ xs) = ⊥
AreScanned sum size log (s ∷ ss) [] = ⊥
AreScanned sum size log (s ∷ ss) (x ∷ xs) = (x.segment ≡ s) × IsScanned sum size log x × AreScanned sum size log ss xs

-- the beginning of a batch that does not end below this place
abbrev pub opens : ℕ → RecordContent → Bool
opens end (Gives kind page pointer) = false
opens end (NamesBlob kind page lid place) = false
opens end Skipped = false
opens end (BatchStart peg) = int_le (pos end) peg

-- where that begins
abbrev pub open_at : ℕ → List ScannedRecord → Option ℕ
open_at end [] = None
open_at end (m ∷ ms) = if opens end m.what then Some m.place else open_at end ms

-- what is met before the first such beginning
abbrev pub before_open : ℕ → List ScannedRecord → List ScannedRecord
before_open end [] = []
before_open end (m ∷ ms) = if opens end m.what then [] else m ∷ before_open end ms

-- The segment in which the pass stopped, and the place: at the first batch that is open, else where the reading of the last segment ended.
abbrev pub stops_in : ℕ → Scanned → Option ℕ → List Scanned → Segment × ℕ
stops_in end s (Some place) rest = (s.segment, place)
stops_in end s None [] = (s.segment, s.segment.place + s.stop)
stops_in end s None (t ∷ ts) = stops_in end t (open_at end t.met) ts

-- a segment in which fewer than 32 bytes are left behind a place
abbrev pub is_filled : ℕ → Segment × ℕ → Bool
is_filled size at = nat_lt (at.0.place + size) (at.1 + 32)

-- the cut, and the slot that is active: where the pass stopped, or the end of a segment that has no room left
abbrev pub cut_of : ℕ → Segment × ℕ → ℕ × Option ℕ
cut_of size at = if is_filled size at then (at.0.place + size, None) else (at.1, Some at.0.slot)

-- the segment that holds the place with which a snapshot ends
abbrev pub least_place : ℕ → SnapshotModel → ℕ
least_place size s = stable_place s.stable / size * size
