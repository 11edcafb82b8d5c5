-- What proofs, and functions that no user calls, need beside `specs/Ahead.antt`. No public contract names it.
use Rattle.std.specs.Prelude.{◌≡◌, ◌+◌, ◌-◌, ◌*◌, ◌^◌, ◌≤◌, ℕ, Bool, true, false, List, [], ◌∷◌, length, drop, Option, Some, None, Result, Ok, Err, Contains}
use Rattle.sled_codec.specs.declared.result.Error.{Error}
use Rattle.sled_store.specs.declared.config.RunningConfig.{RunningConfig}
use Rattle.sled_store.specs.Device.{Trace, state_of}
use Rattle.sled_core.specs.declared.iterator.scan.ScanEnd.{ScanEnd}
use Rattle.sled_core.specs.declared.iterator.scan.ScanEnd.TheVariants.{Full, Capped, Broken}
use Rattle.sled_core.specs.declared.iterator.scan.SegmentScan.{SegmentScan}
use Rattle.sled_core.specs.declared.iterator.Segment.{Segment}
use Rattle.sled_core.specs.declared.iterator.rest.Rest.{Rest}
use Rattle.sled_core.specs.Replayed.{IsDamagedBefore}
use Rattle.sled_core.specs.Iterates.{Item, Damage, GivesOf, IsIteration, SaysDamage}

-- A damaged record is met in a segment behind the records of a scan, where that stops.
abbrev pub IsDamagedBehind : (List ℕ → ℕ) → ℕ → List ℕ → ℕ → Segment → SegmentScan → Type 0
IsDamagedBehind sum size log end segment scan = (d : IsDamagedBefore sum size log end segment) × (d.met ≡ scan.met.items) × (d.next ≡ scan.stop)

-- all that was read was given, and no damaged record stands behind it
abbrev pub IsGiven : Rest → Type 0
IsGiven r = (length r.met.items ≤ r.given) × (r.damaged ≡ false)

-- nothing is left
abbrev pub IsSpent : Rest → Type 0
IsSpent r = (length r.segments.items ≤ r.read) × IsGiven r

-- a damaged record is one item
abbrev pub items_at : Bool → ℕ
items_at true = 1
items_at false = 0

-- Not more items than this are left: in a segment that was not read there are fewer messages than a number of 64 bits counts.
abbrev pub most_left : Rest → ℕ
most_left r = (length r.segments.items - r.read) * 2 ^ 64 + (length r.met.items - r.given) + items_at r.damaged

abbrev pub reads_behind : Bool → ScanEnd → ℕ → ℕ → ℕ
reads_behind true Broken read count = count
reads_behind true Full read count = read
reads_behind true Capped read count = read
reads_behind false why read count = read

-- how many segments count as read behind one whose reading ended so: all, where a strict iterator reads one that is broken
abbrev pub read_behind : Rest → ScanEnd → ℕ
read_behind r why = reads_behind r.strict why r.read (length r.segments.items)

-- behind the records that were read stands the damaged one, or else this comes
abbrev pub LeftBehind : Bool → (List Item → Damage → Type 0) → List Item → Damage → Type 0
LeftBehind true on items damage = (items ≡ []) × (damage ≡ Some None)
LeftBehind false on items damage = on items damage

-- What is left gives these messages, and then damage or the end: the records that were read and not given, and then a damaged record, or the segments that
-- were not read. (A strict iterator may have segments whose slots the file doesn't have yet.)
unfoldable pub IsLeft : {D C : Type 0} → (D → Trace) → (List ℕ → ℕ) → RunningConfig D C → Rest → List Item → Damage → Type 0
IsLeft trace sum config r items damage =
    let size = config.config.segment_size in
    let s = state_of (trace config.device) in
    (r.strict ≡ false → (x : Segment) → Contains r.segments.items x → x.slot ≤ length s.log.bytes)
    × GivesOf sum s.blobs.file r.end (drop r.given r.met.items)
    (LeftBehind r.damaged (IsIteration sum size s.log.bytes s.blobs.file r.end r.strict (drop r.read r.segments.items))) items damage

-- What is found where these are ahead: a message, or none that is left in what was read, and what is ahead then.
abbrev pub Finds : (List Item → Damage → Type 0) → (List Item → Damage → Type 0) → List Item → Damage → Result (Option Item) Error → Type 0
Finds ahead none items damage (Ok (Some item)) = (rest : List Item) × (items ≡ item ∷ rest) × ahead rest damage
Finds ahead none items damage (Ok None) = none items damage
Finds ahead none items damage (Err e) = SaysDamage e items damage

-- the messages end, without damage
abbrev pub IsEnd : List Item → Damage → Type 0
IsEnd items damage = (items ≡ []) × (damage ≡ None)

-- a message or none
abbrev pub those_of : Option Item → List Item
those_of None = []
those_of (Some item) = item ∷ []
