-- What the code of recovery speaks of, beside what recovery makes of a log file.
use Rattle.std.specs.Prelude.{◌≡◌, ◌⊎◌, ℤ, ◌+◌, ◌^◌, ◌≤◌, ◌<◌, ℕ, Bool, true, false, List, [], ◌∷◌, ◌++◌, length, map, is_some, if◌then◌else◌, Option, Some}
use Rattle.std.specs.Prelude.{None, IfSome, IfNone, Contains}
use Rattle.std.specs.List.{All}
use Rattle.sled_codec.specs.declared.result.DiskPtr.{DiskPtr}
use Rattle.sled_codec.specs.declared.serialization.snapshot.Snapshot.{Snapshot}
use Rattle.sled_codec.specs.declared.result.Error.{Error}
use Rattle.sled_codec.specs.declared.result.Error.TheVariants.{Corruption}
use Rattle.sled_codec.specs.Snapshots.{SnapshotModel, model_of, page_of, stable_place}
use Rattle.sled_store.specs.Blobs.{NamesDamage}
use Rattle.sled_store.specs.declared.config.RunningConfig.{RunningConfig}
use Rattle.sled_store.specs.Device.{Trace, state_of}
use Rattle.sled_core.specs.declared.iterator.Segment.{Segment}
use Rattle.sled_core.specs.declared.iterator.scan.RecordContent.{RecordContent}
pub use Rattle.sled_core.specs.Replayed.{CanBeRead, IsDamagedBefore}
use Rattle.sled_log.specs.declared.snapshot.pass.Pass.{Pass}
use Rattle.sled_log.specs.declared.snapshot.pass.Replay.{Replay}
use Rattle.sled_log.specs.Recovery.{AreClosed, Scanned, Outcome, AreScanned, AreReplayed, ContinuesFrom, IsDamagedPass, NamesKind, Passes, given, has_no_table}
use Rattle.sled_log.specs.Recovery.{open_at, passed_all, stops_in, scanned_of, StopsOrGoesOn, before_open, HaveGoodBlobs, resolved_scan, table_of}
use Rattle.sled_log.specs.Recovery.{HasBadBlob, HasDamage, MeetsOne, NamesBadBlob}

-- each of these can be read
abbrev pub CanAllBeRead : ℕ → List ℕ → List Segment → Type 0
CanAllBeRead size log segments = (s : Segment) → Contains segments s → CanBeRead size log s

-- a segment as code has it, with what is met in it
abbrev pub pass_of : Pass → Scanned
pass_of p = scanned_of p.segment p.scan

-- its ends are places and offsets, and so is what is met in it
pub record IsPass (size : ℕ) (p : Pass) : Type 0 where
  pub slot : p.segment.slot + size < 2 ^ 63
  pub place : p.segment.place + size < 2 ^ 63
  pub stop : p.scan.stop ≤ size
  pub places : All (λ m. m.place < p.segment.place + size) p.scan.met.items

-- all that is met in it is of a kind that is known
abbrev pub HasKinds : Pass → Type 0
HasKinds p = All (λ m. NamesKind m.what) p.scan.met.items

-- these segments, and the same with the blobs of what is met in each before a batch that is open
abbrev pub GetBlobs : (ℤ → Option (List ℕ)) → ℕ → List Pass → List Pass → Type 0
GetBlobs blobs end old new = map pass_of new ≡ map (resolved_scan blobs end) (map pass_of old)

-- where the pass over these segments stops; over none it stays where it is
abbrev pub stop_of : ℕ → Option (Segment × ℕ) → List Scanned → Option (Segment × ℕ)
stop_of end last [] = last
stop_of end last (s ∷ ss) = Some (stops_in end s (open_at end s.met) ss)

-- behind one with a batch that is open is none
abbrev pub OpensLast : ℕ → List Scanned → Type 0
OpensLast end [] = Unit {0}
OpensLast end (s ∷ ss) = StopsOrGoesOn (open_at end s.met) ss (OpensLast end ss)

-- this is so of a record that is met in one of these, before a batch that is open
abbrev pub PassMeets : (RecordContent → Type 0) → ℕ → List Scanned → Type 0
PassMeets P end [] = ⊥
PassMeets P end (s ∷ ss) = MeetsOne P (before_open end s.met) ⊎ PassMeets P end ss

-- a blob that doesn't pass for its record is met there
abbrev pub MeetsBadPass : (List ℕ → ℕ) → (ℤ → Option (List ℕ)) → ℕ → List Scanned → Type 0
MeetsBadPass sum blobs end passes = PassMeets (HasBadBlob sum blobs) end passes

-- and damage is named as that of the blob
abbrev pub NamesBadPass : (List ℕ → ℕ) → (ℤ → Option (List ℕ)) → ℕ → List Scanned → Option DiskPtr → Type 0
NamesBadPass sum blobs end passes at = PassMeets (HasDamage sum blobs at) end passes

-- The segments up to the first one with a batch that is open, and that one.
abbrev pub up_to_open : ℕ → List Scanned → List Scanned
up_to_open end [] = []
up_to_open end (s ∷ ss) = if is_some (open_at end s.met) then s ∷ [] else s ∷ up_to_open end ss

-- These are what the pass meets in segments, with their blobs, each of which is missing or passes for its record.
pub record AreResolved (sum : List ℕ → ℕ) (size : ℕ) (log : List ℕ) (blobs : ℤ → Option (List ℕ)) (end : ℕ) (segments : List Segment)
    (passes : List Scanned) : Type 0 where
  pub scanned : List Scanned
  pub replayed : AreReplayed sum size log end segments scanned
  pub fine : MeetsBadPass sum blobs end scanned → ⊥
  pub is : passes ≡ map (resolved_scan blobs end) scanned

-- A damaged record is met in the pass over segments, and the damage names no blob; or one whose blob doesn't pass for it, as that of which it is named.
abbrev pub IsBadPass : (List ℕ → ℕ) → ℕ → List ℕ → (ℤ → Option (List ℕ)) → ℕ → List Segment → Option DiskPtr → Type 0
IsBadPass sum size log blobs end segments at =
    ((at ≡ None) × IsDamagedPass sum size log end segments)
    ⊎ ((scanned : List Scanned) × AreReplayed sum size log end segments scanned × NamesBadPass sum blobs end scanned at)

-- What a pass has made of a snapshot, which met these, with their blobs: its table, up to a message of the page that no table has, and where the pass stopped.
pub record HasMade (end : ℕ) (first : SnapshotModel) (passes : List Scanned) (r : Replay) : Type 0 where
  pub no_table : r.has_no_table ≡ has_no_table (given (stable_place first.stable) (passed_all end passes))
  pub pages : r.has_no_table ≡ false → map page_of r.snapshot.pt.items ≡ table_of first.pages (given (stable_place first.stable) (passed_all end passes))
  pub stop : r.has_no_table ≡ false → r.stop ≡ stop_of end None passes
  pub count : r.count ≡ length passes
  pub stable : r.snapshot.stable_lsn ≡ first.stable
  pub active : r.snapshot.active_segment ≡ first.active

-- an error of a blob that doesn't pass for its record, where damage may be named so
abbrev pub IsOfBlob : (List ℕ → ℕ) → (ℤ → Option (List ℕ)) → (Option DiskPtr → Type 0) → Error → Type 0
IsOfBlob sum blobs names (Corruption at) = NamesDamage sum blobs at × names at
IsOfBlob sum blobs names _ = ⊥

-- What a pass that met these has come to: a blob that doesn't pass for its record, or else what it made of a snapshot.
pub record IsSoFar (sum : List ℕ → ℕ) (blobs : ℤ → Option (List ℕ)) (end : ℕ) (first : SnapshotModel) (passes : List Scanned) (bad : Option Error)
    (r : Replay) : Type 0 where
  pub meets : IfSome bad (IsOfBlob sum blobs (NamesBadPass sum blobs end passes))
  pub fine : IfNone bad ((MeetsBadPass sum blobs end passes → ⊥) × HasMade end first (map (resolved_scan blobs end) passes) r)

-- The pass goes on behind these, where no batch is open in them, or ends with them.
abbrev pub GoesOnBehind : ℕ → Bool → List Scanned → Type 0
GoesOnBehind end true passes = (more : List Scanned) → up_to_open end (passes ++ more) ≡ passes
GoesOnBehind end false passes = AreClosed end passes

-- What a pass over segments has come to.
pub record IsReplay (sum : List ℕ → ℕ) (size : ℕ) (log : List ℕ) (blobs : ℤ → Option (List ℕ)) (end : ℕ) (first : SnapshotModel) (segments : List Segment)
    (bad : Option Error) (r : Replay) : Type 0 where
  pub passes : List Scanned
  pub replayed : AreReplayed sum size log end segments passes
  pub so_far : IsSoFar sum blobs end first passes bad r
  pub goes_on : GoesOnBehind end r.is_open (map (resolved_scan blobs end) passes)

-- a segment that ends below 2^63, and a place in it or at its end
abbrev pub FitsStop : ℕ → Option (Segment × ℕ) → Type 0
FitsStop size None = Unit {0}
FitsStop size (Some at) = (at.0.place + size < 2 ^ 63) × (at.0.slot + size < 2 ^ 63) × (at.1 ≤ at.0.place + size)

-- These are all that is met in segments, with the blobs of what is met before a batch that is open. All blobs were looked at.
pub record AreLookedUp (sum : List ℕ → ℕ) (size : ℕ) (log : List ℕ) (blobs : ℤ → Option (List ℕ)) (end : ℕ) (segments : List Segment)
    (passes : List Scanned) : Type 0 where
  pub scanned : List Scanned
  pub are : AreScanned sum size log segments scanned
  pub good : HaveGoodBlobs sum blobs scanned
  pub is : passes ≡ map (resolved_scan blobs end) scanned

-- a blob that doesn't pass for its record is met in one of these, and damage is named as that of the blob
abbrev pub NamesBadTail : (List ℕ → ℕ) → (ℤ → Option (List ℕ)) → List Scanned → Option DiskPtr → Type 0
NamesBadTail sum blobs scanned at = (s : Scanned) × Contains scanned s × NamesBadBlob sum blobs s.met at

-- what comes of a tail whose blobs were looked at
abbrev pub PassesBehind : (List ℕ → ℕ) → ℕ → List ℕ → (ℤ → Option (List ℕ)) → SnapshotModel → List Segment → ℕ → List Scanned → Outcome → Type 0
PassesBehind sum size log blobs first ordering end scanned o = HaveGoodBlobs sum blobs scanned × Passes sum size log blobs first ordering (Some end) o

-- what comes of a tail that ends there, on what a device has
abbrev pub PassesOn : {D C : Type 0} → (D → Trace) → (List ℕ → ℕ) → RunningConfig D C → Snapshot → List Segment → ℕ → Outcome → Type 0
PassesOn trace sum config first ordering end o =
    let s = state_of (trace config.device) in Passes sum config.config.segment_size s.log.bytes s.blobs.file (model_of first) ordering (Some end) o

-- what recovery makes of what a device has, from a snapshot on
abbrev pub ContinuesOn : {D C : Type 0} → (D → Trace) → (List ℕ → ℕ) → RunningConfig D C → Snapshot → Outcome → Type 0
ContinuesOn trace sum config first o =
    let s = state_of (trace config.device) in ContinuesFrom sum config.config.segment_size s.log.bytes s.blobs.file (model_of first) o
