-- Where an iterator begins that no log makes: the segments are found and the tail is read, from a place on.
use Rattle.std.specs.Prelude.{◌≡◌, ◌⊎◌, ℕ, ℤ, false, List, [], Option, Some, None, Err}
use Rattle.std.specs.Borrow.{MutBor}
use Rattle.sled_codec.specs.declared.result.DiskPtr.{DiskPtr}
use Rattle.sled_codec.specs.declared.result.Error.{Error}
use Rattle.sled_store.specs.declared.config.RunningConfig.{RunningConfig}
use Rattle.sled_store.specs.Blobs.{OnDamage}
use Rattle.sled_store.specs.Device.{Trace}
use Rattle.sled_core.specs.Causes.{ItemAnswersOver}
use Rattle.sled_core.specs.Keeps.{OnlyReads}
use Rattle.sled_core.specs.declared.iterator.Segment.{Segment}
use Rattle.sled_core.specs.Iterates.{Item, Damage, IsIteration}
use Rattle.sled_log.specs.Recovery.{Scanned, IsUnordered, IsOrdering, IsTail, IsDamagedTail, HaveGoodBlobs, tail_begins, tail_end, begun_below}
-- the segment that holds the place from which an iterator begins; a negative one counts as 0
pub use Rattle.sled_core.specs.LogSegments.{begins_from}

-- what is ahead of an iterator where the tail ends there, or where no segment of it was read
abbrev pub IsBegun : (List ℕ → ℕ) → ℕ → List ℕ → (ℤ → Option (List ℕ)) → List Segment → Option ℕ → (List Item → Damage → Type 0) → Type 0
IsBegun sum size log blobs ordering None ahead = ahead [] None
IsBegun sum size log blobs ordering (Some end) ahead =
    (items : List Item) (damage : Damage) → IsIteration sum size log blobs end false (begun_below end ordering) items damage → ahead items damage

-- The segments are found and the tail is read, from a place on, and what comes of it is ahead of an iterator.
abbrev pub Begins : (List ℕ → ℕ) → ℕ → List ℕ → (ℤ → Option (List ℕ)) → ℕ → (List Item → Damage → Type 0) → Type 0
Begins sum size log blobs least ahead =
    (ordering : List Segment) × IsOrdering sum size log least ordering
    × ((scanned : List Scanned) × IsTail sum size log ordering (tail_begins size least ordering) scanned × HaveGoodBlobs sum blobs scanned
    × IsBegun sum size log blobs ordering (tail_end scanned) ahead)

-- No iterator begins there, for damage that is named so: the segments that are found can't be of one log, which names no blob, or the tail is damaged.
abbrev pub IsDamagedFrom : (List ℕ → ℕ) → ℕ → List ℕ → (ℤ → Option (List ℕ)) → ℕ → Option DiskPtr → Type 0
IsDamagedFrom sum size log blobs least at =
    ((at ≡ None) × IsUnordered sum size log least)
    ⊎ ((ordering : List Segment) × IsOrdering sum size log least ordering × IsDamagedTail sum size log blobs ordering (tail_begins size least ordering) at)

-- an error of damage says that no iterator begins there, and names the damage
abbrev pub SaysDamageFrom : (List ℕ → ℕ) → ℕ → List ℕ → (ℤ → Option (List ℕ)) → ℕ → Error → Type 0
SaysDamageFrom sum size log blobs least e = OnDamage {T = Unit {0}} (Err e) (IsDamagedFrom sum size log blobs least)

-- No iterator began: what was lent comes back, and was only read. The device failed, which it counted, memory was refused, or something is damaged.
abbrev pub IsGivenBack : {D C : Type 0} → (D → Trace) → (D → ℕ) → (List ℕ → ℕ) → MutBor (RunningConfig D C) → Error → MutBor (RunningConfig D C) → Type 0
IsGivenBack trace faults sum lent e back =
    (back.ghost_name ≡ lent.ghost_name) × OnlyReads trace lent.now back.now × ItemAnswersOver {T = Unit {0}} trace faults sum (Err e) lent.now back.now
