-- What a generator keeps of its log, and what its calls answer.
use Rattle.std.specs.Prelude.{◌≡◌, ◌≤◌, ◌<◌, ◌⊎◌, ◌+◌, ◌-◌, ◌^◌, nat_lt, if◌then◌else◌, ℕ, List, length, Option, None, Result, Ok, Err, OnOk, max, min}
use Rattle.std.specs.declared.io.Error.{Error as IoError}
use Rattle.sled_codec.specs.declared.result.Error.{Error}
use Rattle.sled_codec.specs.declared.result.Error.TheVariants.{Io, OutOfMemory, PlacesUsedUp}
use Rattle.sled_codec.specs.History.{Message, History}
use Rattle.sled_codec.specs.Spelling.{short_number}
use Rattle.sled_store.specs.Device.{Trace, State}
use Rattle.sled_store.specs.Moments.{IsLater, Throughout}
use Rattle.sled_store.specs.Script.{Performs, after_all}
use Rattle.sled_store.specs.declared.config.RunningConfig.{RunningConfig}
use Rattle.sled_core.specs.declared.logger.Log.{Log}
use Rattle.sled_core.specs.Causes.{IsFault}
use Rattle.sled_core.specs.Keeps.{ConfigKept}
use Rattle.sled_core.specs.Fits.{IsUsedUpBelow, IsUsedUpFor, config_of, fault_of, position_behind, position_of, reserved_end, segment_size_of}
use Rattle.sled_core.specs.Fronts.{WritesWhole}
use Rattle.sled_core.specs.Positions.{Position}
use Rattle.sled_core.specs.Recoverable.{ReadsOnlyOwn}
use Rattle.sled_core.specs.invariants.Running.{Fits}
use Rattle.sled_core.specs.Waiting.{BufferAt, writes_below}
use Rattle.sled_log.specs.RunStates.{EndsInReach}
use Rattle.ids.specs.declared.generator.IdGenerator.{IdGenerator}
use Rattle.ids.specs.Bounds.{IsOfBounds, HasBoundBelow, HasMost, Reserves, GivesFrom}
use Rattle.ids.specs.Readings.{CountsError}

-- A log has the bounds of a generator: one that was acknowledged, and the greatest that was asked for, which may not be durable yet.
pub record HasBounds {D C : Type 0} (trace : D → Trace) (sum : List ℕ → ℕ) (log : Log D C) (bound asked : ℕ) : Type 0 where
  pub history : History
  pub acknowledged : ℕ
  pub floor : ℕ
  pub unmarked : List Message
  pub fits : Fits trace sum log history acknowledged floor unmarked
  pub bounds : IsOfBounds history
  pub reserved : Reserves history (max acknowledged floor) bound
  pub most : HasMost history asked
  pub there : (asked ≡ bound) ⊎ HasBoundBelow history (reserved_end log) asked

-- its log
abbrev pub log_of : {D C : Type 0} → IdGenerator D C → Log D C
log_of g = g.log

-- the identifier that it gives next
abbrev pub next_of : {D C : Type 0} → IdGenerator D C → ℕ
next_of g = g.next

-- the end of the block that it gives from, the greatest end that it asked for, and how many identifiers a block has
abbrev pub bound_of : {D C : Type 0} → IdGenerator D C → ℕ
bound_of g = g.bound

abbrev pub asked_of : {D C : Type 0} → IdGenerator D C → ℕ
asked_of g = g.asked

abbrev pub block_of : {D C : Type 0} → IdGenerator D C → ℕ
block_of g = g.block

-- what a generator has its log keep
unfoldable pub Generates : {D C : Type 0} → (D → Trace) → (List ℕ → ℕ) → IdGenerator D C → Type 0
Generates trace sum g = HasBounds trace sum (log_of g) (bound_of g) (asked_of g)

-- the same identifiers of the same block come
pub record SameBlock {D C : Type 0} (old new : IdGenerator D C) : Type 0 where
  pub next : next_of new ≡ next_of old
  pub bound : bound_of new ≡ bound_of old
  pub block : block_of new ≡ block_of old

-- what it runs on
abbrev pub running : {D C : Type 0} → IdGenerator D C → RunningConfig D C
running g = config_of (log_of g)

-- the same identifiers come, over the same log
pub record SameNext {D C : Type 0} (old new : IdGenerator D C) : Type 0 where
  pub next : next_of new ≡ next_of old
  pub bound : bound_of new ≡ bound_of old
  pub asked : asked_of new ≡ asked_of old
  pub log : log_of new ≡ log_of old

-- the size of its log's segments, and the failure of the device that its log keeps
abbrev pub size_of : {D C : Type 0} → IdGenerator D C → ℕ
size_of g = segment_size_of (log_of g)

abbrev pub kept_fault : {D C : Type 0} → IdGenerator D C → Option IoError
kept_fault g = fault_of (log_of g)

-- the end of the block behind the last one that was asked for, of which as many identifiers are left as a block has, or fewer
abbrev pub further_bound : {D C : Type 0} → IdGenerator D C → ℕ
further_bound g = min (bound_of g + block_of g) (2 ^ 64 - 1)

-- the end of the block of the identifier that comes: the one that it is of, or behind it the one that was asked for already, or a further block
abbrev pub next_bound : {D C : Type 0} → IdGenerator D C → ℕ
next_bound g = if nat_lt (next_of g) (bound_of g) then bound_of g else (if nat_lt (bound_of g) (asked_of g) then asked_of g else further_bound g)

-- A generator goes on giving: it asks for a further block at most, keeps what it has its log keep, and at each moment its device gives from the end of the
-- block before.
pub record GivesOn {D C : Type 0} (trace : D → Trace) (sum : List ℕ → ℕ) (old new : IdGenerator D C) : Type 0 where
  pub asked : asked_of new ≤ asked_of old + block_of old
  pub block : block_of new ≡ block_of old
  pub generates : Generates trace sum old → Generates trace sum new
  pub keeps : Generates trace sum old
      → Throughout (GivesFrom sum (size_of old) (bound_of old) (asked_of old + block_of old)) (trace (running old).device) (trace (running new).device)
  pub later : IsLater (trace (running old).device) (trace (running new).device)
  pub config : ConfigKept (running old) (running new)

-- what a generator that was opened runs on, or what came back where none was
abbrev pub running_after : {D C : Type 0} → Result (IdGenerator D C) (Error × RunningConfig D C) → RunningConfig D C
running_after (Ok g) = running g
running_after (Err e) = e.1

-- a failure of the device was counted, and only that was, where a generator was to be opened
abbrev pub CountsFault : {T R : Type 0} → Result T (Error × R) → ℕ → ℕ → Type 0
CountsFault (Ok g) before after = after ≡ before
CountsFault (Err e) before after = CountsError e.0 before after

-- how many bytes the item of a further bound has
abbrev pub further_length : {D C : Type 0} → IdGenerator D C → ℕ
further_length g = length (short_number (further_bound g))

-- where the next record of its log may begin then: behind the record of a further bound, where that has to be asked for
abbrev pub next_position : {D C : Type 0} → IdGenerator D C → Position
next_position g =
    if nat_lt (next_of g) (bound_of g) then position_of (log_of g)
    else (if nat_lt (bound_of g) (asked_of g) then position_of (log_of g) else position_behind (log_of g) 0 (further_length g))

-- A generator's log needs a further segment that isn't in reach: for the record of a further bound, or to flush that; or to flush the bound that was asked for.
abbrev pub NeedsSegment : {D C : Type 0} → IdGenerator D C → Type 0
NeedsSegment g =
    ((asked_of g ≡ bound_of g)
    × (IsUsedUpFor (log_of g) 0 (further_length g) ⊎ (EndsInReach (size_of g) (position_behind (log_of g) 0 (further_length g)) → ⊥)))
    ⊎ ((bound_of g < asked_of g) × IsUsedUpBelow (log_of g) (reserved_end (log_of g)))

-- No identifier is left above its block; or its log, which keeps no failure, needs such a segment.
abbrev pub IsUsedUp : {D C : Type 0} → IdGenerator D C → Type 0
IsUsedUp g = (bound_of g ≡ 2 ^ 64 - 1) ⊎ ((kept_fault g ≡ None) × NeedsSegment g)

-- Its block has an identifier; or its log keeps no failure, identifiers are left above the block, and no record for that needs such a segment.
abbrev pub HasRoom : {D C : Type 0} → IdGenerator D C → Type 0
HasRoom g =
    (next_of g < bound_of g)
    ⊎ ((kept_fault g ≡ None) × (bound_of g < 2 ^ 64 - 1) × (asked_of g ≡ bound_of g → IsUsedUpFor (log_of g) 0 (further_length g) → ⊥)
    × (bound_of g < asked_of g → IsUsedUpBelow (log_of g) (reserved_end (log_of g)) → ⊥))

-- The record of a further bound was put into its log, which keeps no failure and had a place for that.
pub record HasAsked {D C : Type 0} (old new : IdGenerator D C) : Type 0 where
  pub sound : kept_fault old ≡ None
  pub room : IsUsedUpFor (log_of old) 0 (further_length old) → ⊥
  pub position : position_of (log_of new) ≡ position_behind (log_of old) 0 (further_length old)

-- Nothing was asked for; or the block of the identifier that comes was, by one record at most: its bound is the greatest that is in the log's history.
abbrev pub MayHaveAsked : {D C : Type 0} → IdGenerator D C → IdGenerator D C → Type 0
MayHaveAsked old new =
    ((asked_of new ≡ asked_of old) × (position_of (log_of new) ≡ position_of (log_of old)))
    ⊎ ((asked_of new ≡ next_bound old) × (position_of (log_of new) ≡ next_position old))

-- Why none was given out: the log keeps a failure, or the device failed in this call; or memory was refused, while the log keeps none; or places are used
-- up, where this is so.
abbrev pub NextFails : Error → Type 0 → Option IoError → Option IoError → ℕ → ℕ → Type 0
NextFails (Io e) used old new before after = IsFault e old new before after
NextFails OutOfMemory used old new before after = (old ≡ None) × (new ≡ None) × (after ≡ before)
NextFails PlacesUsedUp used old new before after = used × (new ≡ old) × (after ≡ before)
NextFails _ used old new before after = ⊥

-- An identifier was given out, and no call of the device failed; or none for one of these reasons.
abbrev pub NextAnswers : {T D C : Type 0} → (D → ℕ) → Result T Error → IdGenerator D C → IdGenerator D C → Type 0
NextAnswers faults (Ok id) old new = (kept_fault new ≡ kept_fault old) × (faults (running new).device ≡ faults (running old).device)
NextAnswers faults (Err e) old new = NextFails e (IsUsedUp old) (kept_fault old) (kept_fault new) (faults (running old).device) (faults (running new).device)

-- what holds of a call that was refused what it needs, while its device didn't fail
abbrev pub OnRefusal : {T : Type 0} → Result T Error → Type 0 → Type 0
OnRefusal (Ok x) P = Unit {0}
OnRefusal (Err (Io e)) P = Unit {0}
OnRefusal (Err e) P = P

-- Buffers of a log were written that begin below a place, one write and one sync for each: all of them where the call succeeds, and else up to a call that
-- failed. Where the device didn't fail, so many of them were written whole, and no other call was made.
pub record WritesBuffers {T : Type 0} (result : Result T Error) (old new : Trace) : Type 0 where
  pub to : ℕ
  pub buffers : List BufferAt
  pub made : OnOk result (new ≡ after_all (writes_below to buffers) old)
  pub at_most : Performs (writes_below to buffers) old new
  pub whole : OnRefusal result ((count : ℕ) × WritesWhole count (writes_below to buffers) old new)

-- A generator can be opened on this device: what was given out isn't given again, and what a recovery reads is what the log itself wrote.
pub record CanOpen (sum : List ℕ → ℕ) (size n most : ℕ) (device : State) : Type 0 where
  pub gives : GivesFrom sum size n most device
  pub own : ReadsOnlyOwn sum size device
