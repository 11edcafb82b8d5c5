-- What a call makes of the buffers of segments that a log keeps for further ones.
use Rattle.std.specs.Prelude.{◌≡◌, ◌+◌, ◌-◌, ◌≤◌, if◌then◌else◌, ℕ, length, min}
use Rattle.sled_core.specs.declared.logger.Log.{Log}
use Rattle.sled_core.specs.Fits.{current_of, pooled_of, segment_size_of, unwritten_segments}
use Rattle.sled_core.specs.Positions.{is_short}
use Rattle.sled_core.specs.Waiting.{holds_any}

-- how many segments are begun where the current buffer is sealed: one where no further record has room in its segment
abbrev pub begun_sealed : {D C : Type 0} → Log D C → ℕ
begun_sealed log = if is_short (segment_size_of log) (length (current_of log).parts.bytes) then 1 else 0

-- so many are where it is sealed only if it holds anything
abbrev pub begun_rolled : {D C : Type 0} → Log D C → ℕ
begun_rolled log = if holds_any (current_of log) then begun_sealed log else 0

-- A call begins so many segments, each of which takes a buffer where there is one. Then each segment that is wholly on the device by it gives one, as long
-- as there are fewer than four.
pub record PoolsWith {D C : Type 0} (begun : ℕ) (old new : Log D C) : Type 0 where
  pub fewer : unwritten_segments new ≤ unwritten_segments old + begun
  pub pooled : pooled_of new ≡ min 4 (pooled_of old - begun + (unwritten_segments old + begun - unwritten_segments new))

-- It begins one at most.
abbrev pub PoolsSome : {D C : Type 0} → Log D C → Log D C → Type 0
PoolsSome old new = (begun : ℕ) × (begun ≤ 1) × PoolsWith begun old new
