-- What a log keeps in mind of its pool.
use Rattle.std.specs.Prelude.{◌≡◌, ◌+◌, ◌≤◌, ◌<◌, ℕ}
use native.Mathlib.Nat.{ℕ_set}
use native.Mathlib.Bridge.{le_prop}
use Rattle.sled_core.specs.Pool.{Pool}
use Rattle.sled_core.specs.declared.logger.io_bufs.IoBufs.{IoBufs}
use Rattle.sled_core.specs.inside.Begun.{last_buffer_in}

-- It has four buffers at most, with room for a segment of this size and for what is summed behind a record; and the bytes of the segment that is being
-- filled weren't given away.
pub record IsPooling (size : ℕ) (segments : IoBufs) (pool : Pool) : Type 0 where
  pub few : pool.count ≤ 4
  pub room : pool.room ≡ size + 32
  pub there : 0 < (last_buffer_in segments).bytes.room

-- A log keeps that as a proposition: there is one proof of it at most.
pub IsPooling-prop : (size : ℕ) (segments : IoBufs) (pool : Pool) → IsProp (IsPooling size segments pool)
IsPooling-prop size segments pool = λ p q i. record {
  few = le_prop p.few q.few i;
  room = ℕ_set _ _ p.room q.room i;
  there = le_prop p.there q.there i;
}
