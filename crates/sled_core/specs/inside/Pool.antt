-- What holds of a log's pool, and of a log with it.
use Rattle.std.specs.Prelude.{◌≡◌, ◌+◌, ◌≤◌, ◌<◌, ℕ, [], length, All, vec_capacity}
use Rattle.sled_core.specs.declared.logger.pool.SegmentPool.TheInside.{Inside}

-- There are four at most, with room for so many, and each is empty, with the room that all have.
pub record IsPool (p : Inside) : Type 0 where
  pub few : length p.spare.items ≤ 4
  pub place : 4 ≤ vec_capacity p.spare
  pub each : All (λ v. (v.items ≡ []) × (p.room ≤ vec_capacity v)) p.spare.items
