-- What a crate above may rely on of generators: where a device gives identifiers from, at first, behind a crash, and while a generator is open.
use Rattle.std.proofs.Common.{◌≤◌, ◌<◌, ◌^◌, ◌∷◌, ℕ, List, inl, refl}
use Rattle.sled_codec.specs.History.{no_history}
use Rattle.sled_store.specs.Device.{Crashed, Left, Leaves, Trace, content_left, fresh, state_of}
use Rattle.sled_core.specs.Recoverable.{NoForeign}
use Rattle.sled_core.proofs.PublicLaws.{crash_recoverable, fresh_leaves}
use Rattle.ids.specs.Bounds.{GivesFrom}
use Rattle.ids.proofs.BoundLemmas.{no_bound, no_bounds}
pub use Rattle.ids.proofs.Generating.{generates_gives}
pub use Rattle.ids.proofs.Moments.{gives_less}

-- A device that was never written to gives from 0 on.
pub gives_first : (sum : List ℕ → ℕ) (size : ℕ) → 256 ≤ size → size < 2 ^ 63 → GivesFrom sum size 0 0 fresh
gives_first sum size large small = record {
  history = no_history;
  acknowledged = 0;
  floor = 0;
  bounds = no_bounds;
  reserved = inl refl;
  greatest = no_bound;
  left = fresh_leaves sum size large small;
}

-- Behind a crash it gives from where it gave before.
pub gives_behind : (sum : List ℕ → ℕ) (size n most : ℕ) (trace : Trace) (left : Left) → GivesFrom sum size n most (state_of trace) → Leaves (state_of trace) (content_left left (state_of trace))
    → NoForeign sum size (state_of trace) (content_left left (state_of trace)) → GivesFrom sum size n most (state_of (Crashed left ∷ trace))
gives_behind sum size n most trace left gives may own = record {
  history = gives.history;
  acknowledged = gives.acknowledged;
  floor = gives.floor;
  bounds = gives.bounds;
  reserved = gives.reserved;
  greatest = gives.greatest;
  left = (crash_recoverable sum size gives.history gives.acknowledged gives.floor trace left gives.left may own).1;
}
