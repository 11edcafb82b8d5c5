-- What a device gives from: at each moment where a crash leaves what can be recovered for one history of bounds.
use Rattle.std.proofs.Common.{◌≤◌, ℕ, List, max, arith}
use Rattle.sled_codec.specs.History.{History}
use Rattle.sled_store.specs.Device.{State, Trace}
use Rattle.sled_store.specs.Moments.{AllLeft, LeavesOnly, Throughout}
use Rattle.sled_store.proofs.PublicLaws.{weaker}
use Rattle.sled_core.specs.Recoverable.{RecoverableIfOwn}
use Rattle.ids.specs.Bounds.{GivesFrom, HasMost, IsOfBounds, Reserves}
use Rattle.ids.proofs.BoundLemmas.{reserves_less}

-- What gives from one identifier gives from a lower one, too, and up to a higher one.
pub gives_less : (sum : List ℕ → ℕ) (size n less most more : ℕ) (device : State) → less ≤ n → most ≤ more → GivesFrom sum size n most device → GivesFrom sum size less more device
gives_less sum size n less most more device low high gives = record {
  history = gives.history;
  acknowledged = gives.acknowledged;
  floor = gives.floor;
  bounds = gives.bounds;
  reserved = reserves_less gives.history (max gives.acknowledged gives.floor) (max gives.acknowledged gives.floor) n less (omega arith) low gives.reserved;
  greatest = λ m k there has. (let le = gives.greatest m k there has in omega (arith, le, high));
  left = gives.left;
}

-- It does at each moment.
pub through_less : (sum : List ℕ → ℕ) (size n less most more : ℕ) (old new : Trace) → less ≤ n → most ≤ more → Throughout (GivesFrom sum size n most) old new → Throughout (GivesFrom sum size less more) old new
through_less sum size n less most more old new low high run =
    weaker (GivesFrom sum size n most) (GivesFrom sum size less more) (λ device gives. gives_less sum size n less most more device low high gives) old new run

-- A history of bounds, of which a crash leaves enough at each moment.
module _ (sum : List ℕ → ℕ) (size n most : ℕ) (H : History) (A f : ℕ) (bounds : IsOfBounds H) (reserved : Reserves H (max A f) n) (greatest : HasMost H most) where
  pub gives_now : (device : State) → AllLeft (RecoverableIfOwn sum size H A f) device → GivesFrom sum size n most device
  gives_now device left = record { history = H; acknowledged = A; floor = f; bounds = bounds; reserved = reserved; greatest = greatest; left = left }

  pub gives_throughout : (old new : Trace) → LeavesOnly (RecoverableIfOwn sum size H A f) old new → Throughout (GivesFrom sum size n most) old new
  gives_throughout old new run = weaker (AllLeft (RecoverableIfOwn sum size H A f)) (GivesFrom sum size n most) gives_now old new run
