-- What a crash leaves can be recovered, and what comes behind the recovery lasts: the slots that are needed keep their numbers.
use Rattle.std.specs.Prelude.{◌≤◌, ℕ, List}
use Rattle.sled_codec.specs.History.{History}
use Rattle.sled_store.specs.Device.{Content, State}
use Rattle.sled_store.specs.Moments.{AllLeft}
use Rattle.sled_core.specs.NoForeign.{NoForeign, NoHeaderOfZeros}
use Rattle.sled_core.specs.inside.Numbers.{NumbersStay}
use Rattle.sled_core.specs.invariants.Recoverable.{Recoverable}

-- a content in which only what the log itself wrote passes as its own is recoverable, whatever comes behind that
abbrev pub RecoversIfOwn : (List ℕ → ℕ) → ℕ → History → ℕ → ℕ → State → Content → Type 0
RecoversIfOwn sum size H A f past left = NoForeign sum size past left → Recoverable sum size left H A f

-- So is each content that a crash now may leave.
abbrev pub LeavesRecovering : (List ℕ → ℕ) → ℕ → History → ℕ → ℕ → State → Type 0
LeavesRecovering sum size H A f = AllLeft (RecoversIfOwn sum size H A f)

-- With all below a place counted as acknowledged what a crash leaves can be recovered, and the slots that tables need from there on keep their numbers.
pub record LastsFrom (sum : List ℕ → ℕ) (size : ℕ) (H : History) (stable f : ℕ) (s : State) : Type 0 where
  pub can : LeavesRecovering sum size H stable f s
  pub numbers : NoHeaderOfZeros sum → NumbersStay sum size s H stable

-- So it is from some place on that isn't below the end of what was acknowledged. (Of tables below that place nothing is said: their slots may have come free.)
pub record IsLasting (sum : List ℕ → ℕ) (size : ℕ) (s : State) (H : History) (A f : ℕ) : Type 0 where
  pub stable : ℕ
  pub passes : A ≤ stable
  pub lasts : LastsFrom sum size H stable f s
