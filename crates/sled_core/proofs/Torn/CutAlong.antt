-- While free slots at the end of a log file are cut off one after another, each cut synced: what holds of each state behind a sync, and of each with one cut behind it, holds at each moment.
use Rattle.std.proofs.Common.{◌≡◌, ◌≤◌, ◌<◌, ◌*◌, ◌∙◌, ℕ, zero, suc, Bool, true, false, if◌then◌else◌, List, [], ◌∷◌, take, sym, ap, arith, subst}
use Rattle.std.proofs.Math.Nat.{mul-le-mul_right}
use Rattle.std.proofs.lemmas.List.{take-take}
use Rattle.sled_store.specs.Device.{Event, LogState, State, at_rest, log_step, step, Cut, Synced}
use Rattle.sled_store.specs.inside.Script.{Along}
use Rattle.sled_store.specs.SegmentStates.{SlotState, may_be_cut, left_after, cutting}
use Rattle.sled_store.proofs.Accounts.StartNext.{left_below}
use Rattle.sled_core.proofs.Torn.CutSlots.{after_cut}

module _ (P : State → Type 0) (size : ℕ) (old : List ℕ) (slots : List SlotState) (s : State) where
  -- P holds of each state in which the file is cut to some slots, from so few to so many of them
  abbrev pub HoldsCut : ℕ → ℕ → Type 0
  HoldsCut least most = (m : ℕ) → least ≤ m → m ≤ most → (x : State) → x.log ≡ at_rest (take (m * size) old) → x.blobs ≡ s.blobs → x.snapshots ≡ s.snapshots → P x

  -- and of each in which one more was just cut off, of which as much is left as may be
  abbrev pub HoldsCutting : ℕ → ℕ → Type 0
  HoldsCutting least most = (m now : ℕ) → least ≤ m → m < most → m * size ≤ now → (x : State) → x.log ≡ after_cut size (take (suc m * size) old) m now → x.blobs ≡ s.blobs → x.snapshots ≡ s.snapshots → P x

  -- the last slot is cut off, and the cut synced
  module _ (k : ℕ) (x : State) (is : x.log ≡ at_rest (take (suc k * size) old)) where
    cut_state : (now : ℕ) → log_step (Cut (k * size) now) x.log ≡ after_cut size (take (suc k * size) old) k now
    cut_state now = ap (log_step (Cut (k * size) now)) is

    shorter : take (k * size) (take (suc k * size) old) ≡ take (k * size) old
    shorter = take-take (k * size) (suc k * size) old (mul-le-mul_right size (let le : k ≤ suc k = omega arith in le))

    synced_state : (step Synced (step (Cut (k * size) (k * size)) x)).log ≡ at_rest (take (k * size) old)
    synced_state = ap (λ (l : LogState). at_rest (take (k * size) l.bytes)) is ∙ ap at_rest shorter

  -- So P holds at each moment.
  pub cutting_along : (n : ℕ) → HoldsCut (left_after n slots) n → HoldsCutting (left_after n slots) n → (x : State) → x.log ≡ at_rest (take (n * size) old) → x.blobs ≡ s.blobs → x.snapshots ≡ s.snapshots → Along P (cutting size n slots) x
  cutting_along zero whole half x is blobs snapshots = whole 0 (omega arith) (omega arith) x is blobs snapshots
  cutting_along (suc k) whole half x is blobs snapshots = by (may_be_cut k slots) whole half (cutting_along k)
    where
      by : (b : Bool) → HoldsCut (if b then left_after k slots else suc k) (suc k) → HoldsCutting (if b then left_after k slots else suc k) (suc k)
          → (HoldsCut (left_after k slots) k → HoldsCutting (left_after k slots) k → (y : State) → y.log ≡ at_rest (take (k * size) old) → y.blobs ≡ s.blobs → y.snapshots ≡ s.snapshots → Along P (cutting size k slots) y)
          → Along P (if b then Cut (k * size) (k * size) ∷ Synced ∷ cutting size k slots else []) x
      by false whole half on = whole (suc k) (omega arith) (omega arith) x is blobs snapshots
      by true whole half on =
          let below : left_after k slots ≤ k = left_below slots k in (
            whole (suc k) (omega (arith, below)) (omega arith) x is blobs snapshots,
            (λ torn tears. subst (λ (e : Event). P (step e x)) (sym tears.2) (half k tears.0 below (omega arith) tears.1 (step (Cut (k * size) tears.0) x) (cut_state k x is tears.0) blobs snapshots)),
            (
              half k (k * size) below (omega arith) (omega arith) (step (Cut (k * size) (k * size)) x) (cut_state k x is (k * size)) blobs snapshots,
              (λ torn none. absurd none),
              on (λ m low high. whole m low (omega (arith, high))) (λ m now low high. half m now low (omega (arith, high))) (step Synced (step (Cut (k * size) (k * size)) x)) (synced_state k x is) blobs snapshots,
            ),
          )
