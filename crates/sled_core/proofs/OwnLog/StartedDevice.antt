-- Behind a start what is read of each slot of the log file was placed, where it was before: the calls fill slots with zeros and sync, and cut slots off the end, each with a sync.
use Rattle.std.proofs.Common.{◌≡◌, ◌≤◌, ◌<◌, ◌+◌, ◌-◌, ◌*◌, ℕ, zero, suc, Bool, true, false, if◌then◌else◌, List, [], ◌∷◌, ◌++◌, length, map, replicate, take, sym, subst, arith, length-take}
use Rattle.std.specs.List.{All}
use Rattle.std.proofs.Math.Nat.{div-mul-le_self}
use Rattle.std.proofs.lemmas.List.Elements.{All-tail}
use Rattle.sled_codec.specs.Snapshots.{SnapshotModel}
use Rattle.sled_store.specs.Begin.{fill, filling, slots_of, unused}
use Rattle.sled_store.specs.Device.{Cut, Synced, Trace, state_of, step}
use Rattle.sled_store.specs.Script.{after_all}
use Rattle.sled_store.specs.SegmentStates.{SlotState, cutting, may_be_cut}
use Rattle.sled_store.specs.Started.{found, started}
use Rattle.sled_store.proofs.Accounts.StartedFile.{free_begin}
use Rattle.sled_store.proofs.Traces.ScriptLemmas.{after_joined}
use Rattle.sled_core.specs.inside.OwnLog.{ReadsPlaced}
use Rattle.sled_core.specs.Recoverable.{NoHeaderOfZeros}
use Rattle.sled_core.proofs.Tail.LogFileLemmas.{file_grows}
use Rattle.sled_core.proofs.OwnLog.Starting.{file_synced, slot_overwritten, slots_cut}

module _ (sum : List ℕ → ℕ) (size : ℕ) (none : NoHeaderOfZeros sum) (big : 32 ≤ size) where
  -- what is read of each slot of a device's log file was placed
  abbrev Placed : Trace → Type 0
  Placed t = ReadsPlaced sum size (state_of t)

  abbrev long : Trace → ℕ
  long t = length (state_of t).log.bytes

  -- the file doesn't get shorter where a slot is filled
  one_longer : (k : ℕ) (t : Trace) → long t ≤ long (fill size k ∷ t)
  one_longer k t = file_grows sum size (state_of t).log.bytes (k * size) (replicate size 0)

  -- Slots are filled.
  fills_longer : (ks : List ℕ) (t : Trace) → long t ≤ long (after_all (map (fill size) ks ++ Synced ∷ []) t)
  fills_longer [] t = omega arith
  fills_longer (k ∷ ks) t = let here = one_longer k t in let rest = fills_longer ks (fill size k ∷ t) in omega (arith, here, rest)

  filling_longer : (ks : List ℕ) (t : Trace) → long t ≤ long (after_all (filling size ks) t)
  filling_longer [] t = omega arith
  filling_longer (k ∷ ks) t = fills_longer (k ∷ ks) t

  fills_placed : (ks : List ℕ) (t : Trace) → All (λ k. k * size < long t) ks → Placed t → Placed (after_all (map (fill size) ks ++ Synced ∷ []) t)
  fills_placed [] t within own = file_synced sum size none big (state_of t) own
  fills_placed (k ∷ ks) t within own =
      let here : k * size < long t = within 0 k (omega arith) in
      let here_low : k * size ≤ long t = omega (arith, here) in
      let more = one_longer k t in
      fills_placed ks (fill size k ∷ t) (λ j d lt. let low = All-tail (λ (x : ℕ). x * size < long t) k ks within j d lt in omega (arith, low, more)) (slot_overwritten sum size none big (state_of t) k here_low own)

  filling_placed : (ks : List ℕ) (t : Trace) → All (λ k. k * size < long t) ks → Placed t → Placed (after_all (filling size ks) t)
  filling_placed [] t within own = own
  filling_placed (k ∷ ks) t within own = fills_placed (k ∷ ks) t within own

  -- Slots are cut off the end.
  module _ (xs : List SlotState) where
    cutting_placed : (n : ℕ) (t : Trace) → n * size ≤ long t + size → Placed t → Placed (after_all (cutting size n xs) t)
    cutting_placed zero t covers own = own
    cutting_placed (suc k) t covers own =
        by (may_be_cut k xs) (cutting_placed k (Synced ∷ Cut (k * size) (k * size) ∷ t) shorter (file_synced sum size none big (step (Cut (k * size) (k * size)) (state_of t)) (slots_cut sum size none big (state_of t) k inside own)))
      where
        inside : k * size ≤ long t
        inside = omega (arith, covers)

        shorter : k * size ≤ length (take (k * size) (state_of t).log.bytes) + size
        shorter = omega (arith, inside, length-take (k * size) (state_of t).log.bytes)

        by : (b : Bool) → Placed (after_all (cutting size k xs) (Synced ∷ Cut (k * size) (k * size) ∷ t)) → Placed (after_all (if b then Cut (k * size) (k * size) ∷ Synced ∷ cutting size k xs else []) t)
        by true on = on
        by false on = own

  -- The whole of a start.
  pub started_placed : (s : SnapshotModel) (old new : Trace) → new ≡ after_all (started size (length (state_of old).log.bytes) s).calls old → ReadsPlaced sum size (state_of old) → ReadsPlaced sum size (state_of new)
  started_placed s old new made own =
      let some : 0 < size = omega (arith, big) in
      let slots : ℕ = slots_of size (long old) in
      let free : List ℕ = unused size slots s in
      let mid : Trace = after_all (filling size free) old in
      let joined : after_all (started size (long old) s).calls old ≡ after_all (cutting size slots (found size slots s).slots) mid = after_joined (filling size free) (cutting size slots (found size slots s).slots) old in
      let low = div-mul-le_self (long old + (size - 1)) size in
      let more = filling_longer free old in
      let covers : slots * size ≤ long mid + size = omega (arith, low, more, some) in
      subst Placed (sym made)
      (subst Placed (sym joined) (cutting_placed (found size slots s).slots slots mid covers (filling_placed free old (free_begin size some (state_of old).log.bytes s) own)))
