-- One more name is above the one before it.
use Rattle.std.proofs.Common.{◌≡◌, ◌<◌, ◌≤◌, ◌∙◌, ap, sym, ℕ, ℤ, Vec, List, length, drop, true, int_lt, rules, arith, ◌-◌, ◌+◌}
use Rattle.std.specs.declared.alloc.Global.{Global}
use Rattle.sled_store.specs.Chosen.{are_ascending}
use Rattle.sled_store.specs.Noted.{files_of}
use Rattle.sled_store.proofs.Names.OfferLemmas.{ascending_step, ascending_end}
use Rattle.sled_store.proofs.device.memory.crash.offer.is_ascending.Goals as goal

pub loop-i-preserved : goal.loop-i-preserved
loop-i-preserved c =
    let xs : List (ℤ × Vec ℕ Global) = c.args.files.now.items in
    let i = c.loop-i.i in
    let there : i < length xs = omega arith in
    let back : i + 1 - 1 ≡ i = omega arith in
    let up : int_lt c.index.result.now.0 c.index-in-loop-i.result.now.0 ≡ true = search rules in
    record {
      some = omega arith;
      so_far = ap (λ (k : ℕ). are_ascending (files_of (drop k xs))) back
          ∙ ascending_step xs i c.index.result.now c.index-in-loop-i.result.now c.loop-i.invariant.some there (search rules) (search rules) up
          ∙ c.loop-i.invariant.so_far;
    }

pub returns : goal.returns
returns c =
    let xs : List (ℤ × Vec ℕ Global) = c.args.files.now.items in
    let past : length xs ≤ c.loop-i.i = omega arith in
    sym (ascending_end xs c.loop-i.i c.loop-i.invariant.some past) ∙ c.loop-i.invariant.so_far
