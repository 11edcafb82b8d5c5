-- Once no name is left on the list, each has its latest state alone.
use Rattle.std.proofs.Common.{◌≡◌, ◌∙◌, ◌++◌, ◌∷◌, [], ap, sym, subst, rules, ℤ, Vec, to_z, of_z, w64}
use Rattle.std.specs.Ordering.{int_eq}
use Rattle.std.specs.declared.alloc.Global.{Global}
use Rattle.sled_store.specs.inside.MemoryNames.{states_of, latest, files_under}
use Rattle.sled_store.specs.declared.device.memory.named_files.MemNames.{MemNames}
use Rattle.sled_store.proofs.Names.KeepsLemmas.{KeptMap}
use Rattle.sled_store.proofs.Names.SettlingLemmas.{settling_first, settling_next, settling_last}
use Rattle.sled_store.proofs.device.memory.named_files.MemNames.settle_changed.Goals as goal

pub loop-name-init : goal.loop-name-init
loop-name-init c = λ s keeps. settling_first c.args.self.now s c.requires keeps

pub loop-name-preserved : goal.loop-name-preserved
loop-name-preserved c = λ s keeps.
    let name : ℤ = c.in-Some.name in
    let old : KeptMap = c.loop-name.self.kept in
    let new : KeptMap = c.settle_one.new.self.kept in
    let is : to_z w64 (of_z w64 name) ≡ name = search rules in
    settling_next old new c.loop-name.self.changed.items c.settle_one.new.self.changed.items name s
    (c.in-Some.ensures.items ∙ ap (λ (left : Vec ℤ Global). left.items ++ name ∷ []) (sym c.settle_one.ensures.changed))
    (subst (λ (m : ℤ). states_of (files_under new m) ≡ latest (states_of (files_under old m)) ∷ []) is c.settle_one.ensures.here)
    (λ n other. c.settle_one.ensures.others n (ap (λ (m : ℤ). int_eq m n) is ∙ other))
    (c.loop-name.invariant s keeps)

pub returns : goal.returns
returns c = λ s keeps.
    let empty : c.loop-name.self.changed.items ≡ [] = search rules in
    let left : MemNames = record { kept = c.loop-name.self.kept; changed = c.pop.new.self; has_unlisted = c.loop-name.self.has_unlisted } in
    settling_last left c.loop-name.self.changed.items s empty (c.loop-name.invariant s keeps)
