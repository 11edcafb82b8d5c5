-- The file is alone under its name, and others stay.
use Rattle.std.proofs.Common.{◌≡◌, ◌<◌, ◌∙◌, ap, sym, subst, rules, None, ℤ, List, length, to_z, of_z, w64}
use Rattle.std.specs.Ordering.{int_cmp}
use Rattle.std.specs.BTreeMap.{get}
use Rattle.sled_store.specs.declared.device.memory.named_files.version.FileVersion.{FileVersion}
use Rattle.sled_store.specs.inside.MemoryNames.{states_of}
use Rattle.sled_store.proofs.Names.KeepsLemmas.{KeptMap, written, found_under, put_here, none_under}
use Rattle.sled_store.proofs.device.memory.named_files.MemNames.put.Goals as goal

pub put_alone-requires : goal.put_alone-requires
put_alone-requires c =
    let name : ℤ = c.args.name in
    let old : KeptMap = c.args.self.now.kept in
    let is : to_z w64 (of_z w64 name) ≡ name = search rules in
    let some : 0 < length c.in-Some.kept.now.items = subst (λ (xs : List FileVersion). 0 < length xs) (sym (found_under old _ name c.in-Some.kept.now is c.in-Some.ensures.value)) c.requires in
    search rules

pub returns-in-Some-clause-here : goal.returns-in-Some-clause-here
returns-in-Some-clause-here c =
    let name : ℤ = c.args.name in
    let old : KeptMap = c.args.self.now.kept in
    let is : to_z w64 (of_z w64 name) ≡ name = search rules in
    let new : KeptMap = c.get_mut.follows.lender c.put_alone.new.kept in
    let put = written old new _ name c.in-Some.kept.now c.put_alone.new.kept is c.in-Some.ensures.value (c.get_mut.follows.holds c.put_alone.new.kept) in
    ap states_of (put_here old new name c.put_alone.new.kept put ∙ c.put_alone.ensures)

pub returns-in_default-clause-here : goal.returns-in_default-clause-here
returns-in_default-clause-here c =
    let is : to_z w64 (of_z w64 c.args.name) ≡ c.args.name = search rules in
    let none : None ≡ get int_cmp c.args.self.now.kept c.args.name = subst (λ (n : ℤ). None ≡ get int_cmp c.args.self.now.kept n) is c.in_default.ensures.value in
    absurd (none_under c.args.self.now.kept c.args.name none c.requires)
