-- What is found are the files of the name.
use Rattle.std.proofs.Common.{◌≡◌, ◌∙◌, ap, subst, Option, Some, None, Vec, ℤ, rules, to_z, of_z, w64}
use Rattle.std.specs.Ordering.{int_cmp}
use Rattle.std.specs.BTreeMap.{get}
use Rattle.std.specs.declared.alloc.Global.{Global}
use Rattle.sled_store.specs.declared.device.memory.named_files.version.FileVersion.{FileVersion}
use Rattle.sled_store.specs.inside.MemoryNames.{files_found}
use Rattle.sled_store.proofs.device.memory.named_files.MemNames.under.Goals as goal

pub returns-in-Some : goal.returns-in-Some
returns-in-Some c =
    let is : to_z w64 (of_z w64 c.args.name) ≡ c.args.name = search rules in
    let found : Some c.in-Some.kept.now ≡ get int_cmp c.args.self.now.kept c.args.name =
    subst (λ (n : ℤ). Some c.in-Some.kept.now ≡ get int_cmp c.args.self.now.kept n) is c.in-Some.ensures.value in
    c.deref.ensures.value ∙ ap (λ (o : Option (Vec FileVersion Global)). files_found o) found

pub returns-in-None : goal.returns-in-None
returns-in-None c =
    let is : to_z w64 (of_z w64 c.args.name) ≡ c.args.name = search rules in
    let found : None ≡ get int_cmp c.args.self.now.kept c.args.name =
    subst (λ (n : ℤ). None ≡ get int_cmp c.args.self.now.kept n) is c.in-None.ensures.value in
    ap (λ (o : Option (Vec FileVersion Global)). files_found o) found
