-- What the map has at the name is the file.
use Rattle.std.proofs.Common.{◌≡◌, ap, sym, subst, ℕ, ℤ, Option, Some, None, Vec, rules, to_z, of_z, w64}
use Rattle.std.specs.Ordering.{int_cmp}
use Rattle.std.specs.BTreeMap.{get}
use Rattle.std.specs.declared.alloc.Global.{Global}
use Rattle.sled_file.specs.Mirrors.{bytes_found}
use Rattle.sled_file.proofs.mirror.named.NamedFiles.find.Goals as goal

pub returns-in-Some : goal.returns-in-Some
returns-in-Some c =
    let is : to_z w64 (of_z w64 c.args.name) ≡ c.args.name = search rules in
    let found : Some c.in-Some.bytes.now ≡ get int_cmp c.args.self.now.files c.args.name =
    subst (λ (n : ℤ). Some c.in-Some.bytes.now ≡ get int_cmp c.args.self.now.files n) is c.in-Some.ensures.value in
    sym (ap (λ (o : Option (Vec ℕ Global)). bytes_found o) found)

pub returns-in-None : goal.returns-in-None
returns-in-None c =
    let is : to_z w64 (of_z w64 c.args.name) ≡ c.args.name = search rules in
    let found : None ≡ get int_cmp c.args.self.now.files c.args.name =
    subst (λ (n : ℤ). None ≡ get int_cmp c.args.self.now.files n) is c.in-None.ensures.value in
    sym (ap (λ (o : Option (Vec ℕ Global)). bytes_found o) found)
