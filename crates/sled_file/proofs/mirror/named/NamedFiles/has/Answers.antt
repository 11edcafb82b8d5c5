-- What is found under the name says it.
use Rattle.std.proofs.Common.{◌≡◌, ap, sym, subst, ℕ, ℤ, List, Option, Some, None, is_some, rules, to_z, of_z, w64}
use Rattle.sled_file.specs.Mirrors.{file_in}
use Rattle.sled_file.proofs.mirror.named.NamedFiles.has.Goals as goal

pub returns-in-Some : goal.returns-in-Some
returns-in-Some c =
    let is : to_z w64 (of_z w64 c.args.name) ≡ c.args.name = search rules in
    let found : file_in c.args.self.now.files c.args.name ≡ Some c.in-Some.field-0.now.items =
    subst (λ (n : ℤ). file_in c.args.self.now.files n ≡ Some c.in-Some.field-0.now.items) is c.in-Some.ensures in
    sym (ap (λ (o : Option (List ℕ)). is_some o) found)

pub returns-in-None : goal.returns-in-None
returns-in-None c =
    let is : to_z w64 (of_z w64 c.args.name) ≡ c.args.name = search rules in
    let found : file_in c.args.self.now.files c.args.name ≡ None = subst (λ (n : ℤ). file_in c.args.self.now.files n ≡ None) is c.in-None.ensures in
    sym (ap (λ (o : Option (List ℕ)). is_some o) found)
