-- The copy is what is under the name, and where nothing is, that is told.
use Rattle.std.proofs.Common.{◌≡◌, ◌∙◌, ap, subst, refl, ℕ, ℤ, List, Some, None, rules, to_z, of_z, w64}
use Rattle.sled_file.specs.Mirrors.{file_in}
use Rattle.sled_file.proofs.FileLemmas.{refused_or}
use Rattle.std.specs.declared.io.ErrorKind.TheVariants.{NotFound}
use Rattle.sled_file.proofs.mirror.named.NamedFiles.read.Goals as goal

pub returns-in_ok-to_vec-in-Some-clause-found : goal.returns-in_ok-to_vec-in-Some-clause-found
returns-in_ok-to_vec-in-Some-clause-found c =
    let is : to_z w64 (of_z w64 c.args.name) ≡ c.args.name = search rules in
    let same : c.in-Some.bytes.now.items ≡ c.in_ok-to_vec-in-Some.field-0.items = search rules in
    subst (λ (n : ℤ). file_in c.args.self.now.files n ≡ Some c.in-Some.bytes.now.items) is c.in-Some.ensures ∙ ap (λ (xs : List ℕ). Some xs) same

pub returns-in-None-clause-error : goal.returns-in-None-clause-error
returns-in-None-clause-error c =
    let is : to_z w64 (of_z w64 c.args.name) ≡ c.args.name = search rules in
    refused_or c.new.result NotFound (file_in c.args.self.now.files c.args.name ≡ None) refl c.new.ensures.kind
    (subst (λ (n : ℤ). file_in c.args.self.now.files n ≡ None) is c.in-None.ensures)
