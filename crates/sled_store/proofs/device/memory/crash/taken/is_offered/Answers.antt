-- What was found is offered.
use Rattle.std.proofs.Common.{◌≡◌, ap, sym, ◌∙◌, ℤ, is_some, rules, to_z, of_z, w64}
use Rattle.sled_store.specs.Device.{file_named}
use Rattle.sled_store.specs.Noted.{files_of}
use Rattle.sled_store.proofs.Names.TakenLemmas.{found_some}
use Rattle.sled_store.proofs.device.memory.crash.taken.is_offered.Goals as goal

pub returns-in-Some : goal.returns-in-Some
returns-in-Some c =
    let is : to_z w64 (of_z w64 c.args.name) ≡ c.args.name = search rules in
    let found = found_some c.args.files.now.items c.in-Some.field-0 _ c.in-Some.ensures.0 c.in-Some.ensures.1 in
    sym (ap (λ (m : ℤ). is_some (file_named (files_of c.args.files.now.items) m)) (sym is) ∙ found)
