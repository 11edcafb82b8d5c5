-- A file that was removed is a new state of its name.
use Rattle.std.proofs.Common.{◌≡◌, ◌∙◌, ap, sym, subst, rules, ℤ, List, IsSome, to_z, of_z, w64}
use Rattle.sled_store.specs.inside.MemoryNames.{IsNoted, states_of, without_file}
use Rattle.sled_store.specs.declared.device.memory.named_files.version.FileVersion.{FileVersion}
use Rattle.sled_store.proofs.Names.KeepsLemmas.{KeptMap, written, found_under, put_here, put_other, keeps_removed}
use Rattle.sled_store.proofs.device.memory.named_files.MemNames.remove.Goals as goal

pub returns-in-Some : goal.returns-in-Some
returns-in-Some c = λ s keeps.
    let name : ℤ = c.args.name in
    let old : KeptMap = c.note.new.self.kept in
    let is : to_z w64 (of_z w64 name) ≡ name = search rules in
    let new : KeptMap = c.get_mut.follows.lender c.remove_file.new.kept in
    let put = written old new _ name c.in-Some.kept.now c.remove_file.new.kept is c.in-Some.ensures.value (c.get_mut.follows.holds c.remove_file.new.kept) in
    let some : IsSome (s.file name) = subst (λ (n : ℤ). IsSome (s.file n)) is (sym (c.has.ensures s keeps) ∙ c.if-not-has.false) in
    keeps_removed c.note.new.self new s name some
    (ap states_of (put_here old new name c.remove_file.new.kept put) ∙ c.remove_file.ensures ∙ ap (λ (xs : List FileVersion). without_file (states_of xs)) (found_under old _ name c.in-Some.kept.now is c.in-Some.ensures.value))
    (put_other old new name c.remove_file.new.kept put) (c.note.ensures.keeps s keeps) (subst (λ (n : ℤ). IsNoted c.note.new.self n) is c.note.ensures.noted)
