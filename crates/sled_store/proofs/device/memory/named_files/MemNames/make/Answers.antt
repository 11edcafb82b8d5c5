-- A file that was made is a new state of its name.
use Rattle.std.proofs.Common.{◌≡◌, ◌∙◌, ◌++◌, ◌∷◌, [], ap, sym, subst, refl, rules, false, ℤ, List, Result, Ok, Err, to_z, of_z, w64}
use Rattle.std.specs.Result.{OnErr}
use Rattle.sled_store.specs.inside.MemoryNames.{IsNoted}
use Rattle.sled_store.specs.declared.device.memory.named_files.version.FileVersion.{FileVersion}
use Rattle.sled_store.proofs.Names.KeepsLemmas.{KeptMap, written, inserted, found_under, found_none, put_here, put_other, keeps_same, keeps_made}
use Rattle.sled_store.proofs.device.memory.named_files.MemNames.make.Goals as goal

on_err : {T E P : Type 0} (r : Result T E) → P → OnErr r P
on_err (Ok x) holds = tt
on_err (Err e) holds = holds

pub returns-in-Some-clause-ok : goal.returns-in-Some-clause-ok
returns-in-Some-clause-ok c = λ s asked keeps.
    let name : ℤ = c.args.name in
    let old : KeptMap = c.note.new.self.kept in
    let is : to_z w64 (of_z w64 name) ≡ name = search rules in
    let one : FileVersion = record { bytes = c.args.bytes; is_unsynced = c.args.is_unsynced; is_gone = false; is_settled = false } in
    let new : KeptMap = c.get_mut.follows.lender c.push.new.self in
    let put = written old new _ name c.in-Some.kept.now c.push.new.self is c.in-Some.ensures.value (c.get_mut.follows.holds c.push.new.self) in
    let pushed : c.push.new.self.items ≡ c.in-Some.kept.now.items ++ one ∷ [] = search rules in
    keeps_made c.note.new.self new s name one asked refl refl
    (put_here old new name c.push.new.self put ∙ pushed ∙ ap (λ (xs : List FileVersion). xs ++ one ∷ []) (found_under old _ name c.in-Some.kept.now is c.in-Some.ensures.value))
    (put_other old new name c.push.new.self put) (c.note.ensures.keeps s keeps) (subst (λ (n : ℤ). IsNoted c.note.new.self n) is c.note.ensures.noted)

pub returns-in_err-push-clause-err : goal.returns-in_err-push-clause-err
returns-in_err-push-clause-err c = λ s keeps.
    let name : ℤ = c.args.name in
    let old : KeptMap = c.note.new.self.kept in
    let is : to_z w64 (of_z w64 name) ≡ name = search rules in
    let new : KeptMap = c.get_mut.follows.lender c.push.new.self in
    let put = written old new _ name c.in-Some.kept.now c.push.new.self is c.in-Some.ensures.value (c.get_mut.follows.holds c.push.new.self) in
    on_err c.from_residual.result (keeps_same c.note.new.self new s name (c.note.ensures.keeps s keeps)
    (put_here old new name c.push.new.self put ∙ c.in_err-push.ensures.items ∙ found_under old _ name c.in-Some.kept.now is c.in-Some.ensures.value)
    (put_other old new name c.push.new.self put))

pub returns-clause-ok : goal.returns-clause-ok
returns-clause-ok c = λ s asked keeps.
    let name : ℤ = c.args.name in
    let old : KeptMap = c.note.new.self.kept in
    let is : to_z w64 (of_z w64 name) ≡ name = search rules in
    let one : FileVersion = record { bytes = c.args.bytes; is_unsynced = c.args.is_unsynced; is_gone = false; is_settled = false } in
    let new : KeptMap = c.insert.new.self in
    let put = inserted old c.get_mut.follows.lender-at-none new _ name c.push-2.new.self is c.get_mut.follows.holds-at-none c.in_ok-insert.ensures.updates.0 in
    let pushed : c.push-2.new.self.items ≡ [] ++ one ∷ [] = search rules in
    keeps_made c.note.new.self new s name one asked refl refl
    (put_here old new name c.push-2.new.self put ∙ pushed ∙ ap (λ (xs : List FileVersion). xs ++ one ∷ []) (sym (found_none old _ name is c.in_default.ensures.value)))
    (put_other old new name c.push-2.new.self put) (c.note.ensures.keeps s keeps) (subst (λ (n : ℤ). IsNoted c.note.new.self n) is c.note.ensures.noted)
