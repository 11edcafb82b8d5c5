-- What is offered under the name is tested by the files that were made under it.
use Rattle.std.proofs.Common.{◌≡◌, ◌∙◌, ap, sym, subst, ℤ, ℕ, List, Vec, Option, Some, get_or, rules, to_z, of_z, w64}
use Rattle.std.specs.declared.alloc.Global.{Global}
use Rattle.sled_store.specs.declared.device.memory.named_files.version.FileVersion.{FileVersion}
use Rattle.sled_store.specs.Device.{file_named}
use Rattle.sled_store.specs.Noted.{files_of}
use Rattle.sled_store.specs.inside.MemoryNames.{states_of, files_under, leaves_any}
use Rattle.sled_store.proofs.device.memory.named_files.MemNames.may_be.Goals as goal

pub returns-in-Some : goal.returns-in-Some
returns-in-Some c =
    let name : ℤ = c.args.name in
    let kept = c.args.self.now.kept in
    let files : List (ℤ × Vec ℕ Global) = c.args.files.now.items in
    let is : to_z w64 (of_z w64 name) ≡ name = search rules in
    let under : c.under.result.now ≡ files_under kept name = subst (λ (n : ℤ). c.under.result.now ≡ files_under kept n) is c.under.ensures in
    let e : ℤ × Vec ℕ Global = c.index.result.now in
    let read : get_or files c.in-Some.i e ≡ e = search rules in
    let bytes : c.deref.result.now ≡ e.1.items = c.deref.ensures.value in
    let named : file_named (files_of files) name ≡ Some e.1.items =
    subst (λ (n : ℤ). file_named (files_of files) n ≡ Some e.1.items) is (c.in-Some.ensures.1 e ∙ ap (λ (x : ℤ × Vec ℕ Global). Some x.1.items) read) in
    c.may_be_file.ensures
    ∙ ap (λ (xs : List FileVersion). leaves_any (states_of xs) (Some c.deref.result.now)) under
    ∙ ap (λ (xs : List ℕ). leaves_any (states_of (files_under kept name)) (Some xs)) bytes
    ∙ ap (λ (o : Option (List ℕ)). leaves_any (states_of (files_under kept name)) o) (sym named)
