-- One more name was tested.
use Rattle.std.proofs.Common.{◌≡◌, ◌<◌, ◌∙◌, sym, subst, ℤ, length, true, rules, arith, inl, inr, to_z, of_z, w64}
use Rattle.sled_store.specs.Device.{file_named}
use Rattle.sled_store.specs.Noted.{files_of}
use Rattle.sled_store.specs.inside.MemoryNames.{states_of, files_under, leaves_any}
use Rattle.sled_store.proofs.Names.OfferLemmas.{named-take}
use Rattle.sled_store.proofs.device.memory.named_files.MemNames.may_have_offered.Goals as goal

pub loop-file-preserved : goal.loop-file-preserved
loop-file-preserved c = λ n has.
    let P : ℤ → Type 0 = λ k. leaves_any (states_of (files_under c.args.self.now.kept k)) (file_named (files_of c.args.files.now.items) k) ≡ true in
    let xs = c.args.files.now.items in
    let e = c.file-item.result in
    let i = c.loop-file.file-index in
    let there : i < length xs = omega arith in
    let is : to_z w64 (of_z w64 e.0) ≡ e.0 = search rules in
    let here : P e.0 = subst P is (sym c.may_be.ensures ∙ c.if-not-may_be.false) in
    elim (named-take xs i e n there (search rules) has) [
      | inl was ↦ c.loop-file.invariant n was
      | inr same ↦ subst P same here
    ]
