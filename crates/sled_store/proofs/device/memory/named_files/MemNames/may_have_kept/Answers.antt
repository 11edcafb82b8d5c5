-- One more name was tested.
use Rattle.std.proofs.Common.{◌≡◌, ◌∷◌, List, ℤ, Vec, true, is_some, ap, sym, ◌∙◌, subst, inl, inr, rules, to_z, of_z, w64}
use Rattle.std.specs.Ordering.{int_cmp}
use Rattle.std.specs.Map.{lookup}
use Rattle.std.specs.BTreeMap.{is_at}
use Rattle.std.specs.declared.alloc.Global.{Global}
use Rattle.sled_store.specs.declared.device.memory.named_files.version.FileVersion.{FileVersion}
use Rattle.sled_store.specs.Device.{file_named}
use Rattle.sled_store.specs.Noted.{files_of}
use Rattle.sled_store.specs.inside.MemoryNames.{states_of, files_under, leaves_any}
use Rattle.sled_store.proofs.Names.OfferLemmas.{one_more_tested}
use Rattle.sled_store.proofs.device.memory.named_files.MemNames.may_have_kept.Goals as goal

pub loop-name-preserved : goal.loop-name-preserved
loop-name-preserved c = λ n had.
    let P : ℤ → Type 0 = λ k. leaves_any (states_of (files_under c.args.self.now.kept k)) (file_named (files_of c.args.files.now.items) k) ≡ true in
    let e : ℤ × Vec FileVersion Global = (c.in-Some.name.now, c.in-Some._kept.now) in
    let is : to_z w64 (of_z w64 e.0) ≡ e.0 = search rules in
    let here : P e.0 = subst P is (sym c.may_be.ensures ∙ c.if-not-may_be.false) in
    let came : c.loop-name.name-iterator ≡ e ∷ c.next.new.self = search rules in
    elim (c.loop-name.invariant n had) [
      | inl comes ↦ one_more_tested P n e c.next.new.self here (sym (ap (λ (es : List (ℤ × Vec FileVersion Global)). is_some (lookup (is_at (int_cmp n)) es)) came) ∙ comes)
      | inr may ↦ inr may
    ]
