-- The first file that has the name is the one that counts.
use Rattle.std.proofs.Common.{◌≡◌, ◌∙◌, ℕ, ℤ, List, get_or, Some, true, drop, sym, ap, subst, rules}
use Rattle.std.specs.Int.{w64}
use Rattle.std.specs.Ordering.{int_eq}
use Rattle.std.proofs.lemmas.Int.{to_z-of_z}
use Rattle.std.proofs.lemmas.List.{get_or_default}
use Rattle.std.proofs.lemmas.Slice.Eq.{bytes_eq-Decides}
use Rattle.sled_store.specs.Device.{file_named}
use Rattle.sled_oracle.proofs.Walks.NameLemmas.{found_here, one_file}
use Rattle.sled_oracle.proofs.foreign.names.is_file.Goals as goal

pub returns-then-file-name : goal.returns-then-file-name
returns-then-file-name c =
    let files : List (ℤ × List ℕ) = c.args.files.now in
    let i : ℕ = c.loop-file.file-index in
    let text : List ℕ = c.file.inside.bytes.items in
    let f : ℤ × List ℕ = (c.file.inside.name, text) in
    let is : f ≡ get_or files i f = c.file.view_is ∙ c.file-item.is ∙ get_or_default files i c.file-item.result f c.loop-file-test.true in
    let so_far : file_named (drop i files) c.args.name ≡ file_named files c.args.name = subst (λ (n : ℤ). file_named (drop i files) n ≡ file_named files n) (to_z-of_z w64 c.args.name c.ranges.name) c.loop-file.invariant in
    let named : int_eq c.file.inside.name c.args.name ≡ true = search rules in
    let stands : file_named files c.args.name ≡ Some text = sym so_far ∙ found_here files i f c.args.name c.loop-file-test.true is named in
    let same : c.as_slice.result.now ≡ text = c.as_slice.ensures.value in (
      λ t. stands ∙ ap (λ (l : List ℕ). Some l) (sym same ∙ (bytes_eq-Decides c.as_slice.result.now c.args.bytes.now).0 (sym c.eq.ensures ∙ t)),
      λ there. c.eq.ensures ∙ (bytes_eq-Decides c.as_slice.result.now c.args.bytes.now).1 (same ∙ one_file text c.args.bytes.now (sym stands ∙ there)),
    )
