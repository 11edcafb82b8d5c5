use Rattle.std.proofs.Common.{◌≡◌, ◌∙◌, ℕ, List, [], refl, sym, subst, append-nil}
use Rattle.sled_codec.specs.Snapshots.{SpellsSnapshot}
use Rattle.sled_store.proofs.Names.Trailers.{one_file}
use Rattle.sled_store.proofs.snapshot_file.decode_file.Goals as goal

pub returns-in-Some-clause-corrupt : goal.returns-in-Some-clause-corrupt
returns-in-Some-clause-corrupt g c = λ corrupt s h.
    let text : List ℕ = c.in-Some.text.now in
    let same : h.text ≡ text = one_file g.C.Checksum.sum_of h.text text (sym h.is ∙ c.in-Some.ensures.found) in
    c.deserialize.ensures.corrupt corrupt text [] s (sym (append-nil text)) refl (subst (λ (t : List ℕ). SpellsSnapshot t s) same h.spelled)
