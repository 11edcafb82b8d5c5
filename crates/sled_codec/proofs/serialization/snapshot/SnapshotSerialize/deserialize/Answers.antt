-- The pages are what stands behind the place and the segment, to the end.
use Rattle.std.proofs.Common.{◌≡◌, ◌∙◌, sym, ap, subst, ℕ, List, ◌++◌, append_assoc}
use Rattle.std.proofs.lemmas.List.{append-nil}
use Rattle.std.proofs.lemmas.Result.{err_from_is_err_and}
use Rattle.sled_codec.specs.Spelling.{SpellsBoth, SpellsEach}
use Rattle.sled_codec.specs.PairLaws.{no_front-both}
use Rattle.sled_codec.specs.Snapshots.{SpellsPage}
use Rattle.sled_codec.specs.SnapshotLaws.{SpellsStable, SpellsActive, no_front-stable, no_front-active}
use Rattle.sled_codec.proofs.Pairs.{behind_first}
use Rattle.sled_codec.proofs.serialization.snapshot.SnapshotSerialize.deserialize.Goals as goal

pub returns-in_err-stable_lsn-clause-corrupt : goal.returns-in_err-stable_lsn-clause-corrupt
returns-in_err-stable_lsn-clause-corrupt c =
    let e = err_from_is_err_and c.from_residual.result c.from_residual.ensures.1 in
    rw (e.1, e.2)
    (λ corrupt front rest v is follows p.
    c.in_err-stable_lsn.ensures.corrupt corrupt p.first (p.second ++ rest) (v.stable, v.active) (is ∙ ap (λ (l : List ℕ). l ++ rest) p.is ∙ append_assoc p.first p.second rest) tt p.front)

pub returns-in_err-pt-clause-corrupt : goal.returns-in_err-pt-clause-corrupt
returns-in_err-pt-clause-corrupt c =
    let e = err_from_is_err_and c.from_residual-in_err-pt.result c.from_residual-in_err-pt.ensures.1 in
    rw (e.1, e.2)
    (λ corrupt front rest v is follows p.
    let left = behind_first (SpellsBoth SpellsStable SpellsActive) (SpellsEach SpellsPage) (no_front-both SpellsStable SpellsActive no_front-stable no_front-active) _ _ front rest (v.stable, v.active) _ v.pages c.in_ok-stable_lsn.ensures.ok p is in
    let whole : c.deserialize.new.buf.now ≡ p.second = left ∙ ap (λ (l : List ℕ). p.second ++ l) follows ∙ append-nil p.second in
    c.in_err-pt.ensures.corrupt corrupt v.pages (subst (λ (t : List ℕ). SpellsEach SpellsPage t v.pages) (sym whole) p.back))
