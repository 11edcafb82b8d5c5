-- The byte tells what stands behind it, and how many entries there are.
use Rattle.std.proofs.Common.{subst, List, arith}
use Rattle.std.specs.Int.{w64}
use Rattle.std.proofs.lemmas.Int.{to_z-of_z}
use Rattle.std.proofs.lemmas.Result.{err_from_is_err_and}
use Rattle.sled_codec.specs.Spelling.{SpellsSigned, SpellsPointer, SpellsPair, SpellsEach}
use Rattle.sled_codec.specs.Snapshots.{Entry, SpellsEntry}
use Rattle.sled_codec.proofs.HeaderFronts.{Takes}
use Rattle.sled_codec.proofs.PointerFronts.{takes_tagged}
use Rattle.sled_codec.proofs.PageFronts.{as_seen, no_byte, no_free, no_base, no_frags, takes_present}
use Rattle.sled_codec.proofs.serialization.snapshot.PageStateSerialize.deserialize.Goals as goal

pub returns-in_err-count-clause-corrupt : goal.returns-in_err-count-clause-corrupt
returns-in_err-count-clause-corrupt c =
    let e = err_from_is_err_and c.from_residual.result c.from_residual.ensures.1 in
    rw (e.1, e.2) (λ corrupt front rest v is follows p.
    no_byte _ (λ f r n at. c.in_err-count.ensures.corrupt corrupt f r n at tt) front rest v is p)

pub returns-in_err-place-clause-corrupt : goal.returns-in_err-place-clause-corrupt
returns-in_err-place-clause-corrupt c =
    let e = err_from_is_err_and c.from_residual-in_err-place.result c.from_residual-in_err-place.ensures.1 in
    rw (e.1, e.2) (λ corrupt front rest v is follows p.
    no_free _ _ front rest _ c.in_ok-count.ensures.ok is c.if-count-eq0.true (λ f r w at. c.in_err-place.ensures.corrupt corrupt f r w at tt) v p)

pub returns-then-count-eq0-clause-ok : goal.returns-then-count-eq0-clause-ok
returns-then-count-eq0-clause-ok c =
    let read = c.in_ok-place.ensures.ok in
    rw (to_z-of_z w64 c.in_ok-place.place read.1.front.in_range)
    (takes_tagged (λ rest. SpellsPair SpellsSigned SpellsPointer rest c.in_ok-place.place c.in_ok-place.pointer) 0 _ _ _ _ c.in_ok-count.ensures.ok c.if-count-eq0.true read.0 read.1 read.2)

pub returns-in_err-base-clause-corrupt : goal.returns-in_err-base-clause-corrupt
returns-in_err-base-clause-corrupt c =
    let e = err_from_is_err_and c.from_residual-in_err-base.result c.from_residual-in_err-base.ensures.1 in
    rw (e.1, e.2) (λ corrupt front rest v is follows p.
    no_base _ _ front rest _ c.in_ok-count.ensures.ok is c.if-count-eq0.false (λ f r w at. c.in_err-base.ensures.corrupt corrupt f r w at tt) v p)

pub returns-in_err-frags-clause-corrupt : goal.returns-in_err-frags-clause-corrupt
returns-in_err-frags-clause-corrupt c =
    let e = err_from_is_err_and c.from_residual-in_err-frags.result c.from_residual-in_err-frags.ensures.1 in
    rw (e.1, e.2) (λ corrupt front rest v is follows p.
    no_frags _ _ front rest _ c.in_ok-count.ensures.ok is _ _ c.if-count-eq0.false c.in_ok-base.ensures.ok (λ f r es long at. c.in_err-frags.ensures.corrupt corrupt f r es long at) v p)

pub returns-clause-ok : goal.returns-clause-ok
returns-clause-ok c =
    let frags : List Entry = c.in_ok-frags.frags.items in
    let read = c.in_ok-frags.ensures.ok in
    let others : Takes (SpellsEach SpellsEntry) _ frags _ = (read.0, subst (SpellsEach SpellsEntry read.0) (as_seen frags frags (λ i. frags)) read.1, read.2) in
    takes_present _ _ _ _ _ _ frags c.in_ok-count.ensures.ok (omega arith) c.if-count-eq0.false c.in_ok-base.ensures.ok others c.in_ok-frags.ensures.count
