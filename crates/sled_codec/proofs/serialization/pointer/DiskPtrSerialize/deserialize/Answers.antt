-- The byte tells what stands behind it.
use Rattle.std.proofs.lemmas.Result.{err_from_is_err_and}
use Rattle.std.specs.Int.{w64}
use Rattle.std.proofs.lemmas.Int.{to_z-of_z}
use Rattle.sled_codec.specs.Spelling.{SpellsNumber, SpellsSigned, SpellsPair}
use Rattle.sled_codec.proofs.PointerFronts.{no_byte, no_blob, takes_tagged}
use Rattle.sled_codec.proofs.serialization.pointer.DiskPtrSerialize.deserialize.Goals as goal

pub returns-in_err-which-clause-corrupt : goal.returns-in_err-which-clause-corrupt
returns-in_err-which-clause-corrupt c =
    let e = err_from_is_err_and c.from_residual.result c.from_residual.ensures.1 in
    rw (e.1, e.2) (λ corrupt front rest v is follows.
    no_byte _ (λ f r n at. c.in_err-which.ensures.corrupt corrupt f r n at tt) front rest v is)

pub returns-in_err-lid-2-clause-corrupt : goal.returns-in_err-lid-2-clause-corrupt
returns-in_err-lid-2-clause-corrupt c =
    let e = err_from_is_err_and c.from_residual-in_err-lid-2.result c.from_residual-in_err-lid-2.ensures.1 in
    rw (e.1, e.2) (λ corrupt front rest v is follows.
    no_blob _ _ _ c.in_ok-which.ensures.ok c.if-which-eq1.true (λ f r w at. c.in_err-lid-2.ensures.corrupt corrupt f r w at tt) front rest v is)

pub returns-then-which-eq0-clause-ok : goal.returns-then-which-eq0-clause-ok
returns-then-which-eq0-clause-ok c =
    let read = c.in_ok-lid.ensures.ok in
    takes_tagged (λ rest. SpellsNumber rest c.in_ok-lid.lid) 0 _ _ _ _ c.in_ok-which.ensures.ok c.if-which-eq0.true read.0 read.1 read.2

pub returns-then-which-eq1-clause-ok : goal.returns-then-which-eq1-clause-ok
returns-then-which-eq1-clause-ok c =
    let read = c.in_ok-lid-2.ensures.ok in
    rw (to_z-of_z w64 c.in_ok-lid-2.place read.1.back.in_range)
    (takes_tagged (λ rest. SpellsPair SpellsNumber SpellsSigned rest c.in_ok-lid-2.lid c.in_ok-lid-2.place) 1 _ _ _ _ c.in_ok-which.ensures.ok c.if-which-eq1.true read.0 read.1 read.2)
