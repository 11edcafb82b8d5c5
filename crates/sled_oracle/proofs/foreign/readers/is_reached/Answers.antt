-- A reader comes behind each record that begins where it is, and nowhere else.
use Rattle.std.proofs.Common.{ℕ, subst, arith}
use Rattle.std.proofs.lemmas.Bool.Decides.{Decides-eqb}
use Rattle.sled_store.specs.Foreign.{IsReached, at_first}
use Rattle.sled_store.proofs.Own.ReachedLemmas.{no_less}
use Rattle.sled_oracle.proofs.Walks.WalkLemmas.{comes_behind, goes_further, stops_there}
use Rattle.sled_oracle.proofs.foreign.readers.is_reached.Goals as goal

pub loop-here-init : goal.loop-here-init
loop-here-init g c = record { came = λ size. at_first; goes_on = λ size r. r }

pub loop-here-preserved : goal.loop-here-preserved
loop-here-preserved g c =
    let begins = rw c.in-Some.is at c.in_ok-len.ensures.found in
    record {
      came = λ size. comes_behind g.C.Checksum.sum_of size c.args.number.0 c.args.text.now c.args.first c.loop-here.here c.in-Some.len (c.loop-here.invariant.came size) begins;
      goes_on = λ size r. goes_further g.C.Checksum.sum_of size c.args.number.0 c.args.text.now c.loop-here.here c.in-Some.len c.args.at begins c.loop-here-test.true (c.loop-here.invariant.goes_on size r);
    }

pub returns-in-None-clause-reached : goal.returns-in-None-clause-reached
returns-in-None-clause-reached g c =
    let none = rw c.in-None.is at c.in_ok-len.ensures.found in
    λ size. (λ t. cc, λ r. absurd (stops_there g.C.Checksum.sum_of size c.args.number.0 c.args.text.now c.loop-here.here c.args.at none c.loop-here-test.true (c.loop-here.invariant.goes_on size r)))

pub returns-clause-reached : goal.returns-clause-reached
returns-clause-reached g c = λ size.
    let here : ℕ = c.loop-here.here in (
      λ t. subst (λ n. IsReached g.C.Checksum.sum_of size c.args.number.0 c.args.text.now c.args.first n) ((Decides-eqb here c.args.at).0 t) (c.loop-here.invariant.came size),
      λ r. let le = no_less g.C.Checksum.sum_of size c.args.number.0 c.args.text.now here c.args.at (c.loop-here.invariant.goes_on size r) in (Decides-eqb here c.args.at).1 (omega (arith, le, c.loop-here-test.false)),
    )
