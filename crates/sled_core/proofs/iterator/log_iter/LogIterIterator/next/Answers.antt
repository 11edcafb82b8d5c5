use Rattle.std.proofs.Common.{◌∙◌, refl, sym, subst}
use Rattle.sled_store.specs.declared.config.Config.{Config}
use Rattle.sled_core.specs.Ahead.{CanGoOn}
use Rattle.sled_core.proofs.Iterates.NextLemmas.{left_goes, next_of_file, next_of_log, next_refused, refusal_goes}
use Rattle.sled_core.proofs.Iterates.TurnLemmas.{none_so, some_as, some_so}
use Rattle.sled_core.proofs.iterator.log_iter.LogIterIterator.next.Goals as goal

pub returns-in-Some-clause-steps : goal.returns-in-Some-clause-steps
returns-in-Some-clause-steps g c =
    next_refused g.D.Device.trace g.D.Device.faults g.C.Checksum.sum_of c.args.self.now _ c.in-Some.e (sym c.take.ensures.value ∙ c.in-Some.is) c.take.ensures.after refl refl

pub returns-in-Some-clause-goes : goal.returns-in-Some-clause-goes
returns-in-Some-clause-goes g c =
    let fewer = refusal_goes g.D.Device.trace g.D.Device.faults g.C.Checksum.sum_of c.args.self.now _ c.in-Some.e (sym c.take.ensures.value ∙ c.in-Some.is) c.take.ensures.after refl refl in
    record { on = λ finite. (tt, tt, fewer); keeps = tt; rests = λ finite. tt }

pub returns-in-File-clause-steps : goal.returns-in-File-clause-steps
returns-in-File-clause-steps g c =
    let e = c.next.ensures in
    next_of_file g.D.Device.trace g.D.Device.faults g.C.Checksum.sum_of c.args.self.now _ (sym c.take.ensures.value ∙ c.in_default.is) c.take.ensures.after c.next.result
    c.in-File.config _ c.in-File.is refl refl e.gives e.ended e.over e.answers e.reads

pub returns-in-File-clause-goes : goal.returns-in-File-clause-goes
returns-in-File-clause-goes g c =
    let fewer = left_goes g.D.Device.trace g.D.Device.faults g.C.Checksum.sum_of c.args.self.now _ (sym c.take.ensures.value ∙ c.in_default.is) c.take.ensures.after c.next.result c.next.ensures.fewer in
    record {
      on = λ finite. some_as c.next.result _ _ (λ less. (tt, tt, less)) fewer;
      keeps = some_so c.next.result _ (λ x. tt);
      rests = λ finite. none_so c.next.result _ tt;
    }

pub returns-in-Log-clause-steps : goal.returns-in-Log-clause-steps
returns-in-Log-clause-steps g c =
    let e = c.next_of.ensures in
    next_of_log g.D.Device.trace g.D.Device.faults g.C.Checksum.sum_of c.args.self.now _ (sym c.take.ensures.value ∙ c.in_default.is) c.take.ensures.after c.next_of.result
    c.in-Log.log _ c.in-Log.is refl refl e.gives e.ended e.over e.answers e.reads e.log

pub returns-in-Log-clause-goes : goal.returns-in-Log-clause-goes
returns-in-Log-clause-goes g c =
    let fewer = left_goes g.D.Device.trace g.D.Device.faults g.C.Checksum.sum_of c.args.self.now _ (sym c.take.ensures.value ∙ c.in_default.is) c.take.ensures.after c.next_of.result c.next_of.ensures.fewer in
    record {
      on = λ finite. some_as c.next_of.result _ _ (λ less. (tt, tt, less)) fewer;
      keeps = some_so c.next_of.result _ (λ x. tt);
      rests = λ finite. none_so c.next_of.result _ tt;
    }

pub invariant_of-self-in-Log-clause-fits : goal.invariant_of-self-in-Log-clause-fits
invariant_of-self-in-Log-clause-fits g c = subst (λ (x : Config). CanGoOn x.segment_size c.next_of.new.rest) (sym c.next_of.ensures.reads.config) c.next_of.ensures.fits
