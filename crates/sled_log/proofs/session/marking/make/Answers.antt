use Rattle.std.proofs.Common.{◌≡◌, ◌∙◌, ◌∷◌, [], rules, ap, sym, subst, Result, Ok, Err}
use Rattle.std.specs.Prelude.{OnOk}
use Rattle.sled_codec.specs.declared.serialization.message.LogKind.TheVariants as does
use Rattle.sled_store.specs.Outdated.{NoneShares}
use Rattle.sled_store.specs.Marks.{IsFormerList}
use Rattle.sled_store.specs.SegmentStates.{replaced}
use Rattle.sled_core.specs.Fits.{machine_at, segment_size_of}
use Rattle.sled_core.specs.Unmarked.{without}
use Rattle.sled_core.proofs.PublicLaws.{goes_on_still}
use Rattle.sled_log.proofs.Sessions.MadeMarks.{begins_it, former_of, may_be_marked, marks_linked, marks_replaced, none_shared, takes_mark}
use Rattle.sled_log.proofs.session.marking.make.Goals as goal

on_ok : {T E P Q : Type 0} (r : Result T E) → (P → Q) → OnOk r P → OnOk r Q
on_ok (Ok x) over holds = over holds
on_ok (Err e) over holds = tt

pub returns-then-not-can_mark-clause-goes_on : goal.returns-then-not-can_mark-clause-goes_on
returns-then-not-can_mark-clause-goes_on g c = goes_on_still g.D.Device.trace g.C.Checksum.sum_of c.args.log.now

pub returns-then-not-can_mark-clause-makes : goal.returns-then-not-can_mark-clause-makes
returns-then-not-can_mark-clause-makes g c = λ H A f m fits is made.
    let may = may_be_marked c.args.log.now H c.args.due.now m is g.D.Device.trace g.C.Checksum.sum_of A f fits made in
    absurd (search rules)

pub returns-then-eq-clause-makes : goal.returns-then-eq-clause-makes
returns-then-eq-clause-makes g c = λ H A f m fits is made.
    let log = c.args.log.now in
    let d = c.args.due.now in
    let link : d.kind ≡ does.Link = search rules in
    let size = segment_size_of log in
    let done = c.mark_link.ensures in
    record {
      made = on_ok c.mark_link.result (λ step. step ∙ marks_linked size d (machine_at log) link) done.marks.made;
      fits = done.fits H A f (m ∷ []) [] m fits (takes_mark log H d m is) is.is (sym is.kind ∙ link);
      refused = done.marks.refused;
      stays = done.keeps.refused H A f (m ∷ []) fits;
    }

pub returns-clause-makes : goal.returns-clause-makes
returns-clause-makes g c = λ H A f m fits is made.
    let log = c.args.log.now in
    let d = c.args.due.now in
    let other : d.kind ≡ does.Link → ⊥ = search rules in
    let size = segment_size_of log in
    let done = c.mark_replace.ensures in
    let old : c.deref-2.result.now ≡ d.old.items = c.deref-2.ensures.value in
    record {
      made = on_ok c.mark_replace.result (λ step. step ∙ ap (λ os. replaced size d.page d.new os (machine_at log)) old ∙ marks_replaced size d (machine_at log) other) done.marks.made;
      fits = done.fits H A f (m ∷ []) [] m fits (takes_mark log H d m is) is.is (begins_it log H d m is made other)
          (subst (IsFormerList (without (m ∷ []) H) d.page) (sym old) (former_of log H d m is made other)) (subst (NoneShares H m) (sym old) (none_shared log H d m is made other));
      refused = done.marks.refused;
      stays = done.keeps.refused H A f (m ∷ []) fits;
    }
