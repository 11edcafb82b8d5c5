use Rattle.std.proofs.Common.{rules, ◌∙◌, ◌<ℤ◌, ℕ, ℤ, pos, List, None, SFits, ap, subst, sym}
use Rattle.std.specs.Int.{w64}
use Rattle.std.proofs.lemmas.Int.{to_z-of_z}
use Rattle.sled_codec.specs.declared.result.Error.TheVariants.{Corruption}
use Rattle.sled_codec.specs.Snapshots.{Entry, page_of}
use Rattle.sled_core.specs.Fits.{segment_size_of, synced_end}
use Rattle.std.specs.Prelude.{IfErr}
use Rattle.sled_core.proofs.PublicLaws.{log_still, writing_still}
use Rattle.ids.specs.Readings.{AnswersBound, IsBoundBy, IsBoundIn, IsReadErrorUnless, LiesBelow, file_of}
use Rattle.ids.proofs.FoundBounds.{answers_free}
use Rattle.ids.proofs.ReadLemmas.{same_base}
use Rattle.ids.proofs.reading.read_page.Goals as goal

pub returns-in-Present-clause-number : goal.returns-in-Present-clause-number
returns-in-Present-clause-number g c = λ H m cut n holds is.
    let base = same_base c.args.page.now c.in-Present.base c.in-Present.frags m c.in-Present.is is in
    let fits : SFits w64 c.in-Present.base.0 = search rules in
    c.read_number.ensures.number H m cut n holds (sym (ap (λ (e : Entry). e.0) base) ∙ sym (to_z-of_z w64 c.in-Present.base.0 fits)) (sym (ap (λ (e : Entry). e.1) base))

pub returns-in-Present-clause-errors : goal.returns-in-Present-clause-errors
returns-in-Present-clause-errors g c = λ H m cut n holds is.
    let base = same_base c.args.page.now c.in-Present.base c.in-Present.frags m c.in-Present.is is in
    let fits : SFits w64 c.in-Present.base.0 = search rules in
    c.read_number.ensures.errors H m cut n holds (sym (ap (λ (e : Entry). e.0) base) ∙ sym (to_z-of_z w64 c.in-Present.base.0 fits)) (sym (ap (λ (e : Entry). e.1) base))

pub returns-in-Free-clause-only : goal.returns-in-Free-clause-only
returns-in-Free-clause-only g c = writing_still g.D.Device.trace g.C.Checksum.sum_of c.args.log.now

pub returns-in-Free-clause-kept : goal.returns-in-Free-clause-kept
returns-in-Free-clause-kept g c = λ idle. log_still g.D.Device.trace g.C.Checksum.sum_of c.args.log.now

pub returns-in-Present-clause-known : goal.returns-in-Present-clause-known
returns-in-Present-clause-known g c = λ idle.
    let end : ℕ = synced_end c.args.log.now in
    let fits : SFits w64 c.in-Present.base.0 = search rules in
    subst (λ p. IfErr c.read_number.result (IsReadErrorUnless (LiesBelow end (page_of p)))) (sym c.in-Present.is)
    (subst (λ (z : ℤ). IfErr c.read_number.result (IsReadErrorUnless (z <ℤ pos end))) (to_z-of_z w64 c.in-Present.base.0 fits) (c.read_number.ensures.known idle))

-- The bound is that of its Replace.

pub returns-in-Present-clause-bound : goal.returns-in-Present-clause-bound
returns-in-Present-clause-bound g c =
    let sum = g.C.Checksum.sum_of in
    let size : ℕ = segment_size_of c.args.log.now in
    let file : List ℕ = file_of g.D.Device.trace c.read_number.new.log in
    let fits : SFits w64 c.in-Present.base.0 = search rules in
    subst (λ p. AnswersBound c.read_number.result (IsBoundIn sum size file (page_of p))) (sym c.in-Present.is)
    (subst (λ (z : ℤ). AnswersBound c.read_number.result (IsBoundBy sum size file z c.in-Present.base.1)) (to_z-of_z w64 c.in-Present.base.0 fits) c.read_number.ensures.bound)

pub returns-in-Free-clause-bound : goal.returns-in-Free-clause-bound
returns-in-Free-clause-bound g c = answers_free g.C.Checksum.sum_of (segment_size_of c.args.log.now) (file_of g.D.Device.trace c.args.log.now) c.args.page.now (Corruption None) c.in-Free.is
