use Rattle.std.proofs.Common.{rules, ◌≡◌, ◌≤ℤ◌, ◌<ℤ◌, w64, SFits, arith, refl, ap, ◌∙◌, subst, length, deque_len}
use Rattle.std.specs.List.{AllWithin}
use Rattle.std.proofs.lemmas.Int.{to_z-of_z}
use Rattle.sled_core.specs.StableEnds.{AreInOrder, HasPlaceBefore, end_before}
use Rattle.sled_core.specs.Synced.{stable_of}
use Rattle.sled_core.proofs.Stable.Noted.{fits_before, noted_all}
use Rattle.sled_core.proofs.Stable.KnownEnds.{noted_known, noted_stays}
use Rattle.sled_core.proofs.iobuf.intervals.StabilityIntervals.mark_batch.Goals as goal

pub invariant_of-self-clause-bounded : goal.invariant_of-self-clause-bounded
invariant_of-self-clause-bounded c =
    let old = c.args.self.now in
    let low_is_number : SFits w64 c.args.batch.0 = search rules in
    let end_is_number : SFits w64 c.stable_end.result = search rules in
    let before = fits_before (stable_of old) c.args.batch (subst (SFits w64) c.stable_end.ensures.is end_is_number) low_is_number c.requires.above in
    noted_all _ HasPlaceBefore c.insert.result old.batches.items c.insert.new.self.items c.ended_by-at.result c.args.batch c.insert.ensures.items c.insert.ensures.unchanged before old.bounded

pub returns-clause-knows : goal.returns-clause-knows
returns-clause-knows c s is bs k apart =
    let left = c.args.self.now.batches.items in
    let at = c.ended_by-at.result in
    let low_is_number : SFits w64 c.args.batch.0 = search rules in
    let same = to_z-of_z w64 c.args.batch.0 low_is_number in
    let below = subst (λ z. AreInOrder left → AllWithin (λ b. b.1 ≤ℤ z) left 0 at) same c.ended_by-at.ensures.below in
    let above = subst (λ z. AreInOrder left → AllWithin (λ b. z <ℤ b.1) left at (length left)) same c.ended_by-at.ensures.above in
    let counted : deque_len c.args.self.now.batches ≡ length left = search rules in
    let within = c.ended_by-at.ensures.within in
    noted_known c.args.self.now c.args.batch at c.requires.ordered c.requires.above (omega arith) below above s is bs k apart _ refl refl c.in_ok-insert.ensures.items

pub returns-clause-stays : goal.returns-clause-stays
returns-clause-stays c s is bs k apart =
    let left = c.args.self.now.batches.items in
    let at = c.ended_by-at.result in
    let low_is_number : SFits w64 c.args.batch.0 = search rules in
    let same = to_z-of_z w64 c.args.batch.0 low_is_number in
    let below = subst (λ z. AreInOrder left → AllWithin (λ b. b.1 ≤ℤ z) left 0 at) same c.ended_by-at.ensures.below in
    let above = subst (λ z. AreInOrder left → AllWithin (λ b. z <ℤ b.1) left at (length left)) same c.ended_by-at.ensures.above in
    let counted : deque_len c.args.self.now.batches ≡ length left = search rules in
    let within = c.ended_by-at.ensures.within in
    ap (end_before c.args.self.now.contiguous) c.in_ok-insert.ensures.items ∙ noted_stays c.args.self.now c.args.batch at c.requires.ordered c.requires.above (omega arith) below above s is bs k apart
