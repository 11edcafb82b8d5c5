use Rattle.std.proofs.Common.{rules, ◌≡◌, ◌<◌, ◌≤ℤ◌, ◌<ℤ◌, w64, SFits, arith, ◌∷◌, length, sym, subst}
use Rattle.std.proofs.lemmas.Int.{ints, to_z-of_z}
use Rattle.std.proofs.lemmas.List.Elements.{All-rest}
use Rattle.sled_core.specs.StableEnds.{AreInOrder, AreWaiting, HasPlaceBefore, end_before}
use Rattle.sled_core.proofs.Stable.Waiting.{front_popped, open_from, drop_first, rest_in_order, rises_past}
use Rattle.sled_core.proofs.iobuf.intervals.drop_synced.Goals as goal

pub loop-batch-preserved : goal.loop-batch-preserved
loop-batch-preserved c =
    let e = c.args.end in
    let same = to_z-of_z w64 e c.ranges.end in
    let b = c.in-Some.batch.now in
    let start = c.args.batches.now.items in
    let old = c.loop-batch.batches.items in
    let left = c.pop_front.new.self.items in
    let high_fits : SFits w64 b.1 = search rules in
    let test = c.if-end-batch.false in
    let done : b.1 ≤ℤ e = omega (arith, ints) in
    let some : 0 < length old = search rules in
    let was : old ≡ b ∷ left = front_popped old left b some c.in-Some.ensures.lookup c.pop_front.ensures.rest in
    let inv = c.loop-batch.invariant in
    record {
      awaits = λ bs a. rw same (drop_first bs e b left done (subst (AreWaiting bs e) was (subst (λ z. AreWaiting bs z old) same (inv.awaits bs a))));
      in_order = λ ord. rest_in_order b left (subst AreInOrder was (inv.in_order ord));
      rises = λ ord. rw same (rises_past e (end_before e start) b left (subst AreInOrder was (inv.in_order ord)) done
          (subst (λ l. end_before e start ≤ℤ end_before e l) was (subst (λ z. end_before z start ≤ℤ end_before z old) same (inv.rises ord))));
      bounded = λ all. All-rest HasPlaceBefore b left old was (inv.bounded all);
      fewer = search rules;
      room = search rules;
    }

pub returns-then-end-batch-clause-awaits : goal.returns-then-end-batch-clause-awaits
returns-then-end-batch-clause-awaits c bs a =
    let same = to_z-of_z w64 c.args.end c.ranges.end in
    subst (λ e. AreWaiting bs e c.loop-batch.batches.items) same (c.loop-batch.invariant.awaits bs (subst (λ e. AreWaiting bs e c.args.batches.now.items) (sym same) a))

pub returns-then-end-batch-clause-open_yet : goal.returns-then-end-batch-clause-open_yet
returns-then-end-batch-clause-open_yet c ord =
    let b = c.in-Some.batch.now in
    let items = c.loop-batch.batches.items in
    let high_fits : SFits w64 b.1 = search rules in
    let test = c.if-end-batch.true in
    let open_yet : c.args.end <ℤ b.1 = omega (arith, ints) in
    let some : 0 < length items = search rules in
    open_from c.args.end items b (c.loop-batch.invariant.in_order ord) some c.in-Some.ensures.lookup open_yet

pub returns-in_default-clause-awaits : goal.returns-in_default-clause-awaits
returns-in_default-clause-awaits c bs a =
    let same = to_z-of_z w64 c.args.end c.ranges.end in
    subst (λ e. AreWaiting bs e c.loop-batch.batches.items) same (c.loop-batch.invariant.awaits bs (subst (λ e. AreWaiting bs e c.args.batches.now.items) (sym same) a))
