use Rattle.std.proofs.Common.{◌≡◌, ◌∙◌, ◌+◌, ◌++◌, ◌<◌, ℕ, suc, List, All, length, take, ap, sym, subst, arith}
use Rattle.std.proofs.lemmas.List.Elements.{All-append}
use Rattle.sled_store.specs.Accounts.{machine_of}
use Rattle.sled_store.specs.SegmentStates.{SlotState}
use Rattle.sled_core.specs.Ahead.{HasEnds}
use Rattle.sled_core.specs.inside.LogSegments.{list_of}
use Rattle.sled_core.specs.LogSegments.{segments_among}
use Rattle.sled_core.specs.declared.iterator.Segment.{Segment}
use Rattle.sled_core.proofs.Iterates.OfSlots.{all_of, among_further}
use Rattle.sled_core.proofs.logger.iterating.segments_within.Goals as goal

pub loop-slot-preserved : goal.loop-slot-preserved
loop-slot-preserved c =
    let slots : List SlotState = (machine_of c.args.accountant.now).slots in
    let k : ℕ = c.loop-slot.slot in
    let lt : k < length slots = omega (arith, c.loop-slot-test.true, c.slot_count-count.ensures) in
    let put = c.in_ok-put.ensures.put in
    let next : suc k ≡ k + 1 = omega arith in
    record {
      are = put ∙ ap (λ (l : List Segment). l ++ list_of c.segment_within.result) c.loop-slot.invariant.are
          ∙ ap (λ (l : List Segment). segments_among c.args.size c.args.from c.args.to 0 (take k slots) ++ l) c.segment_within.ensures.is
          ∙ sym (among_further c.args.size c.args.from c.args.to 0 slots k k (omega arith) lt)
          ∙ ap (λ n. segments_among c.args.size c.args.from c.args.to 0 (take n slots)) next;
      ends = subst (All (HasEnds c.args.size)) (sym put)
          (All-append (HasEnds c.args.size) c.loop-slot.segments.items (list_of c.segment_within.result) c.loop-slot.invariant.ends (all_of (HasEnds c.args.size) c.segment_within.result c.segment_within.ensures.ends));
      within = omega (arith, lt);
    }
