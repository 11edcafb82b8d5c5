use Rattle.std.proofs.Common.{rules, Vec, Global, ◌∙◌, sym, ap, ◌≡◌, ◌+◌, ◌<◌, ◌≤◌, ℕ, List, length, subst, arith}
use Rattle.std.proofs.Math.Nat.{add-mod_right}
use Rattle.sled_store.specs.Device.{state_of}
use Rattle.sled_core.specs.declared.iterator.Segment.{Segment}
use Rattle.sled_core.specs.inside.Scan.{IsFoundSegment}
use Rattle.sled_log.specs.Ordering.{AreCollected}
use Rattle.sled_log.proofs.Passes.Same.{was_so}
use Rattle.sled_log.proofs.Ordering.CollectedLemmas.{none_more, one_more, all_slots}
use Rattle.sled_log.proofs.snapshot.ordering.collect_segments.Goals.{in-Some+in_ok-push, in_default}
use Rattle.sled_log.proofs.snapshot.ordering.collect_segments.Goals as goal

pub loop-slot-preserved : goal.loop-slot-preserved
loop-slot-preserved g c =
    let size : ℕ = c.args.config.now.config.segment_size in
    let log : List ℕ = (state_of (g.D.Device.trace c.args.config.now.device)).log.bytes in
    let before = c.loop-slot.invariant.collected in
    let slot : ℕ = c.loop-slot.slot in
    let ss : List Segment = c.loop-slot.segments.items in
    let whole = c.loop-slot.invariant.aligned in
    let some : 0 < size = let least = c.args.config.now.config.least in omega (arith, least) in
    let was = λ (P : ℕ → List ℕ → Type 0). was_so P c.args.config.now.config c.loop-slot.config.config (g.D.Device.trace c.args.config.now.device) (g.D.Device.trace c.loop-slot.config.device) c.loop-slot.invariant.config c.loop-slot.invariant.trace in
    record {
      collected = elim c.match-branch-3.branch [
        | in-Some+in_ok-push w ↦
            let found = was (λ n l. IsFoundSegment g.C.Checksum.sum_of n l c.args.least w.in-Some.segment × (w.in-Some.segment.slot ≡ slot)) (rw w.in-Some.is at c.in_ok-segment.ensures.some) in
            subst (λ (l : List Segment). AreCollected g.C.Checksum.sum_of size log c.args.least l (slot + size)) (sym (ap (λ (v : Vec Segment Global). v.items) w.segments-is ∙ w.in_ok-push.ensures.items))
            (one_more g.C.Checksum.sum_of size log c.args.least ss slot w.in-Some.segment whole some found.0 found.1 before)
        | in_default w ↦
            let none = was (λ n l. (s : Segment) → IsFoundSegment g.C.Checksum.sum_of n l c.args.least s → s.slot ≡ slot → ⊥) (rw w.in_default.is at c.in_ok-segment.ensures.none) in
            subst (λ (l : List Segment). AreCollected g.C.Checksum.sum_of size log c.args.least l (slot + size)) (sym (ap (λ (v : Vec Segment Global). v.items) w.segments-is))
            (none_more g.C.Checksum.sum_of size log c.args.least ss slot whole none some before)
      ];
      aligned = add-mod_right slot size ∙ whole;
      len = search rules;
      size = search rules;
      small = search rules;
      trace = search rules;
      faults = search rules;
      config = search rules;
      checksum = search rules;
    }

pub returns-clause-collected : goal.returns-clause-collected
returns-clause-collected g c =
    let log : List ℕ = (state_of (g.D.Device.trace c.args.config.now.device)).log.bytes in
    let past : length log ≤ c.loop-slot.slot = omega (arith, c.loop-slot.invariant.len, c.loop-slot-test.false) in
    all_slots g.C.Checksum.sum_of c.args.config.now.config.segment_size log c.args.least c.loop-slot.segments.items c.loop-slot.slot past c.loop-slot.invariant.collected
