use Rattle.std.proofs.Common.{◌≡◌, ◌∙◌, ℕ, List, [], ◌∷◌, length, subst, get_or}
use Rattle.std.proofs.lemmas.List.{take_all}
use Rattle.sled_store.specs.Device.{Trace, Wrote, Synced}
use Rattle.sled_store.specs.Script.{Performs, after_all}
use Rattle.sled_store.proofs.Traces.ScriptLemmas.{performs_whole}
use Rattle.sled_log.specs.WritesBack.{zeroing}
use Rattle.sled_log.proofs.WriteBack.ForgetLemmas.{zeroed_more, zeroing_begun}
use Rattle.sled_log.proofs.snapshot.write_back.zero_slots.Goals as goal

pub returns-in_err-write_settled-clause-calls : goal.returns-in_err-write_settled-clause-calls
returns-in_err-write_settled-clause-calls g c =
    let old : Trace = g.D.Device.trace c.args.device.now in
    let new : Trace = g.D.Device.trace c.write_settled.new.device in
    let slots : List ℕ = c.args.slots.now in
    let i : ℕ = c.loop-slot.slot-index in
    zeroing_begun (length c.args.zeros.now) slots i 0 c.loop-slot-test.true old (g.D.Device.trace c.loop-slot.device) new c.loop-slot.invariant.zeroed
    (subst (λ (b : List ℕ). Performs (Wrote (get_or slots i 0) b b ∷ Synced ∷ []) (g.D.Device.trace c.loop-slot.device) new) c.requires.zeros c.write_settled.ensures.calls)

pub loop-slot-preserved : goal.loop-slot-preserved
loop-slot-preserved g c =
    let mid : Trace = g.D.Device.trace c.loop-slot.device in
    let new : Trace = g.D.Device.trace c.write_settled.new.device in
    let slots : List ℕ = c.args.slots.now in
    let i : ℕ = c.loop-slot.slot-index in
    record {
      zeroed = zeroed_more (length c.args.zeros.now) slots i 0 c.loop-slot-test.true (g.D.Device.trace c.args.device.now) mid new c.loop-slot.invariant.zeroed
          (subst (λ (b : List ℕ). new ≡ Synced ∷ Wrote (get_or slots i 0) b b ∷ mid) c.requires.zeros c.in_ok-write_settled.ensures.done);
      faults = c.in_ok-write_settled.ensures.answers ∙ c.loop-slot.invariant.faults;
    }

pub returns-clause-done : goal.returns-clause-done
returns-clause-done g c =
    let slots : List ℕ = c.args.slots.now in
    subst (λ (l : List ℕ). g.D.Device.trace c.loop-slot.device ≡ after_all (zeroing (length c.args.zeros.now) l) (g.D.Device.trace c.args.device.now)) (take_all c.loop-slot.slot-index slots c.loop-slot-test.false) c.loop-slot.invariant.zeroed

pub returns-clause-calls : goal.returns-clause-calls
returns-clause-calls g c = performs_whole (zeroing (length c.args.zeros.now) c.args.slots.now) _ _ (returns-clause-done g c)
