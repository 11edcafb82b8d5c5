use Rattle.std.proofs.Common.{rules, ◌≡◌, ◌∙◌, ℕ, length, replicate, refl, ap, subst}
use Rattle.std.specs.Prelude.{OnOk}
use Rattle.std.proofs.lemmas.List.{length-replicate}
use Rattle.sled_store.specs.Device.{Trace}
use Rattle.sled_store.specs.Script.{Performs, after_all}
use Rattle.sled_store.proofs.Traces.ScriptLemmas.{performs_nothing}
use Rattle.sled_log.specs.WritesBack.{zeroing}
use Rattle.sled_log.proofs.snapshot.write_back.zero_unread.Given.{Over}
use Rattle.sled_log.proofs.snapshot.write_back.zero_unread.Goals as goal

pub returns-then-is_empty-clause-calls : goal.returns-then-is_empty-clause-calls
returns-then-is_empty-clause-calls g c = performs_nothing (zeroing c.args.config.now.config.segment_size c.args.unread.now) _ _ refl

pub returns-in_err-zeros-clause-calls : goal.returns-in_err-zeros-clause-calls
returns-in_err-zeros-clause-calls g c = performs_nothing (zeroing c.args.config.now.config.segment_size c.args.unread.now) _ _ refl

-- a segment of zeros is written
module _ (g : Over) (c : goal.After-drop-zeros g) where
  long : length c.deref.result.now ≡ c.args.config.now.config.segment_size
  long =
      let zeros : c.deref.result.now ≡ replicate c.args.config.now.config.segment_size 0 = search rules in
      ap length zeros ∙ length-replicate c.args.config.now.config.segment_size 0

pub returns-clause-done : goal.returns-clause-done
returns-clause-done g c =
    let old : Trace = g.D.Device.trace c.args.config.now.device in
    let new : Trace = g.D.Device.trace c.zero_slots.new.device in
    subst (λ (n : ℕ). OnOk c.zero_slots.result (new ≡ after_all (zeroing n c.args.unread.now) old)) (long g c) c.zero_slots.ensures.done

pub returns-clause-calls : goal.returns-clause-calls
returns-clause-calls g c =
    let old : Trace = g.D.Device.trace c.args.config.now.device in
    let new : Trace = g.D.Device.trace c.zero_slots.new.device in
    subst (λ (n : ℕ). Performs (zeroing n c.args.unread.now) old new) (long g c) c.zero_slots.ensures.calls
