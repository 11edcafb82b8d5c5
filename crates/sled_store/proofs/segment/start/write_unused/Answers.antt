-- One more slot was filled, or this stopped.
use Rattle.std.proofs.Common.{◌≡◌, ◌∙◌, ◌+◌, ◌++◌, [], ◌∷◌, ℕ, Bool, false, List, map, Option, Some, is_some, ap, sym}
use Rattle.std.specs.Option.{option_or}
use Rattle.std.specs.Ordering.{nat_cmp}
use Rattle.std.specs.BTreeMap.{get}
use Rattle.sled_store.specs.declared.config.Config.{Config}
use Rattle.sled_store.specs.Script.{after_all}
use Rattle.sled_store.specs.Begin.{not_below, fill, first_of}
use Rattle.sled_store.proofs.Segments.FillLemmas.{after_err, not_below_no, first_push, filled_more, stopped_at, fill_is}
use Rattle.sled_store.proofs.segment.start.write_unused.Goals as goal

pub returns-in_err-write_at-clause-failed : goal.returns-in_err-write_at-clause-failed
returns-in_err-write_at-clause-failed g c =
    let size : ℕ = c.args.config.now.config.segment_size in
    let test : ℕ → Bool = λ k. is_some (get nat_cmp c.args.table.now.held k) in
    let slot : ℕ = c.loop-slot.slot in
    let is : test slot ≡ false = sym c.has.ensures ∙ c.if-has.false in
    let event_is = fill_is size slot c.loop-slot.config.config.segment_size c.args.zeros.now (ap (λ (x : Config). x.segment_size) c.loop-slot.invariant.config) c.requires.zeros in
    after_err c.from_residual.result _
    (stopped_at size test c.args.slots slot _ (g.D.Device.trace c.args.config.now.device) (g.D.Device.trace c.loop-slot.config.device) (g.D.Device.trace c.write_at.new.self) c.loop-slot-test.true is event_is c.loop-slot.invariant.trace c.in_err-write_at.ensures.trace)

pub loop-slot-preserved : goal.loop-slot-preserved
loop-slot-preserved g c =
    let size : ℕ = c.args.config.now.config.segment_size in
    let test : ℕ → Bool = λ k. is_some (get nat_cmp c.args.table.now.held k) in
    let slot : ℕ = c.loop-slot.slot in
    let is : test slot ≡ false = sym c.has.ensures ∙ c.if-has.false in
    let event_is = fill_is size slot c.loop-slot.config.config.segment_size c.args.zeros.now (ap (λ (x : Config). x.segment_size) c.loop-slot.invariant.config) c.requires.zeros in
    let more : not_below test (slot + 1) ≡ not_below test slot ++ slot ∷ [] = not_below_no test slot is in
    record {
      first = c.or-first.ensures ∙ ap (λ (o : Option ℕ). option_or o (Some slot)) c.loop-slot.invariant.first ∙ first_push (not_below test slot) slot ∙ ap first_of (sym more);
      trace = filled_more size (not_below test slot) slot _ (g.D.Device.trace c.args.config.now.device) (g.D.Device.trace c.loop-slot.config.device) (g.D.Device.trace c.write_at.new.self) event_is c.loop-slot.invariant.trace c.in_ok-write_at.ensures.trace
          ∙ ap (λ (ks : List ℕ). after_all (map (fill size) ks) (g.D.Device.trace c.args.config.now.device)) (sym more);
      faults = c.in_ok-write_at.ensures.faults ∙ c.loop-slot.invariant.faults;
      config = c.loop-slot.invariant.config;
      checksum = c.loop-slot.invariant.checksum;
    }
