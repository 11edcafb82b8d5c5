use Rattle.std.proofs.Common.{rules, ◌≡◌, ℕ, List, Option, [], ◌∷◌, replicate, ap, sym, subst}
use Rattle.std.specs.Prelude.{OnOk}
use Rattle.sled_store.specs.Device.{Trace, Wrote, Synced}
use Rattle.sled_store.specs.Script.{Performs, after_all}
use Rattle.sled_store.proofs.Traces.ScriptLemmas.{performs_nothing}
use Rattle.sled_log.specs.WritesBack.{shredding, range_of}
use Rattle.sled_log.proofs.snapshot.write_back.shred.Goals as goal

pub returns-in_default-clause-calls : goal.returns-in_default-clause-calls
returns-in_default-clause-calls g c = performs_nothing (shredding (range_of c.args.shred_range)) _ _ (search rules)

pub returns-in_err-zeros-clause-calls : goal.returns-in_err-zeros-clause-calls
returns-in_err-zeros-clause-calls g c = performs_nothing (shredding (range_of c.args.shred_range)) _ _ (search rules)

pub returns-clause-calls : goal.returns-clause-calls
returns-clause-calls g c =
    let bytes : List ℕ = c.deref.result.now in
    let at : ℕ = c.in-Some.shred_range.at in
    let zeros : bytes ≡ replicate c.in-Some.shred_range.len 0 = search rules in
    let old : Trace = g.D.Device.trace c.args.config.now.device in
    let new : Trace = g.D.Device.trace c.write_settled.new.device in
    subst (λ (x : Option (ℕ × ℕ)). Performs (shredding x) old new) (sym (ap range_of c.in-Some.is))
    (subst (λ (b : List ℕ). Performs (Wrote at b b ∷ Synced ∷ []) old new) zeros c.write_settled.ensures.calls)

pub returns-clause-done : goal.returns-clause-done
returns-clause-done g c =
    let bytes : List ℕ = c.deref.result.now in
    let at : ℕ = c.in-Some.shred_range.at in
    let zeros : bytes ≡ replicate c.in-Some.shred_range.len 0 = search rules in
    let old : Trace = g.D.Device.trace c.args.config.now.device in
    let new : Trace = g.D.Device.trace c.write_settled.new.device in
    subst (λ (x : Option (ℕ × ℕ)). OnOk c.write_settled.result (new ≡ after_all (shredding x) old)) (sym (ap range_of c.in-Some.is))
    (subst (λ (b : List ℕ). OnOk c.write_settled.result (new ≡ Synced ∷ Wrote at b b ∷ old)) zeros c.write_settled.ensures.done)
