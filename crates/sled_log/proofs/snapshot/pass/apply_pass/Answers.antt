use Rattle.std.proofs.Common.{◌≡◌, ◌∙◌, ◌+◌, ◌≤◌, ℕ, Option, Some, ap, sym, subst, refl, arith}
use Rattle.std.specs.Option.{unwrap_or}
use Rattle.sled_codec.specs.Errors.{IsCorrupt}
use Rattle.sled_log.specs.declared.snapshot.pass.Pass.{Pass}
use Rattle.sled_log.specs.Recovery.{open_at}
use Rattle.sled_log.specs.Passes.{pass_of}
use Rattle.sled_log.proofs.Passes.Replays.{made_bad, made_more, made_none}
use Rattle.sled_log.proofs.Replay.RecoveryLemmas.{open_below}
use Rattle.sled_log.proofs.snapshot.pass.apply_pass.Goals as goal

pub returns-then-replay-clause-made : goal.returns-then-replay-clause-made
returns-then-replay-clause-made c = λ first passes closed made.
    made_none c.args.end first passes (pass_of c.args.pass.now) closed c.args.replay.now _ made refl refl refl c.if-replay.true c.if-replay.true

pub returns-in-Ok-clause-made : goal.returns-in-Ok-clause-made
returns-in-Ok-clause-made c = λ first passes closed made.
    let p : Pass = c.args.pass.now in
    let ends : ℕ = p.segment.place + p.scan.stop in
    let opened = rw c.deref.ensures.value at c.in-Ok.ensures.stop in
    let stop : c.unwrap_or.result ≡ unwrap_or (open_at c.args.end p.scan.met.items) ends = c.unwrap_or.ensures ∙ ap (λ (o : Option ℕ). unwrap_or o ends) opened in
    made_more c.args.end first passes (pass_of p) closed c.args.replay.now _ made refl refl refl c.if-replay.false c.if-replay.false c.stable_place-least.result c.stable_place-least.ensures.place
    (rw c.deref.ensures.value at c.in-Ok.ensures.fine) (rw c.deref.ensures.value at c.in-Ok.ensures.pages) (ap (λ (n : ℕ). Some (p.segment, n)) stop)

pub returns-in-Ok-clause-stop : goal.returns-in-Ok-clause-stop
returns-in-Ok-clause-stop c = λ size fits was.
    let p : Pass = c.args.pass.now in
    let ends : ℕ = p.segment.place + p.scan.stop in
    let opened = rw c.deref.ensures.value at c.in-Ok.ensures.stop in
    let stop : c.unwrap_or.result ≡ unwrap_or (open_at c.args.end p.scan.met.items) ends = c.unwrap_or.ensures ∙ ap (λ (o : Option ℕ). unwrap_or o ends) opened in
    let within = fits.stop in
    let below = open_below c.args.end (p.segment.place + size) p.scan.met.items ends fits.places (omega (arith, within)) in
    (fits.place, fits.slot, subst (λ n. n ≤ p.segment.place + size) (sym stop) below)

pub returns-in-Err-Corruption-clause-made : goal.returns-in-Err-Corruption-clause-made
returns-in-Err-Corruption-clause-made c = λ first passes closed made.
    made_bad c.args.end first passes (pass_of c.args.pass.now) closed c.args.replay.now _ made refl refl refl c.if-replay.false refl c.stable_place-least.result c.stable_place-least.ensures.place
    (rw c.deref.ensures.value at c.in-Err-Corruption.ensures.corrupt (subst IsCorrupt (sym c.in-Err-Corruption.field-0-is) tt))
