use Rattle.std.proofs.Common.{◌≡◌, ◌∙◌, ◌++◌, ℕ, ℤ, List, [], ◌∷◌, map, true, false, Option, is_some, sym, subst}
use Rattle.sled_codec.specs.declared.result.Error.TheVariants.{Corruption}
use Rattle.sled_store.specs.Device.{state_of}
use Rattle.sled_log.specs.Recovery.{Scanned, resolved_scan}
use Rattle.sled_log.specs.Passes.{HasMade, pass_of}
use Rattle.sled_log.proofs.Passes.Blobs.{pass_fits}
use Rattle.sled_log.proofs.Passes.SoFar.{closed_resolved, so_far_bad, so_far_fine, so_far_meets}
use Rattle.sled_log.proofs.snapshot.pass.replay_one.Goals as goal

pub returns-then-is_some-clause-made : goal.returns-then-is_some-clause-made
returns-then-is_some-clause-made g c = λ first passes closed so.
    let blobs : ℤ → Option (List ℕ) = (state_of (g.D.Device.trace c.args.config.now.device)).blobs.file in
    let some : is_some c.args.bad_blob ≡ true = sym c.is_some.ensures ∙ c.if-is_some.true in
    so_far_bad g.C.Checksum.sum_of blobs c.args.end first passes (pass_of c.args.pass) c.args.bad_blob c.args.replay.now some so

pub apply_pass-requires-clause-fits : goal.apply_pass-requires-clause-fits
apply_pass-requires-clause-fits g c =
    let size : ℕ = c.args.config.now.config.segment_size in
    let blobs : ℤ → Option (List ℕ) = (state_of (g.D.Device.trace c.args.config.now.device)).blobs.file in
    (size, pass_fits size blobs c.args.end c.args.pass c.resolve_pass.new.pass c.in-Ok.ensures.pass c.requires.fits)

pub returns-in-Ok-clause-made : goal.returns-in-Ok-clause-made
returns-in-Ok-clause-made g c = λ first passes closed so.
    let blobs : ℤ → Option (List ℕ) = (state_of (g.D.Device.trace c.args.config.now.device)).blobs.file in
    let end : ℕ = c.args.end in
    let before : List Scanned = map (resolved_scan blobs end) passes in
    let none : is_some c.args.bad_blob ≡ false = sym c.is_some.ensures ∙ c.if-is_some.false in
    so_far_fine g.C.Checksum.sum_of blobs end first passes (pass_of c.args.pass) c.args.bad_blob c.args.replay.now c.apply_pass.new.replay none so c.in-Ok.ensures.good
    (λ made. subst (λ (y : Scanned). HasMade end first (before ++ y ∷ []) c.apply_pass.new.replay) c.in-Ok.ensures.pass
    (c.in_ok-apply_pass-in-Ok.ensures.made first before (closed_resolved blobs end passes closed) made))

pub returns-in-Ok-clause-stop : goal.returns-in-Ok-clause-stop
returns-in-Ok-clause-stop g c = λ was.
    let size : ℕ = c.args.config.now.config.segment_size in
    let blobs : ℤ → Option (List ℕ) = (state_of (g.D.Device.trace c.args.config.now.device)).blobs.file in
    c.in_ok-apply_pass-in-Ok.ensures.stop size (pass_fits size blobs c.args.end c.args.pass c.resolve_pass.new.pass c.in-Ok.ensures.pass c.requires.fits) was

pub returns-in-Err-Corruption-clause-made : goal.returns-in-Err-Corruption-clause-made
returns-in-Err-Corruption-clause-made g c = λ first passes closed so.
    let blobs : ℤ → Option (List ℕ) = (state_of (g.D.Device.trace c.args.config.now.device)).blobs.file in
    let is : c.in-Err-Corruption.field-0 ≡ Corruption c.in-Err-Corruption.at = cc in
    let answers = rw is at c.in-Err-Corruption.ensures.answers in
    let bad = rw is at c.in-Err-Corruption.ensures.bad in
    so_far_meets g.C.Checksum.sum_of blobs c.args.end first passes (pass_of c.args.pass) c.in-Err-Corruption.at c.args.replay.now answers.1 bad
