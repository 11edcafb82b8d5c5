-- Each command is carried out by a function of its own.
use Rattle.std.proofs.Common.{SFits, arith, rules, ◌≡◌, refl, sym, ap, subst, Bool, None, Some}
use Rattle.std.specs.Int.{w64}
use Rattle.std.proofs.lemmas.Int.{to_z-of_z}
use Rattle.sled_core.specs.Fits.{config_of, device_of, segment_size_of}
use Rattle.sled_core.proofs.PublicLaws.{not_in_blob}
use Rattle.sled_log.specs.declared.session.Phase.TheVariants as phase
use Rattle.sled_log.specs.declared.session.opened.Opened.{Opened}
use Rattle.sled_log.specs.declared.session.command.Command.{Command}
use Rattle.sled_log.specs.declared.session.command.Command.TheVariants as command
use Rattle.sled_log.specs.declared.session.command.Refusal.{Refusal}
use Rattle.sled_log.specs.declared.session.command.Refusal.TheVariants as why
use Rattle.sled_log.specs.declared.session.command.Reply.{Reply}
use Rattle.sled_log.specs.declared.session.command.Reply.TheVariants as reply
use Rattle.sled_log.specs.Refusals.{when}
use Rattle.sled_log.specs.Runs.{calls_log}
use Rattle.sled_log.specs.RunPhases.{CarriesHere, RunsOn, view_by}
use Rattle.sled_log.proofs.Sessions.Carried.{free_does, free_may, link_does, link_may, passes, replace_does, replace_may}
use Rattle.sled_log.proofs.Sessions.RunLemmas.{carried_here, halted, runs_on_same}
use Rattle.sled_log.specs.Devices.{TouchesIn}
use Rattle.sled_log.specs.LogActs.{ActsOver}
use Rattle.sled_log.proofs.Sessions.LogActs.{acts_as, free_acts, link_acts, replace_acts}
use Rattle.sled_log.proofs.Sessions.DeviceLemmas.{halts, touched, touched_open, went_on}
use Rattle.sled_log.proofs.session.carrying.carry_out_marked.Goals.{in-Replace, in-Link, in-Free, in-Rewrite, in-BeginBatch, in-EndBatch, in-Complete, in-Abort, in-Write, in-Flush, in-Stable, in-Read, in-Open}
use Rattle.sled_log.proofs.session.carrying.carry_out_marked.Goals as goal

-- an opening is refused while a log is open
never_open : (b : Bool) (w v : Refusal) → when b w (Some v) ≡ None → ⊥
never_open b w v free = let some = (passes b w (Some v) free).1 in cc

pub returns-in-Halt-clause-step : goal.returns-in-Halt-clause-step
returns-in-Halt-clause-step g c = λ stopped.
    let view = view_by g.D.Device.trace g.D.Device.faults stopped in
    λ due. carried_here view g.C.Checksum.sum_of (phase.Open c.args.opened) command.Halt c.args.command.now (phase.Closed c.halt.result, reply.Halted) c.in-Halt.is (halted view g.C.Checksum.sum_of c.args.opened c.halt.result c.halt.ensures)

pub returns-clause-step : goal.returns-clause-step
returns-clause-step g c = λ stopped due.
    let view = view_by g.D.Device.trace g.D.Device.faults stopped in
    let sum = g.C.Checksum.sum_of in
    let old = c.args.opened in
    let cmd : Command = c.args.command.now in
    let Goal : Opened g.row.D.Denot g.row.C.Denot → Reply → Type 0 = λ o r. CarriesHere view sum (phase.Open old) cmd (phase.Open o, r) in
    let put : (o : Opened g.row.D.Denot g.row.C.Denot) (r : Reply) → c.match-command.opened ≡ o → c.match-command.reply ≡ r → Goal o r → Goal c.match-command.opened c.match-command.reply =
    λ o r opened_is reply_is done. subst (λ x. Goal x c.match-command.reply) (sym opened_is) (subst (Goal o) (sym reply_is) done) in
    elim c.match-command.branch [
      | in-Complete w ↦ put w.complete-reply.new.opened w.complete-reply.result w.opened-is w.reply-is (carried_here view sum (phase.Open old) (command.Complete w.in-Complete.number) cmd (phase.Open w.complete-reply.new.opened, w.complete-reply.result) w.in-Complete.is (w.complete-reply.ensures.step stopped (due (ap calls_log w.in-Complete.is))))
      | in-BeginBatch w ↦ put w.begin-reply.new.opened w.begin-reply.result w.opened-is w.reply-is (carried_here view sum (phase.Open old) command.BeginBatch cmd (phase.Open w.begin-reply.new.opened, w.begin-reply.result) w.in-BeginBatch.is (w.begin-reply.ensures.step stopped (due (ap calls_log w.in-BeginBatch.is))))
      | in-EndBatch w ↦ put w.end-reply.new.opened w.end-reply.result w.opened-is w.reply-is (carried_here view sum (phase.Open old) command.EndBatch cmd (phase.Open w.end-reply.new.opened, w.end-reply.result) w.in-EndBatch.is (w.end-reply.ensures.step stopped (due (ap calls_log w.in-EndBatch.is))))
      | in-Abort w ↦ put w.abort-reply.new.opened w.abort-reply.result w.opened-is w.reply-is (carried_here view sum (phase.Open old) (command.Abort w.in-Abort.number) cmd (phase.Open w.abort-reply.new.opened, w.abort-reply.result) w.in-Abort.is (w.abort-reply.ensures.step stopped (due (ap calls_log w.in-Abort.is))))
      | in-Write w ↦ put w.write-reply.new.opened w.write-reply.result w.opened-is w.reply-is (carried_here view sum (phase.Open old) (command.Write w.in-Write.i) cmd (phase.Open w.write-reply.new.opened, w.write-reply.result) w.in-Write.is (w.write-reply.ensures.step stopped (due (ap calls_log w.in-Write.is))))
      | in-Flush w ↦ put w.flush-reply.new.opened w.flush-reply.result w.opened-is w.reply-is (carried_here view sum (phase.Open old) command.Flush cmd (phase.Open w.flush-reply.new.opened, w.flush-reply.result) w.in-Flush.is (w.flush-reply.ensures.step stopped (due (ap calls_log w.in-Flush.is))))
      | in-Stable w ↦ (
          let fits : SFits w64 w.in-Stable.place = search rules in
          put w.stabilize-reply.new.opened w.stabilize-reply.result w.opened-is w.reply-is (carried_here view sum (phase.Open old) (command.Stable w.in-Stable.place) cmd (phase.Open w.stabilize-reply.new.opened, w.stabilize-reply.result) w.in-Stable.is
          (subst (λ z. CarriesHere view sum (phase.Open old) (command.Stable z) (phase.Open w.stabilize-reply.new.opened, w.stabilize-reply.result)) (to_z-of_z w64 w.in-Stable.place fits) (w.stabilize-reply.ensures.step stopped (due (ap calls_log w.in-Stable.is))))))
      | in-Read w ↦ put w.read-reply.new.opened w.read-reply.result w.opened-is w.reply-is (carried_here view sum (phase.Open old) (command.Read w.in-Read.page) cmd (phase.Open w.read-reply.new.opened, w.read-reply.result) w.in-Read.is (w.read-reply.ensures.step stopped (due (ap calls_log w.in-Read.is))))
      | in-Replace w ↦ put w.reserve-reply.new.opened w.reserve-reply.result w.opened-is w.reply-is (carried_here view sum (phase.Open old) (command.Replace w.in-Replace.page w.in-Replace.item) cmd (phase.Open w.reserve-reply.new.opened, w.reserve-reply.result) w.in-Replace.is
          (λ k at free. replace_does view sum old k w.in-Replace.page w.reserve-reply.new.opened w.reserve-reply.result w.in-Replace.item (w.reserve-reply.ensures.step stopped (due (ap calls_log w.in-Replace.is)) k at (replace_may view sum old k w.in-Replace.page w.in-Replace.item free))))
      | in-Rewrite w ↦ put w.rewrite-reply.new.opened w.rewrite-reply.result w.opened-is w.reply-is (carried_here view sum (phase.Open old) (command.Rewrite w.in-Rewrite.page) cmd (phase.Open w.rewrite-reply.new.opened, w.rewrite-reply.result) w.in-Rewrite.is (w.rewrite-reply.ensures.step stopped (due (ap calls_log w.in-Rewrite.is))))
      | in-Link w ↦ put w.reserve-reply-in-Link.new.opened w.reserve-reply-in-Link.result w.opened-is w.reply-is (carried_here view sum (phase.Open old) (command.Link w.in-Link.page w.in-Link.item) cmd (phase.Open w.reserve-reply-in-Link.new.opened, w.reserve-reply-in-Link.result) w.in-Link.is
          (λ k at free. link_does view sum old k w.in-Link.page w.reserve-reply-in-Link.new.opened w.reserve-reply-in-Link.result w.in-Link.item (w.reserve-reply-in-Link.ensures.step stopped (due (ap calls_log w.in-Link.is)) k at (link_may view sum old k w.in-Link.page w.in-Link.item free))))
      | in-Free w ↦ put w.reserve-reply-in-Free.new.opened w.reserve-reply-in-Free.result w.opened-is w.reply-is (carried_here view sum (phase.Open old) (command.Free w.in-Free.page) cmd (phase.Open w.reserve-reply-in-Free.new.opened, w.reserve-reply-in-Free.result) w.in-Free.is
          (λ k at free. free_does view sum old k w.in-Free.page w.reserve-reply-in-Free.new.opened w.reserve-reply-in-Free.result (w.reserve-reply-in-Free.ensures.step stopped (due (ap calls_log w.in-Free.is)) k at (free_may view sum old k w.in-Free.page free))))
      | in-Open w ↦ put old (reply.Refused why.Open) w.opened-is w.reply-is (carried_here view sum (phase.Open old) command.Open cmd (phase.Open old, reply.Refused why.Open) w.in-Open.is (λ k at free. absurd (never_open _ _ _ free)))
    ]

pub returns-clause-on : goal.returns-clause-on
returns-clause-on g c =
    let old = c.args.opened in
    let Goes : Opened g.row.D.Denot g.row.C.Denot → Type 0 = λ o. RunsOn g.D.Device.trace (config_of old.log) (config_of o.log) in
    elim c.match-command.branch [
      | in-Complete w ↦ subst Goes (sym w.opened-is) w.complete-reply.ensures.on
      | in-BeginBatch w ↦ subst Goes (sym w.opened-is) w.begin-reply.ensures.on
      | in-EndBatch w ↦ subst Goes (sym w.opened-is) w.end-reply.ensures.on
      | in-Abort w ↦ subst Goes (sym w.opened-is) w.abort-reply.ensures.on
      | in-Write w ↦ subst Goes (sym w.opened-is) w.write-reply.ensures.on
      | in-Flush w ↦ subst Goes (sym w.opened-is) w.flush-reply.ensures.on
      | in-Stable w ↦ subst Goes (sym w.opened-is) w.stabilize-reply.ensures.on
      | in-Read w ↦ subst Goes (sym w.opened-is) w.read-reply.ensures.on
      | in-Replace w ↦ subst Goes (sym w.opened-is) w.reserve-reply.ensures.on
      | in-Rewrite w ↦ subst Goes (sym w.opened-is) w.rewrite-reply.ensures.on
      | in-Link w ↦ subst Goes (sym w.opened-is) w.reserve-reply-in-Link.ensures.on
      | in-Free w ↦ subst Goes (sym w.opened-is) w.reserve-reply-in-Free.ensures.on
      | in-Open w ↦ subst Goes (sym w.opened-is) (runs_on_same g.D.Device.trace (config_of old.log) (config_of old.log) refl)
    ]

-- What each does to the device.
pub returns-in-Halt-clause-device : goal.returns-in-Halt-clause-device
returns-in-Halt-clause-device g c = λ stopped.
    let view = view_by g.D.Device.trace g.D.Device.faults stopped in
    touched view g.C.Checksum.sum_of (phase.Open c.args.opened) command.Halt c.args.command.now (phase.Closed c.halt.result) reply.Halted c.in-Halt.is (halts view g.C.Checksum.sum_of c.args.opened c.halt.result c.halt.ensures)

pub returns-clause-device : goal.returns-clause-device
returns-clause-device g c = λ stopped.
    let view = view_by g.D.Device.trace g.D.Device.faults stopped in
    let sum = g.C.Checksum.sum_of in
    let old = c.args.opened in
    let cmd : Command = c.args.command.now in
    let Goal : Opened g.row.D.Denot g.row.C.Denot → Reply → Type 0 = λ o r. TouchesIn view sum (phase.Open old) cmd (phase.Open o) r in
    let put : (o : Opened g.row.D.Denot g.row.C.Denot) (r : Reply) → c.match-command.opened ≡ o → c.match-command.reply ≡ r → Goal o r → Goal c.match-command.opened c.match-command.reply =
    λ o r opened_is reply_is done. subst (λ x. Goal x c.match-command.reply) (sym opened_is) (subst (Goal o) (sym reply_is) done) in
    elim c.match-command.branch [
      | in-Complete w ↦ put w.complete-reply.new.opened w.complete-reply.result w.opened-is w.reply-is (went_on view sum old w.complete-reply.new.opened cmd w.complete-reply.result (ap calls_log w.in-Complete.is) (acts_as view sum old.log w.complete-reply.new.opened.log (command.Complete w.in-Complete.number) cmd w.complete-reply.result w.in-Complete.is (w.complete-reply.ensures.device stopped)))
      | in-BeginBatch w ↦ put w.begin-reply.new.opened w.begin-reply.result w.opened-is w.reply-is (went_on view sum old w.begin-reply.new.opened cmd w.begin-reply.result (ap calls_log w.in-BeginBatch.is) (acts_as view sum old.log w.begin-reply.new.opened.log (command.BeginBatch) cmd w.begin-reply.result w.in-BeginBatch.is (w.begin-reply.ensures.device stopped)))
      | in-EndBatch w ↦ put w.end-reply.new.opened w.end-reply.result w.opened-is w.reply-is (went_on view sum old w.end-reply.new.opened cmd w.end-reply.result (ap calls_log w.in-EndBatch.is) (acts_as view sum old.log w.end-reply.new.opened.log (command.EndBatch) cmd w.end-reply.result w.in-EndBatch.is (w.end-reply.ensures.device stopped)))
      | in-Abort w ↦ put w.abort-reply.new.opened w.abort-reply.result w.opened-is w.reply-is (went_on view sum old w.abort-reply.new.opened cmd w.abort-reply.result (ap calls_log w.in-Abort.is) (acts_as view sum old.log w.abort-reply.new.opened.log (command.Abort w.in-Abort.number) cmd w.abort-reply.result w.in-Abort.is (w.abort-reply.ensures.device stopped)))
      | in-Write w ↦ put w.write-reply.new.opened w.write-reply.result w.opened-is w.reply-is (went_on view sum old w.write-reply.new.opened cmd w.write-reply.result (ap calls_log w.in-Write.is) (acts_as view sum old.log w.write-reply.new.opened.log (command.Write w.in-Write.i) cmd w.write-reply.result w.in-Write.is (w.write-reply.ensures.device stopped)))
      | in-Flush w ↦ put w.flush-reply.new.opened w.flush-reply.result w.opened-is w.reply-is (went_on view sum old w.flush-reply.new.opened cmd w.flush-reply.result (ap calls_log w.in-Flush.is) (acts_as view sum old.log w.flush-reply.new.opened.log (command.Flush) cmd w.flush-reply.result w.in-Flush.is (w.flush-reply.ensures.device stopped)))
      | in-Stable w ↦ (
          let fits : SFits w64 w.in-Stable.place = search rules in
          let acts = subst (λ z. ActsOver view sum old.log (command.Stable z) w.stabilize-reply.result w.stabilize-reply.new.opened.log) (to_z-of_z w64 w.in-Stable.place fits) (w.stabilize-reply.ensures.device stopped) in
          put w.stabilize-reply.new.opened w.stabilize-reply.result w.opened-is w.reply-is (went_on view sum old w.stabilize-reply.new.opened cmd w.stabilize-reply.result (ap calls_log w.in-Stable.is)
          (acts_as view sum old.log w.stabilize-reply.new.opened.log (command.Stable w.in-Stable.place) cmd w.stabilize-reply.result w.in-Stable.is acts)))
      | in-Read w ↦ put w.read-reply.new.opened w.read-reply.result w.opened-is w.reply-is (went_on view sum old w.read-reply.new.opened cmd w.read-reply.result (ap calls_log w.in-Read.is) (acts_as view sum old.log w.read-reply.new.opened.log (command.Read w.in-Read.page) cmd w.read-reply.result w.in-Read.is (w.read-reply.ensures.device stopped)))
      | in-Replace w ↦ put w.reserve-reply.new.opened w.reserve-reply.result w.opened-is w.reply-is (went_on view sum old w.reserve-reply.new.opened cmd w.reserve-reply.result (ap calls_log w.in-Replace.is) (acts_as view sum old.log w.reserve-reply.new.opened.log (command.Replace w.in-Replace.page w.in-Replace.item) cmd w.reserve-reply.result w.in-Replace.is
          (replace_acts sum (segment_size_of old.log) (view (device_of old.log)) (view (device_of w.reserve-reply.new.opened.log)) w.in-Replace.page w.in-Replace.item w.reserve-reply.result (w.reserve-reply.ensures.device stopped))))
      | in-Rewrite w ↦ put w.rewrite-reply.new.opened w.rewrite-reply.result w.opened-is w.reply-is (went_on view sum old w.rewrite-reply.new.opened cmd w.rewrite-reply.result (ap calls_log w.in-Rewrite.is) (acts_as view sum old.log w.rewrite-reply.new.opened.log (command.Rewrite w.in-Rewrite.page) cmd w.rewrite-reply.result w.in-Rewrite.is (w.rewrite-reply.ensures.device stopped)))
      | in-Link w ↦ put w.reserve-reply-in-Link.new.opened w.reserve-reply-in-Link.result w.opened-is w.reply-is (went_on view sum old w.reserve-reply-in-Link.new.opened cmd w.reserve-reply-in-Link.result (ap calls_log w.in-Link.is) (acts_as view sum old.log w.reserve-reply-in-Link.new.opened.log (command.Link w.in-Link.page w.in-Link.item) cmd w.reserve-reply-in-Link.result w.in-Link.is
          (link_acts sum (segment_size_of old.log) (view (device_of old.log)) (view (device_of w.reserve-reply-in-Link.new.opened.log)) w.in-Link.page w.in-Link.item w.reserve-reply-in-Link.result (w.reserve-reply-in-Link.ensures.device stopped))))
      | in-Free w ↦ put w.reserve-reply-in-Free.new.opened w.reserve-reply-in-Free.result w.opened-is w.reply-is (went_on view sum old w.reserve-reply-in-Free.new.opened cmd w.reserve-reply-in-Free.result (ap calls_log w.in-Free.is) (acts_as view sum old.log w.reserve-reply-in-Free.new.opened.log (command.Free w.in-Free.page) cmd w.reserve-reply-in-Free.result w.in-Free.is
          (free_acts sum (segment_size_of old.log) (view (device_of old.log)) (view (device_of w.reserve-reply-in-Free.new.opened.log)) w.in-Free.page w.reserve-reply-in-Free.result
          (not_in_blob old.log 0 (let big = old.log.config.config.least in omega (arith, big))) (w.reserve-reply-in-Free.ensures.device stopped))))
      | in-Open w ↦ put old (reply.Refused why.Open) w.opened-is w.reply-is (touched view sum (phase.Open old) command.Open cmd (phase.Open old) (reply.Refused why.Open) w.in-Open.is (touched_open view sum old))
    ]
