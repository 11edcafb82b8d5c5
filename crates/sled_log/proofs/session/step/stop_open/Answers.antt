-- The device of a log is to be stopped, and nothing else is another.
use Rattle.std.proofs.Common.{refl, ◌∙◌, length, Some}
use Rattle.sled_core.specs.Waiting.{spans}
use Rattle.sled_log.specs.RunPhases.{shown_due, view_by}
use Rattle.sled_log.proofs.Sessions.Carried.{asked_going}
use Rattle.sled_log.proofs.Sessions.KeptPlaces.{over_log}
use Rattle.sled_log.proofs.Sessions.PinsTaken.{unmarked_kept}
use Rattle.sled_log.proofs.Sessions.Reserving.{still_at, still_over}
use Rattle.sled_log.proofs.Sessions.Within.{going_on}
use Rattle.sled_log.proofs.session.step.stop_open.Goals as goal
use Rattle.sled_log.proofs.Sessions.BegunHeads.{heads_left, other_same}

pub returns-clause-step : goal.returns-clause-step
returns-clause-step g c = λ k at free.
    let trace = g.D.Device.trace in
    let sum = g.C.Checksum.sum_of in
    let view = view_by g.D.Device.trace g.D.Device.faults g.D.CrashDevice.is_stopped in
    let opened = c.args.opened.now in
    let new = c.stop_after.new.self in
    let did = c.stop_after.ensures in
    let asked = asked_going (view opened.log.config.device).is_stopped c.args.n _ _ _ free did.trace in
    record {
      not_refused = refl;
      next = k;
      step = (
        λ i. record { trace = asked i; failures = did.faults i; is_stopped = did.stopped i },
        (λ i. record {
          device = view new.config.device;
          history = k.history;
          acknowledged = k.acknowledged;
          floor = k.floor;
          log = Some (record {
            status = record {
              position = did.keeps.position.position i;
              machine = did.rest.machine i;
              reserved = did.rest.reserved i;
              synced = did.rest.synced i;
              noted = did.rest.noted i;
              waiting = spans (did.rest.waiting i);
              start = did.rest.start i;
              opens = did.keeps.tickets.opens i;
              fault = did.rest.fault i;
              pins = did.rest.pins i;
              account = did.rest.account i;
            };
            begun = length opened.pages.items;
            tickets = k.tickets;
            given_up = k.given_up;
            heads = k.heads;
          });
          due = shown_due opened.due;
        }),
      );
      at = λ own. still_at trace sum opened (over_log opened new) k k.heads (heads_left sum opened.log new k.heads (other_same opened.log new did.rest.line) at.heads)
          (still_over trace sum opened.log new did.keeps did.rest)
          (record {
            pages = refl;
            tickets = refl;
            busy = λ p. refl;
            batch = refl;
            origin = refl;
            due = unmarked_kept opened.log new k.history opened.due opened.due refl (λ none. did.rest.fault ∙ none);
          })
          at;
      crash = λ own. going_on trace sum opened k at new did.keeps.preserves.goes_on;
    }

pub returns-clause-device : goal.returns-clause-device
returns-clause-device g c =
    let did = c.stop_after.ensures in
    record { touches = (refl, λ i. record { trace = did.trace i; failures = did.faults i; is_stopped = did.stopped i }); opens = refl }
