-- A log that is started goes on where the recovered table ends, and a start that fails leaves what can be recovered.
use Rattle.std.proofs.Common.{◌≡◌, ◌≤◌, ◌<◌, ◌+◌, ◌∙◌, ℕ, List, [], Some, length, refl, sym, ap, subst, arith, rules, ◌∷◌, ◌-ℤ◌, pos}
use Rattle.std.proofs.lemmas.List.{length-map}
use Rattle.sled_codec.specs.Snapshots.{SnapshotModel, model_of, stable_place}
use Rattle.sled_store.specs.Device.{Trace, state_of}
use Rattle.sled_codec.specs.Record.{short_header}
use Rattle.sled_log.specs.RunStates.{MarkAt, heads_on}
use Rattle.sled_log.specs.WriteSteps.{headed}
use Rattle.sled_store.proofs.Segments.Elements.{in_first, in_nothing}
use Rattle.sled_core.specs.OpenBatches.{stable_below}
use Rattle.sled_core.specs.Starts.{start_from}
use Rattle.sled_core.specs.Heads.{HeadAt}
use Rattle.sled_store.proofs.Traces.MomentLemmas.{at_last}
use Rattle.sled_core.specs.Fits.{noted_in, open_places, reserved_end, synced_end, waiting_of, current_begin, stable_end}
use Rattle.sled_core.specs.Recoverable.{LeavesRecoverable}
use Rattle.sled_core.specs.Waiting.{spans}
use Rattle.sled_log.proofs.Sessions.RunLemmas.{start_cause}
use Rattle.sled_log.proofs.Sessions.RunLogs.{starts_at}
use Rattle.std.specs.List.{All, Contains}
use Rattle.sled_codec.specs.History.{Message}
use Rattle.sled_core.proofs.PublicLaws.{none_is_empty}
use Rattle.sled_log.proofs.session.opening.start.Goals as goal
use Rattle.sled_core.specs.Fillings.{FillingAt}

pub returns-in-Ok-clause-acts : goal.returns-in-Ok-clause-acts
returns-in-Ok-clause-acts g c = λ stopped. (
  record {
    stable_is = refl;
    active_is = refl;
    pages_are = (let long : c.len-pages.result ≡ length c.args.snapshot.pt.items = search rules in let shown : length c.args.snapshot.pt.items ≡ length (model_of c.args.snapshot).pages = simp length-map in long ∙ shown);
  },
  c.in-Ok.ensures.answers.0,
  c.in-Ok.ensures.answers.1,
  c.in-Ok.ensures.made,
  c.in-Ok.ensures.answers.2,
)

pub returns-in-Ok-clause-starts : goal.returns-in-Ok-clause-starts
returns-in-Ok-clause-starts g c = λ stopped. λ H A f at.
    let trace = g.D.Device.trace in
    let sum = g.C.Checksum.sum_of in
    let size : ℕ = c.args.config.config.segment_size in
    let s : SnapshotModel = model_of c.args.snapshot in
    let begins = c.in-Ok.ensures.begins in
    let new = c.in-Ok.log in
    let some : 0 < size = let least = c.args.config.config.least in omega (arith, least) in
    let place = starts_at size (stable_place s.stable) s.active some at.active in
    let synced : synced_end new ≡ stable_place s.stable = begins.synced ∙ place in
    let end : reserved_end new ≡ stable_place s.stable = begins.reserved ∙ synced in
    let waiting : spans (waiting_of new) ≡ [] = ap spans begins.unsealed in
    let empty : open_places new ≡ [] = (none_is_empty new).0 begins.ended in
    let pages : length c.args.snapshot.pt.items ≡ length s.pages = simp length-map in
    let len : ℕ = length (state_of (trace c.args.config.device)).log.bytes in
    let begin : current_begin new ≡ (start_from size len s).place = ap (λ x. x.place) begins.start in
    let bare : noted_in new ≡ [] = begins.noted in
    let stable : stable_end new ≡ stable_place s.stable = (λ i. stable_below (synced i) (bare i)) in
    let floor = c.stable_place.ensures.place ∙ sym at.floor in
    let sized = sym begins.sized in
    record {
      log = λ i. Some (record {
        status = record {
          position = begins.position i;
          machine = begins.machine i;
          reserved = end i;
          synced = synced i;
          noted = begins.noted i;
          waiting = waiting i;
          start = begins.start i;
          opens = empty i;
          fault = begins.fault i;
          pins = begins.pins i;
          account = begins.account i;
        };
        begun = pages i;
        tickets = [];
        given_up = [];
        heads = heads_on size len s;
      });
      due = refl;
      at = record {
        made = at.closed.made;
        unmarked = [];
        due = refl;
        fits = c.in-Ok.ensures.fits H A f at.ready;
        zeros = at.zeros;
        pinned = begins.pins;
        origin = λ i. record { size = sized i; floor = floor i };
        table = at.table;
        tickets = record {
          as_many = search rules;
          each = λ n m there. cc;
          gone = λ n there. cc;
          apart = λ i j m n there. cc;
          rising = tt;
          are_all = λ none. empty;
          busy = λ page message. search rules;
          batch = refl;
        };
        given_up = λ m given. subst (λ (l : List Message). Contains l m) begins.given_up given;
        heads = record {
          marked = λ h there.
              let is = c.in-Ok.ensures.marked.heads h there in
              let first : MarkAt = record { place = (start_from size len s).place; mark = pos (stable_place s.stable) -ℤ pos 1; end = stable_place s.stable } in
              let one : headed sum first ≡ h = sym (λ i. record { place = (is.0 ∙ begin) i; bytes = (is.1 ∙ (λ j. short_header sum (pos (begin j)) (pos (stable j) -ℤ pos 1))) i }) in
              subst (λ (x : HeadAt). Contains (headed sum first ∷ []) x) one (in_first (headed sum first) []);
          filled = λ f there. absurd (in_nothing f (subst (λ (l : List FillingAt). Contains l f) c.in-Ok.ensures.marked.fillings there));
        };
        ends = subst (λ e. All (λ m. m.place + m.size ≤ e) H.messages) (sym end) at.ends;
      };
      crash = c.in-Ok.ensures.crash H A f at.ready;
      why = tt;
    }

-- a start that was refused left what can be recovered
pub returns-in-Err-clause-starts : goal.returns-in-Err-clause-starts
returns-in-Err-clause-starts g c = λ stopped. λ H A f at.
    let trace = g.D.Device.trace in
    let sum = g.C.Checksum.sum_of in
    let size : ℕ = c.args.config.config.segment_size in
    let old : Trace = trace c.args.config.device in
    let starts = c.in-Err.ensures.starts H A f at.ready in
    record {
      log = refl;
      due = refl;
      at = record {
        made = at.closed.made;
        left = subst (λ n. LeavesRecoverable sum n H A f (state_of (trace c.in-Err.config.device))) (sym (ap (λ x. x.segment_size) c.in-Err.ensures.config.config))
            (at_last (LeavesRecoverable sum size H A f) old (trace c.in-Err.config.device) (c.in-Err.ensures.crash H A f at.ready));
      };
      crash = c.in-Err.ensures.crash H A f at.ready;
      why = start_cause c.in-Err.e _ _ _ _ _ c.in-Err.ensures.answers starts;
    }
