-- The one that is asked for is written, and isn't left.
use Rattle.std.proofs.Common.{refl, ap, sym, subst, inl, inr, set, ◌≡◌, ◌∙◌, ℕ, ℤ, List, Option}
use Rattle.sled_store.specs.Device.{Event}
use Rattle.sled_store.specs.Script.{Performs, after_all}
use Rattle.sled_store.proofs.Traces.ScriptLemmas.{performs_nothing}
use Rattle.sled_core.proofs.Line.Among.{among_same}
use Rattle.sled_core.proofs.Line.HeaderMarks.{fillings_of_written, heads_of_written}
use Rattle.sled_core.specs.Fillings.{fillings_along}
use Rattle.sled_core.specs.Heads.{heads_along}
use Rattle.sled_core.specs.Among.{AreAmong}
use Rattle.sled_core.specs.Account.{account_behind, account_of, written_account}
use Rattle.sled_core.specs.Fits.{fillings_of, heads_of, ledger_of, line_of, machine_at, segment_size_of, start_of, waiting_of, writing_pending}
use Rattle.sled_core.specs.Ledger.{ledger_behind, written_ledger}
use Rattle.sled_core.specs.inside.Turned.{mark_of, promoted, writing_in, written_now}
use Rattle.sled_core.specs.LogStatus.{ledger_in, position_over, status_of}
use Rattle.sled_core.specs.Spans.{without_unheld}
use Rattle.sled_core.specs.Waiting.{BufferAt, one_pending, spans, unwritten, without_pending}
use Rattle.sled_core.proofs.Line.KeptCalls.{writing_still}
use Rattle.sled_core.proofs.Line.Buffers.{calls_pending, unwritten_promoted}
use Rattle.sled_core.proofs.Line.LogSpans.{same_buffers, written_starts}
use Rattle.sled_core.proofs.Line.LogWrites.{segments_written}
use Rattle.sled_core.proofs.Line.Advanced.{same_synced}
use Rattle.sled_core.proofs.Line.Outcomes.{either, on_err, on_ok}
use Rattle.sled_core.proofs.Line.Pools.{pools_still}
use Rattle.sled_core.proofs.Line.StatusSeen.{over_seen, waiting_held, without_seen}
use Rattle.sled_core.proofs.Line.Wrote.{status_wrote, wrote_ok}
use Rattle.sled_core.proofs.logger.Log.write_to_log.Given as given
use Rattle.sled_core.proofs.logger.Log.write_to_log.Goals as goal

pub returns-in-Some-clause-at_most : goal.returns-in-Some-clause-at_most
returns-in-Some-clause-at_most g c = performs_nothing _ _ _ refl

pub returns-in-Some-clause-keeps : goal.returns-in-Some-clause-keeps
returns-in-Some-clause-keeps g c = writing_still g.D.Device.trace g.C.Checksum.sum_of c.args.self.now

-- The segments are those of before with that buffer written, or they are the same.
by_segments : (g : given.Over) (c : goal.After-write_buffer g) (P : Type 0)
    → (line_of c.write_buffer.new.self ≡ promoted (segment_size_of c.args.self.now)
    (set (line_of c.args.self.now) c.ready_at-n.result.0 (written_now c.ready_at-n.result.1 c.ready_at-n.ensures.ready.segment)) → P)
    → (line_of c.write_buffer.new.self ≡ line_of c.args.self.now → P) → P
by_segments g c P wrote same =
    let r = c.ready_at-n.ensures.ready in
    either c.write_buffer.result _ _ P wrote
    (λ failed. elim failed [ inl none ↦ same none.line | inr one ↦ wrote (one.line r.segment r.among) ])
    (c.write_buffer.ensures.line r.segment r.among) c.write_buffer.ensures.unwritten

pub returns-clause-start : goal.returns-clause-start
returns-clause-start g c =
    let old = c.args.self.now in
    let new = c.write_buffer.new.self in
    let r = c.ready_at-n.ensures.ready in
    let start = by_segments g c (start_of new ≡ start_of old)
    (written_starts old new (segment_size_of old) c.ready_at-n.result.0 r.segment c.ready_at-n.result.1 r.among)
    (λ same. (same_buffers old new same).1) in
    (start, c.write_buffer.ensures.position)

pub returns-clause-heads : goal.returns-clause-heads
returns-clause-heads g c =
    let old = c.args.self.now in
    let new = c.write_buffer.new.self in
    let r = c.ready_at-n.ensures.ready in
    by_segments g c (AreAmong (heads_of new) (heads_of old))
    (heads_of_written old new (segment_size_of old) c.ready_at-n.result.0 c.ready_at-n.result.1 r.segment r.among)
    (λ same. among_same (heads_of new) (heads_of old) (ap heads_along same))

pub returns-clause-fillings : goal.returns-clause-fillings
returns-clause-fillings g c =
    let old = c.args.self.now in
    let new = c.write_buffer.new.self in
    let r = c.ready_at-n.ensures.ready in
    by_segments g c (AreAmong (fillings_of new) (fillings_of old))
    (fillings_of_written old new (segment_size_of old) c.ready_at-n.result.0 c.ready_at-n.result.1 r.segment r.among)
    (λ same. among_same (fillings_of new) (fillings_of old) (ap fillings_along same))

pub returns-in-Some-clause-heads : goal.returns-in-Some-clause-heads
returns-in-Some-clause-heads g c = λ h there. there

pub returns-in-Some-clause-fillings : goal.returns-in-Some-clause-fillings
returns-in-Some-clause-fillings g c = λ f there. there

-- Where that buffer is written, it isn't left, and its mark counts.

without_it : (g : given.Over) (c : goal.After-write_buffer g)
    → line_of c.write_buffer.new.self ≡ promoted (segment_size_of c.args.self.now)
    (set (line_of c.args.self.now) c.ready_at-n.result.0 (written_now c.ready_at-n.result.1 c.ready_at-n.ensures.ready.segment))
    → waiting_of c.write_buffer.new.self ≡ without_pending c.args.i (waiting_of c.args.self.now)
without_it g c is =
    let old = c.args.self.now in
    let n = c.ready_at-n.result.0 in
    let k = c.ready_at-n.result.1 in
    let r = c.ready_at-n.ensures.ready in
    ap unwritten is
    ∙ unwritten_promoted (segment_size_of old) old.segments.first.site.place (set (line_of old) n (written_now k r.segment)) (segments_written old n k r)
    ∙ c.ready_at-n.ensures.left r.segment r.among

account_it : (g : given.Over) (c : goal.After-write_buffer g)
    → account_of c.write_buffer.new.self ≡ written_account (mark_of c.ready_at-n.result.1 c.ready_at-n.ensures.ready.segment) (account_of c.args.self.now)
    → account_of c.write_buffer.new.self ≡ account_behind (one_pending c.args.i (waiting_of c.args.self.now)) (account_of c.args.self.now)
account_it g c is =
    let old = c.args.self.now in
    let r = c.ready_at-n.ensures.ready in
    let one = c.ready_at-n.ensures.one r.segment r.among in
    is ∙ ap (λ (m : Option ℤ). written_account m (account_of old)) (sym one.2) ∙ ap (λ (l : List BufferAt). account_behind l (account_of old)) (sym one.1)

its_ledger : (g : given.Over) (c : goal.After-write_buffer g)
    → written_ledger (segment_size_of c.args.self.now) (mark_of c.ready_at-n.result.1 c.ready_at-n.ensures.ready.segment) (ledger_of c.args.self.now)
    ≡ ledger_behind (segment_size_of c.args.self.now) (one_pending c.args.i (waiting_of c.args.self.now)) (ledger_of c.args.self.now)
its_ledger g c =
    let old = c.args.self.now in
    let size : ℕ = segment_size_of old in
    let r = c.ready_at-n.ensures.ready in
    let one = c.ready_at-n.ensures.one r.segment r.among in
    ap (λ (m : Option ℤ). written_ledger size m (ledger_of old)) (sym one.2) ∙ ap (λ (l : List BufferAt). ledger_behind size l (ledger_of old)) (sym one.1)

-- So that is what is seen of the log then.
pub returns-clause-status : goal.returns-clause-status
returns-clause-status g c =
    let old = c.args.self.now in
    let new = c.write_buffer.new.self in
    let r = c.ready_at-n.ensures.ready in
    let keeps = c.write_buffer.ensures.keeps in
    let start = (returns-clause-start g c).0 in
    let s = status_of old in
    let bs = waiting_of old in
    let size : ℕ = segment_size_of old in
    let lies = c.write_buffer.ensures.position (machine_at new) ∙ over_seen old (machine_at new) in
    wrote_ok c.write_buffer.result _ _ _ _ _ _
    (λ line ledger fault. (
      without_it g c line,
      status_wrote old new (without_unheld s.opens c.args.i s.waiting) s.start (ledger_behind size (one_pending c.args.i bs) (ledger_in s)) (position_over size s)
          (ap spans (without_it g c line) ∙ without_seen s.opens c.args.i bs (waiting_held old g.C.Checksum.sum_of)) start (ledger ∙ its_ledger g c) lies keeps.tickets keeps.position
          keeps.preserves.noted (fault ∙ sym c.in_default.is),
    ))
    (c.write_buffer.ensures.line r.segment r.among) (c.write_buffer.ensures.ledger r.segment r.among) c.write_buffer.ensures.answers

pub returns-clause-err : goal.returns-clause-err
returns-clause-err g c =
    let old = c.args.self.now in
    let new = c.write_buffer.new.self in
    let r = c.ready_at-n.ensures.ready in
    on_err c.write_buffer.result _ _
    (λ failed. elim failed [
      | inl none ↦ inl (same_synced old new none.line, (same_buffers old new none.line).0, none.none.synced, none.ledger)
      | inr one ↦ inr (record {
        failed = one.failed;
        waiting = without_it g c (one.line r.segment r.among);
        account = account_it g c (one.account r.segment r.among);
        written = one.written;
        way = one.way;
      })
    ])
    c.write_buffer.ensures.unwritten

-- The calls are those of that buffer, with the accountant's behind them.
its_calls : (g : given.Over) (c : goal.After-write_buffer g) → writing_in (segment_size_of c.args.self.now) (ledger_of c.args.self.now) (line_of c.args.self.now) c.ready_at-n.result.0 c.ready_at-n.result.1 ≡ writing_pending c.args.self.now c.args.i
its_calls g c =
    let old = c.args.self.now in
    let r = c.ready_at-n.ensures.ready in
    let one = c.ready_at-n.ensures.one r.segment r.among in
    calls_pending (segment_size_of old) (ledger_of old) (line_of old) c.args.i c.ready_at-n.result.0 c.ready_at-n.result.1 r.segment r.among one.0 one.1 one.2 c.ready_at-n.ensures.writes

pub returns-clause-calls : goal.returns-clause-calls
returns-clause-calls g c =
    on_ok c.write_buffer.result _ _ (λ made. made ∙ ap (λ (es : List Event). after_all es (g.D.Device.trace c.args.self.now.config.device)) (its_calls g c)) c.write_buffer.ensures.calls

pub returns-clause-at_most : goal.returns-clause-at_most
returns-clause-at_most g c =
    subst (λ (es : List Event). Performs es (g.D.Device.trace c.args.self.now.config.device) (g.D.Device.trace c.write_buffer.new.self.config.device)) (its_calls g c) c.write_buffer.ensures.at_most

pub returns-in-Some-clause-pooled : goal.returns-in-Some-clause-pooled
returns-in-Some-clause-pooled g c = pools_still c.args.self.now
