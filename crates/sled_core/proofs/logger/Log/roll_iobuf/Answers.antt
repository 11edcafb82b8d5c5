-- Where the current buffer holds nothing, nothing is done.
use Rattle.std.proofs.Common.{◌≡◌, ◌<◌, ◌-◌, ◌∙◌, ap, sym, refl, arith, rules, length, if◌then◌else◌, Bool, true, false, List, ℕ, Err, None, Option, Some, subst}
use Rattle.std.specs.declared.io.Error.{Error as IoError}
use Rattle.std.proofs.lemmas.Bool.Decides.{nat_tests}
use Rattle.std.proofs.lemmas.Result.{err_from_is_err_and}
use Rattle.sled_codec.specs.declared.result.Error.{Error}
use Rattle.sled_codec.specs.declared.result.Error.TheVariants.{Io, OutOfMemory, PlacesUsedUp}
use Rattle.sled_core.specs.Causes.{FaultOrMemory}
use Rattle.sled_core.specs.Begun.{SegmentView, begin_of, view_at}
use Rattle.sled_store.specs.SegmentStates.{Machine}
use Rattle.sled_core.specs.declared.iobuf.IoBuf.{IoBuf}
use Rattle.sled_core.specs.declared.iobuf.SegmentPosition.{SegmentPosition}
use Rattle.sled_core.specs.declared.logger.Log.{Log}
use Rattle.sled_core.specs.Fits.{KeepsAll, KeepsTickets, buffers_of, current_of, held_len, ledger_sealed, machine_at, position_sealed, position_with, start_of, waiting_of}
use Rattle.sled_core.specs.Freeing.{Ledger}
use Rattle.sled_core.specs.Keeps.{SamePosition, start_sealed}
use Rattle.sled_core.specs.LogStatus.{LogStatus, status_of, status_sealed}
use Rattle.sled_core.specs.Waiting.{holds_any, spans}
use Rattle.sled_core.proofs.Holds.Facts.{current_facts}
use Rattle.sled_core.proofs.Line.KeptCalls.{log_still}
use Rattle.sled_core.proofs.Line.SealFirst.{sealed_ledger}
use Rattle.sled_core.specs.Pooled.{PoolsWith, begun_sealed}
use Rattle.sled_core.proofs.Line.Pools.{pools_still}
use Rattle.sled_core.proofs.Line.Shows.{buffers_still}
use Rattle.sled_core.proofs.Line.StatusSeen.{all_seen, next_start_seen}
use Rattle.sled_core.proofs.logger.Log.roll_iobuf.Goals as goal

pub returns-in-Some-clause-keeps : goal.returns-in-Some-clause-keeps
returns-in-Some-clause-keeps g c = log_still g.D.Device.trace g.C.Checksum.sum_of c.args.self.now

-- One of which the current buffer is sealed has one more.
one_rolled : {D C : Type 0} (sum : List ℕ → ℕ) (old new : Log D C) → 0 < held_len old → waiting_of new ≡ buffers_of sum old → start_of new ≡ start_sealed old
    → ((m : Machine) → position_with new m ≡ position_sealed old m) → SamePosition old new → KeepsTickets old new → KeepsAll old new → status_of new ≡ status_sealed (status_of old)
one_rolled sum old new some waits start with_slots position tickets same =
    let machine : machine_at new ≡ (ledger_sealed old).machine = ap (λ (l : Ledger). l.machine) (sealed_ledger old new with_slots position.position same.account) in
    let seen = ap spans waits ∙ all_seen old sum some in
    let begins = start ∙ next_start_seen old in
    λ i. record {
      position = position.position i;
      machine = machine i;
      reserved = position.reserved i;
      synced = same.synced i;
      noted = same.noted i;
      waiting = seen i;
      start = begins i;
      opens = tickets.opens i;
      fault = same.fault i;
      pins = same.pins i;
      account = same.account i;
    }

-- a test decides which of two a log is rolled to
rolled_by : (any is : Bool) (one none at : LogStatus) → any ≡ is → at ≡ (if is then one else none) → at ≡ (if any then one else none)
rolled_by any is one none at test same = same ∙ sym (ap (λ (o : Bool). if o then one else none) test)

-- What the current buffer holds is counted behind where it begins.
held_is : {D C : Type 0} (log : Log D C) (site : SegmentPosition) (b : IoBuf) → view_at site b ≡ current_of log → length b.bytes.items - b.begin ≡ held_len log
held_is log site b view =
    let long = ap (λ (v : SegmentView). length v.parts.bytes) view in
    let begin = ap (λ (v : SegmentView). begin_of v) view in
    cc

pub returns-then-held-eq0-clause-status : goal.returns-then-held-eq0-clause-status
returns-then-held-eq0-clause-status g c =
    let count : c.len.result ≡ length c.current.result.1.now.bytes.items = search rules in
    let empty = c.if-held-eq0.true in
    let held = held_is c.args.self.now c.current.result.0 c.current.result.1.now c.current.ensures.view in
    let log = c.args.self.now in
    let begins = (current_facts log).begins in
    let none : holds_any (current_of log) ≡ false = grind (arith, nat_tests, count, empty, held, begins) in
    let still : held_len log ≡ 0 = omega (arith, count, empty, held) in
    (sym (buffers_still g.C.Checksum.sum_of log still), rolled_by (holds_any (current_of log)) false _ (status_of log) (status_of log) none refl)

pub returns-then-held-eq0-clause-keeps : goal.returns-then-held-eq0-clause-keeps
returns-then-held-eq0-clause-keeps g c = log_still g.D.Device.trace g.C.Checksum.sum_of c.args.self.now

-- What isn't sealed says why.
seal_refused : (T S : Type 0) (e : Error) (here used : Type 0) (fault : Option IoError) → here → fault ≡ None → FaultOrMemory {T = T} (Err e) used None → FaultOrMemory {T = S} (Err e) (here × used) fault
seal_refused T S (Io x) here used fault there none is = absurd (let no_fault : None ≡ Some x = is in cc)
seal_refused T S PlacesUsedUp here used fault there none is = ((there, is.0), none)
seal_refused T S OutOfMemory here used fault there none is = ((λ u. is.0 u.1), none)
seal_refused T S _ here used fault there none is = absurd is

pub returns-in_err-seal-clause-answers : goal.returns-in_err-seal-clause-answers
returns-in_err-seal-clause-answers g c =
    let count : c.len.result ≡ length c.current.result.1.now.bytes.items = search rules in
    let some = c.if-held-eq0.false in
    let held = held_is c.args.self.now c.current.result.0 c.current.result.1.now c.current.ensures.view in
    let more : 0 < held_len c.args.self.now = omega (arith, count, some, held) in
    let e = err_from_is_err_and c.from_residual.result c.from_residual.ensures.1 in
    rw (e.1, e.2) (seal_refused (Unit {0}) ℕ c.in_err-seal.field-0.0 _ _ _ more c.in_default.is c.in_err-seal.ensures.answers)

pub returns-clause-status : goal.returns-clause-status
returns-clause-status g c =
    let count : c.len.result ≡ length c.current.result.1.now.bytes.items = search rules in
    let some = c.if-held-eq0.false in
    let held = held_is c.args.self.now c.current.result.0 c.current.result.1.now c.current.ensures.view in
    let more : 0 < held_len c.args.self.now = omega (arith, count, some, held) in
    let did = c.in_ok-seal.ensures in
    let old = c.args.self.now in
    let any : holds_any (current_of old) ≡ true = grind (arith, nat_tests, more) in (
      did.waiting,
      rolled_by (holds_any (current_of old)) true _ (status_of old) (status_of c.seal.new.self) any
          (one_rolled g.C.Checksum.sum_of old c.seal.new.self more did.waiting did.start did.position did.keeps.position did.keeps.tickets did.same),
    )

-- Where nothing is sealed no segment is begun.

pub returns-then-held-eq0-clause-pooled : goal.returns-then-held-eq0-clause-pooled
returns-then-held-eq0-clause-pooled g c =
    let log = c.args.self.now in
    let count : c.len.result ≡ length c.current.result.1.now.bytes.items = search rules in
    let empty = c.if-held-eq0.true in
    let held = held_is log c.current.result.0 c.current.result.1.now c.current.ensures.view in
    let begins = (current_facts log).begins in
    let none : holds_any (current_of log) ≡ false = grind (arith, nat_tests, count, empty, held, begins) in
    subst (λ n. PoolsWith n log log) (sym (ap (λ (o : Bool). if o then begun_sealed log else 0) none)) (pools_still log)

pub returns-clause-pooled : goal.returns-clause-pooled
returns-clause-pooled g c =
    let old = c.args.self.now in
    let count : c.len.result ≡ length c.current.result.1.now.bytes.items = search rules in
    let some = c.if-held-eq0.false in
    let held = held_is old c.current.result.0 c.current.result.1.now c.current.ensures.view in
    let any : holds_any (current_of old) ≡ true = grind (arith, nat_tests, count, some, held) in
    subst (λ n. PoolsWith n old c.seal.new.self) (sym (ap (λ (o : Bool). if o then begun_sealed old else 0) any)) c.in_ok-seal.ensures.pooled
