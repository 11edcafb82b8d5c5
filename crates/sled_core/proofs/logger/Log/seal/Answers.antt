-- The current buffer is sealed: with its segment, where no further record has room there, and else alone.
use Rattle.std.proofs.Common.{◌≡◌, ◌∙◌, ◌+◌, ◌≤◌, ◌<◌, ap, sym, arith, ℕ, List, [], length, if◌then◌else◌, Bool, true, subst}
use Rattle.std.proofs.lemmas.Bool.Decides.{nat_tests}
use Rattle.std.proofs.lemmas.List.{append-nil}
use Rattle.std.proofs.lemmas.List.Elements.{All-nil}
use Rattle.sled_core.specs.declared.logger.Log.{Log}
use Rattle.sled_core.specs.Begun.{SegmentView}
use Rattle.sled_core.specs.inside.Fits.{AddsBuffers}
use Rattle.sled_core.specs.Fits.{buffers_of, current_of, reserved_end, segment_size_of, machine_at, stable_end}
use Rattle.sled_core.specs.Positions.{is_short}
use Rattle.sled_core.specs.Waiting.{BufferAt}
use Rattle.sled_core.proofs.Line.Begins.{begins_keeps, begins_marked, begins_same, begins_tickets}
use Rattle.sled_core.proofs.Line.HeaderMarks.{none_begun}
use Rattle.sled_core.proofs.Line.LogSpans.{seal_starts, turn_starts}
use Rattle.sled_core.proofs.Line.Outcomes.{either, on_both, on_err, on_ok}
use Rattle.sled_core.proofs.Line.Seals.{sealed_begins, sealed_buffers, sealed_current, sealed_fillings, sealed_heads, sealed_keeps, sealed_position, sealed_same, sealed_tickets, sealed_waiting, sealed_with}
use Rattle.sled_core.proofs.Line.Turns.{turns_begins, turns_buffers, turns_position, turns_waiting, turns_with}
use Rattle.sled_core.proofs.Line.Unchanged.{left_alone, unchanged_keeps, unchanged_position, unchanged_same, unchanged_tickets}
use Rattle.sled_core.specs.Pooled.{PoolsWith, begun_sealed}
use Rattle.sled_core.proofs.Line.Pools.{pools_begun, pools_sealed}
use Rattle.sled_store.specs.declared.config.RunningConfig.{RunningConfig}
use Rattle.sled_core.proofs.logger.Log.seal.Goals as goal

-- Where no further record has room.

-- The segment has more than its header where no further record has room.
short_used : {D C : Type 0} (log : Log D C) → is_short (segment_size_of log) (length (current_of log).parts.bytes) ≡ true → 20 < length (current_of log).parts.bytes
short_used log short = let big = log.config.config.least in grind (arith, nat_tests, short, big)

pub begin_next-requires : goal.begin_next-requires
begin_next-requires g c = record { used = short_used c.args.self.now (sym c.is_short.ensures ∙ c.if-is_short.true) }

pub returns-then-is_short-clause-waiting : goal.returns-then-is_short-clause-waiting
returns-then-is_short-clause-waiting g c =
    let did = c.begin_next.ensures in
    on_both c.begin_next.result _ _ _ (λ line machine. turns_waiting g.D.Device.trace g.C.Checksum.sum_of c.args.self.now c.begin_next.new.self line machine did.rest c.requires.some (sym c.is_short.ensures ∙ c.if-is_short.true)) did.line
    did.machine

pub returns-then-is_short-clause-buffers : goal.returns-then-is_short-clause-buffers
returns-then-is_short-clause-buffers g c =
    let did = c.begin_next.ensures in
    on_both c.begin_next.result _ _ _ (λ line machine. turns_buffers g.D.Device.trace g.C.Checksum.sum_of c.args.self.now c.begin_next.new.self line machine did.rest c.requires.some (sym c.is_short.ensures ∙ c.if-is_short.true)) did.line
    did.machine

pub returns-then-is_short-clause-begins : goal.returns-then-is_short-clause-begins
returns-then-is_short-clause-begins g c =
    let did = c.begin_next.ensures in
    on_both c.begin_next.result _ _ _ (λ line machine. turns_begins g.D.Device.trace g.C.Checksum.sum_of c.args.self.now c.begin_next.new.self line machine did.rest c.requires.some (sym c.is_short.ensures ∙ c.if-is_short.true)) did.line
    did.machine

pub returns-then-is_short-clause-start : goal.returns-then-is_short-clause-start
returns-then-is_short-clause-start g c =
    on_ok c.begin_next.result _ _ (λ line. turn_starts g.C.Checksum.sum_of c.args.self.now c.begin_next.new.self _ (sym c.is_short.ensures ∙ c.if-is_short.true) line) c.begin_next.ensures.line

pub returns-then-is_short-clause-position : goal.returns-then-is_short-clause-position
returns-then-is_short-clause-position g c =
    let did = c.begin_next.ensures in
    let old = c.args.self.now in
    let new = c.begin_next.new.self in
    on_both c.begin_next.result _ _ _ (λ line machine. turns_with g.D.Device.trace g.C.Checksum.sum_of old new line machine did.rest c.requires.some (sym c.is_short.ensures ∙ c.if-is_short.true)) did.line did.machine

pub returns-then-is_short-clause-marked : goal.returns-then-is_short-clause-marked
returns-then-is_short-clause-marked g c =
    let did = c.begin_next.ensures in
    let old = c.args.self.now in
    let new = c.begin_next.new.self in
    on_both c.begin_next.result _ _ _ (λ line machine. begins_marked g.D.Device.trace g.C.Checksum.sum_of old new line machine did.rest (short_used old (sym c.is_short.ensures ∙ c.if-is_short.true))) did.line did.machine

pub returns-then-is_short-clause-keeps : goal.returns-then-is_short-clause-keeps
returns-then-is_short-clause-keeps g c = record {
  preserves = (
      let did = c.begin_next.ensures in
      let old = c.args.self.now in
      let new = c.begin_next.new.self in
      either c.begin_next.result _ _ _ (λ keeps. keeps) (λ same. unchanged_keeps old new same g.D.Device.trace g.C.Checksum.sum_of)
      (on_both c.begin_next.result _ _ _ (λ line machine. begins_keeps g.D.Device.trace g.C.Checksum.sum_of old new line machine did.rest) did.line did.machine) did.err
      );
  tickets = (
      let did = c.begin_next.ensures in
      let old = c.args.self.now in
      let new = c.begin_next.new.self in
      either c.begin_next.result _ _ _ (λ keeps. keeps) (λ same. unchanged_tickets old new same)
      (on_both c.begin_next.result _ _ _ (λ line machine. begins_tickets g.D.Device.trace g.C.Checksum.sum_of old new line machine did.rest) did.line did.machine) did.err
      );
  position = (
      let did = c.begin_next.ensures in
      let old = c.args.self.now in
      let new = c.begin_next.new.self in
      let short = sym c.is_short.ensures ∙ c.if-is_short.true in
      either c.begin_next.result _ _ _ (λ keeps. keeps) (λ same. unchanged_position old new same)
      (on_both c.begin_next.result _ _ _ (λ line machine. turns_position g.D.Device.trace g.C.Checksum.sum_of old new line machine did.rest c.requires.some short did.reserved) did.line did.machine) did.err
      );
}

pub returns-then-is_short-clause-same : goal.returns-then-is_short-clause-same
returns-then-is_short-clause-same g c =
    let did = c.begin_next.ensures in
    let old = c.args.self.now in
    let new = c.begin_next.new.self in
    either c.begin_next.result _ _ _ (λ same. same) (λ same. unchanged_same old new same)
    (on_both c.begin_next.result _ _ _ (λ line machine. begins_same g.D.Device.trace g.C.Checksum.sum_of old new line machine did.rest) did.line did.machine) did.err

pub returns-then-is_short-clause-err : goal.returns-then-is_short-clause-err
returns-then-is_short-clause-err g c = c.begin_next.ensures.err

-- Where one has room.

no_more : {D C : Type 0} (sum : List ℕ → ℕ) (old new : Log D C) → buffers_of sum new ≡ buffers_of sum old → AddsBuffers sum old new
no_more sum old new is = record { more = []; is = is ∙ sym (append-nil (buffers_of sum old)); behind = All-nil (λ (b : BufferAt). reserved_end old ≤ b.place) }

pub returns-clause-waiting : goal.returns-clause-waiting
returns-clause-waiting g c =
    on_ok c.seal_unfilled.result _ _ (λ line. sealed_waiting g.D.Device.trace g.C.Checksum.sum_of c.args.self.now c.seal_unfilled.new.self c.seal_unfilled.ensures.rest line c.requires.some (sym c.is_short.ensures ∙ c.if-is_short.false))
    c.seal_unfilled.ensures.line

pub returns-clause-buffers : goal.returns-clause-buffers
returns-clause-buffers g c =
    let old = c.args.self.now in
    let new = c.seal_unfilled.new.self in
    let rest = c.seal_unfilled.ensures.rest in
    on_ok c.seal_unfilled.result _ _ (λ line. no_more g.C.Checksum.sum_of old new (sealed_buffers g.D.Device.trace g.C.Checksum.sum_of old new rest line c.requires.some
    ∙ sealed_waiting g.D.Device.trace g.C.Checksum.sum_of old new rest line c.requires.some (sym c.is_short.ensures ∙ c.if-is_short.false)))
    c.seal_unfilled.ensures.line

pub returns-clause-begins : goal.returns-clause-begins
returns-clause-begins g c =
    let old = c.args.self.now in
    let v = current_of old in
    let room = sym c.is_short.ensures ∙ c.if-is_short.false in
    on_ok c.seal_unfilled.result _ _ (λ line. sealed_begins g.D.Device.trace g.C.Checksum.sum_of old c.seal_unfilled.new.self c.seal_unfilled.ensures.rest line c.requires.some
    ∙ sym (ap (λ (o : Bool). v.parts.site.place + (if o then segment_size_of old else length v.parts.bytes)) room))
    c.seal_unfilled.ensures.line

pub returns-clause-start : goal.returns-clause-start
returns-clause-start g c = on_ok c.seal_unfilled.result _ _ (λ line. seal_starts c.args.self.now c.seal_unfilled.new.self (sym c.is_short.ensures ∙ c.if-is_short.false) line) c.seal_unfilled.ensures.line

pub returns-clause-position : goal.returns-clause-position
returns-clause-position g c =
    let old = c.args.self.now in
    let new = c.seal_unfilled.new.self in
    on_ok c.seal_unfilled.result _ _ (λ line. sealed_with g.D.Device.trace g.C.Checksum.sum_of old new c.seal_unfilled.ensures.rest line c.requires.some (sym c.is_short.ensures ∙ c.if-is_short.false)) c.seal_unfilled.ensures.line

pub returns-clause-marked : goal.returns-clause-marked
returns-clause-marked g c =
    let old = c.args.self.now in
    let new = c.seal_unfilled.new.self in
    on_ok c.seal_unfilled.result _ _ (λ line. none_begun g.C.Checksum.sum_of old new (ap (λ (v : SegmentView). v.parts.site.place) (sealed_current g.D.Device.trace g.C.Checksum.sum_of old new c.seal_unfilled.ensures.rest line c.requires.some))
    (sealed_heads g.D.Device.trace g.C.Checksum.sum_of old new c.seal_unfilled.ensures.rest line c.requires.some)
    (sealed_fillings g.D.Device.trace g.C.Checksum.sum_of old new c.seal_unfilled.ensures.rest line c.requires.some)) c.seal_unfilled.ensures.line

pub returns-clause-keeps : goal.returns-clause-keeps
returns-clause-keeps g c = record {
  preserves = (
      let did = c.seal_unfilled.ensures in
      let old = c.args.self.now in
      let new = c.seal_unfilled.new.self in
      either c.seal_unfilled.result _ _ _ (λ line. sealed_keeps g.D.Device.trace g.C.Checksum.sum_of old new did.rest line c.requires.some) (λ same. unchanged_keeps old new (left_alone old new same did.rest) g.D.Device.trace g.C.Checksum.sum_of) did.line
      did.unsealed
      );
  tickets = (
      let did = c.seal_unfilled.ensures in
      let old = c.args.self.now in
      let new = c.seal_unfilled.new.self in
      either c.seal_unfilled.result _ _ _ (λ line. sealed_tickets g.D.Device.trace g.C.Checksum.sum_of old new did.rest line c.requires.some) (λ same. unchanged_tickets old new (left_alone old new same did.rest)) did.line did.unsealed
      );
  position = (
      let did = c.seal_unfilled.ensures in
      let old = c.args.self.now in
      let new = c.seal_unfilled.new.self in
      either c.seal_unfilled.result _ _ _ (λ line. sealed_position g.D.Device.trace g.C.Checksum.sum_of old new did.rest line c.requires.some) (λ same. unchanged_position old new (left_alone old new same did.rest)) did.line did.unsealed
      );
}

pub returns-clause-same : goal.returns-clause-same
returns-clause-same g c =
    let did = c.seal_unfilled.ensures in
    let old = c.args.self.now in
    let new = c.seal_unfilled.new.self in
    either c.seal_unfilled.result _ _ _ (λ line. sealed_same g.D.Device.trace g.C.Checksum.sum_of old new did.rest line c.requires.some) (λ same. unchanged_same old new (left_alone old new same did.rest)) did.line did.unsealed

pub returns-clause-err : goal.returns-clause-err
returns-clause-err g c = on_err c.seal_unfilled.result _ _ (λ same. left_alone c.args.self.now c.seal_unfilled.new.self same c.seal_unfilled.ensures.rest) c.seal_unfilled.ensures.unsealed

-- A segment is begun, which takes a buffer of the pool, or none is.

pub returns-then-is_short-clause-pooled : goal.returns-then-is_short-clause-pooled
returns-then-is_short-clause-pooled g c =
    let did = c.begin_next.ensures in
    let old = c.args.self.now in
    let new = c.begin_next.new.self in
    let begun : begun_sealed old ≡ 1 = ap (λ (b : Bool). if b then 1 else 0) (sym c.is_short.ensures ∙ c.if-is_short.true) in
    on_both c.begin_next.result _ _ _
    (λ line pooled. subst (λ n. PoolsWith n old new) (sym begun)
    (pools_begun old new g.C.Checksum.sum_of (machine_at old) (stable_end old) line pooled
    (ap (λ (x : RunningConfig g.row.D.Denot g.row.C.Denot). x.config.segment_size) did.rest.config)))
    did.line did.pooled

pub returns-clause-pooled : goal.returns-clause-pooled
returns-clause-pooled g c =
    let did = c.seal_unfilled.ensures in
    let old = c.args.self.now in
    let new = c.seal_unfilled.new.self in
    let none : begun_sealed old ≡ 0 = ap (λ (b : Bool). if b then 1 else 0) (sym c.is_short.ensures ∙ c.if-is_short.false) in
    on_ok c.seal_unfilled.result _ _
    (λ line. subst (λ n. PoolsWith n old new) (sym none)
    (pools_sealed old new line did.rest.pool (ap (λ (x : RunningConfig g.row.D.Denot g.row.C.Denot). x.config.segment_size) did.rest.config)))
    did.line
