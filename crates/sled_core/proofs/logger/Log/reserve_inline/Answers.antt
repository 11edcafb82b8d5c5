-- The log is made ready for a record with the item in it; then its placeholder is laid out there.
use Rattle.std.proofs.Common.{◌≡◌, ◌∙◌, ◌+◌, ◌<◌, ◌++◌, ap, sym, subst, refl, arith, ℕ, List, length, drop, Some, None, Err, true, false}
use Rattle.std.specs.Option.{IsSome}
use Rattle.sled_codec.specs.declared.result.Error.TheVariants.{Unsupported}
use Rattle.sled_store.specs.declared.config.RunningConfig.{RunningConfig}
use Rattle.sled_core.specs.declared.iobuf.Purpose.{Purpose}
use Rattle.sled_core.specs.Buffers.{most_open}
use Rattle.sled_core.specs.inside.Buffers.{placeholder_head, reserved_for}
use Rattle.sled_core.specs.Causes.{ReserveCauses}
use Rattle.sled_core.specs.Fits.{IsLeastOpen, IsUsedUpFor, current_of, line_of, message_as, open_for}
use Rattle.sled_core.specs.Manifests.{kind_for}
use Rattle.sled_core.specs.inside.Prepared.{IsPrepared, PrepareAnswers, text_of}
use Rattle.sled_core.specs.Reserves.{reserve_causes}
use Rattle.sled_core.specs.inside.Turned.{IsTicketFor, reserved_now}
use Rattle.sled_core.specs.Waiting.{at_last}
use Rattle.sled_core.proofs.Holds.ReachLemmas.{inline_stored}
use Rattle.sled_core.proofs.Line.Prepares.{IsLaid}
use Rattle.sled_core.proofs.Line.Reserved.{never_io, prepare_refused, refused_same, reserved_ok, well_kept}
use Rattle.sled_core.proofs.Line.Unchanged.{unchanged_still}
use Rattle.sled_core.proofs.Reserve.MarksLemmas.{kind_of_manifest}
use Rattle.sled_core.proofs.logger.Log.reserve_inline.Goals as goal

pub returns-in_default : goal.returns-in_default
returns-in_default g c =
    let old = c.args.self.now in
    let item : List ℕ = g.T.Serialize.short (g.T.Serialize.meaning c.args.item.now) in
    let none : kind_for c.args.kind c.args.pid false (length item) ≡ None = ap (kind_for c.args.kind c.args.pid false) (sym c.serialized_size-item_len.ensures) ∙ sym c.kind_for.ensures ∙ c.in_default.is in
    refused_same g.D.Device.trace g.D.Device.faults g.C.Checksum.sum_of old old c.args.kind c.args.pid item false (length item) (unchanged_still old) (Unsupported c.new.result) (λ x is. cc) ((c.requires.fault, c.requires.fault, refl), none, c.new.ensures.bytes)

-- The item of a manifest has 8 bytes.
pub append-requires-clause-body : goal.append-requires-clause-body
append-requires-clause-body g c = λ is. (kind_of_manifest c.args.kind c.args.pid false c.serialized_size-item_len.result c.in-Some.message_kind (sym c.kind_for.ensures ∙ c.in-Some.is) is).0

pub returns-in-Err : goal.returns-in-Err
returns-in-Err g c =
    let old = c.args.self.now in
    let new = c.prepare.new.self in
    let item : List ℕ = g.T.Serialize.short (g.T.Serialize.meaning c.args.item.now) in
    let did = c.in-Err.ensures in
    let counted : c.serialized_size-item_len.result ≡ length item = c.serialized_size-item_len.ensures in
    let is : kind_for c.args.kind c.args.pid false (length item) ≡ Some c.in-Some.message_kind = ap (kind_for c.args.kind c.args.pid false) (sym counted) ∙ sym c.kind_for.ensures ∙ c.in-Some.is in
    let causes : ℕ → ReserveCauses = λ n. reserve_causes g.D.Device.trace g.D.Device.faults c.args.kind c.args.pid false n old new in
    let answers = subst (λ n. PrepareAnswers {T = Unit {0}} (Err c.in-Err.e) (IsUsedUpFor old c.args.pid n) (open_for old c.args.pid n) (IsLeastOpen old)) counted did.answers in
    refused_same g.D.Device.trace g.D.Device.faults g.C.Checksum.sum_of old new c.args.kind c.args.pid item false (length item) did.err c.in-Err.e (never_io (causes (length item)) (IsUsedUpFor old c.args.pid (length item)) (IsLeastOpen old) _ c.in-Err.e answers)
    (prepare_refused (causes (length item)) (IsUsedUpFor old c.args.pid (length item)) (IsLeastOpen old) c.in-Err.e
    (well_kept g.D.Device.trace g.D.Device.faults c.args.kind c.args.pid false (length item) old new c.requires.fault did.same) (subst IsSome (sym is) refl) answers)

pub returns-in-Ok : goal.returns-in-Ok
returns-in-Ok g c =
    let old = c.args.self.now in
    let mid = c.prepare.new.self in
    let new = c.append.new.self in
    let head = c.prepare.new.head in
    let item : List ℕ = g.T.Serialize.short (g.T.Serialize.meaning c.args.item.now) in
    let kept : Purpose = record { log_kind = c.args.kind; kind = c.in-Some.message_kind; page = c.args.pid; blob = None } in
    let did = c.in-Ok.ensures in
    let laid = c.append.ensures in
    let counted : c.serialized_size-item_len.result ≡ length item = c.serialized_size-item_len.ensures in
    let is : kind_for c.args.kind c.args.pid false (length item) ≡ Some c.in-Some.message_kind = ap (kind_for c.args.kind c.args.pid false) (sym counted) ∙ sym c.kind_for.ensures ∙ c.in-Some.is in
    let all = did.same in
    let same = laid.rest.config ∙ all.config in
    let ends = laid.reserved in
    let room = subst (λ n. (IsUsedUpFor old c.args.pid n → ⊥) × (open_for old c.args.pid n < most_open)) counted did.answers in
    let is_laid : IsLaid g.D.Device.trace g.C.Checksum.sum_of old mid new kept head item c.append.result = record {
      ready = subst (λ n. IsPrepared g.D.Device.trace g.C.Checksum.sum_of old mid kept head n) counted did.prepared;
      known = is;
      spells = tt;
      small = c.ranges.pid.fits;
      line = laid.line ∙ ap (λ n. at_last (reserved_now (placeholder_head (text_of head) ++ item) (reserved_for kept (length (current_of mid).parts.bytes) head.len n (g.C.Checksum.sum_of (item ++ drop 4 (text_of head))))) (line_of mid)) counted;
      rest = laid.rest;
      accountant = laid.accountant;
      pool = laid.pool;
      ends = omega (arith, ends, counted);
      own = subst (λ n. IsTicketFor mid c.append.result None (head.len + n)) counted laid.ticket;
      manifest = laid.manifest;
    } in
    reserved_ok g.D.Device.faults is_laid item false refl
    (inline_stored g.D.Device.trace g.C.Checksum.sum_of new (message_as old c.args.kind c.args.pid false (length item) item) tt)
    ((c.requires.fault, laid.rest.fault ∙ all.fault ∙ c.requires.fault, ap (λ (x : RunningConfig g.row.D.Denot g.row.C.Denot). g.D.Device.faults x.device) same), (subst IsSome (sym is) refl, room.0, room.1), λ goes. let clash : false ≡ true = goes in cc)
    same laid.own
