-- What a reservation comes to: it was refused and left the log as it was; or the record of an item that goes to no blob was laid out.
use Rattle.std.proofs.Common.{◌≡◌, ◌∙◌, ◌+◌, ◌-◌, ◌/◌, nat_lt, if◌then◌else◌, ap, sym, subst, refl, arith, inl, inr, ℕ, ℤ, pos, Bool, true, false, List, length, Option, None, Some, Result, Ok, Err}
use Rattle.std.specs.Option.{IsSome}
use Rattle.std.specs.declared.io.Error.{Error as IoError}
use Rattle.std.proofs.lemmas.Bool.Decides.{nat_tests}
use Rattle.sled_codec.specs.declared.result.Error.{Error}
use Rattle.sled_codec.specs.declared.result.Error.TheVariants as error
use Rattle.sled_codec.specs.declared.serialization.message.LogKind.{LogKind}
use Rattle.sled_codec.specs.declared.serialization.message.MessageKind.{MessageKind}
use Rattle.sled_codec.specs.Kinds.{code_of}
use Rattle.sled_store.specs.Blobs.{UnlessFault, blob_bytes, making}
use Rattle.sled_store.specs.Device.{Trace}
use Rattle.sled_store.specs.declared.config.RunningConfig.{RunningConfig}
use Rattle.sled_store.proofs.Traces.ScriptLemmas.{performs_nothing}
use Rattle.sled_core.specs.declared.iobuf.record.Head.{Head}
use Rattle.sled_core.specs.declared.logger.Log.{Log}
use Rattle.sled_core.specs.declared.reservation.Reservation.{Reservation}
use Rattle.sled_core.specs.Causes.{HasRecordPlace, NoFault, ReserveAnswers, ReserveCauses}
use Rattle.sled_core.specs.Fits.{FitsInline, body_length, in_blob_of, segment_size_of, IsLeastOpen, IsUnchanged, IsUsedUpFor, KeepsAll, blob_at, device_of, fault_of, message_as, target_of}
use Rattle.sled_core.specs.Manifests.{kind_for}
use Rattle.sled_core.specs.Logged.{in_log}
use Rattle.sled_core.specs.inside.Prepared.{PrepareAnswers}
use Rattle.sled_core.specs.Reserves.{MadeAnswers, RefusalLeaves, ReservesAs, TouchesBlob, reserve_causes}
use Rattle.sled_core.specs.Running.{IsStored}
use Rattle.sled_core.specs.Tickets.{own_blob}
use Rattle.sled_core.specs.declared.iobuf.Purpose.{Purpose}
use Rattle.sled_core.proofs.Line.Prepares.{IsLaid, laid_message, made_behind, made_keeps, made_others, made_seen, made_ticket, seen_all}
use Rattle.sled_core.proofs.Line.Unchanged.{unchanged_keeps, unchanged_same, unchanged_tickets}

-- Why it was refused.

module _ (at : ReserveCauses) (used : Type 0) (least : ℤ → Type 0) where
  -- where the log couldn't be made ready for its record
  pub prepare_refused : (e : Error) → NoFault at → IsSome at.kind → PrepareAnswers {T = Head} (Err e) used at.open_count least → ReserveAnswers {T = Reservation} (Err e) used least at
  prepare_refused error.PlacesUsedUp well some is = (well, some, is)
  prepare_refused (error.Held place) well some is = (well, some, is.0, is.1, is.2)
  prepare_refused error.OutOfMemory well some is = (well, (some, is.0, is.1))
  prepare_refused (error.Io e) well some is = absurd is
  prepare_refused (error.Unsupported text) well some is = absurd is
  prepare_refused (error.Corruption place) well some is = absurd is
  prepare_refused (error.NotReserved place) well some is = absurd is
  prepare_refused (error.CollectionNotFound name) well some is = absurd is
  prepare_refused (error.ReportableBug text) well some is = absurd is

  -- which is no failure of the device,
  pub never_io : (kept : Option IoError) (e : Error) → PrepareAnswers {T = Head} (Err e) used at.open_count least → (x : IoError) → e ≡ error.Io x → kept ≡ Some x
  never_io kept e is x io = absurd (subst (λ (y : Error). PrepareAnswers {T = Head} (Err y) used at.open_count least) io is)

  -- where its blob couldn't be made
  pub blob_refused : (e : Error) → at.in_blob ≡ true → HasRecordPlace used at → at.old ≡ None → MadeAnswers {T = Unit {0}} (Err e) at.file at.new at.before at.after → ReserveAnswers {T = Reservation} (Err e) used least at
  blob_refused (error.Io e) goes room none is = inr (record { in_blob = goes; room = room; none = none; refused = is })
  blob_refused error.OutOfMemory goes room none is = ((none, is.0, is.1), room)
  blob_refused error.PlacesUsedUp goes room none is = absurd is
  blob_refused (error.Held place) goes room none is = absurd is
  blob_refused (error.Unsupported text) goes room none is = absurd is
  blob_refused (error.Corruption place) goes room none is = absurd is
  blob_refused (error.NotReserved place) goes room none is = absurd is
  blob_refused (error.CollectionNotFound name) goes room none is = absurd is
  blob_refused (error.ReportableBug text) goes room none is = absurd is

-- A refusal changes nothing of the device, whatever was to be answered.
pub spares : (A B : Type 0) (e : Error) (before after : Trace) → UnlessFault {T = A} (Err e) before after → UnlessFault {T = B} (Err e) before after
spares A B (error.Io e) before after is = is
spares A B error.OutOfMemory before after is = is
spares A B error.PlacesUsedUp before after is = is
spares A B (error.Held place) before after is = is
spares A B (error.Unsupported text) before after is = is
spares A B (error.Corruption place) before after is = is
spares A B (error.NotReserved place) before after is = is
spares A B (error.CollectionNotFound name) before after is = is
spares A B (error.ReportableBug text) before after is = is

pub spares_same : (e : Error) (before after : Trace) → after ≡ before → UnlessFault {T = Reservation} (Err e) before after
spares_same (error.Io e) before after is = inr is
spares_same error.OutOfMemory before after is = is
spares_same error.PlacesUsedUp before after is = is
spares_same (error.Held place) before after is = is
spares_same (error.Unsupported text) before after is = is
spares_same (error.Corruption place) before after is = is
spares_same (error.NotReserved place) before after is = is
spares_same (error.CollectionNotFound name) before after is = is
spares_same (error.ReportableBug text) before after is = is

-- It was refused, and the log is as it was.
module _ {D C : Type 0} (trace : D → Trace) (faults : D → ℕ) (sum : List ℕ → ℕ) (old new : Log D C) (kind : LogKind) (page : ℕ) (item : List ℕ) (blob : Bool) (n : ℕ) (same : IsUnchanged old new) where
  trace_same : trace (device_of new) ≡ trace (device_of old)
  trace_same = ap (λ (x : RunningConfig D C). trace x.device) same.config

  pub device_same : (e : Error) (b : Bool) (k : Option MessageKind) (place : ℤ) → TouchesBlob {T = Reservation} trace sum (Err e) b k place item old new
  device_same e false k place = same.config
  device_same e true k place = record { calls = λ m is. performs_nothing (making place (blob_bytes sum (code_of m) item)) _ _ trace_same; done = λ m is. tt; refused = spares_same e _ _ trace_same }

  left_same : (e : Error) → ((x : IoError) → e ≡ error.Io x → fault_of old ≡ Some x) → RefusalLeaves {T = Reservation} sum (Err e) blob old new page n
  left_same (error.Io e) kept = inl (kept e refl, same)
  left_same error.OutOfMemory kept = inl same
  left_same error.PlacesUsedUp kept = same
  left_same (error.Held place) kept = same
  left_same (error.Unsupported text) kept = same
  left_same (error.Corruption place) kept = same
  left_same (error.NotReserved place) kept = same
  left_same (error.CollectionNotFound name) kept = same
  left_same (error.ReportableBug text) kept = same

  pub refused_same : (e : Error) → ((x : IoError) → e ≡ error.Io x → fault_of old ≡ Some x) → ReserveAnswers {T = Reservation} (Err e) (IsUsedUpFor old page n) (IsLeastOpen old) (reserve_causes trace faults kind page blob n old new) → ReservesAs trace faults sum (Err e) kind page item blob n old new
  refused_same e kept answers = record {
    ticket = tt;
    stored = tt;
    manifest = tt;
    own = tt;
    behind = tt;
    others = (unchanged_tickets old new same).awaits;
    answers = answers;
    device = device_same e blob _ _;
    keeps = unchanged_keeps old new same trace sum;
    seen = seen_all old new (unchanged_same old new same);
    left = left_same e kept;
  }

-- No failure is kept, where none was, and all that is kept besides is kept.
pub well_kept : {D C : Type 0} (trace : D → Trace) (faults : D → ℕ) (kind : LogKind) (page : ℕ) (blob : Bool) (n : ℕ) (old new : Log D C) → fault_of old ≡ None → KeepsAll old new → NoFault (reserve_causes trace faults kind page blob n old new)
well_kept {D = D} {C = C} trace faults kind page blob n old new none all = (none, all.fault ∙ none, ap (λ (x : RunningConfig D C). faults x.device) all.config)

-- The record was laid out in a log that was made ready for it.
pub reserved_ok : {D C : Type 0} {trace : D → Trace} (faults : D → ℕ) {sum : List ℕ → ℕ} {old mid new : Log D C} {kept : Purpose} {head : Head} {body : List ℕ} {ticket : Reservation} (laid : IsLaid trace sum old mid new kept head body ticket) (item : List ℕ) (blob : Bool)
    → in_log (message_as old kept.log_kind kept.page blob (length body) item) ≡ laid_message laid
    → IsStored trace sum new (message_as old kept.log_kind kept.page blob (length body) item) → ReserveAnswers (Ok ticket) (IsUsedUpFor old kept.page (length body)) (IsLeastOpen old) (reserve_causes trace faults kept.log_kind kept.page blob (length body) old new)
    → TouchesBlob trace sum (Ok ticket) blob (kind_for kept.log_kind kept.page true 8) (pos (target_of old kept.page (length body)).place) item old new → own_blob ticket ≡ blob_at blob (target_of old kept.page (length body)).place → ReservesAs trace faults sum (Ok ticket) kept.log_kind kept.page item blob (length body) old new
reserved_ok faults laid item blob is stored answers device own = record {
  ticket = made_ticket laid _ is;
  stored = stored;
  manifest = laid.manifest;
  own = own;
  behind = made_behind laid;
  others = made_others laid;
  answers = answers;
  device = device;
  keeps = made_keeps laid;
  seen = made_seen laid;
  left = tt;
}

-- A reservation goes by how long the item is.

module _ {D C : Type 0} (trace : D → Trace) (faults : D → ℕ) (sum : List ℕ → ℕ) (result : Result Reservation Error) (kind : LogKind) (page : ℕ) (item : List ℕ) (old new : Log D C) where
  abbrev blob : Bool
  blob = in_blob_of old (length item)

  by_length : (b : Bool) (n : ℕ) → blob ≡ b → (if b then 8 else length item) ≡ n → ReservesAs trace faults sum result kind page item b n old new → ReservesAs trace faults sum result kind page item blob (body_length old (length item)) old new
  by_length b n is long came =
      subst (λ k. ReservesAs trace faults sum result kind page item blob k old new) (sym (ap (λ (o : Bool). if o then 8 else length item) is ∙ long))
      (subst (λ (o : Bool). ReservesAs trace faults sum result kind page item o n old new) (sym is) came)

  pub reserved_inline : FitsInline (segment_size_of old) (length item) → ReservesAs trace faults sum result kind page item false (length item) old new → ReservesAs trace faults sum result kind page item blob (body_length old (length item)) old new
  reserved_inline fits = by_length false (length item) (let is : nat_lt (segment_size_of old / 4 - 20) (32 + length item) ≡ false = grind (arith, nat_tests, fits) in is) refl

  pub reserved_blob : (FitsInline (segment_size_of old) (length item) → ⊥) → ReservesAs trace faults sum result kind page item true 8 old new → ReservesAs trace faults sum result kind page item blob (body_length old (length item)) old new
  reserved_blob long = by_length true 8 (let is : nat_lt (segment_size_of old / 4 - 20) (32 + length item) ≡ true = grind (arith, nat_tests, long) in is) refl
