-- The clauses of a reservation, put together: what it comes to by how long its item is.
use Rattle.std.proofs.Common.{◌≡◌, ℕ, pos, Bool, true, List, length, Result}
use Rattle.std.specs.Prelude.{IfOk, OnOk}
use Rattle.sled_codec.specs.declared.result.Error.{Error}
use Rattle.sled_codec.specs.declared.serialization.message.LogKind.{LogKind}
use Rattle.sled_codec.specs.History.{Message}
use Rattle.sled_store.specs.Device.{Trace}
use Rattle.sled_core.specs.declared.logger.Log.{Log}
use Rattle.sled_core.specs.declared.reservation.Reservation.{Reservation}
use Rattle.sled_core.specs.Causes.{ReserveAnswers}
use Rattle.sled_core.specs.Fits.{Awaits, IsLeastOpen, IsUsedUpFor, blob_at, body_length, in_blob_of, message_for, target_of}
use Rattle.sled_core.specs.Keeps.{KeepsSeen, Preserves}
use Rattle.sled_core.specs.Manifests.{is_manifest, kind_for}
use Rattle.sled_core.specs.Reserves.{RefusalLeaves, ReservesAs, StandsBehind, TouchesBlob, reserve_causes}
use Rattle.sled_core.specs.Running.{IsStored}
use Rattle.sled_core.specs.Tickets.{is_manifest_of, own_blob}

module _ {D C : Type 0} (trace : D → Trace) (faults : D → ℕ) (sum : List ℕ → ℕ) (kind : LogKind) (page : ℕ) (item : List ℕ) (old new : Log D C) where
  abbrev blob : Bool
  blob = in_blob_of old (length item)

  abbrev long : ℕ
  long = body_length old (length item)

  pub reserves_as : (result : Result Reservation Error) → IfOk result (λ ticket. Awaits new ticket (message_for old kind page item)) → OnOk result (IsStored trace sum new (message_for old kind page item))
      → IfOk result (λ ticket. is_manifest_of ticket ≡ is_manifest kind page) → IfOk result (λ ticket. own_blob ticket ≡ blob_at blob (target_of old page long).place) → OnOk result (StandsBehind sum old new page long)
      → ((ticket : Reservation) (m : Message) → Awaits old ticket m → Awaits new ticket m) → ReserveAnswers result (IsUsedUpFor old page long) (IsLeastOpen old) (reserve_causes trace faults kind page blob long old new)
      → TouchesBlob trace sum result blob (kind_for kind page true 8) (pos (target_of old page long).place) item old new → Preserves trace sum old new → KeepsSeen old new → RefusalLeaves sum result blob old new page long
      → ReservesAs trace faults sum result kind page item blob long old new
  reserves_as result ticket stored manifest own behind others answers device keeps seen left = record {
    ticket = ticket;
    stored = stored;
    manifest = manifest;
    own = own;
    behind = behind;
    others = others;
    answers = answers;
    device = device;
    keeps = keeps;
    seen = seen;
    left = left;
  }
