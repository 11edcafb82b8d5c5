-- What a call leaves of a log that removes the blob which a reservation made for its item (`own_blob` of `Tickets`).
use Rattle.std.specs.Prelude.{◌≡◌, ◌≢◌, ◌⊎◌, ◌≤◌, ◌+◌, ◌%◌, ◌^◌, ℕ, ℤ, List, [], ◌∷◌, Option, None, Some, IsTrue, IsSome, Result, Ok, Err, OnOk, Contains}
use Rattle.std.specs.declared.io.Error.{Error as IoError}
use Rattle.sled_codec.specs.declared.result.DiskPtr.TheVariants.{Blob}
use Rattle.sled_codec.specs.declared.result.Error.{Error}
use Rattle.sled_codec.specs.declared.result.Error.TheVariants.{Io}
use Rattle.sled_codec.specs.History.{Message, History}
use Rattle.sled_store.specs.Answers.{is_fault}
use Rattle.sled_store.specs.Blobs.{removing_blobs}
use Rattle.sled_store.specs.Device.{Event, Trace}
use Rattle.sled_store.specs.Moments.{IsLater, LeavesOnly}
use Rattle.sled_store.specs.Script.{Performs, after_all}
use Rattle.sled_core.specs.declared.logger.Log.{Log}
use Rattle.sled_core.specs.invariants.Fits.{Holds}
use Rattle.sled_core.specs.Fits.{config_of, device_of, fault_of, kept_batches, noted_in, segment_size_of, synced_end}
use Rattle.sled_core.specs.Keeps.{ConfigKept}
use Rattle.sled_core.specs.OpenBatches.{not_whole}
use Rattle.sled_core.specs.Recoverable.{RecoverableIfOwn}
use Rattle.sled_core.specs.invariants.Running.{Fits}
use Rattle.sled_core.specs.Running.{IsStored}

-- a message has its item in no blob of this name, if one is named
abbrev pub IsBeside : Option ℤ → Message → Type 0
IsBeside None m = Unit {0}
IsBeside (Some p) m = (lid : ℕ) (q : ℤ) → m.pointer ≡ Blob lid q → q ≢ p

-- so it is with all messages of a history
abbrev pub AreBeside : Option ℤ → History → Type 0
AreBeside blob H = (m : Message) → Contains H.messages m → IsBeside blob m

-- the calls that remove it
abbrev pub removing : Option ℤ → List Event
removing None = []
removing (Some p) = removing_blobs (p ∷ [])

-- The log goes on without a blob, if one is named: what it held it holds still, and of a history that doesn't name the blob it fits what it fitted, also at
-- each moment of a crash.
pub record PreservesWithout {D C : Type 0} (trace : D → Trace) (sum : List ℕ → ℕ) (blob : Option ℤ) (old new : Log D C) : Type 0 where
  pub config : ConfigKept (config_of old) (config_of new)
  pub later : IsLater (trace (device_of old)) (trace (device_of new))
  pub stable : synced_end old ≤ synced_end new
  pub sound : fault_of new ≡ None → fault_of old ≡ None
  pub crash : (H : History) (A f : ℕ) (U : List Message) → Fits trace sum old H A f U → AreBeside blob H
      → LeavesOnly (RecoverableIfOwn sum (segment_size_of old) H A f) (trace (device_of old)) (trace (device_of new))
  pub items : fault_of new ≡ None → (m : Message) → IsBeside blob m → IsStored trace sum old m → IsStored trace sum new m
  pub history : (H : History) → Holds trace sum old H → Holds trace sum new H
  pub fits : (H : History) (A f : ℕ) (U : List Message) → Fits trace sum old H A f U → AreBeside blob H → Fits trace sum new H A f U
  pub noted : noted_in new ≡ not_whole (synced_end new) (noted_in old)
  pub kept : kept_batches new ≤ kept_batches old

-- Why a blob was not removed, if there was one: the log kept a failure, or the device failed in this call, and the log keeps that.
abbrev pub RemovedAnswers : {T : Type 0} → Result T Error → Option ℤ → Option IoError → Option IoError → ℕ → ℕ → Type 0
RemovedAnswers (Ok _) blob old new before after = (old ≡ None) × (new ≡ None) × (after ≡ before)
RemovedAnswers (Err (Io e)) blob old new before after =
    ((old ≡ Some e) × (new ≡ Some e) × (after ≡ before)) ⊎ (IsSome blob × (old ≡ None) × (new ≡ Some e) × IsTrue (is_fault e) × (after ≡ (before + 1) % 2 ^ 64))
RemovedAnswers (Err _) blob old new before after = ⊥

-- What a call asks of the device that removes it.
pub record RemovesBlob {T D C : Type 0} (trace : D → Trace) (result : Result T Error) (blob : Option ℤ) (old new : Log D C) : Type 0 where
  pub calls : Performs (removing blob) (trace (device_of old)) (trace (device_of new))
  pub done : OnOk result (trace (device_of new) ≡ after_all (removing blob) (trace (device_of old)))
  -- without one nothing is asked
  pub none : blob ≡ None → config_of new ≡ config_of old
