-- A log of which a call changed its device and what it keeps of a failure alone holds and fits what its old parts do over the new device.
use Rattle.std.proofs.Common.{◌≡◌, ◌⊎◌, ◌≤◌, ap, refl, arith, ℕ, List, Some}
use Rattle.std.specs.declared.io.Error.{Error as IoError}
use Rattle.sled_codec.specs.History.{Message, History}
use Rattle.sled_store.specs.Accounts.{machine_of}
use Rattle.sled_store.specs.Device.{State, Trace, state_of}
use Rattle.sled_store.specs.declared.config.Config.{Config}
use Rattle.sled_core.specs.declared.logger.Log.{Log}
use Rattle.sled_core.specs.invariants.Fits.{Holds}
use Rattle.sled_core.specs.inside.Fits.{HoldsShown, written_to}
use Rattle.sled_core.specs.Fits.{device_of, fault_of, kept_batches, line_of, machine_at, noted_in, pins_of, segment_size_of, synced_end}
use Rattle.sled_core.specs.Logged.{logged}
use Rattle.sled_core.specs.OpenBatches.{not_whole}
use Rattle.sled_core.specs.invariants.Running.{Fits}
use Rattle.sled_core.specs.inside.Running.{FitsShown}
use Rattle.sled_core.specs.inside.Turned.{ChangesDevice}
use Rattle.sled_core.proofs.Line.LeftShown.{log_leaves}
use Rattle.sled_core.proofs.Line.Faulty.{fits_with_kept, fits_with_same, holds_with_kept, holds_with_same}
use Rattle.sled_core.proofs.Line.LineEnds.{kept_same, noted_later, noted_same}
use Rattle.sled_core.proofs.Line.LogWrites.{same_line}

module _ {D C : Type 0} (old new : Log D C) (rest : ChangesDevice old new) where
  line_same : line_of new ≡ line_of old
  line_same = same_line old new rest

  size_same : segment_size_of new ≡ segment_size_of old
  size_same = ap (λ (x : Config). x.segment_size) rest.config

  slots_same : machine_at new ≡ machine_at old
  slots_same = ap machine_of rest.accountant

  batches_same : noted_in new ≡ noted_in old
  batches_same = noted_same old new (λ i. (rest.batches i).noted.items) (ap written_to line_same)

  -- as much of it is on the device as was, and the same batches are noted
  pub device_stable : synced_end old ≤ synced_end new
  device_stable = let same = ap written_to line_same in omega (arith, same)

  pub device_noted : noted_in new ≡ not_whole (synced_end new) (noted_in old)
  device_noted = noted_later old new (λ i. (rest.batches i).noted.items) device_stable

  pub device_kept : kept_batches new ≤ kept_batches old
  device_kept = kept_same old new (λ i. (rest.batches i).noted.items)

  module _ (trace : D → Trace) (sum : List ℕ → ℕ) (kept : (fault_of new ≡ fault_of old) ⊎ ((e : IoError) × (fault_of new ≡ Some e))) where
    abbrev after : State
    after = state_of (trace (device_of new))

    pub device_holds : (H : History) → HoldsShown sum old.marks (noted_in old) (segment_size_of old) after (fault_of old) (line_of old) (machine_at old) (logged H) → Holds trace sum new H
    unfolding Holds
    device_holds H then =
        holds_with_same sum _ _ _ _ _ _ _ _ _ _ _ _ (logged H) refl batches_same refl refl refl
        (holds_with_kept sum _ _ (noted_in old) _ _ after after _ _ _ _ _ _ (logged H) rest.marks size_same line_same slots_same refl kept then)

    pub device_fits : (H : History) (A f : ℕ) (U : List Message) → FitsShown sum old.marks (noted_in old) (segment_size_of old) after (fault_of old) (line_of old) (machine_at old) (pins_of old) H A f U → Fits trace sum new H A f U
    unfolding Fits
    device_fits H A f U then =
        fits_with_same sum _ _ _ _ _ _ _ _ _ _ _ _ _ _ H A f U refl batches_same refl refl refl refl
        (fits_with_kept sum _ _ (noted_in old) _ _ after after _ _ _ _ _ _ _ _ H A f U rest.marks size_same line_same slots_same rest.pins refl kept then
        (log_leaves sum old H A f U after then))
