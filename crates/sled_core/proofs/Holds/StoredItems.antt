-- A message that is safe from a crash is safe in any log whose blobs are the same.
use Rattle.std.proofs.Common.{◌≡◌, ℕ, List, sym, subst}
use Rattle.sled_codec.specs.History.{Message}
use Rattle.sled_store.specs.Device.{NamesState, Trace, state_of}
use Rattle.sled_core.specs.declared.logger.Log.{Log}
use Rattle.sled_core.specs.Fits.{device_of}
use Rattle.sled_core.specs.Running.{IsStored, KeepsItem}

pub items_same : {D C : Type 0} (trace : D → Trace) (sum : List ℕ → ℕ) (old new : Log D C) → (state_of (trace (device_of new))).blobs ≡ (state_of (trace (device_of old))).blobs → (m : Message) → IsStored trace sum old m → IsStored trace sum new m
items_same trace sum old new same m stored = record {
  below = stored.below;
  item = subst (λ (s : NamesState). KeepsItem sum s m m.pointer) (sym same) stored.item;
}
