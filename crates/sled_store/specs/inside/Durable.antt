-- What proofs, and functions that no user calls, need beside `specs/Durable.antt`. No public contract names it.
use Rattle.std.specs.Prelude.{◌≡◌, ◌≤◌, ◌<◌, ℕ, ℤ, false, [], length}
use Rattle.sled_store.specs.Device.{LogState, NamesState}

-- nothing in a range was written, grown or cut off since the last sync
pub record IsDurable (s : LogState) (from to : ℕ) : Type 0 where
  pub within : to ≤ s.least
  pub there : to ≤ length s.bytes
  pub firm : (i : ℕ) → from ≤ i → i < to → s.is_unsynced i ≡ false

-- a name is settled: it didn't change since names were last synced, and nor did the bytes of its file
pub record IsSettledName (s : NamesState) (n : ℤ) : Type 0 where
  pub firm : s.is_unsynced n ≡ false
  pub alone : s.earlier n ≡ []
  pub whole : s.half_done n ≡ []
