-- The buffers of a segment that were sealed and of which the first isn't on the device: which reservations they have, and what the log file has of them.
use Rattle.std.specs.Prelude.{◌≡◌, ◌+◌, ◌≤◌, ◌<◌, ℕ, false, List, [], ◌∷◌, length, take, drop, get_or}
use Rattle.sled_store.specs.Device.{Event, Wrote, Synced}
use Rattle.sled_core.specs.declared.iobuf.Reserved.{Reserved}
use Rattle.sled_core.specs.declared.iobuf.Sealed.{Sealed}
use Rattle.sled_core.specs.Buffers.{open_in}

-- where the last one ends
abbrev pub sealed_end : ℕ → List Sealed → ℕ
sealed_end from [] = from
sealed_end from (b ∷ bs) = sealed_end b.end bs

-- how many reservations they have
abbrev pub sealed_count : List Sealed → ℕ
sealed_count [] = 0
sealed_count (b ∷ bs) = b.count + sealed_count bs

-- a file has zeros from one offset up to another, or ends before
abbrev pub AreZeros : List ℕ → ℕ → ℕ → Type 0
AreZeros log from to = (i : ℕ) → from ≤ i → i < to → get_or log i 0 ≡ 0

-- the buffer that is sealed there with these reservations
abbrev pub seal_at : ℕ → List Reserved → Sealed
seal_at end rs = record { end = end; count = length rs; open_count = open_in rs; is_written = false }

-- the bytes of a segment from one offset up to another
abbrev pub bytes_between : List ℕ → ℕ → ℕ → List ℕ
bytes_between bytes from to = drop from (take to bytes)

-- the calls that write a buffer of these bytes at an offset and settle it, in front of others
abbrev pub writing : ℕ → List ℕ → List Event → List Event
writing at bytes rest = Wrote at bytes bytes ∷ Synced ∷ rest
