-- What proofs, and functions that no user calls, need beside `specs/SealedBuffers.antt`. No public contract names it.
use Rattle.std.specs.Prelude.{◌≡◌, ◌==◌, ◌+◌, ◌-◌, nat_lt, ◌≤◌, ◌<◌, ℕ, zero, suc, Bool, true, false, if◌then◌else◌, max, List, [], ◌∷◌, ◌++◌, length, take}
use Rattle.std.specs.Prelude.{drop, get_or, slice_get, Some}
use Rattle.sled_store.specs.Device.{Event}
use Rattle.sled_core.specs.declared.iobuf.ReservationState.TheVariants.{Open}
use Rattle.sled_core.specs.declared.iobuf.Reserved.{Reserved}
use Rattle.sled_core.specs.declared.iobuf.Sealed.{Sealed}
use Rattle.sled_core.specs.inside.Buffers.{IsChain}
use Rattle.sled_core.specs.Buffers.{open_in}
use Rattle.sled_core.specs.SealedBuffers.{sealed_count, AreZeros, seal_at, bytes_between, writing}

-- A buffer has these reservations, one behind another from an offset on up to its end, or it is the header of its segment alone.
pub record IsSealed (from : ℕ) (own : List Reserved) (b : Sealed) : Type 0 where
  pub rises : from < b.end
  pub chain : IsChain (max 20 from) own b.end
  pub counted : b.count ≡ length own
  pub still_open : b.open_count ≡ open_in own
  pub ended : b.is_written ≡ true → b.open_count ≡ 0

-- Buffers have these reservations one behind another, from an offset on. There may be more behind them.
abbrev pub AreSealed : ℕ → List Reserved → List Sealed → Type 0
AreSealed from rs [] = Unit {0}
AreSealed from rs (b ∷ bs) = IsSealed from (take b.count rs) b × AreSealed b.end (drop b.count rs) bs

-- A file has these bytes in a slot, from one offset in it up to another.
pub record Agrees (log : List ℕ) (slot : ℕ) (bytes : List ℕ) (from to : ℕ) : Type 0 where
  pub same : (i : ℕ) → from ≤ i → i < to → get_or log (slot + i) 0 ≡ get_or bytes i 0
  pub in_file : slot + to ≤ length log
  pub in_bytes : to ≤ length bytes

-- what it has of one buffer: its bytes where that is written, and else zeros
abbrev pub LaidOne : List ℕ → ℕ → List ℕ → ℕ → Bool → ℕ → Type 0
LaidOne log slot bytes from true end = Agrees log slot bytes from end
LaidOne log slot bytes from false end = AreZeros log (slot + from) (slot + end)

-- what it has of all of them, with zeros behind them up to an offset
abbrev pub Laid : List ℕ → ℕ → List ℕ → ℕ → List Sealed → ℕ → Type 0
Laid log slot bytes from [] to = AreZeros log (slot + from) (slot + to)
Laid log slot bytes from (b ∷ bs) to = LaidOne log slot bytes from b.is_written b.end × Laid log slot bytes b.end bs to

-- Those at the front that are written: where they end, how many reservations they have, and the others.

abbrev pub run_end : ℕ → List Sealed → ℕ
run_end from [] = from
run_end from (b ∷ bs) = if b.is_written then run_end b.end bs else from

abbrev pub run_count : List Sealed → ℕ
run_count [] = 0
run_count (b ∷ bs) = if b.is_written then b.count + run_count bs else 0

abbrev pub behind_run : List Sealed → List Sealed
behind_run [] = []
behind_run (b ∷ bs) = if b.is_written then behind_run bs else b ∷ bs

-- One of them is written; one of the reservations of one of them has ended.

abbrev pub now_written : Sealed → Sealed
now_written b = record { end = b.end; count = b.count; open_count = b.open_count; is_written = true }

abbrev pub one_fewer : Sealed → Sealed
one_fewer b = record { end = b.end; count = b.count; open_count = b.open_count - 1; is_written = b.is_written }

-- where the reservation is the one at an index of those that they have
abbrev pub one_ended : ℕ → List Sealed → List Sealed
one_ended i [] = []
one_ended i (b ∷ bs) = if nat_lt i b.count then one_fewer b ∷ bs else b ∷ one_ended (i - b.count) bs

-- the same list, once the one at an index is written
abbrev pub written_at : ℕ → List Sealed → List Sealed
written_at k [] = []
written_at zero (b ∷ bs) = now_written b ∷ bs
written_at (suc k) (b ∷ bs) = b ∷ written_at k bs

-- The first one isn't written.
abbrev pub FirstUnwritten : List Sealed → Type 0
FirstUnwritten [] = Unit {0}
FirstUnwritten (b ∷ bs) = b.is_written ≡ false

-- the current buffer as it would be sealed, where it ends there and has these reservations; none where it has no reservation
abbrev pub current_buffer : ℕ → List Reserved → List Sealed
current_buffer end [] = []
current_buffer end (r ∷ rs) = seal_at end (r ∷ rs) ∷ []

-- The calls that write those that aren't written and begin below an offset, one behind another, up to the first that has an open reservation.
abbrev pub ready_writes : ℕ → List ℕ → ℕ → ℕ → List Sealed → List Event
ready_writes slot bytes to from [] = []
ready_writes slot bytes to from (b ∷ bs) =
    if b.is_written then ready_writes slot bytes to b.end bs
    else if nat_lt from to then (if b.open_count == 0 then writing (slot + from) (bytes_between bytes from b.end) (ready_writes slot bytes to b.end bs) else [])
    else []

-- the reservations of those that begin below an offset, and of the current buffer, if it does
abbrev pub reserved_below : ℕ → ℕ → List Sealed → List Reserved → List Reserved
reserved_below to from [] rs = if nat_lt from to then rs else []
reserved_below to from (b ∷ bs) rs = if nat_lt from to then take b.count rs ++ reserved_below to b.end bs (drop b.count rs) else []

-- it has no open reservation and isn't written
abbrev pub is_ready : Sealed → Bool
is_ready b = if b.is_written then false else b.open_count == 0

-- the first one is so
abbrev pub first_ready : List Sealed → Bool
first_ready [] = false
first_ready (b ∷ bs) = is_ready b

-- the calls that write the i-th of those that are so and settle it
abbrev pub ready_write : ℕ → List ℕ → ℕ → ℕ → List Sealed → List Event
ready_write slot bytes from i [] = []
ready_write slot bytes from i (b ∷ bs) =
    if is_ready b then (if i == 0 then writing (slot + from) (bytes_between bytes from b.end) [] else ready_write slot bytes b.end (i - 1) bs)
    else ready_write slot bytes b.end i bs

-- the same list, once the i-th of those that are so is written
abbrev pub ready_marked : ℕ → List Sealed → List Sealed
ready_marked i [] = []
ready_marked i (b ∷ bs) = if is_ready b then (if i == 0 then now_written b ∷ bs else b ∷ ready_marked (i - 1) bs) else b ∷ ready_marked i bs

-- how many of them are so
abbrev pub ready_count : List Sealed → ℕ
ready_count [] = 0
ready_count (b ∷ bs) = if is_ready b then suc (ready_count bs) else ready_count bs

-- One of their reservations, which begins there, is open.
pub record HasOpenAt (at : ℕ) (rs : List Reserved) (index from : ℕ) (bs : List Sealed) : Type 0 where
  pub reserved : Reserved
  pub are : AreSealed at rs bs
  pub theirs : index < sealed_count bs
  pub there : slice_get rs index ≡ Some reserved
  pub begins : reserved.from ≡ from
  pub some : 0 < reserved.len
  pub open_yet : reserved.state ≡ Open
