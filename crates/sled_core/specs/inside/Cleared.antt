-- The log file as one reads it who knows the slots. A byte counts for nothing where no segment is in its slot, or where it isn't written yet of one that
-- was begun: what stands there is of a segment that is gone. There it is read as a zero.
use Rattle.std.specs.Prelude.{◌≡◌, ◌&&◌, ◌||◌, ◌+◌, ◌/◌, ◌≤◌, ◌<◌, not, nat_le, nat_lt, ℕ, Bool, true, false, if◌then◌else◌, List, [], ◌∷◌, length, map, get_or}
use Rattle.std.specs.List.{range_with_len}
use Rattle.sled_store.specs.SegmentStates.{Machine, is_free, slot_at}
use Rattle.sled_core.specs.declared.iobuf.Sealed.{Sealed}
use Rattle.sled_core.specs.Begun.{SegmentParts, SegmentView}
use Rattle.sled_core.specs.SealedBuffers.{AreZeros}
use Rattle.sled_core.specs.inside.SealedBuffers.{Agrees}

-- an offset is one of those from one up to another
abbrev pub is_between : ℕ → ℕ → ℕ → Bool
is_between from to i = nat_le from i && nat_lt i to

-- It isn't written yet of a segment in this slot, which is written up to an offset and has these sealed buffers behind it.
abbrev pub is_unwritten_in : ℕ → ℕ → List Sealed → ℕ → ℕ → Bool
is_unwritten_in slot from [] to i = is_between (slot + from) (slot + to) i
is_unwritten_in slot from (b ∷ bs) to i = (not b.is_written && is_between (slot + from) (slot + b.end) i) || is_unwritten_in slot b.end bs to i

abbrev pub is_unwritten_of : ℕ → SegmentParts → ℕ → Bool
is_unwritten_of size s i = is_unwritten_in s.site.slot s.written_len s.sealed size i

-- nor of one of these
abbrev pub is_unwritten : ℕ → List SegmentView → ℕ → Bool
is_unwritten size [] i = false
is_unwritten size (v ∷ vs) i = is_unwritten_of size v.parts i || is_unwritten size vs i

-- a byte of the log file counts for nothing: no segment is in its slot, or it isn't written yet of one that was begun
abbrev pub is_stale : ℕ → Machine → List SegmentView → ℕ → Bool
is_stale size m line i = is_free (slot_at m (i / size)).state || is_unwritten size line i

-- a file with zeros at the offsets that pass a test
abbrev pub zeroed : (ℕ → Bool) → List ℕ → List ℕ
zeroed test log = map (λ i. if test i then 0 else get_or log i 0) (range_with_len 0 (length log))

-- the log file as one reads it who knows the slots: zeros where it counts for nothing
abbrev pub cleared : ℕ → Machine → List SegmentView → List ℕ → List ℕ
cleared size m line log = zeroed (is_stale size m line) log

-- The two parts of `Laid`: what isn't written of a segment is zeros, and what is written of it stands.

abbrev pub AreUnwrittenZeros : List ℕ → ℕ → ℕ → List Sealed → ℕ → Type 0
AreUnwrittenZeros log slot from [] to = AreZeros log (slot + from) (slot + to)
AreUnwrittenZeros log slot from (b ∷ bs) to = (b.is_written ≡ false → AreZeros log (slot + from) (slot + b.end)) × AreUnwrittenZeros log slot b.end bs to

abbrev pub StandWritten : List ℕ → ℕ → List ℕ → ℕ → List Sealed → Type 0
StandWritten log slot bytes from [] = Unit {0}
StandWritten log slot bytes from (b ∷ bs) = (b.is_written ≡ true → Agrees log slot bytes from b.end) × StandWritten log slot bytes b.end bs

-- Of two files of one length the second one has what is written of a segment as the first one has it: that without a gap, and each buffer that is written,
-- with these bytes.
pub record IsWrittenIn (shown log : List ℕ) (slot : ℕ) (bytes : List ℕ) (from : ℕ) (bs : List Sealed) : Type 0 where
  pub long : length log ≡ length shown
  pub front : (i : ℕ) → slot ≤ i → i < slot + from → get_or shown i 0 ≡ get_or log i 0
  pub stand : StandWritten log slot bytes from bs
