-- What proofs, and functions that no user calls, need beside `specs/Begun.antt`. No public contract names it.
use Rattle.std.specs.Prelude.{◌≡◌, ◌≤◌, ◌<◌, ◌+◌, ◌*◌, ◌^◌, ℕ, zero, suc, List, [], ◌∷◌, length, Option, None, Some, refl}
use Rattle.std.specs.VecDeque.{deque_with_item}
use native.Mathlib.Nat.{ℕ_set}
use native.Mathlib.Bridge.{le_prop}
use Rattle.sled_core.specs.inside.Buffers.{NoPadding, records_end}
use Rattle.sled_core.specs.declared.iobuf.IoBuf.{IoBuf}
use Rattle.sled_core.specs.declared.iobuf.Reserved.{Reserved}
use Rattle.sled_core.specs.declared.logger.io_bufs.IoBufs.{IoBufs}
use Rattle.sled_core.specs.declared.logger.io_bufs.SegmentBuffer.{SegmentBuffer}
use Rattle.sled_core.specs.Begun.{SegmentView, line_in, records_to, begin_of}

-- They lie one behind another from a place on, each within its size and in reach.
abbrev pub FollowOn : ℕ → ℕ → List SegmentBuffer → Type 0
FollowOn size place [] = Unit {0}
FollowOn size place (s ∷ ss) =
    (s.site.place ≡ place) × (length s.buffer.bytes.items ≤ size) × (s.site.place + size < 2 ^ 63) × (s.site.slot + size < 2 ^ 63)
    × FollowOn size (place + size) ss

-- A log keeps that as a proposition: there is one proof of it at most.
pub FollowOn-prop : (size place : ℕ) (ss : List SegmentBuffer) → IsProp (FollowOn size place ss)
FollowOn-prop size place [] = λ p q. refl
FollowOn-prop size place (s ∷ ss) =
    λ p q i. (ℕ_set _ _ p.0 q.0 i, le_prop p.1 q.1 i, le_prop p.2 q.2 i, le_prop p.3 q.3 i, FollowOn-prop size (place + size) ss p.4 q.4 i)

-- the buffer of the last segment
abbrev pub last_buffer : IoBuf → List SegmentBuffer → IoBuf
last_buffer b [] = b
last_buffer b (s ∷ ss) = last_buffer s.buffer ss

-- the same, as code has them
abbrev pub open_segments : IoBufs → List SegmentBuffer
open_segments segments = segments.first ∷ segments.behind.items

-- They lie within their size and in reach, one behind another, and the first one isn't wholly on the device where one is behind it.
pub record LieWithin (size : ℕ) (segments : IoBufs) : Type 0 where
  pub in_segment : length segments.first.buffer.bytes.items ≤ size
  pub place_in_reach : segments.first.site.place + size < 2 ^ 63
  pub slot_in_reach : segments.first.site.slot + size < 2 ^ 63
  pub waits : 0 < length segments.behind.items → segments.first.buffer.written_len < size
  pub follow : FollowOn size (segments.first.site.place + size) segments.behind.items

pub LieWithin-prop : (size : ℕ) (segments : IoBufs) → IsProp (LieWithin size segments)
LieWithin-prop size segments = λ p q i. record {
  in_segment = le_prop p.in_segment q.in_segment i;
  place_in_reach = le_prop p.place_in_reach q.place_in_reach i;
  slot_in_reach = le_prop p.slot_in_reach q.slot_in_reach i;
  waits = λ some. le_prop (p.waits some) (q.waits some) i;
  follow = FollowOn-prop size (segments.first.site.place + size) segments.behind.items p.follow q.follow i;
}

-- the segments with another one in the place of the n-th
abbrev pub with_nth : IoBufs → ℕ → SegmentBuffer → IoBufs
with_nth segments zero s = record segments { first = s }
with_nth segments (suc n) s = record segments { behind = deque_with_item segments.behind n s }

-- the buffer of the one that is being filled
abbrev pub last_buffer_in : IoBufs → IoBuf
last_buffer_in segments = last_buffer segments.first.buffer segments.behind.items

-- where the first of segments begins
abbrev pub first_place : List SegmentView → ℕ
first_place [] = 0
first_place (v ∷ vs) = v.parts.site.place

-- where the last one ends of segments of this size
abbrev pub line_end : ℕ → List SegmentView → ℕ
line_end size [] = 0
line_end size (v ∷ vs) = v.parts.site.place + length (v ∷ vs) * size

-- Each reservation of a segment at this place begins below a place. What fills the segment may lie behind that.
abbrev pub AreEntered : ℕ → ℕ → List Reserved → Type 0
AreEntered to place [] = Unit {0}
AreEntered to place (r ∷ rs) = (NoPadding r → place + r.from < to) × AreEntered to place rs

-- A segment at this place that has more than its header has something reserved.
abbrev pub IsUsed : ℕ → ℕ → ℕ → Type 0
IsUsed to place len = 20 < len → place + 20 < to

-- What was reserved ends where this one does, then.
abbrev pub IsUsedToEnd : ℕ → ℕ → ℕ → Type 0
IsUsedToEnd to place len = 20 < len → to ≡ place + len

-- nothing fills a segment
abbrev pub IsUnfilled : Option ℕ → Type 0
IsUnfilled None = Unit {0}
IsUnfilled (Some from) = ⊥

pub IsUnfilled-prop : (o : Option ℕ) → IsProp (IsUnfilled o)
IsUnfilled-prop None = λ p q. refl
IsUnfilled-prop (Some from) = λ p q. absurd p

-- Segments one behind another, of which what was reserved ends at a place that isn't behind all bytes: in all but the last one each byte is in a sealed
-- buffer or written, and the current buffer begins within the last one. Each reservation begins below that place, and a segment that has more than its
-- header has one. What fills a segment begins where the entries' records end at most, and where the place lies in the segment, or at its end, it isn't
-- behind that; nothing fills the last one, which ends where what was reserved does, if it has a reservation.
abbrev pub AreFilled : ℕ → ℕ → List SegmentView → Type 0
AreFilled size to [] = Unit {0}
AreFilled size to (v ∷ []) =
    (begin_of v < size) × (to ≤ v.parts.site.place + length v.parts.bytes) × AreEntered to v.parts.site.place v.parts.reserved
    × IsUnfilled v.parts.filled × (length v.parts.bytes ≤ records_end v.parts.reserved (length v.parts.bytes))
    × IsUsedToEnd to v.parts.site.place (length v.parts.bytes)
AreFilled size to (v ∷ w ∷ vs) =
    (begin_of v ≡ size) × AreEntered to v.parts.site.place v.parts.reserved × AreFilled size to (w ∷ vs)
    × (records_to v.parts.filled size ≤ records_end v.parts.reserved size)
    × (to ≤ v.parts.site.place + size → to ≤ v.parts.site.place + records_to v.parts.filled size) × IsUsed to v.parts.site.place (length v.parts.bytes)

-- The segments that a log has are filled so.
abbrev pub IsFilledLine : ℕ → ℕ → IoBufs → Type 0
IsFilledLine size to segments = AreFilled size to (line_in segments)

AreEntered-prop : (to place : ℕ) (rs : List Reserved) → IsProp (AreEntered to place rs)
AreEntered-prop to place [] = λ p q. refl
AreEntered-prop to place (r ∷ rs) = λ p q i. (λ some. le_prop (p.0 some) (q.0 some) i, AreEntered-prop to place rs p.1 q.1 i)

pub AreFilled-prop : (size to : ℕ) (vs : List SegmentView) → IsProp (AreFilled size to vs)
AreFilled-prop size to [] = λ p q. refl
AreFilled-prop size to (v ∷ []) =
    λ p q i. (
      le_prop p.0 q.0 i,
      le_prop p.1 q.1 i,
      AreEntered-prop to v.parts.site.place v.parts.reserved p.2 q.2 i,
      IsUnfilled-prop v.parts.filled p.3 q.3 i,
      le_prop p.4 q.4 i,
      λ some. ℕ_set _ _ (p.5 some) (q.5 some) i,
    )
AreFilled-prop size to (v ∷ w ∷ vs) =
    λ p q i. (
      ℕ_set _ _ p.0 q.0 i,
      AreEntered-prop to v.parts.site.place v.parts.reserved p.1 q.1 i,
      AreFilled-prop size to (w ∷ vs) p.2 q.2 i,
      le_prop p.3 q.3 i,
      λ low. le_prop (p.4 low) (q.4 low) i,
      λ some. le_prop (p.5 some) (q.5 some) i,
    )

pub IsFilledLine-prop : (size to : ℕ) (segments : IoBufs) → IsProp (IsFilledLine size to segments)
IsFilledLine-prop size to segments = AreFilled-prop size to (line_in segments)
