-- The buffers of a log that aren't on the device, by place, whatever segments they are of; and what is written of them.
use Rattle.std.specs.Prelude.{◌≡◌, ◌+◌, ◌/◌, ◌&&◌, ◌==◌, ◌-◌, nat_lt, nat_le, ℕ, suc, Bool, true, false, if◌then◌else◌, List, [], ◌∷◌, ◌++◌, length, map, take}
use Rattle.std.specs.Prelude.{ℤ, drop, Option, None, Some}
use Rattle.sled_store.specs.Device.{Event}
use Rattle.sled_core.specs.declared.iobuf.Reserved.{Reserved}
use Rattle.sled_core.specs.declared.iobuf.Sealed.{Sealed}
use Rattle.sled_core.specs.declared.iobuf.SegmentPosition.{SegmentPosition}
use Rattle.sled_core.specs.Begun.{SegmentParts, SegmentView, begin_of}
use Rattle.sled_core.specs.Buffers.{first_open_in, padding_at}
use Rattle.sled_core.specs.HeaderMark.{mark_at}
use Rattle.sled_core.specs.invariants.Caps.{segment_rest}
use Rattle.sled_core.specs.Positions.{is_short}
use Rattle.sled_core.specs.SealedBuffers.{bytes_between, seal_at, sealed_count, writing}

-- A buffer, wherever it lies: its places, where it begins in the file, its bytes, the least place of its open reservations, and the mark of its segment, where
-- it begins with that one's header.
pub record BufferAt : Type 0 where
  pub place : ℕ
  -- the place behind it
  pub end : ℕ
  pub lid : ℕ
  pub bytes : List ℕ
  pub held : Option ℕ
  pub mark : Option ℤ

-- an offset in a segment that begins there, as a place
abbrev pub placed : ℕ → Option ℕ → Option ℕ
placed base None = None
placed base (Some from) = Some (base + from)

-- the buffer of a segment between two offsets, with these reservations
abbrev pub buffer_at : SegmentPosition → List ℕ → ℕ → ℕ → List Reserved → BufferAt
buffer_at site bytes from end own = record {
  place = site.place + from;
  end = site.place + end;
  lid = site.slot + from;
  bytes = bytes_between bytes from end;
  held = placed site.place (first_open_in own);
  mark = mark_at from (bytes_between bytes from end);
}

-- the sealed buffers of a segment that aren't written, from an offset on
abbrev pub unwritten_in : SegmentPosition → List ℕ → ℕ → List Sealed → List Reserved → List BufferAt
unwritten_in site bytes from [] rs = []
unwritten_in site bytes from (b ∷ bs) rs =
    if b.is_written then unwritten_in site bytes b.end bs (drop b.count rs)
    else buffer_at site bytes from b.end (take b.count rs) ∷ unwritten_in site bytes b.end bs (drop b.count rs)

-- all of them
abbrev pub unwritten_of : SegmentParts → List BufferAt
unwritten_of s = unwritten_in s.site s.bytes s.written_len s.sealed s.reserved

-- and those of segments one behind another
abbrev pub unwritten : List SegmentView → List BufferAt
unwritten [] = []
unwritten (v ∷ vs) = unwritten_of v.parts ++ unwritten vs

-- The current buffer.

-- the segment with other bytes and reservations behind what is written, and with these buffers sealed
abbrev pub with_parts : SegmentView → List ℕ → List Sealed → List Reserved → SegmentView
with_parts v bytes sealed reserved =
    record {
      parts = record {
        site = v.parts.site;
        bytes = bytes;
        written_len = v.parts.written_len;
        filled = v.parts.filled;
        sealed = sealed;
        reserved = reserved;
      };
      gone = v.gone;
    }

-- the segment once its current buffer is sealed
abbrev pub sealed_now : SegmentView → SegmentView
sealed_now v =
    with_parts v v.parts.bytes (v.parts.sealed ++ seal_at (length v.parts.bytes) (drop (sealed_count v.parts.sealed) v.parts.reserved) ∷ []) v.parts.reserved

-- the segment of this size with what fills it behind its bytes
abbrev pub with_filling : ℕ → SegmentView → List ℕ → SegmentView
with_filling size v rest =
    let from = length v.parts.bytes in
    record {
      parts =
          record {
            site = v.parts.site;
            bytes = v.parts.bytes ++ rest;
            written_len = v.parts.written_len;
            filled = Some from;
            sealed = v.parts.sealed;
            reserved = v.parts.reserved ++ padding_at size from ∷ [];
          };
      gone = v.gone;
    }

-- the segment once it is filled to its end
abbrev pub filled_now : (List ℕ → ℕ) → ℕ → SegmentView → SegmentView
filled_now sum size v =
    if nat_lt (length v.parts.bytes) size then with_filling size v (segment_rest sum size (v.parts.site.place / size) (length v.parts.bytes)) else v

-- the segment once it is filled and sealed to its end
abbrev pub closed_now : (List ℕ → ℕ) → ℕ → SegmentView → SegmentView
closed_now sum size v = sealed_now (filled_now sum size v)

-- its current buffer holds something
abbrev pub holds_any : SegmentView → Bool
holds_any v = nat_lt (begin_of v) (length v.parts.bytes)

-- the segment as it is sealed but for want of room: to its end where no further record has room
abbrev pub turned_now : (List ℕ → ℕ) → ℕ → SegmentView → SegmentView
turned_now sum size v = if is_short size (length v.parts.bytes) then closed_now sum size v else sealed_now v

-- the segment with its current buffer as it would be sealed, where that holds anything
abbrev pub as_sealed : (List ℕ → ℕ) → ℕ → SegmentView → SegmentView
as_sealed sum size v = if holds_any v then turned_now sum size v else v

-- the last of these segments, and all of them with that one changed
abbrev pub last_of : SegmentView → List SegmentView → SegmentView
last_of v [] = v
last_of v (w ∷ ws) = last_of w ws

abbrev pub at_last : (SegmentView → SegmentView) → List SegmentView → List SegmentView
at_last f [] = []
at_last f (v ∷ []) = f v ∷ []
at_last f (v ∷ w ∷ ws) = v ∷ at_last f (w ∷ ws)

-- all buffers that aren't on the device, with the current one as it would be sealed
abbrev pub buffers_in : (List ℕ → ℕ) → ℕ → List SegmentView → List BufferAt
buffers_in sum size vs = unwritten (at_last (as_sealed sum size) vs)

-- What is written of buffers one behind another. The calls are those of a log that has a pin out; those of any log are in `specs/Ledger.antt`.

-- these, unless an open reservation holds them up
abbrev pub unless_held : {T : Type 0} → Option ℕ → List T → List T
unless_held None xs = xs
unless_held (Some place) xs = []

-- the calls that write those that begin below a place, up to the first that has an open reservation
abbrev pub writes_below : ℕ → List BufferAt → List Event
writes_below to [] = []
writes_below to (b ∷ bs) = if nat_lt b.place to then unless_held b.held (writing b.lid b.bytes (writes_below to bs)) else []

-- those buffers: at the front, below the place, up to the first that has an open reservation
abbrev pub free_below : ℕ → List BufferAt → List BufferAt
free_below to [] = []
free_below to (b ∷ bs) = if nat_lt b.place to then unless_held b.held (b ∷ free_below to bs) else []

-- a place, or else another
abbrev pub first_held : Option ℕ → Option ℕ → Option ℕ
first_held None o = o
first_held (Some place) o = Some place

-- the least place of the open reservations of those that begin below a place
abbrev pub held_below : ℕ → List BufferAt → Option ℕ
held_below to [] = None
held_below to (b ∷ bs) = if nat_lt b.place to then first_held b.held (held_below to bs) else None

-- it can be written
abbrev pub is_unheld : Option ℕ → Bool
is_unheld None = true
is_unheld (Some place) = false

-- how many of them can be written
abbrev pub pending_in : List BufferAt → ℕ
pending_in [] = 0
pending_in (b ∷ bs) = if is_unheld b.held then suc (pending_in bs) else pending_in bs

-- the calls that write the i-th of those that can be
abbrev pub write_pending : ℕ → List BufferAt → List Event
write_pending i [] = []
write_pending i (b ∷ bs) = if is_unheld b.held then (if i == 0 then writing b.lid b.bytes [] else write_pending (i - 1) bs) else write_pending i bs

-- that one, if there is one
abbrev pub one_pending : ℕ → List BufferAt → List BufferAt
one_pending i [] = []
one_pending i (b ∷ bs) = if is_unheld b.held then (if i == 0 then b ∷ [] else one_pending (i - 1) bs) else one_pending i bs

-- all of them but that one
abbrev pub without_pending : ℕ → List BufferAt → List BufferAt
without_pending i [] = []
without_pending i (b ∷ bs) = if is_unheld b.held then (if i == 0 then bs else b ∷ without_pending (i - 1) bs) else b ∷ without_pending i bs

-- a buffer has a place
abbrev pub has_place : ℕ → BufferAt → Bool
has_place at b = nat_le b.place at && nat_lt at b.end

-- the calls that write the one that has a place, where it can be written
abbrev pub write_around : ℕ → List BufferAt → List Event
write_around at [] = []
write_around at (b ∷ bs) = if has_place at b then unless_held b.held (writing b.lid b.bytes []) else write_around at bs

-- that one, where it can be
abbrev pub free_around : ℕ → List BufferAt → List BufferAt
free_around at [] = []
free_around at (b ∷ bs) = if has_place at b then unless_held b.held (b ∷ []) else free_around at bs

-- the least place of that one's open reservations
abbrev pub held_around : ℕ → List BufferAt → Option ℕ
held_around at [] = None
held_around at (b ∷ bs) = if has_place at b then b.held else held_around at bs

-- none of them has a place
abbrev pub none_around : ℕ → List BufferAt → Bool
none_around at [] = true
none_around at (b ∷ bs) = if has_place at b then false else none_around at bs

-- the first of them that has a place, if one has
abbrev pub one_around : ℕ → List BufferAt → List BufferAt
one_around at [] = []
one_around at (b ∷ bs) = if has_place at b then b ∷ [] else one_around at bs

-- all of them but that one
abbrev pub without_around : ℕ → List BufferAt → List BufferAt
without_around at [] = []
without_around at (b ∷ bs) = if has_place at b then bs else b ∷ without_around at bs

-- What is seen of a buffer: its places, and where it begins in the file.
pub record Span : Type 0 where
  pub place : ℕ
  -- the place behind it
  pub end : ℕ
  pub lid : ℕ

abbrev pub span_of : BufferAt → Span
span_of b = record { place = b.place; end = b.end; lid = b.lid }

-- so of buffers one behind another
abbrev pub spans : List BufferAt → List Span
spans bs = map span_of bs

-- where a buffer begins, in the log and in the file
pub record BufferStart : Type 0 where
  pub place : ℕ
  pub lid : ℕ

-- where the current buffer of a segment begins
abbrev pub start_in : SegmentView → BufferStart
start_in v = record { place = v.parts.site.place + begin_of v; lid = v.parts.site.slot + begin_of v }

-- a buffer's bytes are as many as its places
abbrev pub HasLength : BufferAt → Type 0
HasLength b = b.place + length b.bytes ≡ b.end

abbrev pub not_below : ℕ → List BufferAt → List BufferAt
not_below to [] = []
not_below to (b ∷ bs) = if nat_lt b.place to then not_below to bs else b ∷ bs

-- those at the front that begin below a place
abbrev pub front_below : ℕ → List BufferAt → List BufferAt
front_below to [] = []
front_below to (b ∷ bs) = if nat_lt b.place to then b ∷ front_below to bs else []
