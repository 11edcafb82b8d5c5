-- What the calls of a log make of its segments, one behind another.
use Rattle.std.specs.Prelude.{◌≡◌, ◌+◌, ◌*◌, ◌≤◌, ◌<◌, ◌==◌, ◌-◌, ◌-ℤ◌, ℕ, ℤ, pos, Bool, if◌then◌else◌, List, [], ◌∷◌, ◌++◌, length, drop, set, slice_get, take}
use Rattle.std.specs.Prelude.{nat_lt, true, false, Option, None, Some, vec_capacity}
use Rattle.std.specs.VecDeque.{deque_len, deque_capacity}
use Rattle.sled_codec.specs.Record.{short_header}
use Rattle.sled_codec.specs.Written.{written}
use Rattle.sled_store.specs.Device.{Event}
use Rattle.sled_store.specs.SegmentStates.{Machine, next_slot}
use Rattle.sled_core.specs.declared.iobuf.IoBuf.{IoBuf}
use Rattle.sled_core.specs.declared.iobuf.Reserved.{Reserved}
use Rattle.sled_core.specs.declared.iobuf.Sealed.{Sealed}
use Rattle.sled_core.specs.declared.iobuf.SegmentPosition.{SegmentPosition}
use Rattle.sled_core.specs.declared.iobuf.ReservationState.{ReservationState}
use Rattle.sled_core.specs.declared.iobuf.ReservationState.TheVariants.{Open}
use Rattle.sled_core.specs.declared.logger.Log.{Log}
use Rattle.sled_core.specs.Begun.{SegmentView, view_at}
use Rattle.sled_core.specs.inside.Buffers.{ended}
use Rattle.sled_core.specs.Buffers.{most_open, open_in, pointer_as}
use Rattle.sled_core.specs.Fits.{current_of, segment_size_of}
use Rattle.sled_core.specs.Freeing.{Ledger}
use Rattle.sled_core.specs.HeaderMark.{mark_at}
use Rattle.sled_core.specs.Ledger.{written_step}
use Rattle.sled_core.specs.inside.SealedBuffers.{behind_run, first_ready, is_ready, one_ended, run_count, run_end, written_at}
use Rattle.sled_core.specs.SealedBuffers.{bytes_between, sealed_count, sealed_end, writing}
use Rattle.sled_core.specs.declared.reservation.Reservation.{Reservation}
use Rattle.sled_core.specs.Tickets.{IsFor, index_of, len_of, place_of, pointer_of}
use Rattle.sled_core.specs.Waiting.{at_last, closed_now, last_of, with_parts}

-- the segment behind one of these, in the slot that is handed out next: its header alone, whose mark is the last stable place
abbrev pub begun_view : (List ℕ → ℕ) → ℕ → Machine → ℕ → SegmentView → SegmentView
begun_view sum size m stable v = record {
  parts = record {
    site = record { place = v.parts.site.place + size; slot = next_slot m * size };
    bytes = short_header sum (pos (v.parts.site.place + size)) (pos stable -ℤ pos 1);
    written_len = 0;
    filled = None;
    sealed = [];
    reserved = [];
  };
  gone = 0;
}

-- A further segment is begun: the one that was being filled is filled to its end and sealed.
abbrev pub next_line : (List ℕ → ℕ) → ℕ → Machine → ℕ → List SegmentView → List SegmentView
next_line sum size m stable [] = []
next_line sum size m stable (v ∷ vs) = at_last (closed_now sum size) (v ∷ vs) ++ begun_view sum size m stable (last_of v vs) ∷ []

-- a reservation stands behind what is there in a segment
abbrev pub reserved_now : List ℕ → Reserved → SegmentView → SegmentView
reserved_now more r v = with_parts v (v.parts.bytes ++ more) v.parts.sealed (v.parts.reserved ++ r ∷ [])

-- one of its reservations has ended, with these bytes over the beginning of its record
abbrev pub ended_now : ℕ → Reserved → List ℕ → ReservationState → SegmentView → SegmentView
ended_now i r ending state v = with_parts v (written v.parts.bytes r.from ending) (one_ended i v.parts.sealed) (set v.parts.reserved i (ended state r))

-- A reservation of a buffer has ended: these bytes stand over the beginning of its record, and it has this state. All else is as it was.
pub record EndsAs (index : ℕ) (how : List ℕ → Reserved → List ℕ) (state : ReservationState) (old new : IoBuf) : Type 0 where
  pub bytes : (r : Reserved) → slice_get old.reserved.items index ≡ Some r → new.bytes.items ≡ written old.bytes.items r.from (how old.bytes.items r)
  pub reserved : (r : Reserved) → slice_get old.reserved.items index ≡ Some r → new.reserved.items ≡ set old.reserved.items index (ended state r)
  pub sealed : new.sealed.items ≡ one_ended index old.sealed.items
  pub from : new.written_len ≡ old.written_len
  pub gone : new.gone ≡ old.gone
  pub filled : new.filled ≡ old.filled
  pub long : length new.bytes.items ≡ length old.bytes.items
  pub room : new.bytes.room ≡ old.bytes.room

-- one of its sealed buffers is written: those at the front that are have gone, with their reservations
abbrev pub written_now : ℕ → SegmentView → SegmentView
written_now k v =
    let now = written_at k v.parts.sealed in
    record {
      parts =
          record {
            site = v.parts.site;
            bytes = v.parts.bytes;
            written_len = run_end v.parts.written_len now;
            filled = v.parts.filled;
            sealed = behind_run now;
            reserved = drop (run_count now) v.parts.reserved;
          };
      gone = v.gone + run_count now;
    }

-- The segments without those at the front that are wholly on the device, as long as there is a further one.
abbrev pub promoted : ℕ → List SegmentView → List SegmentView
promoted size [] = []
promoted size (v ∷ []) = v ∷ []
promoted size (v ∷ w ∷ ws) = if v.parts.written_len == size then promoted size (w ∷ ws) else v ∷ w ∷ ws

-- A call changes the segments of a log alone, and how many manifests are open.
pub record ChangesLine {D C : Type 0} (old new : Log D C) : Type 0 where
  pub config : new.config ≡ old.config
  pub reserved : new.reserved_to ≡ old.reserved_to
  pub fault : new.fault.kept ≡ old.fault.kept
  pub pins : new.pins ≡ old.pins
  pub marks : new.marks ≡ old.marks
  pub accountant : new.accountant ≡ old.accountant
  pub noted : new.batches.noted.items ≡ old.batches.noted.items
  pub pool : new.pool ≡ old.pool

-- It changes the segments and the slots alone, and takes bytes of the pool.
pub record ChangesSlots {D C : Type 0} (old new : Log D C) : Type 0 where
  pub config : new.config ≡ old.config
  pub fault : new.fault.kept ≡ old.fault.kept
  pub pins : new.pins ≡ old.pins
  pub marks : new.marks ≡ old.marks
  pub noted : new.batches.noted.items ≡ old.batches.noted.items

-- A buffer takes a record of this length, and one more reservation, without memory.
pub record HasRoomIn (b : IoBuf) (len : ℕ) : Type 0 where
  pub bytes : length b.bytes.items + len + 32 ≤ b.bytes.room
  pub reserved : deque_len b.reserved < deque_capacity b.reserved
  pub few : open_in (drop (sealed_count b.sealed.items) b.reserved.items) < most_open

-- The batch of one more manifest can be noted without memory.
pub record HasRoomForBatch {D C : Type 0} (log : Log D C) : Type 0 where
  pub place : length log.batches.noted.items + log.batches.manifests < vec_capacity log.batches.noted

-- A batch is noted: that changes the noted batches alone.
pub record NotesBatch {D C : Type 0} (old new : Log D C) : Type 0 where
  pub config : new.config ≡ old.config
  pub segments : new.segments ≡ old.segments
  pub accountant : new.accountant ≡ old.accountant
  pub reserved : new.reserved_to ≡ old.reserved_to
  pub fault : new.fault.kept ≡ old.fault.kept
  pub pins : new.pins ≡ old.pins
  pub marks : new.marks ≡ old.marks
  pub manifests : new.batches.manifests ≡ old.batches.manifests
  pub pool : new.pool ≡ old.pool

-- It can be filled to the end of a segment of this size, and sealed, without memory.
pub record CanClose (b : IoBuf) (size : ℕ) : Type 0 where
  pub bytes : size + 32 ≤ b.bytes.room
  pub reserved : deque_len b.reserved < deque_capacity b.reserved
  pub sealed : deque_len b.sealed < deque_capacity b.sealed

-- The buffer of a segment that begins there, with its header alone, whose mark is the place before this one.
pub record IsBegunView (sum : List ℕ → ℕ) (site : SegmentPosition) (stable : ℕ) (b : IoBuf) : Type 0 where
  pub view : view_at site b
      ≡ record {
        parts = record {
          site = site;
          bytes = short_header sum (pos site.place) (pos stable -ℤ pos 1);
          written_len = 0;
          filled = None;
          sealed = [];
          reserved = [];
        };
        gone = 0;
      }

-- A record of this length has a place in the segment that is being filled.
pub record HasPlace {D C : Type 0} (log : Log D C) (len : ℕ) : Type 0 where
  pub header : length (current_of log).parts.bytes + 32 ≤ segment_size_of log
  pub record_fits : length (current_of log).parts.bytes + len ≤ segment_size_of log

-- the ticket is for what is reserved next behind all bytes of that segment, with a record of this length, and with this blob, if it has one
pub record IsTicketFor {D C : Type 0} (log : Log D C) (ticket : Reservation) (blob : Option ℤ) (len : ℕ) : Type 0 where
  pub index : index_of ticket ≡ (current_of log).gone + length (current_of log).parts.reserved
  pub place : place_of ticket ≡ pos ((current_of log).parts.site.place + length (current_of log).parts.bytes)
  pub pointer : pointer_of ticket ≡ pointer_as blob ((current_of log).parts.site.slot + length (current_of log).parts.bytes)
  pub long : len_of ticket ≡ len

-- A reservation of a segment is open, by their numbers.
pub record HasOpenIn (line : List SegmentView) (n index : ℕ) : Type 0 where
  pub segment : SegmentView
  pub among : slice_get line n ≡ Some segment
  pub reserved : Reserved
  pub numbered : segment.gone ≤ index
  pub there : slice_get segment.parts.reserved (index - segment.gone) ≡ Some reserved
  pub open_yet : reserved.state ≡ Open

-- A ticket is for an open reservation of this segment.
pub record IsOpenIn (site : SegmentPosition) (b : IoBuf) (ticket : Reservation) : Type 0 where
  pub reserved : Reserved
  pub numbered : b.gone ≤ index_of ticket
  pub there : slice_get b.reserved.items (index_of ticket - b.gone) ≡ Some reserved
  pub own : IsFor site reserved ticket

-- A sealed buffer of a segment can be written, by their numbers.
pub record IsReadyIn (line : List SegmentView) (n k : ℕ) : Type 0 where
  pub segment : SegmentView
  pub among : slice_get line n ≡ Some segment
  pub buffer : Sealed
  pub there : slice_get segment.parts.sealed k ≡ Some buffer
  pub ready : is_ready buffer ≡ true

-- where the k-th sealed buffer of a segment begins, and where it ends
abbrev pub begin_at : SegmentView → ℕ → ℕ
begin_at v k = sealed_end v.parts.written_len (take k v.parts.sealed)

-- the calls that write it and settle it
abbrev pub write_of : ℕ → Option SegmentView → List Event
write_of k None = []
write_of k (Some v) = writing (v.parts.site.slot + begin_at v k) (bytes_between v.parts.bytes (begin_at v k) (begin_at v (k + 1))) []

abbrev pub write_in : List SegmentView → ℕ → ℕ → List Event
write_in line n k = write_of k (slice_get line n)

-- the mark of the segment, where that buffer begins with its header
abbrev pub mark_of : ℕ → SegmentView → Option ℤ
mark_of k v = mark_at (begin_at v k) (bytes_between v.parts.bytes (begin_at v k) (begin_at v (k + 1)))

-- the calls that write that buffer and settle it, with those of the accountant's step behind it
abbrev pub writing_of : ℕ → Ledger → ℕ → Option SegmentView → List Event
writing_of size l k None = []
writing_of size l k (Some v) = write_of k (Some v) ++ (written_step size (mark_of k v) l).calls

abbrev pub writing_in : ℕ → Ledger → List SegmentView → ℕ → ℕ → List Event
writing_in size l line n k = writing_of size l k (slice_get line n)

-- the first sealed buffer of the first segment begins below a place, and can be written
abbrev pub ready_below : List SegmentView → ℕ → Bool
ready_below [] to = false
ready_below (v ∷ vs) to = if nat_lt (v.parts.site.place + v.parts.written_len) to then first_ready v.parts.sealed else false

-- A call changes the slots of a log, its device, and the failure that it keeps, alone.
pub record FreesSlots {D C : Type 0} (old new : Log D C) : Type 0 where
  pub config : new.config.config ≡ old.config.config
  pub checksum : new.config.checksum ≡ old.config.checksum
  pub segments : new.segments ≡ old.segments
  pub reserved : new.reserved_to ≡ old.reserved_to
  pub pins : new.pins ≡ old.pins
  pub marks : new.marks ≡ old.marks
  pub batches : new.batches ≡ old.batches
  pub pool : new.pool ≡ old.pool

-- A call changes the device of a log, and the failure that it keeps, alone.
pub record ChangesDevice {D C : Type 0} (old new : Log D C) : Type 0 where
  pub config : new.config.config ≡ old.config.config
  pub checksum : new.config.checksum ≡ old.config.checksum
  pub segments : new.segments ≡ old.segments
  pub reserved : new.reserved_to ≡ old.reserved_to
  pub pins : new.pins ≡ old.pins
  pub marks : new.marks ≡ old.marks
  pub accountant : new.accountant ≡ old.accountant
  pub batches : new.batches ≡ old.batches
  pub pool : new.pool ≡ old.pool
