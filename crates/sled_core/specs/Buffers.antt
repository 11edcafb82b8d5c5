-- The current buffer: which records and which placeholders stand in it, and which messages these are.
use Rattle.std.specs.Prelude.{suc, ◌+◌, ◌-◌, ℕ, Bool, true, false, if◌then◌else◌, List, [], ◌∷◌, length, Option, None, Some, ℤ}
use Rattle.sled_codec.specs.declared.result.DiskPtr.{DiskPtr}
use Rattle.sled_codec.specs.declared.result.DiskPtr.TheVariants.{Inline, Blob}
use Rattle.sled_codec.specs.declared.serialization.message.LogKind.TheVariants.{Skip}
use Rattle.sled_codec.specs.declared.serialization.message.MessageKind.TheVariants as kind
use Rattle.sled_codec.specs.Spelling.{short_number}
use Rattle.sled_codec.specs.Places.{part}
use Rattle.sled_codec.specs.History.{Message}
use Rattle.sled_core.specs.declared.iobuf.ReservationState.{ReservationState}
use Rattle.sled_core.specs.declared.iobuf.ReservationState.TheVariants.{Open, Completed, Canceled, Manifest, Padding}
use Rattle.sled_core.specs.declared.iobuf.Reserved.{Reserved}
use Rattle.sled_core.specs.declared.iobuf.SegmentPosition.{SegmentPosition}

-- neither completed nor aborted
abbrev pub open_state : ReservationState → Bool
open_state Open = true
open_state Completed = false
open_state Canceled = false
open_state Manifest = false
open_state Padding = false

-- what fills a segment, and is no reservation
abbrev pub padding_state : ReservationState → Bool
padding_state Padding = true
padding_state _ = false

-- those behind the header of its record
abbrev pub body_in : List ℕ → Reserved → List ℕ
body_in bytes r = part bytes (r.from + r.header_len) (r.len - r.header_len)

-- Where the item of a message is in a blob of a place, if in one: where the message lies whose record begins at an offset, what the log has of its item,
-- whose place the record's body spells then.

abbrev pub pointer_as : Option ℤ → ℕ → DiskPtr
pointer_as None lid = Inline lid
pointer_as (Some place) lid = Blob lid place

abbrev pub item_as : Option ℤ → List ℕ → List ℕ
item_as None body = body
item_as (Some place) body = []

-- the message that it is for, as a log has it that has a segment there
abbrev pub message_in : SegmentPosition → List ℕ → Reserved → Message
message_in site bytes r =
    record {
      kind = r.log_kind;
      page = r.page;
      place = site.place + r.from;
      pointer = pointer_as r.blob (site.slot + r.from);
      size = r.len;
      bytes = item_as r.blob (body_in bytes r);
    }

-- the entry of what fills a segment of this size from an offset on
abbrev pub padding_at : ℕ → ℕ → Reserved
padding_at size from =
    record { from = from; header_len = 0; len = size - from; log_kind = Skip; kind = kind.Cap; page = 0; sum = 0; blob = None; state = Padding }

-- none of them is open
abbrev pub none_open : List Reserved → Bool
none_open [] = true
none_open (r ∷ rs) = if open_state r.state then false else none_open rs

-- how many of them are open
abbrev pub open_in : List Reserved → ℕ
open_in [] = 0
open_in (r ∷ rs) = if open_state r.state then suc (open_in rs) else open_in rs

-- where the first one that is open begins in its segment
abbrev pub first_open_in : List Reserved → Option ℕ
first_open_in [] = None
first_open_in (r ∷ rs) = if open_state r.state then Some r.from else first_open_in rs

-- how many reservations of a buffer may be open
abbrev pub most_open : ℕ
most_open = 127

-- how long the record is of a page's message with an item of n bytes, in a segment of this number
abbrev pub record_size : ℕ → ℕ → ℕ → ℕ
record_size number page n = 5 + length (short_number n) + length (short_number number) + length (short_number page) + n
