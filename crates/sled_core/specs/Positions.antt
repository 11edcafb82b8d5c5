-- Where the next record of a log begins, and where that leads.
use Rattle.std.specs.Prelude.{◌+◌, ◌-◌, ◌*◌, ◌/◌, nat_lt, ℕ, Bool, if◌then◌else◌, length}
use Rattle.sled_store.specs.SegmentStates.{Machine, handed_out, next_slot}
use Rattle.sled_core.specs.Begun.{SegmentView}
use Rattle.sled_core.specs.Buffers.{record_size}

-- Where the next record may begin: its place, where its segment begins in the log and where that segment's slot does in the file, and which slots are left
-- behind that one.
pub record Position : Type 0 where
  pub place : ℕ
  pub begins : ℕ
  pub slot : ℕ
  pub machine : Machine

-- behind the header of the segment behind the one that begins there
abbrev pub next_segment_at : ℕ → ℕ → Machine → Position
next_segment_at size begins m = record { place = begins + size + 20; begins = begins + size; slot = next_slot m * size; machine = handed_out (begins + size) m }

-- the same behind the segment of a position
abbrev pub moved_on : ℕ → Position → Position
moved_on size q = next_segment_at size q.begins q.machine

-- An offset of a segment leaves no room for a record: the longest header has 32 bytes.
abbrev pub is_short : ℕ → ℕ → Bool
is_short size offset = nat_lt size (offset + 32)

-- where a record of a page's message with an item of n bytes begins: right there, where it fits into the segment, and else in the next one
abbrev pub placed_at : ℕ → Position → ℕ → ℕ → Position
placed_at size q page n = if nat_lt size (q.place - q.begins + record_size (q.begins / size) page n) then moved_on size q else q

-- how long that record is
abbrev pub size_at : ℕ → Position → ℕ → ℕ → ℕ
size_at size q page n = record_size ((placed_at size q page n).begins / size) page n

-- where it lies in the log file
abbrev pub lid_at : Position → ℕ
lid_at q = q.slot + (q.place - q.begins)

-- where the next record may begin behind one of this length
abbrev pub behind_record : ℕ → Position → ℕ → Position
behind_record size q len =
    if is_short size (q.place - q.begins + len) then moved_on size q
    else record { place = q.place + len; begins = q.begins; slot = q.slot; machine = q.machine }

-- where the next record may begin behind all bytes of the segment that is being filled, with slots left as this machine has them
abbrev pub position_in : ℕ → SegmentView → Machine → Position
position_in size v m =
    if is_short size (length v.parts.bytes) then next_segment_at size v.parts.site.place m
    else record { place = v.parts.site.place + length v.parts.bytes; begins = v.parts.site.place; slot = v.parts.site.slot; machine = m }
