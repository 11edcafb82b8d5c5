-- The marks of a session: each message is marked once it is completed, a Link as it is, and what begins its page in place of all that the page was; and each
-- ticket has its pin until then.
use Rattle.std.specs.Prelude.{◌/◌, ℕ, pos, nat_lt, unsigned_abs, if◌then◌else◌, List, [], ◌∷◌, map, Option, None, Some}
use Rattle.sled_codec.specs.declared.serialization.message.LogKind.{LogKind}
use Rattle.sled_codec.specs.declared.serialization.message.LogKind.TheVariants as does
use Rattle.sled_codec.specs.History.{History, Message}
use Rattle.sled_codec.specs.declared.serialization.snapshot.PageState.{PageState}
use Rattle.sled_codec.specs.Snapshots.{Free, Page, Present, Uninitialized, page_of}
use Rattle.sled_store.specs.Marks.{info_of, told_of}
use Rattle.sled_store.specs.SegmentStates.{Machine, linked, replaced}
use Rattle.sled_store.specs.declared.segment.slot.CacheInfo.{CacheInfo}
use Rattle.sled_core.specs.Buffers.{record_size}
use Rattle.sled_core.specs.LogStatus.{unpinned, with_slots}
use Rattle.sled_log.specs.RunStates.{DueMark, LogView, RunState, page_now}

-- How long the record of a Free is: a header alone. Of one from before a restart a recovery doesn't tell, and it counts as 32.
abbrev pub free_length : ℕ → ℕ → ℕ → ℕ → ℕ
free_length size floor page place = if nat_lt place floor then 32 else record_size (place / size) page 0

-- what the log is told of a message of this kind that is replaced
abbrev pub told_by : ℕ → ℕ → LogKind → Message → CacheInfo
told_by size floor does.Free m = record { lsn = pos m.place; pointer = m.pointer; log_size = free_length size floor m.page m.place }
told_by size floor kind m = info_of m

abbrev pub told_message : ℕ → ℕ → Message → CacheInfo
told_message size floor m = told_by size floor m.kind m

-- and of all that a page is
abbrev pub told_page : ℕ → ℕ → ℕ → Page → List CacheInfo
told_page size floor page (Present base frags) = told_of base ∷ map told_of frags
told_page size floor page (Free place pointer) =
    record { lsn = place; pointer = pointer; log_size = free_length size floor page (unsigned_abs place) } ∷ []
told_page size floor page Uninitialized = []

-- so of a page that is in the table, or isn't
abbrev pub told_state : ℕ → ℕ → ℕ → Option PageState → List CacheInfo
told_state size floor page None = []
told_state size floor page (Some s) = told_page size floor page (page_of s)

-- what a message of this kind takes the place of: all that its page was, or nothing, where it is a Link
abbrev pub replacing : LogKind → List CacheInfo → List CacheInfo
replacing does.Link old = []
replacing kind old = old

-- the mark of a message that is completed
abbrev pub mark_for : ℕ → ℕ → History → Message → DueMark
mark_for size floor H m =
    record { kind = m.kind; page = m.page; old = replacing m.kind (map (told_message size floor) (page_now H m.page)); new = info_of m }

-- what a mark of this kind makes of the slots
abbrev pub slots_after : ℕ → LogKind → DueMark → Machine → Machine
slots_after size does.Link d m = linked size d.page d.new m
slots_after size kind d m = replaced size d.page d.new d.old m

abbrev pub slots_marked : ℕ → DueMark → Machine → Machine
slots_marked size d m = slots_after size d.kind d m

-- a log with one pin less
abbrev pub without_pin : LogView → LogView
without_pin l = record l { status = unpinned l.status }

-- A log once a mark is made, whose pin goes back. Where its next record may begin has the slots behind it, and so those that the mark left.
abbrev pub marking : ℕ → DueMark → LogView → LogView
marking size d l = without_pin (record l { status = with_slots size (slots_marked size d l.status.machine) l.status })

-- the run goes on from there, with none due
abbrev pub marking_in : ℕ → DueMark → Option LogView → Option LogView
marking_in size d None = None
marking_in size d (Some l) = Some (marking size d l)

abbrev pub with_mark : ℕ → RunState → DueMark → RunState
with_mark size a d = record a { log = marking_in size d a.log; due = None }
