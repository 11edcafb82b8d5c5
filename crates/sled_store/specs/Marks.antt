-- What truthful marks make of the segments: each message of a history is completed and marked at once, in place of all that its page was made of.
use Rattle.std.specs.Prelude.{◌≡◌, ◌==◌, ◌&&◌, ◌+◌, ◌*◌, ◌/◌, ◌%◌, ◌<◌, ◌≤◌, ℕ, ℤ, pos, negsuc, max, Bool, true, false, not, nat_lt, if◌then◌else◌, List, []}
use Rattle.std.specs.Prelude.{map, Some, Contains}
use Rattle.std.specs.List.{list_any, sum_by}
use Rattle.sled_codec.specs.declared.serialization.message.LogKind.TheVariants.{Link}
use Rattle.sled_codec.specs.History.{Message, Batch, History, no_history, begins_page, table, AddsMessage, AddsBatch}
use Rattle.sled_codec.specs.Pointers.{lid_of}
use Rattle.sled_codec.specs.Snapshots.{Entry}
use Rattle.sled_store.specs.SegmentStates.{SlotState, Machine, unused_machine, is_free, slot_at, handed_out, LiesIn, MayMark, linked, replaced, stabilized}
use Rattle.sled_store.specs.SegmentStates.{popped}
use Rattle.sled_store.specs.declared.segment.slot.CacheInfo.{CacheInfo}

-- what a segment is told of a message
abbrev pub info_of : Message → CacheInfo
info_of m = record { lsn = pos m.place; pointer = m.pointer; log_size = m.size }

-- what it is told of it but for its length
abbrev pub unsized : CacheInfo → CacheInfo
unsized i = record i { log_size = 0 }

-- what it is told of an entry of a page table
abbrev pub told_of : Entry → CacheInfo
told_of e = record { lsn = e.0; pointer = e.1; log_size = e.2 }

-- the slot that a message lies in
abbrev pub slot_with : ℕ → Message → ℕ
slot_with size m = lid_of m.pointer / size

-- the cut lies above all messages
abbrev pub IsPast : History → ℕ → Type 0
IsPast H cut = (m : Message) → Contains H.messages m → m.place < cut

-- the place of a new segment is a multiple of the size, and above those of all segments
pub record IsNewPlace (size place : ℕ) (m : Machine) : Type 0 where
  pub aligned : place % size ≡ 0
  pub above : (k : ℕ) → is_free (slot_at m k).state ≡ false → (slot_at m k).lsn < place

-- A message is completed behind the earlier ones of its page.
pub record Completes (H : History) (m : Message) (H' : History) : Type 0 where
  pub adds : AddsMessage H m H'
  pub newest : (x : Message) → Contains H.messages x → x.page ≡ m.page → x.place < m.place

-- the old messages of a page: all that it is made of
pub record IsFormerState (H : History) (page : ℕ) (old : List CacheInfo) : Type 0 where
  pub cut : ℕ
  pub past : IsPast H cut
  pub is : old ≡ map info_of (table H cut page)

-- the same, whatever lengths are told of them
pub record IsFormerList (H : History) (page : ℕ) (old : List CacheInfo) : Type 0 where
  pub cut : ℕ
  pub past : IsPast H cut
  pub is : map unsized old ≡ map (λ m. unsized (info_of m)) (table H cut page)

-- the greatest mark so far, where one more is given
abbrev pub greatest_mark : ℕ → ℤ → ℕ
greatest_mark mark (pos next) = max mark next
greatest_mark mark (negsuc next) = mark

-- A machine is what truthful marks of all messages of a history made of an unused log; the greatest mark that was stabilized is this one.
pub data Marked (size : ℕ) : ℕ → History → Machine → Type 0 where
  unused : 0 < size → Marked size 0 no_history unused_machine
  -- a slot is handed out for the segment at this place
  hands_out : {mark : ℕ} {H : History} {m : Machine} (place : ℕ) → Marked size mark H m → IsNewPlace size place m
      → Marked size mark H (handed_out place m)
  -- a Link is completed, and linked to the active segment that it lies in
  links : {mark : ℕ} {H : History} {m : Machine} (x : Message) (H' : History) → Marked size mark H m
      → Completes H x H' → x.kind ≡ Link → MayMark size m (info_of x) [] → Marked size mark H' (linked size x.page (info_of x) m)
  -- a Replace or a Free is completed, and marked in place of the page's former state
  replaces : {mark : ℕ} {H : History} {m : Machine} (x : Message) (old : List CacheInfo) (H' : History) → Marked size mark H m
      → Completes H x H' → begins_page x.kind ≡ true → IsFormerState H x.page old → MayMark size m (info_of x) []
      → Marked size mark H' (replaced size x.page (info_of x) old m)
  -- a batch is noted, which no segment hears of
  batches : {mark : ℕ} {H : History} {m : Machine} (b : Batch) (H' : History) → Marked size mark H m → AddsBatch H b H' → Marked size mark H' m
  -- all below a mark is stable
  stabilizes : {mark : ℕ} {H : History} {m : Machine} (next : ℤ) → Marked size mark H m
      → Marked size (greatest_mark mark next) H (stabilized size next m).machine
  -- the cleaner is asked for a page
  pops : {mark : ℕ} {H : History} {m : Machine} → Marked size mark H m
      → Marked size mark H (record { slots = m.slots; tip = m.tip; cleaner = popped m.cleaner })

-- the segment at a place is needed below a cut: an entry of the table lies in it
pub record IsNeeded (size : ℕ) (H : History) (cut place : ℕ) : Type 0 where
  pub page : ℕ
  pub entry : Message
  pub there : Contains (table H cut page) entry
  pub within : entry.place / size * size ≡ place

-- the segment at a place is in this slot
pub record IsIn (m : Machine) (k place : ℕ) : Type 0 where
  pub taken : is_free (slot_at m k).state ≡ false
  pub lsn : (slot_at m k).lsn ≡ place

-- A message is linked: its slot holds its segment, and has its page.
pub record IsLinked (size : ℕ) (m : Machine) (e : Message) : Type 0 where
  pub lies : LiesIn size m (info_of e)
  pub page : Contains (slot_at m (slot_with size e)).pages e.page

-- A message is counted: it is linked, and no message in another segment has replaced its page there.
pub record IsCounted (size : ℕ) (m : Machine) (e : Message) : Type 0 where
  pub linked : IsLinked size m e
  pub not_gone : Contains (slot_at m (slot_with size e)).gone e.page → ⊥

-- no later one of these messages gives its page a new beginning
abbrev pub is_standing : List Message → Message → Bool
is_standing ms e = not (list_any (λ x. (x.page == e.page) && (begins_page x.kind && nat_lt e.place x.place)) ms)

-- what the messages of a slot sum up to that stand
abbrev pub standing_size : ℕ → History → ℕ → ℕ
standing_size size H k = sum_by (λ e. if is_standing H.messages e && (slot_with size e == k) then e.size else 0) H.messages

-- A later message gives the page of this one a new beginning, in a segment that ends at or below this place.
pub record IsSuperseded (size place : ℕ) (H : History) (e : Message) : Type 0 where
  pub message : Message
  pub there : Contains H.messages message
  pub same_page : message.page ≡ e.page
  pub begins : begins_page message.kind ≡ true
  pub later : e.place < message.place
  pub ends : message.place / size * size + size ≤ place

-- A message in a later segment gives a page of this segment a new beginning, and the place that is noted isn't below that segment's.
pub record HasReplacement (size : ℕ) (H : History) (s : SlotState) (page : ℕ) : Type 0 where
  pub message : Message
  pub there : Contains H.messages message
  pub same_page : message.page ≡ page
  pub begins : begins_page message.kind ≡ true
  pub later : s.lsn < message.place / size * size
  pub latest : ℕ
  pub noted : s.latest ≡ Some latest
  pub within : message.place / size * size ≤ latest
