-- What was completed, and what it makes of the pages. Lists alone: no buffer, file or byte of the disk.
use Rattle.std.specs.Prelude.{◌≡◌, ◌⊎◌, ◌≤◌, ◌<◌, ◌+◌, ℕ, Bool, true, false, ◌&&◌, nat_lt, ◌==◌, List, [], ◌∷◌, ◌++◌, filter, Contains, Option, None, Some}
use Rattle.std.specs.Prelude.{if◌then◌else◌}
use Rattle.sled_codec.specs.declared.result.DiskPtr.{DiskPtr}
use Rattle.sled_codec.specs.declared.serialization.message.LogKind.{LogKind}
use Rattle.sled_codec.specs.declared.serialization.message.LogKind.TheVariants.{Replace, Link, Free, Skip, Corrupted}

-- A completed message: what it does to its page, where its record begins in the log and on the disk, how long the record is, and the item's spelling.
pub record Message : Type 0 where
  pub kind : LogKind
  pub page : ℕ
  pub place : ℕ
  pub pointer : DiskPtr
  pub size : ℕ
  pub bytes : List ℕ

-- A batch runs from the place of its manifest to its peg, both included.
pub record Batch : Type 0 where
  pub low : ℕ
  pub peg : ℕ

-- The completed messages by place, the lowest first, and the batches.
pub record History : Type 0 where
  pub messages : List Message
  pub batches : List Batch

abbrev pub no_history : History
no_history = record { messages = []; batches = [] }

-- Tables.

-- the message gives its page a new beginning
abbrev pub begins_page : LogKind → Bool
begins_page Replace = true
begins_page Free = true
begins_page Link = false
begins_page Skip = false
begins_page Corrupted = false

abbrev pub is_replace : LogKind → Bool
is_replace Replace = true
is_replace Link = false
is_replace Free = false
is_replace Skip = false
is_replace Corrupted = false

abbrev pub is_link : LogKind → Bool
is_link Link = true
is_link Replace = false
is_link Free = false
is_link Skip = false
is_link Corrupted = false

-- the messages of a page below a cut
unfoldable pub of_page : List Message → ℕ → ℕ → List Message
of_page messages cut page = filter (λ m. (m.page == page) && nat_lt m.place cut) messages

-- the later one, where there is one
abbrev pub later_or : Option Message → Option Message → Option Message
later_or None earlier = earlier
later_or (Some later) earlier = Some later

-- the last message that gives its page a new beginning
abbrev pub last_beginning : List Message → Option Message
last_beginning [] = None
last_beginning (m ∷ ms) = later_or (last_beginning ms) (if begins_page m.kind then Some m else None)

-- that message, and where it is a Replace also the Links of greater place, in order
abbrev pub entries_from : Option Message → List Message → List Message
entries_from None ms = []
entries_from (Some base) ms = base ∷ (if is_replace base.kind then filter (λ m. is_link m.kind && nat_lt base.place m.place) ms else [])

-- what the messages of one page make of it: no entry where the page was never begun, one Free where it was given back, else its Replace and the Links on it
unfoldable pub page_state : List Message → List Message
page_state ms = entries_from (last_beginning ms) ms

-- The table below a cut: for each page its last Replace or Free of lower place, and behind a Replace the page's Links of greater place.
unfoldable pub table : History → ℕ → ℕ → List Message
table H cut page = page_state (of_page H.messages cut page)

-- the pages of that table: those with a Replace below the cut
pub record HasPage (H : History) (cut page : ℕ) : Type 0 where
  pub message : Message
  pub there : Contains (of_page H.messages cut page) message
  pub replaces : message.kind ≡ Replace

-- Cuts.

-- The cut splits no batch and no message: a batch that begins below it ends below it, and a message that begins below it ends there at most.
pub record CutFits (H : History) (cut : ℕ) : Type 0 where
  pub batches : (b : Batch) → Contains H.batches b → b.low < cut → b.peg < cut
  pub messages : (m : Message) → Contains H.messages m → m.place < cut → m.place + m.size ≤ cut

-- what lies below a cut
unfoldable pub below : History → ℕ → History
below H cut = record { messages = filter (λ m. nat_lt m.place cut) H.messages; batches = filter (λ b. nat_lt b.low cut) H.batches }

-- Steps.

-- What may happen to a history. Whatever else is called or befalls the device changes nothing.
pub data HistoryEvent : Type 0 where
  -- a message was completed
  Completed : (m : Message) → HistoryEvent
  -- a batch was ended, with a peg above its own place
  Batched : (b : Batch) → HistoryEvent
  -- a recovery succeeded, with this cut
  Recovered : (cut : ℕ) → HistoryEvent
  -- an abort, a refusal, a write, a read, a mark, a halt, a crash, a recovery that failed
  Nothing : HistoryEvent

-- the kind is one that changes a page
abbrev pub ChangesPage : LogKind → Type 0
ChangesPage kind = (kind ≡ Replace) ⊎ (kind ≡ Link) ⊎ (kind ≡ Free)

-- a message that changes a page is put in at its place
pub record AddsMessage (H : History) (m : Message) (H' : History) : Type 0 where
  pub changes : ChangesPage m.kind
  pub before : List Message
  pub after : List Message
  pub old : H.messages ≡ before ++ after
  pub new : H'.messages ≡ before ++ m ∷ after
  pub lower : (x : Message) → Contains before x → x.place < m.place
  pub higher : (x : Message) → Contains after x → m.place < x.place
  pub batches : H'.batches ≡ H.batches

-- a batch is noted, whose peg lies above its own place
pub record AddsBatch (H : History) (b : Batch) (H' : History) : Type 0 where
  pub pegged : b.low < b.peg
  pub messages : H'.messages ≡ H.messages
  pub batches : H'.batches ≡ H.batches ++ b ∷ []

-- One history becomes another by this happening.
unfoldable pub Step : History → HistoryEvent → History → Type 0
Step H (Completed m) H' = AddsMessage H m H'
Step H (Batched b) H' = AddsBatch H b H'
Step H (Recovered cut) H' = H' ≡ below H cut
Step H Nothing H' = H' ≡ H

-- A run is a list of steps, the first one first.
unfoldable pub Run : History → List HistoryEvent → History → Type 0
Run H [] H' = H' ≡ H
Run H (h ∷ hs) H' = (mid : History) × Step H h mid × Run mid hs H'
