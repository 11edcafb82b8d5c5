-- What the log has of messages and histories: the same messages in the same order, with the same tables, but for items that blobs have.
use Rattle.std.proofs.Common.{◌≡◌, ◌∙◌, ◌+◌, ◌<◌, ◌≤◌, ◌&&◌, ◌==◌, nat_lt, if◌then◌else◌, max, ℕ, pos, Bool, true, false, List, [], ◌∷◌, ◌++◌, map, Option, Some, None, refl, sym, ap, subst}
use Rattle.std.specs.List.{All, Contains, filter}
use Rattle.std.proofs.lemmas.List.{map-append}
use Rattle.std.proofs.lemmas.List.Elements.{All-contains, All-map}
use Rattle.sled_codec.specs.declared.result.DiskPtr.{DiskPtr}
use Rattle.sled_codec.specs.declared.result.DiskPtr.TheVariants.{Inline, Blob}
use Rattle.sled_codec.specs.History.{Message, Batch, History, AddsMessage, AddsBatch, begins_page, entries_from, is_link, is_replace, last_beginning, later_or, of_page, page_state, table}
use Rattle.sled_codec.specs.PageTables.{entry_of, page_with}
use Rattle.sled_codec.specs.Snapshots.{Entry, Page, Present, Free}
use Rattle.sled_codec.specs.WellFormed.{LieApart}
use Rattle.sled_store.proofs.Histories.Ascending.{Ascends}
use Rattle.sled_store.proofs.Marks.DeactivationSteps.{from_map}
use Rattle.sled_store.proofs.Segments.Elements.{all_from_in, in_map}
use Rattle.sled_core.specs.Fits.{EndBelow}
use Rattle.sled_core.specs.Logged.{in_log, item_in_log, logged}
use Rattle.sled_core.specs.Reading.{BlobIsBelow}
use Rattle.sled_core.specs.Running.{end_below, last_batch, last_message}

-- One message.

-- a message with another item
abbrev with_item : Message → List ℕ → Message
with_item m item = record { kind = m.kind; page = m.page; place = m.place; pointer = m.pointer; size = m.size; bytes = item }

-- what the log has of an item it has of what it has
item_twice : (p : DiskPtr) (item : List ℕ) → item_in_log p (item_in_log p item) ≡ item_in_log p item
item_twice (Inline lid) item = refl
item_twice (Blob lid place) item = refl

-- so it is with a message
pub in_log_twice : (m : Message) → in_log (in_log m) ≡ in_log m
in_log_twice m = ap (with_item m) (item_twice m.pointer m.bytes)

-- of a message that has its item in its record the log has all
pub inline_same : (m : Message) (lid : ℕ) → m.pointer ≡ Inline lid → in_log m ≡ m
inline_same m lid inline = ap (λ (p : DiskPtr). with_item m (item_in_log p m.bytes)) inline

-- so what is alike to such a message is the message
pub inline_alike : (m n : Message) (lid : ℕ) → in_log n ≡ in_log m → m.pointer ≡ Inline lid → n ≡ m
inline_alike m n lid same inline = sym (inline_same n lid (ap (λ (x : Message). x.pointer) same ∙ inline)) ∙ same ∙ inline_same m lid inline

-- a blob that lies no higher than its message lies no higher than what the log has of it
pub below_in_log : (m : Message) → BlobIsBelow m m.pointer → BlobIsBelow (in_log m) m.pointer
below_in_log m below = by m.pointer below where
  by : (p : DiskPtr) → BlobIsBelow m p → BlobIsBelow (in_log m) p
  by (Inline lid) low = tt
  by (Blob lid place) low = low

-- Lists of messages.

-- what is so of all that the log has is so of what it has of each
pub all_in_log : (P : Message → Type 0) (ms : List Message) → All P (map in_log ms) → All (λ m. P (in_log m)) ms
all_in_log P ms all = all_from_in (λ m. P (in_log m)) ms (λ m there. All-contains P (map in_log ms) (in_log m) all (in_map in_log ms m there))

-- what the log has of messages it has of what it has
list_twice : (ms : List Message) → map in_log (map in_log ms) ≡ map in_log ms
list_twice [] = refl
list_twice (m ∷ ms) = let rest = list_twice ms in λ i. in_log_twice m i ∷ rest i

-- they lie apart in the log where the messages do
pub list_apart_logged : (ms : List Message) → LieApart ms → LieApart (map in_log ms)
list_apart_logged [] apart = tt
list_apart_logged (m ∷ ms) apart = (apart.0, All-map (λ (n : Message). m.place + m.size ≤ n.place) in_log ms apart.1, list_apart_logged ms apart.2)

-- and the other way round
pub list_logged_apart : (ms : List Message) → LieApart (map in_log ms) → LieApart ms
list_logged_apart [] apart = tt
list_logged_apart (m ∷ ms) apart = (apart.0, all_in_log (λ (n : Message). m.place + m.size ≤ n.place) ms apart.1, list_logged_apart ms apart.2)

-- and ascend where they do
pub list_ascends_logged : (ms : List Message) → Ascends ms → Ascends (map in_log ms)
list_ascends_logged [] order = tt
list_ascends_logged (m ∷ ms) order = (All-map (λ (n : Message). m.place < n.place) in_log ms order.0, list_ascends_logged ms order.1)

-- and the other way round
pub list_logged_ascends : (ms : List Message) → Ascends (map in_log ms) → Ascends ms
list_logged_ascends [] order = tt
list_logged_ascends (m ∷ ms) order = (all_in_log (λ (n : Message). m.place < n.place) ms order.0, list_logged_ascends ms order.1)

-- What the log has of a list in two parts it has of the parts.
record SplitsInto (ms xs ys : List Message) : Type 0 where
  before : List Message
  after : List Message
  is : ms ≡ before ++ after
  first : map in_log before ≡ xs
  second : map in_log after ≡ ys

-- so it splits where the other one does
split_logged : (ms xs ys : List Message) → map in_log ms ≡ xs ++ ys → SplitsInto ms xs ys
split_logged ms [] ys is = record { before = []; after = ms; is = refl; first = refl; second = is }
split_logged [] (x ∷ xs) ys is = absurd (let clash : [] ≡ x ∷ (xs ++ ys) = is in cc)
split_logged (m ∷ ms) (x ∷ xs) ys is =
    let head : in_log m ≡ x = cc in
    let tail : map in_log ms ≡ xs ++ ys = cc in
    let rest = split_logged ms xs ys tail in
    record { before = m ∷ rest.before; after = rest.after; is = ap (λ (l : List Message). m ∷ l) rest.is; first = λ i. head i ∷ rest.first i; second = rest.second }

-- Tables.

-- a test that sees no item keeps the same messages
filter_logged : (test : Message → Bool) → ((m : Message) → test (in_log m) ≡ test m) → (ms : List Message) → filter test (map in_log ms) ≡ map in_log (filter test ms)
filter_logged test same [] = refl
filter_logged test same (m ∷ ms) = ap (λ (b : Bool). if b then in_log m ∷ filter test (map in_log ms) else filter test (map in_log ms)) (same m) ∙ by (test m) (filter_logged test same ms) where
  by : (b : Bool) → filter test (map in_log ms) ≡ map in_log (filter test ms)
      → (if b then in_log m ∷ filter test (map in_log ms) else filter test (map in_log ms)) ≡ map in_log (if b then m ∷ filter test ms else filter test ms)
  by true rest = ap (λ (l : List Message). in_log m ∷ l) rest
  by false rest = rest

-- what the log has of a message, where there is one
abbrev maybe_in_log : Option Message → Option Message
maybe_in_log None = None
maybe_in_log (Some m) = Some (in_log m)

-- the last one that gives its page a new beginning stays that
last_logged : (ms : List Message) → last_beginning (map in_log ms) ≡ maybe_in_log (last_beginning ms)
last_logged [] = refl
last_logged (m ∷ ms) = ap (λ (o : Option Message). later_or o (if begins_page m.kind then Some (in_log m) else None)) (last_logged ms) ∙ by (last_beginning ms) (begins_page m.kind) where
  by : (o : Option Message) (b : Bool) → later_or (maybe_in_log o) (if b then Some (in_log m) else None) ≡ maybe_in_log (later_or o (if b then Some m else None))
  by (Some later) b = refl
  by None true = refl
  by None false = refl

-- it has the same Links behind it
entries_logged : (o : Option Message) (ms : List Message) → entries_from (maybe_in_log o) (map in_log ms) ≡ map in_log (entries_from o ms)
entries_logged None ms = refl
entries_logged (Some base) ms = ap (λ (l : List Message). in_log base ∷ l) (by (is_replace base.kind)) where
  link : Message → Bool
  link m = is_link m.kind && nat_lt base.place m.place

  by : (b : Bool) → (if b then filter link (map in_log ms) else []) ≡ map in_log (if b then filter link ms else [])
  by true = filter_logged link (λ m. refl) ms
  by false = refl

-- what messages of a page make of it
pub page_state_logged : (ms : List Message) → page_state (map in_log ms) ≡ map in_log (page_state ms)
unfolding page_state
page_state_logged ms = ap (λ (o : Option Message). entries_from o (map in_log ms)) (last_logged ms) ∙ entries_logged (last_beginning ms) ms

-- the messages of a page
pub of_page_logged : (ms : List Message) (cut page : ℕ) → of_page (map in_log ms) cut page ≡ map in_log (of_page ms cut page)
unfolding of_page
of_page_logged ms cut page = filter_logged (λ m. (m.page == page) && nat_lt m.place cut) (λ m. refl) ms

-- they lie in the same places
entries_same : (ms : List Message) → map entry_of (map in_log ms) ≡ map entry_of ms
entries_same [] = refl
entries_same (m ∷ ms) = ap (λ (l : List Entry). entry_of m ∷ l) (entries_same ms)

-- so the page that they are is the same
pub page_with_logged : (ms : List Message) → page_with (map in_log ms) ≡ page_with ms
page_with_logged [] = refl
page_with_logged (m ∷ ms) = ap (λ (l : List Entry). page_with_entries l) (entries_same ms) where
  page_with_entries : List Entry → Page
  page_with_entries l = if is_replace m.kind then Present (entry_of m) l else Free (pos m.place) m.pointer

-- Histories.

-- what the log has of a history it has of what it has
pub logged_twice : (H : History) → logged (logged H) ≡ logged H
logged_twice H = let same = list_twice H.messages in λ i. record { messages = same i; batches = H.batches }

-- what the log has of a message of a history is of what it has of that
pub logged_there : (H : History) (m : Message) → Contains H.messages m → Contains (logged H).messages (in_log m)
logged_there H m there = in_map in_log H.messages m there

-- and where that has its item in its record, it is that message
pub inline_there : (H : History) (m : Message) (lid : ℕ) → m.pointer ≡ Inline lid → Contains H.messages m → Contains (logged H).messages m
inline_there H m lid inline there = subst (Contains (logged H).messages) (inline_same m lid inline) (logged_there H m there)

-- and there is nothing else
pub from_logged : (H : History) (m : Message) → Contains (logged H).messages m → (n : Message) × Contains H.messages n × (in_log n ≡ m)
from_logged H m there = from_map in_log H.messages m there

-- messages lie apart in it where they do in the history
pub apart_logged : (H : History) → LieApart H.messages → LieApart (logged H).messages
apart_logged H apart = list_apart_logged H.messages apart

-- and the other way round
pub logged_apart : (H : History) → LieApart (logged H).messages → LieApart H.messages
logged_apart H apart = list_logged_apart H.messages apart

-- they ascend in it where they do in the history
pub ascends_logged : (H : History) → Ascends H.messages → Ascends (logged H).messages
ascends_logged H order = list_ascends_logged H.messages order

-- and the other way round
pub logged_ascends : (H : History) → Ascends (logged H).messages → Ascends H.messages
logged_ascends H order = list_logged_ascends H.messages order

-- they end in it below a place where they do in the history
pub below_logged : (place : ℕ) (H : History) → EndBelow place H.messages → EndBelow place (logged H).messages
below_logged place H below = All-map (λ (m : Message). (m.place < place) × (m.place + m.size ≤ place)) in_log H.messages below

-- and the other way round
pub logged_below : (place : ℕ) (H : History) → EndBelow place (logged H).messages → EndBelow place H.messages
logged_below place H below = all_in_log (λ (m : Message). (m.place < place) × (m.place + m.size ≤ place)) H.messages below

-- its table has what the log has of the entries
pub table_logged : (H : History) (cut page : ℕ) → table (logged H) cut page ≡ map in_log (table H cut page)
unfolding table
table_logged H cut page = ap page_state (of_page_logged H.messages cut page) ∙ page_state_logged (of_page H.messages cut page)

-- Ends.

-- the greatest end of messages that begin below it
last_same : (place : ℕ) (ms : List Message) → last_message place (map in_log ms) ≡ last_message place ms
last_same place [] = refl
last_same place (m ∷ ms) = ap (λ n. if nat_lt m.place place then max (m.place + m.size) n else n) (last_same place ms)

-- and what is acknowledged once all below a place is durable
pub end_logged : (place : ℕ) (H : History) → end_below place (logged H) ≡ end_below place H
end_logged place H = ap (λ n. max n (last_batch place H.batches)) (last_same place H.messages)

-- Steps.

-- What the log has of a message is put in where the message is.
pub adds_logged : (H : History) (m : Message) (H' : History) → AddsMessage H m H' → AddsMessage (logged H) (in_log m) (logged H')
adds_logged H m H' adds = record {
  changes = adds.changes;
  before = map in_log adds.before;
  after = map in_log adds.after;
  old = ap (map in_log) adds.old ∙ map-append in_log adds.before adds.after;
  new = ap (map in_log) adds.new ∙ map-append in_log adds.before (m ∷ adds.after);
  lower = λ x there. let from = from_map in_log adds.before x there in subst (λ (y : Message). y.place < m.place) from.2 (adds.lower from.0 from.1);
  higher = λ x there. let from = from_map in_log adds.after x there in subst (λ (y : Message). m.place < y.place) from.2 (adds.higher from.0 from.1);
  batches = adds.batches;
}

-- And where it is put in the message can be.
pub adds_real : (H : History) (m : Message) (R' : History) → AddsMessage (logged H) (in_log m) R' → (H' : History) × AddsMessage H m H' × (logged H' ≡ R')
adds_real H m R' adds =
    let split = split_logged H.messages adds.before adds.after adds.old in
    let H' : History = record { messages = split.before ++ m ∷ split.after; batches = H.batches } in
    let messages : map in_log (split.before ++ m ∷ split.after) ≡ R'.messages =
    map-append in_log split.before (m ∷ split.after) ∙ (λ i. split.first i ++ in_log m ∷ split.second i) ∙ sym adds.new in
    let batches : H.batches ≡ R'.batches = sym adds.batches in (
      H',
      record {
        changes = adds.changes;
        before = split.before;
        after = split.after;
        old = split.is;
        new = refl;
        lower = λ x there. adds.lower (in_log x) (subst (λ (l : List Message). Contains l (in_log x)) split.first (in_map in_log split.before x there));
        higher = λ x there. adds.higher (in_log x) (subst (λ (l : List Message). Contains l (in_log x)) split.second (in_map in_log split.after x there));
        batches = refl;
      },
      λ i. record { messages = messages i; batches = batches i },
    )

-- What is so of what the log has then is so of what it has of the new history.
pub put_real : (P : History → Type 0) (H : History) (m : Message) (R' : History) → AddsMessage (logged H) (in_log m) R' → P R' → (H' : History) × AddsMessage H m H' × P (logged H')
put_real P H m R' adds is = let real = adds_real H m R' adds in (real.0, real.1, subst P (sym real.2) is)

-- A batch is noted of what the log has of a history where it is of the history.
pub batch_logged : (H : History) (b : Batch) (H' : History) → AddsBatch H b H' → AddsBatch (logged H) b (logged H')
batch_logged H b H' adds = record { pegged = adds.pegged; messages = ap (map in_log) adds.messages; batches = adds.batches }
