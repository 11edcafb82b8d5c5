-- Where the messages of a log lie that fits its history: one behind another, below the next place; those behind the written end in the current segment.
use Rattle.std.proofs.Common.{◌^◌, ◌≡◌, ◌∙◌, ◌≤◌, ◌<◌, ◌+◌, ◌-◌, ◌/◌, ◌%◌, ℕ, max, Bool, true, false, if◌then◌else◌, List, [], ◌∷◌, ◌++◌, length, map, Option, sym, ap, subst, arith, pos, inl, inr, None, Some, refl, ℤ}
use Rattle.std.specs.List.{All, Contains}
use Rattle.std.specs.declared.io.Error.{Error as IoError}
use Rattle.std.proofs.lemmas.List.{append-nil}
use Rattle.std.proofs.lemmas.List.Elements.{All-append, All-tail, All-contains}
use Rattle.sled_codec.specs.declared.result.DiskPtr.{DiskPtr}
use Rattle.sled_codec.specs.declared.result.DiskPtr.TheVariants.{Inline, Blob}
use Rattle.sled_codec.specs.History.{Message, Batch, History}
use Rattle.sled_codec.specs.Places.{MayBegin}
use Rattle.sled_codec.specs.Pointers.{lid_of}
use Rattle.sled_codec.specs.WellFormed.{LieApart}
use Rattle.sled_store.specs.Accounts.{machine_of}
use Rattle.sled_store.specs.Device.{Trace, State, state_of}
use Rattle.sled_store.specs.Outdated.{MayName}
use Rattle.sled_store.specs.SegmentStates.{Machine}
use Rattle.sled_core.specs.declared.iobuf.Reserved.{Reserved}
use Rattle.sled_core.specs.declared.iobuf.Sealed.{Sealed}
use Rattle.sled_core.specs.declared.iobuf.SegmentPosition.{SegmentPosition}
use Rattle.sled_core.specs.declared.logger.Log.{Log}
use Rattle.sled_core.specs.declared.reservation.Reservation.{Reservation}
use Rattle.sled_core.specs.Logged.{logged}
use Rattle.sled_core.specs.Tickets.{index_of, len_of, place_of, pointer_of, is_manifest_of}
use Rattle.sled_core.specs.Manifests.{is_manifest}
use Rattle.sled_core.specs.inside.Begun.{AreFilled, line_end}
use Rattle.sled_core.specs.Begun.{SegmentView, segment_view}
use Rattle.sled_core.specs.inside.Buffers.{IsChain, IsHeaded, Stands, completed_in}
use Rattle.sled_core.specs.Buffers.{message_in, pointer_as}
use Rattle.sled_core.specs.Fits.{Awaits, IsKept, current_of, held_of, line_of, next_place, noted_in, reserved_end, stable_end, synced_end}
use Rattle.sled_core.specs.inside.Fits.{HoldBehind, HoldsLine, HoldsNext, log_parts, parts_in, HoldsSegment}
use Rattle.sled_core.specs.invariants.Fits.{Holds}
use Rattle.sled_core.specs.inside.LogFile.{StaysBelow}
use Rattle.sled_core.specs.Positions.{is_short, next_segment_at, position_in}
use Rattle.sled_core.specs.Waiting.{last_of}
use Rattle.sled_core.specs.invariants.Running.{Fits}
use Rattle.sled_core.specs.Running.{IsStored, KeepsItem}
use Rattle.sled_core.specs.Reading.{IsInline, BlobIsBelow}
use Rattle.sled_core.specs.inside.Recoverable.{LiesInSegment}
use Rattle.sled_core.specs.declared.logger.joined_marks.JoinedMarks.{JoinedMarks}
use Rattle.sled_core.proofs.Holds.FitsBatches.{stable_noted}
use Rattle.sled_core.proofs.Logged.Messages.{all_in_log, logged_apart}
use Rattle.sled_core.proofs.Reached.StableBelow.{stable_low, stable_rises}
use Rattle.sled_core.proofs.Reserve.Ranges.{all_own, at_there, completed_between, chain_grows}
use Rattle.sled_core.proofs.Reserve.Entries.{completed_plain, reserved_in, some_long}
use Rattle.sled_core.proofs.Flush.Completed.{all_below, which}
use Rattle.sled_core.proofs.Holds.WholeHistory.{whole_apart}
use Rattle.sled_core.proofs.Holds.Facts.{current_facts, nth_facts}
use Rattle.sled_core.proofs.Read.ScanLemmas.{aligned_offset}

-- A message lies behind a place in a segment, and its record where one may begin; where its blob was made no later, it lies as a log places messages.
pub record LiesBehind (size : ℕ) (site : SegmentPosition) (m : Message) : Type 0 where
  pub begins : MayBegin size (lid_of m.pointer)
  pub room : m.place + 32 ≤ site.place + size
  pub lies : BlobIsBelow m m.pointer → LiesInSegment size m

-- in a blob or not, the record lies at its offset
pub lid_as : (o : Option ℤ) (lid : ℕ) → lid_of (pointer_as o lid) ≡ lid
lid_as None lid = refl
lid_as (Some place) lid = refl

module _ (size : ℕ) (site : SegmentPosition) (place_begins : site.place % size ≡ 0) (slot_begins : site.slot % size ≡ 0) where
  lies_behind : (bytes : List ℕ) (r : Reserved) → 20 ≤ r.from → r.from + 32 ≤ size → r.from + r.len ≤ size → LiesBehind size site (message_in site bytes r)
  lies_behind bytes r behind room whole =
      let offset : (site.slot + r.from) % size ≡ r.from = aligned_offset site.slot r.from size slot_begins (omega (arith, room)) in
      let place : (site.place + r.from) % size ≡ r.from = aligned_offset site.place r.from size place_begins (omega (arith, room)) in
      record {
        begins = subst (MayBegin size) (sym (lid_as r.blob (site.slot + r.from))) (record { behind_header = omega (arith, offset, behind); before_end = omega (arith, offset, room) });
        room = omega (arith, room);
        lies = λ below. record { begins = record { behind = omega (arith, place, behind); room = omega (arith, place, room) }; ends = omega (arith, place, whole); blob = below };
      }

  -- the messages of reservations that were completed
  completed_lie : (sum : List ℕ → ℕ) (number : ℕ) (bytes : List ℕ) (from end : ℕ) (rs : List Reserved) → 20 ≤ from → end ≤ size → IsChain from rs end → All (Stands sum size number bytes) rs → All (LiesBehind size site) (completed_in site bytes rs)
  completed_lie sum number bytes from end [] behind inside chain stand = λ k d lt. absurd (omega arith)
  completed_lie sum number bytes from end (r ∷ rs) behind inside chain stand =
      let here : r.from ≡ from = chain.0 in
      let grows : from + r.len ≤ end = chain_grows (from + r.len) end rs chain.1 in
      let rest : All (LiesBehind size site) (completed_in site bytes rs) = completed_lie sum number bytes (from + r.len) end rs (omega (arith, behind)) inside chain.1 (All-tail (Stands sum size number bytes) r rs stand) in
      all_own (LiesBehind size site) r.state (message_in site bytes r) (completed_in site bytes rs) (λ own. let stands = reserved_in sum size number bytes r (completed_plain r.state own) (stand 0 r (omega arith)) in lies_behind bytes r (omega (arith, here, behind)) stands.room (omega (arith, here, grows, inside))) rest

module _ (sum : List ℕ → ℕ) (size : ℕ) (site : SegmentPosition) (device : State) (fault : Option IoError) (bytes : List ℕ) (from : ℕ) (bs : List Sealed) (rs : List Reserved) (H : History) {stays : Message → Type 0} (holds : HoldsSegment sum (log_parts size site device fault bytes from bs rs) stays H) where
  abbrev done : List Message
  done = completed_in site bytes rs

  long : All (λ r. 0 < r.len) rs
  long = some_long sum size (site.place / size) bytes rs holds.records.stand

  between : All (λ m. (site.place + max 20 from ≤ m.place) × (m.place < site.place + length bytes) × (m.place + m.size ≤ site.place + length bytes)) done
  between = completed_between site bytes (max 20 from) (length bytes) rs holds.records.chain long

  -- one that begins below the written end was written
  pub written_before : (m : Message) → Contains H.messages m → m.place < site.place + from → Contains holds.records.earlier m
  written_before m there written = elim (which sum size site device fault bytes from bs rs H holds m there) [
    | inl first ↦ first
    | inr later ↦ (let b = All-contains (λ x. (site.place + max 20 from ≤ x.place) × (x.place < site.place + length bytes) × (x.place + x.size ≤ site.place + length bytes)) done m between later in absurd (omega (arith, b.0, written)))
  ]

  -- one that doesn't lies in the buffer
  pub completed_behind : length bytes ≤ size → (m : Message) → Contains H.messages m → site.place + from ≤ m.place → LiesBehind size site m
  completed_behind inside m there above = elim (which sum size site device fault bytes from bs rs H holds m there) [
    | inl early ↦ (let b = All-contains (λ x. (x.place < site.place + from) × (x.place + x.size ≤ site.place + from)) holds.records.earlier m holds.records.below early in absurd (omega (arith, b.0, above)))
    | inr later ↦ All-contains (LiesBehind size site) done m (completed_lie size site holds.records.place_begins holds.records.slot_begins sum (site.place / size) bytes (max 20 from) (length bytes) rs (omega arith) inside holds.records.chain holds.records.stand) later
  ]

-- Where all of a history is on the device, it ends at the stable end.
pub kept_past : (sum : List ℕ → ℕ) (size : ℕ) (site : SegmentPosition) (from : ℕ) (device : State) (H : History) → {mark durable : ℤ} → IsKept sum mark durable size site from device H → All (λ m. m.place + m.size ≤ site.place + from) H.messages
kept_past sum size site from device H kept = λ k d lt. (kept.below k d lt).1

-- Of a log that fits a history.

-- each message begins below the next place
module _ (sum : List ℕ → ℕ) (size : ℕ) (device : State) (fault : Option IoError) where
  abbrev end_of : SegmentView → ℕ
  end_of v = v.parts.site.place + length v.parts.bytes

  -- those of one behind another begin below its end, and of all of them below the end of the last one
  next_below : (place : ℕ) (w : SegmentView) (stays : Message → Type 0) (batches : List Batch) (own : List Message) → HoldsNext sum size device fault place w.parts stays batches own → All (λ m. m.place < end_of w) own
  next_below place w stays batches own here = λ k d lt. (all_below sum size w.parts.site device fault w.parts.bytes w.parts.written_len w.parts.sealed w.parts.reserved (record { messages = own; batches = batches }) here.segment k d lt).0

  later_below : (place : ℕ) (w : SegmentView) (ws : List SegmentView) (stays : Message → Type 0) (batches : List Batch) (ms : List Message) → HoldBehind sum size device fault place (map parts_in (w ∷ ws)) stays batches ms
      → (place ≤ end_of (last_of w ws)) × All (λ m. m.place < end_of (last_of w ws)) ms
  later_below place w [] stays batches ms (own, later, all, here, none) =
      let at : w.parts.site.place ≡ place = here.next in
      (omega (arith, at), subst (All (λ (m : Message). m.place < end_of w)) (sym (all ∙ ap (λ (l : List Message). own ++ l) none ∙ append-nil own)) (next_below place w stays batches own here))
  later_below place w (x ∷ xs) stays batches ms (own, later, all, here, rest) =
      let far = later_below (place + size) x xs stays batches later rest in
      let up = far.0 in
      let at : w.parts.site.place ≡ place = here.next in
      let inside = here.inside in
      let mine = next_below place w stays batches own here in
      (omega (arith, up), subst (All (λ (m : Message). m.place < end_of (last_of x xs))) (sym all) (All-append (λ (m : Message). m.place < end_of (last_of x xs)) own later (λ k d lt. let low = mine k d lt in omega (arith, low, at, inside, up)) far.1))

  pub line_below : (marks : JoinedMarks) (v : SegmentView) (vs : List SegmentView) (H : History) → length v.parts.bytes ≤ size → HoldsLine sum marks size device fault (v ∷ vs) H → All (λ m. m.place < end_of (last_of v vs)) H.messages
  line_below marks v vs H inside holds = by vs holds.later holds.messages holds.others where
    mine : All (λ m. m.place < end_of v) holds.head
    mine = λ k d lt. (all_below sum size v.parts.site device fault v.parts.bytes v.parts.written_len v.parts.sealed v.parts.reserved (record { messages = holds.head; batches = H.batches }) holds.own k d lt).0

    by : (vs : List SegmentView) (later : List Message) → H.messages ≡ holds.head ++ later → HoldBehind sum size device fault (v.parts.site.place + size) (map parts_in vs) (StaysBelow H (held_of holds.begun) v.parts.site.place) H.batches later
        → All (λ m. m.place < end_of (last_of v vs)) H.messages
    by [] later all none = subst (All (λ (m : Message). m.place < end_of v)) (sym (all ∙ ap (λ (l : List Message). holds.head ++ l) none ∙ append-nil holds.head)) mine
    by (x ∷ xs) later all rest =
        let far = later_below (v.parts.site.place + size) x xs _ H.batches later rest in
        let up = far.0 in
        subst (All (λ (m : Message). m.place < end_of (last_of x xs))) (sym all) (All-append (λ (m : Message). m.place < end_of (last_of x xs)) holds.head later (λ k d lt. let low = mine k d lt in omega (arith, low, inside, up)) far.1)

-- the next one begins behind all bytes
pub position_past : (size : ℕ) (v : SegmentView) (m : Machine) → length v.parts.bytes ≤ size → v.parts.site.place + length v.parts.bytes ≤ (position_in size v m).place
position_past size v m inside = by (is_short size (length v.parts.bytes)) where
  by : (b : Bool) → v.parts.site.place + length v.parts.bytes ≤ (if b then next_segment_at size v.parts.site.place m else record { place = v.parts.site.place + length v.parts.bytes; begins = v.parts.site.place; slot = v.parts.site.slot; machine = m }).place
  by true = omega (arith, inside)
  by false = omega arith

pub fits_reach : {D C : Type 0} (trace : D → Trace) (sum : List ℕ → ℕ) (log : Log D C) (H : History) (A f : ℕ) (U : List Message) → Fits trace sum log H A f U → All (λ m. m.place < next_place log) H.messages
unfolding Fits
fits_reach trace sum log H A f U fits =
    let size : ℕ = log.config.config.segment_size in
    let past = position_past size (current_of log) (machine_of log.accountant) (current_facts log).short in
    let low = line_below sum size _ log.fault.kept _ (segment_view log.segments.first) (map segment_view log.segments.behind.items) (logged H) log.line.lies.in_segment fits.shows.parts.holds in
    let all = all_in_log (λ (m : Message). m.place < (current_of log).parts.site.place + length (current_of log).parts.bytes) H.messages low in
    λ k d lt. let below = all k d lt in omega (arith, below, past)

-- the messages lie one behind another
pub fits_apart : {D C : Type 0} (trace : D → Trace) (sum : List ℕ → ℕ) (log : Log D C) (H : History) (A f : ℕ) (U : List Message) → Fits trace sum log H A f U → LieApart H.messages
unfolding Fits
fits_apart trace sum log H A f U fits =
    logged_apart H (whole_apart sum log.config.config.segment_size log.segments.first.site _ log.fault.kept log.segments.first.buffer.bytes.items log.segments.first.buffer.written_len log.segments.first.buffer.sealed.items log.segments.first.buffer.reserved.items (logged H) fits.shows.parts.holds log.line.lies.in_segment)

-- it holds the history
pub fits_holds : {D C : Type 0} (trace : D → Trace) (sum : List ℕ → ℕ) (log : Log D C) (H : History) (A f : ℕ) (U : List Message) → Fits trace sum log H A f U → Holds trace sum log H
unfolding Fits Holds
fits_holds trace sum log H A f U fits = record {
  shows = record { holds = fits.shows.parts.holds; batches = fits.shows.batches; slots = fits.shows.slots };
  rests = fits.rests;
}

-- what was acknowledged is written
pub fits_acknowledged : {D C : Type 0} (trace : D → Trace) (sum : List ℕ → ℕ) (log : Log D C) (H : History) (A f : ℕ) (U : List Message) → Fits trace sum log H A f U → A ≤ synced_end log
unfolding Fits
fits_acknowledged trace sum log H A f U fits = let passes = fits.shows.parts.passes in let low = stable_low fits.shows.reach H.batches in let near = fits.shows.parts.reached.near in omega (arith, passes, low, near)

-- It lies below the stable end, too.
pub fits_stable : {D C : Type 0} (trace : D → Trace) (sum : List ℕ → ℕ) (log : Log D C) (H : History) (A f : ℕ) (U : List Message) → Fits trace sum log H A f U → A ≤ stable_end log
unfolding Fits
fits_stable trace sum log H A f U fits =
    let passes = fits.shows.parts.passes in
    let near = fits.shows.parts.reached.near in
    let up = stable_rises fits.shows.reach (synced_end log) near H.batches in
    let same = stable_noted (synced_end log) (line_end log.config.config.segment_size (line_of log)) (noted_in log) (logged H) fits.shows.batches in
    omega (arith, passes, up, same)

-- Of tickets and places.

-- the place, the pointer and the size of a ticket are those of its message
pub awaited : {D C : Type 0} (log : Log D C) (ticket : Reservation) (m : Message) → Awaits log ticket m
    → (pos m.place ≡ place_of ticket) × (m.pointer ≡ pointer_of ticket) × (m.size ≡ len_of ticket) × (is_manifest_of ticket ≡ is_manifest m.kind m.page)
awaited log ticket m awaits = (
  ap (λ (x : Message). pos x.place) awaits.message ∙ sym awaits.own.place,
  ap (λ (x : Message). x.pointer) awaits.message ∙ sym awaits.own.pointer,
  ap (λ (x : Message). x.size) awaits.message ∙ sym awaits.own.long,
  awaits.own.manifest ∙ ap (λ (x : Message). is_manifest x.kind x.page) (sym awaits.message),
)

-- A message that has its item in its record is stored.
pub inline_stored : {D C : Type 0} (trace : D → Trace) (sum : List ℕ → ℕ) (log : Log D C) (m : Message) → IsInline m.pointer → IsStored trace sum log m
inline_stored trace sum log m inline = record { below = no_lower m.pointer inline; item = no_blob m.pointer inline } where
  no_lower : (p : DiskPtr) → IsInline p → BlobIsBelow m p
  no_lower (Inline lid) is = tt
  no_lower (Blob lid place) is = absurd is

  no_blob : (p : DiskPtr) → IsInline p → KeepsItem sum (state_of (trace log.config.device)).blobs m p
  no_blob (Inline lid) is = tt
  no_blob (Blob lid place) is = absurd is

-- It names no blob, so it may come to any history.
pub inline_named : (H : History) (m : Message) → IsInline m.pointer → MayName H m
inline_named H m inline blob names = absurd (subst IsInline names.1 inline)

-- The place of a ticket is one of those that code counts
pub awaited_small : {D C : Type 0} (log : Log D C) (ticket : Reservation) (m : Message) → Awaits log ticket m → m.place < 2 ^ 63
awaited_small log ticket m awaits =
    let v : SegmentView = awaits.segment in
    let facts = nth_facts log awaits.number v awaits.among in
    let inside = facts.short in
    let reach = facts.place_small in
    let within = at_there (λ x. x.from + x.len ≤ length v.parts.bytes) v.parts.reserved (index_of ticket - v.gone) awaits.reserved awaits.there facts.within in
    let place = ap (λ (x : Message). x.place) awaits.message in
    let some = (at_there IsHeaded v.parts.reserved (index_of ticket - v.gone) awaits.reserved awaits.there facts.headed).0 in
    omega (arith, inside, reach, within, place, some)

-- so is the end of what was reserved
filled_end : (size to : ℕ) (v : SegmentView) (vs : List SegmentView) → AreFilled size to (v ∷ vs) → to ≤ (last_of v vs).parts.site.place + length (last_of v vs).parts.bytes
filled_end size to v [] filled = filled.1
filled_end size to v (w ∷ []) filled = filled_end size to w [] filled.2
filled_end size to v (w ∷ x ∷ xs) filled = filled_end size to w (x ∷ xs) filled.2

pub reserved_inside : {D C : Type 0} (log : Log D C) → reserved_end log ≤ (current_of log).parts.site.place + length (current_of log).parts.bytes
reserved_inside log = filled_end log.config.config.segment_size log.reserved_to (segment_view log.segments.first) (map segment_view log.segments.behind.items) log.line.filled

pub reserved_small : {D C : Type 0} (log : Log D C) → reserved_end log < 2 ^ 63
reserved_small log = let low = reserved_inside log in let facts = current_facts log in let inside = facts.short in let reach = facts.place_small in omega (arith, low, inside, reach)
