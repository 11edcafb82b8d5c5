-- Where all that was reserved is on the device nothing is left in any segment but what fills it: the device has all of the history.
use Rattle.std.proofs.Common.{inl, inr, ap, ◌≡◌, ◌∙◌, ◌≤◌, ◌<◌, ◌+◌, ◌/◌, max, refl, arith, subst, ℕ, Option, List, [], ◌∷◌, ◌++◌, length, map, None, Some}
use Rattle.std.specs.List.{All, Contains, slice_get}
use Rattle.std.specs.declared.io.Error.{Error as IoError}
use Rattle.std.proofs.lemmas.Bool.{cases_lt}
use Rattle.std.proofs.lemmas.List.{append-nil}
use Rattle.std.proofs.lemmas.List.Elements.{All-contains, All-head, All-tail}
use Rattle.sled_codec.specs.History.{Batch, History, Message}
use Rattle.sled_store.specs.Device.{State, Trace, at_rest, state_of}
use Rattle.sled_store.proofs.Segments.Elements.{all_from_in, in_cases, in_first, in_nothing}
use Rattle.sled_core.specs.inside.Begun.{AreFilled, IsUsed}
use Rattle.sled_core.specs.Begun.{SegmentView, segment_view}
use Rattle.sled_core.specs.declared.logger.batches.NotedBatch.{NotedBatch}
use Rattle.sled_core.specs.declared.logger.Log.{Log}
use Rattle.sled_core.specs.inside.Buffers.{completed_in}
use Rattle.sled_core.specs.LogFile.{StaysFrom}
use Rattle.sled_core.specs.Fits.{CloseBelow, IsOnDevice, IsWritten, device_of, fault_of, held_of, line_of, machine_at, noted_in, reserved_end, segment_size_of}
use Rattle.sled_core.specs.Fits.{stable_end, synced_end}
use Rattle.sled_core.specs.inside.FreeSlots.{HasSlot}
use Rattle.sled_core.specs.inside.Shown.{shown}
use Rattle.sled_core.specs.inside.Fits.{HoldBehind, HoldsNext, HoldsWith, parts_in}
use Rattle.sled_core.specs.invariants.Fits.{Holds}
use Rattle.sled_core.specs.Logged.{logged}
use Rattle.sled_core.specs.OpenBatches.{batch_of}
use Rattle.sled_core.proofs.Flush.FlushLemmas.{all_kept, on_file}
use Rattle.sled_core.proofs.Holds.BufferEnds.{written_behind}
use Rattle.sled_core.proofs.Line.Entered.{IsEntered, used_end}
use Rattle.sled_core.proofs.Line.Segments.{line_segments}
use Rattle.sled_core.proofs.Line.ShownParts.{line_older, line_written}
use Rattle.sled_core.proofs.Line.StandsThere.{file_there}
use Rattle.sled_core.proofs.Reached.OpenBatch.{whole_not}
use Rattle.sled_core.proofs.Reached.StableBelow.{stable_all}
use Rattle.sled_core.proofs.Reserve.BeginBelow.{ArePadding, entered_padding, padding_nothing}
use Rattle.sled_core.proofs.Reserve.Ranges.{at_there}

-- The first segment's reservations begin below the place, and it has more than its header only where one does.
filled_first : (size to : ℕ) (v : SegmentView) (vs : List SegmentView) → AreFilled size to (v ∷ vs) → IsEntered to v × IsUsed to v.parts.site.place (length v.parts.bytes)
filled_first size to v [] filled = (filled.2, used_end to v.parts.site.place (length v.parts.bytes) filled.5)
filled_first size to v (w ∷ ws) filled = (filled.1, filled.5)

-- and so it is with those behind it
filled_rest : (size to : ℕ) (v : SegmentView) (vs : List SegmentView) → AreFilled size to (v ∷ vs) → AreFilled size to vs
filled_rest size to v [] filled = tt
filled_rest size to v (w ∷ ws) filled = filled.2

module _ (sum : List ℕ → ℕ) (size to : ℕ) (device : State) (fault : Option IoError) where
  -- A segment that lies behind the place holds no message,
  next_nothing : (place : ℕ) (w : SegmentView) (stays : Message → Type 0) (batches : List Batch) (own : List Message) → to ≤ place → IsEntered to w → IsUsed to w.parts.site.place (length w.parts.bytes)
      → HoldsNext sum size device fault place w.parts stays batches own → own ≡ []
  next_nothing place w stays batches own past entered used here = by own here.above here.segment.records.messages where
    at : w.parts.site.place ≡ place
    at = here.next

    fill : ArePadding size w.parts.reserved
    fill = entered_padding sum size (w.parts.site.place / size) to w.parts.site.place (max 20 w.parts.written_len) (length w.parts.bytes) w.parts.bytes w.parts.reserved (omega (arith, past, at)) here.segment.records.chain here.segment.records.stand entered

    bare : length w.parts.bytes ≤ 20
    bare = elim (cases_lt 20 (length w.parts.bytes)) [ inl more ↦ absurd (let low = used more in omega (arith, low, past, at)) | inr le ↦ le ]

    by : (ms : List Message) → All (λ (m : Message). place + 20 ≤ m.place) ms → ms ≡ here.segment.records.earlier ++ completed_in w.parts.site w.parts.bytes w.parts.reserved → ms ≡ []
    by [] above is = refl
    by (m ∷ ms) above is =
        let early : m ∷ ms ≡ here.segment.records.earlier = is ∙ ap (λ (l : List Message). here.segment.records.earlier ++ l) (padding_nothing size w.parts.site w.parts.bytes w.parts.reserved fill).0 ∙ append-nil here.segment.records.earlier in
        let low = All-contains (λ (x : Message). (x.place < w.parts.site.place + w.parts.written_len) × (x.place + x.size ≤ w.parts.site.place + w.parts.written_len)) here.segment.records.earlier m here.segment.records.below (subst (λ (l : List Message). Contains l m) early (in_first m ms)) in
        let up = All-head (λ (x : Message). place + 20 ≤ x.place) m ms above in
        let within = here.behind in
        let short = bare in
        let lies = at in
        absurd (omega (arith, low.0, up, within, short, lies))

  -- nor do any one behind another.
  behind_nothing : (place : ℕ) (ws : List SegmentView) (stays : Message → Type 0) (batches : List Batch) (ms : List Message) → to ≤ place → AreFilled size to ws → HoldBehind sum size device fault place (map parts_in ws) stays batches ms → ms ≡ []
  behind_nothing place [] stays batches ms past filled holds = holds
  behind_nothing place (w ∷ ws) stays batches ms past filled (own, later, all, here, rest) =
      let first = filled_first size to w ws filled in
      all ∙ (λ i. next_nothing place w stays batches own past first.0 first.1 here i ++ behind_nothing (place + size) ws stays batches later (omega (arith, past)) (filled_rest size to w ws filled) rest i)

-- Each batch that is noted ends below what is reserved.
pub noted_pegs : {D C : Type 0} (log : Log D C) (b : Batch) → Contains (noted_in log) b → b.peg < reserved_end log
noted_pegs log b there = among log.batches.noted.items log.noted.pegs (whole_not (synced_end log) (map batch_of log.batches.noted.items) b there).0 where
  among : (xs : List NotedBatch) → All (λ (x : NotedBatch). x.peg < reserved_end log) xs → Contains (map batch_of xs) b → b.peg < reserved_end log
  among [] all known = absurd (in_nothing b known)
  among (x ∷ xs) all known = elim (in_cases (batch_of x) b (map batch_of xs) known) [
    | inl same ↦ (let low = All-head (λ (y : NotedBatch). y.peg < reserved_end log) x xs all in subst (λ (y : Batch). y.peg < reserved_end log) same low)
    | inr later ↦ among xs (All-tail (λ (y : NotedBatch). y.peg < reserved_end log) x xs all) later
  ]

-- So where all that was reserved is written, all batches are, and the stable end is where that ends.
pub all_stable : {D C : Type 0} (log : Log D C) → reserved_end log ≤ synced_end log → stable_end log ≡ synced_end log
all_stable log all = stable_all (synced_end log) (noted_in log) (λ b there low. let peg = noted_pegs log b there in omega (arith, peg, all))

-- All batches begin and end there, too.
all_ended : {D C : Type 0} (trace : D → Trace) (sum : List ℕ → ℕ) (log : Log D C) → reserved_end log ≤ synced_end log → (H : History) → Holds trace sum log H → CloseBelow (synced_end log) H.batches
unfolding Holds
all_ended trace sum log all H holds = all_from_in (λ (b : Batch). (b.low < synced_end log) × (b.peg < synced_end log)) H.batches (λ b there. (begins b there, ends b there)) where
  ends : (b : Batch) → Contains H.batches b → b.peg < synced_end log
  ends b there = elim (cases_lt b.peg (synced_end log)) [ inl low ↦ low | inr high ↦ (let peg = noted_pegs log b (holds.shows.batches.all b there high) in omega (arith, peg, all)) ]

  begins : (b : Batch) → Contains H.batches b → b.low < synced_end log
  begins b there = elim (holds.shows.batches.rising b there) [ inl pegged ↦ (let low = ends b there in omega (arith, low, pegged)) | inr low ↦ low ]

module _ {D C : Type 0} (trace : D → Trace) (sum : List ℕ → ℕ) (log : Log D C) (all : reserved_end log ≤ synced_end log) (H : History) where
  abbrev its_size : ℕ
  its_size = segment_size_of log

  abbrev its_device : State
  its_device = state_of (trace (device_of log))

  abbrev its_line : List SegmentView
  its_line = line_of log

  abbrev sees : State
  sees = shown its_size None (machine_at log) its_line its_device

  abbrev bytes : List ℕ
  bytes = log.segments.first.buffer.bytes.items

  abbrev from : ℕ
  from = log.segments.first.buffer.written_len

  abbrev behind : List SegmentView
  behind = map segment_view log.segments.behind.items

  module _ (rests : its_device.log ≡ at_rest its_device.log.bytes)
      (holds : HoldsWith sum log.marks (noted_in log) its_size sees None its_line (machine_at log) (logged H))
      (closed : CloseBelow (synced_end log) H.batches) where
    within : from ≤ its_size
    within = let low = written_behind log.segments.first.buffer in let short = log.line.lies.in_segment in omega (arith, low, short)

    first : IsEntered log.reserved_to (segment_view log.segments.first) × IsUsed log.reserved_to log.segments.first.site.place (length bytes)
    first = filled_first its_size log.reserved_to (segment_view log.segments.first) behind log.line.filled

    fill : ArePadding its_size log.segments.first.buffer.reserved.items
    fill = entered_padding sum its_size (log.segments.first.site.place / its_size) log.reserved_to log.segments.first.site.place (max 20 from) (length bytes)
        bytes log.segments.first.buffer.reserved.items (omega (arith, all)) holds.holds.own.records.chain holds.holds.own.records.stand first.0

    nothing_behind : holds.holds.later ≡ []
    nothing_behind =
        behind_nothing sum its_size log.reserved_to sees None (log.segments.first.site.place + its_size) behind _ (logged H).batches holds.holds.later
        (let low = within in omega (arith, all, low)) (filled_rest its_size log.reserved_to (segment_view log.segments.first) behind log.line.filled)
        holds.holds.others

    taken : (n : ℕ) (u : SegmentView) → slice_get its_line n ≡ Some u → HasSlot its_size (machine_at log) u
    taken n u there = at_there (HasSlot its_size (machine_at log)) its_line n u there holds.slots.taken

    some_size : 0 < its_size
    some_size = let least = log.config.config.least in omega (arith, least)

    -- What is shown stands in the file.
    on_device : IsOnDevice sum its_size its_device.log log.segments.first.site from holds.holds.own.records.earlier
        (StaysFrom (logged H) (held_of holds.holds.begun))
    on_device =
        let written = line_written sum its_size some_size its_device None refl (machine_at log) log.segments.first.site.place its_line (line_segments log)
        (logged H) _ holds.holds taken 0 (segment_view log.segments.first) refl in
        record {
          log = its_device.log.bytes;
          settled = rests;
          file = file_there sum its_size sees.log.bytes its_device.log.bytes written.long log.segments.first.site from written.front
              holds.holds.own.records.earlier (StaysFrom (logged H) (held_of holds.holds.begun))
              (line_older sum its_size some_size its_device (machine_at log) (segment_view log.segments.first) behind log.segments.first.site.place
              (line_segments log) (logged H) holds.holds taken)
              (on_file sum its_size sees.log log.segments.first.site from holds.holds.own.records.earlier
              (StaysFrom (logged H) (held_of holds.holds.begun)) (holds.holds.own.written refl));
        }

    all_there : IsWritten trace sum log H
    all_there =
        all_kept sum its_size log.segments.first.site sees None bytes from log.segments.first.buffer.sealed.items log.segments.first.buffer.reserved.items
        (logged H) holds.holds its_device.log on_device closed
        (padding_nothing its_size log.segments.first.site bytes log.segments.first.buffer.reserved.items fill).0
        nothing_behind log.line.lies.place_in_reach within

-- So the device has all of what the log holds.
pub all_written : {D C : Type 0} (trace : D → Trace) (sum : List ℕ → ℕ) (log : Log D C) → reserved_end log ≤ synced_end log → fault_of log ≡ None → (H : History) → Holds trace sum log H → IsWritten trace sum log H
unfolding Holds
all_written trace sum log all whole H holds =
    all_there trace sum log all H (holds.rests whole)
    (subst (λ (o : Option IoError). HoldsWith sum log.marks (noted_in log) (segment_size_of log)
    (shown (segment_size_of log) o (machine_at log) (line_of log) (state_of (trace (device_of log)))) o (line_of log) (machine_at log) (logged H))
    whole holds.shows)
    (all_ended trace sum log all H holds)
