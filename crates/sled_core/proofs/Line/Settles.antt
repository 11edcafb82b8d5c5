-- What a log has at a place that isn't stable, and that lies before its current buffer: the buffer of the segment that has it, unless that is written.
use Rattle.std.proofs.Common.{◌≡◌, ◌∙◌, ◌⊎◌, ◌≤◌, ◌<◌, ◌+◌, ◌-◌, ◌*◌, ◌/◌, ◌==◌, ap, sym, arith, subst, inl, inr, ℕ, suc, Bool, true, false, pos, ℤ, ◌≤ℤ◌, ◌<ℤ◌, unsigned_abs, nat_le, if◌then◌else◌, List, [], ◌∷◌, ◌++◌, length, map, drop, take, set, take-append-drop, Option, None, Some}
use Rattle.std.proofs.Math.Nat.{div-mul-le_self, lt-div-mul-add, mul-le-mul_right}
use Rattle.std.specs.List.{slice_get, Contains}
use Rattle.std.specs.Prelude.{int_lt}
use Rattle.std.proofs.lemmas.Bool.{cases_lt}
use Rattle.std.proofs.lemmas.Bool.Decides.{nat_tests}
use Rattle.std.proofs.lemmas.Int.{ints}
use Rattle.sled_core.specs.Account.{account_behind, account_of, written_account}
use Rattle.sled_core.specs.Begun.{SegmentView, begin_of, segment_view}
use Rattle.sled_core.specs.declared.iobuf.Reserved.{Reserved}
use Rattle.sled_core.specs.declared.iobuf.Sealed.{Sealed}
use Rattle.sled_core.specs.Buffers.{first_open_in, open_in}
use Rattle.sled_core.specs.declared.logger.Log.{Log}
use Rattle.sled_core.specs.Fits.{current_of, buffers_of, current_begin, held_len, ledger_of, ledger_sealed, line_of, segment_size_of, synced_end, waiting_of}
use Rattle.sled_core.specs.Freeing.{Ledger}
use Rattle.sled_core.specs.Ledger.{ledger_behind, writings, written_ledger, written_step}
use Rattle.sled_core.specs.ReadBuffer.{IsWrittenPlace, held_at, settling}
use Rattle.sled_core.specs.inside.SealedBuffers.{IsSealed, written_at}
use Rattle.sled_core.specs.SealedBuffers.{bytes_between, sealed_count, sealed_end, writing}
use Rattle.sled_core.specs.inside.Turned.{IsReadyIn, promoted, writing_in, writing_of, written_now, begin_at, mark_of}
use Rattle.sled_core.specs.Waiting.{BufferAt, Span, buffer_at, free_around, has_place, held_around, none_around, one_around, placed, unless_held, unwritten, unwritten_of, without_around}
use Rattle.sled_core.proofs.Line.Around.{IsAround, all_found, begin_above, fewer_line, found, found_above, found_front, found_in, found_line, found_there, found_written, free_found, free_of, held_found, held_of, is_none, left_of, list_of, none_found, one_found, without_in, without_line, without_none}
use Rattle.sled_core.proofs.Line.Below.{lie_begin, none_first}
use Rattle.sled_core.proofs.Line.Entered.{filled_last}
use Rattle.sled_core.proofs.Holds.Facts.{IsSegment, current_facts, nth_facts}
use Rattle.sled_core.proofs.Line.LedgerBehind.{writings_one}
use Rattle.sled_core.proofs.Line.Lying.{end_of, line_lie, promoted_end, promoted_unwritten, segments_within, set_end, set_within, synced_up, unwritten_lie, unwritten_run}
use Rattle.sled_core.proofs.Line.PinnedWrites.{ledger_account}
use Rattle.sled_core.proofs.Line.Segments.{line_segments}
use Rattle.sled_core.proofs.Line.Shows.{buffers_add, buffers_still}
use Rattle.sled_core.proofs.Reserve.OpenCounts.{first_there}
use Rattle.sled_core.proofs.Sealed.Around.{sealed_at}
use Rattle.sled_core.proofs.Sealed.Progress.{first_front, open_front}
use Rattle.sled_core.proofs.Sealed.Slices.{end_to}
use Rattle.sled_core.specs.HeaderMark.{mark_at}

-- The number of the segment that has the place is that of one of the log.
pub number_inside : {D C : Type 0} (log : Log D C) (place : ℕ) → log.segments.first.site.place ≤ place
    → place < (current_of log).parts.site.place + segment_size_of log
    → (place - log.segments.first.site.place) / segment_size_of log ≤ length log.segments.behind.items
number_inside log place above lower =
    let size : ℕ = segment_size_of log in
    let n : ℕ = (place - log.segments.first.site.place) / size in
    let low = div-mul-le_self (place - log.segments.first.site.place) size in
    let at = (current_facts log).at in
    elim (cases_lt (length log.segments.behind.items) n) [
      | inr le ↦ le
      | inl lt ↦ (
          let up : suc (length log.segments.behind.items) * size ≤ n * size = mul-le-mul_right size lt in
          absurd (omega (arith, low, at, above, lower, up)))
    ]

pub number_within : {D C : Type 0} (log : Log D C) (place : ℕ) → log.segments.first.site.place ≤ place → place < current_begin log
    → (place - log.segments.first.site.place) / segment_size_of log ≤ length log.segments.behind.items
number_within log place above lower =
    let others = map segment_view log.segments.behind.items in
    let last = filled_last (segment_size_of log) log.reserved_to (segment_view log.segments.first) others log.line.filled in
    number_inside log place above (omega (arith, last.0, lower))

-- The place of that segment.
pub place_low : {D C : Type 0} (log : Log D C) (place n at : ℕ) → log.segments.first.site.place ≤ place
    → n ≡ (place - log.segments.first.site.place) / segment_size_of log → at ≡ log.segments.first.site.place + n * segment_size_of log
    → (at ≤ place) × (place < at + segment_size_of log)
place_low log place n at above is at_is =
    let size : ℕ = segment_size_of log in
    let x : ℕ = place - log.segments.first.site.place in
    let least = log.config.config.least in
    let low : x / size * size ≤ x = div-mul-le_self x size in
    let high : x < x / size * size + size = lt-div-mul-add (omega (arith, least)) in
    let same : n * size ≡ x / size * size = ap (λ k. k * size) is in
    (omega (arith, low, same, at_is, above), omega (arith, high, same, at_is, above))

-- A place before the current buffer is looked for in the segment that has it.
pub record LooksAt {D C : Type 0} (log : Log D C) (place : ℕ) : Type 0 where
  pub number : ℕ
  pub segment : SegmentView
  pub among : slice_get (line_of log) number ≡ Some segment
  pub behind : synced_end log ≤ place
  pub low : segment.parts.site.place ≤ place
  pub high : place < segment.parts.site.place + segment_size_of log
  pub lower : place < current_begin log

abbrev pub looks : {D C : Type 0} (log : Log D C) {place n : ℕ} {v : SegmentView} → synced_end log ≤ place → place < current_begin log
    → n ≡ (place - log.segments.first.site.place) / segment_size_of log → slice_get (line_of log) n ≡ Some v
    → v.parts.site.place ≡ log.segments.first.site.place + n * segment_size_of log → LooksAt log place
looks log {place} {n} {v} behind lower is among at =
    let lies = place_low log place n v.parts.site.place (omega (arith, behind)) is at in
    record { number = n; segment = v; among = among; behind = behind; low = lies.0; high = lies.1; lower = lower }

-- Nothing that waits has a place: it is written, nothing is to be called for it, and nothing holds it up.
pub record IsStill {D C : Type 0} (log : Log D C) (place : ℕ) : Type 0 where
  pub written : IsWrittenPlace log place
  pub calls : (sum : List ℕ → ℕ) → settling sum log (pos place) ≡ []
  pub held : (sum : List ℕ → ℕ) → held_at sum log (pos place) ≡ None
  pub alone : ((b : BufferAt) → Contains (waiting_of log) b → has_place place b ≡ true) → waiting_of log ≡ []
  -- nothing is left out
  pub without : waiting_of log ≡ without_around place (waiting_of log)
  pub ledger : ledger_of log ≡ ledger_behind (segment_size_of log) (one_around place (waiting_of log)) (ledger_of log)

-- The sealed buffer that has it can be written.
pub record CanWrite {D C : Type 0} {log : Log D C} {place : ℕ} (looked : LooksAt log place) (k : ℕ) : Type 0 where
  pub buffer : Sealed
  pub around : IsAround (place - looked.segment.parts.site.place) looked.segment.parts.written_len looked.segment.parts.sealed k buffer
  pub fresh : buffer.is_written ≡ false
  pub closed : buffer.open_count ≡ 0

module _ {D C : Type 0} {log : Log D C} {place : ℕ} (looked : LooksAt log place) where
  abbrev size : ℕ
  size = segment_size_of log

  abbrev v : SegmentView
  v = looked.segment

  abbrev n : ℕ
  n = looked.number

  abbrev line : List SegmentView
  line = line_of log

  -- where the segments in memory begin
  abbrev least : ℕ
  least = log.segments.first.site.place

  facts : IsSegment size (least + looked.number * size) looked.segment
  facts = nth_facts log looked.number looked.segment looked.among

  -- it lies in a buffer that is sealed, or written
  pub inside : place < v.parts.site.place + begin_of v
  inside = begin_above size log.reserved_to place line n v log.line.filled looked.among looked.high looked.lower

  waiting_found : found place (waiting_of log) ≡ found place (unwritten_of v.parts)
  waiting_found = found_there size least place line n v (line_segments log) looked.among looked.low looked.high

  -- the current buffer doesn't have it
  buffers_found : (sum : List ℕ → ℕ) → found place (buffers_of sum log) ≡ found place (waiting_of log)
  buffers_found sum = by_held (cases_lt 0 (held_len log)) where
    by_held : (0 < held_len log) ⊎ (held_len log ≤ 0) → found place (buffers_of sum log) ≡ found place (waiting_of log)
    by_held (inl some) =
        let adds = buffers_add sum log some in
        let begins : adds.more.place ≡ current_begin log = ap (λ (s : Span). s.place) adds.seen in
        let lower = looked.lower in
        ap (found place) adds.is ∙ found_front place (waiting_of log) (adds.more ∷ []) (omega (arith, begins, lower), tt)
    by_held (inr none) = ap (found place) (buffers_still sum log (omega (arith, none)))

  beyond : int_lt (pos place) (pos (synced_end log)) ≡ false
  beyond = let behind = looked.behind in grind (arith, ints, behind)

  not_current : nat_le (current_begin log) place ≡ false
  not_current = let lower = looked.lower in grind (arith, nat_tests, lower)

  settling_found : (sum : List ℕ → ℕ) (o : Option BufferAt) → found place (unwritten_of v.parts) ≡ o
      → settling sum log (pos place) ≡ writings size (free_of o) (ledger_of log)
  settling_found sum o is =
      let free : free_around place (buffers_of sum log) ≡ free_of o =
      free_found place (buffers_of sum log) ∙ ap free_of (buffers_found sum ∙ waiting_found ∙ is) in
      λ i. if beyond i then [] else writings size (free i) (if not_current i then ledger_sealed log else ledger_of log)

  held_at_found : (sum : List ℕ → ℕ) (o : Option BufferAt) → found place (unwritten_of v.parts) ≡ o → held_at sum log (pos place) ≡ held_of o
  held_at_found sum o is =
      ap (λ (t : Bool). if t then None else held_around place (buffers_of sum log)) beyond ∙ held_found place (buffers_of sum log)
      ∙ ap held_of (buffers_found sum ∙ waiting_found ∙ is)

  one_there : (o : Option BufferAt) → found place (unwritten_of v.parts) ≡ o → one_around place (waiting_of log) ≡ list_of o
  one_there o is = one_found place (waiting_of log) ∙ ap list_of (waiting_found ∙ is)

  still : found place (unwritten_of v.parts) ≡ None → IsStill log place
  still is =
      let none = waiting_found ∙ is in
      record {
        written = (looked.lower, none_found place (waiting_of log) ∙ ap is_none none);
        calls = λ sum. settling_found sum None is;
        held = λ sum. held_at_found sum None is;
        alone = λ all. all_found place (waiting_of log) all none;
        without = sym (without_none place (waiting_of log) none);
        ledger = ap (λ (l : List BufferAt). ledger_behind size l (ledger_of log)) (sym (one_there None is));
      }

  -- It lies in what was written without a gap,
  pub still_early : place - v.parts.site.place < v.parts.written_len → IsStill log place
  still_early early =
      let low = looked.low in
      still (found_above place (unwritten_of v.parts) (lie_begin (v.parts.site.place + v.parts.written_len) (suc place) (unwritten_of v.parts)
      (v.parts.site.place + begin_of v) (omega (arith, low, early))
      (unwritten_lie v.parts.site v.parts.bytes v.parts.written_len v.parts.sealed v.parts.reserved facts.are)))

  -- or in the sealed buffer that is the first to end behind it.
  module _ {k : ℕ} {b : Sealed} (around : IsAround (place - v.parts.site.place) v.parts.written_len v.parts.sealed k b) where
    off : place ≡ v.parts.site.place + (place - v.parts.site.place)
    off = let low = looked.low in omega (arith, low)

    -- its reservations
    abbrev own : List Reserved
    own = take b.count (drop (sealed_count (take k v.parts.sealed)) v.parts.reserved)

    abbrev behind_own : List Reserved
    behind_own = drop b.count (drop (sealed_count (take k v.parts.sealed)) v.parts.reserved)

    abbrev sought : BufferAt
    sought = buffer_at v.parts.site v.parts.bytes (sealed_end v.parts.written_len (take k v.parts.sealed)) b.end own

    found_sealed : found place (unwritten_of v.parts) ≡ left_of b.is_written sought
    found_sealed =
        ap (λ p. found p (unwritten_of v.parts)) off
        ∙ found_in v.parts.site v.parts.bytes (place - v.parts.site.place) v.parts.written_len v.parts.sealed v.parts.reserved k b facts.are around

    is_sealed : IsSealed (sealed_end v.parts.written_len (take k v.parts.sealed)) own b
    is_sealed = sealed_at v.parts.written_len v.parts.reserved v.parts.sealed k b facts.are around.there

    -- That is written already,
    pub still_gone : b.is_written ≡ true → IsStill log place
    still_gone written = still (found_sealed ∙ ap (λ o. left_of o sought) written)

    -- or has an open reservation,
    whole : own ++ behind_own ≡ drop (sealed_count (take k v.parts.sealed)) v.parts.reserved
    whole = take-append-drop b.count (drop (sealed_count (take k v.parts.sealed)) v.parts.reserved)

    some_open : 0 < b.open_count → 0 < open_in own
    some_open open_yet = let same = is_sealed.still_open in omega (arith, open_yet, same)

    pub some_held : 0 < b.open_count → (first : ℕ) → first ≡ sealed_count (take k v.parts.sealed) → 0 < open_in (drop first v.parts.reserved)
    some_held open_yet first is =
        let some = some_open open_yet in
        let le = open_front own behind_own in
        let all : open_in (own ++ behind_own) ≡ open_in (drop first v.parts.reserved) = ap open_in (whole ∙ ap (λ m. drop m v.parts.reserved) (sym is)) in
        omega (arith, some, le, all)

    pub found_held : b.is_written ≡ false → 0 < b.open_count → (sum : List ℕ → ℕ) (first : ℕ) → first ≡ sealed_count (take k v.parts.sealed)
        → (from : ℕ) × (first_open_in (drop first v.parts.reserved) ≡ Some from) × (held_at sum log (pos place) ≡ Some (v.parts.site.place + from))
        × (settling sum log (pos place) ≡ [])
    found_held unwritten_yet open_yet sum first is =
        let some = some_open open_yet in
        let least_open = first_there own some in
        let seen : found place (unwritten_of v.parts) ≡ Some sought = found_sealed ∙ ap (λ o. left_of o sought) unwritten_yet in
        let held : sought.held ≡ Some (v.parts.site.place + least_open.0) = ap (placed v.parts.site.place) least_open.1 in (
          least_open.0,
          ap (λ m. first_open_in (drop m v.parts.reserved)) is ∙ sym (ap first_open_in whole) ∙ first_front own behind_own some ∙ least_open.1,
          held_at_found sum (Some sought) seen ∙ held,
          settling_found sum (Some sought) seen ∙ ap (λ (o : Option ℕ). writings size (unless_held o (sought ∷ [])) (ledger_of log)) held,
        )

  -- or can be written.
  module _ {k : ℕ} (can : CanWrite looked k) where
    abbrev b : Sealed
    b = can.buffer

    abbrev its : BufferAt
    its = sought can.around

    abbrev pub is_ready_there : IsReadyIn line n k
    is_ready_there = record {
      segment = v;
      among = looked.among;
      buffer = b;
      there = can.around.there;
      ready = (
          let closed = can.closed in
          let none_open : (b.open_count == 0) ≡ true = grind (arith, nat_tests, closed) in
          ap (λ (o : Bool). if o then false else (b.open_count == 0)) can.fresh ∙ none_open);
    }

    free : its.held ≡ None
    free =
        let same = (is_sealed can.around).still_open in
        let closed = can.closed in
        ap (placed v.parts.site.place) (none_first (own can.around) (omega (arith, closed, same)))

    seen : found place (unwritten_of v.parts) ≡ Some its
    seen = found_sealed can.around ∙ ap (λ o. left_of o its) can.fresh

    pub held_none : (sum : List ℕ → ℕ) → held_at sum log (pos place) ≡ None
    held_none sum = held_at_found sum (Some its) seen ∙ free

    marked : its.mark ≡ mark_of k v
    marked =
        ap (λ e. mark_at (begin_at v k) (bytes_between v.parts.bytes (begin_at v k) e)) (sym (end_to v.parts.written_len v.parts.sealed k b can.around.there))

    pub settling_it : (sum : List ℕ → ℕ) → writing_in size (ledger_of log) line n k ≡ settling sum log (pos place)
    settling_it sum =
        ap (writing_of size (ledger_of log) k) looked.among
        ∙ ap (λ e. writing its.lid (bytes_between v.parts.bytes (sealed_end v.parts.written_len (take k v.parts.sealed)) e) []
        ++ (written_step size (mark_of k v) (ledger_of log)).calls) (end_to v.parts.written_len v.parts.sealed k b can.around.there)
        ∙ ap (λ (m : Option ℤ). writing its.lid its.bytes [] ++ (written_step size m (ledger_of log)).calls) (sym marked)
        ∙ sym (writings_one size its (ledger_of log))
        ∙ sym (ap (λ (o : Option ℕ). writings size (unless_held o (its ∷ [])) (ledger_of log)) free)
        ∙ sym (settling_found sum (Some its) seen)

    pub ledger_it : ledger_behind size (one_around place (waiting_of log)) (ledger_of log) ≡ written_ledger size (mark_of k v) (ledger_of log)
    ledger_it =
        ap (λ (l : List BufferAt). ledger_behind size l (ledger_of log)) (one_there (Some its) seen)
        ∙ ap (λ (m : Option ℤ). written_ledger size m (ledger_of log)) marked

    pub account_it : written_account (mark_of k v) (account_of log) ≡ account_behind (one_around place (waiting_of log)) (account_of log)
    account_it = sym (ap (λ (l : Ledger). l.account) ledger_it) ∙ ledger_account size (one_around place (waiting_of log)) (ledger_of log)

    found_marked : found place (unwritten_of (written_now k v).parts) ≡ None
    found_marked =
        ap (λ p. found p (unwritten_of (written_now k v).parts)) (off can.around)
        ∙ ap (found (v.parts.site.place + (place - v.parts.site.place)))
        (unwritten_run v.parts.site v.parts.bytes v.parts.written_len (written_at k v.parts.sealed) v.parts.reserved)
        ∙ found_written v.parts.site v.parts.bytes (place - v.parts.site.place) v.parts.written_len v.parts.sealed v.parts.reserved k b facts.are can.around

    left_out : unwritten_of (written_now k v).parts ≡ without_around place (unwritten_of v.parts)
    left_out =
        unwritten_run v.parts.site v.parts.bytes v.parts.written_len (written_at k v.parts.sealed) v.parts.reserved
        ∙ sym (without_in v.parts.site v.parts.bytes (place - v.parts.site.place) v.parts.written_len v.parts.sealed v.parts.reserved k b facts.are
        can.around)
        ∙ ap (λ p. without_around p (unwritten_of v.parts)) (sym (off can.around))

    -- Once that is written, the place is.
    module _ (new : Log D C) (wrote : line_of new ≡ promoted size (set line n (written_now k v))) where
      wrote_current : current_begin new ≡ current_begin log
      wrote_current = ap end_of wrote ∙ promoted_end size (set line n (written_now k v)) ∙ set_end line n v k looked.among

      wrote_waiting : waiting_of new ≡ unwritten (set line n (written_now k v))
      wrote_waiting =
          ap unwritten wrote
          ∙ promoted_unwritten size (set line n (written_now k v)) (set_within size line n v k b looked.among can.around.there is_ready_there.ready
          (segments_within size least line (line_segments log)))

      -- and that buffer is left out
      pub wrote_without : waiting_of new ≡ without_around place (waiting_of log)
      wrote_without =
          wrote_waiting ∙ without_line size least place line n v (written_now k v) (line_segments log) looked.among looked.low looked.high left_out

      wrote_found : found place (waiting_of new) ≡ None
      wrote_found =
          ap (found place) wrote_waiting
          ∙ found_line size least place line n v (written_now k v) (line_segments log) looked.among looked.low looked.high
          ∙ found_marked

      pub wrote_place : IsWrittenPlace new place
      wrote_place = (let lower = looked.lower in omega (arith, lower, wrote_current), none_found place (waiting_of new) ∙ ap is_none wrote_found)

      pub wrote_all : ((b : BufferAt) → Contains (waiting_of log) b → has_place place b ≡ true) → waiting_of new ≡ []
      wrote_all all =
          let was : (d : BufferAt) → Contains (waiting_of new) d → Contains (waiting_of log) d =
          λ d has. fewer_line line n k v d looked.among (subst (λ (l : List BufferAt). Contains l d) wrote_waiting has) in
          all_found place (waiting_of new) (λ d has. all d (was d has)) wrote_found

-- A place that is stable is on the device.
pub stable_written : {D C : Type 0} (log : Log D C) (place : ℕ) → place < synced_end log → IsWrittenPlace log place
stable_written log place below =
    let others = map segment_view log.segments.behind.items in
    let lie = line_lie (segment_size_of log) log.segments.first.site.place (segment_view log.segments.first) others (line_segments log) in
    let up = synced_up log in (
      omega (arith, below, up),
      none_found place (waiting_of log)
          ∙ ap is_none (found_above place (waiting_of log) (lie_begin (synced_end log) (suc place) (waiting_of log) (current_begin log) below lie)),
    )

pub held_stable : {D C : Type 0} (log : Log D C) (sum : List ℕ → ℕ) (lsn : ℤ) → lsn <ℤ pos (synced_end log) → held_at sum log lsn ≡ None
held_stable log sum lsn below =
    let yes : int_lt lsn (pos (synced_end log)) ≡ true = grind (arith, ints, below) in
    ap (λ (t : Bool). if t then None else held_around (unsigned_abs lsn) (buffers_of sum log)) yes

-- what is stable ends before the current buffer
pub stable_up : {D C : Type 0} (log : Log D C) (lsn : ℤ) → pos (current_begin log) ≤ℤ lsn → pos (synced_end log) ≤ℤ lsn
stable_up log lsn up =
    let low = synced_up log in
    omega (arith, ints, up, low)

-- a place stays on the device where the segments stay
pub written_still : {D C : Type 0} (mid new : Log D C) → line_of new ≡ line_of mid → (place : ℕ) → IsWrittenPlace mid place → IsWrittenPlace new place
written_still mid new same place is =
    let begin : current_begin new ≡ current_begin mid = ap end_of same in
    let low = is.0 in
    (omega (arith, low, begin), ap (λ (l : List SegmentView). none_around place (unwritten l)) same ∙ is.1)
