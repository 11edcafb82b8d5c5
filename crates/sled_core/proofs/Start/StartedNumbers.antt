-- A log begins: nothing that is the log's own is of a number that is still to come, nor, in the slot of a segment, of a greater one. The slots that the
-- snapshot
-- doesn't use were filled with zeros, and in those that it uses the numbers stay.
use Rattle.std.proofs.Common.{◌≡◌, ◌∙◌, ◌+◌, ◌-◌, ◌*◌, ◌/◌, ◌<◌, ◌≤◌, ℕ, ℤ, zero, suc, pos, Bool, true, false, not, if◌then◌else◌, unsigned_abs, List, [], ◌∷◌}
use Rattle.std.proofs.Common.{◌++◌, length, drop, map, replicate, get_or, Option, None, Some, IfSome, refl, sym, ap, subst, arith, inl, inr}
use Rattle.std.specs.List.{Contains}
use Rattle.std.proofs.Math.Nat.{div-mul-le_self, mod-add-div', mul-div_cancel, mul-le-mul_right}
use Rattle.std.proofs.lemmas.List.{get_or-drop, get_or-take, get_or_past}
use Rattle.std.proofs.lemmas.List.Elements.{All-contains, Contains-append_cases}
use Rattle.std.proofs.lemmas.List.FromFn.{get_or-map-range_with_len, length-map-range_with_len}
use Rattle.sled_codec.specs.declared.result.DiskPtr.TheVariants.{Inline}
use Rattle.sled_codec.specs.Coords.{raised}
use Rattle.sled_codec.specs.History.{History, Message}
use Rattle.sled_codec.specs.Places.{part}
use Rattle.sled_codec.specs.Pointers.{lid_of}
use Rattle.sled_codec.specs.Record.{IsHeader}
use Rattle.sled_codec.specs.Snapshots.{Entry, SnapshotModel, stable_place}
use Rattle.sled_codec.proofs.Segments.{one_header}
use Rattle.sled_store.specs.Begin.{IsStartable, MayBeActive, entries_of, fill, filling, first_or, is_used, place_at, segment_number_of, slot_of, slots_of}
use Rattle.sled_store.specs.Begin.{unused}
use Rattle.sled_store.specs.Device.{Cut, Event, LogState, State, Synced, Trace, Wrote, at_rest, state_of, step}
use Rattle.sled_store.specs.Marks.{slot_with}
use Rattle.sled_store.specs.Script.{Performs, after_all}
use Rattle.sled_store.specs.SegmentStates.{Machine, SlotState, cutting, free_slot, is_free, may_be_cut, next_slot, slot_at}
use Rattle.sled_store.specs.SlotTables.{active_entry, number_in}
use Rattle.sled_store.specs.Started.{all_entries, found, found_slot, started}
use Rattle.sled_store.specs.inside.Script.{Along}
use Rattle.sled_store.proofs.Accounts.StartNext.{free_found, next_started}
use Rattle.sled_store.proofs.Accounts.StartedFile.{started_file}
use Rattle.sled_store.proofs.Own.NoRecord.{no_kind}
use Rattle.sled_store.proofs.Own.ReachedLemmas.{record_some}
use Rattle.sled_store.proofs.Segments.Elements.{in_cases, in_nothing}
use Rattle.sled_store.proofs.Segments.FilledLemmas.{first_there, free_below}
use Rattle.sled_store.proofs.Traces.MomentLemmas.{at_last}
use Rattle.sled_store.proofs.Traces.ScriptLemmas.{along_last, performs_throughout}
use Rattle.sled_core.specs.Begun.{SegmentView}
use Rattle.sled_core.specs.FreeSlots.{begun_machine, with_current}
use Rattle.sled_core.specs.Logged.{logged}
use Rattle.sled_core.specs.Ready.{HasActive, HasFile}
use Rattle.sled_core.specs.Recoverable.{NoHeaderOfZeros}
use Rattle.sled_core.specs.Starts.{site_from}
use Rattle.sled_core.specs.declared.iobuf.SegmentPosition.{SegmentPosition}
use Rattle.sled_core.specs.inside.Begun.{line_end}
use Rattle.sled_core.specs.inside.FreeSlots.{HaveOwn}
use Rattle.sled_core.specs.inside.Hides.{IsOwnHeader, IsOwnRecord, LiesInSlot}
use Rattle.sled_core.specs.inside.Numbers.{HasNumber, HasNumbers, NumbersStay}
use Rattle.sled_core.specs.inside.Running.{IsReadyFor}
use Rattle.sled_core.proofs.Logged.Alike.{table_alike}
use Rattle.sled_core.proofs.Logged.Messages.{logged_twice}
use Rattle.sled_core.proofs.Numbers.OwnLess.{OwnLess, less_cut, less_synced, less_then, less_zeros}
use Rattle.sled_core.proofs.Numbers.Stay.{number_less}
use Rattle.sled_core.proofs.Numbers.Stood.{own_header_stands, own_record_stands}
use Rattle.sled_core.proofs.Reached.StartedStands.{slot_needed}
use Rattle.sled_core.proofs.Read.FoundLemmas.{pos_injective}
use Rattle.sled_core.proofs.Start.BegunSlots.{next_within}
use Rattle.sled_core.proofs.Start.Entries.{entry_message}
use Rattle.sled_core.proofs.Start.FreeSlots.{started_free}
use Rattle.sled_core.proofs.Start.HandedNumbers.{numbers_handed}
use Rattle.sled_core.proofs.Start.OpenLemmas.{begins_place}
use Rattle.sled_core.proofs.Start.OwnSlots.{HasFound, found_taken, low_active, low_raised, own_started}
use Rattle.sled_core.proofs.Torn.AlikeSlots.{slot_found}
use Rattle.sled_core.proofs.Torn.KeptSlots.{along_both}
use Rattle.sled_core.proofs.Torn.WrittenBegun.{part_zeros}
use Rattle.sled_core.proofs.Torn.WrittenParts.{twenty}

-- Along the calls of a start less and less is own: zeros are written, and slots cut off.
module _ (sum : List ℕ → ℕ) (size : ℕ) (none : NoHeaderOfZeros sum) (old : State) where
  abbrev Less : State → Type 0
  Less x = OwnLess sum size x old

  filled_less : (k : ℕ) (torn : List ℕ) (x : State) → Less x → Less (step (Wrote (k * size) (replicate size 0) torn) x)
  filled_less k torn x less = less_then sum size _ x old (less_zeros sum size none (k * size) size torn x) less

  synced_less : (x : State) → Less x → Less (step Synced x)
  synced_less x less = less_then sum size _ x old (less_synced sum size x) less

  cut_less : (asked now : ℕ) (x : State) → Less x → Less (step (Cut asked now) x)
  cut_less asked now x less = less_then sum size _ x old (less_cut sum size asked now x) less

  fills_less : (ks : List ℕ) (x : State) → Less x → Along Less (map (fill size) ks ++ Synced ∷ []) x
  fills_less [] x less = (less, (λ torn none. absurd none), synced_less x less)
  fills_less (k ∷ ks) x less = (
    less,
    (λ torn tears. subst (λ (e : Event). Less (step e x)) (sym tears.2) (filled_less k tears.0 x less)),
    fills_less ks (step (fill size k) x) (filled_less k (replicate size 0) x less),
  )

  filling_less : (ks : List ℕ) (x : State) → Less x → Along Less (filling size ks) x
  filling_less [] x less = less
  filling_less (k ∷ ks) x less = fills_less (k ∷ ks) x less

  cutting_less : (xs : List SlotState) (n : ℕ) (x : State) → Less x → Along Less (cutting size n xs) x
  cutting_less xs zero x less = less
  cutting_less xs (suc k) x less = by (may_be_cut k xs) (cutting_less xs k (step Synced behind) (synced_less behind after)) where
    behind : State
    behind = step (Cut (k * size) (k * size)) x

    after : Less behind
    after = cut_less (k * size) (k * size) x less

    by : (b : Bool) → Along Less (cutting size k xs) (step Synced behind) → Along Less
        (if b then Cut (k * size) (k * size) ∷ Synced ∷ cutting size k xs else []) x
    by false on = less
    by true on = (
      less,
      (λ torn tears. subst (λ (e : Event). Less (step e x)) (sym tears.2) (cut_less (k * size) tears.0 x less)),
      (after, (λ torn none. absurd none), on),
    )

pub starting_less : (sum : List ℕ → ℕ) (size : ℕ) → NoHeaderOfZeros sum → (len : ℕ) (s : SnapshotModel) (t : Trace)
    → Along (λ x. OwnLess sum size x (state_of t)) (started size len s).calls (state_of t)
starting_less sum size none len s t =
    let free : List ℕ = unused size (slots_of size len) s in
    let Less' : State → Type 0 = λ x. OwnLess sum size x (state_of t) in
    let fills = filling_less sum size none (state_of t) free (state_of t) (record { records = λ number at text own. own; headers = λ k place mark own. own }) in
    along_both Less' (filling size free) (cutting size (slots_of size len) (found size (slots_of size len) s).slots) t fills
    (cutting_less sum size none (state_of t) (found size (slots_of size len) s).slots (slots_of size len) (state_of (after_all (filling size free) t))
    (along_last Less' (filling size free) t fills))

-- The slot that a started accountant hands out next is free.
next_is_free : (size len : ℕ) (s : SnapshotModel) → is_free (slot_at (started size len s).machine (next_slot (started size len s).machine)).state ≡ true
next_is_free size len s = subst IsFree (sym (next_started size len s)) (elim (first_there slots free) [
  | inl there ↦ (
      let its = All-contains (λ k. (k < slots) × (is_used size s k ≡ false)) free lowest (free_below (is_used size s) slots) there in
      ap (λ (x : SlotState). is_free x.state)
      (get_or-map-range_with_len (λ j. found_slot size s j (number_in size j (all_entries s))) 0 slots lowest lowest free_slot its.0 (omega arith))
      ∙ free_found size s lowest
      ∙ ap not its.1)
  | inr behind ↦ subst IsFree (sym behind) (ap (λ (x : SlotState). is_free x.state) (get_or_past (found size slots s).slots slots free_slot
      (let long = length-map-range_with_len (λ j. found_slot size s j (number_in size j (all_entries s))) 0 slots in omega (arith, long))))
]) where
  slots : ℕ
  slots = slots_of size len

  free : List ℕ
  free = unused size slots s

  lowest : ℕ
  lowest = first_or slots free

  IsFree : ℕ → Type 0
  IsFree k = is_free (slot_at (started size len s).machine k).state ≡ true

module _ (sum : List ℕ → ℕ) (size : ℕ) (long : 256 ≤ size) (zeros : NoHeaderOfZeros sum) (old new : Trace) (s : SnapshotModel) (H : History) (A f : ℕ)
    (ready : IsReadyFor sum size (state_of old) s H A f) (startable : IsStartable size (length (state_of old).log.bytes) s)
    (calls : Performs (started size (length (state_of old).log.bytes) s).calls old new)
    (log_now : (state_of new).log ≡ at_rest (started_file size (state_of old).log.bytes s)) where
  abbrev before : State
  before = state_of old

  abbrev now : State
  now = state_of new

  abbrev log : List ℕ
  log = before.log.bytes

  abbrev file : List ℕ
  file = started_file size log s

  abbrev stable : ℕ
  stable = stable_place s.stable

  abbrev start : Machine
  start = (started size (length log) s).machine

  some : 0 < size
  some = omega (arith, long)

  rests : before.log ≡ at_rest log
  rests = ready.ready.settled ∙ ap (λ (l : LogState). at_rest l.bytes) (sym ready.ready.settled)

  was : NumbersStay sum size before H stable
  was = ready.numbers zeros

  less : OwnLess sum size now before
  less =
      at_last (λ x. OwnLess sum size x before) old new
      (performs_throughout (λ x. OwnLess sum size x before) (started size (length log) s).calls old new calls (starting_less sum size zeros (length log) s old))

  -- In a free slot nothing is own: neither a record
  no_record : (k n at : ℕ) (text : List ℕ) → is_free (slot_at start k).state ≡ true → LiesInSlot size k at text → IsOwnRecord sum size now n at text → ⊥
  no_record k n at text free inside own =
      let stands : part file at (length text) ≡ text = own_record_stands sum size new file log_now n at text own in
      let some_text = record_some sum text own.kind own.page n own.body own.is in
      no_kind sum text own.kind own.page n own.body own.is
      (ap (λ (l : List ℕ). get_or l 4 0) (sym stands)
      ∙ get_or-take (length text) (drop at file) 4 0 (omega (arith, some_text))
      ∙ get_or-drop at file 4 0
      ∙ started_free size some log s k free (at + 4) (omega (arith, inside.0)) (omega (arith, inside.1, some_text)))

  -- nor a header.
  no_header : (k place : ℕ) (mark : ℤ) → is_free (slot_at start k).state ≡ true → IsOwnHeader sum size now k place mark → ⊥
  no_header k place mark free own =
      let header = own_header_stands sum size new file log_now k place mark own in
      zeros (pos place) mark (subst (λ (l : List ℕ). IsHeader sum l (pos place) mark)
      (part_zeros file (k * size) 20 (twenty sum size file (k * size) (pos place) mark header)
      (λ i above below. started_free size some log s k free i above (omega (arith, below, long)))) header)

  -- In the slot of a segment nothing own has a greater number, and the header there is that of the segment.
  record Keeps (k : ℕ) : Type 0 where
    bound : HasNumber sum size now k ((slot_at start k).lsn / size)
    head : (place : ℕ) (mark : ℤ) → IsHeader sum (part log (k * size) 20) (pos place) mark → (slot_at start k).lsn ≡ place

  module _ (k : ℕ) (e : HasFound size (length log) some s k) where
    -- its entry is one of the pages
    of_page : Contains (entries_of s.pages) e.entry → Keeps k
    of_page there =
        let found_m = entry_message s.pages H stable (table_alike (logged H) H (logged_twice H) s.pages stable ready.ready.table) e.entry there in
        let m : Message = found_m.1 in
        let of_m = found_m.3 in
        let number : segment_number_of size e.entry ≡ m.place / size = ap (λ z. unsigned_abs z / size) of_m.place in
        let slot : slot_with size m ≡ k = ap (λ p. lid_of p / size) (sym of_m.pointer) ∙ e.slot in
        let same : (slot_at start k).lsn / size ≡ m.place / size = ap (λ n. n / size) e.is ∙ mul-div_cancel (segment_number_of size e.entry) some ∙ number in
        let logged_m = entry_message s.pages (logged H) stable ready.ready.table e.entry there in
        let of = (ready.alone.stands.needed stable ready.alone.stands.from_high (omega arith) logged_m.0 logged_m.1 logged_m.2).0 in
        let in_slot : of.segment.slot / size ≡ k =
        slot_needed sum size log (logged H) stable logged_m.1 of ∙ ap (λ p. lid_of p / size) (sym logged_m.3.pointer) ∙ e.slot in
        let begins : of.segment.slot ≡ k * size = slot_found sum size log 0 of.segment of.found ∙ ap (λ n. n * size) in_slot in
        let its = subst (λ n. IsHeader sum (part log n 20) (pos of.segment.place) of.segment.mark) begins of.found.header in
        let place_is : segment_number_of size e.entry * size ≡ logged_m.1.place / size * size = ap (λ z. unsigned_abs z / size * size) logged_m.3.place in
        record {
          bound = subst (λ n. HasNumber sum size now k n) (sym same)
              (subst (λ j. HasNumber sum size now j (m.place / size)) slot
              (number_less sum size now before less (slot_with size m) (m.place / size) (was.entries stable found_m.0 m (omega arith) found_m.2)));
          head = λ place mark header.
              let one = pos_injective of.segment.place place
              (one_header sum (part log (k * size) 20) (pos of.segment.place) of.segment.mark (pos place) mark its header).0 in
              e.is ∙ place_is ∙ sym of.place ∙ one;
        }

    -- or it is that of the active segment
    of_active : (a : ℕ) → s.active ≡ Some a → (pos stable, Inline a, 0) ≡ e.entry → Keeps k
    of_active a active same =
        let place : ℕ = stable / size * size in
        let may : MayBeActive size (slots_of size (length log)) stable a =
        subst (λ (o : Option ℕ). IfSome o (MayBeActive size (slots_of size (length log)) stable)) active startable.active in
        let aligned = may.aligned in
        let slot : a / size ≡ k = ap (λ (x : Entry). slot_of size x) same ∙ e.slot in
        let begins : a ≡ k * size = (let rows = ap (λ n. n * size) slot in omega (arith, rows, mod-add-div' a size, aligned)) in
        let lsn : (slot_at start k).lsn ≡ place = e.is ∙ ap (λ (x : Entry). segment_number_of size x * size) (sym same) in
        let has : HasActive sum size ready.ready.log s a (logged H) =
        subst (λ (o : Option ℕ). HasFile sum size ready.ready.log s o (logged H)) active ready.ready.file in
        let mark : ℤ = has.header.mark in
        let header : IsHeader sum (part log (k * size) 20) (pos place) mark =
        subst (λ (l : List ℕ). IsHeader sum (part l (k * size) 20) (pos place) mark) (sym (ap (λ (l : LogState). l.bytes) ready.ready.settled))
        (subst (λ n. IsHeader sum (part ready.ready.log n 20) (pos place) mark) begins has.header.header) in
        let own_head : IsOwnHeader sum size before k place mark =
        record { text = part log (k * size) 20; is = header; placed = (ready.own zeros k).header (pos place) mark header } in
        record {
          bound = subst (λ p. HasNumber sum size now k (p / size)) (sym lsn)
              (number_less sum size now before less k (place / size) (was.later k place mark own_head (omega arith)));
          head = λ p mark' other. lsn ∙ pos_injective place p (one_header sum (part log (k * size) 20) (pos place) mark (pos p) mark' header other).0;
        }

    keeps_found : Keeps k
    keeps_found = elim (Contains-append_cases (active_entry stable s.active) (entries_of s.pages) e.entry e.among) [
      | inl active ↦ by s.active refl active
      | inr there ↦ of_page there
    ] where
      by : (o : Option ℕ) → s.active ≡ o → Contains (active_entry stable o) e.entry → Keeps k
      by None none there = absurd (in_nothing e.entry there)
      by (Some a) active there = elim (in_cases (pos stable, Inline a, 0) e.entry [] there) [
        | inl same ↦ of_active a active same
        | inr nothing ↦ absurd (in_nothing e.entry nothing)
      ]

  -- what isn't free keeps its number
  keeps : (k : ℕ) → is_free (slot_at start k).state ≡ false → Keeps k
  keeps k taken = keeps_found k (found_taken size (length log) some s k taken)

  -- what is own lies in a slot that isn't free
  by_state : {P : Type 0} (k : ℕ) → (is_free (slot_at start k).state ≡ true → ⊥) → (is_free (slot_at start k).state ≡ false → P) → P
  by_state {P} k not_free go = by (is_free (slot_at start k).state) refl where
    by : (b : Bool) → is_free (slot_at start k).state ≡ b → P
    by true free = absurd (not_free free)
    by false taken = go taken

  lie : (number at : ℕ) (text : List ℕ) → IsOwnRecord sum size now number at text → (k : ℕ) × LiesInSlot size k at text
  lie number at text own = was.lie number at text (less.records number at text own)

  numbers_started : (end : ℕ) → HaveOwn size end start → HasNumbers sum size 0 now start end
  numbers_started end has = record {
    to_come = λ number at text own.
        let inside = lie number at text own in
        let k : ℕ = inside.0 in
        by_state k (λ free. no_record k number at text free inside.1 own) (λ taken.
        let low = (keeps k taken).bound.greatest number at text inside.1 own in
        let under = has.below k taken in
        let rows = mul-le-mul_right size low in
        omega (arith, rows, div-mul-le_self (slot_at start k).lsn size, under, long));
    taken = λ k taken. (keeps k taken).bound;
    headers = λ k place mark low own. by_state k (λ free. no_header k place mark free own)
        (λ taken. (taken, (keeps k taken).head place mark (own_header_stands sum size old log rests k place mark (less.headers k place mark own))));
    lie = lie;
  }

  -- So it is once the log has begun its segment.
  numbers_begun : HasNumbers sum size 0 now (begun_machine size (length log) s) (place_at size stable s.active + size)
  numbers_begun = by s.active refl where
    Ends : Option ℕ → Entry → Type 0
    Ends o e = Contains (active_entry stable o ++ entries_of s.pages) e

    by : (o : Option ℕ) → s.active ≡ o → HasNumbers sum size 0 now (with_current (place_at size stable o) o start) (place_at size stable o + size)
    by (Some a) active =
        numbers_started (stable / size * size + size) (own_started size (length log) some s startable (stable / size * size + size)
        (λ e there. low_active size (length log) some s startable a e (subst (λ (o : Option ℕ). Ends o e) active there)))
    by None none =
        numbers_handed sum size some start (next_within size (length log) s) (next_is_free size (length log) s) (raised size stable) now
        (raised size stable + size) (ap (λ n. n * size) (mul-div_cancel ((stable + (size - 1)) / size) some)) (omega arith)
        (numbers_started (raised size stable) (own_started size (length log) some s startable (raised size stable)
        (λ e there. low_raised size (length log) some s startable e (subst (λ (o : Option ℕ). Ends o e) none there))))

  pub start_numbers : {size' : ℕ} → size' ≡ size → {m : Machine} → m ≡ begun_machine size (length log) s → (v : SegmentView)
      → v.parts.site ≡ site_from size (length log) s → HasNumbers sum size' 0 now m (line_end size' (v ∷ []))
  start_numbers same {m} machine v site =
      let place : v.parts.site.place ≡ place_at size stable s.active =
      ap (λ (p : SegmentPosition). p.place) site ∙ begins_place size (slots_of size (length log)) stable
      (unused size (slots_of size (length log)) s) s.active in
      subst (λ n. HasNumbers sum n 0 now m (line_end n (v ∷ []))) (sym same)
      (subst (λ (x : Machine). HasNumbers sum size 0 now x (line_end size (v ∷ []))) (sym machine)
      (subst (HasNumbers sum size 0 now (begun_machine size (length log) s)) (omega (arith, place)) numbers_begun))
