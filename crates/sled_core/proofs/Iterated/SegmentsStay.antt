-- A slot keeps its segment, whatever is called while a pin is out: where a slot is handed out it was free, marks change no segment, and no write frees one.
use Rattle.std.proofs.Common.{if◌then◌else◌, ◌≡◌, ◌≢◌, ◌∙◌, ◌+◌, ◌≤◌, ◌<◌, ℕ, Bool, true, false, nat_le, nat_lt, List, [], ◌∷◌, ◌++◌, length, take, set, max, refl, sym, ap, subst, arith}
use Rattle.std.specs.List.{Contains}
use Rattle.std.proofs.lemmas.Bool.{ltb-false, ltb-true, true≢false}
use Rattle.std.proofs.lemmas.List.{get_or-take, length-take}
use Rattle.sled_codec.specs.History.{History, Message}
use Rattle.sled_store.specs.Begin.{first_or}
use Rattle.sled_store.specs.Device.{Trace}
use Rattle.sled_store.specs.SegmentStates.{Machine, MayMark, SlotState, free_among, free_slot, handed_out, is_free, linked, next_slot, replaced, slot_at, taken_slot}
use Rattle.sled_store.specs.Tracked.{at}
use Rattle.sled_store.specs.declared.segment.slot.CacheInfo.{CacheInfo}
use Rattle.sled_store.proofs.Marks.MarkSteps.{IsSameSegment, linked_same}
use Rattle.sled_store.proofs.Marks.SameSlots.{replaced_segments}
use Rattle.sled_store.proofs.Marks.SlotLemmas.{Changes, Passes, free_behind, push_changes, set_changes, where_passes}
use Rattle.sled_store.proofs.Segments.Elements.{in_first}
use Rattle.sled_core.specs.declared.logger.Log.{Log}
use Rattle.sled_core.specs.Fits.{current_begin, current_of, is_moved, ledger_for, ledger_of, ledger_sealed, machine_at, machine_behind, position_of, segment_size_of, target_of}
use Rattle.sled_core.specs.Freeing.{Ledger}
use Rattle.sled_core.specs.Ledger.{ledger_behind}
use Rattle.sled_core.specs.OnFile.{HasSegment}
use Rattle.sled_core.specs.Positions.{Position, is_short, moved_on, next_segment_at}
use Rattle.sled_core.specs.ReadBuffer.{ledger_at}
use Rattle.sled_core.specs.Waiting.{BufferAt}
use Rattle.sled_core.specs.invariants.Running.{Fits}
use Rattle.sled_core.proofs.Line.PinnedWrites.{machine_pinned}

-- the slots from the tip on are free
abbrev CutOff : Machine → Type 0
CutOff m = (k : ℕ) → m.tip ≤ k → is_free (slot_at m k).state ≡ true

-- then the next one is
next_cut : (m : Machine) → CutOff m → is_free (slot_at m (next_slot m)).state ≡ true
next_cut m cut = by (free_among (take m.tip m.slots)) (where_passes (λ s. is_free s.state) 0 (take m.tip m.slots)) where
  by : (ks : List ℕ) → ((k : ℕ) → Contains ks k → Passes (λ s. is_free s.state) 0 (take m.tip m.slots) k)
      → is_free (at m.slots (first_or m.tip ks)).state ≡ true
  by [] passes = cut m.tip (omega arith)
  by (k ∷ ks) passes =
      let first : Passes (λ s. is_free s.state) 0 (take m.tip m.slots) k = passes k (in_first k ks) in
      let is : k ≡ first.index = omega (arith, first.is) in
      let lt : first.index < m.tip = omega (arith, first.there, length-take m.tip m.slots) in
      let same : at (take m.tip m.slots) first.index ≡ at m.slots k = get_or-take m.tip m.slots first.index free_slot lt ∙ ap (at m.slots) (sym is) in
      ap (λ (s : SlotState). is_free s.state) (sym same) ∙ first.passes

-- A place has a segment among slots of which those from the tip on are free.
record Stays (m : Machine) (place : ℕ) : Type 0 where
  has : HasSegment m place
  cut : CutOff m

-- So it is once one that was free has another segment, in front of the new tip,
stays_changed : (m : Machine) (place next i : ℕ) (new : Machine) → Changes m.slots i (taken_slot next) new.slots → is_free (slot_at m i).state ≡ true
    → i < new.tip → m.tip ≤ new.tip → Stays m place → Stays new place
stays_changed m place next i new changes free low up s =
    let k : ℕ = s.has.0 in
    let other : k ≢ i = (λ same. true≢false (sym free ∙ ap (λ j. is_free (slot_at m j).state) (sym same) ∙ s.has.1)) in
    let still : slot_at new k ≡ slot_at m k = changes.others k other in
    record {
      has = (k, ap (λ (x : SlotState). is_free x.state) still ∙ s.has.1, ap (λ (x : SlotState). x.lsn) still ∙ s.has.2);
      cut = λ j past. ap (λ (x : SlotState). is_free x.state) (changes.others j (λ same. omega (arith, past, low, same))) ∙ s.cut j (omega (arith, past, up));
    }

-- as it is where one is handed out.
stays_handed : (m : Machine) (next place : ℕ) → Stays m place → Stays (handed_out next m) place
stays_handed m next place s = by (nat_lt (next_slot m) (length m.slots)) refl where
  by : (b : Bool) → nat_lt (next_slot m) (length m.slots) ≡ b
      → Stays (record { slots = if b then set m.slots (next_slot m) (taken_slot next) else m.slots ++ taken_slot next ∷ []; tip = max m.tip (next_slot m + 1); cleaner = m.cleaner }) place
  by true lt =
      stays_changed m place next (next_slot m) _ (set_changes m.slots (next_slot m) (taken_slot next) (ltb-true (next_slot m) (length m.slots) lt))
      (next_cut m s.cut) (omega arith) (omega arith) s
  by false ge =
      stays_changed m place next (length m.slots) _ (push_changes m.slots (taken_slot next))
      (ap (λ (x : SlotState). is_free x.state) (free_behind m.slots (length m.slots) (omega arith)))
      (omega (arith, ltb-false (next_slot m) (length m.slots) ge)) (omega arith) s

-- A position may lie in a further segment.
stays_on : (size : ℕ) (q : Position) (b : Bool) (place : ℕ) → Stays q.machine place → Stays (if b then moved_on size q else q).machine place
stays_on size q true place s = stays_handed q.machine (q.begins + size) place s
stays_on size q false place s = s

module _ {D C : Type 0} (trace : D → Trace) (sum : List ℕ → ℕ) (log : Log D C) (H : History) (A f : ℕ) (U : List Message) (fits : Fits trace sum log H A f U)
    (place : ℕ) (has : HasSegment (machine_at log) place) where
  stays_now : Stays (machine_at log) place
  unfolding Fits
  stays_now = record { has = has; cut = fits.shows.account.account.cut_off }

  stays_next : Stays (position_of log).machine place
  stays_next = by (is_short (segment_size_of log) (length (current_of log).parts.bytes)) where
    by : (b : Bool) → Stays (if b then next_segment_at (segment_size_of log) (current_of log).parts.site.place (machine_at log)
        else record {
          place = (current_of log).parts.site.place + length (current_of log).parts.bytes;
          begins = (current_of log).parts.site.place;
          slot = (current_of log).parts.site.slot;
          machine = machine_at log;
        }).machine place
    by true = stays_handed (machine_at log) ((current_of log).parts.site.place + segment_size_of log) place stays_now
    by false = stays_now

  -- A reservation keeps it, and where the current buffer is sealed it is kept.
  pub segment_reserved : (page n : ℕ) → HasSegment (machine_behind log page n) place
  segment_reserved page n = by (is_moved log page n) where
    target : Stays (target_of log page n).machine place
    target = stays_on (segment_size_of log) (position_of log) _ place stays_next

    by : (b : Bool) → HasSegment (if b then (target_of log page n).machine else machine_at log) place
    by true = target.has
    by false = has

  pub segment_next : HasSegment (position_of log).machine place
  segment_next = stays_next.has

  pub segment_sealed : (at : ℕ) → HasSegment (ledger_for at log).machine place × HasSegment (ledger_at at log).machine place
  segment_sealed at = (by (nat_lt (current_begin log) at), by (nat_le (current_begin log) at)) where
    by : (b : Bool) → HasSegment (if b then ledger_sealed log else ledger_of log).machine place
    by true = segment_next
    by false = has

-- No write frees one while a pin is out.
pub segment_written : (size : ℕ) (bs : List BufferAt) (l : Ledger) (place : ℕ) → l.account.pinned ≡ true → HasSegment l.machine place
    → HasSegment (ledger_behind size bs l).machine place
segment_written size bs l place pinned has = subst (λ (m : Machine). HasSegment m place) (sym (machine_pinned size bs l pinned)) has

-- And marks change no segment.
segment_same : (m n : Machine) (place : ℕ) → ((k : ℕ) → IsSameSegment (slot_at m k) (slot_at n k)) → HasSegment m place → HasSegment n place
segment_same m n place same has = (has.0, (same has.0).free ∙ has.1, (same has.0).lsn ∙ has.2)

pub segment_linked : (size pid : ℕ) (info : CacheInfo) (m : Machine) (place : ℕ) → MayMark size m info [] → HasSegment m place
    → HasSegment (linked size pid info m) place
segment_linked size pid info m place may = segment_same m (linked size pid info m) place (linked_same size m info may.lies.taken pid)

pub segment_replaced : (size pid : ℕ) (info : CacheInfo) (old : List CacheInfo) (m : Machine) (place : ℕ) → MayMark size m info old → HasSegment m place
    → HasSegment (replaced size pid info old m) place
segment_replaced size pid info old m place may = segment_same m (replaced size pid info old m) place (λ k. replaced_segments size pid info old m may k)
