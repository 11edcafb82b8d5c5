-- What a step of the accountant makes of the slots: each is as it was, or a segment was in it that was due, or that wasn't active before. That isn't active any
-- more, and is in the slot still, or has left it. And which calls the step comes to: a blob is removed that goes with a segment which is due, and the file is
-- cut off at a slot from which on all are free when the step ends.
use Rattle.std.proofs.Common.{◌≡◌, ◌≢◌, ◌∙◌, ◌⊎◌, ◌+◌, ◌-◌, ◌*◌, ◌/◌, ◌≤◌, ◌&&◌, ◌==◌, ◌++◌, ℕ, zero, suc, ℤ, Bool, true, false, not, nat_lt, nat_le}
use Rattle.std.proofs.Common.{if◌then◌else◌, List, [], ◌∷◌, length, filter, map, set, get_or, take, refl, sym, ap, subst, arith, inl, inr, length-set}
use Rattle.std.specs.List.{Contains}
use Rattle.std.proofs.lemmas.Bool.{true≢false, and_parts, cases_Bool, cases_eq, cases_lt}
use Rattle.std.proofs.lemmas.List.Elements.{All-contains}
use Rattle.sled_store.specs.Device.{Event, Cut, Synced}
use Rattle.sled_store.specs.SegmentStates.{Machine, SlotState, Step, active_among, active_place, cutting, deactivated, drained, drained_if_sparse}
use Rattle.sled_store.specs.SegmentStates.{drained_if_wasteful, drained_slot, free_among, free_slot, freed, freed_if_done, in_turn, inactive_among}
use Rattle.sled_store.specs.SegmentStates.{inactive_slot, is_active, is_active_place, is_done, is_due, is_free, is_inactive, is_sparse, is_wasteful}
use Rattle.sled_store.specs.SegmentStates.{may_be_cut, slot_at, stabilized, tested, waited_place, waiting_among, waiting_for, with_slot}
use Rattle.sled_store.specs.Blobs.{removing_blobs}
use Rattle.sled_store.specs.Tracked.{at}
use Rattle.sled_store.proofs.Accounts.StabilSlots.{active_is, done_drains, waits_at}
use Rattle.sled_store.proofs.Accounts.StartNext.{cut_free, left_below}
use Rattle.sled_store.proofs.Marks.DeactivationSteps.{active_parts}
use Rattle.sled_store.proofs.Marks.MarkSteps.{inactive_not_active, inactive_taken}
use Rattle.sled_store.proofs.Marks.SlotLemmas.{Distinct, HasPlace, by_distinct, by_has, distinct_filter, each_slot, set_changes, taken_there}
use Rattle.sled_store.proofs.Marks.StabilizeSteps.{wasteful_inactive}
use Rattle.sled_store.proofs.Marks.StepCalls.{AreStepCalls, cuts, no_call, removing_calls, step_calls_more, step_calls_then}
use Rattle.sled_store.proofs.Segments.Elements.{from_filter, in_first, in_rest}

-- One slot.

-- A segment was in a slot, which was due where it was active. What is there now isn't active: it is that segment, or none.
pub record WasLeft (Due : Type 0) (old new : SlotState) : Type 0 where
  pub taken : is_free old.state ≡ false
  pub due : is_active old.state ≡ true → Due
  pub idle : is_active new.state ≡ false
  pub now : ((is_free new.state ≡ false) × (new.lsn ≡ old.lsn)) ⊎ (new ≡ free_slot)

-- a slot is as it was, or was left
abbrev pub IsMoved : Type 0 → SlotState → SlotState → Type 0
IsMoved Due old new = (new ≡ old) ⊎ WasLeft Due old new

module _ (Due : Type 0) (old new : SlotState) (moved : IsMoved Due old new) where
  -- one that was free is as it was,
  pub free_moved : is_free old.state ≡ true → new ≡ old
  free_moved free = elim moved [ inl same ↦ same | inr left ↦ absurd (true≢false (sym free ∙ left.taken)) ]

  -- and so is one that is active now, and one that was active and wasn't due.
  pub active_moved : is_active new.state ≡ true → new ≡ old
  active_moved active = elim moved [ inl same ↦ same | inr left ↦ absurd (true≢false (sym active ∙ left.idle)) ]

  pub undue_moved : is_active old.state ≡ true → (Due → ⊥) → new ≡ old
  undue_moved active early = elim moved [ inl same ↦ same | inr left ↦ absurd (early (left.due active)) ]

moved_then : (Due : Type 0) (old mid new : SlotState) → IsMoved Due old mid → IsMoved Due mid new → IsMoved Due old new
moved_then Due old mid new (inl same) more = subst (λ (s : SlotState). IsMoved Due s new) same more
moved_then Due old mid new (inr left) (inl same) = subst (IsMoved Due old) (sym same) (inr left)
moved_then Due old mid new (inr first) (inr second) =
    inr (record { taken = first.taken; due = first.due; idle = second.idle; now = by first.now second.now }) where
      by : ((is_free mid.state ≡ false) × (mid.lsn ≡ old.lsn)) ⊎ (mid ≡ free_slot) → ((is_free new.state ≡ false) × (new.lsn ≡ mid.lsn)) ⊎ (new ≡ free_slot)
          → ((is_free new.state ≡ false) × (new.lsn ≡ old.lsn)) ⊎ (new ≡ free_slot)
      by (inr none) still = absurd (true≢false (sym (ap (λ (s : SlotState). is_free s.state) none) ∙ second.taken))
      by (inl there) (inl still) = inl (still.0, still.1 ∙ there.1)
      by (inl there) (inr none) = inr none

-- All slots.

-- so it is with each slot
abbrev pub AreMoved : (ℕ → Type 0) → List SlotState → List SlotState → Type 0
AreMoved Due old new = (k : ℕ) → IsMoved (Due k) (at old k) (at new k)

-- from a slot on all are free
abbrev pub AreFreeFrom : List SlotState → ℕ → Type 0
AreFreeFrom slots n = (k : ℕ) → n ≤ k → is_free (at slots k).state ≡ true

-- a blob goes with a segment that is active and due
pub record GoesWith (Due : ℕ → Type 0) (slots : List SlotState) (blob : ℤ) : Type 0 where
  pub slot : ℕ
  pub active : is_active (at slots slot).state ≡ true
  pub due : Due slot
  pub there : Contains (at slots slot).blobs blob

-- A machine, and what is made of it with these calls: all that is said above of a step.
pub record IsStepOf (size : ℕ) (Due : ℕ → Type 0) (old new : Machine) (made : List Event) : Type 0 where
  pub slots : AreMoved Due old.slots new.slots
  pub long : length new.slots ≡ length old.slots
  pub tip : new.tip ≤ old.tip
  pub cut_off : AreFreeFrom new.slots new.tip
  pub calls : AreStepCalls size (GoesWith Due old.slots) (AreFreeFrom new.slots) made

module _ (size : ℕ) (Due : ℕ → Type 0) where
  pub made_same : (m : Machine) → AreFreeFrom m.slots m.tip → IsStepOf size Due m m []
  made_same m cut_off = record { slots = λ k. inl refl; long = refl; tip = omega arith; cut_off = cut_off; calls = no_call }

  pub made_then : (m n o : Machine) (es fs : List Event) → IsStepOf size Due m n es → IsStepOf size Due n o fs → IsStepOf size Due m o (es ++ fs)
  made_then m n o es fs first second = record {
    slots = λ k. moved_then (Due k) (at m.slots k) (at n.slots k) (at o.slots k) (first.slots k) (second.slots k);
    long = second.long ∙ first.long;
    tip = omega (arith, first.tip, second.tip);
    cut_off = second.cut_off;
    calls = step_calls_then size (GoesWith Due m.slots) (AreFreeFrom o.slots) es fs
        (step_calls_more size (GoesWith Due m.slots) (AreFreeFrom n.slots) (GoesWith Due m.slots) (AreFreeFrom o.slots) (λ blob goes. goes) still_free es
        first.calls)
        (step_calls_more size (GoesWith Due n.slots) (AreFreeFrom o.slots) (GoesWith Due m.slots) (AreFreeFrom o.slots) went (λ k free. free) fs second.calls);
  } where
    still_free : (k : ℕ) → AreFreeFrom n.slots k → AreFreeFrom o.slots k
    still_free k free j le =
        ap (λ (s : SlotState). is_free s.state) (free_moved (Due j) (at n.slots j) (at o.slots j) (second.slots j) (free j le)) ∙ free j le

    went : (blob : ℤ) → GoesWith Due n.slots blob → GoesWith Due m.slots blob
    went blob goes =
        let k : ℕ = goes.slot in
        let same : at n.slots k ≡ at m.slots k = active_moved (Due k) (at m.slots k) (at n.slots k) (first.slots k) goes.active in
        record {
          slot = k;
          active = ap (λ (s : SlotState). is_active s.state) (sym same) ∙ goes.active;
          due = goes.due;
          there = subst (λ (s : SlotState). Contains s.blobs blob) same goes.there;
        }

  -- One slot is left.
  module _ (m : Machine) (k : ℕ) (s : SlotState) (left : WasLeft (Due k) (slot_at m k) s) where
    left_moved : AreMoved Due m.slots (set m.slots k s)
    left_moved =
        each_slot (λ j x. IsMoved (Due j) (at m.slots j) x) m.slots k s (set m.slots k s) (set_changes m.slots k s (taken_there m.slots k left.taken))
        (inr left) (λ j other. inl refl)

    left_free : (n : ℕ) → AreFreeFrom m.slots n → AreFreeFrom (set m.slots k s) n
    left_free n free j le =
        ap (λ (x : SlotState). is_free x.state) (free_moved (Due j) (at m.slots j) (at (set m.slots k s) j) (left_moved j) (free j le)) ∙ free j le

    pub left_made : (cleaner : List (ℕ × List ℕ)) (es : List Event) → AreFreeFrom m.slots m.tip
        → AreStepCalls size (GoesWith Due m.slots) (AreFreeFrom (set m.slots k s)) es
        → IsStepOf size Due m (record { slots = set m.slots k s; tip = m.tip; cleaner = cleaner }) es
    left_made cleaner es cut_off calls =
        record { slots = left_moved; long = length-set m.slots k s; tip = omega arith; cut_off = left_free m.tip cut_off; calls = calls }

  -- Each cut leaves free slots out.
  cutting_calls : (MayGo : ℤ → Type 0) (slots : List SlotState) (tip : ℕ) → AreFreeFrom slots tip
      → AreStepCalls size MayGo (AreFreeFrom slots) (cutting size tip slots)
  cutting_calls MayGo slots zero free = no_call
  cutting_calls MayGo slots (suc k) free = by (may_be_cut k slots) refl (cutting_calls MayGo slots k) where
    by : (b : Bool) → may_be_cut k slots ≡ b → (AreFreeFrom slots k → AreStepCalls size MayGo (AreFreeFrom slots) (cutting size k slots))
        → AreStepCalls size MayGo (AreFreeFrom slots) (if b then Cut (k * size) (k * size) ∷ Synced ∷ cutting size k slots else [])
    by false stays more = no_call
    by true goes more = cuts k (cutting size k slots) from (more from) where
      from : AreFreeFrom slots k
      from j le = elim (cases_eq j k) [
        | inl same ↦ subst (λ (i : ℕ). is_free (at slots i).state ≡ true) (sym same)
            (and_parts (is_free (at slots k).state) (nat_lt 1 (length (free_among (take (suc k) slots)))) goes).0
        | inr other ↦ free j (omega (arith, le, other))
      ]

  -- A slot that is done is freed.
  freed_made : (m : Machine) (k : ℕ) → AreFreeFrom m.slots m.tip → is_done (slot_at m k) ≡ true
      → IsStepOf size Due m (freed size k m).machine (freed size k m).calls
  freed_made m k cut_off done = record {
    slots = left_moved m k free_slot left;
    long = length-set m.slots k free_slot;
    tip = left_below slots m.tip;
    cut_off = λ j le. elim (cases_lt j m.tip) [ inl lt ↦ cut_free m.tip slots j le lt | inr high ↦ free j high ];
    calls = cutting_calls (GoesWith Due m.slots) slots m.tip free;
  } where
    slots : List SlotState
    slots = set m.slots k free_slot

    left : WasLeft (Due k) (slot_at m k) free_slot
    left = record {
      taken = ap is_free (done_drains (slot_at m k) done);
      due = λ active. absurd (true≢false (sym active ∙ ap is_active (done_drains (slot_at m k) done)));
      idle = refl;
      now = inr refl;
    }

    free : AreFreeFrom slots m.tip
    free = left_free m k free_slot left m.tip cut_off

  -- So are several, one after another.
  all_freed_made : (ws : List (ℕ × ℕ)) (m : Machine) → Distinct ws → ((w : ℕ × ℕ) → Contains ws w → is_done (slot_at m w.1) ≡ true) → AreFreeFrom m.slots m.tip
      → IsStepOf size Due m (in_turn (freed size) (map (λ w. w.1) ws) m).machine (in_turn (freed size) (map (λ w. w.1) ws) m).calls
  all_freed_made [] m distinct done cut_off = made_same m cut_off
  all_freed_made (w ∷ ws) m distinct done cut_off =
      let n : Machine = (freed size w.1 m).machine in
      let first : IsStepOf size Due m n (freed size w.1 m).calls = freed_made m w.1 cut_off (done w (in_first w ws)) in
      made_then m n (in_turn (freed size) (map (λ v. v.1) ws) n).machine (freed size w.1 m).calls (in_turn (freed size) (map (λ v. v.1) ws) n).calls first
      (all_freed_made ws n distinct.1 (λ v there.
      ap is_done ((set_changes m.slots w.1 free_slot (taken_there m.slots w.1 (ap is_free (done_drains (slot_at m w.1) (done w (in_first w ws)))))).others v.1
      (All-contains (λ u. u.1 ≢ w.1) ws v distinct.0 there)) ∙ done v (in_rest w v ws there)) first.cut_off)

  waiting_made : (m : Machine) (place : ℕ) → AreFreeFrom m.slots m.tip
      → IsStepOf size Due m (in_turn (freed size) (waiting_for place m) m).machine (in_turn (freed size) (waiting_for place m) m).calls
  waiting_made m place = all_freed_made ws m (distinct_filter at_place (waiting_among m.slots) (by_distinct waited_place 0 m.slots)) done where
    at_place : ℕ × ℕ → Bool
    at_place w = w.0 == place

    ws : List (ℕ × ℕ)
    ws = filter at_place (waiting_among m.slots)

    done : (w : ℕ × ℕ) → Contains ws w → is_done (slot_at m w.1) ≡ true
    done w there =
        let has : HasPlace waited_place 0 m.slots w = by_has waited_place 0 m.slots w (from_filter at_place (waiting_among m.slots) w there).0 in
        let is : has.index ≡ w.1 = omega (arith, has.is) in
        subst (λ (i : ℕ). is_done (at m.slots i) ≡ true) is (waits_at (at m.slots has.index) w.0 has.has).0

  -- An inactive segment is drained.
  pub drained_made : (m : Machine) (k : ℕ) → is_inactive (slot_at m k).state ≡ true → AreFreeFrom m.slots m.tip → IsStepOf size Due m (drained k m) []
  drained_made m k inactive cut_off = left_made m k (drained_slot (slot_at m k)) left (drained k m).cleaner [] cut_off no_call where
    left : WasLeft (Due k) (slot_at m k) (drained_slot (slot_at m k))
    left = record {
      taken = inactive_taken (slot_at m k) inactive;
      due = λ active. absurd (true≢false (sym active ∙ inactive_not_active (slot_at m k) inactive));
      idle = refl;
      now = inl (refl, refl);
    }

  sparse_made : (m : Machine) (k : ℕ) → AreFreeFrom m.slots m.tip → IsStepOf size Due m (drained_if_sparse size k m) []
  sparse_made m k cut_off = by (is_sparse size (slot_at m k)) refl where
    by : (b : Bool) → is_sparse size (slot_at m k) ≡ b → IsStepOf size Due m (if b then drained k m else m) []
    by true sparse = drained_made m k (and_parts (is_inactive (slot_at m k).state) (nat_le ((slot_at m k).held * 100 / size) 50) sparse).0 cut_off
    by false full = made_same m cut_off

  wasteful_made : (m : Machine) → AreFreeFrom m.slots m.tip → IsStepOf size Due m (drained_if_wasteful m) []
  wasteful_made m cut_off = by (is_wasteful m.slots) refl where
    last : ℕ
    last = get_or (inactive_among m.slots) (length (inactive_among m.slots) - 1) 0

    by : (b : Bool) → is_wasteful m.slots ≡ b → IsStepOf size Due m (if b then drained last m else m) []
    by true wasteful = drained_made m last (wasteful_inactive m wasteful) cut_off
    by false lean = made_same m cut_off

  -- A slot is tested.
  if_done_made : (m : Machine) (k : ℕ) → AreFreeFrom m.slots m.tip → IsStepOf size Due m (freed_if_done size k m).machine (freed_if_done size k m).calls
  if_done_made m k cut_off = by (is_done (slot_at m k) && not (is_active_place m (slot_at m k).latest)) refl where
    by : (b : Bool) → (is_done (slot_at m k) && not (is_active_place m (slot_at m k).latest)) ≡ b
        → let step : Step = (if b then freed size k m else record { machine = m; calls = [] }) in IsStepOf size Due m step.machine step.calls
    by true due = freed_made m k cut_off (and_parts (is_done (slot_at m k)) (not (is_active_place m (slot_at m k).latest)) due).0
    by false waits = made_same m cut_off

  tested_made : (m : Machine) (k : ℕ) → AreFreeFrom m.slots m.tip → IsStepOf size Due m (tested size k m).machine (tested size k m).calls
  tested_made m k cut_off =
      let n : Machine = drained_if_sparse size k m in
      let first : IsStepOf size Due m n [] = sparse_made m k cut_off in
      made_then m n (tested size k m).machine [] (tested size k m).calls first (if_done_made n k first.cut_off)

  -- A segment is deactivated.
  deactivated_made : (m : Machine) (a : ℕ × ℕ) → is_active (slot_at m a.1).state ≡ true → Due a.1 → AreFreeFrom m.slots m.tip
      → IsStepOf size Due m (deactivated size a m).machine (deactivated size a m).calls
  deactivated_made m a active due cut_off =
      made_then m tried (drained_if_wasteful tried) ((removing_blobs s.blobs ++ waits) ++ tests) []
      (made_then m rid tried (removing_blobs s.blobs ++ waits) tests (made_then m n rid (removing_blobs s.blobs) waits first waited) third)
      (wasteful_made tried third.cut_off) where
        s : SlotState
        s = slot_at m a.1

        n : Machine
        n = with_slot a.1 (inactive_slot s) m

        rid : Machine
        rid = (in_turn (freed size) (waiting_for a.0 n) n).machine

        waits : List Event
        waits = (in_turn (freed size) (waiting_for a.0 n) n).calls

        tests : List Event
        tests = (tested size a.1 rid).calls

        tried : Machine
        tried = (tested size a.1 rid).machine

        left : WasLeft (Due a.1) s (inactive_slot s)
        left = record { taken = ap is_free (active_is s.state active); due = λ is. due; idle = refl; now = inl (refl, refl) }

        first : IsStepOf size Due m n (removing_blobs s.blobs)
        first = left_made m a.1 (inactive_slot s) left m.cleaner (removing_blobs s.blobs) cut_off
            (removing_calls size (GoesWith Due m.slots) (AreFreeFrom n.slots) s.blobs
            (λ blob there. record { slot = a.1; active = active; due = due; there = there }))

        waited : IsStepOf size Due n rid waits
        waited = waiting_made n a.0 first.cut_off

        third : IsStepOf size Due rid tried tests
        third = tested_made rid a.1 waited.cut_off

-- The other active segments stay as they are.
others_stay : (size : ℕ) (m : Machine) (a : ℕ × ℕ) → is_active (slot_at m a.1).state ≡ true → AreFreeFrom m.slots m.tip → (k : ℕ) → k ≢ a.1
    → is_active (slot_at m k).state ≡ true → slot_at (deactivated size a m).machine k ≡ slot_at m k
others_stay size m a active cut_off k other its =
    undue_moved (k ≡ a.1) (slot_at m k) (slot_at (deactivated size a m).machine k)
    ((deactivated_made size (λ j. j ≡ a.1) m a active refl cut_off).slots k) its other

-- So all that are due are deactivated.
all_made : (size : ℕ) (Due : ℕ → Type 0) (dues : List (ℕ × ℕ)) (m : Machine) → Distinct dues
    → ((a : ℕ × ℕ) → Contains dues a → (is_active (slot_at m a.1).state ≡ true) × Due a.1)
    → AreFreeFrom m.slots m.tip → IsStepOf size Due m (in_turn (deactivated size) dues m).machine (in_turn (deactivated size) dues m).calls
all_made size Due [] m distinct due cut_off = made_same size Due m cut_off
all_made size Due (a ∷ dues) m distinct due cut_off =
    let n : Machine = (deactivated size a m).machine in
    let its = due a (in_first a dues) in
    let first : IsStepOf size Due m n (deactivated size a m).calls = deactivated_made size Due m a its.0 its.1 cut_off in
    made_then size Due m n (in_turn (deactivated size) dues n).machine (deactivated size a m).calls (in_turn (deactivated size) dues n).calls first
    (all_made size Due dues n distinct.1 (λ b there.
    let was = due b (in_rest a b dues there) in (
      ap (λ (s : SlotState). is_active s.state) (others_stay size m a its.0 cut_off b.1 (All-contains (λ v. v.1 ≢ a.1) dues b distinct.0 there) was.0) ∙ was.0,
      was.1,
    )) first.cut_off)

-- A segment is due for a mark.
abbrev pub IsDueFor : ℕ → ℤ → Machine → ℕ → Type 0
IsDueFor size mark m k = is_due size mark (slot_at m k).lsn ≡ true

-- So it is with what a mark makes of a machine.
pub stabilized_made : (size : ℕ) (mark : ℤ) (m : Machine) → AreFreeFrom m.slots m.tip
    → IsStepOf size (IsDueFor size mark m) m (stabilized size mark m).machine (stabilized size mark m).calls
stabilized_made size mark m = all_made size (IsDueFor size mark m) (filter below (active_among m.slots)) m
    (distinct_filter below (active_among m.slots) (by_distinct active_place 0 m.slots)) due where
      below : ℕ × ℕ → Bool
      below a = is_due size mark a.0

      due : (a : ℕ × ℕ) → Contains (filter below (active_among m.slots)) a → (is_active (slot_at m a.1).state ≡ true) × IsDueFor size mark m a.1
      due a there =
          let found = from_filter below (active_among m.slots) a there in
          let has : HasPlace active_place 0 m.slots a = by_has active_place 0 m.slots a found.0 in
          let is : has.index ≡ a.1 = omega (arith, has.is) in
          let parts = active_parts (at m.slots has.index) a.0 has.has in (
            subst (λ (i : ℕ). is_active (at m.slots i).state ≡ true) is parts.0,
            ap (is_due size mark) (subst (λ (i : ℕ). (at m.slots i).lsn ≡ a.0) is parts.1) ∙ found.1,
          )

-- Segments.

-- a slot has the segment that it had, or none, as before
pub record KeepsSegment (old new : SlotState) : Type 0 where
  pub free : is_free new.state ≡ is_free old.state
  pub lsn : new.lsn ≡ old.lsn

-- a segment has left it, which ended at a place or below
pub record LosesSegment (size base : ℕ) (old new : SlotState) : Type 0 where
  pub taken : is_free old.state ≡ false
  pub free : is_free new.state ≡ true
  pub below : old.lsn + size ≤ base

-- each slot has the segment that it had, or has lost it
abbrev pub KeepOrLose : ℕ → ℕ → Machine → Machine → Type 0
KeepOrLose size base m m' = (k : ℕ) → KeepsSegment (slot_at m k) (slot_at m' k) ⊎ LosesSegment size base (slot_at m k) (slot_at m' k)

-- What isn't active ends at a place or below it, and so does what is due: so does each segment that has left its slot.
module _ (size base : ℕ) (mark : ℤ) (m : Machine) (cut_off : AreFreeFrom m.slots m.tip)
    (stable : (k : ℕ) → is_free (slot_at m k).state ≡ false → is_active (slot_at m k).state ≡ false → (slot_at m k).lsn + size ≤ base)
    (below : (place : ℕ) → is_due size mark place ≡ true → place + size ≤ base) where
  pub kept_or_lost : (new : Machine) → AreMoved (IsDueFor size mark m) m.slots new.slots → KeepOrLose size base m new
  kept_or_lost new moved k = elim (moved k) [
    | inl same ↦ inl (record { free = ap (λ (s : SlotState). is_free s.state) same; lsn = ap (λ (s : SlotState). s.lsn) same })
    | inr left ↦ elim left.now [
      | inl there ↦ inl (record { free = there.0 ∙ sym left.taken; lsn = there.1 })
      | inr none ↦ inr (record {
        taken = left.taken;
        free = ap (λ (s : SlotState). is_free s.state) none;
        below = elim (cases_Bool (is_active (slot_at m k).state)) [
          | inl active ↦ below (slot_at m k).lsn (left.due active)
          | inr idle ↦ stable k left.taken idle
        ];
      })
    ]
  ]

  pub stabilized_slots : KeepOrLose size base m (stabilized size mark m).machine
  stabilized_slots = kept_or_lost (stabilized size mark m).machine (stabilized_made size mark m cut_off).slots
