-- A log that begins has no active segment that is due for its floor: the only one that is active is its own, and the floor isn't above the place at which it
-- begins, as no snapshot lies below the floor with which a recovery may begin.
use Rattle.std.proofs.Common.{◌≡◌, ◌∙◌, ◌+◌, ◌-◌, ◌*◌, ◌/◌, ◌≤◌, ◌<◌, ℕ, pos, Bool, true, false, List, Option, None, Some, IfSome, refl, sym}
use Rattle.std.proofs.Common.{ap, arith, inl, inr, eqb-true}
use Rattle.std.proofs.Math.Nat.{div-mul-le_self, lt-div-mul-add}
use Rattle.std.proofs.lemmas.Bool.{cases_eq, cases_lt, false≢true}
use Rattle.std.proofs.lemmas.List.{get_or_past}
use Rattle.std.proofs.lemmas.List.FromFn.{get_or-map-range_with_len, length-map-range_with_len}
use Rattle.sled_codec.specs.Coords.{raised}
use Rattle.sled_codec.specs.History.{History}
use Rattle.sled_codec.specs.Snapshots.{SnapshotModel, stable_place}
use Rattle.sled_store.specs.Begin.{IsStartable, MayBeActive, is_active, place_at, slots_of}
use Rattle.sled_store.specs.Device.{NamesState, Trace, state_of}
use Rattle.sled_store.specs.SegmentStates as states
use Rattle.sled_store.specs.SegmentStates.{Machine, SlotState, free_slot, handed_out, next_slot, slot_at}
use Rattle.sled_store.specs.SlotTables.{number_in}
use Rattle.sled_store.specs.Started.{all_entries, found, found_slot, started, used_state}
use Rattle.sled_store.specs.inside.SegmentStates.{NoneDue}
use Rattle.sled_store.proofs.Crashes.SettledLemmas.{name_read_left}
use Rattle.sled_store.proofs.Crashes.SyncedLemmas.{snapshots_firm}
use Rattle.sled_store.proofs.Marks.NothingDue.{not_due}
use Rattle.sled_store.proofs.Marks.StableSteps.{segment_mono}
use Rattle.sled_core.specs.FreeSlots.{begun_machine, with_current}
use Rattle.sled_core.specs.OwnNames.{IsAnySnapshot, StayOwn}
use Rattle.sled_core.specs.inside.Running.{NamesFit}
use Rattle.sled_core.proofs.Start.BegunSlots.{active_is, next_within}
use Rattle.sled_core.proofs.Start.OwnSlots.{handed_other, handed_there}

-- The floor isn't above the place of the snapshot: what is read of the names is what a crash may leave.
pub floor_low : (sum : List ℕ → ℕ) (size : ℕ) (t : Trace) (H : History) (f : ℕ) (first : SnapshotModel)
    → StayOwn (IsAnySnapshot sum) (state_of t).snapshots → NamesFit sum size (state_of t).snapshots H f first → f ≤ stable_place first.stable
floor_low sum size t H f first own fits =
    let names : NamesState = (state_of t).snapshots in
    (fits names.file (name_read_left names) (record { own = λ n bytes there passes. own.own n bytes passes there (snapshots_firm t n) })).not_below

module _ (size len : ℕ) (s : SnapshotModel) where
  abbrev slots : ℕ
  slots = slots_of size len

  -- what an accountant has that has started
  abbrev start : Machine
  start = (started size len s).machine

  -- A segment is active only where it is that of the snapshot's active slot.
  active_only : (k : ℕ) → states.is_active (slot_at start k).state ≡ true → is_active size s.active k ≡ true
  active_only k active = elim (cases_lt k slots) [
    | inl inside ↦ by (number_in size k (all_entries s))
        (get_or-map-range_with_len (λ j. found_slot size s j (number_in size j (all_entries s))) 0 slots k k free_slot inside (omega arith))
    | inr past ↦ absurd (
        let long = length-map-range_with_len (λ j. found_slot size s j (number_in size j (all_entries s))) 0 slots in
        let behind : slot_at start k ≡ free_slot = get_or_past (found size slots s).slots k free_slot (omega (arith, long, past)) in
        false≢true (sym (ap (λ (x : SlotState). states.is_active x.state) behind) ∙ active))
  ]
    where
      of_state : (b : Bool) → states.is_active (used_state b) ≡ b
      of_state true = refl
      of_state false = refl

      by : (o : Option ℕ) → slot_at start k ≡ found_slot size s k o → is_active size s.active k ≡ true
      by None is = absurd (false≢true (sym (ap (λ (x : SlotState). states.is_active x.state) is) ∙ active))
      by (Some n) is = sym (of_state (is_active size s.active k)) ∙ sym (ap (λ (x : SlotState). states.is_active x.state) is) ∙ active

  module _ (some : 0 < size) (startable : IsStartable size len s) where
    abbrev stable : ℕ
    stable = stable_place s.stable

    -- Once the log has begun its own, that one alone is active. It doesn't begin below the segment of the stable place.
    active_high : (k : ℕ) → states.is_active (slot_at (begun_machine size len s) k).state ≡ true
        → stable / size * size ≤ (slot_at (begun_machine size len s) k).lsn
    active_high k = by s.active refl startable.active where
      by : (o : Option ℕ) → s.active ≡ o → IfSome o (MayBeActive size slots stable)
          → states.is_active (slot_at (with_current (place_at size stable o) o start) k).state ≡ true
          → stable / size * size ≤ (slot_at (with_current (place_at size stable o) o start) k).lsn
      by (Some a) active may is =
          let here : a / size ≡ k = eqb-true (a / size) k (ap (λ (o : Option ℕ). is_active size o k) (sym active) ∙ active_only k is) in
          let at : (slot_at start k).lsn ≡ stable / size * size =
          ap (λ j. (slot_at start j).lsn) (sym here) ∙ active_is size len s a active may.slot in
          omega (arith, at)
      by None none may is = elim (cases_eq k (next_slot start)) [
        | inl own ↦ (
            let at : (slot_at (handed_out (raised size stable) start) k).lsn ≡ raised size stable =
            ap (λ j. (slot_at (handed_out (raised size stable) start) j).lsn) own
            ∙ ap (λ (x : SlotState). x.lsn) (handed_there start (next_within size len s) (raised size stable)) in
            let up : stable + (size - 1) < raised size stable + size = lt-div-mul-add some in
            let low = div-mul-le_self stable size in
            omega (arith, at, up, low, some))
        | inr other ↦ absurd (
            let was = ap (λ (x : SlotState). states.is_active x.state) (sym (handed_other start (next_within size len s) (raised size stable) k other)) ∙ is in
            false≢true (ap (λ (o : Option ℕ). is_active size o k) (sym none) ∙ active_only k was))
      ]

    pub begun_idle : (f : ℕ) → f ≤ stable → NoneDue size (pos f) (begun_machine size len s)
    begun_idle f low k active =
        let high = active_high k active in
        let under = segment_mono size f stable some low in
        not_due size f (slot_at (begun_machine size len s) k).lsn some (omega (arith, high, under))
