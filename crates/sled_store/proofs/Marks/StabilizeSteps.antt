-- What a mark makes stable keeps what the slots say of a history's messages.
use Rattle.std.proofs.Common.{if◌then◌else◌, ⊎_elim, ◌≡◌, ◌≢◌, ◌⊎◌, ◌∙◌, ◌&&◌, ◌+◌, ◌-◌, ◌*◌, ◌/◌, ◌<◌, ◌≤◌, ℕ, ℤ, Bool, true, false, not, nat_lt, nat_le, List, [], ◌∷◌, length, filter, get_or, refl, ap, subst, arith, inl, inr}
use Rattle.std.specs.List.{Contains}
use Rattle.std.proofs.lemmas.Bool.{false≢true, and_parts, not-true, ltb-true}
use Rattle.std.proofs.lemmas.List.Elements.{All-contains, Contains-get_or}
use Rattle.sled_codec.specs.History.{Message, History}
use Rattle.sled_store.specs.Marks.{IsSuperseded}
use Rattle.sled_store.specs.SegmentStates.{SlotState, Machine, is_free, is_active, is_inactive, slot_at, with_slot, free_among, inactive_among, active_place, active_among, is_sparse, is_done, drained, drained_slot, drained_if_sparse, freed, in_turn, is_active_place, freed_if_done, tested, waiting_for, is_wasteful, drained_if_wasteful, inactive_slot, deactivated, is_due, stabilized}
use Rattle.sled_store.specs.declared.segment.slot.State.{State}
use Rattle.sled_store.specs.declared.segment.slot.State.TheVariants.{Free, Active, Inactive, Draining}
use Rattle.sled_store.proofs.Segments.Elements.{in_first, in_rest, from_filter}
use Rattle.sled_store.specs.Tracked.{at}
use Rattle.sled_store.proofs.Marks.SlotLemmas.{taken_there, Distinct, distinct_filter, Passes, where_passes, HasPlace, by_has, by_distinct}
use Rattle.sled_store.proofs.Marks.Tracked.{MayGo}
use Rattle.sled_store.proofs.Marks.MarkSteps.{Tracks, replacement_at, set_tracks, inactive_taken, inactive_not_active, drained_tracks}
use Rattle.sled_store.proofs.Marks.ReplaceSteps.{sparse_tracks}
use Rattle.sled_store.proofs.Marks.StableSteps.{NotesPlace, HoldsAsMuch, KeepsSegments, keeps_same, keeps_then, keeps_set, freed_keeps, all_freed_track, all_freed_keep}
use Rattle.sled_store.proofs.Marks.DeactivationSteps.{active_parts, waiting_go, due_goes, tested_tracks}

-- The highest inactive segment is inactive.
pub wasteful_inactive : (m : Machine) → is_wasteful m.slots ≡ true
    → is_inactive (slot_at m (get_or (inactive_among m.slots) (length (inactive_among m.slots) - 1) 0)).state ≡ true
wasteful_inactive m wasteful =
    let ks : List ℕ = inactive_among m.slots in
    let k : ℕ = get_or ks (length ks - 1) 0 in
    let parts = and_parts (nat_lt 5 (length ks)) (nat_le 50 (length (free_among m.slots) * 100 / (1 + length (free_among m.slots) + length ks))) wasteful in
    let many : 5 < length ks = ltb-true 5 (length ks) parts.0 in
    let last : Passes (λ s. is_inactive s.state) 0 m.slots k = where_passes (λ s. is_inactive s.state) 0 m.slots k (Contains-get_or ks (length ks - 1) 0 (omega (arith, many))) in
    let is : last.index ≡ k = omega (arith, last.is) in
    subst (λ (i : ℕ). is_inactive (at m.slots i).state ≡ true) is last.passes

module _ (size base : ℕ) (H : History) (Spent : Message → Type 0) (some : 0 < size) (spends : (e : Message) → IsSuperseded size base H e → Spent e) where
  -- So it is drained.
  wasteful_tracks : (m : Machine) → Tracks size base H Spent m → Tracks size base H Spent (drained_if_wasteful m)
  wasteful_tracks m t = by (is_wasteful m.slots) refl where
    by : (b : Bool) → is_wasteful m.slots ≡ b → Tracks size base H Spent (if b then drained (get_or (inactive_among m.slots) (length (inactive_among m.slots) - 1) 0) m else m)
    by true wasteful = drained_tracks m (get_or (inactive_among m.slots) (length (inactive_among m.slots) - 1) 0) (wasteful_inactive m wasteful) size base H Spent t
    by false lean = t

  -- A segment that is to be deactivated: it is active, and lies below the base.
  pub record IsDue (ss : List SlotState) (a : ℕ × ℕ) : Type 0 where
    pub active : is_active (at ss a.1).state ≡ true
    pub lsn : (at ss a.1).lsn ≡ a.0
    pub below : a.0 + size ≤ base

  active_is_taken : (s : SlotState) → is_active s.state ≡ true → is_free s.state ≡ false
  active_is_taken s is = by s.state is where
    by : (st : State) → is_active st ≡ true → is_free st ≡ false
    by Free is = absurd (false≢true is)
    by Active is = refl
    by Inactive is = refl
    by Draining is = refl

  module _ (m : Machine) (t : Tracks size base H Spent m) (a : ℕ × ℕ) (due : IsDue m.slots a) where
    pub inactive_tracks : Tracks size base H Spent (with_slot a.1 (inactive_slot (slot_at m a.1)) m)
    inactive_tracks =
        let s : SlotState = slot_at m a.1 in
        set_tracks size base H Spent m.slots m.tip a.1 (inactive_slot s) t (active_is_taken s due.active) (record {
          taken = refl;
          lsn = refl;
          stable = λ none. omega (arith, due.lsn, due.below);
          pages = λ p there. there;
          gone = λ p there. replacement_at size H s (inactive_slot s) p refl refl (t.gone a.1 p there);
          latest = t.latest a.1;
          within = t.within a.1;
        })

    inactive_keeps : KeepsSegments size base a.1 m.slots (with_slot a.1 (inactive_slot (slot_at m a.1)) m).slots
    inactive_keeps =
        let s : SlotState = slot_at m a.1 in
        let taken : is_free s.state ≡ false = active_is_taken s due.active in
        keeps_set size base a.1 a.1 m.slots (inactive_slot s) (taken_there m.slots a.1 taken) (inl refl) refl refl (taken, refl)

  -- The test of a slot changes no other one that is active.
  sparse_keeps : (m : Machine) (k : ℕ) → KeepsSegments size base k m.slots (drained_if_sparse size k m).slots
  sparse_keeps m k = by (is_sparse size (slot_at m k)) refl where
    by : (b : Bool) → is_sparse size (slot_at m k) ≡ b → KeepsSegments size base k m.slots (if b then drained k m else m).slots
    by true sparse =
        let s : SlotState = slot_at m k in
        let taken : is_free s.state ≡ false = inactive_taken s (and_parts (is_inactive s.state) (nat_le (s.held * 100 / size) 50) sparse).0 in
        keeps_set size base k k m.slots (drained_slot s) (taken_there m.slots k taken) (inl refl) refl refl (taken, refl)
    by false full = keeps_same size base k m.slots

  freed_if_done_keeps : (m : Machine) (k : ℕ) → Tracks size base H Spent m → KeepsSegments size base k m.slots (freed_if_done size k m).machine.slots
  freed_if_done_keeps m k t = by (is_done (slot_at m k) && not (is_active_place m (slot_at m k).latest)) refl where
    by : (b : Bool) → (is_done (slot_at m k) && not (is_active_place m (slot_at m k).latest)) ≡ b
        → KeepsSegments size base k m.slots (if b then freed size k m else record { machine = m; calls = [] }).machine.slots
    by true due =
        let parts = and_parts (is_done (slot_at m k)) (not (is_active_place m (slot_at m k).latest)) due in
        let goes : MayGo size base H Spent m.slots k = due_goes size base H Spent some spends m k t parts.0 (not-true (is_active_place m (slot_at m k).latest) parts.1) in
        freed_keeps size base H Spent k m k (inl refl) goes
    by false waits = keeps_same size base k m.slots

  tested_keeps : (m : Machine) (k : ℕ) → Tracks size base H Spent m → KeepsSegments size base k m.slots (tested size k m).machine.slots
  tested_keeps m k t =
      let n : Machine = drained_if_sparse size k m in
      keeps_then size base k m.slots n.slots (tested size k m).machine.slots (sparse_keeps m k) (freed_if_done_keeps n k (sparse_tracks size base H Spent m k t))

  wasteful_keeps : (but : ℕ) (m : Machine) → KeepsSegments size base but m.slots (drained_if_wasteful m).slots
  wasteful_keeps but m = by (is_wasteful m.slots) refl where
    by : (b : Bool) → is_wasteful m.slots ≡ b → KeepsSegments size base but m.slots (if b then drained (get_or (inactive_among m.slots) (length (inactive_among m.slots) - 1) 0) m else m).slots
    by true wasteful =
        let k : ℕ = get_or (inactive_among m.slots) (length (inactive_among m.slots) - 1) 0 in
        let inactive = wasteful_inactive m wasteful in
        let s : SlotState = slot_at m k in
        let taken : is_free s.state ≡ false = inactive_taken s inactive in
        keeps_set size base but k m.slots (drained_slot s) (taken_there m.slots k taken) (inr (inactive_not_active s inactive)) refl refl (taken, refl)
    by false lean = keeps_same size base but m.slots

  -- A segment is deactivated: what is tracked stays, and so do the other active segments.
  module _ (m : Machine) (t : Tracks size base H Spent m) (a : ℕ × ℕ) (due : IsDue m.slots a) where
    go : (k : ℕ) → Contains (waiting_for a.0 (with_slot a.1 (inactive_slot (slot_at m a.1)) m)) k
        → MayGo size base H Spent (with_slot a.1 (inactive_slot (slot_at m a.1)) m).slots k
    go = waiting_go size base H Spent some spends (with_slot a.1 (inactive_slot (slot_at m a.1)) m) a.0 (inactive_tracks m t a due) due.below

    deactivated_tracks : Tracks size base H Spent (deactivated size a m).machine
    deactivated_tracks =
        let n : Machine = with_slot a.1 (inactive_slot (slot_at m a.1)) m in
        let freed_all : Machine = (in_turn (freed size) (waiting_for a.0 n) n).machine in
        let t_freed : Tracks size base H Spent freed_all = all_freed_track size base H Spent (waiting_for a.0 n) n (inactive_tracks m t a due) go in
        wasteful_tracks (tested size a.1 freed_all).machine (tested_tracks size base H Spent some spends freed_all a.1 t_freed)

    deactivated_keeps : KeepsSegments size base a.1 m.slots (deactivated size a m).machine.slots
    deactivated_keeps =
        let n : Machine = with_slot a.1 (inactive_slot (slot_at m a.1)) m in
        let freed_all : Machine = (in_turn (freed size) (waiting_for a.0 n) n).machine in
        let t_freed : Tracks size base H Spent freed_all = all_freed_track size base H Spent (waiting_for a.0 n) n (inactive_tracks m t a due) go in
        let after_test : Machine = (tested size a.1 freed_all).machine in
        let end : Machine = (deactivated size a m).machine in
        keeps_then size base a.1 m.slots n.slots end.slots (inactive_keeps m t a due)
        (keeps_then size base a.1 n.slots freed_all.slots end.slots (all_freed_keep size base H Spent a.1 (waiting_for a.0 n) n go)
        (keeps_then size base a.1 freed_all.slots after_test.slots end.slots (tested_keeps freed_all a.1 t_freed) (wasteful_keeps a.1 after_test)))

  -- So it is where the segment is active, and ends at the base or below.
  pub one_deactivated_tracks : (m : Machine) (a : ℕ × ℕ) → Tracks size base H Spent m → is_active (slot_at m a.1).state ≡ true → (slot_at m a.1).lsn ≡ a.0 → a.0 + size ≤ base
      → Tracks size base H Spent (deactivated size a m).machine
  one_deactivated_tracks m a t active lsn below = deactivated_tracks m t a (record { active = active; lsn = lsn; below = below })

  -- The others that are due still are.
  still_due : (m : Machine) (t : Tracks size base H Spent m) (a : ℕ × ℕ) (due_ones : List (ℕ × ℕ)) → Distinct (a ∷ due_ones)
      → ((b : ℕ × ℕ) → Contains (a ∷ due_ones) b → IsDue m.slots b) → (b : ℕ × ℕ) → Contains due_ones b
      → IsDue (deactivated size a m).machine.slots b
  still_due m t a due_ones distinct due b there =
      let was : IsDue m.slots b = due b (in_rest a b due_ones there) in
      let first : IsDue m.slots a = due a (in_first a due_ones) in
      let same : at (deactivated size a m).machine.slots b.1 ≡ at m.slots b.1 = (deactivated_keeps m t a first).active b.1 (All-contains (λ v. v.1 ≢ a.1) due_ones b distinct.0 there) was.active in
      record { active = ap (λ (s : SlotState). is_active s.state) same ∙ was.active; lsn = ap (λ (s : SlotState). s.lsn) same ∙ was.lsn; below = was.below }

  -- All that are due are deactivated, and what waits for a segment above the base is there.
  all_deactivated_track : (due_ones : List (ℕ × ℕ)) (m : Machine) → Tracks size base H Spent m → Distinct due_ones
      → ((a : ℕ × ℕ) → Contains due_ones a → IsDue m.slots a) → Tracks size base H Spent (in_turn (deactivated size) due_ones m).machine
  all_deactivated_track [] m t distinct due = t
  all_deactivated_track (a ∷ due_ones) m t distinct due =
      all_deactivated_track due_ones (deactivated size a m).machine (deactivated_tracks m t a (due a (in_first a due_ones))) distinct.1 (still_due m t a due_ones distinct due)

  all_deactivated_wait : (due_ones : List (ℕ × ℕ)) (m : Machine) → Tracks size base H Spent m → Distinct due_ones → ((a : ℕ × ℕ) → Contains due_ones a → IsDue m.slots a)
      → (k place : ℕ) → NotesPlace (at m.slots k) place → NotesPlace (at (in_turn (deactivated size) due_ones m).machine.slots k) place ⊎ (place + size ≤ base)
  all_deactivated_wait [] m t distinct due k place notes = inl notes
  all_deactivated_wait (a ∷ due_ones) m t distinct due k place notes =
      let first : IsDue m.slots a = due a (in_first a due_ones) in
      ⊎_elim (λ still. all_deactivated_wait due_ones (deactivated size a m).machine (deactivated_tracks m t a first) distinct.1 (still_due m t a due_ones distinct due) k place still) (λ below. inr below)
      ((deactivated_keeps m t a first).waiting k place notes)

  all_deactivated_hold : (due_ones : List (ℕ × ℕ)) (m : Machine) → Tracks size base H Spent m → Distinct due_ones → ((a : ℕ × ℕ) → Contains due_ones a → IsDue m.slots a)
      → (k : ℕ) → is_free (at (in_turn (deactivated size) due_ones m).machine.slots k).state ≡ false → HoldsAsMuch (at m.slots k) (at (in_turn (deactivated size) due_ones m).machine.slots k)
  all_deactivated_hold [] m t distinct due k there = (there, refl)
  all_deactivated_hold (a ∷ due_ones) m t distinct due k there =
      let first : IsDue m.slots a = due a (in_first a due_ones) in
      let rest = all_deactivated_hold due_ones (deactivated size a m).machine (deactivated_tracks m t a first) distinct.1 (still_due m t a due_ones distinct due) k there in
      let one = (deactivated_keeps m t a first).held k rest.0 in (one.0, rest.1 ∙ one.1)

  module _ (m : Machine) (mark : ℤ) (t : Tracks size base H Spent m) (below : (place : ℕ) → is_due size mark place ≡ true → place + size ≤ base) where
    due_distinct : Distinct (filter (λ (a : ℕ × ℕ). is_due size mark a.0) (active_among m.slots))
    due_distinct = distinct_filter (λ (a : ℕ × ℕ). is_due size mark a.0) (active_among m.slots) (by_distinct active_place 0 m.slots)

    all_due : (a : ℕ × ℕ) → Contains (filter (λ (b : ℕ × ℕ). is_due size mark b.0) (active_among m.slots)) a → IsDue m.slots a
    all_due a there =
        let found = from_filter (λ (b : ℕ × ℕ). is_due size mark b.0) (active_among m.slots) a there in
        let has : HasPlace active_place 0 m.slots a = by_has active_place 0 m.slots a found.0 in
        let is : has.index ≡ a.1 = omega (arith, has.is) in
        let parts = active_parts (at m.slots has.index) a.0 has.has in
        record {
          active = subst (λ (i : ℕ). is_active (at m.slots i).state ≡ true) is parts.0;
          lsn = subst (λ (i : ℕ). (at m.slots i).lsn ≡ a.0) is parts.1;
          below = below a.0 found.1;
        }

    -- A mark is stabilized whose segment is at or below the base.
    pub stabilized_tracks : Tracks size base H Spent (stabilized size mark m).machine
    stabilized_tracks = all_deactivated_track (filter (λ (a : ℕ × ℕ). is_due size mark a.0) (active_among m.slots)) m t due_distinct all_due

    pub stabilized_waits : (k place : ℕ) → NotesPlace (slot_at m k) place → NotesPlace (slot_at (stabilized size mark m).machine k) place ⊎ (place + size ≤ base)
    stabilized_waits = all_deactivated_wait (filter (λ (a : ℕ × ℕ). is_due size mark a.0) (active_among m.slots)) m t due_distinct all_due

    pub stabilized_holds : (k : ℕ) → is_free (slot_at (stabilized size mark m).machine k).state ≡ false
        → HoldsAsMuch (slot_at m k) (slot_at (stabilized size mark m).machine k)
    stabilized_holds = all_deactivated_hold (filter (λ (a : ℕ × ℕ). is_due size mark a.0) (active_among m.slots)) m t due_distinct all_due
