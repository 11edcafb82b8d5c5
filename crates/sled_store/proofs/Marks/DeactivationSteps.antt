-- The slots that are freed where a segment is deactivated are those that may go.
use Rattle.std.proofs.Common.{if◌then◌else◌, ⊎_elim, ◌≡◌, ◌∙◌, ◌&&◌, ◌||◌, ◌==◌, ◌+◌, ◌<◌, ◌≤◌, ℕ, Bool, true, false, not, List, [], ◌∷◌, map, filter, Some, None, refl, sym, ap, subst, arith, eq-eqb}
use Rattle.std.specs.List.{Contains, list_any}
use Rattle.std.proofs.lemmas.Bool.{true≢false, false≢true, and_parts, not-true, eqb-true}
use Rattle.std.proofs.lemmas.List.Elements.{All-contains, All-map}
use Rattle.sled_codec.specs.History.{Message, History}
use Rattle.sled_store.specs.Marks.{IsSuperseded}
use Rattle.sled_store.specs.SegmentStates.{SlotState, Machine, is_free, is_active, slot_at, active_place, active_among, is_done, waited_place, waiting_among, drained_if_sparse, freed, is_active_place, freed_if_done, tested, waiting_for}
use Rattle.sled_store.specs.declared.segment.slot.State.{State}
use Rattle.sled_store.specs.declared.segment.slot.State.TheVariants.{Free, Active, Inactive, Draining}
use Rattle.sled_store.proofs.Segments.Elements.{in_cases, in_nothing, from_filter, all_from_in}
use Rattle.sled_store.proofs.Marks.SlotLemmas.{taken_there, HasPlace, by_has, by_listed}
use Rattle.sled_store.specs.Tracked.{at, IsActiveAt}
use Rattle.sled_store.proofs.Marks.Tracked.{MayGo}
use Rattle.sled_store.proofs.Marks.MarkSteps.{Tracks}
use Rattle.sled_store.proofs.Marks.ReplaceSteps.{sparse_tracks}
use Rattle.sled_store.proofs.Marks.StableSteps.{freed_tracks, done_goes}

-- Lists.

pub from_map : {X Y : Type 0} (f : X → Y) (xs : List X) (y : Y) → Contains (map f xs) y → (x : X) × Contains xs x × (f x ≡ y)
from_map {X} {Y} f xs y there =
    let P : Y → Type 0 = λ z. (x : X) × Contains xs x × (f x ≡ z) in
    All-contains P (map f xs) y (All-map P f xs (all_from_in (λ x. P (f x)) xs (λ x found. (x, found, refl)))) there

pub any_in : {X : Type 0} (p : X → Bool) (xs : List X) (x : X) → Contains xs x → p x ≡ true → list_any p xs ≡ true
any_in p [] x there passes = absurd (in_nothing x there)
any_in p (y ∷ ys) x there passes = by (p y) refl (λ rest. any_in p ys x rest passes) where
  by : (b : Bool) → p y ≡ b → (Contains ys x → list_any p ys ≡ true) → (b || list_any p ys) ≡ true
  by true is rest = refl
  by false is rest = ⊎_elim (λ same. absurd (false≢true (sym is ∙ ap p same ∙ passes))) rest (in_cases y x ys there)

-- the place of an active segment
pub active_parts : (s : SlotState) (l : ℕ) → active_place s ≡ Some l → (is_active s.state ≡ true) × (s.lsn ≡ l)
active_parts s l = by (is_active s.state) where
  by : (b : Bool) → (if b then Some s.lsn else None) ≡ Some l → (b ≡ true) × (s.lsn ≡ l)
  by true is = (refl, cc)
  by false is = cc

-- what a segment that is done waits for
waited_parts : (s : SlotState) (l : ℕ) → waited_place s ≡ Some l → (is_done s ≡ true) × (s.latest ≡ Some l)
waited_parts s l = by (is_done s) where
  by : (b : Bool) → (if b then s.latest else None) ≡ Some l → (b ≡ true) × (s.latest ≡ Some l)
  by true is = (refl, is)
  by false is = cc

-- an active segment's place is found
active_found : (m : Machine) (l : ℕ) → IsActiveAt m.slots l → is_active_place m (Some l) ≡ true
active_found m l one =
    any_in (λ a. a.0 == l) (active_among m.slots) (l, 0 + one.slot) (by_listed active_place 0 m.slots one.slot l (taken_there m.slots one.slot (taken (at m.slots one.slot).state one.active)) placed) (eq-eqb l l refl) where
      taken : (st : State) → is_active st ≡ true → is_free st ≡ false
      taken Free is = absurd (false≢true is)
      taken Active is = refl
      taken Inactive is = refl
      taken Draining is = refl

      placed : active_place (at m.slots one.slot) ≡ Some l
      placed = ap (λ (b : Bool). if b then Some (at m.slots one.slot).lsn else None) one.active ∙ ap Some one.lsn

module _ (size base : ℕ) (H : History) (Spent : Message → Type 0) (some : 0 < size) (spends : (e : Message) → IsSuperseded size base H e → Spent e) where
  -- The slots whose free waited for a place below the base may go.
  pub waiting_go : (m : Machine) (place : ℕ) → Tracks size base H Spent m → place + size ≤ base → (k : ℕ) → Contains (waiting_for place m) k → MayGo size base H Spent m.slots k
  waiting_go m place t below k there =
      let found = from_map (λ (w : ℕ × ℕ). w.1) (filter (λ (w : ℕ × ℕ). w.0 == place) (waiting_among m.slots)) k there in
      let w : ℕ × ℕ = found.0 in
      let kept = from_filter (λ (v : ℕ × ℕ). v.0 == place) (waiting_among m.slots) w found.1 in
      let first : w.0 ≡ place = eqb-true w.0 place kept.1 in
      let has : HasPlace waited_place 0 m.slots w = by_has waited_place 0 m.slots w kept.0 in
      let is : has.index ≡ k = omega (arith, has.is, found.2) in
      let parts = waited_parts (at m.slots has.index) w.0 has.has in
      let latest : (at m.slots has.index).latest ≡ Some w.0 = parts.1 in
      subst (MayGo size base H Spent m.slots) is
      (done_goes size base H Spent m.slots m.tip has.index some spends t parts.0 (λ l noted. let same : w.0 ≡ l = cc (latest, noted) in omega (arith, same, first, below)))

  -- A slot that is done and waits for no active segment may go.
  pub due_goes : (m : Machine) (k : ℕ) → Tracks size base H Spent m → is_done (slot_at m k) ≡ true → is_active_place m (slot_at m k).latest ≡ false
      → MayGo size base H Spent m.slots k
  due_goes m k t done idle =
      done_goes size base H Spent m.slots m.tip k some spends t done
      (λ l noted. ⊎_elim (λ active. absurd (true≢false (sym (active_found m l active) ∙ sym (ap (is_active_place m) noted) ∙ idle))) (λ below. below) (t.latest k l noted))

  freed_if_done_tracks : (m : Machine) (k : ℕ) → Tracks size base H Spent m → Tracks size base H Spent (freed_if_done size k m).machine
  freed_if_done_tracks m k t = by (is_done (slot_at m k) && not (is_active_place m (slot_at m k).latest)) refl where
    by : (b : Bool) → (is_done (slot_at m k) && not (is_active_place m (slot_at m k).latest)) ≡ b
        → Tracks size base H Spent (if b then freed size k m else record { machine = m; calls = [] }).machine
    by true due =
        let parts = and_parts (is_done (slot_at m k)) (not (is_active_place m (slot_at m k).latest)) due in
        freed_tracks size base H Spent m k t (due_goes m k t parts.0 (not-true (is_active_place m (slot_at m k).latest) parts.1))
    by false waits = t

  pub tested_tracks : (m : Machine) (k : ℕ) → Tracks size base H Spent m → Tracks size base H Spent (tested size k m).machine
  tested_tracks m k t = freed_if_done_tracks (drained_if_sparse size k m) k (sparse_tracks size base H Spent m k t)
