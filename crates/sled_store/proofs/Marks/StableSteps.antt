-- A slot whose segment is done may be freed: each message of its own is spent, as one is that is superseded.
use Rattle.std.proofs.Common.{⊎_elim, ◌≡◌, ◌≢◌, ◌∙◌, ◌⊎◌, ◌+◌, ◌*◌, ◌/◌, ◌<◌, ◌≤◌, ℕ, true, false, List, [], ◌∷◌, length, set, Some, refl, sym, ap, subst, arith, inl, inr}
use Rattle.std.specs.List.{Contains}
use Rattle.std.proofs.lemmas.Bool.{true≢false, false≢true, cases_lt, and_parts}
use Rattle.std.proofs.lemmas.List.{length-set}
use Rattle.std.proofs.lemmas.Nat.{le-div}
use Rattle.std.proofs.Math.Nat.{div-mul-le_self, mul-le-mul_right}
use Rattle.sled_codec.specs.History.{Message, History}
use Rattle.sled_store.specs.Marks.{HasReplacement, IsSuperseded}
use Rattle.sled_store.specs.SegmentStates.{SlotState, Machine, is_free, is_active, is_draining, free_slot, same_pages, is_done, left_after, freed, in_turn}
use Rattle.sled_store.specs.declared.segment.slot.State.{State}
use Rattle.sled_store.specs.declared.segment.slot.State.TheVariants.{Free, Active, Inactive, Draining}
use Rattle.sled_store.proofs.Accounts.StartNext.{cut_free}
use Rattle.sled_store.proofs.Segments.Elements.{in_first, in_rest}
use Rattle.sled_store.proofs.Marks.SlotLemmas.{taken_there, set_changes, each_slot, same_is}
use Rattle.sled_store.specs.Tracked.{at, IsHeld, IsTracked}
use Rattle.sled_store.proofs.Marks.Tracked.{MayGo, left_free}
use Rattle.sled_store.proofs.Marks.MarkSteps.{Tracks}

-- Segments of places.

pub segment_mono : (size x y : ℕ) → 0 < size → x ≤ y → x / size * size ≤ y / size * size
segment_mono size x y some le = mul-le-mul_right size (le-div (x / size) y size some (omega (arith, div-mul-le_self x size, le)))

pub segment_above : (size x y : ℕ) → 0 < size → x / size * size < y / size * size → x < y
segment_above size x y some lt = ⊎_elim (λ below. below) (λ le. absurd (omega (arith, segment_mono size y x some le, lt))) (cases_lt x y)

-- Slots that stay as they are.

-- a segment is there, and notes this place as that of its latest replacement
abbrev pub NotesPlace : SlotState → ℕ → Type 0
NotesPlace s place = (is_free s.state ≡ false) × (s.latest ≡ Some place)

-- a segment was there, and holds as much as before
abbrev pub HoldsAsMuch : SlotState → SlotState → Type 0
HoldsAsMuch old new = (is_free old.state ≡ false) × (new.held ≡ old.held)

-- Each active slot but one is as it was, and a segment that waits for one above the base is there.
pub record KeepsSegments (size base but : ℕ) (old new : List SlotState) : Type 0 where
  pub active : (j : ℕ) → j ≢ but → is_active (at old j).state ≡ true → at new j ≡ at old j
  pub waiting : (j place : ℕ) → NotesPlace (at old j) place → NotesPlace (at new j) place ⊎ (place + size ≤ base)
  pub held : (j : ℕ) → is_free (at new j).state ≡ false → HoldsAsMuch (at old j) (at new j)

pub keeps_same : (size base but : ℕ) (ss : List SlotState) → KeepsSegments size base but ss ss
keeps_same size base but ss = record { active = λ j other active. refl; waiting = λ j place notes. inl notes; held = λ j there. (there, refl) }

pub keeps_then : (size base but : ℕ) (old mid new : List SlotState) → KeepsSegments size base but old mid → KeepsSegments size base but mid new
    → KeepsSegments size base but old new
keeps_then size base but old mid new first more = record {
  active = λ j other active. more.active j other (ap (λ (s : SlotState). is_active s.state) (first.active j other active) ∙ active) ∙ first.active j other active;
  waiting = λ j place notes. ⊎_elim (λ still. more.waiting j place still) (λ below. inr below) (first.waiting j place notes);
  held = λ j there. let then_held = more.held j there in let first_held = first.held j then_held.0 in (first_held.0, then_held.1 ∙ first_held.1);
}

-- a slot that isn't active, or is that one, isn't another active one
not_that : (but k : ℕ) (old : List SlotState) → (k ≡ but) ⊎ (is_active (at old k).state ≡ false) → (j : ℕ) → j ≢ but → is_active (at old j).state ≡ true → j ≢ k
not_that but k old why j other active is =
    ⊎_elim (λ same. other (is ∙ same)) (λ none. true≢false (sym (subst (λ (i : ℕ). is_active (at old i).state ≡ true) is active) ∙ none)) why

pub keeps_set : (size base but k : ℕ) (old : List SlotState) (s : SlotState) → k < length old → (k ≡ but) ⊎ (is_active (at old k).state ≡ false)
    → is_free s.state ≡ false → s.latest ≡ (at old k).latest
    → HoldsAsMuch (at old k) s → KeepsSegments size base but old (set old k s)
keeps_set size base but k old s lt why taken same as_much = record {
  active = λ j other active. (set_changes old k s lt).others j (not_that but k old why j other active);
  waiting = λ j place. each_slot (λ i x. NotesPlace (at old i) place → NotesPlace x place ⊎ (place + size ≤ base)) old k s (set old k s) (set_changes old k s lt)
      (λ notes. inl (taken, same ∙ notes.1)) (λ i other notes. inl notes) j;
  held = each_slot (λ i x. is_free x.state ≡ false → HoldsAsMuch (at old i) x) old k s (set old k s) (set_changes old k s lt) (λ there. as_much) (λ i other there. (there, refl));
}

-- Frees.

module _ (size base : ℕ) (H : History) (Spent : Message → Type 0) where
  pub freed_tracks : (m : Machine) (k : ℕ) → Tracks size base H Spent m → MayGo size base H Spent m.slots k → Tracks size base H Spent (freed size k m).machine
  freed_tracks m k t goes =
      let new : List SlotState = set m.slots k free_slot in
      left_free size base H Spent m.slots m.tip t k new (left_after m.tip new) (set_changes m.slots k free_slot goes.there) goes (λ j le lt. cut_free m.tip new j le lt)

  goes_on : (m : Machine) (k j : ℕ) → k < length m.slots → MayGo size base H Spent m.slots j → MayGo size base H Spent (freed size k m).machine.slots j
  goes_on m k j lt goes = record {
    there = omega (arith, goes.there, length-set m.slots k free_slot);
    not_active = each_slot (λ i x. is_active (at m.slots i).state ≡ false → is_active x.state ≡ false) m.slots k free_slot (set m.slots k free_slot) (set_changes m.slots k free_slot lt) (λ none. refl) (λ i other none. none) j goes.not_active;
    spent = λ e there held. goes.spent e there (was e j held);
    waited = λ place. each_slot (λ i x. ((at m.slots i).latest ≡ Some place → place + size ≤ base) → x.latest ≡ Some place → place + size ≤ base) m.slots k free_slot (set m.slots k free_slot) (set_changes m.slots k free_slot lt)
        (λ before is. cc) (λ i other before. before) j (goes.waited place);
  } where
    was : (e : Message) (i : ℕ) → IsHeld size (at (set m.slots k free_slot) i) e → IsHeld size (at m.slots i) e
    was e = each_slot (λ i x. IsHeld size x e → IsHeld size (at m.slots i) e) m.slots k free_slot (set m.slots k free_slot) (set_changes m.slots k free_slot lt) (λ held. absurd (true≢false held.taken)) (λ i other held. held)

  pub all_freed_track : (ks : List ℕ) (m : Machine) → Tracks size base H Spent m → ((k : ℕ) → Contains ks k → MayGo size base H Spent m.slots k)
      → Tracks size base H Spent (in_turn (freed size) ks m).machine
  all_freed_track [] m t go = t
  all_freed_track (k ∷ ks) m t go =
      let goes : MayGo size base H Spent m.slots k = go k (in_first k ks) in
      all_freed_track ks (freed size k m).machine (freed_tracks m k t goes) (λ j there. goes_on m k j goes.there (go j (in_rest k j ks there)))

  pub freed_keeps : (but : ℕ) (m : Machine) (k : ℕ) → (k ≡ but) ⊎ (is_active (at m.slots k).state ≡ false) → MayGo size base H Spent m.slots k
      → KeepsSegments size base but m.slots (freed size k m).machine.slots
  freed_keeps but m k why goes = record {
    active = λ j other active. (set_changes m.slots k free_slot goes.there).others j (not_that but k m.slots why j other active);
    waiting = λ j place. each_slot (λ i x. NotesPlace (at m.slots i) place → NotesPlace x place ⊎ (place + size ≤ base)) m.slots k free_slot (set m.slots k free_slot) (set_changes m.slots k free_slot goes.there)
        (λ notes. inr (goes.waited place notes.1)) (λ i other notes. inl notes) j;
    held = each_slot (λ i x. is_free x.state ≡ false → HoldsAsMuch (at m.slots i) x) m.slots k free_slot (set m.slots k free_slot) (set_changes m.slots k free_slot goes.there) (λ there. absurd (true≢false there)) (λ i other there. (there, refl));
  }

  pub all_freed_keep : (but : ℕ) (ks : List ℕ) (m : Machine) → ((k : ℕ) → Contains ks k → MayGo size base H Spent m.slots k)
      → KeepsSegments size base but m.slots (in_turn (freed size) ks m).machine.slots
  all_freed_keep but [] m go = keeps_same size base but m.slots
  all_freed_keep but (k ∷ ks) m go =
      let goes : MayGo size base H Spent m.slots k = go k (in_first k ks) in
      keeps_then size base but m.slots (freed size k m).machine.slots (in_turn (freed size) ks (freed size k m).machine).machine.slots (freed_keeps but m k (inr goes.not_active) goes)
      (all_freed_keep but ks (freed size k m).machine (λ j there. goes_on m k j goes.there (go j (in_rest k j ks there))))

  -- A segment that is done, and whose latest replacement lies below the base, has no message of its own.
  pub done_goes : (ss : List SlotState) (tip k : ℕ) → 0 < size → ((e : Message) → IsSuperseded size base H e → Spent e) → IsTracked size base H Spent ss tip → is_done (at ss k) ≡ true
      → ((place : ℕ) → (at ss k).latest ≡ Some place → place + size ≤ base) → MayGo size base H Spent ss k
  done_goes ss tip k some spends t done below = record {
    there = taken_there ss k (draining_taken (at ss k).state parts.0);
    not_active = draining_not_active (at ss k).state parts.0;
    spent = λ e there held. spends e (superseded e there held);
    waited = below;
  } where
    parts : (is_draining (at ss k).state ≡ true) × (same_pages (at ss k).pages (at ss k).gone ≡ true)
    parts = and_parts (is_draining (at ss k).state) (same_pages (at ss k).pages (at ss k).gone) done

    draining_taken : (st : State) → is_draining st ≡ true → is_free st ≡ false
    draining_taken Free is = absurd (false≢true is)
    draining_taken Active is = refl
    draining_taken Inactive is = refl
    draining_taken Draining is = refl

    draining_not_active : (st : State) → is_draining st ≡ true → is_active st ≡ false
    draining_not_active Free is = refl
    draining_not_active Active is = absurd (false≢true is)
    draining_not_active Inactive is = refl
    draining_not_active Draining is = refl

    superseded : (e : Message) → Contains H.messages e → IsHeld size (at ss k) e → IsSuperseded size base H e
    superseded e there held =
        let same : (at ss k).pages ≡ (at ss k).gone = same_is (at ss k).pages (at ss k).gone parts.1 in
        let by : HasReplacement size H (at ss k) e.page = t.gone k e.page (subst (λ (ps : List ℕ). Contains ps e.page) same held.page) in
        record {
          message = by.message;
          there = by.there;
          same_page = by.same_page;
          begins = by.begins;
          later = segment_above size e.place by.message.place some (omega (arith, held.lsn, by.later));
          ends = omega (arith, below by.latest by.noted, by.within);
        }
