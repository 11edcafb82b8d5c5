-- Handing out and marks keep what the slots say of a history's messages.
use Rattle.std.proofs.Common.{if◌then◌else◌, ◌≡◌, ◌∙◌, ◌+◌, ◌/◌, ◌<◌, ℕ, max, Bool, true, false, nat_lt, List, [], ◌∷◌, ◌++◌, length, set, take, refl, sym, ap, arith}
use Rattle.std.specs.List.{Contains}
use Rattle.std.specs.Ordering.{nat_cmp}
use Rattle.std.proofs.lemmas.Bool.{false≢true, ltb-true, ltb-false}
use Rattle.std.proofs.lemmas.List.{length-take, get_or-take}
use Rattle.sled_codec.specs.History.{Message, History}
use Rattle.sled_codec.specs.Pointers.{lid_of}
use Rattle.sled_store.specs.Begin.{first_or}
use Rattle.sled_store.specs.Marks.{IsNewPlace, HasReplacement}
use Rattle.sled_store.specs.SegmentStates.{SlotState, Machine, is_free, is_active, is_inactive, free_slot, taken_slot, slot_at, free_among, next_slot, handed_out, linked_slot, linked, all_outdated, outdating, drained_slot, drained}
use Rattle.sled_store.specs.declared.segment.slot.CacheInfo.{CacheInfo}
use Rattle.sled_store.specs.declared.segment.slot.State.{State}
use Rattle.sled_store.specs.declared.segment.slot.State.TheVariants.{Free, Active, Inactive, Draining}
use Rattle.sled_store.proofs.Segments.Elements.{in_first}
use Rattle.sled_store.proofs.Marks.SlotLemmas.{free_behind, taken_there, set_changes, push_changes, each_slot, in_insert, Passes, where_passes}
use Rattle.sled_store.specs.Tracked.{at, IsActiveAt, IsTracked}
use Rattle.sled_store.proofs.Marks.Tracked.{IsUpdate, updated, taken_out}

-- what the slots of a machine say of a history's messages
abbrev pub Tracks : ℕ → ℕ → History → (Message → Type 0) → Machine → Type 0
Tracks size base H Spent m = IsTracked size base H Spent m.slots m.tip

-- Handing out.

-- the slot that is handed out next is free
pub next_free : (size base : ℕ) (H : History) (Spent : Message → Type 0) (m : Machine) → Tracks size base H Spent m → is_free (slot_at m (next_slot m)).state ≡ true
next_free size base H Spent m t = by (free_among (take m.tip m.slots)) (where_passes (λ s. is_free s.state) 0 (take m.tip m.slots)) where
  by : (ks : List ℕ) → ((k : ℕ) → Contains ks k → Passes (λ s. is_free s.state) 0 (take m.tip m.slots) k) → is_free (at m.slots (first_or m.tip ks)).state ≡ true
  by [] passes = t.cut_off m.tip (omega arith)
  by (k ∷ ks) passes =
      let first : Passes (λ s. is_free s.state) 0 (take m.tip m.slots) k = passes k (in_first k ks) in
      let is : k ≡ first.index = omega (arith, first.is) in
      let lt : first.index < m.tip = omega (arith, first.there, length-take m.tip m.slots) in
      let same : at (take m.tip m.slots) first.index ≡ at m.slots k = get_or-take m.tip m.slots first.index free_slot lt ∙ ap (at m.slots) (sym is) in
      ap (λ (s : SlotState). is_free s.state) (sym same) ∙ first.passes

pub handed_out_tracks : (size base : ℕ) (H : History) (Spent : Message → Type 0) (m : Machine) (place : ℕ) → Tracks size base H Spent m → IsNewPlace size place m → Tracks size base H Spent (handed_out place m)
handed_out_tracks size base H Spent m place t new_place = by (nat_lt k (length m.slots)) refl where
  k : ℕ
  k = next_slot m

  by : (b : Bool) → nat_lt (next_slot m) (length m.slots) ≡ b
      → IsTracked size base H Spent (if b then set m.slots (next_slot m) (taken_slot place) else m.slots ++ taken_slot place ∷ []) (max m.tip (next_slot m + 1))
  by true lt =
      taken_out size base H Spent m.slots m.tip t (next_slot m) place (set m.slots (next_slot m) (taken_slot place)) (max m.tip (next_slot m + 1))
      (set_changes m.slots (next_slot m) (taken_slot place) (ltb-true (next_slot m) (length m.slots) lt)) (next_free size base H Spent m t) (omega arith) (omega arith) new_place.aligned new_place.above
  by false ge =
      taken_out size base H Spent m.slots m.tip t (length m.slots) place (m.slots ++ taken_slot place ∷ []) (max m.tip (next_slot m + 1)) (push_changes m.slots (taken_slot place))
      (ap (λ (s : SlotState). is_free s.state) (free_behind m.slots (length m.slots) (omega arith))) (omega (arith, ltb-false (next_slot m) (length m.slots) ge)) (omega arith) new_place.aligned new_place.above

-- One slot.

pub replacement_at : (size : ℕ) (H : History) (s n : SlotState) (page : ℕ) → n.lsn ≡ s.lsn → n.latest ≡ s.latest → HasReplacement size H s page
    → HasReplacement size H n page
replacement_at size H s n page lsn latest by = record {
  message = by.message;
  there = by.there;
  same_page = by.same_page;
  begins = by.begins;
  later = omega (arith, lsn, by.later);
  latest = by.latest;
  noted = latest ∙ by.noted;
  within = by.within;
}

pub set_tracks : (size base : ℕ) (H : History) (Spent : Message → Type 0) (ss : List SlotState) (tip k : ℕ) (s : SlotState) → IsTracked size base H Spent ss tip
    → is_free (at ss k).state ≡ false → IsUpdate size base H ss (at ss k) s → IsTracked size base H Spent (set ss k s) tip
set_tracks size base H Spent ss tip k s t taken update = updated size base H Spent ss tip t k s (set ss k s) (set_changes ss k s (taken_there ss k taken)) taken update

-- The segment in a slot stays, and is as active as before.
pub record IsSameSegment (old new : SlotState) : Type 0 where
  pub free : is_free new.state ≡ is_free old.state
  pub active : is_active new.state ≡ is_active old.state
  pub lsn : new.lsn ≡ old.lsn
  pub pages : (page : ℕ) → Contains old.pages page → Contains new.pages page

abbrev pub SameSegments : List SlotState → List SlotState → Type 0
SameSegments old new = (j : ℕ) → IsSameSegment (at old j) (at new j)

pub same_segment : (s : SlotState) → IsSameSegment s s
same_segment s = record { free = refl; active = refl; lsn = refl; pages = λ page there. there }

pub same_then : (old mid new : List SlotState) → SameSegments old mid → SameSegments mid new → SameSegments old new
same_then old mid new first more j = record { free = (more j).free ∙ (first j).free; active = (more j).active ∙ (first j).active; lsn = (more j).lsn ∙ (first j).lsn; pages = λ page there. (more j).pages page ((first j).pages page there) }

pub set_same : (ss : List SlotState) (k : ℕ) (s : SlotState) → k < length ss → IsSameSegment (at ss k) s → SameSegments ss (set ss k s)
set_same ss k s lt same = each_slot (λ j x. IsSameSegment (at ss j) x) ss k s (set ss k s) (set_changes ss k s lt) same (λ j other. same_segment (at ss j))

pub active_same : (old new : List SlotState) (place : ℕ) → SameSegments old new → IsActiveAt old place → IsActiveAt new place
active_same old new place same at_one = record { slot = at_one.slot; active = (same at_one.slot).active ∙ at_one.active; lsn = (same at_one.slot).lsn ∙ at_one.lsn }

-- Links.

module _ (size : ℕ) (m : Machine) (info : CacheInfo) (taken : is_free (slot_at m (lid_of info.pointer / size)).state ≡ false) where
  pub linked_same : (page : ℕ) → SameSegments m.slots (linked size page info m).slots
  linked_same page =
      let k = lid_of info.pointer / size in
      set_same m.slots k (linked_slot page info.log_size (slot_at m k)) (taken_there m.slots k taken)
      (record { free = refl; active = refl; lsn = refl; pages = λ p there. in_insert nat_cmp (slot_at m k).pages page p there })

  pub outdating_same : (old : List CacheInfo) → SameSegments m.slots (outdating size info old m).slots
  outdating_same old =
      let k = lid_of info.pointer / size in
      set_same m.slots k (record (slot_at m k) { blobs = all_outdated info.pointer old (slot_at m k).blobs }) (taken_there m.slots k taken) (record { free = refl; active = refl; lsn = refl; pages = λ p there. there })

module _ (size base : ℕ) (H : History) (Spent : Message → Type 0) (m : Machine) (t : Tracks size base H Spent m) (page : ℕ) (info : CacheInfo) (taken : is_free (slot_at m (lid_of info.pointer / size)).state ≡ false) where
  pub linked_tracks : Tracks size base H Spent (linked size page info m)
  linked_tracks =
      let k = lid_of info.pointer / size in
      let s : SlotState = linked_slot page info.log_size (slot_at m k) in
      set_tracks size base H Spent m.slots m.tip k s t taken (record {
        taken = taken;
        lsn = refl;
        stable = λ none. t.stable k taken none;
        pages = λ p there. in_insert nat_cmp (slot_at m k).pages page p there;
        gone = λ p there. replacement_at size H (slot_at m k) s p refl refl (t.gone k p there);
        latest = t.latest k;
        within = λ p there. in_insert nat_cmp (slot_at m k).pages page p (t.within k p there);
      })

  pub outdating_tracks : (old : List CacheInfo) → Tracks size base H Spent (outdating size info old m)
  outdating_tracks old =
      let k = lid_of info.pointer / size in
      let s : SlotState = record (slot_at m k) { blobs = all_outdated info.pointer old (slot_at m k).blobs } in
      set_tracks size base H Spent m.slots m.tip k s t taken (record {
        taken = taken;
        lsn = refl;
        stable = λ none. t.stable k taken none;
        pages = λ p there. there;
        gone = λ p there. replacement_at size H (slot_at m k) s p refl refl (t.gone k p there);
        latest = t.latest k;
        within = t.within k;
      })

-- Drains.

pub inactive_taken : (s : SlotState) → is_inactive s.state ≡ true → is_free s.state ≡ false
inactive_taken s is = by s.state is where
  by : (st : State) → is_inactive st ≡ true → is_free st ≡ false
  by Free is = absurd (false≢true is)
  by Active is = refl
  by Inactive is = refl
  by Draining is = refl

pub inactive_not_active : (s : SlotState) → is_inactive s.state ≡ true → is_active s.state ≡ false
inactive_not_active s is = by s.state is where
  by : (st : State) → is_inactive st ≡ true → is_active st ≡ false
  by Free is = refl
  by Active is = absurd (false≢true is)
  by Inactive is = refl
  by Draining is = refl

module _ (m : Machine) (k : ℕ) (inactive : is_inactive (slot_at m k).state ≡ true) where
  pub drained_tracks : (size base : ℕ) (H : History) (Spent : Message → Type 0) → Tracks size base H Spent m → Tracks size base H Spent (drained k m)
  drained_tracks size base H Spent t =
      set_tracks size base H Spent m.slots m.tip k (drained_slot (slot_at m k)) t (inactive_taken (slot_at m k) inactive) (record {
        taken = refl;
        lsn = refl;
        stable = λ none. t.stable k (inactive_taken (slot_at m k) inactive) (inactive_not_active (slot_at m k) inactive);
        pages = λ p there. there;
        gone = λ p there. replacement_at size H (slot_at m k) (drained_slot (slot_at m k)) p refl refl (t.gone k p there);
        latest = t.latest k;
        within = t.within k;
      })

  pub drained_same : SameSegments m.slots (drained k m).slots
  drained_same =
      set_same m.slots k (drained_slot (slot_at m k)) (taken_there m.slots k (inactive_taken (slot_at m k) inactive))
      (record { free = sym (inactive_taken (slot_at m k) inactive); active = sym (inactive_not_active (slot_at m k) inactive); lsn = refl; pages = λ p there. there })
