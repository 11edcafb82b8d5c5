-- Older messages are replaced, one after another.
use Rattle.std.proofs.Common.{ℤ, ◌≤◌, ◌≡◌, ◌∙◌, ◌<◌, ◌/◌, ◌+◌, ℕ, zero, suc, Bool, true, false, if◌then◌else◌, List, [], ◌∷◌, length, get_or, set, take, refl, sym, ap, subst, arith, inl, inr, length-set, get_or-set_same, get_or-set_other}
use Rattle.std.specs.List.{All}
use Rattle.std.specs.Ordering.{int_cmp, int_eq}
use Rattle.std.specs.BTreeSet.{insert_key}
use Rattle.sled_codec.specs.declared.result.DiskPtr.{DiskPtr}
use Rattle.sled_codec.specs.declared.result.DiskPtr.TheVariants.{Inline, Blob}
use Rattle.sled_codec.specs.Pointers.{lid_of}
use Rattle.sled_store.specs.declared.segment.slot.CacheInfo.{CacheInfo}
use Rattle.sled_store.specs.SegmentStates.{SlotState, Machine, free_slot, slot_at, with_slot, is_free, is_sparse, drained, drained_slot, replaced_slot, replaced_one, replaced_all, outdated, all_outdated, LiesIn, linked, linked_slot, outdating}
use Rattle.sled_store.specs.inside.Accounts.{IsUsed}
use Rattle.sled_store.specs.Accounts.{slot_state}
use Rattle.sled_store.specs.declared.segment.slot.Slot.{Slot}
use Rattle.sled_store.proofs.Sorted.SortedLemmas.{length_inserted}
use Rattle.sled_store.proofs.Accounts.HandLemmas.{cases_eq}

-- a segment still lies in a slot
pub used_set : (m : Machine) (j k : ℕ) (t : SlotState) → is_free t.state ≡ false → IsUsed m k → (is_free (get_or (set m.slots j t) k free_slot).state ≡ false) × (k < length (set m.slots j t))
used_set m j k t used is = (
  elim (cases_eq k j) [
    | inl same ↦ subst (λ n. is_free (get_or (set m.slots n t) k free_slot).state ≡ false) same (subst (λ (s : SlotState). is_free s.state ≡ false) (sym (get_or-set_same m.slots k t free_slot is.within)) used)
    | inr differ ↦ subst (λ (s : SlotState). is_free s.state ≡ false) (sym (get_or-set_other m.slots j k t free_slot differ)) is.used
  ],
  omega (arith, is.within, length-set m.slots j t),
)

pub used_with : (m : Machine) (j k : ℕ) (t : SlotState) → is_free t.state ≡ false → IsUsed m k → IsUsed (with_slot j t m) k
used_with m j k t used is = let both = used_set m j k t used is in record { within = both.1; used = both.0 }

pub used_drained : (m : Machine) (j k : ℕ) → IsUsed m k → IsUsed (drained j m) k
used_drained m j k is = let both = used_set m j k (drained_slot (slot_at m j)) refl is in record { within = both.1; used = both.0 }

used_either : (j k : ℕ) (n : Machine) (b : Bool) → IsUsed n k → IsUsed (if b then drained j n else n) k
used_either j k n true used = used_drained n j k used
used_either j k n false used = used

pub used_replaced : (size pid place : ℕ) (o : CacheInfo) (m : Machine) (k : ℕ) → IsUsed m (lid_of o.pointer / size) → IsUsed m k → IsUsed (replaced_one size pid place o m) k
used_replaced size pid place o m k here is =
    let j : ℕ = lid_of o.pointer / size in
    let t : SlotState = replaced_slot pid o.log_size place (slot_at m j) in
    used_either j k (with_slot j t m) (is_sparse size (slot_at (with_slot j t m) j)) (used_with m j k t here.used is)

-- one message more
replaced_suc : (size pid place : ℕ) (os : List CacheInfo) (i : ℕ) (d : CacheInfo) (m : Machine) → i < length os → replaced_all size pid place (take (suc i) os) m ≡ replaced_one size pid place (get_or os i d) (replaced_all size pid place (take i os) m)
replaced_suc size pid place [] i d m lt = absurd (omega arith)
replaced_suc size pid place (o ∷ os) zero d m lt = refl
replaced_suc size pid place (o ∷ os) (suc i) d m lt = replaced_suc size pid place os i d (replaced_one size pid place o m) (omega arith)

pub item_same : (xs : List CacheInfo) (i : ℕ) (a b : CacheInfo) → i < length xs → get_or xs i a ≡ get_or xs i b
item_same [] i a b lt = absurd (omega arith)
item_same (x ∷ xs) zero a b lt = refl
item_same (x ∷ xs) (suc i) a b lt = item_same xs i a b (omega arith)

module _ (size n pid place : ℕ) (os : List CacheInfo) (i : ℕ) (item : CacheInfo) (m new : Machine) (lt : i < length os) (same : n ≡ size) (at : item ≡ get_or os i item) (came : new ≡ replaced_one n pid place item m) where
  came_as : new ≡ replaced_one size pid place item m
  came_as = came ∙ ap (λ k. replaced_one k pid place item m) same

  pub step_done : (first : Machine) → m ≡ replaced_all size pid place (take i os) first → new ≡ replaced_all size pid place (take (i + 1) os) first
  step_done first was =
      let next : suc i ≡ i + 1 = omega arith in
      came_as ∙ ap (replaced_one size pid place item) was ∙ ap (λ o. replaced_one size pid place o (replaced_all size pid place (take i os) first)) at
      ∙ sym (replaced_suc size pid place os i item first lt) ∙ ap (λ k. replaced_all size pid place (take k os) first) next

  pub step_used : All (λ (o : CacheInfo). IsUsed m (lid_of o.pointer / size)) os → All (λ (o : CacheInfo). IsUsed new (lid_of o.pointer / size)) os
  step_used used k e below =
      let here : IsUsed m (lid_of item.pointer / size) = subst (λ (o : CacheInfo). IsUsed m (lid_of o.pointer / size)) (sym at) (used i item lt) in
      subst (λ (z : Machine). IsUsed z (lid_of (get_or os k e).pointer / size)) (sym came_as) (used_replaced size pid place item m (lid_of (get_or os k e).pointer / size) here (used k e below))

-- Blobs of older messages.

outdated_suc : (pointer : DiskPtr) (os : List CacheInfo) (i : ℕ) (d : CacheInfo) (blobs : List ℤ) → i < length os
    → all_outdated pointer (take (suc i) os) blobs ≡ outdated pointer (get_or os i d).pointer (all_outdated pointer (take i os) blobs)
outdated_suc pointer [] i d blobs lt = absurd (omega arith)
outdated_suc pointer (o ∷ os) zero d blobs lt = refl
outdated_suc pointer (o ∷ os) (suc i) d blobs lt = outdated_suc pointer os i d (outdated pointer o.pointer blobs) (omega arith)

pub outdated_more : (pointer : DiskPtr) (os : List CacheInfo) (i : ℕ) (item : CacheInfo) (blobs now new : List ℤ) → i < length os → item ≡ get_or os i item → now ≡ all_outdated pointer (take i os) blobs
    → new ≡ outdated pointer item.pointer now → new ≡ all_outdated pointer (take (i + 1) os) blobs
outdated_more pointer os i item blobs now new lt at was came =
    let next : suc i ≡ i + 1 = omega arith in
    came ∙ ap (outdated pointer item.pointer) was ∙ ap (λ (o : CacheInfo). outdated pointer o.pointer (all_outdated pointer (take i os) blobs)) at
    ∙ sym (outdated_suc pointer os i item blobs lt) ∙ ap (λ k. all_outdated pointer (take k os) blobs) next

pub length_outdated : (pointer old : DiskPtr) (blobs : List ℤ) → length (outdated pointer old blobs) ≤ length blobs + 1
length_outdated (Inline lid) (Inline lid_then) blobs = omega arith
length_outdated (Blob lid place) (Inline lid_then) blobs = omega arith
length_outdated (Inline lid) (Blob lid_then old) blobs = length_inserted int_cmp old blobs
length_outdated (Blob lid place) (Blob lid_then old) blobs = by (int_eq place old)
  where
    by : (b : Bool) → length (if b then blobs else insert_key int_cmp blobs old) ≤ length blobs + 1
    by true = omega arith
    by false = length_inserted int_cmp old blobs

pub room_step : (pointer old : DiskPtr) (now new : List ℤ) → new ≡ outdated pointer old now → length new ≤ length now + 1
room_step pointer old now new came = omega (arith, ap length came, length_outdated pointer old now)

-- a slot in which blobs alone are others
pub outdated_state : (s d : Slot) (pointer : DiskPtr) (os : List CacheInfo) → s ≡ record d { blobs = s.blobs } → s.blobs.0 ≡ all_outdated pointer os d.blobs.0
    → slot_state s ≡ record (slot_state d) { blobs = all_outdated pointer os (slot_state d).blobs }
outdated_state s d pointer os rest blobs = ap slot_state rest ∙ ap (λ (l : List ℤ). record (slot_state d) { blobs = l }) blobs

-- a segment still lies in a slot when a message is linked and blobs are noted
pub used_after : (size n pid : ℕ) (info : CacheInfo) (os : List CacheInfo) (m m_linked new : Machine) (k : ℕ) → n ≡ size → m_linked ≡ linked size pid info m → new ≡ outdating n info os m_linked
    → IsUsed m (lid_of info.pointer / size) → IsUsed m k → IsUsed new k
used_after size n pid info os m m_linked new k same first second here is =
    let j : ℕ = lid_of info.pointer / size in
    let linked_one : Machine = linked size pid info m in
    let there : IsUsed linked_one j = used_with m j j (linked_slot pid info.log_size (slot_at m j)) here.used here in
    let one : IsUsed linked_one k = used_with m j k (linked_slot pid info.log_size (slot_at m j)) here.used is in
    let s : SlotState = slot_at linked_one j in
    let two : IsUsed (outdating size info os linked_one) k = used_with linked_one j k (record s { blobs = all_outdated info.pointer os s.blobs }) there.used one in
    subst (λ z. IsUsed z k) (sym (second ∙ ap (λ h. outdating h info os m_linked) same ∙ ap (outdating size info os) first)) two

-- an older message lies in a segment
pub lies_used : (size : ℕ) (m : Machine) (o : CacheInfo) → LiesIn size m o → IsUsed m (lid_of o.pointer / size)
lies_used size m o lies = record { within = lies.slot; used = lies.taken }
