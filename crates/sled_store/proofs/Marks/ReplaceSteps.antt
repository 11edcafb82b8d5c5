-- Marks of a Replace or a Free keep what the slots say of a history's messages.
use Rattle.std.proofs.Common.{if◌then◌else◌, ⊎_elim, ◌≡◌, ◌≢◌, ◌∙◌, ◌⊎◌, ◌==◌, ◌*◌, ◌/◌, ◌<◌, ◌≤◌, ℕ, max, Bool, true, false, nat_le, List, [], ◌∷◌, set, Option, Some, None, refl, sym, ap, subst, arith, inl, inr}
use Rattle.std.specs.List.{Contains}
use Rattle.std.specs.BTreeSet.{insert_key}
use Rattle.std.specs.Ordering.{nat_cmp}
use Rattle.std.proofs.lemmas.Bool.{cases_lt, and_parts, eqb-false}
use Rattle.sled_codec.specs.History.{Message, History, begins_page}
use Rattle.sled_codec.specs.Pointers.{lid_of}
use Rattle.sled_store.specs.Marks.{HasReplacement}
use Rattle.sled_store.specs.SegmentStates.{SlotState, Machine, is_free, is_inactive, slot_at, with_slot, later, replaced_slot, is_sparse, drained, drained_if_sparse, replaced_one, replaced_all}
use Rattle.sled_store.specs.declared.segment.slot.CacheInfo.{CacheInfo}
use Rattle.sled_store.proofs.Segments.Elements.{in_first, in_rest}
use Rattle.sled_store.proofs.Marks.SlotLemmas.{taken_there, from_insert}
use Rattle.sled_store.specs.Tracked.{at, IsActiveAt, IsTracked}
use Rattle.sled_store.proofs.Marks.MarkSteps.{Tracks, set_tracks, SameSegments, same_then, same_segment, set_same, active_same, drained_tracks, drained_same}

-- the later of two places is one of them, and is above both
later_cases : (place : ℕ) (o : Option ℕ) (l : ℕ) → later place o ≡ Some l → (l ≡ place) ⊎ (o ≡ Some l)
later_cases place None l is = inl (cc)
later_cases place (Some n) l is = by (cases_lt place n) (cc) where
  by : (place < n) ⊎ (n ≤ place) → max place n ≡ l → (l ≡ place) ⊎ (◌≡◌ {A = Option ℕ} (Some n) (Some l))
  by (inl lt) is = let same : n ≡ l = omega (arith, lt, is) in inr (ap Some same)
  by (inr le) is = inl (omega (arith, le, is))

-- a place that may be there
pub record IsLatest (o : Option ℕ) (low : ℕ) : Type 0 where
  pub latest : ℕ
  pub is : o ≡ Some latest
  pub above : low ≤ latest

later_own : (place : ℕ) (o : Option ℕ) → IsLatest (later place o) place
later_own place None = record { latest = place; is = refl; above = omega arith }
later_own place (Some n) = record { latest = max place n; is = refl; above = omega arith }

later_other : (place : ℕ) (o : Option ℕ) (n : ℕ) → o ≡ Some n → IsLatest (later place o) n
later_other place None n is = cc
later_other place (Some x) n is = let same : x ≡ n = cc in record { latest = max place x; is = refl; above = omega (arith, same) }

-- A sparse segment is drained.
pub sparse_tracks : (size base : ℕ) (H : History) (Spent : Message → Type 0) (m : Machine) (k : ℕ) → Tracks size base H Spent m → Tracks size base H Spent (drained_if_sparse size k m)
sparse_tracks size base H Spent m k t = by (is_sparse size (slot_at m k)) refl where
  by : (b : Bool) → is_sparse size (slot_at m k) ≡ b → Tracks size base H Spent (if b then drained k m else m)
  by true sparse = drained_tracks m k (and_parts (is_inactive (slot_at m k).state) (nat_le ((slot_at m k).held * 100 / size) 50) sparse).0 size base H Spent t
  by false full = t

pub sparse_same : (size : ℕ) (m : Machine) (k : ℕ) → SameSegments m.slots (drained_if_sparse size k m).slots
sparse_same size m k = by (is_sparse size (slot_at m k)) refl where
  by : (b : Bool) → is_sparse size (slot_at m k) ≡ b → SameSegments m.slots (if b then drained k m else m).slots
  by true sparse = drained_same m k (and_parts (is_inactive (slot_at m k).state) (nat_le ((slot_at m k).held * 100 / size) 50) sparse).0
  by false full = λ j. same_segment (at m.slots j)

-- An older message of a page is linked to a segment at or below a place.
pub record LiesBelow (size place page : ℕ) (ss : List SlotState) (o : CacheInfo) : Type 0 where
  pub taken : is_free (at ss (lid_of o.pointer / size)).state ≡ false
  pub below : (at ss (lid_of o.pointer / size)).lsn ≤ place
  pub has : Contains (at ss (lid_of o.pointer / size)).pages page

pub below_same : (size place page : ℕ) (old new : List SlotState) (o : CacheInfo) → SameSegments old new → LiesBelow size place page old o
    → LiesBelow size place page new o
below_same size place page old new o same lies =
    let one = same (lid_of o.pointer / size) in
    let lsn : (at new (lid_of o.pointer / size)).lsn ≡ (at old (lid_of o.pointer / size)).lsn = one.lsn in
    record { taken = one.free ∙ lies.taken; below = omega (arith, lsn, lies.below); has = one.pages page lies.has }

module _ (size base : ℕ) (H : History) (Spent : Message → Type 0) (x : Message) (there : Contains H.messages x) (begins : begins_page x.kind ≡ true) where
  -- a page is replaced in one segment
  replaced_gone : (len : ℕ) (s : SlotState) → s.lsn ≤ x.place / size * size → ((page : ℕ) → Contains s.gone page → HasReplacement size H s page)
      → (page : ℕ) → Contains (replaced_slot x.page len (x.place / size * size) s).gone page → HasReplacement size H (replaced_slot x.page len (x.place / size * size) s) page
  replaced_gone len s low gone page = by (x.place / size * size == s.lsn) refl where
    kept : Contains s.gone page → HasReplacement size H (replaced_slot x.page len (x.place / size * size) s) page
    kept found =
        let by : HasReplacement size H s page = gone page found in
        let most : IsLatest (later (x.place / size * size) s.latest) by.latest = later_other (x.place / size * size) s.latest by.latest by.noted in
        record { message = by.message; there = by.there; same_page = by.same_page; begins = by.begins; later = by.later; latest = most.latest; noted = most.is; within = omega (arith, by.within, most.above) }

    put : s.lsn ≢ x.place / size * size → x.page ≡ page → HasReplacement size H (replaced_slot x.page len (x.place / size * size) s) page
    put other is =
        let most : IsLatest (later (x.place / size * size) s.latest) (x.place / size * size) = later_own (x.place / size * size) s.latest in
        record { message = x; there = there; same_page = is; begins = begins; later = omega (arith, low, other); latest = most.latest; noted = most.is; within = most.above }

    by : (b : Bool) → (x.place / size * size == s.lsn) ≡ b → Contains (if b then s.gone else insert_key nat_cmp s.gone x.page) page
        → HasReplacement size H (replaced_slot x.page len (x.place / size * size) s) page
    by true same found = kept found
    by false other found = ⊎_elim (λ is. put (λ e. eqb-false (x.place / size * size) s.lsn other (sym e)) is) kept (from_insert nat_cmp s.gone x.page page found)

  -- and its pages are still among those of the segment
  replaced_within : (len : ℕ) (s : SlotState) → Contains s.pages x.page → ((page : ℕ) → Contains s.gone page → Contains s.pages page)
      → (page : ℕ) → Contains (replaced_slot x.page len (x.place / size * size) s).gone page → Contains s.pages page
  replaced_within len s own within page = by (x.place / size * size == s.lsn) where
    by : (b : Bool) → Contains (if b then s.gone else insert_key nat_cmp s.gone x.page) page → Contains s.pages page
    by true found = within page found
    by false found = ⊎_elim (λ is. subst (Contains s.pages) is own) (within page) (from_insert nat_cmp s.gone x.page page found)

  module _ (m : Machine) (t : Tracks size base H Spent m) (o : CacheInfo) (lies : LiesBelow size (x.place / size * size) x.page m.slots o) where
    with_replaced : IsActiveAt m.slots (x.place / size * size)
        → IsTracked size base H Spent (set m.slots (lid_of o.pointer / size) (replaced_slot x.page o.log_size (x.place / size * size) (slot_at m (lid_of o.pointer / size)))) m.tip
    with_replaced active =
        let k = lid_of o.pointer / size in
        let s : SlotState = slot_at m k in
        set_tracks size base H Spent m.slots m.tip k (replaced_slot x.page o.log_size (x.place / size * size) s) t lies.taken (record {
          taken = lies.taken;
          lsn = refl;
          stable = λ none. t.stable k lies.taken none;
          pages = λ p found. found;
          gone = replaced_gone o.log_size s lies.below (t.gone k);
          latest = λ l is. ⊎_elim (λ own. inl (subst (IsActiveAt m.slots) (sym own) active)) (λ other. t.latest k l other) (later_cases (x.place / size * size) s.latest l is);
          within = replaced_within o.log_size s lies.has (t.within k);
        })

    replaced_one_tracks : IsActiveAt m.slots (x.place / size * size) → Tracks size base H Spent (replaced_one size x.page (x.place / size * size) o m)
    replaced_one_tracks active =
        let k = lid_of o.pointer / size in
        sparse_tracks size base H Spent (with_slot k (replaced_slot x.page o.log_size (x.place / size * size) (slot_at m k)) m) k (with_replaced active)

    replaced_one_same : SameSegments m.slots (replaced_one size x.page (x.place / size * size) o m).slots
    replaced_one_same =
        let k = lid_of o.pointer / size in
        let s : SlotState = replaced_slot x.page o.log_size (x.place / size * size) (slot_at m k) in
        same_then m.slots (set m.slots k s) (replaced_one size x.page (x.place / size * size) o m).slots
        (set_same m.slots k s (taken_there m.slots k lies.taken) (record { free = refl; active = refl; lsn = refl; pages = λ p found. found })) (sparse_same size (with_slot k s m) k)

  pub replaced_all_tracks : (os : List CacheInfo) (m : Machine) → Tracks size base H Spent m
      → ((o : CacheInfo) → Contains os o → LiesBelow size (x.place / size * size) x.page m.slots o) → IsActiveAt m.slots (x.place / size * size)
      → Tracks size base H Spent (replaced_all size x.page (x.place / size * size) os m)
  replaced_all_tracks [] m t lie active = t
  replaced_all_tracks (o ∷ os) m t lie active =
      let place = x.place / size * size in
      let n : Machine = replaced_one size x.page place o m in
      let lies : LiesBelow size place x.page m.slots o = lie o (in_first o os) in
      let same : SameSegments m.slots n.slots = replaced_one_same m t o lies in
      replaced_all_tracks os n (replaced_one_tracks m t o lies active) (λ p found. below_same size place x.page m.slots n.slots p same (lie p (in_rest o p os found))) (active_same m.slots n.slots place same active)
