-- Each slot of a log that isn't free has a segment of its own: where its accountant has started, each has that of its entries, and one that is handed out gets one behind all others.
use Rattle.std.proofs.Common.{◌≡◌, ◌≢◌, ◌⊎◌, ◌∙◌, ◌+◌, ◌-◌, ◌*◌, ◌/◌, ◌%◌, ◌≤◌, ◌<◌, ℕ, pos, Bool, true, false, nat_lt, if◌then◌else◌, List, [], ◌∷◌, ◌++◌, length, length-append, set, get_or, Option, None, Some, refl, sym, ap, subst, arith, inl, inr, unsigned_abs}
use Rattle.std.specs.List.{Contains}
use Rattle.std.proofs.Math.Nat.{lt-div-mul-add, mod-add-div', mul-div_cancel, mul-mod_left}
use Rattle.std.proofs.lemmas.Bool.{cases_eq, cases_lt}
use Rattle.std.proofs.lemmas.Bool.Decides.{nat_tests}
use Rattle.std.proofs.lemmas.List.{get_or-set_other, get_or-set_same, get_or_append_left, get_or_past}
use Rattle.std.proofs.lemmas.List.Elements.{All-contains}
use Rattle.std.proofs.lemmas.List.FromFn.{get_or-map-range_with_len, length-map-range_with_len}
use Rattle.std.proofs.Math.Seq.{get_or-append_seam}
use Rattle.sled_codec.specs.declared.result.DiskPtr.TheVariants.{Inline}
use Rattle.sled_codec.specs.Coords.{raised}
use Rattle.sled_codec.specs.Snapshots.{Entry, SnapshotModel, stable_place}
use Rattle.sled_store.specs.Begin.{IsPlacedIn, IsStartable, entries_of, place_at, segment_number_of, slot_of, slots_of}
use Rattle.sled_store.specs.SegmentStates.{Machine, SlotState, free_slot, handed_out, is_free, next_slot, put_slot, slot_at, taken_slot}
use Rattle.sled_store.specs.SlotTables.{active_entry, number_in}
use Rattle.sled_store.specs.Started.{all_entries, found, found_slot, started}
use Rattle.sled_store.proofs.Segments.Elements.{in_cases}
use Rattle.sled_store.proofs.Segments.EntryLemmas.{first_in}
use Rattle.sled_store.proofs.Segments.StartLemmas.{startable_fits}
use Rattle.sled_core.specs.inside.FreeSlots.{HaveOwn}
use Rattle.sled_core.specs.FreeSlots.{begun_machine, with_current}
use Rattle.sled_core.proofs.Tail.Multiples.{apart}

-- What was put there is there,
pub put_there : (k : ℕ) (t : SlotState) (xs : List SlotState) → k ≤ length xs → get_or (put_slot k t xs) k free_slot ≡ t
put_there k t xs within = by (nat_lt k (length xs)) refl where
  by : (b : Bool) → nat_lt k (length xs) ≡ b → get_or (if b then set xs k t else xs ++ t ∷ []) k free_slot ≡ t
  by true test = get_or-set_same xs k t free_slot (grind (arith, nat_tests, test))
  by false test =
      let end : k ≡ length xs = grind (arith, nat_tests, test, within) in
      ap (λ n. get_or (xs ++ t ∷ []) n free_slot) end ∙ get_or-append_seam xs t [] free_slot

-- and the others are as they were.
pub put_other : (n : ℕ) (t : SlotState) (xs : List SlotState) (k : ℕ) → n ≤ length xs → k ≢ n → get_or (put_slot n t xs) k free_slot ≡ get_or xs k free_slot
put_other n t xs k within other = by (nat_lt n (length xs)) refl where
  by : (b : Bool) → nat_lt n (length xs) ≡ b → get_or (if b then set xs n t else xs ++ t ∷ []) k free_slot ≡ get_or xs k free_slot
  by true test = get_or-set_other xs n k t free_slot other
  by false test = elim (cases_lt k (length xs)) [
    | inl inside ↦ get_or_append_left xs (t ∷ []) free_slot k inside
    | inr past ↦ (
        let end : n ≡ length xs = grind (arith, nat_tests, test, within) in
        get_or_past (xs ++ t ∷ []) k free_slot (omega (arith, length-append xs (t ∷ []), past, end, other)) ∙ sym (get_or_past xs k free_slot past))
  ]

-- A slot is handed out.
module _ (m : Machine) (within : next_slot m ≤ length m.slots) (place : ℕ) where
  -- It has the segment that begins there,
  pub handed_there : slot_at (handed_out place m) (next_slot m) ≡ taken_slot place
  handed_there = put_there (next_slot m) (taken_slot place) m.slots within

  -- and the others are as they were.
  pub handed_other : (k : ℕ) → k ≢ next_slot m → slot_at (handed_out place m) k ≡ slot_at m k
  handed_other k other = put_other (next_slot m) (taken_slot place) m.slots k within other

  -- A slot that isn't free then is that one, or it was as it is.
  pub taken_cases : (k : ℕ) → is_free (slot_at (handed_out place m) k).state ≡ false
      → (((slot_at (handed_out place m) k).lsn ≡ place) × (k ≡ next_slot m)) ⊎ (((slot_at (handed_out place m) k).lsn ≡ (slot_at m k).lsn) × (is_free (slot_at m k).state ≡ false))
  taken_cases k taken = elim (cases_eq k (next_slot m)) [
    | inl new ↦ inl (ap (λ n. (slot_at (handed_out place m) n).lsn) new ∙ ap (λ (x : SlotState). x.lsn) handed_there, new)
    | inr old ↦ inr (ap (λ (x : SlotState). x.lsn) (handed_other k old), ap (λ (x : SlotState). is_free x.state) (sym (handed_other k old)) ∙ taken)
  ]

  -- Where it lies behind all others, each has a segment of its own.
  module _ (size : ℕ) (some : 0 < size) (at : place % size ≡ 0) (own : HaveOwn size place m) where
    pub own_handed : HaveOwn size (place + size) (handed_out place m)
    own_handed = record {
      aligned = λ k taken. elim (taken_cases k taken) [
        | inl new ↦ ap (λ n. n % size) new.0 ∙ at
        | inr old ↦ ap (λ n. n % size) old.0 ∙ own.aligned k old.1
      ];
      below = λ k taken. elim (taken_cases k taken) [
        | inl new ↦ (let is = new.0 in omega (arith, is))
        | inr old ↦ (let is = old.0 in let low = own.below k old.1 in omega (arith, is, low))
      ];
      one = λ j k taken_j taken_k same. elim (taken_cases j taken_j) [
        | inl new_j ↦ elim (taken_cases k taken_k) [
          | inl new_k ↦ new_j.1 ∙ sym new_k.1
          | inr old_k ↦ absurd (let a = new_j.0 in let b = old_k.0 in let low = own.below k old_k.1 in omega (arith, a, b, low, same, some))
        ]
        | inr old_j ↦ elim (taken_cases k taken_k) [
          | inl new_k ↦ absurd (let a = old_j.0 in let b = new_k.0 in let low = own.below j old_j.1 in omega (arith, a, b, low, same, some))
          | inr old_k ↦ own.one j k old_j.1 old_k.1 (sym old_j.0 ∙ same ∙ old_k.0)
        ]
      ];
    }

-- An accountant that has started.
module _ (size len : ℕ) (some : 0 < size) (s : SnapshotModel) where
  abbrev slots : ℕ
  slots = slots_of size len

  abbrev start : Machine
  start = (started size len s).machine

  -- A slot that isn't free has an entry of its segment.
  pub record HasFound (k : ℕ) : Type 0 where
    pub entry : Entry
    pub among : Contains (all_entries s) entry
    pub slot : slot_of size entry ≡ k
    pub is : (slot_at start k).lsn ≡ segment_number_of size entry * size

  pub found_taken : (k : ℕ) → is_free (slot_at start k).state ≡ false → HasFound k
  found_taken k taken = elim (cases_lt k slots) [
    | inl inside ↦ by (number_in size k (all_entries s)) refl (get_or-map-range_with_len (λ j. found_slot size s j (number_in size j (all_entries s))) 0 slots k k free_slot inside (omega arith))
    | inr past ↦ absurd (
        let long = length-map-range_with_len (λ j. found_slot size s j (number_in size j (all_entries s))) 0 slots in
        let free : is_free (slot_at start k).state ≡ true = ap (λ (x : SlotState). is_free x.state) (get_or_past (found size slots s).slots k free_slot (omega (arith, long, past))) in
        let both : true ≡ false = sym free ∙ taken in
        cc)
  ]
    where
      by : (o : Option ℕ) → number_in size k (all_entries s) ≡ o → slot_at start k ≡ found_slot size s k o → HasFound k
      by None none is = absurd (let both : true ≡ false = sym (ap (λ (x : SlotState). is_free x.state) is) ∙ taken in cc)
      by (Some n) number is =
          let e = first_in size k (all_entries s) n number in
          record { entry = e.0; among = e.1; slot = e.2; is = ap (λ (x : SlotState). x.lsn) is ∙ ap (λ i. i * size) (sym e.3) }

  -- The segment of an entry begins at it or below, and it lies below the stable place.
  entry_low : IsStartable size len s → (e : Entry) → Contains (entries_of s.pages) e → (segment_number_of size e * size ≤ unsigned_abs e.0) × (unsigned_abs e.0 < stable_place s.stable)
  entry_low startable e there =
      let placed = All-contains (IsPlacedIn size slots (stable_place s.stable)) (entries_of s.pages) e startable.placed there in
      let whole = mod-add-div' (unsigned_abs e.0) size in
      (omega (arith, whole), placed.below)

  abbrev stable : ℕ
  stable = stable_place s.stable

  -- It ends where the active segment ends at most; and where the log begins one, where that begins.
  pub low_active : IsStartable size len s → (a : ℕ) → (e : Entry) → Contains (active_entry stable (Some a) ++ entries_of s.pages) e → segment_number_of size e * size + size ≤ stable / size * size + size
  low_active startable a e there = elim (in_cases (pos stable, Inline a, 0) e (entries_of s.pages) there) [
    | inl active ↦ (let same = ap (λ (x : Entry). segment_number_of size x * size) active in omega (arith, same))
    | inr among ↦ elim (cases_lt (stable / size * size) (segment_number_of size e * size)) [
      | inl higher ↦ absurd (
          let low = entry_low startable e among in
          let far = apart size some (stable / size * size) (segment_number_of size e * size) (mul-mod_left (stable / size) size) (mul-mod_left (segment_number_of size e) size) higher in
          let past : stable < stable / size * size + size = lt-div-mul-add some in
          omega (arith, far, low.0, low.1, past))
      | inr lower ↦ omega (arith, lower)
    ]
  ]

  pub low_raised : IsStartable size len s → (e : Entry) → Contains (entries_of s.pages) e → segment_number_of size e * size + size ≤ raised size stable
  low_raised startable e among =
      let low = entry_low startable e among in
      let up : stable + (size - 1) < raised size stable + size = lt-div-mul-add some in
      apart size some (segment_number_of size e * size) (raised size stable) (mul-mod_left (segment_number_of size e) size) (mul-mod_left ((stable + (size - 1)) / size) size) (omega (arith, low.0, low.1, up, some))

  -- Two slots that aren't free have two segments.
  two_slots : IsStartable size len s → (j k : ℕ) → HasFound j → HasFound k → (slot_at start j).lsn ≡ (slot_at start k).lsn → j ≡ k
  two_slots startable j k d e same =
      let fit = startable_fits size len s startable in
      let number : segment_number_of size d.entry ≡ segment_number_of size e.entry =
      sym (mul-div_cancel (segment_number_of size d.entry) some) ∙ ap (λ n. n / size) (sym d.is ∙ same ∙ e.is) ∙ mul-div_cancel (segment_number_of size e.entry) some in
      sym d.slot ∙ (fit.apart d.entry e.entry d.among e.among).1 number ∙ e.slot

  pub own_started : IsStartable size len s → (end : ℕ) → ((e : Entry) → Contains (all_entries s) e → segment_number_of size e * size + size ≤ end) → HaveOwn size end start
  own_started startable end low = record {
    aligned = λ k taken. let e = found_taken k taken in ap (λ n. n % size) e.is ∙ mul-mod_left (segment_number_of size e.entry) size;
    below = λ k taken. let e = found_taken k taken in let is = e.is in let less = low e.entry e.among in omega (arith, is, less);
    one = λ j k taken_j taken_k same. two_slots startable j k (found_taken j taken_j) (found_taken k taken_k) same;
  }

  -- A log has begun: the last segment is its own.
  pub own_begun : IsStartable size len s → next_slot start ≤ length start.slots → HaveOwn size (place_at size stable s.active + size) (begun_machine size len s)
  own_begun startable within = by s.active refl where
    by : (o : Option ℕ) → s.active ≡ o → HaveOwn size (place_at size stable o + size) (with_current (place_at size stable o) o start)
    by (Some a) active = own_started startable (stable / size * size + size) (λ e there. low_active startable a e (subst (λ (o : Option ℕ). Contains (active_entry stable o ++ entries_of s.pages) e) active there))
    by None none = own_handed start within (raised size stable) size some (mul-mod_left ((stable + (size - 1)) / size) size)
        (own_started startable (raised size stable) (λ e there. low_raised startable e (subst (λ (o : Option ℕ). Contains (active_entry stable o ++ entries_of s.pages) e) none there)))

  -- A slot whose segment is older than that of the log has an entry of the snapshot.
  pub older : IsStartable size len s → next_slot start ≤ length start.slots → (k : ℕ) → is_free (slot_at (begun_machine size len s) k).state ≡ false → (slot_at (begun_machine size len s) k).lsn < place_at size stable s.active
      → (e : Entry) × Contains (entries_of s.pages) e × (slot_of size e ≡ k) × ((slot_at (begun_machine size len s) k).lsn ≡ segment_number_of size e * size)
  older startable within k = by s.active refl where
    by : (o : Option ℕ) → s.active ≡ o → is_free (slot_at (with_current (place_at size stable o) o start) k).state ≡ false → (slot_at (with_current (place_at size stable o) o start) k).lsn < place_at size stable o
        → (e : Entry) × Contains (entries_of s.pages) e × (slot_of size e ≡ k) × ((slot_at (with_current (place_at size stable o) o start) k).lsn ≡ segment_number_of size e * size)
    by (Some a) active taken low =
        let e = found_taken k taken in
        elim (in_cases (pos stable, Inline a, 0) e.entry (entries_of s.pages) (subst (λ (o : Option ℕ). Contains (active_entry stable o ++ entries_of s.pages) e.entry) active e.among)) [
          | inl first ↦ absurd (let same = ap (λ (x : Entry). segment_number_of size x * size) first in let is = e.is in omega (arith, same, is, low))
          | inr among ↦ (e.entry, among, e.slot, e.is)
        ]
    by None none taken low = elim (taken_cases start within (raised size stable) k taken) [
      | inl new ↦ absurd (let at = new.0 in omega (arith, at, low))
      | inr old ↦ (
          let e = found_taken k old.1 in
          (e.entry, subst (λ (o : Option ℕ). Contains (active_entry stable o ++ entries_of s.pages) e.entry) none e.among, e.slot, old.0 ∙ e.is))
    ]
