-- The free slots of an accountant have zeros: where it has started on a log file, once it has handed one out, and behind a write to one that isn't free.
use Rattle.std.proofs.Common.{◌≡◌, ◌∙◌, ◌+◌, ◌*◌, ◌≤◌, ◌<◌, ℕ, suc, Bool, true, false, not, nat_lt, if◌then◌else◌, List, [], ◌∷◌, ◌++◌, length, set, get_or, refl, sym, ap, arith, inl, inr}
use Rattle.std.proofs.Math.Nat.{mul-le-mul_right, suc-mul}
use Rattle.std.proofs.lemmas.Bool.{cases_eq, cases_lt}
use Rattle.std.proofs.lemmas.Bool.Decides.{nat_tests}
use Rattle.std.proofs.lemmas.List.{get_or-set_other, get_or-set_same, get_or_append_left, get_or_past}
use Rattle.std.proofs.lemmas.List.FromFn.{get_or-map-range_with_len}
use Rattle.sled_codec.specs.Snapshots.{SnapshotModel}
use Rattle.sled_store.specs.Begin.{is_used, slots_of}
use Rattle.sled_store.specs.Device.{overwritten}
use Rattle.sled_store.specs.SegmentStates.{Machine, SlotState, free_slot, handed_out, is_free, next_slot, put_slot, slot_at, taken_slot}
use Rattle.sled_store.specs.SlotTables.{number_in}
use Rattle.sled_store.specs.Started.{all_entries, found, found_slot, started}
use Rattle.sled_store.proofs.Accounts.StartNext.{free_found}
use Rattle.sled_store.proofs.Segments.FilledLemmas.{free_has}
use Rattle.sled_store.proofs.Accounts.StartedFile.{left_within, started_file, started_past, started_zero}
use Rattle.sled_core.specs.inside.FreeSlots.{FreeAreZeros}
use Rattle.sled_core.proofs.Sealed.OneWritten.{overwritten_beside}

-- Where it has started: those that the snapshot doesn't use were filled, and behind the file there is nothing.
pub started_free : (size : ℕ) → 0 < size → (log : List ℕ) (s : SnapshotModel) → FreeAreZeros size (started_file size log s) (started size (length log) s).machine
started_free size some log s k free i low high = elim (cases_lt k slots) [
  | inl inside ↦ started_zero size some log s k i (free_has (is_used size s) slots k inside (unused_k inside)) low high
  | inr past ↦ (let more = mul-le-mul_right size past in let less = mul-le-mul_right size (left_within size some log s) in started_past size some log s i (omega (arith, more, less, low)))
]
  where
    slots : ℕ
    slots = slots_of size (length log)

    there : (k : ℕ) → k < slots → get_or (found size slots s).slots k free_slot ≡ found_slot size s k (number_in size k (all_entries s))
    there k lt = get_or-map-range_with_len (λ j. found_slot size s j (number_in size j (all_entries s))) 0 slots k k free_slot lt (omega arith)

    unused_k : k < slots → is_used size s k ≡ false
    unused_k inside = by (is_used size s k) (sym free ∙ ap (λ (x : SlotState). is_free x.state) (there k inside) ∙ free_found size s k) where
      by : (b : Bool) → true ≡ not b → b ≡ false
      by true is = cc
      by false is = cc

-- A slot that is free behind a hand-out was free before.
pub free_before : (n : ℕ) (t : SlotState) (xs : List SlotState) (k : ℕ) → is_free t.state ≡ false → is_free (get_or (put_slot n t xs) k free_slot).state ≡ true → is_free (get_or xs k free_slot).state ≡ true
free_before n t xs k taken = by (nat_lt n (length xs)) refl where
  IsFree : List SlotState → Type 0
  IsFree ys = is_free (get_or ys k free_slot).state ≡ true

  by : (b : Bool) → nat_lt n (length xs) ≡ b → IsFree (if b then set xs n t else xs ++ t ∷ []) → IsFree xs
  by true test free = elim (cases_eq k n) [
    | inl same ↦ absurd (
        let inside : n < length xs = grind (arith, nat_tests, test) in
        let both : true ≡ false = sym free ∙ ap (λ j. is_free (get_or (set xs n t) j free_slot).state) same ∙ ap (λ (x : SlotState). is_free x.state) (get_or-set_same xs n t free_slot inside) ∙ taken in
        cc)
    | inr other ↦ ap (λ (x : SlotState). is_free x.state) (sym (get_or-set_other xs n k t free_slot other)) ∙ free
  ]
  by false test free = elim (cases_lt k (length xs)) [
    | inl inside ↦ ap (λ (x : SlotState). is_free x.state) (sym (get_or_append_left xs (t ∷ []) free_slot k inside)) ∙ free
    | inr past ↦ ap (λ (x : SlotState). is_free x.state) (get_or_past xs k free_slot past)
  ]

-- So the others still have zeros once one was handed out.
pub handed_free : (size : ℕ) (log : List ℕ) (m : Machine) (lsn : ℕ) → FreeAreZeros size log m → FreeAreZeros size log (handed_out lsn m)
handed_free size log m lsn zeros k free = zeros k (free_before (next_slot m) (taken_slot lsn) m.slots k refl free)

-- And behind a write to a slot that isn't free.
pub written_free : (size : ℕ) (log : List ℕ) (m : Machine) (j at : ℕ) (xs : List ℕ) → is_free (slot_at m j).state ≡ false → j * size ≤ at → at + length xs ≤ j * size + size → 0 < length xs
    → FreeAreZeros size log m → FreeAreZeros size (overwritten log at xs) m
written_free size log m j at xs taken low high some zeros k free i above below =
    overwritten_beside log at xs i some (elim (cases_lt k j) [
      | inl lower ↦ (let more = mul-le-mul_right size lower in inl (omega (arith, more, low, below)))
      | inr over ↦ (let more : j * size + size ≤ k * size = further over in inr (omega (arith, more, high, above)))
    ]) ∙ zeros k free i above below
  where
    further : j ≤ k → j * size + size ≤ k * size
    further over = elim (cases_eq j k) [
      | inl same ↦ absurd (let both : true ≡ false = sym free ∙ ap (λ n. is_free (slot_at m n).state) (sym same) ∙ taken in cc)
      | inr other ↦ (let lt : suc j ≤ k = omega (arith, over, other) in let more = mul-le-mul_right size lt in omega (arith, more, suc-mul j size))
    ]
