-- From one machine to another whose slots keep or lose their segments, one slot at a time: what each of these changes keeps the whole of them keeps.
use Rattle.std.proofs.Common.{◌≡◌, ◌≢◌, ◌∙◌, ◌⊎◌, ◌<◌, ◌≤◌, ℕ, zero, suc, nat_lt, if◌then◌else◌, Bool, false, length, map, sym, ap, subst}
use Rattle.std.proofs.Common.{arith, inl, inr}
use Rattle.std.specs.List.{range_with_len}
use Rattle.std.proofs.lemmas.Bool.{cases_eq, cases_lt, lt-ltb}
use Rattle.std.proofs.lemmas.Bool.Decides.{nat_tests}
use Rattle.std.proofs.lemmas.List.FromFn.{get_or-map-range_with_len, length-map-range_with_len}
use Rattle.sled_store.specs.SegmentStates.{Machine, SlotState, free_slot, is_free, slot_at}
use Rattle.sled_store.proofs.Marks.SlotLemmas.{free_behind}
use Rattle.sled_store.proofs.Marks.SlotMoves.{KeepOrLose, KeepsSegment, LosesSegment}

-- a slot that is as it was has its segment
pub keeps_same : (old new : SlotState) → new ≡ old → KeepsSegment old new
keeps_same old new same = record { free = ap (λ (s : SlotState). is_free s.state) same; lsn = ap (λ (s : SlotState). s.lsn) same }

module _ (size base : ℕ) (m m' : Machine) (long : length m'.slots ≡ length m.slots) (changes : KeepOrLose size base m m') where
  -- the first i slots as they are in the one, the others as in the other
  first_of : ℕ → ℕ → SlotState
  first_of i k = if nat_lt k i then slot_at m' k else slot_at m k

  between : ℕ → Machine
  between i = record { slots = map (first_of i) (range_with_len 0 (length m.slots)); tip = m.tip; cleaner = m.cleaner }

  low_slot : (i k : ℕ) → k < i → first_of i k ≡ slot_at m' k
  unfolding first_of
  low_slot i k low = ap (λ (b : Bool). if b then slot_at m' k else slot_at m k) (lt-ltb k i low)

  high_slot : (i k : ℕ) → i ≤ k → first_of i k ≡ slot_at m k
  unfolding first_of
  high_slot i k high = let not_low : nat_lt k i ≡ false = grind (arith, nat_tests, high) in ap (λ (b : Bool). if b then slot_at m' k else slot_at m k) not_low

  slot_between : (i k : ℕ) → slot_at (between i) k ≡ first_of i k
  unfolding between
  slot_between i k = elim (cases_lt k (length m.slots)) [
    | inl inside ↦ get_or-map-range_with_len (first_of i) 0 (length m.slots) k k free_slot inside (omega arith)
    | inr past ↦
        free_behind (between i).slots k (omega (arith, past, length-map-range_with_len (first_of i) 0 (length m.slots)))
        ∙ sym (elim (cases_lt k i) [
          | inl low ↦ low_slot i k low ∙ free_behind m'.slots k (omega (arith, past, long))
          | inr high ↦ high_slot i k high ∙ free_behind m.slots k past
        ])
  ]

  low_between : (i k : ℕ) → k < i → slot_at (between i) k ≡ slot_at m' k
  low_between i k low = slot_between i k ∙ low_slot i k low

  high_between : (i k : ℕ) → i ≤ k → slot_at (between i) k ≡ slot_at m k
  high_between i k high = slot_between i k ∙ high_slot i k high

  -- So far each slot has kept its segment, or has lost it.
  so_far : (i : ℕ) → KeepOrLose size base m (between i)
  so_far i k = elim (cases_lt k i) [
    | inl low ↦
        subst (λ (s : SlotState). KeepsSegment (slot_at m k) s ⊎ LosesSegment size base (slot_at m k) s) (sym (low_between i k low)) (changes k)
    | inr high ↦ inl (keeps_same (slot_at m k) (slot_at (between i) k) (high_between i k high))
  ]

  -- Two machines that differ in one slot, in which a segment is lost on the way from the one to the other.
  pub record LosesOne (n o : Machine) (k : ℕ) : Type 0 where
    pub old : slot_at n k ≡ slot_at m k
    pub new : slot_at o k ≡ slot_at m' k
    pub lost : LosesSegment size base (slot_at m k) (slot_at m' k)
    pub others : (j : ℕ) → j ≢ k → slot_at o j ≡ slot_at n j
    pub so_far : KeepOrLose size base m n

  module _ (P : Machine → Type 0) (keeps : (n o : Machine) → ((k : ℕ) → KeepsSegment (slot_at n k) (slot_at o k)) → P n → P o)
      (loses : (n o : Machine) (k : ℕ) → LosesOne n o k → P n → P o) where
    one_more : (i : ℕ) → P (between i) → P (between (suc i))
    one_more i has = elim (changes i) [
      | inl kept ↦ keeps (between i) (between (suc i)) (λ k. elim (cases_eq k i) [
        | inl same ↦ subst (λ j. KeepsSegment (slot_at (between i) j) (slot_at (between (suc i)) j)) (sym same)
            (record {
              free = ap (λ (s : SlotState). is_free s.state) now ∙ kept.free ∙ sym (ap (λ (s : SlotState). is_free s.state) was);
              lsn = ap (λ (s : SlotState). s.lsn) now ∙ kept.lsn ∙ sym (ap (λ (s : SlotState). s.lsn) was);
            })
        | inr other ↦ keeps_same (slot_at (between i) k) (slot_at (between (suc i)) k) (beside k other)
      ]) has
      | inr lost ↦ loses (between i) (between (suc i)) i (record { old = was; new = now; lost = lost; others = beside; so_far = so_far i }) has
    ] where
      was : slot_at (between i) i ≡ slot_at m i
      was = high_between i i (omega arith)

      now : slot_at (between (suc i)) i ≡ slot_at m' i
      now = low_between (suc i) i (omega arith)

      beside : (k : ℕ) → k ≢ i → slot_at (between (suc i)) k ≡ slot_at (between i) k
      beside k other = elim (cases_lt k i) [
        | inl low ↦ low_between (suc i) k (omega (arith, low)) ∙ sym (low_between i k low)
        | inr high ↦ high_between (suc i) k (omega (arith, high, other)) ∙ sym (high_between i k high)
      ]

    all_between : (i : ℕ) → P m → P (between i)
    all_between zero has = keeps m (between zero) (λ k. keeps_same (slot_at m k) (slot_at (between zero) k) (high_between zero k (omega arith))) has
    all_between (suc i) has = one_more i (all_between i has)

    pub by_slots : P m → P m'
    by_slots has =
        keeps (between (length m.slots)) m' (λ k. keeps_same (slot_at (between (length m.slots)) k) (slot_at m' k) (elim (cases_lt k (length m.slots)) [
          | inl inside ↦ sym (low_between (length m.slots) k inside)
          | inr past ↦ free_behind m'.slots k (omega (arith, past, long)) ∙ sym (free_behind m.slots k past) ∙ sym (high_between (length m.slots) k past)
        ])) (all_between (length m.slots) has)
