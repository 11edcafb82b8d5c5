-- A log file whose slots are filled with zeros, one after another: how long it gets, which bytes stay, and which are zeros.
use Rattle.std.proofs.Common.{◌≡◌, ◌≢◌, ◌⊎◌, ◌≤◌, ◌<◌, ◌+◌, ◌-◌, ◌*◌, ◌/◌, ◌∙◌, ℕ, zero, suc, max, List, [], ◌∷◌, ◌++◌, length, take, drop, replicate, map, get_or, refl, sym, ap, subst, arith, inl, inr, length-append, length-take, Bool, true, false, if◌then◌else◌}
use Rattle.std.specs.List.{All, Contains}
use Rattle.std.proofs.lemmas.List.Elements.{All-push, Contains-push, Contains-append_left, All-tail}
use Rattle.std.proofs.Math.Nat.{mul-le-mul_right, div-mul-le_self, lt-div-mul-add}
use Rattle.std.proofs.lemmas.Bool.{cases_lt}
use Rattle.std.proofs.lemmas.Bool.Decides.{eqb_tells}
use Rattle.std.proofs.lemmas.List.{length-replicate, get_or-replicate, get_or-take, get_or-drop}
use Rattle.std.proofs.lemmas.Slice.{drop-append-drop}
use Rattle.sled_codec.specs.Places.{part}
use Rattle.sled_store.specs.Device.{Trace, LogState, state_of, at_rest, overwritten, end_of, Synced}
use Rattle.sled_store.specs.Script.{after_all}
use Rattle.sled_store.proofs.LogFile.OverwrittenLemmas.{length-overwritten, overwritten-part, overwritten-below, overwritten-above}
use Rattle.sled_store.proofs.LogFile.LogLemmas.{part_written}
use Rattle.sled_store.proofs.LogFile.LooseLemmas.{end_of-some}
use Rattle.sled_store.specs.Begin.{slots_of, fill, filling, not_below, first_or}
use Rattle.sled_store.proofs.Segments.Elements.{in_cases}

-- the bytes of a file, with these slots filled with zeros
abbrev pub filled : ℕ → List ℕ → List ℕ → List ℕ
filled size log [] = log
filled size log (k ∷ ks) = filled size (overwritten log (k * size) (replicate size 0)) ks

-- What a device shows once slots were filled.

fills : (size : ℕ) (ks : List ℕ) (t : Trace) → (state_of (after_all (map (fill size) ks ++ Synced ∷ []) t)).log ≡ at_rest (filled size (state_of t).log.bytes ks)
fills size [] t = refl
fills size (k ∷ ks) t = fills size ks (fill size k ∷ t)

fills_snapshots : (size : ℕ) (ks : List ℕ) (t : Trace) → (state_of (after_all (map (fill size) ks ++ Synced ∷ []) t)).snapshots ≡ (state_of t).snapshots
fills_snapshots size [] t = refl
fills_snapshots size (k ∷ ks) t = fills_snapshots size ks (fill size k ∷ t)

fills_blobs : (size : ℕ) (ks : List ℕ) (t : Trace) → (state_of (after_all (map (fill size) ks ++ Synced ∷ []) t)).blobs ≡ (state_of t).blobs
fills_blobs size [] t = refl
fills_blobs size (k ∷ ks) t = fills_blobs size ks (fill size k ∷ t)

-- where something was filled, all is settled
pub filling-settles : (size k : ℕ) (ks : List ℕ) (t : Trace) → (state_of (after_all (filling size (k ∷ ks)) t)).log ≡ at_rest (filled size (state_of t).log.bytes (k ∷ ks))
filling-settles size k ks t = fills size (k ∷ ks) t

-- a settled file stays settled
pub filling-log : (size : ℕ) (ks : List ℕ) (t : Trace) (log : List ℕ) → (state_of t).log ≡ at_rest log → (state_of (after_all (filling size ks) t)).log ≡ at_rest (filled size log ks)
filling-log size [] t log is = is
filling-log size (k ∷ ks) t log is = fills size (k ∷ ks) t ∙ ap (λ (s : LogState). at_rest (filled size s.bytes (k ∷ ks))) is

-- snapshots and blobs stay
pub filling-snapshots : (size : ℕ) (ks : List ℕ) (t : Trace) → (state_of (after_all (filling size ks) t)).snapshots ≡ (state_of t).snapshots
filling-snapshots size [] t = refl
filling-snapshots size (k ∷ ks) t = fills_snapshots size (k ∷ ks) t

pub filling-blobs : (size : ℕ) (ks : List ℕ) (t : Trace) → (state_of (after_all (filling size ks) t)).blobs ≡ (state_of t).blobs
filling-blobs size [] t = refl
filling-blobs size (k ∷ ks) t = fills_blobs size (k ∷ ks) t

-- Slots by their numbers.

-- a slot of a lower number ends before another begins
pub slot_before : (size k j : ℕ) → k < j → k * size + size ≤ j * size
slot_before size k j less =
    let next : suc k ≤ j = omega (arith, less) in
    let row : suc k * size ≤ j * size = mul-le-mul_right size next in
    omega (arith, row)

-- a slot of a file begins in it
pub begins_in : (size len k : ℕ) → 0 < size → k < slots_of size len → k * size < len
begins_in size len k some less = omega (arith, some, slot_before size k (slots_of size len) less, div-mul-le_self (len + (size - 1)) size)

-- the slots of a file cover it
pub slots_cover : (size len : ℕ) → 0 < size → len ≤ slots_of size len * size
slots_cover size len some =
    let past : len + (size - 1) < slots_of size len * size + size = lt-div-mul-add some in
    omega (arith, some, past)

-- what lies in a file is in one of its slots
pub slot_inside : (size len lid n : ℕ) → 0 < size → 0 < n → lid + n ≤ len → lid / size < slots_of size len
slot_inside size len lid n some grown in_file = elim (cases_lt (lid / size) (slots_of size len)) [
  | inl is ↦ is
  | inr past ↦ absurd (let far : slots_of size len * size ≤ lid / size * size = mul-le-mul_right size past in omega (arith, div-mul-le_self lid size, far, slots_cover size len some, in_file, grown))
]

-- what lies behind a write stays, and so does the end
overwritten-drop : (bytes : List ℕ) (at : ℕ) (xs : List ℕ) (lid : ℕ) → at + length xs ≤ lid → drop lid (overwritten bytes at xs) ≡ drop lid bytes
overwritten-drop bytes at [] lid behind = refl
overwritten-drop bytes at (x ∷ xs) lid behind =
    let front : List ℕ = take at (bytes ++ replicate (at - length bytes) 0) in
    let long : length (front ++ (x ∷ xs)) ≡ at + length (x ∷ xs) = simp (length-append, length-take, length-replicate) (omega arith) in
    drop-append-drop (at + length (x ∷ xs)) bytes (front ++ (x ∷ xs)) lid behind long

module _ (size : ℕ) (some : 0 < size) where
  -- One slot is filled.

  module _ (log : List ℕ) (k : ℕ) where
    abbrev zeros : List ℕ
    zeros = replicate size 0

    abbrev new : List ℕ
    new = overwritten log (k * size) zeros

    zeros_long : length zeros ≡ size
    zeros_long = length-replicate size 0

    end_is : end_of (k * size) (length zeros) ≡ k * size + size
    end_is = ap (end_of (k * size)) zeros_long ∙ end_of-some (k * size) size some

    one_long : length new ≡ max (length log) (k * size + size)
    one_long = omega (arith, length-overwritten log (k * size) zeros, end_is)

    one_byte : (j i : ℕ) → k ≢ j → k * size < length log → j * size ≤ i → i < j * size + size → get_or new i 0 ≡ get_or log i 0
    one_byte j i other within low high = elim (cases_lt k j) [
      | inl before ↦ overwritten-above log (k * size) zeros i (omega (arith, end_is, slot_before size k j before, low))
      | inr after ↦ (
          let less : j < k = omega (arith, after, other) in
          let apart = slot_before size j k less in
          overwritten-below log (k * size) zeros i (omega (arith, apart, high)) (omega (arith, apart, high, within)))
    ]

    one_part : (j lid n : ℕ) → k ≢ j → k * size < length log → j * size ≤ lid → lid + n ≤ j * size + size → part new lid n ≡ part log lid n
    one_part j lid n other within low high = elim (cases_lt k j) [
      | inl before ↦ ap (take n) (overwritten-drop log (k * size) zeros lid (omega (arith, zeros_long, slot_before size k j before, low)))
      | inr after ↦ (
          let less : j < k = omega (arith, after, other) in
          let apart = slot_before size j k less in
          let count : lid + n - lid ≡ n = omega arith in
          ap (λ c. take c (drop lid new)) (sym count)
          ∙ part_written log (k * size) zeros lid (lid + n) (omega (arith, apart, high, within)) (inl (omega (arith, apart, high)))
          ∙ ap (λ c. take c (drop lid log)) count)
    ]

    one_zero : (i : ℕ) → k * size ≤ i → i < k * size + size → get_or new i 0 ≡ 0
    one_zero i low high =
        let at : k * size + (i - k * size) ≡ i = omega (arith, low) in
        let short : i - k * size < size = omega (arith, low, high) in
        ap (λ n. get_or new n 0) (sym at)
        ∙ sym (get_or-drop (k * size) new (i - k * size) 0)
        ∙ sym (get_or-take (length zeros) (drop (k * size) new) (i - k * size) 0 (omega (arith, short, zeros_long)))
        ∙ ap (λ (l : List ℕ). get_or l (i - k * size) 0) (overwritten-part log (k * size) zeros)
        ∙ get_or-replicate size (i - k * size) 0 0 short

  -- Slots are filled that begin in the file.

  within_more : (old new : List ℕ) (ks : List ℕ) → length old ≤ length new → All (λ k. k * size < length old) ks → All (λ k. k * size < length new) ks
  within_more old new ks more all = λ k d lt. let here = all k d lt in omega (arith, here, more)

  -- the file doesn't get shorter
  pub filled_grows : (ks log : List ℕ) → length log ≤ length (filled size log ks)
  filled_grows [] log = omega arith
  filled_grows (k ∷ ks) log = omega (arith, one_long log k, filled_grows ks (new log k))

  -- and not longer than where the last one ends
  pub filled_ends : (end : ℕ) (ks log : List ℕ) → length log ≤ end → All (λ k. k * size + size ≤ end) ks → length (filled size log ks) ≤ end
  filled_ends end [] log short all = short
  filled_ends end (k ∷ ks) log short all =
      let here : k * size + size ≤ end = all 0 k (omega arith) in
      filled_ends end ks (new log k) (omega (arith, one_long log k, here, short)) (All-tail (λ x. x * size + size ≤ end) k ks all)

  later_within : (k : ℕ) (ks log : List ℕ) → All (λ x. x * size < length log) (k ∷ ks) → All (λ x. x * size < length (new log k)) ks
  later_within k ks log all = within_more log (new log k) ks (omega (arith, one_long log k)) (All-tail (λ x. x * size < length log) k ks all)

  -- a byte of another slot stays
  pub filled_byte : (ks log : List ℕ) (j i : ℕ) → All (λ k. k * size < length log) ks → All (λ k. k ≢ j) ks → j * size ≤ i → i < j * size + size → get_or (filled size log ks) i 0 ≡ get_or log i 0
  filled_byte [] log j i within other low high = refl
  filled_byte (k ∷ ks) log j i within other low high =
      filled_byte ks (new log k) j i (later_within k ks log within) (All-tail (λ x. x ≢ j) k ks other) low high
      ∙ one_byte log k j i (other 0 k (omega arith)) (within 0 k (omega arith)) low high

  -- and so does a part of it, as far as the file goes
  pub filled_part : (ks log : List ℕ) (j lid n : ℕ) → All (λ k. k * size < length log) ks → All (λ k. k ≢ j) ks → j * size ≤ lid → lid + n ≤ j * size + size → part (filled size log ks) lid n ≡ part log lid n
  filled_part [] log j lid n within other low high = refl
  filled_part (k ∷ ks) log j lid n within other low high =
      filled_part ks (new log k) j lid n (later_within k ks log within) (All-tail (λ x. x ≢ j) k ks other) low high
      ∙ one_part log k j lid n (other 0 k (omega arith)) (within 0 k (omega arith)) low high

  -- a zero of a slot stays one
  zero_stays : (ks log : List ℕ) (j i : ℕ) → All (λ k. k * size < length log) ks → j * size ≤ i → i < j * size + size → get_or log i 0 ≡ 0 → get_or (filled size log ks) i 0 ≡ 0
  zero_stays [] log j i within low high is = is
  zero_stays (k ∷ ks) log j i within low high is =
      zero_stays ks (new log k) j i (later_within k ks log within) low high (elim (eqb_tells k j) [
        | inl same ↦ one_zero log k i (subst (λ x. x * size ≤ i) (sym same.1) low) (subst (λ x. i < x * size + size) (sym same.1) high)
        | inr other ↦ one_byte log k j i other.1 (within 0 k (omega arith)) low high ∙ is
      ])

  -- each byte of a slot that is filled is a zero
  pub filled_zero : (ks log : List ℕ) (j i : ℕ) → All (λ k. k * size < length log) ks → Contains ks j → j * size ≤ i → i < j * size + size → get_or (filled size log ks) i 0 ≡ 0
  filled_zero [] log j i within has low high = absurd (let lt = has.1 in omega (arith, lt))
  filled_zero (k ∷ ks) log j i within has low high = elim (in_cases k j ks has) [
    | inl same ↦ zero_stays ks (new log k) j i (later_within k ks log within) low high (one_zero log k i (subst (λ x. x * size ≤ i) (sym same) low) (subst (λ x. i < x * size + size) (sym same) high))
    | inr rest ↦ filled_zero ks (new log k) j i (later_within k ks log within) rest low high
  ]

  -- Slots are filled that are slots of the file.

  module _ (log ks : List ℕ) (slots : All (λ k. k < slots_of size (length log)) ks) where
    -- the file is not longer than its slots
    pub filled_covered : length (filled size log ks) ≤ slots_of size (length log) * size
    filled_covered = filled_ends (slots_of size (length log) * size) ks log (slots_cover size (length log) some) (λ k d lt. slot_before size (get_or ks k d) (slots_of size (length log)) (slots k d lt))

-- Numbers at which a test is false.

module _ (test : ℕ → Bool) where
  -- each of those that are listed is one
  pub free_below : (n : ℕ) → All (λ k. (k < n) × (test k ≡ false)) (not_below test n)
  free_below zero = λ k d lt. absurd (omega (arith, lt))
  free_below (suc n) = by (λ k d lt. let r = free_below n k d lt in (omega (arith, r.0), r.1)) (test n) refl
    where
      by : All (λ k. (k < suc n) × (test k ≡ false)) (not_below test n) → (b : Bool) → test n ≡ b → All (λ k. (k < suc n) × (test k ≡ false)) (if b then not_below test n else not_below test n ++ n ∷ [])
      by more true is = more
      by more false is = All-push (λ k. (k < suc n) × (test k ≡ false)) (not_below test n) n more (omega arith, is)

  -- and each one is listed
  pub free_has : (n k : ℕ) → k < n → test k ≡ false → Contains (not_below test n) k
  free_has zero k less free = absurd (omega (arith, less))
  free_has (suc n) k less free = by (λ lower. free_has n k lower free) (test n) refl
    where
      by : (k < n → Contains (not_below test n) k) → (b : Bool) → test n ≡ b → Contains (if b then not_below test n else not_below test n ++ n ∷ []) k
      by rest true is = elim (cases_lt k n) [
        | inl lower ↦ rest lower
        | inr last ↦ (let same : n ≡ k = omega (arith, last, less) in let both : true ≡ false = sym is ∙ ap test same ∙ free in cc)
      ]
      by rest false is = elim (cases_lt k n) [
        | inl lower ↦ Contains-append_left (not_below test n) (n ∷ []) k (rest lower)
        | inr last ↦ (let same : n ≡ k = omega (arith, last, less) in subst (λ (x : ℕ). Contains (not_below test n ++ n ∷ []) x) same (Contains-push (not_below test n) n))
      ]

-- the first number of a list is in it, where there is one
pub first_there : (n : ℕ) (ks : List ℕ) → Contains ks (first_or n ks) ⊎ (first_or n ks ≡ n)
first_there n [] = inr refl
first_there n (k ∷ ks) = inl (0, omega arith, refl)
