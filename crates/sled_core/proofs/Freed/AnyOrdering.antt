-- Each log file has an ordering of the segments that are found in it, unless some are found that can't be of one log.
use Rattle.std.proofs.Common.{◌≡◌, ◌≢◌, ◌⊎◌, ◌∙◌, ◌+◌, ◌-◌, ◌*◌, ◌/◌, ◌%◌, ◌^◌, ◌≤◌, ◌<◌, ℕ, zero, suc, ℤ, pos, negsuc, List, [], ◌++◌, length, take, drop, refl, sym, ap, subst, arith, inl, inr, lit<, FitsSigned, bit_xor}
use Rattle.std.specs.Int.{w64, cast_signed, cast_unsigned}
use Rattle.std.specs.List.{Contains}
use Rattle.std.proofs.lemmas.Bool.{cases_eq, cases_lt, cases_order}
use Rattle.std.proofs.lemmas.Int.{ints}
use Rattle.std.proofs.lemmas.Nat.{xor_lt}
use Rattle.std.proofs.Math.Nat.{mod-eq_of_lt, mul-mod_left, suc-mul}
use Rattle.sled_codec.specs.Places.{part}
use Rattle.sled_codec.specs.Record.{IsHeader, header_places, masked, short_header}
use Rattle.sled_codec.specs.Spelling.{low_bytes, low_first}
use Rattle.sled_codec.specs.SpellingLaws.{low_first-low_bytes, unsigned_small}
use Rattle.sled_codec.specs.Sums.{flipped}
use Rattle.sled_codec.proofs.Segments.{masked-unmasked, one_header}
use Rattle.sled_store.proofs.Segments.Elements.{in_nothing}
use Rattle.sled_core.specs.declared.iterator.Segment.{Segment}
use Rattle.sled_core.specs.inside.Scan.{IsFoundSegment}
use Rattle.sled_core.specs.Tail.{IsOrdering, IsUnordered}
use Rattle.sled_core.proofs.Read.FoundLemmas.{found_there, pos_injective}
use Rattle.sled_core.proofs.Reached.PutIn.{others_there, put_cases, put_in, put_rises, put_there}
use Rattle.sled_core.proofs.Tail.Multiples.{apart, put_down}
use Rattle.sled_core.proofs.Tail.OneTail.{Rises}
use Rattle.sled_core.proofs.Tail.SegmentsFrom.{ascends_of}
use Rattle.sled_core.proofs.Torn.TornRecords.{same_or_not}

-- Whether bytes pass as a header.

-- the place that eight bytes of a header stand for
place_read : List ℕ → ℤ
place_read bytes = cast_signed w64 (bit_xor (low_first bytes) (2 ^ 63 - 1) % 2 ^ 64)

read_fits : (bytes : List ℕ) → FitsSigned w64 (place_read bytes)
unfolding place_read
read_fits bytes = omega (arith, ints)

-- it stands there
read_masked : (z : ℤ) → FitsSigned w64 z → masked (place_read (low_bytes 8 (masked z))) ≡ masked z
unfolding place_read
read_masked z fits =
    let small : masked z < 2 ^ 64 = xor_lt 64 (cast_unsigned w64 z) (2 ^ 63 - 1) (unsigned_small z fits) (lit< tt) in
    let read : low_first (low_bytes 8 (masked z)) ≡ masked z = low_first-low_bytes 8 (masked z) (omega arith) small in
    let within : bit_xor (masked z) (2 ^ 63 - 1) < 2 ^ 64 = xor_lt 64 (masked z) (2 ^ 63 - 1) small (lit< tt) in
    ap (λ n. masked (cast_signed w64 (bit_xor n (2 ^ 63 - 1) % 2 ^ 64))) read
    ∙ ap (λ n. masked (cast_signed w64 n)) (mod-eq_of_lt within)
    ∙ masked-unmasked (masked z) small

module _ (sum : List ℕ → ℕ) (bytes : List ℕ) where
  lsn : ℤ
  lsn = place_read (take 8 (drop 4 bytes))

  mark : ℤ
  mark = place_read (take 8 (drop 12 bytes))

  -- bytes that pass are those of the header of what they stand for
  is_read : (lsn' mark' : ℤ) → IsHeader sum bytes lsn' mark' → bytes ≡ short_header sum lsn mark
  unfolding short_header header_places lsn mark
  is_read lsn' mark' h =
      let first : masked lsn ≡ masked lsn' = ap (λ (l : List ℕ). masked (place_read (take 8 (drop 4 l)))) h.is ∙ read_masked lsn' h.place_fits in
      let second : masked mark ≡ masked mark' = ap (λ (l : List ℕ). masked (place_read (take 8 (drop 12 l)))) h.is ∙ read_masked mark' h.mark_fits in
      h.is ∙ sym (λ i. low_bytes 4 (flipped (sum (low_bytes 8 (first i) ++ low_bytes 8 (second i)))) ++ low_bytes 8 (first i) ++ low_bytes 8 (second i))

  pub header_or_none : ((place : ℤ) × (at : ℤ) × IsHeader sum bytes place at) ⊎ ((place at : ℤ) → IsHeader sum bytes place at → ⊥)
  unfolding lsn mark
  header_or_none = elim (same_or_not bytes (short_header sum lsn mark)) [
    | inl same ↦ inl (lsn, mark, record { is = same; place_fits = read_fits (take 8 (drop 4 bytes)); mark_fits = read_fits (take 8 (drop 12 bytes)) })
    | inr differs ↦ inr (λ place at h. differs (is_read place at h))
  ]

-- The segments that are found, in the order of their places, slot by slot.
module _ (sum : List ℕ → ℕ) (size : ℕ) (some : 256 ≤ size) (log : List ℕ) (least : ℕ) where
  abbrev Found : Segment → Type 0
  Found s = IsFoundSegment sum size log least s

  -- One is found in a slot, or none is.
  abbrev IsIn : ℕ → Type 0
  IsIn slot = (s : Segment) × (s.slot ≡ slot) × Found s

  found_or_none : (slot : ℕ) → slot % size ≡ 0 → IsIn slot ⊎ ((s : Segment) → s.slot ≡ slot → Found s → ⊥)
  found_or_none slot aligned = elim (header_or_none sum (part log slot 20)) [
    | inl h ↦ by h.0 h.1 h.2
    | inr none ↦ inr (λ s at found. none (pos s.place) s.mark (its s at found))
  ] where
    its : (s : Segment) → s.slot ≡ slot → Found s → IsHeader sum (part log slot 20) (pos s.place) s.mark
    its s at found = subst (λ n. IsHeader sum (part log n 20) (pos s.place) s.mark) at found.header

    by : (place at : ℤ) → IsHeader sum (part log slot 20) place at → IsIn slot ⊎ ((s : Segment) → s.slot ≡ slot → Found s → ⊥)
    by (pos p) at header = elim (cases_lt p least) [
      | inl under ↦ inr (λ s here found.
          let same = pos_injective p s.place (one_header sum (part log slot 20) (pos p) at (pos s.place) s.mark header (its s here found)).0 in
          let above = found.not_below in
          omega (arith, same, above, under))
      | inr above ↦ inl (record { place = p; slot = slot; mark = at }, refl, record { slot = aligned; header = header; not_below = above })
    ]
    by (negsuc p) at header = inr (λ s here found.
        let same : negsuc p ≡ pos s.place = (one_header sum (part log slot 20) (negsuc p) at (pos s.place) s.mark header (its s here found)).0 in cc)

  -- there is one in a slot
  one_found : (s t : Segment) → Found s → Found t → s.slot ≡ t.slot → s ≡ t
  one_found s t a b slots =
      let here = subst (λ n. IsHeader sum (part log n 20) (pos s.place) s.mark) slots a.header in
      let same = one_header sum (part log t.slot 20) (pos s.place) s.mark (pos t.place) t.mark here b.header in
      let places : s.place ≡ t.place = pos_injective s.place t.place same.0 in
      λ i. record { place = places i; slot = slots i; mark = same.1 i }

  module _ (no : IsUnordered sum size log least → ⊥) where
    one_slot : (s t : Segment) → Found s → Found t → s.place ≡ t.place → s.slot ≡ t.slot
    one_slot s t a b places = elim (cases_eq s.slot t.slot) [
      | inl same ↦ same
      | inr differ ↦ absurd (no (inr (s, t, a, b, differ, places)))
    ]

    -- Those in the first slots of the file.
    record FirstSlots (n : ℕ) : Type 0 where
      segments : List Segment
      rises : Rises segments
      found : (s : Segment) → Contains segments s → Found s × (s.slot < n * size)
      all : (s : Segment) → Found s → s.slot < n * size → Contains segments s

    first_slots : (n : ℕ) → FirstSlots n
    first_slots zero = record {
      segments = [];
      rises = tt;
      found = λ s there. absurd (in_nothing s there);
      all = λ s found below. absurd (omega (arith, below));
    }
    first_slots (suc n) = with_next (first_slots n) (found_or_none (n * size) (mul-mod_left n size)) where
      wider : suc n * size ≡ n * size + size
      wider = suc-mul n size

      -- a slot that begins below the next one's end is that one or lies below it
      below_next : (s : Segment) → Found s → s.slot < suc n * size → s.slot ≢ n * size → s.slot < n * size
      below_next s found below other = elim (cases_order s.slot (n * size)) [
        | inl same ↦ absurd (other same)
        | inr (inl lower) ↦ lower
        | inr (inr higher) ↦ (
            let far = apart size (omega (arith, some)) (n * size) s.slot (mul-mod_left n size) found.slot higher in
            absurd (omega (arith, far, below, wider)))
      ]

      with_next : FirstSlots n → IsIn (n * size) ⊎ ((s : Segment) → s.slot ≡ n * size → Found s → ⊥) → FirstSlots (suc n)
      with_next f (inr none) = record {
        segments = f.segments;
        rises = f.rises;
        found = λ s there. (let its = f.found s there in (its.0, omega (arith, its.1, wider)));
        all = λ s found below. f.all s found (below_next s found below (λ at. none s at found));
      }
      with_next f (inl (x, at, is)) = record {
        segments = put_in x f.segments;
        rises = put_rises x f.segments f.rises (λ u there places.
            let its = f.found u there in
            let slots = one_slot u x its.0 is places in
            omega (arith, its.1, slots, at));
        found = λ s there. elim (put_cases x f.segments s there) [
          | inl same ↦ subst (λ (y : Segment). Found y × (y.slot < suc n * size)) same (is, omega (arith, at, wider, some))
          | inr had ↦ (let its = f.found s had in (its.0, omega (arith, its.1, wider)))
        ];
        all = λ s found below. elim (cases_eq s.slot (n * size)) [
          | inl here ↦ subst (Contains (put_in x f.segments)) (one_found x s is found (at ∙ sym here)) (put_there x f.segments)
          | inr other ↦ others_there x f.segments s (f.all s found (below_next s found below other))
        ];
      }

    pub any_ordering : (ordering : List Segment) × IsOrdering sum size log least ordering
    any_ordering = (
      f.segments,
      record {
        ascending = ascends_of f.segments f.rises;
        found = λ s. ((λ there. (f.found s there).0), λ found. f.all s found (inside s found));
        placed = λ s there misplaced. no (inl (s, (f.found s there).0, misplaced));
      },
    ) where
      f : FirstSlots (suc (length log / size))
      f = first_slots (suc (length log / size))

      inside : (s : Segment) → Found s → s.slot < suc (length log / size) * size
      inside s found =
          let there = found_there sum size log least s found in
          let parts = put_down size (length log) in
          let within : length log % size < size = omega (arith, some) in
          let more = suc-mul (length log / size) size in
          omega (arith, there, parts.0, within, more)
