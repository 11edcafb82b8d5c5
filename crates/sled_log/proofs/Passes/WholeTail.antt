-- A tail that was read of the segments from an index on is the tail of all of them.
use Rattle.std.proofs.Common.{◌≡◌, ◌≢◌, ◌%◌, ◌+◌, ◌<◌, ◌≤◌, ℕ, ℤ, zero, suc, List, [], ◌∷◌, take, drop, Option, None, refl, sym, subst, arith, inl, inr, length, length-drop, ◌-◌}
use Rattle.std.specs.List.{All, Contains}
use Rattle.std.proofs.lemmas.List.{take-append-drop, take_all}
use Rattle.std.proofs.lemmas.List.Elements.{All-contains, Contains-append_cases, Contains-append_left, Contains-append_right}
use Rattle.sled_codec.specs.declared.result.DiskPtr.{DiskPtr}
use Rattle.sled_core.specs.declared.iterator.Segment.{Segment}
use Rattle.sled_core.specs.declared.iterator.scan.ScanEnd.{ScanEnd}
use Rattle.sled_core.specs.declared.iterator.scan.ScanEnd.TheVariants.{Full, Capped, Broken}
use Rattle.sled_store.proofs.Segments.Elements.{in_cases, in_nothing, all_from_in}
use Rattle.sled_log.specs.Recovery.{Scanned, IsScanned, IsOrdering, IsTail, IsTailPart, IsDamagedTail, GoesOn, HaveGoodBlobs, tail_end}
use Rattle.sled_log.specs.Passes.{NamesBadTail}

-- those from an index on are among all
pub in_dropped : (n : ℕ) (ss : List Segment) (s : Segment) → Contains (drop n ss) s → Contains ss s
in_dropped n ss s there = subst (λ (l : List Segment). Contains l s) (take-append-drop n ss) (Contains-append_right (take n ss) (drop n ss) s there)

pub in_taken : (n : ℕ) (ss : List Segment) (s : Segment) → Contains (take n ss) s → Contains ss s
in_taken n ss s there = subst (λ (l : List Segment). Contains l s) (take-append-drop n ss) (Contains-append_left (take n ss) (drop n ss) s there)

not_none : (n : ℕ) → (n ≢ 0 → ⊥) → n ≡ 0
not_none zero h = refl
not_none (suc n) h = absurd (h (λ e. omega (arith, e)))

-- those from an index on begin where one can, and no lower
pub placed_from : (sum : List ℕ → ℕ) (size : ℕ) (log : List ℕ) (least begin n : ℕ) (ss : List Segment) → IsOrdering sum size log least ss → All (λ s. begin ≤ s.place) (drop n ss) → All (λ s. (s.place % size ≡ 0) × (begin ≤ s.place)) (drop n ss)
placed_from sum size log least begin n ss is above =
    all_from_in (λ (s : Segment). (s.place % size ≡ 0) × (begin ≤ s.place)) (drop n ss) (λ s there.
    (not_none (s.place % size) (λ odd. is.placed s (in_dropped n ss s there) (inl odd)), All-contains (λ (x : Segment). begin ≤ x.place) (drop n ss) s above there))

-- where no segment was read the tail has none
pub none_read : (xs : List Scanned) → tail_end xs ≡ None → xs ≡ []
none_read [] is = refl
none_read (x ∷ []) is = absurd (cc)
none_read (x ∷ y ∷ ys) is = absurd (has_end y ys is) where
  has_end : (z : Scanned) (zs : List Scanned) → tail_end (z ∷ zs) ≡ None → ⊥
  has_end z [] is = cc
  has_end z (w ∷ ws) is = has_end w ws is

pub none_bad : (sum : List ℕ → ℕ) (blobs : ℤ → Option (List ℕ)) (xs : List Scanned) → tail_end xs ≡ None → HaveGoodBlobs sum blobs xs
none_bad sum blobs xs is = subst (HaveGoodBlobs sum blobs) (sym (none_read xs is)) (λ s there bad. in_nothing s there)

module _ (sum : List ℕ → ℕ) (size : ℕ) (log : List ℕ) where
  goes_as : (why : ScanEnd) (rest : List Scanned) (A B : Type 0) → (A → B) → GoesOn why rest A → GoesOn why rest B
  goes_as Broken rest A B then on = on
  goes_as Full rest A B then on = then on
  goes_as Capped rest A B then on = then on

  module _ (n begin : ℕ) (ss : List Segment) (below : All (λ s. s.place < begin) (take n ss)) where
    none_below : (place : ℕ) → begin ≤ place → ((s : Segment) → Contains (drop n ss) s → s.place ≡ place → ⊥) → (s : Segment) → Contains ss s → s.place ≡ place → ⊥
    none_below place le none s there at = elim (Contains-append_cases (take n ss) (drop n ss) s (subst (λ (l : List Segment). Contains l s) (sym (take-append-drop n ss)) there)) [
      | inl low ↦ let lies = All-contains (λ (x : Segment). x.place < begin) (take n ss) s below low in omega (arith, lies, le, at)
      | inr high ↦ none s high at
    ]

    pub tail_of_all : (place : ℕ) (xs : List Scanned) → begin ≤ place → IsTail sum size log (drop n ss) place xs → IsTail sum size log ss place xs
    tail_of_all place [] le tail = none_below place le tail
    tail_of_all place (x ∷ xs) le tail = (
      in_dropped n ss x.segment tail.0,
      tail.1,
      tail.2,
      goes_as x.why xs (IsTail sum size log (drop n ss) (place + size) xs) (IsTail sum size log ss (place + size) xs) (tail_of_all (place + size) xs (omega (arith, le))) tail.3,
    )

  part_of_all : (n : ℕ) (ss : List Segment) (place : ℕ) (xs : List Scanned) (next : ℕ) → IsTailPart sum size log (drop n ss) place xs next → IsTailPart sum size log ss place xs next
  part_of_all n ss place [] next part = part
  part_of_all n ss place (x ∷ xs) next part = (in_dropped n ss x.segment part.0, part.1, part.2, part.3, part_of_all n ss (place + size) xs next part.4)

  pub damaged_of_all : (blobs : ℤ → Option (List ℕ)) (n : ℕ) (ss : List Segment) (place : ℕ) (name : Option DiskPtr) → IsDamagedTail sum size log blobs (drop n ss) place name → IsDamagedTail sum size log blobs ss place name
  damaged_of_all blobs n ss place name bad = record {
    before = bad.before;
    next = bad.next;
    part = part_of_all n ss place bad.before bad.next bad.part;
    segment = bad.segment;
    there = in_dropped n ss bad.segment bad.there;
    at = bad.at;
    damaged = bad.damaged;
  }

  -- A segment of the tail with a blob that doesn't pass for its record.
  module _ (blobs : ℤ → Option (List ℕ)) (ss : List Segment) where
    -- the tail leads to each of its segments
    LeadsTo : ℕ → Scanned → Type 0
    LeadsTo place s = (before : List Scanned) × (next : ℕ) × IsTailPart sum size log ss place before next × Contains ss s.segment × (s.segment.place ≡ next) × IsScanned sum size log s

    leads_on : (why : ScanEnd) (xs : List Scanned) (on : Type 0) (s : Scanned) → Contains xs s → GoesOn why xs on → (why ≢ Broken) × on
    leads_on Broken xs on s there goes = absurd (in_nothing s (subst (λ (l : List Scanned). Contains l s) goes there))
    leads_on Full xs on s there goes = (λ is. cc, goes)
    leads_on Capped xs on s there goes = (λ is. cc, goes)

    leads_to : (place : ℕ) (xs : List Scanned) → IsTail sum size log ss place xs → (s : Scanned) → Contains xs s → LeadsTo place s
    unfolding LeadsTo
    leads_to place [] tail s there = absurd (in_nothing s there)
    leads_to place (x ∷ xs) tail s there = elim (in_cases x s xs there) [
      | inl same ↦ subst (LeadsTo place) same ([], place, refl, tail.0, tail.1, tail.2)
      | inr later ↦
          let goes = leads_on x.why xs (IsTail sum size log ss (place + size) xs) s later tail.3 in
          let rest = leads_to (place + size) xs goes.1 s later in
          (x ∷ rest.0, rest.1, (tail.0, tail.1, tail.2, goes.0, rest.2), rest.3, rest.4, rest.5)
    ]

    pub damaged_blob : (place : ℕ) (xs : List Scanned) (name : Option DiskPtr) → IsTail sum size log ss place xs → NamesBadTail sum blobs xs name → IsDamagedTail sum size log blobs ss place name
    unfolding LeadsTo
    damaged_blob place xs name tail bad =
        let led = leads_to place xs tail bad.0 bad.1 in
        record {
          before = led.0;
          next = led.1;
          part = led.2;
          segment = bad.0.segment;
          there = led.3;
          at = led.4;
          damaged = inr (bad.0, refl, led.5, bad.2);
        }

-- a slice from an index to the end
pub sliced : (ss : List Segment) (n : ℕ) → take (length ss - n) (drop n ss) ≡ drop n ss
sliced ss n = let long = length-drop n ss in take_all (length ss - n) (drop n ss) (omega (arith, long))
