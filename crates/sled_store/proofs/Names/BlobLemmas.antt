-- A blob that was made, synced and named is kept by every crash; and blobs of a list of places are removed one behind another, from one place on.
use Rattle.std.proofs.Common.{◌≡◌, ◌∙◌, ◌⊎◌, ◌&&◌, T, not, FitsSigned, int_lt, ◌↔◌, ◌+◌, ◌<◌, ◌≤ℤ◌, ℕ, ℤ, zero, suc, Bool, true, false, int_le, if◌then◌else◌, List, [], ◌∷◌, ◌++◌, length, get_or, take, drop, filter, Option, IsSome, Contains, refl, sym, ap, subst, inl, inr, arith, take-append-drop}
use lib.Signed.{clash_ℤ, lt_z_yes, lt_z_no}
use Rattle.std.specs.Int.{w64, cast_signed, cast_unsigned}
use Rattle.std.proofs.lemmas.Int.{to_z-of_z}
use Rattle.std.proofs.lemmas.Float.{T_from_true}
use Rattle.std.specs.Ordering.{int_cmp}
use Rattle.std.specs.List.Sorted.{IsStrictlySortedBy}
use Rattle.std.proofs.lemmas.List.Elements.{filter-append, filter_more, filter_passes}
use Rattle.std.proofs.lemmas.List.Kept.{IsStrictlySortedBy-filter}
use Rattle.sled_store.specs.Blobs.{removing_blobs, AreFrom}
use Rattle.sled_store.specs.inside.Blobs.{from_place}
use Rattle.sled_store.specs.Device.{Event, Trace, BlobRemoved}
use Rattle.sled_store.specs.Script.{Performs, after_all}
use Rattle.sled_store.proofs.Traces.ScriptLemmas.{after_joined, performs_behind, performs_more}

-- the file under a name that was just made
own_file : (b : Bool) (new old : Option (List ℕ)) → b ≡ true → (if true && b then new else old) ≡ new
own_file b new old is = ap (λ (x : Bool). if x then new else old) is

-- Elements of a filtered list.

pub contains_head : (x y : ℤ) (xs : List ℤ) → x ≡ y → Contains (x ∷ xs) y
contains_head x y xs is = (0, omega arith, is)

pub contains_more : (x y : ℤ) (xs : List ℤ) → Contains xs y → Contains (x ∷ xs) y
contains_more x y xs (k, below, at) = (suc k, omega (arith, below), at)

pub contains_one_of : (x y : ℤ) (xs : List ℤ) → Contains (x ∷ xs) y → (x ≡ y) ⊎ Contains xs y
contains_one_of x y xs (zero, below, at) = inl at
contains_one_of x y xs (suc k, below, at) = inr (k, omega (arith, below), at)

module _ (p : ℤ → Bool) where
  in_filter : (n : ℤ) (ns : List ℤ) → p n ≡ true → Contains ns n → Contains (filter p ns) n
  in_filter n [] passes there = there
  in_filter n (m ∷ ms) passes there = by_test (p m) refl (contains_one_of m n ms there) (in_filter n ms passes)
    where
      by_test : (b : Bool) → p m ≡ b → (m ≡ n) ⊎ Contains ms n → (Contains ms n → Contains (filter p ms) n) → Contains (if b then m ∷ filter p ms else filter p ms) n
      by_test true is (inl same) further = contains_head m n (filter p ms) same
      by_test true is (inr rest) further = contains_more m n (filter p ms) (further rest)
      by_test false is (inl same) further = let at : p m ≡ p n = ap p same in absurd (cc)
      by_test false is (inr rest) further = further rest

  from_filter : (n : ℤ) (ns : List ℤ) → Contains (filter p ns) n → Contains ns n
  from_filter n [] there = there
  from_filter n (m ∷ ms) there = by_test (p m) there (from_filter n ms)
    where
      by_test : (b : Bool) → Contains (if b then m ∷ filter p ms else filter p ms) n → (Contains (filter p ms) n → Contains ms n) → Contains (m ∷ ms) n
      by_test false there further = contains_more m n ms (further there)
      by_test true there further = elim (contains_one_of m n (filter p ms) there) [
        | inl same ↦ contains_head m n ms same
        | inr rest ↦ contains_more m n ms (further rest)
      ]

  passes_in_filter : (n : ℤ) (ns : List ℤ) → Contains (filter p ns) n → p n ≡ true
  passes_in_filter n ns (k, below, at) = subst (λ (m : ℤ). p m ≡ true) at (filter_passes p ns k n below)

-- What a test of two places says of the other one.
is_true : (b : Bool) → T b → b ≡ true
is_true true t = refl
is_true false t = absurd t

passed : (a b : ℤ) → a ≤ℤ b → int_le a b ≡ true
passed a b le = is_true (int_le a b) le.le

not_less : (a b : ℤ) → int_lt b a ≡ false → int_le a b ≡ true
not_less a b is = passed a b (lt_z_no {a = b} {b = a} (subst (λ (v : Bool). T (not v)) (sym is) tt))

less : (a b : ℤ) → int_lt b a ≡ true → int_le a b ≡ false
less a b test = by (int_le a b) refl
  where
    by : (v : Bool) → int_le a b ≡ v → v ≡ false
    by true is = clash_ℤ {X = true ≡ false} (lt_z_yes {a = b} {b = a} (T_from_true (int_lt b a) test)) (record { le = T_from_true (int_le a b) is })
    by false is = refl

-- of one place
pub one_from : (least p : ℤ) → int_lt p least ≡ false → from_place least (p ∷ []) ≡ p ∷ []
one_from least p is = ap (λ (b : Bool). if b then p ∷ [] else []) (not_less least p is)

pub none_from : (least p : ℤ) → int_lt p least ≡ true → from_place least (p ∷ []) ≡ []
none_from least p is = ap (λ (b : Bool). if b then p ∷ [] else []) (less least p is)

-- a test of two numbers as code holds them is the test of the numbers
pub same_test : (p least : ℤ) (v : Bool) → FitsSigned w64 p → FitsSigned w64 least
    → int_lt (cast_signed w64 (cast_unsigned w64 p)) (cast_signed w64 (cast_unsigned w64 least)) ≡ v → int_lt p least ≡ v
same_test p least v fits_p fits_least is =
    subst (λ (n : ℤ). int_lt n least ≡ v) (to_z-of_z w64 p fits_p)
    (subst (λ (n : ℤ). int_lt (cast_signed w64 (cast_unsigned w64 p)) n ≡ v) (to_z-of_z w64 least fits_least) is)

-- those of all blobs that there are
pub are_from : (file : ℤ → Option (List ℕ)) (least : ℤ) (places : List ℤ) → ((n : ℤ) → IsSome (file n) ↔ Contains places n) → IsStrictlySortedBy int_cmp places → AreFrom file least (from_place least places)
are_from file least places listed ascending = record {
  each = λ n. (
    (λ there. ((listed n).1 (from_filter (λ p. int_le least p) n places there), record { le = T_from_true (int_le least n) (passes_in_filter (λ p. int_le least p) n places there) })),
    (λ is. in_filter (λ p. int_le least p) n places (passed least n is.1) ((listed n).0 is.0)),
  );
  ascending = IsStrictlySortedBy-filter int_cmp (λ p. int_le least p) places ascending;
}

removing_both : (ms ns : List ℤ) → removing_blobs (ms ++ ns) ≡ removing_blobs ms ++ removing_blobs ns
removing_both [] ns = refl
removing_both (m ∷ ms) ns = ap (λ (es : List Event). BlobRemoved m true ∷ es) (removing_both ms ns)

module _ (least : ℤ) (ns : List ℤ) (i : ℕ) (d : ℤ) (below : i < length ns) where
  -- those up to a place are those before it, and it
  more : removing_blobs (from_place least (take (i + 1) ns)) ≡ removing_blobs (from_place least (take i ns)) ++ removing_blobs (from_place least (get_or ns i d ∷ []))
  more = ap removing_blobs (filter_more (λ p. int_le least p) ns i d below) ∙ removing_both (from_place least (take i ns)) (from_place least (get_or ns i d ∷ []))

  -- and all are those and the rest
  all : removing_blobs (from_place least ns) ≡ removing_blobs (from_place least (take (i + 1) ns)) ++ removing_blobs (from_place least (drop (i + 1) ns))
  all =
      ap (λ (l : List ℤ). removing_blobs (from_place least l)) (sym (take-append-drop (i + 1) ns))
      ∙ ap removing_blobs (filter-append (λ p. int_le least p) (take (i + 1) ns) (drop (i + 1) ns))
      ∙ removing_both (from_place least (take (i + 1) ns)) (from_place least (drop (i + 1) ns))

  module _ (old mid new : Trace) (came : mid ≡ after_all (removing_blobs (from_place least (take i ns))) old) where
    pub removed_more : new ≡ after_all (removing_blobs (from_place least (get_or ns i d ∷ []))) mid → new ≡ after_all (removing_blobs (from_place least (take (i + 1) ns))) old
    removed_more one =
        one
        ∙ ap (after_all (removing_blobs (from_place least (get_or ns i d ∷ [])))) came
        ∙ sym (after_joined (removing_blobs (from_place least (take i ns))) (removing_blobs (from_place least (get_or ns i d ∷ []))) old)
        ∙ ap (λ (es : List Event). after_all es old) (sym more)

    -- where the removal of one failed, the list was begun
    pub removals_begun : Performs (removing_blobs (from_place least (get_or ns i d ∷ []))) mid new → Performs (removing_blobs (from_place least ns)) old new
    removals_begun one =
        let upto : Performs (removing_blobs (from_place least (take (i + 1) ns))) old new =
        subst (λ (es : List Event). Performs es old new) (sym more) (performs_behind (removing_blobs (from_place least (take i ns))) (removing_blobs (from_place least (get_or ns i d ∷ []))) old mid new came one) in
        subst (λ (es : List Event). Performs es old new) (sym all) (performs_more (removing_blobs (from_place least (take (i + 1) ns))) (removing_blobs (from_place least (drop (i + 1) ns))) old new upto)
