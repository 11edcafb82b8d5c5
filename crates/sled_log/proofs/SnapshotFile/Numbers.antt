-- Of numbers that ascend the last one is the greatest, so it is the greatest number of a file.
use Rattle.std.proofs.Common.{◌≡◌, ◌≤ℤ◌, ◌<ℤ◌, ◌<◌, ◌-◌, ◌∙◌, ℕ, ℤ, List, length, get_or, refl, sym, ap, subst, arith, Option, Some, None, IsSome, MatchOption, ◌↔◌}
use Rattle.std.specs.Ordering.{int_cmp}
use Rattle.std.specs.Int.Signed.{<ℤ_irrefl}
use Rattle.std.specs.Cmp.{int_ranked, int_chain}
use Rattle.std.specs.List.{Contains, slice_get}
use Rattle.std.specs.List.Sorted.{IsStrictlySortedBy}
use Rattle.std.proofs.lemmas.Int.{by_lt_z}
use Rattle.std.proofs.lemmas.List.{get_or_default}
use Rattle.std.proofs.lemmas.Option.{get_or_from_slice_get, slice_get_within, slice_get-get_or}
use Rattle.std.proofs.lemmas.Map.Keys.{Less-from_sorted}
use Rattle.std.specs.declared.cmp.Ordering.TheVariants.{Less}

pub last_is_greatest : (ns : List ℤ) (n m : ℤ) → IsStrictlySortedBy int_cmp ns → n ≡ get_or ns (length ns - 1) n → Contains ns m → m ≤ℤ n
last_is_greatest ns n m ascending last (k, below, at) =
    let i : ℕ = length ns - 1 in
    let is_last : get_or ns i m ≡ n = get_or_default ns i m n (omega arith) ∙ sym last in
    let above : n <ℤ m → m ≤ℤ n = λ greater.
    let earlier : k < i → ⊥ = λ less.
    let before : get_or ns k m <ℤ get_or ns i m = int_ranked (get_or ns k m) (get_or ns i m) Less (sym (Less-from_sorted int_cmp ns k i m ascending less (omega arith))) in
    <ℤ_irrefl (int_chain n m n greater (subst (λ z. m <ℤ z) is_last (subst (λ z. z <ℤ get_or ns i m) at before)))
    in
    let same : k ≡ i = omega (arith, earlier) in
    let one : m ≡ n = sym at ∙ ap (λ (j : ℕ). get_or ns j m) same ∙ is_last in
    absurd (<ℤ_irrefl (subst (λ z. n <ℤ z) one greater))
    in
    by_lt_z n m above (λ le. le)

is_none : (o : Option (List ℕ)) → (IsSome o → ⊥) → o ≡ None
is_none None h = refl
is_none (Some bytes) h = absurd (h refl)

is_absent : (ns : List ℤ) (n : ℤ) → None ≡ slice_get ns (length ns - 1) → Contains ns n → ⊥
is_absent ns n is (k, below, at) =
    let last : slice_get ns (length ns - 1) ≡ Some (get_or ns (length ns - 1) n) = slice_get-get_or ns (length ns - 1) n (omega arith) in
    cc

-- the last number, where there is one
pub newest_of : (file : ℤ → Option (List ℕ)) (ns : List ℤ) (o : Option ℤ) → o ≡ slice_get ns (length ns - 1) → ((n : ℤ) → IsSome (file n) ↔ Contains ns n) → IsStrictlySortedBy int_cmp ns
    → MatchOption o ((n : ℤ) → file n ≡ None) (λ n. IsSome (file n) × ((m : ℤ) → IsSome (file m) → m ≤ℤ n))
newest_of file ns None is each ascending = λ n. is_none (file n) (λ there. is_absent ns n is ((each n).0 there))
newest_of file ns (Some n) is each ascending =
    let i : ℕ = length ns - 1 in
    let at : get_or ns i n ≡ n = get_or_from_slice_get ns i n n (sym is) in (
      (each n).1 (i, slice_get_within ns i n (sym is), at),
      λ m there. last_is_greatest ns n m ascending (sym at) ((each m).0 there),
    )
