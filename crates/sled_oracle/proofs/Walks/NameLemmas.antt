-- A file that stands under a name by a list is in it, and one that was written under its name, as it was noted, was.
use Rattle.std.proofs.Common.{◌≡◌, ◌<◌, ◌∙◌, ℕ, suc, ℤ, Bool, true, false, if◌then◌else◌, List, [], ◌∷◌, length, drop, get_or, Some, refl, sym, ap, arith, inl, inr, drop-cons}
use Rattle.std.specs.List.{Contains}
use Rattle.std.specs.Ordering.{int_eq}
use Rattle.std.proofs.lemmas.Bool.Decides.{Decides-int_eq}
use Rattle.sled_oracle.specs.declared.foreign.names.NamesPast.{NamesPast}
use Rattle.sled_store.specs.Device.{NamesState, file_named}
use Rattle.sled_store.specs.Foreign.{NoForeignNames}
use Rattle.sled_oracle.specs.OwnNames.{IsOwnFile, AreNoted}

-- the first file of the rest stands under its name
pub found_here : (files : List (ℤ × List ℕ)) (i : ℕ) (f : ℤ × List ℕ) (name : ℤ) → i < length files → f ≡ get_or files i f → int_eq f.0 name ≡ true → file_named (drop i files) name ≡ Some f.1
found_here files i f name there is named =
    ap (λ (l : List (ℤ × List ℕ)). file_named l name) (drop-cons files i f there ∙ ap (λ (x : ℤ × List ℕ). x ∷ drop (suc i) files) (sym is))
    ∙ ap (λ (b : Bool). if b then Some f.1 else file_named (drop (suc i) files) name) named

-- one file stands under a name
pub one_file : (x y : List ℕ) → Some x ≡ Some y → x ≡ y
one_file x y is = cc

-- what stands under a name is in the list
pub named_in : (files : List (ℤ × List ℕ)) (n : ℤ) (bytes : List ℕ) → file_named files n ≡ Some bytes → Contains files (n, bytes)
named_in [] n bytes there = cc
named_in (f ∷ files) n bytes there = by (int_eq f.0 n) refl (named_in files n bytes) there
  where
    by : (b : Bool) → int_eq f.0 n ≡ b → (file_named files n ≡ Some bytes → Contains files (n, bytes)) → (if b then Some f.1 else file_named files n) ≡ Some bytes → Contains (f ∷ files) (n, bytes)
    by true named behind is =
        let name : f.0 ≡ n = (Decides-int_eq f.0 n).0 named in
        let text : f.1 ≡ bytes = one_file f.1 bytes is in
        (0, omega arith, ap (λ (z : ℤ). (z, f.1)) name ∙ ap (λ (l : List ℕ). (n, l)) text)
    by false other behind is =
        let found = behind is in
        let k : ℕ = found.0 in
        let below : k < length files = found.1 in
        (suc k, omega (arith, below), found.2)

-- Each file of those that were left was written under its name, just where none of them is foreign.
module _ (passes : List ℕ → Type 0) (noted : NamesPast) (past : NamesState) (is : AreNoted noted past) (left : List (ℤ × List ℕ)) where
  pub own_names : ((f : ℤ × List ℕ) → Contains left f → IsOwnFile passes noted left f) → NoForeignNames passes past (file_named left)
  own_names own = record {
    own = λ n bytes there pass. elim (own (n, bytes) (named_in left n bytes there) there pass) [
      | inl settled ↦ inl (is.settled n ∙ settled)
      | inr asked ↦ inr ((is.asked n bytes).1 asked)
    ];
  }

  pub names_own : NoForeignNames passes past (file_named left) → (f : ℤ × List ℕ) → IsOwnFile passes noted left f
  names_own own f = λ there pass. elim (own.own f.0 f.1 there pass) [
    | inl settled ↦ inl (sym (is.settled f.0) ∙ settled)
    | inr asked ↦ inr ((is.asked f.0 f.1).0 asked)
  ]
