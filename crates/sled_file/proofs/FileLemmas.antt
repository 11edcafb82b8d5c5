-- Files under names in a map: what is found under a name after one was put or removed, and that it is what is found in the list of all.
use Rattle.std.proofs.Common.{◌≡◌, ◌∙◌, ◌↔◌, Contains, IsSome, is_some, Result, Ok, Err, IfOk, ◌⊎◌, inr, subst, ap, sym, refl, ℕ, ℤ, Bool, true, false, cond, if◌then◌else◌, List, [], ◌∷◌, map, Option, Some, None, Vec}
use Rattle.std.specs.Ordering.{int_eq, int_cmp}
use Rattle.std.specs.Bool.{MatchBool}
use Rattle.std.specs.IoError.{error_kind}
use Rattle.std.specs.declared.io.Error.{Error}
use Rattle.std.specs.declared.io.ErrorKind.{ErrorKind}
use Rattle.std.specs.declared.io.ErrorKind.TheVariants.{OutOfMemory}
use Rattle.std.specs.Map.{lookup}
use Rattle.std.specs.BTreeMap.{BTreeMap, get, is_at, keys}
use Rattle.std.specs.declared.alloc.Global.{Global}
use Rattle.std.proofs.lemmas.Bool.Decides.{Decides-int_eq}
use Rattle.std.proofs.lemmas.Cmp.{int_cmp_total, eq_by_cmp_equiv}
use Rattle.std.proofs.lemmas.Map.Lookups.{exact_signed}
use Rattle.std.proofs.lemmas.Map.Views.{tells_apart, Contains-keys_from_lookup, IsSome-lookup_from_Contains}
use Rattle.sled_store.specs.Answers.{is_fault, is_fault_kind}
use Rattle.sled_store.specs.Device.{file_named}
use Rattle.sled_store.proofs.Names.KeepsLemmas.{at_self, at_same}
use Rattle.sled_file.specs.Calls.{files_in}
use Rattle.sled_file.specs.Mirrors.{bytes_found, file_in}

-- a name is looked up by the comparison as by equality, from either side
at_is : (m n : ℤ) → is_at (int_cmp m) n ≡ int_eq m n
at_is m n = by (int_eq m n) refl (is_at (int_cmp m) n) refl
  where
    by : (b : Bool) → int_eq m n ≡ b → (a : Bool) → is_at (int_cmp m) n ≡ a → is_at (int_cmp m) n ≡ int_eq m n
    by true is true at = at ∙ sym is
    by false is false at = at ∙ sym is
    by true is false at = absurd (differ (rewritten ((Decides-int_eq m n).0 is)) at)
      where
        rewritten : m ≡ n → is_at (int_cmp m) n ≡ true
        rewritten same = ap (λ (k : ℤ). is_at (int_cmp m) k) (sym same) ∙ at_self m

        differ : {b : Bool} → b ≡ true → b ≡ false → ⊥
        differ is_true is_false = cc
    by false is true at = absurd (differ ((Decides-int_eq m n).1 (at_same m n at)) is)
      where
        differ : {b : Bool} → b ≡ true → b ≡ false → ⊥
        differ is_true is_false = cc

-- the same from the other side
at_other_side : (m n : ℤ) → is_at (int_cmp n) m ≡ int_eq m n
at_other_side m n = by (int_eq m n) refl (int_eq n m) refl
  where
    differ : {b : Bool} → b ≡ true → b ≡ false → ⊥
    differ is_true is_false = cc

    by : (a : Bool) → int_eq m n ≡ a → (b : Bool) → int_eq n m ≡ b → is_at (int_cmp n) m ≡ int_eq m n
    by true p true q = at_is n m ∙ q ∙ sym p
    by false p false q = at_is n m ∙ q ∙ sym p
    by true p false q = absurd (differ ((Decides-int_eq n m).1 (sym ((Decides-int_eq m n).0 p))) q)
    by false p true q = absurd (differ ((Decides-int_eq m n).1 (sym ((Decides-int_eq n m).0 q))) p)

chosen : (b : Bool) (w found : Option (Vec ℕ Global)) → bytes_found (cond b w found) ≡ (if b then bytes_found w else bytes_found found)
chosen true w found = refl
chosen false w found = refl

-- under a name that was put, or removed, is what was put there, and under others what was there
pub file-updated : (old new : BTreeMap ℤ (Vec ℕ Global)) (name : ℤ) (w : Option (Vec ℕ Global))
    → ((q : ℤ) → get int_cmp new q ≡ cond (is_at (int_cmp name) q) w (get int_cmp old q))
    → (n : ℤ) → file_in new n ≡ (if int_eq name n then bytes_found w else file_in old n)
file-updated old new name w put n =
    ap bytes_found (put n ∙ ap (λ (b : Bool). cond b w (get int_cmp old n)) (at_is name n)) ∙ chosen (int_eq name n) w (get int_cmp old n)

listed : (n : ℤ) (entries : List (ℤ × Vec ℕ Global)) → file_named (map (λ f. (f.0, f.1.items)) entries) n ≡ bytes_found (lookup (is_at (int_cmp n)) entries)
listed n [] = refl
listed n (e ∷ entries) =
    ap (λ (rest : Option (List ℕ)). if int_eq e.0 n then Some e.1.items else rest) (listed n entries)
    ∙ sym (ap (λ (b : Bool). bytes_found (cond b (Some e.1) (lookup (is_at (int_cmp n)) entries))) (at_other_side e.0 n)
    ∙ chosen (int_eq e.0 n) (Some e.1) (lookup (is_at (int_cmp n)) entries))

-- in the list of all files is under each name what is found there
pub file-listed : (files : BTreeMap ℤ (Vec ℕ Global)) (n : ℤ) → file_named (files_in files) n ≡ file_in files n
file-listed files n = listed n files.entries

some_found : (o : Option (Vec ℕ Global)) → is_some (bytes_found o) ≡ is_some o
some_found None = refl
some_found (Some bytes) = refl

-- the keys are the names that have a file
pub names-listed : (files : BTreeMap ℤ (Vec ℕ Global)) (names : List ℤ) → names ≡ keys files → (n : ℤ) → IsSome (file_in files n) ↔ Contains names n
names-listed files names is n =
    let same : is_some (file_in files n) ≡ is_some (get int_cmp files n) = some_found (get int_cmp files n) in (
      λ some. subst (λ (ns : List ℤ). Contains ns n) (sym is) (Contains-keys_from_lookup (tells_apart exact_signed) n files.entries (sym same ∙ some)),
      λ has. same ∙ IsSome-lookup_from_Contains (eq_by_cmp_equiv int_cmp_total) n files.entries (subst (λ (ns : List ℤ). Contains ns n) is has),
    )

pub each_ok : {T E : Type 0} {P Q : T → Type 0} (r : Result T E) → ((x : T) → P x → Q x) → IfOk r P → IfOk r Q
each_ok (Ok x) each holds = each x holds
each_ok (Err e) each holds = tt

-- An error of a kind that is no failure of the device, where that says something which is so.

pub refused : (e : Error) (kind : ErrorKind) (so : Type 0) → is_fault_kind kind ≡ false → error_kind e ≡ kind → so
    → MatchBool (is_fault e) (Unit {0}) ((error_kind e ≡ kind) × so)
refused e kind so no_fault is holds =
    subst (λ (b : Bool). MatchBool b (Unit {0}) ((error_kind e ≡ kind) × so)) (sym (ap is_fault_kind is ∙ no_fault)) (is, holds)

pub refused_or : (e : Error) (kind : ErrorKind) (so : Type 0) → is_fault_kind kind ≡ false → error_kind e ≡ kind → so
    → MatchBool (is_fault e) (Unit {0}) ((error_kind e ≡ OutOfMemory) ⊎ ((error_kind e ≡ kind) × so))
refused_or e kind so no_fault is holds =
    subst (λ (b : Bool). MatchBool b (Unit {0}) ((error_kind e ≡ OutOfMemory) ⊎ ((error_kind e ≡ kind) × so))) (sym (ap is_fault_kind is ∙ no_fault)) (inr (is, holds))

pub none_of : (o : Option (List ℕ)) → is_some o ≡ false → o ≡ None
none_of None is = refl
none_of (Some bytes) is = absurd (differ is)
  where
    differ : true ≡ false → ⊥
    differ same = cc
