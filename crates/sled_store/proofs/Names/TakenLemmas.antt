-- Offered files that are put where their names were kept are what stands under names, and nothing else does.
use Rattle.std.proofs.Common.{◌≡◌, ◌<◌, ℕ, ℤ, Bool, true, false, if◌then◌else◌, is_some, List, [], ◌∷◌, ◌++◌, length, get_or, Option, Some, None, IsSome, Vec, refl, sym, ◌∙◌, ap, subst, arith}
use Rattle.std.specs.Ordering.{int_eq}
use Rattle.std.specs.declared.alloc.Global.{Global}
use Rattle.std.proofs.lemmas.Bool.Decides.{Decides-int_eq}
use Rattle.sled_store.specs.declared.device.memory.named_files.version.FileVersion.{FileVersion}
use Rattle.sled_store.specs.Device.{file_named}
use Rattle.sled_store.specs.Noted.{files_of}
use Rattle.sled_store.specs.inside.MemoryNames.{states_of, firm, files_under}
use Rattle.sled_store.proofs.Names.KeepsLemmas.{KeptMap}
use Rattle.sled_store.proofs.Names.OfferLemmas.{Files}

-- One more offered file, at the end.

pub named-rest : (xs : Files) (f : ℤ × Vec ℕ Global) (n : ℤ) → file_named (files_of xs) n ≡ None → file_named (files_of (xs ++ f ∷ [])) n ≡ (if int_eq f.0 n then Some f.1.items else None)
named-rest [] f n none = refl
named-rest (x ∷ xs) f n none = one (int_eq x.0 n) none (named-rest xs f n)
  where
    one : {o : Option (List ℕ)} (b : Bool) → (if b then Some x.1.items else file_named (files_of xs) n) ≡ None → (file_named (files_of xs) n ≡ None → file_named (files_of (xs ++ f ∷ [])) n ≡ o)
        → (if b then Some x.1.items else file_named (files_of (xs ++ f ∷ [])) n) ≡ o
    one true none on = absurd (cc)
    one false none on = on none

pub named-first : (xs : Files) (f : ℤ × Vec ℕ Global) (n : ℤ) → is_some (file_named (files_of xs) n) ≡ true → file_named (files_of (xs ++ f ∷ [])) n ≡ file_named (files_of xs) n
named-first [] f n some = absurd (cc)
named-first (x ∷ xs) f n some = one (int_eq x.0 n) some (named-first xs f n)
  where
    one : (b : Bool) → is_some (if b then Some x.1.items else file_named (files_of xs) n) ≡ true → (is_some (file_named (files_of xs) n) ≡ true → file_named (files_of (xs ++ f ∷ [])) n ≡ file_named (files_of xs) n)
        → (if b then Some x.1.items else file_named (files_of (xs ++ f ∷ [])) n) ≡ (if b then Some x.1.items else file_named (files_of xs) n)
    one true some on = refl
    one false some on = on some

named-either : (xs : Files) (f : ℤ × Vec ℕ Global) (o : Option (List ℕ)) → file_named (files_of xs) f.0 ≡ o → is_some (file_named (files_of (xs ++ f ∷ [])) f.0) ≡ true
named-either xs f None is = ap is_some (named-rest xs f f.0 is ∙ ap (λ (b : Bool). if b then Some f.1.items else None) ((Decides-int_eq f.0 f.0).1 refl))
named-either xs f (Some x) is = let there = ap is_some is in ap is_some (named-first xs f f.0 there) ∙ there

-- the last one has a name
pub named-last : (xs : Files) (f : ℤ × Vec ℕ Global) → is_some (file_named (files_of (xs ++ f ∷ [])) f.0) ≡ true
named-last xs f = named-either xs f (file_named (files_of xs) f.0) refl

-- what a test found is there
pub found_some : (xs : Files) (i : ℕ) (o : Option (List ℕ)) → i < length xs → ((d : ℤ × Vec ℕ Global) → o ≡ Some (get_or xs i d).1.items) → is_some o ≡ true
found_some [] i o low found = absurd (omega arith)
found_some (x ∷ xs) i o low found = ap is_some (found x)

-- All offered files but these are put, and something is still kept under the names of these.
pub record Put (kept : KeptMap) (left : Files) (file : ℤ → Option (List ℕ)) : Type 0 where
  pub made : (n : ℤ) → IsSome (file_named (files_of left) n) → 0 < length (files_under kept n)
  pub same : (n : ℤ) → IsSome (file_named (files_of left) n) → file_named (files_of left) n ≡ file n
  pub done : (n : ℤ) → file_named (files_of left) n ≡ None → states_of (files_under kept n) ≡ firm (file n) ∷ []

pub put_more : (kept new : KeptMap) (all left : Files) (f : ℤ × Vec ℕ Global) (file : ℤ → Option (List ℕ)) → all ≡ left ++ f ∷ []
    → states_of (files_under new f.0) ≡ firm (Some f.1.items) ∷ [] → 0 < length (files_under new f.0)
    → ((n : ℤ) → int_eq f.0 n ≡ false → files_under new n ≡ files_under kept n)
    → Put kept all file → Put new left file
put_more kept new all left f file popped here made others put = record {
  made = λ n some. still n some (int_eq f.0 n) refl;
  same = λ n some. sym (before n some) ∙ put.same n (ap is_some (before n some) ∙ some);
  done = λ n none. by_name n none (int_eq f.0 n) refl;
}
  where
    before : (n : ℤ) → is_some (file_named (files_of left) n) ≡ true → file_named (files_of all) n ≡ file_named (files_of left) n
    before n some = ap (λ (xs : Files). file_named (files_of xs) n) popped ∙ named-first left f n some

    now : (n : ℤ) (b : Bool) → int_eq f.0 n ≡ b → file_named (files_of left) n ≡ None → file_named (files_of all) n ≡ (if b then Some f.1.items else None)
    now n b is none = ap (λ (xs : Files). file_named (files_of xs) n) popped ∙ named-rest left f n none ∙ ap (λ (c : Bool). if c then Some f.1.items else None) is

    still : (n : ℤ) → is_some (file_named (files_of left) n) ≡ true → (b : Bool) → int_eq f.0 n ≡ b → 0 < length (files_under new n)
    still n some true is = subst (λ (m : ℤ). 0 < length (files_under new m)) ((Decides-int_eq f.0 n).0 is) made
    still n some false is = subst (λ (xs : List FileVersion). 0 < length xs) (sym (others n is)) (put.made n (ap is_some (before n some) ∙ some))

    by_name : (n : ℤ) → file_named (files_of left) n ≡ None → (b : Bool) → int_eq f.0 n ≡ b → states_of (files_under new n) ≡ firm (file n) ∷ []
    by_name n none true is =
        let found = now n true is none in
        subst (λ (m : ℤ). states_of (files_under new m) ≡ firm (Some f.1.items) ∷ []) ((Decides-int_eq f.0 n).0 is) here
        ∙ ap (λ (o : Option (List ℕ)). firm o ∷ []) (sym found ∙ put.same n (ap is_some found))
    by_name n none false is = ap states_of (others n is) ∙ put.done n (now n false is none)
