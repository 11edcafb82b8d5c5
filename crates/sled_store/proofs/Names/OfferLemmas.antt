-- Offered files may be left exactly where each name that was made or offered may have what is offered.
use Rattle.std.proofs.Common.{◌≡◌, ◌⊎◌, ◌≤◌, ◌<◌, ◌+◌, ◌-◌, ◌||◌, ◌&&◌, ◌↔◌, ℕ, ℤ, Bool, true, false, if◌then◌else◌, cond, is_some, int_lt, List, [], ◌∷◌, ◌++◌, length, take, drop, get_or, Option, Some, None, IsSome, IsTrue, Vec, MatchBool, refl, sym, ◌∙◌, ap, subst, arith, inl, inr, length-drop}
use Rattle.std.specs.Ordering.{int_eq, int_cmp}
use Rattle.std.specs.Map.{lookup}
use Rattle.std.specs.BTreeMap.{get, is_at}
use Rattle.std.specs.declared.alloc.Global.{Global}
use Rattle.std.proofs.lemmas.Bool.Decides.{Decides-int_eq}
use Rattle.std.proofs.lemmas.Slice.Eq.{bytes_eq-Decides}
use Rattle.std.proofs.lemmas.List.{drop_more, take_more}
use Rattle.sled_store.specs.declared.device.memory.named_files.version.FileVersion.{FileVersion}
use Rattle.sled_store.specs.declared.device.memory.named_files.MemNames.{MemNames}
use Rattle.sled_store.specs.Device.{NameState, NamesState, LeavesFile, LeavesOneOf, LeavesName, file_named}
use Rattle.sled_store.specs.Noted.{files_of}
use Rattle.sled_store.specs.Chosen.{are_ascending}
use Rattle.sled_store.specs.inside.MemoryNames.{absent, states_of, files_found, files_under, leaves_file, leaves_any, Keeps}
use Rattle.sled_store.proofs.Names.KeepsLemmas.{at_same}
use Rattle.sled_store.proofs.LogFile.LooseLemmas.{or-true}

abbrev pub Files : Type 0
Files = List (ℤ × Vec ℕ Global)

-- Ascending.

pub ascending_step : (xs : Files) (i : ℕ) (f g : ℤ × Vec ℕ Global) → 0 < i → i < length xs → f ≡ get_or xs (i - 1) f → g ≡ get_or xs i g → int_lt f.0 g.0 ≡ true
    → are_ascending (files_of (drop i xs)) ≡ are_ascending (files_of (drop (i - 1) xs))
ascending_step xs i f g some low is_f is_g up =
    let before : i - 1 < length xs = omega arith in
    let next : i - 1 + 1 ≡ i = omega arith in
    let rest : Files = drop (i + 1) xs in
    let second : drop i xs ≡ g ∷ rest = drop_more xs i g low ∙ ap (λ (x : ℤ × Vec ℕ Global). x ∷ rest) (sym is_g) in
    let first : drop (i - 1) xs ≡ f ∷ (g ∷ rest) =
    drop_more xs (i - 1) f before ∙ ap (λ (x : ℤ × Vec ℕ Global). x ∷ drop (i - 1 + 1) xs) (sym is_f) ∙ ap (λ (k : ℕ). f ∷ drop k xs) next ∙ ap (λ (ys : Files). f ∷ ys) second in
    ap (λ (ys : Files). are_ascending (files_of ys)) second
    ∙ sym (ap (λ (ys : Files). are_ascending (files_of ys)) first ∙ ap (λ (b : Bool). b && are_ascending (files_of (g ∷ rest))) up)

pub ascending_end : (xs : Files) (i : ℕ) → 0 < i → length xs ≤ i → are_ascending (files_of (drop (i - 1) xs)) ≡ true
ascending_end xs i some past = one_left (drop (i - 1) xs) (omega (arith, length-drop (i - 1) xs))
  where
    one_left : (ys : Files) → length ys ≤ 1 → are_ascending (files_of ys) ≡ true
    one_left [] short = refl
    one_left (y ∷ []) short = refl
    one_left (y ∷ (z ∷ ys)) short = absurd (omega arith)

-- Names.

named-push : (xs : Files) (f : ℤ × Vec ℕ Global) (n : ℤ) → is_some (file_named (files_of (xs ++ f ∷ [])) n) ≡ true → (is_some (file_named (files_of xs) n) ≡ true) ⊎ (f.0 ≡ n)
named-push [] f n has = one (int_eq f.0 n) refl has
  where
    one : (b : Bool) → int_eq f.0 n ≡ b → is_some (if b then Some f.1.items else None) ≡ true → (is_some (file_named (files_of []) n) ≡ true) ⊎ (f.0 ≡ n)
    one true is has = inr ((Decides-int_eq f.0 n).0 is)
    one false is has = absurd (cc)
named-push (x ∷ xs) f n has = one (int_eq x.0 n) has (named-push xs f n)
  where
    one : {A : Type 0} (b : Bool) → is_some (if b then Some x.1.items else file_named (files_of (xs ++ f ∷ [])) n) ≡ true
        → (is_some (file_named (files_of (xs ++ f ∷ [])) n) ≡ true → (is_some (file_named (files_of xs) n) ≡ true) ⊎ A)
        → (is_some (if b then Some x.1.items else file_named (files_of xs) n) ≡ true) ⊎ A
    one true has on = inl refl
    one false has on = on has

pub named-take : (xs : Files) (i : ℕ) (f : ℤ × Vec ℕ Global) (n : ℤ) → i < length xs → f ≡ get_or xs i f → is_some (file_named (files_of (take (i + 1) xs)) n) ≡ true → (is_some (file_named (files_of (take i xs)) n) ≡ true) ⊎ (f.0 ≡ n)
named-take xs i f n low read has =
    named-push (take i xs) f n (sym (ap (λ (ys : Files). is_some (file_named (files_of ys) n)) (take_more xs i f low ∙ ap (λ (x : ℤ × Vec ℕ Global). take i xs ++ x ∷ []) (sym read))) ∙ has)

-- The test of one name decides what a crash may leave under it.

file_left : (file : Option (List ℕ)) (unsynced : Bool) (left : Option (List ℕ)) → (leaves_file file unsynced left ≡ true → LeavesFile file unsynced left) × (LeavesFile file unsynced left → leaves_file file unsynced left ≡ true)
file_left None unsynced None = (λ _. refl, λ _. refl)
file_left None unsynced (Some x) = (λ h. absurd (cc), λ h. absurd (cc))
file_left (Some bytes) true None = (λ h. absurd (cc), λ h. absurd (cc))
file_left (Some bytes) false None = (λ h. absurd (cc), λ h. absurd (cc))
file_left (Some bytes) true (Some x) = (λ _. refl, λ _. refl)
file_left (Some bytes) false (Some x) =
    (λ h. ap (λ (b : List ℕ). Some b) (sym ((bytes_eq-Decides bytes x).0 h)), λ h. (bytes_eq-Decides bytes x).1 (same_some h))
  where
    same_some : {a b : List ℕ} → Some a ≡ Some b → b ≡ a
    same_some is = cc

any_left : (states : List NameState) (left : Option (List ℕ)) → (leaves_any states left ≡ true → LeavesOneOf states left) × (LeavesOneOf states left → leaves_any states left ≡ true)
any_left [] left = (λ h. absurd (cc), λ h. absurd h)
any_left (s ∷ states) left =
    let here = file_left s.file s.is_unsynced left in
    let others = any_left states left in
    (λ h. split (leaves_file s.file s.is_unsynced left) (leaves_any states left) h here.0 others.0, λ h. join (leaves_file s.file s.is_unsynced left) (leaves_any states left) h here.1 others.1)
  where
    split : {A B : Type 0} (a b : Bool) → a || b ≡ true → (a ≡ true → A) → (b ≡ true → B) → A ⊎ B
    split true b h f g = inl (f refl)
    split false b h f g = inr (g h)

    join : {A B : Type 0} (a b : Bool) → A ⊎ B → (A → a ≡ true) → (B → b ≡ true) → a || b ≡ true
    join a b (inl x) f g = ap (λ (c : Bool). c || b) (f x)
    join a b (inr y) f g = ap (λ (c : Bool). a || c) (g y) ∙ or-true a

abbrev tested : MemNames → ℤ → Option (List ℕ) → Bool
tested names n left = leaves_any (states_of (files_under names.kept n)) left

pub name_left : (names : MemNames) (s : NamesState) (n : ℤ) (left : Option (List ℕ)) → Keeps names s → (tested names n left ≡ true → LeavesName s n left) × (LeavesName s n left → tested names n left ≡ true)
name_left names s n left keeps =
    let now : List NameState = record { file = s.file n; is_unsynced = s.is_unsynced n } ∷ s.earlier n in
    let is : tested names n left ≡ leaves_any now left = ap (λ (h : List NameState). leaves_any h left) (keeps.states n) in
    (λ h. spread ((any_left now left).0 (sym is ∙ h)), λ h. is ∙ (any_left now left).1 (gather h))
  where
    spread : {A B C : Type 0} → A ⊎ B → A ⊎ B ⊎ C
    spread (inl a) = inl a
    spread (inr b) = inr (inl b)

    gather : LeavesName s n left → LeavesFile (s.file n) (s.is_unsynced n) left ⊎ LeavesOneOf (s.earlier n) left
    gather (inl a) = inl a
    gather (inr (inl b)) = inr b
    gather (inr (inr c)) = absurd (subst (λ (h : List NameState). LeavesOneOf h left) (keeps.whole n) c)

-- a name that was neither made nor offered
untouched : (names : MemNames) (files : Files) (n : ℤ) → get int_cmp names.kept n ≡ None → file_named (files_of files) n ≡ None → tested names n (file_named (files_of files) n) ≡ true
untouched names files n none missing =
    ap (λ (o : Option (Vec FileVersion Global)). leaves_any (states_of (files_found o)) (file_named (files_of files) n)) none
    ∙ ap (λ (o : Option (List ℕ)). leaves_any (absent ∷ []) o) missing

-- all names were tested
all_tested : (names : MemNames) (files : Files)
    → ((n : ℤ) → IsSome (file_named (files_of files) n) → IsTrue (tested names n (file_named (files_of files) n)))
    → ((n : ℤ) → IsSome (get int_cmp names.kept n) → IsTrue (tested names n (file_named (files_of files) n)))
    → (n : ℤ) → tested names n (file_named (files_of files) n) ≡ true
all_tested names files by_file by_name n = by_made (get int_cmp names.kept n) refl
  where
    by_offer : get int_cmp names.kept n ≡ None → (o : Option (List ℕ)) → file_named (files_of files) n ≡ o → tested names n (file_named (files_of files) n) ≡ true
    by_offer none None is = untouched names files n none is
    by_offer none (Some x) is = by_file n (ap is_some is)

    by_made : (o : Option (Vec FileVersion Global)) → get int_cmp names.kept n ≡ o → tested names n (file_named (files_of files) n) ≡ true
    by_made (Some kept) is = by_name n (ap is_some is)
    by_made None is = by_offer is (file_named (files_of files) n) refl

pub may_leave-no : (names : MemNames) (s : NamesState) (files : Files) → Keeps names s → (n : ℤ) × (tested names n (file_named (files_of files) n) ≡ false) → ((n : ℤ) → LeavesName s n (file_named (files_of files) n)) → ⊥
may_leave-no names s files keeps broken all = differ ((name_left names s broken.0 (file_named (files_of files) broken.0) keeps).1 (all broken.0)) broken.1
  where
    differ : {b : Bool} → b ≡ true → b ≡ false → ⊥
    differ is not_is = cc

pub may_leave-iff : (names : MemNames) (s : NamesState) (files : Files) (result : Bool) → Keeps names s
    → ((n : ℤ) → IsSome (file_named (files_of files) n) → IsTrue (tested names n (file_named (files_of files) n)))
    → MatchBool result ((n : ℤ) → IsSome (get int_cmp names.kept n) → IsTrue (tested names n (file_named (files_of files) n))) ((n : ℤ) × (tested names n (file_named (files_of files) n) ≡ false))
    → IsTrue result ↔ ((n : ℤ) → LeavesName s n (file_named (files_of files) n))
may_leave-iff names s files true keeps by_file by_name =
    (λ _. λ n. (name_left names s n (file_named (files_of files) n) keeps).0 (all_tested names files by_file by_name n), λ _. refl)
may_leave-iff names s files false keeps by_file broken = (λ h. absurd (cc), λ all. absurd (may_leave-no names s files keeps broken all))

-- one more name of the map was tested: what is still to come of its entries has one name less
pub one_more_tested : (P : ℤ → Type 0) (n : ℤ) (e : ℤ × Vec FileVersion Global) (es : List (ℤ × Vec FileVersion Global)) → P e.0 → is_some (lookup (is_at (int_cmp n)) (e ∷ es)) ≡ true → (is_some (lookup (is_at (int_cmp n)) es) ≡ true) ⊎ P n
one_more_tested P n e es here some = by (is_at (int_cmp n) e.0) refl some
  where
    by : (b : Bool) → is_at (int_cmp n) e.0 ≡ b → is_some (cond b (Some e.1) (lookup (is_at (int_cmp n)) es)) ≡ true → (is_some (lookup (is_at (int_cmp n)) es) ≡ true) ⊎ P n
    by true is some = inr (subst P (sym (at_same n e.0 is)) here)
    by false is some = inl some

-- what a crash may leave under a name was made under it
pub offered_made : (names : MemNames) (s : NamesState) (files : Files) → Keeps names s → ((n : ℤ) → LeavesName s n (file_named (files_of files) n)) → (n : ℤ) → IsSome (file_named (files_of files) n) → 0 < length (files_under names.kept n)
offered_made names s files keeps all n some = by (files_under names.kept n) refl
  where
    passed : tested names n (file_named (files_of files) n) ≡ true
    passed = (name_left names s n (file_named (files_of files) n) keeps).1 (all n)

    none_made : files_under names.kept n ≡ [] → (o : Option (List ℕ)) → file_named (files_of files) n ≡ o → ⊥
    none_made none None is = clash some (ap is_some is)
      where
        clash : {b : Bool} → b ≡ true → b ≡ false → ⊥
        clash is not_is = cc
    none_made none (Some x) is =
        clash (sym (ap (λ (xs : List FileVersion). leaves_any (states_of xs) (file_named (files_of files) n)) none ∙ ap (λ (o : Option (List ℕ)). leaves_any (absent ∷ []) o) is) ∙ passed)
      where
        clash : false ≡ true → ⊥
        clash is = cc

    by : (xs : List FileVersion) → files_under names.kept n ≡ xs → 0 < length xs
    by [] is = absurd (none_made is (file_named (files_of files) n) refl)
    by (x ∷ xs) is = omega arith
