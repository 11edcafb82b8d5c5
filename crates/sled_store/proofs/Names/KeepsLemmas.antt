-- What is kept of files under names stands for a state of them: what that says of one name, and what keeps it so.
use Rattle.std.proofs.Common.{◌≡◌, ◌↔◌, ◌&&◌, ◌<◌, arith, length, Contains, Less, ℕ, ℤ, Bool, true, false, not, if◌then◌else◌, cond, is_some, IsSome, List, [], ◌∷◌, ◌++◌, Option, Some, None, Vec, refl, sym, ◌∙◌, ap, subst}
use Rattle.std.specs.Ordering.{int_eq, int_cmp, eq_by_cmp}
use Rattle.std.specs.Map.{lookup, keys_of}
use Rattle.std.specs.Map.Calls.{RetainsPairs}
use Rattle.std.specs.BTreeMap.{BTreeMap, get, is_at, WritesThrough}
use Rattle.std.specs.List.Sorted.{IsStrictlySortedBy}
use Rattle.std.specs.declared.alloc.Global.{Global}
use Rattle.std.proofs.lemmas.Bool.Decides.{Decides-int_eq}
use Rattle.std.proofs.lemmas.Cmp.{int_cmp_total, eq_by_cmp_equiv}
use Rattle.std.proofs.lemmas.Map.{lookup-none}
use Rattle.std.proofs.lemmas.Map.Entries.{none_past_head, lookup-filter-values, option_filter}
use Rattle.std.proofs.lemmas.Map.Keys.{IsDistinct-from_sorted, sorted_tail}
use Rattle.std.proofs.lemmas.Map.Lookups.{exact_signed}
use Rattle.std.proofs.lemmas.Map.Views.{tells_apart, Contains-keys_from_lookup, IsSome-lookup_from_Contains}
use Rattle.std.specs.List.{filter, AllByRecursion}
use Rattle.sled_store.specs.declared.device.memory.named_files.version.FileVersion.{FileVersion}
use Rattle.sled_store.specs.declared.device.memory.named_files.MemNames.{MemNames}
use Rattle.sled_store.specs.Device.{NameState, NamesState, renamed, unnamed, file_synced, names_synced, names_at_rest, settled_files}
use Rattle.sled_store.specs.inside.MemoryNames.{absent, state_kept, states_of, latest, without_file, firm, firm_file, file_settled, files_found, files_under, IsNoted, Keeps}
use Rattle.sled_store.proofs.Names.KeptLemmas.{states-push}

abbrev pub KeptMap : Type 0
KeptMap = BTreeMap ℤ (Vec FileVersion Global)

abbrev pub states_at : KeptMap → ℤ → List NameState
states_at kept n = states_of (files_under kept n)

-- What a state says of one name.

pub latest-is : (names : MemNames) (s : NamesState) (n : ℤ) → Keeps names s → latest (states_at names.kept n) ≡ record { file = s.file n; is_unsynced = s.is_unsynced n }
latest-is names s n keeps = ap latest (keeps.states n)

pub file-is : (names : MemNames) (s : NamesState) (n : ℤ) → Keeps names s → (latest (states_at names.kept n)).file ≡ s.file n
file-is names s n keeps = ap (λ (x : NameState). x.file) (latest-is names s n keeps)

-- A look-up of one name, after another was put.

pub at_self : (n : ℤ) → is_at (int_cmp n) n ≡ true
at_self n = (eq_by_cmp_equiv int_cmp_total).refl n

pub at_same : (m n : ℤ) → is_at (int_cmp m) n ≡ true → m ≡ n
at_same m n is = tells_apart exact_signed m n is

at_other : (m n : ℤ) → int_eq m n ≡ false → is_at (int_cmp m) n ≡ false
at_other m n other = by (is_at (int_cmp m) n) refl
  where
    by : (b : Bool) → is_at (int_cmp m) n ≡ b → is_at (int_cmp m) n ≡ false
    by true is = absurd (differ ((Decides-int_eq m n).1 (at_same m n is)) other)
      where
        differ : {b : Bool} → b ≡ true → b ≡ false → ⊥
        differ is not_is = cc
    by false is = is

abbrev pub PutAt : KeptMap → KeptMap → ℤ → Vec FileVersion Global → Type 0
PutAt old new name v = (q : ℤ) → get int_cmp new q ≡ cond (is_at (int_cmp name) q) (Some v) (get int_cmp old q)

pub put_here : (old new : KeptMap) (name : ℤ) (v : Vec FileVersion Global) → PutAt old new name v → files_under new name ≡ v.items
put_here old new name v put = ap files_found (put name ∙ ap (λ (b : Bool). cond b (Some v) (get int_cmp old name)) (at_self name))

pub put_other : (old new : KeptMap) (name : ℤ) (v : Vec FileVersion Global) → PutAt old new name v → (n : ℤ) → int_eq name n ≡ false → files_under new n ≡ files_under old n
put_other old new name v put n other = ap files_found (put n ∙ ap (λ (b : Bool). cond b (Some v) (get int_cmp old n)) (at_other name n other))

-- what was written over the files of a name that the map had
pub written : (old new : KeptMap) (m name : ℤ) (v w : Vec FileVersion Global) → m ≡ name → Some v ≡ get int_cmp old m → WritesThrough int_cmp (int_cmp m) old w new → PutAt old new name w
written old new m name v w is found through =
    let some : IsSome (get int_cmp old m) = sym (ap is_some found) in
    subst (λ (k : ℤ). PutAt old new k w) is (through.3 some).0

-- what was inserted under a name that the map didn't have
pub inserted : (old was new : KeptMap) (m name : ℤ) (v : Vec FileVersion Global) → m ≡ name → was ≡ old → PutAt was new m v → PutAt old new name v
inserted old was new m name v is same put = subst (λ (k : ℤ). PutAt old new k v) is (subst (λ (o : KeptMap). PutAt o new m v) same put)

pub found_under : (old : KeptMap) (m name : ℤ) (v : Vec FileVersion Global) → m ≡ name → Some v ≡ get int_cmp old m → v.items ≡ files_under old name
found_under old m name v is found = ap files_found found ∙ ap (files_under old) is

-- a name that the map doesn't have has no files
pub found_none : (kept : KeptMap) (m name : ℤ) → m ≡ name → None ≡ get int_cmp kept m → files_under kept name ≡ []
found_none kept m name is none = sym (ap files_found none ∙ ap (files_under kept) is)

pub none_under : (kept : KeptMap) (name : ℤ) → None ≡ get int_cmp kept name → 0 < length (files_under kept name) → ⊥
none_under kept name none some =
    let empty : 0 < length (files_found None) = subst (λ (o : Option (Vec FileVersion Global)). 0 < length (files_found o)) (sym none) some in
    omega arith

-- The files of one name change, and those of others stay.

-- the same names with other files
abbrev pub with_kept : MemNames → KeptMap → MemNames
with_kept names kept = record names { kept = kept }

-- none changed
pub keeps_same : (names : MemNames) (kept : KeptMap) (s : NamesState) (name : ℤ) → Keeps names s
    → files_under kept name ≡ files_under names.kept name
    → ((n : ℤ) → int_eq name n ≡ false → files_under kept n ≡ files_under names.kept n)
    → Keeps (with_kept names kept) s
keeps_same names kept s name keeps here others = record { states = λ n. at n (int_eq name n) refl; whole = keeps.whole; noted = keeps.noted }
  where
    at : (n : ℤ) (b : Bool) → int_eq name n ≡ b → states_at kept n ≡ record { file = s.file n; is_unsynced = s.is_unsynced n } ∷ s.earlier n
    at n true is = subst (λ (m : ℤ). states_at kept m ≡ record { file = s.file m; is_unsynced = s.is_unsynced m } ∷ s.earlier m) ((Decides-int_eq name n).0 is) (ap states_of here ∙ keeps.states name)
    at n false is = ap states_of (others n is) ∙ keeps.states n

-- A noted name has a new state, over all that it had.

abbrev Renamed : KeptMap → NamesState → NameState → ℤ → Bool → Type 0
Renamed kept s top n b = states_at kept n
    ≡ record { file = if b then top.file else s.file n; is_unsynced = if b then top.is_unsynced else s.is_unsynced n } ∷ (if b then record { file = s.file n; is_unsynced = s.is_unsynced n } ∷ s.earlier n else s.earlier n)

pub keeps_renamed : (names : MemNames) (kept : KeptMap) (s : NamesState) (name : ℤ) (top : NameState) (asked : List (List ℕ)) → Keeps names s → IsNoted names name
    → states_at kept name ≡ top ∷ states_at names.kept name
    → ((n : ℤ) → int_eq name n ≡ false → files_under kept n ≡ files_under names.kept n)
    → Keeps (with_kept names kept) (renamed s name true top asked)
keeps_renamed names kept s name top asked keeps is_noted here others = record { states = λ n. at n (int_eq name n) refl; whole = keeps.whole; noted = λ n. noted n (int_eq name n) refl }
  where
    at : (n : ℤ) (b : Bool) → int_eq name n ≡ b → Renamed kept s top n b
    at n true is = subst (λ (m : ℤ). Renamed kept s top m true) ((Decides-int_eq name n).0 is) (here ∙ ap (λ (h : List NameState). top ∷ h) (keeps.states name))
    at n false is = ap states_of (others n is) ∙ keeps.states n

    noted : (n : ℤ) (b : Bool) → int_eq name n ≡ b → ¬ IsNoted names n → (if b then record { file = s.file n; is_unsynced = s.is_unsynced n } ∷ s.earlier n else s.earlier n) ≡ []
    noted n true is not_noted = absurd (not_noted (subst (IsNoted names) ((Decides-int_eq name n).0 is) is_noted))
    noted n false is not_noted = keeps.noted n not_noted

-- a file was made
pub keeps_made : (names : MemNames) (kept : KeptMap) (s : NamesState) (name : ℤ) (one : FileVersion) (asked : List (List ℕ)) → one.is_gone ≡ false → one.is_settled ≡ false
    → files_under kept name ≡ files_under names.kept name ++ one ∷ []
    → ((n : ℤ) → int_eq name n ≡ false → files_under kept n ≡ files_under names.kept n)
    → Keeps names s → IsNoted names name → Keeps (with_kept names kept) (renamed s name true (state_kept one) asked)
keeps_made names kept s name one asked stays unsettled here others keeps is_noted =
    let was = states_at names.kept name in
    keeps_renamed names kept s name (state_kept one) asked keeps is_noted
    (ap states_of here ∙ states-push (files_under names.kept name) one
    ∙ ap (λ (b : Bool). if b then absent ∷ state_kept one ∷ (if one.is_settled then [] else was) else state_kept one ∷ (if one.is_settled then [] else was)) stays
    ∙ ap (λ (b : Bool). state_kept one ∷ (if b then [] else was)) unsettled)
    others

-- the file that is there was removed
pub keeps_removed : (names : MemNames) (kept : KeptMap) (s : NamesState) (name : ℤ) → IsSome (s.file name)
    → states_at kept name ≡ without_file (states_at names.kept name)
    → ((n : ℤ) → int_eq name n ≡ false → files_under kept n ≡ files_under names.kept n)
    → Keeps names s → IsNoted names name → Keeps (with_kept names kept) (unnamed s name true)
keeps_removed names kept s name some here others keeps is_noted =
    let was : NameState = record { file = s.file name; is_unsynced = s.is_unsynced name } in
    subst (λ (b : Bool). Keeps (with_kept names kept) (if b then renamed s name true absent [] else s)) (sym some)
    (keeps_renamed names kept s name absent [] keeps is_noted
    (here ∙ ap without_file (keeps.states name)
    ∙ ap (λ (b : Bool). if b then absent ∷ was ∷ s.earlier name else was ∷ s.earlier name) some
    ∙ ap (λ (h : List NameState). absent ∷ h) (sym (keeps.states name)))
    others)

-- The bytes of the file that is there were settled.
abbrev Firmed : KeptMap → NamesState → ℤ → Bool → Type 0
Firmed kept s n b = states_at kept n ≡ record { file = s.file n; is_unsynced = not b && s.is_unsynced n } ∷ s.earlier n

pub keeps_firmed : (names : MemNames) (kept : KeptMap) (s : NamesState) (name : ℤ)
    → states_at kept name ≡ firm_file (states_at names.kept name)
    → ((n : ℤ) → int_eq name n ≡ false → files_under kept n ≡ files_under names.kept n)
    → Keeps names s → Keeps (with_kept names kept) (file_synced s name)
keeps_firmed names kept s name here others keeps = record { states = λ n. at n (int_eq name n) refl; whole = keeps.whole; noted = keeps.noted }
  where
    at : (n : ℤ) (b : Bool) → int_eq name n ≡ b → Firmed kept s n b
    at n true is = subst (λ (m : ℤ). Firmed kept s m true) ((Decides-int_eq name n).0 is) (here ∙ ap firm_file (keeps.states name))
    at n false is = ap states_of (others n is) ∙ keeps.states n

-- All names change at once, each by itself.

-- What a closure leaves of one name: nothing where it answers false.
abbrev Leaves : (List NameState → List NameState) → Vec FileVersion Global → Bool → Vec FileVersion Global → Type 0
Leaves change v b w = states_of (if b then w.items else []) ≡ change (states_of v.items)

module _ {F : Type 0} (T : F → ℤ → Vec FileVersion Global → Bool → Vec FileVersion Global → F → Type 0) (change : List NameState → List NameState) (fresh : change (absent ∷ []) ≡ absent ∷ []) (f : F)
    (says : (k : ℤ) (v : Vec FileVersion Global) (b : Bool) (w : Vec FileVersion Global) (g : F) → T f k v b w g → Leaves change v b w × (g ≡ f)) where
  -- the states of a name that is the first of those to come, or another one
  first : (q : ℤ) (e : ℤ × Vec FileVersion Global) (es rest : List (ℤ × Vec FileVersion Global)) (b : Bool) (w : Vec FileVersion Global) (here : Bool) → is_at (int_cmp q) e.0 ≡ here
      → (here ≡ true → lookup (is_at (int_cmp q)) es ≡ None) → Leaves change e.1 b w
      → states_of (files_found (lookup (is_at (int_cmp q)) rest)) ≡ change (states_of (files_found (lookup (is_at (int_cmp q)) es)))
      → states_of (files_found (lookup (is_at (int_cmp q)) (cond b ((e.0, w) ∷ rest) rest))) ≡ change (states_of (files_found (cond here (Some e.1) (lookup (is_at (int_cmp q)) es))))
  first q e es rest true w true is alone left on = ap (λ (c : Bool). states_of (files_found (cond c (Some w) (lookup (is_at (int_cmp q)) rest)))) is ∙ left
  first q e es rest true w false is alone left on = ap (λ (c : Bool). states_of (files_found (cond c (Some w) (lookup (is_at (int_cmp q)) rest)))) is ∙ on
  first q e es rest false w true is alone left on = on ∙ ap (λ (o : Option (Vec FileVersion Global)). change (states_of (files_found o))) (alone refl) ∙ fresh ∙ left
  first q e es rest false w false is alone left on = on

  retained : (q : ℤ) (es kept : List (ℤ × Vec FileVersion Global)) → IsStrictlySortedBy int_cmp (keys_of es) → RetainsPairs T f es kept
      → states_of (files_found (lookup (is_at (int_cmp q)) kept)) ≡ change (states_of (files_found (lookup (is_at (int_cmp q)) es)))
  retained q [] kept sorted none = ap (λ (ks : List (ℤ × Vec FileVersion Global)). states_of (files_found (lookup (is_at (int_cmp q)) ks))) none ∙ sym fresh
  retained q (e ∷ es) kept sorted (b, w, g, rest, call, more, is) =
      let said = says e.0 e.1 b w g call in
      let on = retained q es rest (sorted_tail int_cmp e.0 (keys_of es) sorted) (subst (λ (h : F). RetainsPairs T h es rest) said.1 more) in
      let alone : is_at (int_cmp q) e.0 ≡ true → lookup (is_at (int_cmp q)) es ≡ None = λ at. lookup-none (is_at (int_cmp q)) es (none_past_head (eq_by_cmp_equiv int_cmp_total) q e es (IsDistinct-from_sorted int_cmp (keys_of (e ∷ es)) sorted) at) in
      ap (λ (ks : List (ℤ × Vec FileVersion Global)). states_of (files_found (lookup (is_at (int_cmp q)) ks))) is
      ∙ first q e es rest b w (is_at (int_cmp q) e.0) refl alone said.0 on

  pub states-retained : (old new : KeptMap) → IsStrictlySortedBy int_cmp (keys_of old.entries) → RetainsPairs T f old.entries new.entries → (n : ℤ) → states_at new n ≡ change (states_at old n)
  states-retained old new sorted kept n = retained n old.entries new.entries sorted kept

pub keeps_settled : (names new : MemNames) (s : NamesState) → ((n : ℤ) → states_at new.kept n ≡ latest (states_at names.kept n) ∷ []) → Keeps names s → Keeps new (names_synced s)
keeps_settled names new s settled keeps = record { states = λ n. settled n ∙ ap (λ (x : NameState). x ∷ []) (latest-is names s n keeps); whole = λ n. refl; noted = λ n _. refl }

pub keeps_lost : (names new : MemNames) (s : NamesState) → ((n : ℤ) → states_at new.kept n ≡ firm (file_settled (states_at names.kept n)) ∷ []) → Keeps names s → Keeps new (names_at_rest (settled_files s))
keeps_lost names new s lost keeps = record { states = λ n. lost n ∙ ap (λ (h : List NameState). firm (file_settled h) ∷ []) (keeps.states n); whole = λ n. refl; noted = λ n _. refl }

pub keeps_held : (names new : MemNames) (s : NamesState) → ((n : ℤ) → states_at new.kept n ≡ firm (latest (states_at names.kept n)).file ∷ []) → Keeps names s → Keeps new (names_at_rest s.file)
keeps_held names new s held keeps = record { states = λ n. held n ∙ ap (λ (o : Option (List ℕ)). firm o ∷ []) (file-is names s n keeps); whole = λ n. refl; noted = λ n _. refl }

-- The names of the files that are there.

abbrev pub there : Vec FileVersion Global → Bool
there kept = is_some (latest (states_of kept.items)).file

abbrev pub listed : List (ℤ × Vec FileVersion Global) → List ℤ
listed es = keys_of (filter (λ e. there e.1) es)

there-found : (o : Option (Vec FileVersion Global)) → is_some (latest (states_of (files_found o))).file ≡ is_some (option_filter there o)
there-found None = refl
there-found (Some v) = by (there v) refl
  where
    by : (b : Bool) → there v ≡ b → there v ≡ is_some (cond (there v) (Some v) None)
    by true is = is ∙ sym (ap (λ (b : Bool). is_some (cond b (Some v) None)) is)
    by false is = is ∙ sym (ap (λ (b : Bool). is_some (cond b (Some v) None)) is)

pub listed_iff : (names : MemNames) (s : NamesState) (n : ℤ) → Keeps names s → IsStrictlySortedBy int_cmp (keys_of names.kept.entries) → IsSome (s.file n) ↔ Contains (listed names.kept.entries) n
listed_iff names s n keeps sorted =
    let es = names.kept.entries in
    let laws = eq_by_cmp_equiv int_cmp_total in
    let same : is_some (s.file n) ≡ is_some (lookup (eq_by_cmp int_cmp n) (filter (λ e. there e.1) es)) =
    ap is_some (sym (file-is names s n keeps)) ∙ there-found (get int_cmp names.kept n)
    ∙ sym (ap is_some (lookup-filter-values laws there n es (IsDistinct-from_sorted int_cmp (keys_of es) sorted))) in (
      λ some. Contains-keys_from_lookup (tells_apart exact_signed) n (filter (λ e. there e.1) es) (sym same ∙ some),
      λ has. same ∙ IsSome-lookup_from_Contains laws n (filter (λ e. there e.1) es) has,
    )

all_listed : (P : ℤ → Type 0) (es : List (ℤ × Vec FileVersion Global)) → AllByRecursion P (keys_of es) → AllByRecursion P (listed es)
all_listed P [] all = all
all_listed P (e ∷ es) all = by (there e.1) (all_listed P es all.1)
  where
    by : (b : Bool) → AllByRecursion P (listed es) → AllByRecursion P (keys_of (cond b (e ∷ filter (λ e. there e.1) es) (filter (λ e. there e.1) es)))
    by true rest = (all.0, rest)
    by false rest = rest

pub listed_ascends : (es : List (ℤ × Vec FileVersion Global)) → IsStrictlySortedBy int_cmp (keys_of es) → IsStrictlySortedBy int_cmp (listed es)
unfolding IsStrictlySortedBy
listed_ascends [] sorted = sorted
listed_ascends (e ∷ es) sorted = by (there e.1) (listed_ascends es sorted.1)
  where
    by : (b : Bool) → IsStrictlySortedBy int_cmp (listed es) → IsStrictlySortedBy int_cmp (keys_of (cond b (e ∷ filter (λ e. there e.1) es) (filter (λ e. there e.1) es)))
    by true rest = (all_listed (λ y. int_cmp e.0 y ≡ Less) es sorted.0, rest)
    by false rest = rest
