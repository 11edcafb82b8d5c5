-- The snapshots but the one that is kept, and what their removal leaves under each number.
use Rattle.std.proofs.Common.{◌≡◌, ◌≢◌, ◌∙◌, ◌&&◌, ◌⊎◌, ◌↔◌, ℕ, ℤ, Bool, true, false, not, is_some, if◌then◌else◌, List, [], ◌∷◌, get_or, Option, Some, None, IsSome, length, refl, sym, ap, subst, inl, inr, arith}
use Rattle.std.specs.Ordering.{int_eq, int_cmp}
use Rattle.std.specs.Cmp.{signed_Decides}
use Rattle.std.specs.List.{Contains}
use Rattle.std.specs.List.Sorted.{IsStrictlySortedBy}
use Rattle.std.proofs.lemmas.List.Elements.{filter_passes}
use Rattle.std.proofs.lemmas.List.Kept.{IsStrictlySortedBy-filter}
use Rattle.sled_store.specs.Device.{Trace, SnapshotRemoved, NamesState, state_of, unnamed, renamed}
use Rattle.sled_store.specs.Script.{after_all}
use Rattle.sled_log.specs.WritesBack.{removing_snapshots, others, is_other, AreOthers, MayBeRemoved}
use Rattle.sled_store.proofs.Names.BlobLemmas.{contains_head, contains_more, contains_one_of}

-- Elements of a list.

contains_none : (y : ℤ) → Contains [] y → ⊥
contains_none y (k, below, at) = omega (arith, below)

-- The others.

pub other_name : (m n : ℤ) → m ≢ n → int_eq m n ≡ false
other_name m n other = decided (int_eq m n) (λ yes. other ((signed_Decides m n).0 yes))
  where
    decided : (b : Bool) → (b ≡ true → ⊥) → b ≡ false
    decided true h = absurd (h refl)
    decided false h = refl

pub same_name : (m n : ℤ) → m ≡ n → int_eq m n ≡ true
same_name m n same = (signed_Decides m n).1 same

pub other_passes : (kept n : ℤ) → n ≢ kept → is_other kept n ≡ true
other_passes kept n other = ap not (other_name n kept other)

kept_fails : (kept n : ℤ) → n ≡ kept → is_other kept n ≡ false
kept_fails kept n same = ap not (same_name n kept same)

in_others : (kept n : ℤ) (ns : List ℤ) → n ≢ kept → Contains ns n → Contains (others kept ns) n
in_others kept n [] other there = there
in_others kept n (m ∷ ms) other there = by_test (is_other kept m) refl (contains_one_of m n ms there) (in_others kept n ms other)
  where
    by_test : (b : Bool) → is_other kept m ≡ b → (m ≡ n) ⊎ Contains ms n → (Contains ms n → Contains (others kept ms) n) → Contains (if b then m ∷ others kept ms else others kept ms) n
    by_test true is (inl same) further = contains_head m n (others kept ms) same
    by_test true is (inr rest) further = contains_more m n (others kept ms) (further rest)
    by_test false is (inl same) further = let passes = other_passes kept n other in absurd (cc)
    by_test false is (inr rest) further = further rest

from_others : (kept n : ℤ) (ns : List ℤ) → Contains (others kept ns) n → Contains ns n
from_others kept n [] there = there
from_others kept n (m ∷ ms) there = by_test (is_other kept m) there (from_others kept n ms)
  where
    by_test : (b : Bool) → Contains (if b then m ∷ others kept ms else others kept ms) n → (Contains (others kept ms) n → Contains ms n) → Contains (m ∷ ms) n
    by_test false there further = contains_more m n ms (further there)
    by_test true there further = elim (contains_one_of m n (others kept ms) there) [
      | inl same ↦ contains_head m n ms same
      | inr rest ↦ contains_more m n ms (further rest)
    ]

not_kept : (kept n : ℤ) (ns : List ℤ) → Contains (others kept ns) n → n ≢ kept
not_kept kept n ns (k, below, at) = λ same.
    let passes : is_other kept (get_or (others kept ns) k n) ≡ true = filter_passes (is_other kept) ns k n below in
    let fails = kept_fails kept n same in
    let there : is_other kept n ≡ true = subst (λ (m : ℤ). is_other kept m ≡ true) at passes in
    cc

-- those of all numbers that there are
pub are_others : (file : ℤ → Option (List ℕ)) (kept : ℤ) (ns : List ℤ) → ((n : ℤ) → IsSome (file n) ↔ Contains ns n) → IsStrictlySortedBy int_cmp ns → AreOthers file kept (others kept ns)
are_others file kept ns listed ascending = record {
  each = λ n. (
    (λ there. ((listed n).1 (from_others kept n ns there), not_kept kept n ns there)),
    (λ is. in_others kept n ns is.1 ((listed n).0 is.0)),
  );
  ascending = IsStrictlySortedBy-filter int_cmp (is_other kept) ns ascending;
}

-- they are those of any state in which the others have the same files
pub same_others : (file old : ℤ → Option (List ℕ)) (kept : ℤ) (ns : List ℤ) → ((n : ℤ) → n ≢ kept → file n ≡ old n) → AreOthers file kept ns → AreOthers old kept ns
same_others file old kept ns same are = record {
  each = λ n. (
    (λ there. let is = (are.each n).0 there in (subst (λ (o : Option (List ℕ)). IsSome o) (same n is.1) is.0, is.1)),
    (λ is. (are.each n).1 (subst (λ (o : Option (List ℕ)). IsSome o) (sym (same n is.1)) is.0, is.1)),
  );
  ascending = are.ascending;
}

-- What removals of names leave.

-- the file of a snapshot
abbrev pub file_at : Trace → ℤ → Option (List ℕ)
file_at h n = (state_of h).snapshots.file n

-- names, once these were removed
abbrev pub all_unnamed : NamesState → List ℤ → NamesState
all_unnamed s [] = s
all_unnamed s (n ∷ ns) = all_unnamed (unnamed s n true) ns

abbrev left_of : Bool → Option (List ℕ) → Option (List ℕ)
left_of gone file = if gone then None else file

-- a removal leaves the file, or none
unnamed_file : (s : NamesState) (m n : ℤ) (done : Bool) → (unnamed s m done).file n ≡ left_of (is_some (s.file m) && (done && int_eq m n)) (s.file n)
unnamed_file s m n done = by_there (is_some (s.file m))
  where
    by_there : (there : Bool) → (if there then renamed s m done (record { file = None; is_unsynced = false }) [] else s).file n ≡ left_of (there && (done && int_eq m n)) (s.file n)
    by_there true = refl
    by_there false = refl

and_false : (a b : Bool) → b ≡ false → (a && b) ≡ false
and_false true b e = e
and_false false b e = refl

still_none : (gone : Bool) (file : Option (List ℕ)) → file ≡ None → left_of gone file ≡ None
still_none true file none = refl
still_none false file none = none

-- one removal
stays_at : (s : NamesState) (m n : ℤ) → m ≢ n → (unnamed s m true).file n ≡ s.file n
stays_at s m n other =
    unnamed_file s m n true
    ∙ ap (λ (b : Bool). left_of b (s.file n)) (and_false (is_some (s.file m)) (int_eq m n) (other_name m n other))

missing_at : (s : NamesState) (m n : ℤ) → s.file n ≡ None → (unnamed s m true).file n ≡ None
missing_at s m n none = unnamed_file s m n true ∙ still_none (is_some (s.file m) && int_eq m n) (s.file n) none

gone_if_there : (file : Option (List ℕ)) → left_of (is_some file && true) file ≡ None
gone_if_there None = refl
gone_if_there (Some bytes) = refl

gone_at : (s : NamesState) (n : ℤ) → (unnamed s n true).file n ≡ None
gone_at s n =
    unnamed_file s n n true
    ∙ ap (λ (b : Bool). left_of (is_some (s.file n) && b) (s.file n)) (same_name n n refl)
    ∙ gone_if_there (s.file n)

-- any number of them
pub missing_from : (n : ℤ) (ns : List ℤ) (s : NamesState) → s.file n ≡ None → (all_unnamed s ns).file n ≡ None
missing_from n [] s none = none
missing_from n (m ∷ ns) s none = missing_from n ns (unnamed s m true) (missing_at s m n none)

pub gone_from : (n : ℤ) (ns : List ℤ) (s : NamesState) → Contains ns n → (all_unnamed s ns).file n ≡ None
gone_from n [] s there = absurd (contains_none n there)
gone_from n (m ∷ ns) s there = elim (contains_one_of m n ns there) [
  | inl same ↦ missing_from n ns (unnamed s m true) (subst (λ (k : ℤ). (unnamed s k true).file n ≡ None) (sym same) (gone_at s n))
  | inr rest ↦ gone_from n ns (unnamed s m true) rest
]

pub kept_from : (n : ℤ) (ns : List ℤ) (s : NamesState) → (Contains ns n → ⊥) → (all_unnamed s ns).file n ≡ s.file n
kept_from n [] s others = refl
kept_from n (m ∷ ns) s others =
    kept_from n ns (unnamed s m true) (λ there. others (contains_more m n ns there))
    ∙ stays_at s m n (λ same. others (contains_head m n ns same))

-- What removals of snapshots leave.

removed_names : (ns : List ℤ) (h : Trace) → (state_of (after_all (removing_snapshots ns) h)).snapshots ≡ all_unnamed (state_of h).snapshots ns
removed_names [] h = refl
removed_names (m ∷ ns) h = removed_names ns (SnapshotRemoved m true ∷ h)

pub missing_after : (n : ℤ) (ns : List ℤ) (h : Trace) → file_at h n ≡ None → file_at (after_all (removing_snapshots ns) h) n ≡ None
missing_after n ns h none = ap (λ (s : NamesState). s.file n) (removed_names ns h) ∙ missing_from n ns (state_of h).snapshots none

pub gone_after : (n : ℤ) (ns : List ℤ) (h : Trace) → Contains ns n → file_at (after_all (removing_snapshots ns) h) n ≡ None
gone_after n ns h there = ap (λ (s : NamesState). s.file n) (removed_names ns h) ∙ gone_from n ns (state_of h).snapshots there

pub kept_after : (n : ℤ) (ns : List ℤ) (h : Trace) → (Contains ns n → ⊥) → file_at (after_all (removing_snapshots ns) h) n ≡ file_at h n
kept_after n ns h others = ap (λ (s : NamesState). s.file n) (removed_names ns h) ∙ kept_from n ns (state_of h).snapshots others

-- the log file and the blobs stay
pub log_after : (ns : List ℤ) (h : Trace) → (state_of (after_all (removing_snapshots ns) h)).log ≡ (state_of h).log
log_after [] h = refl
log_after (m ∷ ns) h = log_after ns (SnapshotRemoved m true ∷ h)

pub blobs_after : (ns : List ℤ) (h : Trace) → (state_of (after_all (removing_snapshots ns) h)).blobs ≡ (state_of h).blobs
blobs_after [] h = refl
blobs_after (m ∷ ns) h = blobs_after ns (SnapshotRemoved m true ∷ h)

-- of one number
pub one_other : (kept n : ℤ) → n ≢ kept → others kept (n ∷ []) ≡ n ∷ []
one_other kept n other = ap (λ (b : Bool). if b then n ∷ [] else []) (other_passes kept n other)

pub one_kept : (kept n : ℤ) → n ≡ kept → others kept (n ∷ []) ≡ []
one_kept kept n same = ap (λ (b : Bool). if b then n ∷ [] else []) (kept_fails kept n same)

-- what may be removed is not the one that is kept
pub removed_apart : (file : ℤ → Option (List ℕ)) (kept : ℤ) (ns : List ℤ) → MayBeRemoved file kept ns → (n : ℤ) → Contains ns n → n ≢ kept
removed_apart file kept ns (inl none) n there = let short : length ns ≡ 0 = ap length none in absurd (omega (arith, there.1, short))
removed_apart file kept ns (inr are) n there = ((are.each n).0 there).1
