-- Looking for the blobs of records, one after another: what is bad among those that are left, and what records with their blobs keep.
use Rattle.std.proofs.Common.{◌≡◌, ◌↔◌, ◌∙◌, ◌+◌, ◌<◌, ℕ, ℤ, Bool, true, false, if◌then◌else◌, List, [], ◌∷◌, ◌++◌, length, get_or, set, take, drop, append_assoc, Option, is_some, sym, ap, subst, arith, inl, inr}
use Rattle.std.specs.List.{All}
use Rattle.std.proofs.Math.Seq.{take-append_seam}
use Rattle.std.proofs.lemmas.List.{drop_more, take_more_set, drop-set-lt}
use Rattle.std.proofs.lemmas.List.Elements.{All-cons, All-head, All-tail}
use Rattle.sled_codec.specs.declared.serialization.message.LogKind.TheVariants.{Replace}
use Rattle.sled_codec.specs.declared.result.DiskPtr.TheVariants.{Blob, Inline}
use Rattle.sled_codec.specs.Kinds.{log_kind_of}
use Rattle.sled_store.specs.Device.{Trace, state_of}
use Rattle.sled_core.specs.declared.iterator.scan.ScannedRecord.{ScannedRecord}
use Rattle.sled_core.specs.declared.iterator.scan.RecordContent.{RecordContent}
use Rattle.sled_core.specs.declared.iterator.scan.RecordContent.TheVariants.{Gives, NamesBlob, Skipped, BatchStart}
use Rattle.sled_log.specs.Recovery.{opens, before_open, NamesKind, HasBadBlob, MeetsBadBlob, MeetsOne, with_blob, resolved, resolved_before}
use Rattle.sled_log.proofs.Replay.BlobLemmas.{met_behind, met_first, met_cases}

-- what code reads where no record stands
abbrev pub no_record : ScannedRecord
no_record = record { place = 0; len = 0; what = Gives Replace 0 (Inline 0) }

-- what holds of the first of those that are left
pub all_here : (P : ScannedRecord → Type 0) (ms : List ScannedRecord) (i : ℕ) (d : ScannedRecord) → i < length ms → All P (drop i ms) → P (get_or ms i d)
all_here P ms i d lt all = All-head P (get_or ms i d) (drop (i + 1) ms) (subst (All P) (drop_more ms i d lt) all)

-- and of the others, when that one was set
pub all_on : (P : ScannedRecord → Type 0) (ms : List ScannedRecord) (i : ℕ) (d x : ScannedRecord) → i < length ms → All P (drop i ms) → All P (drop (i + 1) (set ms i x))
all_on P ms i d x lt all =
    subst (All P) (sym (drop-set-lt (i + 1) ms i x (omega arith))) (All-tail P (get_or ms i d) (drop (i + 1) ms) (subst (All P) (drop_more ms i d lt) all))

module _ (sum : List ℕ → ℕ) (blobs : ℤ → Option (List ℕ)) where
  other : (x : ScannedRecord) (ms : List ScannedRecord) → (HasBadBlob sum blobs x.what → ⊥) → MeetsBadBlob sum blobs (x ∷ ms) → MeetsBadBlob sum blobs ms
  other x ms fine bad = elim (met_cases (HasBadBlob sum blobs) x ms bad) [
    | inl here ↦ absurd (fine here)
    | inr later ↦ later
  ]

  -- where that one isn't bad, one behind it is
  pub bad_rest : (ms : List ScannedRecord) (i : ℕ) (d : ScannedRecord) → i < length ms → (HasBadBlob sum blobs (get_or ms i d).what → ⊥) → MeetsBadBlob sum blobs (drop i ms) → MeetsBadBlob sum blobs (drop (i + 1) ms)
  bad_rest ms i d lt fine bad = other (get_or ms i d) (drop (i + 1) ms) fine (subst (MeetsBadBlob sum blobs) (drop_more ms i d lt) bad)

  module _ (end : ℕ) (ms : List ScannedRecord) (i : ℕ) (d : ScannedRecord) (lt : i < length ms) (shut : opens end (get_or ms i d).what ≡ false) where
    before_more : before_open end (drop i ms) ≡ get_or ms i d ∷ before_open end (drop (i + 1) ms)
    before_more =
        ap (before_open end) (drop_more ms i d lt) ∙ ap (λ (b : Bool). if b then [] else get_or ms i d ∷ before_open end (drop (i + 1) ms)) shut

    resolved_more : resolved_before blobs end (drop i ms) ≡ resolved blobs (get_or ms i d) ∷ resolved_before blobs end (drop (i + 1) ms)
    resolved_more =
        ap (resolved_before blobs end) (drop_more ms i d lt)
        ∙ ap (λ (b : Bool). if b then get_or ms i d ∷ drop (i + 1) ms else resolved blobs (get_or ms i d) ∷ resolved_before blobs end (drop (i + 1) ms)) shut

    -- what is so of that one is met before a batch that is open
    pub met_before_here : (P : RecordContent → Type 0) → P (get_or ms i d).what → MeetsOne P (before_open end (drop i ms))
    met_before_here P met = subst (MeetsOne P) (sym before_more) (met_first P (get_or ms i d) (before_open end (drop (i + 1) ms)) met)

    -- that one was set: what is met behind it was met
    pub met_on : (P : RecordContent → Type 0) (x : ScannedRecord) → MeetsOne P (before_open end (drop (i + 1) (set ms i x))) → MeetsOne P (before_open end (drop i ms))
    met_on P x met =
        let same = drop-set-lt (i + 1) ms i x (omega arith) in
        let rest : List ScannedRecord = before_open end (drop (i + 1) ms) in
        subst (MeetsOne P) (sym before_more) (met_behind P (get_or ms i d) rest (subst (λ (l : List ScannedRecord). MeetsOne P (before_open end l)) same met))

    -- it isn't bad: what is bad lies behind it
    pub bad_on : (x : ScannedRecord) → (HasBadBlob sum blobs (get_or ms i d).what → ⊥) → MeetsBadBlob sum blobs (before_open end (drop i ms)) → MeetsBadBlob sum blobs (before_open end (drop (i + 1) (set ms i x)))
    bad_on x fine bad =
        let same = drop-set-lt (i + 1) ms i x (omega arith) in
        let rest : List ScannedRecord = before_open end (drop (i + 1) ms) in
        subst (λ (l : List ScannedRecord). MeetsBadBlob sum blobs (before_open end l)) (sym same) (other (get_or ms i d) rest fine (subst (MeetsBadBlob sum blobs) before_more bad))

    -- it was set to what it is with its blob
    pub resolved_on : (x : ScannedRecord) → x ≡ resolved blobs (get_or ms i d)
        → take (i + 1) (set ms i x) ++ resolved_before blobs end (drop (i + 1) (set ms i x)) ≡ take i ms ++ resolved_before blobs end (drop i ms)
    resolved_on x is =
        ap (λ (l : List ScannedRecord). l ++ resolved_before blobs end (drop (i + 1) (set ms i x))) (take_more_set ms i x lt)
        ∙ ap (λ (l : List ScannedRecord). (take i ms ++ x ∷ []) ++ resolved_before blobs end l) (drop-set-lt (i + 1) ms i x (omega arith))
        ∙ append_assoc (take i ms) (x ∷ []) (resolved_before blobs end (drop (i + 1) ms))
        ∙ ap (λ (y : ScannedRecord). take i ms ++ y ∷ resolved_before blobs end (drop (i + 1) ms)) is
        ∙ ap (λ (l : List ScannedRecord). take i ms ++ l) (sym resolved_more)

-- What records with their blobs keep.
module _ (blobs : ℤ → Option (List ℕ)) where
  -- what a record keeps with its blob, all keep
  pub all_with_blobs : (P : ScannedRecord → Type 0) → ((m : ScannedRecord) → P m → P (resolved blobs m)) → (end : ℕ) (ms : List ScannedRecord) → All P ms → All P (resolved_before blobs end ms)
  all_with_blobs P keeps end [] all = all
  all_with_blobs P keeps end (m ∷ ms) all = by_test (opens end m.what) (all_with_blobs P keeps end ms (All-tail P m ms all)) where
    by_test : (b : Bool) → All P (resolved_before blobs end ms) → All P (if b then m ∷ ms else resolved blobs m ∷ resolved_before blobs end ms)
    by_test true rest = all
    by_test false rest = All-cons P (resolved blobs m) (resolved_before blobs end ms) (keeps m (All-head P m ms all)) rest

  kind_with : (what : RecordContent) → NamesKind what → NamesKind (with_blob blobs what)
  kind_with (Gives kind page pointer) known = tt
  kind_with (NamesBlob kind page lid place) known = by_test (is_some (blobs place)) where
    by_test : (b : Bool) → NamesKind (if b then Gives (log_kind_of kind) page (Blob lid place) else Skipped)
    by_test true = tt
    by_test false = tt
  kind_with Skipped known = tt
  kind_with (BatchStart peg) known = tt

  -- kinds stay known
  pub kinds_with_blobs : (end : ℕ) (ms : List ScannedRecord) → All (λ m. NamesKind m.what) ms → All (λ m. NamesKind m.what) (resolved_before blobs end ms)
  kinds_with_blobs = all_with_blobs (λ m. NamesKind m.what) (λ m known. kind_with m.what known)

-- A vector after its slice was written to.
pub written : {X : Type 0} (n : ℕ) (ns rest : List X) → length ns ≡ n → take n (ns ++ rest) ≡ ns
written n ns rest is = ap (λ k. take k (ns ++ rest)) (sym is) ∙ take-append_seam ns rest

-- what is met among them, by the blobs, is met at another moment between which the device was only read
pub met_still : (P : (ℤ → Option (List ℕ)) → RecordContent → Type 0) (now items : List ScannedRecord) (t u : Trace) → now ≡ items → t ≡ u → MeetsOne (P (state_of t).blobs.file) now → MeetsOne (P (state_of u).blobs.file) items
met_still P now items t u same read met = subst (λ (x : Trace). MeetsOne (P (state_of x).blobs.file) items) read (subst (MeetsOne (P (state_of t).blobs.file)) same met)
