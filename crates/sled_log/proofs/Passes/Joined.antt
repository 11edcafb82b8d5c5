-- The pass over segments and then over the tail behind them: what is met in both, up to the first batch that is open.
use Rattle.std.proofs.Common.{◌≡◌, ◌⊎◌, ◌∙◌, ◌≤◌, ℕ, ℤ, Bool, true, false, nat_lt, List, [], ◌∷◌, ◌++◌, length, map, drop, append_assoc, Option, Some, None, is_some, if◌then◌else◌, refl, sym, ap, subst, arith, inl, inr}
use Rattle.std.proofs.lemmas.List.{length-map, map-append}
use Rattle.sled_codec.specs.declared.result.DiskPtr.{DiskPtr}
use Rattle.sled_codec.specs.Snapshots.{SnapshotModel}
use Rattle.sled_core.specs.declared.iterator.scan.RecordContent.{RecordContent}
use Rattle.sled_core.specs.declared.iterator.Segment.{Segment}
use Rattle.sled_store.proofs.Segments.Elements.{in_first, in_rest}
use Rattle.sled_log.specs.Recovery.{Scanned, Outcome, Damaged, AreScanned, AreReplayed, StopsOrGoesOn, Passes, HasBadBlob, HasDamage, MeetsOne, HaveGoodBlobs, before_open, begun_below, open_at, outcome_of, resolved_scan, slots_in_order}
use Rattle.sled_log.specs.Passes.{AreLookedUp, AreResolved, IsBadPass, MeetsBadPass, OpensLast, PassMeets, up_to_open}
use Rattle.sled_log.proofs.Passes.Blobs.{met_of_all, met_to_all, opens_last}
use Rattle.sled_log.proofs.Replay.BlobLemmas.{met_before, open_resolved}
use Rattle.sled_log.proofs.Replay.PassedLemmas.{whole_passed}

-- What is read of two lists of segments, one behind the other.
module _ (sum : List ℕ → ℕ) (size : ℕ) (log : List ℕ) (end : ℕ) where
  -- segments that were read to their ends
  replayed_scanned : (ts : List Segment) (ys : List Scanned) → AreScanned sum size log ts ys → AreReplayed sum size log end ts (up_to_open end ys)
  replayed_scanned [] [] are = tt
  replayed_scanned [] (y ∷ ys) are = absurd are
  replayed_scanned (t ∷ ts) [] are = absurd are
  replayed_scanned (t ∷ ts) (y ∷ ys) are = by (open_at end y.met) refl (replayed_scanned ts ys are.2) where
    by : (o : Option ℕ) → open_at end y.met ≡ o → AreReplayed sum size log end ts (up_to_open end ys) → AreReplayed sum size log end (t ∷ ts) (if is_some o then y ∷ [] else y ∷ up_to_open end ys)
    by (Some p) is others = (are.0, whole_passed sum size log end y are.1, subst (λ q. StopsOrGoesOn q [] (AreReplayed sum size log end ts [])) (sym is) refl)
    by None is others =
        (are.0, whole_passed sum size log end y are.1, subst (λ q. StopsOrGoesOn q (up_to_open end ys) (AreReplayed sum size log end ts (up_to_open end ys))) (sym is) others)

  -- behind those that the pass reads
  replayed_on : (ss ts : List Segment) (xs ys : List Scanned) → AreReplayed sum size log end ss xs → AreScanned sum size log ts ys → AreReplayed sum size log end (ss ++ ts) (up_to_open end (xs ++ ys))
  replayed_on [] ts [] ys are scanned = replayed_scanned ts ys scanned
  replayed_on [] ts (x ∷ xs) ys are scanned = absurd are
  replayed_on (s ∷ ss) ts [] ys are scanned = absurd are
  replayed_on (s ∷ ss) ts (x ∷ xs) ys are scanned = by (open_at end x.met) refl are.2 (λ on. replayed_on ss ts xs ys on scanned) where
    rest : List Scanned
    rest = up_to_open end (xs ++ ys)

    by : (o : Option ℕ) → open_at end x.met ≡ o → StopsOrGoesOn o xs (AreReplayed sum size log end ss xs) → (AreReplayed sum size log end ss xs → AreReplayed sum size log end (ss ++ ts) rest)
        → AreReplayed sum size log end (s ∷ ss ++ ts) (if is_some o then x ∷ [] else x ∷ rest)
    by (Some p) is on others = (are.0, are.1, subst (λ q. StopsOrGoesOn q [] (AreReplayed sum size log end (ss ++ ts) [])) (sym is) refl)
    by None is on others = (are.0, are.1, subst (λ q. StopsOrGoesOn q rest (AreReplayed sum size log end (ss ++ ts) rest)) (sym is) (others on))

  -- no more of them than there are
  pub replayed_length : (ss : List Segment) (xs : List Scanned) → AreReplayed sum size log end ss xs → length xs ≤ length ss
  replayed_length ss [] are = omega arith
  replayed_length [] (x ∷ xs) are = absurd are
  replayed_length (s ∷ ss) (x ∷ xs) are = by (open_at end x.met) are.2 (replayed_length ss xs) where
    by : (o : Option ℕ) → StopsOrGoesOn o xs (AreReplayed sum size log end ss xs) → (AreReplayed sum size log end ss xs → length xs ≤ length ss) → length (x ∷ xs) ≤ length (s ∷ ss)
    by (Some p) on others = let none : length xs ≡ 0 = ap length on in omega (arith, none)
    by None on others = let le = others on in omega (arith, le)

pub begun_length : (end : ℕ) (ss : List Segment) → length (begun_below end ss) ≤ length ss
begun_length end [] = omega arith
begun_length end (s ∷ ss) = by (nat_lt s.place end) (begun_length end ss) where
  by : (b : Bool) → length (begun_below end ss) ≤ length ss → length (if b then s ∷ begun_below end ss else begun_below end ss) ≤ length (s ∷ ss)
  by true le = omega (arith, le)
  by false le = omega (arith, le)

pub begun_append : (end : ℕ) (ss ts : List Segment) → begun_below end (ss ++ ts) ≡ begun_below end ss ++ begun_below end ts
begun_append end [] ts = refl
begun_append end (s ∷ ss) ts = by (nat_lt s.place end) (begun_append end ss ts) where
  by : (b : Bool) → begun_below end (ss ++ ts) ≡ begun_below end ss ++ begun_below end ts
      → (if b then s ∷ begun_below end (ss ++ ts) else begun_below end (ss ++ ts)) ≡ (if b then s ∷ begun_below end ss else begun_below end ss) ++ begun_below end ts
  by true is = ap (λ (l : List Segment). s ∷ l) is
  by false is = is

-- Their blobs.
module _ (P : RecordContent → Type 0) (end : ℕ) where
  met_joined : (xs ys : List Scanned) → OpensLast end xs → PassMeets P end xs → PassMeets P end (up_to_open end (xs ++ ys))
  met_joined [] ys last met = absurd met
  met_joined (x ∷ xs) ys last met = by (open_at end x.met) last met (met_joined xs ys) where
    by : (o : Option ℕ) → StopsOrGoesOn o xs (OpensLast end xs) → MeetsOne P (before_open end x.met) ⊎ PassMeets P end xs
        → (OpensLast end xs → PassMeets P end xs → PassMeets P end (up_to_open end (xs ++ ys))) → PassMeets P end (if is_some o then x ∷ [] else x ∷ up_to_open end (xs ++ ys))
    by (Some p) on (inl here) others = inl here
    by (Some p) on (inr later) others = absurd (subst (PassMeets P end) on later)
    by None on (inl here) others = inl here
    by None on (inr later) others = inr (others on later)

module _ (sum : List ℕ → ℕ) (blobs : ℤ → Option (List ℕ)) (end : ℕ) where
  fine_behind : (ys : List Scanned) → HaveGoodBlobs sum blobs ys → MeetsBadPass sum blobs end (up_to_open end ys) → ⊥
  fine_behind [] good bad = bad
  fine_behind (y ∷ ys) good bad = by (open_at end y.met) bad (fine_behind ys (λ s there. good s (in_rest y s ys there))) where
    by : (o : Option ℕ) → MeetsBadPass sum blobs end (if is_some o then y ∷ [] else y ∷ up_to_open end ys) → (MeetsBadPass sum blobs end (up_to_open end ys) → ⊥) → ⊥
    by (Some p) (inl here) others = good y (in_first y ys) (met_before (HasBadBlob sum blobs) end y.met here)
    by (Some p) (inr later) others = later
    by None (inl here) others = good y (in_first y ys) (met_before (HasBadBlob sum blobs) end y.met here)
    by None (inr later) others = others later

  fine_joined : (xs ys : List Scanned) → (MeetsBadPass sum blobs end xs → ⊥) → HaveGoodBlobs sum blobs ys → MeetsBadPass sum blobs end (up_to_open end (xs ++ ys)) → ⊥
  fine_joined [] ys fine good bad = fine_behind ys good bad
  fine_joined (x ∷ xs) ys fine good bad = by (open_at end x.met) bad (fine_joined xs ys (λ later. fine (inr later)) good) where
    by : (o : Option ℕ) → MeetsBadPass sum blobs end (if is_some o then x ∷ [] else x ∷ up_to_open end (xs ++ ys)) → (MeetsBadPass sum blobs end (up_to_open end (xs ++ ys)) → ⊥) → ⊥
    by (Some p) (inl here) others = fine (inl here)
    by (Some p) (inr later) others = later
    by None (inl here) others = fine (inl here)
    by None (inr later) others = others later

  -- batches are open where they were
  up_to_resolved : (xs : List Scanned) → up_to_open end (map (resolved_scan blobs end) xs) ≡ map (resolved_scan blobs end) (up_to_open end xs)
  up_to_resolved [] = refl
  up_to_resolved (x ∷ xs) =
      ap (λ o. if is_some o then R x ∷ [] else R x ∷ up_to_open end (map R xs)) (open_resolved blobs end x.met) ∙ by (is_some (open_at end x.met)) (up_to_resolved xs) where
        R : Scanned → Scanned
        R = resolved_scan blobs end

        by : (b : Bool) → up_to_open end (map R xs) ≡ map R (up_to_open end xs) → (if b then R x ∷ [] else R x ∷ up_to_open end (map R xs)) ≡ map R (if b then x ∷ [] else x ∷ up_to_open end xs)
        by true is = refl
        by false is = ap (λ (l : List Scanned). R x ∷ l) is

-- What comes of both.
module _ (sum : List ℕ → ℕ) (size : ℕ) (log : List ℕ) (blobs : ℤ → Option (List ℕ)) (end : ℕ) where
  abbrev R : Scanned → Scanned
  R = resolved_scan blobs end

  pub joined : (ss ts : List Segment) (ps qs all : List Scanned) → AreResolved sum size log blobs end ss ps → AreLookedUp sum size log blobs end ts qs → all ≡ up_to_open end (ps ++ qs) → AreResolved sum size log blobs end (ss ++ ts) all
  joined ss ts ps qs all one two is = record {
    scanned = up_to_open end (one.scanned ++ two.scanned);
    replayed = replayed_on sum size log end ss ts one.scanned two.scanned one.replayed two.are;
    fine = fine_joined sum blobs end one.scanned two.scanned one.fine two.good;
    is = is
        ∙ ap (λ (l : List Scanned). up_to_open end (l ++ qs)) one.is
        ∙ ap (λ (l : List Scanned). up_to_open end (map R one.scanned ++ l)) two.is
        ∙ ap (up_to_open end) (sym (map-append R one.scanned two.scanned))
        ∙ up_to_resolved sum blobs end (one.scanned ++ two.scanned);
  }

  pub bad_on : (ss ts : List Segment) (qs : List Scanned) (at : Option DiskPtr) → IsBadPass sum size log blobs end ss at → AreLookedUp sum size log blobs end ts qs → IsBadPass sum size log blobs end (ss ++ ts) at
  bad_on ss ts qs at (inl (none, damaged)) two = inl (
    none,
    record {
      first = damaged.first;
      segment = damaged.segment;
      rest = damaged.rest ++ ts;
      is = ap (λ (l : List Segment). l ++ ts) damaged.is ∙ append_assoc damaged.first (damaged.segment ∷ damaged.rest) ts;
      before = damaged.before;
      scanned = damaged.scanned;
      closed = damaged.closed;
      met = damaged.met;
      next = damaged.next;
      path = damaged.path;
      not_open = damaged.not_open;
      room = damaged.room;
      damaged = damaged.damaged;
    },
  )
  bad_on ss ts qs at (inr (xs, are, bad)) two =
      inr (up_to_open end (xs ++ two.scanned), replayed_on sum size log end ss ts xs two.scanned are two.are, met_joined (HasDamage sum blobs at) end xs two.scanned (opens_last sum size log end ss xs are) bad)

  module _ (first : SnapshotModel) (ordering : List Segment) where
    -- what comes of segments with their blobs
    pub passes_of : (ps : List Scanned) (o : Outcome) → AreResolved sum size log blobs end (begun_below end ordering) ps → outcome_of size first end ps (slots_in_order (drop (length ps) ordering)) ≡ o → Passes sum size log blobs first ordering (Some end) o
    passes_of ps o are comes =
        let long : length ps ≡ length are.scanned = ap length are.is ∙ length-map are.scanned R in
        inr (
          are.scanned,
          are.replayed,
          inr (
            λ bad. are.fine (met_of_all (HasBadBlob sum blobs) end are.scanned (opens_last sum size log end (begun_below end ordering) are.scanned are.replayed) bad),
            sym comes ∙ ap (λ (l : List Scanned). outcome_of size first end l (slots_in_order (drop (length ps) ordering))) are.is
                ∙ ap (λ n. outcome_of size first end (map R are.scanned) (slots_in_order (drop n ordering))) long,
          ),
        )

    -- where one of them is damaged, or a blob doesn't pass
    pub passes_damaged : (at : Option DiskPtr) → IsBadPass sum size log blobs end (begun_below end ordering) at → Passes sum size log blobs first ordering (Some end) (Damaged at)
    passes_damaged at (inl (none, damaged)) = inl (ap Damaged none, damaged)
    passes_damaged at (inr (xs, are, bad)) = inr (xs, are, inl (at, refl, met_to_all (HasDamage sum blobs at) end xs (opens_last sum size log end (begun_below end ordering) xs are) bad))

  -- no more of them than there are
  pub resolved_length : (ordering : List Segment) (ps : List Scanned) → AreResolved sum size log blobs end (begun_below end ordering) ps → length ps ≤ length ordering
  resolved_length ordering ps are =
      let long : length ps ≡ length are.scanned = ap length are.is ∙ length-map are.scanned R in
      let read = replayed_length sum size log end (begun_below end ordering) are.scanned are.replayed in
      let begun = begun_length end ordering in
      omega (arith, long, read, begun)
