-- A pass over segments, as far as it has come.
use Rattle.std.proofs.Common.{◌≡◌, ◌∙◌, ◌+◌, ◌<◌, ◌≤◌, ℕ, ℤ, Bool, true, false, nat_lt, List, [], ◌∷◌, ◌++◌, length, map, drop, get_or, append_assoc, Option, Some, None, Err, IfSome, is_some, if◌then◌else◌, refl, sym, ap, subst, arith, inl, inr}
use Rattle.std.proofs.lemmas.Bool.Decides.{nat_tests}
use Rattle.std.proofs.lemmas.List.{append-nil, drop_all, map-append}
use Rattle.sled_codec.specs.declared.result.DiskPtr.{DiskPtr}
use Rattle.sled_codec.specs.declared.result.Error.{Error}
use Rattle.sled_codec.specs.declared.result.Error.TheVariants.{Corruption, Unsupported, Io, OutOfMemory, Held, NotReserved, PlacesUsedUp, CollectionNotFound, ReportableBug}
use Rattle.sled_codec.specs.Snapshots.{SnapshotModel}
use Rattle.sled_store.specs.Blobs.{ItemAnswers, NamesDamage, OnDamage}
use Rattle.sled_core.specs.declared.iterator.scan.RecordContent.{RecordContent}
use Rattle.sled_core.specs.declared.iterator.Segment.{Segment}
use Rattle.sled_log.specs.declared.snapshot.pass.Replay.{Replay}
use Rattle.sled_log.specs.Recovery.{AreClosed, AreReplayed, AreScanned, IsDamagedPass, IsReplayed, Scanned, before_open, begun_below, open_at, resolved_scan, HasDamage, MeetsBadBlob, MeetsOne, NamesBadBlob}
use Rattle.sled_log.specs.Passes.{GoesOnBehind, HasMade, IsBadPass, IsDamagedBefore, IsOfBlob, IsReplay, IsSoFar, MeetsBadPass, NamesBadPass, PassMeets, up_to_open}
use Rattle.sled_log.proofs.Passes.Behind.{behind}
use Rattle.sled_log.proofs.Passes.Replays.{made_open, up_to_here}
use Rattle.sled_log.proofs.Passes.TailRead.{scanned_more}
use Rattle.sled_log.proofs.Passes.Tails.{begun_here, closed_more, damaged_behind, passed_behind, passed_open}
use Rattle.sled_log.proofs.Replay.BlobLemmas.{open_resolved}
use Rattle.sled_log.proofs.Replay.PassedLemmas.{passed_whole}

-- with their blobs no batch is open either
pub closed_resolved : (blobs : ℤ → Option (List ℕ)) (end : ℕ) (xs : List Scanned) → AreClosed end xs → AreClosed end (map (resolved_scan blobs end) xs)
closed_resolved blobs end [] closed = tt
closed_resolved blobs end (x ∷ xs) closed = (open_resolved blobs end x.met ∙ closed.0, closed_resolved blobs end xs closed.1)

-- a segment that does not begin below a place
begun_not_here : (end : ℕ) (ss : List Segment) (i : ℕ) (d : Segment) → i < length ss → end ≤ (get_or ss i d).place → begun_below end (drop i ss) ≡ begun_below end (drop (i + 1) ss)
begun_not_here end ss i d lt above =
    let s : Segment = get_or ss i d in
    let is : nat_lt s.place end ≡ false = grind (arith, nat_tests, above) in
    ap (begun_below end) (behind ss i d lt) ∙ ap (λ (b : Bool). if b then s ∷ begun_below end (drop (i + 1) ss) else begun_below end (drop (i + 1) ss)) is

-- Blobs that don't pass, in one more segment.
module _ (P : RecordContent → Type 0) (end : ℕ) where
  pub meets_before : (xs ys : List Scanned) → PassMeets P end xs → PassMeets P end (xs ++ ys)
  meets_before [] ys meets = absurd meets
  meets_before (x ∷ xs) ys (inl here) = inl here
  meets_before (x ∷ xs) ys (inr later) = inr (meets_before xs ys later)

  pub meets_last : (xs : List Scanned) (x : Scanned) → MeetsOne P (before_open end x.met) → PassMeets P end (xs ++ x ∷ [])
  meets_last [] x bad = inl bad
  meets_last (y ∷ xs) x bad = inr (meets_last xs x bad)

-- the error of a blob, where more is known of what it names
of_blob_as : (sum : List ℕ → ℕ) (blobs : ℤ → Option (List ℕ)) (P Q : Option DiskPtr → Type 0) (e : Error) → ((at : Option DiskPtr) → P at → Q at) → IsOfBlob sum blobs P e → IsOfBlob sum blobs Q e
of_blob_as sum blobs P Q (Corruption at) so names = (names.0, so at names.1)
of_blob_as sum blobs P Q (Unsupported text) so names = absurd names
of_blob_as sum blobs P Q (Io io) so names = absurd names
of_blob_as sum blobs P Q OutOfMemory so names = absurd names
of_blob_as sum blobs P Q (Held place) so names = absurd names
of_blob_as sum blobs P Q (NotReserved place) so names = absurd names
of_blob_as sum blobs P Q PlacesUsedUp so names = absurd names
of_blob_as sum blobs P Q (CollectionNotFound name) so names = absurd names
of_blob_as sum blobs P Q (ReportableBug text) so names = absurd names

module _ (sum : List ℕ → ℕ) (blobs : ℤ → Option (List ℕ)) (end : ℕ) where
  pub meets_none : (xs : List Scanned) (x : Scanned) → (MeetsBadPass sum blobs end xs → ⊥) → (MeetsBadBlob sum blobs (before_open end x.met) → ⊥) → MeetsBadPass sum blobs end (xs ++ x ∷ []) → ⊥
  meets_none [] x fine own (inl here) = own here
  meets_none [] x fine own (inr later) = later
  meets_none (y ∷ xs) x fine own (inl here) = fine (inl here)
  meets_none (y ∷ xs) x fine own (inr later) = meets_none xs x (λ bad. fine (inr bad)) own later

  -- what was bad stays so
  pub so_far_bad : (first : SnapshotModel) (xs : List Scanned) (x : Scanned) (bad : Option Error) (r : Replay) → is_some bad ≡ true → IsSoFar sum blobs end first xs bad r → IsSoFar sum blobs end first (xs ++ x ∷ []) bad r
  so_far_bad first xs x None r some so = absurd (cc)
  so_far_bad first xs x (Some e) r some so = record {
    meets = of_blob_as sum blobs (NamesBadPass sum blobs end xs) (NamesBadPass sum blobs end (xs ++ x ∷ [])) e (λ at. meets_before (HasDamage sum blobs at) end xs (x ∷ [])) so.meets;
    fine = tt;
  }

  -- a blob that doesn't pass is met
  pub so_far_meets : (first : SnapshotModel) (xs : List Scanned) (x : Scanned) (at : Option DiskPtr) (r : Replay) → NamesDamage sum blobs at → NamesBadBlob sum blobs (before_open end x.met) at
      → IsSoFar sum blobs end first (xs ++ x ∷ []) (Some (Corruption at)) r
  so_far_meets first xs x at r names bad = record { meets = (names, meets_last (HasDamage sum blobs at) end xs x bad); fine = tt }

  -- all of them pass
  pub so_far_fine : (first : SnapshotModel) (xs : List Scanned) (x : Scanned) (bad : Option Error) (r s : Replay) → is_some bad ≡ false → IsSoFar sum blobs end first xs bad r → (MeetsBadBlob sum blobs (before_open end x.met) → ⊥)
      → (HasMade end first (map (resolved_scan blobs end) xs) r → HasMade end first (map (resolved_scan blobs end) xs ++ resolved_scan blobs end x ∷ []) s) → IsSoFar sum blobs end first (xs ++ x ∷ []) None s
  so_far_fine first xs x (Some e) r s none so own makes = absurd (cc)
  so_far_fine first xs x None r s none so own makes = record {
    meets = tt;
    fine = (meets_none xs x so.fine.0 own, subst (λ (l : List Scanned). HasMade end first l s) (sym (map-append (resolved_scan blobs end) xs (x ∷ []))) (makes so.fine.1));
  }

  -- it is what was made by a pass that goes no further
  pub so_far_open : (first : SnapshotModel) (xs : List Scanned) (bad : Option Error) (r s : Replay) → s.snapshot ≡ r.snapshot → s.has_no_table ≡ r.has_no_table → s.stop ≡ r.stop → s.count ≡ r.count
      → IsSoFar sum blobs end first xs bad r → IsSoFar sum blobs end first xs bad s
  so_far_open first xs (Some e) r s snapshot no_table stop count so = record { meets = so.meets; fine = tt }
  so_far_open first xs None r s snapshot no_table stop count so = record { meets = tt; fine = (so.fine.0, made_open end first (map (resolved_scan blobs end) xs) r s snapshot no_table stop count so.fine.1) }

-- The pass over the first ones of these segments, in none of which a batch is open.
pub record IsPassSoFar (sum : List ℕ → ℕ) (size : ℕ) (log : List ℕ) (blobs : ℤ → Option (List ℕ)) (end : ℕ) (segments : List Segment) (before : Replay) (i : ℕ) (bad : Option Error) (r : Replay) : Type 0 where
  pub passes : List Scanned
  pub split : begun_below end segments ≡ map (λ x. x.segment) passes ++ begun_below end (drop i segments)
  pub scanned : AreScanned sum size log (map (λ x. x.segment) passes) passes
  pub closed : AreClosed end passes
  pub so_far : (first : SnapshotModel) → HasMade end first [] before → IsSoFar sum blobs end first passes bad r

module _ (sum : List ℕ → ℕ) (size : ℕ) (log : List ℕ) (blobs : ℤ → Option (List ℕ)) (end : ℕ) (ss : List Segment) (before : Replay) where
  abbrev So : ℕ → Option Error → Replay → Type 0
  So = IsPassSoFar sum size log blobs end ss before

  abbrev own : Scanned → Segment
  own x = x.segment

  abbrev R : Scanned → Scanned
  R = resolved_scan blobs end

  pub begins : So 0 None before
  begins = record { passes = []; split = refl; scanned = tt; closed = tt; so_far = λ first made. record { meets = tt; fine = (λ bad. bad, made) } }

  -- no segment is left
  pub ends : (i : ℕ) (bad : Option Error) (r : Replay) → length ss ≤ i → r.is_open ≡ false → So i bad r → (first : SnapshotModel) → HasMade end first [] before → IsReplay sum size log blobs end first (begun_below end ss) bad r
  ends i bad r past closed so first made =
      let ps : List Scanned = so.passes in
      let nothing : begun_below end (drop i ss) ≡ [] = ap (begun_below end) (drop_all i ss past) in
      let whole : begun_below end ss ≡ map own ps ++ [] = so.split ∙ ap (λ (l : List Segment). map own ps ++ l) nothing in
      record {
        passes = ps;
        replayed = subst (λ (l : List Segment). AreReplayed sum size log end l ps) (sym whole)
            (subst (λ (l : List Scanned). AreReplayed sum size log end (map own ps ++ []) l) (append-nil ps) (passed_behind sum size log end (map own ps) [] ps [] so.scanned so.closed tt));
        so_far = so.so_far first made;
        goes_on = subst (λ b. GoesOnBehind end b (map R ps)) (sym closed) (closed_resolved blobs end ps so.closed);
      }

  module _ (i : ℕ) (d : Segment) (lt : i < length ss) where
    pub skips : (bad : Option Error) (r : Replay) → end ≤ (get_or ss i d).place → So i bad r → So (i + 1) bad r
    skips bad r above so = record {
      passes = so.passes;
      split = so.split ∙ ap (λ (l : List Segment). map own so.passes ++ l) (begun_not_here end ss i d lt above);
      scanned = so.scanned;
      closed = so.closed;
      so_far = so.so_far;
    }

    module _ (below : (get_or ss i d).place < end) (bad : Option Error) (r : Replay) (so : So i bad r) where
      abbrev ps : List Scanned
      ps = so.passes

      abbrev rest : List Segment
      rest = begun_below end (drop (i + 1) ss)

      whole : begun_below end ss ≡ map own ps ++ get_or ss i d ∷ rest
      whole = so.split ∙ ap (λ (l : List Segment). map own ps ++ l) (begun_here end ss i d lt below)

      pub stops_damaged : IsDamagedBefore sum size log end (get_or ss i d) → IsDamagedPass sum size log end (begun_below end ss)
      stops_damaged damaged = damaged_behind sum size log end (begun_below end ss) (map own ps) rest (get_or ss i d) ps whole so.scanned so.closed damaged

      -- one more segment
      module _ (x : Scanned) (is : x.segment ≡ get_or ss i d) (replayed : IsReplayed sum size log end x) (now : Option Error) (s : Replay)
          (more : (first : SnapshotModel) (passes : List Scanned) → AreClosed end passes → IsSoFar sum blobs end first passes bad r → IsSoFar sum blobs end first (passes ++ x ∷ []) now s) where
        pub goes_on : open_at end x.met ≡ None → So (i + 1) now s
        goes_on none = record {
          passes = ps ++ x ∷ [];
          split = whole
              ∙ ap (λ (y : Segment). map own ps ++ y ∷ rest) (sym is)
              ∙ sym (append_assoc (map own ps) (x.segment ∷ []) rest)
              ∙ ap (λ (l : List Segment). l ++ rest) (sym (map-append own ps (x ∷ [])));
          scanned = subst (λ (l : List Segment). AreScanned sum size log l (ps ++ x ∷ [])) (sym (map-append own ps (x ∷ [])))
              (scanned_more sum size log (map own ps) ps x.segment x so.scanned refl (passed_whole sum size log end x replayed none));
          closed = closed_more end ps x so.closed none;
          so_far = λ first made. more first ps so.closed (so.so_far first made);
        }

        pub stops_open : is_some (open_at end x.met) ≡ true → (t : Replay) → t.snapshot ≡ s.snapshot → t.has_no_table ≡ s.has_no_table → t.stop ≡ s.stop → t.count ≡ s.count → t.is_open ≡ true
            → (first : SnapshotModel) → HasMade end first [] before → IsReplay sum size log blobs end first (begun_below end ss) now t
        stops_open some t snapshot no_table stop count opened first made =
            let mapped : map R (ps ++ x ∷ []) ≡ map R ps ++ R x ∷ [] = map-append R ps (x ∷ []) in
            let ended : (ys : List Scanned) → up_to_open end ((map R ps ++ R x ∷ []) ++ ys) ≡ map R ps ++ R x ∷ [] =
            λ ys. ap (up_to_open end) (append_assoc (map R ps) (R x ∷ []) ys) ∙ up_to_here end (map R ps) ys (R x) (closed_resolved blobs end ps so.closed) (ap is_some (open_resolved blobs end x.met) ∙ some) in
            record {
              passes = ps ++ x ∷ [];
              replayed = subst (λ (l : List Segment). AreReplayed sum size log end l (ps ++ x ∷ [])) (sym whole)
                  (passed_behind sum size log end (map own ps) (get_or ss i d ∷ rest) ps (x ∷ []) so.scanned so.closed (passed_open sum size log end (get_or ss i d) rest x is replayed some));
              so_far = so_far_open sum blobs end first (ps ++ x ∷ []) now s t snapshot no_table stop count (more first ps so.closed (so.so_far first made));
              goes_on = subst (λ b. GoesOnBehind end b (map R (ps ++ x ∷ []))) (sym opened) (subst (λ (l : List Scanned). (ys : List Scanned) → up_to_open end (l ++ ys) ≡ l) (sym mapped) ended);
            }

-- A pass that met a blob which doesn't pass for its record.
module _ (sum : List ℕ → ℕ) (blobs : ℤ → Option (List ℕ)) where
  pub replay_bad : (size : ℕ) (log : List ℕ) (end : ℕ) (first : SnapshotModel) (segments : List Segment) (bad : Option Error) (e : Error) (r : Replay) → bad ≡ Some e → IsReplay sum size log blobs end first segments bad r
      → IsOfBlob sum blobs (IsBadPass sum size log blobs end segments) e
  replay_bad size log end first segments bad e r is all =
      let meets = subst (λ (o : Option Error). IfSome o (IsOfBlob sum blobs (NamesBadPass sum blobs end all.passes))) is all.so_far.meets in
      of_blob_as sum blobs (NamesBadPass sum blobs end all.passes) (IsBadPass sum size log blobs end segments) e (λ at met. inr (all.passes, all.replayed, met)) meets

  -- what damage names then
  pub damage_of : (T : Type 0) (names : Option DiskPtr → Type 0) (e : Error) → IsOfBlob sum blobs names e → OnDamage {T = T} (Err e) names
  damage_of T names (Corruption at) is = is.1
  damage_of T names (Unsupported text) is = tt
  damage_of T names (Io io) is = tt
  damage_of T names OutOfMemory is = tt
  damage_of T names (Held place) is = tt
  damage_of T names (NotReserved place) is = tt
  damage_of T names PlacesUsedUp is = tt
  damage_of T names (CollectionNotFound name) is = tt
  damage_of T names (ReportableBug text) is = tt

  pub answers_of : (T : Type 0) (may : Option DiskPtr → Type 0) (e : Error) (before after : ℕ) → IsOfBlob sum blobs may e → after ≡ before → ItemAnswers {T = T} sum blobs (Err e) before after
  answers_of T may (Corruption at) before after names same = (same, names.0)
  answers_of T may (Unsupported text) before after names same = absurd names
  answers_of T may (Io io) before after names same = absurd names
  answers_of T may OutOfMemory before after names same = absurd names
  answers_of T may (Held place) before after names same = absurd names
  answers_of T may (NotReserved place) before after names same = absurd names
  answers_of T may PlacesUsedUp before after names same = absurd names
  answers_of T may (CollectionNotFound name) before after names same = absurd names
  answers_of T may (ReportableBug text) before after names same = absurd names
