-- The pass over all segments that begin below the end of a tail, and what comes of it.
use Rattle.std.proofs.Common.{◌≡◌, ◌∙◌, ◌+◌, ◌≤◌, ℕ, ℤ, List, [], ◌∷◌, ◌++◌, length, map, take, drop, Option, Some, None, refl, sym, ap, subst, arith, length-take, length-drop}
use Rattle.std.specs.List.{All}
use Rattle.std.proofs.lemmas.List.{length-map}
use Rattle.std.proofs.lemmas.List.Elements.{All-same}
use Rattle.sled_codec.specs.declared.result.DiskPtr.{DiskPtr}
use Rattle.sled_codec.specs.Snapshots.{SnapshotModel}
use Rattle.sled_core.specs.declared.iterator.Segment.{Segment}
use Rattle.sled_store.specs.declared.config.Config.{Config}
use Rattle.sled_log.specs.declared.snapshot.pass.Pass.{Pass}
use Rattle.sled_log.specs.declared.snapshot.pass.Replay.{Replay}
use Rattle.sled_log.specs.Recovery.{AreScanned, Scanned, Outcome, Passes, resolved_scan, begun_below, outcome_of, slots_in_order}
use Rattle.sled_log.specs.Passes.{AreLookedUp, AreResolved, IsBadPass, IsPass, IsReplay, pass_of, up_to_open}
use Rattle.sled_log.proofs.Passes.Ascending.{begun_split}
use Rattle.sled_log.proofs.Passes.Joined.{bad_on, begun_length, joined, passes_of, resolved_length}

-- as many as there are segments
scanned_length : (sum : List ℕ → ℕ) (size : ℕ) (log : List ℕ) (ss : List Segment) (xs : List Scanned) → AreScanned sum size log ss xs → length xs ≡ length ss
scanned_length sum size log [] [] are = refl
scanned_length sum size log [] (x ∷ xs) are = absurd are
scanned_length sum size log (s ∷ ss) [] are = absurd are
scanned_length sum size log (s ∷ ss) (x ∷ xs) are = let rest = scanned_length sum size log ss xs are.2 in omega (arith, rest)

module _ (sum : List ℕ → ℕ) (size : ℕ) (log : List ℕ) (blobs : ℤ → Option (List ℕ)) (end : ℕ) (ss : List Segment) where
  -- segments before an index, and the tail from it on
  pub joined_all : (n : ℕ) (ps qs all : List Scanned) → AreResolved sum size log blobs end (begun_below end (take n ss)) ps → AreLookedUp sum size log blobs end (begun_below end (drop n ss)) qs → all ≡ up_to_open end (ps ++ qs)
      → AreResolved sum size log blobs end (begun_below end ss) all
  joined_all n ps qs all one two is =
      subst (λ (l : List Segment). AreResolved sum size log blobs end l all) (sym (begun_split end n ss)) (joined sum size log blobs end (begun_below end (take n ss)) (begun_below end (drop n ss)) ps qs all one two is)

  pub bad_all : (n : ℕ) (qs : List Scanned) (at : Option DiskPtr) → IsBadPass sum size log blobs end (begun_below end (take n ss)) at → AreLookedUp sum size log blobs end (begun_below end (drop n ss)) qs → IsBadPass sum size log blobs end (begun_below end ss) at
  bad_all n qs at bad two =
      subst (λ (l : List Segment). IsBadPass sum size log blobs end l at) (sym (begun_split end n ss)) (bad_on sum size log blobs end (begun_below end (take n ss)) (begun_below end (drop n ss)) qs at bad two)

  -- the segments of a pass that met no blob which doesn't pass
  pub resolved_of : (first : SnapshotModel) (segments : List Segment) (r : Replay) (all : IsReplay sum size log blobs end first segments None r) → AreResolved sum size log blobs end segments (map (resolved_scan blobs end) all.passes)
  resolved_of first segments r all = record { scanned = all.passes; replayed = all.replayed; fine = all.so_far.fine.0; is = refl }

  -- no more of them than there are segments
  pub count_within : (first : SnapshotModel) (n : ℕ) (r : Replay) → IsReplay sum size log blobs end first (begun_below end (take n ss)) None r → r.count ≤ length (take n ss)
  count_within first n r all =
      let made = all.so_far.fine.1 in
      let long = resolved_length sum size log blobs end (take n ss) (map (resolved_scan blobs end) all.passes) (resolved_of first (begun_below end (take n ss)) r all) in
      omega (arith, made.count, long)

  pub tail_within : (n : ℕ) (tail : List Pass) → AreLookedUp sum size log blobs end (begun_below end (drop n ss)) (map pass_of tail) → length tail ≤ length (drop n ss)
  tail_within n tail are =
      let own = length-map tail pass_of in
      let long : length (map pass_of tail) ≡ length are.scanned = ap length are.is ∙ length-map are.scanned (resolved_scan blobs end) in
      let each = scanned_length sum size log (begun_below end (drop n ss)) are.scanned are.are in
      let begun = begun_length end (drop n ss) in
      omega (arith, own, long, each, begun)

  -- of segments before an index and of the tail from it on
  pub both_within : (first : SnapshotModel) (n : ℕ) (r : Replay) (tail : List Pass) → n ≤ length ss → IsReplay sum size log blobs end first (begun_below end (take n ss)) None r
      → AreLookedUp sum size log blobs end (begun_below end (drop n ss)) (map pass_of tail) → r.count + length tail ≤ length ss
  both_within first n r tail le all are =
      let one = count_within first n r all in
      let two = tail_within n tail are in
      let front = length-take n ss in
      let back = length-drop n ss in
      omega (arith, one, two, front, back, le)

-- what comes of them, of the configuration before a call that left it as it was
pub passes_by : (sum : List ℕ → ℕ) (old new : Config) (log : List ℕ) (blobs : ℤ → Option (List ℕ)) (end : ℕ) (first : SnapshotModel) (ss : List Segment) (ps : List Scanned) (o : Outcome) → new ≡ old
    → AreResolved sum old.segment_size log blobs end (begun_below end ss) ps → outcome_of new.segment_size first end ps (slots_in_order (drop (length ps) ss)) ≡ o → Passes sum old.segment_size log blobs first ss (Some end) o
passes_by sum old new log blobs end first ss ps o same are comes =
    passes_of sum old.segment_size log blobs end first ss ps o are (subst (λ (c : Config). outcome_of c.segment_size first end ps (slots_in_order (drop (length ps) ss)) ≡ o) same comes)

-- they fit that configuration
pub fits_by : (old new : Config) (ps qs : List Pass) → new ≡ old → qs ≡ ps → All (IsPass old.segment_size) ps → All (IsPass new.segment_size) qs
fits_by old new ps qs same is fits = subst (λ (c : Config). All (IsPass c.segment_size) qs) (sym same) (All-same (IsPass old.segment_size) qs ps is fits)
