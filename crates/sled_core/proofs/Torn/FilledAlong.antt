-- While the unused slots of a settled log file are filled with zeros: what holds of each state in which some of them may have been written, and once all are synced, holds at each moment.
use Rattle.std.proofs.Common.{◌≡◌, ◌≢◌, ◌<◌, ◌*◌, ◌∙◌, ℕ, true, false, List, [], ◌∷◌, ◌++◌, replicate, map, get_or, refl, sym, ap, arith, subst}
use Rattle.std.specs.List.{All, Contains}
use Rattle.std.proofs.lemmas.List.{length-replicate}
use Rattle.std.proofs.lemmas.List.Elements.{All-tail, All-contains_itself}
use Rattle.sled_codec.specs.Snapshots.{SnapshotModel}
use Rattle.sled_store.specs.Begin.{slots_of, is_used, unused, fill, filling}
use Rattle.sled_store.specs.Device.{Event, LogState, State, at_rest, step, Wrote, Synced}
use Rattle.sled_store.specs.inside.Script.{Along}
use Rattle.sled_store.proofs.Segments.FilledLemmas.{filled, begins_in, free_below}
use Rattle.sled_core.proofs.Torn.FilledSlots.{IsFilling, filling_begins, filling_goes}

-- The slots that a snapshot doesn't use.
module _ (size len : ℕ) (s : SnapshotModel) where
  -- they begin in the file
  pub unused_begin : 0 < size → All (λ k. k * size < len) (unused size (slots_of size len) s)
  unused_begin some = λ k d lt. begins_in size len (get_or (unused size (slots_of size len) s) k d) some (free_below (is_used size s) (slots_of size len) k d lt).0

  -- and none of them is one that it uses
  pub used_apart : (j : ℕ) → is_used size s j ≡ true → All (λ k. k ≢ j) (unused size (slots_of size len) s)
  used_apart j used = λ k d lt same. (let free = (free_below (is_used size s) (slots_of size len) k d lt).1 in let both : true ≡ false = sym used ∙ ap (is_used size s) (sym same) ∙ free in cc)

module _ (P : State → Type 0) (size : ℕ) (old ks : List ℕ) (s : State)
    (during : (x : State) → IsFilling size old ks x.log → x.blobs ≡ s.blobs → x.snapshots ≡ s.snapshots → P x) where
  -- one slot after another is written, and then the file is synced
  fills_along : (done : List ℕ) → All (Contains ks) done → (x : State) → IsFilling size old ks x.log → x.blobs ≡ s.blobs → x.snapshots ≡ s.snapshots
      → ((y : State) → y.log ≡ at_rest (filled size x.log.bytes done) → y.blobs ≡ s.blobs → y.snapshots ≡ s.snapshots → P y) → Along P (map (fill size) done ++ Synced ∷ []) x
  fills_along [] has x is blobs snapshots behind = (during x is blobs snapshots, (λ torn none. absurd none), behind (step Synced x) refl blobs snapshots)
  fills_along (k ∷ done) has x is blobs snapshots behind =
      let this : Contains ks k = has 0 k (omega arith) in (
        during x is blobs snapshots,
        (λ torn tears. let short = tears.1 in
            subst (λ (e : Event). P (step e x)) (sym tears.2)
            (during (step (Wrote (k * size) (replicate size 0) tears.0) x) (filling_goes size old ks x.log is k this tears.0 (omega (arith, short, length-replicate {A = ℕ} size 0))) blobs snapshots)),
        fills_along done (All-tail (Contains ks) k done has) (step (fill size k) x) (filling_goes size old ks x.log is k this (replicate size 0) (omega (arith, length-replicate {A = ℕ} size 0))) blobs snapshots behind,
      )

-- What holds while they are filled, and behind that, holds at each moment.
pub filled_along : (P : State → Type 0) (size : ℕ) (old ks : List ℕ) (s : State) → s.log ≡ at_rest old → ((x : State) → IsFilling size old ks x.log → x.blobs ≡ s.blobs → x.snapshots ≡ s.snapshots → P x)
    → ((x : State) → x.log ≡ at_rest (filled size old ks) → x.blobs ≡ s.blobs → x.snapshots ≡ s.snapshots → P x) → Along P (filling size ks) s
filled_along P size old [] s is during behind = behind s is refl refl
filled_along P size old (k ∷ ks) s is during behind =
    fills_along P size old (k ∷ ks) s during (k ∷ ks) (All-contains_itself (k ∷ ks)) s (subst (IsFilling size old (k ∷ ks)) (sym is) (filling_begins size old (k ∷ ks))) refl refl
    (λ y log blobs snapshots. behind y (log ∙ ap (λ (l : LogState). at_rest (filled size l.bytes (k ∷ ks))) is) blobs snapshots)
