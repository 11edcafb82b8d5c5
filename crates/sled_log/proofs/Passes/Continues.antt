-- Recovery as a whole: what comes of its steps.
use Rattle.std.proofs.Common.{◌≡◌, ◌∙◌, ◌-◌, ◌*◌, ◌/◌, ◌<◌, ap, ℕ, ℤ, List, Option, Some, None, length, take, drop, refl, sym, subst, arith, inl, inr}
use Rattle.std.specs.List.{All}
use Rattle.sled_codec.specs.declared.result.DiskPtr.{DiskPtr}
use Rattle.sled_codec.specs.Snapshots.{SnapshotModel, stable_place}
use Rattle.sled_store.specs.Device.{Content}
use Rattle.sled_store.specs.SnapshotFiles.{BeginsFrom, IsDamagedSnapshot}
use Rattle.sled_core.specs.declared.iterator.Segment.{Segment}
use Rattle.sled_log.specs.Recovery.{Scanned, IsOrdering, IsUnordered, IsTail, IsDamagedTail, tail_begins, tail_end, HaveGoodBlobs, Passes, Outcome, Recovered, Damaged, unchanged, slots_in_order, least_place, ContinuesFrom, Recovers}
use Rattle.sled_log.specs.Passes.{NamesBadTail, PassesBehind}
use Rattle.sled_log.proofs.Passes.WholeTail.{damaged_blob, damaged_of_all, none_bad, sliced, tail_of_all}

-- where the tail begins, from the place that a snapshot ends with
pub begins_there : (size stable begin : ℕ) (first : SnapshotModel) (ss : List Segment) → begin ≡ tail_begins size (stable / size * size) ss → stable ≡ stable_place first.stable → begin ≡ tail_begins size (least_place size first) ss
begins_there size stable begin first ss is same = is ∙ ap (λ n. tail_begins size (n / size * size) ss) same

module _ (sum : List ℕ → ℕ) (size : ℕ) (log : List ℕ) (blobs : ℤ → Option (List ℕ)) (first : SnapshotModel) where
  -- segments that can't be of one log
  pub comes_unordered : IsUnordered sum size log (least_place size first) → ContinuesFrom sum size log blobs first (Damaged None)
  unfolding ContinuesFrom
  comes_unordered bad = inl (refl, bad)

  module _ (ordering : List Segment) (are : IsOrdering sum size log (least_place size first) ordering) where
    -- a damaged record in the tail, or one whose blob doesn't pass for it
    pub comes_damaged : (name : Option DiskPtr) → IsDamagedTail sum size log blobs ordering (tail_begins size (least_place size first) ordering) name → ContinuesFrom sum size log blobs first (Damaged name)
    unfolding ContinuesFrom
    comes_damaged name damaged = inr (ordering, are, inl (name, refl, damaged))

    module _ (scanned : List Scanned) (tail : IsTail sum size log ordering (tail_begins size (least_place size first) ordering) scanned) (good : HaveGoodBlobs sum blobs scanned) where
      -- no tail
      pub comes_unchanged : tail_end scanned ≡ None → ContinuesFrom sum size log blobs first (Recovered (unchanged first (slots_in_order ordering)))
      unfolding ContinuesFrom
      comes_unchanged none = inr (ordering, are, inr (scanned, tail, good, subst (λ e. Passes sum size log blobs first ordering e (Recovered (unchanged first (slots_in_order ordering)))) (sym none) refl))

      -- what comes of the pass
      pub comes_passing : (end : ℕ) → tail_end scanned ≡ Some end → (o : Outcome) → Passes sum size log blobs first ordering (Some end) o → ContinuesFrom sum size log blobs first o
      unfolding ContinuesFrom
      comes_passing end ends o passes = inr (ordering, are, inr (scanned, tail, good, subst (λ e. Passes sum size log blobs first ordering e o) (sym ends) passes))

    -- The tail was read of the segments from an index on.
    module _ {stable begin : ℕ} (at : begin ≡ tail_begins size (stable / size * size) ordering) (ends : stable ≡ stable_place first.stable) where
      begins : begin ≡ tail_begins size (least_place size first) ordering
      begins = begins_there size stable begin first ordering at ends

      -- It is damaged,
      pub behind_damaged : (n : ℕ) (name : Option DiskPtr) → IsDamagedTail sum size log blobs (take (length ordering - n) (drop n ordering)) begin name
          → ContinuesFrom sum size log blobs first (Damaged name)
      behind_damaged n name damaged =
          let all = subst (λ (l : List Segment). IsDamagedTail sum size log blobs l begin name) (sliced ordering n) damaged in
          comes_damaged name (subst (λ k. IsDamagedTail sum size log blobs ordering k name) begins (damaged_of_all sum size log blobs n ordering begin name all))

      -- or was read to its end, and none of those before the index lies where it begins, or behind that.
      module _ (n : ℕ) (scanned : List Scanned) (below : All (λ s. s.place < begin) (take n ordering))
          (tail : IsTail sum size log (take (length ordering - n) (drop n ordering)) begin scanned) where
        whole : IsTail sum size log ordering begin scanned
        whole = tail_of_all sum size log n begin ordering below begin scanned (omega arith)
            (subst (λ (l : List Segment). IsTail sum size log l begin scanned) (sliced ordering n) tail)

        its_tail : IsTail sum size log ordering (tail_begins size (least_place size first) ordering) scanned
        its_tail = subst (λ k. IsTail sum size log ordering k scanned) begins whole

        pub behind_bad : (name : Option DiskPtr) → NamesBadTail sum blobs scanned name → ContinuesFrom sum size log blobs first (Damaged name)
        behind_bad name bad =
            let damaged = damaged_blob sum size log blobs ordering begin scanned name whole bad in
            comes_damaged name (subst (λ k. IsDamagedTail sum size log blobs ordering k name) begins damaged)

        pub behind_unchanged : tail_end scanned ≡ None → ContinuesFrom sum size log blobs first (Recovered (unchanged first (slots_in_order ordering)))
        behind_unchanged none = comes_unchanged scanned its_tail (none_bad sum blobs scanned none) none

        pub behind_passing : (end : ℕ) → tail_end scanned ≡ Some end → (o : Outcome) → PassesBehind sum size log blobs first ordering end scanned o
            → ContinuesFrom sum size log blobs first o
        behind_passing end found o passes = comes_passing scanned its_tail passes.0 end found o passes.1

-- From the newest snapshot on.
module _ (sum : List ℕ → ℕ) (size : ℕ) (content : Content) where
  pub recovers_from : (first : SnapshotModel) (o : Outcome) → BeginsFrom sum content.snapshots first → ContinuesFrom sum size content.log content.blobs first o → Recovers sum size content o
  unfolding Recovers
  recovers_from first o begins comes = inr (first, begins, comes)

  pub recovers_damaged : IsDamagedSnapshot sum content.snapshots → Recovers sum size content (Damaged None)
  unfolding Recovers
  recovers_damaged damaged = inl (refl, damaged)
