-- Snapshots of a list of numbers are removed one behind another, but the one that is kept.
use Rattle.std.proofs.Common.{◌≡◌, ◌∙◌, ◌+◌, ◌<◌, ℕ, ℤ, List, [], ◌∷◌, ◌++◌, length, get_or, take, drop, sym, ap, subst, take-append-drop}
use Rattle.std.proofs.lemmas.List.Elements.{filter-append, filter_more}
use Rattle.sled_store.specs.Device.{Event, Trace}
use Rattle.sled_store.specs.Script.{Performs, after_all}
use Rattle.sled_log.specs.WritesBack.{removing_snapshots, others, is_other}
use Rattle.sled_store.proofs.Traces.ScriptLemmas.{after_joined, performs_behind, performs_more}
use Rattle.sled_log.proofs.SnapshotFile.CallLemmas.{removing_both}

module _ (kept : ℤ) (ns : List ℤ) (i : ℕ) (d : ℤ) (below : i < length ns) where
  -- those up to a number are those before it, and it
  more : removing_snapshots (others kept (take (i + 1) ns)) ≡ removing_snapshots (others kept (take i ns)) ++ removing_snapshots (others kept (get_or ns i d ∷ []))
  more = ap removing_snapshots (filter_more (is_other kept) ns i d below) ∙ removing_both (others kept (take i ns)) (others kept (get_or ns i d ∷ []))

  -- and all are those and the rest
  all : removing_snapshots (others kept ns) ≡ removing_snapshots (others kept (take (i + 1) ns)) ++ removing_snapshots (others kept (drop (i + 1) ns))
  all =
      ap (λ (l : List ℤ). removing_snapshots (others kept l)) (sym (take-append-drop (i + 1) ns))
      ∙ ap removing_snapshots (filter-append (is_other kept) (take (i + 1) ns) (drop (i + 1) ns))
      ∙ removing_both (others kept (take (i + 1) ns)) (others kept (drop (i + 1) ns))

  module _ (old mid new : Trace) (came : mid ≡ after_all (removing_snapshots (others kept (take i ns))) old) where
    pub removed_more : new ≡ after_all (removing_snapshots (others kept (get_or ns i d ∷ []))) mid → new ≡ after_all (removing_snapshots (others kept (take (i + 1) ns))) old
    removed_more one =
        one
        ∙ ap (after_all (removing_snapshots (others kept (get_or ns i d ∷ [])))) came
        ∙ sym (after_joined (removing_snapshots (others kept (take i ns))) (removing_snapshots (others kept (get_or ns i d ∷ []))) old)
        ∙ ap (λ (es : List Event). after_all es old) (sym more)

    -- where the removal of one failed, the list was begun
    pub removals_begun : Performs (removing_snapshots (others kept (get_or ns i d ∷ []))) mid new → Performs (removing_snapshots (others kept ns)) old new
    removals_begun one =
        let upto : Performs (removing_snapshots (others kept (take (i + 1) ns))) old new =
        subst (λ (es : List Event). Performs es old new) (sym more) (performs_behind (removing_snapshots (others kept (take i ns))) (removing_snapshots (others kept (get_or ns i d ∷ []))) old mid new came one) in
        subst (λ (es : List Event). Performs es old new) (sym all) (performs_more (removing_snapshots (others kept (take (i + 1) ns))) (removing_snapshots (others kept (drop (i + 1) ns))) old new upto)

-- what is so of a number, a list and a trace is so of those that they are
pub of_same : (P : ℤ → List ℤ → Trace → Type 0) (kept kept_as : ℤ) (ns ns_as : List ℤ) (old old_as : Trace) → kept ≡ kept_as → ns ≡ ns_as → old ≡ old_as → P kept ns old → P kept_as ns_as old_as
of_same P kept kept_as ns ns_as old old_as k n o is =
    subst (λ (h : Trace). P kept_as ns_as h) o (subst (λ (l : List ℤ). P kept_as l old) n (subst (λ (m : ℤ). P m ns old) k is))
