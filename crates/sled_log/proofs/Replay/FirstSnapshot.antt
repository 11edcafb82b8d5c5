-- The snapshot that recovery begins from in a recoverable content is a table of the history, and passes.
use Rattle.std.proofs.Common.{◌≡◌, ◌∙◌, ℕ, ℤ, true, false, List, Option, sym, subst, arith, inl, inr}
use Rattle.sled_codec.specs.History.{History, CutFits}
use Rattle.sled_codec.specs.PageTables.{IsTable}
use Rattle.sled_codec.specs.Snapshots.{SnapshotModel, stable_place, empty_model}
use Rattle.sled_store.specs.SnapshotFiles.{BeginsFrom, IsDamagedSnapshot}
use Rattle.sled_store.proofs.Names.Trailers.{one_snapshot}
use Rattle.sled_core.specs.inside.Recoverable.{AreRecoverableSnapshots}
use Rattle.sled_log.proofs.PageTable.TableCuts.{no_pages_at_first}

-- the table below the place of a snapshot, and that place is a cut
abbrev pub IsTableShot : History → SnapshotModel → Type 0
IsTableShot H s = IsTable s.pages H (stable_place s.stable) × CutFits H (stable_place s.stable)

-- that of a log that was never begun is one
empty_is_table : (H : History) → IsTableShot H empty_model
empty_is_table H = (no_pages_at_first H, record { batches = λ b there lt. absurd (omega (arith, lt)); messages = λ m there lt. absurd (omega (arith, lt)) })

module _ (sum : List ℕ → ℕ) (size : ℕ) (snapshots : ℤ → Option (List ℕ)) (H : History) (f : ℕ) (first : SnapshotModel) (are : AreRecoverableSnapshots sum size snapshots H f first) where
  pub first_is_table : IsTableShot H first
  first_is_table = by are.begins where
    by : BeginsFrom sum snapshots first → IsTableShot H first
    by (inl none) = subst (IsTableShot H) (sym none.1) (empty_is_table H)
    by (inr (number, bytes, newest, file, sound)) =
        let listed = are.listed number bytes newest.there in
        subst (IsTableShot H) (one_snapshot sum bytes listed.model first listed.file file) (listed.table, listed.fits)

  -- none is damaged
  pub no_damaged_snapshot : IsDamagedSnapshot sum snapshots → ⊥
  no_damaged_snapshot damaged =
      let listed = are.listed damaged.number damaged.bytes damaged.newest.there in
      let no : true ≡ false = sym listed.sound ∙ damaged.damaged listed.model listed.file in
      cc
