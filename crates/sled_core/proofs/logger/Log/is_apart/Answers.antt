-- It is asked of the batches that aren't wholly on the device by the two places as code reads them.
use Rattle.std.proofs.Common.{◌≡◌, ◌⊎◌, subst, sym, ℕ, ℤ, w64, to_z, of_z, FitsSigned, map}
use Rattle.std.specs.Prelude.{pos, ◌<ℤ◌}
use Rattle.std.specs.List.{Contains}
use Rattle.std.proofs.lemmas.Int.{to_z-of_z}
use Rattle.sled_codec.specs.History.{Batch}
use Rattle.sled_core.specs.OpenBatches.{batch_of, not_whole}
use Rattle.sled_core.proofs.logger.Log.is_apart.Goals as goal

as_read : (F : ℤ → ℤ → Type 0) (low peg : ℤ) → FitsSigned w64 low → FitsSigned w64 peg → F (to_z w64 (of_z w64 low)) (to_z w64 (of_z w64 peg)) ≡ F low peg
as_read F low peg low_fits peg_fits = λ i. F (to_z-of_z w64 low low_fits i) (to_z-of_z w64 peg peg_fits i)

pub returns : goal.returns
returns g c =
    let xs = c.args.self.now.batches.noted.items in
    let end = c.synced_end.result in
    let F : ℕ → ℤ → ℤ → Type 0 = λ n low peg. (b : Batch) → Contains (not_whole n (map batch_of xs)) b → (pos b.peg <ℤ low) ⊎ (peg <ℤ pos b.low) in
    let same : F end (to_z w64 (of_z w64 c.args.low)) (to_z w64 (of_z w64 c.args.peg)) ≡ F end c.args.low c.args.peg = as_read (F end) c.args.low c.args.peg c.ranges.low c.ranges.peg in
    let is = c.synced_end.ensures.is in (
      λ yes. subst (λ (n : ℕ). F n c.args.low c.args.peg) is (subst (λ (X : Type 0). X) same (c.all_apart.ensures.0 yes)),
      λ all. c.all_apart.ensures.1 (subst (λ (X : Type 0). X) (sym same) (subst (λ (n : ℕ). F n c.args.low c.args.peg) (sym is) all)),
    )
