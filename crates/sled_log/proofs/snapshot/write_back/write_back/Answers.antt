use Rattle.std.proofs.Common.{rules, ◌≡◌, ◌∙◌, ℕ, ℤ, List, FitsSigned, inl, ap, subst}
use Rattle.std.specs.Prelude.{OnOk}
use Rattle.std.specs.Int.{w64, cast_signed, cast_unsigned}
use Rattle.std.proofs.lemmas.Int.{to_z-of_z}
use Rattle.sled_store.specs.Device.{Trace}
use Rattle.sled_store.specs.declared.config.Config.{Config}
use Rattle.sled_log.specs.Recovery.{RecoveryResult}
use Rattle.sled_log.specs.WritesBack.{result_of, forgotten_from, HasForgotten, Forgets}
use Rattle.sled_log.proofs.PageTable.TableLemmas.{on_ok}
use Rattle.sled_log.proofs.WriteBack.WriteLemmas.{has_written, writes_all, written_as}
use Rattle.sled_log.proofs.snapshot.write_back.write_back.Given.{Over}
use Rattle.sled_log.proofs.snapshot.write_back.write_back.Goals as goal

pub returns-in_err-commit-clause-calls : goal.returns-in_err-commit-clause-calls
returns-in_err-commit-clause-calls g c = inl c.commit.ensures.calls

-- What is forgotten: the slots that were not read, and the blobs from the place of the table on.
module _ (g : Over) (c : goal.After-forget g) where
  abbrev x : RecoveryResult
  x = result_of c.args.recovery.now

  from_table : cast_signed w64 (cast_unsigned w64 c.unwrap_or-least.result) ≡ forgotten_from x.model
  from_table =
      let fits : FitsSigned w64 c.unwrap_or-least.result = search rules in
      to_z-of_z w64 c.unwrap_or-least.result fits ∙ c.unwrap_or-least.ensures

  -- so it is asked for the size of the segments before
  as_asked : (P : ℕ → List ℕ → ℤ → Type 0) → P c.commit.new.config.config.segment_size c.deref.result.now (cast_signed w64 (cast_unsigned w64 c.unwrap_or-least.result)) → P c.args.config.now.config.segment_size x.unread (forgotten_from x.model)
  as_asked P is =
      subst (λ (n : ℕ). P n x.unread (forgotten_from x.model)) (ap (λ (k : Config). k.segment_size) c.in_ok-commit.ensures.config.config)
      (subst (λ (l : List ℕ). P c.commit.new.config.config.segment_size l (forgotten_from x.model)) c.deref.ensures.value
      (subst (λ (k : ℤ). P c.commit.new.config.config.segment_size c.deref.result.now k) from_table is))

pub returns-clause-done : goal.returns-clause-done
returns-clause-done g c =
    let old : Trace = g.D.Device.trace c.args.config.now.device in
    let mid : Trace = g.D.Device.trace c.commit.new.config.device in
    let new : Trace = g.D.Device.trace c.forget.new.config.device in
    on_ok c.forget.result _ _
    (has_written g.C.Checksum.sum_of c.args.config.now.config.segment_size (result_of c.args.recovery.now) old mid new c.in_ok-commit.ensures.done)
    (as_asked g c (λ n l k. OnOk c.forget.result (HasForgotten n l k mid new)) c.forget.ensures.done)

pub returns-clause-written : goal.returns-clause-written
returns-clause-written g c =
    on_ok c.forget.result _ _
    (written_as g.C.Checksum.sum_of c.args.config.now.config.segment_size (result_of c.args.recovery.now) (g.D.Device.trace c.args.config.now.device) (g.D.Device.trace c.forget.new.config.device))
    (returns-clause-done g c)

pub returns-clause-calls : goal.returns-clause-calls
returns-clause-calls g c =
    let old : Trace = g.D.Device.trace c.args.config.now.device in
    let mid : Trace = g.D.Device.trace c.commit.new.config.device in
    let new : Trace = g.D.Device.trace c.forget.new.config.device in
    writes_all g.C.Checksum.sum_of c.args.config.now.config.segment_size (result_of c.args.recovery.now) old mid new c.in_ok-commit.ensures.done c.in_ok-commit.ensures.fits
    (as_asked g c (λ n l k. Forgets n l k mid new) c.forget.ensures.calls)
