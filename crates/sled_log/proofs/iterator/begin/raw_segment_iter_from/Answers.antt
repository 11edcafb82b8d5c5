use Rattle.std.proofs.Common.{◌≡◌, ◌∙◌, ℕ, List, ap, subst}
use Rattle.std.specs.Int.{w64}
use Rattle.std.proofs.lemmas.Int.{to_z-of_z}
use Rattle.sled_store.specs.Device.{state_of}
use Rattle.sled_core.specs.declared.iterator.rest.Rest.{Rest}
use Rattle.sled_log.specs.IteratorBegins.{Begins, IsDamagedFrom, begins_from}
use Rattle.sled_core.specs.invariants.Iterators.{IsAhead}
use Rattle.sled_core.specs.inside.Ahead.{IsLeft}
use Rattle.sled_log.proofs.Passes.DamageNames.{damage_as}
use Rattle.sled_log.proofs.Iterates.BeginLemmas.{begins_as}
use Rattle.sled_core.proofs.Iterates.AheadLemmas.{file_ahead, left_ahead}
use Rattle.sled_core.proofs.Iterates.LeftLemmas.{left_still}
use Rattle.sled_log.proofs.iterator.begin.raw_segment_iter_from.Goals as goal

pub returns-in-Ok-clause-begins : goal.returns-in-Ok-clause-begins
returns-in-Ok-clause-begins g c =
    let trace = g.D.Device.trace in
    let sum : List ℕ → ℕ = g.C.Checksum.sum_of in
    let size : ℕ = c.args.config.now.config.segment_size in
    let s = state_of (trace c.args.config.now.device) in
    let r : Rest = c.in-Ok.rest in
    let from : c.begins_from.result ≡ begins_from size c.args.lsn = c.begins_from.ensures.is ∙ ap (begins_from size) (to_z-of_z w64 c.args.lsn c.ranges.lsn) in
    let here = subst (λ n. Begins sum size s.log.bytes s.blobs.file n (IsLeft trace sum c.args.config.now r)) from c.in-Ok.ensures.begins in
    begins_as sum size s.log.bytes s.blobs.file (begins_from size c.args.lsn) (IsLeft trace sum c.args.config.now r) (IsAhead trace sum c.new.result)
    (λ items damage left. left_ahead trace sum c.new.result c.begin_at.new.config r (file_ahead trace sum c.new.result c.args.config c.begin_at.new.config c.new.ensures.borrows) c.new.ensures.rest items damage
    (left_still trace sum c.args.config.now c.begin_at.new.config r items damage c.in-Ok.ensures.reads left))
    here

pub returns-in-Err-clause-corrupt : goal.returns-in-Err-clause-corrupt
returns-in-Err-clause-corrupt g c =
    let size : ℕ = c.args.config.now.config.segment_size in
    let s = state_of (g.D.Device.trace c.args.config.now.device) in
    let from : c.begins_from.result ≡ begins_from size c.args.lsn = c.begins_from.ensures.is ∙ ap (begins_from size) (to_z-of_z w64 c.args.lsn c.ranges.lsn) in
    let damaged = IsDamagedFrom g.C.Checksum.sum_of size s.log.bytes s.blobs.file in
    damage_as Rest (Unit {0}) c.in-Err.e (damaged c.begins_from.result) (damaged (begins_from size c.args.lsn)) (λ at here. subst (λ n. damaged n at) from here) c.in-Err.ensures.corrupt
