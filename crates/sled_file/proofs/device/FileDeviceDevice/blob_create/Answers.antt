-- The blob is kept in memory too; one that is there is told, and without memory all is as it was.
use Rattle.std.proofs.Common.{◌≡◌, ◌∙◌, ap, sym, subst, refl, ℕ, ℤ, List, Option, IsSome, is_some, rules, to_z, of_z, w64}
use Rattle.std.specs.declared.io.ErrorKind.TheVariants.{AlreadyExists}
use Rattle.sled_store.specs.Device.{State, state_of}
use Rattle.sled_file.specs.Calls.{trace_after}
use Rattle.sled_file.specs.Mirrors.{file_in}
use Rattle.sled_file.proofs.FileLemmas.{refused_or}
use Rattle.sled_file.specs.Failures.{doing_in}
use Rattle.sled_file.proofs.TraceLemmas.{carried, failed_now, filled_now, some_kept, some_same, told_now}
use Rattle.sled_file.proofs.device.FileDeviceDevice.blob_create.Goals as goal

pub returns-then-has-clause-error : goal.returns-then-has-clause-error
returns-then-has-clause-error g c =
    let is : to_z w64 (of_z w64 c.args.place) ≡ c.args.place = search rules in
    let s : State = state_of (trace_after (g.F.Folder.made c.args.self.now.folder) g.S.Start.past) in
    let some : (n : ℤ) → c.has.result ≡ is_some (file_in c.args.self.now.mirror.blobs.files n) → IsSome (s.blobs.file n) =
    λ n has. sym (ap (λ (o : Option (List ℕ)). is_some o) (c.args.self.now.mirrors.blobs n)) ∙ sym has ∙ c.if-has.true in
    refused_or c.new.result AlreadyExists (IsSome (s.blobs.file c.args.place)) refl c.new.ensures.kind (subst (λ (n : ℤ). IsSome (s.blobs.file n)) is (some _ c.has.ensures))

pub invariant_of-self-in-Break-branch-2 : goal.invariant_of-self-in-Break-branch-2
invariant_of-self-in-Break-branch-2 g c = record {
  mirrors = c.in_err-make_blob.ensures.err _ c.args.self.now.mirrors;
  failed = some_kept _ _ c.begin.ensures.first ∙ c.args.self.now.failed;
  told = ap doing_in c.begin.ensures.first ∙ c.args.self.now.told;
  filled = λ none. some_same _ _ c.make_blob.ensures.temporary ∙ c.args.self.now.filled none;
}

pub invariant_of-self-2 : goal.invariant_of-self-2
invariant_of-self-2 g c = record {
  mirrors = carried _ _ _ _ _ _ c.make_blob-answer.ensures (λ t. refl) (c.in_ok-make_blob.ensures.ok _ c.args.self.now.mirrors);
  failed = failed_now _ _ _ _ _ _ _ c.make_blob-answer.ensures c.args.self.now.failed c.begin.ensures.first c.end.ensures.failed;
  told = told_now _ _ _ _ _ _ _ _ _ c.make_blob-answer.ensures refl c.args.self.now.told c.begin.ensures.first c.end.ensures.same c.end.ensures.kept;
  filled = filled_now _ _ _ _ _ _ c.make_blob-answer.ensures c.args.self.now.filled (some_same _ _ c.make_blob.ensures.temporary);
}
