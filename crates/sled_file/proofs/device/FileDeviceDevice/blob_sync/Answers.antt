-- A blob that is missing is told.
use Rattle.std.proofs.Common.{◌≡◌, ◌∙◌, ap, sym, subst, refl, ℕ, ℤ, List, Option, None, is_some, rules, to_z, of_z, w64}
use Rattle.std.specs.declared.io.ErrorKind.TheVariants.{NotFound}
use Rattle.sled_store.specs.Device.{State, state_of}
use Rattle.sled_file.specs.Calls.{trace_after}
use Rattle.sled_file.specs.Mirrors.{file_in}
use Rattle.sled_file.proofs.FileLemmas.{refused, none_of}
use Rattle.sled_file.proofs.device.FileDeviceDevice.blob_sync.Goals as goal

pub returns-then-not-has-clause-error : goal.returns-then-not-has-clause-error
returns-then-not-has-clause-error g c =
    let is : to_z w64 (of_z w64 c.args.place) ≡ c.args.place = search rules in
    let s : State = state_of (trace_after (g.F.Folder.made c.args.self.now.folder) g.S.Start.past) in
    let none : (n : ℤ) → c.has.result ≡ is_some (file_in c.args.self.now.mirror.blobs.files n) → s.blobs.file n ≡ None =
    λ n has. none_of (s.blobs.file n) (sym (ap (λ (o : Option (List ℕ)). is_some o) (c.args.self.now.mirrors.blobs n)) ∙ sym has ∙ c.if-not-has.true) in
    refused c.new.result NotFound (s.blobs.file c.args.place ≡ None) refl c.new.ensures.kind (subst (λ (n : ℤ). s.blobs.file n ≡ None) is (none _ c.has.ensures))
