-- The bytes of the file that is there are settled, and other names stay.
use Rattle.std.proofs.Common.{◌≡◌, ◌∙◌, ap, rules, is_some, ℤ, List, IsSome, to_z, of_z, w64}
use Rattle.sled_store.specs.inside.MemoryNames.{states_of, firm_file, latest}
use Rattle.sled_store.specs.declared.device.memory.named_files.version.FileVersion.{FileVersion}
use Rattle.sled_store.proofs.Names.KeepsLemmas.{KeptMap, file-is, written, found_under, put_here, put_other, keeps_firmed}
use Rattle.sled_store.proofs.device.memory.named_files.MemNames.sync.Goals as goal

pub returns-in-Some : goal.returns-in-Some
returns-in-Some c = λ s keeps some.
    let name : ℤ = c.args.name in
    let old : KeptMap = c.args.self.now.kept in
    let is : to_z w64 (of_z w64 name) ≡ name = search rules in
    let new : KeptMap = c.get_mut.follows.lender c.settle_bytes.new.kept in
    let put = written old new _ name c.in-Some.kept.now c.settle_bytes.new.kept is c.in-Some.ensures.value (c.get_mut.follows.holds c.settle_bytes.new.kept) in
    let found = found_under old _ name c.in-Some.kept.now is c.in-Some.ensures.value in
    let there : IsSome (latest (states_of c.in-Some.kept.now.items)).file =
    ap (λ (xs : List FileVersion). is_some (latest (states_of xs)).file) found ∙ ap is_some (file-is c.args.self.now s name keeps) ∙ some in
    keeps_firmed c.args.self.now new s name
    (ap states_of (put_here old new name c.settle_bytes.new.kept put) ∙ c.settle_bytes.ensures there ∙ ap (λ (xs : List FileVersion). firm_file (states_of xs)) found)
    (put_other old new name c.settle_bytes.new.kept put) keeps
