-- Of each name the file that was settled is left.
use Rattle.std.proofs.Common.{List, [], ◌∷◌, refl, rules}
use Rattle.sled_store.specs.Device.{NameState}
use Rattle.sled_store.specs.inside.MemoryNames.{firm, file_settled}
use Rattle.sled_store.proofs.Names.KeepsLemmas.{with_kept, states-retained, keeps_lost}
use Rattle.sled_store.proofs.device.memory.named_files.MemNames.lose.Goals as goal

pub returns : goal.returns
returns c = λ s keeps.
    let change : List NameState → List NameState = λ h. firm (file_settled h) ∷ [] in
    keeps_lost c.args.self.now (with_kept c.args.self.now c.retain.new.self) s
    (states-retained _ change refl _ (λ k v b w g t. (search rules, search rules)) c.args.self.now.kept c.retain.new.self c.retain.ensures.was_ordered c.retain.ensures.filtered) keeps
