-- Of each name the latest state is left.
use Rattle.std.proofs.Common.{false, List, [], ◌∷◌, refl, rules}
use Rattle.sled_store.specs.Device.{NameState}
use Rattle.sled_store.specs.inside.MemoryNames.{latest}
use Rattle.sled_store.proofs.Names.KeepsLemmas.{states-retained, keeps_settled}
use Rattle.sled_store.proofs.device.memory.named_files.MemNames.settle_all.Goals as goal

pub returns : goal.returns
returns c = λ s keeps.
    let change : List NameState → List NameState = λ h. latest h ∷ [] in
    keeps_settled c.args.self.now (record { kept = c.retain.new.self; changed = c.clear.new.self; has_unlisted = false }) s
    (states-retained _ change refl _ (λ k v b w g t. (search rules, search rules)) c.args.self.now.kept c.retain.new.self c.retain.ensures.was_ordered c.retain.ensures.filtered) keeps
