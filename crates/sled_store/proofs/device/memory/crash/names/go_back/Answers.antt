-- The last file that was settled is the one that was, and those that were made since are lost.
use Rattle.std.proofs.Common.{◌∙◌, ap, sym, List, ℕ, [], ◌∷◌, Some, Option}
use Rattle.sled_store.specs.declared.device.memory.named_files.version.FileVersion.{FileVersion}
use Rattle.sled_store.specs.inside.MemoryNames.{states_of, firm}
use Rattle.sled_store.proofs.Names.KeptLemmas.{popped_settled, popped_lost, states-restored}
use Rattle.sled_store.proofs.device.memory.crash.names.go_back.Goals as goal

pub returns-then-one : goal.returns-then-one
returns-then-one c =
    let e : FileVersion = c.in-Some.one in
    ap (λ (xs : List FileVersion). states_of xs) c.put_alone.ensures
    ∙ states-restored c.restored.result c.restored.ensures.firm c.restored.ensures.there c.restored.ensures.settled
    ∙ ap (λ (bytes : List ℕ). firm (Some bytes) ∷ []) c.restored.ensures.bytes
    ∙ ap (λ (o : Option (List ℕ)). firm o ∷ []) (sym (popped_settled c.loop-one.kept.items c.pop.new.self.items e c.in-Some.ensures.items c.if-one.true) ∙ c.loop-one.invariant)

pub loop-one-preserved : goal.loop-one-preserved
loop-one-preserved c = sym (popped_lost c.loop-one.kept.items c.pop.new.self.items c.in-Some.one c.in-Some.ensures.items c.if-one.false) ∙ c.loop-one.invariant
