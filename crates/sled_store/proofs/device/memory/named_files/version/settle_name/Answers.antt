-- What was last made is the latest state, and it alone is left.
use Rattle.std.proofs.Common.{◌∙◌, ap, sym, is_some, List, [], ◌∷◌, true, false}
use Rattle.sled_store.specs.declared.device.memory.named_files.version.FileVersion.{FileVersion}
use Rattle.sled_store.specs.Device.{NameState}
use Rattle.sled_store.specs.inside.MemoryNames.{states_of}
use Rattle.sled_store.proofs.Names.KeptLemmas.{latest-popped}
use Rattle.sled_store.proofs.device.memory.named_files.version.settle_name.Goals as goal

pub returns-then-one-clause-there : goal.returns-then-one-clause-there
returns-then-one-clause-there c =
    sym (ap (λ (s : NameState). is_some s.file) (latest-popped c.args.kept.now.items c.pop.new.self.items c.in-Some.one true c.in-Some.ensures.items c.if-one.true))

pub returns-then-one-clause-alone : goal.returns-then-one-clause-alone
returns-then-one-clause-alone c =
    sym (ap (λ (s : NameState). s ∷ []) (latest-popped c.args.kept.now.items c.pop.new.self.items c.in-Some.one true c.in-Some.ensures.items c.if-one.true))

pub returns-clause-there : goal.returns-clause-there
returns-clause-there c =
    sym (ap (λ (s : NameState). is_some s.file) (latest-popped c.args.kept.now.items c.pop.new.self.items c.in-Some.one false c.in-Some.ensures.items c.if-one.false))

pub returns-clause-alone : goal.returns-clause-alone
returns-clause-alone c =
    ap (λ (xs : List FileVersion). states_of xs) c.put_alone.ensures
    ∙ sym (ap (λ (s : NameState). s ∷ []) (latest-popped c.args.kept.now.items c.pop.new.self.items c.in-Some.one false c.in-Some.ensures.items c.if-one.false))
