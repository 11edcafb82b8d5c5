-- The bytes of the last file are settled.
use Rattle.std.proofs.Common.{◌≡◌, ◌+◌, ◌-◌, List, length, get_or, vec_len, rules}
use Rattle.sled_store.specs.declared.device.memory.named_files.version.FileVersion.{FileVersion}
use Rattle.sled_store.proofs.Names.KeptLemmas.{states_firmed}
use Rattle.sled_store.proofs.device.memory.named_files.version.settle_bytes.Goals as goal

pub returns-in-Some : goal.returns-in-Some
returns-in-Some c = λ some.
    let xs : List FileVersion = c.args.kept.now.items in
    let e : FileVersion = c.in-Some.one.now in
    let last : vec_len c.args.kept.now - 1 + 1 ≡ length xs = search rules in
    let read : e ≡ get_or xs (vec_len c.args.kept.now - 1) e = search rules in
    states_firmed xs (vec_len c.args.kept.now - 1) e last read some
