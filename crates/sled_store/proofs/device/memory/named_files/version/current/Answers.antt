-- The last file is the one under the name, where it isn't gone.
use Rattle.std.proofs.Common.{◌≡◌, ◌+◌, ◌-◌, List, length, get_or, ap, true, false, rules}
use Rattle.sled_store.specs.declared.device.memory.named_files.version.FileVersion.{FileVersion}
use Rattle.sled_store.specs.Device.{NameState}
use Rattle.sled_store.proofs.Names.KeptLemmas.{latest-last}
use Rattle.sled_store.proofs.device.memory.named_files.version.current.Goals as goal

pub returns-then-one : goal.returns-then-one
returns-then-one c =
    let xs : List FileVersion = c.args.kept.now in
    let e : FileVersion = c.in_ok-one.one.now in
    let last : length xs - 1 + 1 ≡ length xs = search rules in
    let read : e ≡ get_or xs (length xs - 1) e = search rules in
    ap (λ (s : NameState). s.file) (latest-last xs (length xs - 1) e true last read c.if-one.true)

pub returns : goal.returns
returns c =
    let xs : List FileVersion = c.args.kept.now in
    let e : FileVersion = c.in_ok-one.one.now in
    let last : length xs - 1 + 1 ≡ length xs = search rules in
    let read : e ≡ get_or xs (length xs - 1) e = search rules in
    ap (λ (s : NameState). s.file) (latest-last xs (length xs - 1) e false last read c.if-one.false)
