-- One more file is on top of the states of its name.
use Rattle.std.proofs.Common.{◌<◌, ◌∙◌, ap, sym, List, Some, take, length, rules, arith}
use Rattle.sled_store.specs.declared.device.memory.named_files.version.FileVersion.{FileVersion}
use Rattle.sled_store.specs.Device.{NameState}
use Rattle.sled_store.specs.inside.MemoryNames.{states_of, leaves_any}
use Rattle.sled_store.proofs.Names.KeptLemmas.{states-take}
use Rattle.sled_store.proofs.device.memory.crash.offer.may_be_file.Goals as goal

pub loop-one-preserved : goal.loop-one-preserved
loop-one-preserved c =
    let xs : List FileVersion = c.args.kept.now in
    let i = c.loop-one.one-index in
    let there : i < length xs = omega arith in
    c.can_be_file-can.ensures (states_of (take i xs)) c.loop-one.invariant
    ∙ ap (λ (h : List NameState). leaves_any h (Some c.args.bytes.now)) (sym (states-take xs i c.one-item.result there (search rules)))
