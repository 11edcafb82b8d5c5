use Rattle.std.proofs.Common.{◌∙◌, ◌-◌, ap, length, ℤ, List}
use Rattle.std.specs.List.{slice_get}
use Rattle.sled_store.specs.Device.{state_of}
use Rattle.sled_log.proofs.SnapshotFile.Numbers.{newest_of}
use Rattle.sled_log.proofs.snapshot.file.newest_number.Goals as goal

pub returns-clause-number : goal.returns-clause-number
returns-clause-number g c =
    newest_of (state_of (g.D.Device.trace c.args.device.now)).snapshots.file c.in_ok-numbers.numbers.items c.copied.result
    (c.copied.ensures ∙ c.last.ensures.value ∙ ap (λ (ns : List ℤ). slice_get ns (length ns - 1)) c.deref.ensures.value)
    c.in_ok-numbers.ensures.numbers
    c.in_ok-numbers.ensures.ascending
