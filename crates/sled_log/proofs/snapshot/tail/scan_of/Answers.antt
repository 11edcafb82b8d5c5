use Rattle.std.proofs.Common.{ℕ, List, ap}
use Rattle.sled_core.proofs.Read.ReadingLemmas.{if_ok}
use Rattle.sled_core.specs.declared.iterator.Segment.{Segment}
use Rattle.sled_store.specs.Device.{state_of}
use Rattle.sled_store.specs.declared.config.Config.{Config}
use Rattle.sled_core.proofs.Iterates.Slots.{scan_whole, damaged_whole}
use Rattle.sled_log.proofs.snapshot.tail.scan_of.Goals as goal

pub returns-in-Ok-clause-scan : goal.returns-in-Ok-clause-scan
returns-in-Ok-clause-scan g c =
    let cfg : Config = c.args.config.now.config in
    let log : List ℕ = (state_of (g.D.Device.trace c.args.config.now.device)).log.bytes in
    let s : Segment = c.args.segment.now in
    let same = ap (λ (x : Config). x.segment_size) c.in-Ok.ensures.reads.config in
    if_ok c.scan.result _ _
    (λ x scan. scan_whole g.C.Checksum.sum_of cfg.segment_size s.slot log c.read_slot_into.new.buf _ same c.in-Ok.ensures.offset c.in-Ok.ensures.bytes c.requires.aligned c.requires.inside s.place x.met.items x.stop x.ending scan)
    c.scan.ensures.scan

pub returns-in-Ok-clause-damaged : goal.returns-in-Ok-clause-damaged
returns-in-Ok-clause-damaged g c = λ corrupt.
    let cfg : Config = c.args.config.now.config in
    let log : List ℕ = (state_of (g.D.Device.trace c.args.config.now.device)).log.bytes in
    let s : Segment = c.args.segment.now in
    let same = ap (λ (x : Config). x.segment_size) c.in-Ok.ensures.reads.config in
    damaged_whole g.C.Checksum.sum_of cfg.segment_size s.slot log c.read_slot_into.new.buf _ same c.in-Ok.ensures.offset c.in-Ok.ensures.bytes c.requires.aligned c.requires.inside s.place (c.scan.ensures.damaged corrupt)
