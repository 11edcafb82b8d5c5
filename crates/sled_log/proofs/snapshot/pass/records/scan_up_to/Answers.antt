use Rattle.std.proofs.Common.{ℕ, List, ap}
use Rattle.sled_core.proofs.Read.ReadingLemmas.{if_ok}
use Rattle.sled_store.specs.Device.{state_of}
use Rattle.sled_store.specs.declared.config.Config.{Config}
use Rattle.sled_core.proofs.Iterates.Slots.{ready_alone, replayed_whole, damaged_before_whole}
use Rattle.sled_log.proofs.snapshot.pass.records.scan_up_to.Goals as goal

pub scan_slot-requires-clause-ready : goal.scan_slot-requires-clause-ready
scan_slot-requires-clause-ready g c =
    let cfg : Config = c.args.config.now.config in
    let log : List ℕ = (state_of (g.D.Device.trace c.args.config.now.device)).log.bytes in
    ready_alone g.C.Checksum.sum_of cfg.segment_size c.args.segment.now log c.read_slot_into.new.buf _ (ap (λ (x : Config). x.segment_size) c.in-Ok.ensures.reads.config) c.in-Ok.ensures.offset c.in-Ok.ensures.bytes c.requires.ready

pub returns-in-Ok-clause-passed : goal.returns-in-Ok-clause-passed
returns-in-Ok-clause-passed g c =
    let cfg : Config = c.args.config.now.config in
    let log : List ℕ = (state_of (g.D.Device.trace c.args.config.now.device)).log.bytes in
    let same = ap (λ (x : Config). x.segment_size) c.in-Ok.ensures.reads.config in
    if_ok c.scan_slot.result _ _
    (λ x read. replayed_whole g.C.Checksum.sum_of cfg.segment_size c.args.segment.now log c.read_slot_into.new.buf _ same c.in-Ok.ensures.offset c.in-Ok.ensures.bytes c.requires.ready c.args.end x.met.items x.stop x.ending read)
    c.scan_slot.ensures.passed

pub returns-in-Ok-clause-damaged : goal.returns-in-Ok-clause-damaged
returns-in-Ok-clause-damaged g c = λ corrupt.
    let cfg : Config = c.args.config.now.config in
    let log : List ℕ = (state_of (g.D.Device.trace c.args.config.now.device)).log.bytes in
    let same = ap (λ (x : Config). x.segment_size) c.in-Ok.ensures.reads.config in
    damaged_before_whole g.C.Checksum.sum_of cfg.segment_size c.args.segment.now log c.read_slot_into.new.buf _ same c.in-Ok.ensures.offset c.in-Ok.ensures.bytes c.requires.ready c.args.end (c.scan_slot.ensures.damaged corrupt)
