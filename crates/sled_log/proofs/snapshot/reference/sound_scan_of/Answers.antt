use Rattle.std.proofs.Common.{ℕ, List, inl, inr, refl, sym, subst}
use Rattle.std.specs.List.{All}
use Rattle.sled_core.specs.declared.iterator.scan.ScannedRecord.{ScannedRecord}
use Rattle.sled_core.specs.declared.iterator.scan.SegmentScan.{SegmentScan}
use Rattle.sled_core.specs.declared.iterator.Segment.{Segment}
use Rattle.sled_store.specs.Device.{State, Trace, state_of}
use Rattle.sled_log.specs.Recovery.{HasDamage, NamesBadBlob, NamesDamageIn, NamesKind, scanned_of}
use Rattle.sled_core.proofs.Iterates.Kinds.{scan_kinds}
use Rattle.sled_log.proofs.Passes.DamageNames.{damage_as, damage_unnamed}
use Rattle.sled_log.proofs.Replay.LookLemmas.{met_still}
use Rattle.sled_log.proofs.snapshot.reference.sound_scan_of.Goals as goal

pub check-requires : goal.check-requires
check-requires g c =
    let size : ℕ = c.args.config.now.config.segment_size in
    let log : List ℕ = (state_of (g.D.Device.trace c.args.config.now.device)).log.bytes in
    let s : Segment = c.args.segment.now in
    record {
      kinds = subst (All (λ (m : ScannedRecord). NamesKind m.what)) (sym c.deref.ensures.value) (scan_kinds g.C.Checksum.sum_of size log s.slot s.place c.in-Ok.scan.met.items c.in-Ok.scan.stop c.in-Ok.scan.ending c.in-Ok.ensures.scan);
    }

pub returns-in-Err-check-clause-damaged : goal.returns-in-Err-check-clause-damaged
returns-in-Err-check-clause-damaged g c =
    let sum : List ℕ → ℕ = g.C.Checksum.sum_of in
    let size : ℕ = c.args.config.now.config.segment_size in
    let old : Trace = g.D.Device.trace c.args.config.now.device in
    let now : Trace = g.D.Device.trace c.scan_alone.new.config.device in
    let s : Segment = c.args.segment.now in
    damage_as (Unit {0}) SegmentScan c.in-Err-check.e (NamesBadBlob sum (state_of now).blobs.file c.deref.result.now) (NamesDamageIn sum size (state_of old).log.bytes (state_of old).blobs.file s) (λ at bad. inr (
      scanned_of s c.in-Ok.scan,
      refl,
      c.in-Ok.ensures.scan,
      met_still (λ b. HasDamage sum b at) c.deref.result.now c.in-Ok.scan.met.items now old c.deref.ensures.value c.in-Ok.ensures.reads.unwritten bad,
    ))
    c.in-Err-check.ensures.bad

pub returns-in-Err-clause-damaged : goal.returns-in-Err-clause-damaged
returns-in-Err-clause-damaged g c =
    let old : State = state_of (g.D.Device.trace c.args.config.now.device) in
    damage_unnamed SegmentScan SegmentScan c.in-Err.e _ _ (NamesDamageIn g.C.Checksum.sum_of c.args.config.now.config.segment_size old.log.bytes old.blobs.file c.args.segment.now) c.in-Err.ensures.answers
    (λ corrupt. inl (refl, c.in-Err.ensures.damaged corrupt))
