use Rattle.std.proofs.Common.{◌≡◌, ◌≢◌, ◌∙◌, ◌+◌, ◌-◌, ◌≤◌, ◌<◌, ◌^◌, ◌++◌, ◌∷◌, [], ℕ, ℤ, List, Option, Some, ap, subst, arith}
use Rattle.sled_core.specs.declared.iterator.Segment.{Segment}
use Rattle.sled_core.specs.declared.iterator.scan.ScanEnd.TheVariants.{Broken}
use Rattle.sled_store.specs.declared.config.Config.{Config}
use Rattle.sled_store.specs.Device.{state_of}
use Rattle.sled_log.specs.Recovery.{Scanned, IsScanned, scanned_of}
use Rattle.sled_log.specs.Passes.{CanBeRead}
use Rattle.sled_log.proofs.Passes.Blobs.{good_more, still_fine}
use Rattle.sled_log.proofs.Passes.Same.{was_so, still_so}
use Rattle.sled_log.proofs.Passes.Tails.{part_more, tail_ends, tail_breaks, end_of_last}
use Rattle.sled_log.proofs.snapshot.reference.tail_end.Goals as goal

-- an end within a segment that can be read
end_there : (size : ℕ) (log : List ℕ) (s : Segment) (place stop : ℕ) → CanBeRead size log s → s.place ≡ place → stop ≤ size → place + stop < 2 ^ 63
end_there size log s place stop is at within = let below = is.place in omega (arith, below, at, within)

next_there : (size : ℕ) (log : List ℕ) (s : Segment) (place : ℕ) → CanBeRead size log s → s.place ≡ place → place + size < 2 ^ 63
next_there size log s place is at = let below = is.place in omega (arith, below, at)

pub sound_scan_of-requires : goal.sound_scan_of-requires
sound_scan_of-requires g c =
    still_so (λ n l. CanBeRead n l c.in-Some.segment) c.args.config.now.config c.loop-segment.config.config (g.D.Device.trace c.args.config.now.device) (g.D.Device.trace c.loop-segment.config.device)
    c.loop-segment.invariant.config c.loop-segment.invariant.trace (c.loop-segment.invariant.ready c.in-Some.segment c.in-Some.ensures.some.0)

pub overflow_add-end : goal.overflow_add-end
overflow_add-end g c =
    let size : ℕ = c.args.config.now.config.segment_size in
    let log : List ℕ = (state_of (g.D.Device.trace c.args.config.now.device)).log.bytes in
    let stop : c.in-Ok.scan.stop ≤ size = subst (λ (x : Config). c.in-Ok.scan.stop ≤ x.segment_size) c.loop-segment.invariant.config c.in-Ok.ensures.stop.1 in
    let below = end_there size log c.in-Some.segment c.loop-segment.place c.in-Ok.scan.stop (c.loop-segment.invariant.ready c.in-Some.segment c.in-Some.ensures.some.0) c.in-Some.ensures.some.1 stop in
    omega (arith, below)

pub returns-then-is_broken-clause-end : goal.returns-then-is_broken-clause-end
returns-then-is_broken-clause-end g c =
    let size : ℕ = c.args.config.now.config.segment_size in
    let s : Segment = c.in-Some.segment in
    let x : Scanned = scanned_of s c.in-Ok.scan in
    let log : List ℕ = (state_of (g.D.Device.trace c.args.config.now.device)).log.bytes in
    let scanned = was_so (λ n l. IsScanned g.C.Checksum.sum_of n l x) c.args.config.now.config c.loop-segment.config.config (g.D.Device.trace c.args.config.now.device) (g.D.Device.trace c.loop-segment.config.device)
    c.loop-segment.invariant.config c.loop-segment.invariant.trace c.in-Ok.ensures.scan in
    let fine = still_fine g.C.Checksum.sum_of x.met (g.D.Device.trace c.loop-segment.config.device) (g.D.Device.trace c.args.config.now.device) c.loop-segment.invariant.trace c.in-Ok.ensures.good in
    let blobs : ℤ → Option (List ℕ) = (state_of (g.D.Device.trace c.args.config.now.device)).blobs.file in
    let read = c.loop-segment.invariant.read in (
      read.0 ++ x ∷ [],
      tail_breaks g.C.Checksum.sum_of size log c.args.segments.now c.args.begin read.0 c.loop-segment.place x read.1 c.in-Some.ensures.some.0 c.in-Some.ensures.some.1 scanned (c.is_broken.ensures.0 c.if-is_broken.true),
      good_more g.C.Checksum.sum_of blobs read.0 x read.2 fine,
      end_of_last read.0 x ∙ ap (λ n. Some (n + c.in-Ok.scan.stop)) c.in-Some.ensures.some.1,
    )

pub returns-then-is_broken-clause-small : goal.returns-then-is_broken-clause-small
returns-then-is_broken-clause-small g c =
    let size : ℕ = c.args.config.now.config.segment_size in
    let log : List ℕ = (state_of (g.D.Device.trace c.args.config.now.device)).log.bytes in
    let stop : c.in-Ok.scan.stop ≤ size = subst (λ (x : Config). c.in-Ok.scan.stop ≤ x.segment_size) c.loop-segment.invariant.config c.in-Ok.ensures.stop.1 in
    end_there size log c.in-Some.segment c.loop-segment.place c.in-Ok.scan.stop (c.loop-segment.invariant.ready c.in-Some.segment c.in-Some.ensures.some.0) c.in-Some.ensures.some.1 stop

pub overflow_add-place : goal.overflow_add-place
overflow_add-place g c =
    let size : ℕ = c.args.config.now.config.segment_size in
    let log : List ℕ = (state_of (g.D.Device.trace c.args.config.now.device)).log.bytes in
    let below = next_there size log c.in-Some.segment c.loop-segment.place (c.loop-segment.invariant.ready c.in-Some.segment c.in-Some.ensures.some.0) c.in-Some.ensures.some.1 in
    omega (arith, below)

pub loop-segment-smaller : goal.loop-segment-smaller
loop-segment-smaller g c =
    let size : ℕ = c.args.config.now.config.segment_size in
    let log : List ℕ = (state_of (g.D.Device.trace c.args.config.now.device)).log.bytes in
    let below = next_there size log c.in-Some.segment c.loop-segment.place (c.loop-segment.invariant.ready c.in-Some.segment c.in-Some.ensures.some.0) c.in-Some.ensures.some.1 in
    let most = c.args.config.now.config.least in
    let falls : 2 ^ 63 - (c.loop-segment.place + size) < 2 ^ 63 - c.loop-segment.place = omega (arith, below, most) in
    falls

pub loop-segment-preserved : goal.loop-segment-preserved
loop-segment-preserved g c =
    let size : ℕ = c.args.config.now.config.segment_size in
    let s : Segment = c.in-Some.segment in
    let x : Scanned = scanned_of s c.in-Ok.scan in
    let log : List ℕ = (state_of (g.D.Device.trace c.args.config.now.device)).log.bytes in
    let scanned = was_so (λ n l. IsScanned g.C.Checksum.sum_of n l x) c.args.config.now.config c.loop-segment.config.config (g.D.Device.trace c.args.config.now.device) (g.D.Device.trace c.loop-segment.config.device)
    c.loop-segment.invariant.config c.loop-segment.invariant.trace c.in-Ok.ensures.scan in
    let whole : c.in-Ok.scan.ending ≢ Broken = λ is. let yes = c.is_broken.ensures.1 is in let no = c.if-is_broken.false in cc in
    let stop : c.in-Ok.scan.stop ≤ size = subst (λ (x : Config). c.in-Ok.scan.stop ≤ x.segment_size) c.loop-segment.invariant.config c.in-Ok.ensures.stop.1 in
    let fine = still_fine g.C.Checksum.sum_of x.met (g.D.Device.trace c.loop-segment.config.device) (g.D.Device.trace c.args.config.now.device) c.loop-segment.invariant.trace c.in-Ok.ensures.good in
    let blobs : ℤ → Option (List ℕ) = (state_of (g.D.Device.trace c.args.config.now.device)).blobs.file in
    let read = c.loop-segment.invariant.read in
    record {
      read = (
        read.0 ++ x ∷ [],
        part_more g.C.Checksum.sum_of size log c.args.segments.now c.args.begin read.0 c.loop-segment.place x read.1 c.in-Some.ensures.some.0 c.in-Some.ensures.some.1 scanned whole,
        good_more g.C.Checksum.sum_of blobs read.0 x read.2 fine,
        end_of_last read.0 x ∙ ap (λ n. Some (n + c.in-Ok.scan.stop)) c.in-Some.ensures.some.1,
      );
      ready = c.loop-segment.invariant.ready;
      small = end_there size log s c.loop-segment.place c.in-Ok.scan.stop (c.loop-segment.invariant.ready s c.in-Some.ensures.some.0) c.in-Some.ensures.some.1 stop;
      size = c.loop-segment.invariant.size;
      trace = c.sound_scan_of.ensures.reads.unwritten ∙ c.loop-segment.invariant.trace;
      faults = c.in-Ok.ensures.answers ∙ c.loop-segment.invariant.faults;
      config = c.sound_scan_of.ensures.reads.config ∙ c.loop-segment.invariant.config;
      checksum = c.sound_scan_of.ensures.reads.checksum ∙ c.loop-segment.invariant.checksum;
    }

pub returns-clause-end : goal.returns-clause-end
returns-clause-end g c =
    let log : List ℕ = (state_of (g.D.Device.trace c.args.config.now.device)).log.bytes in
    let read = c.loop-segment.invariant.read in
    (read.0, tail_ends g.C.Checksum.sum_of c.args.config.now.config.segment_size log c.args.segments.now c.args.begin read.0 c.loop-segment.place read.1 c.in_default.ensures.none, read.2, read.3)
