use Rattle.std.proofs.Common.{◌≡◌, ◌∙◌, ◌+◌, ◌≤◌, ◌<◌, ◌++◌, ◌∷◌, [], ℕ, ℤ, List, get_or, None, Option, pos, sym, subst, refl, arith}
use Rattle.std.specs.List.{All}
use Rattle.std.proofs.lemmas.List.Elements.{Contains-get_or}
use Rattle.sled_codec.specs.declared.result.Error.{Error}
use Rattle.std.specs.Prelude.{Err}
use Rattle.sled_codec.specs.Errors.{IsCorruption}
use Rattle.sled_codec.specs.Snapshots.{SnapshotModel}
use Rattle.sled_core.proofs.Iterates.Kinds.{path_kinds}
use Rattle.sled_core.specs.declared.iterator.scan.ScannedRecord.{ScannedRecord}
use Rattle.sled_core.specs.declared.iterator.scan.SegmentScan.{SegmentScan}
use Rattle.sled_core.specs.declared.iterator.Segment.{Segment}
use Rattle.sled_store.specs.declared.config.Config.{Config}
use Rattle.sled_store.specs.Device.{State, Trace, state_of}
use Rattle.sled_log.specs.declared.snapshot.pass.Pass.{Pass}
use Rattle.sled_log.specs.declared.snapshot.pass.Replay.{Replay}
use Rattle.sled_log.specs.Recovery.{AreClosed, IsDamagedPass, IsReplayed, Scanned, begun_below, open_at}
use Rattle.sled_log.specs.Passes.{CanBeRead, FitsStop, IsDamagedBefore, IsPass, IsSoFar, pass_of}
use Rattle.sled_log.proofs.Passes.DamageNames.{damage_never, damage_unnamed}
use Rattle.sled_log.proofs.Passes.Same.{was_so, still_so}
use Rattle.sled_log.proofs.Passes.SoFar.{ends, goes_on, stops_damaged, stops_open}
use Rattle.sled_log.proofs.Replay.PassedLemmas.{no_value}
use Rattle.sled_log.proofs.snapshot.pass.replay_each.Goals as goal

-- what stands for a segment that isn't there
abbrev none : Segment
none = record { place = 0; slot = 0; mark = pos 0 }

-- what one more segment makes of the pass, whatever came before
abbrev Makes : (List ℕ → ℕ) → (ℤ → Option (List ℕ)) → ℕ → Option Error → Replay → Scanned → Option Error → Replay → Type 0
Makes sum blobs end bad r x now s = (first : SnapshotModel) (passes : List Scanned) → AreClosed end passes → IsSoFar sum blobs end first passes bad r → IsSoFar sum blobs end first (passes ++ x ∷ []) now s

pub scan_up_to-requires-clause-ready : goal.scan_up_to-requires-clause-ready
scan_up_to-requires-clause-ready g c =
    let i : ℕ = c.loop-segment.segment-index in
    still_so (λ n l. CanBeRead n l (get_or c.args.segments.now i none)) c.args.config.now.config c.loop-segment.config.config (g.D.Device.trace c.args.config.now.device) (g.D.Device.trace c.loop-segment.config.device)
    c.loop-segment.invariant.config c.loop-segment.invariant.trace (c.requires.ready (get_or c.args.segments.now i none) (Contains-get_or c.args.segments.now i none c.loop-segment-test.true))

pub replay_one-requires-clause-kinds : goal.replay_one-requires-clause-kinds
replay_one-requires-clause-kinds g c =
    let s : Segment = get_or c.args.segments.now c.loop-segment.segment-index none in
    path_kinds g.C.Checksum.sum_of c.loop-segment.config.config.segment_size (state_of (g.D.Device.trace c.loop-segment.config.device)).log.bytes s.slot s.place 20 c.in-Ok.scan.met.items c.in-Ok.scan.stop c.in-Ok.ensures.passed.0

pub replay_one-requires-clause-fits : goal.replay_one-requires-clause-fits
replay_one-requires-clause-fits g c =
    let i : ℕ = c.loop-segment.segment-index in
    let s : Segment = get_or c.args.segments.now i none in
    let p : Pass = record { segment = s; scan = c.in-Ok.scan } in
    let ready = c.requires.ready s (Contains-get_or c.args.segments.now i none c.loop-segment-test.true) in
    let fits : IsPass c.args.config.now.config.segment_size p = record {
      slot = ready.slot;
      place = ready.place;
      stop = subst (λ (x : Config). p.scan.stop ≤ x.segment_size) c.loop-segment.invariant.config c.in-Ok.ensures.stop;
      places = subst (λ (x : Config). All (λ (m : ScannedRecord). m.place < s.place + x.segment_size) p.scan.met.items) c.loop-segment.invariant.config c.in-Ok.ensures.places;
    } in
    subst (λ (x : Config). IsPass x.segment_size p) (sym (c.in-Ok.ensures.reads.config ∙ c.loop-segment.invariant.config)) fits

pub returns-then-stops-clause-made : goal.returns-then-stops-clause-made
returns-then-stops-clause-made g c =
    let sum : List ℕ → ℕ = g.C.Checksum.sum_of in
    let cfg : Config = c.args.config.now.config in
    let old : Trace = g.D.Device.trace c.args.config.now.device in
    let st : State = state_of old in
    let end : ℕ = c.args.end in
    let i : ℕ = c.loop-segment.segment-index in
    let s : Segment = get_or c.args.segments.now i none in
    let p : Pass = record { segment = s; scan = c.in-Ok.scan } in
    let replayed = was_so (λ n l. IsReplayed sum n l end (pass_of p)) cfg c.loop-segment.config.config old (g.D.Device.trace c.loop-segment.config.device) c.loop-segment.invariant.config c.loop-segment.invariant.trace c.in-Ok.ensures.passed in
    let more = subst (λ (t : Trace). Makes sum (state_of t).blobs.file end c.loop-segment.bad_blob c.loop-segment.replay (pass_of p) c.in-Ok-replay_one.bad c.replay_one.new.replay)
    (c.in-Ok.ensures.reads.unwritten ∙ c.loop-segment.invariant.trace) c.in-Ok-replay_one.ensures.made in
    stops_open sum cfg.segment_size st.log.bytes st.blobs.file end c.args.segments.now c.args.replay.now i none c.loop-segment-test.true c.if-segment-end.false c.loop-segment.bad_blob c.loop-segment.replay c.loop-segment.invariant.so_far
    (pass_of p) refl replayed c.in-Ok-replay_one.bad c.replay_one.new.replay more (sym (rw c.deref.ensures.value at c.is_open-stops.ensures) ∙ c.if-stops.true) _ refl refl refl refl refl

pub returns-in-Err-clause-damaged : goal.returns-in-Err-clause-damaged
returns-in-Err-clause-damaged g c =
    let sum : List ℕ → ℕ = g.C.Checksum.sum_of in
    let cfg : Config = c.args.config.now.config in
    let old : Trace = g.D.Device.trace c.args.config.now.device in
    let st : State = state_of old in
    let i : ℕ = c.loop-segment.segment-index in
    let s : Segment = get_or c.args.segments.now i none in
    let damaged : IsCorruption {T = SegmentScan} (Err c.in-Err.e) → IsDamagedBefore sum cfg.segment_size st.log.bytes c.args.end s = λ corrupt.
    was_so (λ n l. IsDamagedBefore sum n l c.args.end s) cfg c.loop-segment.config.config old (g.D.Device.trace c.loop-segment.config.device) c.loop-segment.invariant.config c.loop-segment.invariant.trace (c.in-Err.ensures.damaged corrupt) in
    damage_unnamed SegmentScan (Option Error) c.in-Err.e _ _ (λ at. (at ≡ None) × IsDamagedPass sum cfg.segment_size st.log.bytes c.args.end (begun_below c.args.end c.args.segments.now)) c.in-Err.ensures.answers
    (λ corrupt. (refl, stops_damaged sum cfg.segment_size st.log.bytes st.blobs.file c.args.end c.args.segments.now c.args.replay.now i none c.loop-segment-test.true c.if-segment-end.false c.loop-segment.bad_blob c.loop-segment.replay c.loop-segment.invariant.so_far (damaged corrupt)))

pub returns-in-Err-replay_one-clause-damaged : goal.returns-in-Err-replay_one-clause-damaged
returns-in-Err-replay_one-clause-damaged g c = damage_never (Option Error) (Option Error) c.in-Err-replay_one.e _ c.in-Err-replay_one.ensures.readable

pub returns-clause-made : goal.returns-clause-made
returns-clause-made g c = λ first made.
    let st : State = state_of (g.D.Device.trace c.args.config.now.device) in
    ends g.C.Checksum.sum_of c.args.config.now.config.segment_size st.log.bytes st.blobs.file c.args.end c.args.segments.now c.args.replay.now c.loop-segment.segment-index c.loop-segment.bad_blob c.loop-segment.replay
    c.loop-segment-test.false c.loop-segment.invariant.closed c.loop-segment.invariant.so_far first made

pub loop-segment-preserved : goal.loop-segment-preserved
loop-segment-preserved g c =
    let sum : List ℕ → ℕ = g.C.Checksum.sum_of in
    let cfg : Config = c.args.config.now.config in
    let old : Trace = g.D.Device.trace c.args.config.now.device in
    let st : State = state_of old in
    let end : ℕ = c.args.end in
    let i : ℕ = c.loop-segment.segment-index in
    let s : Segment = get_or c.args.segments.now i none in
    let p : Pass = record { segment = s; scan = c.in-Ok.scan } in
    let replayed = was_so (λ n l. IsReplayed sum n l end (pass_of p)) cfg c.loop-segment.config.config old (g.D.Device.trace c.loop-segment.config.device) c.loop-segment.invariant.config c.loop-segment.invariant.trace c.in-Ok.ensures.passed in
    let closed : open_at end p.scan.met.items ≡ None = no_value (open_at end p.scan.met.items) (sym (rw c.deref.ensures.value at c.is_open-stops.ensures) ∙ c.if-stops.false) in
    let more = subst (λ (t : Trace). Makes sum (state_of t).blobs.file end c.loop-segment.bad_blob c.loop-segment.replay (pass_of p) c.in-Ok-replay_one.bad c.replay_one.new.replay)
    (c.in-Ok.ensures.reads.unwritten ∙ c.loop-segment.invariant.trace) c.in-Ok-replay_one.ensures.made in
    record {
      so_far = goes_on sum cfg.segment_size st.log.bytes st.blobs.file end c.args.segments.now c.args.replay.now i none c.loop-segment-test.true c.if-segment-end.false c.loop-segment.bad_blob c.loop-segment.replay c.loop-segment.invariant.so_far
          (pass_of p) refl replayed c.in-Ok-replay_one.bad c.replay_one.new.replay more closed;
      stop = λ was.
          subst (λ (x : Config). FitsStop x.segment_size c.loop-segment.replay.stop → FitsStop x.segment_size c.replay_one.new.replay.stop) (c.in-Ok.ensures.reads.config ∙ c.loop-segment.invariant.config) c.in-Ok-replay_one.ensures.stop
          (c.loop-segment.invariant.stop was);
      count = omega (arith, c.replay_one.ensures.count, c.loop-segment.invariant.count);
      closed = c.replay_one.ensures.goes_on ∙ c.loop-segment.invariant.closed;
      trace = c.in-Ok-replay_one.ensures.reads.unwritten ∙ c.in-Ok.ensures.reads.unwritten ∙ c.loop-segment.invariant.trace;
      faults = c.in-Ok-replay_one.ensures.answers ∙ c.in-Ok.ensures.answers ∙ c.loop-segment.invariant.faults;
      config = c.in-Ok-replay_one.ensures.reads.config ∙ c.in-Ok.ensures.reads.config ∙ c.loop-segment.invariant.config;
      checksum = c.in-Ok-replay_one.ensures.reads.checksum ∙ c.in-Ok.ensures.reads.checksum ∙ c.loop-segment.invariant.checksum;
    }
