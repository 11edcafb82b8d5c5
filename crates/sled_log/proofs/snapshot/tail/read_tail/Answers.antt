use Rattle.std.proofs.Common.{◌≡◌, ◌≢◌, ◌∙◌, ◌+◌, ◌≤◌, ◌<◌, ◌++◌, ◌∷◌, [], ℕ, List, length, map, get_or, take, Some, pos, ap, sym, subst, refl, arith, inl}
use Rattle.std.specs.List.{All}
use Rattle.std.proofs.lemmas.List.{map-append, take_more}
use Rattle.std.proofs.lemmas.List.Elements.{All-same, All-push, Contains-get_or}
use Rattle.std.proofs.Math.Nat.{add-mod_right}
use Rattle.sled_core.specs.declared.iterator.scan.ScannedRecord.{ScannedRecord}
use Rattle.sled_core.specs.declared.iterator.scan.ScanEnd.TheVariants.{Broken}
use Rattle.sled_core.specs.declared.iterator.Segment.{Segment}
use Rattle.sled_core.specs.Scan.{IsDamagedIn}
use Rattle.sled_store.specs.declared.config.Config.{Config}
use Rattle.sled_store.specs.Device.{Trace, state_of}
use Rattle.sled_log.specs.declared.snapshot.pass.Pass.{Pass}
use Rattle.sled_log.specs.Recovery.{Scanned, IsScanned, IsTail, IsTailPart, AreScanned, tail_end}
use Rattle.sled_log.specs.Passes.{CanBeRead, IsPass, pass_of}
use Rattle.sled_log.proofs.Passes.Ascending.{ascends_left, ended_on, left_on, none_at, none_left}
use Rattle.sled_log.proofs.Passes.TailRead.{EndsBefore, scanned_more, begun_of}
use Rattle.sled_log.proofs.Passes.Same.{was_so, still_so}
use Rattle.sled_log.proofs.Passes.Tails.{part_more, tail_ends, tail_breaks, end_of_last}
use Rattle.sled_log.proofs.snapshot.tail.read_tail.Goals as goal

-- what stands for a segment that isn't there
abbrev none : Segment
none = record { place = 0; slot = 0; mark = pos 0 }

-- a size is some
some : (size : ℕ) → 256 ≤ size → 0 < size
some size least = omega (arith, least)

-- the segment at a place, with what was read of it
module _ (sum : List ℕ → ℕ) (size : ℕ) (least : 256 ≤ size) (log : List ℕ) (ss : List Segment) (i place : ℕ) (ps : List Pass) (p : Pass) (new : List Pass) (is : new ≡ ps ++ p ∷ []) (at : p.segment.place ≡ place) (ready : CanBeRead size log p.segment) (from : 20 ≤ p.scan.stop) (to : p.scan.stop ≤ size) where
  mapped : map pass_of new ≡ map pass_of ps ++ pass_of p ∷ []
  mapped = ap (map pass_of) is ∙ map-append pass_of ps (p ∷ [])

  ends_there : tail_end (map pass_of new) ≡ Some (place + p.scan.stop)
  ends_there = ap tail_end mapped ∙ end_of_last (map pass_of ps) (pass_of p) ∙ ap (λ n. Some (n + p.scan.stop)) at

  end_before : EndsBefore size (place + size) (place + p.scan.stop)
  end_before = let below = ready.place in (omega (arith, below, at, to), omega (arith, to), omega (arith, from))

  all_fit : All (λ (m : ScannedRecord). m.place < p.segment.place + size) p.scan.met.items → All (IsPass size) ps → All (IsPass size) new
  all_fit places fit = All-same (IsPass size) new (ps ++ p ∷ []) is (All-push (IsPass size) ps p fit (record { slot = ready.slot; place = ready.place; stop = to; places = places }))

  all_scanned : i < length ss → p.segment ≡ get_or ss i none → IsScanned sum size log (pass_of p) → AreScanned sum size log (take i ss) (map pass_of ps) → AreScanned sum size log (take (i + 1) ss) (map pass_of new)
  all_scanned lt own scanned are =
      subst (λ (l : List Segment). AreScanned sum size log l (map pass_of new)) (sym (take_more ss i none lt))
      (subst (λ (l : List Scanned). AreScanned sum size log (take i ss ++ get_or ss i none ∷ []) l) (sym mapped) (scanned_more sum size log (take i ss) (map pass_of ps) (get_or ss i none) (pass_of p) are own scanned))

pub scan_of-requires : goal.scan_of-requires
scan_of-requires g c =
    let i : ℕ = c.loop-segment.segment-index in
    still_so (λ n l. CanBeRead n l (get_or c.args.segments.now i none)) c.args.config.now.config c.loop-segment.config.config (g.D.Device.trace c.args.config.now.device) (g.D.Device.trace c.loop-segment.config.device)
    c.loop-segment.invariant.config c.loop-segment.invariant.trace (c.requires.ready (get_or c.args.segments.now i none) (Contains-get_or c.args.segments.now i none c.loop-segment-test.true))

pub returns-then-segment-place-clause-tail : goal.returns-then-segment-place-clause-tail
returns-then-segment-place-clause-tail g c =
    let size : ℕ = c.args.config.now.config.segment_size in
    let log : List ℕ = (state_of (g.D.Device.trace c.args.config.now.device)).log.bytes in
    let ss : List Segment = c.args.segments.now in
    let i : ℕ = c.loop-segment.segment-index in
    let now = c.loop-segment.invariant in
    tail_ends g.C.Checksum.sum_of size log ss c.args.begin (map pass_of c.loop-segment.passes.items) c.loop-segment.place now.read
    (none_at size (some size c.args.config.now.config.least) ss i none c.loop-segment-test.true c.loop-segment.place now.ascending now.left now.before c.if-segment-place.true)

pub returns-then-segment-place-clause-begun : goal.returns-then-segment-place-clause-begun
returns-then-segment-place-clause-begun g c =
    let size : ℕ = c.args.config.now.config.segment_size in
    let log : List ℕ = (state_of (g.D.Device.trace c.args.config.now.device)).log.bytes in
    let now = c.loop-segment.invariant in
    begun_of g.C.Checksum.sum_of size log c.args.segments.now c.loop-segment.segment-index c.loop-segment.place c.loop-segment.end (map pass_of c.loop-segment.passes.items) now.end now.scanned now.before now.left

pub returns-clause-tail : goal.returns-clause-tail
returns-clause-tail g c =
    let size : ℕ = c.args.config.now.config.segment_size in
    let log : List ℕ = (state_of (g.D.Device.trace c.args.config.now.device)).log.bytes in
    let ss : List Segment = c.args.segments.now in
    let i : ℕ = c.loop-segment.segment-index in
    let now = c.loop-segment.invariant in
    tail_ends g.C.Checksum.sum_of size log ss c.args.begin (map pass_of c.loop-segment.passes.items) c.loop-segment.place now.read
    (none_left size (some size c.args.config.now.config.least) ss i c.loop-segment.place c.loop-segment-test.false now.before)

pub returns-clause-begun : goal.returns-clause-begun
returns-clause-begun g c =
    let size : ℕ = c.args.config.now.config.segment_size in
    let log : List ℕ = (state_of (g.D.Device.trace c.args.config.now.device)).log.bytes in
    let now = c.loop-segment.invariant in
    begun_of g.C.Checksum.sum_of size log c.args.segments.now c.loop-segment.segment-index c.loop-segment.place c.loop-segment.end (map pass_of c.loop-segment.passes.items) now.end now.scanned now.before now.left

pub returns-in-Err-clause-damaged : goal.returns-in-Err-clause-damaged
returns-in-Err-clause-damaged g c = λ corrupt.
    let ss : List Segment = c.args.segments.now in
    let i : ℕ = c.loop-segment.segment-index in
    let s : Segment = get_or ss i none in
    let damaged = was_so (λ n l. IsDamagedIn g.C.Checksum.sum_of n l s.slot s.place) c.args.config.now.config c.loop-segment.config.config (g.D.Device.trace c.args.config.now.device) (g.D.Device.trace c.loop-segment.config.device)
    c.loop-segment.invariant.config c.loop-segment.invariant.trace (c.in-Err.ensures.damaged corrupt) in
    record {
      before = map pass_of c.loop-segment.passes.items;
      next = c.loop-segment.place;
      part = c.loop-segment.invariant.read;
      segment = s;
      there = Contains-get_or ss i none c.loop-segment-test.true;
      at = c.if-segment-place.false;
      damaged = inl (refl, damaged);
    }

pub overflow_add-end : goal.overflow_add-end
overflow_add-end g c =
    let size : ℕ = c.args.config.now.config.segment_size in
    let i : ℕ = c.loop-segment.segment-index in
    let s : Segment = get_or c.args.segments.now i none in
    let ready = c.requires.ready s (Contains-get_or c.args.segments.now i none c.loop-segment-test.true) in
    let below = ready.place in
    let stop : c.in-Ok.scan.stop ≤ size = subst (λ (x : Config). c.in-Ok.scan.stop ≤ x.segment_size) c.loop-segment.invariant.config c.in-Ok.ensures.stop.1 in
    omega (arith, below, stop, c.if-segment-place.false)

pub overflow_add-place : goal.overflow_add-place
overflow_add-place g c =
    let i : ℕ = c.loop-segment.segment-index in
    let s : Segment = get_or c.args.segments.now i none in
    let ready = c.requires.ready s (Contains-get_or c.args.segments.now i none c.loop-segment-test.true) in
    let below = ready.place in
    omega (arith, below, c.if-segment-place.false, c.loop-segment.invariant.size)

pub returns-then-breaks-clause-tail : goal.returns-then-breaks-clause-tail
returns-then-breaks-clause-tail g c =
    let sum : List ℕ → ℕ = g.C.Checksum.sum_of in
    let cfg : Config = c.args.config.now.config in
    let size : ℕ = cfg.segment_size in
    let old : Trace = g.D.Device.trace c.args.config.now.device in
    let log : List ℕ = (state_of old).log.bytes in
    let ss : List Segment = c.args.segments.now in
    let i : ℕ = c.loop-segment.segment-index in
    let s : Segment = get_or ss i none in
    let p : Pass = record { segment = s; scan = c.in-Ok.scan } in
    let ps : List Pass = c.loop-segment.passes.items in
    let scanned = was_so (λ n l. IsScanned sum n l (pass_of p)) cfg c.loop-segment.config.config old (g.D.Device.trace c.loop-segment.config.device) c.loop-segment.invariant.config c.loop-segment.invariant.trace c.in-Ok.ensures.scan in
    let more : map pass_of c.push.new.self.items ≡ map pass_of ps ++ pass_of p ∷ [] = ap (map pass_of) c.in_ok-push-in-Ok.ensures.items ∙ map-append pass_of ps (p ∷ []) in
    subst (IsTail sum size log ss c.args.begin) (sym more)
    (tail_breaks sum size log ss c.args.begin (map pass_of ps) c.loop-segment.place (pass_of p) c.loop-segment.invariant.read (Contains-get_or ss i none c.loop-segment-test.true) c.if-segment-place.false scanned (c.is_broken-breaks.ensures.0 c.if-breaks.true))

pub returns-then-breaks-clause-end : goal.returns-then-breaks-clause-end
returns-then-breaks-clause-end g c =
    let size : ℕ = c.args.config.now.config.segment_size in
    let log : List ℕ = (state_of (g.D.Device.trace c.args.config.now.device)).log.bytes in
    let ss : List Segment = c.args.segments.now in
    let i : ℕ = c.loop-segment.segment-index in
    let s : Segment = get_or ss i none in
    let p : Pass = record { segment = s; scan = c.in-Ok.scan } in
    let ready = c.requires.ready s (Contains-get_or ss i none c.loop-segment-test.true) in
    let to : p.scan.stop ≤ size = subst (λ (x : Config). p.scan.stop ≤ x.segment_size) c.loop-segment.invariant.config c.in-Ok.ensures.stop.1 in
    ends_there g.C.Checksum.sum_of size c.args.config.now.config.least log ss i c.loop-segment.place c.loop-segment.passes.items p c.push.new.self.items c.in_ok-push-in-Ok.ensures.items c.if-segment-place.false ready c.in-Ok.ensures.stop.0 to

pub returns-then-breaks-clause-begun : goal.returns-then-breaks-clause-begun
returns-then-breaks-clause-begun g c =
    let sum : List ℕ → ℕ = g.C.Checksum.sum_of in
    let cfg : Config = c.args.config.now.config in
    let size : ℕ = cfg.segment_size in
    let old : Trace = g.D.Device.trace c.args.config.now.device in
    let log : List ℕ = (state_of old).log.bytes in
    let ss : List Segment = c.args.segments.now in
    let i : ℕ = c.loop-segment.segment-index in
    let s : Segment = get_or ss i none in
    let p : Pass = record { segment = s; scan = c.in-Ok.scan } in
    let ps : List Pass = c.loop-segment.passes.items in
    let new : List Pass = c.push.new.self.items in
    let is = c.in_ok-push-in-Ok.ensures.items in
    let lt = c.loop-segment-test.true in
    let at = c.if-segment-place.false in
    let place : ℕ = c.loop-segment.place in
    let now = c.loop-segment.invariant in
    let ready = c.requires.ready s (Contains-get_or ss i none lt) in
    let from = c.in-Ok.ensures.stop.0 in
    let to : p.scan.stop ≤ size = subst (λ (x : Config). p.scan.stop ≤ x.segment_size) now.config c.in-Ok.ensures.stop.1 in
    let scanned = was_so (λ n l. IsScanned sum n l (pass_of p)) cfg c.loop-segment.config.config old (g.D.Device.trace c.loop-segment.config.device) now.config now.trace c.in-Ok.ensures.scan in
    begun_of sum size log ss (i + 1) (place + size) (Some (place + p.scan.stop)) (map pass_of new) (end_before sum size cfg.least log ss i place ps p new is at ready from to)
    (all_scanned sum size cfg.least log ss i place ps p new is at ready from to lt refl scanned now.scanned)
    (ended_on size (some size cfg.least) ss i none lt place now.before at) (left_on size (some size cfg.least) ss i none lt place now.aligned now.ascending now.left at)

pub returns-then-breaks-clause-fits : goal.returns-then-breaks-clause-fits
returns-then-breaks-clause-fits g c =
    let cfg : Config = c.args.config.now.config in
    let size : ℕ = cfg.segment_size in
    let log : List ℕ = (state_of (g.D.Device.trace c.args.config.now.device)).log.bytes in
    let ss : List Segment = c.args.segments.now in
    let i : ℕ = c.loop-segment.segment-index in
    let s : Segment = get_or ss i none in
    let p : Pass = record { segment = s; scan = c.in-Ok.scan } in
    let now = c.loop-segment.invariant in
    let ready = c.requires.ready s (Contains-get_or ss i none c.loop-segment-test.true) in
    let to : p.scan.stop ≤ size = subst (λ (x : Config). p.scan.stop ≤ x.segment_size) now.config c.in-Ok.ensures.stop.1 in
    let places = subst (λ (x : Config). All (λ (m : ScannedRecord). m.place < s.place + x.segment_size) p.scan.met.items) now.config c.in-Ok.ensures.places in
    all_fit g.C.Checksum.sum_of size cfg.least log ss i c.loop-segment.place c.loop-segment.passes.items p c.push.new.self.items c.in_ok-push-in-Ok.ensures.items c.if-segment-place.false ready c.in-Ok.ensures.stop.0 to places now.fits

pub loop-segment-preserved : goal.loop-segment-preserved
loop-segment-preserved g c =
    let sum : List ℕ → ℕ = g.C.Checksum.sum_of in
    let cfg : Config = c.args.config.now.config in
    let size : ℕ = cfg.segment_size in
    let old : Trace = g.D.Device.trace c.args.config.now.device in
    let log : List ℕ = (state_of old).log.bytes in
    let ss : List Segment = c.args.segments.now in
    let i : ℕ = c.loop-segment.segment-index in
    let s : Segment = get_or ss i none in
    let p : Pass = record { segment = s; scan = c.in-Ok.scan } in
    let ps : List Pass = c.loop-segment.passes.items in
    let new : List Pass = c.push.new.self.items in
    let is = c.in_ok-push-in-Ok.ensures.items in
    let lt = c.loop-segment-test.true in
    let at = c.if-segment-place.false in
    let place : ℕ = c.loop-segment.place in
    let now = c.loop-segment.invariant in
    let ready = c.requires.ready s (Contains-get_or ss i none lt) in
    let from = c.in-Ok.ensures.stop.0 in
    let to : p.scan.stop ≤ size = subst (λ (x : Config). p.scan.stop ≤ x.segment_size) now.config c.in-Ok.ensures.stop.1 in
    let places = subst (λ (x : Config). All (λ (m : ScannedRecord). m.place < s.place + x.segment_size) p.scan.met.items) now.config c.in-Ok.ensures.places in
    let scanned = was_so (λ n l. IsScanned sum n l (pass_of p)) cfg c.loop-segment.config.config old (g.D.Device.trace c.loop-segment.config.device) now.config now.trace c.in-Ok.ensures.scan in
    let whole : p.scan.ending ≢ Broken = λ breaks. let yes = c.is_broken-breaks.ensures.1 breaks in let no = c.if-breaks.false in cc in
    let more : map pass_of new ≡ map pass_of ps ++ pass_of p ∷ [] = ap (map pass_of) is ∙ map-append pass_of ps (p ∷ []) in
    record {
      read = subst (λ (l : List Scanned). IsTailPart sum size log ss c.args.begin l (place + size)) (sym more) (part_more sum size log ss c.args.begin (map pass_of ps) place (pass_of p) now.read (Contains-get_or ss i none lt) at scanned whole);
      scanned = all_scanned sum size cfg.least log ss i place ps p new is at ready from to lt refl scanned now.scanned;
      ends = ends_there sum size cfg.least log ss i place ps p new is at ready from to;
      end = end_before sum size cfg.least log ss i place ps p new is at ready from to;
      before = ended_on size (some size cfg.least) ss i none lt place now.before at;
      left = left_on size (some size cfg.least) ss i none lt place now.aligned now.ascending now.left at;
      ascending = ascends_left size (some size cfg.least) ss i none lt now.ascending;
      aligned = add-mod_right place size ∙ now.aligned;
      fits = all_fit sum size cfg.least log ss i place ps p new is at ready from to places now.fits;
      size = now.size;
      trace = c.scan_of.ensures.reads.unwritten ∙ now.trace;
      faults = c.in-Ok.ensures.answers ∙ now.faults;
      config = c.scan_of.ensures.reads.config ∙ now.config;
      checksum = c.scan_of.ensures.reads.checksum ∙ now.checksum;
    }
