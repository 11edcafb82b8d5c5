use Rattle.std.proofs.Common.{◌≡◌, ◌∙◌, ◌%◌, ◌/◌, ◌<◌, ◌^◌, ℕ, ℤ, List, Option, unwrap_or, inl, inr, refl, sym, ap, subst, arith}
use Rattle.std.specs.List.{All, Contains}
use Rattle.std.proofs.Math.Nat.{mul-mod_left}
use Rattle.sled_core.specs.declared.iterator.Segment.{Segment}
use Rattle.sled_store.specs.declared.config.Config.{Config}
use Rattle.sled_store.specs.Device.{Trace, state_of}
use Rattle.sled_log.specs.Recovery.{Scanned, IsTail, HaveGoodBlobs, begun_below, greatest_mark}
use Rattle.sled_log.specs.Passes.{CanBeRead}
use Rattle.std.specs.Prelude.{Vec}
use Rattle.std.specs.declared.alloc.Global.{Global}
use Rattle.sled_core.specs.declared.iterator.rest.Rest.{Rest}
use Rattle.sled_log.specs.IteratorBegins.{IsBegun, IsDamagedFrom}
use Rattle.sled_log.proofs.Passes.DamageNames.{damage_as, damage_unnamed}
use Rattle.sled_core.specs.Ahead.{CanBeGiven, HasEnds}
use Rattle.sled_core.specs.inside.Ahead.{IsLeft}
use Rattle.sled_log.proofs.Passes.Found.{all_ready}
use Rattle.sled_log.proofs.Passes.Same.{still_so, was_so_in}
use Rattle.sled_log.proofs.Iterates.BeginLemmas.{left_begun}
use Rattle.sled_core.proofs.Iterates.KeptLemmas.{ends_of_all}
use Rattle.sled_log.proofs.Iterates.FoundLemmas.{begun_in}
use Rattle.sled_log.proofs.iterator.begin.begin_at.Goals as goal

pub tail_end-requires-clause-ready : goal.tail_end-requires-clause-ready
tail_end-requires-clause-ready g c = λ s there.
    let cfg : Config = c.args.config.now.config in
    let old : Trace = g.D.Device.trace c.args.config.now.device in
    let least : ℕ = c.args.least in
    still_so (λ n l. CanBeRead n l s) cfg c.find_segments.new.config.config old (g.D.Device.trace c.find_segments.new.config.device) c.in-Ok.ensures.reads.config c.in-Ok.ensures.reads.unwritten
    (all_ready g.C.Checksum.sum_of cfg.segment_size (state_of old).log.bytes least c.in-Ok.segments.items c.in-Ok.ensures.small c.in-Ok.ensures.ordering s (subst (λ (l : List Segment). Contains l s) c.deref-in-Ok.ensures.value there))

pub tail_end-requires-clause-begin : goal.tail_end-requires-clause-begin
tail_end-requires-clause-begin g c =
    let size : ℕ = c.args.config.now.config.segment_size in
    let greatest : ℕ = greatest_mark c.args.least c.deref.result.now in
    subst (λ (x : Config). c.tail_begins-begin.result % x.segment_size ≡ 0) (sym c.in-Ok.ensures.reads.config) (ap (λ k. k % size) c.tail_begins-begin.ensures ∙ mul-mod_left (greatest / size) size)

pub returns-in-Ok-tail_end-clause-begins : goal.returns-in-Ok-tail_end-clause-begins
returns-in-Ok-tail_end-clause-begins g c =
    let sum : List ℕ → ℕ = g.C.Checksum.sum_of in
    let cfg : Config = c.args.config.now.config in
    let size : ℕ = cfg.segment_size in
    let old : Trace = g.D.Device.trace c.args.config.now.device in
    let now : Trace = g.D.Device.trace c.find_segments.new.config.device in
    let log : List ℕ = (state_of old).log.bytes in
    let blobs : ℤ → Option (List ℕ) = (state_of old).blobs.file in
    let least : ℕ = c.args.least in
    let ss : List Segment = c.in-Ok.segments.items in
    let begin : ℕ = c.tail_begins-begin.result in
    let found = c.in-Ok-tail_end.ensures.end in
    let xs : List Scanned = found.0 in
    let there = subst (λ (l : List Segment). IsTail sum c.find_segments.new.config.config.segment_size (state_of now).log.bytes l begin xs) c.deref-in-Ok.ensures.value found.1 in
    let here = was_so_in (λ n s. IsTail sum n s.log.bytes ss begin xs × HaveGoodBlobs sum s.blobs.file xs) cfg c.find_segments.new.config.config old now c.in-Ok.ensures.reads.config c.in-Ok.ensures.reads.unwritten (there, found.2) in
    let begins = rw c.deref.ensures.value at c.tail_begins-begin.ensures in
    let tail = subst (λ n. IsTail sum size log ss n xs) begins here.0 in
    let inside = λ (x : Segment) (in_all : Contains ss x). (all_ready sum size log least ss c.in-Ok.ensures.small c.in-Ok.ensures.ordering x in_all).inside in
    let r = c.rest_of.ensures in
    let begun = left_begun g.D.Device.trace sum c.args.config.now c.rest_of.result r.strict ss c.in-Ok-tail_end.end r.segments r.end r.read r.met r.given r.undamaged inside in
    (ss, c.in-Ok.ensures.ordering, (xs, tail, here.1, subst (λ (o : Option ℕ). IsBegun sum size log blobs ss o (IsLeft g.D.Device.trace sum c.args.config.now c.rest_of.result)) (sym found.3) begun))

pub returns-in-Ok-tail_end-clause-fits : goal.returns-in-Ok-tail_end-clause-fits
returns-in-Ok-tail_end-clause-fits g c =
    let sum : List ℕ → ℕ = g.C.Checksum.sum_of in
    let size : ℕ = c.args.config.now.config.segment_size in
    let log : List ℕ = (state_of (g.D.Device.trace c.args.config.now.device)).log.bytes in
    let least : ℕ = c.args.least in
    let ss : List Segment = c.in-Ok.segments.items in
    let end : ℕ = unwrap_or c.in-Ok-tail_end.end 0 in
    let ready = λ (s : Segment) (there : Contains (begun_below end ss) s). all_ready sum size log least ss c.in-Ok.ensures.small c.in-Ok.ensures.ordering s (begun_in end ss s there) in
    let r = c.rest_of.ensures in (
      subst (λ n. n < 2 ^ 63) (sym r.end) c.in-Ok-tail_end.ensures.small,
      subst (All (HasEnds size)) (sym r.segments) (ends_of_all size log (begun_below end ss) ready),
      subst (All CanBeGiven) (sym r.met) (λ k d lt. absurd (omega (arith, lt))),
    )

pub returns-in-Err-clause-corrupt : goal.returns-in-Err-clause-corrupt
returns-in-Err-clause-corrupt g c =
    let s = state_of (g.D.Device.trace c.args.config.now.device) in
    damage_unnamed (Vec Segment Global) Rest c.in-Err.e _ _ (IsDamagedFrom g.C.Checksum.sum_of c.args.config.now.config.segment_size s.log.bytes s.blobs.file c.args.least) c.in-Err.ensures.answers (λ corrupt. inl (refl, c.in-Err.ensures.corrupt corrupt))
