use Rattle.std.proofs.Common.{◌≡◌, ◌∙◌, ◌≤◌, ◌+◌, ◌-◌, ◌∷◌, [], List, ℕ, ap, sym, subst, arith, take, drop, Some, length-take}
use Rattle.std.specs.List.{slice_get}
use Rattle.sled_store.specs.Device.{Event, Wrote, Synced}
use Rattle.sled_store.specs.Script.{Performs, after_all}
use Rattle.sled_core.specs.Begun.{SegmentView, view_at}
use Rattle.sled_core.specs.declared.iobuf.IoBuf.{IoBuf}
use Rattle.sled_core.specs.declared.iobuf.SegmentPosition.{SegmentPosition}
use Rattle.sled_core.specs.Fits.{line_of}
use Rattle.sled_core.specs.SealedBuffers.{bytes_between, sealed_end, writing}
use Rattle.sled_core.specs.inside.Turned.{write_in, write_of}
use Rattle.sled_core.proofs.Line.NthOpen.{nth_is, nth_there}
use Rattle.sled_core.proofs.Sealed.Slices.{slice_between}
use Rattle.sled_core.proofs.Line.Pooling.{ready_there}
use Rattle.sled_core.proofs.logger.Log.write_bytes.Goals as goal

pub overflow_add-at : goal.overflow_add-at
overflow_add-at g c =
    let is = nth_is c.args.self.now c.args.n c.segment-s.result.now c.segment-s.ensures in
    let short = is.short in
    let small = is.slot_small in
    omega (arith, short, small, c.span-from.ensures.rises, c.span-from.ensures.inside)

pub write_out-written-requires : goal.write_out-written-requires
write_out-written-requires g c =
    let is = nth_is c.args.self.now c.args.n c.segment-s.result.now c.segment-s.ensures in
    let short = is.short in
    let small = is.slot_small in
    omega (arith, short, small, c.span-from.ensures.rises, c.span-from.ensures.inside, length-take (c.span-from.result.1 - c.span-from.result.0) (drop c.span-from.result.0 c.as_slice.result.now))

-- It waits, so its bytes are there.
pub as_slice-requires : goal.as_slice-requires
as_slice-requires g c = ready_there c.args.self.now c.args.n c.args.k c.requires.ready c.segment-s.result.now c.segment-s.ensures

-- All but the device and the failure is as it was.

pub invariant_of-self : goal.invariant_of-self
invariant_of-self g c =
    let log = c.args.self.now in
    record {
      line = record {
        lies = log.line.lies;
        filled = log.line.filled;
        indexed = log.line.indexed;
      };
      account = log.account;
      noted = record {
        pegs = log.noted.pegs;
        counted = log.noted.counted;
      };
      pooling = record { few = log.pooling.few; room = log.pooling.room; there = log.pooling.there };
    }

pub invariant_of-self-in_default : goal.invariant_of-self-in_default
invariant_of-self-in_default g c =
    let log = c.args.self.now in
    record {
      line = record {
        lies = log.line.lies;
        filled = log.line.filled;
        indexed = log.line.indexed;
      };
      account = log.account;
      noted = record {
        pegs = log.noted.pegs;
        counted = log.noted.counted;
      };
      pooling = record { few = log.pooling.few; room = log.pooling.room; there = log.pooling.there };
    }

-- The calls are those that write the buffer.
calls_at : (line : List SegmentView) (n k : ℕ) (site : SegmentPosition) (b : IoBuf) (from to : ℕ) (whole : List ℕ) → slice_get line n ≡ Some (view_at site b) → from ≡ sealed_end b.written_len (take k b.sealed.items) → to ≡ sealed_end b.written_len (take (k + 1) b.sealed.items)
    → from ≤ to → whole ≡ b.bytes.items → let asked = take (to - from) (drop from whole) in Wrote (site.slot + from) asked asked ∷ Synced ∷ [] ≡ write_in line n k
calls_at line n k site b from to whole among at end rises same =
    ap (λ (xs : List ℕ). Wrote (site.slot + from) xs xs ∷ Synced ∷ []) (slice_between whole b.bytes.items from to rises same)
    ∙ (λ i. writing (site.slot + at i) (bytes_between b.bytes.items (at i) (end i)) [])
    ∙ ap (write_of k) (sym among)

pub returns-in-Err-clause-at_most : goal.returns-in-Err-clause-at_most
returns-in-Err-clause-at_most g c =
    subst (λ (es : List Event). Performs es (g.D.Device.trace c.args.self.now.config.device) (g.D.Device.trace c.write_out-written.new.device))
    (calls_at (line_of c.args.self.now) c.args.n c.args.k c.segment-s.result.now.site c.segment-s.result.now.buffer c.span-from.result.0 c.span-from.result.1 c.as_slice.result.now (nth_there c.args.self.now c.args.n c.segment-s.result.now c.segment-s.ensures) c.span-from.ensures.from c.span-from.ensures.to c.span-from.ensures.rises c.as_slice.ensures.value)
    c.write_out-written.ensures.calls

pub returns-clause-calls : goal.returns-clause-calls
returns-clause-calls g c =
    c.in_default.ensures.done
    ∙ ap (λ (es : List Event). after_all es (g.D.Device.trace c.args.self.now.config.device))
    (calls_at (line_of c.args.self.now) c.args.n c.args.k c.segment-s.result.now.site c.segment-s.result.now.buffer c.span-from.result.0 c.span-from.result.1 c.as_slice.result.now (nth_there c.args.self.now c.args.n c.segment-s.result.now c.segment-s.ensures) c.span-from.ensures.from c.span-from.ensures.to c.span-from.ensures.rises c.as_slice.ensures.value)

pub returns-clause-at_most : goal.returns-clause-at_most
returns-clause-at_most g c =
    subst (λ (es : List Event). Performs es (g.D.Device.trace c.args.self.now.config.device) (g.D.Device.trace c.write_out-written.new.device))
    (calls_at (line_of c.args.self.now) c.args.n c.args.k c.segment-s.result.now.site c.segment-s.result.now.buffer c.span-from.result.0 c.span-from.result.1 c.as_slice.result.now (nth_there c.args.self.now c.args.n c.segment-s.result.now c.segment-s.ensures) c.span-from.ensures.from c.span-from.ensures.to c.span-from.ensures.rises c.as_slice.ensures.value)
    c.write_out-written.ensures.calls
