-- Where no header has room behind what was written of a segment, that is full, without a byte behind its records: the next one begins, in a slot of zeros, or goes on as far as it was written before.
use Rattle.std.proofs.Common.{◌≡◌, ◌≤◌, ◌<◌, ◌+◌, ◌-◌, ◌%◌, ◌∙◌, ℕ, List, refl, sym, arith, inl, inr}
use Rattle.sled_codec.specs.Coords.{raised}
use Rattle.sled_codec.specs.History.{History}
use Rattle.sled_codec.specs.Snapshots.{SnapshotModel}
use Rattle.sled_core.specs.declared.iobuf.SegmentPosition.{SegmentPosition}
use Rattle.sled_core.specs.declared.iterator.scan.ScanEnd.{ScanEnd}
use Rattle.sled_core.specs.declared.iterator.scan.ScanEnd.TheVariants.{Full, Capped, Broken}
use Rattle.sled_core.specs.inside.Reached.{BegunSegment, LeadsTo, StandsAmong}
use Rattle.sled_core.specs.inside.Recoverable.{NoMessageBegins, NoBatchBegins, NoBatchEnds}
use Rattle.sled_core.specs.Scan.{IsEnd, IsScan}
use Rattle.sled_core.specs.Tail.{Scanned, least_place}
use Rattle.sled_core.specs.inside.Full.{StandsFull}
use Rattle.sled_core.proofs.Reached.Marks.{less_than}
use Rattle.sled_core.proofs.Tail.Multiples.{next_multiple, one_multiple}
use Rattle.sled_core.proofs.Tail.OneTail.{segment_there}
use Rattle.sled_core.proofs.Tail.SegmentsFrom.{tail_within}

-- where no header has room, that is why the reading ends
pub full_why : (sum : List ℕ → ℕ) (size : ℕ) (log : List ℕ) (slot place at : ℕ) (why : ScanEnd) → size < at + 32 → IsEnd sum size log slot place at why → why ≡ Full
full_why sum size log slot place at Full full end = refl
full_why sum size log slot place at Capped full end = absurd (let room = end.0 in omega (arith, room, full))
full_why sum size log slot place at Broken full end = absurd (let room = end.0 in omega (arith, room, full))

module _ (sum : List ℕ → ℕ) (size : ℕ) (some : 256 ≤ size) (log : List ℕ) (site : SegmentPosition) (place_begins : site.place % size ≡ 0)
    (from : ℕ) (begun : 0 < from) (within : from ≤ size) (full : size < from + 32) (H : History) (first : SnapshotModel) (low : least_place size first ≤ site.place)
    {others : List BegunSegment} {held : ℕ} (among : StandsAmong sum held size log site from others (site.place + from) H first) where
  -- What was reached ends in the segment, so it is read up to there, or leads on.
  leads : LeadsTo sum size log (least_place size first) (site.place + from) (site.place + size)
  unfolding IsScan
  leads =
      let is = among.stands in
      let begins = tail_within size some (least_place size first) site.place place_begins low is.ordering
      (λ s there. less_than s.mark (site.place + from) (site.place + size) (omega (arith, within)) (among.below s ((is.numbers.found s).0 there))) in
      let g = is.gapless site.place place_begins (omega (arith, begins, is.tail_from)) (omega (arith, begun)) in
      let t : Scanned = g.0 in
      let known = segment_there sum size log among.stands.ordering among.stands.scanned among.stands.reads t g.1 in
      let at : t.segment.place ≡ site.place = g.2 in
      record {
        scan = t;
        found = (among.stands.numbers.found t.segment).0 known.0;
        read = known.1;
        next = omega (arith, at);
        goes = elim g.3 [
          | inl far ↦ λ broken. (let never : Full ≡ Broken = sym (full_why sum size log t.segment.slot t.segment.place t.stop t.why (omega (arith, far, full)) known.1.1) ∙ broken in cc)
          | inr on ↦ on.0
        ];
        below = omega (arith, at, begun);
      }

  further : raised size (site.place + from) ≡ site.place + size
  further = one_multiple size some (site.place + size) (site.place + from + (size - 1)) (next_multiple size site.place place_begins) (omega (arith, begun, some)) (omega (arith, within, some))

  -- The reading goes on behind it, in those that were begun there.
  pub full_among : NoMessageBegins H (site.place + from) (site.place + size) → NoBatchBegins H (site.place + from) (site.place + size) → NoBatchEnds H (site.place + from) (site.place + size)
      → StandsFull sum held size log (site.place + size) others (site.place + from) H first
  full_among no_message no_batch no_end = record {
    stands = among.stands;
    low = among.low;
    leads = leads;
    near = record { above = omega (arith, within); next = omega (arith, further); no_message = no_message; no_batch = no_batch; no_end = no_end };
    behind = among.behind;
    last = λ s found. elim (among.last s found) [ inl under ↦ inl (omega (arith, under, some)) | inr one ↦ inr one ];
    below = λ s found. less_than s.mark (site.place + from) (site.place + size) (omega (arith, within)) (among.below s found);
  }
