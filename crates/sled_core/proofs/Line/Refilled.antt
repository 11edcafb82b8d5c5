-- Where what fills a segment behind the first one begins is noted, while that isn't full on the device: a reader finds the same of the file.
use Rattle.std.proofs.Common.{◌<◌, ◌+◌, ℕ, List, ◌∷◌, ◌++◌, Option, sym, subst, arith, inl, inr}
use Rattle.std.proofs.lemmas.List.Elements.{Contains-append_right}
use Rattle.sled_codec.specs.History.{History}
use Rattle.sled_codec.specs.Snapshots.{SnapshotModel}
use Rattle.sled_store.proofs.Segments.Elements.{in_first}
use Rattle.sled_core.specs.Begun.{records_to}
use Rattle.sled_core.specs.declared.iobuf.SegmentPosition.{SegmentPosition}
use Rattle.sled_core.specs.inside.Reached.{BegunSegment, StandsAmong, StandsIn}
use Rattle.sled_core.specs.Tail.{least_place}
use Rattle.sled_core.proofs.Reached.SegmentsBeside.{as_far, begins_still, follow_still, was_other}

pub refilled_stands : (sum : List ℕ → ℕ) (size : ℕ) (log : List ℕ) (site : SegmentPosition) (from : ℕ) (pre : List BegunSegment) (y : BegunSegment) (post : List BegunSegment) (o : Option ℕ) (reach : ℕ) (H : History) (first : SnapshotModel) → y.from < size
    → {held : ℕ} → StandsAmong sum held size log site from (pre ++ y ∷ post) reach H first → StandsAmong sum held size log site from (pre ++ as_far y y.from o ∷ post) reach H first
refilled_stands sum size log site from pre y post o reach H first less among = record {
  stands = among.stands;
  low = among.low;
  reached = among.reached;
  led = among.led;
  here = among.here;
  behind = λ x has. elim (was_other site pre y post y.from o among.apart x has) [
    | inl one ↦ subst (λ (w : BegunSegment). StandsIn sum size log (least_place size first) among.stands.scanned w.site w.from (records_to w.filled size)) (sym one) its
    | inr (had, other, behind) ↦ among.behind x had
  ];
  apart = follow_still site pre y post y.from o among.apart;
  last = λ s found. elim (among.last s found) [ inl low ↦ inl low | inr one ↦ inr (begins_still pre y post y.from s.place o one) ];
  below = among.below;
}
  where
    had_it : StandsIn sum size log (least_place size first) among.stands.scanned y.site y.from (records_to y.filled size)
    had_it = among.behind y (Contains-append_right pre (y ∷ post) y (in_first y post))

    its : StandsIn sum size log (least_place size first) among.stands.scanned y.site y.from (records_to o size)
    its = record { only = had_it.only; own = had_it.own; read = λ later. let r = had_it.read later in (r.0, r.1, r.2, r.3, λ whole. absurd (omega (arith, whole, less))) }
