-- What a log file has besides what is shown of it stays so where the history grows, at a place that isn't below the base: each segment that is gone ends there or
-- below.
use Rattle.std.proofs.Common.{⊎_elim, ◌≡◌, ◌∙◌, ◌+◌, ◌*◌, ◌%◌, ◌≤◌, ℕ, ℤ, List, ap, arith, inl, inr}
use Rattle.std.proofs.Math.Nat.{mul-mod_left}
use Rattle.std.proofs.lemmas.Int.{ints}
use Rattle.sled_codec.specs.History.{History}
use Rattle.sled_store.specs.Device.{State}
use Rattle.sled_store.specs.SegmentStates.{Machine}
use Rattle.sled_core.specs.Begun.{SegmentView}
use Rattle.sled_core.specs.Scan.{IsScan}
use Rattle.sled_core.specs.Tail.{Scanned}
use Rattle.sled_core.specs.declared.iterator.Segment.{Segment}
use Rattle.sled_core.specs.inside.Hides.{Hides, HidesFrom, IsGone, IsTrueReading}
use Rattle.sled_core.specs.inside.Recoverable.{IsMarkOf}
use Rattle.sled_core.specs.inside.Slots.{marked_at}
use Rattle.sled_core.proofs.Reached.GrowsAt.{GrowsAbove, beside_grown, no_batch_grown, no_message_grown}
use Rattle.sled_core.proofs.Tail.Rows.{path_stands, path_within, stand_in}
use Rattle.sled_core.specs.Tail.{least_place}

module _ (sum : List ℕ → ℕ) (size : ℕ) (some : 256 ≤ size) (H H' : History) (base low : ℕ) (grows : GrowsAbove H H' low) (under : base ≤ low) where
  -- What is read of such a segment is of the grown history,
  reading_grown : (log : List ℕ) (k place : ℕ) (mark : ℤ) → place + size ≤ base → IsTrueReading sum size log H (marked_at (k * size) place mark)
      → IsTrueReading sum size log H' (marked_at (k * size) place mark)
  unfolding IsScan
  reading_grown log k place mark below r =
      let t : Scanned = r.scan in
      let at : ℕ = grows.at in
      let above = grows.above in
      let at_place : t.segment.place ≡ place = ap (λ (x : Segment). x.place) r.segment in
      let slot : t.segment.slot % size ≡ 0 = ap (λ (x : Segment). x.slot % size) r.segment ∙ mul-mod_left k size in
      let within = path_within sum size log t.segment.slot t.segment.place slot 20 t.met t.stop (omega (arith, some)) r.read.0 in
      let path = path_stands sum size log t.segment.slot t.segment.place 20 t.met t.stop r.read.0 in
      let far : t.segment.place + size ≤ at = omega (arith, at_place, below, under, above) in
      record {
        scan = t;
        segment = r.segment;
        read = r.read;
        truth = λ x met.
            let lies = stand_in (t.segment.place + 20) t.met (t.segment.place + t.stop) path x met in
            beside_grown H H' at grows.grows sum size log x (λ from up. inr (omega (arith, lies.2, within, far))) (r.truth x met);
        caps = (
          λ capped.
              let had = r.caps.0 capped in (
                no_message_grown H H' at grows.grows (t.segment.place + t.stop) (t.segment.place + size) (inr far) had.0,
                no_batch_grown H H' at grows.grows (t.segment.place + t.stop) (t.segment.place + size) (inr far) had.1,
              ),
          λ goes b there. ⊎_elim (r.caps.1 goes b) (λ up. inr (omega (arith, at_place, below, under, up))) (grows.ends b there),
        );
      }

  -- its mark is one of that,
  mark_grown : (k place : ℕ) (mark : ℤ) → place + size ≤ base → IsMarkOf H (marked_at (k * size) place mark) → IsMarkOf H' (marked_at (k * size) place mark)
  mark_grown k place mark below is = record {
    least = is.least;
    below = is.below;
    apart = λ b there. elim (grows.grows.batch_was b there) [
      | inl had ↦ is.apart b had
      | inr own ↦ inl (let less = is.below in let above = grows.above in omega (arith, ints, less, below, under, above, own))
    ];
  }

  -- and so it is gone for that.
  gone_grown : (s : State) (m : Machine) (k place : ℕ) (mark : ℤ) → IsGone sum size s m base H k place mark → IsGone sum size s m base H' k place mark
  gone_grown s m k place mark gone = record {
    no_slot = gone.no_slot;
    aligned = gone.aligned;
    below = gone.below;
    is_mark = mark_grown k place mark gone.below gone.is_mark;
    reading = λ log own. reading_grown log k place mark gone.below (gone.reading log own);
  }

  hides_grown : (s : State) (m : Machine) (line : List SegmentView) (least : ℕ) → Hides sum size s m line least base H → Hides sum size s m line least base H'
  hides_grown s m line least hides = record {
    to_come = hides.to_come;
    taken = hides.taken;
    free = hides.free;
    headers = λ k place mark above own. elim (hides.headers k place mark above own) [
      | inl shown ↦ inl shown
      | inr gone ↦ inr (gone_grown s m k place mark gone)
    ];
    alone = hides.alone;
  }

  pub from_grown : (s : State) (m : Machine) (line : List SegmentView) → HidesFrom sum size base s m line H → HidesFrom sum size base s m line H'
  from_grown s m line hides first begins = hides_grown s m line (least_place size first) (hides first begins)
