-- A segment that is gone begins where one can, and no other one that is found begins there: so it does no harm.
use Rattle.std.proofs.Common.{◌⊎◌, ◌∙◌, ◌+◌, ◌*◌, ◌/◌, ◌%◌, ◌<◌, ◌≤◌, ℕ, ℤ, pos, List, sym, ap, subst, arith, inl, inr}
use Rattle.sled_codec.specs.History.{History}
use Rattle.sled_codec.specs.Places.{part}
use Rattle.sled_codec.specs.Record.{IsHeader}
use Rattle.sled_store.specs.Device.{State}
use Rattle.sled_store.specs.SegmentStates.{Machine}
use Rattle.sled_core.specs.declared.iterator.Segment.{Segment}
use Rattle.sled_core.specs.Begun.{SegmentView}
use Rattle.sled_core.specs.inside.Cleared.{cleared}
use Rattle.sled_core.specs.inside.FreeSlots.{HaveOwn}
use Rattle.sled_core.specs.inside.Hides.{Hides, IsOwnHeader, ReadsShown}
use Rattle.sled_core.specs.inside.Scan.{IsFoundSegment}
use Rattle.sled_core.proofs.Freed.NoHarm.{BeginsAlone}
use Rattle.sled_core.proofs.Torn.AlikeSlots.{slot_found}

-- Each header that stands in a file is own, or that of a segment at a place or above it: so it is in one in which nothing is foreign (`ReadsAs: own_header`),
-- and in what a crash leaves while a segment is begun that isn't below what is held.
abbrev pub HeadersOwnBelow : (List ℕ → ℕ) → ℕ → State → ℕ → List ℕ → Type 0
HeadersOwnBelow sum size s base log =
    (k place : ℕ) (mark : ℤ) → IsHeader sum (part log (k * size) 20) (pos place) mark → IsOwnHeader sum size s k place mark ⊎ (base ≤ place)

-- What is shown is read of bytes that count (`Quiet: shown_read`), and each slot that isn't free has its own segment (`HasSlots`).
module _ (sum : List ℕ → ℕ) (size : ℕ) (some : 0 < size) (s : State) (m : Machine) (line : List SegmentView) (least base : ℕ) (H : History)
    (hides : Hides sum size s m line least base H) (reads : ReadsShown sum size m (cleared size m line s.log.bytes) s.log.bytes)
    (end : ℕ) (own : HaveOwn size end m) (log : List ℕ) (headed : HeadersOwnBelow sum size s base log) where
  -- the header of a segment that is found and ends at the place or below it is own
  found_own : (low : ℕ) (t : Segment) → IsFoundSegment sum size log low t → t.place + size ≤ base → IsOwnHeader sum size s (t.slot / size) t.place t.mark
  found_own low t found below =
      elim (headed (t.slot / size) t.place t.mark
      (subst (λ n. IsHeader sum (part log n 20) (pos t.place) t.mark) (slot_found sum size log low t found) found.header)) [
        | inl its ↦ its
        | inr above ↦ absurd (omega (arith, above, below, some))
      ]

  -- Each segment that is found from the snapshot's on and ends there or below begins alone.
  pub found_alone : (t : Segment) → IsFoundSegment sum size log least t → t.place + size ≤ base → BeginsAlone sum size log t
  found_alone t found below = record {
    aligned = elim (hides.headers (t.slot / size) t.place t.mark found.not_below (found_own least t found below)) [
      | inl shown ↦ (
          let its = reads.slots (t.slot / size) t.place t.mark shown in
          ap (λ n. n % size) (sym its.1) ∙ own.aligned (t.slot / size) its.0)
      | inr gone ↦ gone.aligned
    ];
    alone = λ u also places.
        let there = subst (λ p. IsOwnHeader sum size s (u.slot / size) p u.mark) places (found_own 0 u also (omega (arith, below, places))) in
        let one = hides.alone (u.slot / size) (t.slot / size) t.place u.mark t.mark found.not_below there (found_own least t found below) in
        slot_found sum size log 0 u also ∙ ap (λ k. k * size) one ∙ sym (slot_found sum size log least t found);
  }
