-- What a log file has besides what is shown stays so where a segment is begun in a free slot, and where segments that are wholly written leave the line.
use Rattle.std.proofs.Common.{◌≡◌, ◌∙◌, ◌+◌, ◌*◌, ◌/◌, ◌%◌, ◌^◌, ◌≤◌, ◌<◌, ℕ, suc, true, List, [], ◌∷◌, ◌++◌, length, length-append, refl, ap, arith}
use Rattle.std.proofs.Math.Nat.{suc-mul}
use Rattle.sled_codec.specs.History.{History}
use Rattle.sled_store.specs.Device.{State}
use Rattle.sled_store.specs.SegmentStates.{Machine, SlotState, handed_out, is_free, next_slot, slot_at}
use Rattle.sled_core.specs.Begun.{SegmentView, begin_of}
use Rattle.sled_core.specs.Waiting.{at_last, closed_now, last_of}
use Rattle.sled_core.specs.inside.Begun.{line_end}
use Rattle.sled_core.specs.inside.Hides.{Hides}
use Rattle.sled_core.specs.inside.Turned.{begun_view, next_line, promoted}
use Rattle.sled_core.proofs.Cleared.Calls.{cleared_next}
use Rattle.sled_core.proofs.Cleared.Moves.{cleared_promoted}
use Rattle.sled_core.proofs.Numbers.HidesAs.{hides_as, hides_begun}
use Rattle.sled_core.proofs.Line.Closes.{filled_site}
use Rattle.sled_core.proofs.Line.LineEnds.{end_at_last, end_left}
use Rattle.sled_core.proofs.Line.Segments.{AreSegments}
use Rattle.sled_core.proofs.Line.Shown.{line_rises}
use Rattle.sled_core.proofs.Start.OwnSlots.{handed_other, handed_there}

-- One segment more ends where the next one begins.
end_put : (size : ℕ) (line : List SegmentView) (v : SegmentView) → 0 < length line → line_end size (line ++ v ∷ []) ≡ line_end size line + size
end_put size [] v some = absurd (omega (arith, some))
end_put size (x ∷ xs) v some =
    let long : length (xs ++ v ∷ []) ≡ suc (length xs) = length-append xs (v ∷ []) ∙ (let one : length xs + 1 ≡ suc (length xs) = omega arith in one) in
    omega (arith, ap (λ n. suc n * size) long, suc-mul (suc (length xs)) size)

module _ (sum : List ℕ → ℕ) (size : ℕ) (s : State) (least base : ℕ) (H : History) where
  -- The segments at the front that are wholly written leave the line.
  pub hides_left : (m : Machine) (line : List SegmentView) (place : ℕ) → AreSegments size place line → Hides sum size s m line least base H
      → Hides sum size s m (promoted size line) least base H
  hides_left m line place are =
      hides_as sum size s least base H m m line (promoted size line) (λ k. refl) (λ k. refl)
      (cleared_promoted size m line s.log.bytes (line_rises size place line are))
      (omega (arith, end_left size place line are))

  -- So it is where a log begins a further segment, in the slot that is handed out next (which is free, as `AreSlots` says). It begins where the others end,
  -- at a multiple of the size (`HasSlots`), and the mark lies below that.
  module _ (m : Machine) (v : SegmentView) (vs : List SegmentView) (low : begin_of (last_of v vs) ≤ length (last_of v vs).parts.bytes)
      (high : length (last_of v vs).parts.bytes ≤ size) (small : (last_of v vs).parts.site.place / size < 2 ^ 64) (stable : ℕ)
      (free : is_free (slot_at m (next_slot m)).state ≡ true) (within : next_slot m ≤ length m.slots)
      (aligned : line_end size (v ∷ vs) % size ≡ 0) (some : 0 < size) (below : base ≤ line_end size (v ∷ vs)) where
    abbrev place : ℕ
    place = line_end size (v ∷ vs)

    next_end : line_end size (next_line sum size m stable (v ∷ vs)) ≡ place + size
    next_end =
        end_put size (at_last (closed_now sum size) (v ∷ vs)) (begun_view sum size m stable (last_of v vs)) (closed_some vs)
        ∙ ap (λ n. n + size) (end_at_last size (closed_now sum size) (filled_site sum size) (v ∷ vs)) where
          closed_some : (ws : List SegmentView) → 0 < length (at_last (closed_now sum size) (v ∷ ws))
          closed_some [] = omega arith
          closed_some (w ∷ ws) = omega arith

    pub hides_next : Hides sum size s m (v ∷ vs) least base H
        → Hides sum size s (handed_out place m) (next_line sum size m stable (v ∷ vs)) least base H
    hides_next =
        hides_begun sum size s least base H m (handed_out place m) (v ∷ vs) (next_line sum size m stable (v ∷ vs)) (next_slot m) place
        (ap (λ (x : SlotState). x.lsn) (handed_there m within place)) (handed_other m within place)
        (cleared_next size m s.log.bytes sum v vs low high small some place stable free within) refl aligned (omega (arith, next_end)) some below
