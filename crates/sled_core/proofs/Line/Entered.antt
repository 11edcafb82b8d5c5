-- Which reservations begin below a place: once the current buffer is sealed, and once a further segment is begun.
use Rattle.std.proofs.Common.{◌≡◌, ◌<◌, ◌≤◌, ◌+◌, arith, refl, ℕ, Option, None, Some, List, [], ◌∷◌, ◌++◌, length, drop}
use Rattle.sled_core.specs.inside.Begun.{AreEntered, AreFilled, IsUnfilled, IsUsed, IsUsedToEnd}
use Rattle.sled_core.specs.Begun.{SegmentView, begin_of, records_to}
use Rattle.sled_core.specs.inside.Buffers.{records_end}
use Rattle.sled_core.specs.SealedBuffers.{seal_at, sealed_count}
use Rattle.sled_core.specs.Waiting.{at_last, last_of, sealed_now}
use Rattle.sled_core.proofs.Line.Segments.{AreSegments}
use Rattle.sled_core.proofs.Sealed.Appended.{end_one}

-- a segment whose reservations begin below it
abbrev pub IsEntered : ℕ → SegmentView → Type 0
IsEntered to v = AreEntered to v.parts.site.place v.parts.reserved

-- The last segment's are below it, and its current buffer begins within it.
pub filled_last : (size to : ℕ) (v : SegmentView) (vs : List SegmentView) → AreFilled size to (v ∷ vs) → (begin_of (last_of v vs) < size) × (to ≤ (last_of v vs).parts.site.place + length (last_of v vs).parts.bytes) × IsEntered to (last_of v vs)
filled_last size to v [] filled = (filled.0, filled.1, filled.2)
filled_last size to v (w ∷ ws) filled = filled_last size to w ws filled.2

-- Where nothing fills a segment its records go up to its bytes' end.
pub unfilled_to : (o : Option ℕ) (n : ℕ) → IsUnfilled o → records_to o n ≡ n
unfilled_to None n unfilled = refl
unfilled_to (Some from) n unfilled = absurd unfilled

-- It goes by a greater place, too.
pub used_up : (to to' : ℕ) (v : SegmentView) → to ≤ to' → IsUsed to v.parts.site.place (length v.parts.bytes) → IsUsed to' v.parts.site.place (length v.parts.bytes)
used_up to to' v up used = λ some. let above = used some in omega (arith, above, up)

-- What was reserved ends where it does, where it has more than its header,
pub last_used_to : (size to : ℕ) (v : SegmentView) (vs : List SegmentView) → AreFilled size to (v ∷ vs) → IsUsedToEnd to (last_of v vs).parts.site.place (length (last_of v vs).parts.bytes)
last_used_to size to v [] filled = filled.5
last_used_to size to v (w ∷ ws) filled = last_used_to size to w ws filled.2

-- so it has something reserved,
pub used_end : (to place len : ℕ) → IsUsedToEnd to place len → IsUsed to place len
used_end to place len used = λ some. let end = used some in omega (arith, end, some)

pub last_used : (size to : ℕ) (v : SegmentView) (vs : List SegmentView) → AreFilled size to (v ∷ vs) → IsUsed to (last_of v vs).parts.site.place (length (last_of v vs).parts.bytes)
last_used size to v vs filled = used_end to (last_of v vs).parts.site.place (length (last_of v vs).parts.bytes) (last_used_to size to v vs filled)

-- and nothing fills it.
pub last_unfilled : (size to : ℕ) (v : SegmentView) (vs : List SegmentView) → AreFilled size to (v ∷ vs)
    → IsUnfilled (last_of v vs).parts.filled × (length (last_of v vs).parts.bytes ≤ records_end (last_of v vs).parts.reserved (length (last_of v vs).parts.bytes))
last_unfilled size to v [] filled = (filled.3, filled.4)
last_unfilled size to v (w ∷ ws) filled = last_unfilled size to w ws filled.2

-- All segments are filled still once the current buffer is sealed, behind which there is room.
pub filled_sealed : (size to : ℕ) (v : SegmentView) (vs : List SegmentView) → length (last_of v vs).parts.bytes < size → AreFilled size to (v ∷ vs) → AreFilled size to (at_last sealed_now (v ∷ vs))
filled_sealed size to v [] room filled = (
  (let end = end_one v.parts.written_len v.parts.sealed (seal_at (length v.parts.bytes) (drop (sealed_count v.parts.sealed) v.parts.reserved)) in omega (arith, end, room)),
  filled.1,
  filled.2,
  filled.3,
  filled.4,
  filled.5,
)
filled_sealed size to v (w ∷ []) room filled = (filled.0, filled.1, filled_sealed size to w [] room filled.2, filled.3, filled.4, filled.5)
filled_sealed size to v (w ∷ x ∷ xs) room filled = (filled.0, filled.1, filled_sealed size to w (x ∷ xs) room filled.2, filled.3, filled.4, filled.5)

-- The place lies behind a segment that lies before it.
abbrev pub LiesBehind : ℕ → ℕ → SegmentView → Type 0
LiesBehind size to v = to ≤ v.parts.site.place + size → to ≤ v.parts.site.place + records_to v.parts.filled size

-- What begins behind the last segment begins behind the others.
pub last_above : (size place : ℕ) (v : SegmentView) (vs : List SegmentView) → AreSegments size place (v ∷ vs) → place ≤ (last_of v vs).parts.site.place
last_above size place v [] are = let at = are.0.at in omega (arith, at)
last_above size place v (w ∷ ws) are = let up = last_above size (place + size) w ws are.1 in omega (arith, up)

-- A place that lies behind the beginning of the last segment lies in nothing that fills one of the others.
pub behind_filling : (size to place : ℕ) (v w : SegmentView) (ws : List SegmentView) → AreSegments size place (v ∷ w ∷ ws) → (last_of w ws).parts.site.place < to → LiesBehind size to v
behind_filling size to place v w ws are far low = let up = last_above size (place + size) w ws are.1 in let at = are.0.at in absurd (omega (arith, far, up, at, low))

-- A segment is begun behind them, which has nothing reserved: then they are filled to their end, each.
module _ (size to : ℕ) (f : SegmentView → SegmentView) (next : SegmentView) (here : (begin_of next < size) × (to ≤ next.parts.site.place + length next.parts.bytes) × IsEntered to next)
    (unfilled : IsUnfilled next.parts.filled) (empty : length next.parts.bytes ≤ records_end next.parts.reserved (length next.parts.bytes)) (bare : length next.parts.bytes ≤ 20) where
  pub filled_begun : (v : SegmentView) (vs : List SegmentView) → begin_of (f (last_of v vs)) ≡ size → IsEntered to (f (last_of v vs))
      → (records_to (f (last_of v vs)).parts.filled size ≤ records_end (f (last_of v vs)).parts.reserved size) × LiesBehind size to (f (last_of v vs)) × IsUsed to (f (last_of v vs)).parts.site.place (length (f (last_of v vs)).parts.bytes)
      → AreFilled size to (v ∷ vs) → AreFilled size to (at_last f (v ∷ vs) ++ next ∷ [])
  filled_begun v [] full entered ends filled = (full, entered, (here.0, here.1, here.2, unfilled, empty, λ some. absurd (omega (arith, some, bare))), ends.0, ends.1, ends.2)
  filled_begun v (w ∷ []) full entered ends filled = (filled.0, filled.1, filled_begun w [] full entered ends filled.2, filled.3, filled.4, filled.5)
  filled_begun v (w ∷ x ∷ xs) full entered ends filled = (filled.0, filled.1, filled_begun w (x ∷ xs) full entered ends filled.2, filled.3, filled.4, filled.5)
