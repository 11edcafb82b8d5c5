-- The segments of the slots of a log, one slot behind another.
use Rattle.std.proofs.Common.{◌≡◌, ◌∙◌, ◌+◌, ◌<◌, ℕ, zero, suc, List, [], ◌∷◌, ◌++◌, length, take, get_or, Option, Some, None, IfSome, ap, sym, arith}
use Rattle.std.specs.List.{All}
use Rattle.std.proofs.lemmas.List.Elements.{All-cons, All-nil}
use Rattle.std.proofs.lemmas.List.{append_assoc, append-nil}
use Rattle.sled_store.specs.SegmentStates.{SlotState, free_slot}
use Rattle.sled_core.specs.declared.iterator.Segment.{Segment}
use Rattle.sled_core.specs.inside.LogSegments.{list_of}
use Rattle.sled_core.specs.LogSegments.{segment_within, segments_among}

-- those of one slot more
pub among_further : (size from to i : ℕ) (slots : List SlotState) (k j : ℕ) → j ≡ i + k → k < length slots → segments_among size from to i (take (suc k) slots) ≡ segments_among size from to i (take k slots) ++ segment_within size from to j (get_or slots k free_slot)
among_further size from to i [] k j is lt = absurd (omega (arith, lt))
among_further size from to i (s ∷ ss) zero j is lt = append-nil (segment_within size from to i s) ∙ ap (λ n. segment_within size from to n s) (omega (arith, is))
among_further size from to i (s ∷ ss) (suc k) j is lt =
    ap (λ (l : List Segment). segment_within size from to i s ++ l) (among_further size from to (suc i) ss k j (omega (arith, is)) (omega (arith, lt)))
    ∙ sym (append_assoc (segment_within size from to i s) (segments_among size from to (suc i) (take k ss)) (segment_within size from to j (get_or ss k free_slot)))

-- what holds of what there is holds of all of it
pub all_of : {A : Type 0} (P : A → Type 0) (o : Option A) → IfSome o P → All P (list_of o)
all_of P None holds = All-nil P
all_of P (Some a) holds = All-cons P a [] holds (All-nil P)
