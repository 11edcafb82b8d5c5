-- Buffers one behind another, as they are seen without their bytes: which of them lie below a place, and which are held up by reservations that are open.
use Rattle.std.specs.Prelude.{◌-◌, ◌==◌, ◌&&◌, nat_lt, nat_le, if◌then◌else◌, suc, ℕ, Bool, List, [], ◌∷◌, Option, None}
use Rattle.sled_core.specs.OpenPlaces.{first_between}
use Rattle.sled_core.specs.Waiting.{BufferStart, Span, first_held, is_unheld}

-- a buffer has a place
abbrev pub spans_place : ℕ → Span → Bool
spans_place at s = nat_le s.place at && nat_lt at s.end

-- all of them but the first that has a place
abbrev pub spans_without : ℕ → List Span → List Span
spans_without at [] = []
spans_without at (s ∷ ss) = if spans_place at s then ss else s ∷ spans_without at ss

-- those that begin below a place, and the others
abbrev pub spans_below : ℕ → List Span → List Span
spans_below to [] = []
spans_below to (b ∷ bs) = if nat_lt b.place to then b ∷ spans_below to bs else []

abbrev pub spans_from : ℕ → List Span → List Span
spans_from to [] = []
spans_from to (b ∷ bs) = if nat_lt b.place to then spans_from to bs else b ∷ bs

-- all before the first of them is on the device, or before the current one
abbrev pub first_waiting : List Span → BufferStart → ℕ
first_waiting [] start = start.place
first_waiting (b ∷ bs) start = b.place

-- the least of the places that lies in a buffer, and in several
abbrev pub held : List ℕ → Span → Option ℕ
held places s = first_between s.place s.end places

abbrev pub held_among : List ℕ → List Span → Option ℕ
held_among places [] = None
held_among places (s ∷ ss) = first_held (held places s) (held_among places ss)

-- how many of them have none, so that they can be written
abbrev pub count_unheld : List ℕ → List Span → ℕ
count_unheld places [] = 0
count_unheld places (s ∷ ss) = if is_unheld (held places s) then suc (count_unheld places ss) else count_unheld places ss

-- all of them but the i-th that can be written
abbrev pub without_unheld : List ℕ → ℕ → List Span → List Span
without_unheld places i [] = []
without_unheld places i (s ∷ ss) =
    if is_unheld (held places s) then (if i == 0 then ss else s ∷ without_unheld places (i - 1) ss) else s ∷ without_unheld places i ss
