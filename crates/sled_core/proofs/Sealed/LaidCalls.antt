-- What the log file has of sealed buffers stays as it is where a place is reserved behind them, and where a reservation ends.
use Rattle.std.proofs.Common.{◌≡◌, ◌≤◌, ◌<◌, ◌+◌, ◌⊎◌, ◌∙◌, ℕ, max, List, [], ◌∷◌, ◌++◌, length, drop, get_or, sym, ap, arith, refl, inl, inr, false, length-append, Some}
use Rattle.std.specs.List.{slice_get}
use Rattle.std.proofs.lemmas.List.{get_or_append_left, get_or-take, get_or-drop}
use Rattle.sled_codec.specs.Written.{written}
use Rattle.sled_codec.specs.Places.{part}
use Rattle.sled_core.specs.declared.iobuf.ReservationState.{ReservationState}
use Rattle.sled_core.specs.declared.iobuf.ReservationState.TheVariants.{Open}
use Rattle.sled_core.specs.declared.iobuf.Reserved.{Reserved}
use Rattle.sled_core.specs.declared.iobuf.Sealed.{Sealed}
use Rattle.sled_core.specs.inside.Buffers.{IsChain, ended}
use Rattle.sled_core.specs.Buffers.{open_state}
use Rattle.sled_core.specs.inside.SealedBuffers.{AreSealed, Laid, one_ended}
use Rattle.sled_core.proofs.Reserve.OpenCounts.{open_fewer}
use Rattle.sled_core.proofs.Reserve.Ranges.{part-written_before, part-written_behind, length-written}
use Rattle.sled_core.proofs.Sealed.Ended.{ended_same}
use Rattle.sled_core.proofs.Sealed.LaidLemmas.{EndsRise, SameWritten, ends_below, laid_ended, laid_other}

-- bytes behind the buffers change none of theirs
append_same : (bytes more : List ℕ) (from : ℕ) (bs : List Sealed) → EndsRise from bs (length bytes) → SameWritten bytes (bytes ++ more) from bs
append_same bytes more from [] rise = tt
append_same bytes more from (b ∷ bs) rise =
    let below = ends_below b.end bs (length bytes) rise.1 in
    (λ w i above under. get_or_append_left bytes more 0 i (omega (arith, under, below.0, below.1)), append_same bytes more b.end bs rise.1)

-- A place is reserved behind them.
pub laid_append : (log : List ℕ) (slot : ℕ) (bytes more : List ℕ) (from : ℕ) (bs : List Sealed) (to : ℕ) → EndsRise from bs (length bytes) → Laid log slot bytes from bs to → Laid log slot (bytes ++ more) from bs to
laid_append log slot bytes more from bs to rise laid = laid_other log slot bytes (bytes ++ more) from bs to (omega (arith, length-append bytes more)) (append_same bytes more from bs rise) laid

-- a part of one byte is that byte
one_byte : (l : List ℕ) (i : ℕ) → get_or (part l i 1) 0 0 ≡ get_or l i 0
one_byte l i = get_or-take 1 (drop i l) 0 0 (omega arith) ∙ get_or-drop i l 0 0 ∙ ap (λ n. get_or l n 0) (let here : i + 0 ≡ i = omega arith in here)

-- beside what is written over them, bytes are what they were
pub written_beside : (bytes : List ℕ) (at : ℕ) (xs : List ℕ) (i : ℕ) → at + length xs ≤ length bytes → (i < at) ⊎ (at + length xs ≤ i) → get_or (written bytes at xs) i 0 ≡ get_or bytes i 0
written_beside bytes at xs i fits beside = sym (one_byte (written bytes at xs) i) ∙ ap (λ (l : List ℕ). get_or l 0 0) (same beside) ∙ one_byte bytes i
  where
    same : (i < at) ⊎ (at + length xs ≤ i) → part (written bytes at xs) i 1 ≡ part bytes i 1
    same (inl before) = part-written_before bytes xs at i 1 (omega (arith, before)) fits
    same (inr behind) = part-written_behind bytes xs at i 1 behind fits

-- A reservation ends, which is open.
pub laid_over : (log : List ℕ) (slot : ℕ) (bytes : List ℕ) (from : ℕ) (bs : List Sealed) (to : ℕ) (rs : List Reserved) (i : ℕ) (r : Reserved) (text : List ℕ) (state : ReservationState) → open_state state ≡ false
    → slice_get rs i ≡ Some r → r.state ≡ Open → length text ≤ r.len → r.from + r.len ≤ length bytes → IsChain (max 20 from) rs (length bytes) → AreSealed from rs bs
    → Laid log slot bytes from bs to → Laid log slot (written bytes r.from text) from (one_ended i bs) to
laid_over log slot bytes from bs to rs i r text state closed there is_open own within chain are laid =
    let new : List ℕ = written bytes r.from text in
    let fits : r.from + length text ≤ length bytes = omega (arith, own, within) in
    laid_ended log slot new from i bs to
    (laid_other log slot bytes new from bs to (omega (arith, length-written bytes text r.from fits))
    (ended_same r (ended state r) refl refl (λ xs j at. open_fewer xs j r (ended state r) at is_open closed) bytes new (λ j beside. written_beside bytes r.from text j fits (away j beside)) from (length bytes) rs bs i there chain are) laid)
  where
    away : (j : ℕ) → (j < r.from) ⊎ (r.from + r.len ≤ j) → (j < r.from) ⊎ (r.from + length text ≤ j)
    away j (inl before) = inl before
    away j (inr behind) = inr (omega (arith, behind, own))
