-- Where a file has zeros, or ends, no header of a segment stands.
use Rattle.std.proofs.Common.{◌≡◌, ◌∙◌, ◌<◌, ◌+◌, ℕ, ℤ, List, length, drop, replicate, sym, ap, subst, arith}
use Rattle.std.proofs.lemmas.Grind.{same_number_lists}
use Rattle.std.proofs.lemmas.List.{get_or-take, get_or-drop, get_or-replicate, length-replicate}
use Rattle.sled_codec.specs.Places.{part}
use Rattle.sled_codec.specs.Record.{IsHeader}
use Rattle.sled_codec.proofs.Segments.{length-short_header}
use Rattle.sled_core.specs.Recoverable.{NoHeaderOfZeros}
use Rattle.sled_core.specs.SealedBuffers.{AreZeros}

pub no_header_of : (sum : List ℕ → ℕ) → NoHeaderOfZeros sum → (log : List ℕ) (at : ℕ) → AreZeros log at (at + 20) → (lsn mark : ℤ) → IsHeader sum (part log at 20) lsn mark → ⊥
no_header_of sum none log at zeros lsn mark is =
    let twenty : length (part log at 20) ≡ 20 = ap length is.is ∙ length-short_header sum lsn mark in
    let all : part log at 20 ≡ replicate 20 0 =
    same_number_lists (part log at 20) (replicate 20 0) (twenty ∙ sym (length-replicate {A = ℕ} 20 0)) (λ k low.
    let below : k < 20 = omega (arith, low, twenty) in
    get_or-take 20 (drop at log) k 0 below ∙ get_or-drop at log k 0 ∙ zeros (at + k) (omega arith) (omega (arith, below)) ∙ sym (get_or-replicate 20 k 0 0 below)) in
    none lsn mark (subst (λ (l : List ℕ). IsHeader sum l lsn mark) all is)
