-- What a decoder of pairs takes off the front of a text.
use Rattle.std.proofs.Common.{◌≡◌, ◌∙◌, sym, ap, List, ℕ, ◌++◌, refl, append_assoc}
use Rattle.sled_codec.specs.Spelling.{SpellsPair}
use Rattle.sled_codec.specs.SpellingLaws.{same_rests}
use Rattle.sled_codec.specs.PairLaws.{NoFront}
use Rattle.sled_codec.proofs.HeaderFronts.{Takes}

module _ {V W : Type 0} (A : List ℕ → V → Type 0) (B : List ℕ → W → Type 0) where
  -- behind the first part of a pair that was taken begins the second one
  pub behind_first : NoFront A → (text left front rest : List ℕ) (v x : V) (w : W) → Takes A text x left → (p : SpellsPair A B front v w) → text ≡ front ++ rest → left ≡ p.second ++ rest
  behind_first no_front text left front rest v x w (f, spelled, taken) p is =
      let both : f ++ left ≡ p.first ++ (p.second ++ rest) = sym taken ∙ is ∙ ap (λ (l : List ℕ). l ++ rest) p.is ∙ append_assoc p.first p.second rest in
      same_rests f p.first left (p.second ++ rest) (no_front f p.first _ _ x v spelled p.front both) both

  -- two parts that were taken one behind the other are a pair
  pub takes_pair : (t0 t1 t2 : List ℕ) (v : V) (w : W) → Takes A t0 v t1 → Takes B t1 w t2 → (front : List ℕ) × SpellsPair A B front v w × (t0 ≡ front ++ t2)
  takes_pair t0 t1 t2 v w (f, p, e) (h, q, d) =
      (f ++ h, record { first = f; second = h; front = p; back = q; is = refl }, e ∙ ap (λ (l : List ℕ). f ++ l) d ∙ sym (append_assoc f h t2))
