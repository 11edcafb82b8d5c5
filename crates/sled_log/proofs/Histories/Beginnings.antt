-- What a history has below a cut is a beginning of it, where its messages lie one behind another.
use Rattle.std.proofs.Common.{◌≡◌, ◌+◌, ◌≤◌, ℕ, Bool, true, false, cond, nat_lt, List, [], ◌∷◌, ◌++◌, refl, sym, ap, arith}
use Rattle.std.specs.List.{All, filter}
use Rattle.std.proofs.lemmas.Bool.{ltb-false}
use Rattle.std.proofs.lemmas.List.Elements.{All-cons, All-nil, All-weaker}
use Rattle.sled_codec.specs.History.{Message, History, below}
use Rattle.sled_codec.specs.WellFormed.{LieApart}
use Rattle.sled_log.proofs.PageTable.BelowLemmas.{drops_high}

-- what isn't below the cut, behind what is
first_below : (cut : ℕ) (ms : List Message) → LieApart ms → (rest : List Message) × (ms ≡ filter (λ m. nat_lt m.place cut) ms ++ rest) × All (λ m. cut ≤ m.place) rest
first_below cut [] apart = ([], refl, All-nil (λ m. cut ≤ m.place))
first_below cut (m ∷ ms) apart = by (nat_lt m.place cut) refl (first_below cut ms apart.2) where
  by : (b : Bool) → nat_lt m.place cut ≡ b → (rest : List Message) × (ms ≡ filter (λ n. nat_lt n.place cut) ms ++ rest) × All (λ n. cut ≤ n.place) rest
      → (rest : List Message) × (m ∷ ms ≡ cond b (m ∷ filter (λ n. nat_lt n.place cut) ms) (filter (λ n. nat_lt n.place cut) ms) ++ rest) × All (λ n. cut ≤ n.place) rest
  by true low found = (found.0, ap (λ (l : List Message). m ∷ l) found.1, found.2)
  by false high found =
      let above = ltb-false m.place cut high in
      let all : All (λ n. cut ≤ n.place) ms = All-weaker (λ n. m.place + m.size ≤ n.place) (λ n. cut ≤ n.place) (λ n le. omega (arith, le, above)) ms apart.1 in
      (m ∷ ms, ap (λ (l : List Message). l ++ m ∷ ms) (sym (drops_high cut ms all)), All-cons (λ n. cut ≤ n.place) m ms (omega (arith, above)) all)

pub below_begins : (H : History) (cut : ℕ) → LieApart H.messages → (rest : List Message) × (H.messages ≡ (below H cut).messages ++ rest) × All (λ m. cut ≤ m.place) rest
unfolding below
below_begins H cut apart = first_below cut H.messages apart
