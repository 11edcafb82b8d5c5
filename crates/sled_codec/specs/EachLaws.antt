-- The laws of values one behind another, from those of one value.
use Rattle.std.specs.Prelude.{◌≡◌, ℕ, List, [], ◌∷◌, ◌++◌, length, refl, suc}
use Rattle.std.specs.List.{All, flat_map}
use Rattle.std.proofs.Common.{sym, ◌∙◌, ap, append_assoc, arith}
use Rattle.std.proofs.lemmas.List.{append-nil}
use Rattle.sled_codec.specs.Spelling.{SpellsEach}
use Rattle.sled_codec.specs.SpellingLaws.{same_rests}
use Rattle.sled_codec.specs.PairLaws.{OneValue, NoFront}

-- no bytes spell no value
abbrev pub NoneEmpty : {V : Type 0} → (List ℕ → V → Type 0) → Type 0
NoneEmpty {V} Spells = (v : V) → Spells [] v → ⊥

module _ {V : Type 0} (Spells : List ℕ → V → Type 0) where
  -- one more behind them
  pub spells_more : (a b : List ℕ) (vs : List V) (v : V) → SpellsEach Spells a vs → Spells b v → SpellsEach Spells (a ++ b) (vs ++ v ∷ [])
  spells_more a b [] v p q =
      record { first = b; second = []; front = q; back = refl; is = ap (λ (l : List ℕ). l ++ b) p ∙ sym (append-nil b) }
  spells_more a b (w ∷ vs) v p q = record {
    first = p.first;
    second = p.second ++ b;
    front = p.front;
    back = spells_more p.second b vs v p.back q;
    is = ap (λ (l : List ℕ). l ++ b) p.is ∙ append_assoc p.first p.second b;
  }

  -- the written forms
  pub short_spells-each : (fits : V → Type 0) (short : V → List ℕ) → ((v : V) → fits v → Spells (short v) v) → (vs : List V) → All fits vs
      → SpellsEach Spells (flat_map short vs) vs
  short_spells-each fits short one [] all = refl
  short_spells-each fits short one (v ∷ vs) all = record {
    first = short v;
    second = flat_map short vs;
    front = one v (all 0 v (omega arith));
    back = short_spells-each fits short one vs (λ k d lt. all (suc k) d (omega (arith, lt)));
    is = refl;
  }

module _ {V : Type 0} (Spells : List ℕ → V → Type 0) (no_front : NoFront Spells) where
  regrouped : (a b x y : List ℕ) (v w : V) (vs ws : List V) (p : SpellsEach Spells a (v ∷ vs)) (q : SpellsEach Spells b (w ∷ ws)) → a ++ x ≡ b ++ y
      → p.first ++ (p.second ++ x) ≡ q.first ++ (q.second ++ y)
  regrouped a b x y v w vs ws p q is =
      sym (append_assoc p.first p.second x) ∙ ap (λ (l : List ℕ). l ++ x) (sym p.is) ∙ is ∙ ap (λ (l : List ℕ). l ++ y) q.is ∙ append_assoc q.first q.second y

  -- the first values of two lists at the front of one text have the same spelling, and so what follows is the same
  pub same_heads : (a b x y : List ℕ) (v w : V) (vs ws : List V) (p : SpellsEach Spells a (v ∷ vs)) (q : SpellsEach Spells b (w ∷ ws)) → a ++ x ≡ b ++ y
      → p.first ≡ q.first
  same_heads a b x y v w vs ws p q is = no_front p.first q.first _ _ v w p.front q.front (regrouped a b x y v w vs ws p q is)

  pub same_tails : (a b x y : List ℕ) (v w : V) (vs ws : List V) (p : SpellsEach Spells a (v ∷ vs)) (q : SpellsEach Spells b (w ∷ ws)) → a ++ x ≡ b ++ y
      → p.second ++ x ≡ q.second ++ y
  same_tails a b x y v w vs ws p q is =
      same_rests p.first q.first _ _ (same_heads a b x y v w vs ws p q is) (regrouped a b x y v w vs ws p q is)

  -- of two lists of one length neither is spelled by a proper beginning of the other's spelling
  pub no_front-each : (a b x y : List ℕ) (vs ws : List V) → length vs ≡ length ws → SpellsEach Spells a vs → SpellsEach Spells b ws → a ++ x ≡ b ++ y → a ≡ b
  no_front-each a b x y [] [] long p q is = p ∙ sym q
  no_front-each a b x y [] (w ∷ ws) long p q is = absurd (omega arith)
  no_front-each a b x y (v ∷ vs) [] long p q is = absurd (omega arith)
  no_front-each a b x y (v ∷ vs) (w ∷ ws) long p q is =
      let heads = same_heads a b x y v w vs ws p q is in
      let tails = no_front-each p.second q.second x y vs ws (omega arith) p.back q.back (same_tails a b x y v w vs ws p q is) in
      p.is ∙ ap (λ (l : List ℕ). l ++ p.second) heads ∙ ap (λ (l : List ℕ). q.first ++ l) tails ∙ sym q.is

  -- and one text spells one of them
  pub one_value-each : OneValue Spells → (text : List ℕ) (vs ws : List V) → length vs ≡ length ws → SpellsEach Spells text vs → SpellsEach Spells text ws
      → vs ≡ ws
  one_value-each one text [] [] long p q = refl
  one_value-each one text [] (w ∷ ws) long p q = absurd (omega arith)
  one_value-each one text (v ∷ vs) [] long p q = absurd (omega arith)
  one_value-each one text (v ∷ vs) (w ∷ ws) long p q =
      let heads = same_heads text text [] [] v w vs ws p q refl in
      let tails : p.second ≡ q.second = same_rests p.first q.first p.second q.second heads (sym p.is ∙ q.is) in
      let first : v ≡ w = one q.first v w (rw heads at p.front) q.front in
      let others : vs ≡ ws = one_value-each one q.second vs ws (omega arith) (rw tails at p.back) q.back in
      λ i. first i ∷ others i

  nil_front : (a b : List ℕ) → a ++ b ≡ [] → a ≡ []
  nil_front [] b is = refl
  nil_front (x ∷ a) b is = cc

  -- the empty text spells no value
  pub none_behind : NoneEmpty Spells → (text : List ℕ) (v : V) (vs : List V) → text ≡ [] → SpellsEach Spells text (v ∷ vs) → ⊥
  none_behind some text v vs none p =
      let first : p.first ≡ [] = nil_front p.first p.second (sym p.is ∙ none) in
      some v (rw first at p.front)

  -- a whole text spells one list, of whatever length, where no value is spelled by no bytes
  pub one_value-all : OneValue Spells → NoneEmpty Spells → OneValue (SpellsEach Spells)
  one_value-all one some text [] [] p q = refl
  one_value-all one some text [] (w ∷ ws) p q = absurd (none_behind some text w ws p q)
  one_value-all one some text (v ∷ vs) [] p q = absurd (none_behind some text v vs q p)
  one_value-all one some text (v ∷ vs) (w ∷ ws) p q =
      let heads = same_heads text text [] [] v w vs ws p q refl in
      let tails : p.second ≡ q.second = same_rests p.first q.first p.second q.second heads (sym p.is ∙ q.is) in
      let first : v ≡ w = one q.first v w (rw heads at p.front) q.front in
      let others : vs ≡ ws = one_value-all one some q.second vs ws (rw tails at p.back) q.back in
      λ i. first i ∷ others i
