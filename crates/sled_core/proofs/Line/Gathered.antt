-- What is gathered along the segments of a line: with the last one or another one changed, with a further one, and without those that are wholly on the device.
use Rattle.std.proofs.Common.{◌≡◌, ◌∙◌, ◌≤◌, ◌+◌, ◌/◌, nat_lt, ap, sym, refl, subst, inl, inr, append_assoc, ℕ, zero, suc, Bool, true, false, if◌then◌else◌, List, [], ◌∷◌, ◌++◌, length, set, Some}
use Rattle.std.specs.List.{Contains, slice_get}
use Rattle.std.proofs.lemmas.List.{append-nil}
use Rattle.std.proofs.lemmas.List.Elements.{Contains-append_cases, Contains-append_left, Contains-append_right}
use Rattle.sled_core.specs.Among.{AreAmong}
use Rattle.sled_core.specs.Begun.{SegmentView}
use Rattle.sled_core.specs.invariants.Caps.{segment_rest}
use Rattle.sled_core.specs.inside.Turned.{promoted}
use Rattle.sled_core.specs.Positions.{is_short}
use Rattle.sled_core.specs.Waiting.{as_sealed, at_last, closed_now, filled_now, holds_any, last_of, sealed_now, turned_now, with_filling}
use Rattle.sled_core.proofs.Line.Among.{among_before, among_further, among_same}
use Rattle.sled_core.proofs.Line.Segments.{AreSegments, by_front, full_empty}

-- a segment with what fills it to its end behind its bytes
abbrev pub filled_up : (List ℕ → ℕ) → ℕ → SegmentView → SegmentView
filled_up sum size v = with_filling size v (segment_rest sum size (v.parts.site.place / size) (length v.parts.bytes))

-- What neither sealing the current buffer of a segment changes nor what fills it,
module _ {X : Type 0} (f : SegmentView → X) (sealed : (w : SegmentView) → f (sealed_now w) ≡ f w) (sum : List ℕ → ℕ) (size : ℕ) (v : SegmentView)
    (filling : f (filled_up sum size v) ≡ f v) where
  -- stays where the segment is filled to its end,
  pub filled_keeps : f (filled_now sum size v) ≡ f v
  filled_keeps = by (nat_lt (length v.parts.bytes) size) where
    by : (o : Bool) → f (if o then filled_up sum size v else v) ≡ f v
    by true = filling
    by false = refl

  -- where it is filled and sealed to its end,
  pub closed_keeps : f (closed_now sum size v) ≡ f v
  closed_keeps = sealed (filled_now sum size v) ∙ filled_keeps

  -- and where its current buffer is as it would be sealed.
  pub as_sealed_keeps : f (as_sealed sum size v) ≡ f v
  as_sealed_keeps = by_any (by_short (is_short size (length v.parts.bytes))) (holds_any v) where
    by_short : (o : Bool) → f (if o then closed_now sum size v else sealed_now v) ≡ f v
    by_short true = closed_keeps
    by_short false = sealed v

    by_any : f (turned_now sum size v) ≡ f v → (o : Bool) → f (if o then turned_now sum size v else v) ≡ f v
    by_any turned true = turned
    by_any turned false = refl

-- What is gathered along segments is what each of them has, one behind another.
pub record Gathers {A : Type 0} (f : SegmentView → List A) (along : List SegmentView → List A) : Type 0 where
  pub nothing : along [] ≡ []
  pub further : (v : SegmentView) (vs : List SegmentView) → along (v ∷ vs) ≡ f v ++ along vs

module _ {A : Type 0} (f : SegmentView → List A) (along : List SegmentView → List A) (gathers : Gathers f along) where
  -- Along segments and others behind them it is what these have and what those have.
  pub gathered-append : (vs ws : List SegmentView) → along (vs ++ ws) ≡ along vs ++ along ws
  gathered-append [] ws = ap (λ (l : List A). l ++ along ws) (sym gathers.nothing)
  gathered-append (v ∷ vs) ws =
      gathers.further v (vs ++ ws)
      ∙ ap (λ (l : List A). f v ++ l) (gathered-append vs ws)
      ∙ sym (append_assoc (f v) (along vs) (along ws))
      ∙ ap (λ (l : List A). l ++ along ws) (sym (gathers.further v vs))

  -- along one segment it is what that one has
  gathered_one : (v : SegmentView) → along (v ∷ []) ≡ f v
  gathered_one v = gathers.further v [] ∙ ap (λ (l : List A). f v ++ l) gathers.nothing ∙ append-nil (f v)

  -- The last of segments is changed: it has these more,
  pub gathered_adds : (g : SegmentView → SegmentView) (more : List A) (v : SegmentView) (vs : List SegmentView)
      → f (g (last_of v vs)) ≡ f (last_of v vs) ++ more → along (at_last g (v ∷ vs)) ≡ along (v ∷ vs) ++ more
  gathered_adds g more v [] adds = gathered_one (g v) ∙ adds ∙ ap (λ (l : List A). l ++ more) (sym (gathered_one v))
  gathered_adds g more v (w ∷ ws) adds =
      gathers.further v (at_last g (w ∷ ws))
      ∙ ap (λ (l : List A). f v ++ l) (gathered_adds g more w ws adds)
      ∙ sym (append_assoc (f v) (along (w ∷ ws)) more)
      ∙ ap (λ (l : List A). l ++ more) (sym (gathers.further v (w ∷ ws)))

  -- or the same ones.
  pub gathered_last : (g : SegmentView → SegmentView) (v : SegmentView) (vs : List SegmentView) → f (g (last_of v vs)) ≡ f (last_of v vs)
      → along (at_last g (v ∷ vs)) ≡ along (v ∷ vs)
  gathered_last g v vs same = gathered_adds g [] v vs (same ∙ sym (append-nil (f (last_of v vs)))) ∙ append-nil (along (v ∷ vs))

  -- A segment that has none is put behind them.
  pub gathered_begun : (vs : List SegmentView) (x : SegmentView) → f x ≡ [] → along (vs ++ x ∷ []) ≡ along vs
  gathered_begun vs x none = gathered-append vs (x ∷ []) ∙ ap (λ (l : List A). along vs ++ l) (gathered_one x ∙ none) ∙ append-nil (along vs)

  -- Those at the front that are wholly on the device go: no others are there,
  pub promoted_among : (size : ℕ) (vs : List SegmentView) → AreAmong (along (promoted size vs)) (along vs)
  promoted_among size vs =
      by_front size (λ l. AreAmong (along l) (along vs))
      (λ v w ws full among x there. among x (subst (λ (l : List A). Contains l x) (sym (gathers.further v (w ∷ ws)))
      (Contains-append_right (f v) (along (w ∷ ws)) x there)))
      vs (λ x there. there)

  -- and all of them are where a segment without reservations has none.
  pub gathered_promoted : ((v : SegmentView) → v.parts.reserved ≡ [] → f v ≡ []) → (size place : ℕ) (vs : List SegmentView) → 256 ≤ size
      → AreSegments size place vs → along (promoted size vs) ≡ along vs
  gathered_promoted none size place vs big are =
      (by_front size (λ l. ((p : ℕ) × AreSegments size p l) × (along l ≡ along vs))
      (λ v w ws full has. ((has.0.0 + size, has.0.1.1), gone v (w ∷ ws) (none v (full_empty size has.0.0 v big has.0.1.0 full)) ∙ has.1))
      vs ((place, are), refl)).1
    where
      gone : (v : SegmentView) (ws : List SegmentView) → f v ≡ [] → along ws ≡ along (v ∷ ws)
      gone v ws own = sym (gathers.further v ws ∙ ap (λ (l : List A). l ++ along ws) own)

  -- What the n-th segment has is among them.
  pub nth_among : (vs : List SegmentView) (n : ℕ) (v : SegmentView) → slice_get vs n ≡ Some v → AreAmong (f v) (along vs)
  nth_among [] n v at = cc
  nth_among (x ∷ xs) zero v at =
      let one : x ≡ v = cc in
      λ y there. subst (λ (l : List A). Contains l y) (sym (gathers.further x xs))
      (Contains-append_left (f x) (along xs) y (subst (λ (w : SegmentView). Contains (f w) y) (sym one) there))
  nth_among (x ∷ xs) (suc n) v at = λ y there. subst (λ (l : List A). Contains l y) (sym (gathers.further x xs))
      (Contains-append_right (f x) (along xs) y (nth_among xs n v at y there))

  -- One of the segments is another: where that has the same ones, all are what they were,
  pub gathered_set : (vs : List SegmentView) (n : ℕ) (v w : SegmentView) → slice_get vs n ≡ Some v → f w ≡ f v → along (set vs n w) ≡ along vs
  gathered_set [] n v w at same = refl
  gathered_set (x ∷ xs) zero v w at same =
      let one : x ≡ v = cc in
      gathers.further w xs ∙ ap (λ (l : List A). l ++ along xs) (same ∙ ap f (sym one)) ∙ sym (gathers.further x xs)
  gathered_set (x ∷ xs) (suc n) v w at same =
      gathers.further x (set xs n w) ∙ ap (λ (l : List A). f x ++ l) (gathered_set xs n v w at same) ∙ sym (gathers.further x xs)

  -- and where it has no others but these, there are no others but these.
  pub set_among : (more : List A) (vs : List SegmentView) (n : ℕ) (v w : SegmentView) → slice_get vs n ≡ Some v → AreAmong (f w) (more ++ f v)
      → AreAmong (along (set vs n w)) (more ++ along vs)
  set_among more [] n v w at among = cc
  set_among more (x ∷ xs) zero v w at among =
      let one : x ≡ v = cc in
      let own : AreAmong (f w) (more ++ f x) = subst (λ (y : SegmentView). AreAmong (f w) (more ++ f y)) (sym one) among in
      let front : f x ++ along xs ≡ along (x ∷ xs) = sym (gathers.further x xs) in
      let back : (more ++ f x) ++ along xs ≡ more ++ along (x ∷ xs) = append_assoc more (f x) (along xs) ∙ ap (λ (l : List A). more ++ l) front in
      among_further (along (w ∷ xs)) (f w ++ along xs) (more ++ along (x ∷ xs)) (among_same (along (w ∷ xs)) (f w ++ along xs) (gathers.further w xs))
      (among_further (f w ++ along xs) ((more ++ f x) ++ along xs) (more ++ along (x ∷ xs)) (among_before (f w) (more ++ f x) (along xs) own)
      (among_same ((more ++ f x) ++ along xs) (more ++ along (x ∷ xs)) back))
  set_among more (x ∷ xs) (suc n) v w at among = λ y has.
      let parted : Contains (f x ++ along (set xs n w)) y = subst (λ (l : List A). Contains l y) (gathers.further x (set xs n w)) has in
      elim (Contains-append_cases (f x) (along (set xs n w)) y parted) [
        | inl own ↦ behind y (Contains-append_left (f x) (along xs) y own)
        | inr later ↦ (elim (Contains-append_cases more (along xs) y (set_among more xs n v w at among y later)) [
          | inl new ↦ Contains-append_left more (along (x ∷ xs)) y new
          | inr others ↦ behind y (Contains-append_right (f x) (along xs) y others)
        ])
      ] where
        behind : (y : A) → Contains (f x ++ along xs) y → Contains (more ++ along (x ∷ xs)) y
        behind y there = Contains-append_right more (along (x ∷ xs)) y (subst (λ (l : List A). Contains l y) (sym (gathers.further x xs)) there)
