-- Histories of bounds: what a further bound makes of one, and what is left of it below a cut.
use Rattle.std.proofs.Common.{◌≡◌, ◌⊎◌, inl, inr, ◌≤◌, ◌<◌, ℕ, List, [], ◌∷◌, ◌++◌, refl, sym, ap, subst, arith}
use Rattle.std.specs.List.{All, Contains}
use Rattle.std.proofs.lemmas.List.Elements.{All-cons, All-contains, All-nil, Contains-append_cases, Contains-append_left, Contains-append_right}
use Rattle.sled_codec.specs.declared.serialization.message.LogKind.TheVariants.{Replace}
use Rattle.sled_codec.specs.History.{Message, History, Completed, Step, below, no_history}
use Rattle.sled_codec.specs.SpellingLaws.{one_value-number}
use Rattle.sled_codec.specs.WellFormed.{LieApart}
use Rattle.sled_core.specs.Reading.{IsInline}
use Rattle.sled_log.proofs.PublicLaws.{appended, completed, forgotten, kept_below, none_orderly}
use Rattle.ids.specs.Bounds.{HasBound, HasMost, IsOfBounds, Reserves}

-- Lists.

-- what is in a list of one
only_one : {X : Type 0} (x y : X) → Contains (x ∷ []) y → x ≡ y
only_one x y there = All-contains (λ z. x ≡ z) (x ∷ []) y (All-cons (λ z. x ≡ z) x [] refl (All-nil (λ z. x ≡ z))) there

in_nothing : {X : Type 0} (x : X) → Contains [] x → ⊥
in_nothing x there = omega (arith, there.1)

-- a message of those that lie apart has a size
pub has_size : (ms : List Message) (m : Message) → LieApart ms → Contains ms m → 0 < m.size
has_size ms m apart there = All-contains (λ x. 0 < x.size) ms m (each ms apart) there where
  each : (ms : List Message) → LieApart ms → All (λ x. 0 < x.size) ms
  each [] apart = All-nil (λ x. 0 < x.size)
  each (x ∷ xs) apart = All-cons (λ x. 0 < x.size) x xs apart.0 (each xs apart.2)

-- Bounds.

-- A message has one.
pub one_bound : (m : Message) (n k : ℕ) → HasBound m n → HasBound m k → n ≡ k
one_bound m n k has is = one_value-number m.bytes n k has is

-- Nothing is one at first.
pub no_bounds : IsOfBounds no_history
no_bounds = record {
  replaces = none_orderly;
  page = λ m there. absurd (in_nothing m there);
  inline = λ m there. absurd (in_nothing m there);
  bounds = λ m there. absurd (in_nothing m there);
  ascend = λ a b n m there also le has is. absurd (in_nothing a there);
}

pub no_bound : HasMost no_history 0
no_bound m n there has = absurd (in_nothing m there)

-- A message that brings a bound which is no lower than all before it.
module _ (H H' : History) (m : Message) (asked most : ℕ) (step : Step H (Completed m) H') (bounds : IsOfBounds H) (greatest : HasMost H most) (higher : most ≤ asked)
    (replaces : m.kind ≡ Replace) (page : m.page ≡ 0) (inline : IsInline m.pointer) (has : HasBound m asked)
    (behind : All (λ x. x.place < m.place) H.messages) (apart : LieApart H'.messages) where
  abbrev added : List Message
  added = H.messages ++ m ∷ []

  is_added : H'.messages ≡ added
  is_added = (appended H H' m step behind).0

  cases : (x : Message) → Contains H'.messages x → Contains H.messages x ⊎ (m ≡ x)
  cases x there = elim (Contains-append_cases H.messages (m ∷ []) x (subst (λ (ms : List Message). Contains ms x) is_added there)) [ inl old ↦ inl old | inr new ↦ inr (only_one m x new) ]

  -- it is there,
  pub bound_there : Contains H'.messages m
  bound_there = subst (λ (ms : List Message). Contains ms m) (sym is_added) (Contains-append_right H.messages (m ∷ []) m (0, omega arith, refl))

  -- with those before it,
  pub bounds_stay : (x : Message) → Contains H.messages x → Contains H'.messages x
  bounds_stay x there = subst (λ (ms : List Message). Contains ms x) (sym is_added) (Contains-append_left H.messages (m ∷ []) x there)

  -- is the greatest,
  pub most_added : HasMost H' asked
  most_added x n there is = elim (cases x there) [
    | inl old ↦ (let le = greatest x n old is in omega (arith, le, higher))
    | inr new ↦ (let same = one_bound m n asked (subst (λ (y : Message). HasBound y n) (sym new) is) has in omega (arith, same))
  ]

  lower : (x : Message) → Contains H.messages x → x.place < m.place
  lower x there = All-contains (λ y. y.place < m.place) H.messages x behind there

  ascending : (a b : Message) (n k : ℕ) → Contains H'.messages a → Contains H'.messages b → a.place ≤ b.place → HasBound a n → HasBound b k → n ≤ k
  ascending a b n k first second le bound also = elim (cases b second) [
    | inl old ↦ (elim (cases a first) [
      | inl before ↦ bounds.ascend a b n k before old le bound also
      | inr new ↦ absurd (let up = lower b old in let same : m.place ≡ a.place = ap (λ (x : Message). x.place) new in omega (arith, up, same, le))
    ])
    | inr new ↦ (
        let most = most_added a n first bound in
        let same = one_bound m k asked (subst (λ (y : Message). HasBound y k) (sym new) also) has in
        omega (arith, most, same))
  ]

  -- and the history is one of bounds.
  pub bounds_added : IsOfBounds H'
  bounds_added = record {
    replaces = completed H H' m bounds.replaces (record { replaces = replaces; small = omega (arith, page); lower = λ p lt. absurd (omega (arith, lt, page)) }) step apart;
    page = λ x there. elim (cases x there) [ inl old ↦ bounds.page x old | inr new ↦ subst (λ (y : Message). y.page ≡ 0) new page ];
    inline = λ x there. elim (cases x there) [ inl old ↦ bounds.inline x old | inr new ↦ subst (λ (y : Message). IsInline y.pointer) new inline ];
    bounds = λ x there. elim (cases x there) [ inl old ↦ bounds.bounds x old | inr new ↦ (asked, subst (λ (y : Message). HasBound y asked) new has) ];
    ascend = ascending;
  }

  -- What was reserved stays so.
  pub reserves_still : (place n : ℕ) → Reserves H place n → Reserves H' place n
  reserves_still place n reserved = elim reserved [
    | inl none ↦ inl none
    | inr x ↦ inr (record { message = x.message; there = bounds_stay x.message x.there; ends = x.ends; bound = x.bound; has = x.has; enough = x.enough })
  ]

-- Below a cut.

module _ (H : History) (cut : ℕ) (bounds : IsOfBounds H) where
  was : (m : Message) → Contains (below H cut).messages m → Contains H.messages m
  was m there = ((kept_below H cut m).0 there).0

  -- What is left there is one of bounds,
  pub bounds_below : IsOfBounds (below H cut)
  bounds_below = record {
    replaces = forgotten H cut bounds.replaces;
    page = λ m there. bounds.page m (was m there);
    inline = λ m there. bounds.inline m (was m there);
    bounds = λ m there. bounds.bounds m (was m there);
    ascend = λ a b n k first second le has is. bounds.ascend a b n k (was a first) (was b second) le has is;
  }

  -- with no higher one,
  pub most_below : (most : ℕ) → HasMost H most → HasMost (below H cut) most
  most_below most is m n there has = is m n (was m there) has

  -- and what ends there at most is there still.
  pub reserves_below : (place n : ℕ) → place ≤ cut → Reserves H place n → Reserves (below H cut) place n
  reserves_below place n le reserved = elim reserved [
    | inl none ↦ inl none
    | inr x ↦ inr (record {
      message = x.message;
      there = (kept_below H cut x.message).1 (x.there, let some = has_size H.messages x.message bounds.replaces.apart x.there in let ends = x.ends in omega (arith, some, ends, le));
      ends = x.ends;
      bound = x.bound;
      has = x.has;
      enough = x.enough;
    })
  ]

-- What is enough for one number and place is for less, and for a place behind.
pub reserves_less : (H : History) (place further n less : ℕ) → place ≤ further → less ≤ n → Reserves H place n → Reserves H further less
reserves_less H place further n less le low reserved = elim reserved [
  | inl none ↦ inl (omega (arith, none, low))
  | inr x ↦ inr (record { message = x.message; there = x.there; ends = (let ends = x.ends in omega (arith, ends, le)); bound = x.bound; has = x.has; enough = (let enough = x.enough in omega (arith, enough, low)) })
]

-- The last message below a cut has a bound that isn't below what was reserved there.
pub last_enough : (H : History) (place cut n k : ℕ) (last : Message) → IsOfBounds H → Reserves H place n → place ≤ cut → Contains H.messages last → HasBound last k
    → ((x : Message) → Contains H.messages x → x.place < cut → x.place ≤ last.place) → n ≤ k
last_enough H place cut n k last bounds reserved le there has greatest = elim reserved [
  | inl none ↦ omega (arith, none)
  | inr x ↦ (
      let some = has_size H.messages x.message bounds.replaces.apart x.there in
      let ends = x.ends in
      let before = greatest x.message x.there (omega (arith, some, ends, le)) in
      let up = bounds.ascend x.message last x.bound k x.there there before x.has has in
      let enough = x.enough in
      omega (arith, up, enough))
]
