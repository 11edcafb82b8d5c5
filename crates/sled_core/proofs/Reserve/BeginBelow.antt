-- Reservations of a segment begin below a place: below a greater one too, with one more, without some, and once one has ended; and where all of it lies behind the place, it has nothing but what fills it.
use Rattle.std.proofs.Common.{◌≡◌, ◌≢◌, ◌∙◌, ◌<◌, ◌≤◌, ◌+◌, arith, refl, sym, ap, subst, ℕ, zero, suc, List, [], ◌∷◌, ◌++◌, drop, set, Some}
use Rattle.std.specs.List.{All, slice_get}
use Rattle.std.proofs.lemmas.List.Elements.{All-head, All-tail}
use Rattle.sled_codec.specs.History.{Batch, Message}
use Rattle.sled_core.specs.inside.Begun.{AreEntered}
use Rattle.sled_core.specs.inside.Buffers.{IsChain, IsPadding, NoPadding, Stands, StandsBy, batch_in, batches_in, completed_in, ended, with_batch, with_own}
use Rattle.sled_core.specs.Buffers.{message_in}
use Rattle.sled_core.specs.declared.iobuf.Reserved.{Reserved}
use Rattle.sled_core.specs.declared.iobuf.ReservationState.{ReservationState}
use Rattle.sled_core.specs.declared.iobuf.ReservationState.TheVariants.{Open, Completed, Canceled, Manifest, Padding}
use Rattle.sled_core.specs.declared.iobuf.SegmentPosition.{SegmentPosition}

-- They begin below a greater one.
pub entered_up : (to to' place : ℕ) (rs : List Reserved) → to ≤ to' → AreEntered to place rs → AreEntered to' place rs
entered_up to to' place [] up entered = tt
entered_up to to' place (r ∷ rs) up entered = (λ some. let low = entered.0 some in omega (arith, low, up), entered_up to to' place rs up entered.1)

-- One more does, or is none.
pub entered_more : (to place : ℕ) (rs : List Reserved) (r : Reserved) → AreEntered to place rs → (NoPadding r → place + r.from < to) → AreEntered to place (rs ++ r ∷ [])
entered_more to place [] r entered low = (low, tt)
entered_more to place (x ∷ xs) r entered low = (entered.0, entered_more to place xs r entered.1 low)

-- So do those that are left of them.
pub entered_left : (to place n : ℕ) (rs : List Reserved) → AreEntered to place rs → AreEntered to place (drop n rs)
entered_left to place zero rs entered = entered
entered_left to place (suc n) [] entered = entered
entered_left to place (suc n) (r ∷ rs) entered = entered_left to place n rs entered.1

-- One that has ended begins where it did.
pub entered_ended : (to place i : ℕ) (rs : List Reserved) (r : Reserved) (state : ReservationState) → slice_get rs i ≡ Some r → r.state ≡ Open → AreEntered to place rs → AreEntered to place (set rs i (ended state r))
entered_ended to place i [] r state there is_open entered = cc
entered_ended to place zero (x ∷ xs) r state there is_open entered =
    let same : x ≡ r = cc in
    (λ _. subst (λ (y : Reserved). place + y.from < to) same (entered.0 (λ padding. let both : Open ≡ Padding = sym is_open ∙ ap (λ (y : Reserved). y.state) (sym same) ∙ padding in cc)), entered.1)
entered_ended to place (suc i) (x ∷ xs) r state there is_open entered = (entered.0, entered_ended to place i xs r state there is_open entered.1)

-- Each of these is what fills a segment of this size.
abbrev pub ArePadding : ℕ → List Reserved → Type 0
ArePadding size [] = Unit {0}
ArePadding size (r ∷ rs) = (r.state ≡ Padding) × (r.from + r.len ≡ size) × ArePadding size rs

-- So it is with those that lie behind the place,
pub entered_padding : (sum : List ℕ → ℕ) (size number to place at end : ℕ) (bytes : List ℕ) (rs : List Reserved) → to ≤ place + at → IsChain at rs end → All (Stands sum size number bytes) rs → AreEntered to place rs → ArePadding size rs
entered_padding sum size number to place at end bytes [] past chain stand entered = tt
entered_padding sum size number to place at end bytes (r ∷ rs) past chain stand entered =
    let here = chain.0 in
    let is : r.state ≡ Padding = by r.state (λ some. let low = entered.0 some in omega (arith, low, past, here)) in
    let fills : IsPadding sum size number bytes r = subst (λ (s : ReservationState). StandsBy s sum size number bytes r) is (All-head (Stands sum size number bytes) r rs stand) in
    (is, fills.to_end, entered_padding sum size number to place (at + r.len) end bytes rs (omega (arith, past)) chain.1 (All-tail (Stands sum size number bytes) r rs stand) entered.1)
  where
    by : (s : ReservationState) → (s ≢ Padding → ⊥) → s ≡ Padding
    by Open none = absurd (none (λ is. cc))
    by Completed none = absurd (none (λ is. cc))
    by Canceled none = absurd (none (λ is. cc))
    by Manifest none = absurd (none (λ is. cc))
    by Padding none = refl

-- of which no message was completed, and no batch has ended.
pub padding_nothing : (size : ℕ) (site : SegmentPosition) (bytes : List ℕ) (rs : List Reserved) → ArePadding size rs → (completed_in site bytes rs ≡ []) × (batches_in site bytes rs ≡ [])
padding_nothing size site bytes [] are = (refl, refl)
padding_nothing size site bytes (r ∷ rs) are =
    let rest = padding_nothing size site bytes rs are.2 in
    let m : Message = message_in site bytes r in
    let b : Batch = batch_in site bytes r in
    (ap (λ (s : ReservationState). with_own s m (completed_in site bytes rs)) are.0 ∙ rest.0, ap (λ (s : ReservationState). with_batch s b (batches_in site bytes rs)) are.0 ∙ rest.1)
