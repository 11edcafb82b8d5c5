-- The batches of the manifests that have ended, entry by entry.
use Rattle.std.proofs.Common.{◌≡◌, ◌⊎◌, ◌≤◌, ◌<◌, ◌+◌, inl, inr, ℕ, List, [], ◌∷◌, ◌++◌, ◌∙◌, ap, arith, refl}
use Rattle.std.specs.List.{All, Contains}
use Rattle.std.proofs.lemmas.List.Elements.{All-tail}
use Rattle.sled_codec.specs.History.{Batch}
use Rattle.sled_codec.specs.Spelling.{low_first}
use Rattle.sled_core.specs.declared.iobuf.ReservationState.{ReservationState}
use Rattle.sled_core.specs.declared.iobuf.ReservationState.TheVariants.{Open, Completed, Canceled, Manifest, Padding}
use Rattle.sled_core.specs.declared.iobuf.Reserved.{Reserved}
use Rattle.sled_core.specs.declared.iobuf.SegmentPosition.{SegmentPosition}
use Rattle.sled_store.proofs.Segments.Elements.{in_cases, in_nothing, in_rest}
use Rattle.sled_core.specs.inside.Buffers.{IsChain, batch_in, batches_in, with_batch}
use Rattle.sled_core.specs.Buffers.{body_in}
use Rattle.sled_core.proofs.Reserve.Ranges.{chain_grows}

-- One before those of two parts is one before those of the first.
batch-append : (s : ReservationState) (b : Batch) (xs ys : List Batch) → with_batch s b (xs ++ ys) ≡ with_batch s b xs ++ ys
batch-append Open b xs ys = refl
batch-append Completed b xs ys = refl
batch-append Canceled b xs ys = refl
batch-append Manifest b xs ys = refl
batch-append Padding b xs ys = refl

pub batches-append : (site : SegmentPosition) (bytes : List ℕ) (xs ys : List Reserved) → batches_in site bytes (xs ++ ys) ≡ batches_in site bytes xs ++ batches_in site bytes ys
batches-append site bytes [] ys = refl
batches-append site bytes (x ∷ xs) ys =
    ap (with_batch x.state (batch_in site bytes x)) (batches-append site bytes xs ys) ∙ batch-append x.state (batch_in site bytes x) (batches_in site bytes xs) (batches_in site bytes ys)

-- two of them, if both are the same where it is an ended manifest
batch_same : (s : ReservationState) (b c : Batch) (bs cs : List Batch) → (s ≡ Manifest → b ≡ c) → bs ≡ cs → with_batch s b bs ≡ with_batch s c cs
batch_same Open b c bs cs own rest = rest
batch_same Completed b c bs cs own rest = rest
batch_same Canceled b c bs cs own rest = rest
batch_same Manifest b c bs cs own rest = λ i. own refl i ∷ rest i
batch_same Padding b c bs cs own rest = rest

-- Batches whose pegs stand in the same bytes are the same.
pub batches-same : (site : SegmentPosition) (old new : List ℕ) (rs : List Reserved) → All (λ r. r.state ≡ Manifest → body_in new r ≡ body_in old r) rs → batches_in site new rs ≡ batches_in site old rs
batches-same site old new [] all = refl
batches-same site old new (r ∷ rs) all =
    let rest : batches_in site new rs ≡ batches_in site old rs = batches-same site old new rs (All-tail (λ x. x.state ≡ Manifest → body_in new x ≡ body_in old x) r rs all) in
    batch_same r.state (batch_in site new r) (batch_in site old r) (batches_in site new rs) (batches_in site old rs)
    (λ is. ap (λ (l : List ℕ). record { low = site.place + r.from; peg = low_first l }) (all 0 r (omega arith) is)) rest

-- one that isn't an ended manifest has none
pub batches_without : (site : SegmentPosition) (bytes : List ℕ) (r : Reserved) (rs : List Reserved) → (r.state ≡ Manifest → ⊥) → batches_in site bytes (r ∷ rs) ≡ batches_in site bytes rs
batches_without site bytes r rs = by r.state where
  by : (s : ReservationState) → (s ≡ Manifest → ⊥) → with_batch s (batch_in site bytes r) (batches_in site bytes rs) ≡ batches_in site bytes rs
  by Open not = refl
  by Completed not = refl
  by Canceled not = refl
  by Manifest not = absurd (not refl)
  by Padding not = refl

-- one of all is it, and then it is of an ended manifest, or one of the others
pub batch_cases : (s : ReservationState) (b : Batch) (bs : List Batch) (x : Batch) → Contains (with_batch s b bs) x → ((s ≡ Manifest) × (b ≡ x)) ⊎ Contains bs x
batch_cases Open b bs x there = inr there
batch_cases Completed b bs x there = inr there
batch_cases Canceled b bs x there = inr there
batch_cases Manifest b bs x there = elim (in_cases b x bs there) [ inl is ↦ inl (refl, is) | inr later ↦ inr later ]
batch_cases Padding b bs x there = inr there

-- the others are among all
pub batch_rest : (s : ReservationState) (b : Batch) (bs : List Batch) (x : Batch) → Contains bs x → Contains (with_batch s b bs) x
batch_rest Open b bs x there = there
batch_rest Completed b bs x there = there
batch_rest Canceled b bs x there = there
batch_rest Manifest b bs x there = in_rest b x bs there
batch_rest Padding b bs x there = there

-- Those of a chain begin between its ends.
pub batches_between : (site : SegmentPosition) (bytes : List ℕ) (from end : ℕ) (rs : List Reserved) → IsChain from rs end → All (λ r. 0 < r.len) rs
    → (b : Batch) → Contains (batches_in site bytes rs) b → (site.place + from ≤ b.low) × (b.low < site.place + end)
batches_between site bytes from end [] is some b there = absurd (in_nothing b there)
batches_between site bytes from end (r ∷ rs) is some b there =
    let here : r.from ≡ from = is.0 in
    let long : 0 < r.len = some 0 r (omega arith) in
    let grows : from + r.len ≤ end = chain_grows (from + r.len) end rs is.1 in
    elim (batch_cases r.state (batch_in site bytes r) (batches_in site bytes rs) b there) [
      | inl own ↦ (let at = ap (λ (x : Batch). x.low) own.1 in (omega (arith, at, here), omega (arith, at, here, long, grows)))
      | inr later ↦ (let lies = batches_between site bytes (from + r.len) end rs is.1 (All-tail (λ x. 0 < x.len) r rs some) b later in (omega (arith, lies.0), lies.1))
    ]
