-- A segment is filled to its end: the entry of what fills it stands behind the others, which are as they were, and is no message.
use Rattle.sled_core.proofs.Reserve.Batches.{batches-append}
use Rattle.std.proofs.Common.{◌≡◌, ◌≤◌, ◌<◌, ◌+◌, ◌-◌, ◌^◌, ◌∙◌, ℕ, List, [], ◌∷◌, ◌++◌, length, take, ap, subst, arith, refl, get_or, length-append}
use Rattle.std.specs.List.{All}
use Rattle.std.proofs.lemmas.List.{append-nil, drop_at, take_all}
use Rattle.std.proofs.lemmas.List.Elements.{All-append}
use Rattle.sled_core.specs.declared.iobuf.Reserved.{Reserved}
use Rattle.sled_core.specs.declared.iobuf.SegmentPosition.{SegmentPosition}
use Rattle.sled_core.specs.inside.Buffers.{IsChain, Stands, batches_in, completed_in, text_in}
use Rattle.sled_core.specs.Buffers.{padding_at}
use Rattle.sled_core.specs.invariants.Caps.{segment_rest}
use Rattle.sled_core.proofs.Holds.HoldsLemmas.{batches-behind, completed-behind, one, stands-append}
use Rattle.sled_core.proofs.Reached.CapStands.{length-segment_rest}
use Rattle.sled_core.proofs.Reserve.Ranges.{chain-append, chain_within, completed-append}

module _ (sum : List ℕ → ℕ) (size number : ℕ) (bytes : List ℕ) (from : ℕ) (rs : List Reserved) (small : number < 2 ^ 64) (less : length bytes < size)
    (chain : IsChain from rs (length bytes)) (stand : All (Stands sum size number bytes) rs) where
  abbrev rest : List ℕ
  rest = segment_rest sum size number (length bytes)

  abbrev new : List ℕ
  new = bytes ++ rest

  abbrev its : Reserved
  its = padding_at size (length bytes)

  rest_long : length rest ≡ size - length bytes
  rest_long = length-segment_rest sum size number (length bytes) (omega (arith, less)) small

  within : All (λ r. r.from + r.len ≤ length bytes) rs
  within k d lt = (chain_within from (length bytes) rs chain k d lt).1

  -- The chain goes to the end of the segment.
  pub filled_chain : IsChain from (rs ++ its ∷ []) size
  filled_chain =
      let end : length bytes + (size - length bytes) ≡ size = omega (arith, less) in
      subst (λ n. IsChain from (rs ++ its ∷ []) n) end (chain-append from (length bytes) rs its chain refl)

  pub filled_long : length new ≡ size
  filled_long = omega (arith, rest_long, less, length-append bytes rest)

  text_is : text_in new its ≡ rest
  text_is = ap (take (size - length bytes)) (drop_at bytes rest (length bytes) refl) ∙ take_all (size - length bytes) rest (omega (arith, rest_long))

  -- Each entry stands as it has to.
  pub filled_stand : All (Stands sum size number new) (rs ++ its ∷ [])
  filled_stand = All-append (Stands sum size number new) rs (its ∷ []) (λ k d lt. stands-append sum size number bytes rest (get_or rs k d) (within k d lt) (stand k d lt))
      (one (Stands sum size number new) its (record { some = omega (arith, less); to_end = omega (arith, less); is = text_is }))

  -- The batches are the same,
  pub filled_batches : (site : SegmentPosition) → batches_in site new (rs ++ its ∷ []) ≡ batches_in site bytes rs
  filled_batches site = batches-append site new rs (its ∷ []) ∙ append-nil (batches_in site new rs) ∙ batches-behind sum size number site bytes rest rs within stand

  -- and so are the messages.
  pub filled_messages : (site : SegmentPosition) → completed_in site new (rs ++ its ∷ []) ≡ completed_in site bytes rs
  filled_messages site = completed-append site new rs (its ∷ []) ∙ append-nil (completed_in site new rs) ∙ completed-behind sum size number site bytes rest rs within stand
