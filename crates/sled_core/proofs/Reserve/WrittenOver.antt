-- Where bytes are written over a reservation, the others stand as they stood, with the same messages and batches.
use Rattle.std.proofs.Common.{◌≡◌, ◌≤◌, ◌<◌, ◌+◌, ◌-◌, ℕ, List, ◌∷◌, ◌++◌, length, get_or, arith, sym, ◌∙◌}
use Rattle.std.specs.List.{All}
use Rattle.sled_codec.specs.Written.{written}
use Rattle.sled_core.specs.declared.iobuf.ReservationState.{ReservationState}
use Rattle.sled_core.specs.declared.iobuf.ReservationState.TheVariants.{Manifest}
use Rattle.sled_core.specs.declared.iobuf.Reserved.{Reserved}
use Rattle.sled_core.specs.declared.iobuf.SegmentPosition.{SegmentPosition}
use Rattle.sled_core.specs.inside.Buffers.{IsChain, NoPadding, Stands, batches_in, completed_in, ended}
use Rattle.sled_core.specs.Buffers.{body_in}
use Rattle.sled_core.proofs.Reserve.Batches.{batches-append, batches-same, batches_without}
use Rattle.sled_core.proofs.Reserve.Entries.{completed_plain, manifest_plain, reserved_in, stands-same}
use Rattle.sled_core.proofs.Reserve.Ranges.{all_split, chain-split, chain_within, completed-same, part-written_before, part-written_behind}

module _ (sum : List ℕ → ℕ) (number : ℕ) (bytes text : List ℕ) (r : Reserved) (short : length text ≤ r.len) (within : r.from + r.len ≤ length bytes) where
  abbrev new : List ℕ
  new = written bytes r.from text

  fits : r.from + length text ≤ length bytes
  fits = omega (arith, short, within)

  -- one before it
  pub body_before : (x : Reserved) → x.from + x.len ≤ r.from → x.header_len ≤ x.len → body_in new x ≡ body_in bytes x
  body_before x before long = part-written_before bytes text r.from (x.from + x.header_len) (x.len - x.header_len) (omega arith) fits

  pub same_before : (size : ℕ) (x : Reserved) → x.from + x.len ≤ r.from → Stands sum size number bytes x → Stands sum size number new x
  same_before size x before at_x = stands-same sum size number bytes new x (part-written_before bytes text r.from x.from x.len before fits) (body_before x before) at_x

  -- one behind it
  pub body_behind : (x : Reserved) → r.from + r.len ≤ x.from → body_in new x ≡ body_in bytes x
  body_behind x behind = part-written_behind bytes text r.from (x.from + x.header_len) (x.len - x.header_len) (omega (arith, short)) fits

  pub same_behind : (size : ℕ) (x : Reserved) → r.from + r.len ≤ x.from → Stands sum size number bytes x → Stands sum size number new x
  same_behind size x behind at_x = stands-same sum size number bytes new x (part-written_behind bytes text r.from x.from x.len (omega (arith, short)) fits) (λ long. body_behind x behind) at_x

  -- All that lie before it and behind it.
  module _ (size from end : ℕ) (xs ys : List Reserved) (chain : IsChain from (xs ++ r ∷ ys) end) (stand : All (Stands sum size number bytes) (xs ++ r ∷ ys)) where
    parts : IsChain from xs r.from × IsChain (r.from + r.len) ys end
    parts = chain-split from end xs ys r chain

    were : All (Stands sum size number bytes) xs × Stands sum size number bytes r × All (Stands sum size number bytes) ys
    were = all_split (Stands sum size number bytes) xs ys r stand

    pub stand_before : All (Stands sum size number new) xs
    stand_before j d lt = same_before size (get_or xs j d) (chain_within from r.from xs parts.0 j d lt).1 (were.0 j d lt)

    pub stand_behind : All (Stands sum size number new) ys
    stand_behind j d lt = same_behind size (get_or ys j d) (chain_within (r.from + r.len) end ys parts.1 j d lt).0 (were.2 j d lt)

    bodies_before : (j : ℕ) (d : Reserved) → j < length xs → NoPadding (get_or xs j d) → body_in new (get_or xs j d) ≡ body_in bytes (get_or xs j d)
    bodies_before j d lt plain =
        body_before (get_or xs j d) (chain_within from r.from xs parts.0 j d lt).1 (reserved_in sum size number bytes (get_or xs j d) plain (were.0 j d lt)).text.long

    bodies_behind : (j : ℕ) (d : Reserved) → j < length ys → body_in new (get_or ys j d) ≡ body_in bytes (get_or ys j d)
    bodies_behind j d lt = body_behind (get_or ys j d) (chain_within (r.from + r.len) end ys parts.1 j d lt).0

    module _ (site : SegmentPosition) where
      pub completed_before : completed_in site new xs ≡ completed_in site bytes xs
      completed_before = completed-same site bytes new xs (λ j d lt is. bodies_before j d lt (completed_plain (get_or xs j d).state is))

      pub completed_behind : completed_in site new ys ≡ completed_in site bytes ys
      completed_behind = completed-same site bytes new ys (λ j d lt is. bodies_behind j d lt)

      pub batches_before : batches_in site new xs ≡ batches_in site bytes xs
      batches_before = batches-same site bytes new xs (λ j d lt is. bodies_before j d lt (manifest_plain (get_or xs j d).state is))

      pub batches_behind : batches_in site new ys ≡ batches_in site bytes ys
      batches_behind = batches-same site bytes new ys (λ j d lt is. bodies_behind j d lt)

      -- The batches are the same where it was no ended manifest, and is none.
      pub batches_ended : (state : ReservationState) → (r.state ≡ Manifest → ⊥) → (state ≡ Manifest → ⊥) → batches_in site new (xs ++ ended state r ∷ ys) ≡ batches_in site bytes (xs ++ r ∷ ys)
      batches_ended state was is =
          batches-append site new xs (ended state r ∷ ys)
          ∙ (λ i. batches_before i ++ (batches_without site new (ended state r) ys is ∙ batches_behind ∙ sym (batches_without site bytes r ys was)) i)
          ∙ sym (batches-append site bytes xs (r ∷ ys))
