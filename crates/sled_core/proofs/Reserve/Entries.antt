-- What stands in an entry, by whether it is a reservation or a padding.
use Rattle.std.proofs.Common.{◌≡◌, ◌≢◌, ◌⊎◌, ◌≤◌, ◌<◌, ◌+◌, ◌∙◌, ℕ, List, sym, refl, subst, arith, inl, inr}
use Rattle.std.specs.List.{All}
use Rattle.sled_core.specs.declared.iobuf.ReservationState.{ReservationState}
use Rattle.sled_core.specs.declared.iobuf.ReservationState.TheVariants.{Open, Completed, Canceled, Manifest, Padding}
use Rattle.sled_core.specs.declared.iobuf.Reserved.{Reserved}
use Rattle.sled_core.specs.inside.Buffers.{text_in, IsPadding, NoPadding, Stands, StandsAs, StandsBy, StandsReserved}
use Rattle.sled_core.specs.Buffers.{body_in}

-- one that is open or was completed, and an ended manifest, is no padding
pub open_plain : (s : ReservationState) → s ≡ Open → s ≢ Padding
open_plain s is same = let both : Open ≡ Padding = sym is ∙ same in cc

pub completed_plain : (s : ReservationState) → s ≡ Completed → s ≢ Padding
completed_plain s is same = let both : Completed ≡ Padding = sym is ∙ same in cc

pub manifest_plain : (s : ReservationState) → s ≡ Manifest → s ≢ Padding
manifest_plain s is same = let both : Manifest ≡ Padding = sym is ∙ same in cc

-- an entry is longer than the sum and the kind of a record, or it ends where the segment does
abbrev pub IsLong : ℕ → Reserved → Type 0
IsLong size r = (5 ≤ r.len) ⊎ (size ≤ r.from + r.len)

-- the longest header has room in it, or it ends where the segment does
abbrev pub HasSpace : ℕ → Reserved → Type 0
HasSpace size r = (r.from + 32 ≤ size) ⊎ (size ≤ r.from + r.len)

module _ (sum : List ℕ → ℕ) (size number : ℕ) where
  module _ (bytes : List ℕ) (r : Reserved) where
    -- what is no padding is a reservation
    by_plain : (s : ReservationState) → s ≢ Padding → StandsBy s sum size number bytes r → StandsReserved sum size number bytes r
    by_plain Open plain stands = stands
    by_plain Completed plain stands = stands
    by_plain Canceled plain stands = stands
    by_plain Manifest plain stands = stands
    by_plain Padding plain stands = absurd (plain refl)

    pub reserved_in : NoPadding r → Stands sum size number bytes r → StandsReserved sum size number bytes r
    reserved_in plain stands = by_plain r.state plain stands

    in_plain : (s : ReservationState) → s ≢ Padding → StandsReserved sum size number bytes r → StandsBy s sum size number bytes r
    in_plain Open plain stands = stands
    in_plain Completed plain stands = stands
    in_plain Canceled plain stands = stands
    in_plain Manifest plain stands = stands
    in_plain Padding plain stands = absurd (plain refl)

    pub in_reserved : NoPadding r → StandsReserved sum size number bytes r → Stands sum size number bytes r
    in_reserved plain stands = in_plain r.state plain stands

    pub padding_in : r.state ≡ Padding → Stands sum size number bytes r → IsPadding sum size number bytes r
    padding_in is stands = subst (λ (s : ReservationState). StandsBy s sum size number bytes r) is stands

    -- either has a byte
    by_some : (s : ReservationState) → StandsBy s sum size number bytes r → 0 < r.len
    by_some Open stands = let a = stands.text.headed in let b = stands.text.long in omega (arith, a, b)
    by_some Completed stands = let a = stands.text.headed in let b = stands.text.long in omega (arith, a, b)
    by_some Canceled stands = let a = stands.text.headed in let b = stands.text.long in omega (arith, a, b)
    by_some Manifest stands = let a = stands.text.headed in let b = stands.text.long in omega (arith, a, b)
    by_some Padding stands = stands.some

    pub some_in : Stands sum size number bytes r → 0 < r.len
    some_in stands = by_some r.state stands

    -- and more, where it doesn't end with the segment
    reserved_long : StandsReserved sum size number bytes r → IsLong size r × HasSpace size r
    reserved_long stands = let a = stands.text.headed in let b = stands.text.long in (inl (omega (arith, a, b)), inl stands.room)

    by_long : (s : ReservationState) → StandsBy s sum size number bytes r → IsLong size r × HasSpace size r
    by_long Open stands = reserved_long stands
    by_long Completed stands = reserved_long stands
    by_long Canceled stands = reserved_long stands
    by_long Manifest stands = reserved_long stands
    by_long Padding stands = let at = stands.to_end in (inr (omega (arith, at)), inr (omega (arith, at)))

    pub long_in : Stands sum size number bytes r → IsLong size r × HasSpace size r
    long_in stands = by_long r.state stands

  pub some_long : (bytes : List ℕ) (rs : List Reserved) → All (Stands sum size number bytes) rs → All (λ x. 0 < x.len) rs
  some_long bytes rs all k d lt = some_in bytes _ (all k d lt)

  pub all_long : (bytes : List ℕ) (rs : List Reserved) → All (Stands sum size number bytes) rs → All (IsLong size) rs
  all_long bytes rs all k d lt = (long_in bytes _ (all k d lt)).0

  pub all_space : (bytes : List ℕ) (rs : List Reserved) → All (Stands sum size number bytes) rs → All (HasSpace size) rs
  all_space bytes rs all k d lt = (long_in bytes _ (all k d lt)).1

  -- Where a text and a body are the same, what stands there is.
  module _ (old new : List ℕ) (r : Reserved) (text : text_in new r ≡ text_in old r) (body : r.header_len ≤ r.len → body_in new r ≡ body_in old r) where
    reserved-same : StandsReserved sum size number old r → StandsReserved sum size number new r
    reserved-same stands = record {
      room = stands.room;
      text = (let long = stands.text.long in
          subst (λ (t : List ℕ). StandsAs sum number t (body_in new r) r) (sym text) (subst (λ (b : List ℕ). StandsAs sum number (text_in old r) b r) (sym (body long)) stands.text));
    }

    by_same : (s : ReservationState) → StandsBy s sum size number old r → StandsBy s sum size number new r
    by_same Open stands = reserved-same stands
    by_same Completed stands = reserved-same stands
    by_same Canceled stands = reserved-same stands
    by_same Manifest stands = reserved-same stands
    by_same Padding stands = record { some = stands.some; to_end = stands.to_end; is = text ∙ stands.is }

    pub stands-same : Stands sum size number old r → Stands sum size number new r
    stands-same stands = by_same r.state stands
