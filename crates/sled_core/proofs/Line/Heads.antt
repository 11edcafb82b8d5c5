-- The headers that aren't on the device: those of segments one behind another, with the last one changed, with one of them changed, with a further one behind them, and without those at the front that are wholly on the device.
use Rattle.std.proofs.Common.{◌≡◌, ◌∙◌, ◌⊎◌, ◌≤◌, ◌+◌, ◌==◌, ◌/◌, ap, sym, refl, arith, subst, inl, inr, ℕ, zero, suc, Bool, true, false, if◌then◌else◌, List, [], ◌∷◌, ◌++◌, length, max, drop, take, set, Some}
use Rattle.std.specs.List.{Contains, slice_get}
use Rattle.std.proofs.lemmas.Bool.Decides.{nat_tests}
use Rattle.std.proofs.lemmas.List.{take-append-le}
use Rattle.std.proofs.lemmas.List.Elements.{Contains-append_cases}
use Rattle.sled_codec.specs.Written.{written}
use Rattle.sled_store.proofs.Segments.Elements.{in_first, in_nothing, only_in}
use Rattle.sled_core.specs.Among.{AreAmong}
use Rattle.sled_core.specs.Begun.{SegmentView}
use Rattle.sled_core.specs.Heads.{HeadAt, head_of, heads_along, heads_in}
use Rattle.sled_core.specs.invariants.Caps.{segment_rest}
use Rattle.sled_core.specs.declared.iobuf.ReservationState.{ReservationState}
use Rattle.sled_core.specs.declared.iobuf.Reserved.{Reserved}
use Rattle.sled_core.specs.declared.iobuf.Sealed.{Sealed}
use Rattle.sled_core.specs.inside.SealedBuffers.{AreSealed, run_end, written_at}
use Rattle.sled_core.specs.inside.Turned.{ended_now, promoted, reserved_now, written_now}
use Rattle.sled_core.specs.Waiting.{at_last, closed_now, last_of, sealed_now}
use Rattle.sled_core.proofs.Holds.Facts.{IsSegment}
use Rattle.sled_core.proofs.Line.Among.{among_same}
use Rattle.sled_core.proofs.Line.Gathered.{Gathers, closed_keeps, filled_up, gathered-append, gathered_last, nth_among, promoted_among, set_among}
use Rattle.sled_core.proofs.Line.Segments.{AreSegments, last_segment}
use Rattle.sled_core.proofs.Reserve.Ranges.{at_there, chain_within, part-written_before}
use Rattle.sled_core.proofs.Sealed.Around.{whole_chain}

-- a header, where nothing of its segment is on the device
abbrev with_head : Bool → HeadAt → List HeadAt
with_head o h = if o then h ∷ [] else []

-- It is what it was where its segment lies there, with as much written and the same bytes at the front.
heads_same : (v w : SegmentView) → w.parts.site.place ≡ v.parts.site.place → w.parts.written_len ≡ v.parts.written_len → take 20 w.parts.bytes ≡ take 20 v.parts.bytes → heads_in w ≡ heads_in v
heads_same v w place written bytes = λ i. with_head (written i == 0) (record { place = place i; bytes = bytes i })

-- So it is with more behind them.
heads_more : (size place : ℕ) (v w : SegmentView) (more : List ℕ) → IsSegment size place v → w.parts.site.place ≡ v.parts.site.place → w.parts.written_len ≡ v.parts.written_len → w.parts.bytes ≡ v.parts.bytes ++ more → heads_in w ≡ heads_in v
heads_more size place v w more facts at written bytes = heads_same v w at written (ap (take 20) bytes ∙ take-append-le 20 v.parts.bytes more facts.begun)

-- Those of segments are gathered along them.
heads_gather : Gathers heads_in heads_along
heads_gather = record { nothing = refl; further = λ v vs. refl }

-- The last of segments has the same one where its current buffer is sealed,
pub heads_sealed : (v : SegmentView) (vs : List SegmentView) → heads_along (at_last sealed_now (v ∷ vs)) ≡ heads_along (v ∷ vs)
heads_sealed v vs = gathered_last heads_in heads_along heads_gather sealed_now v vs refl

-- where it is filled before,
filled_heads : (sum : List ℕ → ℕ) (size place : ℕ) (v : SegmentView) → IsSegment size place v → heads_in (filled_up sum size v) ≡ heads_in v
filled_heads sum size place v facts =
    heads_more size place v (filled_up sum size v) (segment_rest sum size (v.parts.site.place / size) (length v.parts.bytes)) facts refl refl refl

pub heads_closed : (sum : List ℕ → ℕ) (size place : ℕ) (v : SegmentView) (vs : List SegmentView) → AreSegments size place (v ∷ vs) → heads_along (at_last (closed_now sum size) (v ∷ vs)) ≡ heads_along (v ∷ vs)
heads_closed sum size place v vs are =
    let last = last_segment size place v vs are in
    gathered_last heads_in heads_along heads_gather (closed_now sum size) v vs
    (closed_keeps heads_in (λ w. refl) sum size (last_of v vs) (filled_heads sum size last.0 (last_of v vs) last.1))

-- and where a reservation is made in it.
pub heads_reserved : (more : List ℕ) (r : Reserved) (size place : ℕ) (v : SegmentView) (vs : List SegmentView) → AreSegments size place (v ∷ vs) → heads_along (at_last (reserved_now more r) (v ∷ vs)) ≡ heads_along (v ∷ vs)
heads_reserved more r size place v vs are =
    let w : SegmentView = last_of v vs in
    let last = last_segment size place v vs are in
    gathered_last heads_in heads_along heads_gather (reserved_now more r) v vs (heads_more size last.0 w (reserved_now more r w) more last.1 refl refl refl)

-- A segment of which nothing is on the device is put behind them: each header is one that was there, or that one's.
pub heads_begun : (vs : List SegmentView) (x : SegmentView) (h : HeadAt) → x.parts.written_len ≡ 0 → Contains (heads_along (vs ++ x ∷ [])) h → Contains (heads_along vs) h ⊎ (h ≡ head_of x)
heads_begun vs x h none there =
    let fresh : (x.parts.written_len == 0) ≡ true = grind (arith, nat_tests, none) in
    let own : heads_in x ++ [] ≡ head_of x ∷ [] = ap (λ (o : Bool). with_head o (head_of x) ++ []) fresh in
    let parted = subst (λ (l : List HeadAt). Contains l h) (gathered-append heads_in heads_along heads_gather vs (x ∷ [])) there in
    elim (Contains-append_cases (heads_along vs) (heads_in x ++ []) h parted) [
      | inl had ↦ inl had
      | inr last ↦ inr (sym (only_in (head_of x) h (subst (λ (l : List HeadAt). Contains l h) own last)))
    ]

-- That of each of them of which nothing is on the device is there.
pub head_there : (vs : List SegmentView) (n : ℕ) (v : SegmentView) → slice_get vs n ≡ Some v → v.parts.written_len ≡ 0 → Contains (heads_along vs) (head_of v)
head_there vs n v there none =
    let fresh : (v.parts.written_len == 0) ≡ true = grind (arith, nat_tests, none) in
    nth_among heads_in heads_along heads_gather vs n v there (head_of v)
    (subst (λ (o : Bool). Contains (with_head o (head_of v)) (head_of v)) (sym fresh) (in_first (head_of v) []))

-- Those at the front go.
pub heads_promoted : (size : ℕ) (vs : List SegmentView) → AreAmong (heads_along (promoted size vs)) (heads_along vs)
heads_promoted size vs = promoted_among heads_in heads_along heads_gather size vs

-- One of the segments is another: it has no other header.
pub set_heads : (vs : List SegmentView) (n : ℕ) (v w : SegmentView) → slice_get vs n ≡ Some v → AreAmong (heads_in w) (heads_in v) → AreAmong (heads_along (set vs n w)) (heads_along vs)
set_heads vs n v w there among = set_among heads_in heads_along heads_gather [] vs n v w there among

-- One of its sealed buffers is written: those at the front that are end no lower.
run_rises : (from : ℕ) (rs : List Reserved) (bs : List Sealed) → AreSealed from rs bs → from ≤ run_end from bs
run_rises from rs [] are = omega arith
run_rises from rs (b ∷ bs) are = by (run_rises b.end (drop b.count rs) bs are.1) b.is_written where
  by : b.end ≤ run_end b.end bs → (o : Bool) → from ≤ (if o then run_end b.end bs else from)
  by rest true = let up = are.0.rises in omega (arith, up, rest)
  by rest false = omega arith

written_rises : (from k : ℕ) (rs : List Reserved) (bs : List Sealed) → AreSealed from rs bs → from ≤ run_end from (written_at k bs)
written_rises from k rs [] are = omega arith
written_rises from zero rs (b ∷ bs) are = let up = are.0.rises in let rest = run_rises b.end (drop b.count rs) bs are.1 in omega (arith, up, rest)
written_rises from (suc k) rs (b ∷ bs) are = by (written_rises b.end k (drop b.count rs) bs are.1) b.is_written where
  by : b.end ≤ run_end b.end (written_at k bs) → (o : Bool) → from ≤ (if o then run_end b.end (written_at k bs) else from)
  by rest true = let up = are.0.rises in omega (arith, up, rest)
  by rest false = omega arith

pub heads_written : (v : SegmentView) (k : ℕ) → AreSealed v.parts.written_len v.parts.reserved v.parts.sealed → AreAmong (heads_in (written_now k v)) (heads_in v)
heads_written v k are = by (run_end v.parts.written_len (written_at k v.parts.sealed) == 0) refl where
  rises : v.parts.written_len ≤ run_end v.parts.written_len (written_at k v.parts.sealed)
  rises = written_rises v.parts.written_len k v.parts.reserved v.parts.sealed are

  by : (o : Bool) → (run_end v.parts.written_len (written_at k v.parts.sealed) == 0) ≡ o → AreAmong (with_head o (head_of v)) (heads_in v)
  by true is =
      let up = rises in
      let none : (v.parts.written_len == 0) ≡ true = grind (arith, nat_tests, is, up) in
      among_same (head_of v ∷ []) (heads_in v) (sym (ap (λ (o : Bool). with_head o (head_of v)) none))
  by false is = λ h there. absurd (in_nothing h there)

-- A reservation of it has ended, with these bytes over the beginning of its record: that stands behind the header.
pub heads_ended : {size place : ℕ} (v : SegmentView) → IsSegment size place v → (i : ℕ) (r : Reserved) → slice_get v.parts.reserved i ≡ Some r → (text : List ℕ) → length text ≤ r.len → (state : ReservationState)
    → heads_in (ended_now i r text state v) ≡ heads_in v
heads_ended v facts i r there text short state =
    let chain = whole_chain v.parts.written_len v.parts.reserved v.parts.sealed (length v.parts.bytes) facts.are facts.chain in
    let lies = at_there (λ x. (max 20 v.parts.written_len ≤ x.from) × (x.from + x.len ≤ length v.parts.bytes)) v.parts.reserved i r there (chain_within (max 20 v.parts.written_len) (length v.parts.bytes) v.parts.reserved chain) in
    let behind = lies.0 in
    let inside = lies.1 in
    heads_same v (ended_now i r text state v) refl refl (part-written_before v.parts.bytes text r.from 0 20 (omega (arith, behind)) (omega (arith, short, inside)))
