-- All slots of a log are own behind the write of a sealed buffer of one of its segments, and once those at the front have gone that are wholly on the device.
use Rattle.std.proofs.Common.{◌≡◌, ◌≢◌, ◌⊎◌, ◌∙◌, ◌≤◌, ◌<◌, ◌+◌, ◌*◌, ◌/◌, ℕ, zero, suc, max, List, [], ◌∷◌, length, set, take, drop, Some, sym, ap, refl, subst, arith, inl, inr, length-take}
use Rattle.std.specs.List.{All, Contains, slice_get}
use Rattle.std.proofs.lemmas.Bool.{cases_order}
use Rattle.std.proofs.lemmas.List.Elements.{All-cons, All-head, All-tail}
use Rattle.sled_codec.specs.Places.{part}
use Rattle.sled_store.specs.Device.{overwritten}
use Rattle.sled_store.specs.Readers.{IsOwnRange, Reads, ReadsTo}
use Rattle.sled_store.proofs.Segments.Elements.{in_cases, in_first, in_rest}
use Rattle.sled_store.proofs.Segments.FilledLemmas.{slot_before}
use Rattle.sled_core.specs.Begun.{SegmentView}
use Rattle.sled_core.specs.declared.iobuf.Sealed.{Sealed}
use Rattle.sled_core.specs.LogFile.{HasHeader}
use Rattle.sled_core.specs.inside.OwnLog.{HasOwnSlot, IsOwnFile, IsOwnSegment}
use Rattle.sled_core.specs.Recoverable.{NoHeaderOfZeros}
use Rattle.sled_core.specs.SealedBuffers.{sealed_end}
use Rattle.sled_core.specs.inside.SealedBuffers.{written_at}
use Rattle.sled_core.specs.inside.Turned.{written_now}
use Rattle.sled_core.proofs.OwnLog.Kept.{HeadersStay, RecordsStay, range_kept, slot_kept}
use Rattle.sled_core.proofs.OwnLog.SealedRanges.{behind_front, front_written, written_behind}
use Rattle.sled_core.proofs.OwnLog.SlotOfSegment.{slot_of_segment}
use Rattle.sled_core.proofs.OwnLog.Written.{buffers_written, front_kept}
use Rattle.sled_core.proofs.Sealed.LaidLemmas.{EndsRise}

-- The first of segments has gone that is wholly on the device: its slot is own too.
module _ (sum : List ℕ → ℕ) (size : ℕ) (Header : ℕ → List ℕ → Type 0) (Own : ℕ → ℕ → List ℕ → Type 0) (none : NoHeaderOfZeros sum) (big : 32 ≤ size) (log : List ℕ) where
  pub first_gone : (v : SegmentView) (rest : List SegmentView) (slot : ℕ) → v.parts.site.slot ≡ slot * size → v.parts.written_len ≡ size → v.parts.sealed ≡ [] → HasHeader sum log v.parts.site
      → IsOwnFile sum size Header Own log (v ∷ rest) → IsOwnFile sum size Header Own log rest
  first_gone v rest slot lies full unsealed header own = record {
    segments = All-tail (λ (u : SegmentView). IsOwnSegment sum size Header Own log u.parts.site u.parts.written_len u.parts.sealed) v rest own.segments;
    others = λ k apart. elim (cases_order k slot) [
      | inl same ↦ subst (HasOwnSlot sum size Header Own log) (sym same)
          (slot_of_segment sum size Header Own none big log v.parts.site slot size [] [] [] lies tt tt (λ j d lt. absurd (omega (arith, lt))) (λ i above below. absurd (omega (arith, above, below))) (λ some. header)
          (subst (λ (bs : List Sealed). IsOwnSegment sum size Header Own log v.parts.site size bs) unsealed (subst (λ n. IsOwnSegment sum size Header Own log v.parts.site n v.parts.sealed) full
          (All-head (λ (u : SegmentView). IsOwnSegment sum size Header Own log u.parts.site u.parts.written_len u.parts.sealed) v rest own.segments))))
      | inr differs ↦ own.others k (λ u there. elim (in_cases v u rest there) [
        | inl is ↦ λ at. (
            let here : slot * size ≡ k * size = sym lies ∙ ap (λ (x : SegmentView). x.parts.site.slot) is ∙ at in
            absurd (elim differs [
              | inl lower ↦ (let far = slot_before size k slot lower in omega (arith, far, here, big))
              | inr higher ↦ (let far = slot_before size slot k higher in omega (arith, far, here, big))
            ]))
        | inr among ↦ apart u among
      ])
    ];
  }

-- A sealed buffer is written.
module _ (sum : List ℕ → ℕ) (size : ℕ) (Header Header' : ℕ → List ℕ → Type 0) (Own Own' : ℕ → ℕ → List ℕ → Type 0) (log : List ℕ) (v : SegmentView) (from : ℕ) (xs : List ℕ) (some : 0 < length xs) (big : 20 ≤ size)
    (fits : from + length xs ≤ size) (headers : HeadersStay sum size Header Header' Own Own' log (v.parts.site.slot + from) xs some big) (records : RecordsStay sum size Header Header' Own Own' log (v.parts.site.slot + from) xs some big) where
  abbrev new : List ℕ
  new = overwritten log (v.parts.site.slot + from) xs

  abbrev WasOwn : SegmentView → Type 0
  WasOwn u = IsOwnSegment sum size Header Own log u.parts.site u.parts.written_len u.parts.sealed

  abbrev NowOwn : SegmentView → Type 0
  NowOwn u = IsOwnSegment sum size Header' Own' new u.parts.site u.parts.written_len u.parts.sealed

  -- Segments in other slots.
  abbrev pub InOthers : SegmentView → Type 0
  InOthers u = (u.parts.site.slot + size ≤ v.parts.site.slot) ⊎ (v.parts.site.slot + size ≤ u.parts.site.slot)

  pub other_segment : (u : SegmentView) → EndsRise u.parts.written_len u.parts.sealed size → InOthers u → WasOwn u → NowOwn u
  other_segment u rise apart was = record {
    front = λ more. kept 0 u.parts.written_len (was.front more);
    behind = written_behind (IsOwnRange sum size Header Own (u.parts.site.place / size) u.parts.site.slot (part log u.parts.site.slot size)) (IsOwnRange sum size Header' Own' (u.parts.site.place / size) u.parts.site.slot (part new u.parts.site.slot size)) 0
        (λ f t above range. kept f t range) u.parts.written_len u.parts.sealed size (omega arith) rise was.behind;
  }
    where
      kept : (f t : ℕ) → IsOwnRange sum size Header Own (u.parts.site.place / size) u.parts.site.slot (part log u.parts.site.slot size) f t → IsOwnRange sum size Header' Own' (u.parts.site.place / size) u.parts.site.slot (part new u.parts.site.slot size) f t
      kept f t range =
          let there = range.there in
          let short : t ≤ size = omega (arith, there, length-take size (drop u.parts.site.slot log)) in
          range_kept sum size Header Header' Own Own' log (v.parts.site.slot + from) xs some big headers records (u.parts.site.place / size) u.parts.site.slot f t short
          (elim apart [ inl before ↦ inl (omega (arith, before, short)) | inr behind ↦ inr (omega (arith, behind, fits)) ]) range

  -- The segment of the buffer.
  module _ (k : ℕ) (b : Sealed) (there : slice_get v.parts.sealed k ≡ Some b) (rise : EndsRise v.parts.written_len v.parts.sealed size) (begins : sealed_end v.parts.written_len (take k v.parts.sealed) ≡ from) (ends : b.end ≡ from + length xs)
      (rise_now : EndsRise v.parts.written_len (written_at k v.parts.sealed) size) (above : v.parts.written_len ≤ from)
      (headed : from ≡ 0 → (20 ≤ length xs) × Header' v.parts.site.slot (take 20 xs)) (begun : max 20 from ≤ from + length xs)
      (laid : (at len : ℕ) → Reads sum size (v.parts.site.place / size) (part new v.parts.site.slot size) (max 20 from) at len → at + len ≤ from + length xs → Own' (v.parts.site.place / size) (v.parts.site.slot + at) (part (part new v.parts.site.slot size) at len))
      (to_end : from + length xs < size → ReadsTo sum size (v.parts.site.place / size) (part new v.parts.site.slot size) (max 20 from) (from + length xs)) where
    pub this_segment : WasOwn v → NowOwn (written_now k v)
    this_segment was =
        let number : ℕ = v.parts.site.place / size in
        let slot : ℕ = v.parts.site.slot in
        let all = buffers_written sum size log slot from xs some fits Header Header' Own Own' big number headers records headed begun laid to_end v.parts.written_len v.parts.sealed k b size there rise (omega arith) begins ends was.behind in
        let front : 0 < v.parts.written_len → IsOwnRange sum size Header' Own' number slot (part new slot size) 0 v.parts.written_len =
        λ more. front_kept sum size log slot from xs some fits Header Header' Own Own' big number headers records headed begun laid to_end v.parts.written_len above (was.front more) in
        record {
          front = front_written sum size Header' Own' number slot (part new slot size) v.parts.written_len (written_at k v.parts.sealed) size (omega arith) rise_now front all;
          behind = behind_front (IsOwnRange sum size Header' Own' number slot (part new slot size)) v.parts.written_len (written_at k v.parts.sealed) all;
        }

    abbrev now : SegmentView
    now = written_now k v

    others_own : (l : List SegmentView) → ((m : ℕ) (u : SegmentView) → slice_get l m ≡ Some u → InOthers u × EndsRise u.parts.written_len u.parts.sealed size) → All WasOwn l → All NowOwn l
    others_own [] others was = λ j d lt. absurd (omega (arith, lt))
    others_own (x ∷ xs) others was =
        let beside = others zero x refl in
        All-cons NowOwn x xs (other_segment x beside.1 beside.0 (All-head WasOwn x xs was)) (others_own xs (λ m u at. others (suc m) u at) (All-tail WasOwn x xs was))

    all_own : (l : List SegmentView) (n : ℕ) → slice_get l n ≡ Some v → ((m : ℕ) (u : SegmentView) → slice_get l m ≡ Some u → m ≢ n → InOthers u × EndsRise u.parts.written_len u.parts.sealed size) → All WasOwn l → All NowOwn (set l n now)
    all_own [] n at others was = absurd (let never : ⊥ = cc in never)
    all_own (x ∷ xs) zero at others was =
        let same : x ≡ v = cc in
        All-cons NowOwn now xs (this_segment (subst WasOwn same (All-head WasOwn x xs was))) (others_own xs (λ m u there. others (suc m) u there (λ is. omega (arith, is))) (All-tail WasOwn x xs was))
    all_own (x ∷ xs) (suc n) at others was =
        let beside = others zero x refl (λ is. omega (arith, is)) in
        All-cons NowOwn x (set xs n now) (other_segment x beside.1 beside.0 (All-head WasOwn x xs was)) (all_own xs n at (λ m u there differs. others (suc m) u there (λ is. differs (omega (arith, is)))) (All-tail WasOwn x xs was))

    -- one of the segments is this one, or still among them
    still_in : (l : List SegmentView) (n : ℕ) → slice_get l n ≡ Some v → (u : SegmentView) → Contains l u → (v ≡ u) ⊎ Contains (set l n now) u
    still_in [] n at u among = absurd (let never : ⊥ = cc in never)
    still_in (x ∷ xs) zero at u among = elim (in_cases x u xs among) [ inl is ↦ inl (let same : x ≡ v = cc in sym same ∙ is) | inr rest ↦ inr (in_rest now u xs rest) ]
    still_in (x ∷ xs) (suc n) at u among = elim (in_cases x u xs among) [
      | inl is ↦ inr (subst (Contains (x ∷ set xs n now)) is (in_first x (set xs n now)))
      | inr rest ↦ elim (still_in xs n at u rest) [ inl is ↦ inl is | inr there ↦ inr (in_rest x u (set xs n now) there) ]
    ]

    now_in : (l : List SegmentView) (n : ℕ) → slice_get l n ≡ Some v → Contains (set l n now) now
    now_in [] n at = absurd (let never : ⊥ = cc in never)
    now_in (x ∷ xs) zero at = in_first now xs
    now_in (x ∷ xs) (suc n) at = in_rest x now (set xs n now) (now_in xs n at)

    -- All segments, and the slots of none of them.
    pub file_written : (line : List SegmentView) (n slot : ℕ) → slice_get line n ≡ Some v → v.parts.site.slot ≡ slot * size
        → ((m : ℕ) (u : SegmentView) → slice_get line m ≡ Some u → m ≢ n → InOthers u × EndsRise u.parts.written_len u.parts.sealed size)
        → IsOwnFile sum size Header Own log line → IsOwnFile sum size Header' Own' new (set line n now)
    file_written line n slot among lies others was = record {
      segments = all_own line n among others was.segments;
      others = λ j apart.
          let not_this = apart now (now_in line n among) in
          slot_kept sum size Header Header' Own Own' log (v.parts.site.slot + from) xs some big headers records j
          (elim (cases_order j slot) [
            | inl same ↦ absurd (not_this (lies ∙ ap (λ m. m * size) (sym same)))
            | inr (inl lower) ↦ inl (let far = slot_before size j slot lower in omega (arith, far, lies))
            | inr (inr higher) ↦ inr (let far = slot_before size slot j higher in omega (arith, far, lies, fits))
          ])
          (was.others j (λ u there. elim (still_in line n among u there) [ inl is ↦ subst (λ (x : SegmentView). x.parts.site.slot ≢ j * size) is not_this | inr still ↦ apart u still ]));
    }
