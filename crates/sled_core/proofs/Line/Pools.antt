-- What a call makes of a log's pool: of one that begins a segment, seals or writes a buffer, and of several.
use Rattle.std.proofs.Common.{◌≡◌, ◌∙◌, ◌+◌, ◌-◌, ◌≤◌, ◌<◌, ◌==◌, if◌then◌else◌, ap, sym, refl, arith, ℕ, zero, suc, Bool, true, false, Some}
use Rattle.std.proofs.Common.{List, [], ◌∷◌, ◌++◌, length, set}
use Rattle.std.specs.List.{slice_get}
use Rattle.std.proofs.lemmas.Bool.Decides.{nat_tests}
use Rattle.sled_store.specs.SegmentStates.{Machine}
use Rattle.sled_core.specs.Begun.{SegmentView}
use Rattle.sled_core.specs.declared.logger.Log.{Log}
use Rattle.sled_core.specs.Fits.{IsUnchanged, current_of, line_of, pooled_of, segment_size_of, unwritten_segments}
use Rattle.sled_core.specs.Pool.{Pool, count_unwritten, with_given}
use Rattle.sled_core.specs.Pooled.{PoolsSome, PoolsWith, begun_sealed}
use Rattle.sled_core.specs.Positions.{is_short}
use Rattle.sled_core.specs.inside.Turned.{begun_view, next_line, promoted}
use Rattle.sled_core.specs.Waiting.{at_last, closed_now, sealed_now}
use Rattle.sled_core.proofs.Line.Closes.{filled_written}

-- How many segments aren't wholly on the device.

-- one that is counts for nothing
abbrev one_of : ℕ → SegmentView → ℕ
one_of size v = if v.parts.written_len == size then 0 else 1

one_whole : (size : ℕ) (v : SegmentView) → v.parts.written_len ≡ size → one_of size v ≡ 0
one_whole size v is = let test : (v.parts.written_len == size) ≡ true = grind (arith, nat_tests, is) in ap (λ (b : Bool). if b then 0 else 1) test

one_not : (size : ℕ) (v : SegmentView) → v.parts.written_len < size → one_of size v ≡ 1
one_not size v low = let test : (v.parts.written_len == size) ≡ false = grind (arith, nat_tests, low) in ap (λ (b : Bool). if b then 0 else 1) test

-- Those that are left out at the front are.
count_promoted : (size : ℕ) (vs : List SegmentView) → count_unwritten size (promoted size vs) ≡ count_unwritten size vs
count_promoted size [] = refl
count_promoted size (v ∷ []) = refl
count_promoted size (v ∷ w ∷ ws) = by (count_promoted size (w ∷ ws)) (v.parts.written_len == size) refl where
  by : count_unwritten size (promoted size (w ∷ ws)) ≡ count_unwritten size (w ∷ ws) → (b : Bool) → (v.parts.written_len == size) ≡ b
      → count_unwritten size (if b then promoted size (w ∷ ws) else v ∷ w ∷ ws) ≡ count_unwritten size (v ∷ w ∷ ws)
  by rest true is = let one : one_of size v ≡ 0 = ap (λ (b : Bool). if b then 0 else 1) is in omega (arith, rest, one)
  by rest false is = refl

-- Another one in the place of one of them counts in its place.
count_set : (size : ℕ) (vs : List SegmentView) (n : ℕ) (v w : SegmentView) → slice_get vs n ≡ Some v
    → count_unwritten size (set vs n w) + one_of size v ≡ count_unwritten size vs + one_of size w
count_set size [] n v w there = cc
count_set size (x ∷ xs) zero v w there = let same : x ≡ v = cc in let one = ap (one_of size) same in omega (arith, one)
count_set size (x ∷ xs) (suc n) v w there = let rest = count_set size xs n v w there in omega (arith, rest)

count_last : (size : ℕ) (f : SegmentView → SegmentView) → ((v : SegmentView) → (f v).parts.written_len ≡ v.parts.written_len)
    → (vs : List SegmentView) → count_unwritten size (at_last f vs) ≡ count_unwritten size vs
count_last size f same [] = refl
count_last size f same (v ∷ []) = ap (λ n. (if n == size then 0 else 1) + 0) (same v)
count_last size f same (v ∷ w ∷ ws) = ap (λ n. one_of size v + n) (count_last size f same (w ∷ ws))

count_more : (size : ℕ) (vs : List SegmentView) (v : SegmentView) → count_unwritten size (vs ++ v ∷ []) ≡ count_unwritten size vs + one_of size v
count_more size [] v = omega arith
count_more size (x ∷ xs) v = let rest = count_more size xs v in omega (arith, rest)

-- What is written is stated over the buffers that are kept before and after, and over the segments that aren't wholly on the device.

module _ {D C : Type 0} (old new : Log D C) where
  pub pools_same : line_of new ≡ line_of old → new.pool ≡ old.pool → segment_size_of new ≡ segment_size_of old → PoolsWith 0 old new
  pools_same line pool size =
      let few = old.pooling.few in
      let count = ap (λ (x : Pool). x.count) pool in
      let same : unwritten_segments new ≡ unwritten_segments old = λ i. count_unwritten (size i) (line i) in
      record { fewer = omega (arith, same); pooled = omega (arith, few, count, same) }

  pub pools_unchanged : IsUnchanged old new → PoolsWith 0 old new
  pools_unchanged is =
      let few = old.pooling.few in
      let count = is.pooled in
      let same : unwritten_segments new ≡ unwritten_segments old = λ i. count_unwritten (is.config i).config.segment_size (is.line i) in
      record { fewer = omega (arith, same); pooled = omega (arith, few, count, same) }

  -- The current buffer is sealed,
  pub pools_sealed : line_of new ≡ at_last sealed_now (line_of old) → new.pool ≡ old.pool → segment_size_of new ≡ segment_size_of old → PoolsWith 0 old new
  pools_sealed line pool size =
      let few = old.pooling.few in
      let count = ap (λ (x : Pool). x.count) pool in
      let same : unwritten_segments new ≡ unwritten_segments old =
      (λ i. count_unwritten (size i) (line i)) ∙ count_last (segment_size_of old) sealed_now (λ v. refl) (line_of old) in
      record { fewer = omega (arith, same); pooled = omega (arith, few, count, same) }

  -- or a segment is begun,
  pub pools_begun : (sum : List ℕ → ℕ) (m : Machine) (stable : ℕ) → line_of new ≡ next_line sum (segment_size_of old) m stable (line_of old)
      → pooled_of new ≡ pooled_of old - 1 → segment_size_of new ≡ segment_size_of old → PoolsWith 1 old new
  pools_begun sum m stable line pooled size =
      let few = old.pooling.few in
      let n : ℕ = segment_size_of old in
      let begun : SegmentView = begun_view sum n m stable (current_of old) in
      let big = old.config.config.least in
      let one = one_not n begun (omega (arith, big)) in
      let more : unwritten_segments new ≡ unwritten_segments old + 1 =
      (λ i. count_unwritten (size i) (line i)) ∙ count_more n (at_last (closed_now sum n) (line_of old)) begun
      ∙ (λ i. count_last n (closed_now sum n) (filled_written sum n) (line_of old) i + one i) in
      record { fewer = omega (arith, more); pooled = omega (arith, few, pooled, more) }

  -- or a buffer is written, by which its segment may be wholly on the device.
  pub pools_written : (n : ℕ) (v w : SegmentView) → slice_get (line_of old) n ≡ Some v → v.parts.written_len < segment_size_of old
      → line_of new ≡ promoted (segment_size_of old) (set (line_of old) n w)
      → pooled_of new ≡ with_given (w.parts.written_len == segment_size_of old) (pooled_of old)
      → segment_size_of new ≡ segment_size_of old → PoolsWith 0 old new
  pools_written n v w there low line pooled size =
      let few = old.pooling.few in
      let its : ℕ = segment_size_of old in
      let one = one_not its v low in
      let counts = count_set its (line_of old) n v w there in
      let now : unwritten_segments new ≡ count_unwritten its (set (line_of old) n w) =
      (λ i. count_unwritten (size i) (line i)) ∙ count_promoted its (set (line_of old) n w) in
      by (w.parts.written_len == its) refl few one counts now
    where
      by : (b : Bool) → (w.parts.written_len == segment_size_of old) ≡ b → pooled_of old ≤ 4 → one_of (segment_size_of old) v ≡ 1
          → count_unwritten (segment_size_of old) (set (line_of old) n w) + one_of (segment_size_of old) v
          ≡ unwritten_segments old + one_of (segment_size_of old) w
          → unwritten_segments new ≡ count_unwritten (segment_size_of old) (set (line_of old) n w) → PoolsWith 0 old new
      by true is few one counts now =
          let own = ap {B = ℕ} (λ (b : Bool). if b then 0 else 1) is in
          let gives = pooled ∙ ap (λ (b : Bool). with_given b (pooled_of old)) is in
          record { fewer = omega (arith, one, own, counts, now); pooled = omega (arith, one, own, counts, now, gives) }
      by false is few one counts now =
          let own = ap {B = ℕ} (λ (b : Bool). if b then 0 else 1) is in
          let gives = pooled ∙ ap (λ (b : Bool). with_given b (pooled_of old)) is in
          record { fewer = omega (arith, one, own, counts, now); pooled = omega (arith, one, own, counts, now, gives, few) }

pub pools_still : {D C : Type 0} (log : Log D C) → PoolsWith 0 log log
pools_still log = pools_same log log refl refl refl

-- Several calls: what begins segments comes first.
module _ {D C : Type 0} (old mid new : Log D C) where
  pub pools_further : (begun : ℕ) → PoolsWith begun old mid → PoolsWith 0 mid new → PoolsWith begun old new
  pools_further begun first second =
      let a = first.fewer in
      let b = first.pooled in
      let c = second.fewer in
      let d = second.pooled in
      record { fewer = omega (arith, a, c); pooled = omega (arith, a, b, c, d) }

  pub pools_some_further : PoolsSome old mid → PoolsWith 0 mid new → PoolsSome old new
  pools_some_further first second = (first.0, first.1, pools_further first.0 first.2 second)

pub pools_some : {D C : Type 0} (old new : Log D C) → PoolsWith 0 old new → PoolsSome old new
pools_some old new is = (0, omega arith, is)

pub pools_sealing : {D C : Type 0} (old new : Log D C) → PoolsWith (begun_sealed old) old new → PoolsSome old new
pools_sealing old new is = (begun_sealed old, by (is_short (segment_size_of old) (length (current_of old).parts.bytes)), is) where
  by : (b : Bool) → (if b then 1 else 0) ≤ 1
  by true = omega arith
  by false = omega arith
