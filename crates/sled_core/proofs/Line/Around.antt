-- The buffer of a line that has a place: it is the first one of its segment that ends behind that, and there is none where that one is written.
use Rattle.std.proofs.Common.{◌≡◌, ◌∙◌, ◌≤◌, ◌<◌, ◌+◌, ◌&&◌, ap, sym, refl, arith, subst, inl, inr, ℕ, zero, suc, Bool, true, false, nat_lt, nat_le, if◌then◌else◌, List, [], ◌∷◌, ◌++◌, drop, take, set, Option, None, Some}
use Rattle.std.specs.List.{slice_get, Contains}
use Rattle.std.specs.List.Sorted.{IsPartitionPoint}
use Rattle.std.proofs.lemmas.Bool.Decides.{nat_tests}
use Rattle.std.proofs.lemmas.List.{drop-drop}
use Rattle.std.proofs.lemmas.List.Elements.{Contains-append_cases, Contains-append_left, Contains-append_right}
use Rattle.sled_store.proofs.Segments.Elements.{in_first, in_rest}
use Rattle.sled_core.specs.inside.Begun.{AreFilled}
use Rattle.sled_core.specs.Begun.{SegmentView, begin_of}
use Rattle.sled_core.specs.declared.iobuf.Reserved.{Reserved}
use Rattle.sled_core.specs.declared.iobuf.Sealed.{Sealed}
use Rattle.sled_core.specs.declared.iobuf.SegmentPosition.{SegmentPosition}
use Rattle.sled_core.specs.inside.SealedBuffers.{AreSealed, written_at}
use Rattle.sled_core.specs.SealedBuffers.{sealed_count, sealed_end}
use Rattle.sled_core.specs.inside.Turned.{written_now}
use Rattle.sled_core.specs.Waiting.{BufferAt, buffer_at, free_around, has_place, held_around, none_around, one_around, unless_held, unwritten, unwritten_in, unwritten_of, without_around}
use Rattle.sled_core.proofs.Line.Below.{BeginFrom, lie_begin}
use Rattle.sled_core.proofs.Line.Lying.{LieBetween, end_of, lie_up, line_lie, unwritten_lie, unwritten_run}
use Rattle.sled_core.proofs.Holds.Nth.{nth_set}
use Rattle.sled_core.proofs.Line.Segments.{AreSegments}
use Rattle.sled_core.proofs.Reserve.Ranges.{there_split}

-- The first one that has a place.
abbrev pub found : ℕ → List BufferAt → Option BufferAt
found at [] = None
found at (b ∷ bs) = if has_place at b then Some b else found at bs

-- Which is written of it, the least place of its open reservations, the list that it is, and whether there is none.

abbrev pub free_of : Option BufferAt → List BufferAt
free_of None = []
free_of (Some b) = unless_held b.held (b ∷ [])

abbrev pub held_of : Option BufferAt → Option ℕ
held_of None = None
held_of (Some b) = b.held

abbrev pub list_of : Option BufferAt → List BufferAt
list_of None = []
list_of (Some b) = b ∷ []

abbrev pub is_none : Option BufferAt → Bool
is_none None = true
is_none (Some b) = false

pub free_found : (at : ℕ) (bs : List BufferAt) → free_around at bs ≡ free_of (found at bs)
free_found at [] = refl
free_found at (b ∷ bs) = by_test (free_found at bs) (has_place at b) where
  by_test : free_around at bs ≡ free_of (found at bs) → (o : Bool) → (if o then unless_held b.held (b ∷ []) else free_around at bs) ≡ free_of (if o then Some b else found at bs)
  by_test rest true = refl
  by_test rest false = rest

pub held_found : (at : ℕ) (bs : List BufferAt) → held_around at bs ≡ held_of (found at bs)
held_found at [] = refl
held_found at (b ∷ bs) = by_test (held_found at bs) (has_place at b) where
  by_test : held_around at bs ≡ held_of (found at bs) → (o : Bool) → (if o then b.held else held_around at bs) ≡ held_of (if o then Some b else found at bs)
  by_test rest true = refl
  by_test rest false = rest

pub none_found : (at : ℕ) (bs : List BufferAt) → none_around at bs ≡ is_none (found at bs)
none_found at [] = refl
none_found at (b ∷ bs) = by_test (none_found at bs) (has_place at b) where
  by_test : none_around at bs ≡ is_none (found at bs) → (o : Bool) → (if o then false else none_around at bs) ≡ is_none (if o then Some b else found at bs)
  by_test rest true = refl
  by_test rest false = rest

-- Buffers behind others are looked at where none of these has it.

abbrev pub or_found : Option BufferAt → Option BufferAt → Option BufferAt
or_found None o = o
or_found (Some b) o = Some b

pub found_on : (at : ℕ) (xs ys : List BufferAt) → found at (xs ++ ys) ≡ or_found (found at xs) (found at ys)
found_on at [] ys = refl
found_on at (x ∷ xs) ys = by_test (found_on at xs ys) (has_place at x) where
  by_test : found at (xs ++ ys) ≡ or_found (found at xs) (found at ys) → (o : Bool) → (if o then Some x else found at (xs ++ ys)) ≡ or_found (if o then Some x else found at xs) (found at ys)
  by_test rest true = refl
  by_test rest false = rest

or_none : (o : Option BufferAt) → or_found o None ≡ o
or_none None = refl
or_none (Some b) = refl

-- None of those has it that end before it, or begin behind it.

skip_ended : (at : ℕ) (b : BufferAt) (bs : List BufferAt) → b.end ≤ at → found at (b ∷ bs) ≡ found at bs
skip_ended at b bs le = by_test (let no : nat_lt at b.end ≡ false = grind (arith, nat_tests, le) in no) (nat_le b.place at) where
  by_test : nat_lt at b.end ≡ false → (o : Bool) → (if o && nat_lt at b.end then Some b else found at bs) ≡ found at bs
  by_test behind true = ap (λ (p : Bool). if p then Some b else found at bs) behind
  by_test behind false = refl

pub found_below : (at from : ℕ) (bs : List BufferAt) (to : ℕ) → LieBetween from bs to → to ≤ at → found at bs ≡ None
found_below at from [] to lie le = refl
found_below at from (b ∷ bs) to lie le = let up = lie_up b.end bs to lie.2 in skip_ended at b bs (omega (arith, up, le)) ∙ found_below at b.end bs to lie.2 le

pub found_above : (at : ℕ) (bs : List BufferAt) → BeginFrom (suc at) bs → found at bs ≡ None
found_above at [] begin = refl
found_above at (b ∷ bs) begin =
    let here = begin.0 in
    let no : nat_le b.place at ≡ false = grind (arith, nat_tests, here) in
    ap (λ (o : Bool). if o && nat_lt at b.end then Some b else found at bs) no ∙ found_above at bs begin.1

pub found_front : (at : ℕ) (xs ys : List BufferAt) → BeginFrom (suc at) ys → found at (xs ++ ys) ≡ found at xs
found_front at xs ys begin = found_on at xs ys ∙ ap (or_found (found at xs)) (found_above at ys begin) ∙ or_none (found at xs)

-- The buffers without the first that has the place.

-- the one that has it
pub one_found : (at : ℕ) (bs : List BufferAt) → one_around at bs ≡ list_of (found at bs)
one_found at [] = refl
one_found at (b ∷ bs) = by_test (one_found at bs) (has_place at b) where
  by_test : one_around at bs ≡ list_of (found at bs) → (o : Bool) → (if o then b ∷ [] else one_around at bs) ≡ list_of (if o then Some b else found at bs)
  by_test rest true = refl
  by_test rest false = rest

-- all of them, where none has it
pub without_none : (at : ℕ) (bs : List BufferAt) → found at bs ≡ None → without_around at bs ≡ bs
without_none at [] none = refl
without_none at (b ∷ bs) none = by_test (without_none at bs) (has_place at b) none where
  by_test : (found at bs ≡ None → without_around at bs ≡ bs) → (o : Bool) → (if o then Some b else found at bs) ≡ None → (if o then bs else b ∷ without_around at bs) ≡ b ∷ bs
  by_test rest true some = cc
  by_test rest false none = ap (λ (l : List BufferAt). b ∷ l) (rest none)

-- of two parts, where none of the second has it, or none of the first
without_front : (at : ℕ) (xs ys : List BufferAt) → found at ys ≡ None → without_around at (xs ++ ys) ≡ without_around at xs ++ ys
without_front at [] ys none = without_none at ys none
without_front at (x ∷ xs) ys none = by_test (without_front at xs ys none) (has_place at x) where
  by_test : without_around at (xs ++ ys) ≡ without_around at xs ++ ys → (o : Bool) → (if o then xs ++ ys else x ∷ without_around at (xs ++ ys)) ≡ (if o then xs else x ∷ without_around at xs) ++ ys
  by_test rest true = refl
  by_test rest false = ap (λ (l : List BufferAt). x ∷ l) rest

without_behind : (at : ℕ) (xs ys : List BufferAt) → found at xs ≡ None → without_around at (xs ++ ys) ≡ xs ++ without_around at ys
without_behind at [] ys none = refl
without_behind at (x ∷ xs) ys none = by_test (without_behind at xs ys) (has_place at x) none where
  by_test : (found at xs ≡ None → without_around at (xs ++ ys) ≡ xs ++ without_around at ys) → (o : Bool) → (if o then Some x else found at xs) ≡ None → (if o then xs ++ ys else x ∷ without_around at (xs ++ ys)) ≡ x ∷ (xs ++ without_around at ys)
  by_test rest true some = cc
  by_test rest false none = ap (λ (l : List BufferAt). x ∷ l) (rest none)

-- the first one ends before it
keep_ended : (at : ℕ) (b : BufferAt) (bs : List BufferAt) → b.end ≤ at → without_around at (b ∷ bs) ≡ b ∷ without_around at bs
keep_ended at b bs le = by_test (let no : nat_lt at b.end ≡ false = grind (arith, nat_tests, le) in no) (nat_le b.place at) where
  by_test : nat_lt at b.end ≡ false → (o : Bool) → (if o && nat_lt at b.end then bs else b ∷ without_around at bs) ≡ b ∷ without_around at bs
  by_test behind true = ap (λ (p : Bool). if p then bs else b ∷ without_around at bs) behind
  by_test behind false = refl

-- Of a segment: the buffer at this index is the first that ends behind an offset.
pub record IsAround (off from : ℕ) (bs : List Sealed) (k : ℕ) (b : Sealed) : Type 0 where
  pub above : from ≤ off
  pub there : slice_get bs k ≡ Some b
  pub point : IsPartitionPoint (λ (d : Sealed). d.end ≤ off) (λ (d : Sealed). off < d.end) bs k

-- what is left of it
abbrev pub left_of : Bool → BufferAt → Option BufferAt
left_of true b = None
left_of false b = Some b

module _ (site : SegmentPosition) (bytes : List ℕ) (off : ℕ) where
  above_none : (from : ℕ) (bs : List Sealed) (rs : List Reserved) → AreSealed from rs bs → off < from → found (site.place + off) (unwritten_in site bytes from bs rs) ≡ None
  above_none from bs rs are up =
      found_above (site.place + off) (unwritten_in site bytes from bs rs)
      (lie_begin (site.place + from) (suc (site.place + off)) (unwritten_in site bytes from bs rs) (site.place + sealed_end from bs) (omega (arith, up)) (unwritten_lie site bytes from bs rs are))

  -- the first one ends before it
  ended_front : (from : ℕ) (c : Sealed) (cs : List Sealed) (rs : List Reserved) → c.end ≤ off → found (site.place + off) (unwritten_in site bytes from (c ∷ cs) rs) ≡ found (site.place + off) (unwritten_in site bytes c.end cs (drop c.count rs))
  ended_front from c cs rs low = by_test c.is_written where
    by_test : (o : Bool) → found (site.place + off) (if o then unwritten_in site bytes c.end cs (drop c.count rs) else buffer_at site bytes from c.end (take c.count rs) ∷ unwritten_in site bytes c.end cs (drop c.count rs))
        ≡ found (site.place + off) (unwritten_in site bytes c.end cs (drop c.count rs))
    by_test true = refl
    by_test false = skip_ended (site.place + off) (buffer_at site bytes from c.end (take c.count rs)) (unwritten_in site bytes c.end cs (drop c.count rs)) (omega (arith, low))

  around_behind : (from : ℕ) (c : Sealed) (cs : List Sealed) (k : ℕ) (b : Sealed) → IsAround off from (c ∷ cs) (suc k) b → (c.end ≤ off) × IsAround off c.end cs k b
  around_behind from c cs k b is =
      let low : c.end ≤ off = is.point.0 0 c (omega arith) (omega arith) in (
        low,
        record { above = low; there = is.there; point = (λ j d le lt. is.point.0 (suc j) d (omega arith) (omega (arith, lt)), λ j d le lt. is.point.1 (suc j) d (omega (arith, le)) (omega (arith, lt))) },
      )

  pub found_in : (from : ℕ) (bs : List Sealed) (rs : List Reserved) (k : ℕ) (b : Sealed) → AreSealed from rs bs → IsAround off from bs k b
      → found (site.place + off) (unwritten_in site bytes from bs rs) ≡ left_of b.is_written (buffer_at site bytes (sealed_end from (take k bs)) b.end (take b.count (drop (sealed_count (take k bs)) rs)))
  found_in from [] rs k b are is = let no = is.there in cc
  found_in from (c ∷ cs) rs zero b are is =
      let same : c ≡ b = let there = is.there in cc in
      let high : off < c.end = is.point.1 0 c (omega arith) (omega arith) in
      subst (λ (d : Sealed). found (site.place + off) (unwritten_in site bytes from (c ∷ cs) rs) ≡ left_of d.is_written (buffer_at site bytes from d.end (take d.count rs))) same
      (by_test high is.above (above_none c.end cs (drop c.count rs) are.1 high) c.is_written)
    where
      by_test : off < c.end → from ≤ off → found (site.place + off) (unwritten_in site bytes c.end cs (drop c.count rs)) ≡ None → (o : Bool)
          → found (site.place + off) (if o then unwritten_in site bytes c.end cs (drop c.count rs) else buffer_at site bytes from c.end (take c.count rs) ∷ unwritten_in site bytes c.end cs (drop c.count rs))
          ≡ left_of o (buffer_at site bytes from c.end (take c.count rs))
      by_test high low none true = none
      by_test high low none false =
          let lower : nat_le (site.place + from) (site.place + off) ≡ true = let le : site.place + from ≤ site.place + off = omega (arith, low) in grind (arith, nat_tests, le) in
          let upper : nat_lt (site.place + off) (site.place + c.end) ≡ true = let lt : site.place + off < site.place + c.end = omega (arith, high) in grind (arith, nat_tests, lt) in
          ap (λ (o : Bool). if o && nat_lt (site.place + off) (site.place + c.end) then Some (buffer_at site bytes from c.end (take c.count rs)) else found (site.place + off) (unwritten_in site bytes c.end cs (drop c.count rs))) lower
          ∙ ap (λ (o : Bool). if o then Some (buffer_at site bytes from c.end (take c.count rs)) else found (site.place + off) (unwritten_in site bytes c.end cs (drop c.count rs))) upper
  found_in from (c ∷ cs) rs (suc k) b are is =
      let rest = around_behind from c cs k b is in
      ended_front from c cs rs rest.0 ∙ found_in c.end cs (drop c.count rs) k b are.1 rest.1
      ∙ ap (λ (l : List Reserved). left_of b.is_written (buffer_at site bytes (sealed_end c.end (take k cs)) b.end (take b.count l))) (drop-drop (sealed_count (take k cs)) c.count rs)

  -- none has it once that one is written
  pub found_written : (from : ℕ) (bs : List Sealed) (rs : List Reserved) (k : ℕ) (b : Sealed) → AreSealed from rs bs → IsAround off from bs k b → found (site.place + off) (unwritten_in site bytes from (written_at k bs) rs) ≡ None
  found_written from [] rs k b are is = let no = is.there in cc
  found_written from (c ∷ cs) rs zero b are is = above_none c.end cs (drop c.count rs) are.1 (is.point.1 0 c (omega arith) (omega arith))
  found_written from (c ∷ cs) rs (suc k) b are is = let rest = around_behind from c cs k b is in ended_front from c (written_at k cs) rs rest.0 ∙ found_written c.end cs (drop c.count rs) k b are.1 rest.1

  -- and once that one is written the others are left
  pub without_in : (from : ℕ) (bs : List Sealed) (rs : List Reserved) (k : ℕ) (b : Sealed) → AreSealed from rs bs → IsAround off from bs k b
      → without_around (site.place + off) (unwritten_in site bytes from bs rs) ≡ unwritten_in site bytes from (written_at k bs) rs
  without_in from [] rs k b are is = let no = is.there in cc
  without_in from (c ∷ cs) rs zero b are is =
      let high : off < c.end = is.point.1 0 c (omega arith) (omega arith) in
      by_test high is.above (above_none c.end cs (drop c.count rs) are.1 high) c.is_written
    where
      by_test : off < c.end → from ≤ off → found (site.place + off) (unwritten_in site bytes c.end cs (drop c.count rs)) ≡ None → (o : Bool)
          → without_around (site.place + off) (if o then unwritten_in site bytes c.end cs (drop c.count rs) else buffer_at site bytes from c.end (take c.count rs) ∷ unwritten_in site bytes c.end cs (drop c.count rs))
          ≡ unwritten_in site bytes c.end cs (drop c.count rs)
      by_test high low none true = without_none (site.place + off) (unwritten_in site bytes c.end cs (drop c.count rs)) none
      by_test high low none false =
          let own : BufferAt = buffer_at site bytes from c.end (take c.count rs) in
          let more : List BufferAt = unwritten_in site bytes c.end cs (drop c.count rs) in
          let lower : nat_le (site.place + from) (site.place + off) ≡ true = let le : site.place + from ≤ site.place + off = omega (arith, low) in grind (arith, nat_tests, le) in
          let upper : nat_lt (site.place + off) (site.place + c.end) ≡ true = let lt : site.place + off < site.place + c.end = omega (arith, high) in grind (arith, nat_tests, lt) in
          ap (λ (o : Bool). if o && nat_lt (site.place + off) (site.place + c.end) then more else own ∷ without_around (site.place + off) more) lower
          ∙ ap (λ (o : Bool). if o then more else own ∷ without_around (site.place + off) more) upper
  without_in from (c ∷ cs) rs (suc k) b are is =
      let rest = around_behind from c cs k b is in
      by_test rest.0 (without_in c.end cs (drop c.count rs) k b are.1 rest.1) c.is_written
    where
      by_test : c.end ≤ off → without_around (site.place + off) (unwritten_in site bytes c.end cs (drop c.count rs)) ≡ unwritten_in site bytes c.end (written_at k cs) (drop c.count rs) → (o : Bool)
          → without_around (site.place + off) (if o then unwritten_in site bytes c.end cs (drop c.count rs) else buffer_at site bytes from c.end (take c.count rs) ∷ unwritten_in site bytes c.end cs (drop c.count rs))
          ≡ (if o then unwritten_in site bytes c.end (written_at k cs) (drop c.count rs) else buffer_at site bytes from c.end (take c.count rs) ∷ unwritten_in site bytes c.end (written_at k cs) (drop c.count rs))
      by_test low rest true = rest
      by_test low rest false =
          keep_ended (site.place + off) (buffer_at site bytes from c.end (take c.count rs)) (unwritten_in site bytes c.end cs (drop c.count rs)) (omega (arith, low))
          ∙ ap (λ (l : List BufferAt). buffer_at site bytes from c.end (take c.count rs) ∷ l) rest

-- Of a line: where its n-th segment has the place, whichever that is, no buffer of another does.

segment_low : (size place : ℕ) (vs : List SegmentView) (n : ℕ) (v : SegmentView) → AreSegments size place vs → slice_get vs n ≡ Some v → place ≤ v.parts.site.place
segment_low size place [] n v are there = cc
segment_low size place (x ∷ xs) zero v are there = let at = are.0.at in let same : x ≡ v = cc in omega (arith, at, ap (λ (y : SegmentView). y.parts.site.place) same)
segment_low size place (x ∷ xs) (suc n) v are there = let low = segment_low size (place + size) xs n v are.1 there in omega (arith, low)

rest_above : (size place at : ℕ) (vs : List SegmentView) → AreSegments size place vs → at < place → BeginFrom (suc at) (unwritten vs)
rest_above size place at [] are up = tt
rest_above size place at (v ∷ vs) are up = lie_begin (place + v.parts.written_len) (suc at) (unwritten (v ∷ vs)) (end_of (v ∷ vs)) (omega (arith, up)) (line_lie size place v vs are)

pub found_line : (size place at : ℕ) (vs : List SegmentView) (n : ℕ) (v w : SegmentView) → AreSegments size place vs → slice_get vs n ≡ Some v → v.parts.site.place ≤ at → at < v.parts.site.place + size
    → found at (unwritten (set vs n w)) ≡ found at (unwritten_of w.parts)
found_line size place at [] n v w are there low high = cc
found_line size place at (x ∷ xs) zero v w are there low high =
    let here = are.0.at in
    let same : x ≡ v = cc in
    found_front at (unwritten_of w.parts) (unwritten xs) (rest_above size (place + size) at xs are.1 (omega (arith, here, high, ap (λ (y : SegmentView). y.parts.site.place) same)))
found_line size place at (x ∷ xs) (suc n) v w are there low high =
    let here = are.0 in
    let above = segment_low size (place + size) xs n v are.1 there in
    let begins = here.begins in
    let short = here.short in
    let is_at = here.at in
    found_on at (unwritten_of x.parts) (unwritten (set xs n w))
    ∙ ap (λ (o : Option BufferAt). or_found o (found at (unwritten (set xs n w))))
    (found_below at (x.parts.site.place + x.parts.written_len) (unwritten_of x.parts) (x.parts.site.place + begin_of x) (unwritten_lie x.parts.site x.parts.bytes x.parts.written_len x.parts.sealed x.parts.reserved here.are)
    (omega (arith, above, low, begins, short, is_at)))
    ∙ found_line size (place + size) at xs n v w are.1 there low high

-- and where that one is left out of its segment, it is left out of them all
pub without_line : (size place at : ℕ) (vs : List SegmentView) (n : ℕ) (v w : SegmentView) → AreSegments size place vs → slice_get vs n ≡ Some v → v.parts.site.place ≤ at → at < v.parts.site.place + size
    → unwritten_of w.parts ≡ without_around at (unwritten_of v.parts) → unwritten (set vs n w) ≡ without_around at (unwritten vs)
without_line size place at [] n v w are there low high is = cc
without_line size place at (x ∷ xs) zero v w are there low high is =
    let here = are.0.at in
    let same : x ≡ v = cc in
    ap (λ (l : List BufferAt). l ++ unwritten xs) (is ∙ ap (λ (y : SegmentView). without_around at (unwritten_of y.parts)) (sym same))
    ∙ sym (without_front at (unwritten_of x.parts) (unwritten xs) (found_above at (unwritten xs) (rest_above size (place + size) at xs are.1 (omega (arith, here, high, ap (λ (y : SegmentView). y.parts.site.place) same)))))
without_line size place at (x ∷ xs) (suc n) v w are there low high is =
    let here = are.0 in
    let above = segment_low size (place + size) xs n v are.1 there in
    let begins = here.begins in
    let short = here.short in
    let is_at = here.at in
    ap (λ (l : List BufferAt). unwritten_of x.parts ++ l) (without_line size (place + size) at xs n v w are.1 there low high is)
    ∙ sym (without_behind at (unwritten_of x.parts) (unwritten xs)
    (found_below at (x.parts.site.place + x.parts.written_len) (unwritten_of x.parts) (x.parts.site.place + begin_of x) (unwritten_lie x.parts.site x.parts.bytes x.parts.written_len x.parts.sealed x.parts.reserved here.are)
    (omega (arith, above, low, begins, short, is_at))))

pub found_there : (size place at : ℕ) (vs : List SegmentView) (n : ℕ) (v : SegmentView) → AreSegments size place vs → slice_get vs n ≡ Some v → v.parts.site.place ≤ at → at < v.parts.site.place + size → found at (unwritten vs) ≡ found at (unwritten_of v.parts)
found_there size place at vs n v are there low high = ap (λ (l : List SegmentView). found at (unwritten l)) (there_split vs n v there ∙ sym (nth_set vs n v v there)) ∙ found_line size place at vs n v v are there low high

-- A place before the current buffer of all is before the current one of its segment.
pub begin_above : (size to at : ℕ) (vs : List SegmentView) (n : ℕ) (v : SegmentView) → AreFilled size to vs → slice_get vs n ≡ Some v → at < v.parts.site.place + size → at < end_of vs → at < v.parts.site.place + begin_of v
begin_above size to at [] n v filled there high lower = cc
begin_above size to at (x ∷ []) zero v filled there high lower = let same : x ≡ v = cc in omega (arith, lower, ap (λ (y : SegmentView). y.parts.site.place + begin_of y) same)
begin_above size to at (x ∷ []) (suc n) v filled there high lower = cc
begin_above size to at (x ∷ y ∷ ys) zero v filled there high lower = let same : x ≡ v = cc in let full : begin_of x ≡ size = filled.0 in omega (arith, full, high, ap begin_of same)
begin_above size to at (x ∷ y ∷ ys) (suc n) v filled there high lower = begin_above size to at (y ∷ ys) n v filled.2 there high lower

-- where all of them have the place, and none is found, there is none
pub all_found : (at : ℕ) (bs : List BufferAt) → ((b : BufferAt) → Contains bs b → has_place at b ≡ true) → found at bs ≡ None → bs ≡ []
all_found at [] all none = refl
all_found at (b ∷ bs) all none = let yes : has_place at b ≡ true = all b (in_first b bs) in let some : Some b ≡ None = sym (ap (λ (o : Bool). if o then Some b else found at bs) yes) ∙ none in cc

-- Once a buffer is written, the others are those that there were.

in_cons : (x : BufferAt) (xs ys : List BufferAt) (b : BufferAt) → (Contains xs b → Contains ys b) → Contains (x ∷ xs) b → Contains (x ∷ ys) b
in_cons x xs ys b rest there = elim (Contains-append_cases (x ∷ []) xs b there) [
  | inl first ↦ Contains-append_left (x ∷ []) ys b first
  | inr later ↦ Contains-append_right (x ∷ []) ys b (rest later)
]

fewer_in : (site : SegmentPosition) (bytes : List ℕ) (from : ℕ) (bs : List Sealed) (rs : List Reserved) (k : ℕ) (b : BufferAt) → Contains (unwritten_in site bytes from (written_at k bs) rs) b → Contains (unwritten_in site bytes from bs rs) b
fewer_in site bytes from [] rs k b there = there
fewer_in site bytes from (c ∷ cs) rs zero b there = by_test c.is_written where
  by_test : (o : Bool) → Contains (if o then unwritten_in site bytes c.end cs (drop c.count rs) else buffer_at site bytes from c.end (take c.count rs) ∷ unwritten_in site bytes c.end cs (drop c.count rs)) b
  by_test true = there
  by_test false = in_rest (buffer_at site bytes from c.end (take c.count rs)) b (unwritten_in site bytes c.end cs (drop c.count rs)) there
fewer_in site bytes from (c ∷ cs) rs (suc k) b there = by_test (fewer_in site bytes c.end cs (drop c.count rs) k b) c.is_written there where
  by_test : (Contains (unwritten_in site bytes c.end (written_at k cs) (drop c.count rs)) b → Contains (unwritten_in site bytes c.end cs (drop c.count rs)) b) → (o : Bool) → Contains (if o then unwritten_in site bytes c.end (written_at k cs) (drop c.count rs) else buffer_at site bytes from c.end (take c.count rs) ∷ unwritten_in site bytes c.end (written_at k cs) (drop c.count rs)) b
      → Contains (if o then unwritten_in site bytes c.end cs (drop c.count rs) else buffer_at site bytes from c.end (take c.count rs) ∷ unwritten_in site bytes c.end cs (drop c.count rs)) b
  by_test rest true there = rest there
  by_test rest false there = in_cons (buffer_at site bytes from c.end (take c.count rs)) (unwritten_in site bytes c.end (written_at k cs) (drop c.count rs)) (unwritten_in site bytes c.end cs (drop c.count rs)) b rest there

pub fewer_line : (vs : List SegmentView) (n k : ℕ) (v : SegmentView) (b : BufferAt) → slice_get vs n ≡ Some v → Contains (unwritten (set vs n (written_now k v))) b → Contains (unwritten vs) b
fewer_line [] n k v b there has = has
fewer_line (x ∷ xs) zero k v b there has =
    let same : x ≡ v = cc in
    elim (Contains-append_cases (unwritten_of (written_now k v).parts) (unwritten xs) b has) [
      | inl own ↦ Contains-append_left (unwritten_of x.parts) (unwritten xs) b (subst (λ (y : SegmentView). Contains (unwritten_of y.parts) b) (sym same)
          (fewer_in v.parts.site v.parts.bytes v.parts.written_len v.parts.sealed v.parts.reserved k b
          (subst (λ (l : List BufferAt). Contains l b) (unwritten_run v.parts.site v.parts.bytes v.parts.written_len (written_at k v.parts.sealed) v.parts.reserved) own)))
      | inr later ↦ Contains-append_right (unwritten_of x.parts) (unwritten xs) b later
    ]
fewer_line (x ∷ xs) (suc n) k v b there has = elim (Contains-append_cases (unwritten_of x.parts) (unwritten (set xs n (written_now k v))) b has) [
  | inl own ↦ Contains-append_left (unwritten_of x.parts) (unwritten xs) b own
  | inr later ↦ Contains-append_right (unwritten_of x.parts) (unwritten xs) b (fewer_line xs n k v b there later)
]
