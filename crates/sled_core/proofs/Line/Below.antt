-- What is written of the buffers that begin below a place: the first one, and then the others, up to one that has an open reservation. The current buffer is none of them where it begins behind that place.
use Rattle.std.proofs.Common.{◌≡◌, ◌∙◌, ◌≤◌, ◌<◌, ◌+◌, ◌==◌, nat_eq, nat_lt, ap, sym, refl, arith, subst, ℕ, suc, Bool, true, false, if◌then◌else◌, List, [], ◌∷◌, ◌++◌, length, drop, take, set, Option, None, Some}
use Rattle.std.specs.List.{All, Contains, slice_get}
use Rattle.std.proofs.lemmas.Bool.Decides.{nat_tests}
use Rattle.std.proofs.lemmas.List.{append-nil, take-append-drop}
use Rattle.sled_store.specs.Device.{Event}
use Rattle.sled_store.proofs.Segments.Elements.{in_first}
use Rattle.std.proofs.lemmas.List.Elements.{All-head, All-tail}
use Rattle.sled_core.specs.inside.Begun.{AreFilled}
use Rattle.sled_core.specs.Begun.{SegmentView, begin_of}
use Rattle.sled_core.specs.declared.iobuf.Reserved.{Reserved}
use Rattle.sled_core.specs.declared.iobuf.Sealed.{Sealed}
use Rattle.sled_core.specs.declared.iobuf.SegmentPosition.{SegmentPosition}
use Rattle.sled_core.specs.Buffers.{first_open_in, none_open, open_in}
use Rattle.sled_core.specs.inside.SealedBuffers.{AreSealed, FirstUnwritten, behind_run, first_ready, is_ready, run_count, run_end, written_at}
use Rattle.sled_core.specs.SealedBuffers.{bytes_between, sealed_end, writing}
use Rattle.sled_core.specs.inside.Turned.{mark_of, promoted, ready_below, write_in, written_now}
use Rattle.sled_core.specs.Waiting.{BufferAt, buffer_at, first_held, free_below, held_below, placed, unless_held, unwritten, unwritten_in}
use Rattle.sled_core.proofs.Line.Lying.{LieBetween, end_of, line_lie, promoted_unwritten, segments_within, set_within, unwritten_run}
use Rattle.sled_core.proofs.Line.Segments.{AreSegments}
use Rattle.sled_core.proofs.Reserve.OpenCounts.{ended_is, first_there}
use Rattle.sled_core.proofs.Sealed.Progress.{first_behind, first_front, open_front, ready_parts}
use Rattle.sled_core.specs.HeaderMark.{mark_at}

-- Buffers begin at a place or behind it.
abbrev pub BeginFrom : ℕ → List BufferAt → Type 0
BeginFrom to [] = Unit {0}
BeginFrom to (b ∷ bs) = (to ≤ b.place) × BeginFrom to bs

-- So each does where it begins at a place that is no lower.
pub begin_all : (low to : ℕ) (bs : List BufferAt) → to ≤ low → All (λ (b : BufferAt). low ≤ b.place) bs → BeginFrom to bs
begin_all low to [] le all = tt
begin_all low to (b ∷ bs) le all =
    let here = All-head (λ (x : BufferAt). low ≤ x.place) b bs all in
    (omega (arith, le, here), begin_all low to bs le (All-tail (λ (x : BufferAt). low ≤ x.place) b bs all))

pub begin_lower : (to low : ℕ) (bs : List BufferAt) → low ≤ to → BeginFrom to bs → BeginFrom low bs
begin_lower to low [] le begin = tt
begin_lower to low (b ∷ bs) le begin = let here = begin.0 in (omega (arith, le, here), begin_lower to low bs le begin.1)

-- None of those is written, and they hold nothing up.

pub free_past : (to : ℕ) (bs : List BufferAt) → BeginFrom to bs → free_below to bs ≡ []
free_past to [] begin = refl
free_past to (b ∷ bs) begin = let here = begin.0 in ap (λ (o : Bool). if o then unless_held b.held (b ∷ free_below to bs) else []) (let no : nat_lt b.place to ≡ false = grind (arith, nat_tests, here) in no)

pub held_past : (to : ℕ) (bs : List BufferAt) → BeginFrom to bs → held_below to bs ≡ None
held_past to [] begin = refl
held_past to (b ∷ bs) begin = let here = begin.0 in ap (λ (o : Bool). if o then first_held b.held (held_below to bs) else None) (let no : nat_lt b.place to ≡ false = grind (arith, nat_tests, here) in no)

-- So it is with those behind others.

pub free_front : (to : ℕ) (xs ys : List BufferAt) → BeginFrom to ys → free_below to (xs ++ ys) ≡ free_below to xs
free_front to [] ys begin = free_past to ys begin
free_front to (x ∷ xs) ys begin = ap (λ (bs : List BufferAt). if nat_lt x.place to then unless_held x.held (x ∷ bs) else []) (free_front to xs ys begin)

pub held_front : (to : ℕ) (xs ys : List BufferAt) → BeginFrom to ys → held_below to (xs ++ ys) ≡ held_below to xs
held_front to [] ys begin = held_past to ys begin
held_front to (x ∷ xs) ys begin = ap (λ (o : Option ℕ). if nat_lt x.place to then first_held x.held o else None) (held_front to xs ys begin)

-- Buffers that lie behind a place begin behind it.
pub lie_begin : (at to : ℕ) (bs : List BufferAt) (end : ℕ) → to ≤ at → LieBetween at bs end → BeginFrom to bs
lie_begin at to [] end le lie = tt
lie_begin at to (b ∷ bs) end le lie = let low = lie.0 in let some = lie.1 in (omega (arith, le, low), lie_begin b.end to bs end (omega (arith, le, low, some)) lie.2)

-- The first one is written.
pub record IsFirst (to : ℕ) (old new : List BufferAt) (es : List Event) : Type 0 where
  pub first : BufferAt
  pub is : old ≡ first ∷ new
  pub below : first.place < to
  pub free : first.held ≡ None
  pub calls : es ≡ writing first.lid first.bytes []

module _ (to : ℕ) (old new : List BufferAt) (es : List Event) (step : IsFirst to old new es) where
  pub first_free : free_below to old ≡ step.first ∷ free_below to new
  first_free =
      let b : BufferAt = step.first in
      let below = step.below in
      let test : nat_lt b.place to ≡ true = grind (arith, nat_tests, below) in
      ap (free_below to) step.is
      ∙ ap (λ (o : Bool). if o then unless_held b.held (b ∷ free_below to new) else []) test
      ∙ ap (λ (o : Option ℕ). unless_held o (b ∷ free_below to new)) step.free

  pub first_holds : held_below to old ≡ held_below to new
  first_holds =
      let b : BufferAt = step.first in
      let below = step.below in
      let test : nat_lt b.place to ≡ true = grind (arith, nat_tests, below) in
      ap (held_below to) step.is ∙ ap (λ (o : Bool). if o then first_held b.held (held_below to new) else None) test ∙ ap (λ (o : Option ℕ). first_held o (held_below to new)) step.free

  pub first_fewer : length old ≡ suc (length new)
  first_fewer = ap length step.is

-- Of a segment.

-- reservations of which none is open have no first one that is
pub none_first : (rs : List Reserved) → open_in rs ≡ 0 → first_open_in rs ≡ None
none_first rs none = let ended : none_open rs ≡ true = sym (ended_is rs) ∙ (let zero_is : nat_eq (open_in rs) 0 ≡ true = grind (arith, nat_tests, none) in zero_is) in ap first_open_in (sym (append-nil rs)) ∙ first_behind rs [] ended

placed_none : (base : ℕ) (o : Option ℕ) → o ≡ None → placed base o ≡ None
placed_none base o is = ap (placed base) is

ready_test : (o p : Bool) → (if o then p else false) ≡ true → (o ≡ true) × (p ≡ true)
ready_test true p is = (refl, is)
ready_test false p is = cc

-- one of which the first can be written
pub ready_first : (site : SegmentPosition) (bytes : List ℕ) (from to : ℕ) (bs : List Sealed) (rs : List Reserved) (more : List BufferAt) → AreSealed from rs bs → (if nat_lt (site.place + from) to then first_ready bs else false) ≡ true
    → IsFirst to (unwritten_in site bytes from bs rs ++ more) (unwritten_in site bytes (run_end from (written_at 0 bs)) (behind_run (written_at 0 bs)) (drop (run_count (written_at 0 bs)) rs) ++ more)
    (writing (site.slot + sealed_end from (take 0 bs)) (bytes_between bytes (sealed_end from (take 0 bs)) (sealed_end from (take (0 + 1) bs))) [])
ready_first site bytes from to [] rs more are ready = let parts = ready_test (nat_lt (site.place + from) to) false ready in cc
ready_first site bytes from to (b ∷ bs) rs more are ready =
    let tests = ready_test (nat_lt (site.place + from) to) (is_ready b) ready in
    let parts = ready_parts b tests.1 in
    let below = tests.0 in
    let closed = parts.1 in
    let count = are.0.still_open in
    let rest : List BufferAt = unwritten_in site bytes b.end bs (drop b.count rs) in
    record {
      first = buffer_at site bytes from b.end (take b.count rs);
      is = ap (λ (o : Bool). (if o then rest else buffer_at site bytes from b.end (take b.count rs) ∷ rest) ++ more) parts.0
          ∙ ap (λ (l : List BufferAt). buffer_at site bytes from b.end (take b.count rs) ∷ l ++ more) (sym (unwritten_run site bytes from (written_at 0 (b ∷ bs)) rs));
      below = grind (arith, nat_tests, below);
      free = placed_none site.place (first_open_in (take b.count rs)) (none_first (take b.count rs) (omega (arith, closed, count)));
      calls = refl;
    }

-- Of a line.

ready_there : (bs : List Sealed) → first_ready bs ≡ true → (b : Sealed) × (slice_get bs 0 ≡ Some b) × (is_ready b ≡ true)
ready_there [] ready = cc
ready_there (b ∷ bs) ready = (b, refl, ready)

pub first_there_ready : (to : ℕ) (v : SegmentView) (vs : List SegmentView) → ready_below (v ∷ vs) to ≡ true → (b : Sealed) × (slice_get v.parts.sealed 0 ≡ Some b) × (is_ready b ≡ true)
first_there_ready to v vs ready = ready_there v.parts.sealed (ready_test (nat_lt (v.parts.site.place + v.parts.written_len) to) (first_ready v.parts.sealed) ready).1

pub line_first : (size place to : ℕ) (v : SegmentView) (vs : List SegmentView) → AreSegments size place (v ∷ vs) → ready_below (v ∷ vs) to ≡ true
    → IsFirst to (unwritten (v ∷ vs)) (unwritten (promoted size (set (v ∷ vs) 0 (written_now 0 v)))) (write_in (v ∷ vs) 0 0)
line_first size place to v vs are ready =
    let here = are.0 in
    let step = ready_first v.parts.site v.parts.bytes v.parts.written_len to v.parts.sealed v.parts.reserved (unwritten vs) here.are ready in
    let first_one = first_there_ready to v vs ready in
    let left : unwritten (promoted size (set (v ∷ vs) 0 (written_now 0 v))) ≡ unwritten (set (v ∷ vs) 0 (written_now 0 v)) =
    promoted_unwritten size (set (v ∷ vs) 0 (written_now 0 v)) (set_within size (v ∷ vs) 0 v 0 first_one.0 refl first_one.1 first_one.2 (segments_within size place (v ∷ vs) are)) in
    subst (λ (l : List BufferAt). IsFirst to (unwritten (v ∷ vs)) l (write_in (v ∷ vs) 0 0)) (sym left) step

-- It has the mark of its segment, where it begins with the header of that.
mark_first : (site : SegmentPosition) (bytes : List ℕ) (from to : ℕ) (bs : List Sealed) (rs : List Reserved) (more : List BufferAt) → (if nat_lt (site.place + from) to then first_ready bs else false) ≡ true
    → (x : BufferAt) (xs : List BufferAt) → unwritten_in site bytes from bs rs ++ more ≡ x ∷ xs
    → x.mark ≡ mark_at (sealed_end from (take 0 bs)) (bytes_between bytes (sealed_end from (take 0 bs)) (sealed_end from (take (0 + 1) bs)))
mark_first site bytes from to [] rs more ready x xs same = let parts = ready_test (nat_lt (site.place + from) to) false ready in cc
mark_first site bytes from to (b ∷ bs) rs more ready x xs same =
    let fresh = (ready_parts b (ready_test (nat_lt (site.place + from) to) (is_ready b) ready).1).0 in
    let rest : List BufferAt = unwritten_in site bytes b.end bs (drop b.count rs) in
    let own : BufferAt = buffer_at site bytes from b.end (take b.count rs) in
    let is : own ∷ (rest ++ more) ≡ x ∷ xs = sym (ap (λ (o : Bool). (if o then rest else own ∷ rest) ++ more) fresh) ∙ same in
    let one : own ≡ x = cc in
    ap (λ (y : BufferAt). y.mark) (sym one)

pub first_marked : (to : ℕ) (v : SegmentView) (vs : List SegmentView) → ready_below (v ∷ vs) to ≡ true → (x : BufferAt) (xs : List BufferAt) → unwritten (v ∷ vs) ≡ x ∷ xs → x.mark ≡ mark_of 0 v
first_marked to v vs ready x xs same = mark_first v.parts.site v.parts.bytes v.parts.written_len to v.parts.sealed v.parts.reserved (unwritten vs) ready x xs same

-- Where the current buffer begins behind what is written, there is a sealed one.
pub some_sealed : (size to : ℕ) (v : SegmentView) (vs : List SegmentView) → AreFilled size to (v ∷ vs) → (0 < length vs → v.parts.written_len < size) → v.parts.site.place + v.parts.written_len < end_of (v ∷ vs) → v.parts.sealed ≡ [] → ⊥
some_sealed size to v [] filled waits below none = let same : begin_of v ≡ v.parts.written_len = ap (sealed_end v.parts.written_len) none in omega (arith, below, same)
some_sealed size to v (w ∷ ws) filled waits below none =
    let same : begin_of v ≡ v.parts.written_len = ap (sealed_end v.parts.written_len) none in
    let full : begin_of v ≡ size = filled.0 in
    let open_yet : v.parts.written_len < size = waits (omega arith) in
    omega (arith, same, full, open_yet)

-- The first one has an open reservation: that holds all up.
pub record IsStuck (to : ℕ) (base : ℕ) (bs : List BufferAt) (rs : List Reserved) : Type 0 where
  pub from : ℕ
  pub some : 0 < open_in rs
  pub first : first_open_in rs ≡ Some from
  pub holds : held_below to bs ≡ Some (base + from)
  pub none : free_below to bs ≡ []

stuck_first : (site : SegmentPosition) (bytes : List ℕ) (from to : ℕ) (bs : List Sealed) (rs : List Reserved) (more : List BufferAt) → AreSealed from rs bs → FirstUnwritten bs → site.place + from < to → (bs ≡ [] → ⊥) → (if nat_lt (site.place + from) to then first_ready bs else false) ≡ false
    → IsStuck to site.place (unwritten_in site bytes from bs rs ++ more) rs
stuck_first site bytes from to [] rs more are fresh below has stuck = absurd (has refl)
stuck_first site bytes from to (b ∷ bs) rs more are fresh below has stuck =
    let test : nat_lt (site.place + from) to ≡ true = grind (arith, nat_tests, below) in
    let not_ready : is_ready b ≡ false = sym (ap (λ (o : Bool). if o then is_ready b else false) test) ∙ stuck in
    let own : List Reserved = take b.count rs in
    let later : List Reserved = drop b.count rs in
    let open_yet : 0 < b.open_count = grind (arith, nat_tests, sym (ap (λ (w : Bool). if w then false else (b.open_count == 0)) fresh) ∙ not_ready) in
    let same = are.0.still_open in
    let some : 0 < open_in own = omega (arith, open_yet, same) in
    let whole : own ++ later ≡ rs = take-append-drop b.count rs in
    let least = first_there own some in
    let rest : List BufferAt = unwritten_in site bytes b.end bs later in
    let first : BufferAt = buffer_at site bytes from b.end own in
    let is : unwritten_in site bytes from (b ∷ bs) rs ++ more ≡ first ∷ rest ++ more = ap (λ (o : Bool). (if o then rest else first ∷ rest) ++ more) fresh in
    let held : first.held ≡ Some (site.place + least.0) = ap (placed site.place) least.1 in
    record {
      from = least.0;
      some = (let le = open_front own later in omega (arith, some, le, ap open_in whole));
      first = sym (ap first_open_in whole) ∙ first_front own later some ∙ least.1;
      holds = ap (held_below to) is ∙ ap (λ (o : Bool). if o then first_held first.held (held_below to (rest ++ more)) else None) test ∙ ap (λ (o : Option ℕ). first_held o (held_below to (rest ++ more))) held;
      none = ap (free_below to) is ∙ ap (λ (o : Bool). if o then unless_held first.held (first ∷ free_below to (rest ++ more)) else []) test
          ∙ ap (λ (o : Option ℕ). unless_held o (first ∷ free_below to (rest ++ more))) held;
    }

pub line_stuck : (size place to reserved_to : ℕ) (v : SegmentView) (vs : List SegmentView) → AreSegments size place (v ∷ vs) → AreFilled size reserved_to (v ∷ vs) → (0 < length vs → v.parts.written_len < size)
    → v.parts.site.place + v.parts.written_len < to → to ≤ end_of (v ∷ vs) → ready_below (v ∷ vs) to ≡ false → IsStuck to v.parts.site.place (unwritten (v ∷ vs)) v.parts.reserved
line_stuck size place to reserved_to v vs are filled waits below inside stuck =
    let here = are.0 in
    stuck_first v.parts.site v.parts.bytes v.parts.written_len to v.parts.sealed v.parts.reserved (unwritten vs) here.are here.fresh below (some_sealed size reserved_to v vs filled waits (omega (arith, below, inside))) stuck

-- Where all before the place is written nothing is left.
pub line_past : (size place to : ℕ) (v : SegmentView) (vs : List SegmentView) → AreSegments size place (v ∷ vs) → to ≤ v.parts.site.place + v.parts.written_len → BeginFrom to (unwritten (v ∷ vs))
line_past size place to v vs are past =
    let here = are.0 in
    let at : v.parts.site.place ≡ place = here.at in
    lie_begin (place + v.parts.written_len) to (unwritten (v ∷ vs)) (end_of (v ∷ vs)) (omega (arith, at, past)) (line_lie size place v vs are)

-- none that begins from there on begins below
pub begin_none : (to : ℕ) (bs : List BufferAt) → BeginFrom to bs → ((b : BufferAt) → Contains bs b → b.place < to) → bs ≡ []
begin_none to [] begin below = refl
begin_none to (b ∷ bs) begin below = let low = begin.0 in let lt = below b (in_first b bs) in absurd (omega (arith, low, lt))
