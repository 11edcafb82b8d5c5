-- The buffers of a line that aren't on the device lie one behind another, from the stable end on up to where the current buffer begins; and what a write makes of them.
use Rattle.std.proofs.Common.{◌≡◌, ◌∙◌, ◌≤◌, ◌<◌, ◌+◌, ap, sym, refl, arith, subst, ℕ, zero, suc, Bool, true, false, if◌then◌else◌, List, [], ◌∷◌, ◌++◌, drop, map, take, set, Some}
use Rattle.std.specs.List.{slice_get}
use Rattle.std.proofs.lemmas.List.{drop-drop}
use Rattle.sled_core.specs.Begun.{SegmentView, begin_of, segment_view}
use Rattle.sled_core.specs.declared.iobuf.Reserved.{Reserved}
use Rattle.sled_core.specs.declared.iobuf.Sealed.{Sealed}
use Rattle.sled_core.specs.declared.iobuf.SegmentPosition.{SegmentPosition}
use Rattle.sled_core.specs.declared.logger.Log.{Log}
use Rattle.sled_core.specs.Fits.{current_begin, segment_size_of, synced_end, waiting_of}
use Rattle.sled_core.specs.inside.SealedBuffers.{AreSealed, behind_run, is_ready, run_count, run_end, written_at}
use Rattle.sled_core.specs.SealedBuffers.{sealed_end}
use Rattle.sled_core.specs.inside.Turned.{promoted, written_now}
use Rattle.sled_core.specs.Waiting.{BufferAt, buffer_at, last_of, unwritten, unwritten_in, unwritten_of}
use Rattle.sled_core.proofs.Line.Promotes.{last_set}
use Rattle.sled_core.proofs.Line.Segments.{AreSegments, by_front, line_segments, written_begin}
use Rattle.sled_core.proofs.Sealed.Marked.{ready_closed, written_are}
use Rattle.sled_core.proofs.Sealed.Runs.{run_of}

-- Buffers lie one behind another from one place on, up to another.
abbrev pub LieBetween : ℕ → List BufferAt → ℕ → Type 0
LieBetween at [] to = at ≤ to
LieBetween at (b ∷ bs) to = (at ≤ b.place) × (b.place < b.end) × LieBetween b.end bs to

pub lie_up : (at : ℕ) (bs : List BufferAt) (to : ℕ) → LieBetween at bs to → at ≤ to
lie_up at [] to lie = lie
lie_up at (b ∷ bs) to lie = let rest = lie_up b.end bs to lie.2 in let low = lie.0 in let some = lie.1 in omega (arith, rest, low, some)

pub lie_lower : (at low : ℕ) (bs : List BufferAt) (to : ℕ) → low ≤ at → LieBetween at bs to → LieBetween low bs to
lie_lower at low [] to le lie = omega (arith, le, lie)
lie_lower at low (b ∷ bs) to le lie = let here = lie.0 in (omega (arith, le, here), lie.1, lie.2)

pub lie_both : (at : ℕ) (xs : List BufferAt) (mid : ℕ) (ys : List BufferAt) (to : ℕ) → LieBetween at xs mid → LieBetween mid ys to → LieBetween at (xs ++ ys) to
lie_both at [] mid ys to first rest = lie_lower mid at ys to first rest
lie_both at (x ∷ xs) mid ys to first rest = (first.0, first.1, lie_both x.end xs mid ys to first.2 rest)

-- where there is no room between there are none
pub lie_none : (at : ℕ) (bs : List BufferAt) (to : ℕ) → to ≤ at → LieBetween at bs to → bs ≡ []
lie_none at [] to le lie = refl
lie_none at (b ∷ bs) to le lie = let rest = lie_up b.end bs to lie.2 in let low = lie.0 in let some = lie.1 in absurd (omega (arith, le, rest, low, some))

-- Those of a segment do.
pub unwritten_lie : (site : SegmentPosition) (bytes : List ℕ) (from : ℕ) (bs : List Sealed) (rs : List Reserved) → AreSealed from rs bs → LieBetween (site.place + from) (unwritten_in site bytes from bs rs) (site.place + sealed_end from bs)
unwritten_lie site bytes from [] rs are = omega arith
unwritten_lie site bytes from (b ∷ bs) rs are =
    let rises : from < b.end = are.0.rises in
    by_test rises (unwritten_lie site bytes b.end bs (drop b.count rs) are.1) b.is_written
  where
    by_test : from < b.end → LieBetween (site.place + b.end) (unwritten_in site bytes b.end bs (drop b.count rs)) (site.place + sealed_end b.end bs) → (o : Bool)
        → LieBetween (site.place + from) (if o then unwritten_in site bytes b.end bs (drop b.count rs) else buffer_at site bytes from b.end (take b.count rs) ∷ unwritten_in site bytes b.end bs (drop b.count rs)) (site.place + sealed_end b.end bs)
    by_test rises rest true = lie_lower (site.place + b.end) (site.place + from) _ _ (omega (arith, rises)) rest
    by_test rises rest false = (omega arith, omega (arith, rises), rest)

-- Those at the front that are written aren't among them.
pub unwritten_run : (site : SegmentPosition) (bytes : List ℕ) (from : ℕ) (bs : List Sealed) (rs : List Reserved) → unwritten_in site bytes (run_end from bs) (behind_run bs) (drop (run_count bs) rs) ≡ unwritten_in site bytes from bs rs
unwritten_run site bytes from [] rs = refl
unwritten_run site bytes from (b ∷ bs) rs = by_test b.is_written refl (unwritten_run site bytes b.end bs (drop b.count rs)) where
  by_test : (o : Bool) → b.is_written ≡ o → unwritten_in site bytes (run_end b.end bs) (behind_run bs) (drop (run_count bs) (drop b.count rs)) ≡ unwritten_in site bytes b.end bs (drop b.count rs)
      → unwritten_in site bytes (if o then run_end b.end bs else from) (if o then behind_run bs else b ∷ bs) (drop (if o then b.count + run_count bs else 0) rs)
      ≡ (if o then unwritten_in site bytes b.end bs (drop b.count rs) else buffer_at site bytes from b.end (take b.count rs) ∷ unwritten_in site bytes b.end bs (drop b.count rs))
  by_test true is rest = ap (unwritten_in site bytes (run_end b.end bs) (behind_run bs)) (sym (drop-drop (run_count bs) b.count rs)) ∙ rest
  by_test false is rest = ap (λ (o : Bool). if o then unwritten_in site bytes b.end bs (drop b.count rs) else buffer_at site bytes from b.end (take b.count rs) ∷ unwritten_in site bytes b.end bs (drop b.count rs)) is

-- where the current buffer begins, of segments one behind another
abbrev pub end_of : List SegmentView → ℕ
end_of [] = 0
end_of (v ∷ vs) = (last_of v vs).parts.site.place + begin_of (last_of v vs)

-- The buffers of all of them lie behind what is written of the first one.
pub line_lie : (size place : ℕ) (v : SegmentView) (vs : List SegmentView) → AreSegments size place (v ∷ vs) → LieBetween (place + v.parts.written_len) (unwritten (v ∷ vs)) (end_of (v ∷ vs))
line_lie size place v [] are =
    let here = are.0 in
    let at : v.parts.site.place ≡ place = here.at in
    let own = unwritten_lie v.parts.site v.parts.bytes v.parts.written_len v.parts.sealed v.parts.reserved here.are in
    lie_both (place + v.parts.written_len) (unwritten_of v.parts) (v.parts.site.place + begin_of v) [] (v.parts.site.place + begin_of v)
    (subst (λ p. LieBetween (p + v.parts.written_len) (unwritten_of v.parts) (v.parts.site.place + begin_of v)) at own) (omega arith)
line_lie size place v (w ∷ ws) are =
    let here = are.0 in
    let at : v.parts.site.place ≡ place = here.at in
    let begins = here.begins in
    let short = here.short in
    let own = unwritten_lie v.parts.site v.parts.bytes v.parts.written_len v.parts.sealed v.parts.reserved here.are in
    lie_both (place + v.parts.written_len) (unwritten_of v.parts) (v.parts.site.place + begin_of v) (unwritten (w ∷ ws)) (end_of (w ∷ ws))
    (subst (λ p. LieBetween (p + v.parts.written_len) (unwritten_of v.parts) (v.parts.site.place + begin_of v)) at own)
    (lie_lower (place + size + w.parts.written_len) (v.parts.site.place + begin_of v) (unwritten (w ∷ ws)) (end_of (w ∷ ws)) (omega (arith, at, begins, short)) (line_lie size (place + size) w ws are.1))

-- A write leaves the current buffer where it begins.
pub set_end : (vs : List SegmentView) (n : ℕ) (v : SegmentView) (k : ℕ) → slice_get vs n ≡ Some v → end_of (set vs n (written_now k v)) ≡ end_of vs
set_end [] n v k there = cc
set_end (x ∷ xs) zero v k there = last_set (λ (y : SegmentView). y.parts.site.place + begin_of y) x (x ∷ xs) zero v (written_now k v) there (ap (λ m. v.parts.site.place + m) (written_begin v k))
set_end (x ∷ xs) (suc n) v k there = last_set (λ (y : SegmentView). y.parts.site.place + begin_of y) x xs n v (written_now k v) there (ap (λ m. v.parts.site.place + m) (written_begin v k))

pub promoted_end : (size : ℕ) (vs : List SegmentView) → end_of (promoted size vs) ≡ end_of vs
promoted_end size vs = by_front size (λ l. end_of l ≡ end_of vs) (λ v w ws full has. has) vs refl

-- Segments that are left out, since they are wholly on the device, have no buffer that isn't.

-- the buffers of each end within a segment
abbrev pub EndWithin : ℕ → List SegmentView → Type 0
EndWithin size [] = Unit {0}
EndWithin size (v ∷ vs) = AreSealed v.parts.written_len v.parts.reserved v.parts.sealed × (begin_of v ≤ size) × EndWithin size vs

pub segments_within : (size place : ℕ) (vs : List SegmentView) → AreSegments size place vs → EndWithin size vs
segments_within size place [] are = tt
segments_within size place (v ∷ vs) are = let here = are.0 in let begins = here.begins in let short = here.short in (here.are, omega (arith, begins, short), segments_within size (place + size) vs are.1)

whole_none : (v : SegmentView) (size : ℕ) → AreSealed v.parts.written_len v.parts.reserved v.parts.sealed → begin_of v ≤ size → v.parts.written_len ≡ size → unwritten_of v.parts ≡ []
whole_none v size are within whole = lie_none (v.parts.site.place + v.parts.written_len) (unwritten_of v.parts) (v.parts.site.place + begin_of v) (omega (arith, within, whole)) (unwritten_lie v.parts.site v.parts.bytes v.parts.written_len v.parts.sealed v.parts.reserved are)

pub promoted_unwritten : (size : ℕ) (vs : List SegmentView) → EndWithin size vs → unwritten (promoted size vs) ≡ unwritten vs
promoted_unwritten size vs within =
    (by_front size (λ l. EndWithin size l × (unwritten l ≡ unwritten vs))
    (λ v w ws full has. (has.0.2, sym (ap (λ (l : List BufferAt). l ++ unwritten (w ∷ ws)) (whole_none v size has.0.0 has.0.1 full)) ∙ has.1))
    vs (within, refl)).1

pub set_within : (size : ℕ) (vs : List SegmentView) (n : ℕ) (v : SegmentView) (k : ℕ) (b : Sealed) → slice_get vs n ≡ Some v → slice_get v.parts.sealed k ≡ Some b → is_ready b ≡ true → EndWithin size vs → EndWithin size (set vs n (written_now k v))
set_within size [] n v k b there has ready within = cc
set_within size (x ∷ xs) zero v k b there has ready within =
    let same : x ≡ v = cc in
    let are : AreSealed v.parts.written_len v.parts.reserved v.parts.sealed = subst (λ (y : SegmentView). AreSealed y.parts.written_len y.parts.reserved y.parts.sealed) same within.0 in
    let low : begin_of v ≤ size = subst (λ (y : SegmentView). begin_of y ≤ size) same within.1 in
    let begin = written_begin v k in (
      (run_of v.parts.written_len v.parts.reserved (written_at k v.parts.sealed) (written_are v.parts.written_len v.parts.reserved v.parts.sealed k b has (ready_closed b ready) are)).rest,
      omega (arith, low, begin),
      within.2,
    )
set_within size (x ∷ xs) (suc n) v k b there has ready within = (within.0, within.1, set_within size xs n v k b there has ready within.2)

-- What is on the device ends before the current buffer.
pub synced_up : {D C : Type 0} (log : Log D C) → synced_end log ≤ current_begin log
synced_up log = lie_up (synced_end log) (waiting_of log) (current_begin log) (line_lie (segment_size_of log) log.segments.first.site.place (segment_view log.segments.first) (map segment_view log.segments.behind.items) (line_segments log))
