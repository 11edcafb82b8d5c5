-- Where nothing in a log file is stale, the cleared file is the file itself.
use Rattle.std.proofs.Common.{◌≡◌, ◌∙◌, ◌+◌, ◌-◌, ◌*◌, ◌/◌, ◌<◌, ℕ, zero, suc, Bool, true, false, if◌then◌else◌, List, [], ◌∷◌, Some, sym, ap, subst, arith, drop, take}
use Rattle.std.specs.List.{All, Contains, slice_get}
use Rattle.std.proofs.lemmas.List.Elements.{All-cons, All-contains, All-head, All-nil, All-tail, Contains-append_left, Contains-append_right}
use Rattle.sled_store.specs.SegmentStates.{Machine}
use Rattle.sled_store.proofs.Segments.Elements.{in_first, in_rest}
use Rattle.sled_core.specs.declared.iobuf.Reserved.{Reserved}
use Rattle.sled_core.specs.declared.iobuf.Sealed.{Sealed}
use Rattle.sled_core.specs.declared.iobuf.SegmentPosition.{SegmentPosition}
use Rattle.sled_core.specs.Begun.{SegmentView, begin_of}
use Rattle.sled_core.specs.SealedBuffers.{AreZeros, sealed_end}
use Rattle.sled_core.specs.Stale.{HasNothingStale}
use Rattle.sled_core.specs.Waiting.{BufferAt, Span, buffer_at, last_of, span_of, spans, start_in, unwritten, unwritten_in, unwritten_of}
use Rattle.sled_core.specs.inside.Begun.{AreFilled}
use Rattle.sled_core.specs.inside.Cleared.{AreUnwrittenZeros, cleared}
use Rattle.sled_core.specs.inside.FreeSlots.{HasSlot}
use Rattle.sled_core.proofs.Cleared.Offsets.{cleared_is, slot_is, stale_zeros}
use Rattle.sled_core.proofs.Holds.Nth.{last_get}
use Rattle.sled_core.proofs.Reserve.Ranges.{at_there}

-- A file has zeros where a buffer lies.
abbrev HasZeros : List ℕ → BufferAt → Type 0
HasZeros log b = AreZeros log b.lid (b.lid + (b.end - b.place))

-- What is so of what is seen of buffers is so of them.
of_seen : (P : Span → Type 0) (bs : List BufferAt) → All P (spans bs) → All (λ b. P (span_of b)) bs
of_seen P [] all = All-nil (λ (b : BufferAt). P (span_of b))
of_seen P (b ∷ bs) all =
    All-cons (λ (x : BufferAt). P (span_of x)) b bs (All-head P (span_of b) (spans bs) all) (of_seen P bs (All-tail P (span_of b) (spans bs) all))

module _ (log : List ℕ) where
  -- Where the buffers of a segment have zeros that aren't written, and what lies behind them, all of it has that isn't written.
  buffers_zeros : (site : SegmentPosition) (bytes : List ℕ) (from : ℕ) (bs : List Sealed) (rs : List Reserved) (to : ℕ)
      → ((b : BufferAt) → Contains (unwritten_in site bytes from bs rs) b → HasZeros log b)
      → AreZeros log (site.slot + sealed_end from bs) (site.slot + to) → AreUnwrittenZeros log site.slot from bs to
  buffers_zeros site bytes from [] rs to each rest = rest
  buffers_zeros site bytes from (b ∷ bs) rs to each rest =
      let both = by b.is_written each in (both.0, buffers_zeros site bytes b.end bs (drop b.count rs) to both.1 rest) where
        one : BufferAt
        one = buffer_at site bytes from b.end (take b.count rs)

        others : List BufferAt
        others = unwritten_in site bytes b.end bs (drop b.count rs)

        by : (o : Bool) → ((x : BufferAt) → Contains (if o then others else one ∷ others) x → HasZeros log x)
            → (o ≡ false → AreZeros log (site.slot + from) (site.slot + b.end)) × ((x : BufferAt) → Contains others x → HasZeros log x)
        by true has = (λ fresh. cc, has)
        by false has = (
          λ fresh i low high. has one (in_first one others) i low (omega (arith, low, high)),
          λ x there. has x (in_rest one x others there),
        )

  -- So it is with each of segments one behind another: all but the last are in buffers up to their ends.
  line_zeros : (size to : ℕ) (v : SegmentView) (vs : List SegmentView) → AreFilled size to (v ∷ vs)
      → ((b : BufferAt) → Contains (unwritten (v ∷ vs)) b → HasZeros log b)
      → AreZeros log ((last_of v vs).parts.site.slot + begin_of (last_of v vs)) ((last_of v vs).parts.site.slot + size)
      → (n : ℕ) (u : SegmentView) → slice_get (v ∷ vs) n ≡ Some u → AreUnwrittenZeros log u.parts.site.slot u.parts.written_len u.parts.sealed size
  line_zeros size to v [] filled each rest zero u there =
      let same : v ≡ u = cc in
      subst (λ (x : SegmentView). AreUnwrittenZeros log x.parts.site.slot x.parts.written_len x.parts.sealed size) same
      (buffers_zeros v.parts.site v.parts.bytes v.parts.written_len v.parts.sealed v.parts.reserved size
      (λ b its. each b (Contains-append_left (unwritten_of v.parts) [] b its)) rest)
  line_zeros size to v [] filled each rest (suc n) u there = cc
  line_zeros size to v (w ∷ ws) filled each rest zero u there =
      let same : v ≡ u = cc in
      let full = filled.0 in
      subst (λ (x : SegmentView). AreUnwrittenZeros log x.parts.site.slot x.parts.written_len x.parts.sealed size) same
      (buffers_zeros v.parts.site v.parts.bytes v.parts.written_len v.parts.sealed v.parts.reserved size
      (λ b its. each b (Contains-append_left (unwritten_of v.parts) (unwritten (w ∷ ws)) b its))
      (λ i low high. absurd (omega (arith, full, low, high))))
  line_zeros size to v (w ∷ ws) filled each rest (suc n) u there =
      line_zeros size to w ws filled.2 (λ b its. each b (Contains-append_right (unwritten_of v.parts) (unwritten (w ∷ ws)) b its)) rest n u there

-- The current buffer begins within the last segment.
last_begins : (size to : ℕ) (v : SegmentView) (vs : List SegmentView) → AreFilled size to (v ∷ vs) → begin_of (last_of v vs) < size
last_begins size to v [] filled = filled.0
last_begins size to v (w ∷ ws) filled = last_begins size to w ws filled.2

pub nothing_stale : (size to : ℕ) (m : Machine) (v : SegmentView) (vs : List SegmentView) (log : List ℕ) → AreFilled size to (v ∷ vs)
    → All (HasSlot size m) (v ∷ vs) → HasNothingStale size m (spans (unwritten (v ∷ vs))) (start_in (last_of v vs)) log
    → cleared size m (v ∷ vs) log ≡ log
nothing_stale size to m v vs log filled slots none =
    let last : SegmentView = last_of v vs in
    let begins = last_begins size to v vs filled in
    let has : HasSlot size m last = at_there (HasSlot size m) (v ∷ vs) _ last (last_get v vs) slots in
    let lies = has.lies in
    let number : (last.parts.site.slot + begin_of last) / size ≡ has.number =
    slot_is size has.number (last.parts.site.slot + begin_of last) (omega (arith, lies)) (omega (arith, lies, begins)) in
    let end : (last.parts.site.slot + begin_of last) / size * size + size ≡ last.parts.site.slot + size =
    ap (λ n. n * size + size) number ∙ ap (λ n. n + size) (sym lies) in
    let rest : AreZeros log (last.parts.site.slot + begin_of last) (last.parts.site.slot + size) =
    subst (λ n. AreZeros log (last.parts.site.slot + begin_of last) n) end none.current in
    let seen = of_seen (λ (s : Span). AreZeros log s.lid (s.lid + (s.end - s.place))) (unwritten (v ∷ vs)) none.sealed in
    let each : (b : BufferAt) → Contains (unwritten (v ∷ vs)) b → HasZeros log b =
    (λ b its. All-contains (HasZeros log) (unwritten (v ∷ vs)) b seen its) in
    cleared_is size (omega (arith, begins)) m (v ∷ vs) log
    (stale_zeros size (omega (arith, begins)) m (v ∷ vs) log none.free (line_zeros log size to v vs filled each rest))
