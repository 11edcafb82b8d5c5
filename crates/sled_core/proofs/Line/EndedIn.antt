-- A log where a reservation of one of its segments has ended: what code asks of it before, and what the type of the log asks of its segments then.
use Rattle.std.proofs.Common.{◌≡◌, ◌≢◌, ◌∙◌, ◌≤◌, ◌<◌, ◌+◌, ◌-◌, ap, sym, refl, arith, rules, subst, ℕ, suc, Bool, false, if◌then◌else◌, List, length, set, Some}
use Rattle.std.specs.List.{slice_get}
use Rattle.std.specs.VecDeque.{deque_len}
use Rattle.std.proofs.lemmas.Option.{slice_get_within}
use Rattle.sled_core.specs.declared.iobuf.IoBuf.{IoBuf}
use Rattle.sled_core.specs.declared.iobuf.ReservationState.{ReservationState}
use Rattle.sled_core.specs.declared.iobuf.ReservationState.TheVariants.{Canceled, Completed, Manifest, Open, Padding}
use Rattle.sled_core.specs.declared.iobuf.Reserved.{Reserved}
use Rattle.sled_core.specs.declared.logger.Log.{Log}
use Rattle.sled_core.specs.declared.logger.io_bufs.IoBufs.{IoBufs}
use Rattle.sled_core.specs.declared.logger.io_bufs.SegmentBuffer.{SegmentBuffer}
use Rattle.sled_core.specs.inside.Begun.{AreFilled, LieWithin, open_segments, with_nth}
use Rattle.sled_core.specs.Begun.{SegmentView, line_in, segment_view}
use Rattle.sled_core.specs.inside.Buffers.{canceling, completing, marking}
use Rattle.sled_core.specs.Buffers.{open_state}
use Rattle.sled_core.specs.Fits.{line_of, segment_size_of}
use Rattle.sled_core.specs.Manifests.{is_manifest}
use Rattle.sled_core.specs.inside.OpenPlaces.{open_manifests}
use Rattle.sled_core.specs.inside.Turned.{EndsAs, HasOpenIn, ended_now}
use Rattle.sled_core.proofs.Line.EndedLine.{canceling_short, completing_short, ended_view, filled_over, marking_short}
use Rattle.sled_core.proofs.Holds.Facts.{nth_facts}
use Rattle.sled_core.proofs.Line.NthOpen.{line_with, nth_is, nth_same, nth_within, within_with}
use Rattle.sled_core.proofs.Line.OpenManifests.{fewer_counted, manifests_ended}

-- A way to end a reservation, which is open: the bytes that go over the beginning of its record, and the state that it has then.
pub record IsEnding {D C : Type 0} (log : Log D C) (n index : ℕ) (its : HasOpenIn (line_of log) n index) (how : List ℕ → Reserved → List ℕ) (state : ReservationState) : Type 0 where
  -- the bytes are no more than the record has
  pub short : length (how its.segment.parts.bytes its.reserved) ≤ its.reserved.len
  -- it isn't open then
  pub closed : open_state state ≡ false
  -- and it isn't one that fills a segment
  pub plain : state ≢ Padding

-- What the type of a log asks of its segments where a reservation of one of them has ended.
pub record HasEnded {D C : Type 0} (log : Log D C) (n index : ℕ) (its : HasOpenIn (line_of log) n index) (how : List ℕ → Reserved → List ℕ) (state : ReservationState) (now : IoBufs) : Type 0 where
  -- they are the ones that were, with that reservation ended
  pub line : (v : SegmentView) (r : Reserved) → slice_get (line_of log) n ≡ Some v → slice_get v.parts.reserved (index - v.gone) ≡ Some r
      → line_in now ≡ set (line_of log) n (ended_now (index - v.gone) r (how v.parts.bytes r) state v)
  pub lie : LieWithin (segment_size_of log) now
  -- all of them are filled as those of a log
  pub filled : AreFilled (segment_size_of log) log.reserved_to (line_in now)
  -- as many manifests are open as were, and one fewer where it was of one
  pub counted : (manifest : Bool) (count : ℕ) → is_manifest its.reserved.log_kind its.reserved.page ≡ manifest → log.batches.manifests ≡ (if manifest then suc count else count) → open_manifests (line_in now) ≡ count

module _ {D C : Type 0} (log : Log D C) (n index : ℕ) (its : HasOpenIn (line_of log) n index) where
  -- It is completed, or aborted, or it is the manifest of a batch that has ended.
  pub completes : IsEnding log n index its (λ bytes r. completing r) Completed
  completes = record {
    short = completing_short its.segment (index - its.segment.gone) its.reserved (nth_facts log n its.segment its.among) its.there its.open_yet;
    closed = refl;
    plain = λ is. let never : ⊥ = cc in never;
  }

  pub cancels : (sum : List ℕ → ℕ) → IsEnding log n index its (canceling sum) Canceled
  cancels sum = record {
    short = canceling_short sum its.segment (index - its.segment.gone) its.reserved (nth_facts log n its.segment its.among) its.there its.open_yet;
    closed = refl;
    plain = λ is. let never : ⊥ = cc in never;
  }

  pub marks : (sum : List ℕ → ℕ) (peg : ℕ) → its.reserved.len ≡ its.reserved.header_len + 8 → IsEnding log n index its (λ bytes r. marking sum bytes r peg) Manifest
  marks sum peg body = record {
    short = marking_short sum its.segment (index - its.segment.gone) its.reserved peg (nth_facts log n its.segment its.among) its.there its.open_yet body;
    closed = refl;
    plain = λ is. let never : ⊥ = cc in never;
  }

  -- What stands where it does is this one, and is open.
  is_its : (rs : List Reserved) (i : ℕ) → slice_get rs i ≡ Some its.reserved → (r : Reserved) → slice_get rs i ≡ Some r → its.reserved ≡ r
  is_its rs i here r there = let both : Some its.reserved ≡ Some r = sym here ∙ there in cc

  is_open : (r : Reserved) → its.reserved ≡ r → r.state ≡ Open
  is_open r same = sym (ap (λ (x : Reserved). x.state) same) ∙ its.open_yet

  -- Its segment is one of those that code has,
  pub number_within : n ≤ length log.segments.behind.items
  number_within = nth_within log n its.segment its.among

  -- and it is one of that's reservations, which is open.
  module _ (s : SegmentBuffer) (there : slice_get (open_segments log.segments) n ≡ Some s) where
    pub its_view : segment_view s ≡ its.segment
    its_view = nth_same log n s there its.segment its.among

    pub numbered : s.buffer.gone ≤ index
    numbered = let same = ap (λ (w : SegmentView). w.gone) its_view in let low = its.numbered in omega (arith, same, low)

    its_reserved : slice_get s.buffer.reserved.items (index - s.buffer.gone) ≡ Some its.reserved
    its_reserved = subst (λ (w : SegmentView). slice_get w.parts.reserved (index - w.gone) ≡ Some its.reserved) (sym its_view) its.there

    pub index_within : index - s.buffer.gone < deque_len s.buffer.reserved
    index_within =
        let long : deque_len s.buffer.reserved ≡ length s.buffer.reserved.items = search rules in
        omega (arith, long, slice_get_within s.buffer.reserved.items (index - s.buffer.gone) its.reserved its_reserved)

    pub one_is : (r : Reserved) → slice_get s.buffer.reserved.items (index - s.buffer.gone) ≡ Some r → its.reserved ≡ r
    one_is r here = is_its s.buffer.reserved.items (index - s.buffer.gone) its_reserved r here

    pub one_open : (r : Reserved) → slice_get s.buffer.reserved.items (index - s.buffer.gone) ≡ Some r → r.state ≡ Open
    one_open r here = is_open r (one_is r here)

  -- It has ended in such a way.
  module _ (how : List ℕ → Reserved → List ℕ) (state : ReservationState) (way : IsEnding log n index its how state) where
    abbrev size : ℕ
    size = segment_size_of log

    abbrev now : List SegmentView
    now = set (line_of log) n (ended_now (index - its.segment.gone) its.reserved (how its.segment.parts.bytes its.reserved) state its.segment)

    -- The segments are those, whichever segment and reservation these are,
    ended_any : (line : List SegmentView) → line ≡ now → (v : SegmentView) (r : Reserved) → slice_get (line_of log) n ≡ Some v → slice_get v.parts.reserved (index - v.gone) ≡ Some r
        → line ≡ set (line_of log) n (ended_now (index - v.gone) r (how v.parts.bytes r) state v)
    ended_any line is v r among there =
        let both : Some its.segment ≡ Some v = sym its.among ∙ among in
        let mine : its.segment ≡ v = cc in
        let own : slice_get v.parts.reserved (index - v.gone) ≡ Some its.reserved = subst (λ (w : SegmentView). slice_get w.parts.reserved (index - w.gone) ≡ Some its.reserved) mine its.there in
        let all : Some its.reserved ≡ Some r = sym own ∙ there in
        let same : its.reserved ≡ r = cc in
        is ∙ (λ j. set (line_of log) n (ended_now (index - (mine j).gone) (same j) (how (mine j).parts.bytes (same j)) state (mine j)))

    -- they are filled as they were,
    ended_filled : (line : List SegmentView) → line ≡ now → AreFilled size log.reserved_to line
    ended_filled line is = subst (AreFilled size log.reserved_to) (sym is)
        (filled_over size log.reserved_to (line_of log) n its.segment (index - its.segment.gone) its.reserved (how its.segment.parts.bytes its.reserved) state its.among (nth_facts log n its.segment its.among) its.there its.open_yet way.plain way.short log.line.filled)

    -- and as many manifests are open, or one fewer.
    ended_counted : (line : List SegmentView) → line ≡ now → (manifest : Bool) (count : ℕ) → is_manifest its.reserved.log_kind its.reserved.page ≡ manifest → log.batches.manifests ≡ (if manifest then suc count else count) → open_manifests line ≡ count
    ended_counted line is manifest count kind less =
        let all = manifests_ended (line_of log) n its.segment (index - its.segment.gone) its.reserved (how its.segment.parts.bytes its.reserved) state manifest its.among its.there its.open_yet kind way.closed in
        fewer_counted manifest (open_manifests (line_of log)) (open_manifests line) log.batches.manifests count (all ∙ (λ j. if manifest then suc (open_manifests (sym is j)) else open_manifests (sym is j))) less log.noted.counted

    -- So it is where code ended it in its buffer.
    pub has_ended : (s : SegmentBuffer) → slice_get (open_segments log.segments) n ≡ Some s → (new : IoBuf) → EndsAs (index - s.buffer.gone) how state s.buffer new
        → HasEnded log n index its how state (with_nth log.segments n (record { site = s.site; buffer = new }))
    has_ended s here new did =
        let after : SegmentBuffer = record { site = s.site; buffer = new } in
        let there = its_reserved s here in
        let mine : segment_view s ≡ its.segment = its_view s here in
        let view = ended_view s.site s.buffer new (index - s.buffer.gone) its.reserved (how s.buffer.bytes.items its.reserved) state (did.bytes its.reserved there) (did.reserved its.reserved there) did.sealed did.from did.gone did.filled in
        let line : line_in (with_nth log.segments n after) ≡ now =
        line_with log.segments n after ∙ ap (set (line_of log) n) (view ∙ (λ j. ended_now (index - (mine j).gone) its.reserved (how (mine j).parts.bytes its.reserved) state (mine j))) in
        record {
          line = ended_any (line_in (with_nth log.segments n after)) line;
          lie = within_with size log.segments n s after here refl (let short = (nth_is log n s here).short in let long = did.long in omega (arith, long, short)) (let from = did.from in omega (arith, from)) log.line.lies;
          filled = ended_filled (line_in (with_nth log.segments n after)) line;
          counted = ended_counted (line_in (with_nth log.segments n after)) line;
        }
