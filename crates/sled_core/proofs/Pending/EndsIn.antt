-- A log where a reservation of one of its segments has ended, which code tells the buffers that can be written.
use Rattle.std.proofs.Common.{◌≡◌, ◌∙◌, ◌<◌, ◌+◌, ◌-◌, ◌^◌, ap, sym, arith, subst, ℕ, List, length, set, Some}
use Rattle.std.specs.List.{slice_get}
use Rattle.sled_core.specs.Begun.{SegmentView, view_at}
use Rattle.sled_core.specs.declared.iobuf.IoBuf.{IoBuf}
use Rattle.sled_core.specs.declared.iobuf.ReservationState.{ReservationState}
use Rattle.sled_core.specs.declared.iobuf.Reserved.{Reserved}
use Rattle.sled_core.specs.declared.iobuf.Sealed.{Sealed}
use Rattle.sled_core.specs.declared.iobuf.SegmentPosition.{SegmentPosition}
use Rattle.sled_core.specs.declared.logger.Log.{Log}
use Rattle.sled_core.specs.declared.logger.ready.ReadyBuffers.{ReadyBuffers}
use Rattle.sled_core.specs.Fits.{line_of}
use Rattle.sled_core.specs.inside.ReadyBuffers.{AreReady, EndedOne, HasOwn}
use Rattle.sled_core.specs.inside.Turned.{EndsAs, HasOpenIn, ended_now}
use Rattle.sled_core.proofs.Line.EndedLine.{ended_view}
use Rattle.sled_core.proofs.Holds.Facts.{nth_facts}
use Rattle.sled_core.proofs.Pending.Logs.{ended_asks, ended_ready}

module _ {D C : Type 0} (log : Log D C) (n index : ℕ) (its : HasOpenIn (line_of log) n index) (how : List ℕ → Reserved → List ℕ) (state : ReservationState) (site : SegmentPosition) (old new : IoBuf) where
  -- What code makes of the buffer of its segment.
  pub record Ended : Type 0 where
    pub mine : view_at site old ≡ its.segment
    pub did : EndsAs (index - old.gone) how state old new

  module _ (here : Ended) where
    abbrev text : List ℕ
    text = how its.segment.parts.bytes its.reserved

    view : view_at site new ≡ ended_now (index - its.segment.gone) its.reserved text state its.segment
    view =
        let mine = here.mine in
        let did = here.did in
        let there : slice_get old.reserved.items (index - old.gone) ≡ Some its.reserved = subst (λ (w : SegmentView). slice_get w.parts.reserved (index - w.gone) ≡ Some its.reserved) (sym mine) its.there in
        ended_view site old new (index - old.gone) its.reserved (how old.bytes.items its.reserved) state (did.bytes its.reserved there) (did.reserved its.reserved there) did.sealed did.from did.gone did.filled
        ∙ (λ j. ended_now (index - (mine j).gone) its.reserved (how (mine j).parts.bytes its.reserved) state (mine j))

    same : index - old.gone ≡ index - its.segment.gone
    same = ap (λ (w : SegmentView). index - w.gone) here.mine

    -- It lies in reach,
    pub in_reach : site.place + length new.bytes.items < 2 ^ 64
    in_reach =
        let is = nth_facts log n its.segment its.among in
        let short = is.short in
        let small = is.place_small in
        let lies = ap (λ (w : SegmentView). w.parts.site.place) here.mine in
        let bytes = ap (λ (w : SegmentView). length w.parts.bytes) here.mine in
        let long = here.did.long in
        omega (arith, short, small, lies, bytes, long)

    -- its buffers are known,
    pub own : (bs : List Sealed) × (rs : List Reserved) × (before : List ℕ) × (behind : List ℕ) × (others : ℕ) × EndedOne new (index - old.gone) bs rs × HasOwn log.ready site.place new.written_len bs before behind others
    own = ended_asks log n index its text state site new view (index - old.gone) same

    -- and so are all then.
    pub indexed : (line : List SegmentView) → line ≡ set (line_of log) n (ended_now (index - its.segment.gone) its.reserved text state its.segment) → (now : ReadyBuffers)
        → ((bs : List Sealed) (rs : List Reserved) (before behind : List ℕ) (others : ℕ) → EndedOne new (index - old.gone) bs rs → HasOwn log.ready site.place new.written_len bs before behind others
        → HasOwn now site.place new.written_len new.sealed.items before behind others)
        → AreReady line now
    indexed line is now noted = subst (λ (l : List SegmentView). AreReady l now) (sym is) (ended_ready log n index its text state site new view (index - old.gone) same now noted)
