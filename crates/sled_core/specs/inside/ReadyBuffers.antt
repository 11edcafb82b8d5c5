-- Which sealed buffers of a log can be written, by the places where they begin, and how many of the others wait for reservations that are open.
use Rattle.std.specs.Prelude.{◌≡◌, ◌==◌, ◌+◌, ◌<◌, ◌≤◌, ℕ, suc, if◌then◌else◌, List, [], ◌∷◌, ◌++◌, Some}
use Rattle.std.specs.List.{All, slice_get}
use Rattle.std.proofs.Props.{props}
use Rattle.sled_core.specs.Begun.{SegmentView}
use Rattle.sled_core.specs.declared.iobuf.IoBuf.{IoBuf}
use Rattle.sled_core.specs.declared.iobuf.Reserved.{Reserved}
use Rattle.sled_core.specs.declared.iobuf.Sealed.{Sealed}
use Rattle.sled_core.specs.declared.logger.ready.ReadyBuffers.{ReadyBuffers}
use Rattle.sled_core.specs.inside.SealedBuffers.{AreSealed, HasOpenAt, is_ready, one_ended}
use Rattle.sled_core.specs.SealedBuffers.{sealed_count, sealed_end}

-- where those of a segment at this place begin that can be written, from an offset on
abbrev pub ready_in : ℕ → ℕ → List Sealed → List ℕ
ready_in place from [] = []
ready_in place from (b ∷ bs) = if is_ready b then (place + from) ∷ ready_in place b.end bs else ready_in place b.end bs

-- how many of them have an open reservation
abbrev pub held_in : List Sealed → ℕ
held_in [] = 0
held_in (b ∷ bs) = if b.is_written then held_in bs else (if b.open_count == 0 then held_in bs else suc (held_in bs))

-- those of segments one behind another
abbrev pub ready_places : List SegmentView → List ℕ
ready_places [] = []
ready_places (v ∷ vs) = ready_in v.parts.site.place v.parts.written_len v.parts.sealed ++ ready_places vs

abbrev pub held_buffers : List SegmentView → ℕ
held_buffers [] = 0
held_buffers (v ∷ vs) = held_in v.parts.sealed + held_buffers vs

-- The buffers that can be written are those of these segments, and as many of the others are counted.
pub record AreReady (line : List SegmentView) (ready : ReadyBuffers) : Type 0 where
  pub places : ready.places.items ≡ ready_places line
  pub held : ready.held ≡ held_buffers line

-- A log keeps that as a proposition: there is one proof of it at most.
pub AreReady-prop : (line : List SegmentView) (ready : ReadyBuffers) → IsProp (AreReady line ready)
AreReady-prop line ready = Prim.hlevel props

-- Among the buffers that can be written are those of one segment, which has these sealed buffers from an offset on, between
-- those of the segments before it and behind it, and among those that are counted are its own beside so many others.
pub record HasOwn (ready : ReadyBuffers) (place from : ℕ) (bs : List Sealed) (before behind : List ℕ) (others : ℕ) : Type 0 where
  pub places : ready.places.items ≡ before ++ ready_in place from bs ++ behind
  pub held : ready.held ≡ others + held_in bs
  pub low : All (λ p. p < place + from) before
  pub high : All (λ p. place + sealed_end from bs ≤ p) behind

-- A reservation of a segment has ended of which a sealed buffer had it, or the current one: the segment has this buffer now, and had these ones sealed, and
-- these reservations.
pub record EndedOne (b : IoBuf) (index : ℕ) (bs : List Sealed) (rs : List Reserved) : Type 0 where
  pub sealed : b.sealed.items ≡ one_ended index bs
  pub are : AreSealed b.written_len rs bs
  pub reserved : Reserved
  pub there : slice_get b.reserved.items index ≡ Some reserved
  pub own : index < sealed_count bs → HasOpenAt b.written_len rs index reserved.from bs
