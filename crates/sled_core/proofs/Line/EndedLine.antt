-- The segments of a log where a reservation of one of them has ended: they are filled as they were; and what code has of one behind the first.
use Rattle.std.proofs.Common.{◌≡◌, ◌≢◌, ◌≤◌, ◌+◌, ◌-◌, refl, arith, ℕ, List, ◌∷◌, ◌++◌, length, set, Some}
use Rattle.std.specs.List.{slice_get}
use Rattle.sled_codec.specs.Written.{written}
use Rattle.sled_codec.specs.Kinds.{code_of}
use Rattle.sled_codec.specs.Places.{part}
use Rattle.sled_codec.specs.declared.serialization.message.MessageKind.{MessageKind}
use Rattle.sled_codec.specs.declared.serialization.message.MessageKind.TheVariants.{Canceled}
use Rattle.sled_core.specs.declared.iobuf.IoBuf.{IoBuf}
use Rattle.sled_core.specs.declared.iobuf.ReservationState.{ReservationState}
use Rattle.sled_core.specs.declared.iobuf.ReservationState.TheVariants.{Open, Padding}
use Rattle.sled_core.specs.declared.iobuf.Reserved.{Reserved}
use Rattle.sled_core.specs.declared.iobuf.SegmentPosition.{SegmentPosition}
use Rattle.sled_core.specs.inside.Begun.{AreFilled}
use Rattle.sled_core.specs.Begun.{SegmentView, view_at}
use Rattle.sled_core.proofs.Reserve.BeginBelow.{entered_ended}
use Rattle.sled_core.specs.inside.Buffers.{IsHeaded, canceling, completing, ended, ending, marking}
use Rattle.sled_core.specs.Buffers.{body_in}
use Rattle.sled_core.specs.inside.SealedBuffers.{one_ended}
use Rattle.sled_core.specs.inside.Turned.{ended_now}
use Rattle.sled_core.proofs.Holds.Facts.{IsSegment}
use Rattle.sled_core.proofs.Line.Segments.{filled_set}
use Rattle.sled_core.proofs.Reserve.MarksLemmas.{marking_long}
use Rattle.sled_core.proofs.Reserve.Ranges.{at_there, length-written}
use Rattle.sled_core.proofs.Reserve.RecordEnds.{records_set}
use Rattle.sled_core.proofs.Sealed.InBuffer.{end_ended}

-- The bytes of a segment are as many, whatever is written over one of its reservations,
pub over_bytes : {size place : ℕ} (v : SegmentView) (i : ℕ) (r : Reserved) (text : List ℕ) → IsSegment size place v → slice_get v.parts.reserved i ≡ Some r → length text ≤ r.len
    → length (written v.parts.bytes r.from text) ≡ length v.parts.bytes
over_bytes v i r text facts there short =
    let inside = at_there (λ (x : Reserved). x.from + x.len ≤ length v.parts.bytes) v.parts.reserved i r there facts.within in
    length-written v.parts.bytes text r.from (omega (arith, inside, short))

ending_short : {size place : ℕ} (v : SegmentView) (i : ℕ) (r : Reserved) (word : ℕ) (k : MessageKind) → IsSegment size place v → slice_get v.parts.reserved i ≡ Some r → r.state ≡ Open → length (ending word k) ≤ r.len
ending_short v i r word k facts there is_open =
    let own = (at_there IsHeaded v.parts.reserved i r there facts.headed).1 is_open in
    omega (arith, own.0, own.1)

-- So few bytes stand in its header, in front of its body.
pub canceling_head : (sum : List ℕ → ℕ) {size place : ℕ} (v : SegmentView) (i : ℕ) (r : Reserved) → IsSegment size place v → slice_get v.parts.reserved i ≡ Some r → r.state ≡ Open → length (canceling sum v.parts.bytes r) ≤ r.header_len
canceling_head sum v i r facts there is_open = let own = (at_there IsHeaded v.parts.reserved i r there facts.headed).1 is_open in omega (arith, own.0)

-- as with those that complete it, or make it one that is passed over,
pub completing_short : {size place : ℕ} (v : SegmentView) (i : ℕ) (r : Reserved) → IsSegment size place v → slice_get v.parts.reserved i ≡ Some r → r.state ≡ Open → length (completing r) ≤ r.len
completing_short v i r facts there is_open = ending_short v i r r.sum r.kind facts there is_open

pub canceling_short : (sum : List ℕ → ℕ) {size place : ℕ} (v : SegmentView) (i : ℕ) (r : Reserved) → IsSegment size place v → slice_get v.parts.reserved i ≡ Some r → r.state ≡ Open → length (canceling sum v.parts.bytes r) ≤ r.len
canceling_short sum v i r facts there is_open = ending_short v i r (sum (body_in v.parts.bytes r ++ code_of Canceled ∷ part v.parts.bytes (r.from + 5) (r.header_len - 5))) Canceled facts there is_open

pub marking_short : (sum : List ℕ → ℕ) {size place : ℕ} (v : SegmentView) (i : ℕ) (r : Reserved) (peg : ℕ) → IsSegment size place v → slice_get v.parts.reserved i ≡ Some r → r.state ≡ Open → r.len ≡ r.header_len + 8
    → length (marking sum v.parts.bytes r peg) ≤ r.len
marking_short sum v i r peg facts there is_open long =
    let inside = at_there (λ (x : Reserved). x.from + x.len ≤ length v.parts.bytes) v.parts.reserved i r there facts.within in
    let own = (at_there IsHeaded v.parts.reserved i r there facts.headed).1 is_open in
    let is = marking_long sum v.parts.bytes r peg own.0 long inside in
    omega (arith, is)

-- and so with a sum and a kind.
pub ended_bytes : {size place : ℕ} (v : SegmentView) (i : ℕ) (r : Reserved) (word : ℕ) (k : MessageKind) → IsSegment size place v → slice_get v.parts.reserved i ≡ Some r → r.state ≡ Open
    → length (written v.parts.bytes r.from (ending word k)) ≡ length v.parts.bytes
ended_bytes v i r word k facts there is_open = over_bytes v i r (ending word k) facts there (ending_short v i r word k facts there is_open)

-- Its segments are filled as they were, whatever is written over it.
pub filled_over : (size to : ℕ) (line : List SegmentView) (n : ℕ) {place : ℕ} (v : SegmentView) (i : ℕ) (r : Reserved) (text : List ℕ) (state : ReservationState) → slice_get line n ≡ Some v → IsSegment size place v
    → slice_get v.parts.reserved i ≡ Some r → r.state ≡ Open → state ≢ Padding → length text ≤ r.len → AreFilled size to line → AreFilled size to (set line n (ended_now i r text state v))
filled_over size to line n v i r text state among facts there is_open plain short filled =
    filled_set size to line n v (ended_now i r text state v) among refl (end_ended v.parts.written_len i v.parts.sealed) (over_bytes v i r text facts there short)
    (entered_ended to v.parts.site.place i v.parts.reserved r state there is_open) refl
    (omega (arith, records_set v.parts.reserved i r state (length v.parts.bytes) there is_open plain)) facts filled

-- What code makes of a buffer is the segment with that reservation ended.
pub ended_view : (site : SegmentPosition) (old new : IoBuf) (i : ℕ) (r : Reserved) (how : List ℕ) (state : ReservationState) → new.bytes.items ≡ written old.bytes.items r.from how → new.reserved.items ≡ set old.reserved.items i (ended state r)
    → new.sealed.items ≡ one_ended i old.sealed.items → new.written_len ≡ old.written_len → new.gone ≡ old.gone → new.filled ≡ old.filled → view_at site new ≡ ended_now i r how state (view_at site old)
ended_view site old new i r how state bytes reserved sealed from gone filling = λ j. record { parts = record { site = site; bytes = bytes j; written_len = from j; filled = filling j; sealed = sealed j; reserved = reserved j }; gone = gone j }
