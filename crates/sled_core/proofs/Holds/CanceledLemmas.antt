-- What is written of a reservation that was aborted, and what a log holds then.
use Rattle.std.proofs.Common.{◌≡◌, ◌∙◌, ◌≤◌, ◌+◌, ◌-◌, ◌/◌, ◌%◌, ℕ, List, length, drop, set, Option, Some, refl, sym, ap, arith, length-take, length-drop}
use Rattle.std.specs.declared.io.Error.{Error as IoError}
use Rattle.std.specs.List.{slice_get}
use Rattle.sled_codec.specs.declared.serialization.message.MessageKind.{MessageKind}
use Rattle.sled_codec.specs.declared.serialization.message.MessageKind.TheVariants as kind
use Rattle.sled_codec.specs.History.{Message, History}
use Rattle.sled_codec.specs.Places.{part}
use Rattle.sled_codec.specs.Record.{short_record}
use Rattle.sled_codec.specs.Spelling.{short_header_tail}
use Rattle.sled_codec.specs.Written.{written}
use Rattle.sled_codec.proofs.Records.{length-short_record}
use Rattle.sled_store.specs.Device.{State}
use Rattle.sled_core.specs.declared.iobuf.ReservationState.TheVariants.{Open, Canceled}
use Rattle.sled_core.specs.declared.iobuf.Reserved.{Reserved}
use Rattle.sled_core.specs.declared.iobuf.Sealed.{Sealed}
use Rattle.sled_core.specs.declared.iobuf.SegmentPosition.{SegmentPosition}
use Rattle.sled_core.specs.Buffers.{body_in}
use Rattle.sled_core.specs.inside.Buffers.{canceling, ended, HasText}
use Rattle.sled_core.specs.inside.Fits.{log_parts, HoldsSegment}
use Rattle.sled_core.specs.inside.SealedBuffers.{AreSealed, one_ended}
use Rattle.sled_core.proofs.Holds.CompletedLemmas.{segment-cancel}
use Rattle.sled_core.proofs.Holds.HoldsLemmas.{segment-same}
use Rattle.sled_core.proofs.Read.ScanLemmas.{aligned_number}
use Rattle.sled_core.proofs.Reserve.CompletesLemmas.{text_canceled}

-- the header of a record is as long whatever its kind
tail_long : (k l : MessageKind) (len number page : ℕ) → length (short_header_tail k len number page) ≡ length (short_header_tail l len number page)
unfolding short_header_tail
tail_long k l len number page = refl

module _ (sum : List ℕ → ℕ) (size place : ℕ) (bytes : List ℕ) (r : Reserved) (aligned : place % size ≡ 0) (room : r.from + 32 ≤ size) (within : r.from + r.len ≤ length bytes)
    (stands : HasText sum (place / size) bytes r) where
  abbrev new : List ℕ
  new = written bytes r.from (canceling sum bytes r)

  number : place / size ≡ (place + r.from) / size
  number = sym (aligned_number place r.from size aligned (omega (arith, room)))

  abbrev canceled : List ℕ
  canceled = short_record sum kind.Canceled r.page ((place + r.from) / size) (body_in bytes r)

  -- its record stands at its place,
  pub canceled_there : r.state ≡ Open → part new r.from r.len ≡ canceled
  canceled_there is_open = text_canceled sum (place / size) bytes r within stands is_open ∙ ap (λ n. short_record sum kind.Canceled r.page n (body_in bytes r)) number

  -- and it is as long as what was reserved
  pub canceled_long : length canceled ≡ r.len
  canceled_long =
      let long = stands.long in
      let counted = stands.counted in
      let body : length (body_in bytes r) ≡ r.len - r.header_len = omega (arith, length-take (r.len - r.header_len) (drop (r.from + r.header_len) bytes), length-drop (r.from + r.header_len) bytes, within, long) in
      sym (ap (λ n. length (short_record sum kind.Canceled r.page n (body_in bytes r))) number)
      ∙ omega (arith, length-short_record sum kind.Canceled r.page (place / size) (body_in bytes r), tail_long kind.Canceled r.kind (length (body_in bytes r)) (place / size) r.page, counted, body, long)

-- A segment whose bytes and reservations are those once one was aborted holds what it held.
pub segment-aborted : (sum : List ℕ → ℕ) (size : ℕ) (site : SegmentPosition) (device : State) (fault : Option IoError) (bytes bytes' : List ℕ) (from from' : ℕ) (bs bs' : List Sealed) (rs rs' : List Reserved) (i : ℕ) (r : Reserved) (H : History) {stays : Message → Type 0}
    → bytes' ≡ written bytes r.from (canceling sum bytes r) → from' ≡ from → bs' ≡ one_ended i bs → rs' ≡ set rs i (ended Canceled r) → HoldsSegment sum (log_parts size site device fault bytes from bs rs) stays H → slice_get rs i ≡ Some r → r.state ≡ Open → from ≤ length bytes → AreSealed from rs bs
    → HoldsSegment sum (log_parts size site device fault bytes' from' bs' rs') stays H
segment-aborted sum size site device fault bytes bytes' from from' bs bs' rs rs' i r H is_bytes is_from is_bs is_rs holds there is_open behind are =
    segment-same sum size site device fault (written bytes r.from (canceling sum bytes r)) bytes' from from' (one_ended i bs) bs' (set rs i (ended Canceled r)) rs' H is_bytes is_from is_bs is_rs
    (segment-cancel sum size site device fault bytes from bs rs i r H holds there is_open behind are)
