-- What proofs, and functions that no user calls, need beside `specs/Buffers.antt`. No public contract names it.
use Rattle.std.specs.Prelude.{◌≡◌, ◌≢◌, ◌+◌, ◌-◌, ◌≤◌, ◌<◌, ◌^◌, ℕ, true, false, if◌then◌else◌, List, [], ◌∷◌, ◌++◌, length, drop, replicate, Option}
use Rattle.std.specs.Prelude.{None, Some, is_some, ℤ}
use Rattle.sled_codec.specs.declared.serialization.message.MessageKind.{MessageKind}
use Rattle.sled_codec.specs.declared.serialization.message.MessageKind.TheVariants as kind
use Rattle.sled_codec.specs.Kinds.{code_of}
use Rattle.sled_codec.specs.Sums.{flipped}
use Rattle.sled_codec.specs.Spelling.{SpellsSigned, low_bytes, low_first, short_header_tail}
use Rattle.sled_codec.specs.Places.{part}
use Rattle.sled_codec.specs.Record.{record_sum, short_record}
use Rattle.sled_codec.specs.History.{Message, Batch}
use Rattle.sled_core.specs.declared.iobuf.ReservationState.{ReservationState}
use Rattle.sled_core.specs.declared.iobuf.ReservationState.TheVariants.{Open, Completed, Canceled, Manifest, Padding}
use Rattle.sled_core.specs.declared.iobuf.Reserved.{Reserved}
use Rattle.sled_core.specs.declared.iobuf.Purpose.{Purpose}
use Rattle.sled_core.specs.declared.iobuf.SegmentPosition.{SegmentPosition}
use Rattle.sled_core.specs.invariants.Caps.{segment_rest}
use Rattle.sled_core.specs.Manifests.{is_manifest, kind_for}
use Rattle.sled_core.specs.Buffers.{body_in, message_in, padding_state}

-- the bytes that a reservation has in its segment
abbrev pub text_in : List ℕ → Reserved → List ℕ
text_in bytes r = part bytes r.from r.len

abbrev pub SpellsBlob : Option ℤ → List ℕ → Type 0
SpellsBlob None body = Unit {0}
SpellsBlob (Some place) body = SpellsSigned body place

-- a header with zeros in place of its sum and its kind
abbrev pub placeholder_head : List ℕ → List ℕ
placeholder_head head = replicate 5 0 ++ drop 5 head

-- An open reservation has neither a sum nor a kind yet, so its bytes are no record.
abbrev pub placeholder : List ℕ → List ℕ
placeholder whole = replicate 5 0 ++ drop 5 whole

-- What a reservation of this page and kind is to hold, with this body: while it is open a placeholder, then its record, and once it was aborted one that is
-- passed over. The body of a manifest is known once it has ended. (A padding is none.)
abbrev pub text_as : (List ℕ → ℕ) → MessageKind → ℕ → ℕ → List ℕ → ReservationState → List ℕ
text_as sum k page number body Open = placeholder (short_record sum k page number body)
text_as sum k page number body Completed = short_record sum k page number body
text_as sum k page number body Canceled = short_record sum kind.Canceled page number body
text_as sum k page number body Manifest = short_record sum k page number body
text_as sum k page number body Padding = []

-- This text and this body in it are what a reservation is to hold.
pub record StandsAs (sum : List ℕ → ℕ) (number : ℕ) (text body : List ℕ) (r : Reserved) : Type 0 where
  pub headed : 5 ≤ r.header_len
  pub long : r.header_len ≤ r.len
  pub known : kind_for r.log_kind r.page (is_some r.blob) (length body) ≡ Some r.kind
  pub names : SpellsBlob r.blob body
  -- a completed one is a message
  pub whole : r.state ≡ Completed → is_manifest r.log_kind r.page ≡ false
  -- and an ended manifest is none, and has a peg
  pub manifest : r.state ≡ Manifest → is_manifest r.log_kind r.page ≡ true
  pub pegged : r.state ≡ Manifest → low_first body < 2 ^ 63
  pub valid : r.kind ≢ kind.Corrupted
  pub page : r.page < 2 ^ 64
  -- what completes it
  pub summed : r.state ≡ Open → flipped r.sum ≡ record_sum sum r.kind r.page number body
  pub counted : r.header_len ≡ 4 + length (short_header_tail r.kind (length body) number r.page)
  pub is : text ≡ text_as sum r.kind r.page number body r.state

-- what a reservation has in these bytes
abbrev pub HasText : (List ℕ → ℕ) → ℕ → List ℕ → Reserved → Type 0
HasText sum number bytes r = StandsAs sum number (text_in bytes r) (body_in bytes r) r

-- What stands in a reservation, where the longest header of a record has room.
pub record StandsReserved (sum : List ℕ → ℕ) (size number : ℕ) (bytes : List ℕ) (r : Reserved) : Type 0 where
  pub room : r.from + 32 ≤ size
  pub text : HasText sum number bytes r

-- What fills a segment to its end, behind its last record.
pub record IsPadding (sum : List ℕ → ℕ) (size number : ℕ) (bytes : List ℕ) (r : Reserved) : Type 0 where
  pub some : 0 < r.len
  pub to_end : r.from + r.len ≡ size
  pub is : text_in bytes r ≡ segment_rest sum size number r.from

-- what stands in an entry of this state
abbrev pub StandsBy : ReservationState → (List ℕ → ℕ) → ℕ → ℕ → List ℕ → Reserved → Type 0
StandsBy Padding sum size number bytes r = IsPadding sum size number bytes r
StandsBy _ sum size number bytes r = StandsReserved sum size number bytes r

-- what stands in an entry, in a segment of this size and number
abbrev pub Stands : (List ℕ → ℕ) → ℕ → ℕ → List ℕ → Reserved → Type 0
Stands sum size number bytes r = StandsBy r.state sum size number bytes r

-- an entry that is a reservation
abbrev pub NoPadding : Reserved → Type 0
NoPadding r = r.state ≢ Padding

-- An entry has a byte at least, and while it is open a header with a sum and a kind; and the body of a manifest has 8 bytes.
abbrev pub IsHeaded : Reserved → Type 0
IsHeaded r = (0 < r.len) × (r.state ≡ Open → (5 ≤ r.header_len) × (r.header_len ≤ r.len)) × (is_manifest r.log_kind r.page ≡ true → r.len ≡ r.header_len + 8)

-- the reservation that is made at an offset for a message, with this sum
abbrev pub reserved_for : Purpose → ℕ → ℕ → ℕ → ℕ → Reserved
reserved_for kept at header_len item_len sum =
    record {
      from = at;
      header_len = header_len;
      len = header_len + item_len;
      log_kind = kept.log_kind;
      kind = kept.kind;
      page = kept.page;
      sum = sum;
      blob = kept.blob;
      state = Open;
    }

-- a sum, flipped, and a kind, with which a record ends its reservation
abbrev pub ending : ℕ → MessageKind → List ℕ
ending sum k = low_bytes 4 (flipped sum) ++ code_of k ∷ []

-- the sum and the kind that complete a reservation
abbrev pub completing : Reserved → List ℕ
completing r = ending r.sum r.kind

-- those that make its record one of a kind: the sum is over the body, and the header behind the sum with that kind
abbrev pub ending_as : (List ℕ → ℕ) → List ℕ → Reserved → MessageKind → List ℕ
ending_as sum bytes r k = ending (sum (body_in bytes r ++ code_of k ∷ part bytes (r.from + 5) (r.header_len - 5))) k

-- those that make it one that is passed over
abbrev pub canceling : (List ℕ → ℕ) → List ℕ → Reserved → List ℕ
canceling sum bytes r = ending_as sum bytes r kind.Canceled

-- the record with which the manifest of a batch ends, from the sum on to the body, which is the peg
abbrev pub marking : (List ℕ → ℕ) → List ℕ → Reserved → ℕ → List ℕ
marking sum bytes r peg =
    ending (sum (low_bytes 8 peg ++ code_of r.kind ∷ part bytes (r.from + 5) (r.header_len - 5))) r.kind ++ part bytes (r.from + 5) (r.header_len - 5)
    ++ low_bytes 8 peg

-- the reservation once it has ended so
abbrev pub ended : ReservationState → Reserved → Reserved
ended state r =
    record {
      from = r.from;
      header_len = r.header_len;
      len = r.len;
      log_kind = r.log_kind;
      kind = r.kind;
      page = r.page;
      sum = r.sum;
      blob = r.blob;
      state = state;
    }

-- reservations lie one behind another from an offset on, up to an end
abbrev pub IsChain : ℕ → List Reserved → ℕ → Type 0
IsChain from [] end = from ≡ end
IsChain from (r ∷ rs) end = (r.from ≡ from) × IsChain (from + r.len) rs end

-- the entries in front of what fills the segment: those of its records
abbrev pub records_of : List Reserved → List Reserved
records_of [] = []
records_of (r ∷ rs) = if padding_state r.state then [] else r ∷ records_of rs

-- where these end, of entries that end there
abbrev pub records_end : List Reserved → ℕ → ℕ
records_end [] end = end
records_end (r ∷ rs) end = if padding_state r.state then r.from else records_end rs end

-- the message of a reservation before these, if it was completed
abbrev pub with_own : ReservationState → Message → List Message → List Message
with_own Open m ms = ms
with_own Completed m ms = m ∷ ms
with_own Canceled m ms = ms
with_own Manifest m ms = ms
with_own Padding m ms = ms

-- the messages of the reservations that were completed, by place
abbrev pub completed_in : SegmentPosition → List ℕ → List Reserved → List Message
completed_in site bytes [] = []
completed_in site bytes (r ∷ rs) = with_own r.state (message_in site bytes r) (completed_in site bytes rs)

-- the batch of an ended manifest: from its own place to the peg, which its body has
abbrev pub batch_in : SegmentPosition → List ℕ → Reserved → Batch
batch_in site bytes r = record { low = site.place + r.from; peg = low_first (body_in bytes r) }

-- it before these, if the entry is an ended manifest
abbrev pub with_batch : ReservationState → Batch → List Batch → List Batch
with_batch Open b bs = bs
with_batch Completed b bs = bs
with_batch Canceled b bs = bs
with_batch Manifest b bs = b ∷ bs
with_batch Padding b bs = bs

-- the batches of the manifests that have ended, by place
abbrev pub batches_in : SegmentPosition → List ℕ → List Reserved → List Batch
batches_in site bytes [] = []
batches_in site bytes (r ∷ rs) = with_batch r.state (batch_in site bytes r) (batches_in site bytes rs)
