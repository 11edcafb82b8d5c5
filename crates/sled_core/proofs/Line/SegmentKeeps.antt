-- What a segment holds it holds where its current buffer is sealed, a place is reserved in it, it is filled to its end, or one of its reservations is aborted: with other bytes, buffers and reservations the messages are the same.
use Rattle.sled_core.proofs.Reserve.RecordEnds.{no_end_up, records_more}
use Rattle.std.proofs.Common.{◌≡◌, ◌≤◌, ◌<◌, ◌+◌, ◌-◌, ◌/◌, ◌^◌, ◌∙◌, ℕ, max, false, List, [], ◌∷◌, ◌++◌, length, take, drop, set, Option, Some, refl, sym, ap, subst, arith, length-append}
use Rattle.std.specs.List.{All, slice_get}
use Rattle.std.specs.declared.io.Error.{Error as IoError}
use Rattle.std.proofs.lemmas.List.{take-append-le, take_all}
use Rattle.sled_codec.specs.Written.{written}
use Rattle.sled_codec.specs.declared.serialization.message.MessageKind.{MessageKind}
use Rattle.sled_codec.specs.declared.serialization.message.MessageKind.TheVariants as kind
use Rattle.sled_codec.specs.Kinds.{code_of}
use Rattle.sled_codec.specs.Places.{part}
use Rattle.sled_codec.specs.History.{Message, History}
use Rattle.sled_store.specs.Device.{State}
use Rattle.sled_core.specs.declared.iobuf.ReservationState.{ReservationState}
use Rattle.sled_core.specs.declared.iobuf.ReservationState.TheVariants.{Open, Canceled}
use Rattle.sled_core.specs.declared.iobuf.Reserved.{Reserved}
use Rattle.sled_core.specs.declared.iobuf.Sealed.{Sealed}
use Rattle.sled_core.specs.declared.iobuf.SegmentPosition.{SegmentPosition}
use Rattle.sled_core.specs.inside.Buffers.{records_end, IsChain, HasText, Stands, batches_in, canceling, ended, ending}
use Rattle.sled_core.specs.Buffers.{body_in, open_state, padding_at}
use Rattle.sled_core.specs.invariants.Caps.{segment_rest}
use Rattle.sled_core.specs.Begun.{SegmentParts, SegmentView}
use Rattle.sled_core.specs.inside.Fits.{HoldsSegment, LogParts, log_parts}
use Rattle.sled_core.specs.inside.SealedBuffers.{AreSealed, one_ended}
use Rattle.sled_core.specs.SealedBuffers.{seal_at, sealed_count, sealed_end}
use Rattle.sled_core.proofs.Flush.Completed.{grows}
use Rattle.sled_core.proofs.Holds.CanceledLemmas.{segment-aborted}
use Rattle.sled_core.proofs.Holds.BatchLemmas.{same_batched}
use Rattle.sled_core.proofs.Holds.HoldsLemmas.{segment-append}
use Rattle.sled_core.proofs.Holds.SealedCalls.{segment-sealed}
use Rattle.sled_core.proofs.Reserve.CompletesLemmas.{fits}
use Rattle.sled_core.proofs.Reserve.Entries.{open_plain, reserved_in}
use Rattle.sled_core.proofs.Holds.Filled.{filled_batches, filled_chain, filled_long, filled_messages, filled_stand}
use Rattle.sled_core.proofs.Reserve.OpenCounts.{open_fewer}
use Rattle.sled_core.proofs.Reserve.Ranges.{at_there, chain_within, length-written, part-written_before}
use Rattle.sled_core.proofs.Sealed.Appended.{end_one, seal_are}
use Rattle.sled_core.proofs.Sealed.Around.{parts_at}
use Rattle.sled_core.proofs.Sealed.Ended.{ends_rise, sealed_ended, sealed_more}
use Rattle.sled_core.proofs.Sealed.InBuffer.{end_ended}
use Rattle.sled_core.proofs.Sealed.LaidCalls.{laid_append}
use Rattle.sled_core.proofs.Sealed.LaidLemmas.{EndsRise}

-- the segment with these behind what is written of it
abbrev pub parts_with : SegmentParts → List ℕ → Option ℕ → List Sealed → List Reserved → SegmentParts
parts_with s bytes filled bs rs = record { site = s.site; bytes = bytes; written_len = s.written_len; filled = filled; sealed = bs; reserved = rs }

-- the same of what a log has of it, with so many reservations before those
abbrev pub view_with : SegmentView → List ℕ → Option ℕ → List Sealed → List Reserved → ℕ → SegmentView
view_with v bytes filled bs rs gone = record { parts = parts_with v.parts bytes filled bs rs; gone = gone }

-- what a segment has over this device
abbrev pub parts_over : ℕ → State → Option IoError → SegmentParts → LogParts
parts_over size device fault s = log_parts size s.site device fault s.bytes s.written_len s.sealed s.reserved

-- Such bytes, buffers and reservations are within a segment of this size, with the same header, and it holds these messages with them.
pub record KeepsHeld (sum : List ℕ → ℕ) (size : ℕ) (device : State) (fault : Option IoError) (s : SegmentParts) (stays : Message → Type 0) (H : History)
    (bytes : List ℕ) (bs : List Sealed) (rs : List Reserved) : Type 0 where
  pub inside : length bytes ≤ size
  pub are : AreSealed s.written_len rs bs
  pub held : sealed_end s.written_len bs ≤ length bytes
  pub head : take 20 bytes ≡ take 20 s.bytes
  pub segment : HoldsSegment sum (log_parts size s.site device fault bytes s.written_len bs rs) stays H

-- Whatever it holds, it holds it so.
abbrev pub KeepsAllHeld : (List ℕ → ℕ) → ℕ → State → Option IoError → SegmentParts → List ℕ → List Sealed → List Reserved → Type 1
KeepsAllHeld sum size device fault s bytes bs rs =
    (stays : Message → Type 0) (H : History) → HoldsSegment sum (parts_over size device fault s) stays H → KeepsHeld sum size device fault s stays H bytes bs rs

-- the reservations behind those of the sealed buffers are a chain from where these end
chain_current : (from : ℕ) (rs : List Reserved) (bs : List Sealed) (end : ℕ) → AreSealed from rs bs → IsChain (max 20 from) rs end → IsChain (max 20 (sealed_end from bs)) (drop (sealed_count bs) rs) end
chain_current from rs bs end are chain =
    subst (λ (cs : List Sealed). IsChain (max 20 (sealed_end from cs)) (drop (sealed_count cs) rs) end) (take_all (length bs) bs (omega arith)) (parts_at from rs bs (length bs) end are chain).1

-- What a segment holds it holds where it is filled to its end.
pub segment-filled : (sum : List ℕ → ℕ) (size : ℕ) (site : SegmentPosition) (device : State) (fault : Option IoError) (bytes : List ℕ) (from : ℕ) (bs : List Sealed) (rs : List Reserved) (H : History)
    → length bytes < size → site.place / size < 2 ^ 64 → EndsRise from bs (length bytes) → {stays : Message → Type 0} → HoldsSegment sum (log_parts size site device fault bytes from bs rs) stays H
    → HoldsSegment sum (log_parts size site device fault (bytes ++ segment_rest sum size (site.place / size) (length bytes)) from bs (rs ++ padding_at size (length bytes) ∷ [])) stays H
segment-filled sum size site device fault bytes from bs rs H less small rise {stays} holds =
    let number : ℕ = site.place / size in
    let more : List ℕ = segment_rest sum size number (length bytes) in
    let its : Reserved = padding_at size (length bytes) in
    let begun = grows sum size site device fault bytes from bs rs H holds in
    record {
      records = record {
        earlier = holds.records.earlier;
        messages = holds.records.messages ∙ ap (λ (ms : List Message). holds.records.earlier ++ ms) (sym (filled_messages sum size number bytes (max 20 from) rs small less holds.records.chain holds.records.stand site));
        below = holds.records.below;
        apart = holds.records.apart;
        batched = same_batched size site from (batches_in site bytes rs) (batches_in site (bytes ++ more) (rs ++ its ∷ [])) H.batches H.batches (filled_batches sum size number bytes (max 20 from) rs small less holds.records.chain holds.records.stand site) refl holds.records.batched;
        no_end = no_end_up H site.place (records_end rs (length bytes)) (records_end (rs ++ its ∷ []) (length (bytes ++ more))) (site.place + size) (records_more rs its (length bytes) (length (bytes ++ more)) (omega (arith, length-append bytes more)) (omega arith)) holds.records.no_end;
        place_begins = holds.records.place_begins;
        slot_begins = holds.records.slot_begins;
        header = λ first. let m = holds.records.header first in record { mark = m.mark; is = take-append-le 20 bytes more (omega (arith, begun)) ∙ m.is; of_history = m.of_history };
        chain = subst (λ n. IsChain (max 20 from) (rs ++ its ∷ []) n) (sym (filled_long sum size number bytes (max 20 from) rs small less holds.records.chain holds.records.stand)) (filled_chain sum size number bytes (max 20 from) rs small less holds.records.chain holds.records.stand);
        stand = filled_stand sum size number bytes (max 20 from) rs small less holds.records.chain holds.records.stand;
      };
      written = holds.written;
      laid = λ ok. laid_append device.log.bytes site.slot bytes more from bs size rise (holds.laid ok);
    }

-- A reservation of a segment ends: the bytes are as many, the header is the same, and the buffers have it still.
module _ (sum : List ℕ → ℕ) (size : ℕ) (device : State) (fault : Option IoError) (s : SegmentParts) (H : History) {stays : Message → Type 0}
    (segment : HoldsSegment sum (log_parts size s.site device fault s.bytes s.written_len s.sealed s.reserved) stays H)
    (i : ℕ) (r : Reserved) (there : slice_get s.reserved i ≡ Some r) (is_open : r.state ≡ Open) where
  pub ended_long : (word : ℕ) (k : MessageKind) → length (written s.bytes r.from (ending word k)) ≡ length s.bytes
  ended_long word k =
      let text : HasText sum (s.site.place / size) s.bytes r = (reserved_in sum size (s.site.place / size) s.bytes r (open_plain r.state is_open) (at_there (Stands sum size (s.site.place / size) s.bytes) s.reserved i r there segment.records.stand)).text in
      let inside = at_there (λ z. (max 20 s.written_len ≤ z.from) × (z.from + z.len ≤ length s.bytes)) s.reserved i r there (chain_within (max 20 s.written_len) (length s.bytes) s.reserved segment.records.chain) in
      length-written s.bytes (ending word k) r.from (fits sum (s.site.place / size) s.bytes r inside.1 text word k)

  pub ended_head : (word : ℕ) (k : MessageKind) → take 20 (written s.bytes r.from (ending word k)) ≡ take 20 s.bytes
  ended_head word k =
      let text : HasText sum (s.site.place / size) s.bytes r = (reserved_in sum size (s.site.place / size) s.bytes r (open_plain r.state is_open) (at_there (Stands sum size (s.site.place / size) s.bytes) s.reserved i r there segment.records.stand)).text in
      let inside = at_there (λ z. (max 20 s.written_len ≤ z.from) × (z.from + z.len ≤ length s.bytes)) s.reserved i r there (chain_within (max 20 s.written_len) (length s.bytes) s.reserved segment.records.chain) in
      let behind = inside.0 in
      part-written_before s.bytes (ending word k) r.from 0 20 (omega (arith, behind)) (fits sum (s.site.place / size) s.bytes r inside.1 text word k)

  pub ended_are : (state : ReservationState) → open_state state ≡ false → AreSealed s.written_len s.reserved s.sealed → AreSealed s.written_len (set s.reserved i (ended state r)) (one_ended i s.sealed)
  ended_are state closed are = sealed_ended r (ended state r) refl refl (λ xs j at. open_fewer xs j r (ended state r) at is_open closed) s.written_len s.reserved s.sealed i there are

-- Its current buffer is sealed, which holds something.
abbrev pub sealed_also : SegmentParts → List Sealed
sealed_also s = s.sealed ++ seal_at (length s.bytes) (drop (sealed_count s.sealed) s.reserved) ∷ []

pub segment_seals : (sum : List ℕ → ℕ) (size : ℕ) (device : State) (fault : Option IoError) (s : SegmentParts) → length s.bytes ≤ size → sealed_end s.written_len s.sealed < length s.bytes
    → AreSealed s.written_len s.reserved s.sealed → KeepsAllHeld sum size device fault s s.bytes (sealed_also s) s.reserved
segment_seals sum size device fault s short some are stays H segment =
    let rest : List Reserved = drop (sealed_count s.sealed) s.reserved in
    record {
      inside = short;
      are = seal_are s.written_len s.reserved s.sealed (sealed_end s.written_len s.sealed) (sealed_count s.sealed) (length s.bytes) are refl refl some
          (chain_current s.written_len s.reserved s.sealed (length s.bytes) are segment.records.chain);
      held = (let at = end_one s.written_len s.sealed (seal_at (length s.bytes) rest) in omega (arith, at));
      head = refl;
      segment = segment-sealed sum size s.site device fault s.bytes s.written_len s.sealed s.reserved rest H short (omega (arith, some)) segment;
    }

-- A place is reserved in it: its placeholder stands behind what is there.
pub segment_reserves : (sum : List ℕ → ℕ) (size : ℕ) (device : State) (fault : Option IoError) (s : SegmentParts) (more : List ℕ) (r : Reserved) → 20 ≤ length s.bytes → s.written_len ≤ length s.bytes
    → sealed_end s.written_len s.sealed ≤ length s.bytes → AreSealed s.written_len s.reserved s.sealed → All (λ x. x.from + x.len ≤ length s.bytes) s.reserved
    → r.from ≡ length s.bytes → r.len ≡ length more → r.state ≡ Open → r.from + 32 ≤ size → HasText sum (s.site.place / size) (s.bytes ++ more) r → length (s.bytes ++ more) ≤ size
    → KeepsAllHeld sum size device fault s (s.bytes ++ more) s.sealed (s.reserved ++ r ∷ [])
segment_reserves sum size device fault s more r begun so_far held are within at long is_open room text inside stays H segment = record {
  inside = inside;
  are = sealed_more s.written_len s.reserved s.sealed (r ∷ []) are;
  held = omega (arith, held, length-append s.bytes more);
  head = take-append-le 20 s.bytes more begun;
  segment = segment-append sum size s.site device fault s.bytes s.written_len s.sealed s.reserved H segment more r begun within at long is_open room
      (ends_rise s.written_len s.reserved s.sealed (length s.bytes) are so_far held) text;
}

-- It is filled to its end, and sealed.
module _ (sum : List ℕ → ℕ) (size : ℕ) (device : State) (fault : Option IoError) (s : SegmentParts) where
  abbrev rest : List ℕ
  rest = segment_rest sum size (s.site.place / size) (length s.bytes)

  abbrev padding : Reserved
  padding = padding_at size (length s.bytes)

  pub segment_closes : length s.bytes < size → s.site.place / size < 2 ^ 64 → EndsRise s.written_len s.sealed (length s.bytes) → 20 ≤ length s.bytes → sealed_end s.written_len s.sealed < size
      → AreSealed s.written_len s.reserved s.sealed
      → KeepsAllHeld sum size device fault s (s.bytes ++ segment_rest sum size (s.site.place / size) (length s.bytes))
      (sealed_also (parts_with s (s.bytes ++ segment_rest sum size (s.site.place / size) (length s.bytes)) (Some (length s.bytes)) s.sealed (s.reserved ++ padding_at size (length s.bytes) ∷ [])))
      (s.reserved ++ padding_at size (length s.bytes) ∷ [])
  segment_closes less small rise begun some are stays H segment =
      let long : length (s.bytes ++ rest) ≡ size = filled_long sum size (s.site.place / size) s.bytes (max 20 s.written_len) s.reserved small less segment.records.chain segment.records.stand in
      let filled = segment-filled sum size s.site device fault s.bytes s.written_len s.sealed s.reserved H less small rise segment in
      let kept = segment_seals sum size device fault (parts_with s (s.bytes ++ rest) (Some (length s.bytes)) s.sealed (s.reserved ++ padding ∷ [])) (omega (arith, long)) (omega (arith, long, some))
      (sealed_more s.written_len s.reserved s.sealed (padding ∷ []) are) stays H filled in
      record { inside = kept.inside; are = kept.are; held = kept.held; head = take-append-le 20 s.bytes rest begun; segment = kept.segment }

-- One of its reservations is aborted.
pub segment_aborts : (sum : List ℕ → ℕ) (size : ℕ) (device : State) (fault : Option IoError) (s : SegmentParts) (i : ℕ) (r : Reserved) → slice_get s.reserved i ≡ Some r → r.state ≡ Open → length s.bytes ≤ size
    → sealed_end s.written_len s.sealed ≤ length s.bytes → s.written_len ≤ length s.bytes → AreSealed s.written_len s.reserved s.sealed
    → KeepsAllHeld sum size device fault s (written s.bytes r.from (canceling sum s.bytes r)) (one_ended i s.sealed) (set s.reserved i (ended Canceled r))
segment_aborts sum size device fault s i r there is_open short held so_far are stays H segment =
    let word : ℕ = sum (body_in s.bytes r ++ code_of kind.Canceled ∷ part s.bytes (r.from + 5) (r.header_len - 5)) in
    let long : length (written s.bytes r.from (canceling sum s.bytes r)) ≡ length s.bytes = ended_long sum size device fault s H segment i r there is_open word kind.Canceled in
    record {
      inside = omega (arith, short, long);
      are = ended_are sum size device fault s H segment i r there is_open Canceled refl are;
      held = omega (arith, held, long, end_ended s.written_len i s.sealed);
      head = ended_head sum size device fault s H segment i r there is_open word kind.Canceled;
      segment = segment-aborted sum size s.site device fault s.bytes (written s.bytes r.from (canceling sum s.bytes r)) s.written_len s.written_len s.sealed (one_ended i s.sealed) s.reserved
          (set s.reserved i (ended Canceled r)) i r H refl refl refl refl segment there is_open so_far are;
    }
