-- What is written of a log: the records that were completed, behind those that stand on the device. A log that keeps a failure holds what it held.
use Rattle.std.proofs.Common.{◌≡◌, ◌⊎◌, ◌≤◌, ◌<◌, ◌+◌, ◌/◌, ◌^◌, ◌∙◌, ℕ, ℤ, max, List, [], ◌∷◌, ◌++◌, length, sym, ap, arith, refl, subst, inl, inr, Option, None, Some}
use Rattle.std.specs.List.{All}
use Rattle.std.specs.declared.io.Error.{Error as IoError}
use Rattle.std.proofs.lemmas.List.{append-nil}
use Rattle.sled_codec.specs.History.{Message, Batch, History}
use Rattle.sled_codec.specs.WellFormed.{LieApart}
use Rattle.sled_store.specs.Device.{LogState, State}
use Rattle.sled_store.specs.SnapshotFiles.{BeginsFrom}
use Rattle.sled_core.specs.declared.iobuf.Reserved.{Reserved}
use Rattle.sled_core.specs.declared.iobuf.Sealed.{Sealed}
use Rattle.sled_core.specs.declared.iobuf.SegmentPosition.{SegmentPosition}
use Rattle.sled_core.specs.inside.Buffers.{IsChain, Stands, completed_in}
use Rattle.sled_core.specs.Begun.{SegmentParts}
use Rattle.sled_core.specs.Fits.{CloseBelow, EndBelow, IsBegunFrom, IsKept, IsOnDevice, held_of}
use Rattle.sled_core.specs.inside.Fits.{log_parts, HoldBehind, HoldsIn, HoldsSegment}
use Rattle.sled_core.specs.LogFile.{IsLogFile, StaysFrom}
use Rattle.sled_core.specs.inside.LogFile.{StaysBelow}
use Rattle.sled_core.proofs.Reached.Marks.{less_than}
use Rattle.sled_core.proofs.Reserve.Entries.{some_in}
use Rattle.sled_core.proofs.Reserve.Ranges.{chain_grows}
use Rattle.sled_core.specs.declared.logger.joined_marks.JoinedMarks.{JoinedMarks}
use Rattle.std.proofs.lemmas.Int.{ints}

-- The snapshot is the same, and more of the log is settled.
abbrev pub begun-more : (sum : List ℕ → ℕ) (size : ℕ) (snapshots snapshots' : ℤ → Option (List ℕ)) (site : SegmentPosition) (from from' : ℕ) (H : History) → snapshots' ≡ snapshots → from ≤ from'
    → {mark durable : ℤ} → IsBegunFrom sum mark durable size snapshots site from H → IsBegunFrom sum mark durable size snapshots' site from' H
begun-more sum size snapshots snapshots' site from from' H same more begun = record {
  first = begun.first;
  begins = subst (λ (f : ℤ → Option (List ℕ)). BeginsFrom sum f begun.first) (sym same) begun.begins;
  table = begun.table;
  fits = begun.fits;
  least = begun.least;
  reached = let reached = begun.reached in omega (arith, reached, more);
  joined = begun.joined;
  written = let written = begun.written in omega (arith, ints, written, more);
  marked = begun.marked;
}

-- there is a failure, or there is none
pub fault_or_none : (o : Option IoError) → (o ≡ None) ⊎ ((e : IoError) × (o ≡ Some e))
fault_or_none None = inl refl
fault_or_none (Some e) = inr (e, refl)

-- a chain of something is longer than nothing
chain_some : (sum : List ℕ → ℕ) (size number : ℕ) (bytes : List ℕ) (from end : ℕ) (rs : List Reserved) → 0 < length rs → All (Stands sum size number bytes) rs → IsChain (max 20 from) rs end → from < end
chain_some sum size number bytes from end [] some stand chain = absurd (omega (arith, some))
chain_some sum size number bytes from end (r ∷ rs) some stand chain =
    let long = some_in sum size number bytes r (stand 0 r (omega arith)) in
    let rest = chain_grows (max 20 from + r.len) end rs chain.1 in
    omega (arith, long, rest)

module _ (sum : List ℕ → ℕ) (size : ℕ) (site : SegmentPosition) (device : State) (fault : Option IoError) (bytes : List ℕ) (from : ℕ) (bs : List Sealed) (rs : List Reserved) (H : History)
    {stays : Message → Type 0} (holds : HoldsSegment sum (log_parts size site device fault bytes from bs rs) stays H) where
  -- Something was reserved, so there is something to write.
  pub grown : 0 < length rs → from < length bytes
  grown some = chain_some sum size (site.place / size) bytes from (length bytes) rs some holds.records.stand holds.records.chain

  -- In a log that keeps a failure of its device it holds what it held, whatever the log file is now.
  pub segment-faulty : (new : State) (e : IoError) (now : Option IoError) → now ≡ Some e → HoldsSegment sum (log_parts size site new now bytes from bs rs) stays H
  segment-faulty new e now is = record {
    records = holds.records;
    written = λ none. cc;
    laid = λ none. cc;
  }

-- What a log holds it holds over the same snapshot, and up to a place no lower, where its segments hold the same.
abbrev pub holds_over : (sum : List ℕ → ℕ) (size : ℕ) (site : SegmentPosition) (device : State) (fault : Option IoError) (bytes : List ℕ) (from : ℕ) (bs : List Sealed) (rs : List Reserved) (behind : List SegmentParts) (H : History)
    {marks : JoinedMarks} (holds : HoldsIn sum marks (log_parts size site device fault bytes from bs rs) behind H)
    (new : State) (now : Option IoError) (bytes' : List ℕ) (from' : ℕ) (bs' : List Sealed) (rs' : List Reserved) → new.snapshots.file ≡ device.snapshots.file → from ≤ from'
    → HoldsSegment sum (log_parts size site new now bytes' from' bs' rs') (StaysFrom H (held_of holds.begun)) (record { messages = holds.head; batches = H.batches })
    → HoldBehind sum size new now (site.place + size) behind (StaysBelow H (held_of holds.begun) site.place) H.batches holds.later → HoldsIn sum marks (log_parts size site new now bytes' from' bs' rs') behind H
holds_over sum size site device fault bytes from bs rs behind H holds new now bytes' from' bs' rs' names more own others = record {
  begun = begun-more sum size device.snapshots.file new.snapshots.file site from from' H names more holds.begun;
  head = holds.head;
  later = holds.later;
  messages = holds.messages;
  own = own;
  others = others;
  apart = holds.apart;
  marked = λ s there none mark header. less_than mark (site.place + from) (site.place + from') (omega (arith, more)) (holds.marked s there none mark header);
}

-- The segments behind the first one, in a log that keeps a failure of its device.
pub behind_faulty : (sum : List ℕ → ℕ) (size : ℕ) (device : State) (fault : Option IoError) (place : ℕ) (ss : List SegmentParts) (stays : Message → Type 0) (batches : List Batch) (ms : List Message)
    → HoldBehind sum size device fault place ss stays batches ms → (new : State) (e : IoError) (now : Option IoError) → now ≡ Some e → HoldBehind sum size new now place ss stays batches ms
behind_faulty sum size device fault place [] stays batches ms holds new e now is = holds
behind_faulty sum size device fault place (s ∷ ss) stays batches ms (own, later, all, here, rest) new e now is = (
  own,
  later,
  all,
  record {
    next = here.next;
    inside = here.inside;
    are = here.are;
    held = here.held;
    behind = here.behind;
    segment = segment-faulty sum size s.site device fault s.bytes s.written_len s.sealed s.reserved (record { messages = own; batches = batches }) here.segment new e now is;
    above = here.above;
  },
  behind_faulty sum size device fault (place + size) ss stays batches later rest new e now is,
)

module _ (sum : List ℕ → ℕ) (size : ℕ) (site : SegmentPosition) (device : State) (fault : Option IoError) (bytes : List ℕ) (from : ℕ) (bs : List Sealed) (rs : List Reserved) (H : History)
    {behind : List SegmentParts} {marks : JoinedMarks} (holds : HoldsIn sum marks (log_parts size site device fault bytes from bs rs) behind H) where
  -- A log that keeps a failure of its device holds what it held, whatever the log file is now.
  unfoldable pub holds-faulty : (new : State) (e : IoError) (now : Option IoError) → now ≡ Some e → new.snapshots.file ≡ device.snapshots.file → HoldsIn sum marks (log_parts size site new now bytes from bs rs) behind H
  holds-faulty new e now is names =
      holds_over sum size site device fault bytes from bs rs behind H holds new now bytes from bs rs names (omega arith)
      (segment-faulty sum size site device fault bytes from bs rs (record { messages = holds.head; batches = H.batches }) holds.own new e now is)
      (behind_faulty sum size device fault (site.place + size) behind (StaysBelow H (held_of holds.begun) site.place) H.batches holds.later holds.others new e now is)

-- Where no message was completed since the last write, and the segments behind the first one have none, all is on the device.
module _ (sum : List ℕ → ℕ) (size : ℕ) (site : SegmentPosition) (device : State) (fault : Option IoError) (bytes : List ℕ) (from : ℕ) (bs : List Sealed) (rs : List Reserved) (H : History)
    {behind : List SegmentParts} {marks : JoinedMarks} (holds : HoldsIn sum marks (log_parts size site device fault bytes from bs rs) behind H) where
  -- (also of another log file on which that is)
  pub all_kept : (log : LogState) → IsOnDevice sum size log site from holds.own.records.earlier (StaysFrom H (held_of holds.begun))
      → CloseBelow (site.place + from) H.batches → completed_in site bytes rs ≡ [] → holds.later ≡ [] → site.place + size < 2 ^ 63 → from ≤ size
      → IsKept sum marks.joined marks.durable size site from (record device { log = log }) H
  all_kept log on closed none last in_reach inside =
      let own = holds.own in
      let all : H.messages ≡ own.records.earlier =
      holds.messages ∙ ap (λ (ms : List Message). holds.head ++ ms) last ∙ append-nil holds.head
      ∙ own.records.messages ∙ ap (λ (ms : List Message). own.records.earlier ++ ms) none ∙ append-nil own.records.earlier in
      record {
        below = subst (λ (ms : List Message). EndBelow (site.place + from) ms) (sym all) own.records.below;
        apart = subst LieApart (sym all) own.records.apart;
        batches = closed;
        place_begins = own.records.place_begins;
        slot_begins = own.records.slot_begins;
        in_reach = in_reach;
        inside = inside;
        begun = holds.begun;
        on_device =
            subst (λ (ms : List Message). IsOnDevice sum size log site from ms (StaysFrom H (held_of holds.begun))) (sym all) on;
      }

-- What is on a device stands in the log file that is read of it.
pub on_file : (sum : List ℕ → ℕ) (size : ℕ) (device : LogState) (site : SegmentPosition) (from : ℕ) (messages : List Message) (stays : Message → Type 0) → IsOnDevice sum size device site from messages stays
    → IsLogFile sum size device.bytes site from messages stays
on_file sum size device site from messages stays is = subst (λ (l : List ℕ). IsLogFile sum size l site from messages stays) (sym (ap (λ (s : LogState). s.bytes) is.settled)) is.file
