-- What a segment holds it holds beside other messages of earlier segments that stay, and behind all of those, where each has its record in another slot.
use Rattle.std.proofs.Common.{◌≡◌, ◌≢◌, ◌⊎◌, ◌∙◌, ◌≤◌, ◌<◌, ◌+◌, ◌%◌, ℕ, List, [], ◌∷◌, ◌++◌, map, Option, None, refl, sym, ap, subst, arith, append_assoc, inl, inr}
use Rattle.std.specs.List.{All, Contains}
use Rattle.std.specs.declared.io.Error.{Error as IoError}
use Rattle.std.proofs.lemmas.List.Elements.{All-append, All-contains, Contains-append_cases}
use Rattle.sled_codec.specs.declared.result.DiskPtr.TheVariants.{Inline}
use Rattle.sled_codec.specs.History.{Batch, History, Message}
use Rattle.sled_codec.specs.WellFormed.{LieApart}
use Rattle.sled_store.specs.Device.{State}
use Rattle.sled_store.proofs.Segments.Elements.{in_first, in_rest}
use Rattle.sled_store.proofs.Segments.FitLemmas.{all_front}
use Rattle.sled_store.proofs.Segments.TableEntries.{from_table}
use Rattle.sled_core.specs.declared.iobuf.Reserved.{Reserved}
use Rattle.sled_core.specs.declared.iobuf.Sealed.{Sealed}
use Rattle.sled_core.specs.declared.iobuf.SegmentPosition.{SegmentPosition}
use Rattle.sled_core.specs.Begun.{SegmentParts}
use Rattle.sled_core.specs.Fits.{EndBelow}
use Rattle.sled_core.specs.inside.Fits.{HoldBehind, HoldsSegment, begun_segment, log_parts}
use Rattle.sled_core.specs.LogFile.{IsLogFile, StandsElsewhere, StandsHere, StaysFrom}
use Rattle.sled_core.specs.inside.Reached.{BegunSegment}
use Rattle.sled_core.proofs.Flush.Completed.{apart_both}
use Rattle.sled_core.proofs.Flush.FlushLemmas.{on_file}
use Rattle.sled_core.proofs.Flush.Settled.{rests}
use Rattle.sled_core.proofs.Holds.BehindKept.{slots_apart}
use Rattle.sled_core.proofs.Reached.BufferPath.{mark_same}

-- a message that stays is one of the history
pub stays_among : (H : History) (place : ℕ) (m : Message) → StaysFrom H place m → Contains H.messages m
stays_among H place m (inl entry) = (from_table H place m.page m entry).0
stays_among H place m (inr (above, there)) = there

-- one that stands in the slot of its segment stands elsewhere for a segment in another slot
pub elsewhere_of : (sum : List ℕ → ℕ) (size : ℕ) → 0 < size → (log : List ℕ) (site other : SegmentPosition) → site.slot % size ≡ 0 → other.slot % size ≡ 0 → other.slot ≢ site.slot → (from lid : ℕ) (m : Message) → from ≤ size → StandsHere sum size log site from lid m
    → StandsElsewhere sum size log other lid m
elsewhere_of sum size some log site other at_site at_other apart from lid m short s =
    let within = s.inside in
    let offset = s.offset in
    record {
      begins = s.begins;
      stands = s.stands;
      apart = elim (slots_apart size some other.slot site.slot at_other at_site apart) [
        | inl before ↦ inr (omega (arith, before, offset))
        | inr behind ↦ inl (omega (arith, behind, offset, within, short))
      ];
    }

-- Other messages stay, each of which stayed before, or stands in another slot.
abbrev pub StayOrStand : (List ℕ → ℕ) → ℕ → State → SegmentPosition → (Message → Type 0) → (Message → Type 0) → Type 0
StayOrStand sum size device site stays stays' = (m : Message) → stays' m → m.place < site.place → (lid : ℕ) → m.pointer ≡ Inline lid → stays m ⊎ StandsElsewhere sum size device.log.bytes site lid m

module _ (sum : List ℕ → ℕ) (size : ℕ) (site : SegmentPosition) (device : State) (fault : Option IoError) (bytes : List ℕ) (from : ℕ) (bs : List Sealed) (rs : List Reserved) where
  pub segment-stays : (H : History) (stays stays' : Message → Type 0) → (fault ≡ None → StayOrStand sum size device site stays stays') → HoldsSegment sum (log_parts size site device fault bytes from bs rs) stays H
      → HoldsSegment sum (log_parts size site device fault bytes from bs rs) stays' H
  segment-stays H stays stays' others holds = record {
    records = holds.records;
    written = λ none. (
        let on = holds.written none in
        let file : IsLogFile sum size device.log.bytes site from holds.records.earlier stays = on_file sum size device.log site from holds.records.earlier stays on in
        record {
          log = device.log.bytes;
          settled = rests device.log on.log on.settled;
          file = record {
            own = file.own;
            elsewhere = λ m its low lid inline. elim (others none m its low lid inline) [ inl stayed ↦ file.elsewhere m stayed low lid inline | inr stands ↦ stands ];
            begun = file.begun;
            header = file.header;
          };
        });
    laid = holds.laid;
  }

  -- The messages of earlier segments are counted with it.
  pub segment-earlier : (ms own : List Message) (batches : List Batch) → EndBelow site.place ms → LieApart ms → All (λ m. site.place ≤ m.place) own → {stays : Message → Type 0}
      → HoldsSegment sum (log_parts size site device fault bytes from bs rs) stays (record { messages = own; batches = batches }) → HoldsSegment sum (log_parts size site device fault bytes from bs rs) stays (record { messages = ms ++ own; batches = batches })
  segment-earlier ms own batches below apart above {stays} holds =
      let Below : Message → Type 0 = λ m. (m.place < site.place + from) × (m.place + m.size ≤ site.place + from) in
      let over : All (λ m. site.place ≤ m.place) holds.records.earlier = all_front (λ (m : Message). site.place ≤ m.place) holds.records.earlier _ (subst (All (λ (m : Message). site.place ≤ m.place)) holds.records.messages above) in
      record {
        records = record {
          earlier = ms ++ holds.records.earlier;
          messages = ap (λ (l : List Message). ms ++ l) holds.records.messages ∙ sym (append_assoc ms holds.records.earlier _);
          below = All-append Below ms holds.records.earlier (λ k d lt. let b = below k d lt in (omega (arith, b.0), omega (arith, b.1))) holds.records.below;
          apart = apart_both site.place ms holds.records.earlier apart holds.records.apart (λ k d lt. (below k d lt).1) over;
          batched = holds.records.batched;
          no_end = holds.records.no_end;
          place_begins = holds.records.place_begins;
          slot_begins = holds.records.slot_begins;
          header = λ first. let m = holds.records.header first in
              record { mark = m.mark; is = m.is; of_history = mark_same (record { messages = own; batches = batches }) (record { messages = ms ++ own; batches = batches }) (record { place = site.place; slot = site.slot; mark = m.mark }) refl m.of_history };
          chain = holds.records.chain;
          stand = holds.records.stand;
        };
        written = λ none. (
            let on = holds.written none in
            record {
              log = on.log;
              settled = on.settled;
              file = record {
                own = λ m among up lid inline. elim (Contains-append_cases ms holds.records.earlier m among) [
                  | inl early ↦ (let b = All-contains (λ (x : Message). (x.place < site.place) × (x.place + x.size ≤ site.place)) ms m below early in absurd (omega (arith, b.0, up)))
                  | inr mine ↦ on.file.own m mine up lid inline
                ];
                elsewhere = on.file.elsewhere;
                begun = on.file.begun;
                header = on.file.header;
              };
            });
        laid = holds.laid;
      }

-- So it is with segments behind the first one.
pub behind_stays : (sum : List ℕ → ℕ) (size : ℕ) (device : State) (fault : Option IoError) (place : ℕ) (ss : List SegmentParts) (stays stays' : Message → Type 0) (batches : List Batch) (ms : List Message)
    → ((y : BegunSegment) → Contains (map begun_segment ss) y → y.site.slot % size ≡ 0 → fault ≡ None → StayOrStand sum size device y.site stays stays')
    → HoldBehind sum size device fault place ss stays batches ms → HoldBehind sum size device fault place ss stays' batches ms
behind_stays sum size device fault place [] stays stays' batches ms others holds = holds
behind_stays sum size device fault place (s ∷ ss) stays stays' batches ms others (own, later, all, here, rest) = (
  own,
  later,
  all,
  record {
    next = here.next;
    inside = here.inside;
    are = here.are;
    held = here.held;
    behind = here.behind;
    segment = segment-stays sum size s.site device fault s.bytes s.written_len s.sealed s.reserved (record { messages = own; batches = batches }) stays stays' (others (begun_segment s) (in_first (begun_segment s) (map begun_segment ss)) here.segment.records.slot_begins) here.segment;
    above = here.above;
  },
  behind_stays sum size device fault (place + size) ss stays stays' batches later (λ y among. others y (in_rest (begun_segment s) y (map begun_segment ss) among)) rest,
)
