-- A batch is noted whose manifest ends in the first segment of a log: the log holds the history with it, and the segments behind hold what they held.
use Rattle.std.proofs.Common.{◌≡◌, ◌⊎◌, ◌≤◌, ◌<◌, ◌+◌, ◌^◌, ℕ, true, List, [], ◌∷◌, ◌++◌, length, set, Option, Some, refl, subst, arith, inl, inr}
use Rattle.std.specs.List.{All, Contains, slice_get}
use Rattle.std.specs.declared.io.Error.{Error as IoError}
use Rattle.std.proofs.lemmas.List.Elements.{All-contains, All-tail}
use Rattle.sled_codec.specs.Written.{written}
use Rattle.sled_codec.specs.History.{AddsBatch, Batch, History, Message}
use Rattle.sled_codec.specs.Snapshots.{stable_place}
use Rattle.sled_store.specs.Device.{State}
use Rattle.sled_store.proofs.Segments.Elements.{in_cases, in_first, in_nothing, in_rest, only_in}
use Rattle.sled_core.specs.declared.iobuf.ReservationState.TheVariants.{Manifest, Open}
use Rattle.sled_core.specs.declared.iobuf.Reserved.{Reserved}
use Rattle.sled_core.specs.declared.iobuf.Sealed.{Sealed}
use Rattle.sled_core.specs.declared.iobuf.SegmentPosition.{SegmentPosition}
use Rattle.sled_core.specs.Begun.{SegmentParts}
use Rattle.sled_core.specs.Fits.{held_of}
use Rattle.sled_core.specs.inside.Buffers.{ended, marking}
use Rattle.sled_core.specs.inside.Fits.{HoldBehind, HoldsIn, HoldsNext, HoldsSegment, log_parts}
use Rattle.sled_core.specs.inside.LogFile.{StaysBelow}
use Rattle.sled_core.specs.LogFile.{StaysFrom}
use Rattle.sled_core.specs.Manifests.{is_manifest}
use Rattle.sled_core.specs.declared.logger.joined_marks.JoinedMarks.{JoinedMarks}
use Rattle.sled_core.specs.inside.SealedBuffers.{AreSealed, one_ended}
use Rattle.sled_core.proofs.Line.HeldAround.{MarksBelow}
use Rattle.sled_core.proofs.Holds.BegunMarks.{begun-marks, stays-marks, stays_below-marks}
use Rattle.sled_core.proofs.Holds.BehindKept.{behind_fewer}
use Rattle.sled_core.proofs.Holds.CompletedLemmas.{segment-fewer}
use Rattle.sled_core.proofs.Holds.MarkedSegments.{marks_alone, marks_behind, marks_long, marks_within, segment-marked, segment-with}
use Rattle.sled_core.proofs.Holds.PegLemmas.{IsOff, LiesOff}
use Rattle.sled_core.proofs.Reached.BufferPath.{buffer_header}
use Rattle.sled_core.proofs.Reached.Marks.{less_than}

-- the history with the batch
abbrev pub noted_history : History → Batch → History
noted_history H b = record { messages = H.messages; batches = H.batches ++ b ∷ [] }

-- the batch is noted there, where its peg lies above its own place
pub noted_adds : (H : History) (b : Batch) → b.low < b.peg → AddsBatch H b (noted_history H b)
noted_adds H b later = record { pegged = later; messages = refl; batches = refl }

-- a segment begins below the greatest place
abbrev pub InReach : SegmentParts → Type 0
InReach s = s.site.place < 2 ^ 63

-- a batch doesn't begin in the part of a segment that isn't written
abbrev pub BeginsOff : ℕ → Batch → SegmentParts → Type 0
BeginsOff size b s = (b.low < s.site.place + s.written_len) ⊎ (s.site.place + size ≤ b.low)

-- A segment in whose part that isn't written the batch doesn't begin holds with it what it held.
pub next-with : (sum : List ℕ → ℕ) (size : ℕ) (device : State) (fault : Option IoError) (place : ℕ) (s : SegmentParts) (stays : Message → Type 0) (batches : List Batch) (own : List Message) (b : Batch)
    → BeginsOff size b s → LiesOff size s.site s.reserved s.bytes b.peg → InReach s → MarksBelow sum b.low (s ∷ [])
    → HoldsNext sum size device fault place s stays batches own → HoldsNext sum size device fault place s stays (batches ++ b ∷ []) own
next-with sum size device fault place s stays batches own b apart off small marked here = record {
  next = here.next;
  inside = here.inside;
  are = here.are;
  held = here.held;
  behind = here.behind;
  segment = segment-with sum size s.site device fault s.bytes s.written_len s.sealed s.reserved own batches b apart off here.segment
      (λ none. let m = here.segment.records.header none in marked s (in_first s []) none m.mark (buffer_header sum s.site s.bytes (record { messages = own; batches = batches }) m small));
  above = here.above;
}

-- So do segments one behind another.
pub behind-with : (sum : List ℕ → ℕ) (size : ℕ) (device : State) (fault : Option IoError) (place : ℕ) (ss : List SegmentParts) (stays : Message → Type 0) (batches : List Batch) (ms : List Message) (b : Batch)
    → ((s : SegmentParts) → Contains ss s → BeginsOff size b s) → ((s : SegmentParts) → Contains ss s → LiesOff size s.site s.reserved s.bytes b.peg) → All InReach ss → MarksBelow sum b.low ss
    → HoldBehind sum size device fault place ss stays batches ms → HoldBehind sum size device fault place ss stays (batches ++ b ∷ []) ms
behind-with sum size device fault place [] stays batches ms b apart off small marked holds = holds
behind-with sum size device fault place (s ∷ ss) stays batches ms b apart off small marked (own, later, all, here, rest) = (
  own,
  later,
  all,
  next-with sum size device fault place s stays batches own b (apart s (in_first s ss)) (off s (in_first s ss)) (small 0 s (omega arith)) (λ x among. marked x (first_among x among)) here,
  behind-with sum size device fault (place + size) ss stays batches later b (λ x among. apart x (in_rest s x ss among)) (λ x among. off x (in_rest s x ss among)) (All-tail InReach s ss small) (λ x among. marked x (in_rest s x ss among)) rest,
) where
  first_among : (x : SegmentParts) → Contains (s ∷ []) x → Contains (s ∷ ss) x
  first_among x among = subst (Contains (s ∷ ss)) (only_in s x among) (in_first s ss)

-- Segments that begin one behind another from a place on begin at or behind it.
pub begin_from : (sum : List ℕ → ℕ) (size : ℕ) (device : State) (fault : Option IoError) (place : ℕ) (ss : List SegmentParts) (stays : Message → Type 0) (batches : List Batch) (ms : List Message)
    → HoldBehind sum size device fault place ss stays batches ms → (s : SegmentParts) → Contains ss s → place ≤ s.site.place
begin_from sum size device fault place [] stays batches ms holds s among = absurd (in_nothing s among)
begin_from sum size device fault place (y ∷ ys) stays batches ms (own, later, all, here, rest) s among = elim (in_cases y s ys among) [
  | inl same ↦ subst (λ (z : SegmentParts). place ≤ z.site.place) same (let next = here.next in omega (arith, next))
  | inr behind ↦ (let far = begin_from sum size device fault (place + size) ys stays batches later rest s behind in omega (arith, far))
]

-- Marks that lie below a place lie below a higher one.
pub marks_higher : (sum : List ℕ → ℕ) (low high : ℕ) (ss : List SegmentParts) → low ≤ high → MarksBelow sum low ss → MarksBelow sum high ss
marks_higher sum low high ss up marked s among none mark header = less_than mark low high up (marked s among none mark header)

module _ (sum : List ℕ → ℕ) (size : ℕ) (site : SegmentPosition) (device : State) (fault : Option IoError) (bytes : List ℕ) (from : ℕ) (bs : List Sealed) (rs : List Reserved) (H : History)
    {behind : List SegmentParts} {marks : JoinedMarks} (holds : HoldsIn sum marks (log_parts size site device fault bytes from bs rs) behind H) (short : length bytes ≤ size) (small_places : All InReach behind)
    (i : ℕ) (r : Reserved) (there : slice_get rs i ≡ Some r) (is_open : r.state ≡ Open) (manifest : is_manifest r.log_kind r.page ≡ true) (are : AreSealed from rs bs)
    (peg : ℕ) (small : peg < 2 ^ 63) (later : site.place + r.from < peg) (off : LiesOff size site rs bytes peg) (offs : All (IsOff size peg) behind) where
  -- the batch
  abbrev b : Batch
  b = record { low = site.place + r.from; peg = peg }

  abbrev stable : ℕ
  stable = held_of holds.begun

  -- It begins behind what is written of its segment, and in front of the next one.
  pub first_above : site.place + from ≤ b.low
  first_above = marks_behind sum size site device fault bytes from bs rs holds.head H.batches holds.own i r there is_open manifest are peg small off

  pub first_inside : b.low < site.place + size
  first_inside = let low = marks_within sum size site device fault bytes from bs rs holds.head H.batches holds.own i r there is_open manifest are peg small off in omega (arith, low, short)

  -- No other one begins there, and the segment has as many bytes.
  pub first_alone : (c : Batch) → Contains H.batches c → c.low ≡ b.low → ⊥
  first_alone c among same = marks_alone sum size site device fault bytes from bs rs holds.head H.batches holds.own i r there is_open manifest are peg small off short c among same

  pub first_long : length (written bytes r.from (marking sum bytes r peg)) ≡ length bytes
  first_long = marks_long sum size site device fault bytes from bs rs holds.head H.batches holds.own i r there is_open manifest are peg small off

  abbrev now : History
  now = noted_history H b

  adds : AddsBatch H b now
  adds = noted_adds H b later

  past : stable_place holds.begun.first.stable ≤ b.low
  past = let reached = holds.begun.reached in let above = first_above in omega (arith, above, reached)

  own_marked : HoldsSegment sum (log_parts size site device fault (written bytes r.from (marking sum bytes r peg)) from (one_ended i bs) (set rs i (ended Manifest r))) (StaysFrom now stable) (record { messages = holds.head; batches = now.batches })
  own_marked =
      segment-fewer sum size site device fault (written bytes r.from (marking sum bytes r peg)) from (one_ended i bs) (set rs i (ended Manifest r)) (record { messages = holds.head; batches = now.batches }) (StaysFrom H stable) (StaysFrom now stable)
      (λ x under its. stays-marks H now b adds stable x its)
      (segment-marked sum size site device fault bytes from bs rs holds.head H.batches holds.own i r there is_open manifest are peg small off)

  others_marked : HoldBehind sum size device fault (site.place + size) behind (StaysBelow now stable site.place) now.batches holds.later
  others_marked =
      behind_fewer sum size device fault (site.place + size) behind (StaysBelow H stable site.place) (StaysBelow now stable site.place) now.batches holds.later (λ x its. stays_below-marks H now b adds stable site.place x its)
      (behind-with sum size device fault (site.place + size) behind (StaysBelow H stable site.place) H.batches holds.later b
      (λ s among. let far = begin_from sum size device fault (site.place + size) behind (StaysBelow H stable site.place) H.batches holds.later holds.others s among in let inside = first_inside in inl (omega (arith, far, inside)))
      (λ s among. (All-contains (IsOff size peg) behind s offs among).off) small_places (marks_higher sum (site.place + from) b.low behind first_above holds.marked) holds.others)

  -- The log holds the history with the batch, begun from the same snapshot.
  pub holds-marked : HoldsIn sum marks (log_parts size site device fault (written bytes r.from (marking sum bytes r peg)) from (one_ended i bs) (set rs i (ended Manifest r))) behind (noted_history H (record { low = site.place + r.from; peg = peg }))
  holds-marked = record {
    begun = begun-marks H now b adds sum size device.snapshots.file site from holds.begun past;
    head = holds.head;
    later = holds.later;
    messages = holds.messages;
    own = own_marked;
    others = others_marked;
    apart = holds.apart;
    marked = holds.marked;
  }
