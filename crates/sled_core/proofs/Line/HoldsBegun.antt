-- A further segment begins behind all that were begun, in a slot that has zeros: it holds no message yet, and the log holds what it held.
use Rattle.std.proofs.Common.{◌≡◌, ◌≢◌, ◌⊎◌, ◌∙◌, ◌≤◌, ◌<◌, ◌<ℤ◌, ◌+◌, ◌*◌, ◌/◌, ◌%◌, ◌^◌, ℕ, pos, List, [], ◌∷◌, ◌++◌, length, map, take, Option, None, refl, sym, ap, subst, arith, inl, inr}
use Rattle.std.specs.List.{Contains}
use Rattle.std.specs.declared.io.Error.{Error as IoError}
use Rattle.std.proofs.lemmas.Bool.{cases_order}
use Rattle.std.proofs.lemmas.List.{append-nil, map-append}
use Rattle.std.proofs.lemmas.List.Elements.{All-contains, All-nil, Contains-append_cases}
use Rattle.sled_codec.specs.History.{Batch, History, Message}
use Rattle.sled_codec.specs.Record.{IsHeader}
use Rattle.sled_codec.proofs.Segments.{one_header}
use Rattle.sled_store.specs.Device.{State}
use Rattle.sled_store.proofs.Segments.Elements.{in_cases, in_first, in_nothing, in_rest}
use Rattle.sled_core.specs.declared.iobuf.Reserved.{Reserved}
use Rattle.sled_core.specs.declared.iobuf.Sealed.{Sealed}
use Rattle.sled_core.specs.declared.iobuf.SegmentPosition.{SegmentPosition}
use Rattle.sled_core.specs.Begun.{SegmentParts}
use Rattle.sled_core.specs.Fits.{CloseBelow, held_of}
use Rattle.sled_core.specs.inside.Fits.{HasMark, HoldBehind, HoldsIn, HoldsNext, begun_segment, log_parts}
use Rattle.sled_core.specs.LogFile.{IsLogFile, MessageStands, StandsElsewhere, StaysFrom}
use Rattle.sled_core.specs.inside.LogFile.{StaysBelow}
use Rattle.sled_core.specs.inside.Reached.{BegunSegment, FollowApart}
use Rattle.sled_core.specs.SealedBuffers.{AreZeros}
use Rattle.sled_core.specs.declared.logger.joined_marks.JoinedMarks.{JoinedMarks}
use Rattle.sled_core.proofs.Holds.BatchLemmas.{none_batched}
use Rattle.sled_core.proofs.Line.HeldAround.{behind_below, behind_place, together}
use Rattle.sled_core.proofs.Flush.FlushLemmas.{on_file}
use Rattle.sled_core.proofs.Tail.LogFileLemmas.{stands_some}
use Rattle.sled_core.proofs.Flush.Settled.{rests}
use Rattle.sled_core.proofs.Reached.BufferPath.{buffer_header, mark_same}
use Rattle.sled_core.proofs.Read.PathLemmas.{zeros_empty}
use Rattle.sled_core.proofs.Tail.Multiples.{next_multiple, put_down}
use Rattle.sled_core.proofs.Tail.Multiples as multiples

-- No record stands in a slot that has zeros, nor does one reach into it from another slot.
pub apart_zeros : (sum : List ℕ → ℕ) (size : ℕ) → 0 < size → (log : List ℕ) (slot : ℕ) → slot % size ≡ 0 → AreZeros log slot (slot + size) → (lid number : ℕ) (m : Message) → MessageStands sum size log lid number m → (lid + m.size ≤ slot) ⊎ (slot + size ≤ lid)
apart_zeros sum size some log slot aligned zeros lid number m stands =
    let base : ℕ = lid / size * size in
    let at = put_down size lid in
    let within = stands.stands.in_slot in
    let long = stands_some sum size log lid number m stands in
    elim (cases_order base slot) [
      | inl same ↦ absurd (zeros_empty sum size log lid number (zeros (lid + 4) (omega (arith, at.0, same)) (omega (arith, at.0, same, within, long))) stands.header m.bytes m.size stands.stands)
      | inr (inl lower) ↦ (let far = multiples.apart size some base slot at.1 aligned lower in inl (omega (arith, far, at.0, within)))
      | inr (inr higher) ↦ (let far = multiples.apart size some slot base aligned at.1 higher in inr (omega (arith, far, at.0)))
    ]

-- Segments that follow one another begin at multiples of the size, each below the place where the next one begins.

pub place_aligned : (size place : ℕ) (ss : List SegmentParts) → place % size ≡ 0 → behind_place size place ss % size ≡ 0
place_aligned size place [] aligned = aligned
place_aligned size place (s ∷ ss) aligned = place_aligned size (place + size) ss (next_multiple size place aligned)

pub places_below : (sum : List ℕ → ℕ) (size : ℕ) → 0 < size → (device : State) (fault : Option IoError) (place : ℕ) (ss : List SegmentParts) (stays : Message → Type 0) (batches : List Batch) (ms : List Message) → HoldBehind sum size device fault place ss stays batches ms
    → (y : BegunSegment) → Contains (map begun_segment ss) y → y.site.place < behind_place size place ss
places_below sum size some device fault place [] stays batches ms holds y among = absurd (in_nothing y among)
places_below sum size some device fault place (s ∷ ss) stays batches ms (own, later, all, here, rest) y among = elim (in_cases (begun_segment s) y (map begun_segment ss) among) [
  | inl same ↦ (
      let far = (behind_below sum size device fault (place + size) ss stays batches later rest).0 in
      let next = here.next in
      let at = ap (λ (w : BegunSegment). w.site.place) same in
      omega (arith, far, next, at, some))
  | inr behind ↦ places_below sum size some device fault (place + size) ss stays batches later rest y behind
]

-- One more follows, which lies behind all of them, in another slot.
pub follow_one : (site : SegmentPosition) (others : List BegunSegment) (z : BegunSegment) → FollowApart site others → site.place < z.site.place → z.site.slot ≢ site.slot
    → ((y : BegunSegment) → Contains others y → (y.site.place < z.site.place) × (z.site.slot ≢ y.site.slot)) → FollowApart site (others ++ z ∷ [])
follow_one site [] z apart low other all = (
  λ y among. elim (in_cases z y [] among) [
    | inl same ↦ subst (λ (w : BegunSegment). (site.place < w.site.place) × (w.site.slot ≢ site.slot)) same (low, other)
    | inr never ↦ absurd (in_nothing y never)
  ],
  tt,
)
follow_one site (x ∷ xs) z apart low other all = (
  λ y among. elim (Contains-append_cases (x ∷ xs) (z ∷ []) y among) [
    | inl had ↦ apart.0 y had
    | inr added ↦ elim (in_cases z y [] added) [
      | inl same ↦ subst (λ (w : BegunSegment). (site.place < w.site.place) × (w.site.slot ≢ site.slot)) same (low, other)
      | inr never ↦ absurd (in_nothing y never)
    ]
  ],
  (let first = all x (in_first x xs) in follow_one x.site xs z apart.1 first.0 first.1 (λ y among. all y (in_rest x y xs among))),
)

-- a segment that begins there with these bytes, nothing of which is written, sealed or reserved
abbrev pub begun_with : SegmentPosition → List ℕ → SegmentParts
begun_with site bytes = record { site = site; bytes = bytes; written_len = 0; filled = None; sealed = []; reserved = [] }

module _ (sum : List ℕ → ℕ) (size : ℕ) (site : SegmentPosition) (device : State) (fault : Option IoError) (bytes : List ℕ) (from : ℕ) (bs : List Sealed) (rs : List Reserved) (H : History)
    (behind : List SegmentParts) {marks : JoinedMarks} (holds : HoldsIn sum marks (log_parts size site device fault bytes from bs rs) behind H) (big : 256 ≤ size) (short : length bytes ≤ size)
    (next : SegmentPosition) (text : List ℕ) (at : next.place ≡ behind_place size (site.place + size) behind) (aligned : next.slot % size ≡ 0) (header_long : length text ≡ 20) (mark : HasMark sum next text H)
    (other : next.slot ≢ site.slot) (others : (y : BegunSegment) → Contains (map begun_segment behind) y → next.slot ≢ y.site.slot) (zeros : fault ≡ None → AreZeros device.log.bytes next.slot (next.slot + size)) (closed : CloseBelow next.place H.batches) where
  abbrev stable : ℕ
  stable = held_of holds.begun

  abbrev stays : Message → Type 0
  stays = StaysBelow H stable site.place

  abbrev first : History
  first = record { messages = holds.head; batches = H.batches }

  abbrev none : History
  none = record { messages = []; batches = H.batches }

  pub far : site.place + size ≤ next.place
  far = let up = (behind_below sum size device fault (site.place + size) behind stays H.batches holds.later holds.others).0 in omega (arith, up, at)

  -- It lies behind all that were begun, and apart from them.
  pub next_above : (y : BegunSegment) → Contains (map begun_segment behind) y → y.site.place < next.place
  next_above y among = let low = places_below sum size (omega (arith, big)) device fault (site.place + size) behind stays H.batches holds.later holds.others y among in omega (arith, low, at)

  pub next_apart : FollowApart site (map begun_segment behind ++ begun_segment (begun_with next text) ∷ [])
  next_apart = let up = far in follow_one site (map begun_segment behind) (begun_segment (begun_with next text)) holds.apart (omega (arith, up, big)) other (λ y among. (next_above y among, others y among))

  file : fault ≡ None → IsLogFile sum size device.log.bytes site from holds.own.records.earlier (StaysFrom H stable)
  file whole = on_file sum size device.log site from holds.own.records.earlier (StaysFrom H stable) (holds.own.written whole)

  -- It holds nothing.
  pub next_holds : HoldsNext sum size device fault (behind_place size (site.place + size) behind) (begun_with next text) stays H.batches []
  next_holds = record {
    next = at;
    inside = omega (arith, header_long, big);
    are = tt;
    held = omega arith;
    behind = omega arith;
    segment = record {
      records = record {
        earlier = [];
        messages = refl;
        below = All-nil (λ (m : Message). (m.place < next.place + 0) × (m.place + m.size ≤ next.place + 0));
        apart = tt;
        batched = none_batched size next 0 H.batches (subst (λ n. CloseBelow n H.batches) (let same : next.place ≡ next.place + 0 = omega arith in same) closed);
        no_end = λ b there. inl (let all = All-contains (λ (x : Batch). (x.low < next.place) × (x.peg < next.place)) H.batches b closed there in omega (arith, all.1));
        place_begins = subst (λ n. n % size ≡ 0) (sym at) (place_aligned size (site.place + size) behind (next_multiple size site.place holds.own.records.place_begins));
        slot_begins = aligned;
        header = λ _. record { mark = mark.mark; is = mark.is; of_history = mark_same H none (record { place = next.place; slot = next.slot; mark = mark.mark }) refl mark.of_history };
        chain = sym header_long;
        stand = All-nil _;
      };
      written = λ whole. record {
        log = device.log.bytes;
        settled = (let on = holds.own.written whole in rests device.log on.log on.settled);
        file = record {
          own = λ m among up lid inline. absurd (in_nothing m among);
          elsewhere = λ m its low lid inline. (
              let stands : StandsElsewhere sum size device.log.bytes site lid m = (file whole).elsewhere m its.0 its.1 lid inline in
              record { begins = stands.begins; stands = stands.stands; apart = apart_zeros sum size (omega (arith, big)) device.log.bytes next.slot aligned (zeros whole) lid (m.place / size) m stands.stands });
          begun = λ some. absurd (omega (arith, some));
          header = λ some. absurd (omega (arith, some));
        };
      };
      laid = λ whole i above below. zeros whole i (omega (arith, above)) below;
    };
    above = All-nil (λ (m : Message). behind_place size (site.place + size) behind + 20 ≤ m.place);
  }

  -- The log holds what it held, begun from the same snapshot, where the mark of the new segment lies below what is written.
  abbrev pub behind-begins : mark.mark <ℤ pos (site.place + from) → next.place < 2 ^ 63 → HoldsIn sum marks (log_parts size site device fault bytes from bs rs) (behind ++ begun_with next text ∷ []) H
  behind-begins low_mark place_small = record {
    begun = holds.begun;
    head = holds.head;
    later = holds.later ++ ([] ++ []);
    messages = holds.messages ∙ ap (λ (l : List Message). holds.head ++ l) (sym (append-nil holds.later));
    own = holds.own;
    others = together sum size device fault (site.place + size) behind (begun_with next text) [] stays H.batches holds.later [] [] holds.others next_holds refl;
    apart = subst (FollowApart site) (sym (map-append begun_segment behind (begun_with next text ∷ []))) next_apart;
    marked = λ x among unwritten m header. elim (Contains-append_cases behind (begun_with next text ∷ []) x among) [
      | inl had ↦ holds.marked x had unwritten m header
      | inr added ↦ elim (in_cases (begun_with next text) x [] added) [
        | inl same ↦ (
            let here : IsHeader sum (take 20 text) (pos next.place) m = subst (λ (w : SegmentParts). IsHeader sum (take 20 w.bytes) (pos w.site.place) m) (sym same) header in
            let one = one_header sum (take 20 text) (pos next.place) mark.mark (pos next.place) m (buffer_header sum next text H mark place_small) here in
            subst (λ z. z <ℤ pos (site.place + from)) one.1 low_mark)
        | inr never ↦ absurd (in_nothing x never)
      ]
    ];
  }
