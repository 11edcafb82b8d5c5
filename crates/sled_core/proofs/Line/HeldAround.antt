-- What the segments behind the first one hold around one of them: those before it, it and those behind it.
use Rattle.std.proofs.Common.{◌≡◌, ◌≢◌, ◌∙◌, ◌≤◌, ◌<◌, ◌<ℤ◌, ◌+◌, ◌*◌, ℕ, ℤ, pos, List, [], ◌∷◌, ◌++◌, length, map, take, Option, refl, sym, ap, subst, arith, append_assoc, inl, inr}
use Rattle.std.proofs.Math.Nat.{suc-mul}
use Rattle.std.specs.List.{All, Contains}
use Rattle.std.specs.declared.io.Error.{Error as IoError}
use Rattle.std.proofs.lemmas.List.{map-append}
use Rattle.std.proofs.lemmas.List.Elements.{All-append, Contains-append_cases, Contains-append_left, Contains-append_right}
use Rattle.sled_codec.specs.History.{Message, Batch, History}
use Rattle.sled_codec.specs.Record.{IsHeader}
use Rattle.sled_store.specs.Device.{State}
use Rattle.sled_store.proofs.Segments.Elements.{in_cases, in_first, in_nothing, in_rest}
use Rattle.sled_core.specs.declared.iobuf.Reserved.{Reserved}
use Rattle.sled_core.specs.declared.iobuf.Sealed.{Sealed}
use Rattle.sled_core.specs.declared.iobuf.SegmentPosition.{SegmentPosition}
use Rattle.sled_core.specs.Begun.{SegmentParts}
use Rattle.sled_core.specs.Fits.{held_of}
use Rattle.sled_core.specs.inside.Fits.{HoldBehind, HoldsIn, HoldsNext, HoldsSegment, begun_segment, log_parts}
use Rattle.sled_core.specs.inside.LogFile.{StaysBelow}
use Rattle.sled_core.specs.inside.Reached.{BegunSegment, FollowApart}
use Rattle.sled_core.specs.inside.SealedBuffers.{AreSealed}
use Rattle.sled_core.specs.SealedBuffers.{sealed_end}
use Rattle.sled_core.specs.declared.logger.joined_marks.JoinedMarks.{JoinedMarks}
use Rattle.sled_core.proofs.Flush.Completed.{all_below}
use Rattle.sled_core.proofs.Reached.SegmentsBeside.{follow_still, follows}

-- Segments of which nothing is written have such marks in their headers, if any.
abbrev pub MarksBelow : (List ℕ → ℕ) → ℕ → List SegmentParts → Type 0
MarksBelow sum end behind = (x : SegmentParts) → Contains behind x → x.written_len ≡ 0 → (mark : ℤ) → IsHeader sum (take 20 x.bytes) (pos x.site.place) mark → mark <ℤ pos end

-- The segments lie as they did where one of them has its place and as much of it is written.
pub begun_same : (pre : List SegmentParts) (s s' : SegmentParts) (post : List SegmentParts) → s'.site ≡ s.site → s'.written_len ≡ s.written_len → s'.filled ≡ s.filled → map begun_segment (pre ++ s' ∷ post) ≡ map begun_segment (pre ++ s ∷ post)
begun_same pre s s' post site so_far filling =
    let one : begun_segment s' ≡ begun_segment s = cc in
    map-append begun_segment pre (s' ∷ post) ∙ ap (λ (y : BegunSegment). map begun_segment pre ++ y ∷ map begun_segment post) one ∙ sym (map-append begun_segment pre (s ∷ post))

-- Their marks lie below the same place, where so it was with that one too if nothing of it is written now, and its header is the same.
pub marks_same : (sum : List ℕ → ℕ) (end : ℕ) (pre : List SegmentParts) (s s' : SegmentParts) (post : List SegmentParts) → s'.site ≡ s.site → (s'.written_len ≡ 0 → (s.written_len ≡ 0) × (take 20 s'.bytes ≡ take 20 s.bytes))
    → MarksBelow sum end (pre ++ s ∷ post) → MarksBelow sum end (pre ++ s' ∷ post)
marks_same sum end pre s s' post site head marked x among none mark header = elim (Contains-append_cases pre (s' ∷ post) x among) [
  | inl before ↦ marked x (Contains-append_left pre (s ∷ post) x before) none mark header
  | inr from_here ↦ elim (in_cases s' x post from_here) [
    | inl same ↦ (
        let was = head (ap (λ (w : SegmentParts). w.written_len) same ∙ none) in
        let is : IsHeader sum (take 20 s'.bytes) (pos s'.site.place) mark = subst (λ (w : SegmentParts). IsHeader sum (take 20 w.bytes) (pos w.site.place) mark) (sym same) header in
        marked s (Contains-append_right pre (s ∷ post) s (in_first s post)) was.0 mark (subst (λ (l : List ℕ). IsHeader sum l (pos s.site.place) mark) was.1 (subst (λ (p : SegmentPosition). IsHeader sum (take 20 s'.bytes) (pos p.place) mark) site is)))
    | inr behind ↦ marked x (Contains-append_right pre (s ∷ post) x (in_rest s x post behind)) none mark header
  ]
]

-- where the next segment begins behind these, the first of which begins at a place
abbrev pub behind_place : ℕ → ℕ → List SegmentParts → ℕ
behind_place size place [] = place
behind_place size place (s ∷ ss) = behind_place size (place + size) ss

-- that is so many sizes further
pub behind_place_is : (size place : ℕ) (ss : List SegmentParts) → behind_place size place ss ≡ place + length ss * size
behind_place_is size place [] = omega arith
behind_place_is size place (s ∷ ss) = behind_place_is size (place + size) ss ∙ omega (arith, suc-mul (length ss) size)

-- What segments hold around one of them: these are the messages before it, its own and those behind it.
pub record HoldAround (sum : List ℕ → ℕ) (size : ℕ) (device : State) (fault : Option IoError) (place : ℕ) (pre : List SegmentParts) (s : SegmentParts) (post : List SegmentParts) (stays : Message → Type 0) (batches : List Batch) (ms : List Message) : Type 0 where
  pub before : List Message
  pub own : List Message
  pub after : List Message
  pub messages : ms ≡ before ++ (own ++ after)
  pub front : HoldBehind sum size device fault place pre stays batches before
  pub here : HoldsNext sum size device fault (behind_place size place pre) s stays batches own
  pub rest : HoldBehind sum size device fault (behind_place size place pre + size) post stays batches after

-- What they hold is parted so,
pub around : (sum : List ℕ → ℕ) (size : ℕ) (device : State) (fault : Option IoError) (place : ℕ) (pre : List SegmentParts) (s : SegmentParts) (post : List SegmentParts) (stays : Message → Type 0) (batches : List Batch) (ms : List Message)
    → HoldBehind sum size device fault place (pre ++ s ∷ post) stays batches ms → HoldAround sum size device fault place pre s post stays batches ms
around sum size device fault place [] s post stays batches ms (own, later, all, here, rest) = record { before = []; own = own; after = later; messages = all; front = refl; here = here; rest = rest }
around sum size device fault place (x ∷ xs) s post stays batches ms (own, later, all, here, rest) =
    let r : HoldAround sum size device fault (place + size) xs s post stays batches later = around sum size device fault (place + size) xs s post stays batches later rest in
    record {
      before = own ++ r.before;
      own = r.own;
      after = r.after;
      messages = all ∙ ap (λ (l : List Message). own ++ l) r.messages ∙ sym (append_assoc own r.before (r.own ++ r.after));
      front = (own, r.before, refl, here, r.front);
      here = r.here;
      rest = r.rest;
    }

-- and the parts hold it together.
pub together : (sum : List ℕ → ℕ) (size : ℕ) (device : State) (fault : Option IoError) (place : ℕ) (pre : List SegmentParts) (s : SegmentParts) (post : List SegmentParts) (stays : Message → Type 0) (batches : List Batch) (before own after : List Message)
    → HoldBehind sum size device fault place pre stays batches before → HoldsNext sum size device fault (behind_place size place pre) s stays batches own → HoldBehind sum size device fault (behind_place size place pre + size) post stays batches after
    → HoldBehind sum size device fault place (pre ++ s ∷ post) stays batches (before ++ (own ++ after))
together sum size device fault place [] s post stays batches before own after front here rest =
    subst (λ (l : List Message). HoldBehind sum size device fault place (s ∷ post) stays batches (l ++ (own ++ after))) (sym front) (own, after, refl, here, rest)
together sum size device fault place (x ∷ xs) s post stays batches before own after (mine, later, all, first, front) here rest = (
  mine,
  later ++ (own ++ after),
  ap (λ (l : List Message). l ++ (own ++ after)) all ∙ append_assoc mine later (own ++ after),
  first,
  together sum size device fault (place + size) xs s post stays batches later own after front here rest,
)

-- The messages of segments lie below the place where the next one begins.
pub behind_below : (sum : List ℕ → ℕ) (size : ℕ) (device : State) (fault : Option IoError) (place : ℕ) (ss : List SegmentParts) (stays : Message → Type 0) (batches : List Batch) (ms : List Message)
    → HoldBehind sum size device fault place ss stays batches ms → (place ≤ behind_place size place ss) × All (λ m. m.place < behind_place size place ss) ms
behind_below sum size device fault place [] stays batches ms is = (omega arith, λ k d lt. absurd (omega (arith, ap length is, lt)))
behind_below sum size device fault place (s ∷ ss) stays batches ms (own, later, all, here, rest) =
    let far = behind_below sum size device fault (place + size) ss stays batches later rest in
    let end = behind_place size (place + size) ss in
    let up = far.0 in
    let next = here.next in
    let inside = here.inside in
    let below = all_below sum size s.site device fault s.bytes s.written_len s.sealed s.reserved (record { messages = own; batches = batches }) here.segment in
    (omega (arith, up), subst (All (λ (m : Message). m.place < end)) (sym all) (All-append (λ (m : Message). m.place < end) own later (λ k d lt. let b = below k d lt in omega (arith, b.0, next, inside, up)) far.1))

-- Segments that follow lie in slots apart from that of one of them: the ones before it, and the ones behind it.

pub apart_before : (site : SegmentPosition) (pre : List BegunSegment) (y : BegunSegment) (post : List BegunSegment) → FollowApart site (pre ++ y ∷ post) → (x : BegunSegment) → Contains pre x → x.site.slot ≢ y.site.slot
apart_before site [] y post apart x among = absurd (in_nothing x among)
apart_before site (z ∷ zs) y post apart x among = elim (in_cases z x zs among) [
  | inl same ↦ (let f = follows z.site (zs ++ y ∷ post) apart.1 y (Contains-append_right zs (y ∷ post) y (in_first y post)) in λ at. f.1 (sym at ∙ ap (λ (w : BegunSegment). w.site.slot) (sym same)))
  | inr later ↦ apart_before z.site zs y post apart.1 x later
]

pub apart_behind : (site : SegmentPosition) (pre : List BegunSegment) (y : BegunSegment) (post : List BegunSegment) → FollowApart site (pre ++ y ∷ post) → (x : BegunSegment) → Contains post x → x.site.slot ≢ y.site.slot
apart_behind site [] y post apart x among = (follows y.site post apart.1 x among).1
apart_behind site (z ∷ zs) y post apart x among = apart_behind z.site zs y post apart.1 x among

-- the segment with these bytes, so many of them written, and with these buffers and reservations
abbrev pub now_with : SegmentParts → List ℕ → ℕ → List Sealed → List Reserved → SegmentParts
now_with s bytes from bs rs = record { site = s.site; bytes = bytes; written_len = from; filled = s.filled; sealed = bs; reserved = rs }

-- What a segment holds it holds with other bytes and buffers, where these keep to it.
abbrev pub next_with : (sum : List ℕ → ℕ) (size : ℕ) (device : State) (fault : Option IoError) (place : ℕ) (s : SegmentParts) (stays : Message → Type 0) (batches : List Batch) (own : List Message) → HoldsNext sum size device fault place s stays batches own
    → (new : State) (now : Option IoError) (bytes : List ℕ) (from : ℕ) (bs : List Sealed) (rs : List Reserved) → length bytes ≤ size → AreSealed from rs bs → sealed_end from bs ≤ length bytes → from ≤ length bytes
    → HoldsSegment sum (log_parts size s.site new now bytes from bs rs) stays (record { messages = own; batches = batches }) → HoldsNext sum size new now place (now_with s bytes from bs rs) stays batches own
next_with sum size device fault place s stays batches own holds new now bytes from bs rs inside are held behind segment = record {
  next = holds.next;
  inside = inside;
  are = are;
  held = held;
  behind = behind;
  segment = segment;
  above = holds.above;
}

module _ (pre : List SegmentParts) (s : SegmentParts) (post : List SegmentParts) where
  -- that one among the segments that were begun
  abbrev begun_around : List BegunSegment
  begun_around = map begun_segment pre ++ begun_segment s ∷ map begun_segment post

  pub begun_is : map begun_segment (pre ++ s ∷ post) ≡ begun_around
  begun_is = map-append begun_segment pre (s ∷ post)

  pub apart_around : (site : SegmentPosition) → FollowApart site (map begun_segment (pre ++ s ∷ post)) → FollowApart site begun_around
  apart_around site apart = subst (FollowApart site) begun_is apart

  -- They lie as they did, whatever that one has now.
  pub apart_with : (site : SegmentPosition) (bytes : List ℕ) (from : ℕ) (bs : List Sealed) (rs : List Reserved) → FollowApart site (map begun_segment (pre ++ s ∷ post)) → FollowApart site (map begun_segment (pre ++ now_with s bytes from bs rs ∷ post))
  apart_with site bytes from bs rs apart =
      subst (FollowApart site) (sym (map-append begun_segment pre (now_with s bytes from bs rs ∷ post)))
      (follow_still site (map begun_segment pre) (begun_segment s) (map begun_segment post) from s.filled (apart_around site apart))

module _ (sum : List ℕ → ℕ) (size : ℕ) (site : SegmentPosition) (device : State) (fault : Option IoError) (bytes : List ℕ) (from : ℕ) (bs : List Sealed) (rs : List Reserved) (H : History)
    (pre : List SegmentParts) (s : SegmentParts) (post : List SegmentParts) {marks : JoinedMarks} (holds : HoldsIn sum marks (log_parts size site device fault bytes from bs rs) (pre ++ s ∷ post) H) where
  -- what stays of the segments before the first one
  abbrev pub stays_below : Message → Type 0
  stays_below = StaysBelow H (held_of holds.begun) site.place

  -- what is held behind the first one, around this one
  pub held_around : HoldAround sum size device fault (site.place + size) pre s post stays_below H.batches holds.later
  held_around = around sum size device fault (site.place + size) pre s post stays_below H.batches holds.later holds.others

  -- what that one holds
  pub held_here : HoldsNext sum size device fault (behind_place size (site.place + size) pre) s stays_below H.batches held_around.own
  held_here = held_around.here
