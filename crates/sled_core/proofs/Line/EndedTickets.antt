-- Tickets by the segments of a log: which segment a ticket is of, which tickets stay for what they were for once one has ended, and which are open then.
use Rattle.std.proofs.lemmas.Bool.{cases_eq}
use Rattle.std.proofs.Common.{false, ◌≡◌, ◌≢◌, ◌∙◌, ◌≤◌, ◌<◌, ◌+◌, ◌-◌, ◌*◌, ◌/◌, ◌^◌, ap, sym, arith, subst, to_z, of_z, w64, ℕ, ℤ, pos, List, ◌∷◌, length, set, Option, Some, inl, inr}
use lib.Signed.{mag}
use Rattle.std.specs.Prelude.{unsigned_abs}
use Rattle.std.specs.declared.io.Error.{Error as IoError}
use Rattle.std.specs.List.{slice_get}
use Rattle.std.proofs.lemmas.Int.{to_z-of_z}
use Rattle.std.proofs.lemmas.Nat.{div-mul-add}
use Rattle.sled_codec.specs.History.{History, Message}
use Rattle.sled_store.specs.Device.{State}
use Rattle.sled_core.proofs.Line.FillingsAlong.{fillings_ended, set_fillings}
use Rattle.sled_core.specs.Buffers.{padding_state}
use Rattle.sled_core.specs.Fillings.{fillings_along}
use Rattle.sled_core.proofs.Line.Heads.{heads_ended, set_heads}
use Rattle.sled_core.proofs.Line.Among.{among_same}
use Rattle.sled_core.specs.Heads.{heads_along, heads_in}
use Rattle.sled_core.specs.declared.iobuf.ReservationState.{ReservationState}
use Rattle.sled_core.specs.declared.iobuf.ReservationState.TheVariants.{Canceled, Open}
use Rattle.sled_core.specs.declared.iobuf.Reserved.{Reserved}
use Rattle.sled_core.specs.declared.logger.Log.{Log}
use Rattle.sled_core.specs.declared.reservation.Reservation.{Reservation}
use Rattle.sled_core.specs.Begun.{SegmentView}
use Rattle.sled_core.specs.inside.Buffers.{ended}
use Rattle.sled_core.specs.Buffers.{message_in, open_state}
use Rattle.sled_core.specs.Fits.{Awaits, AwaitsIn, line_of}
use Rattle.sled_core.specs.Among.{AreAmong}
use Rattle.sled_core.specs.GivenUp.{canceled_state, given_up_along}
use Rattle.sled_core.specs.inside.Fits.{HoldsLine}
use Rattle.sled_core.specs.OpenPlaces.{TakesOut, open_places_along}
use Rattle.sled_core.specs.Tickets.{IsFor, index_of, place_of}
use Rattle.sled_core.specs.declared.logger.joined_marks.JoinedMarks.{JoinedMarks}
use Rattle.sled_core.specs.inside.Turned.{ended_now}
use Rattle.sled_core.proofs.Holds.CompletedLemmas.{others_stay}
use Rattle.sled_core.proofs.Line.Ends.{with_segment}
use Rattle.sled_core.proofs.Line.EntryPlaces.{entry_low}
use Rattle.sled_core.proofs.Holds.Facts.{IsSegment, nth_facts}
use Rattle.sled_core.proofs.Holds.Nth.{set_get, set_other}
use Rattle.sled_core.proofs.Line.GivenUp.{canceled_given, ended_given, set_given, set_given_more}
use Rattle.sled_core.proofs.Line.OpenPlaces.{takes_ended, takes_in}

-- The place of an entry says which segment it is of.
pub number_is : {size : ℕ} (base n : ℕ) (v : SegmentView) (i : ℕ) (r : Reserved) → IsSegment size (base + n * size) v → slice_get v.parts.reserved i ≡ Some r → (v.parts.site.place + r.from - base) / size ≡ n
number_is {size} base n v i r facts there =
    let at = facts.at in
    let over : v.parts.site.place + r.from - base ≡ n * size + r.from = omega (arith, at) in
    ap (λ (k : ℕ). k / size) over ∙ div-mul-add n size r.from (entry_low v i r facts there)

-- What a ticket is for is found by what it says.

-- the place that code reads of it
pub says_place : (z at : ℤ) → mag z < 2 ^ 63 → z ≡ at → unsigned_abs (to_z w64 (of_z w64 z)) ≡ unsigned_abs at
says_place z at small same = ap unsigned_abs (to_z-of_z w64 z (record { sfits = small }) ∙ same)

pub ticket_above : {D C : Type 0} (log : Log D C) (ticket : Reservation) (m : Message) → Awaits log ticket m → log.segments.first.site.place ≤ unsigned_abs (place_of ticket)
ticket_above log ticket m awaits =
    let facts = nth_facts log awaits.number awaits.segment awaits.among in
    let at = facts.at in
    let is : unsigned_abs (place_of ticket) ≡ awaits.segment.parts.site.place + awaits.reserved.from = ap unsigned_abs awaits.own.place in
    omega (arith, at, is)

pub ticket_number : {D C : Type 0} (log : Log D C) (ticket : Reservation) (m : Message) (awaits : Awaits log ticket m) (place : ℕ) → place ≡ unsigned_abs (place_of ticket) → (place - log.segments.first.site.place) / log.config.config.segment_size ≡ awaits.number
ticket_number log ticket m awaits place same =
    let is : place ≡ awaits.segment.parts.site.place + awaits.reserved.from = same ∙ ap unsigned_abs awaits.own.place in
    ap (λ (k : ℕ). (k - log.segments.first.site.place) / log.config.config.segment_size) is
    ∙ number_is log.segments.first.site.place awaits.number awaits.segment (index_of ticket - awaits.segment.gone) awaits.reserved (nth_facts log awaits.number awaits.segment awaits.among) awaits.there

module _ {D C : Type 0} (log : Log D C) (ticket : Reservation) (m : Message) (awaits : Awaits log ticket m) (place n index : ℕ) (place_is : place ≡ unsigned_abs (place_of ticket)) (n_is : n ≡ (place - log.segments.first.site.place) / log.config.config.segment_size) (index_is : index ≡ index_of ticket) where
  pub ticket_among : slice_get (line_of log) n ≡ Some awaits.segment
  ticket_among = ap (slice_get (line_of log)) (n_is ∙ ticket_number log ticket m awaits place place_is) ∙ awaits.among

  pub ticket_there : slice_get awaits.segment.parts.reserved (index - awaits.segment.gone) ≡ Some awaits.reserved
  ticket_there = ap (λ (k : ℕ). slice_get awaits.segment.parts.reserved (k - awaits.segment.gone)) index_is ∙ awaits.there

-- A reservation of the n-th segment ends.
module _ (size : ℕ) (line : List SegmentView) (base n : ℕ) (v : SegmentView) (there : slice_get line n ≡ Some v) (facts : (k : ℕ) (x : SegmentView) → slice_get line k ≡ Some x → IsSegment size (base + k * size) x)
    (i : ℕ) (r : Reserved) (at : slice_get v.parts.reserved i ≡ Some r) (is_open : r.state ≡ Open) (text : List ℕ) (short : length text ≤ r.len) (state : ReservationState) where
  abbrev e : SegmentView
  e = ended_now i r text state v

  -- Its place is taken out of those of the open ones.
  pub ended_takes : open_state state ≡ false → TakesOut (v.parts.site.place + r.from) (open_places_along line) (open_places_along (set line n e))
  ended_takes closed = takes_in (v.parts.site.place + r.from) line n v e there (takes_ended v.parts.site.place v.parts.reserved i r (ended state r) at is_open closed)

  -- No header is another that isn't on the device.
  pub ended_heads : AreAmong (heads_along (set line n e)) (heads_along line)
  ended_heads = set_heads line n v e there (among_same (heads_in e) (heads_in v) (heads_ended v (facts n v there) i r at text short state))

  -- Nothing else fills a segment.
  pub ended_fillings : padding_state state ≡ false → AreAmong (fillings_along (set line n e)) (fillings_along line)
  ended_fillings plain = set_fillings line n v e there (fillings_ended v i r text state at is_open plain)

  -- What counts as given up was given up before,
  pub ended_keeps_given : canceled_state state ≡ false → AreAmong (given_up_along (set line n e)) (given_up_along line)
  ended_keeps_given none = set_given line n v e there (ended_given v (facts n v there) i r at is_open text short state none)

  -- but for its own message, where it was given up.
  pub ended_gives : state ≡ Canceled → length text ≤ r.header_len → AreAmong (given_up_along (set line n e)) (message_in v.parts.site v.parts.bytes r ∷ given_up_along line)
  ended_gives is head = set_given_more line n v e (message_in v.parts.site v.parts.bytes r) there (canceled_given v (facts n v there) i r at is_open text short state head is)

  -- Other tickets are for what they were for.
  pub others_await : (sum : List ℕ → ℕ) (marks : JoinedMarks) (device : State) (fault : Option IoError) (H : History) → HoldsLine sum marks size device fault line H → (ticket other : Reservation) (m : Message) → place_of ticket ≡ pos (v.parts.site.place + r.from)
      → AwaitsIn line other m → place_of other ≢ place_of ticket → AwaitsIn (set line n e) other m
  others_await sum marks device fault H holds ticket other m place awaits apart = elim (cases_eq awaits.number n) [
    | inl same ↦ (
        let mine : slice_get line n ≡ Some awaits.segment = subst (λ (j : ℕ). slice_get line j ≡ Some awaits.segment) same awaits.among in
        let both : Some awaits.segment ≡ Some v = sym mine ∙ there in
        let is : awaits.segment ≡ v = cc in
        let x : Reserved = awaits.reserved in
        let numbered : v.gone ≤ index_of other = subst (λ (w : SegmentView). w.gone ≤ index_of other) is awaits.numbered in
        let at_x : slice_get v.parts.reserved (index_of other - v.gone) ≡ Some x = subst (λ (w : SegmentView). slice_get w.parts.reserved (index_of other - w.gone) ≡ Some x) is awaits.there in
        let own : IsFor v.parts.site x other = subst (λ (w : SegmentView). IsFor w.parts.site x other) is awaits.own in
        let message : m ≡ message_in v.parts.site v.parts.bytes x = subst (λ (w : SegmentView). m ≡ message_in w.parts.site w.parts.bytes x) is awaits.message in
        let elsewhere : x.from ≡ r.from → ⊥ = λ alike. apart (own.place ∙ ap (λ (k : ℕ). pos (v.parts.site.place + k)) alike ∙ sym place) in
        with_segment sum size device fault _ line n v H holds there (λ stays mine_holds segment.
        let stay = others_stay sum size v.parts.site device fault v.parts.bytes v.parts.written_len v.parts.sealed v.parts.reserved i (index_of other - v.gone) r x mine_holds text state short segment at is_open at_x own.open_yet elsewhere in
        record {
          number = n;
          segment = e;
          among = set_get line n v e there;
          reserved = x;
          numbered = numbered;
          there = stay.0;
          own = own;
          message = message ∙ sym stay.1;
        }))
    | inr another ↦ (record {
      number = awaits.number;
      segment = awaits.segment;
      among = set_other line n awaits.number e another ∙ awaits.among;
      reserved = awaits.reserved;
      numbered = awaits.numbered;
      there = awaits.there;
      own = awaits.own;
      message = awaits.message;
    })
  ]
