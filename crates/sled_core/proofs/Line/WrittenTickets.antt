-- Tickets are for what they were for once a sealed buffer of one of the segments is written: the reservations that go with it have ended.
use Rattle.std.proofs.Common.{◌++◌, ◌≡◌, ◌∙◌, ◌≤◌, ◌+◌, ◌-◌, ap, sym, arith, subst, ℕ, true, List, take, drop, set, Some, inl, inr}
use Rattle.std.specs.List.{slice_get}
use Rattle.std.proofs.lemmas.Bool.{cases_eq, cases_lt}
use Rattle.sled_codec.specs.History.{Message}
use Rattle.sled_core.specs.Begun.{SegmentView}
use Rattle.sled_core.specs.Buffers.{message_in, none_open}
use Rattle.sled_core.specs.declared.iobuf.Reserved.{Reserved}
use Rattle.sled_core.specs.declared.iobuf.Sealed.{Sealed}
use Rattle.sled_core.specs.declared.reservation.Reservation.{Reservation}
use Rattle.sled_core.specs.Fits.{AwaitsIn}
use Rattle.sled_core.specs.OpenPlaces.{open_places_in}
use Rattle.sled_core.specs.inside.SealedBuffers.{AreSealed, is_ready, run_count, written_at}
use Rattle.sled_core.specs.Among.{AreAmong}
use Rattle.sled_core.specs.Tickets.{IsFor, index_of}
use Rattle.sled_core.specs.inside.Turned.{written_now}
use Rattle.sled_core.proofs.Holds.Nth.{set_get, set_other}
use Rattle.sled_core.proofs.Line.GivenUp.{given_behind, given_in}
use Rattle.sled_core.proofs.Line.OpenManifests.{manifests_behind, manifests_of}
use Rattle.sled_core.proofs.Line.OpenPlaces.{none_placed, places_of, places_parted}
use Rattle.sled_core.proofs.Line.Segments.{run_written}
use Rattle.sled_core.proofs.Sealed.Ended.{get_behind, get_front}
use Rattle.sled_core.proofs.Sealed.EndedParts.{not_open}

module _ (line : List SegmentView) (n k : ℕ) (v : SegmentView) (b : Sealed) (among : slice_get line n ≡ Some v) (there : slice_get v.parts.sealed k ≡ Some b) (ready : is_ready b ≡ true) (are : AreSealed v.parts.written_len v.parts.reserved v.parts.sealed) where
  abbrev gone : ℕ
  gone = run_count (written_at k v.parts.sealed)

  abbrev entries : List Reserved
  entries = v.parts.reserved

  -- those that go have ended
  closed : none_open (take gone entries) ≡ true
  closed = (run_written k v b there ready are).ended

  -- a ticket for one of that segment's
  module _ (ticket : Reservation) (m : Message) (reserved : Reserved) (numbered : v.gone ≤ index_of ticket) (its : slice_get entries (index_of ticket - v.gone) ≡ Some reserved) (own : IsFor v.parts.site reserved ticket) (message : m ≡ message_in v.parts.site v.parts.bytes reserved) where
    behind : gone ≤ index_of ticket - v.gone
    behind = elim (cases_lt (index_of ticket - v.gone) gone) [
      | inl front ↦ absurd (not_open (take gone entries) (index_of ticket - v.gone) reserved closed (get_front entries gone (index_of ticket - v.gone) reserved front its) own.open_yet)
      | inr later ↦ later
    ]

    awaits_here : AwaitsIn (set line n (written_now k v)) ticket m
    awaits_here = record {
      number = n;
      segment = written_now k v;
      among = set_get line n v (written_now k v) among;
      reserved = reserved;
      numbered = (let far = behind in omega (arith, far, numbered));
      there = ap (λ i. slice_get (drop gone entries) i) (let far = behind in let at : index_of ticket - (v.gone + gone) ≡ index_of ticket - v.gone - gone = omega (arith, far, numbered) in at) ∙ get_behind entries gone (index_of ticket - v.gone) reserved behind its;
      own = own;
      message = message;
    }

  pub awaits_written : (ticket : Reservation) (m : Message) → AwaitsIn line ticket m → AwaitsIn (set line n (written_now k v)) ticket m
  awaits_written ticket m a = elim (cases_eq a.number n) [
    | inl same ↦ (
        let both : Some a.segment ≡ Some v = sym a.among ∙ ap (slice_get line) same ∙ among in
        let one : a.segment ≡ v = cc in
        awaits_here ticket m a.reserved (subst (λ (u : SegmentView). u.gone ≤ index_of ticket) one a.numbered) (subst (λ (u : SegmentView). slice_get u.parts.reserved (index_of ticket - u.gone) ≡ Some a.reserved) one a.there)
        (subst (λ (u : SegmentView). IsFor u.parts.site a.reserved ticket) one a.own) (subst (λ (u : SegmentView). m ≡ message_in u.parts.site u.parts.bytes a.reserved) one a.message))
    | inr other ↦ record {
      number = a.number;
      segment = a.segment;
      among = set_other line n a.number (written_now k v) other ∙ a.among;
      reserved = a.reserved;
      numbered = a.numbered;
      there = a.there;
      own = a.own;
      message = a.message;
    }
  ]

  -- no other messages were given up,
  pub given_written : AreAmong (given_in (written_now k v)) (given_in v)
  given_written = given_behind v.parts.site v.parts.bytes gone entries

  -- the same reservations are open,
  pub places_written : places_of (written_now k v) ≡ places_of v
  places_written = sym (places_parted v.parts.site.place gone entries ∙ ap (λ (l : List ℕ). l ++ open_places_in v.parts.site.place (drop gone entries)) (none_placed v.parts.site.place (take gone entries) closed))

  -- and as many are of manifests
  pub manifests_written : manifests_of (written_now k v) ≡ manifests_of v
  manifests_written = manifests_behind gone entries closed
