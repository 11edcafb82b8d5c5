-- A segment is full and on the device: the reading goes on in the next one, as far as that was written before.
use Rattle.std.proofs.Common.{◌≡◌, ◌≢◌, ◌⊎◌, ◌≤◌, ◌<◌, ◌+◌, ◌∙◌, ℕ, pos, List, [], ◌∷◌, ◌++◌, None, get_or, refl, sym, ap, subst, arith, inl, inr}
use Rattle.std.specs.List.{Contains}
use Rattle.std.proofs.lemmas.List.Elements.{Contains-append_cases, Contains-append_left}
use Rattle.sled_codec.specs.Places.{part}
use Rattle.sled_codec.specs.Record.{IsHeader}
use Rattle.sled_codec.specs.History.{History}
use Rattle.sled_codec.specs.Snapshots.{SnapshotModel}
use Rattle.sled_store.proofs.Histories.Ascending.{Ascends}
use Rattle.sled_store.proofs.Segments.Elements.{in_cases, in_first, in_nothing, in_rest}
use Rattle.sled_core.specs.Begun.{records_to}
use Rattle.sled_core.specs.OpenBatches.{stable_below}
use Rattle.sled_core.specs.declared.iobuf.SegmentPosition.{SegmentPosition}
use Rattle.sled_core.specs.declared.iterator.Segment.{Segment}
use Rattle.sled_core.specs.declared.iterator.scan.ScanEnd.{ScanEnd}
use Rattle.sled_core.specs.declared.iterator.scan.ScanEnd.TheVariants.{Broken}
use Rattle.sled_core.specs.inside.Full.{StandsFull}
use Rattle.sled_core.specs.inside.Reached.{BeginsNext, BeginsOne, BegunSegment, FollowApart, IsReadTo, IsSoFar, StandsAlone, StandsAmong, StandsIn}
use Rattle.sled_core.specs.Recoverable.{NoHeaderOfZeros}
use Rattle.sled_core.specs.inside.Recoverable.{NoMessageBegins}
use Rattle.sled_core.specs.inside.Scan.{IsFoundSegment}
use Rattle.sled_core.specs.Tail.{Scanned, least_place}
use Rattle.sled_core.proofs.Reached.Higher.{IsBegunOrLedTo, known_in, stands_higher}
use Rattle.sled_core.proofs.Reached.Marks.{less_than}
use Rattle.sled_core.proofs.Reached.StandsTo.{StandsFrom, StandsTo}
use Rattle.sled_core.proofs.Tail.OneTail.{segment_there}
use Rattle.sled_core.proofs.Torn.WrittenBegun.{none_in_zeros}

-- What is read of a segment is so wherever the same file stands.
pub stands_anew : (sum : List ℕ → ℕ) (size : ℕ) (log : List ℕ) (H : History) (A reach A' reach' : ℕ) (first : SnapshotModel) (is : StandsTo sum size log H A first reach) (now : StandsTo sum size log H A' first reach') (site : SegmentPosition) (from : ℕ)
    {records : ℕ} → StandsIn sum size log (least_place size first) is.scanned site from records → StandsIn sum size log (least_place size first) now.scanned site from records
stands_anew sum size log H A reach A' reach' first is now site from stands = record {
  only = stands.only;
  own = stands.own;
  read = λ later.
      let r = stands.read later in
      let was = r.2 in
      let had = segment_there sum size log is.ordering is.scanned is.reads was.scan was.there in
      (r.0, r.1, record { scan = was.scan; there = known_in sum size log H A' first reach' now was.scan ((is.numbers.found was.scan.segment).0 had.0) had.1; in_slot = was.in_slot; at_place = was.at_place; ended = was.ended; ends = was.ends }, r.3, r.4);
}

-- Of the first segment nothing is said of its records' end.
pub unmarked : (sum : List ℕ → ℕ) (size : ℕ) (log : List ℕ) (least : ℕ) (scanned : List Scanned) (site : SegmentPosition) (from : ℕ) {records : ℕ} → StandsIn sum size log least scanned site from records → StandsIn sum size log least scanned site from 0
unmarked sum size log least scanned site from stands = record { only = stands.only; own = stands.own; read = λ later. let r = stands.read later in (r.0, r.1, r.2, r.3, λ same. omega arith) }

-- A segment that is none of those that were begun begins in a slot of zeros.
new_stands : (sum : List ℕ → ℕ) (none : NoHeaderOfZeros sum) (size : ℕ) (log : List ℕ) (least : ℕ) (scanned : List Scanned) (site : SegmentPosition) → ((s : Segment) → IsFoundSegment sum size log least s → s.place ≢ site.place)
    → ((i : ℕ) → site.slot ≤ i → i < site.slot + 20 → get_or log i 0 ≡ 0) → {records : ℕ} → StandsIn sum size log least scanned site 0 records
new_stands sum none size log least scanned site other zeros = record {
  only = λ s found same. absurd (other s found same);
  own = λ s found here. absurd (none_in_zeros sum 20 none (omega arith) log site.slot zeros (pos s.place) s.mark (subst (λ n. IsHeader sum (part log n 20) (pos s.place) s.mark) here found.header));
  read = λ later. absurd (omega (arith, later));
}

-- Behind a full one, where there are no others.
pub begins_alone : (sum : List ℕ → ℕ) (none : NoHeaderOfZeros sum) (size : ℕ) (log : List ℕ) (place reach : ℕ) (H : History) (first : SnapshotModel) (slot : ℕ) → ((i : ℕ) → slot ≤ i → i < slot + 20 → get_or log i 0 ≡ 0)
    → {held : ℕ} → StandsFull sum held size log place [] reach H first → StandsAlone sum held size log (record { place = place; slot = slot }) 0 reach H first
begins_alone sum none size log place reach H first slot zeros full = record {
  stands = full.stands;
  low = full.low;
  reached = inr (refl, full.near);
  led = inr (inr full.leads);
  here = new_stands sum none size log (least_place size first) full.stands.scanned (record { place = place; slot = slot }) (λ s found same. let low = low_all s found in omega (arith, low, same)) zeros;
  behind = λ x among. absurd (in_nothing x among);
  apart = tt;
  last = λ s found. inl (let low = low_all s found in omega (arith, low));
  below = λ s found. less_than s.mark place (place + 0) (omega arith) (full.below s found);
}
  where
    low_all : (s : Segment) → IsFoundSegment sum size log (least_place size first) s → s.place < place
    low_all s found = elim (full.last s found) [ inl low ↦ low | inr (x, among, at) ↦ absurd (in_nothing x among) ]

-- Behind all that were begun.
pub begins_behind : (sum : List ℕ → ℕ) (none : NoHeaderOfZeros sum) (size : ℕ) (log : List ℕ) (site : SegmentPosition) (from : ℕ) (others : List BegunSegment) (reach : ℕ) (H : History) (first : SnapshotModel) (new : SegmentPosition)
    → site.place < new.place → ((x : BegunSegment) → Contains others x → x.site.place < new.place) → FollowApart site (others ++ record { site = new; from = 0; filled = None } ∷ []) → ((i : ℕ) → new.slot ≤ i → i < new.slot + 20 → get_or log i 0 ≡ 0)
    → {held : ℕ} → StandsAmong sum held size log site from others reach H first → StandsAmong sum held size log site from (others ++ record { site = new; from = 0; filled = None } ∷ []) reach H first
begins_behind sum none size log site from others reach H first new above above_all apart zeros among = record {
  stands = among.stands;
  low = among.low;
  reached = among.reached;
  led = among.led;
  here = among.here;
  behind = λ x at. elim (Contains-append_cases others (begun ∷ []) x at) [
    | inl had ↦ among.behind x had
    | inr added ↦ elim (in_cases begun x [] added) [
      | inl same ↦ subst (λ (w : BegunSegment). StandsIn sum size log (least_place size first) among.stands.scanned w.site w.from (records_to w.filled size)) same
          (new_stands sum none size log (least_place size first) among.stands.scanned new not_there zeros)
      | inr never ↦ absurd (in_nothing x never)
    ]
  ];
  apart = apart;
  last = λ s found. elim (among.last s found) [ inl low ↦ inl low | inr (x, had, at) ↦ inr (x, Contains-append_left others (begun ∷ []) x had, at) ];
  below = among.below;
}
  where
    begun : BegunSegment
    begun = record { site = new; from = 0; filled = None }

    not_there : (s : Segment) → IsFoundSegment sum size log (least_place size first) s → s.place ≢ new.place
    not_there s found same = elim (among.last s found) [
      | inl low ↦ omega (arith, low, same, above)
      | inr (x, had, at) ↦ (let under = above_all x had in omega (arith, under, at, same))
    ]

module _ (sum : List ℕ → ℕ) (size : ℕ) (some : 256 ≤ size) (log : List ℕ) (y : BegunSegment) (ys : List BegunSegment) (reach : ℕ) (H : History) (first : SnapshotModel) {held : ℕ} (full : StandsFull sum held size log y.site.place (y ∷ ys) reach H first) (follow : FollowApart y.site ys) where
  abbrev pub least : ℕ
  least = least_place size first

  abbrev pub its : StandsIn sum size log least full.stands.scanned y.site y.from (records_to y.filled size)
  its = full.behind y (in_first y ys)

  last_behind : (s : Segment) → IsFoundSegment sum size log least s → (s.place ≤ y.site.place) ⊎ BeginsOne ys s.place
  last_behind s found = elim (full.last s found) [
    | inl low ↦ inl (omega (arith, low))
    | inr (x, among, at) ↦ elim (in_cases y x ys among) [ inl same ↦ inl (let same_place = ap (λ (w : BegunSegment). w.site.place) same in omega (arith, same_place, at)) | inr later ↦ inr (x, later, at) ]
  ]

  -- Nothing of it is written: the reading ends before it.
  pub next_begins : y.from ≡ 0 → StandsAmong sum held size log y.site 0 ys reach H first
  next_begins none = record {
    stands = full.stands;
    low = full.low;
    reached = inr (refl, full.near);
    led = inr (inr full.leads);
    here = unmarked sum size log least full.stands.scanned y.site 0 (subst (λ n. StandsIn sum size log least full.stands.scanned y.site n (records_to y.filled size)) none its);
    behind = λ x among. full.behind x (in_rest y x ys among);
    apart = follow;
    last = last_behind;
    below = λ s found. less_than s.mark y.site.place (y.site.place + 0) (omega arith) (full.below s found);
  }

  -- Some of it is.
  module _ (ordered : Ascends H.messages) (later : 0 < y.from) where
    abbrev pub read : (stop : ℕ) × (why : ScanEnd) × IsReadTo full.stands.scanned y.site.slot y.site.place stop why × IsSoFar size y.from stop why × (y.from ≡ size → records_to y.filled size ≤ stop)
    read = its.read later

    abbrev pub stop : ℕ
    stop = read.0

    led : IsBegunOrLedTo size full.stands.scanned least reach y.site.place
    led =
        let l = full.leads in
        inr (inr (record { scan = l.scan; there = known_in sum size log H (stable_below reach H.batches) first reach full.stands l.scan l.found l.read; next = l.next; goes = l.goes; below = l.below }))

    further_from : StandsFrom sum size log H (stable_below (y.site.place + stop) H.batches) first (y.site.place + stop) full.stands.from
    further_from =
        let is = read.2 in
        let at = is.at_place in
        let ended = is.ended in
        let near = full.near.above in
        let same : is.scan.segment.place + is.scan.stop ≡ y.site.place + stop = omega (arith, at, ended) in
        subst (λ n. StandsFrom sum size log H (stable_below n H.batches) first n full.stands.from) same
        (stands_higher sum size log some H (stable_below reach H.batches) first reach full.stands ordered is.scan is.there (omega (arith, same, near)) (subst (IsBegunOrLedTo size full.stands.scanned least reach) (sym at) led) (subst (NoMessageBegins H reach) (sym at) full.near.no_message)
        (omega arith))

    pub further : StandsTo sum size log H (stable_below (y.site.place + stop) H.batches) first (y.site.place + stop)
    further = further_from.0

    low : further.from ≤ held
    unfolding further
    low = let same = further_from.1 in let low = full.low in omega (arith, same, low)

    anew : (site : SegmentPosition) (from : ℕ) {records : ℕ} → StandsIn sum size log least full.stands.scanned site from records → StandsIn sum size log least further.scanned site from records
    anew site from = stands_anew sum size log H (stable_below reach H.batches) reach (stable_below (y.site.place + stop) H.batches) (y.site.place + stop) first full.stands further site from

    -- The reading ends in it.
    pub next_goes : stop ≡ y.from → StandsAmong sum held size log y.site y.from ys (y.site.place + stop) H first
    next_goes at = record {
      stands = further;
      low = low;
      reached = inl (ap (λ n. y.site.place + n) at);
      led = inl (omega (arith, at, later));
      here = unmarked sum size log least further.scanned y.site y.from (anew y.site y.from its);
      behind = λ x among. anew x.site x.from (full.behind x (in_rest y x ys among));
      apart = follow;
      last = last_behind;
      below = λ s found. less_than s.mark y.site.place (y.site.place + y.from) (omega arith) (full.below s found);
    }

    -- It is full too, and so the reading goes on behind it.
    pub next_full : read.1 ≢ Broken → 0 < stop → BeginsNext size H (y.site.place + stop) (y.site.place + size) → StandsFull sum held size log (y.site.place + size) ys (y.site.place + stop) H first
    next_full goes begun near = record {
      stands = further;
      low = low;
      leads = (
          let is = read.2 in
          let at = is.at_place in
          let had = segment_there sum size log full.stands.ordering full.stands.scanned full.stands.reads is.scan is.there in
          record { scan = is.scan; found = (full.stands.numbers.found is.scan.segment).0 had.0; read = had.1; next = ap (λ n. n + size) at; goes = λ broken. goes (sym is.ends ∙ broken); below = omega (arith, at, begun) });
      near = near;
      behind = λ x among. anew x.site x.from (full.behind x (in_rest y x ys among));
      last = λ s found. elim (last_behind s found) [ inl low ↦ inl (omega (arith, low, some)) | inr one ↦ inr one ];
      below = λ s found. less_than s.mark y.site.place (y.site.place + size) (omega arith) (full.below s found);
    }
