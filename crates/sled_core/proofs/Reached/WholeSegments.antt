-- Segments that are read to their end, with each message of them reached: one that an entry of a table needs, and one that leads a reader on. They stay so.
use Rattle.std.proofs.Common.{⊎_elim, ◌≡◌, ◌≢◌, ◌∙◌, ◌+◌, ◌*◌, ◌/◌, ◌%◌, ◌<◌, ◌≤◌, ℕ, ℤ, pos, List, length, refl, sym, ap, subst, arith, inl, inr}
use Rattle.std.specs.List.{Contains}
use Rattle.std.proofs.Math.Nat.{mul-mod_left}
use Rattle.std.proofs.lemmas.Bool.{cases_lt}
use Rattle.sled_codec.specs.History.{Message, History}
use Rattle.sled_codec.specs.Places.{part}
use Rattle.sled_codec.specs.Record.{IsHeader}
use Rattle.sled_codec.specs.Snapshots.{SnapshotModel, stable_place}
use Rattle.sled_store.proofs.Histories.Ascending.{Ascends}
use Rattle.sled_core.specs.declared.iterator.Segment.{Segment}
use Rattle.sled_core.specs.declared.iterator.scan.ScannedRecord.{ScannedRecord}
use Rattle.sled_core.specs.declared.iterator.scan.ScanEnd.{ScanEnd}
use Rattle.sled_core.specs.declared.iterator.scan.ScanEnd.TheVariants.{Full, Capped, Broken}
use Rattle.sled_core.specs.inside.Reached.{IsLed, StandsTo}
use Rattle.sled_core.specs.inside.Recoverable.{IsSegmentOf, MeetsMessage, NothingBehind}
use Rattle.sled_core.specs.inside.Scan.{IsFoundSegment}
use Rattle.sled_core.specs.inside.Slots.{IsWholeSegment, marked_at}
use Rattle.sled_core.specs.Tail.{least_place, Scanned, IsScanned}
use Rattle.sled_core.specs.Scan.{IsEnd, IsScan}
use Rattle.sled_core.proofs.Read.FoundLemmas.{found_there}
use Rattle.sled_core.proofs.Reached.KeptStands.{reached_kept, read_on_kept}
use Rattle.sled_core.proofs.Reached.ReachedEntries.{reached_of}
use Rattle.sled_core.proofs.Tail.Multiples.{apart, lower_multiple, put_down, same_number}
use Rattle.sled_core.proofs.Tail.OfHistory.{message_of}
use Rattle.sled_core.proofs.Tail.OneReading.{one_scan}
use Rattle.sled_core.proofs.Tail.OneTail.{one_at_place, place_aligned, rises_of, segment_there}
use Rattle.sled_core.proofs.Tail.Rows.{path_covers, path_within}
use Rattle.sled_core.proofs.Torn.WrittenBeside.{found_moved}

-- One that lies in this slot and begins at this place.
pub whole_at : (sum : List ℕ → ℕ) (size : ℕ) (log : List ℕ) (H : History) {slot slot' place place' : ℕ} → slot' ≡ slot → place' ≡ place
    → IsWholeSegment sum size log H slot place → IsWholeSegment sum size log H slot' place'
whole_at sum size log H {slot} {slot'} {place} {place'} slots places whole =
    subst (λ a. IsWholeSegment sum size log H a place') (sym slots) (subst (λ p. IsWholeSegment sum size log H slot p) (sym places) whole)

-- A slot has the bytes that it had: the segment in it stays so.
pub whole_kept : (sum : List ℕ → ℕ) (size : ℕ) (old left : List ℕ) (slot : ℕ) → 20 ≤ size
    → ((lid len : ℕ) → slot ≤ lid → lid + len ≤ slot + size → lid + len ≤ length old → part left lid len ≡ part old lid len)
    → (H : History) (place : ℕ) → IsWholeSegment sum size old H slot place → IsWholeSegment sum size left H slot place
whole_kept sum size old left slot long same H place whole =
    let s : Segment = marked_at slot place whole.mark in
    let aligned = whole.found.slot in
    let there = found_there sum size old 0 s whole.found in
    record {
      mark = whole.mark;
      found = found_moved sum size old left 0 s (same slot 20 (omega arith) (omega (arith, long)) there) whole.found;
      read_on = read_on_kept sum size old left slot aligned same H s refl whole.read_on;
      reached = λ n known own. reached_kept sum size old left slot aligned same s refl n (whole.reached n known own);
    }

-- The segment of a message that a table needs is so, where it ends below the cut.
pub whole_needed : (sum : List ℕ → ℕ) (size : ℕ) (log : List ℕ) → 0 < size → (H : History) (cut : ℕ) (m : Message) (of : IsSegmentOf sum size log H cut m)
    → of.segment.place + size ≤ cut → IsWholeSegment sum size log H of.segment.slot of.segment.place
whole_needed sum size log some H cut m of under = record {
  mark = of.segment.mark;
  found = of.found;
  read_on = of.full under;
  reached = λ n known own.
      let parts = put_down size n.place in
      let inside : n.place % size < size = omega (arith, some) in
      of.whole n known (same_number size (n.place / size) (m.place / size) some (own ∙ of.place)) (omega (arith, parts.0, own, inside, under));
}

module _ (sum : List ℕ → ℕ) (size : ℕ) (log : List ℕ) (some : 256 ≤ size) (H : History) (ordered : Ascends H.messages) (A : ℕ) (first : SnapshotModel)
    (reach : ℕ) (stands : StandsTo sum size log H A first reach) where
  abbrev least : ℕ
  least = least_place size first

  -- One of those that are found.
  module _ (t : Scanned) (known : Contains stands.scanned t) where
    pub t_known : Contains stands.ordering t.segment × IsScanned sum size log t
    t_known = segment_there sum size log stands.ordering stands.scanned stands.reads t known

    t_found : IsFoundSegment sum size log least t.segment
    t_found = (stands.numbers.found t.segment).0 t_known.0

    -- what is read of it lies in it
    stop_within : t.stop ≤ size
    unfolding IsScan
    stop_within = path_within sum size log t.segment.slot t.segment.place t_found.slot 20 t.met t.stop (omega (arith, some)) t_known.1.0

    -- A message of it in front of where its reading ends is met,
    pub met_in : (n : Message) → Contains H.messages n → n.place / size * size ≡ t.segment.place → n.place < t.segment.place + t.stop
        → (x : ScannedRecord) × Contains t.met x × MeetsMessage x n
    unfolding IsScan
    met_in n there own below =
        let behind = (stands.placed n there).begins.behind in
        let parts = put_down size n.place in
        let x = path_covers sum size log t.segment.slot t.segment.place 20 t.met t.stop t_known.1.0 n.place (omega (arith, behind, parts.0, own)) below in
        (x.0, x.1, (message_of sum size log H ordered x.0 (stands.truth t x.0 known x.1) n there x.2 x.3).0)

    -- and where it leads on there is none behind it.
    none_past : (n : Message) → Contains H.messages n → n.place / size * size ≡ t.segment.place → t.why ≢ Broken → t.segment.place + t.stop ≤ n.place → ⊥
    unfolding IsScan
    none_past n there own leads past = by (stands.placed n there).begins.room (put_down size n.place).0 t.why leads (stands.caps t known) t_known.1.1 where
      by : n.place % size + 32 ≤ size → n.place / size * size + n.place % size ≡ n.place → (why : ScanEnd) → why ≢ Broken
          → NothingBehind size H t.segment.place t.stop why → IsEnd sum size log t.segment.slot t.segment.place t.stop why → ⊥
      by room parts Full leads caps filled = omega (arith, room, parts, own, past, filled)
      by room parts Capped leads caps capped =
          ⊎_elim (λ before. omega (arith, before, past)) (λ behind. omega (arith, behind, own, parts, room)) ((caps.0 refl).0 n there)
      by room parts Broken leads caps broken = leads refl

    -- So where it leads on each message of it is reached.
    pub whole_found : t.why ≢ Broken → IsWholeSegment sum size log H t.segment.slot t.segment.place
    whole_found leads = record {
      mark = t.segment.mark;
      found = let its = t_found in record { slot = its.slot; header = its.header; not_below = omega arith };
      read_on = record { scan = t; of = refl; read = t_known.1; goes = leads; truth = λ x met. stands.truth t x known met };
      reached = λ n there own. elim (cases_lt n.place (t.segment.place + t.stop)) [
        | inl below ↦ (let x = met_in n there own below in reached_of sum size log t t_known.1 x.0 x.1 n x.2)
        | inr past ↦ absurd (none_past n there own leads past)
      ];
    }

    -- The slot with its header is its own.
    pub slot_is : (k : ℕ) (mark : ℤ) → IsHeader sum (part log (k * size) 20) (pos t.segment.place) mark → t.segment ≡ marked_at (k * size) t.segment.place mark
    slot_is k mark header =
        let here : Segment = marked_at (k * size) t.segment.place mark in
        let low = t_found.not_below in
        let there = (stands.numbers.found here).1 (record { slot = mul-mod_left k size; header = header; not_below = low }) in
        one_at_place stands.ordering (rises_of stands.ordering stands.numbers.ascending) t.segment here t_known.0 there refl

  -- From where all is held a segment leads on, where a reader is led to one behind it.
  module _ (z : ℕ) (aligned : z % size ≡ 0) (low : stands.from / size * size ≤ z) where
    -- Of those that are found one begins there.
    record LeadsAt : Type 0 where
      scan : Scanned
      known : Contains stands.scanned scan
      at : scan.segment.place ≡ z
      goes : scan.why ≢ Broken

    not_low : least ≤ z
    not_low = let up = lower_multiple size some (stable_place first.stable) stands.from stands.from_low in omega (arith, up, low)

    -- It begins below what was reached, and leads on or is read up to that.
    found_at : z < reach → ((t : Scanned) → Contains stands.scanned t → t.segment.place ≡ z → reach ≤ z + t.stop → LeadsAt) → LeadsAt
    found_at near far =
        let g = stands.gapless z aligned low near in
        elim g.3 [
          | inl up ↦ far g.0 g.1 g.2 up
          | inr on ↦ record { scan = g.0; known = g.1; at = g.2; goes = on.0 }
        ]

    leads_at : (place : ℕ) → IsLed sum size log least reach place → z + size ≤ place → LeadsAt
    leads_at place (inl below) ends =
        found_at (omega (arith, below, ends, some)) (λ t known at up. absurd (let within = stop_within t known in omega (arith, within, up, ends, below)))
    leads_at place (inr (inl under)) ends = absurd (let high = not_low in omega (arith, high, under, ends, some))
    leads_at place (inr (inr before)) ends =
        let next = before.next in
        let below = before.below in
        found_at (omega (arith, next, below, ends)) leads_before
      where
        leads_before : (t : Scanned) → Contains stands.scanned t → t.segment.place ≡ z → reach ≤ z + t.stop → LeadsAt
        leads_before t known at up =
            let next = before.next in
            let below = before.below in
            let there = (stands.numbers.found before.scan.segment).1 before.found in
            let whole = place_aligned sum size log least stands.ordering stands.numbers before.scan.segment there in
            let within = stop_within t known in
            let one : t.segment.place ≡ before.scan.segment.place = elim (cases_lt z before.scan.segment.place) [
              | inl lower ↦ absurd (
                  let far = apart size (omega (arith, some)) z before.scan.segment.place aligned whole lower in
                  omega (arith, far, within, up, below))
              | inr over ↦ omega (arith, at, over, next, ends)
            ] in
            let is = t_known t known in
            let segment = one_at_place stands.ordering (rises_of stands.ordering stands.numbers.ascending) t.segment before.scan.segment is.0 there one in
            let same : t ≡ before.scan = one_scan sum size log t before.scan segment is.1 before.read in
            record { scan = t; known = known; at = at; goes = λ broken. before.goes (ap (λ (u : Scanned). u.why) (sym same) ∙ broken) }

    -- So the one in a slot with the header of such a segment is whole.
    pub whole_before : (place : ℕ) → IsLed sum size log least reach place → z + size ≤ place → (k : ℕ) (mark : ℤ)
        → IsHeader sum (part log (k * size) 20) (pos z) mark → IsWholeSegment sum size log H (k * size) z
    whole_before place led ends k mark header =
        let l = leads_at place led ends in
        let its = subst (λ p. IsHeader sum (part log (k * size) 20) (pos p) mark) (sym l.at) header in
        whole_at sum size log H (ap (λ (u : Segment). u.slot) (sym (slot_is l.scan l.known k mark its))) (sym l.at) (whole_found l.scan l.known l.goes)
