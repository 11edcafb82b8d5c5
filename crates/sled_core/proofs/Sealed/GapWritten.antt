-- The write of a sealed buffer behind one that isn't written, where no other segment that is found has the number of the current one: torn or whole, a reader finds what he found before.
use Rattle.std.proofs.Common.{◌≡◌, ◌≢◌, ◌⊎◌, ◌≤◌, ◌<◌, ◌<ℤ◌, ◌+◌, ◌*◌, ◌/◌, ◌%◌, ℕ, pos, List, length, get_or, sym, ap, ◌∙◌, subst, arith, inl, inr}
use Rattle.std.proofs.Math.Nat.{mod-add-div'}
use Rattle.std.proofs.lemmas.Bool.{cases_eq, cases_lt}
use Rattle.std.specs.List.{Contains}
use Rattle.sled_codec.specs.Record.{IsHeader}
use Rattle.sled_codec.specs.History.{History}
use Rattle.sled_codec.specs.Snapshots.{SnapshotModel}
use Rattle.sled_store.specs.Device.{overwritten, LeavesLog, Placement}
use Rattle.sled_store.specs.Foreign.{NoForeignLog}
use Rattle.sled_core.specs.Begun.{records_to}
use Rattle.sled_core.specs.OpenBatches.{stable_below}
use Rattle.sled_core.specs.declared.iobuf.SegmentPosition.{SegmentPosition}
use Rattle.sled_core.specs.declared.iterator.Segment.{Segment}
use Rattle.sled_core.specs.declared.iterator.scan.ScanEnd.TheVariants.{Broken}
use Rattle.sled_core.specs.inside.Reached.{BeginsOne, BegunSegment, GoesOnIn, IsLed, StandsAmong, StandsIn}
use Rattle.sled_core.specs.Recoverable.{NoHeaderOfZeros}
use Rattle.sled_core.specs.inside.Scan.{IsFoundSegment}
use Rattle.sled_core.specs.Scan.{IsEnd, EndsThere, IsScan}
use Rattle.sled_core.specs.Tail.{Scanned, least_place}
use Rattle.sled_core.proofs.Read.PathLemmas.{zeros_empty}
use Rattle.sled_codec.specs.Places.{part}
use Rattle.sled_core.proofs.Torn.WrittenBegun.{none_in_zeros}
use Rattle.sled_core.proofs.Reached.LeftBeside.{IsSameBeside}
use Rattle.sled_core.proofs.Reached.SegmentsBeside.{follows, going_in, one_place, one_slot, segment_stays, still_found}
use Rattle.sled_core.proofs.Reached.StandsTo.{StandsFrom, StandsTo}
use Rattle.sled_core.proofs.Reached.WrittenUnread.{torn_headless, torn_unread, written_headless, written_unread, zero_below}
use Rattle.sled_core.proofs.Reached.WrittenWhole.{same_whole}
use Rattle.sled_core.proofs.Sealed.BehindRead.{StandsAfter, only, stands_after}
use Rattle.sled_core.proofs.Tail.OneTail.{segment_there}
use Rattle.sled_core.proofs.Torn.TornLemmas.{after_write}

module _ (sum : List ℕ → ℕ) (none : NoHeaderOfZeros sum) (size : ℕ) (some : 256 ≤ size) (old : List ℕ) (site : SegmentPosition) (from at : ℕ) (asked : List ℕ) (inside : at + length asked ≤ size)
    (slot_begins : site.slot % size ≡ 0) (has_room : from + 32 ≤ size) (to : ℕ) (gap : from + 5 ≤ to) (before : to ≤ at) (headed : from ≡ 0 → 20 ≤ to)
    (clean : (i : ℕ) → site.slot + from ≤ i → i < site.slot + to → get_or old i 0 ≡ 0)
    (reach : ℕ) (H : History) (first : SnapshotModel) (is : StandsTo sum size old H (stable_below reach H.batches) first reach) {records : ℕ} (its : StandsIn sum size old (least_place size first) is.scanned site from records) where
  abbrev new : List ℕ
  new = overwritten old (site.slot + at) asked

  -- the number of its slot
  abbrev slot : ℕ
  slot = site.slot / size

  its_slot : slot * size ≡ site.slot
  its_slot = omega (arith, mod-add-div' site.slot size, slot_begins)

  -- where nothing is written of the segment, its slot begins with zeros
  begins_clean : from ≡ 0 → (i : ℕ) → slot * size ≤ i → i < slot * size + 20 → get_or old i 0 ≡ 0
  begins_clean begins i above below = let h = headed begins in clean i (omega (arith, its_slot, above, begins)) (omega (arith, its_slot, below, h))

  far : from ≡ 0 → 20 ≤ at
  far begins = let h = headed begins in omega (arith, h, before)

  -- What a crash leaves of it.
  pub torn_gap : (now left : List ℕ) → length now ≤ length asked → LeavesLog (after_write old (site.slot + at) asked now) left → {placed : List Placement}
      → NoForeignLog sum size (after_write old (site.slot + at) asked now) placed left → StandsTo sum size left H (stable_below reach H.batches) first reach
  torn_gap now left no_more leaves {placed} only_own =
      let leaves_there = subst (λ n. LeavesLog (after_write old (n + at) asked now) left) (sym its_slot) leaves in
      let own_there = subst (λ n. NoForeignLog sum size (after_write old (n + at) asked now) placed left) (sym its_slot) only_own in
      elim (cases_lt 0 from) [
        | inl later ↦ (
            let g = going_in sum size old (least_place size first) is.scanned site from its later has_room in
            let ended = g.ended in
            torn_unread sum size some old slot at asked inside H (stable_below reach H.batches) first reach is g.scan g.there (g.in_slot ∙ sym its_slot) (omega (arith, ended, gap, before)) g.broken now left no_more leaves_there own_there)
        | inr first_one ↦ (
            let begins : from ≡ 0 = omega (arith, first_one) in
            torn_headless sum size some old slot at asked inside H (stable_below reach H.batches) first reach is none (far begins) (begins_clean begins) now left no_more leaves_there own_there)
      ]

  -- All of it, where the file reaches up to the slot.
  module _ (there : site.slot ≤ length old) where
    there_too : slot * size ≤ length old
    there_too = omega (arith, its_slot, there)

    -- What stands then: the file as far as before, the segment as far as before, and no other mark in its slot.
    abbrev pub GapStands : Type 0
    GapStands = StandsAfter sum size old new site from records reach H first is.from

    -- Nothing of the segment is written yet.
    headless : from ≡ 0 → GapStands
    headless begins =
        let below_slot : slot * size + 20 ≤ slot * size + at = (let h = far begins in omega (arith, h)) in
        let written = written_headless sum size some old slot at asked inside H (stable_below reach H.batches) first reach is none (far begins) (begins_clean begins) there_too in
        let zeros : (i : ℕ) → site.slot ≤ i → i < site.slot + 20 → get_or new i 0 ≡ 0 =
        λ i above under. zero_below old (site.slot + at) asked i (omega (arith, below_slot, under)) (begins_clean begins i (omega (arith, its_slot, above)) (omega (arith, its_slot, under))) in
        let stands = subst (λ n. StandsFrom sum size (overwritten old (n + at) asked) H (stable_below reach H.batches) first reach is.from) its_slot written in
        let none_here : (s : Segment) → IsFoundSegment sum size new (least_place size first) s → s.slot ≡ site.slot → ⊥ =
        λ s found here. none_in_zeros sum 20 none (omega arith) new site.slot zeros (pos s.place) s.mark (subst (λ n. IsHeader sum (part new n 20) (pos s.place) s.mark) here found.header) in
        record {
          stands = stands.0;
          held_same = stands.1;
          here = record { only = only sum size some old site from at asked inside slot_begins there reach H first is its; own = λ s found here. absurd (none_here s found here); read = λ later. absurd (omega (arith, begins, later)) };
          marks = λ s found here. absurd (none_here s found here);
        }

    -- The reading of it ends in front of the gap.
    module _ (later : 0 < from) where
      abbrev g : GoesOnIn is.scanned site.slot from site.place
      g = going_in sum size old (least_place size first) is.scanned site from its later has_room

      stands : StandsFrom sum size new H (stable_below reach H.batches) first reach is.from
      stands =
          let ended = g.ended in
          subst (λ n. StandsFrom sum size (overwritten old (n + at) asked) H (stable_below reach H.batches) first reach is.from) its_slot
          (written_unread sum size some old slot at asked inside H (stable_below reach H.batches) first reach is g.scan g.there (g.in_slot ∙ sym its_slot) (omega (arith, ended, gap, before)) g.broken there_too (omega (arith, ended, gap, before))
          (clean (slot * size + g.scan.stop + 4) (omega (arith, its_slot, ended)) (omega (arith, its_slot, ended, gap))))

      ends : IsEnd sum size new g.scan.segment.slot g.scan.segment.place g.scan.stop Broken
      unfolding IsScan EndsThere
      ends =
          let y : Scanned = g.scan in
          let ended = g.ended in
          let in_slot = g.in_slot in
          let scan = (segment_there sum size old is.ordering is.scanned is.reads y g.there).1 in
          let was : IsEnd sum size old y.segment.slot y.segment.place y.stop Broken = subst (λ w. IsEnd sum size old y.segment.slot y.segment.place y.stop w) g.broken scan.1 in (
            was.0,
            zeros_empty sum size new (y.segment.slot + y.stop) (y.segment.place / size)
                (zero_below old (site.slot + at) asked (y.segment.slot + y.stop + 4) (omega (arith, in_slot, ended, gap, before)) (clean (y.segment.slot + y.stop + 4) (omega (arith, in_slot, ended)) (omega (arith, in_slot, ended, gap)))),
          )

      behind : GapStands
      behind =
          let ended = g.ended in
          stands_after sum size some old site from at asked inside slot_begins there reach H first is its g.scan g.there g.in_slot g.at_place (omega (arith, ended, gap, before)) (inl (ended, λ room. g.broken)) (omega (arith, has_room)) stands.0 stands.1
          (subst (λ w. IsEnd sum size new g.scan.segment.slot g.scan.segment.place g.scan.stop w) (sym g.broken) ends)

    pub gap_stands : GapStands
    gap_stands = elim (cases_lt 0 from) [ inl later ↦ behind later | inr first_one ↦ headless (omega (arith, first_one)) ]

-- Behind a gap of the first segment, or of one behind it.
module _ (sum : List ℕ → ℕ) (size : ℕ) (some : 256 ≤ size) (old : List ℕ) (site : SegmentPosition) (from : ℕ) (others : List BegunSegment) (reach : ℕ) (H : History) (first : SnapshotModel) {held : ℕ} (among : StandsAmong sum held size old site from others reach H first)
    (its : SegmentPosition) (at : ℕ) (asked : List ℕ) (inside : at + length asked ≤ size) (slot_begins : its.slot % size ≡ 0) (there : its.slot ≤ length old) where
  abbrev fresh : List ℕ
  fresh = overwritten old (its.slot + at) asked

  abbrev least : ℕ
  least = least_place size first

  beside_it : IsSameBeside sum size old fresh its.slot
  beside_it =
      let at_slot : its.slot / size * size ≡ its.slot = omega (arith, mod-add-div' its.slot size, slot_begins) in
      subst (λ n. IsSameBeside sum size old (overwritten old (n + at) asked) n) at_slot (same_whole sum size some old (its.slot / size) at asked inside (omega (arith, at_slot, there)))

  module _ (so_far records : ℕ) (after : StandsAfter sum size old fresh its so_far records reach H first among.stands.from) where
    -- the one that leads to the first segment lies before it, so in another slot
    leads_on : site.place ≤ its.place → ((s : Segment) → IsFoundSegment sum size old least s → s.slot ≡ its.slot → s.place ≡ its.place) → IsLed sum size fresh least reach site.place
    leads_on low own = elim among.led [
      | inl below ↦ inl below
      | inr (inl under) ↦ inr (inl under)
      | inr (inr l) ↦ (
          let next = l.next in
          let other : l.scan.segment.slot ≢ its.slot = λ here. (let same = own l.scan.segment l.found here in omega (arith, same, next, some, low)) in
          inr (inr (record {
            scan = l.scan;
            found = still_found sum size some old its.slot slot_begins at asked inside there H (stable_below reach H.batches) first reach among.stands (stable_below reach H.batches) reach after.stands l.scan.segment l.found other;
            read = beside_it.scans least l.scan l.found other l.read;
            next = next;
            goes = l.goes;
            below = l.below;
          })))
    ]

    other_stays : (x : SegmentPosition) (far : ℕ) → x.slot ≢ its.slot → x.place ≢ its.place → {up_to : ℕ} → StandsIn sum size old least among.stands.scanned x far up_to → StandsIn sum size fresh least after.stands.scanned x far up_to
    other_stays x far apart behind = segment_stays sum size some old its.slot slot_begins at asked inside there H (stable_below reach H.batches) first reach among.stands (stable_below reach H.batches) reach after.stands x far its.place apart behind after.here.own

    low_mark : (s : Segment) → IsFoundSegment sum size fresh least s → s.mark <ℤ pos (site.place + from)
    low_mark s found = elim (cases_eq s.slot its.slot) [
      | inl here ↦ (let m = after.marks s found here in subst (λ z. z <ℤ pos (site.place + from)) (sym m.2) (among.below m.0 m.1))
      | inr other ↦ among.below s (beside_it.found least s other found)
    ]

    last_of : ((s : Segment) → s.place ≡ its.place → (s.place ≤ site.place) ⊎ BeginsOne others s.place) → (s : Segment) → IsFoundSegment sum size fresh least s → (s.place ≤ site.place) ⊎ BeginsOne others s.place
    last_of known s found = elim (cases_eq s.slot its.slot) [ inl here ↦ known s (after.here.own s found here) | inr other ↦ among.last s (beside_it.found least s other found) ]

  pub gap_written : its ≡ site → StandsAfter sum size old fresh its from 0 reach H first among.stands.from → StandsAmong sum held size fresh site from others reach H first
  gap_written same after =
      let at_place : its.place ≡ site.place = ap (λ (x : SegmentPosition). x.place) same in
      let at_slot : its.slot ≡ site.slot = ap (λ (x : SegmentPosition). x.slot) same in
      record {
        stands = after.stands;
        low = (let same = after.held_same in let low = among.low in omega (arith, same, low));
        reached = among.reached;
        led = leads_on from 0 after (omega (arith, at_place)) (λ s found here. among.here.own s found (here ∙ at_slot) ∙ sym at_place);
        here = subst (λ (x : SegmentPosition). StandsIn sum size fresh least after.stands.scanned x from 0) same after.here;
        behind = λ x has.
            let f = follows site others among.apart x has in
            other_stays from 0 after x.site x.from (λ here. f.1 (here ∙ at_slot)) (λ here. let low = f.0 in omega (arith, here, low, at_place)) (among.behind x has);
        apart = among.apart;
        last = last_of from 0 after (λ s here. inl (omega (arith, here, at_place)));
        below = low_mark from 0 after;
      }

  pub other_gap : (y : BegunSegment) → Contains others y → its ≡ y.site → StandsAfter sum size old fresh its y.from (records_to y.filled size) reach H first among.stands.from → StandsAmong sum held size fresh site from others reach H first
  other_gap y known same after =
      let at_place : its.place ≡ y.site.place = ap (λ (x : SegmentPosition). x.place) same in
      let at_slot : its.slot ≡ y.site.slot = ap (λ (x : SegmentPosition). x.slot) same in
      let f = follows site others among.apart y known in
      let behind_first = f.0 in
      let stands_its : StandsIn sum size fresh least after.stands.scanned y.site y.from (records_to y.filled size) = subst (λ (x : SegmentPosition). StandsIn sum size fresh least after.stands.scanned x y.from (records_to y.filled size)) same after.here in
      record {
        stands = after.stands;
        low = (let same = after.held_same in let low = among.low in omega (arith, same, low));
        reached = among.reached;
        led = leads_on y.from (records_to y.filled size) after (omega (arith, at_place, behind_first)) (λ s found here. (among.behind y known).own s found (here ∙ at_slot) ∙ sym at_place);
        here = other_stays y.from (records_to y.filled size) after site from (λ here. f.1 (sym (here ∙ at_slot))) (λ here. omega (arith, here, at_place, behind_first)) among.here;
        behind = λ x has. elim (cases_eq x.site.slot its.slot) [
          | inl here ↦ subst (λ (w : BegunSegment). StandsIn sum size fresh least after.stands.scanned w.site w.from (records_to w.filled size)) (one_slot site others among.apart y x known has (sym (here ∙ at_slot))) stands_its
          | inr other ↦ other_stays y.from (records_to y.filled size) after x.site x.from other (λ here. other (ap (λ (w : BegunSegment). w.site.slot) (sym (one_place site others among.apart y x known has (sym (here ∙ at_place)))) ∙ sym at_slot)) (among.behind x has)
        ];
        apart = among.apart;
        last = last_of y.from (records_to y.filled size) after (λ s here. inr (y, known, sym (here ∙ at_place)));
        below = low_mark y.from (records_to y.filled size) after;
      }
