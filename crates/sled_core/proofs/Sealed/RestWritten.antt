-- What is left of a segment where no header has room is written: torn or whole, a reader finds what he found before. A segment behind the first one is full then.
use Rattle.std.proofs.Common.{◌≡◌, ◌≢◌, ◌≤◌, ◌<◌, ◌+◌, ◌*◌, ◌/◌, ◌%◌, ◌∙◌, ℕ, List, ◌∷◌, ◌++◌, length, refl, sym, subst, arith, inl, inr}
use Rattle.std.specs.List.{Contains}
use Rattle.std.proofs.Math.Nat.{mod-add-div'}
use Rattle.std.proofs.lemmas.List.Elements.{Contains-append_right}
use Rattle.sled_codec.specs.History.{History}
use Rattle.sled_codec.specs.Snapshots.{SnapshotModel}
use Rattle.sled_store.specs.Device.{overwritten, LeavesLog, Placement}
use Rattle.sled_store.specs.Foreign.{NoForeignLog}
use Rattle.sled_store.proofs.Segments.Elements.{in_first}
use Rattle.sled_core.specs.Begun.{records_to}
use Rattle.sled_core.specs.OpenBatches.{stable_below}
use Rattle.sled_core.specs.declared.iobuf.SegmentPosition.{SegmentPosition}
use Rattle.sled_core.specs.declared.iterator.scan.ScanEnd.{ScanEnd}
use Rattle.sled_core.specs.declared.iterator.scan.ScanEnd.TheVariants.{Full, Broken}
use Rattle.sled_core.specs.inside.Reached.{BegunSegment, IsReadTo, IsSoFar, StandsAmong, StandsIn}
use Rattle.sled_core.specs.Scan.{IsEnd, IsScan}
use Rattle.sled_core.specs.Tail.{Scanned, least_place}
use Rattle.sled_core.proofs.Reached.SegmentsBeside.{begins_still, follow_still, grown_one, was_other}
use Rattle.sled_core.proofs.Reached.StandsTo.{StandsFrom, StandsTo}
use Rattle.sled_core.proofs.Reached.WrittenUnread.{torn_full, written_full}
use Rattle.sled_core.proofs.Sealed.BehindRead.{StandsAfter, stands_after}
use Rattle.sled_core.proofs.Sealed.FullSegment.{full_why}
use Rattle.sled_core.proofs.Sealed.GapWritten.{other_gap}
use Rattle.sled_core.proofs.Tail.OneTail.{segment_there}
use Rattle.sled_core.proofs.Torn.TornLemmas.{after_write}

-- Where something is left of a segment, but no header has room there.
module _ (sum : List ℕ → ℕ) (size : ℕ) (some : 256 ≤ size) (old : List ℕ) (site : SegmentPosition) (from at : ℕ) (asked : List ℕ) (inside : at + length asked ≤ size) (slot_begins : site.slot % size ≡ 0)
    (behind : from ≤ at) (left_over : from < size) (full : size < from + 32) (reach : ℕ) (H : History) (first : SnapshotModel) (is : StandsTo sum size old H (stable_below reach H.batches) first reach) {records : ℕ} (its : StandsIn sum size old (least_place size first) is.scanned site from records) where
  abbrev new : List ℕ
  new = overwritten old (site.slot + at) asked

  -- the number of its slot
  abbrev slot : ℕ
  slot = site.slot / size

  its_slot : slot * size ≡ site.slot
  its_slot = omega (arith, mod-add-div' site.slot size, slot_begins)

  read : (stop : ℕ) × (why : ScanEnd) × IsReadTo is.scanned site.slot site.place stop why × IsSoFar size from stop why × (from ≡ size → records ≤ stop)
  read = its.read (omega (arith, some, full))

  abbrev z : Scanned
  z = read.2.scan

  stops : z.stop ≡ from
  stops = elim read.3 [ inl (there, broken) ↦ read.2.ended ∙ there | inr (whole, goes) ↦ absurd (omega (arith, whole, left_over)) ]

  -- What a crash leaves of it.
  pub torn_rest : (now left : List ℕ) → length now ≤ length asked → LeavesLog (after_write old (site.slot + at) asked now) left → {placed : List Placement}
      → NoForeignLog sum size (after_write old (site.slot + at) asked now) placed left → StandsTo sum size left H (stable_below reach H.batches) first reach
  torn_rest now left no_more leaves {placed} only_own =
      torn_full sum size some old slot at asked inside H (stable_below reach H.batches) first reach is z read.2.there (read.2.in_slot ∙ sym its_slot) (omega (arith, stops, behind)) (omega (arith, stops, full)) now left no_more
      (subst (λ n. LeavesLog (after_write old (n + at) asked now) left) (sym its_slot) leaves)
      (subst (λ n. NoForeignLog sum size (after_write old (n + at) asked now) placed left) (sym its_slot) only_own)

  -- All of it, where the file reaches up to the slot.
  module _ (there : site.slot ≤ length old) where
    stands : StandsFrom sum size new H (stable_below reach H.batches) first reach is.from
    stands = subst (λ n. StandsFrom sum size (overwritten old (n + at) asked) H (stable_below reach H.batches) first reach is.from) its_slot
        (written_full sum size some old slot at asked inside H (stable_below reach H.batches) first reach is z read.2.there (read.2.in_slot ∙ sym its_slot) (omega (arith, stops, behind)) (omega (arith, stops, full)) (omega (arith, its_slot, there)))

    its_why : z.why ≡ Full
    unfolding IsScan
    its_why = full_why sum size old z.segment.slot z.segment.place z.stop z.why (omega (arith, stops, full)) (segment_there sum size old is.ordering is.scanned is.reads z read.2.there).1.1

    ends : IsEnd sum size new z.segment.slot z.segment.place z.stop Full
    ends = omega (arith, stops, full)

    pub rest_stands : StandsAfter sum size old new site from records reach H first is.from
    rest_stands = stands_after sum size some old site from at asked inside slot_begins there reach H first is its z read.2.there read.2.in_slot read.2.at_place (omega (arith, stops, behind))
        (inl (stops, λ room. absurd (omega (arith, room, full)))) left_over stands.0 stands.1 (subst (λ (w : ScanEnd). IsEnd sum size new z.segment.slot z.segment.place z.stop w) (sym its_why) ends)

-- A segment behind the first one in which no header has room any more is full, whether something is left of it or not.
module _ (sum : List ℕ → ℕ) (size : ℕ) (some : 256 ≤ size) (log : List ℕ) (site : SegmentPosition) (from : ℕ) (pre : List BegunSegment) (y : BegunSegment) (post : List BegunSegment) (full : size < y.from + 32) (up_to : records_to y.filled size ≤ y.from)
    (reach : ℕ) (H : History) (first : SnapshotModel) {held : ℕ} (among : StandsAmong sum held size log site from (pre ++ y ∷ post) reach H first) where
  its_stands : StandsIn sum size log (least_place size first) among.stands.scanned y.site y.from (records_to y.filled size)
  its_stands = among.behind y (Contains-append_right pre (y ∷ post) y (in_first y post))

  its_read : (stop : ℕ) × (why : ScanEnd) × IsReadTo among.stands.scanned y.site.slot y.site.place stop why × IsSoFar size y.from stop why × (y.from ≡ size → records_to y.filled size ≤ stop)
  its_read = its_stands.read (omega (arith, some, full))

  leads_on : its_read.1 ≢ Broken
  unfolding IsScan
  leads_on = elim its_read.3 [
    | inl (there, broken) ↦ (λ same.
        let is = its_read.2 in
        let t : Scanned = is.scan in
        let ended = is.ended in
        let known = segment_there sum size log among.stands.ordering among.stands.scanned among.stands.reads t is.there in
        let never : Full ≡ Broken = sym (full_why sum size log t.segment.slot t.segment.place t.stop t.why (omega (arith, ended, there, full)) known.1.1) ∙ is.ends ∙ same in cc)
    | inr (whole, goes) ↦ goes
  ]

  -- it is read up to its records' end
  behind_records : records_to y.filled size ≤ its_read.0
  behind_records = elim its_read.3 [
    | inl (there, broken) ↦ omega (arith, up_to, there)
    | inr (whole, goes) ↦ its_read.4 whole
  ]

  whole_stands : StandsIn sum size log (least_place size first) among.stands.scanned y.site size (records_to y.filled size)
  whole_stands = record { only = its_stands.only; own = its_stands.own; read = λ later. (its_read.0, its_read.1, its_read.2, inr (refl, leads_on), λ same. behind_records) }

  pub other_full : StandsAmong sum held size log site from (pre ++ grown_one y size ∷ post) reach H first
  other_full = record {
    stands = among.stands;
    low = among.low;
    reached = among.reached;
    led = among.led;
    here = among.here;
    behind = λ x has. elim (was_other site pre y post size y.filled among.apart x has) [
      | inl one ↦ subst (λ (w : BegunSegment). StandsIn sum size log (least_place size first) among.stands.scanned w.site w.from (records_to w.filled size)) (sym one) whole_stands
      | inr (had, other, behind) ↦ among.behind x had
    ];
    apart = follow_still site pre y post size y.filled among.apart;
    last = λ s found. elim (among.last s found) [ inl low ↦ inl low | inr one ↦ inr (begins_still pre y post size s.place y.filled one) ];
    below = among.below;
  }

-- So it is once what is left of it is written.
pub other_rest_written : (sum : List ℕ → ℕ) (size : ℕ) (some : 256 ≤ size) (old : List ℕ) (site : SegmentPosition) (from : ℕ) (pre : List BegunSegment) (y : BegunSegment) (post : List BegunSegment) (at : ℕ) (asked : List ℕ) → at + length asked ≤ size → y.site.slot % size ≡ 0
    → y.from ≤ at → y.from < size → size < y.from + 32 → records_to y.filled size ≤ y.from → (reach : ℕ) (H : History) (first : SnapshotModel) → {held : ℕ} → StandsAmong sum held size old site from (pre ++ y ∷ post) reach H first → y.site.slot ≤ length old
    → StandsAmong sum held size (overwritten old (y.site.slot + at) asked) site from (pre ++ grown_one y size ∷ post) reach H first
other_rest_written sum size some old site from pre y post at asked inside slot_begins behind left_over full up_to reach H first among there =
    let its : Contains (pre ++ y ∷ post) y = Contains-append_right pre (y ∷ post) y (in_first y post) in
    other_full sum size some (overwritten old (y.site.slot + at) asked) site from pre y post full up_to reach H first
    (other_gap sum size some old site from (pre ++ y ∷ post) reach H first among y.site at asked inside slot_begins there y its refl
    (rest_stands sum size some old y.site y.from at asked inside slot_begins behind left_over full reach H first among.stands (among.behind y its) there))
