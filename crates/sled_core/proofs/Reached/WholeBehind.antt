-- All of a write behind the header of a segment is written and synced: the log file stands up to where the reading of that segment ends.
use Rattle.std.proofs.Common.{◌≡◌, ◌≢◌, ◌∙◌, ◌+◌, ◌*◌, ◌≤◌, ℕ, List, ◌++◌, length, sym, ap, subst, arith, inl, inr}
use Rattle.std.specs.List.{Contains}
use Rattle.sled_codec.specs.History.{History}
use Rattle.sled_codec.specs.Snapshots.{SnapshotModel}
use Rattle.sled_store.specs.Device.{overwritten, LeavesLog}
use Rattle.sled_core.specs.declared.iterator.Segment.{Segment}
use Rattle.sled_core.specs.declared.iterator.scan.ScannedRecord.{ScannedRecord}
use Rattle.sled_core.specs.declared.iterator.scan.ScanEnd.{ScanEnd}
use Rattle.sled_core.specs.declared.iterator.scan.ScanEnd.TheVariants.{Broken}
use Rattle.sled_core.specs.OpenBatches.{stable_below}
use Rattle.sled_core.specs.inside.Recoverable.{NothingBehind, NoMessageBegins, IsOfHistory}
use Rattle.sled_core.specs.inside.Scan.{IsFoundSegment}
use Rattle.sled_core.specs.Scan.{IsPath, IsEnd, IsScan}
use Rattle.sled_core.proofs.Read.FoundLemmas.{found_there}
use Rattle.sled_core.proofs.Torn.TornLemmas.{after_write}
use Rattle.sled_core.proofs.Torn.WrittenParts.{paths_joined}
use Rattle.sled_core.specs.Tail.{Scanned, IsScanned, least_place}
use Rattle.sled_store.proofs.Histories.Ascending.{Ascends}
use Rattle.sled_core.proofs.Tail.OneTail.{segment_there}
use Rattle.sled_core.proofs.Reached.Higher.{IsBegunOrLedTo, known_in, led_as_before, stands_higher}
use Rattle.sled_core.proofs.Reached.LeftBeside.{IsSameBeside}
use Rattle.sled_core.proofs.Reached.StandsTo.{StandsFrom, StandsTo}
use Rattle.sled_core.proofs.Reached.TornBehind as behind
use Rattle.sled_core.proofs.Reached.WrittenWhole.{all_done, leaves_new, meets_whole, same_whole}

module _ (sum : List ℕ → ℕ) (size : ℕ) (some : 256 ≤ size) (old : List ℕ) (slot from : ℕ) (asked : List ℕ) (inside : from + length asked ≤ size)
    (H : History) (ordered : Ascends H.messages) (A : ℕ) (first : SnapshotModel) (reach : ℕ) (is : StandsTo sum size old H A first reach) where
  abbrev new : List ℕ
  new = overwritten old (slot * size + from) asked

  abbrev least : ℕ
  least = least_place size first

  -- Behind the header of a segment.
  module _ (z : Scanned) (known : Contains is.scanned z) (in_slot : z.segment.slot ≡ slot * size) (ended : z.stop ≡ from) (broken : z.why ≡ Broken)
      (more : List ScannedRecord) (stop : ℕ) (why : ScanEnd) (path : IsPath sum size new (slot * size) z.segment.place from more stop) (end : IsEnd sum size new (slot * size) z.segment.place stop why)
      (truth : (x : ScannedRecord) → Contains more x → IsOfHistory sum size new H x)
      (caps : NothingBehind size H z.segment.place stop why) where
    z_found : IsFoundSegment sum size old least z.segment
    z_found = (is.numbers.found z.segment).0 (segment_there sum size old is.ordering is.scanned is.reads z known).0

    there : slot * size ≤ length old
    there = let lies = found_there sum size old least z.segment z_found in omega (arith, lies, in_slot)

    done : length asked ≤ length asked
    done = all_done sum size some old slot from asked inside there

    leaves : LeavesLog (after_write old (slot * size + from) asked asked) new
    leaves = leaves_new sum size some old slot from asked inside there

    same : IsSameBeside sum size old new (slot * size)
    same = same_whole sum size some old slot from asked inside there

    both : StandsFrom sum size new H A first reach is.from
    both = behind.stands_behind sum size some old slot from asked asked new inside done leaves same H A first reach is z known in_slot from (omega arith) ended more stop why truth caps
        (meets_whole sum size new (slot * size) z.segment.place from more stop why path end) (λ other. absurd (other broken))

    -- All is read up to the same place as before, and this segment up to where the path ends.
    pub stands : StandsTo sum size new H A first reach
    stands = both.0

    -- What is held counts from where it did.
    pub stands_from : stands.from ≡ is.from
    unfolding stands
    stands_from = both.1

    all_found : (s : Segment) → IsFoundSegment sum size old least s → IsFoundSegment sum size new least s
    all_found = behind.all_found sum size some old slot from asked asked new inside done leaves same H A first reach is z known in_slot from (omega arith) ended least

    abbrev pub y : Scanned
    y = record { segment = z.segment; met = z.met ++ more; stop = stop; why = why }

    y_scan : IsScanned sum size new y
    unfolding IsScan
    y_scan =
        let stood = behind.before_left sum size some old slot from asked asked new inside done leaves same H A first reach is z known in_slot from (omega arith) ended in
        subst (λ n. IsScan sum size new n z.segment.place y.met y.stop y.why) (sym in_slot) (paths_joined sum size new (slot * size) z.segment.place 20 z.met from more stop stood path, end)

    pub y_known : Contains stands.scanned y
    y_known = known_in sum size new H A first reach stands y (all_found z.segment z_found) y_scan

    -- one that leads on is another one, and is read as before
    stays : (t : Scanned) → Contains is.scanned t → t.why ≢ Broken → Contains stands.scanned t
    stays t at_t goes = elim (behind.which sum size some old slot from asked asked new inside done leaves same H A first reach is z known in_slot from (omega arith) ended t at_t) [
      | inl one ↦ absurd (goes (ap (λ (u : Scanned). u.why) one ∙ broken))
      | inr other ↦ (
          let had = segment_there sum size old is.ordering is.scanned is.reads t at_t in
          let found = (is.numbers.found t.segment).0 had.0 in
          known_in sum size new H A first reach stands t (all_found t.segment found) (same.scans least t found other had.1))
    ]

    pub written_behind : A ≤ stable_below reach H.batches → reach ≤ z.segment.place + stop → IsBegunOrLedTo size is.scanned least reach z.segment.place → NoMessageBegins H reach z.segment.place
        → StandsFrom sum size new H (stable_below (z.segment.place + stop) H.batches) first (z.segment.place + stop) is.from
    written_behind stable far led between =
        let higher = stands_higher sum size new some H A first reach stands ordered y y_known far (led_as_before size is.scanned stands.scanned least reach z.segment.place stays led) between stable in
        (higher.0, higher.1 ∙ stands_from)
