-- All of a write that begins a segment in a slot of zeros is written and synced: the log file stands up to where the reading of that segment ends.
use Rattle.std.proofs.Common.{◌≡◌, ◌≢◌, ◌∙◌, ◌+◌, ◌*◌, ◌%◌, ◌^◌, ◌<◌, ◌≤◌, ℕ, ℤ, pos, List, length, take, get_or}
use Rattle.std.specs.List.{Contains}
use Rattle.std.proofs.Math.Nat.{mul-mod_left}
use Rattle.sled_codec.specs.History.{History}
use Rattle.sled_codec.specs.Places.{part}
use Rattle.sled_codec.specs.Record.{IsHeader}
use Rattle.sled_codec.specs.Snapshots.{SnapshotModel}
use Rattle.sled_store.specs.Device.{overwritten, LeavesLog}
use Rattle.sled_core.specs.declared.iterator.Segment.{Segment}
use Rattle.sled_core.specs.declared.iterator.scan.ScannedRecord.{ScannedRecord}
use Rattle.sled_core.specs.declared.iterator.scan.ScanEnd.{ScanEnd}
use Rattle.sled_core.specs.declared.iterator.scan.ScanEnd.TheVariants.{Broken}
use Rattle.sled_core.specs.OpenBatches.{stable_below}
use Rattle.sled_core.specs.inside.Recoverable.{NothingBehind, NoMessageBegins, IsOfHistory, IsMarkOf, IsMarkBelow}
use Rattle.sled_core.specs.Recoverable.{NoHeaderOfZeros}
use Rattle.sled_core.specs.Scan.{IsPath, IsEnd, IsScan}
use Rattle.sled_core.proofs.Torn.TornLemmas.{after_write}
use Rattle.sled_core.proofs.Torn.WrittenBegun.{none_stood, header_new}
use Rattle.sled_core.specs.Tail.{Scanned, least_place}
use Rattle.sled_store.proofs.Histories.Ascending.{Ascends}
use Rattle.sled_core.proofs.Reached.Higher.{IsBegunOrLedTo, known_in, led_as_before, stands_higher}
use Rattle.sled_core.proofs.Reached.LeftBeside.{IsSameBeside}
use Rattle.sled_core.proofs.Reached.StandsTo.{StandsFrom, StandsTo}
use Rattle.sled_core.proofs.Reached.TornBegun as begun
use Rattle.sled_core.proofs.Reached.WrittenWhole.{all_done, leaves_new, meets_whole, same_whole}

module _ (sum : List ℕ → ℕ) (size : ℕ) (some : 256 ≤ size) (old : List ℕ) (slot from : ℕ) (asked : List ℕ) (inside : from + length asked ≤ size)
    (H : History) (ordered : Ascends H.messages) (A : ℕ) (first : SnapshotModel) (reach : ℕ) (is : StandsTo sum size old H A first reach) where
  abbrev new : List ℕ
  new = overwritten old (slot * size + from) asked

  abbrev least : ℕ
  least = least_place size first

  -- At the beginning of a segment, in a slot of zeros.
  module _ (none : NoHeaderOfZeros sum) (there : slot * size ≤ length old) (begins : from ≡ 0) (until : ℕ) (covers : from + length asked ≤ until) (clean : (i : ℕ) → slot * size + from ≤ i → i < slot * size + until → get_or old i 0 ≡ 0)
      (place : ℕ) (mark : ℤ) (header : IsHeader sum (take 20 asked) (pos place) mark) (low : least ≤ place) (whole : place % size ≡ 0) (fits : place + size < 2 ^ 63)
      (its_mark : IsMarkOf H (record { place = place; slot = slot * size; mark = mark })) (mark_below : IsMarkBelow size H A mark) (alone : (s : Segment) → Contains is.ordering s → s.place ≢ place)
      (more : List ScannedRecord) (stop : ℕ) (why : ScanEnd) (path : IsPath sum size new (slot * size) place 20 more stop) (end : IsEnd sum size new (slot * size) place stop why)
      (truth : (x : ScannedRecord) → Contains more x → IsOfHistory sum size new H x) (caps : NothingBehind size H place stop why) where
    done : length asked ≤ length asked
    done = all_done sum size some old slot from asked inside there

    leaves : LeavesLog (after_write old (slot * size + from) asked asked) new
    leaves = leaves_new sum size some old slot from asked inside there

    same : IsSameBeside sum size old new (slot * size)
    same = same_whole sum size some old slot from asked inside there

    free : (lsn other : ℤ) → IsHeader sum (part old (slot * size) 20) lsn other → ⊥
    free = none_stood sum size old slot from asked asked new inside done leaves until covers clean none begins place mark header

    came : IsHeader sum (part new (slot * size) 20) (pos place) mark
    came = header_new sum size old slot from asked asked new inside done leaves until covers clean none begins place mark header

    both : StandsFrom sum size new H A first reach is.from
    both = begun.stands_with sum size some old slot from asked asked new inside done leaves same free H A first reach is place mark came low whole fits its_mark mark_below alone more stop why truth caps
        (meets_whole sum size new (slot * size) place 20 more stop why path end)

    -- All is read up to the same place as before, and the new segment up to where the path ends.
    pub stands : StandsTo sum size new H A first reach
    stands = both.0

    -- What is held counts from where it did.
    pub stands_from : stands.from ≡ is.from
    unfolding stands
    stands_from = both.1

    abbrev pub y : Scanned
    y = record { segment = record { place = place; slot = slot * size; mark = mark }; met = more; stop = stop; why = why }

    pub y_known : Contains stands.scanned y
    unfolding IsScan
    y_known = known_in sum size new H A first reach stands y (record { slot = mul-mod_left slot size; header = came; not_below = low }) (path, end)

    stays : (t : Scanned) → Contains is.scanned t → t.why ≢ Broken → Contains stands.scanned t
    stays t at_t goes =
        let found = (begun.was_found sum size some old slot from asked asked new inside done leaves same free H A first reach is t at_t).0 in
        known_in sum size new H A first reach stands t (begun.all_found sum size some old slot from asked asked new inside done leaves same free H A first reach is least t.segment found)
        (begun.still_read sum size some old slot from asked asked new inside done leaves same free H A first reach is t at_t)

    pub written_begun : A ≤ stable_below reach H.batches → reach ≤ place + stop → IsBegunOrLedTo size is.scanned least reach place → NoMessageBegins H reach place
        → StandsFrom sum size new H (stable_below (place + stop) H.batches) first (place + stop) is.from
    written_begun stable far led between =
        let higher = stands_higher sum size new some H A first reach stands ordered y y_known far (led_as_before size is.scanned stands.scanned least reach place stays led) between stable in
        (higher.0, higher.1 ∙ stands_from)
