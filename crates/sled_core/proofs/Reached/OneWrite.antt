-- One write of a buffer to a slot, behind the header of a segment or at the beginning of one: what a crash leaves of it stands up to the same place, and all of it up to where the reading of the segment ends.
use Rattle.std.proofs.Common.{◌≡◌, ◌≢◌, ◌⊎◌, ◌+◌, ◌*◌, ◌%◌, ◌^◌, ◌<◌, ◌≤◌, ℕ, ℤ, pos, max, List, length, take, get_or, sym, subst, arith, inl, inr}
use Rattle.std.specs.List.{Contains}
use Rattle.sled_codec.specs.History.{History}
use Rattle.sled_codec.specs.Record.{IsHeader}
use Rattle.sled_codec.specs.Snapshots.{SnapshotModel}
use Rattle.sled_store.specs.Device.{overwritten, LeavesLog, Placement}
use Rattle.sled_store.specs.Foreign.{NoForeignLog}
use Rattle.sled_core.specs.declared.iterator.Segment.{Segment}
use Rattle.sled_core.specs.declared.iterator.scan.ScannedRecord.{ScannedRecord}
use Rattle.sled_core.specs.declared.iterator.scan.ScanEnd.{ScanEnd}
use Rattle.sled_core.specs.OpenBatches.{stable_below}
use Rattle.sled_core.specs.inside.Recoverable.{NothingBehind, NoMessageBegins, IsOfHistory, IsMarkOf, IsMarkBelow}
use Rattle.sled_core.specs.Recoverable.{NoHeaderOfZeros}
use Rattle.sled_core.specs.Scan.{IsPath, IsEnd, IsScan}
use Rattle.sled_core.proofs.Torn.TornLemmas.{after_write}
use Rattle.sled_core.proofs.Torn.WrittenParts.{path_rises}
use Rattle.sled_core.proofs.Torn.WrittenRecords.{AreClear}
use Rattle.sled_core.specs.Tail.{Scanned, least_place}
use Rattle.sled_store.proofs.Histories.Ascending.{Ascends}
use Rattle.sled_core.proofs.Tail.OneTail.{segment_there}
use Rattle.sled_core.proofs.Reached.Higher.{IsBegunOrLedTo}
use Rattle.sled_core.proofs.Reached.StandsTo.{StandsFrom, StandsTo}
pub use Rattle.sled_core.specs.inside.Reached.{GoesOnIn}
use Rattle.sled_core.proofs.Reached.TornBegun.{torn_begun}
use Rattle.sled_core.proofs.Reached.TornBehind.{torn_behind}
use Rattle.sled_core.proofs.Reached.WholeBegun.{written_begun}
use Rattle.sled_core.proofs.Reached.WholeBehind.{written_behind}

-- The write begins a segment. None that is found has its place.
pub record BeginsSegment (sum : List ℕ → ℕ) (size : ℕ) (H : History) (ordering : List Segment) (stable slot from : ℕ) (asked : List ℕ) (place : ℕ) : Type 0 where
  pub begins : from ≡ 0
  pub mark : ℤ
  pub header : IsHeader sum (take 20 asked) (pos place) mark
  pub whole : place % size ≡ 0
  pub fits : place + size < 2 ^ 63
  pub its_mark : IsMarkOf H (record { place = place; slot = slot; mark = mark })
  pub mark_below : IsMarkBelow size H stable mark
  pub alone : (s : Segment) → Contains ordering s → s.place ≢ place

module _ (sum : List ℕ → ℕ) (none : NoHeaderOfZeros sum) (size : ℕ) (some : 256 ≤ size) (old : List ℕ) (slot from : ℕ) (asked : List ℕ) (inside : from + length asked ≤ size)
    (until : ℕ) (covers : from + length asked ≤ until) (clean : (i : ℕ) → slot * size + from ≤ i → i < slot * size + until → get_or old i 0 ≡ 0) (H : History) (A : ℕ) (first : SnapshotModel) (reach : ℕ) (is : StandsTo sum size old H A first reach) (place : ℕ)
    (how : GoesOnIn is.scanned (slot * size) from place ⊎ BeginsSegment sum size H is.ordering A (slot * size) from asked place) (more : List ScannedRecord) (stop : ℕ) (why : ScanEnd) (clear : AreClear size until (max 20 from) more)
    (path : IsPath sum size (overwritten old (slot * size + from) asked) (slot * size) place (max 20 from) more stop) (end : IsEnd sum size (overwritten old (slot * size + from) asked) (slot * size) place stop why)
    (truth : (x : ScannedRecord) → Contains more x → IsOfHistory sum size (overwritten old (slot * size + from) asked) H x)
    (caps : NothingBehind size H place stop why) where
  abbrev new : List ℕ
  new = overwritten old (slot * size + from) asked

  -- behind the header
  behind : (g : GoesOnIn is.scanned (slot * size) from place) → 20 ≤ from
  unfolding IsScan
  behind g =
      let z : Scanned = g.scan in
      let scan = (segment_there sum size old is.ordering is.scanned is.reads z g.there).1 in
      let rises = path_rises sum size old z.segment.slot z.segment.place 20 z.met z.stop scan.0 in
      let ended = g.ended in
      omega (arith, rises, ended)

  pub path_on : (g : GoesOnIn is.scanned (slot * size) from place) → IsPath sum size new (slot * size) g.scan.segment.place from more stop
  path_on g =
      let far = behind g in
      let begins : max 20 from ≡ from = omega (arith, far) in
      subst (λ n. IsPath sum size new (slot * size) n from more stop) (sym g.at_place) (subst (λ n. IsPath sum size new (slot * size) place n more stop) begins path)

  clear_on : (g : GoesOnIn is.scanned (slot * size) from place) → AreClear size until from more
  clear_on g = let far = behind g in let begins : max 20 from ≡ from = omega (arith, far) in subst (λ n. AreClear size until n more) begins clear

  clear_first : from ≡ 0 → AreClear size until 20 more
  clear_first begins = let at : max 20 from ≡ 20 = omega (arith, begins) in subst (λ n. AreClear size until n more) at clear

  pub end_on : (g : GoesOnIn is.scanned (slot * size) from place) → IsEnd sum size new (slot * size) g.scan.segment.place stop why
  end_on g = subst (λ n. IsEnd sum size new (slot * size) n stop why) (sym g.at_place) end

  pub caps_on : (g : GoesOnIn is.scanned (slot * size) from place) → NothingBehind size H g.scan.segment.place stop why
  caps_on g = subst (λ n. NothingBehind size H n stop why) (sym g.at_place) caps

  pub path_first : from ≡ 0 → IsPath sum size new (slot * size) place 20 more stop
  path_first begins = let at : max 20 from ≡ 20 = omega (arith, begins) in subst (λ n. IsPath sum size new (slot * size) place n more stop) at path

  -- What a crash leaves of it.
  pub torn_stands : (now left : List ℕ) → length now ≤ length asked → LeavesLog (after_write old (slot * size + from) asked now) left → {placed : List Placement}
      → NoForeignLog sum size (after_write old (slot * size + from) asked now) placed left → StandsTo sum size left H A first reach
  torn_stands now left no_more leaves only_own = elim how [
    | inl g ↦ torn_behind sum size some old slot from asked now left inside no_more leaves until covers clean only_own H A first reach is g.scan g.there g.in_slot g.ended g.broken more stop why (clear_on g) (path_on g) (end_on g) truth (caps_on g)
    | inr b ↦ torn_begun sum none size some old slot from b.begins asked now left inside no_more leaves until covers clean only_own H A first reach is place b.mark b.header b.whole b.fits b.its_mark b.mark_below b.alone more stop why
        (clear_first b.begins) (path_first b.begins) end truth caps
  ]

  -- All of it.
  pub written_stands : Ascends H.messages → slot * size ≤ length old → least_place size first ≤ place → A ≤ stable_below reach H.batches → reach ≤ place + stop → IsBegunOrLedTo size is.scanned (least_place size first) reach place
      → NoMessageBegins H reach place → StandsFrom sum size new H (stable_below (place + stop) H.batches) first (place + stop) is.from
  written_stands ordered there low stable far led between = elim how [
    | inl g ↦ subst
        (λ n. reach ≤ n + stop → IsBegunOrLedTo size is.scanned (least_place size first) reach n → NoMessageBegins H reach n → StandsFrom sum size new H (stable_below (n + stop) H.batches) first (n + stop) is.from)
        g.at_place (written_behind sum size some old slot from asked inside H ordered A first reach is g.scan g.there g.in_slot g.ended g.broken more stop why (path_on g) (end_on g) truth (caps_on g) stable) far led between
    | inr b ↦ written_begun sum size some old slot from asked inside H ordered A first reach is none there b.begins until covers clean place b.mark b.header low b.whole b.fits b.its_mark b.mark_below b.alone more stop why
        (path_first b.begins) end truth caps stable far led between
  ]
