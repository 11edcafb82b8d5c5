-- A buffer is written to a segment that no reader is led to yet: all is read up to the same place as before, and that segment up to where its records end now.
use Rattle.std.proofs.Common.{◌≡◌, ◌⊎◌, ◌+◌, ◌*◌, ◌<◌, ◌≤◌, ℕ, max, List, length, get_or, refl, inl, inr}
use Rattle.std.specs.List.{Contains}
use Rattle.sled_codec.specs.History.{History}
use Rattle.sled_codec.specs.Snapshots.{SnapshotModel}
use Rattle.sled_store.specs.Device.{overwritten}
use Rattle.sled_store.proofs.Histories.Ascending.{Ascends}
use Rattle.sled_core.specs.declared.iterator.scan.ScannedRecord.{ScannedRecord}
use Rattle.sled_core.specs.declared.iterator.scan.ScanEnd.{ScanEnd}
use Rattle.sled_core.specs.inside.Reached.{GoesOnIn, IsReadTo}
use Rattle.sled_core.specs.inside.Recoverable.{NothingBehind, IsOfHistory}
use Rattle.sled_core.specs.Recoverable.{NoHeaderOfZeros}
use Rattle.sled_core.specs.Scan.{IsPath, IsEnd}
use Rattle.sled_core.specs.Tail.{least_place}
use Rattle.sled_core.proofs.Reached.OneWrite as one
use Rattle.sled_core.proofs.Reached.OneWrite.{BeginsSegment}
use Rattle.sled_core.proofs.Reached.StandsTo.{StandsTo}
use Rattle.sled_core.proofs.Reached.WholeBegun as begun
use Rattle.sled_core.proofs.Reached.WholeBehind as behind
use Rattle.sled_core.proofs.Torn.WrittenRecords.{AreClear}

module _ (sum : List ℕ → ℕ) (none : NoHeaderOfZeros sum) (size : ℕ) (some : 256 ≤ size) (old : List ℕ) (slot from : ℕ) (asked : List ℕ) (inside : from + length asked ≤ size) (there : slot * size ≤ length old)
    (until : ℕ) (covers : from + length asked ≤ until) (clean : (i : ℕ) → slot * size + from ≤ i → i < slot * size + until → get_or old i 0 ≡ 0) (H : History) (ordered : Ascends H.messages) (A : ℕ) (first : SnapshotModel) (reach : ℕ)
    (is : StandsTo sum size old H A first reach) (place : ℕ) (low : least_place size first ≤ place) (how : GoesOnIn is.scanned (slot * size) from place ⊎ BeginsSegment sum size H is.ordering A (slot * size) from asked place)
    (more : List ScannedRecord) (stop : ℕ) (why : ScanEnd) (clear : AreClear size until (max 20 from) more) (path : IsPath sum size (overwritten old (slot * size + from) asked) (slot * size) place (max 20 from) more stop)
    (end : IsEnd sum size (overwritten old (slot * size + from) asked) (slot * size) place stop why) (truth : (x : ScannedRecord) → Contains more x → IsOfHistory sum size (overwritten old (slot * size + from) asked) H x)
    (caps : NothingBehind size H place stop why) where
  abbrev new : List ℕ
  new = overwritten old (slot * size + from) asked

  -- The file stands as far as before, and the segment is read up to where its records end.
  pub unreached_write : (now : StandsTo sum size new H A first reach) × IsReadTo now.scanned (slot * size) place stop why × (now.from ≡ is.from)
  unreached_write = elim how [
    | inl g ↦ (
        let path_g = one.path_on sum none size some old slot from asked inside until covers clean H A first reach is place (inl g) more stop why clear path end truth caps g in
        let end_g = one.end_on sum none size some old slot from asked inside until covers clean H A first reach is place (inl g) more stop why clear path end truth caps g in
        let caps_g = one.caps_on sum none size some old slot from asked inside until covers clean H A first reach is place (inl g) more stop why clear path end truth caps g in (
          behind.stands sum size some old slot from asked inside H ordered A first reach is g.scan g.there g.in_slot g.ended g.broken more stop why path_g end_g truth caps_g,
          record {
            scan = behind.y sum size some old slot from asked inside H ordered A first reach is g.scan g.there g.in_slot g.ended g.broken more stop why path_g end_g truth caps_g;
            there = behind.y_known sum size some old slot from asked inside H ordered A first reach is g.scan g.there g.in_slot g.ended g.broken more stop why path_g end_g truth caps_g;
            in_slot = g.in_slot;
            at_place = g.at_place;
            ended = refl;
            ends = refl;
          },
          behind.stands_from sum size some old slot from asked inside H ordered A first reach is g.scan g.there g.in_slot g.ended g.broken more stop why path_g end_g truth caps_g,
        ))
    | inr b ↦ (
        let path_b = one.path_first sum none size some old slot from asked inside until covers clean H A first reach is place (inr b) more stop why clear path end truth caps b.begins in (
          begun.stands sum size some old slot from asked inside H ordered A first reach is none there b.begins until covers clean place b.mark b.header low b.whole b.fits b.its_mark b.mark_below b.alone more stop why path_b end truth caps,
          record {
            scan = begun.y sum size some old slot from asked inside H ordered A first reach is none there b.begins until covers clean place b.mark b.header low b.whole b.fits b.its_mark b.mark_below b.alone more stop why path_b end truth caps;
            there = begun.y_known sum size some old slot from asked inside H ordered A first reach is none there b.begins until covers clean place b.mark b.header low b.whole b.fits b.its_mark b.mark_below b.alone more stop why path_b end truth caps;
            in_slot = refl;
            at_place = refl;
            ended = refl;
            ends = refl;
          },
          begun.stands_from sum size some old slot from asked inside H ordered A first reach is none there b.begins until covers clean place b.mark b.header low b.whole b.fits b.its_mark b.mark_below b.alone more stop why path_b end truth caps,
        ))
  ]
