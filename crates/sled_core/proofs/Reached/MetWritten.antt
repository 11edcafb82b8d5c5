-- A message of the history that begins in what is written of a segment is met there, even where a reader who comes from below doesn't come so far. So a record may begin at its offset.
use Rattle.std.proofs.Common.{◌≡◌, ◌≢◌, ◌∙◌, ◌+◌, ◌%◌, ◌<◌, ◌≤◌, ℕ, List, refl, sym, ap, arith, inl, inr}
use Rattle.std.specs.List.{Contains}
use Rattle.std.proofs.lemmas.Bool.{cases_lt}
use Rattle.sled_codec.specs.History.{Message, History}
use Rattle.sled_codec.specs.Places.{MayBegin}
use Rattle.sled_codec.specs.Pointers.{lid_of}
use Rattle.sled_codec.specs.Snapshots.{SnapshotModel}
use Rattle.sled_store.proofs.Histories.Ascending.{Ascends}
use Rattle.sled_core.specs.declared.iobuf.SegmentPosition.{SegmentPosition}
use Rattle.sled_core.specs.declared.iterator.Segment.{Segment}
use Rattle.sled_core.specs.declared.iterator.scan.ScanEnd.{ScanEnd}
use Rattle.sled_core.specs.declared.iterator.scan.ScanEnd.TheVariants.{Full, Capped, Broken}
use Rattle.sled_core.specs.inside.Reached.{StandsIn, StandsTo}
use Rattle.sled_core.specs.inside.Recoverable.{IsReachedIn}
use Rattle.sled_core.specs.Scan.{IsEnd}
use Rattle.sled_core.specs.Tail.{Scanned, least_place}
use Rattle.sled_core.proofs.Read.ScanLemmas.{aligned_offset}
use Rattle.sled_core.proofs.Reached.ReachedEntries.{reached_of}
use Rattle.sled_core.proofs.Tail.Multiples.{one_multiple, put_down}
use Rattle.sled_core.proofs.Tail.OfHistory.{message_of}
use Rattle.sled_core.proofs.Tail.Rows.{IsWhole, covers, end_there, stop_inside}
use Rattle.sled_core.proofs.Tail.Tails.{whole}
use Rattle.sled_core.proofs.Torn.WrittenParts.{path_rises}

-- A record may begin where a reader comes to a message.
pub reached_begins : (sum : List ℕ → ℕ) (size : ℕ) (log : List ℕ) (s : Segment) (m : Message) → s.slot % size ≡ 0 → IsReachedIn sum size log s m → MayBegin size (lid_of m.pointer)
reached_begins sum size log s m slot at =
    let up = path_rises sum size log s.slot s.place 20 at.before at.at at.path in
    let room = at.room in
    let offset : lid_of m.pointer % size ≡ at.at = ap (λ n. n % size) at.lid ∙ aligned_offset s.slot at.at size slot (omega (arith, room)) in
    record { behind_header = omega (arith, offset, up); before_end = omega (arith, offset, room) }

module _ (sum : List ℕ → ℕ) (size : ℕ) (log : List ℕ) (some : 256 ≤ size) (H : History) (A : ℕ) (first : SnapshotModel) (reach : ℕ) (is : StandsTo sum size log H A first reach) (ordered : Ascends H.messages) (m : Message) (there : Contains H.messages m) where
  module _ (t : Scanned) (known : Contains is.scanned t) (above : t.segment.place ≤ m.place) where
    read : IsWhole sum size log some t
    read = whole sum size log some (least_place size first) is.ordering is.numbers is.scanned is.reads t known

    -- in a segment that is read it is met, where it begins in front of where the reading ends
    met_before : m.place < t.segment.place + t.stop → IsReachedIn sum size log t.segment m
    met_before lower =
        let behind = (is.placed m there).begins.behind in
        let short = stop_inside sum size log some t read in
        let multiple = one_multiple size some t.segment.place m.place read.1 above (omega (arith, lower, short)) in
        let parts = put_down size m.place in
        let x = covers sum size log some t read m.place (omega (arith, behind, multiple, parts.0)) lower in
        let its = message_of sum size log H ordered x.0 (is.truth t x.0 known x.1) m there x.2 x.3 in
        reached_of sum size log t read.0 x.0 x.1 m its.0

    -- so it is anywhere in one whose reading leads on, since nothing begins behind where that ends
    met_within : t.why ≢ Broken → m.place < t.segment.place + size → IsReachedIn sum size log t.segment m
    met_within goes lower = elim (cases_lt m.place (t.segment.place + t.stop)) [
      | inl before ↦ met_before before
      | inr behind ↦ absurd (none_behind behind t.why refl (end_there sum size log some t read))
    ]
      where
        none_behind : t.segment.place + t.stop ≤ m.place → (why : ScanEnd) → t.why ≡ why → IsEnd sum size log t.segment.slot t.segment.place t.stop why → ⊥
        none_behind behind Full is_why full =
            let room = (is.placed m there).begins.room in
            let multiple = one_multiple size some t.segment.place m.place read.1 above lower in
            let parts = put_down size m.place in
            omega (arith, behind, full, room, multiple, parts.0)
        none_behind behind Capped is_why capped = elim (((is.caps t known).0 is_why).0 m there) [
          | inl under ↦ omega (arith, under, behind)
          | inr over ↦ omega (arith, over, lower)
        ]
        none_behind behind Broken is_why broken = goes is_why

  -- Where so much is written of a segment, a record may begin at the offset of each message that begins in that.
  pub written_begins : (site : SegmentPosition) (from records : ℕ) → StandsIn sum size log (least_place size first) is.scanned site from records → from ≤ size → site.place ≤ m.place → m.place < site.place + from → MayBegin size (lid_of m.pointer)
  written_begins site from records stands short above lower =
      let (stop, why, at, so_far, far) = stands.read (omega (arith, above, lower)) in
      let t : Scanned = at.scan in
      let place : t.segment.place ≡ site.place = at.at_place in
      let slot = (whole sum size log some (least_place size first) is.ordering is.numbers is.scanned is.reads t at.there).2 in
      reached_begins sum size log t.segment m slot (elim so_far [
        | inl ended ↦ met_before t at.there (omega (arith, place, above)) (omega (arith, place, lower, at.ended, ended.0))
        | inr full ↦ met_within t at.there (omega (arith, place, above)) (λ broken. full.1 (sym at.ends ∙ broken)) (omega (arith, place, lower, short))
      ])
