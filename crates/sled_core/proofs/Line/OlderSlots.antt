-- The slots that are older than the segments of a log, as its history grows behind them and a slot is handed out: their segments are whole still.
use Rattle.std.proofs.Common.{◌*◌, ◌%◌, ◌<◌, ◌≤◌, refl, subst, arith, inl, inr, ℕ, List, [], ◌∷◌, length, Option, ◌/◌}
use Rattle.std.specs.declared.io.Error.{Error as IoError}
use Rattle.sled_codec.specs.History.{History}
use Rattle.sled_codec.specs.Snapshots.{SnapshotModel}
use Rattle.sled_core.proofs.Holds.HeldFrom.{held_least}
use Rattle.sled_store.specs.Device.{State}
use Rattle.sled_store.specs.SegmentStates.{Machine, handed_out, next_slot, slot_at}
use Rattle.sled_store.specs.SnapshotFiles.{BeginsFrom}
use Rattle.sled_store.proofs.Names.OneBegin.{one_begin}
use Rattle.sled_core.specs.Begun.{SegmentView}
use Rattle.sled_core.specs.declared.logger.joined_marks.JoinedMarks.{JoinedMarks}
use Rattle.sled_core.specs.inside.Begun.{first_place}
use Rattle.sled_core.specs.inside.Fits.{HoldsLine}
use Rattle.sled_core.specs.inside.Slots.{AreWhole, marked_at}
use Rattle.sled_core.specs.Tail.{least_place}
use Rattle.sled_core.proofs.Reached.GrowsAt.{GrowsAt, reads_grown}
use Rattle.sled_core.proofs.Reached.WholeSegments.{whole_at}
use Rattle.sled_core.proofs.Start.OwnSlots.{taken_cases}
use Rattle.sled_core.proofs.Tail.Multiples.{put_down}
use Rattle.sled_core.specs.inside.LogSegments.{held_since}

module _ (sum : List ℕ → ℕ) (size : ℕ) where
  -- The segment of the newest snapshot's stable place isn't above the first one of a log.
  pub newest_low : (marks : JoinedMarks) (device : State) (fault : Option IoError) (line : List SegmentView) (H : History) → HoldsLine sum marks size device fault line H → (first : SnapshotModel) → BeginsFrom sum device.snapshots.file first
      → least_place size first ≤ first_place line
  newest_low marks device fault [] H holds first begins = absurd holds
  newest_low marks device fault (v ∷ vs) H holds first begins =
      let own = holds.begun in
      subst (λ (s : SnapshotModel). least_place size s ≤ v.parts.site.place) (one_begin sum device.snapshots.file own.first first own.begins begins) own.least

  -- Nor is that of the place from which all counts.
  pub held_low : 256 ≤ size → (marks : JoinedMarks) (device : State) (fault : Option IoError) (line : List SegmentView) (H : History)
      → HoldsLine sum marks size device fault line H → (first : SnapshotModel) → BeginsFrom sum device.snapshots.file first
      → held_since size marks first / size * size ≤ first_place line
  held_low big marks device fault [] H holds first begins = absurd holds
  held_low big marks device fault (v ∷ vs) H holds first begins =
      let own = holds.begun in
      subst (λ (s : SnapshotModel). held_since size marks s / size * size ≤ v.parts.site.place)
      (one_begin sum device.snapshots.file own.first first own.begins begins) (held_least marks.ordered own big)

  -- The history has more, at this place or above it: the segments of those below are whole still.
  pub whole_grown : 256 ≤ size → (log : List ℕ) (H H' : History) (at below : ℕ) (machine : Machine) → GrowsAt H H' at → below ≤ at
      → AreWhole sum size log H below machine → AreWhole sum size log H' below machine
  whole_grown big log H H' at below machine grows above are k taken ends =
      let whole = are k taken ends in
      record {
        mark = whole.mark;
        found = whole.found;
        read_on = reads_grown H H' at grows sum size log big (marked_at (k * size) (slot_at machine k).lsn whole.mark) whole.found.slot
            (omega (arith, ends, above)) whole.read_on;
        reached = λ n there own. elim (grows.message_was n there) [
          | inl had ↦ whole.reached n had own
          | inr is ↦ absurd (
              let parts = put_down size n.place in
              let inside : n.place % size < size = omega (arith, big) in
              omega (arith, parts.0, own, inside, ends, above, is))
        ];
      }

  -- A slot is handed out for a segment that isn't older.
  pub whole_handed : (m : Machine) → next_slot m ≤ length m.slots → (place : ℕ) (log : List ℕ) (H : History) (below : ℕ) → 0 < size → below ≤ place
      → AreWhole sum size log H below m → AreWhole sum size log H below (handed_out place m)
  whole_handed m within place log H below some above are k taken ends = elim (taken_cases m within place k taken) [
    | inl new ↦ absurd (let at = new.0 in omega (arith, at, ends, above, some))
    | inr old ↦ (let same = old.0 in whole_at sum size log H refl same (are k old.1 (omega (arith, same, ends))))
  ]
