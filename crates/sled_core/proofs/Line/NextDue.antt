-- Where no active segment of a log is due for its floor, none is once a further segment is begun: that doesn't lie below the place with which the log began.
use Rattle.std.specs.declared.io.Error.{Error as IoError}
use Rattle.std.proofs.Common.{◌≡◌, ◌∙◌, ◌*◌, ◌/◌, ◌≤◌, ◌<◌, ℕ, pos, List, ◌∷◌, length, Option, None, sym, ap, arith, inl, inr}
use Rattle.std.proofs.lemmas.Bool.{cases_eq}
use Rattle.sled_codec.specs.History.{Batch, History, Message}
use Rattle.sled_codec.specs.Snapshots.{SnapshotModel, stable_place}
use Rattle.sled_store.specs.Device.{Trace, state_of}
use Rattle.sled_store.specs.SegmentStates.{Machine, SlotState, handed_out, is_active, is_due, next_slot, slot_at}
use Rattle.sled_store.specs.inside.SegmentStates.{NoneDue}
use Rattle.sled_store.proofs.Marks.NothingDue.{not_due}
use Rattle.sled_store.proofs.Marks.StableSteps.{segment_mono}
use Rattle.sled_core.specs.Begun.{SegmentView}
use Rattle.sled_core.specs.Logged.{logged}
use Rattle.sled_core.specs.declared.logger.joined_marks.JoinedMarks.{JoinedMarks}
use Rattle.sled_core.specs.inside.Running.{FitsShown}
use Rattle.sled_core.proofs.Start.OwnSlots.{handed_other, handed_there}
use Rattle.sled_core.proofs.Start.StartedDue.{floor_low}

module _ (sum : List ℕ → ℕ) (marks : JoinedMarks) (noted : List Batch) (size : ℕ) (some : 0 < size) (t : Trace) (fault : Option IoError)
    (whole : fault ≡ None) (v : SegmentView) (vs : List SegmentView) (m : Machine) (pins : ℕ) (H : History) (A f : ℕ) (U : List Message)
    (fits : FitsShown sum marks noted size (state_of t) fault (v ∷ vs) m pins H A f U) where
  -- The floor's segment isn't above the first one of the line.
  floor_under : f / size * size ≤ v.parts.site.place
  floor_under =
      let first : SnapshotModel = fits.shows.parts.holds.begun.first in
      let low = floor_low sum size t (logged H) f first (fits.shows.parts.named.own_names whole).of_snapshots fits.shows.parts.named.names in
      let least = fits.shows.parts.holds.begun.least in
      omega (arith, segment_mono size f (stable_place first.stable) some low, least)

  pub none_next : (place : ℕ) → v.parts.site.place ≤ place → next_slot m ≤ length m.slots → NoneDue size (pos f) m → NoneDue size (pos f) (handed_out place m)
  none_next place above within none k active = elim (cases_eq k (next_slot m)) [
    | inl here ↦ (
        let at : (slot_at (handed_out place m) k).lsn ≡ place =
        ap (λ j. (slot_at (handed_out place m) j).lsn) here ∙ ap (λ (x : SlotState). x.lsn) (handed_there m within place) in
        let under = floor_under in
        ap (λ p. is_due size (pos f) p) at ∙ not_due size f place some (omega (arith, under, above)))
    | inr other ↦ (
        let same = handed_other m within place k other in
        ap (λ (x : SlotState). is_due size (pos f) x.lsn) same ∙ none k (ap (λ (x : SlotState). is_active x.state) (sym same) ∙ active))
  ]
