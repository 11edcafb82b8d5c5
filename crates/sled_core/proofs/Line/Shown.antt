-- What a log shows of its device: where a call leaves that, what is held and fitted over it is held and fitted by the log behind the call. A log that begins
-- shows the device itself.
use Rattle.std.specs.declared.io.Error.{Error as IoError}
use Rattle.std.proofs.Common.{◌≡◌, ◌≢◌, ◌∙◌, ◌+◌, ◌*◌, ◌<◌, ◌≤◌, ℕ, zero, suc, max, pos, List, [], ◌∷◌, Option, Some, None, refl, sym, ap, subst, arith, inl}
use Rattle.std.proofs.Common.{inr}
use Rattle.std.specs.List.{slice_get}
use Rattle.std.proofs.Math.Nat.{suc-mul}
use Rattle.std.proofs.lemmas.Bool.{cases_order}
use Rattle.std.proofs.lemmas.Int.{ints}
use Rattle.sled_codec.specs.History.{Batch, History, Message}
use Rattle.sled_codec.specs.Snapshots.{SnapshotModel, stable_place}
use Rattle.sled_store.specs.Device.{LogState, State, Trace, at_rest, state_of}
use Rattle.sled_store.specs.SegmentStates.{Machine}
use Rattle.sled_store.specs.SnapshotFiles.{BeginsFrom}
use Rattle.sled_store.specs.inside.SegmentStates.{NoneDue}
use Rattle.sled_store.proofs.Segments.FilledLemmas.{slot_before}
use Rattle.sled_core.specs.declared.logger.joined_marks.JoinedMarks.{JoinedMarks}
use Rattle.sled_core.specs.Begun.{SegmentView}
use Rattle.sled_core.specs.LogSegments.{begins_from}
use Rattle.sled_core.specs.Logged.{logged}
use Rattle.sled_core.specs.Recoverable.{NoHeaderOfZeros}
use Rattle.sled_core.specs.OpenBatches.{stable_below}
use Rattle.sled_core.specs.Running.{end_below}
use Rattle.sled_core.specs.inside.Cleared.{cleared}
use Rattle.sled_core.specs.inside.Fits.{HoldsLine, HoldsShown, HoldsWith, written_to}
use Rattle.sled_core.specs.inside.FreeSlots.{HasSlot, HasSlots}
use Rattle.sled_core.specs.inside.Running.{FitsShown, FitsWith}
use Rattle.sled_core.specs.inside.MarksFit.{ArePassedFrom, MarksFitFrom}
use Rattle.sled_core.specs.inside.Hides.{HidesFrom}
use Rattle.sled_core.specs.inside.Shown.{FreesNothing, RestsWhole, shown}
use Rattle.sled_core.specs.Tail.{least_place}
use Rattle.sled_core.proofs.Cleared.Offsets.{LineRises, OthersBeside, cleared_itself, segments_apart}
use Rattle.sled_core.proofs.Cleared.Shown.{ShowsSame, shown_rests, shown_same, with_log}
use Rattle.sled_core.proofs.Holds.FitsAnew.{fits_anew}
use Rattle.sled_core.proofs.Holds.RunningLemmas.{fits-acknowledged, fits-pinned}
use Rattle.sled_core.proofs.Line.Ends.{line_holds, with_part}
use Rattle.sled_core.proofs.Line.Segments.{AreSegments, nth_segment}
use Rattle.sled_core.proofs.Numbers.HidesAtRest.{hides_at_rest}
use Rattle.sled_core.proofs.Sealed.Ended.{ends_rise, ends_up}
use Rattle.sled_core.proofs.Tail.MarkPlaces.{begins_lower}

-- where the n-th of segments one behind another begins
pub nth_at : (size place : ℕ) (vs : List SegmentView) → AreSegments size place vs → (n : ℕ) (u : SegmentView) → slice_get vs n ≡ Some u
    → u.parts.site.place ≡ place + n * size
nth_at size place [] are n u there = cc
nth_at size place (x ∷ xs) are zero u there =
    let same : x ≡ u = cc in
    let at = are.0.at in
    omega (arith, at, ap (λ (y : SegmentView). y.parts.site.place) same)
nth_at size place (x ∷ xs) are (suc n) u there = let rest = nth_at size (place + size) xs are.1 n u there in omega (arith, rest, suc-mul n size)

-- Each one's buffers end one behind another.
pub line_rises : (size place : ℕ) (line : List SegmentView) → AreSegments size place line → LineRises size line
line_rises size place line are j u at =
    let s = nth_segment size place line are j u at in
    let up = ends_up u.parts.written_len u.parts.reserved u.parts.sealed s.are in
    let begins = s.begins in
    let short = s.short in
    ends_rise u.parts.written_len u.parts.reserved u.parts.sealed size s.are (omega (arith, up, begins, short)) (omega (arith, begins, short))

-- They lie beside one another.
pub others_beside : (size : ℕ) → 0 < size → (m : Machine) (place : ℕ) (line : List SegmentView) → AreSegments size place line
    → ((j : ℕ) (w : SegmentView) → slice_get line j ≡ Some w → HasSlot size m w)
    → (n : ℕ) (u : SegmentView) → slice_get line n ≡ Some u → OthersBeside size line n u
others_beside size some m place line are taken n u at j w at_j differs =
    segments_apart size m w u (taken j w at_j) (taken n u at) (λ same. elim (cases_order j n) [
      | inl is ↦ differs is
      | inr (inl lower) ↦ (
          let far = slot_before size j n lower in omega (arith, far, some, same, nth_at size place line are j w at_j, nth_at size place line are n u at))
      | inr (inr higher) ↦ (
          let far = slot_before size n j higher in omega (arith, far, some, same, nth_at size place line are j w at_j, nth_at size place line are n u at))
    ])

-- Where the same counts for nothing, what is held and fitted over what was shown is so over what is shown.
module _ (sum : List ℕ → ℕ) (noted : List Batch) (size : ℕ) (device : State) (fault : Option IoError) (m m' : Machine) (line line' : List SegmentView)
    (same : ShowsSame size m m' line line') (rests : RestsWhole fault device.log) where
  pub holds_shown : (marks : JoinedMarks) (H : History) → HoldsWith sum marks noted size (shown size fault m line device) fault line' m' H
      → HoldsShown sum marks noted size device fault line' m' H
  holds_shown marks H holds = record {
    shows = subst (λ (d : State). HoldsWith sum marks noted size d fault line' m' H) (sym (shown_same size fault m m' line line' same device)) holds;
    rests = rests;
  }

  pub fits_shown : (marks : JoinedMarks) (pins : ℕ) (H : History) (A f : ℕ) (U : List Message)
      → (fault ≡ None → NoHeaderOfZeros sum → HidesFrom sum size (begins_from size marks.joined) device m' line' (logged H))
      → (fault ≡ None → NoHeaderOfZeros sum → MarksFitFrom sum size device.snapshots.file (cleared size m line device.log.bytes) marks)
      → (fault ≡ None → ArePassedFrom sum device.snapshots.file (written_to line') H.batches marks)
      → (fault ≡ None → FreesNothing size marks f m' (cleared size m line device.log.bytes) device.log.bytes)
      → FitsWith sum marks noted size (shown size fault m line device) fault line' m' pins H A f U
      → FitsShown sum marks noted size device fault line' m' pins H A f U
  fits_shown marks pins H A f U hides marked passed clean fits = record {
    shows = subst (λ (d : State). FitsWith sum marks noted size d fault line' m' pins H A f U) (sym (shown_same size fault m m' line line' same device)) fits;
    rests = rests;
    hides = hides;
    marked = λ none zeros.
        subst (λ (l : List ℕ). MarksFitFrom sum size device.snapshots.file l marks) (sym (same device.log.bytes)) (marked none zeros);
    passed = passed;
    clean = λ none low. let its = clean none low in (same device.log.bytes ∙ its.0, its.1);
  }

-- A log that holds a history over its device, as one does that begins, shows the device itself, and hides nothing.
module _ (sum : List ℕ → ℕ) (size : ℕ) (big : 256 ≤ size) (t : Trace) (m : Machine) (line : List SegmentView) where
  abbrev device : State
  device = state_of t

  module _ (marks : JoinedMarks) (H : History) (holds : HoldsLine sum marks size device None line H) (slots : HasSlots size line device.log.bytes None m) where
    begins_rests : device.log ≡ at_rest device.log.bytes
    begins_rests = by line holds where
      by : (vs : List SegmentView) → HoldsLine sum marks size device None vs H → device.log ≡ at_rest device.log.bytes
      by [] held = absurd held
      by (v ∷ vs) held =
          let on = held.own.written refl in
          on.settled ∙ ap at_rest (sym (ap (λ (x : LogState). x.bytes) on.settled))

    begins_same : cleared size m line device.log.bytes ≡ device.log.bytes
    begins_same = cleared_itself size (omega (arith, big)) m line device.log.bytes (slots.zeros refl)
        (λ n v there. with_part sum size device None _ line n v H holds there (λ stays own segment. segment.laid refl))

    begins_shown : shown size None m line device ≡ device
    begins_shown = ap (with_log device) (ap at_rest begins_same ∙ sym begins_rests)

  module _ (noted : List Batch) where
    pub holds_begun : (marks : JoinedMarks) (H : History) → HoldsWith sum marks noted size device None line m H
        → HoldsShown sum marks noted size device None line m H
    holds_begun marks H holds = record {
      shows = subst (λ (d : State). HoldsWith sum marks noted size d None line m H) (sym (begins_shown marks H holds.holds holds.slots)) holds;
      rests = λ none. begins_rests marks H holds.holds holds.slots;
    }

    pub fits_begun : (marks : JoinedMarks) (pins : ℕ) (H : History) (A f : ℕ) (U : List Message)
        → ((first : SnapshotModel) → BeginsFrom sum device.snapshots.file first
        → (marks.joined ≡ pos (stable_place first.stable)) × (marks.durable ≡ pos (stable_place first.stable)))
        → NoneDue size (pos f) m
        → FitsWith sum marks noted size device None line m pins H A f U → FitsShown sum marks noted size device None line m pins H A f U
    fits_begun marks pins H A f U at idle fits =
        let held = line_holds sum size device None _ line fits.reach pins H A f U fits.parts in
        record {
          shows = subst (λ (d : State). FitsWith sum marks noted size d None line m pins H A f U) (sym (begins_shown marks (logged H) held fits.slots)) fits;
          rests = λ none. begins_rests marks (logged H) held fits.slots;
          hides = λ none zeros first begins.
              hides_at_rest sum size t m line (begins_same marks (logged H) held fits.slots) (begins_rests marks (logged H) held fits.slots)
              (fits.numbers zeros) fits.slots.own (least_place size first) (begins_from size marks.joined) (logged H)
              (let same = (at first begins).1 in let ordered = marks.ordered in
              begins_lower size big marks.joined (pos (stable_place first.stable)) (omega (arith, ints, same, ordered)));
          -- the marks are the place with which it began
          marked = λ none zeros first begins.
              record { joined = marks.ordered; stands = inl (let same = (at first begins).1 in omega (arith, ints, same)) };
          passed = λ none first begins. let same = at first begins in record { joined = inl same.0; durable = inl same.1 };
          clean = λ none low. (begins_same marks (logged H) held fits.slots, idle);
        }

-- Where the file is shown whole, what is fitted over what is shown is fitted over the device itself.
pub fits_whole : (sum : List ℕ → ℕ) (marks : JoinedMarks) (noted : List Batch) (size : ℕ) (device : State) (fault : Option IoError) (m : Machine)
    (line : List SegmentView) (pins : ℕ) (H : History) (A f : ℕ) (U : List Message) → fault ≡ None → cleared size m line device.log.bytes ≡ device.log.bytes
    → FitsShown sum marks noted size device fault line m pins H A f U → FitsWith sum marks noted size device fault line m pins H A f U
fits_whole sum marks noted size device fault m line pins H A f U none whole fits =
    subst (λ (d : State). FitsWith sum marks noted size d fault line m pins H A f U)
    (ap (with_log device) (shown_rests size fault m line device none ∙ ap at_rest whole ∙ sym (fits.rests none))) fits.shows

-- Of segments of which there is one: another count of pins fits, where one is out while there are messages that aren't marked,
module _ (sum : List ℕ → ℕ) (marks : JoinedMarks) (noted : List Batch) (size : ℕ) (device : State) (fault : Option IoError) (v : SegmentView)
    (vs : List SegmentView) (m : Machine) (pins : ℕ) (H : History) (A f : ℕ) (U : List Message)
    (fits : FitsShown sum marks noted size device fault (v ∷ vs) m pins H A f U) where
  pub fits_pins : (now : ℕ) → (U ≢ [] → 0 < now) → FitsShown sum marks noted size device fault (v ∷ vs) m now H A f U
  fits_pins now out = fits_anew fits now A f (omega arith) (fits-pinned _ _ _ _ _ _ _ _ _ _ H A f U fits.shows.parts now U out)

  -- and all below the stable end counts as acknowledged.
  pub fits_acknowledges : FitsShown sum marks noted size device fault (v ∷ vs) m pins H
      (max A (end_below (stable_below (v.parts.site.place + v.parts.written_len) noted) H)) f U
  fits_acknowledges = fits_anew fits pins _ f (omega arith) (fits-acknowledged _ _ _ _ _ _ _ _ _ _ H A f U fits.shows.parts _ _ fits.shows.batches)
