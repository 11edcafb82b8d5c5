-- At each moment of the calls that make a blob that no message names, or remove it, a log holds and fits what it did, and a crash leaves what can be recovered.
use Rattle.std.proofs.Common.{ℕ, ℤ, List, [], ◌∷◌, Option}
use Rattle.std.specs.declared.io.Error.{Error as IoError}
use Rattle.sled_codec.specs.History.{Batch, Message, History}
use Rattle.sled_store.specs.Blobs.{making, removing_blobs}
use Rattle.sled_store.specs.Device.{State, Trace, state_of}
use Rattle.sled_store.specs.Moments.{Throughout}
use Rattle.sled_store.specs.inside.Script.{Along}
use Rattle.sled_store.specs.Script.{Performs}
use Rattle.sled_store.specs.SegmentStates.{Machine}
use Rattle.sled_store.proofs.Traces.ScriptLemmas.{performs_throughout}
use Rattle.sled_core.specs.Begun.{SegmentView}
use Rattle.sled_core.specs.declared.logger.joined_marks.JoinedMarks.{JoinedMarks}
use Rattle.sled_core.specs.inside.Lasting.{LastsFrom}
use Rattle.sled_core.specs.inside.Running.{FitsShown}
use Rattle.sled_core.proofs.Blobs.Events.{KeepsBeside, ReadsNames, making_keeps, removing_keeps}
use Rattle.sled_core.proofs.Blobs.Leaves.{leaves_beside, with_names}
use Rattle.sled_core.proofs.Blobs.Over.{shown_fits_over}
use Rattle.sled_core.proofs.Blobs.Unnamed.{IsUnnamed}
use Rattle.sled_core.proofs.Numbers.OwnLess.{less_same}
use Rattle.sled_core.proofs.Numbers.Stay.{stay_less}

module _ (sum : List ℕ → ℕ) (size : ℕ) (p : ℤ) (H : History) where
  -- what can be recovered, and lasts
  pub leaves_keeps : IsUnnamed H p → (A f : ℕ) → KeepsBeside sum p (LastsFrom sum size H A f)
  leaves_keeps unnamed A f s blobs snapshots changes lasts = record {
    can = leaves_beside sum p s blobs snapshots changes H unnamed size A f lasts.can;
    numbers = λ zeros. stay_less sum size (with_names s blobs snapshots) s (less_same sum size (with_names s blobs snapshots) s (λ i. s.placed)) H A (lasts.numbers zeros);
  }

  -- what it fits
  pub fits_keeps : IsUnnamed H p → (marks : JoinedMarks) (noted : List Batch) (fault : Option IoError) (line : List SegmentView) (m : Machine) (pins A f : ℕ) (U : List Message) → KeepsBeside sum p (λ s. FitsShown sum marks noted size s fault line m pins H A f U)
  fits_keeps unnamed marks noted fault line m pins A f U s blobs snapshots changes fits = shown_fits_over sum size s blobs snapshots fault p changes H unnamed A f U marks noted line m pins fits

  -- Along the calls that make a blob.
  module _ (bytes : List ℕ) (device : State) (reads : ReadsNames sum p device) where
    pub leaves_making : IsUnnamed H p → (A f : ℕ) → LastsFrom sum size H A f device → Along (LastsFrom sum size H A f) (making p bytes) device
    leaves_making unnamed A f = making_keeps sum p bytes device (LastsFrom sum size H A f) (leaves_keeps unnamed A f) reads

    pub fits_making : IsUnnamed H p → (marks : JoinedMarks) (noted : List Batch) (fault : Option IoError) (line : List SegmentView) (m : Machine) (pins A f : ℕ) (U : List Message) → FitsShown sum marks noted size device fault line m pins H A f U
        → Along (λ s. FitsShown sum marks noted size s fault line m pins H A f U) (making p bytes) device
    fits_making unnamed marks noted fault line m pins A f U = making_keeps sum p bytes device (λ s. FitsShown sum marks noted size s fault line m pins H A f U) (fits_keeps unnamed marks noted fault line m pins A f U) reads

  -- Along the call that removes it.
  module _ (device : State) where
    pub leaves_removing : IsUnnamed H p → (A f : ℕ) → LastsFrom sum size H A f device → Along (LastsFrom sum size H A f) (removing_blobs (p ∷ [])) device
    leaves_removing unnamed A f = removing_keeps sum p device (LastsFrom sum size H A f) (leaves_keeps unnamed A f)

    pub fits_removing : IsUnnamed H p → (marks : JoinedMarks) (noted : List Batch) (fault : Option IoError) (line : List SegmentView) (m : Machine) (pins A f : ℕ) (U : List Message) → FitsShown sum marks noted size device fault line m pins H A f U
        → Along (λ s. FitsShown sum marks noted size s fault line m pins H A f U) (removing_blobs (p ∷ [])) device
    fits_removing unnamed marks noted fault line m pins A f U = removing_keeps sum p device (λ s. FitsShown sum marks noted size s fault line m pins H A f U) (fits_keeps unnamed marks noted fault line m pins A f U)

  -- On a trace, up to a call that failed or to the end: at each moment, so also in the end.
  module _ (old new : Trace) where
    pub fits_made : (bytes : List ℕ) → ReadsNames sum p (state_of old) → Performs (making p bytes) old new → IsUnnamed H p → (marks : JoinedMarks) (noted : List Batch) (fault : Option IoError) (line : List SegmentView) (m : Machine) (pins A f : ℕ) (U : List Message)
        → FitsShown sum marks noted size (state_of old) fault line m pins H A f U → Throughout (λ s. FitsShown sum marks noted size s fault line m pins H A f U) old new
    fits_made bytes reads came unnamed marks noted fault line m pins A f U fits =
        performs_throughout (λ s. FitsShown sum marks noted size s fault line m pins H A f U) (making p bytes) old new came (fits_making bytes (state_of old) reads unnamed marks noted fault line m pins A f U fits)

    pub fits_removed : Performs (removing_blobs (p ∷ [])) old new → IsUnnamed H p → (marks : JoinedMarks) (noted : List Batch) (fault : Option IoError) (line : List SegmentView) (m : Machine) (pins A f : ℕ) (U : List Message)
        → FitsShown sum marks noted size (state_of old) fault line m pins H A f U → Throughout (λ s. FitsShown sum marks noted size s fault line m pins H A f U) old new
    fits_removed came unnamed marks noted fault line m pins A f U fits =
        performs_throughout (λ s. FitsShown sum marks noted size s fault line m pins H A f U) (removing_blobs (p ∷ [])) old new came (fits_removing (state_of old) unnamed marks noted fault line m pins A f U fits)
