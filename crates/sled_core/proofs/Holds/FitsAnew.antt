-- Where only what the segments fit changes, over what is shown, a log fits: with another count of pins, another end of what was acknowledged, a lower floor.
use Rattle.std.specs.declared.io.Error.{Error as IoError}
use Rattle.std.proofs.Common.{◌≤◌, ℕ, pos, List, Option, arith}
use Rattle.std.proofs.lemmas.Int.{ints}
use Rattle.sled_codec.specs.History.{Batch, History, Message}
use Rattle.sled_store.specs.Device.{State}
use Rattle.sled_store.specs.SegmentStates.{Machine}
use Rattle.sled_store.proofs.Marks.NothingDue.{none_lower}
use Rattle.sled_core.specs.Begun.{SegmentView}
use Rattle.sled_core.specs.declared.logger.joined_marks.JoinedMarks.{JoinedMarks}
use Rattle.sled_core.specs.inside.Running.{FitsLine, FitsShown}
use Rattle.sled_core.specs.inside.Shown.{shown}

module _ {sum : List ℕ → ℕ} {marks : JoinedMarks} {noted : List Batch} {size : ℕ} {device : State} {fault : Option IoError} {line : List SegmentView}
    {m : Machine} {pins : ℕ} {H : History} {A f : ℕ} {U : List Message} (fits : FitsShown sum marks noted size device fault line m pins H A f U) where
  pub fits_anew : (now B g : ℕ) → g ≤ f → FitsLine sum marks size (shown size fault m line device) fault line fits.shows.reach now H B g U
      → FitsShown sum marks noted size device fault line m now H B g U
  fits_anew now B g low parts = record {
    shows = record {
      reach = fits.shows.reach;
      parts = parts;
      batches = fits.shows.batches;
      slots = fits.shows.slots;
      whole = fits.shows.whole;
      own = fits.shows.own;
      account = fits.shows.account;
      numbers = fits.shows.numbers;
      in_slots = fits.shows.in_slots;
    };
    rests = fits.rests;
    hides = fits.hides;
    marked = fits.marked;
    passed = fits.passed;
    clean = λ none under.
        let its = fits.clean none (omega (arith, ints, under, low)) in (its.0, none_lower size (pos g) (pos f) (omega (arith, ints, low)) m its.1);
  }
