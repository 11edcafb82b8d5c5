-- A log fits what it fitted where its device and its buffer are the same, or where it keeps a failure.
use Rattle.std.proofs.Common.{◌≡◌, ℕ, List, Option, Some, ap, sym, subst}
use Rattle.std.specs.declared.io.Error.{Error as IoError}
use Rattle.sled_codec.specs.History.{Message, History}
use Rattle.sled_store.specs.Device.{NamesState, State}
use Rattle.sled_core.specs.declared.iobuf.Reserved.{Reserved}
use Rattle.sled_core.specs.declared.iobuf.Sealed.{Sealed}
use Rattle.sled_core.specs.declared.iobuf.SegmentPosition.{SegmentPosition}
use Rattle.sled_core.specs.Begun.{SegmentParts}
use Rattle.sled_core.specs.inside.Fits.{log_parts}
use Rattle.sled_core.specs.Logged.{logged}
use Rattle.sled_core.specs.OpenBatches.{stable_below}
use Rattle.sled_core.specs.declared.logger.joined_marks.JoinedMarks.{JoinedMarks}
use Rattle.sled_core.specs.inside.Lasting.{LeavesRecovering}
use Rattle.sled_core.specs.inside.Running.{BlobsFit, FitsIn, KeepsEntries, KeepsItems, NamesFit}
use Rattle.sled_core.proofs.Flush.FlushLemmas.{holds-faulty}

module _ (sum : List ℕ → ℕ) (size : ℕ) (site : SegmentPosition) (device : State) (fault : Option IoError) (bytes : List ℕ) (from : ℕ) (bs : List Sealed) (rs : List Reserved) (pins : ℕ) (H : History) (A f : ℕ) (U : List Message)
    {behind : List SegmentParts} {reach : ℕ} {marks : JoinedMarks} (fits : FitsIn sum marks (log_parts size site device fault bytes from bs rs) behind reach pins H A f U) where
  -- A log that keeps a failure of its device fits what it fitted, where a crash leaves what can be recovered.
  pub fits_faulty : (new : State) (e : IoError) (now : Option IoError) → now ≡ Some e → new.blobs ≡ device.blobs → new.snapshots ≡ device.snapshots → LeavesRecovering sum size H (stable_below reach H.batches) f new
      → FitsIn sum marks (log_parts size site new now bytes from bs rs) behind reach pins H A f U
  unfolding holds-faulty
  fits_faulty new e now is blobs snapshots left = record {
    reached = fits.reached;
    holds = holds-faulty sum size site device fault bytes from bs rs (logged H) fits.holds new e now is (ap (λ (s : NamesState). s.file) snapshots);
    among = λ none. cc;
    beyond = λ to far none. cc;
    items = record {
      blobs = subst (λ (s : NamesState). BlobsFit sum s H (stable_below reach H.batches)) (sym blobs) fits.items.blobs;
      stored = subst (λ (s : NamesState). KeepsItems sum s H (stable_below reach H.batches)) (sym blobs) fits.items.stored;
      entries = subst (λ (s : NamesState). KeepsEntries sum s H (stable_below reach H.batches)) (sym blobs) fits.items.entries;
      below = fits.items.below;
    };
    named = record {
      names = subst (λ (s : NamesState). NamesFit sum size s (logged H) f fits.holds.begun.first) (sym snapshots) fits.named.names;
      own_names = λ none. cc;
    };
    passes = fits.passes;
    pinned = fits.pinned;
    left = left;
  }
