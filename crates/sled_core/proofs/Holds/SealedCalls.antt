-- A segment goes on as it was where its current buffer is sealed.
use Rattle.std.proofs.Common.{◌≤◌, ℕ, List, [], ◌∷◌, ◌++◌, length, refl}
use Rattle.sled_codec.specs.History.{Message, History}
use Rattle.sled_store.specs.Device.{State}
use Rattle.std.specs.declared.io.Error.{Error as IoError}
use Rattle.std.proofs.Common.{Option}
use Rattle.sled_core.specs.declared.iobuf.Reserved.{Reserved}
use Rattle.sled_core.specs.declared.iobuf.Sealed.{Sealed}
use Rattle.sled_core.specs.declared.iobuf.SegmentPosition.{SegmentPosition}
use Rattle.sled_core.specs.inside.Fits.{log_parts, HoldsSegment}
use Rattle.sled_core.specs.SealedBuffers.{seal_at, sealed_end}
use Rattle.sled_core.proofs.Sealed.LaidLemmas.{laid_sealed}

-- What it holds it holds with one more sealed buffer, at the end of its bytes.
pub segment-sealed : (sum : List ℕ → ℕ) (size : ℕ) (site : SegmentPosition) (device : State) (fault : Option IoError) (bytes : List ℕ) (from : ℕ) (bs : List Sealed) (rs own : List Reserved) (H : History)
    → length bytes ≤ size → sealed_end from bs ≤ length bytes
    → {stays : Message → Type 0} → HoldsSegment sum (log_parts size site device fault bytes from bs rs) stays H → HoldsSegment sum (log_parts size site device fault bytes from (bs ++ seal_at (length bytes) own ∷ []) rs) stays H
segment-sealed sum size site device fault bytes from bs rs own H short inside holds = record {
  records = holds.records;
  written = holds.written;
  laid = λ ok. laid_sealed device.log.bytes site.slot bytes from bs (seal_at (length bytes) own) size refl short inside (holds.laid ok);
}
