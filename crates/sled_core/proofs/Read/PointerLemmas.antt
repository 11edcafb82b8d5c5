-- What is read of a pointer to a record is what is read at its offset.
use Rattle.std.proofs.Common.{◌≡◌, ◌/◌, ℕ, ℤ, List, Result, Ok, Err, refl, inl, inr, unsigned_abs}
use Rattle.std.specs.Prelude.{IfErr}
use Rattle.sled_codec.specs.declared.result.DiskPtr.{DiskPtr}
use Rattle.sled_codec.specs.declared.result.DiskPtr.TheVariants.{Inline, Blob}
use Rattle.sled_codec.specs.declared.result.Error.{Error}
use Rattle.sled_codec.specs.declared.result.Error.TheVariants.{Corruption}
use Rattle.sled_codec.specs.Errors.{IsCorruption}
use Rattle.sled_codec.specs.Pointers.{lid_of}
use Rattle.sled_store.specs.Device.{State}
use Rattle.sled_core.specs.declared.logger.read_message.LogRead.{LogRead}
use Rattle.sled_core.specs.Reading.{IsInline, IsReading, IsUnreadable}
use Rattle.sled_core.specs.ReadPointer.{IsDamageAt, IsReadOf, place_read}
use Rattle.sled_core.specs.inside.ReadPointer.{IsDamageOf}

pub read_here : (lsn : ℤ) (p : DiskPtr) → IsInline p → place_read lsn p ≡ lsn
read_here lsn (Inline lid) inline = refl
read_here lsn (Blob lid place) inline = absurd inline

module _ (sum : List ℕ → ℕ) (size : ℕ) (s : State) where
  pub reads_inline : (page number : ℕ) (p : DiskPtr) (r : LogRead) → IsInline p → IsReadOf sum size s page number p r → IsReading sum size s.log.bytes s.blobs.file (lid_of p) number r
  reads_inline page number (Inline lid) r inline reads = reads
  reads_inline page number (Blob lid place) r inline reads = absurd inline

  pub damage_inline : {T : Type 0} (number : ℕ) (p : DiskPtr) (r : Result T Error) → IsInline p → IfErr r (IsDamageOf sum size s number p) → IsCorruption r → IsUnreadable sum size s.log.bytes s.blobs.file (lid_of p) number
  damage_inline number (Inline lid) (Err (Corruption at)) inline damage is = elim damage [ inl bad ↦ inl bad.0 | inr blob ↦ inr blob.0 ]
  damage_inline number (Blob lid place) r inline damage is = absurd inline
  damage_inline number (Inline lid) _ inline damage is = absurd is

  pub damage_at : (lsn : ℤ) (p : DiskPtr) (e : Error) → IsDamageOf sum size s (unsigned_abs lsn / size) p e → IsDamageAt sum size s lsn p e
  damage_at lsn p (Corruption at) damage = inr damage
  damage_at lsn p _ damage = tt

pub if_err : {T E : Type 0} (r : Result T E) (P Q : E → Type 0) → ((e : E) → P e → Q e) → IfErr r P → IfErr r Q
if_err (Ok x) P Q follows holds = holds
if_err (Err e) P Q follows holds = follows e holds
