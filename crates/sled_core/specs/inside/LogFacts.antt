-- What a log keeps in mind of its open segments, and of the batches that it noted.
use Rattle.std.specs.Prelude.{◌≡◌, ◌<◌, ℕ, All}
use Rattle.std.proofs.Props.{props}
use Rattle.sled_core.specs.Begun.{line_in}
use Rattle.sled_core.specs.declared.logger.batches.PendingBatches.{PendingBatches}
use Rattle.sled_core.specs.declared.logger.io_bufs.IoBufs.{IoBufs}
use Rattle.sled_core.specs.declared.logger.ready.ReadyBuffers.{ReadyBuffers}
use Rattle.sled_core.specs.inside.Begun.{IsFilledLine, IsFilledLine-prop, LieWithin, LieWithin-prop}
use Rattle.sled_core.specs.inside.OpenPlaces.{open_manifests}
use Rattle.sled_core.specs.inside.ReadyBuffers.{AreReady, AreReady-prop}

-- Open segments of this size lie one behind another and in reach, are filled up to where what was reserved ends, and those of their buffers are listed that
-- can be written.
pub record AreOpenSegments (size to : ℕ) (segments : IoBufs) (ready : ReadyBuffers) : Type 0 where
  pub lies : LieWithin size segments
  pub filled : IsFilledLine size to segments
  pub indexed : AreReady (line_in segments) ready

-- The batches that are noted have their pegs below where what was reserved ends, and as many manifests are counted as are open.
pub record AreNotedBatches (to : ℕ) (segments : IoBufs) (batches : PendingBatches) : Type 0 where
  pub pegs : All (λ b. b.peg < to) batches.noted.items
  pub counted : open_manifests (line_in segments) ≡ batches.manifests

-- A log keeps both as propositions: there is one proof of each at most.

pub AreOpenSegments-prop : (size to : ℕ) (segments : IoBufs) (ready : ReadyBuffers) → IsProp (AreOpenSegments size to segments ready)
AreOpenSegments-prop size to segments ready = λ p q i. record {
  lies = LieWithin-prop size segments p.lies q.lies i;
  filled = IsFilledLine-prop size to segments p.filled q.filled i;
  indexed = AreReady-prop (line_in segments) ready p.indexed q.indexed i;
}

pub AreNotedBatches-prop : (to : ℕ) (segments : IoBufs) (batches : PendingBatches) → IsProp (AreNotedBatches to segments batches)
AreNotedBatches-prop to segments batches = Prim.hlevel props
