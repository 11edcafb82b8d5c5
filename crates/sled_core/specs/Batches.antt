-- What ends the manifest of a batch: which pegs it may have, and what comes of it.
use Rattle.std.specs.Prelude.{◌≡◌, ◌+◌, ◌*◌, ◌≤◌, ◌≤ℤ◌, ◌<ℤ◌, ◌⊎◌, ℕ, ℤ, pos, int_lt, unsigned_abs, if◌then◌else◌, List, Contains, Some, length, slice_get}
use Rattle.sled_codec.specs.History.{Batch, Batched, History, Step}
use Rattle.sled_core.specs.Account.{account_of}
use Rattle.sled_core.specs.Begun.{SegmentView, records_to}
use Rattle.sled_core.specs.declared.logger.Log.{Log}
use Rattle.sled_core.specs.declared.reservation.Reservation.{Reservation}
use Rattle.sled_core.specs.Fits.{config_of, fault_of, kept_batches, line_of, noted_in, pins_of, reserved_end, segment_size_of, stable_end, synced_end}
use Rattle.sled_core.specs.OpenBatches.{with_batch}
use Rattle.sled_core.specs.Tickets.{place_of}

-- the batch of a manifest, from its own place to the peg
abbrev pub batch_for : Reservation → ℤ → Batch
batch_for ticket peg = record { low = unsigned_abs (place_of ticket); peg = unsigned_abs peg }

-- A place lies in nothing that fills one of these segments behind its records.
abbrev pub LiesInNoFilling : ℕ → List SegmentView → ℤ → Type 0
LiesInNoFilling size line place =
    (n : ℕ) (v : SegmentView) → slice_get line n ≡ Some v
    → (place <ℤ pos (v.parts.site.place + records_to v.parts.filled size)) ⊎ (pos (v.parts.site.place + size) ≤ℤ place)

-- The batch of a ticket's manifest may end there: not below the manifest, within what was reserved, and in nothing that fills a segment; and it has no
-- place in common with a batch that was noted and isn't wholly on the device.
pub record MayEndAt {D C : Type 0} (log : Log D C) (ticket : Reservation) (peg : ℤ) : Type 0 where
  pub above : place_of ticket ≤ℤ peg
  pub reserved : peg <ℤ pos (reserved_end log)
  pub filled : LiesInNoFilling (segment_size_of log) (line_of log) peg
  pub apart : (b : Batch) → Contains (noted_in log) b → (pos b.peg <ℤ place_of ticket) ⊎ (peg <ℤ pos b.low)

-- That makes one batch more of these, by place; none where the peg is the manifest's own place.
abbrev pub with_batch_for : Reservation → ℤ → List Batch → List Batch
with_batch_for ticket peg bs = if int_lt (place_of ticket) peg then with_batch (batch_for ticket peg) bs else bs

-- So it is with a history.
abbrev pub EndsBatch : History → Reservation → ℤ → History → Type 0
EndsBatch H ticket peg H' = ((peg ≡ place_of ticket) × (H' ≡ H)) ⊎ ((place_of ticket <ℤ peg) × Step H (Batched (batch_for ticket peg)) H')

-- What runs the log, what is written of it, where it is stable, its failure and its pins stay, and the batch is noted. Where there is one, no more batches
-- are kept then than twice those that aren't wholly on the device.
pub record NotesBatchOf {D C : Type 0} (ticket : Reservation) (peg : ℤ) (old new : Log D C) : Type 0 where
  pub config : config_of new ≡ config_of old
  pub synced : synced_end new ≡ synced_end old
  pub noted : noted_in new ≡ with_batch_for ticket peg (noted_in old)
  pub stable : stable_end new ≡ stable_end old
  pub fault : fault_of new ≡ fault_of old
  pub pins : pins_of new ≡ pins_of old
  pub account : account_of new ≡ account_of old
  pub few : place_of ticket <ℤ peg → kept_batches new ≤ 2 * length (noted_in new)
