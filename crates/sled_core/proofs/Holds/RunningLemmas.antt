-- How a running log goes on fitting its history at the calls that write nothing.
use Rattle.std.proofs.Common.{◌≡◌, ◌≢◌, ◌≤◌, ◌<◌, ◌+◌, ◌∙◌, max, ℕ, List, [], ◌∷◌, length, map, Option, None, arith, subst}
use Rattle.std.specs.List.{Contains}
use Rattle.std.specs.declared.io.Error.{Error as IoError}
use Rattle.sled_codec.specs.History.{Message, Batch, History, AddsMessage}
use Rattle.sled_codec.specs.Snapshots.{SnapshotModel}
use Rattle.sled_store.specs.Device.{State}
use Rattle.sled_core.specs.declared.iobuf.Reserved.{Reserved}
use Rattle.sled_core.specs.declared.iobuf.Sealed.{Sealed}
use Rattle.sled_core.specs.declared.iobuf.SegmentPosition.{SegmentPosition}
use Rattle.sled_core.specs.Begun.{SegmentParts}
use Rattle.sled_core.specs.inside.Fits.{FitsBatches, HoldsIn, begun_segment, log_parts}
use Rattle.sled_core.specs.inside.LogFile.{padded}
use Rattle.sled_core.specs.Logged.{logged, in_log}
use Rattle.sled_core.specs.inside.Running.{FitsIn}
use Rattle.sled_core.specs.Running.{KeepsItem, end_below}
use Rattle.sled_core.specs.inside.Reached.{StandsAmong}
use Rattle.sled_core.specs.OpenBatches.{stable_below}
use Rattle.sled_core.specs.Recoverable.{NoHeaderOfZeros}
use Rattle.sled_core.specs.Reading.{BlobIsBelow}
use Rattle.sled_core.specs.inside.SealedBuffers.{AreSealed, FirstUnwritten}
use Rattle.sled_core.specs.SealedBuffers.{AreZeros}
use Rattle.sled_core.specs.declared.logger.joined_marks.JoinedMarks.{JoinedMarks}
use Rattle.sled_core.proofs.Holds.FitsGrown.{fits-grown}
use Rattle.sled_core.proofs.Sealed.Padded.{padded_get}
use Rattle.sled_core.proofs.Holds.FitsBatches.{stable_noted}
use Rattle.sled_core.proofs.Holds.ReachLemmas.{LiesBehind, completed_behind}
use Rattle.sled_core.proofs.Holds.StandsAdds.{alone-adds}
use Rattle.sled_core.proofs.Holds.WholeHistory.{of_first}
use Rattle.sled_core.proofs.Logged.Messages.{adds_logged, end_logged, below_in_log}
use Rattle.sled_core.proofs.Holds.OpenEnds.{acknowledged_stable}
use Rattle.sled_core.proofs.Sealed.Zeros.{begin_zeros}
use Rattle.sled_core.specs.inside.LogSegments.{held_since}

module _ (sum : List ℕ → ℕ) (size : ℕ) (site : SegmentPosition) (device : State) (fault : Option IoError) (bytes : List ℕ) (from : ℕ) (bs : List Sealed) (rs : List Reserved) (pins : ℕ) (H : History) (A f : ℕ) (U : List Message)
    {behind : List SegmentParts} {reach : ℕ} {marks : JoinedMarks} (fits : FitsIn sum marks (log_parts size site device fault bytes from bs rs) behind reach pins H A f U) where
  -- Up to the stable place all may count as acknowledged,
  pub fits-synced : (end : ℕ) → end ≤ stable_below reach H.batches → FitsIn sum marks (log_parts size site device fault bytes from bs rs) behind reach pins H end f U
  fits-synced end passes = record {
    holds = fits.holds;
    reached = fits.reached;
    among = fits.among;
    beyond = fits.beyond;
    items = fits.items;
    named = fits.named;
    passes = passes;
    pinned = fits.pinned;
    left = fits.left;
  }

  -- and so each message that begins below the stable place of what is written, and each batch.
  pub fits-acknowledged : (last : ℕ) (noted : List Batch) → FitsBatches (site.place + from) last noted (logged H) → FitsIn sum marks (log_parts size site device fault bytes from bs rs) behind reach pins H (max A (end_below (stable_below (site.place + from) noted) H)) f U
  fits-acknowledged last noted batches =
      let old = fits.passes in
      let stable = stable_noted (site.place + from) last noted (logged H) batches in
      let passes = acknowledged_stable (logged H) reach (site.place + from) fits.reached.near (λ m there low. (fits.reached.ends m there low).1) fits.reached.no_batch fits.reached.no_end batches.apart batches.before in
      fits-synced (max A (end_below (stable_below (site.place + from) noted) H))
      (let all = subst (λ n. end_below n (logged H) ≤ stable_below reach H.batches) stable passes in let same = end_logged (stable_below (site.place + from) noted) H in omega (arith, old, all, same))

  -- Other messages that aren't marked and another count of pins fit, where one is out while there are any.
  pub fits-pinned : (pins' : ℕ) (V : List Message) → (V ≢ [] → 0 < pins') → FitsIn sum marks (log_parts size site device fault bytes from bs rs) behind reach pins' H A f V
  fits-pinned pins' V pinned = record {
    holds = fits.holds;
    reached = fits.reached;
    among = fits.among;
    beyond = fits.beyond;
    items = fits.items;
    named = fits.named;
    passes = fits.passes;
    pinned = pinned;
    left = fits.left;
  }

  -- With one more message of the first segment, which lies behind what was written, it fits the history that has that message.
  module _ (bytes' : List ℕ) (bs' : List Sealed) (rs' : List Reserved) (H' : History) (m : Message) (least : 256 ≤ size) (in_segment : length bytes' ≤ size) (ok : fault ≡ None)
      (holds : HoldsIn sum marks (log_parts size site device fault bytes' from bs' rs') behind (logged H')) (adds : AddsMessage H m H') (of_head : Contains holds.head (in_log m)) (above : site.place + from ≤ m.place) (fresh : FirstUnwritten bs) (are : AreSealed from rs bs)
      (below : BlobIsBelow m m.pointer) (stored : KeepsItem sum device.blobs m m.pointer) where
    abbrev first : SnapshotModel
    first = fits.holds.begun.first

    lies : LiesBehind size site (in_log m)
    lies = completed_behind sum size site device fault bytes' from bs' rs' (of_first sum size site device fault bytes' from bs' rs' (logged H') holds) holds.own in_segment (in_log m) of_head above

    -- where nothing was written of the segment, the beginning of its slot has zeros
    clean : from ≡ 0 → AreZeros device.log.bytes site.slot (site.slot + 20)
    clean none = begin_zeros device.log.bytes site.slot bytes from bs rs size fresh are (omega (arith, least)) (fits.holds.own.laid ok) none

    stands : NoHeaderOfZeros sum → (log : List ℕ) → (from ≡ 0 → AreZeros log site.slot (site.slot + 20)) → StandsAmong sum (held_since size marks first) size log site from (map begun_segment behind) reach (logged H) first
        → StandsAmong sum (held_since size marks first) size log site from (map begun_segment behind) reach (logged H') first
    stands none log zeros = let inside = lies.room in
        alone-adds sum size log site from reach (logged H) (logged H') first least none holds.own.records.place_begins zeros (in_log m) (adds_logged H m H' adds) above (omega (arith, inside)) (omega (arith, inside, above))
        (lies.lies (below_in_log m below))

    pub fits-completed : 0 < pins → FitsIn sum marks (log_parts size site device fault bytes' from bs' rs') behind reach pins H' A f (m ∷ U)
    fits-completed = fits-grown sum size site device fault bytes from bs rs pins H A f U fits bytes' bs' rs' behind H' holds m least in_segment ok adds above below stored
        (λ none. stands none device.log.bytes clean (fits.among ok none))
        (λ to far none. stands none (padded to device.log.bytes) (λ first_one i low high. padded_get to device.log.bytes i ∙ clean first_one i low high) (fits.beyond to far ok none))
