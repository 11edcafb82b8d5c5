-- A log goes on fitting its history with other bytes, buffers and reservations behind what is written, whichever segment has them, and so with one more message or batch that begins behind that: what a reader finds of the file is given.
use Rattle.std.proofs.Common.{◌≡◌, ◌≢◌, ◌∙◌, ◌≤◌, ◌<◌, ◌+◌, ℕ, List, [], ◌∷◌, length, map, Option, None, sym, ap, arith, subst, inl, inr}
use Rattle.std.specs.List.{Contains}
use Rattle.std.specs.declared.io.Error.{Error as IoError}
use Rattle.sled_codec.specs.History.{AddsBatch, AddsMessage, Batch, History, Message}
use Rattle.sled_codec.specs.Snapshots.{SnapshotModel}
use Rattle.sled_store.specs.Device.{State}
use Rattle.sled_store.proofs.Names.OneBegin.{one_begin}
use Rattle.sled_core.specs.Begun.{SegmentParts}
use Rattle.sled_core.specs.Logged.{in_log, logged}
use Rattle.sled_core.specs.OpenBatches.{stable_below}
use Rattle.sled_core.specs.Reading.{BlobIsBelow}
use Rattle.sled_core.specs.Recoverable.{NoHeaderOfZeros}
use Rattle.sled_core.specs.Running.{KeepsItem}
use Rattle.sled_core.specs.declared.iobuf.Reserved.{Reserved}
use Rattle.sled_core.specs.declared.iobuf.Sealed.{Sealed}
use Rattle.sled_core.specs.declared.iobuf.SegmentPosition.{SegmentPosition}
use Rattle.sled_core.specs.declared.logger.joined_marks.JoinedMarks.{JoinedMarks}
use Rattle.sled_core.specs.inside.Fits.{HoldsIn, begun_segment, log_parts}
use Rattle.sled_core.specs.inside.Lasting.{LeavesRecovering}
use Rattle.sled_core.specs.inside.LogFile.{padded}
use Rattle.sled_core.specs.inside.LogSegments.{held_since}
use Rattle.sled_core.specs.inside.Reached.{StandsAmong}
use Rattle.sled_core.specs.inside.Recoverable.{BlobsAreBelow}
use Rattle.sled_core.specs.inside.Running.{BlobsFit, FitsIn, HaveItems, KeepsEntries, KeepsItems, NamesFit, ReachesTo}
use Rattle.sled_core.proofs.Flush.Settled.{rests, settled_recoverable}
use Rattle.sled_core.proofs.Holds.Added.{was_or_added}
use Rattle.sled_core.proofs.Holds.BegunLemmas.{blobs-adds, entries-adds, names-adds}
use Rattle.sled_core.proofs.Holds.BegunMarks.{blobs-marks, entries-marks, names-marks}
use Rattle.sled_core.proofs.Holds.WholeHistory.{whole_ascends}
use Rattle.sled_core.proofs.Logged.Messages.{adds_logged, batch_logged}
use Rattle.sled_core.proofs.Reached.AddedBatch.{batch_grows, message_was, no_end}
use Rattle.sled_core.proofs.Reached.GrowsAt.{no_batch_grown}
use Rattle.sled_core.proofs.Reached.StableBelow.{stable_low, stable_one_more}

-- What a log fits, and what it holds of another history, or of the same one, with other bytes and reservations in its segments.
module _ (sum : List ℕ → ℕ) (size : ℕ) (site : SegmentPosition) (device : State) (fault : Option IoError) (bytes : List ℕ) (from : ℕ) (bs : List Sealed) (rs : List Reserved) (pins : ℕ) (H : History) (A f : ℕ)
    (U : List Message) {behind : List SegmentParts} {reach : ℕ} {marks : JoinedMarks} (fits : FitsIn sum marks (log_parts size site device fault bytes from bs rs) behind reach pins H A f U)
    (bytes' : List ℕ) (bs' : List Sealed) (rs' : List Reserved) (behind' : List SegmentParts) (H' : History)
    (holds : HoldsIn sum marks (log_parts size site device fault bytes' from bs' rs') behind' (logged H')) where
  abbrev first : SnapshotModel
  first = fits.holds.begun.first

  -- what a reader finds of a file then
  abbrev pub StandsAnew : List ℕ → Type 0
  StandsAnew log = StandsAmong sum (held_since size marks fits.holds.begun.first) size log site from (map begun_segment behind') reach (logged H') fits.holds.begun.first

  -- It fits that, where it reaches as far, and blobs, names and what a crash leaves are of it.
  pub fits-anew : (V : List Message) → ReachesTo (logged H') reach (site.place + from) → (fault ≡ None → NoHeaderOfZeros sum → StandsAnew device.log.bytes)
      → ((to : ℕ) → site.slot ≤ to → fault ≡ None → NoHeaderOfZeros sum → StandsAnew (padded to device.log.bytes)) → HaveItems sum device.blobs H' (stable_below reach H'.batches)
      → NamesFit sum size device.snapshots (logged H') f fits.holds.begun.first → A ≤ stable_below reach H'.batches → (V ≢ [] → 0 < pins) → LeavesRecovering sum size H' (stable_below reach H'.batches) f device
      → FitsIn sum marks (log_parts size site device fault bytes' from bs' rs') behind' reach pins H' A f V
  fits-anew V reached alone beyond items names passes pinned left =
      let same : first ≡ holds.begun.first = one_begin sum device.snapshots.file first holds.begun.first fits.holds.begun.begins holds.begun.begins in
      let at : List ℕ → SnapshotModel → Type 0 = λ log z. StandsAmong sum (held_since size marks z) size log site from (map begun_segment behind') reach (logged H') z in
      record {
        holds = holds;
        reached = reached;
        among = λ ok none. subst (at device.log.bytes) same (alone ok none);
        beyond = λ to far ok none. subst (at (padded to device.log.bytes)) same (beyond to far ok none);
        items = items;
        named = record {
          names = subst (λ (z : SnapshotModel). NamesFit sum size device.snapshots (logged H') f z) same names;
          own_names = fits.named.own_names;
        };
        passes = passes;
        pinned = pinned;
        left = left;
      }

-- The history has one more message, which lies behind what is written of the first segment.
module _ (sum : List ℕ → ℕ) (size : ℕ) (site : SegmentPosition) (device : State) (fault : Option IoError) (bytes : List ℕ) (from : ℕ) (bs : List Sealed) (rs : List Reserved) (pins : ℕ) (H : History) (A f : ℕ)
    (U : List Message) {behind : List SegmentParts} {reach : ℕ} {marks : JoinedMarks} (fits : FitsIn sum marks (log_parts size site device fault bytes from bs rs) behind reach pins H A f U)
    (bytes' : List ℕ) (bs' : List Sealed) (rs' : List Reserved) (behind' : List SegmentParts) (H' : History)
    (holds : HoldsIn sum marks (log_parts size site device fault bytes' from bs' rs') behind' (logged H'))
    (m : Message) (least : 256 ≤ size) (short : length bytes' ≤ size) (ok : fault ≡ None) (adds : AddsMessage H m H') (past : site.place + from ≤ m.place)
    (below : BlobIsBelow m m.pointer) (stored : KeepsItem sum device.blobs m m.pointer)
    (alone : NoHeaderOfZeros sum → StandsAnew sum size site device fault bytes from bs rs pins H A f U fits bytes' bs' rs' behind' H' holds device.log.bytes)
    (beyond : (to : ℕ) → site.slot ≤ to → NoHeaderOfZeros sum
    → StandsAnew sum size site device fault bytes from bs rs pins H A f U fits bytes' bs' rs' behind' H' holds (padded to device.log.bytes)) where
  abbrev start : SnapshotModel
  start = fits.holds.begun.first

  put : AddsMessage (logged H) (in_log m) (logged H')
  put = adds_logged H m H' adds

  reached : reach ≤ m.place
  reached = let near = fits.reached.near in omega (arith, near, past)

  -- no batch is added, so the stable place is the same
  same_stable : stable_below reach H'.batches ≡ stable_below reach H.batches
  same_stable = ap (stable_below reach) adds.batches

  names_new : NamesFit sum size device.snapshots (logged H') f start
  names_new = let begun = fits.holds.begun.reached in names-adds (logged H) (logged H') (in_log m) put sum size device.snapshots f start (omega (arith, begun, past)) fits.named.names

  blobs_new : BlobsFit sum device.blobs H' (stable_below reach H'.batches)
  blobs_new = subst (λ n. BlobsFit sum device.blobs H' n) (sym same_stable)
      (let low = stable_low reach H.batches in let at = reached in blobs-adds H H' m adds sum device.blobs (stable_below reach H.batches) (omega (arith, low, at)) stored fits.items.blobs)

  entries_new : KeepsEntries sum device.blobs H' (stable_below reach H'.batches)
  entries_new = subst (KeepsEntries sum device.blobs H') (sym same_stable)
      (let low = stable_low reach H.batches in let at = reached in entries-adds H H' m adds sum device.blobs (stable_below reach H.batches) (omega (arith, low, at)) fits.items.entries)

  -- what is written still ends there
  ends_new : (x : Message) → Contains (logged H').messages x → x.place < site.place + from → (x.place < reach) × (x.place + x.size ≤ reach)
  ends_new x there low = elim (was_or_added (logged H) (logged H') (in_log m) put x there) [
    | inl was ↦ fits.reached.ends x was low
    | inr added ↦ absurd (let same = ap (λ (y : Message). y.place) added in omega (arith, same, past, low))
  ]

  stored_behind : KeepsItems sum device.blobs H' (stable_below reach H'.batches)
  stored_behind x there far = elim (was_or_added H H' m adds x there) [
    | inl was ↦ (let same = same_stable in fits.items.stored x was (omega (arith, far, same)))
    | inr own ↦ subst (λ (y : Message). KeepsItem sum device.blobs y y.pointer) own stored
  ]

  below_new : BlobsAreBelow H'
  below_new x there = elim (was_or_added H H' m adds x there) [ inl was ↦ fits.items.below x was | inr own ↦ subst (λ (y : Message). BlobIsBelow y y.pointer) own below ]

  left_new : LeavesRecovering sum size H' (stable_below reach H'.batches) f device
  left_new =
      let on = fits.holds.own.written ok in
      settled_recoverable sum size least device H' (stable_below reach H'.batches) f start reach (whole_ascends sum size site device fault bytes' from bs' rs' (logged H') holds short)
      stored_behind (rests device.log on.log on.settled) names_new blobs_new (λ none. (alone none).stands)

  -- The log fits the history with the message, where a pin is out.
  pub fits-grown : 0 < pins → FitsIn sum marks (log_parts size site device fault bytes' from bs' rs') behind' reach pins H' A f (m ∷ U)
  fits-grown out = fits-anew sum size site device fault bytes from bs rs pins H A f U fits bytes' bs' rs' behind' H' holds (m ∷ U)
      (record {
        near = fits.reached.near;
        ends = ends_new;
        no_batch = λ b there. fits.reached.no_batch b (subst (λ (l : List Batch). Contains l b) adds.batches there);
        no_end = λ b there. fits.reached.no_end b (subst (λ (l : List Batch). Contains l b) adds.batches there);
      })
      (λ fine none. alone none) (λ to far fine none. beyond to far none) (record { blobs = blobs_new; stored = stored_behind; entries = entries_new; below = below_new }) names_new
      (let passes = fits.passes in let same = same_stable in omega (arith, passes, same)) (λ some. out) left_new

-- It has one more batch, which begins behind that.
module _ (sum : List ℕ → ℕ) (size : ℕ) (site : SegmentPosition) (device : State) (fault : Option IoError) (bytes : List ℕ) (from : ℕ) (bs : List Sealed) (rs : List Reserved) (pins : ℕ) (H : History) (A f : ℕ)
    (U : List Message) {behind : List SegmentParts} {reach : ℕ} {marks : JoinedMarks} (fits : FitsIn sum marks (log_parts size site device fault bytes from bs rs) behind reach pins H A f U)
    (bytes' : List ℕ) (bs' : List Sealed) (rs' : List Reserved) (behind' : List SegmentParts) (H' : History)
    (holds : HoldsIn sum marks (log_parts size site device fault bytes' from bs' rs') behind' (logged H'))
    (b : Batch) (least : 256 ≤ size) (short : length bytes' ≤ size) (ok : fault ≡ None) (adds : AddsBatch H b H') (past : site.place + from ≤ b.low)
    (alone : NoHeaderOfZeros sum → StandsAnew sum size site device fault bytes from bs rs pins H A f U fits bytes' bs' rs' behind' H' holds device.log.bytes)
    (beyond : (to : ℕ) → site.slot ≤ to → NoHeaderOfZeros sum
    → StandsAnew sum size site device fault bytes from bs rs pins H A f U fits bytes' bs' rs' behind' H' holds (padded to device.log.bytes)) where
  abbrev begins : SnapshotModel
  begins = fits.holds.begun.first

  -- what the log has of the history has the batch too
  abbrev added : AddsBatch (logged H) b (logged H')
  added = batch_logged H b H' adds

  -- the batch begins behind what is read, so the stable place is the same
  still_stable : stable_below reach H'.batches ≡ stable_below reach H.batches
  still_stable = ap (stable_below reach) adds.batches ∙ stable_one_more reach H.batches b (let near = fits.reached.near in omega (arith, near, past))

  names_noted : NamesFit sum size device.snapshots (logged H') f begins
  names_noted = let begun = fits.holds.begun.reached in names-marks (logged H) (logged H') b added sum size device.snapshots f begins (omega (arith, begun, past)) fits.named.names

  blobs_noted : BlobsFit sum device.blobs H' (stable_below reach H'.batches)
  blobs_noted = subst (λ n. BlobsFit sum device.blobs H' n) (sym still_stable) (blobs-marks H H' b adds sum device.blobs (stable_below reach H.batches) fits.items.blobs)

  stored_noted : KeepsItems sum device.blobs H' (stable_below reach H'.batches)
  stored_noted x there far = let same = still_stable in fits.items.stored x (message_was H H' b adds x there) (omega (arith, far, same))

  entries_noted : KeepsEntries sum device.blobs H' (stable_below reach H'.batches)
  entries_noted = subst (KeepsEntries sum device.blobs H') (sym still_stable) (entries-marks H H' b adds sum device.blobs (stable_below reach H.batches) fits.items.entries)

  left_noted : LeavesRecovering sum size H' (stable_below reach H'.batches) f device
  left_noted =
      let on = fits.holds.own.written ok in
      settled_recoverable sum size least device H' (stable_below reach H'.batches) f begins reach (whole_ascends sum size site device fault bytes' from bs' rs' (logged H') holds short)
      stored_noted (rests device.log on.log on.settled) names_noted blobs_noted (λ none. (alone none).stands)

  -- The log fits the history with the batch, with no other message to be marked.
  pub fits-noted : FitsIn sum marks (log_parts size site device fault bytes' from bs' rs') behind' reach pins H' A f U
  fits-noted = fits-anew sum size site device fault bytes from bs rs pins H A f U fits bytes' bs' rs' behind' H' holds U
      (record {
        near = fits.reached.near;
        ends = λ x there low. fits.reached.ends x (message_was (logged H) (logged H') b added x there) low;
        no_batch = no_batch_grown (logged H) (logged H') b.low (batch_grows (logged H) (logged H') b added) reach (site.place + from) (inr past) fits.reached.no_batch;
        no_end = no_end (logged H) (logged H') b added reach (site.place + from) past fits.reached.no_end;
      })
      (λ fine none. alone none) (λ to far fine none. beyond to far none)
      (record { blobs = blobs_noted; stored = stored_noted; entries = entries_noted; below = λ x there. fits.items.below x (message_was H H' b adds x there) }) names_noted
      (let passes = fits.passes in let same = still_stable in omega (arith, passes, same)) fits.pinned left_noted
