-- At each moment of the write of one buffer, and of the sync behind it, a crash leaves what can be recovered, where what a crash leaves of the write stands as before, and all of it up to a place no lower.
use Rattle.std.proofs.Common.{◌≡◌, ◌≤◌, ℕ, List, [], ◌∷◌, length, sym, refl, subst, arith}
use Rattle.sled_codec.specs.History.{History}
use Rattle.sled_codec.specs.Snapshots.{SnapshotModel}
use Rattle.sled_store.specs.Device.{Event, LogState, State, Wrote, Synced, LeavesLog, at_rest, log_step, overwritten, step, Placement}
use Rattle.sled_store.specs.Foreign.{NoForeignLog}
use Rattle.sled_store.specs.inside.Script.{Along}
use Rattle.sled_store.proofs.Histories.Ascending.{Ascends}
use Rattle.sled_core.specs.Logged.{logged}
use Rattle.sled_core.specs.OpenBatches.{stable_below}
use Rattle.sled_core.specs.Recoverable.{NoHeaderOfZeros}
use Rattle.sled_core.specs.inside.Lasting.{LeavesRecovering}
use Rattle.sled_core.specs.inside.Running.{BlobsFit, KeepsItems, NamesFit}
use Rattle.sled_core.proofs.Flush.Settled.{blobs_higher, left_items, leaves_less, settled_recoverable, stands_recoverable}
use Rattle.sled_core.proofs.Reached.StableBelow.{stable_rises}
use Rattle.sled_core.proofs.Reached.StandsTo.{StandsTo}
use Rattle.sled_core.proofs.Torn.TornLemmas.{after_write}

module _ (sum : List ℕ → ℕ) (size : ℕ) (some : 256 ≤ size) (device : State) (rest : device.log ≡ at_rest device.log.bytes) (H : History) (f : ℕ) (first : SnapshotModel) (reach reach' : ℕ) (up : reach ≤ reach')
    (ordered : Ascends (logged H).messages) (stored : KeepsItems sum device.blobs H (stable_below reach H.batches)) (names : NamesFit sum size device.snapshots (logged H) f first) (blobs : BlobsFit sum device.blobs H (stable_below reach H.batches))
    (before : LeavesRecovering sum size H (stable_below reach H.batches) f device) (at : ℕ) (asked : List ℕ)
    (torn : NoHeaderOfZeros sum → (now left : List ℕ) → length now ≤ length asked → LeavesLog (after_write device.log.bytes at asked now) left → (placed : List Placement)
    → NoForeignLog sum size (after_write device.log.bytes at asked now) placed left → StandsTo sum size left (logged H) (stable_below reach H.batches) first reach)
    (whole : NoHeaderOfZeros sum → StandsTo sum size (overwritten device.log.bytes at asked) (logged H) (stable_below reach' H.batches) first reach') where
  -- the stable place before the write, and behind it
  abbrev low : ℕ
  low = stable_below reach H.batches

  abbrev high : ℕ
  high = stable_below reach' H.batches

  rises : low ≤ high
  rises = stable_rises reach reach' up H.batches

  -- the state once so much of the write was done
  abbrev while_written : List ℕ → State
  while_written now = step (Wrote at asked now) device

  -- and once it is synced
  abbrev pub once_synced : State
  once_synced = step Synced (while_written asked)

  write_leaves : (now : List ℕ) → length now ≤ length asked → LeavesRecovering sum size H low f (while_written now)
  write_leaves now no_more = λ left leaves only_own.
      let stands = torn only_own.zeros now left.log no_more (subst (λ (s : LogState). LeavesLog (log_step (Wrote at asked now) s) left.log) rest leaves.log)
      (record { at = at; bytes = asked; since = [] } ∷ device.placed) (subst (λ (s : LogState). NoForeignLog sum size (log_step (Wrote at asked now) s) (record { at = at; bytes = asked; since = [] } ∷ device.placed) left.log) rest only_own.log) in
      stands_recoverable sum size some left H low f first reach ordered (left_items sum device.blobs left.blobs H low leaves.blobs stored) (names left.snapshots leaves.snapshots only_own.snapshots) (blobs left.blobs leaves.blobs only_own.blobs) stands

  -- what stands up to the place needs no more blobs
  pub blobs_up : BlobsFit sum device.blobs H high
  blobs_up = blobs_higher sum device.blobs H low high ordered rises stored blobs

  pub stored_up : KeepsItems sum device.blobs H high
  stored_up m there above = (let up = rises in stored m there (omega (arith, up, above)))

  -- Behind the sync all that is stable then counts as acknowledged.
  pub synced_leaves : LeavesRecovering sum size H high f once_synced
  synced_leaves = settled_recoverable sum size some once_synced H high f first reach' ordered stored_up refl names blobs_up whole

  -- On the way what was written before does.
  pub write_along : Along (LeavesRecovering sum size H low f) (Wrote at asked asked ∷ Synced ∷ []) device
  write_along = (
    before,
    λ torn_there tears. subst (λ (e : Event). LeavesRecovering sum size H low f (step e device)) (sym tears.2) (write_leaves tears.0 tears.1),
    (write_leaves asked (omega arith), λ torn_there tears. absurd tears, leaves_less sum size H low high f once_synced rises synced_leaves),
  )
