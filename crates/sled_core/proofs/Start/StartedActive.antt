-- While a log starts, fills the slots that the snapshot doesn't use and cuts free ones off, and behind that, the log file stands for the snapshot as before.
use Rattle.std.proofs.Common.{◌≡◌, ◌≤◌, ◌≢◌, ◌<◌, ℕ, List, length, arith}
use Rattle.std.specs.List.{All}
use Rattle.sled_codec.specs.History.{History}
use Rattle.sled_codec.specs.PageTables.{IsTable}
use Rattle.sled_codec.specs.Snapshots.{SnapshotModel, stable_place}
use Rattle.sled_store.specs.Begin.{slots_of, unused}
use Rattle.sled_store.specs.Device.{State, Content, Trace, state_of, at_rest}
use Rattle.sled_store.specs.Foreign.{NoForeignLog}
use Rattle.sled_store.specs.Moments.{AllLeft}
use Rattle.sled_store.specs.inside.Script.{Along}
use Rattle.sled_store.specs.Started.{found, started}
use Rattle.sled_store.specs.inside.Started.{left_slots}
use Rattle.sled_store.proofs.Accounts.StartNext.{used_left}
use Rattle.sled_store.proofs.Segments.FilledLemmas.{filled}
use Rattle.sled_store.proofs.Accounts.StartedFile.{started_file, started_covered, free_begin}
use Rattle.sled_core.specs.inside.Reached.{StandsActive}
use Rattle.sled_core.specs.Recoverable.{NoHeaderOfZeros}
use Rattle.sled_core.proofs.Start.KeptActive.{Uses, active_left}
use Rattle.sled_core.proofs.Reached.KeptStands.{SameInUsed}
use Rattle.sled_core.proofs.Reached.StartedStands.{both_along, same_then, cut_same, starting_has}
use Rattle.sled_core.proofs.Torn.FilledAlong.{used_apart}
use Rattle.sled_core.proofs.Torn.FilledBehind.{filled_same}
use Rattle.sled_core.proofs.Torn.KeptSlots.{KeepsSlots, KeepsIfOwn, keeps_then, filled_keeps, cut_keeps, starting_along}

-- What a crash left stands for a snapshot, where only what the log itself wrote passes as its own.
abbrev pub ActiveIfOwn : (List ℕ → ℕ) → ℕ → SnapshotModel → History → State → Content → Type 0
ActiveIfOwn sum size s H past left = NoForeignLog sum size past.log past.placed left.log → StandsActive sum size left.log s H

module _ (sum : List ℕ → ℕ) (size : ℕ) (long : 256 ≤ size) (zeros : NoHeaderOfZeros sum) (log : List ℕ) (s : SnapshotModel) (H : History) (is : IsTable s.pages H (stable_place s.stable)) (alone : StandsActive sum size log s H) where
  abbrev slots : ℕ
  slots = slots_of size (length log)

  abbrev left : ℕ
  left = left_slots size (length log) s

  abbrev free : List ℕ
  free = unused size slots s

  abbrev Used : ℕ → Type 0
  Used = Uses sum size (omega (arith, long)) log s H is alone

  some : 0 < size
  some = omega (arith, long)

  twenty : 20 ≤ size
  twenty = omega (arith, long)

  apart : (j : ℕ) → Used j → All (λ k. k ≢ j) free
  apart j used = used_apart size (length log) s j used.0

  below : (j : ℕ) → Used j → j < left
  below j used = used_left size slots s j used.0 used.1

  -- behind it
  keeps : KeepsSlots sum size Used log (started_file size log s)
  keeps = keeps_then sum size Used log (filled size log free) (started_file size log s) (filled_keeps sum size Used twenty zeros log free apart (free_begin size some log s)) (cut_keeps sum size Used twenty (filled size log free) left below zeros)

  same : SameInUsed size Used log (started_file size log s)
  same j used = same_then size log (filled size log free) (started_file size log s) j (filled_same sum size log free twenty (free_begin size some log s) j (apart j used)) (cut_same size (filled size log free) left j (below j used))

  pub started_active : StandsActive sum size (started_file size log s) s H
  started_active = active_left sum size twenty log s H is alone long (started_file size log s) keeps same

  -- and each file that a crash leaves during it
  pub starting_active : (t : Trace) → (state_of t).log ≡ at_rest log → Along (AllLeft (ActiveIfOwn sum size s H)) (started size (length log) s).calls (state_of t)
  starting_active t rest =
      both_along (AllLeft (KeepsIfOwn sum size Used log)) (AllLeft (λ past left. SameInUsed size Used log left.log)) (AllLeft (ActiveIfOwn sum size s H))
      (λ x kept has left leaves own. active_left sum size twenty log s H is alone long left.log (kept left leaves own) (has left leaves))
      (started size (length log) s).calls (state_of t)
      (starting_along sum size Used twenty zeros log free (found size slots s).slots slots (free_begin size some log s) (started_covered size some log s) apart below t rest)
      (starting_has sum size Used twenty log free (found size slots s).slots slots (free_begin size some log s) (started_covered size some log s) apart below t rest)
