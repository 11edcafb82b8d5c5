-- An empty device is ready for a log in which nothing happened, and whatever a crash leaves of it can be recovered.
use Rattle.std.proofs.Common.{◌/◌, ◌≡◌, ◌≤◌, ◌<◌, ◌*◌, ◌^◌, ◌∙◌, ℕ, ℤ, pos, List, [], length, drop, Option, Some, None, refl, sym, ap, subst, arith, inl, length-take, length-drop}
use Rattle.sled_codec.specs.History.{no_history}
use Rattle.sled_codec.specs.Places.{part}
use Rattle.sled_codec.specs.Record.{IsHeader}
use Rattle.sled_codec.specs.Snapshots.{empty_model}
use Rattle.sled_codec.proofs.Segments.{length-short_header}
use Rattle.sled_store.specs.Device.{Content, State, fresh, at_rest, names_at_rest, LeavesName}
use Rattle.sled_store.proofs.LogFile.LogLemmas.{at_rest_left}
use Rattle.sled_store.proofs.Names.NamesLemmas.{settled_name_left, settled_name_at_rest}
use Rattle.sled_store.proofs.Segments.Elements.{in_nothing}
use Rattle.sled_store.specs.Foreign.{RecordWasPlaced}
use Rattle.sled_core.specs.OwnNames.{IsAnyBlob, IsAnySnapshot}
use Rattle.sled_core.specs.inside.Hides.{IsOwnRecord}
use Rattle.sled_store.specs.Marks.{slot_with}
use Rattle.sled_core.specs.inside.Numbers.{HasNumber, NumbersStay}
use Rattle.sled_core.specs.invariants.Recoverable.{Recoverable}
use Rattle.sled_core.specs.Recoverable.{LeavesRecoverable}
use Rattle.sled_core.specs.inside.Lasting.{LeavesRecovering}
use Rattle.sled_core.specs.inside.Recoverable.{AreRecoverableSnapshots, AreRecoverableBlobs}
use Rattle.sled_core.specs.Ready.{IsReady}
use Rattle.sled_core.specs.invariants.Running.{Ready}
use Rattle.sled_core.specs.inside.Reached.{StandsTo}
use Rattle.sled_core.proofs.Blobs.StaysOwn.{own_at_rest}
use Rattle.sled_core.proofs.Start.FreshLemmas.{no_entry, ready_fresh, nothing_stands, nothing_active}
use Rattle.sled_core.proofs.Numbers.Lasting.{lasts_leaves}
use Rattle.sled_core.proofs.Start.Recoverable.{stands_recoverable}
use Rattle.sled_core.proofs.Read.FoundLemmas.{zero_mod}

-- a crash leaves no names where there are none
none_left : (n : ℤ) (left : Option (List ℕ)) → LeavesName (names_at_rest (λ _. None)) n left → left ≡ None
none_left n left leaves = settled_name_left (names_at_rest (λ _. None)) n left (settled_name_at_rest (λ _. None) n) leaves

-- where there are no snapshots, recovery begins from that of a log that was never begun
pub none_listed : (sum : List ℕ → ℕ) (size : ℕ) (snapshots : ℤ → Option (List ℕ)) → ((n : ℤ) → snapshots n ≡ None) → AreRecoverableSnapshots sum size snapshots no_history 0 empty_model
none_listed sum size snapshots none = record {
  begins = inl (none, refl);
  listed = λ n bytes there. absurd (none_some bytes (sym (none n) ∙ there));
  not_below = omega arith;
  active = zero_mod size;
} where
  none_some : (bytes : List ℕ) → None ≡ Some bytes → ⊥
  none_some bytes is = cc

-- an empty file has no header of a segment
no_header : (sum : List ℕ → ℕ) (at : ℕ) (lsn mark : ℤ) → IsHeader sum (part [] at 20) lsn mark → ⊥
no_header sum at lsn mark is =
    let twenty : length (part [] at 20) ≡ 20 = ap length is.is ∙ length-short_header sum lsn mark in
    omega (arith, twenty, length-take {A = ℕ} 20 (drop at []), length-drop {A = ℕ} at [])

-- no message needs a blob
no_blobs : (sum : List ℕ → ℕ) (blobs : ℤ → Option (List ℕ)) → AreRecoverableBlobs sum blobs no_history 0
no_blobs sum blobs = record { needed = λ page m there. absurd (no_entry 0 page m there); named = λ m there. absurd (in_nothing m there) }

-- the empty content, of a log that was never begun
pub nothing_recoverable : (sum : List ℕ → ℕ) (size : ℕ) (content : Content) → 256 ≤ size → content.log ≡ [] → ((n : ℤ) → content.snapshots n ≡ None) → Recoverable sum size content no_history 0 0
nothing_recoverable sum size content long log snapshots =
    stands_recoverable sum size content no_history 0 0 empty_model 0 long tt (λ k d lt. absurd (omega (arith, lt)))
    (subst (λ (l : List ℕ). StandsTo sum size l no_history 0 empty_model 0) (sym log) (nothing_stands sum size)) (omega arith) (none_listed sum size content.snapshots snapshots) (no_blobs sum content.blobs)

fresh_recovering : (sum : List ℕ → ℕ) (size : ℕ) → 256 ≤ size → size < 2 ^ 63 → LeavesRecovering sum size no_history 0 0 fresh
fresh_recovering sum size large small left leaves own = nothing_recoverable sum size left large (at_rest_left [] left.log leaves.log) (λ n. none_left n (left.snapshots n) (leaves.snapshots n))

-- Nothing is the log's own where nothing was written.
none_own : (sum : List ℕ → ℕ) (size number at : ℕ) (text : List ℕ) → IsOwnRecord sum size fresh number at text → ⊥
unfolding RecordWasPlaced
none_own sum size number at text own = let laid = own.placed in in_nothing laid.0 laid.1

-- so each slot has any number
none_numbered : (sum : List ℕ → ℕ) (size k number : ℕ) → HasNumber sum size fresh k number
none_numbered sum size k number = record {
  greatest = λ n at text inside own. absurd (none_own sum size n at text own);
  only = λ j at text inside own. absurd (none_own sum size number at text own);
}

fresh_numbers : (sum : List ℕ → ℕ) (size : ℕ) → NumbersStay sum size fresh no_history 0
fresh_numbers sum size = record {
  entries = λ cut page e up entry. none_numbered sum size (slot_with size e) (e.place / size);
  later = λ k place mark own up. none_numbered sum size k (place / size);
  lie = λ number at text own. absurd (none_own sum size number at text own);
}

pub fresh_leaves : (sum : List ℕ → ℕ) (size : ℕ) → 256 ≤ size → size < 2 ^ 63 → LeavesRecoverable sum size no_history 0 0 fresh
fresh_leaves sum size large small =
    lasts_leaves sum size no_history 0 0 fresh 0 (omega arith) (record { can = fresh_recovering sum size large small; numbers = λ zeros. fresh_numbers sum size })

pub fresh_ready : (sum : List ℕ → ℕ) (size : ℕ) → 256 ≤ size → size < 2 ^ 63 → Ready sum size fresh empty_model no_history 0 0
unfolding Ready
fresh_ready sum size large small = record {
  ready = ready_fresh sum size fresh refl (λ n. refl);
  alone = nothing_active sum size;
  active = zero_mod size;
  blobs = λ left leaves own. no_blobs sum left;
  entries = λ page m there. absurd (no_entry 0 page m there);
  below = λ m there. absurd (in_nothing m there);
  names = λ left leaves own. none_listed sum size left (λ n. none_left n (left n) (leaves n));
  own = λ zeros slot. record { header = λ lsn mark is. absurd (no_header sum (slot * size) lsn mark is); records = λ lsn mark at len is r. absurd (no_header sum (slot * size) (pos lsn) mark is) };
  own_names = record { of_blobs = own_at_rest (IsAnyBlob sum) (λ n. None); of_snapshots = own_at_rest (IsAnySnapshot sum) (λ n. None) };
  passes = omega arith;
  left = fresh_recovering sum size large small;
  numbers = λ zeros. fresh_numbers sum size;
}

-- An empty log file without a snapshot is ready, whatever blobs there are.
pub empty_ready : (sum : List ℕ → ℕ) (size : ℕ) (device : State) → device.log ≡ at_rest [] → ((n : ℤ) → device.snapshots.file n ≡ None) → IsReady sum size device empty_model no_history
empty_ready sum size device empty none = ready_fresh sum size device empty none

-- A recovery can go on from nothing.
pub empty_recoverable : (sum : List ℕ → ℕ) (size : ℕ) → 256 ≤ size → size < 2 ^ 63 → Recoverable sum size (record { log = []; blobs = λ n. None; snapshots = λ n. None }) no_history 0 0
empty_recoverable sum size large small = nothing_recoverable sum size (record { log = []; blobs = λ n. None; snapshots = λ n. None }) large refl (λ n. refl)
