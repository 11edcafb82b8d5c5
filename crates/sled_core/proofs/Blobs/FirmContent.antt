-- What is read of a device, with no bytes in the files that were never synced. A crash may leave that, and nothing of it is foreign where what is read is the log's own. So where whatever a crash leaves can be recovered, what is read can be: a file that was never synced is none that a message names.
use Rattle.std.proofs.Common.{◌≡◌, ◌∙◌, ℕ, ℤ, Bool, true, false, List, [], Option, Some, None, refl, sym, subst, inl}
use Rattle.sled_codec.specs.declared.result.DiskPtr.{DiskPtr}
use Rattle.sled_codec.specs.declared.result.DiskPtr.TheVariants.{Inline, Blob}
use Rattle.sled_codec.specs.declared.serialization.message.MessageKind.{MessageKind}
use Rattle.sled_codec.specs.History.{Message, History}
use Rattle.sled_store.specs.Blobs.{IsDamagedFor}
use Rattle.sled_store.specs.Device.{Content, Leaves, LeavesFile, LeavesName, NamesState, State, Trace, content_of, state_of}
use Rattle.sled_store.specs.Foreign.{NoForeignNames}
use Rattle.sled_store.proofs.Crashes.SettledLemmas.{read_left}
use Rattle.sled_store.proofs.Crashes.SyncedLemmas.{snapshots_firm}
use Rattle.sled_core.specs.OwnNames.{IsAnyBlob, StayOwn}
use Rattle.sled_core.specs.inside.Recoverable.{AreRecoverableBlobs, HasItem, PassesIfThere}
use Rattle.sled_core.specs.Recoverable.{LeavesRecoverable, NoForeign, ReadsOnlyOwn}
use Rattle.sled_core.specs.invariants.Recoverable.{Recoverable}
use Rattle.sled_core.proofs.Blobs.Leaves.{blob_not_empty}
use Rattle.sled_core.proofs.Blobs.StaysOwn.{own_now}

-- a file, without bytes where they may still be lost
abbrev firm_file : Option (List ℕ) → Bool → Option (List ℕ)
firm_file None unsynced = None
firm_file (Some bytes) true = Some []
firm_file (Some bytes) false = Some bytes

firm_left : (file : Option (List ℕ)) (unsynced : Bool) → LeavesFile file unsynced (firm_file file unsynced)
firm_left None unsynced = refl
firm_left (Some bytes) true = refl
firm_left (Some bytes) false = refl

module _ (sum : List ℕ → ℕ) (s : NamesState) where
  abbrev pub firm_files : ℤ → Option (List ℕ)
  firm_files n = firm_file (s.file n) (s.is_unsynced n)

  pub firm_leaves : (n : ℤ) → LeavesName s n (firm_files n)
  firm_leaves n = inl (firm_left (s.file n) (s.is_unsynced n))

  -- a file of it that passes is one that is read, and its bytes are synced
  firm_read : (n : ℤ) (bytes : List ℕ) → firm_files n ≡ Some bytes → IsAnyBlob sum bytes → (s.file n ≡ Some bytes) × (s.is_unsynced n ≡ false)
  firm_read n bytes there passes = by (s.file n) (s.is_unsynced n) refl refl there where
    by : (file : Option (List ℕ)) (unsynced : Bool) → s.file n ≡ file → s.is_unsynced n ≡ unsynced → firm_file file unsynced ≡ Some bytes → (s.file n ≡ Some bytes) × (s.is_unsynced n ≡ false)
    by None unsynced at is found = cc
    by (Some read) true at is found = let empty : [] ≡ bytes = cc in absurd (blob_not_empty sum (subst (IsAnyBlob sum) (sym empty) passes))
    by (Some read) false at is found = (at ∙ found, is)

  pub firm_own : StayOwn (IsAnyBlob sum) s → NoForeignNames (IsAnyBlob sum) s firm_files
  firm_own are = record { own = λ n bytes there passes. let read = firm_read n bytes there passes in are.own n bytes passes read.0 read.1 }

  -- The blob of a message is what is read.
  has_read : (m : Message) (p : DiskPtr) → HasItem sum firm_files m p → HasItem sum s.file m p
  has_read m (Inline lid) has = has
  has_read m (Blob lid place) has = record { kind = has.kind; known = has.known; file = has.file; there = (firm_read place has.file has.there (has.kind, m.bytes, has.is)).0; is = has.is }

  damaged_read : (kind : MessageKind) (n : ℤ) → IsDamagedFor sum kind (s.file n) → IsDamagedFor sum kind (firm_files n)
  damaged_read kind n (bytes, there, fails) = by (s.is_unsynced n) refl where
    by : (unsynced : Bool) → s.is_unsynced n ≡ unsynced → IsDamagedFor sum kind (firm_files n)
    by true is = ([], (λ i. firm_file (there i) (is i)), λ passes. blob_not_empty sum (kind, passes.0, passes.1))
    by false is = (bytes, (λ i. firm_file (there i) (is i)), fails)

  passes_read : (m : Message) (p : DiskPtr) → PassesIfThere sum firm_files m p → PassesIfThere sum s.file m p
  passes_read m (Inline lid) passes = passes
  passes_read m (Blob lid place) passes = λ kind known damaged. passes kind known (damaged_read kind place damaged)

  pub blobs_read : (H : History) (cut : ℕ) → AreRecoverableBlobs sum firm_files H cut → AreRecoverableBlobs sum s.file H cut
  blobs_read H cut are = record {
    needed = λ page m entry. has_read m m.pointer (are.needed page m entry);
    named = λ m there. passes_read m m.pointer (are.named m there);
  }

-- All of a device.
module _ (sum : List ℕ → ℕ) (size : ℕ) (trace : Trace) (own : ReadsOnlyOwn sum size (state_of trace)) where
  abbrev device : State
  device = state_of trace

  abbrev pub firm_content : Content
  firm_content = record { log = device.log.bytes; blobs = firm_files sum device.blobs; snapshots = device.snapshots.file }

  pub content_leaves : Leaves device firm_content
  content_leaves = record { log = (read_left trace).log; blobs = firm_leaves sum device.blobs; snapshots = (read_left trace).snapshots }

  pub content_own : NoForeign sum size device firm_content
  content_own = record {
    log = own.log;
    blobs = firm_own sum device.blobs own.names.of_blobs;
    snapshots = record { own = λ n bytes there passes. own.names.of_snapshots.own n bytes passes there (snapshots_firm trace n) };
    zeros = own.zeros;
  }

  pub read_recoverable : (H : History) (A f : ℕ) → LeavesRecoverable sum size H A f device → Recoverable sum size (content_of device) H A f
  unfolding Recoverable
  read_recoverable H A f leaves =
      let is = (leaves firm_content content_leaves content_own).0 in
      record { first = is.first; cut = is.cut; snapshots = is.snapshots; log = is.log; blobs = blobs_read sum device.blobs H is.cut.0 is.blobs }

-- Where nothing that is read is foreign, it is the log's own.
pub only_own : (sum : List ℕ → ℕ) (size : ℕ) (s : State) → NoForeign sum size s (content_of s) → ReadsOnlyOwn sum size s
only_own sum size s own = record { log = own.log; names = own_now sum size s own; zeros = own.zeros }
