-- What a crash leaves at each moment of the calls that fill parts of the log file with zeros can be read back: the rest of the segment of the cut, and then the slots that were not read. The other parts of the device stay as they are meanwhile.
use Rattle.std.proofs.Common.{◌≡◌, ◌+◌, ◌-◌, ◌%◌, ◌≤◌, ℕ, ℤ, List, [], ◌∷◌, ◌++◌, replicate, Option, Some, None, refl, sym, subst, arith}
use Rattle.sled_codec.specs.declared.serialization.message.MessageKind.{MessageKind}
use Rattle.sled_codec.specs.History.{History, CutFits}
use Rattle.sled_codec.specs.Snapshots.{SnapshotModel, stable_place}
use Rattle.sled_store.specs.Blobs.{IsBlob}
use Rattle.sled_store.specs.Device.{Event, Wrote, Synced, LogState, NamesState, Temporary, State, step, at_rest, overwritten, settled_again, LeavesLog, LeavesName, Placement}
use Rattle.sled_store.specs.Foreign.{NoForeignLog, NoForeignNames}
use Rattle.sled_store.specs.inside.Script.{Along}
use Rattle.sled_store.specs.SnapshotFiles.{IsSnapshotFile}
use Rattle.sled_store.proofs.Crashes.ForeignLemmas.{before_knows, torn_knows}
use Rattle.sled_store.proofs.Crashes.LeavesLemmas.{Asked, write, before_leaves, torn_leaves}
use Rattle.sled_store.proofs.LogFile.LogLemmas.{at_rest_left}
use Rattle.sled_store.proofs.Segments.Elements.{in_first, in_rest}
use Rattle.sled_store.proofs.Traces.ScriptLemmas.{along_first}
use Rattle.sled_core.specs.inside.Recoverable.{ActiveFits, AreRecoverableSnapshots, IsRecoverableLog, AreRecoverableBlobs}
use Rattle.sled_core.specs.Recoverable.{NoHeaderOfZeros}
use Rattle.sled_core.proofs.Torn.TornLemmas.{after_write}
use Rattle.sled_log.specs.Orderly.{IsOrderly}
pub use Rattle.sled_log.proofs.Recovers.Readable.{LeavesReadable}
use Rattle.sled_log.specs.Recovery.{shred_range_of}
use Rattle.sled_log.specs.WritesBack.{shredding, zeroing, after_zeroing}
use Rattle.sled_log.proofs.Moments.Shredded.{IsShredded, filled, full}
use Rattle.sled_log.proofs.Moments.Steps.{zeros_left}
use Rattle.sled_log.proofs.Moments.UnreadSlots.{AreFree, StopsAtCut, recoverable_at, zeroing_left, one_zeroed, still_free}
use Rattle.sled_core.proofs.Holds.CallMoments.{own_still as own_later}

-- The parts of a state. Recovery may begin from some snapshots alone.

abbrev pub NamesBegin : (List ℕ → ℕ) → ℕ → History → ℕ → (SnapshotModel → Type 0) → NamesState → Type 0
NamesBegin sum size H f Allowed names =
    (left : ℤ → Option (List ℕ)) → ((n : ℤ) → LeavesName names n (left n)) → NoForeignNames (λ bytes. (s : SnapshotModel) × IsSnapshotFile sum bytes s) names left
    → (first : SnapshotModel) × AreRecoverableSnapshots sum size left H f first × Allowed first

abbrev pub LogStands : (List ℕ → ℕ) → ℕ → History → ℕ → ℕ × Option ℕ → (SnapshotModel → Type 0) → LogState → List Placement → Type 0
LogStands sum size H A cut Allowed log placed =
    (left : List ℕ) → LeavesLog log left → NoForeignLog sum size log placed left
    → (first : SnapshotModel) → ActiveFits size (stable_place first.stable) first.active → Allowed first → IsRecoverableLog sum size left H A first cut

abbrev pub BlobsStand : (List ℕ → ℕ) → History → ℕ → NamesState → Type 0
BlobsStand sum H cut blobs =
    (left : ℤ → Option (List ℕ)) → ((n : ℤ) → LeavesName blobs n (left n)) → NoForeignNames (λ bytes. (k : MessageKind) × (item : List ℕ) × IsBlob sum bytes k item) blobs left → AreRecoverableBlobs sum left H cut

module _ (sum : List ℕ → ℕ) (size : ℕ) (H : History) (A f : ℕ) where
  abbrev P : State → Type 0
  P = LeavesReadable sum size H A f

  -- It holds along a list of calls that begins with this one, if it does along the rest.
  pub along_call : (e : Event) (es : List Event) (s : State) → Asked e → Along P es (step e s) → Along P (e ∷ es) s
  along_call e es s asked rest =
      let after = along_first P es (step e s) rest in (
        λ left leaves own. after left (before_leaves e s left asked leaves) (own_later sum size s (step e s) left (before_knows e s asked) own),
        λ torn tears left leaves own. after left (torn_leaves e torn s left asked tears leaves) (own_later sum size (step torn s) (step e s) left (torn_knows e torn s asked tears) own),
        rest,
      )

  module _ (orderly : IsOrderly H) (cut : ℕ × Option ℕ) where
    -- What a crash leaves of it can be read back, where its parts can.
    pub parts_readable : (Allowed : SnapshotModel → Type 0) (s : State) → LogStands sum size H A cut Allowed s.log s.placed → NamesBegin sum size H f Allowed s.snapshots → BlobsStand sum H cut.0 s.blobs → P s
    parts_readable Allowed s log names blobs left leaves own =
        let begins = names left.snapshots leaves.snapshots own.snapshots in
        record {
          orderly = orderly;
          first = begins.0;
          cut = cut;
          snapshots = begins.1;
          log = log left.log leaves.log own.log begins.0 begins.1.active begins.2;
          blobs = blobs left.blobs leaves.blobs own.blobs;
        }

    module _ (blobs names : NamesState) (temporary : Temporary) (stand : BlobsStand sum H cut.0 blobs) where
      -- the device, with a log file that is at rest
      abbrev pub here : List ℕ → List Placement → State
      here log placed = record { log = at_rest log; blobs = blobs; snapshots = names; temporary = temporary; placed = placed }

      -- zeros that were asked to be written, and then a sync
      abbrev zeros_at : ℕ → ℕ → Placement
      zeros_at at count = record { at = at; bytes = replicate count 0; since = [] }

      abbrev with_zeros : List ℕ → ℕ → ℕ → List Placement → List Placement
      with_zeros log at count placed = settled_again (overwritten log at (replicate count 0)) (zeros_at at count ∷ placed)

      -- Zeros are written, and synced, and then other calls are made.
      filled_along : (Allowed : SnapshotModel → Type 0) → NamesBegin sum size H f Allowed names → (log : List ℕ) (placed : List Placement) (at count : ℕ)
          → LogStands sum size H A cut Allowed (after_write log at (replicate count 0) (replicate count 0)) (zeros_at at count ∷ placed)
          → (es : List Event) → Along P es (here (overwritten log at (replicate count 0)) (with_zeros log at count placed)) → Along P (Wrote at (replicate count 0) (replicate count 0) ∷ Synced ∷ es) (here log placed)
      filled_along Allowed begin log placed at count stands es rest =
          let wrote : Event = Wrote at (replicate count 0) (replicate count 0) in
          along_call wrote (Synced ∷ es) (here log placed) (write at (replicate count 0))
          (parts_readable Allowed (step wrote (here log placed)) stands begin stand, λ torn tears. absurd tears, rest)

      module _ (some : 256 ≤ size) (fits : CutFits H cut.0) (none : NoHeaderOfZeros sum) where
        -- The rest of the segment of the cut, under the snapshot that recovery began from.
        module _ (first : SnapshotModel) (begin : NamesBegin sum size H f (λ s. s ≡ first) names) (log : List ℕ) (is : IsRecoverableLog sum size log H A first cut) (active : ActiveFits size (stable_place first.stable) first.active) where
          pub shredding_along : (placed : List Placement) (es : List Event)
              → ((new : List ℕ) (all : List Placement) → IsShredded sum size log some H A first cut is fits active (at_rest new) → Along P es (here new all)) → Along P (shredding (shred_range_of size cut.0 cut.1) ++ es) (here log placed)
          shredding_along placed es rest = by cut.1 refl where
            by : (o : Option ℕ) → cut.1 ≡ o → Along P (shredding (shred_range_of size cut.0 o) ++ es) (here log placed)
            by None no_slot = rest log placed (full sum size log some H A first cut is fits active no_slot)
            by (Some slot) has_slot =
                let at : ℕ = slot + cut.0 % size in
                let count : ℕ = size - cut.0 % size in
                let zeros : List ℕ = replicate count 0 in
                filled_along (λ s. s ≡ first) begin log placed at count
                (λ left leaves own s fits_s same.
                subst (λ (t : SnapshotModel). IsRecoverableLog sum size left H A t cut) (sym same)
                (zeros_left sum size log some H A first cut is fits active slot has_slot at count refl (omega (arith, some)) zeros left (omega arith) leaves (zeros_at at count ∷ placed) own none))
                es (rest (overwritten log at zeros) (with_zeros log at count placed) (filled sum size log some H A first cut is fits active slot has_slot))

        -- The slots that were not read, under any snapshot that has the cut for its place.
        module _ (begin : NamesBegin sum size H f (λ s. stable_place s.stable ≡ cut.0) names) where
          -- before and behind all of them
          pub stops_readable : (log : List ℕ) (placed : List Placement) → StopsAtCut sum size log some H A cut → P (here log placed)
          stops_readable log placed stops =
              parts_readable (λ s. stable_place s.stable ≡ cut.0) (here log placed)
              (λ left leaves own s active place. subst (λ (l : List ℕ). IsRecoverableLog sum size l H A s cut) (sym (at_rest_left log left leaves)) (recoverable_at sum size log some H A cut stops fits s place active)) begin stand

          pub zeroing_along : (slots log : List ℕ) (placed : List Placement) → AreFree sum size log cut.0 slots → StopsAtCut sum size log some H A cut
              → (es : List Event) → ((all : List Placement) → Along P es (here (after_zeroing size slots (at_rest log)).bytes all)) → Along P (zeroing size slots ++ es) (here log placed)
          zeroing_along [] log placed are_free stops es rest = rest placed
          zeroing_along (slot ∷ slots) log placed are_free stops es rest =
              let zeros : List ℕ = replicate size 0 in
              let is_free = are_free slot (in_first slot slots) in
              filled_along (λ s. stable_place s.stable ≡ cut.0) begin log placed slot size
              (λ left leaves own s active place. zeroing_left sum size log some H A cut stops fits s place active none slot is_free zeros left (omega arith) leaves (zeros_at slot size ∷ placed) own) (zeroing size slots ++ es)
              (zeroing_along slots (overwritten log slot zeros) (with_zeros log slot size placed)
              (λ other there. still_free sum size log some none H cut.0 slot other is_free (are_free other (in_rest slot other slots there)))
              (one_zeroed sum size log some H A cut stops none slot is_free) es rest)
