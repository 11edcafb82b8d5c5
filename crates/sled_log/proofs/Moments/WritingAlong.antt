-- What a crash leaves at each moment of the calls that write a recovery back can be read back, over any number of segments: the rest of the segment of the cut is filled, a table that is new is published and the other snapshots are removed, the slots that were not read are filled, and blobs at or above the cut are removed.
use Rattle.std.proofs.Common.{◌≡◌, ◌≢◌, ◌⊎◌, ◌≤◌, ◌++◌, if◌then◌else◌, ℕ, ℤ, pos, Bool, true, false, List, [], ◌∷◌, Option, Some, refl, sym, ap, subst, inl, inr}
use Rattle.std.specs.List.{Contains}
use Rattle.std.specs.Option.{unwrap_or}
use Rattle.std.proofs.lemmas.List.{append-nil, append_assoc}
use Rattle.sled_codec.specs.History.{History, CutFits}
use Rattle.sled_codec.specs.Snapshots.{SnapshotModel, stable_place}
use Rattle.sled_store.specs.Device.{Event, SnapshotFilled, SnapshotPublished, SnapshotRemoved, NamesSynced, NamesState, Temporary, State, at_rest, unnamed, renamed, names_synced, Placement}
use Rattle.sled_store.specs.inside.Durable.{IsSettledName}
use Rattle.sled_store.specs.inside.Script.{Along}
use Rattle.sled_store.proofs.Crashes.LeavesLemmas.{fill, publish, remove_snapshot}
use Rattle.sled_store.proofs.LogFile.LogLemmas.{at_rest_left}
use Rattle.sled_store.proofs.Segments.Elements.{in_first, in_rest}
use Rattle.sled_core.specs.inside.Recoverable.{ActiveFits, AreRecoverableSnapshots, IsRecoverableLog}
use Rattle.sled_core.specs.Recoverable.{NoHeaderOfZeros}
use Rattle.sled_log.specs.Orderly.{IsOrderly}
use Rattle.sled_log.specs.Recovery.{RecoveryResult, shred_range_of}
use Rattle.sled_log.specs.WritesBack.{shredding, short_file, snapshot_number_of, removing_snapshots, publishing_file, publishing, forgetting, writing_back}
use Rattle.sled_log.proofs.Moments.BlobsAlong.{forgetting_along}
use Rattle.sled_log.proofs.Moments.BlobsRemoved.{IsAbove}
use Rattle.sled_log.proofs.Moments.LogAlong.{LeavesReadable, NamesBegin, BlobsStand, along_call, parts_readable, shredding_along}
use Rattle.sled_log.proofs.Moments.Shredded.{IsShredded}
use Rattle.sled_log.proofs.Moments.SnapshotNames.{IsTableAt, settled_begin, put_begin, published_begin}
use Rattle.sled_log.proofs.Moments.UnreadSlots.{AreFree, StopsAtCut, recoverable_at}
use Rattle.sled_log.proofs.SnapshotFile.PublishLemmas.{IsPublished, published_synced, published_removed}

-- What is to be written back goes with a log file, with its cut, and with the snapshot that recovery began from.
pub record IsConcluded (sum : List ℕ → ℕ) (size : ℕ) (H : History) (first : SnapshotModel) (cut : ℕ × Option ℕ) (log : List ℕ) (x : RecoveryResult) : Type 0 where
  pub shred_range : x.shred_range ≡ shred_range_of size cut.0 cut.1
  pub made : x.is_new ≡ true → IsTableAt size H cut.0 x.model
  pub kept : x.is_new ≡ false → stable_place first.stable ≡ cut.0
  pub unread : AreFree sum size log cut.0 x.unread

module _ (sum : List ℕ → ℕ) (size : ℕ) (H : History) (A f : ℕ) (orderly : IsOrderly H) (cut : ℕ × Option ℕ) (some : 256 ≤ size) (fits : CutFits H cut.0) (none : NoHeaderOfZeros sum)
    (blobs : NamesState) (stand : BlobsStand sum H cut.0 blobs) (firm : names_synced blobs ≡ blobs) where
  abbrev P : State → Type 0
  P = LeavesReadable sum size H A f

  -- the device, with a log file that is at rest
  abbrev device : NamesState → Temporary → List ℕ → List Placement → State
  device names temporary log placed = record { log = at_rest log; blobs = blobs; snapshots = names; temporary = temporary; placed = placed }

  -- The snapshots are those that recovery read, and their names are settled.
  module _ (names : NamesState) (settled : (n : ℤ) → IsSettledName names n) (first : SnapshotModel) (tables : AreRecoverableSnapshots sum size names.file H f first) where
    -- A new table is published, and others are removed.
    module _ (s : SnapshotModel) (new : IsTableAt size H cut.0 s) (not_above : stable_place first.stable ≤ cut.0) (log : List ℕ) (same_cut : IsRecoverableLog sum size log H A first cut) (stops : StopsAtCut sum size log some H A cut) where
      abbrev bytes : List ℕ
      bytes = short_file sum s

      abbrev filled : Temporary
      filled = record { bytes = bytes; asked = bytes }

      abbrev named : NamesState
      named = renamed names (pos cut.0) true (record { file = Some bytes; is_unsynced = false }) (bytes ∷ [])

      abbrev Old : SnapshotModel → Type 0
      Old t = (t ≡ first) ⊎ (stable_place t.stable ≡ cut.0)

      -- whichever of the two recovery begins from
      under : (t : SnapshotModel) → ActiveFits size (stable_place t.stable) t.active → Old t → IsRecoverableLog sum size log H A t cut
      under t active (inl same) = subst (λ (u : SnapshotModel). IsRecoverableLog sum size log H A u cut) (sym same) same_cut
      under t active (inr at) = recoverable_at sum size log some H A cut stops fits t at active

      -- the others are removed
      removals_along : (es : List Event) (ns : List ℤ) (now : NamesState) (placed : List Placement) → ((n : ℤ) → Contains ns n → n ≢ pos cut.0) → IsPublished now names.file (pos cut.0) bytes
          → ((last : NamesState) → IsPublished last names.file (pos cut.0) bytes → Along P es (device last filled log placed)) → Along P (removing_snapshots ns ++ es) (device now filled log placed)
      removals_along es [] now placed apart is rest = rest now is
      removals_along es (m ∷ ns) now placed apart is rest =
          along_call sum size H A f (SnapshotRemoved m true) (removing_snapshots ns ++ es) (device now filled log placed) (remove_snapshot m)
          (removals_along es ns (unnamed now m true) placed (λ n there. apart n (in_rest m n ns there)) (published_removed now (pos cut.0) bytes names.file m (apart m (in_first m ns)) is) rest)

      pub publishing_along : (es : List Event) (ns : List ℤ) (temporary : Temporary) (placed : List Placement) → ((n : ℤ) → Contains ns n → n ≢ pos cut.0)
          → ((last : NamesState) → NamesBegin sum size H f (λ t. stable_place t.stable ≡ cut.0) last → Along P es (device last filled log placed))
          → Along P (publishing_file bytes (pos cut.0) ++ (removing_snapshots ns ++ es)) (device names temporary log placed)
      publishing_along es ns temporary placed apart rest =
          along_call sum size H A f (SnapshotFilled bytes bytes) (SnapshotPublished (pos cut.0) true ∷ NamesSynced ∷ (removing_snapshots ns ++ es)) (device names temporary log placed) (fill bytes)
          (along_call sum size H A f (SnapshotPublished (pos cut.0) true) (NamesSynced ∷ (removing_snapshots ns ++ es)) (device names filled log placed) (publish (pos cut.0)) (
            parts_readable sum size H A f orderly cut Old (device named filled log placed)
                (λ left leaves own_left t active old. subst (λ (l : List ℕ). IsRecoverableLog sum size l H A t cut) (sym (at_rest_left log left leaves)) (under t active old))
                (put_begin sum size H f cut.0 s new names.file first tables not_above names refl settled) stand,
            λ torn tears. absurd tears,
            subst (λ (b : NamesState). Along P (removing_snapshots ns ++ es) (record { log = at_rest log; blobs = b; snapshots = names_synced named; temporary = filled; placed = placed })) (sym firm)
                (removals_along es ns (names_synced named) placed apart (published_synced names (pos cut.0) bytes settled)
                (λ last is. rest last (published_begin sum size H f cut.0 s new names.file first tables not_above last is))),
          ))

    -- All calls that write it back.
    pub writing_along : (log : List ℕ) (is : IsRecoverableLog sum size log H A first cut) (x : RecoveryResult) → IsConcluded sum size H first cut log x → (temporary : Temporary) (placed : List Placement)
        → (ns : List ℤ) → (x.is_new ≡ true → (n : ℤ) → Contains ns n → n ≢ pos cut.0) → (places : List ℤ) → ((p : ℤ) → Contains places p → IsAbove cut.0 p)
        → Along P (writing_back sum size x ns places) (device names temporary log placed)
    writing_along log is x concluded temporary placed ns apart places above =
        subst (λ (es : List Event). Along P es (device names temporary log placed)) (sym (append_assoc (shredding x.shred_range) (if x.is_new then publishing sum x.model ns else []) forget))
        (subst (λ (r : Option (ℕ × ℕ)). Along P (shredding r ++ ((if x.is_new then publishing sum x.model ns else []) ++ forget)) (device names temporary log placed)) (sym concluded.shred_range)
        (shredding_along sum size H A f orderly cut blobs names temporary stand some fits none first (settled_begin sum size H f (λ t. t ≡ first) names settled first tables refl) log is tables.active placed
        ((if x.is_new then publishing sum x.model ns else []) ++ forget) (λ new all shredded. by new all shredded x.is_new refl)))
      where
        forget : List Event
        forget = forgetting size x.unread places

        Shredded : List ℕ → Type 0
        Shredded new = IsShredded sum size log some H A first cut is fits tables.active (at_rest new)

        forgets : (new : List ℕ) (all : List Placement) → Shredded new → (last : NamesState) (other : Temporary) → NamesBegin sum size H f (λ t. stable_place t.stable ≡ cut.0) last → Along P forget (device last other new all)
        forgets new all shredded last other begin =
            forgetting_along sum size H A f orderly cut last other some fits none begin blobs stand x.unread new all (λ slot there. shredded.free slot (concluded.unread slot there)) shredded.stops places above

        by : (new : List ℕ) (all : List Placement) → Shredded new → (b : Bool) → x.is_new ≡ b → Along P ((if b then publishing sum x.model ns else []) ++ forget) (device names temporary new all)
        by new all shredded false is_old = forgets new all shredded names temporary (settled_begin sum size H f (λ t. stable_place t.stable ≡ cut.0) names settled first tables (concluded.kept is_old))
        by new all shredded true is_new =
            let table = concluded.made is_new in
            let number : snapshot_number_of x.model ≡ pos cut.0 = ap (λ (o : Option ℤ). unwrap_or o (pos 0)) table.stable in
            subst (λ (k : ℤ). Along P (publishing_file (short_file sum x.model) k ++ (removing_snapshots ns ++ forget)) (device names temporary new all)) (sym number)
            (publishing_along x.model table is.not_below new shredded.same_cut shredded.stops forget ns temporary all (apart is_new) (λ last begin. forgets new all shredded last _ begin))

    -- Nothing was written.
    pub settled_readable : (log : List ℕ) → IsRecoverableLog sum size log H A first cut → (temporary : Temporary) (placed : List Placement) → P (device names temporary log placed)
    settled_readable log is temporary placed =
        parts_readable sum size H A f orderly cut (λ t. t ≡ first) (device names temporary log placed)
        (λ left leaves own_left t active same. subst (λ (l : List ℕ). IsRecoverableLog sum size l H A t cut) (sym (at_rest_left log left leaves)) (subst (λ (u : SnapshotModel). IsRecoverableLog sum size log H A u cut) (sym same) is))
        (settled_begin sum size H f (λ t. t ≡ first) names settled first tables refl) stand

    -- The rest of the segment of the cut is filled, and that is all.
    pub filling_along : (log : List ℕ) → IsRecoverableLog sum size log H A first cut → (temporary : Temporary) (placed : List Placement) → Along P (shredding (shred_range_of size cut.0 cut.1)) (device names temporary log placed)
    filling_along log is temporary placed =
        subst (λ (es : List Event). Along P es (device names temporary log placed)) (append-nil (shredding (shred_range_of size cut.0 cut.1)))
        (shredding_along sum size H A f orderly cut blobs names temporary stand some fits none first (settled_begin sum size H f (λ t. t ≡ first) names settled first tables refl) log is tables.active placed []
        (λ new all shredded. settled_readable new shredded.same_cut temporary all))
