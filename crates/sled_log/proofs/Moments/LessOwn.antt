-- Along the calls of a recovery less and less of the log file is the log's own: it writes nothing but zeros there.
use Rattle.std.proofs.Common.{◌≡◌, ◌++◌, ℕ, ℤ, Bool, true, false, if◌then◌else◌, List, [], ◌∷◌, replicate, Option, Some, None, refl, sym, subst, inl}
use Rattle.std.proofs.Common.{inr, ◌∙◌}
use Rattle.std.proofs.lemmas.List.{append_cancel_right}
use Rattle.sled_codec.specs.Snapshots.{SnapshotModel}
use Rattle.sled_store.specs.Answers.{Tears}
use Rattle.sled_store.specs.Blobs.{removing_blobs}
use Rattle.sled_store.specs.Device.{BlobMade, BlobRemoved, BlobSynced, Crashed, Cut, Event, NamesSynced, SnapshotFilled, SnapshotPublished, SnapshotRemoved}
use Rattle.sled_store.specs.Device.{State, StopAsked, Synced, Trace, Wrote, state_of, step}
use Rattle.sled_store.specs.Moments.{AtEach, Throughout}
use Rattle.sled_store.specs.inside.Script.{Along}
use Rattle.sled_store.proofs.Traces.ScriptLemmas.{along_last, performs_throughout}
use Rattle.sled_core.specs.Recoverable.{NoHeaderOfZeros}
use Rattle.sled_core.proofs.Numbers.OwnLess.{OwnLess, less_crashed, less_cut, less_same, less_synced, less_then, less_zeros}
use Rattle.sled_log.specs.Recovery.{RecoveryResult}
use Rattle.sled_log.specs.Restores.{RecoveryCalls}
use Rattle.sled_log.specs.WritesBack.{HasWrittenBack, committing, forgetting, publishing, removing_snapshots, shredding, writing_back, zeroing}

-- it writes nothing but zeros to the log file
abbrev Spares : Event → Type 0
Spares (Wrote at asked now) = (n : ℕ) × (asked ≡ replicate n 0)
Spares _ = Unit {0}

abbrev AllSpare : List Event → Type 0
AllSpare [] = Unit {0}
AllSpare (e ∷ es) = Spares e × AllSpare es

-- So does a call that is torn,
torn_spares : (e torn : Event) → Spares e → Tears e torn → Spares torn
torn_spares (Wrote at asked now) torn spares tears = subst Spares (sym tears.2) spares
torn_spares (Cut asked now) torn spares tears = subst Spares (sym tears.2) tt
torn_spares (BlobMade place asked now done) torn spares tears = subst Spares (sym tears.2) tt
torn_spares (BlobRemoved place done) torn spares tears = subst Spares (sym tears.1) tt
torn_spares (SnapshotFilled asked now) torn spares tears = subst Spares (sym tears.1) tt
torn_spares (SnapshotPublished number done) torn spares tears = subst Spares (sym tears.1) tt
torn_spares (SnapshotRemoved number done) torn spares tears = subst Spares (sym tears.1) tt
torn_spares Synced torn spares tears = absurd tears
torn_spares (BlobSynced place) torn spares tears = absurd tears
torn_spares NamesSynced torn spares tears = absurd tears
torn_spares (StopAsked n) torn spares tears = absurd tears
torn_spares (Crashed left) torn spares tears = absurd tears

-- and one list of calls behind another.
all_spare : (es fs : List Event) → AllSpare es → AllSpare fs → AllSpare (es ++ fs)
all_spare [] fs first second = second
all_spare (e ∷ es) fs first second = (first.0, all_spare es fs first.1 second)

module _ (sum : List ℕ → ℕ) (size : ℕ) (none : NoHeaderOfZeros sum) where
  -- Behind such a call no more is own.
  spared_less : (e : Event) → Spares e → (s : State) → OwnLess sum size (step e s) s
  spared_less (Wrote at asked now) spares s = subst (λ (l : List ℕ). OwnLess sum size (step (Wrote at l now) s) s) (sym spares.1)
      (less_zeros sum size none at spares.0 now s)
  spared_less (Cut asked now) spares s = less_cut sum size asked now s
  spared_less (BlobMade place asked now done) spares s = less_same sum size (step (BlobMade place asked now done) s) s refl
  spared_less (BlobRemoved place done) spares s = less_same sum size (step (BlobRemoved place done) s) s refl
  spared_less (SnapshotFilled asked now) spares s = less_same sum size (step (SnapshotFilled asked now) s) s refl
  spared_less (SnapshotPublished number done) spares s = less_same sum size (step (SnapshotPublished number done) s) s refl
  spared_less (SnapshotRemoved number done) spares s = less_same sum size (step (SnapshotRemoved number done) s) s refl
  spared_less Synced spares s = less_synced sum size s
  spared_less (BlobSynced place) spares s = less_same sum size (step (BlobSynced place) s) s refl
  spared_less NamesSynced spares s = less_same sum size (step NamesSynced s) s refl
  spared_less (StopAsked n) spares s = less_same sum size (step (StopAsked n) s) s refl
  spared_less (Crashed left) spares s = less_crashed sum size left s

  module _ (old : State) where
    abbrev Less : State → Type 0
    Less s = OwnLess sum size s old

    less_further : (e : Event) → Spares e → (s : State) → Less s → Less (step e s)
    less_further e spares s less = less_then sum size (step e s) s old (spared_less e spares s) less

    along_spared : (es : List Event) → AllSpare es → (s : State) → Less s → Along Less es s
    along_spared [] spare s less = less
    along_spared (e ∷ es) spare s less = (
      less,
      (λ torn tears. less_further torn (torn_spares e torn spare.0 tears) s less),
      along_spared es spare.1 (step e s) (less_further e spare.0 s less),
    )

-- The calls of a recovery.

shredding_spares : (r : Option (ℕ × ℕ)) → AllSpare (shredding r)
shredding_spares None = tt
shredding_spares (Some range) = ((range.1, refl), (tt, tt))

removing_spares : (ns : List ℤ) → AllSpare (removing_snapshots ns)
removing_spares [] = tt
removing_spares (n ∷ ns) = (tt, removing_spares ns)

blobs_spare : (places : List ℤ) → AllSpare (removing_blobs places)
blobs_spare [] = tt
blobs_spare (p ∷ ps) = (tt, blobs_spare ps)

zeroing_spares : (size : ℕ) (slots : List ℕ) → AllSpare (zeroing size slots)
zeroing_spares size [] = tt
zeroing_spares size (slot ∷ slots) = ((size, refl), (tt, zeroing_spares size slots))

publishing_spares : (sum : List ℕ → ℕ) (b : Bool) (s : SnapshotModel) (ns : List ℤ) → AllSpare (if b then publishing sum s ns else [])
publishing_spares sum false s ns = tt
publishing_spares sum true s ns = (tt, (tt, (tt, removing_spares ns)))

committing_spares : (sum : List ℕ → ℕ) (x : RecoveryResult) (ns : List ℤ) → AllSpare (committing sum x ns)
committing_spares sum x ns =
    all_spare (shredding x.shred_range) (if x.is_new then publishing sum x.model ns else []) (shredding_spares x.shred_range)
    (publishing_spares sum x.is_new x.model ns)

writing_spares : (sum : List ℕ → ℕ) (size : ℕ) (x : RecoveryResult) (ns places : List ℤ) → AllSpare (writing_back sum size x ns places)
writing_spares sum size x ns places =
    all_spare (committing sum x ns) (forgetting size x.unread places) (committing_spares sum x ns)
    (all_spare (zeroing size x.unread) (removing_blobs places) (zeroing_spares size x.unread) (blobs_spare places))

module _ (sum : List ℕ → ℕ) (size : ℕ) (none : NoHeaderOfZeros sum) (old new : Trace) where
  abbrev Less' : State → Type 0
  Less' s = OwnLess sum size s (state_of old)

  same_own : Less' (state_of old)
  same_own = record { records = λ number at text own. own; headers = λ k place mark own. own }

  -- At each moment no more is own than before,
  pub recovery_less : RecoveryCalls sum size old new → Throughout Less' old new
  recovery_less (inl settling) =
      performs_throughout Less' (Synced ∷ NamesSynced ∷ []) old new settling
      (along_spared sum size none (state_of old) (Synced ∷ NamesSynced ∷ []) (tt, (tt, tt)) (state_of old) same_own)
  recovery_less (inr (x, recovers, inl (inl calls))) =
      performs_throughout Less' (Synced ∷ NamesSynced ∷ shredding x.shred_range) old new calls
      (along_spared sum size none (state_of old) (Synced ∷ NamesSynced ∷ shredding x.shred_range) (tt, (tt, shredding_spares x.shred_range))
      (state_of old) same_own)
  recovery_less (inr (x, recovers, inl (inr (fits, ns, may, calls)))) =
      performs_throughout Less' (Synced ∷ NamesSynced ∷ committing sum x ns) old new calls
      (along_spared sum size none (state_of old) (Synced ∷ NamesSynced ∷ committing sum x ns) (tt, (tt, committing_spares sum x ns)) (state_of old) same_own)
  recovery_less (inr (x, recovers, inr (fits, ns, are, places, may, calls))) =
      performs_throughout Less' (Synced ∷ NamesSynced ∷ writing_back sum size x ns places) old new calls
      (along_spared sum size none (state_of old) (Synced ∷ NamesSynced ∷ writing_back sum size x ns places) (tt, (tt, writing_spares sum size x ns places))
      (state_of old) same_own)

  -- and so behind all calls.
  pub written_less : (x : RecoveryResult) → HasWrittenBack sum size x (NamesSynced ∷ Synced ∷ old) new → Less' (state_of new)
  written_less x (ns, are, places, from, came) =
      let all : List Event = Synced ∷ NamesSynced ∷ writing_back sum size x ns places in
      subst (λ (t : Trace). Less' (state_of t)) (sym came)
      (along_last Less' all old (along_spared sum size none (state_of old) all (tt, (tt, writing_spares sum size x ns places)) (state_of old) same_own))

-- What holds throughout of two kinds holds together.
module _ (P Q R : State → Type 0) (both : (s : State) → P s → Q s → R s) where
  each_both : (es : List Event) (old : Trace) → AtEach P es old → AtEach Q es old → AtEach R es old
  each_both [] old p q = both (state_of old) p q
  each_both (e ∷ es) old p q = (both (state_of (e ∷ (es ++ old))) p.0 q.0, each_both es old p.1 q.1)

  pub throughout_both : (old new : Trace) → Throughout P old new → Throughout Q old new → Throughout R old new
  throughout_both old new first second =
      let same : second.events ≡ first.events = append_cancel_right second.events first.events old (sym second.follows ∙ first.follows) in record {
        events = first.events;
        follows = first.follows;
        each = each_both first.events old first.each (subst (λ (es : List Event). AtEach Q es old) same second.each);
      }
