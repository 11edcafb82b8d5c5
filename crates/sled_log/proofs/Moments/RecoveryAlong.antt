-- A whole recovery over any number of segments: what a crash leaves at each moment of it can be read back, from the first sync to the last blob that is removed.
use Rattle.std.proofs.Common.{◌≡◌, ◌≢◌, ◌∙◌, ◌≤◌, ◌≤ℤ◌, ◌-ℤ◌, ◌^◌, ◌++◌, ℕ, ℤ, pos, negsuc, true, false, List, [], ◌∷◌, Option, Some, None, refl, sym, ap, subst, arith, inl, inr}
use Rattle.std.specs.List.{Contains}
use Rattle.std.specs.Option.{unwrap_or}
use Rattle.sled_codec.specs.History.{History, CutFits}
use Rattle.sled_codec.specs.PageTables.{IsTable}
use Rattle.sled_codec.specs.Snapshots.{SnapshotModel, stable_place}
use Rattle.sled_store.specs.Device.{Event, State, Synced, NamesSynced, Content, Trace, state_of, content_of, step, names_synced, settled_again}
use Rattle.sled_store.specs.inside.Durable.{IsSettledName}
use Rattle.sled_store.specs.Blobs.{MayGo}
use Rattle.sled_store.specs.Moments.{Throughout}
use Rattle.sled_store.specs.inside.Script.{Along}
use Rattle.sled_store.specs.Foreign.{NoForeignLog}
use Rattle.sled_store.proofs.Crashes.SettledLemmas.{before_sync}
use Rattle.sled_store.proofs.Crashes.SyncedLemmas.{snapshots_firm}
use Rattle.sled_store.proofs.LogFile.LogLemmas.{at_rest_left}
use Rattle.sled_store.proofs.Names.NamesLemmas.{settled_name_synced}
use Rattle.sled_store.proofs.Segments.Elements.{in_nothing}
use Rattle.sled_store.proofs.Traces.ScriptLemmas.{along_first, performs_throughout}
use Rattle.sled_core.specs.inside.Recoverable.{ActiveFits, IsRecoverableLog}
use Rattle.sled_core.specs.Recoverable.{ReadsOnlyOwn}
use Rattle.sled_core.proofs.Blobs.FirmContent.{blobs_read, content_leaves, content_own, firm_content}
use Rattle.sled_log.proofs.Recovers.Readable.{CanRead}
use Rattle.sled_log.specs.Recovery.{RecoveryResult, shred_range_of}
use Rattle.sled_log.specs.Restores.{RecoveryCalls}
use Rattle.sled_log.specs.WritesBack.{shredding, committing, forgetting, forgotten_from, snapshot_number_of, writing_back, FitsIfNew, WritesBehind}
use Rattle.sled_log.proofs.Moments.BlobsRemoved.{IsAbove}
use Rattle.sled_log.proofs.Moments.LogAlong.{LeavesReadable, parts_readable}
use Rattle.sled_log.proofs.Moments.OneCut.{stand_synced}
use Rattle.sled_log.proofs.Moments.SnapshotNames.{IsTableAt, synced_twice, settled_begin}
use Rattle.sled_log.proofs.Moments.UnreadSlots.{free_left}
use Rattle.sled_log.proofs.Moments.WritingAlong.{IsConcluded, writing_along, filling_along}
use Rattle.sled_log.proofs.Recovers.RecoversGood.{RecoversWell, well_of}
use Rattle.sled_log.proofs.SnapshotFile.NewestLemmas.{not_beyond}
use Rattle.sled_log.proofs.SnapshotFile.OtherLemmas.{removed_apart}

-- What a recovery gives, where it begins from these parts of a content.
module _ (sum : List ℕ → ℕ) (size : ℕ) (content : Content) (H : History) (A f : ℕ) (some : 256 ≤ size) (can : CanRead sum size content H A f) (x : RecoveryResult)
    (well : RecoversWell sum size content H A f some can.orderly can.first can.cut can.snapshots can.log can.blobs x) where
  pub cut_fits : CutFits H can.cut.0
  cut_fits = subst (CutFits H) well.place well.good.fits

  -- a table that is new can be published
  new_table : FitsIfNew x → x.is_new ≡ true → IsTableAt size H can.cut.0 x.model
  new_table fits is_new = record {
    stable = elim well.kind [ inl kept ↦ (let no : true ≡ false = sym is_new ∙ kept.2 in absurd (cc)) | inr made ↦ made.0 ];
    active = subst (ActiveFits size can.cut.0) (sym well.active) well.is_active.fits;
    table = subst (λ n. IsTable x.model.pages H n) well.place well.good.table;
    fits = cut_fits;
    spelled = fits is_new;
  }

  -- where none is, the snapshot that it begins from lies at the cut
  same_place : x.is_new ≡ false → stable_place can.first.stable ≡ can.cut.0
  same_place is_old = elim well.kind [
    | inl kept ↦ ap (λ (s : SnapshotModel). stable_place s.stable) (sym kept.0) ∙ well.place
    | inr made ↦ (let high = not_beyond can.first.stable can.cut.0 (sym made.2 ∙ is_old) in let low = can.log.not_below in omega (arith, high, low))
  ]

  -- the rest of the segment of the cut is filled, where that is active
  pub shreds : x.shred_range ≡ shred_range_of size can.cut.0 can.cut.1
  shreds = elim well.kind [ inl kept ↦ kept.1 ∙ ap (shred_range_of size can.cut.0) (sym kept.3) | inr made ↦ made.1 ]

  -- It is as its calls need it.
  pub concluded : FitsIfNew x → IsConcluded sum size H can.first can.cut content.log x
  concluded fits = record {
    shred_range = shreds;
    made = new_table fits;
    kept = same_place;
    unread = free_left sum size content.log some content.blobs H A can.first can.cut can.log can.blobs x.unread well.unread;
  }

-- along a list of calls it holds along those that it begins with
along_begun : (Q : State → Type 0) (es fs : List Event) (s : State) → Along Q (es ++ fs) s → Along Q es s
along_begun Q [] fs s along = along_first Q fs s along
along_begun Q (e ∷ es) fs s along = (along.0, along.1, along_begun Q es fs (step e s) along.2)

-- a place that isn't below the one from which on no blob is kept lies at or above the cut
pub forgotten_above : (stable : Option ℤ) (cut : ℕ) → stable_place stable ≡ cut → (p : ℤ) → unwrap_or stable (pos 0 -ℤ pos (2 ^ 63)) ≤ℤ p → IsAbove cut p
forgotten_above None cut place p low = inr (sym place)
forgotten_above (Some (pos k)) cut place p low = inl (subst (λ n. pos n ≤ℤ p) place low)
forgotten_above (Some (negsuc k)) cut place p low = inr (sym place)

-- The calls, from the first sync on.
module _ (sum : List ℕ → ℕ) (size : ℕ) (H : History) (A f : ℕ) (some : 256 ≤ size) (old : Trace) (kept : LeavesReadable sum size H A f (state_of old)) (own : ReadsOnlyOwn sum size (state_of old)) where
  -- what is read can be read back
  pub can_read : CanRead sum size (content_of (state_of old)) H A f
  can_read =
      let is = kept (firm_content sum size old own) (content_leaves sum size old own) (content_own sum size old own) in
      record { orderly = is.orderly; first = is.first; cut = is.cut; snapshots = is.snapshots; log = is.log; blobs = blobs_read sum (state_of old).blobs H is.cut.0 is.blobs }

  -- The log file is settled: what was read is what a crash leaves of it.
  synced_readable : LeavesReadable sum size H A f (step Synced (state_of old))
  synced_readable left leaves own_left =
      let same : left.log ≡ (state_of old).log.bytes = at_rest_left (state_of old).log.bytes left.log leaves.log in
      kept left
      (record { log = before_sync old left.log leaves.log; blobs = leaves.blobs; snapshots = leaves.snapshots })
      (record { log = subst (λ (l : List ℕ). NoForeignLog sum size (state_of old).log (state_of old).placed l) (sym same) own.log; blobs = own_left.blobs; snapshots = own_left.snapshots; zeros = own_left.zeros })

  -- Names are settled by their own sync.
  pub settled_names : (n : ℤ) → IsSettledName (names_synced (state_of old).snapshots) n
  settled_names n = settled_name_synced (state_of old).snapshots n (snapshots_firm old n)

  module _ (can : CanRead sum size (content_of (state_of old)) H A f) (x : RecoveryResult) (well : RecoversWell sum size (content_of (state_of old)) H A f some can.orderly can.first can.cut can.snapshots can.log can.blobs x) where
    pub recovery_along : FitsIfNew x → (ns : List ℤ) → (x.is_new ≡ true → (n : ℤ) → Contains ns n → n ≢ pos can.cut.0) → (places : List ℤ) → ((p : ℤ) → Contains places p → IsAbove can.cut.0 p)
        → Along (LeavesReadable sum size H A f) (Synced ∷ NamesSynced ∷ writing_back sum size x ns places) (state_of old)
    recovery_along fits ns apart places above = (
      kept,
      λ torn tears. absurd tears,
      (
        synced_readable,
        λ torn tears. absurd tears,
        writing_along sum size H A f can.orderly can.cut some (cut_fits sum size (content_of (state_of old)) H A f some can x well) own.zeros
            (names_synced (state_of old).blobs) (stand_synced sum size H A f old kept own can) (synced_twice (state_of old).blobs)
            (names_synced (state_of old).snapshots) settled_names can.first can.snapshots (state_of old).log.bytes can.log x (concluded sum size (content_of (state_of old)) H A f some can x well fits)
            (state_of old).temporary (settled_again (state_of old).log.bytes (state_of old).placed) ns apart places above,
      ),
    )

    -- where a table has no spelling
    begun_along : Along (LeavesReadable sum size H A f) (Synced ∷ NamesSynced ∷ shredding x.shred_range) (state_of old)
    begun_along = (
      kept,
      λ torn tears. absurd tears,
      (
        synced_readable,
        λ torn tears. absurd tears,
        subst (λ (r : Option (ℕ × ℕ)). Along (LeavesReadable sum size H A f) (shredding r) (step NamesSynced (step Synced (state_of old))))
            (sym (shreds sum size (content_of (state_of old)) H A f some can x well))
            (filling_along sum size H A f can.orderly can.cut some (cut_fits sum size (content_of (state_of old)) H A f some can x well) own.zeros
            (names_synced (state_of old).blobs) (stand_synced sum size H A f old kept own can) (synced_twice (state_of old).blobs)
            (names_synced (state_of old).snapshots) settled_names can.first can.snapshots (state_of old).log.bytes can.log (state_of old).temporary
            (settled_again (state_of old).log.bytes (state_of old).placed)),
      ),
    )

    pub apart_others : FitsIfNew x → (ns : List ℤ) → ((n : ℤ) → Contains ns n → n ≢ snapshot_number_of x.model) → x.is_new ≡ true → (n : ℤ) → Contains ns n → n ≢ pos can.cut.0
    apart_others fits ns apart is_new n there =
        let table = new_table sum size (content_of (state_of old)) H A f some can x well fits is_new in
        subst (λ (k : ℤ). n ≢ k) (ap (λ (o : Option ℤ). unwrap_or o (pos 0)) table.stable) (apart n there)

    pub all_above : (places : List ℤ) → MayGo (state_of old).blobs.file (forgotten_from x.model) places → (p : ℤ) → Contains places p → IsAbove can.cut.0 p
    all_above places (inl none) p there = absurd (in_nothing p (subst (λ (l : List ℤ). Contains l p) none there))
    all_above places (inr are) p there = forgotten_above x.model.stable can.cut.0 well.place p ((are.each p).0 there).1

    -- As many of the calls as were made kept it at each moment.
    pub behind_throughout : (new : Trace) → WritesBehind (Synced ∷ NamesSynced ∷ []) sum size x old new → Throughout (LeavesReadable sum size H A f) old new
    behind_throughout new (inl (inl calls)) = performs_throughout (LeavesReadable sum size H A f) (Synced ∷ NamesSynced ∷ shredding x.shred_range) old new calls begun_along
    behind_throughout new (inl (inr (fits, ns, may, calls))) =
        let apart = apart_others fits ns (removed_apart (state_of old).snapshots.file (snapshot_number_of x.model) ns may) in
        performs_throughout (LeavesReadable sum size H A f) (Synced ∷ NamesSynced ∷ committing sum x ns) old new calls
        (along_begun (LeavesReadable sum size H A f) (Synced ∷ NamesSynced ∷ committing sum x ns) (forgetting size x.unread []) (state_of old) (recovery_along fits ns apart [] (λ p there. absurd (in_nothing p there))))
    behind_throughout new (inr (fits, ns, are, places, may, calls)) =
        performs_throughout (LeavesReadable sum size H A f) (Synced ∷ NamesSynced ∷ writing_back sum size x ns places) old new calls
        (recovery_along fits ns (λ is_new. apart_others fits ns (λ n there. (((are is_new).each n).0 there).1) is_new) places (all_above places may))

  abbrev can : CanRead sum size (content_of (state_of old)) H A f
  can = can_read

  -- nothing was written
  settling_along : Along (LeavesReadable sum size H A f) (Synced ∷ NamesSynced ∷ []) (state_of old)
  settling_along = (
    kept,
    λ torn tears. absurd tears,
    (
      synced_readable,
      λ torn tears. absurd tears,
      parts_readable sum size H A f can.orderly can.cut (λ t. t ≡ can.first) (step NamesSynced (step Synced (state_of old)))
          (λ left leaves own_left t active same.
          subst (λ (l : List ℕ). IsRecoverableLog sum size l H A t can.cut) (sym (at_rest_left (state_of old).log.bytes left leaves)) (subst (λ (u : SnapshotModel). IsRecoverableLog sum size (state_of old).log.bytes H A u can.cut) (sym same) can.log))
          (settled_begin sum size H f (λ t. t ≡ can.first) (names_synced (state_of old).snapshots) settled_names can.first can.snapshots refl) (stand_synced sum size H A f old kept own can),
    ),
  )

  -- A recovery kept at each moment that what a crash leaves can be read back.
  pub recovery_throughout : (new : Trace) → RecoveryCalls sum size old new → Throughout (LeavesReadable sum size H A f) old new
  recovery_throughout new (inl settling) = performs_throughout (LeavesReadable sum size H A f) (Synced ∷ NamesSynced ∷ []) old new settling settling_along
  recovery_throughout new (inr (x, recovers, behind)) =
      behind_throughout can x (well_of sum size (content_of (state_of old)) H A f some can x recovers) new behind
