-- What a crash leaves of the names of a device behind the calls that write a recovery back: snapshots of which recovery begins from the one that was published, or from the one that was there where none was, and the blobs that the cut needs, of which no crash takes one.
use Rattle.std.proofs.Common.{◌≡◌, ◌≢◌, ◌≤◌, ◌<◌, ◌≤ℤ◌, ◌++◌, if◌then◌else◌, ℕ, ℤ, pos, Bool, true, false, List, [], ◌∷◌, replicate, Option, Some, None, refl, sym, ap, subst, arith, inl, inr}
use Rattle.std.specs.List.{Contains}
use Rattle.std.specs.Option.{unwrap_or}
use Rattle.std.proofs.lemmas.Int.{ints}
use Rattle.std.proofs.lemmas.List.{append_assoc}
use Rattle.sled_codec.specs.declared.result.DiskPtr.TheVariants.{Blob}
use Rattle.sled_codec.specs.History.{Message, History}
use Rattle.sled_codec.specs.Snapshots.{SnapshotModel, stable_place}
use Rattle.sled_store.specs.Blobs.{removing_blobs}
use Rattle.sled_store.specs.Device.{Event, Wrote, Synced, BlobRemoved, SnapshotRemoved, LogState, NamesState, Temporary, State, log_step, placed_step, step, renamed, unnamed, names_synced, Placement}
use Rattle.sled_store.specs.inside.Durable.{IsSettledName}
use Rattle.sled_store.proofs.Crashes.ForeignLemmas.{before_knows}
use Rattle.sled_store.proofs.Crashes.LeavesLemmas.{remove_blob}
use Rattle.sled_store.proofs.Segments.Elements.{in_first, in_rest}
use Rattle.sled_store.proofs.Segments.TableEntries.{from_table}
use Rattle.sled_store.proofs.Traces.ScriptLemmas.{EndsIn}
use Rattle.sled_core.specs.inside.Recoverable.{AreRecoverableSnapshots, LiesInSegment}
use Rattle.sled_core.specs.Reading.{BlobIsBelow}
use Rattle.sled_core.specs.inside.Running.{KeepsEntries}
use Rattle.sled_core.proofs.Blobs.ItemsStay.{items_removed}
use Rattle.sled_log.specs.Recovery.{RecoveryResult}
use Rattle.sled_log.specs.WritesBack.{shredding, zeroing, removing_snapshots, short_file, snapshot_number_of, publishing_file, publishing, forgetting, writing_back}
use Rattle.sled_log.proofs.Moments.BlobsAlong.{stand_gone}
use Rattle.sled_log.proofs.Moments.BlobsRemoved.{IsAbove}
use Rattle.sled_log.proofs.Moments.LogAlong.{NamesBegin, BlobsStand}
use Rattle.sled_log.proofs.Moments.SnapshotNames.{IsTableAt, settled_begin, published_as}
use Rattle.sled_log.proofs.SnapshotFile.PublishLemmas.{IsPublished, published_synced, published_removed}

module _ (sum : List ℕ → ℕ) (size : ℕ) (H : History) (f cut : ℕ) (Allowed : SnapshotModel → Type 0) where
  -- the names go with the cut
  pub record NamesEnd (s : State) : Type 0 where
    pub begin : NamesBegin sum size H f Allowed s.snapshots
    pub stand : BlobsStand sum H cut s.blobs
    pub items : KeepsEntries sum s.blobs H cut

  abbrev Ends : List Event → State → Type 0
  Ends = EndsIn NamesEnd

  -- Where a blob is removed that lies at or above the cut, no crash takes one that the cut needs.
  items_gone : ((m : Message) → Contains H.messages m → m.place < cut → LiesInSegment size m) → (p : ℤ) → IsAbove cut p → (blobs : NamesState) → KeepsEntries sum blobs H cut → KeepsEntries sum (unnamed blobs p true) H cut
  items_gone placed p above blobs items page m entry = items_removed sum blobs p true m apart (items page m entry) where
    apart : (lid : ℕ) (q : ℤ) → m.pointer ≡ Blob lid q → q ≢ p
    apart lid q is same =
        let from = from_table H cut page m entry in
        let under = from.2 in
        let old : q ≤ℤ pos m.place = subst (BlobIsBelow m) is (placed m from.0 from.2).blob in
        elim above [ inl high ↦ omega (arith, ints, old, under, high, same) | inr none ↦ omega (arith, under, none) ]

  -- Blobs are removed.
  removing_end : ((m : Message) → Contains H.messages m → m.place < cut → LiesInSegment size m) → (places : List ℤ) → ((p : ℤ) → Contains places p → IsAbove cut p) → (s : State) → NamesEnd s → Ends (removing_blobs places) s
  removing_end placed [] above s end = end
  removing_end placed (p ∷ ps) above s end =
      removing_end placed ps (λ q there. above q (in_rest p q ps there)) (step (BlobRemoved p true) s)
      (record { begin = end.begin; stand = stand_gone sum size H cut s.blobs p (before_knows (BlobRemoved p true) s (remove_blob p)).blobs (above p (in_first p ps)) placed end.stand; items = items_gone placed p (above p (in_first p ps)) s.blobs end.items })

  -- Parts of the log file are filled.
  zeroing_end : (slots : List ℕ) (es : List Event) → ((t : State) → NamesEnd t → Ends es t) → (s : State) → NamesEnd s → Ends (zeroing size slots ++ es) s
  zeroing_end [] es rest s end = rest s end
  zeroing_end (slot ∷ slots) es rest s end = zeroing_end slots es rest _ (record { begin = end.begin; stand = end.stand; items = end.items })

  -- The snapshots are those that recovery read, and their names are settled, as those of blobs are.
  module _ (blobs names : NamesState) (stand : BlobsStand sum H cut blobs) (items : KeepsEntries sum blobs H cut) (firm : names_synced blobs ≡ blobs) (settled : (n : ℤ) → IsSettledName names n) (first : SnapshotModel) (tables : AreRecoverableSnapshots sum size names.file H f first) where
    abbrev device : LogState → Temporary → List Placement → State
    device log temporary placed = record { log = log; blobs = blobs; snapshots = names; temporary = temporary; placed = placed }

    -- A table is published, and others are removed.
    module _ (s : SnapshotModel) (new : IsTableAt size H cut s) (allowed : Allowed s) (not_above : stable_place first.stable ≤ cut) (es : List Event) (rest : (t : State) → NamesEnd t → Ends es t) where
      abbrev bytes : List ℕ
      bytes = short_file sum s

      abbrev named : NamesState
      named = renamed names (pos cut) true (record { file = Some bytes; is_unsynced = false }) (bytes ∷ [])

      removals_end : (ns : List ℤ) → ((n : ℤ) → Contains ns n → n ≢ pos cut) → (t : State) → IsPublished t.snapshots names.file (pos cut) bytes → BlobsStand sum H cut t.blobs → KeepsEntries sum t.blobs H cut → Ends (removing_snapshots ns ++ es) t
      removals_end [] apart t is there keeps = rest t (record { begin = published_as sum size H f cut s new names.file first tables not_above Allowed allowed t.snapshots is; stand = there; items = keeps })
      removals_end (m ∷ ns) apart t is there keeps =
          removals_end ns (λ n at. apart n (in_rest m n ns at)) (step (SnapshotRemoved m true) t) (published_removed t.snapshots (pos cut) bytes names.file m (apart m (in_first m ns)) is) there keeps

      publishing_end : (ns : List ℤ) → ((n : ℤ) → Contains ns n → n ≢ pos cut) → (log : LogState) (temporary : Temporary) (placed : List Placement) → Ends (publishing_file bytes (pos cut) ++ (removing_snapshots ns ++ es)) (device log temporary placed)
      publishing_end ns apart log temporary placed =
          removals_end ns apart (record { log = log; blobs = names_synced blobs; snapshots = names_synced named; temporary = record { bytes = bytes; asked = bytes }; placed = placed })
          (published_synced names (pos cut) bytes settled) (subst (BlobsStand sum H cut) (sym firm) stand) (subst (λ (s : NamesState). KeepsEntries sum s H cut) (sym firm) items)

    -- All calls that write a recovery back.
    module _ (lie : (m : Message) → Contains H.messages m → m.place < cut → LiesInSegment size m) (not_above : stable_place first.stable ≤ cut) (x : RecoveryResult) (made : x.is_new ≡ true → IsTableAt size H cut x.model) (allowed : x.is_new ≡ true → Allowed x.model) (kept : x.is_new ≡ false → Allowed first)
        (ns : List ℤ) (apart : x.is_new ≡ true → (n : ℤ) → Contains ns n → n ≢ pos cut) (places : List ℤ) (above : (p : ℤ) → Contains places p → IsAbove cut p) where
      abbrev forget : List Event
      forget = forgetting size x.unread places

      forgets : (t : State) → NamesEnd t → Ends forget t
      forgets t end = zeroing_end x.unread (removing_blobs places) (removing_end lie places above) t end

      commits : (b : Bool) → x.is_new ≡ b → (log : LogState) (temporary : Temporary) (placed : List Placement) → Ends ((if b then publishing sum x.model ns else []) ++ forget) (device log temporary placed)
      commits false is_old log temporary placed = forgets (device log temporary placed) (record { begin = settled_begin sum size H f Allowed names settled first tables (kept is_old); stand = stand; items = items })
      commits true is_new log temporary placed =
          let table = made is_new in
          let number : snapshot_number_of x.model ≡ pos cut = ap (λ (o : Option ℤ). unwrap_or o (pos 0)) table.stable in
          subst (λ (k : ℤ). Ends (publishing_file (short_file sum x.model) k ++ (removing_snapshots ns ++ forget)) (device log temporary placed)) (sym number)
          (publishing_end x.model table (allowed is_new) not_above forget forgets ns (apart is_new) log temporary placed)

      fills : (r : Option (ℕ × ℕ)) (es : List Event) → ((log : LogState) (placed : List Placement) (temporary : Temporary) → Ends es (device log temporary placed)) → (log : LogState) (temporary : Temporary) (placed : List Placement) → Ends (shredding r ++ es) (device log temporary placed)
      fills None es rest log temporary placed = rest log placed temporary
      fills (Some t) es rest log temporary placed =
          let zeros : List ℕ = replicate t.1 0 in
          rest (log_step Synced (log_step (Wrote t.0 zeros zeros) log)) (placed_step Synced (log_step (Wrote t.0 zeros zeros) log) (placed_step (Wrote t.0 zeros zeros) log placed)) temporary

      pub writing_end : (log : LogState) (temporary : Temporary) (placed : List Placement) → Ends (writing_back sum size x ns places) (device log temporary placed)
      writing_end log temporary placed =
          let publish : List Event = if x.is_new then publishing sum x.model ns else [] in
          subst (λ (es : List Event). Ends es (device log temporary placed)) (sym (append_assoc (shredding x.shred_range) publish forget))
          (fills x.shred_range (publish ++ forget) (λ new all other. commits x.is_new refl new other all) log temporary placed)
