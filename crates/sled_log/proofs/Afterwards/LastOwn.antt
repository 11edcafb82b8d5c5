-- Behind a recovery that wrote all back, what is read under names is the log's own: it syncs names before it writes, and then each of its calls leaves it so.
use Rattle.std.proofs.Common.{if◌then◌else◌, ℕ, ℤ, Bool, true, false, List, [], ◌∷◌, ◌++◌, Option, Some, None, refl, sym, subst}
use Rattle.std.proofs.lemmas.List.{append_assoc}
use Rattle.sled_codec.specs.Snapshots.{SnapshotModel}
use Rattle.sled_store.specs.Blobs.{removing_blobs}
use Rattle.sled_store.specs.Device.{BlobRemoved, Event, NamesSynced, SnapshotFilled, SnapshotPublished, SnapshotRemoved, State, Synced, Trace, state_of, step}
use Rattle.sled_store.proofs.Traces.ScriptLemmas.{EndsIn, ends_in}
use Rattle.sled_core.specs.OwnNames.{ReadsStayOwn}
use Rattle.sled_core.proofs.Blobs.StaysOwn.{own_removing, own_same, own_settled, own_unlisting}
use Rattle.sled_log.specs.Recovery.{RecoveryResult}
use Rattle.sled_log.specs.WritesBack.{HasWrittenBack, forgetting, publishing, removing_snapshots, short_file, shredding, snapshot_number_of, writing_back, zeroing}

module _ (sum : List ℕ → ℕ) (size : ℕ) where
  abbrev Ends : List Event → State → Type 0
  Ends = EndsIn (ReadsStayOwn sum)

  -- Blobs are removed.
  blobs_gone : (places : List ℤ) (s : State) → ReadsStayOwn sum s → Ends (removing_blobs places) s
  blobs_gone [] s own = own
  blobs_gone (p ∷ ps) s own = blobs_gone ps (step (BlobRemoved p true) s) (own_removing sum p true s own)

  -- Segments are overwritten before that.
  forgotten : (slots : List ℕ) (places : List ℤ) (s : State) → ReadsStayOwn sum s → Ends (zeroing size slots ++ removing_blobs places) s
  forgotten [] places s own = blobs_gone places s own
  forgotten (slot ∷ slots) places s own = forgotten slots places _ (own_same sum s _ refl refl own)

  module _ (es : List Event) (rest : (t : State) → ReadsStayOwn sum t → Ends es t) where
    -- Snapshots are removed before other calls.
    snapshots_gone : (ns : List ℤ) (s : State) → ReadsStayOwn sum s → Ends (removing_snapshots ns ++ es) s
    snapshots_gone [] s own = rest s own
    snapshots_gone (n ∷ ns) s own = snapshots_gone ns (step (SnapshotRemoved n true) s) (own_unlisting sum n true s own)

    -- One is published before that, if any, and its name is synced.
    published : (b : Bool) (model : SnapshotModel) (ns : List ℤ) (s : State) → ReadsStayOwn sum s → Ends ((if b then publishing sum model ns else []) ++ es) s
    published false model ns s own = rest s own
    published true model ns s own =
        let file : List ℕ = short_file sum model in
        let named : State = step (SnapshotPublished (snapshot_number_of model) true) (step (SnapshotFilled file file) s) in
        snapshots_gone ns (step NamesSynced named) (own_settled sum named)

    -- The rest of a segment is filled before other calls.
    filled : (r : Option (ℕ × ℕ)) (s : State) → ReadsStayOwn sum s → Ends (shredding r ++ es) s
    filled None s own = rest s own
    filled (Some r) s own = rest _ (own_same sum s _ refl refl own)

  -- All of that.
  written : (x : RecoveryResult) (ns places : List ℤ) (s : State) → ReadsStayOwn sum s → Ends (writing_back sum size x ns places) s
  written x ns places s own =
      let publish : List Event = if x.is_new then publishing sum x.model ns else [] in
      let forget : List Event = forgetting size x.unread places in
      subst (λ (es : List Event). Ends es s) (sym (append_assoc (shredding x.shred_range) publish forget))
      (filled (publish ++ forget) (published forget (forgotten x.unread places) x.is_new x.model ns) x.shred_range s own)

  pub own_end : (x : RecoveryResult) (old new : Trace) → HasWrittenBack sum size x (NamesSynced ∷ Synced ∷ old) new → ReadsStayOwn sum (state_of new)
  own_end x old new (ns, are, places, from, came) =
      subst (λ (h : Trace). ReadsStayOwn sum (state_of h)) (sym came)
      (ends_in (ReadsStayOwn sum) (writing_back sum size x ns places) (NamesSynced ∷ Synced ∷ old) (written x ns places (state_of (NamesSynced ∷ Synced ∷ old)) (own_settled sum (state_of (Synced ∷ old)))))
