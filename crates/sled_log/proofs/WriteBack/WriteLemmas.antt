-- What is read where recovery wrote back what it concludes.
use Rattle.std.proofs.Common.{◌≡◌, ◌≢◌, ◌∙◌, ℕ, ℤ, Bool, true, false, is_some, if◌then◌else◌, List, [], ◌∷◌, ◌++◌, Option, Some, None, refl, sym, ap, subst, inl, inr}
use Rattle.std.specs.Bool.{MatchBool}
use Rattle.sled_codec.specs.declared.result.DiskPtr.{DiskPtr}
use Rattle.sled_codec.specs.Snapshots.{SnapshotModel, FitsSnapshot}
use Rattle.sled_store.specs.Blobs.{AreFrom, MayGo}
use Rattle.sled_store.specs.Device.{Event, Trace, State, NamesState, SnapshotFilled, SnapshotPublished, Synced, NamesSynced, state_of, content_of}
use Rattle.sled_store.specs.Script.{Performs, after_all}
use Rattle.sled_log.specs.Recovery.{RecoveryResult, Outcome, Recovers}
use Rattle.sled_log.specs.Restores.{TakesForDamage}
use Rattle.sled_log.specs.WritesBack.{HasPublished, Publishes, HasCommitted, CommitsBehind, HasForgotten, Forgets, HasWrittenBack, WritesBack, WritesBehind, FitsIfNew, AreOthersIfNew, IsOnlySnapshot, IsWrittenBack}
use Rattle.sled_log.specs.WritesBack.{short_file, snapshot_number_of, publishing_file, publishing, removing_snapshots, shredding, committing, forgetting, forgotten_from, writing_back, AreOthers, MayBeRemoved, after_shredding, after_zeroing}
use Rattle.sled_store.proofs.Traces.ScriptLemmas.{after_joined, performs_whole, performs_behind}
use Rattle.sled_log.proofs.SnapshotFile.OtherLemmas.{file_at, same_name, other_name, same_others, missing_after, gone_after, kept_after, log_after, blobs_after}
use Rattle.sled_log.proofs.WriteBack.ForgetLemmas.{forgotten_log, forgotten_snapshots, forgotten_none, forgotten_below}

-- A table was committed, and nothing else was changed.
record IsCommitted (sum : List ℕ → ℕ) (x : RecoveryResult) (old new : State) : Type 0 where
  log : new.log ≡ after_shredding x.shred_range old.log
  snapshots : MatchBool x.is_new (IsOnlySnapshot new.snapshots.file (snapshot_number_of x.model) (short_file sum x.model)) (new.snapshots ≡ old.snapshots)
  blobs : new.blobs.file ≡ old.blobs.file

-- A file is published under a number.
module _ (bytes : List ℕ) (number : ℤ) (h : Trace) where
  -- the trace behind that
  abbrev pub published : Trace
  published = NamesSynced ∷ SnapshotPublished number true ∷ SnapshotFilled bytes bytes ∷ h

  own_published : file_at published number ≡ Some bytes
  own_published = ap (λ (b : Bool). if b then Some bytes else file_at h number) (same_name number number refl)

  pub others_published : (n : ℤ) → n ≢ number → file_at published n ≡ file_at h n
  others_published n other = ap (λ (b : Bool). if b then Some bytes else file_at h n) (other_name number n (λ same. other (sym same)))

  -- then all others are removed
  only_published : (ns : List ℤ) → AreOthers (file_at h) number ns → IsOnlySnapshot (file_at (after_all (removing_snapshots ns) published)) number bytes
  only_published ns are = record {
    own = kept_after number ns published (λ there. ((are.each number).0 there).1 refl) ∙ own_published;
    others = λ n other. by_file n other (file_at h n) refl;
  }
    where
      by_file : (n : ℤ) → n ≢ number → (o : Option (List ℕ)) → file_at h n ≡ o → file_at (after_all (removing_snapshots ns) published) n ≡ None
      by_file n other None is = missing_after n ns published (others_published n other ∙ is)
      by_file n other (Some file) is = gone_after n ns published ((are.each n).1 (ap is_some is, other))

-- All calls were made that commit a table.
module _ (sum : List ℕ → ℕ) (model : SnapshotModel) where
  -- the file of the table
  abbrev bytes : List ℕ
  bytes = short_file sum model

  -- a result with this table
  abbrev with_table : Option (ℕ × ℕ) → Bool → List ℕ → RecoveryResult
  with_table shred_range is_new unread = record { model = model; shred_range = shred_range; is_new = is_new; unread = unread }

  made : (shred_range : Option (ℕ × ℕ)) (is_new : Bool) (unread : List ℕ) (ns : List ℤ) (old : Trace) → AreOthersIfNew (with_table shred_range is_new unread) (state_of old) ns
      → IsCommitted sum (with_table shred_range is_new unread) (state_of old) (state_of (after_all (committing sum (with_table shred_range is_new unread) ns) old))
  made None false unread ns old are = record { log = refl; snapshots = refl; blobs = refl }
  made (Some shred_range) false unread ns old are = record { log = refl; snapshots = refl; blobs = refl }
  made None true unread ns old are = record {
    log = log_after ns (published bytes (snapshot_number_of model) old);
    snapshots = only_published bytes (snapshot_number_of model) old ns (are refl);
    blobs = ap (λ s. s.file) (blobs_after ns (published bytes (snapshot_number_of model) old));
  }
  made (Some shred_range) true unread ns old are =
      let mid : Trace = after_all (shredding (Some shred_range)) old in
      record {
        log = log_after ns (published bytes (snapshot_number_of model) mid);
        snapshots = only_published bytes (snapshot_number_of model) mid ns (are refl);
        blobs = ap (λ s. s.file) (blobs_after ns (published bytes (snapshot_number_of model) mid));
      }

committed : (sum : List ℕ → ℕ) (x : RecoveryResult) (ns : List ℤ) (old : Trace) → AreOthersIfNew x (state_of old) ns → IsCommitted sum x (state_of old) (state_of (after_all (committing sum x ns) old))
committed sum x ns old are = made sum x.model x.shred_range x.is_new x.unread ns old are

-- Then all was forgotten that the table doesn't have.
pub written_as : (sum : List ℕ → ℕ) (size : ℕ) (x : RecoveryResult) (old new : Trace) → HasWrittenBack sum size x old new → IsWrittenBack sum size x (state_of old) (state_of new)
written_as sum size x old new (ns, others, places, from, is) =
    let mid : Trace = after_all (committing sum x ns) old in
    let end : Trace = after_all (forgetting size x.unread places) mid in
    let table = committed sum x ns old others in
    let all : new ≡ end = is ∙ after_joined (committing sum x ns) (forgetting size x.unread places) old in
    let there = subst (λ (f : ℤ → Option (List ℕ)). AreFrom f (forgotten_from x.model) places) (sym table.blobs) from in
    let names = forgotten_snapshots size x.unread places mid in
    subst (λ (h : Trace). IsWrittenBack sum size x (state_of old) (state_of h)) (sym all) (record {
      log = forgotten_log size x.unread places mid ∙ ap (after_zeroing size x.unread) table.log;
      snapshots = subst (λ (s : NamesState). MatchBool x.is_new (IsOnlySnapshot s.file (snapshot_number_of x.model) (short_file sum x.model)) (s ≡ (state_of old).snapshots)) (sym names) table.snapshots;
      gone = forgotten_none size x.unread places mid (forgotten_from x.model) there;
      blobs = λ n below. forgotten_below size x.unread places mid (forgotten_from x.model) there n below ∙ ap (λ (f : ℤ → Option (List ℕ)). f n) table.blobs;
    })

-- What the steps that write back made of the device.
module _ (sum : List ℕ → ℕ) (model : SnapshotModel) (file : List ℕ) (number : ℤ) (is_file : file ≡ short_file sum model) (is_number : number ≡ snapshot_number_of model) (old : Trace) where
  same_calls : (ns : List ℤ) → publishing_file file number ++ removing_snapshots ns ≡ publishing sum model ns
  same_calls ns =
      ap (λ (b : List ℕ). publishing_file b number ++ removing_snapshots ns) is_file ∙ ap (λ (n : ℤ). publishing_file (short_file sum model) n ++ removing_snapshots ns) is_number

  module _ (mid new : Trace) (came : mid ≡ after_all (publishing_file file number) old) where
    others_before : (ns : List ℤ) → AreOthers (file_at mid) number ns → AreOthers (file_at old) (snapshot_number_of model) ns
    others_before ns are =
        subst (λ (k : ℤ). AreOthers (file_at old) k ns) is_number
        (same_others (file_at mid) (file_at old) number ns (λ n other. ap (λ (h : Trace). file_at h n) came ∙ others_published file number old n other) are)

    -- then the others were removed
    pub has_published : (numbers : List ℤ) × AreOthers (file_at mid) number numbers × (new ≡ after_all (removing_snapshots numbers) mid) → HasPublished sum model old new
    has_published (ns, are, is) =
        (ns, others_before ns are, is ∙ ap (after_all (removing_snapshots ns)) came ∙ ap (λ (es : List Event). after_all es old) (same_calls ns))

    -- as far as that came
    pub publishes : FitsSnapshot model → (numbers : List ℤ) × MayBeRemoved (file_at mid) number numbers × Performs (removing_snapshots numbers) mid new → Publishes sum model old new
    publishes fits (ns, may, calls) =
        inr (fits, ns, before may, subst (λ (es : List Event). Performs es old new) (same_calls ns) (performs_behind (publishing_file file number) (removing_snapshots ns) old mid new came calls))
      where
        before : MayBeRemoved (file_at mid) number ns → MayBeRemoved (file_at old) (snapshot_number_of model) ns
        before (inl none) = inl none
        before (inr are) = inr (others_before ns are)

pub committing_stops : (sum : List ℕ → ℕ) (x : RecoveryResult) (old new : Trace) → Performs (shredding x.shred_range) old new → CommitsBehind [] sum x old new
committing_stops sum x old new came = inl came

-- filling a range with zeros leaves the snapshots
shredded_files : (shred_range : Option (ℕ × ℕ)) (old : Trace) → file_at (after_all (shredding shred_range) old) ≡ file_at old
shredded_files None old = refl
shredded_files (Some shred_range) old = refl

module _ (sum : List ℕ → ℕ) (x : RecoveryResult) (old mid new : Trace) (came : mid ≡ after_all (shredding x.shred_range) old) where
  files : file_at mid ≡ file_at old
  files = ap file_at came ∙ shredded_files x.shred_range old

  -- a table that is new was published then
  pub has_committed_new : x.is_new ≡ true → HasPublished sum x.model mid new → HasCommitted sum x old new
  has_committed_new is_new (ns, are, is) = (
    ns,
    λ _. subst (λ (f : ℤ → Option (List ℕ)). AreOthers f (snapshot_number_of x.model) ns) files are,
    is ∙ ap (after_all (publishing sum x.model ns)) came ∙ sym (after_joined (shredding x.shred_range) (publishing sum x.model ns) old) ∙ ap (λ (b : Bool). after_all (shredding x.shred_range ++ (if b then publishing sum x.model ns else [])) old) (sym is_new),
  )

  pub commits_new : x.is_new ≡ true → Publishes sum x.model mid new → CommitsBehind [] sum x old new
  commits_new is_new (inl same) = inl (performs_whole (shredding x.shred_range) old new (same ∙ came))
  commits_new is_new (inr (fits, ns, may, calls)) = inr (
    λ _. fits,
    ns,
    subst (λ (f : ℤ → Option (List ℕ)). MayBeRemoved f (snapshot_number_of x.model) ns) files may,
    subst (λ (b : Bool). Performs (shredding x.shred_range ++ (if b then publishing sum x.model ns else [])) old new) (sym is_new) (performs_behind (shredding x.shred_range) (publishing sum x.model ns) old mid new came calls),
  )

-- The table was committed, and then the rest was begun to be forgotten.
module _ (sum : List ℕ → ℕ) (size : ℕ) (x : RecoveryResult) (old mid new : Trace) (has : HasCommitted sum x old mid) where
  same_blobs : (state_of mid).blobs.file ≡ (state_of old).blobs.file
  same_blobs = ap (λ (h : Trace). (state_of h).blobs.file) has.2 ∙ (committed sum x has.0 old has.1).blobs

  pub has_written : HasForgotten size x.unread (forgotten_from x.model) mid new → HasWrittenBack sum size x old new
  has_written (places, are, is) = (
    has.0,
    has.1,
    places,
    subst (λ (f : ℤ → Option (List ℕ)). AreFrom f (forgotten_from x.model) places) same_blobs are,
    is ∙ ap (after_all (forgetting size x.unread places)) has.2 ∙ sym (after_joined (committing sum x has.0) (forgetting size x.unread places) old),
  )

  pub writes_all : FitsIfNew x → Forgets size x.unread (forgotten_from x.model) mid new → WritesBack sum size x old new
  writes_all fits (places, may, calls) = inr (
    fits,
    has.0,
    has.1,
    places,
    subst (λ (f : ℤ → Option (List ℕ)). MayGo f (forgotten_from x.model) places) same_blobs may,
    performs_behind (committing sum x has.0) (forgetting size x.unread places) old mid new has.2 calls,
  )

-- The device was settled before.
module _ (sum : List ℕ → ℕ) (old mid : Trace) (settled : mid ≡ NamesSynced ∷ Synced ∷ old) where
  pub recovers_settled : (size : ℕ) (o : Outcome) → Recovers sum size (content_of (state_of mid)) o
      → Recovers sum size (content_of (state_of old)) o
  recovers_settled size o is =
      subst (λ (h : Trace). Recovers sum size (content_of (state_of h)) o) settled is

  -- and what is taken for damage
  pub damage_settled : (size : ℕ) (is_to_start : Bool) (at : Option DiskPtr) → TakesForDamage is_to_start sum size (content_of (state_of mid)) at → TakesForDamage is_to_start sum size (content_of (state_of old)) at
  damage_settled size is_to_start at damage = subst (λ (h : Trace). TakesForDamage is_to_start sum size (content_of (state_of h)) at) settled damage

  -- the calls of both syncs
  abbrev syncs : List Event
  syncs = Synced ∷ NamesSynced ∷ []

  pub writes_settled : (size : ℕ) (x : RecoveryResult) (new : Trace) → WritesBack sum size x mid new → WritesBehind syncs sum size x old new
  writes_settled size x new (inl (inl stopped)) = inl (inl (performs_behind syncs (shredding x.shred_range) old mid new settled stopped))
  writes_settled size x new (inl (inr (fits, ns, may, calls))) = inl (inr (
    fits,
    ns,
    subst (λ (h : Trace). MayBeRemoved (file_at h) (snapshot_number_of x.model) ns) settled may,
    performs_behind syncs (committing sum x ns) old mid new settled calls,
  ))
  writes_settled size x new (inr (fits, ns, are, places, may, calls)) = inr (
    fits,
    ns,
    (λ is_new. subst (λ (h : Trace). AreOthers (file_at h) (snapshot_number_of x.model) ns) settled (are is_new)),
    places,
    subst (λ (h : Trace). MayGo (state_of h).blobs.file (forgotten_from x.model) places) settled may,
    performs_behind syncs (writing_back sum size x ns places) old mid new settled calls,
  )
