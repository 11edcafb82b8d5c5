-- The blobs that go with a segment are removed: nothing needs them from where it ends on. So where that is stable, what a crash leaves of the blobs has all
-- that it had to, behind each removal, done or not.
use Rattle.std.proofs.Common.{◌≡◌, ◌⊎◌, ◌∙◌, ◌&&◌, ◌+◌, ◌*◌, ◌/◌, ◌<◌, ◌≤◌, ◌++◌, is_some, if◌then◌else◌, ℕ, ℤ, Bool, true, false, List, [], ◌∷◌, Option, Some}
use Rattle.std.proofs.Common.{None, refl, sym, ap, subst, arith, inl, inr}
use Rattle.std.specs.List.{Contains}
use Rattle.std.specs.declared.io.Error.{Error as IoError}
use Rattle.std.specs.Ordering.{int_eq}
use Rattle.std.proofs.lemmas.Bool.Decides.{Decides-int_eq}
use Rattle.std.proofs.lemmas.Nat.{div-add-mod', mod_below}
use Rattle.sled_codec.specs.declared.result.DiskPtr.{DiskPtr}
use Rattle.sled_codec.specs.declared.result.DiskPtr.TheVariants.{Inline, Blob}
use Rattle.sled_codec.specs.declared.serialization.message.MessageKind.{MessageKind}
use Rattle.sled_codec.specs.History.{Batch, History, Message, begins_page, table}
use Rattle.sled_codec.specs.Kinds.{kind_written}
use Rattle.sled_store.specs.Blobs.{IsDamagedFor, removing_blobs}
use Rattle.sled_store.specs.Device.{BlobRemoved, Content, Event, LeavesName, NamesState, State, renamed, settled_file, step, unnamed}
use Rattle.sled_store.specs.Foreign.{NoForeignNames}
use Rattle.sled_store.specs.Marks.{IsSuperseded}
use Rattle.sled_store.specs.Outdated.{AreOutdated, NamesBlob}
use Rattle.sled_store.specs.SegmentStates.{Machine, is_due, slot_at}
use Rattle.sled_store.specs.inside.Script.{Along}
use Rattle.sled_store.proofs.Histories.Ascending.{Ascends}
use Rattle.sled_store.proofs.Marks.MarkedLemmas.{superseded_more}
use Rattle.sled_store.proofs.Marks.SlotMoves.{GoesWith, IsDueFor}
use Rattle.sled_store.proofs.Marks.TableLemmas.{entry_above}
use Rattle.sled_store.proofs.Names.NamesLemmas.{after_unnamed}
use Rattle.sled_store.proofs.Segments.Elements.{in_first, in_rest}
use Rattle.sled_store.proofs.Segments.TableEntries.{from_table}
use Rattle.sled_core.specs.Begun.{SegmentView}
use Rattle.sled_core.specs.Good.{HasOwnBlob}
use Rattle.sled_core.specs.OpenBatches.{stable_below}
use Rattle.sled_core.specs.OwnBlobs.{IsBeside}
use Rattle.sled_core.specs.OwnNames.{IsAnyBlob, IsOwn}
use Rattle.sled_core.specs.declared.logger.joined_marks.JoinedMarks.{JoinedMarks}
use Rattle.sled_core.specs.inside.Lasting.{LeavesRecovering}
use Rattle.sled_core.specs.inside.Recoverable.{AreRecoverableBlobs, HasItem, PassesIfThere}
use Rattle.sled_core.specs.inside.Running.{BlobsFit, FitsWith, HaveItems, KeepsEntries, KeepsItems}
use Rattle.sled_core.specs.invariants.Recoverable.{Recoverable}
use Rattle.sled_core.proofs.Blobs.ChangesBack.{before, before_left, before_own, before_same, removed_back}
use Rattle.sled_core.proofs.Blobs.ItemsStay.{items_removed}
use Rattle.sled_core.proofs.Blobs.Over.{fits_over_blobs}
use Rattle.sled_core.proofs.Blobs.StaysOwn.{own_removing}
use Rattle.sled_core.proofs.Blobs.Unnamed.{told_apart}

-- what was asked under a name before a removal, or settled, is what is so behind it
own_before : (s : NamesState) (p : ℤ) (done : Bool) (n : ℤ) (bytes : List ℕ) → IsOwn (unnamed s p done) n bytes → IsOwn s n bytes
own_before s p done n bytes = by (is_some (s.file p)) where
  of : (done here : Bool)
      → (settled_file (if done && here then None else s.file n) (if done && here then false else s.is_unsynced n)
      (if done && here then record { file = s.file n; is_unsynced = s.is_unsynced n } ∷ s.earlier n else s.earlier n) ≡ Some bytes)
      ⊎ Contains (if here then [] ++ s.asked n else s.asked n) bytes → IsOwn s n bytes
  of true true own = own
  of true false own = own
  of false true own = own
  of false false own = own

  by : (b : Bool) → IsOwn (if b then renamed s p done (record { file = None; is_unsynced = false }) [] else s) n bytes → IsOwn s n bytes
  by true own = of done (int_eq p n) own
  by false own = own

-- Each message that names a blob has a later one that gives its page a new beginning, in a segment that ends at a place or below.
abbrev pub IsSpent : ℕ → ℕ → History → ℤ → Type 0
IsSpent size place H blob = (m : Message) → Contains H.messages m → NamesBlob m blob → IsSuperseded size place H m

-- A later message below a place gives the page of this one a new beginning.
pub record IsReplaced (place : ℕ) (H : History) (e : Message) : Type 0 where
  pub message : Message
  pub there : Contains H.messages message
  pub same_page : message.page ≡ e.page
  pub begins : begins_page message.kind ≡ true
  pub later : e.place < message.place
  pub below : message.place < place

-- So it is with each message that names a blob.
abbrev pub IsPassed : ℕ → History → ℤ → Type 0
IsPassed place H blob = (m : Message) → Contains H.messages m → NamesBlob m blob → IsReplaced place H m

-- It is so below a place where each message of a segment that ends at another one, or below, lies below it.
pub spent_passed : (size base place : ℕ) (H : History) (p : ℤ)
    → ((x : Message) → Contains H.messages x → x.place / size * size + size ≤ base → x.place < place) → IsSpent size base H p → IsPassed place H p
spent_passed size base place H p under spent e there names =
    let by = spent e there names in
    record {
      message = by.message;
      there = by.there;
      same_page = by.same_page;
      begins = by.begins;
      later = by.later;
      below = under by.message by.there by.ends;
    }

-- A message lies below the end of its segment.
pub ends_above : (size place : ℕ) → 0 < size → (x : Message) → x.place / size * size + size ≤ place → x.place < place
ends_above size place some x ends = omega (arith, ends, div-add-mod' x.place size, mod_below x.place size some)

-- One of these is removed, or may be.
module _ (sum : List ℕ → ℕ) (size : ℕ) (H : History) (order : Ascends H.messages) (place : ℕ) (p : ℤ) (passed : IsPassed place H p) where
  -- no entry of a table from there on names it,
  pub entry_beside : (cut page : ℕ) (m : Message) → place ≤ cut → Contains (table H cut page) m → IsBeside (Some p) m
  entry_beside cut page m le entry lid q is same =
      let by = passed m (from_table H cut page m entry).0 (lid, is ∙ ap (λ (z : ℤ). Blob lid z) same) in
      let lt : by.message.place < cut = (let below = by.below in omega (arith, below, le)) in
      omega (arith, entry_above H cut page m order entry by.message by.there by.same_page by.begins lt, by.later)

  -- nor does a message from there on
  pub later_beside : (m : Message) → Contains H.messages m → place ≤ m.place → IsBeside (Some p) m
  later_beside m there above lid q is same =
      let by = passed m there (lid, is ∙ ap (λ (z : ℤ). Blob lid z) same) in omega (arith, above, by.later, by.below)

  -- where it is missing, and the others are as they were, those that a table from there on needs are there
  module _ (was now : ℤ → Option (List ℕ)) (others : (n : ℤ) → int_eq p n ≡ false → now n ≡ was n) (gone : now p ≡ None) where
    item_there : (m : Message) → IsBeside (Some p) m → (pointer : DiskPtr) → m.pointer ≡ pointer → HasItem sum was m pointer → HasItem sum now m pointer
    item_there m beside (Inline lid) is item = tt
    item_there m beside (Blob lid q) is item =
        subst (λ (file : Option (List ℕ)). HasOwnBlob sum file m) (sym (others q (told_apart p q (beside lid q is)))) item

    passes_there : (m : Message) (pointer : DiskPtr) → PassesIfThere sum was m pointer → PassesIfThere sum now m pointer
    passes_there m (Inline lid) passes = tt
    passes_there m (Blob lid q) passes = λ k known damaged. by k known damaged (int_eq p q) refl where
      by : (k : MessageKind) → kind_written m.kind m.page true ≡ Some k → IsDamagedFor sum k (now q) → (b : Bool) → int_eq p q ≡ b → ⊥
      by k known damaged true same =
          let at : p ≡ q = (Decides-int_eq p q).0 same in
          let clash : None ≡ Some damaged.0 = sym gone ∙ ap now at ∙ damaged.1 in
          cc
      by k known damaged false other = passes k known (subst (IsDamagedFor sum k) (others q other) damaged)

    gone_recoverable : (cut : ℕ) → place ≤ cut → AreRecoverableBlobs sum was H cut → AreRecoverableBlobs sum now H cut
    gone_recoverable cut le are = record {
      needed = λ page m entry. item_there m (entry_beside cut page m le entry) m.pointer refl (are.needed page m entry);
      named = λ m there. passes_there m m.pointer (are.named m there);
    }

  module _ (s : NamesState) (done : Bool) where
    abbrev after : NamesState
    after = unnamed s p done

    -- What a crash leaves of the blobs behind that it could leave before, or the same but for the one that is missing. Either is the log's own.
    module _ (left : ℤ → Option (List ℕ)) (leaves : (n : ℤ) → LeavesName after n (left n)) (own : NoForeignNames (IsAnyBlob sum) after left) where
      left_before : LeavesName s p (left p) → (n : ℤ) → LeavesName s n (left n)
      left_before there n = elim (after_unnamed s p done n (left n) (leaves n)) [
        | inl was ↦ was
        | inr (here, gone) ↦ subst (λ (z : ℤ). LeavesName s z (left z)) ((Decides-int_eq p n).0 here) there
      ]

      own_left : NoForeignNames (IsAnyBlob sum) s left
      own_left = record { own = λ n bytes there is. own_before s p done n bytes (own.own n bytes there is) }

      -- So what holds of all that it could leave before holds behind, where it does as long as that one is missing.
      pub of_left : (P : (ℤ → Option (List ℕ)) → Type 0)
          → ((was : ℤ → Option (List ℕ)) → ((n : ℤ) → LeavesName s n (was n)) → NoForeignNames (IsAnyBlob sum) s was → P was)
          → ((was now : ℤ → Option (List ℕ)) → ((n : ℤ) → int_eq p n ≡ false → now n ≡ was n) → now p ≡ None → P was → P now) → P left
      of_left P each missing = elim (after_unnamed s p done p (left p) (leaves p)) [
        | inl was ↦ each left (left_before was) own_left
        | inr (here, gone) ↦ (
            let back = removed_back (IsAnyBlob sum) s p done in
            let was : ℤ → Option (List ℕ) = before (IsAnyBlob sum) (int_eq p) s after back left in
            missing was left (λ n other. sym (before_same (IsAnyBlob sum) (int_eq p) s after back left n other)) gone
            (each was (before_left (IsAnyBlob sum) (int_eq p) s after back left leaves) (before_own (IsAnyBlob sum) (int_eq p) s after back left own)))
      ]

    -- Those that a log needs are there still,
    pub removed_fit : (reach : ℕ) → place ≤ reach → BlobsFit sum s H reach → BlobsFit sum after H reach
    removed_fit reach le fit left leaves own =
        of_left left leaves own (λ now. AreRecoverableBlobs sum now H reach) fit (λ was now others gone are. gone_recoverable was now others gone reach le are)

    -- no crash takes the item of a later message,
    pub removed_items : (reach : ℕ) → place ≤ reach → KeepsItems sum s H reach → KeepsItems sum after H reach
    removed_items reach le keeps m there above = items_removed sum s p done m (later_beside m there (omega (arith, le, above))) (keeps m there above)

    -- nor that of an entry of the table.
    pub removed_entries : (reach : ℕ) → place ≤ reach → KeepsEntries sum s H reach → KeepsEntries sum after H reach
    removed_entries reach le keeps page m entry = items_removed sum s p done m (entry_beside reach page m le entry) (keeps page m entry)

  -- And what a crash leaves can be recovered, with all up to there acknowledged.
  pub removed_leaves : (A f : ℕ) → place ≤ A → (s : State) (done : Bool) → LeavesRecovering sum size H A f s
      → LeavesRecovering sum size H A f (step (BlobRemoved p done) s)
  unfolding Recoverable
  removed_leaves A f le s done recoverable left leaves own =
      let content : (ℤ → Option (List ℕ)) → Content = λ blobs. record { log = left.log; blobs = blobs; snapshots = left.snapshots } in
      of_left s.blobs done left.blobs leaves.blobs own.blobs (λ blobs. Recoverable sum size (content blobs) H A f)
      (λ was may own_was. recoverable (content was) (record { log = leaves.log; blobs = may; snapshots = leaves.snapshots })
      (record { log = own.log; blobs = own_was; snapshots = own.snapshots; zeros = own.zeros }))
      (λ was now others gone is. record {
        first = is.first;
        cut = is.cut;
        snapshots = is.snapshots;
        log = is.log;
        blobs = gone_recoverable was now others gone is.cut.0 (let passes = is.log.passes in omega (arith, le, passes)) is.blobs;
      })

-- The blobs of a device have what a history needs that is stable up to a place, and what a crash leaves of it can be recovered.
pub record HasNeeded (sum : List ℕ → ℕ) (size : ℕ) (H : History) (stable f : ℕ) (s : State) : Type 0 where
  pub blobs : BlobsFit sum s.blobs H stable
  pub stored : KeepsItems sum s.blobs H stable
  pub entries : KeepsEntries sum s.blobs H stable
  pub left : LeavesRecovering sum size H stable f s

-- What each removal keeps, done or not, holds along several.
removing_all_keep : (P : State → Type 0) (ps : List ℤ) → ((p : ℤ) → Contains ps p → (s : State) (done : Bool) → P s → P (step (BlobRemoved p done) s))
    → (s : State) → P s → Along P (removing_blobs ps) s
removing_all_keep P [] keeps s here = here
removing_all_keep P (p ∷ ps) keeps s here = (
  here,
  (λ torn tears. subst (λ (e : Event). P (step e s)) (sym tears.1) (keeps p (in_first p ps) s tears.0 here)),
  removing_all_keep P ps (λ q there. keeps q (in_rest p q ps there)) (step (BlobRemoved p true) s) (keeps p (in_first p ps) s true here),
)

-- So it is along the removal of all blobs that go with a segment which ends where the history is stable, or below.
pub outdated_goes : (sum : List ℕ → ℕ) (size : ℕ) → 0 < size → (H : History) → Ascends H.messages → (m : Machine) → AreOutdated size H m → (k stable f : ℕ)
    → (slot_at m k).lsn + size ≤ stable → (device : State)
    → HasNeeded sum size H stable f device → Along (HasNeeded sum size H stable f) (removing_blobs (slot_at m k).blobs) device
outdated_goes sum size some H order m are k stable f ends device has =
    removing_all_keep (HasNeeded sum size H stable f) (slot_at m k).blobs keeps device has where
      passed : (p : ℤ) → Contains (slot_at m k).blobs p → IsPassed stable H p
      passed p among =
          spent_passed size ((slot_at m k).lsn + size) stable H p
          (λ x there low. let under = ends_above size ((slot_at m k).lsn + size) some x low in omega (arith, under, ends)) (are k p among).superseded

      keeps : (p : ℤ) → Contains (slot_at m k).blobs p → (s : State) (done : Bool) → HasNeeded sum size H stable f s
          → HasNeeded sum size H stable f (step (BlobRemoved p done) s)
      keeps p among s done its = record {
        blobs = removed_fit sum size H order stable p (passed p among) s.blobs done stable (omega arith) its.blobs;
        stored = removed_items sum size H order stable p (passed p among) s.blobs done stable (omega arith) its.stored;
        entries = removed_entries sum size H order stable p (passed p among) s.blobs done stable (omega arith) its.entries;
        left = removed_leaves sum size H order stable p (passed p among) stable f (omega arith) s done its.left;
      }

-- A log of this line and these slots fits a history over a device, and all up to a place is stable.
pub record FitsPast (sum : List ℕ → ℕ) (marks : JoinedMarks) (noted : List Batch) (size : ℕ) (fault : Option IoError) (line : List SegmentView) (m : Machine)
    (pins : ℕ) (H : History) (A f : ℕ) (U : List Message) (place : ℕ) (s : State) : Type 0 where
  pub fits : FitsWith sum marks noted size s fault line m pins H A f U
  pub past : place ≤ stable_below fits.reach H.batches

-- So it does once a blob is removed, or may be, of which each message that names it is replaced below that place.
pub fits_removed : (sum : List ℕ → ℕ) (marks : JoinedMarks) (noted : List Batch) (size : ℕ) (fault : Option IoError) (line : List SegmentView) (m : Machine)
    (pins : ℕ) (H : History) (A f : ℕ) (U : List Message) (place : ℕ)
    → Ascends H.messages → (p : ℤ) → IsPassed place H p → (s : State) (done : Bool)
    → FitsPast sum marks noted size fault line m pins H A f U place s
    → FitsPast sum marks noted size fault line m pins H A f U place (step (BlobRemoved p done) s)
fits_removed sum marks noted size fault line m pins H A f U place order p passed s done its =
    record { fits = now.0; past = subst (λ reach. place ≤ stable_below reach H.batches) (sym now.1) its.past } where
      stable : ℕ
      stable = stable_below its.fits.reach H.batches

      items : HaveItems sum s.blobs H stable → HaveItems sum (unnamed s.blobs p done) H stable
      items have = record {
        blobs = removed_fit sum size H order place p passed s.blobs done stable its.past have.blobs;
        stored = removed_items sum size H order place p passed s.blobs done stable its.past have.stored;
        entries = removed_entries sum size H order place p passed s.blobs done stable its.past have.entries;
        below = have.below;
      }

      left : LeavesRecovering sum size H stable f s → LeavesRecovering sum size H stable f (step (BlobRemoved p done) s)
      left = removed_leaves sum size H order place p passed stable f its.past s done

      now : (fits : FitsWith sum marks noted size (step (BlobRemoved p done) s) fault line m pins H A f U) × (fits.reach ≡ its.fits.reach)
      now = fits_over_blobs sum size s (unnamed s.blobs p done) s.snapshots fault refl H A f U
          (λ first named. record { names = named.names; own_names = λ none. own_removing sum p done s (named.own_names none) }) noted line m pins its.fits
          (items, left)

-- So it does along the removal of all blobs that go with a segment which ends there.
pub fits_outdated_goes : (sum : List ℕ → ℕ) (marks : JoinedMarks) (noted : List Batch) (size : ℕ) (fault : Option IoError) (line : List SegmentView)
    (m : Machine) (pins : ℕ) (H : History) (A f : ℕ) (U : List Message)
    → 0 < size → Ascends H.messages → (k : ℕ) (device : State) → FitsPast sum marks noted size fault line m pins H A f U ((slot_at m k).lsn + size) device
    → Along (FitsPast sum marks noted size fault line m pins H A f U ((slot_at m k).lsn + size)) (removing_blobs (slot_at m k).blobs) device
fits_outdated_goes sum marks noted size fault line m pins H A f U some order k device has =
    removing_all_keep (FitsPast sum marks noted size fault line m pins H A f U ((slot_at m k).lsn + size)) (slot_at m k).blobs
    (λ p among s done its.
    fits_removed sum marks noted size fault line m pins H A f U ((slot_at m k).lsn + size) order p
    (spent_passed size ((slot_at m k).lsn + size) ((slot_at m k).lsn + size) H p (λ x there low. ends_above size ((slot_at m k).lsn + size) some x low)
    (its.fits.account.outdated k p among).superseded) s done its)
    device has

-- A step of the accountant removes such blobs alone: those that go with segments which are due for its mark, where these end at a place or below it.
pub goes_spent : (size base : ℕ) (H : History) (m : Machine) (mark : ℤ) → AreOutdated size H m
    → ((place : ℕ) → is_due size mark place ≡ true → place + size ≤ base) → (p : ℤ) → GoesWith (IsDueFor size mark m) m.slots p → IsSpent size base H p
goes_spent size base H m mark are below p goes e there names =
    superseded_more size ((slot_at m goes.slot).lsn + size) base H H e (λ x found. found) (below (slot_at m goes.slot).lsn goes.due)
    ((are goes.slot p goes.there).superseded e there names)
