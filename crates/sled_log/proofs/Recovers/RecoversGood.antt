-- What recovery makes of a recoverable content is good: with the cut for its place, it is the table of the history below the cut, and each entry reads its own bytes.
use Rattle.std.proofs.Common.{◌≡◌, ◌⊎◌, ◌∙◌, ◌≤◌, ℕ, pos, false, List, ◌∷◌, Option, Some, None, refl, sym, ap, subst, arith, inl, inr}
use Rattle.std.specs.List.{Contains}
use Rattle.sled_codec.specs.declared.result.DiskPtr.{DiskPtr}
use Rattle.sled_codec.specs.declared.result.DiskPtr.TheVariants.{Inline, Blob}
use Rattle.sled_codec.specs.History.{Message, History, table, CutFits}
use Rattle.sled_codec.specs.PageTables.{IsTable}
use Rattle.sled_codec.specs.Snapshots.{SnapshotModel, stable_place}
use Rattle.sled_store.specs.Device.{Content}
use Rattle.sled_core.specs.Good.{ReadsAt, IsGood}
use Rattle.sled_core.specs.inside.Recoverable.{AreRecoverableSnapshots, IsRecoverableLog, AreRecoverableBlobs, StandsInline, HasItem, scanned_below}
use Rattle.sled_core.specs.invariants.Recoverable.{Recoverable}
use Rattle.sled_log.proofs.Recovers.Readable.{CanRead}
use Rattle.sled_log.specs.Orderly.{IsOrderly}
use Rattle.sled_log.specs.Recovery.{Scanned, Applied, Outcome, Damaged, Recovered, RecoveryResult, shred_range_of, is_beyond, begun_below, AreReplayed, tail_end, concluded, unchanged, ContinuesFrom, Recovers}
use Rattle.sled_store.proofs.Histories.Ascending.{apart_ascends}
use Rattle.sled_log.proofs.PageTable.WholeTables.{table_whole}
use Rattle.sled_log.proofs.Replay.FirstSnapshot.{first_is_table, no_damaged_snapshot}
use Rattle.sled_log.proofs.Replay.RecoveryLemmas.{made, concluded_well}
use Rattle.sled_log.proofs.SnapshotFile.BeginLemmas.{one_begin}
use Rattle.sled_log.proofs.Recovers.CutLemmas.{cut_fits}
use Rattle.sled_log.proofs.Recovers.PassCut.{cut_is}
use Rattle.sled_log.proofs.Recovers.PassTable.{applied_all, table_made, pages_fit}
use Rattle.sled_log.proofs.Recovers.Undamaged.{ComesOf, ReadsNone, left_of, Comes, what_comes}
use Rattle.sled_log.proofs.Recovers.LeftIn.{HaveAbove, all_left, high_left}
use Rattle.sled_log.proofs.Recovers.LeftOut.{LieAbove, tail_empty, none_left, some_left}
use Rattle.sled_log.proofs.Recovers.ActiveSlot.{IsActive, none_slot, none_active, some_active}

-- recovery goes on from the snapshot that it begins from, which isn't damaged
goes_on : (sum : List ℕ → ℕ) (size : ℕ) (content : Content) (H : History) (f : ℕ) (first : SnapshotModel) → AreRecoverableSnapshots sum size content.snapshots H f first → (o : Outcome) → Recovers sum size content o
    → ContinuesFrom sum size content.log content.blobs first o
unfolding Recovers
goes_on sum size content H f first snapshots o (inl damaged) = absurd (no_damaged_snapshot sum size content.snapshots H f first snapshots damaged.1)
goes_on sum size content H f first snapshots o (inr (other, at, on)) =
    subst (λ (s : SnapshotModel). ContinuesFrom sum size content.log content.blobs s o) (one_begin sum content.snapshots other first at snapshots.begins) on

module _ (sum : List ℕ → ℕ) (size : ℕ) (content : Content) (H : History) (A f : ℕ) (some : 256 ≤ size) (orderly : IsOrderly H) (first : SnapshotModel) (cut : ℕ × Option ℕ)
    (snapshots : AreRecoverableSnapshots sum size content.snapshots H f first) (is : IsRecoverableLog sum size content.log H A first cut) (are : AreRecoverableBlobs sum content.blobs H cut.0) where
  -- an entry whose record stands, or whose blob is there, reads its own bytes
  reads_from : (m : Message) (pointer : DiskPtr) → StandsInline sum size content.log m pointer → HasItem sum content.blobs m pointer → ReadsAt sum size content m pointer
  reads_from m (Inline lid) stands item = stands
  reads_from m (Blob lid place) stands item = item

  -- a table below the cut, with that for its place
  good_at : (x : SnapshotModel) → stable_place x.stable ≡ cut.0 → IsTable x.pages H cut.0 → CutFits H cut.0 → IsGood sum size content H A f x
  good_at x place made fits =
      let above = is.not_below in
      let floor = snapshots.not_below in
      let passes = is.passes in
      record {
        fits = subst (CutFits H) (sym place) fits;
        passes = omega (arith, place, passes);
        not_below = omega (arith, place, above, floor);
        reads = λ page m there.
            let entry = subst (λ n. Contains (table H n page) m) place there in
            reads_from m m.pointer (is.needed page m entry).1 (are.needed page m entry);
        table = subst (IsTable x.pages H) (sym place) made;
      }

  -- What a recovery gives: the snapshot that it began from, where no slot is active, or a table with the cut for its place.
  abbrev pub IsKept : RecoveryResult → Type 0
  IsKept x = (x.model ≡ first) × (x.shred_range ≡ None) × (x.is_new ≡ false) × (cut.1 ≡ None)

  abbrev pub IsMade : RecoveryResult → Type 0
  IsMade x = (x.model.stable ≡ Some (pos cut.0)) × (x.shred_range ≡ shred_range_of size cut.0 cut.1) × (x.is_new ≡ is_beyond first.stable cut.0)

  -- It is good, with the place and the active slot of the cut, in which a record can begin there. The segments that were not read are those at or above the cut.
  pub record RecoversWell (x : RecoveryResult) : Type 0 where
    pub place : stable_place x.model.stable ≡ cut.0
    pub active : x.model.active ≡ cut.1
    pub is_active : IsActive sum size content.log some H A first cut is cut.0 cut.1
    pub good : IsGood sum size content H A f x.model
    pub kind : IsKept x ⊎ IsMade x
    pub unread : LieAbove sum size content.log some content.blobs H A first cut is are x.unread
    pub above : HaveAbove sum size content.log some content.blobs H A first cut is are x.unread

  abbrev IsAnswer : Outcome → Type 0
  IsAnswer o = (x : RecoveryResult) × (o ≡ Recovered x) × RecoversWell x

  -- the snapshot stays
  stays : (unread : List ℕ) (o : Outcome) → ReadsNone sum size content.log content.blobs H A first cut is are unread → cut ≡ (stable_place first.stable, first.active) → o ≡ Recovered (unchanged first unread) → IsAnswer o
  stays unread o none at comes =
      let place : stable_place first.stable ≡ cut.0 = ap (λ (c : ℕ × Option ℕ). c.0) (sym at) in
      let begins = first_is_table sum size content.snapshots H f first snapshots in (
        unchanged first unread,
        comes,
        record {
          place = place;
          active = ap (λ (c : ℕ × Option ℕ). c.1) (sym at);
          is_active = subst (λ (c : ℕ × Option ℕ). IsActive sum size content.log some H A first cut is c.0 c.1) (sym at) (none_active sum size content.log some H A first cut is snapshots.active (tail_empty sum size content.log some content.blobs H A first cut is are unread none).0);
          good = good_at first place (subst (IsTable first.pages H) place begins.0) (subst (CutFits H) place begins.1);
          kind = inl (refl, refl, refl, ap (λ (c : ℕ × Option ℕ). c.1) at ∙ none_slot sum size content.log some H A first cut is snapshots.active (tail_empty sum size content.log some content.blobs H A first cut is are unread none).0);
          unread = none_left sum size content.log some content.blobs H A first cut is are unread (sym place) none;
          above = all_left sum size content.log some content.blobs H A first cut is are unread none;
        },
      )

  -- a pass makes the table below the cut
  passes_on : (end : ℕ) (s : Scanned) (ss passes : List Scanned) (o : Outcome) (ends : tail_end is.tail ≡ Some end) (below : scanned_below end is.scanned ≡ s ∷ ss)
      → AreReplayed sum size content.log end (begun_below end is.ordering) passes
      → ComesOf sum size content.log content.blobs H A first cut is are end s ss (left_of sum size content.log content.blobs H A first cut is are passes) o → IsAnswer o
  passes_on end s ss passes o ends below replayed comes =
      let begins = first_is_table sum size content.snapshots H f first snapshots in
      let unread : List ℕ = left_of sum size content.log content.blobs H A first cut is are passes in
      let messages : List Applied = applied_all sum size content.log some content.blobs H A first cut is are orderly begins.0 end s ss ends below in
      let is_table = table_made sum size content.log some content.blobs H A first cut is are orderly begins.0 end s ss ends below in
      let at = cut_is sum size content.log some H A first cut is end s ss ends below in
      let well = concluded_well size first unread messages cut (pages_fit sum size content.log some content.blobs H A first cut is are orderly begins.0 end s ss ends below) is.not_below (table_whole H cut.0 _ orderly is_table) in
      let fits = cut_fits sum size content.log some H A first cut is (apart_ascends H.messages orderly.formed.apart) begins.1 end s ss ends below in
      let x : RecoveryResult = made size first unread messages cut in (
        x,
        comes ∙ ap (λ (c : ℕ × Option ℕ). concluded size first unread messages c) (sym at) ∙ well,
        record {
          place = refl;
          active = refl;
          is_active = some_active sum size content.log some H A first cut is end s ss ends below;
          good = good_at x.model refl is_table fits;
          kind = inr (refl, refl, refl);
          unread = some_left sum size content.log some content.blobs H A first cut is are end s ss passes ends below replayed;
          above = high_left sum size content.log some content.blobs H A first cut is are end s ss passes ends below replayed;
        },
      )

  answer : (o : Outcome) → Comes sum size content.log content.blobs H A first cut is are o → IsAnswer o
  answer o (inl (unread, none, at, comes)) = stays unread o none at comes
  answer o (inr (end, s, ss, passes, ends, below, replayed, comes)) = passes_on end s ss passes o ends below replayed comes

  -- What comes of a recovery.
  pub recovers_well : (o : Outcome) → Recovers sum size content o → (x : RecoveryResult) × (o ≡ Recovered x) × RecoversWell x
  recovers_well o recovers = answer o (what_comes sum size content.log content.blobs H A first cut is are o (goes_on sum size content H f first snapshots o recovers))

-- outcomes that are one give one result
result_in : RecoveryResult → Outcome → RecoveryResult
result_in x (Damaged at) = x
result_in x (Recovered y) = y

pub one_result : (x y : RecoveryResult) → Recovered x ≡ Recovered y → x ≡ y
unfolding result_in
one_result x y same = ap (result_in x) same

-- a result that comes of one
pub well_of : (sum : List ℕ → ℕ) (size : ℕ) (content : Content) (H : History) (A f : ℕ) (some : 256 ≤ size) (can : CanRead sum size content H A f) (x : RecoveryResult) → Recovers sum size content (Recovered x)
    → RecoversWell sum size content H A f some can.orderly can.first can.cut can.snapshots can.log can.blobs x
well_of sum size content H A f some can x recovers =
    let came = recovers_well sum size content H A f some can.orderly can.first can.cut can.snapshots can.log can.blobs (Recovered x) recovers in
    subst (RecoversWell sum size content H A f some can.orderly can.first can.cut can.snapshots can.log can.blobs) (sym (one_result x came.0 came.1)) came.2

-- A recoverable content is recovered, and the answer is good.
pub recovers_good : (sum : List ℕ → ℕ) (size : ℕ) (content : Content) (H : History) (A f : ℕ) → 256 ≤ size → IsOrderly H → (first : SnapshotModel) (cut : ℕ × Option ℕ)
    → AreRecoverableSnapshots sum size content.snapshots H f first → IsRecoverableLog sum size content.log H A first cut → AreRecoverableBlobs sum content.blobs H cut.0
    → (o : Outcome) → Recovers sum size content o
    → (x : RecoveryResult) × (o ≡ Recovered x) × (stable_place x.model.stable ≡ cut.0) × IsGood sum size content H A f x.model
recovers_good sum size content H A f some orderly first cut snapshots is are o recovers =
    let comes = recovers_well sum size content H A f some orderly first cut snapshots is are o recovers in
    let well = comes.2 in
    (comes.0, comes.1, well.place, well.good)

-- So a content that can be read back isn't damaged, and each recovery of it is good.
module _ (sum : List ℕ → ℕ) (size : ℕ) (content : Content) (H : History) (A f : ℕ) (some : 256 ≤ size) (can : CanRead sum size content H A f) where
  comes : (o : Outcome) → Recovers sum size content o → (x : RecoveryResult) × (o ≡ Recovered x) × (stable_place x.model.stable ≡ can.cut.0) × IsGood sum size content H A f x.model
  comes = recovers_good sum size content H A f some can.orderly can.first can.cut can.snapshots can.log can.blobs

  pub read_undamaged : (at : Option DiskPtr) → Recovers sum size content (Damaged at) → ⊥
  read_undamaged at recovers =
      let came = comes (Damaged at) recovers in
      let no : Damaged at ≡ Recovered came.0 = came.1 in
      cc

  pub read_good : (x : RecoveryResult) → Recovers sum size content (Recovered x) → IsGood sum size content H A f x.model
  read_good x recovers =
      let came = comes (Recovered x) recovers in
      let same : Recovered x ≡ Recovered came.0 = came.1 in
      subst (λ (y : RecoveryResult). IsGood sum size content H A f y.model) (sym (one_result x came.0 same)) came.3

-- What can be recovered can be read back.
pub can_read : (sum : List ℕ → ℕ) (size : ℕ) (content : Content) (H : History) (A f : ℕ) → IsOrderly H → Recoverable sum size content H A f → CanRead sum size content H A f
unfolding Recoverable
can_read sum size content H A f orderly is = record { orderly = orderly; first = is.first; cut = is.cut; snapshots = is.snapshots; log = is.log; blobs = is.blobs }
