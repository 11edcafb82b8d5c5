-- Behind a recovery, over any number of segments, snapshot and device are ready for a log that holds what lies below the cut, with the cut for the floor.
use Rattle.std.proofs.Common.{◌≡◌, ◌∙◌, ◌≤◌, ◌<◌, ◌+◌, ℕ, true, false, List, ◌∷◌, sym, ap, subst, arith}
use Rattle.std.specs.Bool.{MatchBool}
use Rattle.std.specs.List.{Contains}
use Rattle.sled_codec.specs.History.{Message, Batch, History, CutFits, below}
use Rattle.sled_codec.specs.PageTables.{IsTable}
use Rattle.sled_codec.specs.Snapshots.{SnapshotModel, stable_place}
use Rattle.sled_store.specs.Device.{Synced, NamesSynced, LogState, State, Content, Trace, state_of, content_of}
use Rattle.sled_store.specs.SnapshotFiles.{BeginsFrom}
use Rattle.sled_store.proofs.Histories.Ascending.{apart_ascends, all_from_in}
use Rattle.sled_store.proofs.Marks.AccountSteps.{past_table}
use Rattle.sled_core.specs.Fits.{EndBelow, CloseBelow}
use Rattle.sled_core.specs.Logged.{logged}
use Rattle.sled_core.specs.Ready.{HasFile, IsReady}
use Rattle.sled_core.specs.inside.Lasting.{IsLasting}
use Rattle.sled_core.specs.inside.Numbers.{NumbersStay}
use Rattle.sled_core.specs.inside.Running.{BlobsFit, KeepsEntries, NamesFit, IsReadyFor}
use Rattle.sled_core.specs.invariants.Running.{Ready}
use Rattle.sled_core.specs.inside.Reached.{StandsActive}
use Rattle.sled_core.specs.Recoverable.{NoHeaderOfZeros, ReadsOnlyOwn}
use Rattle.sled_core.specs.inside.Recoverable.{IsRecoverableLog, AreRecoverableSnapshots}
use Rattle.sled_core.proofs.Numbers.Stay.{stay_higher, stay_less}
use Rattle.sled_log.proofs.Recovers.Readable.{CanRead, LeavesReadable}
use Rattle.sled_log.specs.Orderly.{IsOrderly}
use Rattle.sled_log.specs.Recovery.{RecoveryResult, Recovered, Recovers}
use Rattle.sled_log.specs.Restores.{BeginsAgain}
use Rattle.sled_log.specs.WritesBack.{FitsIfNew, HasWrittenBack, IsWrittenBack, IsOnlySnapshot, short_file, snapshot_number_of}
use Rattle.sled_log.proofs.Afterwards.EndsBelow.{recoverable_below}
use Rattle.sled_log.proofs.Afterwards.ForgottenSlots.{zeroed_rests}
use Rattle.sled_log.proofs.Afterwards.KeptBelow.{begin_below, names_end, below_cut}
use Rattle.sled_log.proofs.Afterwards.LastOwn.{own_end}
use Rattle.sled_log.proofs.Afterwards.LeftGood.{left_log, log_is, stops_left, nothing_above, fits, active}
use Rattle.sled_log.proofs.Afterwards.LogOwn.{log_end}
use Rattle.sled_log.proofs.Afterwards.OrderlyBelow.{orderly_below}
use Rattle.sled_log.proofs.Moments.ForgottenAbove.{message_from, batch_from, blobs_forget, table_kept}
use Rattle.sled_log.proofs.Moments.LessOwn.{written_less}
use Rattle.sled_log.proofs.Moments.RecoveryAlong.{can_read, concluded}
use Rattle.sled_log.proofs.PageTable.BelowLemmas.{fits_below}
use Rattle.sled_log.proofs.PageTable.TableCuts.{table_below}
use Rattle.sled_log.proofs.Ready.Convertible.{leaves_readable, leaves_recoverable}
use Rattle.sled_log.proofs.Ready.FileThere.{has_file}
use Rattle.sled_log.proofs.Ready.ReadToPlace.{EndsThere, ends_there, stands_active}
use Rattle.sled_log.proofs.Ready.ZerosStay.{zeros_behind}
use Rattle.sled_log.proofs.Recovers.RecoversGood.{RecoversWell, well_of}
use Rattle.sled_log.proofs.SnapshotFile.BeginLemmas.{one_begin}
use Rattle.sled_log.proofs.SnapshotFile.NewestLemmas.{begins_from_only}
use Rattle.sled_log.proofs.WriteBack.WriteLemmas.{written_as}
use Rattle.sled_core.proofs.Logged.Messages.{logged_twice}
use Rattle.sled_core.proofs.Logged.Names.{names_alike, ready_alike}
use Rattle.sled_core.proofs.Logged.Stands.{active_alike}

-- The log file that a recovery leaves, for what lies below the cut.
module _ (sum : List ℕ → ℕ) (size : ℕ) (content : Content) (H : History) (A f : ℕ) (some : 256 ≤ size) (can : CanRead sum size content H A f) (x : RecoveryResult)
    (well : RecoversWell sum size content H A f some can.orderly can.first can.cut can.snapshots can.log can.blobs x) (none : NoHeaderOfZeros sum) where
  abbrev K : History
  K = below H can.cut.0

  abbrev log : List ℕ
  log = (left_log sum size content H A f some can x well none).bytes

  is : IsRecoverableLog sum size log K A x.model can.cut
  is =
      recoverable_below sum size log some H A can.cut (stops_left sum size content H A f some can x well none) (nothing_above sum size content H A f some can x well none)
      (fits sum size content H A f some can x well) x.model well.place (active sum size content H A f some can x well)

  messages : (m : Message) → Contains K.messages m → m.place < can.cut.0
  messages m there = (message_from H can.cut.0 m there).1

  batches : (b : Batch) → Contains K.batches b → b.low < can.cut.0
  batches b there = (batch_from H can.cut.0 b there).1

  -- The cut is one of what is kept, and the table is the table of that.
  pub fits_kept : CutFits K can.cut.0
  fits_kept = fits_below H can.cut.0 can.cut.0 (fits sum size content H A f some can x well)

  ends : EndsThere sum size log some is.scanned can.cut
  ends = ends_there sum size log some H A can.cut (stops_left sum size content H A f some can x well none) K x.model well.place is

  pub pages_kept : IsTable x.model.pages K can.cut.0
  pages_kept = (table_below H can.cut.0 x.model.pages).1 (subst (IsTable x.model.pages H) well.place well.good.table)

  -- It stands up to the cut.
  pub stands_left : StandsActive sum size log x.model K
  stands_left =
      stands_active sum size log some K A x.model can.cut is well.place (active sum size content H A f some can x well) messages batches fits_kept
      (nothing_above sum size content H A f some can x well none) well.active ends

  -- It has all that a log asks of it.
  pub file_left : HasFile sum size log x.model x.model.active K
  file_left =
      has_file sum size log some K A x.model can.cut is well.place (active sum size content H A f some can x well) messages
      (apart_ascends K.messages (orderly_below H can.cut.0 can.orderly).formed.apart) pages_kept well.active ends (zeros_behind sum size content H A f some can x well none)

-- All was written back.
module _ (sum : List ℕ → ℕ) (size : ℕ) (H : History) (A f : ℕ) (some : 256 ≤ size) (old : Trace) (readable : LeavesReadable sum size H A f (state_of old)) (own : ReadsOnlyOwn sum size (state_of old))
    (orderly : IsOrderly H) (lasting : IsLasting sum size (state_of old) H A f) (x : RecoveryResult) (recovers : Recovers sum size (content_of (state_of old)) (Recovered x)) (spelled : FitsIfNew x) (new : Trace) (has : HasWrittenBack sum size x (NamesSynced ∷ Synced ∷ old) new)
    (again : BeginsAgain sum (state_of old).snapshots.file (state_of new) x.model) where
  abbrev content : Content
  content = content_of (state_of old)

  abbrev can : CanRead sum size content H A f
  can = can_read sum size H A f some old readable own

  abbrev cut : ℕ
  cut = can.cut.0

  abbrev kept : History
  kept = below H cut

  abbrev now : State
  now = state_of new

  abbrev first : SnapshotModel
  first = again.0

  well : RecoversWell sum size content H A f some can.orderly can.first can.cut can.snapshots can.log can.blobs x
  well = well_of sum size content H A f some can x recovers

  written : IsWrittenBack sum size x (state_of (NamesSynced ∷ Synced ∷ old)) now
  written = written_as sum size x (NamesSynced ∷ Synced ∷ old) new has

  -- The newest snapshot.

  made : x.is_new ≡ true → x.model ≡ first
  made is_new =
      let table = (concluded sum size content H A f some can x well spelled).made is_new in
      let only = subst (λ b. MatchBool b (IsOnlySnapshot now.snapshots.file (snapshot_number_of x.model) (short_file sum x.model)) (now.snapshots ≡ (state_of (NamesSynced ∷ Synced ∷ old)).snapshots)) is_new written.snapshots in
      one_begin sum now.snapshots.file x.model first (begins_from_only sum now.snapshots.file x.model cut table.stable (spelled is_new) only) again.1

  stays : x.is_new ≡ false → can.first ≡ first
  stays is_old =
      let same = subst (λ b. MatchBool b (IsOnlySnapshot now.snapshots.file (snapshot_number_of x.model) (short_file sum x.model)) (now.snapshots ≡ (state_of (NamesSynced ∷ Synced ∷ old)).snapshots)) is_old written.snapshots in
      one_begin sum now.snapshots.file can.first first (subst (λ s. BeginsFrom sum s.file can.first) (sym same) can.snapshots.begins) again.1

  place : stable_place first.stable ≡ cut
  place = ap stable_place again.2 ∙ well.place

  names : NamesFit sum size now.snapshots kept cut first
  names left leaves own_left =
      let Allowed : SnapshotModel → Type 0 = λ t. t ≡ first in
      let begins = begin_below sum size H f cut Allowed (λ t at. ap (λ (s : SnapshotModel). stable_place s.stable) at ∙ place) now.snapshots (names_end sum size H A f some old readable own x recovers spelled new has Allowed made stays).begin left leaves own_left in
      subst (λ (t : SnapshotModel). AreRecoverableSnapshots sum size left kept cut t) begins.2 begins.1

  blobs : BlobsFit sum now.blobs kept cut
  blobs left leaves own_left = blobs_forget sum left H cut ((names_end sum size H A f some old readable own x recovers spelled new has (λ t. t ≡ first) made stays).stand left leaves own_left)

  -- no crash takes the item of an entry
  entries : KeepsEntries sum now.blobs kept cut
  entries page m entry = (names_end sum size H A f some old readable own x recovers spelled new has (λ t. t ≡ first) made stays).items page m (subst (λ (l : List Message). Contains l m) (table_kept H cut page) entry)

  -- The log file.

  abbrev last : LogState
  last = left_log sum size content H A f some can x well own.zeros

  log_left : now.log ≡ last
  log_left = log_is sum size content H A f some can x well own.zeros now.log written.log

  ready : IsReady sum size now x.model kept
  ready = record {
    log = last.bytes;
    settled = log_left ∙ zeroed_rests size x.unread _;
    first = first;
    begins = again.1;
    same_place = again.2;
    same_pages = again.3;
    table = subst (IsTable x.model.pages kept) (sym well.place) (pages_kept sum size content H A f some can x well own.zeros);
    below = subst (λ n. EndBelow n kept.messages) (sym well.place) (all_from_in (λ m. (m.place < cut) × (m.place + m.size ≤ cut)) kept.messages (λ m there. let from = message_from H cut m there in (from.1, (fits sum size content H A f some can x well).messages m from.0 from.1)));
    apart = (orderly_below H cut can.orderly).formed.apart;
    batches = subst (λ n. CloseBelow n kept.batches) (sym well.place) (all_from_in (λ b. (b.low < cut) × (b.peg < cut)) kept.batches (λ b there. let from = batch_from H cut b there in (from.1, (fits sum size content H A f some can x well).batches b from.0 from.1)));
    file = file_left sum size content H A f some can x well own.zeros;
  }

  -- A log has of it what it has.
  of_log : logged kept ≡ logged (logged kept)
  of_log = sym (logged_twice kept)

  -- The place from which on all lasts isn't above the cut.
  lasting_low : lasting.stable ≤ cut
  lasting_low =
      let readable = leaves_readable sum size H lasting.stable f (state_of old) orderly lasting.lasts.can in
      let there = can_read sum size H lasting.stable f some old readable own in
      let its = well_of sum size content H lasting.stable f some there x recovers in
      let passes = there.log.passes in
      let one = its.place in
      let other = well.place in
      omega (arith, passes, one, other)

  -- In the slots that are needed nothing that is the log's own has a greater number.
  numbers : NumbersStay sum size now H cut
  numbers =
      stay_higher sum size some now H lasting.stable cut lasting_low
      (stay_less sum size now (state_of old) (written_less sum size own.zeros old new x has) H lasting.stable (lasting.lasts.numbers own.zeros))

  numbers_kept : NumbersStay sum size now kept cut
  numbers_kept = record {
    entries = λ high page e up entry. numbers.entries cut page e (omega arith)
        (subst (λ (l : List Message). Contains l e) (table_kept H cut page)
        (subst (λ (l : List Message). Contains l e) (sym (past_table kept (apart_ascends kept.messages (orderly_below H cut can.orderly).formed.apart) cut high page (λ m there. (message_from H cut m there).1) up)) entry));
    later = numbers.later;
    lie = numbers.lie;
  }

  at_cut : IsReadyFor sum size now x.model kept A cut
  unfolding ready ready_alike
  at_cut = record {
    ready = ready_alike kept (logged kept) of_log sum size now x.model ready;
    alone = active_alike kept (logged kept) of_log sum size now.log.bytes x.model (subst (λ (l : LogState). StandsActive sum size l.bytes x.model kept) (sym log_left) (stands_left sum size content H A f some can x well own.zeros));
    active = active sum size content H A f some can x well;
    blobs = subst (BlobsFit sum now.blobs kept) (sym well.place) blobs;
    entries = subst (KeepsEntries sum now.blobs kept) (sym well.place) entries;
    below = λ m there. let from = message_from H cut m there in (can.log.placed m from.0 from.1).blob;
    names = names_alike kept (logged kept) of_log sum size now.snapshots cut first names;
    own = λ zeros. log_end sum size H A f some old own can x well new has;
    own_names = own_end sum size x old new has;
    passes = subst (λ n. A ≤ n) (sym well.place) can.log.passes;
    left = leaves_recoverable sum size kept A cut now (below_cut sum size H A f some old readable own x recovers spelled new has);
    numbers = λ zeros. subst (NumbersStay sum size now kept) (sym well.place) numbers_kept;
  }

  -- So all is ready.
  pub recovered_ready : Ready sum size now x.model (below H (stable_place x.model.stable)) A (stable_place x.model.stable)
  unfolding Ready
  recovered_ready = subst (λ n. IsReadyFor sum size now x.model (below H n) A n) (sym well.place) at_cut
