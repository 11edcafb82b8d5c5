-- What stands up to a place can be recovered, where all of the history ends below it; and it stands so for each snapshot that ends at the same place.
use Rattle.std.proofs.Common.{⊎_elim, ◌≡◌, ◌*◌, ◌/◌, ◌≤◌, ◌<◌, ◌+◌, ℕ, ℤ, List, Option, refl, sym, subst, arith, inl, inr}
use Rattle.std.proofs.lemmas.List.Elements.{All-contains}
use Rattle.sled_codec.specs.History.{Message, History}
use Rattle.sled_codec.specs.Snapshots.{SnapshotModel, stable_place}
use Rattle.sled_codec.specs.WellFormed.{LieApart}
use Rattle.sled_store.specs.Device.{LogState, State, Content, LeavesLog, at_rest}
use Rattle.sled_store.proofs.LogFile.LogLemmas.{at_rest_left}
use Rattle.sled_store.proofs.Histories.Ascending.{apart_ascends}
use Rattle.sled_store.proofs.Histories.EarlierEntries.{entry_earlier}
use Rattle.sled_store.proofs.Histories.TableParts.{from_table}
use Rattle.sled_core.specs.Fits.{EndBelow}
use Rattle.sled_core.specs.Logged.{logged}
use Rattle.sled_core.specs.invariants.Recoverable.{Recoverable}
use Rattle.sled_core.specs.Recoverable.{NoHeaderOfZeros}
use Rattle.sled_core.specs.inside.Lasting.{LeavesRecovering}
use Rattle.sled_core.specs.inside.Recoverable.{IsMarkBelow, AreRecoverableSnapshots, AreRecoverableBlobs}
use Rattle.sled_core.specs.inside.Running.{BlobsFit, NamesFit}
use Rattle.sled_core.specs.Tail.{IsOrdering, tail_begins}
use Rattle.sled_core.proofs.Flush.Settled.{recoverable_less}
use Rattle.sled_core.proofs.Logged.Messages.{logged_apart, logged_below, logged_twice}
use Rattle.sled_core.proofs.Logged.Names.{snapshots_alike}
use Rattle.sled_core.proofs.Logged.Stands.{stands_alike}
use Rattle.sled_core.proofs.Reached.Recoverable.{reached_recoverable}
use Rattle.sled_core.proofs.Reached.StandsTo.{StandsTo}

-- The same segments are read from another snapshot that ends at the same place.
pub same_place : (sum : List ℕ → ℕ) (size : ℕ) (log : List ℕ) (H : History) (first other : SnapshotModel) (reach at A : ℕ) → stable_place other.stable ≡ stable_place first.stable → at ≡ reach → A ≡ reach
    → (is : StandsTo sum size log H reach first reach) → (on : StandsTo sum size log H A other at) × (on.scanned ≡ is.scanned)
same_place sum size log H first other reach at A same here all is = (
  record {
    ordering = is.ordering;
    numbers = subst (λ n. IsOrdering sum size log (n / size * size) is.ordering) (sym same) is.numbers;
    scanned = is.scanned;
    reads = is.reads;
    marks = is.marks;
    truth = is.truth;
    caps = is.caps;
    not_below = let low = is.not_below in omega (arith, low, same, all);
    passes = omega (arith, all, here);
    marks_below = λ s there. subst (λ n. IsMarkBelow size H n s.mark) (sym all) (is.marks_below s there);
    placed = is.placed;
    batched = is.batched;
    closed = λ b there low. let under = is.closed b there (omega (arith, low, all)) in omega (arith, under, all);
    from = is.from;
    from_low = let low = is.from_low in omega (arith, low, same);
    from_high = let high = is.from_high in omega (arith, high, all);
    tail_from = subst (λ n. is.from / size * size ≤ tail_begins size (n / size * size) is.ordering) (sym same) is.tail_from;
    gapless = λ z aligned low under.
        let found = is.gapless z aligned low (omega (arith, under, here)) in
        (found.0, found.1, found.2, ⊎_elim (λ far. inl (omega (arith, far, here))) (λ leads. inr leads) found.3);
    needed = λ cut low high. is.needed cut low (omega (arith, high, here));
  },
  refl,
)

-- where all of the history ends below a place, a table has no more above it
pub blobs_above : (sum : List ℕ → ℕ) (H : History) (reach cut : ℕ) → LieApart H.messages → EndBelow reach H.messages → reach ≤ cut → (blobs : ℤ → Option (List ℕ)) → AreRecoverableBlobs sum blobs H reach → AreRecoverableBlobs sum blobs H cut
blobs_above sum H reach cut apart below far blobs are = record {
  needed = λ page m there.
      let known = (from_table H cut page m there).0 in
      let under = (All-contains (λ (x : Message). (x.place < reach) × (x.place + x.size ≤ reach)) H.messages m below known).0 in
      are.needed page m (entry_earlier H (apart_ascends H.messages apart) reach cut page far m under there);
  named = are.named;
}

-- A content is recoverable whose log file stands up to a place at which the history has ended. File and snapshots have the history as the log has it.
pub stands_recoverable : (sum : List ℕ → ℕ) (size : ℕ) (left : Content) (H : History) (A f : ℕ) (first : SnapshotModel) (reach : ℕ) → 256 ≤ size → LieApart (logged H).messages → EndBelow reach (logged H).messages
    → StandsTo sum size left.log (logged H) reach first reach → A ≤ reach → AreRecoverableSnapshots sum size left.snapshots (logged H) f first → AreRecoverableBlobs sum left.blobs H reach → Recoverable sum size left H A f
unfolding Recoverable
stands_recoverable sum size left H A f first reach long apart below stands passes snapshots blobs =
    let lie : LieApart H.messages = logged_apart H apart in
    let log = reached_recoverable sum size left.log long H reach first reach (stands_alike (logged H) H (logged_twice H) sum size left.log reach first reach stands) (apart_ascends H.messages lie) in
    recoverable_less sum size left H A reach f passes
    (record {
      first = first;
      cut = log.0;
      snapshots = snapshots_alike (logged H) H (logged_twice H) sum size left.snapshots f first snapshots;
      log = log.2;
      blobs = blobs_above sum H reach log.0.0 lie (logged_below reach H below) log.1 left.blobs blobs;
    })

-- So it is with whatever a crash leaves of a settled log file that stands so.
pub settled_leaves : (sum : List ℕ → ℕ) (size : ℕ) (device : State) (log : List ℕ) (H : History) (A f : ℕ) (first : SnapshotModel) (reach : ℕ) → 256 ≤ size → LieApart (logged H).messages → EndBelow reach (logged H).messages → device.log ≡ at_rest log
    → (NoHeaderOfZeros sum → StandsTo sum size log (logged H) reach first reach) → A ≤ reach → NamesFit sum size device.snapshots (logged H) f first → BlobsFit sum device.blobs H reach → LeavesRecovering sum size H A f device
settled_leaves sum size device log H A f first reach long apart below settled stands passes names blobs left leaves own =
    let here : left.log ≡ log = at_rest_left log left.log (subst (λ (l : LogState). LeavesLog l left.log) settled leaves.log) in
    stands_recoverable sum size left H A f first reach long apart below (subst (λ (l : List ℕ). StandsTo sum size l (logged H) reach first reach) (sym here) (stands own.zeros)) passes
    (names left.snapshots leaves.snapshots own.snapshots) (blobs left.blobs leaves.blobs own.blobs)
