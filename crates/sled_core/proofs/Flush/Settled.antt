-- A log file that stands up to a place can be recovered; where it is at rest, so can each content that a crash leaves.
use Rattle.std.proofs.Common.{◌≡◌, ◌≤◌, ◌∙◌, ℕ, ℤ, List, Option, sym, ap, subst, arith, inl, inr}
use Rattle.std.specs.List.{Contains}
use Rattle.std.proofs.lemmas.Bool.{cases_lt}
use Rattle.sled_codec.specs.declared.result.DiskPtr.{DiskPtr}
use Rattle.sled_codec.specs.declared.result.DiskPtr.TheVariants.{Inline, Blob}
use Rattle.sled_codec.specs.History.{Message, History}
use Rattle.sled_codec.specs.Snapshots.{SnapshotModel}
use Rattle.sled_store.specs.Device.{Content, LogState, NamesState, State, LeavesLog, LeavesName, at_rest}
use Rattle.sled_store.proofs.Histories.Ascending.{Ascends}
use Rattle.sled_store.proofs.Histories.EarlierEntries.{entry_earlier}
use Rattle.sled_store.proofs.LogFile.LogLemmas.{at_rest_left}
use Rattle.sled_store.proofs.Segments.TableEntries.{from_table}
use Rattle.sled_core.specs.Logged.{logged}
use Rattle.sled_core.specs.inside.Recoverable.{AreRecoverableSnapshots, AreRecoverableBlobs, HasItem}
use Rattle.sled_core.specs.Recoverable.{NoHeaderOfZeros}
use Rattle.sled_core.specs.inside.Lasting.{LeavesRecovering}
use Rattle.sled_core.specs.invariants.Recoverable.{Recoverable}
use Rattle.sled_core.specs.inside.Running.{NamesFit, BlobsFit, KeepsEntries, KeepsItems}
use Rattle.sled_core.specs.Running.{KeepsItem}
use Rattle.sled_core.proofs.Logged.Messages.{logged_ascends, logged_twice}
use Rattle.sled_core.proofs.Logged.Names.{snapshots_alike}
use Rattle.sled_core.proofs.Logged.Stands.{stands_alike}
use Rattle.sled_core.proofs.Reached.Recoverable.{reached_recoverable}
use Rattle.sled_core.proofs.Reached.StandsTo.{StandsTo}

-- each message of a history from a place on has its item in its record, or in a blob that is there
abbrev pub HaveItems : (List ℕ → ℕ) → (ℤ → Option (List ℕ)) → History → ℕ → Type 0
HaveItems sum blobs H place = (m : Message) → Contains H.messages m → place ≤ m.place → HasItem sum blobs m m.pointer

-- what a crash leaves has the items that it can't take
pub left_items : (sum : List ℕ → ℕ) (blobs : NamesState) (left : ℤ → Option (List ℕ)) (H : History) (place : ℕ) → ((n : ℤ) → LeavesName blobs n (left n)) → KeepsItems sum blobs H place → HaveItems sum left H place
left_items sum blobs left H place leaves keeps m there above = by m.pointer (keeps m there above) where
  by : (p : DiskPtr) → KeepsItem sum blobs m p → HasItem sum left m p
  by (Inline lid) its = tt
  by (Blob lid at) its = its (left at) (leaves at)

-- So each blob that is needed at a higher place is there.
pub blobs_above : (sum : List ℕ → ℕ) (blobs : ℤ → Option (List ℕ)) (H : History) (low high : ℕ) → Ascends H.messages → low ≤ high → HaveItems sum blobs H low → AreRecoverableBlobs sum blobs H low → AreRecoverableBlobs sum blobs H high
blobs_above sum blobs H low high ordered more items are = record {
  needed = λ page m entry. elim (cases_lt m.place low) [
    | inl lower ↦ are.needed page m (entry_earlier H ordered low high page more m lower entry)
    | inr above ↦ items m (from_table H high page m entry).0 above
  ];
  named = are.named;
}

-- whatever blobs a crash leaves
pub blobs_higher : (sum : List ℕ → ℕ) (blobs : NamesState) (H : History) (low high : ℕ) → Ascends (logged H).messages → low ≤ high → KeepsItems sum blobs H low → BlobsFit sum blobs H low → BlobsFit sum blobs H high
blobs_higher sum blobs H low high ordered more stored fit = λ left leaves only_own. blobs_above sum left H low high (logged_ascends H ordered) more (left_items sum blobs left H low leaves stored) (fit left leaves only_own)

-- So no crash takes the item of an entry of the table of a higher place.
pub entries_higher : (sum : List ℕ → ℕ) (blobs : NamesState) (H : History) (low high : ℕ) → Ascends (logged H).messages → low ≤ high → KeepsItems sum blobs H low → KeepsEntries sum blobs H low → KeepsEntries sum blobs H high
entries_higher sum blobs H low high ordered more stored keeps page m entry = elim (cases_lt m.place low) [
  | inl lower ↦ keeps page m (entry_earlier H (logged_ascends H ordered) low high page more m lower entry)
  | inr above ↦ stored m (from_table H high page m entry).0 above
]

-- A content whose log file stands up to a place can be recovered, where its snapshots can and its blobs can for the stable place. File and snapshots have the history as the log has it, which is turned here to the history itself.
pub stands_recoverable : (sum : List ℕ → ℕ) (size : ℕ) → 256 ≤ size → (content : Content) (H : History) (A f : ℕ) (first : SnapshotModel) (reach : ℕ) → Ascends (logged H).messages → HaveItems sum content.blobs H A
    → AreRecoverableSnapshots sum size content.snapshots (logged H) f first → AreRecoverableBlobs sum content.blobs H A → StandsTo sum size content.log (logged H) A first reach → Recoverable sum size content H A f
unfolding Recoverable
stands_recoverable sum size some content H A f first reach ordered items snapshots blobs stands =
    let ascends : Ascends H.messages = logged_ascends H ordered in
    let reached = reached_recoverable sum size content.log some H A first reach (stands_alike (logged H) H (logged_twice H) sum size content.log A first reach stands) ascends in
    record {
      first = first;
      cut = reached.0;
      snapshots = snapshots_alike (logged H) H (logged_twice H) sum size content.snapshots f first snapshots;
      log = reached.2;
      blobs = blobs_above sum content.blobs H A reached.0.0 ascends reached.1 items blobs;
    }

-- what is at rest is so with the bytes that are read
pub rests : (device : LogState) (log : List ℕ) → device ≡ at_rest log → device ≡ at_rest device.bytes
rests device log is = is ∙ sym (ap (λ (s : LogState). at_rest s.bytes) is)

-- A device at rest whose log file stands up to a place leaves only contents that can be recovered.
pub settled_recoverable : (sum : List ℕ → ℕ) (size : ℕ) → 256 ≤ size → (device : State) (H : History) (A f : ℕ) (first : SnapshotModel) (reach : ℕ) → Ascends (logged H).messages → KeepsItems sum device.blobs H A → device.log ≡ at_rest device.log.bytes
    → NamesFit sum size device.snapshots (logged H) f first → BlobsFit sum device.blobs H A → (NoHeaderOfZeros sum → StandsTo sum size device.log.bytes (logged H) A first reach) → LeavesRecovering sum size H A f device
settled_recoverable sum size some device H A f first reach ordered stored rest names blobs stands = λ left leaves only_own.
    let same : left.log ≡ device.log.bytes = at_rest_left device.log.bytes left.log (subst (λ (s : LogState). LeavesLog s left.log) rest leaves.log) in
    stands_recoverable sum size some left H A f first reach ordered (left_items sum device.blobs left.blobs H A leaves.blobs stored) (names left.snapshots leaves.snapshots only_own.snapshots) (blobs left.blobs leaves.blobs only_own.blobs)
    (subst (λ (l : List ℕ). StandsTo sum size l (logged H) A first reach) (sym same) (stands only_own.zeros))

-- What can be recovered can be with less counted as acknowledged.
pub recoverable_less : (sum : List ℕ → ℕ) (size : ℕ) (content : Content) (H : History) (A B f : ℕ) → A ≤ B → Recoverable sum size content H B f → Recoverable sum size content H A f
unfolding Recoverable
recoverable_less sum size content H A B f le is =
    let log = is.log in
    let passed = log.passes in
    record {
      first = is.first;
      cut = is.cut;
      snapshots = is.snapshots;
      log = record {
        ordering = log.ordering;
        numbers = log.numbers;
        scanned = log.scanned;
        reads = log.reads;
        tail = log.tail;
        is_tail = log.is_tail;
        marks = log.marks;
        truth = log.truth;
        caps = log.caps;
        tail_there = log.tail_there;
        is_cut = log.is_cut;
        not_below = log.not_below;
        passes = omega (arith, passed, le);
        marks_below = log.marks_below;
        placed = log.placed;
        batched = log.batched;
        needed = log.needed;
      };
      blobs = is.blobs;
    }

pub leaves_less : (sum : List ℕ → ℕ) (size : ℕ) (H : History) (A B f : ℕ) (device : State) → A ≤ B → LeavesRecovering sum size H B f device → LeavesRecovering sum size H A f device
leaves_less sum size H A B f device le leaves = λ left may only_own. recoverable_less sum size left H A B f le (leaves left may only_own)
