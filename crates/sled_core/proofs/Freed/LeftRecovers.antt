-- What a crash leaves of a log file while a call is under way reads as what it leaves of what is shown, but for segments that are gone. So it can be recovered
-- where that can, with the same cut.
use Rattle.std.proofs.Common.{◌≡◌, ◌*◌, ◌/◌, ◌≤◌, ℕ, ℤ, pos, List, Option, sym, subst, arith, inl, inr}
use Rattle.std.specs.List.{Contains}
use Rattle.sled_codec.specs.declared.serialization.message.MessageKind.{MessageKind}
use Rattle.sled_codec.specs.History.{History}
use Rattle.sled_codec.specs.Places.{part}
use Rattle.sled_codec.specs.Record.{IsHeader}
use Rattle.sled_codec.specs.Snapshots.{SnapshotModel}
use Rattle.sled_store.specs.Blobs.{IsBlob}
use Rattle.sled_store.specs.Device.{Content, Leaves, LeavesLog, LeavesName, LogState, NamesState, State, at_rest}
use Rattle.sled_store.specs.Foreign.{NoForeignLog, NoForeignNames}
use Rattle.sled_store.specs.SegmentStates.{Machine}
use Rattle.sled_store.specs.SnapshotFiles.{IsSnapshotFile}
use Rattle.sled_store.proofs.Names.OneBegin.{one_begin}
use Rattle.sled_store.proofs.Crashes.SettledLemmas.{log_read_left, sound_at_rest}
use Rattle.sled_store.proofs.LogFile.LogLemmas.{at_rest_left}
use Rattle.sled_core.specs.declared.iterator.Segment.{Segment}
use Rattle.sled_core.specs.Begun.{SegmentView}
use Rattle.sled_core.specs.Logged.{logged}
use Rattle.sled_core.specs.NoForeign.{NoForeign}
use Rattle.sled_core.specs.invariants.Recoverable.{Recoverable}
use Rattle.sled_core.specs.inside.Cleared.{cleared}
use Rattle.sled_core.specs.inside.FreeSlots.{HaveOwn}
use Rattle.sled_core.specs.inside.Hides.{Hides, IsGoneSegment, IsTrueReading, ReadsShown}
use Rattle.sled_core.specs.inside.Lasting.{LeavesRecovering}
use Rattle.sled_core.specs.inside.OwnLog.{ReadsPlaced}
use Rattle.sled_core.specs.inside.Recoverable.{AreRecoverableSnapshots, IsMarkOf, IsRecoverableLog}
use Rattle.sled_core.specs.inside.Running.{NamesFit}
use Rattle.sled_core.specs.Tail.{IsOrdering, least_place, tail_begins}
use Rattle.sled_core.proofs.Freed.Gone.{ReadsAs}
use Rattle.sled_core.proofs.Freed.GoneAlone.{HeadersOwnBelow, found_alone}
use Rattle.sled_core.proofs.Freed.NoHarm.{gone_do_no_harm}
use Rattle.sled_core.proofs.Freed.ReadsAs.{own_header, reads_as_shown}
use Rattle.sled_core.proofs.Logged.Stands.{mark_alike, nothing_behind_alike, of_history_alike}
use Rattle.sled_core.proofs.OwnLog.NoneForeign.{WasPlaced, none_foreign, was_placed}
use Rattle.sled_core.proofs.Tail.SegmentsFrom.{tail_stays}
use Rattle.sled_core.proofs.Torn.AlikeSlots.{slot_found}
use Rattle.sled_core.proofs.Torn.WrittenBeside.{found_moved}

-- each header that is shown in one file stands in another one
abbrev pub KeepsHeaders : (List ℕ → ℕ) → ℕ → List ℕ → List ℕ → Type 0
KeepsHeaders sum size file front =
    (k place : ℕ) (mark : ℤ) → IsHeader sum (part file (k * size) 20) (pos place) mark → part front (k * size) 20 ≡ part file (k * size) 20

-- A log file reads as another one, but for segments that are gone; in that each header that is shown stands, and each header in the file is own or that of a
-- segment that isn't below what is held.
pub record ReadsBy (sum : List ℕ → ℕ) (size : ℕ) (s : State) (file : List ℕ) (least base : ℕ) (H : History) (front left : List ℕ) : Type 0 where
  pub reads : ReadsAs sum size least H base front left
  pub stays : KeepsHeaders sum size file front
  pub headed : HeadersOwnBelow sum size s base left

-- Two histories of which the log has the same.
module _ (H R : History) (same : logged H ≡ logged R) (sum : List ℕ → ℕ) (size : ℕ) where
  reading_alike : (log : List ℕ) (s : Segment) → IsTrueReading sum size log H s → IsTrueReading sum size log R s
  reading_alike log s r = record {
    scan = r.scan;
    segment = r.segment;
    read = r.read;
    truth = λ x there. of_history_alike H R same sum size log x (r.truth x there);
    caps = nothing_behind_alike H R same size r.scan.segment.place r.scan.stop r.scan.why r.caps;
  }

  -- What is gone for the one is gone for the other,
  gone_alike : (log : List ℕ) (base : ℕ) (s : Segment) → IsGoneSegment sum size log H base s → IsGoneSegment sum size log R base s
  gone_alike log base s gone = record { below = gone.below; is_mark = mark_alike H R same s gone.is_mark; reading = reading_alike log s gone.reading }

  -- so a file reads as another one for both.
  reads_as_alike : (least base : ℕ) (shown left : List ℕ) → ReadsAs sum size least H base shown left → ReadsAs sum size least R base shown left
  reads_as_alike least base shown left reads = record {
    kept = reads.kept;
    scans = reads.scans;
    bytes = reads.bytes;
    others = λ s found. elim (reads.others s found) [ inl is ↦ inl is | inr gone ↦ inr (gone_alike left base s gone) ];
  }

-- a device with what is shown of its log file, at rest
abbrev pub shown_device : ℕ → Machine → List SegmentView → State → State
shown_device size m line s = record s { log = at_rest (cleared size m line s.log.bytes) }

module _ (sum : List ℕ → ℕ) (size : ℕ) (some : 256 ≤ size) (s : State) (m : Machine) (line : List SegmentView) (first : SnapshotModel) (base : ℕ) (H : History)
    (hides : Hides sum size s m line (least_place size first) base H) (reads : ReadsShown sum size m (cleared size m line s.log.bytes) s.log.bytes)
    (end : ℕ) (own : HaveOwn size end m) (file : List ℕ) (ordering : List Segment)
    (numbers : IsOrdering sum size file (least_place size first) ordering)
    (marks : (t : Segment) → Contains ordering t → IsMarkOf H t) (low : base ≤ tail_begins size (least_place size first) ordering)
    (R : History) (same : logged H ≡ logged R) where
  abbrev shown : List ℕ
  shown = cleared size m line s.log.bytes

  abbrev least : ℕ
  least = least_place size first

  -- So the file can be recovered where the other one can, with the same cut.
  pub left_recoverable : (front left : List ℕ) → ReadsBy sum size s file least base H front left → (A : ℕ) (cut : ℕ × Option ℕ)
      → IsRecoverableLog sum size front R A first cut → IsRecoverableLog sum size left R A first cut
  left_recoverable front left by A cut is =
      gone_do_no_harm sum size some front left R A first cut is base (reads_as_alike H R same sum size least base front left by.reads)
      (tail_stays size some least base ordering is.ordering (λ t there. (marks t there).below) (λ t there above. among t there) low)
      (λ t found gone. found_alone sum size (omega (arith, some)) s m line least base H hides reads end own left by.headed t found gone.below) where
        among : (t : Segment) → Contains ordering t → Contains is.ordering t
        among t there =
            let found = (numbers.found t).0 there in
            let here = slot_found sum size file least t found in
            let header = subst (λ n. IsHeader sum (part file n 20) (pos t.place) t.mark) here found.header in
            let stands = by.stays (t.slot / size) t.place t.mark header in
            (is.numbers.found t).1 (found_moved sum size file front least t (subst (λ n. part front n 20 ≡ part file n 20) (sym here) stands) found)

  -- Two states of the device with the same files under names, whose snapshots are those of the first one. Each log file that a crash leaves of the one, in
  -- which nothing is foreign, reads as one that it leaves of the other. So contents that it leaves can be recovered where it is so of the other.
  pub leaves_as_shown : (now other : State) → other.blobs ≡ now.blobs → other.snapshots ≡ now.snapshots → (K : History) (f : ℕ)
      → NamesFit sum size now.snapshots K f first
      → ((left : List ℕ) → LeavesLog now.log left → NoForeignLog sum size now.log now.placed left
      → (front : List ℕ) × LeavesLog other.log front × NoForeignLog sum size other.log other.placed front × ReadsBy sum size s file least base H front left)
      → (A g : ℕ) → LeavesRecovering sum size R A g other → LeavesRecovering sum size R A g now
  unfolding Recoverable
  leaves_as_shown now other blobs snapshots K f names as_other A g recovers left leaves own_left =
      let r = as_other left.log leaves.log own_left.log in
      let content : Content = record { log = r.0; blobs = left.blobs; snapshots = left.snapshots } in
      let may : Leaves other content = record {
        log = r.1;
        blobs = λ n. subst (λ (t : NamesState). LeavesName t n (left.blobs n)) (sym blobs) (leaves.blobs n);
        snapshots = λ n. subst (λ (t : NamesState). LeavesName t n (left.snapshots n)) (sym snapshots) (leaves.snapshots n);
      } in
      let none_foreign : NoForeign sum size other content = record {
        log = r.2;
        blobs = subst (λ (t : NamesState). NoForeignNames (λ bytes. (k : MessageKind) × (item : List ℕ) × IsBlob sum bytes k item) t left.blobs)
            (sym blobs) own_left.blobs;
        snapshots = subst (λ (t : NamesState). NoForeignNames (λ bytes. (x : SnapshotModel) × IsSnapshotFile sum bytes x) t left.snapshots)
            (sym snapshots) own_left.snapshots;
        zeros = own_left.zeros;
      } in
      let is = recovers content may none_foreign in
      let one : is.first ≡ first =
      one_begin sum left.snapshots is.first first is.snapshots.begins (names left.snapshots leaves.snapshots own_left.snapshots).begins in
      record {
        first = first;
        cut = is.cut;
        snapshots = subst (AreRecoverableSnapshots sum size left.snapshots R g) one is.snapshots;
        log = left_recoverable r.0 left.log r.3 A is.cut (subst (λ (x : SnapshotModel). IsRecoverableLog sum size r.0 R A x is.cut) one is.log);
        blobs = is.blobs;
      }

  -- So it is with the device at rest, where nothing is foreign in what is shown: contents that it leaves can be recovered where it is so of another one with
  -- the same files under names that has what is shown for its log file.
  pub rest_recovers : s.log ≡ at_rest s.log.bytes → KeepsHeaders sum size file shown → (other : State) → other.log ≡ at_rest shown → other.blobs ≡ s.blobs
      → other.snapshots ≡ s.snapshots → ((slot : ℕ) → WasPlaced sum size other.placed shown slot) → (K : History) (f : ℕ)
      → NamesFit sum size s.snapshots K f first
      → (A g : ℕ) → LeavesRecovering sum size R A g other → LeavesRecovering sum size R A g s
  rest_recovers rest stays other log blobs snapshots own_shown K f names = leaves_as_shown s other blobs snapshots K f names (λ left leaves own_left.
      let alone : left ≡ s.log.bytes = at_rest_left s.log.bytes left (subst (λ (l : LogState). LeavesLog l left) rest leaves) in
      let placed : ReadsPlaced sum size s =
      subst (λ (l : List ℕ). (k : ℕ) → WasPlaced sum size s.placed l k) alone (was_placed sum size s.placed left s.log own_left) in (
        shown,
        subst (λ (l : LogState). LeavesLog l shown) (sym log) (log_read_left (at_rest shown) (sound_at_rest shown)),
        subst (λ (l : LogState). NoForeignLog sum size l other.placed shown) (sym log) (none_foreign sum size other.placed shown own_shown),
        record {
          reads = subst (ReadsAs sum size least H base shown) (sym alone) (reads_as_shown sum size s m line least base H hides reads placed);
          stays = stays;
          headed = subst (HeadersOwnBelow sum size s base) (sym alone) (λ k p mark is. inl (own_header sum size s s.log.bytes placed k p mark is));
        },
      ))
