-- The segment in a slot of a log file, as an iterator reads it: its header is there, all that is met in it up to the iterator's end is of the history, and each
-- message of it below that is met.
use Rattle.std.proofs.Common.{◌≡◌, ◌≢◌, ◌⊎◌, ◌∙◌, ◌+◌, ◌*◌, ◌/◌, ◌<◌, ◌≤◌, ℕ, List, [], ◌∷◌, sym, subst, arith, inl, inr}
use Rattle.std.specs.List.{Contains}
use Rattle.sled_codec.specs.History.{Message, History}
use Rattle.sled_codec.specs.Snapshots.{SnapshotModel}
use Rattle.sled_store.proofs.Histories.Ascending.{Ascends}
use Rattle.sled_store.proofs.Segments.Elements.{in_cases, in_first, in_nothing, in_rest}
use Rattle.sled_core.specs.declared.iterator.Segment.{Segment}
use Rattle.sled_core.specs.declared.iterator.scan.ScannedRecord.{ScannedRecord}
use Rattle.sled_core.specs.declared.iterator.scan.ScanEnd.{ScanEnd}
use Rattle.sled_core.specs.declared.iterator.scan.ScanEnd.TheVariants.{Broken}
use Rattle.sled_core.specs.inside.Reached.{StandsTo}
use Rattle.sled_core.specs.inside.Recoverable.{MeetsMessage, IsOfHistory}
use Rattle.sled_core.specs.inside.Slots.{IsWholeSegment}
use Rattle.sled_core.specs.Scan.{IsEnd, IsPath, IsScan}
use Rattle.sled_core.specs.Tail.{Scanned}
use Rattle.sled_core.proofs.Freed.AlikeRecords.{met_alike, path_alike}
use Rattle.sled_core.proofs.Reached.WholeSegments.{met_in, t_known}
use Rattle.sled_core.proofs.Tail.Moved.{of_left}
use Rattle.sled_core.proofs.Tail.OneReading.{met_there}
use Rattle.sled_core.proofs.Torn.WrittenRecords.{AlikeAlong}

-- What is read of the segment at a place, in a slot. What stands behind the iterator's end doesn't matter.
pub record IsReadHere (sum : List ℕ → ℕ) (size : ℕ) (log : List ℕ) (H : History) (end slot place : ℕ) : Type 0 where
  pub met : List ScannedRecord
  pub stop : ℕ
  pub path : IsPath sum size log slot place 20 met stop
  -- all that is met is of the history
  pub truth : (x : ScannedRecord) → Contains met x → IsOfHistory sum size log H x
  -- it ends there, and leads on, or is read up to the iterator's end
  pub goes : ((why : ScanEnd) × IsEnd sum size log slot place stop why × (why ≢ Broken)) ⊎ (end ≤ place + stop)
  -- each message of it below the end is met
  pub has : (n : Message) → Contains H.messages n → n.place / size * size ≡ place → n.place < end → (x : ScannedRecord) × Contains met x × MeetsMessage x n

-- One that is read to its end, with each message of it reached, is read so.
pub read_whole : (sum : List ℕ → ℕ) (size : ℕ) (log : List ℕ) (H : History) (end slot place : ℕ) → IsWholeSegment sum size log H slot place
    → IsReadHere sum size log H end slot place
unfolding IsScan
read_whole sum size log H end slot place whole =
    let on = whole.read_on in
    let t : Scanned = on.scan in
    let here : IsScan sum size log slot place t.met t.stop t.why =
    subst (λ (u : Segment). IsScan sum size log u.slot u.place t.met t.stop t.why) on.of on.read in
    record {
      met = t.met;
      stop = t.stop;
      path = here.0;
      truth = on.truth;
      goes = inl (t.why, here.1, on.goes);
      has = λ n there own under.
          let r = whole.reached n there own in
          let place_is = r.meets.place in
          let lies = r.place in
          let there_too = met_there sum size log slot place r.before r.at r.met t.met t.stop t.why r.path r.room (place_is ∙ lies) r.is_met here in
          (r.met, there_too, r.meets);
    }

-- What is met in one file is of the history in another one that has the same bytes there.
truth_alike : (sum : List ℕ → ℕ) (size : ℕ) (old left : List ℕ) (H : History) (slot place from : ℕ) (ms : List ScannedRecord) (next : ℕ)
    → IsPath sum size old slot place from ms next → AlikeAlong old left slot from ms → ((x : ScannedRecord) → Contains ms x → IsOfHistory sum size old H x)
    → (x : ScannedRecord) → Contains ms x → IsOfHistory sum size left H x
truth_alike sum size old left H slot place from [] next path alike truth x there = absurd (in_nothing x there)
truth_alike sum size old left H slot place from (m ∷ ms) next path alike truth x there = elim (in_cases m x ms there) [
  | inl same ↦ subst (IsOfHistory sum size left H) same
      (of_left sum size old left H (slot + from) (place / size) m (sym alike.0) alike.1
      (met_alike sum size old left (slot + from) (place / size) m alike.0 alike.1 path.2) (truth m (in_first m ms)))
  | inr later ↦
      truth_alike sum size old left H slot place (from + m.len) ms next path.3 alike.2 (λ y also. truth y (in_rest m y ms also)) x later
]

-- One that a log has read up to the iterator's end, in what is shown of its file, is read so in a file that has the same of what is met.
pub read_far : (sum : List ℕ → ℕ) (size : ℕ) (shown log : List ℕ) → 256 ≤ size → (H : History) → Ascends H.messages → (A : ℕ) (first : SnapshotModel)
    (reach : ℕ) (stands : StandsTo sum size shown H A first reach) (end k z : ℕ) (t : Scanned) → Contains stands.scanned t → t.segment.slot ≡ k * size
    → t.segment.place ≡ z → AlikeAlong shown log (k * size) 20 t.met → end ≤ z + t.stop → IsReadHere sum size log H end (k * size) z
unfolding IsScan
read_far sum size shown log some H ordered A first reach stands end k z t known slot at alike far =
    let scan = (t_known sum size shown some H ordered A first reach stands t known).1 in
    let path : IsPath sum size shown (k * size) z 20 t.met t.stop =
    subst (λ (a : ℕ). IsPath sum size shown a z 20 t.met t.stop) slot
    (subst (λ p. IsPath sum size shown t.segment.slot p 20 t.met t.stop) at scan.0) in
    record {
      met = t.met;
      stop = t.stop;
      path = path_alike sum size shown log (k * size) z 20 t.met t.stop path alike;
      truth = truth_alike sum size shown log H (k * size) z 20 t.met t.stop path alike (λ x there. stands.truth t x known there);
      goes = inr far;
      has = λ n there own under.
          met_in sum size shown some H ordered A first reach stands t known n there (own ∙ sym at) (omega (arith, under, far, at));
    }
