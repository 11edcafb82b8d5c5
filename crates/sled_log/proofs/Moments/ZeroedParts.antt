-- What a crash leaves of a log file where zeros were written to a part of one slot behind its header: the same segments are found, those of other slots are read as before, and what is met is of the history.
use Rattle.std.proofs.Common.{⊎_elim, ◌≡◌, ◌≢◌, ◌⊎◌, ◌+◌, ◌*◌, ◌/◌, ◌%◌, ◌≤◌, ℕ, ℤ, pos, List, [], ◌∷◌, length, replicate, sym, subst, arith, inl, inr}
use Rattle.std.specs.List.{Contains}
use Rattle.std.proofs.lemmas.Bool.{cases_eq, cases_order}
use Rattle.sled_codec.specs.History.{History}
use Rattle.sled_codec.specs.Places.{part}
use Rattle.sled_codec.specs.Record.{IsHeader}
use Rattle.sled_store.specs.Device.{LeavesLog, Placement}
use Rattle.sled_store.specs.Foreign.{NoForeignLog}
use Rattle.sled_store.specs.Readers.{ReadsTo, at_start}
use Rattle.sled_store.proofs.Segments.Elements.{in_first, in_rest, in_cases, in_nothing}
use Rattle.sled_core.specs.declared.iterator.Segment.{Segment}
use Rattle.sled_core.specs.declared.iterator.scan.ScannedRecord.{ScannedRecord}
use Rattle.sled_core.specs.Recoverable.{NoHeaderOfZeros}
use Rattle.sled_core.specs.inside.Recoverable.{IsOfHistory}
use Rattle.sled_core.specs.inside.Scan.{IsFoundSegment}
use Rattle.sled_core.specs.Scan.{IsMet, IsPath, IsScan}
use Rattle.sled_core.proofs.Read.FoundLemmas.{found_there}
use Rattle.sled_core.proofs.Torn.TornLemmas.{after_write}
use Rattle.sled_core.proofs.Torn.TornRecords.{says_plain}
use Rattle.sled_core.proofs.Torn.ZeroedSlots.{kept, header_stood, same, reached_behind}
use Rattle.sled_core.proofs.Torn.ZeroedScans.{scan_same}
use Rattle.sled_log.specs.Recovery.{IsOrdering, Scanned, IsScanned}
use Rattle.sled_core.proofs.Tail.Moved.{slot_index, of_left}
use Rattle.sled_core.proofs.Tail.Multiples.{apart}

-- The zeros lie in one slot, behind its header.
module _ (sum : List ℕ → ℕ) (size : ℕ) (old : List ℕ) (at count : ℕ) (now left : List ℕ) (no_more : length now ≤ length (replicate {A = ℕ} count 0)) (leaves : LeavesLog (after_write old at (replicate count 0) now) left)
    (some : 256 ≤ size) (slot : ℕ) (slot_at : slot % size ≡ 0) (begins : slot + 20 ≤ at) (ends : at + count ≤ slot + size) where
  -- other slots lie apart from them
  pub other_slot : (a : ℕ) → a % size ≡ 0 → a ≢ slot → (a + size ≤ at) ⊎ (at + count ≤ a)
  other_slot a aligned other = elim (cases_order a slot) [
    | inl same ↦ absurd (other same)
    | inr (inl lower) ↦ (let far = apart size (omega (arith, some)) a slot aligned slot_at lower in inl (omega (arith, far, begins)))
    | inr (inr higher) ↦ (let far = apart size (omega (arith, some)) slot a slot_at aligned higher in inr (omega (arith, far, ends)))
  ]

  pub header_apart : (a : ℕ) → a % size ≡ 0 → (a + 20 ≤ at) ⊎ (at + count ≤ a)
  header_apart a aligned = elim (cases_eq a slot) [
    | inl same ↦ inl (omega (arith, same, begins))
    | inr other ↦ ⊎_elim (λ before. inl (omega (arith, before, some))) (λ past. inr past) (other_slot a aligned other)
  ]

  -- Headers stand.
  pub found_stays : (least : ℕ) (s : Segment) → IsFoundSegment sum size old least s → IsFoundSegment sum size left least s
  found_stays least s is =
      let alike = kept sum size old at count now left no_more leaves s.slot 20 (found_there sum size old least s is) (header_apart s.slot is.slot) in
      record { slot = is.slot; header = subst (λ (l : List ℕ). IsHeader sum l (pos s.place) s.mark) (sym alike) is.header; not_below = is.not_below }

-- Only what the log wrote passes as its own.
module _ (sum : List ℕ → ℕ) (size : ℕ) (old : List ℕ) (at count : ℕ) (now left : List ℕ) (no_more : length now ≤ length (replicate {A = ℕ} count 0)) (leaves : LeavesLog (after_write old at (replicate count 0) now) left)
    {placed : List Placement} (only_own : NoForeignLog sum size (after_write old at (replicate count 0) now) placed left) (none : NoHeaderOfZeros sum) where
  -- A segment that is found was there before.
  pub found_before : (least : ℕ) (s : Segment) → IsFoundSegment sum size left least s → IsFoundSegment sum size old least s
  found_before least s is =
      let k : ℕ = s.slot / size in
      let here : s.slot ≡ k * size = slot_index size s.slot is.slot in
      let header = subst (λ n. IsHeader sum (part left n 20) (pos s.place) s.mark) here is.header in
      let alike = header_stood sum size old at count now left no_more leaves only_own none k (pos s.place) s.mark header in
      let before = subst (λ (l : List ℕ). IsHeader sum l (pos s.place) s.mark) (sym alike) header in
      record { slot = is.slot; header = subst (λ n. IsHeader sum (part old n 20) (pos s.place) s.mark) (sym here) before; not_below = is.not_below }

  -- What is met from where a reader comes to is of the history.
  module _ (H : History) (k place : ℕ) (mark : ℤ) (header : IsHeader sum (part left (k * size) 20) (pos place) mark) where
    path_truth : (from : ℕ) → ReadsTo sum size (place / size) (part left (k * size) size) 20 from → (ms : List ScannedRecord) (next : ℕ) → IsPath sum size left (k * size) place from ms next
        → ((x : ScannedRecord) → Contains ms x → IsOfHistory sum size old H x) → (x : ScannedRecord) → Contains ms x → IsOfHistory sum size left H x
    unfolding IsMet
    path_truth from comes [] next path truth x there = absurd (in_nothing x there)
    path_truth from comes (m ∷ ms) next path truth x there =
        let room = path.0 in
        let met = path.2 in
        let long = met.2.in_file in
        let alike = same sum size old at count now left no_more leaves only_own k place mark header from comes room met.0 met.1 m.len met.2 in
        let behind = reached_behind sum size old at count now left no_more leaves only_own k place mark header from comes room met.0 met.1 m.len met.2 (says_plain met.0 met.1 (k * size + from) m.what met.3) in
        ⊎_elim
        (λ is. subst (IsOfHistory sum size left H) is (of_left sum size old left H (k * size + from) (place / size) m alike long met (truth m (in_first m ms))))
        (λ later. path_truth (from + m.len) behind ms next path.3 (λ y at_y. truth y (in_rest m y ms at_y)) x later)
        (in_cases m x ms there)

  pub scan_truth : (H : History) (least : ℕ) (t : Scanned) → IsFoundSegment sum size left least t.segment → IsScanned sum size left t → ((x : ScannedRecord) → Contains t.met x → IsOfHistory sum size old H x)
      → (x : ScannedRecord) → Contains t.met x → IsOfHistory sum size left H x
  unfolding IsScan
  scan_truth H least t found scan truth =
      let k : ℕ = t.segment.slot / size in
      let here : t.segment.slot ≡ k * size = slot_index size t.segment.slot found.slot in
      let header = subst (λ n. IsHeader sum (part left n 20) (pos t.segment.place) t.segment.mark) here found.header in
      let path = subst (λ n. IsPath sum size left n t.segment.place 20 t.met t.stop) here scan.0 in
      path_truth H k t.segment.place t.segment.mark header 20 at_start t.met t.stop path truth

  module _ (some : 256 ≤ size) (slot : ℕ) (slot_at : slot % size ≡ 0) (begins : slot + 20 ≤ at) (ends : at + count ≤ slot + size) where
    pub ordering_stays : (least : ℕ) (ss : List Segment) → IsOrdering sum size old least ss → IsOrdering sum size left least ss
    ordering_stays least ss is = record {
      ascending = is.ascending;
      found = λ s. (λ there. found_stays sum size old at count now left no_more leaves some slot slot_at begins ends least s ((is.found s).0 there), λ has. (is.found s).1 (found_before least s has));
      placed = is.placed;
    }

    -- Other slots are read as before.
    pub other_scan : (least : ℕ) (t : Scanned) → IsFoundSegment sum size old least t.segment → t.segment.slot ≢ slot → t.stop ≤ size → IsScanned sum size old t → IsScanned sum size left t
    other_scan least t found other within scan =
        let k : ℕ = t.segment.slot / size in
        let here : t.segment.slot ≡ k * size = slot_index size t.segment.slot found.slot in
        let stands = found_stays sum size old at count now left no_more leaves some slot slot_at begins ends least t.segment found in
        let header = subst (λ n. IsHeader sum (part left n 20) (pos t.segment.place) t.segment.mark) here stands.header in
        let beside = subst (λ n. (n + size ≤ at) ⊎ (at + count ≤ n)) here (other_slot sum size old at count now left no_more leaves some slot slot_at begins ends t.segment.slot found.slot other) in
        let before = subst (λ n. IsScan sum size old n t.segment.place t.met t.stop t.why) here scan in
        let after = scan_same sum size old at count now left no_more leaves only_own k t.segment.place t.segment.mark header beside t.met t.stop t.why within before in
        subst (λ n. IsScan sum size left n t.segment.place t.met t.stop t.why) (sym here) after
