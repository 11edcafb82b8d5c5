-- What a write to one slot leaves apart from it is of the history as before, in other slots and in its own below the write, and the messages that a reader
-- comes to there are reached.
use Rattle.std.proofs.Common.{◌≡◌, ◌≢◌, ◌⊎◌, ◌∙◌, ◌+◌, ◌*◌, ◌/◌, ◌%◌, ◌≤◌, ℕ, pos, min, List, [], ◌∷◌, length, refl, sym, ap, subst, arith, inl, inr}
use Rattle.std.specs.List.{Contains}
use Rattle.std.proofs.Math.Nat.{mul-mod_left}
use Rattle.std.proofs.lemmas.Bool.{cases_order}
use Rattle.sled_codec.specs.declared.result.DiskPtr.{DiskPtr}
use Rattle.sled_codec.specs.declared.result.DiskPtr.TheVariants.{Inline, Blob}
use Rattle.sled_codec.specs.History.{Message, History}
use Rattle.sled_codec.specs.Places.{part}
use Rattle.sled_codec.specs.Pointers.{lid_of}
use Rattle.sled_codec.specs.Record.{IsHeader}
use Rattle.sled_store.specs.Device.{LeavesLog, Placement}
use Rattle.sled_store.specs.Foreign.{NoForeignLog}
use Rattle.sled_store.proofs.Segments.Elements.{in_first, in_rest, in_cases, in_nothing}
use Rattle.sled_core.specs.declared.iterator.Segment.{Segment}
use Rattle.sled_core.specs.declared.iterator.scan.ScannedRecord.{ScannedRecord}
use Rattle.sled_core.specs.inside.Recoverable.{NothingBehind, StandsInline, IsOfHistory, IsReachedIn, IsReadOn, IsSegmentOf}
use Rattle.sled_core.specs.inside.Scan.{IsFoundSegment}
use Rattle.sled_core.specs.Scan.{IsMet, IsPath, IsScan}
use Rattle.sled_core.proofs.Read.ScanLemmas.{met_fits, aligned_offset}
use Rattle.sled_core.proofs.Torn.TornLemmas.{after_write, left_grows, part_left}
use Rattle.sled_core.proofs.Torn.WrittenParts.{in_segment, path_rises, path_stays}
use Rattle.sled_core.proofs.Torn.WrittenRecords.{AlikeAlong}
use Rattle.sled_core.proofs.Torn.WrittenBeside as other_slots
use Rattle.sled_core.specs.Tail.{Scanned, IsScanned}
use Rattle.sled_core.proofs.Tail.Multiples.{apart}
use Rattle.sled_core.proofs.Tail.Moved.{slot_index, message_moved, of_left}
use Rattle.sled_core.specs.inside.Hides.{IsTrueReading}

-- In other slots than this one a file has the segments that another one has, and all is met in them as there.
pub record IsSameBeside (sum : List ℕ → ℕ) (size : ℕ) (old left : List ℕ) (slot : ℕ) : Type 0 where
  pub found : (least : ℕ) (s : Segment) → s.slot ≢ slot → IsFoundSegment sum size left least s → IsFoundSegment sum size old least s
  pub scans : (least : ℕ) (t : Scanned) → IsFoundSegment sum size old least t.segment → t.segment.slot ≢ slot → IsScanned sum size old t
      → IsScanned sum size left t

-- Records that have the bytes that they have in another file are of the history as there.
pub truth_alike : (sum : List ℕ → ℕ) (size : ℕ) (old log : List ℕ) (H : History) (slot place from : ℕ) (ms : List ScannedRecord) (next : ℕ)
    → AlikeAlong old log slot from ms → IsPath sum size log slot place from ms next
    → ((x : ScannedRecord) → Contains ms x → IsOfHistory sum size old H x) → (x : ScannedRecord) → Contains ms x → IsOfHistory sum size log H x
truth_alike sum size old log H slot place from [] next alike path truth x there = absurd (in_nothing x there)
truth_alike sum size old log H slot place from (m ∷ ms) next alike path truth x there = elim (in_cases m x ms there) [
  | inl same ↦ subst (IsOfHistory sum size log H) same
      (of_left sum size old log H (slot + from) (place / size) m (sym alike.0) alike.1 path.2 (truth m (in_first m ms)))
  | inr later ↦ truth_alike sum size old log H slot place (from + m.len) ms next alike.2 path.3 (λ y at_y. truth y (in_rest m y ms at_y)) x later
]

module _ (sum : List ℕ → ℕ) (size : ℕ) (some : 256 ≤ size) (old : List ℕ) (slot from : ℕ) (asked now left : List ℕ) (inside : from + length asked ≤ size)
    (no_more : length now ≤ length asked)
    (leaves : LeavesLog (after_write old (slot * size + from) asked now) left) where
  abbrev pub at : ℕ
  at = slot * size + from

  -- What is met apart from the write has the bytes that it had.
  pub alike_apart : (a place : ℕ) → a % size ≡ 0 → (here : ℕ) (ms : List ScannedRecord) (next : ℕ) → (a + min next size ≤ at) ⊎ (at + length asked ≤ a)
      → IsPath sum size old a place here ms next → AlikeAlong old left a here ms
  unfolding IsMet
  alike_apart a place aligned here [] next beside path = tt
  alike_apart a place aligned here (m ∷ ms) next beside (room, at_place, (h, body, stands, says), path) =
      let ends = path_rises sum size old a place (here + m.len) ms next path in
      let within = in_segment sum size old a aligned here (place / size) h body m.len (omega (arith, room)) stands in
      let there = stands.in_file in
      let grown = left_grows old at asked now left no_more leaves in
      let apart_here : (a + here + m.len ≤ at) ⊎ (at + length asked ≤ a + here) =
      elim beside [ inl before ↦ inl (omega (arith, before, ends, within)) | inr past ↦ inr (omega (arith, past)) ] in (
        part_left old at asked now left no_more leaves (a + here) m.len there apart_here,
        omega (arith, there, grown),
        alike_apart a place aligned (here + m.len) ms next beside path,
      )

  -- other slots lie apart from it
  pub beside : (a : ℕ) → a % size ≡ 0 → a ≢ slot * size → (a + size ≤ at) ⊎ (at + length asked ≤ a)
  beside a aligned other = elim (cases_order a (slot * size)) [
    | inl same ↦ absurd (other same)
    | inr (inl lower) ↦ (let far = apart size (omega (arith, some)) a (slot * size) aligned (mul-mod_left slot size) lower in inl (omega (arith, far)))
    | inr (inr higher) ↦ (
        let far = apart size (omega (arith, some)) (slot * size) a (mul-mod_left slot size) aligned higher in inr (omega (arith, far, inside)))
  ]

  -- and have the bytes that they had
  pub bytes_beside : (a : ℕ) → a % size ≡ 0 → a ≢ slot * size → (lid len : ℕ) → a ≤ lid → lid + len ≤ a + size → lid + len ≤ length old
      → part left lid len ≡ part old lid len
  bytes_beside a aligned other lid len low high there =
      let apart_here : (lid + len ≤ at) ⊎ (at + length asked ≤ lid) =
      elim (beside a aligned other) [ inl before ↦ inl (omega (arith, before, high)) | inr past ↦ inr (omega (arith, past, low)) ] in
      part_left old at asked now left no_more leaves lid len there apart_here

  -- The messages that a reader comes to.

  module _ (s : Segment) (aligned : s.slot % size ≡ 0) (n : Message) (r : IsReachedIn sum size old s n) where
    -- one lies within its slot
    pub reached_inside : r.at + r.met.len ≤ size
    reached_inside =
        let room = r.room in
        let fits = (met_fits sum size old (s.slot + r.at) (s.place / size) r.met r.is_met).1 in
        let offset = aligned_offset s.slot r.at size aligned (omega (arith, room)) in
        omega (arith, fits, offset)

    module _ (lies : (s.slot + min (r.at + r.met.len) size ≤ at) ⊎ (at + length asked ≤ s.slot)) where
      pub reached_left : IsReachedIn sum size left s n
      reached_left =
          let before : (s.slot + min r.at size ≤ at) ⊎ (at + length asked ≤ s.slot) = elim lies [ inl low ↦ inl (omega (arith, low)) | inr past ↦ inr past ] in
          let one : IsPath sum size old s.slot s.place r.at (r.met ∷ []) (r.at + r.met.len) = (r.room, r.meets.place ∙ r.place, r.is_met, refl) in
          record {
            before = r.before;
            at = r.at;
            path = path_stays sum size old at asked now left no_more leaves s.slot s.place aligned 20 r.before r.at before r.path;
            room = r.room;
            place = r.place;
            lid = r.lid;
            met = r.met;
            is_met = (path_stays sum size old at asked now left no_more leaves s.slot s.place aligned r.at (r.met ∷ []) (r.at + r.met.len) lies one).2;
            meets = r.meets;
          }

      -- and it has its item
      pub item_left : StandsInline sum size old n n.pointer → StandsInline sum size left n n.pointer
      item_left = by n.pointer refl where
        by : (p : DiskPtr) → n.pointer ≡ p → StandsInline sum size old n p → StandsInline sum size left n p
        by (Inline lid) pointer stands =
            let here : lid ≡ s.slot + r.at = ap lid_of (sym pointer) ∙ r.lid in
            let there = stands.stands.in_file in
            let grown = left_grows old at asked now left no_more leaves in
            let len = r.meets.len in
            let within = reached_inside in
            let apart_here : (lid + n.size ≤ at) ⊎ (at + length asked ≤ lid) =
            elim lies [ inl low ↦ inl (omega (arith, low, here, len, within)) | inr past ↦ inr (omega (arith, past, here)) ] in
            message_moved sum size old left lid (n.place / size) n (part_left old at asked now left no_more leaves lid n.size there apart_here)
            (omega (arith, there, grown)) stands
        by (Blob lid place) pointer stands = tt

  -- Where each of them lies apart from the write, and what is read to its end still is, what a table needs is there.
  pub segment_left : (H : History) (cut : ℕ) → ((s : Segment) → IsFoundSegment sum size old 0 s → IsFoundSegment sum size left 0 s)
      → ((s : Segment) → IsFoundSegment sum size old 0 s → (n : Message) (r : IsReachedIn sum size old s n)
      → (s.slot + min (r.at + r.met.len) size ≤ at) ⊎ (at + length asked ≤ s.slot))
      → ((s : Segment) → IsFoundSegment sum size old 0 s → IsReadOn sum size old H s → IsReadOn sum size left H s) → (m : Message)
      → IsSegmentOf sum size old H cut m × StandsInline sum size old m m.pointer → IsSegmentOf sum size left H cut m × StandsInline sum size left m m.pointer
  segment_left H cut found lies reads_on m (of, item) =
      let s : Segment = of.segment in
      let was = of.found in (
        record {
          segment = s;
          found = found s was;
          place = of.place;
          reached = reached_left s was.slot m of.reached (lies s was m of.reached);
          whole = λ n known number lower. (let r = of.whole n known number lower in reached_left s was.slot n r (lies s was n r));
          full = λ under. reads_on s was (of.full under);
        },
        item_left s was.slot m of.reached (lies s was m of.reached) item,
      )

  -- A segment that was found in another slot is found.
  pub found_beside : (least : ℕ) (s : Segment) → s.slot ≢ slot * size → IsFoundSegment sum size old least s → IsFoundSegment sum size left least s
  found_beside least s other is =
      let k : ℕ = s.slot / size in
      let here : s.slot ≡ k * size = slot_index size s.slot is.slot in
      other_slots.found_stays sum size old slot from asked now left inside no_more leaves (omega (arith, some)) k
      (λ same. other (here ∙ ap (λ n. n * size) same)) least s here is

  -- Where only what the log wrote passes as its own, that is all.
  pub same_beside : {placed : List Placement} → NoForeignLog sum size (after_write old (slot * size + from) asked now) placed left
      → IsSameBeside sum size old left (slot * size)
  same_beside only_own = record {
    found = λ least s other is. (
        let k : ℕ = s.slot / size in
        let here : s.slot ≡ k * size = slot_index size s.slot is.slot in
        other_slots.found_before sum size old slot from asked now left inside no_more leaves (omega (arith, some)) k
        (λ same. other (here ∙ ap (λ n. n * size) same)) only_own least s here is);
    scans = λ least t found other scan. (
        let k : ℕ = t.segment.slot / size in
        let here : t.segment.slot ≡ k * size = slot_index size t.segment.slot found.slot in
        let stands = found_beside least t.segment other found in
        let header = subst (λ n. IsHeader sum (part left n 20) (pos t.segment.place) t.segment.mark) here stands.header in
        let before = subst (λ n. IsScan sum size old n t.segment.place t.met t.stop t.why) here scan in
        let after =
        other_slots.scan_stays sum size old slot from asked now left inside no_more leaves (omega (arith, some)) k
        (λ same. other (here ∙ ap (λ n. n * size) same)) only_own t.segment.place t.segment.mark header t.met t.stop t.why before in
        subst (λ n. IsScan sum size left n t.segment.place t.met t.stop t.why) (sym here) after);
  }

  -- The reading of a segment in another slot is that of before.
  module _ (same : IsSameBeside sum size old left (slot * size)) (least : ℕ) (t : Scanned) (found : IsFoundSegment sum size old least t.segment)
      (other : t.segment.slot ≢ slot * size) (scan : IsScanned sum size old t) where
    pub reading_beside : (H : History) → ((x : ScannedRecord) → Contains t.met x → IsOfHistory sum size old H x)
        → (NothingBehind size H t.segment.place t.stop t.why) → IsTrueReading sum size left H t.segment
    unfolding IsScan
    reading_beside H truth caps =
        let lies : (t.segment.slot + min t.stop size ≤ at) ⊎ (at + length asked ≤ t.segment.slot) =
        elim (beside t.segment.slot found.slot other) [ inl before ↦ inl (omega (arith, before)) | inr past ↦ inr past ] in
        let alike = alike_apart t.segment.slot t.segment.place found.slot 20 t.met t.stop lies scan.0 in
        let read = same.scans least t found other scan in
        record {
          scan = t;
          segment = refl;
          read = read;
          truth = truth_alike sum size old left H t.segment.slot t.segment.place 20 t.met t.stop alike read.0 truth;
          caps = caps;
        }
