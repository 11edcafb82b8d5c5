-- Behind a write to a segment that was found, torn or whole, the log file stands up to the same place.
use Rattle.std.proofs.Common.{◌≡◌, ◌≢◌, ◌⊎◌, ◌∙◌, ◌+◌, ◌*◌, ◌%◌, ◌<◌, ◌≤◌, ℕ, pos, min, List, [], ◌∷◌, ◌++◌, length, take, drop, get_or, refl, sym, ap, subst, arith, inl, inr}
use Rattle.std.specs.List.{Contains}
use Rattle.std.proofs.Math.Nat.{mul-mod_left}
use Rattle.std.proofs.lemmas.Bool.{cases_eq}
use Rattle.std.proofs.lemmas.List.{take-append-drop}
use Rattle.std.proofs.lemmas.List.Elements.{Contains-append_left, Contains-append_cases}
use Rattle.sled_codec.specs.History.{Message, History}
use Rattle.sled_codec.specs.Places.{part}
use Rattle.sled_codec.specs.Record.{IsHeader}
use Rattle.sled_codec.specs.Snapshots.{SnapshotModel}
use Rattle.sled_store.specs.Device.{overwritten, LeavesLog, Placement}
use Rattle.sled_store.specs.Foreign.{NoForeignLog}
use Rattle.sled_core.specs.declared.iterator.Segment.{Segment}
use Rattle.sled_core.specs.declared.iterator.scan.ScannedRecord.{ScannedRecord}
use Rattle.sled_core.specs.declared.iterator.scan.ScanEnd.{ScanEnd}
use Rattle.sled_core.specs.declared.iterator.scan.ScanEnd.TheVariants.{Capped, Broken}
use Rattle.sled_core.specs.inside.Hides.{IsTrueReading}
use Rattle.sled_core.specs.inside.Recoverable.{NoBatchEnds, NothingBehind, NoMessageBegins, NoBatchBegins, IsOfHistory, IsReachedIn, IsReadOn}
use Rattle.sled_core.specs.inside.Scan.{IsFoundSegment}
use Rattle.sled_core.specs.Scan.{IsPath, IsEnd, IsScan}
use Rattle.sled_core.proofs.Read.ScanLemmas.{one_more}
use Rattle.sled_core.proofs.Torn.TornLemmas.{after_write}
use Rattle.sled_core.proofs.Torn.WrittenParts.{path_rises, path_stays, paths_joined}
use Rattle.sled_core.proofs.Torn.WrittenRecords.{AreClear, MeetsFirst, meets_within}
use Rattle.sled_core.proofs.Torn.WrittenBehind.{header_same, header_left, meets_on}
use Rattle.sled_core.specs.Tail.{Scanned, IsScanned, IsOrdering, least_place}
use Rattle.sled_core.proofs.Tail.OneReading.{one_scan, path_begins}
use Rattle.sled_core.proofs.Tail.OneTail.{one_at_place, rises_of, scan_there, segment_there}
use Rattle.sled_core.proofs.Tail.Tails.{one_reading}
use Rattle.sled_core.proofs.Tail.Moved.{one_in_slot}
use Rattle.sled_core.proofs.Reached.KeptStands.{read_on_kept}
use Rattle.sled_core.proofs.Reached.LeftBeside.{IsSameBeside, truth_alike, alike_apart, beside, bytes_beside, segment_left, found_beside, same_beside, reading_beside}
use Rattle.sled_core.proofs.Reached.Reread.{IsAsFar, stands_still}
use Rattle.sled_core.proofs.Reached.StandsTo.{StandsFrom, StandsTo}

-- one of the first elements is an element
pub in_taken : {X : Type 0} (n : ℕ) (xs : List X) (x : X) → Contains (take n xs) x → Contains xs x
in_taken n xs x there = subst (λ l. Contains l x) (take-append-drop n xs) (Contains-append_left (take n xs) (drop n xs) x there)

-- What a torn write leaves ends with a Cap where that was written, and not before.
pub caps_met : (sum : List ℕ → ℕ) (size : ℕ) (new left : List ℕ) (H : History) (slot place from : ℕ) (more : List ScannedRecord) (stop : ℕ) (why : ScanEnd)
    (w : MeetsFirst sum size new left slot place from more stop why)
    → (NothingBehind size H place stop why)
    → NothingBehind size H place w.end w.ending
caps_met sum size new left H slot place from more stop why w caps = (
  (λ capped. elim w.how [
    | inl (all, stops, inl same) ↦ subst (λ n. NoMessageBegins H (place + n) (place + size) × NoBatchBegins H (place + n) (place + size)) (sym stops)
        (caps.0 (sym same ∙ capped))
    | inl (all, stops, inr (was, broken)) ↦ (let no : Broken ≡ Capped = sym broken ∙ capped in cc)
    | inr (few, broken) ↦ (let no : Broken ≡ Capped = sym broken ∙ capped in cc)
  ]),
  (λ goes. elim w.how [
    | inl (all, stops, inl same) ↦ subst (λ n. NoBatchEnds H (place + n) (place + size)) (sym stops) (caps.1 (λ is. goes (same ∙ is)))
    | inl (all, stops, inr (was, broken)) ↦ absurd (goes broken)
    | inr (few, broken) ↦ absurd (goes broken)
  ]),
)

module _ (sum : List ℕ → ℕ) (size : ℕ) (some : 256 ≤ size) (old : List ℕ) (slot from : ℕ) (asked now left : List ℕ) (inside : from + length asked ≤ size)
    (no_more : length now ≤ length asked)
    (leaves : LeavesLog (after_write old (slot * size + from) asked now) left) (same : IsSameBeside sum size old left (slot * size))
    (H : History) (A : ℕ) (first : SnapshotModel) (reach : ℕ) (is : StandsTo sum size old H A first reach)
    (z : Scanned) (known : Contains is.scanned z) (in_slot : z.segment.slot ≡ slot * size) (e : ℕ) (low : e ≤ from) (ended : z.stop ≡ e) where
  abbrev at : ℕ
  at = slot * size + from

  abbrev new : List ℕ
  new = overwritten old at asked

  abbrev least : ℕ
  least = least_place size first

  abbrev place : ℕ
  place = z.segment.place

  aligned : slot * size % size ≡ 0
  aligned = mul-mod_left slot size

  z_known : Contains is.ordering z.segment × IsScanned sum size old z
  z_known = segment_there sum size old is.ordering is.scanned is.reads z known

  z_found : IsFoundSegment sum size old least z.segment
  z_found = (is.numbers.found z.segment).0 z_known.0

  pub behind : 20 ≤ from
  unfolding IsScan
  behind = let rises = path_rises sum size old z.segment.slot place 20 z.met z.stop z_known.1.0 in omega (arith, rises, ended, low)

  pub header : IsHeader sum (part old (slot * size) 20) (pos place) z.segment.mark
  header = subst (λ n. IsHeader sum (part old n 20) (pos place) z.segment.mark) in_slot z_found.header

  pub stood : IsPath sum size old (slot * size) place 20 z.met e
  unfolding IsScan
  stood = subst (λ n. IsPath sum size old n place 20 z.met e) in_slot (subst (λ n. IsPath sum size old z.segment.slot place 20 z.met n) ended z_known.1.0)

  pub before_left : IsPath sum size left (slot * size) place 20 z.met e
  before_left = path_stays sum size old at asked now left no_more leaves (slot * size) place aligned 20 z.met e (inl (omega (arith, low))) stood

  -- The segments that are found.

  pub all_found : (low : ℕ) (s : Segment) → IsFoundSegment sum size old low s → IsFoundSegment sum size left low s
  all_found low s found = elim (cases_eq s.slot (slot * size)) [
    | inl here ↦ (
        let its = subst (λ n. IsHeader sum (part old n 20) (pos s.place) s.mark) here found.header in
        let stays = header_left sum size old slot from asked now left no_more leaves behind (pos s.place) s.mark its in
        record { slot = found.slot; header = subst (λ n. IsHeader sum (part left n 20) (pos s.place) s.mark) (sym here) stays; not_below = found.not_below })
    | inr other ↦ found_beside sum size some old slot from asked now left inside no_more leaves low s other found
  ]

  found_before : (s : Segment) → IsFoundSegment sum size left least s → IsFoundSegment sum size old least s
  found_before s found = elim (cases_eq s.slot (slot * size)) [
    | inl here ↦ (
        let its = subst (λ n. IsHeader sum (part left n 20) (pos s.place) s.mark) here found.header in
        let alike = header_same sum size old slot from asked now left no_more leaves behind (pos place) z.segment.mark header in
        let stood_there = subst (λ (l : List ℕ). IsHeader sum l (pos s.place) s.mark) alike its in
        record {
          slot = found.slot;
          header = subst (λ n. IsHeader sum (part old n 20) (pos s.place) s.mark) (sym here) stood_there;
          not_below = found.not_below;
        })
    | inr other ↦ same.found least s other found
  ]

  numbers : IsOrdering sum size left least is.ordering
  numbers = record {
    ascending = is.numbers.ascending;
    found = λ s. (λ there. all_found least s ((is.numbers.found s).0 there), λ has. (is.numbers.found s).1 (found_before s has));
    placed = is.numbers.placed;
  }

  -- a reading is that of the write's segment, or lies in another slot
  pub which : (t : Scanned) → Contains is.scanned t → (t ≡ z) ⊎ (t.segment.slot ≢ slot * size)
  which t there = elim (cases_eq t.segment.slot (slot * size)) [
    | inl here ↦ (
        let found = (is.numbers.found t.segment).0 (segment_there sum size old is.ordering is.scanned is.reads t there).0 in
        inl (one_reading sum size old some least is.ordering is.numbers is.scanned is.reads t z there known
        (one_in_slot sum size old least least t.segment z.segment found z_found (here ∙ sym in_slot))))
    | inr other ↦ inr other
  ]

  -- What is reached lies in other slots, or below the write.
  lies : (s : Segment) → IsFoundSegment sum size old 0 s → (n : Message) (r : IsReachedIn sum size old s n)
      → (s.slot + min (r.at + r.met.len) size ≤ at) ⊎ (at + length asked ≤ s.slot)
  unfolding IsScan
  lies s found n r = elim (cases_eq s.slot (slot * size)) [
    | inl here ↦ (
        let slots : s.slot ≡ z.segment.slot = here ∙ sym in_slot in
        let places : s.place ≡ place = one_in_slot sum size old 0 least s z.segment found z_found slots in
        let next : ℕ = r.at + r.met.len in
        let there = one_more sum size old s.slot s.place 20 r.before r.at r.met r.path r.room (r.meets.place ∙ r.place) r.is_met in
        let moved =
        subst (λ n. IsPath sum size old z.segment.slot n 20 (r.before ++ r.met ∷ []) next) places
        (subst (λ n. IsPath sum size old n s.place 20 (r.before ++ r.met ∷ []) next) slots there) in
        let begins = path_begins sum size old z.segment.slot place 20 (r.before ++ r.met ∷ []) next z.met z.stop z.why moved z_known.1.0 z_known.1.1 in
        let rises = path_rises sum size old z.segment.slot place next begins.0 z.stop begins.2 in
        inl (omega (arith, rises, ended, here, low)))
    | inr other ↦ elim (beside sum size some old slot from asked now left inside no_more leaves s.slot found.slot other) [
      | inl before ↦ inl (omega (arith, before))
      | inr past ↦ inr past
    ]
  ]

  -- What is met of the write. The segment leads on where it did.
  module _ (more : List ScannedRecord) (stop : ℕ) (why : ScanEnd) (truth : (x : ScannedRecord) → Contains more x → IsOfHistory sum size new H x)
      (caps : NothingBehind size H place stop why) (w : MeetsFirst sum size new left (slot * size) place e more stop why)
      (goes : z.why ≢ Broken → w.ending ≢ Broken) where
    abbrev y : Scanned
    y = record { segment = z.segment; met = z.met ++ take w.count more; stop = w.end; why = w.ending }

    y_scan : IsScanned sum size left y
    unfolding IsScan
    y_scan =
        subst (λ n. IsScan sum size left n place y.met y.stop y.why) (sym in_slot)
        (paths_joined sum size left (slot * size) place 20 z.met e (take w.count more) w.end before_left w.path, w.ends)

    y_truth : (x : ScannedRecord) → Contains y.met x → IsOfHistory sum size left H x
    y_truth x there = elim (Contains-append_cases z.met (take w.count more) x there) [
      | inl had ↦ truth_alike sum size old left H (slot * size) place 20 z.met e
          (alike_apart sum size some old slot from asked now left inside no_more leaves (slot * size) place aligned 20 z.met e (inl (omega (arith, low))) stood)
          before_left (λ u at_u. is.truth z u known at_u) x had
      | inr own ↦ truth_alike sum size new left H (slot * size) place e (take w.count more) w.end w.alike w.path
          (λ u at_u. truth u (in_taken w.count more u at_u)) x own
    ]

    y_reading : IsTrueReading sum size left H z.segment
    y_reading = record {
      scan = y;
      segment = refl;
      read = y_scan;
      truth = y_truth;
      caps = caps_met sum size new left H (slot * size) place e more stop why w caps;
    }

    -- What was read to its end still is: a segment in another slot, or that of the write, which leads on where it did.
    reads_on : (s : Segment) → IsFoundSegment sum size old 0 s → IsReadOn sum size old H s → IsReadOn sum size left H s
    reads_on s found on = elim (cases_eq s.slot (slot * size)) [
      | inl here ↦ (
          let low = z_found.not_below in
          let places : s.place ≡ place = one_in_slot sum size old 0 least s z.segment found z_found (here ∙ sym in_slot) in
          let also = (is.numbers.found s).1 (record { slot = found.slot; header = found.header; not_below = omega (arith, low, places) }) in
          let one : z.segment ≡ s = one_at_place is.ordering (rises_of is.ordering is.numbers.ascending) z.segment s z_known.0 also (sym places) in
          let same_scan : on.scan ≡ z = one_scan sum size old on.scan z (on.of ∙ sym one) on.read z_known.1 in
          record { scan = y; of = one; read = y_scan; goes = goes (λ broken. on.goes (ap (λ (t : Scanned). t.why) same_scan ∙ broken)); truth = y_truth })
      | inr other ↦ read_on_kept sum size old left s.slot found.slot
          (bytes_beside sum size some old slot from asked now left inside no_more leaves s.slot found.slot other) H s refl on
    ]

    reading_of : (t : Scanned) → Contains is.scanned t → IsTrueReading sum size left H t.segment
    reading_of t there = elim (which t there) [
      | inl one ↦ subst (λ (u : Scanned). IsTrueReading sum size left H u.segment) (sym one) y_reading
      | inr other ↦ (
          let had = segment_there sum size old is.ordering is.scanned is.reads t there in
          reading_beside sum size some old slot from asked now left inside no_more leaves same least t ((is.numbers.found t.segment).0 had.0) other had.1 H
          (λ x met. is.truth t x there met) (is.caps t there))
    ]

    each : (s : Segment) → Contains is.ordering s → IsTrueReading sum size left H s
    each s there = let t = scan_there sum size old is.ordering is.scanned is.reads s there in subst (IsTrueReading sum size left H) t.2 (reading_of t.0 t.1)

    as_far : (t : Scanned) → Contains is.scanned t → IsAsFar sum size left is.ordering t
    as_far t there = elim (which t there) [
      | inl one ↦ subst (IsAsFar sum size left is.ordering) (sym one) (record {
        scan = y;
        segment = refl;
        there = z_known.0;
        read = y_scan;
        far = let within = meets_within sum size new left (slot * size) place e more stop why w in omega (arith, within.0, ended);
        leads = goes;
      })
      | inr other ↦ (
          let had = segment_there sum size old is.ordering is.scanned is.reads t there in
          record {
            scan = t;
            segment = refl;
            there = had.0;
            read = same.scans least t ((is.numbers.found t.segment).0 had.0) other had.1;
            far = omega arith;
            leads = λ goes. goes;
          })
    ]

    pub stands_behind : StandsFrom sum size left H A first reach is.from
    stands_behind = stands_still sum size old left H A first reach is is.ordering numbers each is.marks (λ t there low. as_far t there) some is.marks_below
        (λ cut low high page m entry. segment_left sum size some old slot from asked now left inside no_more leaves H cut (all_found 0) lies reads_on m
        (is.needed cut low high page m entry))

-- Where only what the log wrote passes as its own, a crash leaves the first of the records that were written.
pub torn_behind : (sum : List ℕ → ℕ) (size : ℕ) (some : 256 ≤ size) (old : List ℕ) (slot from : ℕ) (asked now left : List ℕ)
    (inside : from + length asked ≤ size) (no_more : length now ≤ length asked)
    (leaves : LeavesLog (after_write old (slot * size + from) asked now) left) (until : ℕ) (covers : from + length asked ≤ until)
    (clean : (i : ℕ) → slot * size + from ≤ i → i < slot * size + until → get_or old i 0 ≡ 0)
    {placed : List Placement} (only_own : NoForeignLog sum size (after_write old (slot * size + from) asked now) placed left)
    (H : History) (A : ℕ) (first : SnapshotModel) (reach : ℕ) (is : StandsTo sum size old H A first reach)
    (z : Scanned) → Contains is.scanned z → z.segment.slot ≡ slot * size → z.stop ≡ from → z.why ≡ Broken
    → (more : List ScannedRecord) (stop : ℕ) (why : ScanEnd) → AreClear size until from more
    → IsPath sum size (overwritten old (slot * size + from) asked) (slot * size) z.segment.place from more stop
    → IsEnd sum size (overwritten old (slot * size + from) asked) (slot * size) z.segment.place stop why
    → ((x : ScannedRecord) → Contains more x → IsOfHistory sum size (overwritten old (slot * size + from) asked) H x)
    → (NothingBehind size H z.segment.place stop why) → StandsTo sum size left H A first reach
torn_behind sum size some old slot from asked now left inside no_more leaves until covers clean only_own H A first reach is z known in_slot ended broken more
    stop why clear path end truth caps =
    let same = same_beside sum size some old slot from asked now left inside no_more leaves only_own in
    let far = behind sum size some old slot from asked now left inside no_more leaves same H A first reach is z known in_slot from (omega arith) ended in
    let its = header sum size some old slot from asked now left inside no_more leaves same H A first reach is z known in_slot from (omega arith) ended in
    let met = stood sum size some old slot from asked now left inside no_more leaves same H A first reach is z known in_slot from (omega arith) ended in
    let w =
    meets_on sum size old slot from asked now left no_more leaves far only_own until covers clean z.segment.place z.segment.mark its z.met met more stop why
    clear path end in
    (stands_behind sum size some old slot from asked now left inside no_more leaves same H A first reach is z known in_slot from (omega arith) ended more stop
    why truth caps w (λ other. absurd (other broken))).0
