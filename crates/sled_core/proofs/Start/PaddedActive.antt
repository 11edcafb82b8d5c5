-- Zeros behind the end of a log file that was started on change nothing of what stands.
use Rattle.std.proofs.Common.{◌≡◌, ◌∙◌, ◌+◌, ◌-◌, ◌*◌, ◌/◌, ◌≤◌, ◌<◌, ℕ, pos, Bool, true, false, List, ◌++◌, length, replicate, get_or, Some, ◌%◌, refl, sym, ap, subst, arith, inl, inr}
use Rattle.std.specs.List.{All, Contains}
use Rattle.std.proofs.Math.Nat.{mul-le-mul_right}
use Rattle.std.proofs.lemmas.Bool.{cases_lt}
use Rattle.std.proofs.lemmas.List.{length-replicate, get_or-replicate, get_or_past, get_or_append_left, get_or-append_right}
use Rattle.sled_codec.specs.History.{History}
use Rattle.sled_codec.specs.PageTables.{IsTable}
use Rattle.sled_codec.specs.Pointers.{lid_of}
use Rattle.sled_codec.specs.Snapshots.{SnapshotModel, stable_place}
use Rattle.sled_store.specs.Begin.{slots_of, is_used, unused}
use Rattle.sled_store.proofs.Segments.FilledLemmas.{free_below, free_has}
use Rattle.sled_store.proofs.Accounts.StartedFile.{started_file, started_short, started_there, started_zero, left_within}
use Rattle.sled_core.specs.declared.iterator.Segment.{Segment}
use Rattle.sled_core.specs.inside.LogFile.{padded}
use Rattle.sled_core.specs.inside.Reached.{StandsActive}
use Rattle.sled_core.specs.Recoverable.{NoHeaderOfZeros}
use Rattle.sled_core.specs.inside.Scan.{IsFoundSegment}
use Rattle.sled_core.specs.Tail.{Scanned, least_place, IsScanned}
use Rattle.sled_core.proofs.Start.Entries.{entry_message, used_cases}
use Rattle.sled_core.specs.declared.iterator.scan.ScanEnd.TheVariants.{Broken}
use Rattle.sled_core.specs.Scan.{IsEnd, IsScan, EndsThere}
use Rattle.sled_core.proofs.Read.PathLemmas.{zeros_empty}
use Rattle.sled_core.proofs.Reached.Higher.{known_in}
use Rattle.sled_core.proofs.Reached.KeptStands.{path_kept}
use Rattle.sled_core.proofs.Reached.LongerStands.{found_on, longer_stands}
use Rattle.sled_core.proofs.Tail.Moved.{one_in_slot}
use Rattle.sled_core.proofs.Tail.Tails.{one_reading}
use Rattle.sled_core.proofs.Reached.StartedStands.{slot_needed}
use Rattle.sled_core.proofs.Read.FoundLemmas.{found_there}
use Rattle.sled_core.proofs.Reserve.Ranges.{part-append}
use Rattle.sled_core.proofs.Tail.OneTail.{segment_there}
use Rattle.sled_core.proofs.Torn.AlikeSlots.{slot_found}
use Rattle.sled_core.proofs.Torn.WrittenBegun.{none_in_zeros}
use Rattle.sled_core.proofs.Torn.WrittenBeside.{found_moved}

module _ (sum : List ℕ → ℕ) (size : ℕ) (long : 256 ≤ size) (zeros : NoHeaderOfZeros sum) (log : List ℕ) (s : SnapshotModel) (H : History) (is : IsTable s.pages H (stable_place s.stable)) (before : StandsActive sum size log s H) where
  abbrev slots : ℕ
  slots = slots_of size (length log)

  abbrev free : List ℕ
  free = unused size slots s

  -- the file once the log is started
  abbrev new : List ℕ
  new = started_file size log s

  some : 0 < size
  some = omega (arith, long)

  free_slots : All (λ k. k < slots) free
  free_slots = λ k d lt. (free_below (is_used size s) slots k d lt).0

  covered : length new ≤ slots * size
  covered = omega (arith, started_short size some log s, mul-le-mul_right size (left_within size some log s))

  -- and with zeros behind its end
  abbrev whole : ℕ → List ℕ
  whole n = new ++ replicate n 0

  -- there it has zeros
  past_zero : (n i : ℕ) → length new ≤ i → get_or (whole n) i 0 ≡ 0
  past_zero n i past = get_or-append_right new (replicate n 0) (length new) i 0 refl past ∙ zero_at n (i - length new) where
    zero_at : (n i : ℕ) → get_or {A = ℕ} (replicate n 0) i 0 ≡ 0
    zero_at n i = elim (cases_lt i n) [ inl inside ↦ get_or-replicate n i 0 0 inside | inr out ↦ get_or_past {X = ℕ} (replicate n 0) i 0 (omega (arith, out, length-replicate {A = ℕ} n 0)) ]

  -- a slot that isn't used has zeros
  free_zero : (n k : ℕ) → k < slots → is_used size s k ≡ false → (i : ℕ) → k * size ≤ i → i < k * size + size → get_or (whole n) i 0 ≡ 0
  free_zero n k less unused_k i low high = elim (cases_lt i (length new)) [
    | inl inside ↦ get_or_append_left new (replicate n 0) 0 i inside ∙ started_zero size some log s k i (free_has (is_used size s) slots k less unused_k) low high
    | inr past ↦ past_zero n i past
  ]

  -- a slot that is used has the header of a segment
  used_header : (k : ℕ) → is_used size s k ≡ true → k * size + 20 ≤ length log
  used_header k used = elim (used_cases size s k used) [
    | inl (a, active, here) ↦ (
        let g = before.going a active in
        let had = segment_there sum size log before.stands.ordering before.stands.scanned before.stands.reads g.scan g.there in
        let found = (before.stands.numbers.found g.scan.segment).0 had.0 in
        let there = found_there sum size log (least_place size s) g.scan.segment found in
        let begins : g.scan.segment.slot ≡ k * size = slot_found sum size log (least_place size s) g.scan.segment found ∙ ap (λ n. n / size * size) g.in_slot ∙ ap (λ n. n * size) here in
        omega (arith, there, begins))
    | inr e ↦ (
        let m = entry_message s.pages H (stable_place s.stable) is e.0 e.1 in
        let of = (before.stands.needed (stable_place s.stable) before.stands.from_high (omega arith) m.0 m.1 m.2).0 in
        let there = found_there sum size log 0 of.segment of.found in
        let in_slot : of.segment.slot / size ≡ k = slot_needed sum size log H (stable_place s.stable) m.1 of ∙ ap (λ p. lid_of p / size) (sym m.3.pointer) ∙ e.2 in
        let begins : of.segment.slot ≡ k * size = slot_found sum size log 0 of.segment of.found ∙ ap (λ n. n * size) in_slot in
        omega (arith, there, begins))
  ]

  module _ (alone : StandsActive sum size new s H) (clean : (slot : ℕ) → s.active ≡ Some slot → get_or new (slot + stable_place s.stable % size + 4) 0 ≡ 0) (n : ℕ) where
    -- No other segments are found with the zeros.
    old_one : (x : Segment) → IsFoundSegment sum size (whole n) (least_place size s) x → IsFoundSegment sum size new (least_place size s) x
    old_one x found =
        let begins = slot_found sum size (whole n) (least_place size s) x found in
        elim (cases_lt (x.slot / size) slots) [
          | inl less ↦ by less begins (is_used size s (x.slot / size)) refl
          | inr past ↦ (
              let more : slots * size ≤ x.slot / size * size = mul-le-mul_right size past in
              absurd (none_in_zeros sum size zeros (omega (arith, long)) (whole n) x.slot (λ i low high. past_zero n i (omega (arith, low, begins, more, covered))) (pos x.place) x.mark found.header))
        ]
      where
        by : x.slot / size < slots → x.slot ≡ x.slot / size * size → (b : Bool) → is_used size s (x.slot / size) ≡ b → IsFoundSegment sum size new (least_place size s) x
        by less begins true used =
            let header = used_header (x.slot / size) used in
            let inside : x.slot + 20 ≤ length new =
            (let there = started_there size some log s (x.slot / size) used less (x.slot / size * size) 20 (omega (arith, long)) header in omega (arith, there, begins)) in
            found_moved sum size (whole n) new (least_place size s) x (sym (part-append new (replicate n 0) x.slot 20 inside)) found
        by less begins false unused_k =
            absurd (none_in_zeros sum size zeros (omega (arith, long)) (whole n) x.slot (λ i low high. free_zero n (x.slot / size) less unused_k i (omega (arith, low, begins)) (omega (arith, high, begins))) (pos x.place) x.mark found.header)

    -- The active one is read as before: where the reading ended there are zeros.
    again : (t : Scanned) → Contains alone.stands.scanned t → IsScanned sum size (whole n) t
    unfolding IsScan EndsThere
    again t there =
        let st = alone.stands in
        let had = segment_there sum size new st.ordering st.scanned st.reads t there in
        let found = (st.numbers.found t.segment).0 had.0 in
        let active = alone.only t.segment found in
        let g = alone.going t.segment.slot active in
        let known = segment_there sum size new st.ordering st.scanned st.reads g.scan g.there in
        let places = one_in_slot sum size new (least_place size s) (least_place size s) t.segment g.scan.segment found ((st.numbers.found g.scan.segment).0 known.0) (sym g.in_slot) in
        let one : t ≡ g.scan = one_reading sum size new long (least_place size s) st.ordering st.numbers st.scanned st.reads t g.scan there g.there places in
        let why : t.why ≡ Broken = ap (λ (y : Scanned). y.why) one ∙ g.broken in
        let stop : t.stop ≡ stable_place s.stable % size = ap (λ (y : Scanned). y.stop) one ∙ g.ended in
        let was : IsEnd sum size new t.segment.slot t.segment.place t.stop Broken = subst (λ w. IsEnd sum size new t.segment.slot t.segment.place t.stop w) why had.1.1 in
        let zero : get_or (whole n) (t.segment.slot + t.stop + 4) 0 ≡ 0 = elim (cases_lt (t.segment.slot + t.stop + 4) (length new)) [
          | inl inside ↦ get_or_append_left new (replicate n 0) 0 (t.segment.slot + t.stop + 4) inside ∙ ap (λ k. get_or new (t.segment.slot + k + 4) 0) stop ∙ clean t.segment.slot active
          | inr past ↦ past_zero n (t.segment.slot + t.stop + 4) past
        ] in
        let ends : IsEnd sum size (whole n) t.segment.slot t.segment.place t.stop Broken = (was.0, zeros_empty sum size (whole n) (t.segment.slot + t.stop) (t.segment.place / size) zero) in (
          path_kept sum size new (whole n) t.segment.slot found.slot (λ lid len low high in_file. part-append new (replicate n 0) lid len in_file) t.segment.place 20 t.met t.stop had.1.0,
          subst (λ w. IsEnd sum size (whole n) t.segment.slot t.segment.place t.stop w) (sym why) ends,
        )

    whole_active : StandsActive sum size (whole n) s H
    whole_active =
        let st = alone.stands in
        let stands = (longer_stands sum size new (replicate n 0) H (stable_place s.stable) s (stable_place s.stable) st again old_one long).0 in
        record {
          stands = stands;
          only = λ x found. alone.only x (old_one x found);
          going = λ slot active. (
              let g = alone.going slot active in
              let had = segment_there sum size new st.ordering st.scanned st.reads g.scan g.there in
              let found = found_on sum size new (replicate n 0) H (stable_place s.stable) s (stable_place s.stable) st again old_one (least_place size s) g.scan.segment ((st.numbers.found g.scan.segment).0 had.0) in
              record {
                scan = g.scan;
                there = known_in sum size (whole n) H (stable_place s.stable) s (stable_place s.stable) stands g.scan found (again g.scan g.there);
                in_slot = g.in_slot;
                at_place = g.at_place;
                ended = g.ended;
                broken = g.broken;
              });
        }

  -- So each file stands that is filled up to an offset.
  pub padded_active : (alone : StandsActive sum size new s H) → ((slot : ℕ) → s.active ≡ Some slot → get_or new (slot + stable_place s.stable % size + 4) 0 ≡ 0) → (to : ℕ) → StandsActive sum size (padded to new) s H
  padded_active alone clean to = whole_active alone clean (to - length new)
