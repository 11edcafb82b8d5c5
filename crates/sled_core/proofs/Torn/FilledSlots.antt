-- What a crash leaves of a settled log file behind zeros that were written into some of its slots, none synced: the other slots are as before, and each segment that is found was found before.
use Rattle.std.proofs.Common.{◌≡◌, ◌≢◌, ◌⊎◌, ◌≤◌, ◌+◌, ◌-◌, ◌*◌, ◌/◌, ◌∙◌, ℕ, ℤ, pos, max, false, List, [], ◌∷◌, length, take, drop, replicate, get_or, refl, sym, ap, arith, subst, inl, inr}
use Rattle.std.specs.List.{All, Contains}
use Rattle.std.proofs.lemmas.Bool.{cases_lt}
use Rattle.std.proofs.lemmas.List.{length-replicate}
use Rattle.std.proofs.lemmas.List.Elements.{All-contains, All-tail}
use Rattle.sled_codec.specs.Places.{part}
use Rattle.sled_codec.specs.Record.{IsHeader}
use Rattle.sled_store.specs.Begin.{fill}
use Rattle.sled_store.specs.Device.{LogState, log_step, at_rest, Wrote, LeavesLog, Placement}
use Rattle.sled_store.specs.inside.Durable.{IsDurable}
use Rattle.sled_store.specs.Foreign.{Covers, IsWhole, NoForeignLog}
use Rattle.sled_store.proofs.LogFile.LogLemmas.{same_part, durable_at_rest, durable_written, durable_there, durable_byte}
use Rattle.sled_store.proofs.LogFile.LooseLemmas.{end_of-le, firm_written}
use Rattle.sled_store.proofs.Segments.Elements.{in_cases, in_nothing}
use Rattle.sled_store.proofs.Segments.FilledLemmas.{slot_before}
use Rattle.sled_core.specs.declared.iterator.Segment.{Segment}
use Rattle.sled_core.specs.declared.iterator.scan.ScannedRecord.{ScannedRecord}
use Rattle.sled_core.specs.declared.iterator.scan.ScanEnd.{ScanEnd}
use Rattle.sled_core.specs.Recoverable.{NoHeaderOfZeros}
use Rattle.sled_core.specs.inside.Scan.{IsFoundSegment}
use Rattle.sled_core.specs.Scan.{IsScan}
use Rattle.sled_core.proofs.Torn.AlikeSlots.{SameIn, StoodIn, slot_found, found_same, scan_stays, scan_stood}
use Rattle.sled_core.proofs.Torn.WrittenBeside.{found_moved}
use Rattle.sled_core.proofs.Torn.WrittenParts.{twenty}
use Rattle.sled_core.proofs.Torn.ZeroedSlots.{covered_zeros}

-- the state of a log file behind zeros that were written into these slots, one after another
abbrev pub after_zeros : ℕ → LogState → List ℕ → LogState
after_zeros size s [] = s
after_zeros size s (k ∷ ks) = after_zeros size (log_step (fill size k) s) ks

-- the state behind zeros that were written into one slot, of which this much was done
abbrev pub zeros_torn : ℕ → LogState → ℕ → List ℕ → LogState
zeros_torn size s k now = log_step (Wrote (k * size) (replicate size 0) now) s

-- A log file was settled, and since then nothing was asked but zeros in slots of a list. What was not written, all but what lies in these slots, is firm.
pub record IsFilling (size : ℕ) (old ks : List ℕ) (s : LogState) : Type 0 where
  pub settled : s.settled ≡ old
  pub least : s.least ≡ length old
  pub most : (end : ℕ) → length old ≤ end → All (λ k. k * size + size ≤ end) ks → s.most ≤ end
  pub asked : (w : ℕ × List ℕ) → Contains s.asked w → (k : ℕ) × Contains ks k × (w ≡ (k * size, replicate size 0))
  pub kept : (i : ℕ) → s.is_unsynced i ≡ false → get_or s.bytes i 0 ≡ get_or old i 0
  pub firm : (j : ℕ) → All (λ k. k ≢ j) ks → (from to : ℕ) → j * size ≤ from → to ≤ j * size + size → to ≤ length old → IsDurable s from to

module _ (size : ℕ) (old ks : List ℕ) where
  -- it begins with a settled file
  pub filling_begins : IsFilling size old ks (at_rest old)
  filling_begins = record {
    settled = refl;
    least = refl;
    most = λ end there ends. there;
    asked = λ w there. absurd (in_nothing w there);
    kept = λ i firm. refl;
    firm = λ j other from to low high there. durable_at_rest old from to there;
  }

  -- another slot of the list, of which as much was written as was done
  pub filling_goes : (s : LogState) → IsFilling size old ks s → (k : ℕ) → Contains ks k → (now : List ℕ) → length now ≤ size → IsFilling size old ks (zeros_torn size s k now)
  filling_goes s is k has now no_more =
      let zeros : List ℕ = replicate size 0 in
      let count : max (length zeros) (length now) ≡ size = omega (arith, no_more, length-replicate {A = ℕ} size 0) in record {
        settled = is.settled;
        least = is.least;
        most = λ end there ends.
            let before = is.most end there ends in
            let here : k * size + size ≤ end = All-contains (λ x. x * size + size ≤ end) ks k ends has in
            omega (arith, before, here, count, end_of-le (k * size) (max (length zeros) (length now)) size (omega (arith, count)));
        asked = λ w there. elim (in_cases (k * size, zeros) w s.asked there) [ inl this ↦ (k, has, sym this) | inr earlier ↦ is.asked w earlier ];
        kept = λ i firm. let was = firm_written s (k * size) zeros now i firm in was.1 ∙ is.kept i was.0;
        firm = λ j other from to low high there.
            let not_here : k ≢ j = All-contains (λ x. x ≢ j) ks k other has in
            let apart : (to ≤ k * size) ⊎ (k * size + max (length zeros) (length now) ≤ from) =
            elim (cases_lt k j) [
              | inl before ↦ inr (omega (arith, count, low, slot_before size k j before))
              | inr after ↦ inl (omega (arith, high, slot_before size j k (omega (arith, after, not_here))))
            ] in
            durable_written s (k * size) zeros now from to apart (is.firm j other from to low high there);
      }

  -- slots of the list, one after another
  pub filling_along : (done : List ℕ) → All (Contains ks) done → (s : LogState) → IsFilling size old ks s → IsFilling size old ks (after_zeros size s done)
  filling_along [] has s is = is
  filling_along (k ∷ done) has s is =
      filling_along done (All-tail (Contains ks) k done has) (log_step (fill size k) s)
      (filling_goes s is k (has 0 k (omega arith)) (replicate size 0) (omega (arith, length-replicate {A = ℕ} size 0)))

module _ (sum : List ℕ → ℕ) (size : ℕ) (old ks : List ℕ) (s : LogState) (is : IsFilling size old ks s) where
  -- The file is no shorter than it was, and no longer than the writes make it.
  module _ (left : List ℕ) (leaves : LeavesLog s left) where
    pub no_shorter : length old ≤ length left
    no_shorter = let least = is.least in let n = leaves.no_shorter in omega (arith, least, n)

    pub no_longer : (end : ℕ) → length old ≤ end → All (λ k. k * size + size ≤ end) ks → length left ≤ end
    no_longer end there ends = let most = is.most end there ends in let n = leaves.no_longer in omega (arith, most, n)

    -- Another slot has the bytes that it had.
    module _ (j : ℕ) (other : All (λ k. k ≢ j) ks) where
      pub others_same : SameIn size old left j
      others_same lid len low high there =
          let count : lid + len - lid ≡ len = omega arith in
          let firm : IsDurable s lid (lid + len) = is.firm j other lid (lid + len) low high there in
          ap (λ n. take n (drop lid left)) (sym count)
          ∙ same_part left old lid (lid + len) (durable_there s lid (lid + len) left firm leaves) there (λ i above below. durable_byte s lid (lid + len) left firm leaves i above below ∙ is.kept i (firm.firm i above below))
          ∙ ap (λ n. take n (drop lid old)) count

  -- What stands whole in another slot stood there before.
  pub others_stood : (j : ℕ) → All (λ k. k ≢ j) ks → StoodIn size s old j
  unfolding IsWhole
  others_stood j other lid text low high some (inl stood) = subst (λ (l : List ℕ). part l lid (length text) ≡ text) is.settled stood
  others_stood j other lid text low high some (inr (w, there, covers)) =
      let write = is.asked w there in
      let k = write.0 in
      let by = subst (λ (x : ℕ × List ℕ). Covers x lid text) write.2 covers in
      let begins = by.begins in
      let ends = by.ends in
      let not_here : k ≢ j = All-contains (λ x. x ≢ j) ks k other write.1 in
      absurd (elim (cases_lt k j) [
        | inl before ↦ omega (arith, ends, low, some, length-replicate {A = ℕ} size 0, slot_before size k j before)
        | inr after ↦ omega (arith, begins, high, some, slot_before size j k (omega (arith, after, not_here)))
      ])

  -- A header that stands whole in any slot stood there before.
  header_stood_whole : NoHeaderOfZeros sum → (lid : ℕ) (text : List ℕ) (lsn mark : ℤ) → length text ≡ 20 → IsHeader sum text lsn mark → IsWhole s lid text → part old lid (length text) ≡ text
  unfolding IsWhole
  header_stood_whole none lid text lsn mark twenty is_header (inl stood) = subst (λ (l : List ℕ). part l lid (length text) ≡ text) is.settled stood
  header_stood_whole none lid text lsn mark twenty is_header (inr (w, there, covers)) =
      let write = is.asked w there in
      let zero : text ≡ replicate 20 0 = covered_zeros (write.0 * size) size lid text (subst (λ (x : ℕ × List ℕ). Covers x lid text) write.2 covers) ∙ ap (λ n. replicate n 0) twenty in
      absurd (none lsn mark (subst (λ (l : List ℕ). IsHeader sum l lsn mark) zero is_header))

  module _ (left : List ℕ) (leaves : LeavesLog s left) {placed : List Placement} (only_own : NoForeignLog sum size s placed left) where
    -- A header that passes in any slot did so before.
    pub header_stood : NoHeaderOfZeros sum → (slot : ℕ) (lsn mark : ℤ) → IsHeader sum (part left (slot * size) 20) lsn mark → part old (slot * size) 20 ≡ part left (slot * size) 20
    header_stood none slot lsn mark passes =
        let whole = twenty sum size left (slot * size) lsn mark passes in
        ap (part old (slot * size)) (sym whole) ∙ header_stood_whole none (slot * size) (part left (slot * size) 20) lsn mark whole passes (only_own.headers slot lsn mark passes).1

    -- So each segment that is found was found before.
    pub found_before : NoHeaderOfZeros sum → (least : ℕ) (x : Segment) → IsFoundSegment sum size left least x → IsFoundSegment sum size old least x
    found_before none least x found =
        let here = slot_found sum size left least x found in
        let header = subst (λ n. IsHeader sum (part left n 20) (pos x.place) x.mark) here found.header in
        found_moved sum size left old least x (subst (λ n. part old n 20 ≡ part left n 20) (sym here) (header_stood none (x.slot / size) (pos x.place) x.mark header)) found

    module _ (long : 20 ≤ size) (j : ℕ) (other : All (λ k. k ≢ j) ks) where
      same : SameIn size old left j
      same = others_same left leaves j other

      -- A segment that was found in another slot is found.
      pub found_stays : (least : ℕ) (x : Segment) → x.slot ≡ j * size → IsFoundSegment sum size old least x → IsFoundSegment sum size left least x
      found_stays = found_same sum size old left j same long

      -- All is met there as before.
      module _ (place : ℕ) (mark : ℤ) (header : IsHeader sum (part left (j * size) 20) (pos place) mark) where
        pub others_met : (met : List ScannedRecord) (stop : ℕ) (why : ScanEnd) → IsScan sum size old (j * size) place met stop why → IsScan sum size left (j * size) place met stop why
        others_met = scan_stays sum size old left j same s (others_stood j other) only_own long place mark header

        pub others_met_before : (met : List ScannedRecord) (stop : ℕ) (why : ScanEnd) → IsScan sum size left (j * size) place met stop why → IsScan sum size old (j * size) place met stop why
        others_met_before = scan_stood sum size old left j same s (others_stood j other) only_own long place mark header
