-- What a crash leaves of a settled log file behind a cut, where all from there on was zeros: the slots below are as before, and no segment is found in those above.
use Rattle.std.proofs.Common.{◌≡◌, ◌≤◌, ◌<◌, ◌+◌, ◌-◌, ◌*◌, ◌/◌, ◌∙◌, ℕ, ℤ, pos, List, length, take, drop, get_or, sym, ap, arith, subst, inl, inr, length-take}
use Rattle.std.proofs.Math.Nat.{mul-le-mul_right}
use Rattle.std.proofs.lemmas.Bool.{cases_lt}
use Rattle.std.proofs.lemmas.List.{get_or_past}
use Rattle.sled_codec.specs.Places.{part}
use Rattle.sled_codec.specs.Record.{IsHeader}
use Rattle.sled_store.specs.Device.{LogState, log_step, at_rest, Cut, LeavesLog, Placement}
use Rattle.sled_store.specs.Foreign.{IsWhole, NoForeignLog}
use Rattle.sled_store.proofs.LogFile.LogLemmas.{durable_at_rest, durable_cut, durable_left, part_cut}
use Rattle.sled_store.proofs.Segments.Elements.{in_nothing}
use Rattle.sled_store.proofs.Segments.FilledLemmas.{slot_before}
use Rattle.sled_core.specs.declared.iterator.Segment.{Segment}
use Rattle.sled_core.specs.declared.iterator.scan.ScannedRecord.{ScannedRecord}
use Rattle.sled_core.specs.declared.iterator.scan.ScanEnd.{ScanEnd}
use Rattle.sled_core.specs.Recoverable.{NoHeaderOfZeros}
use Rattle.sled_core.specs.inside.Scan.{IsFoundSegment}
use Rattle.sled_core.specs.Scan.{IsScan}
use Rattle.sled_core.proofs.Torn.AlikeSlots.{SameIn, StoodIn, slot_found, found_same, found_was, scan_same, scan_stays, scan_stood}
use Rattle.sled_core.proofs.Torn.WrittenBegun.{none_in_zeros}
use Rattle.sled_core.proofs.Torn.WrittenParts.{twenty}

-- the state of a settled log file behind a cut to this many slots, of which so much is left
abbrev pub after_cut : ℕ → List ℕ → ℕ → ℕ → LogState
after_cut size old slots now = log_step (Cut (slots * size) now) (at_rest old)

-- in a settled file all from these slots on is zeros, as far as it goes
abbrev pub ZerosFrom : ℕ → List ℕ → ℕ → Type 0
ZerosFrom size old slots = (i : ℕ) → slots * size ≤ i → get_or old i 0 ≡ 0

-- a slot above others begins no lower than they end
slot_above : (size slots k : ℕ) → slots ≤ k → slots * size ≤ k * size
slot_above size slots k above = mul-le-mul_right size above

module _ (sum : List ℕ → ℕ) (size : ℕ) (old : List ℕ) (slots now : ℕ) (no_less : slots * size ≤ now) where
  -- What stands whole stood there before: nothing was asked to be written.
  pub stood_whole : (lid : ℕ) (text : List ℕ) → IsWhole (after_cut size old slots now) lid text → part old lid (length text) ≡ text
  unfolding IsWhole
  stood_whole lid text (inl stood) = stood
  stood_whole lid text (inr (w, there, covers)) = absurd (in_nothing w there)

  module _ (left : List ℕ) (leaves : LeavesLog (after_cut size old slots now) left) where
    -- A slot below the cut has the bytes that it had.
    module _ (j : ℕ) (below : j < slots) where
      pub below_same : SameIn size old left j
      below_same lid len low high there =
          let count : lid + len - lid ≡ len = omega arith in
          let ends : lid + len ≤ slots * size = omega (arith, high, slot_before size j slots below) in
          ap (λ n. take n (drop lid left)) (sym count)
          ∙ durable_left (after_cut size old slots now) lid (lid + len) left
          (durable_cut (at_rest old) (slots * size) now lid (lid + len) ends (omega (arith, ends, no_less)) (durable_at_rest old lid (lid + len) there)) leaves
          ∙ part_cut old now lid (lid + len) there (omega (arith, ends, no_less))
          ∙ ap (λ n. take n (drop lid old)) count

    module _ {placed : List Placement} (only_own : NoForeignLog sum size (after_cut size old slots now) placed left) (long : 20 ≤ size) where
      -- A header that passes in any slot did so before.
      pub cut_header_was : (slot : ℕ) (lsn mark : ℤ) → IsHeader sum (part left (slot * size) 20) lsn mark → IsHeader sum (part old (slot * size) 20) lsn mark
      cut_header_was slot lsn mark is =
          let text : List ℕ = part left (slot * size) 20 in
          let stood : part old (slot * size) (length text) ≡ text = stood_whole (slot * size) text (only_own.headers slot lsn mark is).1 in
          subst (λ (l : List ℕ). IsHeader sum l lsn mark) (sym (ap (part old (slot * size)) (sym (twenty sum size left (slot * size) lsn mark is)) ∙ stood)) is

      -- So none passes in a slot at the cut or above it: zeros stood there.
      module _ (none : NoHeaderOfZeros sum) (clean : ZerosFrom size old slots) where
        pub none_above : (k : ℕ) → slots ≤ k → (lsn mark : ℤ) → IsHeader sum (part left (k * size) 20) lsn mark → ⊥
        none_above k above lsn mark is =
            none_in_zeros sum size none long old (k * size) (λ i low high. clean i (omega (arith, low, slot_above size slots k above))) lsn mark (cut_header_was k lsn mark is)

        -- and each segment that is found lies below
        pub found_below : (least : ℕ) (s : Segment) → IsFoundSegment sum size left least s → s.slot / size < slots
        found_below least s found = elim (cases_lt (s.slot / size) slots) [
          | inl below ↦ below
          | inr above ↦ (
              let header = subst (λ n. IsHeader sum (part left n 20) (pos s.place) s.mark) (slot_found sum size left least s found) found.header in
              absurd (none_above (s.slot / size) above (pos s.place) s.mark header))
        ]

      module _ (j : ℕ) (below : j < slots) where
        same : SameIn size old left j
        same = below_same j below

        stood : StoodIn size (after_cut size old slots now) old j
        stood lid text low high some whole = stood_whole lid text whole

        -- The same segments are found in a slot below the cut,
        pub below_found : (least : ℕ) (s : Segment) → s.slot ≡ j * size → IsFoundSegment sum size old least s → IsFoundSegment sum size left least s
        below_found = found_same sum size old left j same long

        pub below_found_before : (least : ℕ) (s : Segment) → s.slot ≡ j * size → IsFoundSegment sum size left least s → IsFoundSegment sum size old least s
        below_found_before = found_was sum size old left j same (after_cut size old slots now) stood only_own long

        -- and all is met in them as before.
        module _ (place : ℕ) (mark : ℤ) (header : IsHeader sum (part left (j * size) 20) (pos place) mark) (met : List ScannedRecord) (stop : ℕ) (why : ScanEnd) where
          pub below_met : IsScan sum size old (j * size) place met stop why → IsScan sum size left (j * size) place met stop why
          below_met = scan_stays sum size old left j same (after_cut size old slots now) stood only_own long place mark header met stop why

          pub below_met_before : IsScan sum size left (j * size) place met stop why → IsScan sum size old (j * size) place met stop why
          below_met_before = scan_stood sum size old left j same (after_cut size old slots now) stood only_own long place mark header met stop why

-- Behind the cut and the sync the file is what lay below: the slots there are as before, and no header passes above.
module _ (sum : List ℕ → ℕ) (size : ℕ) (old : List ℕ) (slots : ℕ) (long : 20 ≤ size) where
  abbrev new : List ℕ
  new = take (slots * size) old

  pub none_behind : NoHeaderOfZeros sum → (k : ℕ) → slots ≤ k → (lsn mark : ℤ) → IsHeader sum (part new (k * size) 20) lsn mark → ⊥
  none_behind none k above =
      none_in_zeros sum size none long new (k * size) (λ i low high. get_or_past new i 0 (omega (arith, low, slot_above size slots k above, length-take (slots * size) old)))

  module _ (j : ℕ) (below : j < slots) where
    taken_same : SameIn size old new j
    taken_same lid len low high there =
        let count : lid + len - lid ≡ len = omega arith in
        ap (λ n. take n (drop lid new)) (sym count) ∙ part_cut old (slots * size) lid (lid + len) there (omega (arith, high, slot_before size j slots below)) ∙ ap (λ n. take n (drop lid old)) count

    taken_back : SameIn size new old j
    taken_back lid len low high there = sym (taken_same lid len low high (omega (arith, there, length-take (slots * size) old)))

    pub taken_found : (least : ℕ) (s : Segment) → s.slot ≡ j * size → IsFoundSegment sum size old least s → IsFoundSegment sum size new least s
    taken_found = found_same sum size old new j taken_same long

    pub taken_found_before : (least : ℕ) (s : Segment) → s.slot ≡ j * size → IsFoundSegment sum size new least s → IsFoundSegment sum size old least s
    taken_found_before = found_same sum size new old j taken_back long

    module _ (place : ℕ) (met : List ScannedRecord) (stop : ℕ) (why : ScanEnd) where
      pub taken_met : IsScan sum size old (j * size) place met stop why → IsScan sum size new (j * size) place met stop why
      taken_met = scan_same sum size old new j taken_same taken_back place met stop why

      pub taken_met_before : IsScan sum size new (j * size) place met stop why → IsScan sum size old (j * size) place met stop why
      taken_met_before = scan_same sum size new old j taken_back taken_same place met stop why
