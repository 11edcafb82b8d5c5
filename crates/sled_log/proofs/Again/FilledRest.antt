-- Zeros were written from a place in a slot, behind the header, to the end of the slot: all segments that are found then were found before, and the reading of that slot ends there.
use Rattle.std.proofs.Common.{⊎_elim, ◌≡◌, ◌⊎◌, ◌∙◌, ◌+◌, ◌/◌, ◌%◌, ◌<◌, ◌≤◌, ℕ, pos, List, length, drop, replicate, get_or, sym, ap, subst, arith, inl, inr}
use Rattle.std.proofs.lemmas.Bool.{cases_eq}
use Rattle.std.proofs.lemmas.List.{length-replicate, get_or-replicate, get_or-take, get_or-drop}
use Rattle.sled_codec.specs.History.{no_history}
use Rattle.sled_codec.specs.Record.{IsHeader}
use Rattle.sled_store.specs.Device.{overwritten}
use Rattle.sled_store.proofs.LogFile.OverwrittenLemmas.{overwritten-part}
use Rattle.sled_core.specs.declared.iterator.Segment.{Segment}
use Rattle.sled_core.specs.declared.iterator.scan.ScannedRecord.{ScannedRecord}
use Rattle.sled_core.specs.declared.iterator.scan.ScanEnd.TheVariants.{Broken}
use Rattle.sled_core.specs.inside.Scan.{IsFoundSegment}
use Rattle.sled_core.specs.Scan.{IsPath, EndsThere, IsScan}
use Rattle.sled_core.proofs.Read.FoundLemmas.{found_there}
use Rattle.sled_core.proofs.Read.PathLemmas.{zeros_empty}
use Rattle.sled_log.specs.Recovery.{Scanned, IsScanned}
use Rattle.sled_log.proofs.Moments.ZerosStand.{bytes_same, slot_beside, lay_before, path_there}

-- a segment that is read up to an offset, where nothing stands
abbrev pub broken_at : Segment → List ScannedRecord → ℕ → Scanned
broken_at segment met offset = record { segment = segment; met = met; stop = offset; why = Broken }

module _ (sum : List ℕ → ℕ) (size : ℕ) (old : List ℕ) (some : 256 ≤ size) (slot offset count : ℕ) (aligned : slot % size ≡ 0) (behind : 20 ≤ offset) (to_end : offset + count ≡ size) (reach : slot + 20 ≤ length old) where
  abbrev at : ℕ
  at = slot + offset

  abbrev zeros : List ℕ
  zeros = replicate count 0

  abbrev pub filled : List ℕ
  filled = overwritten old at zeros

  begin : slot ≤ at
  begin = omega arith

  all : at + count ≡ slot + size
  all = omega (arith, to_end)

  low : slot ≤ length old
  low = omega (arith, reach)

  pub found_before : (least : ℕ) (s : Segment) → IsFoundSegment sum size filled least s → IsFoundSegment sum size old least s
  found_before least s found =
      let there = found_there sum size filled least s found in
      let before : s.slot + 20 ≤ length old = elim (cases_eq s.slot slot) [
        | inl same ↦ omega (arith, reach, same)
        | inr other ↦ lay_before sum size old some no_history at count slot aligned begin all low s.slot 20 found.slot other (omega arith) (omega (arith, some)) there
      ] in
      let apart_here : (s.slot + 20 ≤ at) ⊎ (at + count ≤ s.slot) = elim (cases_eq s.slot slot) [
        | inl same ↦ inl (omega (arith, behind, same))
        | inr other ↦ ⊎_elim (λ under. inl (omega (arith, under, some))) (λ past. inr past) (slot_beside sum size old some no_history at count slot aligned begin all low s.slot found.slot other)
      ] in
      let alike = bytes_same sum size old some no_history at count slot aligned begin all low s.slot 20 before apart_here in
      record { slot = found.slot; header = subst (λ (l : List ℕ). IsHeader sum l (pos s.place) s.mark) alike found.header; not_below = found.not_below }

  -- what was met before them is still met, and nothing behind that
  pub ends_there : (s : Segment) (met : List ScannedRecord) → s.slot ≡ slot → offset + 32 ≤ size → IsPath sum size old s.slot s.place 20 met offset → IsScanned sum size filled (broken_at s met offset)
  unfolding IsScan EndsThere
  ends_there s met here room path =
      let five : 4 < count = omega (arith, room, to_end) in
      let long : length zeros ≡ count = length-replicate count 0 in
      let zero : get_or filled (s.slot + offset + 4) 0 ≡ 0 =
      ap (λ n. get_or filled (n + offset + 4) 0) here
      ∙ sym (get_or-drop at filled 4 0) ∙ sym (get_or-take (length zeros) (drop at filled) 4 0 (omega (arith, five, long)))
      ∙ ap (λ (l : List ℕ). get_or l 4 0) (overwritten-part old at zeros) ∙ get_or-replicate count 4 0 0 five in (
        path_there sum size old some no_history at count slot aligned begin all low s.slot s.place (ap (λ n. n % size) here ∙ aligned) 20 met offset (inl (omega (arith, here))) path,
        (room, zeros_empty sum size filled (s.slot + offset) (s.place / size) zero),
      )
