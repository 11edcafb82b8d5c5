-- Zeros behind the end of a log file can be left out, where it ends with a slot: the file stands as it did with them.
use Rattle.std.proofs.Common.{◌≡◌, ◌∙◌, ◌+◌, ◌*◌, ◌/◌, ◌%◌, ◌≤◌, ◌-◌, ℕ, pos, List, length, replicate, sym, arith, inl, inr}
use Rattle.std.proofs.lemmas.Bool.{cases_lt}
use Rattle.std.proofs.lemmas.List.{get_or_past}
use Rattle.sled_codec.specs.History.{History}
use Rattle.sled_codec.specs.Places.{part}
use Rattle.sled_codec.specs.Snapshots.{SnapshotModel}
use Rattle.sled_core.specs.declared.iobuf.SegmentPosition.{SegmentPosition}
use Rattle.sled_core.specs.declared.iterator.Segment.{Segment}
use Rattle.sled_core.specs.inside.LogFile.{padded}
use Rattle.sled_core.specs.inside.Reached.{BegunSegment, StandsAmong}
use Rattle.sled_core.specs.Recoverable.{NoHeaderOfZeros}
use Rattle.sled_core.specs.inside.Scan.{IsFoundSegment}
use Rattle.sled_core.proofs.Sealed.Padded.{padded_get}
use Rattle.sled_core.proofs.Read.FoundLemmas.{found_there}
use Rattle.sled_core.proofs.Reached.AlikeStands.{alike_stands}
use Rattle.sled_core.proofs.Reserve.Ranges.{part-append}
use Rattle.sled_core.proofs.Tail.Multiples.{apart}
use Rattle.sled_core.proofs.Torn.AlikeSlots.{SameIn, slot_found}
use Rattle.sled_core.proofs.Torn.WrittenBegun.{none_in_zeros}
use Rattle.sled_core.proofs.Torn.WrittenBeside.{found_moved}

module _ (sum : List ℕ → ℕ) (none : NoHeaderOfZeros sum) (size : ℕ) (some : 256 ≤ size) (log : List ℕ) (ends : length log % size ≡ 0) (to : ℕ) where
  -- the file with the zeros
  abbrev longer : List ℕ
  longer = padded to log

  -- a slot lies in front of them
  abbrev Used : ℕ → Type 0
  Used j = j * size + size ≤ length log

  same_part : (lid len : ℕ) → lid + len ≤ length log → part log lid len ≡ part longer lid len
  same_part lid len there = sym (part-append log (replicate (to - length log) 0) lid len there)

  -- So does each segment that is found.
  in_front : (least : ℕ) (s : Segment) → IsFoundSegment sum size longer least s → s.slot + size ≤ length log
  in_front least s found = elim (cases_lt s.slot (length log)) [
    | inl before ↦ apart size (omega (arith, some)) s.slot (length log) found.slot ends before
    | inr past ↦ absurd (none_in_zeros sum 20 none (omega arith) longer s.slot
        (λ i low high. padded_get to log i ∙ get_or_past log i 0 (omega (arith, low, past))) (pos s.place) s.mark found.header)
  ]

  its_slot : (least : ℕ) (s : Segment) → IsFoundSegment sum size longer least s → Used (s.slot / size)
  its_slot least s found = let before = in_front least s found in omega (arith, before, slot_found sum size longer least s found)

  -- The same are found, and read as they are with the zeros.
  found_on : (least : ℕ) (s : Segment) → IsFoundSegment sum size log least s → IsFoundSegment sum size longer least s
  found_on least s found =
      found_moved sum size log longer least s
      (part-append log (replicate (to - length log) 0) s.slot 20 (found_there sum size log least s found)) found

  same_in : (j : ℕ) → Used j → SameIn size longer log j
  same_in j used = λ lid len low high there. same_part lid len (omega (arith, used, high))

  on_in : (j : ℕ) → Used j → SameIn size log longer j
  on_in j used = λ lid len low high there. part-append log (replicate (to - length log) 0) lid len there

  pub shorter_stands : (H : History) (reach : ℕ) (first : SnapshotModel) {site : SegmentPosition} {from : ℕ} {others : List BegunSegment} {held : ℕ}
      → StandsAmong sum held size longer site from others reach H first → StandsAmong sum held size log site from others reach H first
  shorter_stands =
      alike_stands sum size some longer log Used same_in on_in its_slot (λ least s found. its_slot least s (found_on least s found))
