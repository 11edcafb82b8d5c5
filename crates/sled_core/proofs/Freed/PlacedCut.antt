-- Slots at the end of the log file that are free are cut off, and the cut is synced: what is own of the file that is shown is so of the shorter one, by what
-- was placed and has stood at that sync, too.
use Rattle.std.proofs.Common.{◌≡◌, ◌∙◌, ◌+◌, ◌-◌, ◌*◌, ◌/◌, ◌≤◌, ℕ, min, max, true, List, [], ◌∷◌, length, length-drop, length-take, take, drop, None}
use Rattle.std.proofs.Common.{ap, arith}
use Rattle.std.specs.List.{All}
use Rattle.std.proofs.lemmas.List.Elements.{All-contains}
use Rattle.sled_codec.specs.Places.{part}
use Rattle.sled_store.specs.Device.{Cut, State, Synced, step}
use Rattle.sled_store.specs.Foreign.{HeaderWasPlaced, RecordWasPlaced}
use Rattle.sled_store.specs.Readers.{IsOwnRange}
use Rattle.sled_store.specs.SegmentStates.{Machine, is_free, slot_at}
use Rattle.sled_store.proofs.Crashes.StoodLemmas.{header_settled, record_settled}
use Rattle.sled_store.proofs.Segments.Elements.{all_from_in}
use Rattle.sled_core.specs.declared.iobuf.Sealed.{Sealed}
use Rattle.sled_core.specs.declared.iobuf.SegmentPosition.{SegmentPosition}
use Rattle.sled_core.specs.Begun.{SegmentView}
use Rattle.sled_core.specs.NoForeign.{NoHeaderOfZeros}
use Rattle.sled_core.specs.inside.Cleared.{cleared, is_stale}
use Rattle.sled_core.specs.inside.FreeSlots.{HasSlot}
use Rattle.sled_core.specs.inside.OwnLog.{AreWritten, HasOwnSlot, HasPlacedFile, IsOwnFile, IsOwnSegment}
use Rattle.sled_core.specs.inside.Shown.{shown}
use Rattle.sled_core.proofs.Cleared.Offsets.{zeroed_long}
use Rattle.sled_core.proofs.Freed.LineCut.{each_cut, line_cut}
use Rattle.sled_core.proofs.Freed.PlacedLost.{placed_same}
use Rattle.sled_core.proofs.OwnLog.Kept.{part_in}

-- What is own of a file is own by others, too, where each text that lies in the file and is own is so.
module _ (sum : List ℕ → ℕ) (size : ℕ) (Header Header' : ℕ → List ℕ → Type 0) (Own Own' : ℕ → ℕ → List ℕ → Type 0) (log : List ℕ)
    (headers : (at : ℕ) (text : List ℕ) → at + length text ≤ length log → Header at text → Header' at text)
    (records : (number at : ℕ) (text : List ℕ) → at + length text ≤ length log → Own number at text → Own' number at text) where
  range_again : (number slot from to : ℕ) → IsOwnRange sum size Header Own number slot (part log slot size) from to
      → IsOwnRange sum size Header' Own' number slot (part log slot size) from to
  range_again number slot from to r = record {
    there = r.there;
    rises = r.rises;
    headed = λ zero. headers slot (take 20 (part log slot size)) (omega (arith, there, rises, long, gone, length-take 20 (part log slot size))) (r.headed zero);
    comes = r.comes;
    own = λ at len reads high. records number (slot + at) (part (part log slot size) at len)
        (omega (arith, there, rises, long, gone, high, length-take len (drop at (part log slot size)))) (r.own at len reads high);
  } where
    there : to ≤ length (part log slot size)
    there = r.there

    rises : max 20 from ≤ to
    rises = r.rises

    long : length (part log slot size) ≡ min size (length (drop slot log))
    long = length-take size (drop slot log)

    gone : length (drop slot log) ≡ length log - slot
    gone = length-drop slot log

  written_again : (number slot : ℕ) (from : ℕ) (bs : List Sealed) → AreWritten (IsOwnRange sum size Header Own number slot (part log slot size)) from bs
      → AreWritten (IsOwnRange sum size Header' Own' number slot (part log slot size)) from bs
  written_again number slot from [] are = are
  written_again number slot from (b ∷ bs) are = (λ is. range_again number slot from b.end (are.0 is), written_again number slot b.end bs are.1)

  segment_again : (site : SegmentPosition) (from : ℕ) (bs : List Sealed) → IsOwnSegment sum size Header Own log site from bs
      → IsOwnSegment sum size Header' Own' log site from bs
  segment_again site from bs its = record {
    front = λ later. range_again (site.place / size) site.slot 0 from (its.front later);
    behind = written_again (site.place / size) site.slot from bs its.behind;
  }

  slot_again : (k : ℕ) → HasOwnSlot sum size Header Own log k → HasOwnSlot sum size Header' Own' log k
  slot_again k has = record {
    header = λ to lsn mark is.
        let its = has.header to lsn mark is in
        (its.0, headers (k * size) (part log (k * size) 20) (omega (arith, its.0, length-take 20 (drop (k * size) log))) its.1);
    records = λ to lsn mark at len is r.
        let its = has.records to lsn mark at len is r in
        (its.0, records (lsn / size) (k * size + at) (part log (k * size + at) len) (omega (arith, its.0, length-take len (drop (k * size + at) log))) its.1);
  }

  file_again : (line : List SegmentView) → IsOwnFile sum size Header Own log line → IsOwnFile sum size Header' Own' log line
  file_again line file = record {
    segments = all_from_in (λ v. IsOwnSegment sum size Header' Own' log v.parts.site v.parts.written_len v.parts.sealed) line (λ v there.
        segment_again v.parts.site v.parts.written_len v.parts.sealed
        (All-contains (λ u. IsOwnSegment sum size Header Own log u.parts.site u.parts.written_len u.parts.sealed) line v file.segments there));
    others = λ k beside. slot_again k (file.others k beside);
  }

-- All that was placed stands in the file (as it does in each that is at rest).
module _ (sum : List ℕ → ℕ) (none : NoHeaderOfZeros sum) (size : ℕ) (some : 256 ≤ size) (m : Machine) (line : List SegmentView)
    (taken : All (HasSlot size m) line) (slots : ℕ) (free : (k : ℕ) → slots ≤ k → is_free (slot_at m k).state ≡ true) (s : State)
    (headers : (at : ℕ) (text : List ℕ) → HeaderWasPlaced s.placed at text → part s.log.bytes at (length text) ≡ text)
    (records : (number at : ℕ) (text : List ℕ) → RecordWasPlaced sum size s.placed number at text → part s.log.bytes at (length text) ≡ text) where
  abbrev behind : State
  behind = step Synced (step (Cut (slots * size) (slots * size)) s)

  abbrev short : List ℕ
  short = take (slots * size) s.log.bytes

  -- So does what lies in front of the cut behind it.
  in_short : (at : ℕ) (text : List ℕ) → at + length text ≤ length (cleared size m line short) → part s.log.bytes at (length text) ≡ text
      → part short at (length text) ≡ text
  in_short at text below stands =
      let none_before : 0 + at ≡ at = omega arith in
      part_in (slots * size) s.log.bytes 0 at (length text)
      (omega (arith, below, zeroed_long (is_stale size m line) short, length-take (slots * size) s.log.bytes))
      ∙ ap (λ n. part s.log.bytes n (length text)) none_before ∙ stands

  pub placed_cut : HasPlacedFile sum size (shown size None m line s) line → HasPlacedFile sum size (shown size None m line behind) line
  placed_cut own =
      file_again sum size (HeaderWasPlaced s.placed) (HeaderWasPlaced behind.placed) (RecordWasPlaced sum size s.placed)
      (RecordWasPlaced sum size behind.placed) (cleared size m line short)
      (λ at text below laid. header_settled short s.placed at text laid (in_short at text below (headers at text laid)))
      (λ number at text below laid. record_settled sum size short s.placed number at text laid (in_short at text below (records number at text laid))) line
      (placed_same sum none size some (HeaderWasPlaced s.placed) (RecordWasPlaced sum size s.placed) (cleared size m line s.log.bytes)
      (cleared size m line short) line (line_cut size some m line s.log.bytes slots free taken) (each_cut size some m line s.log.bytes slots free) own)
