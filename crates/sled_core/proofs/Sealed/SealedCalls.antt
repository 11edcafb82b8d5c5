-- One of the sealed buffers of the current segment is written, the first one or another: what a crash leaves of it stands as before, and behind it the log file stands up to where the run at the front ends, with what the buffers have laid in it.
use Rattle.sled_core.specs.declared.iterator.scan.ScanEnd.TheVariants.{Broken}
use Rattle.sled_core.proofs.Sealed.RecordsEnd.{records_why}
use Rattle.std.proofs.Common.{◌≢◌, ◌≡◌, ◌≤◌, ◌<◌, ◌+◌, ◌/◌, ◌%◌, ◌^◌, ◌-◌, ◌⊎◌, replicate, ℕ, pos, max, false, List, [], ◌∷◌, ◌++◌, length, take, sym, subst, arith, inl, inr}
use Rattle.std.specs.List.{All}
use Rattle.std.proofs.lemmas.Bool.{cases_lt}
use Rattle.sled_codec.specs.History.{History}
use Rattle.sled_codec.specs.Snapshots.{SnapshotModel}
use Rattle.sled_store.specs.Device.{overwritten}
use Rattle.sled_store.proofs.Histories.Ascending.{Ascends}
use Rattle.sled_core.specs.declared.iobuf.Reserved.{Reserved}
use Rattle.sled_core.specs.declared.iobuf.Sealed.{Sealed}
use Rattle.sled_core.specs.declared.iobuf.SegmentPosition.{SegmentPosition}
use Rattle.sled_core.specs.inside.Buffers.{records_end, NoPadding, Stands, batches_in, completed_in}
use Rattle.sled_core.specs.inside.Fits.{HasMark}
use Rattle.sled_core.specs.LogFile.{HasHeader}
use Rattle.sled_core.specs.inside.LogFile.{padded}
use Rattle.sled_core.specs.inside.Reached.{BegunSegment, StandsAmong}
use Rattle.sled_core.specs.inside.Recoverable.{NoBatchEnds}
use Rattle.sled_core.specs.Recoverable.{NoHeaderOfZeros}
use Rattle.sled_core.specs.inside.SealedBuffers.{Agrees, AreSealed, Laid, run_count, run_end}
use Rattle.sled_core.specs.SealedBuffers.{sealed_end, bytes_between}
use Rattle.sled_core.specs.Tail.{least_place}
use Rattle.sled_core.proofs.Tail.LogFileLemmas.{header_kept}
use Rattle.sled_core.proofs.Sealed.Padded.{length-padded, overwritten-further, padded_get, padded_long}
use Rattle.sled_core.proofs.Reserve.Ranges.{part-append}
use Rattle.sled_codec.specs.Record.{IsHeader}
use Rattle.sled_core.proofs.Flush.WrittenFile.{header_written}
use Rattle.sled_core.proofs.Reached.BufferPath.{HasOnly}
use Rattle.sled_core.proofs.Sealed.BehindUnwritten.{head_headed, written_behind_unwritten}
use Rattle.sled_core.proofs.Sealed.HeadSealed.{head_sealed_written}
use Rattle.sled_core.proofs.Sealed.LaidLemmas.{EndsRise, laid_same}
use Rattle.sled_core.proofs.Sealed.OneWritten.{has_written, long, rises_at}

module _ (sum : List ℕ → ℕ) (size : ℕ) (some : 256 ≤ size) (old : List ℕ) (site : SegmentPosition)
    (place_begins : site.place % size ≡ 0) (slot_begins : site.slot % size ≡ 0) (place_small : site.place + size < 2 ^ 63) (slot_small : site.slot + size < 2 ^ 63)
    (bytes : List ℕ) (from : ℕ) (begins : (from ≡ 0) ⊎ (20 ≤ from)) (rs : List Reserved) where
  -- the file with zeros behind its end, up to its slot or further
  abbrev filled : ℕ → List ℕ
  filled to = padded to old

  -- The first buffer.
  module _ (b : Sealed) (rest : List Sealed) (fresh : b.is_written ≡ false) (closed : b.open_count ≡ 0) (are : AreSealed from rs (b ∷ rest)) (rise : EndsRise from (b ∷ rest) size) (inside : b.end ≤ length bytes)
      {H : History} (header : from ≡ 0 → HasMark sum site bytes H)
      (old_header : 0 < from → HasHeader sum old site) (laid : Laid old site.slot bytes from (b ∷ rest) size) where
    abbrev asked : List ℕ
    asked = bytes_between bytes from b.end

    abbrev new : List ℕ
    new = overwritten old (site.slot + from) asked

    up : from < b.end
    up = rise.0

    length_asked : from + length asked ≡ b.end
    length_asked = long old site.slot bytes from [] b rest size rise inside

    pub same_file : (to : ℕ) → overwritten (filled to) (site.slot + from) asked ≡ padded to new
    same_file to = let l = length_asked in overwritten-further to old (site.slot + from) asked (omega (arith, l, up))

    pub laid_filled : (to : ℕ) → Laid (filled to) site.slot bytes from (b ∷ rest) size
    laid_filled to = laid_same site.slot old (filled to) bytes from (b ∷ rest) size rise (record { grows = omega (arith, length-padded to old); same = λ i above below. padded_get to old (site.slot + i) }) laid

    -- The header of its segment is there.
    pub first_header : HasHeader sum new site
    first_header = elim (cases_lt 0 from) [
      | inl later ↦ header_kept sum size old (site.slot + from) asked site (elim begins [ inl none ↦ absurd (omega (arith, none, later)) | inr far ↦ omega (arith, far) ]) (old_header later)
      | inr first_one ↦ (
          let none : from ≡ 0 = omega (arith, first_one) in
          let agrees = has_written old site.slot bytes from [] b rest size rise inside in
          header_written sum new bytes site b.end H (omega (arith, place_small)) (head_headed from rs b rest are none) (subst (λ n. Agrees new site.slot bytes n b.end) none agrees) (header none))
    ]

    begun : 20 ≤ b.end
    begun = elim begins [ inl none ↦ head_headed from rs b rest are none | inr far ↦ omega (arith, far, up) ]

    -- and stays there with zeros behind the end of the file
    pub padded_header : (to : ℕ) → HasHeader sum (padded to new) site
    padded_header to =
        let h = first_header in
        let agrees = has_written old site.slot bytes from [] b rest size rise inside in
        let there = agrees.in_file in
        let long : site.slot + 20 ≤ length new = omega (arith, there, begun) in
        record { mark = h.mark; header = subst (λ (l : List ℕ). IsHeader sum l (pos site.place) h.mark) (sym (part-append new (replicate (to - length new) 0) site.slot 20 long)) h.header; below = h.below }

    -- A reader reads up to the end of those that are written now, where nothing fills the segment.
    pub first_alone : All (Stands sum size (site.place / size) bytes) rs → from + 32 ≤ size → All NoPadding (take (b.count + run_count rest) rs) → NoHeaderOfZeros sum → (reach : ℕ) (first : SnapshotModel) → HasOnly H (completed_in site bytes (take (b.count + run_count rest) rs)) (batches_in site bytes (take (b.count + run_count rest) rs)) (site.place + max 20 from) (site.place + run_end b.end rest)
        → (records_why size (take (b.count + run_count rest) rs) (run_end b.end rest) ≢ Broken → NoBatchEnds H (site.place + records_end (take (b.count + run_count rest) rs) (run_end b.end rest)) (site.place + size)) → Ascends H.messages → least_place size first ≤ site.place
        → (to : ℕ) → site.slot ≤ to → {others : List BegunSegment} → {held : ℕ} → StandsAmong sum held size (filled to) site from others reach H first → StandsAmong sum held size (padded to new) site (run_end b.end rest) others (site.place + run_end b.end rest) H first
    first_alone stand room plain zeros reach first has no_end ordered low to far {others} {held} alone = subst (λ (l : List ℕ). StandsAmong sum held size l site (run_end b.end rest) others (site.place + run_end b.end rest) H first) (same_file to)
        (head_sealed_written sum zeros size some (filled to) site place_begins slot_begins place_small slot_small bytes from begins rs b rest fresh closed are rise inside stand room header (laid_filled to) reach first alone has no_end
        ordered (omega (arith, padded_long to old, far)) low (subst (λ (l : List ℕ). HasHeader sum l site) (sym (same_file to)) (padded_header to)) plain)

  -- Another one, behind a first one that isn't written.
  module _ (x : Sealed) (xs : List Sealed) (b : Sealed) (rest : List Sealed) (fresh : x.is_written ≡ false) (are : AreSealed from rs (x ∷ xs ++ b ∷ rest)) (rise : EndsRise from (x ∷ xs ++ b ∷ rest) size) (inside : b.end ≤ length bytes)
      (number : ℕ) (stand : All (Stands sum size number bytes) rs) (laid : Laid old site.slot bytes from (x ∷ xs ++ b ∷ rest) size) where
    abbrev at : ℕ
    at = sealed_end x.end xs

    abbrev asked_later : List ℕ
    asked_later = bytes_between bytes at b.end

    length_later : at + length asked_later ≡ b.end
    length_later = long old site.slot bytes from (x ∷ xs) b rest size rise inside

    same_later : (to : ℕ) → overwritten (filled to) (site.slot + at) asked_later ≡ padded to (overwritten old (site.slot + at) asked_later)
    same_later to = let l = length_later in let lies = rises_at x.end xs b rest size rise.1 in let up = lies.1 in overwritten-further to old (site.slot + at) asked_later (omega (arith, l, up))

    laid_later : (to : ℕ) → Laid (filled to) site.slot bytes from (x ∷ xs ++ b ∷ rest) size
    laid_later to =
        laid_same site.slot old (filled to) bytes from (x ∷ xs ++ b ∷ rest) size rise (record { grows = omega (arith, length-padded to old); same = λ i above below. padded_get to old (site.slot + i) }) laid

    -- A reader reads no further than before.
    pub later_alone : NoHeaderOfZeros sum → (reach : ℕ) (H : History) (first : SnapshotModel) (to : ℕ) → site.slot ≤ to → {others : List BegunSegment} → {held : ℕ} → StandsAmong sum held size (filled to) site from others reach H first
        → StandsAmong sum held size (padded to (overwritten old (site.slot + at) asked_later)) site from others reach H first
    later_alone zeros reach H first to far {others} {held} alone = subst (λ (l : List ℕ). StandsAmong sum held size l site from others reach H first) (same_later to)
        (written_behind_unwritten sum zeros size some old site slot_begins bytes from begins rs x xs b rest fresh are rise inside number stand reach H first (filled to) (laid_later to) alone (omega (arith, padded_long to old, far)))
