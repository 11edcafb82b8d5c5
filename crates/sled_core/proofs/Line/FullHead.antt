-- The first sealed buffer is written, and the run of those that are written then ends with the segment: the reading goes on behind it, in those that were begun there. What was reached ends with the records; where no header had room, that is what was reached before.
use Rattle.sled_core.specs.declared.iterator.scan.ScanEnd.TheVariants.{Broken}
use Rattle.sled_core.proofs.Sealed.RecordsEnd.{records_why}
use Rattle.std.proofs.Common.{◌∙◌, ◌≢◌, ◌≡◌, ◌≤◌, ◌<◌, ◌+◌, ◌/◌, ◌%◌, ◌^◌, ◌⊎◌, ℕ, max, false, List, [], ◌∷◌, length, take, get_or, sym, refl, subst, arith, inl, inr}
use Rattle.std.specs.List.{All}
use Rattle.std.proofs.lemmas.Bool.{cases_lt}
use Rattle.sled_codec.specs.History.{History}
use Rattle.sled_codec.specs.Snapshots.{SnapshotModel}
use Rattle.sled_store.specs.Device.{overwritten, LeavesLog, Placement}
use Rattle.sled_store.specs.Foreign.{NoForeignLog}
use Rattle.sled_store.proofs.Histories.Ascending.{Ascends}
use Rattle.sled_core.specs.OpenBatches.{stable_below}
use Rattle.sled_core.specs.declared.iobuf.Reserved.{Reserved}
use Rattle.sled_core.specs.declared.iobuf.Sealed.{Sealed}
use Rattle.sled_core.specs.declared.iobuf.SegmentPosition.{SegmentPosition}
use Rattle.sled_core.specs.inside.Buffers.{IsChain, NoPadding, Stands, batches_in, completed_in, records_end, records_of}
use Rattle.sled_core.specs.inside.Fits.{HasMark}
use Rattle.sled_core.specs.LogFile.{HasHeader}
use Rattle.sled_core.specs.inside.LogFile.{padded}
use Rattle.sled_core.specs.inside.Reached.{BegunSegment, StandsAmong}
use Rattle.sled_core.specs.inside.Recoverable.{NoBatchBegins, NoBatchEnds, NoMessageBegins}
use Rattle.sled_core.specs.Recoverable.{NoHeaderOfZeros}
use Rattle.sled_core.specs.inside.SealedBuffers.{AreSealed, Laid, run_end, run_count}
use Rattle.sled_core.specs.SealedBuffers.{bytes_between}
use Rattle.sled_core.specs.Tail.{least_place}
use Rattle.sled_core.proofs.Sealed.Padded.{padded_long}
use Rattle.sled_core.proofs.Reached.BufferPath.{HasOnly}
use Rattle.sled_core.specs.inside.Full.{StandsFull}
use Rattle.sled_core.proofs.Reached.StandsTo.{StandsTo}
use Rattle.sled_core.proofs.Reserve.Entries.{padding_in, reserved_in}
use Rattle.sled_core.proofs.Reserve.Ranges.{chain_grows, chain_within}
use Rattle.sled_core.proofs.Sealed.FullSegment.{full_among}
use Rattle.sled_core.proofs.Sealed.GapWritten.{gap_written}
use Rattle.sled_core.proofs.Sealed.HeadSealed.{head_sealed_filled, torn_head_sealed}
use Rattle.sled_core.proofs.Sealed.LaidLemmas.{EndsRise}
use Rattle.sled_core.proofs.Sealed.RestWritten.{rest_stands, torn_rest}
use Rattle.sled_core.proofs.Sealed.RunPath.{never_broken, MeetsRun, meets_run}
use Rattle.sled_core.proofs.Sealed.SealedCalls.{laid_filled, padded_header, same_file}
use Rattle.sled_core.proofs.Torn.TornLemmas.{after_write}

-- Where no header has room from an offset on, no record begins there.
no_records : (sum : List ℕ → ℕ) (size number : ℕ) (bytes : List ℕ) (from last : ℕ) (rs : List Reserved) → size < from + 32 → IsChain from rs last → All (Stands sum size number bytes) rs → All NoPadding rs → last ≡ from
no_records sum size number bytes from last [] full chain stand plain = sym chain
no_records sum size number bytes from last (r ∷ rs) full chain stand plain =
    absurd (let room = (reserved_in sum size number bytes r (plain 0 r (omega arith)) (stand 0 r (omega arith))).room in let at = chain.0 in omega (arith, room, at, full))

-- Where entries end before the segment does none of them fills it.
pub plain_run : (sum : List ℕ → ℕ) (size number : ℕ) (bytes : List ℕ) (from end : ℕ) (rs : List Reserved) → IsChain from rs end → end < size → All (Stands sum size number bytes) rs → All NoPadding rs
plain_run sum size number bytes from end rs chain below stand k d lt is =
    let to_end = (padding_in sum size number bytes (get_or rs k d) is (stand k d lt)).to_end in
    let within = (chain_within from end rs chain k d lt).1 in
    omega (arith, to_end, within, below)

-- Where the first buffer isn't written, whether a header has room where it begins or not.
module _ (sum : List ℕ → ℕ) (none : NoHeaderOfZeros sum) (size : ℕ) (some : 256 ≤ size) (file : List ℕ) (site : SegmentPosition)
    (place_begins : site.place % size ≡ 0) (slot_begins : site.slot % size ≡ 0) (place_small : site.place + size < 2 ^ 63) (slot_small : site.slot + size < 2 ^ 63)
    (bytes : List ℕ) (from : ℕ) (begins : (from ≡ 0) ⊎ (20 ≤ from)) (rs : List Reserved) (b : Sealed) (rest : List Sealed)
    (fresh : b.is_written ≡ false) (closed : b.open_count ≡ 0) (are : AreSealed from rs (b ∷ rest)) (rise : EndsRise from (b ∷ rest) size) (inside : b.end ≤ length bytes)
    (stand : All (Stands sum size (site.place / size) bytes) rs)
    {H : History} (header : from ≡ 0 → HasMark sum site bytes H)
    (laid : Laid file site.slot bytes from (b ∷ rest) size) {others : List BegunSegment} (reach : ℕ) (first : SnapshotModel) {held : ℕ} (alone : StandsAmong sum held size file site from others reach H first) where
  abbrev asked : List ℕ
  asked = bytes_between bytes from b.end

  abbrev new : List ℕ
  new = overwritten file (site.slot + from) asked

  -- where those end that are written now
  abbrev stop : ℕ
  stop = run_end b.end rest

  -- and their entries
  abbrev done : List Reserved
  done = take (b.count + run_count rest) rs

  -- where the records of these end
  abbrev last : ℕ
  last = records_end done stop

  run : MeetsRun sum size file new site bytes from b.end done stop
  run = meets_run sum size file site place_begins slot_begins place_small slot_small bytes from rs b rest fresh closed are rise inside stand laid

  -- they end behind what was written
  behind_from : max 20 from ≤ last
  behind_from = chain_grows (max 20 from) last (records_of done) run.records.chain

  within : from + length asked ≤ size
  within = let covers = run.covers in let reaches = run.reaches in omega (arith, covers, reaches)

  left_over : from < size
  left_over = let reaches = run.reaches in omega (arith, reaches, rise.0)

  module _ (has : HasOnly H (completed_in site bytes done) (batches_in site bytes done) (site.place + max 20 from) (site.place + stop)) (no_end : records_why size done stop ≢ Broken → NoBatchEnds H (site.place + last) (site.place + size)) where
    -- What a crash leaves of it.
    pub torn_head_any : (now left : List ℕ) → length now ≤ length asked → LeavesLog (after_write file (site.slot + from) asked now) left → {placed : List Placement}
        → NoForeignLog sum size (after_write file (site.slot + from) asked now) placed left → StandsTo sum size left H (stable_below reach H.batches) first reach
    torn_head_any now left no_more leaves {placed} only_own = elim (cases_lt size (from + 32)) [
      | inl full ↦ torn_rest sum size some file site from from asked within slot_begins (omega arith) left_over full reach H first alone.stands alone.here now left no_more leaves {placed = placed} only_own
      | inr room ↦ torn_head_sealed sum none size some file site place_begins slot_begins place_small slot_small bytes from begins rs b rest fresh closed are rise inside stand room header laid reach first alone has no_end now left no_more leaves {placed = placed} only_own
    ]

    -- All of it, where the file reaches up to the slot.
    module _ (ordered : Ascends H.messages) (there : site.slot ≤ length file) (low_enough : least_place size first ≤ site.place) (has_header : HasHeader sum new site) where
      -- a padding alone is written, where no header has room
      alone_rest : size < from + 32 → StandsFull sum held size new (site.place + size) others (site.place + last) H first
      alone_rest full =
          let begun : 0 < from = omega (arith, some, full) in
          let at : last ≡ from =
          no_records sum size (site.place / size) bytes from last (records_of done) full (let same : max 20 from ≡ from = elim begins [ inl none_yet ↦ absurd (omega (arith, none_yet, begun)) | inr far ↦ omega (arith, far) ] in subst (λ n. IsChain n (records_of done) last) same run.records.chain) run.records.stand run.records.plain in
          let reached : reach ≡ site.place + from = elim alone.reached [ inl here ↦ here | inr next ↦ absurd (let none_yet = next.0 in omega (arith, none_yet, begun)) ] in
          let nothing : NoMessageBegins H (site.place + last) (site.place + size) × NoBatchBegins H (site.place + last) (site.place + size) = elim run.records.last [ inl l ↦ absurd (let same = l.1 in let far = run.far in omega (arith, same, at, far, rise.0)) | inr f ↦ run.none_filled H has f ] in
          let goes : records_why size done stop ≢ Broken = elim run.records.last [ inl l ↦ absurd (let same = l.1 in let far = run.far in omega (arith, same, at, far, rise.0)) | inr f ↦ λ broken. never_broken size last (sym f.reason ∙ broken) ] in
          let among : StandsAmong sum held size new site from others reach H first =
          gap_written sum size some file site from others reach H first alone site from asked within slot_begins there refl
          (rest_stands sum size some file site from from asked within slot_begins (omega arith) left_over full reach H first alone.stands alone.here there) in
          subst (λ n. StandsFull sum held size new (site.place + size) others (site.place + n) H first) (sym at)
          (full_among sum size some new site place_begins from begun (omega (arith, left_over)) full H first low_enough (subst (λ n. StandsAmong sum held size new site from others n H first) reached among)
          (subst (λ n. NoMessageBegins H (site.place + n) (site.place + size)) at nothing.0)
          (subst (λ n. NoBatchBegins H (site.place + n) (site.place + size)) at nothing.1)
          (subst (λ n. NoBatchEnds H (site.place + n) (site.place + size)) at (no_end goes)))

      pub head_full : stop ≡ size → StandsFull sum held size new (site.place + size) others (site.place + last) H first
      head_full ends = elim (cases_lt size (from + 32)) [
        | inl full ↦ alone_rest full
        | inr room ↦ head_sealed_filled sum none size some file site place_begins slot_begins place_small slot_small bytes from begins rs b rest fresh closed are rise inside stand room header laid reach first alone has no_end
            ordered there low_enough has_header ends
      ]

-- So it is with zeros behind the end of the file.
pub first_full : (sum : List ℕ → ℕ) (size : ℕ) (some : 256 ≤ size) (old : List ℕ) (site : SegmentPosition)
    (place_begins : site.place % size ≡ 0) (slot_begins : site.slot % size ≡ 0) (place_small : site.place + size < 2 ^ 63) (slot_small : site.slot + size < 2 ^ 63)
    (bytes : List ℕ) (from : ℕ) (begins : (from ≡ 0) ⊎ (20 ≤ from)) (rs : List Reserved) (b : Sealed) (rest : List Sealed) (fresh : b.is_written ≡ false) (closed : b.open_count ≡ 0) (are : AreSealed from rs (b ∷ rest)) (rise : EndsRise from (b ∷ rest) size) (inside : b.end ≤ length bytes)
    {H : History} (header : from ≡ 0 → HasMark sum site bytes H)
    (old_header : 0 < from → HasHeader sum old site) (laid : Laid old site.slot bytes from (b ∷ rest) size)
    → All (Stands sum size (site.place / size) bytes) rs → NoHeaderOfZeros sum → (reach : ℕ) (first : SnapshotModel) → HasOnly H (completed_in site bytes (take (b.count + run_count rest) rs)) (batches_in site bytes (take (b.count + run_count rest) rs)) (site.place + max 20 from) (site.place + run_end b.end rest)
    → (records_why size (take (b.count + run_count rest) rs) (run_end b.end rest) ≢ Broken → NoBatchEnds H (site.place + records_end (take (b.count + run_count rest) rs) (run_end b.end rest)) (site.place + size))
    → Ascends H.messages → least_place size first ≤ site.place → run_end b.end rest ≡ size
    → (to : ℕ) → site.slot ≤ to → {others : List BegunSegment} → {held : ℕ} → StandsAmong sum held size (padded to old) site from others reach H first
    → StandsFull sum held size (padded to (overwritten old (site.slot + from) (bytes_between bytes from b.end))) (site.place + size) others (site.place + records_end (take (b.count + run_count rest) rs) (run_end b.end rest)) H first
first_full sum size some old site place_begins slot_begins place_small slot_small bytes from begins rs b rest fresh closed are rise inside {H} header old_header laid stand zeros reach first has no_end ordered low ends to far {others} {held} alone =
    let same = same_file sum size some old site place_begins slot_begins place_small slot_small bytes from begins rs b rest fresh closed are rise inside {H = H} header old_header laid to in
    subst (λ (l : List ℕ). StandsFull sum held size l (site.place + size) others (site.place + records_end (take (b.count + run_count rest) rs) (run_end b.end rest)) H first) same
    (head_full sum zeros size some (padded to old) site place_begins slot_begins place_small slot_small bytes from begins rs b rest fresh closed are rise inside stand {H = H} header
    (laid_filled sum size some old site place_begins slot_begins place_small slot_small bytes from begins rs b rest fresh closed are rise inside {H = H} header old_header laid to) reach first alone has no_end
    ordered (omega (arith, padded_long to old, far)) low (subst (λ (l : List ℕ). HasHeader sum l site) (sym same) (padded_header sum size some old site place_begins slot_begins place_small slot_small bytes from begins rs b rest fresh closed are rise inside {H = H} header old_header laid to)) ends)
