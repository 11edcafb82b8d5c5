-- What stands in a log file stays where it is when the rest of the current segment is written.
use Rattle.std.proofs.Common.{◌≡◌, ◌⊎◌, ◌≤◌, ◌<◌, ◌+◌, ◌-◌, ℕ, pos, List, length, take, drop, sym, ◌∙◌, ap, arith, subst, length-take, length-drop, inl}
use Rattle.std.proofs.lemmas.List.{drop-drop, drop-take, take-take}
use Rattle.sled_codec.specs.declared.serialization.message.MessageHeader.{MessageHeader}
use Rattle.sled_codec.specs.Places.{part}
use Rattle.sled_codec.specs.Record.{IsHeader}
use Rattle.sled_codec.specs.History.{Message}
use Rattle.sled_codec.proofs.Segments.{length-short_header}
use Rattle.sled_store.specs.Device.{overwritten}
use Rattle.sled_store.proofs.LogFile.OverwrittenLemmas.{length-overwritten, overwritten-part}
use Rattle.sled_store.proofs.LogFile.LogLemmas.{part_written}
use Rattle.sled_store.proofs.LogFile.LooseLemmas.{end_of-some}
use Rattle.sled_core.specs.declared.iobuf.SegmentPosition.{SegmentPosition}
use Rattle.sled_core.specs.Reading.{StandsAt}
use Rattle.sled_core.specs.LogFile.{MessageStands, HasHeader}
use Rattle.sled_core.proofs.Read.ReadingLemmas.{header_some, laid_of}

-- a record that stands somewhere is not shorter than a header
pub stands_some : (sum : List ℕ → ℕ) (size : ℕ) (log : List ℕ) (lid number : ℕ) (m : Message) → MessageStands sum size log lid number m → 8 ≤ m.size
stands_some sum size log lid number m s =
    let some = header_some s.stands.header s.header s.stands.spelled in
    omega (arith, some, (laid_of sum size log lid number s.header m.bytes m.size s.stands).1)

-- the header of a segment lies in the file
pub header_there : (sum : List ℕ → ℕ) (log : List ℕ) (site : SegmentPosition) → HasHeader sum log site → site.slot + 20 ≤ length log
header_there sum log site h =
    let long : length (part log site.slot 20) ≡ 20 = ap length h.header.is ∙ length-short_header sum (pos site.place) h.mark in
    omega (arith, long, length-take 20 (drop site.slot log), length-drop site.slot log)

-- a record that stands in a file stands in each other one that has the same bytes there
pub record_moved : (sum : List ℕ → ℕ) (size : ℕ) (log log' : List ℕ) (lid number : ℕ) (h : MessageHeader) (body : List ℕ) (len : ℕ) → part log' lid len ≡ part log lid len → lid + len ≤ length log'
    → StandsAt sum size log lid number h body len → StandsAt sum size log' lid number h body len
record_moved sum size log log' lid number h body len same there s = record {
  header = s.header;
  spelled = s.spelled;
  is = same ∙ s.is;
  counted = s.counted;
  numbered = s.numbered;
  summed = s.summed;
  valid = s.valid;
  in_file = there;
  in_slot = s.in_slot;
  small = s.small;
}

-- What stands outside a range of a file stands in another one too that has the same bytes there.
module _ (sum : List ℕ → ℕ) (size : ℕ) (old new : List ℕ) (at n : ℕ) (grows : length old ≤ length new)
    (same : (lid len : ℕ) → lid + len ≤ length old → (lid + len ≤ at) ⊎ (at + n ≤ lid) → part new lid len ≡ part old lid len) where
  record_stays : (lid number : ℕ) (h : MessageHeader) (body : List ℕ) (len : ℕ) → (lid + len ≤ at) ⊎ (at + n ≤ lid) → StandsAt sum size old lid number h body len → StandsAt sum size new lid number h body len
  record_stays lid number h body len apart s =
      let end = s.in_file in record_moved sum size old new lid number h body len (same lid len end apart) (omega (arith, end, grows)) s

  message_stays : (lid number : ℕ) (m : Message) → (lid + m.size ≤ at) ⊎ (at + n ≤ lid) → MessageStands sum size old lid number m → MessageStands sum size new lid number m
  message_stays lid number m apart s = record { header = s.header; stands = record_stays lid number s.header m.bytes m.size apart s.stands; known = s.known; short = (let end = s.stands.in_file in same lid m.size end apart) ∙ s.short; page = s.page }

  -- a header before the range
  pub header_stays : (site : SegmentPosition) → site.slot + 20 ≤ at → HasHeader sum old site → HasHeader sum new site
  header_stays site before h =
      let there : site.slot + 20 ≤ length old = header_there sum old site h in
      record { mark = h.mark; header = subst (λ (l : List ℕ). IsHeader sum l (pos site.place) h.mark) (sym (same site.slot 20 there (inl before))) h.header; below = h.below }

module _ (sum : List ℕ → ℕ) (size : ℕ) (old : List ℕ) (at : ℕ) (xs : List ℕ) where
  abbrev new : List ℕ
  new = overwritten old at xs

  pub file_grows : length old ≤ length new
  file_grows = omega (arith, length-overwritten old at xs)

  -- a part that isn't written to
  pub part_kept : (lid n : ℕ) → lid + n ≤ length old → (lid + n ≤ at) ⊎ (at + length xs ≤ lid) → part new lid n ≡ part old lid n
  part_kept lid n there apart =
      let count : lid + n - lid ≡ n = omega arith in
      ap (λ k. take k (drop lid new)) (sym count) ∙ part_written old at xs lid (lid + n) there apart ∙ ap (λ k. take k (drop lid old)) count

  pub message_kept : (lid number : ℕ) (m : Message) → (lid + m.size ≤ at) ⊎ (at + length xs ≤ lid) → MessageStands sum size old lid number m → MessageStands sum size new lid number m
  message_kept = message_stays sum size old new at (length xs) file_grows part_kept

  -- a header before the write
  pub header_kept : (site : SegmentPosition) → site.slot + 20 ≤ at → HasHeader sum old site → HasHeader sum new site
  header_kept = header_stays sum size old new at (length xs) file_grows part_kept

  -- what was written stands there
  pub part_laid : (k n : ℕ) → k + n ≤ length xs → part new (at + k) n ≡ part xs k n
  part_laid k n within =
      let behind : List ℕ = drop at new in
      let fronts : take (k + n) behind ≡ take (k + n) xs = sym (take-take (k + n) (length xs) behind within) ∙ ap (take (k + n)) (overwritten-part old at xs) in
      ap (take n) (sym (drop-drop k at new))
      ∙ sym (drop-take k n behind)
      ∙ ap (drop k) fronts
      ∙ drop-take k n xs

  pub laid_within : 0 < length xs → at + length xs ≤ length new
  laid_within some = omega (arith, length-overwritten old at xs, end_of-some at (length xs) some)
