-- What a crash leaves of a settled log file behind a write: a header or a record that a reader comes to stood there before, or is a part of the write. In a slot that the write doesn't touch all is met as before.
use Rattle.std.proofs.Common.{◌≡◌, ◌≢◌, ◌⊎◌, ◌≤◌, ◌<◌, ◌+◌, ◌-◌, ◌*◌, ◌/◌, ◌%◌, ◌∙◌, ℕ, ℤ, pos, min, List, [], ◌∷◌, ◌++◌, length, drop, sym, ap, arith, subst, inl, inr, length-take, length-drop}
use Rattle.std.proofs.Math.Nat.{mul-mod_left}
use Rattle.sled_codec.specs.declared.serialization.message.MessageHeader.{MessageHeader}
use Rattle.sled_codec.specs.declared.serialization.message.MessageKind.TheVariants.{Cap}
use Rattle.sled_codec.specs.Places.{part}
use Rattle.sled_codec.specs.Record.{IsHeader}
use Rattle.sled_codec.proofs.Segments.{length-short_header}
use Rattle.sled_store.specs.Device.{overwritten, LeavesLog, Placement}
use Rattle.sled_store.specs.Foreign.{Covers, IsWhole, NoForeignLog}
use Rattle.sled_store.specs.Readers.{ReadsTo, at_start}
use Rattle.sled_core.specs.declared.iobuf.SegmentPosition.{SegmentPosition}
use Rattle.sled_core.specs.declared.iterator.scan.ScannedRecord.{ScannedRecord}
use Rattle.sled_core.specs.declared.iterator.scan.ScanEnd.{ScanEnd}
use Rattle.sled_core.specs.declared.iterator.scan.ScanEnd.TheVariants.{Full, Capped, Broken}
use Rattle.sled_core.specs.Reading.{StandsAt}
use Rattle.sled_core.specs.Scan.{IsMet, IsPath, IsEnd, EndsThere, IsScan}
use Rattle.sled_core.proofs.Tail.LogFileLemmas.{record_moved, file_grows, part_kept, part_laid}
use Rattle.sled_core.proofs.Read.ScanLemmas.{aligned_offset}
use Rattle.sled_core.proofs.Torn.TornLemmas.{after_write, left_grows, part_left}
use Rattle.sled_core.proofs.Torn.TornRecords.{the_only, long_enough, record_reached, record_read, says_plain}

-- a reader of the segment in a slot comes to this offset in it
abbrev pub ComesTo : (List ℕ → ℕ) → ℕ → List ℕ → ℕ → ℕ → ℕ → Type 0
ComesTo sum size log slot place from = ReadsTo sum size (place / size) (part log slot size) 20 from

module _ (sum : List ℕ → ℕ) (size : ℕ) (log : List ℕ) where
  -- a header is twenty bytes long
  pub twenty : (lid : ℕ) (lsn mark : ℤ) → IsHeader sum (part log lid 20) lsn mark → length (part log lid 20) ≡ 20
  twenty lid lsn mark is = ap length is.is ∙ length-short_header sum lsn mark

  -- a record that stands somewhere is all in the file
  pub all_there : (lid number : ℕ) (h : MessageHeader) (body : List ℕ) (len : ℕ) → StandsAt sum size log lid number h body len → length (part log lid len) ≡ len
  all_there lid number h body len s = let there = s.in_file in omega (arith, there, length-take len (drop lid log), length-drop lid log)

  -- a part of this length that is the same as in another file is all in this one
  pub in_this_file : (other : List ℕ) (lid len : ℕ) → 0 < len → length (part other lid len) ≡ len → part log lid len ≡ part other lid len → lid + len ≤ length log
  in_this_file other lid len some whole same = omega (arith, some, whole, ap length same, length-take len (drop lid log), length-drop lid log)

  module _ (slot : ℕ) (aligned : slot % size ≡ 0) where
    -- a record lies within its slot
    pub in_segment : (from number : ℕ) (h : MessageHeader) (body : List ℕ) (len : ℕ) → from < size → StandsAt sum size log (slot + from) number h body len → from + len ≤ size
    in_segment from number h body len below s = let inside = s.in_slot in omega (arith, inside, aligned_offset slot from size aligned below)

    module _ (place : ℕ) where
      -- A reader that comes to a record that is no Cap comes to its end.
      pub comes_behind : (from : ℕ) (h : MessageHeader) (body : List ℕ) (len : ℕ) → from + 32 ≤ size → h.kind ≢ Cap → StandsAt sum size log (slot + from) (place / size) h body len → ComesTo sum size log slot place from → ComesTo sum size log slot place (from + len)
      comes_behind from h body len room plain s comes =
          let site : SegmentPosition = record { place = place; slot = slot } in
          record_reached sum size log site aligned (place / size) 20 from h body len room plain s comes

      -- So it comes to where what it meets ends.
      pub comes_along : (from : ℕ) (ms : List ScannedRecord) (next : ℕ) → IsPath sum size log slot place from ms next → ComesTo sum size log slot place from → ComesTo sum size log slot place next
      unfolding IsMet
      comes_along from [] next path comes = subst (ComesTo sum size log slot place) (sym path) comes
      comes_along from (m ∷ ms) next (room, at_place, (h, body, stands, says), path) comes =
          comes_along (from + m.len) ms next path (comes_behind from h body m.len room (says_plain h body (slot + from) m.what says) stands comes)

  -- What is met doesn't go back.
  pub path_rises : (slot place from : ℕ) (ms : List ScannedRecord) (next : ℕ) → IsPath sum size log slot place from ms next → from ≤ next
  path_rises slot place from [] next path = omega (arith, path)
  path_rises slot place from (m ∷ ms) next path = let rest = path_rises slot place (from + m.len) ms next path.3 in omega (arith, rest)

  -- what is met up to a place, and then behind it
  pub paths_joined : (slot place from : ℕ) (ms : List ScannedRecord) (mid : ℕ) (more : List ScannedRecord) (next : ℕ) → IsPath sum size log slot place from ms mid → IsPath sum size log slot place mid more next
      → IsPath sum size log slot place from (ms ++ more) next
  paths_joined slot place from [] mid more next path rest = subst (λ n. IsPath sum size log slot place n more next) path rest
  paths_joined slot place from (m ∷ ms) mid more next path rest = (path.0, path.1, path.2, paths_joined slot place (from + m.len) ms mid more next path.3 rest)

-- The records of a segment that stand in a slot of one file stand in another one too; and those that a reader of that one comes to stood in the first.
abbrev pub StandToo : (List ℕ → ℕ) → ℕ → List ℕ → List ℕ → ℕ → ℕ → Type 0
StandToo sum size old left slot place = (from : ℕ) → from < size → (h : MessageHeader) (body : List ℕ) (len : ℕ) → StandsAt sum size old (slot * size + from) (place / size) h body len → StandsAt sum size left (slot * size + from) (place / size) h body len

abbrev pub StoodBefore : (List ℕ → ℕ) → ℕ → List ℕ → List ℕ → ℕ → ℕ → Type 0
StoodBefore sum size old left slot place =
    (from : ℕ) → ComesTo sum size left (slot * size) place from → from + 32 ≤ size → (h : MessageHeader) (body : List ℕ) (len : ℕ)
    → StandsAt sum size left (slot * size + from) (place / size) h body len → StandsAt sum size old (slot * size + from) (place / size) h body len

module _ (sum : List ℕ → ℕ) (size : ℕ) (old left : List ℕ) (slot place : ℕ) (stays : StandToo sum size old left slot place) (stood : StoodBefore sum size old left slot place) where
  path_on : (from : ℕ) (ms : List ScannedRecord) (next : ℕ) → IsPath sum size old (slot * size) place from ms next → IsPath sum size left (slot * size) place from ms next
  unfolding IsMet
  path_on from [] next path = path
  path_on from (m ∷ ms) next (room, at_place, (h, body, stands, says), path) =
      (room, at_place, (h, body, stays from (omega (arith, room)) h body m.len stands, says), path_on (from + m.len) ms next path)

  end_on : (from : ℕ) → ComesTo sum size left (slot * size) place from → (why : ScanEnd) → IsEnd sum size old (slot * size) place from why → IsEnd sum size left (slot * size) place from why
  unfolding EndsThere
  end_on from comes Full full = full
  end_on from comes Capped (room, (h, body, len, s, is_cap)) = (room, (h, body, len, stays from (omega (arith, room)) h body len s, is_cap))
  end_on from comes Broken (room, none) = (room, λ h body len s. none h body len (stood from comes (omega (arith, room)) h body len s))

  -- All is met as in the first file.
  pub scan_alike : (met : List ScannedRecord) (stop : ℕ) (why : ScanEnd) → IsScan sum size old (slot * size) place met stop why → IsScan sum size left (slot * size) place met stop why
  unfolding IsScan
  scan_alike met stop why (path, end) =
      let on = path_on 20 met stop path in
      (on, end_on stop (comes_along sum size left (slot * size) (mul-mod_left slot size) place 20 met stop on at_start) why end)

  path_back : (from : ℕ) → ComesTo sum size left (slot * size) place from → (ms : List ScannedRecord) (next : ℕ) → IsPath sum size left (slot * size) place from ms next → IsPath sum size old (slot * size) place from ms next
  unfolding IsMet
  path_back from comes [] next path = path
  path_back from comes (m ∷ ms) next (room, at_place, (h, body, stands, says), path) = (
    room,
    at_place,
    (h, body, stood from comes room h body m.len stands, says),
    path_back (from + m.len) (comes_behind sum size left (slot * size) (mul-mod_left slot size) place from h body m.len room (says_plain h body (slot * size + from) m.what says) stands comes) ms next path,
  )

  end_back : (from : ℕ) → ComesTo sum size left (slot * size) place from → (why : ScanEnd) → IsEnd sum size left (slot * size) place from why → IsEnd sum size old (slot * size) place from why
  unfolding EndsThere
  end_back from comes Full full = full
  end_back from comes Capped (room, (h, body, len, s, is_cap)) = (room, (h, body, len, stood from comes (omega (arith, room)) h body len s, is_cap))
  end_back from comes Broken (room, none) = (room, λ h body len s. none h body len (stays from (omega (arith, room)) h body len s))

  -- And all that is met was met there.
  pub scan_was : (met : List ScannedRecord) (stop : ℕ) (why : ScanEnd) → IsScan sum size left (slot * size) place met stop why → IsScan sum size old (slot * size) place met stop why
  unfolding IsScan
  scan_was met stop why (path, end) =
      let comes = comes_along sum size left (slot * size) (mul-mod_left slot size) place 20 met stop path at_start in
      (path_back 20 at_start met stop path, end_back stop comes why end)

-- What stands outside a range of a file stands in another one too that has the same bytes there.
module _ (sum : List ℕ → ℕ) (size : ℕ) (old new : List ℕ) (at n : ℕ) (grows : length old ≤ length new) (same : (lid len : ℕ) → lid + len ≤ length old → (lid + len ≤ at) ⊎ (at + n ≤ lid) → part new lid len ≡ part old lid len) where
  record_kept : (lid number : ℕ) (h : MessageHeader) (body : List ℕ) (len : ℕ) → (lid + len ≤ at) ⊎ (at + n ≤ lid) → StandsAt sum size old lid number h body len → StandsAt sum size new lid number h body len
  record_kept lid number h body len apart s = let there = s.in_file in record_moved sum size old new lid number h body len (same lid len there apart) (omega (arith, there, grows)) s

  path_kept : (slot place : ℕ) → slot % size ≡ 0 → (from : ℕ) (ms : List ScannedRecord) (next : ℕ) → (slot + min next size ≤ at) ⊎ (at + n ≤ slot) → IsPath sum size old slot place from ms next → IsPath sum size new slot place from ms next
  unfolding IsMet
  path_kept slot place aligned from [] next apart path = path
  path_kept slot place aligned from (m ∷ ms) next apart (room, at_place, (h, body, stands, says), path) =
      let ends = path_rises sum size old slot place (from + m.len) ms next path in
      let within = in_segment sum size old slot aligned from (place / size) h body m.len (omega (arith, room)) stands in
      let beside : (slot + from + m.len ≤ at) ⊎ (at + n ≤ slot + from) = elim apart [ inl before ↦ inl (omega (arith, before, ends, within)) | inr past ↦ inr (omega (arith, past)) ] in (
        room,
        at_place,
        (h, body, record_kept (slot + from) (place / size) h body m.len beside stands, says),
        path_kept slot place aligned (from + m.len) ms next apart path,
      )

-- What was met before a write, or in another slot, is met behind all of it.
pub path_whole : (sum : List ℕ → ℕ) (size : ℕ) (old : List ℕ) (at : ℕ) (asked : List ℕ) (slot place : ℕ) → slot % size ≡ 0 → (from : ℕ) (ms : List ScannedRecord) (next : ℕ) → (slot + min next size ≤ at) ⊎ (at + length asked ≤ slot)
    → IsPath sum size old slot place from ms next → IsPath sum size (overwritten old at asked) slot place from ms next
path_whole sum size old at asked = path_kept sum size old (overwritten old at asked) at (length asked) (file_grows sum size old at asked) (part_kept sum size old at asked)

-- what a write covers is read where all of it was written
pub covered_laid : (sum : List ℕ → ℕ) (size : ℕ) (old : List ℕ) (at : ℕ) (asked left : List ℕ) (lid len : ℕ) → length (part left lid len) ≡ len → Covers (at, asked) lid (part left lid len)
    → part (overwritten old at asked) lid len ≡ part left lid len
covered_laid sum size old at asked left lid len whole by =
    let new : List ℕ = overwritten old at asked in
    let begins = by.begins in
    let ends = by.ends in
    let there : at + (lid - at) ≡ lid = omega (arith, begins) in
    ap (λ n. part new n len) (sym there) ∙ part_laid sum size old at asked (lid - at) len (omega (arith, begins, ends, whole)) ∙ ap (part asked (lid - at)) (sym whole) ∙ by.same

module _ (sum : List ℕ → ℕ) (size : ℕ) (old : List ℕ) (at : ℕ) (asked now left : List ℕ) (no_more : length now ≤ length asked) (leaves : LeavesLog (after_write old at asked now) left) where
  -- A record that the write doesn't touch stands.
  pub record_stays : (lid number : ℕ) (h : MessageHeader) (body : List ℕ) (len : ℕ) → (lid + len ≤ at) ⊎ (at + length asked ≤ lid) → StandsAt sum size old lid number h body len → StandsAt sum size left lid number h body len
  record_stays = record_kept sum size old left at (length asked) (left_grows old at asked now left no_more leaves) (part_left old at asked now left no_more leaves)

  -- What was met before the write, or in another slot, still is.
  pub path_stays : (slot place : ℕ) → slot % size ≡ 0 → (from : ℕ) (ms : List ScannedRecord) (next : ℕ) → (slot + min next size ≤ at) ⊎ (at + length asked ≤ slot) → IsPath sum size old slot place from ms next → IsPath sum size left slot place from ms next
  path_stays = path_kept sum size old left at (length asked) (left_grows old at asked now left no_more leaves) (part_left old at asked now left no_more leaves)

  module _ {placed : List Placement} (only_own : NoForeignLog sum size (after_write old at asked now) placed left) where
    -- what stands whole stood there before, or is a part of the write
    pub stood_or_written : (lid : ℕ) (text : List ℕ) → IsWhole (after_write old at asked now) lid text → (part old lid (length text) ≡ text) ⊎ Covers (at, asked) lid text
    unfolding IsWhole
    stood_or_written lid text (inl stood) = inl stood
    stood_or_written lid text (inr (write, there, covers)) = inr (subst (λ (w : ℕ × List ℕ). Covers w lid text) (the_only (at, asked) write there) covers)

    -- A header that passes did so before, or was written.
    pub header_where : (slot : ℕ) (lsn mark : ℤ) → IsHeader sum (part left (slot * size) 20) lsn mark → (part old (slot * size) 20 ≡ part left (slot * size) 20) ⊎ Covers (at, asked) (slot * size) (part left (slot * size) 20)
    header_where slot lsn mark is = elim (stood_or_written (slot * size) (part left (slot * size) 20) (only_own.headers slot lsn mark is).1) [
      | inl stood ↦ inl (ap (part old (slot * size)) (sym (twenty sum size left (slot * size) lsn mark is)) ∙ stood)
      | inr write ↦ inr write
    ]

    module _ (slot place : ℕ) (mark : ℤ) (header : IsHeader sum (part left (slot * size) 20) (pos place) mark) where
      -- A record of its number that a reader comes to stood there before, or was written.
      pub record_where : (from : ℕ) → ComesTo sum size left (slot * size) place from → from + 32 ≤ size → (h : MessageHeader) (body : List ℕ) (len : ℕ) → StandsAt sum size left (slot * size + from) (place / size) h body len
          → (part old (slot * size + from) len ≡ part left (slot * size + from) len) ⊎ Covers (at, asked) (slot * size + from) (part left (slot * size + from) len)
      record_where from comes room h body len s =
          let read = record_read sum size left (record { place = place; slot = slot * size }) (mul-mod_left slot size) (place / size) 20 from h body len room s comes in
          let whole = all_there sum size left (slot * size + from) (place / size) h body len s in
          elim (stood_or_written (slot * size + from) (part left (slot * size + from) len)
          (only_own.records slot place mark from len header read).1) [
            | inl stood ↦ inl (ap (part old (slot * size + from)) (sym whole) ∙ stood)
            | inr write ↦ inr write
          ]

      -- In a slot that the write doesn't touch it stood there before.
      module _ (apart : (slot * size + size ≤ at) ⊎ (at + length asked ≤ slot * size)) where
        pub stood_apart : (from : ℕ) → ComesTo sum size left (slot * size) place from → from + 32 ≤ size → (h : MessageHeader) (body : List ℕ) (len : ℕ) → StandsAt sum size left (slot * size + from) (place / size) h body len
            → StandsAt sum size old (slot * size + from) (place / size) h body len
        stood_apart from comes room h body len s =
            let fits = in_segment sum size left (slot * size) (mul-mod_left slot size) from (place / size) h body len (omega (arith, room)) s in
            let whole = all_there sum size left (slot * size + from) (place / size) h body len s in
            let some = long_enough sum size left (slot * size + from) (place / size) h body len s in
            elim (record_where from comes room h body len s) [
              | inl same ↦ record_moved sum size left old (slot * size + from) (place / size) h body len same (in_this_file sum size old left (slot * size + from) len (omega (arith, some)) whole same) s
              | inr write ↦ (
                  let begins = write.begins in
                  let ends = write.ends in
                  absurd (elim apart [ inl before ↦ omega (arith, before, begins, fits, some) | inr past ↦ omega (arith, past, ends, whole, some) ]))
            ]

        stays_apart : (from : ℕ) → from < size → (h : MessageHeader) (body : List ℕ) (len : ℕ) → StandsAt sum size old (slot * size + from) (place / size) h body len → StandsAt sum size left (slot * size + from) (place / size) h body len
        stays_apart from below h body len s =
            let fits = in_segment sum size old (slot * size) (mul-mod_left slot size) from (place / size) h body len below s in
            let beside : (slot * size + from + len ≤ at) ⊎ (at + length asked ≤ slot * size + from) = elim apart [ inl before ↦ inl (omega (arith, before, fits)) | inr past ↦ inr (omega (arith, past)) ] in
            record_stays (slot * size + from) (place / size) h body len beside s

        -- All is met as before.
        pub scan_apart : (met : List ScannedRecord) (stop : ℕ) (why : ScanEnd) → IsScan sum size old (slot * size) place met stop why → IsScan sum size left (slot * size) place met stop why
        scan_apart = scan_alike sum size old left slot place stays_apart stood_apart

        -- And all that is met was met before.
        pub scan_back : (met : List ScannedRecord) (stop : ℕ) (why : ScanEnd) → IsScan sum size left (slot * size) place met stop why → IsScan sum size old (slot * size) place met stop why
        scan_back = scan_was sum size old left slot place stays_apart stood_apart
