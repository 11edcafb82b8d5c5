-- The first sealed buffer of the first segment is written: the segment holds the same, what a crash leaves of the write stands as before, and all of it up to where those end that are written then, or behind the segment where these fill it.
use Rattle.sled_core.specs.declared.iterator.scan.ScanEnd.TheVariants.{Broken}
use Rattle.sled_core.proofs.Reserve.Batches.{batches-append, batches_between}
use Rattle.sled_core.proofs.Reserve.RecordEnds.{no_end_up, records_fewer}
use Rattle.std.proofs.Common.{◌≢◌, append-nil, ◌≡◌, ◌⊎◌, ◌≤◌, ◌<◌, ◌+◌, ◌/◌, ◌^◌, ◌∙◌, ℕ, max, false, List, [], ◌∷◌, ◌++◌, length, take, drop, sym, ap, arith, refl, subst, inl, inr, Option, None, append_assoc}
use Rattle.std.specs.List.{All, Contains}
use Rattle.std.specs.declared.io.Error.{Error as IoError}
use Rattle.std.proofs.lemmas.Bool.{cases_lt}
use Rattle.std.proofs.lemmas.List.{take-append-drop}
use Rattle.std.proofs.lemmas.List.Elements.{All-append, All-contains, All-drop, All-take, Contains-append_cases}
use Rattle.sled_codec.specs.History.{Message, Batch, History}
use Rattle.sled_codec.specs.WellFormed.{LieApart}
use Rattle.sled_store.specs.Device.{LogState, State, Wrote, Synced, LeavesLog, at_rest, overwritten, step, Placement}
use Rattle.sled_store.specs.Foreign.{NoForeignLog}
use Rattle.sled_store.proofs.Segments.FitLemmas.{all_front}
use Rattle.sled_core.specs.declared.iobuf.Reserved.{Reserved}
use Rattle.sled_core.specs.declared.iobuf.Sealed.{Sealed}
use Rattle.sled_core.specs.declared.iobuf.SegmentPosition.{SegmentPosition}
use Rattle.sled_core.specs.inside.Buffers.{IsChain, NoPadding, Stands, batches_in, completed_in, records_end, records_of}
use Rattle.sled_core.specs.Begun.{SegmentParts}
use Rattle.sled_core.specs.inside.Fits.{HasBatches, log_parts, HasMark, HoldsIn, HoldsSegment}
use Rattle.sled_core.specs.Fits.{EndBelow, held_of}
use Rattle.sled_core.specs.inside.Full.{StandsFull}
use Rattle.sled_core.specs.LogFile.{IsLogFile, StaysFrom}
use Rattle.sled_core.specs.inside.LogFile.{padded}
use Rattle.sled_core.specs.OpenBatches.{stable_below}
use Rattle.sled_core.specs.inside.Reached.{BegunSegment, StandsAmong}
use Rattle.sled_core.specs.inside.Recoverable.{NoBatchBegins, NoBatchEnds}
use Rattle.sled_core.specs.Recoverable.{NoHeaderOfZeros}
use Rattle.sled_core.specs.inside.SealedBuffers.{AreSealed, Laid, now_written, run_end, run_count, behind_run}
use Rattle.sled_core.specs.SealedBuffers.{bytes_between}
use Rattle.sled_core.specs.declared.logger.joined_marks.JoinedMarks.{JoinedMarks}
use Rattle.sled_core.proofs.Line.FullHead.{first_full, plain_run, torn_head_any}
use Rattle.sled_core.proofs.Reserve.Entries.{some_long}
use Rattle.sled_core.proofs.Reserve.Ranges.{chain_grows, completed-append, completed_between}
use Rattle.sled_core.proofs.Flush.Completed.{all_apart, has_only, front_only}
use Rattle.sled_core.proofs.Flush.FlushLemmas.{on_file}
use Rattle.sled_core.proofs.Sealed.SealedFile.{chain_done, first_file, stop_up}
use Rattle.sled_core.proofs.Holds.ReachLemmas.{written_before}
use Rattle.sled_core.proofs.Holds.BatchLemmas.{same_batched, written_batched}
use Rattle.sled_core.proofs.Holds.WholeHistory.{later_above, which_part, whole_ascends, whole_only}
use Rattle.sled_core.proofs.Reached.BufferPath.{HasOnly, mark_same}
use Rattle.sled_core.proofs.Reached.StandsTo.{StandsTo}
use Rattle.sled_core.proofs.Sealed.BehindUnwritten.{plain_room}
use Rattle.sled_core.proofs.Sealed.Ended.{chain_rest, ends_rise}
use Rattle.sled_core.proofs.Sealed.HeadSealed.{run_below}
use Rattle.sled_core.proofs.Sealed.LaidLemmas.{EndsRise, ends_below}
use Rattle.sled_core.proofs.Sealed.OneWritten.{has_written, laid_new}
use Rattle.sled_core.proofs.Sealed.RecordsEnd.{records_covered, none_behind, AreRecords, records_in, records_why}
use Rattle.sled_core.proofs.Sealed.Runs.{run_laid}
use Rattle.sled_core.proofs.Sealed.SealedCalls.{first_alone}
use Rattle.sled_core.proofs.Torn.TornLemmas.{after_write}

-- the first ones of messages that lie apart do
apart_front : (xs ys : List Message) → LieApart (xs ++ ys) → LieApart xs
apart_front [] ys apart = tt
apart_front (x ∷ xs) ys apart = (apart.0, all_front (λ n. x.place + x.size ≤ n.place) xs ys apart.1, apart_front xs ys apart.2)

-- nothing was written of a segment, or its header was
pub none_or_begun : (sum : List ℕ → ℕ) (size : ℕ) (log : List ℕ) (site : SegmentPosition) (from : ℕ) (messages : List Message) (stays : Message → Type 0) → IsLogFile sum size log site from messages stays → (from ≡ 0) ⊎ (20 ≤ from)
none_or_begun sum size log site from messages stays file = elim (cases_lt 0 from) [ inl some ↦ inr (file.begun some) | inr none ↦ inl (omega (arith, none)) ]

-- buffers that end in a text end in a segment that is as long or longer
pub rise_in : (from : ℕ) (rs : List Reserved) (bs : List Sealed) (to more : ℕ) → AreSealed from rs bs → EndsRise from bs to → to ≤ more → EndsRise from bs more
rise_in from rs bs to more are rise up = let below = ends_below from bs to rise in ends_rise from rs bs more are (omega (arith, below.0, below.1, up)) (omega (arith, below.1, up))

-- The first buffer is written.
module _ (sum : List ℕ → ℕ) (size : ℕ) (site : SegmentPosition) (device : State) (fault : Option IoError) (bytes : List ℕ) (from : ℕ) (b : Sealed) (rest : List Sealed) (rs : List Reserved) (H : History)
    {stays : Message → Type 0} (holds : HoldsSegment sum (log_parts size site device fault bytes from (b ∷ rest) rs) stays H)
    (short : length bytes ≤ size) (big : 256 ≤ size) (place_small : site.place + size < 2 ^ 63) (slot_small : site.slot + size < 2 ^ 63)
    (are : AreSealed from rs (b ∷ rest)) (fresh : b.is_written ≡ false) (closed : b.open_count ≡ 0) (rise : EndsRise from (b ∷ rest) (length bytes)) (whole : fault ≡ None) where
  -- where those end that are written now, and how many reservations they have
  abbrev stop : ℕ
  stop = run_end b.end rest

  abbrev count : ℕ
  count = b.count + run_count rest

  abbrev done : List Reserved
  done = take count rs

  abbrev others : List Reserved
  others = drop count rs

  abbrev asked : List ℕ
  asked = bytes_between bytes from b.end

  abbrev old : List ℕ
  old = device.log.bytes

  abbrev new_log : List ℕ
  new_log = overwritten old (site.slot + from) asked

  -- the messages that are written then
  abbrev earlier_now : List Message
  earlier_now = holds.records.earlier ++ completed_in site bytes done

  inside : b.end ≤ length bytes
  inside = let below = ends_below b.end rest (length bytes) rise.1 in omega (arith, below.0, below.1)

  rise_size : EndsRise from (b ∷ rest) size
  rise_size = rise_in from rs (b ∷ rest) (length bytes) size are rise short

  up : (from ≤ stop) × (20 ≤ stop) × (b.end ≤ stop)
  up = stop_up from rs b rest closed are

  chain_others : IsChain stop others (length bytes)
  chain_others = chain_rest (max 20 from) (length bytes) rs count stop holds.records.chain (chain_done from rs b rest closed are)

  messages_now : H.messages ≡ earlier_now ++ completed_in site bytes others
  messages_now = holds.records.messages ∙ ap (λ (l : List Reserved). holds.records.earlier ++ completed_in site bytes l) (sym (take-append-drop count rs))
      ∙ ap (λ (ms : List Message). holds.records.earlier ++ ms) (completed-append site bytes done others) ∙ sym (append_assoc holds.records.earlier (completed_in site bytes done) (completed_in site bytes others))

  stand_done : All (Stands sum size (site.place / size) bytes) done
  stand_done = All-take (Stands sum size (site.place / size) bytes) count rs holds.records.stand

  below_now : EndBelow (site.place + stop) earlier_now
  below_now =
      let above = up.0 in
      let late = completed_between site bytes (max 20 from) stop done (chain_done from rs b rest closed are) (some_long sum size (site.place / size) bytes done stand_done) in
      All-append (λ (m : Message). (m.place < site.place + stop) × (m.place + m.size ≤ site.place + stop)) holds.records.earlier (completed_in site bytes done)
      (λ k d lt. let low = holds.records.below k d lt in (omega (arith, low.0, above), omega (arith, low.1, above)))
      (λ k d lt. let low = late k d lt in (low.1, low.2))

  batched_now : HasBatches size site stop (batches_in site bytes others) H.batches
  batched_now = written_batched size site from stop (batches_in site bytes done) (batches_in site bytes others) H.batches (let above = up.0 in above)
      (λ x among. (batches_between site bytes (max 20 from) stop done (chain_done from rs b rest closed are) (some_long sum size (site.place / size) bytes done stand_done) x among).1)
      (same_batched size site from (batches_in site bytes rs) (batches_in site bytes done ++ batches_in site bytes others) H.batches H.batches
      (sym (batches-append site bytes done others) ∙ ap (batches_in site bytes) (take-append-drop count rs)) refl holds.records.batched)

  file_old : IsLogFile sum size old site from holds.records.earlier stays
  file_old = on_file sum size device.log site from holds.records.earlier stays (holds.written whole)

  first_begins : (from ≡ 0) ⊎ (20 ≤ from)
  first_begins = none_or_begun sum size old site from holds.records.earlier stays file_old

  -- Once it is synced the segment holds the same.
  pub segment_first : (new : State) → new.log ≡ at_rest new_log → HoldsSegment sum (log_parts size site new fault bytes stop (behind_run rest) others) stays H
  segment_first new is = record {
    records = record {
      earlier = earlier_now;
      messages = messages_now;
      below = below_now;
      apart = apart_front earlier_now (completed_in site bytes others) (subst LieApart messages_now (all_apart sum size site device fault bytes from (b ∷ rest) rs H holds));
      batched = batched_now;
      no_end = no_end_up H site.place (records_end rs (length bytes)) (records_end others (length bytes)) (site.place + size) (records_fewer count rs (max 20 from) (length bytes) holds.records.chain) holds.records.no_end;
      place_begins = holds.records.place_begins;
      slot_begins = holds.records.slot_begins;
      header = λ none. absurd (let some = up.1 in omega (arith, none, some));
      chain = let some = up.1 in let same : stop ≡ max 20 stop = omega (arith, some) in subst (λ n. IsChain n others (length bytes)) same chain_others;
      stand = All-drop (Stands sum size (site.place / size) bytes) count rs holds.records.stand;
    };
    written = λ none. record {
      log = new_log;
      settled = is;
      file = first_file sum size big old site holds.records.place_begins holds.records.slot_begins place_small slot_small bytes from first_begins rs b rest fresh closed are rise_size inside holds.records.stand holds.records.header (holds.laid whole)
          holds.records.earlier stays file_old;
    };
    laid = λ none. subst (λ (s : LogState). Laid s.bytes site.slot bytes stop (behind_run rest) size) (sym is)
        (run_laid new_log site.slot bytes from (now_written b ∷ rest) size (laid_new old site.slot bytes from [] b rest size rise_size inside (holds.laid whole)));
  }

  -- Of the history those are all that begins in what is written then.
  has_first : HasOnly H (completed_in site bytes done) (batches_in site bytes done) (site.place + max 20 from) (site.place + stop)
  has_first =
      front_only site bytes H rs count (site.place + max 20 from) stop (length bytes) chain_others (some_long sum size (site.place / size) bytes others (All-drop (Stands sum size (site.place / size) bytes) count rs holds.records.stand))
      (has_only sum size site device fault bytes from (b ∷ rest) rs H holds short)

-- So it is with the history of a log, whose first segment that is.
module _ (sum : List ℕ → ℕ) (size : ℕ) (site : SegmentPosition) (device : State) (fault : Option IoError) (bytes : List ℕ) (from : ℕ) (b : Sealed) (rest : List Sealed) (rs : List Reserved) (H : History)
    {behind : List SegmentParts} {marks : JoinedMarks} (holds : HoldsIn sum marks (log_parts size site device fault bytes from (b ∷ rest) rs) behind H)
    (short : length bytes ≤ size) (big : 256 ≤ size) (place_small : site.place + size < 2 ^ 63) (slot_small : site.slot + size < 2 ^ 63)
    (are : AreSealed from rs (b ∷ rest)) (fresh : b.is_written ≡ false) (closed : b.open_count ≡ 0) (rise : EndsRise from (b ∷ rest) (length bytes)) (whole : fault ≡ None) where
  -- what that segment holds
  abbrev own_history : History
  own_history = record { messages = holds.head; batches = H.batches }

  abbrev stop_whole : ℕ
  stop_whole = run_end b.end rest

  abbrev asked_whole : List ℕ
  asked_whole = bytes_between bytes from b.end

  abbrev old_whole : List ℕ
  old_whole = device.log.bytes

  rise_whole : EndsRise from (b ∷ rest) size
  rise_whole = rise_in from rs (b ∷ rest) (length bytes) size are rise short

  inside_whole : b.end ≤ length bytes
  inside_whole = let below = ends_below b.end rest (length bytes) rise.1 in omega (arith, below.0, below.1)

  file_whole : IsLogFile sum size old_whole site from holds.own.records.earlier (StaysFrom H (held_of holds.begun))
  file_whole = on_file sum size device.log site from holds.own.records.earlier (StaysFrom H (held_of holds.begun)) (holds.own.written whole)

  begins_whole : (from ≡ 0) ⊎ (20 ≤ from)
  begins_whole = none_or_begun sum size old_whole site from holds.own.records.earlier (StaysFrom H (held_of holds.begun)) file_whole

  abbrev after_first : State
  after_first = step Synced (step (Wrote (site.slot + from) asked_whole asked_whole) device)

  header_whole : from ≡ 0 → HasMark sum site bytes H
  header_whole none = let m = holds.own.records.header none in record { mark = m.mark; is = m.is; of_history = mark_same own_history H (record { place = site.place; slot = site.slot; mark = m.mark }) refl m.of_history }

  has_whole : HasOnly H (completed_in site bytes (take (b.count + run_count rest) rs)) (batches_in site bytes (take (b.count + run_count rest) rs)) (site.place + max 20 from) (site.place + stop_whole)
  has_whole = whole_only sum size site device fault bytes from (b ∷ rest) rs H holds (completed_in site bytes (take (b.count + run_count rest) rs)) (batches_in site bytes (take (b.count + run_count rest) rs)) (site.place + max 20 from) (site.place + stop_whole)
      (let low = run_below b.end rest size rise_whole.1 in omega (arith, low)) (has_first sum size site device fault bytes from b rest rs own_history holds.own short big place_small slot_small are fresh closed rise whole)

  -- its entries that are written then, of which the last one may fill the segment, and where their records end
  abbrev pub done_whole : List Reserved
  done_whole = take (b.count + run_count rest) rs

  abbrev pub last_whole : ℕ
  last_whole = records_end done_whole stop_whole

  records_whole : AreRecords sum size (site.place / size) bytes (max 20 from) done_whole stop_whole (records_of done_whole) last_whole (records_why size done_whole stop_whole)
  records_whole = records_in sum size (site.place / size) bytes (max 20 from) done_whole stop_whole (chain_done from rs b rest closed are) (run_below b.end rest size rise_whole.1) (All-take (Stands sum size (site.place / size) bytes) (b.count + run_count rest) rs holds.own.records.stand)

  pub last_up : from ≤ last_whole
  last_up = let grows = chain_grows (max 20 from) last_whole (records_of done_whole) records_whole.chain in omega (arith, grows)

  pub last_low : last_whole ≤ stop_whole
  last_low = records_whole.low

  -- where the reading ends there, but for want of a record, no batch ends behind that
  no_end_whole : records_why size done_whole stop_whole ≢ Broken → NoBatchEnds H (site.place + last_whole) (site.place + size)
  no_end_whole goes =
      no_end_up H site.place (records_end rs (length bytes)) last_whole (site.place + size)
      (records_covered sum size (site.place / size) bytes (max 20 from) rs (b.count + run_count rest) stop_whole (length bytes) (chain_done from rs b rest closed are)
      (chain_rest (max 20 from) (length bytes) rs (b.count + run_count rest) stop_whole holds.own.records.chain (chain_done from rs b rest closed are)) holds.own.records.stand goes) holds.own.records.no_end

  -- Where the segment is filled then, no batch begins or ends in what fills it.
  pub rest_batches : stop_whole ≡ size → NoBatchBegins H (site.place + last_whole) (site.place + stop_whole) × NoBatchEnds H (site.place + last_whole) (site.place + stop_whole)
  rest_batches filled = (
    (λ x among. elim (has_whole.begun x among) [
      | inl own ↦ inl (batches_between site bytes (max 20 from) last_whole (records_of done_whole) records_whole.chain (some_long sum size (site.place / size) bytes (records_of done_whole) records_whole.stand) x
          (subst (λ (l : List Batch). Contains l x) (sym (records_whole.batches site)) own)).1
      | inr (inl before) ↦ (let up = chain_grows (max 20 from) last_whole (records_of done_whole) records_whole.chain in inl (omega (arith, before, up)))
      | inr (inr after) ↦ inr after
    ]),
    (λ x among. elim (holds.own.records.no_end x among) [ inl low ↦ inl (omega (arith, low, same_end)) | inr far ↦ inr (omega (arith, far, filled)) ]),
  )
    where
      others : List Reserved
      others = drop (b.count + run_count rest) rs

      chain_left : IsChain stop_whole others (length bytes)
      chain_left = chain_rest (max 20 from) (length bytes) rs (b.count + run_count rest) stop_whole holds.own.records.chain (chain_done from rs b rest closed are)

      left : others ≡ []
      left = none_behind stop_whole others (length bytes) chain_left (omega (arith, short, filled)) (some_long sum size (site.place / size) bytes others (All-drop (Stands sum size (site.place / size) bytes) (b.count + run_count rest) rs holds.own.records.stand))

      same_end : records_end rs (length bytes) ≡ last_whole
      same_end =
          let far = chain_grows stop_whole (length bytes) others chain_left in
          let full : length bytes ≡ stop_whole = omega (arith, far, short, filled) in
          ap (λ (l : List Reserved). records_end l (length bytes)) (sym (take-append-drop (b.count + run_count rest) rs) ∙ ap (λ (l : List Reserved). done_whole ++ l) left ∙ append-nil done_whole) ∙ ap (records_end done_whole) full

  -- where the segment isn't filled then, none of them fills it
  pub plain_below : stop_whole < size → All NoPadding done_whole
  plain_below below =
      plain_run sum size (site.place / size) bytes (max 20 from) stop_whole done_whole (chain_done from rs b rest closed are) below (All-take (Stands sum size (site.place / size) bytes) (b.count + run_count rest) rs holds.own.records.stand)

  -- all that is written then ends where that does
  pub ends_first : (m : Message) → Contains H.messages m → m.place < site.place + stop_whole → (m.place < site.place + stop_whole) × (m.place + m.size ≤ site.place + stop_whole)
  ends_first m there below = elim (which_part sum size site device fault bytes from (b ∷ rest) rs H holds m there) [
    | inl first ↦ (
        let now = segment_first sum size site device fault bytes from b rest rs own_history holds.own short big place_small slot_small are fresh closed rise whole after_first refl in
        All-contains (λ (x : Message). (x.place < site.place + stop_whole) × (x.place + x.size ≤ site.place + stop_whole)) now.records.earlier m now.records.below
        (written_before sum size site after_first fault bytes stop_whole (behind_run rest) (drop (b.count + run_count rest) rs) own_history now m first below))
    | inr later ↦ absurd (
        let far = All-contains (λ (x : Message). site.place + size ≤ x.place) holds.later m (later_above sum size site device fault bytes from (b ∷ rest) rs H holds) later in
        let low = run_below b.end rest size rise_whole.1 in
        omega (arith, far, low, below))
  ]

  -- and, where the segment is filled, where the records do
  pub ends_full : stop_whole ≡ size → (m : Message) → Contains H.messages m → m.place < site.place + stop_whole → (m.place < site.place + last_whole) × (m.place + m.size ≤ site.place + last_whole)
  unfolding segment_first
  ends_full filled m there below = elim (which_part sum size site device fault bytes from (b ∷ rest) rs H holds m there) [
    | inl first ↦ (
        let now = segment_first sum size site device fault bytes from b rest rs own_history holds.own short big place_small slot_small are fresh closed rise whole after_first refl in
        let far = last_up in
        let Between : Message → Type 0 = λ x. (site.place + max 20 from ≤ x.place) × (x.place < site.place + last_whole) × (x.place + x.size ≤ site.place + last_whole) in
        elim (Contains-append_cases holds.own.records.earlier (completed_in site bytes done_whole) m (written_before sum size site after_first fault bytes stop_whole (behind_run rest) (drop (b.count + run_count rest) rs) own_history now m first below)) [
          | inl early ↦ (let low = All-contains (λ (x : Message). (x.place < site.place + from) × (x.place + x.size ≤ site.place + from)) holds.own.records.earlier m holds.own.records.below early in (omega (arith, low.0, far), omega (arith, low.1, far)))
          | inr mine ↦ (let lies = All-contains Between (completed_in site bytes (records_of done_whole)) m (completed_between site bytes (max 20 from) last_whole (records_of done_whole) records_whole.chain (some_long sum size (site.place / size) bytes (records_of done_whole) records_whole.stand))
              (subst (λ (ms : List Message). Contains ms m) (sym (records_whole.messages site)) mine) in (lies.1, lies.2))
        ])
    | inr later ↦ absurd (
        let far = All-contains (λ (x : Message). site.place + size ≤ x.place) holds.later m (later_above sum size site device fault bytes from (b ∷ rest) rs H holds) later in
        omega (arith, far, filled, below))
  ]

  -- What a crash leaves of the write.
  pub torn_first : (reach : ℕ) → NoHeaderOfZeros sum → {others : List BegunSegment} → {held : ℕ} → StandsAmong sum held size old_whole site from others reach H holds.begun.first → (now left : List ℕ) → length now ≤ length asked_whole
      → LeavesLog (after_write old_whole (site.slot + from) asked_whole now) left → (placed : List Placement)
      → NoForeignLog sum size (after_write old_whole (site.slot + from) asked_whole now) placed left → StandsTo sum size left H (stable_below reach H.batches) holds.begun.first reach
  torn_first reach zeros alone now left no_more leaves placed only_own =
      torn_head_any sum zeros size big old_whole site holds.own.records.place_begins holds.own.records.slot_begins place_small slot_small bytes from begins_whole rs b rest fresh closed are rise_whole inside_whole holds.own.records.stand
      header_whole (holds.own.laid whole) reach holds.begun.first alone has_whole no_end_whole now left no_more leaves {placed = placed} only_own

  -- All of it, where nothing fills the segment.
  pub alone_first : All NoPadding done_whole → (reach : ℕ) → NoHeaderOfZeros sum → (end : ℕ) → site.slot ≤ end → {others : List BegunSegment} → {held : ℕ} → StandsAmong sum held size (padded end old_whole) site from others reach H holds.begun.first
      → StandsAmong sum held size (padded end (overwritten old_whole (site.slot + from) asked_whole)) site stop_whole others (site.place + stop_whole) H holds.begun.first
  alone_first plain reach zeros end far {others} =
      first_alone sum size big old_whole site holds.own.records.place_begins holds.own.records.slot_begins place_small slot_small bytes from begins_whole rs b rest fresh closed are rise_whole inside_whole header_whole file_whole.header (holds.own.laid whole)
      holds.own.records.stand (plain_room sum size (site.place / size) bytes from big begins_whole rs b rest are holds.own.records.stand (run_count rest) plain) plain zeros reach holds.begun.first has_whole no_end_whole (whole_ascends sum size site device fault bytes from (b ∷ rest) rs H holds short) (let least = holds.begun.least in omega (arith, least)) end far {others = others}

  -- where it is filled
  pub full_first : stop_whole ≡ size → (reach : ℕ) → NoHeaderOfZeros sum → (end : ℕ) → site.slot ≤ end → {others : List BegunSegment} → {held : ℕ} → StandsAmong sum held size (padded end old_whole) site from others reach H holds.begun.first
      → StandsFull sum held size (padded end (overwritten old_whole (site.slot + from) asked_whole)) (site.place + size) others (site.place + last_whole) H holds.begun.first
  full_first filled reach zeros end far {others} among =
      first_full sum size big old_whole site holds.own.records.place_begins holds.own.records.slot_begins place_small slot_small bytes from begins_whole rs b rest fresh closed are rise_whole inside_whole {H = H} header_whole file_whole.header (holds.own.laid whole)
      holds.own.records.stand zeros reach holds.begun.first has_whole no_end_whole (whole_ascends sum size site device fault bytes from (b ∷ rest) rs H holds short) (let least = holds.begun.least in omega (arith, least)) filled end far {others = others} among

  -- so the file reaches its slot
  pub reaches_first : site.slot ≤ length (overwritten old_whole (site.slot + from) asked_whole)
  reaches_first = let agrees = has_written old_whole site.slot bytes from [] b rest size rise_whole inside_whole in let in_file = agrees.in_file in omega (arith, in_file)
