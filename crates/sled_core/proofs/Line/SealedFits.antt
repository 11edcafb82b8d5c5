-- One of the sealed buffers of a log is written at its place, and synced: at each moment a crash leaves what can be recovered, and behind it the log fits the same history. The buffers at the front that are written leave the list.
use Rattle.std.proofs.Common.{◌≡◌, ◌⊎◌, ◌≤◌, ◌<◌, ◌+◌, ◌/◌, ◌^◌, ℕ, suc, Bool, true, false, if◌then◌else◌, List, [], ◌∷◌, ◌++◌, length, map, take, drop, sym, arith, refl, subst, inl, inr, Option, None, Some}
use Rattle.std.specs.List.{All, slice_get}
use Rattle.std.specs.declared.io.Error.{Error as IoError}
use Rattle.std.proofs.lemmas.Bool.{cases_lt}
use Rattle.sled_codec.specs.History.{Message, History}
use Rattle.sled_codec.specs.Snapshots.{SnapshotModel}
use Rattle.sled_store.specs.Device.{LogState, State, Wrote, Synced, LeavesLog, at_rest, overwritten, step, Placement}
use Rattle.sled_store.specs.Foreign.{NoForeignLog}
use Rattle.sled_store.specs.inside.Script.{Along}
use Rattle.sled_core.specs.Logged.{logged}
use Rattle.sled_core.specs.OpenBatches.{stable_below}
use Rattle.sled_core.specs.declared.iobuf.Reserved.{Reserved}
use Rattle.sled_core.specs.declared.iobuf.Sealed.{Sealed}
use Rattle.sled_core.specs.declared.iobuf.SegmentPosition.{SegmentPosition}
use Rattle.sled_core.specs.inside.Buffers.{NoPadding}
use Rattle.sled_core.specs.Begun.{SegmentParts}
use Rattle.sled_core.specs.inside.Fits.{log_parts, begun_segment, HoldsIn, HoldsSegment}
use Rattle.sled_core.specs.inside.Full.{StandsFull}
use Rattle.sled_core.specs.LogFile.{IsLogFile}
use Rattle.sled_core.specs.inside.LogFile.{padded}
use Rattle.sled_core.specs.inside.Reached.{BegunSegment, StandsAmong}
use Rattle.sled_core.specs.Recoverable.{NoHeaderOfZeros}
use Rattle.sled_core.specs.inside.Lasting.{LeavesRecovering}
use Rattle.sled_core.specs.inside.Running.{FitsIn}
use Rattle.sled_core.specs.inside.SealedBuffers.{AreSealed, FirstUnwritten, Laid, now_written, written_at, run_end, run_count, behind_run, is_ready}
use Rattle.sled_core.specs.SealedBuffers.{sealed_end, bytes_between}
use Rattle.sled_core.specs.declared.logger.joined_marks.JoinedMarks.{JoinedMarks}
use Rattle.sled_core.proofs.Reserve.Ranges.{there_split}
use Rattle.sled_core.proofs.Line.FirstWritten.{alone_first, ends_first, ends_full, full_first, last_low, last_up, last_whole, none_or_begun, plain_below, reaches_first, rest_batches, rise_in, segment_first, torn_first}
use Rattle.sled_core.proofs.Flush.FlushLemmas.{holds_over, on_file}
use Rattle.sled_core.proofs.Sealed.SealedFile.{file_beside, stop_up}
use Rattle.sled_core.proofs.Reserve.RecordEnds.{none_between}
use Rattle.sled_core.proofs.Holds.WriteFits.{along_behind, fits_behind}
use Rattle.sled_core.proofs.Holds.BehindKept.{others_written}
use Rattle.sled_core.proofs.Reached.StandsTo.{StandsTo}
use Rattle.sled_core.proofs.Sealed.BehindUnwritten.{torn_behind_unwritten}
use Rattle.sled_core.proofs.Sealed.HeadSealed.{run_below}
use Rattle.sled_core.proofs.Sealed.LaidLemmas.{EndsRise}
use Rattle.sled_core.proofs.Sealed.OneWritten.{has_written, laid_new, long, rises_at}
use Rattle.sled_core.proofs.Sealed.Marked.{written_are, ready_closed, written_around}
use Rattle.sled_core.proofs.Sealed.Runs.{run_of}
use Rattle.sled_core.proofs.Sealed.SealedCalls.{later_alone}
use Rattle.sled_core.proofs.Torn.TornLemmas.{after_write}
use Rattle.sled_core.specs.inside.LogSegments.{held_since}

-- Where the first buffer isn't written there is no run at the front.
no_run : (P : ℕ → List Sealed → List Reserved → Type 0) (from : ℕ) (x : Sealed) (xs : List Sealed) (rs : List Reserved) → x.is_written ≡ false → P from (x ∷ xs) rs
    → P (run_end from (x ∷ xs)) (behind_run (x ∷ xs)) (drop (run_count (x ∷ xs)) rs)
no_run P from x xs rs fresh all =
    subst (λ (o : Bool). P (if o then run_end x.end xs else from) (if o then behind_run xs else x ∷ xs) (drop (if o then x.count + run_count xs else 0) rs)) (sym fresh) all

-- Another one is written, behind a first one that isn't.
module _ (sum : List ℕ → ℕ) (size : ℕ) (site : SegmentPosition) (device : State) (fault : Option IoError) (bytes : List ℕ) (from : ℕ) (x : Sealed) (xs : List Sealed) (b : Sealed) (rest : List Sealed) (rs : List Reserved) (H : History)
    {stays : Message → Type 0} (holds : HoldsSegment sum (log_parts size site device fault bytes from (x ∷ xs ++ b ∷ rest) rs) stays H)
    (short : length bytes ≤ size) (big : 256 ≤ size) (place_small : site.place + size < 2 ^ 63) (slot_small : site.slot + size < 2 ^ 63)
    (are : AreSealed from rs (x ∷ xs ++ b ∷ rest)) (rise : EndsRise from (x ∷ xs ++ b ∷ rest) (length bytes)) (whole : fault ≡ None) where
  -- where it begins
  abbrev at : ℕ
  at = sealed_end x.end xs

  abbrev asked_later : List ℕ
  asked_later = bytes_between bytes at b.end

  abbrev old_later : List ℕ
  old_later = device.log.bytes

  abbrev new_later : List ℕ
  new_later = overwritten old_later (site.slot + at) asked_later

  lies : (from ≤ at) × (at < b.end) × (b.end ≤ length bytes)
  lies = rises_at from (x ∷ xs) b rest (length bytes) rise

  rise_later : EndsRise from (x ∷ xs ++ b ∷ rest) size
  rise_later = rise_in from rs (x ∷ xs ++ b ∷ rest) (length bytes) size are rise short

  covers : at + length asked_later ≤ size
  covers = let l = long old_later site.slot bytes from (x ∷ xs) b rest size rise_later lies.2 in let in_text = lies.2 in omega (arith, l, in_text, short)

  file_later : IsLogFile sum size old_later site from holds.records.earlier stays
  file_later = on_file sum size device.log site from holds.records.earlier stays (holds.written whole)

  later_begins : (from ≡ 0) ⊎ (20 ≤ from)
  later_begins = none_or_begun sum size old_later site from holds.records.earlier stays file_later

  -- Once it is synced the segment holds the same.
  segment_later : (new : State) → new.log ≡ at_rest new_later → HoldsSegment sum (log_parts size site new fault bytes from (x ∷ xs ++ now_written b ∷ rest) rs) stays H
  segment_later new is = record {
    records = holds.records;
    written = λ none. record { log = new_later; settled = is; file = file_beside sum size site old_later at asked_later from holds.records.earlier stays file_later lies.0 covers };
    laid = λ none. subst (λ (s : LogState). Laid s.bytes site.slot bytes from (x ∷ xs ++ now_written b ∷ rest) size) (sym is)
        (laid_new old_later site.slot bytes from (x ∷ xs) b rest size rise_later lies.2 (holds.laid whole));
  }

  -- What a crash leaves of the write.
  torn_later : x.is_written ≡ false → (W : History) (first : SnapshotModel) (reach : ℕ) → NoHeaderOfZeros sum → {others : List BegunSegment} → {held : ℕ} → StandsAmong sum held size old_later site from others reach W first → (now left : List ℕ) → length now ≤ length asked_later
      → LeavesLog (after_write old_later (site.slot + at) asked_later now) left → (placed : List Placement) → NoForeignLog sum size (after_write old_later (site.slot + at) asked_later now) placed left
      → StandsTo sum size left W (stable_below reach W.batches) first reach
  torn_later fresh W first reach zeros alone now left no_more leaves placed only_own =
      torn_behind_unwritten sum zeros size big old_later site holds.records.slot_begins bytes from later_begins rs x xs b rest fresh are rise_later lies.2 (site.place / size) holds.records.stand reach W first old_later (holds.laid whole)
      alone now left no_more leaves {placed = placed} only_own

  -- All of it.
  alone_later : x.is_written ≡ false → (W : History) (first : SnapshotModel) (reach : ℕ) → NoHeaderOfZeros sum → (end : ℕ) → site.slot ≤ end → {others : List BegunSegment} → {held : ℕ} → StandsAmong sum held size (padded end old_later) site from others reach W first
      → StandsAmong sum held size (padded end new_later) site from others reach W first
  alone_later fresh W first reach zeros = later_alone sum size big old_later site holds.records.place_begins holds.records.slot_begins place_small slot_small bytes from later_begins rs x xs b rest fresh are rise_later lies.2 (site.place / size) holds.records.stand (holds.laid whole)
      zeros reach W first

  -- so the file reaches its slot
  reaches_later : site.slot ≤ length new_later
  reaches_later = let agrees = has_written old_later site.slot bytes from (x ∷ xs) b rest size rise_later lies.2 in let in_file = agrees.in_file in omega (arith, in_file)

-- One of them is written, whichever it is.
segment_around : (sum : List ℕ → ℕ) (size : ℕ) (site : SegmentPosition) (device : State) (fault : Option IoError) (bytes : List ℕ) (from : ℕ) (front : List Sealed) (b : Sealed) (rest : List Sealed) (rs : List Reserved) (H : History)
    → {stays : Message → Type 0} → HoldsSegment sum (log_parts size site device fault bytes from (front ++ b ∷ rest) rs) stays H
    → length bytes ≤ size → 256 ≤ size → site.place + size < 2 ^ 63 → site.slot + size < 2 ^ 63 → AreSealed from rs (front ++ b ∷ rest) → FirstUnwritten (front ++ b ∷ rest) → b.open_count ≡ 0 → EndsRise from (front ++ b ∷ rest) (length bytes) → fault ≡ None
    → (new : State) → new.log ≡ at_rest (overwritten device.log.bytes (site.slot + sealed_end from front) (bytes_between bytes (sealed_end from front) b.end))
    → HoldsSegment sum (log_parts size site new fault bytes (run_end from (front ++ now_written b ∷ rest)) (behind_run (front ++ now_written b ∷ rest)) (drop (run_count (front ++ now_written b ∷ rest)) rs)) stays H
segment_around sum size site device fault bytes from [] b rest rs H holds short big place_small slot_small are fresh closed rise whole new is =
    segment_first sum size site device fault bytes from b rest rs H holds short big place_small slot_small are fresh closed rise whole new is
segment_around sum size site device fault bytes from (x ∷ xs) b rest rs H {stays} holds short big place_small slot_small are fresh closed rise whole new is =
    no_run (λ n cs l. HoldsSegment sum (log_parts size site new fault bytes n cs l) stays H) from x (xs ++ now_written b ∷ rest) rs fresh
    (segment_later sum size site device fault bytes from x xs b rest rs H holds short big place_small slot_small are rise whole new is)

module _ (sum : List ℕ → ℕ) (size : ℕ) (site : SegmentPosition) (device : State) (fault : Option IoError) (bytes : List ℕ) (from : ℕ) (b : Sealed) (rest : List Sealed) (rs : List Reserved) (behind : List SegmentParts) (reach pins : ℕ) (H : History) (A f : ℕ) (U : List Message)
    (short : length bytes ≤ size) (big : 256 ≤ size) (place_small : site.place + size < 2 ^ 63) (slot_small : site.slot + size < 2 ^ 63) (closed : b.open_count ≡ 0) (whole : fault ≡ None) where
  -- its bytes, behind others
  abbrev asked_behind : List Sealed → List ℕ
  asked_behind front = bytes_between bytes (sealed_end from front) b.end

  -- what the first segment holds
  abbrev own_of : List Message → History
  own_of head = record { messages = head; batches = H.batches }

  -- They lie behind what was written of the segment, and in it.
  pub asked_range : (front : List Sealed) → AreSealed from rs (front ++ b ∷ rest) → EndsRise from (front ++ b ∷ rest) (length bytes)
      → (0 < length (asked_behind front)) × (from ≤ sealed_end from front) × (sealed_end from front + length (asked_behind front) ≤ size)
  asked_range front are rise =
      let lies = rises_at from front b rest (length bytes) rise in
      let l = long device.log.bytes site.slot bytes from front b rest size (rise_in from rs (front ++ b ∷ rest) (length bytes) size are rise short) lies.2 in
      (omega (arith, l, lies.1), lies.0, omega (arith, l, lies.2, short))

  -- At each moment of the two calls a crash leaves what can be recovered.
  along_around : (front : List Sealed) {marks : JoinedMarks} (fits : FitsIn sum marks (log_parts size site device fault bytes from (front ++ b ∷ rest) rs) behind reach pins H A f U) → AreSealed from rs (front ++ b ∷ rest) → FirstUnwritten (front ++ b ∷ rest) → EndsRise from (front ++ b ∷ rest) (length bytes)
      → Along (LeavesRecovering sum size H (stable_below reach H.batches) f) (Wrote (site.slot + sealed_end from front) (asked_behind front) (asked_behind front) ∷ Synced ∷ []) device
  along_around [] {marks} fits are fresh rise = elim (cases_lt (run_end b.end rest) size) [
    | inl below ↦ along_behind sum size site device fault bytes from (b ∷ rest) rs pins H A f U fits short big whole (run_end b.end rest) (stop_up from rs b rest closed are).0 (site.place + run_end b.end rest) (let near = fits.reached.near in let above = (stop_up from rs b rest closed are).0 in omega (arith, near, above)) (omega arith)
        (ends_first sum size site device fault bytes from b rest rs (logged H) fits.holds short big place_small slot_small are fresh closed rise whole)
        (none_between (logged H) (site.place + run_end b.end rest))
        (site.slot + from) (asked_behind []) (λ zeros. torn_first sum size site device fault bytes from b rest rs (logged H) fits.holds short big place_small slot_small are fresh closed rise whole reach zeros)
        (λ (l : List ℕ) (is : StandsAmong sum (held_since size marks fits.holds.begun.first) size l site (run_end b.end rest) (map begun_segment behind) (site.place + run_end b.end rest) (logged H) fits.holds.begun.first). is.stands)
        (λ zeros end far. alone_first sum size site device fault bytes from b rest rs (logged H) fits.holds short big place_small slot_small are fresh closed rise whole
        (plain_below sum size site device fault bytes from b rest rs (logged H) fits.holds short big place_small slot_small are fresh closed rise whole below) reach zeros end far)
        (reaches_first sum size site device fault bytes from b rest rs (logged H) fits.holds short big place_small slot_small are fresh closed rise whole)
    | inr above ↦ (
        let filled : run_end b.end rest ≡ size = let low = run_below b.end rest (length bytes) rise.1 in omega (arith, above, low, short) in
        let from_up = last_up sum size site device fault bytes from b rest rs (logged H) fits.holds short big place_small slot_small are fresh closed rise whole in
        along_behind sum size site device fault bytes from (b ∷ rest) rs pins H A f U fits short big whole (run_end b.end rest) (stop_up from rs b rest closed are).0
        (site.place + last_whole sum size site device fault bytes from b rest rs (logged H) fits.holds short big place_small slot_small are fresh closed rise whole) (let near = fits.reached.near in omega (arith, near, from_up))
        (let low = last_low sum size site device fault bytes from b rest rs (logged H) fits.holds short big place_small slot_small are fresh closed rise whole in omega (arith, low))
        (ends_full sum size site device fault bytes from b rest rs (logged H) fits.holds short big place_small slot_small are fresh closed rise whole filled)
        (rest_batches sum size site device fault bytes from b rest rs (logged H) fits.holds short big place_small slot_small are fresh closed rise whole filled)
        (site.slot + from) (asked_behind []) (λ zeros. torn_first sum size site device fault bytes from b rest rs (logged H) fits.holds short big place_small slot_small are fresh closed rise whole reach zeros)
        (λ (l : List ℕ) (is : StandsFull sum (held_since size marks fits.holds.begun.first) size l (site.place + size) (map begun_segment behind)
        (site.place + last_whole sum size site device fault bytes from b rest rs (logged H) fits.holds short big place_small slot_small are fresh closed rise whole) (logged H) fits.holds.begun.first). is.stands)
        (λ zeros end far. full_first sum size site device fault bytes from b rest rs (logged H) fits.holds short big place_small slot_small are fresh closed rise whole filled reach zeros end far)
        (reaches_first sum size site device fault bytes from b rest rs (logged H) fits.holds short big place_small slot_small are fresh closed rise whole))
  ]
  along_around (x ∷ xs) {marks} fits are fresh rise =
      along_behind sum size site device fault bytes from (x ∷ xs ++ b ∷ rest) rs pins H A f U fits short big whole from (omega arith) reach (omega arith) fits.reached.near fits.reached.ends (fits.reached.no_batch, fits.reached.no_end)
      (site.slot + sealed_end x.end xs) (asked_behind (x ∷ xs))
      (λ zeros. torn_later sum size site device fault bytes from x xs b rest rs (own_of fits.holds.head) fits.holds.own short big place_small slot_small are rise whole fresh (logged H) fits.holds.begun.first reach zeros)
      (λ (l : List ℕ) (is : StandsAmong sum (held_since size marks fits.holds.begun.first) size l site from (map begun_segment behind) reach (logged H) fits.holds.begun.first). is.stands)
      (λ zeros end far. alone_later sum size site device fault bytes from x xs b rest rs (own_of fits.holds.head) fits.holds.own short big place_small slot_small are rise whole fresh (logged H) fits.holds.begun.first reach zeros end far)
      (reaches_later sum size site device fault bytes from x xs b rest rs (own_of fits.holds.head) fits.holds.own short big place_small slot_small are rise whole)

  abbrev after_behind : List Sealed → State
  after_behind front = step Synced (step (Wrote (site.slot + sealed_end from front) (asked_behind front) (asked_behind front)) device)

  -- Behind them the log fits, where nothing fills the segment.
  fits_around : {marks : JoinedMarks} (front : List Sealed) → FitsIn sum marks (log_parts size site device fault bytes from (front ++ b ∷ rest) rs) behind reach pins H A f U → AreSealed from rs (front ++ b ∷ rest) → FirstUnwritten (front ++ b ∷ rest) → EndsRise from (front ++ b ∷ rest) (length bytes) → All NoPadding (take (run_count (front ++ now_written b ∷ rest)) rs)
      → (now : ℕ) × FitsIn sum marks (log_parts size site (after_behind front) fault bytes (run_end from (front ++ now_written b ∷ rest)) (behind_run (front ++ now_written b ∷ rest)) (drop (run_count (front ++ now_written b ∷ rest)) rs)) behind now pins H A f U
  fits_around {marks} [] fits are fresh rise plain =
      let range = asked_range [] are rise in (
        site.place + run_end b.end rest,
        fits_behind sum size site device fault bytes from (b ∷ rest) rs pins H A f U fits short big whole (run_end b.end rest) (stop_up from rs b rest closed are).0 (site.place + run_end b.end rest) (let near = fits.reached.near in let above = (stop_up from rs b rest closed are).0 in omega (arith, near, above)) (omega arith)
            (ends_first sum size site device fault bytes from b rest rs (logged H) fits.holds short big place_small slot_small are fresh closed rise whole)
            (none_between (logged H) (site.place + run_end b.end rest))
            (site.slot + from) (asked_behind []) (λ zeros. torn_first sum size site device fault bytes from b rest rs (logged H) fits.holds short big place_small slot_small are fresh closed rise whole reach zeros)
            (λ (l : List ℕ) (is : StandsAmong sum (held_since size marks fits.holds.begun.first) size l site (run_end b.end rest) (map begun_segment behind) (site.place + run_end b.end rest) (logged H) fits.holds.begun.first). is.stands)
            (λ zeros end far. alone_first sum size site device fault bytes from b rest rs (logged H) fits.holds short big place_small slot_small are fresh closed rise whole plain reach zeros end far)
            (reaches_first sum size site device fault bytes from b rest rs (logged H) fits.holds short big place_small slot_small are fresh closed rise whole) (behind_run rest) (drop (b.count + run_count rest) rs)
            (holds_over sum size site device fault bytes from (b ∷ rest) rs behind (logged H) fits.holds (after_behind []) fault bytes (run_end b.end rest) (behind_run rest) (drop (b.count + run_count rest) rs) refl (stop_up from rs b rest closed are).0
            (segment_first sum size site device fault bytes from b rest rs (own_of fits.holds.head) fits.holds.own short big place_small slot_small are fresh closed rise whole (after_behind []) refl)
            (others_written sum size site device fault bytes from (b ∷ rest) rs (logged H) fits.holds (omega (arith, big)) whole (site.slot + from) (asked_behind []) range.0 (omega arith) (omega (arith, range.2)) (after_behind []) refl)) refl (λ l is. is),
      )
  fits_around {marks} (x ∷ xs) fits are fresh rise plain =
      let range = asked_range (x ∷ xs) are rise in
      no_run (λ n cs others. (now : ℕ) × FitsIn sum marks (log_parts size site (after_behind (x ∷ xs)) fault bytes n cs others) behind now pins H A f U) from x (xs ++ now_written b ∷ rest) rs fresh (
        reach,
        fits_behind sum size site device fault bytes from (x ∷ xs ++ b ∷ rest) rs pins H A f U fits short big whole from (omega arith) reach (omega arith) fits.reached.near fits.reached.ends (fits.reached.no_batch, fits.reached.no_end)
            (site.slot + sealed_end x.end xs) (asked_behind (x ∷ xs))
            (λ zeros. torn_later sum size site device fault bytes from x xs b rest rs (own_of fits.holds.head) fits.holds.own short big place_small slot_small are rise whole fresh (logged H) fits.holds.begun.first reach zeros)
            (λ (l : List ℕ) (is : StandsAmong sum (held_since size marks fits.holds.begun.first) size l site from (map begun_segment behind) reach (logged H) fits.holds.begun.first). is.stands)
            (λ zeros end far. alone_later sum size site device fault bytes from x xs b rest rs (own_of fits.holds.head) fits.holds.own short big place_small slot_small are rise whole fresh (logged H) fits.holds.begun.first reach zeros end far)
            (reaches_later sum size site device fault bytes from x xs b rest rs (own_of fits.holds.head) fits.holds.own short big place_small slot_small are rise whole) (x ∷ xs ++ now_written b ∷ rest) rs
            (holds_over sum size site device fault bytes from (x ∷ xs ++ b ∷ rest) rs behind (logged H) fits.holds (after_behind (x ∷ xs)) fault bytes from (x ∷ xs ++ now_written b ∷ rest) rs refl (omega arith)
            (segment_later sum size site device fault bytes from x xs b rest rs (own_of fits.holds.head) fits.holds.own short big place_small slot_small are rise whole (after_behind (x ∷ xs)) refl)
            (others_written sum size site device fault bytes from (x ∷ xs ++ b ∷ rest) rs (logged H) fits.holds (omega (arith, big)) whole (site.slot + sealed_end x.end xs) (asked_behind (x ∷ xs)) range.0 (omega (arith, range.1)) (omega (arith, range.2))
            (after_behind (x ∷ xs)) refl)) refl (λ l is. is),
      )

module _ (sum : List ℕ → ℕ) (size : ℕ) (site : SegmentPosition) (device : State) (fault : Option IoError) (bytes : List ℕ) (from : ℕ) (bs : List Sealed) (rs : List Reserved) (H : History)
    {stays : Message → Type 0} (holds : HoldsSegment sum (log_parts size site device fault bytes from bs rs) stays H)
    (short : length bytes ≤ size) (big : 256 ≤ size) (place_small : site.place + size < 2 ^ 63) (slot_small : site.slot + size < 2 ^ 63)
    (are : AreSealed from rs bs) (fresh : FirstUnwritten bs) (rise : EndsRise from bs (length bytes)) (whole : fault ≡ None) (k : ℕ) (b : Sealed) (there : slice_get bs k ≡ Some b) (ready : is_ready b ≡ true) where
  -- where it begins
  abbrev begins_at : ℕ
  begins_at = sealed_end from (take k bs)

  abbrev its_bytes : List ℕ
  its_bytes = bytes_between bytes begins_at b.end

  abbrev now : List Sealed
  now = written_at k bs

  split : bs ≡ take k bs ++ b ∷ drop (suc k) bs
  split = there_split bs k b there

  -- Once one that is ready is written and synced, the segment holds the same.
  pub segment_written_one : (new : State) → new.log ≡ at_rest (overwritten device.log.bytes (site.slot + begins_at) its_bytes)
      → HoldsSegment sum (log_parts size site new fault bytes (run_end from now) (behind_run now) (drop (run_count now) rs)) stays H
  segment_written_one new is =
      subst (λ (cs : List Sealed). HoldsSegment sum (log_parts size site new fault bytes (run_end from cs) (behind_run cs) (drop (run_count cs) rs)) stays H) (sym (written_around k bs b there))
      (segment_around sum size site device fault bytes from (take k bs) b (drop (suc k) bs) rs H (subst (λ (cs : List Sealed). HoldsSegment sum (log_parts size site device fault bytes from cs rs) stays H) split holds) short big place_small slot_small
      (subst (λ (cs : List Sealed). AreSealed from rs cs) split are) (subst FirstUnwritten split fresh) (ready_closed b ready) (subst (λ (cs : List Sealed). EndsRise from cs (length bytes)) split rise) whole new is)

-- And so does the log.
pub holds_written_one : (sum : List ℕ → ℕ) (size : ℕ) (site : SegmentPosition) (device : State) (fault : Option IoError) (bytes : List ℕ) (from : ℕ) (bs : List Sealed) (rs : List Reserved) (H : History) {behind : List SegmentParts} → {marks : JoinedMarks} → HoldsIn sum marks (log_parts size site device fault bytes from bs rs) behind H
    → length bytes ≤ size → 256 ≤ size → site.place + size < 2 ^ 63 → site.slot + size < 2 ^ 63 → AreSealed from rs bs → FirstUnwritten bs → EndsRise from bs (length bytes) → fault ≡ None → (k : ℕ) (b : Sealed) → slice_get bs k ≡ Some b → is_ready b ≡ true
    → (new : State) → new.log ≡ at_rest (overwritten device.log.bytes (site.slot + sealed_end from (take k bs)) (bytes_between bytes (sealed_end from (take k bs)) b.end)) → new.snapshots.file ≡ device.snapshots.file
    → HoldsIn sum marks (log_parts size site new fault bytes (run_end from (written_at k bs)) (behind_run (written_at k bs)) (drop (run_count (written_at k bs)) rs)) behind H
holds_written_one sum size site device fault bytes from bs rs H {behind} holds short big place_small slot_small are fresh rise whole k b there ready new is names =
    let now : List Sealed = written_at k bs in
    let grows = (run_of from rs now (written_are from rs bs k b there (ready_closed b ready) are)).rises in
    let split : bs ≡ take k bs ++ b ∷ drop (suc k) bs = there_split bs k b there in
    let range = asked_range sum size site device fault bytes from b (drop (suc k) bs) rs behind 0 0 H 0 0 [] short big place_small slot_small (ready_closed b ready) whole (take k bs)
    (subst (λ (cs : List Sealed). AreSealed from rs cs) split are) (subst (λ (cs : List Sealed). EndsRise from cs (length bytes)) split rise) in
    holds_over sum size site device fault bytes from bs rs behind H holds new fault bytes (run_end from now) (behind_run now) (drop (run_count now) rs) names grows
    (segment_written_one sum size site device fault bytes from bs rs (record { messages = holds.head; batches = H.batches }) holds.own short big place_small slot_small are fresh rise whole k b there ready new is)
    (others_written sum size site device fault bytes from bs rs H holds (omega (arith, big)) whole (site.slot + sealed_end from (take k bs)) (bytes_between bytes (sealed_end from (take k bs)) b.end) range.0 (omega (arith, range.1)) (omega (arith, range.2)) new is)

module _ (sum : List ℕ → ℕ) (size : ℕ) (site : SegmentPosition) (device : State) (fault : Option IoError) (bytes : List ℕ) (from : ℕ) (bs : List Sealed) (rs : List Reserved) (pins : ℕ) (H : History) (A f : ℕ) (U : List Message)
    {behind : List SegmentParts} {reach : ℕ} {marks : JoinedMarks} (fits : FitsIn sum marks (log_parts size site device fault bytes from bs rs) behind reach pins H A f U)
    (short : length bytes ≤ size) (big : 256 ≤ size) (place_small : site.place + size < 2 ^ 63) (slot_small : site.slot + size < 2 ^ 63)
    (are : AreSealed from rs bs) (fresh : FirstUnwritten bs) (rise : EndsRise from bs (length bytes)) (whole : fault ≡ None) (k : ℕ) (b : Sealed) (there : slice_get bs k ≡ Some b) (ready : is_ready b ≡ true) where
  abbrev at_one : ℕ
  at_one = sealed_end from (take k bs)

  abbrev asked_one : List ℕ
  asked_one = bytes_between bytes at_one b.end

  abbrev now_one : List Sealed
  now_one = written_at k bs

  abbrev synced_one : State
  synced_one = step Synced (step (Wrote (site.slot + at_one) asked_one asked_one) device)

  split_one : bs ≡ take k bs ++ b ∷ drop (suc k) bs
  split_one = there_split bs k b there

  fits_split : FitsIn sum marks (log_parts size site device fault bytes from (take k bs ++ b ∷ drop (suc k) bs) rs) behind reach pins H A f U
  fits_split = subst (λ (cs : List Sealed). FitsIn sum marks (log_parts size site device fault bytes from cs rs) behind reach pins H A f U) split_one fits

  are_split : AreSealed from rs (take k bs ++ b ∷ drop (suc k) bs)
  are_split = subst (λ (cs : List Sealed). AreSealed from rs cs) split_one are

  rise_split : EndsRise from (take k bs ++ b ∷ drop (suc k) bs) (length bytes)
  rise_split = subst (λ (cs : List Sealed). EndsRise from cs (length bytes)) split_one rise

  -- At each moment of the write of one that is ready, and of the sync, a crash leaves what can be recovered.
  pub write_along : Along (LeavesRecovering sum size H (stable_below reach H.batches) f) (Wrote (site.slot + at_one) asked_one asked_one ∷ Synced ∷ []) device
  write_along = along_around sum size site device fault bytes from b (drop (suc k) bs) rs behind reach pins H A f U short big place_small slot_small (ready_closed b ready) whole (take k bs) fits_split are_split (subst FirstUnwritten split_one fresh) rise_split

  -- Behind them the log fits, where nothing fills its first segment.
  pub fits_written_one : All NoPadding (take (run_count now_one) rs) → (now : ℕ) × FitsIn sum marks (log_parts size site synced_one None bytes (run_end from now_one) (behind_run now_one) (drop (run_count now_one) rs)) behind now pins H A f U
  fits_written_one plain =
      subst (λ (o : Option IoError). (now : ℕ) × FitsIn sum marks (log_parts size site synced_one o bytes (run_end from now_one) (behind_run now_one) (drop (run_count now_one) rs)) behind now pins H A f U) whole
      (subst (λ (cs : List Sealed). (now : ℕ) × FitsIn sum marks (log_parts size site synced_one fault bytes (run_end from cs) (behind_run cs) (drop (run_count cs) rs)) behind now pins H A f U) (sym (written_around k bs b there))
      (fits_around sum size site device fault bytes from b (drop (suc k) bs) rs behind reach pins H A f U short big place_small slot_small (ready_closed b ready) whole (take k bs) fits_split are_split (subst FirstUnwritten split_one fresh) rise_split
      (subst (λ (cs : List Sealed). All NoPadding (take (run_count cs) rs)) (written_around k bs b there) plain)))
