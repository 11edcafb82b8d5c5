-- One of the sealed buffers of the first segment is written, and the run of those that are written then ends with the segment: all of it is on the device, and the log fits the same history with the segments behind it.
use Rattle.std.proofs.Common.{◌≡◌, ◌≤◌, ◌<◌, ◌+◌, ◌/◌, ◌^◌, ℕ, suc, max, Bool, true, false, if◌then◌else◌, ap, List, [], ◌∷◌, ◌++◌, length, map, take, drop, refl, subst, arith, Option, None, Some}
use Rattle.std.specs.List.{All, slice_get}
use Rattle.std.specs.declared.io.Error.{Error as IoError}
use Rattle.std.proofs.lemmas.List.Elements.{All-take}
use Rattle.sled_codec.specs.History.{Message, History}
use Rattle.sled_store.specs.Device.{State, Wrote, Synced, step}
use Rattle.sled_core.specs.declared.iobuf.Reserved.{Reserved}
use Rattle.sled_core.specs.declared.iobuf.Sealed.{Sealed}
use Rattle.sled_core.specs.declared.iobuf.SegmentPosition.{SegmentPosition}
use Rattle.sled_core.specs.inside.Buffers.{NoPadding, Stands}
use Rattle.sled_core.specs.Begun.{SegmentParts}
use Rattle.sled_core.specs.Fits.{held_of}
use Rattle.sled_core.specs.inside.Fits.{HoldsSegment, begun_segment, log_parts}
use Rattle.sled_core.specs.inside.Full.{FitsFull, StandsFull}
use Rattle.sled_core.specs.LogFile.{StaysFrom}
use Rattle.sled_core.specs.Logged.{logged}
use Rattle.sled_core.specs.inside.Running.{FitsIn}
use Rattle.sled_core.specs.inside.SealedBuffers.{AreSealed, FirstUnwritten, behind_run, is_ready, now_written, run_count, run_end, written_at}
use Rattle.sled_core.specs.SealedBuffers.{bytes_between, sealed_end}
use Rattle.sled_core.specs.declared.logger.joined_marks.JoinedMarks.{JoinedMarks}
use Rattle.sled_core.proofs.Line.FullHead.{plain_run}
use Rattle.sled_core.proofs.Line.FullHolds.{emptied, none_reserved, none_sealed, rise_behind}
use Rattle.sled_core.proofs.Flush.FlushLemmas.{holds_over}
use Rattle.sled_core.proofs.Sealed.SealedFile.{stop_up}
use Rattle.sled_core.proofs.Line.FirstWritten.{ends_full, full_first, last_low, last_up, last_whole, reaches_first, rest_batches, segment_first, torn_first}
use Rattle.sled_core.proofs.Line.SealedFits.{asked_range}
use Rattle.sled_core.proofs.Holds.WriteFits.{fits_filled}
use Rattle.sled_core.proofs.Holds.BehindKept.{others_written}
use Rattle.sled_core.proofs.Reserve.Ranges.{there_split}
use Rattle.sled_core.proofs.Sealed.LaidLemmas.{EndsRise, ends_below}
use Rattle.sled_core.proofs.Sealed.Marked.{written_are, ready_closed, written_around}
use Rattle.sled_core.proofs.Sealed.Runs.{run_of}
use Rattle.sled_core.specs.inside.LogSegments.{held_since}

module _ (sum : List ℕ → ℕ) (size : ℕ) (site : SegmentPosition) (device : State) (fault : Option IoError) (bytes : List ℕ) (from : ℕ) (b : Sealed) (rest : List Sealed) (rs : List Reserved) (behind : List SegmentParts) (reach pins : ℕ) (H : History) (A f : ℕ) (U : List Message)
    (short : length bytes ≤ size) (big : 256 ≤ size) (place_small : site.place + size < 2 ^ 63) (slot_small : site.slot + size < 2 ^ 63) (closed : b.open_count ≡ 0) (whole : fault ≡ None) where
  -- its bytes, behind others
  abbrev asked : List Sealed → List ℕ
  asked front = bytes_between bytes (sealed_end from front) b.end

  abbrev after : List Sealed → State
  after front = step Synced (step (Wrote (site.slot + sealed_end from front) (asked front) (asked front)) device)

  full_around : (front : List Sealed) → {marks : JoinedMarks} → FitsIn sum marks (log_parts size site device fault bytes from (front ++ b ∷ rest) rs) behind reach pins H A f U → AreSealed from rs (front ++ b ∷ rest) → FirstUnwritten (front ++ b ∷ rest) → EndsRise from (front ++ b ∷ rest) (length bytes)
      → run_end from (front ++ now_written b ∷ rest) ≡ size → (now : ℕ) × FitsFull sum marks size (after front) fault (site.place + size) behind now pins H A f U
  full_around [] {marks} fits are fresh rise filled =
      let range = asked_range sum size site device fault bytes from b rest rs behind reach pins H A f U short big place_small slot_small closed whole [] are rise in
      let up = last_up sum size site device fault bytes from b rest rs (logged H) fits.holds short big place_small slot_small are fresh closed rise whole in
      let above = (stop_up from rs b rest closed are).0 in
      let now : HoldsSegment sum (log_parts size site (after []) fault bytes (run_end b.end rest) (behind_run rest) (drop (b.count + run_count rest) rs)) (StaysFrom (logged H) (held_of fits.holds.begun)) (record { messages = fits.holds.head; batches = H.batches }) =
      segment_first sum size site device fault bytes from b rest rs (record { messages = fits.holds.head; batches = H.batches }) fits.holds.own short big place_small slot_small are fresh closed rise whole (after []) refl in (
        site.place + last_whole sum size site device fault bytes from b rest rs (logged H) fits.holds short big place_small slot_small are fresh closed rise whole,
        fits_filled sum size site device fault bytes from (b ∷ rest) rs pins H A f U fits short big whole (run_end b.end rest) above (site.place + last_whole sum size site device fault bytes from b rest rs (logged H) fits.holds short big place_small slot_small are fresh closed rise whole)
            (let near = fits.reached.near in omega (arith, near, up)) (let low = last_low sum size site device fault bytes from b rest rs (logged H) fits.holds short big place_small slot_small are fresh closed rise whole in omega (arith, low))
            (ends_full sum size site device fault bytes from b rest rs (logged H) fits.holds short big place_small slot_small are fresh closed rise whole filled)
            (rest_batches sum size site device fault bytes from b rest rs (logged H) fits.holds short big place_small slot_small are fresh closed rise whole filled)
            (site.slot + from) (asked []) (λ zeros. torn_first sum size site device fault bytes from b rest rs (logged H) fits.holds short big place_small slot_small are fresh closed rise whole reach zeros)
            (λ (l : List ℕ) (is : StandsFull sum (held_since size marks fits.holds.begun.first) size l (site.place + size) (map begun_segment behind) (site.place + last_whole sum size site device fault bytes from b rest rs (logged H) fits.holds short big place_small slot_small are fresh closed rise whole)
            (logged H) fits.holds.begun.first). is.stands)
            (λ zeros end far. full_first sum size site device fault bytes from b rest rs (logged H) fits.holds short big place_small slot_small are fresh closed rise whole filled reach zeros end far)
            (reaches_first sum size site device fault bytes from b rest rs (logged H) fits.holds short big place_small slot_small are fresh closed rise whole) filled
            (emptied sum size site (after []) fault bytes (run_end b.end rest) (behind_run rest) (drop (b.count + run_count rest) rs) behind (logged H)
            (holds_over sum size site device fault bytes from (b ∷ rest) rs behind (logged H) fits.holds (after []) fault bytes (run_end b.end rest) (behind_run rest) (drop (b.count + run_count rest) rs) refl above now
            (others_written sum size site device fault bytes from (b ∷ rest) rs (logged H) fits.holds (omega (arith, big)) whole (site.slot + from) (asked []) range.0 (omega arith) (omega (arith, range.2)) (after []) refl))
            filled (none_sealed (run_end b.end rest) (behind_run rest) (length bytes) (rise_behind b.end rest (length bytes) rise.1) (omega (arith, filled, short)))
            (none_reserved sum size site (after []) fault bytes (run_end b.end rest) (behind_run rest) (drop (b.count + run_count rest) rs) (record { messages = fits.holds.head; batches = H.batches }) now (omega (arith, filled, short))))
            refl (λ l is. is),
      )
  full_around (x ∷ xs) {marks} fits are fresh rise filled = absurd (
      let none : run_end from (x ∷ xs ++ now_written b ∷ rest) ≡ from = not_first x (xs ++ now_written b ∷ rest) fresh in
      let up = rise.0 in
      let below = ends_below x.end (xs ++ b ∷ rest) (length bytes) rise.1 in
      omega (arith, none, filled, up, below.0, below.1, short))
    where
      not_first : (y : Sealed) (ys : List Sealed) → y.is_written ≡ false → run_end from (y ∷ ys) ≡ from
      not_first y ys is = ap (λ (o : Bool). if o then run_end y.end ys else from) is

module _ (sum : List ℕ → ℕ) (size : ℕ) (site : SegmentPosition) (device : State) (fault : Option IoError) (bytes : List ℕ) (from : ℕ) (bs : List Sealed) (rs : List Reserved) (pins : ℕ) (H : History) (A f : ℕ) (U : List Message)
    {behind : List SegmentParts} {reach : ℕ} {marks : JoinedMarks} (fits : FitsIn sum marks (log_parts size site device fault bytes from bs rs) behind reach pins H A f U)
    (short : length bytes ≤ size) (big : 256 ≤ size) (place_small : site.place + size < 2 ^ 63) (slot_small : site.slot + size < 2 ^ 63)
    (are : AreSealed from rs bs) (fresh : FirstUnwritten bs) (rise : EndsRise from bs (length bytes)) (whole : fault ≡ None) (k : ℕ) (b : Sealed) (there : slice_get bs k ≡ Some b) (ready : is_ready b ≡ true) where
  abbrev at_one : ℕ
  at_one = sealed_end from (take k bs)

  abbrev asked_one : List ℕ
  asked_one = bytes_between bytes at_one b.end

  abbrev now_one : List Sealed
  now_one = written_at k bs

  split_one : bs ≡ take k bs ++ b ∷ drop (suc k) bs
  split_one = there_split bs k b there

  -- Where the run ends before the segment nothing that is written fills it, and the log fits with it as its first segment.
  pub written_plain : run_end from now_one < size → All NoPadding (take (run_count now_one) rs)
  written_plain below =
      plain_run sum size (site.place / size) bytes (max 20 from) (max 20 (run_end from now_one)) (take (run_count now_one) rs) (run_of from rs now_one (written_are from rs bs k b there (ready_closed b ready) are)).chain (omega (arith, below, big))
      (All-take (Stands sum size (site.place / size) bytes) (run_count now_one) rs fits.holds.own.records.stand)

  -- Where it ends with the segment, all of that is on the device.
  pub fits_written_full : run_end from now_one ≡ size → (now : ℕ) × FitsFull sum marks size (step Synced (step (Wrote (site.slot + at_one) asked_one asked_one) device)) None (site.place + size) behind now pins H A f U
  fits_written_full filled =
      subst (λ (o : Option IoError). (now : ℕ) × FitsFull sum marks size (step Synced (step (Wrote (site.slot + at_one) asked_one asked_one) device)) o (site.place + size) behind now pins H A f U) whole
      (full_around sum size site device fault bytes from b (drop (suc k) bs) rs behind reach pins H A f U short big place_small slot_small (ready_closed b ready) whole (take k bs)
      (subst (λ (cs : List Sealed). FitsIn sum marks (log_parts size site device fault bytes from cs rs) behind reach pins H A f U) split_one fits) (subst (λ (cs : List Sealed). AreSealed from rs cs) split_one are) (subst FirstUnwritten split_one fresh)
      (subst (λ (cs : List Sealed). EndsRise from cs (length bytes)) split_one rise) (subst (λ (cs : List Sealed). run_end from cs ≡ size) (written_around k bs b there) filled))
