-- A sealed buffer of one of the segments of a log is written at its place, and synced: at each moment a crash leaves what can be recovered, and behind it the segments that are left hold and fit the same history.
use Rattle.std.proofs.Common.{◌≡◌, ◌∙◌, ◌<◌, ◌≤◌, ◌+◌, ◌*◌, ◌==◌, ap, sym, refl, arith, subst, ℕ, zero, suc, true, false, Bool, if◌then◌else◌, List, [], ◌∷◌, length, take, drop, map, set, Option, None, Some, inl, inr}
use Rattle.std.specs.List.{All, slice_get}
use Rattle.std.specs.declared.io.Error.{Error as IoError}
use Rattle.std.proofs.lemmas.Bool.{cases_lt}
use Rattle.std.proofs.lemmas.Bool.Decides.{nat_tests}
use Rattle.std.proofs.lemmas.List.Elements.{All-set}
use Rattle.sled_codec.specs.History.{Message, History}
use Rattle.sled_store.specs.Device.{Event, State, Wrote, Synced, overwritten, step}
use Rattle.sled_store.specs.inside.Script.{Along}
use Rattle.sled_store.specs.SegmentStates.{Machine, is_free, slot_at}
use Rattle.sled_core.specs.inside.Begun.{AreFilled, line_end}
use Rattle.sled_core.specs.Begun.{SegmentParts, SegmentView, begin_of, records_to}
use Rattle.sled_core.specs.inside.Buffers.{records_end}
use Rattle.sled_core.specs.declared.iobuf.Sealed.{Sealed}
use Rattle.sled_core.specs.inside.Fits.{HoldsIn, HoldsLine, log_parts, parts_in}
use Rattle.sled_core.specs.inside.FreeSlots.{FreeAreZeros, HasSlot, HasSlots, HaveOwn}
use Rattle.sled_core.specs.inside.Full.{FitsFull}
use Rattle.sled_core.specs.inside.Lasting.{LeavesRecovering}
use Rattle.sled_core.specs.inside.Running.{FitsIn, FitsLine}
use Rattle.sled_core.specs.SealedBuffers.{bytes_between, sealed_end, writing}
use Rattle.sled_core.specs.inside.SealedBuffers.{is_ready, run_end, written_at}
use Rattle.sled_core.specs.OpenBatches.{stable_below}
use Rattle.sled_core.specs.declared.logger.joined_marks.JoinedMarks.{JoinedMarks}
use Rattle.sled_core.specs.inside.Turned.{promoted, write_in, write_of, written_now}
use Rattle.sled_core.proofs.Line.FitsWritten.{behind-along, behind-fits-written}
use Rattle.sled_core.proofs.Line.FullWrites.{fits_written_full, written_plain}
use Rattle.sled_core.proofs.Line.BehindWritten.{behind-written}
use Rattle.sled_core.proofs.Line.SealedFits.{fits_written_one, holds_written_one, write_along}
use Rattle.sled_core.proofs.Holds.Facts.{IsSegment}
use Rattle.sled_core.proofs.Line.LineEnds.{end_left, end_set}
use Rattle.sled_core.proofs.Holds.Nth.{parts_set, parts_split}
use Rattle.sled_core.proofs.Line.Promotes.{fits_full}
use Rattle.sled_core.proofs.Line.Segments.{AreSegments, all_promoted, nth_segment, promoted_same, set_segment, written_segment, written_within}
use Rattle.sled_core.proofs.Sealed.Ended.{ends_rise}
use Rattle.sled_core.proofs.Sealed.LaidLemmas.{EndsRise}
use Rattle.sled_core.proofs.Sealed.OneWritten.{length-between}
use Rattle.sled_core.proofs.Sealed.Slices.{end_to, span_within}
use Rattle.sled_core.proofs.Start.FreeSlots.{written_free}

-- what was acknowledged is stable
pub passes_line : (sum : List ℕ → ℕ) (marks : JoinedMarks) (size : ℕ) (device : State) (fault : Option IoError) (line : List SegmentView) (reach pins : ℕ) (H : History) (A f : ℕ) (U : List Message) → FitsLine sum marks size device fault line reach pins H A f U → A ≤ stable_below reach H.batches
passes_line sum marks size device fault [] reach pins H A f U fits = absurd fits
passes_line sum marks size device fault (v ∷ vs) reach pins H A f U fits = fits.passes

module _ (sum : List ℕ → ℕ) (size : ℕ) (big : 256 ≤ size) (device : State) (fault : Option IoError) (whole : fault ≡ None) (v : SegmentView) (k : ℕ) (b : Sealed) (there : slice_get v.parts.sealed k ≡ Some b) (ready : is_ready b ≡ true) where
  -- where the buffer begins, and its bytes
  abbrev pub buffer_begin : ℕ
  buffer_begin = sealed_end v.parts.written_len (take k v.parts.sealed)

  abbrev pub buffer_bytes : List ℕ
  buffer_bytes = bytes_between v.parts.bytes buffer_begin b.end

  -- the calls, and the device behind them
  abbrev pub buffer_calls : List Event
  buffer_calls = Wrote (v.parts.site.slot + buffer_begin) buffer_bytes buffer_bytes ∷ Synced ∷ []

  abbrev pub buffer_synced : State
  buffer_synced = step Synced (step (Wrote (v.parts.site.slot + buffer_begin) buffer_bytes buffer_bytes) device)

  abbrev now : SegmentView
  now = written_now k v

  pub calls_are : (line : List SegmentView) (n : ℕ) → slice_get line n ≡ Some v → write_in line n k ≡ buffer_calls
  calls_are line n among =
      ap (write_of k) among ∙ ap (λ e. writing (v.parts.site.slot + buffer_begin) (bytes_between v.parts.bytes buffer_begin e) []) (end_to v.parts.written_len v.parts.sealed k b there)

  pub rises : (place : ℕ) → IsSegment size place v → EndsRise v.parts.written_len v.parts.sealed (length v.parts.bytes)
  rises place is =
      let up = written_within size place v is in
      let begins = is.begins in
      ends_rise v.parts.written_len v.parts.reserved v.parts.sealed (length v.parts.bytes) is.are (omega (arith, up, begins)) begins

  -- The segments hold the same.
  pub holds_write : (marks : JoinedMarks) (place : ℕ) (line : List SegmentView) → AreSegments size place line → (n : ℕ) → slice_get line n ≡ Some v → (H : History) → HoldsLine sum marks size device fault line H → HoldsLine sum marks size buffer_synced fault (set line n now) H
  holds_write marks place [] are n among H holds = absurd holds
  holds_write marks place (x ∷ xs) are zero among H holds =
      let same : x ≡ v = cc in
      let is : IsSegment size place v = subst (λ (y : SegmentView). IsSegment size place y) same are.0 in
      holds_written_one sum size v.parts.site device fault v.parts.bytes v.parts.written_len v.parts.sealed v.parts.reserved H (subst (λ (y : SegmentView). HoldsLine sum marks size device fault (y ∷ xs) H) same holds)
      is.short big is.place_small is.slot_small is.are is.fresh (rises place is) whole k b there ready buffer_synced refl refl
  holds_write marks place (x ∷ xs) are (suc n) among H holds =
      let is : IsSegment size v.parts.site.place v = nth_segment size (place + size) xs are.1 n v among in
      subst (λ (l : List SegmentParts). HoldsIn sum marks (log_parts size x.parts.site buffer_synced fault x.parts.bytes x.parts.written_len x.parts.sealed x.parts.reserved) l H) (sym (parts_set xs n v now among))
      (behind-written sum size x.parts.site device fault x.parts.bytes x.parts.written_len x.parts.sealed x.parts.reserved H (map parts_in (take n xs)) v.parts (map parts_in (drop (suc n) xs))
      (subst (λ (l : List SegmentParts). HoldsIn sum marks (log_parts size x.parts.site device fault x.parts.bytes x.parts.written_len x.parts.sealed x.parts.reserved) l H) (parts_split xs n v among) holds)
      big whole are.0.short are.0.are are.0.begins is.place_small is.slot_small is.fresh k b there ready buffer_synced refl refl)

  module _ (pins : ℕ) (H : History) (A f : ℕ) (U : List Message) (recorded : records_to v.parts.filled (length v.parts.bytes) ≤ records_end v.parts.reserved (length v.parts.bytes)) where
    -- At each moment of the calls a crash leaves what can be recovered.
    pub along_write : (marks : JoinedMarks) (place reach : ℕ) (line : List SegmentView) → AreSegments size place line → (n : ℕ) → slice_get line n ≡ Some v → FitsLine sum marks size device fault line reach pins H A f U → Along (LeavesRecovering sum size H (stable_below reach H.batches) f) buffer_calls device
    along_write marks place reach [] are n among fits = absurd fits
    along_write marks place reach (x ∷ xs) are zero among fits =
        let same : x ≡ v = cc in
        let is : IsSegment size place v = subst (λ (y : SegmentView). IsSegment size place y) same are.0 in
        write_along sum size v.parts.site device fault v.parts.bytes v.parts.written_len v.parts.sealed v.parts.reserved pins H A f U (subst (λ (y : SegmentView). FitsLine sum marks size device fault (y ∷ xs) reach pins H A f U) same fits)
        is.short big is.place_small is.slot_small is.are is.fresh (rises place is) whole k b there ready
    along_write marks place reach (x ∷ xs) are (suc n) among fits =
        let is : IsSegment size v.parts.site.place v = nth_segment size (place + size) xs are.1 n v among in
        behind-along sum size x.parts.site device fault x.parts.bytes x.parts.written_len x.parts.sealed x.parts.reserved pins H A f U (map parts_in (take n xs)) v.parts (map parts_in (drop (suc n) xs))
        (subst (λ (l : List SegmentParts). FitsIn sum marks (log_parts size x.parts.site device fault x.parts.bytes x.parts.written_len x.parts.sealed x.parts.reserved) l reach pins H A f U) (parts_split xs n v among) fits)
        big whole are.0.short are.0.are are.0.begins is.place_small is.slot_small is.fresh k b there ready recorded

    -- Behind them the segments that are left fit the same.
    pub fits_write : (marks : JoinedMarks) (to place reach : ℕ) (line : List SegmentView) → AreSegments size place line → (n : ℕ) → slice_get line n ≡ Some v → AreFilled size to (set line n now) → ((x y : SegmentView) (ys : List SegmentView) → line ≡ x ∷ y ∷ ys → x.parts.written_len < size)
        → FitsLine sum marks size device fault line reach pins H A f U → (up_to : ℕ) × FitsLine sum marks size buffer_synced None (promoted size (set line n now)) up_to pins H A f U
    fits_write marks to place reach [] are n among filled waits fits = absurd fits
    fits_write marks to place reach (x ∷ xs) are zero among filled waits fits =
        let same : x ≡ v = cc in
        let is : IsSegment size place v = subst (λ (y : SegmentView). IsSegment size place y) same are.0 in
        let here : FitsIn sum marks (log_parts size v.parts.site device fault v.parts.bytes v.parts.written_len v.parts.sealed v.parts.reserved) (map parts_in xs) reach pins H A f U =
        subst (λ (y : SegmentView). FitsLine sum marks size device fault (y ∷ xs) reach pins H A f U) same fits in
        let new : IsSegment size place now = written_segment k v b there ready size place is in
        elim (cases_lt (run_end v.parts.written_len (written_at k v.parts.sealed)) size) [
          | inl below ↦ (
              let plain = written_plain sum size v.parts.site device fault v.parts.bytes v.parts.written_len v.parts.sealed v.parts.reserved pins H A f U here is.short big is.place_small is.slot_small is.are is.fresh (rises place is) whole k b there ready below in
              let after = fits_written_one sum size v.parts.site device fault v.parts.bytes v.parts.written_len v.parts.sealed v.parts.reserved pins H A f U here is.short big is.place_small is.slot_small is.are is.fresh (rises place is) whole k b there ready plain in
              (after.0, subst (λ (l : List SegmentView). FitsLine sum marks size buffer_synced None l after.0 pins H A f U) (sym (promoted_same size now xs (λ some. below))) after.1))
          | inr above ↦ (
              let up = written_within size place now new in
              let begins = new.begins in
              let short = new.short in
              let full : run_end v.parts.written_len (written_at k v.parts.sealed) ≡ size = omega (arith, above, up, begins, short) in
              rest xs full filled (omega (arith, above, up))
              (fits_written_full sum size v.parts.site device fault v.parts.bytes v.parts.written_len v.parts.sealed v.parts.reserved pins H A f U here is.short big is.place_small is.slot_small is.are is.fresh (rises place is) whole k b there ready full))
        ]
      where
        rest : (ws : List SegmentView) → run_end v.parts.written_len (written_at k v.parts.sealed) ≡ size → AreFilled size to (now ∷ ws) → size ≤ begin_of now
            → (up_to : ℕ) × FitsFull sum marks size buffer_synced None (v.parts.site.place + size) (map parts_in ws) up_to pins H A f U → (up_to : ℕ) × FitsLine sum marks size buffer_synced None (promoted size (now ∷ ws)) up_to pins H A f U
        rest [] full filled high after = absurd (let low = filled.0 in omega (arith, low, high))
        rest (w ∷ ws) full filled high after =
            let next = fits_full sum size buffer_synced None big refl to (v.parts.site.place + size) after.0 w ws filled.2 after.1 in
            let is : (run_end v.parts.written_len (written_at k v.parts.sealed) == size) ≡ true = grind (arith, nat_tests, full) in
            (next.0, subst (λ (l : List SegmentView). FitsLine sum marks size buffer_synced None l next.0 pins H A f U) (sym (ap (λ (o : Bool). if o then promoted size (w ∷ ws) else now ∷ w ∷ ws) is)) next.1)
    fits_write marks to place reach (x ∷ xs) are (suc n) among filled waits fits =
        let is : IsSegment size v.parts.site.place v = nth_segment size (place + size) xs are.1 n v among in
        let after : FitsIn sum marks (log_parts size x.parts.site buffer_synced fault x.parts.bytes x.parts.written_len x.parts.sealed x.parts.reserved) (map parts_in (set xs n now)) reach pins H A f U =
        subst (λ (l : List SegmentParts). FitsIn sum marks (log_parts size x.parts.site buffer_synced fault x.parts.bytes x.parts.written_len x.parts.sealed x.parts.reserved) l reach pins H A f U) (sym (parts_set xs n v now among))
        (behind-fits-written sum size x.parts.site device fault x.parts.bytes x.parts.written_len x.parts.sealed x.parts.reserved pins H A f U (map parts_in (take n xs)) v.parts (map parts_in (drop (suc n) xs))
        (subst (λ (l : List SegmentParts). FitsIn sum marks (log_parts size x.parts.site device fault x.parts.bytes x.parts.written_len x.parts.sealed x.parts.reserved) l reach pins H A f U) (parts_split xs n v among) fits)
        big whole are.0.short are.0.are are.0.begins is.place_small is.slot_small is.fresh k b there ready recorded) in (
          reach,
          subst (λ (l : List SegmentView). FitsLine sum marks size buffer_synced None l reach pins H A f U) (sym (promoted_same size x (set xs n now) (λ some. low xs n among (λ y ys same. waits x y ys (ap (λ (l : List SegmentView). x ∷ l) same)))))
              (subst (λ (o : Option IoError). FitsLine sum marks size buffer_synced o (x ∷ set xs n now) reach pins H A f U) whole after),
        )
      where
        low : (l : List SegmentView) (m : ℕ) → slice_get l m ≡ Some v → ((y : SegmentView) (ys : List SegmentView) → l ≡ y ∷ ys → x.parts.written_len < size) → x.parts.written_len < size
        low [] m at more = cc
        low (y ∷ ys) m at more = more y ys refl

  -- The slots of the segments are taken as before, and the free ones have zeros.
  pub slots_write : (place : ℕ) (line : List SegmentView) → AreSegments size place line → (n : ℕ) → slice_get line n ≡ Some v → (m : Machine) (later : Option IoError) → HasSlots size line device.log.bytes fault m → HasSlots size (promoted size (set line n now)) buffer_synced.log.bytes later m
  slots_write place line are n among m later slots =
      let is : IsSegment size v.parts.site.place v = nth_segment size place line are n v among in
      let own : HasSlot size m v = taken_at line n among slots.taken in
      let lies = own.lies in
      let short = is.short in
      let span = span_within v.parts.written_len v.parts.sealed k (length v.parts.bytes) (rises v.parts.site.place is) in
      let end = end_to v.parts.written_len v.parts.sealed k b there in
      let long = length-between v.parts.bytes buffer_begin b.end (omega (arith, span.1, end)) in
      record {
        taken = all_promoted size (HasSlot size m) (set line n now) (All-set (HasSlot size m) line n now (record { number = own.number; lies = own.lies; taken = own.taken; is = own.is }) slots.taken);
        zeros = λ none. written_any buffer_bytes m own.number own.taken (omega (arith, lies)) (omega (arith, long, lies, span.0, span.1, end, short)) (slots.zeros whole);
        own = subst (λ e. HaveOwn size e m) (sym (ends line are n among)) slots.own;
      }
    where
      ends : (l : List SegmentView) → AreSegments size place l → (j : ℕ) → slice_get l j ≡ Some v → line_end size (promoted size (set l j now)) ≡ line_end size l
      ends l line_are j at = end_left size place (set l j now) (set_segment size place l line_are j v now at (λ p is. written_segment k v b there ready size p is)) ∙ end_set size l j v now at refl

      taken_at : (l : List SegmentView) (j : ℕ) → slice_get l j ≡ Some v → All (HasSlot size m) l → HasSlot size m v
      taken_at [] j at all = cc
      taken_at (x ∷ xs) zero at all = let same : x ≡ v = cc in subst (HasSlot size m) same (all 0 x (omega arith))
      taken_at (x ∷ xs) (suc j) at all = taken_at xs j at (λ i d lt. all (suc i) d (omega (arith, lt)))

      written_any : (bytes : List ℕ) (m : Machine) (number : ℕ) → is_free (slot_at m number).state ≡ false → number * size ≤ v.parts.site.slot + buffer_begin → v.parts.site.slot + buffer_begin + length bytes ≤ number * size + size
          → FreeAreZeros size device.log.bytes m → FreeAreZeros size (overwritten device.log.bytes (v.parts.site.slot + buffer_begin) bytes) m
      written_any [] m number taken low high zeros = zeros
      written_any (y ∷ ys) m number taken low high zeros = written_free size device.log.bytes m number (v.parts.site.slot + buffer_begin) (y ∷ ys) taken low high (omega arith) zeros
