-- What stands in what is shown of a log file stands in the file itself: a record in what is written of a segment, and one of an earlier segment that stays,
-- since no slot is free in which a record is shown.
use Rattle.std.specs.declared.io.Error.{Error as IoError}
use Rattle.std.proofs.Common.{◌≡◌, ◌⊎◌, ◌+◌, ◌*◌, ◌/◌, ◌%◌, ◌≤◌, ◌<◌, ℕ, zero, suc, pos, List, [], ◌∷◌, length, map, Option, Some, None, get_or, sym, ap, subst, arith, inl, inr}
use Rattle.std.specs.List.{slice_get}
use Rattle.std.proofs.Math.Nat.{mul-mod_left}
use Rattle.std.proofs.lemmas.Bool.{cases_Bool, cases_order}
use Rattle.sled_codec.specs.declared.result.DiskPtr.TheVariants.{Inline}
use Rattle.sled_codec.specs.History.{Batch, History, Message}
use Rattle.sled_codec.specs.Record.{IsHeader}
use Rattle.sled_store.specs.Device.{State}
use Rattle.sled_store.specs.SegmentStates.{Machine, is_free, slot_at}
use Rattle.sled_store.proofs.Segments.FilledLemmas.{slot_before}
use Rattle.sled_core.specs.Begun.{SegmentView}
use Rattle.sled_core.specs.declared.iobuf.SegmentPosition.{SegmentPosition}
use Rattle.sled_core.specs.LogFile.{HasHeader, IsLogFile, MessageStands, StandsElsewhere, StandsHere, StaysFrom}
use Rattle.sled_core.specs.declared.logger.joined_marks.JoinedMarks.{JoinedMarks}
use Rattle.sled_core.specs.Fits.{held_of}
use Rattle.sled_core.specs.inside.Cleared.{cleared, is_stale}
use Rattle.sled_core.specs.inside.Fits.{HoldBehind, HoldsLine, parts_in}
use Rattle.sled_core.specs.inside.FreeSlots.{HasSlot}
use Rattle.sled_core.specs.inside.LogFile.{StaysBelow}
use Rattle.sled_core.proofs.Line.HoldsBegun.{apart_zeros}
use Rattle.sled_core.proofs.Cleared.Moves.{part_same}
use Rattle.sled_core.proofs.Cleared.Offsets.{Beside, LineRises, cleared_zeros, zeroed_beside}
use Rattle.sled_core.proofs.Flush.FlushLemmas.{on_file}
use Rattle.sled_core.proofs.Freed.ClearedShows.{none_stale}
use Rattle.sled_core.proofs.Tail.LogFileLemmas.{stands_some}
use Rattle.sled_core.proofs.Tail.Moved.{message_moved}
use Rattle.sled_core.proofs.Tail.Multiples.{put_down}

-- Two files of one length.
module _ (sum : List ℕ → ℕ) (size : ℕ) (shown log : List ℕ) (long : length log ≡ length shown) where
  abbrev pub AreSame : ℕ → ℕ → Type 0
  AreSame from to = (i : ℕ) → from ≤ i → i < to → get_or shown i 0 ≡ get_or log i 0

  -- What stands in the one stands in the other, where they have the same bytes.
  pub stands_there : (lid number : ℕ) (m : Message) → AreSame lid (lid + m.size) → MessageStands sum size shown lid number m
      → MessageStands sum size log lid number m
  stands_there lid number m same s =
      let end = s.stands.in_file in
      message_moved sum size shown log lid number m (part_same shown log lid m.size long (λ i low high. sym (same i low high))) (omega (arith, end, long)) s

  module _ (site : SegmentPosition) (from : ℕ) (front : AreSame site.slot (site.slot + from)) where
    pub here_there : (lid : ℕ) (m : Message) → StandsHere sum size shown site from lid m → StandsHere sum size log site from lid m
    here_there lid m s =
        let lies = s.offset in
        let within = s.inside in
        record {
          at = s.at;
          place = s.place;
          offset = s.offset;
          begins = s.begins;
          stands = stands_there lid (m.place / size) m (λ i low high. front i (omega (arith, low, lies)) (omega (arith, high, lies, within))) s.stands;
          inside = s.inside;
        }

    pub head_there : 20 ≤ from → HasHeader sum shown site → HasHeader sum log site
    head_there some h = record {
      mark = h.mark;
      header = subst (λ (l : List ℕ). IsHeader sum l (pos site.place) h.mark)
          (sym (part_same shown log site.slot 20 long (λ i low high. sym (front i low (omega (arith, high, some)))))) h.header;
      below = h.below;
    }

    -- So it is with all that stands of a log, where it is so of what stays.
    pub file_there : (messages : List Message) (stays : Message → Type 0)
        → ((m : Message) → stays m → m.place < site.place → (lid : ℕ) → m.pointer ≡ Inline lid → MessageStands sum size shown lid (m.place / size) m
        → MessageStands sum size log lid (m.place / size) m)
        → IsLogFile sum size shown site from messages stays → IsLogFile sum size log site from messages stays
    file_there messages stays older file = record {
      own = λ m there above lid inline. here_there lid m (file.own m there above lid inline);
      elsewhere = λ m still below lid inline.
          let s = file.elsewhere m still below lid inline in
          record { begins = s.begins; stands = older m still below lid inline s.stands; apart = s.apart };
      begun = file.begun;
      header = λ some. head_there (file.begun some) (file.header some);
    }

-- The cleared file, and slots of which none is that of a segment of the line.
module _ (sum : List ℕ → ℕ) (size : ℕ) (some : 0 < size) (m : Machine) (line : List SegmentView) (log : List ℕ) (rises : LineRises size line)
    (taken : (n : ℕ) (u : SegmentView) → slice_get line n ≡ Some u → HasSlot size m u) where
  abbrev shown : List ℕ
  shown = cleared size m line log

  -- A record that stands apart from the segments of the line has the same bytes in the file: its slot isn't free, as a free one has zeros.
  pub older_same : (lid : ℕ) (e : Message) → MessageStands sum size shown lid (e.place / size) e
      → ((n : ℕ) (u : SegmentView) → slice_get line n ≡ Some u → (lid + e.size ≤ u.parts.site.slot) ⊎ (u.parts.site.slot + size ≤ lid))
      → (i : ℕ) → lid ≤ i → i < lid + e.size → get_or shown i 0 ≡ get_or log i 0
  older_same lid e s apart i low high =
      let k : ℕ = lid / size in
      let down = put_down size lid in
      let within = s.stands.in_slot in
      let long = stands_some sum size shown lid (e.place / size) e s in
      elim (cases_Bool (is_free (slot_at m k).state)) [
        | inl free ↦ absurd (
            let zeros = (cleared_zeros size some m line log).0 k free in
            elim (apart_zeros sum size some shown (k * size) (mul-mod_left k size) zeros lid (e.place / size) e s) [
              | inl before ↦ omega (arith, before, down.0, long)
              | inr behind ↦ omega (arith, behind, down.0, within, long)
            ])
        | inr used ↦ zeroed_beside (is_stale size m line) log i
            (none_stale size some m line log rises k used (λ n u at. beside n u at down.0 within long) i (omega (arith, low, down.0))
            (omega (arith, high, down.0, within)))
      ]
    where
      beside : (n : ℕ) (u : SegmentView) → slice_get line n ≡ Some u → lid / size * size + lid % size ≡ lid → lid % size + e.size ≤ size → 8 ≤ e.size
          → Beside size u.parts.site.slot (lid / size * size)
      beside n u at down within long =
          let has = taken n u at in
          let lies = has.lies in
          elim (cases_order has.number (lid / size)) [
            | inl same ↦ absurd (let rows = ap (λ j. j * size) same in elim (apart n u at) [
              | inl before ↦ omega (arith, before, rows, lies, down, long)
              | inr behind ↦ omega (arith, behind, rows, lies, down, within, long)
            ])
            | inr (inl lower) ↦ inl (let row = slot_before size has.number (lid / size) lower in omega (arith, row, lies))
            | inr (inr higher) ↦ inr (let row = slot_before size (lid / size) has.number higher in omega (arith, row, lies))
          ]

-- A message of an earlier segment that stays stands apart from each segment of the line.
module _ (sum : List ℕ → ℕ) (size : ℕ) (device : State) (fault : Option IoError) (whole : fault ≡ None) where
  behind_elsewhere : (place : ℕ) (us : List SegmentView) (stays : Message → Type 0) (batches : List Batch) (ms : List Message)
      → HoldBehind sum size device fault place (map parts_in us) stays batches ms → (e : Message) → stays e → e.place < place → (lid : ℕ)
      → e.pointer ≡ Inline lid
      → (n : ℕ) (u : SegmentView) → slice_get us n ≡ Some u → StandsElsewhere sum size device.log.bytes u.parts.site lid e
  behind_elsewhere place [] stays batches ms hold e still below lid inline n u at = cc
  behind_elsewhere place (x ∷ xs) stays batches ms (own, later, all, next, rest) e still below lid inline zero u at =
      let same : x ≡ u = cc in
      let begins = next.next in
      subst (λ (y : SegmentView). StandsElsewhere sum size device.log.bytes y.parts.site lid e) same
      ((on_file sum size device.log x.parts.site x.parts.written_len next.segment.records.earlier stays (next.segment.written whole)).elsewhere e still
      (omega (arith, begins, below)) lid inline)
  behind_elsewhere place (x ∷ xs) stays batches ms (own, later, all, next, rest) e still below lid inline (suc n) u at =
      behind_elsewhere (place + size) xs stays batches later rest e still (omega (arith, below)) lid inline n u at

  pub line_elsewhere : (v : SegmentView) (vs : List SegmentView) (H : History) {marks : JoinedMarks}
      (holds : HoldsLine sum marks size device fault (v ∷ vs) H) → (e : Message) → StaysFrom H (held_of holds.begun) e → e.place < v.parts.site.place
      → (lid : ℕ) → e.pointer ≡ Inline lid
      → (n : ℕ) (u : SegmentView) → slice_get (v ∷ vs) n ≡ Some u → StandsElsewhere sum size device.log.bytes u.parts.site lid e
  line_elsewhere v vs H holds e still below lid inline zero u at =
      let same : v ≡ u = cc in
      subst (λ (y : SegmentView). StandsElsewhere sum size device.log.bytes y.parts.site lid e) same
      ((on_file sum size device.log v.parts.site v.parts.written_len holds.own.records.earlier (StaysFrom H (held_of holds.begun))
      (holds.own.written whole)).elsewhere e still below lid inline)
  line_elsewhere v vs H holds e still below lid inline (suc n) u at =
      behind_elsewhere (v.parts.site.place + size) vs (StaysBelow H (held_of holds.begun) v.parts.site.place) H.batches holds.later
      holds.others e (still, below) (omega (arith, below)) lid inline n u at
