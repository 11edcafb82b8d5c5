-- A sealed buffer of a segment behind the first one is written at its place, and synced: the log holds what it held, since each other segment lies in another slot, and what stays of earlier ones too.
use Rattle.std.proofs.Common.{◌≡◌, ◌⊎◌, ◌∙◌, ◌≤◌, ◌<◌, ◌+◌, ◌^◌, ℕ, true, suc, List, ◌∷◌, ◌++◌, length, map, take, drop, Option, None, Some, refl, sym, ap, subst, arith, inl, inr}
use Rattle.std.specs.List.{slice_get}
use Rattle.std.specs.declared.io.Error.{Error as IoError}
use Rattle.sled_codec.specs.declared.result.DiskPtr.TheVariants.{Inline}
use Rattle.sled_codec.specs.History.{History, Message}
use Rattle.sled_store.specs.Device.{State, at_rest, overwritten}
use Rattle.sled_core.specs.declared.iobuf.Reserved.{Reserved}
use Rattle.sled_core.specs.declared.iobuf.Sealed.{Sealed}
use Rattle.sled_core.specs.declared.iobuf.SegmentPosition.{SegmentPosition}
use Rattle.sled_core.specs.Begun.{SegmentParts}
use Rattle.sled_core.specs.Fits.{held_of}
use Rattle.sled_core.specs.inside.Fits.{HoldBehind, HoldsIn, HoldsNext, HoldsSegment, begun_segment, log_parts}
use Rattle.sled_core.specs.LogFile.{IsLogFile, StandsElsewhere, StaysFrom}
use Rattle.sled_core.specs.inside.Reached.{BegunSegment, FollowApart}
use Rattle.sled_core.specs.inside.SealedBuffers.{AreSealed, FirstUnwritten, behind_run, is_ready, run_count, run_end, written_at}
use Rattle.sled_core.specs.SealedBuffers.{bytes_between, sealed_end}
use Rattle.sled_core.specs.declared.logger.joined_marks.JoinedMarks.{JoinedMarks}
use Rattle.sled_core.proofs.Line.HeldAround.{HoldAround, apart_around, apart_before, apart_behind, apart_with, behind_below, behind_place, held_around, held_here, marks_same, next_with, now_with, stays_below, together}
use Rattle.sled_core.proofs.Flush.Completed.{grows}
use Rattle.sled_core.proofs.Flush.FlushLemmas.{begun-more, on_file}
use Rattle.sled_core.proofs.Flush.LogFileKept.{elsewhere_kept}
use Rattle.sled_core.proofs.Line.SealedFits.{segment_written_one}
use Rattle.sled_core.proofs.Holds.BehindKept.{behind_beside, segment_beside, slots_apart}
use Rattle.sled_core.proofs.Holds.CompletedLemmas.{segment-fewer}
use Rattle.sled_core.proofs.Reached.SegmentsBeside.{follows}
use Rattle.sled_core.proofs.Reserve.Ranges.{there_split}
use Rattle.sled_core.proofs.Sealed.Ended.{ends_rise, ends_up}
use Rattle.sled_core.proofs.Sealed.LaidLemmas.{EndsRise}
use Rattle.sled_core.proofs.Sealed.Marked.{end_run, end_written, ready_closed, written_are}
use Rattle.sled_core.proofs.Sealed.OneWritten.{length-between, rises_at}
use Rattle.sled_core.proofs.Sealed.Runs.{IsRun, run_of}
use Rattle.sled_store.proofs.Segments.Elements.{in_first}
use Rattle.std.proofs.lemmas.List.Elements.{Contains-append_right}

module _ (sum : List ℕ → ℕ) (size : ℕ) (site : SegmentPosition) (device : State) (fault : Option IoError) (bytes : List ℕ) (from : ℕ) (bs : List Sealed) (rs : List Reserved) (H : History)
    (pre : List SegmentParts) (s : SegmentParts) (post : List SegmentParts) {marks : JoinedMarks} (holds : HoldsIn sum marks (log_parts size site device fault bytes from bs rs) (pre ++ s ∷ post) H)
    (big : 256 ≤ size) (whole : fault ≡ None) (short : length bytes ≤ size) (are : AreSealed from rs bs) (held : sealed_end from bs ≤ length bytes)
    (place_small : s.site.place + size < 2 ^ 63) (slot_small : s.site.slot + size < 2 ^ 63) (fresh : FirstUnwritten s.sealed)
    (k : ℕ) (b : Sealed) (there : slice_get s.sealed k ≡ Some b) (ready : is_ready b ≡ true) where
  abbrev stays : Message → Type 0
  stays = stays_below sum size site device fault bytes from bs rs H pre s post holds

  abbrev parts : HoldAround sum size device fault (site.place + size) pre s post stays H.batches holds.later
  parts = held_around sum size site device fault bytes from bs rs H pre s post holds

  abbrev begins : ℕ
  begins = behind_place size (site.place + size) pre

  abbrev here : HoldsNext sum size device fault begins s stays H.batches parts.own
  here = held_here sum size site device fault bytes from bs rs H pre s post holds

  abbrev own_history : History
  own_history = record { messages = parts.own; batches = H.batches }

  -- where the buffer begins, and its bytes
  abbrev at : ℕ
  at = sealed_end s.written_len (take k s.sealed)

  abbrev asked : List ℕ
  asked = bytes_between s.bytes at b.end

  abbrev now : List Sealed
  now = written_at k s.sealed

  abbrev left : List Reserved
  left = drop (run_count now) s.reserved

  abbrev new_log : List ℕ
  new_log = overwritten device.log.bytes (s.site.slot + at) asked

  rise : EndsRise s.written_len s.sealed (length s.bytes)
  rise = ends_rise s.written_len s.reserved s.sealed (length s.bytes) here.are here.behind here.held

  -- it lies in the segment
  range : (0 < length asked) × (at + length asked ≤ size)
  range =
      let lies = rises_at s.written_len (take k s.sealed) b (drop (suc k) s.sealed) (length s.bytes) (subst (λ (cs : List Sealed). EndsRise s.written_len cs (length s.bytes)) (there_split s.sealed k b there) rise) in
      let inside = here.inside in
      let long = length-between s.bytes at b.end lies.2 in
      (omega (arith, long, lies.1), omega (arith, long, lies.1, lies.2, inside))

  above : site.place + size ≤ s.site.place
  above = let far = (behind_below sum size device fault (site.place + size) pre stays H.batches parts.before parts.front).0 in let next = here.next in omega (arith, far, next)

  file : IsLogFile sum size device.log.bytes s.site s.written_len here.segment.records.earlier stays
  file = on_file sum size device.log s.site s.written_len here.segment.records.earlier stays (here.segment.written whole)

  -- what stays of the segments before the first one stands there still
  stands_still : (other : SegmentPosition) (m : Message) → stays m → (lid : ℕ) → m.pointer ≡ Inline lid → StandsElsewhere sum size device.log.bytes other lid m → StandsElsewhere sum size new_log other lid m
  stands_still other m its lid inline stands =
      let low = its.1 in
      let up = above in
      let reach = range.1 in
      let kept = elsewhere_kept sum size device.log.bytes (s.site.slot + at) asked s.site lid m (omega arith) (omega (arith, reach)) (file.elsewhere m its (omega (arith, low, up)) lid inline) in
      record { begins = stands.begins; stands = kept.stands; apart = stands.apart }

  abbrev begun_pre : List BegunSegment
  begun_pre = map begun_segment pre

  abbrev begun_post : List BegunSegment
  begun_post = map begun_segment post

  follow : FollowApart site (begun_pre ++ begun_segment s ∷ begun_post)
  follow = apart_around pre s post site holds.apart

  -- the first segment lies in another slot
  beside : (s.site.slot + at + length asked ≤ site.slot) ⊎ (site.slot + size ≤ s.site.slot + at)
  beside =
      let reach = range.1 in
      let other = (follows site (begun_pre ++ begun_segment s ∷ begun_post) follow (begun_segment s) (Contains-append_right begun_pre (begun_segment s ∷ begun_post) (begun_segment s) (in_first (begun_segment s) begun_post))).1 in
      elim (slots_apart size (omega (arith, big)) s.site.slot site.slot here.segment.records.slot_begins holds.own.records.slot_begins other) [
        | inl before ↦ inl (omega (arith, before, reach))
        | inr behind ↦ inr (omega (arith, behind))
      ]

  module _ (new : State) (is : new.log ≡ at_rest new_log) where
    -- What the first segment holds it holds still,
    pub first_written : HoldsSegment sum (log_parts size site new fault bytes from bs rs) (StaysFrom H (held_of holds.begun)) (record { messages = holds.head; batches = H.batches })
    first_written =
        let first : History = record { messages = holds.head; batches = H.batches } in
        let from_first : Message → Type 0 = StaysFrom H (held_of holds.begun) in
        let up = grows sum size site device fault bytes from bs rs first holds.own in
        segment-fewer sum size site new fault bytes from bs rs first stays from_first (λ m low its. (its, low))
        (segment_beside sum size site device fault bytes from bs rs first
        (segment-fewer sum size site device fault bytes from bs rs first from_first stays (λ m low its. its.0) holds.own)
        are (omega (arith, up, short)) (omega (arith, held, short)) whole (s.site.slot + at) asked range.0 beside new is (λ m its. stands_still site m its))

    -- and so do the others behind it,
    pub front_written : HoldBehind sum size new fault (site.place + size) pre stays H.batches parts.before
    front_written =
        let reach = range.1 in
        behind_beside sum size (omega (arith, big)) s.site here.segment.records.slot_begins device fault whole (s.site.slot + at) asked range.0 (omega arith) (omega (arith, reach)) new is stays stands_still
        (site.place + size) pre H.batches parts.before (apart_before site begun_pre (begun_segment s) begun_post follow) parts.front

    pub rest_written : HoldBehind sum size new fault (begins + size) post stays H.batches parts.after
    rest_written =
        let reach = range.1 in
        behind_beside sum size (omega (arith, big)) s.site here.segment.records.slot_begins device fault whole (s.site.slot + at) asked range.0 (omega arith) (omega (arith, reach)) new is stays stands_still
        (begins + size) post H.batches parts.after (apart_behind site begun_pre (begun_segment s) begun_post follow) parts.rest

    -- and this one with its buffers at the front gone that are written.
    pub next_written : HoldsNext sum size new fault begins (now_with s s.bytes (run_end s.written_len now) (behind_run now) left) stays H.batches parts.own
    next_written =
        let run : IsRun s.written_len s.reserved now = run_of s.written_len s.reserved now (written_are s.written_len s.reserved s.sealed k b there (ready_closed b ready) here.are) in
        let inside = here.held in
        let ends : sealed_end (run_end s.written_len now) (behind_run now) ≡ sealed_end s.written_len s.sealed = sym (end_run s.written_len now) ∙ end_written s.written_len k s.sealed in
        let up = ends_up (run_end s.written_len now) left (behind_run now) run.rest in
        next_with sum size device fault begins s stays H.batches parts.own here new fault s.bytes (run_end s.written_len now) (behind_run now) left here.inside run.rest (omega (arith, ends, inside)) (omega (arith, up, ends, inside))
        (segment_written_one sum size s.site device fault s.bytes s.written_len s.sealed s.reserved own_history here.segment here.inside big place_small slot_small here.are fresh rise whole k b there ready new is)

    -- The log holds what it held, begun from the same snapshot.
    abbrev pub behind-written : new.snapshots.file ≡ device.snapshots.file → HoldsIn sum marks (log_parts size site new fault bytes from bs rs) (pre ++ now_with s s.bytes (run_end s.written_len now) (behind_run now) left ∷ post) H
    behind-written names = record {
      begun = begun-more sum size device.snapshots.file new.snapshots.file site from from H names (omega arith) holds.begun;
      head = holds.head;
      later = parts.before ++ (parts.own ++ parts.after);
      messages = holds.messages ∙ ap (λ (l : List Message). holds.head ++ l) parts.messages;
      own = first_written;
      others = together sum size new fault (site.place + size) pre (now_with s s.bytes (run_end s.written_len now) (behind_run now) left) post stays H.batches parts.before parts.own parts.after front_written next_written rest_written;
      apart = apart_with pre s post site s.bytes (run_end s.written_len now) (behind_run now) left holds.apart;
      marked = marks_same sum (site.place + from) pre s (now_with s s.bytes (run_end s.written_len now) (behind_run now) left) post refl
          (λ none. let up = (run_of s.written_len s.reserved now (written_are s.written_len s.reserved s.sealed k b there (ready_closed b ready) here.are)).rises in (omega (arith, up, none), refl)) holds.marked;
    }
