-- The current buffer is sealed where no further record has room in its segment: that is filled to its end, and the next one is begun.
use Rattle.std.proofs.Common.{◌≡◌, ◌∙◌, ◌≤◌, ◌+◌, ◌-ℤ◌, ap, sym, refl, arith, subst, ℕ, pos, Bool, true, false, if◌then◌else◌, List, [], ◌∷◌, ◌++◌, length, map}
use Rattle.std.specs.List.{All}
use Rattle.std.proofs.lemmas.Bool.Decides.{nat_tests}
use Rattle.std.proofs.lemmas.List.Elements.{All-cons, All-nil}
use Rattle.sled_codec.proofs.Segments.{length-short_header}
use Rattle.sled_store.specs.Device.{Trace}
use Rattle.sled_store.specs.SegmentStates.{Machine, handed_out}
use Rattle.sled_store.specs.declared.config.RunningConfig.{RunningConfig}
use Rattle.sled_core.specs.Begun.{SegmentView, segment_view}
use Rattle.sled_core.specs.declared.logger.Log.{Log}
use Rattle.sled_core.specs.declared.logger.joined_marks.JoinedMarks.{JoinedMarks}
use Rattle.sled_core.specs.inside.Fits.{AddsBuffers}
use Rattle.sled_core.specs.Fits.{buffers_of, current_begin, current_of, line_of, machine_at, position_sealed, position_with, reserved_end, sealing_end, segment_size_of, stable_end, waiting_of}
use Rattle.sled_core.specs.Keeps.{SamePosition}
use Rattle.sled_core.specs.Positions.{is_short, next_segment_at}
use Rattle.sled_core.specs.inside.Turned.{ChangesSlots, begun_view, next_line}
use Rattle.sled_core.specs.Waiting.{BufferAt, as_sealed, at_last, buffer_at, closed_now, holds_any, sealed_now, turned_now, unwritten}
use Rattle.sled_core.proofs.Line.Begins.{begins_position, begins_with}
use Rattle.sled_core.proofs.Line.Entered.{filled_last}
use Rattle.sled_core.proofs.Holds.Facts.{current_facts}
use Rattle.sled_core.proofs.Line.Last.{at_last_same, unwritten-append}
use Rattle.sled_core.proofs.Line.LogSpans.{next_buffers}

-- The last one is changed of segments with one more at the end.
at_last_behind : (f : SegmentView → SegmentView) (vs : List SegmentView) (w : SegmentView) → at_last f (vs ++ w ∷ []) ≡ vs ++ f w ∷ []
at_last_behind f [] w = refl
at_last_behind f (v ∷ []) w = refl
at_last_behind f (v ∷ x ∷ xs) w = ap (λ (l : List SegmentView). v ∷ l) (at_last_behind f (x ∷ xs) w)

-- What was reserved ends within the segment.
pub turns_within : {D C : Type 0} (log : Log D C) → reserved_end log ≤ (current_of log).parts.site.place + segment_size_of log
turns_within log =
    let here = current_facts log in
    let last = filled_last (segment_size_of log) log.reserved_to (segment_view log.segments.first) (map segment_view log.segments.behind.items) log.line.filled in
    let end = last.1 in
    let inside = here.short in
    omega (arith, end, inside)

module _ {D C : Type 0} (trace : D → Trace) (sum : List ℕ → ℕ) (old new : Log D C) (line : line_of new ≡ next_line sum (segment_size_of old) (machine_at old) (stable_end old) (line_of old))
    (machine : machine_at new ≡ handed_out ((current_of old).parts.site.place + segment_size_of old) (machine_at old)) (rest : ChangesSlots old new)
    (some : holds_any (current_of old) ≡ true) (short : is_short (segment_size_of old) (length (current_of old).parts.bytes) ≡ true) where
  abbrev size : ℕ
  size = segment_size_of old

  abbrev v : SegmentView
  v = current_of old

  abbrev first : SegmentView
  first = segment_view old.segments.first

  abbrev behind : List SegmentView
  behind = map segment_view old.segments.behind.items

  as_closed : as_sealed sum size v ≡ closed_now sum size v
  as_closed = ap (λ b. if b then turned_now sum size v else v) some ∙ ap (λ b. if b then closed_now sum size v else sealed_now v) short

  closed_are : unwritten (at_last (closed_now sum size) (line_of old)) ≡ buffers_of sum old
  closed_are = ap unwritten (sym (at_last_same (as_sealed sum size) (closed_now sum size) first behind as_closed))

  -- What it held is among the sealed buffers,
  pub turns_waiting : waiting_of new ≡ buffers_of sum old
  turns_waiting = (next_buffers sum old new (stable_end old) line).0 ∙ closed_are

  -- and the current one begins with the next segment.
  pub turns_begins : current_begin new ≡ sealing_end old
  turns_begins = ap (λ x. x.place) (next_buffers sum old new (stable_end old) line).1 ∙ sym (ap (λ (o : Bool). v.parts.site.place + (if o then size else length v.parts.bytes)) short)

  -- The next record begins where it would have begun.
  pub turns_position : reserved_end new ≡ reserved_end old → SamePosition old new
  turns_position reserved = record {
    position = begins_position trace sum old new line machine rest
        ∙ sym (ap (λ (o : Bool). if o then next_segment_at size v.parts.site.place (machine_at old) else record { place = v.parts.site.place + length v.parts.bytes; begins = v.parts.site.place; slot = v.parts.site.slot; machine = machine_at old }) short);
    reserved = reserved;
    pins = rest.pins;
    joined = ap (λ (x : JoinedMarks). x.joined) rest.marks;
    size = ap (λ (x : RunningConfig D C). x.config.segment_size) rest.config;
  }

  pub turns_with : (m : Machine) → position_with new m ≡ position_sealed old m
  turns_with m =
      begins_with trace sum old new line machine rest m
      ∙ sym (ap (λ (o : Bool). record (if o then next_segment_at size v.parts.site.place (machine_at old) else record { place = v.parts.site.place + length v.parts.bytes; begins = v.parts.site.place; slot = v.parts.site.slot; machine = machine_at old }) { machine = m }) short)

  -- The header of the new segment is a further buffer.
  pub turns_buffers : AddsBuffers sum old new
  turns_buffers =
      let b : SegmentView = begun_view sum size (machine_at old) (stable_end old) v in
      let big : 256 ≤ size = old.config.config.least in
      let long = length-short_header sum (pos b.parts.site.place) (pos (stable_end old) -ℤ pos 1) in
      let room : is_short size (length b.parts.bytes) ≡ false = grind (arith, nat_tests, big, long) in
      let any : holds_any b ≡ true = grind (arith, nat_tests, long) in
      let header_sealed : as_sealed sum size b ≡ sealed_now b = ap (λ o. if o then turned_now sum size b else b) any ∙ ap (λ o. if o then closed_now sum size b else sealed_now b) room in
      let low = turns_within old in
      let sizes : segment_size_of new ≡ size = ap (λ (x : RunningConfig D C). x.config.segment_size) rest.config in
      let header : BufferAt = buffer_at b.parts.site b.parts.bytes 0 (length b.parts.bytes) [] in
      record {
        more = unwritten (as_sealed sum size b ∷ []);
        is = (λ i. unwritten (at_last (as_sealed sum (sizes i)) (line i)))
            ∙ ap unwritten (at_last_behind (as_sealed sum size) (at_last (closed_now sum size) (line_of old)) b)
            ∙ unwritten-append (at_last (closed_now sum size) (line_of old)) (as_sealed sum size b ∷ [])
            ∙ ap (λ (l : List BufferAt). l ++ unwritten (as_sealed sum size b ∷ [])) closed_are;
        behind = subst (λ (x : SegmentView). All (λ (y : BufferAt). reserved_end old ≤ y.place) (unwritten (x ∷ []))) (sym header_sealed)
            (All-cons (λ (x : BufferAt). reserved_end old ≤ x.place) header [] (omega (arith, low)) (All-nil (λ (x : BufferAt). reserved_end old ≤ x.place)));
      }
