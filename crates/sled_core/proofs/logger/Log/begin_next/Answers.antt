-- The last segment, which is being filled, is filled up, and one more is begun behind it.
use Rattle.std.proofs.Common.{◌≡◌, ◌∙◌, ◌+◌, ◌-◌, ◌*◌, ◌<◌, ◌≤◌, ◌^◌, ◌-ℤ◌, sym, ap, refl, subst, arith, rules, ℕ, zero, suc, false, pos, List, [], ◌∷◌, ◌++◌, length, length-append, map, deque_len, vec_capacity, MatchOption, Some}
use Rattle.std.specs.List.{slice_get}
use Rattle.sled_core.specs.inside.Begun.{AreFilled, FollowOn, LieWithin, last_buffer, last_buffer_in, open_segments, with_nth}
use Rattle.sled_core.specs.Begun.{SegmentView, begin_of, line_in, segment_view, view_at}
use Rattle.sled_core.specs.declared.iobuf.IoBuf.{IoBuf}
use Rattle.sled_core.specs.declared.iobuf.SegmentPosition.{SegmentPosition}
use Rattle.sled_core.specs.declared.iobuf.Sealed.{Sealed}
use Rattle.sled_core.specs.declared.logger.ready.ReadyBuffers.{ReadyBuffers}
use Rattle.sled_core.specs.declared.logger.Log.{Log}
use Rattle.sled_core.specs.declared.logger.io_bufs.IoBufs.{IoBufs}
use Rattle.sled_core.specs.declared.logger.io_bufs.SegmentBuffer.{SegmentBuffer}
use Rattle.sled_core.specs.Fits.{current_of, line_of, machine_at, segment_size_of, stable_end}
use Rattle.sled_core.specs.inside.OpenPlaces.{open_manifests}
use Rattle.sled_core.specs.Pool.{Pool}
use Rattle.sled_core.specs.inside.ReadyBuffers.{AreReady, HasOwn}
use Rattle.sled_core.specs.inside.Turned.{CanClose, ChangesLine, HasRoomIn, IsBegunView, begun_view, next_line}
use Rattle.sled_core.specs.Waiting.{at_last, closed_now, last_of}
use Rattle.sled_core.proofs.Line.Begins.{closable}
use Rattle.sled_core.proofs.Line.Closes.{IsClosable, filled_length, filled_written}
use Rattle.sled_core.proofs.Holds.Facts.{current_facts, nth_facts}
use Rattle.sled_codec.proofs.Segments.{length-short_header}
use Rattle.sled_core.proofs.Line.OpenManifests.{manifests_next}
use Rattle.sled_core.proofs.Line.Nexts.{begun_is, filled_next, follow_one, last_one, line_more}
use Rattle.sled_core.proofs.Pending.Logs.{seals_closed, seals_ready}
use Rattle.sled_core.proofs.Pending.Segments.{further_ready, still_ready}
use Rattle.sled_core.proofs.Sealed.Ended.{ends_up}
use Rattle.sled_store.specs.Accounts.{IsAccountant, MayHandOut, machine_of}
use Rattle.sled_store.specs.SegmentStates.{next_slot}
use Rattle.sled_store.specs.declared.config.RunningConfig.{RunningConfig}
use Rattle.sled_core.proofs.Line.Entered.{filled_last}
use Rattle.sled_core.proofs.Line.Outcomes.{all_err, refused}
use Rattle.sled_core.proofs.Line.Unchanged.{left_alone, unchanged_still}
use Rattle.sled_core.proofs.Line.NthOpen.{last_buffer_is, last_is, line_with_last, many_with, nth_is, room_with, site_with, within_with, written_with}
use Rattle.sled_core.proofs.logger.Log.begin_next.Given.{Over}
use Rattle.sled_core.proofs.logger.Log.begin_next.Goals.{After-begin}
use Rattle.sled_core.proofs.logger.Log.begin_next.Goals as goal

-- The last segment is the one that is being filled.
module _ {D C : Type 0} (mid : Log D C) (size : ℕ) (sizes : mid.config.config.segment_size ≡ size) (s : SegmentBuffer) (there : slice_get (open_segments mid.segments) (length mid.segments.behind.items) ≡ Some s) where
  its_begin : begin_of (segment_view s) < size
  its_begin =
      let last = (filled_last mid.config.config.segment_size mid.reserved_to (segment_view mid.segments.first) (map segment_view mid.segments.behind.items) mid.line.filled).0 in
      let same = ap begin_of (last_is mid s there) in
      omega (arith, last, same, sizes)

  its_short : length s.buffer.bytes.items ≤ size
  its_short = let short = (nth_is mid (length mid.segments.behind.items) s there).short in omega (arith, short, sizes)

  its_room : CanClose (last_buffer_in mid.segments) size → CanClose s.buffer size
  its_room room = subst (λ (b : IoBuf). CanClose b size) (last_buffer_is mid.segments s there) room

pub close-requires-clause-some : goal.close-requires-clause-some
close-requires-clause-some g c = its_begin c.room_to_close.new.self (segment_size_of c.args.self.now) (ap (λ x. x.config.segment_size) c.in_ok-room_to_close.ensures.rest.config) c.last_mut-s.result.now c.last_mut-s.ensures.value

pub close-requires-clause-short : goal.close-requires-clause-short
close-requires-clause-short g c = its_short c.room_to_close.new.self (segment_size_of c.args.self.now) (ap (λ x. x.config.segment_size) c.in_ok-room_to_close.ensures.rest.config) c.last_mut-s.result.now c.last_mut-s.ensures.value

pub close-requires-clause-room : goal.close-requires-clause-room
close-requires-clause-room g c = its_room c.room_to_close.new.self (segment_size_of c.args.self.now) (ap (λ x. x.config.segment_size) c.in_ok-room_to_close.ensures.rest.config) c.last_mut-s.result.now c.last_mut-s.ensures.value c.in_ok-room_to_close.ensures.room

-- The segment that was being filled is filled up and sealed.
record IsClosed {D C : Type 0} (sum : List ℕ → ℕ) (size : ℕ) (mid : Log D C) (now : IoBufs) : Type 0 where
  line : line_in now ≡ at_last (closed_now sum size) (line_of mid)
  lie : LieWithin size now
  waits : now.first.buffer.written_len < size
  place : now.first.site.place ≡ mid.segments.first.site.place
  count : length now.behind.items ≡ length mid.segments.behind.items

-- what the type of a log asks of its segments
record IsBegun (size to : ℕ) (now : IoBufs) : Type 0 where
  lie : LieWithin size now
  filled : AreFilled size to (line_in now)

first_is : (x : SegmentBuffer) (xs : List SegmentBuffer) (y : SegmentBuffer) → slice_get (x ∷ xs) 0 ≡ Some y → x ≡ y
first_is x xs y here = cc

module _ {D C : Type 0} (sum : List ℕ → ℕ) (mid : Log D C) (site : SegmentPosition) (its_site : site ≡ (current_of mid).parts.site) (new : IoBuf) where
  abbrev size : ℕ
  size = segment_size_of mid

  closes : IsClosable size (current_of mid)
  closes = closable size _ (current_of mid) (current_facts mid) (filled_last size mid.reserved_to (segment_view mid.segments.first) (map segment_view mid.segments.behind.items) mid.line.filled).0

  -- The first one isn't wholly on the device, also where it is the one that is being filled.
  first_waits : (s : SegmentBuffer) → slice_get (open_segments mid.segments) (length mid.segments.behind.items) ≡ Some s → mid.segments.first.buffer.written_len < size
  first_waits s there = by (length mid.segments.behind.items) refl where
    by : (n : ℕ) → length mid.segments.behind.items ≡ n → mid.segments.first.buffer.written_len < size
    by zero none =
        let same : mid.segments.first ≡ s = first_is mid.segments.first mid.segments.behind.items s (subst (λ n. slice_get (open_segments mid.segments) n ≡ Some s) none there) in
        let its : IsClosable size (segment_view s) = subst (IsClosable size) (last_is mid s there) closes in
        let some = its.some in
        let up = ends_up mid.segments.first.buffer.written_len mid.segments.first.buffer.reserved.items mid.segments.first.buffer.sealed.items (nth_facts mid 0 (segment_view mid.segments.first) refl).are in
        let begins = ap (λ (x : SegmentBuffer). begin_of (segment_view x)) same in
        omega (arith, up, some, begins)
    by (suc n) more = mid.line.lies.waits (omega (arith, more))

  module _ (s : SegmentBuffer) (there : slice_get (open_segments mid.segments) (length mid.segments.behind.items) ≡ Some s) (is : view_at site new ≡ closed_now sum size (view_at site s.buffer)) where
    abbrev now : SegmentBuffer
    now = record { site = s.site; buffer = new }

    lies : site ≡ s.site
    lies = its_site ∙ ap (λ (v : SegmentView). v.parts.site) (last_is mid s there)

    here : view_at s.site new ≡ closed_now sum size (segment_view s)
    here = subst (λ (p : SegmentPosition). view_at p new ≡ closed_now sum size (view_at p s.buffer)) lies is

    closed : IsClosed sum size mid (with_nth mid.segments (length mid.segments.behind.items) now)
    closed =
        let its : IsClosable size (segment_view s) = subst (IsClosable size) (last_is mid s there) closes in
        let long : length new.bytes.items ≡ size = ap (λ (v : SegmentView). length v.parts.bytes) here ∙ filled_length sum size (segment_view s) its.short its.small in
        let written : new.written_len ≡ s.buffer.written_len = ap (λ (v : SegmentView). v.parts.written_len) here ∙ filled_written sum size (segment_view s) in
        record {
          line = line_with_last (closed_now sum size) mid.segments s now there here;
          lie = within_with size mid.segments (length mid.segments.behind.items) s now there refl (omega (arith, long)) (omega (arith, written)) mid.line.lies;
          waits = (let low = first_waits s there in let same = written_with mid.segments (length mid.segments.behind.items) s now there written in omega (arith, low, same));
          place = ap (λ (p : SegmentPosition). p.place) (site_with mid.segments (length mid.segments.behind.items) s now there refl);
          count = many_with mid.segments (length mid.segments.behind.items) now;
        }

    its_view : view_at site new ≡ closed_now sum size (current_of mid)
    its_view = is ∙ ap (closed_now sum size) ((λ j. view_at (lies j) s.buffer) ∙ sym (last_is mid s there))

  -- It has a sealed buffer, and lies in reach,
  module _ (view : view_at site new ≡ closed_now sum size (current_of mid)) where
    sealed_some : 0 < length new.sealed.items
    sealed_some =
        let seals = seals_closed sum size (current_of mid) in
        omega (arith, ap length (ap (λ (v : SegmentView). v.parts.sealed) view ∙ seals.sealed), length-append (current_of mid).parts.sealed (seals.buffer ∷ []))

    sealed_reach : site.place + length new.bytes.items < 2 ^ 64
    sealed_reach =
        let long : length new.bytes.items ≡ size = ap (λ (v : SegmentView). length v.parts.bytes) view ∙ filled_length sum size (current_of mid) closes.short closes.small in
        let small = (current_facts mid).place_small in
        let lies = ap (λ (p : SegmentPosition). p.place) its_site in
        omega (arith, long, small, lies)

    -- and so its buffers are known then.
    sealed_ready : (now : ReadyBuffers)
        → ((bs : List Sealed) (x : Sealed) (before : List ℕ) (others : ℕ) → new.sealed.items ≡ bs ++ x ∷ [] → x.is_written ≡ false → HasOwn mid.ready site.place new.written_len bs before [] others → HasOwn now site.place new.written_len new.sealed.items before [] others)
        → AreReady (at_last (closed_now sum size) (line_of mid)) now
    sealed_ready now noted = seals_ready mid (closed_now sum size) (seals_closed sum size (current_of mid)) site new view mid.ready now refl refl noted

-- One more is begun behind it.
module _ {D C : Type 0} (sum : List ℕ → ℕ) (old mid : Log D C) (line : line_of mid ≡ line_of old) (rest : ChangesLine old mid) (now : IoBufs) (is : IsClosed sum (segment_size_of mid) mid now)
    (s : SegmentBuffer) (at : s.site.place ≡ (current_of old).parts.site.place + segment_size_of old) (slot : s.site.slot ≡ next_slot (machine_at mid) * segment_size_of mid) (begun : IsBegunView sum s.site (stable_end old) s.buffer)
    (further : IoBufs) (first : further.first ≡ now.first) (behind : further.behind.items ≡ now.behind.items ++ s ∷ []) where
  abbrev its_size : ℕ
  its_size = segment_size_of old

  sizes : segment_size_of mid ≡ its_size
  sizes = ap (λ (x : RunningConfig D C). x.config.segment_size) rest.config

  machines : machine_at mid ≡ machine_at old
  machines = ap machine_of rest.accountant

  slot_is : s.site.slot ≡ next_slot (machine_at old) * its_size
  slot_is = slot ∙ (λ i. next_slot (machines i) * sizes i)

  view : segment_view s ≡ begun_view sum its_size (machine_at old) (stable_end old) (current_of old)
  view = begun_is sum its_size (machine_at old) (stable_end old) (current_of old) s.site s.buffer at slot_is begun

  more : line_in further ≡ line_in now ++ segment_view s ∷ []
  more = (λ i. segment_view (first i) ∷ map segment_view (behind i)) ∙ line_more now.first.site now.first.buffer now.behind.items s

  next_is : line_in further ≡ next_line sum its_size (machine_at old) (stable_end old) (line_of old)
  next_is =
      more
      ∙ ap (λ (l : List SegmentView). l ++ segment_view s ∷ []) (is.line ∙ (λ i. at_last (closed_now sum (sizes i)) (line i)))
      ∙ ap (λ (v : SegmentView). at_last (closed_now sum its_size) (line_of old) ++ v ∷ []) view

  -- as many manifests are open
  begun_counted : open_manifests (line_in further) ≡ mid.batches.manifests
  begun_counted =
      let all = ap open_manifests next_is ∙ manifests_next sum its_size (machine_at old) (stable_end old) (line_of old) in
      let same = ap open_manifests line in
      let counted = mid.noted.counted in
      omega (arith, all, same, counted)

  -- its buffer is the last one
  last_begun : last_buffer_in further ≡ s.buffer
  last_begun = (λ i. last_buffer (first i).buffer (behind i)) ∙ last_one now.first.buffer now.behind.items s

  begun_next : 20 < length (current_of old).parts.bytes → MayHandOut its_size s.site.place (machine_at old) → IsBegun its_size mid.reserved_to further
  begun_next used may =
      let facts = current_facts old in
      let big : 256 ≤ its_size = old.config.config.least in
      let header = length-short_header sum (pos ((current_of old).parts.site.place + its_size)) (pos (stable_end old) -ℤ pos 1) in
      let long : length s.buffer.bytes.items ≡ 20 = ap (λ (v : SegmentView). length v.parts.bytes) view ∙ header in
      let lies : s.site.place ≡ now.first.site.place + its_size + length now.behind.items * its_size =
      (let here = (current_facts mid).at in
      let place = is.place in
      let same : (current_of mid).parts.site.place ≡ (current_of old).parts.site.place = ap (λ (l : List SegmentView). (last_of (segment_view mid.segments.first) l).parts.site.place) line in
      let count : length now.behind.items * its_size ≡ length mid.segments.behind.items * its_size = ap (λ n. n * its_size) is.count in
      let many : length mid.segments.behind.items * segment_size_of mid ≡ length mid.segments.behind.items * its_size = ap (λ n. length mid.segments.behind.items * n) sizes in
      omega (arith, at, here, place, same, count, many)) in
      let place_end = may.place in
      let slot_end = may.offset in
      record {
        lie = record {
          in_segment = (let short = is.lie.in_segment in omega (arith, short, sizes, ap (λ (x : SegmentBuffer). length x.buffer.bytes.items) first));
          place_in_reach = (let small = is.lie.place_in_reach in omega (arith, small, sizes, ap (λ (x : SegmentBuffer). x.site.place) first));
          slot_in_reach = (let small = is.lie.slot_in_reach in omega (arith, small, sizes, ap (λ (x : SegmentBuffer). x.site.slot) first));
          waits = λ some. (let low = is.waits in omega (arith, low, sizes, ap (λ (x : SegmentBuffer). x.buffer.written_len) first));
          follow = subst (λ (x : SegmentBuffer). FollowOn its_size (x.site.place + its_size) further.behind.items) (sym first)
              (subst (FollowOn its_size (now.first.site.place + its_size)) (sym behind)
              (follow_one its_size (now.first.site.place + its_size) now.behind.items s lies (omega (arith, long, big)) (omega (arith, place_end)) (omega (arith, slot_end, slot_is)) (subst (λ n. FollowOn n (now.first.site.place + n) now.behind.items) sizes is.lie.follow)));
        };
        filled = subst (λ to. AreFilled its_size to (line_in further)) (sym rest.reserved)
            (subst (AreFilled its_size old.reserved_to) (sym next_is)
            (filled_next sum its_size old.reserved_to (machine_at old) (stable_end old) (segment_view old.segments.first) (map segment_view old.segments.behind.items) facts (omega (arith, big)) used old.line.filled));
      }

-- Where it was refused, what is so where it was done isn't asked, and the log is as it was.

pub returns-in_err-parts-clause-line : goal.returns-in_err-parts-clause-line
returns-in_err-parts-clause-line g c = refused _ c.from_residual.result _ c.from_residual.ensures.1

pub returns-in_err-parts-clause-machine : goal.returns-in_err-parts-clause-machine
returns-in_err-parts-clause-machine g c = refused _ c.from_residual.result _ c.from_residual.ensures.1

pub returns-in_err-parts-clause-room : goal.returns-in_err-parts-clause-room
returns-in_err-parts-clause-room g c = refused _ c.from_residual.result _ c.from_residual.ensures.1

pub returns-in_err-parts-clause-batch : goal.returns-in_err-parts-clause-batch
returns-in_err-parts-clause-batch g c = refused _ c.from_residual.result _ c.from_residual.ensures.1

pub returns-in_err-parts-clause-pooled : goal.returns-in_err-parts-clause-pooled
returns-in_err-parts-clause-pooled g c = refused _ c.from_residual.result _ c.from_residual.ensures.1

pub returns-in_err-room_to_close-clause-line : goal.returns-in_err-room_to_close-clause-line
returns-in_err-room_to_close-clause-line g c = refused _ c.from_residual-in_err-room_to_close.result _ c.from_residual-in_err-room_to_close.ensures.1

pub returns-in_err-room_to_close-clause-machine : goal.returns-in_err-room_to_close-clause-machine
returns-in_err-room_to_close-clause-machine g c = refused _ c.from_residual-in_err-room_to_close.result _ c.from_residual-in_err-room_to_close.ensures.1

pub returns-in_err-room_to_close-clause-reserved : goal.returns-in_err-room_to_close-clause-reserved
returns-in_err-room_to_close-clause-reserved g c = c.in_err-room_to_close.ensures.rest.reserved

pub returns-in_err-room_to_close-clause-room : goal.returns-in_err-room_to_close-clause-room
returns-in_err-room_to_close-clause-room g c = refused _ c.from_residual-in_err-room_to_close.result _ c.from_residual-in_err-room_to_close.ensures.1

pub returns-in_err-room_to_close-clause-pooled : goal.returns-in_err-room_to_close-clause-pooled
returns-in_err-room_to_close-clause-pooled g c = refused _ c.from_residual-in_err-room_to_close.result _ c.from_residual-in_err-room_to_close.ensures.1

pub returns-in_err-room_to_close-clause-batch : goal.returns-in_err-room_to_close-clause-batch
returns-in_err-room_to_close-clause-batch g c = refused _ c.from_residual-in_err-room_to_close.result _ c.from_residual-in_err-room_to_close.ensures.1

pub returns-in_err-slot-clause-line : goal.returns-in_err-slot-clause-line
returns-in_err-slot-clause-line g c = refused _ c.from_residual-in_err-slot.result _ c.from_residual-in_err-slot.ensures.1

pub returns-in_err-slot-clause-machine : goal.returns-in_err-slot-clause-machine
returns-in_err-slot-clause-machine g c = refused _ c.from_residual-in_err-slot.result _ c.from_residual-in_err-slot.ensures.1

pub returns-in_err-slot-clause-reserved : goal.returns-in_err-slot-clause-reserved
returns-in_err-slot-clause-reserved g c = c.in_ok-room_to_close.ensures.rest.reserved

pub returns-in_err-slot-clause-room : goal.returns-in_err-slot-clause-room
returns-in_err-slot-clause-room g c = refused _ c.from_residual-in_err-slot.result _ c.from_residual-in_err-slot.ensures.1

pub returns-in_err-slot-clause-pooled : goal.returns-in_err-slot-clause-pooled
returns-in_err-slot-clause-pooled g c = refused _ c.from_residual-in_err-slot.result _ c.from_residual-in_err-slot.ensures.1

pub returns-in_err-slot-clause-batch : goal.returns-in_err-slot-clause-batch
returns-in_err-slot-clause-batch g c = refused _ c.from_residual-in_err-slot.result _ c.from_residual-in_err-slot.ensures.1

pub returns-in_err-parts-clause-rest : goal.returns-in_err-parts-clause-rest
returns-in_err-parts-clause-rest g c = record { config = refl; fault = refl; pins = refl; marks = refl; noted = refl }

pub returns-in_err-parts-clause-err : goal.returns-in_err-parts-clause-err
returns-in_err-parts-clause-err g c = all_err c.from_residual.result _ (unchanged_still c.args.self.now)

pub returns-in_err-room_to_close-clause-rest : goal.returns-in_err-room_to_close-clause-rest
returns-in_err-room_to_close-clause-rest g c = let rest = c.in_err-room_to_close.ensures.rest in record { config = rest.config; fault = rest.fault; pins = rest.pins; marks = rest.marks; noted = rest.noted }

pub returns-in_err-room_to_close-clause-err : goal.returns-in_err-room_to_close-clause-err
returns-in_err-room_to_close-clause-err g c = all_err c.from_residual-in_err-room_to_close.result _ (left_alone c.args.self.now c.room_to_close.new.self c.in_err-room_to_close.ensures.line c.in_err-room_to_close.ensures.rest)

-- Where the accountant failed, nothing is another.
pub invariant_of-self : goal.invariant_of-self
invariant_of-self g c =
    let mid = c.room_to_close.new.self in
    let sizes : c.next.new.config.config.segment_size ≡ segment_size_of mid = ap (λ x. x.config.segment_size) c.next.ensures.config in
    record {
      line = record {
        lies = subst (λ n. LieWithin n mid.segments) (sym sizes) mid.line.lies;
        filled = subst (λ n. AreFilled n mid.reserved_to (line_of mid)) (sym sizes) mid.line.filled;
        indexed = mid.line.indexed;
      };
      account = subst (λ n. IsAccountant n c.next.new.self) (sym sizes) c.next.ensures.account;
      noted = record {
        pegs = mid.noted.pegs;
        counted = mid.noted.counted;
      };
      pooling = record { few = mid.pooling.few; room = (let room = mid.pooling.room in omega (arith, room, sizes)); there = mid.pooling.there };
    }

-- What is left behind the closing, and the segment that is begun.

abbrev mid_of : (g : Over) (c : After-begin g) → Log g.row.D.Denot g.row.C.Denot
mid_of g c = c.room_to_close.new.self

abbrev closed_then : (g : Over) (c : After-begin g) → IoBufs
closed_then g c = with_nth (mid_of g c).segments (length (mid_of g c).segments.behind.items) (record { site = c.last_mut-s.result.now.site; buffer = c.close.new.self })

abbrev next : (g : Over) (c : After-begin g) → SegmentBuffer
next g c = record { site = record { place = c.current.result.0.place + segment_size_of c.args.self.now; slot = c.in_ok-slot.slot }; buffer = c.into_buffer-buffer.result }

-- It begins where the one that was filled ends.
next_at : (g : Over) (c : After-begin g) → (next g c).site.place ≡ (current_of c.args.self.now).parts.site.place + segment_size_of c.args.self.now
next_at g c = ap (λ (v : SegmentView). v.parts.site.place + segment_size_of c.args.self.now) c.current.ensures.view

-- It has its header alone.
its_begun : (g : Over) (c : After-begin g) → IsBegunView g.C.Checksum.sum_of (next g c).site (stable_end c.args.self.now) c.into_buffer-buffer.result
its_begun g c =
    let did = c.into_buffer-buffer.ensures in
    let header = c.in_ok-parts.ensures.header in
    record {
      view = λ i. record {
        parts = record {
          site = (next g c).site;
          bytes = (did.bytes ∙ header) i;
          written_len = did.from i;
          filled = did.filled i;
          sealed = did.sealed i;
          reserved = did.reserved i;
        };
        gone = did.gone i;
      };
    }

-- The pool is as it was until then: it has bytes, or new ones were taken.
pub into_buffer-buffer-requires-clause-fresh : goal.into_buffer-buffer-requires-clause-fresh
into_buffer-buffer-requires-clause-fresh g c =
    subst (λ (p : Pool). MatchOption c.in_ok-parts.parts.fresh (0 < p.count) (λ v. (p.count ≡ 0) × (v.items ≡ []) × (p.room ≤ vec_capacity v)))
    (sym c.in_ok-room_to_close.ensures.rest.pool)
    c.in_ok-parts.ensures.fresh

pub into_buffer-buffer-requires-clause-roomy : goal.into_buffer-buffer-requires-clause-roomy
into_buffer-buffer-requires-clause-roomy g c =
    let mid = c.room_to_close.new.self in
    let room = mid.pooling.room in
    let big = mid.config.config.least in
    omega (arith, room, big)

-- where the one lies that was filled, and what code made of it
module _ {D C : Type 0} (sum : List ℕ → ℕ) (old mid : Log D C) (line : line_of mid ≡ line_of old) (rest : ChangesLine old mid) (site : SegmentPosition) (b new : IoBuf) where
  still_there : (b' : IoBuf) → view_at site b' ≡ current_of old → site ≡ (current_of mid).parts.site
  still_there b' view = ap (λ (v : SegmentView). v.parts.site) (view ∙ sym (ap (last_of (segment_view mid.segments.first)) line))

  closed_so : view_at site new ≡ closed_now sum (segment_size_of old) (view_at site b) → view_at site new ≡ closed_now sum (segment_size_of mid) (view_at site b)
  closed_so made = made ∙ ap (λ n. closed_now sum n (view_at site b)) (sym (ap (λ (x : RunningConfig D C). x.config.segment_size) rest.config))

-- Its buffer can be written, or is counted.
pub note_sealed-requires : goal.note_sealed-requires
note_sealed-requires g c =
    let mid = c.room_to_close.new.self in
    let old = c.args.self.now in
    let sum : List ℕ → ℕ = g.C.Checksum.sum_of in
    let s : SegmentBuffer = c.last_mut-s.result.now in
    let new : IoBuf = c.close.new.self in
    let site = c.current.result.0 in
    let line = c.in_ok-room_to_close.ensures.line in
    let rest = c.in_ok-room_to_close.ensures.rest in
    let its_site = still_there sum old mid line rest site s.buffer new c.current.result.1.now c.current.ensures.view in
    let view = its_view sum mid site its_site new s c.last_mut-s.ensures.value (closed_so sum old mid line rest site s.buffer new c.close.ensures.closed) in
    let long : deque_len new.sealed ≡ length new.sealed.items = search rules in
    let some = sealed_some sum mid site its_site new view in
    record { room = c.in_ok-room_to_close.ensures.ready; some = omega (arith, long, some); place = sealed_reach sum mid site its_site new view }

pub begin-requires : goal.begin-requires
begin-requires g c =
    let mid = c.room_to_close.new.self in
    room_with mid.segments (length mid.segments.behind.items) (record { site = c.last_mut-s.result.now.site; buffer = c.close.new.self }) c.in_ok-room_to_close.ensures.place

-- The segment that was being filled is closed.
is_closed : (g : Over) (c : After-begin g) → IsClosed g.C.Checksum.sum_of (segment_size_of (mid_of g c)) (mid_of g c) (closed_then g c)
is_closed g c =
    let mid = mid_of g c in
    let old = c.args.self.now in
    let sum : List ℕ → ℕ = g.C.Checksum.sum_of in
    let s : SegmentBuffer = c.last_mut-s.result.now in
    let new : IoBuf = c.close.new.self in
    let site = c.current.result.0 in
    let line = c.in_ok-room_to_close.ensures.line in
    let rest = c.in_ok-room_to_close.ensures.rest in
    closed sum mid site (still_there sum old mid line rest site s.buffer new c.current.result.1.now c.current.ensures.view) new s c.last_mut-s.ensures.value (closed_so sum old mid line rest site s.buffer new c.close.ensures.closed)

closed_ready : (g : Over) (c : After-begin g) → AreReady (at_last (closed_now g.C.Checksum.sum_of (segment_size_of (mid_of g c))) (line_of (mid_of g c))) c.note_sealed.new.self
closed_ready g c =
    let mid = mid_of g c in
    let old = c.args.self.now in
    let sum : List ℕ → ℕ = g.C.Checksum.sum_of in
    let s : SegmentBuffer = c.last_mut-s.result.now in
    let new : IoBuf = c.close.new.self in
    let site = c.current.result.0 in
    let line = c.in_ok-room_to_close.ensures.line in
    let rest = c.in_ok-room_to_close.ensures.rest in
    let its_site = still_there sum old mid line rest site s.buffer new c.current.result.1.now c.current.ensures.view in
    sealed_ready sum mid site its_site new (its_view sum mid site its_site new s c.last_mut-s.ensures.value (closed_so sum old mid line rest site s.buffer new c.close.ensures.closed)) c.note_sealed.new.self c.note_sealed.ensures

pub invariant_of-self-2 : goal.invariant_of-self-2
invariant_of-self-2 g c =
    let old = c.args.self.now in
    let mid = c.room_to_close.new.self in
    let sum : List ℕ → ℕ = g.C.Checksum.sum_of in
    let line = c.in_ok-room_to_close.ensures.line in
    let rest = c.in_ok-room_to_close.ensures.rest in
    let slot = c.in_ok-slot.ensures.offset in
    let begun = its_begun g c in
    let further : IoBufs = c.begin.new.self in
    let new_size : ℕ = c.next.new.config.config.segment_size in
    let new_sizes : new_size ≡ segment_size_of mid = ap (λ x. x.config.segment_size) c.next.ensures.config in
    let sizes : segment_size_of mid ≡ segment_size_of old = ap (λ x. x.config.segment_size) rest.config in
    let may = c.has_further.ensures.0 c.if-not-has_further.false in
    let are : IsBegun new_size mid.reserved_to further =
    subst (λ n. IsBegun n mid.reserved_to further) (sym (new_sizes ∙ sizes))
    (begun_next sum old mid line rest (closed_then g c) (is_closed g c) (next g c) (next_at g c) slot begun further c.begin.ensures.first c.begin.ensures.behind c.requires.used may) in
    record {
      line = record {
        lies = are.lie;
        filled = are.filled;
        indexed = still_ready (more sum old mid line rest (closed_then g c) (is_closed g c) (next g c) (next_at g c) slot begun further c.begin.ensures.first c.begin.ensures.behind) c.note_sealed.new.self c.note_sealed.new.self refl refl
            (further_ready (line_in (closed_then g c)) (segment_view (next g c)) c.note_sealed.new.self (ap (λ (v : SegmentView). v.parts.sealed) begun.view)
            (still_ready (is_closed g c).line c.note_sealed.new.self c.note_sealed.new.self refl refl (closed_ready g c)));
      };
      account = subst (λ n. IsAccountant n c.next.new.self) (sym new_sizes) c.next.ensures.account;
      noted = record {
        pegs = mid.noted.pegs;
        counted = begun_counted sum old mid line rest (closed_then g c) (is_closed g c) (next g c) (next_at g c) slot begun further c.begin.ensures.first c.begin.ensures.behind;
      };
      pooling = record {
        few = (let few = mid.pooling.few in let fewer = c.into_buffer-buffer.ensures.fewer in omega (arith, few, fewer));
        room = (let room = mid.pooling.room in let same = c.into_buffer-buffer.ensures.same in omega (arith, room, same, new_sizes));
        there = subst (λ (b : IoBuf). 0 < b.bytes.room)
            (sym (last_begun sum old mid line rest (closed_then g c) (is_closed g c) (next g c) (next_at g c) slot begun further
            c.begin.ensures.first c.begin.ensures.behind))
            (let room = mid.pooling.room in let there = c.into_buffer-buffer.ensures.there in omega (arith, room, there));
      };
    }

pub returns-clause-rest : goal.returns-clause-rest
returns-clause-rest g c =
    let rest = c.in_ok-room_to_close.ensures.rest in
    record { config = c.next.ensures.config ∙ rest.config; fault = rest.fault; pins = rest.pins; marks = rest.marks; noted = rest.noted }

pub returns-clause-reserved : goal.returns-clause-reserved
returns-clause-reserved g c = c.in_ok-room_to_close.ensures.rest.reserved

pub returns-clause-line : goal.returns-clause-line
returns-clause-line g c =
    let w = (goal.at.returns-clause-line g c).After-begin in
    next_is g.C.Checksum.sum_of c.args.self.now c.room_to_close.new.self c.in_ok-room_to_close.ensures.line c.in_ok-room_to_close.ensures.rest (closed_then g w) (is_closed g w) (next g w) (next_at g w)
    c.in_ok-slot.ensures.offset (its_begun g w) c.begin.new.self c.begin.ensures.first c.begin.ensures.behind

pub returns-clause-room : goal.returns-clause-room
returns-clause-room g c =
    let w = (goal.at.returns-clause-room g c).After-begin in
    let size = segment_size_of c.args.self.now in
    subst (λ (x : IoBuf). HasRoomIn x (size - 20))
    (sym (last_begun g.C.Checksum.sum_of c.args.self.now c.room_to_close.new.self c.in_ok-room_to_close.ensures.line c.in_ok-room_to_close.ensures.rest (closed_then g w) (is_closed g w) (next g w) (next_at g w)
    c.in_ok-slot.ensures.offset (its_begun g w) c.begin.new.self c.begin.ensures.first c.begin.ensures.behind))
    (let room = c.room_to_close.new.self.pooling.room in
    let sizes = ap (λ (x : RunningConfig g.row.D.Denot g.row.C.Denot). x.config.segment_size) c.in_ok-room_to_close.ensures.rest.config in
    let big = c.args.self.now.config.config.least in
    c.into_buffer-buffer.ensures.room (size - 20) (omega (arith, room, sizes, big)))

pub returns-clause-pooled : goal.returns-clause-pooled
returns-clause-pooled g c = c.into_buffer-buffer.ensures.fewer ∙ ap (λ (p : Pool). p.count - 1) c.in_ok-room_to_close.ensures.rest.pool

pub returns-clause-batch : goal.returns-clause-batch
returns-clause-batch g c = λ is. let room = c.in_ok-room_to_close.ensures.batch is in record { place = room.place }
