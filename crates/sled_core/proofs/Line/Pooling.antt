-- The bytes of the segment that is being filled are there, and stay there where another one is changed; and so are those of one with a sealed buffer.
use Rattle.std.proofs.Common.{◌≡◌, ◌∙◌, ◌+◌, ◌<◌, ◌≤◌, ap, sym, arith, subst, refl, ℕ, zero, suc, Bool, true, false, Some}
use Rattle.std.proofs.Common.{List, [], ◌∷◌, length, map, drop, set}
use Rattle.std.specs.List.{slice_get}
use Rattle.sled_core.specs.inside.Begun.{last_buffer, last_buffer_in, open_segments, with_nth}
use Rattle.sled_core.specs.Begun.{SegmentView, begin_of, segment_view, view_at}
use Rattle.sled_core.specs.declared.iobuf.IoBuf.{IoBuf}
use Rattle.sled_core.specs.declared.iobuf.Reserved.{Reserved}
use Rattle.sled_core.specs.declared.iobuf.Sealed.{Sealed}
use Rattle.sled_core.specs.declared.logger.Log.{Log}
use Rattle.sled_core.specs.declared.logger.io_bufs.IoBufs.{IoBufs}
use Rattle.sled_core.specs.declared.logger.io_bufs.SegmentBuffer.{SegmentBuffer}
use Rattle.sled_core.specs.Fits.{line_of}
use Rattle.sled_core.specs.inside.Pooling.{IsPooling}
use Rattle.sled_core.specs.inside.SealedBuffers.{AreSealed, written_at}
use Rattle.sled_core.specs.inside.Turned.{IsReadyIn, written_now}
use Rattle.sled_core.specs.SealedBuffers.{sealed_end}
use Rattle.sled_core.specs.Pool.{Pool, with_given}
use Rattle.sled_core.proofs.Holds.Facts.{nth_facts}
use Rattle.sled_core.proofs.Line.Entered.{filled_last}
use Rattle.sled_core.proofs.Line.Marks.{ready_at}
use Rattle.sled_core.proofs.Line.NthOpen.{last_buffer_is, last_is, nth_there}
use Rattle.sled_core.proofs.Sealed.Ended.{ends_up}
use Rattle.sled_core.proofs.Sealed.Marked.{end_run, end_written}

-- the bytes of this one are there if those of that one are
abbrev pub AsThere : SegmentBuffer → SegmentBuffer → Type 0
AsThere s t = 0 < s.buffer.bytes.room → 0 < t.buffer.bytes.room

last_set : (b : IoBuf) (xs : List SegmentBuffer) (n : ℕ) (s t : SegmentBuffer) → slice_get xs n ≡ Some s → AsThere s t
    → 0 < (last_buffer b xs).bytes.room → 0 < (last_buffer b (set xs n t)).bytes.room
last_set b [] n s t there keeps some = some
last_set b (x ∷ []) zero s t there keeps some = keeps (let same : x ≡ s = cc in subst (λ (y : SegmentBuffer). 0 < y.buffer.bytes.room) same some)
last_set b (x ∷ y ∷ ys) zero s t there keeps some = some
last_set b (x ∷ xs) (suc n) s t there keeps some = last_set x.buffer xs n s t there keeps some

last_with : (segments : IoBufs) (n : ℕ) (s t : SegmentBuffer) → slice_get (open_segments segments) n ≡ Some s → AsThere s t
    → 0 < (last_buffer_in segments).bytes.room → 0 < (last_buffer_in (with_nth segments n t)).bytes.room
last_with segments zero s t there keeps some = by segments.behind.items some where
  by : (xs : List SegmentBuffer) → 0 < (last_buffer segments.first.buffer xs).bytes.room → 0 < (last_buffer t.buffer xs).bytes.room
  by [] has = keeps (let same : segments.first ≡ s = cc in subst (λ (y : SegmentBuffer). 0 < y.buffer.bytes.room) same has)
  by (x ∷ xs) has = has
last_with segments (suc n) s t there keeps some = last_set segments.first.buffer segments.behind.items n s t there keeps some

-- So a log keeps in mind what it did of its pool.
module _ (size : ℕ) (segments : IoBufs) (pool : Pool) (is : IsPooling size segments pool) where
  pub pooling_with : (n : ℕ) (s t : SegmentBuffer) → slice_get (open_segments segments) n ≡ Some s → AsThere s t
      → IsPooling size (with_nth segments n t) pool
  pooling_with n s t there keeps = record { few = is.few; room = is.room; there = last_with segments n s t there keeps is.there }

  pub pooling_same : (new : IoBufs) → new.first ≡ segments.first → new.behind.items ≡ segments.behind.items → IsPooling size new pool
  pooling_same new first behind = record {
    few = is.few;
    room = is.room;
    there = subst (λ (b : IoBuf). 0 < b.bytes.room) (λ i. last_buffer (sym first i).buffer (sym behind i)) is.there;
  }

  pub last_there : (s : SegmentBuffer) → slice_get (open_segments segments) (length segments.behind.items) ≡ Some s → 0 < s.buffer.bytes.room
  last_there s there = subst (λ (b : IoBuf). 0 < b.bytes.room) (last_buffer_is segments s there) is.there

-- The same of a log.
module _ {D C : Type 0} (log : Log D C) where
  pub kept_with : (n : ℕ) (s t : SegmentBuffer) → slice_get (open_segments log.segments) n ≡ Some s → AsThere s t
      → IsPooling log.config.config.segment_size (with_nth log.segments n t) log.pool
  kept_with n s t there keeps = pooling_with log.config.config.segment_size log.segments log.pool log.pooling n s t there keeps

  pub kept_same : (new : IoBufs) → new.first ≡ log.segments.first → new.behind.items ≡ log.segments.behind.items
      → IsPooling log.config.config.segment_size new log.pool
  kept_same new first behind = pooling_same log.config.config.segment_size log.segments log.pool log.pooling new first behind

  pub there_last : (s : SegmentBuffer) → slice_get (open_segments log.segments) (length log.segments.behind.items) ≡ Some s → 0 < s.buffer.bytes.room
  there_last s there = last_there log.config.config.segment_size log.segments log.pool log.pooling s there

-- That holds too where another one was changed that isn't the last, whatever became of its bytes.
pub last_kept : (segments : IoBufs) (n : ℕ) (t : SegmentBuffer) → (n ≡ length segments.behind.items → 0 < t.buffer.bytes.room)
    → 0 < (last_buffer_in segments).bytes.room → 0 < (last_buffer_in (with_nth segments n t)).bytes.room
last_kept segments zero t keeps some = by segments.behind.items keeps some where
  by : (xs : List SegmentBuffer) → (0 ≡ length xs → 0 < t.buffer.bytes.room) → 0 < (last_buffer segments.first.buffer xs).bytes.room
      → 0 < (last_buffer t.buffer xs).bytes.room
  by [] its has = its refl
  by (x ∷ xs) its has = has
last_kept segments (suc n) t keeps some = by segments.first.buffer segments.behind.items n keeps some where
  by : (b : IoBuf) (xs : List SegmentBuffer) (k : ℕ) → (suc k ≡ length xs → 0 < t.buffer.bytes.room) → 0 < (last_buffer b xs).bytes.room
      → 0 < (last_buffer b (set xs k t)).bytes.room
  by b [] k its has = has
  by b (x ∷ []) zero its has = its refl
  by b (x ∷ y ∷ ys) zero its has = has
  by b (x ∷ xs) (suc k) its has = by x.buffer xs k (λ is. its (omega (arith, is))) has

-- The one that is being filled isn't wholly on the device, also once a buffer of it is.
pub last_low : {D C : Type 0} (log : Log D C) (s : SegmentBuffer)
    → slice_get (open_segments log.segments) (length log.segments.behind.items) ≡ Some s → (k : ℕ) (b : IoBuf)
    → view_at s.site b ≡ written_now k (segment_view s) → b.written_len < log.config.config.segment_size
last_low log s there k b view =
    let from : ℕ = s.buffer.written_len in
    let bs : List Sealed = s.buffer.sealed.items in
    let up = ends_up b.written_len b.reserved.items b.sealed.items b.are in
    let at : begin_of (view_at s.site b) ≡ begin_of (segment_view s) = ap begin_of view ∙ sym (end_run from (written_at k bs)) ∙ end_written from k bs in
    let v : SegmentView = segment_view log.segments.first in
    let vs : List SegmentView = map segment_view log.segments.behind.items in
    let last = (filled_last log.config.config.segment_size log.reserved_to v vs log.line.filled).0 in
    let same = ap begin_of (last_is log s there) in
    omega (arith, up, at, last, same)

-- A segment with a sealed buffer isn't wholly on the device either,
pub waits_low : {D C : Type 0} (log : Log D C) (n k : ℕ) (r : IsReadyIn (line_of log) n k) → r.segment.parts.written_len < log.config.config.segment_size
waits_low log n k r =
    let facts = nth_facts log n r.segment r.among in
    let short = facts.short in
    let begins = facts.begins in
    let low = rises r.segment.parts.written_len r.segment.parts.reserved r.segment.parts.sealed k r.buffer facts.are r.there in
    omega (arith, short, begins, low)
  where
    rises : (from : ℕ) (rs : List Reserved) (bs : List Sealed) (i : ℕ) (x : Sealed) → AreSealed from rs bs → slice_get bs i ≡ Some x → from < sealed_end from bs
    rises from rs [] i x are there = cc
    rises from rs (y ∷ ys) i x are there = let up = ends_up y.end (drop y.count rs) ys are.1 in let here = are.0.rises in omega (arith, up, here)

-- and has its bytes.
pub ready_there : {D C : Type 0} (log : Log D C) (n k : ℕ) → IsReadyIn (line_of log) n k → (s : SegmentBuffer)
    → slice_get (open_segments log.segments) n ≡ Some s → 0 < s.buffer.bytes.room
ready_there log n k r s there =
    let within = (ready_at (line_of log) n k s.site s.buffer (nth_there log n s there) r).within in
    s.buffer.laid.there (omega (arith, within))

-- The pool has four at most, whether one more was given or not.
pub with_few : (b : Bool) (n m : ℕ) → n ≤ 4 → m ≡ with_given b n → m ≤ 4
with_few true n m few is = omega (arith, is)
with_few false n m few is = omega (arith, few, is)
