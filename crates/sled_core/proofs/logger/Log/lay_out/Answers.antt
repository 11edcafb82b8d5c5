-- A placeholder is laid out in the last segment, which is being filled.
use Rattle.std.proofs.Common.{◌≡◌, ◌∙◌, ◌+◌, ◌<◌, sym, ap, refl, subst, arith, ℕ, suc, Bool, if◌then◌else◌, List, ◌++◌, length, length-append, map, drop, take}
use Rattle.std.specs.List.{All}
use Rattle.std.proofs.lemmas.List.Elements.{All-weaker}
use Rattle.sled_core.specs.inside.Begun.{AreFilled}
use Rattle.sled_core.specs.Begun.{SegmentView, segment_view}
use Rattle.sled_core.specs.inside.Buffers.{placeholder_head, reserved_for}
use Rattle.sled_core.specs.declared.iobuf.IoBuf.{IoBuf}
use Rattle.sled_core.specs.declared.iobuf.Reserved.{Reserved}
use Rattle.sled_core.specs.declared.iobuf.ReservationState.TheVariants.{Open}
use Rattle.sled_core.specs.declared.logger.Log.{Log}
use Rattle.sled_core.specs.declared.logger.batches.NotedBatch.{NotedBatch}
use Rattle.sled_core.specs.declared.logger.io_bufs.SegmentBuffer.{SegmentBuffer}
use Rattle.sled_core.specs.Fits.{current_of, line_of}
use Rattle.sled_core.specs.Manifests.{is_manifest}
use Rattle.sled_core.specs.inside.OpenPlaces.{open_manifests}
use Rattle.sled_core.specs.inside.ReadyBuffers.{AreReady}
use Rattle.sled_core.specs.inside.Turned.{HasRoomIn, reserved_now}
use Rattle.sled_core.specs.Waiting.{at_last}
use Rattle.sled_core.proofs.Line.Entered.{filled_last}
use Rattle.sled_core.proofs.Line.Segments.{line_segments}
use Rattle.sled_core.proofs.Line.NthOpen.{last_buffer_is, last_is, line_with_last, within_with}
use Rattle.sled_core.proofs.Line.OpenManifests.{manifests_reserved, more_counted}
use Rattle.sled_core.proofs.Line.Reserves.{filled_reserved}
use Rattle.sled_core.proofs.Pending.Segments.{at_last_same}
use Rattle.sled_core.proofs.Line.Pooling.{kept_with}
use Rattle.sled_core.proofs.logger.Log.lay_out.Given.{Over}
use Rattle.sled_core.proofs.logger.Log.lay_out.Goals as goal

placeholder_some : (head item : List ℕ) → 0 < length (placeholder_head head ++ item)
placeholder_some head item = omega arith

-- The segments are filled as they have to be.
laid_filled : {D C : Type 0} (log : Log D C) (more : List ℕ) (r : Reserved) (to : ℕ) (line : List SegmentView) → line ≡ at_last (reserved_now more r) (line_of log) → r.state ≡ Open → r.from ≡ length (current_of log).parts.bytes → 0 < length more → to ≡ (current_of log).parts.site.place + length (current_of log).parts.bytes + length more
    → AreFilled log.config.config.segment_size to line
laid_filled log more r to line is is_open begins some end =
    subst (AreFilled log.config.config.segment_size to) (sym is)
    (filled_reserved (λ _. 0) log.config.config.segment_size more r log.reserved_to to log.segments.first.site.place (segment_view log.segments.first) (map segment_view log.segments.behind.items) (line_segments log) is_open begins some end log.line.filled).1

-- What was noted lies below what is reserved then, and as many manifests are open as are counted.
laid_pegs : {D C : Type 0} (log : Log D C) (to n : ℕ) → to ≡ (current_of log).parts.site.place + length (current_of log).parts.bytes + n → All (λ (b : NotedBatch). b.peg < to) log.batches.noted.items
laid_pegs log to n end =
    let low = (filled_last log.config.config.segment_size log.reserved_to (segment_view log.segments.first) (map segment_view log.segments.behind.items) log.line.filled).1 in
    All-weaker (λ (b : NotedBatch). b.peg < log.reserved_to) (λ (b : NotedBatch). b.peg < to) (λ b less. omega (arith, less, low, end)) log.batches.noted.items log.noted.pegs

laid_counted : {D C : Type 0} (log : Log D C) (more : List ℕ) (r : Reserved) (manifest : Bool) (now : ℕ) (line : List SegmentView) → line ≡ at_last (reserved_now more r) (line_of log) → r.state ≡ Open → manifest ≡ is_manifest r.log_kind r.page
    → now ≡ (if manifest then suc log.batches.manifests else log.batches.manifests) → open_manifests line ≡ now
laid_counted log more r manifest now line is opened kind more_is =
    more_counted manifest (open_manifests (line_of log)) (open_manifests line) log.batches.manifests now
    (ap open_manifests is ∙ manifests_reserved more r manifest (segment_view log.segments.first) (map segment_view log.segments.behind.items) opened (sym kind))
    more_is log.noted.counted

-- The same buffers can be written.
laid_indexed : {D C : Type 0} (log : Log D C) (more : List ℕ) (r : Reserved) (line : List SegmentView) → line ≡ at_last (reserved_now more r) (line_of log) → AreReady line log.ready
laid_indexed log more r line is = subst (λ (l : List SegmentView). AreReady l log.ready) (sym is) (at_last_same (reserved_now more r) (λ w. refl) (λ w. refl) (line_of log) log.ready log.line.indexed)

-- There is room for the batch of a manifest.
pub begin_manifest-requires : goal.begin_manifest-requires
begin_manifest-requires g c = λ is. (c.requires.batch (sym c.is_manifest-manifest.ensures ∙ is)).place

-- The last segment is the one that is being filled, and has room.

has_room : (g : Over) (c : goal.After-append-arg-1 g) → HasRoomIn c.last_mut-s.result.now.buffer (c.args.head.now.len + c.args.item_len)
has_room g c = subst (λ (b : IoBuf). HasRoomIn b (c.args.head.now.len + c.args.item_len)) (last_buffer_is c.args.self.now.segments c.last_mut-s.result.now c.last_mut-s.ensures.value) c.requires.room

pub append-requires-clause-room : goal.append-requires-clause-room
append-requires-clause-room g c = let room = (has_room g c).bytes in omega (arith, room)

pub append-requires-clause-place : goal.append-requires-clause-place
append-requires-clause-place g c = (has_room g c).reserved

pub append-requires-clause-few : goal.append-requires-clause-few
append-requires-clause-few g c = (has_room g c).few

pub invariant_of-self : goal.invariant_of-self
invariant_of-self g c =
    let log = c.args.self.now in
    let s : SegmentBuffer = c.last_mut-s.result.now in
    let there = c.last_mut-s.ensures.value in
    let head : List ℕ = placeholder_head (take c.args.head.now.len c.args.head.now.bytes) in
    let item : List ℕ = g.T.Serialize.short (g.T.Serialize.meaning c.args.item.now) in
    let made = c.append.ensures in
    let new : IoBuf = c.append.new.self in
    let bytes : length (current_of log).parts.bytes ≡ length s.buffer.bytes.items = ap (λ (v : SegmentView). length v.parts.bytes) (last_is log s there) in
    let all = ap (λ (v : SegmentView). length v.parts.bytes) (made.laid s.site) in
    let long : length (head ++ item) ≡ c.args.head.now.len + c.args.item_len = omega (arith, all, made.len, length-append s.buffer.bytes.items (head ++ item)) in
    let fits = c.requires.place.record_fits in
    let size : ℕ = log.config.config.segment_size in
    let lie = within_with size log.segments (length log.segments.behind.items) s (record { site = s.site; buffer = new }) there refl (omega (arith, made.len, bytes, fits)) (let from = ap (λ (v : SegmentView). v.parts.written_len) (made.laid s.site) in omega (arith, from)) log.line.lies in
    let line = line_with_last (reserved_now (head ++ item) _) log.segments s (record { site = s.site; buffer = new }) there (made.laid s.site) in
    record {
      line = record {
        lies = lie;
        filled = laid_filled log (head ++ item) _ c.args.to _ line refl (sym bytes) (placeholder_some (take c.args.head.now.len c.args.head.now.bytes) item) (omega (arith, c.requires.end, long));
        indexed = laid_indexed log (head ++ item) _ _ line;
      };
      account = log.account;
      noted = record {
        pegs = subst (All (λ (b : NotedBatch). b.peg < c.args.to)) (sym c.begin_manifest.ensures.items) (laid_pegs log c.args.to (c.args.head.now.len + c.args.item_len) c.requires.end);
        counted = laid_counted log (head ++ item) _ c.is_manifest-manifest.result c.begin_manifest.new.self.manifests _ line refl c.is_manifest-manifest.ensures c.begin_manifest.ensures.manifests;
      };
      pooling = kept_with log (length log.segments.behind.items) s (record { site = s.site; buffer = new }) there (λ some. made.there);
    }

pub returns-clause-rest : goal.returns-clause-rest
returns-clause-rest g c = record { config = refl; fault = refl; pins = refl; marks = refl; noted = c.begin_manifest.ensures.items }

pub returns-clause-line : goal.returns-clause-line
returns-clause-line g c =
    let log = c.args.self.now in
    let s : SegmentBuffer = c.last_mut-s.result.now in
    let head : List ℕ = placeholder_head (take c.args.head.now.len c.args.head.now.bytes) in
    let item : List ℕ = g.T.Serialize.short (g.T.Serialize.meaning c.args.item.now) in
    let made = c.append.ensures in
    line_with_last (reserved_now (head ++ item) _) log.segments s (record { site = s.site; buffer = c.append.new.self }) c.last_mut-s.ensures.value (made.laid s.site)
    ∙ ap (λ (v : SegmentView). at_last (reserved_now (head ++ item) (reserved_for c.args.purpose.now (length v.parts.bytes) c.args.head.now.len c.args.item_len (g.C.Checksum.sum_of (item ++ drop 4 (take c.args.head.now.len c.args.head.now.bytes))))) (line_of log))
    (sym (last_is log s c.last_mut-s.ensures.value))
