use Rattle.std.proofs.Common.{nat_lt, if◌then◌else◌, ◌≡◌, ◌==◌, ◌<◌, ◌∙◌, List, ℕ, ℤ, Bool, ap, sym, subst, refl, arith, rules, length, deque_len, map, set, true, Option, None, Some, Err, inl, inr, ◌≤ℤ◌}
use Rattle.std.specs.declared.io.Error.{Error as IoError}
use Rattle.sled_codec.specs.declared.result.Error.{Error}
use Rattle.sled_codec.specs.declared.result.Error.TheVariants.{Io, OutOfMemory}
use Rattle.sled_store.specs.Blobs.{UnlessFault}
use Rattle.sled_store.specs.Device.{Trace}
use Rattle.sled_store.specs.SegmentStates.{Machine}
use Rattle.sled_core.specs.Causes.{Answers}
use Rattle.std.specs.List.{slice_get}
use Rattle.sled_store.specs.Accounts.{machine_of}
use Rattle.sled_store.proofs.Traces.ScriptLemmas.{later_performed}
use Rattle.sled_store.specs.declared.config.Config.{Config}
use Rattle.std.proofs.lemmas.Result.{err_from_is_err_and}
use Rattle.sled_core.specs.Begun.{SegmentView, line_in, segment_view}
use Rattle.sled_core.specs.inside.Begun.{open_segments, with_nth}
use Rattle.sled_core.specs.declared.logger.io_bufs.IoBufs.{IoBufs}
use Rattle.sled_core.specs.declared.logger.io_bufs.SegmentBuffer.{SegmentBuffer}
use Rattle.sled_core.specs.declared.logger.batches.NotedBatch.{NotedBatch}
use Rattle.sled_core.specs.declared.iobuf.IoBuf.{IoBuf}
use Rattle.sled_core.specs.declared.iobuf.Sealed.{Sealed}
use Rattle.sled_core.specs.declared.logger.ready.ReadyBuffers.{ReadyBuffers}
use Rattle.sled_core.specs.declared.logger.Log.{Log}
use Rattle.sled_core.specs.inside.OneWritten.{WritesNone}
use Rattle.sled_core.specs.HeaderMark.{greater_mark}
use Rattle.sled_core.specs.inside.Fits.{written_to}
use Rattle.sled_core.specs.Fits.{AwaitsIn, line_of, noted_in, pins_of, position_with, segment_size_of}
use Rattle.sled_core.specs.Keeps.{SamePosition}
use Rattle.sled_core.proofs.Line.KeptCalls.{position_place}
use Rattle.std.proofs.lemmas.Bool.Decides.{nat_tests}
use Rattle.sled_core.specs.invariants.Fits.{Holds}
use Rattle.sled_core.specs.GivenUp.{given_up_along}
use Rattle.sled_core.specs.Logged.{logged, in_log}
use Rattle.sled_core.specs.OpenBatches.{batch_of, not_whole}
use Rattle.sled_core.specs.inside.OpenPlaces.{open_manifests}
use Rattle.sled_core.specs.OpenPlaces.{open_places_along}
use Rattle.sled_core.specs.Positions.{Position, position_in}
use Rattle.sled_core.specs.inside.ReadyBuffers.{AreReady, HasOwn}
use Rattle.sled_core.specs.invariants.Running.{Fits}
use Rattle.sled_core.specs.inside.SealedBuffers.{is_ready, written_at}
use Rattle.sled_core.specs.inside.Turned.{ChangesDevice, IsReadyIn, mark_of, promoted, written_now}
use Rattle.sled_core.specs.Waiting.{last_of}
use Rattle.sled_core.proofs.Holds.StoredItems.{items_same}
use Rattle.sled_core.proofs.Line.Faulty.{fits_with_same, holds_with_same}
use Rattle.sled_core.proofs.Line.Among.{among_further, among_same}
use Rattle.sled_core.proofs.Line.GivenUp.{given_promoted, set_given}
use Rattle.sled_core.proofs.Line.LineEnds.{kept_same, noted_later, noted_same}
use Rattle.sled_core.proofs.Line.LogWrites.{Joins, KeepsInvariants, crash_write, end_grows, fits_done, fits_failed, holds_done, holds_failed, keeps_invariants, line_after, line_left, mark_joins, names, noted_left, same_line, segments_written}
use Rattle.sled_core.proofs.Line.Marks.{HasReady, ready_at}
use Rattle.sled_core.proofs.Line.NthOpen.{nth_is, nth_same, nth_there, nth_within}
use Rattle.sled_core.proofs.Line.Pooling.{last_kept, last_low, waits_low, with_few}
use Rattle.sled_core.proofs.Line.Pools.{pools_same, pools_written}
use Rattle.sled_core.specs.Pool.{with_given}
use Rattle.sled_core.proofs.Line.OpenManifests.{manifests_promoted, set_same}
use Rattle.sled_core.proofs.Line.Outcomes.{all_err}
use Rattle.sled_core.proofs.Line.OpenPlaces.{places_promoted, set_places}
use Rattle.sled_core.proofs.Line.Promotes.{awaits_promoted, last_promoted, last_set}
use Rattle.sled_core.proofs.Line.Segments.{line_segments, nth_segment}
use Rattle.sled_core.proofs.Reached.OpenBatch.{not_whole_further}
use Rattle.sled_core.proofs.Line.WrittenTickets.{awaits_written, given_written, manifests_written, places_written}
use Rattle.sled_core.proofs.Pending.Logs.{written_ready}
use Rattle.sled_core.proofs.logger.Log.write_one.Goals as goal
use Rattle.sled_core.proofs.Line.AccountBehind.{account_same, ledger_same}
use Rattle.sled_core.proofs.Line.LogSpans.{same_with}
use Rattle.sled_core.proofs.Line.MarksJoin.{joined_as, joined_up, joins_same}
use Rattle.sled_core.specs.declared.logger.joined_marks.JoinedMarks.{JoinedMarks}

-- The same batches are noted,
noted_items : {D C : Type 0} (old mid : Log D C) → ChangesDevice old mid → mid.batches.noted.items ≡ old.batches.noted.items
noted_items old mid rest = λ i. (rest.batches i).noted.items

-- of which those are left that aren't wholly written.
noted_left_is : {D C : Type 0} (old : Log D C) (n k : ℕ) (r : IsReadyIn (line_of old) n k) {items : List NotedBatch} {line : List SegmentView} → items ≡ old.batches.noted.items → line ≡ line_left old n k r
    → not_whole (written_to line) (map batch_of items) ≡ noted_left old n k r
noted_left_is old n k r same line =
    let up = end_grows old n k r in
    (λ i. not_whole (written_to (line i)) (map batch_of (same i))) ∙ sym (not_whole_further (written_to (line_of old)) (written_to (line_left old n k r)) up (map batch_of old.batches.noted.items))

kept_size : {D C : Type 0} (old mid : Log D C) → ChangesDevice old mid → segment_size_of mid ≡ segment_size_of old
kept_size old mid rest = ap (λ (x : Config). x.segment_size) rest.config

-- The next record begins where it would have begun.
position_kept : {D C : Type 0} (old : Log D C) (n k : ℕ) (r : IsReadyIn (line_of old) n k) (m its : Machine) {size : ℕ} {line : List SegmentView} → size ≡ segment_size_of old
    → line ≡ promoted (segment_size_of old) (set (line_of old) n (written_now k r.segment)) → m ≡ its → position_in size (last_of r.segment line) m ≡ position_with old its
position_kept old n k r m its sizes line slots =
    let At : SegmentView → Position = λ v. position_in (segment_size_of old) v its in
    (λ i. position_in (sizes i) (last_of r.segment (line i)) (slots i))
    ∙ ap At (last_promoted (segment_size_of old) r.segment (set (line_of old) n (written_now k r.segment)))
    ∙ last_set At r.segment (line_of old) n r.segment (written_now k r.segment) r.among refl

-- The mark that joins is the one that did, or the greatest on the device, where the header's counts.
joined_so : {D C : Type 0} (old mid : Log D C) (n k : ℕ) (r : IsReadyIn (line_of old) n k) (trace : D → Trace) (sum : List ℕ → ℕ)
    (whole : old.fault.kept ≡ None) (marks : JoinedMarks) (pinned : Bool) (o : Option ℤ) → o ≡ mark_of k r.segment → mid.marks ≡ old.marks
    → marks.joined ≡ (if pinned then mid.marks.joined else greater_mark o mid.marks.durable) → marks.durable ≡ greater_mark o mid.marks.durable
    → Joins old n k r trace sum whole marks
joined_so old mid n k r trace sum whole marks pinned o mark same joined durable = (
  subst (λ (x : JoinedMarks). x.joined ≤ℤ marks.joined) same (joined_up pinned o mid.marks marks joined),
  durable ∙ (λ j. greater_mark (mark j) (same j).durable),
  elim (joined_as pinned marks.joined mid.marks.joined (greater_mark o mid.marks.durable) joined) [
    | inl kept ↦ inl (kept ∙ (λ j. (same j).joined))
    | inr joins ↦ inr (joins ∙ (λ j. greater_mark (mark j) (same j).durable))
  ],
)

-- A write that was refused changed nothing on the device, unless that failed.
unless_fault : (T : Type 0) (e : Error) (fault : Option IoError) (before after : ℕ) (old new : Trace) → Answers {T = T} (Err e) None fault before after → (fault ≡ None → new ≡ old) → UnlessFault {T = T} (Err e) old new
unless_fault T (Io e) fault before after old new (inl kept) same = let never : None ≡ Some e = kept.0 in cc
unless_fault T (Io e) fault before after old new (inr failed) same = inl failed.3
unless_fault T OutOfMemory fault before after old new answers same = same answers.1
unless_fault T _ fault before after old new answers same = absurd answers

pub returns-in_err-write_bytes-clause-refused : goal.returns-in_err-write_bytes-clause-refused
returns-in_err-write_bytes-clause-refused g c =
    let old = c.args.self.now in
    let mid = c.write_bytes.new.self in
    let did = c.in_err-write_bytes.ensures in
    let e = err_from_is_err_and c.from_residual.result c.from_residual.ensures.1 in
    rw (e.1, e.2) (unless_fault (Unit {0}) c.in_err-write_bytes.field-0.0 mid.fault.kept (g.D.Device.faults old.config.device) (g.D.Device.faults mid.config.device) (g.D.Device.trace old.config.device) (g.D.Device.trace mid.config.device) did.answers did.refused)

pub returns-in_err-write_bytes-clause-unwritten : goal.returns-in_err-write_bytes-clause-unwritten
returns-in_err-write_bytes-clause-unwritten g c =
    let old = c.args.self.now in
    let mid = c.write_bytes.new.self in
    let did = c.in_err-write_bytes.ensures in
    let account = account_same old mid did.rest.marks did.rest.pins in
    let none : WritesNone g.D.Device.trace old mid = record {
      line = λ i. line_in (did.rest.segments i);
      none = record { synced = did.unsynced.0; written = did.unsynced.1; still = did.refused; account = account };
      ledger = ledger_same old mid (ap machine_of did.rest.accountant) account;
    } in
    all_err c.from_residual.result _ none

pub returns-in_err-write_bytes-clause-keeps : goal.returns-in_err-write_bytes-clause-keeps
unfolding Holds Fits
returns-in_err-write_bytes-clause-keeps g c = record {
  preserves = (
      let old = c.args.self.now in
      let mid = c.write_bytes.new.self in
      let r = c.requires.ready in
      let did = c.in_err-write_bytes.ensures in
      let rest = did.rest in
      let sizes : segment_size_of mid ≡ segment_size_of old = ap (λ (x : Config). x.segment_size) rest.config in
      let slots = ap machine_of rest.accountant in
      let items = noted_items old mid rest in
      let kept_noted = noted_same old mid items (ap written_to (same_line old mid rest)) in
      record {
        goes_on = record {
          config = record { config = rest.config; checksum = rest.checksum };
          later = later_performed _ _ _ did.at_most;
          stable = let same = ap written_to (same_line old mid rest) in omega (arith, same);
          crash = λ H A f U fits. crash_write old c.args.n c.args.k r g.D.Device.trace g.C.Checksum.sum_of c.requires.fault (g.D.Device.trace mid.config.device) did.at_most H A f U fits;
          sound = λ none. c.requires.fault;
          items = λ none m spared. items_same g.D.Device.trace g.C.Checksum.sum_of old _ (names old c.args.n c.args.k r g.D.Device.trace g.C.Checksum.sum_of c.requires.fault (g.D.Device.trace mid.config.device) did.at_most).0 m;
        };
        history = λ H holds. holds_with_same g.C.Checksum.sum_of _ _ _ _ _ _ _ _ _ _ _ _ (logged H) rest.marks kept_noted sizes (same_line old mid rest) slots
            (holds_failed old c.args.n c.args.k r g.D.Device.trace g.C.Checksum.sum_of c.requires.fault (g.D.Device.trace mid.config.device) did.at_most mid.fault.kept did.refused H holds);
        fits = λ H A f U fits. fits_with_same g.C.Checksum.sum_of _ _ _ _ _ _ _ _ _ _ _ _ _ _ H A f U rest.marks kept_noted sizes (same_line old mid rest) slots rest.pins
            (fits_failed old c.args.n c.args.k r g.D.Device.trace g.C.Checksum.sum_of c.requires.fault (g.D.Device.trace mid.config.device) did.at_most mid.fault.kept did.refused H A f U fits);
        noted = noted_later old mid items (let same = ap written_to (same_line old mid rest) in omega (arith, same));
        kept = kept_same old mid items;
      }
      );
  tickets = search rules;
  position = (let same : SamePosition c.args.self.now c.write_bytes.new.self = search rules in position_place c.args.self.now c.write_bytes.new.self same);
}

pub returns-in_err-write_bytes-clause-position : goal.returns-in_err-write_bytes-clause-position
returns-in_err-write_bytes-clause-position g c =
    let old = c.args.self.now in
    let mid = c.write_bytes.new.self in
    let rest = c.in_err-write_bytes.ensures.rest in
    same_with old mid (same_line old mid rest) (kept_size old mid rest)

-- The segments that are left keep what the type of a log asks.
kept : {D C : Type 0} (old mid : Log D C) (n k : ℕ) (r : IsReadyIn (line_of old) n k) → ChangesDevice old mid → (s : SegmentBuffer) → slice_get (open_segments mid.segments) n ≡ Some s → (marked : SegmentBuffer) → segment_view marked ≡ written_now k (segment_view s)
    → (now : IoBufs) → line_in now ≡ promoted mid.config.config.segment_size (line_in (with_nth mid.segments n marked)) → (ready : ReadyBuffers)
    → ((x : Sealed) (before behind : List ℕ) (others : ℕ) → slice_get s.buffer.sealed.items k ≡ Some x → is_ready x ≡ true → HasOwn mid.ready s.site.place s.buffer.written_len s.buffer.sealed.items before behind others
    → HasOwn ready s.site.place s.buffer.written_len (written_at k s.buffer.sealed.items) before behind others)
    → (r' : IsReadyIn (line_of mid) n k) × KeepsInvariants mid n k r' now × (open_manifests (line_in now) ≡ mid.batches.manifests) × AreReady (line_in now) ready
kept old mid n k r rest s there marked is_marked now is ready noted =
    let r' : IsReadyIn (line_of mid) n k = subst (λ (l : List SegmentView). IsReadyIn l n k) (sym (same_line old mid rest)) r in
    let still : ChangesDevice mid mid = record { config = refl; checksum = refl; segments = refl; reserved = refl; pins = refl; marks = refl; accountant = refl; batches = refl; pool = refl } in
    let line = line_after mid mid n k r'.segment still r'.among s there marked is_marked (line_in now) is in
    let same = ap open_manifests line in
    let left = manifests_promoted mid.config.config.segment_size mid.segments.first.site.place (set (line_of mid) n (written_now k r'.segment)) mid.config.config.least (segments_written mid n k r') in
    let is_segment = nth_segment mid.config.config.segment_size mid.segments.first.site.place (line_of mid) (line_segments mid) n r'.segment r'.among in
    let written = set_same (line_of mid) n r'.segment (written_now k r'.segment) r'.among (manifests_written (line_of mid) n k r'.segment r'.buffer r'.among r'.there r'.ready is_segment.are) in
    let old = mid.noted.counted in (
      r',
      keeps_invariants mid n k r' now line,
      omega (arith, same, left, written, old),
      subst (λ (l : List SegmentView). AreReady l ready) (sym line) (written_ready mid n k r' s.site s.buffer (nth_there mid n s there) ready noted),
    )

-- The buffer is one of a segment that code has, which lies in reach.

pub segment_mut-s-requires : goal.segment_mut-s-requires
segment_mut-s-requires g c =
    let mid = c.write_bytes.new.self in
    let r : IsReadyIn (line_of mid) c.args.n c.args.k = subst (λ (l : List SegmentView). IsReadyIn l c.args.n c.args.k) (sym (same_line c.args.self.now mid c.in_ok-write_bytes.ensures.rest)) c.requires.ready in
    nth_within mid c.args.n r.segment r.among

-- it can be written
has_ready : {D C : Type 0} (old mid : Log D C) (n k : ℕ) → IsReadyIn (line_of old) n k → ChangesDevice old mid → (s : SegmentBuffer) → slice_get (open_segments mid.segments) n ≡ Some s → HasReady s.buffer k
has_ready old mid n k r rest s there = ready_at (line_of old) n k s.site s.buffer (ap (λ (l : List SegmentView). slice_get l n) (sym (same_line old mid rest)) ∙ nth_there mid n s there) r

pub note_written-requires : goal.note_written-requires
note_written-requires g c =
    let mid = c.write_bytes.new.self in
    let s : SegmentBuffer = c.segment_mut-s.result.now in
    let is = nth_is mid c.args.n s c.segment_mut-s.ensures.value in
    let short = is.short in
    let small = is.place_small in
    record { place = omega (arith, short, small); within = (has_ready c.args.self.now mid c.args.n c.args.k c.requires.ready c.in_ok-write_bytes.ensures.rest s c.segment_mut-s.ensures.value).within }

pub mark_written-requires-clause-within : goal.mark_written-requires-clause-within
mark_written-requires-clause-within g c =
    let s : SegmentBuffer = c.segment_mut-s.result.now in
    let long : deque_len s.buffer.sealed ≡ length s.buffer.sealed.items = search rules in
    let within = (has_ready c.args.self.now c.write_bytes.new.self c.args.n c.args.k c.requires.ready c.in_ok-write_bytes.ensures.rest s c.segment_mut-s.ensures.value).within in
    omega (arith, long, within)

pub mark_written-requires-clause-ready : goal.mark_written-requires-clause-ready
mark_written-requires-clause-ready g c = (has_ready c.args.self.now c.write_bytes.new.self c.args.n c.args.k c.requires.ready c.in_ok-write_bytes.ensures.rest c.segment_mut-s.result.now c.segment_mut-s.ensures.value).ready

pub invariant_of-self : goal.invariant_of-self
invariant_of-self g c =
    let mid = c.write_bytes.new.self in
    let s : SegmentBuffer = c.segment_mut-s.result.now in
    let found = kept c.args.self.now mid c.args.n c.args.k c.requires.ready c.in_ok-write_bytes.ensures.rest s c.segment_mut-s.ensures.value (record { site = s.site; buffer = c.retire.new.self })
    (c.retire.ensures.same s.site ∙ c.mark_written.ensures.written s.site) c.promote.new.self c.promote.ensures.line
    c.note_written.new.self c.note_written.ensures in
    let lie = found.1.lie in
    record {
      line = record {
        lies = lie;
        filled = found.1.filled;
        indexed = found.3;
      };
      account = mid.account;
      noted = record {
        pegs = mid.noted.pegs;
        counted = found.2;
      };
      pooling = record {
        few = (let few = mid.pooling.few in with_few _ mid.pool.count _ few c.retire.ensures.pooled);
        room = c.retire.ensures.room ∙ mid.pooling.room;
        there = subst (λ (b : IoBuf). 0 < b.bytes.room) (sym c.promote.ensures.last)
            (last_kept mid.segments c.args.n (record { site = s.site; buffer = c.retire.new.self })
            (λ last.
            let at = subst (λ k. slice_get (open_segments mid.segments) k ≡ Some s) last c.segment_mut-s.ensures.value in
            c.retire.ensures.there (last_low mid s at c.args.k c.mark_written.new.self (c.mark_written.ensures.written s.site)))
            mid.pooling.there);
      };
    }

-- Its bytes are there, and it has room enough for the pool.
pub retire-requires-clause-short : goal.retire-requires-clause-short
retire-requires-clause-short g c =
    let mid = c.write_bytes.new.self in
    let s : SegmentBuffer = c.segment_mut-s.result.now in
    let short = (nth_is mid c.args.n s c.segment_mut-s.ensures.value).short in
    let same = ap (λ (v : SegmentView). length v.parts.bytes) (c.mark_written.ensures.written s.site) in
    omega (arith, short, same)

-- As many more are kept as segments are wholly on the device by it.
pub returns-in_err-write_bytes-clause-pooled : goal.returns-in_err-write_bytes-clause-pooled
returns-in_err-write_bytes-clause-pooled g c =
    let old = c.args.self.now in
    let mid = c.write_bytes.new.self in
    let rest = c.in_err-write_bytes.ensures.rest in
    pools_same old mid (same_line old mid rest) rest.pool (kept_size old mid rest)

pub returns-clause-line : goal.returns-clause-line
returns-clause-line g c = λ v among.
    let s : SegmentBuffer = c.segment_mut-s.result.now in
    line_after c.args.self.now c.write_bytes.new.self c.args.n c.args.k v c.in_ok-write_bytes.ensures.rest among s c.segment_mut-s.ensures.value (record { site = s.site; buffer = c.retire.new.self })
    (c.retire.ensures.same s.site ∙ c.mark_written.ensures.written s.site) (line_in c.promote.new.self) c.promote.ensures.line

pub returns-clause-pooled : goal.returns-clause-pooled
returns-clause-pooled g c =
    let old = c.args.self.now in
    let mid = c.write_bytes.new.self in
    let rest = c.in_ok-write_bytes.ensures.rest in
    let r = c.requires.ready in
    let s : SegmentBuffer = c.segment_mut-s.result.now in
    let size = kept_size old mid rest in
    let among = ap (λ (l : List SegmentView). slice_get l c.args.n) (same_line old mid rest) ∙ r.among in
    let its : segment_view s ≡ r.segment = nth_same mid c.args.n s c.segment_mut-s.ensures.value r.segment among in
    let written : c.mark_written.new.self.written_len ≡ (written_now c.args.k r.segment).parts.written_len =
    ap (λ (v : SegmentView). v.parts.written_len) (c.mark_written.ensures.written s.site)
    ∙ ap (λ (v : SegmentView). (written_now c.args.k v).parts.written_len) its in
    pools_written old _ c.args.n r.segment (written_now c.args.k r.segment) r.among (waits_low old c.args.n c.args.k r)
    (returns-clause-line g c r.segment r.among)
    (c.retire.ensures.pooled ∙ (λ i. with_given (written i == size i) (rest.pool i).count)) size

-- The next record begins where it would have begun, whichever slots are left.
pub returns-clause-position : goal.returns-clause-position
returns-clause-position g c = λ m.
    let old = c.args.self.now in
    let mid = c.write_bytes.new.self in
    let r = c.requires.ready in
    position_kept old c.args.n c.args.k r m m (kept_size old mid c.in_ok-write_bytes.ensures.rest) (returns-clause-line g c r.segment r.among) refl

pub returns-clause-keeps : goal.returns-clause-keeps
unfolding Holds Fits
returns-clause-keeps g c = record {
  preserves = (
      let old = c.args.self.now in
      let mid = c.write_bytes.new.self in
      let r = c.requires.ready in
      let did = c.in_ok-write_bytes.ensures in
      let rest = did.rest in
      let sizes : segment_size_of mid ≡ segment_size_of old = ap (λ (x : Config). x.segment_size) rest.config in
      let slots = ap machine_of rest.accountant in
      let line = returns-clause-line g c r.segment r.among in
      let mark = c.mark_of-mark.ensures r.segment (ap (λ (l : List SegmentView). slice_get l c.args.n) (same_line old mid rest) ∙ r.among) in
      let joins =
      joined_so old mid c.args.n c.args.k r g.D.Device.trace g.C.Checksum.sum_of c.requires.fault c.note_mark.new.self _ _ mark rest.marks
      c.note_mark.ensures.joined c.note_mark.ensures.durable in
      record {
        goes_on = record {
          config = record { config = rest.config; checksum = rest.checksum };
          later = later_performed _ _ _ did.at_most;
          stable = let same = ap written_to line in let up = end_grows old c.args.n c.args.k r in omega (arith, same, up);
          crash = λ H A f U fits. crash_write old c.args.n c.args.k r g.D.Device.trace g.C.Checksum.sum_of c.requires.fault (g.D.Device.trace mid.config.device) did.at_most H A f U fits;
          sound = λ none. c.requires.fault;
          items = λ none m spared. items_same g.D.Device.trace g.C.Checksum.sum_of old _ (names old c.args.n c.args.k r g.D.Device.trace g.C.Checksum.sum_of c.requires.fault (g.D.Device.trace mid.config.device) did.at_most).0 m;
        };
        history = λ H holds. holds_with_same g.C.Checksum.sum_of _ _ _ _ _ _ _ _ _ _ _ _ (logged H) refl (noted_left_is old c.args.n c.args.k r (noted_items old mid rest) line) sizes line slots
            (holds_done old c.args.n c.args.k r g.D.Device.trace g.C.Checksum.sum_of c.requires.fault (g.D.Device.trace mid.config.device) did.calls mid.fault.kept did.answers.1 _ joins H holds);
        fits = λ H A f U fits. fits_with_same g.C.Checksum.sum_of _ _ _ _ _ _ _ _ _ _ _ _ _ _ H A f U refl (noted_left_is old c.args.n c.args.k r (noted_items old mid rest) line) sizes line slots rest.pins
            (fits_done old c.args.n c.args.k r g.D.Device.trace g.C.Checksum.sum_of c.requires.fault (g.D.Device.trace mid.config.device) did.calls mid.fault.kept did.answers.1 _ joins H A f U fits);
        noted = noted_left_is old c.args.n c.args.k r (noted_items old mid rest) line ∙ ap (λ e. not_whole e (noted_in old)) (sym (ap written_to line));
        kept = kept_same old mid (noted_items old mid rest);
      }
      );
  tickets = (
      let old = c.args.self.now in
      let r = c.requires.ready in
      let line = returns-clause-line g c r.segment r.among in
      let is = nth_segment (segment_size_of old) old.segments.first.site.place (line_of old) (line_segments old) c.args.n r.segment r.among in
      record {
        awaits = λ ticket m awaits.
            subst (λ (l : List SegmentView). AwaitsIn l ticket (in_log m)) (sym line)
            (awaits_promoted (segment_size_of old) old.segments.first.site.place (set (line_of old) c.args.n (written_now c.args.k r.segment)) ticket (in_log m) old.config.config.least (segments_written old c.args.n c.args.k r)
            (awaits_written (line_of old) c.args.n c.args.k r.segment r.buffer r.among r.there r.ready is.are ticket (in_log m) awaits));
        opens = ap open_places_along line
            ∙ places_promoted (segment_size_of old) old.segments.first.site.place (set (line_of old) c.args.n (written_now c.args.k r.segment)) old.config.config.least (segments_written old c.args.n c.args.k r)
            ∙ set_places (line_of old) c.args.n r.segment (written_now c.args.k r.segment) r.among (places_written (line_of old) c.args.n c.args.k r.segment r.buffer r.among r.there r.ready is.are);
        given_up =
            let left : List SegmentView = set (line_of old) c.args.n (written_now c.args.k r.segment) in
            let promoted_same = given_promoted (segment_size_of old) old.segments.first.site.place left old.config.config.least (segments_written old c.args.n c.args.k r) in
            among_further _ (given_up_along left) (given_up_along (line_of old)) (among_same _ (given_up_along left) (ap given_up_along line ∙ promoted_same))
            (set_given (line_of old) c.args.n r.segment (written_now c.args.k r.segment) r.among (given_written (line_of old) c.args.n c.args.k r.segment r.buffer r.among r.there r.ready is.are));
      }
      );
  position = (
      let old = c.args.self.now in
      let mid = c.write_bytes.new.self in
      let rest = c.in_ok-write_bytes.ensures.rest in
      let r = c.requires.ready in
      let at = position_kept old c.args.n c.args.k r (machine_of mid.accountant) (machine_of old.accountant) (kept_size old mid rest) (returns-clause-line g c r.segment r.among) (ap machine_of rest.accountant) in
      record {
        place = ap (λ (q : Position). q.place) at;
        pinned = λ pinned. at;
        reserved = rest.reserved;
        pins = rest.pins;
        joined = λ pinned.
            let out : nat_lt 0 (pins_of mid) ≡ true = (let same = rest.pins in grind (arith, nat_tests, pinned, same)) in
            c.note_mark.ensures.joined
            ∙ ap (λ (o : Bool). if o then mid.marks.joined else greater_mark c.mark_of-mark.result mid.marks.durable) out
            ∙ ap (λ (x : JoinedMarks). x.joined) rest.marks;
        size = kept_size old mid rest;
      }
      );
}

-- The mark of its segment is on the device, where it begins with the header of that.
pub returns-clause-account : goal.returns-clause-account
returns-clause-account g c = λ v among.
    let old = c.args.self.now in
    let mid = c.write_bytes.new.self in
    let rest = c.in_ok-write_bytes.ensures.rest in
    let mark = c.mark_of-mark.ensures v (ap (λ (l : List SegmentView). slice_get l c.args.n) (same_line c.args.self.now mid rest) ∙ among) in
    let did = c.note_mark.ensures in
    λ i. record {
      mark = (did.joined ∙ (λ j. if nat_lt 0 (rest.pins j) then (rest.marks j).joined else greater_mark (mark j) (rest.marks j).durable)) i;
      durable = (did.durable ∙ (λ j. greater_mark (mark j) (rest.marks j).durable)) i;
      pinned = nat_lt 0 (rest.pins i);
    }

-- And it isn't above what was synced.

pub returns-in_err-write_bytes-clause-joined : goal.returns-in_err-write_bytes-clause-joined
returns-in_err-write_bytes-clause-joined g c =
    let rest = c.in_err-write_bytes.ensures.rest in
    joins_same g.D.Device.trace g.C.Checksum.sum_of c.args.self.now c.write_bytes.new.self
    (account_same c.args.self.now c.write_bytes.new.self rest.marks rest.pins)

pub returns-clause-joined : goal.returns-clause-joined
returns-clause-joined g c = λ H holds.
    let old = c.args.self.now in
    let mid = c.write_bytes.new.self in
    let r = c.requires.ready in
    let rest = c.in_ok-write_bytes.ensures.rest in
    let mark = c.mark_of-mark.ensures r.segment (ap (λ (l : List SegmentView). slice_get l c.args.n) (same_line old mid rest) ∙ r.among) in
    mark_joins old c.args.n c.args.k r g.D.Device.trace g.C.Checksum.sum_of c.requires.fault c.note_mark.new.self
    (joined_so old mid c.args.n c.args.k r g.D.Device.trace g.C.Checksum.sum_of c.requires.fault c.note_mark.new.self _ _ mark rest.marks
    c.note_mark.ensures.joined c.note_mark.ensures.durable) H holds
