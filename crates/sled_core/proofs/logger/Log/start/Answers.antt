use Rattle.std.proofs.Common.{to_z, w64, ◌≡◌, ◌∙◌, ◌+◌, ◌-ℤ◌, ◌<◌, ◌≤◌, ◌∷◌, ◌++◌, pos, if◌then◌else◌, zero, suc, true, ℕ, List, [], Option, None, Some, length, map, refl, ap, sym, subst, arith, mod-lt, ◌==◌, Bool, false, take}
use Rattle.std.specs.List.{All, Contains}
use Rattle.std.proofs.lemmas.List.Elements.{All-nil}
use Rattle.std.proofs.Math.Nat.{suc-mul}
use Rattle.sled_codec.proofs.Segments.{length-short_header}
use Rattle.sled_codec.specs.History.{History}
use Rattle.sled_codec.specs.Record.{short_header}
use Rattle.sled_codec.specs.declared.result.Error.{Error}
use Rattle.sled_codec.specs.declared.result.Error.TheVariants.{Corruption}
use Rattle.sled_codec.specs.Errors.{IsCorrupt}
use Rattle.sled_codec.specs.Snapshots.{SnapshotModel, model_of, stable_place}
use Rattle.sled_store.specs.Accounts.{IsAccountant, machine_of}
use Rattle.sled_store.specs.StartCauses.{StartRefuses}
use Rattle.sled_store.specs.declared.config.Config.{Config}
use Rattle.sled_store.specs.Device.{State, LogState, NamesState, Trace, state_of, at_rest}
use Rattle.sled_store.specs.declared.segment.start.Beginning.{Beginning}
use Rattle.sled_store.specs.Script.{after_all}
use Rattle.sled_store.specs.Begin.{IsStartable, beginning_of, offset_at, place_at, slots_of, unused}
use Rattle.sled_store.specs.SegmentStates.{Machine}
use Rattle.sled_store.specs.inside.SegmentStates.{NoneDue}
use Rattle.sled_store.specs.SnapshotFiles.{BeginsFrom}
use Rattle.sled_store.specs.Started.{started}
use Rattle.std.proofs.lemmas.Bool.Decides.{nat_tests}
use Rattle.std.proofs.lemmas.List.{take_all}
use Rattle.sled_store.proofs.Segments.Elements.{in_nothing, only_in}
use Rattle.sled_core.specs.Marked.{IsMarkedHead}
use Rattle.sled_core.specs.Fillings.{fillings_along, fillings_in}
use Rattle.sled_core.specs.Heads.{HeadAt, head_of, heads_along}
use Rattle.sled_core.specs.declared.iobuf.IoBuf.{IoBuf}
use Rattle.sled_core.specs.declared.iobuf.Reserved.{Reserved}
use Rattle.sled_core.specs.declared.iobuf.Sealed.{Sealed}
use Rattle.sled_core.specs.declared.logger.batches.NotedBatch.{NotedBatch}
use Rattle.sled_core.specs.declared.logger.io_bufs.SegmentBuffer.{SegmentBuffer}
use Rattle.sled_core.specs.inside.Numbers.{HasNumbers}
use Rattle.sled_core.specs.inside.Begun.{AreEntered, AreFilled, FollowOn, IsUnfilled, IsUsedToEnd, last_buffer}
use Rattle.sled_core.specs.Begun.{SegmentView, begin_of, line_at, segment_view, view_at}
use Rattle.sled_core.specs.Fits.{CloseBelow, NoneOpenIn}
use Rattle.sled_core.specs.GivenUp.{given_up_along, given_up_in}
use Rattle.sled_core.specs.inside.Fits.{FitsBatches, HoldsIn, HoldsLine, log_parts, written_to}
use Rattle.sled_core.specs.invariants.Fits.{Holds}
use Rattle.sled_core.specs.inside.Begun.{line_end}
use Rattle.sled_core.specs.inside.FirstBuffer.{IsFirstBuffer}
use Rattle.sled_core.specs.inside.FreeSlots.{HasSlots}
use Rattle.sled_core.specs.FreeSlots.{begun_machine}
use Rattle.sled_core.specs.Logged.{logged}
use Rattle.sled_core.specs.OpenBatches.{batch_of, not_whole, stable_below}
use Rattle.sled_core.specs.inside.ReadyBuffers.{held_buffers, held_in, ready_in, ready_places}
use Rattle.sled_core.specs.inside.OpenPlaces.{open_manifests, open_manifests_in}
use Rattle.sled_core.specs.inside.OwnLog.{HasPlacedFile, ReadsPlaced}
use Rattle.sled_core.specs.Positions.{Position, is_short, next_segment_at, position_in}
use Rattle.sled_core.specs.Ready.{IsReady}
use Rattle.sled_core.specs.SealedBuffers.{sealed_end}
use Rattle.sled_core.specs.Starts.{site_from}
use Rattle.sled_core.specs.Waiting.{last_of, start_in, unwritten, unwritten_in}
use Rattle.sled_core.specs.declared.iobuf.SegmentPosition.{SegmentPosition}
use Rattle.sled_core.specs.invariants.Running.{Ready, Fits}
use Rattle.sled_core.specs.inside.Running.{FitsIn, FitsLine}
use Rattle.sled_store.proofs.Accounts.StartedFile.{started_file, started-log, started-snapshots, started-blobs}
use Rattle.sled_core.proofs.Line.Shown.{fits_begun, holds_begun}
use Rattle.sled_core.proofs.Line.NeededSlots.{newest_stable}
use Rattle.sled_core.proofs.Start.StartedNumbers.{start_numbers}
use Rattle.sled_core.proofs.Holds.FitsBatches.{batches_begun}
use Rattle.sled_core.proofs.Logged.Messages.{logged_twice}
use Rattle.sled_core.proofs.Logged.Names.{ready_alike}
use Rattle.sled_core.proofs.Numbers.Stay.{numbers_from}
use Rattle.sled_core.proofs.OwnLog.Started.{started_own}
use Rattle.sled_core.proofs.OwnLog.StartedDevice.{started_placed}
use Rattle.sled_core.proofs.Start.BegunSlots.{begun_slots}
use Rattle.sled_core.proofs.Start.OlderStarted.{start_whole}
use Rattle.sled_core.proofs.Start.StartedAccount.{start_account, start_in_slots, start_place}
use Rattle.sled_core.proofs.Start.StartedDue.{begun_idle, floor_low}
use Rattle.sled_core.proofs.Start.StartedMoments.{started_throughout}
use Rattle.sled_core.proofs.Start.ReadyStarts.{ready_starts}
use Rattle.sled_core.proofs.Start.StartFits.{start_fits}
use Rattle.sled_core.proofs.Start.OpenLemmas.{in_segment, place_in_reach, slot_in_reach, begins_offset, begins_place, first_next}
use Rattle.sled_core.proofs.Start.ReadyLemmas.{begins_closed, begins_ready, BeginAt}
use Rattle.sled_store.proofs.Traces.ScriptLemmas.{later_performed, performs_nothing}
use Rattle.sled_core.specs.Buffers.{none_open}
use Rattle.sled_core.specs.inside.Buffers.{records_end}
use Rattle.sled_core.proofs.logger.Log.start.Goals as goal
use Rattle.sled_core.specs.LogSegments.{begins_from}
use Rattle.sled_core.specs.declared.logger.joined_marks.JoinedMarks.{JoinedMarks}
use Rattle.std.proofs.lemmas.Int.{to_z_pos}

-- the only segment has no open reservation
none_open_one : (v : SegmentView) → none_open v.parts.reserved ≡ true → NoneOpenIn (v ∷ [])
none_open_one v ended zero w there = let same : v ≡ w = cc in ap (λ (x : SegmentView). none_open x.parts.reserved) (sym same) ∙ ended
none_open_one v ended (suc n) w there = cc

-- where the next record may begin in a segment with so many bytes
abbrev position_by : ℕ → SegmentPosition → ℕ → Machine → Position
position_by size site len m = if is_short size len then next_segment_at size site.place m else record { place = site.place + len; begins = site.place; slot = site.slot; machine = m }

-- the slots of a log with this segment alone, where the machine and the file are those of its start
start_slots : (size : ℕ) {size' : ℕ} → size' ≡ size → 0 < size → (s : SnapshotModel) (old now : List ℕ) → IsStartable size (length old) s → now ≡ started_file size old s → (v : SegmentView) → v.parts.site ≡ site_from size (length old) s
    → {m : Machine} → m ≡ begun_machine size (length old) s → HasSlots size' (v ∷ []) now None m
start_slots size same some s old now startable file v at {m} machine =
    subst (λ n. HasSlots n (v ∷ []) now None m) (sym same)
    (subst (λ (l : List ℕ). HasSlots size (v ∷ []) l None m) (sym file)
    (subst (λ (x : Machine). HasSlots size (v ∷ []) (started_file size old s) None x) (sym machine) (begun_slots size some old s None startable v at)))

-- and no active segment is due for a floor that isn't above the place of the snapshot
start_idle : (size : ℕ) {size' : ℕ} → size' ≡ size → 0 < size → (s : SnapshotModel) (len : ℕ) → IsStartable size len s → {m : Machine}
    → m ≡ begun_machine size len s → (f : ℕ) → f ≤ stable_place s.stable → NoneDue size' (pos f) m
start_idle size same some s len startable {m} machine f low =
    subst (λ n. NoneDue n (pos f) m) (sym same) (subst (λ (x : Machine). NoneDue size (pos f) x) (sym machine) (begun_idle size len s some startable f low))

-- The segment in which a log begins has more than its header only where that was written, and what was reserved ends there.
first_used : (sum : List ℕ → ℕ) (place offset : ℕ) (b : IoBuf) → IsFirstBuffer sum place offset b → IsUsedToEnd (place + offset) place (length b.bytes.items)
first_used sum place zero b is = λ some. absurd (let long = ap length (is.header refl) ∙ length-short_header sum (pos place) (pos place -ℤ pos 1) in omega (arith, some, long))
first_used sum place (suc n) b is = λ some. let long = is.resumed (omega arith) in omega (arith, some, long)

-- A log goes on within its segment.
offset_low : (size len : ℕ) (s : SnapshotModel) (b : Beginning) → b ≡ beginning_of size len s → 0 < size → b.offset < size
offset_low size len s b is some = by s.active (ap (λ (x : Beginning). x.offset) is ∙ begins_offset size (slots_of size len) (stable_place s.stable) (unused size (slots_of size len) s) s.active) where
  by : (o : Option ℕ) → b.offset ≡ offset_at size (stable_place s.stable) o → b.offset < size
  by None at = omega (arith, at, some)
  by (Some a) at = let low = mod-lt (stable_place s.stable) some in omega (arith, at, low)

-- It has noted no batch, and all of the history's end below where it begins.
started_batches : (size : ℕ) (v : SegmentView) (vs : List SegmentView) {noted : List NotedBatch} (H : History) → noted ≡ [] → v.parts.written_len ≤ size → CloseBelow (written_to (v ∷ vs)) H.batches
    → FitsBatches (written_to (v ∷ vs)) (line_end size (v ∷ vs)) (not_whole (written_to (v ∷ vs)) (map batch_of noted)) H
started_batches size v vs H none short closed =
    subst (λ (bs : List NotedBatch). FitsBatches (written_to (v ∷ vs)) (line_end size (v ∷ vs)) (not_whole (written_to (v ∷ vs)) (map batch_of bs)) H) (sym none)
    (batches_begun (written_to (v ∷ vs)) (line_end size (v ∷ vs)) H (omega (arith, short, suc-mul (length vs) size)) closed)

pub invariant_of-result : goal.invariant_of-result
invariant_of-result g c =
    let len : ℕ = length (state_of (g.D.Device.trace c.args.config.device)).log.bytes in
    let same : c.begin.new.config.config.segment_size ≡ c.args.config.config.segment_size = ap (λ (x : Config). x.segment_size) c.begin.ensures.config in
    let s : SnapshotModel = model_of c.args.snapshot.now in
    let long = c.args.config.config.least in
    let inside = in_segment c.args.config.config.segment_size len s c.in-Ok-begin.beginning c.in-Ok-begin.ensures.beginning c.in-Ok-begin.ensures.answers.0 c.in-Ok-begin.ensures.answers.1 g.C.Checksum.sum_of c.in-Ok-begin.buffer long c.in-Ok-begin.ensures.buffer in
    let place = place_in_reach c.args.config.config.segment_size len s c.in-Ok-begin.beginning c.in-Ok-begin.ensures.beginning c.in-Ok-begin.ensures.answers.0 c.in-Ok-begin.ensures.answers.1 in
    let slot = slot_in_reach c.args.config.config.segment_size len s c.in-Ok-begin.beginning c.in-Ok-begin.ensures.beginning c.in-Ok-begin.ensures.answers.0 c.in-Ok-begin.ensures.answers.1 in
    record {
      line = record {
        lies = record {
          in_segment = omega (arith, same, inside);
          place_in_reach = omega (arith, same, place);
          slot_in_reach = omega (arith, same, slot);
          waits = λ some. absurd (let none = ap (λ (ss : List SegmentBuffer). length ss) c.no_segments.ensures in omega (arith, some, none));
          follow = subst (λ (ss : List SegmentBuffer). FollowOn c.begin.new.config.config.segment_size (c.in-Ok-begin.beginning.place + c.begin.new.config.config.segment_size) ss) (sym c.no_segments.ensures) _;
        };
        filled = (
            let first = c.in-Ok-begin.ensures.buffer in
            let low = offset_low c.args.config.config.segment_size len s c.in-Ok-begin.beginning c.in-Ok-begin.ensures.beginning (omega (arith, long)) in
            let at : begin_of (view_at (record { place = c.in-Ok-begin.beginning.place; slot = c.in-Ok-begin.beginning.slot }) c.in-Ok-begin.buffer) ≡ c.in-Ok-begin.beginning.offset = ap (λ (bs : List Sealed). sealed_end c.in-Ok-begin.buffer.written_len bs) first.sealed ∙ first.from in
            let behind = c.in-Ok-begin.buffer.behind in
            let begins = c.in-Ok-begin.buffer.begins in
            subst (λ (ss : List SegmentBuffer). AreFilled c.begin.new.config.config.segment_size (c.in-Ok-begin.beginning.place + c.in-Ok-begin.beginning.offset) (line_at (record { place = c.in-Ok-begin.beginning.place; slot = c.in-Ok-begin.beginning.slot }) c.in-Ok-begin.buffer ss)) (sym c.no_segments.ensures) (
              omega (arith, at, low, same),
              omega (arith, at, behind, begins),
              subst (AreEntered (c.in-Ok-begin.beginning.place + c.in-Ok-begin.beginning.offset) c.in-Ok-begin.beginning.place) (sym first.reserved) tt,
              subst IsUnfilled (sym first.filled) tt,
              omega (arith, ap (λ (rs : List Reserved). records_end rs (length c.in-Ok-begin.buffer.bytes.items)) first.reserved),
              first_used g.C.Checksum.sum_of c.in-Ok-begin.beginning.place c.in-Ok-begin.beginning.offset c.in-Ok-begin.buffer first,
            ));
        indexed = (
            let here : SegmentPosition = record { place = c.in-Ok-begin.beginning.place; slot = c.in-Ok-begin.beginning.slot } in
            let nothing : ready_places (line_at here c.in-Ok-begin.buffer c.no_segments.result.items) ≡ [] =
            ap (λ (ss : List SegmentBuffer). ready_places (line_at here c.in-Ok-begin.buffer ss)) c.no_segments.ensures ∙ ap (λ (bs : List Sealed). ready_in here.place c.in-Ok-begin.buffer.written_len bs ++ []) c.in-Ok-begin.ensures.buffer.sealed in
            let none : held_buffers (line_at here c.in-Ok-begin.buffer c.no_segments.result.items) ≡ 0 =
            ap (λ (ss : List SegmentBuffer). held_buffers (line_at here c.in-Ok-begin.buffer ss)) c.no_segments.ensures ∙ ap (λ (bs : List Sealed). held_in bs + 0) c.in-Ok-begin.ensures.buffer.sealed in
            record { places = c.new.ensures.places ∙ sym nothing; held = c.new.ensures.held ∙ sym none });
      };
      account = subst (λ n. IsAccountant n c.in-Ok-begin.accountant) (sym same) c.in-Ok-begin.ensures.account;
      noted = record {
        pegs = subst (All (λ (b : NotedBatch). b.peg < c.in-Ok-begin.beginning.place + c.in-Ok-begin.beginning.offset)) (sym c.new-in-Ok-begin.ensures.noted) (All-nil (λ (b : NotedBatch). b.peg < c.in-Ok-begin.beginning.place + c.in-Ok-begin.beginning.offset));
        counted = (
            let here : SegmentPosition = record { place = c.in-Ok-begin.beginning.place; slot = c.in-Ok-begin.beginning.slot } in
            let none : open_manifests (line_at here c.in-Ok-begin.buffer c.no_segments.result.items) ≡ 0 = ap (λ (ss : List SegmentBuffer). open_manifests (line_at here c.in-Ok-begin.buffer ss)) c.no_segments.ensures ∙ ap (λ (rs : List Reserved). open_manifests_in rs + 0) c.in-Ok-begin.ensures.buffer.reserved in
            let zero = c.new-in-Ok-begin.ensures.manifests in
            omega (arith, none, zero));
      };
      pooling = record {
        few = (let none = c.in-Ok.ensures.none in omega (arith, none));
        room = (let room = c.in-Ok.ensures.room in omega (arith, room, same));
        there = subst (λ (ss : List SegmentBuffer). 0 < (last_buffer c.in-Ok-begin.buffer ss).bytes.room)
            (sym c.no_segments.ensures) c.in-Ok-begin.ensures.buffer.there;
      };
    }

-- the log file, once the log is started
started_log : (size : ℕ) → 0 < size → (s : SnapshotModel) (old new : Trace) → new ≡ after_all (started size (length (state_of old).log.bytes) s).calls old → (log : List ℕ) → (state_of old).log ≡ at_rest log
    → (state_of new).log ≡ at_rest (started_file size (state_of old).log.bytes s)
started_log size some s old new made log settled =
    ap (λ (t : Trace). (state_of t).log) made ∙ started-log size some (state_of old).log.bytes s old (settled ∙ ap (λ (l : LogState). at_rest l.bytes) (sym settled))

pub returns-in-Ok-begin-clause-history : goal.returns-in-Ok-begin-clause-history
unfolding Holds
returns-in-Ok-begin-clause-history g c = λ H ready.
    let size : ℕ = c.args.config.config.segment_size in
    let R : History = logged H in
    let s : SnapshotModel = model_of c.args.snapshot.now in
    let old : State = state_of (g.D.Device.trace c.args.config.device) in
    let of_log : IsReady g.C.Checksum.sum_of size old s R = ready_alike H R (sym (logged_twice H)) g.C.Checksum.sum_of size old s ready in
    let some : 0 < size = (let least = c.args.config.config.least in omega (arith, least)) in
    let now : State = state_of (g.D.Device.trace c.begin.new.config.device) in
    let log_now = started_log size some s (g.D.Device.trace c.args.config.device) (g.D.Device.trace c.begin.new.config.device) c.in-Ok-begin.ensures.made of_log.log of_log.settled in
    let names_now = ap (λ (t : Trace). (state_of t).snapshots.file) c.in-Ok-begin.ensures.made ∙ ap (λ (n : NamesState). n.file) (started-snapshots size some old.log.bytes s (g.D.Device.trace c.args.config.device)) in
    let first = c.in-Ok-begin.ensures.buffer in
    let place : to_z w64 c.stable_place.result ≡ pos (stable_place s.stable) = to_z_pos w64 c.stable_place.result c.stable_place.ensures.small ∙ ap pos c.stable_place.ensures.place in
    let marks : JoinedMarks = c.from_place.result in
    let at : BeginAt marks (stable_place s.stable) = (c.from_place.ensures.joined ∙ place, c.from_place.ensures.durable ∙ place) in
    let holds = begins_ready g.C.Checksum.sum_of size old now s R c.in-Ok-begin.buffer.bytes.items c.args.config.config.least of_log c.in-Ok-begin.ensures.answers.0 log_now names_now marks at c.in-Ok-begin.beginning c.in-Ok-begin.ensures.beginning first.header first.resumed in
    holds_begun g.C.Checksum.sum_of _ (let same = ap (λ (x : Config). x.segment_size) c.begin.ensures.config in omega (arith, c.args.config.config.least, same))
    (g.D.Device.trace c.begin.new.config.device) _ _ _ marks R (record {
      holds = subst (λ (ss : List SegmentBuffer). HoldsLine g.C.Checksum.sum_of marks c.begin.new.config.config.segment_size now None (line_at (record { place = c.in-Ok-begin.beginning.place; slot = c.in-Ok-begin.beginning.slot }) c.in-Ok-begin.buffer ss) R) (sym c.no_segments.ensures)
          (subst (λ (n : ℕ). HoldsIn g.C.Checksum.sum_of marks (log_parts n (record { place = c.in-Ok-begin.beginning.place; slot = c.in-Ok-begin.beginning.slot }) now None c.in-Ok-begin.buffer.bytes.items c.in-Ok-begin.buffer.written_len c.in-Ok-begin.buffer.sealed.items c.in-Ok-begin.buffer.reserved.items) [] R)
          (sym (ap (λ (x : Config). x.segment_size) c.begin.ensures.config))
          (subst (λ (n : ℕ). HoldsIn g.C.Checksum.sum_of marks (log_parts size (record { place = c.in-Ok-begin.beginning.place; slot = c.in-Ok-begin.beginning.slot }) now None c.in-Ok-begin.buffer.bytes.items n c.in-Ok-begin.buffer.sealed.items c.in-Ok-begin.buffer.reserved.items) [] R) (sym first.from)
          (subst (λ (l : List Sealed). HoldsIn g.C.Checksum.sum_of marks (log_parts size (record { place = c.in-Ok-begin.beginning.place; slot = c.in-Ok-begin.beginning.slot }) now None c.in-Ok-begin.buffer.bytes.items c.in-Ok-begin.beginning.offset l c.in-Ok-begin.buffer.reserved.items) [] R) (sym first.sealed)
          (subst (λ (r : List Reserved). HoldsIn g.C.Checksum.sum_of marks (log_parts size (record { place = c.in-Ok-begin.beginning.place; slot = c.in-Ok-begin.beginning.slot }) now None c.in-Ok-begin.buffer.bytes.items c.in-Ok-begin.beginning.offset [] r) [] R) (sym first.reserved) holds))));
      batches = started_batches c.begin.new.config.config.segment_size (view_at (record { place = c.in-Ok-begin.beginning.place; slot = c.in-Ok-begin.beginning.slot }) c.in-Ok-begin.buffer) (map segment_view c.no_segments.result.items) R c.new-in-Ok-begin.ensures.noted
          (let low = offset_low c.args.config.config.segment_size (length (state_of (g.D.Device.trace c.args.config.device)).log.bytes) s c.in-Ok-begin.beginning c.in-Ok-begin.ensures.beginning some in let from = first.from in let same = ap (λ (x : Config). x.segment_size) c.begin.ensures.config in omega (arith, low, from, same))
          (subst (λ n. CloseBelow (c.in-Ok-begin.beginning.place + n) R.batches) (sym first.from)
          (begins_closed g.C.Checksum.sum_of size old now s R c.in-Ok-begin.buffer.bytes.items c.args.config.config.least of_log c.in-Ok-begin.ensures.answers.0 log_now names_now marks at c.in-Ok-begin.beginning c.in-Ok-begin.ensures.beginning first.header first.resumed));
      slots = subst (λ (ss : List SegmentBuffer). HasSlots c.begin.new.config.config.segment_size (line_at (record { place = c.in-Ok-begin.beginning.place; slot = c.in-Ok-begin.beginning.slot }) c.in-Ok-begin.buffer ss) now.log.bytes None (machine_of c.in-Ok-begin.accountant)) (sym c.no_segments.ensures)
          (start_slots size (ap (λ (x : Config). x.segment_size) c.begin.ensures.config) some s old.log.bytes now.log.bytes c.in-Ok-begin.ensures.answers.0 (ap (λ (l : LogState). l.bytes) log_now) (view_at (record { place = c.in-Ok-begin.beginning.place; slot = c.in-Ok-begin.beginning.slot }) c.in-Ok-begin.buffer) (ap (λ (x : Beginning). record { place = x.place; slot = x.slot }) c.in-Ok-begin.ensures.beginning) c.in-Ok-begin.ensures.machine);
    })

pub returns-in-Ok-begin-clause-crash : goal.returns-in-Ok-begin-clause-crash
returns-in-Ok-begin-clause-crash g c = λ H A f ready. started_throughout g.C.Checksum.sum_of c.args.config.config.segment_size (model_of c.args.snapshot.now) H A f c.args.config.config.least
    (g.D.Device.trace c.args.config.device) (g.D.Device.trace c.begin.new.config.device) ready c.begin.ensures.calls

pub returns-in-Err-clause-crash : goal.returns-in-Err-clause-crash
returns-in-Err-clause-crash g c = λ H A f ready. started_throughout g.C.Checksum.sum_of c.args.config.config.segment_size (model_of c.args.snapshot.now) H A f c.args.config.config.least
    (g.D.Device.trace c.args.config.device) (g.D.Device.trace c.begin.new.config.device) ready c.begin.ensures.calls

pub returns-in-Ok-begin-clause-fits : goal.returns-in-Ok-begin-clause-fits
unfolding Ready Fits Holds
returns-in-Ok-begin-clause-fits g c = λ H A f ready.
    let size : ℕ = c.args.config.config.segment_size in
    let old : Trace = g.D.Device.trace c.args.config.device in
    let s : SnapshotModel = model_of c.args.snapshot.now in
    let some : 0 < size = (let least = c.args.config.config.least in omega (arith, least)) in
    let now : State = state_of (g.D.Device.trace c.begin.new.config.device) in
    let same : c.begin.new.config.config.segment_size ≡ size = ap (λ (x : Config). x.segment_size) c.begin.ensures.config in
    let site : SegmentPosition = record { place = c.in-Ok-begin.beginning.place; slot = c.in-Ok-begin.beginning.slot } in
    let first = c.in-Ok-begin.ensures.buffer in
    let log_now = started_log size some s old (g.D.Device.trace c.begin.new.config.device) c.in-Ok-begin.ensures.made ready.ready.log ready.ready.settled in
    let names = ap (λ (t : Trace). (state_of t).snapshots.file) c.in-Ok-begin.ensures.made ∙ ap (λ (n : NamesState). n.file) (started-snapshots size some (state_of old).log.bytes s old) in
    let place : to_z w64 c.stable_place.result ≡ pos (stable_place s.stable) = to_z_pos w64 c.stable_place.result c.stable_place.ensures.small ∙ ap pos c.stable_place.ensures.place in
    let marks : JoinedMarks = c.from_place.result in
    let at : BeginAt marks (stable_place s.stable) = (c.from_place.ensures.joined ∙ place, c.from_place.ensures.durable ∙ place) in
    let began_at = (λ (first : SnapshotModel) (begins : BeginsFrom g.C.Checksum.sum_of now.snapshots.file first).
    let there = ap pos (sym (start_place g.C.Checksum.sum_of size some (state_of old) s H A f ready c.in-Ok-begin.ensures.answers.0
    now.snapshots.file names first begins)) in
    let both : BeginAt marks (stable_place first.stable) = (at.0 ∙ there, at.1 ∙ there) in both) in
    let parts =
    subst (λ (ss : List SegmentBuffer). FitsLine g.C.Checksum.sum_of marks c.begin.new.config.config.segment_size now None (line_at site c.in-Ok-begin.buffer ss) (c.in-Ok-begin.beginning.place + c.in-Ok-begin.beginning.offset) 0 H A f []) (sym c.no_segments.ensures)
    (subst (λ n. FitsIn g.C.Checksum.sum_of marks (log_parts n site now None c.in-Ok-begin.buffer.bytes.items c.in-Ok-begin.buffer.written_len c.in-Ok-begin.buffer.sealed.items c.in-Ok-begin.buffer.reserved.items) [] (c.in-Ok-begin.beginning.place + c.in-Ok-begin.beginning.offset) 0 H A f []) (sym same)
    (start_fits g.C.Checksum.sum_of size (state_of old) now s H A f c.args.config.config.least ready c.in-Ok-begin.ensures.answers.0
    log_now (ap (λ (t : Trace). (state_of t).blobs) c.in-Ok-begin.ensures.made ∙ started-blobs size some (state_of old).log.bytes s old) (ap (λ (t : Trace). (state_of t).snapshots) c.in-Ok-begin.ensures.made ∙ started-snapshots size some (state_of old).log.bytes s old)
    marks at c.in-Ok-begin.beginning c.in-Ok-begin.ensures.beginning c.in-Ok-begin.buffer.bytes.items c.in-Ok-begin.buffer.written_len c.in-Ok-begin.buffer.sealed.items c.in-Ok-begin.buffer.reserved.items first.header first.resumed first.from first.sealed first.reserved)) in
    fits_begun g.C.Checksum.sum_of _ (omega (arith, c.args.config.config.least, same)) (g.D.Device.trace c.begin.new.config.device) _ _ _ marks _ H A f []
    began_at
    (start_idle size same some s (length (state_of old).log.bytes) c.in-Ok-begin.ensures.answers.0 c.in-Ok-begin.ensures.machine f
    (let low = floor_low g.C.Checksum.sum_of size old (logged H) f ready.ready.first ready.own_names.of_snapshots ready.names in
    let place = ap stable_place ready.ready.same_place in omega (arith, low, place)))
    (record {
      reach = c.in-Ok-begin.beginning.place + c.in-Ok-begin.beginning.offset;
      parts = parts;
      batches = started_batches c.begin.new.config.config.segment_size (view_at (record { place = c.in-Ok-begin.beginning.place; slot = c.in-Ok-begin.beginning.slot }) c.in-Ok-begin.buffer) (map segment_view c.no_segments.result.items) (logged H) c.new-in-Ok-begin.ensures.noted
          (let low = offset_low c.args.config.config.segment_size (length (state_of (g.D.Device.trace c.args.config.device)).log.bytes) s c.in-Ok-begin.beginning c.in-Ok-begin.ensures.beginning some in let from = first.from in let same = ap (λ (x : Config). x.segment_size) c.begin.ensures.config in omega (arith, low, from, same))
          (subst (λ n. CloseBelow (c.in-Ok-begin.beginning.place + n) (logged H).batches) (sym first.from)
          (begins_closed g.C.Checksum.sum_of size (state_of old) now s (logged H) c.in-Ok-begin.buffer.bytes.items c.args.config.config.least ready.ready c.in-Ok-begin.ensures.answers.0 log_now
          (ap (λ (t : Trace). (state_of t).snapshots.file) c.in-Ok-begin.ensures.made ∙ ap (λ (n : NamesState). n.file) (started-snapshots size some (state_of old).log.bytes s old)) marks at c.in-Ok-begin.beginning c.in-Ok-begin.ensures.beginning first.header first.resumed));
      slots = subst (λ (ss : List SegmentBuffer). HasSlots c.begin.new.config.config.segment_size (line_at site c.in-Ok-begin.buffer ss) now.log.bytes None (machine_of c.in-Ok-begin.accountant)) (sym c.no_segments.ensures)
          (start_slots size same some s (state_of old).log.bytes now.log.bytes c.in-Ok-begin.ensures.answers.0 (ap (λ (l : LogState). l.bytes) log_now) (view_at site c.in-Ok-begin.buffer) (ap (λ (x : Beginning). record { place = x.place; slot = x.slot }) c.in-Ok-begin.ensures.beginning) c.in-Ok-begin.ensures.machine);
      whole = λ none zeros. start_whole g.C.Checksum.sum_of size c.args.config.config.least (state_of old) s (logged H) ready.ready ready.alone c.in-Ok-begin.ensures.answers.0 ready.active same (ap (λ (l : LogState). l.bytes) log_now)
          (ap (λ (x : Beginning). x.place) c.in-Ok-begin.ensures.beginning ∙ begins_place size (slots_of size (length (state_of old).log.bytes)) (stable_place s.stable) (unused size (slots_of size (length (state_of old).log.bytes)) s) s.active) c.in-Ok-begin.ensures.machine;
      own = λ none zeros. (
          let least = c.args.config.config.least in
          let behind : ReadsPlaced g.C.Checksum.sum_of size now = started_placed g.C.Checksum.sum_of size zeros (omega (arith, least)) s old (g.D.Device.trace c.begin.new.config.device) c.in-Ok-begin.ensures.made (ready.own zeros) in
          let offset : c.in-Ok-begin.beginning.offset ≡ offset_at size (stable_place s.stable) s.active =
          ap (λ (x : Beginning). x.offset) c.in-Ok-begin.ensures.beginning ∙ begins_offset size (slots_of size (length (state_of old).log.bytes)) (stable_place s.stable) (unused size (slots_of size (length (state_of old).log.bytes)) s) s.active in
          subst (λ n. HasPlacedFile g.C.Checksum.sum_of n now (line_at site c.in-Ok-begin.buffer c.no_segments.result.items)) (sym same)
          (subst (λ (ss : List SegmentBuffer). HasPlacedFile g.C.Checksum.sum_of size now (line_at site c.in-Ok-begin.buffer ss)) (sym c.no_segments.ensures)
          (started_own g.C.Checksum.sum_of size c.args.config.config.least zeros (state_of old) now s H A f ready c.in-Ok-begin.ensures.answers.0 (ap (λ (l : LogState). l.bytes) log_now) behind (view_at site c.in-Ok-begin.buffer)
          (ap (λ (x : Beginning). record { place = x.place; slot = x.slot }) c.in-Ok-begin.ensures.beginning) (first.from ∙ offset) first.sealed)));
      account = start_account g.C.Checksum.sum_of size some (state_of old) s H A f ready c.in-Ok-begin.ensures.answers.0 marks at.0 same now.snapshots.file names c.in-Ok-begin.ensures.machine;
      numbers = λ zeros. numbers_from g.C.Checksum.sum_of c.begin.new.config.config.segment_size now (machine_of c.in-Ok-begin.accountant)
          (line_end c.begin.new.config.config.segment_size (line_at site c.in-Ok-begin.buffer c.no_segments.result.items)) 0
          (begins_from c.begin.new.config.config.segment_size marks.joined) (omega arith)
          (subst (λ (ss : List SegmentBuffer). HasNumbers g.C.Checksum.sum_of c.begin.new.config.config.segment_size 0 now (machine_of c.in-Ok-begin.accountant)
          (line_end c.begin.new.config.config.segment_size (line_at site c.in-Ok-begin.buffer ss))) (sym c.no_segments.ensures)
          (start_numbers g.C.Checksum.sum_of size c.args.config.config.least zeros old (g.D.Device.trace c.begin.new.config.device) s H A f ready c.in-Ok-begin.ensures.answers.0 c.begin.ensures.calls
          log_now same c.in-Ok-begin.ensures.machine (view_at site c.in-Ok-begin.buffer) (ap (λ (x : Beginning). record { place = x.place; slot = x.slot }) c.in-Ok-begin.ensures.beginning)));
      in_slots = start_in_slots g.C.Checksum.sum_of size some (state_of old) s H A f ready c.in-Ok-begin.ensures.answers.0 marks at.0 same now.snapshots.file names c.in-Ok-begin.ensures.machine _
          (λ newest begins zeros. newest_stable g.C.Checksum.sum_of c.begin.new.config.config.segment_size marks now None refl (line_at site c.in-Ok-begin.buffer c.no_segments.result.items) (c.in-Ok-begin.beginning.place + c.in-Ok-begin.beginning.offset) 0 H A f [] parts zeros newest begins);
    })

-- damage comes only where a log can't begin
not_damaged : (e : Error) (startable in_reach unwritten : Type 0) (before after : ℕ) → StartRefuses e startable in_reach unwritten before after → IsCorrupt e → startable → ⊥
not_damaged (Corruption at) startable in_reach unwritten before after refuses damaged can = refuses.1 can
not_damaged _ startable in_reach unwritten before after refuses damaged can = absurd damaged

pub returns-in-Err-clause-starts : goal.returns-in-Err-clause-starts
unfolding Ready
returns-in-Err-clause-starts g c = λ H A f ready damaged.
    not_damaged c.in-Err.e _ _ _ _ _ c.in-Err.ensures.answers damaged (ready_starts g.C.Checksum.sum_of c.args.config.config.segment_size (state_of (g.D.Device.trace c.args.config.device)) (model_of c.args.snapshot.now) H A f c.args.config.config.least c.args.config.config.most ready)

-- Nothing is reserved in it yet.
pub returns-in-Ok-begin-clause-begins : goal.returns-in-Ok-begin-clause-begins
returns-in-Ok-begin-clause-begins g c =
    let size : ℕ = c.args.config.config.segment_size in
    let same : c.begin.new.config.config.segment_size ≡ size = ap (λ (x : Config). x.segment_size) c.begin.ensures.config in
    let len : ℕ = length (state_of (g.D.Device.trace c.args.config.device)).log.bytes in
    let s : SnapshotModel = model_of c.args.snapshot.now in
    let long = first_next size len s c.in-Ok-begin.beginning c.in-Ok-begin.ensures.beginning c.in-Ok-begin.ensures.answers.0 c.in-Ok-begin.ensures.answers.1 g.C.Checksum.sum_of c.in-Ok-begin.buffer c.in-Ok-begin.ensures.buffer in
    let place = ap (λ (x : Beginning). x.place) c.in-Ok-begin.ensures.beginning ∙ begins_place size (slots_of size len) (stable_place s.stable) (unused size (slots_of size len) s) s.active in
    let first = c.in-Ok-begin.ensures.buffer in
    let here : SegmentPosition = record { place = c.in-Ok-begin.beginning.place; slot = c.in-Ok-begin.beginning.slot } in
    let site : here ≡ site_from size len s = ap (λ (x : Beginning). record { place = x.place; slot = x.slot }) c.in-Ok-begin.ensures.beginning in
    let offset : c.in-Ok-begin.beginning.offset ≡ offset_at size (stable_place s.stable) s.active = ap (λ (x : Beginning). x.offset) c.in-Ok-begin.ensures.beginning ∙ begins_offset size (slots_of size len) (stable_place s.stable) (unused size (slots_of size len) s) s.active in
    let current : last_of (view_at here c.in-Ok-begin.buffer) (map segment_view c.no_segments.result.items) ≡ view_at here c.in-Ok-begin.buffer = ap (λ (ss : List SegmentBuffer). last_of (view_at here c.in-Ok-begin.buffer) (map segment_view ss)) c.no_segments.ensures in
    let at : begin_of (view_at here c.in-Ok-begin.buffer) ≡ offset_at size (stable_place s.stable) s.active = ap (λ (bs : List Sealed). sealed_end c.in-Ok-begin.buffer.written_len bs) first.sealed ∙ first.from ∙ offset in
    record {
      synced = ap (λ n. n + c.in-Ok-begin.buffer.written_len) place ∙ ap (λ n. place_at size (stable_place s.stable) s.active + n) (first.from ∙ offset);
      position = ap (λ (v : SegmentView). position_in c.begin.new.config.config.segment_size v (machine_of c.in-Ok-begin.accountant)) current
          ∙ (λ i. position_by (same i) (site i) (long i) (c.in-Ok-begin.ensures.machine i));
      reserved = ap (λ n. c.in-Ok-begin.beginning.place + n) (sym first.from);
      start = ap start_in current ∙ (λ i. record { place = (site i).place + at i; lid = (site i).slot + at i });
      given_up = subst (λ (ss : List SegmentBuffer). given_up_along (line_at here c.in-Ok-begin.buffer ss) ≡ []) (sym c.no_segments.ensures)
          (ap (λ (rs : List Reserved). given_up_in here c.in-Ok-begin.buffer.bytes.items rs ++ []) first.reserved);
      ended = subst (λ (ss : List SegmentBuffer). NoneOpenIn (line_at here c.in-Ok-begin.buffer ss)) (sym c.no_segments.ensures) (none_open_one (view_at here c.in-Ok-begin.buffer) (ap none_open first.reserved));
      unsealed = subst (λ (ss : List SegmentBuffer). unwritten (line_at here c.in-Ok-begin.buffer ss) ≡ []) (sym c.no_segments.ensures)
          (ap (λ (bs : List Sealed). unwritten_in here c.in-Ok-begin.buffer.bytes.items c.in-Ok-begin.buffer.written_len bs c.in-Ok-begin.buffer.reserved.items ++ []) first.sealed);
      noted = ap (λ (bs : List NotedBatch). not_whole (c.in-Ok-begin.beginning.place + c.in-Ok-begin.buffer.written_len) (map batch_of bs)) c.new-in-Ok-begin.ensures.noted;
      kept = ap (λ (bs : List NotedBatch). length bs) c.new-in-Ok-begin.ensures.noted;
      pins = refl;
      machine = c.in-Ok-begin.ensures.machine;
      account = (let place : to_z w64 c.stable_place.result ≡ pos (stable_place s.stable) = to_z_pos w64 c.stable_place.result c.stable_place.ensures.small ∙ ap pos c.stable_place.ensures.place in λ i. record { mark = (c.from_place.ensures.joined ∙ place) i; durable = (c.from_place.ensures.durable ∙ place) i; pinned = false });
      fault = refl;
      pooled = c.in-Ok.ensures.none;
      sized = ap (λ (x : Config). x.segment_size) c.begin.ensures.config;
    }

-- Where nothing of the segment is on the device, its header is that of its place, and what is stable ends before it.
marked_at : (sum : List ℕ → ℕ) (place offset slot : ℕ) (b : IoBuf) (ss : List SegmentBuffer) (noted : List NotedBatch) → IsFirstBuffer sum place offset b → ss ≡ [] → noted ≡ []
    → let v : SegmentView = last_of (view_at (record { place = place; slot = slot }) b) (map segment_view ss) in
    place + b.written_len ≡ v.parts.site.place → v.parts.bytes ≡ short_header sum (pos v.parts.site.place) (pos (stable_below (place + b.written_len) (not_whole (place + b.written_len) (map batch_of noted))) -ℤ pos 1)
marked_at sum place offset slot b (s ∷ ss) noted first none empty at = cc
marked_at sum place offset slot b [] (n ∷ ns) first none empty at = cc
marked_at sum place offset slot b [] [] first none empty at =
    let from = first.from in
    first.header (omega (arith, at, from)) ∙ sym (ap (λ n. short_header sum (pos place) (pos n -ℤ pos 1)) at)

-- That is the only header that isn't on the device, and the current buffer begins with it.
heads_at : (sum : List ℕ → ℕ) (place offset slot : ℕ) (b : IoBuf) (ss : List SegmentBuffer) (noted : List NotedBatch) → IsFirstBuffer sum place offset b → ss ≡ [] → noted ≡ []
    → let v : SegmentView = last_of (view_at (record { place = place; slot = slot }) b) (map segment_view ss) in
    (h : HeadAt) → Contains (heads_along (line_at (record { place = place; slot = slot }) b ss)) h → IsMarkedHead sum (v.parts.site.place + begin_of v) (stable_below (place + b.written_len) (not_whole (place + b.written_len) (map batch_of noted))) h
heads_at sum place offset slot b (s ∷ ss) noted first none empty h there = cc
heads_at sum place offset slot b [] (n ∷ ns) first none empty h there = cc
heads_at sum place offset slot b [] [] first none empty h there = by (b.written_len == 0) refl there where
  v : SegmentView
  v = view_at (record { place = place; slot = slot }) b

  begins : (o : Bool) → b.written_len ≡ 0 → begin_of v ≡ 0
  begins o at = ap (λ (bs : List Sealed). sealed_end b.written_len bs) first.sealed ∙ at

  by : (o : Bool) → (b.written_len == 0) ≡ o → Contains ((if o then head_of v ∷ [] else []) ++ []) h → IsMarkedHead sum (place + begin_of v) (place + b.written_len) h
  by false is has = absurd (in_nothing h has)
  by true is has =
      let at : b.written_len ≡ 0 = grind (arith, nat_tests, is) in
      let from = first.from in
      let begin = begins true at in
      let own : head_of v ≡ h = only_in (head_of v) h has in
      let here : place ≡ place + begin_of v = omega (arith, begin) in
      let stable : place ≡ place + b.written_len = omega (arith, at) in (
        sym (ap (λ (x : HeadAt). x.place) own) ∙ here,
        sym (ap (λ (x : HeadAt). x.bytes) own) ∙ ap (take 20) (first.header (omega (arith, at, from))) ∙ take_all 20 (short_header sum (pos place) (pos place -ℤ pos 1)) (omega (arith, length-short_header sum (pos place) (pos place -ℤ pos 1)))
            ∙ (λ i. short_header sum (pos (here i)) (pos (stable i) -ℤ pos 1)),
      )

-- Nothing fills it: it has no reservations.
none_fills : (site : SegmentPosition) (b : IoBuf) (ss : List SegmentBuffer) → b.reserved.items ≡ [] → ss ≡ [] → fillings_along (line_at site b ss) ≡ []
none_fills site b (s ∷ ss) none empty = cc
none_fills site b [] none empty = ap (λ (rs : List Reserved). fillings_in site rs ++ []) none

pub returns-in-Ok-begin-clause-marked : goal.returns-in-Ok-begin-clause-marked
returns-in-Ok-begin-clause-marked g c = record {
  header = marked_at g.C.Checksum.sum_of c.in-Ok-begin.beginning.place c.in-Ok-begin.beginning.offset c.in-Ok-begin.beginning.slot c.in-Ok-begin.buffer c.no_segments.result.items c.new-in-Ok-begin.result.noted.items c.in-Ok-begin.ensures.buffer c.no_segments.ensures c.new-in-Ok-begin.ensures.noted;
  heads = heads_at g.C.Checksum.sum_of c.in-Ok-begin.beginning.place c.in-Ok-begin.beginning.offset c.in-Ok-begin.beginning.slot c.in-Ok-begin.buffer c.no_segments.result.items c.new-in-Ok-begin.result.noted.items c.in-Ok-begin.ensures.buffer c.no_segments.ensures c.new-in-Ok-begin.ensures.noted;
  fillings = none_fills (record { place = c.in-Ok-begin.beginning.place; slot = c.in-Ok-begin.beginning.slot }) c.in-Ok-begin.buffer c.no_segments.result.items c.in-Ok-begin.ensures.buffer.reserved c.no_segments.ensures;
}

pub returns-in-Ok-begin-clause-config : goal.returns-in-Ok-begin-clause-config
returns-in-Ok-begin-clause-config g c = record { config = c.begin.ensures.config; checksum = c.begin.ensures.checksum }

pub returns-in-Err-clause-config : goal.returns-in-Err-clause-config
returns-in-Err-clause-config g c = record { config = c.begin.ensures.config; checksum = c.begin.ensures.checksum }

pub returns-in-Ok-begin-clause-later : goal.returns-in-Ok-begin-clause-later
returns-in-Ok-begin-clause-later g c = later_performed _ _ _ c.begin.ensures.calls

pub returns-in-Err-clause-later : goal.returns-in-Err-clause-later
returns-in-Err-clause-later g c = later_performed _ _ _ c.begin.ensures.calls

-- There was no memory for the pool: nothing was done.

pub returns-in_default-clause-crash : goal.returns-in_default-clause-crash
returns-in_default-clause-crash g c = λ H A f ready.
    started_throughout g.C.Checksum.sum_of c.args.config.config.segment_size (model_of c.args.snapshot.now) H A f c.args.config.config.least
    (g.D.Device.trace c.args.config.device) (g.D.Device.trace c.args.config.device) ready (performs_nothing _ _ _ refl)

pub returns-in_default-clause-calls : goal.returns-in_default-clause-calls
returns-in_default-clause-calls g c = performs_nothing _ _ _ refl

pub returns-in_default-clause-later : goal.returns-in_default-clause-later
returns-in_default-clause-later g c = later_performed _ _ _ (returns-in_default-clause-calls g c)
