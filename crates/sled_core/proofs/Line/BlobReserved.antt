-- A log was made ready for a record and then the blob of its message was made, or refused: it is ready still, and what a reservation comes to.
use Rattle.std.proofs.Common.{◌≡◌, ◌∙◌, ◌&&◌, ◌==◌, not, ◌+◌, ◌/◌, ◌≤ℤ◌, [], ap, sym, subst, refl, arith, inr, ℕ, ℤ, pos, Bool, true, false, if◌then◌else◌, List, length, map, Option, None, Some, Ok, Err, vec_capacity}
use Rattle.std.specs.List.{Contains}
use Rattle.std.proofs.lemmas.Bool.Decides.{nat_tests}
use Rattle.std.proofs.lemmas.Int.{ints}
use Rattle.sled_codec.specs.declared.result.DiskPtr.TheVariants.{Blob}
use Rattle.sled_codec.specs.declared.result.Error.{Error}
use Rattle.sled_codec.specs.declared.result.Error.TheVariants as error
use Rattle.sled_codec.specs.declared.serialization.message.LogKind.{LogKind}
use Rattle.sled_codec.specs.declared.serialization.message.MessageKind.{MessageKind}
use Rattle.sled_codec.specs.declared.serialization.message.MessageKind.TheVariants.{BatchManifest}
use Rattle.sled_codec.specs.History.{Message}
use Rattle.sled_codec.specs.Kinds.{code_of, kind_written}
use Rattle.sled_codec.specs.Spelling.{short_header_tail, short_signed}
use Rattle.sled_store.specs.Blobs.{UnlessFault, blob_bytes, making}
use Rattle.sled_store.specs.Device.{Trace, state_of}
use Rattle.sled_store.specs.Script.{Performs, after_all}
use Rattle.sled_store.specs.Accounts.{machine_of}
use Rattle.sled_store.specs.declared.config.Config.{Config}
use Rattle.sled_store.specs.declared.config.RunningConfig.{RunningConfig}
use Rattle.sled_core.specs.Pool.{Pool}
use Rattle.sled_core.specs.declared.iobuf.IoBuf.{IoBuf}
use Rattle.sled_core.specs.declared.iobuf.Purpose.{Purpose}
use Rattle.sled_core.specs.declared.iobuf.record.Head.{Head}
use Rattle.sled_core.specs.declared.logger.Log.{Log}
use Rattle.sled_core.specs.declared.reservation.Reservation.{Reservation}
use Rattle.sled_core.specs.Buffers.{item_as, pointer_as}
use Rattle.sled_core.specs.Begun.{SegmentView, segment_view, begin_of}
use Rattle.sled_core.specs.inside.Begun.{last_buffer_in}
use Rattle.sled_core.specs.Causes.{HasRecordPlace, ReserveAnswers}
use Rattle.sled_core.specs.Fits.{AwaitsIn, IsLeastOpen, IsUsedUpFor, KeepsAll, KeepsTickets, current_of, device_of, fault_of, line_of, machine_at, message_as, next_place, position_of, segment_size_of, size_for, target_of}
use Rattle.sled_core.specs.inside.Fits.{written_to}
use Rattle.sled_core.specs.GivenUp.{given_up_along}
use Rattle.sled_core.specs.Keeps.{KeepsSeen, Preserves}
use Rattle.sled_core.specs.Logged.{in_log}
use Rattle.sled_core.specs.Manifests.{is_manifest, kind_for}
use Rattle.sled_core.specs.OpenPlaces.{open_places_along}
use Rattle.sled_core.specs.Positions.{Position, is_short, lid_at, next_segment_at}
use Rattle.sled_core.specs.Prepared.{IsMadeReady}
use Rattle.sled_core.specs.inside.Prepared.{IsPrepared, next_here}
use Rattle.sled_core.specs.Reserves.{MadeAnswers, RefusalLeaves, ReservesAs, TouchesBlob, reserve_causes}
use Rattle.sled_core.specs.Running.{IsStored, KeepsItem}
use Rattle.sled_core.specs.inside.Turned.{ChangesDevice, HasPlace, HasRoomForBatch, HasRoomIn}
use Rattle.sled_core.specs.Waiting.{last_of, start_in, unwritten}
use Rattle.sled_core.proofs.Blobs.ItemsStay.{blobs_made, item_made}
use Rattle.sled_core.proofs.Line.KeptCalls.{kept_further}
use Rattle.sled_core.proofs.Line.HeaderMarks.{marked_same, segment_same}
use Rattle.sled_core.proofs.Line.LineEnds.{noted_same}
use Rattle.sled_core.proofs.Line.LogWrites.{same_line}
use Rattle.sled_core.proofs.Line.Prepares.{seen_further}
use Rattle.sled_core.proofs.Line.ReadySeen.{status_readied}
use Rattle.sled_core.proofs.Line.Reserved.{blob_refused, spares}
use Rattle.sled_core.proofs.Line.AccountBehind.{account_same}

-- A log that is ready for a record has its next place where that would stand.
module _ {D C : Type 0} (trace : D → Trace) (sum : List ℕ → ℕ) (old mid : Log D C) (kept : Purpose) (head : Head) (n : ℕ) (ready : IsPrepared trace sum old mid kept head n) where
  not_short : is_short (segment_size_of mid) (length (current_of mid).parts.bytes) ≡ false
  not_short = let room = ready.fits.header in grind (arith, nat_tests, room)

  pub ready_position : position_of mid ≡ next_here mid
  ready_position = ap (λ (o : Bool). if o then next_segment_at (segment_size_of mid) (current_of mid).parts.site.place (machine_at mid) else next_here mid) not_short

  pub ready_place : next_place mid ≡ (next_here mid).place
  ready_place = ap (λ (q : Position). q.place) ready_position

  pub ready_seen : IsMadeReady sum old mid kept.page n
  ready_seen = record {
    tickets = ready.tickets;
    stands = status_readied sum old kept.page n ready.inline mid ready.tickets ready.seen ready.seals.0 ready.seals.1 ready.machine (ready_position ∙ sym ready.target) ready.reserved;
    pooled = ready.pooled;
    marked = ready.marked;
  }

  -- It is ready still where its device alone is another, or the failure that it keeps.
  module _ (made : Log D C) (rest : ChangesDevice mid made) (keeps : Preserves trace sum mid made) (blob : Option ℤ) where
    line_same : line_of made ≡ line_of mid
    line_same = same_line mid made rest

    current_same : current_of made ≡ current_of mid
    current_same = λ i. last_of (segment_view (rest.segments i).first) (map segment_view (rest.segments i).behind.items)

    size_same : segment_size_of made ≡ segment_size_of mid
    size_same = ap (λ (x : Config). x.segment_size) rest.config

    machine_same : machine_at made ≡ machine_at mid
    machine_same = ap machine_of rest.accountant

    abbrev buffer_same : last_buffer_in made.segments ≡ last_buffer_in mid.segments
    buffer_same = λ i. last_buffer_in (rest.segments i)

    still_tickets : KeepsTickets old made
    still_tickets = record {
      awaits = λ ticket m awaits. subst (λ (l : List SegmentView). AwaitsIn l ticket (in_log m)) (sym line_same) (ready.tickets.awaits ticket m awaits);
      opens = ap open_places_along line_same ∙ ready.tickets.opens;
      given_up = λ m there. ready.tickets.given_up m (subst (λ (l : List SegmentView). Contains (given_up_along l) m) line_same there);
    }

    still_seen : KeepsSeen old made
    still_seen = seen_further old mid made ready.seen (record { synced = ap written_to line_same; noted = noted_same mid made (λ i. (rest.batches i).noted.items) (ap written_to line_same); pins = rest.pins; account = account_same mid made rest.marks rest.pins })

    still_room : HasPlace made (head.len + n)
    still_room =
        let header = ready.fits.header in
        let inside = ready.fits.record_fits in
        let bytes = ap (λ (v : SegmentView). length v.parts.bytes) current_same in
        let sizes = size_same in
        record { header = omega (arith, header, bytes, sizes); record_fits = omega (arith, inside, bytes, sizes) }

    still_batch : is_manifest kept.log_kind kept.page ≡ true → HasRoomForBatch made
    still_batch is =
        let room = (ready.batch is).place in
        let items : length made.batches.noted.items ≡ length mid.batches.noted.items = λ i. length (rest.batches i).noted.items in
        let space : vec_capacity made.batches.noted ≡ vec_capacity mid.batches.noted = λ i. vec_capacity (rest.batches i).noted in
        let counted : made.batches.manifests ≡ mid.batches.manifests = λ i. (rest.batches i).manifests in
        record { place = omega (arith, room, items, space, counted) }

    pub ready_made : IsPrepared trace sum old made (record { log_kind = kept.log_kind; kind = kept.kind; page = kept.page; blob = blob }) head n
    ready_made = record {
      inline = ready.inline;
      keeps = kept_further trace sum old mid made ready.keeps keeps;
      tickets = still_tickets;
      seen = still_seen;
      reserved = rest.reserved ∙ ready.reserved;
      target = ready.target ∙ sym (λ i. record { place = (current_same i).parts.site.place + length (current_same i).parts.bytes; begins = (current_same i).parts.site.place; slot = (current_same i).parts.site.slot; machine = machine_same i });
      tail = ready.tail ∙ sym (λ i. short_header_tail kept.kind n ((current_same i).parts.site.place / size_same i) kept.page);
      long = ready.long;
      fits = still_room;
      room = subst (λ (b : IoBuf). HasRoomIn b (head.len + n)) (sym buffer_same) ready.room;
      batch = still_batch;
      seals = (ap unwritten line_same ∙ ready.seals.0, ap start_in current_same ∙ ready.seals.1);
      machine = machine_same ∙ ready.machine;
      pooled = ap (λ (x : Pool). x.count) rest.pool ∙ ready.pooled;
      marked = marked_same sum old mid made ready.marked (segment_same mid made line_same) (ap (λ (v : SegmentView). v.parts.site.place + begin_of v) current_same);
    }

-- A message that may have a blob has a kind that is written so.
pub blob_kind : (kind : LogKind) (page n : ℕ) (k : MessageKind) → kind_for kind page true n ≡ Some k → kind_written kind page true ≡ Some k
blob_kind kind page n k = by (is_manifest kind page) where
  by : (o : Bool) → (if o then (if not true && n == 8 then Some BatchManifest else None) else kind_written kind page true) ≡ Some k → kind_written kind page true ≡ Some k
  by true is = cc
  by false is = is

-- The blob of a message is made under its place, or refused, once the log is ready for its record.
pub record TriesBlob {D C : Type 0} (trace : D → Trace) (sum : List ℕ → ℕ) (old mid made : Log D C) (kind : LogKind) (page : ℕ) (k : MessageKind) (head : Head) (place : ℤ) : Type 0 where
  pub ready : IsPrepared trace sum old mid (record { log_kind = kind; kind = k; page = page; blob = None }) head 8
  pub same : KeepsAll old mid
  pub known : kind_for kind page true 8 ≡ Some k
  pub none : fault_of old ≡ None
  pub changes : ChangesDevice mid made
  pub keeps : Preserves trace sum mid made
  pub at : place ≡ pos (next_here mid).place

-- What comes of it.
module _ {D C : Type 0} {trace : D → Trace} {sum : List ℕ → ℕ} {old mid made : Log D C} {kind : LogKind} {page : ℕ} {k : MessageKind} {head : Head} {place : ℤ} (tries : TriesBlob trace sum old mid made kind page k head place) (faults : D → ℕ) (item : List ℕ) where
  abbrev text : List ℕ
  text = blob_bytes sum (code_of k) item

  abbrev target : ℤ
  target = pos (target_of old page 8).place

  pub place_is : place ≡ target
  place_is = tries.at ∙ ap (λ (q : Position). pos q.place) (sym tries.ready.target)

  trace_old : trace (device_of mid) ≡ trace (device_of old)
  trace_old = ap (λ (x : RunningConfig D C). trace x.device) tries.same.config

  count_old : faults (device_of mid) ≡ faults (device_of old)
  count_old = ap (λ (x : RunningConfig D C). faults x.device) tries.same.config

  pub ready_behind : (blob : Option ℤ) → IsPrepared trace sum old made (record { log_kind = kind; kind = k; page = page; blob = blob }) head 8
  ready_behind = ready_made trace sum old mid (record { log_kind = kind; kind = k; page = page; blob = None }) head 8 tries.ready made tries.changes tries.keeps

  one_kind : (m : MessageKind) → kind_for kind page true 8 ≡ Some m → k ≡ m
  one_kind m is = let both : Some k ≡ Some m = sym tries.known ∙ is in cc

  -- what the blob's calls came to, by the log before it was made ready
  calls_old : Performs (making place text) (trace (device_of mid)) (trace (device_of made)) → (m : MessageKind) → kind_for kind page true 8 ≡ Some m → Performs (making target (blob_bytes sum (code_of m) item)) (trace (device_of old)) (trace (device_of made))
  calls_old came m is =
      subst (λ (x : MessageKind). Performs (making target (blob_bytes sum (code_of x) item)) (trace (device_of old)) (trace (device_of made))) (one_kind m is)
      (subst (λ (p : ℤ). Performs (making p text) (trace (device_of old)) (trace (device_of made))) place_is (subst (λ (t : Trace). Performs (making place text) t (trace (device_of made))) trace_old came))

  done_old : trace (device_of made) ≡ after_all (making place text) (trace (device_of mid)) → (m : MessageKind) → kind_for kind page true 8 ≡ Some m → trace (device_of made) ≡ after_all (making target (blob_bytes sum (code_of m) item)) (trace (device_of old))
  done_old did m is = did ∙ (λ i. after_all (making (place_is i) (blob_bytes sum (code_of (one_kind m is i)) item)) (trace_old i))

  -- It was refused.
  pub refused_blob : (e : Error) → HasRecordPlace (IsUsedUpFor old page 8) (reserve_causes trace faults kind page true 8 old made) → Performs (making place text) (trace (device_of mid)) (trace (device_of made)) → UnlessFault {T = Unit {0}} (Err e) (trace (device_of mid)) (trace (device_of made))
      → MadeAnswers {T = Unit {0}} (Err e) ((state_of (trace (device_of mid))).blobs.file place) (fault_of made) (faults (device_of mid)) (faults (device_of made)) → ReservesAs trace faults sum (Err e) kind page item true 8 old made
  refused_blob e room came refused answers = record {
    ticket = tt;
    stored = tt;
    manifest = tt;
    own = tt;
    behind = tt;
    others = (ready_behind None).tickets.awaits;
    answers = blob_refused (reserve_causes trace faults kind page true 8 old made) (IsUsedUpFor old page 8) (IsLeastOpen old) e refl room tries.none answers_old;
    device = record { calls = calls_old came; done = λ m is. tt; refused = spares (Unit {0}) Reservation e _ _ (subst (λ (t : Trace). UnlessFault {T = Unit {0}} (Err e) t (trace (device_of made))) trace_old refused) };
    keeps = (ready_behind None).keeps;
    seen = (ready_behind None).seen;
    left = left_ready e answers;
  } where
    answers_old : MadeAnswers {T = Unit {0}} (Err e) ((state_of (trace (device_of old))).blobs.file target) (fault_of made) (faults (device_of old)) (faults (device_of made))
    answers_old = subst (λ n. MadeAnswers {T = Unit {0}} (Err e) ((state_of (trace (device_of old))).blobs.file target) (fault_of made) n (faults (device_of made))) count_old
        (subst (λ (file : Option (List ℕ)). MadeAnswers {T = Unit {0}} (Err e) file (fault_of made) (faults (device_of mid)) (faults (device_of made))) (λ i. (state_of (trace_old i)).blobs.file (place_is i)) answers)

    seen : IsMadeReady sum old made page 8
    seen = ready_seen trace sum old made (record { log_kind = kind; kind = k; page = page; blob = None }) head 8 (ready_behind None)

    left_ready : (x : Error) → MadeAnswers {T = Unit {0}} (Err x) ((state_of (trace (device_of mid))).blobs.file place) (fault_of made) (faults (device_of mid)) (faults (device_of made)) → RefusalLeaves {T = Reservation} sum (Err x) true old made page 8
    left_ready (error.Io io) is = inr (refl, tries.none, seen)
    left_ready error.OutOfMemory is = inr (refl, seen)
    left_ready error.PlacesUsedUp is = absurd is
    left_ready (error.Held p) is = absurd is
    left_ready (error.Unsupported words) is = absurd is
    left_ready (error.Corruption p) is = absurd is
    left_ready (error.NotReserved p) is = absurd is
    left_ready (error.CollectionNotFound name) is = absurd is
    left_ready (error.ReportableBug words) is = absurd is

  -- It was made, and the record was laid out.
  module _ (new : Log D C) (did : trace (device_of made) ≡ after_all (making place text) (trace (device_of mid))) (same : new.config ≡ made.config) where
    trace_new : trace (device_of new) ≡ trace (device_of made)
    trace_new = ap (λ (x : RunningConfig D C). trace x.device) same

    -- Whatever a crash leaves of the blob, it has the item.
    abbrev m : Message
    m = message_as old kind page true 8 item

    pub its_stored : IsStored trace sum new m
    its_stored = record {
      below = (let here : target ≤ℤ target = omega (arith, ints) in here);
      item = subst (λ (t : Trace). KeepsItem sum (state_of t).blobs m m.pointer) (sym (trace_new ∙ did))
          (subst (λ (p : ℤ). KeepsItem sum (blobs_made (state_of (trace (device_of mid))).blobs place text) m (Blob (lid_at (target_of old page 8)) p)) place_is
          (item_made sum (state_of (trace (device_of mid))).blobs place text m (lid_at (target_of old page 8)) k (blob_kind kind page 8 k tries.known) refl));
    }

    pub its_message : in_log (message_as old kind page true 8 item)
        ≡ record { kind = kind; page = page; place = (target_of old page 8).place; pointer = pointer_as (Some place) (lid_at (target_of old page 8)); size = size_for old page 8; bytes = item_as (Some place) (short_signed place) }
    its_message = λ i. record { kind = kind; page = page; place = (target_of old page 8).place; pointer = Blob (lid_at (target_of old page 8)) (sym place_is i); size = size_for old page 8; bytes = [] }

    pub its_device : Performs (making place text) (trace (device_of mid)) (trace (device_of made)) → (ticket : Reservation) → TouchesBlob trace sum (Ok ticket) true (kind_for kind page true 8) target item old new
    its_device came ticket = record {
      calls = λ x is. subst (λ (t : Trace). Performs (making target (blob_bytes sum (code_of x) item)) (trace (device_of old)) t) (sym trace_new) (calls_old came x is);
      done = λ x is. trace_new ∙ done_old did x is;
      refused = tt;
    }

    pub its_answers : MadeAnswers {T = Unit {0}} (Ok tt) ((state_of (trace (device_of mid))).blobs.file place) (fault_of made) (faults (device_of mid)) (faults (device_of made)) → fault_of new ≡ fault_of made → HasRecordPlace (IsUsedUpFor old page 8) (reserve_causes trace faults kind page true 8 old new) → (ticket : Reservation)
        → ReserveAnswers (Ok ticket) (IsUsedUpFor old page 8) (IsLeastOpen old) (reserve_causes trace faults kind page true 8 old new)
    its_answers made_it kept room ticket =
        let counts = ap (λ (x : RunningConfig D C). faults x.device) same ∙ made_it.2 ∙ count_old in
        ((tries.none, kept ∙ made_it.0, counts), room, λ goes. sym (λ i. (state_of (trace_old i)).blobs.file (place_is i)) ∙ made_it.1)
