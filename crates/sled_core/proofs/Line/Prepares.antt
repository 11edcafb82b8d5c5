-- A log is made ready for a record: that has a place in its current segment, or a further one is begun; and what a reservation makes of it then.
use Rattle.std.proofs.Common.{◌∷◌, [], ◌≡◌, ◌∙◌, ◌<◌, ◌≤◌, ◌+◌, ◌-◌, ◌*◌, ◌/◌, ◌^◌, ◌-ℤ◌, inl, inr, ap, sym, refl, arith, subst, ℕ, pos, Bool, true, false, if◌then◌else◌, List, ◌++◌, length, map, drop, Some, is_some}
use Rattle.std.proofs.lemmas.Bool.{cases_lt}
use Rattle.std.proofs.lemmas.Bool.Decides.{nat_tests}
use Rattle.sled_codec.proofs.Segments.{length-short_header}
use Rattle.sled_core.specs.Pool.{Pool}
use Rattle.sled_core.specs.Fillings.{fillings_along}
use Rattle.sled_core.specs.Heads.{heads_along}
use Rattle.sled_core.specs.Manifests.{is_manifest, kind_for}
use Rattle.sled_core.specs.Tickets.{is_manifest_of}
use Rattle.sled_codec.specs.Spelling.{short_header_tail}
use Rattle.sled_codec.specs.History.{Message}
use Rattle.sled_store.specs.Accounts.{machine_of}
use Rattle.sled_store.specs.Device.{Trace}
use Rattle.sled_store.specs.SegmentStates.{handed_out, next_slot}
use Rattle.sled_store.specs.declared.config.Config.{Config}
use Rattle.sled_store.specs.declared.config.RunningConfig.{RunningConfig}
use Rattle.sled_core.specs.Begun.{SegmentView, segment_view}
use Rattle.sled_core.specs.inside.Begun.{last_buffer_in}
use Rattle.sled_core.specs.Buffers.{message_in, record_size, pointer_as, item_as}
use Rattle.sled_core.specs.inside.Buffers.{placeholder_head, reserved_for, SpellsBlob}
use Rattle.sled_core.specs.declared.iobuf.Purpose.{Purpose}
use Rattle.sled_core.specs.declared.iobuf.Reserved.{Reserved}
use Rattle.sled_core.specs.declared.iobuf.record.Head.{Head}
use Rattle.sled_core.specs.declared.logger.Log.{Log}
use Rattle.sled_core.specs.declared.reservation.Reservation.{Reservation}
use Rattle.sled_core.specs.Fits.{Awaits, AwaitsIn, FitsInline, open_places, IsUnchanged, IsUsedUpFor, KeepsAll, NoFurther, current_of, given_up_of, is_moved, line_of, machine_at, pooled_of, open_for, open_of, position_behind, position_of, reserved_end, segment_size_of, stable_end, size_for, start_behind, start_of, target_of, waiting_behind, waiting_of, fillings_of, heads_of}
use Rattle.sled_core.specs.Among.{AreAmong}
use Rattle.sled_core.specs.Keeps.{KeepsSeen, Preserves}
use Rattle.sled_core.specs.Logged.{in_log}
use Rattle.sled_core.specs.Positions.{Position, behind_record, lid_at, next_segment_at}
use Rattle.sled_core.specs.Marked.{BeginsMarked}
use Rattle.sled_core.specs.inside.Prepared.{IsPrepared, next_here, number_of, text_of}
use Rattle.sled_core.specs.Reserves.{StandsBehind}
use Rattle.sled_core.specs.inside.Turned.{ChangesLine, ChangesSlots, HasPlace, HasRoomForBatch, HasRoomIn, IsTicketFor, begun_view, next_line, reserved_now}
use Rattle.sled_core.specs.Waiting.{BufferAt, BufferStart, at_last, closed_now, unwritten}
use Rattle.sled_core.proofs.Line.ReadySeen.{status_reserved}
use Rattle.sled_core.proofs.Line.Among.{among_further, among_same}
use Rattle.sled_core.proofs.Line.KeptCalls.{kept_further}
use Rattle.sled_core.proofs.Line.Begins.{begins_current, begins_keeps, begins_marked, begins_same, begins_tickets}
use Rattle.sled_core.proofs.Line.HeaderMarks.{marked_further, none_begun}
use Rattle.sled_core.proofs.Line.LogReserves.{placeholder_fits, record_long, reserves_current, reserves_fillings, reserves_given, reserves_heads, reserves_keeps, reserves_opens, reserves_others, reserves_position, reserves_same, target_here, target_next}
use Rattle.sled_core.proofs.Line.LogSpans.{next_buffers, reserved_buffers, same_buffers}
use Rattle.sled_core.proofs.Line.Reserves.{HasPlaceFor, ticket_reserved}
use Rattle.sled_core.proofs.Line.Targets.{record_short}
use Rattle.sled_core.proofs.Line.Unchanged.{left_alone, unchanged_current, unchanged_keeps, unchanged_same, unchanged_size, unchanged_tickets}
use Rattle.sled_core.proofs.Reserve.ReserveLemmas.{head_whole, message_is, more_long}

-- A caller sees as much of a log behind a call that keeps all of it, and behind two that keep what is seen.

pub seen_all : {D C : Type 0} (old new : Log D C) → KeepsAll old new → KeepsSeen old new
seen_all old new all = record { synced = all.synced; noted = all.noted; pins = all.pins; account = all.account }

pub seen_further : {D C : Type 0} (old mid new : Log D C) → KeepsSeen old mid → KeepsSeen mid new → KeepsSeen old new
seen_further old mid new first second = record { synced = second.synced ∙ first.synced; noted = second.noted ∙ first.noted; pins = second.pins ∙ first.pins; account = second.account ∙ first.account }

-- The header is one of a record with a body of n bytes, in a segment of this number.
pub record IsHeadOf (head : Head) (kept : Purpose) (n number : ℕ) : Type 0 where
  pub bytes : drop 4 (text_of head) ≡ short_header_tail kept.kind n number kept.page
  pub len : head.len ≡ 4 + length (short_header_tail kept.kind n number kept.page)

module _ (head : Head) (kept : Purpose) (n number : ℕ) (is : IsHeadOf head kept n number) where
  -- that record's length by it
  pub head_size : head.len + n ≡ record_size number kept.page n
  head_size = record_long kept.kind head.len n number kept.page n is.len refl

  pub head_long : head.len ≡ length (text_of head)
  head_long = is.len ∙ sym (head_whole (text_of head) kept.kind n number kept.page is.bytes)

-- Where the record stands.

-- Where it has a place in the segment that is being filled it needs no further one,
module _ {D C : Type 0} (log : Log D C) (page n : ℕ) (target : target_of log page n ≡ next_here log) (room : length (current_of log).parts.bytes + 32 ≤ segment_size_of log) where
  pub not_moved : is_moved log page n ≡ false
  not_moved = let at = ap (λ (q : Position). q.place) target in grind (arith, nat_tests, at, room)

-- and else it does.
module _ {D C : Type 0} (log : Log D C) (page n : ℕ) (target : target_of log page n ≡ next_segment_at (segment_size_of log) (current_of log).parts.site.place (machine_at log)) where
  pub moved : is_moved log page n ≡ true
  moved = let at = ap (λ (q : Position). q.place) target in grind (arith, nat_tests, at)

-- It has a place there.
module _ {D C : Type 0} (trace : D → Trace) (sum : List ℕ → ℕ) (old mid : Log D C) (kept : Purpose) (head : Head) (n : ℕ) (is : IsHeadOf head kept n (number_of old)) (has : HasPlace old (head.len + n)) where
  here_target : target_of old kept.page n ≡ next_here old
  here_target =
      let long = head_size head kept n (number_of old) is in
      let inside = has.record_fits in
      target_here (segment_size_of old) (current_of old) (machine_at old) kept.page n has.header (omega (arith, inside, long))

  pub here_stays : is_moved old kept.page n ≡ false
  here_stays = not_moved old kept.page n here_target has.header

  pub here_open : open_for old kept.page n ≡ open_of old
  here_open = ap (λ (o : Bool). if o then 0 else open_of old) here_stays

  pub here_further : IsUsedUpFor old kept.page n → ⊥
  here_further used = let moves = used.0 in let stays = here_stays in let both : true ≡ false = sym moves ∙ stays in cc

  pub prepared_here : FitsInline (segment_size_of old) n → line_of mid ≡ line_of old → ChangesLine old mid → HasRoomIn (last_buffer_in mid.segments) (head.len + n) → (is_manifest kept.log_kind kept.page ≡ true → HasRoomForBatch mid) → IsPrepared trace sum old mid kept head n
  prepared_here inline line rest room batch =
      let same : IsUnchanged old mid = left_alone old mid line rest in
      let current : current_of mid ≡ current_of old = unchanged_current old mid same in
      let sizes : segment_size_of mid ≡ segment_size_of old = unchanged_size old mid same in
      let machine : machine_at mid ≡ machine_at old = same.machine in
      let header = has.header in
      let inside = has.record_fits in
      let bytes = ap (λ (v : SegmentView). length v.parts.bytes) current in
      let stays = here_stays in
      let buffers = same_buffers old mid line in
      let closed : List BufferAt = unwritten (at_last (closed_now sum (segment_size_of old)) (line_of old)) in
      let next : BufferStart = record { place = (current_of old).parts.site.place + segment_size_of old; lid = next_slot (machine_at old) * segment_size_of old } in
      record {
        inline = inline;
        keeps = unchanged_keeps old mid same trace sum;
        tickets = unchanged_tickets old mid same;
        seen = seen_all old mid (unchanged_same old mid same);
        reserved = same.reserved;
        target = here_target ∙ sym (λ i. record { place = (current i).parts.site.place + length (current i).parts.bytes; begins = (current i).parts.site.place; slot = (current i).parts.site.slot; machine = machine i });
        tail = is.bytes ∙ sym (λ i. short_header_tail kept.kind n ((current i).parts.site.place / sizes i) kept.page);
        long = head_long head kept n (number_of old) is;
        fits = record { header = omega (arith, header, bytes, sizes); record_fits = omega (arith, inside, bytes, sizes) };
        room = room;
        batch = batch;
        seals = (buffers.0 ∙ sym (ap (λ (o : Bool). if o then closed else waiting_of old) stays), buffers.1 ∙ sym (ap (λ (o : Bool). if o then next else start_of old) stays));
        machine = machine ∙ sym (ap (λ (o : Bool). if o then (target_of old kept.page n).machine else machine_at old) stays);
        pooled = same.pooled ∙ sym (ap (λ (o : Bool). if o then pooled_of old - 1 else pooled_of old) stays);
        marked = none_begun sum old mid (ap (λ (v : SegmentView). v.parts.site.place) current) (among_same (heads_of mid) (heads_of old) (ap heads_along line)) (among_same (fillings_of mid) (fillings_of old) (ap fillings_along line));
      }

-- It has none, by the header that it would have there.
module _ {D C : Type 0} (trace : D → Trace) (sum : List ℕ → ℕ) (old : Log D C) (kept : Purpose) (n : ℕ) (inline : FitsInline (segment_size_of old) n)
    (len : ℕ) (long : len ≡ record_size (number_of old) kept.page n) (not : HasPlace old len → ⊥) where
  abbrev size : ℕ
  size = segment_size_of old

  abbrev v : SegmentView
  v = current_of old

  big : 256 ≤ size
  big = old.config.config.least

  next_target : target_of old kept.page n ≡ next_segment_at size v.parts.site.place (machine_at old)
  next_target = target_next size v (machine_at old) kept.page n big inline (λ room inside. not (record { header = room; record_fits = omega (arith, inside, long) }))

  -- so that has more than its header.
  pub next_used : 20 < length v.parts.bytes
  next_used = elim (cases_lt 20 (length v.parts.bytes)) [
    | inl more ↦ more
    | inr bare ↦ (let least = big in let short = record_short (number_of old) kept.page n in absurd (not (record { header = omega (arith, bare, least); record_fits = omega (arith, bare, least, long, short, inline) })))
  ]

  pub next_moves : is_moved old kept.page n ≡ true
  next_moves = moved old kept.page n next_target

  pub next_open : open_for old kept.page n ≡ 0
  next_open = ap (λ (o : Bool). if o then 0 else open_of old) next_moves

  pub next_up : NoFurther old → IsUsedUpFor old kept.page n
  next_up none = (next_moves, none)

  pub prepared_next : (mid : Log D C) (head : Head) → IsHeadOf head kept n (number_of mid) → line_of mid ≡ next_line sum size (machine_at old) (stable_end old) (line_of old) → machine_at mid ≡ handed_out (v.parts.site.place + size) (machine_at old) → pooled_of mid ≡ pooled_of old - 1 → ChangesSlots old mid
      → reserved_end mid ≡ reserved_end old → HasRoomIn (last_buffer_in mid.segments) (size - 20) → (is_manifest kept.log_kind kept.page ≡ true → HasRoomForBatch mid) → IsPrepared trace sum old mid kept head n
  prepared_next mid head is line machine pooled rest reserved room batch =
      let current : current_of mid ≡ begun_view sum size (machine_at old) (stable_end old) v = begins_current trace sum old mid line machine rest in
      let header = length-short_header sum (pos (v.parts.site.place + size)) (pos (stable_end old) -ℤ pos 1) in
      let bytes : length (current_of mid).parts.bytes ≡ 20 = ap (λ (w : SegmentView). length w.parts.bytes) current ∙ header in
      let sizes : segment_size_of mid ≡ size = ap (λ (x : RunningConfig D C). x.config.segment_size) rest.config in
      let all = head_size head kept n (number_of mid) is in
      let short = record_short (number_of mid) kept.page n in
      let moves = next_moves in
      let least = big in
      let buffers = next_buffers sum old mid (stable_end old) line in
      let closed : List BufferAt = unwritten (at_last (closed_now sum size) (line_of old)) in
      let next : BufferStart = record { place = v.parts.site.place + size; lid = next_slot (machine_at old) * size } in
      let space = room.bytes in
      record {
        inline = inline;
        keeps = begins_keeps trace sum old mid line machine rest;
        tickets = begins_tickets trace sum old mid line machine rest;
        seen = seen_all old mid (begins_same trace sum old mid line machine rest);
        reserved = reserved;
        target = next_target
            ∙ sym ((λ i. record { place = (current i).parts.site.place + length (current i).parts.bytes; begins = (current i).parts.site.place; slot = (current i).parts.site.slot; machine = machine i })
            ∙ ap (λ k. record { place = v.parts.site.place + size + k; begins = v.parts.site.place + size; slot = next_slot (machine_at old) * size; machine = handed_out (v.parts.site.place + size) (machine_at old) }) header);
        tail = is.bytes;
        long = head_long head kept n (number_of mid) is;
        fits = record { header = omega (arith, bytes, sizes, least); record_fits = omega (arith, bytes, sizes, least, all, short, inline) };
        room = record { bytes = omega (arith, space, least, all, short, inline); reserved = room.reserved; few = room.few };
        batch = batch;
        seals = (buffers.0 ∙ sym (ap (λ (o : Bool). if o then closed else waiting_of old) moves), buffers.1 ∙ sym (ap (λ (o : Bool). if o then next else start_of old) moves));
        machine = machine ∙ sym (ap (λ (o : Bool). if o then (target_of old kept.page n).machine else machine_at old) moves ∙ ap (λ (q : Position). q.machine) next_target);
        pooled = pooled ∙ sym (ap (λ (o : Bool). if o then pooled_of old - 1 else pooled_of old) moves);
        marked = begins_marked trace sum old mid line machine rest next_used;
      }

-- A record with this body was laid out in a log that was made ready for it, and this is its ticket.
pub record IsLaid {D C : Type 0} (trace : D → Trace) (sum : List ℕ → ℕ) (old mid new : Log D C) (kept : Purpose) (head : Head) (body : List ℕ) (ticket : Reservation) : Type 0 where
  pub ready : IsPrepared trace sum old mid kept head (length body)
  pub known : kind_for kept.log_kind kept.page (is_some kept.blob) (length body) ≡ Some kept.kind
  pub spells : SpellsBlob kept.blob body
  pub small : kept.page < 2 ^ 64
  pub line : line_of new ≡ at_last (reserved_now (placeholder_head (text_of head) ++ body) (reserved_for kept (length (current_of mid).parts.bytes) head.len (length body) (sum (body ++ drop 4 (text_of head))))) (line_of mid)
  pub rest : ChangesSlots mid new
  pub accountant : new.accountant ≡ mid.accountant
  pub pool : new.pool ≡ mid.pool
  pub ends : reserved_end new ≡ (current_of mid).parts.site.place + length (current_of mid).parts.bytes + head.len + length body
  pub own : IsTicketFor mid ticket kept.blob (head.len + length body)
  pub manifest : is_manifest_of ticket ≡ is_manifest kept.log_kind kept.page

-- The reservation is made.
module _ {D C : Type 0} {trace : D → Trace} {sum : List ℕ → ℕ} {old mid new : Log D C} {kept : Purpose} {head : Head} {item : List ℕ} {ticket : Reservation} (laid : IsLaid trace sum old mid new kept head item ticket) where
  abbrev ready : IsPrepared trace sum old mid kept head (length item)
  ready = laid.ready

  abbrev text : List ℕ
  text = text_of head

  abbrev w : SegmentView
  w = current_of mid

  abbrev more : List ℕ
  more = placeholder_head text ++ item

  abbrev r : Reserved
  r = reserved_for kept (length w.parts.bytes) (length text) (length item) (sum (item ++ drop 4 text))

  abbrev len : ℕ
  len = length item

  -- as its buffer has it
  line : line_of new ≡ at_last (reserved_now more r) (line_of mid)
  line = laid.line ∙ ap (λ n. at_last (reserved_now more (reserved_for kept (length w.parts.bytes) n len (sum (item ++ drop 4 text)))) (line_of mid)) ready.long

  own : IsTicketFor mid ticket kept.blob r.len
  own = subst (IsTicketFor mid ticket kept.blob) (ap (λ n. n + len) ready.long) laid.own

  fits : HasPlaceFor sum (segment_size_of mid) more r w
  fits = placeholder_fits sum mid text item kept laid.known laid.spells laid.small ready.tail (subst (λ n. HasPlace mid n) (ap (λ n. n + len) ready.long) ready.fits)

  whole : length text ≡ 4 + length (short_header_tail kept.kind len (number_of mid) kept.page)
  whole = head_whole text kept.kind len (number_of mid) kept.page ready.tail

  all_size : length text + len ≡ record_size (number_of mid) kept.page len
  all_size = record_long kept.kind (length text) len (number_of mid) kept.page len whole refl

  size_same : segment_size_of old ≡ segment_size_of mid
  size_same = sym (ap (λ (x : Config). x.segment_size) ready.keeps.goes_on.config.config)

  -- how long it is
  abbrev here_size : ℕ
  here_size = record_size (number_of mid) kept.page len

  size_is : size_for old kept.page len ≡ here_size
  size_is = λ i. record_size ((ready.target i).begins / size_same i) kept.page len

  long : length more ≡ here_size
  long = more_long sum (number_of mid) w.parts.bytes text item kept laid.known laid.spells laid.small ready.tail whole ∙ all_size

  pub made_keeps : Preserves trace sum old new
  made_keeps = kept_further trace sum old mid new ready.keeps (reserves_keeps trace sum mid new more r line laid.rest laid.accountant fits)

  pub made_seen : KeepsSeen old new
  made_seen = seen_further old mid new ready.seen (seen_all mid new (reserves_same trace sum mid new more r line laid.rest laid.accountant fits))

  -- where nothing but the log's segments was changed until then
  pub made_same : KeepsAll old mid → KeepsAll old new
  made_same first =
      let second = reserves_same trace sum mid new more r line laid.rest laid.accountant fits in
      record { config = second.config ∙ first.config; synced = second.synced ∙ first.synced; noted = second.noted ∙ first.noted; kept = omega (arith, first.kept, second.kept); fault = second.fault ∙ first.fault; pins = second.pins ∙ first.pins; account = second.account ∙ first.account }

  pub made_others : (t : Reservation) (m : Message) → Awaits old t m → Awaits new t m
  made_others t m awaits = reserves_others trace sum mid new more r line laid.rest laid.accountant fits t m (ready.tickets.awaits t m awaits)

  made_position : position_of new ≡ position_behind old kept.page len
  made_position =
      reserves_position trace sum mid new more r line laid.rest laid.accountant fits here_size long
      ∙ sym (λ i. behind_record (size_same i) (ready.target i) (size_is i))

  made_end : reserved_end new ≡ (target_of old kept.page len).place + size_for old kept.page len
  made_end =
      let end = laid.ends in
      let head_len = ready.long in
      let at = ap (λ (q : Position). q.place) ready.target in
      let is = size_is in
      let all = all_size in
      omega (arith, end, head_len, at, is, all)

  made_seals : (waiting_of new ≡ waiting_behind sum old kept.page len) × (start_of new ≡ start_behind old kept.page len)
  made_seals = let same = reserved_buffers mid new more r line in (same.0 ∙ ready.seals.0, same.1 ∙ ready.seals.1)

  made_opens : open_places new ≡ open_places old ++ (target_of old kept.page len).place ∷ []
  made_opens =
      let at = sym (ap (λ (q : Position). q.place) ready.target) in
      reserves_opens trace sum mid new more r line laid.rest laid.accountant fits ∙ (λ i. ready.tickets.opens i ++ at i ∷ [])

  made_given : AreAmong (given_up_of new) (given_up_of old)
  made_given = among_further (given_up_of new) (given_up_of mid) (given_up_of old) (reserves_given trace sum mid new more r line laid.rest laid.accountant fits) ready.tickets.given_up

  made_marked : BeginsMarked sum old new
  made_marked =
      let current = reserves_current trace sum mid new more r line laid.rest laid.accountant fits in
      marked_further sum old mid new more ready.marked (ap (λ (v : SegmentView). v.parts.site.place) current) (ap (λ (v : SegmentView). v.parts.bytes) current)
      (ap (λ (s : BufferStart). s.place) (reserved_buffers mid new more r line).1) (reserves_heads trace sum mid new more r line laid.rest laid.accountant fits) (reserves_fillings trace sum mid new more r line laid.rest laid.accountant fits)

  -- It stands behind all that the log had.
  pub made_behind : StandsBehind sum old new kept.page len
  made_behind = record {
    stands = status_reserved sum old kept.page len ready.inline new made_opens made_seen made_seals.0 made_seals.1 (ap machine_of laid.accountant ∙ ready.machine) made_position made_end;
    given_up = made_given;
    pooled = ap (λ (x : Pool). x.count) laid.pool ∙ ready.pooled;
    marked = made_marked;
  }

  -- The ticket is for its message, as the log has it.
  abbrev pub laid_message : Message
  laid_message =
      let q = target_of old kept.page len in
      record { kind = kept.log_kind; page = kept.page; place = q.place; pointer = pointer_as kept.blob (lid_at q); size = size_for old kept.page len; bytes = item_as kept.blob item }

  message_here : laid_message ≡ message_in w.parts.site (w.parts.bytes ++ more) r
  message_here =
      let back : w.parts.site.place + length w.parts.bytes - w.parts.site.place ≡ length w.parts.bytes = omega arith in
      (λ i. record { kind = kept.log_kind; page = kept.page; place = (ready.target i).place; pointer = pointer_as kept.blob (lid_at (ready.target i)); size = size_is i; bytes = item_as kept.blob item })
      ∙ ap (λ k. record { kind = kept.log_kind; page = kept.page; place = w.parts.site.place + length w.parts.bytes; pointer = pointer_as kept.blob (w.parts.site.slot + k); size = here_size; bytes = item_as kept.blob item }) back
      ∙ message_is sum (number_of mid) w.parts.bytes text item kept laid.known laid.spells laid.small ready.tail whole w.parts.site

  pub made_ticket : (m : Message) → in_log m ≡ laid_message → Awaits new ticket m
  made_ticket m is =
      subst (λ (x : Message). AwaitsIn (line_of new) ticket x) (sym (is ∙ message_here))
      (subst (λ (l : List SegmentView). AwaitsIn l ticket (message_in w.parts.site (w.parts.bytes ++ more) r)) (sym line)
      (ticket_reserved sum (segment_size_of mid) more r (segment_view mid.segments.first) (map segment_view mid.segments.behind.items) ticket own.index (record { open_yet = refl; place = own.place; pointer = own.pointer; long = own.long; manifest = laid.manifest })))
