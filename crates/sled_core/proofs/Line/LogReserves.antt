-- A reservation is made in the segment that is being filled: where it is put, and what the log holds and fits then.
use Rattle.std.proofs.Common.{◌≡◌, ◌∙◌, ◌<◌, ◌≤◌, ◌+◌, ◌-◌, ◌/◌, ◌^◌, nat_lt, ap, sym, refl, arith, subst, ℕ, Bool, true, false, if◌then◌else◌, List, [], ◌∷◌, ◌++◌, length, length-append, map, drop, Some, is_some}
use Rattle.std.proofs.lemmas.Bool.Decides.{nat_tests}
use Rattle.sled_core.proofs.Line.FillingsAlong.{fillings_reserved}
use Rattle.sled_core.specs.Fillings.{fillings_along}
use Rattle.sled_core.proofs.Line.Heads.{heads_reserved}
use Rattle.sled_core.specs.Heads.{heads_along}
use Rattle.sled_core.specs.Logged.{logged, in_log}
use Rattle.sled_core.specs.Manifests.{kind_for}
use Rattle.sled_codec.specs.Spelling.{short_header_tail}
use Rattle.sled_codec.specs.History.{Message}
use Rattle.sled_codec.specs.declared.serialization.message.MessageKind.{MessageKind}
use Rattle.sled_store.specs.Foreign.{HeaderWasPlaced, RecordWasPlaced}
use Rattle.sled_store.specs.Accounts.{machine_of}
use Rattle.sled_store.specs.Device.{Trace, state_of}
use Rattle.sled_store.specs.SegmentStates.{Machine}
use Rattle.sled_store.specs.declared.config.RunningConfig.{RunningConfig}
use Rattle.sled_core.specs.Begun.{SegmentView, segment_view}
use Rattle.sled_core.specs.inside.Numbers.{HasNumbers}
use Rattle.sled_core.specs.inside.Buffers.{SpellsBlob, placeholder_head, reserved_for}
use Rattle.sled_core.specs.Buffers.{record_size}
use Rattle.sled_core.specs.declared.iobuf.Purpose.{Purpose}
use Rattle.sled_core.specs.declared.iobuf.Reserved.{Reserved}
use Rattle.sled_core.specs.declared.logger.Log.{Log}
use Rattle.sled_core.specs.declared.reservation.Reservation.{Reservation}
use Rattle.sled_core.specs.inside.Fits.{written_to}
use Rattle.sled_core.specs.Fits.{Awaits, AwaitsIn, FitsInline, open_places, KeepsAll, current_of, device_of, fault_of, given_up_of, line_of, noted_in, machine_at, pins_of, position_of, segment_size_of, synced_end, fillings_of, heads_of}
use Rattle.sled_core.specs.invariants.Fits.{Holds}
use Rattle.sled_core.specs.inside.Begun.{line_end}
use Rattle.sled_core.specs.Among.{AreAmong}
use Rattle.sled_core.specs.GivenUp.{given_up_along}
use Rattle.sled_core.specs.Keeps.{Preserves}
use Rattle.sled_core.specs.OpenPlaces.{open_places_along}
use Rattle.sled_core.specs.Positions.{Position, behind_record, is_short, moved_on, next_segment_at, placed_at, position_in}
use Rattle.sled_core.specs.invariants.Running.{Fits}
use Rattle.sled_core.specs.inside.Shown.{shown_of}
use Rattle.sled_core.specs.inside.Slots.{AreWhole}
use Rattle.sled_core.specs.inside.Turned.{ChangesSlots, HasPlace, reserved_now}
use Rattle.sled_core.specs.Waiting.{at_last, last_of}
use Rattle.sled_core.proofs.Cleared.Calls.{cleared_reserved}
use Rattle.sled_core.proofs.Cleared.Shown.{ShowsSame}
use Rattle.sled_core.proofs.Holds.FitsBatches.{batches_up}
use Rattle.sled_core.proofs.Line.Among.{among_same}
use Rattle.sled_core.proofs.Line.GivenUp.{given_reserved}
use Rattle.sled_core.proofs.Line.KeptCalls.{goes_on_quietly}
use Rattle.sled_core.proofs.Holds.Facts.{current_facts}
use Rattle.sled_core.proofs.Line.Last.{last_changed}
use Rattle.sled_core.proofs.Line.LineEnds.{end_at_last, end_last, first_at_last, kept_same, noted_later, noted_same}
use Rattle.sled_core.proofs.Numbers.HidesAs.{from_as}
use Rattle.sled_core.proofs.Line.Moves.{fits_as, holds_as}
use Rattle.sled_core.proofs.Line.PassedMarks.{passed_up}
use Rattle.sled_core.proofs.Line.OpenPlaces.{places_reserved}
use Rattle.sled_core.proofs.Line.Reserves.{HasPlaceFor, awaits_reserved, line_fits_reserved, line_reserved, slots_reserved}
use Rattle.sled_core.proofs.Line.Segments.{line_segments}
use Rattle.sled_core.proofs.Line.Targets.{record_short}
use Rattle.sled_core.proofs.OwnLog.Calls.{own_reserved}
use Rattle.sled_core.proofs.Reserve.Heads.{length-short_header_tail}
use Rattle.sled_core.proofs.Reserve.ReserveLemmas.{head_whole, more_long, stands}
use Rattle.sled_core.proofs.Sealed.Ended.{ends_up}
use Rattle.sled_core.proofs.Line.AccountBehind.{account_same}
use Rattle.sled_core.specs.LogSegments.{begins_from}

-- Where its record is put.

module _ (size : ℕ) (v : SegmentView) (m : Machine) (page n : ℕ) where
  abbrev place : ℕ
  place = v.parts.site.place

  abbrev len : ℕ
  len = length v.parts.bytes

  abbrev here : Position
  here = record { place = place + len; begins = place; slot = v.parts.site.slot; machine = m }

  abbrev next : Position
  next = next_segment_at size place m

  abbrev is_far : Position → Bool
  is_far q = nat_lt size (q.place - q.begins + record_size (q.begins / size) page n)

  abbrev placed_if : Position → Bool → Position
  placed_if q far = if far then moved_on size q else q

  -- behind all bytes of the segment, where it has room there,
  pub target_here : len + 32 ≤ size → len + record_size (place / size) page n ≤ size → placed_at size (position_in size v m) page n ≡ here
  target_here room fits =
      let short : is_short size len ≡ false = grind (arith, nat_tests, room) in
      let near : is_far here ≡ false = grind (arith, nat_tests, fits) in
      ap (λ (o : Bool). placed_at size (if o then next else here) page n) short ∙ ap (placed_if here) near

  -- and else behind the header of the next one
  pub target_next : 256 ≤ size → FitsInline size n → (len + 32 ≤ size → len + record_size (place / size) page n ≤ size → ⊥) → placed_at size (position_in size v m) page n ≡ next
  target_next big inline not = by (is_short size len) refl where
    by : (o : Bool) → is_short size len ≡ o → placed_at size (if o then next else here) page n ≡ next
    by true is =
        let long = record_short ((place + size) / size) page n in
        let near : is_far next ≡ false = grind (arith, nat_tests, long, inline, big) in
        ap (placed_if next) near
    by false is = inner (is_far here) refl where
      inner : (far : Bool) → is_far here ≡ far → placed_if here far ≡ next
      inner true far = refl
      inner false far = absurd (not (grind (arith, nat_tests, is)) (grind (arith, nat_tests, far)))

-- where the next record may begin behind one that is put there
pub behind_here : (size : ℕ) (v : SegmentView) (m : Machine) (more : List ℕ) (r : Reserved) (n : ℕ) → length more ≡ n
    → position_in size (reserved_now more r v) m ≡ behind_record size (record { place = v.parts.site.place + length v.parts.bytes; begins = v.parts.site.place; slot = v.parts.site.slot; machine = m }) n
behind_here size v m more r n long =
    let all : length (v.parts.bytes ++ more) ≡ v.parts.site.place + length v.parts.bytes - v.parts.site.place + n = omega (arith, long, length-append v.parts.bytes more) in
    let end : v.parts.site.place + length (v.parts.bytes ++ more) ≡ v.parts.site.place + length v.parts.bytes + n = omega (arith, long, length-append v.parts.bytes more) in
    λ i. if is_short size (all i) then next_segment_at size v.parts.site.place m else record { place = end i; begins = v.parts.site.place; slot = v.parts.site.slot; machine = m }

-- how long a record is, by its header and its item
pub record_long : (kind : MessageKind) (head_len item_len number page n : ℕ) → head_len ≡ 4 + length (short_header_tail kind item_len number page) → item_len ≡ n → head_len + item_len ≡ record_size number page n
record_long kind head_len item_len number page n head is =
    let tail = length-short_header_tail kind n number page in
    omega (arith, head ∙ ap (λ k. 4 + length (short_header_tail kind k number page)) is, is, tail)

-- What is laid out for it has a place in the segment.
module _ {D C : Type 0} (sum : List ℕ → ℕ) (log : Log D C) (head item : List ℕ) (kept : Purpose) (known : kind_for kept.log_kind kept.page (is_some kept.blob) (length item) ≡ Some kept.kind) (spells : SpellsBlob kept.blob item) (small : kept.page < 2 ^ 64)
    (tail : drop 4 head ≡ short_header_tail kept.kind (length item) ((current_of log).parts.site.place / segment_size_of log) kept.page) (fits : HasPlace log (length head + length item)) where
  abbrev number : ℕ
  number = (current_of log).parts.site.place / segment_size_of log

  abbrev bytes : List ℕ
  bytes = (current_of log).parts.bytes

  whole : length head ≡ 4 + length (short_header_tail kept.kind (length item) number kept.page)
  whole = head_whole head kept.kind (length item) number kept.page tail

  pub placeholder_fits : HasPlaceFor sum (segment_size_of log) (placeholder_head head ++ item) (reserved_for kept (length bytes) (length head) (length item) (sum (item ++ drop 4 head))) (current_of log)
  placeholder_fits =
      let f = current_facts log in
      let up = ends_up (current_of log).parts.written_len (current_of log).parts.reserved (current_of log).parts.sealed f.are in
      let begins = f.begins in
      let long = more_long sum number bytes head item kept known spells small tail whole in
      let inside = fits.record_fits in
      record {
        begun = f.begun;
        written = omega (arith, up, begins);
        begins = begins;
        are = f.are;
        within = f.within;
        headed = f.headed;
        at = refl;
        long = sym long;
        some = omega (arith, long, whole);
        open_yet = refl;
        room = fits.header;
        text = stands sum number bytes head item kept known spells small tail whole;
        inside = omega (arith, inside, long, length-append bytes (placeholder_head head ++ item));
      }

-- A log that has made it.
module _ {D C : Type 0} (trace : D → Trace) (sum : List ℕ → ℕ) (old new : Log D C) (more : List ℕ) (r : Reserved) (line : line_of new ≡ at_last (reserved_now more r) (line_of old)) (rest : ChangesSlots old new) (accountant : new.accountant ≡ old.accountant)
    (fits : HasPlaceFor sum (segment_size_of old) more r (current_of old)) where
  abbrev its_size : ℕ
  its_size = segment_size_of old

  abbrev v : SegmentView
  v = segment_view old.segments.first

  abbrev vs : List SegmentView
  vs = map segment_view old.segments.behind.items

  machine : machine_at new ≡ machine_at old
  machine = ap machine_of accountant

  kept_written : (v : SegmentView) (vs : List SegmentView) → written_to (at_last (reserved_now more r) (v ∷ vs)) ≡ written_to (v ∷ vs)
  kept_written v [] = refl
  kept_written v (w ∷ ws) = refl

  -- As much is written,
  pub reserves_synced : synced_end new ≡ synced_end old
  reserves_synced = ap written_to line ∙ kept_written v vs

  kept_noted : noted_in new ≡ noted_in old
  kept_noted = noted_same old new rest.noted reserves_synced

  pub reserves_same : KeepsAll old new
  reserves_same = record { config = rest.config; synced = reserves_synced; noted = kept_noted; kept = kept_same old new rest.noted; fault = rest.fault; pins = rest.pins; account = account_same old new rest.marks rest.pins }

  pub reserves_current : current_of new ≡ reserved_now more r (current_of old)
  reserves_current = ap (last_of v) line ∙ last_changed (reserved_now more r) v v vs

  -- the next record begins behind it,
  pub reserves_position : (n : ℕ) → length more ≡ n
      → position_of new ≡ behind_record its_size (record { place = (current_of old).parts.site.place + length (current_of old).parts.bytes; begins = (current_of old).parts.site.place; slot = (current_of old).parts.site.slot; machine = machine_at old }) n
  reserves_position n long =
      let sizes : segment_size_of new ≡ its_size = ap (λ (x : RunningConfig D C). x.config.segment_size) rest.config in
      (λ i. position_in (sizes i) (reserves_current i) (machine i)) ∙ behind_here its_size (current_of old) (machine_at old) more r n long

  -- tickets are for what they were for,
  pub reserves_others : (ticket : Reservation) (m : Message) → Awaits old ticket m → Awaits new ticket m
  reserves_others ticket m awaits = subst (λ (l : List SegmentView). AwaitsIn l ticket (in_log m)) (sym line) (awaits_reserved sum its_size more r v vs fits ticket (in_log m) awaits)

  -- the new reservation is open behind those that were,
  pub reserves_opens : open_places new ≡ open_places old ++ ((current_of old).parts.site.place + r.from) ∷ []
  reserves_opens = ap open_places_along line ∙ places_reserved more r v vs fits.open_yet

  -- no message was given up,
  pub reserves_given : AreAmong (given_up_of new) (given_up_of old)
  reserves_given = among_same (given_up_of new) (given_up_of old)
      (ap given_up_along line ∙ given_reserved more r its_size old.segments.first.site.place v vs (line_segments old) fits.open_yet)

  -- no header is another that isn't on the device,
  pub reserves_heads : AreAmong (heads_of new) (heads_of old)
  reserves_heads = among_same (heads_of new) (heads_of old) (ap heads_along line ∙ heads_reserved more r its_size old.segments.first.site.place v vs (line_segments old))

  -- nothing else fills a segment,
  pub reserves_fillings : AreAmong (fillings_of new) (fillings_of old)
  reserves_fillings = among_same (fillings_of new) (fillings_of old) (ap fillings_along line ∙ fillings_reserved more r v vs fits.open_yet)

  -- the same counts for nothing in the log file,
  same_shown : ShowsSame its_size (machine_at old) (machine_at old) (line_of old) (at_last (reserved_now more r) (line_of old))
  same_shown log = cleared_reserved its_size (machine_at old) log more r (line_of old)

  -- and the log holds and fits what it did.
  pub reserves_keeps : Preserves trace sum old new
  unfolding Holds Fits
  reserves_keeps = record {
    goes_on = goes_on_quietly trace sum old new (record { config = ap (λ (x : RunningConfig D C). x.config) rest.config; checksum = ap (λ (x : RunningConfig D C). x.checksum) rest.config })
        (ap (λ (x : RunningConfig D C). trace x.device) rest.config) (let same = reserves_synced in omega (arith, same)) (λ none. sym rest.fault ∙ none);
    history = λ H holds. holds_as trace sum old new rest.config rest.fault rest.marks (noted_in old) kept_noted (at_last (reserved_now more r) (line_of old))
        line (machine_at old) machine same_shown holds.rests H
        (record {
          holds = line_reserved sum its_size more r (shown_of trace old) (fault_of old) _ (logged H) v vs fits holds.shows.holds;
          batches = batches_up (written_to (line_of old)) (written_to (at_last (reserved_now more r) (line_of old))) (line_end its_size (line_of old)) (line_end its_size (at_last (reserved_now more r) (line_of old))) (noted_in old) (logged H) (let same = kept_written v vs in omega (arith, same))
              (let same = end_last its_size (reserved_now more r) (λ _. refl) v vs in omega (arith, same)) holds.shows.batches;
          slots = slots_reserved sum its_size more r (line_of old) (shown_of trace old).log.bytes (fault_of old) (machine_at old) holds.shows.slots;
        });
    fits = λ H A f U its. fits_as trace sum old new rest.config rest.fault rest.marks (noted_in old) kept_noted (at_last (reserved_now more r) (line_of old))
        line (machine_at old) machine same_shown its.rests H A f U rest.pins
        (λ none zeros. from_as sum its_size (state_of (trace (device_of old))) (machine_at old) (machine_at old)
        (line_of old) (at_last (reserved_now more r) (line_of old)) (logged H) (λ k. refl) (λ k. refl)
        (same_shown (state_of (trace (device_of old))).log.bytes)
        (omega (arith, end_at_last its_size (reserved_now more r) (λ _. refl) (line_of old))) (its.hides none zeros)) its.marked
        (λ none. passed_up (written_to (line_of old)) (written_to (at_last (reserved_now more r) (line_of old)))
        (let same = kept_written v vs in omega (arith, same)) H.batches sum (state_of (trace (device_of old))).snapshots.file old.marks (its.passed none)) its.clean
        (record {
          reach = its.shows.reach;
          parts = line_fits_reserved sum its_size more r (shown_of trace old) (fault_of old) _ its.shows.reach (pins_of old) H A f U v vs fits its.shows.parts;
          batches = batches_up (written_to (line_of old)) (written_to (at_last (reserved_now more r) (line_of old))) (line_end its_size (line_of old)) (line_end its_size (at_last (reserved_now more r) (line_of old))) (noted_in old) (logged H) (let same = kept_written v vs in omega (arith, same))
              (let same = end_last its_size (reserved_now more r) (λ _. refl) v vs in omega (arith, same)) its.shows.batches;
          slots = slots_reserved sum its_size more r (line_of old) (shown_of trace old).log.bytes (fault_of old) (machine_at old) its.shows.slots;
          whole = λ none zeros. subst (λ p. AreWhole sum its_size (shown_of trace old).log.bytes (logged H) p (machine_at old)) (sym (first_at_last (reserved_now more r) (λ _. refl) (line_of old))) (its.shows.whole none zeros);
          own = λ none zeros. own_reserved sum its_size (HeaderWasPlaced (shown_of trace old).placed) (RecordWasPlaced sum its_size (shown_of trace old).placed) (shown_of trace old).log.bytes more r (line_of old) (its.shows.own none zeros);
          account = its.shows.account;
          numbers = λ zeros. subst (HasNumbers sum its_size (begins_from its_size old.marks.joined) (shown_of trace old) (machine_at old)) (sym (end_at_last its_size (reserved_now more r) (λ _. refl) (line_of old))) (its.shows.numbers zeros);
          in_slots = its.shows.in_slots;
        });
    noted = noted_later old new rest.noted (let same = reserves_synced in omega (arith, same));
    kept = kept_same old new rest.noted;
  }
