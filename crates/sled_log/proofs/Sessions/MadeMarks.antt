-- What it comes to where a session makes a mark: the log is as it was but for its slots and its pins, and so the session stands where it stood.
use Rattle.std.proofs.Common.{⊎_elim, ◌≡◌, ◌∙◌, ◌<◌, ◌≤◌, ◌+◌, ◌-◌, ℕ, Bool, true, false, nat_lt, not, ◌==◌, ◌||◌, List, [], ◌∷◌, length, map, get_or, sym, ap, subst, arith, refl, Option, None, Some, Ok, Err, eq-eqb, eqb-true, cond}
use Rattle.std.specs.Prelude.{is_some}
use Rattle.std.specs.List.{All, Contains, slice_get}
use Rattle.std.proofs.lemmas.List.Elements.{All-contains}
use Rattle.sled_codec.specs.declared.result.Error.TheVariants as error
use Rattle.sled_codec.specs.declared.serialization.message.LogKind.{LogKind}
use Rattle.sled_codec.specs.declared.serialization.message.LogKind.TheVariants as does
use Rattle.sled_codec.specs.History.{Batch, History, Message, ChangesPage, begins_page}
use Rattle.sled_codec.specs.PageTables.{IsTable}
use Rattle.sled_codec.specs.Snapshots.{page_of}
use Rattle.sled_store.specs.Device.{Trace}
use Rattle.sled_store.specs.Marks.{IsFormerList}
use Rattle.sled_store.specs.Outdated.{NoneShares}
use Rattle.sled_store.specs.SegmentStates.{Machine, MayMark, linked, replaced}
use Rattle.sled_store.specs.declared.config.RunningConfig.{RunningConfig}
use Rattle.sled_store.specs.declared.segment.slot.CacheInfo.{CacheInfo}
use Rattle.sled_store.proofs.Segments.Elements.{from_filter, in_filter, in_first}
use Rattle.sled_core.specs.Begun.{SegmentView, line_in, segment_view}
use Rattle.sled_core.specs.declared.logger.Log.{Log}
use Rattle.sled_core.specs.Fits.{AwaitsIn, KeepsTickets, fault_of, given_up_of, line_of, machine_at, noted_in, pins_of, position_of, segment_size_of, synced_end}
use Rattle.sled_core.specs.GivenUp.{given_up_along}
use Rattle.sled_core.specs.Keeps.{GoesOn}
use Rattle.sled_core.specs.Logged.{in_log}
use Rattle.sled_core.specs.Marking.{TakesMark, but_for}
use Rattle.sled_core.specs.OpenBatches.{batch_of, not_whole}
use Rattle.sled_core.specs.OpenPlaces.{open_places_along}
use Rattle.sled_core.specs.Positions.{position_in}
use Rattle.sled_core.specs.Unmarked.{is_among, without}
use Rattle.sled_core.specs.Waiting.{last_of, spans, start_in, unwritten}
use Rattle.sled_core.specs.invariants.Running.{Fits}
use Rattle.sled_core.specs.LogStatus.{position_over}
use Rattle.sled_core.proofs.Line.Among.{among_same}
use Rattle.sled_core.proofs.Line.KeptCalls.{goes_on_quietly}
use Rattle.sled_core.proofs.PublicLaws.{due_may_link, due_may_mark}
use Rattle.sled_log.specs.declared.session.marking.Due.{Due}
use Rattle.sled_log.specs.declared.session.opened.Opened.{Opened}
use Rattle.sled_log.specs.declared.session.Phase.TheVariants.{Open}
use Rattle.sled_log.specs.Made.{IsMade}
use Rattle.sled_log.specs.Marking.{KeepsBeside, MakesDue, Settles, mark_of, with_due}
use Rattle.sled_log.specs.RunPhases.{AreUnmarked, HasBatch, HasTickets, IsOpenAt, IsUnmarked, Unstored, seen_log, shown_due, stands, traces}
use Rattle.sled_log.specs.RunStates.{DeviceView, DueMark, LogView, MarkAt, open_messages, top}
use Rattle.sled_log.specs.SessionMarks.{marking, slots_after, slots_marked}
use Rattle.sled_log.proofs.Sessions.BegunHeads.{heads_left, other_same}
use Rattle.sled_log.proofs.Sessions.SafeItems.{safe_on}
use Rattle.sled_log.proofs.Sessions.SharedBlobs.{none_shares}
use Rattle.sled_core.proofs.Line.StatusSeen.{over_seen}

-- What a mark makes of the slots, by its kind.

slots_linked : (size : ℕ) (d : DueMark) (m : Machine) (k : LogKind) → k ≡ does.Link → slots_after size k d m ≡ linked size d.page d.new m
slots_linked size d m k is = ap (λ (x : LogKind). slots_after size x d m) is

slots_replaced : (size : ℕ) (d : DueMark) (m : Machine) (k : LogKind) → (k ≡ does.Link → ⊥) → slots_after size k d m ≡ replaced size d.page d.new d.old m
slots_replaced size d m does.Link other = absurd (other refl)
slots_replaced size d m does.Replace other = refl
slots_replaced size d m does.Free other = refl
slots_replaced size d m does.Skip other = refl
slots_replaced size d m does.Corrupted other = refl

pub marks_linked : (size : ℕ) (d : Due) (m : Machine) → d.kind ≡ does.Link → linked size d.page d.new m ≡ slots_marked size (mark_of d) m
marks_linked size d m is = sym (slots_linked size (mark_of d) m d.kind is)

pub marks_replaced : (size : ℕ) (d : Due) (m : Machine) → (d.kind ≡ does.Link → ⊥) → replaced size d.page d.new d.old.items m ≡ slots_marked size (mark_of d) m
marks_replaced size d m other = sym (slots_replaced size (mark_of d) m d.kind other)

-- Of the one message that isn't marked.

-- what changes a page and isn't a Link begins it
begins_else : (k : LogKind) → ChangesPage k → (k ≡ does.Link → ⊥) → begins_page k ≡ true
begins_else does.Replace changes other = refl
begins_else does.Free changes other = refl
begins_else does.Link changes other = absurd (other refl)
begins_else does.Skip changes other = ⊎_elim (λ is. cc) (λ rest. ⊎_elim (λ is. cc) (λ is. cc) rest) changes
begins_else does.Corrupted changes other = ⊎_elim (λ is. cc) (λ rest. ⊎_elim (λ is. cc) (λ is. cc) rest) changes

none_but : (m : Message) → [] ≡ but_for m.place (m ∷ [])
none_but m = sym (ap (λ (b : Bool). cond (not b) (m ∷ []) []) (eq-eqb m.place m.place refl))

module _ {D C : Type 0} (log : Log D C) (H : History) (d : Due) (m : Message) (is : IsUnmarked log H d m) where
  -- its mark may be made
  pub takes_mark : TakesMark H (m ∷ []) m []
  takes_mark = record { there = is.there; due = in_first m []; left = none_but m; newest = is.newest }

  pub begins_it : IsMade H → (d.kind ≡ does.Link → ⊥) → begins_page m.kind ≡ true
  begins_it made other = begins_else m.kind (All-contains (λ x. ChangesPage x.kind) H.messages m made.orderly.formed.kinds is.there) (λ link. other (is.kind ∙ link))

  pub former_of : IsMade H → (d.kind ≡ does.Link → ⊥) → IsFormerList (without (m ∷ []) H) d.page d.old.items
  former_of made other = subst (λ (p : ℕ). IsFormerList (without (m ∷ []) H) p d.old.items) is.is.0 (is.former (begins_it made other))

  -- and so it may be marked.
  marks_link : (trace : D → Trace) (sum : List ℕ → ℕ) (A f : ℕ) → Fits trace sum log H A f (m ∷ []) → m.kind ≡ does.Link
      → MayMark (segment_size_of log) (machine_at log) d.new d.old.items
  marks_link trace sum A f fits link =
      subst (λ (o : List CacheInfo). MayMark (segment_size_of log) (machine_at log) d.new o) (sym (is.beside link))
      (subst (λ (i : CacheInfo). MayMark (segment_size_of log) (machine_at log) i []) (sym is.is.1)
      (due_may_link trace sum log H A f (m ∷ []) m fits (in_first m [])))

  marks_other : (trace : D → Trace) (sum : List ℕ → ℕ) (A f : ℕ) → Fits trace sum log H A f (m ∷ []) → IsMade H → (d.kind ≡ does.Link → ⊥)
      → MayMark (segment_size_of log) (machine_at log) d.new d.old.items
  marks_other trace sum A f fits made other =
      subst (λ (i : CacheInfo). MayMark (segment_size_of log) (machine_at log) i d.old.items) (sym is.is.1)
      (due_may_mark trace sum log H A f (m ∷ []) m fits (in_first m []) d.old.items (is.former (begins_it made other)))

  pub may_be_marked : (trace : D → Trace) (sum : List ℕ → ℕ) (A f : ℕ) → Fits trace sum log H A f (m ∷ []) → IsMade H
      → MayMark (segment_size_of log) (machine_at log) d.new d.old.items
  may_be_marked trace sum A f fits made = by d.kind refl where
    by : (k : LogKind) → d.kind ≡ k → MayMark (segment_size_of log) (machine_at log) d.new d.old.items
    by does.Link same = marks_link trace sum A f fits (sym is.kind ∙ same)
    by does.Replace same = marks_other trace sum A f fits made (λ l. cc)
    by does.Free same = marks_other trace sum A f fits made (λ l. cc)
    by does.Skip same = marks_other trace sum A f fits made (λ l. cc)
    by does.Corrupted same = marks_other trace sum A f fits made (λ l. cc)

  -- all others of its page lie below it
  newest_one : (x : Message) → Contains H.messages x → x.page ≡ m.page → x.place ≤ m.place
  newest_one x there page = by (is_among (m ∷ []) x.place) refl where
    single : (b : Bool) → (m.place == x.place) ≡ b → (b || false) ≡ true → m.place ≡ x.place
    single true is_it among = eqb-true m.place x.place is_it
    single false is_it among = cc

    by : (b : Bool) → is_among (m ∷ []) x.place ≡ b → x.place ≤ m.place
    by true among = let same : m.place ≡ x.place = single (m.place == x.place) refl among in omega (arith, same)
    by false other = let less = is.newest x (in_filter (λ (y : Message). not (is_among (m ∷ []) y.place)) H.messages x there (ap not other)) page in omega (arith, less)

  pub none_shared : IsMade H → (d.kind ≡ does.Link → ⊥) → NoneShares H m d.old.items
  none_shared made other =
      none_shares H made (without (m ∷ []) H) (λ x there. (from_filter (λ (y : Message). not (is_among (m ∷ []) y.place)) H.messages x there).0)
      m d.old.items (is.former (begins_it made other)) newest_one

-- A log that is as it was, but for its slots and its pins.

module _ {D C : Type 0} (old new : Log D C) (beside : KeepsBeside old new) where
  pub line_same : line_of new ≡ line_of old
  line_same = ap line_in beside.segments

  synced_same : synced_end new ≡ synced_end old
  synced_same i = (beside.segments i).first.site.place + (beside.segments i).first.buffer.written_len

  pub noted_same : noted_in new ≡ noted_in old
  noted_same i = not_whole (synced_same i) (map batch_of (beside.batches i).noted.items)

  pub size_same : segment_size_of new ≡ segment_size_of old
  size_same = ap (λ (c : RunningConfig D C). c.config.segment_size) beside.config

  pub fault_same : fault_of new ≡ fault_of old
  fault_same i = (beside.fault i).kept

  pub tickets_same : KeepsTickets old new
  tickets_same = record {
    awaits = λ t m awaits. subst (λ (l : List SegmentView). AwaitsIn l t (in_log m)) (sym line_same) awaits;
    opens = ap open_places_along line_same;
    given_up = among_same (given_up_of new) (given_up_of old) (ap given_up_along line_same);
  }

  pub goes_beside : (trace : D → Trace) (sum : List ℕ → ℕ) → GoesOn trace sum old new
  goes_beside trace sum = goes_on_quietly trace sum old new
      (record { config = ap (λ (c : RunningConfig D C). c.config) beside.config; checksum = ap (λ (c : RunningConfig D C). c.checksum) beside.config })
      (ap (λ (c : RunningConfig D C). trace c.device) beside.config) (omega (arith, synced_same)) (λ none. sym fault_same ∙ none)

  -- what isn't marked yet isn't
  pub unmarked_beside : (H : History) (d : Due) (m : Message) → IsUnmarked old H d m → IsUnmarked new H d m
  unmarked_beside H d m is = record {
    there = is.there;
    is = is.is;
    kind = is.kind;
    newest = is.newest;
    beside = is.beside;
    former = is.former;
    sound = fault_same ∙ is.sound;
  }

  -- What is seen of it: with other slots its next record begins where they tell.
  module _ (begun : ℕ) (tickets : List (Option Message)) (given_up : List Message) (heads : List MarkAt) where
    abbrev l : LogView
    l = seen_log old begun tickets given_up heads

    abbrev beside_view : Machine → ℕ → LogView
    beside_view m pins = record l {
      status = record l.status {
        position = position_over (segment_size_of old) l.status m;
        pins = pins;
        machine = m;
        account = record l.status.account { pinned = nat_lt 0 pins };
      };
    }

    position_now : position_of new ≡ position_over (segment_size_of old) l.status (machine_at new)
    position_now =
        (λ i. position_in (size_same i) (last_of (segment_view (beside.segments i).first) (map segment_view (beside.segments i).behind.items)) (machine_at new))
        ∙ over_seen old (machine_at new)

    seen_beside : seen_log new begun tickets given_up heads ≡ beside_view (machine_at new) (pins_of new)
    seen_beside i = record {
      status = record {
        position = position_now i;
        machine = machine_at new;
        reserved = beside.reserved i;
        synced = synced_same i;
        noted = noted_same i;
        waiting = spans (unwritten (line_same i));
        start = start_in (last_of (segment_view (beside.segments i).first) (map segment_view (beside.segments i).behind.items));
        opens = open_places_along (line_same i);
        fault = fault_same i;
        pins = pins_of new;
        account = record { mark = (beside.marks i).joined; durable = (beside.marks i).durable; pinned = nat_lt 0 (pins_of new) };
      };
      begun = begun;
      tickets = tickets;
      given_up = given_up;
      heads = heads;
    }

    -- A mark was made,
    pub seen_marked : (d : DueMark) → machine_at new ≡ slots_marked (segment_size_of old) d (machine_at old) → pins_of new ≡ pins_of old - 1
        → seen_log new begun tickets given_up heads ≡ marking (segment_size_of old) d l
    seen_marked d made pins = seen_beside ∙ (λ i. beside_view (made i) (pins i))

    -- or none was.
    pub seen_same : machine_at new ≡ machine_at old → pins_of new ≡ pins_of old → seen_log new begun tickets given_up heads ≡ l
    seen_same made pins =
        seen_beside ∙ (λ i. beside_view (made i) (pins i))
        ∙ (λ i. record l { status = record l.status { position = sym (over_seen old (machine_at old)) i } })

-- A session whose log is so.

module _ {D C : Type 0} (view : D → DeviceView) (sum : List ℕ → ℕ) (old new : Opened D C) (rest : new ≡ record old { log = new.log; due = new.due })
    (beside : KeepsBeside old.log new.log) (k : Unstored) where
  tickets_still : HasTickets (traces view) sum old k.history k.tickets → HasTickets (traces view) sum new k.history k.tickets
  tickets_still was =
      let kept = tickets_same old.log new.log beside in
      let on = goes_beside old.log new.log beside (traces view) sum in
      record {
        as_many = ap (λ (o : Opened D C). length o.tickets.items) rest ∙ was.as_many;
        each = λ n m at. let had = was.each n m at in record {
          ticket = had.ticket;
          there = ap (λ (o : Opened D C). slice_get o.tickets.items n) rest ∙ had.there;
          kind = had.kind;
          page = had.page;
          awaits = kept.awaits had.ticket.reservation m had.awaits;
          own = had.own;
          stored = safe_on (traces view) sum old.log new.log m on had.stored;
          joins = had.joins;
          begins_batch = λ is. let begins = had.begins_batch is in record {
            kind = begins.kind;
            inline = begins.inline;
            apart = λ b known. begins.apart b (subst (λ (bs : List Batch). Contains bs b) (noted_same old.log new.log beside) known);
          };
          begins = subst (λ (e : ℕ). m.place + 1 < e) (sym beside.reserved) had.begins;
          ends = subst (λ (e : ℕ). m.place + m.size ≤ e) (sym beside.reserved) had.ends;
        };
        gone = λ n at. ap (λ (o : Opened D C). slice_get o.tickets.items n) rest ∙ was.gone n at;
        apart = was.apart;
        rising = was.rising;
        are_all = λ none. kept.opens ∙ was.are_all (on.sound none);
        busy = λ page message. ap (λ (o : Opened D C). get_or o.busy.items page false) rest ∙ was.busy page message;
        batch = subst (HasBatch k.tickets) (sym (ap (λ (o : Opened D C). o.batch) rest)) was.batch;
      }

  pub open_beside : IsOpenAt (traces view) sum old k → (U : List Message) → AreUnmarked new.log k.history new.due U
      → Fits (traces view) sum new.log k.history k.acknowledged k.floor U → pins_of new.log ≡ length (open_messages k.tickets) + length U
      → IsOpenAt (traces view) sum new k
  open_beside at U due fits pinned = record {
    made = at.made;
    unmarked = U;
    due = due;
    fits = fits;
    zeros = at.zeros;
    pinned = pinned;
    origin = ap (λ (o : Opened D C). o.origin) rest ∙ at.origin ∙ (λ i. record { size = sym (size_same old.log new.log beside) i; floor = k.floor });
    table = subst (λ (o : Opened D C). IsTable (map page_of o.pages.items) k.history top) (sym rest) at.table;
    tickets = tickets_still at.tickets;
    given_up = λ x given. at.given_up x ((tickets_same old.log new.log beside).given_up x given);
    heads = heads_left sum old.log new.log k.heads (other_same old.log new.log (line_same old.log new.log beside)) at.heads;
    ends = subst (λ (e : ℕ). All (λ m. m.place + m.size ≤ e) k.history.messages) (sym beside.reserved) at.ends;
  }

  as_many : length new.pages.items ≡ length old.pages.items
  as_many = ap (λ (o : Opened D C). length o.pages.items) rest

  -- Where the run stands then.
  pub stands_beside : (l : LogView) (due : Option DueMark) → seen_log new.log (length old.pages.items) k.tickets k.given_up k.heads ≡ l → shown_due new.due ≡ due
      → stands view (Open new) k ≡ record (stands view (Open old) k) { log = Some l; due = due }
  stands_beside l due seen shown =
      (λ i. record {
        device = view (beside.config i).device;
        history = k.history;
        acknowledged = k.acknowledged;
        floor = k.floor;
        log = Some (seen_log new.log (as_many i) k.tickets k.given_up k.heads);
        due = shown i;
      })
      ∙ (λ i. record (stands view (Open old) k) { log = Some (seen i); due = due })

-- The mark that was due.

module _ {D C : Type 0} (view : D → DeviceView) (sum : List ℕ → ℕ) (old new : Opened D C) (d : Due) (was : old.due ≡ Some d) (taken : Option Due) (none : taken ≡ None)
    (rest : new ≡ record old { log = new.log; due = new.due }) (beside : KeepsBeside old.log new.log) (k : Unstored) (at : IsOpenAt (traces view) sum old k) where
  -- it is of the one message that isn't marked
  its : (m : Message) × (at.unmarked ≡ m ∷ []) × IsUnmarked old.log k.history d m
  its = subst (λ (o : Option Due). AreUnmarked old.log k.history o at.unmarked) was at.due

  abbrev pub Came : Bool → Type 0
  Came made = (H : History) (A f : ℕ) (m : Message) → Fits (traces view) sum old.log H A f (m ∷ []) → IsUnmarked old.log H d m → IsMade H
      → Settles (traces view) sum (record old { due = taken }) d made new H A f m

  came : (made : Bool) → Came made → Settles (traces view) sum (record old { due = taken }) d made new k.history k.acknowledged k.floor its.0
  came made settles =
      settles k.history k.acknowledged k.floor its.0 (subst (λ (U : List Message). Fits (traces view) sum old.log k.history k.acknowledged k.floor U) its.1 at.fits) its.2 at.made

  -- It is made,
  pub due_made : Came true → MakesDue {T = Unit {0}} view sum old (Ok tt) new k
  due_made settles =
      let settled = came true settles in
      let now : new.due ≡ None = settled.1 ∙ none in
      record {
        at = open_beside view sum old new rest beside k at [] (subst (λ (o : Option Due). AreUnmarked new.log k.history o []) (sym now) refl) settled.0.fits
            (let pins = settled.0.pins in let out = at.pinned in let one = ap (λ (U : List Message). length U) its.1 in omega (arith, pins, out, one));
        none = now;
        made = stands_beside view sum old new rest beside k (marking (segment_size_of old.log) (mark_of d) (seen_log old.log (length old.pages.items) k.tickets k.given_up k.heads)) None
            (seen_marked old.log new.log beside (length old.pages.items) k.tickets k.given_up k.heads (mark_of d) settled.0.machine settled.0.pins) (ap shown_due now)
            ∙ ap (with_due (segment_size_of old.log) (stands view (Open old) k)) (sym (ap shown_due was));
        some = tt;
        kept = tt;
      }

  -- or it is due still.
  pub due_kept : Came false → MakesDue {T = Unit {0}} view sum old (Err error.OutOfMemory) new k
  due_kept settles =
      let settled = came false settles in
      record {
        at = open_beside view sum old new rest beside k at (its.0 ∷ [])
            (subst (λ (o : Option Due). AreUnmarked new.log k.history o (its.0 ∷ [])) (sym settled.1) (its.0, refl, unmarked_beside old.log new.log beside k.history d its.0 its.2)) settled.0.fits
            (let pins = settled.0.pins in let out = at.pinned in let one = ap (λ (U : List Message). length U) its.1 in omega (arith, pins, out, one));
        none = tt;
        made = tt;
        some = ap is_some was;
        kept = stands_beside view sum old new rest beside k (seen_log old.log (length old.pages.items) k.tickets k.given_up k.heads) (shown_due old.due)
            (seen_same old.log new.log beside (length old.pages.items) k.tickets k.given_up k.heads settled.0.machine settled.0.pins) (ap shown_due (settled.1 ∙ sym was));
      }
