-- The message of a ticket is given up, in whichever segment it lies: its record there is one that is passed over, and nothing else changes.
use Rattle.std.proofs.Common.{◌≡◌, ◌∙◌, ◌≤◌, ◌+◌, ◌-◌, ◌/◌, ◌∷◌, ◌++◌, ap, sym, subst, arith, refl, ℕ, List, length, set, Some, Option, ℤ, None}
use Rattle.std.specs.Prelude.{unsigned_abs}
use Rattle.std.specs.List.{Contains}
use Rattle.sled_codec.specs.declared.serialization.message.MessageKind.TheVariants as kind
use Rattle.sled_codec.specs.History.{Message}
use Rattle.sled_codec.specs.Kinds.{code_of}
use Rattle.sled_codec.specs.Places.{part}
use Rattle.sled_store.specs.Accounts.{machine_of}
use Rattle.sled_store.specs.declared.config.RunningConfig.{RunningConfig}
use Rattle.sled_core.specs.declared.iobuf.ReservationState.TheVariants.{Canceled}
use Rattle.sled_core.specs.declared.iobuf.Reserved.{Reserved}
use Rattle.sled_core.specs.Begun.{SegmentView}
use Rattle.sled_core.specs.inside.Shown.{shown_of}
use Rattle.sled_core.specs.inside.Buffers.{Stands, canceling, SpellsBlob}
use Rattle.sled_core.specs.Buffers.{body_in, item_as, pointer_as}
use Rattle.sled_core.specs.Canceled.{canceled_record, IsBodyAt, IsBodyOf}
use Rattle.sled_core.specs.Fits.{Awaits, line_of, noted_in}
use Rattle.sled_core.specs.invariants.Fits.{Holds}
use Rattle.sled_core.specs.Among.{AreAmong}
use Rattle.sled_core.specs.GivenUp.{given_up_along}
use Rattle.sled_core.specs.Logged.{logged, in_log, item_in_log}
use Rattle.sled_core.specs.invariants.Running.{Fits}
use Rattle.sled_core.specs.Tickets.{place_of}
use Rattle.sled_core.specs.inside.Turned.{ended_now}
use Rattle.sled_core.specs.Waiting.{BufferAt, buffers_in}
use Rattle.sled_core.proofs.Holds.CanceledLemmas.{canceled_long, canceled_there}
use Rattle.sled_core.proofs.Line.KeptCalls.{ends_none, gives_none, kept_still}
use Rattle.sled_core.proofs.Line.Canceled.{ended_stands}
use Rattle.sled_core.proofs.Line.EndedTickets.{ended_gives, says_place, ticket_above}
use Rattle.sled_core.proofs.Line.Ends.{fits_aborted, holds_aborted, with_segment}
use Rattle.sled_core.proofs.Line.EndedLine.{canceling_head, canceling_short}
use Rattle.sled_core.proofs.Holds.Facts.{nth_facts}
use Rattle.sled_core.proofs.Line.TicketEnds.{EndsAt, IsReservedAt, found_at, kind_there, open_at, ticket_ends, ticket_fits, ticket_goes_on, ticket_holds, ticket_keeps, ticket_left}
use Rattle.sled_core.proofs.Reserve.Entries.{open_plain, reserved_in}
use Rattle.sled_core.proofs.Reserve.Ranges.{at_there}
use Rattle.sled_core.proofs.Line.LineEnds.{kept_same}
use Rattle.sled_core.proofs.logger.Log.give_up.Given.{Over}
use Rattle.sled_core.proofs.logger.Log.give_up.Goals as goal
use Rattle.sled_codec.specs.Record.{short_record}
use Rattle.sled_codec.specs.Pointers.{lid_of}
use Rattle.sled_codec.specs.declared.result.DiskPtr.{DiskPtr}
use Rattle.sled_core.proofs.Holds.ReachLemmas.{lid_as}

pub returns-in-Some-clause-keeps : goal.returns-in-Some-clause-keeps
returns-in-Some-clause-keeps g c = kept_still g.D.Device.trace g.C.Checksum.sum_of c.args.self.now

-- The ticket says which reservation it is.

pub segment_of-n-requires : goal.segment_of-n-requires
segment_of-n-requires g c =
    let above = ticket_above c.args.self.now c.args.ticket c.requires.0 c.requires.1 in
    let place : c.unsigned_abs.result ≡ unsigned_abs (place_of c.args.ticket) = c.unsigned_abs.ensures.value ∙ says_place c.lsn-place.result (place_of c.args.ticket) c.lsn-place.type_inv c.lsn-place.ensures in
    omega (arith, above, place)

-- It is that of whichever message the ticket awaits,
abbrev at : (g : Over) (c : goal.After-abort_in-arg-1 g) (m : Message) → Awaits c.args.self.now c.args.ticket m
    → IsReservedAt c.args.self.now c.args.ticket c.segment_of-n.result c.index-index.result
at g c m awaits = found_at c.args.self.now c.args.ticket m awaits c.lsn-place.result c.lsn-place.type_inv c.lsn-place.ensures c.unsigned_abs.ensures.value
    c.segment_of-n.ensures c.index-index.ensures

pub abort_in-requires-clause-kind : goal.abort_in-requires-clause-kind
abort_in-requires-clause-kind g c = λ v r among there.
    kind_there c.args.self.now c.args.ticket c.segment_of-n.result c.index-index.result
    (at g c c.requires.0 c.requires.1) v r among there
    ∙ sym c.is_manifest-manifest.ensures

pub abort_in-requires-clause-awaited : goal.abort_in-requires-clause-awaited
abort_in-requires-clause-awaited g c = open_at c.args.self.now c.args.ticket (at g c c.requires.0 c.requires.1)

-- It ends as that of a message that was given up, for whichever message the ticket awaits,
abbrev ended : (g : Over) (c : goal.After-abort_in g) (m : Message) → Awaits c.args.self.now c.args.ticket m
    → EndsAt c.args.self.now c.abort_in.new.self c.args.ticket c.segment_of-n.result c.index-index.result Canceled
ended g c m awaits =
    let f = at g c.before m awaits in
    record {
      at = f;
      text = canceling g.C.Checksum.sum_of f.segment.parts.bytes f.reserved;
      short = canceling_short g.C.Checksum.sum_of f.segment (c.index-index.result - f.segment.gone) f.reserved
          (nth_facts c.args.self.now c.segment_of-n.result f.segment f.among) f.there f.own.open_yet;
      line = c.abort_in.ensures.line f.segment f.reserved f.among f.there;
    }

-- and so for the one that its caller knows of.
abbrev own : (g : Over) (c : goal.After-abort_in g)
    → EndsAt c.args.self.now c.abort_in.new.self c.args.ticket c.segment_of-n.result c.index-index.result Canceled
own g c = ended g c c.requires.0 c.requires.1

-- The log holds and fits what it did.
pub returns-clause-keeps : goal.returns-clause-keeps
unfolding Fits Holds
returns-clause-keeps g c =
    let old = c.args.self.now in
    let n : ℕ = c.segment_of-n.result in
    let f = (own g c).at in
    let i : ℕ = c.index-index.result - f.segment.gone in
    record {
      goes_on = ticket_goes_on (own g c) c.abort_in.ensures.rest g.D.Device.trace g.C.Checksum.sum_of;
      history = λ H holds. ticket_holds (own g c) c.abort_in.ensures.rest g.D.Device.trace g.C.Checksum.sum_of H holds.rests
          (holds_aborted g.C.Checksum.sum_of old.config.config.segment_size (shown_of g.D.Device.trace old)
          old.fault.kept (line_of old) n f.segment f.among
          old.segments.first.site.place (nth_facts old) i f.reserved f.there f.own.open_yet (machine_of old.accountant) (noted_in old) (logged H) holds.shows);
      fits = λ H A r U fits. ticket_fits (own g c) c.abort_in.ensures.rest g.D.Device.trace g.C.Checksum.sum_of H A r U
          fits.hides fits.marked fits.passed fits.clean fits.rests
          (fits_aborted g.C.Checksum.sum_of old.config.config.segment_size (shown_of g.D.Device.trace old)
          old.fault.kept (line_of old) n f.segment f.among
          old.segments.first.site.place (nth_facts old) i f.reserved f.there f.own.open_yet (machine_of old.accountant) (noted_in old) old.pins H A r U fits.shows);
      noted = ticket_left (own g c) c.abort_in.ensures.rest;
      kept = kept_same old c.abort_in.new.self c.abort_in.ensures.rest.noted;
    }

-- the body of a record is that of the message, whose pointer says whether it has its item in a blob
body_is : (m : Message) (o : Option ℤ) (lid : ℕ) (body : List ℕ) → m.pointer ≡ pointer_as o lid → item_in_log m.pointer m.bytes ≡ item_as o body → SpellsBlob o body → IsBodyOf m body
body_is m None lid body pointer item names = subst (λ (p : DiskPtr). IsBodyAt p m.bytes body) (sym pointer) (sym item ∙ ap (λ (p : DiskPtr). item_in_log p m.bytes) pointer)
body_is m (Some place) lid body pointer item names = subst (λ (p : DiskPtr). IsBodyAt p m.bytes body) (sym pointer) names

-- The buffer that has the message has its record.
pub returns-clause-canceled : goal.returns-clause-canceled
unfolding Holds
returns-clause-canceled g c = λ H m holds awaits.
    let old = c.args.self.now in
    let sum : List ℕ → ℕ = g.C.Checksum.sum_of in
    let size : ℕ = old.config.config.segment_size in
    let v : SegmentView = awaits.segment in
    let r : Reserved = awaits.reserved in
    let i : ℕ = c.index-index.result - v.gone in
    let f = (ended g c m awaits).at in
    let at = f.among in
    let its = f.there in
    let line = c.abort_in.ensures.line v r at its in
    let facts = nth_facts old c.segment_of-n.result v at in
    let inside = at_there (λ (x : Reserved). x.from + x.len ≤ length v.parts.bytes) v.parts.reserved i r its facts.within in
    let now_size : c.abort_in.new.self.config.config.segment_size ≡ size = ap (λ (x : RunningConfig g.row.D.Denot g.row.C.Denot). x.config.segment_size) c.abort_in.ensures.rest.config in
    let place_is : m.place ≡ v.parts.site.place + r.from = ap (λ (x : Message). x.place) awaits.message in
    let size_is : m.size ≡ r.len = ap (λ (x : Message). x.size) awaits.message in
    with_segment sum size (shown_of g.D.Device.trace old) old.fault.kept _ (line_of old) c.segment_of-n.result v (logged H) holds.shows.holds at (λ stays own segment.
    let stands = reserved_in sum size (v.parts.site.place / size) v.parts.bytes r (open_plain r.state awaits.own.open_yet) (at_there (Stands sum size (v.parts.site.place / size) v.parts.bytes) v.parts.reserved i r its segment.records.stand) in
    let its_text = canceled_there sum size v.parts.site.place v.parts.bytes r segment.records.place_begins stands.room inside stands.text awaits.own.open_yet in
    let body : List ℕ = body_in v.parts.bytes r in
    let canceled : List ℕ = short_record sum kind.Canceled r.page ((v.parts.site.place + r.from) / size) body in
    let pointer : m.pointer ≡ pointer_as r.blob (v.parts.site.slot + r.from) = ap (λ (x : Message). x.pointer) awaits.message in
    let lid : lid_of m.pointer ≡ v.parts.site.slot + r.from = ap lid_of pointer ∙ lid_as r.blob (v.parts.site.slot + r.from) in
    let page_is : m.page ≡ r.page = ap (λ (x : Message). x.page) awaits.message in
    let record_is : canceled ≡ canceled_record sum c.abort_in.new.self.config.config.segment_size m body = λ j. short_record sum kind.Canceled (sym page_is j) (sym place_is j / sym now_size j) body in
    let long = canceled_long sum size v.parts.site.place v.parts.bytes r segment.records.place_begins stands.room inside stands.text in
    let found = ended_stands sum size old.reserved_to (line_of old) c.segment_of-n.result v facts i r its awaits.own.open_yet (sum (body_in v.parts.bytes r ++ code_of kind.Canceled ∷ part v.parts.bytes (r.from + 5) (r.header_len - 5))) kind.Canceled Canceled canceled at old.line.filled its_text in
    let list : buffers_in sum size (set (line_of old) c.segment_of-n.result (ended_now i r (canceling sum v.parts.bytes r) Canceled v)) ≡ buffers_in sum c.abort_in.new.self.config.config.segment_size (line_of c.abort_in.new.self) = λ j. buffers_in sum (sym now_size j) (sym line j) in
    record {
      buffer = found.buffer;
      waits = subst (λ (l : List BufferAt). Contains l found.buffer) list found.there;
      begins = (let low = found.begins in omega (arith, low, place_is));
      ends = (let high = found.ends in omega (arith, high, place_is, size_is));
      behind = (let low = found.behind in omega (arith, low, lid));
      body = body;
      is_body = body_is m r.blob (v.parts.site.slot + r.from) body pointer (ap (λ (x : Message). x.bytes) awaits.message) stands.text.names;
      whole = (λ j. part found.buffer.bytes (lid j - found.buffer.lid) (size_is j)) ∙ found.whole ∙ record_is;
      long = ap length (sym record_is) ∙ long ∙ sym size_is;
    })

-- Other tickets stay, and nothing else changes.

pub returns-clause-ends : goal.returns-clause-ends
returns-clause-ends g c = ticket_ends (own g c) c.abort_in.ensures.rest g.D.Device.trace g.C.Checksum.sum_of _ refl refl

pub returns-clause-same : goal.returns-clause-same
returns-clause-same g c = ticket_keeps (own g c) c.abort_in.ensures.rest

pub returns-in-Some-clause-ends : goal.returns-in-Some-clause-ends
returns-in-Some-clause-ends g c = ends_none g.D.Device.trace g.C.Checksum.sum_of c.args.ticket c.args.self.now _

-- What counts as given up then is the message of the ticket, and what was given up before.
pub returns-clause-given_up : goal.returns-clause-given_up
returns-clause-given_up g c = λ m awaits.
    let old = c.args.self.now in
    let sum : List ℕ → ℕ = g.C.Checksum.sum_of in
    let v : SegmentView = awaits.segment in
    let r : Reserved = awaits.reserved in
    let i : ℕ = c.index-index.result - v.gone in
    let f = (ended g c m awaits).at in
    let at = f.among in
    let its = f.there in
    let facts = nth_facts old c.segment_of-n.result v at in
    subst (λ (l : List SegmentView). AreAmong (given_up_along l) (in_log m ∷ given_up_along (line_of old))) (sym (c.abort_in.ensures.line v r at its))
    (subst (λ (x : Message). AreAmong (given_up_along (set (line_of old) c.segment_of-n.result (ended_now i r (canceling sum v.parts.bytes r) Canceled v))) (x ∷ given_up_along (line_of old))) (sym awaits.message)
    (ended_gives old.config.config.segment_size (line_of old) old.segments.first.site.place c.segment_of-n.result v at (nth_facts old) i r its awaits.own.open_yet (canceling sum v.parts.bytes r)
    (canceling_short sum v i r facts its awaits.own.open_yet) Canceled refl (canceling_head sum v i r facts its awaits.own.open_yet)))

pub returns-in-Some-clause-given_up : goal.returns-in-Some-clause-given_up
returns-in-Some-clause-given_up g c = gives_none c.args.ticket c.args.self.now
