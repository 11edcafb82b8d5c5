-- The manifest of a ticket has ended, in whichever segment it lies, and its batch is noted.
use Rattle.std.proofs.Common.{◌≡◌, ◌∙◌, arith}
use Rattle.std.specs.Prelude.{unsigned_abs}
use Rattle.sled_core.specs.Tickets.{place_of}
use Rattle.sled_core.proofs.Line.KeptCalls.{goes_on_still}
use Rattle.sled_core.proofs.Line.BatchNoted.{IsBatchNoted, batch_fits, batch_holds, batch_seen, body_there, note_above, note_apart, note_unwritten}
use Rattle.sled_core.proofs.Line.EndedTickets.{says_place, ticket_above}
use Rattle.sled_core.proofs.Line.TicketEnds.{IsReservedAt, found_at, kind_there, open_at}
use Rattle.sled_core.proofs.logger.Log.end_batch.Given as given
use Rattle.sled_core.proofs.logger.Log.end_batch.Goals as goal

-- The ticket says which reservation it is.

pub segment_of-n-requires : goal.segment_of-n-requires
segment_of-n-requires g c =
    let above = ticket_above c.args.self.now c.args.ticket c.requires.awaited.0 c.requires.awaited.1 in
    let place : c.unsigned_abs-low.result ≡ unsigned_abs (place_of c.args.ticket) = c.unsigned_abs-low.ensures.value ∙ says_place c.lsn-place.result (place_of c.args.ticket) c.lsn-place.type_inv c.lsn-place.ensures in
    omega (arith, above, place)

pub returns-in-Some-clause-goes_on : goal.returns-in-Some-clause-goes_on
returns-in-Some-clause-goes_on g c = goes_on_still g.D.Device.trace g.C.Checksum.sum_of c.args.self.now

-- what code reads of the ticket is its place
place : (g : given.Over) (c : goal.After-mark_batch_in-arg-1 g) → c.unsigned_abs-low.result ≡ unsigned_abs (place_of c.args.ticket)
place g c = c.unsigned_abs-low.ensures.value ∙ says_place c.lsn-place.result (place_of c.args.ticket) c.lsn-place.type_inv c.lsn-place.ensures

-- it is the one that the ticket is for
at : (g : given.Over) (c : goal.After-mark_batch_in-arg-1 g) → IsReservedAt c.args.self.now c.args.ticket c.segment_of-n.result c.index-index.result
at g c = found_at c.args.self.now c.args.ticket c.requires.awaited.0 c.requires.awaited.1 c.lsn-place.result c.lsn-place.type_inv c.lsn-place.ensures
    c.unsigned_abs-low.ensures.value c.segment_of-n.ensures c.index-index.ensures

pub mark_batch_in-requires-clause-awaited : goal.mark_batch_in-requires-clause-awaited
mark_batch_in-requires-clause-awaited g c = open_at c.args.self.now c.args.ticket (at g c)

pub mark_batch_in-requires-clause-body : goal.mark_batch_in-requires-clause-body
mark_batch_in-requires-clause-body g c = body_there c.args.self.now c.args.ticket c.segment_of-n.result c.index-index.result (at g c) c.requires.manifest

pub mark_batch_in-requires-clause-kind : goal.mark_batch_in-requires-clause-kind
mark_batch_in-requires-clause-kind g c = λ v r among there.
    kind_there c.args.self.now c.args.ticket c.segment_of-n.result c.index-index.result (at g c) v r among there ∙ c.requires.manifest

-- It is noted as one that lies by itself, behind what is written.
pub note-requires-clause-above : goal.note-requires-clause-above
note-requires-clause-above g c =
    let f = at g c.before.before in
    note_above g.D.Device.trace g.C.Checksum.sum_of c.args.self.now c.mark_batch_in.new.self c.mark_batch_in.new.self c.args.ticket c.segment_of-n.result c.index-index.result f c.requires.manifest c.args.peg
    (c.mark_batch_in.ensures.line f.segment f.reserved f.among f.there) c.mark_batch_in.ensures.rest c.unsigned_abs-low.result
    (place g c.before.before) c.requires.above

pub note-requires-clause-unwritten : goal.note-requires-clause-unwritten
note-requires-clause-unwritten g c =
    let f = at g c.before.before in
    note_unwritten g.D.Device.trace g.C.Checksum.sum_of c.args.self.now c.mark_batch_in.new.self c.mark_batch_in.new.self c.args.ticket c.segment_of-n.result c.index-index.result f c.requires.manifest c.args.peg
    (c.mark_batch_in.ensures.line f.segment f.reserved f.among f.there) c.mark_batch_in.ensures.rest c.unsigned_abs-low.result
    (place g c.before.before)

pub note-requires-clause-apart : goal.note-requires-clause-apart
note-requires-clause-apart g c =
    let f = at g c.before.before in
    note_apart g.D.Device.trace g.C.Checksum.sum_of c.args.self.now c.mark_batch_in.new.self c.mark_batch_in.new.self c.args.ticket c.segment_of-n.result c.index-index.result f c.requires.manifest c.args.peg
    (c.mark_batch_in.ensures.line f.segment f.reserved f.among f.there) c.mark_batch_in.ensures.rest c.unsigned_abs-low.result
    (place g c.before.before) c.requires.apart

-- What the log is then.

pub returns-clause-history : goal.returns-clause-history
returns-clause-history g c =
    let f = at g c.before.before.before in
    batch_holds g.D.Device.trace g.C.Checksum.sum_of c.args.self.now c.mark_batch_in.new.self c.note.new.self c.args.ticket c.segment_of-n.result c.index-index.result f c.requires.manifest c.args.peg
    (c.mark_batch_in.ensures.line f.segment f.reserved f.among f.there) c.mark_batch_in.ensures.rest c.note.ensures.rest
    c.unsigned_abs-low.result (place g c.before.before.before)
    c.note.ensures.noted c.requires.above c.requires.reserved c.requires.apart c.requires.filled

pub returns-clause-fits : goal.returns-clause-fits
returns-clause-fits g c =
    let f = at g c.before.before.before in
    batch_fits g.D.Device.trace g.C.Checksum.sum_of c.args.self.now c.mark_batch_in.new.self c.note.new.self c.args.ticket c.segment_of-n.result c.index-index.result f c.requires.manifest c.args.peg
    (c.mark_batch_in.ensures.line f.segment f.reserved f.among f.there) c.mark_batch_in.ensures.rest c.note.ensures.rest
    c.unsigned_abs-low.result (place g c.before.before.before)
    c.note.ensures.noted c.requires.above c.in_default.is c.requires.reserved c.requires.apart c.requires.filled

-- What is seen of it.
seen : (g : given.Over) (c : goal.After-note g) → IsBatchNoted g.D.Device.trace g.C.Checksum.sum_of c.args.self.now c.note.new.self c.args.ticket c.args.peg
seen g c =
    let f = at g c.before.before.before in
    batch_seen g.D.Device.trace g.C.Checksum.sum_of c.args.self.now c.mark_batch_in.new.self c.note.new.self c.args.ticket c.segment_of-n.result c.index-index.result f c.requires.manifest c.args.peg
    (c.mark_batch_in.ensures.line f.segment f.reserved f.among f.there) c.mark_batch_in.ensures.rest c.note.ensures.rest
    c.unsigned_abs-low.result (place g c.before.before.before)
    c.note.ensures.noted c.requires.above c.note.ensures.few

pub returns-clause-ends : goal.returns-clause-ends
returns-clause-ends g c = record {
  others = (seen g c).others;
  opens = (seen g c).opens;
  position = (seen g c).position;
  buffers = (seen g c).buffers;
  heads = (seen g c).heads;
  fillings = (seen g c).fillings;
  machine = (seen g c).machine;
  pooled = (seen g c).pooled;
}

pub returns-clause-goes_on : goal.returns-clause-goes_on
returns-clause-goes_on g c = (seen g c).goes_on

pub returns-clause-same : goal.returns-clause-same
returns-clause-same g c = (seen g c).same

pub returns-clause-given_up : goal.returns-clause-given_up
returns-clause-given_up g c = (seen g c).given_up

pub returns-in-Some-clause-given_up : goal.returns-in-Some-clause-given_up
returns-in-Some-clause-given_up g c = λ m there. there
