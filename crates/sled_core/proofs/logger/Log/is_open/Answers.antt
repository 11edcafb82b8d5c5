-- A ticket is for an open reservation of the log where it is for one of the segment that its place says.
use Rattle.std.proofs.Common.{◌≡◌, ◌∙◌, ◌≤◌, ◌+◌, ◌-◌, ◌/◌, sym, subst, refl, arith, rules, ℕ, pos, true, false, List, Some, None, Option, ℤ}
use Rattle.std.specs.Prelude.{unsigned_abs, ◌<ℤ◌}
use Rattle.std.specs.List.{slice_get}
use Rattle.sled_core.specs.declared.logger.Log.{Log}
use Rattle.sled_core.specs.declared.logger.io_bufs.SegmentBuffer.{SegmentBuffer}
use Rattle.sled_core.specs.declared.reservation.Reservation.{Reservation}
use Rattle.sled_core.specs.Begun.{SegmentView, segment_view}
use Rattle.sled_core.specs.Buffers.{pointer_as, item_as, message_in, body_in}
use Rattle.sled_core.specs.Fits.{AwaitsIn, IsOpen, line_of}
use Rattle.sled_core.specs.Tickets.{IsFor, index_of, place_of}
use Rattle.sled_core.specs.inside.Turned.{IsOpenIn}
use Rattle.sled_core.proofs.Line.NthOpen.{nth_within}
use Rattle.sled_core.proofs.Line.EndedTickets.{says_place, ticket_above, ticket_among}
use Rattle.sled_core.proofs.logger.Log.is_open.Goals as goal
use Rattle.sled_core.proofs.logger.Log.is_open.Goals.{then-place-lt0-via-then-place-lt0, then-place-lt0-via-else-place-lt0+then-place-self}
use Rattle.sled_core.specs.declared.iobuf.SegmentPosition.{SegmentPosition}
use Rattle.sled_core.specs.declared.iobuf.Reserved.{Reserved}
use Rattle.sled_core.specs.Logged.{in_log, item_in_log}

-- what the log has of the message of a reservation is that
logged_message : (site : SegmentPosition) (bytes : List ℕ) (r : Reserved) → in_log (message_in site bytes r) ≡ message_in site bytes r
logged_message site bytes r = by r.blob where
  by : (o : Option ℤ) → record (message_in site bytes r) { pointer = pointer_as o (site.slot + r.from); bytes = item_in_log (pointer_as o (site.slot + r.from)) (item_as o (body_in bytes r)) }
      ≡ record (message_in site bytes r) { pointer = pointer_as o (site.slot + r.from); bytes = item_as o (body_in bytes r) }
  by None = refl
  by (Some place) = refl

-- in the n-th segment, which code has so
module _ {D C : Type 0} (log : Log D C) (n : ℕ) (s : SegmentBuffer) (there : slice_get (line_of log) n ≡ Some (segment_view s)) (ticket : Reservation) where
  opens : IsOpenIn s.site s.buffer ticket → IsOpen log ticket
  opens is = (message_in s.site s.buffer.bytes.items is.reserved, record { number = n; segment = segment_view s; among = there; reserved = is.reserved; numbered = is.numbered; there = is.there; own = is.own; message = logged_message s.site s.buffer.bytes.items is.reserved })

  is_there : (place : ℕ) → place ≡ unsigned_abs (place_of ticket) → n ≡ (place - log.segments.first.site.place) / log.config.config.segment_size → IsOpen log ticket → IsOpenIn s.site s.buffer ticket
  is_there place place_is n_is is =
      let awaits : AwaitsIn (line_of log) ticket (in_log is.0) = is.1 in
      let among = ticket_among log ticket is.0 is.1 place n (index_of ticket) place_is n_is refl in
      let both : Some awaits.segment ≡ Some (segment_view s) = sym among ∙ there in
      let same : awaits.segment ≡ segment_view s = cc in
      let open_in : (w : SegmentView) → awaits.segment ≡ w → (w.gone ≤ index_of ticket) × (slice_get w.parts.reserved (index_of ticket - w.gone) ≡ Some awaits.reserved) = λ w is_w. subst (λ (x : SegmentView). (x.gone ≤ index_of ticket) × (slice_get x.parts.reserved (index_of ticket - x.gone) ≡ Some awaits.reserved)) is_w (awaits.numbered, awaits.there) in
      record {
        reserved = awaits.reserved;
        numbered = (open_in (segment_view s) same).0;
        there = (open_in (segment_view s) same).1;
        own = subst (λ (w : SegmentView). IsFor w.parts.site awaits.reserved ticket) same awaits.own;
      }

pub returns-then-place-lt0 : goal.returns-then-place-lt0
returns-then-place-lt0 g c = (
  λ yes. (let no : false ≡ true = yes in cc),
  λ is. elim c.then-place-lt0.branch [
    | then-place-lt0-via-then-place-lt0 w ↦ (
        let negative : c.lsn-place.result <ℤ pos 0 = search rules in
        let both : pos (is.1.segment.parts.site.place + is.1.reserved.from) <ℤ pos 0 = subst (λ z. z <ℤ pos 0) (c.lsn-place.ensures ∙ is.1.own.place) negative in
        search rules)
    | then-place-lt0-via-else-place-lt0+then-place-self w ↦ (
        let above = ticket_above c.args.self.now c.args.ticket.now is.0 is.1 in
        let same = says_place c.lsn-place.result (place_of c.args.ticket.now) c.lsn-place.type_inv c.lsn-place.ensures in
        let below = w.if-place-self.true in
        absurd (omega (arith, above, same, below)))
  ],
)

pub returns-then-n-last_index : goal.returns-then-n-last_index
returns-then-n-last_index g c = (
  λ yes. (let no : false ≡ true = yes in cc),
  λ is.
      let log = c.args.self.now in
      let among = ticket_among log c.args.ticket.now is.0 is.1 _ c.segment_of-n.result (index_of c.args.ticket.now) (says_place c.lsn-place.result (place_of c.args.ticket.now) c.lsn-place.type_inv c.lsn-place.ensures) c.segment_of-n.ensures refl in
      let within = nth_within log c.segment_of-n.result is.1.segment among in
      let past = c.if-n-last_index.true in
      let last = c.last_index.ensures in
      absurd (omega (arith, within, past, last)),
)

pub segment-requires : goal.segment-requires
segment-requires g c = let low = c.if-n-last_index.false in let last = c.last_index.ensures in omega (arith, low, last)

pub returns : goal.returns
returns g c =
    let log = c.args.self.now in
    let s : SegmentBuffer = record { site = c.segment.result.0; buffer = c.segment.result.1.now } in
    let there : slice_get (line_of log) c.segment_of-n.result ≡ Some (segment_view s) = c.segment.ensures.view in (
      λ yes. opens log c.segment_of-n.result s there c.args.ticket.now (c.is_open_in.ensures.0 yes),
      λ is. c.is_open_in.ensures.1 (is_there log c.segment_of-n.result s there c.args.ticket.now _ (says_place c.lsn-place.result (place_of c.args.ticket.now) c.lsn-place.type_inv c.lsn-place.ensures) c.segment_of-n.ensures is),
    )
