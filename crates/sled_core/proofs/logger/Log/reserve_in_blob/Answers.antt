-- The log is made ready for a record with the blob's place in it; the blob is made under that place, and then the placeholder is laid out there.
use Rattle.std.proofs.Common.{◌≡◌, ◌∙◌, ap, sym, subst, refl, arith, ℕ, ℤ, pos, List, Some, None, true, w64, to_z, of_z}
use Rattle.std.specs.Option.{IsSome}
use Rattle.std.specs.Prelude.{FitsSigned}
use Rattle.std.proofs.lemmas.Int.{to_z-of_z}
use Rattle.sled_codec.specs.declared.result.Error.TheVariants.{Unsupported}
use Rattle.sled_codec.specs.Spelling.{short_signed}
use Rattle.sled_codec.specs.SpellingLaws.{short_spells-signed}
use Rattle.sled_core.specs.declared.iobuf.Purpose.{Purpose}
use Rattle.sled_core.specs.declared.reservation.Reservation.{Reservation}
use Rattle.sled_core.specs.Causes.{ReserveCauses}
use Rattle.sled_core.specs.Fits.{IsLeastOpen, IsUsedUpFor}
use Rattle.sled_core.specs.Manifests.{kind_for}
use Rattle.sled_core.specs.inside.Prepared.{next_here}
use Rattle.sled_core.specs.Reserves.{reserve_causes}
use Rattle.sled_core.proofs.Line.BlobReserved.{TriesBlob, its_answers, its_device, its_message, its_stored, place_is, ready_behind, ready_place, refused_blob}
use Rattle.sled_core.proofs.Line.Prepares.{IsLaid}
use Rattle.sled_core.proofs.Line.Reserved.{never_io, prepare_refused, refused_same, reserved_ok, well_kept}
use Rattle.sled_core.proofs.Line.Unchanged.{unchanged_still}
use Rattle.sled_core.proofs.logger.Log.reserve_in_blob.Given as given
use Rattle.sled_core.proofs.logger.Log.reserve_in_blob.Goals as goal

pub returns-in_default : goal.returns-in_default
returns-in_default g c =
    let old = c.args.self.now in
    let item : List ℕ = g.T.Serialize.short (g.T.Serialize.meaning c.args.item.now) in
    refused_same g.D.Device.trace g.D.Device.faults g.C.Checksum.sum_of old old c.args.kind c.args.pid item true 8 (unchanged_still old) (Unsupported c.new.result) (λ x is. cc) ((c.requires.fault, c.requires.fault, refl), sym c.kind_for.ensures ∙ c.in_default.is, c.new.ensures.bytes)

pub returns-in-Err : goal.returns-in-Err
returns-in-Err g c =
    let old = c.args.self.now in
    let new = c.prepare.new.self in
    let item : List ℕ = g.T.Serialize.short (g.T.Serialize.meaning c.args.item.now) in
    let did = c.in-Err.ensures in
    let is : kind_for c.args.kind c.args.pid true 8 ≡ Some c.in-Some.message_kind = sym c.kind_for.ensures ∙ c.in-Some.is in
    let causes : ReserveCauses = reserve_causes g.D.Device.trace g.D.Device.faults c.args.kind c.args.pid true 8 old new in
    refused_same g.D.Device.trace g.D.Device.faults g.C.Checksum.sum_of old new c.args.kind c.args.pid item true 8 did.err c.in-Err.e (never_io causes (IsUsedUpFor old c.args.pid 8) (IsLeastOpen old) _ c.in-Err.e did.answers)
    (prepare_refused causes (IsUsedUpFor old c.args.pid 8) (IsLeastOpen old) c.in-Err.e
    (well_kept g.D.Device.trace g.D.Device.faults c.args.kind c.args.pid true 8 old new c.requires.fault did.same) (subst IsSome (sym is) refl) did.answers)

-- The next place is where the record will stand.
place_read : (g : given.Over) (c : goal.After-make_blob-arg-1 g) → to_z w64 (of_z w64 c.next_here-place.result) ≡ pos (next_here c.prepare.new.self).place
place_read g c = to_z-of_z w64 c.next_here-place.result (record { sfits = c.next_here-place.type_inv }) ∙ c.next_here-place.ensures

pub make_blob-requires-clause-place : goal.make_blob-requires-clause-place
make_blob-requires-clause-place g c =
    let kept : Purpose = record { log_kind = c.args.kind; kind = c.in-Some.message_kind; page = c.args.pid; blob = None } in
    place_read g c ∙ ap pos (sym (ready_place g.D.Device.trace g.C.Checksum.sum_of c.args.self.now c.prepare.new.self kept c.prepare.new.head 8 c.in-Ok.ensures.prepared))

pub returns-in-Err-make_blob : goal.returns-in-Err-make_blob
returns-in-Err-make_blob g c =
    let item : List ℕ = g.T.Serialize.short (g.T.Serialize.meaning c.args.item.now) in
    let place : ℤ = to_z w64 (of_z w64 c.next_here-place.result) in
    let is : kind_for c.args.kind c.args.pid true 8 ≡ Some c.in-Some.message_kind = sym c.kind_for.ensures ∙ c.in-Some.is in
    let prepared = c.in-Ok.ensures in
    let did = c.in-Err-make_blob.ensures in
    let tries : TriesBlob g.D.Device.trace g.C.Checksum.sum_of c.args.self.now c.prepare.new.self c.make_blob.new.self c.args.kind c.args.pid c.in-Some.message_kind c.prepare.new.head place = record {
      ready = prepared.prepared;
      same = prepared.same;
      known = is;
      none = c.requires.fault;
      changes = did.changes;
      keeps = did.keeps;
      at = to_z-of_z w64 c.next_here-place.result (record { sfits = c.next_here-place.type_inv }) ∙ c.next_here-place.ensures;
    } in
    refused_blob tries g.D.Device.faults item c.in-Err-make_blob.e (subst IsSome (sym is) refl, prepared.answers.0, prepared.answers.1) did.calls did.refused did.answers

pub returns-in-Ok-make_blob : goal.returns-in-Ok-make_blob
returns-in-Ok-make_blob g c =
    let faults = g.D.Device.faults in
    let made = c.make_blob.new.self in
    let new = c.append-ticket.new.self in
    let item : List ℕ = g.T.Serialize.short (g.T.Serialize.meaning c.args.item.now) in
    let place : ℤ = to_z w64 (of_z w64 c.next_here-place.result) in
    let read : place ≡ c.next_here-place.result = to_z-of_z w64 c.next_here-place.result (record { sfits = c.next_here-place.type_inv }) in
    let is : kind_for c.args.kind c.args.pid true 8 ≡ Some c.in-Some.message_kind = sym c.kind_for.ensures ∙ c.in-Some.is in
    let prepared = c.in-Ok.ensures in
    let did = c.in-Ok-make_blob.ensures in
    let laid = c.append-ticket.ensures in
    let ticket : Reservation = record c.append-ticket.result { own_blob = Some place } in
    let kept : Purpose = record { log_kind = c.args.kind; kind = c.in-Some.message_kind; page = c.args.pid; blob = Some place } in
    let tries : TriesBlob g.D.Device.trace g.C.Checksum.sum_of c.args.self.now c.prepare.new.self made c.args.kind c.args.pid c.in-Some.message_kind c.prepare.new.head place = record {
      ready = prepared.prepared;
      same = prepared.same;
      known = is;
      none = c.requires.fault;
      changes = did.changes;
      keeps = did.keeps;
      at = read ∙ c.next_here-place.ensures;
    } in
    let ends = laid.reserved in
    let is_laid : IsLaid g.D.Device.trace g.C.Checksum.sum_of c.args.self.now made new kept c.prepare.new.head (short_signed place) ticket = record {
      ready = ready_behind tries faults item (Some place);
      known = is;
      spells = short_spells-signed place (subst (FitsSigned w64) (sym read) (record { sfits = c.next_here-place.type_inv }));
      small = c.ranges.pid.fits;
      line = laid.line;
      rest = laid.rest;
      accountant = laid.accountant;
      pool = laid.pool;
      ends = omega (arith, ends);
      own = record { index = laid.ticket.index; place = laid.ticket.place; pointer = laid.ticket.pointer; long = laid.ticket.long };
      manifest = laid.manifest;
    } in
    let same = laid.rest.config in
    reserved_ok faults is_laid item true (its_message tries faults item new did.done same) (its_stored tries faults item new did.done same)
    (its_answers tries faults item new did.done same did.answers laid.rest.fault (subst IsSome (sym is) refl, prepared.answers.0, prepared.answers.1) ticket)
    (its_device tries faults item new did.done same did.calls ticket) (ap Some (place_is tries faults item))
