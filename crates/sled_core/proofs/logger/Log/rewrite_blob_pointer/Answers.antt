-- The log is made ready for a record with the place of an old blob in it; then its placeholder is laid out there.
use Rattle.std.specs.declared.io.Error.{Error as IoError}
use Rattle.std.proofs.Common.{[], Option, sym, subst, refl, arith, ℕ, ℤ, Some, None, Err, w64, to_z, of_z}
use Rattle.std.specs.Prelude.{FitsSigned}
use Rattle.std.proofs.lemmas.Int.{to_z-of_z}
use Rattle.sled_codec.specs.declared.result.Error.{Error}
use Rattle.sled_codec.specs.declared.result.Error.TheVariants as error
use Rattle.sled_codec.specs.declared.result.DiskPtr.TheVariants.{Blob}
use Rattle.sled_codec.specs.declared.serialization.message.LogKind.TheVariants.{Replace}
use Rattle.sled_codec.specs.Spelling.{short_signed}
use Rattle.sled_codec.specs.SpellingLaws.{short_spells-signed}
use Rattle.sled_core.specs.declared.iobuf.Purpose.{Purpose}
use Rattle.sled_core.specs.declared.reservation.Reservation.{Reservation}
use Rattle.sled_core.specs.Causes.{RewriteAnswers}
use Rattle.sled_core.specs.Fits.{IsLeastOpen, IsUsedUpFor, message_rewriting, open_for, size_for, target_of}
use Rattle.sled_core.specs.Positions.{lid_at}
use Rattle.sled_core.specs.inside.Prepared.{PrepareAnswers}
use Rattle.sled_core.proofs.Line.KeptCalls.{kept_still}
use Rattle.sled_core.proofs.Line.Prepares.{IsLaid, made_behind, made_keeps, made_others, made_same, made_ticket}
use Rattle.sled_core.proofs.Line.Unchanged.{unchanged_keeps, unchanged_tickets}
use Rattle.sled_core.proofs.logger.Log.rewrite_blob_pointer.Given as given
use Rattle.sled_core.proofs.logger.Log.rewrite_blob_pointer.Goals as goal

pub returns-in-Some-clause-keeps : goal.returns-in-Some-clause-keeps
returns-in-Some-clause-keeps g c = kept_still g.D.Device.trace g.C.Checksum.sum_of c.args.self.now

-- Where it couldn't be made ready.

rewrite_refused : (e : Error) (used : Type 0) (count : ℕ) (least : ℤ → Type 0) → PrepareAnswers {T = Unit {0}} (Err e) used count least → RewriteAnswers {T = Reservation} (Err e) None used count least
rewrite_refused error.PlacesUsedUp used count least is = (refl, is)
rewrite_refused (error.Held place) used count least is = (refl, is.0, is.1, is.2)
rewrite_refused error.OutOfMemory used count least is = (refl, is.0, is.1)
rewrite_refused (error.Io e) used count least is = absurd is
rewrite_refused (error.Unsupported text) used count least is = absurd is
rewrite_refused (error.Corruption place) used count least is = absurd is
rewrite_refused (error.NotReserved place) used count least is = absurd is
rewrite_refused (error.CollectionNotFound name) used count least is = absurd is
rewrite_refused (error.ReportableBug text) used count least is = absurd is

pub returns-in-Err-clause-others : goal.returns-in-Err-clause-others
returns-in-Err-clause-others g c = (unchanged_tickets c.args.self.now c.prepare.new.self c.in-Err.ensures.err).awaits

pub returns-in-Err-clause-keeps : goal.returns-in-Err-clause-keeps
returns-in-Err-clause-keeps g c = unchanged_keeps c.args.self.now c.prepare.new.self c.in-Err.ensures.err g.D.Device.trace g.C.Checksum.sum_of

pub returns-in-Err-clause-answers : goal.returns-in-Err-clause-answers
returns-in-Err-clause-answers g c = subst (λ (x : Option IoError). RewriteAnswers {T = Reservation} (Err c.in-Err.e) x (IsUsedUpFor c.args.self.now c.args.pid 8) (open_for c.args.self.now c.args.pid 8) (IsLeastOpen c.args.self.now)) (sym c.in_default.is) (rewrite_refused c.in-Err.e (IsUsedUpFor c.args.self.now c.args.pid 8) (open_for c.args.self.now c.args.pid 8) (IsLeastOpen c.args.self.now) c.in-Err.ensures.answers)

-- What was laid out.

abbrev its_place : (g : given.Over) → goal.After-append g → ℤ
its_place g c = to_z w64 (of_z w64 c.args.blob)

abbrev its_kept : (g : given.Over) → goal.After-append g → Purpose
its_kept g c = record { log_kind = Replace; kind = c.rewritten_kind.result; page = c.args.pid; blob = Some (its_place g c) }

its_laid : (g : given.Over) (c : goal.After-append g) → IsLaid g.D.Device.trace g.C.Checksum.sum_of c.args.self.now c.prepare.new.self c.append.new.self (its_kept g c) c.prepare.new.head (short_signed (its_place g c)) c.append.result
its_laid g c =
    let end = c.append.ensures.reserved in
    record {
      ready = c.in-Ok.ensures.prepared;
      known = c.rewritten_kind.ensures;
      spells = short_spells-signed (its_place g c) (subst (FitsSigned w64) (sym (to_z-of_z w64 c.args.blob c.ranges.blob)) c.ranges.blob);
      small = c.ranges.pid.fits;
      line = c.append.ensures.line;
      rest = c.append.ensures.rest;
      accountant = c.append.ensures.accountant;
      pool = c.append.ensures.pool;
      ends = omega (arith, end);
      own = c.append.ensures.ticket;
      manifest = c.append.ensures.manifest;
    }

pub returns-in-Ok-clause-ticket : goal.returns-in-Ok-clause-ticket
returns-in-Ok-clause-ticket g c = λ item. made_ticket (its_laid g c) (message_rewriting c.args.self.now c.args.pid c.args.blob item)
    (λ i. record { kind = Replace; page = c.args.pid; place = (target_of c.args.self.now c.args.pid 8).place; pointer = Blob (lid_at (target_of c.args.self.now c.args.pid 8)) (sym (to_z-of_z w64 c.args.blob c.ranges.blob) i); size = size_for c.args.self.now c.args.pid 8; bytes = [] })

pub returns-in-Ok-clause-behind : goal.returns-in-Ok-clause-behind
returns-in-Ok-clause-behind g c = made_behind (its_laid g c)

pub returns-in-Ok-clause-manifest : goal.returns-in-Ok-clause-manifest
returns-in-Ok-clause-manifest g c = c.append.ensures.manifest

pub returns-in-Ok-clause-own : goal.returns-in-Ok-clause-own
returns-in-Ok-clause-own g c = c.append.ensures.own

pub returns-in-Ok-clause-others : goal.returns-in-Ok-clause-others
returns-in-Ok-clause-others g c = made_others (its_laid g c)

pub returns-in-Ok-clause-keeps : goal.returns-in-Ok-clause-keeps
returns-in-Ok-clause-keeps g c = made_keeps (its_laid g c)

pub returns-in-Ok-clause-same : goal.returns-in-Ok-clause-same
returns-in-Ok-clause-same g c = made_same (its_laid g c) c.in-Ok.ensures.same

pub returns-in-Ok-clause-answers : goal.returns-in-Ok-clause-answers
returns-in-Ok-clause-answers g c = (c.in_default.is, c.in-Ok.ensures.answers.0, c.in-Ok.ensures.answers.1)
