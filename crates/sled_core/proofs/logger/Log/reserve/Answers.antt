-- A message is reserved by how long its item is: in its record, or in a blob.
use Rattle.std.proofs.Common.{◌≡◌, ◌∙◌, inl, sym, ℕ, List, length, true, false}
use Rattle.sled_codec.specs.declared.result.Error.TheVariants.{Io}
use Rattle.sled_core.specs.Fits.{body_length, in_blob_of}
use Rattle.sled_core.specs.Reserves.{ReservesAs}
use Rattle.sled_core.proofs.Line.KeptCalls.{kept_still}
use Rattle.sled_core.proofs.Line.Reserved.{device_same, reserved_blob, reserved_inline}
use Rattle.sled_core.proofs.Line.Unchanged.{unchanged_still}
use Rattle.sled_core.proofs.logger.Log.reserve.Given as given
use Rattle.sled_core.proofs.logger.Log.reserve.Goals as goal

-- Where the log keeps a failure.

pub returns-in-Some-clause-device : goal.returns-in-Some-clause-device
returns-in-Some-clause-device g c =
    let old = c.args.self.now in
    let item : List ℕ = g.T.Serialize.short (g.T.Serialize.meaning c.args.item.now) in
    device_same g.D.Device.trace g.D.Device.faults g.C.Checksum.sum_of old old c.args.kind c.args.pid item (in_blob_of old (length item)) (body_length old (length item)) (unchanged_still old) (Io c.in-Some.e) (in_blob_of old (length item)) _ _

pub returns-in-Some-clause-keeps : goal.returns-in-Some-clause-keeps
returns-in-Some-clause-keeps g c = kept_still g.D.Device.trace g.C.Checksum.sum_of c.args.self.now

pub returns-in-Some-clause-left : goal.returns-in-Some-clause-left
returns-in-Some-clause-left g c = inl (c.in-Some.is, unchanged_still c.args.self.now)

-- Where the item goes to a blob.

in_a_blob : (g : given.Over) (c : goal.After-reserve_in_blob g)
    → ReservesAs g.D.Device.trace g.D.Device.faults g.C.Checksum.sum_of c.reserve_in_blob.result c.args.kind c.args.pid (g.T.Serialize.short (g.T.Serialize.meaning c.args.item.now))
    (in_blob_of c.args.self.now (length (g.T.Serialize.short (g.T.Serialize.meaning c.args.item.now)))) (body_length c.args.self.now (length (g.T.Serialize.short (g.T.Serialize.meaning c.args.item.now)))) c.args.self.now c.reserve_in_blob.new.self
in_a_blob g c =
    reserved_blob g.D.Device.trace g.D.Device.faults g.C.Checksum.sum_of c.reserve_in_blob.result c.args.kind c.args.pid (g.T.Serialize.short (g.T.Serialize.meaning c.args.item.now)) c.args.self.now c.reserve_in_blob.new.self
    (λ fits. let clash : false ≡ true = sym c.if-not-fits_inline.true ∙ c.fits_inline.ensures.1 fits in cc) c.reserve_in_blob.ensures

pub returns-then-not-fits_inline-clause-ticket : goal.returns-then-not-fits_inline-clause-ticket
returns-then-not-fits_inline-clause-ticket g c = (in_a_blob g c).ticket

pub returns-then-not-fits_inline-clause-stored : goal.returns-then-not-fits_inline-clause-stored
returns-then-not-fits_inline-clause-stored g c = (in_a_blob g c).stored

pub returns-then-not-fits_inline-clause-own : goal.returns-then-not-fits_inline-clause-own
returns-then-not-fits_inline-clause-own g c = (in_a_blob g c).own

pub returns-then-not-fits_inline-clause-behind : goal.returns-then-not-fits_inline-clause-behind
returns-then-not-fits_inline-clause-behind g c = (in_a_blob g c).behind

pub returns-then-not-fits_inline-clause-answers : goal.returns-then-not-fits_inline-clause-answers
returns-then-not-fits_inline-clause-answers g c = (in_a_blob g c).answers

pub returns-then-not-fits_inline-clause-device : goal.returns-then-not-fits_inline-clause-device
returns-then-not-fits_inline-clause-device g c = (in_a_blob g c).device

pub returns-then-not-fits_inline-clause-left : goal.returns-then-not-fits_inline-clause-left
returns-then-not-fits_inline-clause-left g c = (in_a_blob g c).left

-- Where it goes to its record.

in_record : (g : given.Over) (c : goal.After-reserve_inline g)
    → ReservesAs g.D.Device.trace g.D.Device.faults g.C.Checksum.sum_of c.reserve_inline.result c.args.kind c.args.pid (g.T.Serialize.short (g.T.Serialize.meaning c.args.item.now))
    (in_blob_of c.args.self.now (length (g.T.Serialize.short (g.T.Serialize.meaning c.args.item.now)))) (body_length c.args.self.now (length (g.T.Serialize.short (g.T.Serialize.meaning c.args.item.now)))) c.args.self.now c.reserve_inline.new.self
in_record g c =
    reserved_inline g.D.Device.trace g.D.Device.faults g.C.Checksum.sum_of c.reserve_inline.result c.args.kind c.args.pid (g.T.Serialize.short (g.T.Serialize.meaning c.args.item.now)) c.args.self.now c.reserve_inline.new.self
    (c.fits_inline.ensures.0 c.if-not-fits_inline.false) c.reserve_inline.ensures

pub returns-clause-ticket : goal.returns-clause-ticket
returns-clause-ticket g c = (in_record g c).ticket

pub returns-clause-stored : goal.returns-clause-stored
returns-clause-stored g c = (in_record g c).stored

pub returns-clause-own : goal.returns-clause-own
returns-clause-own g c = (in_record g c).own

pub returns-clause-behind : goal.returns-clause-behind
returns-clause-behind g c = (in_record g c).behind

pub returns-clause-answers : goal.returns-clause-answers
returns-clause-answers g c = (in_record g c).answers

pub returns-clause-device : goal.returns-clause-device
returns-clause-device g c = (in_record g c).device

pub returns-clause-left : goal.returns-clause-left
returns-clause-left g c = (in_record g c).left
