-- The blob of the reservation's own goes, which leaves the segments of the log as they were, and then its message is given up there.
use Rattle.std.proofs.Common.{◌≡◌, ◌∙◌, ◌∷◌, ap, refl, sym, subst, List, rules}
use Rattle.std.specs.List.{Contains}
use Rattle.sled_store.specs.Accounts.{machine_of}
use Rattle.sled_store.proofs.Segments.Elements.{in_rest}
use Rattle.sled_core.specs.Pool.{Pool}
use Rattle.sled_core.specs.Fillings.{fillings_along}
use Rattle.sled_core.specs.Heads.{heads_along}
use Rattle.sled_core.specs.Begun.{SegmentView}
use Rattle.sled_core.specs.Fits.{AwaitsIn, given_up_of, line_of, open_places}
use Rattle.sled_core.specs.OpenPlaces.{TakesOutPlaceOf, open_places_along}
use Rattle.sled_core.specs.Among.{AreAmong}
use Rattle.sled_core.specs.GivenUp.{given_up_along}
use Rattle.sled_core.specs.Logged.{in_log}
use Rattle.sled_core.specs.Tickets.{own_blob}
use Rattle.sled_core.proofs.Line.KeptCalls.{ends_none, gives_none}
use Rattle.sled_core.proofs.Line.WithoutBlob.{without_further, without_still}
use Rattle.sled_core.proofs.Line.BlobRemoved.{removes_further, removes_nothing}
use Rattle.sled_core.proofs.Line.LogWrites.{same_line}
use Rattle.sled_core.proofs.logger.Log.abort.Goals as goal

-- With a kept failure nothing is done.

pub returns-in-Some-clause-device : goal.returns-in-Some-clause-device
returns-in-Some-clause-device g c = removes_nothing g.D.Device.trace (own_blob c.args.ticket) c.args.self.now _

pub returns-in-Some-clause-keeps : goal.returns-in-Some-clause-keeps
returns-in-Some-clause-keeps g c = without_still g.D.Device.trace g.C.Checksum.sum_of (own_blob c.args.ticket) c.args.self.now

pub returns-in-Some-clause-ends : goal.returns-in-Some-clause-ends
returns-in-Some-clause-ends g c = ends_none g.D.Device.trace g.C.Checksum.sum_of c.args.ticket c.args.self.now _

-- Without the blob the log has the same segments, so its tickets await what they did.

pub returns-in-Ok-clause-canceled : goal.returns-in-Ok-clause-canceled
returns-in-Ok-clause-canceled g c = λ H m holds awaits.
    let same : line_of c.remove_own.new.self ≡ line_of c.args.self.now = same_line c.args.self.now c.remove_own.new.self c.remove_own.ensures.changes in
    c.give_up.ensures.canceled H m (c.remove_own.ensures.keeps.history H holds) (subst (λ (l : List SegmentView). AwaitsIn l c.args.ticket (in_log m)) (sym same) awaits)

pub returns-in-Ok-clause-ends : goal.returns-in-Ok-clause-ends
returns-in-Ok-clause-ends g c =
    let same : line_of c.remove_own.new.self ≡ line_of c.args.self.now = same_line c.args.self.now c.remove_own.new.self c.remove_own.ensures.changes in
    record {
      others = λ H other m holds awaits apart.
          c.give_up.ensures.ends.others H other m (c.remove_own.ensures.keeps.history H holds) (subst (λ (l : List SegmentView). AwaitsIn l other (in_log m)) (sym same) awaits) apart;
      opens = subst (λ (l : List SegmentView). TakesOutPlaceOf c.give_up.result c.args.ticket (open_places_along l) (open_places c.give_up.new.self)) same c.give_up.ensures.ends.opens;
      position = search rules;
      buffers = search rules;
      heads = λ h there. subst (λ (l : List SegmentView). Contains (heads_along l) h) same (c.give_up.ensures.ends.heads h there);
      fillings = λ f there. subst (λ (l : List SegmentView). Contains (fillings_along l) f) same (c.give_up.ensures.ends.fillings f there);
      machine = c.give_up.ensures.ends.machine ∙ ap machine_of c.remove_own.ensures.changes.accountant;
      pooled = c.give_up.ensures.ends.pooled ∙ ap (λ (x : Pool). x.count) c.remove_own.ensures.changes.pool;
    }

pub returns-in-Err-clause-ends : goal.returns-in-Err-clause-ends
returns-in-Err-clause-ends g c =
    let same : line_of c.remove_own.new.self ≡ line_of c.args.self.now = same_line c.args.self.now c.remove_own.new.self c.remove_own.ensures.changes in
    record {
      others = λ H other m holds awaits apart. subst (λ (l : List SegmentView). AwaitsIn l other (in_log m)) (sym same) awaits;
      opens = search rules;
      position = search rules;
      buffers = search rules;
      heads = λ h there. subst (λ (l : List SegmentView). Contains (heads_along l) h) same there;
      fillings = λ f there. subst (λ (l : List SegmentView). Contains (fillings_along l) f) same there;
      machine = ap machine_of c.remove_own.ensures.changes.accountant;
      pooled = ap (λ (x : Pool). x.count) c.remove_own.ensures.changes.pool;
    }

pub returns-in-Ok-clause-device : goal.returns-in-Ok-clause-device
returns-in-Ok-clause-device g c = removes_further g.D.Device.trace c.remove_own.result c.in-Ok.field-0 _ (own_blob c.args.ticket) (own_blob c.args.ticket) c.args.self.now c.remove_own.new.self c.give_up.new.self c.in-Ok.is refl c.remove_own.ensures.device c.give_up.ensures.same.config

pub returns-in-Ok-clause-keeps : goal.returns-in-Ok-clause-keeps
returns-in-Ok-clause-keeps g c =
    without_further g.D.Device.trace g.C.Checksum.sum_of (own_blob c.args.ticket) c.args.self.now c.remove_own.new.self c.give_up.new.self c.remove_own.ensures.keeps c.give_up.ensures.keeps

pub returns-in-Ok-clause-place : goal.returns-in-Ok-clause-place
returns-in-Ok-clause-place g c = c.give_up.ensures.place

-- The message was given up in these segments.
pub returns-in-Ok-clause-given_up : goal.returns-in-Ok-clause-given_up
returns-in-Ok-clause-given_up g c = λ m awaits.
    let same : line_of c.remove_own.new.self ≡ line_of c.args.self.now = same_line c.args.self.now c.remove_own.new.self c.remove_own.ensures.changes in
    subst (λ (l : List SegmentView). AreAmong (given_up_of c.give_up.new.self) (in_log m ∷ given_up_along l)) same
    (c.give_up.ensures.given_up m (subst (λ (l : List SegmentView). AwaitsIn l c.args.ticket (in_log m)) (sym same) awaits))

pub returns-in-Some-clause-given_up : goal.returns-in-Some-clause-given_up
returns-in-Some-clause-given_up g c = gives_none c.args.ticket c.args.self.now

-- Where its blob couldn't be removed they are as they were.
pub returns-in-Err-clause-given_up : goal.returns-in-Err-clause-given_up
returns-in-Err-clause-given_up g c = λ m awaits n there.
    let same : line_of c.remove_own.new.self ≡ line_of c.args.self.now = same_line c.args.self.now c.remove_own.new.self c.remove_own.ensures.changes in
    in_rest (in_log m) n (given_up_of c.args.self.now) (subst (λ (l : List SegmentView). Contains (given_up_along l) n) same there)
