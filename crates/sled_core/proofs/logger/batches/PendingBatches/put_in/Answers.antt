-- It is put in where the search ended: there is room for it.
use Rattle.std.proofs.Common.{◌≡◌, ◌∙◌, ◌⊎◌, ◌<◌, ◌+◌, ℕ, Vec, Bool, true, if◌then◌else◌, map, sym, ap, subst, arith, rules, length, vec_len, vec_capacity}
use Rattle.std.specs.List.{insert}
use Rattle.std.proofs.lemmas.List.Elements.{All-contains, All-map}
use Rattle.sled_codec.specs.History.{Batch}
use Rattle.sled_core.specs.declared.logger.batches.NotedBatch.{NotedBatch}
use Rattle.sled_core.specs.declared.logger.batches.PendingBatches.{PendingBatches}
use Rattle.sled_core.specs.inside.OpenBatches.{AreByPlace}
use Rattle.sled_core.specs.OpenBatches.{batch_of}
use Rattle.sled_core.proofs.Reached.ByPlace.{with_by_place}
use Rattle.sled_core.proofs.Reached.Searched.{put_in_place}
use Rattle.sled_core.proofs.logger.batches.PendingBatches.put_in.Goals as goal

-- There is room,
fits : (old : PendingBatches) → length old.noted.items + old.manifests < vec_capacity old.noted → vec_len old.noted < vec_capacity old.noted
fits old room = (let is : length old.noted.items < vec_capacity old.noted = omega (arith, room) in search (rules, is))

-- so it is in the list,
all_of : {A : Type 0} (old new : Vec NotedBatch A) (b : NotedBatch) (at : ℕ) (ok : Bool) → ok ≡ true → new.items ≡ (if ok then insert old.items at b else old.items) → new.items ≡ insert old.items at b
all_of old new b at ok is items = items ∙ ap (λ (o : Bool). if o then insert old.items at b else old.items) is

-- which is one longer.
longer : {A : Type 0} (old new : Vec NotedBatch A) (ok : Bool) → ok ≡ true → vec_len new ≡ (if ok then vec_len old + 1 else vec_len old) → length new.items ≡ length old.items + 1
longer old new ok is len =
    let all : vec_len new ≡ vec_len old + 1 = len ∙ ap (λ (o : Bool). if o then vec_len old + 1 else vec_len old) is in
    search (rules, all)

pub invariant_of-self : goal.invariant_of-self
invariant_of-self c =
    let old = c.args.self.now in
    let ok = c.insert.ensures.succeeds (fits old c.requires.room) in
    record {
      by_place = subst (AreByPlace 0) (sym (ap (map batch_of) (all_of old.noted c.insert.new.self c.args.b c.begun_before-at.result _ ok c.insert.ensures.items) ∙ put_in_place c.args.b old.noted.items c.begun_before-at.result c.begun_before-at.ensures.bound c.begun_before-at.ensures.point))
          (with_by_place (batch_of c.args.b) c.requires.above 0 (omega arith) (map batch_of old.noted.items)
          (λ b there. All-contains (λ (x : Batch). (x.peg < c.args.b.low) ⊎ (c.args.b.peg < x.low)) (map batch_of old.noted.items) b (All-map (λ (x : Batch). (x.peg < c.args.b.low) ⊎ (c.args.b.peg < x.low)) batch_of old.noted.items c.requires.apart) there)
          old.by_place);
      room = (let one = longer old.noted c.insert.new.self _ ok c.insert.ensures.len in let room = c.requires.room in let grows = c.insert.ensures.capacity in omega (arith, one, room, grows));
    }

pub returns-clause-items : goal.returns-clause-items
returns-clause-items c =
    let old = c.args.self.now in
    ap (map batch_of) (all_of old.noted c.insert.new.self c.args.b c.begun_before-at.result _ (c.insert.ensures.succeeds (fits old c.requires.room)) c.insert.ensures.items)
    ∙ put_in_place c.args.b old.noted.items c.begun_before-at.result c.begun_before-at.ensures.bound c.begun_before-at.ensures.point

pub returns-clause-longer : goal.returns-clause-longer
returns-clause-longer c =
    let old = c.args.self.now in
    longer old.noted c.insert.new.self _ (c.insert.ensures.succeeds (fits old c.requires.room)) c.insert.ensures.len
