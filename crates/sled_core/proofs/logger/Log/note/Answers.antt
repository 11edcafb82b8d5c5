-- The batches that aren't wholly on the device are those that were, and the one that is noted: those that were may have been looked through before.
use Rattle.std.proofs.Common.{◌≡◌, ◌∙◌, ◌≤◌, ◌*◌, ℕ, ap, arith, length, map, subst, sym, List}
use Rattle.std.specs.List.{Contains}
use Rattle.sled_codec.specs.History.{Batch}
use Rattle.sled_core.specs.declared.logger.batches.PendingBatches.{PendingBatches}
use Rattle.sled_core.specs.declared.logger.Log.{Log}
use Rattle.sled_core.specs.Fits.{noted_in, synced_end}
use Rattle.sled_core.specs.OpenBatches.{batch_of, not_whole, with_batch}
use Rattle.sled_core.proofs.Line.Places.{reserved_in_reach}
use Rattle.sled_core.proofs.Reached.ByPlace.{left_with, one_longer}
use Rattle.sled_core.proofs.Reached.Searched.{each_apart}
use Rattle.sled_core.proofs.logger.Log.note.Goals as goal

-- What isn't wholly on the device stays where some is left out, and one more is among them.
module _ {D C : Type 0} (log : Log D C) (n : ℕ) (is : n ≡ synced_end log) (some : PendingBatches) (same : not_whole n (map batch_of some.noted.items) ≡ not_whole n (map batch_of log.batches.noted.items)) where
  left : not_whole (synced_end log) (map batch_of some.noted.items) ≡ noted_in log
  left = subst (λ m. not_whole m (map batch_of some.noted.items) ≡ not_whole m (map batch_of log.batches.noted.items)) is same

  more : (b : Batch) (all : PendingBatches) → synced_end log ≤ b.low → b.low ≤ b.peg → map batch_of all.noted.items ≡ with_batch b (map batch_of some.noted.items) → not_whole (synced_end log) (map batch_of all.noted.items) ≡ with_batch b (noted_in log)
  more b all unwritten above items =
      ap (not_whole (synced_end log)) items
      ∙ left_with (synced_end log) b unwritten above 0 (map batch_of some.noted.items) some.by_place
      ∙ ap (with_batch b) left

pub put_in-requires-clause-room : goal.put_in-requires-clause-room
put_in-requires-clause-room g c =
    let room = c.requires.room.place in
    let fewer = c.drop_whole.ensures.fewer in
    let space = c.drop_whole.ensures.capacity in
    let manifests = c.drop_whole.ensures.manifests in
    omega (arith, room, fewer, space, manifests)

pub put_in-requires-clause-in_reach : goal.put_in-requires-clause-in_reach
put_in-requires-clause-in_reach g c = let reach = reserved_in_reach c.args.self.now in let low = c.requires.within in omega (arith, reach, low)

pub put_in-requires-clause-apart : goal.put_in-requires-clause-apart
put_in-requires-clause-apart g c =
    each_apart (synced_end c.args.self.now) c.args.low c.args.peg c.requires.unwritten c.drop_whole.new.self.noted.items (λ b known. c.requires.apart b (subst (λ (l : List Batch). Contains l b) (left c.args.self.now _ c.synced_end-end.ensures.is c.drop_whole.new.self c.drop_whole.ensures.noted) known))

pub invariant_of-self : goal.invariant_of-self
invariant_of-self g c =
    let log = c.args.self.now in
    record {
      line = record {
        lies = log.line.lies;
        filled = log.line.filled;
        indexed = log.line.indexed;
      };
      account = log.account;
      noted = record {
        pegs = c.put_in.ensures.pegs log.reserved_to c.requires.within (c.drop_whole.ensures.pegs log.reserved_to log.noted.pegs);
        counted = log.noted.counted ∙ sym (c.put_in.ensures.manifests ∙ c.drop_whole.ensures.manifests);
      };
      pooling = record { few = log.pooling.few; room = log.pooling.room; there = log.pooling.there };
    }

pub returns-clause-noted : goal.returns-clause-noted
returns-clause-noted g c = more c.args.self.now _ c.synced_end-end.ensures.is c.drop_whole.new.self c.drop_whole.ensures.noted (record { low = c.args.low; peg = c.args.peg }) c.put_in.new.self c.requires.unwritten c.requires.above c.put_in.ensures.items

pub returns-clause-few : goal.returns-clause-few
returns-clause-few g c =
    let log = c.args.self.now in
    let b : Batch = record { low = c.args.low; peg = c.args.peg } in
    let some = c.drop_whole.new.self in
    let is = c.synced_end-end.ensures.is in
    let count = ap length (more log _ is some c.drop_whole.ensures.noted b c.put_in.new.self c.requires.unwritten c.requires.above c.put_in.ensures.items) in
    let one = one_longer b (noted_in log) in
    let kept = ap length (left log _ is some c.drop_whole.ensures.noted) in
    let few = subst (λ n. length some.noted.items ≤ 2 * length (not_whole n (map batch_of some.noted.items))) is c.drop_whole.ensures.few in
    let longer = c.put_in.ensures.longer in
    omega (arith, count, one, kept, few, longer)
