-- Those are kept that aren't wholly on the device.
use Rattle.std.proofs.Common.{rules, arith, ap, refl, subst, sym, ◌∙◌, ◌≡◌, ◌<◌, ◌∷◌, [], ℕ, Bool, true, false, List, map, cond}
use Rattle.std.specs.Prelude.{nat_le, nat_lt, if◌then◌else◌}
use Rattle.std.specs.List.{filter}
use Rattle.std.proofs.lemmas.Bool.Decides.{nat_tests}
use Rattle.std.proofs.lemmas.Fn.{filter_same}
use Rattle.std.proofs.lemmas.List.Elements.{All-filter, All-same}
use Rattle.sled_codec.specs.History.{Batch}
use Rattle.sled_core.specs.declared.logger.batches.NotedBatch.{NotedBatch}
use Rattle.sled_core.specs.inside.OpenBatches.{AreByPlace}
use Rattle.sled_core.specs.OpenBatches.{batch_of, not_whole}
use Rattle.sled_core.proofs.Reached.ByPlace.{left_by_place}
use Rattle.sled_core.proofs.logger.batches.PendingBatches.keep_open.Goals as goal

-- A batch is kept whose peg isn't below the end of what is on the device.
abbrev stays : ℕ → NotedBatch → Bool
stays end b = nat_le end b.peg

left_open : (end : ℕ) (xs : List NotedBatch) → map batch_of (filter (stays end) xs) ≡ not_whole end (map batch_of xs)
left_open end [] = refl
left_open end (b ∷ xs) = by (left_open end xs) (nat_lt b.peg end) refl where
  by : map batch_of (filter (stays end) xs) ≡ not_whole end (map batch_of xs) → (o : Bool) → nat_lt b.peg end ≡ o
      → map batch_of (cond (nat_le end b.peg) (b ∷ filter (stays end) xs) (filter (stays end) xs)) ≡ (if o then not_whole end (map batch_of xs) else batch_of b ∷ not_whole end (map batch_of xs))
  by rest true ended = let test : nat_le end b.peg ≡ false = grind (arith, nat_tests, ended) in ap (λ (o : Bool). map batch_of (cond o (b ∷ filter (stays end) xs) (filter (stays end) xs))) test ∙ rest
  by rest false later = let test : nat_le end b.peg ≡ true = grind (arith, nat_tests, later) in ap (λ (o : Bool). map batch_of (cond o (b ∷ filter (stays end) xs) (filter (stays end) xs))) test ∙ ap (λ (l : List Batch). batch_of b ∷ l) rest

pub returns-clause-items : goal.returns-clause-items
returns-clause-items c =
    let kept : c.retain.new.self.items ≡ filter (stays c.args.end) c.args.self.now.noted.items = filter_same _ _ _ (λ x b f' k. search rules) _ _ c.retain.ensures.filtered in
    ap (map batch_of) kept ∙ left_open c.args.end c.args.self.now.noted.items

pub invariant_of-self : goal.invariant_of-self
invariant_of-self c =
    let old = c.args.self.now in
    let kept : c.retain.new.self.items ≡ filter (stays c.args.end) old.noted.items = filter_same _ _ _ (λ x b f' k. search rules) _ _ c.retain.ensures.filtered in
    record {
      by_place = subst (AreByPlace 0) (sym (ap (map batch_of) kept ∙ left_open c.args.end old.noted.items)) (left_by_place c.args.end 0 (map batch_of old.noted.items) old.by_place);
      room = (let fewer = c.retain.ensures.bound in let same = c.retain.ensures.capacity in let room = old.room in search (rules, fewer, same, room));
    }

pub returns-clause-pegs : goal.returns-clause-pegs
returns-clause-pegs c to all =
    let kept : c.retain.new.self.items ≡ filter (stays c.args.end) c.args.self.now.noted.items = filter_same _ _ _ (λ x b f' k. search rules) _ _ c.retain.ensures.filtered in
    All-same (λ (b : NotedBatch). b.peg < to) c.retain.new.self.items (filter (stays c.args.end) c.args.self.now.noted.items) kept (All-filter (stays c.args.end) (λ (b : NotedBatch). b.peg < to) c.args.self.now.noted.items all)
