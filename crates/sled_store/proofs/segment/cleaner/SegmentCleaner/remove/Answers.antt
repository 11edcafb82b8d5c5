-- One slot less, whose pages go where it has any.
use Rattle.std.proofs.Common.{◌∙◌, ◌<◌, ◌*◌, ◌^◌, ℕ, List, [], length, get_or, map, set, get_or-set_same, sym, ap, subst, arith, length-set}
use Rattle.std.proofs.lemmas.List.{get_or_past, length-map, map-set}
use Rattle.std.specs.List.{All}
use Rattle.sled_store.specs.Accounts.{PageSet, left_in, with_pages}
use Rattle.sled_store.proofs.Accounts.CleanerLemmas.{order_removed, all_removed, pages_removed, pages_without, entries_put, tied_removed}
use Rattle.sled_store.proofs.segment.cleaner.SegmentCleaner.remove.Goals as goal

pub invariant_of-self : goal.invariant_of-self
invariant_of-self c =
    let ks : List ℕ = c.args.self.now.draining.0 in
    let new : List ℕ = c.remove.new.self.0 in
    record {
      ascending = order_removed ks new c.args.slot c.remove.ensures.keys c.args.self.now.ascending;
      within = all_removed ks new c.args.slot c.remove.ensures.keys (λ k. k < length c.args.self.now.entries.items) c.args.self.now.within;
      in_reach = all_removed ks new c.args.slot c.remove.ensures.keys (λ k. k * c.args.self.now.size < 2 ^ 63) c.args.self.now.in_reach;
    }

pub returns-then-slot-len-clause-cleaner : goal.returns-then-slot-len-clause-cleaner
returns-then-slot-len-clause-cleaner c =
    let ps : List (List ℕ) = map left_in c.args.self.now.entries.items in
    ap (map (with_pages ps)) c.remove.ensures.keys ∙ pages_without ps c.args.slot c.args.self.now.draining.0 c.args.self.now.ascending

pub returns-then-slot-len-clause-tie : goal.returns-then-slot-len-clause-tie
returns-then-slot-len-clause-tie c count is =
    let ps : List (List ℕ) = map left_in c.args.self.now.entries.items in
    record {
      size_is = is.size_is;
      entries = tied_removed count ps ps c.args.self.now.draining.0 c.args.self.now.ascending is.entries c.remove.new.self.0 c.args.slot c.remove.ensures.keys;
      room = record { draining = omega (arith, is.room.draining, c.remove.ensures.room); entries = is.room.entries };
    }

pub returns-then-slot-len-clause-memory : goal.returns-then-slot-len-clause-memory
returns-then-slot-len-clause-memory c =
    let es : List PageSet = c.args.self.now.entries.items in
    get_or_past (map (λ (e : PageSet). e.1) es) c.args.slot 0 (omega (arith, c.if-slot-len.true, c.len.ensures, length-map es (λ (e : PageSet). e.1)))

pub invariant_of-self-2 : goal.invariant_of-self-2
invariant_of-self-2 c =
    let es : List PageSet = c.args.self.now.entries.items in
    let ks : List ℕ = c.args.self.now.draining.0 in
    let new : List ℕ = c.remove.new.self.0 in
    record {
      ascending = order_removed ks new c.args.slot c.remove.ensures.keys c.args.self.now.ascending;
      within = subst (λ n. All (λ k. k < n) new) (sym (length-set es c.args.slot c.new.result)) (all_removed ks new c.args.slot c.remove.ensures.keys (λ k. k < length es) c.args.self.now.within);
      in_reach = all_removed ks new c.args.slot c.remove.ensures.keys (λ k. k * c.args.self.now.size < 2 ^ 63) c.args.self.now.in_reach;
    }

pub returns-clause-cleaner : goal.returns-clause-cleaner
returns-clause-cleaner c =
    let es : List PageSet = c.args.self.now.entries.items in
    let ps : List (List ℕ) = map left_in es in
    let k : ℕ = c.args.slot in
    entries_put es k c.new.result c.remove.new.self.0 [] c.new.ensures.keys
    ∙ ap (map (with_pages (set ps k []))) c.remove.ensures.keys
    ∙ pages_removed ps k [] c.args.self.now.draining.0 c.args.self.now.ascending

pub returns-clause-tie : goal.returns-clause-tie
returns-clause-tie c count is =
    let es : List PageSet = c.args.self.now.entries.items in
    record {
      size_is = is.size_is;
      entries = tied_removed count (map left_in es) (map left_in (set es c.args.slot c.new.result)) c.args.self.now.draining.0 c.args.self.now.ascending is.entries c.remove.new.self.0 c.args.slot c.remove.ensures.keys;
      room = record {
        draining = omega (arith, is.room.draining, c.remove.ensures.room);
        entries = omega (arith, is.room.entries, length-set es c.args.slot c.new.result);
      };
    }

pub returns-clause-memory : goal.returns-clause-memory
returns-clause-memory c =
    let es : List PageSet = c.args.self.now.entries.items in
    let rooms : List ℕ = map (λ (e : PageSet). e.1) es in
    ap (λ l. get_or l c.args.slot 0) (map-set (λ (e : PageSet). e.1) es c.args.slot c.new.result)
    ∙ get_or-set_same rooms c.args.slot c.new.result.1 0 (omega (arith, c.if-slot-len.false, c.len.ensures, length-map es (λ (e : PageSet). e.1)))
    ∙ c.new.ensures.room
