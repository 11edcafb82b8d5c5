-- One slot more, whose pages are put in its place.
use Rattle.std.proofs.Common.{◌∙◌, ◌<◌, ◌*◌, ◌^◌, ℕ, List, length, map, set, refl, sym, ap, subst, arith, length-set}
use Rattle.std.proofs.lemmas.List.{length-map}
use Rattle.std.specs.List.{All}
use Rattle.sled_store.specs.Accounts.{PageSet, left_in, with_pages}
use Rattle.sled_store.proofs.Accounts.CleanerLemmas.{order_inserted, all_inserted, pages_inserted, entries_put, tied_inserted}
use Rattle.sled_store.proofs.segment.cleaner.SegmentCleaner.insert.Goals as goal

pub invariant_of-self : goal.invariant_of-self
invariant_of-self c =
    let es : List PageSet = c.args.self.now.entries.items in
    let e : PageSet = c.args.pages in
    let ks : List ℕ = c.args.self.now.draining.0 in
    let new : List ℕ = c.insert.new.self.0 in
    record {
      ascending = order_inserted ks new c.args.slot c.insert.ensures.keys c.args.self.now.ascending;
      within = subst (λ n. All (λ k. k < n) new) (sym (length-set es c.args.slot e)) (all_inserted ks new c.args.slot c.insert.ensures.keys (λ k. k < length es) c.requires.entry c.args.self.now.within);
      in_reach = all_inserted ks new c.args.slot c.insert.ensures.keys (λ k. k * c.args.self.now.size < 2 ^ 63) c.requires.in_reach c.args.self.now.in_reach;
    }

pub returns-clause-cleaner : goal.returns-clause-cleaner
returns-clause-cleaner c =
    let es : List PageSet = c.args.self.now.entries.items in
    let e : PageSet = c.args.pages in
    let ks : List ℕ = c.args.self.now.draining.0 in
    let ps : List (List ℕ) = map left_in es in
    let k : ℕ = c.args.slot in
    entries_put es k e c.insert.new.self.0 c.args.pages.0 refl
    ∙ ap (map (with_pages (set ps k c.args.pages.0))) c.insert.ensures.keys
    ∙ pages_inserted ps k c.args.pages.0 ks (omega (arith, c.requires.entry, length-map es left_in)) c.args.self.now.ascending

pub returns-clause-tie : goal.returns-clause-tie
returns-clause-tie c count lt is =
    let es : List PageSet = c.args.self.now.entries.items in
    let e : PageSet = c.args.pages in
    record {
      size_is = is.size_is;
      entries = tied_inserted count (map left_in es) (map left_in (set es c.args.slot e)) c.args.self.now.draining.0 c.args.self.now.ascending is.entries c.insert.new.self.0 c.args.slot c.insert.ensures.keys lt;
      room = record {
        draining = omega (arith, is.room.draining, c.insert.ensures.room);
        entries = omega (arith, is.room.entries, length-set es c.args.slot e);
      };
    }
