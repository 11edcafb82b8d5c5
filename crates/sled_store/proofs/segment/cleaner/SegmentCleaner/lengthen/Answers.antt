-- An entry with no pages behind all others is like none.
use Rattle.std.proofs.Common.{◌∙◌, ◌++◌, ◌∷◌, [], ℕ, List, map, ap}
use Rattle.sled_store.specs.Accounts.{PageSet, left_in, with_pages}
use Rattle.sled_store.proofs.Accounts.CleanerLemmas.{entries_added, pages_behind}
use Rattle.sled_store.proofs.segment.cleaner.SegmentCleaner.lengthen.Goals as goal

pub returns-clause-cleaner : goal.returns-clause-cleaner
returns-clause-cleaner c =
    let es : List PageSet = c.args.self.now.entries.items in
    let ks : List ℕ = c.args.self.now.draining.0 in
    let ps : List (List ℕ) = map left_in es in
    ap (λ (l : List PageSet). map (with_pages (map left_in l)) ks) c.in_ok-push.ensures.items
    ∙ entries_added es 0 c.new.result ks ∙ ap (λ (l : List ℕ). map (with_pages (ps ++ l ∷ [])) ks) c.new.ensures.keys ∙ pages_behind ps ks
