-- The search finds a key exactly where it is there.
use Rattle.std.proofs.Common.{◌≡◌, ◌∙◌, ℕ, List, Result, Ok, Err, is_ok, length, sym, IfOk, IfErr}
use Rattle.std.specs.Cmp.{IsTotalOrder}
use Rattle.std.specs.declared.cmp.Ordering.{Ordering}
use Rattle.std.specs.declared.cmp.Ordering.TheVariants.{Less, Equal, Greater}
use Rattle.std.specs.List.{list_any, HoldsAt}
use Rattle.std.specs.List.Sorted.{IsPartitionPoint, IsSearchInRange}
use Rattle.std.specs.BTreeMap.{is_at}
use Rattle.sled_store.proofs.Sorted.SortedLemmas.{found_any, missing_any}
use Rattle.sled_store.proofs.segment.sorted.set.SortedSet.contains.Goals as goal

answered : {K : Type 0} {R : K → K → Ordering} (o : IsTotalOrder R) (x : K) (xs : List K) (r : Result ℕ ℕ) → IsSearchInRange r (length xs)
    → IfOk r (HoldsAt (λ k. R k x ≡ Equal) xs) → IfErr r (IsPartitionPoint (λ k. R k x ≡ Less) (λ k. R k x ≡ Greater) xs) → is_ok r ≡ list_any (is_at (R x)) xs
answered o x xs (Ok i) lt found missing = sym (found_any o x xs i lt found)
answered o x xs (Err i) le found missing = sym (missing_any o x xs i missing)

pub returns : goal.returns
returns g c =
    c.is_ok.ensures.value
    ∙ answered g.met.K.Ord.total c.args.key c.args.self.now.0 c.find.result c.find.ensures.within c.find.ensures.found c.find.ensures.missing
