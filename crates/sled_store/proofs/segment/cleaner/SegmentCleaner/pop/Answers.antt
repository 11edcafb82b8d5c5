-- The first slot is asked for a page; one that has none left goes.
use Rattle.std.proofs.Common.{◌≡◌, ◌∙◌, ◌<◌, ◌*◌, ◌^◌, ℕ, Option, Some, None, List, [], length, get_or, set, drop, map, slice_get, refl, ap, arith, length-set}
use Rattle.std.proofs.lemmas.List.{length-map}
use Rattle.std.specs.BTreeMap.{is_at}
use Rattle.std.specs.Map.{remove_entry}
use Rattle.std.specs.Ordering.{nat_cmp}
use Rattle.sled_store.specs.declared.segment.cleaner.SegmentCleaner.{SegmentCleaner}
use Rattle.sled_store.specs.Accounts.{PageSet, left_in, with_pages}
use Rattle.sled_store.proofs.Accounts.CleanerLemmas.{left_at, all_first, page_first, left_first, none_first, gone_first, entries_put, tied_same}
use Rattle.sled_store.proofs.segment.cleaner.SegmentCleaner.pop.Goals as goal

-- a cleaner, its first slot, and the entry of that
module _ (cleaner : SegmentCleaner) (k : ℕ) (d : PageSet) (first : Some k ≡ slice_get cleaner.draining.0 0) (read : d ≡ get_or cleaner.entries.items k d) where
  abbrev pages : List (List ℕ)
  pages = map left_in cleaner.entries.items

  there : k < length cleaner.entries.items
  there = all_first (λ n. n < length cleaner.entries.items) k cleaner.draining.0 first cleaner.within

  left_is : left_in d ≡ get_or pages k []
  left_is = left_at cleaner.entries.items k d there read

  -- what was asked for is the first of what is left there
  asked : (o : Option ℕ) → o ≡ slice_get (left_in d) 0 → o ≡ slice_get (get_or pages k []) 0
  asked o page = page ∙ ap (λ l. slice_get l 0) left_is

  -- the entry has one page less
  less : (e : PageSet) → left_in e ≡ drop 1 (left_in d) → map (with_pages (map left_in (set cleaner.entries.items k e))) cleaner.draining.0 ≡ map (with_pages (set pages k (drop 1 (get_or pages k [])))) cleaner.draining.0
  less e is = entries_put cleaner.entries.items k e cleaner.draining.0 (drop 1 (get_or pages k [])) (is ∙ ap (drop 1) left_is)

pub returns-in_default-take_first-clause-page : goal.returns-in_default-take_first-clause-page
returns-in_default-take_first-clause-page c =
    let a : SegmentCleaner = c.args.self.now in
    none_first c.in-Some.slot (map left_in a.entries.items) (asked a c.in-Some.slot c.index_mut.result.now c.in-Some.ensures c.index_mut.ensures.value None c.in_default-take_first.ensures.key) a.size a.draining.0 c.in-Some.ensures

pub returns-in_default-take_first-clause-left : goal.returns-in_default-take_first-clause-left
returns-in_default-take_first-clause-left c =
    let a : SegmentCleaner = c.args.self.now in
    let k : ℕ = c.in-Some.slot in
    let d : PageSet = c.index_mut.result.now in
    c.remove.ensures.cleaner
    ∙ ap (remove_entry (is_at (nat_cmp k))) (less a k d c.in-Some.ensures c.index_mut.ensures.value c.take_first.new.self c.take_first.ensures.keys)
    ∙ gone_first k (map left_in a.entries.items) (asked a k d c.in-Some.ensures c.index_mut.ensures.value None c.in_default-take_first.ensures.key) a.draining.0 c.in-Some.ensures

pub returns-in_default-take_first-clause-tie : goal.returns-in_default-take_first-clause-tie
returns-in_default-take_first-clause-tie c count is =
    let a : SegmentCleaner = c.args.self.now in
    let k : ℕ = c.in-Some.slot in
    c.remove.ensures.tie count (record {
      size_is = refl;
      entries = tied_same count (map left_in a.entries.items) (map left_in (set a.entries.items k c.take_first.new.self)) a.draining.0 a.ascending is.entries;
      room = record { draining = is.room.draining; entries = omega (arith, is.room.entries, length-set a.entries.items k c.take_first.new.self) };
    })

pub overflow_mul-result : goal.overflow_mul-result
overflow_mul-result c =
    let reach : c.in-Some.slot * c.args.self.now.size < 2 ^ 63 = all_first (λ k. k * c.args.self.now.size < 2 ^ 63) c.in-Some.slot c.args.self.now.draining.0 c.in-Some.ensures c.args.self.now.in_reach in
    omega arith

pub returns-clause-page : goal.returns-clause-page
returns-clause-page c =
    let a : SegmentCleaner = c.args.self.now in
    page_first c.in-Some.slot (map left_in a.entries.items) c.in-Some-take_first.page
    (asked a c.in-Some.slot c.index_mut.result.now c.in-Some.ensures c.index_mut.ensures.value (Some c.in-Some-take_first.page) c.in-Some-take_first.ensures.key) a.size a.draining.0 c.in-Some.ensures

pub returns-clause-left : goal.returns-clause-left
returns-clause-left c =
    let a : SegmentCleaner = c.args.self.now in
    let k : ℕ = c.in-Some.slot in
    let d : PageSet = c.index_mut.result.now in
    less a k d c.in-Some.ensures c.index_mut.ensures.value c.take_first.new.self c.take_first.ensures.keys
    ∙ left_first k (map left_in a.entries.items) c.in-Some-take_first.page (asked a k d c.in-Some.ensures c.index_mut.ensures.value (Some c.in-Some-take_first.page) c.in-Some-take_first.ensures.key) a.draining.0 c.in-Some.ensures
    (omega (arith, there a k d c.in-Some.ensures c.index_mut.ensures.value, length-map a.entries.items left_in)) a.ascending

pub returns-clause-tie : goal.returns-clause-tie
returns-clause-tie c count is =
    let a : SegmentCleaner = c.args.self.now in
    let k : ℕ = c.in-Some.slot in
    record {
      size_is = is.size_is;
      entries = tied_same count (map left_in a.entries.items) (map left_in (set a.entries.items k c.take_first.new.self)) a.draining.0 a.ascending is.entries;
      room = record { draining = is.room.draining; entries = omega (arith, is.room.entries, length-set a.entries.items k c.take_first.new.self) };
    }
