-- A walk along the records of one number comes to just the offsets that a reader comes to, and tries each record once.
use Rattle.std.proofs.Common.{◌<◌, ◌+◌, ℕ, suc, List, arith}
use Rattle.sled_store.specs.Foreign.{IsReached, at_first, behind}
use Rattle.sled_store.specs.Readers.{BeginsAt}
use Rattle.sled_store.proofs.Own.ReachedLemmas.{same_len, first_step, goes_on}

module _ (sum : List ℕ → ℕ) (size number : ℕ) (text : List ℕ) where
  -- a reader that came to a record comes behind it
  pub comes_behind : (first here len : ℕ) → IsReached sum size number text first here → BeginsAt sum number text here len → IsReached sum size number text first (here + len)
  comes_behind first here len came b = behind here len b.kind b.page b.body came b.inside b.is

  -- and comes from there to all that it comes to further on
  pub goes_further : (here len at : ℕ) → BeginsAt sum number text here len → here < at → IsReached sum size number text here at → IsReached sum size number text (here + len) at
  goes_further here len at b less reached =
      let found = first_step sum size number text here at reached less in
      let found_le = found.2 in
      let same = same_len sum size number text here len found.0 b found.1 in
      goes_on sum size number (suc (here + len + at)) text here (here + len) at (omega arith) (comes_behind here here len at_first b) reached (omega (arith, found_le, same))

  -- where no record begins it comes no further
  pub stops_there : (here at : ℕ) → ((len : ℕ) → BeginsAt sum number text here len → ⊥) → here < at → IsReached sum size number text here at → ⊥
  stops_there here at none less reached = let found = first_step sum size number text here at reached less in none found.0 found.1
