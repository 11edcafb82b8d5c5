-- What proofs, and functions that no user calls, need beside `specs/Iterators.antt`. No public contract names it.
use Rattle.std.specs.Prelude.{◌+◌, ℕ, Option, None, Some}
use Rattle.sled_codec.specs.declared.result.Error.{Error}
use Rattle.sled_core.specs.declared.iterator.log_iter.LogIter.{LogIter}
use Rattle.sled_core.specs.inside.Ahead.{most_left}

-- a refusal is one item
abbrev pub items_for : Option Error → ℕ
items_for None = 0
items_for (Some e) = 1

-- not more items than this are ahead of an iterator
unfoldable pub most_ahead : {D C : Type 0} → LogIter D C → ℕ
most_ahead it = most_left it.rest + items_for it.refusal
