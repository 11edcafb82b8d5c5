-- What a caller carries from call to call, and needn't read: see `specs/Iterators.antt`.
use Rattle.std.specs.Prelude.{◌≡◌, ℕ, List, None, IfNone}
use Rattle.sled_store.specs.Device.{Trace}
use Rattle.sled_core.specs.declared.iterator.log_iter.LogIter.{LogIter}
use Rattle.sled_core.specs.Iterates.{Item, Damage}
use Rattle.sled_core.specs.inside.Ahead.{IsLeft, IsSpent}
use Rattle.sled_core.specs.Sources.{config_in}

-- These messages are ahead of an iterator that wasn't refused, and then damage or the end.
unfoldable pub IsAhead : {D C : Type 0} → (D → Trace) → (List ℕ → ℕ) → LogIter D C → List Item → Damage → Type 0
IsAhead trace sum it items damage = IfNone it.refusal (IsLeft trace sum (config_in it.source) it.rest items damage)

-- No message is ahead of an iterator, and nothing is read any more.
unfoldable pub IsOver : {D C : Type 0} → LogIter D C → Type 0
IsOver it = (it.refusal ≡ None) × IsSpent it.rest
