-- What failure a log keeps for an item.
use Rattle.std.proofs.Common.{◌≡◌, ◌⊎◌, Option, Some, None, Result, inl, refl}
use Rattle.std.specs.declared.io.Error.{Error as IoError}
use Rattle.sled_codec.specs.declared.result.Error.{Error}
use Rattle.sled_core.specs.Iterates.{Item}
use Rattle.sled_core.specs.Iterators.{first_failure}
use Rattle.sled_core.proofs.Flush.FlushLemmas.{fault_or_none}

-- the one that it kept, or one
pub first_kept : (old : Option IoError) (item : Option (Result Item Error)) (now : Option IoError) → now ≡ first_failure old item → (now ≡ old) ⊎ ((e : IoError) × (now ≡ Some e))
first_kept (Some e) item now is = inl is
first_kept None item now is = fault_or_none now

-- where it keeps none it kept none
pub first_none : (old : Option IoError) (item : Option (Result Item Error)) (now : Option IoError) → now ≡ first_failure old item → now ≡ None → old ≡ None
first_none (Some e) item now is none = cc
first_none None item now is none = refl
