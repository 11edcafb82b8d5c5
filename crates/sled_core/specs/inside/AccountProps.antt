-- What an accountant keeps of its parts is a proposition: there is one proof of it at most.
use Rattle.std.specs.Prelude.{ℕ}
use Rattle.std.proofs.Props.{props}
use Rattle.sled_store.specs.declared.segment.accountant.SegmentAccountant.{SegmentAccountant}
use Rattle.sled_store.specs.Accounts.{IsAccountant}

pub IsAccountant-prop : (size : ℕ) (a : SegmentAccountant) → IsProp (IsAccountant size a)
IsAccountant-prop size a = Prim.hlevel props
