-- So far: there is room in the slots of the messages up to here.
use Rattle.std.proofs.Common.{◌≡◌, ◌/◌, take}
use Rattle.std.specs.List.{All}
use Rattle.sled_codec.specs.Pointers.{lid_of}
use Rattle.sled_store.specs.Accounts.{IsAccountant, machine_of, size_of}
use Rattle.sled_store.specs.inside.Accounts.{GoneFits}
use Rattle.sled_store.proofs.segment.accountant.SegmentAccountant.reserve_gone.Given as goal

abbrev pub invariant-loop-o : goal.invariant-loop-o
invariant-loop-o l =
    record {
      machine : machine_of l.self ≡ machine_of l.fn.self;
      account : IsAccountant (size_of l.fn.self) l.self;
      gone : All (λ o. GoneFits l.fn.pid l.self (lid_of o.pointer / size_of l.fn.self)) (take l.o-index l.old);
    }
