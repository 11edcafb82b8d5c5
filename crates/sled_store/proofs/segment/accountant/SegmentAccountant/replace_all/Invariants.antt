-- So far: the messages up to here were replaced, and the slots of all of them can still be noted.
use Rattle.std.proofs.Common.{◌≡◌, ◌/◌, take}
use Rattle.std.specs.List.{All}
use Rattle.sled_codec.specs.Pointers.{lid_of}
use Rattle.sled_store.specs.SegmentStates.{replaced_all}
use Rattle.sled_store.specs.Accounts.{IsAccountant, machine_of, size_of}
use Rattle.sled_store.specs.inside.Accounts.{IsUsed, GoneFits}
use Rattle.sled_store.proofs.segment.accountant.SegmentAccountant.replace_all.Given as goal

abbrev pub invariant-loop-o : goal.invariant-loop-o
invariant-loop-o l =
    record {
      done : machine_of l.self ≡ replaced_all (size_of l.fn.self) l.pid l.place (take l.o-index l.old) (machine_of l.fn.self);
      account : IsAccountant (size_of l.fn.self) l.self;
      used : All (λ o. IsUsed (machine_of l.self) (lid_of o.pointer / size_of l.fn.self)) l.old;
      gone : All (λ o. GoneFits l.pid l.self (lid_of o.pointer / size_of l.fn.self)) l.old;
    }
