-- The cleaner alone changes.
use Rattle.std.proofs.Common.{◌∙◌, ℕ, length, refl}
use Rattle.sled_store.specs.Accounts.{machine_of}
use Rattle.sled_store.proofs.segment.accountant.SegmentAccountant.clean_pop.Goals as goal

pub returns-clause-account : goal.returns-clause-account
returns-clause-account c =
    let count : ℕ = length (machine_of c.args.self.now).slots in
    let tie = c.pop.ensures.tie count (record { size_is = refl; entries = c.requires.cleaner.entries; room = c.requires.cleaner.room }) in
    record {
      size_is = c.requires.size_is;
      some = c.requires.some;
      small = c.requires.small;
      in_reach = c.requires.in_reach;
      slots = c.requires.slots;
      indexes = c.requires.indexes;
      cleaner = record { size_is = tie.size_is ∙ c.requires.cleaner.size_is; entries = tie.entries; room = tie.room };
      room_to_drain = c.requires.room_to_drain;
      rooms = record {
        free = c.requires.rooms.free;
        active = c.requires.rooms.active;
        inactive = c.requires.rooms.inactive;
        waiting = c.requires.rooms.waiting;
      };
    }
