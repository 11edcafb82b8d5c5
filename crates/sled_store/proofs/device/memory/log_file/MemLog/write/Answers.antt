-- A write that was carried out is a write of the state.
use Rattle.std.proofs.Common.{refl, take, arith, rules, length-take}
use Rattle.std.proofs.lemmas.Bool.Decides.{nat_tests}
use Rattle.sled_store.proofs.LogFile.StandsLemmas.{written}
use Rattle.sled_store.proofs.device.memory.log_file.MemLog.write.Goals as goal

pub returns-clause-ok : goal.returns-clause-ok
returns-clause-ok c = λ s stands. written c.args.self.now _ s c.args.at c.args.bytes.now (take c.args.count c.args.bytes.now) (record {
  some = grind (arith, nat_tests);
  part = omega (arith, length-take c.args.count c.args.bytes.now);
  bytes = search rules;
  settled = c.make_room-2.ensures.items;
  least = refl;
  most = omega arith;
  unsynced = search rules;
  cut = refl;
  room = omega (arith, c.in_ok-make_room.ensures.room);
  old_room = omega arith;
  settled_room = omega (arith, c.in_ok-make_room-2.ensures.room);
  old_settled_room = omega arith;
}) stands
