-- One more slot was written.
use Rattle.std.proofs.Common.{refl, arith, subst, sym, ◌+◌, ◌≡◌, ◌%◌, length, ◌<◌}
use Rattle.sled_store.specs.Device.{state_of}
use Rattle.sled_file.proofs.CopyLemmas.{copied_by_write, next_begins}
use Rattle.sled_file.proofs.copy.write_slots.Goals as goal

pub loop-at-preserved : goal.loop-at-preserved
loop-at-preserved g c =
    let at = c.loop-at.at in
    let left = c.loop-at-test.true in
    let count_is = c.min-count.ensures in
    let begins = c.loop-at.invariant.begins left in
    record {
      within = omega (arith, left, count_is);
      begins = λ more. subst (λ n. (at + n) % c.args.size ≡ 0) (sym count_is)
          (next_begins c.args.size c.args.bytes.now c.requires.size at (state_of (g.D.Device.trace c.loop-at.device)) c.loop-at.invariant.has left begins (subst (λ n. at + n < length c.args.bytes.now) count_is more));
      has = copied_by_write c.args.size c.args.bytes.now c.requires.size at (state_of (g.D.Device.trace c.loop-at.device)) c.loop-at.invariant.has left begins c.min-count.result
          (g.D.Device.trace c.loop-at.device) (g.D.Device.trace c.write_at.new.self) refl count_is c.in_ok-write_at.ensures.trace;
    }
