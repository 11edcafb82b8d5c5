-- One message more is replaced.
use Rattle.std.proofs.Common.{ℕ, List, subst}
use Rattle.sled_store.specs.declared.segment.slot.CacheInfo.{CacheInfo}
use Rattle.sled_store.specs.Accounts.{IsAccountant, machine_of, size_of}
use Rattle.sled_store.proofs.Accounts.OldLemmas.{item_same, step_done, step_used}
use Rattle.sled_store.proofs.segment.accountant.SegmentAccountant.replace_all.Goals as goal

pub loop-o-preserved : goal.loop-o-preserved
loop-o-preserved c =
    let os : List CacheInfo = c.args.old.now in
    let i : ℕ = c.loop-o.o-index in
    let size : ℕ = c.args.self.now.size in
    let inv = c.loop-o.invariant in
    record {
      done = step_done size (size_of c.loop-o.self) c.args.pid c.args.place os i _ (machine_of c.loop-o.self) (machine_of c.replace_one.new.self) c.loop-o-test.true inv.account.size_is (item_same os i _ _ c.loop-o-test.true) c.replace_one.ensures.done (machine_of c.args.self.now) inv.done;
      account = subst (λ n. IsAccountant n c.replace_one.new.self) inv.account.size_is c.replace_one.ensures.account;
      used = step_used size (size_of c.loop-o.self) c.args.pid c.args.place os i _ (machine_of c.loop-o.self) (machine_of c.replace_one.new.self) c.loop-o-test.true inv.account.size_is (item_same os i _ _ c.loop-o-test.true) c.replace_one.ensures.done inv.used;
      gone = λ k d lt e. c.replace_one.ensures.kept _ (inv.gone k d lt) e;
    }
