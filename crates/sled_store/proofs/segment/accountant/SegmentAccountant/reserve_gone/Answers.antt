-- One slot more has room.
use Rattle.std.proofs.Common.{◌∙◌, ◌/◌, ℕ, List, take_all, subst, arith}
use Rattle.std.specs.List.{All}
use Rattle.sled_codec.specs.Pointers.{lid_of}
use Rattle.sled_store.specs.declared.segment.slot.CacheInfo.{CacheInfo}
use Rattle.sled_store.specs.Accounts.{IsAccountant}
use Rattle.sled_store.specs.inside.Accounts.{GoneFits}
use Rattle.sled_store.proofs.Segments.FitLemmas.{all_one}
use Rattle.sled_store.proofs.Accounts.OldLemmas.{item_same}
use Rattle.sled_store.proofs.segment.accountant.SegmentAccountant.reserve_gone.Goals as goal

pub loop-o-preserved : goal.loop-o-preserved
loop-o-preserved c =
    let os : List CacheInfo = c.args.old.now in
    let i : ℕ = c.loop-o.o-index in
    let size : ℕ = c.args.self.now.size in
    let inv = c.loop-o.invariant in
    record {
      machine = c.reserve_gone_in.ensures.machine ∙ inv.machine;
      account = subst (λ n. IsAccountant n c.reserve_gone_in.new.self) inv.account.size_is c.reserve_gone_in.ensures.account;
      gone = all_one (λ (o : CacheInfo). GoneFits c.args.pid c.reserve_gone_in.new.self (lid_of o.pointer / size)) os i _ c.loop-o-test.true (item_same os i _ _ c.loop-o-test.true)
          (λ k d lt. c.reserve_gone_in.ensures.kept c.args.pid _ (inv.gone k d lt)) (subst (λ n. GoneFits c.args.pid c.reserve_gone_in.new.self (n / size)) c.lid.ensures (c.in_ok-reserve_gone_in.ensures.gone c.args.pid));
    }

pub returns-clause-gone : goal.returns-clause-gone
returns-clause-gone c = subst (All (λ (o : CacheInfo). GoneFits c.args.pid c.loop-o.self (lid_of o.pointer / c.args.self.now.size))) (take_all c.loop-o.o-index c.args.old.now (omega (arith, c.loop-o-test.false))) c.loop-o.invariant.gone
