-- The last slot is free, and so is another one: its cut is made, and then the sync.
use Rattle.std.proofs.Common.{◌∙◌, ◌-◌, ◌*◌, ℕ, [], ◌∷◌, ap}
use Rattle.sled_store.specs.Device.{Trace, Cut, Synced}
use Rattle.sled_store.proofs.Traces.ScriptLemmas.{performs_all, performs_whole, stop_call}
use Rattle.sled_store.proofs.Accounts.StabilCut.{shorter_account}
use Rattle.sled_store.proofs.segment.accountant.SegmentAccountant.cut_last.Goals as goal

pub returns-in_err-cut-clause-calls : goal.returns-in_err-cut-clause-calls
returns-in_err-cut-clause-calls g c =
    let at : ℕ = (c.args.self.now.tip - 1) * c.args.self.now.size in
    stop_call (Cut at at) (Synced ∷ []) (g.D.Device.trace c.args.device.now) (g.D.Device.trace c.cut.new.self) c.in_err-cut.ensures.trace

pub returns-in_err-cut-clause-account : goal.returns-in_err-cut-clause-account
returns-in_err-cut-clause-account g c = shorter_account c.args.self.now.size c.args.self.now c.remove.new.self c.requires.account c.requires.may c.remove.ensures.keys c.remove.ensures.room

pub returns-in_err-sync-clause-calls : goal.returns-in_err-sync-clause-calls
returns-in_err-sync-clause-calls g c =
    let at : ℕ = (c.args.self.now.tip - 1) * c.args.self.now.size in
    performs_all (Cut at at) (Synced ∷ []) (g.D.Device.trace c.args.device.now) (g.D.Device.trace c.cut.new.self) (g.D.Device.trace c.sync.new.self) c.in_ok-cut.ensures.trace
    (stop_call Synced [] (g.D.Device.trace c.cut.new.self) (g.D.Device.trace c.sync.new.self) c.in_err-sync.ensures.trace)

pub returns-in_err-sync-clause-account : goal.returns-in_err-sync-clause-account
returns-in_err-sync-clause-account g c = shorter_account c.args.self.now.size c.args.self.now c.remove.new.self c.requires.account c.requires.may c.remove.ensures.keys c.remove.ensures.room

pub returns-clause-calls : goal.returns-clause-calls
returns-clause-calls g c =
    let at : ℕ = (c.args.self.now.tip - 1) * c.args.self.now.size in
    performs_whole (Cut at at ∷ Synced ∷ []) (g.D.Device.trace c.args.device.now) (g.D.Device.trace c.sync.new.self) (c.in_ok-sync.ensures.trace ∙ ap (λ (h : Trace). Synced ∷ h) c.in_ok-cut.ensures.trace)

pub returns-clause-account : goal.returns-clause-account
returns-clause-account g c = shorter_account c.args.self.now.size c.args.self.now c.remove.new.self c.requires.account c.requires.may c.remove.ensures.keys c.remove.ensures.room
