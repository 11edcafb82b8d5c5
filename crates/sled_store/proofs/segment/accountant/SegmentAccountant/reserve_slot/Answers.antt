-- The slot is in the same state.
use Rattle.std.proofs.Common.{◌∙◌, refl}
use Rattle.std.specs.Vec.{with_item}
use Rattle.sled_store.specs.declared.segment.accountant.SegmentAccountant.{SegmentAccountant}
use Rattle.sled_store.proofs.Accounts.WithLemmas.{read_state, read_drain, kept_machine, kept_account, gone_kept}
use Rattle.sled_store.proofs.segment.accountant.SegmentAccountant.reserve_slot.Goals as goal

pub returns-in_err-reserve-clause-machine : goal.returns-in_err-reserve-clause-machine
returns-in_err-reserve-clause-machine c =
    let a : SegmentAccountant = c.args.self.now in
    kept_machine a.size a (with_item a.slots c.args.slot c.reserve.new.self) c.args.slot c.reserve.new.self refl c.requires.slot (c.reserve.ensures.state ∙ read_state a c.args.slot c.index_mut-s.result.now c.requires.slot c.index_mut-s.ensures.value)

pub returns-in_err-reserve-clause-account : goal.returns-in_err-reserve-clause-account
returns-in_err-reserve-clause-account c =
    let a : SegmentAccountant = c.args.self.now in
    kept_account a.size a (with_item a.slots c.args.slot c.reserve.new.self) c.args.slot c.reserve.new.self refl c.requires.slot (c.reserve.ensures.state ∙ read_state a c.args.slot c.index_mut-s.result.now c.requires.slot c.index_mut-s.ensures.value)
    (c.reserve.ensures.drain (read_drain a c.args.slot c.index_mut-s.result.now c.requires.slot c.requires.account.room_to_drain c.index_mut-s.ensures.value)) c.requires.account

pub returns-clause-machine : goal.returns-clause-machine
returns-clause-machine c =
    let a : SegmentAccountant = c.args.self.now in
    kept_machine a.size a (with_item a.slots c.args.slot c.reserve.new.self) c.args.slot c.reserve.new.self refl c.requires.slot (c.reserve.ensures.state ∙ read_state a c.args.slot c.index_mut-s.result.now c.requires.slot c.index_mut-s.ensures.value)

pub returns-clause-account : goal.returns-clause-account
returns-clause-account c =
    let a : SegmentAccountant = c.args.self.now in
    kept_account a.size a (with_item a.slots c.args.slot c.reserve.new.self) c.args.slot c.reserve.new.self refl c.requires.slot (c.reserve.ensures.state ∙ read_state a c.args.slot c.index_mut-s.result.now c.requires.slot c.index_mut-s.ensures.value)
    (c.reserve.ensures.drain (read_drain a c.args.slot c.index_mut-s.result.now c.requires.slot c.requires.account.room_to_drain c.index_mut-s.ensures.value)) c.requires.account

pub returns-in_err-reserve-clause-gone : goal.returns-in_err-reserve-clause-gone
returns-in_err-reserve-clause-gone c = gone_kept c.args.self.now c.args.slot c.index_mut-s.result.now c.reserve.new.self c.requires.slot c.index_mut-s.ensures.value c.reserve.ensures.gone

pub returns-clause-gone : goal.returns-clause-gone
returns-clause-gone c = gone_kept c.args.self.now c.args.slot c.index_mut-s.result.now c.reserve.new.self c.requires.slot c.index_mut-s.ensures.value c.reserve.ensures.gone
