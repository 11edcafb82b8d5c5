-- A place is that of an active segment where a slot is there behind it.
use Rattle.std.proofs.Common.{◌∙◌, ◌==◌, ℕ, ap, sym, is_some}
use Rattle.std.specs.List.{list_any}
use Rattle.sled_store.specs.SegmentStates.{is_active_place}
use Rattle.sled_store.specs.Accounts.{machine_of}
use Rattle.sled_store.proofs.Accounts.StabilFirst.{any_at}
use Rattle.sled_store.proofs.segment.accountant.SegmentAccountant.is_active_place.Goals as goal

pub returns-in-Some : goal.returns-in-Some
returns-in-Some c =
    let place : ℕ = c.in-Some.place in
    c.is_some.ensures ∙ ap is_some c.first_at.ensures ∙ any_at place c.args.self.now.active.0
    ∙ ap (list_any (λ (a : ℕ × ℕ). a.0 == place)) c.requires.indexes.active_is ∙ ap (is_active_place (machine_of c.args.self.now)) (sym c.in-Some.is)
