-- The unused slots were filled and the file synced, or this stopped on the way.
use Rattle.std.proofs.Common.{refl, ◌≡◌, ℕ, List, Some, None, is_some}
use Rattle.std.specs.Ordering.{nat_cmp}
use Rattle.std.specs.BTreeMap.{get}
use Rattle.sled_store.specs.Begin.{not_below, first_of}
use Rattle.sled_store.proofs.Traces.ScriptLemmas.{performs_nothing, performs_whole}
use Rattle.sled_store.proofs.Segments.FillLemmas.{nothing_filled, all_filled, sync_stopped, filling_stopped}
use Rattle.sled_store.proofs.segment.start.fill_unused.Goals as goal

pub returns-then-are_used-clause-calls : goal.returns-then-are_used-clause-calls
returns-then-are_used-clause-calls g c = performs_nothing _ (g.D.Device.trace c.args.config.now.device) _ refl

pub returns-in_err-zeros-clause-calls : goal.returns-in_err-zeros-clause-calls
returns-in_err-zeros-clause-calls g c = performs_nothing _ (g.D.Device.trace c.args.config.now.device) _ refl

pub returns-in_err-sync-in-Ok-Some-clause-calls : goal.returns-in_err-sync-in-Ok-Some-clause-calls
returns-in_err-sync-in-Ok-Some-clause-calls g c =
    let free : List ℕ = not_below (λ k. is_some (get nat_cmp c.args.table.now.held k)) c.args.slots in
    let first : Some c.in-Ok-Some.first ≡ first_of free = rw c.in-Ok-Some.field-0-is at c.in-Ok-Some.ensures.first in
    sync_stopped c.args.config.now.config.segment_size free c.in-Ok-Some.first (g.D.Device.trace c.args.config.now.device) _ (g.D.Device.trace c.sync.new.self) first c.in-Ok-Some.ensures.done c.in_err-sync-in-Ok-Some.ensures.trace

pub returns-in-Ok-Some-clause-done : goal.returns-in-Ok-Some-clause-done
returns-in-Ok-Some-clause-done g c =
    let free : List ℕ = not_below (λ k. is_some (get nat_cmp c.args.table.now.held k)) c.args.slots in
    let first : Some c.in-Ok-Some.first ≡ first_of free = rw c.in-Ok-Some.field-0-is at c.in-Ok-Some.ensures.first in
    all_filled c.args.config.now.config.segment_size free c.in-Ok-Some.first (g.D.Device.trace c.args.config.now.device) _ (g.D.Device.trace c.sync.new.self) first c.in-Ok-Some.ensures.done c.in_ok-sync-in-Ok-Some.ensures.trace

pub returns-in-Ok-Some-clause-calls : goal.returns-in-Ok-Some-clause-calls
returns-in-Ok-Some-clause-calls g c =
    let free : List ℕ = not_below (λ k. is_some (get nat_cmp c.args.table.now.held k)) c.args.slots in
    let first : Some c.in-Ok-Some.first ≡ first_of free = rw c.in-Ok-Some.field-0-is at c.in-Ok-Some.ensures.first in
    performs_whole _ (g.D.Device.trace c.args.config.now.device) (g.D.Device.trace c.sync.new.self)
    (all_filled c.args.config.now.config.segment_size free c.in-Ok-Some.first (g.D.Device.trace c.args.config.now.device) _ (g.D.Device.trace c.sync.new.self) first c.in-Ok-Some.ensures.done c.in_ok-sync-in-Ok-Some.ensures.trace)

pub returns-in-Ok-None-clause-done : goal.returns-in-Ok-None-clause-done
returns-in-Ok-None-clause-done g c =
    let free : List ℕ = not_below (λ k. is_some (get nat_cmp c.args.table.now.held k)) c.args.slots in
    let none : None ≡ first_of free = rw c.in-Ok-None.field-0-is at c.in-Ok-None.ensures.first in
    nothing_filled c.args.config.now.config.segment_size free (g.D.Device.trace c.args.config.now.device) (g.D.Device.trace c.write_unused.new.config.device) none c.in-Ok-None.ensures.done

pub returns-in-Ok-None-clause-calls : goal.returns-in-Ok-None-clause-calls
returns-in-Ok-None-clause-calls g c =
    let free : List ℕ = not_below (λ k. is_some (get nat_cmp c.args.table.now.held k)) c.args.slots in
    let none : None ≡ first_of free = rw c.in-Ok-None.field-0-is at c.in-Ok-None.ensures.first in
    performs_whole _ (g.D.Device.trace c.args.config.now.device) (g.D.Device.trace c.write_unused.new.config.device)
    (nothing_filled c.args.config.now.config.segment_size free (g.D.Device.trace c.args.config.now.device) (g.D.Device.trace c.write_unused.new.config.device) none c.in-Ok-None.ensures.done)

pub returns-clause-calls : goal.returns-clause-calls
returns-clause-calls g c =
    let free : List ℕ = not_below (λ k. is_some (get nat_cmp c.args.table.now.held k)) c.args.slots in
    filling_stopped c.args.config.now.config.segment_size free (g.D.Device.trace c.args.config.now.device) (g.D.Device.trace c.write_unused.new.config.device) c.in-Err.ensures.failed
