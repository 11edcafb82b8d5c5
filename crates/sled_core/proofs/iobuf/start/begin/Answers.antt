-- Where a log begins: in the slot that the accountant hands out next, behind its calls.
use Rattle.std.proofs.Common.{◌≡◌, ◌∙◌, ◌≤◌, ◌<◌, ◌+◌, ◌*◌, ◌^◌, ℕ, List, length, refl, sym, ap, subst, arith}
use Rattle.std.proofs.Math.Nat.{mul-le-mul_right}
use Rattle.sled_codec.specs.Snapshots.{SnapshotModel, model_of, stable_place}
use Rattle.sled_store.specs.Accounts.{IsAccountant, MayHandOut, machine_of}
use Rattle.sled_store.specs.Begin.{slots_of, unused, first_or, place_at, beginning_at, beginning_of, IsInReach}
use Rattle.sled_store.specs.declared.config.Config.{Config}
use Rattle.sled_store.specs.declared.segment.start.Beginning.{Beginning}
use Rattle.sled_store.specs.Device.{state_of}
use Rattle.sled_store.specs.SegmentStates.{Machine, next_slot}
use Rattle.sled_store.specs.Started.{found, started}
use Rattle.sled_store.proofs.Accounts.StartNext.{lowest_within, left_below, next_started}
use Rattle.sled_store.proofs.Traces.ScriptLemmas.{performs_nothing}
use Rattle.sled_core.specs.inside.FirstBuffer.{IsFirstBuffer}
use Rattle.sled_core.specs.FreeSlots.{with_current}
use Rattle.sled_core.proofs.Start.OpenLemmas.{begins_place, begins_offset}
use Rattle.sled_core.proofs.iobuf.start.begin.Goals as goal

-- the next slot is the one in which the snapshot lets a log begin
next_is : (size len next : ℕ) (s : SnapshotModel) (m : Machine) → next ≡ next_slot m → m ≡ (started size len s).machine → next ≡ first_or (slots_of size len) (unused size (slots_of size len) s)
next_is size len next s m is same = is ∙ ap next_slot same ∙ next_started size len s

-- a segment in it ends in reach
next_in_reach : (size len next : ℕ) (s : SnapshotModel) → next ≡ first_or (slots_of size len) (unused size (slots_of size len) s) → IsInReach size len s → next * size + size < 2 ^ 63
next_in_reach size len next s is reach =
    let slots : ℕ = slots_of size len in
    let low : next * size ≤ slots * size =
    mul-le-mul_right size (let within = lowest_within size slots s in let below = left_below (found size slots s).slots slots in let le : next ≤ slots = omega (arith, is, within, below) in le) in
    let slots_reach = reach.slots in
    omega (arith, low, slots_reach)

pub returns-in-Err-clause-calls : goal.returns-in-Err-clause-calls
returns-in-Err-clause-calls g c = performs_nothing _ (g.D.Device.trace c.args.config.now.device) (g.D.Device.trace c.args.config.now.device) refl

pub beginning_at-beginning-requires-clause-next : goal.beginning_at-beginning-requires-clause-next
beginning_at-beginning-requires-clause-next g c =
    let size : ℕ = c.args.config.now.config.segment_size in
    let len : ℕ = length (state_of (g.D.Device.trace c.args.config.now.device)).log.bytes in
    let s : SnapshotModel = model_of c.args.snapshot.now in
    let same : c.start.new.config.config.segment_size ≡ size = ap (λ (x : Config). x.segment_size) c.start.ensures.config in
    let is = next_is size len c.next_slot-next.result s (machine_of c.in-Ok-start.accountant) c.next_slot-next.ensures.slot c.in-Ok-start.ensures.machine in
    subst (λ n. c.next_slot-next.result * n + n < 2 ^ 63) (sym same) (next_in_reach size len c.next_slot-next.result s is c.in-Ok-start.ensures.answers.1)

-- it begins as the snapshot says
begins : (size now len : ℕ) (s : SnapshotModel) (next : ℕ) (b : Beginning) → now ≡ size → next ≡ first_or (slots_of size len) (unused size (slots_of size len) s)
    → ((slots : ℕ) (free : List ℕ) → next ≡ first_or slots free → b ≡ beginning_at now slots (stable_place s.stable) free s.active) → b ≡ beginning_of size len s
begins size now len s next b same is at = at (slots_of size len) (unused size (slots_of size len) s) is ∙ ap (λ n. beginning_at n (slots_of size len) (stable_place s.stable) (unused size (slots_of size len) s) s.active) same

pub returns-in-Ok-take_slot-clause-beginning : goal.returns-in-Ok-take_slot-clause-beginning
returns-in-Ok-take_slot-clause-beginning g c =
    let size : ℕ = c.args.config.now.config.segment_size in
    let len : ℕ = length (state_of (g.D.Device.trace c.args.config.now.device)).log.bytes in
    let s : SnapshotModel = model_of c.args.snapshot.now in
    let is = next_is size len c.next_slot-next.result s (machine_of c.in-Ok-start.accountant) c.next_slot-next.ensures.slot c.in-Ok-start.ensures.machine in
    begins size c.start.new.config.config.segment_size len s c.next_slot-next.result c.beginning_at-beginning.result (ap (λ (x : Config). x.segment_size) c.start.ensures.config) is c.beginning_at-beginning.ensures

-- So the buffer is that of its segment.
pub returns-in-Ok-take_slot-clause-buffer : goal.returns-in-Ok-take_slot-clause-buffer
returns-in-Ok-take_slot-clause-buffer g c =
    let size : ℕ = c.args.config.now.config.segment_size in
    let len : ℕ = length (state_of (g.D.Device.trace c.args.config.now.device)).log.bytes in
    let s : SnapshotModel = model_of c.args.snapshot.now in
    let is = returns-in-Ok-take_slot-clause-beginning g c in
    let place = ap (λ (x : Beginning). x.place) is ∙ begins_place size (slots_of size len) (stable_place s.stable) (unused size (slots_of size len) s) s.active in
    let offset = ap (λ (x : Beginning). x.offset) is ∙ begins_offset size (slots_of size len) (stable_place s.stable) (unused size (slots_of size len) s) s.active in
    subst (λ n. IsFirstBuffer g.C.Checksum.sum_of n c.beginning_at-beginning.result.offset c.in-Ok.buffer) (sym place)
    (subst (λ n. IsFirstBuffer g.C.Checksum.sum_of (place_at size (stable_place s.stable) s.active) n c.in-Ok.buffer) (sym offset) (c.in-Ok.ensures.buffer c.in-Ok-start.ensures.answers.1.places))

-- The segment may take the next slot.

may_take : (size len : ℕ) (s : SnapshotModel) (m : Machine) → m ≡ (started size len s).machine → IsInReach size len s → MayHandOut size (place_at size (stable_place s.stable) s.active) m
may_take size len s m is reach = record { place = reach.places; offset = next_in_reach size len (next_slot m) s (next_is size len (next_slot m) s m refl is) reach }

pub take_slot-requires-clause-account : goal.take_slot-requires-clause-account
take_slot-requires-clause-account g c = subst (λ (x : Config). IsAccountant x.segment_size c.in-Ok-start.accountant) (sym c.start.ensures.config) c.in-Ok-start.ensures.account

pub take_slot-requires-clause-may : goal.take_slot-requires-clause-may
take_slot-requires-clause-may g c =
    let size : ℕ = c.args.config.now.config.segment_size in
    let len : ℕ = length (state_of (g.D.Device.trace c.args.config.now.device)).log.bytes in
    let s : SnapshotModel = model_of c.args.snapshot.now in
    let m : Machine = machine_of c.in-Ok-start.accountant in
    subst (λ (x : Config). MayHandOut x.segment_size (place_at x.segment_size (stable_place s.stable) s.active) m) (sym c.start.ensures.config) (may_take size len s m c.in-Ok-start.ensures.machine c.in-Ok-start.ensures.answers.1)

-- Then the accountant has what it has once the log has begun.

pub returns-in-Ok-take_slot-clause-machine : goal.returns-in-Ok-take_slot-clause-machine
returns-in-Ok-take_slot-clause-machine g c =
    let s : SnapshotModel = model_of c.args.snapshot.now in
    let size : ℕ = c.args.config.now.config.segment_size in
    let m : Machine = machine_of c.in-Ok-start.accountant in
    c.in-Ok-take_slot.ensures.taken
    ∙ ap (λ (x : Config). with_current (place_at x.segment_size (stable_place s.stable) s.active) s.active m) c.start.ensures.config
    ∙ ap (with_current (place_at size (stable_place s.stable) s.active) s.active) c.in-Ok-start.ensures.machine

pub returns-in-Ok-take_slot-clause-account : goal.returns-in-Ok-take_slot-clause-account
returns-in-Ok-take_slot-clause-account g c = subst (λ (x : Config). IsAccountant x.segment_size c.take_slot.new.accountant) c.start.ensures.config c.take_slot.ensures.account
