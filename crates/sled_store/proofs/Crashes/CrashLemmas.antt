-- A patched content may be left exactly where its log may: both ends of what names may be are always among what a crash may leave of them.
use Rattle.std.proofs.Common.{◌<◌, ◌↔◌, ℕ, List, length, All}
use Rattle.sled_store.specs.Device.{Trace, state_of, patched, LeavesLog, Settled, Latest}
use Rattle.sled_store.specs.Chosen.{MayBeLeft}
use Rattle.sled_store.proofs.Crashes.SettledLemmas.{name_settled_left, name_read_left}

pub same_iff : {A B C : Type 0} → A ↔ B → B ↔ C → A ↔ C
same_iff first second = (λ a. second.0 (first.0 a), λ c. first.1 (second.1 c))

pub settled_may_be : (h : Trace) (patch : List (ℕ × ℕ)) → (All (λ p. p.0 < length (state_of h).log.settled) patch × LeavesLog (state_of h).log (patched (state_of h).log.settled patch)) ↔ MayBeLeft (Settled patch) (state_of h)
settled_may_be h patch =
    (λ both. (both.0, record { log = both.1; blobs = name_settled_left (state_of h).blobs; snapshots = name_settled_left (state_of h).snapshots }), λ left. (left.0, left.1.log))

pub latest_may_be : (h : Trace) (patch : List (ℕ × ℕ)) → (All (λ p. p.0 < length (state_of h).log.bytes) patch × LeavesLog (state_of h).log (patched (state_of h).log.bytes patch)) ↔ MayBeLeft (Latest patch) (state_of h)
latest_may_be h patch =
    (λ both. (both.0, record { log = both.1; blobs = name_read_left (state_of h).blobs; snapshots = name_read_left (state_of h).snapshots }), λ left. (left.0, left.1.log))
