-- The patch is taken exactly where a crash may leave it.
use Rattle.std.proofs.Common.{◌≡◌, ◌≤◌, ◌<◌, ◌∙◌, ◌↔◌, ◌&&◌, ap, sym, subst, ℕ, Bool, List, length, if◌then◌else◌, arith, vec_capacity, IsTrue, All}
use Rattle.sled_store.specs.declared.device.memory.log_file.MemLog.{MemLog}
use Rattle.sled_store.specs.Device.{patched, LeavesLog}
use Rattle.sled_store.specs.inside.Memory.{are_in, are_kept}
use Rattle.sled_store.proofs.Crashes.CrashLogLemmas.{base_of, taken-iff, rest_fits}
use Rattle.sled_store.proofs.device.memory.log_file.MemLog.crash.Goals as goal

pub rest-requires-clause-settled_room : goal.rest-requires-clause-settled_room
rest-requires-clause-settled_room c =
    let log : MemLog = c.args.self.now in
    let stands = c.requires.1 in
    let patch : List (ℕ × ℕ) = c.args.patch.now in
    let n = vec_capacity log.settled in
    let bytes_fit : length log.bytes.items ≤ n = omega (arith, stands.no_longer, stands.settled_room, ap length stands.bytes) in
    let settled_fit : length log.settled.items ≤ n = omega (arith, stands.settled_no_longer, stands.settled_room, ap length stands.settled) in
    subst (λ (xs : List ℕ). length xs ≤ n) (sym c.put_back-2.ensures.items)
    (rest_fits log.bytes.items log.settled.items c.attempt-taken.new.bytes.items c.args.back c.attempt-taken.result patch n bytes_fit settled_fit
    (λ is. c.attempt-taken.ensures.bytes is ∙ ap (λ (b : List ℕ). patched b patch) c.put_back.ensures.items))

pub returns-clause-taken : goal.returns-clause-taken
returns-clause-taken c = λ s stands.
    let log : MemLog = c.args.self.now in
    let back = c.args.back in
    let patch : List (ℕ × ℕ) = c.args.patch.now in
    let base : List ℕ = if back then s.settled else s.bytes in
    let start : c.put_back.new.bytes.items ≡ base =
    c.put_back.ensures.items ∙ ap (λ (xs : List ℕ). if back then xs else log.bytes.items) stands.settled ∙ ap (λ (xs : List ℕ). if back then s.settled else xs) stands.bytes in
    let test : c.attempt-taken.result ≡ are_in (length base) patch && are_kept log.unsynced.items log.cut (patched base patch) s.settled patch =
    c.attempt-taken.ensures.taken
    ∙ ap (λ (b : List ℕ). are_in (length b) patch && are_kept log.unsynced.items log.cut (patched b patch) log.settled.items patch) start
    ∙ ap (λ (xs : List ℕ). are_in (length base) patch && are_kept log.unsynced.items log.cut (patched base patch) xs patch) stands.settled in
    subst (λ (b : Bool). IsTrue b ↔ (All (λ (p : ℕ × ℕ). p.0 < length base) patch × LeavesLog s (patched base patch))) (sym test)
    (taken-iff log s stands base (base_of log s back stands) patch)
