-- While a pin is out no segment is freed: a call writes each buffer by one write and one sync, makes no other call, and leaves the slots.
use Rattle.std.proofs.Common.{◌≡◌, ◌∙◌, ◌<◌, ◌+◌, ◌*◌, ap, sym, arith, subst, inl, inr, ℕ, ℤ, Bool, true, false, pos, nat_le, nat_lt, if◌then◌else◌, List, [], ◌∷◌, take}
use Rattle.std.specs.Prelude.{int_lt, unsigned_abs}
use Rattle.std.proofs.lemmas.Bool.Decides.{nat_tests}
use Rattle.sled_store.specs.Device.{Event, Synced, Trace, Wrote}
use Rattle.sled_store.specs.Script.{Performs, Stops}
use Rattle.sled_core.specs.Account.{account_of}
use Rattle.sled_core.specs.declared.logger.Log.{Log}
use Rattle.sled_core.specs.Fits.{buffers_of, current_begin, ledger_for, ledger_of, ledger_sealed, pins_of, segment_size_of, synced_end, waiting_of, writing_below, writing_pending, writing_some}
use Rattle.sled_core.specs.Fronts.{synced_writes, syncs}
use Rattle.sled_core.specs.Freeing.{Ledger}
use Rattle.sled_core.specs.Ledger.{writings}
use Rattle.sled_core.specs.ReadBuffer.{ledger_at, settling}
use Rattle.sled_core.specs.Waiting.{BufferAt, free_around, free_below, one_pending, write_around, write_pending, writes_below}
use Rattle.sled_core.proofs.Line.CameFar.{torn_unsynced, torn_unwritten}
use Rattle.sled_core.proofs.Line.PinnedWrites.{around_plainly, below_plainly, pending_plainly, plainly, take_plainly, writings_pinned}

module _ {D C : Type 0} (log : Log D C) (out : 0 < pins_of log) where
  pinned : (account_of log).pinned ≡ true
  pinned = grind (arith, nat_tests, out)

  pinned_either : (o : Bool) → (if o then ledger_sealed log else ledger_of log).account.pinned ≡ true
  pinned_either true = pinned
  pinned_either false = pinned

  pub pinned_below : (sum : List ℕ → ℕ) (to : ℕ) → writing_below sum log to ≡ writes_below to (buffers_of sum log)
  pinned_below sum to =
      writings_pinned (segment_size_of log) (free_below to (buffers_of sum log)) (ledger_for to log) (pinned_either (nat_lt (current_begin log) to))
      ∙ sym (below_plainly to (buffers_of sum log))

  pub pinned_some : (sum : List ℕ → ℕ) (to count : ℕ) → writing_some count sum log to ≡ take (2 * count) (writes_below to (buffers_of sum log))
  pinned_some sum to count =
      let bs : List BufferAt = free_below to (buffers_of sum log) in
      writings_pinned (segment_size_of log) (take count bs) (ledger_for to log) (pinned_either (nat_lt (current_begin log) to))
      ∙ sym (take_plainly count bs)
      ∙ ap (take (2 * count)) (sym (below_plainly to (buffers_of sum log)))

  pub pinned_pending : (i : ℕ) → writing_pending log i ≡ write_pending i (waiting_of log)
  pinned_pending i = writings_pinned (segment_size_of log) (one_pending i (waiting_of log)) (ledger_of log) pinned ∙ sym (pending_plainly i (waiting_of log))

  pub pinned_around : (sum : List ℕ → ℕ) (lsn : ℤ) → settling sum log lsn ≡ (if int_lt lsn (pos (synced_end log)) then [] else write_around (unsigned_abs lsn) (buffers_of sum log))
  pinned_around sum lsn =
      let at : ℕ = unsigned_abs lsn in
      let bs : List BufferAt = buffers_of sum log in
      ap (λ (es : List Event). if int_lt lsn (pos (synced_end log)) then [] else es)
      (writings_pinned (segment_size_of log) (free_around at bs) (ledger_at at log) (pinned_either (nat_le (current_begin log) at)) ∙ sym (around_plainly at bs))

  -- It is out at each ledger at which a call that writes begins.
  pub pinned_at : (at : ℕ) → ((ledger_of log).account.pinned ≡ true) × ((ledger_for at log).account.pinned ≡ true) × ((ledger_at at log).account.pinned ≡ true)
  pinned_at at = (pinned, pinned_either (nat_lt (current_begin log) at), pinned_either (nat_le (current_begin log) at))

-- What a call that failed left is no sync.
stopped : (e : Event) (old new : Trace) → Stops e old new → (syncs new ≡ syncs old) × (synced_writes new ≡ synced_writes old)
unfolding Stops
stopped e old new (inl same) = (ap syncs same, ap synced_writes same)
stopped e old new (inr left) = (ap syncs left.2 ∙ torn_unsynced e left.0 old left.1, ap synced_writes left.2 ∙ torn_unwritten e left.0 old left.1)

-- So as many writes were synced as syncs were made.
plainly_synced : (bs : List BufferAt) (old new : Trace) → Performs (plainly bs) old new → syncs new + synced_writes old ≡ synced_writes new + syncs old
unfolding Performs
plainly_synced [] old new same = let a = ap syncs same in let b = ap synced_writes same in omega (arith, a, b)
plainly_synced (b ∷ bs) old new (inl stops) = let same = stopped (Wrote b.lid b.bytes b.bytes) old new stops in omega (arith, same.0, same.1)
plainly_synced (b ∷ bs) old new (inr (inl stops)) = let same = stopped Synced (Wrote b.lid b.bytes b.bytes ∷ old) new stops in omega (arith, same.0, same.1)
plainly_synced (b ∷ bs) old new (inr (inr rest)) = let more = plainly_synced bs (Synced ∷ Wrote b.lid b.bytes b.bytes ∷ old) new rest in omega (arith, more)

pub pinned_synced : (size count : ℕ) (bs : List BufferAt) (l : Ledger) (old new : Trace) → l.account.pinned ≡ true → Performs (writings size bs l) old new
    → synced_writes new ≡ count + synced_writes old → syncs new ≡ count + syncs old
pinned_synced size count bs l old new pinned made written =
    let both = plainly_synced bs old new (subst (λ (es : List Event). Performs es old new) (writings_pinned size bs l pinned) made) in
    omega (arith, both, written)
