-- What a log writes that has a pin out: each buffer by one write and one sync, and nothing else; and its slots stay.
use Rattle.std.proofs.Common.{◌≡◌, ◌∙◌, ◌*◌, ◌-◌, ◌==◌, ap, refl, arith, ℕ, zero, suc, Bool, true, false, nat_lt, if◌then◌else◌, List, [], ◌∷◌, ◌++◌, take, Option, None, Some, ℤ}
use Rattle.sled_store.specs.Device.{Event}
use Rattle.sled_store.specs.SegmentStates.{Step}
use Rattle.sled_core.specs.Account.{account_behind}
use Rattle.sled_core.specs.Freeing.{Ledger}
use Rattle.sled_core.specs.Ledger.{ledger_behind, marked_ledger, writings, written_ledger, written_step}
use Rattle.sled_core.specs.SealedBuffers.{writing}
use Rattle.sled_core.specs.Waiting.{BufferAt, free_around, free_below, has_place, is_unheld, one_pending, unless_held, write_around, write_pending, writes_below}
use Rattle.sled_core.proofs.Line.FreeingStep.{step_pinned}

-- the calls that write these so
abbrev pub plainly : List BufferAt → List Event
plainly [] = []
plainly (b ∷ bs) = writing b.lid b.bytes (plainly bs)

-- Those that write the buffers below a place write these,
pub below_plainly : (to : ℕ) (bs : List BufferAt) → writes_below to bs ≡ plainly (free_below to bs)
below_plainly to [] = refl
below_plainly to (b ∷ bs) = by (nat_lt b.place to) b.held (below_plainly to bs) where
  by : (o : Bool) (held : Option ℕ) → writes_below to bs ≡ plainly (free_below to bs)
      → (if o then unless_held held (writing b.lid b.bytes (writes_below to bs)) else []) ≡ plainly (if o then unless_held held (b ∷ free_below to bs) else [])
  by true None rest = ap (λ (es : List Event). writing b.lid b.bytes es) rest
  by true (Some place) rest = refl
  by false held rest = refl

-- the i-th that can be written is one,
pub pending_plainly : (i : ℕ) (bs : List BufferAt) → write_pending i bs ≡ plainly (one_pending i bs)
pending_plainly i [] = refl
pending_plainly i (b ∷ bs) = by (is_unheld b.held) (i == 0) (pending_plainly (i - 1) bs) (pending_plainly i bs) where
  by : (o p : Bool) → write_pending (i - 1) bs ≡ plainly (one_pending (i - 1) bs) → write_pending i bs ≡ plainly (one_pending i bs)
      → (if o then (if p then writing b.lid b.bytes [] else write_pending (i - 1) bs) else write_pending i bs) ≡ plainly (if o then (if p then b ∷ [] else one_pending (i - 1) bs) else one_pending i bs)
  by true true less rest = refl
  by true false less rest = less
  by false p less rest = rest

-- and so is that which has a place.
pub around_plainly : (at : ℕ) (bs : List BufferAt) → write_around at bs ≡ plainly (free_around at bs)
around_plainly at [] = refl
around_plainly at (b ∷ bs) = by (has_place at b) b.held (around_plainly at bs) where
  by : (o : Bool) (held : Option ℕ) → write_around at bs ≡ plainly (free_around at bs)
      → (if o then unless_held held (writing b.lid b.bytes []) else write_around at bs) ≡ plainly (if o then unless_held held (b ∷ []) else free_around at bs)
  by true None rest = refl
  by true (Some place) rest = refl
  by false held rest = rest

twice : (n : ℕ) → 2 * suc n ≡ suc (suc (2 * n))
twice n = omega arith

-- So many of them are written by twice as many calls.
pub take_plainly : (n : ℕ) (bs : List BufferAt) → take (2 * n) (plainly bs) ≡ plainly (take n bs)
take_plainly zero bs = refl
take_plainly (suc n) [] = ap (λ k. take {A = Event} k []) (twice n)
take_plainly (suc n) (b ∷ bs) =
    ap (λ k. take k (writing b.lid b.bytes (plainly bs))) (twice n)
    ∙ ap (λ (es : List Event). writing b.lid b.bytes es) (take_plainly n bs)

module _ (size : ℕ) where
  -- While a pin is out the accountant does nothing,
  written_pinned : (mark : Option ℤ) (l : Ledger) → l.account.pinned ≡ true → written_step size mark l ≡ record { machine = l.machine; calls = [] }
  written_pinned mark l pinned = step_pinned size (marked_ledger mark l) pinned

  -- so that nothing else is called,
  pub writings_pinned : (bs : List BufferAt) (l : Ledger) → l.account.pinned ≡ true → writings size bs l ≡ plainly bs
  writings_pinned [] l pinned = refl
  writings_pinned (b ∷ bs) l pinned =
      (λ i. writing b.lid b.bytes ((written_pinned b.mark l pinned i).calls ++ writings size bs (written_ledger size b.mark l)))
      ∙ ap (λ (es : List Event). writing b.lid b.bytes es) (writings_pinned bs (written_ledger size b.mark l) pinned)

  -- and the slots stay.
  pub machine_pinned : (bs : List BufferAt) (l : Ledger) → l.account.pinned ≡ true → (ledger_behind size bs l).machine ≡ l.machine
  machine_pinned [] l pinned = refl
  machine_pinned (b ∷ bs) l pinned = machine_pinned bs (written_ledger size b.mark l) pinned ∙ ap (λ (s : Step). s.machine) (written_pinned b.mark l pinned)

  -- Marks join by themselves.
  pub ledger_account : (bs : List BufferAt) (l : Ledger) → (ledger_behind size bs l).account ≡ account_behind bs l.account
  ledger_account [] l = refl
  ledger_account (b ∷ bs) l = ledger_account bs (written_ledger size b.mark l)
