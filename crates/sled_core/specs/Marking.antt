-- What a caller tells a log of the messages that it completed: which of them are marked, in place of what.
use Rattle.std.specs.Prelude.{◌≡◌, ◌==◌, ◌<◌, ℕ, not, List, filter, Contains, Result, OnErr, OnOk}
use Rattle.sled_codec.specs.declared.result.Error.{Error}
use Rattle.sled_codec.specs.History.{Message, History}
use Rattle.sled_store.specs.Device.{Trace}
use Rattle.sled_store.specs.Marks.{info_of}
use Rattle.sled_store.specs.SegmentStates.{Machine}
use Rattle.sled_store.specs.declared.segment.slot.CacheInfo.{CacheInfo}
use Rattle.sled_core.specs.declared.logger.Log.{Log}
use Rattle.sled_core.specs.Fits.{machine_at}
use Rattle.sled_core.specs.invariants.Fits.{Holds}
use Rattle.sled_core.specs.invariants.Running.{Fits}
use Rattle.sled_core.specs.Keeps.{GoesOn}
use Rattle.sled_core.specs.Unmarked.{without}

-- these messages but for the one at a place
abbrev pub but_for : ℕ → List Message → List Message
but_for place U = filter (λ u. not (u.place == place)) U

-- A message of a history is marked that wasn't yet; those that are left unmarked are the others. All messages of its page that are marked lie below it: the
-- marks of a page come by place.
pub record TakesMark (H : History) (U : List Message) (m : Message) (V : List Message) : Type 0 where
  pub there : Contains H.messages m
  pub due : Contains U m
  pub left : V ≡ but_for m.place U
  pub newest : (x : Message) → Contains (without U H).messages x → x.page ≡ m.page → x.place < m.place

-- page and place, pointer and length are those of a message
abbrev pub IsOfMessage : Message → ℕ → CacheInfo → Type 0
IsOfMessage m pid info = (m.page ≡ pid) × (info ≡ info_of m)

-- A call changes what is kept of the slots, and nothing else.
pub record ChangesAccount {D C : Type 0} (old new : Log D C) : Type 0 where
  pub config : new.config ≡ old.config
  pub segments : new.segments ≡ old.segments
  pub reserved : new.reserved_to ≡ old.reserved_to
  pub fault : new.fault ≡ old.fault
  pub pins : new.pins ≡ old.pins
  pub marks : new.marks ≡ old.marks
  pub batches : new.batches ≡ old.batches
  pub pool : new.pool ≡ old.pool

-- What a mark makes of a log: this of the slots, at Ok, and of nothing else anything. Where it failed the slots are as they were.
pub record Marks {T D C : Type 0} (result : Result T Error) (step : Machine → Machine) (old new : Log D C) : Type 0 where
  pub made : OnOk result (machine_at new ≡ step (machine_at old))
  pub refused : OnErr result (machine_at new ≡ machine_at old)
  pub rest : ChangesAccount old new

-- What it keeps: the log goes on, and holds what it held; and where it failed the same messages aren't marked.
pub record KeepsMarked {T D C : Type 0} (trace : D → Trace) (sum : List ℕ → ℕ) (result : Result T Error) (old new : Log D C) : Type 0 where
  pub goes_on : GoesOn trace sum old new
  pub history : (H : History) → Holds trace sum old H → Holds trace sum new H
  pub refused : (H : History) (A f : ℕ) (U : List Message) → Fits trace sum old H A f U → OnErr result (Fits trace sum new H A f U)
