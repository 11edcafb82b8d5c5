-- What it comes to where a session makes a mark, or keeps it due.
use Rattle.std.specs.Prelude.{◌≡◌, ◌-◌, ℕ, Bool, true, false, List, [], ◌∷◌, Option, None, Some, Result, IsSome, OnErr, OnOk}
use Rattle.sled_codec.specs.declared.result.Error.{Error}
use Rattle.sled_codec.specs.History.{History, Message}
use Rattle.sled_store.specs.Device.{Trace}
use Rattle.sled_core.specs.declared.logger.Log.{Log}
use Rattle.sled_core.specs.Fits.{machine_at, pins_of, segment_size_of}
use Rattle.sled_core.specs.Marking.{ChangesAccount}
use Rattle.sled_core.specs.invariants.Running.{Fits}
use Rattle.sled_log.specs.declared.session.Phase.TheVariants.{Open}
use Rattle.sled_log.specs.declared.session.marking.Due.{Due}
use Rattle.sled_log.specs.declared.session.opened.Opened.{Opened}
use Rattle.sled_log.specs.RunPhases.{IsOpenAt, Unstored, shown_due, stands, traces}
use Rattle.sled_log.specs.RunStates.{DeviceView, DueMark, RunState}
use Rattle.sled_log.specs.SessionMarks.{slots_marked, with_mark}

-- what is seen of a mark
abbrev pub mark_of : Due → DueMark
mark_of d = record { kind = d.kind; page = d.page; old = d.old.items; new = d.new }

-- nothing of a log is another but its slots and how many pins are out
abbrev pub KeepsBeside : {D C : Type 0} → Log D C → Log D C → Type 0
KeepsBeside old new = ChangesAccount old (record new { pins = pins_of old })

-- A mark was made of the one message that wasn't marked yet, or memory for it was refused.
pub record MakesMark {T D C : Type 0} (trace : D → Trace) (sum : List ℕ → ℕ) (old : Log D C) (d : Due) (result : Result T Error) (new : Log D C)
    (H : History) (A f : ℕ) (m : Message) : Type 0 where
  pub made : OnOk result (machine_at new ≡ slots_marked (segment_size_of old) (mark_of d) (machine_at old))
  pub fits : OnOk result (Fits trace sum new H A f [])
  pub refused : OnErr result (machine_at new ≡ machine_at old)
  pub stays : OnErr result (Fits trace sum new H A f (m ∷ []))

-- It was made, and its pin is back.
pub record IsMarked {D C : Type 0} (trace : D → Trace) (sum : List ℕ → ℕ) (old : Log D C) (d : Due) (new : Log D C) (H : History) (A f : ℕ) : Type 0 where
  pub machine : machine_at new ≡ slots_marked (segment_size_of old) (mark_of d) (machine_at old)
  pub pins : pins_of new ≡ pins_of old - 1
  pub fits : Fits trace sum new H A f []

-- It came back, since memory for it was refused, and nothing was done.
pub record StaysUnmarked {D C : Type 0} (trace : D → Trace) (sum : List ℕ → ℕ) (old : Log D C) (d back : Due) (new : Log D C) (H : History) (A f : ℕ)
    (m : Message) : Type 0 where
  pub same : back ≡ d
  pub machine : machine_at new ≡ machine_at old
  pub pins : pins_of new ≡ pins_of old
  pub fits : Fits trace sum new H A f (m ∷ [])

abbrev pub HasMarked : {D C : Type 0} → (D → Trace) → (List ℕ → ℕ) → Log D C → Due → Option Due → Log D C → History → ℕ → ℕ → Message → Type 0
HasMarked trace sum old d None new H A f m = IsMarked trace sum old d new H A f
HasMarked trace sum old d (Some back) new H A f m = StaysUnmarked trace sum old d back new H A f m

-- A session made the mark, with none due that wasn't; or it is due.
abbrev pub Settles : {D C : Type 0} → (D → Trace) → (List ℕ → ℕ) → Opened D C → Due → Bool → Opened D C → History → ℕ → ℕ → Message → Type 0
Settles trace sum old d true new H A f m = IsMarked trace sum old.log d new.log H A f × (new.due ≡ old.due)
Settles trace sum old d false new H A f m = StaysUnmarked trace sum old.log d d new.log H A f m × (new.due ≡ Some d)

-- a run once the mark is made that is due, if one is
abbrev pub with_due : ℕ → RunState → Option DueMark → RunState
with_due size a None = a
with_due size a (Some d) = with_mark size a d

-- The mark that was due is made, if one was, and the run goes on from there; or one was, and is still, with nothing done.
pub record MakesDue {T D C : Type 0} (view : D → DeviceView) (sum : List ℕ → ℕ) (old : Opened D C) (result : Result T Error) (new : Opened D C)
    (k : Unstored) : Type 0 where
  pub at : IsOpenAt (traces view) sum new k
  pub none : OnOk result (new.due ≡ None)
  pub made : OnOk result (stands view (Open new) k ≡ with_due (segment_size_of old.log) (stands view (Open old) k) (shown_due old.due))
  pub some : OnErr result (IsSome old.due)
  pub kept : OnErr result (stands view (Open new) k ≡ stands view (Open old) k)
