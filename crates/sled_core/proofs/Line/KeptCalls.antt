-- A call keeps what a log held and fitted where it leaves its device and what is written alone, and where it is two such calls in a row.
use Rattle.std.proofs.Common.{◌≡◌, ◌∙◌, ◌≤◌, ◌<◌, ◌⊎◌, ℕ, ℤ, Bool, List, [], None, refl, ap, sym, subst, arith, inl, inr, Err}
use Rattle.std.specs.List.{Contains}
use Rattle.sled_codec.specs.declared.result.Error.{Error}
use Rattle.sled_codec.specs.History.{Message, History}
use Rattle.sled_store.specs.declared.config.Config.{Config}
use Rattle.sled_store.specs.Device.{State, Trace, state_of}
use Rattle.sled_store.specs.Moments.{LeavesOnly}
use Rattle.sled_store.specs.SegmentStates.{Machine, slot_at}
use Rattle.sled_store.proofs.PublicLaws.{later_both}
use Rattle.sled_store.proofs.Marks.OutdatedSteps.{KeepsBlobs}
use Rattle.sled_store.proofs.Traces.MomentLemmas.{started, stays, joined}
use Rattle.sled_store.proofs.Traces.StopLemmas.{asked_behind, asked_state, asked_later, asked_throughout}
use Rattle.sled_core.specs.declared.logger.Log.{Log}
use Rattle.sled_core.specs.declared.reservation.Reservation.{Reservation}
use Rattle.sled_store.proofs.Segments.Elements.{in_rest}
use Rattle.sled_core.specs.Endings.{EndsTicket, GivesUp}
use Rattle.sled_core.specs.Fits.{KeepsTickets, config_of, device_of, fault_of, given_up_of, machine_at, pins_of, segment_size_of, synced_end}
use Rattle.sled_core.specs.Keeps.{ConfigKept, FailedStep, GoesOn, GoesOnFor, HoldsFast, IsSpared, KeepsLog, KeepsWriting, Preserves, PreservesFor}
use Rattle.sled_core.specs.Keeps.{PreservesWriting, SamePlace, SamePosition}
use Rattle.sled_core.specs.Logged.{in_log}
use Rattle.sled_core.specs.Positions.{Position}
use Rattle.sled_core.specs.Recoverable.{RecoverableIfOwn}
use Rattle.sled_core.specs.inside.OneWritten.{KeepsOne}
use Rattle.sled_core.specs.invariants.Fits.{Holds}
use Rattle.sled_core.specs.invariants.Running.{Fits}
use Rattle.sled_core.proofs.Line.NumbersKept.{fits_leaves}
use Rattle.sled_core.proofs.Holds.ReachLemmas.{fits_holds}
use Rattle.sled_core.proofs.Holds.StoredItems.{items_same}
use Rattle.sled_core.proofs.Line.LineEnds.{noted_further, noted_still}

module _ {D C : Type 0} (trace : D → Trace) (sum : List ℕ → ℕ) where
  -- a device that was left alone has no other moment
  pub no_moments : (old new : Log D C) → trace (device_of new) ≡ trace (device_of old) → (H : History) (A f : ℕ) (U : List Message) → Fits trace sum old H A f U
      → LeavesOnly (RecoverableIfOwn sum (segment_size_of old) H A f) (trace (device_of old)) (trace (device_of new))
  no_moments old new same H A f U fits = stays _ _ _ _ (started _ _ (fits_leaves trace sum old H A f U fits)) same

  pub goes_on_quietly : (old new : Log D C) → ConfigKept (config_of old) (config_of new) → trace (device_of new) ≡ trace (device_of old) → synced_end old ≤ synced_end new → (fault_of new ≡ None → fault_of old ≡ None) → GoesOn trace sum old new
  goes_on_quietly old new config same stable sound = record {
    config = config;
    later = ([], same);
    stable = stable;
    crash = no_moments old new same;
    sound = sound;
    items = λ none m spared. items_same trace sum old new (ap (λ (t : Trace). (state_of t).blobs) same) m;
  }

  -- its device was asked to stop within a call
  pub goes_on_asked : (old new : Log D C) (stopped : Bool) (n : ℕ) → ConfigKept (config_of old) (config_of new) → trace (device_of new) ≡ asked_behind stopped n (trace (device_of old)) → synced_end old ≤ synced_end new
      → (fault_of new ≡ None → fault_of old ≡ None) → GoesOn trace sum old new
  goes_on_asked old new stopped n config asked stable sound = record {
    config = config;
    later = asked_later stopped n _ _ asked;
    stable = stable;
    crash = λ H A f U fits. asked_throughout stopped n _ _ asked _ (fits_leaves trace sum old H A f U fits);
    sound = sound;
    items = λ none m spared. items_same trace sum old new (ap (λ (s : State). s.blobs) (asked_state stopped n _ _ asked)) m;
  }

  pub goes_on_still : (log : Log D C) → GoesOn trace sum log log
  goes_on_still log = goes_on_quietly log log (record { config = refl; checksum = refl }) refl (omega arith) (λ none. none)

  -- nothing was done
  pub kept_still : (log : Log D C) → Preserves trace sum log log
  kept_still log = record { goes_on = goes_on_still log; history = λ H holds. holds; fits = λ H A f U fits. fits; noted = noted_still log; kept = omega arith }

  -- One call, and then another, where what the two spare is known.
  goes_on_over : (Held : History → Type 0) (One Two Both : Message → Type 0) (old mid new : Log D C) → PreservesFor Held One trace sum old mid
      → GoesOnFor Two trace sum mid new → ((m : Message) → Both m → One m × Two m) → GoesOnFor Both trace sum old new
  goes_on_over Held One Two Both old mid new first then both = record {
    config = record { config = then.config.config ∙ first.goes_on.config.config; checksum = then.config.checksum ∙ first.goes_on.config.checksum };
    later = later_both _ _ _ first.goes_on.later then.later;
    stable = omega (arith, first.goes_on.stable, then.stable);
    crash = λ H A f U fits. joined _ _ _ _ (first.goes_on.crash H A f U fits)
        (subst (λ n. LeavesOnly (RecoverableIfOwn sum n H A f) (trace (device_of mid)) (trace (device_of new))) (ap (λ (x : Config). x.segment_size) first.goes_on.config.config)
        (then.crash H A f U (first.fits H A f U fits)));
    sound = λ none. first.goes_on.sound (then.sound none);
    items = λ none m spared stored. then.items none m (both m spared).1 (first.goes_on.items (then.sound none) m (both m spared).0 stored);
  }

  kept_over : (Held Later Whole : History → Type 0) (One Two Both : Message → Type 0) (old mid new : Log D C) → PreservesFor Held One trace sum old mid
      → PreservesFor Later Two trace sum mid new → ((m : Message) → Both m → One m × Two m) → ((H : History) → Whole H → Later H)
      → PreservesFor Whole Both trace sum old new
  kept_over Held Later Whole One Two Both old mid new first then both held = record {
    goes_on = goes_on_over Held One Two Both old mid new first then.goes_on both;
    history = λ H whole. then.history H (held H whole);
    fits = λ H A f U fits. then.fits H A f U (first.fits H A f U fits);
    noted = noted_further old mid new then.goes_on.stable first.noted then.noted;
    kept = let before = first.kept in let after = then.kept in omega (arith, before, after);
  }

  pub goes_on_further : (old mid new : Log D C) → Preserves trace sum old mid → GoesOn trace sum mid new → GoesOn trace sum old new
  goes_on_further old mid new first then =
      goes_on_over (Holds trace sum old) (λ m. Unit {0}) (λ m. Unit {0}) (λ m. Unit {0}) old mid new first then (λ m spared. (tt, tt))

  -- one call, and then another
  pub kept_further : (old mid new : Log D C) → Preserves trace sum old mid → Preserves trace sum mid new → Preserves trace sum old new
  kept_further old mid new first then =
      kept_over (Holds trace sum old) (Holds trace sum mid) (Holds trace sum old) (λ m. Unit {0}) (λ m. Unit {0}) (λ m. Unit {0}) old mid new first then
      (λ m spared. (tt, tt)) first.history

  -- What a log holds fast it holds,
  pub holds_fast : (log : Log D C) (H : History) → HoldsFast trace sum log H → Holds trace sum log H
  holds_fast log H (inl out) = out.1
  holds_fast log H (inr (A, f, U, fits)) = fits_holds trace sum log H A f U fits

  -- and still fast where it holds it still, with as many pins out.
  fast_kept : (Held : History → Type 0) (Spared : Message → Type 0) (old new : Log D C) → PreservesFor Held Spared trace sum old new
      → ((H : History) → HoldsFast trace sum old H → Held H) → pins_of new ≡ pins_of old → (H : History) → HoldsFast trace sum old H → HoldsFast trace sum new H
  fast_kept Held Spared old new keeps held pins H (inl out) =
      let there = out.0 in inl (omega (arith, there, pins), keeps.history H (held H (inl out)))
  fast_kept Held Spared old new keeps held pins H (inr (A, f, U, fits)) = inr (A, f, U, keeps.fits H A f U fits)

  -- A call that frees nothing keeps at least what one does behind which segments come free,
  pub preserves_writing : (old new : Log D C) → Preserves trace sum old new → PreservesWriting trace sum old new
  preserves_writing old new keeps = record {
    goes_on = record {
      config = keeps.goes_on.config;
      later = keeps.goes_on.later;
      stable = keeps.goes_on.stable;
      crash = keeps.goes_on.crash;
      sound = keeps.goes_on.sound;
      items = λ none m spared stored. keeps.goes_on.items none m tt stored;
    };
    history = λ H fast. keeps.history H (holds_fast old H fast);
    fits = keeps.fits;
    noted = keeps.noted;
    kept = keeps.kept;
  }

  -- and while a pin is out no more.
  pub preserves_pinned : (old new : Log D C) → 0 < pins_of old → PreservesWriting trace sum old new → Preserves trace sum old new
  preserves_pinned old new out keeps = record {
    goes_on = record {
      config = keeps.goes_on.config;
      later = keeps.goes_on.later;
      stable = keeps.goes_on.stable;
      crash = keeps.goes_on.crash;
      sound = keeps.goes_on.sound;
      items = λ none m spared stored. keeps.goes_on.items none m (inl out) stored;
    };
    history = λ H holds. keeps.history H (inl (out, holds));
    fits = keeps.fits;
    noted = keeps.noted;
    kept = keeps.kept;
  }

  -- Two such calls are one.
  pub writing_over : (old mid new : Log D C) → PreservesWriting trace sum old mid → pins_of mid ≡ pins_of old
      → ((m : Message) → IsSpared old m → IsSpared mid m) → PreservesWriting trace sum mid new → PreservesWriting trace sum old new
  writing_over old mid new first pins spared then =
      kept_over (HoldsFast trace sum old) (HoldsFast trace sum mid) (HoldsFast trace sum old) (IsSpared old) (IsSpared mid) (IsSpared old) old mid new first then
      (λ m is. (is, spared m is)) (fast_kept (HoldsFast trace sum old) (IsSpared old) old mid first (λ H fast. fast) pins)

-- So it is with its tickets,
pub tickets_still : {D C : Type 0} (log : Log D C) → KeepsTickets log log
tickets_still log = record { awaits = λ ticket m awaits. awaits; opens = refl; given_up = λ m there. there }

pub tickets_further : {D C : Type 0} (old mid new : Log D C) → KeepsTickets old mid → KeepsTickets mid new → KeepsTickets old new
tickets_further old mid new first then = record {
  awaits = λ ticket m awaits. then.awaits ticket m (first.awaits ticket m awaits);
  opens = then.opens ∙ first.opens;
  given_up = λ m there. first.given_up m (then.given_up m there);
}

-- and with where the next record begins.
pub position_still : {D C : Type 0} (log : Log D C) → SamePosition log log
position_still log = record { position = refl; reserved = refl; pins = refl; joined = refl; size = refl }

pub position_further : {D C : Type 0} (old mid new : Log D C) → SamePosition old mid → SamePosition mid new → SamePosition old new
position_further old mid new first then = record {
  position = then.position ∙ first.position;
  reserved = then.reserved ∙ first.reserved;
  pins = then.pins ∙ first.pins;
  joined = then.joined ∙ first.joined;
  size = then.size ∙ first.size;
}

-- So it is where slots come free.
pub place_still : {D C : Type 0} (log : Log D C) → SamePlace log log
place_still log = record { place = refl; pinned = λ pinned. refl; reserved = refl; pins = refl; joined = λ pinned. refl; size = refl }

pub place_further : {D C : Type 0} (old mid new : Log D C) → SamePlace old mid → SamePlace mid new → SamePlace old new
place_further old mid new first then = record {
  place = then.place ∙ first.place;
  pinned = λ pinned. then.pinned (let same = first.pins in omega (arith, pinned, same)) ∙ first.pinned pinned;
  reserved = then.reserved ∙ first.reserved;
  pins = then.pins ∙ first.pins;
  joined = λ pinned. then.joined (let same = first.pins in omega (arith, pinned, same)) ∙ first.joined pinned;
  size = then.size ∙ first.size;
}

pub position_place : {D C : Type 0} (old new : Log D C) → SamePosition old new → SamePlace old new
position_place old new same = record {
  place = ap (λ (q : Position). q.place) same.position;
  pinned = λ pinned. same.position;
  reserved = same.reserved;
  pins = same.pins;
  joined = λ pinned. same.joined;
  size = same.size;
}

-- While a pin is out none does, and no mark joins.
pub place_pinned : {D C : Type 0} (old new : Log D C) → 0 < pins_of old → SamePlace old new → SamePosition old new
place_pinned old new out same =
    record { position = same.pinned out; reserved = same.reserved; pins = same.pins; joined = same.joined out; size = same.size }

-- Nothing was done.
pub log_still : {D C : Type 0} (trace : D → Trace) (sum : List ℕ → ℕ) (log : Log D C) → KeepsLog trace sum log log
log_still trace sum log = record { preserves = kept_still trace sum log; tickets = tickets_still log; position = position_still log }

-- All of it. A call that frees nothing keeps at least that, where it notes no blob besides.
pub log_writing : {D C : Type 0} (trace : D → Trace) (sum : List ℕ → ℕ) (old new : Log D C) → KeepsLog trace sum old new
    → ((m : Message) → IsSpared old m → IsSpared new m) → KeepsWriting trace sum old new
log_writing trace sum old new keeps spared = record {
  preserves = preserves_writing trace sum old new keeps.preserves;
  tickets = keeps.tickets;
  position = position_place old new keeps.position;
  spared = spared;
}

-- So it is where no other blob goes with a segment than did, and as many pins are out,
pub spared_slots : {D C : Type 0} (old new : Log D C) → KeepsBlobs (machine_at old).slots (machine_at new).slots → pins_of new ≡ pins_of old → (m : Message)
    → IsSpared old m → IsSpared new m
spared_slots old new keeps pins m (inl out) = inl (omega (arith, out, pins))
spared_slots old new keeps pins m (inr none) = inr (λ k blob there. none k blob (keeps k blob there).there)

-- So it is wherever the blob went before,
spared_where : {D C : Type 0} (old new : Log D C)
    → ((k : ℕ) (blob : ℤ) → Contains (slot_at (machine_at new) k).blobs blob → (j : ℕ) × Contains (slot_at (machine_at old) j).blobs blob)
    → pins_of new ≡ pins_of old → (m : Message) → IsSpared old m → IsSpared new m
spared_where old new before pins m (inl out) = inl (omega (arith, out, pins))
spared_where old new before pins m (inr none) = inr (λ k blob there. let was = before k blob there in none was.0 blob was.1)

pub log_writing_where : {D C : Type 0} (trace : D → Trace) (sum : List ℕ → ℕ) (old new : Log D C) → KeepsLog trace sum old new
    → ((k : ℕ) (blob : ℤ) → Contains (slot_at (machine_at new) k).blobs blob → (j : ℕ) × Contains (slot_at (machine_at old) j).blobs blob)
    → KeepsWriting trace sum old new
log_writing_where trace sum old new keeps before = log_writing trace sum old new keeps (spared_where old new before keeps.position.pins)

-- and where the slots are the same.
pub spared_same : {D C : Type 0} (old new : Log D C) → machine_at new ≡ machine_at old → pins_of new ≡ pins_of old → (m : Message) → IsSpared old m
    → IsSpared new m
spared_same old new slots pins m (inl out) = inl (omega (arith, out, pins))
spared_same old new slots pins m (inr none) = inr (λ k blob there. none k blob (subst (λ (x : Machine). Contains (slot_at x k).blobs blob) slots there))

-- The write of a buffer keeps that, before the accountant's step.
pub one_writing : {D C : Type 0} (trace : D → Trace) (sum : List ℕ → ℕ) (old new : Log D C) → KeepsOne trace sum old new
    → machine_at new ≡ machine_at old → KeepsWriting trace sum old new
one_writing trace sum old new keeps slots = record {
  preserves = preserves_writing trace sum old new keeps.preserves;
  tickets = keeps.tickets;
  position = keeps.position;
  spared = spared_same old new slots keeps.position.pins;
}

-- While a pin is out such a call keeps no less.
pub writing_pinned : {D C : Type 0} (trace : D → Trace) (sum : List ℕ → ℕ) (old new : Log D C) → 0 < pins_of old → KeepsWriting trace sum old new
    → KeepsLog trace sum old new
writing_pinned trace sum old new out keeps = record {
  preserves = preserves_pinned trace sum old new out keeps.preserves;
  tickets = keeps.tickets;
  position = place_pinned old new out keeps.position;
}

-- nor does it fail in the accountant's step.
pub none_failed : {D C : Type 0} (old new : Log D C) → 0 < pins_of old → FailedStep old new → ⊥
none_failed old new out failed = let none = failed.unpinned in omega (arith, out, none)

-- Two such calls are one.
pub writing_further : {D C : Type 0} (trace : D → Trace) (sum : List ℕ → ℕ) (old mid new : Log D C) → KeepsWriting trace sum old mid
    → KeepsWriting trace sum mid new → KeepsWriting trace sum old new
writing_further trace sum old mid new first then = record {
  preserves = writing_over trace sum old mid new first.preserves first.position.pins first.spared then.preserves;
  tickets = tickets_further old mid new first.tickets then.tickets;
  position = place_further old mid new first.position then.position;
  spared = λ m is. then.spared m (first.spared m is);
}

-- One that begins with a log that kept no failure, with as many pins out, fails in the accountant's step where the last of its calls does.
pub failed_over : {D C : Type 0} (old mid new : Log D C) → fault_of old ≡ None → pins_of mid ≡ pins_of old → FailedStep mid new → FailedStep old new
failed_over old mid new sound pins failed = record { unpinned = sym pins ∙ failed.unpinned; sound = sound; fault = failed.fault; kept = failed.kept }

-- nothing was done
pub writing_still : {D C : Type 0} (trace : D → Trace) (sum : List ℕ → ℕ) (log : Log D C) → KeepsWriting trace sum log log
writing_still trace sum log = log_writing trace sum log log (log_still trace sum log) (λ m is. is)

-- A ticket was spent for nothing.
pub gives_none : {D C : Type 0} (ticket : Reservation) (log : Log D C) → GivesUp ticket log log
gives_none ticket log m awaits = λ n there. in_rest (in_log m) n (given_up_of log) there

pub ends_none : {T D C : Type 0} (trace : D → Trace) (sum : List ℕ → ℕ) (ticket : Reservation) (log : Log D C) (e : Error) → EndsTicket {T = T} trace sum (Err e) ticket log log
ends_none trace sum ticket log e = record { others = λ H other m holds awaits apart. awaits; opens = λ place is. tt; position = position_still log; buffers = record { waiting = refl; start = refl }; heads = λ h there. there; fillings = λ f there. there; machine = refl; pooled = refl }
