-- A call that writes buffers and fails: as many are gone as it wrote and synced, and unless the device failed each of them was written whole.
use Rattle.std.proofs.Common.{◌≡◌, ◌∙◌, ◌⊎◌, ◌-◌, ◌≤◌, ◌<◌, ◌≤ℤ◌, ◌<ℤ◌, ap, sym, subst, refl, arith, inl, inr, ℕ, ℤ, suc, pos, Bool, true, false, nat_lt, if◌then◌else◌, List, ◌∷◌, ◌++◌, take, drop, None, Some, Result, Ok, Err, OnErr}
use Rattle.std.specs.Prelude.{unsigned_abs}
use Rattle.std.specs.declared.io.Error.{Error as IoError}
use Rattle.std.proofs.Math.Seq.{take-append_seam}
use Rattle.std.proofs.lemmas.Bool.Decides.{nat_tests}
use Rattle.std.proofs.lemmas.Int.{ints}
use Rattle.sled_codec.specs.declared.result.Error.{Error}
use Rattle.sled_store.specs.Answers.{Does, Tears}
use Rattle.sled_store.specs.Device.{Event, Trace, Wrote, Cut, BlobMade, BlobRemoved, SnapshotFilled, SnapshotPublished, SnapshotRemoved}
use Rattle.sled_store.specs.Script.{after_all}
use Rattle.sled_store.specs.SegmentStates.{Machine}
use Rattle.sled_core.specs.Causes.{IsHeld}
use Rattle.sled_core.specs.declared.logger.Log.{Log}
use Rattle.sled_core.specs.Fits.{buffers_of, current_begin, device_of, fault_of, ledger_for, ledger_of, ledger_sealed, line_of, position_sealed, position_with, segment_size_of, start_of, synced_end, waiting_of}
use Rattle.sled_core.specs.Freeing.{Ledger}
use Rattle.sled_core.specs.Fronts.{CameAround, FailedFront, IsOnTheWay, WroteNone, synced_writes, syncs}
use Rattle.sled_core.specs.inside.Fronts.{WroteParts}
use Rattle.sled_core.specs.Keeps.{LeavesSome, position_for, sealed_for, start_for, start_sealed}
use Rattle.sled_core.specs.Ledger.{ledger_behind, writings}
use Rattle.sled_core.specs.LogStatus.{failing, status_of}
use Rattle.sled_core.specs.ReadBuffer.{SealsAround, WritesAround, held_at, settling}
use Rattle.sled_core.specs.inside.OneWritten.{WroteOne}
use Rattle.sled_core.specs.inside.Turned.{ready_below}
use Rattle.sled_core.specs.Waiting.{free_below}
use Rattle.sled_core.proofs.Line.Advanced.{Advanced, failed_since, first_view, one_account, one_gone, one_start, views_behind}
use Rattle.sled_core.proofs.Line.Current.{current_free}
use Rattle.sled_core.proofs.Line.HeaderMarks.{none_begun}
use Rattle.sled_core.proofs.Line.Lying.{synced_up}
use Rattle.sled_core.proofs.Line.Segments.{line_segments}
use Rattle.sled_core.proofs.Stable.EndLemmas.{or_beyond}

-- What a failure leaves of a call is no sync,
pub torn_unsynced : (e torn : Event) (t : Trace) → Tears e torn → syncs (torn ∷ t) ≡ syncs t
torn_unsynced (Wrote at asked now) torn t tears = ap (λ (x : Event). syncs (x ∷ t)) tears.2
torn_unsynced (Cut asked now) torn t tears = ap (λ (x : Event). syncs (x ∷ t)) tears.2
torn_unsynced (BlobMade place asked now done) torn t tears = ap (λ (x : Event). syncs (x ∷ t)) tears.2
torn_unsynced (BlobRemoved place done) torn t tears = ap (λ (x : Event). syncs (x ∷ t)) tears.1
torn_unsynced (SnapshotFilled asked now) torn t tears = ap (λ (x : Event). syncs (x ∷ t)) tears.1
torn_unsynced (SnapshotPublished number done) torn t tears = ap (λ (x : Event). syncs (x ∷ t)) tears.1
torn_unsynced (SnapshotRemoved number done) torn t tears = ap (λ (x : Event). syncs (x ∷ t)) tears.1
torn_unsynced _ torn t tears = absurd tears

-- so nothing is synced by a call that failed.
pub left_unsynced : {fault : Type 0} (e : Event) (old new : Trace) → (new ≡ old) ⊎ (fault × ((torn : Event) × Tears e torn × (new ≡ torn ∷ old))) → syncs new ≡ syncs old
left_unsynced e old new (inl same) = ap syncs same
left_unsynced e old new (inr left) = ap syncs left.1.2 ∙ torn_unsynced e left.1.0 old left.1.1

-- and no write is.
pub torn_unwritten : (e torn : Event) (t : Trace) → Tears e torn → synced_writes (torn ∷ t) ≡ synced_writes t
torn_unwritten (Wrote at asked now) torn t tears = ap (λ (x : Event). synced_writes (x ∷ t)) tears.2
torn_unwritten (Cut asked now) torn t tears = ap (λ (x : Event). synced_writes (x ∷ t)) tears.2
torn_unwritten (BlobMade place asked now done) torn t tears = ap (λ (x : Event). synced_writes (x ∷ t)) tears.2
torn_unwritten (BlobRemoved place done) torn t tears = ap (λ (x : Event). synced_writes (x ∷ t)) tears.1
torn_unwritten (SnapshotFilled asked now) torn t tears = ap (λ (x : Event). synced_writes (x ∷ t)) tears.1
torn_unwritten (SnapshotPublished number done) torn t tears = ap (λ (x : Event). synced_writes (x ∷ t)) tears.1
torn_unwritten (SnapshotRemoved number done) torn t tears = ap (λ (x : Event). synced_writes (x ∷ t)) tears.1
torn_unwritten _ torn t tears = absurd tears

pub left_unwritten : {fault : Type 0} (e : Event) (old new : Trace) → (new ≡ old) ⊎ (fault × ((torn : Event) × Tears e torn × (new ≡ torn ∷ old))) → synced_writes new ≡ synced_writes old
left_unwritten e old new (inl same) = ap synced_writes same
left_unwritten e old new (inr left) = ap synced_writes left.1.2 ∙ torn_unwritten e left.1.0 old left.1.1

pub does_unsynced : {T : Type 0} (e : Event) (r : Result T IoError) (old new : Trace) → Does e r old new → OnErr r ((syncs new ≡ syncs old) × (synced_writes new ≡ synced_writes old))
does_unsynced e (Ok x) old new does = tt
does_unsynced e (Err x) old new does = (left_unsynced e old new does, left_unwritten e old new does)

module _ {D C : Type 0} (trace : D → Trace) (sum : List ℕ → ℕ) (faults : D → ℕ) (to : ℕ) where
  -- Some of the buffers that begin below a place were written, all of which are sealed.
  module _ (old mid : Log D C) (sealed : to ≤ current_begin old) (so_far : Advanced trace sum faults to old mid) where
    not_current : nat_lt (current_begin old) to ≡ false
    not_current = grind (arith, nat_tests, sealed)

    done_is : take so_far.count (free_below to (buffers_of sum old)) ≡ take so_far.count (waiting_of old)
    done_is =
        let all : free_below to (buffers_of sum old) ≡ take so_far.count (waiting_of old) ++ free_below to (waiting_of mid) =
        current_free sum old.config.config.segment_size old.segments.first.site.place to (first_view old) (views_behind old) (line_segments old) sealed ∙ so_far.free in
        (λ i. take (sym so_far.many i) (all i)) ∙ take-append_seam (take so_far.count (waiting_of old)) (free_below to (waiting_of mid))

    left_for : (n : ℕ) → drop n (waiting_of old) ≡ drop n (sealed_for sum to old)
    left_for n = sym (ap (λ (o : Bool). drop n (if o then buffers_of sum old else waiting_of old)) not_current)

    start_is : start_of old ≡ start_for to old
    start_is = sym (ap (λ (o : Bool). if o then start_sealed old else start_of old) not_current)

    position_is : (m : Machine) → position_with old m ≡ position_for to old m
    position_is m = sym (ap (λ (o : Bool). if o then position_sealed old m else position_with old m) not_current)

    ledger_is : (n : ℕ) → ledger_behind (segment_size_of old) (take n (waiting_of old)) (ledger_of old)
        ≡ ledger_behind (segment_size_of old) (take n (sealed_for sum to old)) (ledger_for to old)
    ledger_is n =
        sym (ap (λ (o : Bool). ledger_behind (segment_size_of old) (take n (if o then buffers_of sum old else waiting_of old))
        (if o then ledger_sealed old else ledger_of old)) not_current)

    -- Then one wasn't,
    pub wrote_front : (new : Log D C) → waiting_of new ≡ waiting_of mid → start_of new ≡ start_of mid
        → ((m : Machine) → position_with new m ≡ position_with mid m) → WroteNone trace mid new → ledger_of new ≡ ledger_of mid → synced_end new < to → WroteParts trace sum to old new
    wrote_front new waiting start with_slots none ledger short =
        let all : ledger_of new ≡ ledger_behind (segment_size_of old) (take so_far.count (sealed_for sum to old)) (ledger_for to old) =
        ledger ∙ so_far.ledger ∙ ledger_is so_far.count in
        record {
          count = so_far.count;
          left = waiting ∙ so_far.gone ∙ left_for so_far.count;
          start = start ∙ so_far.start ∙ start_is;
          position = λ m. with_slots m ∙ so_far.with_slots m ∙ position_is m;
          ledger = (ap (λ (l : Ledger). l.account) all, inl (ap (λ (l : Ledger). l.machine) all, short));
          written = none.written ∙ so_far.written;
          whole = λ sound. none.still sound ∙ so_far.came
              ∙ (λ i. after_all (writings (segment_size_of old) (sym done_is i) (if sym not_current i then ledger_sealed old else ledger_of old))
              (trace (device_of old)));
        }

    -- or it was, and the step behind it failed.
    pub failed_front : (new : Log D C) → ready_below (line_of mid) to ≡ true → WroteOne trace 0 0 mid new
        → ((m : Machine) → position_with new m ≡ position_with mid m) → WroteParts trace sum to old new
    failed_front new ready one with_slots =
        let is = one.line (first_view mid) refl in
        let failed = failed_since trace sum faults to old mid new so_far one.failed in
        let less : suc so_far.count - 1 ≡ so_far.count = omega arith in
        let fails : FailedFront trace sum to (suc so_far.count) old new = (
          failed,
          omega arith,
          subst
              (λ (n : ℕ). IsOnTheWay trace new (ledger_behind (segment_size_of old) (take n (sealed_for sum to old)) (ledger_for to old)).machine)
              (sym less)
              (subst (λ (m : Machine). IsOnTheWay trace new m) (ap (λ (l : Ledger). l.machine) (so_far.ledger ∙ ledger_is so_far.count)) one.way),
        ) in
        record {
          count = suc so_far.count;
          left = one_gone trace sum faults to old mid new so_far ready is ∙ left_for (suc so_far.count);
          start = one_start trace sum faults to old mid new so_far ready is ∙ start_is;
          position = λ m. with_slots m ∙ so_far.with_slots m ∙ position_is m;
          ledger = (
            one_account trace sum faults to old mid new so_far ready is (one.account (first_view mid) refl)
                ∙ ap (λ (l : Ledger). l.account) (ledger_is (suc so_far.count)),
            inr fails,
          );
          written = (let last = one.written in let before = so_far.written in omega (arith, last, before));
          whole = λ sound. absurd (let bad : None ≡ Some failed.fault = sym sound ∙ failed.kept in cc);
        }

-- What is left is so many of them.
pub front_leaves : {D C : Type 0} (trace : D → Trace) (sum : List ℕ → ℕ) (to : ℕ) (old new : Log D C) → WroteParts trace sum to old new → LeavesSome sum to old new
front_leaves trace sum to old new front = inr (front.count, front.left, front.start)

-- How far a read came.
module _ {D C : Type 0} (trace : D → Trace) (sum : List ℕ → ℕ) (old mid new : Log D C) where
  -- Its place was on the device, or is, and then its record wasn't read.
  pub came_behind : {T T' : Type 0} (lsn : ℤ) (x : T) (r : Result T' Error) → WritesAround {T = T} sum (Ok x) lsn old mid → trace (device_of mid) ≡ after_all (settling sum old lsn) (trace (device_of old))
      → held_at sum old lsn ≡ None → (lsn <ℤ pos (synced_end old) → trace (device_of mid) ≡ trace (device_of old)) → waiting_of new ≡ waiting_of mid → status_of new ≡ failing (fault_of new) (status_of mid)
      → trace (device_of new) ≡ trace (device_of mid) → OnErr r (CameAround trace sum lsn old new)
  came_behind lsn x (Ok y) writes made free still waiting status same = tt
  came_behind lsn x (Err e) writes made free still waiting status same = elim (or_beyond (pos (synced_end old)) lsn) [
    | inl behind ↦ (
        let above : pos 0 ≤ℤ lsn = omega (arith, ints, behind) in
        let at : pos (unsigned_abs lsn) ≡ lsn = omega (arith, ints, above) in
        inr (inr (inl ((waiting ∙ (writes.written behind).0, status ∙ ap (failing (fault_of new)) (writes.written behind).1), same ∙ made ∙ ap (λ z. after_all (settling sum old z) (trace (device_of old))) (sym at), ap (held_at sum old) at ∙ free))))
    | inr below ↦ inl ((waiting ∙ (writes.still below).0, status ∙ ap (failing (fault_of new)) (writes.still below).1), same ∙ still below, λ above. (let up = synced_up old in absurd (omega (arith, ints, below, above, up))))
  ]

-- A read did nothing.
module _ {T D C : Type 0} (log : Log D C) (lsn : ℤ) (e : Error) (never : IsHeld {T = T} (Err e) → ⊥) where
  pub seals_none : SealsAround {T = T} (Err e) lsn log log
  seals_none = record { still = λ _. refl; apart = λ _. refl; once = inl refl; held = λ held. absurd (never held); none = λ _. tt }

  pub around_none : (sum : List ℕ → ℕ) → WritesAround {T = T} sum (Err e) lsn log log
  around_none sum = record { still = λ _. (refl, refl); written = λ _. tt; held = λ held. absurd (never held); some = inl (refl, refl); marked = none_begun sum log log refl (λ h there. there) (λ f there. there) }

pub still_around : {D C : Type 0} (trace : D → Trace) (sum : List ℕ → ℕ) (lsn : ℤ) (log : Log D C) → CameAround trace sum lsn log log
still_around trace sum lsn log = inl ((refl, refl), refl, λ _. refl)
