-- What any beginning of a step of the accountant has left: all that is said of the whole step holds of the moves that were made (`SlotMoves`), and with them
-- an account is one at a higher base.
use Rattle.std.proofs.Common.{◌≡◌, ◌∙◌, ◌+◌, ◌-◌, ◌≤◌, ◌<◌, ℕ, ℤ, true, false, nat_lt, List, [], ◌++◌, Result, length, set, take, suc, refl, sym}
use Rattle.std.proofs.Common.{ap, subst, arith, inl, inr}
use Rattle.std.proofs.lemmas.Bool.{true≢false, and_parts, cases_eq}
use Rattle.sled_codec.specs.History.{Message, History}
use Rattle.sled_codec.specs.declared.result.Error.{Error}
use Rattle.sled_store.specs.Blobs.{removing_blobs}
use Rattle.sled_store.specs.Device.{Event, Trace}
use Rattle.sled_store.specs.Marks.{IsSuperseded}
use Rattle.sled_store.specs.Script.{Performs}
use Rattle.sled_store.specs.SegmentStates.{Machine, SlotState, drained, free_among, free_slot, inactive_slot, is_active, is_done, is_due, is_free, may_be_cut}
use Rattle.sled_store.specs.SegmentStates.{slot_at, with_slot}
use Rattle.sled_store.specs.Stabilizing.{AreMoves, EndsWith, HasEnded, IsLeftBehind, IsMove, MayCut, MovesSlots, all_made, cuts, cuts_off, cutting_last}
use Rattle.sled_store.specs.Stabilizing.{deactivates, drains, emptied, frees, moves, no_move, removes, shorter}
use Rattle.sled_store.specs.Tracked.{IsAccountOf, IsNoEntry, at}
use Rattle.sled_store.proofs.Accounts.StabilSlots.{active_is, done_drains}
use Rattle.sled_store.proofs.Histories.Ascending.{Ascends}
use Rattle.sled_store.proofs.Marks.DeactivationSteps.{due_goes}
use Rattle.sled_store.proofs.Marks.MarkSteps.{Tracks, drained_tracks}
use Rattle.sled_store.proofs.Marks.MarkedLemmas.{more_tracks, not_superseded}
use Rattle.sled_store.proofs.Marks.OutdatedSteps.{KeepsBlobs, blobs_same, blobs_then, drained_blobs, set_without}
use Rattle.sled_store.proofs.Marks.SlotLemmas.{set_changes}
use Rattle.sled_store.proofs.Marks.SlotMoves.{AreFreeFrom, GoesWith, IsDueFor, IsStepOf, KeepOrLose, active_moved, drained_made, kept_or_lost, left_made}
use Rattle.sled_store.proofs.Marks.SlotMoves.{made_same, made_then}
use Rattle.sled_store.proofs.Marks.StabilizeSteps.{inactive_tracks}
use Rattle.sled_store.proofs.Marks.StableSteps.{done_goes}
use Rattle.sled_store.proofs.Marks.StepCalls.{cuts as cut_call, no_call, removing_calls}
use Rattle.sled_store.proofs.Marks.Tracked.{MayGo, left_free}
use Rattle.sled_store.proofs.Traces.ScriptLemmas.{performs_behind, performs_nothing}

-- The last slot is free, too.
last_free : (slots : List SlotState) (tip : ℕ) → AreFreeFrom slots tip → may_be_cut (tip - 1) slots ≡ true → AreFreeFrom slots (tip - 1)
last_free slots tip behind may j le = elim (cases_eq j (tip - 1)) [
  | inl same ↦ subst (λ (i : ℕ). is_free (at slots i).state ≡ true) (sym same)
      (and_parts (is_free (at slots (tip - 1)).state) (nat_lt 1 (length (free_among (take (suc (tip - 1)) slots)))) may).0
  | inr other ↦ behind j (omega (arith, le, other))
]

module _ (size : ℕ) (mark : ℤ) where
  -- the same calls, spelled as in the move
  respell : (Due : ℕ → Type 0) (m n o : Machine) (es fs : List Event) → n ≡ o → es ≡ fs → IsStepOf size Due m o fs → IsStepOf size Due m n es
  respell Due m n o es fs is same step = subst (λ k. IsStepOf size Due m k es) (sym is) (subst (IsStepOf size Due m o) (sym same) step)

  module _ (Due : ℕ → Type 0) (m : Machine) (cut_off : AreFreeFrom m.slots m.tip) where
    -- blobs go
    removed_made : (k : ℕ) → is_active (slot_at m k).state ≡ true → Due k → IsStepOf size Due m m (removing_blobs (slot_at m k).blobs)
    removed_made k active due = record {
      slots = λ j. inl refl;
      long = refl;
      tip = omega arith;
      cut_off = cut_off;
      calls = removing_calls size (GoesWith Due m.slots) (AreFreeFrom m.slots) (slot_at m k).blobs
          (λ blob there. record { slot = k; active = active; due = due; there = there });
    }

    -- and the segment is inactive
    inactive_made : (k : ℕ) → is_active (slot_at m k).state ≡ true → Due k
        → IsStepOf size Due m (with_slot k (inactive_slot (slot_at m k)) m) (removing_blobs (slot_at m k).blobs)
    inactive_made k active due =
        left_made size Due m k (inactive_slot (slot_at m k))
        (record { taken = ap is_free (active_is (slot_at m k).state active); due = λ is. due; idle = refl; now = inl (refl, refl) })
        m.cleaner (removing_blobs (slot_at m k).blobs) cut_off
        (removing_calls size (GoesWith Due m.slots) (AreFreeFrom (set m.slots k (inactive_slot (slot_at m k)))) (slot_at m k).blobs
        (λ blob there. record { slot = k; active = active; due = due; there = there }))

    -- a segment that is done leaves its slot
    emptied_made : (k : ℕ) → is_done (slot_at m k) ≡ true → IsStepOf size Due m (emptied k m) []
    emptied_made k done =
        left_made size Due m k free_slot
        (record {
          taken = ap is_free (done_drains (slot_at m k) done);
          due = λ active. absurd (true≢false (sym active ∙ ap is_active (done_drains (slot_at m k) done)));
          idle = refl;
          now = inr refl;
        }) (emptied k m).cleaner [] cut_off no_call

    -- and the last slot is cut off
    shorter_made : MayCut m → IsStepOf size Due m (shorter m) (cutting_last size m)
    shorter_made may =
        record { slots = λ j. inl refl; long = refl; tip = omega arith; cut_off = free; calls = cut_call (m.tip - 1) [] free no_call } where
          free : AreFreeFrom m.slots (m.tip - 1)
          free = last_free m.slots m.tip cut_off may.may

    one_made : (n : Machine) (es : List Event) → ((k : ℕ) → IsLeftBehind size mark m k → Due k) → IsMove size mark m n es → IsStepOf size Due m n es
    one_made n es due (deactivates k behind is calls) =
        respell Due m n (with_slot k (inactive_slot (slot_at m k)) m) es (removing_blobs (slot_at m k).blobs) is calls
        (inactive_made k behind.active (due k behind))
    one_made n es due (drains k inactive is calls) = respell Due m n (drained k m) es [] is calls (drained_made size Due m k inactive cut_off)
    one_made n es due (frees k done ended is calls) = respell Due m n (emptied k m) es [] is calls (emptied_made k done)
    one_made n es due (cuts may is calls) = respell Due m n (shorter m) es (cutting_last size m) is calls (shorter_made may)

  -- a segment that is left behind now was before
  still : (Due : ℕ → Type 0) (old mid : Machine) (es : List Event) → IsStepOf size Due old mid es → ((k : ℕ) → IsLeftBehind size mark old k → Due k)
      → (k : ℕ) → IsLeftBehind size mark mid k → Due k
  still Due old mid es step due k behind =
      let same : slot_at mid k ≡ slot_at old k = active_moved (Due k) (slot_at old k) (slot_at mid k) (step.slots k) behind.active in
      due k (record {
        active = ap (λ (s : SlotState). is_active s.state) (sym same) ∙ behind.active;
        due = ap (λ (s : SlotState). is_due size mark s.lsn) (sym same) ∙ behind.due;
      })

  moved_made : (Due : ℕ → Type 0) (new old : Machine) (all : List Event) → AreFreeFrom old.slots old.tip → ((k : ℕ) → IsLeftBehind size mark old k → Due k)
      → AreMoves size mark new old all → IsStepOf size Due old new all
  moved_made Due new old all cut_off due (no_move _ same) = respell Due old new old [] [] same refl (made_same size Due old cut_off)
  moved_made Due new old all cut_off due (moves _ mid es fs one are) =
      let first : IsStepOf size Due old mid es = one_made Due old cut_off mid es due one in
      made_then size Due old mid new es fs first (moved_made Due new mid fs first.cut_off (still Due old mid es first due) are)

  -- So it is with the moves for a mark, and with what came behind them: the calls that were made are the first of such calls.
  pub record CameTo (old new : Machine) (before after : Trace) : Type 0 where
    pub calls : List Event
    pub step : IsStepOf size (IsDueFor size mark old) old new calls
    pub came : Performs calls before after

  ended_made : (Due : ℕ → Type 0) (old new : Machine) (before after : Trace) → AreFreeFrom old.slots old.tip
      → ((k : ℕ) → IsLeftBehind size mark old k → Due k) → EndsWith size mark old new before after
      → (es : List Event) × IsStepOf size Due old new es × Performs es before after
  ended_made Due old new before after cut_off due (all_made is none) =
      ([], respell Due old new old [] [] is refl (made_same size Due old cut_off), performs_nothing [] before after none)
  ended_made Due old new before after cut_off due (removes k behind is came) =
      let es : List Event = removing_blobs (slot_at old k).blobs in
      (es, respell Due old new old es es is refl (removed_made Due old cut_off k behind.active (due k behind)), came)
  ended_made Due old new before after cut_off due (cuts_off may is came) =
      let es : List Event = cutting_last size old in (es, respell Due old new (shorter old) es es is refl (shorter_made Due old cut_off may), came)

  module _ {T : Type 0} {result : Result T Error} (old new : Machine) (before after : Trace) (it : MovesSlots size mark result old new before after)
      (cut_off : AreFreeFrom old.slots old.tip) where
    pub moves_made : CameTo old new before after
    moves_made =
        let Due : ℕ → Type 0 = IsDueFor size mark old in
        let first : IsStepOf size Due old it.mid it.calls = moved_made Due it.mid old it.calls cut_off (λ k behind. behind.due) it.moves in
        let last = ended_made Due it.mid new it.between after first.cut_off (still Due old it.mid it.calls first (λ k behind. behind.due)) it.end in
        record {
          calls = it.calls ++ last.0;
          step = made_then size Due old it.mid new it.calls last.0 first last.1;
          came = performs_behind it.calls last.0 before it.between after it.made last.2;
        }

    -- What isn't active ends at a place or below it, and so does what is due: so does each segment that has left its slot.
    pub moved_slots : (base : ℕ)
        → ((k : ℕ) → is_free (slot_at old k).state ≡ false → is_active (slot_at old k).state ≡ false → (slot_at old k).lsn + size ≤ base)
        → ((place : ℕ) → is_due size mark place ≡ true → place + size ≤ base) → KeepOrLose size base old new
    moved_slots base stable below = kept_or_lost size base mark old cut_off stable below new moves_made.step.slots

  -- Blobs.

  one_keeps_blobs : (m n : Machine) (es : List Event) → IsMove size mark m n es → KeepsBlobs m.slots n.slots
  one_keeps_blobs m n es (deactivates k behind is calls) =
      subst (λ (o : Machine). KeepsBlobs m.slots o.slots) (sym is) (set_without m.slots k (inactive_slot (slot_at m k)) refl)
  one_keeps_blobs m n es (drains k inactive is calls) = subst (λ (o : Machine). KeepsBlobs m.slots o.slots) (sym is) (drained_blobs m k inactive)
  one_keeps_blobs m n es (frees k done ended is calls) =
      subst (λ (o : Machine). KeepsBlobs m.slots o.slots) (sym is) (set_without m.slots k free_slot refl)
  one_keeps_blobs m n es (cuts may is calls) = subst (λ (o : Machine). KeepsBlobs m.slots o.slots) (sym is) (blobs_same m.slots)

  moves_keep_blobs : (new old : Machine) (es : List Event) → AreMoves size mark new old es → KeepsBlobs old.slots new.slots
  moves_keep_blobs new old es (no_move _ same) = subst (λ (m : Machine). KeepsBlobs old.slots m.slots) (sym same) (blobs_same old.slots)
  moves_keep_blobs new old es (moves _ mid ds fs one are) =
      blobs_then old.slots mid.slots new.slots (one_keeps_blobs old mid ds one) (moves_keep_blobs new mid fs are)

  end_keeps_blobs : (old new : Machine) (before after : Trace) → EndsWith size mark old new before after → KeepsBlobs old.slots new.slots
  end_keeps_blobs old new before after (all_made is none) = subst (λ (m : Machine). KeepsBlobs old.slots m.slots) (sym is) (blobs_same old.slots)
  end_keeps_blobs old new before after (removes k behind is came) = subst (λ (m : Machine). KeepsBlobs old.slots m.slots) (sym is) (blobs_same old.slots)
  end_keeps_blobs old new before after (cuts_off may is came) = subst (λ (m : Machine). KeepsBlobs old.slots m.slots) (sym is) (blobs_same old.slots)

  -- A slot has no blob that it hadn't.
  pub moved_blobs : {T : Type 0} {result : Result T Error} (old new : Machine) (before after : Trace) → MovesSlots size mark result old new before after
      → KeepsBlobs old.slots new.slots
  moved_blobs old new before after it =
      blobs_then old.slots it.mid.slots new.slots (moves_keep_blobs it.mid old it.calls it.moves) (end_keeps_blobs it.mid new it.between after it.end)

  -- Accounts.

  module _ (base : ℕ) (H : History) (Spent : Message → Type 0) (some : 0 < size) (spends : (e : Message) → IsSuperseded size base H e → Spent e)
      (below : (place : ℕ) → is_due size mark place ≡ true → place + size ≤ base) where
    shorter_tracks : (m : Machine) → MayCut m → Tracks size base H Spent m → Tracks size base H Spent (shorter m)
    shorter_tracks m may t = record {
      cut_off = last_free m.slots m.tip t.cut_off may.may;
      messages = t.messages;
      gone = t.gone;
      latest = t.latest;
      within = t.within;
      stable = t.stable;
      aligned = t.aligned;
      apart = t.apart;
    }

    emptied_tracks : (m : Machine) (k : ℕ) → is_done (slot_at m k) ≡ true → HasEnded size mark m (slot_at m k).latest → Tracks size base H Spent m
        → Tracks size base H Spent (emptied k m)
    emptied_tracks m k done ended t =
        left_free size base H Spent m.slots m.tip t k (set m.slots k free_slot) m.tip (set_changes m.slots k free_slot goes.there) goes
        (λ j le lt. absurd (omega (arith, le, lt))) where
          goes : MayGo size base H Spent m.slots k
          goes = done_goes size base H Spent m.slots m.tip k some spends t done (λ place noted. elim (ended place noted) [
            | inl due ↦ below place due
            | inr idle ↦ (due_goes size base H Spent some spends m k t done idle).waited place noted
          ])

    one_tracks : (m n : Machine) (es : List Event) → IsMove size mark m n es → Tracks size base H Spent m → Tracks size base H Spent n
    one_tracks m n es (deactivates k behind is calls) t =
        subst (Tracks size base H Spent) (sym is) (inactive_tracks size base H Spent some spends m t ((slot_at m k).lsn, k)
        (record { active = behind.active; lsn = refl; below = below (slot_at m k).lsn behind.due }))
    one_tracks m n es (drains k inactive is calls) t = subst (Tracks size base H Spent) (sym is) (drained_tracks m k inactive size base H Spent t)
    one_tracks m n es (frees k done ended is calls) t = subst (Tracks size base H Spent) (sym is) (emptied_tracks m k done ended t)
    one_tracks m n es (cuts may is calls) t = subst (Tracks size base H Spent) (sym is) (shorter_tracks m may t)

    moves_track : (new old : Machine) (es : List Event) → AreMoves size mark new old es → Tracks size base H Spent old → Tracks size base H Spent new
    moves_track new old es (no_move _ same) t = subst (Tracks size base H Spent) (sym same) t
    moves_track new old es (moves _ mid ds fs one are) t = moves_track new mid fs are (one_tracks old mid ds one t)

    end_tracks : (old new : Machine) (before after : Trace) → EndsWith size mark old new before after → Tracks size base H Spent old
        → Tracks size base H Spent new
    end_tracks old new before after (all_made is none) t = subst (Tracks size base H Spent) (sym is) t
    end_tracks old new before after (removes k behind is came) t = subst (Tracks size base H Spent) (sym is) t
    end_tracks old new before after (cuts_off may is came) t = subst (Tracks size base H Spent) (sym is) (shorter_tracks old may t)

    pub moved_tracks : {T : Type 0} {result : Result T Error} (old new : Machine) (before after : Trace) → MovesSlots size mark result old new before after
        → Tracks size base H Spent old → Tracks size base H Spent new
    moved_tracks old new before after it t = end_tracks it.mid new it.between after it.end (moves_track it.mid old it.calls it.moves t)

-- A mark whose segment lies at a higher base, or below, leaves an account of that base, however far its moves went.
pub moved_account : {T : Type 0} {result : Result T Error} (size base raised : ℕ) (mark : ℤ) (H : History) (old new : Machine) (before after : Trace)
    → 0 < size → Ascends H.messages → IsAccountOf size base H old → base ≤ raised
    → ((place : ℕ) → is_due size mark place ≡ true → place + size ≤ raised) → MovesSlots size mark result old new before after
    → IsAccountOf size raised H new
moved_account size base raised mark H old new before after some order t le below it =
    moved_tracks size mark raised H (IsNoEntry H raised) some (λ e by cut low entry. not_superseded size raised H cut e.page e some order entry low by) below
    old new before after it
    (more_tracks size base raised H H (IsNoEntry H base) (IsNoEntry H raised) old t le (λ x there. there) (λ x there. inr there)
    (λ x there none cut low. none cut (omega (arith, low, le))))
