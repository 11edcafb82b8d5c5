-- Moves of the machine that are made one after another, with their calls, and what was made where the device fails at one of these.
use Rattle.std.proofs.Common.{◌≡◌, ◌∙◌, ◌-◌, ◌*◌, ◌/◌, ◌++◌, ℕ, ℤ, Bool, true, false, nat_le, if◌then◌else◌, List, [], length, get_or, refl, sym, ap, subst}
use Rattle.std.proofs.Common.{inl, inr, append_assoc, append-nil, Option, Some, Result, Ok, Err, OnOk}
use Rattle.std.proofs.lemmas.Bool.{and_parts}
use Rattle.sled_codec.specs.declared.result.Error.{Error}
use Rattle.sled_store.specs.Device.{Event, Trace}
use Rattle.sled_store.specs.Script.{after_all}
use Rattle.sled_store.specs.SegmentStates.{Machine, active_place, drained, drained_if_sparse, drained_if_wasteful, inactive_among, is_active_place, is_done}
use Rattle.sled_store.specs.SegmentStates.{is_due, is_inactive, is_sparse, is_wasteful, slot_at}
use Rattle.sled_store.specs.Stabilizing.{AreMoves, EndsWith, HasEnded, IsLeftBehind, IsMove, MovesSlots, all_made, drains, emptied, frees, moves, no_move}
use Rattle.sled_store.proofs.Traces.ScriptLemmas.{after_joined}
use Rattle.sled_store.proofs.Marks.DeactivationSteps.{active_parts}
use Rattle.sled_store.proofs.Marks.StabilizeSteps.{wasteful_inactive}

module _ (size : ℕ) (mark : ℤ) where
  -- such moves, and such moves behind them
  moves_joined : (mid new old : Machine) (es fs : List Event) → AreMoves size mark mid old es → AreMoves size mark new mid fs
      → AreMoves size mark new old (es ++ fs)
  moves_joined mid new old es fs (no_move _ same) more = subst (λ (m : Machine). AreMoves size mark new m fs) same more
  moves_joined mid new old es fs (moves _ next ds rest one are) more =
      subst (AreMoves size mark new old) (sym (append_assoc ds rest fs)) (moves old next ds (rest ++ fs) one (moves_joined mid new next rest fs are more))

  -- Moves were made, and all of their calls.
  pub record Moved (old new : Machine) (before after : Trace) : Type 0 where
    pub calls : List Event
    pub moves : AreMoves size mark new old calls
    pub made : after ≡ after_all calls before

  pub none_moved : (old new : Machine) (before after : Trace) → new ≡ old → after ≡ before → Moved old new before after
  none_moved old new before after same stays = record { calls = []; moves = no_move old same; made = stays }

  one_move : (old new : Machine) (es : List Event) → IsMove size mark old new es → AreMoves size mark new old es
  one_move old new es one = subst (AreMoves size mark new old) (append-nil es) (moves old new es [] one (no_move new refl))

  pub one_moved : (old new : Machine) (es : List Event) (before after : Trace) → IsMove size mark old new es → after ≡ after_all es before
      → Moved old new before after
  one_moved old new es before after one came = record { calls = es; moves = one_move old new es one; made = came }

  pub then_moved : (old mid new : Machine) (before between after : Trace) → Moved old mid before between → Moved mid new between after
      → Moved old new before after
  then_moved old mid new before between after first second = record {
    calls = first.calls ++ second.calls;
    moves = moves_joined mid new old first.calls second.calls first.moves second.moves;
    made = second.made ∙ ap (after_all second.calls) first.made ∙ sym (after_joined first.calls second.calls before);
  }

  -- At an exit.
  module _ {T : Type 0} (result : Result T Error) (old mid new : Machine) (before between after : Trace) where
    pub exit_moved : Moved old new before after → MovesSlots size mark result old new before after
    exit_moved it = record {
      mid = new;
      between = after;
      calls = it.calls;
      moves = it.moves;
      made = it.made;
      end = all_made refl refl;
      all = always result;
    } where
      always : (r : Result T Error) → OnOk r ((new ≡ new) × (after ≡ after))
      always (Ok _) = (refl, refl)
      always (Err _) = record {}

    -- what was called last tells it
    pub exit_behind : Moved old mid before between → MovesSlots size mark result mid new between after → MovesSlots size mark result old new before after
    exit_behind first rest =
        let both : Moved old rest.mid before rest.between =
        then_moved old mid rest.mid before between rest.between first (record { calls = rest.calls; moves = rest.moves; made = rest.made }) in
        record {
          mid = rest.mid;
          between = rest.between;
          calls = both.calls;
          moves = both.moves;
          made = both.made;
          end = rest.end;
          all = rest.all;
        }

    -- and where it fails the whole does.
    module _ (failed : (P : Type 0) → OnOk result P) (first : Moved old mid before between) where
      pub exit_failed : {S : Type 0} (other : Result S Error) → MovesSlots size mark other mid new between after
          → MovesSlots size mark result old new before after
      exit_failed other rest =
          let both : Moved old rest.mid before rest.between =
          then_moved old mid rest.mid before between rest.between first (record { calls = rest.calls; moves = rest.moves; made = rest.made }) in
          record {
            mid = rest.mid;
            between = rest.between;
            calls = both.calls;
            moves = both.moves;
            made = both.made;
            end = rest.end;
            all = failed ((new ≡ rest.mid) × (after ≡ rest.between));
          }

      pub exit_begun : EndsWith size mark mid new between after → MovesSlots size mark result old new before after
      exit_begun last = record {
        mid = mid;
        between = between;
        calls = first.calls;
        moves = first.moves;
        made = first.made;
        end = last;
        all = failed ((new ≡ mid) × (after ≡ between));
      }

  -- behind a call that succeeds all was made
  pub whole_moved : {T : Type 0} (x : T) (old new : Machine) (before after : Trace) → MovesSlots size mark (Ok x) old new before after
      → Moved old new before after
  whole_moved x old new before after it = record {
    calls = it.calls;
    moves = subst (λ (m : Machine). AreMoves size mark m old it.calls) (sym it.all.0) it.moves;
    made = it.all.1 ∙ it.made;
  }

  -- Single moves.

  module _ (m n : Machine) (t : Trace) where
    -- a segment was in a slot that is done
    pub freed_moved : (k : ℕ) → is_done (slot_at m k) ≡ true → HasEnded size mark m (slot_at m k).latest → n ≡ emptied k m → Moved m n t t
    freed_moved k done ended is = one_moved m n [] t t (frees k done ended is refl) refl

    pub sparse_moved : (k : ℕ) → n ≡ drained_if_sparse size k m → Moved m n t t
    sparse_moved k = by (is_sparse size (slot_at m k)) refl where
      by : (b : Bool) → is_sparse size (slot_at m k) ≡ b → n ≡ (if b then drained k m else m) → Moved m n t t
      by true sparse is =
          one_moved m n [] t t (drains k (and_parts (is_inactive (slot_at m k).state) (nat_le ((slot_at m k).held * 100 / size) 50) sparse).0 is refl) refl
      by false full is = none_moved m n t t is refl

    pub wasteful_moved : n ≡ drained_if_wasteful m → Moved m n t t
    wasteful_moved = by (is_wasteful m.slots) refl where
      last : ℕ
      last = get_or (inactive_among m.slots) (length (inactive_among m.slots) - 1) 0

      by : (b : Bool) → is_wasteful m.slots ≡ b → n ≡ (if b then drained last m else m) → Moved m n t t
      by true wasteful is = one_moved m n [] t t (drains last (wasteful_inactive m wasteful) is refl) refl
      by false lean is = none_moved m n t t is refl

  -- a segment that is active at a place which is due
  pub left_behind : (m : Machine) (k place : ℕ) → active_place (slot_at m k) ≡ Some place → is_due size mark place ≡ true → IsLeftBehind size mark m k
  left_behind m k place at due =
      let parts = active_parts (slot_at m k) place at in record { active = parts.0; due = ap (is_due size mark) parts.1 ∙ due }

-- what replaced a segment is due, or isn't active
pub ended_due : (size other : ℕ) (mark : ℤ) (m : Machine) (place : ℕ) (latest : Option ℕ) → other ≡ size → latest ≡ Some place → is_due size mark place ≡ true
    → HasEnded other mark m latest
ended_due size other mark m place latest same at due other_place also =
    let is : place ≡ other_place = cc (at, also) in
    inl (ap (λ (n : ℕ). is_due n mark other_place) same ∙ ap (is_due size mark) (sym is) ∙ due)

pub ended_idle : (size : ℕ) (mark : ℤ) (m : Machine) (latest : Option ℕ) → is_active_place m latest ≡ false → HasEnded size mark m latest
ended_idle size mark m latest idle place at = inr idle

-- the same moves, of the same size and for the same mark
module _ {T : Type 0} (size other : ℕ) (mark : ℤ) (result : Result T Error) (old new : Machine) (before after : Trace) (same : other ≡ size) where
  pub moves_same : MovesSlots other mark result old new before after → MovesSlots size mark result old new before after
  moves_same made = subst (λ (n : ℕ). MovesSlots n mark result old new before after) same made

pub moved_at : (size : ℕ) (held mark : ℤ) (old new : Machine) (before after : Trace) → held ≡ mark → Moved size held old new before after
    → Moved size mark old new before after
moved_at size held mark old new before after same all = subst (λ (z : ℤ). Moved size z old new before after) same all
