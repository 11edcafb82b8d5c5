-- What a step of the accountant frees no table needs: from the base of an account on none has an entry in a free slot, or in one that may go. And where
-- nothing is due, nothing is done.
use Rattle.std.proofs.Common.{◌≡◌, ◌≢◌, ◌∙◌, ◌+◌, ◌<◌, ◌≤◌, ℕ, ℤ, true, false, List, [], sym, ap, subst, arith, inr}
use Rattle.std.specs.List.{Contains}
use Rattle.std.proofs.lemmas.Bool.{true≢false}
use Rattle.sled_codec.specs.History.{History, Message, table}
use Rattle.sled_store.specs.Marks.{slot_with}
use Rattle.sled_store.specs.SegmentStates.{Machine, active_among, active_place, deactivated, in_turn, is_active, is_due, is_free, slot_at, stabilized}
use Rattle.sled_store.specs.Tracked.{IsAccountOf, IsHeld, IsNoEntry}
use Rattle.sled_store.specs.inside.SegmentStates.{NoneDue}
use Rattle.sled_store.proofs.Histories.Ascending.{Ascends}
use Rattle.sled_store.proofs.Segments.Elements.{all_from_in, none_kept}
use Rattle.sled_store.proofs.Segments.TableEntries.{from_table}
use Rattle.sled_store.proofs.Marks.AccountSteps.{entry_in_slot}
use Rattle.sled_store.proofs.Marks.DeactivationSteps.{active_parts}
use Rattle.sled_store.proofs.Marks.MarkedLemmas.{more_tracks, not_superseded}
use Rattle.sled_store.proofs.Marks.SlotLemmas.{by_has}
use Rattle.sled_store.proofs.Marks.StabilizeSteps.{one_deactivated_tracks}
use Rattle.sled_store.proofs.Marks.Tracked.{MayGo}

module _ (size base : ℕ) (H : History) (m : Machine) (t : IsAccountOf size base H m) where
  pub free_unneeded : (cut page k : ℕ) (e : Message) → base ≤ cut → Contains (table H cut page) e → is_free (slot_at m k).state ≡ true → slot_with size e ≢ k
  free_unneeded cut page k e le entry free is =
      true≢false (sym free ∙ subst (λ (i : ℕ). is_free (slot_at m i).state ≡ false) is (entry_in_slot size base H m t cut page e le entry).taken)

  -- a slot that may go
  pub goes_unneeded : (cut page k : ℕ) (e : Message) → base ≤ cut → Contains (table H cut page) e → MayGo size base H (IsNoEntry H base) m.slots k
      → slot_with size e ≢ k
  goes_unneeded cut page k e le entry goes is =
      let from = from_table H cut page e entry in
      let held : IsHeld size (slot_at m k) e = subst (λ (i : ℕ). IsHeld size (slot_at m i) e) is (entry_in_slot size base H m t cut page e le entry) in
      goes.spent e from.0 held cut le (subst (λ (p : ℕ). Contains (table H cut p) e) (sym from.1) entry)

  -- A segment that ends at a higher base, or below, is deactivated: that keeps the account.
  pub deactivated_account : 0 < size → Ascends H.messages → (a : ℕ × ℕ) (raised : ℕ) → base ≤ raised → is_active (slot_at m a.1).state ≡ true
      → (slot_at m a.1).lsn ≡ a.0 → a.0 + size ≤ raised
      → IsAccountOf size raised H (deactivated size a m).machine
  deactivated_account some order a raised le active lsn below =
      one_deactivated_tracks size raised H (IsNoEntry H raised) some
      (λ e by cut low entry. not_superseded size raised H cut e.page e some order entry low by) m a
      (more_tracks size base raised H H (IsNoEntry H base) (IsNoEntry H raised) m t le (λ x there. there) (λ x there. inr there)
      (λ x there none cut low. none cut (omega (arith, low, le))))
      active lsn below

-- Where nothing is due the step does nothing.
pub none_stabilized : (size : ℕ) (mark : ℤ) (m : Machine) → NoneDue size mark m → stabilized size mark m ≡ record { machine = m; calls = [] }
none_stabilized size mark m none =
    ap (λ (due : List (ℕ × ℕ)). in_turn (deactivated size) due m)
    (none_kept (λ (a : ℕ × ℕ). is_due size mark a.0) (active_among m.slots)
    (all_from_in (λ (a : ℕ × ℕ). is_due size mark a.0 ≡ false) (active_among m.slots) idle)) where
      idle : (a : ℕ × ℕ) → Contains (active_among m.slots) a → is_due size mark a.0 ≡ false
      idle a there =
          let has = by_has active_place 0 m.slots a there in
          let parts = active_parts (slot_at m has.index) a.0 has.has in
          subst (λ (l : ℕ). is_due size mark l ≡ false) parts.1 (none has.index parts.0)
