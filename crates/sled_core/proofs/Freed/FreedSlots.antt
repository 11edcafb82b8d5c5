-- What a step of the accountant frees for a mark no table of the history needs, from where its segment begins on. As long as a message isn't marked nothing
-- is due, so the step frees nothing.
use Rattle.std.proofs.Common.{◌≡◌, ◌≢◌, ◌∙◌, ◌+◌, ◌<◌, ◌≤◌, ℕ, ℤ, true, false, List, [], ◌∷◌, Option, sym, ap, subst}
use Rattle.std.specs.List.{Contains}
use Rattle.std.proofs.lemmas.Bool.{true≢false}
use Rattle.sled_codec.specs.History.{History, Message, table}
use Rattle.sled_store.specs.Marks.{slot_with}
use Rattle.sled_store.specs.Outdated.{AreOutdated}
use Rattle.sled_store.specs.SegmentStates.{Machine, Step, is_due, is_free, slot_at, stabilized}
use Rattle.sled_store.specs.Tracked.{IsAccountOf}
use Rattle.sled_store.specs.inside.Outdated.{AreInActive}
use Rattle.sled_store.specs.inside.SegmentStates.{NoneDue}
use Rattle.sled_store.proofs.Histories.Ascending.{Ascends}
use Rattle.sled_store.proofs.Marks.AccountSteps.{same_account, stabilized_account}
use Rattle.sled_store.proofs.Marks.DeactivationSteps.{from_map}
use Rattle.sled_store.proofs.Marks.FreedSteps.{free_unneeded, none_stabilized}
use Rattle.sled_store.proofs.Marks.OutdatedSteps.{outdated_still, stabilized_blobs}
use Rattle.sled_store.proofs.Segments.Elements.{in_nothing}
use Rattle.sled_core.specs.Logged.{in_log, logged}
use Rattle.sled_core.specs.Unmarked.{without}
use Rattle.sled_core.specs.declared.logger.joined_marks.JoinedMarks.{JoinedMarks}
use Rattle.sled_core.specs.inside.Slots.{HasAccount}
use Rattle.sled_core.proofs.Cleared.Emptied.{NoneNeeds}
use Rattle.sled_core.proofs.Logged.Messages.{table_logged}
use Rattle.sled_core.proofs.Start.StartedAccount.{all_marked}
use Rattle.sled_core.specs.inside.LogSegments.{held_since}

-- What no table of a history needs none needs as the log has it.
pub none_needs_logged : (size : ℕ) (H : History) (k from to : ℕ) → NoneNeeds size H k from to → NoneNeeds size (logged H) k from to
none_needs_logged size H k from to none cut low high page m entry =
    let found = from_map in_log (table H cut page) m (subst (λ (l : List Message). Contains l m) (table_logged H cut page) entry) in
    subst (λ (x : Message). slot_with size x ≢ k) found.2 (none cut low high page found.0 found.1)

module _ (sum : List ℕ → ℕ) (size : ℕ) (snapshots : ℤ → Option (List ℕ)) (H : History) (some : 0 < size) (order : Ascends H.messages) (m : Machine)
    (mark : ℤ) where
  -- the machine behind the step
  abbrev after : Machine
  after = (stabilized size mark m).machine

  -- Where all messages are marked, and what is due ends at a place or below it, the slots are the account from that place on.
  pub all_marked_account : {marks : JoinedMarks} (has : HasAccount sum marks size snapshots H [] m) (raised : ℕ)
      → held_since size marks has.first ≤ raised
      → ((place : ℕ) → is_due size mark place ≡ true → place + size ≤ raised)
      → IsAccountOf size raised H after
  all_marked_account {marks} has raised le due =
      let base : ℕ = held_since size marks has.first in
      let its : IsAccountOf size base H m = same_account size base (without [] H) m has.account H (sym (all_marked H.messages)) in
      stabilized_account size base H m some order its mark raised le due

  -- No table from there on needs anything of a slot that the step frees.
  pub freed_unneeded : (U : List Message) {marks : JoinedMarks} (has : HasAccount sum marks size snapshots H U m) → (U ≢ [] → NoneDue size mark m) → (raised : ℕ)
      → held_since size marks has.first ≤ raised
      → ((place : ℕ) → is_due size mark place ≡ true → place + size ≤ raised) → (k : ℕ) → is_free (slot_at m k).state ≡ false
      → is_free (slot_at after k).state ≡ true
      → (to : ℕ) → NoneNeeds size H k raised to
  freed_unneeded [] has idle raised le due k taken free to cut low high page e entry =
      free_unneeded size raised H after (all_marked_account has raised le due) cut page k e low entry free
  freed_unneeded (u ∷ us) has idle raised le due k taken free to cut low high page e entry =
      let same : after ≡ m = ap (λ (s : Step). s.machine) (none_stabilized size mark m (idle (λ none. let clash : u ∷ us ≡ [] = none in cc))) in
      absurd (true≢false (sym free ∙ ap (λ (n : Machine). is_free (slot_at n k).state) same ∙ taken))

  -- The blobs that go with segments stay outdated,
  pub stabilized_outdated : (U : List Message) → {marks : JoinedMarks} → HasAccount sum marks size snapshots H U m → AreOutdated size H after
  stabilized_outdated U has = outdated_still size H m after has.outdated (stabilized_blobs size mark m)

  -- and messages that aren't marked stay in active segments.
  pub stabilized_unmarked : (U : List Message) → {marks : JoinedMarks} → HasAccount sum marks size snapshots H U m → (U ≢ [] → NoneDue size mark m) → AreInActive size after U
  stabilized_unmarked [] has idle = λ e there. absurd (in_nothing e there)
  stabilized_unmarked (u ∷ us) has idle =
      subst (λ (n : Machine). AreInActive size n (u ∷ us)) (sym (ap (λ (s : Step). s.machine)
      (none_stabilized size mark m (idle (λ none. let clash : u ∷ us ≡ [] = none in cc))))) has.unmarked
