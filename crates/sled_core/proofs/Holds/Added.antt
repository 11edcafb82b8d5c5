-- The messages of a history with one more are its own and that one.
use Rattle.std.proofs.Common.{⊎_elim, ◌≡◌, ◌⊎◌, ◌≤◌, ℕ, List, ◌∷◌, ◌++◌, sym, ap, subst, inl, inr}
use Rattle.std.specs.List.{Contains}
use Rattle.std.proofs.lemmas.List.Elements.{Contains-append_cases, Contains-append_left, Contains-append_right}
use Rattle.sled_codec.specs.History.{Message, Batch, History, AddsMessage}
use Rattle.sled_store.proofs.Segments.Elements.{in_first, in_rest, in_cases}
use Rattle.sled_core.specs.inside.Recoverable.{NoBatchBegins}
use Rattle.sled_core.proofs.Reached.GrowsAt.{GrowsAbove, GrowsAt}

module _ (H H' : History) (m : Message) (adds : AddsMessage H m H') where
  in_new : (x : Message) → Contains (adds.before ++ m ∷ adds.after) x → Contains H'.messages x
  in_new x there = subst (λ (l : List Message). Contains l x) (sym adds.new) there

  -- the message is one
  pub added_there : Contains H'.messages m
  added_there = in_new m (Contains-append_right adds.before (m ∷ adds.after) m (in_first m adds.after))

  -- those that were there are
  stays_there : (x : Message) → Contains H.messages x → Contains H'.messages x
  stays_there x there = elim (Contains-append_cases adds.before adds.after x (subst (λ (l : List Message). Contains l x) adds.old there)) [
    | inl front ↦ in_new x (Contains-append_left adds.before (m ∷ adds.after) x front)
    | inr back ↦ in_new x (Contains-append_right adds.before (m ∷ adds.after) x (in_rest m x adds.after back))
  ]

  -- and there is no other
  pub was_or_added : (x : Message) → Contains H'.messages x → Contains H.messages x ⊎ (m ≡ x)
  was_or_added x there = elim (Contains-append_cases adds.before (m ∷ adds.after) x (subst (λ (l : List Message). Contains l x) adds.new there)) [
    | inl front ↦ inl (subst (λ (l : List Message). Contains l x) (sym adds.old) (Contains-append_left adds.before adds.after x front))
    | inr behind ↦ elim (in_cases m x adds.after behind) [
      | inl own ↦ inr own
      | inr back ↦ inl (subst (λ (l : List Message). Contains l x) (sym adds.old) (Contains-append_right adds.before adds.after x back))
    ]
  ]

  -- The batches are the same.
  pub batch_was : (b : Batch) → Contains H'.batches b → Contains H.batches b
  batch_was b there = subst (λ (l : List Batch). Contains l b) adds.batches there

  pub no_batch : (low high : ℕ) → NoBatchBegins H low high → NoBatchBegins H' low high
  no_batch low high none b there = none b (batch_was b there)

  -- So the new history has more at the place of the message.
  pub message_grows : GrowsAt H H' m.place
  message_grows = record {
    message_stays = stays_there;
    message_was = λ x there. ⊎_elim inl (λ own. inr (ap (λ (y : Message). y.place) own)) (was_or_added x there);
    batch_stays = λ b there. subst (λ (l : List Batch). Contains l b) (sym adds.batches) there;
    batch_was = λ b there. inl (batch_was b there);
  }

  pub message_above : (low : ℕ) → low ≤ m.place → GrowsAbove H H' low
  message_above low above = record { at = m.place; grows = message_grows; above = above; ends = λ b there. inl (batch_was b there) }
