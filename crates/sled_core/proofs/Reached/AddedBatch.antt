-- The batches of a history with one more are its own and that one, and its messages are what they were.
use Rattle.std.proofs.Common.{⊎_elim, ◌≡◌, ◌⊎◌, ◌<◌, ◌≤◌, ℕ, List, [], ◌∷◌, ◌++◌, sym, ap, subst, arith, inl, inr}
use Rattle.std.specs.List.{Contains}
use Rattle.std.proofs.lemmas.List.Elements.{Contains-append_cases, Contains-append_left, Contains-append_right}
use Rattle.sled_codec.specs.History.{AddsBatch, Batch, History, Message, of_page, page_state, table}
use Rattle.sled_store.proofs.Segments.Elements.{in_first, only_in}
use Rattle.sled_core.specs.inside.Recoverable.{NoBatchEnds, NoMessageBegins}
use Rattle.sled_core.proofs.Reached.GrowsAt.{GrowsAbove, GrowsAt}

module _ (H H' : History) (b : Batch) (adds : AddsBatch H b H') where
  in_new : (c : Batch) → Contains (H.batches ++ b ∷ []) c → Contains H'.batches c
  in_new c there = subst (λ (l : List Batch). Contains l c) (sym adds.batches) there

  -- the batch is one
  pub batch_there : Contains H'.batches b
  batch_there = in_new b (Contains-append_right H.batches (b ∷ []) b (in_first b []))

  -- those that were there are
  pub batch_stays : (c : Batch) → Contains H.batches c → Contains H'.batches c
  batch_stays c there = in_new c (Contains-append_left H.batches (b ∷ []) c there)

  -- and there is no other
  pub was_or_batch : (c : Batch) → Contains H'.batches c → Contains H.batches c ⊎ (b ≡ c)
  was_or_batch c there = elim (Contains-append_cases H.batches (b ∷ []) c (subst (λ (l : List Batch). Contains l c) adds.batches there)) [ inl was ↦ inl was | inr own ↦ inr (only_in b c own) ]

  -- A message of the one history is one of the other.
  pub message_was : (x : Message) → Contains H'.messages x → Contains H.messages x
  message_was x there = subst (λ (l : List Message). Contains l x) adds.messages there

  -- So are the entries of a table.
  pub same_table : (cut page : ℕ) → table H' cut page ≡ table H cut page
  unfolding table
  same_table cut page = ap (λ (l : List Message). page_state (of_page l cut page)) adds.messages

  pub entry_was : (cut page : ℕ) (x : Message) → Contains (table H' cut page) x → Contains (table H cut page) x
  entry_was cut page x there = subst (λ (l : List Message). Contains l x) (same_table cut page) there

  -- A message that began nowhere from one place up to another does so still, and a batch that ended nowhere does where the further one lies behind.
  pub no_message : (low high : ℕ) → NoMessageBegins H low high → NoMessageBegins H' low high
  no_message low high none x there = none x (message_was x there)

  pub no_end : (low high : ℕ) → high ≤ b.low → NoBatchEnds H low high → NoBatchEnds H' low high
  no_end low high behind none c there =
      let pegged = adds.pegged in
      let own_end : (b.peg < low) ⊎ (high ≤ b.peg) = inr (omega (arith, behind, pegged)) in
      ⊎_elim (none c) (λ own. subst (λ (d : Batch). (d.peg < low) ⊎ (high ≤ d.peg)) own own_end) (was_or_batch c there)

  -- So the new history has more at the place where the batch begins.
  pub batch_grows : GrowsAt H H' b.low
  batch_grows = record {
    message_stays = λ x there. subst (λ (l : List Message). Contains l x) (sym adds.messages) there;
    message_was = λ x there. inl (message_was x there);
    batch_stays = batch_stays;
    batch_was = λ c there. ⊎_elim inl (λ own. inr (ap (λ (d : Batch). d.low) own)) (was_or_batch c there);
  }

  pub batch_above : (low : ℕ) → low ≤ b.low → GrowsAbove H H' low
  batch_above low above = record {
    at = b.low;
    grows = batch_grows;
    above = above;
    ends = λ c there. elim (was_or_batch c there) [
      | inl was ↦ inl was
      | inr own ↦ inr (let pegged = adds.pegged in let same = ap (λ (d : Batch). d.peg) own in omega (arith, above, pegged, same))
    ];
  }
