-- The batches of a history over what is written of a log and what it noted: where more is written, where a message or a batch comes to the history, where a log begins, and where all is written.
use Rattle.std.proofs.Common.{◌≡◌, ◌⊎◌, ⊎_elim, ◌<◌, ◌≤◌, ◌+◌, ℕ, List, [], ◌∷◌, subst, sym, arith, inl, inr}
use Rattle.std.specs.List.{Contains}
use Rattle.std.proofs.lemmas.List.Elements.{All-append, All-cons, All-contains}
use Rattle.sled_codec.specs.History.{AddsBatch, AddsMessage, Batch, History, Message}
use Rattle.sled_store.proofs.Segments.Elements.{in_nothing}
use Rattle.sled_core.specs.Fits.{CloseBelow}
use Rattle.sled_core.specs.inside.Fits.{FitsBatches}
use Rattle.sled_core.specs.inside.OpenBatches.{AreApart}
use Rattle.sled_core.specs.OpenBatches.{not_whole, stable_below, with_batch}
use Rattle.sled_core.proofs.Holds.Added.{was_or_added}
use Rattle.sled_core.proofs.Reached.AddedBatch.{batch_stays, batch_there, message_was, was_or_batch}
use Rattle.sled_core.proofs.Holds.BatchLemmas.{closed_up}
use Rattle.sled_core.proofs.Reached.ByPlace.{with_cases, with_own, with_rest}
use Rattle.sled_core.proofs.Reached.OpenBatch.{apart_further, apart_noted, ended_apart, not_whole_there, stable_alike, whole_not}

-- Those that were noted are the ones by which the stable place goes.
pub stable_noted : (end last : ℕ) (noted : List Batch) (H : History) → FitsBatches end last noted H → stable_below end H.batches ≡ stable_below end noted
stable_noted end last noted H fits = stable_alike end H.batches noted (λ b later there. fits.known b there) (λ b later there. fits.all b there later)

-- More is written, and more is begun.
pub batches_up : (low high last last' : ℕ) (noted : List Batch) (H : History) → low ≤ high → last ≤ last' → FitsBatches low last noted H → FitsBatches high last' noted H
batches_up low high last last' noted H up more fits = record {
  known = fits.known;
  all = λ b there later. fits.all b there (omega (arith, up, later));
  within = closed_up last last' H.batches more fits.within;
  apart = apart_further low high H.batches up fits.apart;
  before = λ m one b there later low. fits.before m one b there (omega (arith, up, later)) low;
  rising = λ b there. ⊎_elim (λ pegged. inl pegged) (λ lower. inr (omega (arith, lower, up))) (fits.rising b there);
}

-- Those that are wholly written needn't be kept.
pub batches_left : (end last : ℕ) (noted : List Batch) (H : History) → FitsBatches end last noted H → FitsBatches end last (not_whole end noted) H
batches_left end last noted H fits = record {
  known = λ b there. fits.known b (whole_not end noted b there).0;
  all = λ b there later. not_whole_there end noted b (fits.all b there later) later;
  within = fits.within;
  apart = fits.apart;
  before = fits.before;
  rising = fits.rising;
}

-- A message is completed that has no place in common with a batch.
pub batches_completed : (end last : ℕ) (noted : List Batch) (H H' : History) (m : Message) → AddsMessage H m H' → ((b : Batch) → Contains H.batches b → (b.low ≤ m.place) ⊎ (m.place + m.size ≤ b.low)) → FitsBatches end last noted H → FitsBatches end last noted H'
batches_completed end last noted H H' m adds beside fits = record {
  known = λ b there. subst (λ (l : List Batch). Contains l b) (sym adds.batches) (fits.known b there);
  all = λ b there. fits.all b (was b there);
  within = subst (CloseBelow last) (sym adds.batches) fits.within;
  apart = subst (AreApart end) (sym adds.batches) fits.apart;
  before = λ x one b there later low. elim (was_or_added H H' m adds x one) [
    | inl old ↦ fits.before x old b (was b there) later low
    | inr same ↦ subst (λ (y : Message). y.place < b.low → y.place + y.size ≤ b.low) same (λ lower. own b (was b there) lower) low
  ];
  rising = λ b there. fits.rising b (was b there);
} where
  was : (b : Batch) → Contains H'.batches b → Contains H.batches b
  was b there = subst (λ (l : List Batch). Contains l b) adds.batches there

  own : (b : Batch) → Contains H.batches b → m.place < b.low → m.place + m.size ≤ b.low
  own b there lower = elim (beside b there) [ inl low ↦ absurd (omega (arith, low, lower)) | inr behind ↦ behind ]

-- A batch is noted that begins where nothing is written yet, has no place in common with the others that aren't wholly written, and no message in front of it that ends in it.
pub batches_noted : (end last : ℕ) (noted : List Batch) (H H' : History) (b : Batch) → AddsBatch H b H' → end ≤ b.low → b.peg < last → ((c : Batch) → Contains H.batches c → end ≤ c.peg → (c.peg < b.low) ⊎ (b.peg < c.low))
    → ((m : Message) → Contains H.messages m → m.place < b.low → m.place + m.size ≤ b.low) → FitsBatches end last noted H → FitsBatches end last (with_batch b noted) H'
batches_noted end last noted H H' b adds behind short others ends fits = record {
  known = λ c there. elim (with_cases b noted c there) [
    | inl own ↦ subst (Contains H'.batches) own (batch_there H H' b adds)
    | inr was ↦ batch_stays H H' b adds c (fits.known c was)
  ];
  all = λ c there later. elim (was_or_batch H H' b adds c there) [
    | inl was ↦ with_rest b noted c (fits.all c was later)
    | inr same ↦ subst (Contains (with_batch b noted)) same (with_own b noted)
  ];
  within = subst (CloseBelow last) (sym adds.batches) (All-append (λ (c : Batch). (c.low < last) × (c.peg < last)) H.batches (b ∷ []) fits.within (All-cons (λ (c : Batch). (c.low < last) × (c.peg < last)) b [] (its_end, short) (λ k d lt. absurd (omega (arith, lt)))));
  apart = apart_noted H H' b adds end behind others fits.apart;
  before = λ m one c there later low. elim (was_or_batch H H' b adds c there) [
    | inl was ↦ fits.before m (message_was H H' b adds m one) c was later low
    | inr same ↦ subst (λ (x : Batch). m.place < x.low → m.place + m.size ≤ x.low) same (λ lower. ends m (message_was H H' b adds m one) lower) low
  ];
  rising = λ c there. elim (was_or_batch H H' b adds c there) [
    | inl was ↦ fits.rising c was
    | inr same ↦ subst (λ (x : Batch). (x.low ≤ x.peg) ⊎ (x.low < end)) same (inl (let pegged = adds.pegged in omega (arith, pegged)))
  ];
} where
  its_end : b.low < last
  its_end = let pegged = adds.pegged in omega (arith, pegged, short)

-- A log begins where all batches end below what is written, and has noted none.
pub batches_begun : (end last : ℕ) (H : History) → end ≤ last → CloseBelow end H.batches → FitsBatches end last [] H
batches_begun end last H more closed =
    let ended = λ (b : Batch) (there : Contains H.batches b). (All-contains (λ (x : Batch). (x.low < end) × (x.peg < end)) H.batches b closed there).1 in
    record {
      known = λ b there. absurd (in_nothing b there);
      all = λ b there later. absurd (let low = ended b there in omega (arith, low, later));
      within = closed_up end last H.batches more closed;
      apart = ended_apart end H.batches ended;
      before = λ m one b there later low. absurd (let under = ended b there in omega (arith, under, later));
      rising = λ b there. inr (All-contains (λ (x : Batch). (x.low < end) × (x.peg < end)) H.batches b closed there).0;
    }
