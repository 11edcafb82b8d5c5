-- The stable end of a log is that of the interval that is on its device without a gap and of the batches that it noted.
use Rattle.std.proofs.Common.{◌≡◌, ◌⊎◌, ◌≤ℤ◌, ◌<ℤ◌, ◌+ℤ◌, ◌-ℤ◌, ℕ, ℤ, pos, List, [], ◌∷◌, map, ap, inl, inr, arith}
use Rattle.std.specs.List.{All}
use Rattle.std.proofs.lemmas.Int.{ints}
use Rattle.std.proofs.lemmas.List.Elements.{All-cons, All-map, All-nil}
use Rattle.sled_codec.specs.History.{Batch}
use Rattle.sled_store.proofs.Segments.Elements.{all_from_in, in_first, in_map}
use Rattle.sled_core.specs.declared.logger.Log.{Log}
use Rattle.sled_core.specs.Fits.{noted_in, stable_end, synced_end}
use Rattle.sled_core.specs.inside.OpenBatches.{IsOpenBatch}
use Rattle.sled_core.specs.OpenBatches.{stable_below}
use Rattle.sled_core.specs.StableEnds.{IsBeforeHalfSynced, IsContiguousEnd, IsHalfSynced, IsStableEnd, LiesIn, places_of}
use Rattle.sled_core.proofs.Reached.StableBelow.{stable_is, stable_open}
use Rattle.sled_core.proofs.Stable.EndLemmas.{greatest_at, some_in}

-- Of one interval behind a place the contiguous end is its own end.
one_interval : (s e : ℤ) → s ≤ℤ e → IsContiguousEnd s ((s +ℤ pos 1, e) ∷ []) e
one_interval s e low = record {
  not_below = low;
  covered = λ p above within. some_in (LiesIn p) ((s +ℤ pos 1, e) ∷ []) (s +ℤ pos 1, e) (in_first (s +ℤ pos 1, e) []) (omega (arith, ints), within);
  greatest = greatest_at s ((s +ℤ pos 1, e) ∷ []) e low (All-cons (λ (i : ℤ × ℤ). LiesIn (e +ℤ pos 1) i → ⊥) (s +ℤ pos 1, e) [] (λ lies. let up = lies.1 in omega (arith, ints, up)) (All-nil (λ (i : ℤ × ℤ). LiesIn (e +ℤ pos 1) i → ⊥)));
}

-- A batch of a log that is half synced where what is read ends is open there.
half_open : (reach : ℕ) (b : Batch) → IsHalfSynced (pos reach -ℤ pos 1) (places_of b) → IsOpenBatch reach b
half_open reach b half = let low = half.0 in let peg = half.1 in (omega (arith, ints, low), omega (arith, ints, peg))

open_half : (reach : ℕ) (b : Batch) → IsOpenBatch reach b → IsHalfSynced (pos reach -ℤ pos 1) (places_of b)
open_half reach b is_open = let low = is_open.0 in let peg = is_open.1 in (omega (arith, ints, low), omega (arith, ints, peg))

stable_by : (reach : ℕ) (bs : List Batch) → (All (λ i. IsHalfSynced (pos reach -ℤ pos 1) i → ⊥) (map places_of bs) × (pos (stable_below reach bs) -ℤ pos 1 ≡ pos reach -ℤ pos 1)) ⊎ IsBeforeHalfSynced (pos reach -ℤ pos 1) (map places_of bs) (pos (stable_below reach bs) -ℤ pos 1)
stable_by reach bs = elim (stable_is reach bs) [
  | inl all ↦ inl (
    All-map (λ (i : ℤ × ℤ). IsHalfSynced (pos reach -ℤ pos 1) i → ⊥) places_of bs (all_from_in (λ (b : Batch). IsHalfSynced (pos reach -ℤ pos 1) (places_of b) → ⊥) bs (λ b there half.
        let is_open = half_open reach b half in
        let low = stable_open reach bs b there is_open in
        let under = is_open.0 in
        omega (arith, low, under, all))),
    ap (λ n. pos n -ℤ pos 1) all,
  )
  | inr (b, there, at, is_open) ↦ inr (record {
    batch = places_of b;
    among = in_map places_of bs b there;
    half = open_half reach b is_open;
    lowest = All-map (λ (i : ℤ × ℤ). IsHalfSynced (pos reach -ℤ pos 1) i → pos b.low ≤ℤ i.0) places_of bs (all_from_in (λ (c : Batch). IsHalfSynced (pos reach -ℤ pos 1) (places_of c) → pos b.low ≤ℤ pos c.low) bs (λ c known half.
        let low = stable_open reach bs c known (half_open reach c half) in omega (arith, ints, low, at)));
    before = ap (λ n. pos n -ℤ pos 1) at;
  })
]

pub stable_of_log : {D C : Type 0} (log : Log D C) (s : ℤ) → s <ℤ pos (synced_end log) → IsStableEnd s ((s +ℤ pos 1, pos (synced_end log) -ℤ pos 1) ∷ []) (map places_of (noted_in log)) (pos (stable_end log) -ℤ pos 1)
stable_of_log log s low = record {
  end = pos (synced_end log) -ℤ pos 1;
  contiguous = one_interval s (pos (synced_end log) -ℤ pos 1) (omega (arith, ints, low));
  stable = stable_by (synced_end log) (noted_in log);
}
