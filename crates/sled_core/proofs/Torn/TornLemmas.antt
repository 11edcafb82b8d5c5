-- What a crash leaves of a settled log file and one write to it that was not synced: outside the write all is as it was.
use Rattle.std.proofs.Common.{◌≡◌, ◌⊎◌, ◌≤◌, ◌+◌, ◌-◌, ℕ, max, List, length, take, drop, sym, ◌∙◌, ap, arith, inl, inr}
use Rattle.sled_codec.specs.Places.{part}
use Rattle.sled_store.specs.Device.{LogState, log_step, at_rest, LeavesLog, Wrote}
use Rattle.sled_store.proofs.LogFile.LogLemmas.{durable_left, durable_written, durable_at_rest, part_written}

-- the state of a settled log file behind a write, of which this much may have been done
abbrev pub after_write : List ℕ → ℕ → List ℕ → List ℕ → LogState
after_write old at asked now = log_step (Wrote at asked now) (at_rest old)

module _ (old : List ℕ) (at : ℕ) (asked now left : List ℕ) (no_more : length now ≤ length asked) (leaves : LeavesLog (after_write old at asked now) left) where
  pub left_grows : length old ≤ length left
  left_grows = leaves.no_shorter

  -- a part that wasn't written to
  pub part_left : (lid len : ℕ) → lid + len ≤ length old → (lid + len ≤ at) ⊎ (at + length asked ≤ lid) → part left lid len ≡ part old lid len
  part_left lid len there apart =
      let count : lid + len - lid ≡ len = omega arith in
      let firm : (lid + len ≤ at) ⊎ (at + max (length asked) (length now) ≤ lid) = elim apart [ inl before ↦ inl before | inr past ↦ inr (omega (arith, past, no_more)) ] in
      let unread : (lid + len ≤ at) ⊎ (at + length now ≤ lid) = elim apart [ inl before ↦ inl before | inr past ↦ inr (omega (arith, past, no_more)) ] in
      ap (λ k. take k (drop lid left)) (sym count)
      ∙ durable_left (after_write old at asked now) lid (lid + len) left (durable_written (at_rest old) at asked now lid (lid + len) firm (durable_at_rest old lid (lid + len) there)) leaves
      ∙ part_written old at now lid (lid + len) there unread
      ∙ ap (λ k. take k (drop lid old)) count
