-- What is acknowledged by the stable place of what is written is read, though reading ends short of that.
use Rattle.std.proofs.Common.{◌<◌, ◌≤◌, ◌+◌, ℕ, arith, inl, inr}
use Rattle.std.specs.List.{Contains}
use Rattle.sled_codec.specs.History.{Batch, History, Message}
use Rattle.sled_core.specs.inside.OpenBatches.{AreApart, IsOpenBatch}
use Rattle.sled_core.specs.OpenBatches.{stable_below}
use Rattle.sled_core.specs.inside.Recoverable.{NoBatchBegins, NoBatchEnds}
use Rattle.sled_core.specs.Running.{end_below}
use Rattle.sled_core.proofs.Holds.LastEnds.{acknowledged_least}
use Rattle.sled_core.proofs.Reached.OpenBatch.{stable_ends}
use Rattle.sled_core.proofs.Reached.StableBelow.{stable_is, stable_low, stable_open}

-- Nothing lies between the two, and no message that begins before a batch ends in it.
module _ (H : History) (reach end : ℕ) (up : reach ≤ end) (ends : (m : Message) → Contains H.messages m → m.place < end → m.place + m.size ≤ reach) (no_batch : NoBatchBegins H reach end) (no_end : NoBatchEnds H reach end) (parts : AreApart end H.batches)
    (before : (m : Message) → Contains H.messages m → (b : Batch) → Contains H.batches b → end ≤ b.peg → m.place < b.low → m.place + m.size ≤ b.low) where
  -- the same batches are open at both
  open_there : (b : Batch) → Contains H.batches b → IsOpenBatch reach b → IsOpenBatch end b
  open_there b there (low, peg) = (omega (arith, low, up), elim (no_end b there) [ inl ended ↦ absurd (omega (arith, ended, peg)) | inr later ↦ later ])

  -- so a batch that begins below the one stable place begins below the other, and ends there,
  batch_below : (b : Batch) → Contains H.batches b → b.low < stable_below end H.batches → (b.low < stable_below reach H.batches) × (b.peg < stable_below reach H.batches)
  batch_below b there low =
      let ended = stable_ends end H.batches parts b there low in
      let under = stable_low end H.batches in
      elim (stable_is reach H.batches) [
        | inl all ↦ (
          elim (no_batch b there) [ inl lower ↦ omega (arith, lower, all) | inr behind ↦ absurd (omega (arith, behind, low, under)) ],
          elim (no_end b there) [ inl lower ↦ omega (arith, lower, all) | inr behind ↦ absurd (omega (arith, behind, ended, under)) ],
        )
        | inr (c, known, at, is_open) ↦ (let lowest = stable_open end H.batches c known (open_there c known is_open) in (omega (arith, low, lowest, at), omega (arith, ended, lowest, at)))
      ]

  -- and a message that begins below it ends there.
  message_below : (m : Message) → Contains H.messages m → m.place < stable_below end H.batches → m.place + m.size ≤ stable_below reach H.batches
  message_below m there low =
      let under = stable_low end H.batches in
      elim (stable_is reach H.batches) [
        | inl all ↦ (let short = ends m there (omega (arith, low, under)) in omega (arith, short, all))
        | inr (c, known, at, is_open) ↦ (
            let still = open_there c known is_open in
            let lowest = stable_open end H.batches c known still in
            let short = before m there c known still.1 (omega (arith, low, lowest)) in
            omega (arith, short, at))
      ]

  pub acknowledged_stable : end_below (stable_below end H.batches) H ≤ stable_below reach H.batches
  acknowledged_stable = acknowledged_least (stable_below end H.batches) (stable_below reach H.batches) H message_below batch_below
