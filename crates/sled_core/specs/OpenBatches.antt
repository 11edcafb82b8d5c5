-- Up to which place a reader doesn't stop at a batch that isn't whole, of what is read without a gap, and which batches a log has to keep for that.
use Rattle.std.specs.Prelude.{◌+◌, nat_lt, min, max, if◌then◌else◌, ℕ, List, [], ◌∷◌}
use Rattle.sled_codec.specs.History.{Batch}
use Rattle.sled_core.specs.declared.logger.batches.NotedBatch.{NotedBatch}

-- The stable place, where what is read ends at this one: the lowest place of the batches that are open there; where none is, that one itself.
abbrev pub stable_below : ℕ → List Batch → ℕ
stable_below reach [] = reach
stable_below reach (b ∷ bs) =
    if nat_lt b.low reach then (if nat_lt b.peg reach then stable_below reach bs else min b.low (stable_below reach bs)) else stable_below reach bs

-- those of these batches that aren't wholly read where what is read ends at a place
abbrev pub not_whole : ℕ → List Batch → List Batch
not_whole reach [] = []
not_whole reach (b ∷ bs) = if nat_lt b.peg reach then not_whole reach bs else b ∷ not_whole reach bs

-- the batch that is noted
abbrev pub batch_of : NotedBatch → Batch
batch_of b = record { low = b.low; peg = b.peg }

-- Up to where has to be read for a place to be stable: behind the last of these batches that has the place, below its peg; behind the place itself where
-- none has.
abbrev pub behind_batch : ℕ → List Batch → ℕ
behind_batch behind [] = behind
behind_batch behind (b ∷ bs) = if nat_lt b.low behind then max (b.peg + 1) (behind_batch behind bs) else behind_batch behind bs

-- a batch more among these, by place
abbrev pub with_batch : Batch → List Batch → List Batch
with_batch b [] = b ∷ []
with_batch b (c ∷ cs) = if nat_lt b.low c.low then b ∷ c ∷ cs else c ∷ with_batch b cs
