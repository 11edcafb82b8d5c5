-- The buffer that a log begins with.
use Rattle.std.specs.Prelude.{◌≡◌, ◌≤◌, ◌<◌, ◌%◌, ◌-ℤ◌, ℕ, pos, List, [], length, Option, None, IfSome}
use Rattle.sled_codec.specs.declared.result.Error.{Error}
use Rattle.sled_codec.specs.declared.result.Error.TheVariants.{OutOfMemory, Corruption}
use Rattle.sled_codec.specs.Record.{short_header}
use Rattle.sled_core.specs.declared.iobuf.IoBuf.{IoBuf}

-- The buffer of a segment of which so much is there: the header where nothing is there, whose mark is the place before it; else as many bytes as are there,
-- which are written already.
pub record IsFirstBuffer (sum : List ℕ → ℕ) (place offset : ℕ) (b : IoBuf) : Type 0 where
  pub header : offset ≡ 0 → b.bytes.items ≡ short_header sum (pos place) (pos place -ℤ pos 1)
  pub resumed : 0 < offset → length b.bytes.items ≡ offset
  pub from : b.written_len ≡ offset
  pub reserved : b.reserved.items ≡ []
  pub filled : b.filled ≡ None
  pub sealed : b.sealed.items ≡ []
  pub there : 0 < b.bytes.room

-- Why there is none: the stable place lies in the header of the active segment, or memory was refused.
abbrev pub RefusesBuffer : ℕ → ℕ → Option ℕ → Error → Type 0
RefusesBuffer size stable active OutOfMemory = Unit {0}
RefusesBuffer size stable active (Corruption at) = (at ≡ None) × (IfSome active (λ a. 20 ≤ stable % size) → ⊥)
RefusesBuffer size stable active _ = ⊥
