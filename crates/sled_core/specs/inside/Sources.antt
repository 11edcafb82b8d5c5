-- What proofs, and functions that no user calls, need beside `specs/Sources.antt`. No public contract names it.
use Rattle.std.specs.Prelude.{ℕ}
use Rattle.sled_core.specs.declared.iterator.log_iter.Source.{Source}
use Rattle.sled_core.specs.Sources.{config_in}

abbrev pub size_in : {D C : Type 0} → Source D C → ℕ
size_in s = (config_in s).config.segment_size
