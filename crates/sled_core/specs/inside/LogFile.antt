-- What proofs, and functions that no user calls, need beside `specs/LogFile.antt`. No public contract names it.
use Rattle.std.specs.Prelude.{◌-◌, ◌<◌, ℕ, replicate, length, List, ◌++◌}
use Rattle.sled_codec.specs.History.{Message, History}
use Rattle.sled_core.specs.LogFile.{StaysFrom}

-- those of them that lie below another place
abbrev pub StaysBelow : History → ℕ → ℕ → Message → Type 0
StaysBelow H from place m = StaysFrom H from m × (m.place < place)

-- a log file with zeros behind its end, up to an offset
abbrev pub padded : ℕ → List ℕ → List ℕ
padded to log = log ++ replicate (to - length log) 0
