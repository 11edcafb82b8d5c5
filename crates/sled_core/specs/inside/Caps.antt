-- What proofs, and functions that no user calls, need beside `specs/Caps.antt`. No public contract names it.
use Rattle.std.specs.Prelude.{◌+◌, ◌-◌, ◌^◌, nat_lt, ℕ, if◌then◌else◌, List, ◌++◌, length, replicate}
use Rattle.sled_codec.specs.declared.serialization.message.MessageKind.TheVariants.{Cap}
use Rattle.sled_codec.specs.Record.{short_record}
use Rattle.sled_core.specs.declared.iterator.scan.ScanEnd.{ScanEnd}
use Rattle.sled_core.specs.declared.iterator.scan.ScanEnd.TheVariants.{Full, Capped}

-- the page of a Cap
abbrev pub cap_page : ℕ
cap_page = 2 ^ 64 - 1

-- a Cap of a segment of this number, with a body of so many zeros
abbrev pub cap_record : (List ℕ → ℕ) → ℕ → ℕ → List ℕ
cap_record sum number len = short_record sum Cap cap_page number (replicate len 0)

-- a text, with zeros behind it up to a length
abbrev pub filled_up : List ℕ → ℕ → List ℕ
filled_up text len = text ++ replicate (len - length text) 0

-- a Cap with zeros behind it, from an offset of a segment of this number to its end; the Cap's body is as long as if its header had 32 bytes
abbrev pub capped_rest : (List ℕ → ℕ) → ℕ → ℕ → ℕ → List ℕ
capped_rest sum size number from = filled_up (cap_record sum number (size - from - 32)) (size - from)

-- why the reading of a segment that was filled so ends there
abbrev pub rest_why : ℕ → ℕ → ScanEnd
rest_why size from = if nat_lt size (from + 32) then Full else Capped
