-- What a caller carries from call to call, and needn't read: see `specs/Caps.antt`.
use Rattle.std.specs.Prelude.{◌+◌, ◌-◌, nat_lt, ℕ, if◌then◌else◌, List, replicate}
use Rattle.sled_core.specs.inside.Caps.{capped_rest}

-- What fills a segment of this number from an offset to its end: a Cap with zeros behind it, or zeros alone where a header has no room.
unfoldable pub segment_rest : (List ℕ → ℕ) → ℕ → ℕ → ℕ → List ℕ
segment_rest sum size number from = if nat_lt size (from + 32) then replicate (size - from) 0 else capped_rest sum size number from
