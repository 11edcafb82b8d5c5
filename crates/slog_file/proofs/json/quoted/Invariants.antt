use Rattle.std.proofs.Common.{◌≡◌, ◌∷◌, ◌++◌, drop}
use Rattle.slog_file.specs.Quoted.{escaped}
use Rattle.slog_file.proofs.json.quoted.Given as goal

abbrev pub invariant-loop-byte : goal.invariant-loop-byte
invariant-loop-byte l = 34 ∷ escaped l.byte-items ≡ l.line.items ++ escaped (drop l.byte-index l.byte-items)
