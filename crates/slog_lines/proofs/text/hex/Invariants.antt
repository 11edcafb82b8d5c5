use Rattle.std.proofs.Common.{◌≡◌, ◌++◌, drop, string_bytes}
use Rattle.slog_lines.specs.Hex.{digits_of}
use Rattle.slog_lines.proofs.text.hex.Given as goal

abbrev pub invariant-loop-byte : goal.invariant-loop-byte
invariant-loop-byte l = digits_of l.bytes ≡ string_bytes l.text ++ digits_of (drop l.byte-index l.bytes)
