-- A text that is neither empty nor a dash writes what its digits write.
use Rattle.std.proofs.Common.{rules, ◌≡◌, [], ◌∷◌}
use Rattle.slog_lines.proofs.HexLemmas.{no-dash}
use Rattle.slog_lines.proofs.text.bytes_of.Goals as goal

pub returns-clause-refused : goal.returns-clause-refused
returns-clause-refused c =
    let not_dash : c.args.text.now ≡ 45 ∷ [] → ⊥ = search rules in
    λ e b all is. c.pairs_of.ensures.refused e b all (no-dash b c.args.text.now is not_dash)
