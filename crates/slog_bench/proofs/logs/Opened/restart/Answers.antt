use Rattle.std.proofs.Common.{rules, IsTrue}
use Rattle.slog_bench.proofs.logs.Opened.restart.Goals as goal

pub restart-config-requires : goal.restart-config-requires
restart-config-requires c = let yes : IsTrue c.none_open.result = search rules in record { ended = c.none_open.ensures.0 yes }
