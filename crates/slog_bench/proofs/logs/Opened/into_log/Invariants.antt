use Rattle.std.proofs.Common.{vec_len}
use Rattle.slog_bench.proofs.logs.Opened.into_log.Given as goal

abbrev pub decreases-loop-guard : goal.decreases-loop-guard
decreases-loop-guard l = vec_len l.guards

abbrev pub decreases-loop-ticket : goal.decreases-loop-ticket
decreases-loop-ticket l = vec_len l.tickets
