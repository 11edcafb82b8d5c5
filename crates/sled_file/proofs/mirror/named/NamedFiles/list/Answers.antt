-- The keys are the names that have a file.
use Rattle.std.proofs.Common.{ℤ}
use Rattle.sled_file.proofs.FileLemmas.{each_ok, names-listed}
use Rattle.sled_file.proofs.mirror.named.NamedFiles.list.Goals as goal

pub returns-clause-names : goal.returns-clause-names
returns-clause-names c = each_ok c.keys.result (λ names is. λ (n : ℤ). names-listed c.args.self.now.files names.items is n) c.keys.ensures.keys
