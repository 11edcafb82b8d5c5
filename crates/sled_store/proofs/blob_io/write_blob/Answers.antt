use Rattle.std.proofs.Common.{refl}
use Rattle.sled_store.proofs.Traces.ScriptLemmas.{performs_nothing}
use Rattle.sled_store.proofs.blob_io.write_blob.Goals as goal

pub returns-in_err-bytes-clause-calls : goal.returns-in_err-bytes-clause-calls
returns-in_err-bytes-clause-calls g c = performs_nothing _ _ _ refl
