use Rattle.std.proofs.Common.{◌≡◌, ◌≢◌, Result, Ok, Err}
use Rattle.std.specs.Prelude.{IfErr}
use Rattle.std.proofs.lemmas.Result.{err_from_is_err_and}
use Rattle.sled_codec.specs.declared.result.Error.{Error}
use Rattle.sled_codec.specs.declared.result.Error.TheVariants.{OutOfMemory}
use Rattle.sled_store.specs.Device.{state_of}
use Rattle.sled_core.specs.declared.logger.read_message.LogRead.{LogRead}
use Rattle.sled_core.specs.Reading.{file_read}
use Rattle.sled_core.proofs.logger.read_message.read_record.Goals as goal

pub returns-in-Some-clause-reading : goal.returns-in-Some-clause-reading
returns-in-Some-clause-reading g c =
    c.read_found.ensures.reading c.args.config.now.config.segment_size (file_read c.args.buf (state_of (g.D.Device.trace c.args.config.now.device)).log.bytes) c.args.lid c.args.number.0 (rw c.in-Some.is at c.in_ok-found.ensures.found)

-- It takes memory for what is announced alone.

taken : (T : Type 0) (r : Result T Error) (P : Type 0) → IfErr r (λ e. e ≢ OutOfMemory) → IfErr r (λ e. e ≡ OutOfMemory → P)
taken T (Ok x) P none = tt
taken T (Err e) P none = λ is. absurd (none is)

pub returns-in-Some-clause-memory : goal.returns-in-Some-clause-memory
returns-in-Some-clause-memory g c = taken LogRead c.read_found.result _ c.read_found.ensures.memory

pub returns-in_err-found-clause-memory : goal.returns-in_err-found-clause-memory
returns-in_err-found-clause-memory g c =
    let e = err_from_is_err_and c.from_residual.result c.from_residual.ensures.1 in
    rw (e.1, e.2) c.in_err-found.ensures.memory

pub returns-in-None-clause-reading : goal.returns-in-None-clause-reading
returns-in-None-clause-reading g c = (rw c.in-None.is at c.in_ok-found.ensures.none) g.C.Checksum.sum_of
