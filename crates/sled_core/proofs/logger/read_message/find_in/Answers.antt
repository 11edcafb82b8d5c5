use Rattle.std.proofs.Common.{◌≡◌, Option, subst, sym}
use Rattle.std.specs.Borrow.{Bor}
use Rattle.std.specs.Prelude.{IfErr, IfOk, IfNone}
use Rattle.sled_codec.specs.declared.result.Error.TheVariants.{OutOfMemory}
use Rattle.sled_store.specs.Device.{state_of}
use Rattle.sled_core.specs.declared.logger.read_at.BasedBuf.{BasedBuf}
use Rattle.sled_core.specs.Reading.{IsAnnounced, file_read}
use Rattle.sled_core.specs.inside.Reading.{IsBare}
use Rattle.sled_core.proofs.logger.read_message.find_in.Goals as goal

pub returns-in-Some-clause-none : goal.returns-in-Some-clause-none
returns-in-Some-clause-none g c =
    subst (λ (b : Option (Bor BasedBuf)). IfOk c.find_record.result (λ o. IfNone o (IsBare c.args.config.now.config.segment_size (file_read b (state_of (g.D.Device.trace c.args.config.now.device)).log.bytes) c.args.lid c.args.number.0))) (sym c.in-Some.is) c.find_record.ensures.none

pub returns-in-Some-clause-memory : goal.returns-in-Some-clause-memory
returns-in-Some-clause-memory g c =
    subst (λ (b : Option (Bor BasedBuf)). IfErr c.find_record.result (λ e. e ≡ OutOfMemory → IsAnnounced c.args.config.now.config.segment_size (file_read b (state_of (g.D.Device.trace c.args.config.now.device)).log.bytes) c.args.lid c.args.number.0)) (sym c.in-Some.is) c.find_record.ensures.memory

pub returns-in-None-clause-memory : goal.returns-in-None-clause-memory
returns-in-None-clause-memory g c =
    subst (λ (b : Option (Bor BasedBuf)). IfErr c.find_record-in-None.result (λ e. e ≡ OutOfMemory → IsAnnounced c.args.config.now.config.segment_size (file_read b (state_of (g.D.Device.trace c.args.config.now.device)).log.bytes) c.args.lid c.args.number.0)) (sym c.in-None.is) c.find_record-in-None.ensures.memory

pub returns-in-None-clause-none : goal.returns-in-None-clause-none
returns-in-None-clause-none g c =
    subst (λ (b : Option (Bor BasedBuf)). IfOk c.find_record-in-None.result (λ o. IfNone o (IsBare c.args.config.now.config.segment_size (file_read b (state_of (g.D.Device.trace c.args.config.now.device)).log.bytes) c.args.lid c.args.number.0))) (sym c.in-None.is) c.find_record-in-None.ensures.none
