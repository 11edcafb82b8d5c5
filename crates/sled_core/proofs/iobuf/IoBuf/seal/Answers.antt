-- The buffer is sealed once there is room for it.
use Rattle.std.proofs.Common.{◌∙◌}
use Rattle.sled_core.specs.Waiting.{sealed_now}
use Rattle.sled_core.proofs.iobuf.IoBuf.seal.Goals as goal

pub returns-clause-sealed : goal.returns-clause-sealed
returns-clause-sealed c = λ site.
    let old = c.args.self.now in
    c.push_sealed.ensures.sealed site
    ∙ (λ i. sealed_now (record { parts = record { site = site; bytes = old.bytes.items; written_len = old.written_len; filled = old.filled; sealed = c.in_ok-reserve.ensures.items i; reserved = old.reserved.items }; gone = old.gone }))
