use Rattle.std.proofs.Common.{◌≡◌, Err, subst, to_z, of_z}
use Rattle.std.specs.Int.{w64}
use Rattle.std.proofs.lemmas.Int.{to_z-of_z}
use Rattle.sled_store.specs.Blobs.{NamesBlobAt, OnDamage}
use Rattle.sled_store.specs.Device.{state_of}
use Rattle.sled_core.proofs.logger.read_message.with_item.Goals as goal

pub returns-in-Err-clause-named : goal.returns-in-Err-clause-named
returns-in-Err-clause-named g c =
    let same : to_z w64 (of_z w64 c.args.place) ≡ c.args.place = to_z-of_z w64 c.args.place c.ranges.place in
    subst (λ p. OnDamage {T = Unit {0}} (Err c.in-Err.e) (NamesBlobAt g.C.Checksum.sum_of (state_of (g.D.Device.trace c.args.config.now.device)).blobs.file p)) same c.in-Err.ensures.named
