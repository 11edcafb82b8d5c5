-- What is settled is left by a crash.
use Rattle.std.proofs.Common.{[], refl}
use Rattle.sled_store.specs.Device.{Settled}
use Rattle.sled_store.proofs.device.memory.MemDevice.lose.Goals as goal

pub crash-requires : goal.crash-requires
crash-requires c = (Settled [], refl)
