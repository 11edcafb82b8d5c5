-- A call on the files of a folder.
use Rattle.std.specs.Prelude.{Bool}
use Rattle.sled_store.specs.Device.{Event}

-- a call on the files, by what it is to do, and whether it answered Ok
pub record Call : Type 0 where
  pub asked : Event
  pub succeeded : Bool
