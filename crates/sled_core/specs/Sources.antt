-- What an iterator borrows, and what that keeps.
use Rattle.std.specs.Prelude.{◌≡◌, Option, None, Some}
use Rattle.std.specs.Borrow.{MutBor}
use Rattle.sled_store.specs.declared.config.RunningConfig.{RunningConfig}
use Rattle.sled_core.specs.declared.iterator.log_iter.Source.{Source}
use Rattle.sled_core.specs.declared.iterator.log_iter.Source.TheVariants as source
use Rattle.sled_core.specs.declared.logger.Log.{Log}

-- what it runs on
abbrev pub config_in : {D C : Type 0} → Source D C → RunningConfig D C
config_in (source.File r) = r.now
config_in (source.Log r) = r.now.config

-- the same is borrowed: a borrow is known by its name
abbrev pub BorrowSame : {D C : Type 0} → Source D C → Source D C → Type 0
BorrowSame (source.File r) (source.File s) = s.ghost_name ≡ r.ghost_name
BorrowSame (source.File r) (source.Log s) = ⊥
BorrowSame (source.Log r) (source.File s) = ⊥
BorrowSame (source.Log r) (source.Log s) = s.ghost_name ≡ r.ghost_name

-- the configuration, or the log, where it is one
abbrev pub file_in : {D C : Type 0} → Source D C → Option (MutBor (RunningConfig D C))
file_in (source.File r) = Some r
file_in (source.Log r) = None

abbrev pub log_in : {D C : Type 0} → Source D C → Option (MutBor (Log D C))
log_in (source.File r) = None
log_in (source.Log r) = Some r
