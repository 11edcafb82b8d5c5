-- Which marks of a log's segments count: up to which place segments were left behind, and up to which one they will be.
use Rattle.std.specs.Prelude.{nat_lt, if◌then◌else◌, ℤ, Bool, List, [], ◌∷◌, Option}
use Rattle.sled_core.specs.declared.logger.Log.{Log}
use Rattle.sled_core.specs.HeaderMark.{greater_mark}
use Rattle.sled_core.specs.Waiting.{BufferAt}

-- The mark that joined: all before the segment that holds it was left behind. The greatest mark of a header that is on the device, and whether a pin is out:
-- where none is, that one joins.
pub record Account : Type 0 where
  pub mark : ℤ
  pub durable : ℤ
  pub pinned : Bool

abbrev pub account_of : {D C : Type 0} → Log D C → Account
account_of log = record { mark = log.marks.joined; durable = log.marks.durable; pinned = nat_lt 0 log.pins }

-- What the write of a buffer makes of it that begins with a header of this mark, or with none.
abbrev pub written_account : Option ℤ → Account → Account
written_account mark a = record {
  mark = if a.pinned then a.mark else greater_mark mark a.durable;
  durable = greater_mark mark a.durable;
  pinned = a.pinned;
}

-- so do the writes of these, one behind another
abbrev pub account_behind : List BufferAt → Account → Account
account_behind [] a = a
account_behind (b ∷ bs) a = account_behind bs (written_account b.mark a)
