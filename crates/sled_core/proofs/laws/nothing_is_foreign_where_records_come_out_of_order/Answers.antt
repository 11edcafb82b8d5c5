-- Nothing is foreign where a record was written before the one in front of it.
use Rattle.sled_core.proofs.Crash.OwnRecords.{out_of_order_own}
use Rattle.sled_core.proofs.laws.nothing_is_foreign_where_records_come_out_of_order.Goals as goal

pub returns : goal.returns
returns c = λ sum size header first second third zeros twenty a b d short. out_of_order_own sum size first second third a b d zeros header twenty short
