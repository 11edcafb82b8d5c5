-- A slot has what a table needs.
use Rattle.sled_store.proofs.Marks.AccountSteps.{entry_in_slot, needed_in_slot}
use Rattle.sled_store.proofs.Marks.FreedSteps.{free_unneeded}
use Rattle.sled_store.proofs.segment.laws.accounts_have_what_tables_need.Goals as goal

pub returns : goal.returns
returns c = record {
  entries = λ size base H m cut page e account le entry. entry_in_slot size base H m account cut page e le entry;
  free = λ size base H m cut page k e account le entry free. free_unneeded size base H m account cut page k e le entry free;
  needed = λ size base H m cut place account le needed. needed_in_slot size base H m account cut place le needed;
}
