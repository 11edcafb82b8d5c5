-- A slot holds at least what stands in it, and so each entry's size.
use Rattle.sled_store.proofs.Marks.HeldLemmas.{holds_standing, entry_counted}
use Rattle.sled_store.proofs.segment.laws.slots_hold_their_entries.Goals as goal

pub returns : goal.returns
returns c = record {
  standing = λ size mark H m k marked small. holds_standing size mark H m marked small k;
  entries = entry_counted;
}
