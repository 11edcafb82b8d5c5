-- The messages of the page below the cut, so far.
use Rattle.std.proofs.Common.{◌≡◌, map, take}
use Rattle.sled_codec.specs.History.{of_page}
use Rattle.sled_oracle.specs.Seen.{seen}
use Rattle.sled_oracle.proofs.history.entries_of_page.Given as goal

abbrev pub invariant-loop-m : goal.invariant-loop-m
invariant-loop-m l = map seen l.of_page.items ≡ of_page (map seen (take l.m-index l.messages)) l.cut l.page
