-- The last beginning among the messages so far.
use Rattle.std.proofs.Common.{◌≡◌, map, option_map, take}
use Rattle.sled_codec.specs.History.{last_beginning}
use Rattle.sled_oracle.specs.Seen.{seen}
use Rattle.sled_oracle.proofs.history.last_beginning.Given as goal

abbrev pub invariant-loop-m : goal.invariant-loop-m
invariant-loop-m l = option_map seen l.last ≡ last_beginning (map seen (take l.m-index l.of_page))
