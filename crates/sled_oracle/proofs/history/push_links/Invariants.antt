-- The Links among the messages so far stand behind the entries.
use Rattle.std.proofs.Common.{◌≡◌, ◌++◌, ◌&&◌, nat_lt, map, take}
use Rattle.std.specs.List.{filter}
use Rattle.sled_codec.specs.History.{is_link}
use Rattle.sled_oracle.specs.Seen.{seen}
use Rattle.sled_oracle.proofs.history.push_links.Given as goal

abbrev pub invariant-loop-m : goal.invariant-loop-m
invariant-loop-m l = map seen l.entries.items ≡ map seen l.initial.entries.items ++ filter (λ m. is_link m.kind && nat_lt l.place m.place) (map seen (take l.m-index l.of_page))
