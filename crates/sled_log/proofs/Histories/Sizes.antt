-- Each of messages that lie one behind another has a size.
use Rattle.std.proofs.Common.{◌<◌, List, [], ◌∷◌}
use Rattle.std.specs.List.{All, Contains}
use Rattle.std.proofs.lemmas.List.Elements.{All-cons, All-contains, All-nil}
use Rattle.sled_codec.specs.History.{Message}
use Rattle.sled_codec.specs.WellFormed.{LieApart}

all_sized : (ms : List Message) → LieApart ms → All (λ x. 0 < x.size) ms
all_sized [] apart = All-nil (λ x. 0 < x.size)
all_sized (x ∷ xs) apart = All-cons (λ x. 0 < x.size) x xs apart.0 (all_sized xs apart.2)

pub has_size : (ms : List Message) (m : Message) → LieApart ms → Contains ms m → 0 < m.size
has_size ms m apart there = All-contains (λ x. 0 < x.size) ms m (all_sized ms apart) there
