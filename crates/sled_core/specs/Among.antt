-- Lists whose members another one has.
use Rattle.std.specs.Prelude.{List, Contains}

-- each of the first ones is one of the others
abbrev pub AreAmong : {X : Type 0} → List X → List X → Type 0
AreAmong {X} these those = (x : X) → Contains these x → Contains those x
