-- What a text begins with.
use Rattle.std.specs.Prelude.{◌≡◌, ℕ, List, ◌++◌}
use Rattle.sled_codec.specs.Spelling.{SpellsBytes}

-- a text begins with the spelling of a byte string: it has as many bytes behind their count as that says
pub record BeginsWithBytes (text : List ℕ) : Type 0 where
  pub front : List ℕ
  pub rest : List ℕ
  pub bytes : List ℕ
  pub spelled : SpellsBytes front bytes
  pub is : text ≡ front ++ rest
