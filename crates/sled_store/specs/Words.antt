-- The word that a buffer keeps of its state, by its fields: where its bytes end, how many writers it has, whether it is sealed and whether it is the last
-- of its segment, and a salt that no two of its uses share.
use Rattle.std.specs.Prelude.{◌*◌, ◌/◌, ◌%◌, ◌^◌, ◌==◌, ℕ, Bool}

-- The fields of a word, from its lowest bits up: 24 bits, 7, 1, 1 and 31. The salt keeps its place in the word.
pub record Fields : Type 0 where
  pub offset : ℕ
  pub writers : ℕ
  pub is_sealed : Bool
  pub is_maxed : Bool
  pub salt : ℕ

abbrev pub offset_of : ℕ → ℕ
offset_of word = word % 2 ^ 24

abbrev pub writers_of : ℕ → ℕ
writers_of word = word / 2 ^ 24 % 2 ^ 7

abbrev pub is_sealed_in : ℕ → Bool
is_sealed_in word = word / 2 ^ 31 % 2 == 1

abbrev pub is_maxed_in : ℕ → Bool
is_maxed_in word = word / 2 ^ 32 % 2 == 1

abbrev pub salt_of : ℕ → ℕ
salt_of word = word / 2 ^ 33 * 2 ^ 33

abbrev pub fields_of : ℕ → Fields
fields_of word = record { offset = offset_of word; writers = writers_of word; is_sealed = is_sealed_in word; is_maxed = is_maxed_in word; salt = salt_of word }
