-- What a slow test of files under names is made of, by which a test tells whether those that pass were written under their names.
use Rattle.std.specs.Prelude.{◌≡◌, ◌⊎◌, ◌↔◌, ℕ, ℤ, List, Some}
use Rattle.std.specs.List.{Contains}
use Rattle.sled_oracle.specs.declared.foreign.names.NamesPast.{NamesPast}
use Rattle.sled_store.specs.Device.{NamesState, settled_files, file_named}

-- what a test noted is the past of files under names: those that are settled, and what was asked for since, in any order
pub record AreNoted (noted : NamesPast) (past : NamesState) : Type 0 where
  pub settled : (n : ℤ) → settled_files past n ≡ file_named noted.settled.items n
  pub asked : (n : ℤ) (bytes : List ℕ) → Contains (past.asked n) bytes ↔ Contains noted.asked.items (n, bytes)

-- a file of those that were left was written under its name, where it stands there and passes
abbrev pub IsOwnFile : (List ℕ → Type 0) → NamesPast → List (ℤ × List ℕ) → ℤ × List ℕ → Type 0
IsOwnFile passes noted left file =
    file_named left file.0 ≡ Some file.1 → passes file.1
    → (file_named noted.settled.items file.0 ≡ Some file.1) ⊎ Contains noted.asked.items file
