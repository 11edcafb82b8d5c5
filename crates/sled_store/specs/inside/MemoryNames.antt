-- What files under names in memory stand for.
use Rattle.std.specs.Prelude.{◌≡◌, ◌||◌, ◌⊎◌, Contains, ℕ, ℤ, Bool, false, true, if◌then◌else◌, List, [], ◌∷◌, None, Some, Option, is_some, Vec}
use Rattle.std.specs.Ordering.{int_cmp}
use Rattle.std.specs.BTreeMap.{BTreeMap, get}
use Rattle.std.specs.Str.{bytes_eq}
use Rattle.std.specs.declared.alloc.Global.{Global}
use Rattle.sled_store.specs.declared.device.memory.named_files.version.FileVersion.{FileVersion}
use Rattle.sled_store.specs.declared.device.memory.named_files.MemNames.{MemNames}
use Rattle.sled_store.specs.Device.{NameState, NamesState, settled_file}

-- no file under the name
abbrev pub absent : NameState
absent = record { file = None; is_unsynced = false }

abbrev pub state_kept : FileVersion → NameState
state_kept kept = record { file = Some kept.bytes.items; is_unsynced = kept.is_unsynced }

-- The states of a name with a file made on top, and removed where it is gone. One that was settled has none below.
abbrev pub upon : List NameState → FileVersion → List NameState
upon was kept =
    if kept.is_gone then absent ∷ state_kept kept ∷ (if kept.is_settled then [] else was) else state_kept kept ∷ (if kept.is_settled then [] else was)

-- the states of a name, the latest first, where these came before its files
abbrev pub history : List NameState → List FileVersion → List NameState
history was [] = was
history was (k ∷ kept) = history (upon was k) kept

-- all states of a name, by the files that were made under it
abbrev pub states_of : List FileVersion → List NameState
states_of kept = history (absent ∷ []) kept

abbrev pub latest : List NameState → NameState
latest [] = absent
latest (s ∷ earlier) = s

-- its file is removed, where there is one
abbrev pub without_file : List NameState → List NameState
without_file [] = []
without_file (s ∷ earlier) = if is_some s.file then absent ∷ s ∷ earlier else s ∷ earlier

-- a state of a name whose bytes are settled
abbrev pub firm : Option (List ℕ) → NameState
firm file = record { file = file; is_unsynced = false }

-- the bytes of its file are settled
abbrev pub firm_file : List NameState → List NameState
firm_file [] = []
firm_file (s ∷ earlier) = firm s.file ∷ earlier

-- The file that stood under a name when names were last settled; bytes that were never settled are lost.
abbrev pub file_settled : List NameState → Option (List ℕ)
file_settled [] = None
file_settled (s ∷ earlier) = settled_file s.file s.is_unsynced earlier

-- the files that were made under a name, by what a look-up of it finds
abbrev pub files_found : Option (Vec FileVersion Global) → List FileVersion
files_found None = []
files_found (Some kept) = kept.items

abbrev pub files_under : BTreeMap ℤ (Vec FileVersion Global) → ℤ → List FileVersion
files_under kept n = files_found (get int_cmp kept n)

-- whether a crash may leave this under a name, by one state of it, and by any of them
abbrev pub leaves_file : Option (List ℕ) → Bool → Option (List ℕ) → Bool
leaves_file None unsynced None = true
leaves_file None unsynced (Some x) = false
leaves_file (Some bytes) unsynced None = false
leaves_file (Some bytes) true (Some x) = true
leaves_file (Some bytes) false (Some x) = bytes_eq bytes x

abbrev pub leaves_any : List NameState → Option (List ℕ) → Bool
leaves_any [] left = false
leaves_any (s ∷ others) left = leaves_file s.file s.is_unsynced left || leaves_any others left

-- a name that settling is known to reach, by a list of names or as all are
abbrev pub IsNoted : MemNames → ℤ → Type 0
IsNoted names n = (names.has_unlisted ≡ true) ⊎ Contains names.changed.items n

-- What is kept of files under names is this state of them. A name that is not as it was settled is noted.
pub record Keeps (names : MemNames) (s : NamesState) : Type 0 where
  pub states : (n : ℤ) → states_of (files_under names.kept n) ≡ record { file = s.file n; is_unsynced = s.is_unsynced n } ∷ s.earlier n
  pub whole : (n : ℤ) → s.half_done n ≡ []
  pub noted : (n : ℤ) → ¬ IsNoted names n → s.earlier n ≡ []
