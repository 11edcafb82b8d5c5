-- The contents that a choice names, of which a crash may leave one.
use Rattle.std.specs.Prelude.{◌<◌, ◌&&◌, ℤ, Bool, true, int_lt, List, [], ◌∷◌, length, IsTrue}
use Rattle.std.specs.List.{All}
use Rattle.sled_store.specs.declared.device.choice.Choice.{Choice}
use Rattle.sled_store.specs.Device.{State, Left, Settled, Latest, Given, content_left, Leaves}
use Rattle.sled_store.specs.Noted.{left_of}

-- each name is below the next
abbrev pub are_ascending : {X : Type 0} → List (ℤ × X) → Bool
are_ascending [] = true
are_ascending (f ∷ []) = true
are_ascending (f ∷ (g ∷ files)) = int_lt f.0 g.0 && are_ascending (g ∷ files)

-- It names a content: a patch lies within the log, and offered files are in ascending order.
abbrev pub NamesContent : Left → State → Type 0
NamesContent (Settled patch) s = All (λ p. p.0 < length s.log.settled) patch
NamesContent (Latest patch) s = All (λ p. p.0 < length s.log.bytes) patch
NamesContent (Given log blobs snapshots) s = IsTrue (are_ascending blobs) × IsTrue (are_ascending snapshots)

-- it names a content, and a crash in this state may leave that
abbrev pub MayBeLeft : Left → State → Type 0
MayBeLeft left s = NamesContent left s × Leaves s (content_left left s)

abbrev pub MayBeChosen : Choice → State → Type 0
MayBeChosen choice s = MayBeLeft (left_of choice) s
