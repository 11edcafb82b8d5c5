-- The messages of a history that are marked: all but those that weren't yet.
use Rattle.std.specs.Prelude.{◌==◌, ℕ, Bool, not, List, filter}
use Rattle.std.specs.List.{list_any}
use Rattle.sled_codec.specs.History.{Message, History}

-- one of these messages lies at a place
abbrev pub is_among : List Message → ℕ → Bool
is_among ms place = list_any (λ m. m.place == place) ms

-- a history without these messages
abbrev pub without : List Message → History → History
without U H = record { messages = filter (λ m. not (is_among U m.place)) H.messages; batches = H.batches }
