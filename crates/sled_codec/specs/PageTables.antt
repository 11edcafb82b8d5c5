-- When a list of pages is the table of a history below a cut.
use Rattle.std.specs.Prelude.{◌≡◌, ◌↔◌, ◌<◌, ℕ, pos, if◌then◌else◌, List, [], ◌∷◌, length, map, get_or}
use Rattle.sled_codec.specs.History.{Message, History, table, HasPage, is_replace}
use Rattle.sled_codec.specs.Snapshots.{Entry, Page, Present, Free, Uninitialized}

-- where a message lies
abbrev pub entry_of : Message → Entry
entry_of m = (pos m.place, m.pointer, m.size)

-- the page that the messages of a table are: a Replace and the Links on it, or a Free
abbrev pub page_with : List Message → Page
page_with [] = Uninitialized
page_with (m ∷ ms) = if is_replace m.kind then Present (entry_of m) (map entry_of ms) else Free (pos m.place) m.pointer

-- The pages are those of the table below the cut, by number, each in the state that the table gives it.
pub record IsTable (pages : List Page) (H : History) (cut : ℕ) : Type 0 where
  pub states : (page : ℕ) → get_or pages page Uninitialized ≡ page_with (table H cut page)
  pub begun : (page : ℕ) → (page < length pages) ↔ HasPage H cut page
