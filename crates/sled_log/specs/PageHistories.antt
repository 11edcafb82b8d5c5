-- Histories page by page: which message begins a page last, which may come, and what of a history is that of some pages alone.
use Rattle.std.specs.Prelude.{◌≡◌, ◌≢◌, ◌⊎◌, ◌^◌, ◌-◌, ◌<◌, ◌≤◌, ℕ, Bool, filter, length, Contains}
use Rattle.sled_codec.specs.declared.serialization.message.LogKind.TheVariants.{Free, Link, Replace}
use Rattle.sled_codec.specs.History.{Message, History, ChangesPage, table}
use Rattle.sled_log.specs.Made.{HasReplaceBelow}

-- It is the last message that begins this page below the cut: what the page has between the two are Links.
pub record IsLastBeginning (H : History) (cut page : ℕ) (m : Message) : Type 0 where
  pub there : Contains H.messages m
  pub of : m.page ≡ page
  pub below : m.place < cut
  pub begins : (m.kind ≡ Replace) ⊎ (m.kind ≡ Free)
  pub last : (x : Message) → Contains H.messages x → x.page ≡ page → x.place < cut → m.place < x.place → x.kind ≡ Link

-- A message that may come to an orderly history, behind all of its page, where each lower page has a Replace: a Link or a Free only where its page has one,
-- and a Link only where it has fewer than 254.
pub record MayAdd (H : History) (m : Message) : Type 0 where
  pub changes : ChangesPage m.kind
  pub page : m.page ≢ 2 ^ 64 - 1
  pub own : (m.kind ≡ Replace) ⊎ HasReplaceBelow H m.page m.place
  pub lower : (page : ℕ) → page < m.page → HasReplaceBelow H page m.place
  pub later : (x : Message) → Contains H.messages x → x.page ≡ m.page → x.place < m.place
  pub few : m.kind ≡ Link → length (table H m.place m.page) ≤ 254

-- what a history has of these pages: their messages, and all batches
abbrev pub of_pages : (ℕ → Bool) → History → History
of_pages mine H = record { messages = filter (λ m. mine m.page) H.messages; batches = H.batches }
