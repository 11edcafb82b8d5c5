-- How a history grows while a log goes on having the record of what was in its tables.
use Rattle.std.specs.Prelude.{◌≡◌, ◌<◌, ◌<ℤ◌, ℤ, pos, Contains}
use Rattle.sled_codec.specs.declared.serialization.message.LogKind.TheVariants.{Free, Link}
use Rattle.sled_codec.specs.History.{Message, History}

-- Of a message's page a history has what another one has, and what it has beside that lies at a place or above it. Where the message is a Link no Free that
-- lies before it is among that: a Link behind a Free is in no table.
pub record GrowsFrom (mark : ℤ) (m : Message) (old new : History) : Type 0 where
  pub has : (x : Message) → Contains old.messages x → x.page ≡ m.page → Contains new.messages x
  pub below : (x : Message) → Contains new.messages x → x.page ≡ m.page → pos x.place <ℤ mark → Contains old.messages x
  pub freed : m.kind ≡ Link → (x : Message) → Contains new.messages x → x.page ≡ m.page → x.kind ≡ Free → x.place < m.place → Contains old.messages x
