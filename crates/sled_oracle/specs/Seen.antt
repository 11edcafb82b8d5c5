-- A message as code holds it, as the history sees it.
use Rattle.sled_oracle.specs.declared.history.Message.{Message as Held}
use Rattle.sled_codec.specs.History.{Message}

abbrev pub seen : Held → Message
seen m = record { kind = m.kind; page = m.page; place = m.place; pointer = m.pointer; size = m.size; bytes = m.bytes.now }
