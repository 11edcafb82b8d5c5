-- What the log has of messages: a record for each, without the item of one that has it in a blob.
use Rattle.std.specs.Prelude.{ℕ, List, [], map}
use Rattle.sled_codec.specs.declared.result.DiskPtr.{DiskPtr}
use Rattle.sled_codec.specs.declared.result.DiskPtr.TheVariants.{Inline, Blob}
use Rattle.sled_codec.specs.History.{Message, History}

-- what the log has of the item of a message that lies there
abbrev pub item_in_log : DiskPtr → List ℕ → List ℕ
item_in_log (Inline lid) item = item
item_in_log (Blob lid place) item = []

-- a message as the log has it
abbrev pub in_log : Message → Message
in_log m = record { kind = m.kind; page = m.page; place = m.place; pointer = m.pointer; size = m.size; bytes = item_in_log m.pointer m.bytes }

-- a history as the log has it
abbrev pub logged : History → History
logged H = record { messages = map in_log H.messages; batches = H.batches }
