-- What an aborted message leaves: a record that every reader passes over.
use Rattle.std.specs.Prelude.{◌≡◌, ◌+◌, ◌-◌, ◌/◌, ◌≤◌, ℕ, List, Contains, length}
use Rattle.sled_codec.specs.declared.result.DiskPtr.{DiskPtr}
use Rattle.sled_codec.specs.declared.result.DiskPtr.TheVariants.{Inline, Blob}
use Rattle.sled_codec.specs.declared.serialization.message.MessageKind.TheVariants as kind
use Rattle.sled_codec.specs.History.{Message}
use Rattle.sled_codec.specs.Places.{part}
use Rattle.sled_codec.specs.Pointers.{lid_of}
use Rattle.sled_codec.specs.Record.{short_record}
use Rattle.sled_codec.specs.Spelling.{SpellsSigned}
use Rattle.sled_core.specs.declared.logger.Log.{Log}
use Rattle.sled_core.specs.Fits.{buffers_of, segment_size_of}
use Rattle.sled_core.specs.Waiting.{BufferAt}

-- what the record of a message with this item has for a body: the item, or the place of the blob that has it
abbrev pub IsBodyAt : DiskPtr → List ℕ → List ℕ → Type 0
IsBodyAt (Inline lid) item body = body ≡ item
IsBodyAt (Blob lid place) item body = SpellsSigned body place

abbrev pub IsBodyOf : Message → List ℕ → Type 0
IsBodyOf m body = IsBodyAt m.pointer m.bytes body

-- the record that stands for a message that was given up, with its body
abbrev pub canceled_record : (List ℕ → ℕ) → ℕ → Message → List ℕ → List ℕ
canceled_record sum size m body = short_record sum kind.Canceled m.page (m.place / size) body

-- Among the buffers that aren't on the device, with the current one as it would be sealed, is the one where the message was to lie; it has that record
-- there, with the message's body and as long as its own.
pub record WritesCanceled {D C : Type 0} (sum : List ℕ → ℕ) (log : Log D C) (m : Message) : Type 0 where
  pub buffer : BufferAt
  pub waits : Contains (buffers_of sum log) buffer
  pub begins : buffer.place ≤ m.place
  pub ends : m.place + m.size ≤ buffer.end
  pub behind : buffer.lid ≤ lid_of m.pointer
  pub body : List ℕ
  pub is_body : IsBodyOf m body
  pub whole : part buffer.bytes (lid_of m.pointer - buffer.lid) m.size ≡ canceled_record sum (segment_size_of log) m body
  pub long : length (canceled_record sum (segment_size_of log) m body) ≡ m.size
