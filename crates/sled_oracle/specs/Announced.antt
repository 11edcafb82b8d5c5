-- What a slow test of a record asks of the header at its front.
use Rattle.std.specs.Prelude.{◌≡◌, ◌≢◌, ℕ}
use Rattle.sled_codec.specs.declared.serialization.message.MessageHeader.{MessageHeader}
use Rattle.sled_codec.specs.declared.serialization.message.MessageKind.{MessageKind}
use Rattle.sled_codec.specs.declared.serialization.message.MessageKind.TheVariants.{Corrupted}

-- a header announces a message with a body of this length
pub record Announces (h : MessageHeader) (kind : MessageKind) (page number len : ℕ) : Type 0 where
  pub valid : kind ≢ Corrupted
  pub kinds : h.kind ≡ kind
  pub pages : h.pid ≡ page
  pub numbers : h.segment_number.0 ≡ number
  pub lens : h.len ≡ len
