-- Manifests of batches: which messages are that, and under which kind a place is kept for a message.
use Rattle.std.specs.Prelude.{◌==◌, ◌-◌, ◌^◌, ◌&&◌, not, ℕ, Bool, false, if◌then◌else◌, Option, None, Some}
use Rattle.sled_codec.specs.declared.serialization.message.LogKind.{LogKind}
use Rattle.sled_codec.specs.declared.serialization.message.LogKind.TheVariants as does
use Rattle.sled_codec.specs.declared.serialization.message.MessageKind.{MessageKind}
use Rattle.sled_codec.specs.declared.serialization.message.MessageKind.TheVariants.{BatchManifest}
use Rattle.sled_codec.specs.Kinds.{kind_written}

-- the page of manifests
abbrev pub manifest_page : ℕ
manifest_page = 2 ^ 64 - 667

-- a message of this kind and page is the manifest of a batch
abbrev pub is_manifest : LogKind → ℕ → Bool
is_manifest does.Skip page = page == manifest_page
is_manifest does.Replace page = false
is_manifest does.Link page = false
is_manifest does.Free page = false
is_manifest does.Corrupted page = false

-- the kind of a message's record with a body of n bytes, where a blob has its item or not: a manifest has no blob, and 8 bytes
abbrev pub kind_for : LogKind → ℕ → Bool → ℕ → Option MessageKind
kind_for does page blob n = if is_manifest does page then (if not blob && n == 8 then Some BatchManifest else None) else kind_written does page blob
