-- The kinds of messages, their codes, and what each does to its page.
use Rattle.std.specs.Prelude.{ℕ, Bool, if◌then◌else◌, ◌==◌, Option, None, Some}
use Rattle.sled_codec.specs.declared.serialization.message.MessageKind.{MessageKind}
use Rattle.sled_codec.specs.declared.serialization.message.MessageKind.TheVariants.{Corrupted, Canceled, Cap, BatchManifest, Free, Counter, InlineMeta}
use Rattle.sled_codec.specs.declared.serialization.message.MessageKind.TheVariants.{BlobMeta, InlineNode, BlobNode, InlineLink, BlobLink}
use Rattle.sled_codec.specs.declared.serialization.message.LogKind.{LogKind}
use Rattle.sled_codec.specs.declared.serialization.message.LogKind.TheVariants as does

-- the byte that is written for a kind
abbrev pub code_of : MessageKind → ℕ
code_of Corrupted = 0
code_of Canceled = 1
code_of Cap = 2
code_of BatchManifest = 3
code_of Free = 4
code_of Counter = 5
code_of InlineMeta = 6
code_of BlobMeta = 7
code_of InlineNode = 8
code_of BlobNode = 9
code_of InlineLink = 10
code_of BlobLink = 11

-- the kind that a byte stands for; all bytes but the codes stand for damage
abbrev pub kind_of : ℕ → MessageKind
kind_of code =
    if code == 1 then Canceled
    else if code == 2 then Cap
    else if code == 3 then BatchManifest
    else if code == 4 then Free
    else if code == 5 then Counter
    else if code == 6 then InlineMeta
    else if code == 7 then BlobMeta
    else if code == 8 then InlineNode
    else if code == 9 then BlobNode
    else if code == 10 then InlineLink
    else if code == 11 then BlobLink
    else Corrupted

-- what a message of this kind does to its page
abbrev pub log_kind_of : MessageKind → LogKind
log_kind_of Corrupted = does.Corrupted
log_kind_of Canceled = does.Skip
log_kind_of Cap = does.Skip
log_kind_of BatchManifest = does.Skip
log_kind_of Free = does.Free
log_kind_of Counter = does.Replace
log_kind_of InlineMeta = does.Replace
log_kind_of BlobMeta = does.Replace
log_kind_of InlineNode = does.Replace
log_kind_of BlobNode = does.Replace
log_kind_of InlineLink = does.Link
log_kind_of BlobLink = does.Link

-- The kind under which a message of a page is written, with its item inline or as a blob. `None`: there is no such message; a Free has no blob.
-- Manifests of batches, which are told by their page, are not among these.
abbrev pub kind_written : LogKind → ℕ → Bool → Option MessageKind
kind_written does.Replace page blob =
    if page == 1 then Some (if blob then BlobNode else Counter)
    else if page == 0 then Some (if blob then BlobMeta else InlineMeta)
    else Some (if blob then BlobNode else InlineNode)
kind_written does.Link page blob = Some (if blob then BlobLink else InlineLink)
kind_written does.Free page blob = if blob then None else Some Free
kind_written does.Skip page blob = None
kind_written does.Corrupted page blob = None
