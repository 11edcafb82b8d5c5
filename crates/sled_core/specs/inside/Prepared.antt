-- What proofs, and functions that no user calls, need beside `specs/Prepared.antt`. No public contract names it.
use Rattle.std.specs.Prelude.{◌≡◌, ◌+◌, ◌<◌, ◌/◌, ℕ, ℤ, List, length, take, drop, true, Result, Ok, Err}
use Rattle.sled_codec.specs.Spelling.{short_header_tail}
use Rattle.sled_codec.specs.declared.result.Error.{Error}
use Rattle.sled_codec.specs.declared.result.Error.TheVariants.{OutOfMemory, Held, PlacesUsedUp}
use Rattle.sled_store.specs.Device.{Trace}
use Rattle.sled_core.specs.declared.iobuf.Purpose.{Purpose}
use Rattle.sled_core.specs.declared.iobuf.record.Head.{Head}
use Rattle.sled_core.specs.declared.logger.Log.{Log}
use Rattle.sled_core.specs.inside.Begun.{last_buffer_in}
use Rattle.sled_core.specs.Buffers.{most_open}
use Rattle.sled_core.specs.Fits.{FitsInline, KeepsTickets, current_of, machine_at, machine_behind, pooled_behind, pooled_of, reserved_end, segment_size_of}
use Rattle.sled_core.specs.Fits.{start_behind, start_of, target_of, waiting_behind}
use Rattle.sled_core.specs.Fits.{waiting_of}
use Rattle.sled_core.specs.Keeps.{KeepsSeen, Preserves}
use Rattle.sled_core.specs.Manifests.{is_manifest}
use Rattle.sled_core.specs.Marked.{BeginsMarked}
use Rattle.sled_core.specs.Positions.{Position}
use Rattle.sled_core.specs.inside.Turned.{HasPlace, HasRoomForBatch, HasRoomIn}

-- behind all bytes of the segment that is being filled
abbrev pub next_here : {D C : Type 0} → Log D C → Position
next_here log =
    record {
      place = (current_of log).parts.site.place + length (current_of log).parts.bytes;
      begins = (current_of log).parts.site.place;
      slot = (current_of log).parts.site.slot;
      machine = machine_at log;
    }

-- the number of that segment
abbrev pub number_of : {D C : Type 0} → Log D C → ℕ
number_of log = (current_of log).parts.site.place / segment_size_of log

-- the bytes of a header
abbrev pub text_of : Head → List ℕ
text_of head = take head.len head.bytes

-- A log is ready for a record with a body of n bytes: this is its header, which the current segment and its buffer have room for, and the body behind it.
-- It fits all that it did.
pub record IsPrepared {D C : Type 0} (trace : D → Trace) (sum : List ℕ → ℕ) (old new : Log D C) (kept : Purpose) (head : Head) (n : ℕ) : Type 0 where
  pub inline : FitsInline (segment_size_of old) n
  pub keeps : Preserves trace sum old new
  pub tickets : KeepsTickets old new
  pub seen : KeepsSeen old new
  pub reserved : reserved_end new ≡ reserved_end old
  pub target : target_of old kept.page n ≡ next_here new
  pub tail : drop 4 (text_of head) ≡ short_header_tail kept.kind n (number_of new) kept.page
  pub long : head.len ≡ length (text_of head)
  pub fits : HasPlace new (head.len + n)
  pub room : HasRoomIn (last_buffer_in new.segments) (head.len + n)
  -- a manifest has room for its batch
  pub batch : is_manifest kept.log_kind kept.page ≡ true → HasRoomForBatch new
  pub seals : (waiting_of new ≡ waiting_behind sum old kept.page n) × (start_of new ≡ start_behind old kept.page n)
  pub machine : machine_at new ≡ machine_behind old kept.page n
  pub pooled : pooled_of new ≡ pooled_behind old kept.page n
  pub marked : BeginsMarked sum old new

-- Where a further segment is needed that isn't in reach, and so many are open in the buffer that the record would be of: this comes of it.
abbrev pub PrepareAnswers : {T : Type 0} → Result T Error → Type 0 → ℕ → (ℤ → Type 0) → Type 0
PrepareAnswers (Ok _) used open_count least = (used → ⊥) × (open_count < most_open)
PrepareAnswers (Err PlacesUsedUp) used open_count least = used
PrepareAnswers (Err (Held at)) used open_count least = (used → ⊥) × (open_count ≡ most_open) × least at
PrepareAnswers (Err OutOfMemory) used open_count least = (used → ⊥) × (open_count < most_open)
PrepareAnswers (Err _) used open_count least = ⊥
