-- What proofs, and functions that no user calls, need beside `specs/Marked.antt`. No public contract names it.
use Rattle.std.specs.Prelude.{◌≡◌, ◌≤ℤ◌, ℕ, pos, List}
use Rattle.sled_codec.specs.History.{History}
use Rattle.sled_store.specs.Device.{Trace}
use Rattle.sled_core.specs.Account.{account_of}
use Rattle.sled_core.specs.declared.logger.Log.{Log}
use Rattle.sled_core.specs.Among.{AreAmong}
use Rattle.sled_core.specs.Fits.{current_of, fillings_of, heads_of, synced_end}
use Rattle.sled_core.specs.invariants.Fits.{Holds}

-- The segment that is being filled lies where it lay, and has the bytes that it had; and no header is another that isn't on the device, nor anything that
-- fills a segment.
pub record KeepsSegment {D C : Type 0} (old new : Log D C) : Type 0 where
  pub place : (current_of new).parts.site.place ≡ (current_of old).parts.site.place
  pub bytes : (current_of new).parts.bytes ≡ (current_of old).parts.bytes
  pub heads : AreAmong (heads_of new) (heads_of old)
  pub fillings : AreAmong (fillings_of new) (fillings_of old)

-- Where the log held a history, the mark that joined in a call isn't above the place behind all that was on the device without a gap.
abbrev pub JoinsBelow : {D C : Type 0} → (D → Trace) → (List ℕ → ℕ) → Log D C → Log D C → Type 0
JoinsBelow trace sum old new = (H : History) → Holds trace sum old H → (account_of new).mark ≤ℤ pos (synced_end old)
