-- The mark in the header of a segment that a call began, and where what fills the one in front of it begins, for as long as these aren't on the device.
use Rattle.std.specs.Prelude.{◌≡◌, ◌≢◌, ◌⊎◌, ◌<◌, ◌-ℤ◌, ◌++◌, ℕ, List, [], Contains, pos}
use Rattle.sled_codec.specs.Record.{short_header}
use Rattle.sled_core.specs.declared.logger.Log.{Log}
use Rattle.sled_core.specs.Fits.{current_begin, current_of, fillings_of, heads_of, reserved_end, stable_end, synced_end}
use Rattle.sled_core.specs.Fillings.{FillingAt}
use Rattle.sled_core.specs.Heads.{HeadAt}

-- a header stands at this place, and is that of the place with a mark that lies before the other one
abbrev pub IsMarkedHead : (List ℕ → ℕ) → ℕ → ℕ → HeadAt → Type 0
IsMarkedHead sum place stable h = (h.place ≡ place) × (h.bytes ≡ short_header sum (pos place) (pos stable -ℤ pos 1))

-- Where the segment that is being filled is another than before, it begins with the header of its place, whose mark is the last stable place that the log
-- had before.
pub record BeginsMarked {D C : Type 0} (sum : List ℕ → ℕ) (old new : Log D C) : Type 0 where
  pub header : (current_of new).parts.site.place ≢ (current_of old).parts.site.place
      → (rest : List ℕ) × ((current_of new).parts.bytes ≡ short_header sum (pos (current_of new).parts.site.place) (pos (stable_end old) -ℤ pos 1) ++ rest)
  -- each header that isn't on the device is one that wasn't before, byte for byte, or that one, with which the current buffer begins, behind where it began
  pub heads : (h : HeadAt) → Contains (heads_of new) h
      → Contains (heads_of old) h ⊎ ((current_begin old < current_begin new) × IsMarkedHead sum (current_begin new) (stable_end old) h)
  -- and what fills a segment did before, or fills the one in front of that one, from where what was reserved ended
  pub fillings : (f : FillingAt) → Contains (fillings_of new) f → Contains (fillings_of old) f
      ⊎ ((current_begin old < current_begin new) × (f ≡ record { next = current_begin new; from = reserved_end old }))

-- A log that was started, where nothing of its segment is on the device, has the header of its place there, and nothing else, whose mark is the last stable
-- place.
pub record StartsMarked {D C : Type 0} (sum : List ℕ → ℕ) (log : Log D C) : Type 0 where
  pub header : synced_end log ≡ (current_of log).parts.site.place
      → (current_of log).parts.bytes ≡ short_header sum (pos (current_of log).parts.site.place) (pos (stable_end log) -ℤ pos 1)
  -- no other header isn't on the device
  pub heads : (h : HeadAt) → Contains (heads_of log) h → IsMarkedHead sum (current_begin log) (stable_end log) h
  -- and nothing fills a segment
  pub fillings : fillings_of log ≡ []
