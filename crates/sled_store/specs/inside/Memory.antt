-- What a log file in memory stands for.
use Rattle.std.specs.Prelude.{◌≡◌, ◌≤◌, ◌<◌, ◌||◌, ◌&&◌, ◌==◌, ℕ, Bool, true, false, nat_lt, nat_le, slice_index, List, [], ◌∷◌, length, vec_len, vec_capacity}
use Rattle.sled_store.specs.declared.device.memory.log_file.MemLog.{MemLog}
use Rattle.sled_store.specs.Device.{LogState}

-- in one of these ranges, each from a start to an end
abbrev pub is_within : List (ℕ × ℕ) → ℕ → Bool
is_within [] i = false
is_within (r ∷ ranges) i = is_within ranges i || (nat_le r.0 i && nat_lt i r.1)

-- in one of the ranges, or past the cut
abbrev pub is_unsynced_at : List (ℕ × ℕ) → ℕ → ℕ → Bool
is_unsynced_at unsynced cut i = is_within unsynced i || nat_le cut i

-- the offsets are below this length
abbrev pub are_in : ℕ → List (ℕ × ℕ) → Bool
are_in n [] = true
are_in n (p ∷ patch) = nat_lt p.0 n && are_in n patch

-- at each of the offsets a byte is the settled one, or may be lost
abbrev pub are_kept : List (ℕ × ℕ) → ℕ → List ℕ → List ℕ → List (ℕ × ℕ) → Bool
are_kept unsynced cut bytes settled [] = true
are_kept unsynced cut bytes settled (p ∷ patch) =
    (is_unsynced_at unsynced cut p.0 || slice_index bytes p.0 == slice_index settled p.0) && are_kept unsynced cut bytes settled patch

-- a write up to this end takes no memory
abbrev pub has_room : MemLog → ℕ → Bool
has_room log end = nat_le end (vec_capacity log.bytes) && (nat_le end (vec_capacity log.settled) && nat_lt (vec_len log.unsynced) (vec_capacity log.unsynced))

-- What is kept of a log file is this state of it.
pub record Stands (log : MemLog) (s : LogState) : Type 0 where
  pub bytes : log.bytes.items ≡ s.bytes
  pub settled : log.settled.items ≡ s.settled
  pub least : log.least ≡ s.least
  pub most : log.most ≡ s.most
  pub unsynced : (i : ℕ) → i < s.most → s.is_unsynced i ≡ is_unsynced_at log.unsynced.items log.cut i
  -- both contents have a length in that range, are as long as the cut, and are the same where nothing is loose
  pub no_shorter : s.least ≤ length s.bytes
  pub no_longer : length s.bytes ≤ s.most
  pub settled_no_shorter : s.least ≤ length s.settled
  pub settled_no_longer : length s.settled ≤ s.most
  pub cut : log.cut ≤ length s.bytes
  pub settled_cut : log.cut ≤ length s.settled
  pub same : (i : ℕ) → is_unsynced_at log.unsynced.items log.cut i ≡ false → slice_index s.settled i ≡ slice_index s.bytes i
  -- there is room for the greatest length, so that a sync wants no memory
  pub room : s.most ≤ vec_capacity log.bytes
  pub settled_room : s.most ≤ vec_capacity log.settled
