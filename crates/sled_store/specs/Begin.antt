-- Where a log begins on a log file, and what it asks of the snapshot that it begins from.
use Rattle.std.specs.Prelude.{◌≡◌, ◌≢◌, ◌↔◌, ◌==◌, ◌||◌, ◌+◌, ◌-◌, ◌*◌, ◌/◌, ◌%◌, ◌^◌, ◌≤◌, ◌<◌, ◌≤ℤ◌, ℕ, zero, suc, pos, unsigned_abs, Bool, true, false}
use Rattle.std.specs.Prelude.{if◌then◌else◌, List, [], ◌∷◌, ◌++◌, map, replicate, Option, Some, None, IfSome, Contains}
use Rattle.std.specs.List.{All, flat_map, list_any, sum_by}
use Rattle.sled_codec.specs.Coords.{raised}
use Rattle.sled_codec.specs.Places.{MayBegin}
use Rattle.sled_codec.specs.Pointers.{lid_of}
use Rattle.sled_codec.specs.Snapshots.{Entry, Page, Present, Free, Uninitialized, SnapshotModel, is_sound, stable_place}
use Rattle.sled_store.specs.Device.{Event, Wrote, Synced}
use Rattle.sled_store.specs.declared.segment.start.Beginning.{Beginning}

-- Entries, and where they lie.

-- the entries of a page; the message that gave it back counts as one of 32 bytes
abbrev pub entries_in : Page → List Entry
entries_in (Present base frags) = base ∷ frags
entries_in (Free place pointer) = (place, pointer, 32) ∷ []
entries_in Uninitialized = []

-- the entries of all pages
abbrev pub entries_of : List Page → List Entry
entries_of pages = flat_map entries_in pages

-- the slot of the file that holds an entry, counted from 0
abbrev pub slot_of : ℕ → Entry → ℕ
slot_of size e = lid_of e.1 / size

-- the number of the segment that holds an entry
abbrev pub segment_number_of : ℕ → Entry → ℕ
segment_number_of size e = unsigned_abs e.0 / size

-- how many slots a file of this length has; a part of a slot at its end counts
abbrev pub slots_of : ℕ → ℕ → ℕ
slots_of size len = (len + (size - 1)) / size

-- what the entries in a slot sum up to
abbrev pub sizes_in : ℕ → ℕ → List Entry → ℕ
sizes_in size k es = sum_by (λ e. if slot_of size e == k then e.2 else 0) es

-- What is asked of a snapshot.

-- An entry lies below the stable place, in a slot of the file, and there as far from the slot's beginning as in its segment; it begins where a record may,
-- and ends in the slot.
pub record IsPlacedIn (size slots stable : ℕ) (e : Entry) : Type 0 where
  pub not_negative : pos 0 ≤ℤ e.0
  pub below : unsigned_abs e.0 < stable
  pub offset : lid_of e.1 % size ≡ unsigned_abs e.0 % size
  pub slot : slot_of size e < slots
  pub begins : MayBegin size (lid_of e.1)
  pub ends : lid_of e.1 % size + e.2 ≤ size

-- the active segment is a slot of the file, and a record may begin at the stable place
pub record MayBeActive (size slots stable active : ℕ) : Type 0 where
  pub aligned : active % size ≡ 0
  pub slot : active / size < slots
  pub offset : MayBegin size stable

-- two entries lie in one slot exactly where they are of one segment
abbrev pub AreApart : ℕ → List Entry → Type 0
AreApart size es = (d e : Entry) → Contains es d → Contains es e → (slot_of size d ≡ slot_of size e) ↔ (segment_number_of size d ≡ segment_number_of size e)

-- A log can begin from a snapshot, on a file of this length.
pub record IsStartable (size len : ℕ) (s : SnapshotModel) : Type 0 where
  -- it has a stable place that is not negative, or it is the snapshot of a log that was never begun
  pub sound : is_sound s ≡ true
  -- each page was seen
  pub seen : All (λ p. p ≢ Uninitialized) s.pages
  pub active : IfSome s.active (MayBeActive size (slots_of size len) (stable_place s.stable))
  pub placed : All (IsPlacedIn size (slots_of size len) (stable_place s.stable)) (entries_of s.pages)
  pub apart : AreApart size (entries_of s.pages)
  -- an entry lies in the active slot exactly where it is of the segment of the stable place
  pub of_active : IfSome s.active (λ a. All (λ e. (slot_of size e ≡ a / size) ↔ (segment_number_of size e ≡ stable_place s.stable / size)) (entries_of s.pages))
  -- what lies in one slot is counted in 63 bits
  pub counted : (k : ℕ) → sizes_in size k (entries_of s.pages) < 2 ^ 63

-- What is filled, and where the log begins.

-- the active segment is this slot
abbrev pub is_active : ℕ → Option ℕ → ℕ → Bool
is_active size None k = false
is_active size (Some a) k = a / size == k

-- a slot is the active one, or holds an entry
abbrev pub is_used : ℕ → SnapshotModel → ℕ → Bool
is_used size s k = is_active size s.active k || list_any (λ e. slot_of size e == k) (entries_of s.pages)

-- the numbers below another at which a test is false, in ascending order
abbrev pub not_below : (ℕ → Bool) → ℕ → List ℕ
not_below test zero = []
not_below test (suc k) = if test k then not_below test k else not_below test k ++ k ∷ []

-- the slots of a file that are not used, in ascending order
abbrev pub unused : ℕ → ℕ → SnapshotModel → List ℕ
unused size slots s = not_below (is_used size s) slots

-- a slot is filled with zeros
abbrev pub fill : ℕ → ℕ → Event
fill size k = Wrote (k * size) (replicate size 0) (replicate size 0)

-- slots are filled with zeros, and then the file is synced; where there are none, nothing is done
abbrev pub filling : ℕ → List ℕ → List Event
filling size [] = []
filling size (k ∷ ks) = map (fill size) (k ∷ ks) ++ Synced ∷ []

-- the first number of a list, where there is one
abbrev pub first_of : List ℕ → Option ℕ
first_of [] = None
first_of (k ∷ ks) = Some k

-- the first number of a list, or another where it has none
abbrev pub first_or : ℕ → List ℕ → ℕ
first_or n [] = n
first_or n (k ∷ ks) = k

-- where a log goes on in its active segment, or else begins a segment in the lowest slot that is not used
abbrev pub beginning_at : ℕ → ℕ → ℕ → List ℕ → Option ℕ → Beginning
beginning_at size slots stable free (Some a) = record { place = stable / size * size; slot = a; offset = stable % size }
beginning_at size slots stable free None = record { place = raised size stable; slot = first_or slots free * size; offset = 0 }

-- where a log begins from a snapshot, on a file of this length
abbrev pub beginning_of : ℕ → ℕ → SnapshotModel → Beginning
beginning_of size len s = beginning_at size (slots_of size len) (stable_place s.stable) (unused size (slots_of size len) s) s.active

-- the beginning, in the log, of the segment in which a log goes on
abbrev pub place_at : ℕ → ℕ → Option ℕ → ℕ
place_at size stable None = raised size stable
place_at size stable (Some a) = stable / size * size

-- one more slot of the file, and the segment in which the log goes on, end below 2^63
pub record IsInReach (size len : ℕ) (s : SnapshotModel) : Type 0 where
  pub slots : slots_of size len * size + size < 2 ^ 63
  pub places : place_at size (stable_place s.stable) s.active + size < 2 ^ 63

-- how much of that segment is there already
abbrev pub offset_at : ℕ → ℕ → Option ℕ → ℕ
offset_at size stable None = 0
offset_at size stable (Some a) = stable % size
