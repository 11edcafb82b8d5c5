-- Tables of pages: what a snapshot says, and its spelling.
use Rattle.std.specs.Prelude.{◌+◌, ◌^◌, ◌<◌, ℕ, ℤ, Option, List, [], ◌∷◌, ◌++◌, length, map, FitsSigned, pos, negsuc, Bool, true, false, Some, None}
use Rattle.std.specs.Int.{w64}
use Rattle.std.specs.List.{All, flat_map}
use Rattle.sled_codec.specs.declared.result.DiskPtr.{DiskPtr}
use Rattle.sled_codec.specs.declared.serialization.snapshot.PageState.{PageState}
use Rattle.sled_codec.specs.declared.serialization.snapshot.PageState.TheVariants as state
use Rattle.sled_codec.specs.declared.serialization.snapshot.Snapshot.{Snapshot}
use Rattle.sled_codec.specs.Spelling.{SpellsNumber, SpellsSigned, short_number, short_signed, or_zero, or_zero_signed, SpellsPair, SpellsTriple, SpellsEach}
use Rattle.sled_codec.specs.Spelling.{Tagged, SpellsPointer, FitsPointer, short_pointer}

-- where a message of a page lies: its place, its pointer, and how long its record is
abbrev pub Entry : Type 0
Entry = ℤ × DiskPtr × ℕ

-- What a page is in a table: its last Replace and the Links on it, the message that gave it back, or nothing yet.
pub data Page : Type 0 where
  Present : (base : Entry) (frags : List Entry) → Page
  Free : (place : ℤ) (pointer : DiskPtr) → Page
  Uninitialized : Page

-- A table up to a place, the segment that holds that place, and the pages by their number.
pub record SnapshotModel : Type 0 where
  pub stable : Option ℤ
  pub active : Option ℕ
  pub pages : List Page

-- what they are as code holds them

abbrev pub page_of : PageState → Page
page_of (state.Present base frags) = Present base frags.items
page_of (state.Free place pointer) = Free place pointer
page_of state.Uninitialized = Uninitialized

abbrev pub model_of : Snapshot → SnapshotModel
model_of s = record { stable = s.stable_lsn; active = s.active_segment; pages = map page_of s.pt.items }

-- An entry: its parts, one behind another.

abbrev pub SpellsEntry : List ℕ → Entry → Type 0
SpellsEntry text e = SpellsTriple SpellsSigned SpellsPointer SpellsNumber text e.0 e.1 e.2

abbrev pub FitsEntry : Entry → Type 0
FitsEntry e =
    FitsSigned w64 e.0 × FitsPointer e.1 × (e.2 < 2 ^ 64) × (length (short_signed e.0) + length (short_pointer e.1) + length (short_number e.2) < 2 ^ 64)

abbrev pub short_entry : Entry → List ℕ
short_entry e = short_signed e.0 ++ short_pointer e.1 ++ short_number e.2

-- A page: 0, the place and the pointer; or how many entries it has, and then they. One byte counts them.

abbrev pub SpellsPage : List ℕ → Page → Type 0
SpellsPage text (Present base frags) = (length frags < 255) × Tagged (1 + length frags) (λ rest. SpellsEach SpellsEntry rest (base ∷ frags)) text
SpellsPage text (Free place pointer) = Tagged 0 (λ rest. SpellsPair SpellsSigned SpellsPointer rest place pointer) text
SpellsPage text Uninitialized = ⊥

abbrev pub FitsPage : Page → Type 0
FitsPage (Present base frags) = (length frags < 255) × FitsEntry base × All FitsEntry frags
FitsPage (Free place pointer) = FitsSigned w64 place × FitsPointer pointer
FitsPage Uninitialized = ⊥

abbrev pub short_page : Page → List ℕ
short_page (Present base frags) = (1 + length frags) ∷ (short_entry base ++ flat_map short_entry frags)
short_page (Free place pointer) = 0 ∷ (short_signed place ++ short_pointer pointer)
short_page Uninitialized = []

-- A snapshot: the place and the segment as numbers that may be missing, and the pages up to the end of the text.

abbrev pub SpellsSnapshot : List ℕ → SnapshotModel → Type 0
SpellsSnapshot text s =
    SpellsTriple (λ t v. SpellsSigned t (or_zero_signed v)) (λ t v. SpellsNumber t (or_zero v)) (SpellsEach SpellsPage) text s.stable s.active s.pages

unfoldable pub short_snapshot : SnapshotModel → List ℕ
short_snapshot s = short_signed (or_zero_signed s.stable) ++ short_number (or_zero s.active) ++ flat_map short_page s.pages

-- its parts have spellings, and the length of all is a `u64`
pub record FitsSnapshot (s : SnapshotModel) : Type 0 where
  pub stable : FitsSigned w64 (or_zero_signed s.stable)
  pub active : or_zero s.active < 2 ^ 64
  pub pages : All FitsPage s.pages
  pub small : length (short_snapshot s) < 2 ^ 64

-- the snapshot of a log that was never begun
abbrev pub empty_model : SnapshotModel
empty_model = record { stable = None; active = None; pages = [] }

abbrev pub sound_parts : Option ℤ → Option ℕ → List Page → Bool
sound_parts (Some (pos n)) active pages = true
sound_parts (Some (negsuc n)) active pages = false
sound_parts None None [] = true
sound_parts None None (p ∷ ps) = false
sound_parts None (Some a) pages = false

-- it has a stable place that is not negative, or it is the snapshot of a log that was never begun
abbrev pub is_sound : SnapshotModel → Bool
is_sound s = sound_parts s.stable s.active s.pages

-- the place that it ends with, 0 where there is none
abbrev pub stable_place : Option ℤ → ℕ
stable_place (Some (pos n)) = n
stable_place (Some (negsuc n)) = 0
stable_place None = 0
