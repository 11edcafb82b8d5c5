-- What recovery makes of a content: which snapshot it begins from, which segments it finds, where the tail of the log ends,
-- which messages it applies, and the cut. Stated for any number of segments and for all kinds of messages.
use Rattle.std.specs.Prelude.{◌≡◌, ◌⊎◌, ◌+◌, ◌-◌, ◌/◌, ◌%◌, ◌^◌, ◌≤◌, ℕ, ℤ, pos, nat_lt, int_lt, Bool, true, false, ◌&&◌, ◌||◌, not, ◌==◌, if◌then◌else◌, List}
use Rattle.std.specs.Prelude.{[], ◌∷◌, ◌++◌, length, drop, set, get_or, replicate, Option, Some, None, map, Contains}
use Rattle.sled_codec.specs.declared.result.DiskPtr.{DiskPtr}
use Rattle.sled_codec.specs.declared.serialization.message.LogKind.{LogKind}
use Rattle.sled_codec.specs.declared.serialization.message.LogKind.TheVariants as does
use Rattle.sled_codec.specs.History.{Message}
use Rattle.sled_codec.specs.PageTables.{entry_of}
use Rattle.sled_codec.specs.Snapshots.{Entry, Page, Present, Free, Uninitialized, SnapshotModel, stable_place}
use Rattle.sled_store.specs.Device.{Content}
use Rattle.sled_store.specs.SnapshotFiles.{BeginsFrom, IsDamagedSnapshot}
use Rattle.sled_core.specs.declared.iterator.scan.ScannedRecord.{ScannedRecord}
use Rattle.sled_core.specs.declared.iterator.scan.RecordContent.{RecordContent}
use Rattle.sled_core.specs.declared.iterator.scan.RecordContent.TheVariants.{Gives, NamesBlob, Skipped, BatchStart}
use Rattle.sled_core.specs.declared.iterator.Segment.{Segment}
use Rattle.sled_core.specs.Reading.{IsMalformed}
use Rattle.sled_core.specs.Scan.{IsDamagedIn, IsPath}
pub use Rattle.sled_core.specs.Replayed.{IsReplayed, scanned_of, NamesKind, HasBadBlob, NamesBlobOf, with_blob, resolved}
pub use Rattle.sled_core.specs.Tail.{IsUnordered, is_ascending, IsOrdering, Scanned, IsScanned, place_of_mark, greatest_mark, tail_begins, GoesOn, IsTail}
pub use Rattle.sled_core.specs.Tail.{IsTailPart, tail_end, begun_below, AreScanned, opens, open_at, before_open, stops_in, is_filled, cut_of, least_place}

-- The pass over the messages.

-- behind a segment with a batch that is open nothing is read, and behind another one this
abbrev pub StopsOrGoesOn : Option ℕ → List Scanned → Type 0 → Type 0
StopsOrGoesOn (Some place) rest on = rest ≡ []
StopsOrGoesOn None rest on = on

-- these segments as the pass reads them, up to the first one with a batch that is open
abbrev pub AreReplayed : (List ℕ → ℕ) → ℕ → List ℕ → ℕ → List Segment → List Scanned → Type 0
AreReplayed sum size log end [] [] = Unit {0}
AreReplayed sum size log end [] (x ∷ xs) = ⊥
AreReplayed sum size log end (s ∷ ss) [] = ⊥
AreReplayed sum size log end (s ∷ ss) (x ∷ xs) =
    (x.segment ≡ s) × IsReplayed sum size log end x × StopsOrGoesOn (open_at end x.met) xs (AreReplayed sum size log end ss xs)

-- Blobs.

-- this is so of one of these
abbrev pub MeetsOne : (RecordContent → Type 0) → List ScannedRecord → Type 0
MeetsOne P ms = (m : ScannedRecord) × Contains ms m × P m.what

-- one of these names a blob that is there and doesn't pass for it
abbrev pub MeetsBadBlob : (List ℕ → ℕ) → (ℤ → Option (List ℕ)) → List ScannedRecord → Type 0
MeetsBadBlob sum blobs ms = MeetsOne (HasBadBlob sum blobs) ms

-- the blob that a record names is there and doesn't pass for it, and damage of that blob is named so
abbrev pub HasDamage : (List ℕ → ℕ) → (ℤ → Option (List ℕ)) → Option DiskPtr → RecordContent → Type 0
HasDamage sum blobs at what = HasBadBlob sum blobs what × NamesBlobOf sum blobs what at

-- Damage is named as that of the blob of one of these: the blob that one of them names is there and doesn't pass for it. Its name is exact: that blob where
-- its checksum fails, and none where it is too short to have one, or holds another kind.
abbrev pub NamesBadBlob : (List ℕ → ℕ) → (ℤ → Option (List ℕ)) → List ScannedRecord → Option DiskPtr → Type 0
NamesBadBlob sum blobs ms at = MeetsOne (HasDamage sum blobs at) ms

-- what is met, with the blobs of all that is met before a batch that is open
abbrev pub resolved_before : (ℤ → Option (List ℕ)) → ℕ → List ScannedRecord → List ScannedRecord
resolved_before blobs end [] = []
resolved_before blobs end (m ∷ ms) = if opens end m.what then m ∷ ms else resolved blobs m ∷ resolved_before blobs end ms

-- a segment, with these blobs
abbrev pub resolved_scan : (ℤ → Option (List ℕ)) → ℕ → Scanned → Scanned
resolved_scan blobs end s = record { segment = s.segment; met = resolved_before blobs end s.met; stop = s.stop; why = s.why }

-- A message that is applied: what it does, to which page, and its entry.
pub record Applied : Type 0 where
  pub kind : LogKind
  pub page : ℕ
  pub entry : Entry

-- a message of a history as it is applied
abbrev pub applied : Message → Applied
applied m = record { kind = m.kind; page = m.page; entry = entry_of m }

abbrev pub applied_of : ScannedRecord → RecordContent → List Applied
applied_of m (Gives kind page pointer) = record { kind = kind; page = page; entry = (pos m.place, pointer, m.len) } ∷ []
applied_of m (NamesBlob kind page lid place) = []
applied_of m Skipped = []
applied_of m (BatchStart peg) = []

-- the messages among what is met that don't lie below a place
abbrev pub given : ℕ → List ScannedRecord → List Applied
given least [] = []
given least (m ∷ ms) = if nat_lt m.place least then given least ms else applied_of m m.what ++ given least ms

-- a table with so many pages at least
abbrev pub grown : List Page → ℕ → List Page
grown pages n = pages ++ replicate (n - length pages) Uninitialized

-- the last entry of a page that was begun
abbrev pub last_entry : Entry → List Entry → Entry
last_entry base [] = base
last_entry base (e ∷ es) = last_entry e es

-- a page with a Link on it, where that lies behind all that the page has
abbrev pub with_fragment : Page → Entry → Page
with_fragment (Present base frags) e = if int_lt (last_entry base frags).0 e.0 then Present base (frags ++ e ∷ []) else Present base frags
with_fragment (Free place pointer) e = Free place pointer
with_fragment Uninitialized e = Uninitialized

-- What a message makes of a table. A Link on a page that isn't there gives it no page.
abbrev pub table_with : List Page → LogKind → ℕ → Entry → List Page
table_with pages does.Replace page e = set (grown pages (page + 1)) page (Present e [])
table_with pages does.Free page e = set (grown pages (page + 1)) page (Free e.0 e.1)
table_with pages does.Link page e = grown (set pages page (with_fragment (get_or pages page Uninitialized) e)) page
table_with pages does.Skip page e = pages
table_with pages does.Corrupted page e = pages

abbrev pub table_of : List Page → List Applied → List Page
table_of pages [] = pages
table_of pages (a ∷ rest) = table_of (table_with pages a.kind a.page a.entry) rest

-- a message of the page that no table has
abbrev pub has_no_table : List Applied → Bool
has_no_table [] = false
has_no_table (a ∷ rest) = (a.page == 2 ^ 64 - 1) || has_no_table rest

-- the page is in a state that a snapshot can say
abbrev pub is_whole_page : Page → Bool
is_whole_page (Present base frags) = nat_lt (length frags) 255
is_whole_page (Free place pointer) = true
is_whole_page Uninitialized = false

abbrev pub are_whole : List Page → Bool
are_whole [] = true
are_whole (p ∷ ps) = is_whole_page p && are_whole ps

-- The cut.

-- all that the pass meets up to there
abbrev pub passed_in : ℕ → Scanned → Option ℕ → List Scanned → List ScannedRecord
passed_in end s (Some place) rest = before_open end s.met
passed_in end s None [] = s.met
passed_in end s None (t ∷ ts) = s.met ++ passed_in end t (open_at end t.met) ts

-- all that the pass meets in these segments
abbrev pub passed_all : ℕ → List Scanned → List ScannedRecord
passed_all end [] = []
passed_all end (s ∷ ss) = passed_in end s (open_at end s.met) ss

-- What recovery concludes: the table, and what is left to be written.
pub record RecoveryResult : Type 0 where
  pub model : SnapshotModel
  -- the rest of the active segment behind the cut, where one was read: an offset of the file, and how many bytes
  pub shred_range : Option (ℕ × ℕ)
  -- the table ends above the snapshot that it began from, or that had no place
  pub is_new : Bool
  -- the slots of the segments that are found and that the pass did not read, by their places
  pub unread : List ℕ

-- what recovery answers: the content is damaged, and so the damage is named; or this is recovered
pub data Outcome : Type 0 where
  Damaged : (at : Option DiskPtr) → Outcome
  Recovered : (x : RecoveryResult) → Outcome

-- The rest of the active segment behind a cut.
abbrev pub shred_range_of : ℕ → ℕ → Option ℕ → Option (ℕ × ℕ)
shred_range_of size cut None = None
shred_range_of size cut (Some slot) = Some (slot + cut % size, size - cut % size)

-- a cut lies above the place of a snapshot, or that has none
abbrev pub is_beyond : Option ℤ → ℕ → Bool
is_beyond None cut = true
is_beyond (Some place) cut = int_lt place (pos cut)

-- A table with this cut, unless it can't be one, which is damage of no blob.
abbrev pub concluded : ℕ → SnapshotModel → List ℕ → List Applied → ℕ × Option ℕ → Outcome
concluded size first unread messages cut =
    if has_no_table messages || nat_lt cut.0 (stable_place first.stable) || not (are_whole (table_of first.pages messages)) then Damaged None
    else Recovered (record {
      model = record { stable = Some (pos cut.0); active = cut.1; pages = table_of first.pages messages };
      shred_range = shred_range_of size cut.0 cut.1;
      is_new = is_beyond first.stable cut.0;
      unread = unread;
    })

-- the snapshot stays as it was, and no segment was read
abbrev pub unchanged : SnapshotModel → List ℕ → RecoveryResult
unchanged first unread = record { model = first; shred_range = None; is_new = false; unread = unread }

-- What comes of the segments that the pass reads, where these slots have the others. Where it reads none, the snapshot stays as it was.
abbrev pub outcome_of : ℕ → SnapshotModel → ℕ → List Scanned → List ℕ → Outcome
outcome_of size first end [] unread = Recovered (unchanged first unread)
outcome_of size first end (s ∷ ss) unread =
    concluded size first unread (given (stable_place first.stable) (passed_in end s (open_at end s.met) ss))
    (cut_of size (stops_in end s (open_at end s.met) ss))

-- The whole.

-- a record is met in a segment whose blob doesn't pass for it, and damage is named as that of the blob
abbrev pub NamesBadBlobIn : (List ℕ → ℕ) → ℕ → List ℕ → (ℤ → Option (List ℕ)) → Segment → Option DiskPtr → Type 0
NamesBadBlobIn sum size log blobs segment at = (s : Scanned) × (s.segment ≡ segment) × IsScanned sum size log s × NamesBadBlob sum blobs s.met at

-- a damaged record is met in a segment, and the damage names no blob; or one whose blob doesn't pass for it
abbrev pub NamesDamageIn : (List ℕ → ℕ) → ℕ → List ℕ → (ℤ → Option (List ℕ)) → Segment → Option DiskPtr → Type 0
NamesDamageIn sum size log blobs segment at =
    ((at ≡ None) × IsDamagedIn sum size log segment.slot segment.place) ⊎ NamesBadBlobIn sum size log blobs segment at

-- A damaged record, or one whose blob doesn't pass for it, is met where the tail is read, and the damage is named so.
pub record IsDamagedTail (sum : List ℕ → ℕ) (size : ℕ) (log : List ℕ) (blobs : ℤ → Option (List ℕ)) (ordering : List Segment) (place : ℕ)
    (name : Option DiskPtr) : Type 0 where
  pub before : List Scanned
  pub next : ℕ
  pub part : IsTailPart sum size log ordering place before next
  pub segment : Segment
  pub there : Contains ordering segment
  pub at : segment.place ≡ next
  pub damaged : NamesDamageIn sum size log blobs segment name

-- none of these has a batch that does not end below this place
abbrev pub AreClosed : ℕ → List Scanned → Type 0
AreClosed end [] = Unit {0}
AreClosed end (s ∷ ss) = (open_at end s.met ≡ None) × AreClosed end ss

-- A damaged record is met in the pass, before a batch that is open.
pub record IsDamagedPass (sum : List ℕ → ℕ) (size : ℕ) (log : List ℕ) (end : ℕ) (segments : List Segment) : Type 0 where
  pub first : List Segment
  pub segment : Segment
  pub rest : List Segment
  pub is : segments ≡ first ++ segment ∷ rest
  pub before : List Scanned
  pub scanned : AreScanned sum size log first before
  pub closed : AreClosed end before
  pub met : List ScannedRecord
  pub next : ℕ
  pub path : IsPath sum size log segment.slot segment.place 20 met next
  pub not_open : open_at end met ≡ None
  pub room : next + 32 ≤ size
  pub damaged : IsMalformed sum size log (segment.slot + next) (segment.place / size)

-- what comes of the segments that the pass reads, with their blobs
abbrev pub PassesOver : (List ℕ → ℕ) → ℕ → (ℤ → Option (List ℕ)) → SnapshotModel → ℕ → List Scanned → List ℕ → Outcome → Type 0
PassesOver sum size blobs first end passes unread o =
    ((at : Option DiskPtr) × (o ≡ Damaged at) × NamesBadBlob sum blobs (passed_all end passes) at)
    ⊎ ((MeetsBadBlob sum blobs (passed_all end passes) → ⊥) × (o ≡ outcome_of size first end (map (resolved_scan blobs end) passes) unread))

-- the slots of these segments
abbrev pub slots_in_order : List Segment → List ℕ
slots_in_order segments = map (λ s. s.slot) segments

-- what comes of a tail that ends there
abbrev pub Passes : (List ℕ → ℕ) → ℕ → List ℕ → (ℤ → Option (List ℕ)) → SnapshotModel → List Segment → Option ℕ → Outcome → Type 0
Passes sum size log blobs first ordering None o = o ≡ Recovered (unchanged first (slots_in_order ordering))
Passes sum size log blobs first ordering (Some end) o =
    ((o ≡ Damaged None) × IsDamagedPass sum size log end (begun_below end ordering))
    ⊎ ((passes : List Scanned) × AreReplayed sum size log end (begun_below end ordering) passes
    × PassesOver sum size blobs first end passes (slots_in_order (drop (length passes) ordering)) o)

-- the blob of each record that is met in these is missing or passes for it
abbrev pub HaveGoodBlobs : (List ℕ → ℕ) → (ℤ → Option (List ℕ)) → List Scanned → Type 0
HaveGoodBlobs sum blobs scanned = (s : Scanned) → Contains scanned s → MeetsBadBlob sum blobs s.met → ⊥

-- what comes of the segments that are found
abbrev pub Replays : (List ℕ → ℕ) → ℕ → List ℕ → (ℤ → Option (List ℕ)) → SnapshotModel → List Segment → ℕ → Outcome → Type 0
Replays sum size log blobs first ordering tail o =
    ((at : Option DiskPtr) × (o ≡ Damaged at) × IsDamagedTail sum size log blobs ordering tail at)
    ⊎ ((scanned : List Scanned) × IsTail sum size log ordering tail scanned × HaveGoodBlobs sum blobs scanned
    × Passes sum size log blobs first ordering (tail_end scanned) o)

-- What recovery makes of a log file and of blobs from a snapshot on.
unfoldable pub ContinuesFrom : (List ℕ → ℕ) → ℕ → List ℕ → (ℤ → Option (List ℕ)) → SnapshotModel → Outcome → Type 0
ContinuesFrom sum size log blobs first o =
    let least = least_place size first in
    ((o ≡ Damaged None) × IsUnordered sum size log least)
    ⊎ ((ordering : List Segment) × IsOrdering sum size log least ordering × Replays sum size log blobs first ordering (tail_begins size least ordering) o)

-- What recovery makes of what it reads. Damage names a blob exactly where a record is met whose blob has a checksum that fails.
unfoldable pub Recovers : (List ℕ → ℕ) → ℕ → Content → Outcome → Type 0
Recovers sum size content o =
    ((o ≡ Damaged None) × IsDamagedSnapshot sum content.snapshots)
    ⊎ ((first : SnapshotModel) × BeginsFrom sum content.snapshots first × ContinuesFrom sum size content.log content.blobs first o)
