-- What an iterator gives of a log file: the messages of segments that begin below an end, by place, and whether it
-- ends at damage, and of what. Stated for any number of segments and for all kinds of messages.
use Rattle.std.specs.Prelude.{◌≡◌, ◌⊎◌, ◌+◌, ℕ, ℤ, pos, nat_le, nat_lt, Bool, true, false, ◌||◌, if◌then◌else◌, List, [], ◌∷◌, ◌++◌, Option, Some, None, Result}
use Rattle.std.specs.Prelude.{Ok, Err}
use Rattle.std.specs.Bool.{MatchBool}
use Rattle.sled_codec.specs.declared.serialization.message.LogKind.{LogKind}
use Rattle.sled_codec.specs.declared.result.DiskPtr.{DiskPtr}
use Rattle.sled_codec.specs.declared.result.Error.{Error}
use Rattle.sled_codec.specs.declared.result.Error.TheVariants.{Corruption}
use Rattle.sled_codec.specs.Places.{part}
use Rattle.sled_codec.specs.Record.{IsHeader}
use Rattle.sled_store.specs.Blobs.{ItemAnswers}
use Rattle.sled_core.specs.declared.iterator.scan.ScannedRecord.{ScannedRecord}
use Rattle.sled_core.specs.declared.iterator.scan.RecordContent.{RecordContent}
use Rattle.sled_core.specs.declared.iterator.scan.RecordContent.TheVariants.{Gives, NamesBlob, Skipped, BatchStart}
use Rattle.sled_core.specs.declared.iterator.scan.ScanEnd.{ScanEnd}
use Rattle.sled_core.specs.declared.iterator.scan.ScanEnd.TheVariants.{Full, Capped, Broken}
use Rattle.sled_core.specs.declared.iterator.Segment.{Segment}
use Rattle.sled_core.specs.Replayed.{IsDamagedBefore, IsReplayed, HasBadBlob, NamesBlobOf, with_blob}
use Rattle.sled_core.specs.Tail.{Scanned, opens}

-- A message as an iterator gives it: what it does, its page, its place, its pointer and the length of its record.
abbrev pub Item : Type 0
Item = LogKind × ℕ × ℤ × DiskPtr × ℕ

-- a record as such a message, where it is one
abbrev pub items_of : ScannedRecord → RecordContent → List Item
items_of m (Gives kind page pointer) = (kind, page, pos m.place, pointer, m.len) ∷ []
items_of m (NamesBlob kind page lid place) = []
items_of m Skipped = []
items_of m (BatchStart peg) = []

-- An iterator ends at a record that lies at the end or behind it, or begins a batch that does not end below it.
abbrev pub stops : ℕ → ScannedRecord → Bool
stops end m = nat_le end m.place || opens end m.what

-- How an iteration ends: at damage that is named so, or at none.
abbrev pub Damage : Type 0
Damage = Option (Option DiskPtr)

-- it ends at damage that is named in such a way
abbrev pub IsNamed : (Option DiskPtr → Type 0) → Damage → Type 0
IsNamed names None = ⊥
IsNamed names (Some at) = names at

-- What is given of records that were met in a segment, one by one, and then this. It ends at a record that stops it, and at a blob that doesn't pass for
-- its record: damage that is named as that blob's is.
abbrev pub GivesOf : (List ℕ → ℕ) → (ℤ → Option (List ℕ)) → ℕ → List ScannedRecord → (List Item → Damage → Type 0) → List Item → Damage → Type 0
GivesOf sum blobs end [] on items damage = on items damage
GivesOf sum blobs end (m ∷ ms) on items damage = MatchBool (stops end m) ((items ≡ []) × (damage ≡ None))
    ((HasBadBlob sum blobs m.what × (items ≡ []) × IsNamed (NamesBlobOf sum blobs m.what) damage)
    ⊎ ((HasBadBlob sum blobs m.what → ⊥)
    × ((rest : List Item) × (items ≡ items_of m (with_blob blobs m.what) ++ rest) × GivesOf sum blobs end ms on rest damage)))

-- At a damaged record it ends, with damage that names nothing, unless the record lies at the end or behind it.
abbrev pub EndsAt : ℕ → ℕ → List Item → Damage → Type 0
EndsAt end place items damage = (items ≡ []) × (damage ≡ (if nat_lt place end then Some None else None))

-- the header of a segment stands in its slot
abbrev pub HasItsHeader : (List ℕ → ℕ) → List ℕ → Segment → Type 0
HasItsHeader sum log s = (mark : ℤ) × IsHeader sum (part log s.slot 20) (pos s.place) mark

-- a strict iterator ends at a segment whose header isn't there
abbrev pub IsMissing : Bool → (List ℕ → ℕ) → List ℕ → Segment → Type 0
IsMissing true sum log s = HasItsHeader sum log s → ⊥
IsMissing false sum log s = ⊥

-- and behind a segment that isn't read to its end; else this is given behind it
abbrev pub GivesBehind : Bool → ScanEnd → (List Item → Damage → Type 0) → List Item → Damage → Type 0
GivesBehind true Broken on items damage = (items ≡ []) × (damage ≡ None)
GivesBehind true Full on items damage = on items damage
GivesBehind true Capped on items damage = on items damage
GivesBehind false why on items damage = on items damage

-- What an iterator gives of these segments, up to an end, and at what damage it ends, if at any. Of a segment in which a damaged
-- record is met, before a batch that is open, it gives what lies ahead of that record, and ends there. A segment is read in one way; what is said of that is
-- said of whatever reading there is, so who knows what stands up to the end needs not know what stands behind it.
abbrev pub IsIteration : (List ℕ → ℕ) → ℕ → List ℕ → (ℤ → Option (List ℕ)) → ℕ → Bool → List Segment → List Item → Damage → Type 0
IsIteration sum size log blobs end strict [] items damage = (items ≡ []) × (damage ≡ None)
IsIteration sum size log blobs end strict (s ∷ ss) items damage =
    (IsMissing strict sum log s × (items ≡ []) × (damage ≡ None))
    ⊎ ((IsMissing strict sum log s → ⊥)
    × (((d : IsDamagedBefore sum size log end s) → GivesOf sum blobs end d.met (EndsAt end (s.place + d.next)) items damage)
    × ((x : Scanned) → x.segment ≡ s → IsReplayed sum size log end x
    → GivesOf sum blobs end x.met (GivesBehind strict x.why (IsIteration sum size log blobs end strict ss)) items damage)))

-- an error of damage says that no message is ahead of it, and that the damage is named so; a failure of the device and want of memory say nothing
abbrev pub SaysDamage : Error → List Item → Damage → Type 0
SaysDamage (Corruption at) items damage = (items ≡ []) × (damage ≡ Some at)
SaysDamage _ items damage = Unit {0}

-- what the next message is where these are ahead, and what is ahead then
abbrev pub NextGives : (List Item → Damage → Type 0) → List Item → Damage → Option (Result Item Error) → Type 0
NextGives ahead items damage (Some (Ok item)) = (rest : List Item) × (items ≡ item ∷ rest) × ahead rest damage
NextGives ahead items damage None = (items ≡ []) × (damage ≡ None)
NextGives ahead items damage (Some (Err e)) = SaysDamage e items damage

-- this is so behind the last message: where none came, and behind an error
abbrev pub BehindLast : Option (Result Item Error) → Type 0 → Type 0
BehindLast (Some (Ok item)) so = Unit {0}
BehindLast None so = so
BehindLast (Some (Err e)) so = so

-- why an error came in place of a message
abbrev pub NextAnswers : (List ℕ → ℕ) → (ℤ → Option (List ℕ)) → Option (Result Item Error) → ℕ → ℕ → Type 0
NextAnswers sum blobs None before after = after ≡ before
NextAnswers sum blobs (Some result) before after = ItemAnswers sum blobs result before after
