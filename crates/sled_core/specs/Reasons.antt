-- The reasons for which a call of a log fails, each with what is so then.
use Rattle.std.specs.declared.io.Error.{Error as IoError}
use Rattle.std.specs.Prelude.{◌≡◌, ◌⊎◌, ℕ, ℤ, pos, [], Option, None, Some, IsSome}
use Rattle.std.specs.String.{string_bytes}
use Rattle.sled_codec.specs.declared.result.Error.{Error}
use Rattle.sled_codec.specs.declared.result.Error.TheVariants.{Held, Io, OutOfMemory, PlacesUsedUp, Unsupported}
use Rattle.sled_core.specs.Buffers.{most_open}
use Rattle.sled_core.specs.Causes.{HasRecordPlace, IsBlobRefused, IsFault, NoFault, ReserveCauses}

-- the failure that the log keeps
abbrev pub TellsOf : Option IoError → Error → Type 0
TellsOf fault e = (x : IoError) × (e ≡ Io x) × (fault ≡ Some x)

-- A call that writes buffers: the device, memory, no further segment in reach, or an open reservation.
abbrev pub WriteFails : Option ℕ → Type 0 → Option IoError → Option IoError → ℕ → ℕ → Error → Type 0
WriteFails held used old new before after e =
    ((x : IoError) × (e ≡ Io x) × IsFault x old new before after)
    ⊎ ((e ≡ OutOfMemory) × (used → ⊥) × (old ≡ None) × (new ≡ None) × (after ≡ before))
    ⊎ ((e ≡ PlacesUsedUp) × used × (old ≡ None) × (new ≡ None) × (after ≡ before))
    ⊎ ((place : ℕ) × (e ≡ Held (pos place)) × (held ≡ Some place) × (used → ⊥) × (old ≡ None) × (new ≡ None) × (after ≡ before))

-- the page has no messages of this kind, which is told with an empty text
abbrev pub HasNoKind : Error → Type 0
HasNoKind (Unsupported text) = string_bytes text ≡ []
HasNoKind _ = ⊥

-- A reservation: what the log keeps or its blob, a kind that the page has no messages of, no further segment in reach, too many open ones, or memory.
abbrev pub ReserveFails : Type 0 → (ℤ → Type 0) → ReserveCauses → Error → Type 0
ReserveFails used least at e =
    ((x : IoError) × (e ≡ Io x) × (((at.old ≡ Some x) × (at.new ≡ Some x) × (at.after ≡ at.before)) ⊎ IsBlobRefused x used at))
    ⊎ (HasNoKind e × NoFault at × (at.kind ≡ None))
    ⊎ ((e ≡ PlacesUsedUp) × NoFault at × IsSome at.kind × used)
    ⊎ ((place : ℤ) × (e ≡ Held place) × NoFault at × IsSome at.kind × (used → ⊥) × (at.open_count ≡ most_open) × least place)
    ⊎ ((e ≡ OutOfMemory) × NoFault at × HasRecordPlace used at)
