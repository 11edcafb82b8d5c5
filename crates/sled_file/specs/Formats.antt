-- How a folder's log is written, and why a folder isn't opened.
use Rattle.std.specs.Prelude.{◌≡◌, ◌≢◌, ◌<◌, ℕ, List, codes, ⊤}
use Rattle.std.specs.String.{string_bytes}
use Rattle.sled_file.specs.declared.opening.error.OpenError.{OpenError}
use Rattle.sled_file.specs.declared.opening.error.OpenError.TheVariants.{Locked, Io, OtherSize, OtherChecksum, OtherVersion, BadConfig, NoConfig, OutOfMemory}

-- the names of the two checksums
abbrev pub of_crc32 : List ℕ
of_crc32 = codes "crc32"

abbrev pub of_log_crc32 : List ℕ
of_log_crc32 = codes "crc32-log"

-- the version that is written, and read
abbrev pub version : ℕ
version = 2

-- The error of an opening with this size of segments and under the checksum of this name has its cause.
abbrev pub IsRefused : ℕ → List ℕ → OpenError → Type 0
IsRefused size name (OtherSize path kept asked) = (asked ≡ size) × (kept ≢ size)
IsRefused size name (OtherChecksum path kept asked) = (asked.now ≡ name) × (string_bytes kept ≢ name)
IsRefused size name (OtherVersion path other) = other ≢ version
IsRefused size name (NoConfig path len) = (0 < len) × (name ≢ of_crc32)
IsRefused size name e = ⊤

-- The error of who reads the file `config` alone.
abbrev pub IsUnread : OpenError → Type 0
IsUnread (OtherVersion path other) = other ≢ version
IsUnread (BadConfig path) = ⊤
IsUnread (Io path doing error) = ⊤
IsUnread OutOfMemory = ⊤
IsUnread e = ⊥

-- The error of a call on the files, which no format has to do with.
abbrev pub IsOfFiles : OpenError → Type 0
IsOfFiles (Locked path) = ⊤
IsOfFiles (Io path doing error) = ⊤
IsOfFiles OutOfMemory = ⊤
IsOfFiles e = ⊥
