-- Where a message lies.
use Rattle.std.specs.Prelude.{ℕ, List, ◌∷◌, ◌++◌}
use Rattle.std.specs.Fmt.{decimal, signed_decimal}
use Rattle.sled_codec.specs.declared.result.DiskPtr.{DiskPtr}
use Rattle.sled_codec.specs.declared.result.DiskPtr.TheVariants.{Inline, Blob}

-- the offset of its record
abbrev pub lid_of : DiskPtr → ℕ
lid_of (Inline lid) = lid
lid_of (Blob lid place) = lid

-- what is printed for it: the offset, and behind a colon the place of the blob
abbrev pub pointer_text : DiskPtr → List ℕ
pointer_text (Inline lid) = decimal lid
pointer_text (Blob lid place) = decimal lid ++ 58 ∷ signed_decimal place
