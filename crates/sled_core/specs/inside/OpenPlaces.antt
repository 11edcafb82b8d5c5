-- What proofs, and functions that no user calls, need beside `specs/OpenPlaces.antt`. No public contract names it.
use Rattle.std.specs.Prelude.{suc, ◌+◌, ◌&&◌, ℕ, if◌then◌else◌, List, [], ◌∷◌}
use Rattle.sled_core.specs.declared.iobuf.Reserved.{Reserved}
use Rattle.sled_core.specs.Begun.{SegmentView}
use Rattle.sled_core.specs.Buffers.{open_state}
use Rattle.sled_core.specs.Manifests.{is_manifest}

-- how many of those of a segment are of manifests
abbrev pub open_manifests_in : List Reserved → ℕ
open_manifests_in [] = 0
open_manifests_in (r ∷ rs) = if open_state r.state && is_manifest r.log_kind r.page then suc (open_manifests_in rs) else open_manifests_in rs

-- and of those of segments one behind another
abbrev pub open_manifests : List SegmentView → ℕ
open_manifests [] = 0
open_manifests (v ∷ vs) = open_manifests_in v.parts.reserved + open_manifests vs
