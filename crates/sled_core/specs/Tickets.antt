-- What a ticket says.
use Rattle.std.specs.Prelude.{◌≡◌, ◌+◌, ℕ, ℤ, pos, Bool, Option}
use Rattle.sled_core.specs.declared.iobuf.ReservationState.TheVariants.{Open}
use Rattle.sled_core.specs.declared.iobuf.Reserved.{Reserved}
use Rattle.sled_core.specs.declared.iobuf.SegmentPosition.{SegmentPosition}
use Rattle.sled_codec.specs.declared.result.DiskPtr.{DiskPtr}
use Rattle.sled_core.specs.declared.reservation.Reservation.{Reservation}
use Rattle.sled_core.specs.Buffers.{pointer_as}
use Rattle.sled_core.specs.Manifests.{is_manifest}

-- where the record begins in the log
abbrev pub place_of : Reservation → ℤ
place_of ticket = ticket.lsn

-- where the message lies on the disk
abbrev pub pointer_of : Reservation → DiskPtr
pointer_of ticket = ticket.pointer

-- which reservation of its buffer it is
abbrev pub index_of : Reservation → ℕ
index_of ticket = ticket.index

-- how long its record is
abbrev pub len_of : Reservation → ℕ
len_of ticket = ticket.len

-- whether it is of the manifest of a batch
abbrev pub is_manifest_of : Reservation → Bool
is_manifest_of ticket = ticket.is_manifest

-- the blob that its reservation made for its item, if it made one; the item of a rewritten pointer stays where an earlier message put it
abbrev pub own_blob : Reservation → Option ℤ
own_blob ticket = ticket.own_blob

-- a place and a pointer are those that a ticket says
abbrev pub IsPlaceOf : Reservation → ℤ × DiskPtr → Type 0
IsPlaceOf ticket at = (at.0 ≡ place_of ticket) × (at.1 ≡ pointer_of ticket)

-- a ticket is for this reservation in the segment that lies there, and that is open
pub record IsFor (site : SegmentPosition) (r : Reserved) (ticket : Reservation) : Type 0 where
  pub open_yet : r.state ≡ Open
  pub place : place_of ticket ≡ pos (site.place + r.from)
  pub pointer : pointer_of ticket ≡ pointer_as r.blob (site.slot + r.from)
  pub long : len_of ticket ≡ r.len
  pub manifest : is_manifest_of ticket ≡ is_manifest r.log_kind r.page
