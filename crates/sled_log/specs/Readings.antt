-- What the reading of the messages of a page comes to.
use Rattle.std.specs.Prelude.{◌≡◌, ◌<◌, ℕ, ℤ, pos, true, List, map, Contains, Result, Ok, Err, None, Some, Vec}
use Rattle.std.specs.List.{All}
use Rattle.std.specs.declared.alloc.Global.{Global}
use Rattle.sled_codec.specs.declared.result.DiskPtr.{DiskPtr}
use Rattle.sled_codec.specs.declared.result.Error.{Error}
use Rattle.sled_codec.specs.History.{History, Message, table}
use Rattle.sled_codec.specs.PageTables.{entry_of}
use Rattle.sled_codec.specs.Snapshots.{Entry}
use Rattle.sled_store.specs.Device.{Trace}
use Rattle.sled_core.specs.Marked.{BeginsMarked}
use Rattle.sled_core.specs.declared.logger.Log.{Log}
use Rattle.sled_core.specs.Fits.{device_of, given_up_of, reserved_end, segment_size_of, start_of}
use Rattle.sled_core.specs.Among.{AreAmong}
use Rattle.sled_core.specs.Keeps.{KeepsWriting}
use Rattle.sled_core.specs.ReadPointer.{place_read}
use Rattle.sled_core.specs.Recoverable.{NoHeaderOfZeros}
use Rattle.sled_core.specs.invariants.Running.{Fits}
use Rattle.sled_log.specs.declared.session.command.Reply.{Reply}
use Rattle.sled_log.specs.declared.session.command.Reply.TheVariants as reply
use Rattle.sled_log.specs.Made.{IsMade}
use Rattle.sled_log.specs.RunPhases.{HasHeads, Unstored, seen_log, traces}
use Rattle.sled_log.specs.RunStates.{DeviceView, LogView, RunState, is_present, top, with_log, MarkAt, heads_at}
use Rattle.sled_log.specs.ReadSteps.{FailsAt, ReadStep, BringsToDevice, read_around, read_at}

-- A log fits what a session keeps in mind, what it counts as given up was, its headers and fillings that aren't on the device are those that were begun, and
-- zeros pass as no header.
pub record IsRead {D C : Type 0} (trace : D → Trace) (sum : List ℕ → ℕ) (log : Log D C) (k : Unstored) : Type 0 where
  pub made : IsMade k.history
  pub zeros : NoHeaderOfZeros sum
  pub unmarked : List Message
  pub fits : Fits trace sum log k.history k.acknowledged k.floor unmarked
  pub given_up : AreAmong (given_up_of log) k.given_up
  pub heads : HasHeads sum log k.heads

-- A message of what a page is, that was reserved, as the place was that a read of it brings to the device.
pub record IsOfPage (H : History) (end page : ℕ) (m : Message) : Type 0 where
  pub there : Contains H.messages m
  pub entry : Contains (table H top m.page) m
  pub of : m.page ≡ page
  pub below : m.place < end
  pub read : place_read (pos m.place) m.pointer ≡ pos (read_at m)
  pub read_below : read_at m < end

-- What the read of a message comes to.
abbrev pub IsItem : {D C : Type 0} → (D → DeviceView) → (List ℕ → ℕ) → Log D C → LogView → Message → Log D C → LogView
    → Result (Vec ℕ Global) Error → Type 0
IsItem view sum old l m new l' (Ok item) =
    (item.items ≡ m.bytes) × (l.status.fault ≡ None) × (reads : BringsToDevice sum (segment_size_of old) l (read_at m) (view (device_of old)) (view (device_of new)))
    × (l' ≡ read_around (segment_size_of old) l (read_at m) reads.writes.buffers)
IsItem view sum old l m new l' (Err e) =
    l.status.fault ≡ None → (a : RunState)
    → FailsAt sum (segment_size_of old) a l (read_at m) e (view (device_of old)) (view (device_of new)) (with_log a (view (device_of new)) (Some l'))

-- A message of what a page is was read, where its place and its pointer were given, or that failed.
pub record ReadsItem {D C : Type 0} (view : D → DeviceView) (sum : List ℕ → ℕ) (old : Log D C) (page : ℕ) (place : ℤ) (pointer : DiskPtr)
    (new : Log D C) (result : Result (Vec ℕ Global) Error) : Type 0 where
  pub only : KeepsWriting (traces view) sum old new
  pub marked : BeginsMarked sum old new
  pub item : (k : Unstored) (m : Message) (begun : ℕ) → IsRead (traces view) sum old k → IsOfPage k.history (reserved_end old) page m
      → pos m.place ≡ place → m.pointer ≡ pointer
      → let l = seen_log old begun k.tickets k.given_up k.heads in
      IsItem view sum old l m new (seen_log new begun k.tickets k.given_up (heads_at l (start_of new))) result

-- what is told of the messages of a page that were read
abbrev pub page_told : Result (Vec (Vec ℕ Global) Global) Error → Reply
page_told (Ok items) = reply.Page items
page_told (Err e) = reply.Failed e

-- The messages of what a page is were read, where their entries were given, or that failed.
pub record ReadsEntries {D C : Type 0} (view : D → DeviceView) (sum : List ℕ → ℕ) (old : Log D C) (page : ℕ) (entries : List Entry) (new : Log D C)
    (result : Result (Vec (Vec ℕ Global) Global) Error) : Type 0 where
  pub only : KeepsWriting (traces view) sum old new
  pub step : (k : Unstored) (ms : List Message) (begun : ℕ) (a : RunState) → IsRead (traces view) sum old k
      → All (IsOfPage k.history (reserved_end old) page) ms → map entry_of ms ≡ entries → is_present ms ≡ true
      → a.device ≡ view (device_of old) → a.log ≡ Some (seen_log old begun k.tickets k.given_up k.heads)
      → (heads : List MarkAt) × HasHeads sum new heads
      × ReadStep sum (segment_size_of old) a (seen_log old begun k.tickets k.given_up k.heads) ms (page_told result) (view (device_of new))
      (with_log a (view (device_of new)) (Some (seen_log new begun k.tickets k.given_up heads)))
