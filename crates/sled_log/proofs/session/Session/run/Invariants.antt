-- The commands so far were carried out, and there is room for the replies to the others.
use Rattle.std.proofs.Common.{◌≡◌, ◌≤◌, Bool, length, take}
use Rattle.std.specs.Prelude.{vec_len, vec_capacity}
use Rattle.sled_log.specs.Devices.{Devices, StandsOver}
use Rattle.sled_log.specs.RunStates.{DeviceView, RunState}
use Rattle.sled_log.specs.Runs.{Runs}
use Rattle.sled_log.specs.RunPhases.{SomeStands, StandsAt, segment_size_in, view_by}
use Rattle.sled_log.proofs.session.Session.run.Given as goal

abbrev pub invariant-loop-command : goal.invariant-loop-command
invariant-loop-command g l =
    let view = view_by g.D.Device.trace g.D.Device.faults g.D.CrashDevice.is_stopped in
    let sum = g.C.Checksum.sum_of in
    record {
      runs : (a : RunState) → StandsAt view sum l.fn.self a → Runs sum (segment_size_in l.fn.self) (SomeStands g.row.D.Denot g.row.C.Denot view sum (segment_size_in l.fn.self)) a (take l.command-index l.commands) l.replies.items (StandsAt view sum l.self);
      devices : (on : Bool) (device : DeviceView) → StandsOver view l.fn.self on device → Devices sum (segment_size_in l.fn.self) on device (take l.command-index l.commands) l.replies.items (StandsOver view l.self);
      size : segment_size_in l.self ≡ segment_size_in l.fn.self;
      len : vec_len l.replies ≡ l.command-index;
      room : length l.commands ≤ vec_capacity l.replies;
    }
