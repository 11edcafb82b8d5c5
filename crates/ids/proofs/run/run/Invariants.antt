-- The commands so far were carried out, and there is room for the replies to the others.
use Rattle.std.proofs.Common.{◌≡◌, ◌≤◌, ℕ, None, length, take}
use Rattle.std.specs.Prelude.{vec_len, vec_capacity}
use Rattle.sled_core.specs.Keeps.{ConfigKept}
use Rattle.sled_store.specs.Device.{state_of}
use Rattle.ids.specs.Bounds.{GivesFrom}
use Rattle.sled_log.specs.RunPhases.{view_by}
use Rattle.ids.specs.IdDevices.{Devices}
use Rattle.ids.specs.IdPhases.{IsOver, SomeStands, SomeUsedUp, StandsAt, running_in}
use Rattle.ids.specs.IdRuns.{IdRuns, begins_at}
use Rattle.ids.proofs.run.run.Given as goal

abbrev pub invariant-loop-command : goal.invariant-loop-command
invariant-loop-command g l =
    let view = view_by g.D.Device.trace g.D.Device.faults g.D.CrashDevice.is_stopped in
    let sum = g.C.Checksum.sum_of in
    let size : ℕ = l.fn.config.config.segment_size in
    record {
      runs : (n most : ℕ) → GivesFrom sum size n most (state_of (g.D.Device.trace l.fn.config.device))
          → IdRuns sum size (SomeStands g.row.D.Denot g.row.C.Denot view sum size) (SomeUsedUp g.row.D.Denot g.row.C.Denot view sum size)
          (begins_at (view l.fn.config.device) n most) (take l.command-index l.commands) l.replies.items (StandsAt view sum l.phase);
      devices : Devices sum size None (view l.fn.config.device) (take l.command-index l.commands) l.replies.items (IsOver view l.phase);
      kept : ConfigKept l.fn.config (running_in l.phase);
      len : vec_len l.replies ≡ l.command-index;
      room : length l.commands ≤ vec_capacity l.replies;
    }
