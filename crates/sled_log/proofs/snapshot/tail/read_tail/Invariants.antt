use Rattle.std.proofs.Common.{◌≡◌, ◌+◌, ◌%◌, ◌≤◌, true, drop, take, map, IfSome}
use Rattle.std.specs.List.{All}
use Rattle.sled_store.specs.Device.{state_of}
use Rattle.sled_log.specs.Recovery.{IsTailPart, AreScanned, is_ascending, tail_end}
use Rattle.sled_log.specs.Passes.{IsPass, pass_of}
use Rattle.sled_log.proofs.Passes.TailRead.{EndsBefore}
use Rattle.sled_log.proofs.snapshot.tail.read_tail.Given as goal

-- the tail up to the place was read, of the segments so far; the others begin there or above
abbrev pub invariant-loop-segment : goal.invariant-loop-segment
invariant-loop-segment g l =
    record {
      read : IsTailPart g.C.Checksum.sum_of l.fn.config.config.segment_size (state_of (g.D.Device.trace l.fn.config.device)).log.bytes l.segments l.fn.begin (map pass_of l.passes.items) l.place;
      scanned : AreScanned g.C.Checksum.sum_of l.fn.config.config.segment_size (state_of (g.D.Device.trace l.fn.config.device)).log.bytes (take l.segment-index l.segments) (map pass_of l.passes.items);
      ends : tail_end (map pass_of l.passes.items) ≡ l.end;
      end : IfSome l.end (EndsBefore l.fn.config.config.segment_size l.place);
      before : All (λ s. s.place + l.fn.config.config.segment_size ≤ l.place) (take l.segment-index l.segments);
      left : All (λ s. (s.place % l.fn.config.config.segment_size ≡ 0) × (l.place ≤ s.place)) (drop l.segment-index l.segments);
      ascending : is_ascending (drop l.segment-index l.segments) ≡ true;
      aligned : l.place % l.fn.config.config.segment_size ≡ 0;
      fits : All (IsPass l.fn.config.config.segment_size) l.passes.items;
      size : l.size ≡ l.fn.config.config.segment_size;
      trace : g.D.Device.trace l.config.device ≡ g.D.Device.trace l.fn.config.device;
      faults : g.D.Device.faults l.config.device ≡ g.D.Device.faults l.fn.config.device;
      config : l.config.config ≡ l.fn.config.config;
      checksum : l.config.checksum ≡ l.fn.config.checksum;
    }
