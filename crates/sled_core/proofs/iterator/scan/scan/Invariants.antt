use Rattle.std.proofs.Common.{◌+◌, ◌-◌, ◌≡◌, ◌≤◌, ◌<◌, ◌%◌, ◌^◌}
use Rattle.std.specs.List.{All}
use Rattle.sled_core.specs.Reading.{file_of}
use Rattle.sled_core.specs.Scan.{IsPath}
use Rattle.sled_core.proofs.iterator.scan.scan.Given as goal

-- what was met so far leads to where the reading stands, and the bytes are as they were
abbrev pub invariant-loop-stop : goal.invariant-loop-stop
invariant-loop-stop g l =
    record {
      path : IsPath g.C.Checksum.sum_of l.config.config.segment_size (file_of l.fn.buf) l.fn.buf.offset l.fn.place 20 l.met.items l.stop;
      behind : 20 ≤ l.stop;
      within : l.stop ≤ l.config.config.segment_size;
      places : All (λ m. m.place < l.fn.place + l.config.config.segment_size) l.met.items;
      bytes : l.buf.buf.items ≡ l.fn.buf.buf.items;
      offset : l.buf.offset ≡ l.fn.buf.offset;
      place : l.fn.place + l.config.config.segment_size < 2 ^ 63;
      slot : l.buf.offset + l.config.config.segment_size < 2 ^ 63;
      aligned : l.buf.offset % l.config.config.segment_size ≡ 0;
    }

abbrev pub decreases-loop-stop : goal.decreases-loop-stop
decreases-loop-stop g l = l.last + 1 - l.stop
