use Rattle.std.proofs.Common.{◌+◌, ◌-◌, ◌%◌, ◌^◌, ◌≡◌, ◌≤◌, ◌<◌, None}
use Rattle.std.specs.List.{All}
use Rattle.sled_core.specs.declared.iterator.scan.ScanEnd.TheVariants.{Full}
use Rattle.sled_core.specs.Reading.{file_of}
use Rattle.sled_core.specs.Scan.{IsPath}
use Rattle.sled_core.specs.Tail.{open_at}
use Rattle.sled_core.proofs.iterator.records.scan_into.Given as goal

-- what was met so far leads to where the reading stands, no batch is open in it, and the bytes are as they were
abbrev pub invariant-loop-scan : goal.invariant-loop-scan
invariant-loop-scan g l =
    record {
      path : IsPath g.C.Checksum.sum_of l.config.config.segment_size (file_of l.fn.buf) l.segment.slot l.segment.place 20 l.scan.met.items l.scan.stop;
      closed : open_at l.fn.end l.scan.met.items ≡ None;
      behind : 20 ≤ l.scan.stop;
      within : l.scan.stop ≤ l.config.config.segment_size;
      places : All (λ m. m.place < l.segment.place + l.config.config.segment_size) l.scan.met.items;
      bytes : l.buf.buf.items ≡ l.fn.buf.buf.items;
      offset : l.buf.offset ≡ l.fn.buf.offset;
      ending : l.scan.ending ≡ Full;
      place : l.segment.place + l.config.config.segment_size < 2 ^ 63;
      slot : l.buf.offset + l.config.config.segment_size < 2 ^ 63;
      aligned : l.buf.offset % l.config.config.segment_size ≡ 0;
    }

abbrev pub decreases-loop-scan : goal.decreases-loop-scan
decreases-loop-scan g l = l.last + 1 - l.scan.stop
