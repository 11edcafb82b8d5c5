use Rattle.std.proofs.Common.{◌≡◌, drop, map}
use Rattle.sled_codec.specs.Snapshots.{page_of}
use Rattle.sled_log.specs.Recovery.{table_of, given, before_open, has_no_table, open_at}
use Rattle.sled_log.proofs.snapshot.page_table.apply_all.Given as goal

-- what is left makes of the table so far what all makes of the table before
abbrev pub invariant-loop-m : goal.invariant-loop-m
invariant-loop-m l =
    record {
      pages : table_of (map page_of l.pages.items) (given l.fn.least (before_open l.fn.end (drop l.m-index l.met))) ≡ table_of (map page_of l.fn.pages.items) (given l.fn.least (before_open l.fn.end l.met));
      fine : has_no_table (given l.fn.least (before_open l.fn.end (drop l.m-index l.met))) ≡ has_no_table (given l.fn.least (before_open l.fn.end l.met));
      stop : open_at l.fn.end (drop l.m-index l.met) ≡ open_at l.fn.end l.met;
    }
