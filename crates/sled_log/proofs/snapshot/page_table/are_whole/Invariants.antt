use Rattle.std.proofs.Common.{◌≡◌, drop, map}
use Rattle.sled_codec.specs.Snapshots.{page_of}
use Rattle.sled_log.specs.Recovery.{are_whole}
use Rattle.sled_log.proofs.snapshot.page_table.are_whole.Given as goal

-- what is left decides
abbrev pub invariant-loop-page : goal.invariant-loop-page
invariant-loop-page l = are_whole (map page_of (drop l.page-index l.pages)) ≡ are_whole (map page_of l.pages)
