-- The messages of the entries so far are read, and there is room for the items of the others.
use Rattle.std.proofs.Common.{Bool, ◌≡◌, ◌∷◌, length, drop, ◌+◌, ◌≤◌}
use Rattle.std.specs.Prelude.{vec_len, vec_capacity}
use Rattle.sled_log.specs.LogActs.{ReadsSomeOver}
use Rattle.sled_log.specs.RunPhases.{view_by}
use Rattle.sled_log.proofs.Sessions.Reading.{HasReadSome}
use Rattle.sled_log.proofs.session.reading.read_entries.Given as goal

abbrev pub invariant-loop-frag : goal.invariant-loop-frag
invariant-loop-frag g l = record {
  some : (stopped : g.row.D.Denot → Bool) → HasReadSome (view_by g.D.Device.trace g.D.Device.faults stopped) g.C.Checksum.sum_of l.fn.log l.page (l.base ∷ l.frags) l.log l.items.items (drop l.frag-index l.frags);
  acts : (stopped : g.row.D.Denot → Bool) → ReadsSomeOver (view_by g.D.Device.trace g.D.Device.faults stopped) g.C.Checksum.sum_of l.fn.log l.page l.log l.items.items;
  len : vec_len l.items ≡ l.frag-index + 1;
  room : length l.frags + 1 ≤ vec_capacity l.items;
}
