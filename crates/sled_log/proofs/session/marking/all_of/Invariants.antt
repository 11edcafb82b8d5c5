-- The entries so far are told, and there is room for the others.
use Rattle.std.proofs.Common.{◌≡◌, ◌∷◌, length, map, take, ◌+◌, ◌≤◌}
use Rattle.std.specs.Prelude.{vec_len, vec_capacity}
use Rattle.sled_store.specs.Marks.{told_of}
use Rattle.sled_log.proofs.session.marking.all_of.Given as goal

abbrev pub invariant-loop-frag : goal.invariant-loop-frag
invariant-loop-frag l = record {
  list : l.old.items ≡ told_of l.base ∷ map told_of (take l.frag-index l.frags);
  len : vec_len l.old ≡ l.frag-index + 1;
  room : length l.frags + 1 ≤ vec_capacity l.old;
}
