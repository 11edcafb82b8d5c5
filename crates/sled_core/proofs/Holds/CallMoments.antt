-- What a crash leaves stays recoverable over a call, also where that is torn, if it is recoverable behind the whole call.
use Rattle.std.proofs.Common.{ℕ, List, ◌∷◌}
use Rattle.sled_codec.specs.History.{History}
use Rattle.sled_store.specs.Device.{Event, State, Content, step, Crashed, Left, content_of, content_left, log_left, blobs_left, snapshots_left}
use Rattle.sled_store.specs.Answers.{Tears}
use Rattle.sled_store.specs.inside.Script.{Along}
use Rattle.sled_store.proofs.Crashes.LeavesLemmas.{Asked, before_leaves, torn_leaves}
use Rattle.sled_store.proofs.Crashes.ForeignLemmas.{Knows, own_log, own_names, before_knows, torn_knows, own_log_at_rest, own_names_at_rest}
use Rattle.sled_store.proofs.Traces.ScriptLemmas.{along_first}
use Rattle.sled_core.specs.Recoverable.{NoForeign}
use Rattle.sled_core.specs.inside.Lasting.{LeavesRecovering}

-- A content in which only the log's own writes pass by one state is such a one by each that knows more.
pub own_still : (sum : List ℕ → ℕ) (size : ℕ) (s t : State) (left : Content) → Knows s t → NoForeign sum size s left → NoForeign sum size t left
own_still sum size s t left knows own = record {
  log = own_log sum size s.log t.log s.placed t.placed left.log knows.log knows.placed own.log;
  blobs = own_names _ s.blobs t.blobs left.blobs knows.blobs own.blobs;
  snapshots = own_names _ s.snapshots t.snapshots left.snapshots knows.snapshots own.snapshots;
  zeros = own.zeros;
}

-- What a crash left is settled behind it, so what was the log's own in it is so still.
pub own_after_crash : (sum : List ℕ → ℕ) (size : ℕ) (left : Left) (s : State) → NoForeign sum size s (content_left left s) → NoForeign sum size (step (Crashed left) s) (content_of (step (Crashed left) s))
own_after_crash sum size left s own = record {
  log = own_log_at_rest sum size s.log s.placed (log_left left s.log) own.log;
  blobs = own_names_at_rest _ (blobs_left left s.blobs);
  snapshots = own_names_at_rest _ (snapshots_left left s.snapshots);
  zeros = own.zeros;
}

module _ (sum : List ℕ → ℕ) (size : ℕ) (H : History) (A f : ℕ) where
  -- what a crash leaves is recoverable
  abbrev P : State → Type 0
  P = LeavesRecovering sum size H A f

  -- before the call
  pub recoverable_before : (e : Event) (s : State) → Asked e → P (step e s) → P s
  recoverable_before e s asked after left leaves own = after left (before_leaves e s left asked leaves) (own_still sum size s (step e s) left (before_knows e s asked) own)

  -- where it was torn
  pub recoverable_torn : (e torn : Event) (s : State) → Asked e → Tears e torn → P (step e s) → P (step torn s)
  recoverable_torn e torn s asked tears after left leaves own = after left (torn_leaves e torn s left asked tears leaves) (own_still sum size (step torn s) (step e s) left (torn_knows e torn s asked tears) own)

  -- So it is recoverable along a list of calls that begins with this one, if it is along the rest.
  pub along_call : (e : Event) (es : List Event) (s : State) → Asked e → Along P es (step e s) → Along P (e ∷ es) s
  along_call e es s asked rest =
      let after = along_first P es (step e s) rest in
      (recoverable_before e s asked after, λ torn tears. recoverable_torn e torn s asked tears after, rest)
