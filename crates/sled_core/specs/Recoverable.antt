-- When a recovery can go on from a content without losing what was acknowledged: the invariant behind the headline.
-- Its parts, over snapshots, the log file and blobs, share only the history, the end of what was acknowledged, the floor and the cuts.
use Rattle.std.specs.Prelude.{ℕ, List}
use Rattle.sled_codec.specs.History.{History}
use Rattle.sled_store.specs.Device.{Content, State}
use Rattle.sled_store.specs.Foreign.{NoForeignLog}
use Rattle.sled_store.specs.Moments.{AllLeft}
pub use Rattle.sled_core.specs.NoForeign.{NoForeign, NoHeaderOfZeros}
use Rattle.sled_core.specs.OwnNames.{ReadsStayOwn}
use Rattle.sled_core.specs.invariants.Lasting.{Lasts}
use Rattle.sled_core.specs.invariants.Recoverable.{Recoverable}

-- What is read now is the log's own: only what the log itself wrote passes as its own in the log file, and under the names whose bytes are synced; and
-- zeros pass as no header. So it is where nothing that is read is foreign. (Of a file that was never synced nothing is asked: a call that failed may have
-- left any bytes in it, and no message of a log names it.)
pub record ReadsOnlyOwn (sum : List ℕ → ℕ) (size : ℕ) (s : State) : Type 0 where
  pub log : NoForeignLog sum size s.log s.placed s.log.bytes
  pub names : ReadsStayOwn sum s
  pub zeros : NoHeaderOfZeros sum

-- A content in which only what the log itself wrote passes as its own is recoverable. And what goes on from it lasts: in no slot that it needs comes a number
-- again that the log had used there.
abbrev pub RecoverableIfOwn : (List ℕ → ℕ) → ℕ → History → ℕ → ℕ → State → Content → Type 0
RecoverableIfOwn sum size H A f past left = NoForeign sum size past left → Recoverable sum size left H A f × Lasts sum size past H A f

-- What a crash now may leave can be recovered.
abbrev pub LeavesRecoverable : (List ℕ → ℕ) → ℕ → History → ℕ → ℕ → State → Type 0
LeavesRecoverable sum size H A f = AllLeft (RecoverableIfOwn sum size H A f)
