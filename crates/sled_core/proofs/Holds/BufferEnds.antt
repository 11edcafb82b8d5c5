-- How far a buffer's bytes reach, and its sealed buffers.
use Rattle.std.proofs.Common.{◌≤◌, length, arith}
use Rattle.sled_core.specs.declared.iobuf.IoBuf.{IoBuf}
use Rattle.sled_core.proofs.Sealed.Ended.{ends_rise, ends_up}
use Rattle.sled_core.proofs.Sealed.LaidLemmas.{EndsRise}

-- what was written is no more than there is
pub written_behind : (b : IoBuf) → b.written_len ≤ length b.bytes.items
written_behind b = let low = ends_up b.written_len b.reserved.items b.sealed.items b.are in let at = b.begins in let le = b.behind in omega (arith, low, at, le)

-- the sealed buffers end one behind another, within what there is
pub sealed_rise : (b : IoBuf) → EndsRise b.written_len b.sealed.items (length b.bytes.items)
sealed_rise b = let at = b.begins in let le = b.behind in ends_rise b.written_len b.reserved.items b.sealed.items (length b.bytes.items) b.are (written_behind b) (omega (arith, at, le))
