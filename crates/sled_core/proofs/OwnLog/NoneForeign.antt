-- In a settled log file nothing is foreign just where what is read of each slot was placed.
use Rattle.std.proofs.Common.{◌+◌, ◌*◌, ◌/◌, ℕ, List, drop, inl}
use Rattle.sled_codec.specs.Places.{part}
use Rattle.sled_store.specs.Device.{LogState, Placement, at_rest, settled_again}
use Rattle.sled_store.specs.Foreign.{HeaderWasPlaced, IsWhole, NoForeignLog, RecordWasPlaced}
use Rattle.sled_store.proofs.Crashes.ForeignLemmas.{take_again}
use Rattle.sled_store.proofs.Crashes.StoodLemmas.{header_before, header_settled, record_before, record_settled}
use Rattle.sled_core.specs.inside.OwnLog.{ReadsOwn}

module _ (sum : List ℕ → ℕ) (size : ℕ) (placed : List Placement) (log : List ℕ) where
  abbrev pub WasPlaced : ℕ → Type 0
  WasPlaced slot = ReadsOwn sum size (HeaderWasPlaced placed) (RecordWasPlaced sum size placed) log slot

  pub none_foreign : ((slot : ℕ) → WasPlaced slot) → NoForeignLog sum size (at_rest log) placed log
  unfolding IsWhole
  none_foreign own = record {
    headers = λ slot lsn mark is. ((own slot).header lsn mark is, inl (take_again 20 (drop (slot * size) log)));
    records = λ slot lsn mark at len is r. ((own slot).records lsn mark at len is r, inl (take_again len (drop (slot * size + at) log)));
  }

  pub was_placed : (past : LogState) → NoForeignLog sum size past placed log → (slot : ℕ) → WasPlaced slot
  was_placed past own slot = record { header = λ lsn mark is. (own.headers slot lsn mark is).0; records = λ lsn mark at len is r. (own.records slot lsn mark at len is r).0 }

-- What was placed goes by what was settled since: so in the one of two files that was settled nothing is foreign where it isn't by the other one.
pub resettled : (sum : List ℕ → ℕ) (size : ℕ) (one other : List ℕ) (placed : List Placement)
    → ((slot : ℕ) → WasPlaced sum size (settled_again other placed) one slot) → (slot : ℕ) → WasPlaced sum size (settled_again one placed) one slot
resettled sum size one other placed own slot = record {
  header = λ lsn mark is.
      let text : List ℕ = part one (slot * size) 20 in
      header_settled one placed (slot * size) text (header_before other placed (slot * size) text ((own slot).header lsn mark is))
      (take_again 20 (drop (slot * size) one));
  records = λ lsn mark at len is r.
      let text : List ℕ = part one (slot * size + at) len in
      record_settled sum size one placed (lsn / size) (slot * size + at) text
      (record_before sum size other placed (lsn / size) (slot * size + at) text ((own slot).records lsn mark at len is r))
      (take_again len (drop (slot * size + at) one));
}
