-- Nothing is foreign in a log file just where each of its slots is the log's own.
use Rattle.std.proofs.Common.{◌≡◌, ◌≤◌, ◌<◌, ◌+◌, ◌-◌, ◌*◌, ◌/◌, ◌∙◌, ℕ, ℤ, pos, List, length, take, drop, sym, ap, subst, arith, length-take, length-drop}
use Rattle.std.proofs.Math.Nat.{lt-div-mul-add, mul-le-mul_right}
use Rattle.sled_codec.specs.Places.{part}
use Rattle.sled_codec.specs.Record.{IsHeader}
use Rattle.sled_codec.proofs.Segments.{one_header, length-short_header}
use Rattle.sled_store.specs.Device.{LogState, Placement}
use Rattle.sled_store.specs.Foreign.{NoForeignLog}
use Rattle.sled_store.specs.Readers.{Reads}
use Rattle.sled_oracle.specs.OwnParts.{IsOwnRecord, AreOwnFrom, IsOwnHeader, IsOwnSlot, IsOwnBegun}
use Rattle.sled_store.proofs.Own.SlotLemmas.{part_in_slot}

-- a slot from the last one on that has room for a header has none
pub slot_beyond : (n size last k : ℕ) → 0 < size → 20 ≤ n → (n - 20) / size + 1 ≤ last → last ≤ k → n < k * size + 20
slot_beyond n size last k some long past below =
    let q : ℕ = (n - 20) / size in
    let up : q + 1 ≤ k = omega (arith, past, below) in
    omega (arith, lt-div-mul-add {a = n - 20} {b = size} some, mul-le-mul_right {m = q + 1} {n = k} size up, long)

module _ (sum : List ℕ → ℕ) (size : ℕ) (past : LogState) (placed : List Placement) where
  -- Where no header begins a slot, it is the log's own.
  pub own_unbegun : (log : List ℕ) (slot : ℕ) → ((lsn mark : ℤ) → IsHeader sum (part log (slot * size) 20) lsn mark → ⊥) → IsOwnSlot sum size past placed log slot
  own_unbegun log slot none = record {
    header = λ lsn mark is. absurd (none lsn mark is);
    records = λ lsn mark is. absurd (none (pos lsn) mark is);
  }

  -- Where one does, the slot is the log's own by that header.
  module _ (log : List ℕ) (slot : ℕ) (rest : List ℕ) (rest_is : rest ≡ drop (slot * size) log) (place mark : ℤ) (is : IsHeader sum (take 20 rest) place mark) where
    header_there : IsHeader sum (part log (slot * size) 20) place mark
    header_there = subst (λ (l : List ℕ). IsHeader sum (take 20 l) place mark) rest_is is

    pub own_begun : IsOwnBegun sum size past placed (slot * size) rest place → IsOwnSlot sum size past placed log slot
    own_begun own = record {
      header = λ lsn mark' other. subst (λ (l : List ℕ). IsOwnHeader past placed (slot * size) (take 20 l)) rest_is own.header;
      records = λ lsn mark' other.
          let same = one_header sum (part log (slot * size) 20) place mark (pos lsn) mark' header_there other in
          subst (λ (l : List ℕ). AreOwnFrom sum size past placed (lsn / size) (slot * size) (take size l) 20) rest_is (own.records lsn same.0);
    }

    pub begun_own : IsOwnSlot sum size past placed log slot → IsOwnBegun sum size past placed (slot * size) rest place
    begun_own own = record {
      header = subst (λ (l : List ℕ). IsOwnHeader past placed (slot * size) (take 20 l)) (sym rest_is) (own.header place mark header_there);
      records = λ lsn place_is.
          subst (λ (l : List ℕ). AreOwnFrom sum size past placed (lsn / size) (slot * size) (take size l) 20) (sym rest_is) (own.records lsn mark (subst (λ (z : ℤ). IsHeader sum (part log (slot * size) 20) z mark) place_is header_there));
    }

  -- A slot whose header is the log's own is, where its records are.
  module _ (begin : ℕ) (rest : List ℕ) (place : ℤ) (lsn : ℕ) (is : place ≡ pos lsn) (header : IsOwnHeader past placed begin (take 20 rest)) where
    pub own_by_records : AreOwnFrom sum size past placed (lsn / size) begin (take size rest) 20 → IsOwnBegun sum size past placed begin rest place
    own_by_records own = record {
      header = header;
      records = λ other other_is. let same : lsn ≡ other = cc in subst (λ n. AreOwnFrom sum size past placed (n / size) begin (take size rest) 20) same own;
    }

    pub records_own : IsOwnBegun sum size past placed begin rest place → AreOwnFrom sum size past placed (lsn / size) begin (take size rest) 20
    records_own own = own.records lsn is

  -- A slot without room for a header is the log's own.
  pub own_short : (log : List ℕ) (slot : ℕ) → length log < slot * size + 20 → IsOwnSlot sum size past placed log slot
  own_short log slot short = own_unbegun log slot (λ lsn mark is.
      let long : length (part log (slot * size) 20) ≡ 20 = ap length is.is ∙ length-short_header sum lsn mark in
      absurd (omega (arith, long, short, length-take 20 (drop (slot * size) log), length-drop (slot * size) log)))

  -- what is read of a slot is a part of the file
  read_in_slot : (log : List ℕ) (slot number at len : ℕ) → Reads sum size number (part log (slot * size) size) 20 at len → part (part log (slot * size) size) at len ≡ part log (slot * size + at) len
  read_in_slot log slot number at len r = let inside = r.inside in part_in_slot log size (slot * size) at len (omega (arith, inside, length-take size (drop (slot * size) log)))

  -- each slot, and the file
  pub own_file : (log : List ℕ) → ((slot : ℕ) → IsOwnSlot sum size past placed log slot) → NoForeignLog sum size past placed log
  own_file log own = record {
    headers = λ slot lsn mark is. (own slot).header lsn mark is;
    records = λ slot lsn mark at len is r. subst (λ (l : List ℕ). IsOwnRecord sum size past placed (lsn / size) (slot * size + at) l) (read_in_slot log slot (lsn / size) at len r) ((own slot).records lsn mark is at len r);
  }

  pub slots_own : (log : List ℕ) → NoForeignLog sum size past placed log → (slot : ℕ) → IsOwnSlot sum size past placed log slot
  slots_own log own slot = record {
    header = λ lsn mark is. own.headers slot lsn mark is;
    records = λ lsn mark is at len r. subst (λ (l : List ℕ). IsOwnRecord sum size past placed (lsn / size) (slot * size + at) l) (sym (read_in_slot log slot (lsn / size) at len r)) (own.records slot lsn mark at len is r);
  }
