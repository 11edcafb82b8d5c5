-- What recovery does to a log file leaves own what is read of each slot: it writes zeros over the rest of a segment, from where its records end, and over whole segments, and syncs each time.
use Rattle.std.proofs.Common.{◌≡◌, ◌≢◌, ◌≤◌, ◌<◌, ◌+◌, ◌*◌, ◌/◌, ℕ, ℤ, pos, List, length, replicate, sym, subst, arith, inl, inr}
use Rattle.std.proofs.lemmas.Bool.{cases_order}
use Rattle.std.proofs.lemmas.List.{length-replicate}
use Rattle.sled_codec.specs.Places.{part}
use Rattle.sled_codec.specs.Record.{IsHeader}
use Rattle.sled_store.specs.Device.{State}
use Rattle.sled_store.specs.Foreign.{HeaderWasPlaced, RecordWasPlaced}
use Rattle.sled_store.specs.Readers.{ReadsTo}
use Rattle.sled_core.specs.inside.OwnLog.{ReadsPlaced}
use Rattle.sled_core.specs.Recoverable.{NoHeaderOfZeros}
use Rattle.sled_core.proofs.OwnLog.NoneForeign.{WasPlaced}
use Rattle.sled_core.proofs.OwnLog.Placed.{headers_stay, records_stay, synced}
use Rattle.sled_core.proofs.OwnLog.Zeroed.{other_own, own_read, slot_filled, slot_zeroed}

module _ (sum : List ℕ → ℕ) (size : ℕ) (none : NoHeaderOfZeros sum) (big : 32 ≤ size) where
  module _ (s : State) (slot from count : ℕ) (all : from + count ≡ size) (few : 0 < count) (there : slot * size ≤ length s.log.bytes) where
    abbrev zeros : List ℕ
    zeros = replicate count 0

    -- the device once they are written and synced
    abbrev pub filled : State
    filled = synced sum size s (slot * size + from) zeros

    long : length zeros ≡ count
    long = length-replicate {A = ℕ} count 0

    some : 0 < length zeros
    some = let l = long in omega (arith, l, few)

    twenty : 20 ≤ size
    twenty = omega (arith, big)

    others : (j : ℕ) → j ≢ slot → WasPlaced sum size s.placed s.log.bytes j → WasPlaced sum size filled.placed filled.log.bytes j
    others j other own =
        let l = long in
        other_own sum size (HeaderWasPlaced s.placed) (HeaderWasPlaced filled.placed) (RecordWasPlaced sum size s.placed) (RecordWasPlaced sum size filled.placed) s.log.bytes (slot * size + from) zeros some twenty
        (headers_stay sum size s (slot * size + from) zeros some twenty) (records_stay sum size s (slot * size + from) zeros some twenty) slot (omega arith) (omega (arith, l, all)) there j other own

    each : WasPlaced sum size filled.placed filled.log.bytes slot → ReadsPlaced sum size s → ReadsPlaced sum size filled
    each this own j = elim (cases_order j slot) [
      | inl same ↦ subst (WasPlaced sum size filled.placed filled.log.bytes) (sym same) this
      | inr differs ↦ others j (λ same. elim differs [ inl lower ↦ omega (arith, lower, same) | inr higher ↦ omega (arith, higher, same) ]) (own j)
    ]

    -- The rest of a segment, behind its records.
    pub rest_filled : (place : ℕ) (mark : ℤ) → IsHeader sum (part s.log.bytes (slot * size) 20) (pos place) mark → 20 ≤ from → from ≤ length (part s.log.bytes (slot * size) size) → ReadsTo sum size (place / size) (part s.log.bytes (slot * size) size) 20 from
        → ReadsPlaced sum size s → ReadsPlaced sum size filled
    rest_filled place mark header low inside comes own =
        each
        (own_read sum size (HeaderWasPlaced filled.placed) (RecordWasPlaced sum size filled.placed) filled.log.bytes slot
        (slot_filled sum size (HeaderWasPlaced s.placed) (HeaderWasPlaced filled.placed) (RecordWasPlaced sum size s.placed) (RecordWasPlaced sum size filled.placed) s.log.bytes slot from count some big twenty
        (headers_stay sum size s (slot * size + from) zeros some twenty) (records_stay sum size s (slot * size + from) zeros some twenty) all place mark header low inside comes (own slot)))
        own

    -- All of a segment.
    pub all_filled : from ≡ 0 → ReadsPlaced sum size s → ReadsPlaced sum size filled
    all_filled begins own =
        each
        (own_read sum size (HeaderWasPlaced filled.placed) (RecordWasPlaced sum size filled.placed) filled.log.bytes slot
        (slot_zeroed sum size (HeaderWasPlaced s.placed) (HeaderWasPlaced filled.placed) (RecordWasPlaced sum size s.placed) (RecordWasPlaced sum size filled.placed) s.log.bytes slot from count some big twenty
        (headers_stay sum size s (slot * size + from) zeros some twenty) (records_stay sum size s (slot * size + from) zeros some twenty) all none begins))
        own
