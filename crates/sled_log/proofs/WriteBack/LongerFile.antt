-- What a recovery writes back makes the log file no shorter. So where a log could begin on the file as it was read, one can begin on what is left.
use Rattle.std.proofs.Common.{◌≡◌, ◌≤◌, ◌<◌, ◌+◌, ◌-◌, ◌*◌, ◌/◌, ◌%◌, ℕ, List, [], ◌∷◌, length, replicate, Option, Some, None, IfSome, ap, arith}
use Rattle.std.specs.List.{All, Contains}
use Rattle.std.proofs.Math.Nat.{div-mul-le_self}
use Rattle.std.proofs.lemmas.Nat.{le-div}
use Rattle.std.proofs.lemmas.List.Elements.{All-contains}
use Rattle.sled_codec.specs.Snapshots.{Entry, SnapshotModel, stable_place}
use Rattle.sled_store.specs.Begin.{slots_of, entries_of, IsPlacedIn, MayBeActive, IsStartable}
use Rattle.sled_store.specs.Device.{LogState, State, at_rest, overwritten}
use Rattle.sled_store.proofs.LogFile.OverwrittenLemmas.{length-overwritten}
use Rattle.sled_store.proofs.Segments.Elements.{all_from_in}
use Rattle.sled_log.specs.Recovery.{RecoveryResult}
use Rattle.sled_log.specs.WritesBack.{after_shredding, after_zeroing, IsWrittenBack}

longer_shredded : (range : Option (ℕ × ℕ)) (log : LogState) → length log.bytes ≤ length (after_shredding range log).bytes
longer_shredded None log = omega arith
longer_shredded (Some range) log = omega (arith, length-overwritten log.bytes range.0 (replicate range.1 0))

longer_zeroed : (size : ℕ) (slots : List ℕ) (log : LogState) → length log.bytes ≤ length (after_zeroing size slots log).bytes
longer_zeroed size [] log = omega arith
longer_zeroed size (slot ∷ slots) log =
    let rest = longer_zeroed size slots (at_rest (overwritten log.bytes slot (replicate size 0))) in
    omega (arith, rest, length-overwritten log.bytes slot (replicate size 0))

-- a longer file has as many slots at least
more_slots : (size a b : ℕ) → 0 < size → a ≤ b → slots_of size a ≤ slots_of size b
more_slots size a b some longer =
    let below = div-mul-le_self (a + (size - 1)) size in
    le-div (slots_of size a) (b + (size - 1)) size some (omega (arith, below, longer))

-- a log that can begin on a file can begin on a longer one
startable_longer : (size a b : ℕ) (s : SnapshotModel) → 0 < size → a ≤ b → IsStartable size a s → IsStartable size b s
startable_longer size a b s some longer is = record {
  sound = is.sound;
  seen = is.seen;
  active = active s.active is.active;
  placed = all_from_in (IsPlacedIn size (slots_of size b) stable) (entries_of s.pages) (λ e there. placed e (All-contains (IsPlacedIn size (slots_of size a) stable) (entries_of s.pages) e is.placed there));
  apart = is.apart;
  of_active = is.of_active;
  counted = is.counted;
} where
  stable : ℕ
  stable = stable_place s.stable

  more : slots_of size a ≤ slots_of size b
  more = more_slots size a b some longer

  active : (o : Option ℕ) → IfSome o (MayBeActive size (slots_of size a) stable) → IfSome o (MayBeActive size (slots_of size b) stable)
  active None may = tt
  active (Some slot) may = record { aligned = may.aligned; slot = (let low = may.slot in omega (arith, low, more)); offset = may.offset }

  placed : (e : Entry) → IsPlacedIn size (slots_of size a) stable e → IsPlacedIn size (slots_of size b) stable e
  placed e in_file = record {
    not_negative = in_file.not_negative;
    below = in_file.below;
    offset = in_file.offset;
    slot = (let low = in_file.slot in omega (arith, low, more));
    begins = in_file.begins;
    ends = in_file.ends;
  }

-- So it is of what a recovery gives.
pub startable_left : (sum : List ℕ → ℕ) (size : ℕ) (x : RecoveryResult) (old new : State) → 0 < size → IsWrittenBack sum size x old new → IsStartable size (length old.log.bytes) x.model → IsStartable size (length new.log.bytes) x.model
startable_left sum size x old new some written =
    startable_longer size (length old.log.bytes) (length new.log.bytes) x.model some
    (let shredded = longer_shredded x.shred_range old.log in
    let zeroed = longer_zeroed size x.unread (after_shredding x.shred_range old.log) in
    let is = ap (λ (l : LogState). length l.bytes) written.log in
    omega (arith, shredded, zeroed, is))
