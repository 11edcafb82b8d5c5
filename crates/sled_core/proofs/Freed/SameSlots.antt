-- A slot that two files have alike: the same bytes in it, and as far as the one goes in it the other does. So parts of it are the same, also with zeros
-- behind the ends of both.
use Rattle.std.proofs.Common.{◌≡◌, ◌∙◌, ◌+◌, ◌*◌, ◌≤◌, ◌<◌, ℕ, min, List, length, length-drop, length-take, drop, get_or, get_or-take, sym, ap}
use Rattle.std.proofs.Common.{arith}
use Rattle.std.proofs.lemmas.List.{ext_get_or, get_or-drop}
use Rattle.sled_codec.specs.Places.{part}
use Rattle.sled_core.specs.inside.LogFile.{padded}
use Rattle.sled_core.proofs.Sealed.Padded.{length-padded, padded_get}
use Rattle.sled_core.proofs.Torn.AlikeSlots.{SameIn}

pub record SameSlot (size : ℕ) (old new : List ℕ) (k : ℕ) : Type 0 where
  pub bytes : (i : ℕ) → k * size ≤ i → i < k * size + size → get_or new i 0 ≡ get_or old i 0
  pub long : min (length new) (k * size + size) ≡ min (length old) (k * size + size)

module _ (size : ℕ) (old new : List ℕ) (k : ℕ) (same : SameSlot size old new k) where
  pub slot_part : (at len : ℕ) → k * size ≤ at → at + len ≤ k * size + size → part new at len ≡ part old at len
  slot_part at len low high = ext_get_or 0 (part new at len) (part old at len) same_long
      (λ i lt. each i (omega (arith, lt, length-take len (drop at new)))) where
        same_long : length (part new at len) ≡ length (part old at len)
        same_long =
            let long = same.long in
            omega (arith, length-take len (drop at new), length-drop at new, length-take len (drop at old), length-drop at old, long, low, high)

        each : (i : ℕ) → i < len → get_or (part new at len) i 0 ≡ get_or (part old at len) i 0
        each i below =
            get_or-take len (drop at new) i 0 below ∙ get_or-drop at new i 0 ∙ same.bytes (at + i) (omega (arith, low)) (omega (arith, below, high))
            ∙ sym (get_or-drop at old i 0) ∙ sym (get_or-take len (drop at old) i 0 below)

  -- What lay in it lies in it,
  pub slot_in : SameIn size old new k
  slot_in at len low high there = slot_part at len low high

  -- and what ends in it ends in it.
  pub slot_ends : (end : ℕ) → end ≤ k * size + size → end ≤ length old → end ≤ length new
  slot_ends end high there = let long = same.long in omega (arith, long, high, there)

  pub slot_beyond : (to : ℕ) → SameSlot size (padded to old) (padded to new) k
  slot_beyond to = record {
    bytes = λ i low high. padded_get to new i ∙ same.bytes i low high ∙ sym (padded_get to old i);
    long = let long = same.long in omega (arith, length-padded to old, length-padded to new, long);
  }

pub slot_back : (size : ℕ) (old new : List ℕ) (k : ℕ) → SameSlot size old new k → SameSlot size new old k
slot_back size old new k same = record { bytes = λ i low high. sym (same.bytes i low high); long = sym same.long }

-- Of files of one length.
pub slot_bytes : (size : ℕ) (old new : List ℕ) (k : ℕ) → length new ≡ length old
    → ((i : ℕ) → k * size ≤ i → i < k * size + size → get_or new i 0 ≡ get_or old i 0)
    → SameSlot size old new k
slot_bytes size old new k long bytes = record { bytes = bytes; long = ap (λ n. min n (k * size + size)) long }
