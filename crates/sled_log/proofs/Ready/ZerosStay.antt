-- Behind the cut the slot of the active segment has zeros, and keeps them while slots that were not read are filled.
use Rattle.std.proofs.Common.{◌≡◌, ◌∙◌, ◌+◌, ◌-◌, ◌%◌, ◌<◌, ◌≤◌, ℕ, zero, suc, List, [], ◌∷◌, length, replicate, get_or, Option, Some, sym, subst, arith, inl, inr}
use Rattle.std.proofs.lemmas.Bool.{cases_lt}
use Rattle.std.proofs.lemmas.List.{length-replicate}
use Rattle.sled_codec.specs.History.{History}
use Rattle.sled_store.specs.Device.{Content, at_rest, overwritten, end_of}
use Rattle.sled_store.proofs.LogFile.OverwrittenLemmas.{overwritten-below, overwritten-above}
use Rattle.sled_store.proofs.Segments.Elements.{in_first, in_rest}
use Rattle.sled_core.specs.Recoverable.{NoHeaderOfZeros}
use Rattle.sled_core.proofs.Torn.ZeroedSlots.{zeros_read}
use Rattle.sled_log.proofs.Recovers.Readable.{CanRead}
use Rattle.sled_log.specs.Recovery.{RecoveryResult, shred_range_of}
use Rattle.sled_log.specs.WritesBack.{after_shredding, after_zeroing}
use Rattle.sled_log.proofs.Afterwards.LeftGood.{left_log, fits, free}
use Rattle.sled_log.proofs.Moments.Shredded.{shredded, is_shredded}
use Rattle.sled_log.proofs.Moments.UnreadSlots.{AreFree, still_free}
use Rattle.sled_log.proofs.Recovers.RecoversGood.{RecoversWell}

-- a zero stays where a slot that begins in the file is filled
one_slot : (log : List ℕ) (slot size i : ℕ) → slot ≤ length log → get_or log i 0 ≡ 0 → get_or (overwritten log slot (replicate size 0)) i 0 ≡ 0
one_slot log slot size i reach is = elim (cases_lt i slot) [
  | inl before ↦ overwritten-below log slot (replicate size 0) i before (omega (arith, before, reach)) ∙ is
  | inr behind ↦ elim (cases_lt i (slot + size)) [
    | inl within ↦ zeros_read log slot size i behind within
    | inr past ↦ overwritten-above log slot (replicate size 0) i (subst (λ n. end_of slot n ≤ i) (sym (length-replicate size 0)) (ends size past)) ∙ is
  ]
]
  where
    ends : (n : ℕ) → slot + n ≤ i → end_of slot n ≤ i
    ends zero past = omega arith
    ends (suc n) past = past

module _ (sum : List ℕ → ℕ) (size : ℕ) (some : 256 ≤ size) (none : NoHeaderOfZeros sum) (H : History) (cut i : ℕ) where
  zeros_stay : (slots log : List ℕ) → AreFree sum size log cut slots → get_or log i 0 ≡ 0 → get_or (after_zeroing size slots (at_rest log)).bytes i 0 ≡ 0
  zeros_stay [] log are_free is = is
  zeros_stay (slot ∷ slots) log are_free is =
      let is_free = are_free slot (in_first slot slots) in
      zeros_stay slots (overwritten log slot (replicate size 0)) (λ other there. still_free sum size log some none H cut slot other is_free (are_free other (in_rest slot other slots there))) (one_slot log slot size i is_free.reach is)

-- So it is in the log file that a recovery leaves.
module _ (sum : List ℕ → ℕ) (size : ℕ) (content : Content) (H : History) (A f : ℕ) (some : 256 ≤ size) (can : CanRead sum size content H A f) (x : RecoveryResult)
    (well : RecoversWell sum size content H A f some can.orderly can.first can.cut can.snapshots can.log can.blobs x) (none : NoHeaderOfZeros sum) where
  pub zeros_behind : (slot : ℕ) → can.cut.1 ≡ Some slot → (i : ℕ) → slot + can.cut.0 % size ≤ i → i < slot + size → get_or (left_log sum size content H A f some can x well none).bytes i 0 ≡ 0
  zeros_behind slot has i above under =
      let its_fits = fits sum size content H A f some can x well in
      let its_free = free sum size content H A f some can x well in
      let filled = is_shredded sum size content.log some H A can.first can.cut can.log its_fits can.snapshots.active in
      let inside : can.cut.0 % size < size = omega (arith, some) in
      let is_zero = zeros_read content.log (slot + can.cut.0 % size) (size - can.cut.0 % size) i above (omega (arith, under, inside)) in
      zeros_stay sum size some none H can.cut.0 i x.unread (shredded sum size content.log some H A can.first can.cut can.log its_fits can.snapshots.active).bytes (λ k there. filled.free k (its_free k there))
      (subst (λ (o : Option ℕ). get_or (after_shredding (shred_range_of size can.cut.0 o) (at_rest content.log)).bytes i 0 ≡ 0) (sym has) is_zero)
