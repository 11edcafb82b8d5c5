-- Zeros are written over a whole slot, and synced: no segment is found there, and others are found as before.
use Rattle.std.proofs.Common.{⊎_elim, ◌≡◌, ◌≢◌, ◌⊎◌, ◌∙◌, ◌+◌, ◌%◌, ◌≤◌, ℕ, pos, List, length, take, drop, replicate, sym, ap, subst, arith, inl, inr}
use Rattle.std.proofs.lemmas.List.{take-take, take-replicate, length-replicate}
use Rattle.sled_codec.specs.History.{History}
use Rattle.sled_codec.specs.Places.{part}
use Rattle.sled_codec.specs.Record.{IsHeader}
use Rattle.sled_store.specs.Device.{overwritten}
use Rattle.sled_store.proofs.LogFile.OverwrittenLemmas.{overwritten-part}
use Rattle.sled_core.specs.declared.iterator.Segment.{Segment}
use Rattle.sled_core.specs.Recoverable.{NoHeaderOfZeros}
use Rattle.sled_core.specs.inside.Scan.{IsFoundSegment}
use Rattle.sled_core.proofs.Read.FoundLemmas.{found_there}
use Rattle.sled_log.proofs.Moments.ZerosStand.{bytes_same, slot_beside, lay_before}

module _ (sum : List ℕ → ℕ) (size : ℕ) (old : List ℕ) (some : 256 ≤ size) (none : NoHeaderOfZeros sum) (slot : ℕ) (aligned : slot % size ≡ 0) (reach : slot ≤ length old) where
  abbrev pub zeroed : List ℕ
  zeroed = overwritten old slot (replicate size 0)

  -- no segment is found there
  pub none_there : (low : ℕ) (s : Segment) → IsFoundSegment sum size zeroed low s → s.slot ≢ slot
  none_there low s found here =
      let laid = overwritten-part old slot (replicate {A = ℕ} size 0) in
      let whole : take size (drop slot zeroed) ≡ replicate size 0 = ap (λ n. take n (drop slot zeroed)) (sym (length-replicate size 0)) ∙ laid in
      let zeros : part zeroed slot 20 ≡ replicate 20 0 =
      sym (take-take 20 size (drop slot zeroed) (omega (arith, some))) ∙ ap (take 20) whole ∙ take-replicate 20 size 0 (omega (arith, some)) in
      none (pos s.place) s.mark (subst (λ (l : List ℕ). IsHeader sum l (pos s.place) s.mark) (ap (λ n. part zeroed n 20) here ∙ zeros) found.header)

  module _ (H : History) where
    -- a segment that is found was there before, in another slot
    pub found_old : (low : ℕ) (s : Segment) → IsFoundSegment sum size zeroed low s → IsFoundSegment sum size old low s
    found_old low s found =
        let other = none_there low s found in
        let there = lay_before sum size old some H slot size slot aligned (omega arith) (omega arith) reach s.slot 20 found.slot other (omega arith) (omega (arith, some)) (found_there sum size zeroed low s found) in
        let apart_here : (s.slot + 20 ≤ slot) ⊎ (slot + size ≤ s.slot) = ⊎_elim (λ before. inl (omega (arith, before, some))) (λ past. inr past) (slot_beside sum size old some H slot size slot aligned (omega arith) (omega arith) reach s.slot found.slot other) in
        let alike = bytes_same sum size old some H slot size slot aligned (omega arith) (omega arith) reach s.slot 20 there apart_here in
        record { slot = found.slot; header = subst (λ (l : List ℕ). IsHeader sum l (pos s.place) s.mark) alike found.header; not_below = found.not_below }

    -- and one in another slot still is
    pub found_still : (low : ℕ) (s : Segment) → s.slot ≢ slot → IsFoundSegment sum size old low s → IsFoundSegment sum size zeroed low s
    found_still low s other found =
        let apart_here : (s.slot + 20 ≤ slot) ⊎ (slot + size ≤ s.slot) = ⊎_elim (λ before. inl (omega (arith, before, some))) (λ past. inr past) (slot_beside sum size old some H slot size slot aligned (omega arith) (omega arith) reach s.slot found.slot other) in
        let alike = bytes_same sum size old some H slot size slot aligned (omega arith) (omega arith) reach s.slot 20 (found_there sum size old low s found) apart_here in
        record { slot = found.slot; header = subst (λ (l : List ℕ). IsHeader sum l (pos s.place) s.mark) (sym alike) found.header; not_below = found.not_below }
