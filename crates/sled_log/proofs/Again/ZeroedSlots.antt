-- Zeros were written over slots, one behind another: a segment that is found then and is not misplaced was found before, in another slot, and other slots are read as before. Nothing is asked of the checksum.
use Rattle.std.proofs.Common.{⊎_elim, ◌≡◌, ◌≢◌, ◌⊎◌, ◌∙◌, ◌+◌, ◌%◌, ◌≤◌, ℕ, pos, List, [], ◌∷◌, length, take, drop, replicate, sym, ap, subst, arith, inl, inr}
use Rattle.std.specs.List.{Contains}
use Rattle.std.proofs.lemmas.List.{take-take, take-replicate, length-replicate}
use Rattle.sled_codec.specs.History.{no_history}
use Rattle.sled_codec.specs.Places.{part}
use Rattle.sled_codec.specs.Record.{IsHeader}
use Rattle.sled_store.specs.Device.{overwritten, at_rest}
use Rattle.sled_store.proofs.LogFile.OverwrittenLemmas.{length-overwritten, overwritten-part}
use Rattle.sled_store.proofs.Segments.Elements.{in_first, in_rest, in_cases, in_nothing}
use Rattle.sled_core.specs.declared.iterator.Segment.{Segment}
use Rattle.sled_core.specs.inside.Scan.{IsFoundSegment, IsMisplaced}
use Rattle.sled_core.specs.Scan.{IsScan}
use Rattle.sled_core.proofs.Read.FoundLemmas.{found_there}
use Rattle.sled_core.proofs.Start.ZeroHeader.{zero_header}
use Rattle.sled_log.specs.Recovery.{Scanned, IsScanned}
use Rattle.sled_log.specs.WritesBack.{after_zeroing}
use Rattle.sled_log.proofs.Moments.ZerosStand.{bytes_same, slot_beside, lay_before, end_same_there, path_there}

-- One slot.
module _ (sum : List ℕ → ℕ) (size : ℕ) (old : List ℕ) (some : 256 ≤ size) (slot : ℕ) (aligned : slot % size ≡ 0) (reach : slot ≤ length old) where
  abbrev zeroed : List ℕ
  zeroed = overwritten old slot (replicate size 0)

  -- a header of zeros has a place at which no segment can begin
  misplaced_there : (low : ℕ) (s : Segment) → IsFoundSegment sum size zeroed low s → s.slot ≡ slot → IsMisplaced size s
  misplaced_there low s found here =
      let laid = overwritten-part old slot (replicate {A = ℕ} size 0) in
      let whole : take size (drop slot zeroed) ≡ replicate size 0 = ap (λ n. take n (drop slot zeroed)) (sym (length-replicate size 0)) ∙ laid in
      let zeros : part zeroed slot 20 ≡ replicate 20 0 =
      sym (take-take 20 size (drop slot zeroed) (omega (arith, some))) ∙ ap (take 20) whole ∙ take-replicate 20 size 0 (omega (arith, some)) in
      let place = zero_header sum s.place s.mark (part zeroed s.slot 20) (ap (λ n. part zeroed n 20) here ∙ zeros) found.header in
      inr (omega (arith, place, some))

  beside : (a : ℕ) → a % size ≡ 0 → a ≢ slot → (a + size ≤ slot) ⊎ (slot + size ≤ a)
  beside = slot_beside sum size old some no_history slot size slot aligned (omega arith) (omega arith) reach

  found_before : (low : ℕ) (s : Segment) → IsFoundSegment sum size zeroed low s → s.slot ≢ slot → IsFoundSegment sum size old low s
  found_before low s found other =
      let there = lay_before sum size old some no_history slot size slot aligned (omega arith) (omega arith) reach s.slot 20 found.slot other (omega arith) (omega (arith, some)) (found_there sum size zeroed low s found) in
      let apart_here : (s.slot + 20 ≤ slot) ⊎ (slot + size ≤ s.slot) = ⊎_elim (λ before. inl (omega (arith, before, some))) (λ past. inr past) (beside s.slot found.slot other) in
      let alike = bytes_same sum size old some no_history slot size slot aligned (omega arith) (omega arith) reach s.slot 20 there apart_here in
      record { slot = found.slot; header = subst (λ (l : List ℕ). IsHeader sum l (pos s.place) s.mark) alike found.header; not_below = found.not_below }

  scan_stays : (t : Scanned) → t.segment.slot % size ≡ 0 → t.segment.slot ≢ slot → t.stop ≤ size → IsScanned sum size old t → IsScanned sum size zeroed t
  unfolding IsScan
  scan_stays t at other inside scan =
      let apart_here : (t.segment.slot + t.stop ≤ slot) ⊎ (slot + size ≤ t.segment.slot) = ⊎_elim (λ before. inl (omega (arith, before, inside))) (λ past. inr past) (beside t.segment.slot at other) in (
        path_there sum size old some no_history slot size slot aligned (omega arith) (omega arith) reach t.segment.slot t.segment.place at 20 t.met t.stop apart_here scan.0,
        end_same_there sum size old some no_history slot size slot aligned (omega arith) (omega arith) reach t.segment.slot t.segment.place at other t.stop t.why scan.1,
      )

-- these are slots of the file
abbrev pub AreSlots : ℕ → List ℕ → List ℕ → Type 0
AreSlots size log slots = (slot : ℕ) → Contains slots slot → (slot % size ≡ 0) × (slot ≤ length log)

module _ (sum : List ℕ → ℕ) (size : ℕ) (some : 256 ≤ size) where
  -- all but the first are, once that is filled
  still_slots : (slot : ℕ) (slots log : List ℕ) → AreSlots size log (slot ∷ slots) → AreSlots size (overwritten log slot (replicate size 0)) slots
  still_slots slot slots log are other there =
      let was = are other (in_rest slot other slots there) in
      (was.0, let inside = was.1 in omega (arith, inside, length-overwritten log slot (replicate size 0)))

  pub found_elsewhere : (slots log : List ℕ) → AreSlots size log slots → (low : ℕ) (s : Segment) → IsFoundSegment sum size (after_zeroing size slots (at_rest log)).bytes low s → (IsMisplaced size s → ⊥)
      → IsFoundSegment sum size log low s × (Contains slots s.slot → ⊥)
  found_elsewhere [] log are low s found placed = (found, λ there. in_nothing s.slot there)
  found_elsewhere (slot ∷ slots) log are low s found placed =
      let first = are slot (in_first slot slots) in
      let rest = found_elsewhere slots (overwritten log slot (replicate size 0)) (still_slots slot slots log are) low s found placed in
      let other : s.slot ≢ slot = λ same. placed (misplaced_there sum size log some slot first.0 first.1 low s rest.0 same) in (
        found_before sum size log some slot first.0 first.1 low s rest.0 other,
        λ there. ⊎_elim (λ same. other (sym same)) rest.1 (in_cases slot s.slot slots there),
      )

  pub scan_elsewhere : (slots log : List ℕ) → AreSlots size log slots → (t : Scanned) → t.segment.slot % size ≡ 0 → (Contains slots t.segment.slot → ⊥) → t.stop ≤ size → IsScanned sum size log t
      → IsScanned sum size (after_zeroing size slots (at_rest log)).bytes t
  scan_elsewhere [] log are t at apart inside scan = scan
  scan_elsewhere (slot ∷ slots) log are t at apart inside scan =
      let first = are slot (in_first slot slots) in
      let other : t.segment.slot ≢ slot = λ same. apart (subst (Contains (slot ∷ slots)) (sym same) (in_first slot slots)) in
      scan_elsewhere slots (overwritten log slot (replicate size 0)) (still_slots slot slots log are) t at (λ there. apart (in_rest slot t.segment.slot slots there)) inside
      (scan_stays sum size log some slot first.0 first.1 t at other inside scan)
