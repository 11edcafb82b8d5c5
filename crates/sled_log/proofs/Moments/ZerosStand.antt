-- The log file with zeros from a place in one slot to the end of it, all of them written and synced: other slots are read as before, and so is what lies before the zeros.
use Rattle.std.proofs.Common.{⊎_elim, ◌≡◌, ◌≢◌, ◌⊎◌, ◌+◌, ◌/◌, ◌%◌, ◌<◌, ◌≤◌, ℕ, max, List, [], ◌∷◌, length, replicate, refl, sym, subst, arith, inl, inr}
use Rattle.std.specs.List.{Contains}
use Rattle.std.proofs.lemmas.Bool.{cases_order}
use Rattle.std.proofs.lemmas.List.{length-replicate}
use Rattle.sled_codec.specs.History.{History}
use Rattle.sled_codec.specs.Places.{part}
use Rattle.sled_store.specs.Device.{LeavesLog, overwritten}
use Rattle.sled_store.proofs.LogFile.LooseLemmas.{end_of-le, end_of-mono}
use Rattle.sled_store.proofs.LogFile.OverwrittenLemmas.{length-overwritten}
use Rattle.sled_store.proofs.Segments.Elements.{in_first, in_rest, in_cases, in_nothing}
use Rattle.sled_core.specs.declared.iterator.scan.ScannedRecord.{ScannedRecord}
use Rattle.sled_core.specs.declared.iterator.scan.ScanEnd.{ScanEnd}
use Rattle.sled_core.specs.declared.iterator.scan.ScanEnd.TheVariants.{Full, Capped, Broken}
use Rattle.sled_core.specs.inside.Recoverable.{IsOfHistory}
use Rattle.sled_core.specs.Scan.{IsMet, IsPath, IsEnd, EndsThere}
use Rattle.sled_core.proofs.Tail.LogFileLemmas.{record_moved}
use Rattle.sled_core.proofs.Read.ScanLemmas.{aligned_offset}
use Rattle.sled_core.proofs.Torn.TornLemmas.{after_write}
use Rattle.sled_core.proofs.Torn.TornRecords.{long_enough}
use Rattle.sled_core.proofs.Torn.ZeroedSlots.{grows, kept, path_stays}
use Rattle.sled_core.proofs.Tail.Multiples.{apart}
use Rattle.sled_core.proofs.Tail.Rows.{stand_rises, path_stands}
use Rattle.sled_core.proofs.Tail.Moved.{of_left}

module _ (sum : List ℕ → ℕ) (size : ℕ) (old : List ℕ) (some : 256 ≤ size) (H : History) (at count slot : ℕ) (aligned : slot % size ≡ 0) (begin : slot ≤ at) (to_end : at + count ≡ slot + size) (reach : slot ≤ length old) where
  abbrev pub zeros : List ℕ
  zeros = replicate count 0

  abbrev pub new : List ℕ
  new = overwritten old at zeros

  long : length zeros ≡ count
  long = length-replicate count 0

  bound : length new ≤ max (length old) (at + count)
  bound = omega (arith, length-overwritten old at zeros, long, end_of-le at (length zeros) (length zeros) (omega arith))

  pub no_more_than : length zeros ≤ length zeros
  no_more_than = omega arith

  pub leaves_new : LeavesLog (after_write old at zeros zeros) new
  leaves_new = record {
    no_shorter = omega (arith, length-overwritten old at zeros);
    no_longer = omega (arith, length-overwritten old at zeros, end_of-mono at (length zeros) (max (length zeros) (length zeros)) (omega arith));
    kept = λ i low firm. refl;
  }

  pub bytes_same : (lid n : ℕ) → lid + n ≤ length old → (lid + n ≤ at) ⊎ (at + count ≤ lid) → part new lid n ≡ part old lid n
  bytes_same = kept sum size old at count zeros new no_more_than leaves_new

  pub slot_beside : (a : ℕ) → a % size ≡ 0 → a ≢ slot → (a + size ≤ at) ⊎ (at + count ≤ a)
  slot_beside a at_a other = elim (cases_order a slot) [
    | inl same ↦ absurd (other same)
    | inr (inl lower) ↦ (let far = apart size (omega (arith, some)) a slot at_a aligned lower in inl (omega (arith, far, begin)))
    | inr (inr higher) ↦ (let far = apart size (omega (arith, some)) slot a aligned at_a higher in inr (omega (arith, far, to_end)))
  ]

  pub lay_before : (a o : ℕ) → a % size ≡ 0 → a ≢ slot → 0 < o → o ≤ size → a + o ≤ length new → a + o ≤ length old
  lay_before a o at_a other some_bytes inside there = elim (cases_order a slot) [
    | inl same ↦ absurd (other same)
    | inr (inl lower) ↦ (let far = apart size (omega (arith, some)) a slot at_a aligned lower in omega (arith, far, reach, inside))
    | inr (inr higher) ↦ (let far = apart size (omega (arith, some)) slot a aligned at_a higher in let most = bound in omega (arith, far, most, there, to_end, some_bytes))
  ]

  pub end_same_there : (a place : ℕ) → a % size ≡ 0 → a ≢ slot → (o : ℕ) → (why : ScanEnd) → IsEnd sum size old a place o why → IsEnd sum size new a place o why
  unfolding EndsThere
  end_same_there a place at_a other o Full full = full
  end_same_there a place at_a other o Capped (room, (h, body, len, s, is_cap)) =
      let inside = s.in_slot in
      let there = s.in_file in
      let within : o + len ≤ size = omega (arith, inside, aligned_offset a o size at_a (omega (arith, room))) in
      let apart_here : (a + o + len ≤ at) ⊎ (at + count ≤ a + o) = ⊎_elim (λ before. inl (omega (arith, before, within))) (λ past. inr (omega (arith, past))) (slot_beside a at_a other) in
      let longer = grows sum size old at count zeros new no_more_than leaves_new in
      (room, (h, body, len, record_moved sum size old new (a + o) (place / size) h body len (bytes_same (a + o) len there apart_here) (omega (arith, there, longer)) s, is_cap))
  end_same_there a place at_a other o Broken (room, none) = (
    room,
    λ h body len s. (
        let inside = s.in_slot in
        let enough = long_enough sum size new (a + o) (place / size) h body len s in
        let within : o + len ≤ size = omega (arith, inside, aligned_offset a o size at_a (omega (arith, room))) in
        let reach = s.in_file in
        let there : a + (o + len) ≤ length old = lay_before a (o + len) at_a other (omega (arith, enough)) within (omega (arith, reach)) in
        let apart_here : (a + o + len ≤ at) ⊎ (at + count ≤ a + o) = ⊎_elim (λ before. inl (omega (arith, before, within))) (λ past. inr (omega (arith, past))) (slot_beside a at_a other) in
        none h body len (record_moved sum size new old (a + o) (place / size) h body len (sym (bytes_same (a + o) len (omega (arith, there)) apart_here)) (omega (arith, there)) s)),
  )

  pub path_there : (a place : ℕ) → a % size ≡ 0 → (from : ℕ) (ms : List ScannedRecord) (next : ℕ) → (a + next ≤ at) ⊎ (at + count ≤ a) → IsPath sum size old a place from ms next → IsPath sum size new a place from ms next
  path_there = path_stays sum size old at count zeros new no_more_than leaves_new

  pub truth_there : (a place : ℕ) (from : ℕ) (ms : List ScannedRecord) (next : ℕ) → (a + next ≤ at) ⊎ (at + count ≤ a) → IsPath sum size old a place from ms next → IsPath sum size new a place from ms next
      → ((x : ScannedRecord) → Contains ms x → IsOfHistory sum size old H x) → (x : ScannedRecord) → Contains ms x → IsOfHistory sum size new H x
  unfolding IsMet
  truth_there a place from [] next apart_here path also truth x there = absurd (in_nothing x there)
  truth_there a place from (m ∷ ms) next apart_here path also truth x there =
      let met = path.2 in
      let again = also.2 in
      let reach = met.2.in_file in
      let on = stand_rises (place + (from + m.len)) ms (place + next) (path_stands sum size old a place (from + m.len) ms next path.3) in
      let own : (a + from + m.len ≤ at) ⊎ (at + count ≤ a + from) = ⊎_elim (λ before. inl (omega (arith, before, on))) (λ past. inr (omega (arith, past))) apart_here in
      let alike = sym (bytes_same (a + from) m.len reach own) in
      ⊎_elim
      (λ same. subst (IsOfHistory sum size new H) same (of_left sum size old new H (a + from) (place / size) m alike again.2.in_file again (truth m (in_first m ms))))
      (λ later. truth_there a place (from + m.len) ms next apart_here path.3 also.3 (λ y at_y. truth y (in_rest m y ms at_y)) x later)
      (in_cases m x ms there)
