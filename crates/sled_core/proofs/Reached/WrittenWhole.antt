-- A write within one slot of a log file, all of it done: in other slots all is as before, and in its own all is met that was written.
use Rattle.std.proofs.Common.{◌≡◌, ◌≢◌, ◌⊎◌, ◌+◌, ◌*◌, ◌/◌, ◌%◌, ◌<◌, ◌≤◌, ℕ, suc, pos, min, max, List, [], ◌∷◌, length, refl, sym, subst, arith, inl, inr}
use Rattle.std.proofs.Math.Nat.{mul-mod_left}
use Rattle.std.proofs.lemmas.Bool.{cases_order}
use Rattle.sled_codec.specs.Places.{part}
use Rattle.sled_codec.specs.Record.{IsHeader}
use Rattle.sled_store.specs.Device.{LeavesLog, overwritten}
use Rattle.sled_store.proofs.LogFile.LooseLemmas.{end_of-le, end_of-mono}
use Rattle.sled_store.proofs.LogFile.OverwrittenLemmas.{length-overwritten}
use Rattle.sled_core.specs.declared.iterator.scan.ScannedRecord.{ScannedRecord}
use Rattle.sled_core.specs.declared.iterator.scan.ScanEnd.{ScanEnd}
use Rattle.sled_core.specs.declared.iterator.scan.ScanEnd.TheVariants.{Full, Capped, Broken}
use Rattle.sled_core.specs.Scan.{IsMet, IsPath, IsEnd, EndsThere, IsScan}
use Rattle.sled_core.proofs.Tail.LogFileLemmas.{record_moved}
use Rattle.sled_core.proofs.Read.FoundLemmas.{found_there}
use Rattle.sled_core.proofs.Read.ScanLemmas.{aligned_offset}
use Rattle.sled_core.proofs.Torn.TornLemmas.{after_write, left_grows, part_left}
use Rattle.sled_core.proofs.Torn.TornRecords.{long_enough}
use Rattle.sled_core.proofs.Torn.WrittenParts.{path_stays}
use Rattle.sled_core.proofs.Torn.WrittenRecords.{MeetsFirst}
use Rattle.sled_core.proofs.Tail.Multiples.{apart}
use Rattle.sled_core.proofs.Reached.LeftBeside.{IsSameBeside, beside}

-- All that was to be met of a write is met where all of it was done.
pub meets_whole : (sum : List ℕ → ℕ) (size : ℕ) (new : List ℕ) (slot place from : ℕ) (more : List ScannedRecord) (stop : ℕ) (why : ScanEnd) → IsPath sum size new slot place from more stop → IsEnd sum size new slot place stop why
    → MeetsFirst sum size new new slot place from more stop why
unfolding IsMet
meets_whole sum size new slot place from [] stop why path ends = record { count = 0; end = stop; ending = why; path = path; ends = ends; alike = tt; rest = refl; how = inl (refl, refl, inl refl) }
meets_whole sum size new slot place from (m ∷ ms) stop why path ends =
    let on = meets_whole sum size new slot place (from + m.len) ms stop why path.3 ends in
    let met = path.2 in
    record {
      count = suc on.count;
      end = on.end;
      ending = on.ending;
      path = (path.0, path.1, path.2, on.path);
      ends = on.ends;
      alike = (refl, met.2.in_file, on.alike);
      rest = on.rest;
      how = elim on.how [ inl (all, stops, alike) ↦ inl (omega (arith, all), stops, alike) | inr (few, broken) ↦ inr (omega (arith, few), broken) ];
    }

module _ (sum : List ℕ → ℕ) (size : ℕ) (some : 256 ≤ size) (old : List ℕ) (slot from : ℕ) (asked : List ℕ) (inside : from + length asked ≤ size) (there : slot * size ≤ length old) where
  abbrev at : ℕ
  at = slot * size + from

  abbrev pub new : List ℕ
  new = overwritten old at asked

  pub all_done : length asked ≤ length asked
  all_done = omega arith

  -- all of the write is one of the things that a crash leaves of it
  pub leaves_new : LeavesLog (after_write old (slot * size + from) asked asked) new
  leaves_new = record {
    no_shorter = omega (arith, length-overwritten old at asked);
    no_longer = omega (arith, length-overwritten old at asked, end_of-mono at (length asked) (max (length asked) (length asked)) (omega arith));
    kept = λ i low firm. refl;
  }

  bound : length new ≤ max (length old) (at + length asked)
  bound = omega (arith, length-overwritten old at asked, end_of-le at (length asked) (length asked) (omega arith))

  apart_of : (a : ℕ) → a % size ≡ 0 → a ≢ slot * size → (a + size ≤ at) ⊎ (at + length asked ≤ a)
  apart_of = beside sum size some old slot from asked asked new inside all_done leaves_new

  -- what lies in another slot lay there
  there_before : (a o : ℕ) → a % size ≡ 0 → a ≢ slot * size → 0 < o → o ≤ size → a + o ≤ length new → a + o ≤ length old
  there_before a o aligned other bytes fits lies = elim (cases_order a (slot * size)) [
    | inl same ↦ absurd (other same)
    | inr (inl lower) ↦ (let far = apart size (omega (arith, some)) a (slot * size) aligned (mul-mod_left slot size) lower in omega (arith, far, there, fits))
    | inr (inr higher) ↦ (let far = apart size (omega (arith, some)) (slot * size) a (mul-mod_left slot size) aligned higher in let most = bound in omega (arith, far, most, lies, inside, bytes))
  ]

  same_part : (a o len : ℕ) → a % size ≡ 0 → a ≢ slot * size → o + len ≤ size → a + o + len ≤ length old → part new (a + o) len ≡ part old (a + o) len
  same_part a o len aligned other fits lies =
      let beside_it : (a + o + len ≤ at) ⊎ (at + length asked ≤ a + o) = elim (apart_of a aligned other) [ inl before ↦ inl (omega (arith, before, fits)) | inr past ↦ inr (omega (arith, past)) ] in
      part_left old at asked asked new all_done leaves_new (a + o) len lies beside_it

  end_same : (a place : ℕ) → a % size ≡ 0 → a ≢ slot * size → (o : ℕ) (why : ScanEnd) → IsEnd sum size old a place o why → IsEnd sum size new a place o why
  unfolding EndsThere
  end_same a place aligned other o Full full = full
  end_same a place aligned other o Capped (room, (h, body, len, s, is_cap)) =
      let in_slot = s.in_slot in
      let lies = s.in_file in
      let fits : o + len ≤ size = omega (arith, in_slot, aligned_offset a o size aligned (omega (arith, room))) in
      let longer = left_grows old at asked asked new all_done leaves_new in
      (room, (h, body, len, record_moved sum size old new (a + o) (place / size) h body len (same_part a o len aligned other fits lies) (omega (arith, lies, longer)) s, is_cap))
  end_same a place aligned other o Broken (room, none) = (
    room,
    λ h body len s. (
        let in_slot = s.in_slot in
        let enough = long_enough sum size new (a + o) (place / size) h body len s in
        let fits : o + len ≤ size = omega (arith, in_slot, aligned_offset a o size aligned (omega (arith, room))) in
        let lies = s.in_file in
        let lay : a + (o + len) ≤ length old = there_before a (o + len) aligned other (omega (arith, enough)) fits (omega (arith, lies)) in
        none h body len (record_moved sum size new old (a + o) (place / size) h body len (sym (same_part a o len aligned other fits (omega (arith, lay)))) (omega (arith, lay)) s)),
  )

  -- In other slots all is as before.
  pub same_whole : IsSameBeside sum size old new (slot * size)
  unfolding IsScan
  same_whole = record {
    found = λ least s other is. (
        let lies = found_there sum size new least s is in
        let lay = there_before s.slot 20 is.slot other (omega arith) (omega (arith, some)) lies in
        let beside_it : (s.slot + 20 ≤ at) ⊎ (at + length asked ≤ s.slot) = elim (apart_of s.slot is.slot other) [ inl before ↦ inl (omega (arith, before, some)) | inr past ↦ inr past ] in
        let alike = part_left old at asked asked new all_done leaves_new s.slot 20 lay beside_it in
        record { slot = is.slot; header = subst (λ (l : List ℕ). IsHeader sum l (pos s.place) s.mark) alike is.header; not_below = is.not_below });
    scans = λ least t found other scan. (
        let lies : (t.segment.slot + min t.stop size ≤ at) ⊎ (at + length asked ≤ t.segment.slot) = elim (apart_of t.segment.slot found.slot other) [ inl before ↦ inl (omega (arith, before)) | inr past ↦ inr past ] in
        (path_stays sum size old at asked asked new all_done leaves_new t.segment.slot t.segment.place found.slot 20 t.met t.stop lies scan.0, end_same t.segment.slot t.segment.place found.slot other t.stop t.why scan.1));
  }
