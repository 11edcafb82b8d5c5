-- What stands in the slots that are used stays when the others are filled and those at the end cut off: the log file that a log begins on.
use Rattle.std.proofs.Common.{◌≡◌, ◌≢◌, ◌⊎◌, ◌≤◌, ◌<◌, ◌+◌, ◌*◌, ◌/◌, ◌%◌, ◌∙◌, ℕ, ℤ, pos, true, false, List, length, drop, get_or, sym, ap, subst, arith, inl, inr, Some, unsigned_abs, length-take, length-drop}
use Rattle.std.specs.List.{Contains}
use Rattle.std.proofs.Math.Nat.{mul-le-mul_right, mod-add-div', mod-lt}
use Rattle.std.proofs.lemmas.Bool.{cases_lt}
use Rattle.std.proofs.lemmas.List.Elements.{All-contains}
use Rattle.sled_codec.specs.declared.result.DiskPtr.TheVariants.{Inline}
use Rattle.sled_codec.specs.Places.{part}
use Rattle.sled_codec.specs.Pointers.{lid_of}
use Rattle.sled_codec.specs.Record.{IsHeader}
use Rattle.sled_codec.specs.History.{Message, History, table}
use Rattle.sled_codec.specs.PageTables.{IsTable}
use Rattle.sled_codec.specs.Snapshots.{Entry, SnapshotModel, stable_place}
use Rattle.sled_codec.proofs.Segments.{length-short_header}
use Rattle.sled_core.specs.declared.iobuf.SegmentPosition.{SegmentPosition}
use Rattle.sled_store.specs.Begin.{slots_of, slot_of, segment_number_of, entries_of, is_used, unused, first_or}
use Rattle.sled_core.specs.LogFile.{MessageStands, StandsHere, StandsElsewhere, HasHeader, IsLogFile, StaysFrom}
use Rattle.sled_core.specs.Fits.{EndBelow}
use Rattle.sled_core.specs.SealedBuffers.{AreZeros}
use Rattle.sled_core.specs.Ready.{HasActive, HasNoActive, active_site}
use Rattle.sled_store.proofs.Segments.FilledLemmas.{slot_before, slot_inside, free_below, first_there}
use Rattle.sled_store.proofs.Accounts.StartedFile.{started_file, started_there, started_part, started_byte, started_zero, started_past, left_within}
use Rattle.sled_core.proofs.Tail.LogFileLemmas.{stands_some}
use Rattle.sled_core.proofs.Start.Entries.{table_entry, active_used}
use Rattle.sled_core.proofs.Read.ScanLemmas.{aligned_number}
use Rattle.sled_core.proofs.Tail.Moved.{message_moved}

-- a header that passes lies in the file
pub header_inside : (sum : List ℕ → ℕ) (log : List ℕ) (slot : ℕ) (lsn mark : ℤ) → IsHeader sum (part log slot 20) lsn mark → slot + 20 ≤ length log
header_inside sum log slot lsn mark header =
    let long : length (part log slot 20) ≡ 20 = ap length header.is ∙ length-short_header sum lsn mark in
    omega (arith, long, length-take 20 (drop slot log), length-drop slot log)

module _ (sum : List ℕ → ℕ) (size : ℕ) (long : 256 ≤ size) (log : List ℕ) (s : SnapshotModel) (H : History) where
  abbrev slots : ℕ
  slots = slots_of size (length log)

  abbrev free : List ℕ
  free = unused size slots s

  abbrev stable : ℕ
  stable = stable_place s.stable

  -- the file once the log is started
  abbrev new : List ℕ
  new = started_file size log s

  some : 0 < size
  some = omega (arith, long)

  -- what stands in the file is in one of its slots
  in_slots : (lid n : ℕ) → 0 < n → lid + n ≤ length log → lid / size < slots
  in_slots lid n grown in_file = slot_inside size (length log) lid n some grown in_file

  -- What stands in a slot that is used stays.

  module _ (lid : ℕ) (used : is_used size s (lid / size) ≡ true) where
    used_part : (n : ℕ) → 0 < n → lid % size + n ≤ size → lid + n ≤ length log → part new lid n ≡ part log lid n
    used_part n grown within in_file =
        started_part size some log s (lid / size) used (in_slots lid n grown in_file) lid n (omega (arith, mod-add-div' lid size)) (omega (arith, mod-add-div' lid size, within)) in_file

    used_message : (number : ℕ) (m : Message) → MessageStands sum size log lid number m → MessageStands sum size new lid number m
    used_message number m r =
        let in_file = r.stands.in_file in
        let in_slot = r.stands.in_slot in
        let grown : 0 < m.size = (let some = stands_some sum size log lid number m r in omega (arith, some)) in
        message_moved sum size log new lid number m (used_part m.size grown in_slot in_file)
        (started_there size some log s (lid / size) used (in_slots lid m.size grown in_file) lid m.size (omega (arith, mod-add-div' lid size, in_slot)) in_file) r

  -- a record in another slot lies apart from one
  other_slot : (lid n j : ℕ) → lid / size ≢ j → lid % size + n ≤ size → (lid + n ≤ j * size) ⊎ (j * size + size ≤ lid)
  other_slot lid n j other within = elim (cases_lt (lid / size) j) [
    | inl before ↦ inl (omega (arith, slot_before size (lid / size) j before, mod-add-div' lid size, within))
    | inr behind ↦ (let after : j < lid / size = omega (arith, behind, other) in inr (omega (arith, slot_before size j (lid / size) after, mod-add-div' lid size)))
  ]

  -- The active segment goes on.

  module _ (a : ℕ) (active : s.active ≡ Some a) (aligned : a % size ≡ 0) (is : IsTable s.pages H stable)
      (of_active : (e : Entry) → Contains (entries_of s.pages) e → slot_of size e ≡ a / size → segment_number_of size e ≡ stable / size) (has : HasActive sum size log s a H) where
    abbrev site : SegmentPosition
    site = active_site size stable a

    whole : a / size * size ≡ a
    whole = omega (arith, mod-add-div' a size, aligned)

    own_used : (at : ℕ) → at < size → is_used size s ((a + at) / size) ≡ true
    own_used at less = ap (is_used size s) (aligned_number a at size aligned less) ∙ active_used size s a active

    -- its own messages stand
    here_used : (lid : ℕ) (m : Message) → StandsHere sum size log site (stable % size) lid m → StandsHere sum size new site (stable % size) lid m
    here_used lid m h =
        let inside = h.inside in
        let less : h.at < size = omega (arith, inside, mod-lt stable some, stands_some sum size log lid (m.place / size) m h.stands) in
        record {
          at = h.at;
          place = h.place;
          offset = h.offset;
          begins = h.begins;
          stands = used_message lid (ap (λ n. is_used size s (n / size)) h.offset ∙ own_used h.at less) (m.place / size) m h.stands;
          inside = h.inside;
        }

    header_used : HasHeader sum log site → HasHeader sum new site
    header_used h =
        let there : a + 20 ≤ length log = header_inside sum log a (pos site.place) h.mark h.header in
        let same : part new a 20 ≡ part log a 20 = used_part a (active_used size s a active) 20 (omega arith) (omega (arith, aligned, long)) there in
        record { mark = h.mark; header = subst (λ (l : List ℕ). IsHeader sum l (pos site.place) h.mark) (sym same) h.header; below = h.below }

    -- a message of an earlier segment lies in another slot
    other_segment : (page : ℕ) (m : Message) → Contains (table H stable page) m → m.place < site.place → lid_of m.pointer / size ≢ a / size
    other_segment page m entry lower same =
        let e = table_entry s.pages H stable is page m entry in
        let number : segment_number_of size e.entry ≡ stable / size = of_active e.entry e.there (ap (λ p. lid_of p / size) e.pointer ∙ same) in
        let own : m.place / size ≡ stable / size = ap (λ z. unsigned_abs z / size) (sym e.place) ∙ number in
        let begins : m.place / size * size ≡ stable / size * size = ap (λ n. n * size) own in
        omega (arith, begins, lower, mod-add-div' m.place size)

    elsewhere_used : (page : ℕ) (m : Message) → Contains (table H stable page) m → m.place < site.place → (lid : ℕ) → m.pointer ≡ Inline lid → StandsElsewhere sum size new site lid m
    elsewhere_used page m entry lower lid pointer =
        let u = has.older page m entry lower lid pointer in
        let other : lid / size ≢ a / size = λ same. other_segment page m entry lower (ap (λ p. lid_of p / size) pointer ∙ same) in
        record {
          begins = u.begins;
          stands = used_message lid u.used (m.place / size) m u.stands;
          apart = elim (other_slot lid m.size (a / size) other u.stands.stands.in_slot) [ inl before ↦ inl (omega (arith, before, whole)) | inr behind ↦ inr (omega (arith, behind, whole)) ];
        }

    pub active_file : IsLogFile sum size new site (stable % size) H.messages (StaysFrom H stable)
    active_file = record {
      own = λ m there above lid pointer. here_used lid m (has.own m there above lid pointer);
      elsewhere = λ m stays lower. elim stays [
        | inl entry ↦ elsewhere_used m.page m entry lower
        | inr late ↦ absurd (let above = late.0 in omega (arith, above, lower, mod-add-div' stable size))
      ];
      begun = λ more. has.inside;
      header = λ more. header_used has.header;
    }

    -- and the rest of its slot has zeros
    pub active_clean : AreZeros new (a + stable % size) (a + size)
    active_clean i above below =
        let there : a + 20 ≤ length log = header_inside sum log a (pos site.place) has.header.mark has.header.header in
        started_byte size some log s (a / size) (active_used size s a active) (in_slots a 20 (omega arith) there) i (omega (arith, whole, above)) (omega (arith, whole, below)) ∙ has.clean i above below

  -- A new segment begins in the lowest slot that is not used, or behind the file.

  abbrev lowest : ℕ
  lowest = first_or slots free

  lowest_apart : (j : ℕ) → is_used size s j ≡ true → j < slots → j ≢ lowest
  lowest_apart j used less same = elim (first_there slots free) [
    | inl there ↦ (
        let r = All-contains (λ k. (k < slots) × (is_used size s k ≡ false)) free lowest (free_below (is_used size s) slots) there in
        let both : true ≡ false = sym used ∙ ap (is_used size s) same ∙ r.1 in
        cc)
    | inr behind ↦ (omega (arith, behind, same, less))
  ]

  lowest_zero : (i : ℕ) → lowest * size ≤ i → i < lowest * size + size → get_or new i 0 ≡ 0
  lowest_zero i low high = elim (first_there slots free) [
    | inl there ↦ started_zero size some log s lowest i there low high
    | inr behind ↦ started_past size some log s i (let past : slots * size ≤ i = subst (λ k. k * size ≤ i) behind low in omega (arith, past, mul-le-mul_right size (left_within size some log s)))
  ]

  module _ (below : EndBelow stable H.messages) (has : HasNoActive sum size log s H) where
    abbrev new_site : SegmentPosition
    new_site = record { place = stable; slot = lowest * size }

    elsewhere_new : (page : ℕ) (m : Message) → Contains (table H stable page) m → m.place < stable → (lid : ℕ) → m.pointer ≡ Inline lid → StandsElsewhere sum size new new_site lid m
    elsewhere_new page m entry lower lid pointer =
        let u = has.older page m entry lower lid pointer in
        let grown = stands_some sum size log lid (m.place / size) m u.stands in
        let in_file = u.stands.stands.in_file in
        let less : lid / size < slots = in_slots lid m.size (omega (arith, grown)) in_file in
        record {
          begins = u.begins;
          stands = used_message lid u.used (m.place / size) m u.stands;
          apart = other_slot lid m.size lowest (lowest_apart (lid / size) u.used less) u.stands.stands.in_slot;
        }

    pub new_file : IsLogFile sum size new new_site 0 H.messages (StaysFrom H stable)
    new_file = record {
      own = λ m there above lid pointer. absurd (let under = (All-contains (λ (x : Message). (x.place < stable) × (x.place + x.size ≤ stable)) H.messages m below there).0 in omega (arith, under, above));
      elsewhere = λ m stays lower. elim stays [ inl entry ↦ elsewhere_new m.page m entry lower | inr late ↦ absurd (let above = late.0 in omega (arith, above, lower)) ];
      begun = λ more. absurd (omega (arith, more));
      header = λ more. absurd (omega (arith, more));
    }

    -- and its slot has zeros
    pub new_clean : AreZeros new (lowest * size + 0) (lowest * size + size)
    new_clean i above under = lowest_zero i (omega (arith, above)) under
