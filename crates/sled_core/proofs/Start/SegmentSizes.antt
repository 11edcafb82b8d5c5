-- What the entries of a table that lie in one slot sum up to, where they are of one segment.
use Rattle.std.proofs.Common.{◌≡◌, ◌≤◌, ◌<◌, ◌+◌, ◌*◌, ◌/◌, ◌%◌, ◌^◌, ◌==◌, ◌∙◌, ℕ, Bool, true, false, if◌then◌else◌, List, [], ◌∷◌, Option, Some, None, refl, sym, ap, arith, eqb-true, eq-eqb, get_or}
use Rattle.std.specs.List.{All, Contains, sum_by}
use Rattle.std.proofs.Math.Nat.{mod-add-div', div-mul-le_self}
use Rattle.std.proofs.lemmas.List.Elements.{All-tail}
use Rattle.std.proofs.lemmas.List.Sums.{sum_by-cons}
use Rattle.sled_codec.specs.History.{Message, History}
use Rattle.sled_codec.specs.PageTables.{IsTable}
use Rattle.sled_codec.specs.Snapshots.{Entry, Page}
use Rattle.sled_codec.specs.WellFormed.{LieApart}
use Rattle.sled_store.specs.Begin.{slot_of, segment_number_of, entries_of, sizes_in}
use Rattle.sled_store.specs.SlotTables.{number_in}
use Rattle.sled_store.proofs.Segments.Elements.{all_from_in}
use Rattle.sled_store.proofs.Segments.EntryLemmas.{first_in, no_sizes}
use Rattle.sled_store.proofs.Segments.TableWeights.{weight, table_counts}
use Rattle.sled_store.proofs.Marks.StandingSums.{sum_less as less_sum}

module _ (size n : ℕ) where
  -- what counts of an entry and of a message is what is of the segment
  abbrev of_entry : Entry → ℕ
  of_entry e = if segment_number_of size e == n then e.2 else 0

  abbrev of_message : Message → ℕ
  of_message m = if m.place / size == n then weight m else 0

  -- a message ends in its segment
  abbrev EndsInside : Message → Type 0
  EndsInside m = m.place % size + m.size ≤ size

  -- the messages of the segment lie in it one behind another
  messages_sum : (from : ℕ) (ms : List Message) → from ≤ n * size + size → LieApart ms → All EndsInside ms → All (λ m. m.place / size ≡ n → from ≤ m.place) ms → sum_by of_message ms + 33 * from ≤ 33 * (n * size + size)
  messages_sum from [] inside apart ends above = omega (arith, inside)
  messages_sum from (m ∷ ms) inside apart ends above = by (m.place / size == n) refl (λ from inside. messages_sum from ms inside apart.2 (All-tail EndsInside m ms ends))
    where
      by : (b : Bool) → (m.place / size == n) ≡ b → ((from : ℕ) → from ≤ n * size + size → All (λ x. x.place / size ≡ n → from ≤ x.place) ms → sum_by of_message ms + 33 * from ≤ 33 * (n * size + size)) → sum_by of_message (m ∷ ms) + 33 * from ≤ 33 * (n * size + size)
      by true test later =
          let own : m.place / size ≡ n = eqb-true (m.place / size) n test in
          let low : from ≤ m.place = above 0 m (omega arith) own in
          let end : m.place % size + m.size ≤ size = ends 0 m (omega arith) in
          let high : m.place + m.size ≤ n * size + size = omega (arith, end, mod-add-div' m.place size, ap (λ k. k * size) own) in
          let some = apart.0 in
          let rest = later (m.place + m.size) high (λ k d lt _. apart.1 k d lt) in
          let counts : of_message m ≡ m.size + 32 = ap (λ (b : Bool). if b then weight m else 0) test in
          omega (arith, some, low, rest, counts, sum_by-cons of_message m ms)
      by false test later =
          let rest = later from inside (All-tail (λ (x : Message). x.place / size ≡ n → from ≤ x.place) m ms above) in
          let counts : of_message m ≡ 0 = ap (λ (b : Bool). if b then weight m else 0) test in
          omega (arith, rest, counts, sum_by-cons of_message m ms)

  -- So the entries of the segment sum up to no more than 33 of it.
  entries_sum : (pages : List Page) (H : History) (cut : ℕ) → IsTable pages H cut → LieApart H.messages → ((m : Message) → Contains H.messages m → EndsInside m) → sum_by of_entry (entries_of pages) ≤ 33 * size
  entries_sum pages H cut is apart ends =
      let all = messages_sum (n * size) H.messages (omega arith) apart (all_from_in EndsInside H.messages ends) (λ k d lt own. let begins = div-mul-le_self (get_or H.messages k d).place size in omega (arith, begins, ap (λ j. j * size) own)) in
      omega (arith, all, table_counts of_entry of_message (λ m. less (m.place / size == n) m.size (m.size + 32) (omega arith)) (λ m. less (m.place / size == n) 32 (m.size + 32) (omega arith)) pages H cut is)
    where
      less : (b : Bool) (x y : ℕ) → x ≤ y → (if b then x else 0) ≤ (if b then y else 0)
      less true x y le = le
      less false x y le = omega arith

-- What the entries of a slot sum up to is counted in 63 bits, where those of one slot are of one segment.
pub slot_counted : (size : ℕ) → size ≤ 8388608 → (pages : List Page) (H : History) (cut : ℕ) → IsTable pages H cut → LieApart H.messages → ((m : Message) → Contains H.messages m → m.place % size + m.size ≤ size)
    → ((d e : Entry) → Contains (entries_of pages) d → Contains (entries_of pages) e → slot_of size d ≡ slot_of size e → segment_number_of size d ≡ segment_number_of size e) → (k : ℕ) → sizes_in size k (entries_of pages) < 2 ^ 63
slot_counted size most pages H cut is apart ends one k = by (number_in size k (entries_of pages)) refl
  where
    by : (o : Option ℕ) → number_in size k (entries_of pages) ≡ o → sizes_in size k (entries_of pages) < 2 ^ 63
    by None none = omega (arith, no_sizes size k (entries_of pages) none)
    by (Some n) some =
        let first = first_in size k (entries_of pages) n some in
        let less = less_sum (λ (e : Entry). if slot_of size e == k then e.2 else 0) (of_entry size n) (entries_of pages) (λ e there. each e (λ here. one e first.0 there first.1 (here ∙ sym first.2) ∙ first.3) (slot_of size e == k) refl) in
        omega (arith, less, entries_sum size n pages H cut is apart ends, most)
      where
        each : (e : Entry) → (slot_of size e ≡ k → segment_number_of size e ≡ n) → (b : Bool) → (slot_of size e == k) ≡ b → (if b then e.2 else 0) ≤ of_entry size n e
        each e number true here =
            let counts : of_entry size n e ≡ e.2 = ap (λ (b : Bool). if b then e.2 else 0) (eq-eqb (segment_number_of size e) n (number (eqb-true (slot_of size e) k here))) in
            omega (arith, counts)
        each e number false here = omega arith
