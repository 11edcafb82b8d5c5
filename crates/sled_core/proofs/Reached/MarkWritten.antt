-- A buffer is written and synced: a mark that stood on the device stands, and so does that of the header with which the buffer begins.
use Rattle.std.proofs.Common.{◌≡◌, ◌⊎◌, ◌∙◌, ◌+◌, ◌-◌, ◌*◌, ◌/◌, ◌%◌, ◌≤◌, ◌≤ℤ◌, ◌++◌, ℕ, ℤ, pos, Bool, true, false, if◌then◌else◌, List, length, take, drop, Option, None, Some, sym, ap, subst}
use Rattle.std.proofs.Common.{arith, inl, inr, length-append}
use Rattle.std.specs.Prelude.{int_lt}
use Rattle.std.proofs.Math.Nat.{mul-mod_left}
use Rattle.std.proofs.lemmas.Bool.{cases_order}
use Rattle.std.proofs.lemmas.Int.{ints}
use Rattle.std.proofs.lemmas.List.{take-append-le, take-take, take_all}
use Rattle.sled_codec.specs.Places.{part}
use Rattle.sled_codec.specs.Record.{IsHeader}
use Rattle.sled_codec.specs.Snapshots.{SnapshotModel}
use Rattle.sled_codec.proofs.Segments.{length-short_header}
use Rattle.sled_store.specs.Device.{overwritten}
use Rattle.sled_store.proofs.LogFile.LogLemmas.{part_written}
use Rattle.sled_store.proofs.LogFile.OverwrittenLemmas.{overwritten-part}
use Rattle.sled_store.proofs.Segments.FilledLemmas.{slot_before}
use Rattle.sled_core.specs.declared.iterator.Segment.{Segment}
use Rattle.sled_core.specs.HeaderMark.{greater_mark}
use Rattle.sled_core.specs.inside.MarksFit.{MarkStands}
use Rattle.sled_core.specs.inside.Scan.{IsFoundSegment}
use Rattle.sled_core.specs.inside.Slots.{marked_at}
use Rattle.sled_core.specs.Tail.{least_place}
use Rattle.sled_core.proofs.Read.FoundLemmas.{found_there}
use Rattle.sled_core.proofs.Tail.Multiples.{put_down}
use Rattle.sled_core.proofs.Torn.WrittenBeside.{found_moved}

module _ (sum : List ℕ → ℕ) (size : ℕ) (log : List ℕ) (some : 256 ≤ size) (k at : ℕ) (xs : List ℕ) (low : k * size ≤ at) (high : at + length xs ≤ k * size + size) (least : ℕ) where
  abbrev new : List ℕ
  new = overwritten log at xs

  -- A header that is found is found still, where it isn't written over.
  pub header_stays : (s : Segment) → IsFoundSegment sum size log least s → (s.slot ≡ k * size → k * size + 20 ≤ at) → IsFoundSegment sum size new least s
  header_stays s found behind =
      let there = found_there sum size log least s found in
      let count : s.slot + 20 - s.slot ≡ 20 = omega arith in
      found_moved sum size log new least s
      (ap (λ n. take n (drop s.slot new)) (sym count) ∙ part_written log at xs s.slot (s.slot + 20) there beside ∙ ap (λ n. take n (drop s.slot log)) count) found
    where
      number : s.slot / size * size ≡ s.slot
      number = let parts = put_down size s.slot in let aligned = found.slot in omega (arith, parts.0, aligned)

      beside : (s.slot + 20 ≤ at) ⊎ (at + length xs ≤ s.slot)
      beside = elim (cases_order (s.slot / size) k) [
        | inl same ↦ (let past = behind (sym number ∙ ap (λ n. n * size) same) in let here : s.slot ≡ k * size = sym number ∙ ap (λ n. n * size) same in inl (omega (arith, past, here)))
        | inr (inl lower) ↦ (let before = slot_before size (s.slot / size) k lower in inl (omega (arith, before, number, low, some)))
        | inr (inr higher) ↦ (let before = slot_before size k (s.slot / size) higher in inr (omega (arith, before, number, high)))
      ]

  -- That with which the buffer begins is found.
  pub header_begins : (place : ℕ) (mark : ℤ) (head rest : List ℕ) → at ≡ k * size → IsHeader sum head (pos place) mark → xs ≡ head ++ rest → least ≤ place → IsFoundSegment sum size new least (marked_at (k * size) place mark)
  header_begins place mark head rest begins header is above = record {
    slot = aligned;
    header = subst (λ (l : List ℕ). IsHeader sum l (pos place) mark) (sym text) header;
    not_below = above;
  } where
    aligned : k * size % size ≡ 0
    aligned = mul-mod_left k size

    long : length head ≡ 20
    long = ap length header.is ∙ length-short_header sum (pos place) mark

    front : take 20 xs ≡ head
    front = ap (take 20) is ∙ take-append-le 20 head rest (omega (arith, long)) ∙ take_all 20 head (omega (arith, long))

    enough : 20 ≤ length xs
    enough = let all = ap length is ∙ length-append head rest in omega (arith, all, long)

    text : part new (k * size) 20 ≡ head
    text =
        ap (λ n. take 20 (drop n new)) (sym begins)
        ∙ sym (take-take 20 (length xs) (drop at new) enough)
        ∙ ap (take 20) (overwritten-part log at xs)
        ∙ front

-- A lower mark stands, too.
pub stands_lower : (sum : List ℕ → ℕ) (size : ℕ) (log : List ℕ) (first : SnapshotModel) (low mark : ℤ) → low ≤ℤ mark → MarkStands sum size log first mark
    → MarkStands sum size log first low
stands_lower sum size log first low mark le (inl under) = inl (omega (arith, ints, le, under))
stands_lower sum size log first low mark le (inr (s, found, up)) = inr (s, found, omega (arith, ints, le, up))

-- where a buffer begins with a header of this mark that header is found
abbrev pub HasHead : (List ℕ → ℕ) → ℕ → List ℕ → ℕ → Option ℤ → Type 0
HasHead sum size log least None = Unit {0}
HasHead sum size log least (Some mark) = (s : Segment) × IsFoundSegment sum size log least s × (s.mark ≡ mark)

-- So the greatest mark stands, once a buffer counts that is written into a slot in which no header is written over.
pub stands_written : (sum : List ℕ → ℕ) (size : ℕ) (log : List ℕ) → 256 ≤ size → (k at : ℕ) (xs : List ℕ) → k * size ≤ at → at + length xs ≤ k * size + size → (first : SnapshotModel)
    → ((s : Segment) → IsFoundSegment sum size log (least_place size first) s → s.slot ≡ k * size → k * size + 20 ≤ at)
    → (mark : Option ℤ) → HasHead sum size (overwritten log at xs) (least_place size first) mark → (durable : ℤ) → MarkStands sum size log first durable
    → MarkStands sum size (overwritten log at xs) first (greater_mark mark durable)
stands_written sum size log some k at xs low high first behind mark head durable stands = by mark head (stays stands) where
  stays : MarkStands sum size log first durable → MarkStands sum size (overwritten log at xs) first durable
  stays (inl lower) = inl lower
  stays (inr (s, found, up)) = inr (s, header_stays sum size log some k at xs low high (least_place size first) s found (behind s found), up)

  by : (o : Option ℤ) → HasHead sum size (overwritten log at xs) (least_place size first) o → MarkStands sum size (overwritten log at xs) first durable
      → MarkStands sum size (overwritten log at xs) first (greater_mark o durable)
  by None head still = still
  by (Some m) (s, found, is) still = by_test (int_lt durable m) where
    by_test : (o : Bool) → MarkStands sum size (overwritten log at xs) first (if o then m else durable)
    by_test true = inr (s, found, subst (λ z. m ≤ℤ z) (sym is) (omega (arith, ints)))
    by_test false = still
