-- A log file that is read without a gap up to a place that the log has reached: the tail ends there or above, or nothing stands from the snapshot on.
use Rattle.std.proofs.Common.{⊎_elim, ◌≡◌, ◌≢◌, ◌⊎◌, ◌∙◌, ◌+◌, ◌-◌, ◌*◌, ◌/◌, ◌%◌, ◌<◌, ◌≤◌, ℕ, pos, List, [], ◌∷◌, Some, None, refl, sym, ap, arith, inl, inr}
use Rattle.std.specs.List.{Contains}
use Rattle.std.proofs.lemmas.Bool.{cases_lt}
use Rattle.sled_codec.specs.Coords.{raised}
use Rattle.sled_codec.specs.History.{History}
use Rattle.sled_codec.specs.Snapshots.{SnapshotModel, stable_place}
use Rattle.sled_core.specs.declared.iterator.Segment.{Segment}
use Rattle.sled_core.specs.declared.iterator.scan.ScanEnd.{ScanEnd}
use Rattle.sled_core.specs.declared.iterator.scan.ScanEnd.TheVariants.{Full, Capped, Broken}
use Rattle.sled_core.proofs.Read.FoundLemmas.{pos_injective}
use Rattle.sled_core.specs.Tail.{Scanned, GoesOn, IsTail, greatest_mark, tail_begins, tail_end, least_place}
use Rattle.sled_core.proofs.Tail.OneTail.{segment_there}
use Rattle.sled_core.proofs.Tail.GreatestMark.{greatest_is, mark_below}
use Rattle.sled_core.proofs.Tail.Multiples.{put_down, one_multiple, next_multiple, lower_multiple}
use Rattle.sled_core.proofs.Tail.Tails.{known, one_reading, tail_behind, tail_some, tail_there}
use Rattle.sled_core.proofs.Tail.SegmentsFrom.{greatest_above, tail_low}
pub use Rattle.sled_core.specs.inside.Reached.{StandsTo}

-- It stands so, and what is held counts from here.
abbrev pub StandsFrom : (List ℕ → ℕ) → ℕ → List ℕ → History → ℕ → SnapshotModel → ℕ → ℕ → Type 0
StandsFrom sum size log H A first reach from = (is : StandsTo sum size log H A first reach) × (is.from ≡ from)

-- A tail that begins no lower than a segment which begins at the stable place or above it begins at the snapshot's: no mark is as high.
pub tail_of_snapshot : (sum : List ℕ → ℕ) (size : ℕ) (log : List ℕ) → 256 ≤ size → (H : History) (A : ℕ) (first : SnapshotModel) (reach : ℕ) (is : StandsTo sum size log H A first reach)
    (place : ℕ) → place % size ≡ 0 → A ≤ place → place ≤ tail_begins size (least_place size first) is.ordering → place ≤ least_place size first
tail_of_snapshot sum size log some H A first reach is place aligned above far = by (greatest_is (least_place size first) is.ordering) where
  greatest : ℕ
  greatest = greatest_mark (least_place size first) is.ordering

  low : place ≤ greatest
  low = let parts = put_down size greatest in omega (arith, far, parts.0)

  not_raised : raised size A ≤ place
  not_raised =
      let own = one_multiple size some place (place + (size - 1)) aligned (omega arith) (omega (arith, some)) in
      let within = lower_multiple size some (A + (size - 1)) (place + (size - 1)) (omega (arith, above)) in
      omega (arith, own, within)

  by : (greatest ≡ least_place size first) ⊎ ((s : Segment) × Contains is.ordering s × (s.mark ≡ pos greatest)) → place ≤ least_place size first
  by (inl same) = omega (arith, same, low)
  by (inr (s, there, mark)) = ⊎_elim
      (λ lower. let under : greatest < A = mark_below s.mark greatest A mark lower in absurd (omega (arith, under, low, above)))
      (λ within. let same : greatest ≡ within.0 = pos_injective greatest within.0 (sym mark ∙ within.1) in absurd (omega (arith, same, within.2, not_raised, low)))
      (is.marks_below s there)

module _ (sum : List ℕ → ℕ) (size : ℕ) (log : List ℕ) (some : 256 ≤ size) (H : History) (first : SnapshotModel) (reach : ℕ) (is : StandsTo sum size log H reach first reach) where
  abbrev pub least : ℕ
  least = least_place size first

  abbrev pub begins : ℕ
  begins = tail_begins size least is.ordering

  abbrev place : ℕ
  place = stable_place first.stable

  -- The tail reaches as far, from any of these segments on.
  Reaches : List Scanned → Type 0
  Reaches tail = (end : ℕ) × (tail_end tail ≡ Some end) × (reach ≤ end)

  tail_reaches : (z : ℕ) (tail : List Scanned) → IsTail sum size log is.ordering z tail → z % size ≡ 0 → is.from / size * size ≤ z → z < reach → Reaches tail
  unfolding Reaches
  tail_reaches z [] tail aligned low under =
      let found = is.gapless z aligned low under in
      absurd (tail found.0.segment (segment_there sum size log is.ordering is.scanned is.reads found.0 found.1).0 found.2)
  tail_reaches z (x ∷ []) tail aligned low under =
      let found = is.gapless z aligned low under in
      let there = known sum size log some least is.ordering is.numbers is.scanned is.reads x tail.0 tail.2 in
      let same : found.0 ≡ x = one_reading sum size log some least is.ordering is.numbers is.scanned is.reads found.0 x found.1 there (found.2 ∙ sym tail.1) in
      ⊎_elim
      (λ far. (x.segment.place + x.stop, refl, omega (arith, far, tail.1, ap (λ (t : Scanned). t.stop) same)))
      (λ leads. absurd (no_end x.why tail.3 (λ broken. leads.0 (ap (λ (t : Scanned). t.why) same ∙ broken)) leads.1 leads.2 leads.3))
      found.3
    where
      no_end : (why : ScanEnd) → GoesOn why [] (IsTail sum size log is.ordering (z + size) []) → (why ≢ Broken) → (u : Segment) → Contains is.ordering u → u.place ≡ z + size → ⊥
      no_end Broken none other u there at = other refl
      no_end Full none other u there at = none u there at
      no_end Capped none other u there at = none u there at
  tail_reaches z (x ∷ y ∷ ys) tail aligned low under =
      let on = (tail_behind sum size log some least is.ordering is.numbers is.scanned is.reads z x y ys tail).1 in
      elim (cases_lt (z + size) reach) [
        | inl below ↦ tail_reaches (z + size) (y ∷ ys) on (next_multiple size z aligned) (omega (arith, low)) below
        | inr past ↦ (
            let e = tail_some sum size log some least is.ordering is.numbers is.scanned is.reads (z + size) y ys on in
            (e.0, e.1, omega (arith, e.2, past)))
      ]

  -- Where the tail begins: at the segment of the snapshot or above it, and no higher than the place that was reached.

  pub aligned : begins % size ≡ 0
  aligned = (put_down size (greatest_mark least is.ordering)).1

  pub begins_above : least ≤ begins
  begins_above =
      let low = put_down size place in
      let own = put_down size least in
      let far = lower_multiple size some least (greatest_mark least is.ordering) (greatest_above least is.ordering) in
      omega (arith, far, own.0, low.1)

  pub begins_below : begins ≤ reach / size * size
  begins_below = tail_low size some H reach is.ordering is.marks_below least (lower_multiple size some place reach is.not_below)

  -- Where it begins at that place, that is the snapshot's own.
  snapshot_there : begins ≡ reach → place ≡ reach
  snapshot_there at =
      let own = tail_of_snapshot sum size log some H reach first reach is reach (ap (λ n. n % size) (sym at) ∙ aligned) (omega arith) (omega (arith, at)) in
      let parts = put_down size place in
      let above = is.not_below in
      omega (arith, own, parts.0, above)

  -- The tail of the log file.

  pub the_tail : (tail : List Scanned) × IsTail sum size log is.ordering begins tail
  the_tail = tail_there sum size log some least is.ordering is.numbers is.scanned is.reads begins

  -- It ends at that place or above, or there is none, and the snapshot ends there.
  pub tail_ends : (tail : List Scanned) → IsTail sum size log is.ordering begins tail → ((tail_end tail ≡ None) × (begins ≡ reach) × (place ≡ reach)) ⊎ ((end : ℕ) × (tail_end tail ≡ Some end) × (reach ≤ end))
  unfolding Reaches
  tail_ends tail is_tail = elim (cases_lt begins reach) [
    | inl under ↦ inr (tail_reaches begins tail is_tail aligned is.tail_from under)
    | inr le ↦ (
        let parts = put_down size reach in
        let low = begins_below in
        by (omega (arith, le, low, parts.0)) tail is_tail)
  ] where
    by : begins ≡ reach → (xs : List Scanned) → IsTail sum size log is.ordering begins xs → ((tail_end xs ≡ None) × (begins ≡ reach) × (place ≡ reach)) ⊎ ((end : ℕ) × (tail_end xs ≡ Some end) × (reach ≤ end))
    by at [] is_it = inl (refl, at, snapshot_there at)
    by at (x ∷ xs) is_it = let e = tail_some sum size log some least is.ordering is.numbers is.scanned is.reads begins x xs is_it in inr (e.0, e.1, omega (arith, e.2, at))
