-- What is held may count from the segment of a mark that stands: that is no higher than the stable place, and no recovery begins its tail in front of it.
use Rattle.std.proofs.Common.{◌≡◌, ◌*◌, ◌/◌, ◌<◌, ◌≤◌, ◌<ℤ◌, ℕ, ℤ, pos, negsuc, List, ap, arith, inl, inr, refl}
use Rattle.std.proofs.lemmas.Bool.{cases_lt}
use Rattle.sled_codec.specs.History.{History}
use Rattle.sled_codec.specs.Snapshots.{SnapshotModel, stable_place}
use Rattle.sled_core.specs.LogSegments.{begins_from, held_from}
use Rattle.sled_core.specs.Tail.{place_of_mark, greatest_mark, least_place, tail_begins}
use Rattle.sled_core.specs.inside.MarksFit.{MarkStands}
use Rattle.sled_core.specs.inside.Recoverable.{IsMarkBelow}
use Rattle.sled_core.proofs.Reached.StandsTo.{StandsTo}
use Rattle.sled_core.proofs.Reached.Raised.{held_higher}
use Rattle.sled_core.proofs.Tail.GreatestMark.{mark_below}
use Rattle.sled_core.proofs.Tail.MarkPlaces.{begins_lower, down}
use Rattle.sled_core.proofs.Tail.Multiples.{apart, lower_multiple, put_down, raised_within}
use Rattle.sled_core.proofs.Tail.SegmentsFrom.{mark_within}

place_under : (mark : ℤ) (cut : ℕ) → mark <ℤ pos cut → place_of_mark mark ≤ cut
place_under (pos n) cut less = let under : n < cut = mark_below (pos n) n cut refl less in omega (arith, under)
place_under (negsuc n) cut less = omega arith

module _ (size : ℕ) (some : 256 ≤ size) where
  -- The segment of a mark that lies below a place, or in front of the next segment, begins no higher than the place.
  pub begins_below : (H : History) (cut : ℕ) (mark : ℤ) → IsMarkBelow size H cut mark → begins_from size mark ≤ cut
  begins_below H cut mark (inl less) = let low = place_under mark cut less in let le = down size (place_of_mark mark) in omega (arith, low, le)
  begins_below H cut mark (inr (n, at, near, message, batch, ended)) =
      let is : place_of_mark mark ≡ n = ap place_of_mark at in
      let parts = put_down size n in
      let whole = put_down size cut in
      let within = raised_within size some cut in
      let same : begins_from size mark ≡ n / size * size = ap (λ k. k / size * size) is in
      elim (cases_lt (cut / size * size) (n / size * size)) [
        | inl over ↦ (let far = apart size (omega (arith, some)) (cut / size * size) (n / size * size) whole.1 parts.1 over in absurd (omega (arith, far, parts.0, near, within)))
        | inr le ↦ omega (arith, le, whole.0, same)
      ]

module _ (sum : List ℕ → ℕ) (size : ℕ) (log : List ℕ) (some : 256 ≤ size) (H : History) (A : ℕ) (first : SnapshotModel) (reach : ℕ) (is : StandsTo sum size log H A first reach) (mark : ℤ)
    (stands : MarkStands sum size log first mark) where
  abbrev began : ℕ
  began = stable_place first.stable

  abbrev least : ℕ
  least = least_place size first

  -- It begins no higher than the stable place,
  pub marks_high : held_from size began mark ≤ A
  marks_high = elim stands [
    | inl low ↦ (
        let le = begins_lower size some mark (pos began) low in
        let here = down size began in
        let high = is.not_below in
        omega (arith, le, here, high))
    | inr (s, found, up) ↦ (
        let le = begins_lower size some mark s.mark up in
        let below = begins_below size some H A s.mark (is.marks_below s ((is.numbers.found s).1 found)) in
        let high = is.not_below in
        omega (arith, le, below, high))
  ]

  -- and the tail of a recovery begins there or above,
  began_low : began / size * size ≤ tail_begins size least is.ordering
  began_low = let up = lower_multiple size some began is.from is.from_low in let tail = is.tail_from in omega (arith, up, tail)

  pub mark_low : begins_from size mark ≤ tail_begins size least is.ordering
  mark_low = elim stands [
    | inl low ↦ (let le = begins_lower size some mark (pos began) low in let tail = began_low in omega (arith, le, tail))
    | inr (s, found, up) ↦ (
        let le = begins_lower size some mark s.mark up in
        let most = mark_within least is.ordering s ((is.numbers.found s).1 found) in
        let tail = lower_multiple size some (place_of_mark s.mark) (greatest_mark least is.ordering) most in
        omega (arith, le, tail))
  ]

  pub marks_tail : held_from size began mark / size * size ≤ tail_begins size least is.ordering
  marks_tail = elim (cases_lt began (begins_from size mark)) [
    | inl higher ↦ (
        let from : held_from size began mark ≡ begins_from size mark = omega (arith, higher) in
        let le = down size (begins_from size mark) in
        let tail = mark_low in
        let same : held_from size began mark / size * size ≡ begins_from size mark / size * size = ap (λ n. n / size * size) from in
        omega (arith, same, le, tail))
    | inr lower ↦ (
        let from : held_from size began mark ≡ began = omega (arith, lower) in
        let tail = began_low in
        let same : held_from size began mark / size * size ≡ began / size * size = ap (λ n. n / size * size) from in
        omega (arith, same, tail))
  ]

  -- so what is held counts from it, where it counted from no higher place.
  abbrev pub marks_raise : is.from ≤ held_from size began mark → StandsTo sum size log H A first reach
  marks_raise up = held_higher sum size log some H A first reach is (held_from size began mark) up marks_high marks_tail
