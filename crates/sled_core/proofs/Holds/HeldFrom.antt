-- What is held counts from a place that isn't above what is written, nor is its segment above the first one; and the mark that joined isn't below it. So it
-- may count from that of a mark that is no lower.
use Rattle.std.proofs.Common.{◌≡◌, ◌⊎◌, ◌+◌, ◌*◌, ◌/◌, ◌≤◌, ◌≤ℤ◌, ℕ, ℤ, pos, List, Option, ap, arith, inl, inr}
use Rattle.std.proofs.lemmas.Bool.{cases_lt}
use Rattle.std.proofs.lemmas.Int.{ints}
use Rattle.sled_codec.specs.History.{History}
use Rattle.sled_codec.specs.Snapshots.{stable_place}
use Rattle.sled_core.specs.declared.iobuf.SegmentPosition.{SegmentPosition}
use Rattle.sled_core.specs.Fits.{IsBegunFrom, held_of}
use Rattle.sled_core.specs.LogSegments.{begins_from}
use Rattle.sled_core.proofs.Tail.MarkPlaces.{begins_lower, begins_under, down}

module _ {sum : List ℕ → ℕ} {mark durable : ℤ} {size : ℕ} {snapshots : ℤ → Option (List ℕ)} {site : SegmentPosition} {from : ℕ} {H : History}
    (ordered : mark ≤ℤ durable) (begun : IsBegunFrom sum mark durable size snapshots site from H) where
  abbrev began : ℕ
  began = stable_place begun.first.stable

  pub held_reached : held_of begun ≤ site.place + from
  held_reached =
      let reached = begun.reached in
      let written = begun.written in
      let under = begins_under size mark (site.place + from) (omega (arith, ints, ordered, written)) in
      omega (arith, reached, under)

  pub held_marked : (cut : ℕ) → mark ≤ℤ pos cut → held_of begun ≤ cut
  held_marked cut joined =
      let low = begun.joined in
      let above : began ≤ cut = omega (arith, ints, low, joined) in
      let under = begins_under size mark cut joined in
      omega (arith, above, under)

  -- So no cut is below it that isn't below the mark that joined, or isn't below what is written.
  pub held_under : (cut : ℕ) → (mark ≤ℤ pos cut) ⊎ (site.place + from ≤ cut) → held_of begun ≤ cut
  held_under cut far = elim far [
    | inl joined ↦ held_marked cut joined
    | inr written ↦ (let reached = held_reached in omega (arith, reached, written))
  ]

  pub held_least : 256 ≤ size → held_of begun / size * size ≤ site.place
  held_least some = elim (cases_lt began (begins_from size mark)) [
    | inl higher ↦ (
        let is : held_of begun ≡ begins_from size mark = omega (arith, higher) in
        let same : held_of begun / size * size ≡ begins_from size mark / size * size = ap (λ n. n / size * size) is in
        let low = down size (begins_from size mark) in
        let up = begins_lower size some mark durable ordered in
        let marked = begun.marked in
        omega (arith, same, low, up, marked))
    | inr lower ↦ (
        let is : held_of begun ≡ began = omega (arith, lower) in
        let same : held_of begun / size * size ≡ began / size * size = ap (λ n. n / size * size) is in
        let least = begun.least in
        omega (arith, same, least))
  ]
