-- A place is looked for in the segment that has it.
use Rattle.std.proofs.Common.{◌≡◌, ◌∙◌, ◌<◌, ◌≤◌, ◌+◌, ◌<ℤ◌, ◌≤ℤ◌, ap, sym, arith, subst, inl, inr, refl, ℕ, ℤ, pos, w64, true, false, negsuc, length, map, Option, Some}
use Rattle.std.specs.Prelude.{int_lt, unsigned_abs}
use Rattle.std.specs.List.{slice_get}
use Rattle.std.proofs.lemmas.Bool.Decides.{nat_tests}
use Rattle.std.proofs.lemmas.Int.{ints, to_z-of_z, to_z_pos}
use Rattle.sled_core.specs.Batches.{LiesInNoFilling}
use Rattle.sled_core.specs.Begun.{SegmentView, records_to, segment_view, view_at}
use Rattle.sled_core.specs.declared.logger.Log.{Log}
use Rattle.sled_core.specs.Fits.{current_of, line_of, reserved_end, segment_size_of}
use Rattle.sled_core.proofs.Line.Entered.{filled_last}
use Rattle.sled_core.proofs.Holds.Facts.{current_facts, nth_facts}
use Rattle.sled_core.proofs.Line.Fillings.{one_filling}
use Rattle.sled_core.proofs.Line.Settles.{number_inside, place_low}
use Rattle.sled_core.proofs.logger.Log.is_in_no_filling.Goals as goal

-- One in front of the first segment lies in front of all.
in_front : {D C : Type 0} (log : Log D C) (place : ℤ) → place <ℤ pos log.segments.first.site.place → LiesInNoFilling (segment_size_of log) (line_of log) place
in_front log place low n v among = let at = (nth_facts log n v among).at in inl (omega (arith, ints, low, at))

pub returns-then-place-self : goal.returns-then-place-self
returns-then-place-self g c =
    let log = c.args.self.now in
    let small = log.line.lies.place_in_reach in
    let read = to_z-of_z w64 c.args.place c.ranges.place in
    let first = to_z_pos w64 log.segments.first.site.place (omega (arith, small)) in
    let test : int_lt c.args.place (pos log.segments.first.site.place) ≡ true = sym (λ i. int_lt (read i) (first i)) ∙ c.if-place-self.true in
    (λ yes. in_front log c.args.place (grind (arith, ints, test)), λ lies. refl)

-- Else one of the segments has it.
module _ {D C : Type 0} (log : Log D C) (place : ℤ) (at : ℕ) (is : place ≡ pos at) (lower : place <ℤ pos (reserved_end log)) (above : log.segments.first.site.place ≤ at) where
  pub inside : at < (current_of log).parts.site.place + segment_size_of log
  inside =
      let last = filled_last (segment_size_of log) log.reserved_to (segment_view log.segments.first) (map segment_view log.segments.behind.items) log.line.filled in
      let short = (current_facts log).short in
      omega (arith, ints, last.1, short, lower, is)

  pub is_filling : (n : ℕ) (v : SegmentView) → slice_get (line_of log) n ≡ Some v → v.parts.site.place ≤ at → at < v.parts.site.place + segment_size_of log → at < v.parts.site.place + records_to v.parts.filled (segment_size_of log) → LiesInNoFilling (segment_size_of log) (line_of log) place
  is_filling n v among low high front = subst (LiesInNoFilling (segment_size_of log) (line_of log)) (sym is) (one_filling log at n v among low high front)

  pub not_filling : (n : ℕ) (v : SegmentView) → slice_get (line_of log) n ≡ Some v → at < v.parts.site.place + segment_size_of log → LiesInNoFilling (segment_size_of log) (line_of log) place → at < v.parts.site.place + records_to v.parts.filled (segment_size_of log)
  not_filling n v among high lies = elim (lies n v among) [ inl front ↦ omega (arith, ints, front, is) | inr far ↦ absurd (omega (arith, ints, far, is, high)) ]

-- what it is as a number
as_number : (z : ℤ) (n : ℕ) → pos n ≤ℤ z → z ≡ pos (unsigned_abs z)
as_number (pos k) n above = refl
as_number (negsuc k) n above = absurd (omega (arith, ints, above))

not_below : (z : ℤ) (n : ℕ) → int_lt z (pos n) ≡ false → pos n ≤ℤ z
not_below z n test = grind (arith, ints, test)

says : {D C : Type 0} (log : Log D C) (place : ℤ) (abs : ℕ) (read first : ℤ) → read ≡ place → first ≡ pos log.segments.first.site.place → abs ≡ unsigned_abs read → int_lt read first ≡ false → (place ≡ pos abs) × (log.segments.first.site.place ≤ abs)
says log place abs read first is begins abs_is test =
    let above = not_below place log.segments.first.site.place (sym (λ i. int_lt (is i) (begins i)) ∙ test) in
    let number : place ≡ pos abs = as_number place log.segments.first.site.place above ∙ ap pos (sym (abs_is ∙ ap unsigned_abs is)) in
    (number, omega (arith, ints, above, number))

pub segment-requires : goal.segment-requires
segment-requires g c =
    let log = c.args.self.now in
    let small = log.line.lies.place_in_reach in
    let at = says log c.args.place c.unsigned_abs-place.result _ _ (to_z-of_z w64 c.args.place c.ranges.place) (to_z_pos w64 log.segments.first.site.place (omega (arith, small))) c.unsigned_abs-place.ensures.value c.if-place-self.false in
    subst (λ k. k ≤ length log.segments.behind.items) (sym c.segment_of.ensures) (number_inside log c.unsigned_abs-place.result at.1 (inside log c.args.place c.unsigned_abs-place.result at.0 c.requires at.1))

pub overflow_sub-result : goal.overflow_sub-result
overflow_sub-result g c =
    let log = c.args.self.now in
    let small = log.line.lies.place_in_reach in
    let is = says log c.args.place c.unsigned_abs-place.result _ _ (to_z-of_z w64 c.args.place c.ranges.place) (to_z_pos w64 log.segments.first.site.place (omega (arith, small))) c.unsigned_abs-place.ensures.value c.if-place-self.false in
    (place_low log c.unsigned_abs-place.result c.segment_of.result c.segment.result.0.place is.1 c.segment_of.ensures c.segment.ensures.place).0

pub returns-in-Some : goal.returns-in-Some
returns-in-Some g c =
    let log = c.args.self.now in
    let size : ℕ = segment_size_of log in
    let at : ℕ = c.unsigned_abs-place.result in
    let small = log.line.lies.place_in_reach in
    let is = says log c.args.place c.unsigned_abs-place.result _ _ (to_z-of_z w64 c.args.place c.ranges.place) (to_z_pos w64 log.segments.first.site.place (omega (arith, small))) c.unsigned_abs-place.ensures.value c.if-place-self.false in
    let has = place_low log c.unsigned_abs-place.result c.segment_of.result c.segment.result.0.place is.1 c.segment_of.ensures c.segment.ensures.place in
    let v : SegmentView = view_at c.segment.result.0 c.segment.result.1.now in
    let up : records_to v.parts.filled size ≡ c.in-Some.from = ap (λ (o : Option ℕ). records_to o size) c.in-Some.is in (
      λ yes. is_filling log c.args.place at is.0 c.requires is.1 c.segment_of.result v c.segment.ensures.view has.0 has.1 (grind (arith, nat_tests, yes, up, has.0)),
      λ lies. (let front = not_filling log c.args.place at is.0 c.requires is.1 c.segment_of.result v c.segment.ensures.view has.1 lies in grind (arith, nat_tests, front, up, has.0)),
    )

pub returns-in-None : goal.returns-in-None
returns-in-None g c =
    let log = c.args.self.now in
    let size : ℕ = segment_size_of log in
    let small = log.line.lies.place_in_reach in
    let is = says log c.args.place c.unsigned_abs-place.result _ _ (to_z-of_z w64 c.args.place c.ranges.place) (to_z_pos w64 log.segments.first.site.place (omega (arith, small))) c.unsigned_abs-place.ensures.value c.if-place-self.false in
    let has = place_low log c.unsigned_abs-place.result c.segment_of.result c.segment.result.0.place is.1 c.segment_of.ensures c.segment.ensures.place in
    let v : SegmentView = view_at c.segment.result.0 c.segment.result.1.now in
    let up : records_to v.parts.filled size ≡ size = ap (λ (o : Option ℕ). records_to o size) c.in-None.is in (
      λ yes. is_filling log c.args.place c.unsigned_abs-place.result is.0 c.requires is.1 c.segment_of.result v c.segment.ensures.view has.0 has.1 (omega (arith, has.1, up)),
      λ lies. refl,
    )
