-- What fills the segments of a log, and which places lie in nothing of that.
use Rattle.std.proofs.Common.{◌≡◌, ◌⊎◌, ◌∙◌, ◌<◌, ◌≤◌, ◌+◌, ◌*◌, ◌<ℤ◌, ◌-ℤ◌, sym, ap, arith, subst, inl, inr, ℕ, zero, suc, pos, List, [], ◌∷◌, length, Some}
use Rattle.std.specs.List.{slice_get}
use Rattle.std.proofs.Math.Nat.{suc-mul}
use Rattle.std.proofs.lemmas.Bool.{cases_lt, cases_order}
use Rattle.std.proofs.lemmas.Int.{ints}
use Rattle.sled_core.specs.Batches.{LiesInNoFilling}
use Rattle.sled_core.specs.inside.Begun.{AreFilled}
use Rattle.sled_core.specs.Begun.{SegmentView, records_to}
use Rattle.sled_core.specs.inside.Buffers.{records_end}
use Rattle.sled_core.specs.declared.logger.Log.{Log}
use Rattle.sled_core.specs.Fits.{line_of, reserved_end, segment_size_of}
use Rattle.sled_core.proofs.Holds.PegLemmas.{IsOff, LiesOff}
use Rattle.sled_core.proofs.Line.Entered.{unfilled_to}
use Rattle.sled_core.proofs.Holds.Facts.{nth_facts}
use Rattle.sled_core.proofs.Line.Segments.{AreSegments, line_segments}

-- The records of a segment go up to what fills it, if anything does.
pub recorded_nth : (size to place : ℕ) (vs : List SegmentView) → AreSegments size place vs → AreFilled size to vs → (n : ℕ) (v : SegmentView) → slice_get vs n ≡ Some v
    → records_to v.parts.filled (length v.parts.bytes) ≤ records_end v.parts.reserved (length v.parts.bytes)
recorded_nth size to place [] are filled n v there = cc
recorded_nth size to place (x ∷ []) are filled zero v there =
    let same : x ≡ v = cc in
    subst (λ (y : SegmentView). records_to y.parts.filled (length y.parts.bytes) ≤ records_end y.parts.reserved (length y.parts.bytes)) same
    (let whole = filled.4 in omega (arith, whole, unfilled_to x.parts.filled (length x.parts.bytes) filled.3))
recorded_nth size to place (x ∷ []) are filled (suc n) v there = cc
recorded_nth size to place (x ∷ y ∷ ys) are filled zero v there =
    let same : x ≡ v = cc in
    let full = filled.0 in let begins = are.0.begins in let short = are.0.short in
    let whole : size ≡ length x.parts.bytes = omega (arith, full, begins, short) in
    subst (λ (z : SegmentView). records_to z.parts.filled (length z.parts.bytes) ≤ records_end z.parts.reserved (length z.parts.bytes)) same
    (subst (λ n. records_to x.parts.filled n ≤ records_end x.parts.reserved n) whole filled.3)
recorded_nth size to place (x ∷ y ∷ ys) are filled (suc n) v there = recorded_nth size to (place + size) (y ∷ ys) are.1 filled.2 n v there

-- A place in front of where what was reserved ends, which lies in nothing that fills a segment, lies in front of where the records of it end, or behind it.
line_off : (size to place peg : ℕ) (vs : List SegmentView) → AreSegments size place vs → AreFilled size to vs → peg < to → (n : ℕ) (v : SegmentView) → slice_get vs n ≡ Some v
    → (peg < v.parts.site.place + records_to v.parts.filled size) ⊎ (v.parts.site.place + size ≤ peg) → LiesOff size v.parts.site v.parts.reserved v.parts.bytes peg
line_off size to place peg [] are filled low n v there lies = cc
line_off size to place peg (x ∷ []) are filled low zero v there lies =
    let same : x ≡ v = cc in
    let inside = filled.1 in let whole = filled.4 in
    subst (λ (y : SegmentView). LiesOff size y.parts.site y.parts.reserved y.parts.bytes peg) same (inl (omega (arith, low, inside, whole)))
line_off size to place peg (x ∷ []) are filled low (suc n) v there lies = cc
line_off size to place peg (x ∷ y ∷ ys) are filled low zero v there lies =
    let same : x ≡ v = cc in
    let full = filled.0 in let begins = are.0.begins in let short = are.0.short in let up = filled.3 in
    let whole : size ≡ length x.parts.bytes = omega (arith, full, begins, short) in
    subst (λ (z : SegmentView). (peg < z.parts.site.place + records_to z.parts.filled size) ⊎ (z.parts.site.place + size ≤ peg) → LiesOff size z.parts.site z.parts.reserved z.parts.bytes peg) same
    (λ its. elim its [
      | inl front ↦ inl (subst (λ n. peg < x.parts.site.place + records_end x.parts.reserved n) whole (omega (arith, front, up)))
      | inr far ↦ inr far
    ]) lies
line_off size to place peg (x ∷ y ∷ ys) are filled low (suc n) v there lies = line_off size to (place + size) peg (y ∷ ys) are.1 filled.2 low n v there lies

-- Where what was reserved ends within a segment, or with it, its records go up to there.
end_nth : (size to place : ℕ) (vs : List SegmentView) → AreSegments size place vs → AreFilled size to vs → (n : ℕ) (v : SegmentView) → slice_get vs n ≡ Some v → (to ≤ v.parts.site.place + records_to v.parts.filled size) ⊎ (v.parts.site.place + size < to)
end_nth size to place [] are filled n v there = cc
end_nth size to place (x ∷ []) are filled zero v there =
    let same : x ≡ v = cc in
    let inside = filled.1 in let short = are.0.short in
    subst (λ (y : SegmentView). (to ≤ y.parts.site.place + records_to y.parts.filled size) ⊎ (y.parts.site.place + size < to)) same (inl (omega (arith, inside, short, unfilled_to x.parts.filled size filled.3)))
end_nth size to place (x ∷ []) are filled (suc n) v there = cc
end_nth size to place (x ∷ y ∷ ys) are filled zero v there =
    let same : x ≡ v = cc in
    let lies = filled.4 in
    subst (λ (z : SegmentView). (to ≤ z.parts.site.place + records_to z.parts.filled size) ⊎ (z.parts.site.place + size < to)) same
    (elim (cases_lt (x.parts.site.place + size) to) [ inl far ↦ inr far | inr inside ↦ inl (lies inside) ])
end_nth size to place (x ∷ y ∷ ys) are filled (suc n) v there = end_nth size to (place + size) (y ∷ ys) are.1 filled.2 n v there

module _ {D C : Type 0} (log : Log D C) where
  abbrev size : ℕ
  size = segment_size_of log

  pub log_recorded : (n : ℕ) (v : SegmentView) → slice_get (line_of log) n ≡ Some v → records_to v.parts.filled (length v.parts.bytes) ≤ records_end v.parts.reserved (length v.parts.bytes)
  log_recorded = recorded_nth size log.reserved_to log.segments.first.site.place (line_of log) (line_segments log) log.line.filled

  pub log_off : (peg : ℕ) → peg < reserved_end log → LiesInNoFilling size (line_of log) (pos peg) → (n : ℕ) (v : SegmentView) → slice_get (line_of log) n ≡ Some v → IsOff size peg v.parts
  log_off peg low lies n v there =
      let its : (peg < v.parts.site.place + records_to v.parts.filled size) ⊎ (v.parts.site.place + size ≤ peg) = elim (lies n v there) [
        | inl front ↦ inl (omega (arith, ints, front))
        | inr far ↦ inr (omega (arith, ints, far))
      ] in
      record { off = line_off size log.reserved_to log.segments.first.site.place peg (line_of log) (line_segments log) log.line.filled low n v there its; filled = its; fresh = (nth_facts log n v there).fresh }

  -- A place in one of the segments lies in nothing that fills one where it doesn't lie in what fills that one.
  pub one_filling : (place n : ℕ) (v : SegmentView) → slice_get (line_of log) n ≡ Some v → v.parts.site.place ≤ place → place < v.parts.site.place + size → place < v.parts.site.place + records_to v.parts.filled size → LiesInNoFilling size (line_of log) (pos place)
  one_filling place n v there low high front m w among =
      let here = (nth_facts log n v there).at in
      let its = (nth_facts log m w among).at in
      elim (cases_order m n) [
        | inl same ↦ (
            let both : Some v ≡ Some w = sym there ∙ ap (slice_get (line_of log)) (sym same) ∙ among in
            let one : v ≡ w = cc in
            inl (subst (λ (x : SegmentView). pos place <ℤ pos (x.parts.site.place + records_to x.parts.filled size)) one (omega (arith, ints, front))))
        | inr (inl before) ↦ (let far = steps m n size before in inr (omega (arith, ints, here, its, low, far)))
        | inr (inr behind) ↦ (let far = steps n m size behind in inl (omega (arith, ints, here, its, high, far)))
      ]
    where
      steps : (m n size : ℕ) → m < n → m * size + size ≤ n * size
      steps m zero size less = absurd (omega (arith, less))
      steps zero (suc n) size less = omega (arith, suc-mul n size)
      steps (suc m) (suc n) size less = let rest = steps m n size (omega (arith, less)) in omega (arith, suc-mul m size, suc-mul n size, rest)

  -- The greatest place that was reserved lies so.
  pub end_off : LiesInNoFilling size (line_of log) (pos (reserved_end log) -ℤ pos 1)
  end_off n v there = elim (end_nth size log.reserved_to log.segments.first.site.place (line_of log) (line_segments log) log.line.filled n v there) [
    | inl front ↦ inl (omega (arith, ints, front))
    | inr far ↦ inr (omega (arith, ints, far))
  ]
