-- The segments that a pass over a recoverable log file doesn't read lie at or above the cut.
use Rattle.std.proofs.Common.{⊎_elim, ◌≡◌, ◌⊎◌, ◌∙◌, ◌+◌, ◌%◌, ◌<◌, ◌≤◌, ℕ, ℤ, zero, suc, Bool, true, false, nat_lt, if◌then◌else◌, List, [], ◌∷◌, length, drop, Option, Some, None, refl, sym, ap, subst, arith, inl, inr}
use Rattle.std.specs.List.{Contains}
use Rattle.std.proofs.Math.Seq.{drop-nil}
use Rattle.std.proofs.lemmas.Bool.{ltb-true, ltb-false}
use Rattle.sled_codec.specs.History.{History}
use Rattle.sled_codec.specs.Snapshots.{SnapshotModel, stable_place}
use Rattle.sled_store.proofs.Segments.Elements.{in_first, in_rest, in_cases, in_nothing}
use Rattle.sled_core.specs.declared.iterator.Segment.{Segment}
use Rattle.sled_core.specs.inside.Recoverable.{IsRecoverableLog, AreRecoverableBlobs, scanned_below}
use Rattle.sled_log.specs.Recovery.{Scanned, IsTail, tail_begins, tail_end, begun_below, AreScanned, IsReplayed, StopsOrGoesOn, AreReplayed, open_at, stops_in, slots_in_order, least_place}
use Rattle.sled_core.proofs.Tail.OneTail.{Rises, rises_of, place_aligned, in_below}
use Rattle.sled_log.proofs.Recovers.OnePass.{begins_alike}
use Rattle.sled_core.proofs.Tail.Multiples.{put_down}
use Rattle.sled_log.proofs.Recovers.PassCut.{further, whole, row, tail_last, own_row, in_pass, stopped, last_known, last_place, cut_bounds}
use Rattle.sled_core.proofs.Tail.Rows.{IsRow, stand_rises, met_stand}
use Rattle.sled_log.proofs.Recovers.Undamaged.{ReadsNone}

in_drop : {X : Type 0} (n : ℕ) (xs : List X) (y : X) → Contains (drop n xs) y → Contains xs y
in_drop zero xs y there = there
in_drop (suc n) [] y there = there
in_drop (suc n) (x ∷ xs) y there = in_rest x y xs (in_drop n xs y there)

-- a slot of segments is that of one of them
slot_from : (ss : List Segment) (slot : ℕ) → Contains (slots_in_order ss) slot → (s : Segment) × Contains ss s × (s.slot ≡ slot)
slot_from [] slot there = absurd (in_nothing slot there)
slot_from (s ∷ ss) slot there = ⊎_elim (λ is. (s, in_first s ss, is)) (λ later. let rest = slot_from ss slot later in (rest.0, in_rest s rest.0 ss rest.1, rest.2)) (in_cases s.slot slot (slots_in_order ss) there)

-- a tail that ends nowhere is empty
pub no_end : (tail : List Scanned) → tail_end tail ≡ None → tail ≡ []
no_end [] none = refl
no_end (x ∷ []) none = cc
no_end (x ∷ y ∷ ys) none = let rest = no_end (y ∷ ys) none in cc

-- A pass stops no higher than in the first segment with a batch that is open.
stops_first : (sum : List ℕ → ℕ) (size : ℕ) (log : List ℕ) (some : 256 ≤ size) (end : ℕ) (s : Scanned) (ss : List Scanned) (o : Option ℕ) → IsRow sum size log some (s ∷ ss) → open_at end s.met ≡ o
    → (t : Scanned) → Contains (s ∷ ss) t → (p : ℕ) → open_at end t.met ≡ Some p → (stops_in end s o ss).0.place ≤ t.segment.place
stops_first sum size log some end s ss (Some q) row is t there p at = ⊎_elim
    (λ same. omega (arith, ap (λ (x : Scanned). x.segment.place) same))
    (λ later. let far = row.1 t later in omega (arith, far))
    (in_cases s t ss there)
stops_first sum size log some end s [] None row is t there p at = ⊎_elim (λ same. omega (arith, ap (λ (x : Scanned). x.segment.place) same)) (λ none. absurd (in_nothing t none)) (in_cases s t [] there)
stops_first sum size log some end s (u ∷ us) None row is t there p at = ⊎_elim
    (λ same. let no : None ≡ Some p = sym is ∙ ap (λ (x : Scanned). open_at end x.met) same ∙ at in cc)
    (λ later. stops_first sum size log some end u us (open_at end u.met) row.2 refl t later p at)
    (in_cases s t (u ∷ us) there)

module _ (sum : List ℕ → ℕ) (size : ℕ) (log : List ℕ) (end : ℕ) where
  -- a segment that isn't read begins no lower than the end of the tail, or behind one with a batch that is open
  abbrev pub IsPast : List Scanned → Segment → Type 0
  IsPast xs u = (end ≤ u.place) ⊎ ((t : Scanned) × (p : ℕ) × Contains xs t × (t.segment.place < end) × (open_at end t.met ≡ Some p) × (t.segment.place < u.place))

  left_after : (ss : List Segment) (xs ps : List Scanned) → Rises ss → AreScanned sum size log ss xs → AreReplayed sum size log end (begun_below end ss) ps → (u : Segment) → Contains (drop (length ps) ss) u → IsPast xs u
  left_after [] xs ps rises are passed u there = absurd (in_nothing u (subst (λ (l : List Segment). Contains l u) (drop-nil (length ps)) there))
  left_after (s ∷ ss) [] ps rises are passed u there = absurd are
  left_after (s ∷ ss) (x ∷ xs) ps rises are passed u there =
      by (nat_lt s.place end) refl ps passed there (λ qs on at. left_after ss xs qs rises.1 are.2 on u at) where
        Rest : Type 0
        Rest = (qs : List Scanned) → AreReplayed sum size log end (begun_below end ss) qs → Contains (drop (length qs) ss) u → IsPast xs u

        later : IsPast xs u → IsPast (x ∷ xs) u
        later (inl above) = inl above
        later (inr (t, p, at, begun, opened, behind)) = inr (t, p, in_rest x t xs at, begun, opened, behind)

        past_first : end ≤ s.place → Contains (s ∷ ss) u → IsPast (x ∷ xs) u
        past_first above at = ⊎_elim
            (λ same. inl (omega (arith, above, ap (λ (y : Segment). y.place) same)))
            (λ rest. let up = rises.0 u rest in inl (omega (arith, above, up)))
            (in_cases s u ss at)

        read_first : s.place < end → (p : Scanned) (qs : List Scanned) (o : Option ℕ) → open_at end p.met ≡ o → p.segment ≡ s → IsReplayed sum size log end p → StopsOrGoesOn o qs (AreReplayed sum size log end (begun_below end ss) qs)
            → Contains (drop (length qs) ss) u → Rest → IsPast (x ∷ xs) u
        read_first begun p qs (Some place) opened same replayed stops at rest =
            let alike = begins_alike sum size log end p x (same ∙ sym are.0) replayed are.1 place opened in
            let up = rises.0 u (in_drop (length qs) ss u at) in
            let here : x.segment.place ≡ s.place = ap (λ (y : Segment). y.place) are.0 in
            inr (x, place, in_first x xs, omega (arith, begun, here), alike.0, omega (arith, up, here))
        read_first begun p qs None opened same replayed on at rest = later (rest qs on at)

        by : (b : Bool) → nat_lt s.place end ≡ b → (qs : List Scanned) → AreReplayed sum size log end (if b then s ∷ begun_below end ss else begun_below end ss) qs → Contains (drop (length qs) (s ∷ ss)) u → Rest → IsPast (x ∷ xs) u
        by false test qs on at rest = past_first (ltb-false s.place end test) (in_drop (length qs) (s ∷ ss) u at)
        by true test [] on at rest = absurd on
        by true test (q ∷ qs) on at rest = read_first (ltb-true s.place end test) q qs (open_at end q.met) refl on.0 on.1 on.2 at rest

module _ (sum : List ℕ → ℕ) (size : ℕ) (log : List ℕ) (H : History) (A : ℕ) (first : SnapshotModel) (cut : ℕ × Option ℕ) (is : IsRecoverableLog sum size log H A first cut) where
  abbrev begins : ℕ
  begins = tail_begins size (least_place size first) is.ordering

  -- where the tail is empty it begins at the place of the snapshot
  pub none_begins : tail_end is.tail ≡ None → begins ≡ stable_place first.stable
  none_begins none =
      let empty = subst (λ (l : List Scanned). IsTail sum size log is.ordering begins l) (no_end is.tail none) is.is_tail in
      ⊎_elim (λ found. absurd (empty found.0 found.1 found.2)) (λ place. place) is.tail_there

module _ (sum : List ℕ → ℕ) (size : ℕ) (log : List ℕ) (some : 256 ≤ size) (blobs : ℤ → Option (List ℕ)) (H : History) (A : ℕ) (first : SnapshotModel) (cut : ℕ × Option ℕ)
    (is : IsRecoverableLog sum size log H A first cut) (are : AreRecoverableBlobs sum blobs H cut.0) where
  -- these are slots of segments at or above the cut
  abbrev pub LieAbove : List ℕ → Type 0
  LieAbove unread = (slot : ℕ) → Contains unread slot → (u : Segment) × Contains is.ordering u × (u.slot ≡ slot) × (cut.0 ≤ u.place)

  -- the last segment of the tail begins below its end
  pub tail_empty : (unread : List ℕ) → ReadsNone sum size log blobs H A first cut is are unread → (tail_end is.tail ≡ None) × (unread ≡ slots_in_order is.ordering)
  tail_empty unread (inl none) = none
  tail_empty unread (inr (end, ends, below)) =
      let last = tail_last sum size log some H A first cut is (tail_begins size (least_place size first) is.ordering) is.tail is.is_tail end ends in
      let y : Scanned = last.0 in
      let long = stand_rises (y.segment.place + 20) y.met (y.segment.place + y.stop) (met_stand sum size log some y (whole sum size log some H A first cut is y last.1)) in
      absurd (in_nothing y (subst (λ (l : List Scanned). Contains l y) below (in_below sum size log end is.scanned y last.1 (omega (arith, long, last.2)))))

  -- Where no segment is read, all of them do.
  pub none_left : (unread : List ℕ) → cut.0 ≡ stable_place first.stable → ReadsNone sum size log blobs H A first cut is are unread → LieAbove unread
  none_left unread at none slot there =
      let empty = tail_empty unread none in
      let from = slot_from is.ordering slot (subst (λ (l : List ℕ). Contains l slot) empty.1 there) in
      let u : Segment = from.0 in
      let above = ((is.numbers.found u).0 from.1).not_below in
      let aligned : stable_place first.stable % size ≡ 0 = ap (λ n. n % size) (sym (none_begins sum size log H A first cut is empty.0)) ∙ (put_down size _).1 in
      let low = put_down size (stable_place first.stable) in
      (u, from.1, from.2, omega (arith, at, above, aligned, low.0))

  -- Where a pass is made, those that it doesn't read do.
  pub some_left : (end : ℕ) (s : Scanned) (ss passes : List Scanned) → tail_end is.tail ≡ Some end → scanned_below end is.scanned ≡ s ∷ ss → AreReplayed sum size log end (begun_below end is.ordering) passes
      → LieAbove (slots_in_order (drop (length passes) is.ordering))
  some_left end s ss passes ends below replayed slot there =
      let from = slot_from (drop (length passes) is.ordering) slot there in
      let u : Segment = from.0 in
      let at = in_drop (length passes) is.ordering u from.1 in
      (u, at, from.2, by u at (left_after sum size log end is.ordering is.scanned passes (rises_of is.ordering is.numbers.ascending) is.reads replayed u from.1))
    where
      by : (u : Segment) → Contains is.ordering u → IsPast sum size log end is.scanned u → cut.0 ≤ u.place
      by u at past =
          let bound = (cut_bounds sum size log some H A first cut is end s ss ends below).1 in
          let last = last_known sum size log some H A first cut is end s ss ends below in
          let final : Scanned = (stopped sum size log some H A first cut is end s ss ends below).last in
          let aligned = place_aligned sum size log (least_place size first) is.ordering is.numbers u at in
          let under : final.segment.place < u.place = elim past [
            | inl above ↦ (let begun = last.1 in omega (arith, above, begun))
            | inr (t, p, known_t, begun, opened, behind) ↦ (
                let low = stops_first sum size log some end s ss (open_at end s.met) (own_row sum size log some H A first cut is end s ss ends below) refl t (in_pass sum size log some H A first cut is end s ss ends below t known_t begun) p opened in
                omega (arith, low, behind, last_place sum size log some H A first cut is end s ss ends below))
          ] in
          let far = further sum size log some H A first cut is final.segment.place u.place (whole sum size log some H A first cut is final last.0).1 aligned under in
          omega (arith, far, bound)
