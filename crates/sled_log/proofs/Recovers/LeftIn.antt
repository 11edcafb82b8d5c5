-- Each segment of a recoverable log file that lies at or above the cut is among those that a pass doesn't read.
use Rattle.std.proofs.Common.{⊎_elim, ◌≡◌, ◌⊎◌, ◌∙◌, ◌≤◌, ℕ, ℤ, Bool, true, false, nat_lt, if◌then◌else◌, List, [], ◌∷◌, length, drop, Option, Some, None, refl, sym, ap, subst, arith, inl, inr}
use Rattle.std.specs.List.{Contains}
use Rattle.std.proofs.lemmas.Bool.{le-ltb, ltb-false}
use Rattle.sled_codec.specs.History.{History}
use Rattle.sled_codec.specs.Snapshots.{SnapshotModel}
use Rattle.sled_store.proofs.Segments.Elements.{in_first, in_rest, in_cases, in_nothing}
use Rattle.sled_core.specs.declared.iterator.Segment.{Segment}
use Rattle.sled_core.specs.inside.Recoverable.{IsRecoverableLog, AreRecoverableBlobs, scanned_below}
use Rattle.sled_log.specs.Recovery.{Scanned, tail_end, begun_below, StopsOrGoesOn, AreReplayed, open_at, stops_in, slots_in_order}
use Rattle.sled_log.proofs.Recovers.ActiveSlot.{behind_header}
use Rattle.sled_log.proofs.Recovers.LeftOut.{tail_empty}
use Rattle.sled_core.proofs.Tail.OneTail.{Rises, rises_of, scans_below}
use Rattle.sled_log.proofs.Recovers.OnePass.{IsSamePass, same_pass}
use Rattle.sled_log.proofs.Recovers.PassCut.{last_place, cut_bounds}
use Rattle.sled_log.proofs.Recovers.Undamaged.{ReadsNone, left_of}

-- the slot of a segment is among those of all
pub in_slots : (ss : List Segment) (s : Segment) → Contains ss s → Contains (slots_in_order ss) s.slot
in_slots [] s there = absurd (in_nothing s there)
in_slots (t ∷ ss) s there = ⊎_elim
    (λ is. subst (λ (x : Segment). Contains (slots_in_order (t ∷ ss)) x.slot) is (in_first t.slot (slots_in_order ss)))
    (λ later. in_rest t.slot s.slot (slots_in_order ss) (in_slots ss s later))
    (in_cases t s ss there)

module _ (end : ℕ) where
  -- Those that begin below a place.

  pub begun_in : (ss : List Segment) (s : Segment) → Contains (begun_below end ss) s → Contains ss s
  begun_in [] s there = there
  begun_in (t ∷ ss) s there = by (nat_lt t.place end) (begun_in ss s) there where
    by : (b : Bool) → (Contains (begun_below end ss) s → Contains ss s) → Contains (if b then t ∷ begun_below end ss else begun_below end ss) s → Contains (t ∷ ss) s
    by true rest at = ⊎_elim (λ same. subst (Contains (t ∷ ss)) same (in_first t ss)) (λ later. in_rest t s ss (rest later)) (in_cases t s (begun_below end ss) at)
    by false rest at = in_rest t s ss (rest at)

  pub rises_begun : (ss : List Segment) → Rises ss → Rises (begun_below end ss)
  rises_begun [] rises = tt
  rises_begun (s ∷ ss) rises = by (nat_lt s.place end) (rises_begun ss rises.1) where
    by : (b : Bool) → Rises (begun_below end ss) → Rises (if b then s ∷ begun_below end ss else begun_below end ss)
    by true rest = (λ t there. rises.0 t (begun_in ss t there), rest)
    by false rest = rest

  none_begun : (ss : List Segment) → ((t : Segment) → Contains ss t → end ≤ t.place) → begun_below end ss ≡ []
  none_begun [] above = refl
  none_begun (s ∷ ss) above =
      ap (λ (b : Bool). if b then s ∷ begun_below end ss else begun_below end ss) (le-ltb s.place end (above s (in_first s ss))) ∙ none_begun ss (λ t there. above t (in_rest s t ss there))

  -- What is read of them.
  module _ (sum : List ℕ → ℕ) (size : ℕ) (log : List ℕ) where
    no_passes : (ps : List Scanned) → AreReplayed sum size log end [] ps → ps ≡ []
    no_passes [] are = refl
    no_passes (p ∷ ps) are = absurd are

    -- a segment is read, or is left
    pub read_or_left : (ss : List Segment) (ps : List Scanned) → Rises ss → AreReplayed sum size log end (begun_below end ss) ps → (u : Segment) → Contains ss u → Contains (drop (length ps) ss) u ⊎ ((p : Scanned) × Contains ps p × (p.segment ≡ u))
    read_or_left [] ps rises are u there = absurd (in_nothing u there)
    read_or_left (s ∷ ss) ps rises are u there = by (nat_lt s.place end) refl ps are (λ qs on at. read_or_left ss qs rises.1 on u at) where
      Is : List Scanned → List Segment → Type 0
      Is qs left = Contains left u ⊎ ((p : Scanned) × Contains qs p × (p.segment ≡ u))

      Rest : Type 0
      Rest = (qs : List Scanned) → AreReplayed sum size log end (begun_below end ss) qs → Contains ss u → Is qs (drop (length qs) ss)

      behind : (q : Scanned) (qs : List Scanned) (o : Option ℕ) → StopsOrGoesOn o qs (AreReplayed sum size log end (begun_below end ss) qs) → Rest → Contains ss u → Is (q ∷ qs) (drop (length qs) ss)
      behind q qs (Some place) stops rest at = inl (subst (λ (l : List Scanned). Contains (drop (length l) ss) u) (sym stops) at)
      behind q qs None on rest at = ⊎_elim (λ left. inl left) (λ read. inr (read.0, in_rest q read.0 qs read.1, read.2)) (rest qs on at)

      by : (b : Bool) → nat_lt s.place end ≡ b → (qs : List Scanned) → AreReplayed sum size log end (if b then s ∷ begun_below end ss else begun_below end ss) qs → Rest → Is qs (drop (length qs) (s ∷ ss))
      by true test [] on rest = absurd on
      by true test (q ∷ qs) on rest = ⊎_elim (λ same. inr (q, in_first q qs, on.0 ∙ same)) (λ later. behind q qs (open_at end q.met) on.2 rest later) (in_cases s u ss there)
      by false test qs on rest =
          let above = ltb-false s.place end test in
          let none : begun_below end ss ≡ [] = none_begun ss (λ t at. let up = rises.0 t at in omega (arith, up, above)) in
          let empty : qs ≡ [] = no_passes qs (subst (λ (l : List Segment). AreReplayed sum size log end l qs) none on) in
          inl (subst (λ (l : List Scanned). Contains (drop (length l) (s ∷ ss)) u) (sym empty) there)

    first_in : (ss : List Segment) (t : Scanned) (ts : List Scanned) → AreReplayed sum size log end ss (t ∷ ts) → Contains ss t.segment
    first_in [] t ts are = absurd are
    first_in (u ∷ us) t ts are = subst (Contains (u ∷ us)) (sym are.0) (in_first u us)

    -- one that is read begins no higher than the one in which the pass stops
    read_low : (ss : List Segment) (p : Scanned) (ps : List Scanned) → Rises ss → AreReplayed sum size log end ss (p ∷ ps) → (q : Scanned) → Contains (p ∷ ps) q → q.segment.place ≤ (stops_in end p (open_at end p.met) ps).0.place
    read_low [] p ps rises are q there = absurd are
    read_low (s ∷ ss) p [] rises are q there = by (open_at end p.met) (⊎_elim (λ same. same) (λ none. absurd (in_nothing q none)) (in_cases p q [] there)) where
      by : (o : Option ℕ) → p ≡ q → q.segment.place ≤ (stops_in end p o []).0.place
      by (Some place) same = omega (arith, ap (λ (x : Scanned). x.segment.place) same)
      by None same = omega (arith, ap (λ (x : Scanned). x.segment.place) same)
    read_low (s ∷ ss) p (t ∷ ts) rises are q there = by (open_at end p.met) are.2 (read_low ss t ts rises.1) where
      Rest : Type 0
      Rest = AreReplayed sum size log end ss (t ∷ ts) → (r : Scanned) → Contains (t ∷ ts) r → r.segment.place ≤ (stops_in end t (open_at end t.met) ts).0.place

      by : (o : Option ℕ) → StopsOrGoesOn o (t ∷ ts) (AreReplayed sum size log end ss (t ∷ ts)) → Rest → q.segment.place ≤ (stops_in end p o (t ∷ ts)).0.place
      by (Some place) none rest = absurd (no_more none)
        where
          no_more : (t ∷ ts) ≡ [] → ⊥
          no_more none = cc
      by None on rest = ⊎_elim
          (λ same.
          let up = rises.0 t.segment (first_in ss t ts on) in
          let low = rest on t (in_first t ts) in
          omega (arith, up, low, ap (λ (x : Scanned). x.segment.place) same, ap (λ (x : Segment). x.place) are.0))
          (λ later. rest on q later)
          (in_cases p q (t ∷ ts) there)

module _ (sum : List ℕ → ℕ) (size : ℕ) (log : List ℕ) (some : 256 ≤ size) (blobs : ℤ → Option (List ℕ)) (H : History) (A : ℕ) (first : SnapshotModel) (cut : ℕ × Option ℕ)
    (is : IsRecoverableLog sum size log H A first cut) (are : AreRecoverableBlobs sum blobs H cut.0) where
  -- these have the slot of each segment at or above the cut
  abbrev pub HaveAbove : List ℕ → Type 0
  HaveAbove unread = (u : Segment) → Contains is.ordering u → cut.0 ≤ u.place → Contains unread u.slot

  -- Where no segment is read, all are left.
  pub all_left : (unread : List ℕ) → ReadsNone sum size log blobs H A first cut is are unread → HaveAbove unread
  all_left unread none u there above = subst (λ (l : List ℕ). Contains l u.slot) (sym (tail_empty sum size log some blobs H A first cut is are unread none).1) (in_slots is.ordering u there)

  -- Where a pass is made, those that it reads begin below the cut.
  module _ (end : ℕ) (s : Scanned) (ss passes : List Scanned) (ends : tail_end is.tail ≡ Some end) (below : scanned_below end is.scanned ≡ s ∷ ss) (replayed : AreReplayed sum size log end (begun_below end is.ordering) passes) where
    rises : Rises is.ordering
    rises = rises_of is.ordering is.numbers.ascending

    pub high_left : HaveAbove (left_of sum size log blobs H A first cut is are passes)
    high_left u there above = ⊎_elim
        (λ left. in_slots (drop (length passes) is.ordering) u left)
        (λ read. absurd (by passes replayed (subst (λ (xs : List Scanned). IsSamePass end xs passes) below same) read.0 read.1 read.2))
        (read_or_left end sum size log is.ordering passes rises replayed u there)
      where
        same : IsSamePass end (scanned_below end is.scanned) passes
        same = same_pass sum size log end (begun_below end is.ordering) (scanned_below end is.scanned) passes (scans_below sum size log end is.ordering is.scanned is.reads) replayed

        by : (ps : List Scanned) → AreReplayed sum size log end (begun_below end is.ordering) ps → IsSamePass end (s ∷ ss) ps → (p : Scanned) → Contains ps p → p.segment ≡ u → ⊥
        by [] on alike p at its = in_nothing p at
        by (q ∷ qs) on alike p at its =
            let low = read_low end sum size log (begun_below end is.ordering) q qs (rises_begun end is.ordering rises) on p at in
            let stop = last_place sum size log some H A first cut is end s ss ends below in
            let header = behind_header sum size log some H A first cut is end s ss ends below in
            let bound = (cut_bounds sum size log some H A first cut is end s ss ends below).0 in
            omega (arith, low, stop, header, bound, above, ap (λ (x : Segment). x.place) its, ap (λ (x : Segment × ℕ). x.0.place) alike.1)
