-- What a pass over segments meets lies one behind another up to where it stops, and it meets each record below the cut.
use Rattle.std.proofs.Common.{⊎_elim, ◌≡◌, ◌+◌, ◌<◌, ◌≤◌, ℕ, false, List, [], ◌∷◌, Option, Some, None, refl, sym, subst, arith}
use Rattle.std.specs.List.{Contains}
use Rattle.std.proofs.lemmas.List.Elements.{Contains-append_left, Contains-append_right, Contains-append_cases}
use Rattle.sled_core.specs.declared.iterator.scan.ScannedRecord.{ScannedRecord}
use Rattle.sled_store.proofs.Segments.Elements.{in_first, in_cases, in_nothing}
use Rattle.sled_log.specs.Recovery.{Scanned, opens, open_at, before_open, passed_in, stops_in, cut_of}
use Rattle.sled_core.proofs.Tail.Rows.{Stand, stand_wider, stand_both, stand_in, before_closed, all_closed, cut_cases, IsRow, row_whole, met_stand, stop_inside, opened, before_opened}

module _ (sum : List ℕ → ℕ) (size : ℕ) (log : List ℕ) (some : 256 ≤ size) where
  module _ (end : ℕ) where
    -- What it meets lies one behind another up to there.
    pub passed_stand : (s : Scanned) (ss : List Scanned) (o : Option ℕ) → IsRow sum size log some (s ∷ ss) → open_at end s.met ≡ o → Stand s.segment.place (passed_in end s o ss) (stops_in end s o ss).1
    passed_stand s ss (Some p) row is = stand_wider (s.segment.place + 20) s.segment.place (before_open end s.met) p p (omega arith) (omega arith) (opened sum size log some end s row.0 p is).0
    passed_stand s [] None row is = stand_wider (s.segment.place + 20) s.segment.place s.met (s.segment.place + s.stop) (s.segment.place + s.stop) (omega arith) (omega arith) (met_stand sum size log some s row.0)
    passed_stand s (t ∷ ts) None row is =
        let far = row.1 t (in_first t ts) in
        let inside = stop_inside sum size log some s row.0 in
        stand_both s.segment.place s.met t.segment.place (passed_in end t (open_at end t.met) ts) (stops_in end t (open_at end t.met) ts).1
        (stand_wider (s.segment.place + 20) s.segment.place s.met (s.segment.place + s.stop) t.segment.place (omega arith) (omega (arith, far, inside)) (met_stand sum size log some s row.0))
        (passed_stand t ts (open_at end t.met) row.2 refl)

    -- It meets each record that lies below the cut.
    pub passed_has : (s : Scanned) (ss : List Scanned) (o : Option ℕ) → IsRow sum size log some (s ∷ ss) → open_at end s.met ≡ o → (t : Scanned) → Contains (s ∷ ss) t → (x : ScannedRecord) → Contains t.met x → x.place < (cut_of size (stops_in end s o ss)).0
        → Contains (passed_in end s o ss) x
    passed_has s ss (Some p) row is t there x met below =
        let at = opened sum size log some end s row.0 p is in
        let room = at.1 in
        let under : x.place < p = ⊎_elim (λ same. omega (arith, below, same)) (λ filled. absurd (omega (arith, filled.1, room))) (cut_cases size (s.segment, p)) in
        ⊎_elim (λ same. before_opened sum size log some end s row.0 p is x (subst (λ (y : Scanned). Contains y.met x) (sym same) met) under)
        (λ later.
        let far = row.1 t later in
        let above = (stand_in (t.segment.place + 20) t.met (t.segment.place + t.stop) (met_stand sum size log some t (row_whole sum size log some ss row.2 t later)) x met).0 in
        absurd (omega (arith, far, above, under, room)))
        (in_cases s t ss there)
    passed_has s [] None row is t there x met below = ⊎_elim (λ same. subst (λ (y : Scanned). Contains y.met x) (sym same) met) (λ none. absurd (in_nothing t none)) (in_cases s t [] there)
    passed_has s (u ∷ us) None row is t there x met below = ⊎_elim
        (λ same. Contains-append_left s.met (passed_in end u (open_at end u.met) us) x (subst (λ (y : Scanned). Contains y.met x) (sym same) met))
        (λ later. Contains-append_right s.met (passed_in end u (open_at end u.met) us) x (passed_has u us (open_at end u.met) row.2 refl t later x met below))
        (in_cases s t (u ∷ us) there)

    -- and no batch that is open begins with what it meets
    pub passed_closed : (s : Scanned) (ss : List Scanned) (o : Option ℕ) → open_at end s.met ≡ o → (x : ScannedRecord) → Contains (passed_in end s o ss) x → opens end x.what ≡ false
    passed_closed s ss (Some p) is x there = before_closed end s.met x there
    passed_closed s [] None is x there = all_closed end s.met is x there
    passed_closed s (t ∷ ts) None is x there = ⊎_elim
        (λ own. all_closed end s.met is x own)
        (λ later. passed_closed t ts (open_at end t.met) refl x later)
        (Contains-append_cases s.met (passed_in end t (open_at end t.met) ts) x there)
