-- Where a pass stops, from what is met at a place: the last of its segments has it, no batch is open that begins below it, and at it one that is open begins, or the reading ends.
use Rattle.std.proofs.Common.{⊎_elim, ◌≡◌, ◌⊎◌, ◌∙◌, ◌+◌, ◌<◌, ◌≤◌, ℕ, Bool, true, false, if◌then◌else◌, List, [], ◌∷◌, Option, Some, None, refl, sym, ap, subst, arith, inl, inr}
use Rattle.std.specs.List.{Contains}
use Rattle.sled_store.proofs.Segments.Elements.{in_first, in_rest, in_cases, in_nothing}
use Rattle.sled_core.specs.declared.iterator.scan.ScannedRecord.{ScannedRecord}
use Rattle.sled_log.specs.Recovery.{Scanned, opens, open_at, stops_in}
use Rattle.sled_core.proofs.Tail.Rows.{Stand, stand_in, IsWhole, IsRow, met_stand, stop_inside}

-- where no record begins a batch that is open, none is
pub none_open : (end : ℕ) (ms : List ScannedRecord) → ((x : ScannedRecord) → Contains ms x → opens end x.what ≡ false) → open_at end ms ≡ None
none_open end [] closed = refl
none_open end (m ∷ ms) closed = ap (λ (b : Bool). if b then Some m.place else open_at end ms) (closed m (in_first m ms)) ∙ none_open end ms (λ x there. closed x (in_rest m x ms there))

module _ (end c : ℕ) where
  -- of the records one behind another this is the first with which a batch begins that is open
  open_first : (from : ℕ) (ms : List ScannedRecord) (to : ℕ) → Stand from ms to → (z : ScannedRecord) → Contains ms z → z.place ≡ c → opens end z.what ≡ true
      → ((x : ScannedRecord) → Contains ms x → x.place < c → opens end x.what ≡ false) → open_at end ms ≡ Some c
  open_first from [] to stand z there place opened closed = absurd (in_nothing z there)
  open_first from (m ∷ ms) to stand z there place opened closed = ⊎_elim
      (λ same. ap (λ (b : Bool). if b then Some m.place else open_at end ms) (ap (λ (y : ScannedRecord). opens end y.what) same ∙ opened) ∙ ap Some (ap (λ (y : ScannedRecord). y.place) same ∙ place))
      (λ later.
      let at = stand_in (m.place + m.len) ms to stand.2 z later in
      let shut = closed m (in_first m ms) (omega (arith, at.0, stand.1, place)) in
      ap (λ (b : Bool). if b then Some m.place else open_at end ms) shut ∙ open_first (m.place + m.len) ms to stand.2 z later place opened (λ x met. closed x (in_rest m x ms met)))
      (in_cases m z ms there)

  -- at the place a batch begins that is open, or the reading of the segment ends
  abbrev pub StopsHere : Scanned → Type 0
  StopsHere z = ((x : ScannedRecord) × Contains z.met x × (x.place ≡ c) × (opens end x.what ≡ true)) ⊎ (z.segment.place + z.stop ≡ c)

  -- no batch begins below the place that is open
  abbrev pub IsClosedBelow : Scanned → Type 0
  IsClosedBelow t = (x : ScannedRecord) → Contains t.met x → x.place < c → opens end x.what ≡ false

  module _ (sum : List ℕ → ℕ) (size : ℕ) (log : List ℕ) (some : 256 ≤ size) where
    in_last : (z : Scanned) → IsWhole sum size log some z → IsClosedBelow z → StopsHere z → stops_in end z (open_at end z.met) [] ≡ (z.segment, c)
    in_last z whole closed (inl (x, met, place, opened)) =
        ap (λ (o : Option ℕ). stops_in end z o []) (open_first (z.segment.place + 20) z.met (z.segment.place + z.stop) (met_stand sum size log some z whole) x met place opened closed)
    in_last z whole closed (inr ends) =
        let shut = none_open end z.met (λ x met.
        let at = stand_in (z.segment.place + 20) z.met (z.segment.place + z.stop) (met_stand sum size log some z whole) x met in
        closed x met (omega (arith, at.1, at.2, ends))) in
        ap (λ (o : Option ℕ). stops_in end z o []) shut ∙ ap (λ n. (z.segment, n)) ends

    pub stops_at : (s : Scanned) (ss : List Scanned) → IsRow sum size log some (s ∷ ss) → (z : Scanned) → Contains (s ∷ ss) z → ((t : Scanned) → Contains (s ∷ ss) t → t.segment.place ≤ z.segment.place) → z.segment.place ≤ c
        → ((t : Scanned) → Contains (s ∷ ss) t → IsClosedBelow t) → StopsHere z → stops_in end s (open_at end s.met) ss ≡ (z.segment, c)
    stops_at s [] row z there last low closed stops = ⊎_elim
        (λ same. subst (λ (y : Scanned). stops_in end y (open_at end y.met) [] ≡ (z.segment, c)) (sym same)
        (in_last z (subst (IsWhole sum size log some) same row.0) (closed z there) stops))
        (λ none. absurd (in_nothing z none))
        (in_cases s z [] there)
    stops_at s (t ∷ ts) row z there last low closed stops = ⊎_elim
        (λ same. absurd (
        let far = row.1 t (in_first t ts) in
        let high = last t (in_rest s t (t ∷ ts) (in_first t ts)) in
        omega (arith, far, high, some, ap (λ (y : Scanned). y.segment.place) same)))
        (λ later.
        let far = row.1 z later in
        let inside = stop_inside sum size log some s row.0 in
        let shut = none_open end s.met (λ x met.
        let at = stand_in (s.segment.place + 20) s.met (s.segment.place + s.stop) (met_stand sum size log some s row.0) x met in
        closed s (in_first s (t ∷ ts)) x met (omega (arith, at.1, at.2, inside, far, low))) in
        ap (λ (o : Option ℕ). stops_in end s o (t ∷ ts)) shut
        ∙ stops_at t ts row.2 z later (λ u at. last u (in_rest s u (t ∷ ts) at)) low (λ u at. closed u (in_rest s u (t ∷ ts) at)) stops)
        (in_cases s z (t ∷ ts) there)
