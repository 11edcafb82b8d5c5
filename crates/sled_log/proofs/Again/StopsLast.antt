-- A pass stops in the last segment that it reads: all others that it reads begin below that one, and up to where it stops records are met one behind another.
use Rattle.std.proofs.Common.{⊎_elim, ◌≡◌, ◌⊎◌, ◌∙◌, ◌+◌, ◌<◌, ℕ, Bool, true, false, if◌then◌else◌, List, [], ◌∷◌, Option, Some, None, refl, sym, ap, subst, inl, inr}
use Rattle.std.specs.List.{Contains}
use Rattle.sled_store.proofs.Segments.Elements.{in_first, in_rest, in_cases, in_nothing}
use Rattle.sled_core.specs.declared.iterator.Segment.{Segment}
use Rattle.sled_core.specs.declared.iterator.scan.ScannedRecord.{ScannedRecord}
use Rattle.sled_core.specs.Scan.{IsPath}
use Rattle.sled_core.proofs.Tail.OneTail.{Rises}
use Rattle.sled_log.specs.Recovery.{Scanned, opens, open_at, stops_in, StopsOrGoesOn, AreReplayed}

module _ (sum : List ℕ → ℕ) (size : ℕ) (log : List ℕ) (end : ℕ) where
  -- the records before a batch that is open are a path to it
  path_before : (slot place at : ℕ) (ms : List ScannedRecord) (next : ℕ) → IsPath sum size log slot place at ms next → (p : ℕ) → open_at end ms ≡ Some p
      → (before : List ScannedRecord) × (offset : ℕ) × IsPath sum size log slot place at before offset × (p ≡ place + offset)
  path_before slot place at [] next path p is = absurd (cc)
  path_before slot place at (m ∷ ms) next path p is = by (opens end m.what) is (path_before slot place (at + m.len) ms next path.3 p) where
    Found : ℕ → Type 0
    Found from = (before : List ScannedRecord) × (offset : ℕ) × IsPath sum size log slot place from before offset × (p ≡ place + offset)

    by : (b : Bool) → (if b then Some m.place else open_at end ms) ≡ Some p → (open_at end ms ≡ Some p → Found (at + m.len)) → Found at
    by true here rest = let same : m.place ≡ p = cc in ([], at, refl, sym same ∙ path.1)
    by false later rest = let on = rest later in (m ∷ on.0, on.1, (path.0, path.1, path.2, on.2), on.3)

  -- where a pass over these segments stops that reads so many of them
  pub record StopsLast (segments : List Segment) (read : List Scanned) (at : Segment × ℕ) : Type 0 where
    pub there : Contains segments at.0
    pub met : List ScannedRecord
    pub offset : ℕ
    pub path : IsPath sum size log at.0.slot at.0.place 20 met offset
    pub place : at.1 ≡ at.0.place + offset
    pub last : (t : Scanned) → Contains read t → (t.segment ≡ at.0) ⊎ (t.segment.place < at.0.place)

  -- it reads one segment
  one_read : (s : Scanned) (ss : List Scanned) → ss ≡ [] → (t : Scanned) → Contains (s ∷ ss) t → t.segment ≡ s.segment
  one_read s ss none t there = ⊎_elim
      (λ same. ap (λ (x : Scanned). x.segment) (sym same))
      (λ later. absurd (in_nothing t (subst (λ (l : List Scanned). Contains l t) none later)))
      (in_cases s t ss there)

  pub stops_last : (us : List Segment) (s : Scanned) (ss : List Scanned) (o : Option ℕ) → Rises us → AreReplayed sum size log end us (s ∷ ss) → open_at end s.met ≡ o → StopsLast us (s ∷ ss) (stops_in end s o ss)
  stops_last [] s ss o rises are is = absurd are
  stops_last (u ∷ us) s ss (Some p) rises are is =
      let none : ss ≡ [] = subst (λ (o : Option ℕ). StopsOrGoesOn o ss (AreReplayed sum size log end us ss)) is are.2 in
      let before = path_before s.segment.slot s.segment.place 20 s.met s.stop are.1.0 p is in
      record {
        there = subst (Contains (u ∷ us)) (sym are.0) (in_first u us);
        met = before.0;
        offset = before.1;
        path = before.2;
        place = before.3;
        last = λ t there. inl (one_read s ss none t there);
      }
  stops_last (u ∷ us) s [] None rises are is = record {
    there = subst (Contains (u ∷ us)) (sym are.0) (in_first u us);
    met = s.met;
    offset = s.stop;
    path = are.1.0;
    place = refl;
    last = λ t there. inl (one_read s [] refl t there);
  }
  stops_last (u ∷ us) s (t ∷ ts) None rises are is =
      let on : AreReplayed sum size log end us (t ∷ ts) = subst (λ (o : Option ℕ). StopsOrGoesOn o (t ∷ ts) (AreReplayed sum size log end us (t ∷ ts))) is are.2 in
      let rest = stops_last us t ts (open_at end t.met) rises.1 on refl in
      let at : Segment × ℕ = stops_in end t (open_at end t.met) ts in
      record {
        there = in_rest u at.0 us rest.there;
        met = rest.met;
        offset = rest.offset;
        path = rest.path;
        place = rest.place;
        last = λ v there. ⊎_elim
            (λ same. inr (subst (λ (w : Segment). w.place < at.0.place) (sym are.0 ∙ ap (λ (x : Scanned). x.segment) same) (rises.0 at.0 rest.there)))
            (λ later. rest.last v later)
            (in_cases s v (t ∷ ts) there);
      }
