-- A segment of the pass, record by record.
use Rattle.std.proofs.Common.{◌≡◌, ℕ, Bool, true, false, List, [], ◌∷◌, ◌++◌, Option, Some, None, IfNone, if◌then◌else◌, refl, sym, ap, subst, ◌∙◌}
use Rattle.sled_core.specs.declared.iterator.scan.ScannedRecord.{ScannedRecord}
use Rattle.sled_core.specs.Tail.{opens, open_at}

-- one more record behind some in which no batch is open
pub open_more : (end : ℕ) (ms : List ScannedRecord) (m : ScannedRecord) → open_at end ms ≡ None → open_at end (ms ++ m ∷ []) ≡ (if opens end m.what then Some m.place else None)
open_more end [] m none = refl
open_more end (x ∷ ms) m none = by_test (opens end x.what) none (open_more end ms m) where
  by_test : (b : Bool) → (if b then Some x.place else open_at end ms) ≡ None → (open_at end ms ≡ None → open_at end (ms ++ m ∷ []) ≡ (if opens end m.what then Some m.place else None))
      → (if b then Some x.place else open_at end (ms ++ m ∷ [])) ≡ (if opens end m.what then Some m.place else None)
  by_test true none rest = absurd (cc)
  by_test false none rest = rest none

-- it begins no batch that is open
pub stays_closed : (end : ℕ) (ms new : List ScannedRecord) (m : ScannedRecord) → new ≡ ms ++ m ∷ [] → open_at end ms ≡ None → opens end m.what ≡ false → open_at end new ≡ None
stays_closed end ms new m is none other = ap (open_at end) is ∙ open_more end ms m none ∙ ap (λ (b : Bool). if b then Some m.place else None) other

-- it begins one: nothing is asked of what stands behind it
pub asks_nothing : (end : ℕ) (ms new : List ScannedRecord) (m : ScannedRecord) (P : Type 0) → new ≡ ms ++ m ∷ [] → open_at end ms ≡ None → opens end m.what ≡ true → IfNone (open_at end new) P
asks_nothing end ms new m P is none begins =
    let some : open_at end new ≡ Some m.place = ap (open_at end) is ∙ open_more end ms m none ∙ ap (λ (b : Bool). if b then Some m.place else None) begins in
    subst (λ (o : Option ℕ). IfNone o P) (sym some) tt
