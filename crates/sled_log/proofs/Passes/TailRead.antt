-- The tail as it is read, one segment behind another, of segments by place.
use Rattle.std.proofs.Common.{◌≡◌, ◌+◌, ◌%◌, ◌^◌, ◌<◌, ◌≤◌, ℕ, List, [], ◌∷◌, ◌++◌, take, drop, Option, Some, None, IfSome, sym, subst}
use Rattle.std.specs.List.{All}
use Rattle.sled_core.specs.declared.iterator.Segment.{Segment}
use Rattle.sled_log.specs.Recovery.{Scanned, IsScanned, AreScanned, begun_below}
use Rattle.sled_log.proofs.Passes.Ascending.{begun_walked}

-- an end in the segment before a place
abbrev pub EndsBefore : ℕ → ℕ → ℕ → Type 0
EndsBefore size place end = (end < 2 ^ 63) × (end ≤ place) × (place < end + size)

module _ (sum : List ℕ → ℕ) (size : ℕ) (log : List ℕ) where
  -- one more that was read
  pub scanned_more : (ss : List Segment) (xs : List Scanned) (s : Segment) (x : Scanned) → AreScanned sum size log ss xs → x.segment ≡ s → IsScanned sum size log x → AreScanned sum size log (ss ++ s ∷ []) (xs ++ x ∷ [])
  scanned_more [] [] s x are is scanned = (is, scanned, tt)
  scanned_more [] (y ∷ ys) s x are is scanned = absurd are
  scanned_more (t ∷ ts) [] s x are is scanned = absurd are
  scanned_more (t ∷ ts) (y ∷ ys) s x are is scanned = (are.0, are.1, scanned_more ts ys s x are.2 is scanned)

  -- they are those that begin below the end
  pub begun_of : (ss : List Segment) (i place : ℕ) (o : Option ℕ) (xs : List Scanned) → IfSome o (EndsBefore size place) → AreScanned sum size log (take i ss) xs → All (λ s. s.place + size ≤ place) (take i ss)
      → All (λ s. (s.place % size ≡ 0) × (place ≤ s.place)) (drop i ss) → IfSome o (λ end. (end < 2 ^ 63) × AreScanned sum size log (begun_below end ss) xs)
  begun_of ss i place None xs ends are before left = tt
  begun_of ss i place (Some end) xs ends are before left =
      (ends.0, subst (λ (l : List Segment). AreScanned sum size log l xs) (sym (begun_walked size end place i ss ends.1 ends.2 before left)) are)
