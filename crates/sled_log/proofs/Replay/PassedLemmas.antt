-- A segment as the pass reads it, and one that is read to its end.
use Rattle.std.proofs.Common.{◌≡◌, ℕ, false, List, Option, Some, None, IfNone, is_some, refl, subst}
use Rattle.sled_core.specs.Scan.{IsEnd, IsScan}
use Rattle.sled_core.proofs.Iterates.TurnLemmas.{none_so}
use Rattle.sled_log.specs.Recovery.{Scanned, IsScanned, IsReplayed, open_at}

-- a test that there is no value
pub no_value : (o : Option ℕ) → is_some o ≡ false → o ≡ None
no_value None is = refl
no_value (Some place) is = absurd (cc)

module _ (sum : List ℕ → ℕ) (size : ℕ) (log : List ℕ) (end : ℕ) (s : Scanned) where
  abbrev IsAtEnd : Type 0
  IsAtEnd = IsEnd sum size log s.segment.slot s.segment.place s.stop s.why

  -- one that is read to its end is read as far as the pass reads it
  pub whole_passed : IsScanned sum size log s → IsReplayed sum size log end s
  unfolding IsScan
  whole_passed scan = (scan.0, none_so (open_at end s.met) IsAtEnd scan.1)

  -- where no batch is open the pass reads it to its end
  pub passed_whole : IsReplayed sum size log end s → open_at end s.met ≡ None → IsScanned sum size log s
  unfolding IsScan
  passed_whole passed none = (passed.0, subst (λ (o : Option ℕ). IfNone o IsAtEnd) none passed.1)
