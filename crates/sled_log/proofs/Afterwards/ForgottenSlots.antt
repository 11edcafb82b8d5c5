-- Zeros were written over slots, one behind another: a segment that is found then was found before, in another slot.
use Rattle.std.proofs.Common.{⊎_elim, ◌≡◌, ◌≤◌, ℕ, List, [], ◌∷◌, replicate, refl, sym}
use Rattle.std.specs.List.{Contains}
use Rattle.sled_codec.specs.History.{History}
use Rattle.sled_store.specs.Device.{overwritten, at_rest}
use Rattle.sled_store.proofs.Segments.Elements.{in_first, in_rest, in_cases, in_nothing}
use Rattle.sled_core.specs.declared.iterator.Segment.{Segment}
use Rattle.sled_core.specs.Recoverable.{NoHeaderOfZeros}
use Rattle.sled_core.specs.inside.Scan.{IsFoundSegment}
use Rattle.sled_log.specs.WritesBack.{after_zeroing}
use Rattle.sled_log.proofs.Moments.UnreadSlots.{AreFree, still_free}
use Rattle.sled_log.proofs.Moments.UnreadZeroed.{none_there, found_old}

module _ (sum : List ℕ → ℕ) (size : ℕ) (some : 256 ≤ size) (none : NoHeaderOfZeros sum) (H : History) (cut : ℕ) where
  pub found_elsewhere : (slots log : List ℕ) → AreFree sum size log cut slots → (s : Segment) → IsFoundSegment sum size (after_zeroing size slots (at_rest log)).bytes 0 s → IsFoundSegment sum size log 0 s × (Contains slots s.slot → ⊥)
  found_elsewhere [] log free s found = (found, λ there. in_nothing s.slot there)
  found_elsewhere (slot ∷ slots) log free s found =
      let is_free = free slot (in_first slot slots) in
      let rest = found_elsewhere slots (overwritten log slot (replicate size 0)) (λ other there. still_free sum size log some none H cut slot other is_free (free other (in_rest slot other slots there))) s found in (
        found_old sum size log some none slot is_free.aligned is_free.reach H 0 s rest.0,
        λ there. ⊎_elim (λ same. none_there sum size log some none slot is_free.aligned is_free.reach 0 s rest.0 (sym same)) rest.1 (in_cases slot s.slot slots there),
      )

-- The file is at rest behind them.
pub zeroed_rests : (size : ℕ) (slots log : List ℕ) → after_zeroing size slots (at_rest log) ≡ at_rest (after_zeroing size slots (at_rest log)).bytes
zeroed_rests size [] log = refl
zeroed_rests size (slot ∷ slots) log = zeroed_rests size slots (overwritten log slot (replicate size 0))
