-- The headers of a log that aren't on the device have the marks that their segments were begun with, and what fills its segments begins where what was reserved ended then, also once a call may have begun a further one.
use Rattle.std.proofs.Common.{◌≡◌, ◌⊎◌, ◌<◌, ◌-ℤ◌, nat_lt, ap, sym, subst, inl, inr, arith, ℕ, pos, Bool, true, false, if◌then◌else◌, List, ◌∷◌, map, Option}
use Rattle.std.specs.List.{Contains}
use Rattle.std.proofs.lemmas.Bool.Decides.{nat_tests}
use Rattle.sled_codec.specs.History.{Message}
use Rattle.sled_store.proofs.Segments.Elements.{in_first, in_rest}
use Rattle.sled_core.specs.OpenBatches.{stable_below}
use Rattle.sled_core.specs.Among.{AreAmong}
use Rattle.sled_core.specs.Fillings.{FillingAt, fillings_along}
use Rattle.sled_core.specs.Fits.{current_begin, fillings_of, heads_of, line_of, reserved_end, stable_end, start_of}
use Rattle.sled_core.specs.Heads.{HeadAt, heads_along}
use Rattle.sled_core.specs.Marked.{BeginsMarked, IsMarkedHead}
use Rattle.sled_core.specs.declared.logger.Log.{Log}
use Rattle.sled_core.proofs.Line.Among.{among_further, among_same}
use Rattle.sled_log.specs.RunPhases.{HasHeads, Unstored, seen_log}
use Rattle.sled_log.specs.RunStates.{LogView, MarkAt, heads_at}
use Rattle.sled_log.specs.WriteSteps.{filled_by, headed}

-- Nothing was begun where the current buffer begins there still.
pub heads_still : (l : LogView) → heads_at l l.status.start ≡ l.heads
heads_still l =
    let no : nat_lt l.status.start.place l.status.start.place ≡ false = grind (arith, nat_tests) in
    ap (λ (o : Bool). if o then record { place = l.status.start.place; mark = pos (stable_below l.status.synced l.status.noted) -ℤ pos 1; end = l.status.reserved } ∷ l.heads else l.heads) no

-- what is kept in mind, with these buffers begun
abbrev pub begun_with : Unstored → List MarkAt → Unstored
begun_with k heads = record { history = k.history; acknowledged = k.acknowledged; floor = k.floor; tickets = k.tickets; given_up = k.given_up; heads = heads }

-- A log has no header but another log's that isn't on the device, and nothing else fills a segment.
pub record HasNoOther {D C : Type 0} (old new : Log D C) : Type 0 where
  pub heads : AreAmong (heads_of new) (heads_of old)
  pub fillings : AreAmong (fillings_of new) (fillings_of old)

-- So it is where no segment is another,
pub other_same : {D C : Type 0} (old new : Log D C) → line_of new ≡ line_of old → HasNoOther old new
other_same old new same = record {
  heads = among_same (heads_of new) (heads_of old) (ap heads_along same);
  fillings = among_same (fillings_of new) (fillings_of old) (ap fillings_along same);
}

-- and then it has those that were begun.
pub heads_left : {D C : Type 0} (sum : List ℕ → ℕ) (old new : Log D C) (heads : List MarkAt) → HasNoOther old new → HasHeads sum old heads → HasHeads sum new heads
heads_left sum old new heads none has = record {
  marked = among_further (heads_of new) (heads_of old) (map (headed sum) heads) none.heads has.marked;
  filled = among_further (fillings_of new) (fillings_of old) (map filled_by heads) none.fillings has.filled;
}

-- A header of a log that isn't on the device is one of another log's, or that with which its current buffer begins; and so is what fills a segment, or it
-- fills the one in front of that.
pub record HasOnlyBegun {D C : Type 0} (sum : List ℕ → ℕ) (old new : Log D C) : Type 0 where
  pub marked : (h : HeadAt) → Contains (heads_of new) h
      → Contains (heads_of old) h ⊎ ((current_begin old < current_begin new) × IsMarkedHead sum (current_begin new) (stable_end old) h)
  pub filled : (f : FillingAt) → Contains (fillings_of new) f
      → Contains (fillings_of old) f ⊎ ((current_begin old < current_begin new) × (f ≡ record { next = current_begin new; from = reserved_end old }))

pub only_begun : {D C : Type 0} (sum : List ℕ → ℕ) (old new : Log D C) → BeginsMarked sum old new → HasOnlyBegun sum old new
only_begun sum old new marked = record { marked = marked.heads; filled = marked.fillings }

pub begun_none : {D C : Type 0} (sum : List ℕ → ℕ) (old new : Log D C) → HasNoOther old new → HasOnlyBegun sum old new
begun_none sum old new none = record { marked = λ h there. inl (none.heads h there); filled = λ f there. inl (none.fillings f there) }

-- Then it has those that were begun, with the current buffer.
pub heads_kept : {D C : Type 0} (sum : List ℕ → ℕ) (old new : Log D C) (begun : ℕ) (tickets : List (Option Message)) (given_up : List Message) (heads : List MarkAt) → HasOnlyBegun sum old new → HasHeads sum old heads
    → HasHeads sum new (heads_at (seen_log old begun tickets given_up heads) (start_of new))
heads_kept sum old new begun tickets given_up heads only has = record {
  marked = λ h there. elim (only.marked h there) [
    | inl had ↦ older (headed sum) h (nat_lt (current_begin old) (current_begin new)) (has.marked h had)
    | inr one ↦ newer (headed sum) h one.0 (λ i. record { place = sym one.1.0 i; bytes = sym one.1.1 i })
  ];
  filled = λ f there. elim (only.filled f there) [
    | inl had ↦ older filled_by f (nat_lt (current_begin old) (current_begin new)) (has.filled f had)
    | inr one ↦ newer filled_by f one.0 (sym one.1)
  ];
} where
  further : MarkAt
  further = record { place = current_begin new; mark = pos (stable_end old) -ℤ pos 1; end = reserved_end old }

  older : {X : Type 0} (g : MarkAt → X) (x : X) (o : Bool) → Contains (map g heads) x → Contains (map g (if o then further ∷ heads else heads)) x
  older g x true had = in_rest (g further) x (map g heads) had
  older g x false had = had

  newer : {X : Type 0} (g : MarkAt → X) (x : X) → current_begin old < current_begin new → g further ≡ x → Contains (map g (if nat_lt (current_begin old) (current_begin new) then further ∷ heads else heads)) x
  newer {X} g x up is =
      let yes : nat_lt (current_begin old) (current_begin new) ≡ true = grind (arith, nat_tests, up) in
      subst (λ (o : Bool). Contains (map g (if o then further ∷ heads else heads)) x) (sym yes)
      (subst (λ (y : X). Contains (g further ∷ map g heads) y) is (in_first (g further) (map g heads)))
