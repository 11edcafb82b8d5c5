-- Each segment of a log's line is active: it ends behind the place where the log began, and what isn't active ends there or below. So a message of a
-- reservation lies in an active segment.
use Rattle.std.proofs.Common.{⊎_elim, ◌≡◌, ◌∙◌, ◌+◌, ◌*◌, ◌/◌, ◌%◌, ◌≤◌, ◌<◌, ap, sym, arith, subst, ℕ, true, List, [], ◌∷◌, length, Option, Some}
use Rattle.std.specs.List.{slice_get}
use Rattle.std.specs.declared.io.Error.{Error as IoError}
use Rattle.std.proofs.lemmas.Bool.{cases_Bool}
use Rattle.std.proofs.lemmas.Nat.{div-add-mod', div-mul-add, mod_below}
use Rattle.sled_codec.specs.History.{History, Message}
use Rattle.sled_codec.specs.Pointers.{lid_of}
use Rattle.sled_store.specs.Device.{State}
use Rattle.sled_store.specs.Marks.{slot_with}
use Rattle.sled_store.specs.SegmentStates.{Machine, is_active, slot_at}
use Rattle.sled_store.specs.inside.Outdated.{IsInActive}
use Rattle.sled_core.specs.declared.iobuf.Reserved.{Reserved}
use Rattle.sled_core.specs.Begun.{SegmentView}
use Rattle.sled_core.specs.Buffers.{message_in}
use Rattle.sled_core.specs.Logged.{in_log, logged}
use Rattle.sled_core.specs.declared.logger.joined_marks.JoinedMarks.{JoinedMarks}
use Rattle.sled_core.specs.inside.Begun.{first_place}
use Rattle.sled_core.specs.inside.Buffers.{IsHeaded}
use Rattle.sled_core.specs.inside.FreeSlots.{HasSlot}
use Rattle.sled_core.specs.inside.Running.{FitsLine}
use Rattle.sled_core.specs.inside.Slots.{HasAccount}
use Rattle.sled_core.proofs.Holds.Facts.{IsSegment}
use Rattle.sled_core.proofs.Holds.ReachLemmas.{lid_as}
use Rattle.sled_core.proofs.Line.OlderSlots.{held_low}
use Rattle.sled_core.proofs.Read.ScanLemmas.{aligned_offset}
use Rattle.sled_core.proofs.Reserve.Ranges.{at_there}
use Rattle.sled_core.specs.inside.LogSegments.{held_since}

-- a reservation begins in its segment
pub inside_segment : {size place : ℕ} {v : SegmentView} → IsSegment size place v → (i : ℕ) (r : Reserved) → slice_get v.parts.reserved i ≡ Some r
    → r.from < size
inside_segment {v = v} facts i r at =
    let within = at_there (λ x. x.from + x.len ≤ length v.parts.bytes) v.parts.reserved i r at facts.within in
    let some = (at_there IsHeaded v.parts.reserved i r at facts.headed).0 in
    let short = facts.short in
    omega (arith, within, some, short)

module _ (sum : List ℕ → ℕ) (size : ℕ) (device : State) (fault : Option IoError) where
  -- the place from which all counts lies no higher than the segment of its first one's end
  begun_low : 256 ≤ size → (marks : JoinedMarks) (line : List SegmentView) (reach pins : ℕ) (H : History) (A f : ℕ) (U : List Message)
      → FitsLine sum marks size device fault line reach pins H A f U → (m : Machine) (has : HasAccount sum marks size device.snapshots.file H U m)
      → held_since size marks has.first / size * size ≤ first_place line
  begun_low big marks [] reach pins H A f U fits m has = absurd fits
  begun_low big marks (w ∷ ws) reach pins H A f U fits m has =
      held_low sum size big marks device fault (w ∷ ws) (logged H) fits.holds has.first has.begins

  module _ (line : List SegmentView) (reach pins : ℕ) (H : History) (A f : ℕ) (U : List Message)
      {marks : JoinedMarks} (fits : FitsLine sum marks size device fault line reach pins H A f U) (m : Machine)
      (has : HasAccount sum marks size device.snapshots.file H U m) (some : 256 ≤ size) (v : SegmentView) (low : first_place line ≤ v.parts.site.place)
      (slot : HasSlot size m v) where
    pub line_active : is_active (slot_at m slot.number).state ≡ true
    line_active = ⊎_elim (λ active. active) (λ idle. absurd (
        let ends = has.account.stable slot.number slot.taken idle in
        let at = slot.is in
        let begun = begun_low some marks line reach pins H A f U fits m has in
        let base : ℕ = held_since size marks has.first in
        let whole = div-add-mod' base size in
        let inside = mod_below base size (omega (arith, some)) in
        omega (arith, ends, at, begun, whole, inside, low))) (cases_Bool (is_active (slot_at m slot.number).state))

    -- A message of one of its reservations lies there.
    pub lies_active : (x : Message) (bytes : List ℕ) (r : Reserved) → in_log x ≡ message_in v.parts.site bytes r → r.from < size → IsInActive size m x
    lies_active x bytes r is inside =
        record {
          active = subst (λ k. is_active (slot_at m k).state ≡ true) (sym here) line_active;
          lsn = ap (λ k. (slot_at m k).lsn) here ∙ slot.is ∙ sym begins;
        } where
          here : slot_with size x ≡ slot.number
          here =
              ap (λ (y : Message). lid_of y.pointer / size) is
              ∙ ap (λ n. n / size) (lid_as r.blob (v.parts.site.slot + r.from) ∙ ap (λ n. n + r.from) slot.lies)
              ∙ div-mul-add slot.number size r.from inside

          place : x.place ≡ v.parts.site.place + r.from
          place = ap (λ (y : Message). y.place) is

          begins : x.place / size * size ≡ v.parts.site.place
          begins =
              let aligned : v.parts.site.place % size ≡ 0 = subst (λ n. n % size ≡ 0) slot.is (has.account.aligned slot.number slot.taken) in
              let offset : (v.parts.site.place + r.from) % size ≡ r.from = aligned_offset v.parts.site.place r.from size aligned inside in
              let whole = div-add-mod' x.place size in
              let rest : x.place % size ≡ r.from = ap (λ n. n % size) place ∙ offset in
              omega (arith, place, whole, rest)
