-- The segments at the front that are wholly on the device go: the others hold and fit the same, tickets stay, and so does where the next record begins.
use Rattle.std.proofs.Common.{◌≡◌, ◌∙◌, ◌<◌, ◌≤◌, ◌+◌, ◌-◌, ◌==◌, ap, sym, refl, arith, subst, ℕ, zero, suc, Bool, true, if◌then◌else◌, List, [], ◌∷◌, map, set, Option, None, Some, inl, inr}
use Rattle.std.specs.List.{slice_get}
use Rattle.std.specs.declared.io.Error.{Error as IoError}
use Rattle.std.proofs.lemmas.Bool.{cases_eq}
use Rattle.std.proofs.lemmas.Bool.Decides.{nat_tests}
use Rattle.sled_codec.specs.History.{Message, History}
use Rattle.sled_store.specs.Device.{State}
use Rattle.sled_core.specs.inside.Begun.{AreFilled}
use Rattle.sled_core.specs.Begun.{SegmentView}
use Rattle.sled_core.specs.declared.iobuf.Reserved.{Reserved}
use Rattle.sled_core.specs.declared.reservation.Reservation.{Reservation}
use Rattle.sled_core.specs.inside.Fits.{written_to, HoldsLine, parts_in}
use Rattle.sled_core.specs.Fits.{AwaitsIn}
use Rattle.sled_core.specs.inside.Full.{FitsFull}
use Rattle.sled_core.specs.inside.Running.{FitsLine}
use Rattle.sled_core.specs.Tickets.{index_of}
use Rattle.sled_core.specs.inside.Turned.{promoted}
use Rattle.sled_core.specs.Waiting.{last_of}
use Rattle.sled_core.specs.declared.logger.joined_marks.JoinedMarks.{JoinedMarks}
use Rattle.sled_core.proofs.Line.FullFurther.{full_further}
use Rattle.sled_core.proofs.Line.FullNext.{full_next, here}
use Rattle.sled_core.proofs.Line.Promoted.{promoted as promoted_first}
use Rattle.sled_core.proofs.Line.Segments.{AreSegments, by_front, full_empty, promoted_same}
use Rattle.sled_core.proofs.Sealed.Ended.{ends_up}

-- What the segments hold those that are left hold.
pub holds_promoted : (sum : List ℕ → ℕ) (marks : JoinedMarks) (size : ℕ) (device : State) (fault : Option IoError) (H : History) → 256 ≤ size → (place : ℕ) (vs : List SegmentView) → AreSegments size place vs → HoldsLine sum marks size device fault vs H
    → HoldsLine sum marks size device fault (promoted size vs) H
holds_promoted sum marks size device fault H big place vs are holds =
    (by_front size (λ l. ((p : ℕ) × AreSegments size p l) × HoldsLine sum marks size device fault l H)
    (λ v w ws full has. (
      (has.0.0 + size, has.0.1.1),
      promoted_first sum size v.parts.site device fault v.parts.bytes v.parts.written_len v.parts.sealed v.parts.reserved H w.parts (map parts_in ws) has.1 big full (full_empty size has.0.0 v big has.0.1.0 full),
    ))
    vs ((place, are), holds)).1

-- Where all segments before these are wholly on the device, the log fits with those that are left.
pub fits_full : {marks : JoinedMarks} (sum : List ℕ → ℕ) (size : ℕ) (device : State) (fault : Option IoError) {pins : ℕ} {H : History} {A f : ℕ} {U : List Message} → 256 ≤ size → fault ≡ None → (to place reach : ℕ) (w : SegmentView) (ws : List SegmentView) → AreFilled size to (w ∷ ws)
    → FitsFull sum marks size device fault place (map parts_in (w ∷ ws)) reach pins H A f U → (now : ℕ) × FitsLine sum marks size device fault (promoted size (w ∷ ws)) now pins H A f U
fits_full {marks} sum size device fault big whole to place reach w [] filled fits =
    let first = here sum size device fault place w.parts [] fits big whole in
    let up = ends_up w.parts.written_len w.parts.reserved w.parts.sealed first.are in
    let low = filled.0 in
    full_next sum size device fault place w.parts [] fits big whole (omega (arith, up, low))
fits_full {marks} sum size device fault {pins} {H} {A} {f} {U} big whole to place reach w (y ∷ ys) filled fits =
    elim (cases_eq w.parts.written_len size) [
      | inl full ↦ (
          let next = full_further sum size device fault place w.parts (map parts_in (y ∷ ys)) fits big whole full in
          let rest = fits_full sum size device fault big whole to (place + size) next.0 y ys filled.2 next.1 in
          let is : (w.parts.written_len == size) ≡ true = grind (arith, nat_tests, full) in
          (rest.0, subst (λ (l : List SegmentView). FitsLine sum marks size device fault l rest.0 pins H A f U) (sym (ap (λ (o : Bool). if o then promoted size (y ∷ ys) else w ∷ y ∷ ys) is)) rest.1))
      | inr other ↦ (
          let first = here sum size device fault place w.parts (map parts_in (y ∷ ys)) fits big whole in
          let behind = first.behind in
          let inside = first.inside in
          let low : w.parts.written_len < size = omega (arith, behind, inside, other) in
          let next = full_next sum size device fault place w.parts (map parts_in (y ∷ ys)) fits big whole low in
          (next.0, subst (λ (l : List SegmentView). FitsLine sum marks size device fault l next.0 pins H A f U) (sym (promoted_same size w (y ∷ ys) (λ some. low))) next.1))
    ]

-- Tickets are for what they were for: none was for a reservation of those that go.
pub awaits_promoted : (size place : ℕ) (vs : List SegmentView) (ticket : Reservation) (m : Message) → 256 ≤ size → AreSegments size place vs → AwaitsIn vs ticket m → AwaitsIn (promoted size vs) ticket m
awaits_promoted size place vs ticket m big are awaits =
    (by_front size (λ l. ((p : ℕ) × AreSegments size p l) × AwaitsIn l ticket m) (λ v w ws full has. ((has.0.0 + size, has.0.1.1), behind v w ws (full_empty size has.0.0 v big has.0.1.0 full) has.1.number has.1.segment has.1.among has.1)) vs ((place, are), awaits)).1
  where
    behind : (v w : SegmentView) (ws : List SegmentView) → v.parts.reserved ≡ [] → (n : ℕ) (u : SegmentView) → slice_get (v ∷ w ∷ ws) n ≡ Some u → (a : AwaitsIn (v ∷ w ∷ ws) ticket m) → AwaitsIn (w ∷ ws) ticket m
    behind v w ws none n u among a = at a.number a.among where
      at : (n : ℕ) → slice_get (v ∷ w ∷ ws) n ≡ Some a.segment → AwaitsIn (w ∷ ws) ticket m
      at zero among =
          let same : v ≡ a.segment = cc in
          let there : slice_get v.parts.reserved (index_of ticket - a.segment.gone) ≡ Some a.reserved = subst (λ (x : SegmentView). slice_get x.parts.reserved (index_of ticket - a.segment.gone) ≡ Some a.reserved) (sym same) a.there in
          let never : None ≡ Some a.reserved = sym (ap (λ (l : List Reserved). slice_get l (index_of ticket - a.segment.gone)) none) ∙ there in
          absurd (let no : ⊥ = cc in no)
      at (suc j) among = record { number = j; segment = a.segment; among = among; reserved = a.reserved; numbered = a.numbered; there = a.there; own = a.own; message = a.message }

-- The last one is the same.
pub last_promoted : (size : ℕ) (d : SegmentView) (vs : List SegmentView) → last_of d (promoted size vs) ≡ last_of d vs
last_promoted size d vs = by_front size (λ l. last_of d l ≡ last_of d vs) (λ v w ws full has. has) vs refl

-- What is the same of the n-th one with another in its place is the same of the last one.
pub last_set : {X : Type 0} (P : SegmentView → X) (d : SegmentView) (vs : List SegmentView) (n : ℕ) (v w : SegmentView) → slice_get vs n ≡ Some v → P w ≡ P v → P (last_of d (set vs n w)) ≡ P (last_of d vs)
last_set P d [] n v w there same = refl
last_set P d (x ∷ []) zero v w there same = let one : x ≡ v = cc in same ∙ ap P (sym one)
last_set P d (x ∷ y ∷ ys) zero v w there same = refl
last_set P d (x ∷ xs) (suc n) v w there same = last_set P x xs n v w there same

-- Where all that is written without a gap ends it ends no lower.
pub end_promoted : (size place : ℕ) (vs : List SegmentView) → AreSegments size place vs → written_to vs ≤ written_to (promoted size vs)
end_promoted size place vs are =
    (by_front size (λ l. ((p : ℕ) × AreSegments size p l) × (written_to vs ≤ written_to l))
    (λ v w ws full has. (
      (has.0.0 + size, has.0.1.1),
      (let at = has.0.1.0.at in let next = has.0.1.1.0.at in let so_far = has.1 in omega (arith, at, next, so_far, full)),
    ))
    vs ((place, are), omega arith)).1
