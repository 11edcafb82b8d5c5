-- Where what fills segments begins: of segments one behind another, with the last one changed, with one of them changed, with a further one behind them, and without those at the front that are wholly on the device.
use Rattle.std.proofs.Common.{◌≡◌, ◌∙◌, ◌<◌, ◌+◌, ◌-◌, nat_lt, ap, sym, refl, arith, subst, inl, inr, ℕ, zero, suc, Bool, true, false, if◌then◌else◌, List, [], ◌∷◌, ◌++◌, length, drop, take, set, Some}
use Rattle.std.specs.List.{Contains, slice_get}
use Rattle.std.proofs.lemmas.Bool.Decides.{nat_tests}
use Rattle.std.proofs.lemmas.List.{append-nil, take-append-drop}
use Rattle.std.proofs.lemmas.List.Elements.{Contains-append_cases, Contains-append_left, Contains-append_right}
use Rattle.sled_store.proofs.Segments.Elements.{in_first, in_nothing, in_rest, only_in}
use Rattle.sled_core.specs.Among.{AreAmong}
use Rattle.sled_core.specs.Begun.{SegmentView}
use Rattle.sled_core.specs.Buffers.{padding_at, padding_state}
use Rattle.sled_core.specs.Fillings.{FillingAt, filling_of, fillings_along, fillings_in}
use Rattle.sled_core.specs.declared.iobuf.ReservationState.{ReservationState}
use Rattle.sled_core.specs.declared.iobuf.ReservationState.TheVariants.{Open, Padding}
use Rattle.sled_core.specs.declared.iobuf.Reserved.{Reserved}
use Rattle.sled_core.specs.declared.iobuf.SegmentPosition.{SegmentPosition}
use Rattle.sled_core.specs.inside.Buffers.{ended}
use Rattle.sled_core.specs.inside.SealedBuffers.{run_count, written_at}
use Rattle.sled_core.specs.inside.Turned.{ended_now, promoted, reserved_now, written_now}
use Rattle.sled_core.specs.Positions.{is_short}
use Rattle.sled_core.specs.Waiting.{as_sealed, at_last, closed_now, holds_any, last_of, sealed_now, turned_now}
use Rattle.sled_core.proofs.Line.Among.{among_same}
use Rattle.sled_core.proofs.Line.Gathered.{Gathers, filled_up, gathered_adds, gathered_begun, gathered_last, promoted_among, set_among}

-- Those of a segment.
abbrev pub its_fillings : SegmentView → List FillingAt
its_fillings v = fillings_in v.parts.site v.parts.reserved

-- one in front of others, if it fills its segment
abbrev with_its : Bool → FillingAt → List FillingAt → List FillingAt
with_its o f fs = if o then f ∷ fs else fs

-- Entries and others behind them.
fillings-append : (site : SegmentPosition) (rs ss : List Reserved) → fillings_in site (rs ++ ss) ≡ fillings_in site rs ++ fillings_in site ss
fillings-append site [] ss = refl
fillings-append site (r ∷ rs) ss = by (padding_state r.state) (fillings-append site rs ss) where
  by : (o : Bool) → fillings_in site (rs ++ ss) ≡ fillings_in site rs ++ fillings_in site ss
      → with_its o (filling_of site r) (fillings_in site (rs ++ ss)) ≡ with_its o (filling_of site r) (fillings_in site rs) ++ fillings_in site ss
  by true rest = ap (λ (l : List FillingAt). filling_of site r ∷ l) rest
  by false rest = rest

-- The first ones' are among all, and so are the others'.
fillings_parted : (site : SegmentPosition) (n : ℕ) (rs : List Reserved) → fillings_in site rs ≡ fillings_in site (take n rs) ++ fillings_in site (drop n rs)
fillings_parted site n rs = ap (fillings_in site) (sym (take-append-drop n rs)) ∙ fillings-append site (take n rs) (drop n rs)

pub fillings_front : (site : SegmentPosition) (n : ℕ) (rs : List Reserved) → AreAmong (fillings_in site (take n rs)) (fillings_in site rs)
fillings_front site n rs = λ f there. subst (λ (l : List FillingAt). Contains l f) (sym (fillings_parted site n rs)) (Contains-append_left (fillings_in site (take n rs)) (fillings_in site (drop n rs)) f there)

pub fillings_behind : (site : SegmentPosition) (n : ℕ) (rs : List Reserved) → AreAmong (fillings_in site (drop n rs)) (fillings_in site rs)
fillings_behind site n rs = λ f there. subst (λ (l : List FillingAt). Contains l f) (sym (fillings_parted site n rs)) (Contains-append_right (fillings_in site (take n rs)) (fillings_in site (drop n rs)) f there)

-- That of an entry that fills its segment is among them, and those behind it are.
pub fillings_first : (site : SegmentPosition) (r : Reserved) (rs : List Reserved) → r.state ≡ Padding → Contains (fillings_in site (r ∷ rs)) (filling_of site r)
fillings_first site r rs is =
    subst (λ (s : ReservationState). Contains (with_its (padding_state s) (filling_of site r) (fillings_in site rs)) (filling_of site r)) (sym is)
    (in_first (filling_of site r) (fillings_in site rs))

pub fillings_rest : (site : SegmentPosition) (r : Reserved) (rs : List Reserved) → AreAmong (fillings_in site rs) (fillings_in site (r ∷ rs))
fillings_rest site r rs = λ f there. by (padding_state r.state) f there where
  by : (o : Bool) (f : FillingAt) → Contains (fillings_in site rs) f → Contains (with_its o (filling_of site r) (fillings_in site rs)) f
  by true f there = in_rest (filling_of site r) f (fillings_in site rs) there
  by false f there = there

-- One that doesn't adds none.
fills_none : (site : SegmentPosition) (r : Reserved) (rs : List Reserved) → padding_state r.state ≡ false → fillings_in site (r ∷ rs) ≡ fillings_in site rs
fills_none site r rs none = ap (λ (o : Bool). with_its o (filling_of site r) (fillings_in site rs)) none

-- Those of segments are gathered along them.
fillings_gather : Gathers its_fillings fillings_along
fillings_gather = record { nothing = refl; further = λ v vs. refl }

-- The last of segments has the same ones where its current buffer is sealed,
pub fillings_sealed : (v : SegmentView) (vs : List SegmentView) → fillings_along (at_last sealed_now (v ∷ vs)) ≡ fillings_along (v ∷ vs)
fillings_sealed v vs = gathered_last its_fillings fillings_along fillings_gather sealed_now v vs refl

-- and where a reservation is made in it.
pub fillings_reserved : (more : List ℕ) (r : Reserved) (v : SegmentView) (vs : List SegmentView) → r.state ≡ Open → fillings_along (at_last (reserved_now more r) (v ∷ vs)) ≡ fillings_along (v ∷ vs)
fillings_reserved more r v vs is =
    let w : SegmentView = last_of v vs in
    gathered_last its_fillings fillings_along fillings_gather (reserved_now more r) v vs
    (fillings-append w.parts.site w.parts.reserved (r ∷ [])
    ∙ ap (λ (l : List FillingAt). its_fillings w ++ l) (fills_none w.parts.site r [] (ap padding_state is))
    ∙ append-nil (its_fillings w))

-- what fills it from its bytes' end on
abbrev pub filling_at : ℕ → SegmentView → FillingAt
filling_at size v = record { next = v.parts.site.place + size; from = v.parts.site.place + length v.parts.bytes }

-- A segment has the same ones as another, and at most this one more.
record AddsAtMost (f : FillingAt) (v w : SegmentView) : Type 0 where
  more : List FillingAt
  is : its_fillings w ≡ its_fillings v ++ more
  only : AreAmong more (f ∷ [])

adds_none : (f : FillingAt) (v w : SegmentView) → its_fillings w ≡ its_fillings v → AddsAtMost f v w
adds_none f v w same = record { more = []; is = same ∙ sym (append-nil (its_fillings v)); only = λ x there. absurd (in_nothing x there) }

-- So it is along segments of which the last one is so.
adds_along : (g : SegmentView → SegmentView) (f : FillingAt) (v : SegmentView) (vs : List SegmentView) → AddsAtMost f (last_of v vs) (g (last_of v vs)) → AreAmong (fillings_along (at_last g (v ∷ vs))) (f ∷ fillings_along (v ∷ vs))
adds_along g f v vs adds =
    let all : fillings_along (at_last g (v ∷ vs)) ≡ fillings_along (v ∷ vs) ++ adds.more = gathered_adds its_fillings fillings_along fillings_gather g adds.more v vs adds.is in
    λ x there. elim (Contains-append_cases (fillings_along (v ∷ vs)) adds.more x (subst (λ (l : List FillingAt). Contains l x) all there)) [
      | inl had ↦ in_rest f x (fillings_along (v ∷ vs)) had
      | inr own ↦ subst (λ (y : FillingAt). Contains (f ∷ fillings_along (v ∷ vs)) y) (only_in f x (adds.only x own)) (in_first f (fillings_along (v ∷ vs)))
    ]

-- It is where it is filled and sealed to its end,
closed_adds : (sum : List ℕ → ℕ) (size : ℕ) (v : SegmentView) → AddsAtMost (filling_at size v) v (closed_now sum size v)
closed_adds sum size v = by (nat_lt (length v.parts.bytes) size) refl where
  to_end : length v.parts.bytes < size → fillings_in v.parts.site (padding_at size (length v.parts.bytes) ∷ []) ≡ filling_at size v ∷ []
  to_end less = ap (λ n. record { next = v.parts.site.place + n; from = v.parts.site.place + length v.parts.bytes } ∷ []) (let back : length v.parts.bytes + (size - length v.parts.bytes) ≡ size = omega (arith, less) in back)

  by : (o : Bool) → nat_lt (length v.parts.bytes) size ≡ o → AddsAtMost (filling_at size v) v (sealed_now (if o then filled_up sum size v else v))
  by true is = record {
    more = filling_at size v ∷ [];
    is = fillings-append v.parts.site v.parts.reserved (padding_at size (length v.parts.bytes) ∷ [])
        ∙ ap (λ (l : List FillingAt). its_fillings v ++ l) (to_end (grind (arith, nat_tests, is)));
    only = λ x there. there;
  }
  by false is = adds_none (filling_at size v) v (sealed_now v) refl

pub fillings_closed : (sum : List ℕ → ℕ) (size : ℕ) (v : SegmentView) (vs : List SegmentView) → AreAmong (fillings_along (at_last (closed_now sum size) (v ∷ vs))) (filling_at size (last_of v vs) ∷ fillings_along (v ∷ vs))
fillings_closed sum size v vs = adds_along (closed_now sum size) (filling_at size (last_of v vs)) v vs (closed_adds sum size (last_of v vs))

-- and where its current buffer is as it would be sealed: then it is this one, where no further record has room.
pub as_sealed_fillings : (sum : List ℕ → ℕ) (size : ℕ) (f : FillingAt) (v : SegmentView) (vs : List SegmentView) → (is_short size (length (last_of v vs).parts.bytes) ≡ true → filling_at size (last_of v vs) ≡ f)
    → AreAmong (fillings_along (at_last (as_sealed sum size) (v ∷ vs))) (f ∷ fillings_along (v ∷ vs))
as_sealed_fillings sum size f v vs same = adds_along (as_sealed sum size) f v vs (by_any (by_short (is_short size (length w.parts.bytes)) refl) (holds_any w)) where
  w : SegmentView
  w = last_of v vs

  by_short : (o : Bool) → is_short size (length w.parts.bytes) ≡ o → AddsAtMost f w (if o then closed_now sum size w else sealed_now w)
  by_short true is = subst (λ (x : FillingAt). AddsAtMost x w (closed_now sum size w)) (same is) (closed_adds sum size w)
  by_short false is = adds_none f w (sealed_now w) refl

  by_any : AddsAtMost f w (turned_now sum size w) → (o : Bool) → AddsAtMost f w (if o then turned_now sum size w else w)
  by_any turned true = turned
  by_any turned false = adds_none f w w refl

-- A segment without reservations is put behind them.
pub fillings_begun : (vs : List SegmentView) (x : SegmentView) → x.parts.reserved ≡ [] → fillings_along (vs ++ x ∷ []) ≡ fillings_along vs
fillings_begun vs x none = gathered_begun its_fillings fillings_along fillings_gather vs x (ap (fillings_in x.parts.site) none)

-- Those at the front go.
pub fillings_promoted : (size : ℕ) (vs : List SegmentView) → AreAmong (fillings_along (promoted size vs)) (fillings_along vs)
fillings_promoted size vs = promoted_among its_fillings fillings_along fillings_gather size vs

-- One of the segments is another: it has no others.
pub set_fillings : (vs : List SegmentView) (n : ℕ) (v w : SegmentView) → slice_get vs n ≡ Some v → AreAmong (its_fillings w) (its_fillings v) → AreAmong (fillings_along (set vs n w)) (fillings_along vs)
set_fillings vs n v w there among = set_among its_fillings fillings_along fillings_gather [] vs n v w there among

-- One of its sealed buffers is written.
pub fillings_written : (v : SegmentView) (k : ℕ) → AreAmong (its_fillings (written_now k v)) (its_fillings v)
fillings_written v k = fillings_behind v.parts.site (run_count (written_at k v.parts.sealed)) v.parts.reserved

-- A reservation of it has ended.
fillings_set : (site : SegmentPosition) (rs : List Reserved) (i : ℕ) (r : Reserved) (state : ReservationState) → slice_get rs i ≡ Some r → r.state ≡ Open → padding_state state ≡ false → fillings_in site (set rs i (ended state r)) ≡ fillings_in site rs
fillings_set site [] i r state there is plain = refl
fillings_set site (x ∷ xs) zero r state there is plain =
    let same : x ≡ r = cc in
    fills_none site (ended state r) xs plain ∙ sym (fills_none site x xs (ap (λ (y : Reserved). padding_state y.state) same ∙ ap padding_state is))
fillings_set site (x ∷ xs) (suc i) r state there is plain = ap (with_its (padding_state x.state) (filling_of site x)) (fillings_set site xs i r state there is plain)

pub fillings_ended : (v : SegmentView) (i : ℕ) (r : Reserved) (text : List ℕ) (state : ReservationState) → slice_get v.parts.reserved i ≡ Some r → r.state ≡ Open → padding_state state ≡ false → AreAmong (its_fillings (ended_now i r text state v)) (its_fillings v)
fillings_ended v i r text state there is plain = among_same (its_fillings (ended_now i r text state v)) (its_fillings v) (fillings_set v.parts.site v.parts.reserved i r state there is plain)
