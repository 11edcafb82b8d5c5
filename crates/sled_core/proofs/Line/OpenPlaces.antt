-- The places of open reservations: those of segments one behind another, with the last one changed, with one of them changed, and without those at the front that are wholly on the device; and a place that is taken out.
use Rattle.std.proofs.Common.{◌≡◌, ◌∙◌, ◌≤◌, ◌+◌, ap, sym, refl, subst, append_assoc, ℕ, zero, suc, Bool, true, false, if◌then◌else◌, List, [], ◌∷◌, ◌++◌, length, drop, take, set, Some}
use Rattle.std.specs.List.{slice_get}
use Rattle.std.proofs.lemmas.List.{append-nil, take-append-drop}
use Rattle.sled_core.specs.Begun.{SegmentView}
use Rattle.sled_core.specs.Buffers.{none_open, open_state, padding_at}
use Rattle.sled_core.specs.declared.iobuf.ReservationState.{ReservationState}
use Rattle.sled_core.specs.declared.iobuf.ReservationState.TheVariants.{Open}
use Rattle.sled_core.specs.declared.iobuf.Reserved.{Reserved}
use Rattle.sled_core.specs.OpenPlaces.{TakesOut, open_places_along, open_places_in}
use Rattle.sled_core.specs.inside.Turned.{promoted, reserved_now}
use Rattle.sled_core.specs.Waiting.{as_sealed, at_last, closed_now, last_of, sealed_now}
use Rattle.sled_core.proofs.Line.Gathered.{Gathers, as_sealed_keeps, closed_keeps, filled_up, gathered_adds, gathered_begun, gathered_last, gathered_promoted, gathered_set}
use Rattle.sled_core.proofs.Line.Segments.{AreSegments}

-- those of a segment
abbrev pub places_of : SegmentView → List ℕ
places_of v = open_places_in v.parts.site.place v.parts.reserved

-- Those of reservations, and of others behind them.
pub places-append : (base : ℕ) (rs ss : List Reserved) → open_places_in base (rs ++ ss) ≡ open_places_in base rs ++ open_places_in base ss
places-append base [] ss = refl
places-append base (r ∷ rs) ss = by (open_state r.state) (places-append base rs ss) where
  by : (o : Bool) → open_places_in base (rs ++ ss) ≡ open_places_in base rs ++ open_places_in base ss
      → (if o then (base + r.from) ∷ open_places_in base (rs ++ ss) else open_places_in base (rs ++ ss)) ≡ (if o then (base + r.from) ∷ open_places_in base rs else open_places_in base rs) ++ open_places_in base ss
  by true rest = ap (λ (l : List ℕ). (base + r.from) ∷ l) rest
  by false rest = rest

-- Those of segments are gathered along them.
places_gather : Gathers places_of open_places_along
places_gather = record { nothing = refl; further = λ v vs. refl }

-- the first ones and the others
pub places_parted : (base n : ℕ) (rs : List Reserved) → open_places_in base rs ≡ open_places_in base (take n rs) ++ open_places_in base (drop n rs)
places_parted base n rs = ap (open_places_in base) (sym (take-append-drop n rs)) ∙ places-append base (take n rs) (drop n rs)

-- There are none exactly where none is open.
pub none_placed : (base : ℕ) (rs : List Reserved) → none_open rs ≡ true → open_places_in base rs ≡ []
none_placed base [] none = refl
none_placed base (r ∷ rs) none = by (none_placed base rs) (open_state r.state) none where
  by : (none_open rs ≡ true → open_places_in base rs ≡ []) → (o : Bool) → (if o then false else none_open rs) ≡ true → (if o then (base + r.from) ∷ open_places_in base rs else open_places_in base rs) ≡ []
  by rest true none = cc
  by rest false none = rest none

pub placed_none_open : (base : ℕ) (rs : List Reserved) → open_places_in base rs ≡ [] → none_open rs ≡ true
placed_none_open base [] none = refl
placed_none_open base (r ∷ rs) none = by (placed_none_open base rs) (open_state r.state) none where
  by : (open_places_in base rs ≡ [] → none_open rs ≡ true) → (o : Bool) → (if o then (base + r.from) ∷ open_places_in base rs else open_places_in base rs) ≡ [] → (if o then false else none_open rs) ≡ true
  by rest true none = cc
  by rest false none = rest none

-- One that isn't open adds none, and one that is adds its place.
pub closed_adds_none : (base : ℕ) (rs : List Reserved) (r : Reserved) → open_state r.state ≡ false → open_places_in base (rs ++ r ∷ []) ≡ open_places_in base rs
closed_adds_none base rs r closed =
    places-append base rs (r ∷ [])
    ∙ ap (λ (o : Bool). open_places_in base rs ++ (if o then (base + r.from) ∷ [] else [])) closed
    ∙ append-nil (open_places_in base rs)

pub open_adds_one : (base : ℕ) (rs : List Reserved) (r : Reserved) → open_state r.state ≡ true → open_places_in base (rs ++ r ∷ []) ≡ open_places_in base rs ++ (base + r.from) ∷ []
open_adds_one base rs r is =
    places-append base rs (r ∷ [])
    ∙ ap (λ (o : Bool). open_places_in base rs ++ (if o then (base + r.from) ∷ [] else [])) is

-- The last of segments has the same ones where its current buffer is sealed,
pub places_sealed : (v : SegmentView) (vs : List SegmentView) → open_places_along (at_last sealed_now (v ∷ vs)) ≡ open_places_along (v ∷ vs)
places_sealed v vs = gathered_last places_of open_places_along places_gather sealed_now v vs refl

-- where it is filled before, since what fills it isn't open,
filled_places : (sum : List ℕ → ℕ) (size : ℕ) (v : SegmentView) → places_of (filled_up sum size v) ≡ places_of v
filled_places sum size v = closed_adds_none v.parts.site.place v.parts.reserved (padding_at size (length v.parts.bytes)) refl

pub places_closed : (sum : List ℕ → ℕ) (size : ℕ) (v : SegmentView) (vs : List SegmentView) → open_places_along (at_last (closed_now sum size) (v ∷ vs)) ≡ open_places_along (v ∷ vs)
places_closed sum size v vs =
    gathered_last places_of open_places_along places_gather (closed_now sum size) v vs
    (closed_keeps places_of (λ w. refl) sum size (last_of v vs) (filled_places sum size (last_of v vs)))

-- and where its current buffer is as it would be sealed.
pub as_sealed_places : (sum : List ℕ → ℕ) (size : ℕ) (v : SegmentView) (vs : List SegmentView)
    → open_places_along (at_last (as_sealed sum size) (v ∷ vs)) ≡ open_places_along (v ∷ vs)
as_sealed_places sum size v vs =
    gathered_last places_of open_places_along places_gather (as_sealed sum size) v vs
    (as_sealed_keeps places_of (λ w. refl) sum size (last_of v vs) (filled_places sum size (last_of v vs)))

-- A segment without reservations is put behind them.
pub places_begun : (vs : List SegmentView) (x : SegmentView) → x.parts.reserved ≡ [] → open_places_along (vs ++ x ∷ []) ≡ open_places_along vs
places_begun vs x none = gathered_begun places_of open_places_along places_gather vs x (ap (open_places_in x.parts.site.place) none)

-- A reservation is made in the last one.
pub places_reserved : (more : List ℕ) (r : Reserved) (v : SegmentView) (vs : List SegmentView) → r.state ≡ Open
    → open_places_along (at_last (reserved_now more r) (v ∷ vs)) ≡ open_places_along (v ∷ vs) ++ ((last_of v vs).parts.site.place + r.from) ∷ []
places_reserved more r v vs is =
    gathered_adds places_of open_places_along places_gather (reserved_now more r) (((last_of v vs).parts.site.place + r.from) ∷ []) v vs
    (open_adds_one (last_of v vs).parts.site.place (last_of v vs).parts.reserved r (ap open_state is))

-- Those at the front that are wholly on the device have no reservations.
pub places_promoted : (size place : ℕ) (vs : List SegmentView) → 256 ≤ size → AreSegments size place vs → open_places_along (promoted size vs) ≡ open_places_along vs
places_promoted size place vs big are =
    gathered_promoted places_of open_places_along places_gather (λ v none. ap (open_places_in v.parts.site.place) none) size place vs big are

-- One of the segments has the same ones.
pub set_places : (vs : List SegmentView) (n : ℕ) (v w : SegmentView) → slice_get vs n ≡ Some v → places_of w ≡ places_of v → open_places_along (set vs n w) ≡ open_places_along vs
set_places vs n v w there same = gathered_set places_of open_places_along places_gather vs n v w there same

-- A place is taken out: with others in front of all of them, and with others behind them.
pub takes_behind : (place : ℕ) (front old new : List ℕ) → TakesOut place old new → TakesOut place (front ++ old) (front ++ new)
takes_behind place front old new out = record {
  before = front ++ out.before;
  after = out.after;
  was = ap (λ (l : List ℕ). front ++ l) out.was ∙ sym (append_assoc front out.before (place ∷ out.after));
  is = ap (λ (l : List ℕ). front ++ l) out.is ∙ sym (append_assoc front out.before out.after);
}

pub takes_before : (place : ℕ) (old new behind : List ℕ) → TakesOut place old new → TakesOut place (old ++ behind) (new ++ behind)
takes_before place old new behind out = record {
  before = out.before;
  after = out.after ++ behind;
  was = ap (λ (l : List ℕ). l ++ behind) out.was ∙ append_assoc out.before (place ∷ out.after) behind;
  is = ap (λ (l : List ℕ). l ++ behind) out.is ∙ append_assoc out.before out.after behind;
}

-- It is that of a reservation which is open, and of which one that isn't open stands in its place,
pub takes_ended : (base : ℕ) (rs : List Reserved) (i : ℕ) (r new : Reserved) → slice_get rs i ≡ Some r → r.state ≡ Open → open_state new.state ≡ false → TakesOut (base + r.from) (open_places_in base rs) (open_places_in base (set rs i new))
takes_ended base [] i r new there is closed = cc
takes_ended base (x ∷ xs) zero r new there is closed =
    let same : x ≡ r = cc in
    record {
      before = [];
      after = open_places_in base xs;
      was = ap (λ (y : Reserved). open_places_in base (y ∷ xs)) same ∙ ap (λ (s : ReservationState). if open_state s then (base + r.from) ∷ open_places_in base xs else open_places_in base xs) is;
      is = ap (λ (o : Bool). if o then (base + new.from) ∷ open_places_in base xs else open_places_in base xs) closed;
    }
takes_ended base (x ∷ xs) (suc i) r new there is closed = by (open_state x.state) (takes_ended base xs i r new there is closed) where
  by : (o : Bool) → TakesOut (base + r.from) (open_places_in base xs) (open_places_in base (set xs i new))
      → TakesOut (base + r.from) (if o then (base + x.from) ∷ open_places_in base xs else open_places_in base xs) (if o then (base + x.from) ∷ open_places_in base (set xs i new) else open_places_in base (set xs i new))
  by true rest = takes_behind (base + r.from) ((base + x.from) ∷ []) (open_places_in base xs) (open_places_in base (set xs i new)) rest
  by false rest = rest

-- in one of the segments.
pub takes_in : (place : ℕ) (vs : List SegmentView) (n : ℕ) (v w : SegmentView) → slice_get vs n ≡ Some v → TakesOut place (places_of v) (places_of w) → TakesOut place (open_places_along vs) (open_places_along (set vs n w))
takes_in place [] n v w there out = cc
takes_in place (x ∷ xs) zero v w there out =
    let one : x ≡ v = cc in
    takes_before place (places_of x) (places_of w) (open_places_along xs) (subst (λ (y : SegmentView). TakesOut place (places_of y) (places_of w)) (sym one) out)
takes_in place (x ∷ xs) (suc n) v w there out = takes_behind place (places_of x) (open_places_along xs) (open_places_along (set xs n w)) (takes_in place xs n v w there out)
