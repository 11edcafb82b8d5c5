-- How many reservations of manifests are open: in segments one behind another, with the last one changed, with one of them changed, and without those at the front that are wholly on the device.
use Rattle.std.proofs.Common.{◌≡◌, ◌∙◌, ◌≤◌, ◌<◌, ◌+◌, ◌&&◌, ap, refl, arith, ℕ, zero, suc, Bool, true, false, if◌then◌else◌, List, [], ◌∷◌, ◌++◌, length, drop, take, set, Some}
use Rattle.std.specs.List.{slice_get}
use Rattle.std.proofs.lemmas.List.{take-append-drop}
use Rattle.sled_store.specs.SegmentStates.{Machine}
use Rattle.sled_core.specs.Begun.{SegmentView}
use Rattle.sled_core.specs.inside.Buffers.{ended}
use Rattle.sled_core.specs.Buffers.{none_open, open_state, padding_at}
use Rattle.sled_core.specs.declared.iobuf.ReservationState.{ReservationState}
use Rattle.sled_core.specs.declared.iobuf.ReservationState.TheVariants.{Open}
use Rattle.sled_core.specs.declared.iobuf.Reserved.{Reserved}
use Rattle.sled_core.specs.Manifests.{is_manifest}
use Rattle.sled_core.specs.inside.OpenPlaces.{open_manifests, open_manifests_in}
use Rattle.sled_core.specs.inside.Turned.{begun_view, ended_now, next_line, promoted, reserved_now}
use Rattle.sled_core.specs.Waiting.{at_last, closed_now, last_of, sealed_now}
use Rattle.sled_core.proofs.Line.Gathered.{closed_keeps, filled_up}
use Rattle.sled_core.proofs.Line.Segments.{AreSegments, by_front, full_empty}

-- those of a segment
abbrev pub manifests_of : SegmentView → ℕ
manifests_of v = open_manifests_in v.parts.reserved

-- a number, and one more where this is so
abbrev one_more : Bool → ℕ → ℕ
one_more o n = if o then suc n else n

-- Those of reservations, and of others behind them.
manifests-append : (rs ss : List Reserved) → open_manifests_in (rs ++ ss) ≡ open_manifests_in rs + open_manifests_in ss
manifests-append [] ss = omega arith
manifests-append (r ∷ rs) ss = by (open_state r.state && is_manifest r.log_kind r.page) (manifests-append rs ss) where
  by : (o : Bool) → open_manifests_in (rs ++ ss) ≡ open_manifests_in rs + open_manifests_in ss → one_more o (open_manifests_in (rs ++ ss)) ≡ one_more o (open_manifests_in rs) + open_manifests_in ss
  by true rest = omega (arith, rest)
  by false rest = rest

along-append : (vs ws : List SegmentView) → open_manifests (vs ++ ws) ≡ open_manifests vs + open_manifests ws
along-append [] ws = omega arith
along-append (v ∷ vs) ws = let rest = along-append vs ws in omega (arith, rest)

-- There are none where none is open,
none_manifests : (rs : List Reserved) → none_open rs ≡ true → open_manifests_in rs ≡ 0
none_manifests [] none = refl
none_manifests (r ∷ rs) none = by (none_manifests rs) (open_state r.state) none where
  by : (none_open rs ≡ true → open_manifests_in rs ≡ 0) → (o : Bool) → (if o then false else none_open rs) ≡ true → one_more (o && is_manifest r.log_kind r.page) (open_manifests_in rs) ≡ 0
  by rest true none = cc
  by rest false none = rest none

-- and as many without the first ones, of which none is open.
pub manifests_behind : (n : ℕ) (rs : List Reserved) → none_open (take n rs) ≡ true → open_manifests_in (drop n rs) ≡ open_manifests_in rs
manifests_behind n rs none =
    let all = manifests-append (take n rs) (drop n rs) in
    let whole = ap open_manifests_in (take-append-drop n rs) in
    let front = none_manifests (take n rs) none in
    omega (arith, all, whole, front)

-- One that isn't open adds none, and one that is adds one where it is of a manifest.
closed_adds_none : (rs : List Reserved) (r : Reserved) → open_state r.state ≡ false → open_manifests_in (rs ++ r ∷ []) ≡ open_manifests_in rs
closed_adds_none rs r closed =
    let all = manifests-append rs (r ∷ []) in
    let own : open_manifests_in (r ∷ []) ≡ 0 = ap (λ (o : Bool). one_more (o && is_manifest r.log_kind r.page) 0) closed in
    omega (arith, all, own)

open_adds_one : (rs : List Reserved) (r : Reserved) (manifest : Bool) → r.state ≡ Open → is_manifest r.log_kind r.page ≡ manifest → open_manifests_in (rs ++ r ∷ []) ≡ open_manifests_in rs + one_more manifest 0
open_adds_one rs r manifest is kind =
    let all = manifests-append rs (r ∷ []) in
    let own : open_manifests_in (r ∷ []) ≡ one_more manifest 0 = λ i. one_more (open_state (is i) && kind i) 0 in
    omega (arith, all, own)

-- The last of segments is changed: it has so many more.
at_last_adds : (f : SegmentView → SegmentView) (more : ℕ) (v : SegmentView) (vs : List SegmentView) → manifests_of (f (last_of v vs)) ≡ manifests_of (last_of v vs) + more
    → open_manifests (at_last f (v ∷ vs)) ≡ open_manifests (v ∷ vs) + more
at_last_adds f more v [] is = omega (arith, is)
at_last_adds f more v (w ∷ ws) is = let rest = at_last_adds f more w ws is in omega (arith, rest)

-- It has as many,
at_last_same : (f : SegmentView → SegmentView) → ((w : SegmentView) → manifests_of (f w) ≡ manifests_of w) → (line : List SegmentView) → open_manifests (at_last f line) ≡ open_manifests line
at_last_same f same [] = refl
at_last_same f same (v ∷ vs) = let here = same (last_of v vs) in let all = at_last_adds f 0 v vs (omega (arith, here)) in omega (arith, all)

-- where its current buffer is sealed,
pub manifests_sealed : (line : List SegmentView) → open_manifests (at_last sealed_now line) ≡ open_manifests line
manifests_sealed line = at_last_same sealed_now (λ w. refl) line

-- where it is filled before, since what fills it isn't open,
filled_manifests : (sum : List ℕ → ℕ) (size : ℕ) (v : SegmentView) → manifests_of (filled_up sum size v) ≡ manifests_of v
filled_manifests sum size v = closed_adds_none v.parts.reserved (padding_at size (length v.parts.bytes)) refl

pub manifests_closed : (sum : List ℕ → ℕ) (size : ℕ) (line : List SegmentView) → open_manifests (at_last (closed_now sum size) line) ≡ open_manifests line
manifests_closed sum size line = at_last_same (closed_now sum size) (λ v. closed_keeps manifests_of (λ w. refl) sum size v (filled_manifests sum size v)) line

-- and where a further segment is begun behind it.
pub manifests_next : (sum : List ℕ → ℕ) (size : ℕ) (m : Machine) (stable : ℕ) (line : List SegmentView) → open_manifests (next_line sum size m stable line) ≡ open_manifests line
manifests_next sum size m stable [] = refl
manifests_next sum size m stable (v ∷ vs) =
    let all = along-append (at_last (closed_now sum size) (v ∷ vs)) (begun_view sum size m stable (last_of v vs) ∷ []) in
    let closed = manifests_closed sum size (v ∷ vs) in
    omega (arith, all, closed)

-- A reservation is made in the last one.
pub manifests_reserved : (more : List ℕ) (r : Reserved) (manifest : Bool) (v : SegmentView) (vs : List SegmentView) → r.state ≡ Open → is_manifest r.log_kind r.page ≡ manifest
    → open_manifests (at_last (reserved_now more r) (v ∷ vs)) ≡ (if manifest then suc (open_manifests (v ∷ vs)) else open_manifests (v ∷ vs))
manifests_reserved more r manifest v vs is kind = by manifest (at_last_adds (reserved_now more r) (one_more manifest 0) v vs (open_adds_one (last_of v vs).parts.reserved r manifest is kind)) where
  by : (o : Bool) → open_manifests (at_last (reserved_now more r) (v ∷ vs)) ≡ open_manifests (v ∷ vs) + one_more o 0 → open_manifests (at_last (reserved_now more r) (v ∷ vs)) ≡ one_more o (open_manifests (v ∷ vs))
  by true all = omega (arith, all)
  by false all = omega (arith, all)

-- Those at the front that are wholly on the device have no reservations.
pub manifests_promoted : (size place : ℕ) (vs : List SegmentView) → 256 ≤ size → AreSegments size place vs → open_manifests (promoted size vs) ≡ open_manifests vs
manifests_promoted size place vs big are =
    (by_front size (λ l. ((p : ℕ) × AreSegments size p l) × (open_manifests l ≡ open_manifests vs))
    (λ v w ws full has. ((has.0.0 + size, has.0.1.1), gone v w ws (full_empty size has.0.0 v big has.0.1.0 full) ∙ has.1))
    vs ((place, are), refl)).1
  where
    gone : (v w : SegmentView) (ws : List SegmentView) → v.parts.reserved ≡ [] → open_manifests (w ∷ ws) ≡ open_manifests (v ∷ w ∷ ws)
    gone v w ws none = let own : manifests_of v ≡ 0 = ap open_manifests_in none in omega (arith, own)

-- One of the segments is another.
set_manifests : (line : List SegmentView) (n : ℕ) (v w : SegmentView) → slice_get line n ≡ Some v → open_manifests (set line n w) + manifests_of v ≡ open_manifests line + manifests_of w
set_manifests [] n v w there = cc
set_manifests (x ∷ xs) zero v w there =
    let one : x ≡ v = cc in
    let own : manifests_of x ≡ manifests_of v = ap manifests_of one in
    omega (arith, own)
set_manifests (x ∷ xs) (suc n) v w there = let rest = set_manifests xs n v w there in omega (arith, rest)

-- It has as many.
pub set_same : (line : List SegmentView) (n : ℕ) (v w : SegmentView) → slice_get line n ≡ Some v → manifests_of w ≡ manifests_of v → open_manifests (set line n w) ≡ open_manifests line
set_same line n v w there same = let all = set_manifests line n v w there in omega (arith, all, same)

-- One of its reservations has ended: there is one fewer where it is of a manifest.
ended_fewer : (rs : List Reserved) (i : ℕ) (r new : Reserved) (manifest : Bool) → slice_get rs i ≡ Some r → r.state ≡ Open → is_manifest r.log_kind r.page ≡ manifest → open_state new.state ≡ false
    → open_manifests_in rs ≡ open_manifests_in (set rs i new) + one_more manifest 0
ended_fewer [] i r new manifest there is kind closed = cc
ended_fewer (x ∷ xs) zero r new manifest there is kind closed =
    let one : x ≡ r = cc in
    let was : open_manifests_in (x ∷ xs) ≡ one_more manifest (open_manifests_in xs) = ap (λ (y : Reserved). open_manifests_in (y ∷ xs)) one ∙ (λ j. one_more (open_state (is j) && kind j) (open_manifests_in xs)) in
    let now : open_manifests_in (new ∷ xs) ≡ open_manifests_in xs = ap (λ (o : Bool). one_more (o && is_manifest new.log_kind new.page) (open_manifests_in xs)) closed in
    by manifest was now
  where
    by : (o : Bool) → open_manifests_in (x ∷ xs) ≡ one_more o (open_manifests_in xs) → open_manifests_in (new ∷ xs) ≡ open_manifests_in xs → open_manifests_in (x ∷ xs) ≡ open_manifests_in (new ∷ xs) + one_more o 0
    by true was now = omega (arith, was, now)
    by false was now = omega (arith, was, now)
ended_fewer (x ∷ xs) (suc i) r new manifest there is kind closed = by (open_state x.state && is_manifest x.log_kind x.page) (ended_fewer xs i r new manifest there is kind closed) where
  by : (o : Bool) → open_manifests_in xs ≡ open_manifests_in (set xs i new) + one_more manifest 0 → one_more o (open_manifests_in xs) ≡ one_more o (open_manifests_in (set xs i new)) + one_more manifest 0
  by true rest = omega (arith, rest)
  by false rest = rest

pub manifests_ended : (line : List SegmentView) (n : ℕ) (v : SegmentView) (i : ℕ) (r : Reserved) (text : List ℕ) (state : ReservationState) (manifest : Bool) → slice_get line n ≡ Some v → slice_get v.parts.reserved i ≡ Some r → r.state ≡ Open
    → is_manifest r.log_kind r.page ≡ manifest → open_state state ≡ false → open_manifests line ≡ (if manifest then suc (open_manifests (set line n (ended_now i r text state v))) else open_manifests (set line n (ended_now i r text state v)))
manifests_ended line n v i r text state manifest among there is kind closed = by manifest (ended_fewer v.parts.reserved i r (ended state r) manifest there is kind closed) where
  by : (o : Bool) → manifests_of v ≡ open_manifests_in (set v.parts.reserved i (ended state r)) + one_more o 0 → open_manifests line ≡ one_more o (open_manifests (set line n (ended_now i r text state v)))
  by true fewer = let all = set_manifests line n v (ended_now i r text state v) among in omega (arith, all, fewer)
  by false fewer = let all = set_manifests line n v (ended_now i r text state v) among in omega (arith, all, fewer)

-- What a log counts of them: with a further one, and without one of them.
pub more_counted : (manifest : Bool) (old new count now : ℕ) → new ≡ (if manifest then suc old else old) → now ≡ (if manifest then suc count else count) → old ≡ count → new ≡ now
more_counted true old new count now more is low = omega (arith, more, is, low)
more_counted false old new count now more is low = omega (arith, more, is, low)

pub fewer_counted : (manifest : Bool) (old new count now : ℕ) → old ≡ (if manifest then suc new else new) → count ≡ (if manifest then suc now else now) → old ≡ count → new ≡ now
fewer_counted true old new count now fewer is low = omega (arith, fewer, is, low)
fewer_counted false old new count now fewer is low = omega (arith, fewer, is, low)

-- one that is open is among those
pub some_counted : (manifest : Bool) (old new count : ℕ) → old ≡ (if manifest then suc new else new) → old ≡ count → manifest ≡ true → 0 < count
some_counted true old new count fewer low is = omega (arith, fewer, low)
some_counted false old new count fewer low is = cc
