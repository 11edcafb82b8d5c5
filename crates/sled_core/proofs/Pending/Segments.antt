-- The buffers of segments that can be written, around those of one segment: with another one in its place, without those at the front that are wholly on the device, and with a further one.
use Rattle.std.proofs.Common.{◌≡◌, ◌∙◌, ◌<◌, ◌≤◌, ◌+◌, ap, sym, refl, arith, subst, ℕ, zero, suc, List, [], ◌∷◌, ◌++◌, append_assoc, length, take, drop, set, Some}
use Rattle.std.specs.List.{All, slice_get}
use Rattle.std.proofs.lemmas.List.Elements.{All-append, All-nil, All-weaker}
use Rattle.sled_core.specs.Begun.{SegmentView, begin_of}
use Rattle.sled_core.specs.declared.iobuf.Sealed.{Sealed}
use Rattle.sled_core.specs.declared.logger.ready.ReadyBuffers.{ReadyBuffers}
use Rattle.sled_core.specs.inside.ReadyBuffers.{AreReady, HasOwn, held_buffers, held_in, ready_in, ready_places}
use Rattle.sled_core.specs.SealedBuffers.{sealed_end}
use Rattle.sled_core.specs.inside.Turned.{promoted}
use Rattle.sled_core.specs.Waiting.{at_last, last_of}
use Rattle.sled_core.proofs.Holds.Facts.{IsSegment}
use Rattle.sled_core.proofs.Holds.Nth.{at_last_set, last_get}
use Rattle.sled_core.proofs.Line.Segments.{AreSegments, by_front, full_unsealed, nth_segment}
use Rattle.sled_core.proofs.Pending.Places.{ready_above, ready_below, rise_of}

-- What is known of segments is known of the same ones, by other words that say the same.
pub still_ready : {vs ws : List SegmentView} → vs ≡ ws → (old now : ReadyBuffers) → now.places.items ≡ old.places.items → now.held ≡ old.held → AreReady ws old → AreReady vs now
still_ready same old now places held known = record { places = places ∙ known.places ∙ ap ready_places (sym same); held = held ∙ known.held ∙ ap held_buffers (sym same) }

-- those of one segment
abbrev pub ready_of : SegmentView → List ℕ
ready_of v = ready_in v.parts.site.place v.parts.written_len v.parts.sealed

-- those of the segments before the n-th one, and behind it, and how many of the others' buffers have an open reservation
abbrev pub before_places : ℕ → List SegmentView → List ℕ
before_places n vs = ready_places (take n vs)

abbrev pub behind_places : ℕ → List SegmentView → List ℕ
behind_places n vs = ready_places (drop (suc n) vs)

abbrev pub other_held : ℕ → List SegmentView → ℕ
other_held n vs = held_buffers (take n vs) + held_buffers (drop (suc n) vs)

-- They are those before it, its own, and those behind it, with another one in its place too.
places_around : (vs : List SegmentView) (n : ℕ) (v : SegmentView) → slice_get vs n ≡ Some v → ready_places vs ≡ before_places n vs ++ ready_of v ++ behind_places n vs
places_around [] n v there = cc
places_around (x ∷ vs) zero v there = let same : x ≡ v = cc in ap (λ (y : SegmentView). ready_of y ++ ready_places vs) same
places_around (x ∷ vs) (suc n) v there =
    ap (λ (l : List ℕ). ready_of x ++ l) (places_around vs n v there)
    ∙ sym (append_assoc (ready_of x) (before_places n vs ++ ready_of v) (behind_places n vs)) ∙ ap (λ (l : List ℕ). l ++ behind_places n vs) (sym (append_assoc (ready_of x) (before_places n vs) (ready_of v)))

places_set : (vs : List SegmentView) (n : ℕ) (v w : SegmentView) → slice_get vs n ≡ Some v → ready_places (set vs n w) ≡ before_places n vs ++ ready_of w ++ behind_places n vs
places_set [] n v w there = cc
places_set (x ∷ vs) zero v w there = refl
places_set (x ∷ vs) (suc n) v w there =
    ap (λ (l : List ℕ). ready_of x ++ l) (places_set vs n v w there)
    ∙ sym (append_assoc (ready_of x) (before_places n vs ++ ready_of w) (behind_places n vs)) ∙ ap (λ (l : List ℕ). l ++ behind_places n vs) (sym (append_assoc (ready_of x) (before_places n vs) (ready_of w)))

held_parts : (vs : List SegmentView) (n : ℕ) (v : SegmentView) → slice_get vs n ≡ Some v → held_buffers vs ≡ other_held n vs + held_in v.parts.sealed
held_parts [] n v there = cc
held_parts (x ∷ vs) zero v there =
    let same : x ≡ v = cc in
    let own = ap (λ (y : SegmentView). held_in y.parts.sealed) same in
    omega (arith, own)
held_parts (x ∷ vs) (suc n) v there = let rest = held_parts vs n v there in omega (arith, rest)

held_set : (vs : List SegmentView) (n : ℕ) (v w : SegmentView) → slice_get vs n ≡ Some v → held_buffers (set vs n w) ≡ other_held n vs + held_in w.parts.sealed
held_set [] n v w there = cc
held_set (x ∷ vs) zero v w there = omega arith
held_set (x ∷ vs) (suc n) v w there = let rest = held_set vs n v w there in omega (arith, rest)

-- Where each segment lies: its own places are within it.
own_above : (size place : ℕ) (v : SegmentView) → IsSegment size place v → All (λ p. place ≤ p) (ready_of v)
own_above size place v is =
    let at = is.at in
    All-weaker (λ p. v.parts.site.place + v.parts.written_len ≤ p) (λ p. place ≤ p) (λ p le. omega (arith, at, le)) (ready_of v)
    (ready_above v.parts.site.place v.parts.written_len v.parts.sealed (rise_of v.parts.written_len v.parts.reserved v.parts.sealed is.are))

own_below : (size place : ℕ) (v : SegmentView) → IsSegment size place v → All (λ p. p < place + size) (ready_of v)
own_below size place v is =
    let at = is.at in
    let begins = is.begins in
    let short = is.short in
    All-weaker (λ p. p < v.parts.site.place + begin_of v) (λ p. p < place + size) (λ p lt. omega (arith, at, begins, short, lt)) (ready_of v)
    (ready_below v.parts.site.place v.parts.written_len v.parts.sealed (rise_of v.parts.written_len v.parts.reserved v.parts.sealed is.are))

all_above : (size place : ℕ) (vs : List SegmentView) → AreSegments size place vs → All (λ p. place ≤ p) (ready_places vs)
all_above size place [] are = All-nil (λ p. place ≤ p)
all_above size place (v ∷ vs) are = All-append (λ p. place ≤ p) (ready_of v) (ready_places vs) (own_above size place v are.0)
    (All-weaker (λ p. place + size ≤ p) (λ p. place ≤ p) (λ p le. omega (arith, le)) (ready_places vs) (all_above size (place + size) vs are.1))

-- Those before the n-th one are below it, and those behind it aren't within it.
before_below : (size place : ℕ) (vs : List SegmentView) (n : ℕ) (v : SegmentView) → AreSegments size place vs → slice_get vs n ≡ Some v → (place ≤ v.parts.site.place) × All (λ p. p < v.parts.site.place) (before_places n vs)
before_below size place [] n v are there = cc
before_below size place (x ∷ vs) zero v are there =
    let same : x ≡ v = cc in
    let at = are.0.at in
    let is = ap (λ (y : SegmentView). y.parts.site.place) same in
    (omega (arith, at, is), All-nil (λ p. p < v.parts.site.place))
before_below size place (x ∷ vs) (suc n) v are there =
    let rest = before_below size (place + size) vs n v are.1 there in
    let far = rest.0 in (
      omega (arith, far),
      All-append (λ p. p < v.parts.site.place) (ready_of x) (before_places n vs)
          (All-weaker (λ p. p < place + size) (λ p. p < v.parts.site.place) (λ p lt. omega (arith, far, lt)) (ready_of x) (own_below size place x are.0)) rest.1,
    )

behind_above : (size place : ℕ) (vs : List SegmentView) (n : ℕ) (v : SegmentView) → AreSegments size place vs → slice_get vs n ≡ Some v → All (λ p. v.parts.site.place + size ≤ p) (behind_places n vs)
behind_above size place [] n v are there = cc
behind_above size place (x ∷ vs) zero v are there =
    let same : x ≡ v = cc in
    let at = are.0.at in
    let is = ap (λ (y : SegmentView). y.parts.site.place) same in
    All-weaker (λ p. place + size ≤ p) (λ p. v.parts.site.place + size ≤ p) (λ p le. omega (arith, at, is, le)) (ready_places vs) (all_above size (place + size) vs are.1)
behind_above size place (x ∷ vs) (suc n) v are there = behind_above size (place + size) vs n v are.1 there

-- What is known of all of them is known of each,
pub own_ready : (size place : ℕ) (vs : List SegmentView) (n : ℕ) (v : SegmentView) (ready : ReadyBuffers) → AreSegments size place vs → slice_get vs n ≡ Some v → AreReady vs ready
    → HasOwn ready v.parts.site.place v.parts.written_len v.parts.sealed (before_places n vs) (behind_places n vs) (other_held n vs)
own_ready size place vs n v ready are there known =
    let is = nth_segment size place vs are n v there in
    let begins = is.begins in
    let short = is.short in
    record {
      places = known.places ∙ places_around vs n v there;
      held = known.held ∙ held_parts vs n v there;
      low = All-weaker (λ p. p < v.parts.site.place) (λ p. p < v.parts.site.place + v.parts.written_len) (λ p lt. omega (arith, lt)) (before_places n vs) (before_below size place vs n v are there).1;
      high = All-weaker (λ p. v.parts.site.place + size ≤ p) (λ p. v.parts.site.place + sealed_end v.parts.written_len v.parts.sealed ≤ p) (λ p le. omega (arith, begins, short, le)) (behind_places n vs) (behind_above size place vs n v are there);
    }

-- and what is known of one is known of all with that one in its place.
pub set_ready : (vs : List SegmentView) (n : ℕ) (v w : SegmentView) (ready : ReadyBuffers) → slice_get vs n ≡ Some v → ready.places.items ≡ before_places n vs ++ ready_of w ++ behind_places n vs → ready.held ≡ other_held n vs + held_in w.parts.sealed → AreReady (set vs n w) ready
set_ready vs n v w ready there places held = record { places = places ∙ sym (places_set vs n v w there); held = held ∙ sym (held_set vs n v w there) }

-- So it is with the last one, behind which there is none.

none_behind : (v : SegmentView) (vs : List SegmentView) → drop (suc (length vs)) (v ∷ vs) ≡ []
none_behind v [] = refl
none_behind v (w ∷ ws) = none_behind w ws

pub last_ready : (size place : ℕ) (v : SegmentView) (vs : List SegmentView) (ready : ReadyBuffers) → AreSegments size place (v ∷ vs) → AreReady (v ∷ vs) ready
    → HasOwn ready (last_of v vs).parts.site.place (last_of v vs).parts.written_len (last_of v vs).parts.sealed (before_places (length vs) (v ∷ vs)) [] (other_held (length vs) (v ∷ vs))
last_ready size place v vs ready are known =
    let l : SegmentView = last_of v vs in
    subst (λ (behind : List ℕ). HasOwn ready l.parts.site.place l.parts.written_len l.parts.sealed (before_places (length vs) (v ∷ vs)) behind (other_held (length vs) (v ∷ vs))) (ap ready_places (none_behind v vs))
    (own_ready size place (v ∷ vs) (length vs) l ready are (last_get v vs) known)

pub at_last_ready : (f : SegmentView → SegmentView) (v : SegmentView) (vs : List SegmentView) (ready : ReadyBuffers)
    → HasOwn ready (f (last_of v vs)).parts.site.place (f (last_of v vs)).parts.written_len (f (last_of v vs)).parts.sealed (before_places (length vs) (v ∷ vs)) [] (other_held (length vs) (v ∷ vs)) → AreReady (at_last f (v ∷ vs)) ready
at_last_ready f v vs ready known =
    let w : SegmentView = f (last_of v vs) in
    subst (λ (l : List SegmentView). AreReady l ready) (sym (at_last_set f v vs))
    (set_ready (v ∷ vs) (length vs) (last_of v vs) w ready (last_get v vs)
    (known.places ∙ ap (λ (behind : List SegmentView). before_places (length vs) (v ∷ vs) ++ ready_of w ++ ready_places behind) (sym (none_behind v vs))) known.held)

-- Where the last one is another one with the same sealed buffers, they are the same.
pub at_last_same : (f : SegmentView → SegmentView) → ((w : SegmentView) → ready_of (f w) ≡ ready_of w) → ((w : SegmentView) → held_in (f w).parts.sealed ≡ held_in w.parts.sealed) → (vs : List SegmentView) (ready : ReadyBuffers)
    → AreReady vs ready → AreReady (at_last f vs) ready
at_last_same f places held vs ready known = record { places = known.places ∙ sym (along vs); held = known.held ∙ sym (counts vs) } where
  along : (ws : List SegmentView) → ready_places (at_last f ws) ≡ ready_places ws
  along [] = refl
  along (w ∷ []) = ap (λ (l : List ℕ). l ++ []) (places w)
  along (w ∷ x ∷ xs) = ap (λ (l : List ℕ). ready_of w ++ l) (along (x ∷ xs))

  counts : (ws : List SegmentView) → held_buffers (at_last f ws) ≡ held_buffers ws
  counts [] = refl
  counts (w ∷ []) = ap (λ n. n + 0) (held w)
  counts (w ∷ x ∷ xs) = ap (λ n. held_in w.parts.sealed + n) (counts (x ∷ xs))

-- A further segment, of which nothing is sealed, adds none.
pub further_ready : (vs : List SegmentView) (w : SegmentView) (ready : ReadyBuffers) → w.parts.sealed ≡ [] → AreReady vs ready → AreReady (vs ++ w ∷ []) ready
further_ready vs w ready none known = record { places = known.places ∙ sym (along vs); held = known.held ∙ sym (counts vs) } where
  along : (xs : List SegmentView) → ready_places (xs ++ w ∷ []) ≡ ready_places xs
  along [] = ap (λ (bs : List Sealed). ready_in w.parts.site.place w.parts.written_len bs ++ []) none
  along (x ∷ xs) = ap (λ (l : List ℕ). ready_of x ++ l) (along xs)

  counts : (xs : List SegmentView) → held_buffers (xs ++ w ∷ []) ≡ held_buffers xs
  counts [] = ap (λ (bs : List Sealed). held_in bs + 0) none
  counts (x ∷ xs) = ap (λ n. held_in x.parts.sealed + n) (counts xs)

-- The segments at the front that are wholly on the device have none.
pub promoted_ready : (size place : ℕ) (vs : List SegmentView) (ready : ReadyBuffers) → AreSegments size place vs → AreReady vs ready → AreReady (promoted size vs) ready
promoted_ready size place vs ready are known =
    (by_front size (λ l. ((p : ℕ) × AreSegments size p l) × AreReady l ready)
    (λ v w ws full has.
    let none = full_unsealed size has.0.0 v has.0.1.0 full in (
      (has.0.0 + size, has.0.1.1),
      record {
        places = has.1.places ∙ ap (λ (bs : List Sealed). ready_in v.parts.site.place v.parts.written_len bs ++ ready_places (w ∷ ws)) none;
        held = has.1.held ∙ ap (λ (bs : List Sealed). held_in bs + held_buffers (w ∷ ws)) none ∙ (let zero_on : 0 + held_buffers (w ∷ ws) ≡ held_buffers (w ∷ ws) = omega arith in zero_on);
      },
    ))
    vs ((place, are), known)).1
