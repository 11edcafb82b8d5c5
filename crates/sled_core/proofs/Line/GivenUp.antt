-- The messages that were given up: those of segments one behind another, with the last one changed, with one of them changed, and without those at the front that are wholly on the device; and once one more is.
use Rattle.std.proofs.Common.{◌≡◌, ◌∙◌, ◌≤◌, ◌<◌, ◌+◌, ◌-◌, ◌/◌, ap, sym, refl, arith, subst, inl, inr, ℕ, suc, Bool, true, false, if◌then◌else◌, List, [], ◌∷◌, ◌++◌, length, max, drop, take, set, get_or, Some}
use Rattle.std.specs.List.{All, Contains, slice_get}
use Rattle.std.proofs.lemmas.Bool.{cases_lt}
use Rattle.std.proofs.lemmas.List.{append-nil, set_split, take-append-drop}
use Rattle.std.proofs.lemmas.List.Elements.{All-tail, Contains-append_cases, Contains-append_left, Contains-append_right}
use Rattle.std.proofs.lemmas.Option.{slice_get_within}
use Rattle.sled_codec.specs.History.{Message}
use Rattle.sled_codec.specs.Places.{part}
use Rattle.sled_codec.specs.Written.{written}
use Rattle.sled_store.proofs.Segments.Elements.{in_cases, in_first, in_rest}
use Rattle.sled_core.specs.Begun.{SegmentView}
use Rattle.sled_core.specs.inside.Buffers.{IsChain, ended}
use Rattle.sled_core.specs.Buffers.{body_in, item_as, message_in, padding_at}
use Rattle.sled_core.specs.invariants.Caps.{segment_rest}
use Rattle.sled_core.specs.declared.iobuf.ReservationState.{ReservationState}
use Rattle.sled_core.specs.declared.iobuf.ReservationState.TheVariants.{Canceled, Open}
use Rattle.sled_core.specs.declared.iobuf.Reserved.{Reserved}
use Rattle.sled_core.specs.declared.iobuf.SegmentPosition.{SegmentPosition}
use Rattle.sled_core.specs.Among.{AreAmong}
use Rattle.sled_core.specs.GivenUp.{canceled_state, given_up_along, given_up_in}
use Rattle.sled_core.specs.inside.Turned.{ended_now, promoted, reserved_now}
use Rattle.sled_core.specs.Waiting.{as_sealed, at_last, closed_now, last_of, sealed_now}
use Rattle.sled_core.proofs.Holds.Facts.{IsSegment}
use Rattle.sled_core.proofs.Line.Among.{among_same}
use Rattle.sled_core.proofs.Line.Gathered.{Gathers, as_sealed_keeps, closed_keeps, filled_up, gathered_begun, gathered_last, gathered_promoted, set_among}
use Rattle.sled_core.proofs.Line.Segments.{AreSegments, last_segment}
use Rattle.sled_core.proofs.Reserve.Ranges.{chain-split, chain_grows, chain_within, part-append, part-written_before, part-written_behind, there_split}
use Rattle.sled_core.proofs.Sealed.Around.{whole_chain}

-- Those of a segment.
abbrev pub given_in : SegmentView → List Message
given_in v = given_up_in v.parts.site v.parts.bytes v.parts.reserved

-- a message in front of others, if it was given up
abbrev with_given : Bool → Message → List Message → List Message
with_given o m ms = if o then m ∷ ms else ms

pub given-append : (site : SegmentPosition) (bytes : List ℕ) (rs ss : List Reserved) → given_up_in site bytes (rs ++ ss) ≡ given_up_in site bytes rs ++ given_up_in site bytes ss
given-append site bytes [] ss = refl
given-append site bytes (r ∷ rs) ss = by (canceled_state r.state) (given-append site bytes rs ss) where
  by : (o : Bool) → given_up_in site bytes (rs ++ ss) ≡ given_up_in site bytes rs ++ given_up_in site bytes ss
      → with_given o (message_in site bytes r) (given_up_in site bytes (rs ++ ss)) ≡ with_given o (message_in site bytes r) (given_up_in site bytes rs) ++ given_up_in site bytes ss
  by true rest = ap (λ (l : List Message). message_in site bytes r ∷ l) rest
  by false rest = rest

-- Those given up along segments are gathered along them.
given_gathers : Gathers given_in given_up_along
given_gathers = record { nothing = refl; further = λ v vs. refl }

-- The first ones are among all, and so are the others.
given_parted : (site : SegmentPosition) (bytes : List ℕ) (n : ℕ) (rs : List Reserved) → given_up_in site bytes rs ≡ given_up_in site bytes (take n rs) ++ given_up_in site bytes (drop n rs)
given_parted site bytes n rs = ap (given_up_in site bytes) (sym (take-append-drop n rs)) ∙ given-append site bytes (take n rs) (drop n rs)

pub given_front : (site : SegmentPosition) (bytes : List ℕ) (n : ℕ) (rs : List Reserved) → AreAmong (given_up_in site bytes (take n rs)) (given_up_in site bytes rs)
given_front site bytes n rs = λ m there. subst (λ (l : List Message). Contains l m) (sym (given_parted site bytes n rs)) (Contains-append_left (given_up_in site bytes (take n rs)) (given_up_in site bytes (drop n rs)) m there)

pub given_behind : (site : SegmentPosition) (bytes : List ℕ) (n : ℕ) (rs : List Reserved) → AreAmong (given_up_in site bytes (drop n rs)) (given_up_in site bytes rs)
given_behind site bytes n rs = λ m there. subst (λ (l : List Message). Contains l m) (sym (given_parted site bytes n rs)) (Contains-append_right (given_up_in site bytes (take n rs)) (given_up_in site bytes (drop n rs)) m there)

-- One that was given up is among them, and those behind it are.
pub given_first : (site : SegmentPosition) (bytes : List ℕ) (r : Reserved) (rs : List Reserved) → r.state ≡ Canceled → Contains (given_up_in site bytes (r ∷ rs)) (message_in site bytes r)
given_first site bytes r rs is =
    subst (λ (s : ReservationState). Contains (with_given (canceled_state s) (message_in site bytes r) (given_up_in site bytes rs)) (message_in site bytes r)) (sym is)
    (in_first (message_in site bytes r) (given_up_in site bytes rs))

pub given_rest : (site : SegmentPosition) (bytes : List ℕ) (r : Reserved) (rs : List Reserved) → AreAmong (given_up_in site bytes rs) (given_up_in site bytes (r ∷ rs))
given_rest site bytes r rs = λ m there. by (canceled_state r.state) m there where
  by : (o : Bool) (m : Message) → Contains (given_up_in site bytes rs) m → Contains (with_given o (message_in site bytes r) (given_up_in site bytes rs)) m
  by true m there = in_rest (message_in site bytes r) m (given_up_in site bytes rs) there
  by false m there = there

-- One that wasn't adds none.
not_given : (site : SegmentPosition) (bytes : List ℕ) (r : Reserved) (rs : List Reserved) → canceled_state r.state ≡ false → given_up_in site bytes (r ∷ rs) ≡ given_up_in site bytes rs
not_given site bytes r rs none = ap (λ (o : Bool). with_given o (message_in site bytes r) (given_up_in site bytes rs)) none

given_adds_none : (site : SegmentPosition) (bytes : List ℕ) (rs : List Reserved) (r : Reserved) → canceled_state r.state ≡ false → given_up_in site bytes (rs ++ r ∷ []) ≡ given_up_in site bytes rs
given_adds_none site bytes rs r none = given-append site bytes rs (r ∷ []) ∙ ap (λ (l : List Message). given_up_in site bytes rs ++ l) (not_given site bytes r [] none) ∙ append-nil (given_up_in site bytes rs)

-- The bodies of reservations in other bytes.

-- one whose header leaves no room for a body has none
no_body : (old new : List ℕ) (r : Reserved) → r.len ≤ r.header_len → body_in new r ≡ body_in old r
no_body old new r none =
    let is : r.len - r.header_len ≡ 0 = omega (arith, none) in
    ap (part new (r.from + r.header_len)) is ∙ sym (ap (part old (r.from + r.header_len)) is)

-- with others behind them
body_more : (bytes more : List ℕ) (r : Reserved) → r.from + r.len ≤ length bytes → body_in (bytes ++ more) r ≡ body_in bytes r
body_more bytes more r within = elim (cases_lt r.header_len r.len) [
  | inl some ↦ part-append bytes more (r.from + r.header_len) (r.len - r.header_len) (omega (arith, some, within))
  | inr none ↦ no_body bytes (bytes ++ more) r none
]

-- with some written over one of the reservations
body_over : (bytes text : List ℕ) (r x : Reserved) → length text ≤ r.len → r.from + r.len ≤ length bytes → x.from + x.len ≤ r.from → body_in (written bytes r.from text) x ≡ body_in bytes x
body_over bytes text r x short within before = elim (cases_lt x.header_len x.len) [
  | inl some ↦ part-written_before bytes text r.from (x.from + x.header_len) (x.len - x.header_len) (omega (arith, some, before)) (omega (arith, short, within))
  | inr none ↦ no_body bytes (written bytes r.from text) x none
]

-- Messages that stand in the same bytes are the same.
given-same : (site : SegmentPosition) (old new : List ℕ) (rs : List Reserved) → All (λ r. body_in new r ≡ body_in old r) rs → given_up_in site new rs ≡ given_up_in site old rs
given-same site old new [] all = refl
given-same site old new (r ∷ rs) all =
    let rest : given_up_in site new rs ≡ given_up_in site old rs = given-same site old new rs (All-tail (λ x. body_in new x ≡ body_in old x) r rs all) in
    let own : message_in site new r ≡ message_in site old r = ap (λ (l : List ℕ). record (message_in site old r) { bytes = item_as r.blob l }) (all 0 r (omega arith)) in
    λ i. with_given (canceled_state r.state) (own i) (rest i)

given_more : (site : SegmentPosition) (bytes more : List ℕ) (rs : List Reserved) → All (λ r. r.from + r.len ≤ length bytes) rs → given_up_in site (bytes ++ more) rs ≡ given_up_in site bytes rs
given_more site bytes more rs within = given-same site bytes (bytes ++ more) rs (λ k d lt. body_more bytes more (get_or rs k d) (within k d lt))

-- The last of segments has the same ones where its current buffer is sealed,
pub given_sealed : (v : SegmentView) (vs : List SegmentView) → given_up_along (at_last sealed_now (v ∷ vs)) ≡ given_up_along (v ∷ vs)
given_sealed v vs = gathered_last given_in given_up_along given_gathers sealed_now v vs refl

-- where it is filled before,
filled_given : (sum : List ℕ → ℕ) (size place : ℕ) (v : SegmentView) → IsSegment size place v → given_in (filled_up sum size v) ≡ given_in v
filled_given sum size place v facts =
    let more : List ℕ = segment_rest sum size (v.parts.site.place / size) (length v.parts.bytes) in
    given_adds_none v.parts.site (v.parts.bytes ++ more) v.parts.reserved (padding_at size (length v.parts.bytes)) refl
    ∙ given_more v.parts.site v.parts.bytes more v.parts.reserved facts.within

pub given_closed : (sum : List ℕ → ℕ) (size place : ℕ) (v : SegmentView) (vs : List SegmentView) → AreSegments size place (v ∷ vs) → given_up_along (at_last (closed_now sum size) (v ∷ vs)) ≡ given_up_along (v ∷ vs)
given_closed sum size place v vs are =
    let last = last_segment size place v vs are in
    gathered_last given_in given_up_along given_gathers (closed_now sum size) v vs
    (closed_keeps given_in (λ w. refl) sum size (last_of v vs) (filled_given sum size last.0 (last_of v vs) last.1))

-- and where its current buffer is as it would be sealed.
pub as_sealed_given : (sum : List ℕ → ℕ) (size place : ℕ) (v : SegmentView) (vs : List SegmentView) → AreSegments size place (v ∷ vs) → given_up_along (at_last (as_sealed sum size) (v ∷ vs)) ≡ given_up_along (v ∷ vs)
as_sealed_given sum size place v vs are =
    let last = last_segment size place v vs are in
    gathered_last given_in given_up_along given_gathers (as_sealed sum size) v vs
    (as_sealed_keeps given_in (λ w. refl) sum size (last_of v vs) (filled_given sum size last.0 (last_of v vs) last.1))

-- A segment without reservations is put behind them.
pub given_begun : (vs : List SegmentView) (x : SegmentView) → x.parts.reserved ≡ [] → given_up_along (vs ++ x ∷ []) ≡ given_up_along vs
given_begun vs x none = gathered_begun given_in given_up_along given_gathers vs x (ap (given_up_in x.parts.site x.parts.bytes) none)

-- A reservation is made in the last one.
pub given_reserved : (more : List ℕ) (r : Reserved) (size place : ℕ) (v : SegmentView) (vs : List SegmentView) → AreSegments size place (v ∷ vs) → r.state ≡ Open
    → given_up_along (at_last (reserved_now more r) (v ∷ vs)) ≡ given_up_along (v ∷ vs)
given_reserved more r size place v vs are is =
    let w : SegmentView = last_of v vs in
    let last = last_segment size place v vs are in
    let within = last.1.within in
    gathered_last given_in given_up_along given_gathers (reserved_now more r) v vs
    (given_adds_none w.parts.site (w.parts.bytes ++ more) w.parts.reserved r (ap canceled_state is)
    ∙ given_more w.parts.site w.parts.bytes more w.parts.reserved within)

-- Those at the front that are wholly on the device have no reservations.
pub given_promoted : (size place : ℕ) (vs : List SegmentView) → 256 ≤ size → AreSegments size place vs → given_up_along (promoted size vs) ≡ given_up_along vs
given_promoted size place vs big are =
    gathered_promoted given_in given_up_along given_gathers (λ v none. ap (given_up_in v.parts.site v.parts.bytes) none) size place vs big are

-- One of the segments is another: it has no more,
pub set_given : (vs : List SegmentView) (n : ℕ) (v w : SegmentView) → slice_get vs n ≡ Some v → AreAmong (given_in w) (given_in v) → AreAmong (given_up_along (set vs n w)) (given_up_along vs)
set_given vs n v w there among = set_among given_in given_up_along given_gathers [] vs n v w there among

-- or this one more.
pub set_given_more : (vs : List SegmentView) (n : ℕ) (v w : SegmentView) (m : Message) → slice_get vs n ≡ Some v → AreAmong (given_in w) (m ∷ given_in v) → AreAmong (given_up_along (set vs n w)) (m ∷ given_up_along vs)
set_given_more vs n v w m there among = set_among given_in given_up_along given_gathers (m ∷ []) vs n v w there among

-- A reservation of a segment has ended, with these bytes over the beginning of its record.
module _ {size place : ℕ} (v : SegmentView) (facts : IsSegment size place v) (i : ℕ) (r : Reserved) (there : slice_get v.parts.reserved i ≡ Some r) (is_open : r.state ≡ Open) (text : List ℕ) (short : length text ≤ r.len) (state : ReservationState) where
  abbrev site : SegmentPosition
  site = v.parts.site

  abbrev bytes : List ℕ
  bytes = v.parts.bytes

  abbrev new : List ℕ
  new = written bytes r.from text

  abbrev xs : List Reserved
  xs = take i v.parts.reserved

  abbrev ys : List Reserved
  ys = drop (suc i) v.parts.reserved

  around : v.parts.reserved ≡ xs ++ r ∷ ys
  around = there_split v.parts.reserved i r there

  chains : IsChain (max 20 v.parts.written_len) xs r.from × IsChain (r.from + r.len) ys (length bytes)
  chains = chain-split (max 20 v.parts.written_len) (length bytes) xs ys r
      (subst (λ (l : List Reserved). IsChain (max 20 v.parts.written_len) l (length bytes)) around (whole_chain v.parts.written_len v.parts.reserved v.parts.sealed (length bytes) facts.are facts.chain))

  inside : r.from + r.len ≤ length bytes
  inside = chain_grows (r.from + r.len) (length bytes) ys chains.1

  -- Those before it and those behind it are what they were,
  front_same : given_up_in site new xs ≡ given_up_in site bytes xs
  front_same = given-same site bytes new xs (λ j d lt. body_over bytes text r (get_or xs j d) short inside (chain_within (max 20 v.parts.written_len) r.from xs chains.0 j d lt).1)

  body_later : (j : ℕ) (d : Reserved) → j < length ys → body_in new (get_or ys j d) ≡ body_in bytes (get_or ys j d)
  body_later j d lt =
      let x : Reserved = get_or ys j d in
      let behind = (chain_within (r.from + r.len) (length bytes) ys chains.1 j d lt).0 in
      part-written_behind bytes text r.from (x.from + x.header_len) (x.len - x.header_len) (omega (arith, behind, short)) (omega (arith, short, inside))

  back_same : given_up_in site new ys ≡ given_up_in site bytes ys
  back_same = given-same site bytes new ys body_later

  was : given_in v ≡ given_up_in site bytes xs ++ given_up_in site bytes ys
  was = ap (given_up_in site bytes) around ∙ given-append site bytes xs (r ∷ ys) ∙ ap (λ (l : List Message). given_up_in site bytes xs ++ l) (not_given site bytes r ys (ap canceled_state is_open))

  now : given_in (ended_now i r text state v) ≡ given_up_in site new xs ++ given_up_in site new (ended state r ∷ ys)
  now = ap (given_up_in site new) (set_split v.parts.reserved i (ended state r) (slice_get_within v.parts.reserved i r there)) ∙ given-append site new xs (ended state r ∷ ys)

  -- all of them where it wasn't given up,
  pub ended_given : canceled_state state ≡ false → AreAmong (given_in (ended_now i r text state v)) (given_in v)
  ended_given none = among_same (given_in (ended_now i r text state v)) (given_in v)
      (now ∙ (λ j. front_same j ++ (not_given site new (ended state r) ys none ∙ back_same) j) ∙ sym was)

  -- and with its own message where it was, as long as its body isn't written over.
  body_stays : length text ≤ r.header_len → body_in new r ≡ body_in bytes r
  body_stays head = part-written_behind bytes text r.from (r.from + r.header_len) (r.len - r.header_len) (omega (arith, head)) (omega (arith, short, inside))

  pub canceled_given : length text ≤ r.header_len → state ≡ Canceled → AreAmong (given_in (ended_now i r text state v)) (message_in site bytes r ∷ given_in v)
  canceled_given head is = λ m has.
      let own : message_in site new (ended state r) ≡ message_in site bytes r = ap (λ (l : List ℕ). record (message_in site bytes r) { bytes = item_as r.blob l }) (body_stays head) in
      let all : given_in (ended_now i r text state v) ≡ given_up_in site bytes xs ++ message_in site bytes r ∷ given_up_in site bytes ys =
      now ∙ (λ j. front_same j ++ with_given (canceled_state (is j)) (own j) (back_same j)) in
      elim (Contains-append_cases (given_up_in site bytes xs) (message_in site bytes r ∷ given_up_in site bytes ys) m (subst (λ (l : List Message). Contains l m) all has)) [
        | inl before ↦ in_rest (message_in site bytes r) m (given_in v) (subst (λ (l : List Message). Contains l m) (sym was) (Contains-append_left (given_up_in site bytes xs) (given_up_in site bytes ys) m before))
        | inr here ↦ (elim (in_cases (message_in site bytes r) m (given_up_in site bytes ys) here) [
          | inl same ↦ (subst (Contains (message_in site bytes r ∷ given_in v)) same (in_first (message_in site bytes r) (given_in v)))
          | inr behind ↦ in_rest (message_in site bytes r) m (given_in v) (subst (λ (l : List Message). Contains l m) (sym was) (Contains-append_right (given_up_in site bytes xs) (given_up_in site bytes ys) m behind))
        ])
      ]
