-- A buffer is written to one slot of a log file: the segments in other slots stand there as they stood, and the one in that slot stands up to where its records end now.
use Rattle.std.proofs.Common.{◌≡◌, ◌++◌, ◌∷◌, [], ◌⊎◌, ◌≢◌, ◌+◌, ◌*◌, ◌/◌, ◌%◌, ◌<◌, ◌≤◌, ◌∙◌, ℕ, pos, List, length, Option, sym, ap, subst, arith, inl, inr}
use Rattle.std.specs.List.{Contains}
use Rattle.std.proofs.Math.Nat.{mod-add-div'}
use Rattle.std.proofs.lemmas.Bool.{cases_eq}
use Rattle.std.proofs.lemmas.List.Elements.{Contains-append_right}
use Rattle.sled_codec.specs.History.{History}
use Rattle.sled_codec.specs.Places.{part}
use Rattle.sled_codec.specs.Record.{IsHeader}
use Rattle.sled_codec.specs.Snapshots.{SnapshotModel}
use Rattle.sled_store.specs.Device.{overwritten}
use Rattle.sled_core.specs.declared.iobuf.SegmentPosition.{SegmentPosition}
use Rattle.sled_core.specs.declared.iterator.Segment.{Segment}
use Rattle.sled_core.specs.declared.iterator.scan.ScanEnd.{ScanEnd}
use Rattle.sled_core.specs.LogFile.{HasHeader}
use Rattle.sled_core.specs.inside.Reached.{BeginsOne, BegunSegment, FollowApart, GoesOnIn, IsReadTo, IsSoFar, StandsIn}
use Rattle.sled_core.specs.inside.Scan.{IsFoundSegment}
use Rattle.sled_core.specs.Tail.{Scanned, least_place}
use Rattle.sled_codec.proofs.Segments.{one_header}
use Rattle.sled_core.proofs.Read.FoundLemmas.{pos_injective}
use Rattle.sled_store.proofs.Segments.Elements.{in_cases, in_first, in_nothing, in_rest}
use Rattle.sled_core.proofs.Reached.Higher.{known_in}
use Rattle.sled_core.proofs.Reached.LeftBeside.{IsSameBeside, found_beside}
use Rattle.sled_core.proofs.Reached.StandsTo.{StandsTo}
use Rattle.sled_core.proofs.Reached.WrittenWhole.{all_done, leaves_new, same_whole}
use Rattle.sled_core.proofs.Tail.OneTail.{segment_there}

-- A write goes on where a segment isn't full.
pub going_in : (sum : List ℕ → ℕ) (size : ℕ) (log : List ℕ) (least : ℕ) (scanned : List Scanned) (site : SegmentPosition) (from : ℕ) {records : ℕ} → StandsIn sum size log least scanned site from records → 0 < from → from + 32 ≤ size → GoesOnIn scanned site.slot from site.place
going_in sum size log least scanned site from stands some room =
    let r = stands.read some in
    let is = r.2 in
    elim r.3 [
      | inl (at, broken) ↦ record { scan = is.scan; there = is.there; in_slot = is.in_slot; at_place = is.at_place; ended = is.ended ∙ at; broken = is.ends ∙ broken room }
      | inr (whole, goes) ↦ absurd (omega (arith, whole, room))
    ]

module _ (sum : List ℕ → ℕ) (size : ℕ) (some : 256 ≤ size) (old : List ℕ) (at : ℕ) (aligned : at % size ≡ 0) (from : ℕ) (asked : List ℕ) (inside : from + length asked ≤ size) (there : at ≤ length old) (H : History) (A : ℕ)
    (first : SnapshotModel) (reach : ℕ) (is : StandsTo sum size old H A first reach) (A' reach' : ℕ) (now : StandsTo sum size (overwritten old (at + from) asked) H A' first reach') where
  abbrev new : List ℕ
  new = overwritten old (at + from) asked

  abbrev least : ℕ
  least = least_place size first

  -- the number of the slot
  abbrev slot : ℕ
  slot = at / size

  its : slot * size ≡ at
  its = omega (arith, mod-add-div' at size, aligned)

  there_too : slot * size ≤ length old
  there_too = omega (arith, its, there)

  same : IsSameBeside sum size old new at
  same = subst (λ n. IsSameBeside sum size old (overwritten old (n + from) asked) n) its (same_whole sum size some old slot from asked inside there_too)

  -- what is found in another slot is found there still
  pub still_found : (s : Segment) → IsFoundSegment sum size old least s → s.slot ≢ at → IsFoundSegment sum size new least s
  still_found s found other = subst (λ n. IsFoundSegment sum size (overwritten old (n + from) asked) least s) its
      (found_beside sum size some old slot from asked asked (overwritten old (slot * size + from) asked) inside (all_done sum size some old slot from asked inside there_too) (leaves_new sum size some old slot from asked inside there_too) least s
      (λ here. other (here ∙ its)) found)

  -- and what was read there is read
  still_read : (t : Scanned) → Contains is.scanned t → t.segment.slot ≢ at → Contains now.scanned t
  still_read t known other =
      let had = segment_there sum size old is.ordering is.scanned is.reads t known in
      let found = (is.numbers.found t.segment).0 had.0 in
      known_in sum size new H A' first reach' now t (still_found t.segment found other) (same.scans least t found other had.1)

  -- Another one, where what is found in the slot now has a place that isn't its own.
  pub segment_stays : (site : SegmentPosition) (so_far place : ℕ) → site.slot ≢ at → site.place ≢ place → ((s : Segment) → IsFoundSegment sum size new least s → s.slot ≡ at → s.place ≡ place)
      → {records : ℕ} → StandsIn sum size old least is.scanned site so_far records → StandsIn sum size new least now.scanned site so_far records
  segment_stays site so_far place other apart its_place stands = record {
    only = λ s found same_place. elim (cases_eq s.slot at) [ inl here ↦ absurd (apart (sym same_place ∙ its_place s found here)) | inr beside ↦ stands.only s (same.found least s beside found) same_place ];
    own = λ s found here. stands.own s (same.found least s (λ at_slot. other (sym here ∙ at_slot)) found) here;
    read = λ later.
        let r = stands.read later in
        let was = r.2 in
        (r.0, r.1, record { scan = was.scan; there = still_read was.scan was.there (λ at_slot. other (sym was.in_slot ∙ at_slot)); in_slot = was.in_slot; at_place = was.at_place; ended = was.ended; ends = was.ends }, r.3, r.4);
  }

  -- The one that was written, whose header is there.
  module _ (site : SegmentPosition) (so_far : ℕ) (its_slot : site.slot ≡ at) {records : ℕ} (stands : StandsIn sum size old least is.scanned site so_far records) (has : HasHeader sum new site) where
    -- what is found in its slot has its place and its mark
    pub its_header : (s : Segment) → IsFoundSegment sum size new least s → s.slot ≡ at → (pos s.place ≡ pos site.place) × (s.mark ≡ has.mark)
    its_header s found here =
        let there_now : IsHeader sum (part new site.slot 20) (pos s.place) s.mark = subst (λ n. IsHeader sum (part new n 20) (pos s.place) s.mark) (here ∙ sym its_slot) found.header in
        one_header sum (part new site.slot 20) (pos s.place) s.mark (pos site.place) has.mark there_now has.header

    pub its_place_now : (s : Segment) → IsFoundSegment sum size new least s → s.slot ≡ at → s.place ≡ site.place
    its_place_now s found here = pos_injective s.place site.place (its_header s found here).0

    pub segment_grown : (so_far' records' stop : ℕ) (why : ScanEnd) → IsReadTo now.scanned site.slot site.place stop why → IsSoFar size so_far' stop why → (so_far' ≡ size → records' ≤ stop) → StandsIn sum size new least now.scanned site so_far' records'
    segment_grown so_far' records' stop why read far last = record {
      only = λ s found same_place. elim (cases_eq s.slot at) [ inl here ↦ here ∙ sym its_slot | inr beside ↦ stands.only s (same.found least s beside found) same_place ];
      own = λ s found here. its_place_now s found (here ∙ its_slot);
      read = λ later. (stop, why, read, far, last);
    }

-- those that follow a segment lie behind it, in other slots
pub follows : (site : SegmentPosition) (others : List BegunSegment) → FollowApart site others → (x : BegunSegment) → Contains others x → (site.place < x.site.place) × (x.site.slot ≢ site.slot)
follows site [] apart x among = absurd (in_nothing x among)
follows site (y ∷ ys) apart x among = apart.0 x among

-- there is one of each slot, and of each place

pub one_slot : (site : SegmentPosition) (others : List BegunSegment) → FollowApart site others → (x y : BegunSegment) → Contains others x → Contains others y → x.site.slot ≡ y.site.slot → x ≡ y
one_slot site [] apart x y has had same = absurd (in_nothing x has)
one_slot site (z ∷ zs) apart x y has had same = elim (in_cases z x zs has) [
  | inl first_one ↦ elim (in_cases z y zs had) [
    | inl also ↦ sym first_one ∙ also
    | inr later ↦ (let f = follows z.site zs apart.1 y later in absurd (f.1 (sym same ∙ ap (λ (w : BegunSegment). w.site.slot) (sym first_one))))
  ]
  | inr later ↦ elim (in_cases z y zs had) [
    | inl first_one ↦ (let f = follows z.site zs apart.1 x later in absurd (f.1 (same ∙ ap (λ (w : BegunSegment). w.site.slot) (sym first_one))))
    | inr also ↦ one_slot z.site zs apart.1 x y later also same
  ]
]

pub one_place : (site : SegmentPosition) (others : List BegunSegment) → FollowApart site others → (x y : BegunSegment) → Contains others x → Contains others y → x.site.place ≡ y.site.place → x ≡ y
one_place site [] apart x y has had same = absurd (in_nothing x has)
one_place site (z ∷ zs) apart x y has had same = elim (in_cases z x zs has) [
  | inl first_one ↦ elim (in_cases z y zs had) [
    | inl also ↦ sym first_one ∙ also
    | inr later ↦ (let f = follows z.site zs apart.1 y later in let low = f.0 in let here = ap (λ (w : BegunSegment). w.site.place) first_one in absurd (omega (arith, low, here, same)))
  ]
  | inr later ↦ elim (in_cases z y zs had) [
    | inl first_one ↦ (let f = follows z.site zs apart.1 x later in let low = f.0 in let here = ap (λ (w : BegunSegment). w.site.place) first_one in absurd (omega (arith, low, here, same)))
    | inr also ↦ one_place z.site zs apart.1 x y later also same
  ]
]

-- One of the segments that follow has another extent now: the others are those that they were, and all have their sites.

abbrev pub as_far : BegunSegment → ℕ → Option ℕ → BegunSegment
as_far y so_far filled = record { site = y.site; from = so_far; filled = filled }

abbrev pub grown_one : BegunSegment → ℕ → BegunSegment
grown_one y so_far = as_far y so_far y.filled

-- each of them is that one, or another one of before, before it or behind it
pub was_other : (site : SegmentPosition) (pre : List BegunSegment) (y : BegunSegment) (post : List BegunSegment) (so_far : ℕ) (filled : Option ℕ) → FollowApart site (pre ++ y ∷ post) → (x : BegunSegment) → Contains (pre ++ as_far y so_far filled ∷ post) x
    → (x ≡ as_far y so_far filled) ⊎ (Contains (pre ++ y ∷ post) x × (x.site.slot ≢ y.site.slot) × (x.site.place ≢ y.site.place))
was_other site [] y post so_far filled apart x among = elim (in_cases (as_far y so_far filled) x post among) [
  | inl same ↦ inl (sym same)
  | inr later ↦ (let f = follows y.site post apart.1 x later in inr (in_rest y x post later, f.1, λ same. let low = f.0 in omega (arith, low, same)))
]
was_other site (z ∷ zs) y post so_far filled apart x among = elim (in_cases z x (zs ++ as_far y so_far filled ∷ post) among) [
  | inl same ↦ (
      let f = follows z.site (zs ++ y ∷ post) apart.1 y (Contains-append_right zs (y ∷ post) y (in_first y post)) in
      inr (
        subst (λ (w : BegunSegment). Contains (z ∷ zs ++ y ∷ post) w) same (in_first z (zs ++ y ∷ post)),
        λ at. f.1 (sym at ∙ ap (λ (w : BegunSegment). w.site.slot) (sym same)),
        λ at. let low = f.0 in let here = ap (λ (w : BegunSegment). w.site.place) same in omega (arith, low, at, here),
      ))
  | inr later ↦ elim (was_other z.site zs y post so_far filled apart.1 x later) [
    | inl one ↦ inl one
    | inr had ↦ inr (in_rest z x (zs ++ y ∷ post) had.0, had.1, had.2)
  ]
]

-- the sites are the same
pub begins_still : (pre : List BegunSegment) (y : BegunSegment) (post : List BegunSegment) (so_far place : ℕ) (filled : Option ℕ) → BeginsOne (pre ++ y ∷ post) place → BeginsOne (pre ++ as_far y so_far filled ∷ post) place
begins_still [] y post so_far place filled (x, among, at) = elim (in_cases y x post among) [
  | inl same ↦ (as_far y so_far filled, in_first (as_far y so_far filled) post, ap (λ (w : BegunSegment). w.site.place) same ∙ at)
  | inr later ↦ (x, in_rest (as_far y so_far filled) x post later, at)
]
begins_still (z ∷ zs) y post so_far place filled (x, among, at) = elim (in_cases z x (zs ++ y ∷ post) among) [
  | inl same ↦ (x, subst (λ (w : BegunSegment). Contains (z ∷ zs ++ as_far y so_far filled ∷ post) w) same (in_first z (zs ++ as_far y so_far filled ∷ post)), at)
  | inr later ↦ (let rest = begins_still zs y post so_far place filled (x, later, at) in (rest.0, in_rest z rest.0 (zs ++ as_far y so_far filled ∷ post) rest.1, rest.2))
]

apart_in : (pre : List BegunSegment) (y : BegunSegment) (post : List BegunSegment) (so_far : ℕ) (filled : Option ℕ) (P : SegmentPosition → Type 0) → ((x : BegunSegment) → Contains (pre ++ y ∷ post) x → P x.site) → (x : BegunSegment) → Contains (pre ++ as_far y so_far filled ∷ post) x → P x.site
apart_in [] y post so_far filled P all x among = elim (in_cases (as_far y so_far filled) x post among) [
  | inl same ↦ subst (λ (w : BegunSegment). P w.site) same (all y (in_first y post))
  | inr later ↦ all x (in_rest y x post later)
]
apart_in (z ∷ zs) y post so_far filled P all x among = elim (in_cases z x (zs ++ as_far y so_far filled ∷ post) among) [
  | inl same ↦ subst (λ (w : BegunSegment). P w.site) same (all z (in_first z (zs ++ y ∷ post)))
  | inr later ↦ apart_in zs y post so_far filled P (λ w at. all w (in_rest z w (zs ++ y ∷ post) at)) x later
]

pub follow_still : (site : SegmentPosition) (pre : List BegunSegment) (y : BegunSegment) (post : List BegunSegment) (so_far : ℕ) (filled : Option ℕ) → FollowApart site (pre ++ y ∷ post) → FollowApart site (pre ++ as_far y so_far filled ∷ post)
follow_still site [] y post so_far filled apart = (apart_in [] y post so_far filled (λ s. (site.place < s.place) × (s.slot ≢ site.slot)) apart.0, apart.1)
follow_still site (z ∷ zs) y post so_far filled apart = (apart_in (z ∷ zs) y post so_far filled (λ s. (site.place < s.place) × (s.slot ≢ site.slot)) apart.0, follow_still z.site zs y post so_far filled apart.1)
