-- The cleared file: where it has zeros, where it is the file itself, and that it goes by the stale offsets alone.
use Rattle.std.proofs.Common.{◌≡◌, ◌≢◌, ◌⊎◌, ◌∙◌, ◌+◌, ◌*◌, ◌/◌, ◌≤◌, ◌<◌, ◌&&◌, ℕ, zero, suc, Some, Bool, true, false, not, if◌then◌else◌, List, [], ◌∷◌, length, get_or, refl, sym, ap, arith, subst, inl, inr}
use Rattle.std.specs.List.{slice_get}
use Rattle.std.proofs.Math.Nat.{div-eq_of_lt-le, div-mul-le_self, lt-div-mul-add, suc-mul}
use Rattle.std.proofs.lemmas.Bool.{and_from, and_parts, and_right, cases_Bool, cases_lt, cases_order, not-true, or_cases, or_from, or_left, or_right}
use Rattle.std.proofs.lemmas.Bool.Decides.{nat_tests}
use Rattle.std.proofs.lemmas.List.{ext_get_or, get_or_past}
use Rattle.std.proofs.lemmas.List.FromFn.{get_or-map-range_with_len, length-map-range_with_len}
use Rattle.sled_store.specs.SegmentStates.{Machine, is_free, slot_at}
use Rattle.sled_store.proofs.Segments.FilledLemmas.{slot_before}
use Rattle.sled_core.specs.declared.iobuf.Sealed.{Sealed}
use Rattle.sled_core.specs.Begun.{SegmentView}
use Rattle.sled_core.specs.SealedBuffers.{AreZeros}
use Rattle.sled_core.specs.inside.Cleared.{AreUnwrittenZeros, StandWritten, cleared, is_between, is_stale, is_unwritten, is_unwritten_in, is_unwritten_of, zeroed}
use Rattle.sled_core.specs.inside.FreeSlots.{FreeAreZeros, HasSlot}
use Rattle.sled_core.specs.inside.SealedBuffers.{Agrees, Laid, LaidOne}
use Rattle.sled_core.proofs.Sealed.LaidLemmas.{EndsRise, ends_below}

-- each segment's buffers end one behind another within its size
abbrev pub LineRises : ℕ → List SegmentView → Type 0
LineRises size line = (j : ℕ) (u : SegmentView) → slice_get line j ≡ Some u → EndsRise u.parts.written_len u.parts.sealed size

-- slots lie beside one another
abbrev pub Beside : ℕ → ℕ → ℕ → Type 0
Beside size a b = (a + size ≤ b) ⊎ (b + size ≤ a)

-- the other segments of a line lie beside its n-th
abbrev pub OthersBeside : ℕ → List SegmentView → ℕ → SegmentView → Type 0
OthersBeside size line n v = (j : ℕ) (u : SegmentView) → slice_get line j ≡ Some u → j ≢ n → Beside size u.parts.site.slot v.parts.site.slot

-- A file with zeros where a test says so.

module _ (test : ℕ → Bool) (log : List ℕ) where
  pub zeroed_long : length (zeroed test log) ≡ length log
  zeroed_long = length-map-range_with_len (λ i. if test i then 0 else get_or log i 0) 0 (length log)

  pub zeroed_get : (i : ℕ) → get_or (zeroed test log) i 0 ≡ (if test i then 0 else get_or log i 0)
  zeroed_get i = elim (cases_lt i (length log)) [
    | inl inside ↦ get_or-map-range_with_len (λ i. if test i then 0 else get_or log i 0) 0 (length log) i i 0 inside (omega arith)
    | inr past ↦ get_or_past (zeroed test log) i 0 (omega (arith, zeroed_long, past)) ∙ sym (by (test i) (get_or_past log i 0 past))
  ] where
    by : (o : Bool) → get_or log i 0 ≡ 0 → (if o then 0 else get_or log i 0) ≡ 0
    by true none = refl
    by false none = none

  pub zeroed_there : (i : ℕ) → test i ≡ true → get_or (zeroed test log) i 0 ≡ 0
  zeroed_there i is = zeroed_get i ∙ ap (λ (o : Bool). if o then 0 else get_or log i 0) is

  pub zeroed_beside : (i : ℕ) → test i ≡ false → get_or (zeroed test log) i 0 ≡ get_or log i 0
  zeroed_beside i is = zeroed_get i ∙ ap (λ (o : Bool). if o then 0 else get_or log i 0) is

  -- it is the file itself where that has zeros there
  pub zeroed_is : ((i : ℕ) → test i ≡ true → get_or log i 0 ≡ 0) → zeroed test log ≡ log
  zeroed_is none = ext_get_or 0 (zeroed test log) log zeroed_long
      (λ i lt. elim (cases_Bool (test i)) [ inl is ↦ zeroed_there i is ∙ sym (none i is) | inr is ↦ zeroed_beside i is ])

-- and goes by what the test says of the file's own offsets
pub zeroed_same : (a b : ℕ → Bool) (log : List ℕ) → ((i : ℕ) → i < length log → a i ≡ b i) → zeroed a log ≡ zeroed b log
zeroed_same a b log same = ext_get_or 0 (zeroed a log) (zeroed b log) (zeroed_long a log ∙ sym (zeroed_long b log))
    (λ i lt. zeroed_get a log i ∙ ap (λ (o : Bool). if o then 0 else get_or log i 0) (same i (omega (arith, lt, zeroed_long a log))) ∙ sym (zeroed_get b log i))

-- What an offset is.

pub between_is : (from to i : ℕ) → from ≤ i → i < to → is_between from to i ≡ true
between_is from to i low high = grind (arith, nat_tests)

pub between_in : (from to i : ℕ) → is_between from to i ≡ true → (from ≤ i) × (i < to)
between_in from to i is = (grind (arith, nat_tests, is), grind (arith, nat_tests, is))

pub between_not : (from to i : ℕ) → (i < from) ⊎ (to ≤ i) → is_between from to i ≡ false
between_not from to i (inl low) = grind (arith, nat_tests)
between_not from to i (inr high) = grind (arith, nat_tests)

-- an offset in a slot has its number
pub slot_is : (size k i : ℕ) → k * size ≤ i → i < k * size + size → i / size ≡ k
slot_is size k i low high = div-eq_of_lt-le {k = k} size (omega (arith, low)) (omega (arith, high, suc-mul k size))

-- an offset lies in its slot
pub in_own : (size i : ℕ) → 0 < size → (i / size * size ≤ i) × (i < i / size * size + size)
in_own size i some = (div-mul-le_self i size, lt-div-mul-add some)

-- a slot that has another segment lies beside that of this one
pub slot_apart : (size : ℕ) (m : Machine) (u : SegmentView) (k : ℕ) → HasSlot size m u → (slot_at m k).lsn ≢ u.parts.site.place
    → Beside size u.parts.site.slot (k * size)
slot_apart size m u k has differs =
    let lies = has.lies in
    elim (cases_order has.number k) [
      | inl same ↦ absurd (differs (ap (λ j. (slot_at m j).lsn) (sym same) ∙ has.is))
      | inr (inl lower) ↦ inl (let row = slot_before size has.number k lower in omega (arith, row, lies))
      | inr (inr higher) ↦ inr (let row = slot_before size k has.number higher in omega (arith, row, lies))
    ]

-- So segments at different places lie beside one another.
pub segments_apart : (size : ℕ) (m : Machine) (u v : SegmentView) → HasSlot size m u → HasSlot size m v → u.parts.site.place ≢ v.parts.site.place
    → Beside size u.parts.site.slot v.parts.site.slot
segments_apart size m u v has_u has_v differs =
    subst (Beside size u.parts.site.slot) (sym has_v.lies) (slot_apart size m u has_v.number has_u (λ same. differs (sym same ∙ has_v.is)))

-- What isn't written of a segment.

-- what lies in front of it is none of it
pub unwritten_low : (slot from : ℕ) (bs : List Sealed) (to i : ℕ) → EndsRise from bs to → i < slot + from → is_unwritten_in slot from bs to i ≡ false
unwritten_low slot from [] to i rise low = between_not (slot + from) (slot + to) i (inl low)
unwritten_low slot from (b ∷ bs) to i rise low =
    let up = rise.0 in
    or_from (not b.is_written && is_between (slot + from) (slot + b.end) i) (is_unwritten_in slot b.end bs to i)
    (and_right (not b.is_written) (is_between (slot + from) (slot + b.end) i) (between_not (slot + from) (slot + b.end) i (inl low)))
    (unwritten_low slot b.end bs to i rise.1 (omega (arith, low, up)))

-- nor what lies behind it
pub unwritten_high : (slot from : ℕ) (bs : List Sealed) (to i : ℕ) → EndsRise from bs to → slot + to ≤ i → is_unwritten_in slot from bs to i ≡ false
unwritten_high slot from [] to i rise high = between_not (slot + from) (slot + to) i (inr high)
unwritten_high slot from (b ∷ bs) to i rise high =
    let below = ends_below b.end bs to rise.1 in
    or_from (not b.is_written && is_between (slot + from) (slot + b.end) i) (is_unwritten_in slot b.end bs to i)
    (and_right (not b.is_written) (is_between (slot + from) (slot + b.end) i)
    (between_not (slot + from) (slot + b.end) i (inr (omega (arith, below.0, below.1, high)))))
    (unwritten_high slot b.end bs to i rise.1 high)

-- A file with zeros there has them in the form of `Laid`, and so the other way.
pub zeros_from : (log : List ℕ) (slot from : ℕ) (bs : List Sealed) (to : ℕ) → ((i : ℕ) → is_unwritten_in slot from bs to i ≡ true → get_or log i 0 ≡ 0)
    → AreUnwrittenZeros log slot from bs to
zeros_from log slot from [] to none = λ i low high. none i (between_is (slot + from) (slot + to) i low high)
zeros_from log slot from (b ∷ bs) to none = (
  λ fresh i low high. none i (or_left (not b.is_written && is_between (slot + from) (slot + b.end) i) (is_unwritten_in slot b.end bs to i)
      (and_from (not b.is_written) (is_between (slot + from) (slot + b.end) i) (ap not fresh) (between_is (slot + from) (slot + b.end) i low high))),
  zeros_from log slot b.end bs to
      (λ i is. none i (or_right (not b.is_written && is_between (slot + from) (slot + b.end) i) (is_unwritten_in slot b.end bs to i) is)),
)

pub zeros_at : (log : List ℕ) (slot from : ℕ) (bs : List Sealed) (to : ℕ) → AreUnwrittenZeros log slot from bs to → (i : ℕ)
    → is_unwritten_in slot from bs to i ≡ true → get_or log i 0 ≡ 0
zeros_at log slot from [] to zeros i is = let in_it = between_in (slot + from) (slot + to) i is in zeros i in_it.0 in_it.1
zeros_at log slot from (b ∷ bs) to zeros i is =
    elim (or_cases (not b.is_written && is_between (slot + from) (slot + b.end) i) (is_unwritten_in slot b.end bs to i) is) [
      | inl here ↦ (
          let both = and_parts (not b.is_written) (is_between (slot + from) (slot + b.end) i) here in
          let in_it = between_in (slot + from) (slot + b.end) i both.1 in
          zeros.0 (not-true b.is_written both.0) i in_it.0 in_it.1)
      | inr behind ↦ zeros_at log slot b.end bs to zeros.1 i behind
    ]

-- `Laid` is that, and that what is written stands.
pub laid_parts : (log : List ℕ) (slot : ℕ) (bytes : List ℕ) (from : ℕ) (bs : List Sealed) (to : ℕ) → Laid log slot bytes from bs to
    → AreUnwrittenZeros log slot from bs to × StandWritten log slot bytes from bs
laid_parts log slot bytes from [] to laid = (laid, tt)
laid_parts log slot bytes from (b ∷ bs) to laid =
    let rest = laid_parts log slot bytes b.end bs to laid.1 in (
      (λ fresh. subst (λ (o : Bool). LaidOne log slot bytes from o b.end) fresh laid.0, rest.0),
      (λ is. subst (λ (o : Bool). LaidOne log slot bytes from o b.end) is laid.0, rest.1),
    )

pub laid_from : (log : List ℕ) (slot : ℕ) (bytes : List ℕ) (from : ℕ) (bs : List Sealed) (to : ℕ) → AreUnwrittenZeros log slot from bs to
    → StandWritten log slot bytes from bs → Laid log slot bytes from bs to
laid_from log slot bytes from [] to zeros stand = zeros
laid_from log slot bytes from (b ∷ bs) to zeros stand = (by_test b.is_written zeros.0 stand.0, laid_from log slot bytes b.end bs to zeros.1 stand.1) where
  by_test : (o : Bool) → (o ≡ false → AreZeros log (slot + from) (slot + b.end)) → (o ≡ true → Agrees log slot bytes from b.end)
      → LaidOne log slot bytes from o b.end
  by_test true none there = there refl
  by_test false none there = none refl

-- Of segments.

pub line_has : (size : ℕ) (line : List SegmentView) (n : ℕ) (v : SegmentView) (i : ℕ) → slice_get line n ≡ Some v → is_unwritten_of size v.parts i ≡ true
    → is_unwritten size line i ≡ true
line_has size [] n v i there is = cc
line_has size (x ∷ xs) zero v i there is =
    let same : v ≡ x = cc in
    or_left (is_unwritten_of size x.parts i) (is_unwritten size xs i) (subst (λ (y : SegmentView). is_unwritten_of size y.parts i ≡ true) same is)
line_has size (x ∷ xs) (suc n) v i there is = or_right (is_unwritten_of size x.parts i) (is_unwritten size xs i) (line_has size xs n v i there is)

-- it isn't written of one of them
pub line_one : (size : ℕ) (line : List SegmentView) (i : ℕ) → is_unwritten size line i ≡ true
    → (n : ℕ) × (v : SegmentView) × (slice_get line n ≡ Some v) × (is_unwritten_of size v.parts i ≡ true)
line_one size [] i is = cc
line_one size (v ∷ vs) i is = elim (or_cases (is_unwritten_of size v.parts i) (is_unwritten size vs i) is) [
  | inl here ↦ (0, v, refl, here)
  | inr behind ↦ (let rest = line_one size vs i behind in (suc rest.0, rest.1, rest.2, rest.3))
]

-- and none of one that isn't of any
pub line_none : (size : ℕ) (line : List SegmentView) (i : ℕ)
    → ((n : ℕ) (v : SegmentView) → slice_get line n ≡ Some v → is_unwritten_of size v.parts i ≡ false) → is_unwritten size line i ≡ false
line_none size [] i none = refl
line_none size (v ∷ vs) i none =
    or_from (is_unwritten_of size v.parts i) (is_unwritten size vs i) (none 0 v refl) (line_none size vs i (λ n w there. none (suc n) w there))

-- The lemmas.

module _ (size : ℕ) (some : 0 < size) (m : Machine) (line : List SegmentView) (log : List ℕ) where
  abbrev now : List ℕ
  now = cleared size m line log

  -- In the cleared file free slots are zeros, and so is what isn't written of each segment.
  pub cleared_zeros : FreeAreZeros size now m
      × ((n : ℕ) (v : SegmentView) → slice_get line n ≡ Some v → AreUnwrittenZeros now v.parts.site.slot v.parts.written_len v.parts.sealed size)
  cleared_zeros = (
    λ k free i low high. zeroed_there (is_stale size m line) log i
        (or_left (is_free (slot_at m (i / size)).state) (is_unwritten size line i)
        (subst (λ n. is_free (slot_at m n).state ≡ true) (sym (slot_is size k i low high)) free)),
    λ n v there. zeros_from now v.parts.site.slot v.parts.written_len v.parts.sealed size (λ i is. zeroed_there (is_stale size m line) log i
        (or_right (is_free (slot_at m (i / size)).state) (is_unwritten size line i) (line_has size line n v i there is))),
  )

  -- So `Laid` is true of it where what is written stands in it.
  pub cleared_laid : (n : ℕ) (v : SegmentView) → slice_get line n ≡ Some v
      → StandWritten now v.parts.site.slot v.parts.bytes v.parts.written_len v.parts.sealed
      → Laid now v.parts.site.slot v.parts.bytes v.parts.written_len v.parts.sealed size
  cleared_laid n v there stand = laid_from now v.parts.site.slot v.parts.bytes v.parts.written_len v.parts.sealed size (cleared_zeros.1 n v there) stand

  -- Where the file has zeros wherever it counts for nothing, cleared it is the file itself.
  pub cleared_is : ((i : ℕ) → is_stale size m line i ≡ true → get_or log i 0 ≡ 0) → now ≡ log
  cleared_is none = zeroed_is (is_stale size m line) log none

  -- It does where free slots have zeros, and what isn't written of the segments.
  pub stale_zeros : FreeAreZeros size log m
      → ((n : ℕ) (v : SegmentView) → slice_get line n ≡ Some v → AreUnwrittenZeros log v.parts.site.slot v.parts.written_len v.parts.sealed size)
      → (i : ℕ) → is_stale size m line i ≡ true → get_or log i 0 ≡ 0
  stale_zeros free each i is = elim (or_cases (is_free (slot_at m (i / size)).state) (is_unwritten size line i) is) [
    | inl unused ↦ (let own = in_own size i some in free (i / size) unused i own.0 own.1)
    | inr behind ↦ (
        let one = line_one size line i behind in
        let v = one.1 in
        zeros_at log v.parts.site.slot v.parts.written_len v.parts.sealed size (each one.0 v one.2) i one.3)
  ]

  pub cleared_itself : FreeAreZeros size log m
      → ((n : ℕ) (v : SegmentView) → slice_get line n ≡ Some v → Laid log v.parts.site.slot v.parts.bytes v.parts.written_len v.parts.sealed size) → now ≡ log
  cleared_itself free laid =
      cleared_is (stale_zeros free (λ n v there. (laid_parts log v.parts.site.slot v.parts.bytes v.parts.written_len v.parts.sealed size (laid n v there)).0))

-- Where the same offsets count for nothing, it is the same file.
pub cleared_same : (size : ℕ) (m m' : Machine) (line line' : List SegmentView) (log : List ℕ)
    → ((i : ℕ) → i < length log → is_stale size m line i ≡ is_stale size m' line' i) → cleared size m line log ≡ cleared size m' line' log
cleared_same size m m' line line' log same = zeroed_same (is_stale size m line) (is_stale size m' line') log same
