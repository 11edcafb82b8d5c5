-- The laws of pages and of snapshots.
use Rattle.std.specs.Prelude.{◌≡◌, ◌+◌, ◌*◌, ◌^◌, ◌<◌, ◌≤◌, ℕ, ℤ, Option, List, [], ◌∷◌, ◌++◌, length, refl, suc, FitsSigned}
use Rattle.std.specs.List.{All, flat_map}
use Rattle.std.specs.Int.{w64, cast_unsigned}
use Rattle.std.proofs.Common.{sym, ◌∙◌, ap, arith, length-append}
use Rattle.sled_codec.specs.declared.result.DiskPtr.{DiskPtr}
use Rattle.sled_codec.specs.declared.result.DiskPtr.TheVariants.{Inline, Blob}
use Rattle.sled_codec.specs.Spelling.{SpellsNumber, SpellsSigned, short_number, short_signed, or_zero, or_zero_signed, SpellsBoth, SpellsEach, SpellsPointer}
use Rattle.sled_codec.specs.Spelling.{FitsPointer, short_pointer}
use Rattle.sled_codec.specs.SpellingLaws.{short_spells-number, one_value-number, no_front-number, short_spells-signed, one_value-signed, no_front-signed}
use Rattle.sled_codec.specs.SpellingLaws.{length-low_bytes, length-short_number}
use Rattle.sled_codec.specs.PointerLaws.{short_spells-pointer, one_value-pointer, no_front-pointer, same_behind, tail_of}
use Rattle.sled_codec.specs.PairLaws.{OneValue, NoFront, no_front-pair, one_first-pair, one_second-pair, no_front-triple, one_value-triple, no_front-both}
use Rattle.sled_codec.specs.PairLaws.{one_value-both}
use Rattle.sled_codec.specs.OptionLaws.{one_value-option, one_value-option_signed}
use Rattle.sled_codec.specs.EachLaws.{NoneEmpty, short_spells-each, no_front-each, one_value-each, one_value-all}
use Rattle.sled_codec.specs.Snapshots.{Entry, Page, Present, Free, Uninitialized, SnapshotModel, SpellsEntry, FitsEntry, short_entry, SpellsPage, FitsPage}
use Rattle.sled_codec.specs.Snapshots.{short_page, SpellsSnapshot, FitsSnapshot, short_snapshot}

-- Entries.

pub short_spells-entry : (e : Entry) → FitsEntry e → SpellsEntry (short_entry e) e
short_spells-entry e fits = record {
  first = short_signed e.0 ++ short_pointer e.1;
  second = short_number e.2;
  front =
      record {
        first = short_signed e.0;
        second = short_pointer e.1;
        front = short_spells-signed e.0 fits.0;
        back = short_spells-pointer e.1 fits.1;
        is = refl;
      };
  back = short_spells-number e.2 fits.2;
  is = refl;
}

pub no_front-entry : NoFront SpellsEntry
no_front-entry = no_front-triple SpellsSigned SpellsPointer SpellsNumber no_front-signed no_front-pointer no_front-number

pub one_value-entry : OneValue SpellsEntry
one_value-entry = one_value-triple SpellsSigned SpellsPointer SpellsNumber no_front-signed no_front-pointer one_value-signed one_value-pointer one_value-number

-- Pages.

pub short_spells-page : (p : Page) → FitsPage p → SpellsPage (short_page p) p
short_spells-page (Present base frags) fits = (
  fits.0,
  record {
    rest = short_entry base ++ flat_map short_entry frags;
    spelled = record {
      first = short_entry base;
      second = flat_map short_entry frags;
      front = short_spells-entry base fits.1;
      back = short_spells-each SpellsEntry FitsEntry short_entry short_spells-entry frags fits.2;
      is = refl;
    };
    is = refl;
  },
)
short_spells-page (Free place pointer) fits = record {
  rest = short_signed place ++ short_pointer pointer;
  spelled =
      record {
        first = short_signed place;
        second = short_pointer pointer;
        front = short_spells-signed place fits.0;
        back = short_spells-pointer pointer fits.1;
        is = refl;
      };
  is = refl;
}
short_spells-page Uninitialized fits = absurd fits

-- two pages with entries at the front of one text have equally many
same_count : (a b x y : List ℕ) (base base' : Entry) (frags frags' : List Entry) (p : SpellsPage a (Present base frags))
    (q : SpellsPage b (Present base' frags')) → a ++ x ≡ b ++ y → length (base ∷ frags) ≡ length (base' ∷ frags')
same_count a b x y base base' frags frags' p q is =
    let both = same_behind a b x y p.1.rest q.1.rest (1 + length frags) (1 + length frags') p.1.is q.1.is is in
    let counts : 1 + length frags ≡ 1 + length frags' = cc in
    omega arith

same_entries : (a b x y : List ℕ) (base base' : Entry) (frags frags' : List Entry) (p : SpellsPage a (Present base frags))
    (q : SpellsPage b (Present base' frags')) → a ++ x ≡ b ++ y → p.1.rest ++ x ≡ q.1.rest ++ y
same_entries a b x y base base' frags frags' p q is =
    tail_of _ _ (1 + length frags) (1 + length frags') (same_behind a b x y p.1.rest q.1.rest (1 + length frags) (1 + length frags') p.1.is q.1.is is)

-- the first byte of a page with entries is not that of a free one
apart : (a b x y : List ℕ) (base : Entry) (frags : List Entry) (place : ℤ) (pointer : DiskPtr) → SpellsPage a (Present base frags)
    → SpellsPage b (Free place pointer) → a ++ x ≡ b ++ y → ⊥
apart a b x y base frags place pointer p q is =
    let both = same_behind a b x y p.1.rest q.rest (1 + length frags) 0 p.1.is q.is is in
    let bytes : 1 + length frags ≡ 0 = cc in
    omega arith

pub no_front-page : NoFront SpellsPage
no_front-page a b x y (Present base frags) (Present base' frags') p q is =
    let counts = same_count a b x y base base' frags frags' p q is in
    let rests =
    no_front-each SpellsEntry no_front-entry p.1.rest q.1.rest x y (base ∷ frags) (base' ∷ frags') counts p.1.spelled q.1.spelled
    (same_entries a b x y base base' frags frags' p q is) in
    let bytes : 1 + length frags ≡ 1 + length frags' = omega arith in
    p.1.is ∙ ap (λ n. n ∷ p.1.rest) bytes ∙ ap (λ (l : List ℕ). (1 + length frags') ∷ l) rests ∙ sym q.1.is
no_front-page a b x y (Present base frags) (Free place pointer) p q is = absurd (apart a b x y base frags place pointer p q is)
no_front-page a b x y (Free place pointer) (Present base frags) p q is = absurd (apart b a y x base frags place pointer q p (sym is))
no_front-page a b x y (Free place pointer) (Free place' pointer') p q is =
    let rests = tail_of _ _ 0 0 (same_behind a b x y p.rest q.rest 0 0 p.is q.is is) in
    p.is
    ∙ ap (λ (l : List ℕ). 0 ∷ l)
    (no_front-pair SpellsSigned SpellsPointer no_front-signed no_front-pointer p.rest q.rest x y place place' pointer pointer' p.spelled q.spelled rests)
    ∙ sym q.is
no_front-page a b x y Uninitialized w p q is = absurd p
no_front-page a b x y (Present base frags) Uninitialized p q is = absurd q
no_front-page a b x y (Free place pointer) Uninitialized p q is = absurd q

head_of : (v w : Entry) (vs ws : List Entry) → v ∷ vs ≡ w ∷ ws → v ≡ w
head_of v w vs ws is = cc

others_of : (v w : Entry) (vs ws : List Entry) → v ∷ vs ≡ w ∷ ws → vs ≡ ws
others_of v w vs ws is = cc

pub one_value-page : OneValue SpellsPage
one_value-page text (Present base frags) (Present base' frags') p q =
    let counts = same_count text text [] [] base base' frags frags' p q refl in
    let rests = tail_of p.1.rest q.1.rest (1 + length frags) (1 + length frags') (sym p.1.is ∙ q.1.is) in
    let entries =
    one_value-each SpellsEntry no_front-entry one_value-entry q.1.rest (base ∷ frags) (base' ∷ frags') counts (rw rests at p.1.spelled) q.1.spelled in
    let bases = head_of base base' frags frags' entries in
    let others = others_of base base' frags frags' entries in
    λ i. Present (bases i) (others i)
one_value-page text (Present base frags) (Free place pointer) p q = absurd (apart text text [] [] base frags place pointer p q refl)
one_value-page text (Free place pointer) (Present base frags) p q = absurd (apart text text [] [] base frags place pointer q p refl)
one_value-page text (Free place pointer) (Free place' pointer') p q =
    let rests = tail_of p.rest q.rest 0 0 (sym p.is ∙ q.is) in
    let spelled = rw rests at p.spelled in
    let places = one_first-pair SpellsSigned SpellsPointer no_front-signed one_value-signed q.rest place place' pointer pointer' spelled q.spelled in
    let pointers = one_second-pair SpellsSigned SpellsPointer no_front-signed one_value-pointer q.rest place place' pointer pointer' spelled q.spelled in
    λ i. Free (places i) (pointers i)
one_value-page text Uninitialized w p q = absurd p
one_value-page text (Present base frags) Uninitialized p q = absurd q
one_value-page text (Free place pointer) Uninitialized p q = absurd q

-- no page is spelled by no bytes
pub some-page : NoneEmpty SpellsPage
some-page (Present base frags) p = let is = p.1.is in cc
some-page (Free place pointer) p = let is = p.is in cc
some-page Uninitialized p = absurd p

-- Lengths.

pub length-short_signed : (z : ℤ) → length (short_signed z) ≡ 8
length-short_signed z = length-low_bytes 8 (cast_unsigned w64 z) (omega arith)

pub length-short_pointer : (p : DiskPtr) → FitsPointer p → length (short_pointer p) ≤ 18
length-short_pointer (Inline lid) fits = let lids = length-short_number lid fits in omega (arith, lids.1)
length-short_pointer (Blob lid place) fits =
    let lids = length-short_number lid fits.0 in
    omega (arith, lids.1, length-append (short_number lid) (short_signed place), length-short_signed place)

pub length-short_entry : (e : Entry) → FitsEntry e → length (short_entry e) ≤ 35
length-short_entry e fits =
    let numbers = length-short_number e.2 fits.2 in
    omega (
      arith,
      numbers.1,
      length-append (short_signed e.0 ++ short_pointer e.1) (short_number e.2),
      length-append (short_signed e.0) (short_pointer e.1),
      length-short_signed e.0,
      length-short_pointer e.1 fits.1,
    )

pub length-short_entries : (es : List Entry) → All FitsEntry es → length (flat_map short_entry es) ≤ 35 * length es
length-short_entries [] all = omega arith
length-short_entries (e ∷ es) all =
    let one = length-short_entry e (all 0 e (omega arith)) in
    let others = length-short_entries es (λ k d lt. all (suc k) d (omega (arith, lt))) in
    omega (arith, one, others, length-append (short_entry e) (flat_map short_entry es))

-- Snapshots.

pub short_spells-snapshot : (s : SnapshotModel) → FitsSnapshot s → SpellsSnapshot (short_snapshot s) s
unfolding short_snapshot
short_spells-snapshot s fits = record {
  first = short_signed (or_zero_signed s.stable) ++ short_number (or_zero s.active);
  second = flat_map short_page s.pages;
  front = record {
    first = short_signed (or_zero_signed s.stable);
    second = short_number (or_zero s.active);
    front = short_spells-signed (or_zero_signed s.stable) fits.stable;
    back = short_spells-number (or_zero s.active) fits.active;
    is = refl;
  };
  back = short_spells-each SpellsPage FitsPage short_page short_spells-page s.pages fits.pages;
  is = refl;
}

-- the place and the segment, as they stand in front

abbrev pub short_coords : SnapshotModel → List ℕ
short_coords s = short_signed (or_zero_signed s.stable) ++ short_number (or_zero s.active)

pub length-short_snapshot : (s : SnapshotModel) → length (short_snapshot s) ≡ length (short_coords s) + length (flat_map short_page s.pages)
unfolding short_snapshot
length-short_snapshot s = length-append (short_coords s) (flat_map short_page s.pages)

-- the pair of them has a spelling
pub fits_coords : (s : SnapshotModel) → FitsSigned w64 (or_zero_signed s.stable) → or_zero s.active < 2 ^ 64
    → FitsSigned w64 (or_zero_signed s.stable) × (or_zero s.active < 2 ^ 64)
    × (length (short_signed (or_zero_signed s.stable)) + length (short_number (or_zero s.active)) < 2 ^ 64)
fits_coords s stable active =
    let long = length-short_number (or_zero s.active) active in
    (stable, active, omega (arith, long.1, length-short_signed (or_zero_signed s.stable)))

abbrev pub SpellsStable : List ℕ → Option ℤ → Type 0
SpellsStable text v = SpellsSigned text (or_zero_signed v)

abbrev pub SpellsActive : List ℕ → Option ℕ → Type 0
SpellsActive text v = SpellsNumber text (or_zero v)

pub no_front-stable : NoFront SpellsStable
no_front-stable a b x y v w = no_front-signed a b x y (or_zero_signed v) (or_zero_signed w)

pub no_front-active : NoFront SpellsActive
no_front-active a b x y v w = no_front-number a b x y (or_zero v) (or_zero w)

-- a whole text is one snapshot at most
pub one_value-snapshot : OneValue SpellsSnapshot
one_value-snapshot text v w p q =
    let both = no_front-both SpellsStable SpellsActive no_front-stable no_front-active in
    let one_both = one_value-both SpellsStable SpellsActive no_front-stable one_value-option_signed one_value-option in
    let pages = one_value-all SpellsPage no_front-page one_value-page some-page in
    let firsts =
    one_first-pair (SpellsBoth SpellsStable SpellsActive) (SpellsEach SpellsPage) both one_both text (v.stable, v.active) (
      w.stable,
      w.active,
    ) v.pages w.pages p q in
    let thirds =
    one_second-pair (SpellsBoth SpellsStable SpellsActive) (SpellsEach SpellsPage) both pages text (v.stable, v.active) (
      w.stable,
      w.active,
    ) v.pages w.pages p q in
    λ i. record { stable = (firsts i).0; active = (firsts i).1; pages = thirds i }
