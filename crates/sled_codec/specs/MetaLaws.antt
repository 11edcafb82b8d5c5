-- The laws of metas.
use Rattle.std.specs.Prelude.{◌≡◌, ℕ, Bool, true, false, cond, T, ◌&&◌, Option, Some, None, List, [], ◌∷◌, ◌++◌, reverse, refl}
use Rattle.std.proofs.Common.{sym, ◌∙◌, ap}
use Rattle.std.proofs.lemmas.List.{reverse-append}
use Rattle.std.specs.declared.cmp.Ordering.{Ordering}
use Rattle.std.specs.declared.cmp.Ordering.TheVariants.{Less, Equal, Greater}
use Rattle.std.specs.Ordering.{is_lt, is_eq}
use Rattle.std.specs.Cmp.Lexicographic.{nat_list_cmp_total}
use Rattle.std.specs.FinMap.Entries.{below_all}
use Rattle.std.specs.FinMap.{entries, entries_sorted, get, get-entries, get-empty, get-insert, get-from_entries, from_entries_push, same_map, from_entries}
use Rattle.std.specs.FinMap.{nat_cmp-IsAntisymmetric, slice_cmp-IsAntisymmetric, IsAntisymmetric, find, is_sorted}
use Rattle.sled_codec.specs.Spelling.{SpellsNumber, short_number, SpellsBytes, short_bytes}
use Rattle.sled_codec.specs.SpellingLaws.{short_spells-number, one_value-number, no_front-number, short_spells-bytes, one_value-bytes, no_front-bytes}
use Rattle.sled_codec.specs.PairLaws.{OneValue, NoFront, no_front-both, one_value-both}
use Rattle.sled_codec.specs.EachLaws.{NoneEmpty, short_spells-each, one_value-all}
use Rattle.sled_codec.specs.Metas.{name_cmp, Named, Numbers, SpellsNamed, FitsNamed, short_named, SpellsMeta, short_meta, FitsMeta}

pub same_names : IsAntisymmetric name_cmp
same_names = slice_cmp-IsAntisymmetric nat_cmp-IsAntisymmetric

-- One name and its number.

pub short_spells-named : (p : Named) → FitsNamed p → SpellsNamed (short_named p) p
short_spells-named p fits =
    record { first = short_bytes p.0; second = short_number p.1; front = short_spells-bytes p.0 fits.0; back = short_spells-number p.1 fits.1; is = refl }

pub no_front-named : NoFront SpellsNamed
no_front-named = no_front-both SpellsBytes SpellsNumber no_front-bytes no_front-number

pub one_value-named : OneValue SpellsNamed
one_value-named = one_value-both SpellsBytes SpellsNumber no_front-bytes one_value-bytes one_value-number

-- none is spelled by no bytes
nil_back : (a b : List ℕ) → [] ≡ a ++ b → b ≡ []
nil_back [] b is = sym is
nil_back (x ∷ a) b is = cc

some_number : (text : List ℕ) (v : ℕ) → text ≡ [] → SpellsNumber text v → ⊥
unfolding SpellsNumber
some_number [] v none p = p
some_number (x ∷ text) v none p = cc

pub some-named : NoneEmpty SpellsNamed
some-named p q = some_number q.second p.1 (nil_back q.first q.second q.is) q.back

-- Metas.

-- In a map each name stands once, so the order of its pairs doesn't matter.

not_equal : (o : Ordering) → T (is_lt o) → is_eq o ≡ false
not_equal Less below = refl
not_equal Equal below = absurd below
not_equal Greater below = absurd below

both_tests : (a b : Bool) → T (a && b) → T a × T b
both_tests true b p = (tt, p)
both_tests false b p = absurd p

chosen : (b : Bool) (x : Option ℕ) (v : ℕ) → b ≡ false → x ≡ None → cond b (Some v) x ≡ None
chosen true x v off none = cc
chosen false x v off none = none

none_below : (name : List ℕ) (es : List Named) → T (below_all name_cmp name es) → find name_cmp name es ≡ None
none_below name [] below = refl
none_below name (e ∷ es) below =
    let tests = both_tests (is_lt (name_cmp name e.0)) (below_all name_cmp name es) below in
    chosen (is_eq (name_cmp name e.0)) (find name_cmp name es) e.1 (not_equal (name_cmp name e.0) tests.0) (none_below name es tests.1)

turned_found : (es : List Named) (q : List ℕ) → T (is_sorted name_cmp es) → get {R = name_cmp} (from_entries (reverse es)) q ≡ find name_cmp q es
turned_found [] q rise = get-empty name_cmp q
turned_found (e ∷ es) q rise =
    let tests = both_tests (below_all name_cmp e.0 es) (is_sorted name_cmp es) rise in
    let none : find name_cmp e.0 (reverse es) ≡ None =
    sym (get-from_entries nat_list_cmp_total (reverse es) e.0) ∙ turned_found es e.0 tests.1 ∙ none_below e.0 es tests.0 in
    ap (λ (ps : List Named). get {R = name_cmp} (from_entries ps) q) (reverse-append (e ∷ []) es)
    ∙ ap (λ (m : Numbers). get m q) (from_entries_push nat_list_cmp_total same_names (reverse es) e.0 e.1 none)
    ∙ get-insert nat_list_cmp_total (from_entries (reverse es)) e.0 e.1 q
    ∙ ap (cond (is_eq (name_cmp q e.0)) (Some e.1)) (turned_found es q tests.1)

turned : (m : Numbers) → m ≡ from_entries (reverse (entries m))
turned m =
    same_map nat_list_cmp_total same_names m (from_entries (reverse (entries m))) (λ q. get-entries m q ∙ sym (turned_found (entries m) q (entries_sorted m)))

pub short_spells-meta : (m : Numbers) → FitsMeta m → SpellsMeta (short_meta m) m
short_spells-meta m fits = record {
  pairs = entries m;
  spelled = short_spells-each SpellsNamed FitsNamed short_named short_spells-named (entries m) fits.0;
  is = turned m;
}

-- a whole text is one meta at most
pub one_value-meta : OneValue SpellsMeta
one_value-meta text v w p q =
    let pairs = one_value-all SpellsNamed no_front-named one_value-named some-named text p.pairs q.pairs p.spelled q.spelled in
    p.is ∙ ap (λ (ps : List Named). from_entries (reverse ps)) pairs ∙ sym q.is
