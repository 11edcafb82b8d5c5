-- Tables of pages.
use Rattle.std.proofs.Common.{◌≡◌, ◌∙◌, ◌+◌, ◌-◌, ◌<◌, ◌≤◌, ℕ, zero, suc, List, [], ◌∷◌, ◌++◌, length, map, get_or, replicate, refl, sym, ap, arith, append_assoc, Some, set, length-set, Result, Ok, Err, OnOk}
use Rattle.std.specs.List.{slice_get}
use Rattle.std.proofs.lemmas.List.{replicate-append-replicate, append-nil, get_or-map, map-set, length-map}
use Rattle.sled_codec.specs.declared.serialization.snapshot.PageState.{PageState}
use Rattle.sled_core.proofs.Reserve.Parts.{get_there}
use Rattle.sled_codec.specs.Snapshots.{Entry, Page, Uninitialized, page_of}
use Rattle.sled_log.specs.Recovery.{last_entry, grown, with_fragment}

-- the last entry is the one before the end
pub last_is : (base : Entry) (es : List Entry) (n : ℕ) (d : Entry) → length es ≡ suc n → last_entry base es ≡ get_or es n d
last_is base [] n d long = absurd (omega (arith, long))
last_is base (e ∷ []) zero d long = refl
last_is base (e ∷ []) (suc n) d long = absurd (omega (arith, long))
last_is base (e ∷ f ∷ es) zero d long = absurd (omega (arith, long))
last_is base (e ∷ f ∷ es) (suc n) d long = last_is e (f ∷ es) n d (omega (arith, long))

-- what the end of a list has is its last entry
pub last_gives : (base : Entry) (es : List Entry) (x : Entry) → Some x ≡ slice_get es (length es - 1) → x ≡ last_entry base es
last_gives base [] x is = cc
last_gives base (e ∷ es) x is =
    let n : ℕ = length es in
    let at : length (e ∷ es) - 1 ≡ n = omega arith in
    sym (get_there (e ∷ es) n x x (sym (is ∙ ap (slice_get (e ∷ es)) at))) ∙ sym (last_is base (e ∷ es) n x refl)

-- one more page behind a table that grows
pub grows_by_one : (old now : List Page) → length old ≤ length now → now ≡ old ++ replicate (length now - length old) Uninitialized
    → now ++ Uninitialized ∷ [] ≡ old ++ replicate (length now + 1 - length old) Uninitialized
grows_by_one old now le is =
    let k : ℕ = length now - length old in
    let e : k + 1 ≡ length now + 1 - length old = omega (arith, le) in
    ap (λ (l : List Page). l ++ Uninitialized ∷ []) is ∙ append_assoc old (replicate k Uninitialized) (Uninitialized ∷ [])
    ∙ ap (λ (l : List Page). old ++ l) (replicate-append-replicate k 1 Uninitialized ∙ ap (λ n. replicate n Uninitialized) e)

-- a table that has so many pages already
pub grown_enough : (pages : List Page) (n : ℕ) → n ≤ length pages → grown pages n ≡ pages
grown_enough pages n le =
    let none : n - length pages ≡ 0 = omega (arith, le) in
    ap (λ k. pages ++ replicate k Uninitialized) none ∙ append-nil pages

-- a Link is put on a page that is there
pub linked_in : (pages : List PageState) (page : ℕ) (x y : PageState) (e : Entry) → page < length pages → x ≡ get_or pages page x → page_of y ≡ with_fragment (page_of x) e
    → map page_of (set pages page y) ≡ grown (set (map page_of pages) page (with_fragment (get_or (map page_of pages) page Uninitialized) e)) page
linked_in pages page x y e lt at is =
    let there : get_or (map page_of pages) page Uninitialized ≡ page_of x = get_or-map page_of pages page x Uninitialized lt ∙ ap page_of (sym at) in
    let whole : map page_of (set pages page y) ≡ set (map page_of pages) page (with_fragment (get_or (map page_of pages) page Uninitialized) e) =
    map-set page_of pages page y ∙ ap (set (map page_of pages) page) (is ∙ ap (λ p. with_fragment p e) (sym there)) in
    whole ∙ sym (grown_enough (set (map page_of pages) page (with_fragment (get_or (map page_of pages) page Uninitialized) e)) page (omega (arith, lt, length-set (map page_of pages) page (with_fragment (get_or (map page_of pages) page Uninitialized) e), length-map pages page_of)))

-- what follows where a call succeeded
pub on_ok : {T E : Type 0} (r : Result T E) (P Q : Type 0) → (P → Q) → OnOk r P → OnOk r Q
on_ok (Ok x) P Q follows holds = follows holds
on_ok (Err e) P Q follows holds = tt
