-- A loop over names and numbers: what a turn adds, and that the list of a map rises.
use Rattle.std.proofs.Common.{◌≡◌, ◌∙◌, sym, ap, ℕ, ◌+◌, ◌≤◌, Bool, true, false, ◌&&◌, T, List, [], ◌∷◌, ◌++◌, length, map, reverse, refl, arith, append_assoc, length-append}
use Rattle.std.specs.List.{flat_map}
use Rattle.std.proofs.lemmas.List.{append-nil}
use Rattle.std.proofs.lemmas.Grind.{flat_map-append}
use Rattle.std.proofs.lemmas.List.{reverse-append}
use Rattle.std.specs.List.{AllByRecursion}
use Rattle.std.specs.List.Sorted.{IsStrictlySortedBy}
use Rattle.std.specs.Map.{keys_of}
use Rattle.std.specs.Ordering.{is_lt, match_ordering}
use Rattle.std.specs.Cmp.Lexicographic.{nat_list_cmp_total}
use Rattle.std.specs.declared.cmp.Ordering.{Ordering}
use Rattle.std.specs.declared.cmp.Ordering.TheVariants.{Less, Equal, Greater}
use Rattle.std.specs.declared.vec.Vec.{Vec}
use Rattle.std.specs.declared.alloc.Global.{Global}
use Rattle.std.specs.BTreeMap.{BTreeMap, IsOrdered, insert_entry}
use Rattle.std.specs.FinMap.{entries, entries-from_sorted, entries-insert, from_entries, from_sorted, insert, same_entries_map, same_map, get-from_sorted, get-empty, is_sorted, put}
use Rattle.std.specs.FinMap.Entries.{below_all, by_order}
use Rattle.sled_codec.specs.Spelling.{short_bytes, short_number}
use Rattle.sled_codec.specs.MetaLaws.{same_names}
use Rattle.sled_codec.specs.Metas.{Named, Numbers, named, numbers_in, name_cmp, short_named}

pub length_named : (p : Named) → length (short_named p) ≡ length (short_bytes p.0) + length (short_number p.1)
length_named p = length-append (short_bytes p.0) (short_number p.1)

-- so far these were done, and these are to come
module _ {A : Type 0} (f : A → Named) (all done : List Named) (left after : List A) (e : A) (so_far : done ++ map f left ≡ all) (is : left ≡ e ∷ after) where
  pub one_done : (done ++ f e ∷ []) ++ map f after ≡ all
  one_done = append_assoc done (f e ∷ []) (map f after) ∙ ap (λ (l : List A). done ++ map f l) (sym is) ∙ so_far

  -- the bytes of one more stand behind those of the ones that are done
  pub bytes_done : flat_map short_named (done ++ f e ∷ []) ≡ flat_map short_named done ++ short_named (f e)
  bytes_done = flat_map-append short_named done (f e ∷ []) ∙ ap (λ (l : List ℕ). flat_map short_named done ++ l) (append-nil (short_named (f e)))

  pub length_done : length (flat_map short_named (done ++ f e ∷ [])) ≡ length (flat_map short_named done) + length (short_named (f e))
  length_done = ap length bytes_done ∙ length-append (flat_map short_named done) (short_named (f e))

  -- and are among those of all
  pub within_all : length (flat_map short_named done) + length (short_named (f e)) ≤ length (flat_map short_named all)
  within_all =
      let split : flat_map short_named ((done ++ f e ∷ []) ++ map f after) ≡ flat_map short_named (done ++ f e ∷ []) ++ flat_map short_named (map f after) = flat_map-append short_named (done ++ f e ∷ []) (map f after) in
      let whole : length (flat_map short_named all) ≡ length (flat_map short_named (done ++ f e ∷ [])) + length (flat_map short_named (map f after)) = ap (λ (l : List Named). length (flat_map short_named l)) (sym one_done) ∙ ap length split ∙ length-append (flat_map short_named (done ++ f e ∷ [])) (flat_map short_named (map f after)) in
      omega (arith, length_done, whole)

-- nothing is to come
pub all_done : {A : Type 0} (f : A → Named) (all done : List Named) (left : List A) → done ++ map f left ≡ all → left ≡ [] → done ≡ all
all_done f all done left so_far none = sym (append-nil done) ∙ ap (λ l. done ++ map f l) (sym none) ∙ so_far

-- The list of a map rises.

below_is : (o : Ordering) → o ≡ Less → T (is_lt o)
below_is o is = rw is tt

both_hold : (a b : Bool) → T a → T b → T (a && b)
both_hold true b p q = q
both_hold false b p q = p

all_above : (name : Vec ℕ Global) (es : List (Vec ℕ Global × ℕ)) → AllByRecursion (λ k. name_cmp name.items k.items ≡ Less) (keys_of es) → T (below_all name_cmp name.items (map named es))
all_above name [] above = tt
all_above name (e ∷ es) above = both_hold (is_lt (name_cmp name.items e.0.items)) _ (below_is _ above.0) (all_above name es above.1)

pub rises : (es : List (Vec ℕ Global × ℕ)) → IsStrictlySortedBy (λ x y. name_cmp x.items y.items) (keys_of es) → T (is_sorted name_cmp (map named es))
unfolding IsStrictlySortedBy
rises [] ordered = tt
rises (e ∷ es) ordered = both_hold (below_all name_cmp e.0.items (map named es)) _ (all_above e.0 es ordered.0) (rises es ordered.1)

-- so it is that of the numbers that the map stands for
pub entries_in : (names : BTreeMap (Vec ℕ Global) ℕ) → IsOrdered (λ x y. name_cmp x.items y.items) names → entries (numbers_in names) ≡ map named names.entries
entries_in names ordered = entries-from_sorted name_cmp (map named names.entries) (rises names.entries ordered)

-- A pair that is put into a map.

put_case : (o : Ordering) (e : Vec ℕ Global × ℕ) (es put : List (Vec ℕ Global × ℕ)) (name : Vec ℕ Global) (v : ℕ) (named_put : List Named) → map named put ≡ named_put → map named (match_ordering o ((name, v) ∷ e ∷ es) ((e.0, v) ∷ es) (e ∷ put)) ≡ by_order o ((name.items, v) ∷ named e ∷ map named es) ((e.0.items, v) ∷ map named es) (named e ∷ named_put)
put_case Less e es more name v named_put is = refl
put_case Equal e es more name v named_put is = refl
put_case Greater e es more name v named_put is = ap (λ (l : List Named). named e ∷ l) is

put_named : (es : List (Vec ℕ Global × ℕ)) (name : Vec ℕ Global) (v : ℕ) → map named (insert_entry (λ x y. name_cmp x.items y.items) es name v) ≡ put name_cmp name.items v (map named es)
put_named [] name v = refl
put_named (e ∷ es) name v = put_case (name_cmp name.items e.0.items) e es _ name v _ (put_named es name v)

pub put_in : (old new : BTreeMap (Vec ℕ Global) ℕ) (name : Vec ℕ Global) (v : ℕ) → IsOrdered (λ x y. name_cmp x.items y.items) old → IsOrdered (λ x y. name_cmp x.items y.items) new → new.entries ≡ insert_entry (λ x y. name_cmp x.items y.items) old.entries name v → numbers_in new ≡ insert (numbers_in old) name.items v
put_in old new name v was is same =
    same_entries_map (numbers_in new) (insert (numbers_in old) name.items v)
    (entries_in new is ∙ ap (map named) same ∙ put_named old.entries name v ∙ ap (put name_cmp name.items v) (sym (entries_in old was)) ∙ sym (entries-insert nat_list_cmp_total (numbers_in old) name.items v))

-- and of the pairs that were put in before, this is the last one
pub put_last : (m : Numbers) (pairs : List Named) (name : List ℕ) (v : ℕ) → m ≡ from_entries (reverse pairs) → insert m name v ≡ from_entries (reverse (pairs ++ (name, v) ∷ []))
put_last m pairs name v is = ap (λ (n : Numbers). insert n name v) is ∙ ap (λ (ps : List Named). from_entries {R = name_cmp} ps) (sym (reverse-append pairs ((name, v) ∷ [])))

pub none_in : (names : BTreeMap (Vec ℕ Global) ℕ) → names.entries ≡ [] → numbers_in names ≡ from_entries (reverse [])
none_in names none =
    ap (λ (es : List (Vec ℕ Global × ℕ)). from_sorted {R = name_cmp} (map named es)) none
    ∙ same_map nat_list_cmp_total same_names (from_sorted {R = name_cmp} []) (from_entries {R = name_cmp} []) (λ q. get-from_sorted name_cmp [] q tt ∙ sym (get-empty name_cmp q))
