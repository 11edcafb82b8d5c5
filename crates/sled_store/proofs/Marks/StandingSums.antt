-- What the messages of a slot sum up to that stand, and how completing one changes it.
use Rattle.std.proofs.Common.{if◌then◌else◌, ⊎_elim, ◌≡◌, ◌∙◌, ◌&&◌, ◌||◌, ◌==◌, ◌+◌, ◌/◌, ◌<◌, ◌≤◌, ℕ, Bool, true, false, not, nat_lt, List, [], ◌∷◌, ◌++◌, map, refl, sym, ap, subst, arith, eq-eqb, lt-ltb}
use Rattle.std.specs.List.{Contains, filter, list_any, sum_by}
use Rattle.std.proofs.lemmas.Bool.{true≢false, and_parts, and_from, not-true, eqb-true, ltb-true, cases_Bool}
use Rattle.std.proofs.lemmas.List.Sums.{sum_by-cons, sum_by-append}
use Rattle.sled_codec.specs.History.{Message, History, begins_page, page_state, of_page, table}
use Rattle.sled_codec.specs.Pointers.{lid_of}
use Rattle.sled_store.specs.Marks.{info_of, slot_with, Completes, IsFormerState, is_standing, standing_size}
use Rattle.sled_store.specs.declared.segment.slot.CacheInfo.{CacheInfo}
use Rattle.sled_store.proofs.Segments.Elements.{in_first, in_rest, in_cases, in_nothing}
use Rattle.sled_store.proofs.Segments.TableWeights.{state_less}
use Rattle.sled_store.proofs.Marks.DeactivationSteps.{any_in}
use Rattle.sled_store.proofs.Marks.TableLemmas.{Ascends, added_keeps, added_there, entry_above}

-- Sums.

pub sum_less : {X : Type 0} (f g : X → ℕ) (xs : List X) → ((x : X) → Contains xs x → f x ≤ g x) → sum_by f xs ≤ sum_by g xs
sum_less f g [] le = omega arith
sum_less f g (x ∷ xs) le = omega (arith, sum_by-cons f x xs, sum_by-cons g x xs, le x (in_first x xs), sum_less f g xs (λ y there. le y (in_rest x y xs there)))

sum_zero : {X : Type 0} (f : X → ℕ) (xs : List X) → ((x : X) → Contains xs x → f x ≡ 0) → sum_by f xs ≡ 0
sum_zero f [] none = refl
sum_zero f (x ∷ xs) none = omega (arith, sum_by-cons f x xs, none x (in_first x xs), sum_zero f xs (λ y there. none y (in_rest x y xs there)))

-- what is kept by a filter, and the others by a lesser weight
sum_kept : {X : Type 0} (p : X → Bool) (f g : X → ℕ) (xs : List X) → ((x : X) → Contains xs x → g x ≤ f x)
    → ((x : X) → Contains xs x → p x ≡ true → g x ≡ 0) → sum_by f (filter p xs) + sum_by g xs ≤ sum_by f xs
sum_kept p f g [] le none = omega arith
sum_kept p f g (x ∷ xs) le none = by (p x) refl (sum_kept p f g xs (λ y there. le y (in_rest x y xs there)) (λ y there. none y (in_rest x y xs there))) where
  by : (b : Bool) → p x ≡ b → sum_by f (filter p xs) + sum_by g xs ≤ sum_by f xs
      → sum_by f (if b then x ∷ filter p xs else filter p xs) + sum_by g (x ∷ xs) ≤ sum_by f (x ∷ xs)
  by true kept rest = omega (arith, rest, sum_by-cons f x (filter p xs), sum_by-cons f x xs, sum_by-cons g x xs, none x (in_first x xs) kept)
  by false left rest = omega (arith, rest, sum_by-cons f x xs, sum_by-cons g x xs, le x (in_first x xs))

sum_map : {X Y : Type 0} (f : Y → ℕ) (g : X → Y) (xs : List X) → sum_by f (map g xs) ≡ sum_by (λ x. f (g x)) xs
sum_map f g [] = refl
sum_map f g (x ∷ xs) = omega (arith, sum_by-cons f (g x) (map g xs), sum_by-cons (λ y. f (g y)) x xs, sum_map f g xs)

-- Standing.

-- no later message begins its page
abbrev pub Stands : List Message → Message → Type 0
Stands ms e = (x : Message) → Contains ms x → x.page ≡ e.page → begins_page x.kind ≡ true → e.place < x.place → ⊥

standing_stands : (ms : List Message) (e : Message) → is_standing ms e ≡ true → Stands ms e
standing_stands ms e standing x there same begins lt =
    let test : Message → Bool = λ y. (y.page == e.page) && (begins_page y.kind && nat_lt e.place y.place) in
    let late : (begins_page x.kind && nat_lt e.place x.place) ≡ true = and_from (begins_page x.kind) (nat_lt e.place x.place) begins (lt-ltb e.place x.place lt) in
    let passes : test x ≡ true = and_from (x.page == e.page) (begins_page x.kind && nat_lt e.place x.place) (eq-eqb x.page e.page same) late in
    true≢false (sym (any_in test ms x there passes) ∙ not-true (list_any test ms) standing)

none_any : {X : Type 0} (p : X → Bool) (xs : List X) → ((x : X) → Contains xs x → p x ≡ true → ⊥) → list_any p xs ≡ false
none_any p [] none = refl
none_any p (x ∷ xs) none = by (p x) refl (none_any p xs (λ y there. none y (in_rest x y xs there))) where
  by : (b : Bool) → p x ≡ b → list_any p xs ≡ false → (b || list_any p xs) ≡ false
  by true is rest = absurd (none x (in_first x xs) is)
  by false is rest = rest

stands_standing : (ms : List Message) (e : Message) → Stands ms e → is_standing ms e ≡ true
stands_standing ms e stands =
    let test : Message → Bool = λ y. (y.page == e.page) && (begins_page y.kind && nat_lt e.place y.place) in
    ap not (none_any test ms (λ x there passes.
    let first = and_parts (x.page == e.page) (begins_page x.kind && nat_lt e.place x.place) passes in
    let second = and_parts (begins_page x.kind) (nat_lt e.place x.place) first.1 in
    stands x there (eqb-true x.page e.page first.0) second.0 (ltb-true e.place x.place second.1)))

-- what a message in a slot counts there, whether it stands or not, and what it does where it stands
abbrev pub share : ℕ → ℕ → CacheInfo → ℕ
share size k o = if lid_of o.pointer / size == k then o.log_size else 0

abbrev part : ℕ → List Message → ℕ → Message → ℕ
part size ms k e = if is_standing ms e && (slot_with size e == k) then e.size else 0

part_shared : (size : ℕ) (ms : List Message) (k : ℕ) (e : Message) → part size ms k e ≤ share size k (info_of e)
part_shared size ms k e = by (is_standing ms e) (slot_with size e == k) where
  by : (a b : Bool) → (if a && b then e.size else 0) ≤ (if b then e.size else 0)
  by true true = omega arith
  by true false = omega arith
  by false true = omega arith
  by false false = omega arith

pub share_within : (size k : ℕ) (e : Message) → share size k (info_of e) ≤ e.size
share_within size k e = by (slot_with size e == k) where
  by : (b : Bool) → (if b then e.size else 0) ≤ e.size
  by true = omega arith
  by false = omega arith

part_standing : (size : ℕ) (ms : List Message) (k : ℕ) (e : Message) → Stands ms e → share size k (info_of e) ≡ part size ms k e
part_standing size ms k e stands = ap (λ (b : Bool). if b && (slot_with size e == k) then e.size else 0) (sym (stands_standing ms e stands))

part_gone : (size : ℕ) (ms : List Message) (k : ℕ) (e : Message) → (Stands ms e → slot_with size e ≡ k → ⊥) → part size ms k e ≡ 0
part_gone size ms k e none = by (is_standing ms e && (slot_with size e == k)) refl where
  by : (b : Bool) → (is_standing ms e && (slot_with size e == k)) ≡ b → (if b then e.size else 0) ≡ 0
  by true is = let parts = and_parts (is_standing ms e) (slot_with size e == k) is in absurd (none (standing_stands ms e parts.0) (eqb-true (slot_with size e) k parts.1))
  by false is = refl

part_more : (size : ℕ) (ms ns : List Message) (k : ℕ) (e : Message) → ((x : Message) → Contains ms x → Contains ns x) → part size ns k e ≤ part size ms k e
part_more size ms ns k e more = ⊎_elim still gone (cases_Bool (is_standing ns e)) where
  still : is_standing ns e ≡ true → part size ns k e ≤ part size ms k e
  still is = omega (arith, part_shared size ns k e, part_standing size ms k e (λ x there. standing_stands ns e is x (more x there)))

  gone : is_standing ns e ≡ false → part size ns k e ≤ part size ms k e
  gone is = omega (arith, part_gone size ns k e (λ stands at. true≢false (sym (stands_standing ns e stands) ∙ is)))

-- what stands is no more than all
pub standing_within : (size : ℕ) (H : History) (k : ℕ) → standing_size size H k ≤ sum_by (λ e. e.size) H.messages
standing_within size H k = sum_less (part size H.messages k) (λ e. e.size) H.messages (λ e there. omega (arith, part_shared size H.messages k e, share_within size k e))

-- where no message stands in a slot, nothing does
pub standing_none : (size : ℕ) (H : History) (k : ℕ) → ((e : Message) → Contains H.messages e → Stands H.messages e → slot_with size e ≡ k → ⊥)
    → standing_size size H k ≡ 0
standing_none size H k none = sum_zero (part size H.messages k) H.messages (λ e there. part_gone size H.messages k e (none e there))

-- one that stands is within it
pub one_within : (size : ℕ) (H : History) (e : Message) → Contains H.messages e → Stands H.messages e → e.size ≤ standing_size size H (slot_with size e)
one_within size H e there stands = omega (arith, single (part size H.messages k) H.messages e there, part_standing size H.messages k e stands, own) where
  k : ℕ
  k = slot_with size e

  own : e.size ≤ share size (slot_with size e) (info_of e)
  own = let same = eq-eqb (slot_with size e) (slot_with size e) refl in subst (λ (b : Bool). e.size ≤ (if b then e.size else 0)) (sym same) (omega arith)

  single : (f : Message → ℕ) (ms : List Message) (x : Message) → Contains ms x → f x ≤ sum_by f ms
  single f [] x found = absurd (in_nothing x found)
  single f (y ∷ ys) x found = ⊎_elim (λ is. omega (arith, ap f is, sum_by-cons f y ys)) (λ rest. omega (arith, single f ys x rest, sum_by-cons f y ys)) (in_cases y x ys found)

-- A message is completed.
module _ (size : ℕ) (H : History) (x : Message) (H' : History) (completes : Completes H x H') (k : ℕ) where
  -- what a list of messages with x put in sums up to
  put_sum : (f : Message → ℕ) → sum_by f H'.messages ≡ sum_by f H.messages + f x
  put_sum f =
      let a = completes.adds in
      let whole : sum_by f H'.messages ≡ sum_by f (a.before ++ x ∷ a.after) = ap (sum_by f) a.new in
      let old : sum_by f H.messages ≡ sum_by f (a.before ++ a.after) = ap (sum_by f) a.old in
      omega (arith, whole, old, sum_by-append f a.before (x ∷ a.after), sum_by-append f a.before a.after, sum_by-cons f x a.after)

  pub total_more : sum_by (λ e. e.size) H.messages + x.size ≡ sum_by (λ e. e.size) H'.messages
  total_more = sym (put_sum (λ e. e.size))

  pub standing_more : standing_size size H' k ≤ standing_size size H k + share size k (info_of x)
  standing_more =
      omega (
        arith,
        put_sum (part size H'.messages k),
        part_shared size H'.messages k x,
        sum_less (part size H'.messages k) (part size H.messages k) H.messages (λ e there. part_more size H.messages H'.messages k e (added_keeps H x H' completes.adds)),
      )

  -- What is replaced doesn't stand any more.
  pub standing_replaced : (old : List CacheInfo) → Ascends H.messages → begins_page x.kind ≡ true → IsFormerState H x.page old
      → standing_size size H' k + sum_by (share size k) old ≤ standing_size size H k + share size k (info_of x)
  unfolding table of_page
  standing_replaced old order begins former =
      let p : Message → Bool = λ m. (m.page == x.page) && nat_lt m.place former.cut in
      let f : Message → ℕ = part size H.messages k in
      let g : Message → ℕ = part size H'.messages k in
      let entries : List Message = table H former.cut x.page in
      let old_sum : sum_by (share size k) old ≡ sum_by (share size k) (map info_of entries) = ap (sum_by (share size k)) former.is in
      let less : sum_by f (page_state (filter p H.messages)) ≤ sum_by f (filter p H.messages) = state_less f (filter p H.messages) in
      let kept : sum_by f (filter p H.messages) + sum_by g H.messages ≤ sum_by f H.messages = sum_kept p f g H.messages (λ e there. part_more size H.messages H'.messages k e (added_keeps H x H' completes.adds)) gone in
      let all : sum_by (λ e. share size k (info_of e)) entries ≤ sum_by f entries = sum_less (λ e. share size k (info_of e)) f entries (λ e there. omega (arith, part_standing size H.messages k e (stands e there))) in
      omega (arith, old_sum, sum_map (share size k) info_of entries, all, less, kept, put_sum g, part_shared size H'.messages k x) where
        stands : (e : Message) → Contains (table H former.cut x.page) e → Stands H.messages e
        stands e entry y there same y_begins lt = omega (arith, entry_above H former.cut x.page e order entry y there same y_begins (former.past y there), lt)

        gone : (e : Message) → Contains H.messages e → ((e.page == x.page) && nat_lt e.place former.cut) ≡ true → part size H'.messages k e ≡ 0
        gone e there passes =
            let same : e.page ≡ x.page = eqb-true e.page x.page (and_parts (e.page == x.page) (nat_lt e.place former.cut) passes).0 in
            part_gone size H'.messages k e (λ stands at. stands x (added_there H x H' completes.adds) (sym same) begins (completes.newest e there same))
