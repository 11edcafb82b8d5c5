-- Entries that may lie together, where they are gone through one after another.
use Rattle.std.proofs.Common.{◌≡◌, ◌∙◌, ◌+◌, ◌<◌, ℕ, List, [], ◌∷◌, ◌++◌, length, take, drop, get_or, map, sym, ap, subst, arith, append_assoc}
use Rattle.std.specs.List.{All}
use Rattle.std.proofs.lemmas.List.{take_more, take-append-drop, flat_map_more, get_or-map}
use Rattle.std.proofs.lemmas.List.Concat.{flat_map-append}
use Rattle.std.proofs.lemmas.List.Elements.{Contains-append_left, All-push, All-take, All-drop}
use Rattle.std.proofs.Math.Seq.{take-append_seam, drop-append_seam}
use Rattle.std.proofs.lemmas.List.Sums.{sum_by-append}
use Rattle.sled_codec.specs.Snapshots.{Entry, Page}
use Rattle.sled_store.specs.Begin.{sizes_in, entries_in, entries_of}
use Rattle.sled_store.specs.SlotTables.{AreFit}

-- one element more of a list, at the end
pub take_one : {X : Type 0} (xs : List X) (i : ℕ) (x : X) → i < length xs → x ≡ get_or xs i x → take (i + 1) xs ≡ take i xs ++ x ∷ []
take_one {X} xs i x lt is = take_more xs i x lt ∙ ap (λ (y : X). take i xs ++ y ∷ []) (sym is)

-- what holds of all holds of the first ones, and of the others
pub all_front : {X : Type 0} (P : X → Type 0) (xs ys : List X) → All P (xs ++ ys) → All P xs
all_front {X} P xs ys all = subst (All P) (take-append_seam xs ys) (All-take P (length xs) (xs ++ ys) all)

pub all_back : {X : Type 0} (P : X → Type 0) (xs ys : List X) → All P (xs ++ ys) → All P ys
all_back {X} P xs ys all = subst (All P) (drop-append_seam xs ys) (All-drop P (length xs) (xs ++ ys) all)

-- what holds of all holds of this one
pub all_at : {X : Type 0} (P : X → Type 0) (xs : List X) (i : ℕ) (x : X) → i < length xs → x ≡ get_or xs i x → All P xs → P x
all_at P xs i x lt is all = subst P (sym is) (all i x lt)

pub all_one : {X : Type 0} (P : X → Type 0) (xs : List X) (i : ℕ) (x : X) → i < length xs → x ≡ get_or xs i x → All P (take i xs) → P x → All P (take (i + 1) xs)
all_one {X} P xs i x lt is all one = subst (All P) (sym (take_one xs i x lt is)) (All-push P (take i xs) x all one)

-- an element of a list of which something is told
pub mapped : {X Y : Type 0} (f : X → Y) (xs : List X) (i : ℕ) (x : X) → i < length xs → x ≡ get_or xs i x → f x ≡ get_or (map f xs) i (f x)
mapped f xs i x lt is = ap f is ∙ sym (get_or-map f xs i x (f x) lt)

-- the entries of one more page
pub entries_one : (ps : List Page) (i : ℕ) (p : Page) → i < length ps → p ≡ get_or ps i p → entries_of (take (i + 1) ps) ≡ entries_of (take i ps) ++ entries_in p
entries_one ps i p lt is = ap entries_of (take_one ps i p lt is) ∙ sym (flat_map_more entries_in [] (take i ps) p)

-- what holds of the entries of all pages holds of those of one
pub placed_page : (P : Entry → Type 0) (ps : List Page) (i : ℕ) (p : Page) → i < length ps → p ≡ get_or ps i p → All P (entries_of ps) → All P (entries_in p)
placed_page P ps i p lt is all =
    let whole : entries_of ps ≡ entries_of (take i ps) ++ entries_in p ++ entries_of (drop (i + 1) ps) =
    ap entries_of (sym (take-append-drop (i + 1) ps)) ∙ flat_map-append entries_in (take (i + 1) ps) (drop (i + 1) ps) ∙ ap (λ (l : List Entry). l ++ entries_of (drop (i + 1) ps)) (entries_one ps i p lt is) in
    all_back P (entries_of (take i ps)) (entries_in p) (all_front P (entries_of (take i ps) ++ entries_in p) (entries_of (drop (i + 1) ps)) (subst (All P) whole all))

module _ (size : ℕ) where
  -- the first of them may lie together too
  pub fit_front : (es fs : List Entry) → AreFit size (es ++ fs) → AreFit size es
  fit_front es fs fit = record {
    apart = λ d e has_d has_e. fit.apart d e (Contains-append_left es fs d has_d) (Contains-append_left es fs e has_e);
    counted = λ k. let sum : sizes_in size k (es ++ fs) ≡ sizes_in size k es + sizes_in size k fs = sum_by-append _ es fs in omega (arith, sum, fit.counted k);
  }

  -- and with one more of them
  pub fit_step : (es xs : List Entry) (i : ℕ) (x : Entry) → i < length xs → x ≡ get_or xs i x → AreFit size (es ++ xs) → AreFit size (es ++ take i xs ++ x ∷ [])
  fit_step es xs i x lt is fit =
      let whole : es ++ xs ≡ es ++ take (i + 1) xs ++ drop (i + 1) xs = ap (λ (l : List Entry). es ++ l) (sym (take-append-drop (i + 1) xs)) ∙ sym (append_assoc es (take (i + 1) xs) (drop (i + 1) xs)) in
      let front = fit_front (es ++ take (i + 1) xs) (drop (i + 1) xs) (subst (AreFit size) whole fit) in
      subst (AreFit size) (ap (λ (l : List Entry). es ++ l) (take_one xs i x lt is) ∙ sym (append_assoc es (take i xs) (x ∷ []))) front

  -- and with those of one more page
  pub fit_page : (es : List Entry) (ps : List Page) (i : ℕ) (p : Page) → i < length ps → p ≡ get_or ps i p → AreFit size (es ++ entries_of ps) → AreFit size (es ++ entries_of (take i ps) ++ entries_in p)
  fit_page es ps i p lt is fit =
      let whole : entries_of ps ≡ entries_of (take (i + 1) ps) ++ entries_of (drop (i + 1) ps) = ap entries_of (sym (take-append-drop (i + 1) ps)) ∙ flat_map-append entries_in (take (i + 1) ps) (drop (i + 1) ps) in
      let parts : es ++ entries_of ps ≡ es ++ entries_of (take (i + 1) ps) ++ entries_of (drop (i + 1) ps) =
      ap (λ (l : List Entry). es ++ l) whole ∙ sym (append_assoc es (entries_of (take (i + 1) ps)) (entries_of (drop (i + 1) ps))) in
      let front = fit_front (es ++ entries_of (take (i + 1) ps)) (entries_of (drop (i + 1) ps)) (subst (AreFit size) parts fit) in
      subst (AreFit size) (ap (λ (l : List Entry). es ++ l) (entries_one ps i p lt is) ∙ sym (append_assoc es (entries_of (take i ps)) (entries_in p))) front

  -- and with the first of those of a page
  pub fit_base : (es : List Entry) (base : Entry) (frags : List Entry) → AreFit size (es ++ base ∷ frags) → AreFit size (es ++ base ∷ [])
  fit_base es base frags fit = fit_front (es ++ base ∷ []) frags (subst (AreFit size) (sym (append_assoc es (base ∷ []) frags)) fit)
