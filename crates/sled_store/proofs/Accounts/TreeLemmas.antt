-- Trees of marks: one node marked by its children, the way down to the first leaf and to the last, and what a change of a leaf does to the slots.
use Rattle.std.proofs.Common.{◌≡◌, ◌∙◌, ℕ, zero, suc, ◌+◌, ◌-◌, ◌*◌, ◌/◌, ◌^◌, ◌<◌, ◌≤◌, Bool, true, false, ◌||◌, List, [], ◌∷◌, length, drop, get_or, set, slice_get, Some, refl, sym, ap, subst, arith, length-drop}
use Rattle.std.specs.Ordering.{nat_cmp}
use Rattle.std.specs.List.{CopiedTo, SameFrom}
use Rattle.std.specs.BTreeMap.{is_at}
use Rattle.std.specs.BTreeSet.{insert_key}
use Rattle.std.specs.Set.{remove_key}
use Rattle.std.proofs.Math.Nat.{pow-succ'}
use Rattle.std.proofs.Math.Pow.{pow_mono}
use Rattle.std.proofs.lemmas.Nat.{pow_pos}
use Rattle.std.proofs.lemmas.List.{get_or-drop, drop-set-add, set-get_or, get_or_past}
use Rattle.sled_store.specs.SlotSets.{mark, marked_from, marked_slots, AreTied, IsSlotTree}
use Rattle.sled_store.proofs.Accounts.MarkLemmas.{marked_none, marked_same, marked_first, marked_last, marked_insert, marked_remove, length_marked, length_within}

pub pow_double : (n : ℕ) → 2 ^ suc n ≡ 2 * 2 ^ n
pow_double n = pow-succ' 2 n

-- One node is marked by its children.

-- What a tie says of the children.

none_of : (a b c : Bool) → a ≡ (b || c) → a ≡ false → (b ≡ false) × (c ≡ false)
none_of a true c tied is = absurd (cc)
none_of a false c tied is = (refl, sym tied ∙ is)

other_of : (a b c : Bool) → a ≡ (b || c) → a ≡ true → b ≡ false → c ≡ true
other_of a true c tied is lacks = absurd (cc)
other_of a false c tied is lacks = sym tied ∙ is

first_of : (a b c : Bool) → a ≡ (b || c) → a ≡ true → c ≡ false → b ≡ true
first_of a true c tied is lacks = refl
first_of a false c tied is lacks = absurd (cc)

by_parity : (P : ℕ → Type 0) (i : ℕ) → P (2 * (i / 2)) → P (2 * (i / 2) + 1) → P i
by_parity P i even odd = by (i - 2 * (i / 2)) refl
  where
    by : (r : ℕ) → i - 2 * (i / 2) ≡ r → P i
    by zero is = subst P (omega arith) even
    by (suc r) is = subst P (omega arith) odd

module _ (width : ℕ) (marks : List Bool) (tied : AreTied width marks) where
  -- below a node that is not marked none is
  unmarked_child : (i : ℕ) → 2 ≤ i → i < 2 * width → mark marks (i / 2) ≡ false → mark marks i ≡ false
  unmarked_child i low high is =
      let both = none_of _ _ _ (tied (i / 2) (omega arith) (omega arith)) is in
      by_parity (λ k. mark marks k ≡ false) i both.0 both.1

  pub unmarked_below : mark marks 1 ≡ false → (level i : ℕ) → 2 ^ level ≤ i → i < 2 * 2 ^ level → i < 2 * width → mark marks i ≡ false
  unmarked_below is zero i low high within = subst (λ k. mark marks k ≡ false) (omega arith) is
  unmarked_below is (suc level) i low high within =
      let double = pow_double level in
      unmarked_child i (omega (arith, pow_pos level)) within (unmarked_below is level (i / 2) (omega arith) (omega arith) (omega arith))

-- The first marked node of a level, which begins at a node.
pub record IsLowestOn (begin node : ℕ) (marks : List Bool) : Type 0 where
  pub from : begin ≤ node
  pub within : node < 2 * begin
  pub marked : mark marks node ≡ true
  pub before : (i : ℕ) → begin ≤ i → i < node → mark marks i ≡ false

-- The last marked node of a level.
pub record IsHighestOn (begin node : ℕ) (marks : List Bool) : Type 0 where
  pub from : begin ≤ node
  pub within : node < 2 * begin
  pub marked : mark marks node ≡ true
  pub after : (i : ℕ) → node < i → i < 2 * begin → mark marks i ≡ false

module _ (width begin node : ℕ) (marks : List Bool) (tied : AreTied width marks) (some : 0 < begin) (fits : 2 * begin ≤ width) where
  pub lowest_left : IsLowestOn begin node marks → mark marks (2 * node) ≡ true → IsLowestOn (2 * begin) (2 * node) marks
  lowest_left is left = record {
    from = omega (arith, is.from);
    within = omega (arith, is.within);
    marked = left;
    before = λ i low high. unmarked_child width marks tied i (omega arith) (omega (arith, is.within)) (is.before (i / 2) (omega arith) (omega arith));
  }

  lowest_before : IsLowestOn begin node marks → mark marks (2 * node) ≡ false → (i : ℕ) → 2 * begin ≤ i → i < 2 * node + 1 → (d : ℕ) → 2 * node - i ≡ d → mark marks i ≡ false
  lowest_before is left i low high zero at = subst (λ k. mark marks k ≡ false) (omega arith) left
  lowest_before is left i low high (suc d) at = unmarked_child width marks tied i (omega arith) (omega (arith, is.within)) (is.before (i / 2) (omega arith) (omega arith))

  pub lowest_right : IsLowestOn begin node marks → mark marks (2 * node) ≡ false → IsLowestOn (2 * begin) (2 * node + 1) marks
  lowest_right is left = record {
    from = omega (arith, is.from);
    within = omega (arith, is.within);
    marked = other_of _ _ _ (tied node (omega (arith, is.from)) (omega (arith, is.within))) is.marked left;
    before = λ i low high. lowest_before is left i low high (2 * node - i) refl;
  }

  pub highest_right : IsHighestOn begin node marks → mark marks (2 * node + 1) ≡ true → IsHighestOn (2 * begin) (2 * node + 1) marks
  highest_right is right = record {
    from = omega (arith, is.from);
    within = omega (arith, is.within);
    marked = right;
    after = λ i low high. unmarked_child width marks tied i (omega arith) (omega arith) (is.after (i / 2) (omega arith) (omega arith));
  }

  highest_after : IsHighestOn begin node marks → mark marks (2 * node + 1) ≡ false → (i : ℕ) → 2 * node < i → i < 2 * (2 * begin) → (d : ℕ) → i - suc (2 * node) ≡ d → mark marks i ≡ false
  highest_after is right i low high zero at = subst (λ k. mark marks k ≡ false) (omega arith) right
  highest_after is right i low high (suc d) at = unmarked_child width marks tied i (omega arith) (omega arith) (is.after (i / 2) (omega arith) (omega arith))

  pub highest_left : IsHighestOn begin node marks → mark marks (2 * node + 1) ≡ false → IsHighestOn (2 * begin) (2 * node) marks
  highest_left is right = record {
    from = omega (arith, is.from);
    within = omega (arith, is.within);
    marked = first_of _ _ _ (tied node (omega (arith, is.from)) (omega (arith, is.within))) is.marked right;
    after = λ i low high. highest_after is right i low high (i - suc (2 * node)) refl;
  }

-- The slots of a tree.

module _ (width : ℕ) (marks : List Bool) where
  pub leaf_mark : (k : ℕ) → get_or (drop width marks) k false ≡ mark marks (width + k)
  leaf_mark k = get_or-drop width marks k false

  -- the slot of the first leaf that is marked
  pub slots_first : (leaf : ℕ) → width ≤ leaf → mark marks leaf ≡ true → ((i : ℕ) → width ≤ i → i < leaf → mark marks i ≡ false) → slice_get (marked_slots width marks) 0 ≡ Some (leaf - width)
  slots_first leaf low is before =
      let there : width + (leaf - width) ≡ leaf = omega arith in
      marked_first 0 (leaf - width) (drop width marks) (leaf_mark (leaf - width) ∙ ap (mark marks) there ∙ is) (λ j lt. leaf_mark j ∙ before (width + j) (omega arith) (omega arith))
      ∙ ap (λ n. Some n) (omega arith)

  -- the slot of the last leaf that is marked
  pub slots_last : (leaf : ℕ) → length marks ≡ 2 * width → width ≤ leaf → mark marks leaf ≡ true → ((i : ℕ) → leaf < i → i < 2 * width → mark marks i ≡ false)
      → slice_get (marked_slots width marks) (length (marked_slots width marks) - 1) ≡ Some (leaf - width)
  slots_last leaf len low is after =
      let there : width + (leaf - width) ≡ leaf = omega arith in
      marked_last 0 (leaf - width) (drop width marks) (leaf_mark (leaf - width) ∙ ap (mark marks) there ∙ is)
      (λ j gt lt. leaf_mark j ∙ after (width + j) (omega arith) (omega (arith, length-drop width marks)))
      ∙ ap (λ n. Some n) (omega arith)

-- A tree whose root is not marked has no slots.

pub slots_none : (depth width count : ℕ) (marks : List Bool) → IsSlotTree depth width count marks → mark marks 1 ≡ false → marked_slots width marks ≡ []
slots_none depth width count marks tree is = marked_none 0 (drop width marks) (λ k lt.
    let within : width + k < 2 * width = omega (arith, length-drop width marks, tree.leaves) in
    let full : width ≡ 2 ^ depth = tree.full (omega arith) in
    leaf_mark width marks k ∙ unmarked_below width marks tree.tied is depth (width + k) (omega arith) (omega arith) within)

module _ (depth width count : ℕ) (marks : List Bool) (tree : IsSlotTree depth width count marks) where
  -- one that has a slot has a root, and is full
  pub root_marked : 0 < count → mark marks 1 ≡ true
  root_marked some = by (mark marks 1) refl
    where
      by : (b : Bool) → mark marks 1 ≡ b → mark marks 1 ≡ true
      by true is = is
      by false is =
          let none = ap length (slots_none depth width count marks tree is) in
          absurd (omega (arith, none, tree.counted))

  pub few : count ≤ width
  few = omega (arith, tree.counted, length_within 0 (drop width marks), length-drop width marks, tree.leaves)

  pub is_full : 0 < count → width ≡ 2 ^ depth
  is_full some = tree.full (omega (arith, few))

  -- A leaf is marked, or no longer.

  length_leaves : length (drop width marks) ≡ width
  length_leaves = omega (arith, length-drop width marks, tree.leaves)

  pub slots_there : (k : ℕ) → k < width → mark marks (width + k) ≡ true → marked_slots width marks ≡ insert_key nat_cmp (marked_slots width marks) k
  slots_there k lt is =
      let same : set (drop width marks) k true ≡ drop width marks = ap (set (drop width marks) k) (sym (leaf_mark width marks k ∙ is)) ∙ set-get_or (drop width marks) k false in
      sym (ap (marked_from 0) same) ∙ marked_insert 0 k k (drop width marks) (omega arith) (omega (arith, length_leaves))

  pub slots_missing : (k : ℕ) → mark marks (width + k) ≡ false → marked_slots width marks ≡ remove_key (is_at (nat_cmp k)) (marked_slots width marks)
  slots_missing k is =
      let same : set (drop width marks) k false ≡ drop width marks = ap (set (drop width marks) k) (sym (leaf_mark width marks k ∙ is)) ∙ set-get_or (drop width marks) k false in
      sym (ap (marked_from 0) same) ∙ marked_remove 0 k k (drop width marks) (omega arith)

  pub slots_past : (k : ℕ) → width ≤ k → marked_slots width marks ≡ remove_key (is_at (nat_cmp k)) (marked_slots width marks)
  slots_past k high = slots_missing k (get_or_past marks (width + k) false (omega (arith, tree.leaves)))

  -- a slot that is there is counted
  pub some_there : (k : ℕ) → k < width → mark marks (width + k) ≡ true → 0 < count
  some_there k lt is =
      let same : set (drop width marks) k true ≡ drop width marks = ap (set (drop width marks) k) (sym (leaf_mark width marks k ∙ is)) ∙ set-get_or (drop width marks) k false in
      let more = length_marked 0 k (drop width marks) (omega (arith, length_leaves)) in
      omega (arith, tree.counted, ap (λ l. length (marked_from 0 l)) same, more)

  module _ (k : ℕ) (lt : k < width) (b : Bool) (new : List Bool) (leaves : (i : ℕ) → width ≤ i → mark new i ≡ mark (set marks (width + k) b) i) where
    slots_set : marked_slots width new ≡ marked_from 0 (set (drop width marks) k b)
    slots_set = marked_same 0 (drop width new) (set (drop width marks) k b) (λ j.
        leaf_mark width new j ∙ leaves (width + j) (omega arith) ∙ sym (leaf_mark width (set marks (width + k) b) j)
        ∙ ap (λ l. get_or l j false) (drop-set-add width marks k b))

  module _ (k : ℕ) (lt : k < width) (new : List Bool) (len : length new ≡ 2 * width) (tied : AreTied width new) where
    module _ (lacks : mark marks (width + k) ≡ false) (leaves : (i : ℕ) → width ≤ i → mark new i ≡ mark (set marks (width + k) true) i) where
      pub slots_put : marked_slots width new ≡ insert_key nat_cmp (marked_slots width marks) k
      slots_put = slots_set k lt true new leaves ∙ marked_insert 0 k k (drop width marks) (omega arith) (omega (arith, length_leaves))

      pub tree_put : IsSlotTree depth width (count + 1) new
      tree_put =
          let same : set (drop width marks) k false ≡ drop width marks = ap (set (drop width marks) k) (sym (leaf_mark width marks k ∙ lacks)) ∙ set-get_or (drop width marks) k false in
          let more = length_marked 0 k (drop width marks) (omega (arith, length_leaves)) in
          record {
            leaves = len;
            full = tree.full;
            tied = tied;
            counted = omega (arith, tree.counted, ap length (slots_set k lt true new leaves), ap (λ l. length (marked_from 0 l)) same, more);
          }

    module _ (there : mark marks (width + k) ≡ true) (leaves : (i : ℕ) → width ≤ i → mark new i ≡ mark (set marks (width + k) false) i) where
      pub slots_taken : marked_slots width new ≡ remove_key (is_at (nat_cmp k)) (marked_slots width marks)
      slots_taken = slots_set k lt false new leaves ∙ marked_remove 0 k k (drop width marks) (omega arith)

      pub tree_taken : IsSlotTree depth width (count - 1) new
      tree_taken =
          let same : set (drop width marks) k true ≡ drop width marks = ap (set (drop width marks) k) (sym (leaf_mark width marks k ∙ there)) ∙ set-get_or (drop width marks) k false in
          let more = length_marked 0 k (drop width marks) (omega (arith, length_leaves)) in
          record {
            leaves = len;
            full = tree.full;
            tied = tied;
            counted = omega (arith, tree.counted, ap length (slots_set k lt false new leaves), ap (λ l. length (marked_from 0 l)) same, more);
          }

-- A tree is taken to more leaves: the old ones come first among the new ones, and the rest is not marked.

module _ (width wide : ℕ) (marks mid cut new : List Bool) (more : width < wide) (len : length marks ≡ 2 * width) (mid_len : length mid ≡ 2 * wide)
    (kept : (k : ℕ) (d : Bool) → k < 2 * wide → k < 2 * width → get_or mid k d ≡ get_or marks k d)
    (blank : (k : ℕ) (d : Bool) → 2 * width ≤ k → k < 2 * wide → get_or mid k d ≡ false)
    (copied : CopiedTo mid cut width wide width) (beyond : SameFrom mid cut (wide + width))
    (leaves : (i : ℕ) → wide ≤ i → mark new i ≡ mark cut i) where
  leaf_grown : (k : ℕ) (d : ℕ) → width - k ≡ d → (e : ℕ) → wide - k ≡ e → mark new (wide + k) ≡ mark marks (width + k)
  leaf_grown k (suc d) at e to =
      let from : width + (wide + k - wide) ≡ width + k = omega arith in
      leaves (wide + k) (omega arith) ∙ copied (wide + k) false (omega arith) (omega arith) ∙ ap (mark mid) from ∙ kept (width + k) false (omega arith) (omega arith)
  leaf_grown k zero at (suc e) to =
      leaves (wide + k) (omega arith) ∙ beyond (wide + k) false (omega arith) ∙ blank (wide + k) false (omega arith) (omega arith)
      ∙ sym (get_or_past marks (width + k) false (omega (arith, len)))
  leaf_grown k zero at zero to =
      leaves (wide + k) (omega arith) ∙ beyond (wide + k) false (omega arith) ∙ get_or_past mid (wide + k) false (omega (arith, mid_len))
      ∙ sym (get_or_past marks (width + k) false (omega (arith, len)))

  pub slots_grown : marked_slots wide new ≡ marked_slots width marks
  slots_grown = marked_same 0 (drop wide new) (drop width marks) (λ k. leaf_mark wide new k ∙ leaf_grown k (width - k) refl (wide - k) refl ∙ sym (leaf_mark width marks k))

-- a depth is less than what it makes
pub below_pow : (n : ℕ) → n < 2 ^ n
below_pow zero = omega arith
below_pow (suc n) = omega (arith, pow_double n, below_pow n)

-- what a mark is, as it was read
pub read_mark : (marks : List Bool) (i : ℕ) (b : Bool) → i < length marks → b ≡ get_or marks i b → mark marks i ≡ b
read_mark [] i b lt is = absurd (omega arith)
read_mark (m ∷ marks) zero b lt is = sym is
read_mark (m ∷ marks) (suc i) b lt is = read_mark marks i b (omega arith) is

-- the first level that a loop has not come to lies in the tree
pub level_fits : (level depth : ℕ) → level < depth → 2 * 2 ^ level ≤ 2 ^ depth
level_fits level depth lt = subst (λ n. n ≤ 2 ^ depth) (pow_double level) (pow_mono (omega arith))

pub level_next : (level : ℕ) → 2 ^ (level + 1) ≡ 2 * 2 ^ level
level_next level = ap (λ n. 2 ^ n) (omega arith) ∙ pow_double level

pub level_some : (level : ℕ) → 0 < 2 ^ level
level_some level = pow_pos level
