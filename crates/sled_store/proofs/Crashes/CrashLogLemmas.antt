-- A patched content passes the test of a log file in memory exactly where a crash may leave it.
use Rattle.std.proofs.Common.{◌≡◌, ◌≤◌, ◌<◌, ◌||◌, ◌&&◌, ◌==◌, ◌↔◌, ℕ, Bool, true, false, not, if◌then◌else◌, nat_lt, List, [], ◌∷◌, length, get_or, set, IsTrue, refl, sym, ◌∙◌, ap, subst, arith, length-set, All, ltb, MatchBool}
use Rattle.std.proofs.lemmas.Bool.Decides.{Decides-eqb, Decides-ltb, Decides-by_and}
use Rattle.std.proofs.lemmas.List.{get_or-set_other}
use Rattle.sled_store.specs.declared.device.memory.log_file.MemLog.{MemLog}
use Rattle.sled_store.specs.Device.{LogState, LeavesLog, patched}
use Rattle.sled_store.specs.inside.Memory.{Stands, is_unsynced_at, are_in, are_kept}
use Rattle.sled_store.proofs.LogFile.LooseLemmas.{either_false}

pub length-patched : (bytes : List ℕ) (patch : List (ℕ × ℕ)) → length (patched bytes patch) ≡ length bytes
length-patched bytes [] = refl
length-patched bytes (p ∷ patch) = length-patched (set bytes p.0 p.1) patch ∙ length-set bytes p.0 p.1

-- both hold
pub both_true : (a b : Bool) → a && b ≡ true → (a ≡ true) × (b ≡ true)
both_true true b is = (refl, is)
both_true false b is = absurd (cc)

pub and_true : (a b : Bool) → a ≡ true → b ≡ true → a && b ≡ true
and_true a b is_a is_b = ap (λ (x : Bool). x && b) is_a ∙ is_b

-- one of the offsets of a patch
offset_in : List (ℕ × ℕ) → ℕ → Bool
offset_in [] i = false
offset_in (p ∷ patch) i = p.0 == i || offset_in patch i

-- a byte at another offset stays
patched-other : (bytes : List ℕ) (patch : List (ℕ × ℕ)) (i : ℕ) → offset_in patch i ≡ false → get_or (patched bytes patch) i 0 ≡ get_or bytes i 0
unfolding offset_in
patched-other bytes [] i other = refl
patched-other bytes (p ∷ patch) i other =
    let parts = either_false (p.0 == i) (offset_in patch i) other in
    let apart : i ≡ p.0 → ⊥ = λ same. differ ((Decides-eqb p.0 i).1 (sym same)) parts.0 in
    patched-other (set bytes p.0 p.1) patch i parts.1 ∙ get_or-set_other bytes p.0 i p.1 0 apart
  where
    differ : {b : Bool} → b ≡ true → b ≡ false → ⊥
    differ is not_is = cc

firm_equal : (unsynced same : Bool) → unsynced || same ≡ true → unsynced ≡ false → same ≡ true
firm_equal unsynced same either firm = sym (ap (λ (b : Bool). b || same) firm) ∙ either

-- at the offsets, where the test holds
kept-at : (unsynced : List (ℕ × ℕ)) (cut : ℕ) (bytes settled : List ℕ) (patch : List (ℕ × ℕ)) (i : ℕ) (b : Bool) → offset_in patch i ≡ b → b ≡ true → are_kept unsynced cut bytes settled patch ≡ true → is_unsynced_at unsynced cut i ≡ false → get_or bytes i 0 ≡ get_or settled i 0
unfolding offset_in
kept-at unsynced cut bytes settled [] i b is some kept firm = absurd (cc)
kept-at unsynced cut bytes settled (p ∷ patch) i b is some kept firm =
    let parts = both_true (is_unsynced_at unsynced cut p.0 || get_or bytes p.0 0 == get_or settled p.0 0) (are_kept unsynced cut bytes settled patch) kept in
    here_or_on unsynced cut bytes settled p.0 i (p.0 == i) (offset_in patch i) refl (is ∙ some) parts.0 firm (λ more. kept-at unsynced cut bytes settled patch i true more refl parts.1 firm)
  where
    here_or_on : (unsynced : List (ℕ × ℕ)) (cut : ℕ) (bytes settled : List ℕ) (at i : ℕ) (here more : Bool) → at == i ≡ here → here || more ≡ true
        → is_unsynced_at unsynced cut at || get_or bytes at 0 == get_or settled at 0 ≡ true → is_unsynced_at unsynced cut i ≡ false → (more ≡ true → get_or bytes i 0 ≡ get_or settled i 0) → get_or bytes i 0 ≡ get_or settled i 0
    here_or_on unsynced cut bytes settled at i true more is some here_kept firm rest =
        let same : at ≡ i = (Decides-eqb at i).0 is in
        let test : get_or bytes at 0 == get_or settled at 0 ≡ true = firm_equal (is_unsynced_at unsynced cut at) (get_or bytes at 0 == get_or settled at 0) here_kept (ap (is_unsynced_at unsynced cut) same ∙ firm) in
        subst (λ (k : ℕ). get_or bytes k 0 ≡ get_or settled k 0) same ((Decides-eqb (get_or bytes at 0) (get_or settled at 0)).0 test)
    here_or_on unsynced cut bytes settled at i false more is some here_kept firm rest = rest some

-- the test holds where each byte that is not loose is the settled one
kept-from : (unsynced : List (ℕ × ℕ)) (cut : ℕ) (bytes settled : List ℕ) (patch : List (ℕ × ℕ)) → are_in (length bytes) patch ≡ true
    → ((i : ℕ) → i < length bytes → is_unsynced_at unsynced cut i ≡ false → get_or bytes i 0 ≡ get_or settled i 0) → are_kept unsynced cut bytes settled patch ≡ true
kept-from unsynced cut bytes settled [] inside same = refl
kept-from unsynced cut bytes settled (p ∷ patch) inside same =
    let parts = both_true (nat_lt p.0 (length bytes)) (are_in (length bytes) patch) inside in
    and_true (is_unsynced_at unsynced cut p.0 || get_or bytes p.0 0 == get_or settled p.0 0) (are_kept unsynced cut bytes settled patch)
    (loose_or (is_unsynced_at unsynced cut p.0) (get_or bytes p.0 0) (get_or settled p.0 0) (same p.0 ((Decides-ltb p.0 (length bytes)).0 parts.0)))
    (kept-from unsynced cut bytes settled patch parts.1 same)
  where
    loose_or : (unsynced : Bool) (x y : ℕ) → (unsynced ≡ false → x ≡ y) → unsynced || x == y ≡ true
    loose_or true x y same = refl
    loose_or false x y same = (Decides-eqb x y).1 (same refl)

inside-decides : (n : ℕ) (patch : List (ℕ × ℕ)) → (are_in n patch ≡ true → All (λ p. p.0 < n) patch) × (All (λ p. p.0 < n) patch → are_in n patch ≡ true)
inside-decides n patch = Decides-by_and (λ (p : ℕ × ℕ). ltb p.0 n) (λ (p : ℕ × ℕ). p.0 < n) (are_in n) (λ p. Decides-ltb p.0 n) refl (λ _ _. refl) patch

-- a content from which a crash may start to differ: one that is as long as it may be, and the settled one where nothing is loose
pub record IsBase (log : MemLog) (s : LogState) (base : List ℕ) : Type 0 where
  pub least : s.least ≤ length base
  pub most : length base ≤ s.most
  pub same : (i : ℕ) → is_unsynced_at log.unsynced.items log.cut i ≡ false → get_or base i 0 ≡ get_or s.settled i 0

pub base_of : (log : MemLog) (s : LogState) (back : Bool) → Stands log s → IsBase log s (if back then s.settled else s.bytes)
base_of log s true stands = record { least = stands.settled_no_shorter; most = stands.settled_no_longer; same = λ i firm. refl }
base_of log s false stands = record { least = stands.no_shorter; most = stands.no_longer; same = λ i firm. sym (stands.same i firm) }

module _ (log : MemLog) (s : LogState) (stands : Stands log s) (base : List ℕ) (is_base : IsBase log s base) (patch : List (ℕ × ℕ)) where
  taken-kept : are_kept log.unsynced.items log.cut (patched base patch) s.settled patch ≡ true → (i : ℕ) → is_unsynced_at log.unsynced.items log.cut i ≡ false → get_or (patched base patch) i 0 ≡ get_or s.settled i 0
  taken-kept kept i firm = by (offset_in patch i) refl
    where
      by : (b : Bool) → offset_in patch i ≡ b → get_or (patched base patch) i 0 ≡ get_or s.settled i 0
      by true is = kept-at log.unsynced.items log.cut (patched base patch) s.settled patch i true is refl kept firm
      by false is = patched-other base patch i is ∙ is_base.same i firm

  pub taken-left : are_kept log.unsynced.items log.cut (patched base patch) s.settled patch ≡ true → LeavesLog s (patched base patch)
  taken-left kept = record {
    no_shorter = omega (arith, is_base.least, length-patched base patch);
    no_longer = omega (arith, is_base.most, length-patched base patch);
    kept = λ i low firm.
        let here : is_unsynced_at log.unsynced.items log.cut i ≡ false = sym (stands.unsynced i (omega (arith, is_base.most, length-patched base patch))) ∙ firm in
        taken-kept kept i here ∙ stands.same i here;
  }

  pub left-taken : All (λ p. p.0 < length base) patch → LeavesLog s (patched base patch) → are_in (length base) patch && are_kept log.unsynced.items log.cut (patched base patch) s.settled patch ≡ true
  left-taken inside leaves =
      let within : are_in (length base) patch ≡ true = (inside-decides (length base) patch).1 inside in
      and_true (are_in (length base) patch) (are_kept log.unsynced.items log.cut (patched base patch) s.settled patch) within
      (kept-from log.unsynced.items log.cut (patched base patch) s.settled patch (ap (λ (n : ℕ). are_in n patch) (length-patched base patch) ∙ within)
      (λ i low here. leaves.kept i low (stands.unsynced i (omega (arith, is_base.most, length-patched base patch)) ∙ here) ∙ sym (stands.same i here)))

  pub taken-iff : (are_in (length base) patch && are_kept log.unsynced.items log.cut (patched base patch) s.settled patch ≡ true) ↔ (All (λ p. p.0 < length base) patch × LeavesLog s (patched base patch))
  taken-iff = (λ is. let parts = both_true (are_in (length base) patch) (are_kept log.unsynced.items log.cut (patched base patch) s.settled patch) is in ((inside-decides (length base) patch).0 parts.0, taken-left parts.1), λ both. left-taken both.0 both.1)

-- what is left is no longer than either content was
pub rest_fits : (bytes settled after : List ℕ) (back taken : Bool) (patch : List (ℕ × ℕ)) (n : ℕ) → length bytes ≤ n → length settled ≤ n
    → (IsTrue taken → after ≡ patched (if back then settled else bytes) patch) → length (if not taken then settled else after) ≤ n
rest_fits bytes settled after back false patch n bytes_fit settled_fit is = settled_fit
rest_fits bytes settled after true true patch n bytes_fit settled_fit is = omega (arith, ap length (is refl), length-patched settled patch)
rest_fits bytes settled after false true patch n bytes_fit settled_fit is = omega (arith, ap length (is refl), length-patched bytes patch)

-- An offered content passes its test exactly where a crash may leave it.
pub offered-iff : (log : MemLog) (s : LogState) (offered : List ℕ) (result : Bool) → Stands log s → s.least ≤ length offered → length offered ≤ s.most
    → MatchBool result ((i : ℕ) → i < length offered → is_unsynced_at log.unsynced.items log.cut i || get_or offered i 0 == get_or log.bytes.items i 0 ≡ true)
    ((i : ℕ) × (i < length offered) × (is_unsynced_at log.unsynced.items log.cut i || get_or offered i 0 == get_or log.bytes.items i 0 ≡ false))
    → IsTrue result ↔ LeavesLog s offered
offered-iff log s offered true stands least most firm = (
  λ _. record {
    no_shorter = least;
    no_longer = most;
    kept = λ i low is_firm.
        let here : is_unsynced_at log.unsynced.items log.cut i ≡ false = sym (stands.unsynced i (omega arith)) ∙ is_firm in
        (Decides-eqb (get_or offered i 0) (get_or log.bytes.items i 0)).0 (firm_equal (is_unsynced_at log.unsynced.items log.cut i) (get_or offered i 0 == get_or log.bytes.items i 0) (firm i low) here)
        ∙ ap (λ (xs : List ℕ). get_or xs i 0) stands.bytes;
  },
  λ _. refl,
)
offered-iff log s offered false stands least most broken =
    let i = broken.0 in
    let parts = either_false (is_unsynced_at log.unsynced.items log.cut i) (get_or offered i 0 == get_or log.bytes.items i 0) broken.2 in (
      λ h. absurd (cc),
      λ leaves.
          let firm = stands.unsynced i (omega (arith, broken.1)) ∙ parts.0 in
          let same = leaves.kept i broken.1 firm ∙ sym (ap (λ (xs : List ℕ). get_or xs i 0) stands.bytes) in
          absurd (clash ((Decides-eqb (get_or offered i 0) (get_or log.bytes.items i 0)).1 same) parts.1),
    )
  where
    clash : {b : Bool} → b ≡ true → b ≡ false → ⊥
    clash is not_is = cc
