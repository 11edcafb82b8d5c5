-- What the log file has of sealed buffers, once one of them is written, once bytes of one that isn't written change, and in another file that has the same there.
use Rattle.std.proofs.Common.{◌≡◌, ◌≤◌, ◌<◌, ◌+◌, ◌-◌, ◌⊎◌, ℕ, Bool, true, false, nat_lt, if◌then◌else◌, List, [], ◌∷◌, ◌++◌, length, get_or, sym, ◌∙◌, ap, arith, refl, subst, inl, inr}
use Rattle.sled_core.specs.declared.iobuf.Sealed.{Sealed}
use Rattle.sled_core.specs.SealedBuffers.{sealed_end, AreZeros}
use Rattle.sled_core.specs.inside.SealedBuffers.{Agrees, LaidOne, Laid, now_written, one_ended}

-- one behind another, and no further than an offset
abbrev pub EndsRise : ℕ → List Sealed → ℕ → Type 0
EndsRise from [] to = from ≤ to
EndsRise from (b ∷ bs) to = (from < b.end) × EndsRise b.end bs to

pub ends_below : (from : ℕ) (bs : List Sealed) (to : ℕ) → EndsRise from bs to → (from ≤ sealed_end from bs) × (sealed_end from bs ≤ to)
ends_below from [] to rise = (omega arith, rise)
ends_below from (b ∷ bs) to rise = let rest = ends_below b.end bs to rise.1 in let here = rise.0 in (omega (arith, rest.0, here), rest.1)

-- Files that have the same from one offset of a slot up to another, where none is shorter.
pub record IsSameFrom (slot : ℕ) (old new : List ℕ) (from to : ℕ) : Type 0 where
  pub grows : length old ≤ length new
  pub same : (i : ℕ) → from ≤ i → i < to → get_or new (slot + i) 0 ≡ get_or old (slot + i) 0

zeros_same : (slot : ℕ) (old new : List ℕ) (from to : ℕ) → ((i : ℕ) → from ≤ i → i < to → get_or new (slot + i) 0 ≡ get_or old (slot + i) 0) → AreZeros old (slot + from) (slot + to) → AreZeros new (slot + from) (slot + to)
zeros_same slot old new from to same zeros i above below =
    let j : ℕ = i - slot in
    let at : slot + j ≡ i = omega (arith, above) in
    ap (λ n. get_or new n 0) (sym at) ∙ same j (omega (arith, above)) (omega (arith, below, at)) ∙ ap (λ n. get_or old n 0) at ∙ zeros i above below

one_same : (slot : ℕ) (old new bytes : List ℕ) (from end : ℕ) (o : Bool) → length old ≤ length new → ((i : ℕ) → from ≤ i → i < end → get_or new (slot + i) 0 ≡ get_or old (slot + i) 0)
    → LaidOne old slot bytes from o end → LaidOne new slot bytes from o end
one_same slot old new bytes from end true grows same laid = record { same = λ i above below. same i above below ∙ laid.same i above below; in_file = (let w = laid.in_file in omega (arith, w, grows)); in_bytes = laid.in_bytes }
one_same slot old new bytes from end false grows same laid = zeros_same slot old new from end same laid

pub laid_same : (slot : ℕ) (old new bytes : List ℕ) (from : ℕ) (bs : List Sealed) (to : ℕ) → EndsRise from bs to → IsSameFrom slot old new from to → Laid old slot bytes from bs to → Laid new slot bytes from bs to
laid_same slot old new bytes from [] to rise is laid = zeros_same slot old new from to is.same laid
laid_same slot old new bytes from (b ∷ bs) to rise is laid =
    let here = rise.0 in
    let below = ends_below b.end bs to rise.1 in (
      one_same slot old new bytes from b.end b.is_written is.grows (λ i above low. is.same i above (omega (arith, low, below.0, below.1))) laid.0,
      laid_same slot old new bytes b.end bs to rise.1 (record { grows = is.grows; same = λ i above low. is.same i (omega (arith, above, here)) low }) laid.1,
    )

-- One of them is written: the file has its bytes, and is the same in front of it and behind it.
pub laid_written : (slot : ℕ) (old new bytes : List ℕ) (from : ℕ) (front : List Sealed) (b : Sealed) (rest : List Sealed) (to : ℕ) → EndsRise from (front ++ b ∷ rest) to → length old ≤ length new
    → ((i : ℕ) → from ≤ i → (i < sealed_end from front) ⊎ (b.end ≤ i) → get_or new (slot + i) 0 ≡ get_or old (slot + i) 0) → Agrees new slot bytes (sealed_end from front) b.end
    → Laid old slot bytes from (front ++ b ∷ rest) to → Laid new slot bytes from (front ++ now_written b ∷ rest) to
laid_written slot old new bytes from [] b rest to rise grows same there laid =
    let here = rise.0 in
    (there, laid_same slot old new bytes b.end rest to rise.1 (record { grows = grows; same = λ i above low. same i (omega (arith, above, here)) (inr above) }) laid.1)
laid_written slot old new bytes from (x ∷ xs) b rest to rise grows same there laid =
    let here = rise.0 in
    let below = front_end x.end xs b rest to rise.1 in (
      one_same slot old new bytes from x.end x.is_written grows (λ i above low. same i above (inl (omega (arith, low, below)))) laid.0,
      laid_written slot old new bytes x.end xs b rest to rise.1 grows (λ i above how. same i (omega (arith, above, here)) how) there laid.1,
    )
  where
    front_end : (from : ℕ) (xs : List Sealed) (b : Sealed) (rest : List Sealed) (to : ℕ) → EndsRise from (xs ++ b ∷ rest) to → from ≤ sealed_end from xs
    front_end from [] b rest to rise = omega arith
    front_end from (y ∷ ys) b rest to rise = let up = front_end y.end ys b rest to rise.1 in let low = rise.0 in omega (arith, up, low)

-- Other bytes that are the same in each buffer that is written.
abbrev pub SameWritten : List ℕ → List ℕ → ℕ → List Sealed → Type 0
SameWritten bytes other from [] = Unit {0}
SameWritten bytes other from (b ∷ bs) = (b.is_written ≡ true → (i : ℕ) → from ≤ i → i < b.end → get_or other i 0 ≡ get_or bytes i 0) × SameWritten bytes other b.end bs

pub laid_other : (log : List ℕ) (slot : ℕ) (bytes other : List ℕ) (from : ℕ) (bs : List Sealed) (to : ℕ) → length bytes ≤ length other → SameWritten bytes other from bs → Laid log slot bytes from bs to → Laid log slot other from bs to
laid_other log slot bytes other from [] to grows same laid = laid
laid_other log slot bytes other from (b ∷ bs) to grows same laid = (by_test b.is_written same.0 laid.0, laid_other log slot bytes other b.end bs to grows same.1 laid.1) where
  by_test : (o : Bool) → (o ≡ true → (i : ℕ) → from ≤ i → i < b.end → get_or other i 0 ≡ get_or bytes i 0) → LaidOne log slot bytes from o b.end → LaidOne log slot other from o b.end
  by_test true is there = record { same = λ i above below. there.same i above below ∙ sym (is refl i above below); in_file = there.in_file; in_bytes = (let w = there.in_bytes in omega (arith, w, grows)) }
  by_test false is there = there

-- A buffer of zeros is sealed behind them.
pub laid_sealed : (log : List ℕ) (slot : ℕ) (bytes : List ℕ) (from : ℕ) (bs : List Sealed) (b : Sealed) (to : ℕ) → b.is_written ≡ false → b.end ≤ to → sealed_end from bs ≤ b.end
    → Laid log slot bytes from bs to → Laid log slot bytes from (bs ++ b ∷ []) to
laid_sealed log slot bytes from [] b to fresh inside rises laid =
    (subst (λ (o : Bool). LaidOne log slot bytes from o b.end) (sym fresh) (λ i above below. laid i above (omega (arith, below, inside))), λ i above below. laid i (omega (arith, above, rises)) below)
laid_sealed log slot bytes from (x ∷ xs) b to fresh inside rises laid = (laid.0, laid_sealed log slot bytes x.end xs b to fresh inside rises laid.1)

-- A reservation of one of them ends.
pub laid_ended : (log : List ℕ) (slot : ℕ) (bytes : List ℕ) (from : ℕ) (i : ℕ) (bs : List Sealed) (to : ℕ) → Laid log slot bytes from bs to → Laid log slot bytes from (one_ended i bs) to
laid_ended log slot bytes from i [] to laid = laid
laid_ended log slot bytes from i (b ∷ bs) to laid = by_test (laid_ended log slot bytes b.end (i - b.count) bs to laid.1) (nat_lt i b.count) where
  by_test : Laid log slot bytes b.end (one_ended (i - b.count) bs) to → (o : Bool)
      → Laid log slot bytes from (if o then record { end = b.end; count = b.count; open_count = b.open_count - 1; is_written = b.is_written } ∷ bs else b ∷ one_ended (i - b.count) bs) to
  by_test on true = laid
  by_test on false = (laid.0, on)
