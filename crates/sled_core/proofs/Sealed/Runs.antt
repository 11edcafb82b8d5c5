-- The buffers at the front that are written: their reservations are one chain, none of which is open, and the file has their bytes. What is behind them is as it was.
use Rattle.std.proofs.Common.{◌≡◌, ◌≤◌, ◌<◌, ◌+◌, ℕ, zero, suc, max, Bool, true, false, if◌then◌else◌, List, [], ◌∷◌, ◌++◌, take, drop, sym, ◌∙◌, ap, arith, refl, subst, inl, inr}
use Rattle.std.proofs.lemmas.Bool.{cases_lt}
use Rattle.std.proofs.lemmas.Bool.Decides.{nat_tests}
use Rattle.std.proofs.lemmas.List.{drop-drop}
use Rattle.sled_core.specs.declared.iobuf.Reserved.{Reserved}
use Rattle.sled_core.specs.declared.iobuf.Sealed.{Sealed}
use Rattle.sled_core.specs.inside.Buffers.{IsChain}
use Rattle.sled_core.specs.Buffers.{none_open, open_in, open_state}
use Rattle.sled_core.specs.inside.SealedBuffers.{IsSealed, AreSealed, Agrees, LaidOne, Laid, run_end, run_count, behind_run}
use Rattle.sled_core.proofs.Reserve.OpenCounts.{ended_is}
use Rattle.sled_core.proofs.Reserve.Ranges.{chain_grows}

-- two chains are one
pub chain_on : (from mid end : ℕ) (xs ys : List Reserved) → IsChain from xs mid → IsChain mid ys end → IsChain from (xs ++ ys) end
chain_on from mid end [] ys first rest = subst (λ n. IsChain n ys end) (sym first) rest
chain_on from mid end (x ∷ xs) ys first rest = (first.0, chain_on (from + x.len) mid end xs ys first.1 rest)

-- where each of two parts is ended, all are
none_on : (xs ys : List Reserved) → none_open xs ≡ true → none_open ys ≡ true → none_open (xs ++ ys) ≡ true
none_on [] ys first rest = rest
none_on (x ∷ xs) ys first rest = by_test (λ is. none_on xs ys is rest) (open_state x.state) first where
  by_test : (none_open xs ≡ true → none_open (xs ++ ys) ≡ true) → (o : Bool) → (if o then false else none_open xs) ≡ true → (if o then false else none_open (xs ++ ys)) ≡ true
  by_test more true is = cc
  by_test more false is = more is

-- the first ones, in two parts
pub take_more : (n m : ℕ) (rs : List Reserved) → take (n + m) rs ≡ take n rs ++ take m (drop n rs)
take_more zero m rs = let same : 0 + m ≡ m = omega arith in ap (λ k. take k rs) same
take_more (suc n) zero [] = let same : suc n + 0 ≡ suc n = omega arith in ap (λ k. take k []) same
take_more (suc n) (suc m) [] = let same : suc n + suc m ≡ suc (n + suc m) = omega arith in ap (λ k. take k []) same
take_more (suc n) m (r ∷ rs) = let same : suc n + m ≡ suc (n + m) = omega arith in ap (λ k. take k (r ∷ rs)) same ∙ ap (λ (l : List Reserved). r ∷ l) (take_more n m rs)

-- a buffer that is written has no open reservation
pub written_ended : (from : ℕ) (own : List Reserved) (b : Sealed) → IsSealed from own b → b.is_written ≡ true → none_open own ≡ true
written_ended from own b is written = let none : open_in own ≡ 0 = sym is.still_open ∙ is.ended written in grind (arith, nat_tests, none, ended_is own)

pub end_begun : (from : ℕ) (own : List Reserved) (b : Sealed) → IsSealed from own b → max 20 b.end ≡ b.end
end_begun from own b is = let grows = chain_grows (max 20 from) b.end own is.chain in omega (arith, grows)

-- Those at the front that are written, and the others.
pub record IsRun (from : ℕ) (rs : List Reserved) (bs : List Sealed) : Type 0 where
  pub chain : IsChain (max 20 from) (take (run_count bs) rs) (max 20 (run_end from bs))
  pub ended : none_open (take (run_count bs) rs) ≡ true
  pub rest : AreSealed (run_end from bs) (drop (run_count bs) rs) (behind_run bs)
  pub rises : from ≤ run_end from bs

module _ (from : ℕ) (rs : List Reserved) (b : Sealed) (bs : List Sealed) (are : AreSealed from rs (b ∷ bs)) where
  abbrev own : List Reserved
  own = take b.count rs

  abbrev more : List Reserved
  more = drop b.count rs

  stopped : b.is_written ≡ false → IsRun from rs (b ∷ bs)
  stopped is =
      let none : run_count (b ∷ bs) ≡ 0 = ap (λ (o : Bool). if o then b.count + run_count bs else 0) is in
      let at : run_end from (b ∷ bs) ≡ from = ap (λ (o : Bool). if o then run_end b.end bs else from) is in
      let left : behind_run (b ∷ bs) ≡ b ∷ bs = ap (λ (o : Bool). if o then behind_run bs else b ∷ bs) is in
      record {
        chain = subst (λ n. IsChain (max 20 from) (take n rs) (max 20 (run_end from (b ∷ bs)))) (sym none) (sym (ap (λ n. max 20 n) at));
        ended = ap (λ n. none_open (take n rs)) none;
        rest = subst (λ n. AreSealed (run_end from (b ∷ bs)) (drop n rs) (behind_run (b ∷ bs))) (sym none)
            (subst (λ n. AreSealed n rs (behind_run (b ∷ bs))) (sym at) (subst (λ (l : List Sealed). AreSealed from rs l) (sym left) are));
        rises = omega (arith, at);
      }

  goes_on : b.is_written ≡ true → IsRun b.end more bs → IsRun from rs (b ∷ bs)
  goes_on is rest =
      let count : run_count (b ∷ bs) ≡ b.count + run_count bs = ap (λ (o : Bool). if o then b.count + run_count bs else 0) is in
      let at : run_end from (b ∷ bs) ≡ run_end b.end bs = ap (λ (o : Bool). if o then run_end b.end bs else from) is in
      let left : behind_run (b ∷ bs) ≡ behind_run bs = ap (λ (o : Bool). if o then behind_run bs else b ∷ bs) is in
      let front : take (run_count (b ∷ bs)) rs ≡ own ++ take (run_count bs) more = ap (λ n. take n rs) count ∙ take_more b.count (run_count bs) rs in
      let behind : drop (run_count (b ∷ bs)) rs ≡ drop (run_count bs) more = ap (λ n. drop n rs) count ∙ sym (drop-drop (run_count bs) b.count rs) in
      let begun = end_begun from own b are.0 in
      let joined : IsChain (max 20 from) (own ++ take (run_count bs) more) (max 20 (run_end b.end bs)) =
      chain_on (max 20 from) b.end (max 20 (run_end b.end bs)) own (take (run_count bs) more) are.0.chain (subst (λ n. IsChain n (take (run_count bs) more) (max 20 (run_end b.end bs))) begun rest.chain) in
      record {
        chain = subst (λ (l : List Reserved). IsChain (max 20 from) l (max 20 (run_end from (b ∷ bs)))) (sym front) (subst (λ n. IsChain (max 20 from) (own ++ take (run_count bs) more) (max 20 n)) (sym at) joined);
        ended = ap none_open front ∙ none_on own (take (run_count bs) more) (written_ended from own b are.0 is) rest.ended;
        rest = subst (λ (l : List Reserved). AreSealed (run_end from (b ∷ bs)) l (behind_run (b ∷ bs))) (sym behind)
            (subst (λ n. AreSealed n (drop (run_count bs) more) (behind_run (b ∷ bs))) (sym at) (subst (λ (l : List Sealed). AreSealed (run_end b.end bs) (drop (run_count bs) more) l) (sym left) rest.rest));
        rises = (let up = rest.rises in let here = are.0.rises in omega (arith, up, here, at));
      }

pub run_of : (from : ℕ) (rs : List Reserved) (bs : List Sealed) → AreSealed from rs bs → IsRun from rs bs
run_of from rs [] are = record { chain = refl; ended = refl; rest = tt; rises = omega arith }
run_of from rs (b ∷ bs) are = by_test (run_of b.end (drop b.count rs) bs are.1) b.is_written refl where
  by_test : IsRun b.end (drop b.count rs) bs → (o : Bool) → b.is_written ≡ o → IsRun from rs (b ∷ bs)
  by_test rest false is = stopped from rs b bs are is
  by_test rest true is = goes_on from rs b bs are is rest

-- The file has the bytes of those that are written.
pub run_there : (log : List ℕ) (slot : ℕ) (bytes : List ℕ) (from : ℕ) (rs : List Reserved) (bs : List Sealed) (to : ℕ) → AreSealed from rs bs → Laid log slot bytes from bs to → from < run_end from bs
    → Agrees log slot bytes from (run_end from bs)
run_there log slot bytes from rs [] to are laid some = absurd (omega (arith, some))
run_there log slot bytes from rs (b ∷ bs) to are laid some = by_test (run_there log slot bytes b.end (drop b.count rs) bs to are.1 laid.1) b.is_written refl where
  by_test : (b.end < run_end b.end bs → Agrees log slot bytes b.end (run_end b.end bs)) → (o : Bool) → b.is_written ≡ o → Agrees log slot bytes from (run_end from (b ∷ bs))
  by_test on false is = let at : run_end from (b ∷ bs) ≡ from = ap (λ (o : Bool). if o then run_end b.end bs else from) is in absurd (omega (arith, at, some))
  by_test on true is =
      let at : run_end from (b ∷ bs) ≡ run_end b.end bs = ap (λ (o : Bool). if o then run_end b.end bs else from) is in
      let here : Agrees log slot bytes from b.end = subst (λ (o : Bool). LaidOne log slot bytes from o b.end) is laid.0 in
      let run = run_of b.end (drop b.count rs) bs are.1 in
      let up = run.rises in
      subst (λ n. Agrees log slot bytes from n) (sym at) (elim (cases_lt b.end (run_end b.end bs)) [
        | inr none ↦ (let same : run_end b.end bs ≡ b.end = omega (arith, none, up) in subst (λ n. Agrees log slot bytes from n) (sym same) here)
        | inl more ↦ (
            let rest = on more in
            record { same = λ i above below. elim (cases_lt i b.end) [ inl low ↦ here.same i above low | inr high ↦ rest.same i high below ]; in_file = rest.in_file; in_bytes = rest.in_bytes })
      ])

-- and of the others what it had
pub run_laid : (log : List ℕ) (slot : ℕ) (bytes : List ℕ) (from : ℕ) (bs : List Sealed) (to : ℕ) → Laid log slot bytes from bs to → Laid log slot bytes (run_end from bs) (behind_run bs) to
run_laid log slot bytes from [] to laid = laid
run_laid log slot bytes from (b ∷ bs) to laid = by_test (run_laid log slot bytes b.end bs to laid.1) b.is_written refl where
  by_test : Laid log slot bytes (run_end b.end bs) (behind_run bs) to → (o : Bool) → b.is_written ≡ o → Laid log slot bytes (run_end from (b ∷ bs)) (behind_run (b ∷ bs)) to
  by_test rest false is =
      let at : run_end from (b ∷ bs) ≡ from = ap (λ (o : Bool). if o then run_end b.end bs else from) is in
      let left : behind_run (b ∷ bs) ≡ b ∷ bs = ap (λ (o : Bool). if o then behind_run bs else b ∷ bs) is in
      subst (λ n. Laid log slot bytes n (behind_run (b ∷ bs)) to) (sym at) (subst (λ (l : List Sealed). Laid log slot bytes from l to) (sym left) laid)
  by_test rest true is =
      let at : run_end from (b ∷ bs) ≡ run_end b.end bs = ap (λ (o : Bool). if o then run_end b.end bs else from) is in
      let left : behind_run (b ∷ bs) ≡ behind_run bs = ap (λ (o : Bool). if o then behind_run bs else b ∷ bs) is in
      subst (λ n. Laid log slot bytes n (behind_run (b ∷ bs)) to) (sym at) (subst (λ (l : List Sealed). Laid log slot bytes (run_end b.end bs) l to) (sym left) rest)

-- Behind them comes one that isn't written, or none.
pub run_stops : (bs : List Sealed) (b : Sealed) (rest : List Sealed) → behind_run bs ≡ b ∷ rest → b.is_written ≡ false
run_stops [] b rest is = absurd (let never : ⊥ = cc in never)
run_stops (x ∷ xs) b rest is = by_test (run_stops xs b rest) x.is_written refl where
  by_test : (behind_run xs ≡ b ∷ rest → b.is_written ≡ false) → (o : Bool) → x.is_written ≡ o → b.is_written ≡ false
  by_test on true w = on (sym (ap (λ (o : Bool). if o then behind_run xs else x ∷ xs) w) ∙ is)
  by_test on false w = let same : x ∷ xs ≡ b ∷ rest = sym (ap (λ (o : Bool). if o then behind_run xs else x ∷ xs) w) ∙ is in let one : x ≡ b = cc in sym (ap (λ (y : Sealed). y.is_written) one) ∙ w
