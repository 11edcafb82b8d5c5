use Rattle.std.proofs.Common.{◌≡◌, ◌∙◌, ◌-◌, ◌++◌, ℕ, List, length, take, drop, refl, sym, ap, arith, Bool, true, false, not, length-drop, take-append-drop}
use Rattle.std.specs.Cmp.Lexicographic.{same_text, other_text}
use Rattle.sled_store.proofs.Names.Trailers.{trailer, with_trailer, split_file}
use Rattle.sled_store.proofs.snapshot_file.text_in.Goals as goal

whole : (n : ℕ) (bytes front back : List ℕ) → front ≡ take n bytes → back ≡ drop n bytes → bytes ≡ front ++ back
whole n bytes front back is_front is_back = sym (take-append-drop n bytes) ∙ ap (λ (l : List ℕ). l ++ drop n bytes) (sym is_front) ∙ ap (λ (l : List ℕ). front ++ l) (sym is_back)

flip : (a b : Bool) → a ≡ not b → b ≡ not a
flip true true e = e
flip true false e = refl
flip false true e = refl
flip false false e = e

pub returns-then-ne-clause-none : goal.returns-then-ne-clause-none
returns-then-ne-clause-none g c = λ text is.
    let bytes : List ℕ = c.args.bytes.now in
    let front : List ℕ = c.split_at.result.0.now in
    let back : List ℕ = c.split_at.result.1.now in
    let n : ℕ = length bytes - 12 in
    let long = ap length c.split_at.ensures.back ∙ length-drop n bytes in
    let parts = split_file g.C.Checksum.sum_of bytes front back text (whole n bytes front back c.split_at.ensures.front c.split_at.ensures.back) (omega (arith, long, c.if-bytes-lt-TRAILER_LEN.false)) is in
    let same : back ≡ c.as_slice.result.now = sym parts.1 ∙ ap (trailer g.C.Checksum.sum_of) parts.0 ∙ sym c.trailer_of.ensures ∙ sym c.as_slice.ensures in
    other_text back c.as_slice.result.now (sym (flip true _ c.if-ne.ensures)) same

pub returns-clause-found : goal.returns-clause-found
returns-clause-found g c =
    let bytes : List ℕ = c.args.bytes.now in
    let front : List ℕ = c.split_at.result.0.now in
    let back : List ℕ = c.split_at.result.1.now in
    let same : back ≡ trailer g.C.Checksum.sum_of front = same_text back c.as_slice.result.now (sym (flip false _ c.if-ne.ensures)) ∙ c.as_slice.ensures ∙ c.trailer_of.ensures in
    whole (length bytes - 12) bytes front back c.split_at.ensures.front c.split_at.ensures.back ∙ ap (λ (l : List ℕ). front ++ l) same ∙ sym (with_trailer g.C.Checksum.sum_of front)
