-- The segment's number is the quotient, and each number has nine bytes at most.
use native.Mathlib.Nat.{div-zero}
use Rattle.std.proofs.Common.{◌≡◌, ◌∙◌, ◌<◌, ◌+◌, ◌/◌, ℕ, zero, suc, Bool, false, if◌then◌else◌, nat_lt, length, Option, None, Some, ap, sym, refl, arith}
use Rattle.std.specs.Prelude.{SomeIff, unwrap_or}
use Rattle.std.proofs.lemmas.Bool.Decides.{nat_tests}
use Rattle.sled_codec.specs.Spelling.{short_number}
use Rattle.sled_codec.specs.SpellingLaws.{length-short_number}
use Rattle.sled_core.specs.Buffers.{record_size}
use Rattle.sled_log.specs.SessionMarks.{free_length}
use Rattle.sled_log.proofs.session.marking.free_len.Goals as goal

pub overflow_add-result : goal.overflow_add-result
overflow_add-result c = grind (arith, c.serialized_size.ensures, length-short_number)

pub overflow_add-result-2 : goal.overflow_add-result-2
overflow_add-result-2 c = grind (arith, c.serialized_size.ensures, c.serialized_size-2.ensures, length-short_number)

-- where nothing is divided by, the quotient is 0
quotient : (place size : ℕ) (o : Option ℕ) → SomeIff o (0 < size) (place / size) → unwrap_or o 0 ≡ place / size
quotient place zero None is = sym (div-zero place)
quotient place (suc size) None is = absurd (is (omega arith))
quotient place size (Some q) is = is.1

long : (size floor page place number : ℕ) → nat_lt place floor ≡ false → number ≡ place / size
    → 6 + length (short_number number) + length (short_number page) ≡ free_length size floor page place
unfolding short_number
long size floor page place number above is =
    ap (λ (q : ℕ). 6 + length (short_number q) + length (short_number page)) is
    ∙ sym (ap (λ (o : Bool). if o then 32 else record_size (place / size) page 0) above ∙ (let one : length (short_number 0) ≡ 1 = refl in omega (arith, one)))

pub returns : goal.returns
returns c =
    let above : nat_lt c.args.place c.args.origin.floor ≡ false = let far = c.if-place-origin.false in grind (arith, nat_tests, far) in
    let number = c.unwrap_or-number.ensures ∙ quotient c.args.place c.args.origin.size c.checked_div.result c.checked_div.ensures in
    (λ i. 6 + c.serialized_size.ensures i + c.serialized_size-2.ensures i)
    ∙ long c.args.origin.size c.args.origin.floor c.args.page c.args.place c.unwrap_or-number.result above number
