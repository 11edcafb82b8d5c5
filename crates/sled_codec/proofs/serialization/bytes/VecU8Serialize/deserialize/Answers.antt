-- What follows the count is long enough, or no byte string stands at the front.
use Rattle.std.proofs.Common.{◌≡◌, ◌∙◌, ◌≤◌, ◌-◌, ◌++◌, ℕ, List, length, take, drop, None, arith, refl, rules, sym}
use Rattle.std.proofs.lemmas.Result.{err_from_is_err_and}
use Rattle.sled_codec.specs.declared.result.Error.{Error}
use Rattle.sled_codec.specs.declared.result.Error.TheVariants.{Corruption, OutOfMemory}
use Rattle.sled_codec.specs.Beginnings.{BeginsWithBytes}
use Rattle.sled_codec.specs.Spelling.{SpellsNumber}
use Rattle.sled_codec.proofs.Fronts.{has_bytes, takes_bytes}
use Rattle.sled_codec.proofs.serialization.bytes.VecU8Serialize.deserialize.Goals as goal

pub returns-then-len-rest-clause-corrupt : goal.returns-then-len-rest-clause-corrupt
returns-then-len-rest-clause-corrupt c =
    λ _ front rest v is follows spelled.
    let read = c.in_ok-len.ensures.ok in
    omega (arith, has_bytes _ read.0 front rest _ v _ read.1 read.2 is spelled)

-- where they are, it begins with them
begins : (text count left : List ℕ) (n : ℕ) → SpellsNumber count n → text ≡ count ++ left → n ≤ length left → BeginsWithBytes text
begins text count left n counted is long =
    let has = takes_bytes text count left (take n left) n counted is long refl in
    record { front = has.0; rest = take (length left - n) (drop n left); bytes = take n left; spelled = has.1; is = has.2 }

-- no memory is taken for their count
none_for_number : (e : Error) (P : Type 0) → e ≡ Corruption None → e ≡ OutOfMemory → P
none_for_number e P damaged memory = let clash : Corruption None ≡ OutOfMemory = sym damaged ∙ memory in cc

pub returns-in_err-len-clause-memory : goal.returns-in_err-len-clause-memory
returns-in_err-len-clause-memory c =
    let e = err_from_is_err_and c.from_residual.result c.from_residual.ensures.1 in
    rw (e.1, e.2) (none_for_number c.in_err-len.field-0.0 _ c.in_err-len.ensures.errors)

pub returns-in_err-bytes-clause-memory : goal.returns-in_err-bytes-clause-memory
returns-in_err-bytes-clause-memory c =
    let read = c.in_ok-len.ensures.ok in
    let e = err_from_is_err_and c.from_residual-in_err-bytes.result c.from_residual-in_err-bytes.ensures.1 in
    rw e.1 (λ _. begins _ read.0 _ _ read.1 read.2 (omega arith))

pub returns-clause-ok : goal.returns-clause-ok
returns-clause-ok c =
    let read = c.in_ok-len.ensures.ok in
    takes_bytes _ read.0 _ _ _ read.1 read.2 (omega arith) (search rules)
