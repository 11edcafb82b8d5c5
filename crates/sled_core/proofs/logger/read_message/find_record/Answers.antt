use Rattle.std.proofs.Common.{◌≡◌, ℕ, List, length, drop, arith, subst, Err}
use Rattle.std.specs.Prelude.{IfErr, IfOk, IfNone}
use Rattle.std.proofs.lemmas.Result.{err_from_is_err_and}
use Rattle.sled_codec.specs.declared.result.Error.{Error}
use Rattle.sled_codec.specs.declared.result.Error.TheVariants.{OutOfMemory}
use Rattle.sled_core.specs.Causes.{ReaderAnswers}
use Rattle.sled_core.specs.Reading.{IsAnnounced}
use Rattle.sled_core.specs.inside.Reading.{IsBare}
use Rattle.sled_core.proofs.Read.ReadingLemmas.{header_front, same_long}
use Rattle.sled_core.proofs.logger.read_message.find_record.Goals as goal

pub returns-in-None-clause-none : goal.returns-in-None-clause-none
returns-in-None-clause-none g c = λ sum h body len stands.
    let head : List ℕ = c.in_ok-head.head in
    let none = rw c.in-None.is at c.header_of.ensures.none in
    none stands.header (drop (length stands.header) head) h
    (header_front sum c.args.size (g.R.ReadAt.file c.args.reader.now) c.args.lid c.args.number.0 head c.in_ok-head.ensures.long (λ i lt. c.header_of.ensures.bytes i) c.in_ok-head.ensures.head h body len stands)
    stands.spelled

pub returns-then-header_len-count-clause-none : goal.returns-then-header_len-count-clause-none
returns-then-header_len-count-clause-none g c = λ sum h body len stands.
    let found = rw c.in-Some.is at c.header_of.ensures.found in
    let inside = rw c.in-Some.is at c.header_of.ensures.inside in
    let long = same_long sum c.args.size (g.R.ReadAt.file c.args.reader.now) c.args.lid c.args.number.0 c.in_ok-head.head c.in_ok-head.ensures.long (λ i lt. c.header_of.ensures.bytes i) c.in_ok-head.ensures.head c.in-Some.header_len c.in-Some.header found (omega (arith, inside.1)) h body len stands in
    let in_file = stands.in_file in
    let more = c.if-header_len-count.true in
    let count = c.in_ok-head.ensures.count in
    absurd (omega (arith, long, in_file, more, count))

-- The first bytes are read without memory,
no_memory : (T : Type 0) (e : Error) (before after : ℕ) (P : Type 0) → ReaderAnswers {T = T} (Err e) ⊥ before after → e ≡ OutOfMemory → P
no_memory T e before after P answers is = absurd (subst (λ (x : Error). ReaderAnswers {T = T} (Err x) ⊥ before after) is answers)

pub returns-in_err-head-clause-memory : goal.returns-in_err-head-clause-memory
returns-in_err-head-clause-memory g c =
    let e = err_from_is_err_and c.from_residual.result c.from_residual.ensures.1 in
    rw (e.1, e.2) (no_memory (Unit {0}) c.in_err-head.field-0.0 _ _ _ c.in_err-head.ensures.answers)

-- and then some is taken where they announce a record.
pub returns-else-header_len-count-clause-memory : goal.returns-else-header_len-count-clause-memory
returns-else-header_len-count-clause-memory g c =
    subst (λ (file : List ℕ). IfErr c.find_announced.result (λ e. e ≡ OutOfMemory → IsAnnounced c.args.size file c.args.lid c.args.number.0)) c.in_ok-head.ensures.file c.find_announced.ensures.memory

pub returns-else-header_len-count-clause-none : goal.returns-else-header_len-count-clause-none
returns-else-header_len-count-clause-none g c =
    subst (λ (file : List ℕ). IfOk c.find_announced.result (λ o. IfNone o (IsBare c.args.size file c.args.lid c.args.number.0))) c.in_ok-head.ensures.file c.find_announced.ensures.none

pub find_announced-requires-clause-found : goal.find_announced-requires-clause-found
find_announced-requires-clause-found g c = rw c.in-Some.is at c.header_of.ensures.found

pub find_announced-requires-clause-some : goal.find_announced-requires-clause-some
find_announced-requires-clause-some g c = let inside = rw c.in-Some.is at c.header_of.ensures.inside in inside.0

pub find_announced-requires-clause-short : goal.find_announced-requires-clause-short
find_announced-requires-clause-short g c =
    let inside = rw c.in-Some.is at c.header_of.ensures.inside in
    let long = c.in_ok-head.ensures.long in
    omega (arith, inside, long)
