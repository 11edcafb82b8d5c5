-- A text is a record of the message where its header announces the message and the rest is the body.
use Rattle.std.proofs.Common.{◌≡◌, ◌∙◌, sym, ap, ℕ, List, ◌++◌, drop, rules}
use Rattle.std.proofs.lemmas.Bool.Decides.{Decides-eqb}
use Rattle.sled_codec.specs.Sums.{flipped}
use Rattle.sled_oracle.proofs.TakenHeaders.{rest_of_record, announced_by_record, sum_of_record, is_record_by, behind_its_sum}
use Rattle.sled_oracle.proofs.record.is_record.Goals as goal

pub returns-in-Err-Corruption-clause-decided : goal.returns-in-Err-Corruption-clause-decided
returns-in-Err-Corruption-clause-decided g c =
    let none = rw c.in-Err-Corruption.field-0-is at c.in-Err-Corruption.ensures.corrupt in
    (λ t. cc, λ p. absurd (none tt p.header c.args.body.now _ p.is tt p.spelled))

pub returns-then-not-announces-clause-decided : goal.returns-then-not-announces-clause-decided
returns-then-not-announces-clause-decided g c =
    let read = c.in-Ok.ensures.ok in
    (λ t. cc, λ p. sym c.if-not-announces.true ∙ c.announces.ensures.1 (announced_by_record _ _ read.0 _ _ read.1 read.2 _ _ _ _ p))

pub returns-then-ne-clause-decided : goal.returns-then-ne-clause-decided
returns-then-ne-clause-decided g c =
    let read = c.in-Ok.ensures.ok in
    (λ t. cc, λ p. let is = rest_of_record _ _ read.0 _ _ read.1 read.2 _ _ _ _ p in search rules)

pub returns-clause-decided : goal.returns-clause-decided
returns-clause-decided g c =
    let read = c.in-Ok.ensures.ok in
    let body : List ℕ = c.args.body.now in
    let rest : c.deserialize.new.buf.now ≡ body = search rules in
    let sum : c.in_ok-flipped_sum.field-0 ≡ flipped (g.C.Checksum.sum_of (body ++ drop 4 read.0)) = c.in_ok-flipped_sum.ensures.sum ∙ ap (λ (l : List ℕ). flipped (g.C.Checksum.sum_of (body ++ l))) (behind_its_sum g.C.Checksum.sum_of _ read.0 _ _ read.1 read.2 c.args.kind c.args.page c.args.number.0 body) in (
      λ same. is_record_by _ _ read.0 _ _ read.1 read.2 _ _ _ _ (c.announces.ensures.0 c.if-not-announces.false) rest ((Decides-eqb _ _).0 same ∙ sum),
      λ p. (Decides-eqb _ _).1 (sum_of_record _ _ read.0 _ _ read.1 read.2 _ _ _ _ p ∙ sym sum),
    )
