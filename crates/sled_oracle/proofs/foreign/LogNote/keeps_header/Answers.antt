-- A write lays it down or not, and what is settled has it or not.
use Rattle.std.proofs.Common.{◌↔◌, IsTrue, List, ℕ, sym, subst}
use Rattle.sled_oracle.specs.declared.foreign.LogNote.{LogNote}
use Rattle.sled_store.specs.Foreign.{HeaderWasPlaced}
use Rattle.sled_oracle.specs.OwnParts.{Lays, noted}
use Rattle.sled_store.proofs.Crashes.StoodLemmas.{StandsIn}
use Rattle.sled_oracle.proofs.Walks.AnswerLemmas.{told_first, told_second, told_both, told_no_first}
use Rattle.sled_oracle.proofs.Walks.NoteLemmas.{header_wrote, header_kept}
use Rattle.sled_oracle.proofs.foreign.LogNote.keeps_header.Goals as goal

pub returns-then-was : goal.returns-then-was
returns-then-was c = λ k told.
    subst (λ (n : LogNote). IsTrue c.args.was ↔ HeaderWasPlaced (noted n k).placed c.args.at c.args.text.now) (sym c.in-Wrote.is)
    (told_first (HeaderWasPlaced k.placed c.args.at c.args.text.now) (Lays c.in-Wrote.write c.args.at c.args.text.now) _ c.args.was told (header_wrote k c.args.at c.args.text.now c.in-Wrote.write) c.if-was.true)

pub returns-else-was : goal.returns-else-was
returns-else-was c = λ k told.
    subst (λ (n : LogNote). IsTrue c.lays.result ↔ HeaderWasPlaced (noted n k).placed c.args.at c.args.text.now) (sym c.in-Wrote.is)
    (told_second (HeaderWasPlaced k.placed c.args.at c.args.text.now) (Lays c.in-Wrote.write c.args.at c.args.text.now) _ c.args.was told c.lays.result c.lays.ensures
    (header_wrote k c.args.at c.args.text.now c.in-Wrote.write) c.if-was.false)

pub returns-then-was-2 : goal.returns-then-was-2
returns-then-was-2 c = λ k told.
    let stands : IsTrue c.stands_at.result ↔ StandsIn c.args.at c.args.text.now c.in-Settled.bytes.items =
    subst (λ (l : List ℕ). IsTrue c.stands_at.result ↔ StandsIn c.args.at c.args.text.now l) c.deref.ensures.value c.stands_at.ensures in
    subst (λ (n : LogNote). IsTrue c.stands_at.result ↔ HeaderWasPlaced (noted n k).placed c.args.at c.args.text.now) (sym c.in-Settled.is)
    (told_both (HeaderWasPlaced k.placed c.args.at c.args.text.now) (StandsIn c.args.at c.args.text.now c.in-Settled.bytes.items) _ c.args.was told c.stands_at.result stands
    (header_kept k c.args.at c.args.text.now c.in-Settled.bytes) c.if-was-2.true)

pub returns-else-was-2 : goal.returns-else-was-2
returns-else-was-2 c = λ k told.
    subst (λ (n : LogNote). IsTrue c.args.was ↔ HeaderWasPlaced (noted n k).placed c.args.at c.args.text.now) (sym c.in-Settled.is)
    (told_no_first (HeaderWasPlaced k.placed c.args.at c.args.text.now) (StandsIn c.args.at c.args.text.now c.in-Settled.bytes.items) _ c.args.was told
    (header_kept k c.args.at c.args.text.now c.in-Settled.bytes) c.if-was-2.false)
