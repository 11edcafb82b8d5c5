-- A write that covers them keeps them, and what is settled has them or not.
use Rattle.std.proofs.Common.{◌↔◌, IsTrue, List, ℕ, sym, subst}
use Rattle.sled_oracle.specs.declared.foreign.LogNote.{LogNote}
use Rattle.sled_store.specs.Foreign.{Covers, IsWhole}
use Rattle.sled_oracle.specs.OwnParts.{log_of, noted}
use Rattle.sled_store.proofs.Crashes.StoodLemmas.{StandsIn}
use Rattle.sled_oracle.proofs.Walks.AnswerLemmas.{told_first, told_second}
use Rattle.sled_oracle.proofs.Walks.NoteLemmas.{whole_wrote, whole_settled}
use Rattle.sled_oracle.proofs.foreign.LogNote.keeps_whole.Goals as goal

pub returns-then-was : goal.returns-then-was
returns-then-was c = λ k told.
    subst (λ (n : LogNote). IsTrue c.args.was ↔ IsWhole (log_of (noted n k)) c.args.at c.args.text.now) (sym c.in-Wrote.is)
    (told_first (IsWhole (log_of k) c.args.at c.args.text.now) (Covers c.in-Wrote.write c.args.at c.args.text.now) _ c.args.was told (whole_wrote k c.args.at c.args.text.now c.in-Wrote.write) c.if-was.true)

pub returns-else-was : goal.returns-else-was
returns-else-was c = λ k told.
    subst (λ (n : LogNote). IsTrue c.covers.result ↔ IsWhole (log_of (noted n k)) c.args.at c.args.text.now) (sym c.in-Wrote.is)
    (told_second (IsWhole (log_of k) c.args.at c.args.text.now) (Covers c.in-Wrote.write c.args.at c.args.text.now) _ c.args.was told c.covers.result c.covers.ensures
    (whole_wrote k c.args.at c.args.text.now c.in-Wrote.write) c.if-was.false)

pub returns-in-Settled : goal.returns-in-Settled
returns-in-Settled c = λ k told.
    let stands : IsTrue c.stands_at.result ↔ StandsIn c.args.at c.args.text.now c.in-Settled.bytes.items =
    subst (λ (l : List ℕ). IsTrue c.stands_at.result ↔ StandsIn c.args.at c.args.text.now l) c.deref.ensures.value c.stands_at.ensures in
    let means = whole_settled k c.args.at c.args.text.now c.in-Settled.bytes in
    subst (λ (n : LogNote). IsTrue c.stands_at.result ↔ IsWhole (log_of (noted n k)) c.args.at c.args.text.now) (sym c.in-Settled.is) (λ t. means.0 (stands.0 t), λ h. stands.1 (means.1 h))
