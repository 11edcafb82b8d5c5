-- A write lays it down or not, and what is settled has it or not.
use Rattle.std.proofs.Common.{◌↔◌, Bool, true, IsTrue, List, ℕ, sym, subst}
use Rattle.std.specs.Result.{IfOk}
use Rattle.sled_oracle.specs.declared.foreign.LogNote.TheVariants.{Wrote, Settled}
use Rattle.sled_oracle.specs.declared.foreign.LogNote.{LogNote}
use Rattle.sled_store.specs.Foreign.{RecordWasPlaced}
use Rattle.sled_oracle.specs.OwnParts.{LaysRecord, noted}
use Rattle.sled_store.proofs.Crashes.StoodLemmas.{StandsIn}
use Rattle.sled_oracle.proofs.Walks.AnswerLemmas.{told_first, told_second_if_ok, told_both, told_no_first}
use Rattle.sled_oracle.proofs.Walks.NoteLemmas.{record_wrote, record_kept}
use Rattle.sled_oracle.proofs.foreign.LogNote.keeps_record.Goals as goal
use Rattle.sled_oracle.proofs.foreign.LogNote.keeps_record.Goals.{then-was-2, else-was-2}

pub returns-then-was-clause-placed : goal.returns-then-was-clause-placed
returns-then-was-clause-placed g c = λ k told.
    subst (λ (n : LogNote). IsTrue true ↔ RecordWasPlaced g.C.Checksum.sum_of c.args.size (noted n k).placed c.args.number.0 c.args.at c.args.text.now) (sym c.in-Wrote.is)
    (subst (λ (b : Bool). IsTrue b ↔ RecordWasPlaced g.C.Checksum.sum_of c.args.size (noted (Wrote c.in-Wrote.write) k).placed c.args.number.0 c.args.at c.args.text.now) c.if-was.true
    (told_first (RecordWasPlaced g.C.Checksum.sum_of c.args.size k.placed c.args.number.0 c.args.at c.args.text.now) (LaysRecord g.C.Checksum.sum_of c.args.size c.in-Wrote.write c.args.number.0 c.args.at c.args.text.now) _ c.args.was told
    (record_wrote k c.args.at c.args.text.now c.in-Wrote.write g.C.Checksum.sum_of c.args.size c.args.number.0) c.if-was.true))

pub returns-else-was-clause-placed : goal.returns-else-was-clause-placed
returns-else-was-clause-placed g c = λ k told.
    subst (λ (n : LogNote). IfOk c.lays_record.result (λ b. IsTrue b ↔ RecordWasPlaced g.C.Checksum.sum_of c.args.size (noted n k).placed c.args.number.0 c.args.at c.args.text.now)) (sym c.in-Wrote.is)
    (told_second_if_ok (RecordWasPlaced g.C.Checksum.sum_of c.args.size k.placed c.args.number.0 c.args.at c.args.text.now) (LaysRecord g.C.Checksum.sum_of c.args.size c.in-Wrote.write c.args.number.0 c.args.at c.args.text.now) _ c.args.was told
    c.lays_record.result c.lays_record.ensures.laid (record_wrote k c.args.at c.args.text.now c.in-Wrote.write g.C.Checksum.sum_of c.args.size c.args.number.0) c.if-was.false)

pub returns-after-was-2-clause-placed : goal.returns-after-was-2-clause-placed
returns-after-was-2-clause-placed g c = λ k told.
    subst (λ (n : LogNote). IsTrue c.if-was-2.result ↔ RecordWasPlaced g.C.Checksum.sum_of c.args.size (noted n k).placed c.args.number.0 c.args.at c.args.text.now) (sym c.in-Settled.is)
    (elim c.if-was-2.branch [
      | then-was-2 w ↦ subst (λ (b : Bool). IsTrue b ↔ RecordWasPlaced g.C.Checksum.sum_of c.args.size (noted (Settled c.in-Settled.bytes) k).placed c.args.number.0 c.args.at c.args.text.now) (sym w.result-is)
          (told_both (RecordWasPlaced g.C.Checksum.sum_of c.args.size k.placed c.args.number.0 c.args.at c.args.text.now) (StandsIn c.args.at c.args.text.now c.in-Settled.bytes.items) _ c.args.was told w.stands_at.result
          (subst (λ (l : List ℕ). IsTrue w.stands_at.result ↔ StandsIn c.args.at c.args.text.now l) w.deref.ensures.value w.stands_at.ensures)
          (record_kept k c.args.at c.args.text.now c.in-Settled.bytes g.C.Checksum.sum_of c.args.size c.args.number.0) w.if-was-2.true)
      | else-was-2 w ↦ subst (λ (b : Bool). IsTrue b ↔ RecordWasPlaced g.C.Checksum.sum_of c.args.size (noted (Settled c.in-Settled.bytes) k).placed c.args.number.0 c.args.at c.args.text.now) (sym w.result-is)
          (told_no_first (RecordWasPlaced g.C.Checksum.sum_of c.args.size k.placed c.args.number.0 c.args.at c.args.text.now) (StandsIn c.args.at c.args.text.now c.in-Settled.bytes.items) _ c.args.was told
          (record_kept k c.args.at c.args.text.now c.in-Settled.bytes g.C.Checksum.sum_of c.args.size c.args.number.0) w.if-was-2.false)
    ])
