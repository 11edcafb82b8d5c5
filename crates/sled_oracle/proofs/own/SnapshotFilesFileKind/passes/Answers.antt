-- What isn't decoded is no snapshot.
use Rattle.sled_oracle.proofs.own.SnapshotFilesFileKind.passes.Goals as goal

pub returns-in-Err-Corruption-clause-passes : goal.returns-in-Err-Corruption-clause-passes
returns-in-Err-Corruption-clause-passes g c =
    let none = rw c.in-Err-Corruption.field-0-is at c.in-Err-Corruption.ensures.corrupt in
    (λ t. cc, λ some. absurd (none tt some.0 some.1))
