-- The marks of a log stay passed: where more is written, where batches are noted behind that, and where the mark of a header that is written joins.
use Rattle.std.proofs.Common.{◌≡◌, ◌⊎◌, ◌≤◌, ℕ, ℤ, List, Option, Some, subst, sym, arith, inl, inr}
use Rattle.std.specs.List.{Contains}
use Rattle.std.proofs.lemmas.Int.{ints}
use Rattle.sled_codec.specs.History.{Batch}
use Rattle.sled_codec.specs.Snapshots.{SnapshotModel}
use Rattle.sled_core.specs.HeaderMark.{greater_mark}
use Rattle.sled_core.specs.declared.logger.joined_marks.JoinedMarks.{JoinedMarks}
use Rattle.sled_core.specs.inside.MarksFit.{ArePassed, ArePassedFrom, IsPassed}
use Rattle.sled_core.proofs.Line.MarksJoin.{greater_has}

-- The other batches begin behind what was written, and no mark lies there.
module _ (written further : ℕ) (up : written ≤ further) (bs cs : List Batch) (own : (b : Batch) → Contains cs b → Contains bs b ⊎ (written ≤ b.low)) where
  one_further : (first : SnapshotModel) (mark : ℤ) → IsPassed first written bs mark → IsPassed first further cs mark
  one_further first mark (inl began) = inl began
  one_further first mark (inr (under, apart)) =
      inr (
        omega (arith, ints, under, up),
        λ b there. elim (own b there) [
          | inl was ↦ apart b was
          | inr behind ↦ inl (omega (arith, ints, under, behind))
        ],
      )

  pub all_further : (first : SnapshotModel) (marks : JoinedMarks) → ArePassed first written bs marks → ArePassed first further cs marks
  all_further first marks are = record { joined = one_further first marks.joined are.joined; durable = one_further first marks.durable are.durable }

  pub passed_further : (sum : List ℕ → ℕ) (snapshots : ℤ → Option (List ℕ)) (marks : JoinedMarks) → ArePassedFrom sum snapshots written bs marks
      → ArePassedFrom sum snapshots further cs marks
  passed_further sum snapshots marks are first begins = all_further first marks (are first begins)

-- Where the batches are the same,
pub passed_up : (written further : ℕ) → written ≤ further → (bs : List Batch) (sum : List ℕ → ℕ) (snapshots : ℤ → Option (List ℕ)) (marks : JoinedMarks)
    → ArePassedFrom sum snapshots written bs marks → ArePassedFrom sum snapshots further bs marks
passed_up written further up bs = passed_further written further up bs bs (λ b there. inl there)

-- and where the greatest mark on the device may be that of a header that is passed, and that or none joins.
pub passed_joins : (first : SnapshotModel) (written : ℕ) (bs : List Batch) (o : Option ℤ) (old now : JoinedMarks)
    → ((mark : ℤ) → o ≡ Some mark → IsPassed first written bs mark) → (now.joined ≡ old.joined) ⊎ (now.joined ≡ greater_mark o old.durable)
    → now.durable ≡ greater_mark o old.durable → ArePassed first written bs old → ArePassed first written bs now
passed_joins first written bs o old now its how is are =
    let greatest : IsPassed first written bs (greater_mark o old.durable) =
    greater_has (IsPassed first written bs) o old.durable are.durable its in
    record {
      joined = elim how [
        | inl same ↦ subst (IsPassed first written bs) (sym same) are.joined
        | inr joins ↦ subst (IsPassed first written bs) (sym joins) greatest
      ];
      durable = subst (IsPassed first written bs) (sym is) greatest;
    }
