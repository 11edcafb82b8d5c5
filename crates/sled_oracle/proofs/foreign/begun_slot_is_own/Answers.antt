-- The header is the log's own, and the walk tells the rest.
use Rattle.std.proofs.Common.{◌≡◌, ◌↔◌, ◌/◌, ◌∙◌, ℕ, pos, IsTrue, List, take, sym, ap, subst}
use Rattle.std.specs.Int.{w64}
use Rattle.std.specs.Result.{IfOk}
use Rattle.std.proofs.lemmas.Int.{to_z-of_z}
use Rattle.std.proofs.lemmas.List.{take_min}
use Rattle.sled_oracle.specs.OwnParts.{AreOwnFrom, IsOwnBegun, past_of, placed_of}
use Rattle.sled_oracle.proofs.Walks.AnswerLemmas.{told_as}
use Rattle.sled_oracle.proofs.Walks.SlotLemmas.{own_by_records, records_own}
use Rattle.sled_oracle.proofs.foreign.begun_slot_is_own.Goals as goal

pub returns-in-Some-clause-own : goal.returns-in-Some-clause-own
returns-in-Some-clause-own g c =
    let rest : List ℕ = c.args.rest.now in
    let lsn = c.in-Some.lsn in
    let is : c.args.place ≡ pos lsn = sym (to_z-of_z w64 c.args.place c.ranges.place) ∙ c.in-Some.ensures.some in
    let header = c.header_is_own.ensures.0 c.if-not-header_is_own.false in
    let slot : take c.min.result rest ≡ take c.args.size rest = ap (λ n. take n rest) c.min.ensures ∙ take_min c.args.size rest in
    told_as (AreOwnFrom g.C.Checksum.sum_of c.args.size (past_of c.args.past.now) (placed_of c.args.past.now) (lsn / c.args.size) c.args.begin (take c.args.size rest) 20) (IsOwnBegun g.C.Checksum.sum_of c.args.size (past_of c.args.past.now) (placed_of c.args.past.now) c.args.begin rest c.args.place) c.records_are_own.result
    (own_by_records g.C.Checksum.sum_of c.args.size (past_of c.args.past.now) (placed_of c.args.past.now) c.args.begin rest c.args.place lsn is header)
    (records_own g.C.Checksum.sum_of c.args.size (past_of c.args.past.now) (placed_of c.args.past.now) c.args.begin rest c.args.place lsn is header)
    (subst (λ (l : List ℕ). IfOk c.records_are_own.result (λ b. IsTrue b ↔ AreOwnFrom g.C.Checksum.sum_of c.args.size (past_of c.args.past.now) (placed_of c.args.past.now) (lsn / c.args.size) c.args.begin l 20)) slot c.records_are_own.ensures.own)
