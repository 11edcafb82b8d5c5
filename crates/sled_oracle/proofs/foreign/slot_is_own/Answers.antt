-- A slot without a header is the log's own, and one with a header is by that.
use Rattle.std.proofs.Common.{◌↔◌, ◌-◌, ◌*◌, ℕ, ℤ, IsTrue, List, length, take, drop, sym, subst, rules}
use Rattle.std.specs.Int.{w64}
use Rattle.std.specs.Result.{IfOk}
use Rattle.std.proofs.lemmas.Int.{to_z-of_z}
use Rattle.std.proofs.lemmas.List.{take_rest}
use Rattle.sled_codec.specs.Record.{IsHeader}
use Rattle.sled_oracle.specs.OwnParts.{IsOwnSlot, IsOwnBegun, past_of, placed_of}
use Rattle.sled_oracle.proofs.Walks.AnswerLemmas.{told_as}
use Rattle.sled_oracle.proofs.Walks.SlotLemmas.{own_unbegun, own_begun, begun_own}
use Rattle.sled_oracle.proofs.foreign.slot_is_own.Goals as goal

pub returns-in-Some-clause-own : goal.returns-in-Some-clause-own
returns-in-Some-clause-own g c =
    let log : List ℕ = c.args.log.now in
    let begin : ℕ = c.args.slot * c.args.size in
    let rest : List ℕ = take (length log - begin) (drop begin log) in
    let h = c.in-Some.header in
    told_as (IsOwnBegun g.C.Checksum.sum_of c.args.size (past_of c.args.past.now) (placed_of c.args.past.now) begin rest h.lsn) (IsOwnSlot g.C.Checksum.sum_of c.args.size (past_of c.args.past.now) (placed_of c.args.past.now) log c.args.slot) c.begun_slot_is_own.result
    (own_begun g.C.Checksum.sum_of c.args.size (past_of c.args.past.now) (placed_of c.args.past.now) log c.args.slot rest (take_rest log begin) h.lsn h.max_stable_lsn c.in-Some.ensures)
    (begun_own g.C.Checksum.sum_of c.args.size (past_of c.args.past.now) (placed_of c.args.past.now) log c.args.slot rest (take_rest log begin) h.lsn h.max_stable_lsn c.in-Some.ensures)
    (subst (λ (z : ℤ). IfOk c.begun_slot_is_own.result (λ b. IsTrue b ↔ IsOwnBegun g.C.Checksum.sum_of c.args.size (past_of c.args.past.now) (placed_of c.args.past.now) begin rest z)) (to_z-of_z w64 h.lsn c.in-Some.ensures.place_fits) c.begun_slot_is_own.ensures.own)

pub returns-in-None-clause-own : goal.returns-in-None-clause-own
returns-in-None-clause-own g c =
    let log : List ℕ = c.args.log.now in
    let begin : ℕ = c.args.slot * c.args.size in (
      λ t. own_unbegun g.C.Checksum.sum_of c.args.size (past_of c.args.past.now) (placed_of c.args.past.now) log c.args.slot
          (λ lsn mark is. c.in-None.ensures lsn mark (subst (λ (l : List ℕ). IsHeader g.C.Checksum.sum_of (take 20 l) lsn mark) (sym (take_rest log begin)) is)),
      λ own. search rules,
    )
