-- Each record that a reader reads is tried once.
use Rattle.std.proofs.Common.{◌≡◌, ◌+◌, ◌-◌, ℕ, List, length, take, drop, sym, ap, subst, arith, rules}
use Rattle.sled_codec.specs.Places.{part}
use Rattle.sled_store.specs.Readers.{at_start}
use Rattle.sled_oracle.specs.OwnParts.{IsCap, IsOwnRecord, past_of, placed_of}
use Rattle.sled_store.proofs.Own.ReachedLemmas.{record_some}
use Rattle.sled_oracle.proofs.Walks.ReadWalk.{own_further, own_nowhere, own_to_cap, reads_behind}
use Rattle.sled_oracle.proofs.foreign.records_are_own.Goals as goal

pub loop-len-init : goal.loop-len-init
loop-len-init g c = record { came = at_start; so_far = λ all. all }

pub is_cap-requires : goal.is_cap-requires
is_cap-requires g c =
    let found = rw c.in-Some.is at c.in_ok-len.ensures.found in
    let b = found.0 in
    let slot : List ℕ = c.args.slot.now in
    let at = c.loop-len.at in
    let len = c.in-Some.len in
    let some = record_some g.C.Checksum.sum_of (part slot at len) b.kind b.page c.args.number.0 b.body b.is in
    let same : take (at + len - at) (drop at slot) ≡ part slot at len = ap (λ k. take k (drop at slot)) (omega arith) in
    omega (arith, some, ap (length {A = ℕ}) same)

pub loop-len-preserved : goal.loop-len-preserved
loop-len-preserved g c =
    let found = rw c.in-Some.is at c.in_ok-len.ensures.found in
    let slot : List ℕ = c.args.slot.now in
    let at = c.loop-len.at in
    let len = c.in-Some.len in
    let same : take (at + len - at) (drop at slot) ≡ part slot at len = ap (λ k. take k (drop at slot)) (omega arith) in
    let own = subst (λ (l : List ℕ). IsOwnRecord g.C.Checksum.sum_of c.args.size (past_of c.args.past.now) (placed_of c.args.past.now) c.args.number.0 (c.args.begin + at) l) same (c.in_ok-own.ensures.own.0 c.if-not-own.false) in
    let plain : IsCap (part slot at len) → ⊥ = λ cap.
    let told = c.is_cap.ensures.1 (subst (λ (l : List ℕ). IsCap l) (sym same) cap) in
    let other = c.if-is_cap.false in
    cc in
    record {
      came = reads_behind g.C.Checksum.sum_of c.args.size c.args.number.0 slot 20 at len c.loop-len.invariant.came found.1 found.0 plain;
      so_far = λ rest. c.loop-len.invariant.so_far (own_further g.C.Checksum.sum_of c.args.size c.args.number.0 slot (past_of c.args.past.now) (placed_of c.args.past.now) c.args.begin at len found.0 found.1 own plain rest);
    }

pub returns-then-not-own-clause-own : goal.returns-then-not-own-clause-own
returns-then-not-own-clause-own g c =
    let found = rw c.in-Some.is at c.in_ok-len.ensures.found in
    let b = found.0 in
    let slot : List ℕ = c.args.slot.now in
    let at = c.loop-len.at in
    let len = c.in-Some.len in
    let same : take (at + len - at) (drop at slot) ≡ part slot at len = ap (λ k. take k (drop at slot)) (omega arith) in (
      λ t. cc,
      λ all.
          let own = all at len (record { comes = c.loop-len.invariant.came; room = found.1; inside = b.inside; kind = b.kind; page = b.page; body = b.body; is = b.is }) in
          let told = c.in_ok-own.ensures.own.1 (subst (λ (l : List ℕ). IsOwnRecord g.C.Checksum.sum_of c.args.size (past_of c.args.past.now) (placed_of c.args.past.now) c.args.number.0 (c.args.begin + at) l) (sym same) own) in
          let other = c.if-not-own.true in
          cc,
    )

pub returns-then-is_cap-clause-own : goal.returns-then-is_cap-clause-own
returns-then-is_cap-clause-own g c =
    let found = rw c.in-Some.is at c.in_ok-len.ensures.found in
    let slot : List ℕ = c.args.slot.now in
    let at = c.loop-len.at in
    let len = c.in-Some.len in
    let same : take (at + len - at) (drop at slot) ≡ part slot at len = ap (λ k. take k (drop at slot)) (omega arith) in
    let own = subst (λ (l : List ℕ). IsOwnRecord g.C.Checksum.sum_of c.args.size (past_of c.args.past.now) (placed_of c.args.past.now) c.args.number.0 (c.args.begin + at) l) same (c.in_ok-own.ensures.own.0 c.if-not-own.false) in
    let cap = subst (λ (l : List ℕ). IsCap l) same (c.is_cap.ensures.0 c.if-is_cap.true) in (
      λ t. c.loop-len.invariant.so_far (own_to_cap g.C.Checksum.sum_of c.args.size c.args.number.0 slot (past_of c.args.past.now) (placed_of c.args.past.now) c.args.begin at len found.0 own cap),
      λ all. search rules,
    )

pub returns-clause-own : goal.returns-clause-own
returns-clause-own g c =
    let none = rw c.in_default.is at c.in_ok-len.ensures.found in
    (λ t. c.loop-len.invariant.so_far (own_nowhere g.C.Checksum.sum_of c.args.size c.args.number.0 c.args.slot.now (past_of c.args.past.now) (placed_of c.args.past.now) c.args.begin c.loop-len.at none), λ all. search rules)
