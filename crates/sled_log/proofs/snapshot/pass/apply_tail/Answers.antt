use Rattle.std.proofs.Common.{◌≡◌, ◌∙◌, ◌++◌, ℕ, List, [], map, take, None, ap, sym, subst, arith}
use Rattle.std.proofs.lemmas.List.{take_all}
use Rattle.sled_log.specs.declared.snapshot.pass.Pass.{Pass}
use Rattle.sled_log.specs.Recovery.{Scanned, open_at}
use Rattle.sled_log.specs.Passes.{GoesOnBehind, HasMade, IsPass, pass_of, up_to_open}
use Rattle.sled_log.proofs.Passes.Replays.{both_closed, tail_closed, tail_ends, tail_more, up_to_all}
use Rattle.sled_log.proofs.Replay.PassedLemmas.{no_value}
use Rattle.sled_log.proofs.snapshot.pass.apply_tail.Goals as goal

pub returns-then-is_open-clause-made : goal.returns-then-is_open-clause-made
returns-then-is_open-clause-made c = λ first passes goes made.
    let end : ℕ = c.args.end in
    let i : ℕ = c.loop-pass.pass-index in
    let p : Pass = c.pass-item.result in
    let before : List Scanned = map pass_of (take i c.args.tail.now) in
    let closed = subst (λ b. GoesOnBehind end b passes) c.if-replay.false goes in
    let both = both_closed end passes before closed c.loop-pass.invariant.closed in
    let opened = sym (rw c.deref.ensures.value at c.is_open.ensures) ∙ c.if-is_open.true in
    subst (λ (l : List Scanned). HasMade end first l c.apply_pass.new.replay) (sym (tail_ends end passes c.args.tail.now i p c.loop-pass-test.true c.pass-item.is both opened))
    (c.in_ok-apply_pass.ensures.made first (passes ++ before) both (c.loop-pass.invariant.made first passes closed made))

pub returns-then-is_open-clause-stop : goal.returns-then-is_open-clause-stop
returns-then-is_open-clause-stop c = λ size fits was.
    let i : ℕ = c.loop-pass.pass-index in
    let p : Pass = c.pass-item.result in
    c.in_ok-apply_pass.ensures.stop size (subst (IsPass size) (sym c.pass-item.is) (fits i p c.loop-pass-test.true)) (c.loop-pass.invariant.stop size fits was)

pub loop-pass-preserved : goal.loop-pass-preserved
loop-pass-preserved c =
    let end : ℕ = c.args.end in
    let i : ℕ = c.loop-pass.pass-index in
    let p : Pass = c.pass-item.result in
    let before : List Scanned = map pass_of (take i c.args.tail.now) in
    let none : open_at end p.scan.met.items ≡ None = no_value (open_at end p.scan.met.items) (sym (rw c.deref.ensures.value at c.is_open.ensures) ∙ c.if-is_open.false) in
    record {
      made = λ first passes closed made.
          subst (λ (l : List Scanned). HasMade end first l c.apply_pass.new.replay) (sym (tail_more end passes c.args.tail.now i p c.loop-pass-test.true c.pass-item.is))
          (c.in_ok-apply_pass.ensures.made first (passes ++ before) (both_closed end passes before closed c.loop-pass.invariant.closed) (c.loop-pass.invariant.made first passes closed made));
      closed = tail_closed end [] c.args.tail.now i p c.loop-pass-test.true c.pass-item.is c.loop-pass.invariant.closed none;
      stop = λ size fits was. c.in_ok-apply_pass.ensures.stop size (subst (IsPass size) (sym c.pass-item.is) (fits i p c.loop-pass-test.true)) (c.loop-pass.invariant.stop size fits was);
      count = omega (arith, c.apply_pass.ensures.count, c.loop-pass.invariant.count);
      goes_on = c.loop-pass.invariant.goes_on;
    }

pub returns-clause-made : goal.returns-clause-made
returns-clause-made c = λ first passes goes made.
    let end : ℕ = c.args.end in
    let i : ℕ = c.loop-pass.pass-index in
    let qs : List Pass = c.args.tail.now in
    let before : List Scanned = map pass_of (take i qs) in
    let closed = subst (λ b. GoesOnBehind end b passes) c.if-replay.false goes in
    let all = take_all i qs c.loop-pass-test.false in
    let is : up_to_open end (passes ++ map pass_of qs) ≡ passes ++ before =
    ap (λ (l : List Pass). up_to_open end (passes ++ map pass_of l)) (sym all) ∙ up_to_all end (passes ++ before) (both_closed end passes before closed c.loop-pass.invariant.closed) in
    subst (λ (l : List Scanned). HasMade end first l c.loop-pass.replay) (sym is) (c.loop-pass.invariant.made first passes closed made)
