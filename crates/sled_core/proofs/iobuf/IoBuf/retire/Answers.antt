-- The bytes that were given away are seen as they were, and nothing of the segment needs them.
use Rattle.std.proofs.Common.{◌≡◌, ◌+◌, ◌≤◌, length, ap, sym, subst, max, drop, arith}
use Rattle.std.specs.List.{All}
use Rattle.sled_core.specs.declared.iobuf.Reserved.{Reserved}
use Rattle.sled_core.specs.inside.Buffers.{IsChain}
use Rattle.sled_core.proofs.Sealed.Spent.{spent}
use Rattle.sled_core.proofs.iobuf.IoBuf.retire.Goals as goal

pub invariant_of-self : goal.invariant_of-self
invariant_of-self c =
    let old = c.args.self.now in
    let len : length c.give_away.new.self.items ≡ length old.bytes.items = ap length c.give_away.ensures.items in
    let none = c.give_away.ensures.none in
    let begun = old.begun in
    let behind = old.behind in
    let numbered = old.numbered in
    let all : length old.bytes.items ≤ old.written_len = (let short = c.requires.short in let whole = c.if-self-size.true in omega (arith, short, whole)) in
    record {
      begun = omega (arith, begun, len);
      behind = omega (arith, behind, len);
      within = subst (λ n. All (λ (r : Reserved). r.from + r.len ≤ n) old.reserved.items) (sym len) old.within;
      headed = old.headed;
      numbered = omega (arith, numbered, len);
      head = old.head;
      are = old.are;
      begins = old.begins;
      before = old.before;
      parted = old.parted;
      chain = subst (IsChain (max 20 old.begin) (drop old.first old.reserved.items)) (sym len) old.chain;
      counted = old.counted;
      few = old.few;
      laid = record {
        small = (let small = old.laid.small in omega (arith, small, len));
        roomy = λ some. absurd (omega (arith, some, none));
        there = λ some. absurd (let nothing = spent old all in omega (arith, some, nothing));
      };
    }
