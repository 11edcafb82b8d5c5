-- The new reservation is counted.
use Rattle.std.proofs.Common.{rules, refl, sym, ap, arith, ◌∙◌, ◌≡◌, ◌+◌, ◌≤◌, ◌++◌, ◌∷◌, length, max, drop, List, [], ℕ, subst, length-append, take, append_assoc}
use Rattle.std.specs.List.{All}
use Rattle.std.proofs.lemmas.List.{drop-append-le}
use Rattle.sled_store.specs.Words.{Fields}
use Rattle.sled_core.specs.declared.iobuf.Reserved.{Reserved}
use Rattle.sled_core.specs.inside.Buffers.{IsChain, IsHeaded, placeholder_head, reserved_for}
use Rattle.sled_core.specs.Buffers.{open_in}
use Rattle.sled_core.specs.inside.SealedBuffers.{AreSealed}
use Rattle.sled_core.proofs.Reserve.OpenCounts.{open_more}
use Rattle.sled_core.proofs.Reserve.Ranges.{all_joined, chain-append}
use Rattle.sled_core.proofs.Sealed.Ended.{sealed_more}
use Rattle.sled_core.proofs.iobuf.IoBuf.append.Given as given
use Rattle.sled_core.proofs.iobuf.IoBuf.append.Goals as goal

-- how long the bytes are then
long : (g : given.Over) (c : goal.After-incr_writers-self g) → length c.push_placeholder-sum.new.self.items ≡ c.len-from.result + c.args.head.now.len + c.args.item_len
long g c =
    let from = c.len-from.ensures.is in
    let all = c.push_placeholder-sum.ensures.len in
    omega (arith, from, all)

pub invariant_of-self : goal.invariant_of-self
invariant_of-self g c =
    let old : List Reserved = c.args.self.now.reserved.items in
    let first : ℕ = c.args.self.now.first in
    let bytes : List ℕ = c.push_placeholder-sum.new.self.items in
    let from = c.len-from.ensures.is in
    let len = long g c in
    let five = c.args.head.now.long in
    let new = c.push_back_reserved.ensures.items in
    let apart : drop first c.push_back_reserved.new.self.items ≡ drop first old ++ _ ∷ [] = ap (drop first) new ∙ drop-append-le first old _ c.args.self.now.parted in
    record {
      begun = search rules;
      behind = (let le = c.args.self.now.behind in omega (arith, le, from, len));
      within = subst (λ (rs : List Reserved). All (λ r. r.from + r.len ≤ length bytes) rs) (sym new)
          (all_joined (λ (r : Reserved). r.from + r.len ≤ length bytes) old [] _ (λ i d lt. let le = c.args.self.now.within i d lt in omega (arith, le, from, len)) (omega (arith, len)) (λ i d lt. absurd (omega (arith, lt))));
      headed = subst (λ (rs : List Reserved). All IsHeaded rs) (sym new)
          (all_joined IsHeaded old [] _ c.args.self.now.headed (omega (arith, five), (λ is. (five, omega arith)), λ is. (let eight = c.requires.body is in omega (arith, eight))) (λ i d lt. absurd (omega (arith, lt))));
      numbered = (let le = c.args.self.now.numbered in let count = ap length new ∙ length-append old (_ ∷ []) in omega (arith, le, count, len, from, five));
      head = c.args.self.now.head;
      are = subst (λ (rs : List Reserved). AreSealed c.args.self.now.written_len rs c.args.self.now.sealed.items) (sym new) (sealed_more c.args.self.now.written_len old c.args.self.now.sealed.items (_ ∷ []) c.args.self.now.are);
      begins = c.args.self.now.begins;
      before = c.args.self.now.before;
      parted = (let le = c.args.self.now.parted in let count = ap length new ∙ length-append old (_ ∷ []) in omega (arith, le, count));
      chain = subst (λ n. IsChain (max 20 c.args.self.now.begin) (drop first c.push_back_reserved.new.self.items) n) (let at : length c.args.self.now.bytes.items + (c.args.head.now.len + c.args.item_len) ≡ length bytes = omega (arith, len, from) in at)
          (subst (λ (rs : List Reserved). IsChain (max 20 c.args.self.now.begin) rs (length c.args.self.now.bytes.items + (c.args.head.now.len + c.args.item_len))) (sym apart)
          (chain-append (max 20 c.args.self.now.begin) (length c.args.self.now.bytes.items) (drop first old) _ c.args.self.now.chain from));
      counted = ap (λ (f : Fields). f.writers) c.incr_writers-self.ensures ∙ ap (λ n. n + 1) c.args.self.now.counted ∙ sym (ap open_in apart ∙ open_more (drop first old) _ refl);
      laid = record {
        small = c.push_placeholder-sum.ensures.small;
        roomy = λ some. (
            let room = c.requires.room in
            let grows = c.push_placeholder-sum.ensures.grows in
            let all = c.push_placeholder-sum.ensures.len in
            omega (arith, room, grows, all));
        there = λ some. (let room = c.requires.room in let grows = c.push_placeholder-sum.ensures.grows in omega (arith, room, grows));
      };
      few = (let one = ap (λ (f : Fields). f.writers) c.incr_writers-self.ensures in let less = c.requires.few in let count = c.args.self.now.counted in let same = c.args.self.now.before in let is = ap (λ n. open_in (drop n old)) same in omega (arith, one, less, count, is));
    }

pub returns-clause-laid : goal.returns-clause-laid
returns-clause-laid g c = λ site.
    let old = c.args.self.now in
    let head : List ℕ = placeholder_head (take c.args.head.now.len c.args.head.now.bytes) in
    let item : List ℕ = g.T.Serialize.short (g.T.Serialize.meaning c.args.item.now) in
    let bytes : c.push_placeholder-sum.new.self.items ≡ (old.bytes.items ++ head) ++ item = search rules in
    let reserved : c.push_back_reserved.new.self.items ≡ old.reserved.items ++ reserved_for c.args.message.now (length old.bytes.items) c.args.head.now.len c.args.item_len (g.C.Checksum.sum_of (item ++ drop 4 (take c.args.head.now.len c.args.head.now.bytes))) ∷ [] = search rules in
    λ i. record { parts = record { site = site; bytes = (bytes ∙ append_assoc old.bytes.items head item) i; written_len = old.written_len; filled = old.filled; sealed = old.sealed.items; reserved = reserved i }; gone = old.gone }
