-- The buffer that is sealed begins where the ones before it end, and has the reservations behind theirs.
use Rattle.std.proofs.Common.{◌≡◌, ◌∙◌, ap, sym, refl, rules, arith, subst, ◌+◌, ◌%◌, ◌^◌, ℕ, List, [], ◌∷◌, ◌++◌, max, length, drop, length-drop}
use Rattle.std.proofs.lemmas.List.{drop_all}
use Rattle.sled_store.specs.Words.{salt_of, writers_of}
use Rattle.sled_core.specs.declared.iobuf.Reserved.{Reserved}
use Rattle.sled_core.specs.declared.iobuf.Sealed.{Sealed}
use Rattle.sled_core.specs.inside.Buffers.{IsChain}
use Rattle.sled_core.specs.Buffers.{open_in}
use Rattle.sled_core.specs.inside.SealedBuffers.{AreSealed, FirstUnwritten}
use Rattle.sled_core.specs.SealedBuffers.{seal_at, sealed_count, sealed_end}
use Rattle.sled_core.proofs.Sealed.Appended.{count_one, end_one, first_one, seal_are, seal_kept}
use Rattle.sled_core.proofs.iobuf.IoBuf.push_sealed.Goals as goal

-- the word of the next buffer counts no writers
next_word : (word next : ℕ) → next ≡ (salt_of word + 2 ^ 33) % 2 ^ 64 → writers_of next ≡ 0
next_word word next is = omega (arith, is)

pub invariant_of-self : goal.invariant_of-self
invariant_of-self c =
    let rs : List Reserved = c.args.self.now.reserved.items in
    let bs : List Sealed = c.args.self.now.sealed.items in
    let first : ℕ = c.args.self.now.first in
    let n : ℕ = length c.args.self.now.bytes.items in
    let one : Sealed = seal_at n (drop first rs) in
    let end : c.len.result ≡ n = search rules in
    let count : c.len-2.result ≡ length rs = search rules in
    let new : c.push_back_reserved.new.self.items ≡ bs ++ one ∷ [] =
    c.push_back_reserved.ensures.items ∙ (λ i. c.args.self.now.sealed.items ++ seal_kept rs first c.len.result c.len-2.result c.n_writers.result n end count (c.n_writers.ensures ∙ c.args.self.now.counted) i ∷ []) in
    let at : c.len-self.result ≡ n = search rules in
    let all : c.len-self-2.result ≡ length rs = search rules in
    let none : drop c.len-self-2.result rs ≡ [] = drop_all c.len-self-2.result rs (omega (arith, all)) in
    let begins = c.args.self.now.begins in
    let before = c.args.self.now.before in
    let within = c.args.self.now.parted in
    record {
      begun = c.args.self.now.begun;
      behind = omega (arith, at);
      within = c.args.self.now.within;
      headed = c.args.self.now.headed;
      numbered = c.args.self.now.numbered;
      head = subst (λ (l : List Sealed). FirstUnwritten l) (sym new) (first_one bs one refl c.args.self.now.head);
      are = subst (λ (l : List Sealed). AreSealed c.args.self.now.written_len rs l) (sym new)
          (seal_are c.args.self.now.written_len rs bs c.args.self.now.begin first n c.args.self.now.are begins before (let some = c.requires.some in omega (arith, some, begins)) c.args.self.now.chain);
      begins = at ∙ sym (ap (sealed_end c.args.self.now.written_len) new ∙ end_one c.args.self.now.written_len bs one);
      before = (let counts = ap sealed_count new ∙ count_one bs one in omega (arith, all, counts, before, within, length-drop first rs));
      parted = omega (arith, all);
      chain = subst (λ (l : List Reserved). IsChain (max 20 c.len-self.result) l n) (sym none) (let begun = c.args.self.now.begun in omega (arith, at, begun));
      counted = next_word c.args.self.now.word c.bump_salt-self.result c.bump_salt-self.ensures ∙ sym (ap open_in none);
      laid = record { small = c.args.self.now.laid.small; roomy = c.args.self.now.laid.roomy; there = λ some. c.requires.there };
      few = let none = next_word c.args.self.now.word c.bump_salt-self.result c.bump_salt-self.ensures in omega (arith, none);
    }

pub returns-clause-sealed : goal.returns-clause-sealed
returns-clause-sealed c = λ site.
    let old = c.args.self.now in
    let rs : List Reserved = old.reserved.items in
    let n : ℕ = length old.bytes.items in
    let end : c.len.result ≡ n = search rules in
    let count : c.len-2.result ≡ length rs = search rules in
    let sealed : c.push_back_reserved.new.self.items ≡ old.sealed.items ++ seal_at n (drop (sealed_count old.sealed.items) rs) ∷ [] =
    c.push_back_reserved.ensures.items
    ∙ (λ i. old.sealed.items ++ seal_kept rs old.first c.len.result c.len-2.result c.n_writers.result n end count (c.n_writers.ensures ∙ old.counted) i ∷ [])
    ∙ ap (λ k. old.sealed.items ++ seal_at n (drop k rs) ∷ []) old.before in
    λ i. record { parts = record { site = site; bytes = old.bytes.items; written_len = old.written_len; filled = old.filled; sealed = sealed i; reserved = rs }; gone = old.gone }
