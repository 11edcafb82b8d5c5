-- The record has the sum that a record of its kind has.
use Rattle.std.proofs.Common.{◌≡◌, ◌∙◌, ◌+◌, ◌-◌, ◌≤◌, ℕ, List, [], ◌∷◌, ◌++◌, length, ap, arith, sym, subst, max, drop}
use Rattle.sled_codec.specs.Kinds.{code_of}
use Rattle.sled_codec.specs.Places.{part}
use Rattle.sled_codec.specs.Written.{written}
use Rattle.sled_core.specs.declared.iobuf.Reserved.{Reserved}
use Rattle.std.specs.List.{All}
use Rattle.sled_core.specs.inside.Buffers.{IsChain, IsHeaded, ending, ending_as}
use Rattle.sled_core.specs.Buffers.{body_in}
use Rattle.sled_core.proofs.Reserve.CompletesLemmas.{summed_around}
use Rattle.sled_core.proofs.Reserve.Parts.{get_there}
use Rattle.sled_core.proofs.Reserve.Ranges.{at_there, written-over}
use Rattle.sled_core.proofs.iobuf.IoBuf.end_as.Goals as goal

-- The buffer has as many bytes.
pub invariant_of-self : goal.invariant_of-self
invariant_of-self g c =
    let old = c.args.self.now in
    let len : length c.sum_around-sum.new.self.items ≡ length old.bytes.items = ap length c.sum_around-sum.ensures.bytes ∙ c.put.ensures.len in
    let room : c.sum_around-sum.new.self.room ≡ old.bytes.room = c.sum_around-sum.ensures.room ∙ c.put.ensures.room in
    let begun = old.begun in
    let behind = old.behind in
    let numbered = old.numbered in
    record {
      begun = omega (arith, begun, len);
      behind = omega (arith, behind, len);
      within = subst (λ n. All (λ (r : Reserved). r.from + r.len ≤ n) old.reserved.items) (sym len) old.within;
      headed = old.headed;
      numbered = omega (arith, numbered, len);
      head = old.head;
      are = old.are;
      begins = old.begins;
      before = old.before;
      parted = old.parted;
      chain = subst (IsChain (max 20 old.begin) (drop old.first old.reserved.items)) (sym len) old.chain;
      counted = old.counted;
      few = old.few;
      laid = record {
        small = (let small = old.laid.small in omega (arith, small, len));
        roomy = λ more. (let roomy = old.laid.roomy (omega (arith, more, room)) in omega (arith, roomy, room, len));
        there = λ some. (let is = old.laid.there some in omega (arith, is, room));
      };
    }

pub returns : goal.returns
returns g c =
    let done = c.end.ensures in
    record {
      bytes = λ r there.
          let old : List ℕ = c.args.self.now.bytes.items in
          let rs : List Reserved = c.args.self.now.reserved.items in
          let its : Reserved = c.index-r.result.now in
          let code : ℕ = code_of c.args.kind in
          let same : its ≡ r = c.index-r.ensures ∙ get_there rs c.args.index r its there in
          let headed = (at_there IsHeaded rs c.args.index r there c.args.self.now.headed).1 (c.requires.awaited r there) in
          let within = at_there (λ x. x.from + x.len ≤ length old) rs c.args.index r there c.args.self.now.within in
          let marked : List ℕ = written old (r.from + 4) (code ∷ []) in
          let text : c.put.new.self.items ≡ marked =
          c.put.ensures.bytes ∙ ap (λ b. written old (its.from + 4) (b ∷ [])) c.from.ensures ∙ ap (λ (x : Reserved). written old (x.from + 4) (code ∷ [])) same in
          let word : c.sum_around-sum.result ≡ g.C.Checksum.sum_of (body_in old r ++ code ∷ part old (r.from + 5) (r.header_len - 5)) =
          c.sum_around-sum.ensures.sum
          ∙ ap (λ (x : Reserved). g.C.Checksum.sum_of (part c.put.new.self.items (x.from + x.header_len) (x.len - x.header_len) ++ part c.put.new.self.items (x.from + 4) (x.header_len - 4))) same
          ∙ ap (λ (l : List ℕ). g.C.Checksum.sum_of (part l (r.from + r.header_len) (r.len - r.header_len) ++ part l (r.from + 4) (r.header_len - 4))) text
          ∙ ap g.C.Checksum.sum_of (summed_around old r code headed.0 headed.1 within) in
          done.bytes r there
          ∙ ap (λ (l : List ℕ). written l r.from (ending c.sum_around-sum.result c.args.kind)) (c.sum_around-sum.ensures.bytes ∙ text)
          ∙ ap (λ w. written marked r.from (ending w c.args.kind)) word
          ∙ written-over old (code ∷ []) (ending_as g.C.Checksum.sum_of old r c.args.kind) (r.from + 4) r.from (omega arith) (omega arith) (omega (arith, headed.0, headed.1, within));
      reserved = done.reserved;
      sealed = done.sealed;
      from = done.from;
      gone = done.gone;
      filled = done.filled;
      room = done.room ∙ c.sum_around-sum.ensures.room ∙ c.put.ensures.room;
      long = done.long ∙ ap length c.sum_around-sum.ensures.bytes ∙ c.put.ensures.len;
    }
