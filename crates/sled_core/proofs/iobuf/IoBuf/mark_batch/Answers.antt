-- The record has the peg as its body, and the sum of both.
use Rattle.std.proofs.Common.{◌≡◌, ◌∙◌, ◌+◌, ◌≤◌, ℕ, List, length, sym, subst, max, drop, arith}
use Rattle.sled_codec.specs.Written.{written}
use Rattle.sled_codec.specs.Spelling.{low_bytes}
use Rattle.sled_core.specs.declared.iobuf.Reserved.{Reserved}
use Rattle.std.specs.List.{All}
use Rattle.sled_core.specs.inside.Buffers.{IsChain, IsHeaded, ending_as}
use Rattle.sled_core.proofs.Reserve.MarksLemmas.{marks}
use Rattle.sled_core.proofs.Reserve.Parts.{get_there}
use Rattle.sled_core.proofs.Reserve.Ranges.{at_there}
use Rattle.sled_core.proofs.iobuf.IoBuf.mark_batch.Goals as goal

-- The buffer has as many bytes.
pub invariant_of-self : goal.invariant_of-self
invariant_of-self g c =
    let old = c.args.self.now in
    let len : length c.put.new.self.items ≡ length old.bytes.items = c.put.ensures.len in
    let room : c.put.new.self.room ≡ old.bytes.room = c.put.ensures.room in
    let begun = old.begun in
    let behind = old.behind in
    let numbered = old.numbered in
    record {
      begun = omega (arith, begun, len);
      behind = omega (arith, behind, len);
      within = subst (λ n. All (λ (r : Reserved). r.from + r.len ≤ n) old.reserved.items) (sym len) old.within;
      headed = old.headed;
      numbered = omega (arith, numbered, len);
      head = old.head;
      are = old.are;
      begins = old.begins;
      before = old.before;
      parted = old.parted;
      chain = subst (IsChain (max 20 old.begin) (drop old.first old.reserved.items)) (sym len) old.chain;
      counted = old.counted;
      few = old.few;
      laid = record {
        small = (let small = old.laid.small in omega (arith, small, len));
        roomy = λ more. (let roomy = old.laid.roomy (omega (arith, more, room)) in omega (arith, roomy, room, len));
        there = λ some. (let is = old.laid.there some in omega (arith, is, room));
      };
    }

pub returns : goal.returns
returns g c =
    let done = c.end_as.ensures in
    record {
      bytes = λ r there.
          let old : List ℕ = c.args.self.now.bytes.items in
          let rs : List Reserved = c.args.self.now.reserved.items in
          let its : Reserved = c.index-r.result.now in
          let low : List ℕ = low_bytes 8 c.args.peg in
          let same : its ≡ r = c.index-r.ensures ∙ get_there rs c.args.index r its there in
          let headed = (at_there IsHeaded rs c.args.index r there c.args.self.now.headed).1 (c.requires.awaited r there) in
          let within = at_there (λ x. x.from + x.len ≤ length old) rs c.args.index r there c.args.self.now.within in
          let peg : c.to_le_bytes.result ≡ low = c.to_le_bytes.ensures in
          let text : c.put.new.self.items ≡ written old (r.from + r.header_len) low =
          c.put.ensures.bytes ∙ (λ i. written old ((same i).from + (same i).header_len) (peg i)) in
          done.bytes r there
          ∙ (λ i. written (text i) r.from (ending_as g.C.Checksum.sum_of (text i) r (same i).kind))
          ∙ marks g.C.Checksum.sum_of old r c.args.peg headed.0 (c.requires.body r there) within;
      reserved = done.reserved;
      sealed = done.sealed;
      from = done.from;
      gone = done.gone;
      filled = done.filled;
      room = done.room ∙ c.put.ensures.room;
      long = done.long ∙ c.put.ensures.len;
    }
