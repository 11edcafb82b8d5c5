-- The entry of what fills the segment lies behind the others, at the end of the bytes, and isn't open.
use Rattle.std.proofs.Common.{false, true, rules, refl, sym, ap, arith, ◌∙◌, ◌≡◌, ◌+◌, ◌-◌, ◌≤◌, ◌<◌, ◌++◌, ◌∷◌, length, max, drop, List, [], ℕ, subst, length-append}
use Rattle.std.specs.List.{All}
use Rattle.std.proofs.lemmas.List.{drop-append-le}
use Rattle.sled_core.specs.declared.iobuf.Reserved.{Reserved}
use Rattle.sled_core.specs.declared.iobuf.ReservationState.TheVariants.{Open, Padding}
use Rattle.sled_core.specs.declared.iobuf.SegmentPosition.{SegmentPosition}
use Rattle.sled_core.specs.Begun.{view_at}
use Rattle.sled_core.specs.Waiting.{filled_now, sealed_now}
use Rattle.sled_core.specs.inside.Buffers.{IsChain, IsHeaded}
use Rattle.sled_core.specs.Buffers.{open_in, padding_at}
use Rattle.sled_core.specs.inside.SealedBuffers.{AreSealed}
use Rattle.sled_core.proofs.Reserve.OpenCounts.{open_same}
use Rattle.sled_core.proofs.Reserve.Ranges.{all_joined, chain-append}
use Rattle.sled_core.proofs.Sealed.Ended.{sealed_more}
use Rattle.sled_core.proofs.iobuf.IoBuf.close.Goals.{then-from-size, else-from-size}
use Rattle.sled_core.proofs.iobuf.IoBuf.close.Goals as goal

pub invariant_of-self : goal.invariant_of-self
invariant_of-self g c =
    let old : List Reserved = c.args.self.now.reserved.items in
    let first : ℕ = c.args.self.now.first in
    let bytes : List ℕ = c.push_rest.new.self.items in
    let from = c.len-from.ensures.is in
    let less : length c.args.self.now.bytes.items < c.args.size = (let true_here = c.if-from-size.true in omega (arith, true_here, from)) in
    let len : length bytes ≡ c.args.size = c.push_rest.ensures.len in
    let begun = c.args.self.now.begun in
    let its : Reserved = padding_at c.args.size c.len-from.result in
    let new : c.push_back_reserved.new.self.items ≡ old ++ its ∷ [] = c.push_back_reserved.ensures.items ∙ ap (λ (r : Reserved). old ++ r ∷ []) c.padding.ensures in
    let apart : drop first c.push_back_reserved.new.self.items ≡ drop first old ++ its ∷ [] = ap (drop first) new ∙ drop-append-le first old (its ∷ []) c.args.self.now.parted in
    record {
      begun = omega (arith, begun, len, less);
      behind = (let le = c.args.self.now.behind in omega (arith, le, len, less));
      within = subst (λ (rs : List Reserved). All (λ r. r.from + r.len ≤ length bytes) rs) (sym new)
          (all_joined (λ (r : Reserved). r.from + r.len ≤ length bytes) old [] its (λ i d lt. let le = c.args.self.now.within i d lt in omega (arith, le, len, less)) (omega (arith, len, from, less)) (λ i d lt. absurd (omega (arith, lt))));
      headed = subst (λ (rs : List Reserved). All IsHeaded rs) (sym new)
          (all_joined IsHeaded old [] its c.args.self.now.headed (omega (arith, from, less), λ is. absurd (let never : Padding ≡ Open = is in cc), λ is. absurd (let never : false ≡ true = is in cc)) (λ i d lt. absurd (omega (arith, lt))));
      numbered = (let le = c.args.self.now.numbered in let count = ap length new ∙ length-append old (its ∷ []) in omega (arith, le, count, len, less));
      head = c.args.self.now.head;
      are = subst (λ (rs : List Reserved). AreSealed c.args.self.now.written_len rs c.args.self.now.sealed.items) (sym new) (sealed_more c.args.self.now.written_len old c.args.self.now.sealed.items (its ∷ []) c.args.self.now.are);
      begins = c.args.self.now.begins;
      before = c.args.self.now.before;
      parted = (let le = c.args.self.now.parted in let count = ap length new ∙ length-append old (its ∷ []) in omega (arith, le, count));
      chain = subst (λ n. IsChain (max 20 c.args.self.now.begin) (drop first c.push_back_reserved.new.self.items) n) (let at : length c.args.self.now.bytes.items + (c.args.size - c.len-from.result) ≡ length bytes = omega (arith, len, from, less) in at)
          (subst (λ (rs : List Reserved). IsChain (max 20 c.args.self.now.begin) rs (length c.args.self.now.bytes.items + (c.args.size - c.len-from.result))) (sym apart)
          (chain-append (max 20 c.args.self.now.begin) (length c.args.self.now.bytes.items) (drop first old) its c.args.self.now.chain from));
      counted = c.args.self.now.counted ∙ sym (ap open_in apart ∙ open_same (drop first old) its refl);
      few = c.args.self.now.few;
      laid = record {
        small = c.push_rest.ensures.small;
        roomy = λ some. (let room = c.requires.room.bytes in let grows = c.push_rest.ensures.grows in omega (arith, room, grows, len));
        there = λ some. (let room = c.requires.room.bytes in let grows = c.push_rest.ensures.grows in omega (arith, room, grows));
      };
    }

pub returns : goal.returns
returns g c =
    let site : SegmentPosition = c.args.site.now in
    let filled : view_at site c.if-from-size.self ≡ filled_now g.C.Checksum.sum_of c.args.size (view_at site c.args.self.now) =
    elim c.if-from-size.branch [ then-from-size w ↦ search rules | else-from-size w ↦ search rules ] in
    record { there = c.push_sealed.ensures.there; closed = c.push_sealed.ensures.sealed site ∙ ap sealed_now filled }
