-- The reservation has ended, and the buffer that has it waits for one fewer: a sealed one, or the current one.
use Rattle.std.proofs.Common.{◌≡◌, ◌∙◌, ◌+◌, ◌-◌, ◌≤◌, ◌<◌, ap, List, ℕ, max, rules, refl, drop, get_or, set, sym, length, arith, Some, ◌∷◌, [], subst, false}
use Rattle.std.specs.List.{slice_get, All}
use Rattle.std.proofs.lemmas.List.{drop-set-add, drop-set-lt, length-set}
use Rattle.std.proofs.lemmas.List.Elements.{All-set}
use Rattle.sled_codec.specs.Written.{written}
use Rattle.sled_core.specs.declared.iobuf.ReservationState.{ReservationState}
use Rattle.sled_core.specs.declared.iobuf.ReservationState.TheVariants.{Open}
use Rattle.sled_store.specs.Words.{Fields}
use Rattle.sled_core.specs.declared.iobuf.Reserved.{Reserved}
use Rattle.sled_core.specs.declared.iobuf.Sealed.{Sealed}
use Rattle.sled_core.specs.inside.Buffers.{IsChain, IsHeaded, ended, ending}
use Rattle.sled_core.specs.Buffers.{open_in, open_state}
use Rattle.sled_core.specs.inside.SealedBuffers.{AreSealed, FirstUnwritten, HasOpenAt, one_ended}
use Rattle.sled_core.specs.SealedBuffers.{sealed_count, sealed_end}
use Rattle.sled_core.proofs.Reserve.OpenCounts.{open_fewer}
use Rattle.sled_core.proofs.Reserve.Parts.{get_there, there_is}
use Rattle.sled_core.proofs.Reserve.Ranges.{at_there}
use Rattle.sled_core.proofs.Sealed.Ended.{chain_set, get_behind, sealed_ended}
use Rattle.sled_core.proofs.Sealed.InBuffer.{count_ended, end_ended, first_ended, none_ended}
use Rattle.sled_core.proofs.iobuf.IoBuf.end.Goals as goal

-- what holds of the reservations, and of the one that has ended, holds of them after it
still : (P : Reserved → Type 0) (old new : List Reserved) (i : ℕ) (r : Reserved) (state : ReservationState) → slice_get old i ≡ Some r → new ≡ set old i (ended state r)
    → ((x : Reserved) → P x → P (ended state x)) → All P old → All P new
still P old new i r state there set_is ends all = subst (λ (rs : List Reserved). All P rs) (sym set_is) (All-set P old i (ended state r) (ends r (at_there P old i r there all)) all)

-- there is one where one has an index
index_some : (rs : List Reserved) (i : ℕ) (r : Reserved) → slice_get rs i ≡ Some r → 0 < length rs
index_some [] i r there = cc
index_some (x ∷ xs) i r there = omega arith

-- a state in which a reservation has ended isn't the one in which it is open
not_open : (s : ReservationState) → open_state s ≡ false → s ≡ Open → ⊥
not_open s ends is = let both : open_state Open ≡ false = ap open_state (sym is) ∙ ends in cc

module _ (from : ℕ) (rs : List Reserved) (bs : List Sealed) (i : ℕ) (r : Reserved) (there : slice_get rs i ≡ Some r) (open_yet : r.state ≡ Open) where
  has_open : AreSealed from rs bs → i < sealed_count bs → All IsHeaded rs → HasOpenAt from rs i r.from bs
  has_open are theirs headed = record {
    reserved = r;
    are = are;
    theirs = theirs;
    there = there;
    begins = refl;
    some = (at_there IsHeaded rs i r there headed).0;
    open_yet = open_yet;
  }

  module _ (state : ReservationState) (ends : open_state state ≡ false) where
    fewer : (xs : List Reserved) (j : ℕ) → slice_get xs j ≡ Some r → open_in xs ≡ open_in (set xs j (ended state r)) + 1
    fewer xs j at = open_fewer xs j r (ended state r) at open_yet ends

    are_ended : AreSealed from rs bs → AreSealed from (set rs i (ended state r)) (one_ended i bs)
    are_ended are = sealed_ended r (ended state r) refl refl fewer from rs bs i there are

    -- It is one of those behind the first ones.
    module _ (first : ℕ) (behind : first ≤ i) where
      set_behind : drop first (set rs i (ended state r)) ≡ set (drop first rs) (i - first) (ended state r)
      set_behind = let at : first + (i - first) ≡ i = omega (arith, behind) in ap (λ k. drop first (set rs k (ended state r))) (sym at) ∙ drop-set-add first rs (i - first) (ended state r)

      there_behind : slice_get (drop first rs) (i - first) ≡ Some r
      there_behind = get_behind rs first i r behind there

      chain_behind : (begin end : ℕ) → IsChain begin (drop first rs) end → IsChain begin (drop first (set rs i (ended state r))) end
      chain_behind begin end chain =
          subst (λ (l : List Reserved). IsChain begin l end) (sym set_behind) (chain_set r (ended state r) refl refl fewer begin end (drop first rs) (i - first) there_behind chain)

      fewer_behind : open_in (drop first rs) ≡ open_in (drop first (set rs i (ended state r))) + 1
      fewer_behind = fewer (drop first rs) (i - first) there_behind ∙ ap (λ (l : List Reserved). open_in l + 1) (sym set_behind)

pub end_sealed-requires : goal.end_sealed-requires
end_sealed-requires c =
    let rs : List Reserved = c.args.self.now.reserved.items in
    let bs : List Sealed = c.args.self.now.sealed.items in
    let r : Reserved = c.index-r.result.now in
    let there : slice_get rs c.args.index ≡ Some r = there_is rs c.args.index r (search rules) c.index-r.ensures in
    let theirs = c.if-index-self.true in
    let before = c.args.self.now.before in
    record { some = (c.args.self.now.written_len, c.args.index, rs, has_open c.args.self.now.written_len rs bs c.args.index r there (c.requires.awaited r there) c.args.self.now.are (omega (arith, theirs, before)) c.args.self.now.headed) }

pub decr_writers-self-requires : goal.decr_writers-self-requires
decr_writers-self-requires c =
    let rs : List Reserved = c.args.self.now.reserved.items in
    let r : Reserved = c.index-r.result.now in
    let there : slice_get rs c.args.index ≡ Some r = there_is rs c.args.index r (search rules) c.index-r.ensures in
    let count = fewer_behind c.args.self.now.written_len rs c.args.self.now.sealed.items c.args.index r there (c.requires.awaited r there) c.args.state c.requires.ends c.args.self.now.first c.if-index-self.false in
    let counted = c.args.self.now.counted in
    omega (arith, count, counted)

pub invariant_of-self : goal.invariant_of-self
invariant_of-self c =
    let rs : List Reserved = c.args.self.now.reserved.items in
    let bs : List Sealed = c.args.self.now.sealed.items in
    let from : ℕ = c.args.self.now.written_len in
    let first : ℕ = c.args.self.now.first in
    let i : ℕ = c.args.index in
    let r : Reserved = c.index-r.result.now in
    let s : Reserved = ended c.args.state r in
    let there : slice_get rs i ≡ Some r = there_is rs i r (search rules) c.index-r.ensures in
    let open_yet = c.requires.awaited r there in
    let new : c.close.new.reserved.items ≡ set rs i s = c.close.ensures r there in
    let len : length c.args.self.now.bytes.items ≡ length c.put_ending.new.self.items = sym c.put_ending.ensures.len in
    let before = c.args.self.now.before in
    let theirs : i < first = c.if-index-self.true in
    let left : c.end_sealed.new.sealed.items ≡ one_ended i bs = c.end_sealed.ensures from i rs (has_open from rs bs i r there open_yet c.args.self.now.are (omega (arith, theirs, before)) c.args.self.now.headed) in
    let same : drop first c.close.new.reserved.items ≡ drop first rs = ap (drop first) new ∙ drop-set-lt first rs i s theirs in
    let count : length c.close.new.reserved.items ≡ length rs = ap length new ∙ length-set rs i s in
    record {
      begun = omega (arith, len);
      behind = (let le = c.args.self.now.behind in omega (arith, le, len));
      within = still (λ x. x.from + x.len ≤ length c.put_ending.new.self.items) rs _ i r c.args.state there new (λ x h. h) (subst (λ (n : ℕ). All (λ x. x.from + x.len ≤ n) rs) len c.args.self.now.within);
      headed = still IsHeaded rs _ i r c.args.state there new (λ x h. (h.0, (λ is. absurd (not_open c.args.state c.requires.ends is)), h.2)) c.args.self.now.headed;
      numbered = (let le = c.args.self.now.numbered in omega (arith, le, count, len));
      head = subst (λ (l : List Sealed). FirstUnwritten l) (sym left) (first_ended i bs c.args.self.now.head);
      are = subst (λ (l : List Sealed). AreSealed from c.close.new.reserved.items l) (sym left)
          (subst (λ (l : List Reserved). AreSealed from l (one_ended i bs)) (sym new) (are_ended from rs bs i r there open_yet c.args.state c.requires.ends c.args.self.now.are));
      begins = c.args.self.now.begins ∙ sym (ap (sealed_end from) left ∙ end_ended from i bs);
      before = before ∙ sym (ap sealed_count left ∙ count_ended i bs);
      parted = (let le = c.args.self.now.parted in omega (arith, le, count));
      chain = subst (λ n. IsChain (max 20 c.args.self.now.begin) (drop first c.close.new.reserved.items) n) len (subst (λ (l : List Reserved). IsChain (max 20 c.args.self.now.begin) l (length c.args.self.now.bytes.items)) (sym same) c.args.self.now.chain);
      counted = c.args.self.now.counted ∙ sym (ap open_in same);
      few = c.args.self.now.few;
      laid = (let laid = c.args.self.now.laid in let room = c.put_ending.ensures.room in let some = index_some rs i r there in record {
        small = (let small = laid.small in omega (arith, small, len));
        roomy = λ more. (let roomy = laid.roomy (omega (arith, more, room)) in omega (arith, roomy, room, len));
        there = λ more. (let is = laid.there (omega (arith, some)) in omega (arith, is, room));
      });
    }

pub invariant_of-self-else-index-self : goal.invariant_of-self-else-index-self
invariant_of-self-else-index-self c =
    let rs : List Reserved = c.args.self.now.reserved.items in
    let bs : List Sealed = c.args.self.now.sealed.items in
    let from : ℕ = c.args.self.now.written_len in
    let first : ℕ = c.args.self.now.first in
    let i : ℕ = c.args.index in
    let r : Reserved = c.index-r.result.now in
    let s : Reserved = ended c.args.state r in
    let there : slice_get rs i ≡ Some r = there_is rs i r (search rules) c.index-r.ensures in
    let open_yet = c.requires.awaited r there in
    let new : c.close.new.reserved.items ≡ set rs i s = c.close.ensures r there in
    let len : length c.args.self.now.bytes.items ≡ length c.put_ending.new.self.items = sym c.put_ending.ensures.len in
    let before = c.args.self.now.before in
    let behind : first ≤ i = c.if-index-self.false in
    let none : one_ended i bs ≡ bs = none_ended i bs (omega (arith, behind, before)) in
    let count : length c.close.new.reserved.items ≡ length rs = ap length new ∙ length-set rs i s in
    record {
      begun = omega (arith, len);
      behind = (let le = c.args.self.now.behind in omega (arith, le, len));
      within = still (λ x. x.from + x.len ≤ length c.put_ending.new.self.items) rs _ i r c.args.state there new (λ x h. h) (subst (λ (n : ℕ). All (λ x. x.from + x.len ≤ n) rs) len c.args.self.now.within);
      headed = still IsHeaded rs _ i r c.args.state there new (λ x h. (h.0, (λ is. absurd (not_open c.args.state c.requires.ends is)), h.2)) c.args.self.now.headed;
      numbered = (let le = c.args.self.now.numbered in omega (arith, le, count, len));
      head = c.args.self.now.head;
      are = subst (λ (l : List Sealed). AreSealed from c.close.new.reserved.items l) none
          (subst (λ (l : List Reserved). AreSealed from l (one_ended i bs)) (sym new) (are_ended from rs bs i r there open_yet c.args.state c.requires.ends c.args.self.now.are));
      begins = c.args.self.now.begins;
      before = before;
      parted = (let le = c.args.self.now.parted in omega (arith, le, count));
      chain = subst (λ n. IsChain (max 20 c.args.self.now.begin) (drop first c.close.new.reserved.items) n) len
          (subst (λ (l : List Reserved). IsChain (max 20 c.args.self.now.begin) (drop first l) (length c.args.self.now.bytes.items)) (sym new)
          (chain_behind from rs bs i r there open_yet c.args.state c.requires.ends first behind (max 20 c.args.self.now.begin) (length c.args.self.now.bytes.items) c.args.self.now.chain));
      counted = (let one = ap (λ (f : Fields). f.writers) c.decr_writers-self.ensures in let counted = c.args.self.now.counted in let less = fewer_behind from rs bs i r there open_yet c.args.state c.requires.ends first behind in let is = ap (λ (l : List Reserved). open_in (drop first l)) new in omega (arith, one, counted, less, is));
      few = (let one = ap (λ (f : Fields). f.writers) c.decr_writers-self.ensures in let most = c.args.self.now.few in omega (arith, one, most));
      laid = (let laid = c.args.self.now.laid in let room = c.put_ending.ensures.room in let some = index_some rs i r there in record {
        small = (let small = laid.small in omega (arith, small, len));
        roomy = λ more. (let roomy = laid.roomy (omega (arith, more, room)) in omega (arith, roomy, room, len));
        there = λ more. (let is = laid.there (omega (arith, some)) in omega (arith, is, room));
      });
    }

-- what is written stands where the reservation begins
text_at : (buf new : List ℕ) (its r : Reserved) (rs : List Reserved) (i : ℕ) (whole : List ℕ) → its ≡ get_or rs i its → slice_get rs i ≡ Some r → new ≡ written buf its.from whole → new ≡ written buf r.from whole
text_at buf new its r rs i whole is there put = put ∙ ap (λ (x : Reserved). written buf x.from whole) (is ∙ get_there rs i r its there)

pub returns-then-index-self : goal.returns-then-index-self
returns-then-index-self c =
    let rs : List Reserved = c.args.self.now.reserved.items in
    let bs : List Sealed = c.args.self.now.sealed.items in
    let from : ℕ = c.args.self.now.written_len in
    let its : Reserved = c.index-r.result.now in
    let there : slice_get rs c.args.index ≡ Some its = there_is rs c.args.index its (search rules) c.index-r.ensures in
    let theirs = c.if-index-self.true in
    let before = c.args.self.now.before in
    record {
      bytes = λ r at. text_at c.args.self.now.bytes.items c.put_ending.new.self.items its r rs c.args.index (ending c.args.sum c.args.kind) c.index-r.ensures at c.put_ending.ensures.bytes;
      reserved = c.close.ensures;
      sealed = c.end_sealed.ensures from c.args.index rs (has_open from rs bs c.args.index its there (c.requires.awaited its there) c.args.self.now.are (omega (arith, theirs, before)) c.args.self.now.headed);
      from = refl;
      gone = refl;
      filled = refl;
      long = c.put_ending.ensures.len;
      room = c.put_ending.ensures.room;
    }

pub returns-else-index-self : goal.returns-else-index-self
returns-else-index-self c =
    let its : Reserved = c.index-r.result.now in
    let behind = c.if-index-self.false in
    let before = c.args.self.now.before in
    record {
      bytes = λ r at. text_at c.args.self.now.bytes.items c.put_ending.new.self.items its r c.args.self.now.reserved.items c.args.index (ending c.args.sum c.args.kind) c.index-r.ensures at c.put_ending.ensures.bytes;
      reserved = c.close.ensures;
      sealed = sym (none_ended c.args.index c.args.self.now.sealed.items (omega (arith, behind, before)));
      from = refl;
      gone = refl;
      filled = refl;
      long = c.put_ending.ensures.len;
      room = c.put_ending.ensures.room;
    }
