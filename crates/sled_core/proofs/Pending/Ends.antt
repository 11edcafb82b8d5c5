-- A reservation has ended that a sealed buffer had: which one that is, and what is known then of the buffers that can be written.
use Rattle.std.proofs.Common.{◌≡◌, ◌∙◌, ◌<◌, ◌≤◌, ◌+◌, ◌-◌, ◌==◌, nat_lt, ap, sym, refl, arith, subst, ℕ, zero, suc, max, Bool, true, false, if◌then◌else◌, List, [], ◌∷◌, ◌++◌, append_assoc, length, take, drop, set, get_or, Some, inl, inr}
use Rattle.std.specs.List.{All, slice_get}
use Rattle.std.specs.List.Sorted.{IsPartitionPoint}
use Rattle.std.proofs.lemmas.Bool.{cases_lt}
use Rattle.std.proofs.lemmas.Bool.Decides.{nat_tests}
use Rattle.sled_core.specs.declared.iobuf.IoBuf.{IoBuf}
use Rattle.sled_core.specs.declared.iobuf.Reserved.{Reserved}
use Rattle.sled_core.specs.declared.iobuf.Sealed.{Sealed}
use Rattle.sled_core.specs.declared.logger.ready.ReadyBuffers.{ReadyBuffers}
use Rattle.sled_core.specs.inside.ReadyBuffers.{EndedOne, HasOwn, held_in}
use Rattle.sled_core.specs.inside.SealedBuffers.{AreSealed, HasOpenAt, is_ready, one_ended, one_fewer}
use Rattle.sled_core.specs.SealedBuffers.{sealed_count, sealed_end}
use Rattle.sled_core.proofs.Pending.Owns.{changed, held_counted, ready_uncounted}
use Rattle.sled_core.proofs.Pending.Places.{Rise, around, begins, held_around, higher, higher_above, lower, lower_below, parted_none, rise_of, rise_up, set_around}
use Rattle.sled_core.proofs.Reserve.Parts.{get_there}
use Rattle.sled_core.proofs.Sealed.Around.{sealed_at}
use Rattle.sled_core.proofs.Sealed.Ended.{get_behind, get_front, lies_in}
use Rattle.sled_core.proofs.Sealed.InBuffer.{count_ended, end_ended, none_ended, waits_first}

-- A reservation of theirs lies within them.
lies_within : (from : ℕ) (rs : List Reserved) (bs : List Sealed) (i : ℕ) (r : Reserved) → AreSealed from rs bs → i < sealed_count bs → slice_get rs i ≡ Some r → 0 < r.len → (from ≤ r.from) × (r.from < sealed_end from bs)
lies_within from rs [] i r are theirs there some = absurd (omega (arith, theirs))
lies_within from rs (b ∷ bs) i r are theirs there some = elim (cases_lt i b.count) [
  | inl own ↦ (
      let lies = lies_in (max 20 from) b.end (take b.count rs) i r are.0.chain (get_front rs b.count i r own there) in
      let low = lies.0 in
      let high = lies.1 in
      let up = rise_up b.end bs (rise_of b.end (drop b.count rs) bs are.1) in
      (omega (arith, low), omega (arith, high, up, some)))
  | inr later ↦ (
      let rest = lies_within b.end (drop b.count rs) bs (i - b.count) r are.1 (omega (arith, theirs, later)) (get_behind rs b.count i r later there) some in
      let low = rest.0 in
      let here = are.0.rises in
      (omega (arith, low, here), rest.1))
]

-- Once one has ended they end where they did, one by one.
ends_same : (i : ℕ) (bs : List Sealed) (j : ℕ) (d : Sealed) → (get_or (one_ended i bs) j d).end ≡ (get_or bs j d).end
ends_same i [] j d = refl
ends_same i (b ∷ bs) j d = by (ends_same (i - b.count) bs) (nat_lt i b.count) j where
  by : ((j : ℕ) (d : Sealed) → (get_or (one_ended (i - b.count) bs) j d).end ≡ (get_or bs j d).end) → (o : Bool) (j : ℕ) → (get_or (if o then one_fewer b ∷ bs else b ∷ one_ended (i - b.count) bs) j d).end ≡ (get_or (b ∷ bs) j d).end
  by rest true zero = refl
  by rest true (suc j) = refl
  by rest false zero = refl
  by rest false (suc j) = rest j d

length-ended : (i : ℕ) (bs : List Sealed) → length (one_ended i bs) ≡ length bs
length-ended i [] = refl
length-ended i (b ∷ bs) = by (length-ended (i - b.count) bs) (nat_lt i b.count) where
  by : length (one_ended (i - b.count) bs) ≡ length bs → (o : Bool) → length (if o then one_fewer b ∷ bs else b ∷ one_ended (i - b.count) bs) ≡ length (b ∷ bs)
  by rest true = refl
  by rest false = ap suc rest

-- With another one at an index,
set_there : (bs : List Sealed) (k : ℕ) (b c : Sealed) → slice_get bs k ≡ Some b → slice_get (set bs k c) k ≡ Some c
set_there [] k b c there = cc
set_there (x ∷ bs) zero b c there = refl
set_there (x ∷ bs) (suc k) b c there = set_there bs k b c there

-- those before it are the same.
take_set : (bs : List Sealed) (k : ℕ) (c : Sealed) → take k (set bs k c) ≡ take k bs
take_set bs zero c = refl
take_set [] (suc k) c = refl
take_set (x ∷ bs) (suc k) c = ap (λ (l : List Sealed). x ∷ l) (take_set bs k c)

-- Of these sealed buffers the one at an index had the reservation that has ended, and the segment has the same ones but for that now.
pub record EndsIn (b : IoBuf) (bs : List Sealed) (k : ℕ) : Type 0 where
  pub buffer : Sealed
  pub there : slice_get bs k ≡ Some buffer
  pub some : 0 < buffer.open_count
  pub fresh : buffer.is_written ≡ false
  pub sealed : b.sealed.items ≡ set bs k (one_fewer buffer)
  pub now : slice_get b.sealed.items k ≡ Some (one_fewer buffer)
  pub rise : Rise b.written_len bs

module _ (b : IoBuf) (index : ℕ) (bs : List Sealed) (rs : List Reserved) (ends : EndedOne b index bs rs) where
  -- None of them had it,
  pub none_of_them : sealed_count b.sealed.items ≤ index → b.sealed.items ≡ bs
  none_of_them beyond =
      let count = ap sealed_count ends.sealed ∙ count_ended index bs in
      ends.sealed ∙ none_ended index bs (omega (arith, beyond, count))

  -- or one of them did, and then it lies within them.
  module _ (few : index < sealed_count b.sealed.items) where
    theirs : index < sealed_count bs
    theirs = let count = ap sealed_count ends.sealed ∙ count_ended index bs in omega (arith, few, count)

    abbrev has : HasOpenAt b.written_len rs index ends.reserved.from bs
    has = ends.own theirs

    theirs_below : ends.reserved.from < sealed_end b.written_len b.sealed.items
    theirs_below =
        let lies = lies_within b.written_len rs bs index has.reserved has.are theirs has.there has.some in
        let high = lies.1 in
        let at = has.begins in
        let same = ap (sealed_end b.written_len) ends.sealed ∙ end_ended b.written_len index bs in
        omega (arith, high, at, same)

    theirs_at : b.written_len ≤ ends.reserved.from
    theirs_at =
        let lies = lies_within b.written_len rs bs index has.reserved has.are theirs has.there has.some in
        let low = lies.0 in
        let at = has.begins in
        omega (arith, low, at)

    ended_in : (k : ℕ) → IsPartitionPoint (λ (x : Sealed). x.end ≤ ends.reserved.from) (λ (x : Sealed). ends.reserved.from < x.end) b.sealed.items k → EndsIn b bs k
    ended_in k point =
        let now = subst (λ (l : List Sealed). IsPartitionPoint (λ (x : Sealed). x.end ≤ ends.reserved.from) (λ (x : Sealed). ends.reserved.from < x.end) l k) ends.sealed point in
        let old : IsPartitionPoint (λ (x : Sealed). x.end ≤ ends.reserved.from) (λ (x : Sealed). ends.reserved.from < x.end) bs k = (
          λ j d le lt. (let same = ends_same index bs j d in let below = now.0 j d le lt in omega (arith, same, below)),
          λ j d le lt. (let same = ends_same index bs j d in let above = now.1 j d le (omega (arith, lt, length-ended index bs)) in omega (arith, same, above)),
        ) in
        let waits = waits_first b.written_len rs index ends.reserved.from bs k has old in
        let own = sealed_at b.written_len rs bs k waits.buffer has.are waits.there in
        let is = ends.sealed ∙ sym waits.fewer in
        record {
          buffer = waits.buffer;
          there = waits.there;
          some = waits.some;
          fresh = unwritten waits.buffer.is_written refl (λ is. let none = own.ended is in let some = waits.some in omega (arith, none, some));
          sealed = is;
          now = ap (λ (l : List Sealed). slice_get l k) is ∙ set_there bs k waits.buffer (one_fewer waits.buffer) waits.there;
          rise = rise_of b.written_len rs bs ends.are;
        }
      where
        unwritten : (o : Bool) → o ≡ o → (o ≡ true → ⊥) → o ≡ false
        unwritten true is never = absurd (never refl)
        unwritten false is never = refl

    -- It is the buffer around where that one began, which code reads.
    pub around_it : (r : Reserved) → r ≡ get_or b.reserved.items index r → (k : ℕ) → IsPartitionPoint (λ (x : Sealed). x.end ≤ r.from) (λ (x : Sealed). r.from < x.end) b.sealed.items k → EndsIn b bs k
    around_it r read k point =
        let at = ap (λ (x : Reserved). x.from) (read ∙ get_there b.reserved.items index ends.reserved r ends.there) in
        ended_in k (subst (λ n. IsPartitionPoint (λ (x : Sealed). x.end ≤ n) (λ (x : Sealed). n < x.end) b.sealed.items k) at point)

    pub read_below : (r : Reserved) → r ≡ get_or b.reserved.items index r → r.from < sealed_end b.written_len b.sealed.items
    read_below r read =
        let at = ap (λ (x : Reserved). x.from) (read ∙ get_there b.reserved.items index ends.reserved r ends.there) in
        let low = theirs_below in
        omega (arith, at, low)

    pub read_at : (r : Reserved) → r ≡ get_or b.reserved.items index r → b.written_len ≤ r.from
    read_at r read =
        let at = ap (λ (x : Reserved). x.from) (read ∙ get_there b.reserved.items index ends.reserved r ends.there) in
        let high = theirs_at in
        omega (arith, at, high)

-- What code sees of it.
pub now_ready : (b : IoBuf) (bs : List Sealed) (k : ℕ) (its : EndsIn b bs k) (x : Sealed) (ready : Bool) → slice_get b.sealed.items k ≡ Some x → ready ≡ is_ready x → is_ready (one_fewer its.buffer) ≡ ready
now_ready b bs k its x ready there is =
    let both : Some (one_fewer its.buffer) ≡ Some x = sym its.now ∙ there in
    let same : one_fewer its.buffer ≡ x = cc in
    ap is_ready same ∙ sym is

-- What is known of the segment's buffers then.
module _ (old : ReadyBuffers) (place : ℕ) (b : IoBuf) (bs : List Sealed) (before behind : List ℕ) (others : ℕ) (k : ℕ) (its : EndsIn b bs k) (has : HasOwn old place b.written_len bs before behind others) where
  abbrev xs : List Sealed
  xs = take k bs

  abbrev ys : List Sealed
  ys = drop (suc k) bs

  abbrev was : Sealed
  was = its.buffer

  stuck : is_ready was ≡ false
  stuck = ap (λ (o : Bool). if o then false else (was.open_count == 0)) its.fresh ∙ (let some = its.some in grind (arith, nat_tests, some))

  counted : held_in (was ∷ []) ≡ 1
  counted = held_counted was its.fresh stuck

  parts : HasOwn old place b.written_len (xs ++ was ∷ ys) before behind others
  parts = subst (λ (l : List Sealed). HasOwn old place b.written_len l before behind others) (around bs k was its.there) has

  rises : Rise b.written_len (xs ++ was ∷ ys)
  rises = subst (Rise b.written_len) (around bs k was its.there) its.rise

  abbrev lows : List ℕ
  lows = lower place b.written_len xs was ys before behind

  abbrev highs : List ℕ
  highs = higher place b.written_len xs was ys before behind

  abbrev at : ℕ
  at = begins place b.written_len xs was ys before behind

  -- one at least is counted
  pub left_held : 0 < old.held
  left_held =
      let all = parts.held in
      let one = held_around xs was ys in
      let own = counted in
      omega (arith, all, one, own)

  old_places : old.places.items ≡ lows ++ highs
  old_places = parts.places ∙ parted_none place b.written_len xs was ys before behind stuck

  of_now : (new : ReadyBuffers) → HasOwn new place b.written_len (xs ++ one_fewer was ∷ ys) before behind others → HasOwn new place b.written_len b.sealed.items before behind others
  of_now new = subst (λ (l : List Sealed). HasOwn new place b.written_len l before behind others) (sym (its.sealed ∙ set_around bs k was (one_fewer was) its.there))

  -- It can be written now, and its place comes,
  pub entered : (new : ReadyBuffers) → is_ready (one_fewer was) ≡ true → (p : ℕ) → p ≡ place + sealed_end b.written_len (take k b.sealed.items)
      → ((us vs : List ℕ) → old.places.items ≡ us ++ vs → All (λ q. q < p) us → All (λ q. p ≤ q) vs → new.places.items ≡ us ++ p ∷ vs) → new.held + 1 ≡ old.held
      → HasOwn new place b.written_len b.sealed.items before behind others
  entered new ready p begins_there places held =
      let same : p ≡ at = begins_there ∙ ap (λ (l : List Sealed). place + sealed_end b.written_len l) (ap (take k) its.sealed ∙ take_set bs k (one_fewer was)) in
      let come = subst (λ (q : ℕ). (us vs : List ℕ) → old.places.items ≡ us ++ vs → All (λ r. r < q) us → All (λ r. q ≤ r) vs → new.places.items ≡ us ++ q ∷ vs) same places lows highs old_places
      (lower_below place b.written_len xs was ys before behind rises parts.low) (higher_above place b.written_len xs was ys before behind rises parts.high) in
      let one = counted in
      let none = ready_uncounted (one_fewer was) ready in
      of_now new (changed place b.written_len xs was ys before behind others (was.open_count - 1) was.is_written old new parts
      (come ∙ sym (append_assoc lows (at ∷ []) highs) ∙ ap (λ (o : Bool). lows ++ (if o then at ∷ [] else []) ++ highs) (sym ready)) (omega (arith, held, one, none)))

  -- or it can't yet.
  pub stays : is_ready (one_fewer was) ≡ false → HasOwn old place b.written_len b.sealed.items before behind others
  stays isnt =
      let one = counted in
      let still = held_counted (one_fewer was) its.fresh isnt in
      of_now old (changed place b.written_len xs was ys before behind others (was.open_count - 1) was.is_written old old parts
      (old_places ∙ sym (append_assoc lows [] highs) ∙ ap (λ (o : Bool). lows ++ (if o then at ∷ [] else []) ++ highs) (sym isnt)) (omega (arith, one, still)))
