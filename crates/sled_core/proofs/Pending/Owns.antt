-- What is known of the buffers of one segment that can be written, once one of them is another one, or there is one more.
use Rattle.std.proofs.Common.{◌≡◌, ◌∙◌, ◌≤◌, ◌+◌, ◌==◌, ap, sym, refl, arith, subst, ℕ, suc, Bool, true, false, if◌then◌else◌, List, [], ◌∷◌, ◌++◌}
use Rattle.std.specs.List.{All}
use Rattle.std.proofs.lemmas.List.{append-nil}
use Rattle.sled_core.specs.declared.iobuf.Sealed.{Sealed}
use Rattle.sled_core.specs.declared.logger.ready.ReadyBuffers.{ReadyBuffers}
use Rattle.sled_core.specs.inside.ReadyBuffers.{HasOwn, held_in, ready_in}
use Rattle.sled_core.specs.inside.SealedBuffers.{is_ready}
use Rattle.sled_core.specs.SealedBuffers.{sealed_end}
use Rattle.sled_core.proofs.Pending.Places.{begins, end_on, held_around, held_on, higher, lower, parted, ready_one}

-- the same buffer with other states
abbrev pub other : Sealed → ℕ → Bool → Sealed
other b left is_written = record { end = b.end; count = b.count; open_count = left; is_written = is_written }

module _ (place from : ℕ) (xs : List Sealed) (b : Sealed) (ys : List Sealed) (before behind : List ℕ) (others : ℕ) where
  pub changed : (left : ℕ) (is_written : Bool) (old new : ReadyBuffers) → HasOwn old place from (xs ++ b ∷ ys) before behind others
      → new.places.items ≡ lower place from xs b ys before behind ++ ready_one (begins place from xs b ys before behind) (other b left is_written) ++ higher place from xs b ys before behind
      → new.held + held_in (b ∷ []) ≡ old.held + held_in (other b left is_written ∷ []) → HasOwn new place from (xs ++ other b left is_written ∷ ys) before behind others
  changed left is_written old new has places held =
      let c : Sealed = other b left is_written in
      let was = has.held in
      let all = held_around xs b ys in
      let now = held_around xs c ys in
      record {
        places = places ∙ sym (parted place from xs c ys before behind);
        held = omega (arith, held, was, all, now);
        low = has.low;
        high = subst (λ n. All (λ p. place + n ≤ p) behind) (end_on from xs (b ∷ ys) ∙ sym (end_on from xs (c ∷ ys))) has.high;
      }

-- One more is sealed behind the others, where no segment is behind.
pub one_more : (place from : ℕ) (bs : List Sealed) (b : Sealed) (before : List ℕ) (others : ℕ) (old : ReadyBuffers) → HasOwn old place from bs before [] others → (all : List Sealed) → all ≡ bs ++ b ∷ [] → (places : List ℕ) (held : ℕ)
    → places ≡ old.places.items ++ ready_one (place + sealed_end from bs) b → held ≡ old.held + held_in (b ∷ []) → (places ≡ before ++ ready_in place from all ++ []) × (held ≡ others + held_in all)
one_more place from bs b before others old has all is places held come count =
    let was = has.held in
    let more = held_on bs (b ∷ []) in
    let same = ap held_in is in
    let own : List ℕ = ready_one (place + sealed_end from bs) b in (
      come ∙ ap (λ (l : List ℕ). l ++ own) has.places ∙ ap (λ (l : List ℕ). l ++ own) (append-nil (before ++ ready_in place from bs)) ∙ sym (append-nil (before ++ ready_in place from bs ++ own))
          ∙ sym (parted place from bs b [] before []) ∙ ap (λ (l : List Sealed). before ++ ready_in place from l ++ []) (sym is),
      omega (arith, count, was, more, same),
    )

-- One that can be written isn't counted, and one that isn't written, and can't be, is.
pub ready_uncounted : (b : Sealed) → is_ready b ≡ true → held_in (b ∷ []) ≡ 0
ready_uncounted b is = by b.is_written (b.open_count == 0) is where
  by : (o p : Bool) → (if o then false else p) ≡ true → (if o then 0 else (if p then 0 else suc 0)) ≡ 0
  by true p is = refl
  by false true is = refl
  by false false is = cc

pub held_counted : (b : Sealed) → b.is_written ≡ false → is_ready b ≡ false → held_in (b ∷ []) ≡ 1
held_counted b fresh isnt = by b.is_written (b.open_count == 0) fresh isnt where
  by : (o p : Bool) → o ≡ false → (if o then false else p) ≡ false → (if o then 0 else (if p then 0 else suc 0)) ≡ 1
  by true p fresh isnt = cc
  by false true fresh isnt = cc
  by false false fresh isnt = refl
