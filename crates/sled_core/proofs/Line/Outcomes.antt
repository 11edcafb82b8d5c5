-- What follows of a call that succeeded or failed, and of what it answered.
use Rattle.std.proofs.Common.{◌≡◌, ◌∙◌, refl, sym, subst, ℕ, Option, None, Some, Result, Ok, Err, IsErrAnd, OnOk, OnErr}
use Rattle.std.specs.declared.io.Error.{Error as IoError}
use Rattle.sled_codec.specs.declared.result.Error.{Error}
use Rattle.sled_codec.specs.declared.result.Error.TheVariants.{Held, Io, OutOfMemory, PlacesUsedUp}
use Rattle.sled_core.specs.Causes.{Answers, FaultOrMemory, HeldAnswers, IsHeld, OnDone}
pub use Rattle.sled_store.proofs.Segments.FillLemmas.{after_err as all_err}

-- Where it succeeded another thing follows of one that is so, or of two,
pub on_ok : {T E : Type 0} (r : Result T E) (A B : Type 0) → (A → B) → OnOk r A → OnOk r B
on_ok (Ok x) A B f a = f a
on_ok (Err e) A B f a = tt

pub on_both : {T E : Type 0} (r : Result T E) (A B P : Type 0) → (A → B → P) → OnOk r A → OnOk r B → OnOk r P
on_both (Ok x) A B P f a b = f a b
on_both (Err e) A B P f a b = tt

-- and what is so anyway is so there.
pub all_ok : {T E : Type 0} (r : Result T E) (P : Type 0) → P → OnOk r P
all_ok (Ok x) P is = is
all_ok (Err e) P is = tt

-- It is the same where it failed,
pub on_err : {T E : Type 0} (r : Result T E) (A B : Type 0) → (A → B) → OnErr r A → OnErr r B
on_err (Ok x) A B f a = tt
on_err (Err e) A B f a = f a

-- and where it was done.
pub on_done : {T : Type 0} (r : Result T Error) (P Q : Type 0) → (P → Q) → OnDone r P → OnDone r Q
on_done (Ok x) P Q more done = more done
on_done (Err (Held at)) P Q more done = more done
on_done (Err _) P Q more done = tt

pub all_done : {T : Type 0} (r : Result T Error) (P : Type 0) → P → OnDone r P
all_done (Ok x) P is = is
all_done (Err (Held at)) P is = is
all_done (Err _) P is = tt

-- What follows of either is so.
pub either : {T E : Type 0} (r : Result T E) (A B P : Type 0) → (A → P) → (B → P) → OnOk r A → OnErr r B → P
either (Ok x) A B P f g a b = f a
either (Err e) A B P f g a b = g b

-- That it was held up isn't of what it would have given.
pub held_alike : (T T' : Type 0) (e : Error) → IsHeld {T = T'} (Err e) → IsHeld {T = T} (Err e)
held_alike T T' (Held at) is = tt
held_alike T T' _ is = absurd is

-- Held up it failed.
pub held_err : {T : Type 0} (r : Result T Error) (P : Type 0) → IsHeld r → OnErr r P → P
held_err (Ok x) P held is = absurd held
held_err (Err e) P held is = is

-- What it answers is what its caller does, of which the same is held up, and which saw as many faults before.
pub answers_used : {T : Type 0} (result : Result T Error) (held held' : Option ℕ) (used : Type 0) (now : Option IoError) (before before' after : ℕ) → held ≡ held' → before ≡ before' → (used → ⊥) → HeldAnswers result held ⊥ None now before after → HeldAnswers result held' used None now before' after
answers_used (Ok x) held held' used now before before' after h b not answers = (sym h ∙ answers.0, not, answers.2, answers.3, answers.4 ∙ b)
answers_used (Err (Held at)) held held' used now before before' after h b not answers = ((answers.0.0, sym h ∙ answers.0.1, answers.0.2), not, answers.2, answers.3, answers.4 ∙ b)
answers_used {T} (Err (Io e)) held held' used now before before' after h b not answers = subst (λ n. HeldAnswers {T = T} (Err (Io e)) held' used None now n after) b answers
answers_used (Err OutOfMemory) held held' used now before before' after h b not answers = (not, answers.1, answers.2, answers.3 ∙ b)
answers_used (Err PlacesUsedUp) held held' used now before before' after h b not answers = absurd answers.0
answers_used (Err _) held held' used now before before' after h b not answers = absurd answers

-- What a write of a buffer answers is what its caller does, where nothing holds it.
pub answers_free : {T : Type 0} (r : Result T Error) (held : Option ℕ) (now : Option IoError) (before after : ℕ) → held ≡ None → Answers r None now before after → HeldAnswers r held ⊥ None now before after
answers_free (Ok x) held now before after none answers = (none, (λ never. never), answers.0, answers.1, answers.2)
answers_free (Err (Io e)) held now before after none answers = answers
answers_free (Err OutOfMemory) held now before after none answers = ((λ never. never), answers.0, answers.1, answers.2)
answers_free (Err _) held now before after none answers = absurd answers

pub done_free : {T : Type 0} (r : Result T Error) (now : Option IoError) (before after : ℕ) (P Q : Type 0) → (P → Q) → Answers r None now before after → OnOk r P → OnDone r Q
done_free (Ok x) now before after P Q more answers is = more is
done_free (Err (Held at)) now before after P Q more answers is = absurd answers
done_free (Err _) now before after P Q more answers is = tt

-- A call that touches no device failed: what its caller answers.
module _ (T S : Type 0) (e : Error) (used : Type 0) (failed : FaultOrMemory {T = T} (Err e) used None) where
  pub seal_answers : (held : Option ℕ) (all : Type 0) (now : Option IoError) (before after : ℕ) → (used → all) → (all → used) → now ≡ None → after ≡ before → HeldAnswers {T = S} (Err e) held all None now before after
  seal_answers held all now before after so back none same = by_error e failed where
    by_error : (e : Error) → FaultOrMemory {T = T} (Err e) used None → HeldAnswers {T = S} (Err e) held all None now before after
    by_error (Io x) is = absurd (let no_fault : None ≡ Some x = is in cc)
    by_error PlacesUsedUp is = (so is.0, refl, none, same)
    by_error OutOfMemory is = ((λ u. is.0 (back u)), refl, none, same)
    by_error _ is = absurd is

  pub seal_not_held : IsHeld {T = S} (Err e) → ⊥
  seal_not_held held = by_error e failed held where
    by_error : (e : Error) → FaultOrMemory {T = T} (Err e) used None → IsHeld {T = S} (Err e) → ⊥
    by_error (Held at) is held = is
    by_error _ is held = held

  pub seal_not_done : (P : Type 0) → OnDone {T = S} (Err e) P
  seal_not_done P = by_error e failed where
    by_error : (e : Error) → FaultOrMemory {T = T} (Err e) used None → OnDone {T = S} (Err e) P
    by_error (Held at) is = absurd is
    by_error _ is = tt

-- What is so where it was done isn't asked where it was refused,
pub refused : {T E : Type 0} (Q : E → Type 0) (r : Result T E) (A : Type 0) → IsErrAnd r Q → OnOk r A
refused Q (Ok x) A is = absurd is
refused Q (Err e) A is = tt

-- and a log that keeps no failure keeps none.
pub no_fault : (kept : Option IoError) (e : IoError) (A : Type 0) → kept ≡ None → kept ≡ Some e → A
no_fault kept e A none some = absurd (let bad : None ≡ Some e = sym none ∙ some in cc)
