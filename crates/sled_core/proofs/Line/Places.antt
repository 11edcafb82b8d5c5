-- What is written to make a place durable, and what holds that up, where it isn't durable yet, and where it is.
use Rattle.std.proofs.Common.{◌*◌, length, ◌≡◌, ◌∙◌, ◌≤ℤ◌, ◌<ℤ◌, ◌+◌, ◌-ℤ◌, ◌≤◌, int_lt, unsigned_abs, refl, true, false, Bool, ℕ, ℤ, pos, negsuc, List, Option, None, Err, if◌then◌else◌, [], sym, ap, subst, arith, map}
use Rattle.std.specs.Int.Signed.{le_z}
use Rattle.std.proofs.Math.Nat.{suc-mul}
use Rattle.std.proofs.lemmas.Int.{ints}
use Rattle.std.proofs.lemmas.List.{length-map}
use Rattle.std.specs.declared.io.Error.{Error as IoError}
use Rattle.sled_codec.specs.declared.result.Error.{Error}
use Rattle.sled_codec.specs.declared.result.Error.TheVariants.{Held, Io, OutOfMemory, PlacesUsedUp}
use Rattle.sled_core.specs.Begun.{segment_view}
use Rattle.sled_core.specs.declared.logger.Log.{Log}
use Rattle.sled_core.specs.Causes.{HeldAnswers, OnDone}
use Rattle.sled_core.specs.Fits.{holding_below, line_of, noted_in, reserved_end, stable_end, synced_end, writing_below}
use Rattle.sled_core.specs.inside.Begun.{line_end}
use Rattle.sled_core.specs.Stable.{StableAnswers, behind_place, held_for, stabilizing, target_for}
use Rattle.sled_core.proofs.Line.Entered.{filled_last}
use Rattle.sled_core.proofs.Holds.Facts.{current_facts}
use Rattle.sled_core.proofs.Line.LineEnds.{behind_still}
use Rattle.sled_core.proofs.Reached.StableBelow.{stable_low}
pub use Rattle.sled_core.proofs.Holds.ReachLemmas.{reserved_small as reserved_in_reach}

not_less : (a b : ℤ) → b ≤ℤ a → int_lt a b ≡ false
not_less a b le = grind (arith, ints)

is_less : (a b : ℤ) → a <ℤ b → int_lt a b ≡ true
is_less a b lt = grind (arith, ints)

-- the place behind one that isn't below another, where its bits are read
pub behind_read : (lsn read : ℤ) (n : ℕ) → read ≡ lsn → pos n ≤ℤ lsn → unsigned_abs read + 1 ≡ behind_place lsn
behind_read lsn read n same above = ap (λ z. unsigned_abs z + 1) same ∙ by lsn above where
  by : (z : ℤ) → pos n ≤ℤ z → unsigned_abs z + 1 ≡ behind_place z
  by (pos k) high = refl
  by (negsuc k) high = absurd (omega (arith, ints, high))

-- A place that is tested is behind the last one before an end, or before an end.
pub above_read : (lsn got read last : ℤ) (end : ℕ) → read ≡ lsn → last ≡ got → got ≡ pos end -ℤ pos 1 → le_z read last ≡ false → pos end ≤ℤ lsn
above_read lsn got read last end same it is test = grind (arith, ints, same, it, is, test)

pub inside_read : (lsn read last : ℤ) (end : ℕ) → read ≡ lsn → last ≡ pos end → le_z last read ≡ false → lsn <ℤ pos end
inside_read lsn read last end same it test = grind (arith, ints, same, it, test)

-- It ends within the segments.
pub reserved_ends : {D C : Type 0} (log : Log D C) → reserved_end log ≤ line_end log.config.config.segment_size (line_of log)
reserved_ends log =
    let most = (filled_last log.config.config.segment_size log.reserved_to (segment_view log.segments.first) (map segment_view log.segments.behind.items) log.line.filled).1 in
    let facts = current_facts log in
    let short = facts.short in
    let at = facts.at in
    omega (arith, most, short, at, ap (λ n. n * log.config.config.segment_size) (length-map log.segments.behind.items segment_view), suc-mul (length log.segments.behind.items) log.config.config.segment_size)

module _ {D C : Type 0} (sum : List ℕ → ℕ) (log : Log D C) (lsn : ℤ) where
  -- One that is durable.
  pub holds_none : lsn <ℤ pos (stable_end log) → held_for sum log lsn ≡ None
  holds_none below = ap (λ (o : Bool). if o then None else holding_below sum log (target_for log lsn)) (is_less lsn (pos (stable_end log)) below)

  behind_lower : lsn <ℤ pos (stable_end log) → behind_place lsn ≤ stable_end log
  behind_lower below = by lsn below where
    by : (z : ℤ) → z <ℤ pos (stable_end log) → behind_place z ≤ stable_end log
    by (pos n) low = omega (arith, ints, low)
    by (negsuc n) low = omega arith

  pub behind_stable : lsn <ℤ pos (stable_end log) → target_for log lsn ≤ synced_end log
  behind_stable below =
      let low = behind_lower below in
      let still = behind_still log (behind_place lsn) low in
      let under = stable_low (synced_end log) (noted_in log) in
      omega (arith, low, still, under)

  -- One that isn't: what was written is what makes it durable, and what holds that up is what is asked of it.
  module _ (to : ℕ) (is : to ≡ target_for log lsn) (above : pos (stable_end log) ≤ℤ lsn) where
    pub wrote_for : writing_below sum log to ≡ stabilizing sum log lsn
    wrote_for = ap (writing_below sum log) is ∙ sym (ap (λ (o : Bool). if o then [] else writing_below sum log (target_for log lsn)) (not_less lsn (pos (stable_end log)) above))

    pub held_up : holding_below sum log to ≡ held_for sum log lsn
    held_up = ap (holding_below sum log) is ∙ sym (ap (λ (o : Bool). if o then None else holding_below sum log (target_for log lsn)) (not_less lsn (pos (stable_end log)) above))

-- A call that failed did what another one did that it answers for.
pub done_as : (T S : Type 0) (e : Error) (P Q : Type 0) → (P → Q) → OnDone {T = T} (Err e) P → OnDone {T = S} (Err e) Q
done_as T S (Held at) P Q more done = more done
done_as T S _ P Q more done = tt

-- What a call that failed answers of a place that was reserved.
pub stable_answers : (T S : Type 0) (e : Error) (lsn : ℤ) (stable end : ℕ) (held : Option ℕ) (used : Type 0) (old now : Option IoError) (before after : ℕ) → pos stable ≤ℤ lsn → lsn <ℤ pos end → old ≡ None → HeldAnswers {T = T} (Err e) held used None now before after
    → StableAnswers {T = S} (Err e) lsn stable end held used old now before after
stable_answers T S e lsn stable end held used old now before after above inside none answers = subst (λ (o : Option IoError). StableAnswers {T = S} (Err e) lsn stable end held used o now before after) (sym none) (by e answers) where
  by : (x : Error) → HeldAnswers {T = T} (Err x) held used None now before after → StableAnswers {T = S} (Err x) lsn stable end held used None now before after
  by (Held at) answers = (above, inside, answers)
  by (Io x) answers = (λ _. (above, inside), answers)
  by OutOfMemory answers = (above, inside, answers.0, answers.1, answers.2, answers.3)
  by PlacesUsedUp answers = (above, inside, answers)
  by _ answers = absurd answers
