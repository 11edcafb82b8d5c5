-- A reservation is made with a pin of its own, which goes back where that is refused: then as many are out as were. A mark that is due has one too.
use Rattle.std.proofs.Common.{◌≡◌, ◌≢◌, ◌∙◌, ◌+◌, ◌-◌, ◌<◌, nat_lt, ℕ, true, List, [], ◌∷◌, length, Option, None, Some, refl, sym, ap, subst, arith}
use Rattle.std.proofs.lemmas.Bool.Decides.{nat_tests}
use Rattle.sled_codec.specs.History.{History, Message}
use Rattle.sled_store.specs.declared.config.Config.{Config}
use Rattle.sled_store.specs.Device.{Trace}
use Rattle.sled_core.specs.Account.{account_of}
use Rattle.sled_core.specs.declared.logger.Log.{Log}
use Rattle.sled_core.specs.Fits.{config_of, fault_of, pins_of, segment_size_of}
use Rattle.sled_core.specs.Keeps.{ConfigKept, GoesOn, KeepsSeen, Preserves}
use Rattle.sled_core.specs.invariants.Running.{Fits}
use Rattle.sled_core.proofs.PublicLaws.{goes_on_further, kept_further}
use Rattle.sled_log.specs.declared.session.marking.Due.{Due}
use Rattle.sled_log.specs.declared.session.opened.Origin.{Origin}
use Rattle.sled_log.specs.RunPhases.{AreUnmarked}

-- a log with one pin more, and with one less
abbrev pub pinned_log : {D C : Type 0} → Log D C → Log D C
pinned_log log = record log { pins = pins_of log + 1 }

abbrev pub unpinned_log : {D C : Type 0} → Log D C → Log D C
unpinned_log log = record log { pins = pins_of log - 1 }

-- some are out then
pub some_out : (n : ℕ) → nat_lt 0 (n + 1) ≡ true
some_out n = grind (arith, nat_tests)

-- so there are where a message isn't marked yet
pub out_for : (U : List Message) (tickets pins : ℕ) → pins ≡ tickets + length U → U ≢ [] → 0 < pins
out_for [] tickets pins is some = absurd (some refl)
out_for (m ∷ ms) tickets pins is some = omega (arith, is)

-- What a log was opened on stays, as it goes on.
pub origin_kept : {D C : Type 0} (old new : Log D C) (floor : ℕ) (o : Origin) → ConfigKept (config_of old) (config_of new)
    → o ≡ record { size = segment_size_of old; floor = floor } → o ≡ record { size = segment_size_of new; floor = floor }
origin_kept old new floor o kept is = subst (λ (n : ℕ). o ≡ record { size = n; floor = floor }) (sym (ap (λ (x : Config). x.segment_size) kept.config)) is

-- Which messages aren't marked yet.
module _ {D C : Type 0} (old new : Log D C) (H : History) where
  -- None isn't, where no mark is due;
  pub none_unmarked : (d : Option Due) (U : List Message) → d ≡ None → AreUnmarked old H d U → U ≡ []
  none_unmarked d U none are = subst (λ (x : Option Due). AreUnmarked old H x U) none are

  -- so it is with another log,
  pub unmarked_none : (d e : Option Due) → e ≡ d → d ≡ None → (U : List Message) → AreUnmarked old H d U → AreUnmarked new H e U
  unmarked_none d e same none U are = subst (λ (x : Option Due). AreUnmarked new H x U) (sym (same ∙ none)) (none_unmarked d U none are)

  -- and with any mark where that keeps no failure that the one before didn't keep.
  pub unmarked_kept : (d e : Option Due) → e ≡ d → (fault_of old ≡ None → fault_of new ≡ None) → (U : List Message) → AreUnmarked old H d U → AreUnmarked new H e U
  unmarked_kept d e same sound U are = subst (λ (x : Option Due). AreUnmarked new H x U) (sym same) (by d are) where
    by : (x : Option Due) → AreUnmarked old H x U → AreUnmarked new H x U
    by None none = none
    by (Some y) one = (
      one.0,
      one.1,
      record {
        there = one.2.there;
        is = one.2.is;
        kind = one.2.kind;
        newest = one.2.newest;
        beside = one.2.beside;
        former = one.2.former;
        sound = sound one.2.sound;
      },
    )

-- A call was made of a log with a pin of its own, which went back then.
pub record IsMadeWithPin {D C : Type 0} (trace : D → Trace) (sum : List ℕ → ℕ) (old log : Log D C) : Type 0 where
  pub pin : Preserves trace sum old (pinned_log old)
  pub keeps : Preserves trace sum (pinned_log old) log
  pub seen : KeepsSeen (pinned_log old) log
  pub back : (H : History) (A f : ℕ) (U : List Message) → Fits trace sum log H A f U → (U ≢ [] → 1 < pins_of log) → Fits trace sum (unpinned_log log) H A f U
  pub goes_on : GoesOn trace sum log (unpinned_log log)

module _ {D C : Type 0} (trace : D → Trace) (sum : List ℕ → ℕ) (old log : Log D C) (made : IsMadeWithPin trace sum old log) where
  -- As many are out as were,
  pub back_pins : pins_of (unpinned_log log) ≡ pins_of old
  back_pins = let more = made.seen.pins in omega (arith, more)

  pub back_account : account_of (unpinned_log log) ≡ account_of old
  back_account = λ i. record { mark = (made.seen.account i).mark; durable = (made.seen.account i).durable; pinned = nat_lt 0 (back_pins i) }

  -- and the log goes on, and fits what it fitted.
  pub back_on : GoesOn trace sum old (unpinned_log log)
  back_on = goes_on_further trace sum old log (unpinned_log log) (kept_further trace sum old (pinned_log old) log made.pin made.keeps) made.goes_on

  pub back_fits : (H : History) (A f : ℕ) (U : List Message) → (U ≢ [] → 0 < pins_of old) → Fits trace sum old H A f U → Fits trace sum (unpinned_log log) H A f U
  back_fits H A f U out fits =
      made.back H A f U (made.keeps.fits H A f U (made.pin.fits H A f U fits)) (λ some. let more = made.seen.pins in let were = out some in omega (arith, more, were))
