-- What was so of a device and a configuration, where calls left them as they were.
use Rattle.std.proofs.Common.{◌≡◌, ℕ, List, sym, subst}
use Rattle.sled_store.specs.declared.config.Config.{Config}
use Rattle.sled_store.specs.Device.{State, Trace, state_of}

module _ (P : ℕ → List ℕ → Type 0) (old new : Config) (before after : Trace) (same_config : new ≡ old) (same_trace : after ≡ before) where
  -- what is found later was so before
  pub was_so : P new.segment_size (state_of after).log.bytes → P old.segment_size (state_of before).log.bytes
  was_so holds = subst (λ (x : Config). P x.segment_size (state_of before).log.bytes) same_config (subst (λ (t : Trace). P new.segment_size (state_of t).log.bytes) same_trace holds)

  -- and what was so is so later
  pub still_so : P old.segment_size (state_of before).log.bytes → P new.segment_size (state_of after).log.bytes
  still_so holds = subst (λ (x : Config). P x.segment_size (state_of after).log.bytes) (sym same_config) (subst (λ (t : Trace). P old.segment_size (state_of t).log.bytes) (sym same_trace) holds)

-- the same of all that the device has
module _ (P : ℕ → State → Type 0) (old new : Config) (before after : Trace) (same_config : new ≡ old) (same_trace : after ≡ before) where
  pub was_so_in : P new.segment_size (state_of after) → P old.segment_size (state_of before)
  was_so_in holds = subst (λ (x : Config). P x.segment_size (state_of before)) same_config (subst (λ (t : Trace). P new.segment_size (state_of t)) same_trace holds)

  pub still_so_in : P old.segment_size (state_of before) → P new.segment_size (state_of after)
  still_so_in holds = subst (λ (x : Config). P x.segment_size (state_of after)) (sym same_config) (subst (λ (t : Trace). P old.segment_size (state_of t)) (sym same_trace) holds)
