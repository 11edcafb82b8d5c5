-- A call that goes on without a blob keeps all that a log held and what it fitted of histories that don't name that: where it is followed by one that keeps all, and where there is no such blob.
use Rattle.std.proofs.Common.{◌≡◌, ◌≤◌, ◌∙◌, is_some, false, true, ℕ, ℤ, List, Option, None, Some, Result, Ok, Err, ap, sym, subst, inl, inr, arith}
use Rattle.std.specs.Prelude.{IsSome}
use Rattle.std.specs.declared.io.Error.{Error as IoError}
use Rattle.sled_codec.specs.declared.result.Error.{Error}
use Rattle.sled_codec.specs.declared.result.Error.TheVariants as error
use Rattle.sled_store.specs.declared.config.Config.{Config}
use Rattle.sled_store.specs.Device.{Trace}
use Rattle.sled_store.specs.Moments.{LeavesOnly}
use Rattle.sled_store.proofs.PublicLaws.{later_both}
use Rattle.sled_store.proofs.Traces.MomentLemmas.{joined}
use Rattle.sled_core.specs.declared.logger.Log.{Log}
use Rattle.sled_core.specs.Causes.{FaultAnswers}
use Rattle.sled_core.specs.Fits.{KeepsAll, device_of, fault_of, kept_batches}
use Rattle.sled_core.specs.Keeps.{KeepsSeen, Preserves}
use Rattle.sled_core.specs.OwnBlobs.{PreservesWithout, RemovedAnswers, RemovesBlob}
use Rattle.sled_core.specs.Recoverable.{RecoverableIfOwn}
use Rattle.sled_core.proofs.Line.KeptCalls.{kept_still}
use Rattle.sled_core.proofs.Line.LineEnds.{noted_further}

module _ {D C : Type 0} (trace : D → Trace) (sum : List ℕ → ℕ) where
  -- what keeps all keeps that
  pub without_kept : (blob : Option ℤ) (old new : Log D C) → Preserves trace sum old new → PreservesWithout trace sum blob old new
  without_kept blob old new keeps = record {
    config = keeps.goes_on.config;
    later = keeps.goes_on.later;
    stable = keeps.goes_on.stable;
    sound = keeps.goes_on.sound;
    crash = λ H A f U fits beside. keeps.goes_on.crash H A f U fits;
    items = λ none m beside stored. keeps.goes_on.items none m tt stored;
    history = keeps.history;
    fits = λ H A f U fits beside. keeps.fits H A f U fits;
    noted = keeps.noted;
    kept = keeps.kept;
  }

  -- nothing was done
  pub without_still : (blob : Option ℤ) (log : Log D C) → PreservesWithout trace sum blob log log
  without_still blob log = without_kept blob log log (kept_still trace sum log)

  -- one such call, and then one that keeps all
  pub without_further : (blob : Option ℤ) (old mid new : Log D C) → PreservesWithout trace sum blob old mid → Preserves trace sum mid new → PreservesWithout trace sum blob old new
  without_further blob old mid new first then = record {
    config = record { config = then.goes_on.config.config ∙ first.config.config; checksum = then.goes_on.config.checksum ∙ first.config.checksum };
    later = later_both _ _ _ first.later then.goes_on.later;
    stable = (let up = first.stable in let further = then.goes_on.stable in omega (arith, up, further));
    sound = λ none. first.sound (then.goes_on.sound none);
    crash = λ H A f U fits beside. joined _ _ _ _ (first.crash H A f U fits beside)
        (subst (λ n. LeavesOnly (RecoverableIfOwn sum n H A f) (trace (device_of mid)) (trace (device_of new))) (ap (λ (x : Config). x.segment_size) first.config.config)
        (then.goes_on.crash H A f U (first.fits H A f U fits beside)));
    items = λ none m beside stored. then.goes_on.items none m tt (first.items (then.goes_on.sound none) m beside stored);
    history = λ H holds. then.history H (first.history H holds);
    fits = λ H A f U fits beside. then.fits H A f U (first.fits H A f U fits beside);
    noted = noted_further old mid new then.goes_on.stable first.noted then.noted;
    kept = let before = first.kept in let after = then.kept in omega (arith, before, after);
  }

  -- without a blob all is kept
  pub without_none : (old new : Log D C) → PreservesWithout trace sum None old new → Preserves trace sum old new
  without_none old new keeps = record {
    goes_on = record {
      config = keeps.config;
      later = keeps.later;
      stable = keeps.stable;
      crash = λ H A f U fits. keeps.crash H A f U fits (λ m there. tt);
      sound = keeps.sound;
      items = λ none m spared stored. keeps.items none m tt stored;
    };
    history = keeps.history;
    fits = λ H A f U fits. keeps.fits H A f U fits (λ m there. tt);
    noted = keeps.noted;
    kept = keeps.kept;
  }

-- Where there is no such blob, the call fails only where the log keeps a failure, and leaves what that is;
pub alone_answers : {T : Type 0} (result : Result T Error) (blob : Option ℤ) (old new : Option IoError) (before after : ℕ) → blob ≡ None → RemovedAnswers result blob old new before after → FaultAnswers result old × (new ≡ old)
alone_answers (Ok v) blob old new before after none (is, now, same) = (is, now ∙ sym is)
alone_answers (Err (error.Io e)) blob old new before after none (inl (is, now, same)) = (is, now ∙ sym is)
alone_answers (Err (error.Io e)) None old new before after none (inr failed) = let clash : false ≡ true = failed.0 in cc
alone_answers (Err (error.Io e)) (Some p) old new before after none (inr failed) = cc
alone_answers (Err error.OutOfMemory) blob old new before after none answers = absurd answers
alone_answers (Err (error.Unsupported text)) blob old new before after none answers = absurd answers
alone_answers (Err error.PlacesUsedUp) blob old new before after none answers = absurd answers
alone_answers (Err (error.Corruption at)) blob old new before after none answers = absurd answers
alone_answers (Err (error.NotReserved at)) blob old new before after none answers = absurd answers
alone_answers (Err (error.CollectionNotFound name)) blob old new before after none answers = absurd answers
alone_answers (Err (error.ReportableBug text)) blob old new before after none answers = absurd answers
alone_answers (Err (error.Held at)) blob old new before after none answers = absurd answers

-- it asks nothing of the device, so what runs the log stays;
pub alone_keeps : {T D C : Type 0} (trace : D → Trace) (result : Result T Error) (blob : Option ℤ) (old new : Log D C) → blob ≡ None → RemovesBlob trace result blob old new → KeepsSeen old new → kept_batches new ≤ kept_batches old → fault_of new ≡ fault_of old → KeepsAll old new
alone_keeps trace result blob old new none removes seen kept fault = record { config = removes.none none; synced = seen.synced; noted = seen.noted; kept = kept; fault = fault; pins = seen.pins; account = seen.account }

-- and a log that keeps a failure is as it was.
pub alone_same : {D C : Type 0} (T : Type 0) (old new : Log D C) (e : Error) → FaultAnswers {T = T} (Err e) (fault_of old) → (IsSome (fault_of old) → new ≡ old) → new ≡ old
alone_same T old new (error.Io e) is same = same (ap is_some is)
alone_same T old new error.OutOfMemory is same = absurd is
alone_same T old new (error.Unsupported text) is same = absurd is
alone_same T old new error.PlacesUsedUp is same = absurd is
alone_same T old new (error.Corruption at) is same = absurd is
alone_same T old new (error.NotReserved at) is same = absurd is
alone_same T old new (error.CollectionNotFound name) is same = absurd is
alone_same T old new (error.ReportableBug text) is same = absurd is
alone_same T old new (error.Held at) is same = absurd is
