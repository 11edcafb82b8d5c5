-- A log of which a caller sees nothing that is another holds and fits what it did.
use Rattle.std.proofs.Common.{refl, ◌≡◌, ◌∙◌, ap, sym, arith, subst, ℕ, List}
use Rattle.sled_store.specs.Accounts.{machine_of}
use Rattle.sled_store.specs.Device.{Trace}
use Rattle.sled_store.specs.declared.config.RunningConfig.{RunningConfig}
use Rattle.sled_core.specs.Begun.{SegmentView, segment_view}
use Rattle.sled_core.specs.declared.logger.Log.{Log}
use Rattle.sled_core.specs.declared.logger.joined_marks.JoinedMarks.{JoinedMarks}
use Rattle.sled_core.specs.inside.Fits.{written_to}
use Rattle.sled_core.specs.Fits.{AwaitsIn, IsUnchanged, KeepsAll, KeepsTickets, current_of, given_up_of, line_of, machine_at, noted_in, segment_size_of, synced_end}
use Rattle.sled_core.specs.invariants.Fits.{Holds}
use Rattle.sled_core.specs.GivenUp.{given_up_along}
use Rattle.sled_core.specs.Keeps.{Preserves, SamePosition}
use Rattle.sled_core.specs.OpenPlaces.{open_places_along}
use Rattle.sled_core.specs.Pool.{Pool}
use Rattle.sled_core.specs.Positions.{position_in}
use Rattle.sled_core.specs.invariants.Running.{Fits}
use Rattle.sled_core.specs.inside.Turned.{ChangesLine}
use Rattle.sled_core.specs.Waiting.{last_of}
use Rattle.sled_core.proofs.Line.Among.{among_same}
use Rattle.sled_core.proofs.Line.KeptCalls.{goes_on_quietly}
use Rattle.sled_core.proofs.Line.LineEnds.{kept_same, noted_quiet, noted_same}
use Rattle.sled_core.proofs.Line.Moves.{fits_as, holds_as}
use Rattle.sled_core.specs.Logged.{in_log}
use Rattle.sled_core.proofs.Line.AccountBehind.{account_unchanged}

-- A call that changes the segments alone, and leaves what is seen of them, leaves it so.
pub left_alone : {D C : Type 0} (old new : Log D C) → line_of new ≡ line_of old → ChangesLine old new → IsUnchanged old new
left_alone old new line rest = record { line = line; reserved = rest.reserved; fault = rest.fault; pins = rest.pins; marks = rest.marks; machine = ap machine_of rest.accountant; noted = noted_same old new rest.noted (ap written_to line); kept = kept_same old new rest.noted; config = rest.config; pooled = ap (λ (x : Pool). x.count) rest.pool }

module _ {D C : Type 0} (old new : Log D C) (same : IsUnchanged old new) where
  unchanged_synced : synced_end new ≡ synced_end old
  unchanged_synced = ap written_to same.line

  pub unchanged_current : current_of new ≡ current_of old
  unchanged_current = ap (last_of (segment_view old.segments.first)) same.line

  pub unchanged_size : segment_size_of new ≡ segment_size_of old
  unchanged_size = ap (λ (x : RunningConfig D C). x.config.segment_size) same.config

  pub unchanged_same : KeepsAll old new
  unchanged_same = record { config = same.config; synced = unchanged_synced; noted = same.noted; kept = same.kept; fault = same.fault; pins = same.pins; account = account_unchanged old new same }

  pub unchanged_tickets : KeepsTickets old new
  unchanged_tickets = record {
    awaits = λ ticket m awaits. subst (λ (l : List SegmentView). AwaitsIn l ticket (in_log m)) (sym same.line) awaits;
    opens = ap open_places_along same.line;
    given_up = among_same (given_up_of new) (given_up_of old) (ap given_up_along same.line);
  }

  pub unchanged_position : SamePosition old new
  unchanged_position = record {
    position = λ i. position_in (unchanged_size i) (unchanged_current i) (same.machine i);
    reserved = same.reserved;
    pins = same.pins;
    joined = ap (λ (x : JoinedMarks). x.joined) same.marks;
    size = unchanged_size;
  }

  pub unchanged_keeps : (trace : D → Trace) (sum : List ℕ → ℕ) → Preserves trace sum old new
  unfolding Holds Fits
  unchanged_keeps trace sum = record {
    goes_on = goes_on_quietly trace sum old new (record { config = ap (λ (x : RunningConfig D C). x.config) same.config; checksum = ap (λ (x : RunningConfig D C). x.checksum) same.config })
        (ap (λ (x : RunningConfig D C). trace x.device) same.config) (let is = unchanged_synced in omega (arith, is)) (λ none. sym same.fault ∙ none);
    history = λ H holds. holds_as trace sum old new same.config same.fault same.marks (noted_in old) same.noted (line_of old) same.line (machine_at old)
        same.machine (λ l. refl) holds.rests H holds.shows;
    fits = λ H A f U fits. fits_as trace sum old new same.config same.fault same.marks (noted_in old) same.noted (line_of old) same.line (machine_at old)
        same.machine (λ l. refl) fits.rests H A f U same.pins fits.hides fits.marked fits.passed fits.clean fits.shows;
    noted = noted_quiet old new same.noted unchanged_synced;
    kept = same.kept;
  }

-- nothing was done
pub unchanged_still : {D C : Type 0} (log : Log D C) → IsUnchanged log log
unchanged_still log = record { line = refl; reserved = refl; fault = refl; pins = refl; marks = refl; machine = refl; noted = refl; kept = omega arith; config = refl; pooled = refl }
