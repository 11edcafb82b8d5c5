-- What fits a history, is ready for it or can be recovered stays so where less counts as acknowledged, and where the floor is lower.
use Rattle.std.specs.declared.io.Error.{Error as IoError}
use Rattle.std.proofs.Common.{◌≤◌, ℕ, ℤ, List, [], ◌∷◌, map, Option, arith}
use Rattle.sled_codec.specs.History.{Message, History}
use Rattle.sled_codec.specs.Snapshots.{SnapshotModel}
use Rattle.sled_store.specs.Device.{Trace, Content, NamesState, State}
use Rattle.sled_core.specs.inside.Shown.{shown_of}
use Rattle.sled_core.specs.declared.logger.Log.{Log}
use Rattle.sled_core.specs.Begun.{SegmentParts, SegmentView}
use Rattle.sled_core.specs.inside.Fits.{LogParts, log_parts, parts_in}
use Rattle.sled_core.specs.Fits.{line_of}
use Rattle.sled_core.specs.Logged.{logged}
use Rattle.sled_core.specs.OpenBatches.{stable_below}
use Rattle.sled_core.specs.inside.Recoverable.{AreRecoverableSnapshots}
use Rattle.sled_core.specs.Recoverable.{LeavesRecoverable}
use Rattle.sled_core.specs.declared.logger.joined_marks.JoinedMarks.{JoinedMarks}
use Rattle.sled_core.specs.inside.Lasting.{LastsFrom, LeavesRecovering}
use Rattle.sled_core.specs.invariants.Lasting.{Lasts}
use Rattle.sled_core.specs.invariants.Recoverable.{Recoverable}
use Rattle.sled_core.specs.invariants.Running.{Fits, Ready}
use Rattle.sled_core.specs.inside.Running.{FitsIn, FitsLine, NamesFit}
use Rattle.sled_core.proofs.Flush.Settled.{recoverable_less}
use Rattle.sled_core.proofs.Holds.FitsAnew.{fits_anew}

module _ (sum : List ℕ → ℕ) (size f lower : ℕ) (low : lower ≤ f) where
  -- Snapshots that pass a floor pass a lower one,
  snapshots_low : (H : History) (snapshots : ℤ → Option (List ℕ)) (first : SnapshotModel)
      → AreRecoverableSnapshots sum size snapshots H f first → AreRecoverableSnapshots sum size snapshots H lower first
  snapshots_low H snapshots first are = record {
    begins = are.begins;
    listed = are.listed;
    not_below = (let above = are.not_below in omega (arith, above, low));
    active = are.active;
  }

  -- whatever a crash leaves of them,
  names_low : (H : History) (names : NamesState) (first : SnapshotModel) → NamesFit sum size names H f first → NamesFit sum size names H lower first
  names_low H names first fit = λ left leaves own. snapshots_low H left first (fit left leaves own)

  -- So what lasts does so where the floor is lower.
  lasts_low : {H : History} (stable : ℕ) (device : State) → LastsFrom sum size H stable f device → LastsFrom sum size H stable lower device
  unfolding Recoverable
  lasts_low {H} stable device lasts = record {
    can = λ left may own.
        let is = lasts.can left may own in
        record { first = is.first; cut = is.cut; snapshots = snapshots_low H left.snapshots is.first is.snapshots; log = is.log; blobs = is.blobs };
    numbers = lasts.numbers;
  }

  module _ (H : History) (A less : ℕ) (le : less ≤ A) where
    -- so what can be recovered can be,
    pub recoverable_claimed : (content : Content) → Recoverable sum size content H A f → Recoverable sum size content H less lower
    unfolding Recoverable
    recoverable_claimed content is =
        let fewer = recoverable_less sum size content H less A f le is in
        record {
          first = fewer.first;
          cut = fewer.cut;
          snapshots = snapshots_low H content.snapshots fewer.first fewer.snapshots;
          log = fewer.log;
          blobs = fewer.blobs;
        }

    -- and so can what a crash leaves,
    recovering_claimed : (device : State) → LeavesRecovering sum size H A f device → LeavesRecovering sum size H less lower device
    recovering_claimed device leaves = λ left may own. recoverable_claimed left (leaves left may own)

    -- also where it has to last.
    pub leaves_claimed : (device : State) → LeavesRecoverable sum size H A f device → LeavesRecoverable sum size H less lower device
    unfolding Lasts
    leaves_claimed device leaves = λ left may own.
        let both = leaves left may own in
        let passes = both.1.passes in (
          recoverable_claimed left both.0,
          record {
            stable = both.1.stable;
            passes = omega (arith, le, passes);
            lasts = lasts_low both.1.stable device both.1.lasts;
          },
        )

    pub ready_claimed : (device : State) (s : SnapshotModel) → Ready sum size device s H A f → Ready sum size device s H less lower
    unfolding Ready
    ready_claimed device s ready = record {
      ready = ready.ready;
      alone = ready.alone;
      active = ready.active;
      blobs = ready.blobs;
      entries = ready.entries;
      below = ready.below;
      names = names_low (logged H) device.snapshots ready.ready.first ready.names;
      own = ready.own;
      own_names = ready.own_names;
      passes = (let passes = ready.passes in omega (arith, le, passes));
      left = recovering_claimed device ready.left;
      numbers = ready.numbers;
    }

module _ (sum : List ℕ → ℕ) (H : History) (A less f lower : ℕ) (U : List Message) (le : less ≤ A) (low : lower ≤ f) where
  -- What segments fit they fit,
  fits_in_claimed : (parts : LogParts) (behind : List SegmentParts) (reach pins : ℕ) → {marks : JoinedMarks} → FitsIn sum marks parts behind reach pins H A f U
      → FitsIn sum marks parts behind reach pins H less lower U
  fits_in_claimed parts behind reach pins fits = record {
    holds = fits.holds;
    reached = fits.reached;
    among = fits.among;
    beyond = fits.beyond;
    items = fits.items;
    named = record {
      names = names_low sum parts.size f lower low (logged H) parts.device.snapshots fits.holds.begun.first fits.named.names;
      own_names = fits.named.own_names;
    };
    passes = (let passes = fits.passes in omega (arith, le, passes));
    pinned = fits.pinned;
    left = (let stable = stable_below reach H.batches in recovering_claimed sum parts.size f lower low H stable stable (omega arith) parts.device fits.left);
  }

  fits_line_claimed : (marks : JoinedMarks) (size : ℕ) (device : State) (fault : Option IoError) (line : List SegmentView) (reach pins : ℕ)
      → FitsLine sum marks size device fault line reach pins H A f U → FitsLine sum marks size device fault line reach pins H less lower U
  fits_line_claimed marks size device fault [] reach pins fits = fits
  fits_line_claimed marks size device fault (v ∷ vs) reach pins fits =
      fits_in_claimed (log_parts size v.parts.site device fault v.parts.bytes v.parts.written_len v.parts.sealed v.parts.reserved) (map parts_in vs) reach pins
      fits

  -- and so does a log.
  pub fits_claimed : {D C : Type 0} (trace : D → Trace) (log : Log D C) → Fits trace sum log H A f U → Fits trace sum log H less lower U
  unfolding Fits
  fits_claimed trace log fits =
      fits_anew fits log.pins less lower low
      (fits_line_claimed _ log.config.config.segment_size (shown_of trace log) log.fault.kept (line_of log) fits.shows.reach log.pins fits.shows.parts)
