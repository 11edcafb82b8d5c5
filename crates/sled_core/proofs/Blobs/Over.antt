-- A log over a device that has the same log file, and the same snapshots to read, holds what it held; and it fits that, where a crash leaves of the names what it could leave before, but for a blob that no message names.
use Rattle.std.proofs.Common.{◌≡◌, ◌+◌, ℕ, ℤ, List, [], ◌∷◌, map, Option, arith, refl, sym, subst}
use Rattle.std.specs.declared.io.Error.{Error as IoError}
use Rattle.sled_codec.specs.History.{Batch, Message, History}
use Rattle.sled_codec.specs.Snapshots.{SnapshotModel}
use Rattle.sled_store.specs.Device.{NamesState, State}
use Rattle.sled_store.specs.SegmentStates.{Machine}
use Rattle.sled_core.specs.declared.iobuf.Reserved.{Reserved}
use Rattle.sled_core.specs.declared.iobuf.Sealed.{Sealed}
use Rattle.sled_core.specs.declared.iobuf.SegmentPosition.{SegmentPosition}
use Rattle.sled_core.specs.Begun.{SegmentParts, SegmentView}
use Rattle.sled_core.specs.Fits.{held_of}
use Rattle.sled_core.specs.declared.logger.joined_marks.JoinedMarks.{JoinedMarks}
use Rattle.sled_core.specs.inside.Cleared.{cleared}
use Rattle.sled_core.specs.inside.Fits.{HoldBehind, HoldsIn, HoldsLine, HoldsSegment, HoldsShown, HoldsWith, log_parts, parts_in, written_to}
use Rattle.sled_core.specs.inside.LogFile.{StaysBelow}
use Rattle.sled_core.specs.LogFile.{StaysFrom}
use Rattle.sled_core.specs.Logged.{logged}
use Rattle.sled_core.specs.OpenBatches.{stable_below}
use Rattle.sled_core.specs.inside.Begun.{line_end}
use Rattle.sled_core.specs.inside.Lasting.{LeavesRecovering}
use Rattle.sled_core.specs.inside.MarksFit.{ArePassedFrom, MarksFitFrom}
use Rattle.sled_core.specs.inside.Numbers.{HaveSlotsFrom}
use Rattle.sled_core.specs.inside.Running.{FitsIn, FitsLine, FitsShown, FitsWith, HaveItems, HaveNames}
use Rattle.sled_core.specs.inside.Shown.{shown}
use Rattle.sled_core.specs.inside.Slots.{HasAccount}
use Rattle.sled_core.proofs.Blobs.Leaves.{ChangesAt, with_names, blobs_fit_beside, names_fit_beside, leaves_beside, entries_beside, stored_beside}
use Rattle.sled_core.proofs.Blobs.StaysOwn.{own_same}
use Rattle.sled_core.proofs.Blobs.Unnamed.{IsUnnamed}
use Rattle.sled_core.proofs.Flush.FlushLemmas.{holds_over}
use Rattle.sled_core.proofs.Numbers.HidesAs.{from_names}
use Rattle.sled_core.proofs.Numbers.OwnLess.{less_same}
use Rattle.sled_core.proofs.Numbers.Stay.{numbers_less}

-- a device with this log file, and all else of another one
abbrev pub with_rest : State → State → State
with_rest device other = record { log = device.log; blobs = other.blobs; snapshots = other.snapshots; temporary = other.temporary; placed = other.placed }

module _ (sum : List ℕ → ℕ) (size : ℕ) (device other : State) (fault : Option IoError) where
  abbrev new : State
  new = with_rest device other

  -- a segment is of the log file alone
  segment_over : (site : SegmentPosition) (bytes : List ℕ) (from : ℕ) (bs : List Sealed) (rs : List Reserved) (stays : Message → Type 0) (H : History)
      → HoldsSegment sum (log_parts size site device fault bytes from bs rs) stays H → HoldsSegment sum (log_parts size site new fault bytes from bs rs) stays H
  segment_over site bytes from bs rs stays H holds = record {
    records = holds.records;
    written = holds.written;
    laid = holds.laid;
  }

  behind_over : (place : ℕ) (ss : List SegmentParts) (stays : Message → Type 0) (batches : List Batch) (ms : List Message) → HoldBehind sum size device fault place ss stays batches ms → HoldBehind sum size new fault place ss stays batches ms
  behind_over place [] stays batches ms holds = holds
  behind_over place (s ∷ ss) stays batches ms (own, later, all, here, rest) = (
    own,
    later,
    all,
    record {
      next = here.next;
      inside = here.inside;
      are = here.are;
      held = here.held;
      behind = here.behind;
      segment = segment_over s.site s.bytes s.written_len s.sealed s.reserved stays (record { messages = own; batches = batches }) here.segment;
      above = here.above;
    },
    behind_over (place + size) ss stays batches later rest,
  )

  module _ (names : other.snapshots.file ≡ device.snapshots.file) where
    module _ (site : SegmentPosition) (bytes : List ℕ) (from : ℕ) (bs : List Sealed) (rs : List Reserved) (behind : List SegmentParts) (H : History) where
      unfoldable in_over : {marks : JoinedMarks} → HoldsIn sum marks (log_parts size site device fault bytes from bs rs) behind H → HoldsIn sum marks (log_parts size site new fault bytes from bs rs) behind H
      in_over holds =
          holds_over sum size site device fault bytes from bs rs behind H holds new fault bytes from bs rs names (omega arith)
          (segment_over site bytes from bs rs (StaysFrom H (held_of holds.begun)) (record { messages = holds.head; batches = H.batches }) holds.own)
          (behind_over (site.place + size) behind (StaysBelow H (held_of holds.begun) site.place) H.batches holds.later holds.others)

    pub line_over : (marks : JoinedMarks) (line : List SegmentView) (H : History) → HoldsLine sum marks size device fault line H → HoldsLine sum marks size new fault line H
    line_over marks [] H holds = holds
    line_over marks (v ∷ vs) H holds = in_over v.parts.site v.parts.bytes v.parts.written_len v.parts.sealed v.parts.reserved (map parts_in vs) H holds

  -- It fits what it fitted, where its blobs have the items still, its names are those of the history, and what a crash leaves can be recovered.
  module _ (same_files : other.snapshots.file ≡ device.snapshots.file) (H : History) (A f : ℕ) (U : List Message)
      (named : (first : SnapshotModel) → HaveNames sum size device fault (logged H) f first → HaveNames sum size new fault (logged H) f first) where
    -- what is stable up to a place needs no more of the blobs and of a crash than before
    abbrev pub KeepsNeeds : ℕ → Type 0
    KeepsNeeds stable = (HaveItems sum device.blobs H stable → HaveItems sum other.blobs H stable) × (LeavesRecovering sum size H stable f device → LeavesRecovering sum size H stable f new)

    fits_in_over : (site : SegmentPosition) (bytes : List ℕ) (from : ℕ) (bs : List Sealed) (rs : List Reserved) (behind : List SegmentParts) (reach pins : ℕ) → KeepsNeeds (stable_below reach H.batches)
        → {marks : JoinedMarks} → FitsIn sum marks (log_parts size site device fault bytes from bs rs) behind reach pins H A f U → FitsIn sum marks (log_parts size site new fault bytes from bs rs) behind reach pins H A f U
    unfolding in_over
    fits_in_over site bytes from bs rs behind reach pins (items, left) fits = record {
      holds = in_over same_files site bytes from bs rs behind (logged H) fits.holds;
      reached = fits.reached;
      among = fits.among;
      beyond = fits.beyond;
      items = items fits.items;
      named = named fits.holds.begun.first fits.named;
      passes = fits.passes;
      pinned = fits.pinned;
      left = left fits.left;
    }

    pub fits_line_over : (marks : JoinedMarks) (line : List SegmentView) (reach pins : ℕ) → KeepsNeeds (stable_below reach H.batches) → FitsLine sum marks size device fault line reach pins H A f U → FitsLine sum marks size new fault line reach pins H A f U
    fits_line_over marks [] reach pins keeps fits = fits
    fits_line_over marks (v ∷ vs) reach pins keeps fits = fits_in_over v.parts.site v.parts.bytes v.parts.written_len v.parts.sealed v.parts.reserved (map parts_in vs) reach pins keeps fits

-- Where the blobs and the snapshots are others alone.
module _ (sum : List ℕ → ℕ) (size : ℕ) (device : State) (blobs snapshots : NamesState) (fault : Option IoError) where
  abbrev named_new : State
  named_new = with_names device blobs snapshots

  -- A log holds what it held.
  pub holds_over_names : snapshots.file ≡ device.snapshots.file → (noted : List Batch) (line : List SegmentView) (m : Machine) (H : History)
      → {marks : JoinedMarks} → HoldsWith sum marks noted size device fault line m H → HoldsWith sum marks noted size named_new fault line m H
  holds_over_names names noted line m H holds =
      record { holds = line_over sum size device named_new fault names _ line H holds.holds; batches = holds.batches; slots = holds.slots }

  -- It fits what it fitted, where its blobs have the items still, its names are those of the history, and what a crash leaves can be recovered.
  module _ (same_files : snapshots.file ≡ device.snapshots.file) (H : History) (A f : ℕ) (U : List Message)
      (named : (first : SnapshotModel) → HaveNames sum size device fault (logged H) f first → HaveNames sum size named_new fault (logged H) f first) where
    -- it is read up to the same place
    pub fits_over_blobs : {marks : JoinedMarks} (noted : List Batch) (line : List SegmentView) (m : Machine) (pins : ℕ)
        (fits : FitsWith sum marks noted size device fault line m pins H A f U)
        → KeepsNeeds sum size device named_new fault same_files H A f U named (stable_below fits.reach H.batches)
        → (now : FitsWith sum marks noted size named_new fault line m pins H A f U) × (now.reach ≡ fits.reach)
    fits_over_blobs {marks} noted line m pins fits keeps = (
      record {
        reach = fits.reach;
        parts = fits_line_over sum size device named_new fault same_files H A f U named _ line fits.reach pins keeps fits.parts;
        batches = fits.batches;
        slots = fits.slots;
        whole = fits.whole;
        own = fits.own;
        account = subst (λ (file : ℤ → Option (List ℕ)). HasAccount sum marks size file H U m) (sym same_files) fits.account;
        numbers = λ zeros. numbers_less sum size named_new device (less_same sum size named_new device (λ i. device.placed)) m (line_end size line) (fits.numbers zeros);
        in_slots = subst (λ (file : ℤ → Option (List ℕ)). HaveSlotsFrom sum marks size file H (stable_below fits.reach H.batches) m) (sym same_files) fits.in_slots;
      },
      refl,
    )

  -- So it is where a crash leaves of the names what it could leave before, but for a blob that no message names.
  module _ (p : ℤ) (changes : ChangesAt sum p device blobs snapshots) (H : History) (unnamed : IsUnnamed H p) (A f : ℕ) (U : List Message) where
    names_over : (first : SnapshotModel) → HaveNames sum size device fault (logged H) f first → HaveNames sum size named_new fault (logged H) f first
    names_over first named = record {
      names = names_fit_beside sum p device blobs snapshots changes (logged H) size f first named.names;
      own_names = λ none. changes.stay_own (named.own_names none);
    }

    needs_over : (stable : ℕ) → KeepsNeeds sum size device named_new fault changes.same_files H A f U names_over stable
    needs_over stable = (
      λ items. record {
        blobs = blobs_fit_beside sum p device blobs snapshots changes H unnamed stable items.blobs;
        stored = stored_beside sum p device blobs snapshots changes H unnamed stable items.stored;
        entries = entries_beside sum p device blobs snapshots changes H unnamed stable items.entries;
        below = items.below;
      },
      leaves_beside sum p device blobs snapshots changes H unnamed size stable f,
    )

    pub fits_over_names : (noted : List Batch) (line : List SegmentView) (m : Machine) (pins : ℕ) → {marks : JoinedMarks} → FitsWith sum marks noted size device fault line m pins H A f U → FitsWith sum marks noted size named_new fault line m pins H A f U
    fits_over_names noted line m pins fits = (fits_over_blobs changes.same_files H A f U names_over noted line m pins fits (needs_over (stable_below fits.reach H.batches))).0

-- So it is over what a log shows of its device: that is the same with other names.
module _ (sum : List ℕ → ℕ) (size : ℕ) (device : State) (blobs snapshots : NamesState) (fault : Option IoError) where
  pub shown_holds_over : snapshots.file ≡ device.snapshots.file → (noted : List Batch) (line : List SegmentView) (m : Machine) (H : History)
      → {marks : JoinedMarks} → HoldsShown sum marks noted size device fault line m H → HoldsShown sum marks noted size (with_names device blobs snapshots) fault line m H
  shown_holds_over names noted line m H holds = record {
    shows = holds_over_names sum size (shown size fault m line device) blobs snapshots fault names noted line m H holds.shows;
    rests = holds.rests;
  }

  pub shown_fits_over : (p : ℤ) (changes : ChangesAt sum p device blobs snapshots) (H : History) (unnamed : IsUnnamed H p) (A f : ℕ) (U : List Message)
      (marks : JoinedMarks) (noted : List Batch) (line : List SegmentView) (m : Machine) (pins : ℕ)
      → FitsShown sum marks noted size device fault line m pins H A f U
      → FitsShown sum marks noted size (with_names device blobs snapshots) fault line m pins H A f U
  shown_fits_over p changes H unnamed A f U marks noted line m pins fits =
      let sees : State = shown size fault m line device in
      let same : ChangesAt sum p sees blobs snapshots = record {
        of_blobs = changes.of_blobs;
        of_snapshots = changes.of_snapshots;
        same_files = changes.same_files;
        stay_own = λ own.
            own_same sum (with_names device blobs snapshots) (with_names sees blobs snapshots) refl refl
            (changes.stay_own (own_same sum sees device refl refl own));
      } in
      record {
        shows = fits_over_names sum size sees blobs snapshots fault p same H unnamed A f U noted line m pins fits.shows;
        rests = fits.rests;
        hides = λ none zeros.
            from_names sum size device (with_names device blobs snapshots) m line (logged H) refl refl changes.same_files (fits.hides none zeros);
        marked = λ none zeros. subst (λ (file : ℤ → Option (List ℕ)). MarksFitFrom sum size file (cleared size m line device.log.bytes) marks)
            (sym changes.same_files) (fits.marked none zeros);
        passed = λ none. subst (λ (file : ℤ → Option (List ℕ)). ArePassedFrom sum file (written_to line) H.batches marks) (sym changes.same_files)
            (fits.passed none);
        clean = fits.clean;
      }
