-- The device fails within a step of the accountant, and the slots are on the way: each has the segment that it had, or has lost one that ends at the mark's or
-- below, and they are the account of what is marked. A log that keeps the failure fits what it fitted, with these slots.
use Rattle.std.specs.declared.io.Error.{Error as IoError}
use Rattle.std.proofs.Common.{◌≡◌, ◌<◌, ◌≤◌, ℕ, List, [], ◌∷◌, None, Some, refl, sym, subst, arith}
use Rattle.std.specs.List.{Contains}
use Rattle.sled_codec.specs.History.{Batch, History}
use Rattle.sled_codec.specs.Snapshots.{SnapshotModel}
use Rattle.sled_store.specs.Device.{NamesState, State}
use Rattle.sled_store.specs.SegmentStates.{Machine, slot_at}
use Rattle.sled_store.specs.SnapshotFiles.{BeginsFrom}
use Rattle.sled_store.specs.Tracked.{IsAccountOf}
use Rattle.sled_store.proofs.Histories.Ascending.{Ascends}
use Rattle.sled_store.proofs.Marks.AccountSteps.{same_account}
use Rattle.sled_store.proofs.Marks.FreedSteps.{free_unneeded}
use Rattle.sled_store.proofs.Marks.SlotMoves.{KeepOrLose, LosesSegment}
use Rattle.sled_store.proofs.Names.OneBegin.{one_begin}
use Rattle.sled_core.specs.declared.logger.joined_marks.JoinedMarks.{JoinedMarks}
use Rattle.sled_core.specs.Begun.{SegmentView}
use Rattle.sled_core.specs.LogSegments.{begins_from}
use Rattle.sled_core.specs.Logged.{logged}
use Rattle.sled_core.specs.OpenBatches.{stable_below}
use Rattle.sled_core.specs.Unmarked.{without}
use Rattle.sled_core.specs.inside.Begun.{line_end}
use Rattle.sled_core.specs.inside.LogSegments.{held_since}
use Rattle.sled_core.specs.inside.Numbers.{HaveSlots}
use Rattle.sled_core.specs.inside.Running.{FitsShown}
use Rattle.sled_core.specs.inside.Shown.{shown}
use Rattle.sled_core.specs.inside.Slots.{HasAccount}
use Rattle.sled_core.proofs.Cleared.Emptied.{NoneNeeds}
use Rattle.sled_core.proofs.Freed.SlotsLost.{in_slots_lost, numbers_lost, slots_lost}
use Rattle.sled_core.proofs.Line.Faulty.{numbers_placed, slots_line_faulty}
use Rattle.sled_core.proofs.Line.MarksJoin.{marks_base}
use Rattle.sled_core.proofs.Line.Segments.{AreSegments}
use Rattle.sled_core.proofs.Line.StepAlong.{IsSince, StopsWell}
use Rattle.sled_core.proofs.Line.StepFits.{line_above}
use Rattle.sled_core.proofs.Numbers.Stay.{numbers_less}
use Rattle.sled_core.proofs.Start.StartedAccount.{all_marked}

module _ (sum : List ℕ → ℕ) (marks : JoinedMarks) (noted : List Batch) (size : ℕ) (big : 256 ≤ size) (s : State) (m : Machine) (pins : ℕ) (H : History)
    (A f : ℕ) (order : Ascends H.messages) (v : SegmentView) (vs : List SegmentView) (are : AreSegments size v.parts.site.place (v ∷ vs))
    (fits : FitsShown sum marks noted size s None (v ∷ vs) m pins H A f []) (n : Machine) (between : KeepOrLose size (begins_from size marks.joined) m n)
    (has : HasAccount sum marks size s.snapshots.file H [] n) where
  abbrev line : List SegmentView
  line = v ∷ vs

  abbrev base : ℕ
  base = begins_from size marks.joined

  abbrev held : ℕ
  held = held_since size marks has.first

  some : 0 < size
  some = omega (arith, big)

  low : (u : SegmentView) → Contains line u → base ≤ u.parts.site.place
  low u there =
      let up = line_above size v.parts.site.place line are u there in
      let under = marks_base sum marks size big (shown size None m line s) None line (logged H) fits.shows.parts.holds in
      omega (arith, up, under)

  account : IsAccountOf size held H n
  account = same_account size held (without [] H) n has.account H (sym (all_marked H.messages))

  unneeded : (k : ℕ) → LosesSegment size base (slot_at m k) (slot_at n k) → NoneNeeds size H k held held
  unneeded k lost cut above below page e entry = free_unneeded size held H n account cut page k e above entry lost.free

  -- A moment since then at which a log stops well, with the slots behind the step.
  module _ (after : Machine) (t : State) (since : IsSince sum size s t) (stops : StopsWell sum marks noted size line after pins H A f [] t) (e : IoError) where
    abbrev its : FitsShown sum marks noted size t (Some e) line after pins H A f []
    its = stops.fits e

    in_slots : (first : SnapshotModel) → has.first ≡ first → HaveSlots sum size (held_since size marks first) H (stable_below its.shows.reach H.batches) after
        → HaveSlots sum size (held_since size marks first) H (stable_below its.shows.reach H.batches) n
    in_slots first same behind =
        let was = fits.shows.in_slots has.first has.begins in
        let old : HaveSlots sum size held H (stable_below its.shows.reach H.batches) m = record {
          later = was.later;
          older = was.older;
          not_above = λ zeros.
              subst (λ (x : SnapshotModel). held_since size marks x ≤ stable_below its.shows.reach H.batches) (sym same) (behind.not_above zeros);
        } in
        subst (λ (x : SnapshotModel). HaveSlots sum size (held_since size marks x) H (stable_below its.shows.reach H.batches) n) same
        (in_slots_lost size base some m n between sum H order held held (stable_below its.shows.reach H.batches) (omega arith) (omega arith)
        old.not_above unneeded old)

    pub between_fits : FitsShown sum marks noted size t (Some e) line n pins H A f []
    between_fits = record {
      shows = record {
        reach = its.shows.reach;
        parts = its.shows.parts;
        batches = its.shows.batches;
        slots =
            slots_lost size base some m n between line t.log.bytes t.log.bytes (Some e) low (λ none. cc)
            (slots_line_faulty size line (shown size None m line s).log.bytes t.log.bytes None m fits.shows.slots e (Some e) refl);
        whole = λ none zeros. cc;
        own = λ none zeros. cc;
        account = subst (λ (x : NamesState). HasAccount sum marks size x.file H [] n) (sym since.snapshots) has;
        numbers = λ zeros.
            numbers_less sum size t s since.less n (line_end size line)
            (numbers_lost size base some m n between sum base base (omega arith) (omega arith) s (line_end size line)
            (numbers_placed sum size (shown size None m line s) s m (line_end size line) refl (fits.shows.numbers zeros)));
        in_slots = λ first begins.
            in_slots first
            (one_begin sum s.snapshots.file has.first first has.begins
            (subst (λ (x : NamesState). BeginsFrom sum x.file first) since.snapshots begins))
            (its.shows.in_slots first begins);
      };
      rests = λ none. cc;
      hides = λ none zeros. cc;
      marked = λ none zeros. cc;
      passed = λ none. cc;
      clean = λ none low. cc;
    }
