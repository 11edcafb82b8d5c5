-- Once the message of a ticket is completed the log holds and fits the history with that message.
use Rattle.std.proofs.Common.{◌≡◌, ◌∙◌, ◌-◌, ◌<◌, sym, subst, ℕ, false, List, ◌∷◌, set, Some, None}
use Rattle.std.specs.List.{slice_get}
use Rattle.sled_codec.specs.History.{AddsMessage, Batch, History, Message}
use Rattle.sled_store.specs.Accounts.{machine_of}
use Rattle.sled_store.specs.Device.{Trace, state_of}
use Rattle.sled_store.specs.Outdated.{MayName}
use Rattle.sled_store.specs.SegmentStates.{Machine}
use Rattle.sled_store.proofs.Marks.OutdatedSteps.{none_outdated}
use Rattle.sled_store.proofs.Marks.TableLemmas.{apart_ascends}
use Rattle.sled_core.specs.Begun.{SegmentView}
use Rattle.sled_core.specs.Buffers.{message_in}
use Rattle.sled_core.specs.Fits.{line_of, noted_in}
use Rattle.sled_core.specs.Logged.{in_log, logged}
use Rattle.sled_core.specs.Manifests.{is_manifest}
use Rattle.sled_core.specs.Running.{IsStored}
use Rattle.sled_core.specs.Tickets.{is_manifest_of}
use Rattle.sled_core.specs.declared.iobuf.ReservationState.TheVariants.{Completed}
use Rattle.sled_core.specs.declared.iobuf.Reserved.{Reserved}
use Rattle.sled_core.specs.declared.logger.Log.{Log}
use Rattle.sled_core.specs.declared.reservation.Reservation.{Reservation}
use Rattle.sled_core.specs.inside.Buffers.{completing}
use Rattle.sled_core.specs.inside.MarksFit.{ArePassedFrom}
use Rattle.sled_core.specs.inside.Fits.{HoldsWith, written_to}
use Rattle.sled_core.specs.inside.Shown.{shown_of}
use Rattle.sled_core.specs.inside.Turned.{ChangesLine, ended_now}
use Rattle.sled_core.specs.invariants.Fits.{Holds}
use Rattle.sled_core.specs.invariants.Running.{Fits}
use Rattle.sled_core.proofs.Holds.Facts.{nth_facts}
use Rattle.sled_core.proofs.Holds.ReachLemmas.{fits_apart}
use Rattle.sled_core.proofs.Line.EndedLine.{completing_short}
use Rattle.sled_core.proofs.Line.Ends.{fits_completed, holds_completed}
use Rattle.sled_core.proofs.Line.HidesBeyond.{hides_beyond}
use Rattle.sled_core.proofs.Line.TicketEnds.{EndsAt, IsReservedAt, ticket_fits, ticket_holds}
use Rattle.sled_core.proofs.Logged.Messages.{put_real}

module _ {D C : Type 0} {old : Log D C} {ticket : Reservation} {n index : ℕ} (f : IsReservedAt old ticket n index) where
  abbrev v : SegmentView
  v = f.segment

  abbrev r : Reserved
  r = f.reserved

  abbrev i : ℕ
  i = index - f.segment.gone

  abbrev size : ℕ
  size = old.config.config.segment_size

  -- where the segments in memory begin
  abbrev least : ℕ
  least = old.segments.first.site.place

  abbrev machine : Machine
  machine = machine_of old.accountant

  module _ {new : Log D C} (line : (u : SegmentView) (x : Reserved) → slice_get (line_of old) n ≡ Some u → slice_get u.parts.reserved (index - u.gone) ≡ Some x
      → line_of new ≡ set (line_of old) n (ended_now (index - u.gone) x (completing x) Completed u)) where
    -- Its reservation ends as that of a completed message.
    abbrev pub ends_completed : EndsAt old new ticket n index Completed
    ends_completed = record {
      at = f;
      text = completing r;
      short = completing_short v i r (nth_facts old n v f.among) f.there f.own.open_yet;
      line = line v r f.among f.there;
    }

    module _ (rest : ChangesLine old new) (message : is_manifest_of ticket ≡ false) (trace : D → Trace) (sum : List ℕ → ℕ) (m : Message)
        (its : in_log m ≡ message_in v.parts.site v.parts.bytes r) (H : History) where
      plain : is_manifest r.log_kind r.page ≡ false
      plain = sym f.own.manifest ∙ message

      pub completed_holds : Holds trace sum old H → (H' : History) × AddsMessage H m H' × Holds trace sum new H'
      unfolding Holds
      completed_holds holds =
          let done = holds_completed sum size (shown_of trace old) old.fault.kept (line_of old) n v f.among least (nth_facts old) i r f.there f.own.open_yet
          machine (noted_in old) plain (logged H) holds.shows in
          let real = put_real (HoldsWith sum old.marks (noted_in old) size (shown_of trace old) old.fault.kept
          (set (line_of old) n (ended_now i r (completing r) Completed v)) machine) H m done.0
          (subst (λ (x : Message). AddsMessage (logged H) x done.0) (sym its) done.1) done.2 in
          (real.0, real.1, ticket_holds ends_completed rest trace sum real.0 holds.rests real.2)

      pub completed_fits : (A g : ℕ) (U : List Message) → Fits trace sum old H A g U → IsStored trace sum old m → MayName H m → old.fault.kept ≡ None
          → 0 < old.pins → (H' : History) × AddsMessage H m H' × Fits trace sum new H' A g (m ∷ U)
      unfolding Fits
      completed_fits A g U fits stored may ok out =
          let apart = apart_ascends H.messages (fits_apart trace sum old H A g U fits) in
          let none = none_outdated size H machine apart fits.shows.account.outdated m may in
          let done = fits_completed sum size (shown_of trace old) old.fault.kept (line_of old) n v f.among least (nth_facts old) i r f.there f.own.open_yet
          machine (noted_in old) m its stored.below stored.item none plain old.pins H A g U old.config.config.least ok out fits.shows in (
            done.0,
            done.1,
            ticket_fits ends_completed rest trace sum done.0 A g (m ∷ U)
                (hides_beyond sum old.marks (noted_in old) size old.config.config.least (state_of (trace old.config.device))
                old.fault.kept (line_of old) machine old.pins H A g U fits done.0 done.3) fits.marked
                (λ none. subst (λ (bs : List Batch).
                ArePassedFrom sum (state_of (trace old.config.device)).snapshots.file (written_to (line_of old)) bs old.marks) (sym done.1.batches) (fits.passed none)) fits.clean
                fits.rests done.2,
          )
