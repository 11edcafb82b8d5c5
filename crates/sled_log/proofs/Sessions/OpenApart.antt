-- The place of an open ticket is that of no completed message, so no completed message has the ticket's own blob, and no other ticket's message has it.
use Rattle.std.proofs.Common.{⊎_elim, ◌≡◌, ◌≢◌, ◌∙◌, ◌-◌, ◌<◌, ℕ, ℤ, pos, Bool, true, false, if◌then◌else◌, List, Some, None, arith, sym, subst, refl, inl, inr}
use Rattle.std.specs.List.{Contains}
use Rattle.std.specs.Ordering.{int_eq}
use Rattle.std.proofs.lemmas.Bool.{cases_eq}
use Rattle.std.proofs.lemmas.Bool.Decides.{Decides-int_eq}
use Rattle.std.proofs.lemmas.List.Elements.{All-contains, Contains-append_cases}
use Rattle.sled_codec.specs.declared.result.DiskPtr.{DiskPtr}
use Rattle.sled_codec.specs.declared.result.DiskPtr.TheVariants.{Inline, Blob}
use Rattle.sled_codec.specs.History.{AddsMessage, History, Message}
use Rattle.sled_store.specs.Accounts.{machine_of}
use Rattle.sled_store.specs.Device.{Trace}
use Rattle.sled_store.specs.Outdated.{MayName}
use Rattle.sled_core.specs.declared.iobuf.Reserved.{Reserved}
use Rattle.sled_core.specs.declared.logger.Log.{Log}
use Rattle.sled_core.specs.declared.reservation.Reservation.{Reservation}
use Rattle.sled_core.specs.Begun.{SegmentView}
use Rattle.sled_core.specs.Fits.{Awaits, line_of, noted_in}
use Rattle.sled_core.specs.invariants.Fits.{Holds}
use Rattle.sled_core.specs.Logged.{logged}
use Rattle.sled_core.specs.Manifests.{manifest_page}
use Rattle.sled_core.specs.OwnBlobs.{AreBeside, IsBeside}
use Rattle.sled_core.specs.Reading.{IsInline}
use Rattle.sled_core.specs.Tickets.{index_of, is_manifest_of}
use Rattle.sled_core.specs.inside.Shown.{shown_of}
use Rattle.sled_core.proofs.Line.Ends.{holds_completed}
use Rattle.sled_core.proofs.Holds.Facts.{nth_facts}
use Rattle.sled_core.proofs.Logged.Messages.{adds_real}
use Rattle.sled_core.proofs.Read.FoundLemmas.{pos_injective}
use Rattle.sled_log.specs.Made.{HasBlobIn, IsMade, JoinsWithBlob}
use Rattle.sled_log.specs.declared.session.opened.Opened.{Opened}
use Rattle.sled_log.specs.RunPhases.{IsTicketFor}
use Rattle.sled_log.specs.RunStates.{top}
use Rattle.sled_log.specs.TicketSteps.{own_in}

-- A message can be put in at its place only where no other lies there.
put_apart : (H H' : History) (m : Message) → AddsMessage H m H' → (x : Message) → Contains H.messages x → x.place ≡ m.place → ⊥
put_apart H H' m adds x there same = ⊎_elim
    (λ before. let low = adds.lower x before in omega (arith, low, same))
    (λ after. let high = adds.higher x after in omega (arith, high, same))
    (Contains-append_cases adds.before adds.after x (subst (λ (ms : List Message). Contains ms x) adds.old there))

-- That of a ticket could be completed, so none of the history lies there.
pub none_there : {D C : Type 0} (trace : D → Trace) (sum : List ℕ → ℕ) (log : Log D C) (H : History) → Holds trace sum log H → (ticket : Reservation) (m : Message) → Awaits log ticket m → is_manifest_of ticket ≡ false
    → (x : Message) → Contains H.messages x → x.place ≡ m.place → ⊥
unfolding Holds
none_there trace sum log H holds ticket m awaits message =
    let v : SegmentView = awaits.segment in
    let r : Reserved = awaits.reserved in
    let done = holds_completed sum log.config.config.segment_size (shown_of trace log) log.fault.kept (line_of log) awaits.number v awaits.among log.segments.first.site.place (nth_facts log) (index_of ticket - v.gone) r awaits.there awaits.own.open_yet (machine_of log.accountant) (noted_in log)
    (sym awaits.own.manifest ∙ message) (logged H) holds.shows in
    let real = adds_real H m done.0 (subst (λ (x : Message). AddsMessage (logged H) x done.0) (sym awaits.message) done.1) in
    put_apart H real.0 m real.1

-- A message that has its item in its record has no blob.
pub inline_none : (place : ℤ) (p : DiskPtr) → IsInline p → own_in place p ≡ None
inline_none place (Inline lid) is = refl
inline_none place (Blob lid blob) is = absurd is

-- A message is beside what a ticket of a place made, where its blob, if it has one, has another name.
beside_from : (place : ℤ) (p : DiskPtr) (x : Message) → ((lid : ℕ) (q : ℤ) → x.pointer ≡ Blob lid q → q ≢ place) → IsBeside (own_in place p) x
beside_from place (Inline lid) x other = tt
beside_from place (Blob lid blob) x other = by (int_eq blob place) refl where
  by : (o : Bool) → int_eq blob place ≡ o → IsBeside (if o then Some blob else None) x
  by true is = λ l q points same. other l q points (same ∙ (Decides-int_eq blob place).0 is)
  by false is = tt

module _ (H : History) (m : Message) (p : DiskPtr) (none : (x : Message) → Contains H.messages x → x.place ≡ m.place → ⊥) where
  -- a blob that is at the place of a message of the history is at another one
  other_name : (y : Message) (q : ℤ) → Contains H.messages y → q ≡ pos y.place → q ≢ pos m.place
  other_name y q there at same = none y there (pos_injective y.place m.place (sym at ∙ same))

  -- So what a message that comes there names no message names, or one that makes its page what it is.
  pub joins_named : IsMade H → JoinsWithBlob H m m.pointer → MayName H m
  joins_named made joins blob names = ⊎_elim (λ own. inl (λ x there its.
      let has = subst (HasBlobIn H x) its.1 (made.blobs x there) in
      other_name has.0 blob has.1 has.3 own))
      (λ has. inr (record {
        cut = top;
        past = λ x there. All-contains (λ y. y.place < top) H.messages x made.low there;
        page = m.page;
        entry = has.5.0;
        there = has.5.1;
        names = has.5.2;
      })) (subst (JoinsWithBlob H m) names.1 joins)

  -- So are all of a history that a session makes,
  pub all_beside : IsMade H → AreBeside (own_in (pos m.place) p) H
  all_beside made = λ x there. beside_from (pos m.place) p x (λ lid q points.
      let has = subst (HasBlobIn H x) points (made.blobs x there) in
      other_name has.0 q has.1 has.3)

  -- and those of the other tickets.
  pub ticket_beside : {D C : Type 0} (trace : D → Trace) (sum : List ℕ → ℕ) (opened : Opened D C) (n : ℕ) (x : Message) → IsTicketFor trace sum opened H n x → (x.place ≡ m.place → ⊥) → IsBeside (own_in (pos m.place) p) x
  ticket_beside trace sum opened n x is apart = beside_from (pos m.place) p x (λ lid q points. ⊎_elim
      (λ manifest. absurd (subst IsInline points (is.begins_batch manifest).inline))
      (λ message. named lid q (subst (JoinsWithBlob H x) points (is.joins message).blob)) (cases_eq x.page manifest_page)) where
        named : (lid : ℕ) (q : ℤ) → JoinsWithBlob H x (Blob lid q) → q ≢ pos m.place
        named lid q joins = ⊎_elim (λ own. λ same. apart (pos_injective x.place m.place (sym own ∙ same))) (λ has. other_name has.0 q has.1 has.3) joins
