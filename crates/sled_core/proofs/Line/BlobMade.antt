-- A blob is made under the next place of a log, or its calls come as far as a failure: the log goes on, and holds and fits what it did.
use Rattle.std.proofs.Common.{◌≡◌, ◌⊎◌, ◌<◌, ◌≤ℤ◌, ap, refl, sym, subst, arith, inl, inr, ℕ, ℤ, pos, Bool, true, List, Option, None, Some}
use Rattle.std.proofs.lemmas.Int.{ints}
use Rattle.std.specs.declared.io.Error.{Error as IoError}
use Rattle.std.proofs.lemmas.List.Elements.{All-contains}
use Rattle.sled_codec.specs.History.{Batch, Message, History}
use Rattle.sled_store.specs.Blobs.{making}
use Rattle.sled_store.specs.Device.{BlobMade, BlobSynced, Event, State, Trace, state_of, step}
use Rattle.sled_store.specs.Moments.{LeavesOnly}
use Rattle.sled_store.specs.inside.Script.{Along}
use Rattle.sled_store.specs.Script.{Performs, after_all}
use Rattle.sled_store.specs.SegmentStates.{Machine}
use Rattle.sled_store.proofs.Traces.MomentLemmas.{at_last, weaker}
use Rattle.sled_store.proofs.Traces.ScriptLemmas.{later_performed, performs_throughout}
use Rattle.sled_core.specs.inside.Shown.{shown_of}
use Rattle.sled_core.specs.declared.logger.Log.{Log}
use Rattle.sled_core.specs.Begun.{SegmentView}
use Rattle.sled_core.specs.invariants.Fits.{Holds}
use Rattle.sled_core.specs.inside.Lasting.{LastsFrom}
use Rattle.sled_core.specs.inside.Fits.{HoldsShown}
use Rattle.sled_core.specs.Fits.{device_of, fault_of, line_of, machine_at, next_place, noted_in, pins_of, segment_size_of}
use Rattle.sled_core.specs.Keeps.{Preserves}
use Rattle.sled_core.specs.Logged.{logged}
use Rattle.sled_core.specs.Reading.{BlobIsBelow}
use Rattle.sled_core.specs.Recoverable.{LeavesRecoverable, RecoverableIfOwn}
use Rattle.sled_core.specs.invariants.Running.{Fits}
use Rattle.sled_core.specs.inside.Running.{FitsShown}
use Rattle.sled_core.specs.Running.{IsStored, KeepsItem}
use Rattle.sled_core.specs.declared.logger.joined_marks.JoinedMarks.{JoinedMarks}
use Rattle.sled_core.specs.inside.Turned.{ChangesDevice}
use Rattle.sled_core.proofs.Blobs.StaysOwn.{own_same}
use Rattle.sled_core.proofs.Blobs.Along.{fits_made, leaves_making}
use Rattle.sled_core.proofs.Blobs.Over.{shown_holds_over}
use Rattle.sled_core.proofs.Blobs.Events.{ReadsNames, own_reads}
use Rattle.sled_core.proofs.Blobs.ItemsStay.{items_made}
use Rattle.sled_core.proofs.Blobs.Unnamed.{IsUnnamed}
use Rattle.sled_core.proofs.Holds.StoredItems.{items_same}
use Rattle.sled_core.proofs.Holds.ReachLemmas.{fits_reach}
use Rattle.sled_core.proofs.Line.NumbersKept.{fits_lasts}
use Rattle.sled_core.proofs.Numbers.Lasting.{lasts_leaves}
use Rattle.sled_core.proofs.Line.DeviceChanged.{device_fits, device_holds, device_kept, device_noted, device_stable}

-- Where no failure is kept the blob was made, where there was none, or nothing was changed.
abbrev pub IsMadeOrSame : Option IoError → Trace → Trace → ℤ → List ℕ → Type 0
IsMadeOrSame fault before after p bytes = fault ≡ None → (after ≡ before) ⊎ (((state_of before).blobs.file p ≡ None) × (after ≡ after_all (making p bytes) before))

-- What a log holds hangs on its blobs in nothing, and on its snapshots by what is read of them.
holds_along : {marks : JoinedMarks} (sum : List ℕ → ℕ) (size : ℕ) (p : ℤ) (bytes : List ℕ) (noted : List Batch) (fault : Option IoError) (line : List SegmentView) (m : Machine) (H : History) (s : State) → HoldsShown sum marks noted size s fault line m H
    → Along (λ t. HoldsShown sum marks noted size t fault line m H) (making p bytes) s
holds_along {marks} sum size p bytes noted fault line m H s holds =
    let P : State → Type 0 = λ t. HoldsShown sum marks noted size t fault line m H in
    let made : (asked now : List ℕ) (done : Bool) → P (step (BlobMade p asked now done) s) = λ asked now done. shown_holds_over sum size s _ _ fault refl noted line m H holds in
    let whole : State = step (BlobMade p bytes bytes true) s in
    let synced : State = step (BlobSynced p) whole in
    let one : P whole = made bytes bytes true in
    let two : P synced = shown_holds_over sum size whole _ _ fault refl noted line m H one in
    (holds, λ torn tears. subst (λ (e : Event). P (step e s)) (sym tears.2) (made bytes tears.0 tears.1), (one, λ torn tears. absurd tears, (two, λ torn tears. absurd tears, shown_holds_over sum size synced _ _ fault refl noted line m H two)))

module _ {D C : Type 0} (trace : D → Trace) (sum : List ℕ → ℕ) (old new : Log D C) (rest : ChangesDevice old new) (bytes : List ℕ) (calls : Performs (making (pos (next_place old)) bytes) (trace (device_of old)) (trace (device_of new))) (none : fault_of old ≡ None)
    (kept : (fault_of new ≡ fault_of old) ⊎ ((e : IoError) × (fault_of new ≡ Some e)))
    (whole : IsMadeOrSame (fault_of new) (trace (device_of old)) (trace (device_of new)) (pos (next_place old)) bytes) where
  abbrev p : ℤ
  p = pos (next_place old)

  abbrev before : State
  before = state_of (trace (device_of old))

  -- All that a history names lies below that place.
  unnamed : (H : History) (A f : ℕ) (U : List Message) → Fits trace sum old H A f U → IsUnnamed H p
  unfolding Fits
  unnamed H A f U fits m there lid q is same =
      let low : m.place < next_place old = All-contains (λ (x : Message). x.place < next_place old) H.messages m (fits_reach trace sum old H A f U fits) there in
      let below : q ≤ℤ pos m.place = subst (BlobIsBelow m) is (fits.shows.parts.items.below m there) in
      let high : pos (next_place old) ≤ℤ pos m.place = subst (λ (z : ℤ). z ≤ℤ pos m.place) same below in
      omega (arith, ints, low, high)

  reads : (H : History) (A f : ℕ) (U : List Message) → Fits trace sum old H A f U → ReadsNames sum p before
  unfolding Fits
  reads H A f U fits = own_reads sum p before (own_same sum (shown_of trace old) before refl refl (fits.shows.parts.named.own_names none))

  leaves : (H : History) (A f : ℕ) (U : List Message) → Fits trace sum old H A f U → LeavesOnly (RecoverableIfOwn sum (segment_size_of old) H A f) (trace (device_of old)) (trace (device_of new))
  leaves H A f U fits =
      let size : ℕ = segment_size_of old in
      let is = fits_lasts trace sum old H A f U fits in
      weaker (LastsFrom sum size H is.stable f) (LeavesRecoverable sum size H A f) (λ s lasts. lasts_leaves sum size H A f s is.stable is.passes lasts)
      (trace (device_of old)) (trace (device_of new))
      (performs_throughout (LastsFrom sum size H is.stable f) (making p bytes) (trace (device_of old)) (trace (device_of new)) calls
      (leaves_making sum size p H bytes before (reads H A f U fits) (unnamed H A f U fits) is.stable f is.lasts))

  holds : (H : History) → Holds trace sum old H → Holds trace sum new H
  unfolding Holds
  holds H held =
      let P : State → Type 0 = λ s. HoldsShown sum old.marks (noted_in old) (segment_size_of old) s (fault_of old) (line_of old) (machine_at old) (logged H) in
      device_holds old new rest trace sum kept H (at_last P (trace (device_of old)) (trace (device_of new)) (performs_throughout P (making p bytes) (trace (device_of old)) (trace (device_of new)) calls
      (holds_along sum (segment_size_of old) p bytes (noted_in old) (fault_of old) (line_of old) (machine_at old) (logged H) before held)))

  fits_on : (H : History) (A f : ℕ) (U : List Message) → Fits trace sum old H A f U → Fits trace sum new H A f U
  unfolding Fits
  fits_on H A f U fits =
      let P : State → Type 0 = λ s. FitsShown sum old.marks (noted_in old) (segment_size_of old) s (fault_of old) (line_of old) (machine_at old) (pins_of old) H A f U in
      device_fits old new rest trace sum kept H A f U (at_last P (trace (device_of old)) (trace (device_of new))
      (fits_made sum (segment_size_of old) p H (trace (device_of old)) (trace (device_of new)) bytes (reads H A f U fits) calls (unnamed H A f U fits) old.marks (noted_in old) (fault_of old) (line_of old) (machine_at old) (pins_of old) A f U fits))

  items : fault_of new ≡ None → (m : Message) → IsStored trace sum old m → IsStored trace sum new m
  items well m stored = elim (whole well) [
    | inl same ↦ items_same trace sum old new (ap (λ (t : Trace). (state_of t).blobs) same) m stored
    | inr made ↦ record { below = stored.below; item = subst (λ (t : Trace). KeepsItem sum (state_of t).blobs m m.pointer) (sym made.1) (items_made sum before.blobs p bytes made.0 m m.pointer stored.item) }
  ]

  pub made_blob_keeps : Preserves trace sum old new
  made_blob_keeps = record {
    goes_on = record {
      config = record { config = rest.config; checksum = rest.checksum };
      later = later_performed (making p bytes) (trace (device_of old)) (trace (device_of new)) calls;
      stable = device_stable old new rest;
      crash = leaves;
      sound = λ _. none;
      items = λ well m spared stored. items well m stored;
    };
    history = holds;
    fits = fits_on;
    noted = device_noted old new rest;
    kept = device_kept old new rest;
  }
