-- The blob of one reservation is removed, or the device fails in that, and the log keeps the failure: it goes on without the blob, and holds what it did.
use Rattle.std.proofs.Common.{◌≡◌, ◌⊎◌, ◌∙◌, refl, ap, sym, subst, inl, ℕ, ℤ, Bool, true, List, [], ◌∷◌, Option, None, Some, Result, Ok, Err}
use Rattle.std.specs.Prelude.{IfErr, OnOk, ◌≢◌}
use Rattle.std.specs.declared.io.Error.{Error as IoError}
use Rattle.sled_codec.specs.declared.result.Error.{Error}
use Rattle.sled_codec.specs.declared.result.Error.TheVariants as error
use Rattle.sled_codec.specs.History.{Batch, Message, History}
use Rattle.sled_store.specs.Blobs.{RemoveAnswers, removing_blobs}
use Rattle.sled_store.specs.Device.{BlobRemoved, Event, State, Trace, state_of, step}
use Rattle.sled_store.specs.Moments.{LeavesOnly}
use Rattle.sled_store.specs.inside.Script.{Along}
use Rattle.sled_store.specs.Script.{Performs, Stops}
use Rattle.sled_store.specs.SegmentStates.{Machine}
use Rattle.sled_store.specs.declared.config.RunningConfig.{RunningConfig}
use Rattle.sled_store.proofs.Traces.MomentLemmas.{at_last, weaker}
use Rattle.sled_store.proofs.Traces.ScriptLemmas.{later_performed, performs_throughout}
use Rattle.sled_core.specs.declared.logger.Log.{Log}
use Rattle.sled_core.specs.Begun.{SegmentView}
use Rattle.sled_core.specs.inside.Lasting.{LastsFrom}
use Rattle.sled_core.specs.inside.Causes.{fault_in}
use Rattle.sled_core.specs.invariants.Fits.{Holds}
use Rattle.sled_core.specs.inside.Fits.{HoldsShown}
use Rattle.sled_core.specs.Fits.{config_of, device_of, fault_of, line_of, machine_at, noted_in, pins_of, segment_size_of}
use Rattle.sled_core.specs.Logged.{logged}
use Rattle.sled_core.specs.OwnBlobs.{AreBeside, IsBeside, PreservesWithout, RemovesBlob, removing}
use Rattle.sled_core.specs.Recoverable.{LeavesRecoverable, RecoverableIfOwn}
use Rattle.sled_core.specs.invariants.Running.{Fits}
use Rattle.sled_core.specs.inside.Running.{FitsShown}
use Rattle.sled_core.specs.Running.{IsStored, KeepsItem}
use Rattle.sled_core.specs.declared.logger.joined_marks.JoinedMarks.{JoinedMarks}
use Rattle.sled_core.specs.inside.Turned.{ChangesDevice}
use Rattle.sled_core.proofs.Blobs.Along.{fits_removed, leaves_removing}
use Rattle.sled_core.proofs.Blobs.ItemsStay.{items_removed}
use Rattle.sled_core.proofs.Blobs.Over.{shown_holds_over}
use Rattle.sled_core.proofs.Line.NumbersKept.{fits_lasts}
use Rattle.sled_core.proofs.Numbers.Lasting.{lasts_leaves}
use Rattle.sled_core.proofs.Line.DeviceChanged.{device_fits, device_holds, device_kept, device_noted, device_stable}
use Rattle.sled_core.proofs.Line.MadeAnswers.{kept_by}

-- Where the log keeps no failure behind it, the call was done.
pub removed_whole : (result : Result (Unit {0}) Error) (before after : ℕ) (P : Type 0) → RemoveAnswers result before after → IfErr result (λ e. e ≢ error.OutOfMemory) → OnOk result P → fault_in result ≡ None → P
removed_whole (Ok u) before after P did memory done none = done
removed_whole (Err (error.Io e)) before after P did memory done none = let clash : Some e ≡ None = sym (kept_by e true did.0) ∙ none in cc
removed_whole (Err error.OutOfMemory) before after P did memory done none = absurd (memory refl)
removed_whole (Err (error.Unsupported text)) before after P did memory done none = absurd did
removed_whole (Err error.PlacesUsedUp) before after P did memory done none = absurd did
removed_whole (Err (error.Corruption at)) before after P did memory done none = absurd did
removed_whole (Err (error.NotReserved at)) before after P did memory done none = absurd did
removed_whole (Err (error.CollectionNotFound name)) before after P did memory done none = absurd did
removed_whole (Err (error.ReportableBug text)) before after P did memory done none = absurd did
removed_whole (Err (error.Held at)) before after P did memory done none = absurd did

-- What a log holds hangs on its blobs in nothing.
holds_along : {marks : JoinedMarks} (sum : List ℕ → ℕ) (size : ℕ) (p : ℤ) (noted : List Batch) (fault : Option IoError) (line : List SegmentView) (m : Machine) (H : History) (s : State) → HoldsShown sum marks noted size s fault line m H
    → Along (λ t. HoldsShown sum marks noted size t fault line m H) (removing_blobs (p ∷ [])) s
holds_along {marks} sum size p noted fault line m H s holds =
    let P : State → Type 0 = λ t. HoldsShown sum marks noted size t fault line m H in
    let gone : (done : Bool) → P (step (BlobRemoved p done) s) = λ done. shown_holds_over sum size s _ _ fault refl noted line m H holds in
    (holds, λ torn tears. subst (λ (e : Event). P (step e s)) (sym tears.1) (gone tears.0), gone true)

module _ {D C : Type 0} (trace : D → Trace) (sum : List ℕ → ℕ) (old new : Log D C) (rest : ChangesDevice old new) (p : ℤ) (calls : Performs (removing_blobs (p ∷ [])) (trace (device_of old)) (trace (device_of new))) (none : fault_of old ≡ None)
    (kept : (fault_of new ≡ fault_of old) ⊎ ((e : IoError) × (fault_of new ≡ Some e)))
    (whole : fault_of new ≡ None → trace (device_of new) ≡ BlobRemoved p true ∷ trace (device_of old)) where
  abbrev before : State
  before = state_of (trace (device_of old))

  leaves : (H : History) (A f : ℕ) (U : List Message) → Fits trace sum old H A f U → AreBeside (Some p) H → LeavesOnly (RecoverableIfOwn sum (segment_size_of old) H A f) (trace (device_of old)) (trace (device_of new))
  leaves H A f U fits beside =
      let size : ℕ = segment_size_of old in
      let is = fits_lasts trace sum old H A f U fits in
      weaker (LastsFrom sum size H is.stable f) (LeavesRecoverable sum size H A f) (λ s lasts. lasts_leaves sum size H A f s is.stable is.passes lasts)
      (trace (device_of old)) (trace (device_of new))
      (performs_throughout (LastsFrom sum size H is.stable f) (removing_blobs (p ∷ [])) (trace (device_of old)) (trace (device_of new)) calls
      (leaves_removing sum size p H before beside is.stable f is.lasts))

  holds : (H : History) → Holds trace sum old H → Holds trace sum new H
  unfolding Holds
  holds H held =
      let P : State → Type 0 = λ s. HoldsShown sum old.marks (noted_in old) (segment_size_of old) s (fault_of old) (line_of old) (machine_at old) (logged H) in
      device_holds old new rest trace sum kept H (at_last P (trace (device_of old)) (trace (device_of new)) (performs_throughout P (removing_blobs (p ∷ [])) (trace (device_of old)) (trace (device_of new)) calls
      (holds_along sum (segment_size_of old) p (noted_in old) (fault_of old) (line_of old) (machine_at old) (logged H) before held)))

  fits_on : (H : History) (A f : ℕ) (U : List Message) → Fits trace sum old H A f U → AreBeside (Some p) H → Fits trace sum new H A f U
  unfolding Fits
  fits_on H A f U fits beside =
      let P : State → Type 0 = λ s. FitsShown sum old.marks (noted_in old) (segment_size_of old) s (fault_of old) (line_of old) (machine_at old) (pins_of old) H A f U in
      device_fits old new rest trace sum kept H A f U (at_last P (trace (device_of old)) (trace (device_of new))
      (fits_removed sum (segment_size_of old) p H (trace (device_of old)) (trace (device_of new)) calls beside old.marks (noted_in old) (fault_of old) (line_of old) (machine_at old) (pins_of old) A f U fits))

  items : fault_of new ≡ None → (m : Message) → IsBeside (Some p) m → IsStored trace sum old m → IsStored trace sum new m
  items well m beside stored = record {
    below = stored.below;
    item = subst (λ (t : Trace). KeepsItem sum (state_of t).blobs m m.pointer) (sym (whole well)) (items_removed sum before.blobs p true m beside stored.item);
  }

  pub removed_blob_keeps : (blob : Option ℤ) → blob ≡ Some p → PreservesWithout trace sum blob old new
  removed_blob_keeps blob is = subst (λ (own : Option ℤ). PreservesWithout trace sum own old new) (sym is) (record {
    config = record { config = rest.config; checksum = rest.checksum };
    later = later_performed (removing_blobs (p ∷ [])) (trace (device_of old)) (trace (device_of new)) calls;
    stable = device_stable old new rest;
    sound = λ _. none;
    crash = leaves;
    items = items;
    history = holds;
    fits = fits_on;
    noted = device_noted old new rest;
    kept = device_kept old new rest;
  })

-- Which calls that removed a blob, if there was one.
module _ {T D C : Type 0} (trace : D → Trace) where
  -- nothing was done, since that was refused
  pub removes_nothing : (blob : Option ℤ) (log : Log D C) (e : Error) → RemovesBlob {T = T} trace (Err e) blob log log
  unfolding Performs Stops
  removes_nothing None log e = record { calls = refl; done = tt; none = λ _. refl }
  removes_nothing (Some p) log e = record { calls = inl (inl refl); done = tt; none = λ _. refl }

  -- behind the call that did it came one that left the device alone
  pub removes_further : (first : Result (Unit {0}) Error) (u : Unit {0}) (result : Result T Error) (own blob : Option ℤ) (old mid new : Log D C) → first ≡ Ok u → own ≡ blob → RemovesBlob trace first own old mid → config_of new ≡ config_of mid → RemovesBlob trace result blob old new
  removes_further first u result own blob old mid new ok is removes same = subst (λ (b : Option ℤ). RemovesBlob trace result b old new) is (record {
    calls = subst (λ (t : Trace). Performs (removing own) (trace (device_of old)) t) device removes.calls;
    done = at_ok result (sym device ∙ was_done first ok removes.done);
    none = λ gone. same ∙ removes.none gone;
  }) where
    device : trace (device_of mid) ≡ trace (device_of new)
    device = ap (λ (x : RunningConfig D C). trace x.device) (sym same)

    was_done : {P : Type 0} (r : Result (Unit {0}) Error) → r ≡ Ok u → OnOk r P → P
    was_done (Ok v) is did = did
    was_done (Err e) is did = cc

    at_ok : {P : Type 0} (r : Result T Error) → P → OnOk r P
    at_ok (Ok v) did = did
    at_ok (Err e) did = tt
