-- While a log starts on what a recovery left, each crash leaves a content that can be recovered.
use Rattle.std.proofs.Common.{◌≡◌, ◌≤◌, ◌∙◌, ◌*◌, ℕ, zero, suc, Bool, true, false, if◌then◌else◌, List, [], ◌∷◌, ◌++◌, length, map, refl, sym, ap, subst, arith}
use Rattle.sled_codec.specs.History.{History}
use Rattle.sled_codec.specs.Snapshots.{SnapshotModel, stable_place}
use Rattle.sled_store.specs.Begin.{slots_of, unused, fill, filling}
use Rattle.sled_store.specs.Device.{Event, Trace, LogState, NamesState, State, Content, Leaves, Cut, Synced, state_of, step, at_rest}
use Rattle.sled_store.specs.Moments.{AllLeft, LeavesOnly}
use Rattle.sled_store.specs.Script.{Performs, after_all}
use Rattle.sled_store.specs.inside.Script.{Along}
use Rattle.sled_store.specs.SegmentStates.{SlotState, may_be_cut, cutting}
use Rattle.sled_store.specs.Started.{found, started}
use Rattle.sled_store.proofs.Traces.MomentLemmas.{weaker}
use Rattle.sled_store.proofs.Traces.ScriptLemmas.{performs_throughout, along_first, along_last}
use Rattle.sled_core.specs.Logged.{logged}
use Rattle.sled_core.specs.invariants.Recoverable.{Recoverable}
use Rattle.sled_core.specs.Recoverable.{LeavesRecoverable, RecoverableIfOwn, NoForeign, NoHeaderOfZeros}
use Rattle.sled_core.specs.inside.Lasting.{IsLasting, LastsFrom, LeavesRecovering}
use Rattle.sled_core.proofs.Numbers.Lasting.{lasts_leaves}
use Rattle.sled_core.proofs.Numbers.OwnLess.{OwnLess}
use Rattle.sled_core.proofs.Numbers.Stay.{stay_less}
use Rattle.sled_core.proofs.Start.StartedNumbers.{starting_less}
use Rattle.sled_core.specs.inside.Running.{BlobsFit, NamesFit, IsReadyFor}
use Rattle.sled_core.specs.invariants.Running.{Ready}
use Rattle.sled_core.specs.inside.Reached.{StandsActive}
use Rattle.sled_core.proofs.Reached.StartedStands.{both_along}
use Rattle.sled_core.proofs.Start.StartedActive.{ActiveIfOwn, starting_active}
use Rattle.sled_core.proofs.Start.Recoverable.{same_place, stands_recoverable}
use Rattle.sled_core.proofs.Torn.KeptSlots.{along_both}

-- What holds along some calls where a premise is met, holds of each state where it is met.
pub along_if : (Z : Type 0) (P : State → Type 0) (es : List Event) (x : State) → (Z → Along P es x) → Along (λ y. Z → P y) es x
along_if Z P [] x is = is
along_if Z P (e ∷ es) x is = ((λ z. (is z).0), (λ torn tears z. (is z).1 torn tears), along_if Z P es (step e x) (λ z. (is z).2))

-- A state has the blobs and the snapshots of another.
record HasNames (old now : State) : Type 0 where
  blobs : now.blobs ≡ old.blobs
  snapshots : now.snapshots ≡ old.snapshots

-- No call of a start touches them.
module _ (size : ℕ) (old : State) where
  fills_names : (ks : List ℕ) (x : State) → HasNames old x → Along (HasNames old) (map (fill size) ks ++ Synced ∷ []) x
  fills_names [] x has = (has, (λ torn none. absurd none), record { blobs = has.blobs; snapshots = has.snapshots })
  fills_names (k ∷ ks) x has = (
    has,
    (λ torn tears. subst (λ (e : Event). HasNames old (step e x)) (sym tears.2) (record { blobs = has.blobs; snapshots = has.snapshots })),
    fills_names ks (step (fill size k) x) (record { blobs = has.blobs; snapshots = has.snapshots }),
  )

  filling_names : (ks : List ℕ) (x : State) → HasNames old x → Along (HasNames old) (filling size ks) x
  filling_names [] x has = has
  filling_names (k ∷ ks) x has = fills_names (k ∷ ks) x has

  cutting_names : (xs : List SlotState) (n : ℕ) (x : State) → HasNames old x → Along (HasNames old) (cutting size n xs) x
  cutting_names xs zero x has = has
  cutting_names xs (suc k) x has = by (may_be_cut k xs) (cutting_names xs k (step Synced (step (Cut (k * size) (k * size)) x)) (record { blobs = has.blobs; snapshots = has.snapshots }))
    where
      by : (b : Bool) → Along (HasNames old) (cutting size k xs) (step Synced (step (Cut (k * size) (k * size)) x)) → Along (HasNames old) (if b then Cut (k * size) (k * size) ∷ Synced ∷ cutting size k xs else []) x
      by false on = has
      by true on = (
        has,
        (λ torn tears. subst (λ (e : Event). HasNames old (step e x)) (sym tears.2) (record { blobs = has.blobs; snapshots = has.snapshots })),
        (record { blobs = has.blobs; snapshots = has.snapshots }, (λ torn none. absurd none), on),
      )

starting_names : (size len : ℕ) (s : SnapshotModel) (t : Trace) → Along (HasNames (state_of t)) (started size len s).calls (state_of t)
starting_names size len s t =
    let free : List ℕ = unused size (slots_of size len) s in
    let fills : Along (HasNames (state_of t)) (filling size free) (state_of t) = filling_names size (state_of t) free (state_of t) (record { blobs = refl; snapshots = refl }) in
    along_both (HasNames (state_of t)) (filling size free) (cutting size (slots_of size len) (found size (slots_of size len) s).slots) t fills
    (cutting_names size (state_of t) (found size (slots_of size len) s).slots (slots_of size len) (state_of (after_all (filling size free) t)) (along_last (HasNames (state_of t)) (filling size free) t fills))

module _ (sum : List ℕ → ℕ) (size : ℕ) (t : Trace) (s : SnapshotModel) (H : History) (A f : ℕ) (long : 256 ≤ size) (ready : IsReadyFor sum size (state_of t) s H A f) where
  abbrev device : State
  device = state_of t

  abbrev log : List ℕ
  log = device.log.bytes

  abbrev stable : ℕ
  stable = stable_place s.stable

  -- One content that a crash leaves, in which the log file stands, with the names as they were.
  recoverable_left : (x : State) → HasNames device x → (left : Content) → Leaves x left → NoForeign sum size x left → StandsActive sum size left.log s (logged H) → Recoverable sum size left H stable f
  recoverable_left x has left leaves own active =
      let names : NamesFit sum size x.snapshots (logged H) f ready.ready.first = subst (λ (n : NamesState). NamesFit sum size n (logged H) f ready.ready.first) (sym has.snapshots) ready.names in
      let blobs : BlobsFit sum x.blobs H stable = subst (λ (n : NamesState). BlobsFit sum n H stable) (sym has.blobs) ready.blobs in
      let on = same_place sum size left.log (logged H) s ready.ready.first stable stable stable (ap stable_place ready.ready.same_place) refl refl active.stands in
      stands_recoverable sum size left H stable f ready.ready.first stable long ready.ready.apart ready.ready.below on.0 (omega arith) (names left.snapshots leaves.snapshots own.snapshots) (blobs left.blobs leaves.blobs own.blobs)

  settled : device.log ≡ at_rest log
  settled = ready.ready.settled ∙ ap (λ (l : LogState). at_rest l.bytes) (sym ready.ready.settled)

  -- Whatever is filled and cut off, a crash leaves a content that can be recovered.
  started_along : Along (LeavesRecovering sum size H stable f) (started size (length log) s).calls device
  started_along =
      both_along (λ x. NoHeaderOfZeros sum → AllLeft (ActiveIfOwn sum size s (logged H)) x) (HasNames device) (LeavesRecovering sum size H stable f)
      (λ x active has left leaves own. recoverable_left x has left leaves own (active own.zeros left leaves own.log))
      (started size (length log) s).calls device
      (along_if (NoHeaderOfZeros sum) (AllLeft (ActiveIfOwn sum size s (logged H))) (started size (length log) s).calls device (λ zeros. starting_active sum size long zeros log s (logged H) ready.ready.table ready.alone t settled))
      (starting_names size (length log) s t)

  -- And it lasts: less and less is the log's own.
  started_lasts : Along (LastsFrom sum size H stable f) (started size (length log) s).calls device
  started_lasts =
      both_along (LeavesRecovering sum size H stable f) (λ x. NoHeaderOfZeros sum → OwnLess sum size x device) (LastsFrom sum size H stable f)
      (λ x can less. record { can = can; numbers = λ zeros. stay_less sum size x device (less zeros) H stable (ready.numbers zeros) })
      (started size (length log) s).calls device started_along
      (along_if (NoHeaderOfZeros sum) (λ x. OwnLess sum size x device) (started size (length log) s).calls device
      (λ zeros. starting_less sum size zeros (length log) s t))

  -- So it is before the start.
  pub ready_lasts : IsLasting sum size device H A f
  ready_lasts = record {
    stable = stable;
    passes = ready.passes;
    lasts = along_first (LastsFrom sum size H stable f) (started size (length log) s).calls device started_lasts;
  }

-- At each moment of the start, a crash leaves a content that can be recovered.
pub started_throughout : (sum : List ℕ → ℕ) (size : ℕ) (s : SnapshotModel) (H : History) (A f : ℕ) → 256 ≤ size → (old new : Trace) → Ready sum size (state_of old) s H A f
    → Performs (started size (length (state_of old).log.bytes) s).calls old new → LeavesOnly (RecoverableIfOwn sum size H A f) old new
unfolding Ready
started_throughout sum size s H A f long old new ready calls =
    let stable : ℕ = stable_place s.stable in
    weaker (LastsFrom sum size H stable f) (LeavesRecoverable sum size H A f) (λ x lasts. lasts_leaves sum size H A f x stable ready.passes lasts) old new
    (performs_throughout (LastsFrom sum size H stable f) (started size (length (state_of old).log.bytes) s).calls old new calls
    (started_lasts sum size old s H A f long ready))
