-- Opening a generator: what a recovery and the start of a log make of a device that gives on.
use Rattle.std.specs.List.{Contains}
use Rattle.std.proofs.Common.{◌≡◌, ◌∙◌, inl, inr, ◌≤◌, ◌<◌, ◌+◌, ℕ, ℤ, max, List, [], length, Option, Err, refl, sym, subst, arith}
use Rattle.sled_codec.specs.declared.result.Error.{Error}
use Rattle.sled_codec.specs.declared.result.Error.TheVariants as error
use Rattle.sled_codec.specs.declared.serialization.snapshot.Snapshot.{Snapshot}
use Rattle.sled_codec.specs.Errors.{IsCorrupt, IsCorruption}
use Rattle.sled_codec.specs.History.{History, Message, below}
use Rattle.sled_codec.specs.PageTables.{IsTable}
use Rattle.sled_codec.specs.Snapshots.{SnapshotModel, stable_place}
use Rattle.sled_store.specs.Device.{State, Trace, content_of, state_of}
use Rattle.sled_store.specs.Moments.{LeavesOnly, Throughout}
use Rattle.sled_store.specs.Begin.{IsInReach, IsStartable}
use Rattle.sled_store.specs.Blobs.{ItemAnswers}
use Rattle.sled_store.specs.StartCauses.{StartRefuses}
use Rattle.sled_store.proofs.PublicLaws.{joined}
use Rattle.sled_core.specs.declared.logger.Log.{Log}
use Rattle.sled_core.specs.Fits.{device_of}
use Rattle.sled_core.specs.Good.{IsGood}
use Rattle.sled_core.specs.Keeps.{GoesOnFor, IsSpared}
use Rattle.sled_core.specs.Recoverable.{RecoverableIfOwn}
use Rattle.sled_core.specs.invariants.Running.{Fits, Ready}
use Rattle.sled_core.specs.Positions.{Position}
use Rattle.sled_core.specs.Starts.{BeginsBehind, HasMadeStart, StartCalls, position_from}
use Rattle.sled_core.proofs.PublicLaws.{ready_place}
use Rattle.sled_log.specs.Orderly.{CanRecover}
use Rattle.sled_log.specs.Restores.{Restores}
use Rattle.sled_log.proofs.PublicLaws.{kept_below, orderly, table_below}
use Rattle.ids.specs.Bounds.{GivesFrom, HasMost, IsLastBound, IsOfBounds, Reserves}
use Rattle.ids.specs.Generators.{CanOpen, HasBounds}
use Rattle.ids.specs.Openings.{HasOpened, HasStarted, ReadFailed, StartFailed}
use Rattle.ids.specs.Readings.{AnswersBound, CountsError, HasTable, IsBoundRead, IsIdle, IsOpenError, IsReadError}
use Rattle.ids.proofs.BoundLemmas.{bounds_below, last_enough, most_below, reserves_below, reserves_less}
use Rattle.ids.proofs.Moments.{gives_throughout}

module _ (sum : List ℕ → ℕ) (size n most : ℕ) (device : State) (can : CanOpen sum size n most device) where
  abbrev pub H : History
  H = can.gives.history

  abbrev pub A : ℕ
  A = can.gives.acknowledged

  abbrev pub f : ℕ
  f = can.gives.floor

  -- A recovery can go on from it.
  pub can_recover : CanRecover sum size device H A f
  can_recover = record { orderly = orderly H can.gives.bounds.replaces; left = can.gives.left; own = can.own }

  pub recovering : (old new : Trace) → LeavesOnly (RecoverableIfOwn sum size H A f) old new → Throughout (GivesFrom sum size n most) old new
  recovering old new run = gives_throughout sum size n most H A f can.gives.bounds can.gives.reserved can.gives.greatest old new run

-- What a recovery gives of such a device: a table of bounds below its cut, on which a log can begin.
pub record HasRecovered (sum : List ℕ → ℕ) (size n most : ℕ) (device : State) (s : SnapshotModel) : Type 0 where
  pub history : History
  pub acknowledged : ℕ
  pub bounds : IsOfBounds history
  pub reserved : Reserves history (stable_place s.stable) n
  pub greatest : HasMost history most
  pub table : IsTable s.pages history (stable_place s.stable)
  pub below : (m : Message) → Contains history.messages m → (m.place < stable_place s.stable) × (m.place + m.size ≤ stable_place s.stable)
  pub ready : Ready sum size device s history acknowledged (stable_place s.stable)

-- A recovery of a device that can be opened: what it gives, and that the device gives from n meanwhile. A configuration says the size of segments once more behind it.
module _ (sum : List ℕ → ℕ) (size n most : ℕ) (old mid : Trace) (can : CanOpen sum size n most (state_of old)) (s : SnapshotModel) (again : ℕ) (same : again ≡ size) where
  pub recovered : ((H : History) (A f : ℕ) → CanRecover sum size (state_of old) H A f → LeavesOnly (RecoverableIfOwn sum size H A f) old mid)
      → ((H : History) (A f : ℕ) → CanRecover sum size (state_of old) H A f → IsGood sum size (content_of (state_of mid)) H A f s)
      → ((H : History) (A f : ℕ) → CanRecover sum size (state_of old) H A f → Ready sum size (state_of mid) s (below H (stable_place s.stable)) A (stable_place s.stable))
      → HasRecovered sum again n most (state_of mid) s × Throughout (GivesFrom sum again n most) old mid
  recovered moments good ready =
      let H = can.gives.history in
      let A : ℕ = can.gives.acknowledged in
      let f : ℕ = can.gives.floor in
      let bounds = can.gives.bounds in
      let cut : ℕ = stable_place s.stable in
      let recovers = can_recover sum size n most (state_of old) can in
      let is = good H A f recovers in (
        record {
          history = below H cut;
          acknowledged = A;
          bounds = bounds_below H cut bounds;
          reserved = reserves_below H cut bounds cut n (omega arith) (reserves_less H (max A f) cut n n (let a = is.passes in let b = is.not_below in omega (arith, a, b)) (omega arith) can.gives.reserved);
          greatest = most_below H cut bounds most can.gives.greatest;
          table = (table_below H cut s.pages).1 is.table;
          below = λ m there. let was = (kept_below H cut m).0 there in (was.1, is.fits.messages m was.0 was.1);
          ready = subst (λ k. Ready sum k (state_of mid) s (below H cut) A cut) (sym same) (ready H A f recovers);
        },
        subst (λ k. Throughout (GivesFrom sum k n most) old mid) (sym same) (recovering sum size n most (state_of old) can old mid (moments H A f recovers)),
      )

  pub sized_back : (end : Trace) → Throughout (GivesFrom sum again n most) old end → Throughout (GivesFrom sum size n most) old end
  sized_back end run = subst (λ k. Throughout (GivesFrom sum k n most) old end) same run

module _ (sum : List ℕ → ℕ) (size n most : ℕ) (old mid : Trace) (s : SnapshotModel) (has : HasRecovered sum size n most (state_of mid) s) (first : Throughout (GivesFrom sum size n most) old mid) where
  abbrev pub place : ℕ
  place = stable_place s.stable

  gives : (from to : Trace) → LeavesOnly (RecoverableIfOwn sum size has.history has.acknowledged place) from to → Throughout (GivesFrom sum size n most) from to
  gives from to run = gives_throughout sum size n most has.history has.acknowledged place has.bounds (reserves_less has.history place (max has.acknowledged place) n n (omega arith) (omega arith) has.reserved) has.greatest from to run

  -- The device gives from n until a log is started, or isn't.
  pub starting : (end : Trace) → LeavesOnly (RecoverableIfOwn sum size has.history has.acknowledged place) mid end → Throughout (GivesFrom sum size n most) old end
  starting end run = joined (GivesFrom sum size n most) old mid end first (gives mid end run)

  -- A log that was started there,
  module _ {D C : Type 0} (trace : D → Trace) (log : Log D C) (len : ℕ) (begins : BeginsBehind size len s log) (some : 0 < size) (fits : Fits trace sum log has.history has.acknowledged place [])
      (start : LeavesOnly (RecoverableIfOwn sum size has.history has.acknowledged place) mid (trace (device_of log))) where
    -- has the table,
    begun_table : HasTable trace sum log s.pages has.history place
    begun_table = record {
      acknowledged = has.acknowledged;
      floor = place;
      unmarked = [];
      fits = fits;
      bounds = has.bounds;
      table = has.table;
      stable = begins.synced ∙ ready_place sum size (state_of mid) s has.history has.acknowledged place some has.ready;
    }

    -- and gives from n while it goes on,
    going_on : (next : Log D C) → GoesOnFor (IsSpared log) trace sum log next → Throughout (GivesFrom sum size n most) old (trace (device_of next))
    going_on next goes = joined (GivesFrom sum size n most) old (trace (device_of log)) (trace (device_of next)) (starting (trace (device_of log)) start)
        (gives (trace (device_of log)) (trace (device_of next)) (subst (λ k. LeavesOnly (RecoverableIfOwn sum k has.history has.acknowledged place) (trace (device_of log)) (trace (device_of next))) begins.sized (goes.crash has.history has.acknowledged place [] fits)))

    -- from the bound that is found in it, which is no lower than what was reserved and no higher than all.
    found_bounds : (v : ℕ) → IsLastBound has.history place v → (next : Log D C) → Fits trace sum next has.history has.acknowledged place []
        → HasBounds trace sum next v v × (n ≤ v) × (v ≤ most)
    found_bounds v found next still = (
      record {
        history = has.history;
        acknowledged = has.acknowledged;
        floor = place;
        unmarked = [];
        fits = still;
        bounds = has.bounds;
        reserved = elim found [
          | inl none ↦ inl none.1
          | inr x ↦ inr (record { message = x.0; there = x.1.there; ends = (let ends = (has.below x.0 x.1.there).1 in omega (arith, ends)); bound = v; has = x.1.has; enough = omega arith })
        ];
        most = λ m k there is. elim found [
          | inl none ↦ absurd (none.0 m there (has.below m there).0)
          | inr x ↦ has.bounds.ascend m x.0 k v there x.1.there (x.1.last m there (has.below m there).0) is x.1.has
        ];
        there = inl refl;
      },
      elim found [
        | inl none ↦ (elim has.reserved [
          | inl zero ↦ omega (arith, zero)
          | inr x ↦ absurd (none.0 x.message x.there (has.below x.message x.there).0)
        ])
        | inr x ↦ last_enough has.history place place n v x.0 has.bounds has.reserved (omega arith) x.1.there x.1.has (λ m there low. x.1.last m there low)
      ],
      elim found [
        | inl none ↦ omega (arith, none.1)
        | inr x ↦ has.greatest x.0 v x.1.there x.1.has
      ],
    )

-- A log that was started on what a recovery gave of a device that gives on.
pub record HasBegun {D C : Type 0} (trace : D → Trace) (sum : List ℕ → ℕ) (size n most : ℕ) (old : Trace) (s : SnapshotModel) (log : Log D C) : Type 0 where
  pub history : History
  pub table : HasTable trace sum log s.pages history (stable_place s.stable)
  -- the device gives on while the log goes on
  pub gives : (next : Log D C) → GoesOnFor (IsSpared log) trace sum log next → Throughout (GivesFrom sum size n most) old (trace (device_of next))
  -- the generator begins with the bound that is found, with a log that fits what this one does
  pub bounds : (v : ℕ) → IsLastBound history (stable_place s.stable) v → (next : Log D C)
      → ((A f : ℕ) (U : List Message) → Fits trace sum log history A f U → Fits trace sum next history A f U)
      → HasBounds trace sum next v v × (n ≤ v) × (v ≤ most)

pub has_begun : {D C : Type 0} {trace : D → Trace} {log : Log D C} {len : ℕ} (sum : List ℕ → ℕ) (size n most : ℕ) (old mid : Trace) (s : SnapshotModel)
    (again : ℕ) → again ≡ size → HasRecovered sum again n most (state_of mid) s × Throughout (GivesFrom sum again n most) old mid
    → BeginsBehind again len s log → 0 < again
    → ((H : History) (A f : ℕ) → Ready sum again (state_of mid) s H A f → Fits trace sum log H A f [])
    → ((H : History) (A f : ℕ) → Ready sum again (state_of mid) s H A f → LeavesOnly (RecoverableIfOwn sum again H A f) mid (trace (device_of log)))
    → HasBegun trace sum size n most old s log
has_begun {trace = trace} {log = log} {len = len} sum size n most old mid s again same its begins some fits start =
    let has = its.0 in
    let fits_it = fits has.history has.acknowledged (stable_place s.stable) has.ready in
    let leaves = start has.history has.acknowledged (stable_place s.stable) has.ready in
    record {
      history = has.history;
      table = begun_table sum again n most old mid s has its.1 trace log len begins some fits_it leaves;
      gives = λ next goes. subst (λ k. Throughout (GivesFrom sum k n most) old (trace (device_of next))) same
          (going_on sum again n most old mid s has its.1 trace log len begins some fits_it leaves next goes);
      bounds = λ v found next keeps.
          found_bounds sum again n most old mid s has its.1 trace log len begins some fits_it leaves v found next
          (keeps has.acknowledged (stable_place s.stable) [] fits_it);
    }

-- What was asked of the device, whatever that has. The configuration that a recovery leaves says the size of segments once more.
module _ (sum : List ℕ → ℕ) (size again : ℕ) (same : again ≡ size) (old mid new : Trace) (s : SnapshotModel) (recovers : Restores sum size old mid s) where
  abbrev pub len : ℕ
  len = length (state_of mid).log.bytes

  pub not_started : (e : Error) (before first now : ℕ) → first ≡ before → StartCalls again s mid new
      → StartRefuses e (IsStartable again len s) (IsInReach again len s) (new ≡ mid) first now → StartFailed sum size e old new before now
  not_started e before first now counted calls cause = record {
    snapshot = s;
    mid = mid;
    recovers = recovers;
    calls = subst (λ k. StartCalls k s mid new) same calls;
    cause = subst (λ k. StartRefuses e (IsStartable k len s) (IsInReach k len s) (new ≡ mid) before now) same
        (subst (λ k. StartRefuses e (IsStartable again len s) (IsInReach again len s) (new ≡ mid) k now) counted cause);
  }

  pub was_started : HasMadeStart again s mid new → IsStartable again len s → IsInReach again len s → HasStarted sum size old new
  was_started made startable in_reach = record {
    snapshot = s;
    mid = mid;
    recovers = recovers;
    startable = subst (λ k. IsStartable k len s) same startable;
    in_reach = subst (λ k. IsInReach k len s) same in_reach;
    made = subst (λ k. HasMadeStart k s mid new) same made;
  }

  -- A generator begins with the bound that stands there then; the log says the size of segments a third time.
  pub was_opened : HasMadeStart again s mid new → IsStartable again len s → IsInReach again len s → (third n : ℕ) → third ≡ size → IsBoundRead sum third (state_of new).log.bytes s.pages n
      → (position : Position) → position ≡ position_from again len s → HasOpened sum size n position old new
  unfolding was_started
  was_opened made startable in_reach third n sized bound position goes_on = record {
    started = was_started made startable in_reach;
    bound = subst (λ (k : ℕ). IsBoundRead sum k (state_of new).log.bytes s.pages n) sized bound;
    goes_on = subst (λ k. position ≡ position_from k len s) same goes_on;
  }

  -- or it couldn't be read.
  pub not_read : HasMadeStart again s mid new → IsStartable again len s → IsInReach again len s → (third : ℕ) → third ≡ size → (e : Error) (before now : ℕ) → IsReadError e
      → AnswersBound (Err e) (IsBoundRead sum third (state_of new).log.bytes s.pages) → CountsError e before now → ReadFailed sum size e old new before now
  unfolding was_started
  not_read made startable in_reach third sized e before now known damaged counts = record {
    started = was_started made startable in_reach;
    known = known;
    damaged = subst (λ (k : ℕ). AnswersBound (Err e) (IsBoundRead sum k (state_of new).log.bytes s.pages)) sized damaged;
    counts = counts;
  }

-- In a log that begins nothing was reserved.
pub begins_idle : {D C : Type 0} (size n : ℕ) (s : SnapshotModel) (log : Log D C) → BeginsBehind size n s log → IsIdle log
begins_idle size n s log begins = record { reserved = begins.reserved; unsealed = begins.unsealed; fault = begins.fault }

-- Why none was opened.

pub recovery_fails : (sum : List ℕ → ℕ) (blobs : ℤ → Option (List ℕ)) (e : Error) (before now : ℕ) → (IsCorruption {T = Snapshot} (Err e) → ⊥) → ItemAnswers {T = Snapshot} sum blobs (Err e) before now → IsOpenError e
recovery_fails sum blobs (error.Io e) before now whole answers = tt
recovery_fails sum blobs error.OutOfMemory before now whole answers = tt
recovery_fails sum blobs (error.Corruption at) before now whole answers = absurd (whole tt)
recovery_fails sum blobs error.PlacesUsedUp before now whole answers = absurd answers
recovery_fails sum blobs (error.Unsupported text) before now whole answers = absurd answers
recovery_fails sum blobs (error.Held at) before now whole answers = absurd answers
recovery_fails sum blobs (error.NotReserved at) before now whole answers = absurd answers
recovery_fails sum blobs (error.CollectionNotFound name) before now whole answers = absurd answers
recovery_fails sum blobs (error.ReportableBug text) before now whole answers = absurd answers

pub start_fails : (e : Error) (startable in_reach unwritten : Type 0) (before now : ℕ) → (IsCorrupt e → ⊥) → StartRefuses e startable in_reach unwritten before now → IsOpenError e
start_fails (error.Io e) startable in_reach unwritten before now whole refuses = tt
start_fails error.OutOfMemory startable in_reach unwritten before now whole refuses = tt
start_fails error.PlacesUsedUp startable in_reach unwritten before now whole refuses = tt
start_fails (error.Corruption at) startable in_reach unwritten before now whole refuses = absurd (whole tt)
start_fails (error.Unsupported text) startable in_reach unwritten before now whole refuses = absurd refuses
start_fails (error.Held at) startable in_reach unwritten before now whole refuses = absurd refuses
start_fails (error.NotReserved at) startable in_reach unwritten before now whole refuses = absurd refuses
start_fails (error.CollectionNotFound name) startable in_reach unwritten before now whole refuses = absurd refuses
start_fails (error.ReportableBug text) startable in_reach unwritten before now whole refuses = absurd refuses
