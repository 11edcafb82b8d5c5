-- What an accountant starts with: the calls that fill slots are made, and then those that cut the file back.
use Rattle.std.proofs.Common.{◌≡◌, ◌∙◌, ◌+◌, ◌*◌, ◌%◌, ◌^◌, ◌<◌, ◌≤◌, arith, ℕ, Bool, List, length, is_some, ap, sym, subst, inl, inr, Err}
use Rattle.std.specs.BTreeMap.{get}
use Rattle.std.specs.Ordering.{nat_cmp}
use Rattle.sled_codec.specs.Errors.{IsCorruption}
use Rattle.sled_codec.specs.declared.result.Error.{Error}
use Rattle.sled_codec.specs.declared.result.Error.TheVariants.{Corruption, Unsupported, Io, OutOfMemory, Held, NotReserved, PlacesUsedUp, CollectionNotFound, ReportableBug}
use Rattle.sled_codec.specs.Snapshots.{SnapshotModel, model_of}
use Rattle.sled_store.specs.Device.{Trace, Event, state_of}
use Rattle.sled_store.specs.Script.{Performs, after_all}
use Rattle.sled_store.specs.Blobs.{RemoveAnswers}
use Rattle.sled_store.specs.Causes.{DeviceAnswers}
use Rattle.sled_store.specs.StartCauses.{CheckAnswers, StartRefuses, WritesWhereItCan}
use Rattle.sled_store.specs.Begin.{IsStartable, IsInReach, slots_of, is_used, not_below, unused, filling}
use Rattle.sled_store.specs.SegmentStates.{Machine}
use Rattle.sled_store.specs.Stabilizing.{cut_back}
use Rattle.sled_store.specs.Accounts.{IsAccountant, machine_of}
use Rattle.sled_store.specs.Started.{found, started}
use Rattle.sled_store.specs.inside.Starting.{FillsSlots}
use Rattle.sled_store.proofs.Traces.ScriptLemmas.{after_joined, performs_nothing, performs_more, performs_behind, performs_whole}
use Rattle.sled_store.proofs.Segments.FillLemmas.{same_below}
use Rattle.sled_store.proofs.Accounts.StartSlots.{fills_slots}
use Rattle.sled_store.proofs.segment.accountant.SegmentAccountant.start.Goals as goal

pub returns-in_err-len-clause-calls : goal.returns-in_err-len-clause-calls
returns-in_err-len-clause-calls g c = performs_nothing _ (g.D.Device.trace c.args.config.now.device) (g.D.Device.trace c.len.new.self) c.len.ensures.trace

pub returns-in-Err-clause-calls : goal.returns-in-Err-clause-calls
returns-in-Err-clause-calls g c = performs_nothing _ (g.D.Device.trace c.args.config.now.device) (g.D.Device.trace c.len.new.self) c.len.ensures.trace

pub returns-in-Err-find-clause-calls : goal.returns-in-Err-find-clause-calls
returns-in-Err-find-clause-calls g c = performs_nothing _ (g.D.Device.trace c.args.config.now.device) (g.D.Device.trace c.len.new.self) c.len.ensures.trace

-- Why it was not started, by what a part of it answers.
module _ (startable in_reach unwritten : Type 0) (before : ℕ) where
  refused_memory : (e : Error) (after : ℕ) → e ≡ OutOfMemory → after ≡ before → WritesWhereItCan startable in_reach unwritten → StartRefuses e startable in_reach unwritten before after
  refused_memory e after is same can = subst (λ (x : Error). StartRefuses x startable in_reach unwritten before after) (sym is) (same, can)

  refused_removing : (e : Error) (mid after : ℕ) → RemoveAnswers {T = Unit {0}} (Err e) mid after → mid ≡ before → WritesWhereItCan startable in_reach unwritten → StartRefuses e startable in_reach unwritten before after
  refused_removing (Io e) mid after came same can = (came.0, came.1 ∙ ap (λ n. (n + 1) % 2 ^ 64) same, can)
  refused_removing OutOfMemory mid after came same can = (came ∙ same, can)
  refused_removing (Corruption at) mid after came same can = absurd came
  refused_removing (Unsupported text) mid after came same can = absurd came
  refused_removing (Held place) mid after came same can = absurd came
  refused_removing (NotReserved place) mid after came same can = absurd came
  refused_removing PlacesUsedUp mid after came same can = absurd came
  refused_removing (CollectionNotFound name) mid after came same can = absurd came
  refused_removing (ReportableBug text) mid after came same can = absurd came

  refused_reading : (e : Error) (mid after : ℕ) → DeviceAnswers {T = Unit {0}} (Err e) mid after → (IsCorruption {T = Unit {0}} (Err e) → ⊥) → mid ≡ before → WritesWhereItCan startable in_reach unwritten → StartRefuses e startable in_reach unwritten before after
  refused_reading (Io e) mid after came readable same can = (came.0, came.1 ∙ ap (λ n. (n + 1) % 2 ^ 64) same, can)
  refused_reading OutOfMemory mid after came readable same can = (came ∙ same, can)
  refused_reading (Corruption at) mid after came readable same can = absurd (readable tt)
  refused_reading (Unsupported text) mid after came readable same can = absurd came
  refused_reading (Held place) mid after came readable same can = absurd came
  refused_reading (NotReserved place) mid after came readable same can = absurd came
  refused_reading PlacesUsedUp mid after came readable same can = absurd came
  refused_reading (CollectionNotFound name) mid after came readable same can = absurd came
  refused_reading (ReportableBug text) mid after came readable same can = absurd came

  refused_check : (e : Error) (after : ℕ) → CheckAnswers {T = Unit {0}} (Err e) startable in_reach → (IsCorruption {T = Unit {0}} (Err e) → startable → ⊥) → unwritten → after ≡ before → StartRefuses e startable in_reach unwritten before after
  refused_check OutOfMemory after came corrupt none same = (same, inr none)
  refused_check (Corruption at) after came corrupt none same = (came, corrupt tt, none, same)
  refused_check PlacesUsedUp after came corrupt none same = (came.0, came.1, none, same)
  refused_check (Io e) after came corrupt none same = absurd came
  refused_check (Unsupported text) after came corrupt none same = absurd came
  refused_check (Held place) after came corrupt none same = absurd came
  refused_check (NotReserved place) after came corrupt none same = absurd came
  refused_check (CollectionNotFound name) after came corrupt none same = absurd came
  refused_check (ReportableBug text) after came corrupt none same = absurd came

-- The snapshot was found to be one on which a log can begin, by the file's length as it was told.
can_begin : (size told len : ℕ) (s : SnapshotModel) → told ≡ len → IsStartable size told s → IsInReach size told s → IsStartable size len s × IsInReach size len s
can_begin size told len s is startable in_reach = (subst (λ n. IsStartable size n s) is startable, subst (λ n. IsInReach size n s) is in_reach)

pub returns-in-Err-clause-answers : goal.returns-in-Err-clause-answers
returns-in-Err-clause-answers g c =
    let size : ℕ = c.args.config.now.config.segment_size in
    let len : ℕ = length (state_of (g.D.Device.trace c.args.config.now.device)).log.bytes in
    let s : SnapshotModel = model_of c.args.snapshot.now in
    refused_check (IsStartable size len s) (IsInReach size len s) (g.D.Device.trace c.len.new.self ≡ g.D.Device.trace c.args.config.now.device) (g.D.Device.faults c.args.config.now.device) c.in-Err.e (g.D.Device.faults c.len.new.self)
    (subst (λ n. CheckAnswers {T = Unit {0}} (Err c.in-Err.e) (IsStartable size n s) (IsInReach size n s)) c.in_ok-len.ensures.len c.in-Err.ensures.answers)
    (subst (λ n. IsCorruption {T = Unit {0}} (Err c.in-Err.e) → IsStartable size n s → ⊥) c.in_ok-len.ensures.len c.in-Err.ensures.corrupt)
    c.len.ensures.trace c.in_ok-len.ensures.faults

pub returns-in-Err-find-clause-answers : goal.returns-in-Err-find-clause-answers
returns-in-Err-find-clause-answers g c = refused_memory _ _ _ (g.D.Device.faults c.args.config.now.device) c.in-Err-find.e (g.D.Device.faults c.len.new.self) c.in-Err-find.ensures.memory c.in_ok-len.ensures.faults (inr c.len.ensures.trace)

pub returns-in-Err-fill_unused-clause-answers : goal.returns-in-Err-fill_unused-clause-answers
returns-in-Err-fill_unused-clause-answers g c =
    refused_reading _ _ _ (g.D.Device.faults c.args.config.now.device) c.in-Err-fill_unused.e (g.D.Device.faults c.len.new.self) (g.D.Device.faults c.fill_unused.new.config.device)
    c.in-Err-fill_unused.ensures.answers c.in-Err-fill_unused.ensures.readable c.in_ok-len.ensures.faults
    (inl (can_begin c.args.config.now.config.segment_size c.in_ok-len.len _ (model_of c.args.snapshot.now) c.in_ok-len.ensures.len c.in-Ok.ensures.startable c.in-Ok.ensures.answers))

pub returns-clause-answers : goal.returns-clause-answers
returns-clause-answers g c =
    refused_removing _ _ _ (g.D.Device.faults c.args.config.now.device) c.in-Err-cut_off.e (g.D.Device.faults c.fill_unused.new.config.device) (g.D.Device.faults c.cut_off.new.device)
    c.in-Err-cut_off.ensures.step.answers (c.in-Ok-fill_unused.ensures.answers ∙ c.in_ok-len.ensures.faults)
    (inl (can_begin c.args.config.now.config.segment_size c.in_ok-len.len _ (model_of c.args.snapshot.now) c.in_ok-len.ensures.len c.in-Ok.ensures.startable c.in-Ok.ensures.answers))

pub returns-in-Ok-cut_off-clause-answers : goal.returns-in-Ok-cut_off-clause-answers
returns-in-Ok-cut_off-clause-answers g c =
    let size : ℕ = c.args.config.now.config.segment_size in
    let s : SnapshotModel = model_of c.args.snapshot.now in (
      subst (λ n. IsStartable size n s) c.in_ok-len.ensures.len c.in-Ok.ensures.startable,
      subst (λ n. IsInReach size n s) c.in_ok-len.ensures.len c.in-Ok.ensures.answers,
      c.in-Ok-cut_off.ensures.step.answers ∙ c.in-Ok-fill_unused.ensures.answers ∙ c.in_ok-len.ensures.faults,
    )

pub find-requires-clause-fills : goal.find-requires-clause-fills
find-requires-clause-fills g c =
    let size : ℕ = c.args.config.now.config.segment_size in
    let s : SnapshotModel = model_of c.args.snapshot.now in
    subst (λ n. FillsSlots n c.in-Ok.check_snapshot.1 s c.in-Ok.check_snapshot.0) (sym c.fresh-accountant.ensures.account.size_is)
    (fills_slots size c.in_ok-len.len c.in-Ok.check_snapshot.1 s c.in-Ok.check_snapshot.0 c.fresh-accountant.ensures.account.some c.in-Ok.ensures.slots c.in-Ok.ensures.table c.in-Ok.ensures.startable c.in-Ok.ensures.answers)

-- the slots that were told of are those of the file
module _ (size len told slots : ℕ) (s : SnapshotModel) (test : ℕ → Bool) (slots_is : slots ≡ slots_of size told) (told_is : told ≡ len) (used : (k : ℕ) → test k ≡ is_used size s k) where
  count_is : slots ≡ slots_of size len
  count_is = slots_is ∙ ap (slots_of size) told_is

  -- what is filled
  filling_is : filling size (not_below test slots) ≡ filling size (unused size (slots_of size len) s)
  filling_is = ap (filling size) (same_below test (is_used size s) slots (slots_of size len) used count_is)

  filled_calls : (mid old new : Trace) → mid ≡ old → Performs (filling size (not_below test slots)) mid new → Performs (filling size (unused size (slots_of size len) s)) old new
  filled_calls mid old new is came = subst (λ (h : Trace). Performs (filling size (unused size (slots_of size len) s)) h new) is (subst (λ (es : List Event). Performs es mid new) filling_is came)

  filled_trace : (mid old new : Trace) → mid ≡ old → new ≡ after_all (filling size (not_below test slots)) mid → new ≡ after_all (filling size (unused size (slots_of size len) s)) old
  filled_trace mid old new is came = came ∙ ap (λ (es : List Event). after_all es mid) filling_is ∙ ap (after_all (filling size (unused size (slots_of size len) s))) is

  -- what is cut off
  cut_is : (near other : ℕ) (m : Machine) → near ≡ other → other ≡ size → m ≡ found other slots s → (cut_back near m).calls ≡ (cut_back size (found size (slots_of size len) s)).calls
  cut_is near other m sizes same is =
      ap (λ n. (cut_back n m).calls) (sizes ∙ same)
      ∙ ap (λ (x : Machine). (cut_back size x).calls) (is ∙ ap (λ n. found n slots s) same ∙ ap (λ k. found size k s) count_is)

  cut_machine : (near other : ℕ) (m : Machine) → near ≡ other → other ≡ size → m ≡ found other slots s → (cut_back near m).machine ≡ (started size len s).machine
  cut_machine near other m sizes same is =
      ap (λ n. (cut_back n m).machine) (sizes ∙ same)
      ∙ ap (λ (x : Machine). (cut_back size x).machine) (is ∙ ap (λ n. found n slots s) same ∙ ap (λ k. found size k s) count_is)

  cut_trace : (near other : ℕ) (m : Machine) (old mid new : Trace) → near ≡ other → other ≡ size → m ≡ found other slots s → mid ≡ after_all (filling size (unused size (slots_of size len) s)) old
      → new ≡ after_all (cut_back near m).calls mid → new ≡ after_all (started size len s).calls old
  cut_trace near other m old mid new sizes same is filled came =
      came ∙ ap (λ (es : List Event). after_all es mid) (cut_is near other m sizes same is) ∙ ap (after_all (cut_back size (found size (slots_of size len) s)).calls) filled
      ∙ sym (after_joined (filling size (unused size (slots_of size len) s)) (cut_back size (found size (slots_of size len) s)).calls old)

  cut_calls : (near other : ℕ) (m : Machine) (old mid new : Trace) → near ≡ other → other ≡ size → m ≡ found other slots s → mid ≡ after_all (filling size (unused size (slots_of size len) s)) old
      → Performs (cut_back near m).calls mid new → Performs (started size len s).calls old new
  cut_calls near other m old mid new sizes same is filled came =
      performs_behind (filling size (unused size (slots_of size len) s)) (cut_back size (found size (slots_of size len) s)).calls old mid new filled (subst (λ (es : List Event). Performs es mid new) (cut_is near other m sizes same is) came)

pub returns-in-Err-fill_unused-clause-calls : goal.returns-in-Err-fill_unused-clause-calls
returns-in-Err-fill_unused-clause-calls g c =
    let old : Trace = g.D.Device.trace c.args.config.now.device in
    let len : ℕ = length (state_of old).log.bytes in
    performs_more _ _ old (g.D.Device.trace c.fill_unused.new.config.device)
    (filled_calls c.args.config.now.config.segment_size len c.in_ok-len.len c.in-Ok.check_snapshot.1 (model_of c.args.snapshot.now) (λ k. is_some (get nat_cmp c.in-Ok.check_snapshot.0.held k)) c.in-Ok.ensures.slots c.in_ok-len.ensures.len c.in-Ok.ensures.used
    (g.D.Device.trace c.len.new.self) old (g.D.Device.trace c.fill_unused.new.config.device) c.len.ensures.trace c.fill_unused.ensures.calls)

pub returns-in-Ok-cut_off-clause-made : goal.returns-in-Ok-cut_off-clause-made
returns-in-Ok-cut_off-clause-made g c =
    let size : ℕ = c.args.config.now.config.segment_size in
    let old : Trace = g.D.Device.trace c.args.config.now.device in
    let len : ℕ = length (state_of old).log.bytes in
    let s : SnapshotModel = model_of c.args.snapshot.now in
    let test : ℕ → Bool = λ k. is_some (get nat_cmp c.in-Ok.check_snapshot.0.held k) in
    let mid : Trace = g.D.Device.trace c.fill_unused.new.config.device in
    let filled = filled_trace size len c.in_ok-len.len c.in-Ok.check_snapshot.1 s test c.in-Ok.ensures.slots c.in_ok-len.ensures.len c.in-Ok.ensures.used (g.D.Device.trace c.len.new.self) old mid c.len.ensures.trace c.in-Ok-fill_unused.ensures.done in
    cut_trace size len c.in_ok-len.len c.in-Ok.check_snapshot.1 s test c.in-Ok.ensures.slots c.in_ok-len.ensures.len c.in-Ok.ensures.used c.find.new.self.size c.fresh-accountant.result.size (machine_of c.find.new.self) old mid (g.D.Device.trace c.cut_off.new.device)
    c.in-Ok-find.ensures.account.size_is c.fresh-accountant.ensures.account.size_is c.in-Ok-find.ensures.machine filled c.in-Ok-cut_off.ensures.step.made

pub returns-in-Ok-cut_off-clause-calls : goal.returns-in-Ok-cut_off-clause-calls
returns-in-Ok-cut_off-clause-calls g c = performs_whole _ (g.D.Device.trace c.args.config.now.device) (g.D.Device.trace c.cut_off.new.device) (returns-in-Ok-cut_off-clause-made g c)

pub returns-clause-calls : goal.returns-clause-calls
returns-clause-calls g c =
    let size : ℕ = c.args.config.now.config.segment_size in
    let old : Trace = g.D.Device.trace c.args.config.now.device in
    let len : ℕ = length (state_of old).log.bytes in
    let s : SnapshotModel = model_of c.args.snapshot.now in
    let test : ℕ → Bool = λ k. is_some (get nat_cmp c.in-Ok.check_snapshot.0.held k) in
    let mid : Trace = g.D.Device.trace c.fill_unused.new.config.device in
    let filled = filled_trace size len c.in_ok-len.len c.in-Ok.check_snapshot.1 s test c.in-Ok.ensures.slots c.in_ok-len.ensures.len c.in-Ok.ensures.used (g.D.Device.trace c.len.new.self) old mid c.len.ensures.trace c.in-Ok-fill_unused.ensures.done in
    cut_calls size len c.in_ok-len.len c.in-Ok.check_snapshot.1 s test c.in-Ok.ensures.slots c.in_ok-len.ensures.len c.in-Ok.ensures.used c.find.new.self.size c.fresh-accountant.result.size (machine_of c.find.new.self) old mid (g.D.Device.trace c.cut_off.new.device)
    c.in-Ok-find.ensures.account.size_is c.fresh-accountant.ensures.account.size_is c.in-Ok-find.ensures.machine filled c.cut_off.ensures.step.calls

pub returns-in-Ok-cut_off-clause-machine : goal.returns-in-Ok-cut_off-clause-machine
returns-in-Ok-cut_off-clause-machine g c =
    let size : ℕ = c.args.config.now.config.segment_size in
    let len : ℕ = length (state_of (g.D.Device.trace c.args.config.now.device)).log.bytes in
    let test : ℕ → Bool = λ k. is_some (get nat_cmp c.in-Ok.check_snapshot.0.held k) in
    c.in-Ok-cut_off.ensures.step.done
    ∙ cut_machine size len c.in_ok-len.len c.in-Ok.check_snapshot.1 (model_of c.args.snapshot.now) test c.in-Ok.ensures.slots c.in_ok-len.ensures.len c.in-Ok.ensures.used
    c.find.new.self.size c.fresh-accountant.result.size (machine_of c.find.new.self) c.in-Ok-find.ensures.account.size_is c.fresh-accountant.ensures.account.size_is c.in-Ok-find.ensures.machine

pub returns-in-Ok-cut_off-clause-account : goal.returns-in-Ok-cut_off-clause-account
returns-in-Ok-cut_off-clause-account g c =
    subst (λ n. IsAccountant n c.cut_off.new.self) (c.in-Ok-find.ensures.account.size_is ∙ c.fresh-accountant.ensures.account.size_is) c.in-Ok-cut_off.ensures.step.account

some_size : (size : ℕ) → 256 ≤ size → 0 < size
some_size size least = omega arith

small_size : (size : ℕ) → size ≤ 8388608 → size < 2 ^ 32
small_size size most = omega arith

pub check_snapshot-requires-clause-some : goal.check_snapshot-requires-clause-some
check_snapshot-requires-clause-some g c = some_size c.args.config.now.config.segment_size c.args.config.now.config.least

pub check_snapshot-requires-clause-small : goal.check_snapshot-requires-clause-small
check_snapshot-requires-clause-small g c = small_size c.args.config.now.config.segment_size c.args.config.now.config.most

pub fill_unused-requires : goal.fill_unused-requires
fill_unused-requires g c =
    let size : ℕ = c.args.config.now.config.segment_size in
    subst (λ n. n * size + size < 2 ^ 63) (sym c.in-Ok.ensures.slots) c.in-Ok.ensures.answers.slots

pub cut_off-requires : goal.cut_off-requires
cut_off-requires g c = subst (λ n. IsAccountant n c.find.new.self) (sym c.in-Ok-find.ensures.account.size_is) c.in-Ok-find.ensures.account
