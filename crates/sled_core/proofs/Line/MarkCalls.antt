-- A call that marks a message: where it succeeds the log fits the history with the others unmarked, and where it fails as before.
use Rattle.std.proofs.Common.{◌≡◌, ◌∙◌, ◌<◌, ℕ, true, List, [], Result, Ok, Err, OnErr, OnOk, refl, sym, ap, subst, arith, inl, inr}
use Rattle.std.proofs.lemmas.Bool.{false≢true}
use Rattle.std.proofs.lemmas.List.Elements.{All-nil}
use Rattle.sled_codec.specs.declared.result.Error.{Error}
use Rattle.sled_codec.specs.declared.serialization.message.LogKind.{LogKind}
use Rattle.sled_codec.specs.declared.serialization.message.LogKind.TheVariants.{Corrupted, Free, Link, Replace, Skip}
use Rattle.sled_codec.specs.History.{ChangesPage, History, Message, begins_page}
use Rattle.sled_store.specs.Accounts.{IsAccountant, machine_of}
use Rattle.sled_store.specs.Device.{Trace, state_of}
use Rattle.sled_store.specs.Marks.{IsFormerList}
use Rattle.sled_store.specs.Outdated.{NoneShares}
use Rattle.sled_store.specs.SegmentStates.{LiesIn, Machine, MayMark, linked, replaced}
use Rattle.sled_store.specs.declared.config.RunningConfig.{RunningConfig}
use Rattle.sled_store.specs.declared.segment.accountant.SegmentAccountant.{SegmentAccountant}
use Rattle.sled_store.specs.declared.segment.slot.CacheInfo.{CacheInfo}
use Rattle.sled_store.proofs.Marks.MarkSteps.{SameSegments, same_segment}
use Rattle.sled_store.proofs.Marks.TableLemmas.{apart_ascends}
use Rattle.sled_core.specs.inside.Pooling.{IsPooling}
use Rattle.sled_core.specs.declared.logger.Log.{Log, line-type}
use Rattle.sled_core.specs.Fits.{device_of, machine_at, segment_size_of}
use Rattle.sled_core.specs.Marking.{ChangesAccount, IsOfMessage, KeepsMarked, Marks, TakesMark, but_for}
use Rattle.sled_core.specs.Unmarked.{without}
use Rattle.sled_core.specs.inside.LogFacts.{AreNotedBatches}
use Rattle.sled_core.specs.inside.Slots.{HasAccount}
use Rattle.sled_core.specs.invariants.Running.{Fits}
use Rattle.sled_core.proofs.Holds.ReachLemmas.{fits_apart}
use Rattle.sled_core.proofs.Line.Accounts.{account_linked, account_replaced}
use Rattle.sled_core.proofs.Line.MarkedSlots.{fits_marked, goes_on_marked, holds_marked}

-- What a mark makes of the account of a log it makes of the log, whose configuration is the same one.
pub account_marks : {D C T : Type 0} (log : Log D C) {config : RunningConfig D C} (accountant : SegmentAccountant)
    {line : line-type D C config log.segments log.ready accountant log.reserved_to log.fault log.pins log.marks log.batches log.pool}
    {account : IsAccountant config.config.segment_size accountant}
    {noted : AreNotedBatches log.reserved_to log.segments log.batches}
    {pooling : IsPooling config.config.segment_size log.segments log.pool}
    (step : Machine → Machine) (result : Result T Error) → OnOk result (machine_of accountant ≡ step (machine_at log))
    → OnErr result (machine_of accountant ≡ machine_at log)
    → config ≡ log.config
    → Marks result step log (record log { config = config; accountant = accountant; line = line; account = account; noted = noted; pooling = pooling })
account_marks log accountant step result made refused same =
    record { made = made; refused = refused; rest = record { config = same; segments = refl; reserved = refl; fault = refl; pins = refl; marks = refl; batches = refl; pool = refl } }

-- where nothing was marked the log fits what it did
unmarked_fits : {D C : Type 0} (trace : D → Trace) (sum : List ℕ → ℕ) (old new : Log D C) → ChangesAccount old new → machine_at new ≡ machine_at old
    → (H : History) (A f : ℕ) (U : List Message) → Fits trace sum old H A f U → Fits trace sum new H A f U
unfolding Fits
unmarked_fits trace sum old new rest refused H A f U fits =
    fits_marked trace sum old new rest (machine_at old) refused (λ j. same_segment _) H A f U U fits (λ some. some) fits.shows.account

module _ {D C T : Type 0} (trace : D → Trace) (sum : List ℕ → ℕ) (old new : Log D C) (step : Machine → Machine) (same : SameSegments (machine_at old).slots (step (machine_at old)).slots) where
  -- What it keeps.
  pub marks_keep : (result : Result T Error) → Marks result step old new → KeepsMarked trace sum result old new
  marks_keep (Ok done) marks = record {
    goes_on = goes_on_marked trace sum old new marks.rest;
    history = holds_marked trace sum old new marks.rest (step (machine_at old)) marks.made same;
    refused = λ H A f U fits. tt;
  }
  marks_keep (Err e) marks = record {
    goes_on = goes_on_marked trace sum old new marks.rest;
    history = holds_marked trace sum old new marks.rest (machine_at old) marks.refused (λ j. same_segment _);
    refused = unmarked_fits trace sum old new marks.rest marks.refused;
  }

  -- What the log fits then.
  pub marks_fit : (result : Result T Error) → Marks result step old new → (H : History) (A f : ℕ) (U V : List Message) (x : Message) → Fits trace sum old H A f U → TakesMark H U x V
      → HasAccount sum old.marks (segment_size_of old) (state_of (trace (device_of old))).snapshots.file H V (step (machine_at old)) → OnOk result (Fits trace sum new H A f V)
  marks_fit (Ok done) marks H A f U V x fits takes account =
      fits_marked trace sum old new marks.rest (step (machine_at old)) marks.made same H A f U V fits (λ some none. some (takes.left ∙ ap (but_for x.place) none)) account
  marks_fit (Err e) marks H A f U V x fits takes account = tt

-- a message that begins its page changes it
begins_changes : (k : LogKind) → begins_page k ≡ true → ChangesPage k
begins_changes Replace is = inl refl
begins_changes Link is = absurd (false≢true is)
begins_changes Free is = inr (inr refl)
begins_changes Skip is = absurd (false≢true is)
begins_changes Corrupted is = absurd (false≢true is)

module _ {D C : Type 0} (trace : D → Trace) (sum : List ℕ → ℕ) (log : Log D C) (H : History) (A f : ℕ) (U V : List Message) (x : Message) (fits : Fits trace sum log H A f U) (takes : TakesMark H U x V)
    (pid : ℕ) (info : CacheInfo) (of : IsOfMessage x pid info) where
  some : 0 < segment_size_of log
  some = let least = log.config.config.least in omega (arith, least)

  -- The account with a Link more,
  pub link_account : x.kind ≡ Link → MayMark (segment_size_of log) (machine_at log) info []
      → HasAccount sum log.marks (segment_size_of log) (state_of (trace (device_of log))).snapshots.file H V (linked (segment_size_of log) pid info (machine_at log))
  unfolding Fits
  link_account link may =
      let size : ℕ = segment_size_of log in
      let Account : Machine → Type 0 = HasAccount sum log.marks size (state_of (trace (device_of log))).snapshots.file H V in
      subst (λ (p : ℕ). Account (linked size p info (machine_at log))) of.0
      (subst (λ (i : CacheInfo). Account (linked size x.page i (machine_at log))) (sym of.1)
      (account_linked sum size _ H U (machine_at log) fits.shows.account some (apart_ascends H.messages (fits_apart trace sum log H A f U fits)) x V takes
      (subst (λ (i : CacheInfo). MayMark size (machine_at log) i []) of.1 may) (inr (inl link))))

  -- and with a message in place of what its page was.
  pub replace_account : (old : List CacheInfo) → begins_page x.kind ≡ true → MayMark (segment_size_of log) (machine_at log) info old → IsFormerList (without U H) pid old → NoneShares H x old
      → HasAccount sum log.marks (segment_size_of log) (state_of (trace (device_of log))).snapshots.file H V (replaced (segment_size_of log) pid info old (machine_at log))
  unfolding Fits
  replace_account old begins may former none =
      let size : ℕ = segment_size_of log in
      let Account : Machine → Type 0 = HasAccount sum log.marks size (state_of (trace (device_of log))).snapshots.file H V in
      let alone : MayMark size (machine_at log) info [] = record { lies = may.lies; active = may.active; old_lie = All-nil (LiesIn size (machine_at log)) } in
      subst (λ (p : ℕ). Account (replaced size p info old (machine_at log))) of.0
      (subst (λ (i : CacheInfo). Account (replaced size x.page i old (machine_at log))) (sym of.1)
      (account_replaced sum size _ H U (machine_at log) fits.shows.account some (apart_ascends H.messages (fits_apart trace sum log H A f U fits)) x V takes
      (subst (λ (i : CacheInfo). MayMark size (machine_at log) i []) of.1 alone) (begins_changes x.kind begins) old
      (subst (λ (i : CacheInfo). MayMark size (machine_at log) i old) of.1 may) begins (subst (λ (p : ℕ). IsFormerList (without U H) p old) (sym of.0) former) none))
