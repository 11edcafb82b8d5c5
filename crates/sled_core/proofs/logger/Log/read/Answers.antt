-- A read settles its place first, and then reads the device.
use Rattle.std.proofs.Common.{IfOk, SFits, of_z, to_z, ◌≡◌, ◌∙◌, ◌<◌, ◌⊎◌, ◌/◌, ap, sym, subst, ℕ, ℤ, arith, inl, inr, Option, IsTrue, rules, pos, refl, unsigned_abs, ◌<ℤ◌, ◌≤ℤ◌, None, List, Ok, Err}
use Rattle.std.specs.Int.{w64}
use Rattle.std.specs.List.{Contains}
use Rattle.std.specs.declared.io.Error.{Error as IoError}
use Rattle.std.proofs.lemmas.Int.{ints, to_z-of_z}
use Rattle.std.proofs.lemmas.Result.{err_from_is_err_and}
use Rattle.sled_codec.specs.declared.result.DiskPtr.{DiskPtr}
use Rattle.sled_codec.specs.declared.result.Error.{Error}
use Rattle.sled_codec.specs.declared.result.Error.TheVariants.{Corruption, Io}
use Rattle.sled_codec.specs.Errors.{IsCorruption}
use Rattle.sled_codec.specs.History.{Message, History}
use Rattle.sled_codec.specs.Places.{MayBegin}
use Rattle.sled_codec.specs.Pointers.{lid_of}
use Rattle.sled_store.specs.Device.{State, Trace, state_of}
use Rattle.sled_store.specs.Script.{Performs, after_all}
use Rattle.sled_store.proofs.Traces.ScriptLemmas.{performs_nothing}
use Rattle.sled_core.specs.Causes.{IsHeld, OnDone}
use Rattle.sled_core.specs.declared.logger.Log.{Log}
use Rattle.sled_core.specs.declared.logger.read_message.LogRead.{LogRead}
use Rattle.sled_core.specs.Fits.{HasRecordOf, device_of, fault_of, reserved_end, segment_size_of, synced_end}
use Rattle.sled_core.specs.Freeing.{Ledger}
use Rattle.sled_core.specs.Keeps.{HoldsFast, KeepsLog}
use Rattle.sled_core.specs.invariants.Fits.{Holds}
use Rattle.sled_core.specs.LogFile.{MessageStands}
use Rattle.sled_core.specs.Fronts.{CameAround}
use Rattle.sled_core.specs.ReadBuffer.{IsUsedUpAt, IsWrittenPlace, ReadAnswers, SealsAround, WritesAround, held_at, settling}
use Rattle.sled_core.specs.inside.ReadBuffer.{SettleAnswers}
use Rattle.sled_core.specs.Reading.{IsInline, IsNoPlace, GivesMessage}
use Rattle.sled_core.specs.NoForeign.{NoHeaderOfZeros}
use Rattle.sled_core.specs.Running.{IsStored}
use Rattle.sled_core.specs.invariants.Running.{Fits}
use Rattle.sled_core.proofs.Iterated.SegmentReads.{segment_begins, segment_held}
use Rattle.sled_core.specs.inside.Recoverable.{HasItem}
use Rattle.sled_core.specs.ReadPointer.{GivesBlob, GivesBlobOrWaits, IsSegmentRecord, IsStableBlob, IsStoredBlob, place_read}
use Rattle.sled_core.specs.inside.ReadPointer.{IsDamageOf}
use Rattle.sled_core.proofs.Line.KeptCalls.{holds_fast, log_still, log_writing, spared_same, writing_further, writing_still}
use Rattle.sled_core.proofs.Line.Advanced.{same_current}
use Rattle.sled_core.proofs.Line.CameFar.{around_none, came_behind, seals_none, still_around}
use Rattle.sled_core.proofs.Line.BlobReads.{gives_read, item_read, reads_stable, stable_begins, stable_stored}
use Rattle.sled_core.proofs.Line.KeptReads.{err_waits, gives_at_once, inline_read, kept_stored}
use Rattle.sled_core.proofs.Line.LogSpans.{same_buffers}
use Rattle.sled_core.proofs.Line.HeaderMarks.{segment_same}
use Rattle.sled_core.proofs.Line.Wrote.{status_same}
use Rattle.sled_core.proofs.Line.Reads.{above_zero, around_err, around_read, err_answers, err_damages, err_gives, err_refuses, err_settles, fits_begins, is_settled, read_answers, read_held, read_reserved, read_settles, refuses_none, seals_err, seals_read, settled_record}
use Rattle.sled_core.proofs.Line.Records.{inline_is}
use Rattle.sled_core.proofs.Line.Settles.{held_stable, stable_up, written_still}
use Rattle.sled_core.proofs.Read.GivesLemmas.{gives}
use Rattle.sled_core.proofs.Read.PathLemmas.{stands_readable}
use Rattle.sled_core.proofs.Read.PointerLemmas.{damage_at, damage_inline, if_err, read_here, reads_inline}
use Rattle.sled_core.proofs.Read.ReadingLemmas.{if_ok}
use Rattle.sled_core.proofs.Line.Pools.{pools_same, pools_some, pools_some_further, pools_still}
use Rattle.sled_core.proofs.logger.Log.read.Given as given
use Rattle.sled_core.proofs.logger.Log.read.Goals.{Joined-then-lsn-lt0, then-lsn-lt0-via-then-lsn-lt0, then-lsn-lt0-via-else-lsn-lt0+then-not-may_begin}
use Rattle.sled_core.proofs.logger.Log.read.Goals as goal

-- Nothing was sealed.
nothing_sealed : {D C : Type 0} (trace : D → Trace) (sum : List ℕ → ℕ) (log : Log D C) (at : ℤ) (e : Error) → (IsHeld {T = LogRead} (Err e) → ⊥)
    → SealsAround {T = LogRead} (Err e) at log log × WritesAround {T = LogRead} sum (Err e) at log log × CameAround trace sum at log log
nothing_sealed trace sum log at e never = (seals_none log at e never, around_none log at e never sum, still_around trace sum at log)

-- Where the log keeps a failure nothing is done.

pub returns-in-Some-clause-blob : goal.returns-in-Some-clause-blob
returns-in-Some-clause-blob g c = λ H A f U m fits zeros.
    let some : c.args.self.now.fault.kept ≡ None → ⊥ = λ none. let both : None ≡ c.args.self.now.fault.kept = sym none in let is = c.in-Some.is in cc in
    record { stable = λ _ none. absurd (some none); kept = λ _ none. absurd (some none); stored = λ _ none. absurd (some none); inline = λ _ none. absurd (some none) }

pub returns-in-Some-clause-calls : goal.returns-in-Some-clause-calls
returns-in-Some-clause-calls g c = record { made = tt; damaged = λ is. absurd is; missed = λ none _. absurd (let both : None ≡ c.args.self.now.fault.kept = sym none in let is = c.in-Some.is in cc); at_most = performs_nothing _ _ _ refl; settled = tt; unwritten = λ _. refl }

pub returns-in-Some-clause-keeps : goal.returns-in-Some-clause-keeps
returns-in-Some-clause-keeps g c = writing_still g.D.Device.trace g.C.Checksum.sum_of c.args.self.now

pub returns-in-Some-clause-only : goal.returns-in-Some-clause-only
returns-in-Some-clause-only g c = λ _. log_still g.D.Device.trace g.C.Checksum.sum_of c.args.self.now

pub returns-in-Some-clause-buffers : goal.returns-in-Some-clause-buffers
returns-in-Some-clause-buffers g c = nothing_sealed g.D.Device.trace g.C.Checksum.sum_of c.args.self.now (place_read c.args.lsn c.args.ptr) (Io c.in-Some.e) (λ held. held)

-- So it is where there is no such place.

-- a place at which a record may begin isn't refused
not_there : (g : given.Over) (c : Joined-then-lsn-lt0 g) → (n : ℕ) → pos n ≡ c.args.lsn → MayBegin (segment_size_of c.args.self.now) (lid_of c.args.ptr) → ⊥
not_there g c n at begins =
    let begins_there : MayBegin (segment_size_of c.args.self.now) c.lid-lid.result = subst (MayBegin (segment_size_of c.args.self.now)) (sym c.lid-lid.ensures) begins in
    elim c.then-lsn-lt0.branch [
      | then-lsn-lt0-via-then-lsn-lt0 w ↦ (let negative : c.args.lsn <ℤ pos 0 = search rules in let both : pos n <ℤ pos 0 = subst (λ z. z <ℤ pos 0) (sym at) negative in search rules)
      | then-lsn-lt0-via-else-lsn-lt0+then-not-may_begin w ↦ (let yes : IsTrue w.may_begin.result = w.may_begin.ensures.1 begins_there in search rules)
    ]

pub returns-then-lsn-lt0-clause-undamaged : goal.returns-then-lsn-lt0-clause-undamaged
returns-then-lsn-lt0-clause-undamaged g c = λ H A f U m fits there has at pointer inline _.
    not_there g c m.place at (fits_begins g.D.Device.trace g.C.Checksum.sum_of c.args.self.now H A f U fits c.in_default.is m there has (lid_of c.args.ptr) (pointer ∙ inline_is c.args.ptr inline))

pub returns-then-lsn-lt0-clause-blob : goal.returns-then-lsn-lt0-clause-blob
returns-then-lsn-lt0-clause-blob g c = λ H A f U m fits zeros.
    let old = c.args.self.now in
    let never : pos m.place ≡ c.args.lsn → m.pointer ≡ c.args.ptr → MayBegin (segment_size_of old) (lid_of m.pointer) → ⊥ = λ place pointer begins.
    not_there g c m.place place (subst (λ (p : DiskPtr). MayBegin (segment_size_of old) (lid_of p)) pointer begins) in
    let trace = g.D.Device.trace in
    let sum = g.C.Checksum.sum_of in
    let begins = segment_begins trace sum old H A f U fits c.in_default.is zeros m in
    let stored : IsStoredBlob trace sum old H m c.args.pid c.args.lsn c.args.ptr → ⊥ = λ is. elim is.has [
      | inl segment ↦ never is.place is.pointer (begins is.known segment)
      | inr may ↦ not_there g c m.place is.place may
    ] in
    record {
      stable = λ is. absurd (never is.place is.pointer (stable_begins trace sum old H A f U fits c.in_default.is zeros m is.entry));
      kept = λ is. absurd (stored (kept_stored trace sum old H A f U fits m _ _ _ is));
      stored = λ is. absurd (stored is);
      inline = λ is. absurd (never is.place is.pointer (begins is.known is.has));
    }

pub returns-then-lsn-lt0-clause-calls : goal.returns-then-lsn-lt0-clause-calls
returns-then-lsn-lt0-clause-calls g c = record {
  made = tt;
  damaged = λ _. inl (elim c.then-lsn-lt0.branch [
    | then-lsn-lt0-via-then-lsn-lt0 w ↦ (let negative : c.args.lsn <ℤ pos 0 = search rules in inl negative)
    | then-lsn-lt0-via-else-lsn-lt0+then-not-may_begin w ↦ inr (λ begins.
        let begins_there : MayBegin (segment_size_of c.args.self.now) c.lid-lid.result = subst (MayBegin (segment_size_of c.args.self.now)) (sym c.lid-lid.ensures) begins in
        let yes : IsTrue w.may_begin.result = w.may_begin.ensures.1 begins_there in search rules)
  ]);
  missed = λ _ is. absurd is;
  at_most = performs_nothing _ _ _ refl;
  settled = tt;
  unwritten = λ _. refl;
}

pub returns-then-lsn-lt0-clause-buffers : goal.returns-then-lsn-lt0-clause-buffers
returns-then-lsn-lt0-clause-buffers g c = nothing_sealed g.D.Device.trace g.C.Checksum.sum_of c.args.self.now (place_read c.args.lsn c.args.ptr) (Corruption None) (λ held. held)

pub returns-then-lsn-lt0-clause-keeps : goal.returns-then-lsn-lt0-clause-keeps
returns-then-lsn-lt0-clause-keeps g c = writing_still g.D.Device.trace g.C.Checksum.sum_of c.args.self.now

pub returns-then-lsn-lt0-clause-only : goal.returns-then-lsn-lt0-clause-only
returns-then-lsn-lt0-clause-only g c = λ _. log_still g.D.Device.trace g.C.Checksum.sum_of c.args.self.now

-- The place is one.

-- the place that is settled, as code has it
at_is : (lsn z : ℤ) (p : DiskPtr) → SFits w64 lsn → SFits w64 z → z ≡ place_read (to_z w64 (of_z w64 lsn)) p → to_z w64 (of_z w64 z) ≡ place_read lsn p
at_is lsn z p fits fits_too is = to_z-of_z w64 z fits_too ∙ is ∙ ap (λ x. place_read x p) (to_z-of_z w64 lsn fits)

is_place : (size lid other : ℕ) (lsn : ℤ) (may : Type 0) → may → (may → MayBegin size other) → other ≡ lid → pos 0 ≤ℤ lsn → IsNoPlace size lsn lid → ⊥
is_place size lid other lsn may there begins same above none = elim none [
  | inl negative ↦ omega (arith, ints, negative, above)
  | inr never ↦ never (subst (MayBegin size) same (begins there))
]

-- It isn't settled.

at_err : (g : given.Over) (c : goal.After-from_residual g) → to_z w64 (of_z w64 c.place_read.result) ≡ place_read c.args.lsn c.args.ptr
at_err g c = at_is c.args.lsn c.place_read.result c.args.ptr c.ranges.lsn (record { sfits = c.place_read.type_inv }) c.place_read.ensures

-- the answer that it gets
err_at : (g : given.Over) (c : goal.After-from_residual g) → SettleAnswers {T = Unit {0}} (Err c.in_err-settle_at.field-0.0) (place_read c.args.lsn c.args.ptr) (synced_end c.args.self.now) (reserved_end c.args.self.now) (held_at g.C.Checksum.sum_of c.args.self.now (place_read c.args.lsn c.args.ptr))
    (IsUsedUpAt c.args.self.now (place_read c.args.lsn c.args.ptr)) c.settle_at.new.self.fault.kept (g.D.Device.faults c.args.self.now.config.device) (g.D.Device.faults c.settle_at.new.self.config.device)
err_at g c = subst (λ z. SettleAnswers {T = Unit {0}} (Err c.in_err-settle_at.field-0.0) z (synced_end c.args.self.now) (reserved_end c.args.self.now) (held_at g.C.Checksum.sum_of c.args.self.now z) (IsUsedUpAt c.args.self.now z) c.settle_at.new.self.fault.kept
    (g.D.Device.faults c.args.self.now.config.device) (g.D.Device.faults c.settle_at.new.self.config.device)) (at_err g c) c.in_err-settle_at.ensures.answers

-- which is no damage
err_sound : (S T : Type 0) (e : Error) (lsn : ℤ) (stable end : ℕ) (held : Option ℕ) (used : Type 0) (now : Option IoError) (before after : ℕ) → SettleAnswers {T = S} (Err e) lsn stable end held used now before after → IsCorruption {T = T} (Err e) → ⊥
err_sound S T (Corruption at) lsn stable end held used now before after answers is = absurd answers.1
err_sound S T _ lsn stable end held used now before after answers is = absurd is

pub returns-in_err-settle_at-clause-undamaged : goal.returns-in_err-settle_at-clause-undamaged
returns-in_err-settle_at-clause-undamaged g c = λ H A f U m fits among has place pointer inline.
    let e = err_from_is_err_and c.from_residual.result c.from_residual.ensures.1 in
    rw (e.1, e.2) (err_sound (Unit {0}) LogRead c.in_err-settle_at.field-0.0 _ _ _ _ _ _ _ _ (err_at g c))

pub returns-in_err-settle_at-clause-corrupt : goal.returns-in_err-settle_at-clause-corrupt
returns-in_err-settle_at-clause-corrupt g c =
    let e = err_from_is_err_and c.from_residual.result c.from_residual.ensures.1 in
    let s : State = state_of (g.D.Device.trace (device_of c.settle_at.new.self)) in
    rw (e.1, e.2) (err_damages (Unit {0}) g.C.Checksum.sum_of (segment_size_of c.args.self.now) s c.args.lsn c.args.ptr c.in_err-settle_at.field-0.0
    _ _ _ _ _ _ _ _ (err_at g c))

pub returns-in_err-settle_at-clause-blob : goal.returns-in_err-settle_at-clause-blob
returns-in_err-settle_at-clause-blob g c = λ H A f U m fits zeros.
    let old = c.args.self.now in
    let sum = g.C.Checksum.sum_of in
    let at : ℤ = place_read c.args.lsn c.args.ptr in
    let below : IsStableBlob old H m c.args.pid c.args.lsn c.args.ptr → at <ℤ pos (synced_end old) = reads_stable g.D.Device.trace sum old H A f U fits c.in_default.is zeros m c.args.pid c.args.lsn c.args.ptr in
    let e = err_from_is_err_and c.from_residual.result c.from_residual.ensures.1 in
    rw (e.1, e.2) (record {
      stable = λ is. err_gives (Unit {0}) c.in_err-settle_at.field-0.0 m _ at _ _ _ _ _ _ _ (below is) (held_stable old sum at (below is)) (λ used. stable_up old at used.0) (err_at g c);
      kept = λ is. err_waits (Unit {0}) c.in_err-settle_at.field-0.0 m _ _ _ _ _ _ _ _ _ (err_at g c);
      stored = λ is. err_waits (Unit {0}) c.in_err-settle_at.field-0.0 m _ _ _ _ _ _ _ _ _ (err_at g c);
      inline = λ is. err_waits (Unit {0}) c.in_err-settle_at.field-0.0 m _ _ _ _ _ _ _ _ _ (err_at g c);
    })

pub returns-in_err-settle_at-clause-calls : goal.returns-in_err-settle_at-clause-calls
returns-in_err-settle_at-clause-calls g c =
    let old = c.args.self.now in
    let mid = c.settle_at.new.self in
    let sum = g.C.Checksum.sum_of in
    let at = at_err g c in
    let e = err_from_is_err_and c.from_residual.result c.from_residual.ensures.1 in
    rw (e.1, e.2) (err_settles c.args.lsn c.args.ptr sum old mid (Unit {0}) LogRead c.in_err-settle_at.field-0.0 _ _ _ _ _ g.D.Device.trace (err_at g c)
    (subst (λ z. OnDone {T = Unit {0}} (Err c.in_err-settle_at.field-0.0) (g.D.Device.trace mid.config.device ≡ after_all (settling sum old z) (g.D.Device.trace old.config.device))) at c.in_err-settle_at.ensures.calls)
    (subst (λ z. Performs (settling sum old z) (g.D.Device.trace old.config.device) (g.D.Device.trace mid.config.device)) at c.settle_at.ensures.at_most)
    (λ below. ap (λ (l : Log g.row.D.Denot g.row.C.Denot). g.D.Device.trace l.config.device) (subst (λ z. z <ℤ pos (synced_end old) → mid ≡ old) at c.settle_at.ensures.still below)))

pub returns-in_err-settle_at-clause-refused : goal.returns-in_err-settle_at-clause-refused
returns-in_err-settle_at-clause-refused g c =
    let e = err_from_is_err_and c.from_residual.result c.from_residual.ensures.1 in
    let above : pos 0 ≤ℤ c.args.lsn = above_zero c.args.lsn c.ranges.lsn c.if-lsn-lt0.false in
    let yes : IsTrue c.may_begin.result = search rules in
    rw (e.1, e.2) (err_refuses c.args.lsn c.args.ptr g.C.Checksum.sum_of c.args.self.now c.settle_at.new.self (Unit {0}) LogRead c.in_err-settle_at.field-0.0 _ _ _ _ _ (err_at g c) c.in_default.is c.in_err-settle_at.ensures.unchanged (is_place (segment_size_of c.args.self.now) (lid_of c.args.ptr) c.lid-lid.result c.args.lsn _ yes c.may_begin.ensures.0 c.lid-lid.ensures above))

pub returns-in_err-settle_at-clause-buffers : goal.returns-in_err-settle_at-clause-buffers
returns-in_err-settle_at-clause-buffers g c =
    let old = c.args.self.now in
    let mid = c.settle_at.new.self in
    let sum = g.C.Checksum.sum_of in
    let at = at_err g c in
    let e = err_from_is_err_and c.from_residual.result c.from_residual.ensures.1 in
    rw (e.1, e.2) (
      seals_err (place_read c.args.lsn c.args.ptr) old mid c.in_err-settle_at.field-0.0 (subst (λ z. SealsAround {T = Unit {0}} (Err c.in_err-settle_at.field-0.0) z old mid) at c.in_err-settle_at.ensures.seals),
      around_err (place_read c.args.lsn c.args.ptr) old mid sum c.in_err-settle_at.field-0.0 (subst (λ z. WritesAround {T = Unit {0}} sum (Err c.in_err-settle_at.field-0.0) z old mid) at c.in_err-settle_at.ensures.buffers.0),
      subst (λ z. CameAround g.D.Device.trace sum z old mid) at c.in_err-settle_at.ensures.buffers.1,
    )

pub returns-in_err-settle_at-clause-only : goal.returns-in_err-settle_at-clause-only
returns-in_err-settle_at-clause-only g c = λ below.
    let trace = g.D.Device.trace in
    let sum = g.C.Checksum.sum_of in
    let old = c.args.self.now in
    let low = subst (λ z. z <ℤ pos (synced_end old)) (sym (at_err g c)) below in
    subst (λ (l : Log g.row.D.Denot g.row.C.Denot). KeepsLog trace sum old l) (sym (c.settle_at.ensures.still low)) (log_still trace sum old)

pub returns-in_err-settle_at-clause-answers : goal.returns-in_err-settle_at-clause-answers
returns-in_err-settle_at-clause-answers g c =
    let old = c.args.self.now in
    let sum = g.C.Checksum.sum_of in
    let new = c.settle_at.new.self in
    let at : ℤ = place_read c.args.lsn c.args.ptr in
    let e = err_from_is_err_and c.from_residual.result c.from_residual.ensures.1 in
    rw (e.1, e.2) (subst (λ (o : Option IoError). ReadAnswers {T = LogRead} sum (state_of (g.D.Device.trace new.config.device)).blobs.file c.args.ptr (Err c.in_err-settle_at.field-0.0) at (synced_end old) (reserved_end old) (held_at sum old at) (IsUsedUpAt old at) o new.fault.kept
    (g.D.Device.faults old.config.device) (g.D.Device.faults new.config.device)) (sym c.in_default.is)
    (err_answers (Unit {0}) LogRead sum _ c.args.ptr c.in_err-settle_at.field-0.0 at (synced_end old) (reserved_end old) (held_at sum old at) (IsUsedUpAt old at) _ _ _ (λ below. held_stable old sum at below) (λ used. stable_up old at used.0) (err_at g c)))

-- It is settled.

pub read_settled-requires-clause-begin : goal.read_settled-requires-clause-begin
read_settled-requires-clause-begin g c =
    let yes : IsTrue c.may_begin.result = search rules in
    subst (λ n. MayBegin n (lid_of c.args.ptr)) (sym c.in_ok-settle_at.ensures.keeps.position.size) (subst (MayBegin (segment_size_of c.args.self.now)) c.lid-lid.ensures (c.may_begin.ensures.0 yes))

place_is : (g : given.Over) (c : goal.After-read_settled g) → c.unsigned_abs.result ≡ unsigned_abs c.args.lsn
place_is g c = c.unsigned_abs.ensures.value ∙ ap unsigned_abs (to_z-of_z w64 c.args.lsn c.ranges.lsn)

at_ok : (g : given.Over) (c : goal.After-read_settled g) → to_z w64 (of_z w64 c.place_read.result) ≡ place_read c.args.lsn c.args.ptr
at_ok g c = at_is c.args.lsn c.place_read.result c.args.ptr c.ranges.lsn (record { sfits = c.place_read.type_inv }) c.place_read.ensures

-- the record of a message stands where it is read
held_there : (g : given.Over) (c : goal.After-read_settled g) (H : History) (m : Message)
    → HoldsFast g.D.Device.trace g.C.Checksum.sum_of c.args.self.now H ⊎ (Holds g.D.Device.trace g.C.Checksum.sum_of c.args.self.now H × (c.args.lsn <ℤ pos (synced_end c.args.self.now)))
    → Contains H.messages m → HasRecordOf c.args.self.now H m → pos m.place ≡ c.args.lsn → m.pointer ≡ c.args.ptr → IsInline c.args.ptr
    → MessageStands g.C.Checksum.sum_of (segment_size_of c.settle_at.new.self) (state_of (g.D.Device.trace c.settle_at.new.self.config.device)).log.bytes (lid_of c.args.ptr) (c.unsigned_abs.result / c.args.self.now.config.config.segment_size) m
held_there g c H m either there has at pointer inline =
    let old = c.args.self.now in
    let mid = c.settle_at.new.self in
    let trace = g.D.Device.trace in
    let sum = g.C.Checksum.sum_of in
    let device : State = state_of (trace mid.config.device) in
    let size : ℕ = mid.config.config.segment_size in
    let here : to_z w64 (of_z w64 c.place_read.result) ≡ pos m.place = at_ok g c ∙ read_here c.args.lsn c.args.ptr inline ∙ sym at in
    let written : IsWrittenPlace mid m.place = subst (λ z. pos 0 ≤ℤ z → IsWrittenPlace mid (unsigned_abs z)) here c.in_ok-settle_at.ensures.written (omega (arith, ints)) in
    let still : m.place < synced_end old → mid ≡ old = λ below. subst (λ z. z <ℤ pos (synced_end old) → mid ≡ old) here c.settle_at.ensures.still (omega (arith, ints, below)) in
    let holds : Holds trace sum old H = elim either [ inl fast ↦ holds_fast trace sum old H fast | inr synced ↦ synced.0 ] in
    -- it holds the history fast, or nothing is written
    let goes_on : Holds trace sum mid H = elim either [
      | inl fast ↦ c.settle_at.ensures.keeps.preserves.history H fast
      | inr synced ↦ (
          let low : pos m.place <ℤ pos (synced_end old) = subst (λ z. z <ℤ pos (synced_end old)) (sym at) synced.1 in
          subst (λ (l : Log g.row.D.Denot g.row.C.Denot). Holds trace sum l H) (sym (still (omega (arith, ints, low)))) synced.0)
    ] in
    let found = settled_record trace sum old mid H m holds goes_on c.in_default.is c.in_ok-settle_at.ensures.answers.1.3 there has written still (c.in_ok-settle_at.ensures.joined H holds) (lid_of c.args.ptr) (pointer ∙ inline_is c.args.ptr inline) in
    let place : c.unsigned_abs.result ≡ m.place = place_is g c ∙ ap unsigned_abs (sym at) in
    let number : c.unsigned_abs.result / c.args.self.now.config.config.segment_size ≡ m.place / size =
    ap (λ n. n / c.args.self.now.config.config.segment_size) place ∙ ap (λ n. m.place / n) (sym c.in_ok-settle_at.ensures.keeps.position.size) in
    subst (λ n. MessageStands sum size device.log.bytes (lid_of c.args.ptr) n m) (sym number) found.stands

-- so that it is given, and is no damage
abbrev IsThere : (g : given.Over) → goal.After-read_settled g → Message → Type 0
IsThere g c m =
    MessageStands g.C.Checksum.sum_of (segment_size_of c.settle_at.new.self) (state_of (g.D.Device.trace c.settle_at.new.self.config.device)).log.bytes
    (lid_of c.args.ptr) (c.unsigned_abs.result / c.args.self.now.config.config.segment_size) m

there_given : (g : given.Over) (c : goal.After-read_settled g) (m : Message) → IsInline c.args.ptr → IsThere g c m → IfOk c.read_settled.result (GivesMessage m)
there_given g c m inline s =
    let device : State = state_of (g.D.Device.trace c.settle_at.new.self.config.device) in
    if_ok c.read_settled.result _ (GivesMessage m) (λ (r : LogRead) reads. gives g.C.Checksum.sum_of _ _ _ _ _ m s.header r s.stands s.known s.page
    (reads_inline g.C.Checksum.sum_of _ device _ _ c.args.ptr r inline reads)) c.read_settled.ensures.reading

there_sound : (g : given.Over) (c : goal.After-read_settled g) (m : Message) → IsInline c.args.ptr → IsThere g c m → IsCorruption c.read_settled.result → ⊥
there_sound g c m inline s damaged =
    stands_readable g.C.Checksum.sum_of _ _ _ _ m s _
    (damage_inline g.C.Checksum.sum_of _ (state_of (g.D.Device.trace c.settle_at.new.self.config.device)) _ c.args.ptr c.read_settled.result inline
    c.read_settled.ensures.damage damaged)

pub returns-clause-message : goal.returns-clause-message
returns-clause-message g c = λ H m either there has at pointer inline. there_given g c m inline (held_there g c H m either there has at pointer inline)

-- what a log fits is held without damage

pub returns-clause-undamaged : goal.returns-clause-undamaged
returns-clause-undamaged g c = λ H A f U m fits there has at pointer inline.
    there_sound g c m inline (held_there g c H m (inl (inr (A, f, U, fits))) there has at pointer inline)

-- The record of a message stands there, too, whose segment a slot has.
segment_there : (g : given.Over) (c : goal.After-read_settled g) (H : History) (A f : ℕ) (U : List Message) (m : Message)
    → Fits g.D.Device.trace g.C.Checksum.sum_of c.args.self.now H A f U → NoHeaderOfZeros g.C.Checksum.sum_of
    → IsSegmentRecord c.args.self.now H m c.args.lsn c.args.ptr → IsThere g c m
segment_there g c H A f U m fits zeros is =
    let old = c.args.self.now in
    let mid = c.settle_at.new.self in
    let trace = g.D.Device.trace in
    let sum = g.C.Checksum.sum_of in
    elim (segment_held trace sum old H A f U fits c.in_default.is zeros m is.known is.has (lid_of c.args.ptr) (is.pointer ∙ inline_is c.args.ptr is.inline)) [
      | inl has ↦ held_there g c H m (inl (inr (A, f, U, fits))) is.known has is.place is.pointer is.inline
      | inr (low, held) ↦ (
          let here : to_z w64 (of_z w64 c.place_read.result) ≡ pos m.place = at_ok g c ∙ read_here c.args.lsn c.args.ptr is.inline ∙ sym is.place in
          let below : m.place < synced_end old = omega (arith, low) in
          let still : mid ≡ old = subst (λ z. z <ℤ pos (synced_end old) → mid ≡ old) here c.settle_at.ensures.still (omega (arith, ints, below)) in
          let place : c.unsigned_abs.result ≡ m.place = place_is g c ∙ ap unsigned_abs (sym is.place) in
          subst (λ n. MessageStands sum (segment_size_of mid) (state_of (trace mid.config.device)).log.bytes (lid_of c.args.ptr)
          (n / c.args.self.now.config.config.segment_size) m) (sym place)
          (subst (λ (l : Log g.row.D.Denot g.row.C.Denot). MessageStands sum (segment_size_of l) (state_of (trace l.config.device)).log.bytes
          (lid_of c.args.ptr) (m.place / c.args.self.now.config.config.segment_size) m) (sym still) held.stands))
    ]

-- the blob of a message is there

pub returns-clause-blob : goal.returns-clause-blob
returns-clause-blob g c = λ H A f U m fits zeros.
    let old = c.args.self.now in
    let sum = g.C.Checksum.sum_of in
    let trace = g.D.Device.trace in
    let mid = c.settle_at.new.self in
    let s : State = state_of (trace (device_of mid)) in
    let gives : (IsInline c.args.ptr → ⊥) → m.pointer ≡ c.args.ptr → m.page ≡ c.args.pid → IsStored trace sum mid m → GivesBlob m (fault_of old) c.read_settled.result = λ beside pointer page stored.
    gives_read sum _ s m c.args.pid _ c.args.ptr _ c.read_settled.result _ _ _ _ beside pointer page
    (subst (HasItem sum s.blobs.file m) pointer (item_read sum s.blobs m m.pointer stored.item)) refl
    c.read_settled.ensures.reading c.read_settled.ensures.damage c.read_settled.ensures.answers in
    -- no write removes a blob that is spared
    let stored : IsStoredBlob trace sum old H m c.args.pid c.args.lsn c.args.ptr → GivesBlobOrWaits m (fault_of old) c.read_settled.result = λ is.
    gives_at_once m _ c.read_settled.result (gives is.beside is.pointer is.page
    (c.settle_at.ensures.keeps.preserves.goes_on.items c.in_ok-settle_at.ensures.answers.1.3 m is.spared is.stored)) in
    -- and where the place is stable nothing is written
    let below : IsStableBlob old H m c.args.pid c.args.lsn c.args.ptr → place_read c.args.lsn c.args.ptr <ℤ pos (synced_end old) =
    reads_stable trace sum old H A f U fits c.in_default.is zeros m c.args.pid c.args.lsn c.args.ptr in
    let still : IsStableBlob old H m c.args.pid c.args.lsn c.args.ptr → mid ≡ old = λ is.
    subst (λ z. z <ℤ pos (synced_end old) → mid ≡ old) (at_ok g c) c.in_ok-settle_at.ensures.still (below is) in
    record {
      stable = λ is. gives is.beside is.pointer is.page (subst (λ (l : Log g.row.D.Denot g.row.C.Denot). IsStored trace sum l m) (sym (still is)) (stable_stored trace sum old H A f U fits m is.entry));
      kept = λ is. stored (kept_stored trace sum old H A f U fits m _ _ _ is);
      stored = stored;
      inline = λ is.
          let s = segment_there g c H A f U m fits zeros is in
          inline_read sum (state_of (trace (device_of mid))).blobs.file m c.args.ptr (fault_of old) c.read_settled.result None _ _ _ is.inline refl
          (there_given g c m is.inline s) (there_sound g c m is.inline s) c.read_settled.ensures.answers;
    }

pub returns-clause-corrupt : goal.returns-clause-corrupt
returns-clause-corrupt g c =
    let size : ℕ = c.args.self.now.config.config.segment_size in
    let s : State = state_of (g.D.Device.trace c.read_settled.new.self.config.device) in
    let mid = c.settle_at.new.self in
    let now : State = state_of (g.D.Device.trace (device_of mid)) in
    let sum = g.C.Checksum.sum_of in
    let n : ℕ = unsigned_abs c.args.lsn / size in
    if_err c.read_settled.result _ _ (λ e is. damage_at sum size s c.args.lsn c.args.ptr e
    (subst (λ x. IsDamageOf sum x s n c.args.ptr e) c.in_ok-settle_at.ensures.keeps.position.size
    (subst (λ (t : Trace). IsDamageOf sum (segment_size_of mid) (state_of t) n c.args.ptr e) (sym c.read_settled.ensures.trace)
    (subst (λ x. IsDamageOf sum (segment_size_of mid) now (x / size) c.args.ptr e) (place_is g c) is)))) c.read_settled.ensures.damage

pub returns-clause-keeps : goal.returns-clause-keeps
returns-clause-keeps g c =
    let mid = c.settle_at.new.self in
    let new = c.read_settled.new.self in
    writing_further g.D.Device.trace g.C.Checksum.sum_of c.args.self.now mid new c.settle_at.ensures.keeps
    (log_writing g.D.Device.trace g.C.Checksum.sum_of mid new c.read_settled.ensures.keeps
    (spared_same mid new (ap (λ (l : Ledger). l.machine) c.read_settled.ensures.ledger) c.read_settled.ensures.keeps.position.pins))

-- where the place is stable nothing was written before the device was read
pub returns-clause-only : goal.returns-clause-only
returns-clause-only g c = λ below.
    let trace = g.D.Device.trace in
    let sum = g.C.Checksum.sum_of in
    let old = c.args.self.now in
    let low = subst (λ z. z <ℤ pos (synced_end old)) (sym (at_ok g c)) below in
    subst (λ (l : Log g.row.D.Denot g.row.C.Denot). KeepsLog trace sum l c.read_settled.new.self) (c.settle_at.ensures.still low) c.read_settled.ensures.keeps

-- the answer of the settling
ok_at : (g : given.Over) (c : goal.After-read_settled g) → SettleAnswers {T = Unit {0}} (Ok tt) (place_read c.args.lsn c.args.ptr) (synced_end c.args.self.now) (reserved_end c.args.self.now) (held_at g.C.Checksum.sum_of c.args.self.now (place_read c.args.lsn c.args.ptr))
    (IsUsedUpAt c.args.self.now (place_read c.args.lsn c.args.ptr)) c.settle_at.new.self.fault.kept (g.D.Device.faults c.args.self.now.config.device) (g.D.Device.faults c.settle_at.new.self.config.device)
ok_at g c = subst (λ z. SettleAnswers {T = Unit {0}} (Ok tt) z (synced_end c.args.self.now) (reserved_end c.args.self.now) (held_at g.C.Checksum.sum_of c.args.self.now z) (IsUsedUpAt c.args.self.now z) c.settle_at.new.self.fault.kept
    (g.D.Device.faults c.args.self.now.config.device) (g.D.Device.faults c.settle_at.new.self.config.device)) (at_ok g c) c.in_ok-settle_at.ensures.answers

pub returns-clause-calls : goal.returns-clause-calls
returns-clause-calls g c =
    let old = c.args.self.now in
    let sum = g.C.Checksum.sum_of in
    let mid = c.settle_at.new.self in
    let new = c.read_settled.new.self in
    let above : pos 0 ≤ℤ c.args.lsn = above_zero c.args.lsn c.ranges.lsn c.if-lsn-lt0.false in
    let at = at_ok g c in
    read_settles g.D.Device.trace sum c.read_settled.result c.args.lsn c.args.ptr old mid new
    (ok_at g c).1.0
    (subst (λ z. g.D.Device.trace mid.config.device ≡ after_all (settling sum old z) (g.D.Device.trace old.config.device)) at c.in_ok-settle_at.ensures.calls)
    (λ below. ap (λ (l : Log g.row.D.Denot g.row.C.Denot). g.D.Device.trace l.config.device) (subst (λ z. z <ℤ pos (synced_end old) → mid ≡ old) at c.settle_at.ensures.still below)) c.read_settled.ensures.trace
    (is_settled new c.args.lsn c.args.ptr above (subst (λ z. pos 0 ≤ℤ z → IsWrittenPlace new (unsigned_abs z)) at (λ up. written_still mid new c.read_settled.ensures.line _ (c.in_ok-settle_at.ensures.written up))))

pub returns-clause-refused : goal.returns-clause-refused
returns-clause-refused g c =
    let above : pos 0 ≤ℤ c.args.lsn = above_zero c.args.lsn c.ranges.lsn c.if-lsn-lt0.false in
    let yes : IsTrue c.may_begin.result = search rules in
    refuses_none c.args.lsn c.args.ptr g.C.Checksum.sum_of c.args.self.now c.read_settled.new.self c.read_settled.result c.in_default.is
    (read_reserved g.C.Checksum.sum_of _ c.args.ptr c.read_settled.result _ _ _ _ c.read_settled.ensures.answers) (is_place (segment_size_of c.args.self.now) (lid_of c.args.ptr) c.lid-lid.result c.args.lsn _ yes c.may_begin.ensures.0 c.lid-lid.ensures above) (ok_at g c).0

pub returns-clause-buffers : goal.returns-clause-buffers
returns-clause-buffers g c =
    let old = c.args.self.now in
    let sum = g.C.Checksum.sum_of in
    let mid = c.settle_at.new.self in
    let new = c.read_settled.new.self in
    let place : ℤ = place_read c.args.lsn c.args.ptr in
    let at = at_ok g c in
    let same = same_buffers mid new c.read_settled.ensures.line in
    let keeps = c.read_settled.ensures.keeps in
    let status = status_same mid new c.read_settled.ensures.line c.read_settled.ensures.ledger keeps.position keeps.tickets keeps.preserves.noted in
    let free = read_held sum _ c.args.ptr c.read_settled.result _ _ _ _ c.read_settled.ensures.answers in (
      seals_read place old mid c.read_settled.result new tt (subst (λ z. SealsAround {T = Unit {0}} (Ok tt) z old mid) at c.in_ok-settle_at.ensures.seals) same.0 (same_current mid new c.read_settled.ensures.line) free,
      around_read place old mid sum c.read_settled.result new tt (subst (λ z. WritesAround {T = Unit {0}} sum (Ok tt) z old mid) at c.in_ok-settle_at.ensures.buffers.0) same.0 status free (segment_same mid new c.read_settled.ensures.line),
      came_behind g.D.Device.trace sum old mid new place tt c.read_settled.result (subst (λ z. WritesAround {T = Unit {0}} sum (Ok tt) z old mid) at c.in_ok-settle_at.ensures.buffers.0)
          (subst (λ z. g.D.Device.trace (device_of mid) ≡ after_all (settling sum old z) (g.D.Device.trace (device_of old))) at c.in_ok-settle_at.ensures.calls)
          (subst (λ z. held_at sum old z ≡ None) at c.in_ok-settle_at.ensures.answers.1.0)
          (λ below. ap (λ (l : Log g.row.D.Denot g.row.C.Denot). g.D.Device.trace l.config.device) (subst (λ z. z <ℤ pos (synced_end old) → mid ≡ old) at c.in_ok-settle_at.ensures.still below))
          same.0 status c.read_settled.ensures.trace,
    )

pub returns-clause-answers : goal.returns-clause-answers
returns-clause-answers g c =
    let old = c.args.self.now in
    let sum = g.C.Checksum.sum_of in
    let mid = c.settle_at.new.self in
    let new = c.read_settled.new.self in
    let at : ℤ = place_read c.args.lsn c.args.ptr in
    let blobs : Trace → ℤ → Option (List ℕ) = λ t. (state_of t).blobs.file in
    let is : (Option IoError → Trace → ℕ → Type 0) = λ o t n. ReadAnswers sum (blobs t) c.args.ptr c.read_settled.result at (synced_end old) (reserved_end old) (held_at sum old at) (IsUsedUpAt old at) o new.fault.kept n (g.D.Device.faults new.config.device) in
    let settled = ok_at g c in
    let answers = read_answers sum (blobs (g.D.Device.trace mid.config.device)) c.args.ptr c.read_settled.result at (synced_end old) (reserved_end old) (held_at sum old at) (IsUsedUpAt old at) new.fault.kept _ _ settled.0 settled.1.0 settled.1.1 c.read_settled.ensures.answers in
    subst (λ (t : Trace). is old.fault.kept t (g.D.Device.faults old.config.device)) (sym c.read_settled.ensures.trace)
    (subst (λ n. is old.fault.kept (g.D.Device.trace mid.config.device) n) settled.1.4
    (subst (λ (o : Option IoError). is o (g.D.Device.trace mid.config.device) (g.D.Device.faults mid.config.device)) (sym c.in_default.is) answers))

pub returns-in-Some-clause-pooled : goal.returns-in-Some-clause-pooled
returns-in-Some-clause-pooled g c = pools_some c.args.self.now c.args.self.now (pools_still c.args.self.now)

pub returns-then-lsn-lt0-clause-pooled : goal.returns-then-lsn-lt0-clause-pooled
returns-then-lsn-lt0-clause-pooled g c = pools_some c.args.self.now c.args.self.now (pools_still c.args.self.now)

pub returns-clause-pooled : goal.returns-clause-pooled
returns-clause-pooled g c =
    let mid = c.settle_at.new.self in
    let new = c.read_settled.new.self in
    let did = c.read_settled.ensures in
    pools_some_further c.args.self.now mid new c.settle_at.ensures.pooled (pools_same mid new did.line did.pool did.keeps.position.size)
