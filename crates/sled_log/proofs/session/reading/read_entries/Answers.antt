-- One more message is read.
use Rattle.std.proofs.Common.{Bool, false, rules, ◌≡◌, ◌∙◌, ◌∷◌, ◌++◌, length, drop, drop-cons, get_or, ℕ, suc, ◌+◌, ◌<◌, pos, List, [], Err, ap, sym, subst, arith, refl, inl, inr}
use Rattle.std.specs.Prelude.{Vec}
use Rattle.std.specs.declared.alloc.Global.{Global}
use Rattle.std.proofs.lemmas.List.{drop_all}
use Rattle.std.proofs.lemmas.Result.{err_from_is_err_and}
use Rattle.sled_codec.specs.declared.result.DiskPtr.TheVariants.{Inline}
use Rattle.sled_codec.specs.declared.result.Error.TheVariants as error
use Rattle.sled_codec.specs.Snapshots.{Entry}
use Rattle.sled_store.specs.declared.config.Config.{Config}
use Rattle.sled_log.specs.LogActs.{ReadsEntriesOver, ReadsSomeOver}
use Rattle.sled_log.specs.Readings.{ReadsEntries}
use Rattle.sled_log.specs.RunPhases.{view_by}
use Rattle.sled_log.proofs.Sessions.Reading.{HasReadSome, all_read, kept_unread, none_read, one_failed, one_more, unread}
use Rattle.sled_log.proofs.session.reading.read_entries.Given as given
use Rattle.sled_log.proofs.session.reading.read_entries.Goals as goal
use Rattle.sled_log.proofs.Sessions.LogActs.{no_writes, some_failed, some_more, some_none}

-- The log keeps a failure.
pub returns-in-Some-clause-reads : goal.returns-in-Some-clause-reads
returns-in-Some-clause-reads g c = λ stopped.
    let view = view_by g.D.Device.trace g.D.Device.faults stopped in
    kept_unread view g.C.Checksum.sum_of c.args.log.now c.args.page (c.args.base.now ∷ c.args.frags.now) c.in-Some.e (sym c.failure.ensures ∙ c.in-Some.is)

-- src/session/reading.rt:47:21
pub returns-in_err-items-clause-reads : goal.returns-in_err-items-clause-reads
returns-in_err-items-clause-reads g c = λ stopped.
    let view = view_by g.D.Device.trace g.D.Device.faults stopped in
    let gives = err_from_is_err_and c.from_residual.result c.from_residual.ensures.1 in
    rw (gives.1, gives.2) (unread view g.C.Checksum.sum_of c.args.log.now c.args.page (c.args.base.now ∷ c.args.frags.now) (sym c.failure.ensures ∙ c.in_default.is))

-- src/session/reading.rt:48:25
pub returns-in_err-read_item-clause-reads : goal.returns-in_err-read_item-clause-reads
returns-in_err-read_item-clause-reads g c = λ stopped.
    let view = view_by g.D.Device.trace g.D.Device.faults stopped in
    let old = c.args.log.now in
    let entries : List Entry = c.args.base.now ∷ c.args.frags.now in
    let gives = err_from_is_err_and c.from_residual-in_err-read_item.result c.from_residual-in_err-read_item.ensures.1 in
    rw (gives.1, gives.2) (one_failed view g.C.Checksum.sum_of old c.args.page entries old [] c.read_item.new.log c.args.base.now c.args.frags.now c.in_err-read_item.field-0.0 (none_read view g.C.Checksum.sum_of old c.args.page entries (sym c.failure.ensures ∙ c.in_default.is)) (c.in_err-read_item.ensures.reads stopped))

-- src/session/reading.rt:49:5
pub loop-frag-init : goal.loop-frag-init
loop-frag-init g c =
    let old = c.args.log.now in
    let entries : List Entry = c.args.base.now ∷ c.args.frags.now in
    record {
      some = λ stopped. let view = view_by g.D.Device.trace g.D.Device.faults stopped in subst (λ (l : List (Vec ℕ Global)). HasReadSome view g.C.Checksum.sum_of old c.args.page entries c.read_item.new.log l c.args.frags.now) (sym {A = List (Vec ℕ Global)} (c.push_reserved.ensures.items ∙ ap (λ (l : List (Vec ℕ Global)). l ++ c.in_ok-read_item.field-0 ∷ []) c.in_ok-items.ensures.items))
          (one_more view g.C.Checksum.sum_of old c.args.page entries old [] c.read_item.new.log c.args.base.now c.args.frags.now c.in_ok-read_item.field-0 (none_read view g.C.Checksum.sum_of old c.args.page entries (sym c.failure.ensures ∙ c.in_default.is)) (c.in_ok-read_item.ensures.reads stopped));
      acts = λ stopped. let view = view_by g.D.Device.trace g.D.Device.faults stopped in
          subst (λ (l : List (Vec ℕ Global)). ReadsSomeOver view g.C.Checksum.sum_of old c.args.page c.read_item.new.log l) (sym {A = List (Vec ℕ Global)} (c.push_reserved.ensures.items ∙ ap (λ (l : List (Vec ℕ Global)). l ++ c.in_ok-read_item.field-0 ∷ []) c.in_ok-items.ensures.items))
          (some_more view g.C.Checksum.sum_of old c.args.page old [] (some_none view g.C.Checksum.sum_of old c.args.page (sym c.failure.ensures ∙ c.in_default.is)) c.read_item.new.log c.in_ok-read_item.field-0
          (ap (λ (x : Config). x.segment_size) c.read_item.ensures.on.kept.config) (c.in_ok-read_item.ensures.device stopped));
      len = search rules;
      room = search rules;
    }

-- the entries that are left, the next one first
left : (xs : List Entry) (i : ℕ) → i < length xs → drop i xs ≡ get_or xs i (pos 0, Inline 0, 0) ∷ drop (i + 1) xs
left xs i lt = let next : i + 1 ≡ suc i = omega arith in drop-cons xs i (pos 0, Inline 0, 0) lt ∙ ap (λ n. get_or xs i (pos 0, Inline 0, 0) ∷ drop n xs) (sym next)

-- src/session/reading.rt:50:29
-- what came of the next message, where that was not read
failed : (g : given.Over) (c : goal.After-drop-items-in_err-read_item-2 g) (stopped : g.row.D.Denot → Bool)
    → ReadsEntries (view_by g.D.Device.trace g.D.Device.faults stopped) g.C.Checksum.sum_of c.args.log.now c.args.page (c.args.base.now ∷ c.args.frags.now) c.read_item-in-loop-frag.new.log (Err c.in_err-read_item-2.field-0.0)
failed g c stopped =
    let view = view_by g.D.Device.trace g.D.Device.faults stopped in
    let old = c.args.log.now in
    let entries : List Entry = c.args.base.now ∷ c.args.frags.now in
    let now = c.loop-frag in
    let i : ℕ = now.frag-index in
    let e : Entry = get_or c.args.frags.now i (pos 0, Inline 0, 0) in
    let some = subst (λ (l : List Entry). HasReadSome view g.C.Checksum.sum_of old c.args.page entries now.log now.items.items l) (left c.args.frags.now i c.loop-frag-test.true) (now.invariant.some stopped) in
    one_failed view g.C.Checksum.sum_of old c.args.page entries now.log now.items.items c.read_item-in-loop-frag.new.log e (drop (i + 1) c.args.frags.now) c.in_err-read_item-2.field-0.0 some (c.in_err-read_item-2.ensures.reads stopped)

pub returns-in_err-read_item-2-clause-reads : goal.returns-in_err-read_item-2-clause-reads
returns-in_err-read_item-2-clause-reads g c = λ stopped. let gives = err_from_is_err_and c.from_residual-in_err-read_item-2.result c.from_residual-in_err-read_item-2.ensures.1 in rw (gives.1, gives.2) (failed g c stopped)

-- src/session/reading.rt:50:29
pub returns-in_err-read_item-2-clause-on : goal.returns-in_err-read_item-2-clause-on
returns-in_err-read_item-2-clause-on g c = let keeps = (failed g c (λ d. false)).only.preserves in record { later = keeps.goes_on.later; kept = keeps.goes_on.config }

-- src/session/reading.rt:50:9
pub push_reserved-requires-in-loop-frag : goal.push_reserved-requires-in-loop-frag
push_reserved-requires-in-loop-frag g c = let len = c.loop-frag.invariant.len in let room = c.loop-frag.invariant.room in let lt = c.loop-frag-test.true in omega (arith, len, room, lt)

-- src/session/reading.rt:49:5
pub loop-frag-preserved : goal.loop-frag-preserved
loop-frag-preserved g c =
    let old = c.args.log.now in
    let entries : List Entry = c.args.base.now ∷ c.args.frags.now in
    let now = c.loop-frag in
    let i : ℕ = now.frag-index in
    let e : Entry = get_or c.args.frags.now i (pos 0, Inline 0, 0) in
    let rest : List Entry = drop (i + 1) c.args.frags.now in
    let new = c.read_item-in-loop-frag.new.log in
    let some = λ (stopped : g.row.D.Denot → Bool). subst (λ (l : List Entry). HasReadSome (view_by g.D.Device.trace g.D.Device.faults stopped) g.C.Checksum.sum_of old c.args.page entries now.log now.items.items l) (left c.args.frags.now i c.loop-frag-test.true) (now.invariant.some stopped) in
    let len = now.invariant.len in
    let room = now.invariant.room in
    let pushed = c.push_reserved-in-loop-frag.ensures in
    record {
      some = λ stopped. let view = view_by g.D.Device.trace g.D.Device.faults stopped in subst (λ (l : List (Vec ℕ Global)). HasReadSome view g.C.Checksum.sum_of old c.args.page entries new l rest) (sym pushed.items)
          (one_more view g.C.Checksum.sum_of old c.args.page entries now.log now.items.items new e rest c.in_ok-read_item-2.field-0 (some stopped) (c.in_ok-read_item-2.ensures.reads stopped));
      acts = λ stopped. let view = view_by g.D.Device.trace g.D.Device.faults stopped in subst (λ (l : List (Vec ℕ Global)). ReadsSomeOver view g.C.Checksum.sum_of old c.args.page new l) (sym pushed.items)
          (some_more view g.C.Checksum.sum_of old c.args.page now.log now.items.items (now.invariant.acts stopped) new c.in_ok-read_item-2.field-0
          (ap (λ (x : Config). x.segment_size) c.read_item-in-loop-frag.ensures.on.kept.config) (c.in_ok-read_item-2.ensures.device stopped));
      len = (let more = pushed.len in omega (arith, len, more));
      room = (let same = pushed.capacity in omega (arith, room, same));
    }

-- src/session/reading.rt:37:1
pub returns-clause-reads : goal.returns-clause-reads
returns-clause-reads g c = λ stopped.
    let view = view_by g.D.Device.trace g.D.Device.faults stopped in
    let old = c.args.log.now in
    let now = c.loop-frag in
    let end = c.loop-frag-test.false in
    let none : drop now.frag-index c.args.frags.now ≡ [] = drop_all now.frag-index c.args.frags.now (omega (arith, end)) in
    all_read view g.C.Checksum.sum_of old c.args.page (c.args.base.now ∷ c.args.frags.now) now.log now.items.items now.items refl
    (subst (λ (l : List Entry). HasReadSome view g.C.Checksum.sum_of old c.args.page (c.args.base.now ∷ c.args.frags.now) now.log now.items.items l) none (now.invariant.some stopped))

-- src/session/reading.rt:37:1
pub returns-clause-on : goal.returns-clause-on
returns-clause-on g c =
    let keeps = (c.loop-frag.invariant.some (λ d. false)).only.preserves in
    record { later = keeps.goes_on.later; kept = keeps.goes_on.config }

-- What each does to the device.
pub returns-in-Some-clause-device : goal.returns-in-Some-clause-device
returns-in-Some-clause-device g c = λ stopped. (inr (inl refl), no_writes _ _ refl)

pub returns-in_err-items-clause-device : goal.returns-in_err-items-clause-device
returns-in_err-items-clause-device g c = λ stopped.
    let view = view_by g.D.Device.trace g.D.Device.faults stopped in
    let gives = err_from_is_err_and c.from_residual.result c.from_residual.ensures.1 in
    let came : ReadsEntriesOver view g.C.Checksum.sum_of c.args.log.now c.args.page c.args.log.now (Err error.OutOfMemory) = (refl, no_writes _ _ refl) in
    rw (gives.1, gives.2) came

pub returns-in_err-read_item-clause-device : goal.returns-in_err-read_item-clause-device
returns-in_err-read_item-clause-device g c = λ stopped.
    let view = view_by g.D.Device.trace g.D.Device.faults stopped in
    let old = c.args.log.now in
    let gives = err_from_is_err_and c.from_residual-in_err-read_item.result c.from_residual-in_err-read_item.ensures.1 in
    rw (gives.1, gives.2) (some_failed view g.C.Checksum.sum_of old c.args.page old [] (some_none view g.C.Checksum.sum_of old c.args.page (sym c.failure.ensures ∙ c.in_default.is)) c.read_item.new.log c.in_err-read_item.field-0.0
    (c.in_err-read_item.ensures.device stopped))

pub returns-in_err-read_item-2-clause-device : goal.returns-in_err-read_item-2-clause-device
returns-in_err-read_item-2-clause-device g c = λ stopped.
    let view = view_by g.D.Device.trace g.D.Device.faults stopped in
    let gives = err_from_is_err_and c.from_residual-in_err-read_item-2.result c.from_residual-in_err-read_item-2.ensures.1 in
    rw (gives.1, gives.2) (some_failed view g.C.Checksum.sum_of c.args.log.now c.args.page c.loop-frag.log c.loop-frag.items.items (c.loop-frag.invariant.acts stopped) c.read_item-in-loop-frag.new.log c.in_err-read_item-2.field-0.0
    (c.in_err-read_item-2.ensures.device stopped))

pub returns-clause-device : goal.returns-clause-device
returns-clause-device g c = λ stopped. c.loop-frag.invariant.acts stopped
