use Rattle.std.proofs.Common.{◌≡◌, ℤ, List, subst}
use Rattle.std.specs.Prelude.{OnOk}
use Rattle.std.specs.Int.{w64}
use Rattle.std.proofs.lemmas.Int.{to_z-of_z}
use Rattle.sled_store.specs.Blobs.{removing_blobs, AreFrom, MayGo}
use Rattle.sled_store.specs.Device.{Trace, state_of}
use Rattle.sled_store.specs.Script.{Performs, after_all}
use Rattle.sled_log.proofs.PageTable.TableLemmas.{on_ok}
use Rattle.sled_log.proofs.WriteBack.ForgetLemmas.{zeroing_stops, has_forgotten, forgets}
use Rattle.sled_log.proofs.snapshot.write_back.forget.Goals as goal

pub returns-in_err-zero_unread-clause-calls : goal.returns-in_err-zero_unread-clause-calls
returns-in_err-zero_unread-clause-calls g c =
    zeroing_stops c.args.config.now.config.segment_size c.args.unread.now c.args.least (g.D.Device.trace c.args.config.now.device) (g.D.Device.trace c.zero_unread.new.config.device) c.zero_unread.ensures.calls

pub returns-clause-done : goal.returns-clause-done
returns-clause-done g c =
    let old : Trace = g.D.Device.trace c.args.config.now.device in
    let mid : Trace = g.D.Device.trace c.zero_unread.new.config.device in
    let new : Trace = g.D.Device.trace c.gc_blobs.new.config.device in
    on_ok c.gc_blobs.result _ _
    (has_forgotten c.args.config.now.config.segment_size c.args.unread.now c.args.least old mid new c.in_ok-zero_unread.ensures.done)
    (subst (λ (k : ℤ). OnOk c.gc_blobs.result ((places : List ℤ) × AreFrom (state_of mid).blobs.file k places × (new ≡ after_all (removing_blobs places) mid))) (to_z-of_z w64 c.args.least c.ranges.least) c.gc_blobs.ensures.done)

pub returns-clause-calls : goal.returns-clause-calls
returns-clause-calls g c =
    let old : Trace = g.D.Device.trace c.args.config.now.device in
    let mid : Trace = g.D.Device.trace c.zero_unread.new.config.device in
    let new : Trace = g.D.Device.trace c.gc_blobs.new.config.device in
    forgets c.args.config.now.config.segment_size c.args.unread.now c.args.least old mid new c.in_ok-zero_unread.ensures.done
    (subst (λ (k : ℤ). (places : List ℤ) × MayGo (state_of mid).blobs.file k places × Performs (removing_blobs places) mid new) (to_z-of_z w64 c.args.least c.ranges.least) c.gc_blobs.ensures.calls)
