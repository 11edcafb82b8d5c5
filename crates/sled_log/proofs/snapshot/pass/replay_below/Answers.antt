use Rattle.std.proofs.Common.{◌≡◌, ℕ, List, Option, None, refl, inl}
use Rattle.sled_codec.specs.declared.result.Error.{Error}
use Rattle.sled_codec.specs.Snapshots.{model_of}
use Rattle.sled_core.specs.declared.iterator.Segment.{Segment}
use Rattle.sled_store.specs.Device.{State, state_of}
use Rattle.sled_log.specs.declared.snapshot.pass.Replay.{Replay}
use Rattle.sled_log.specs.Recovery.{IsDamagedPass, begun_below}
use Rattle.sled_log.specs.Passes.{IsBadPass}
use Rattle.sled_log.proofs.Passes.DamageNames.{damage_as}
use Rattle.sled_log.proofs.Passes.SoFar.{answers_of, damage_of, replay_bad}
use Rattle.sled_log.proofs.snapshot.pass.replay_below.Goals as goal

pub returns-in-Ok-Some-clause-corrupt : goal.returns-in-Ok-Some-clause-corrupt
returns-in-Ok-Some-clause-corrupt g c =
    let st : State = state_of (g.D.Device.trace c.args.config.now.device) in
    let all = c.in-Ok-Some.ensures.made (model_of c.args.first) (record { no_table = refl; pages = λ not. refl; stop = λ not. refl; count = refl; stable = refl; active = refl }) in
    let bad = IsBadPass g.C.Checksum.sum_of c.args.config.now.config.segment_size st.log.bytes st.blobs.file c.args.end (begun_below c.args.end c.args.segments.now) in
    damage_of g.C.Checksum.sum_of st.blobs.file Replay bad c.in-Ok-Some.e
    (replay_bad g.C.Checksum.sum_of st.blobs.file c.args.config.now.config.segment_size st.log.bytes c.args.end (model_of c.args.first) (begun_below c.args.end c.args.segments.now) c.in-Ok-Some.field-0 c.in-Ok-Some.e c.replay_each.new.replay c.in-Ok-Some.field-0-is all)

pub returns-in-Err-clause-corrupt : goal.returns-in-Err-clause-corrupt
returns-in-Err-clause-corrupt g c =
    let st : State = state_of (g.D.Device.trace c.args.config.now.device) in
    let begun : List Segment = begun_below c.args.end c.args.segments.now in
    let size : ℕ = c.args.config.now.config.segment_size in
    damage_as (Option Error) Replay c.in-Err.e (λ at. (at ≡ None) × IsDamagedPass g.C.Checksum.sum_of size st.log.bytes c.args.end begun) (IsBadPass g.C.Checksum.sum_of size st.log.bytes st.blobs.file c.args.end begun)
    (λ at damaged. inl damaged) c.in-Err.ensures.damaged

pub returns-in-Ok-Some-clause-answers : goal.returns-in-Ok-Some-clause-answers
returns-in-Ok-Some-clause-answers g c =
    let st : State = state_of (g.D.Device.trace c.args.config.now.device) in
    let all = c.in-Ok-Some.ensures.made (model_of c.args.first) (record { no_table = refl; pages = λ not. refl; stop = λ not. refl; count = refl; stable = refl; active = refl }) in
    let names = (replay_bad g.C.Checksum.sum_of st.blobs.file c.args.config.now.config.segment_size st.log.bytes c.args.end (model_of c.args.first) (begun_below c.args.end c.args.segments.now) c.in-Ok-Some.field-0 c.in-Ok-Some.e c.replay_each.new.replay c.in-Ok-Some.field-0-is all) in
    answers_of g.C.Checksum.sum_of st.blobs.file Replay (IsBadPass g.C.Checksum.sum_of c.args.config.now.config.segment_size st.log.bytes st.blobs.file c.args.end (begun_below c.args.end c.args.segments.now)) c.in-Ok-Some.e _ _ names c.in-Ok-Some.ensures.answers
