-- The log file is the log's own copy behind its sync, and nothing that follows is asked of it.
use Rattle.std.proofs.Common.{◌<◌, ℕ, List, length, arith, subst}
use Rattle.sled_store.specs.Device.{state_of}
use Rattle.sled_file.specs.Copies.{HasSlots}
use Rattle.sled_file.proofs.CopyLemmas.{all_copied, stays_own, own_behind_names}
use Rattle.sled_file.proofs.copy.fill.Goals as goal

pub returns : goal.returns
returns g c =
    let size : ℕ = c.args.config.segment_size in
    let bytes : List ℕ = c.args.content.now.bytes.items in
    let least = c.args.config.least in
    let big : 255 < size = omega (arith, least) in
    let slots = subst (λ (l : List ℕ). HasSlots size l (length l) (state_of (g.D.Device.trace c.write_slots.new.device))) c.deref.ensures.value c.in_ok-write_slots.ensures in
    let copied = all_copied size bytes big (g.D.Device.trace c.write_slots.new.device) (g.D.Device.trace c.sync.new.self) slots c.in_ok-sync.ensures.trace in
    let blobs = stays_own size bytes (state_of (g.D.Device.trace c.sync.new.self)) (state_of (g.D.Device.trace c.make_blobs.new.device)) c.in_ok-make_blobs.ensures copied in
    let snapshots = stays_own size bytes (state_of (g.D.Device.trace c.make_blobs.new.device)) (state_of (g.D.Device.trace c.publish_snapshots.new.device)) c.in_ok-publish_snapshots.ensures blobs in
    own_behind_names size bytes c.sync_names.result (g.D.Device.trace c.publish_snapshots.new.device) (g.D.Device.trace c.sync_names.new.self) c.sync_names.ensures.trace snapshots
