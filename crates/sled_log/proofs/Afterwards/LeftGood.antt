-- The snapshot that a recovery gives is good for what it leaves, over any number of segments: zeros were written behind the cut and over slots in which nothing lies below it, and blobs were removed at or above it.
use Rattle.std.proofs.Common.{◌≡◌, ◌∙◌, ◌≤◌, ◌<ℤ◌, ◌≤ℤ◌, ℕ, ℤ, List, ◌∷◌, Option, None, sym, ap, subst, arith, inl, inr}
use Rattle.std.specs.List.{Contains}
use Rattle.std.proofs.lemmas.Int.{by_lt_z}
use Rattle.sled_codec.specs.declared.result.DiskPtr.{DiskPtr}
use Rattle.sled_codec.specs.declared.result.DiskPtr.TheVariants.{Inline, Blob}
use Rattle.sled_codec.specs.History.{Message, History, CutFits, table}
use Rattle.sled_codec.specs.Snapshots.{stable_place}
use Rattle.sled_store.specs.Device.{Synced, NamesSynced, LogState, Content, State, Trace, state_of, content_of, at_rest}
use Rattle.sled_core.specs.declared.iterator.Segment.{Segment}
use Rattle.sled_core.specs.Good.{ReadsAt, IsGood}
use Rattle.sled_core.specs.inside.Recoverable.{ActiveFits, StandsInline, HasItem, AreRecoverableBlobs}
use Rattle.sled_core.specs.Recoverable.{NoHeaderOfZeros}
use Rattle.sled_core.specs.inside.Scan.{IsFoundSegment}
use Rattle.sled_log.proofs.Recovers.Readable.{CanRead}
use Rattle.sled_log.specs.Recovery.{RecoveryResult, Recovered, Recovers}
use Rattle.sled_log.specs.WritesBack.{after_shredding, after_zeroing, forgotten_from, IsWrittenBack}
use Rattle.sled_log.proofs.Afterwards.ForgottenSlots.{found_elsewhere}
use Rattle.sled_log.proofs.Moments.BlobsRemoved.{AreRemovedFrom, blobs_removed}
use Rattle.sled_log.proofs.Moments.RecoveryAlong.{cut_fits, shreds, forgotten_above}
use Rattle.sled_log.proofs.Moments.Shredded.{shredded, is_shredded, zeroed, stops_zeroed, zeroed_recoverable}
use Rattle.sled_log.proofs.Moments.UnreadSlots.{AreFree, StopsAtCut, free_left}
use Rattle.sled_core.proofs.Tail.Multiples.{put_down}
use Rattle.sled_log.proofs.Recovers.RecoversGood.{RecoversWell, well_of}

-- What a recovery gives, where it begins from these parts of a content.
module _ (sum : List ℕ → ℕ) (size : ℕ) (content : Content) (H : History) (A f : ℕ) (some : 256 ≤ size) (can : CanRead sum size content H A f) (x : RecoveryResult)
    (well : RecoversWell sum size content H A f some can.orderly can.first can.cut can.snapshots can.log can.blobs x) where
  pub fits : CutFits H can.cut.0
  fits = cut_fits sum size content H A f some can x well

  pub free : AreFree sum size content.log can.cut.0 x.unread
  free = free_left sum size content.log some content.blobs H A can.first can.cut can.log can.blobs x.unread well.unread

  -- its active slot goes with the cut
  pub active : ActiveFits size (stable_place x.model.stable) x.model.active
  active = subst (λ n. ActiveFits size n x.model.active) (sym well.place) (subst (ActiveFits size can.cut.0) (sym well.active) well.is_active.fits)

  module _ (none : NoHeaderOfZeros sum) where
    -- The log file that is left.
    abbrev pub left_log : LogState
    left_log = zeroed sum size content.log some H A can.first can.cut can.log fits can.snapshots.active none x.unread free

    pub log_is : (new : LogState) → new ≡ after_zeroing size x.unread (after_shredding x.shred_range (at_rest content.log)) → new ≡ left_log
    log_is new is =
        is
        ∙ ap (λ (r : Option (ℕ × ℕ)). after_zeroing size x.unread (after_shredding r (at_rest content.log))) (shreds sum size content H A f some can x well)
        ∙ ap (after_zeroing size x.unread) (is_shredded sum size content.log some H A can.first can.cut can.log fits can.snapshots.active).rests

    -- what is read of it ends at the cut
    pub stops_left : StopsAtCut sum size left_log.bytes some H A can.cut
    stops_left = stops_zeroed sum size content.log some H A can.first can.cut can.log fits can.snapshots.active none x.unread free

    -- and no segment lies at or above it
    pub nothing_above : (s : Segment) → IsFoundSegment sum size left_log.bytes 0 s → can.cut.0 ≤ s.place → ⊥
    nothing_above s found above =
        let filled = is_shredded sum size content.log some H A can.first can.cut can.log fits can.snapshots.active in
        let behind = found_elsewhere sum size some none H can.cut.0 x.unread (shredded sum size content.log some H A can.first can.cut can.log fits can.snapshots.active).bytes (λ slot there. filled.free slot (free slot there)) s found in
        let was = filled.found s behind.0 in
        let first = can.log.not_below in
        let there : Contains can.log.ordering s = (can.log.numbers.found s).1 (record { slot = was.slot; header = was.header; not_below = (let low = put_down size (stable_place can.first.stable) in omega (arith, low.0, first, above)) }) in
        behind.1 (well.above s there above)

    -- An entry whose record stands, or whose blob is there, reads its own bytes.
    reads_left : (left : Content) → left.log ≡ left_log.bytes → (m : Message) (pointer : DiskPtr) → StandsInline sum size left_log.bytes m pointer → HasItem sum left.blobs m pointer → ReadsAt sum size left m pointer
    reads_left left log m (Inline lid) stands item = subst (λ (l : List ℕ). StandsInline sum size l m (Inline lid)) (sym log) stands
    reads_left left log m (Blob lid place) stands item = item

    pub good_for : (left : Content) → left.log ≡ left_log.bytes → AreRecoverableBlobs sum left.blobs H can.cut.0 → IsGood sum size left H A f x.model
    good_for left log are =
        let is = zeroed_recoverable sum size content.log some H A can.first can.cut can.log fits can.snapshots.active none x.unread free x.model well.place active in
        record {
          fits = well.good.fits;
          passes = well.good.passes;
          not_below = well.good.not_below;
          reads = λ page m there.
              let entry = subst (λ n. Contains (table H n page) m) well.place there in
              reads_left left log m m.pointer (is.needed page m entry).1 (are.needed page m entry);
          table = well.good.table;
        }

  -- Blobs are removed at or above the cut alone.
  pub blobs_left : (new : ℤ → Option (List ℕ)) → ((n : ℤ) → forgotten_from x.model ≤ℤ n → new n ≡ None) → ((n : ℤ) → n <ℤ forgotten_from x.model → new n ≡ content.blobs n) → AreRecoverableBlobs sum new H can.cut.0
  blobs_left new gone same = blobs_removed sum content.blobs new can.cut.0 removed size H can.log.placed can.blobs where
    removed : AreRemovedFrom can.cut.0 content.blobs new
    removed n = by_lt_z n (forgotten_from x.model) (λ low. inl (same n low)) (λ high. inr (forgotten_above x.model.stable can.cut.0 well.place n high, gone n high))

-- So it is where a recovery wrote back what it concludes.
pub good_left : (sum : List ℕ → ℕ) (size : ℕ) (H : History) (A f : ℕ) → 256 ≤ size → (old : Trace) → CanRead sum size (content_of (state_of old)) H A f → NoHeaderOfZeros sum
    → (x : RecoveryResult) → Recovers sum size (content_of (state_of old)) (Recovered x) → (new : State) → IsWrittenBack sum size x (state_of (NamesSynced ∷ Synced ∷ old)) new → IsGood sum size (content_of new) H A f x.model
good_left sum size H A f some old can none x recovers new written =
    let content : Content = content_of (state_of old) in
    let well = well_of sum size content H A f some can x recovers in
    good_for sum size content H A f some can x well none (content_of new)
    (ap (λ (l : LogState). l.bytes) (log_is sum size content H A f some can x well none new.log written.log))
    (blobs_left sum size content H A f some can x well new.blobs.file written.gone written.blobs)
