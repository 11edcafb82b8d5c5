-- Behind a recovery that wrote all back, what is read of the log file was placed by the log: it writes zeros over the rest of the segment of the cut, from where a reader comes to, and over slots that it didn't read, and syncs each time.
use Rattle.std.proofs.Common.{⊎_elim, ◌≡◌, ◌∙◌, ◌≤◌, ◌<◌, ◌+◌, ◌-◌, ◌*◌, ◌/◌, ◌%◌, if◌then◌else◌, ℕ, ℤ, pos, Bool, true, false, List, [], ◌∷◌, ◌++◌, length, drop, replicate, Option, Some, None, refl, sym, ap, subst, arith, length-take, length-drop}
use Rattle.std.specs.List.{Contains}
use Rattle.std.proofs.Math.Nat.{mod-add-div'}
use Rattle.std.proofs.lemmas.List.{append_assoc}
use Rattle.sled_codec.specs.History.{History, CutFits}
use Rattle.sled_codec.specs.Places.{part}
use Rattle.sled_codec.specs.Record.{IsHeader}
use Rattle.sled_codec.specs.Snapshots.{SnapshotModel, stable_place}
use Rattle.sled_codec.proofs.Segments.{length-short_header}
use Rattle.sled_store.specs.Blobs.{removing_blobs}
use Rattle.sled_store.specs.Device.{BlobRemoved, Event, NamesSynced, SnapshotFilled, SnapshotPublished, SnapshotRemoved, State, Synced, Trace, Wrote, content_of, state_of, step}
use Rattle.sled_store.specs.Readers.{ReadsTo}
use Rattle.sled_store.proofs.Segments.Elements.{in_first, in_rest}
use Rattle.sled_store.proofs.Traces.ScriptLemmas.{EndsIn, ends_in}
use Rattle.sled_core.specs.inside.OwnLog.{ReadsPlaced}
use Rattle.sled_core.specs.inside.Recoverable.{ActiveFits, IsRecoverableLog}
use Rattle.sled_core.specs.Recoverable.{NoHeaderOfZeros, ReadsOnlyOwn}
use Rattle.sled_core.specs.Scan.{IsPath, IsScan}
use Rattle.sled_core.specs.declared.iterator.scan.ScannedRecord.{ScannedRecord}
use Rattle.sled_core.proofs.Tail.LogFileLemmas.{file_grows}
use Rattle.sled_core.proofs.OwnLog.NoneForeign.{was_placed}
use Rattle.sled_core.proofs.OwnLog.Paths.{path_reads}
use Rattle.sled_core.proofs.OwnLog.Recovering.{rest_filled}
use Rattle.sled_core.proofs.OwnLog.ScanEnds.{reads_inside}
use Rattle.sled_core.proofs.OwnLog.Starting.{file_synced, slot_overwritten}
use Rattle.sled_log.specs.Recovery.{RecoveryResult, Scanned, shred_range_of}
use Rattle.sled_log.specs.WritesBack.{HasWrittenBack, forgetting, publishing, removing_snapshots, short_file, shredding, snapshot_number_of, writing_back, zeroing}
use Rattle.sled_log.proofs.Afterwards.LeftGood.{fits, free}
use Rattle.sled_log.proofs.Moments.CutSegment.{cut_segment}
use Rattle.sled_log.proofs.Moments.RecoveryAlong.{shreds}
use Rattle.sled_log.proofs.Moments.ZeroedCut.{parts, slot_at, z_found, z_scan}
use Rattle.sled_log.proofs.Moments.ZeroedWhole.{path_until}
use Rattle.sled_log.proofs.Recovers.Readable.{CanRead}
use Rattle.sled_log.proofs.Recovers.RecoversGood.{RecoversWell}

-- A reader of a segment at an offset of the file, whose header stands there, comes to an offset in it.
record ComesTo (sum : List ℕ → ℕ) (size : ℕ) (log : List ℕ) (slot to : ℕ) : Type 0 where
  aligned : slot % size ≡ 0
  place : ℕ
  mark : ℤ
  header : IsHeader sum (part log slot 20) (pos place) mark
  low : 20 ≤ to
  comes : ReadsTo sum size (place / size) (part log slot size) 20 to

-- So it comes to the cut, in the segment of that.
cut_reached : (sum : List ℕ → ℕ) (size : ℕ) (log : List ℕ) (some : 256 ≤ size) (H : History) (A : ℕ) (first : SnapshotModel) (cut : ℕ × Option ℕ) (is : IsRecoverableLog sum size log H A first cut) → CutFits H cut.0
    → ActiveFits size (stable_place first.stable) first.active → (slot : ℕ) → cut.1 ≡ Some slot → ComesTo sum size log slot (cut.0 % size)
unfolding IsScan
cut_reached sum size log some H A first cut is of_cut active slot has_slot =
    let found = cut_segment sum size log some H A first cut is active slot has_slot in
    let end : ℕ = found.0 in
    let z : Scanned = found.1 in
    let its = found.3 in
    let where_is = parts sum size log some H A first cut is of_cut slot has_slot end z found.2 its in
    let aligned = slot_at sum size log some H A first cut is of_cut slot has_slot end z found.2 its in
    let scan = z_scan sum size log some H A first cut is of_cut slot has_slot end z found.2 its in
    let segment = z_found sum size log some H A first cut is of_cut slot has_slot end z found.2 its in
    let path : (ms : List ScannedRecord) × IsPath sum size log z.segment.slot z.segment.place 20 ms (cut.0 % size) = ⊎_elim
    (λ opened. (
    let to = path_until sum size log z.segment.slot z.segment.place 20 z.met z.stop scan.0 opened.0 opened.1 in
    let here : to.1 ≡ cut.0 % size = (let at = to.3 in let place = opened.2 in let cut_is = where_is.0 in omega (arith, at, place, cut_is)) in
    (to.0, subst (λ n. IsPath sum size log z.segment.slot z.segment.place 20 to.0 n) here to.2)))
    (λ all. (
    let here : z.stop ≡ cut.0 % size = (let cut_is = where_is.0 in omega (arith, all, cut_is)) in
    (z.met, subst (λ n. IsPath sum size log z.segment.slot z.segment.place 20 z.met n) here scan.0)))
    its.stops in
    record {
      aligned = aligned;
      place = z.segment.place;
      mark = z.segment.mark;
      header = subst (λ n. IsHeader sum (part log n 20) (pos z.segment.place) z.segment.mark) its.slot_is segment.header;
      low = where_is.1;
      comes = path_reads sum size log slot z.segment.place 20 path.0 (cut.0 % size) aligned (subst (λ n. IsPath sum size log n z.segment.place 20 path.0 (cut.0 % size)) its.slot_is path.1);
    }

module _ (sum : List ℕ → ℕ) (size : ℕ) (none : NoHeaderOfZeros sum) (big : 32 ≤ size) (n : ℕ) where
  -- What is read of the log file was placed, and it is at least so long.
  record IsPlacedTo (s : State) : Type 0 where
    own : ReadsPlaced sum size s
    long : n ≤ length s.log.bytes

  abbrev Ends : List Event → State → Type 0
  Ends = EndsIn IsPlacedTo

  -- Blobs are removed.
  blobs_gone : (places : List ℤ) (s : State) → IsPlacedTo s → Ends (removing_blobs places) s
  blobs_gone [] s placed = placed
  blobs_gone (p ∷ ps) s placed = blobs_gone ps (step (BlobRemoved p true) s) (record { own = placed.own; long = placed.long })

  -- Slots that begin so far in the file are overwritten before that.
  abbrev AreWithin : List ℕ → Type 0
  AreWithin slots = (slot : ℕ) → Contains slots slot → (slot % size ≡ 0) × (slot ≤ n)

  forgotten : (slots : List ℕ) → AreWithin slots → (places : List ℤ) (s : State) → IsPlacedTo s → Ends (zeroing size slots ++ removing_blobs places) s
  forgotten [] within places s placed = blobs_gone places s placed
  forgotten (slot ∷ slots) within places s placed =
      let zeros : List ℕ = replicate size 0 in
      let here = within slot (in_first slot slots) in
      let begins : slot / size * size ≡ slot = omega (arith, mod-add-div' slot size, here.0) in
      let long = placed.long in
      let more = file_grows sum size s.log.bytes slot zeros in
      let wrote : ReadsPlaced sum size (step (Wrote slot zeros zeros) s) = subst (λ k. ReadsPlaced sum size (step (Wrote k zeros zeros) s)) begins (slot_overwritten sum size none big s (slot / size) (omega (arith, begins, here.1, long)) placed.own) in
      forgotten slots (λ k among. within k (in_rest slot k slots among)) places (step Synced (step (Wrote slot zeros zeros) s))
      (record { own = file_synced sum size none big (step (Wrote slot zeros zeros) s) wrote; long = omega (arith, long, more) })

  module _ (es : List Event) (rest : (t : State) → IsPlacedTo t → Ends es t) where
    -- Snapshots are removed before other calls.
    snapshots_gone : (ns : List ℤ) (s : State) → IsPlacedTo s → Ends (removing_snapshots ns ++ es) s
    snapshots_gone [] s placed = rest s placed
    snapshots_gone (k ∷ ns) s placed = snapshots_gone ns (step (SnapshotRemoved k true) s) (record { own = placed.own; long = placed.long })

    -- One is published before that, if any.
    published : (b : Bool) (model : SnapshotModel) (ns : List ℤ) (s : State) → IsPlacedTo s → Ends ((if b then publishing sum model ns else []) ++ es) s
    published false model ns s placed = rest s placed
    published true model ns s placed =
        let file : List ℕ = short_file sum model in
        snapshots_gone ns (step NamesSynced (step (SnapshotPublished (snapshot_number_of model) true) (step (SnapshotFilled file file) s))) (record { own = placed.own; long = placed.long })

    -- The rest of the active segment is filled before other calls, where a reader comes to that.
    filled : (r : Option (ℕ × ℕ)) (cut : ℕ × Option ℕ) → r ≡ shred_range_of size cut.0 cut.1 → (s : State) → ((slot : ℕ) → cut.1 ≡ Some slot → ComesTo sum size s.log.bytes slot (cut.0 % size)) → IsPlacedTo s → Ends (shredding r ++ es) s
    filled r cut is s comes placed = subst (λ (o : Option (ℕ × ℕ)). Ends (shredding o ++ es) s) (sym is) (by cut.1 refl) where
      by : (o : Option ℕ) → cut.1 ≡ o → Ends (shredding (shred_range_of size cut.0 o) ++ es) s
      by None no_slot = rest s placed
      by (Some slot) has_slot =
          let to : ℕ = cut.0 % size in
          let log : List ℕ = s.log.bytes in
          let zeros : List ℕ = replicate (size - to) 0 in
          let its = comes slot has_slot in
          let aligned = its.aligned in
          let begins : slot ≡ slot / size * size = omega (arith, mod-add-div' slot size, aligned) in
          let inside : to < size = omega (arith, big) in
          let twenty : length (part log slot 20) ≡ 20 = ap length its.header.is ∙ length-short_header sum (pos its.place) its.mark in
          let begun : 20 ≤ length (part log slot size) = omega (arith, twenty, big, length-take 20 (drop slot log), length-take size (drop slot log)) in
          let there : slot ≤ length log = omega (arith, twenty, length-take 20 (drop slot log), length-drop slot log) in
          let short : to ≤ length (part log slot size) = reads_inside sum size (its.place / size) 20 to (part log slot size) its.comes begun in
          let all = rest_filled sum size none big s (slot / size) to (size - to) (omega (arith, inside)) (omega (arith, inside)) (omega (arith, begins, there)) its.place its.mark
          (subst (λ k. IsHeader sum (part log k 20) (pos its.place) its.mark) begins its.header) its.low (subst (λ k. to ≤ length (part log k size)) begins short)
          (subst (λ k. ReadsTo sum size (its.place / size) (part log k size) 20 to) begins its.comes) placed.own in
          let long = placed.long in
          let more = file_grows sum size log (slot + to) zeros in
          rest (step Synced (step (Wrote (slot + to) zeros zeros) s)) (record {
            own = subst (λ k. ReadsPlaced sum size (step Synced (step (Wrote (k + to) zeros zeros) s))) (sym begins) all;
            long = omega (arith, long, more);
          })

  -- All of that.
  written : (x : RecoveryResult) (cut : ℕ × Option ℕ) → x.shred_range ≡ shred_range_of size cut.0 cut.1 → AreWithin x.unread → (ns places : List ℤ) (s : State) → ((slot : ℕ) → cut.1 ≡ Some slot → ComesTo sum size s.log.bytes slot (cut.0 % size)) → IsPlacedTo s
      → Ends (writing_back sum size x ns places) s
  written x cut is within ns places s comes placed =
      let publish : List Event = if x.is_new then publishing sum x.model ns else [] in
      let forget : List Event = forgetting size x.unread places in
      subst (λ (es : List Event). Ends es s) (sym (append_assoc (shredding x.shred_range) publish forget))
      (filled (publish ++ forget) (published forget (forgotten x.unread within places) x.is_new x.model ns) x.shred_range cut is s comes placed)

-- So it is behind a recovery of what can be read back.
pub log_end : (sum : List ℕ → ℕ) (size : ℕ) (H : History) (A f : ℕ) (some : 256 ≤ size) (old : Trace) → ReadsOnlyOwn sum size (state_of old) → (can : CanRead sum size (content_of (state_of old)) H A f) (x : RecoveryResult)
    → RecoversWell sum size (content_of (state_of old)) H A f some can.orderly can.first can.cut can.snapshots can.log can.blobs x → (new : Trace) → HasWrittenBack sum size x (NamesSynced ∷ Synced ∷ old) new → ReadsPlaced sum size (state_of new)
log_end sum size H A f some old own can x well new (ns, are, places, from, came) =
    let s : State = state_of old in
    let big : 32 ≤ size = omega (arith, some) in
    let are_free = free sum size (content_of s) H A f some can x well in
    let synced : ReadsPlaced sum size (step Synced s) = file_synced sum size own.zeros big s (was_placed sum size s.placed s.log.bytes s.log own.log) in
    (subst (λ (h : Trace). IsPlacedTo sum size own.zeros big (length s.log.bytes) (state_of h)) (sym came)
    (ends_in (IsPlacedTo sum size own.zeros big (length s.log.bytes)) (writing_back sum size x ns places) (NamesSynced ∷ Synced ∷ old)
    (written sum size own.zeros big (length s.log.bytes) x can.cut (shreds sum size (content_of s) H A f some can x well) (λ slot there. let is_free = are_free slot there in (is_free.aligned, is_free.reach)) ns places (state_of (NamesSynced ∷ Synced ∷ old))
    (cut_reached sum size s.log.bytes some H A can.first can.cut can.log (fits sum size (content_of s) H A f some can x well) can.snapshots.active)
    (record { own = synced; long = omega arith })))).own
