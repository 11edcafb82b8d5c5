-- A log file can be recovered under its snapshots up to one cut, whatever blobs there are. So of a device on which each content that a crash leaves can be read back, all blobs that a crash leaves behind the syncs go with the cut of what is read.
use Rattle.std.proofs.Common.{◌≡◌, ◌∙◌, if◌then◌else◌, ℕ, ℤ, Bool, true, false, List, [], ◌∷◌, length, Option, Some, None, refl, sym, ap, subst, arith, inl, inr, length-append}
use Rattle.std.specs.List.{Contains}
use Rattle.sled_codec.specs.declared.serialization.message.MessageKind.{MessageKind}
use Rattle.sled_codec.specs.Kinds.{code_of}
use Rattle.sled_codec.specs.History.{History}
use Rattle.sled_codec.specs.Snapshots.{SnapshotModel}
use Rattle.sled_codec.specs.Spelling.{low_bytes}
use Rattle.sled_store.specs.Blobs.{IsBlob}
use Rattle.sled_store.specs.Device.{NamesState, Content, Trace, state_of, content_of, names_synced, settled_file, LeavesName}
use Rattle.sled_store.specs.Foreign.{NoForeignNames}
use Rattle.sled_store.proofs.Crashes.SettledLemmas.{read_left}
use Rattle.sled_store.proofs.Segments.Elements.{in_nothing}
use Rattle.sled_core.specs.declared.iterator.Segment.{Segment}
use Rattle.sled_core.specs.OwnNames.{StayOwn}
use Rattle.sled_core.specs.Recoverable.{ReadsOnlyOwn}
use Rattle.sled_core.specs.inside.Recoverable.{AreRecoverableBlobs, IsRecoverableLog, cut_from}
use Rattle.sled_log.proofs.Recovers.Readable.{CanRead, LeavesReadable}
use Rattle.sled_log.specs.Recovery.{Scanned, AreScanned, IsTail, tail_begins, tail_end, least_place}
use Rattle.sled_log.proofs.Moments.LogAlong.{BlobsStand}
use Rattle.sled_core.proofs.Blobs.FirmContent.{content_own}
use Rattle.sled_core.proofs.Tail.OneReading.{one_scan}
use Rattle.sled_core.proofs.Tail.OneTail.{rises_of, one_ordering, one_tail}
use Rattle.sled_log.proofs.SnapshotFile.BeginLemmas.{one_begin}

-- What is met in segments is one.
same_scans : (sum : List ℕ → ℕ) (size : ℕ) (log : List ℕ) (ss : List Segment) (xs ys : List Scanned) → AreScanned sum size log ss xs → AreScanned sum size log ss ys → xs ≡ ys
same_scans sum size log [] [] [] a b = refl
same_scans sum size log [] [] (y ∷ ys) a b = absurd b
same_scans sum size log [] (x ∷ xs) ys a b = absurd a
same_scans sum size log (s ∷ ss) [] ys a b = absurd a
same_scans sum size log (s ∷ ss) (x ∷ xs) [] a b = absurd b
same_scans sum size log (s ∷ ss) (x ∷ xs) (y ∷ ys) a b =
    let same : x ≡ y = one_scan sum size log x y (a.0 ∙ sym b.0) a.1 b.1 in
    let rest : xs ≡ ys = same_scans sum size log ss xs ys a.2 b.2 in
    λ i. same i ∷ rest i

-- Under one snapshot the cut is one.
one_cut : (sum : List ℕ → ℕ) (size : ℕ) (log : List ℕ) (H : History) (A : ℕ) (first : SnapshotModel) (cut other : ℕ × Option ℕ) → IsRecoverableLog sum size log H A first cut → IsRecoverableLog sum size log H A first other → cut ≡ other
one_cut sum size log H A first cut other a b =
    let least : ℕ = least_place size first in
    let ordering : a.ordering ≡ b.ordering = one_ordering sum size log least a.ordering b.ordering a.numbers b.numbers in
    let scanned : a.scanned ≡ b.scanned = same_scans sum size log b.ordering a.scanned b.scanned (subst (λ (ss : List Segment). AreScanned sum size log ss a.scanned) ordering a.reads) b.reads in
    let tail : a.tail ≡ b.tail = one_tail sum size log b.ordering (rises_of b.ordering b.numbers.ascending) (tail_begins size least b.ordering) a.tail b.tail
    (subst (λ (ss : List Segment). IsTail sum size log ss (tail_begins size least ss) a.tail) ordering a.is_tail) b.is_tail in
    a.is_cut ∙ (λ i. cut_from size first (scanned i) (tail_end (tail i))) ∙ sym b.is_cut

-- The snapshots give that one.
pub same_cut : (sum : List ℕ → ℕ) (size : ℕ) (log : List ℕ) (blobs others snapshots : ℤ → Option (List ℕ)) (H : History) (A f : ℕ)
    (can : CanRead sum size (record { log = log; blobs = blobs; snapshots = snapshots }) H A f) (also : CanRead sum size (record { log = log; blobs = others; snapshots = snapshots }) H A f) → can.cut ≡ also.cut
same_cut sum size log blobs others snapshots H A f can also =
    let first : can.first ≡ also.first = one_begin sum snapshots can.first also.first can.snapshots.begins also.snapshots.begins in
    one_cut sum size log H A also.first can.cut also.cut (subst (λ (s : SnapshotModel). IsRecoverableLog sum size log H A s can.cut) first can.log) also.log

-- Blobs behind a sync of names.
module _ (sum : List ℕ → ℕ) (blobs : NamesState) where
  abbrev Passes : List ℕ → Type 0
  Passes bytes = (k : MessageKind) × (item : List ℕ) × IsBlob sum bytes k item

  -- no bytes are no blob
  not_empty : Passes [] → ⊥
  not_empty (k, item, is) = omega (arith, ap length is, length-append (low_bytes 4 (sum (code_of k ∷ item))) (code_of k ∷ item))

  -- what a crash leaves then it left before
  left_before : (n : ℤ) (left : Option (List ℕ)) → LeavesName (names_synced blobs) n left → LeavesName blobs n left
  left_before n left (inl now) = inl now
  left_before n left (inr (inl earlier)) = absurd earlier
  left_before n left (inr (inr half)) = absurd half

  -- and what is its own then was so before, where that is so of what is read
  own_before : StayOwn Passes blobs → (left : ℤ → Option (List ℕ)) → NoForeignNames Passes (names_synced blobs) left → NoForeignNames Passes blobs left
  own_before own left own_left = record {
    own = λ n bytes there is. elim (own_left.own n bytes there is) [
      | inl settled ↦ (let read = by_file n bytes is (blobs.file n) (blobs.is_unsynced n) refl refl settled in own.own n bytes is read.0 read.1)
      | inr asked ↦ inr (by_asked (blobs.is_unsynced n) (blobs.asked n) bytes asked)
    ];
  } where
    by_file : (n : ℤ) (bytes : List ℕ) → Passes bytes → (file : Option (List ℕ)) (unsynced : Bool) → blobs.file n ≡ file → blobs.is_unsynced n ≡ unsynced → settled_file file unsynced [] ≡ Some bytes
        → (blobs.file n ≡ Some bytes) × (blobs.is_unsynced n ≡ false)
    by_file n bytes is None unsynced at firm settled = cc
    by_file n bytes is (Some file) false at firm settled = (at ∙ settled, firm)
    by_file n bytes is (Some file) true at firm settled = let empty : [] ≡ bytes = cc in absurd (not_empty (subst Passes (sym empty) is))

    by_asked : (unsynced : Bool) (asked : List (List ℕ)) (bytes : List ℕ) → Contains (if unsynced then asked else []) bytes → Contains asked bytes
    by_asked true asked bytes there = there
    by_asked false asked bytes there = absurd (in_nothing bytes there)

-- The blobs that a crash leaves behind the syncs are those that the cut asks for.
pub stand_synced : (sum : List ℕ → ℕ) (size : ℕ) (H : History) (A f : ℕ) (old : Trace) → LeavesReadable sum size H A f (state_of old) → ReadsOnlyOwn sum size (state_of old)
    → (can : CanRead sum size (content_of (state_of old)) H A f) → BlobsStand sum H can.cut.0 (names_synced (state_of old).blobs)
stand_synced sum size H A f old kept own can left leaves own_left =
    let now = read_left old in
    let content : Content = record { log = (state_of old).log.bytes; blobs = left; snapshots = (state_of old).snapshots.file } in
    let also : CanRead sum size content H A f = kept content
    (record { log = now.log; blobs = λ n. left_before sum (state_of old).blobs n (left n) (leaves n); snapshots = now.snapshots })
    (record { log = own.log; blobs = own_before sum (state_of old).blobs own.names.of_blobs left own_left; snapshots = (content_own sum size old own).snapshots; zeros = own.zeros }) in
    subst (λ (c : ℕ × Option ℕ). AreRecoverableBlobs sum left H c.0) (sym (same_cut sum size (state_of old).log.bytes (state_of old).blobs.file left (state_of old).snapshots.file H A f can also)) also.blobs
