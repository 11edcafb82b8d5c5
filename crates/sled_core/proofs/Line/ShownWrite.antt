-- A buffer is written and synced: what is shown is written over with the same bytes, and what is held and fitted over the one is so over the other.
use Rattle.std.specs.declared.io.Error.{Error as IoError}
use Rattle.std.proofs.Common.{◌≡◌, ◌∙◌, ◌+◌, ◌≤◌, ℕ, suc, true, List, ◌∷◌, length, set, take, drop, Option, Some, None, refl, sym, ap, subst, arith}
use Rattle.std.specs.List.{slice_get}
use Rattle.sled_codec.specs.History.{History, Message}
use Rattle.sled_store.specs.Device.{LeavesLog, LogState, State, at_rest, overwritten}
use Rattle.sled_store.specs.Foreign.{NoForeignLog}
use Rattle.sled_store.specs.SegmentStates.{Machine}
use Rattle.sled_store.proofs.LogFile.LogLemmas.{at_rest_left}
use Rattle.sled_core.specs.Begun.{SegmentView}
use Rattle.sled_core.specs.OpenBatches.{stable_below}
use Rattle.sled_core.specs.declared.iobuf.Sealed.{Sealed}
use Rattle.sled_core.specs.declared.logger.joined_marks.JoinedMarks.{JoinedMarks}
use Rattle.sled_core.specs.inside.Cleared.{cleared}
use Rattle.sled_core.specs.inside.Fits.{HoldsLine}
use Rattle.sled_core.specs.inside.FreeSlots.{HasSlot, HasSlots}
use Rattle.sled_core.specs.inside.Lasting.{LeavesRecovering}
use Rattle.sled_core.specs.inside.Running.{FitsLine}
use Rattle.sled_core.specs.inside.SealedBuffers.{is_ready}
use Rattle.sled_core.specs.inside.Shown.{shown, shown_log}
use Rattle.sled_core.specs.inside.Turned.{promoted, written_now}
use Rattle.sled_core.proofs.Blobs.Over.{fits_line_over, line_over, with_rest}
use Rattle.sled_core.proofs.Blobs.StaysOwn.{own_same}
use Rattle.sled_core.proofs.Cleared.Calls.{cleared_write}
use Rattle.sled_core.proofs.Cleared.Shown.{with_log}
use Rattle.sled_core.proofs.Line.Faulty.{line_leaves}
use Rattle.sled_core.proofs.Line.Segments.{AreSegments, nth_segment}
use Rattle.sled_core.proofs.Line.Shown.{line_rises, others_beside}
use Rattle.sled_core.proofs.Line.Writes.{buffer_begin, buffer_bytes, buffer_synced, rises}
use Rattle.sled_core.proofs.OwnLog.NoneForeign.{WasPlaced, none_foreign, resettled, was_placed}
use Rattle.sled_core.proofs.OwnLog.Placed.{asked_now}
use Rattle.sled_core.proofs.Reserve.Ranges.{at_there, there_split}
use Rattle.sled_core.proofs.Sealed.LaidLemmas.{EndsRise}
use Rattle.sled_core.proofs.Sealed.OneWritten.{length-between, rises_at}

module _ (sum : List ℕ → ℕ) (size : ℕ) (big : 256 ≤ size) (device : State) (fault : Option IoError) (whole : fault ≡ None) (v : SegmentView) (k : ℕ)
    (b : Sealed) (there : slice_get v.parts.sealed k ≡ Some b) (ready : is_ready b ≡ true) (place : ℕ) (line : List SegmentView)
    (are : AreSegments size place line) (n : ℕ) (among : slice_get line n ≡ Some v) (m : Machine) (log : List ℕ)
    (slots : HasSlots size line log fault m) where
  -- what is shown before, the segments that are left, and the device behind the calls
  abbrev pub sees : State
  sees = shown size fault m line device

  abbrev pub left : List SegmentView
  left = promoted size (set line n (written_now k v))

  abbrev pub after : State
  after = buffer_synced sum size big device fault whole v k b there ready

  abbrev pub sees_after : State
  sees_after = buffer_synced sum size big sees fault whole v k b there ready

  abbrev at : ℕ
  at = v.parts.site.slot + buffer_begin sum size big device fault whole v k b there ready

  abbrev bytes : List ℕ
  bytes = buffer_bytes sum size big device fault whole v k b there ready

  -- The bytes are those of the buffer.
  bytes_long : buffer_begin sum size big device fault whole v k b there ready + length bytes ≡ b.end
  bytes_long =
      let is = nth_segment size place line are n v among in
      let row = rises_at v.parts.written_len (take k v.parts.sealed) b (drop (suc k) v.parts.sealed) (length v.parts.bytes)
      (subst (λ (cs : List Sealed). EndsRise v.parts.written_len cs (length v.parts.bytes)) (there_split v.parts.sealed k b there)
      (rises sum size big device fault whole v k b there ready v.parts.site.place is)) in
      let long = length-between v.parts.bytes (buffer_begin sum size big device fault whole v k b there ready) b.end row.2 in
      omega (arith, long, row.1)

  -- The cleared file is written over as the file is,
  pub cleared_behind : (file : List ℕ) → cleared size m left (overwritten file at bytes) ≡ overwritten (cleared size m line file) at bytes
  cleared_behind file =
      cleared_write size m line file n v among k b there (at_there (HasSlot size m) line n v among slots.taken) (line_rises size place line are)
      (others_beside size (omega (arith, big)) m place line are (λ j u at_j. at_there (HasSlot size m) line j u at_j slots.taken) n v among)
      bytes bytes_long

  -- and it is the file itself where it was,
  pub written_clean : cleared size m line device.log.bytes ≡ device.log.bytes → cleared size m left after.log.bytes ≡ after.log.bytes
  written_clean same = cleared_behind device.log.bytes ∙ ap (λ (l : List ℕ). overwritten l at bytes) same

  -- so what is shown is written over,
  pub shown_written : (now : Option IoError) → now ≡ None → (shown size now m left after).log ≡ sees_after.log
  shown_written now none = by now none fault whole where
    by : (o : Option IoError) → o ≡ None → (p : Option IoError) → p ≡ None
        → shown_log size o m left after.log ≡ at_rest (overwritten (shown_log size p m line device.log).bytes at bytes)
    by None is None was = ap at_rest (cleared_behind device.log.bytes)
    by None is (Some e) was = cc
    by (Some e) is p was = cc

  module _ (now : Option IoError) (none : now ≡ None) where
    abbrev pub shown_now : State
    shown_now = shown size now m left after

    -- the device that the lemmas on a write speak of, with what was placed on the device itself
    moved : with_rest sees_after shown_now ≡ shown_now
    moved = ap (with_log shown_now) (sym (shown_written now none))

    -- They differ in what was placed alone, as the bytes of the file itself are noted with that. So a crash leaves of the one what it leaves of the other.
    recovers_moved : (H : History) (A f : ℕ) → LeavesRecovering sum size H A f sees_after → LeavesRecovering sum size H A f shown_now
    recovers_moved H A f recovers left leaves own_left =
        let written : List ℕ = overwritten sees.log.bytes at bytes in
        let alone : left.log ≡ written =
        at_rest_left written left.log (subst (λ (l : LogState). LeavesLog l left.log) (shown_written now none) leaves.log) in
        let placed : (slot : ℕ) → WasPlaced sum size shown_now.placed written slot =
        subst (λ (l : List ℕ). (slot : ℕ) → WasPlaced sum size shown_now.placed l slot) alone
        (was_placed sum size shown_now.placed left.log shown_now.log own_left.log) in
        recovers left
        (record {
          log = subst (λ (l : LogState). LeavesLog l left.log) (shown_written now none) leaves.log;
          blobs = leaves.blobs;
          snapshots = leaves.snapshots;
        })
        (record {
          log = subst (λ (l : List ℕ). NoForeignLog sum size sees_after.log sees_after.placed l) (sym alone)
              (none_foreign sum size sees_after.placed written
              (resettled sum size written (overwritten device.log.bytes at bytes) (asked_now at bytes ∷ device.placed) placed));
          blobs = own_left.blobs;
          snapshots = own_left.snapshots;
          zeros = own_left.zeros;
        })

    -- What segments hold over the one they hold over the other,
    pub holds_moved : (marks : JoinedMarks) (later : Option IoError) (vs : List SegmentView) (H : History) → HoldsLine sum marks size sees_after later vs H
        → HoldsLine sum marks size shown_now later vs H
    holds_moved marks later vs H holds =
        subst (λ (s : State). HoldsLine sum marks size s later vs H) moved (line_over sum size sees_after shown_now later refl _ vs H holds)

    -- and what they fit they fit.
    pub fits_moved : (marks : JoinedMarks) (later : Option IoError) (vs : List SegmentView) (reach pins : ℕ) (H : History) (A f : ℕ) (U : List Message)
        → FitsLine sum marks size sees_after later vs reach pins H A f U → FitsLine sum marks size shown_now later vs reach pins H A f U
    fits_moved marks later vs reach pins H A f U fits =
        subst (λ (s : State). FitsLine sum marks size s later vs reach pins H A f U) moved
        (fits_line_over sum size sees_after shown_now later refl H A f U
        (λ first named. record {
          names = named.names;
          own_names = λ ok. own_same sum sees_after (with_rest sees_after shown_now) refl refl (named.own_names ok);
        }) _
        vs reach pins (
          λ items. items,
          λ was. subst (LeavesRecovering sum size H (stable_below reach H.batches) f) (sym moved)
              (recovers_moved H (stable_below reach H.batches) f (line_leaves sum marks size sees_after later vs reach pins H A f U fits)),
        ) fits)
