-- The message that a page's Replace makes once more, with its item in the blob where it is, is stored: no crash takes the item of an entry of the table of a log's history, and its record lies behind all that there are.
use Rattle.std.proofs.Common.{◌≡◌, ◌≤◌, ◌≤ℤ◌, ◌+◌, ℕ, ℤ, pos, true, List, length, Some, arith, subst}
use Rattle.std.specs.List.{Contains}
use Rattle.std.proofs.lemmas.Int.{ints}
use Rattle.sled_codec.specs.declared.result.DiskPtr.TheVariants.{Blob}
use Rattle.sled_codec.specs.declared.serialization.message.LogKind.{LogKind}
use Rattle.sled_codec.specs.declared.serialization.message.LogKind.TheVariants.{Replace}
use Rattle.sled_codec.specs.Kinds.{kind_written}
use Rattle.sled_codec.specs.History.{History, Message, table}
use Rattle.sled_store.specs.Device.{State, Trace}
use Rattle.sled_store.proofs.Histories.Ascending.{Ascends}
use Rattle.sled_store.proofs.Segments.TableEntries.{from_table}
use Rattle.sled_core.specs.inside.Shown.{shown_of}
use Rattle.sled_core.specs.declared.logger.Log.{Log}
use Rattle.sled_core.specs.Fits.{current_of, line_of, machine_at, message_rewriting, next_place, noted_in, segment_size_of, synced_end, target_of}
use Rattle.sled_core.specs.Logged.{logged}
use Rattle.sled_core.specs.OpenBatches.{stable_below}
use Rattle.sled_core.specs.Reading.{BlobIsBelow}
use Rattle.sled_core.specs.inside.Running.{FitsWith, KeepsEntries}
use Rattle.sled_core.specs.Running.{IsStored, KeepsItem}
use Rattle.sled_core.proofs.Flush.Settled.{entries_higher}
use Rattle.sled_core.proofs.Holds.ReachLemmas.{position_past}
use Rattle.sled_core.proofs.Holds.WholeHistory.{whole_ascends}
use Rattle.sled_core.proofs.Holds.Facts.{current_facts}
use Rattle.sled_core.proofs.Line.Lying.{synced_up}
use Rattle.sled_core.proofs.Reached.StableBelow.{stable_low}

module _ {D C : Type 0} (trace : D → Trace) (sum : List ℕ → ℕ) (log : Log D C) (H : History) (A f : ℕ) (U : List Message) where
  abbrev size : ℕ
  size = segment_size_of log

  abbrev state : State
  state = shown_of trace log

  module _ (fits : FitsWith sum log.marks (noted_in log) size state log.fault.kept (line_of log) (machine_at log) log.pins H A f U) where
    pub ordered : Ascends (logged H).messages
    ordered = whole_ascends sum size log.segments.first.site state log.fault.kept log.segments.first.buffer.bytes.items log.segments.first.buffer.written_len log.segments.first.buffer.sealed.items log.segments.first.buffer.reserved.items (logged H) fits.parts.holds log.line.lies.in_segment

    -- what is on the device ends before the next record
    pub synced_before : synced_end log ≤ next_place log
    synced_before =
        let up = synced_up log in
        let facts = current_facts log in
        let past : (current_of log).parts.site.place + length (current_of log).parts.bytes ≤ next_place log = position_past size (current_of log) (machine_at log) facts.short in
        let begins = facts.begins in
        omega (arith, up, past, begins)

    -- no crash takes the item of an entry of the table of all that there is
    pub kept : KeepsEntries sum state.blobs H (next_place log)
    kept =
        let low = stable_low fits.reach H.batches in
        let near = fits.parts.reached.near in
        let up = synced_before in
        entries_higher sum state.blobs H (stable_below fits.reach H.batches) (next_place log) ordered (omega (arith, low, near, up)) fits.parts.items.stored fits.parts.items.entries

    module _ (m : Message) (entry : Contains (table H (next_place log) m.page) m) (replaces : m.kind ≡ Replace) (lid : ℕ) (blob : ℤ) (is : m.pointer ≡ Blob lid blob) (above : next_place log ≤ (target_of log m.page 8).place) where
      older : blob ≤ℤ pos (target_of log m.page 8).place
      older =
          let from = from_table H (next_place log) m.page m entry in
          let old : blob ≤ℤ pos m.place = subst (BlobIsBelow m) is (fits.parts.items.below m from.0) in
          let under = from.2 in
          omega (arith, ints, old, under, above)

      item : KeepsItem sum state.blobs m (Blob lid blob)
      item = subst (KeepsItem sum state.blobs m) is (kept m.page m entry)

      pub rewritten_stored : IsStored trace sum log (message_rewriting log m.page blob m.bytes)
      rewritten_stored = record {
        below = older;
        item = λ left leaves.
            let has = item left leaves in
            record {
              kind = has.kind;
              known = subst (λ (k : LogKind). kind_written k m.page true ≡ Some has.kind) replaces has.known;
              file = has.file;
              there = has.there;
              is = has.is;
            };
      }
