-- The slots that are older than the segment in which a log begins: each has an entry of the snapshot, which is the table of the history, so its segment is whole.
use Rattle.std.proofs.Common.{◌≡◌, ◌∙◌, ◌+◌, ◌*◌, ◌/◌, ◌≤◌, ◌<◌, ap, sym, subst, arith, ℕ, true, false, List, length, Option, None, Some}
use Rattle.std.specs.List.{Contains}
use Rattle.sled_codec.specs.History.{History}
use Rattle.sled_codec.specs.Snapshots.{Entry, SnapshotModel, stable_place}
use Rattle.sled_store.specs.Begin.{IsStartable, entries_of, is_used, place_at, segment_number_of, slot_of, slots_of}
use Rattle.sled_store.specs.Device.{State}
use Rattle.sled_store.specs.SegmentStates.{Machine, is_free, slot_at}
use Rattle.sled_store.proofs.Accounts.StartedFile.{started_file, started_part}
use Rattle.sled_core.specs.FreeSlots.{begun_machine}
use Rattle.sled_core.specs.inside.Reached.{StandsActive}
use Rattle.sled_core.specs.inside.Recoverable.{ActiveFits}
use Rattle.sled_core.specs.Ready.{IsReady}
use Rattle.sled_core.specs.inside.Slots.{AreWhole, IsWholeSegment}
use Rattle.sled_core.proofs.Reached.StartedStands.{found_inside}
use Rattle.sled_core.proofs.Reached.WholeSegments.{whole_at, whole_kept, whole_needed}
use Rattle.sled_core.proofs.Start.BegunSlots.{next_within}
use Rattle.sled_core.proofs.Start.Entries.{entry_used}
use Rattle.sled_core.proofs.Start.OwnSlots.{older}
use Rattle.sled_core.proofs.Start.PlacedEntries.{Known, known, number_is, slot_is}
use Rattle.sled_core.proofs.Start.ReadyLemmas.{raised_same}
use Rattle.sled_core.proofs.Tail.Multiples.{put_down}
use Rattle.sled_core.proofs.Torn.AlikeSlots.{slot_found}

module _ (sum : List ℕ → ℕ) (size : ℕ) (big : 256 ≤ size) (old : State) (s : SnapshotModel) (H : History) (ready : IsReady sum size old s H)
    (alone : StandsActive sum size old.log.bytes s H) (startable : IsStartable size (length old.log.bytes) s) (active : ActiveFits size (stable_place s.stable) s.active) where
  abbrev log : List ℕ
  log = old.log.bytes

  abbrev stable : ℕ
  stable = stable_place s.stable

  abbrev begun : Machine
  begun = begun_machine size (length log) s

  some : 0 < size
  some = omega (arith, big)

  -- A slot that is older has an entry, which is of a message of the table.
  record HasKnown (k : ℕ) : Type 0 where
    entry : Entry
    among : Contains (entries_of s.pages) entry
    slot : slot_of size entry ≡ k
    is : (slot_at begun k).lsn ≡ segment_number_of size entry * size
    of : Known sum size log s H big ready.table alone entry

  older_known : (k : ℕ) → is_free (slot_at begun k).state ≡ false → (slot_at begun k).lsn < place_at size stable s.active → HasKnown k
  older_known k taken low =
      let e = older size (length log) some s startable (next_within size (length log) s) k taken low in
      record { entry = e.0; among = e.1; slot = e.2; is = e.3; of = known sum size log s H big ready.table alone e.0 e.1 }

  -- Its segment begins at its place,
  segment_place : (k : ℕ) (e : HasKnown k) → e.of.segment.segment.place ≡ (slot_at begun k).lsn
  segment_place k e = e.of.segment.place ∙ ap (λ n. n * size) (sym (number_is sum size log s H big ready.table alone e.entry e.of)) ∙ sym e.is

  -- and lies in the slot.
  segment_slot : (k : ℕ) (e : HasKnown k) → e.of.segment.segment.slot / size ≡ k
  segment_slot k e = sym (slot_is sum size log s H big ready.table alone e.entry e.of) ∙ e.slot

  segment_begins : (k : ℕ) (e : HasKnown k) → e.of.segment.segment.slot ≡ k * size
  segment_begins k e = slot_found sum size log 0 e.of.segment.segment e.of.segment.found ∙ ap (λ n. n * size) (segment_slot k e)

  -- It ends at the stable place or below,
  stable_low : place_at size stable s.active ≤ stable
  stable_low = by s.active active where
    by : (o : Option ℕ) → ActiveFits size stable o → place_at size stable o ≤ stable
    by None fits = let same = raised_same size stable some fits in omega (arith, same)
    by (Some a) fits = let parts = put_down size stable in omega (arith, parts.0)

  -- so it is whole,
  whole_here : (k : ℕ) (e : HasKnown k) → (slot_at begun k).lsn + size ≤ place_at size stable s.active → IsWholeSegment sum size log H (k * size) (slot_at begun k).lsn
  whole_here k e ends =
      let place = segment_place k e in
      let low = stable_low in
      whole_at sum size log H (sym (segment_begins k e)) (sym place)
      (whole_needed sum size log some H stable e.of.message e.of.segment (omega (arith, place, ends, low)))

  -- also once the log is started.
  whole_started : (k : ℕ) (e : HasKnown k) → (slot_at begun k).lsn + size ≤ place_at size stable s.active
      → IsWholeSegment sum size (started_file size log s) H (k * size) (slot_at begun k).lsn
  whole_started k e ends =
      let within = found_inside sum size log 0 e.of.segment.segment (omega (arith, big)) e.of.segment.found in
      let inside : k < slots_of size (length log) = subst (λ n. n < slots_of size (length log)) (segment_slot k e) within in
      let used : is_used size s k ≡ true = subst (λ n. is_used size s n ≡ true) e.slot (entry_used size s e.entry e.among) in
      whole_kept sum size log (started_file size log s) (k * size) (omega (arith, big)) (started_part size some log s k used inside) H (slot_at begun k).lsn
      (whole_here k e ends)

  -- So it is in the machine and the file with which the log begins.
  pub start_whole : {size' : ℕ} → size' ≡ size → {now : List ℕ} → now ≡ started_file size log s → {place : ℕ} → place ≡ place_at size stable s.active
      → {m : Machine} → m ≡ begun → AreWhole sum size' now H place m
  start_whole same {now} file {place} at {m} machine =
      subst (λ n. AreWhole sum n now H place m) (sym same) (subst (λ (l : List ℕ). AreWhole sum size l H place m) (sym file)
      (subst (λ p. AreWhole sum size (started_file size log s) H p m) (sym at)
      (subst (λ (x : Machine). AreWhole sum size (started_file size log s) H (place_at size stable s.active) x) (sym machine)
      (λ k taken ends. whole_started k (older_known k taken (omega (arith, ends, some))) ends))))
