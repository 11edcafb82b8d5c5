-- A message that may come to a history names no blob that goes with a segment, so that no write removes its blob: so it is with an entry of the table of all
-- that there is, whose item no crash takes, and with a message whose blob is of the next place or a higher one. A log notes no blob where it seals its
-- current buffer.
use Rattle.std.proofs.Common.{◌≡◌, ◌∙◌, ◌<◌, ◌≤ℤ◌, ◌+◌, ℕ, ℤ, pos, Bool, true, false, nat_le, if◌then◌else◌, List, length, subst, sym, arith, inl, inr}
use Rattle.std.specs.List.{Contains}
use Rattle.std.proofs.lemmas.Int.{ints}
use Rattle.std.proofs.lemmas.List.Elements.{All-contains}
use Rattle.sled_codec.specs.declared.result.DiskPtr.TheVariants.{Blob}
use Rattle.sled_codec.specs.History.{History, Message, table}
use Rattle.sled_store.specs.Device.{Trace}
use Rattle.sled_store.specs.Outdated.{IsNamedNow, MayName, NamesBlob}
use Rattle.sled_store.specs.SegmentStates.{Machine, slot_at}
use Rattle.sled_store.proofs.Marks.OutdatedSteps.{KeepsBlobs, blobs_same, handed_blobs}
use Rattle.sled_store.proofs.Marks.TableLemmas.{entry_above}
use Rattle.sled_store.proofs.Segments.TableEntries.{from_table}
use Rattle.sled_core.specs.Begun.{SegmentView}
use Rattle.sled_core.specs.declared.logger.Log.{Log}
use Rattle.sled_core.specs.Fits.{current_begin, current_of, ledger_of, ledger_sealed, machine_at, next_place, pins_of, segment_size_of}
use Rattle.sled_core.specs.Freeing.{Ledger}
use Rattle.sled_core.specs.Keeps.{IsSpared}
use Rattle.sled_core.specs.Positions.{is_short, next_segment_at}
use Rattle.sled_core.specs.ReadBuffer.{ledger_at}
use Rattle.sled_core.specs.Reading.{BlobIsBelow}
use Rattle.sled_core.specs.Running.{IsStored}
use Rattle.sled_core.specs.invariants.Running.{Fits}
use Rattle.sled_core.proofs.Holds.ReachLemmas.{fits_reach}
use Rattle.sled_core.proofs.Line.KeptCalls.{spared_slots}
use Rattle.sled_core.proofs.Line.Rewritten.{kept, ordered}
use Rattle.sled_core.proofs.Logged.Messages.{logged_ascends}

module _ {D C : Type 0} (trace : D → Trace) (sum : List ℕ → ℕ) (log : Log D C) (H : History) (A f : ℕ) (U : List Message) where
  -- The blob of an entry of the table is that of an entry of the table of all messages.
  pub named_now : (page : ℕ) (m : Message) (blob : ℤ) → Fits trace sum log H A f U → Contains (table H (next_place log) page) m → NamesBlob m blob
      → IsNamedNow H blob
  named_now page m blob fits entry names = record {
    cut = next_place log;
    past = λ x there. All-contains (λ (y : Message). y.place < next_place log) H.messages x (fits_reach trace sum log H A f U fits) there;
    page = page;
    entry = m;
    there = entry;
    names = names;
  }

  -- A blob that goes with a segment is named by a message of the history, and each that names it has a later one that gives its page a new beginning.
  pub named_spared : (m : Message) → Fits trace sum log H A f U → MayName H m → IsSpared log m
  unfolding Fits
  named_spared m fits may = inr (λ k blob there names.
      let gone = fits.shows.account.outdated k blob there in
      elim (may blob names) [
        | inl none ↦ none gone.message gone.there gone.names
        | inr now ↦ (
            let by = gone.superseded now.entry (from_table H now.cut now.page now.entry now.there).0 now.names in
            let lower : by.message.place < now.cut = now.past by.message by.there in
            let order = logged_ascends H (ordered trace sum log H A f U fits.shows) in
            let above = entry_above H now.cut now.page now.entry order now.there by.message by.there by.same_page by.begins lower in
            let later = by.later in
            omega (arith, above, later))
      ])

  module _ (fits : Fits trace sum log H A f U) (m : Message) (entry : Contains (table H (next_place log) m.page) m) where
    pub entry_spared : IsSpared log m
    entry_spared = named_spared m fits (λ blob names. inr (named_now m.page m blob fits entry names))

    pub entry_stored : IsStored trace sum log m
    unfolding Fits
    entry_stored = record {
      below = fits.shows.parts.items.below m (from_table H (next_place log) m.page m entry).0;
      item = kept trace sum log H A f U fits.shows m.page m entry;
    }

module _ {D C : Type 0} (trace : D → Trace) (sum : List ℕ → ℕ) (log : Log D C) (H : History) (A f : ℕ) (U : List Message)
    (fits : Fits trace sum log H A f U) where
  -- A message of the history names no blob of a place above its own.
  pub blob_below : (e : Message) → Contains H.messages e → BlobIsBelow e e.pointer
  unfolding Fits
  blob_below e there = fits.shows.parts.items.below e there

  -- So none names a blob of the next place, or of a higher one,
  pub blob_unnamed : (e : Message) (blob : ℤ) → pos (next_place log) ≤ℤ blob → Contains H.messages e → NamesBlob e blob → ⊥
  blob_unnamed e blob high there names =
      let low : e.place < next_place log = All-contains (λ (y : Message). y.place < next_place log) H.messages e (fits_reach trace sum log H A f U fits) there in
      let below : blob ≤ℤ pos e.place = subst (BlobIsBelow e) names.1 (blob_below e there) in
      omega (arith, ints, low, high, below)

  -- and a message that does may come.
  pub higher_may : (m : Message) (lid : ℕ) (blob : ℤ) → pos (next_place log) ≤ℤ blob → m.pointer ≡ Blob lid blob → MayName H m
  higher_may m lid blob high is other names =
      let both : Blob lid blob ≡ Blob names.0 other = sym is ∙ names.1 in
      let same : other ≡ blob = cc in
      inl (λ e there its. blob_unnamed e other (subst (λ (z : ℤ). pos (next_place log) ≤ℤ z) (sym same) high) there its)

-- A slot that is handed out for a further segment has no blob: so no other blob goes with a segment where the current buffer is sealed.
sealed_blobs : {D C : Type 0} (old : Log D C) → KeepsBlobs (machine_at old).slots (ledger_sealed old).machine.slots
sealed_blobs old = by (is_short size (length v.parts.bytes)) where
  m : Machine
  m = machine_at old

  size : ℕ
  size = segment_size_of old

  v : SegmentView
  v = current_of old

  by : (o : Bool) → KeepsBlobs m.slots (if o then next_segment_at size v.parts.site.place m
      else record { place = v.parts.site.place + length v.parts.bytes; begins = v.parts.site.place; slot = v.parts.site.slot; machine = m }).machine.slots
  by true = handed_blobs m (v.parts.site.place + size)
  by false = blobs_same m.slots

spared_by : {D C : Type 0} (old new : Log D C) (l : Ledger) → KeepsBlobs (machine_at old).slots l.machine.slots → ledger_of new ≡ l
    → pins_of new ≡ pins_of old → (m : Message) → IsSpared old m → IsSpared new m
spared_by old new l keeps same = spared_slots old new (subst (λ (x : Ledger). KeepsBlobs (machine_at old).slots x.machine.slots) (sym same) keeps)

pub spared_sealed : {D C : Type 0} (old new : Log D C) → ledger_of new ≡ ledger_sealed old → pins_of new ≡ pins_of old → (m : Message)
    → IsSpared old m → IsSpared new m
spared_sealed old new = spared_by old new (ledger_sealed old) (sealed_blobs old)

-- So it is where it is sealed if it has a place.
pub spared_at : {D C : Type 0} (place : ℕ) (old new : Log D C) → ledger_of new ≡ ledger_at place old → pins_of new ≡ pins_of old → (m : Message)
    → IsSpared old m → IsSpared new m
spared_at place old new = spared_by old new (ledger_at place old) (by (nat_le (current_begin old) place)) where
  by : (o : Bool) → KeepsBlobs (machine_at old).slots (if o then ledger_sealed old else ledger_of old).machine.slots
  by true = sealed_blobs old
  by false = blobs_same (machine_at old).slots
