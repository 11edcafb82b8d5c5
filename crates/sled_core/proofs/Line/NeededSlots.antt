-- What tables need from the snapshot on with which a log began is in its slots: so it stays where a message is completed, and where the stable place changes.
use Rattle.std.proofs.Common.{◌≡◌, ◌∙◌, ◌+◌, ◌*◌, ◌/◌, ◌%◌, ◌<◌, ◌≤◌, ℕ, List, [], ◌∷◌, Option, None, Some, sym, ap, subst, arith, inl, inr}
use Rattle.std.specs.List.{Contains, slice_get}
use Rattle.std.specs.declared.io.Error.{Error as IoError}
use Rattle.std.proofs.Math.Nat.{mod-add-div'}
use Rattle.std.proofs.lemmas.Nat.{div-mul-add}
use Rattle.sled_codec.specs.History.{AddsMessage, History, Message}
use Rattle.sled_codec.specs.Pointers.{lid_of}
use Rattle.sled_codec.specs.Snapshots.{SnapshotModel, stable_place}
use Rattle.sled_codec.proofs.Histories.{table_stays}
use Rattle.sled_store.specs.Device.{State}
use Rattle.sled_store.specs.Marks.{slot_with}
use Rattle.sled_store.specs.SegmentStates.{Machine, is_free, slot_at}
use Rattle.sled_store.specs.SnapshotFiles.{BeginsFrom}
use Rattle.sled_store.proofs.Names.OneBegin.{one_begin}
use Rattle.sled_core.specs.Begun.{SegmentView}
use Rattle.sled_core.specs.Buffers.{message_in}
use Rattle.sled_core.specs.Logged.{in_log, logged}
use Rattle.sled_core.specs.NoForeign.{NoHeaderOfZeros}
use Rattle.sled_core.specs.OpenBatches.{stable_below}
use Rattle.sled_core.specs.declared.iobuf.Reserved.{Reserved}
use Rattle.sled_core.specs.declared.logger.joined_marks.JoinedMarks.{JoinedMarks}
use Rattle.sled_core.specs.inside.Fits.{HoldsLine, written_to}
use Rattle.sled_core.specs.inside.FreeSlots.{HasSlot}
use Rattle.sled_core.specs.inside.Numbers.{HaveSlots, IsInSlot}
use Rattle.sled_core.specs.inside.Running.{FitsLine}
use Rattle.sled_core.proofs.Holds.Added.{was_or_added}
use Rattle.sled_core.proofs.Holds.Facts.{IsSegment}
use Rattle.sled_core.proofs.Holds.HeldFrom.{held_reached}
use Rattle.sled_core.proofs.Holds.ReachLemmas.{lid_as}
use Rattle.sled_core.proofs.Line.EntryPlaces.{entry_low}
use Rattle.sled_core.proofs.Reached.MarkWritten.{stands_lower}
use Rattle.sled_core.proofs.Reached.MarksRaise.{marks_high}
use Rattle.sled_core.specs.inside.LogSegments.{held_since}
use Rattle.sled_core.specs.inside.MarksFit.{MarksFitFrom}

module _ (sum : List ℕ → ℕ) (size : ℕ) where
  -- The place from which all counts isn't above what is written of the first segment,
  pub held_written : (marks : JoinedMarks) (device : State) (fault : Option IoError) (line : List SegmentView) (H : History)
      → HoldsLine sum marks size device fault line H → (first : SnapshotModel) → BeginsFrom sum device.snapshots.file first
      → held_since size marks first ≤ written_to line
  held_written marks device fault [] H holds first begins = absurd holds
  held_written marks device fault (v ∷ vs) H holds first begins =
      let own = holds.begun in
      subst (λ (s : SnapshotModel). held_since size marks s ≤ v.parts.site.place + v.parts.written_len)
      (one_begin sum device.snapshots.file own.first first own.begins begins) (held_reached marks.ordered own)

  -- nor, where the marks stand, above what is stable.
  pub held_stable : 256 ≤ size → (marks : JoinedMarks) (device : State) (fault : Option IoError) → fault ≡ None → (line : List SegmentView) (reach pins : ℕ)
      (H : History) (A f : ℕ) (U : List Message) → FitsLine sum marks size device fault line reach pins H A f U → NoHeaderOfZeros sum
      → MarksFitFrom sum size device.snapshots.file device.log.bytes marks
      → (first : SnapshotModel) → BeginsFrom sum device.snapshots.file first
      → held_since size marks first ≤ stable_below reach H.batches
  held_stable big marks device fault whole [] reach pins H A f U fits zeros stand first begins = absurd fits
  held_stable big marks device fault whole (v ∷ vs) reach pins H A f U fits zeros stand first begins =
      let own = fits.holds.begun in
      let among = fits.among whole zeros in
      let its = stand own.first own.begins in
      subst (λ (s : SnapshotModel). held_since size marks s ≤ stable_below reach H.batches)
      (one_begin sum device.snapshots.file own.first first own.begins begins)
      (marks_high sum size device.log.bytes big (logged H) (stable_below reach H.batches) own.first reach among.stands marks.joined
      (stands_lower sum size device.log.bytes own.first marks.joined marks.durable its.joined its.stands))

  -- The place of the newest snapshot isn't above what is stable.
  pub newest_stable : (marks : JoinedMarks) (device : State) (fault : Option IoError) → fault ≡ None → (line : List SegmentView) (reach pins : ℕ) (H : History) (A f : ℕ)
      (U : List Message) → FitsLine sum marks size device fault line reach pins H A f U → NoHeaderOfZeros sum
      → (first : SnapshotModel) → BeginsFrom sum device.snapshots.file first → stable_place first.stable ≤ stable_below reach H.batches
  newest_stable marks device fault whole [] reach pins H A f U fits zeros first begins = absurd fits
  newest_stable marks device fault whole (v ∷ vs) reach pins H A f U fits zeros first begins =
      let own = fits.holds.begun in
      let among = fits.among whole zeros in
      subst (λ (s : SnapshotModel). stable_place s.stable ≤ stable_below reach H.batches)
      (one_begin sum device.snapshots.file own.first first own.begins begins) among.stands.not_below

  -- A message of an entry of a segment is in the slot of that.
  module _ (m : Machine) (v : SegmentView) (has : HasSlot size m v) (aligned : v.parts.site.place % size ≡ 0) {place : ℕ} (facts : IsSegment size place v)
      (i : ℕ) (r : Reserved) (there : slice_get v.parts.reserved i ≡ Some r) (x : Message) (is : in_log x ≡ message_in v.parts.site v.parts.bytes r) where
    inside : r.from < size
    inside = entry_low v i r facts there

    lid : lid_of x.pointer ≡ has.number * size + r.from
    lid =
        let at = ap (λ (y : Message). lid_of y.pointer) is in
        let of_record = lid_as r.blob (v.parts.site.slot + r.from) in
        let lies = has.lies in
        omega (arith, at, of_record, lies)

    slot : slot_with size x ≡ has.number
    slot = ap (λ n. n / size) lid ∙ div-mul-add has.number size r.from inside

    begins : x.place / size * size ≡ v.parts.site.place
    begins =
        let at = ap (λ (y : Message). y.place) is in
        let whole : v.parts.site.place / size * size ≡ v.parts.site.place = omega (arith, mod-add-div' v.parts.site.place size, aligned) in
        let here : x.place ≡ v.parts.site.place / size * size + r.from = omega (arith, at, whole) in
        ap (λ n. n / size * size) here ∙ ap (λ n. n * size) (div-mul-add (v.parts.site.place / size) size r.from inside) ∙ whole

    pub message_in_slot : IsInSlot size m x
    message_in_slot = record {
      taken = ap (λ k. is_free (slot_at m k).state) slot ∙ has.taken;
      lsn = ap (λ k. (slot_at m k).lsn) slot ∙ has.is ∙ sym begins;
    }

  module _ (base A : ℕ) (H : History) (m : Machine) (has : HaveSlots sum size base H A m) where
    -- A message is added behind the place.
    pub slots_added : (H' : History) (x : Message) → AddsMessage H x H' → base ≤ x.place → IsInSlot size m x → HaveSlots sum size base H' A m
    slots_added H' x adds up is = record {
      later = λ e there above. elim (was_or_added H H' x adds e there) [
        | inl had ↦ has.later e had above
        | inr own ↦ subst (IsInSlot size m) own is
      ];
      older = λ page e entry. has.older page e (subst (λ (l : List Message). Contains l e) (table_stays H H' x base page adds up) entry);
      not_above = has.not_above;
    }

    -- What is stable changes.
    pub slots_at : (B : ℕ) → (NoHeaderOfZeros sum → base ≤ B) → HaveSlots sum size base H B m
    slots_at B low = record { later = has.later; older = has.older; not_above = low }
