-- A slot is freed whose segment ends at the mark's segment or below it, and of which all that is read is of the history: then the segment is gone, and what the
-- log file has besides what is shown is what it may have.
use Rattle.std.proofs.Common.{◌≡◌, ◌≢◌, ◌∙◌, ◌+◌, ◌*◌, ◌/◌, ◌%◌, ◌≤◌, ℕ, ℤ, pos, true, false, List, refl, sym, ap, subst, arith, inl, inr}
use Rattle.std.specs.List.{Contains}
use Rattle.std.proofs.Math.Nat.{mul-mod_left}
use Rattle.std.proofs.lemmas.Bool.{cases_eq}
use Rattle.std.proofs.lemmas.List.{get_or-set_other}
use Rattle.sled_codec.specs.History.{History}
use Rattle.sled_codec.specs.Places.{part}
use Rattle.sled_codec.specs.Record.{IsHeader}
use Rattle.sled_codec.specs.Snapshots.{SnapshotModel}
use Rattle.sled_store.specs.Device.{State}
use Rattle.sled_store.specs.SegmentStates.{Machine, SlotState, free_slot, freed, is_free, slot_at}
use Rattle.sled_core.specs.declared.iterator.Segment.{Segment}
use Rattle.sled_core.specs.Begun.{SegmentView}
use Rattle.sled_core.specs.inside.Cleared.{cleared}
use Rattle.sled_core.specs.inside.FreeSlots.{HaveOwn}
use Rattle.sled_core.specs.inside.Hides.{HasSegment, Hides, IsGone, IsTrueReading, ReadsOwnIn}
use Rattle.sled_core.specs.inside.Reached.{StandsTo}
use Rattle.sled_core.specs.inside.Scan.{IsFoundSegment}
use Rattle.sled_core.specs.inside.Slots.{IsWholeSegment, marked_at}
use Rattle.sled_core.specs.Tail.{least_place}
use Rattle.sled_core.proofs.Cleared.Calls.{cleared_freed, freed_free}
use Rattle.sled_core.proofs.Cleared.Emptied.{IsEmptied}
use Rattle.sled_core.proofs.Numbers.Hides.{gone_less}
use Rattle.sled_core.proofs.Freed.KeptHides.{header_kept, text_kept}
use Rattle.sled_core.proofs.Freed.ReadLess.{reading_less}
use Rattle.sled_core.proofs.Tail.Moved.{one_in_slot}
use Rattle.sled_core.proofs.Tail.OneTail.{scan_there}
use Rattle.sled_core.proofs.Torn.TornRecords.{record_read}
use Rattle.sled_core.proofs.Torn.WrittenParts.{all_there, in_segment}

module _ (sum : List ℕ → ℕ) (size : ℕ) (some : 256 ≤ size) (s : State) (m : Machine) (line : List SegmentView) (base : ℕ) (H : History) (first : SnapshotModel)
    (hides : Hides sum size s m line (least_place size first) base H) where
  abbrev shown : List ℕ
  shown = cleared size m line s.log.bytes

  abbrev least : ℕ
  least = least_place size first

  -- In a file in which a reader of a segment that a slot has reads nothing but what is own it reads what is shown, as far as it goes.
  own_reading : (k place : ℕ) (mark : ℤ) → is_free (slot_at m k).state ≡ false → (slot_at m k).lsn ≡ place
      → IsTrueReading sum size shown H (marked_at (k * size) place mark)
      → (log : List ℕ) → ReadsOwnIn sum size s k (place / size) log → IsTrueReading sum size log H (marked_at (k * size) place mark)
  own_reading k place mark used is reading log own =
      reading_less sum size shown log k place
      (λ from comes room h body len stands.
      let lid : ℕ = k * size + from in
      let whole = all_there sum size log lid (place / size) h body len stands in
      let fits = in_segment sum size log (k * size) (mul-mod_left k size) from (place / size) h body len (omega (arith, room)) stands in
      let its = own from len
      (record_read sum size log (record { place = place; slot = k * size }) (mul-mod_left k size) (place / size) 20 from h body len room stands comes) in
      ap (part shown lid) (sym whole)
      ∙ (hides.taken k (place / size) lid (part log lid len) used (omega arith, omega (arith, whole, fits)) its).1 (ap (λ n. n / size) (sym is)))
      H mark reading

  -- The slot was that of a segment and is free; the others are as they were. Each slot that isn't free has its own segment (`HasSlots`). That of this one
  -- isn't of the line any more, so it is whole in what is shown (`AreWhole`). What is read of the segments that are shown from the snapshot's on is of the
  -- history (`StandsAmong`).
  module _ (m' : Machine) (k : ℕ) (used : is_free (slot_at m k).state ≡ false) (free : is_free (slot_at m' k).state ≡ true)
      (others : (j : ℕ) → j ≢ k → slot_at m' j ≡ slot_at m j) (emptied : IsEmptied size k shown (cleared size m' line s.log.bytes))
      (end : ℕ) (own : HaveOwn size end m) (below : (slot_at m k).lsn + size ≤ base)
      (whole : IsWholeSegment sum size shown H (k * size) (slot_at m k).lsn)
      (A reach : ℕ) (stands : StandsTo sum size shown H A first reach) where
    abbrev now : List ℕ
    now = cleared size m' line s.log.bytes

    -- each other one that isn't free wasn't before
    other_slot : (j : ℕ) → is_free (slot_at m' j).state ≡ false → j ≢ k
    other_slot j taken same = let both : true ≡ false = sym free ∙ ap (λ n. is_free (slot_at m' n).state) (sym same) ∙ taken in cc

    was_used : (j : ℕ) → is_free (slot_at m' j).state ≡ false → is_free (slot_at m j).state ≡ false
    was_used j taken = ap (λ (x : SlotState). is_free x.state) (sym (others j (other_slot j taken))) ∙ taken

    same_lsn : (j : ℕ) → is_free (slot_at m' j).state ≡ false → (slot_at m' j).lsn ≡ (slot_at m j).lsn
    same_lsn j taken = ap (λ (x : SlotState). x.lsn) (others j (other_slot j taken))

    was_there : (place : ℕ) → HasSegment m' place → HasSegment m place
    was_there place (j, taken, is) = (j, was_used j taken, sym (same_lsn j taken) ∙ is)

    -- Its segment is gone.
    module _ (place : ℕ) (mark : ℤ) (low : least ≤ place) (header : IsHeader sum (part shown (k * size) 20) (pos place) mark) where
      abbrev segment : Segment
      segment = marked_at (k * size) place mark

      found : IsFoundSegment sum size shown least segment
      found = record { slot = mul-mod_left k size; header = header; not_below = low }

      is : (slot_at m k).lsn ≡ place
      is = one_in_slot sum size shown 0 least (marked_at (k * size) (slot_at m k).lsn whole.mark) segment whole.found found refl

      there : Contains stands.ordering segment
      there = (stands.numbers.found segment).1 found

      reading : IsTrueReading sum size shown H segment
      reading =
          let t = scan_there sum size shown stands.ordering stands.scanned stands.reads segment there in
          record { scan = t.0; segment = t.2; read = t.3; truth = λ x met. stands.truth t.0 x t.1 met; caps = stands.caps t.0 t.1 }

      is_gone : IsGone sum size s m' base H k place mark
      is_gone = record {
        no_slot = λ (j, taken, at). other_slot j taken (own.one j k (was_used j taken) used (sym (same_lsn j taken) ∙ at ∙ sym is));
        aligned = ap (λ n. n % size) (sym is) ∙ own.aligned k used;
        below = omega (arith, below, is);
        is_mark = stands.marks segment there;
        reading = own_reading k place mark used is reading;
      }

    -- So it stays.
    pub hides_emptied : Hides sum size s m' line least base H
    hides_emptied = record {
      to_come = hides.to_come;
      taken = λ j number at text taken inside its.
          let had = hides.taken j number at text (was_used j taken) inside its in (
            subst (λ n. number ≤ n / size) (sym (same_lsn j taken)) had.0,
            λ same. text_kept sum size shown now j (emptied.others j (other_slot j taken)) at text inside
                (had.1 (same ∙ ap (λ n. n / size) (same_lsn j taken))),
          );
      free = λ i number at text inside its j taken same.
          hides.free i number at text inside its j (was_used j taken) (same ∙ ap (λ n. n / size) (same_lsn j taken));
      headers = λ j place mark low its. elim (hides.headers j place mark low its) [
        | inl header ↦ elim (cases_eq j k) [
          | inl same ↦ inr (subst (λ n. IsGone sum size s m' base H n place mark) (sym same)
              (is_gone place mark low (subst (λ n. IsHeader sum (part shown (n * size) 20) (pos place) mark) same header)))
          | inr other ↦ inl (header_kept sum size shown now j (emptied.others j other) some place mark header)
        ]
        | inr gone ↦ inr (gone_less sum size s s m m' base base H j place mark (λ at text its_own. its_own) (was_there place) (omega arith) gone)
      ];
      alone = hides.alone;
    }

  -- So it is where the accountant frees a slot.
  pub hides_freed : (k : ℕ) → is_free (slot_at m k).state ≡ false → (end : ℕ) → HaveOwn size end m → (slot_at m k).lsn + size ≤ base
      → IsWholeSegment sum size shown H (k * size) (slot_at m k).lsn → (A reach : ℕ) → StandsTo sum size shown H A first reach
      → Hides sum size s (freed size k m).machine line least base H
  hides_freed k used end own below whole A reach stands =
      hides_emptied (freed size k m).machine k used (freed_free size m k) (λ j other. get_or-set_other m.slots k j free_slot free_slot other)
      (cleared_freed size m s.log.bytes (omega (arith, some)) k line) end own below whole A reach stands
