-- A log that begins has zeros in its accountant's free slots, and the slot of its segment isn't free: it is that of the active segment, or the one that was handed out.
use Rattle.std.proofs.Common.{◌≡◌, ◌∙◌, ◌*◌, ◌/◌, ◌≤◌, ◌<◌, ℕ, Bool, false, not, if◌then◌else◌, List, [], ◌∷◌, ◌++◌, length, Option, None, Some, IfSome, refl, sym, ap, subst, arith}
use Rattle.std.specs.declared.io.Error.{Error as IoError}
use Rattle.std.proofs.Math.Nat.{mod-add-div'}
use Rattle.std.proofs.lemmas.List.FromFn.{get_or-map-range_with_len, length-map-range_with_len}
use Rattle.sled_codec.specs.Snapshots.{SnapshotModel, stable_place}
use Rattle.sled_store.specs.Begin.{IsStartable, MayBeActive, beginning_at, entries_of, place_at, slots_of, unused}
use Rattle.sled_store.specs.SegmentStates.{Machine, SlotState, free_slot, handed_out, is_free, next_slot, slot_at}
use Rattle.sled_store.specs.SlotTables.{active_entry, number_in}
use Rattle.sled_store.specs.Started.{all_entries, found, found_slot, started}
use Rattle.sled_store.proofs.Accounts.StartNext.{free_found, left_below, lowest_within, next_started}
use Rattle.sled_store.proofs.Segments.EntryLemmas.{same_number}
use Rattle.sled_store.proofs.Accounts.StartedFile.{started_file}
use Rattle.sled_core.specs.Begun.{SegmentView}
use Rattle.sled_core.specs.declared.iobuf.SegmentPosition.{SegmentPosition}
use Rattle.sled_core.specs.inside.FreeSlots.{FreeAreZeros, HasSlot, HasSlots, HaveOwn}
use Rattle.sled_core.specs.FreeSlots.{begun_machine, with_current}
use Rattle.sled_core.specs.Starts.{site_from}
use Rattle.sled_core.proofs.Holds.HoldsLemmas.{one}
use Rattle.sled_core.proofs.Start.Entries.{active_used}
use Rattle.sled_core.proofs.Start.FreeSlots.{handed_free, started_free}
use Rattle.sled_core.proofs.Start.OpenLemmas.{begins_place}
use Rattle.sled_core.proofs.Start.OwnSlots.{handed_there, own_begun}

-- The slot that was handed out isn't free.
pub handed_taken : (lsn : ℕ) (m : Machine) → next_slot m ≤ length m.slots → is_free (slot_at (handed_out lsn m) (next_slot m)).state ≡ false
handed_taken lsn m within = ap (λ (x : SlotState). is_free x.state) (handed_there m within lsn)

module _ (size len : ℕ) (s : SnapshotModel) where
  abbrev slots : ℕ
  slots = slots_of size len

  -- what an accountant has that has started
  abbrev start : Machine
  start = (started size len s).machine

  -- The next slot is one of its slots, or the one behind them.
  pub next_within : next_slot start ≤ length start.slots
  next_within =
      let is = next_started size len s in
      let low = lowest_within size slots s in
      let left = left_below (found size slots s).slots slots in
      let long = length-map-range_with_len (λ j. found_slot size s j (number_in size j (all_entries s))) 0 slots in
      omega (arith, is, low, left, long)

  active_there : (a : ℕ) → a / size < slots → slot_at start (a / size) ≡ found_slot size s (a / size) (number_in size (a / size) (all_entries s))
  active_there a inside = get_or-map-range_with_len (λ j. found_slot size s j (number_in size j (all_entries s))) 0 slots (a / size) (a / size) free_slot inside (omega arith)

  -- The slot of the active segment isn't free,
  active_taken : (a : ℕ) → s.active ≡ Some a → a / size < slots → is_free (slot_at start (a / size)).state ≡ false
  active_taken a active inside =
      ap (λ (x : SlotState). is_free x.state) (active_there a inside)
      ∙ free_found size s (a / size)
      ∙ ap not (active_used size s a active)

  -- and has the segment of the stable place.
  pub active_is : (a : ℕ) → s.active ≡ Some a → a / size < slots → (slot_at start (a / size)).lsn ≡ stable_place s.stable / size * size
  active_is a active inside =
      let first : number_in size (a / size) (all_entries s) ≡ Some (stable_place s.stable / size) =
      ap (λ (o : Option ℕ). number_in size (a / size) (active_entry (stable_place s.stable) o ++ entries_of s.pages)) active
      ∙ ap (λ (b : Bool). if b then Some (stable_place s.stable / size) else number_in size (a / size) (entries_of s.pages)) (same_number (a / size)) in
      ap (λ (x : SlotState). x.lsn) (active_there a inside ∙ ap (found_slot size s (a / size)) first)

module _ (size : ℕ) (some : 0 < size) (log : List ℕ) (s : SnapshotModel) (fault : Option IoError) where
  abbrev stable : ℕ
  stable = stable_place s.stable

  abbrev free : List ℕ
  free = unused size (slots_of size (length log)) s

  -- the slot of its segment
  begun_slot : IsStartable size (length log) s → (v : SegmentView) → v.parts.site ≡ site_from size (length log) s → HasSlot size (begun_machine size (length log) s) v
  begun_slot startable v is = by s.active refl startable.active (ap (λ (p : SegmentPosition). p.place) is) (ap (λ (p : SegmentPosition). p.slot) is) where
    by : (o : Option ℕ) → s.active ≡ o → IfSome o (MayBeActive size (slots_of size (length log)) stable) → v.parts.site.place ≡ (beginning_at size (slots_of size (length log)) stable free o).place
        → v.parts.site.slot ≡ (beginning_at size (slots_of size (length log)) stable free o).slot → HasSlot size (with_current (place_at size stable o) o (start size (length log) s)) v
    by (Some a) active may place at = record {
      number = a / size;
      lies = at ∙ (let aligned = may.aligned in sym (omega (arith, mod-add-div' a size, aligned)));
      taken = active_taken size (length log) s a active may.slot;
      is = active_is size (length log) s a active may.slot ∙ sym place;
    }
    by None active may place at = record {
      number = next_slot (start size (length log) s);
      lies = at ∙ ap (λ n. n * size) (sym (next_started size (length log) s));
      taken = handed_taken (place_at size stable None) (start size (length log) s) (next_within size (length log) s);
      is = ap (λ (x : SlotState). x.lsn) (handed_there (start size (length log) s) (next_within size (length log) s) (place_at size stable None)) ∙ sym place;
    }

  begun_zeros : (o : Option ℕ) → FreeAreZeros size (started_file size log s) (with_current (place_at size stable o) o (start size (length log) s))
  begun_zeros (Some a) = started_free size some log s
  begun_zeros None = handed_free size (started_file size log s) (start size (length log) s) (place_at size stable None) (started_free size some log s)

  pub begun_slots : IsStartable size (length log) s → (v : SegmentView) → v.parts.site ≡ site_from size (length log) s → HasSlots size (v ∷ []) (started_file size log s) fault (begun_machine size (length log) s)
  begun_slots startable v is =
      let place : v.parts.site.place ≡ place_at size stable s.active = ap (λ (p : SegmentPosition). p.place) is ∙ begins_place size (slots_of size (length log)) stable free s.active in
      record {
        taken = one (HasSlot size (begun_machine size (length log) s)) v (begun_slot startable v is);
        zeros = λ none. begun_zeros s.active;
        own = subst (λ n. HaveOwn size n (begun_machine size (length log) s)) (omega (arith, place)) (own_begun size (length log) some s startable (next_within size (length log) s));
      }
