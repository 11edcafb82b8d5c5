-- A log can begin on what a recovery left.
use Rattle.std.proofs.Common.{◌≡◌, ◌↔◌, ◌≤◌, ◌<◌, ◌*◌, ◌/◌, ◌%◌, ◌∙◌, ℕ, ℤ, pos, negsuc, true, List, length, Option, Some, None, IfSome, refl, sym, ap, subst, arith, inl, inr}
use Rattle.std.specs.List.{All, Contains}
use Rattle.sled_codec.specs.History.{History}
use Rattle.sled_codec.specs.PageTables.{IsTable}
use Rattle.sled_codec.specs.Snapshots.{Entry, Page, SnapshotModel, is_sound, sound_parts, stable_place}
use Rattle.sled_store.specs.Begin.{slots_of, slot_of, segment_number_of, entries_of, IsPlacedIn, MayBeActive, IsStartable}
use Rattle.sled_store.specs.Device.{State}
use Rattle.sled_store.specs.SnapshotFiles.{BeginsFrom}
use Rattle.sled_store.proofs.Segments.Elements.{all_from_in}
use Rattle.sled_store.proofs.Segments.SnapshotEntries.{all_seen}
use Rattle.sled_core.specs.Logged.{logged}
use Rattle.sled_core.specs.inside.Running.{IsReadyFor}
use Rattle.sled_core.specs.inside.Reached.{StandsActive}
use Rattle.sled_core.specs.inside.Recoverable.{ActiveFits}
use Rattle.sled_core.specs.inside.Scan.{IsFoundSegment}
use Rattle.sled_core.specs.Tail.{Scanned, least_place}
use Rattle.sled_core.proofs.Start.PlacedEntries.{Known, known, slot_is, number_is, placed, of_slot, of_number}
use Rattle.sled_core.proofs.Start.SegmentSizes.{slot_counted}
use Rattle.sled_core.proofs.Reached.StartedStands.{found_inside}
use Rattle.sled_core.proofs.Tail.Moved.{one_in_slot}
use Rattle.sled_core.proofs.Tail.Multiples.{same_number}
use Rattle.sled_core.proofs.Tail.OneTail.{segment_there}
use Rattle.sled_core.proofs.Torn.AlikeSlots.{slot_found}

-- The snapshot that recovery begins from is sound.
begins_sound : (sum : List ℕ → ℕ) (snapshots : ℤ → Option (List ℕ)) (s : SnapshotModel) → BeginsFrom sum snapshots s → is_sound s ≡ true
begins_sound sum snapshots s (inl none) = ap is_sound none.1
begins_sound sum snapshots s (inr newest) = newest.4

-- And so is one with another active slot, where that goes with the stable place.
sound_with : (size : ℕ) → 0 < size → (stable : Option ℤ) (was active : Option ℕ) (pages : List Page) → sound_parts stable was pages ≡ true → ActiveFits size (stable_place stable) active → sound_parts stable active pages ≡ true
sound_with size some (Some (pos n)) was active pages sound fits = refl
sound_with size some (Some (negsuc n)) was active pages sound fits = absurd (cc)
sound_with size some None None None pages sound fits = sound
sound_with size some None None (Some a) pages sound fits = absurd (let behind = fits.0 in let none : 0 % size ≡ 0 = omega (arith, some) in omega (arith, behind, none))
sound_with size some None (Some was) active pages sound fits = absurd (cc)

module _ (sum : List ℕ → ℕ) (size : ℕ) (device : State) (s : SnapshotModel) (H : History) (A f : ℕ) (long : 256 ≤ size) (most : size ≤ 8388608) (ready : IsReadyFor sum size device s H A f) where
  abbrev log : List ℕ
  log = device.log.bytes

  abbrev stable : ℕ
  stable = stable_place s.stable

  abbrev slots : ℕ
  slots = slots_of size (length log)

  abbrev es : List Entry
  es = entries_of s.pages

  abbrev alone : StandsActive sum size log s (logged H)
  alone = ready.alone

  some : 0 < size
  some = omega (arith, long)

  -- An entry is of a message of the table, whose segment is found.
  abbrev table_is : IsTable s.pages (logged H) stable
  table_is = ready.ready.table

  abbrev KnownHere : Entry → Type 0
  KnownHere = Known sum size log s (logged H) long table_is alone

  seen : (e : Entry) → Contains es e → KnownHere e
  seen = known sum size log s (logged H) long table_is alone

  -- The active segment.
  module _ (a : ℕ) (active : s.active ≡ Some a) where
    abbrev scan : Scanned
    scan = (alone.going a active).scan

    scan_found : IsFoundSegment sum size log (least_place size s) scan.segment
    scan_found = (alone.stands.numbers.found scan.segment).0 (segment_there sum size log alone.stands.ordering alone.stands.scanned alone.stands.reads scan (alone.going a active).there).0

    in_slot : scan.segment.slot ≡ a
    in_slot = (alone.going a active).in_slot

    may_be : MayBeActive size slots stable a
    may_be =
        let fits : ActiveFits size stable (Some a) = subst (ActiveFits size stable) active ready.active in
        let inside = found_inside sum size log (least_place size s) scan.segment (omega (arith, long)) scan_found in
        record {
          aligned = ap (λ n. n % size) (sym in_slot) ∙ scan_found.slot;
          slot = subst (λ n. n / size < slots) in_slot inside;
          offset = record { behind_header = fits.0; before_end = let room = fits.1 in omega (arith, room) };
        }

    active_slot : (e : Entry) → KnownHere e → slot_of size e ≡ a / size → segment_number_of size e ≡ stable / size
    active_slot e k same =
        let slots_same : k.segment.segment.slot / size ≡ scan.segment.slot / size = sym (slot_is sum size log s (logged H) long table_is alone e k) ∙ same ∙ ap (λ n. n / size) (sym in_slot) in
        let begins : k.segment.segment.slot ≡ scan.segment.slot =
        slot_found sum size log 0 k.segment.segment k.segment.found ∙ ap (λ n. n * size) slots_same ∙ sym (slot_found sum size log (least_place size s) scan.segment scan_found) in
        let one = one_in_slot sum size log 0 (least_place size s) k.segment.segment scan.segment k.segment.found scan_found begins in
        number_is sum size log s (logged H) long table_is alone e k ∙ same_number size (k.message.place / size) (stable / size) some (sym k.segment.place ∙ one ∙ (alone.going a active).at_place)

    active_number : (e : Entry) → KnownHere e → segment_number_of size e ≡ stable / size → slot_of size e ≡ a / size
    active_number e k same =
        let at : k.segment.segment.place ≡ least_place size s = k.segment.place ∙ ap (λ n. n * size) (sym (number_is sum size log s (logged H) long table_is alone e k) ∙ same) in
        let found : IsFoundSegment sum size log (least_place size s) k.segment.segment = record { slot = k.segment.found.slot; header = k.segment.found.header; not_below = omega (arith, at) } in
        let here : Some a ≡ Some k.segment.segment.slot = sym active ∙ alone.only k.segment.segment found in
        let same_slot : k.segment.segment.slot ≡ a = cc in
        slot_is sum size log s (logged H) long table_is alone e k ∙ ap (λ n. n / size) same_slot

  sound : is_sound s ≡ true
  sound =
      let was : sound_parts s.stable ready.ready.first.active s.pages ≡ true =
      ap (λ (o : Option ℤ). sound_parts o ready.ready.first.active s.pages) (sym ready.ready.same_place)
      ∙ ap (λ (ps : List Page). sound_parts ready.ready.first.stable ready.ready.first.active ps) (sym ready.ready.same_pages)
      ∙ begins_sound sum device.snapshots.file ready.ready.first ready.ready.begins in
      sound_with size some s.stable ready.ready.first.active s.active s.pages was ready.active

  -- A log can begin on it.
  pub ready_starts : IsStartable size (length log) s
  ready_starts = record {
    sound = sound;
    seen = all_seen s.pages (logged H) stable ready.ready.table;
    active = by_active s.active refl;
    placed = all_from_in (IsPlacedIn size slots stable) es (λ e there. placed sum size log s (logged H) long table_is alone e (seen e there));
    apart = λ d e has_d has_e. (of_slot sum size log s (logged H) long table_is alone d e (seen d has_d) (seen e has_e), of_number sum size log s (logged H) long table_is alone d e (seen d has_d) (seen e has_e));
    of_active = by_entries s.active refl;
    counted = slot_counted size most s.pages (logged H) stable ready.ready.table ready.ready.apart (λ m there. (alone.stands.placed m there).ends) (λ d e has_d has_e same. of_slot sum size log s (logged H) long table_is alone d e (seen d has_d) (seen e has_e) same);
  } where
    by_active : (o : Option ℕ) → s.active ≡ o → IfSome o (MayBeActive size slots stable)
    by_active None none = tt
    by_active (Some a) active = may_be a active

    by_entries : (o : Option ℕ) → s.active ≡ o → IfSome o (λ a. All (λ e. (slot_of size e ≡ a / size) ↔ (segment_number_of size e ≡ stable / size)) es)
    by_entries None none = tt
    by_entries (Some a) active =
        all_from_in (λ e. (slot_of size e ≡ a / size) ↔ (segment_number_of size e ≡ stable / size)) es (λ e there. (active_slot a active e (seen e there), active_number a active e (seen e there)))
