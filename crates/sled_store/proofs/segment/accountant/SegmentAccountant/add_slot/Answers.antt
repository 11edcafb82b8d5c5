-- A free slot behind all others is in no list but that of the slots.
use Rattle.std.proofs.Common.{◌≡◌, ◌∙◌, ◌<◌, ◌+◌, ◌*◌, ◌^◌, ◌++◌, ◌∷◌, [], ℕ, List, Bool, length, map, refl, sym, ap, subst, arith, if◌then◌else◌, Vec, vec_len, vec_capacity, length-append}
use Rattle.std.proofs.lemmas.List.{map-append}
use Rattle.std.proofs.lemmas.List.Elements.{All-append, All-cons}
use Rattle.std.specs.List.{All}
use Rattle.sled_store.specs.SegmentStates.{SlotState, free_slot}
use Rattle.std.specs.declared.alloc.Global.{Global}
use Rattle.sled_store.specs.declared.segment.slot.Slot.{Slot}
use Rattle.sled_store.specs.declared.segment.cleaner.SegmentCleaner.{SegmentCleaner}
use Rattle.sled_store.specs.declared.segment.accountant.SegmentAccountant.{SegmentAccountant}
use Rattle.sled_store.specs.Accounts.{slot_state, machine_of, cleaner_of, IsAccountant, AreSlots, AreIndexes, AreEntries, HasRooms, HasRoomToDrain, HasRoomToClean}
use Rattle.sled_store.proofs.Accounts.AccountLemmas.{more_entries, length_states}
use Rattle.sled_store.proofs.Accounts.HandLemmas.{pushed_slots, pushed_indexes, indexes_same}
use Rattle.sled_store.proofs.segment.accountant.SegmentAccountant.add_slot.Goals as goal

module _ (size : ℕ) (a : SegmentAccountant) (is : IsAccountant size a) (s : Slot) (free : slot_state s ≡ free_slot) (drain : HasRoomToDrain s) where
  pushed_account : (b : SegmentAccountant) → b.slots.items ≡ a.slots.items ++ s ∷ [] → b.size ≡ a.size → b.tip ≡ a.tip → b.free ≡ a.free → b.active ≡ a.active → b.inactive ≡ a.inactive → b.waiting ≡ a.waiting
      → b.cleaner ≡ a.cleaner → (length (machine_of a).slots + 1) * size < 2 ^ 63 → HasRooms (length (machine_of a).slots + 1) a → HasRoomToClean (length (machine_of a).slots + 1) a.cleaner → IsAccountant size b
  pushed_account b items sizes tips frees actives inactives waitings cleaners reach rooms to_clean =
      let xs : List SlotState = (machine_of a).slots in
      let same : (machine_of b).slots ≡ xs ++ free_slot ∷ [] = ap (map slot_state) items ∙ map-append slot_state a.slots.items (s ∷ []) ∙ ap (λ t. xs ++ t ∷ []) free in
      let n : length (machine_of b).slots ≡ length xs + 1 = ap length same ∙ length-append xs (free_slot ∷ []) in
      record {
        size_is = sizes ∙ is.size_is;
        some = is.some;
        small = is.small;
        in_reach = subst (λ m. m * size < 2 ^ 63) (sym n) reach;
        slots = subst (AreSlots b.tip) (sym same) (subst (λ t. AreSlots t (xs ++ free_slot ∷ [])) (sym tips) (pushed_slots a.tip xs is.slots));
        indexes = subst (λ l. AreIndexes b.tip l b.free.0 b.active.0 b.inactive.0 b.waiting.0) (sym same)
            (indexes_same _ _ _ _ _ _ _ _ _ _ _ (pushed_indexes a.tip xs is.slots a.free.0 a.active.0 a.inactive.0 a.waiting.0 is.indexes) tips (ap (λ p. p.0) frees) (ap (λ p. p.0) actives) (ap (λ p. p.0) inactives) (ap (λ p. p.0) waitings));
        cleaner = record {
          size_is = ap (λ (k : SegmentCleaner). k.size) cleaners ∙ is.cleaner.size_is;
          entries = subst (λ (k : SegmentCleaner). AreEntries (length (machine_of b).slots) (cleaner_of k)) (sym cleaners) (more_entries (length xs) (length (machine_of b).slots) (cleaner_of a.cleaner) (omega (arith, n)) is.cleaner.entries);
          room = subst (λ (k : SegmentCleaner). HasRoomToClean (length (machine_of b).slots) k) (sym cleaners) (subst (λ m. HasRoomToClean m a.cleaner) (sym n) to_clean);
        };
        room_to_drain = subst (All HasRoomToDrain) (sym items) (All-append HasRoomToDrain a.slots.items (s ∷ []) is.room_to_drain (All-cons HasRoomToDrain s [] drain (λ k d lt. absurd (omega arith))));
        rooms = record {
          free = omega (arith, rooms.free, ap (λ p. p.1) frees, n);
          active = omega (arith, rooms.active, ap (λ p. p.1) actives, n);
          inactive = omega (arith, rooms.inactive, ap (λ p. p.1) inactives, n);
          waiting = omega (arith, rooms.waiting, ap (λ p. p.1) waitings, n);
        };
      }

pub returns-clause-account : goal.returns-clause-account
returns-clause-account c =
    let a : SegmentAccountant = c.reserve.new.self in
    let size : ℕ = c.args.self.now.size in
    let is : IsAccountant size a = c.reserve.ensures.account c.requires.account in
    let states : (machine_of a).slots ≡ (machine_of c.args.self.now).slots = ap (λ (v : Vec Slot Global). map slot_state v.items) c.reserve.ensures.slots in
    let count : length (machine_of a).slots ≡ length (machine_of c.args.self.now).slots = ap length states in
    let same : length (machine_of c.args.self.now).slots ≡ c.len-count.result = length_states c.args.self.now.slots.items ∙ sym c.args.self.now.slots.ok.0 ∙ sym c.len-count.ensures in
    let lt : vec_len c.reserve-2.new.self < vec_capacity c.reserve-2.new.self = omega (arith, c.in_ok-reserve-2.ensures.ok) in
    let items : c.push.new.self.items ≡ a.slots.items ++ c.new.result ∷ [] =
    c.push.ensures.items ∙ ap (λ (b : Bool). if b then c.reserve-2.new.self.items ++ c.new.result ∷ [] else c.reserve-2.new.self.items) (c.push.ensures.succeeds lt)
    ∙ ap (λ (l : List Slot). l ++ c.new.result ∷ []) c.in_ok-reserve-2.ensures.items in
    pushed_account size a is c.new.result c.new.ensures.state c.new.ensures.room _ items refl refl refl refl refl refl refl
    (subst (λ n. (n + 1) * size < 2 ^ 63) (sym count) c.requires.in_reach) (subst (λ n. HasRooms n a) (sym (ap (λ n. n + 1) (count ∙ same))) c.in_ok-reserve.ensures.room)
    (subst (λ n. HasRoomToClean n a.cleaner) (sym (ap (λ n. n + 1) (count ∙ same))) c.in_ok-reserve.ensures.cleaner)
