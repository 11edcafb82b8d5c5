-- The slots of an accountant, as the machine has them.
use Rattle.std.proofs.Common.{◌≡◌, ◌∙◌, ◌≤◌, ◌<◌, ◌*◌, ◌^◌, ℕ, zero, suc, List, [], ◌∷◌, length, get_or, set, map, take, Vec, refl, sym, ap, subst, arith, length-set}
use Rattle.std.proofs.lemmas.List.{map-set, length-map}
use Rattle.std.proofs.lemmas.List.Elements.{All-set}
use Rattle.std.proofs.Math.Nat.{mul-le-mul_right}
use Rattle.std.specs.List.{All}
use Rattle.sled_store.specs.SegmentStates.{SlotState, free_among, active_among, inactive_among, waiting_among}
use Rattle.sled_store.specs.declared.segment.slot.Slot.{Slot}
use Rattle.sled_store.specs.Accounts.{slot_state, cleaner_of, machine_of, AreEntries, AreSlots, AreIndexes, IsCleaner, IsAccountant, HasRoomToDrain, HasRoomToClean}
use Rattle.sled_store.specs.declared.segment.accountant.SegmentAccountant.{SegmentAccountant}
use Rattle.std.specs.declared.alloc.Global.{Global}

pub state_at : (xs : List Slot) (k : ℕ) (d : Slot) (b : SlotState) → k < length xs → get_or (map slot_state xs) k b ≡ slot_state (get_or xs k d)
state_at [] k d b lt = absurd (omega arith)
state_at (x ∷ xs) zero d b lt = refl
state_at (x ∷ xs) (suc k) d b lt = state_at xs k d b (omega arith)

pub states_set : (xs : List Slot) (k : ℕ) (s : Slot) (t : SlotState) → slot_state s ≡ t → map slot_state (set xs k s) ≡ set (map slot_state xs) k t
states_set xs k s t is = map-set slot_state xs k s ∙ ap (set (map slot_state xs) k) is

pub length_states : (xs : List Slot) → length (map slot_state xs) ≡ length xs
length_states xs = length-map xs slot_state

-- a slot begins in reach if all slots end there
pub slot_in_reach : (size count k : ℕ) → k < count → count * size < 2 ^ 63 → k * size < 2 ^ 63
slot_in_reach size count k lt reach =
    let less : k ≤ count = omega arith in
    omega (arith, mul-le-mul_right size less)

-- the same lists, and as much room at least
pub record IsRoomier (a b : SegmentAccountant) : Type 0 where
  pub size : b.size ≡ a.size
  pub tip : b.tip ≡ a.tip
  pub slots : b.slots ≡ a.slots
  pub free : b.free.0 ≡ a.free.0
  pub active : b.active.0 ≡ a.active.0
  pub inactive : b.inactive.0 ≡ a.inactive.0
  pub waiting : b.waiting.0 ≡ a.waiting.0
  pub cleaner : cleaner_of b.cleaner ≡ cleaner_of a.cleaner
  pub cleaner_size : b.cleaner.size ≡ a.cleaner.size
  pub room_free : a.free.1 ≤ b.free.1
  pub room_active : a.active.1 ≤ b.active.1
  pub room_inactive : a.inactive.1 ≤ b.inactive.1
  pub room_waiting : a.waiting.1 ≤ b.waiting.1
  pub room_cleaner : (n : ℕ) → HasRoomToClean n a.cleaner → HasRoomToClean n b.cleaner

pub roomier_account : (size : ℕ) (a b : SegmentAccountant) → IsRoomier a b → IsAccountant size a → IsAccountant size b
roomier_account size a b more is =
    let same : (machine_of b).slots ≡ (machine_of a).slots = ap (λ (v : Vec Slot Global). map slot_state v.items) more.slots in
    record {
      size_is = more.size ∙ is.size_is;
      some = is.some;
      small = is.small;
      in_reach = subst (λ (l : List SlotState). length l * size < 2 ^ 63) (sym same) is.in_reach;
      slots = subst (AreSlots b.tip) (sym same) (subst (λ n. AreSlots n (machine_of a).slots) (sym more.tip) is.slots);
      indexes = record {
        free_is = more.free ∙ is.indexes.free_is ∙ ap (λ n. free_among (take n (machine_of a).slots)) (sym more.tip) ∙ ap (λ l. free_among (take b.tip l)) (sym same);
        active_is = more.active ∙ is.indexes.active_is ∙ ap active_among (sym same);
        inactive_is = more.inactive ∙ is.indexes.inactive_is ∙ ap inactive_among (sym same);
        waiting_is = more.waiting ∙ is.indexes.waiting_is ∙ ap waiting_among (sym same);
      };
      cleaner = record {
        size_is = more.cleaner_size ∙ is.cleaner.size_is;
        entries = subst (λ n. AreEntries n (cleaner_of b.cleaner)) (sym (ap length same)) (subst (AreEntries (length (machine_of a).slots)) (sym more.cleaner) is.cleaner.entries);
        room = subst (λ n. HasRoomToClean n b.cleaner) (sym (ap length same)) (more.room_cleaner (length (machine_of a).slots) is.cleaner.room);
      };
      room_to_drain = subst (λ (v : Vec Slot Global). All HasRoomToDrain v.items) (sym more.slots) is.room_to_drain;
      rooms =
          let n : length (machine_of b).slots ≡ length (machine_of a).slots = ap length same in
          record {
            free = omega (arith, is.rooms.free, more.room_free);
            active = omega (arith, is.rooms.active, more.room_active);
            inactive = omega (arith, is.rooms.inactive, more.room_inactive);
            waiting = omega (arith, is.rooms.waiting, more.room_waiting);
          };
    }

-- one slot changed, and no room is less than it was
pub record IsUpdated (size : ℕ) (a b : SegmentAccountant) (k : ℕ) (s : Slot) (t : SlotState) : Type 0 where
  pub size_is : b.size ≡ a.size
  pub items : b.slots.items ≡ set a.slots.items k s
  pub state : slot_state s ≡ t
  pub drain : HasRoomToDrain s
  pub slots : AreSlots b.tip (set (machine_of a).slots k t)
  pub indexes : AreIndexes b.tip (set (machine_of a).slots k t) b.free.0 b.active.0 b.inactive.0 b.waiting.0
  pub cleaner : IsCleaner size (length (machine_of a).slots) b.cleaner
  pub room_free : a.free.1 ≤ b.free.1
  pub room_active : a.active.1 ≤ b.active.1
  pub room_inactive : a.inactive.1 ≤ b.inactive.1
  pub room_waiting : a.waiting.1 ≤ b.waiting.1

module _ (size : ℕ) (a b : SegmentAccountant) (k : ℕ) (s : Slot) (t : SlotState) (new : IsUpdated size a b k s t) where
  pub updated_states : (machine_of b).slots ≡ set (machine_of a).slots k t
  updated_states = ap (map slot_state) new.items ∙ states_set a.slots.items k s t new.state

  pub updated_account : IsAccountant size a → IsAccountant size b
  updated_account is =
      let same : (machine_of b).slots ≡ set (machine_of a).slots k t = updated_states in
      let n : length (machine_of b).slots ≡ length (machine_of a).slots = ap length same ∙ length-set (machine_of a).slots k t in
      record {
        size_is = new.size_is ∙ is.size_is;
        some = is.some;
        small = is.small;
        in_reach = subst (λ m. m * size < 2 ^ 63) (sym n) is.in_reach;
        slots = subst (AreSlots b.tip) (sym same) new.slots;
        indexes = subst (λ l. AreIndexes b.tip l b.free.0 b.active.0 b.inactive.0 b.waiting.0) (sym same) new.indexes;
        cleaner = subst (λ m. IsCleaner size m b.cleaner) (sym n) new.cleaner;
        room_to_drain = subst (All HasRoomToDrain) (sym new.items) (All-set HasRoomToDrain a.slots.items k s new.drain is.room_to_drain);
        rooms = record {
          free = omega (arith, is.rooms.free, new.room_free);
          active = omega (arith, is.rooms.active, new.room_active);
          inactive = omega (arith, is.rooms.inactive, new.room_inactive);
          waiting = omega (arith, is.rooms.waiting, new.room_waiting);
        };
      }

-- slots below a number are below a greater one
pub more_entries : (m n : ℕ) (es : List (ℕ × List ℕ)) → m ≤ n → AreEntries m es → AreEntries n es
more_entries m n es le are = record { ascending = are.ascending; below = λ k d lt. omega (arith, are.below k d lt) }
