-- What a snapshot has in the slots of a file is taken over, and the indexes are those of these slots.
use Rattle.std.proofs.Common.{◌≡◌, ◌∙◌, ◌<◌, ◌*◌, ◌^◌, ℕ, List, [], length, map, take, IfSome, sym, ap, subst, arith, take_all}
use Rattle.std.proofs.lemmas.List.FromFn.{length-map-range_with_len}
use Rattle.std.specs.BTreeMap.{get}
use Rattle.std.specs.List.{All, range_with_len}
use Rattle.std.specs.Ordering.{nat_cmp}
use Rattle.sled_codec.specs.Snapshots.{Page, SnapshotModel, model_of, page_of}
use Rattle.sled_store.specs.declared.segment.slot.Slot.{Slot}
use Rattle.sled_store.specs.declared.segment.slot_table.SlotTable.{SlotTable}
use Rattle.sled_store.specs.declared.segment.accountant.SegmentAccountant.{SegmentAccountant}
use Rattle.sled_store.specs.Begin.{entries_of, slot_of}
use Rattle.sled_store.specs.SegmentStates.{Machine, SlotState, unused_machine, waiting_among, free_among}
use Rattle.sled_store.specs.Accounts.{slot_state, machine_of, cleaner_of, IsAccountant, AreSlots, AreEntries, HasRooms, HasRoomToDrain, HasRoomToClean}
use Rattle.sled_store.specs.Started.{found}
use Rattle.sled_store.specs.inside.Starting.{begun_slot, pages_linked, FillsSlots, AreNoted}
use Rattle.sled_store.proofs.Accounts.AccountLemmas.{more_entries, length_states}
use Rattle.sled_store.proofs.Accounts.StartSlots.{table_in_reach, linked_found, found_slots, found_waiting}
use Rattle.sled_store.proofs.segment.accountant.SegmentAccountant.find.Goals as goal

-- an accountant that was just reserved, and what it is to take over
module _ (size slots : ℕ) (s : SnapshotModel) (t : SlotTable) (fills : FillsSlots size slots s t) where
  count_found : (other : ℕ) (items : List Slot) → map slot_state items ≡ map (λ k. begun_slot other s.active k (get nat_cmp t.held k)) (range_with_len 0 slots) → length items ≡ slots
  count_found other items is = sym (length_states items) ∙ ap length is ∙ length-map-range_with_len (λ k. begun_slot other s.active k (get nat_cmp t.held k)) 0 slots

  states_found : (other : ℕ) (items : List Slot) (ps : List Page) (first : List SlotState) → other ≡ size → ps ≡ s.pages → first ≡ map (λ k. begun_slot other s.active k (get nat_cmp t.held k)) (range_with_len 0 slots)
      → map slot_state items ≡ pages_linked other 0 ps first → map slot_state items ≡ (found size slots s).slots
  states_found other items ps first same pages begins is =
      is ∙ ap (pages_linked other 0 ps) begins ∙ ap (λ (l : List Page). pages_linked other 0 l (map (λ k. begun_slot other s.active k (get nat_cmp t.held k)) (range_with_len 0 slots))) pages
      ∙ ap (λ n. pages_linked n 0 s.pages (map (λ k. begun_slot n s.active k (get nat_cmp t.held k)) (range_with_len 0 slots))) same ∙ linked_found size slots s t fills

  -- the accountant before, and the one that is left
  module _ (a b : SegmentAccountant) (was : IsAccountant size a) (unused : machine_of a ≡ unused_machine) (states : (machine_of b).slots ≡ (found size slots s).slots) (tip : b.tip ≡ slots) (cleaner : b.cleaner ≡ a.cleaner) where
    no_cleaner : cleaner_of a.cleaner ≡ []
    no_cleaner = ap (λ (m : Machine). m.cleaner) unused

    machine_found : machine_of b ≡ found size slots s
    machine_found =
        ap (λ (l : List SlotState). record { slots = l; tip = b.tip; cleaner = cleaner_of b.cleaner }) states ∙ ap (λ n. record { slots = (found size slots s).slots; tip = n; cleaner = cleaner_of b.cleaner }) tip
        ∙ ap (λ (l : List (ℕ × List ℕ)). record { slots = (found size slots s).slots; tip = slots; cleaner = l }) (ap cleaner_of cleaner ∙ no_cleaner)

    none_before : (machine_of a).slots ≡ []
    none_before = ap (λ (m : Machine). m.slots) unused

    count : length (machine_of b).slots ≡ slots
    count = ap length states ∙ length-map-range_with_len _ 0 slots

    account_found : b.size ≡ a.size → b.waiting ≡ a.waiting → AreNoted (machine_of b).slots b.free.0 b.active.0 b.inactive.0 → All HasRoomToDrain b.slots.items → HasRooms slots b → HasRoomToClean slots a.cleaner → IsAccountant size b
    account_found sizes waits noted drain rooms to_clean =
        let xs : List SlotState = (machine_of b).slots in
        let all : take b.tip xs ≡ xs = take_all b.tip xs (omega (arith, count, tip)) in
        record {
          size_is = sizes ∙ was.size_is;
          some = was.some;
          small = was.small;
          in_reach = subst (λ n. n * size < 2 ^ 63) (sym count) fills.in_reach;
          slots = subst (AreSlots b.tip) (sym states) (subst (λ n. AreSlots n (found size slots s).slots) (sym tip) (found_slots size slots s t fills));
          indexes = record {
            free_is = noted.free_is ∙ ap free_among (sym all);
            active_is = noted.active_is;
            inactive_is = noted.inactive_is;
            waiting_is = ap (λ w. w.0) waits ∙ was.indexes.waiting_is ∙ ap waiting_among none_before ∙ sym (found_waiting size slots s t fills) ∙ ap waiting_among (sym states);
          };
          cleaner = record {
            size_is = ap (λ k. k.size) cleaner ∙ was.cleaner.size_is;
            entries = subst (λ k. AreEntries (length xs) (cleaner_of k)) (sym cleaner) (more_entries (length (machine_of a).slots) (length xs) (cleaner_of a.cleaner) (omega (arith, ap length none_before)) was.cleaner.entries);
            room = subst (λ k. HasRoomToClean (length xs) k) (sym cleaner) (subst (λ n. HasRoomToClean n a.cleaner) (sym count) to_clean);
          };
          room_to_drain = drain;
          rooms = subst (λ n. HasRooms n b) (sym count) rooms;
        }

pub begun_slots-requires-clause-in_reach : goal.begun_slots-requires-clause-in_reach
begun_slots-requires-clause-in_reach c =
    let same = (c.reserve.ensures.account c.requires.account).size_is in
    subst (λ (n : ℕ). (k : ℕ) → IfSome {T = ℕ × ℕ} (get nat_cmp c.args.table.now.held k) (λ v. v.0 * n < 2 ^ 63)) (sym same) (table_in_reach c.args.self.now.size c.args.slots (model_of c.args.snapshot.now) c.args.table.now c.requires.fills)

pub link_pages-requires-clause-placed : goal.link_pages-requires-clause-placed
link_pages-requires-clause-placed c =
    let s : SnapshotModel = model_of c.args.snapshot.now in
    let same = (c.reserve.ensures.account c.requires.account).size_is in
    let count : length c.in_ok-found.found.items ≡ c.args.slots = count_found c.args.self.now.size c.args.slots s c.args.table.now c.requires.fills c.reserve.new.self.size c.in_ok-found.found.items c.in_ok-found.ensures.slots in
    let pages : map page_of c.deref.result.now ≡ s.pages = ap (map page_of) c.deref.ensures.value in
    subst (λ (ps : List Page). All (λ e. slot_of c.reserve.new.self.size e < length c.in_ok-found.found.items) (entries_of ps)) (sym pages)
    (subst (λ n. All (λ e. slot_of c.reserve.new.self.size e < n) (entries_of s.pages)) (sym count)
    (subst (λ n. All (λ e. slot_of n e < c.args.slots) (entries_of s.pages)) (sym same) (λ k d lt. (c.requires.fills.placed k d lt).slot)))

-- as many slots as were reserved
room_for : (size slots : ℕ) (items : List Slot) (s : SnapshotModel) → map slot_state items ≡ (found size slots s).slots → length items ≡ slots
room_for size slots items s is = sym (length_states items) ∙ ap length is ∙ length-map-range_with_len _ 0 slots

pub note_all-requires-clause-room : goal.note_all-requires-clause-room
note_all-requires-clause-room c =
    let s : SnapshotModel = model_of c.args.snapshot.now in
    let size : ℕ = c.args.self.now.size in
    let same = (c.reserve.ensures.account c.requires.account).size_is in
    let states = states_found size c.args.slots s c.args.table.now c.requires.fills c.reserve.new.self.size c.link_pages.new.slots.items _ _ same (ap (map page_of) c.deref.ensures.value) c.in_ok-found.ensures.slots c.in_ok-link_pages.ensures.slots in
    let rooms = c.in_ok-reserve.ensures.room in
    subst (λ n. HasRooms n (record c.reserve.new.self { slots = c.link_pages.new.slots; tip = c.args.slots })) (sym (room_for size c.args.slots c.link_pages.new.slots.items s states))
    (record { free = rooms.free; active = rooms.active; inactive = rooms.inactive; waiting = rooms.waiting })

pub returns-clause-machine : goal.returns-clause-machine
returns-clause-machine c =
    let s : SnapshotModel = model_of c.args.snapshot.now in
    let size : ℕ = c.args.self.now.size in
    let was = c.reserve.ensures.account c.requires.account in
    let states = states_found size c.args.slots s c.args.table.now c.requires.fills c.reserve.new.self.size c.link_pages.new.slots.items _ _ was.size_is (ap (map page_of) c.deref.ensures.value) c.in_ok-found.ensures.slots c.in_ok-link_pages.ensures.slots in
    let rest = c.note_all.ensures.rest in
    machine_found size c.args.slots s c.args.table.now c.requires.fills c.reserve.new.self c.note_all.new.self was (c.reserve.ensures.machine ∙ c.requires.unused) (ap (λ (b : SegmentAccountant). (machine_of b).slots) rest ∙ states) (ap (λ (b : SegmentAccountant). b.tip) rest) (ap (λ (b : SegmentAccountant). b.cleaner) rest)

pub returns-clause-account : goal.returns-clause-account
returns-clause-account c =
    let s : SnapshotModel = model_of c.args.snapshot.now in
    let size : ℕ = c.args.self.now.size in
    let was = c.reserve.ensures.account c.requires.account in
    let states = states_found size c.args.slots s c.args.table.now c.requires.fills c.reserve.new.self.size c.link_pages.new.slots.items _ _ was.size_is (ap (map page_of) c.deref.ensures.value) c.in_ok-found.ensures.slots c.in_ok-link_pages.ensures.slots in
    let rest = c.note_all.ensures.rest in
    let b : SegmentAccountant = c.note_all.new.self in
    let slots_is = ap (λ (x : SegmentAccountant). (machine_of x).slots) rest in
    account_found size c.args.slots s c.args.table.now c.requires.fills c.reserve.new.self b was (c.reserve.ensures.machine ∙ c.requires.unused) (slots_is ∙ states) (ap (λ (x : SegmentAccountant). x.tip) rest) (ap (λ (x : SegmentAccountant). x.cleaner) rest)
    (ap (λ (x : SegmentAccountant). x.size) rest) (ap (λ (x : SegmentAccountant). x.waiting) rest) (subst (λ (l : List SlotState). AreNoted l b.free.0 b.active.0 b.inactive.0) (sym slots_is) c.note_all.ensures.noted)
    (subst (λ (x : SegmentAccountant). All HasRoomToDrain x.slots.items) (sym rest) c.in_ok-link_pages.ensures.room)
    (subst (λ n. HasRooms n b) (room_for size c.args.slots c.link_pages.new.slots.items s states) c.note_all.ensures.room) c.in_ok-reserve.ensures.cleaner
