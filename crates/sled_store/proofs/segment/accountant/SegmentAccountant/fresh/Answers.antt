-- Nothing was handed out, so each list is empty.
use Rattle.std.proofs.Common.{◌≡◌, ◌<◌, ◌*◌, ◌^◌, ℕ, [], length, map, refl, sym, ap, subst, arith}
use Rattle.std.specs.List.{All}
use Rattle.sled_store.specs.declared.segment.accountant.SegmentAccountant.{SegmentAccountant}
use Rattle.sled_store.specs.Accounts.{slot_state, machine_of, AreSlots, AreIndexes, IsCleaner, IsAccountant, HasRooms, HasRoomToDrain}
use Rattle.sled_store.proofs.segment.accountant.SegmentAccountant.fresh.Goals as goal

none_slots : AreSlots 0 []
none_slots = record { within = omega arith; cut_off = λ k from. refl; free_slots = λ k is. refl; places = λ k. omega arith }

-- an accountant with no lists
record IsBare (size : ℕ) (a : SegmentAccountant) : Type 0 where
  size_is : a.size ≡ size
  slots : a.slots.items ≡ []
  tip : a.tip ≡ 0
  free : a.free.0 ≡ []
  active : a.active.0 ≡ []
  inactive : a.inactive.0 ≡ []
  waiting : a.waiting.0 ≡ []
  cleaner : IsCleaner size 0 a.cleaner

bare_account : (size : ℕ) (a : SegmentAccountant) → IsBare size a → 0 < size → size < 2 ^ 32 → IsAccountant size a
bare_account size a bare some small =
    let none : (machine_of a).slots ≡ [] = ap (map slot_state) bare.slots in
    let count : length (machine_of a).slots ≡ 0 = ap length none in
    record {
      size_is = bare.size_is;
      some = some;
      small = small;
      in_reach = subst (λ n. n * size < 2 ^ 63) (sym count) (omega arith);
      slots = subst (λ n. AreSlots n (machine_of a).slots) (sym bare.tip) (subst (AreSlots 0) (sym none) none_slots);
      indexes = subst (λ n. AreIndexes n (machine_of a).slots a.free.0 a.active.0 a.inactive.0 a.waiting.0) (sym bare.tip) (subst (λ l. AreIndexes 0 l a.free.0 a.active.0 a.inactive.0 a.waiting.0) (sym none)
          (record { free_is = bare.free; active_is = bare.active; inactive_is = bare.inactive; waiting_is = bare.waiting }));
      cleaner = subst (λ n. IsCleaner size n a.cleaner) (sym count) bare.cleaner;
      room_to_drain = subst (All HasRoomToDrain) (sym bare.slots) (λ k d lt. absurd (omega arith));
      rooms = subst (λ n. HasRooms n a) (sym count) (record { free = omega arith; active = omega arith; inactive = omega arith; waiting = omega arith });
    }

pub returns-clause-machine : goal.returns-clause-machine
returns-clause-machine g c = let slots = ap (map slot_state) c.new.ensures.items in let cleaner = c.new-6.ensures.cleaner in cc

pub returns-clause-account : goal.returns-clause-account
returns-clause-account g c = bare_account _ _ (record {
  size_is = refl;
  slots = c.new.ensures.items;
  tip = refl;
  free = c.new-2.ensures.keys;
  active = c.new-3.ensures.keys;
  inactive = c.new-4.ensures;
  waiting = c.new-5.ensures.keys;
  cleaner = c.new-6.ensures.tie;
}) (omega (arith, c.args.config.now.config.least)) (omega (arith, c.args.config.now.config.most))
