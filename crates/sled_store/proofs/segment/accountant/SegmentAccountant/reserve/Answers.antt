-- No list changes, and no room is less than it was.
use Rattle.std.proofs.Common.{refl}
use Rattle.sled_store.proofs.Accounts.AccountLemmas.{roomier_account}
use Rattle.sled_store.proofs.segment.accountant.SegmentAccountant.reserve.Goals as goal

pub returns-in_err-reserve-5-clause-account : goal.returns-in_err-reserve-5-clause-account
returns-in_err-reserve-5-clause-account c = roomier_account _ _ _ (record {
  size = refl;
  tip = refl;
  slots = refl;
  free = c.reserve.ensures.keys;
  active = c.reserve-2.ensures.keys;
  inactive = c.reserve-3.ensures.keys;
  waiting = c.reserve-4.ensures.keys;
  cleaner = c.reserve-5.ensures.cleaner;
  cleaner_size = c.reserve-5.ensures.size;
  room_free = c.reserve.ensures.kept;
  room_active = c.reserve-2.ensures.kept;
  room_inactive = c.reserve-3.ensures.kept;
  room_waiting = c.reserve-4.ensures.kept;
  room_cleaner = c.reserve-5.ensures.kept;
})

pub returns-clause-account : goal.returns-clause-account
returns-clause-account c = roomier_account _ _ _ (record {
  size = refl;
  tip = refl;
  slots = refl;
  free = c.reserve.ensures.keys;
  active = c.reserve-2.ensures.keys;
  inactive = c.reserve-3.ensures.keys;
  waiting = c.reserve-4.ensures.keys;
  cleaner = c.reserve-5.ensures.cleaner;
  cleaner_size = c.reserve-5.ensures.size;
  room_free = c.reserve.ensures.kept;
  room_active = c.reserve-2.ensures.kept;
  room_inactive = c.reserve-3.ensures.kept;
  room_waiting = c.reserve-4.ensures.kept;
  room_cleaner = c.reserve-5.ensures.kept;
})
