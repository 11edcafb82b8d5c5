-- A message is marked: the slots have the segments that they had, so the log holds what it held; and it fits the history with the others unmarked.
use Rattle.std.proofs.Common.{◌≡◌, ◌≢◌, ◌∙◌, ◌+◌, ◌%◌, ℕ, pos, false, List, [], length, Option, refl, sym, ap, subst, arith}
use Rattle.std.specs.declared.io.Error.{Error as IoError}
use Rattle.std.proofs.lemmas.List.Elements.{All-contains}
use Rattle.sled_codec.specs.History.{History, Message}
use Rattle.sled_store.specs.Device.{Trace, state_of}
use Rattle.sled_store.specs.SegmentStates.{Machine, SlotState, is_free, slot_at}
use Rattle.sled_store.specs.declared.config.RunningConfig.{RunningConfig}
use Rattle.sled_store.specs.Tracked.{at}
use Rattle.sled_store.proofs.Marks.MarkSteps.{IsSameSegment, SameSegments, same_segment}
use Rattle.sled_store.proofs.Marks.NothingDue.{none_same}
use Rattle.sled_store.proofs.Segments.Elements.{all_from_in}
use Rattle.sled_core.specs.Logged.{logged}
use Rattle.sled_core.specs.Begun.{SegmentView, line_in}
use Rattle.sled_core.specs.declared.logger.Log.{Log}
use Rattle.sled_core.specs.Fits.{device_of, fault_of, line_of, machine_at, noted_in, pins_of, segment_size_of, synced_end}
use Rattle.sled_core.specs.Keeps.{GoesOn, Preserves}
use Rattle.sled_core.specs.Marking.{ChangesAccount}
use Rattle.sled_core.specs.OpenBatches.{not_whole}
use Rattle.sled_core.specs.inside.FreeSlots.{HasSlot, HasSlots}
use Rattle.sled_core.specs.inside.Slots.{AreWhole, HasAccount}
use Rattle.sled_core.specs.invariants.Fits.{Holds}
use Rattle.sled_core.specs.invariants.Running.{Fits}
use Rattle.sled_core.proofs.Cleared.Calls.{cleared_marked}
use Rattle.sled_core.proofs.Cleared.Shown.{ShowsSame}
use Rattle.sled_core.proofs.Holds.RunningLemmas.{fits-pinned}
use Rattle.sled_core.proofs.Line.KeptCalls.{goes_on_quietly}
use Rattle.sled_core.proofs.Line.LineEnds.{noted_still}
use Rattle.sled_core.proofs.Numbers.HidesAs.{from_as}
use Rattle.sled_core.proofs.Line.Moves.{fits_as, holds_as}
use Rattle.sled_core.proofs.Numbers.Stay.{numbers_marked, slots_marked}
use Rattle.sled_core.proofs.Reached.WholeSegments.{whole_at}
use Rattle.sled_core.proofs.Line.Accounts.{account_popped}

module _ (size : ℕ) (m n : Machine) (same : SameSegments m.slots n.slots) where
  -- The slot of a segment still has it,
  slot_same : (v : SegmentView) → HasSlot size m v → HasSlot size n v
  slot_same v has = record { number = has.number; lies = has.lies; taken = (same has.number).free ∙ has.taken; is = (same has.number).lsn ∙ has.is }

  -- one that isn't free wasn't,
  taken_before : (k : ℕ) → is_free (slot_at n k).state ≡ false → is_free (slot_at m k).state ≡ false
  taken_before k taken = sym (same k).free ∙ taken

  -- so all slots have what they had,
  pub slots_same : (line : List SegmentView) (log : List ℕ) (fault : Option IoError) → HasSlots size line log fault m → HasSlots size line log fault n
  slots_same line log fault has = record {
    taken = all_from_in (HasSlot size n) line (λ v there. slot_same v (All-contains (HasSlot size m) line v has.taken there));
    zeros = λ none k free. has.zeros none k (sym (same k).free ∙ free);
    own = record {
      aligned = λ k taken. ap (λ (p : ℕ). p % size) (same k).lsn ∙ has.own.aligned k (taken_before k taken);
      below = λ k taken. let is = (same k).lsn in let low = has.own.below k (taken_before k taken) in omega (arith, is, low);
      one = λ j k taken_j taken_k is. has.own.one j k (taken_before j taken_j) (taken_before k taken_k) (sym (same j).lsn ∙ is ∙ (same k).lsn);
    };
  }

  -- and those that were whole are.
  pub whole_same : (sum : List ℕ → ℕ) (log : List ℕ) (H : History) (below : ℕ) → AreWhole sum size log H below m → AreWhole sum size log H below n
  whole_same sum log H below are k taken ends =
      let is = (same k).lsn in
      whole_at sum size log H refl is (are k (taken_before k taken) (omega (arith, is, ends)))

module _ {D C : Type 0} (trace : D → Trace) (sum : List ℕ → ℕ) (old new : Log D C) (rest : ChangesAccount old new) where
  -- All that is seen of the log but its slots is as it was.
  line_same : line_of new ≡ line_of old
  line_same = ap (λ x. line_in x) rest.segments

  fault_same : fault_of new ≡ fault_of old
  fault_same = ap (λ x. x.kept) rest.fault

  synced_same : synced_end new ≡ synced_end old
  synced_same = ap (λ x. x.first.site.place + x.first.buffer.written_len) rest.segments

  noted_same : noted_in new ≡ noted_in old
  noted_same = search (rest.segments, rest.batches)

  -- It goes on.
  pub goes_on_marked : GoesOn trace sum old new
  goes_on_marked =
      goes_on_quietly trace sum old new (record { config = ap (λ (c : RunningConfig D C). c.config) rest.config; checksum = ap (λ (c : RunningConfig D C). c.checksum) rest.config })
      (ap (λ (c : RunningConfig D C). trace c.device) rest.config) (let same = synced_same in omega (arith, same)) (λ none. sym fault_same ∙ none)

  module _ (m : Machine) (is : machine_at new ≡ m) (same : SameSegments (machine_at old).slots m.slots) where
    -- The same counts for nothing in the log file.
    same_shown : ShowsSame (segment_size_of old) (machine_at old) m (line_of old) (line_of old)
    same_shown log = cleared_marked (segment_size_of old) (machine_at old) log m (line_of old) same

    -- It holds what it held,
    pub holds_marked : (H : History) → Holds trace sum old H → Holds trace sum new H
    unfolding Holds
    holds_marked H holds =
        holds_as trace sum old new rest.config fault_same rest.marks (noted_in old) noted_same (line_of old) line_same m is same_shown holds.rests H (record {
          holds = holds.shows.holds;
          batches = holds.shows.batches;
          slots = slots_same (segment_size_of old) (machine_at old) m same (line_of old) _ (fault_of old) holds.shows.slots;
        })

    -- and fits the history with these messages unmarked, of which it has the account.
    pub fits_marked : (H : History) (A f : ℕ) (U V : List Message) → Fits trace sum old H A f U → (V ≢ [] → U ≢ [])
        → HasAccount sum old.marks (segment_size_of old) (state_of (trace (device_of old))).snapshots.file H V m → Fits trace sum new H A f V
    unfolding Fits
    fits_marked H A f U V fits fewer account =
        fits_as trace sum old new rest.config fault_same rest.marks (noted_in old) noted_same (line_of old) line_same m is same_shown fits.rests H A f V
        rest.pins
        (λ none zeros. from_as sum (segment_size_of old) (state_of (trace (device_of old))) (machine_at old) m
        (line_of old) (line_of old) (logged H) (λ k. (same k).free) (λ k. (same k).lsn)
        (same_shown (state_of (trace (device_of old))).log.bytes) (omega arith) (fits.hides none zeros)) fits.marked fits.passed
        (λ none low. let its = fits.clean none low in (its.0, none_same (segment_size_of old) (pos f) (machine_at old) m same its.1))
        (record {
          reach = fits.shows.reach;
          parts = fits-pinned _ _ _ _ _ _ _ _ _ _ H A f U fits.shows.parts (pins_of old) V (λ some. fits.shows.parts.pinned (fewer some));
          batches = fits.shows.batches;
          slots = slots_same (segment_size_of old) (machine_at old) m same (line_of old) _ (fault_of old) fits.shows.slots;
          whole = λ none zeros. whole_same (segment_size_of old) (machine_at old) m same sum _ _ _ (fits.shows.whole none zeros);
          own = fits.shows.own;
          account = account;
          numbers = λ zeros. numbers_marked sum (segment_size_of old) (machine_at old) m same _ _ (fits.shows.numbers zeros);
          in_slots = λ first begins. slots_marked sum (segment_size_of old) (machine_at old) m same _ H _ (fits.shows.in_slots first begins);
        })

-- A page was asked for: that changes nothing of the slots.
pub popped_keeps : {D C : Type 0} (trace : D → Trace) (sum : List ℕ → ℕ) (old new : Log D C) → ChangesAccount old new → (machine_at new).slots ≡ (machine_at old).slots
    → (machine_at new).tip ≡ (machine_at old).tip → Preserves trace sum old new
unfolding Fits
popped_keeps trace sum old new rest slots tip =
    let same : SameSegments (machine_at old).slots (machine_at new).slots = λ j. subst (λ (ss : List SlotState). IsSameSegment (slot_at (machine_at old) j) (at ss j)) (sym slots) (same_segment (slot_at (machine_at old) j)) in
    record {
      goes_on = goes_on_marked trace sum old new rest;
      history = holds_marked trace sum old new rest (machine_at new) refl same;
      fits = λ H A f U fits. fits_marked trace sum old new rest (machine_at new) refl same H A f U U fits (λ some. some) (account_popped sum (segment_size_of old) _ H U (machine_at old) fits.shows.account (machine_at new) slots tip);
      noted = noted_same trace sum old new rest ∙ noted_still old ∙ ap (λ n. not_whole n (noted_in old)) (sym (synced_same trace sum old new rest));
      kept = let same_kept = ap (λ x. length x.noted.items) rest.batches in omega (arith, same_kept);
    }
