-- A message of a history that isn't marked yet may be marked, in place of what its page is made of: its segment is active, and each of those lies in a segment.
use Rattle.std.proofs.Common.{◌≡◌, ℕ, max, true, false, not, List, [], sym, subst, arith, refl}
use Rattle.std.specs.List.{All, Contains}
use Rattle.std.proofs.lemmas.Bool.{false≢true}
use Rattle.std.proofs.lemmas.List.Elements.{All-nil}
use Rattle.sled_codec.specs.History.{History, Message, table}
use Rattle.sled_store.specs.Device.{Trace}
use Rattle.sled_store.specs.Marks.{IsFormerList, info_of, slot_with}
use Rattle.sled_store.specs.SegmentStates.{LiesIn, Machine, MayMark, is_active, is_free, slot_at}
use Rattle.sled_store.specs.Tracked.{IsAccountOf, IsHeld}
use Rattle.sled_store.specs.declared.segment.slot.CacheInfo.{CacheInfo}
use Rattle.sled_store.specs.declared.segment.slot.State.{State}
use Rattle.sled_store.specs.declared.segment.slot.State.TheVariants.{Active, Draining, Free, Inactive}
use Rattle.sled_store.specs.inside.Outdated.{IsInActive}
use Rattle.sled_store.proofs.Histories.Ascending.{Ascends, filter_ascends}
use Rattle.sled_store.proofs.Marks.AccountSteps.{entry_in_slot, past_table}
use Rattle.sled_store.proofs.Marks.FormerLists.{former_lies}
use Rattle.sled_store.proofs.Marks.SlotLemmas.{taken_there}
use Rattle.sled_store.proofs.Marks.TableLemmas.{apart_ascends}
use Rattle.sled_store.proofs.Segments.Elements.{all_from_in}
use Rattle.sled_core.specs.declared.logger.Log.{Log}
use Rattle.sled_core.specs.Fits.{machine_at, segment_size_of}
use Rattle.sled_core.specs.Unmarked.{is_among, without}
use Rattle.sled_core.specs.invariants.Running.{Fits}
use Rattle.sled_core.proofs.Holds.ReachLemmas.{fits_apart}

-- an active slot isn't free
taken : (st : State) → is_active st ≡ true → is_free st ≡ false
taken Free is = absurd (false≢true is)
taken Active is = refl
taken Inactive is = refl
taken Draining is = refl

module _ (size : ℕ) (m : Machine) where
  -- What a slot holds lies in it, and so does what is in an active one.
  held_lies : (e : Message) → IsHeld size (slot_at m (slot_with size e)) e → LiesIn size m (info_of e)
  held_lies e held =
      record { slot = taken_there m.slots (slot_with size e) held.taken; taken = held.taken; not_negative = search arith; lsn = held.lsn }

  active_lies : (e : Message) → IsInActive size m e → LiesIn size m (info_of e)
  active_lies e is =
      let in_use : is_free (slot_at m (slot_with size e)).state ≡ false = taken (slot_at m (slot_with size e)).state is.active in
      record { slot = taken_there m.slots (slot_with size e) in_use; taken = in_use; not_negative = search arith; lsn = sym is.lsn }

  -- What a page is made of lies in segments: a table from the base on has it, as any has that is above all messages.
  all_lie : (base : ℕ) (G : History) → Ascends G.messages → IsAccountOf size base G m → (page : ℕ) (old : List CacheInfo)
      → IsFormerList G page old → All (LiesIn size m) old
  all_lie base G order account page old former = all_from_in (LiesIn size m) old (former_lies G page old former size m (λ e there.
      let high : ℕ = max base former.cut in
      let same : table G former.cut page ≡ table G high page = past_table G order former.cut high page former.past (omega arith) in
      let entry : Contains (table G high page) e = subst (λ (l : List Message). Contains l e) same there in
      held_lies e (entry_in_slot size base G m account high page e (omega arith) entry)))

module _ {D C : Type 0} (trace : D → Trace) (sum : List ℕ → ℕ) (log : Log D C) (H : History) (A f : ℕ) (U : List Message) (x : Message)
    (fits : Fits trace sum log H A f U) (due : Contains U x) where
  -- A Link may,
  pub due_may_link : MayMark (segment_size_of log) (machine_at log) (info_of x) []
  unfolding Fits
  due_may_link =
      let its = fits.shows.account.unmarked x due in
      record {
        lies = active_lies (segment_size_of log) (machine_at log) x its;
        active = its.active;
        old_lie = All-nil (LiesIn (segment_size_of log) (machine_at log));
      }

  -- and so may what begins its page.
  pub due_may_mark : (old : List CacheInfo) → IsFormerList (without U H) x.page old
      → MayMark (segment_size_of log) (machine_at log) (info_of x) old
  unfolding Fits
  due_may_mark old former =
      let size : ℕ = segment_size_of log in
      let m : Machine = machine_at log in
      let its : IsInActive size m x = fits.shows.account.unmarked x due in
      let order : Ascends (without U H).messages =
      filter_ascends (λ (y : Message). not (is_among U y.place)) H.messages (apart_ascends H.messages (fits_apart trace sum log H A f U fits)) in
      record {
        lies = active_lies size m x its;
        active = its.active;
        old_lie = all_lie size m _ (without U H) order fits.shows.account.account x.page old former;
      }
