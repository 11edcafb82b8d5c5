-- The laws of truthful marks, from what is tracked.
use Rattle.std.proofs.Common.{⊎_elim, ◌≡◌, ◌≢◌, ◌∙◌, ◌⊎◌, ◌*◌, ◌/◌, ◌<◌, ◌≤◌, ℕ, true, false, List, [], sym, subst, arith, inl, inr, ◌+◌, ◌%◌, ℤ, Some}
use Rattle.std.specs.List.{Contains}
use Rattle.std.proofs.lemmas.Bool.{true≢false}
use Rattle.std.proofs.lemmas.Nat.{div-add-mod', mod_below}
use Rattle.sled_codec.specs.History.{Message, History, table}
use Rattle.sled_codec.specs.WellFormed.{LieApart}
use Rattle.sled_store.specs.Marks.{HasReplacement, IsCounted, IsFormerList, IsLinked, IsPast, IsSuperseded, greatest_mark, info_of, slot_with, IsIn, IsNeeded}
use Rattle.sled_store.specs.SegmentStates.{Machine, LiesIn, MayMark, is_free, next_slot, slot_at, is_active, stabilized}
use Rattle.sled_store.specs.declared.segment.slot.CacheInfo.{CacheInfo}
use Rattle.sled_store.proofs.Segments.Elements.{all_from_in}
use Rattle.sled_store.proofs.Marks.SlotLemmas.{taken_there}
use Rattle.sled_store.specs.Tracked.{IsHeld}
use Rattle.sled_store.proofs.Marks.MarkSteps.{next_free}
use Rattle.sled_store.proofs.Marks.StableSteps.{segment_above}
use Rattle.sled_store.proofs.Marks.FormerLists.{former_lies}
use Rattle.sled_store.proofs.Marks.TableLemmas.{apart_ascends, entry_above}
use Rattle.sled_store.proofs.Marks.MarkedLemmas.{IsTruthful, not_superseded, superseded_more, entry_held, last_held, stable_waits}

-- a message that a slot holds is linked there
held_linked : (size : ℕ) (m : Machine) (e : Message) → IsHeld size (slot_at m (slot_with size e)) e → IsLinked size m e
held_linked size m e held = record {
  lies = record { slot = taken_there m.slots (slot_with size e) held.taken; taken = held.taken; not_negative = search arith; lsn = held.lsn };
  page = held.page;
}

module _ (size mark : ℕ) (H : History) (m : Machine) (t : IsTruthful size mark H m) where
  pub linked_or_superseded : (e : Message) → Contains H.messages e → IsLinked size m e ⊎ IsSuperseded size (mark / size * size) H e
  linked_or_superseded e there = ⊎_elim (λ held. inl (held_linked size m e held)) (λ by. inr by) (t.tracks.messages e there)

  -- a message from the mark's segment on is linked
  pub from_mark_linked : (e : Message) → Contains H.messages e → mark / size * size ≤ e.place → IsLinked size m e
  from_mark_linked e there le = ⊎_elim (λ linked. linked) (λ by. absurd (above by)) (linked_or_superseded e there) where
    above : IsSuperseded size (mark / size * size) H e → ⊥
    above by =
        let some = t.some in
        let x : Message = by.message in
        omega (arith, div-add-mod' x.place size, mod_below x.place size some, by.ends, by.later, le)

  -- Entries.

  pub counted : (cut page : ℕ) (e : Message) → IsPast H cut → Contains (table H cut page) e → IsCounted size m e
  counted cut page e past entry =
      let k = slot_with size e in
      let held : IsHeld size (slot_at m k) e = last_held size (mark / size * size) H m cut page e t.ascends t.tracks past entry in
      record {
        linked = held_linked size m e held;
        not_gone = λ gone.
            let by : HasReplacement size H (slot_at m k) e.page = t.tracks.gone k e.page gone in
            let later : e.place < by.message.place = segment_above size e.place by.message.place t.some (omega (arith, held.lsn, by.later)) in
            omega (arith, later, entry_above H cut page e t.ascends entry by.message by.there by.same_page by.begins (past by.message by.there));
      }

  pub none_in_done : (cut page k : ℕ) (e : Message) → IsPast H cut → (slot_at m k).gone ≡ (slot_at m k).pages → Contains (table H cut page) e → slot_with size e ≢ k
  none_in_done cut page k e past done entry is =
      let is_counted : IsCounted size m e = counted cut page e past entry in
      let same : (slot_at m (slot_with size e)).gone ≡ (slot_at m (slot_with size e)).pages = subst (λ (i : ℕ). (slot_at m i).gone ≡ (slot_at m i).pages) (sym is) done in
      is_counted.not_gone (subst (λ (ps : List ℕ). Contains ps e.page) (sym same) is_counted.linked.page)

  pub above_mark_linked : (cut page : ℕ) (e : Message) → mark / size * size ≤ cut → Contains (table H cut page) e → IsLinked size m e
  above_mark_linked cut page e le entry = held_linked size m e (entry_held size (mark / size * size) H m cut page e t.some t.ascends t.tracks le entry)

  pub none_in_free : (cut page k : ℕ) (e : Message) → mark / size * size ≤ cut → Contains (table H cut page) e → is_free (slot_at m k).state ≡ true → slot_with size e ≢ k
  none_in_free cut page k e le entry free is = true≢false (sym free ∙ subst (λ (i : ℕ). is_free (slot_at m i).state ≡ false) is (above_mark_linked cut page e le entry).lies.taken)

  pub next_is_free : is_free (slot_at m (next_slot m)).state ≡ true
  next_is_free = next_free size (mark / size * size) H (IsSuperseded size (mark / size * size) H) m t.tracks

  -- a segment that is needed is in another slot than the next one
  pub needed_elsewhere : (cut place : ℕ) → mark / size * size ≤ cut → IsNeeded size H cut place → (k : ℕ) × IsIn m k place × (k ≢ next_slot m)
  needed_elsewhere cut place le needed =
      let e : Message = needed.entry in
      let linked : IsLinked size m e = above_mark_linked cut needed.page e le needed.there in
      (slot_with size e, record { taken = linked.lies.taken; lsn = sym linked.lies.lsn ∙ needed.within }, none_in_free cut needed.page (next_slot m) e le needed.there next_is_free)

  -- Where more was completed than marked, what is marked is still linked while a table has it.
  pub marked_linked : (G : History) (cut page : ℕ) (e : Message) → ((x : Message) → Contains H.messages x → Contains G.messages x)
      → LieApart G.messages → mark / size * size ≤ cut → Contains H.messages e
      → Contains (table G cut page) e → IsLinked size m e
  marked_linked G cut page e more apart le there entry =
      ⊎_elim (λ linked. linked) (λ by. absurd (not_superseded size (mark / size * size) G cut page e t.some (apart_ascends G.messages apart) entry le (superseded_more size (mark / size * size) (mark / size * size) H G e more (omega arith) by)))
      (linked_or_superseded e there)

  -- Old messages.

  pub former_may : (x : Message) (old : List CacheInfo) → IsFormerList H x.page old → MayMark size m (info_of x) [] → MayMark size m (info_of x) old
  former_may x old former may = record {
    lies = may.lies;
    active = may.active;
    old_lie = all_from_in (LiesIn size m) old
        (former_lies H x.page old former size m (λ e entry. (counted former.cut x.page e former.past entry).linked.lies));
  }

  -- Segments.

  -- the segment at a place is in one slot, and its place is a multiple of the size
  pub one_slot : (j k place : ℕ) → IsIn m j place → IsIn m k place → j ≡ k
  one_slot j k place one other = t.tracks.apart j k one.taken other.taken (one.lsn ∙ sym other.lsn)

  pub place_aligned : (k place : ℕ) → IsIn m k place → place % size ≡ 0
  place_aligned k place there = subst (λ (n : ℕ). n % size ≡ 0) there.lsn (t.tracks.aligned k there.taken)

  pub idle_stable : (k place : ℕ) → IsIn m k place → is_active (slot_at m k).state ≡ false → place + size ≤ mark / size * size
  idle_stable k place there idle = omega (arith, there.lsn, t.tracks.stable k there.taken idle)

  -- what is gone was there, and has a replacement
  pub gone_there : (k page : ℕ) → Contains (slot_at m k).gone page → Contains (slot_at m k).pages page
  gone_there = t.tracks.within

  pub gone_replaced : (k page : ℕ) → Contains (slot_at m k).gone page → HasReplacement size H (slot_at m k) page
  gone_replaced = t.tracks.gone

  -- a slot that a mark frees doesn't wait for a segment that is active then
  pub freed_stable : (next : ℤ) (k place : ℕ) → is_free (slot_at m k).state ≡ false
      → is_free (slot_at (stabilized size next m).machine k).state ≡ true → (slot_at m k).latest ≡ Some place
      → place + size ≤ greatest_mark mark next / size * size
  freed_stable next k place there free is = ⊎_elim (λ still. absurd (true≢false (sym free ∙ still.0))) (λ below. below) (stable_waits size mark H m t next k place (there, is))
