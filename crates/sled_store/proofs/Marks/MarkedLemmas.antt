-- What truthful marks make of the segments is tracked, from one step to the next.
use Rattle.std.proofs.Common.{⊎_elim, ◌≡◌, ◌∙◌, ◌⊎◌, ◌+◌, ◌*◌, ◌/◌, ◌<◌, ◌≤◌, ℕ, ℤ, pos, negsuc, max, true, false, List, [], Option, Some, None, sym, ap, subst, arith, inl, inr}
use Rattle.std.specs.List.{Contains}
use Rattle.std.specs.Ordering.{nat_cmp}
use Rattle.std.proofs.lemmas.Bool.{true≢false, false≢true, leb-true}
use Rattle.std.proofs.lemmas.List.{get_or-set_same}
use Rattle.std.proofs.lemmas.Map.Lookups.{exact_unsigned}
use Rattle.std.proofs.lemmas.Nat.{div-add-mod', mod_below}
use Rattle.sled_codec.specs.History.{Message, History, no_history, begins_page, table, Batch, AddsBatch}
use Rattle.sled_store.specs.Marks.{HasReplacement, info_of, slot_with, IsPast, Completes, IsFormerList, greatest_mark, Marked, unused, hands_out, links, replaces, batches, stabilizes, pops, IsSuperseded, IsNewPlace}
use Rattle.sled_store.specs.SegmentStates.{SlotState, Machine, is_free, free_slot, slot_at, MayMark, linked_slot, linked, outdating, replaced, is_due, stabilized, unused_machine, handed_out, popped}
use Rattle.sled_store.specs.declared.segment.slot.CacheInfo.{CacheInfo}
use Rattle.sled_store.proofs.Segments.Elements.{in_nothing}
use Rattle.sled_store.proofs.Segments.TableEntries.{from_table}
use Rattle.sled_store.proofs.Marks.SlotLemmas.{free_behind, taken_there, inserted}
use Rattle.sled_store.specs.Tracked.{at, IsHeld, IsActiveAt, IsTracked}
use Rattle.sled_store.proofs.Marks.MarkSteps.{Tracks, handed_out_tracks, SameSegments, same_then, active_same, linked_tracks, linked_same, outdating_tracks, outdating_same}
use Rattle.sled_store.proofs.Marks.ReplaceSteps.{LiesBelow, below_same, replaced_all_tracks}
use Rattle.sled_store.proofs.Marks.StableSteps.{NotesPlace, HoldsAsMuch, segment_mono}
use Rattle.sled_store.proofs.Marks.FormerLists.{from_former, state_is_list}
use Rattle.sled_store.proofs.Marks.StabilizeSteps.{stabilized_tracks, stabilized_waits, stabilized_holds}
use Rattle.sled_store.proofs.Marks.TableLemmas.{Ascends, added_ascends, added_keeps, added_there, added_cases, entry_above}

-- a machine tracks a history of which those messages are spent that are superseded
abbrev pub TracksAll : ℕ → ℕ → History → Machine → Type 0
TracksAll size base H m = Tracks size base H (IsSuperseded size base H) m

-- a history whose messages ascend, and a machine that tracks it
pub record IsTruthful (size mark : ℕ) (H : History) (m : Machine) : Type 0 where
  pub some : 0 < size
  pub ascends : Ascends H.messages
  pub tracks : TracksAll size (mark / size * size) H m

-- Entries.

-- a message that begins an entry's page, and lies below the cut, doesn't supersede it
pub not_superseded : (size place : ℕ) (H : History) (cut page : ℕ) (e : Message) → 0 < size → Ascends H.messages → Contains (table H cut page) e
    → place ≤ cut → IsSuperseded size place H e → ⊥
not_superseded size place H cut page e some order entry le by =
    let x : Message = by.message in
    let lt : x.place < cut = omega (arith, div-add-mod' x.place size, mod_below x.place size some, by.ends, le) in
    omega (arith, entry_above H cut page e order entry x by.there by.same_page by.begins lt, by.later)

-- an entry of a table below a cut that isn't below the base lies in its segment
pub entry_held : (size base : ℕ) (H : History) (m : Machine) (cut page : ℕ) (e : Message) → 0 < size → Ascends H.messages → TracksAll size base H m
    → base ≤ cut → Contains (table H cut page) e → IsHeld size (slot_at m (slot_with size e)) e
entry_held size base H m cut page e some order t le entry =
    ⊎_elim (λ held. held) (λ superseded. absurd (not_superseded size base H cut page e some order entry le superseded)) (t.messages e (from_table H cut page e entry).0)

-- an entry of the table of all messages lies in its segment
pub last_held : (size base : ℕ) (H : History) (m : Machine) (cut page : ℕ) (e : Message) → Ascends H.messages → TracksAll size base H m → IsPast H cut
    → Contains (table H cut page) e → IsHeld size (slot_at m (slot_with size e)) e
last_held size base H m cut page e order t past entry =
    ⊎_elim (λ held. held) (λ by. absurd (omega (arith, entry_above H cut page e order entry by.message by.there by.same_page by.begins (past by.message by.there), by.later)))
    (t.messages e (from_table H cut page e entry).0)

-- Steps of the history.

replacement_more : (size : ℕ) (H H' : History) (s : SlotState) (page : ℕ) → ((x : Message) → Contains H.messages x → Contains H'.messages x)
    → HasReplacement size H s page → HasReplacement size H' s page
replacement_more size H H' s page keeps by = record {
  message = by.message;
  there = keeps by.message by.there;
  same_page = by.same_page;
  begins = by.begins;
  later = by.later;
  latest = by.latest;
  noted = by.noted;
  within = by.within;
}

pub superseded_more : (size base base' : ℕ) (H H' : History) (e : Message) → ((x : Message) → Contains H.messages x → Contains H'.messages x)
    → base ≤ base' → IsSuperseded size base H e → IsSuperseded size base' H' e
superseded_more size base base' H H' e keeps le by = record {
  message = by.message;
  there = keeps by.message by.there;
  same_page = by.same_page;
  begins = by.begins;
  later = by.later;
  ends = omega (arith, by.ends, le);
}

-- Where each message that is new lies in its segment, and the base is raised at most, all is tracked.
pub more_tracks : (size base base' : ℕ) (H H' : History) (Spent Later : Message → Type 0) (m : Machine) → Tracks size base H Spent m → base ≤ base'
    → ((x : Message) → Contains H.messages x → Contains H'.messages x)
    → ((x : Message) → Contains H'.messages x → IsHeld size (slot_at m (slot_with size x)) x ⊎ Contains H.messages x)
    → ((x : Message) → Contains H.messages x → Spent x → Later x) → Tracks size base' H' Later m
more_tracks size base base' H H' Spent Later m t le keeps new still = record {
  cut_off = t.cut_off;
  messages = λ e there. ⊎_elim (λ held. inl held) (λ old. ⊎_elim (λ held. inl held) (λ by. inr (still e old by)) (t.messages e old)) (new e there);
  gone = λ k page there. replacement_more size H H' (at m.slots k) page keeps (t.gone k page there);
  latest = λ k place is. ⊎_elim (λ active. inl active) (λ below. inr (omega (arith, below, le))) (t.latest k place is);
  within = t.within;
  stable = λ k there none. omega (arith, t.stable k there none, le);
  aligned = t.aligned;
  apart = t.apart;
}

all_free : (k : ℕ) → is_free (at [] k).state ≡ false → true ≡ false
all_free k there = sym (ap (λ (s : SlotState). is_free s.state) (free_behind [] k (omega arith))) ∙ there

pub unused_tracks : (size base : ℕ) (Spent : Message → Type 0) → IsTracked size base no_history Spent [] 0
unused_tracks size base Spent = record {
  cut_off = λ k le. ap (λ (s : SlotState). is_free s.state) (free_behind [] k (omega arith));
  messages = λ e there. absurd (in_nothing e there);
  gone = λ k page there. absurd (in_nothing page (subst (λ (s : SlotState). Contains s.gone page) (free_behind [] k (omega arith)) there));
  latest = λ k place is. let none : ◌≡◌ {A = Option ℕ} None (Some place) = sym (ap (λ (s : SlotState). s.latest) (free_behind [] k (omega arith))) ∙ is in cc (none);
  within = λ k page there. subst (λ (s : SlotState). Contains s.gone page → Contains s.pages page) (sym (free_behind [] k (omega arith))) (λ found. found) there;
  stable = λ k there none. absurd (true≢false (all_free k there));
  aligned = λ k there. absurd (true≢false (all_free k there));
  apart = λ j k one two same. absurd (true≢false (all_free j one));
}

module _ (size base : ℕ) (H : History) (m : Machine) (some : 0 < size) (Spent Later : Message → Type 0) (t : Tracks size base H Spent m) (x : Message) (H' : History)
    (completes : Completes H x H') (may : MayMark size m (info_of x) []) (still : (e : Message) → Contains H.messages e → Spent e → Later e) where
  -- a message is completed, and linked
  pub linked_message : Tracks size base H' Later (linked size x.page (info_of x) m)
  linked_message =
      let k = slot_with size x in
      let s : SlotState = linked_slot x.page x.size (slot_at m k) in
      let here : slot_at (linked size x.page (info_of x) m) k ≡ s = get_or-set_same m.slots k s free_slot (taken_there m.slots k may.lies.taken) in
      let held : IsHeld size (slot_at (linked size x.page (info_of x) m) k) x =
      subst (λ (n : SlotState). IsHeld size n x) (sym here) (record { taken = may.lies.taken; lsn = may.lies.lsn; page = inserted nat_cmp exact_unsigned (slot_at m k).pages x.page }) in
      more_tracks size base base H H' Spent Later (linked size x.page (info_of x) m) (linked_tracks size base H Spent m t x.page (info_of x) may.lies.taken) (omega arith) (added_keeps H x H' completes.adds)
      (λ e there. ⊎_elim (λ is. inl (subst (λ (n : Message). IsHeld size (slot_at (linked size x.page (info_of x) m) (slot_with size n)) n) is held)) (λ old. inr old) (added_cases H x H' completes.adds e there)) still

  module _ (old : List CacheInfo) (former : IsFormerList H x.page old)
      (held_there : (e : Message) → Contains (table H former.cut x.page) e → IsHeld size (slot_at m (slot_with size e)) e) where
    -- Its old messages lie in segments at or below its own.
    pub former_below : (o : CacheInfo) → Contains old o → LiesBelow size (x.place / size * size) x.page m.slots o
    former_below o there =
        let found = from_former H x.page old former o there in
        let e : Message = found.0 in
        let held : IsHeld size (slot_at m (slot_with size e)) e = held_there e found.1 in
        let from = from_table H former.cut x.page e found.1 in
        let lt : e.place < x.place = completes.newest e from.0 from.1 in
        let below : e.place / size * size ≤ x.place / size * size = segment_mono size e.place x.place some (omega (arith, lt)) in
        let has : Contains (slot_at m (slot_with size e)).pages x.page = subst (λ (n : ℕ). Contains (slot_at m (slot_with size e)).pages n) from.1 held.page in
        subst (LiesBelow size (x.place / size * size) x.page m.slots) found.2 (record { taken = held.taken; below = omega (arith, held.lsn, below); has = has })

    -- It is marked in place of these.
    pub replaced_message : begins_page x.kind ≡ true → Tracks size base H' Later (replaced size x.page (info_of x) old m)
    replaced_message begins =
        let place = x.place / size * size in
        let k = slot_with size x in
        let n : Machine = linked size x.page (info_of x) m in
        let taken_same : SameSegments m.slots n.slots = linked_same size m (info_of x) may.lies.taken x.page in
        let taken : is_free (slot_at n k).state ≡ false = (taken_same k).free ∙ may.lies.taken in
        let t_n : Tracks size base H' Later n = linked_message in
        let o : Machine = outdating size (info_of x) old n in
        let t_o : Tracks size base H' Later o = outdating_tracks size base H' Later n t_n x.page (info_of x) taken old in
        let same : SameSegments m.slots o.slots = same_then m.slots n.slots o.slots taken_same (outdating_same size n (info_of x) taken old) in
        let active : IsActiveAt m.slots place = record { slot = k; active = may.active; lsn = sym may.lies.lsn } in
        replaced_all_tracks size base H' Later x (added_there H x H' completes.adds) begins old o t_o (λ p there. below_same size place x.page m.slots o.slots p same (former_below p there)) (active_same m.slots o.slots place same active)

-- A mark that is given raises the greatest one.

pub raised_low : (size mark : ℕ) → 0 < size → (next : ℤ) → mark / size * size ≤ greatest_mark mark next / size * size
raised_low size mark some (pos next) = segment_mono size mark (max mark next) some (omega arith)
raised_low size mark some (negsuc next) = omega arith

pub raised_due : (size mark : ℕ) → 0 < size → (next : ℤ) (place : ℕ) → is_due size next place ≡ true → place + size ≤ greatest_mark mark next / size * size
raised_due size mark some (pos next) place due = omega (arith, leb-true (place + size) (next / size * size) due, segment_mono size next (max mark next) some (omega arith))
raised_due size mark some (negsuc next) place due = absurd (false≢true due)

module _ (size mark : ℕ) (H : History) (m : Machine) (t : IsTruthful size mark H m) (next : ℤ) where
  raised_tracks : TracksAll size (greatest_mark mark next / size * size) H m
  raised_tracks =
      more_tracks size (mark / size * size) (greatest_mark mark next / size * size) H H (IsSuperseded size (mark / size * size) H) (IsSuperseded size (greatest_mark mark next / size * size) H) m t.tracks
      (raised_low size mark t.some next) (λ x there. there) (λ x there. inr there)
      (λ x there by. superseded_more size (mark / size * size) (greatest_mark mark next / size * size) H H x (λ y found. found) (raised_low size mark t.some next) by)

  pub stable_tracks : TracksAll size (greatest_mark mark next / size * size) H (stabilized size next m).machine
  stable_tracks =
      stabilized_tracks size (greatest_mark mark next / size * size) H (IsSuperseded size (greatest_mark mark next / size * size) H) t.some (λ e by. by) m next raised_tracks (raised_due size mark t.some next)

  -- A slot that is freed doesn't wait for a segment that is active.
  pub stable_waits : (k place : ℕ) → NotesPlace (slot_at m k) place
      → NotesPlace (slot_at (stabilized size next m).machine k) place ⊎ (place + size ≤ greatest_mark mark next / size * size)
  stable_waits =
      stabilized_waits size (greatest_mark mark next / size * size) H (IsSuperseded size (greatest_mark mark next / size * size) H) t.some (λ e by. by) m next raised_tracks (raised_due size mark t.some next)

  pub stable_holds : (k : ℕ) → is_free (slot_at (stabilized size next m).machine k).state ≡ false
      → HoldsAsMuch (slot_at m k) (slot_at (stabilized size next m).machine k)
  stable_holds =
      stabilized_holds size (greatest_mark mark next / size * size) H (IsSuperseded size (greatest_mark mark next / size * size) H) t.some (λ e by. by) m next raised_tracks (raised_due size mark t.some next)

-- Steps: each keeps it.

pub unused_truthful : (size : ℕ) → 0 < size → IsTruthful size 0 no_history unused_machine
unused_truthful size some = record { some = some; ascends = tt; tracks = unused_tracks size (0 / size * size) (IsSuperseded size (0 / size * size) no_history) }

module _ (size mark : ℕ) (H : History) (m : Machine) (t : IsTruthful size mark H m) where
  pub handed_out_truthful : (place : ℕ) → IsNewPlace size place m → IsTruthful size mark H (handed_out place m)
  handed_out_truthful place new_place = record { some = t.some; ascends = t.ascends; tracks = handed_out_tracks size (mark / size * size) H (IsSuperseded size (mark / size * size) H) m place t.tracks new_place }

  -- what was superseded still is, in a history with a message more
  still_superseded : (x : Message) (H' : History) → Completes H x H' → (e : Message) → Contains H.messages e
      → IsSuperseded size (mark / size * size) H e → IsSuperseded size (mark / size * size) H' e
  still_superseded x H' completes e there by = superseded_more size (mark / size * size) (mark / size * size) H H' e (added_keeps H x H' completes.adds) (omega arith) by

  pub linked_truthful : (x : Message) (H' : History) → Completes H x H' → MayMark size m (info_of x) [] → IsTruthful size mark H' (linked size x.page (info_of x) m)
  linked_truthful x H' completes may =
      let base = mark / size * size in
      record {
        some = t.some;
        ascends = added_ascends H x H' completes.adds t.ascends;
        tracks = linked_message size base H m t.some (IsSuperseded size base H) (IsSuperseded size base H') t.tracks x H' completes may (still_superseded x H' completes);
      }

  pub replaced_truthful : (x : Message) (old : List CacheInfo) (H' : History) → Completes H x H' → begins_page x.kind ≡ true
      → IsFormerList H x.page old → MayMark size m (info_of x) []
      → IsTruthful size mark H' (replaced size x.page (info_of x) old m)
  replaced_truthful x old H' completes begins former may =
      let base = mark / size * size in
      record {
        some = t.some;
        ascends = added_ascends H x H' completes.adds t.ascends;
        tracks = replaced_message size base H m t.some (IsSuperseded size base H) (IsSuperseded size base H') t.tracks x H' completes may (still_superseded x H' completes) old former
            (λ e entry. last_held size base H m former.cut x.page e t.ascends t.tracks former.past entry) begins;
      }

  -- batches change no message
  pub batched_truthful : (b : Batch) (H' : History) → AddsBatch H b H' → IsTruthful size mark H' m
  batched_truthful b H' adds =
      let same = adds.messages in
      let base = mark / size * size in
      let more : (x : Message) → Contains H.messages x → Contains H'.messages x = λ x there. subst (λ (ms : List Message). Contains ms x) (sym same) there in
      record {
        some = t.some;
        ascends = subst Ascends (sym same) t.ascends;
        tracks = more_tracks size base base H H' (IsSuperseded size base H) (IsSuperseded size base H') m t.tracks (omega arith) more
            (λ x there. inr (subst (λ (ms : List Message). Contains ms x) same there)) (λ x there by. superseded_more size base base H H' x more (omega arith) by);
      }

  pub stabilized_truthful : (next : ℤ) → IsTruthful size (greatest_mark mark next) H (stabilized size next m).machine
  stabilized_truthful next = record { some = t.some; ascends = t.ascends; tracks = stable_tracks size mark H m t next }

  -- nothing is read of the cleaner
  pub popped_truthful : (left : List (ℕ × List ℕ)) → IsTruthful size mark H (record { slots = m.slots; tip = m.tip; cleaner = left })
  popped_truthful left = record { some = t.some; ascends = t.ascends; tracks = t.tracks }

-- All that truthful marks make is tracked.
pub truthful : (size mark : ℕ) (H : History) (m : Machine) → Marked size mark H m → IsTruthful size mark H m
truthful size mark H m (unused some) = unused_truthful size some
truthful size mark H m (hands_out {m = n} place marked new_place) = handed_out_truthful size mark H n (truthful size mark H n marked) place new_place
truthful size mark K m (links {H = G} {m = n} x H marked completes kind may) = linked_truthful size mark G n (truthful size mark G n marked) x H completes may
truthful size mark K m (replaces {H = G} {m = n} x old H marked completes begins former may) = replaced_truthful size mark G n (truthful size mark G n marked) x old H completes begins (state_is_list G x.page old former) may
truthful size mark K m (batches {H = G} b H marked adds) = batched_truthful size mark G m (truthful size mark G m marked) b H adds
truthful size mark H m (stabilizes {mark = low} {m = n} next marked) = stabilized_truthful size low H n (truthful size low H n marked) next
truthful size mark H m (pops {m = n} marked) = popped_truthful size mark H n (truthful size mark H n marked) (popped n.cleaner)
