-- What a slot holds is at least what its messages sum up to that stand.
use Rattle.std.proofs.Common.{if◌then◌else◌, ⊎_elim, ◌≡◌, ◌≢◌, ◌∙◌, ◌⊎◌, ◌&&◌, ◌==◌, ◌+◌, ◌-◌, ◌*◌, ◌/◌, ◌^◌, ◌<◌, ◌≤◌, ℕ, ℤ, Bool, true, false, nat_lt, List, [], ◌∷◌, ◌++◌, length, set, refl, sym, ap, subst, arith, inl, inr, eq-eqb}
use Rattle.std.specs.List.{Contains, sum_by}
use Rattle.std.proofs.lemmas.Bool.{true≢false, cases_eq, cases_lt, cases_Bool, ltb-true, ne_eqb}
use Rattle.std.proofs.lemmas.List.{length-set, get_or-set_same, get_or-set_other}
use Rattle.std.proofs.lemmas.List.Sums.{sum_by-cons}
use Rattle.sled_codec.specs.History.{Message, History, begins_page, table}
use Rattle.sled_codec.specs.Pointers.{lid_of}
use Rattle.sled_store.specs.Marks.{info_of, slot_with, IsPast, Completes, IsFormerState, IsSuperseded, greatest_mark, Marked, unused, hands_out, links, replaces, batches, stabilizes, pops, is_standing, standing_size}
use Rattle.sled_store.specs.SegmentStates.{SlotState, Machine, is_free, free_slot, taken_slot, slot_at, with_slot, next_slot, handed_out, linked_slot, linked, all_outdated, outdating, replaced_slot, is_sparse, drained, drained_slot, drained_if_sparse, replaced_one, replaced_all, replaced, stabilized}
use Rattle.sled_store.specs.declared.segment.slot.CacheInfo.{CacheInfo}
use Rattle.sled_store.proofs.Segments.TableEntries.{from_table}
use Rattle.sled_store.specs.Tracked.{at}
use Rattle.sled_store.proofs.Marks.SlotLemmas.{free_behind, taken_there, Changes, set_changes, push_changes, each_slot}
use Rattle.sled_store.proofs.Marks.MarkSteps.{next_free}
use Rattle.sled_store.proofs.Marks.MarkedLemmas.{IsTruthful, TracksAll, truthful, stable_tracks, stable_holds}
use Rattle.sled_store.proofs.Marks.StandingSums.{Stands, share, share_within, standing_within, standing_none, one_within, total_more, standing_more, standing_replaced}
use Rattle.sled_store.proofs.Marks.TableLemmas.{entry_above}

-- Slots.

-- a slot that is set is the new one, or it isn't there
set_cases : (ss : List SlotState) (k : ℕ) (s : SlotState) (j : ℕ) → ((j ≡ k) × (at (set ss k s) j ≡ s)) ⊎ (at (set ss k s) j ≡ at ss j)
set_cases ss k s j = ⊎_elim here (λ other. inr (get_or-set_other ss k j s free_slot other)) (cases_eq j k) where
  here : j ≡ k → ((j ≡ k) × (at (set ss k s) j ≡ s)) ⊎ (at (set ss k s) j ≡ at ss j)
  here is =
      ⊎_elim (λ lt. inl (is, subst (λ (i : ℕ). at (set ss k s) i ≡ s) (sym is) (get_or-set_same ss k s free_slot lt)))
      (λ le. inr (free_behind (set ss k s) j (omega (arith, length-set ss k s, is, le)) ∙ sym (free_behind ss j (omega (arith, is, le))))) (cases_lt k (length ss))

share_here : (size k : ℕ) (o : CacheInfo) → lid_of o.pointer / size ≡ k → share size k o ≡ o.log_size
share_here size k o is = ap (λ (b : Bool). if b then o.log_size else 0) (eq-eqb (lid_of o.pointer / size) k is)

share_other : (size k : ℕ) (o : CacheInfo) → lid_of o.pointer / size ≢ k → share size k o ≡ 0
share_other size k o other = ap (λ (b : Bool). if b then o.log_size else 0) (ne_eqb (lid_of o.pointer / size) k other)

-- Marks.

drained_held : (size : ℕ) (m : Machine) (k j : ℕ) → (slot_at (drained_if_sparse size k m) j).held ≡ (slot_at m j).held
drained_held size m k j = by (is_sparse size (slot_at m k)) where
  by : (b : Bool) → (slot_at (if b then drained k m else m) j).held ≡ (slot_at m j).held
  by true = ⊎_elim (λ here. ap (λ (s : SlotState). s.held) here.1 ∙ ap (λ (i : ℕ). (slot_at m i).held) (sym here.0)) (λ same. ap (λ (s : SlotState). s.held) same) (set_cases m.slots k (drained_slot (slot_at m k)) j)
  by false = refl

-- a page's old message takes off what it counts
replaced_one_held : (size page place : ℕ) (o : CacheInfo) (m : Machine) (j : ℕ)
    → (slot_at m j).held ≤ (slot_at (replaced_one size page place o m) j).held + share size j o
replaced_one_held size page place o m j =
    let k = lid_of o.pointer / size in
    let s : SlotState = replaced_slot page o.log_size place (slot_at m k) in
    let n : Machine = with_slot k s m in
    let same : (slot_at (drained_if_sparse size k n) j).held ≡ (slot_at n j).held = drained_held size n k j in
    ⊎_elim (λ here.
    let held : (slot_at n j).held ≡ (slot_at m k).held - o.log_size = ap (λ (x : SlotState). x.held) here.1 in
    let was : (slot_at m j).held ≡ (slot_at m k).held = ap (λ (i : ℕ). (slot_at m i).held) here.0 in
    omega (arith, same, held, was, share_here size j o (sym here.0)))
    (λ kept. let held : (slot_at n j).held ≡ (slot_at m j).held = ap (λ (x : SlotState). x.held) kept in omega (arith, same, held)) (set_cases m.slots k s j)

replaced_all_held : (size page place : ℕ) (os : List CacheInfo) (m : Machine) (j : ℕ)
    → (slot_at m j).held ≤ (slot_at (replaced_all size page place os m) j).held + sum_by (share size j) os
replaced_all_held size page place [] m j = omega arith
replaced_all_held size page place (o ∷ os) m j =
    omega (arith, replaced_one_held size page place o m j, replaced_all_held size page place os (replaced_one size page place o m) j, sum_by-cons (share size j) o os)

outdating_held : (size : ℕ) (info : CacheInfo) (old : List CacheInfo) (m : Machine) (j : ℕ) → (slot_at (outdating size info old m) j).held ≡ (slot_at m j).held
outdating_held size info old m j =
    let k = lid_of info.pointer / size in
    ⊎_elim (λ here. ap (λ (s : SlotState). s.held) here.1 ∙ ap (λ (i : ℕ). (slot_at m i).held) (sym here.0)) (λ same. ap (λ (s : SlotState). s.held) same)
    (set_cases m.slots k (record (slot_at m k) { blobs = all_outdated info.pointer old (slot_at m k).blobs }) j)

-- the slot that a message is linked to holds as much more, up to the greatest count
linked_held : (size page : ℕ) (info : CacheInfo) (m : Machine) (j n : ℕ) → is_free (slot_at m (lid_of info.pointer / size)).state ≡ false
    → n ≤ (slot_at m j).held + share size j info → n ≤ 2 ^ 64 - 1
    → n ≤ (slot_at (linked size page info m) j).held
linked_held size page info m j n taken le small =
    each_slot (λ i x. n ≤ (slot_at m i).held + share size i info → n ≤ x.held) m.slots k s (set m.slots k s) (set_changes m.slots k s (taken_there m.slots k taken))
    (λ more. omega (arith, more, small, share_here size k info refl)) (λ i other more. omega (arith, more, share_other size i info (λ is. other (sym is)))) j le where
      k : ℕ
      k = lid_of info.pointer / size

      s : SlotState
      s = linked_slot page info.log_size (slot_at m (lid_of info.pointer / size))

-- Histories.

-- each slot holds what its messages sum up to that stand, or more
abbrev pub HoldsStanding : ℕ → History → Machine → Type 0
HoldsStanding size H m = (k : ℕ) → standing_size size H k ≤ (slot_at m k).held

-- all messages sum up to less than can't be counted
abbrev pub IsCountable : History → Type 0
IsCountable H = sum_by (λ e. e.size) H.messages < 2 ^ 64

-- no message stands in a free slot
free_none : (size base : ℕ) (H : History) (m : Machine) (k : ℕ) → TracksAll size base H m → is_free (slot_at m k).state ≡ true → standing_size size H k ≡ 0
free_none size base H m k t free =
    standing_none size H k (λ e there stands is.
    ⊎_elim (λ held. true≢false (sym free ∙ subst (λ (i : ℕ). is_free (slot_at m i).state ≡ false) is held.taken))
    (λ by. stands by.message by.there by.same_page by.begins by.later) (t.messages e there))

module _ (size mark : ℕ) (H : History) (m : Machine) (t : IsTruthful size mark H m) (holds : HoldsStanding size H m) where
  hands_out_holds : (place : ℕ) → HoldsStanding size H (handed_out place m)
  hands_out_holds place = by (nat_lt (next_slot m) (length m.slots)) refl where
    put : (k : ℕ) (new : List SlotState) → is_free (slot_at m k).state ≡ true → Changes m.slots k (taken_slot place) new → (j : ℕ)
        → standing_size size H j ≤ (at new j).held
    put k new free changes =
        each_slot (λ j x. standing_size size H j ≤ x.held) m.slots k (taken_slot place) new changes (omega (arith, free_none size (mark / size * size) H m k t.tracks free)) (λ j other. holds j)

    by : (b : Bool) → nat_lt (next_slot m) (length m.slots) ≡ b → (j : ℕ)
        → standing_size size H j ≤ (at (if b then set m.slots (next_slot m) (taken_slot place) else m.slots ++ taken_slot place ∷ []) j).held
    by true lt =
        put (next_slot m) (set m.slots (next_slot m) (taken_slot place)) (next_free size (mark / size * size) H (IsSuperseded size (mark / size * size) H) m t.tracks)
        (set_changes m.slots (next_slot m) (taken_slot place) (ltb-true (next_slot m) (length m.slots) lt))
    by false ge =
        put (length m.slots) (m.slots ++ taken_slot place ∷ []) (ap (λ (s : SlotState). is_free s.state) (free_behind m.slots (length m.slots) (omega arith))) (push_changes m.slots (taken_slot place))

  module _ (x : Message) (H' : History) (completes : Completes H x H') (taken : is_free (slot_at m (slot_with size x)).state ≡ false) (small : IsCountable H') where
    links_holds : HoldsStanding size H' (linked size x.page (info_of x) m)
    links_holds k =
        linked_held size x.page (info_of x) m k (standing_size size H' k) taken (omega (arith, standing_more size H x H' completes k, holds k)) (omega (arith, standing_within size H' k, small))

    replaces_holds : (old : List CacheInfo) → begins_page x.kind ≡ true → IsFormerState H x.page old → HoldsStanding size H' (replaced size x.page (info_of x) old m)
    replaces_holds old begins former k =
        let n : Machine = linked size x.page (info_of x) m in
        let o : Machine = outdating size (info_of x) old n in
        let place : ℕ = x.place / size * size in
        let both : ℕ = standing_size size H' k + sum_by (share size k) old in
        let within : both ≤ standing_size size H k + share size k (info_of x) = standing_replaced size H x H' completes k old t.ascends begins former in
        let fits : both ≤ 2 ^ 64 - 1 = omega (arith, within, standing_within size H k, share_within size k x, total_more size H x H' completes k, small) in
        let linked_now : both ≤ (slot_at n k).held = linked_held size x.page (info_of x) m k both taken (omega (arith, within, holds k)) fits in
        omega (arith, linked_now, outdating_held size (info_of x) old n k, replaced_all_held size x.page place old o k)

  stabilizes_holds : (next : ℤ) → HoldsStanding size H (stabilized size next m).machine
  stabilizes_holds next k = ⊎_elim free taken (cases_Bool (is_free (slot_at (stabilized size next m).machine k).state)) where
    free : is_free (slot_at (stabilized size next m).machine k).state ≡ true → standing_size size H k ≤ (slot_at (stabilized size next m).machine k).held
    free is = omega (arith, free_none size (greatest_mark mark next / size * size) H (stabilized size next m).machine k (stable_tracks size mark H m t next) is)

    taken : is_free (slot_at (stabilized size next m).machine k).state ≡ false → standing_size size H k ≤ (slot_at (stabilized size next m).machine k).held
    taken is = let same = (stable_holds size mark H m t next k is).1 in omega (arith, same, holds k)

-- Where all messages can be counted, slots hold at least what stands in them.
pub holds_standing : (size mark : ℕ) (H : History) (m : Machine) → Marked size mark H m → IsCountable H → HoldsStanding size H m
holds_standing size mark H m (unused some) small = λ k. omega arith
holds_standing size mark H m (hands_out {m = n} place marked new_place) small = hands_out_holds size mark H n (truthful size mark H n marked) (holds_standing size mark H n marked small) place
holds_standing size mark K m (links {H = G} {m = n} x H marked completes kind may) small =
    links_holds size mark G n (truthful size mark G n marked) (holds_standing size mark G n marked (omega (arith, small, total_more size G x H completes 0))) x H completes may.lies.taken small
holds_standing size mark K m (replaces {H = G} {m = n} x old H marked completes begins former may) small =
    replaces_holds size mark G n (truthful size mark G n marked) (holds_standing size mark G n marked (omega (arith, small, total_more size G x H completes 0))) x H completes may.lies.taken small old begins former
holds_standing size mark K m (batches {H = G} b H marked adds) small =
    let same = adds.messages in
    let before : HoldsStanding size G m = holds_standing size mark G m marked (omega (arith, small, ap (sum_by (λ (e : Message). e.size)) same)) in
    λ k. subst (λ (ms : List Message). sum_by (λ (e : Message). if is_standing ms e && (slot_with size e == k) then e.size else 0) ms ≤ (slot_at m k).held) (sym same) (before k)
holds_standing size mark H m (stabilizes {mark = low} {m = n} next marked) small = stabilizes_holds size low H n (truthful size low H n marked) (holds_standing size low H n marked small) next
holds_standing size mark H m (pops {m = n} marked) small = holds_standing size mark H n marked small

-- An entry's slot holds at least its size.
pub entry_counted : (size mark : ℕ) (H : History) (m : Machine) (cut page : ℕ) (e : Message) → Marked size mark H m → IsCountable H → IsPast H cut
    → Contains (table H cut page) e → e.size ≤ (slot_at m (slot_with size e)).held
entry_counted size mark H m cut page e marked small past entry =
    let there = (from_table H cut page e entry).0 in
    let t : IsTruthful size mark H m = truthful size mark H m marked in
    let stands : Stands H.messages e = λ x found same begins lt. omega (arith, entry_above H cut page e t.ascends entry x found same begins (past x found), lt) in
    omega (arith, one_within size H e there stands, holds_standing size mark H m marked small (slot_with size e))
