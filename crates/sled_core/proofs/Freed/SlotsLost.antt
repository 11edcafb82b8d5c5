-- Slots lose their segments, which end at a place or below: what is said of slots alone stays so, counted from that place on.
use Rattle.std.proofs.Common.{◌≡◌, ◌≢◌, ◌∙◌, ◌+◌, ◌*◌, ◌/◌, ◌%◌, ◌<◌, ◌≤◌, ℕ, false, List, Option, None, refl, sym, ap, subst, arith, inl, inr}
use Rattle.std.specs.List.{Contains}
use Rattle.std.specs.declared.io.Error.{Error as IoError}
use Rattle.std.proofs.Math.Nat.{lt-div-mul-add}
use Rattle.std.proofs.lemmas.Bool.{cases_lt, true≢false}
use Rattle.std.proofs.lemmas.List.Elements.{All-contains}
use Rattle.sled_codec.specs.History.{History, Message, table}
use Rattle.sled_store.specs.Device.{State}
use Rattle.sled_store.specs.Marks.{slot_with}
use Rattle.sled_store.specs.SegmentStates.{Machine, is_free, slot_at}
use Rattle.sled_store.proofs.Histories.Ascending.{Ascends}
use Rattle.sled_store.proofs.Histories.EarlierEntries.{entry_earlier}
use Rattle.sled_store.proofs.Marks.DeactivationSteps.{from_map}
use Rattle.sled_store.proofs.Marks.SlotMoves.{KeepOrLose, LosesSegment}
use Rattle.sled_store.proofs.Segments.Elements.{all_from_in}
use Rattle.sled_store.proofs.Segments.TableEntries.{from_table}
use Rattle.sled_core.specs.Begun.{SegmentView}
use Rattle.sled_core.specs.LogFile.{StaysFrom}
use Rattle.sled_core.specs.Logged.{in_log, logged}
use Rattle.sled_core.specs.NoForeign.{NoHeaderOfZeros}
use Rattle.sled_core.specs.inside.Begun.{line_end}
use Rattle.sled_core.specs.inside.FreeSlots.{FreeAreZeros, HasSlot, HasSlots, HaveOwn}
use Rattle.sled_core.specs.inside.Numbers.{HasNumber, HasNumbers, HaveSlots, IsInSlot}
use Rattle.sled_core.proofs.Cleared.Emptied.{NoneNeeds}
use Rattle.sled_core.proofs.Logged.Messages.{from_logged, table_logged}

module _ (size base : ℕ) (some : 0 < size) (m m' : Machine) (changes : KeepOrLose size base m m') where
  -- A slot that has a segment had it.
  pub had_segment : (k : ℕ) → is_free (slot_at m' k).state ≡ false → (is_free (slot_at m k).state ≡ false) × ((slot_at m' k).lsn ≡ (slot_at m k).lsn)
  had_segment k used = elim (changes k) [ inl kept ↦ (sym kept.free ∙ used, kept.lsn) | inr lost ↦ absurd (true≢false (sym lost.free ∙ used)) ]

  -- One whose segment ends above the place has it still.
  pub has_segment : (k : ℕ) → is_free (slot_at m k).state ≡ false → base < (slot_at m k).lsn + size
      → (is_free (slot_at m' k).state ≡ false) × ((slot_at m' k).lsn ≡ (slot_at m k).lsn)
  has_segment k used high = elim (changes k) [ inl kept ↦ (kept.free ∙ used, kept.lsn) | inr lost ↦ absurd (let low = lost.below in omega (arith, low, high)) ]

  -- So each has a segment of its own,
  pub own_lost : (end : ℕ) → HaveOwn size end m → HaveOwn size end m'
  own_lost end own = record {
    aligned = λ k used. let had = had_segment k used in ap (λ n. n % size) had.1 ∙ own.aligned k had.0;
    below = λ k used. let had = had_segment k used in let low = own.below k had.0 in omega (arith, low, had.1);
    one = λ j k used other same.
        let had = had_segment j used in let has = had_segment k other in own.one j k had.0 has.0 (sym had.1 ∙ same ∙ has.1);
  }

  -- those of the line, which begins no lower, have their slots,
  pub slot_lost : (v : SegmentView) → base ≤ v.parts.site.place → HasSlot size m v → HasSlot size m' v
  slot_lost v low has =
      let is = has.is in
      let now = has_segment has.number has.taken (omega (arith, is, low, some)) in
      record { number = has.number; lies = has.lies; taken = now.0; is = now.1 ∙ is }

  pub slots_lost : (line : List SegmentView) (log now : List ℕ) (fault : Option IoError) → ((v : SegmentView) → Contains line v → base ≤ v.parts.site.place)
      → (fault ≡ None → FreeAreZeros size now m') → HasSlots size line log fault m → HasSlots size line now fault m'
  slots_lost line log now fault low zeros has = record {
    taken = all_from_in (HasSlot size m') line (λ v there. slot_lost v (low v there) (All-contains (HasSlot size m) line v has.taken there));
    zeros = zeros;
    own = own_lost (line_end size line) has.own;
  }

  -- and slots have the numbers of their segments.
  pub numbers_lost : (sum : List ℕ → ℕ) (from higher : ℕ) → from ≤ higher → base ≤ higher → (s : State) (end : ℕ) → HasNumbers sum size from s m end
      → HasNumbers sum size higher s m' end
  numbers_lost sum from higher up over s end has = record {
    to_come = has.to_come;
    taken = λ k used. let had = had_segment k used in subst (λ n. HasNumber sum size s k (n / size)) (sym had.1) (has.taken k had.0);
    headers = λ k place mark low own.
        let its = has.headers k place mark (omega (arith, up, low)) own in
        let now = has_segment k its.0 (omega (arith, its.1, low, over, some)) in
        (now.0, now.1 ∙ its.1);
    lie = has.lie;
  }

  -- A message from the place on is in its slot still, and so is each entry of a table that needs nothing of a slot that lost its segment.
  in_slot_above : (e : Message) → base ≤ e.place → IsInSlot size m e → IsInSlot size m' e
  in_slot_above e above has =
      let is = has.lsn in
      let now = has_segment (slot_with size e) has.taken (omega (arith, is, above, lt_end e)) in
      record { taken = now.0; lsn = now.1 ∙ is }
    where
      lt_end : (x : Message) → x.place < x.place / size * size + size
      lt_end x = lt-div-mul-add some

  in_slot_needed : (e : Message) → ((k : ℕ) → LosesSegment size base (slot_at m k) (slot_at m' k) → slot_with size e ≡ k → ⊥) → IsInSlot size m e
      → IsInSlot size m' e
  in_slot_needed e needed has = elim (changes (slot_with size e)) [
    | inl kept ↦ record { taken = kept.free ∙ has.taken; lsn = kept.lsn ∙ has.lsn }
    | inr lost ↦ absurd (needed (slot_with size e) lost refl)
  ]

  -- So what tables need is in its slots, from a place on that isn't below.
  pub in_slots_lost : (sum : List ℕ → ℕ) (H : History) → Ascends H.messages → (from higher A : ℕ) → from ≤ higher → base ≤ higher
      → (NoHeaderOfZeros sum → higher ≤ A) → ((k : ℕ) → LosesSegment size base (slot_at m k) (slot_at m' k) → NoneNeeds size H k higher higher)
      → HaveSlots sum size from H A m → HaveSlots sum size higher H A m'
  in_slots_lost sum H order from higher A up over reached unneeded has = record {
    later = λ e there above. in_slot_above e (omega (arith, over, above)) (has.later e there (omega (arith, up, above)));
    older = λ page e entry.
        in_slot_needed e (λ k lost is. unneeded k lost higher (omega arith) (omega arith) page e entry is) (elim (cases_lt e.place from) [
          | inl under ↦ has.older page e (entry_earlier H order from higher page up e under entry)
          | inr above ↦ has.later e (from_table H higher page e entry).0 above
        ]);
    not_above = reached;
  }

  -- What stays of a history from a place on that isn't below lies in no slot that lost its segment: also as the log has it.
  pub stays_beside : (sum : List ℕ → ℕ) (H : History) (held A : ℕ) → base ≤ held → HaveSlots sum size held H A m
      → ((k : ℕ) → LosesSegment size base (slot_at m k) (slot_at m' k) → NoneNeeds size H k held held) → (x : Message) → StaysFrom (logged H) held x
      → (k : ℕ) → LosesSegment size base (slot_at m k) (slot_at m' k) → slot_with size x ≢ k
  stays_beside sum H held A over has unneeded x (inl entry) k lost =
      let found = from_map in_log (table H held x.page) x (subst (λ (l : List Message). Contains l x) (table_logged H held x.page) entry) in
      subst (λ (e : Message). slot_with size e ≢ k) found.2 (unneeded k lost held (omega arith) (omega arith) x.page found.0 found.1)
  stays_beside sum H held A over has unneeded x (inr (above, there)) k lost =
      let found = from_logged H x there in
      subst (λ (e : Message). slot_with size e ≢ k) found.2
      (apart found.0 (has.later found.0 found.1 (subst (λ (e : Message). held ≤ e.place) (sym found.2) above))
      (subst (λ (e : Message). held ≤ e.place) (sym found.2) above))
    where
      apart : (e : Message) → IsInSlot size m e → held ≤ e.place → slot_with size e ≢ k
      apart e is high same =
          let inside : e.place < e.place / size * size + size = lt-div-mul-add some in
          let at : (slot_at m k).lsn ≡ e.place / size * size = ap (λ j. (slot_at m j).lsn) (sym same) ∙ is.lsn in
          let low = lost.below in omega (arith, inside, at, low, high, over)

-- What stays of a history is in slots that have a segment.
pub stays_used : (sum : List ℕ → ℕ) (size : ℕ) (m : Machine) (H : History) (held A : ℕ) → HaveSlots sum size held H A m
    → (x : Message) → StaysFrom (logged H) held x → is_free (slot_at m (slot_with size x)).state ≡ false
stays_used sum size m H held A has x (inl entry) =
    let found = from_map in_log (table H held x.page) x (subst (λ (l : List Message). Contains l x) (table_logged H held x.page) entry) in
    subst (λ (e : Message). is_free (slot_at m (slot_with size e)).state ≡ false) found.2 (has.older x.page found.0 found.1).taken
stays_used sum size m H held A has x (inr (above, there)) =
    let found = from_logged H x there in
    subst (λ (e : Message). is_free (slot_at m (slot_with size e)).state ≡ false) found.2
    (has.later found.0 found.1 (subst (λ (e : Message). held ≤ e.place) (sym found.2) above)).taken
