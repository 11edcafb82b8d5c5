-- What the slots say of a history's messages while all of them are marked truthfully, and that a change of one slot keeps it.
use Rattle.std.proofs.Common.{⊎_elim, ◌≡◌, ◌≢◌, ◌∙◌, ◌⊎◌, ◌+◌, ◌%◌, ◌<◌, ◌≤◌, ℕ, true, false, List, length, Some, refl, sym, ap, subst, arith, inl, inr}
use Rattle.std.specs.List.{Contains}
use Rattle.std.proofs.lemmas.Bool.{true≢false, false≢true, cases_lt, cases_eq, cases_Bool}
use Rattle.sled_codec.specs.History.{Message, History}
use Rattle.sled_store.specs.Marks.{HasReplacement, slot_with}
use Rattle.sled_store.specs.Tracked.{at, IsHeld, IsActiveAt, IsActiveOrBelow, IsTracked}
use Rattle.sled_store.specs.SegmentStates.{SlotState, is_free, is_active, free_slot, taken_slot}
use Rattle.sled_store.specs.declared.segment.slot.State.{State}
use Rattle.sled_store.specs.declared.segment.slot.State.TheVariants.{Free, Active, Inactive, Draining}
use Rattle.sled_store.proofs.Segments.Elements.{in_nothing}
use Rattle.sled_store.proofs.Marks.SlotLemmas.{Changes, each_slot}

-- a segment in another slot than the one that has changed is as active as before
pub elsewhere : (ss : List SlotState) (k : ℕ) (s : SlotState) (new : List SlotState) → Changes ss k s new
    → (place : ℕ) (at_one : IsActiveAt ss place) → at_one.slot ≢ k → IsActiveAt new place
elsewhere ss k s new changes place at_one other =
    let same = changes.others at_one.slot other in
    record { slot = at_one.slot; active = ap (λ (x : SlotState). is_active x.state) same ∙ at_one.active; lsn = ap (λ (x : SlotState). x.lsn) same ∙ at_one.lsn }

-- a free slot isn't active
pub active_taken : (s : SlotState) → is_free s.state ≡ true → is_active s.state ≡ true → ⊥
active_taken s free active = by s.state free active where
  by : (st : State) → is_free st ≡ true → is_active st ≡ true → ⊥
  by Free free active = false≢true active
  by Active free active = false≢true free
  by Inactive free active = false≢true free
  by Draining free active = false≢true free

-- how a slot may change where its segment stays
pub record IsUpdate (size base : ℕ) (H : History) (ss : List SlotState) (old new : SlotState) : Type 0 where
  pub taken : is_free new.state ≡ false
  pub lsn : new.lsn ≡ old.lsn
  pub stable : is_active new.state ≡ false → new.lsn + size ≤ base
  pub pages : (page : ℕ) → Contains old.pages page → Contains new.pages page
  pub gone : (page : ℕ) → Contains new.gone page → HasReplacement size H new page
  pub latest : (place : ℕ) → new.latest ≡ Some place → IsActiveOrBelow size base ss place
  pub within : (page : ℕ) → Contains new.gone page → Contains new.pages page

-- a slot has no message of its own any more
pub record MayGo (size base : ℕ) (H : History) (Spent : Message → Type 0) (ss : List SlotState) (k : ℕ) : Type 0 where
  pub there : k < length ss
  pub not_active : is_active (at ss k).state ≡ false
  pub spent : (e : Message) → Contains H.messages e → IsHeld size (at ss k) e → Spent e
  pub waited : (place : ℕ) → (at ss k).latest ≡ Some place → place + size ≤ base

module _ (size base : ℕ) (H : History) (Spent : Message → Type 0) (ss : List SlotState) (tip : ℕ) (t : IsTracked size base H Spent ss tip) where
  -- A segment that stays keeps all of it.
  module _ (k : ℕ) (s : SlotState) (new : List SlotState) (changes : Changes ss k s new) (taken : is_free (at ss k).state ≡ false) (update : IsUpdate size base H ss (at ss k) s) where
    pub updated_active : (place : ℕ) → IsActiveOrBelow size base ss place → IsActiveOrBelow size base new place
    updated_active place (inr below) = inr below
    updated_active place (inl at_one) = by_slot (cases_eq at_one.slot k) where
      by_slot : (at_one.slot ≡ k) ⊎ (at_one.slot ≢ k) → IsActiveOrBelow size base new place
      by_slot (inl is) =
          let lsn : (at ss k).lsn ≡ place = subst (λ (i : ℕ). (at ss i).lsn ≡ place) is at_one.lsn in
          ⊎_elim (λ still. inl (record { slot = k; active = ap (λ (x : SlotState). is_active x.state) changes.here ∙ still; lsn = ap (λ (x : SlotState). x.lsn) changes.here ∙ update.lsn ∙ lsn }))
          (λ none. inr (omega (arith, lsn, update.lsn, update.stable none))) (cases_Bool (is_active s.state))
      by_slot (inr other) = inl (elsewhere ss k s new changes place at_one other)

    updated_held : (e : Message) (j : ℕ) → IsHeld size (at ss j) e → IsHeld size (at new j) e
    updated_held e = each_slot (λ j x. IsHeld size (at ss j) e → IsHeld size x e) ss k s new changes
        (λ held. record { taken = update.taken; lsn = held.lsn ∙ sym update.lsn; page = update.pages e.page held.page }) (λ j other held. held)

    -- each segment was there before
    updated_was : (j : ℕ) → is_free (at new j).state ≡ false → (is_free (at ss j).state ≡ false) × ((at new j).lsn ≡ (at ss j).lsn)
    updated_was = each_slot (λ j x. is_free x.state ≡ false → (is_free (at ss j).state ≡ false) × (x.lsn ≡ (at ss j).lsn)) ss k s new changes (λ there. (taken, update.lsn)) (λ j other there. (there, refl))

    pub updated : IsTracked size base H Spent new tip
    updated = record {
      cut_off = each_slot (λ j x. tip ≤ j → is_free x.state ≡ true) ss k s new changes (λ le. absurd (true≢false (sym (t.cut_off k le) ∙ taken))) (λ j other le. t.cut_off j le);
      messages = λ e there. ⊎_elim (λ held. inl (updated_held e (slot_with size e) held)) (λ spent. inr spent) (t.messages e there);
      gone = each_slot (λ j x. (page : ℕ) → Contains x.gone page → HasReplacement size H x page) ss k s new changes update.gone (λ j other. t.gone j);
      latest = each_slot (λ j x. (place : ℕ) → x.latest ≡ Some place → IsActiveOrBelow size base new place) ss k s new changes
          (λ place is. updated_active place (update.latest place is)) (λ j other place is. updated_active place (t.latest j place is));
      within = each_slot (λ j x. (page : ℕ) → Contains x.gone page → Contains x.pages page) ss k s new changes update.within (λ j other. t.within j);
      stable = each_slot (λ j x. is_free x.state ≡ false → is_active x.state ≡ false → x.lsn + size ≤ base) ss k s new changes (λ there none. update.stable none) (λ j other. t.stable j);
      aligned = λ j there. let was = updated_was j there in subst (λ (n : ℕ). n % size ≡ 0) (sym was.1) (t.aligned j was.0);
      apart = λ i j one two same. let was = updated_was i one in let other = updated_was j two in t.apart i j was.0 other.0 (sym was.1 ∙ same ∙ other.1);
    }

  -- A slot that no segment was in is handed out.
  module _ (k place : ℕ) (new : List SlotState) (tip' : ℕ) (changes : Changes ss k (taken_slot place) new) (free : is_free (at ss k).state ≡ true) (lt : k < tip') (le : tip ≤ tip')
      (aligned : place % size ≡ 0) (above : (j : ℕ) → is_free (at ss j).state ≡ false → (at ss j).lsn < place) where
    other_active : (l : ℕ) → IsActiveOrBelow size base ss l → IsActiveOrBelow size base new l
    other_active l (inr below) = inr below
    other_active l (inl at_one) =
        inl (elsewhere ss k (taken_slot place) new changes l at_one (λ is. active_taken (at ss k) free (subst (λ (i : ℕ). is_active (at ss i).state ≡ true) is at_one.active)))

    -- each segment was there before, or is the new one
    taken_was : (j : ℕ) → is_free (at new j).state ≡ false → ((j ≡ k) × ((at new j).lsn ≡ place)) ⊎ ((is_free (at ss j).state ≡ false) × ((at new j).lsn ≡ (at ss j).lsn))
    taken_was = each_slot (λ j x. is_free x.state ≡ false → ((j ≡ k) × (x.lsn ≡ place)) ⊎ ((is_free (at ss j).state ≡ false) × (x.lsn ≡ (at ss j).lsn))) ss k (taken_slot place) new changes
        (λ there. inl (refl, refl)) (λ j other there. inr (there, refl))

    taken_apart : (i j : ℕ) → is_free (at new i).state ≡ false → is_free (at new j).state ≡ false → (at new i).lsn ≡ (at new j).lsn → i ≡ j
    taken_apart i j one two same = by (taken_was i one) (taken_was j two) where
      by : ((i ≡ k) × ((at new i).lsn ≡ place)) ⊎ ((is_free (at ss i).state ≡ false) × ((at new i).lsn ≡ (at ss i).lsn))
          → ((j ≡ k) × ((at new j).lsn ≡ place)) ⊎ ((is_free (at ss j).state ≡ false) × ((at new j).lsn ≡ (at ss j).lsn)) → i ≡ j
      by (inl x) (inl y) = x.0 ∙ sym y.0
      by (inl x) (inr y) = absurd (omega (arith, same, x.1, y.1, above j y.0))
      by (inr x) (inl y) = absurd (omega (arith, same, x.1, y.1, above i x.0))
      by (inr x) (inr y) = t.apart i j x.0 y.0 (sym x.1 ∙ same ∙ y.1)

    pub taken_out : IsTracked size base H Spent new tip'
    taken_out = record {
      cut_off = each_slot (λ j x. tip' ≤ j → is_free x.state ≡ true) ss k (taken_slot place) new changes (λ above. absurd (omega (arith, above, lt))) (λ j other above. t.cut_off j (omega (arith, above, le)));
      messages = λ e there. ⊎_elim (λ held. inl (still_held e (slot_with size e) held)) (λ spent. inr spent) (t.messages e there);
      gone = each_slot (λ j x. (page : ℕ) → Contains x.gone page → HasReplacement size H x page) ss k (taken_slot place) new changes (λ page there. absurd (in_nothing page there)) (λ j other. t.gone j);
      latest = each_slot (λ j x. (l : ℕ) → x.latest ≡ Some l → IsActiveOrBelow size base new l) ss k (taken_slot place) new changes (λ l is. cc) (λ j other l is. other_active l (t.latest j l is));
      within = each_slot (λ j x. (page : ℕ) → Contains x.gone page → Contains x.pages page) ss k (taken_slot place) new changes (λ page there. there) (λ j other. t.within j);
      stable = each_slot (λ j x. is_free x.state ≡ false → is_active x.state ≡ false → x.lsn + size ≤ base) ss k (taken_slot place) new changes (λ there none. absurd (true≢false none)) (λ j other. t.stable j);
      aligned = each_slot (λ j x. is_free x.state ≡ false → x.lsn % size ≡ 0) ss k (taken_slot place) new changes (λ there. aligned) (λ j other. t.aligned j);
      apart = taken_apart;
    } where
      still_held : (e : Message) (j : ℕ) → IsHeld size (at ss j) e → IsHeld size (at new j) e
      still_held e = each_slot (λ j x. IsHeld size (at ss j) e → IsHeld size x e) ss k (taken_slot place) new changes (λ held. absurd (true≢false (sym free ∙ held.taken))) (λ j other held. held)

  -- A slot that has no message of its own any more is freed.
  module _ (k : ℕ) (new : List SlotState) (tip' : ℕ) (changes : Changes ss k free_slot new) (goes : MayGo size base H Spent ss k) (cut_off : (j : ℕ) → tip' ≤ j → j < tip → is_free (at new j).state ≡ true) where
    left_active : (l : ℕ) → IsActiveOrBelow size base ss l → IsActiveOrBelow size base new l
    left_active l (inr below) = inr below
    left_active l (inl at_one) =
        inl (elsewhere ss k free_slot new changes l at_one (λ is. true≢false (sym (subst (λ (i : ℕ). is_active (at ss i).state ≡ true) is at_one.active) ∙ goes.not_active)))

    left_messages : (e : Message) → Contains H.messages e → (j : ℕ) → IsHeld size (at ss j) e → IsHeld size (at new j) e ⊎ Spent e
    left_messages e there = each_slot (λ j x. IsHeld size (at ss j) e → IsHeld size x e ⊎ Spent e) ss k free_slot new changes (λ held. inr (goes.spent e there held)) (λ j other held. inl held)

    -- each segment was there before
    left_was : (j : ℕ) → is_free (at new j).state ≡ false → (is_free (at ss j).state ≡ false) × ((at new j).lsn ≡ (at ss j).lsn)
    left_was = each_slot (λ j x. is_free x.state ≡ false → (is_free (at ss j).state ≡ false) × (x.lsn ≡ (at ss j).lsn)) ss k free_slot new changes (λ there. absurd (true≢false there)) (λ j other there. (there, refl))

    pub left_free : IsTracked size base H Spent new tip'
    left_free = record {
      cut_off = λ j le. ⊎_elim (λ lt. cut_off j le lt) (λ above. each_slot (λ i x. tip ≤ i → is_free x.state ≡ true) ss k free_slot new changes (λ high. refl) (λ i other high. t.cut_off i high) j above) (cases_lt j tip);
      messages = λ e there. ⊎_elim (λ held. left_messages e there (slot_with size e) held) (λ spent. inr spent) (t.messages e there);
      gone = each_slot (λ j x. (page : ℕ) → Contains x.gone page → HasReplacement size H x page) ss k free_slot new changes (λ page there. absurd (in_nothing page there)) (λ j other. t.gone j);
      latest = each_slot (λ j x. (l : ℕ) → x.latest ≡ Some l → IsActiveOrBelow size base new l) ss k free_slot new changes (λ l is. cc) (λ j other l is. left_active l (t.latest j l is));
      within = each_slot (λ j x. (page : ℕ) → Contains x.gone page → Contains x.pages page) ss k free_slot new changes (λ page there. there) (λ j other. t.within j);
      stable = each_slot (λ j x. is_free x.state ≡ false → is_active x.state ≡ false → x.lsn + size ≤ base) ss k free_slot new changes (λ there none. absurd (true≢false there)) (λ j other. t.stable j);
      aligned = each_slot (λ j x. is_free x.state ≡ false → x.lsn % size ≡ 0) ss k free_slot new changes (λ there. absurd (true≢false there)) (λ j other. t.aligned j);
      apart = λ i j one two same. let was = left_was i one in let other = left_was j two in t.apart i j was.0 other.0 (sym was.1 ∙ same ∙ other.1);
    }
