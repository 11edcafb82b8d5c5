-- What marks make of an account: it is that of the history with the message that is marked; and what a mark makes stable keeps it, with a higher base.
use Rattle.std.proofs.Common.{⊎_elim, ◌≡◌, ◌≢◌, ◌∙◌, ◌+◌, ◌<◌, ◌≤◌, ℕ, ℤ, max, true, false, List, [], sym, ap, subst, arith, inr}
use Rattle.std.specs.List.{Contains}
use Rattle.std.proofs.lemmas.Bool.{true≢false, cases_lt, cases_eq}
use Rattle.sled_codec.specs.History.{Message, History, begins_page, page_state, of_page, table, no_history}
use Rattle.sled_codec.proofs.Histories.{table_stays}
use Rattle.sled_store.specs.Marks.{Completes, IsFormerList, IsIn, IsNeeded, IsNewPlace, IsPast, info_of, slot_with}
use Rattle.sled_store.specs.SegmentStates.{Machine, MayMark, handed_out, is_due, is_free, linked, next_slot, replaced, slot_at, stabilized, unused_machine}
use Rattle.sled_store.specs.Tracked.{IsAccountOf, IsHeld, IsNoEntry}
use Rattle.sled_store.specs.declared.segment.slot.CacheInfo.{CacheInfo}
use Rattle.sled_store.proofs.Histories.Ascending.{Ascends, same_messages}
use Rattle.sled_store.proofs.Histories.EarlierEntries.{entry_earlier}
use Rattle.sled_store.proofs.Histories.TableParts.{from_page, in_page, page_ascends}
use Rattle.sled_store.proofs.Segments.TableEntries.{from_table}
use Rattle.sled_store.proofs.Marks.MarkSteps.{handed_out_tracks, next_free}
use Rattle.sled_store.proofs.Marks.MarkedLemmas.{linked_message, more_tracks, not_superseded, replaced_message, unused_tracks}
use Rattle.sled_store.proofs.Marks.StabilizeSteps.{stabilized_tracks}
use Rattle.sled_store.proofs.Marks.TableLemmas.{added_ascends, added_cases, added_keeps}

-- Tables.

-- two tables of one page are the same where their histories have the same messages of it below their cuts
same_tables : (H G : History) (cut low page : ℕ) → Ascends H.messages → Ascends G.messages
    → ((x : Message) → Contains H.messages x → x.page ≡ page → x.place < cut → Contains G.messages x × (x.place < low))
    → ((x : Message) → Contains G.messages x → x.page ≡ page → x.place < low → Contains H.messages x × (x.place < cut)) → table H cut page ≡ table G low page
unfolding table
same_tables H G cut low page first other to back =
    ap page_state (same_messages (of_page H.messages cut page) (of_page G.messages low page) (page_ascends H.messages cut page first) (page_ascends G.messages low page other)
    (λ x there.
    let from = from_page H.messages cut page x there in
    let its = to x from.0 from.1 from.2 in in_page G.messages low page x its.0 from.1 its.1)
    (λ x there.
    let from = from_page G.messages low page x there in
    let its = back x from.0 from.1 from.2 in in_page H.messages cut page x its.0 from.1 its.1))

-- and where all their messages are the same
table_of : (H G : History) → G.messages ≡ H.messages → (cut page : ℕ) → table G cut page ≡ table H cut page
unfolding table
table_of H G same cut page = ap (λ (ms : List Message). page_state (of_page ms cut page)) same

module _ (H : History) (order : Ascends H.messages) (x : Message) (H' : History) (completes : Completes H x H') where
  -- A message that was completed before the newest one of its page is an entry of no table that didn't have it.
  pub entry_before : (e : Message) → Contains H.messages e → (cut : ℕ) → Contains (table H' cut e.page) e → Contains (table H cut e.page) e
  entry_before e there cut entry = ⊎_elim own other (cases_eq x.page e.page) where
    order' : Ascends H'.messages
    order' = added_ascends H x H' completes.adds order

    others : (x.page ≢ e.page) → (y : Message) → Contains H'.messages y → y.page ≡ e.page → Contains H.messages y
    others apart y found page = ⊎_elim (λ is. absurd (apart (ap (λ (n : Message). n.page) is ∙ page))) (λ old. old) (added_cases H x H' completes.adds y found)

    other : x.page ≢ e.page → Contains (table H cut e.page) e
    other apart =
        let same : table H' cut e.page ≡ table H cut e.page = same_tables H' H cut cut e.page order' order (λ y found page lt. (others apart y found page, lt))
        (λ y found page lt. (added_keeps H x H' completes.adds y found, lt)) in
        subst (λ (l : List Message). Contains l e) same entry

    behind : x.page ≡ e.page → x.place < cut → Contains (table H cut e.page) e
    behind page lt =
        let below : e.place < x.place = completes.newest e there (sym page) in
        let early : Contains (table H' x.place e.page) e = entry_earlier H' order' x.place cut e.page (omega (arith, lt)) e below entry in
        let had : Contains (table H x.place e.page) e = subst (λ (l : List Message). Contains l e) (table_stays H H' x x.place e.page completes.adds (omega arith)) early in
        let same : table H x.place e.page ≡ table H cut e.page = same_tables H H x.place cut e.page order order (λ y found its low. (found, omega (arith, low, lt)))
        (λ y found its low. (found, completes.newest y found (its ∙ sym page))) in
        subst (λ (l : List Message). Contains l e) same had

    own : x.page ≡ e.page → Contains (table H cut e.page) e
    own page = ⊎_elim (behind page) (λ le. subst (λ (l : List Message). Contains l e) (table_stays H H' x cut e.page completes.adds le) entry) (cases_lt x.place cut)

-- the table of all messages is the one below any cut that is higher
pub past_table : (H : History) (order : Ascends H.messages) (cut high page : ℕ) → IsPast H cut → cut ≤ high → table H cut page ≡ table H high page
past_table H order cut high page past le = same_tables H H cut high page order order (λ y found page lt. (found, omega (arith, lt, le))) (λ y found page lt. (found, past y found))

-- Accounts.

-- nothing was marked, and no segment begun
pub unused_account : (size base : ℕ) → IsAccountOf size base no_history unused_machine
unused_account size base = unused_tracks size base (IsNoEntry no_history base)

module _ (size base : ℕ) (H : History) (m : Machine) (t : IsAccountOf size base H m) where
  -- what a table from the base on has is in its slot
  pub entry_in_slot : (cut page : ℕ) (e : Message) → base ≤ cut → Contains (table H cut page) e → IsHeld size (slot_at m (slot_with size e)) e
  entry_in_slot cut page e le entry =
      let from = from_table H cut page e entry in
      ⊎_elim (λ held. held) (λ none. absurd (none cut le (subst (λ (p : ℕ). Contains (table H cut p) e) (sym from.1) entry))) (t.messages e from.0)

  -- and so the segment that it needs is in another slot than the next one
  pub needed_in_slot : (cut place : ℕ) → base ≤ cut → IsNeeded size H cut place → (k : ℕ) × IsIn m k place × (k ≢ next_slot m)
  needed_in_slot cut place le needed =
      let e : Message = needed.entry in
      let held : IsHeld size (slot_at m (slot_with size e)) e = entry_in_slot cut needed.page e le needed.there in (
        slot_with size e,
        record { taken = held.taken; lsn = sym held.lsn ∙ needed.within },
        λ is. true≢false (sym (next_free size base H (IsNoEntry H base) m t) ∙ subst (λ (i : ℕ). is_free (slot_at m i).state ≡ false) is held.taken),
      )

  -- the same messages make the same account
  pub same_account : (G : History) → G.messages ≡ H.messages → IsAccountOf size base G m
  same_account G same =
      more_tracks size base base H G (IsNoEntry H base) (IsNoEntry G base) m t (omega arith) (λ x there. subst (λ (ms : List Message). Contains ms x) (sym same) there)
      (λ x there. inr (subst (λ (ms : List Message). Contains ms x) same there))
      (λ e there none cut le entry. none cut le (subst (λ (l : List Message). Contains l e) (table_of H G same cut e.page) entry))

  pub handed_out_account : (place : ℕ) → IsNewPlace size place m → IsAccountOf size base H (handed_out place m)
  handed_out_account place new_place = handed_out_tracks size base H (IsNoEntry H base) m place t new_place

  -- nothing is read of the cleaner
  pub popped_account : (left : List (ℕ × List ℕ)) → IsAccountOf size base H (record { slots = m.slots; tip = m.tip; cleaner = left })
  popped_account left = t

module _ (size base : ℕ) (H : History) (m : Machine) (some : 0 < size) (order : Ascends H.messages) (t : IsAccountOf size base H m) where
  module _ (x : Message) (H' : History) (completes : Completes H x H') (may : MayMark size m (info_of x) []) where
    still_none : (e : Message) → Contains H.messages e → IsNoEntry H base e → IsNoEntry H' base e
    still_none e there none cut le entry = none cut le (entry_before H order x H' completes e there cut entry)

    -- a message is linked
    pub linked_account : IsAccountOf size base H' (linked size x.page (info_of x) m)
    linked_account = linked_message size base H m some (IsNoEntry H base) (IsNoEntry H' base) t x H' completes may still_none

    -- or is there in place of all that its page was
    pub replaced_account : (old : List CacheInfo) → begins_page x.kind ≡ true → IsFormerList H x.page old
        → IsAccountOf size base H' (replaced size x.page (info_of x) old m)
    replaced_account old begins former =
        replaced_message size base H m some (IsNoEntry H base) (IsNoEntry H' base) t x H' completes may still_none old former
        (λ e entry. entry_in_slot size base H m t (max base former.cut) x.page e (omega arith) (subst (λ (l : List Message). Contains l e) (past_table H order former.cut (max base former.cut) x.page former.past (omega arith)) entry))
        begins

  -- A mark is made stable whose segment lies at a higher base, or below.
  pub stabilized_account : (next : ℤ) (raised : ℕ) → base ≤ raised → ((place : ℕ) → is_due size next place ≡ true → place + size ≤ raised)
      → IsAccountOf size raised H (stabilized size next m).machine
  stabilized_account next raised le due =
      stabilized_tracks size raised H (IsNoEntry H raised) some (λ e by cut low entry. not_superseded size raised H cut e.page e some order entry low by) m next
      (more_tracks size base raised H H (IsNoEntry H base) (IsNoEntry H raised) m t le (λ x there. there) (λ x there. inr there) (λ x there none cut low. none cut (omega (arith, low, le)))) due
