-- The slots with which a log begins are the account of the history: each message of the table that the snapshot is lies in the slot of its segment, and no table from the stable place on has another one.
use Rattle.std.proofs.Common.{if◌then◌else◌, ⊎_elim, ◌≡◌, ◌⊎◌, ◌↔◌, ◌∙◌, ◌-◌, ◌==◌, ◌+◌, ◌*◌, ◌/◌, ◌%◌, ◌≤◌, ◌<◌, ℕ, ℤ, zero, suc, pos, unsigned_abs, Bool, true, false, not, List, [], ◌∷◌, ◌++◌, filter, length, get_or, Option, None, Some, IfSome, refl, sym, ap, subst, arith, inl, inr, eq-eqb, eqb-true}
use Rattle.std.specs.List.{All, Contains, list_any}
use Rattle.std.proofs.lemmas.Bool.{cases_lt, cases_order, false≢true, true≢false}
use Rattle.std.proofs.lemmas.List.{get_or_past}
use Rattle.std.proofs.lemmas.List.Elements.{All-contains, Contains-append_right}
use Rattle.std.proofs.lemmas.List.FromFn.{get_or-map-range_with_len, length-map-range_with_len}
use Rattle.std.proofs.Math.Nat.{mod-add-div', mul-mod_left}
use Rattle.sled_codec.specs.declared.result.DiskPtr.TheVariants.{Inline}
use Rattle.sled_codec.specs.History.{History, Message, table}
use Rattle.sled_codec.specs.PageTables.{IsTable}
use Rattle.sled_codec.specs.Pointers.{lid_of}
use Rattle.sled_codec.specs.Coords.{raised}
use Rattle.sled_codec.specs.Snapshots.{Entry, Page, SnapshotModel, Uninitialized, stable_place}
use Rattle.sled_store.specs.Begin.{IsPlacedIn, IsStartable, entries_in, entries_of, is_active, place_at, segment_number_of, slot_of, slots_of}
use Rattle.sled_store.specs.Device.{State}
use Rattle.sled_store.specs.Marks.{slot_with}
use Rattle.sled_store.specs.Outdated.{AreOutdated}
use Rattle.sled_store.specs.SegmentStates.{Machine, SlotState, free_slot, is_free, left_after, next_slot, slot_at}
use Rattle.sled_store.specs.SegmentStates as states
use Rattle.sled_store.specs.SnapshotFiles.{BeginsFrom}
use Rattle.sled_store.specs.SlotTables.{active_entry, number_in}
use Rattle.sled_store.specs.Started.{all_entries, found, found_slot, pages_in, started, used_state}
use Rattle.sled_store.specs.Tracked.{IsAccountOf, IsHeld, IsNoEntry}
use Rattle.sled_store.proofs.Accounts.StartNext.{cut_free}
use Rattle.sled_store.proofs.Histories.Ascending.{Ascends, one_at_place}
use Rattle.sled_store.proofs.Names.OneBegin.{one_begin}
use Rattle.sled_store.proofs.Marks.AccountSteps.{entry_in_slot, handed_out_account, past_table, same_account}
use Rattle.sled_store.proofs.Marks.DeactivationSteps.{any_in}
use Rattle.sled_store.proofs.Marks.OutdatedSteps.{handed_blobs, outdated_still}
use Rattle.sled_store.proofs.Marks.TableLemmas.{apart_ascends}
use Rattle.sled_store.proofs.Segments.Elements.{in_cases, in_first, in_nothing, in_rest}
use Rattle.sled_store.proofs.Segments.EntryLemmas.{first_in, none_in}
use Rattle.sled_store.proofs.Segments.StartLemmas.{startable_fits}
use Rattle.sled_store.proofs.Segments.TableEntries.{from_table}
use Rattle.sled_core.specs.FreeSlots.{begun_machine, with_current}
use Rattle.sled_core.specs.Fits.{EndBelow}
use Rattle.sled_core.specs.Logged.{logged}
use Rattle.sled_core.specs.Unmarked.{is_among, without}
use Rattle.sled_core.specs.inside.Recoverable.{ActiveFits}
use Rattle.sled_core.specs.inside.Running.{IsReadyFor}
use Rattle.sled_core.specs.NoForeign.{NoHeaderOfZeros}
use Rattle.sled_core.specs.declared.logger.joined_marks.JoinedMarks.{JoinedMarks}
use Rattle.sled_core.specs.inside.Numbers.{HaveSlots, HaveSlotsFrom}
use Rattle.sled_core.specs.inside.Slots.{HasAccount}
use Rattle.sled_core.proofs.Logged.Alike.{table_alike}
use Rattle.sled_core.proofs.Logged.Messages.{logged_apart, logged_below, logged_twice}
use Rattle.sled_core.proofs.Start.Entries.{HasEntry, from_any, table_entry}
use Rattle.sled_core.proofs.Start.OwnSlots.{HasFound, found_taken, low_active, low_raised, own_started}
use Rattle.sled_core.proofs.Start.UsedEntries.{page_used}
use Rattle.sled_core.proofs.Tail.MarkPlaces.{held_begun}
use Rattle.sled_core.proofs.Tail.Multiples.{apart, same_number}
use Rattle.sled_core.specs.LogSegments.{held_from}
use Rattle.sled_core.specs.inside.LogSegments.{held_since}

-- A page with an entry in a slot is among those of the slot.
pages_there : (size k i : ℕ) (ps : List Page) (n : ℕ) → list_any (λ e. slot_of size e == k) (entries_in (get_or ps n Uninitialized)) ≡ true → Contains (pages_in size k i ps) (i + n)
pages_there size k i [] n is = absurd (false≢true is)
pages_there size k i (p ∷ ps) zero is =
    subst (λ (b : Bool). Contains (if b then i ∷ pages_in size k (suc i) ps else pages_in size k (suc i) ps) (i + 0)) (sym is) (subst (Contains (i ∷ pages_in size k (suc i) ps)) (omega arith) (in_first i (pages_in size k (suc i) ps)))
pages_there size k i (p ∷ ps) (suc n) is = by (list_any (λ e. slot_of size e == k) (entries_in p)) (subst (Contains (pages_in size k (suc i) ps)) (omega arith) (pages_there size k (suc i) ps n is)) where
  by : (b : Bool) → Contains (pages_in size k (suc i) ps) (i + suc n) → Contains (if b then i ∷ pages_in size k (suc i) ps else pages_in size k (suc i) ps) (i + suc n)
  by true rest = in_rest i (i + suc n) (pages_in size k (suc i) ps) rest
  by false rest = rest

module _ (size len : ℕ) (some : 0 < size) (s : SnapshotModel) (startable : IsStartable size len s) where
  abbrev stable : ℕ
  stable = stable_place s.stable

  abbrev slots : ℕ
  slots = slots_of size len

  abbrev start : Machine
  start = (started size len s).machine

  abbrev number_at : ℕ → Option ℕ
  number_at k = number_in size k (all_entries s)

  -- A slot of the file is as it was found,
  found_at : (k : ℕ) → k < slots → slot_at start k ≡ found_slot size s k (number_at k)
  found_at k inside = get_or-map-range_with_len (λ j. found_slot size s j (number_at j)) 0 slots k k free_slot inside (omega arith)

  -- and one behind them is free.
  found_behind : (k : ℕ) → slots ≤ k → slot_at start k ≡ free_slot
  found_behind k past = get_or_past (found size slots s).slots k free_slot (let long = length-map-range_with_len (λ j. found_slot size s j (number_at j)) 0 slots in omega (arith, long, past))

  -- What is so of a free slot and of each that is found is so of all.
  each : (P : SlotState → Type 0) → P free_slot → ((k : ℕ) (o : Option ℕ) → P (found_slot size s k o)) → (k : ℕ) → P (slot_at start k)
  each P free of_found k = ⊎_elim (λ inside. subst P (sym (found_at k inside)) (of_found k (number_at k))) (λ past. subst P (sym (found_behind k past)) free) (cases_lt k slots)

  none_gone : (k : ℕ) → (slot_at start k).gone ≡ []
  none_gone = each (λ x. x.gone ≡ []) refl by where
    by : (k : ℕ) (o : Option ℕ) → (found_slot size s k o).gone ≡ []
    by k None = refl
    by k (Some n) = refl

  none_latest : (k : ℕ) → (slot_at start k).latest ≡ None
  none_latest = each (λ x. x.latest ≡ None) refl by where
    by : (k : ℕ) (o : Option ℕ) → (found_slot size s k o).latest ≡ None
    by k None = refl
    by k (Some n) = refl

  none_blobs : (k : ℕ) → (slot_at start k).blobs ≡ []
  none_blobs = each (λ x. x.blobs ≡ []) refl by where
    by : (k : ℕ) (o : Option ℕ) → (found_slot size s k o).blobs ≡ []
    by k None = refl
    by k (Some n) = refl

  -- No blob goes with a segment where the accountant has started, nor once the log has begun its own.
  started_outdated : (H : History) → AreOutdated size H start
  started_outdated H k blob there = absurd (in_nothing blob (subst (λ (l : List ℤ). Contains l blob) (none_blobs k) there))

  pub begun_outdated : (H : History) → AreOutdated size H (begun_machine size len s)
  begun_outdated H = by s.active where
    by : (o : Option ℕ) → AreOutdated size H (with_current (place_at size stable o) o start)
    by (Some a) = started_outdated H
    by None = outdated_still size H start (states.handed_out (raised size stable) start) (started_outdated H) (handed_blobs start (raised size stable))

  cut_off : (k : ℕ) → start.tip ≤ k → is_free (slot_at start k).state ≡ true
  cut_off k le = ⊎_elim (λ inside. cut_free slots (found size slots s).slots k le inside) (λ past. ap (λ (x : SlotState). is_free x.state) (found_behind k past)) (cases_lt k slots)

  -- A segment is active where it is that of the snapshot's active slot.
  idle_is : (k : ℕ) → is_free (slot_at start k).state ≡ false → states.is_active (slot_at start k).state ≡ false → is_active size s.active k ≡ false
  idle_is k taken idle = ⊎_elim (λ inside. by (number_at k) (found_at k inside)) (λ past. absurd (true≢false (sym (ap (λ (x : SlotState). is_free x.state) (found_behind k past)) ∙ taken))) (cases_lt k slots) where
    of_state : (b : Bool) → states.is_active (used_state b) ≡ b
    of_state true = refl
    of_state false = refl

    by : (o : Option ℕ) → slot_at start k ≡ found_slot size s k o → is_active size s.active k ≡ false
    by None is = absurd (true≢false (sym (ap (λ (x : SlotState). is_free x.state) is) ∙ taken))
    by (Some n) is = sym (of_state (is_active size s.active k)) ∙ sym (ap (λ (x : SlotState). states.is_active x.state) is) ∙ idle

  -- An entry is of the segment of the stable place, or of a lower one, which ends there or below.
  low_or_last : (e : Entry) → Contains (entries_of s.pages) e → (segment_number_of size e ≡ stable / size) ⊎ (segment_number_of size e * size + size ≤ stable)
  low_or_last e among =
      let placed = All-contains (IsPlacedIn size slots stable) (entries_of s.pages) e startable.placed among in
      let low : unsigned_abs e.0 < stable = placed.below in
      let at = mod-add-div' (unsigned_abs e.0) size in
      let whole = mod-add-div' stable size in
      let inside : stable % size < size = omega (arith, some) in
      let one : segment_number_of size e * size % size ≡ 0 = mul-mod_left (segment_number_of size e) size in
      let other : stable / size * size % size ≡ 0 = mul-mod_left (stable / size) size in
      elim (cases_order (segment_number_of size e * size) (stable / size * size)) [
        | inl same ↦ inl (same_number size (segment_number_of size e) (stable / size) some same)
        | inr (inl under) ↦ inr (let far = apart size some (segment_number_of size e * size) (stable / size * size) one other under in omega (arith, far, whole))
        | inr (inr over) ↦ absurd (let far = apart size some (stable / size * size) (segment_number_of size e * size) other one over in omega (arith, far, whole, inside, at, low))
      ]

  -- Each ends where the segment in which the log begins does, at most.
  entries_low : (e : Entry) → Contains (all_entries s) e → segment_number_of size e * size + size ≤ place_at size stable s.active + size
  entries_low e there = by s.active refl where
    by : (o : Option ℕ) → s.active ≡ o → segment_number_of size e * size + size ≤ place_at size stable o + size
    by (Some a) active = low_active size len some s startable a e (subst (λ (o : Option ℕ). Contains (active_entry stable o ++ entries_of s.pages) e) active there)
    by None none = let low = low_raised size len some s startable e (subst (λ (o : Option ℕ). Contains (active_entry stable o ++ entries_of s.pages) e) none there) in omega (arith, low)

  -- A segment that isn't active ends at the stable place or below.
  module _ (fits : ActiveFits size stable s.active) (k : ℕ) (taken : is_free (slot_at start k).state ≡ false) where
    idle_low : states.is_active (slot_at start k).state ≡ false → (slot_at start k).lsn + size ≤ stable
    idle_low idle = by s.active refl (found_taken size len some s k taken) (idle_is k taken idle) where
      Listed : Option ℕ → Entry → Type 0
      Listed o e = Contains (active_entry stable o ++ entries_of s.pages) e

      by : (o : Option ℕ) → s.active ≡ o → HasFound size len some s k → is_active size s.active k ≡ false → (slot_at start k).lsn + size ≤ stable
      by None none e idle_here =
          let is = e.is in
          let end : stable % size ≡ 0 = subst (ActiveFits size stable) none fits in
          let among : Contains (entries_of s.pages) e.entry = subst (λ (o : Option ℕ). Listed o e.entry) none e.among in
          let placed = All-contains (IsPlacedIn size slots stable) (entries_of s.pages) e.entry startable.placed among in
          let low : unsigned_abs e.entry.0 < stable = placed.below in
          let at = mod-add-div' (unsigned_abs e.entry.0) size in
          let whole = mod-add-div' stable size in
          ⊎_elim (λ last. absurd (let same = ap (λ n. n * size) last in omega (arith, same, at, low, whole, end))) (λ far. omega (arith, is, far)) (low_or_last e.entry among)
      by (Some a) active e idle_here =
          let is = e.is in
          let out : (a / size == k) ≡ false = ap (λ (o : Option ℕ). is_active size o k) (sym active) ∙ idle_here in
          let not_here : a / size ≡ k → ⊥ = λ here. true≢false (sym (eq-eqb (a / size) k here) ∙ out) in
          elim (in_cases (pos stable, Inline a, 0) e.entry (entries_of s.pages) (subst (λ (o : Option ℕ). Listed o e.entry) active e.among)) [
            | inl first ↦ absurd (not_here (ap (λ (x : Entry). slot_of size x) first ∙ e.slot))
            | inr among ↦ ⊎_elim
                (λ last. absurd (not_here (sym ((of_active a active e.entry among).1 last) ∙ e.slot)))
                (λ far. omega (arith, is, far)) (low_or_last e.entry among)
          ]
        where
          of_active : (b : ℕ) → s.active ≡ Some b → (x : Entry) → Contains (entries_of s.pages) x → (slot_of size x ≡ b / size) ↔ (segment_number_of size x ≡ stable / size)
          of_active b active_b x there =
              All-contains (λ d. (slot_of size d ≡ b / size) ↔ (segment_number_of size d ≡ stable / size)) (entries_of s.pages) x
              (subst (λ (o : Option ℕ). IfSome o (λ c. All (λ d. (slot_of size d ≡ c / size) ↔ (segment_number_of size d ≡ stable / size)) (entries_of s.pages))) active_b startable.of_active) there

  module _ (H : History) (table_is : IsTable s.pages H stable) (order : Ascends H.messages) (below : (m : Message) → Contains H.messages m → m.place < stable) where
    -- An entry of the table is in its slot.
    entry_held : (e : Message) → Contains (table H stable e.page) e → IsHeld size (slot_at start (slot_with size e)) e
    entry_held e entry = by (number_at k) refl where
      k : ℕ
      k = slot_with size e

      has : HasEntry (entries_of s.pages) e
      has = table_entry s.pages H stable table_is e.page e entry

      slot : slot_of size has.entry ≡ k
      slot = ap (λ p. lid_of p / size) has.pointer

      number : segment_number_of size has.entry ≡ e.place / size
      number = ap (λ z. unsigned_abs z / size) has.place

      among : Contains (all_entries s) has.entry
      among = Contains-append_right (active_entry stable s.active) (entries_of s.pages) has.entry has.there

      inside : k < slots
      inside = subst (λ j. j < slots) slot (All-contains (IsPlacedIn size slots stable) (entries_of s.pages) has.entry startable.placed has.there).slot

      by : (o : Option ℕ) → number_at k ≡ o → IsHeld size (slot_at start k) e
      by None none = absurd (none_in size k (all_entries s) none has.entry among slot)
      by (Some n) is =
          let first = first_in size k (all_entries s) n is in
          let same : segment_number_of size first.0 ≡ segment_number_of size has.entry = ((startable_fits size len s startable).apart first.0 has.entry first.1 among).0 (first.2 ∙ sym slot) in
          let here : slot_at start k ≡ found_slot size s k (Some n) = found_at k inside ∙ ap (found_slot size s k) is in
          subst (λ (x : SlotState). IsHeld size x e) (sym here) (record {
            taken = used (is_active size s.active k);
            lsn = ap (λ j. j * size) (sym number ∙ sym same ∙ first.3);
            page = (let same : 0 + e.page ≡ e.page = omega arith in subst (Contains (pages_in size k 0 s.pages)) same (pages_there size k 0 s.pages e.page (page_used size s.pages H stable table_is e.page e entry)));
          })
        where
          used : (b : Bool) → is_free (used_state b) ≡ false
          used true = refl
          used false = refl

    -- A message is one, or no table from the stable place on has it.
    held_or_none : (e : Message) → Contains H.messages e → IsHeld size (slot_at start (slot_with size e)) e ⊎ IsNoEntry H stable e
    held_or_none e there = by (list_any (λ (x : Message). x.place == e.place) (table H stable e.page)) refl where
      by : (b : Bool) → list_any (λ (x : Message). x.place == e.place) (table H stable e.page) ≡ b → IsHeld size (slot_at start (slot_with size e)) e ⊎ IsNoEntry H stable e
      by true is =
          let found_one = from_any (λ (x : Message). x.place == e.place) (table H stable e.page) is in
          let from = from_table H stable e.page found_one.0 found_one.1 in
          let same : found_one.0 ≡ e = one_at_place H.messages found_one.0 e order from.0 there (eqb-true found_one.0.place e.place found_one.2) in
          inl (entry_held e (subst (Contains (table H stable e.page)) same found_one.1))
      by false none = inr (λ cut le entry.
          let here : Contains (table H stable e.page) e = subst (λ (l : List Message). Contains l e) (sym (past_table H order stable cut e.page below le)) entry in
          true≢false (sym (any_in (λ (x : Message). x.place == e.place) (table H stable e.page) e here (eq-eqb e.place e.place refl)) ∙ none))

    -- So the slots are the account once the accountant has started,
    started_account : ActiveFits size stable s.active → IsAccountOf size stable H start
    started_account fits =
        let low : (e : Entry) → Contains (all_entries s) e → segment_number_of size e * size + size ≤ place_at size stable s.active + size = entries_low in
        let own = own_started size len some s startable (place_at size stable s.active + size) low in
        record {
          cut_off = cut_off;
          messages = held_or_none;
          gone = λ k page found_page. absurd (in_nothing page (subst (λ (l : List ℕ). Contains l page) (none_gone k) found_page));
          latest = λ k place is. absurd (let both : ◌≡◌ {A = Option ℕ} None (Some place) = sym (none_latest k) ∙ is in cc);
          within = λ k page found_page. absurd (in_nothing page (subst (λ (l : List ℕ). Contains l page) (none_gone k) found_page));
          stable = λ k taken idle. idle_low fits k taken idle;
          aligned = own.aligned;
          apart = own.one;
        }

    -- and once the log has begun its segment.
    pub begun_account : ActiveFits size stable s.active → IsAccountOf size stable H (begun_machine size len s)
    begun_account fits = by s.active refl where
      by : (o : Option ℕ) → s.active ≡ o → IsAccountOf size stable H (with_current (place_at size stable o) o start)
      by (Some a) active = started_account fits
      by None none =
          let low : (e : Entry) → Contains (all_entries s) e → segment_number_of size e * size + size ≤ raised size stable =
          λ e there. low_raised size len some s startable e (subst (λ (o : Option ℕ). Contains (active_entry stable o ++ entries_of s.pages) e) none there) in
          let own = own_started size len some s startable (raised size stable) low in
          handed_out_account size stable H start (started_account fits) (raised size stable) (record {
            aligned = mul-mod_left ((stable + (size - 1)) / size) size;
            above = λ k taken. let end = own.below k taken in omega (arith, end, some);
          })

-- nothing is left out where nothing is unmarked
pub all_marked : (ms : List Message) → filter (λ (m : Message). not (is_among [] m.place)) ms ≡ ms
all_marked [] = refl
all_marked (m ∷ ms) = ap (λ (l : List Message). m ∷ l) (all_marked ms)

-- So a log begins with the account of its history, on what a recovery left.
module _ (sum : List ℕ → ℕ) (size : ℕ) (some : 0 < size) (old : State) (s : SnapshotModel) (H : History) (A f : ℕ) (ready : IsReadyFor sum size old s H A f) (startable : IsStartable size (length old.log.bytes) s) where
  begun_now : IsAccountOf size (stable_place s.stable) H (begun_machine size (length old.log.bytes) s)
  begun_now =
      let low : EndBelow (stable_place s.stable) H.messages = logged_below (stable_place s.stable) H ready.ready.below in
      begun_account size (length old.log.bytes) some s startable H (table_alike (logged H) H (logged_twice H) s.pages (stable_place s.stable) ready.ready.table)
      (apart_ascends H.messages (logged_apart H ready.ready.apart))
      (λ m there. (All-contains (λ (x : Message). (x.place < stable_place s.stable) × (x.place + x.size ≤ stable_place s.stable)) H.messages m low there).0) ready.active

  -- Where the mark that joined is the place of the snapshot, what is held counts from it.
  held_place : (marks : JoinedMarks) → marks.joined ≡ pos (stable_place s.stable) → (began : ℕ) → began ≡ stable_place s.stable
      → held_from size began marks.joined ≡ stable_place s.stable
  held_place marks joined began same = ap (λ n. held_from size n marks.joined) same ∙ held_begun size (stable_place s.stable) marks.joined joined

  pub start_account : (marks : JoinedMarks) → marks.joined ≡ pos (stable_place s.stable) → {size' : ℕ} → size' ≡ size → (snapshots : ℤ → Option (List ℕ))
      → snapshots ≡ old.snapshots.file → {m : Machine} → m ≡ begun_machine size (length old.log.bytes) s → HasAccount sum marks size' snapshots H [] m
  start_account marks joined same snapshots names {m} machine =
      subst (λ n. HasAccount sum marks n snapshots H [] m) (sym same) (subst (λ (x : Machine). HasAccount sum marks size snapshots H [] x) (sym machine) (record {
        first = ready.ready.first;
        begins = subst (λ (file : ℤ → Option (List ℕ)). BeginsFrom sum file ready.ready.first) (sym names) ready.ready.begins;
        account = subst (λ n. IsAccountOf size n (without [] H) (begun_machine size (length old.log.bytes) s))
            (sym (held_place marks joined (stable_place ready.ready.first.stable) (ap stable_place ready.ready.same_place)))
            (same_account size (stable_place s.stable) H (begun_machine size (length old.log.bytes) s) begun_now (without [] H) (all_marked H.messages));
        outdated = begun_outdated size (length old.log.bytes) some s startable H;
        unmarked = λ e there. absurd (in_nothing e there);
      }))

  -- What tables need from the snapshot on is in the slots: all of the history lies below that.
  begun_slots_from : (A' : ℕ) → (NoHeaderOfZeros sum → stable_place s.stable ≤ A') → HaveSlots sum size (stable_place s.stable) H A' (begun_machine size (length old.log.bytes) s)
  begun_slots_from A' low = record {
    later = λ e there up. absurd (
        let all : EndBelow (stable_place s.stable) H.messages = logged_below (stable_place s.stable) H ready.ready.below in
        let under = All-contains (λ (x : Message). (x.place < stable_place s.stable) × (x.place + x.size ≤ stable_place s.stable)) H.messages e all there in
        omega (arith, up, under.0));
    older = λ page e entry.
        let held = entry_in_slot size (stable_place s.stable) H (begun_machine size (length old.log.bytes) s) begun_now (stable_place s.stable) page e (omega arith) entry in
        record { taken = held.taken; lsn = sym held.lsn };
    not_above = low;
  }

  -- The log begins at the place of the snapshot.
  pub start_place : (snapshots : ℤ → Option (List ℕ)) → snapshots ≡ old.snapshots.file → (first : SnapshotModel) → BeginsFrom sum snapshots first
      → stable_place first.stable ≡ stable_place s.stable
  start_place snapshots names first begins =
      let one : first ≡ ready.ready.first = one_begin sum old.snapshots.file first ready.ready.first (subst (λ (file : ℤ → Option (List ℕ)). BeginsFrom sum file first) names begins) ready.ready.begins in
      ap (λ (x : SnapshotModel). stable_place x.stable) one ∙ ap stable_place ready.ready.same_place

  pub start_in_slots : (marks : JoinedMarks) → marks.joined ≡ pos (stable_place s.stable) → {size' : ℕ} → size' ≡ size → (snapshots : ℤ → Option (List ℕ))
      → snapshots ≡ old.snapshots.file → {m : Machine} → m ≡ begun_machine size (length old.log.bytes) s
      → (A' : ℕ) → ((first : SnapshotModel) → BeginsFrom sum snapshots first → NoHeaderOfZeros sum → stable_place first.stable ≤ A')
      → HaveSlotsFrom sum marks size' snapshots H A' m
  start_in_slots marks joined same snapshots names {m} machine A' low first begins =
      let place : stable_place first.stable ≡ stable_place s.stable = start_place snapshots names first begins in
      subst (λ n. HaveSlots sum n (held_since n marks first) H A' m) (sym same)
      (subst (λ (x : Machine). HaveSlots sum size (held_since size marks first) H A' x) (sym machine)
      (subst (λ n. HaveSlots sum size n H A' (begun_machine size (length old.log.bytes) s)) (sym (held_place marks joined (stable_place first.stable) place))
      (begun_slots_from A' (λ zeros. let up = low first begins zeros in omega (arith, place, up)))))
