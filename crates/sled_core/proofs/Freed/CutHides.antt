-- Slots at the end of the log file that are free are cut off, and the cut is synced: what the file has besides what is shown is what it may have.
use Rattle.std.proofs.Common.{◌≡◌, ◌∙◌, ◌+◌, ◌*◌, ◌%◌, ◌≤◌, ◌<◌, ℕ, zero, suc, ℤ, pos, nat_lt, Bool, true, false, if◌then◌else◌, List, [], ◌∷◌, length, take, drop, get_or, refl, sym, ap, subst, arith, inl, inr, length-take, length-drop}
use Rattle.std.proofs.Math.Nat.{mul-mod_left}
use Rattle.std.proofs.lemmas.Bool.{and_parts, cases_eq, cases_lt}
use Rattle.std.proofs.lemmas.List.{ext_get_or, get_or-drop, get_or-set_other, get_or-take, take_all}
use Rattle.sled_codec.specs.History.{History}
use Rattle.sled_codec.specs.Places.{part}
use Rattle.sled_codec.specs.Record.{IsHeader}
use Rattle.sled_codec.proofs.Segments.{length-short_header}
use Rattle.sled_store.specs.Accounts.{AreSlots}
use Rattle.sled_store.specs.Device.{Cut, State, Synced, Trace, state_of, step}
use Rattle.sled_store.specs.Script.{after_all}
use Rattle.sled_store.specs.SegmentStates.{Machine, SlotState, cutting, free_among, free_slot, freed, is_free, may_be_cut, slot_at}
use Rattle.sled_store.proofs.Segments.FilledLemmas.{slot_before}
use Rattle.sled_core.specs.Begun.{SegmentView}
use Rattle.sled_core.specs.inside.Cleared.{cleared, is_stale, zeroed}
use Rattle.sled_core.specs.inside.Hides.{Hides, IsOwnHeader}
use Rattle.sled_core.proofs.Cleared.Offsets.{zeroed_get, zeroed_long}
use Rattle.sled_core.proofs.Cleared.Calls.{freed_free}
use Rattle.sled_core.proofs.Numbers.Hides.{hides_less}
use Rattle.sled_core.proofs.Numbers.OwnLess.{OwnLess, less_cut, less_synced}
use Rattle.sled_core.proofs.OwnLog.WrittenOwn.{header_synced}
use Rattle.sled_core.proofs.Tail.Multiples.{apart}

-- A file with zeros where a test says so keeps its parts in front of a cut,
pub zeroed_part : (test : ℕ → Bool) (log : List ℕ) (to at len : ℕ) → at + len ≤ to → part (zeroed test (take to log)) at len ≡ part (zeroed test log) at len
zeroed_part test log to at len below =
    ext_get_or 0 (part short at len) (part (zeroed test log) at len) long (λ i lt. each i (omega (arith, lt, length-take len (drop at short)))) where
      short : List ℕ
      short = zeroed test (take to log)

      long : length (part short at len) ≡ length (part (zeroed test log) at len)
      long =
          omega (
            arith,
            below,
            length-take len (drop at short),
            length-drop at short,
            zeroed_long test (take to log),
            length-take to log,
            length-take len (drop at (zeroed test log)),
            length-drop at (zeroed test log),
            zeroed_long test log,
          )

      byte : (i : ℕ) → i < to → get_or short i 0 ≡ get_or (zeroed test log) i 0
      byte i lower = zeroed_get test (take to log) i ∙ ap (λ (n : ℕ). if test i then 0 else n) (get_or-take to log i 0 lower) ∙ sym (zeroed_get test log i)

      each : (i : ℕ) → i < len → get_or (part short at len) i 0 ≡ get_or (part (zeroed test log) at len) i 0
      each i within =
          get_or-take len (drop at short) i 0 within ∙ get_or-drop at short i 0 ∙ byte (at + i) (omega (arith, within, below))
          ∙ sym (get_or-drop at (zeroed test log) i 0) ∙ sym (get_or-take len (drop at (zeroed test log)) i 0 within)

-- so it is what is in front of the cut.
pub zeroed_taken : (test : ℕ → Bool) (log : List ℕ) (to : ℕ) → zeroed test (take to log) ≡ take to (zeroed test log)
zeroed_taken test log to =
    sym (take_all to (zeroed test (take to log)) (omega (arith, zeroed_long test (take to log), length-take to log)))
    ∙ zeroed_part test log to 0 to (omega arith)

module _ (sum : List ℕ → ℕ) (size : ℕ) (some : 0 < size) (s : State) (m : Machine) (line : List SegmentView) (least base : ℕ) (H : History)
    (hides : Hides sum size s m line least base H) (to : ℕ) (whole : to % size ≡ 0) (free : (k : ℕ) → to ≤ k * size → is_free (slot_at m k).state ≡ true) where
  abbrev under_way : State
  under_way = step (Cut to to) s

  -- the state behind the cut and its sync
  abbrev pub cut_off : State
  cut_off = step Synced under_way

  -- Less is own behind it.
  less : OwnLess sum size cut_off s
  less = record {
    records = λ number at text r. (less_cut sum size to to s).records number at text ((less_synced sum size under_way).records number at text r);
    headers = λ k place mark h. (less_cut sum size to to s).headers k place mark ((less_synced sum size under_way).headers k place mark h);
  }

  -- A part below the end is shown as it was.
  shown_still : (at len : ℕ) → at + len ≤ to → part (cleared size m line cut_off.log.bytes) at len ≡ part (cleared size m line s.log.bytes) at len
  shown_still at len below = zeroed_part (is_stale size m line) s.log.bytes to at len below

  -- The slot of a segment lies below it,
  used_below : (k : ℕ) → is_free (slot_at m k).state ≡ false → k * size + size ≤ to
  used_below k used = elim (cases_lt (k * size) to) [
    | inl low ↦ apart size some (k * size) to (mul-mod_left k size) whole low
    | inr high ↦ (let both : true ≡ false = sym (free k high) ∙ used in absurd cc)
  ]

  -- and so does a header that is own.
  header_below : (k place : ℕ) (mark : ℤ) → IsOwnHeader sum size cut_off k place mark → k * size + 20 ≤ to
  header_below k place mark h =
      let twenty = ap length h.is.is ∙ length-short_header sum (pos place) mark in
      let stands = header_synced sum size under_way k place mark h in
      let short : List ℕ = take to s.log.bytes in
      omega (arith, twenty, ap length stands, length-take (length h.text) (drop (k * size) short), length-drop (k * size) short, length-take to s.log.bytes)

  -- So it stays.
  pub hides_cut : Hides sum size cut_off m line least base H
  hides_cut = hides_less sum size s m line least base H hides cut_off less (record {
    taken = λ k at text used inside is.
        let below = used_below k used in let high = inside.1 in shown_still at (length text) (omega (arith, below, high)) ∙ is;
    headers = λ k place mark h is.
        subst (λ (l : List ℕ). IsHeader sum l (pos place) mark) (sym (shown_still (k * size) 20 (header_below k place mark h))) is;
  })

-- So it is with all slots that an accountant cuts off, one after another.
module _ (sum : List ℕ → ℕ) (size : ℕ) (some : 0 < size) (line : List SegmentView) (least base : ℕ) (H : History) where
  abbrev HidesAt : Machine → Trace → Type 0
  HidesAt m trace = Hides sum size (state_of trace) m line least base H

  abbrev FreeFrom : Machine → ℕ → Type 0
  FreeFrom m n = (k : ℕ) → n ≤ k → is_free (slot_at m k).state ≡ true

  pub hides_cutting : (m : Machine) (n : ℕ) (trace : Trace) → FreeFrom m n → HidesAt m trace → HidesAt m (after_all (cutting size n m.slots) trace)
  hides_cutting m zero trace free hides = hides
  hides_cutting m (suc n) trace free hides = by_test (may_be_cut n m.slots) refl (hides_cutting m n (Synced ∷ Cut (n * size) (n * size) ∷ trace)) where
    free_from : may_be_cut n m.slots ≡ true → FreeFrom m n
    free_from is k high = elim (cases_eq k n) [
      | inl same ↦ ap (λ j. is_free (slot_at m j).state) same
          ∙ (and_parts (is_free (slot_at m n).state) (nat_lt 1 (length (free_among (take (suc n) m.slots)))) is).0
      | inr other ↦ free k (omega (arith, high, other))
    ]

    by_test : (t : Bool) → may_be_cut n m.slots ≡ t
        → (FreeFrom m n → HidesAt m (Synced ∷ Cut (n * size) (n * size) ∷ trace)
        → HidesAt m (after_all (cutting size n m.slots) (Synced ∷ Cut (n * size) (n * size) ∷ trace)))
        → HidesAt m (after_all (if t then Cut (n * size) (n * size) ∷ Synced ∷ cutting size n m.slots else []) trace)
    by_test false is on = hides
    by_test true is on =
        on (free_from is) (hides_cut sum size some (state_of trace) m line least base H hides (n * size) (mul-mod_left n size)
        (λ k high. free_from is k (elim (cases_lt k n) [
          | inl lower ↦ absurd (let row = slot_before size k n lower in omega (arith, row, high, some))
          | inr above ↦ above
        ])))

  -- So it is with the calls that are due where a slot is freed.
  pub hides_freed_calls : (m : Machine) (k : ℕ) (trace : Trace) → AreSlots m.tip m.slots → HidesAt (freed size k m).machine trace
      → HidesAt (freed size k m).machine (after_all (freed size k m).calls trace)
  hides_freed_calls m k trace slots = hides_cutting (freed size k m).machine m.tip trace (λ j past. elim (cases_eq j k) [
    | inl same ↦ ap (λ i. is_free (slot_at (freed size k m).machine i).state) same ∙ freed_free size m k
    | inr other ↦ ap (λ (x : SlotState). is_free x.state) (get_or-set_other m.slots k j free_slot free_slot other) ∙ slots.cut_off j past
  ])
