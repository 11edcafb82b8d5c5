-- What is shown of a log file where slots lose their segments: the slots that keep theirs are shown as they were, so what is whole in them stays; and where one
-- slot alone loses its segment it is emptied, also in the file with zeros behind its end.
use Rattle.std.proofs.Common.{◌≡◌, ◌≢◌, ◌⊎◌, ◌∙◌, ◌+◌, ◌-◌, ◌*◌, ◌/◌, ◌≤◌, ◌<◌, ◌||◌, ℕ, Bool, true, if◌then◌else◌, List, length, get_or, refl, sym}
use Rattle.std.proofs.Common.{ap, subst, arith, inl, inr}
use Rattle.std.proofs.lemmas.Bool.{cases_eq}
use Rattle.sled_codec.specs.History.{History}
use Rattle.sled_store.specs.SegmentStates.{Machine, is_free, slot_at}
use Rattle.sled_store.proofs.Marks.SlotMoves.{KeepOrLose}
use Rattle.sled_core.specs.Begun.{SegmentView}
use Rattle.sled_core.specs.inside.Cleared.{cleared, is_stale, is_unwritten}
use Rattle.sled_core.specs.inside.LogFile.{padded}
use Rattle.sled_core.specs.inside.Slots.{AreWhole}
use Rattle.sled_core.proofs.Cleared.Emptied.{IsEmptied, bytes_empty}
use Rattle.sled_core.proofs.Cleared.Offsets.{cleared_zeros, in_own, slot_is, zeroed_get, zeroed_long}
use Rattle.sled_core.proofs.Freed.SameSlots.{SameSlot, slot_bytes, slot_in}
use Rattle.sled_core.proofs.Freed.SlotsLost.{had_segment}
use Rattle.sled_core.proofs.Reached.WholeSegments.{whole_at, whole_kept}
use Rattle.sled_core.proofs.Sealed.Padded.{length-padded, padded_get}

module _ (size : ℕ) (some : 0 < size) (m m' : Machine) (line : List SegmentView) (log : List ℕ) where
  abbrev old : List ℕ
  old = cleared size m line log

  abbrev now : List ℕ
  now = cleared size m' line log

  shown_long : length now ≡ length old
  shown_long = zeroed_long (is_stale size m' line) log ∙ sym (zeroed_long (is_stale size m line) log)

  -- A byte is shown as it was where its slot is as free as it was.
  same_byte : (i : ℕ) → is_free (slot_at m' (i / size)).state ≡ is_free (slot_at m (i / size)).state → get_or now i 0 ≡ get_or old i 0
  same_byte i same =
      zeroed_get (is_stale size m' line) log i
      ∙ ap (λ (free : Bool). if free || is_unwritten size line i then 0 else get_or log i 0) same
      ∙ sym (zeroed_get (is_stale size m line) log i)

  -- So the slot is.
  pub slot_shown : (k : ℕ) → is_free (slot_at m' k).state ≡ is_free (slot_at m k).state → SameSlot size old now k
  slot_shown k same = slot_bytes size old now k shown_long (λ i low high.
      same_byte i (subst (λ j. is_free (slot_at m' j).state ≡ is_free (slot_at m j).state) (sym (slot_is size k i low high)) same))

  -- One that is free is shown as zeros.
  pub zeros_shown : (k : ℕ) → is_free (slot_at m' k).state ≡ true → (i : ℕ) → k * size ≤ i → i < k * size + size → get_or now i 0 ≡ 0
  zeros_shown = (cleared_zeros size some m' line log).0

  -- What is whole in a slot that has kept its segment is whole.
  pub whole_lost : (sum : List ℕ → ℕ) → 20 ≤ size → (base : ℕ) → KeepOrLose size base m m' → (H : History) (below : ℕ) → AreWhole sum size old H below m
      → AreWhole sum size now H below m'
  whole_lost sum large base changes H below are k used ends =
      let had = had_segment size base some m m' changes k used in
      whole_at sum size now H refl had.1
      (whole_kept sum size old now (k * size) large (slot_in size old now k (slot_shown k (used ∙ sym had.0))) H (slot_at m k).lsn
      (are k had.0 (omega (arith, ends, had.1))))

  -- One slot alone loses its segment.
  module _ (k : ℕ) (free : is_free (slot_at m' k).state ≡ true) (others : (j : ℕ) → j ≢ k → slot_at m' j ≡ slot_at m j) where
    beside : (i : ℕ) → (i < k * size) ⊎ (k * size + size ≤ i) → get_or now i 0 ≡ get_or old i 0
    beside i how = same_byte i (elim (cases_eq (i / size) k) [
      | inl here ↦ absurd (
          let own = in_own size i some in
          let start = ap (λ n. n * size) here in
          elim how [ inl low ↦ omega (arith, own.0, start, low) | inr high ↦ omega (arith, own.1, start, high) ])
      | inr other ↦ ap (λ s. is_free s.state) (others (i / size) other)
    ])

    pub emptied_beyond : (to : ℕ) → IsEmptied size k (padded to old) (padded to now)
    emptied_beyond to = bytes_empty size k (padded to old) (padded to now)
        (length-padded to now ∙ ap (λ n. n + (to - n)) shown_long ∙ sym (length-padded to old))
        (λ i how. padded_get to now i ∙ beside i how ∙ sym (padded_get to old i))
        (λ i low high. padded_get to now i ∙ zeros_shown k free i low high)
