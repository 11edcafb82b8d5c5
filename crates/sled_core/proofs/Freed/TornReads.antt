-- While the write of a buffer is under way: each content that a crash may leave of the log file reads as one that it could leave of what is shown with the same
-- write under way, but for segments that are gone.
use Rattle.std.proofs.Common.{◌≡◌, ◌≢◌, ◌⊎◌, ◌∙◌, ◌+◌, ◌*◌, ◌/◌, ◌≤◌, ℕ, ℤ, pos, List, ◌∷◌, length, take, refl, sym, ap, subst, arith, inl, inr, length-take}
use Rattle.std.proofs.Math.Nat.{mul-mod_left}
use Rattle.std.proofs.lemmas.Bool.{cases_eq}
use Rattle.sled_codec.specs.History.{History}
use Rattle.sled_codec.specs.Places.{part}
use Rattle.sled_codec.specs.Record.{IsHeader}
use Rattle.sled_codec.proofs.Segments.{one_header}
use Rattle.sled_store.specs.Device.{LeavesLog, State, overwritten}
use Rattle.sled_store.specs.Foreign.{NoForeignLog}
use Rattle.sled_store.specs.SegmentStates.{Machine}
use Rattle.sled_core.specs.Begun.{SegmentView}
use Rattle.sled_core.specs.Recoverable.{NoHeaderOfZeros}
use Rattle.sled_core.specs.inside.Cleared.{cleared}
use Rattle.sled_core.specs.inside.Hides.{IsGoneSegment}
use Rattle.sled_core.specs.inside.OwnLog.{ReadsOwn}
use Rattle.sled_core.specs.inside.Slots.{marked_at}
use Rattle.sled_core.proofs.Freed.BesideReads.{beside_write, header_beside, left_as_old}
use Rattle.sled_core.proofs.Freed.FrontWritten.{PlacedHeader, PlacedRecord, beside_reads_own, front_leaves, none_foreign_behind}
use Rattle.sled_core.proofs.Freed.GoneAlone.{HeadersOwnBelow}
use Rattle.sled_core.proofs.Freed.Known.{LeavesOwn, WritesSlot}
use Rattle.sled_core.proofs.Freed.LeftOwn.{header_shown, header_where, shown_or_asked}
use Rattle.sled_core.proofs.Freed.LeftRecovers.{ReadsBy}
use Rattle.sled_core.proofs.Freed.ReadsAlike.{ReadsAlike, alike_joined, reads_as}
use Rattle.sled_core.proofs.Freed.ReadsAs.{both_alike, shown_kept}
use Rattle.sled_core.proofs.Freed.TornUnread.{SlotReads}
use Rattle.sled_core.proofs.Freed.WriteSlots.{LiesIn, begins_or_behind, none_shown, write_slot}
use Rattle.sled_core.proofs.OwnLog.Placed.{asked_now}
use Rattle.sled_core.proofs.Read.FoundLemmas.{pos_injective}
use Rattle.sled_core.proofs.Tail.LogFileLemmas.{part_kept}
use Rattle.sled_core.proofs.Torn.AlikeSlots.{SameIn}
use Rattle.sled_core.proofs.Torn.TornLemmas.{after_write, part_left}
use Rattle.sled_core.proofs.Torn.TornRecords.{long_enough}
use Rattle.sled_core.proofs.Torn.WrittenParts.{all_there, in_segment, in_this_file, twenty}

-- What is left of a write reads as what was shown with its first bytes, so many of them: a crash could leave that of what was shown, and nothing is foreign
-- in it.
pub record LeftReads (sum : List ℕ → ℕ) (size : ℕ) (s : State) (shown : List ℕ) (at : ℕ) (asked now left : List ℕ) (H : History) (least base : ℕ)
    (n : ℕ) : Type 0 where
  pub leaves : LeavesLog (after_write shown at asked now) (overwritten shown at (take n asked))
  pub own : NoForeignLog sum size (after_write shown at asked now) (asked_now at asked ∷ s.placed) (overwritten shown at (take n asked))
  pub reads : ReadsBy sum size s shown least base H (overwritten shown at (take n asked)) left

module _ {sum : List ℕ → ℕ} (none : NoHeaderOfZeros sum) {size : ℕ} {s : State} {m : Machine} {line : List SegmentView} {least base : ℕ} {H : History}
    {slot from : ℕ} {asked : List ℕ} {place until : ℕ} (w : WritesSlot sum size s m line least base H slot from asked place until)
    (lies : LiesIn sum size (cleared size m line s.log.bytes) slot from asked place until) where
  abbrev log : List ℕ
  log = s.log.bytes

  abbrev shown : List ℕ
  shown = cleared size m line log

  abbrev at : ℕ
  at = slot * size + from

  some : 256 ≤ size
  some = w.known.some

  module _ {now left : List ℕ} (l : LeavesOwn sum size s at asked now left) where
    abbrev Slot : ℕ → Type 0
    Slot n = SlotReads sum size s shown at asked now left H least base slot (overwritten shown at (take n asked))

    in_slot : (n : ℕ) × Slot n
    in_slot = write_slot none w l lies

    -- Each slot lies beside the write, or is its slot.
    beside : (k : ℕ) → k ≢ slot → (k * size + size ≤ at) ⊎ (at + length asked ≤ k * size)
    beside k other = beside_write sum size some log slot from asked now left w.inside l.no_more l.leaves k other

    -- A segment that is shown in another one is read in what is left as it is shown: what is own of it there is shown.
    shown_as_left : (k : ℕ) → k ≢ slot → (p : ℕ) (mark : ℤ) → IsHeader sum (part shown (k * size) 20) (pos p) mark → ReadsAlike sum size shown left k p
    shown_as_left k other p mark is = both_alike sum size shown left k p same_header
        (shown_kept sum size m shown log w.known.reads k p mark is left same) (λ here room comes h body len stands.
        let fits = in_segment sum size left (k * size) (mul-mod_left k size) here (p / size) h body len (omega (arith, room)) stands in
        let whole = all_there sum size left (k * size + here) (p / size) h body len stands in
        let eight = long_enough sum size left (k * size + here) (p / size) h body len stands in
        let slots = w.known.reads.slots k p mark is in
        elim (shown_or_asked sum size s m line least base H w.known.hides at asked now left l.only_own k p mark in_left slots.0 slots.1
        here comes room h body len stands) [
          | inl shows ↦ shows
          | inr covers ↦ (
              let begins = covers.begins in
              let ends = covers.ends in
              absurd (elim (beside k other) [ inl before ↦ omega (arith, before, begins, fits, eight) | inr past ↦ omega (arith, past, ends, whole, eight) ]))
        ]) where
          in_log : part log (k * size) 20 ≡ part shown (k * size) 20
          in_log = w.known.reads.headers k p mark is

          same_header : part left (k * size) 20 ≡ part shown (k * size) 20
          same_header = header_beside sum size some log slot from asked now left w.inside l.no_more l.leaves k other (pos p) mark
              (subst (λ (l : List ℕ). IsHeader sum l (pos p) mark) (sym in_log) is) ∙ in_log

          in_left : IsHeader sum (part left (k * size) 20) (pos p) mark
          in_left = subst (λ (l : List ℕ). IsHeader sum l (pos p) mark) (sym same_header) is

          same : SameIn size log left k
          same lid len low high there = part_left log at asked now left l.no_more l.leaves lid len there
              (elim (beside k other) [ inl before ↦ inl (omega (arith, before, high)) | inr past ↦ inr (omega (arith, past, low)) ])

    -- A header in another one isn't that with which the write begins.
    not_beside : (k p : ℕ) (mark : ℤ) → k ≢ slot → IsHeader sum (part left (k * size) 20) (pos p) mark → at ≡ k * size
        → take 20 asked ≡ part left (k * size) 20 → ⊥
    not_beside k p mark other is here new =
        let whole = twenty sum size left (k * size) (pos p) mark is in
        let twenty_asked : 20 ≤ length asked = omega (arith, ap length new, whole, length-take 20 asked) in
        elim (beside k other) [ inl before ↦ omega (arith, before, here, some) | inr past ↦ omega (arith, past, here, twenty_asked) ]

    -- Each header was own, or is that of the segment that the write begins.
    headed : HeadersOwnBelow sum size s base left
    headed k p mark is = elim (header_where sum size s m line least base H w.known.hides at asked now left l.only_own k p mark is) [
      | inl its ↦ inl its
      | inr (here, new) ↦ elim (cases_eq k slot) [
        | inr other ↦ absurd (not_beside k p mark other is here new)
        | inl same ↦ elim (begins_or_behind sum size shown slot from asked place until lies) [
          | inr behind ↦ absurd (omega (arith, here, ap (λ j. j * size) same, behind))
          | inl b ↦ inr (
              let its_place = pos_injective p place (one_header sum (part left (k * size) 20) (pos p) mark (pos place) b.mark is
              (subst (λ (l : List ℕ). IsHeader sum l (pos place) b.mark) new b.header)).0 in
              let held = w.held in
              omega (arith, its_place, held))
        ]
      ]
    ]

    module _ (n : ℕ) (its_slot : Slot n) where
      abbrev front : List ℕ
      front = overwritten shown at (take n asked)

      leaves_front : LeavesLog (after_write shown at asked now) front
      leaves_front = front_leaves shown at asked now (take n asked) (omega (arith, length-take n asked))

      -- Each header that is shown stands there.
      header_stays : (k p : ℕ) (mark : ℤ) → IsHeader sum (part shown (k * size) 20) (pos p) mark → part front (k * size) 20 ≡ part shown (k * size) 20
      header_stays k p mark is = elim (cases_eq k slot) [
        | inr other ↦ header_beside sum size some shown slot from asked now front w.inside l.no_more leaves_front k other (pos p) mark is
        | inl same ↦ subst (λ j. part front (j * size) 20 ≡ part shown (j * size) 20) (sym same)
            (here (subst (λ j. IsHeader sum (part shown (j * size) 20) (pos p) mark) same is))
      ] where
        here : IsHeader sum (part shown (slot * size) 20) (pos p) mark → part front (slot * size) 20 ≡ part shown (slot * size) 20
        here header = elim (begins_or_behind sum size shown slot from asked place until lies) [
          | inl b ↦ absurd (none_shown none w l b (pos p) mark header)
          | inr behind ↦ (
              let there = in_this_file sum size shown shown (slot * size) 20 (omega arith) (twenty sum size shown (slot * size) (pos p) mark header) refl in
              part_kept sum size shown at (take n asked) (slot * size) 20 there (inl (omega (arith, behind))))
        ]

      own_slot : (k : ℕ) → ReadsOwn sum size (PlacedHeader sum size s shown at asked now) (PlacedRecord sum size s shown at asked now) front k
      own_slot k = elim (cases_eq k slot) [
        | inl same ↦ subst (ReadsOwn sum size (PlacedHeader sum size s shown at asked now) (PlacedRecord sum size s shown at asked now) front)
            (sym same) its_slot.own
        | inr other ↦ beside_reads_own sum size s shown at asked now (omega (arith, some)) k (w.known.own k) (take n asked) (elim (beside k other) [
          | inl before ↦ inl before
          | inr past ↦ inr (omega (arith, past, length-take n asked))
        ])
      ]

      own_front : NoForeignLog sum size (after_write shown at asked now) (asked_now at asked ∷ s.placed) front
      own_front = none_foreign_behind sum size s shown at asked now front own_slot

      each_alike : (k p : ℕ) (mark : ℤ) → IsHeader sum (part front (k * size) 20) (pos p) mark → ReadsAlike sum size front left k p
      each_alike k p mark is = elim (cases_eq k slot) [
        | inl same ↦ subst (λ j. ReadsAlike sum size front left j p) (sym same)
            (its_slot.reads p mark (subst (λ j. IsHeader sum (part front (j * size) 20) (pos p) mark) same is))
        | inr other ↦ (
            let first = left_as_old sum size some shown slot from asked now front w.inside l.no_more leaves_front k other own_front p mark is in
            let is_shown = subst (λ (l : List ℕ). IsHeader sum l (pos p) mark) (sym first.header) is in
            alike_joined sum size front shown left k p first (shown_as_left k other p mark is_shown))
      ]

      other_gone : (k p : ℕ) (mark : ℤ) → least ≤ p → IsHeader sum (part left (k * size) 20) (pos p) mark
          → IsHeader sum (part front (k * size) 20) (pos p) mark ⊎ IsGoneSegment sum size left H base (marked_at (k * size) p mark)
      other_gone k p mark low is = elim (cases_eq k slot) [
        | inl same ↦ subst (λ j. IsHeader sum (part front (j * size) 20) (pos p) mark ⊎ IsGoneSegment sum size left H base (marked_at (j * size) p mark))
            (sym same)
            (its_slot.others p mark low (subst (λ j. IsHeader sum (part left (j * size) 20) (pos p) mark) same is))
        | inr other ↦ elim (header_shown sum size s m line least base H w.known.hides at asked now left l.only_own
            (omega (arith, some)) place w.held w.places k p mark low is) [
              | inl shows ↦ inl (subst (λ (l : List ℕ). IsHeader sum l (pos p) mark)
                  (sym (header_beside sum size some shown slot from asked now front w.inside l.no_more leaves_front k other (pos p) mark shows)) shows)
              | inr (inl gone) ↦ inr gone
              | inr (inr (here, new)) ↦ absurd (not_beside k p mark other is here new)
            ]
      ]

      left_reads : LeftReads sum size s shown at asked now left H least base n
      left_reads = record {
        leaves = leaves_front;
        own = own_front;
        reads = record { reads = reads_as sum size least H base front left each_alike other_gone; stays = header_stays; headed = headed };
      }

    -- What is left reads as what was shown, with the first bytes of the write: so many as a reader of it comes to.
    pub torn_reads : (n : ℕ) × LeftReads sum size s shown at asked now left H least base n
    torn_reads = (in_slot.0, left_reads in_slot.0 in_slot.1)
