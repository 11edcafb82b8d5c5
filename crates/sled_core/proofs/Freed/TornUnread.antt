-- A write to the slot of a segment that no reader comes to: nothing of the segment is there yet, or its reading ends in front of the write. What a crash
-- leaves of it reads in the slot as what was shown before the write.
use Rattle.std.proofs.Common.{◌≡◌, ◌⊎◌, ◌∙◌, ◌<◌, ◌+◌, ◌*◌, ◌/◌, ◌%◌, ◌≤◌, ℕ, ℤ, pos, List, take, refl, sym, subst, arith, inl, inr}
use Rattle.std.proofs.Math.Nat.{mul-mod_left}
use Rattle.sled_codec.specs.History.{History}
use Rattle.sled_codec.specs.Places.{part}
use Rattle.sled_codec.specs.Record.{IsHeader}
use Rattle.sled_store.specs.Device.{State}
use Rattle.sled_store.specs.Readers.{at_start}
use Rattle.sled_store.specs.SegmentStates.{Machine}
use Rattle.sled_core.specs.Begun.{SegmentView}
use Rattle.sled_core.specs.declared.iterator.scan.ScannedRecord.{ScannedRecord}
use Rattle.sled_core.specs.declared.iterator.scan.ScanEnd.{ScanEnd}
use Rattle.sled_core.specs.declared.iterator.scan.ScanEnd.TheVariants.{Full, Capped, Broken}
use Rattle.sled_core.specs.Scan.{EndsThere, IsEnd, IsPath, IsScan}
use Rattle.sled_core.specs.inside.Cleared.{cleared}
use Rattle.sled_core.specs.inside.Hides.{IsGoneSegment}
use Rattle.sled_core.specs.inside.OwnLog.{ReadsOwn}
use Rattle.sled_core.specs.inside.Scan.{IsFoundSegment}
use Rattle.sled_core.specs.inside.Slots.{marked_at}
use Rattle.sled_core.proofs.Freed.AlikeRecords.{path_alike}
use Rattle.sled_core.proofs.Freed.FrontWritten.{PlacedHeader, PlacedRecord, shown_reads_own}
use Rattle.sled_core.proofs.Freed.Known.{LeavesOwn, WritesSlot}
use Rattle.sled_core.proofs.Freed.LeftOwn.{header_shown, shown_or_asked}
use Rattle.sled_core.proofs.Freed.ReadsAlike.{ReadsAlike, alike_on, one_alike}
use Rattle.sled_core.proofs.Freed.ReadsAs.{alike_there}
use Rattle.sled_core.proofs.Reached.LeftBeside.{alike_apart}
use Rattle.sled_core.proofs.Tail.LogFileLemmas.{record_moved}
use Rattle.sled_core.proofs.Tail.Moved.{one_in_slot}
use Rattle.sled_core.proofs.Torn.TornLemmas.{part_left}
use Rattle.sled_core.proofs.Torn.TornRecords.{long_enough}
use Rattle.sled_core.proofs.Torn.WrittenParts.{all_there, comes_along, in_this_file, twenty}
use Rattle.sled_core.proofs.Torn.WrittenRecords.{AlikeAlong}

-- What is left of a write reads in its slot as another file: what is read of that is own, and is read in what is left alike; and another header that is found
-- in what is left, from the snapshot's on, is that of a segment that is gone.
pub record SlotReads (sum : List ℕ → ℕ) (size : ℕ) (s : State) (shown : List ℕ) (at : ℕ) (asked now left : List ℕ) (H : History) (least base slot : ℕ)
    (new : List ℕ) : Type 0 where
  pub own : ReadsOwn sum size (PlacedHeader sum size s shown at asked now) (PlacedRecord sum size s shown at asked now) new slot
  pub reads : (p : ℕ) (mark : ℤ) → IsHeader sum (part new (slot * size) 20) (pos p) mark → ReadsAlike sum size new left slot p
  pub others : (p : ℕ) (mark : ℤ) → least ≤ p → IsHeader sum (part left (slot * size) 20) (pos p) mark
      → IsHeader sum (part new (slot * size) 20) (pos p) mark ⊎ IsGoneSegment sum size left H base (marked_at (slot * size) p mark)

-- one header in a slot
pub one_place : (sum : List ℕ → ℕ) (size : ℕ) (log : List ℕ) (slot p q : ℕ) (mark other : ℤ) → IsHeader sum (part log (slot * size) 20) (pos p) mark
    → IsHeader sum (part log (slot * size) 20) (pos q) other → p ≡ q
one_place sum size log slot p q mark other is also =
    one_in_slot sum size log 0 0 (marked_at (slot * size) p mark) (marked_at (slot * size) q other) (found p mark is) (found q other also) refl where
      found : (n : ℕ) (x : ℤ) → IsHeader sum (part log (slot * size) 20) (pos n) x → IsFoundSegment sum size log 0 (marked_at (slot * size) n x)
      found n x head = record { slot = mul-mod_left slot size; header = head; not_below = omega arith }

module _ {sum : List ℕ → ℕ} {size : ℕ} {s : State} {m : Machine} {line : List SegmentView} {least base : ℕ} {H : History} {slot from : ℕ} {asked : List ℕ}
    {place until : ℕ} (w : WritesSlot sum size s m line least base H slot from asked place until) {now left : List ℕ}
    (l : LeavesOwn sum size s (slot * size + from) asked now left) where
  abbrev log : List ℕ
  log = s.log.bytes

  abbrev shown : List ℕ
  shown = cleared size m line log

  abbrev at : ℕ
  at = slot * size + from

  some : 256 ≤ size
  some = w.known.some

  abbrev pub AsShown : Type 0
  AsShown = SlotReads sum size s shown at asked now left H least base slot shown

  own_as_shown : ReadsOwn sum size (PlacedHeader sum size s shown at asked now) (PlacedRecord sum size s shown at asked now) shown slot
  own_as_shown = shown_reads_own sum size s shown at asked now (omega (arith, some)) slot (w.known.own slot)

  -- No header is shown in the slot, and what is left doesn't begin with that of the write.
  pub headless_slot : ((lsn mark : ℤ) → IsHeader sum (part shown (slot * size) 20) lsn mark → ⊥)
      → (at ≡ slot * size → take 20 asked ≡ part left (slot * size) 20 → ⊥)
      → AsShown
  headless_slot none no_new = record {
    own = own_as_shown;
    reads = λ p mark is. absurd (none (pos p) mark is);
    others = λ p mark low is.
        elim (header_shown sum size s m line least base H w.known.hides at asked now left l.only_own (omega (arith, some)) place w.held w.places slot p mark
        low is) [
          | inl shows ↦ absurd (none (pos p) mark shows)
          | inr (inl gone) ↦ inr gone
          | inr (inr new) ↦ absurd (no_new new.0 new.1)
        ];
  }

  -- The header of the segment is shown, and the write lies behind it.
  module _ (behind : 20 ≤ from) (mark : ℤ) (header : IsHeader sum (part shown (slot * size) 20) (pos place) mark) where
    aligned : slot * size % size ≡ 0
    aligned = mul-mod_left slot size

    pub header_same : part left (slot * size) 20 ≡ part shown (slot * size) 20
    header_same =
        let same = w.known.reads.headers slot place mark header in
        let there = in_this_file sum size log shown (slot * size) 20 (omega arith) (twenty sum size shown (slot * size) (pos place) mark header) same in
        part_left log at asked now left l.no_more l.leaves (slot * size) 20 there (inl (omega (arith, behind))) ∙ same

    pub header_left : IsHeader sum (part left (slot * size) 20) (pos place) mark
    header_left = subst (λ (l : List ℕ). IsHeader sum l (pos place) mark) (sym header_same) header

    -- What is read in front of the write has its bytes,
    pub alike_before : (met : List ScannedRecord) (low : ℕ) → low ≤ from → IsPath sum size shown (slot * size) place 20 met low
        → AlikeAlong shown left (slot * size) 20 met
    alike_before met low before path =
        let rest = alike_there sum size m shown log w.known.reads slot place mark header met low path in
        alike_on shown log left (slot * size) 20 met rest
        (alike_apart sum size some log slot from asked now left w.inside l.no_more l.leaves (slot * size) place aligned 20 met low
        (inl (omega (arith, before)))
        (path_alike sum size shown log (slot * size) place 20 met low path rest))

    -- and the header was own, and no other one is found.
    pub others_before : (new : List ℕ) → part left (slot * size) 20 ≡ part new (slot * size) 20 → (p : ℕ) (mark' : ℤ)
        → least ≤ p → IsHeader sum (part left (slot * size) 20) (pos p) mark'
        → IsHeader sum (part new (slot * size) 20) (pos p) mark' ⊎ IsGoneSegment sum size left H base (marked_at (slot * size) p mark')
    others_before new same p mark' low is = inl (subst (λ (l : List ℕ). IsHeader sum l (pos p) mark') same is)

    -- Where the reading of it ends in front of the write, for want of a record or of room, it ends there.
    module _ (met : List ScannedRecord) (low : ℕ) (why : ScanEnd) (scan : IsScan sum size shown (slot * size) place met low why)
        (before : low ≤ from) (stops : ((why ≡ Broken) × (low < from)) ⊎ (why ≡ Full)) where
      path_shown : IsPath sum size shown (slot * size) place 20 met low
      unfolding IsScan
      path_shown = scan.0

      alike_met : AlikeAlong shown left (slot * size) 20 met
      alike_met = alike_before met low before path_shown

      path_met : IsPath sum size left (slot * size) place 20 met low
      path_met = path_alike sum size shown left (slot * size) place 20 met low path_shown alike_met

      end_met : IsEnd sum size left (slot * size) place low why
      unfolding IsScan EndsThere
      end_met = by why stops scan.1 where
        by : (o : ScanEnd) → ((o ≡ Broken) × (low < from)) ⊎ (o ≡ Full) → IsEnd sum size shown (slot * size) place low o
            → IsEnd sum size left (slot * size) place low o
        by Full so end = end
        by Capped (inl (never, less)) end = absurd (let no : Capped ≡ Broken = never in cc)
        by Capped (inr never) end = absurd (let no : Capped ≡ Full = never in cc)
        by Broken (inr never) end = absurd (let no : Broken ≡ Full = never in cc)
        by Broken (inl (is, less)) (room, none) = (
          room,
          λ h body len stands.
              let comes = comes_along sum size left (slot * size) aligned place 20 met low path_met at_start in
              elim (shown_or_asked sum size s m line least base H w.known.hides at asked now left l.only_own slot place mark header_left w.taken w.its
              low comes room h body len stands) [
                | inl shows ↦ (
                    let eight = long_enough sum size left (slot * size + low) (place / size) h body len stands in
                    let whole = all_there sum size left (slot * size + low) (place / size) h body len stands in
                    none h body len (record_moved sum size left shown (slot * size + low) (place / size) h body len shows
                    (in_this_file sum size shown left (slot * size + low) len (omega (arith, eight)) whole shows) stands))
                | inr covers ↦ (let begins = covers.begins in absurd (omega (arith, begins, less)))
              ],
        )

      scan_met : IsScan sum size left (slot * size) place met low why
      unfolding IsScan
      scan_met = (path_met, end_met)

      pub unread_slot : AsShown
      unread_slot = record {
        own = own_as_shown;
        reads = λ p mark' is.
            subst (ReadsAlike sum size shown left slot) (sym (one_place sum size shown slot p place mark' mark is header))
            (one_alike sum size shown left slot place header_same met low why scan scan_met alike_met);
        others = others_before shown header_same;
      }
