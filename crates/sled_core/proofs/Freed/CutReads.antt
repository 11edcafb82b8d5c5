-- While free slots at the end are cut off: each content that a crash may leave of the log file reads as one that it could leave of what is shown with the same
-- cut under way, but for segments that are gone.
use Rattle.std.proofs.Common.{◌≡◌, ◌⊎◌, ◌∙◌, ◌<◌, ◌+◌, ◌-◌, ◌*◌, ◌/◌, ◌≤◌, ℕ, ℤ, pos, min, true, List, length, take, drop, refl, sym, subst, arith, inl, inr, length-take, length-drop}
use Rattle.std.proofs.Math.Nat.{mul-mod_left}
use Rattle.std.proofs.lemmas.Bool.{cases_lt}
use Rattle.std.proofs.lemmas.List.{get_or-take}
use Rattle.sled_codec.specs.History.{History}
use Rattle.sled_codec.specs.Places.{part}
use Rattle.sled_codec.specs.Record.{IsHeader}
use Rattle.sled_store.specs.Device.{LeavesLog, State, at_rest}
use Rattle.sled_store.specs.Foreign.{HeaderWasPlaced, IsWhole, NoForeignLog, RecordWasPlaced}
use Rattle.sled_store.specs.Readers.{Reads}
use Rattle.sled_store.specs.SegmentStates.{Machine, is_free, slot_at}
use Rattle.sled_store.proofs.Crashes.ForeignLemmas.{take_again}
use Rattle.sled_store.proofs.LogFile.LooseLemmas.{firm_cut}
use Rattle.sled_store.proofs.Own.ReaderLemmas.{SameFrom, no_lower, read_same}
use Rattle.sled_core.specs.Begun.{SegmentView}
use Rattle.sled_core.specs.Recoverable.{NoHeaderOfZeros}
use Rattle.sled_core.specs.Scan.{IsScan}
use Rattle.sled_core.specs.inside.Cleared.{cleared, is_stale}
use Rattle.sled_core.specs.inside.Hides.{IsGoneSegment}
use Rattle.sled_core.specs.inside.OwnLog.{HasOwnSlot}
use Rattle.sled_core.specs.inside.Slots.{marked_at}
use Rattle.sled_core.proofs.Cleared.Offsets.{cleared_zeros, zeroed_long}
use Rattle.sled_core.proofs.Freed.Known.{IsKnown}
use Rattle.sled_core.proofs.Numbers.Hides.{gone_in}
use Rattle.sled_core.proofs.Freed.LeftRecovers.{ReadsBy}
use Rattle.sled_core.proofs.Freed.OwnAlike.{part_alike}
use Rattle.sled_core.proofs.Freed.ReadsAlike.{ReadsAlike, alike_joined, reads_as}
use Rattle.sled_core.proofs.Freed.ReadsAs.{both_alike, own_header, own_record, own_same, shown_kept}
use Rattle.sled_core.proofs.OwnLog.AllSlots.{header_own, record_own}
use Rattle.sled_core.proofs.OwnLog.Kept.{part_in}
use Rattle.sled_core.proofs.OwnLog.NoneForeign.{WasPlaced, was_placed}
use Rattle.sled_core.proofs.Reached.KeptStands.{alike_kept}
use Rattle.sled_core.proofs.Torn.AlikeSlots.{SameIn, scan_same}
use Rattle.sled_core.proofs.Torn.CutSlots.{after_cut, below_same}
use Rattle.sled_core.proofs.Torn.WrittenBegun.{none_in_zeros}
use Rattle.sled_core.proofs.Torn.WrittenParts.{in_this_file, twenty}

-- A segment in a slot that is the same in two files is read alike in them.
pub same_alike : (sum : List ℕ → ℕ) (size : ℕ) → 20 ≤ size → (old new : List ℕ) (slot place : ℕ) (mark : ℤ)
    → IsHeader sum (part old (slot * size) 20) (pos place) mark
    → SameIn size old new slot → SameIn size new old slot → ReadsAlike sum size old new slot place
unfolding IsScan
same_alike sum size big old new slot place mark header same back = record {
  header = same (slot * size) 20 (omega arith) (omega (arith, big))
      (in_this_file sum size old old (slot * size) 20 (omega arith) (twenty sum size old (slot * size) (pos place) mark header) refl);
  scans = λ met stop why. scan_same sum size old new slot same back place met stop why;
  bytes = λ ms next path. alike_kept sum size old new (slot * size) (mul-mod_left slot size) same place 20 ms next path;
}

-- The beginning of a file, of which a crash may leave it where that is cut.
module _ (sum : List ℕ → ℕ) (size : ℕ) (some : 256 ≤ size) (s : State) (shown : List ℕ) (slots now : ℕ) (no_less : slots * size ≤ now) (to : ℕ)
    (short : to ≤ length shown)
    (enough : min (length shown) (slots * size) ≤ to) where
  abbrev front : List ℕ
  front = take to shown

  long : length front ≡ to
  long = omega (arith, short, length-take to shown)

  pub front_left : LeavesLog (after_cut size shown slots now) front
  front_left = record {
    no_shorter = omega (arith, long, enough, no_less);
    no_longer = omega (arith, long, short);
    kept = λ i low firm. get_or-take to shown i 0 (omega (arith, low, long)) ∙ sym (firm_cut (at_rest shown) (slots * size) now i firm).1;
  }

  front_part : (lid n : ℕ) → lid + n ≤ length front → part front lid n ≡ part shown lid n
  front_part lid n there = part_alike shown front lid n (omega (arith, there, long, short)) there
      (λ i low high. get_or-take to shown i 0 (omega (arith, high, there, long)))

  -- Its slots have the bytes of the file's.
  pub front_back : (k : ℕ) → SameIn size front shown k
  front_back k lid n low high there = sym (front_part lid n there)

  -- Nothing is foreign in it where nothing was in the file.
  module _ (own : (slot : ℕ) → HasOwnSlot sum size (HeaderWasPlaced s.placed) (RecordWasPlaced sum size s.placed) shown slot) where
    header_there : (slot : ℕ) (lsn mark : ℤ) → IsHeader sum (part front (slot * size) 20) lsn mark → part front (slot * size) 20 ≡ part shown (slot * size) 20
    header_there slot lsn mark is =
        front_part (slot * size) 20 (in_this_file sum size front front (slot * size) 20 (omega arith) (twenty sum size front (slot * size) lsn mark is) refl)

    read_there : (slot number at len : ℕ) → Reads sum size number (part front (slot * size) size) 20 at len
        → Reads sum size number (part shown (slot * size) size) 20 at len × (part front (slot * size + at) len ≡ part shown (slot * size + at) len)
    read_there slot number at len r = (
      read_same sum size number text_front text_shown 20 (length text_front) 20 at len same (omega (arith, in_front, in_shown, cut_off))
          (omega arith) r.inside r,
      front_part (slot * size + at) len (let inside = r.inside in omega (arith, low, inside, in_front)),
    ) where
      text_front : List ℕ
      text_front = part front (slot * size) size

      text_shown : List ℕ
      text_shown = part shown (slot * size) size

      low : 20 ≤ at
      low = no_lower sum size number text_front 20 at r.comes

      in_front : length text_front ≡ min size (length front - slot * size)
      in_front = omega (arith, length-take size (drop (slot * size) front), length-drop (slot * size) front)

      in_shown : length text_shown ≡ min size (length shown - slot * size)
      in_shown = omega (arith, length-take size (drop (slot * size) shown), length-drop (slot * size) shown)

      cut_off : length front ≤ length shown
      cut_off = omega (arith, long, short)

      same : SameFrom sum size number text_front text_shown 20 (length text_front)
      same i n above below =
          let fits : i + n ≤ size = omega (arith, below, in_front) in
          part_in size shown (slot * size) i n fits ∙ sym (front_part (slot * size + i) n (omega (arith, above, below, in_front)))
          ∙ sym (part_in size front (slot * size) i n fits)

    pub front_own : NoForeignLog sum size (after_cut size shown slots now) s.placed front
    unfolding IsWhole
    front_own = record {
      headers = λ slot lsn mark is.
          let same = header_there slot lsn mark is in
          let in_shown = subst (λ (l : List ℕ). IsHeader sum l lsn mark) same is in
          subst (λ (l : List ℕ). HeaderWasPlaced s.placed (slot * size) l × IsWhole (after_cut size shown slots now) (slot * size) l) (sym same) (
            header_own sum size (HeaderWasPlaced s.placed) (RecordWasPlaced sum size s.placed) shown slot (own slot) lsn mark in_shown,
            inl (take_again 20 (drop (slot * size) shown)),
          );
      records = λ slot lsn mark at len is r.
          let in_shown = subst (λ (l : List ℕ). IsHeader sum l (pos lsn) mark) (header_there slot (pos lsn) mark is) is in
          let read = read_there slot (lsn / size) at len r in
          subst (λ (l : List ℕ). RecordWasPlaced sum size s.placed (lsn / size) (slot * size + at) l × IsWhole (after_cut size shown slots now)
          (slot * size + at) l)
          (sym read.1) (
            record_own sum size (HeaderWasPlaced s.placed) (RecordWasPlaced sum size s.placed) shown slot (own slot) lsn mark at len in_shown read.0,
            inl (take_again len (drop (slot * size + at) shown)),
          );
    }

module _ {sum : List ℕ → ℕ} (none : NoHeaderOfZeros sum) {size : ℕ} {s : State} {m : Machine} {line : List SegmentView} {least base : ℕ} {H : History}
    (known : IsKnown sum size s m line least base H) (slots : ℕ) (unused : (k : ℕ) → slots ≤ k → is_free (slot_at m k).state ≡ true) where
  abbrev log : List ℕ
  log = s.log.bytes

  abbrev shown : List ℕ
  shown = cleared size m line log

  some : 256 ≤ size
  some = known.some

  big : 20 ≤ size
  big = omega (arith, some)

  same_long : length shown ≡ length log
  same_long = zeroed_long (is_stale size m line) log

  -- A header is shown below the cut alone.
  shown_below : (k p : ℕ) (mark : ℤ) → IsHeader sum (part shown (k * size) 20) (pos p) mark → k < slots
  shown_below k p mark is = elim (cases_lt k slots) [
    | inl below ↦ below
    | inr above ↦ absurd (none_in_zeros sum size none big shown (k * size) ((cleared_zeros size (omega (arith, some)) m line log).0 k (unused k above))
        (pos p) mark is)
  ]

  -- What a crash leaves.
  module _ (cut : ℕ) (no_less : slots * size ≤ cut) (left : List ℕ) (leaves : LeavesLog (after_cut size log slots cut) left)
      (only_own : NoForeignLog sum size (after_cut size log slots cut) s.placed left) where
    -- what is shown, as long as that
    abbrev pub shown_front : List ℕ
    shown_front = take (length left) shown

    short : length left ≤ length shown
    short = let most = leaves.no_longer in omega (arith, most, same_long)

    enough : min (length shown) (slots * size) ≤ length left
    enough = let fewest = leaves.no_shorter in omega (arith, fewest, same_long, no_less)

    leaves_front : LeavesLog (after_cut size shown slots cut) shown_front
    leaves_front = front_left sum size some s shown slots cut no_less (length left) short enough

    own_front : NoForeignLog sum size (after_cut size shown slots cut) s.placed shown_front
    own_front = front_own sum size some s shown slots cut no_less (length left) short enough known.own

    header_in_shown : (k p : ℕ) (mark : ℤ) → IsHeader sum (part shown_front (k * size) 20) (pos p) mark → IsHeader sum (part shown (k * size) 20) (pos p) mark
    header_in_shown k p mark is =
        let there = in_this_file sum size shown_front shown_front (k * size) 20 (omega arith) (twenty sum size shown_front (k * size) (pos p) mark is) refl in
        subst (λ (l : List ℕ). IsHeader sum l (pos p) mark)
        (sym (front_back sum size some s shown slots cut no_less (length left) short enough k (k * size) 20 (omega arith) (omega (arith, some)) there)) is

    -- A slot below the cut.
    module _ (k : ℕ) (below : k < slots) where
      front_same : SameIn size shown shown_front k
      front_same = below_same sum size shown slots cut no_less shown_front leaves_front k below

      left_same : SameIn size log left k
      left_same = below_same sum size log slots cut no_less left leaves k below

    placed_left : (k : ℕ) → WasPlaced sum size s.placed left k
    placed_left = was_placed sum size s.placed left (after_cut size log slots cut) only_own

    -- A segment that is shown below it is read in what is left as it is shown: what is own of it is shown.
    shown_as_left : (k p : ℕ) (mark : ℤ) → IsHeader sum (part shown (k * size) 20) (pos p) mark → k < slots → ReadsAlike sum size shown left k p
    shown_as_left k p mark is below = both_alike sum size shown left k p same_header
        (shown_kept sum size m shown log known.reads k p mark is left (left_same k below))
        (own_same sum size s m line least base H known.hides known.reads k p mark is left
        (own_record sum size s left placed_left k p mark (subst (λ (l : List ℕ). IsHeader sum l (pos p) mark) (sym same_header) is))) where
          same_header : part left (k * size) 20 ≡ part shown (k * size) 20
          same_header =
              let in_log = known.reads.headers k p mark is in
              let there = in_this_file sum size log shown (k * size) 20 (omega arith) (twenty sum size shown (k * size) (pos p) mark is) in_log in
              left_same k below (k * size) 20 (omega arith) (omega (arith, some)) there ∙ in_log

    -- A segment that is shown below it is read in what is left.
    each_alike : (k p : ℕ) (mark : ℤ) → IsHeader sum (part shown_front (k * size) 20) (pos p) mark → ReadsAlike sum size shown_front left k p
    each_alike k p mark is =
        let in_shown = header_in_shown k p mark is in
        let below = shown_below k p mark in_shown in
        let first = same_alike sum size big shown_front shown k p mark is
        (front_back sum size some s shown slots cut no_less (length left) short enough k) (front_same k below) in
        alike_joined sum size shown_front shown left k p first (shown_as_left k p mark in_shown below)

    -- Each header that is shown stands there.
    header_stays : (k p : ℕ) (mark : ℤ) → IsHeader sum (part shown (k * size) 20) (pos p) mark → part shown_front (k * size) 20 ≡ part shown (k * size) 20
    header_stays k p mark is =
        let there = in_this_file sum size shown shown (k * size) 20 (omega arith) (twenty sum size shown (k * size) (pos p) mark is) refl in
        front_same k (shown_below k p mark is) (k * size) 20 (omega arith) (omega (arith, some)) there

    -- Another one from the snapshot's on is gone.
    other_gone : (k p : ℕ) (mark : ℤ) → least ≤ p → IsHeader sum (part left (k * size) 20) (pos p) mark
        → IsHeader sum (part shown_front (k * size) 20) (pos p) mark ⊎ IsGoneSegment sum size left H base (marked_at (k * size) p mark)
    other_gone k p mark low is = elim (known.hides.headers k p mark low (own_header sum size s left placed_left k p mark is)) [
      | inl shows ↦ inl (subst (λ (l : List ℕ). IsHeader sum l (pos p) mark) (sym (header_stays k p mark shows)) shows)
      | inr gone ↦ inr (gone_in sum size s m base H k p mark gone left (own_record sum size s left placed_left k p mark is))
    ]

    -- So what is left reads as what is shown, as long as that.
    pub cut_reads : LeavesLog (after_cut size shown slots cut) shown_front × NoForeignLog sum size (after_cut size shown slots cut) s.placed shown_front
        × ReadsBy sum size s shown least base H shown_front left
    cut_reads = (
      leaves_front,
      own_front,
      record {
        reads = reads_as sum size least H base shown_front left each_alike other_gone;
        stays = header_stays;
        headed = λ k p mark is. inl (own_header sum size s left placed_left k p mark is);
      },
    )
