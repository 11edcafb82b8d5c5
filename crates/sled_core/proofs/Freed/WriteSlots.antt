-- A write of a buffer to the slot of its segment, wherever it lies there: what a crash leaves of it reads in the slot as what was shown, with as much of the
-- write as a reader comes to.
use Rattle.std.proofs.Common.{◌≡◌, ◌⊎◌, ◌∙◌, ◌<◌, ◌+◌, ◌-◌, ◌*◌, ◌/◌, ◌%◌, ◌≤◌, ℕ, ℤ, pos, List, [], length, take, drop, refl, sym, ap, subst, arith, inl, inr, length-take}
use Rattle.std.proofs.Math.Nat.{mul-mod_left}
use Rattle.sled_codec.specs.declared.serialization.message.MessageHeader.{MessageHeader}
use Rattle.sled_codec.specs.History.{History}
use Rattle.sled_codec.specs.Places.{part}
use Rattle.sled_codec.specs.Record.{IsHeader}
use Rattle.sled_store.specs.Device.{State, overwritten}
use Rattle.sled_store.specs.Foreign.{Covers, IsWhole}
use Rattle.sled_store.specs.SegmentStates.{Machine}
use Rattle.sled_store.proofs.Crashes.ForeignLemmas.{take_again}
use Rattle.sled_store.proofs.LogFile.LooseLemmas.{end_of-le}
use Rattle.sled_store.proofs.LogFile.OverwrittenLemmas.{length-overwritten}
use Rattle.sled_store.proofs.Segments.Elements.{in_first}
use Rattle.sled_core.specs.Begun.{SegmentView}
use Rattle.sled_core.specs.Recoverable.{NoHeaderOfZeros}
use Rattle.sled_core.specs.declared.iterator.scan.ScannedRecord.{ScannedRecord}
use Rattle.sled_core.specs.declared.iterator.scan.ScanEnd.{ScanEnd}
use Rattle.sled_core.specs.declared.iterator.scan.ScanEnd.TheVariants.{Full, Broken}
use Rattle.sled_core.specs.Reading.{StandsAt}
use Rattle.sled_core.specs.Scan.{IsEnd, IsPath, IsScan}
use Rattle.sled_core.specs.inside.Cleared.{cleared}
use Rattle.sled_core.proofs.Freed.FrontWritten.{front_leaves}
use Rattle.sled_core.proofs.Freed.Known.{LeavesOwn, WritesSlot}
use Rattle.sled_core.proofs.Freed.OwnAlike.{path_inside}
use Rattle.sled_core.proofs.Freed.TornFront.{alike_between, front_reads}
use Rattle.sled_core.proofs.Freed.TornUnread.{SlotReads, alike_before, header_left, header_same, headless_slot, unread_slot}
use Rattle.sled_core.proofs.Reached.LeftBeside.{alike_apart}
use Rattle.sled_core.proofs.Tail.LogFileLemmas.{part_kept, part_laid}
use Rattle.sled_core.proofs.Torn.TornLemmas.{part_left}
use Rattle.sled_core.proofs.Torn.TornRecords.{long_enough, record_read, same_or_not}
use Rattle.sled_core.proofs.Torn.WrittenBegun.{none_in_zeros}
use Rattle.sled_core.proofs.Torn.WrittenParts.{ComesTo, all_there, in_this_file, path_whole, twenty}
use Rattle.sled_core.proofs.Torn.WrittenRecords.{AlikeAlong, AreClear}

-- What is read of a segment from an offset on.
pub record ReadsFrom (sum : List ℕ → ℕ) (size : ℕ) (file : List ℕ) (slot place first until : ℕ) : Type 0 where
  pub more : List ScannedRecord
  pub stop : ℕ
  pub why : ScanEnd
  -- a record may begin at none of its offsets, or with its sum and its kind in front of another offset, or behind that
  pub clear : AreClear size until first more
  pub path : IsPath sum size file (slot * size) place first more stop
  pub end : IsEnd sum size file (slot * size) place stop why

-- A write to a slot begins its segment.
pub record BeginsIn (sum : List ℕ → ℕ) (size : ℕ) (shown : List ℕ) (slot from : ℕ) (asked : List ℕ) (place until : ℕ) : Type 0 where
  pub begins : from ≡ 0
  pub mark : ℤ
  pub header : IsHeader sum (take 20 asked) (pos place) mark
  pub on : ReadsFrom sum size (overwritten shown (slot * size + from) asked) slot place 20 until

-- It goes on where the segment was read to.
pub record FollowsIn (sum : List ℕ → ℕ) (size : ℕ) (shown : List ℕ) (slot from : ℕ) (asked : List ℕ) (place until : ℕ) : Type 0 where
  pub behind : 20 ≤ from
  pub mark : ℤ
  pub header : IsHeader sum (part shown (slot * size) 20) (pos place) mark
  pub met : List ScannedRecord
  pub before : IsPath sum size shown (slot * size) place 20 met from
  pub on : ReadsFrom sum size (overwritten shown (slot * size + from) asked) slot place from until

-- The reading of the segment ends in front of it, or where no record has room any more.
pub record StopsIn (sum : List ℕ → ℕ) (size : ℕ) (shown : List ℕ) (slot from place : ℕ) : Type 0 where
  pub behind : 20 ≤ from
  pub mark : ℤ
  pub header : IsHeader sum (part shown (slot * size) 20) (pos place) mark
  pub met : List ScannedRecord
  pub low : ℕ
  pub why : ScanEnd
  pub scan : IsScan sum size shown (slot * size) place met low why
  pub before : low ≤ from
  pub stops : ((why ≡ Broken) × (low < from)) ⊎ (why ≡ Full)

-- The header of the segment isn't written yet.
pub record WaitsIn (sum : List ℕ → ℕ) (size : ℕ) (shown : List ℕ) (slot from : ℕ) : Type 0 where
  pub behind : 20 ≤ from
  pub none : (lsn mark : ℤ) → IsHeader sum (part shown (slot * size) 20) lsn mark → ⊥

-- one of these
abbrev pub LiesIn : (List ℕ → ℕ) → ℕ → List ℕ → ℕ → ℕ → List ℕ → ℕ → ℕ → Type 0
LiesIn sum size shown slot from asked place until =
    BeginsIn sum size shown slot from asked place until ⊎ FollowsIn sum size shown slot from asked place until ⊎ StopsIn sum size shown slot from place
    ⊎ WaitsIn sum size shown slot from

-- It begins its segment, or lies behind the header.
pub begins_or_behind : (sum : List ℕ → ℕ) (size : ℕ) (shown : List ℕ) (slot from : ℕ) (asked : List ℕ) (place until : ℕ)
    → LiesIn sum size shown slot from asked place until → BeginsIn sum size shown slot from asked place until ⊎ (20 ≤ from)
begins_or_behind sum size shown slot from asked place until (inl b) = inl b
begins_or_behind sum size shown slot from asked place until (inr (inl f)) = inr f.behind
begins_or_behind sum size shown slot from asked place until (inr (inr (inl u))) = inr u.behind
begins_or_behind sum size shown slot from asked place until (inr (inr (inr w))) = inr w.behind

module _ {sum : List ℕ → ℕ} (none : NoHeaderOfZeros sum) {size : ℕ} {s : State} {m : Machine} {line : List SegmentView} {least base : ℕ} {H : History}
    {slot from : ℕ} {asked : List ℕ} {place until : ℕ} (w : WritesSlot sum size s m line least base H slot from asked place until) {now left : List ℕ}
    (l : LeavesOwn sum size s (slot * size + from) asked now left) where
  abbrev log : List ℕ
  log = s.log.bytes

  abbrev shown : List ℕ
  shown = cleared size m line log

  abbrev at : ℕ
  at = slot * size + from

  abbrev new : List ℕ
  new = overwritten shown at asked

  abbrev Reads : List ℕ → Type 0
  Reads = SlotReads sum size s shown at asked now left H least base slot

  aligned : slot * size % size ≡ 0
  aligned = mul-mod_left slot size

  covers : from + length asked ≤ until
  covers = w.covers

  -- What is read behind the write, where all of it is done, stands in what is left.
  behind_kept : (mark : ℤ) → IsHeader sum (part new (slot * size) 20) (pos place) mark → (here : ℕ) → until ≤ here → here + 32 ≤ size
      → ComesTo sum size new (slot * size) place here → (h : MessageHeader) (body : List ℕ) (len : ℕ)
      → StandsAt sum size new (slot * size + here) (place / size) h body len
      → part left (slot * size + here) len ≡ part new (slot * size + here) len
  behind_kept mark header here far room comes h body len stands =
      let lid : ℕ = slot * size + here in
      let same = w.reads_after.records slot place mark here len header
      (record_read sum size new (record { place = place; slot = slot * size }) aligned (place / size) 20 here h body len room stands comes) in
      let eight = long_enough sum size new lid (place / size) h body len stands in
      let whole = all_there sum size new lid (place / size) h body len stands in
      let in_new = in_this_file sum size (overwritten log at asked) new lid len (omega (arith, eight)) whole same in
      let there : lid + len ≤ length log =
      omega (arith, in_new, eight, far, covers, length-overwritten log at asked, end_of-le at (length asked) (length asked) (omega arith)) in
      part_left log at asked now left l.no_more l.leaves lid len there (inr (omega (arith, far, covers)))
      ∙ sym (part_kept sum size log at asked lid len there (inr (omega (arith, far, covers)))) ∙ same

  -- It begins the segment.
  module _ (b : BeginsIn sum size shown slot from asked place until) where
    begins : at ≡ slot * size
    begins = let first = b.begins in omega (arith, first)

    long : 20 ≤ length asked
    long = omega (arith, twenty sum size asked 0 (pos place) b.mark b.header, length-take 20 asked)

    pub none_shown : (lsn mark : ℤ) → IsHeader sum (part shown (slot * size) 20) lsn mark → ⊥
    none_shown = none_in_zeros sum until none (omega (arith, long, covers)) shown (slot * size)
        (λ i above below. w.clean i (omega (arith, above, begins)) below)

    header_new : part new (slot * size) 20 ≡ take 20 asked
    header_new = ap (λ n. part new n 20) (sym (let same : at + 0 ≡ slot * size = omega (arith, begins) in same))
        ∙ part_laid sum size shown at asked 0 20 (omega (arith, long))

    -- Its header stands in what is left, or it doesn't.
    begun : part left (slot * size) 20 ≡ take 20 asked → (n : ℕ) × Reads (overwritten shown at (take n asked))
    unfolding IsWhole
    begun same =
        let header = subst (λ (l : List ℕ). IsHeader sum l (pos place) b.mark) (sym same) b.header in
        let in_new = subst (λ (l : List ℕ). IsHeader sum l (pos place) b.mark) (sym header_new) b.header in
        let whole = twenty sum size left (slot * size) (pos place) b.mark header in
        let back : slot * size - at ≡ 0 = omega (arith, begins) in
        let its_covers : Covers (at, asked) (slot * size) (part left (slot * size) 20) = record {
          begins = omega (arith, begins);
          ends = omega (arith, begins, whole, long);
          same = ap (λ n. part asked n (length (part left (slot * size) 20))) back ∙ ap (λ n. part asked 0 n) whole ∙ sym same;
        } in
        let on = b.on in
        front_reads w l b.mark header ((l.only_own.headers slot (pos place) b.mark header).0, inr ((at, asked), in_first (at, asked) [], its_covers))
        (same ∙ sym header_new) 20 (omega arith) (let first = b.begins in omega (arith, first))
        (λ first. absurd (let zero_from = b.begins in omega (arith, first, zero_from))) [] refl tt on.more on.stop on.why on.clear on.path on.end
        (behind_kept b.mark in_new)

    begins_slot : (n : ℕ) × Reads (overwritten shown at (take n asked))
    begins_slot = elim (same_or_not (part left (slot * size) 20) (take 20 asked)) [
      | inl same ↦ begun same
      | inr other ↦ (
        0,
        headless_slot w l none_shown (λ here is. other (sym is)),
      )
    ]

  -- It goes on where the segment was read to.
  module _ (f : FollowsIn sum size shown slot from asked place until) where
    shown_inside : slot * size + 20 ≤ length shown
    shown_inside = in_this_file sum size shown shown (slot * size) 20 (omega arith) (twenty sum size shown (slot * size) (pos place) f.mark f.header) refl

    new_header : part new (slot * size) 20 ≡ part shown (slot * size) 20
    new_header = part_kept sum size shown at asked (slot * size) 20 shown_inside (inl (let low = f.behind in omega (arith, low)))

    left_same : part left (slot * size) 20 ≡ part shown (slot * size) 20
    left_same = header_same w l f.behind f.mark f.header

    left_header : IsHeader sum (part left (slot * size) 20) (pos place) f.mark
    left_header = header_left w l f.behind f.mark f.header

    kept : AlikeAlong shown left (slot * size) 20 f.met
    kept = alike_before w l f.behind f.mark f.header f.met from (omega arith) f.before

    kept_new : AlikeAlong shown new (slot * size) 20 f.met
    kept_new = alike_apart sum size w.known.some shown slot from asked asked new w.inside (omega arith) (front_leaves shown at asked asked asked (omega arith))
        (slot * size) place aligned 20 f.met from (inl (omega arith)) f.before

    follows_slot : (n : ℕ) × Reads (overwritten shown at (take n asked))
    unfolding IsWhole
    follows_slot =
        let on = f.on in
        let in_new = subst (λ (l : List ℕ). IsHeader sum l (pos place) f.mark) (sym new_header) f.header in
        front_reads w l f.mark left_header (
          (l.only_own.headers slot (pos place) f.mark left_header).0,
          inl (subst (λ (t : List ℕ). part shown (slot * size) (length t) ≡ t) (sym left_same) (take_again 20 (drop (slot * size) shown))),
        )
        (left_same ∙ sym new_header) from f.behind (omega arith)
        (λ first. path_inside sum size shown (slot * size) place 20 f.met from shown_inside f.before) f.met
        (path_whole sum size shown at asked (slot * size) place aligned 20 f.met from (inl (omega arith)) f.before)
        (alike_between shown new left (slot * size) 20 f.met kept_new kept) on.more on.stop on.why on.clear on.path on.end
        (behind_kept f.mark in_new)

  -- Wherever it lies.
  pub write_slot : LiesIn sum size shown slot from asked place until → (n : ℕ) × Reads (overwritten shown at (take n asked))
  write_slot (inl b) = begins_slot b
  write_slot (inr (inl f)) = follows_slot f
  write_slot (inr (inr (inl u))) = (0, unread_slot w l u.behind u.mark u.header u.met u.low u.why u.scan u.before u.stops)
  write_slot (inr (inr (inr h))) = (0, headless_slot w l h.none (λ here is. absurd (let low = h.behind in omega (arith, here, low))))
