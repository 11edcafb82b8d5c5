-- The first buffer that isn't written of a segment behind the first one is written, at its beginning or behind what is written of it: what a crash leaves of it stands as before, and all of it too, with that segment up to the end of those behind it that were written before it.
use Rattle.std.proofs.Common.{◌≢◌, ◌≡◌, ◌⊎◌, ◌≤◌, ◌<◌, ◌<ℤ◌, ◌+◌, ◌/◌, ◌%◌, ◌^◌, ◌∙◌, ℕ, pos, max, Bool, false, nat_lt, if◌then◌else◌, List, [], ◌∷◌, ◌++◌, length, take, sym, ap, subst, arith, inl, inr}
use Rattle.std.specs.List.{All}
use Rattle.std.proofs.lemmas.Bool.{cases_lt}
use Rattle.std.proofs.lemmas.Bool.Decides.{nat_tests}
use Rattle.std.proofs.lemmas.List.Elements.{All-take, Contains-append_right}
use Rattle.sled_codec.specs.History.{History}
use Rattle.sled_codec.specs.Places.{part}
use Rattle.sled_codec.specs.Record.{IsHeader}
use Rattle.sled_codec.specs.Snapshots.{SnapshotModel}
use Rattle.sled_store.specs.Device.{overwritten, LeavesLog, Placement}
use Rattle.sled_store.specs.Foreign.{NoForeignLog}
use Rattle.sled_store.proofs.Histories.Ascending.{Ascends}
use Rattle.sled_store.proofs.Segments.Elements.{in_first}
use Rattle.sled_core.specs.Begun.{records_to}
use Rattle.sled_core.specs.OpenBatches.{stable_below}
use Rattle.sled_core.specs.declared.iobuf.Reserved.{Reserved}
use Rattle.sled_core.specs.declared.iobuf.Sealed.{Sealed}
use Rattle.sled_core.specs.declared.iobuf.SegmentPosition.{SegmentPosition}
use Rattle.sled_core.specs.declared.iterator.Segment.{Segment}
use Rattle.sled_core.specs.declared.iterator.scan.ScanEnd.{ScanEnd}
use Rattle.sled_core.specs.declared.iterator.scan.ScanEnd.TheVariants.{Full, Broken}
use Rattle.sled_core.specs.inside.Buffers.{IsChain, batches_in, completed_in, records_end, records_of, Stands}
use Rattle.sled_core.specs.inside.Fits.{HasMark}
use Rattle.sled_core.specs.LogFile.{HasHeader}
use Rattle.sled_core.specs.inside.Reached.{BegunSegment, IsSoFar, StandsAmong, StandsIn}
use Rattle.sled_core.specs.inside.Recoverable.{NoBatchEnds}
use Rattle.sled_core.specs.Recoverable.{NoHeaderOfZeros}
use Rattle.sled_core.specs.inside.Scan.{IsFoundSegment}
use Rattle.sled_core.specs.inside.SealedBuffers.{Agrees, AreSealed, Laid, run_end, run_count}
use Rattle.sled_core.specs.SealedBuffers.{bytes_between}
use Rattle.sled_core.specs.Tail.{least_place}
use Rattle.sled_core.proofs.Tail.LogFileLemmas.{part_kept}
use Rattle.sled_core.proofs.Sealed.SealedFile.{chain_done}
use Rattle.sled_core.proofs.Read.FoundLemmas.{found_there}
use Rattle.sled_core.proofs.Reached.BufferPath.{HasOnly, buffer_header}
use Rattle.sled_core.proofs.Reached.BufferStands.{met_in, same_part}
use Rattle.sled_core.proofs.Reached.SegmentsBeside.{going_in, grown_one}
use Rattle.sled_core.proofs.Reached.StandsTo.{StandsTo}
use Rattle.sled_core.proofs.Reserve.Entries.{all_space}
use Rattle.sled_core.proofs.Sealed.BehindUnwritten.{below_room}
use Rattle.sled_core.proofs.Sealed.LaidLemmas.{EndsRise}
use Rattle.sled_core.proofs.Sealed.OneWritten.{has_written}
use Rattle.sled_core.proofs.Sealed.OtherWritten.{other_written, torn_other}
use Rattle.sled_core.proofs.Sealed.RecordsEnd.{covered_behind, records_why}
use Rattle.sled_core.proofs.Sealed.RestWritten.{other_rest_written, torn_rest}
use Rattle.sled_core.proofs.Sealed.RunPath.{MeetsRun, front_mark, meets_run, never_broken}
use Rattle.sled_core.proofs.Tail.GreatestMark.{mark_below}
use Rattle.sled_core.proofs.Tail.OneTail.{segment_there}
use Rattle.sled_core.proofs.Torn.TornLemmas.{after_write}

-- Where its first buffer behind what is written isn't written. The last entry of the segment may be what fills it.
module _ (sum : List ℕ → ℕ) (none : NoHeaderOfZeros sum) (size : ℕ) (some : 256 ≤ size) (file : List ℕ) (site : SegmentPosition) (from : ℕ) (pre : List BegunSegment) (y : BegunSegment) (post : List BegunSegment)
    (place_begins : y.site.place % size ≡ 0) (slot_begins : y.site.slot % size ≡ 0) (place_small : y.site.place + size < 2 ^ 63) (slot_small : y.site.slot + size < 2 ^ 63)
    (bytes : List ℕ) (begins : (y.from ≡ 0) ⊎ (20 ≤ y.from)) (rs : List Reserved) (b : Sealed) (rest : List Sealed)
    (fresh : b.is_written ≡ false) (closed : b.open_count ≡ 0) (are : AreSealed y.from rs (b ∷ rest)) (rise : EndsRise y.from (b ∷ rest) size) (inside : b.end ≤ length bytes)
    (stand : All (Stands sum size (y.site.place / size) bytes) rs) {H : History} (header : y.from ≡ 0 → (m : HasMark sum y.site bytes H) × (m.mark <ℤ pos (site.place + from)))
    (laid : Laid file y.site.slot bytes y.from (b ∷ rest) size) (reach : ℕ) (first : SnapshotModel) {held : ℕ} (among : StandsAmong sum held size file site from (pre ++ y ∷ post) reach H first) where
  abbrev asked : List ℕ
  asked = bytes_between bytes y.from b.end

  abbrev new : List ℕ
  new = overwritten file (y.site.slot + y.from) asked

  -- where those end that are written now
  abbrev pub stop : ℕ
  stop = run_end b.end rest

  -- and their entries
  abbrev pub done : List Reserved
  done = take (b.count + run_count rest) rs

  -- where the records of these end
  abbrev last : ℕ
  last = records_end done stop

  abbrev records : List Reserved
  records = records_of done

  abbrev why : ScanEnd
  why = records_why size done stop

  run : MeetsRun sum size file new y.site bytes y.from b.end done stop
  run = meets_run sum size file y.site place_begins slot_begins place_small slot_small bytes y.from rs b rest fresh closed are rise inside stand laid

  its_stands : StandsIn sum size file (least_place size first) among.stands.scanned y.site y.from (records_to y.filled size)
  its_stands = among.behind y (Contains-append_right pre (y ∷ post) y (in_first y post))

  its_mark : y.from ≡ 0 → (m : HasMark sum y.site asked H) × (m.mark <ℤ pos (site.place + from))
  its_mark none_yet = let h = header none_yet in (front_mark sum y.site bytes H y.from b.end none_yet (run.headed none_yet) h.0, h.1)

  fits : y.from + length asked ≤ size
  fits = let covers = run.covers in let reaches = run.reaches in omega (arith, covers, reaches)

  left_over : y.from < size
  left_over = let up = rise.0 in let reaches = run.reaches in omega (arith, up, reaches)

  -- A buffer that begins where no header has room ends with the segment.
  fills : size < y.from + 32 → stop ≡ size
  fills full = elim (cases_lt b.end size) [
    | inl low ↦ (let room = below_room size y.from some begins rs b rest are (all_space sum size (y.site.place / size) bytes rs stand) low in absurd (omega (arith, room, full)))
    | inr end ↦ (let far = run.far in let low = run.low in omega (arith, end, far, low))
  ]

  -- Where something of the segment was written, its header is there, with a mark below the stable end.
  header_later : y.from + 32 ≤ size → 0 < y.from → (h : HasHeader sum new y.site) × (h.mark <ℤ pos (site.place + from))
  header_later room later =
      let g = going_in sum size file (least_place size first) among.stands.scanned y.site y.from its_stands later room in
      let s : Segment = g.scan.segment in
      let known = (segment_there sum size file among.stands.ordering among.stands.scanned among.stands.reads g.scan g.there).0 in
      let found : IsFoundSegment sum size file (least_place size first) s = (among.stands.numbers.found s).0 known in
      let slot = g.in_slot in
      let place = g.at_place in
      let there = found_there sum size file (least_place size first) s found in
      let behind : 20 ≤ y.from = elim begins [ inl none_yet ↦ absurd (omega (arith, none_yet, later)) | inr far ↦ far ] in
      let same : part new s.slot 20 ≡ part file s.slot 20 = part_kept sum size file (y.site.slot + y.from) asked s.slot 20 there (inl (omega (arith, slot, behind))) in (
        record {
          mark = s.mark;
          header = subst (λ n. IsHeader sum (part new y.site.slot 20) (pos n) s.mark) place
              (subst (λ n. IsHeader sum (part new n 20) (pos s.place) s.mark) slot (subst (λ (l : List ℕ). IsHeader sum l (pos s.place) s.mark) (sym same) found.header));
          below = λ n is. let low = mark_below s.mark n s.place is (among.stands.marks s known).below in omega (arith, low, place);
        },
        among.below s found,
      )

  -- Where nothing was, such a header is written.
  header_first : y.from ≡ 0 → (h : HasHeader sum new y.site) × (h.mark <ℤ pos (site.place + from))
  header_first none_yet =
      let h = header none_yet in
      let m = h.0 in
      let agrees = subst (λ n. Agrees new y.site.slot bytes n b.end) none_yet (has_written file y.site.slot bytes y.from [] b rest size rise inside) in
      let here : y.site.slot + 0 ≡ y.site.slot = omega arith in
      let at : part new y.site.slot 20 ≡ take 20 bytes = ap (λ n. part new n 20) (sym here) ∙ same_part new y.site.slot bytes 0 b.end agrees 0 20 (omega arith) (run.headed none_yet) in (
        record {
          mark = m.mark;
          header = subst (λ (l : List ℕ). IsHeader sum l (pos y.site.place) m.mark) (sym at) (buffer_header sum y.site bytes H m (omega (arith, place_small)));
          below = λ n is. mark_below m.mark n y.site.place is m.of_history.below;
        },
        h.1,
      )

  header_new : y.from + 32 ≤ size → (h : HasHeader sum new y.site) × (h.mark <ℤ pos (site.place + from))
  header_new room = elim (cases_lt 0 y.from) [ inl later ↦ header_later room later | inr first_one ↦ header_first (omega (arith, first_one)) ]

  -- Where no header has room behind what is written, no record is written now.
  last_low : size < y.from + 32 → last ≤ y.from
  last_low full =
      let chain : IsChain (max 20 y.from) done stop = chain_done y.from rs b rest closed are in
      let low = covered_behind sum size (y.site.place / size) bytes done (max 20 y.from) stop chain (All-take (Stands sum size (y.site.place / size) bytes) (b.count + run_count rest) rs stand) (omega (arith, full)) in
      omega (arith, low, full, some)

  -- So much of the segment stands then: it ends for want of a record, or it is full.
  so_far : IsSoFar size stop last why
  so_far = elim run.records.last [
    | inl l ↦ inl (l.1, λ more. let test : nat_lt size (stop + 32) ≡ false = grind (arith, nat_tests, more) in l.2 ∙ ap (λ (o : Bool). if o then Full else Broken) test)
    | inr f ↦ inr (f.full, λ broken. never_broken size last (sym f.reason ∙ broken))
  ]

  module _ (has : HasOnly H (completed_in y.site bytes done) (batches_in y.site bytes done) (y.site.place + max 20 y.from) (y.site.place + stop)) (no_end : why ≢ Broken → NoBatchEnds H (y.site.place + last) (y.site.place + size)) where
    -- What a crash leaves of it.
    pub torn_other_sealed : (now left : List ℕ) → length now ≤ length asked → LeavesLog (after_write file (y.site.slot + y.from) asked now) left → {placed : List Placement}
        → NoForeignLog sum size (after_write file (y.site.slot + y.from) asked now) placed left → StandsTo sum size left H (stable_below reach H.batches) first reach
    torn_other_sealed now left no_more leaves {placed} only_own = elim (cases_lt size (y.from + 32)) [
      | inl full ↦ torn_rest sum size some file y.site y.from y.from asked fits slot_begins (omega arith) left_over full reach H first among.stands its_stands now left no_more leaves {placed = placed} only_own
      | inr room ↦ torn_other sum none size some file site from pre y post asked b.end run.covers run.reaches run.headed room place_begins slot_begins place_small its_mark run.clean
          reach first among (met_in y.site bytes records) last why run.clear run.path run.ends (run.truth H has) (run.caps H has no_end) now left no_more leaves {placed = placed} only_own
    ]

    -- All of it, where the file reaches up to the slot: the segment stands as far as the buffers that are written now.
    pub other_sealed_written : Ascends H.messages → y.site.slot ≤ length file → least_place size first ≤ y.site.place → (stop ≡ size → records_to y.filled size ≤ last) → StandsAmong sum held size new site from (pre ++ grown_one y stop ∷ post) reach H first
    other_sealed_written ordered there low up_to = elim (cases_lt size (y.from + 32)) [
      | inl full ↦ subst (λ n. StandsAmong sum held size new site from (pre ++ grown_one y n ∷ post) reach H first) (sym (fills full))
          (other_rest_written sum size some file site from pre y post y.from asked fits slot_begins (omega arith) left_over full (let up = up_to (fills full) in let low_end = last_low full in omega (arith, up, low_end)) reach H first among there)
      | inr room ↦ (
          let h = header_new room in
          other_written sum none size some file site from pre y post asked b.end run.covers run.reaches run.headed room place_begins slot_begins place_small its_mark run.clean
          reach first among (met_in y.site bytes records) last why run.clear run.path run.ends (run.truth H has) (run.caps H has no_end) ordered there low h.0 h.1 stop so_far up_to)
    ]
