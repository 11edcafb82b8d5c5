-- All segments of a log before a place are wholly on the device, and so is the one that begins there: so are all before the next place. A reader comes up to where its records end.
use Rattle.std.proofs.Common.{◌≡◌, ◌≢◌, ◌≤◌, ◌<◌, ◌+◌, ◌-◌, ◌∙◌, ℕ, List, [], ◌∷◌, length, map, replicate, Option, None, refl, sym, subst, arith, inl, inr}
use Rattle.std.specs.List.{Contains}
use Rattle.std.specs.declared.io.Error.{Error as IoError}
use Rattle.std.proofs.lemmas.Bool.{cases_lt}
use Rattle.std.proofs.lemmas.List.Elements.{All-contains}
use Rattle.sled_codec.specs.Coords.{raised}
use Rattle.sled_codec.specs.History.{History, Message}
use Rattle.sled_store.specs.Device.{State}
use Rattle.sled_store.proofs.Histories.Ascending.{Ascends}
use Rattle.sled_core.specs.Logged.{logged}
use Rattle.sled_core.specs.OpenBatches.{stable_below}
use Rattle.sled_core.specs.declared.iterator.scan.ScannedRecord.{ScannedRecord}
use Rattle.sled_core.specs.declared.iterator.scan.ScanEnd.{ScanEnd}
use Rattle.sled_core.specs.declared.iterator.scan.ScanEnd.TheVariants.{Full, Broken}
use Rattle.sled_core.specs.Begun.{SegmentParts, records_to}
use Rattle.sled_core.specs.inside.Fits.{HoldsIn, begun_segment, log_parts}
use Rattle.sled_core.specs.inside.Full.{FitsFull, StandsFull}
use Rattle.sled_core.specs.inside.LogFile.{padded}
use Rattle.sled_core.specs.inside.Reached.{BeginsNext, IsReadTo, IsSoFar}
use Rattle.sled_core.specs.inside.Recoverable.{NoBatchBegins, NoBatchEnds}
use Rattle.sled_core.specs.Recoverable.{NoHeaderOfZeros}
use Rattle.sled_core.specs.inside.Running.{BlobsFit, KeepsEntries, KeepsItems}
use Rattle.sled_core.specs.Scan.{IsScan}
use Rattle.sled_core.specs.Tail.{Scanned}
use Rattle.sled_core.specs.declared.logger.joined_marks.JoinedMarks.{JoinedMarks}
use Rattle.sled_core.proofs.Line.FullHolds.{emptied, none_reserved, none_sealed}
use Rattle.sled_core.proofs.Line.FullNext.{at_place, follow, full_file, full_here, here, holds_now, ordered, rest}
use Rattle.sled_core.proofs.Line.FullRead.{ends_read, inside, no_batch_behind, no_end_behind, none_behind, same_stop}
use Rattle.sled_core.proofs.Line.FullZeros.{zeros_or_not}
use Rattle.sled_core.proofs.Sealed.Padded.{padded_none}
use Rattle.sled_core.proofs.Flush.Settled.{blobs_higher, entries_higher, settled_recoverable}
use Rattle.sled_core.proofs.Holds.WholeHistory.{later_above, of_first, which_part}
use Rattle.sled_core.proofs.Flush.Completed.{all_below}
use Rattle.sled_core.proofs.Reached.NextSegment.{next_full, read}
use Rattle.sled_core.proofs.Reached.StableBelow.{stable_rises}
use Rattle.sled_core.proofs.Sealed.Ended.{ends_rise}
use Rattle.sled_core.proofs.Sealed.FullSegment.{full_why}
use Rattle.sled_core.proofs.Tail.Multiples.{next_multiple, one_multiple}
use Rattle.sled_core.proofs.Tail.OneTail.{segment_there}
use Rattle.sled_core.proofs.Torn.WrittenParts.{path_rises}
use Rattle.sled_core.specs.inside.LogSegments.{held_since}

module _ (sum : List ℕ → ℕ) (size : ℕ) (device : State) (fault : Option IoError) (place : ℕ) (s : SegmentParts) (ss : List SegmentParts) {reach pins : ℕ} {H : History} {A f : ℕ} {U : List Message}
    {marks : JoinedMarks} (fits : FitsFull sum marks size device fault place (s ∷ ss) reach pins H A f U) (big : 256 ≤ size) (whole : fault ≡ None) (full : s.written_len ≡ size) where
  begins : s.site.place ≡ place
  begins = at_place sum size device fault place s ss fits big whole

  ascends : Ascends (logged H).messages
  ascends = ordered sum size device fault place s ss fits big whole

  low_end : length s.bytes ≤ s.written_len
  low_end = let within = (here sum size device fault place s ss fits big whole).inside in omega (arith, within, full)

  some_written : 0 < s.written_len
  some_written = omega (arith, full, big)

  abbrev holds_full : HoldsIn sum marks (log_parts size s.site device fault s.bytes size [] []) ss (logged H)
  holds_full =
      let next = here sum size device fault place s ss fits big whole in
      emptied sum size s.site device fault s.bytes s.written_len s.sealed s.reserved ss (logged H) (holds_now sum size device fault place s ss fits big whole) full
      (none_sealed s.written_len s.sealed (length s.bytes) (ends_rise s.written_len s.reserved s.sealed (length s.bytes) next.are next.behind next.held) low_end)
      (none_reserved sum size s.site device fault s.bytes s.written_len s.sealed s.reserved _ (holds_now sum size device fault place s ss fits big whole).own low_end)

  -- Where it stands so, up to a place no lower, behind all messages of the segment.
  module _ (reach' : ℕ) (up : reach ≤ reach') (near' : reach' ≤ s.site.place + size) (ends' : (m : Message) → Contains (logged H).messages m → m.place < s.site.place + size → (m.place < reach') × (m.place + m.size ≤ reach'))
      (no_batch' : NoBatchBegins (logged H) reach' (s.site.place + size)) (no_end' : NoBatchEnds (logged H) reach' (s.site.place + size))
      (stands : (to : ℕ) → NoHeaderOfZeros sum → StandsFull sum (held_since size marks fits.holds.begun.first) size (padded to device.log.bytes) (s.site.place + size) (map begun_segment ss) reach' (logged H) fits.holds.begun.first) where
    abbrev stable : ℕ
    stable = stable_below reach' H.batches

    rises : stable_below reach H.batches ≤ stable
    rises = stable_rises reach reach' up H.batches

    stored_now : KeepsItems sum device.blobs H stable
    stored_now m there past = let up = rises in fits.items.stored m there (omega (arith, up, past))

    entries_now : KeepsEntries sum device.blobs H stable
    entries_now = entries_higher sum device.blobs H (stable_below reach H.batches) stable ascends rises fits.items.stored fits.items.entries

    blobs_now : BlobsFit sum device.blobs H stable
    blobs_now = blobs_higher sum device.blobs H (stable_below reach H.batches) stable ascends rises fits.items.stored fits.items.blobs

    fits_further : FitsFull sum marks size device fault (s.site.place + size) ss reach' pins H A f U
    fits_further = record {
      site = s.site;
      bytes = s.bytes;
      next = refl;
      holds = holds_full;
      reached = record {
        near = near';
        ends = ends';
        no_batch = no_batch';
        no_end = no_end';
      };
      beyond = λ to none zeros. stands to zeros;
      items = record {
        blobs = blobs_now;
        stored = stored_now;
        entries = entries_now;
        below = fits.items.below;
      };
      named = fits.named;
      passes = let passes = fits.passes in let up = rises in omega (arith, passes, up);
      pinned = fits.pinned;
      left = settled_recoverable sum size big device H stable f fits.holds.begun.first reach' ascends stored_now (rest sum size device fault place s ss fits big whole) fits.named.names blobs_now
          (λ zeros. (subst (λ (l : List ℕ). StandsFull sum (held_since size marks fits.holds.begun.first) size l (s.site.place + size) (map begun_segment ss) reach' (logged H) fits.holds.begun.first) (padded_none 0 device.log.bytes (omega arith)) (stands 0 zeros)).stands);
    }

  -- How it is read in a file where all before it is.
  module _ (log : List ℕ) (is : StandsFull sum (held_since size marks fits.holds.begun.first) size log place (map begun_segment (s ∷ ss)) reach (logged H) fits.holds.begun.first) where
    abbrev full_now : StandsFull sum (held_since size marks fits.holds.begun.first) size log s.site.place (map begun_segment (s ∷ ss)) reach (logged H) fits.holds.begun.first
    full_now = full_here sum size device fault place s ss fits big whole log is

    abbrev its_read : (stop : ℕ) × (why : ScanEnd) × IsReadTo full_now.stands.scanned s.site.slot s.site.place stop why × IsSoFar size s.written_len stop why × (s.written_len ≡ size → records_to s.filled size ≤ stop)
    its_read = read sum size big log (begun_segment s) (map begun_segment ss) reach (logged H) fits.holds.begun.first full_now (follow sum size device fault place s ss fits big whole) ascends some_written

    abbrev stop : ℕ
    stop = its_read.0

    its_scan : (met : List ScannedRecord) × IsScan sum size log s.site.slot s.site.place met stop its_read.1
    its_scan =
        let r = its_read.2 in
        let t : Scanned = r.scan in
        let had = (segment_there sum size log full_now.stands.ordering full_now.stands.scanned full_now.stands.reads t r.there).1 in (
          t.met,
          subst (λ (w : ScanEnd). IsScan sum size log s.site.slot s.site.place t.met stop w) r.ends
              (subst (λ n. IsScan sum size log s.site.slot s.site.place t.met n t.why) r.ended
              (subst (λ n. IsScan sum size log s.site.slot n t.met t.stop t.why) r.at_place
              (subst (λ n. IsScan sum size log n t.segment.place t.met t.stop t.why) r.in_slot had))),
        )

    goes : its_read.1 ≢ Broken
    unfolding IsScan
    goes = elim its_read.3 [
      | inl ends ↦ (λ broken.
          let at = ends.0 in
          let never : Full ≡ Broken = sym (full_why sum size log s.site.slot s.site.place stop its_read.1 (omega (arith, at, full)) its_scan.1.1) ∙ broken in cc)
      | inr ends ↦ ends.1
    ]

    scan_goes : its_read.2.scan.why ≢ Broken
    scan_goes broken = goes (sym its_read.2.ends ∙ broken)

    behind_header : 20 ≤ stop
    unfolding IsScan
    behind_header = path_rises sum size log s.site.slot s.site.place 20 its_scan.0 stop its_scan.1.0

    within : stop ≤ size
    within =
        let r = its_read.2 in
        let short = inside sum size log big (logged H) (stable_below reach H.batches) fits.holds.begun.first reach full_now.stands ascends r.scan r.there scan_goes in
        let ended = r.ended in
        omega (arith, short, ended)

    -- a message of the segment ends below where the reading does
    ends_here : (m : Message) → Contains (logged H).messages m → m.place < s.site.place + size → (m.place < s.site.place + stop) × (m.place + m.size ≤ s.site.place + stop)
    ends_here m there under = elim (cases_lt m.place place) [
      | inl before ↦ (let low = fits.reached.ends m there before in let near = fits.reached.near in let at = begins in (omega (arith, low.0, near, at), omega (arith, low.1, near, at)))
      | inr behind ↦ (
          let r = its_read.2 in
          let at = r.at_place in
          let ended = r.ended in
          let low = ends_read sum size log big (logged H) (stable_below reach H.batches) fits.holds.begun.first reach full_now.stands ascends r.scan r.there scan_goes m there (let b = begins in omega (arith, behind, at, b)) (omega (arith, under, at)) in
          (omega (arith, low.0, at, ended), omega (arith, low.1, at, ended)))
    ]

    -- The next one begins behind it, with nothing of the history between.
    begins_next : BeginsNext size (logged H) (s.site.place + stop) (s.site.place + size)
    begins_next =
        let r = its_read.2 in
        let at = r.at_place in
        let ended = r.ended in
        let header = behind_header in
        let short = within in
        let b = begins in
        let further : raised size (s.site.place + stop) ≡ s.site.place + size =
        one_multiple size big (s.site.place + size) (s.site.place + stop + (size - 1)) (next_multiple size s.site.place holds_full.own.records.place_begins) (omega (arith, header, big)) (omega (arith, short, big)) in
        record {
          above = omega (arith, short);
          next = omega (arith, further);
          no_message = λ m there. elim (none_behind sum size log big (logged H) (stable_below reach H.batches) fits.holds.begun.first reach full_now.stands ascends r.scan r.there scan_goes m there) [ inl low ↦ inl (omega (arith, low, at, ended)) | inr past ↦ inr (omega (arith, past, at)) ];
          no_batch = λ c there. elim (no_batch_behind sum size log big (logged H) (stable_below reach H.batches) fits.holds.begun.first reach full_now.stands ascends r.scan r.there scan_goes c there) [ inl low ↦ inl (omega (arith, low, at, ended)) | inr past ↦ inr (omega (arith, past, at)) ];
          no_end = λ c there. elim (no_end_behind sum size log big (logged H) (stable_below reach H.batches) fits.holds.begun.first reach full_now.stands ascends r.scan r.there scan_goes c there) [ inl low ↦ inl (omega (arith, low, at, ended)) | inr past ↦ inr (omega (arith, past, at)) ];
        }

    stands_further : StandsFull sum (held_since size marks fits.holds.begun.first) size log (s.site.place + size) (map begun_segment ss) (s.site.place + stop) (logged H) fits.holds.begun.first
    stands_further = next_full sum size big log (begun_segment s) (map begun_segment ss) reach (logged H) fits.holds.begun.first full_now (follow sum size device fault place s ss fits big whole) ascends some_written
        goes (let header = behind_header in omega (arith, header)) begins_next

  -- With any number of zeros behind its end the file is read to the same place.
  same_end : (zeros : NoHeaderOfZeros sum) (to : ℕ) → stop (padded to device.log.bytes) (fits.beyond to whole zeros) ≡ stop device.log.bytes (full_file sum size device fault place s ss fits big whole zeros)
  same_end zeros to =
      let here_file = full_file sum size device fault place s ss fits big whole zeros in
      let a = its_scan device.log.bytes here_file in
      let b = its_scan (padded to device.log.bytes) (fits.beyond to whole zeros) in
      same_stop sum size device.log.bytes (replicate (to - length device.log.bytes) 0) s.site.slot s.site.place holds_full.own.records.slot_begins a.0 (its_read device.log.bytes here_file).0 (its_read device.log.bytes here_file).1 (goes device.log.bytes here_file) a.1
      b.0 (its_read (padded to device.log.bytes) (fits.beyond to whole zeros)).0 (its_read (padded to device.log.bytes) (fits.beyond to whole zeros)).1 b.1

  -- all messages of the segments so far end below the next place
  ends_all : (m : Message) → Contains (logged H).messages m → m.place < s.site.place + size → (m.place < s.site.place + size) × (m.place + m.size ≤ s.site.place + size)
  ends_all m there under = elim (which_part sum size s.site device fault s.bytes size [] [] (logged H) holds_full m there) [
    | inl mine ↦ (
        let low = All-contains (λ (x : Message). (x.place < s.site.place + length s.bytes) × (x.place + x.size ≤ s.site.place + length s.bytes)) holds_full.head m
        (all_below sum size s.site device fault s.bytes size [] [] (of_first sum size s.site device fault s.bytes size [] [] (logged H) holds_full) holds_full.own) mine in
        let end = low_end in
        (under, omega (arith, low.1, end, full)))
    | inr later ↦ absurd (let far = All-contains (λ (x : Message). s.site.place + size ≤ x.place) holds_full.later m (later_above sum size s.site device fault s.bytes size [] [] (logged H) holds_full) later in omega (arith, far, under))
  ]

  -- So all before the next place is on the device.
  pub full_further : (now : ℕ) × FitsFull sum marks size device fault (place + size) ss now pins H A f U
  full_further = subst (λ n. (now : ℕ) × FitsFull sum marks size device fault (n + size) ss now pins H A f U) begins (elim (zeros_or_not sum) [
    | inl zeros ↦ (
        let here_file = full_file sum size device fault place s ss fits big whole zeros in
        let near = fits.reached.near in
        let at = begins in
        let short = within device.log.bytes here_file in (
          s.site.place + stop device.log.bytes here_file,
          fits_further (s.site.place + stop device.log.bytes here_file) (omega (arith, near, at)) (omega (arith, short)) (ends_here device.log.bytes here_file)
              (begins_next device.log.bytes here_file).no_batch (begins_next device.log.bytes here_file).no_end
              (λ to none. subst (λ n. StandsFull sum (held_since size marks fits.holds.begun.first) size (padded to device.log.bytes) (s.site.place + size) (map begun_segment ss) (s.site.place + n) (logged H) fits.holds.begun.first) (same_end zeros to)
              (stands_further (padded to device.log.bytes) (fits.beyond to whole zeros))),
        ))
    | inr never ↦ (let near = fits.reached.near in let at = begins in (
      s.site.place + size,
      fits_further (s.site.place + size) (omega (arith, near, at)) (omega arith) ends_all
          (λ b there. cases_lt b.low (s.site.place + size)) (λ b there. cases_lt b.peg (s.site.place + size)) (λ to none. absurd (never none)),
    ))
  ])
