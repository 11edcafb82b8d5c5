-- The reading of a segment of a log file that doesn't end for want of a record: it ends there too with more behind the end of the file, the messages of the history that begin in it end there, and none begins behind it.
use Rattle.std.proofs.Common.{◌⊎◌, ◌≡◌, ◌≢◌, ◌≤◌, ◌<◌, ◌+◌, ◌/◌, ◌%◌, ℕ, pos, length-append, List, [], ◌∷◌, ◌++◌, refl, ap, subst, arith, inl, inr}
use Rattle.std.specs.List.{Contains}
use Rattle.std.proofs.lemmas.Bool.{cases_lt}
use Rattle.sled_codec.specs.History.{History, Message}
use Rattle.sled_codec.specs.Snapshots.{SnapshotModel}
use Rattle.sled_store.proofs.Histories.Ascending.{Ascends}
use Rattle.sled_store.proofs.Segments.Elements.{in_cases, in_nothing}
use Rattle.sled_core.specs.declared.iterator.Segment.{Segment}
use Rattle.sled_core.specs.declared.iterator.scan.ScannedRecord.{ScannedRecord}
use Rattle.sled_core.specs.declared.iterator.scan.ScanEnd.{ScanEnd}
use Rattle.sled_core.specs.declared.iterator.scan.ScanEnd.TheVariants.{Full, Capped, Broken}
use Rattle.sled_core.specs.inside.Recoverable.{BeginsInSegment, NoBatchBegins, NoBatchEnds, NoMessageBegins}
use Rattle.sled_core.specs.Scan.{EndsThere, IsEnd, IsPath, IsScan}
use Rattle.sled_core.specs.Tail.{IsScanned, Scanned, least_place}
use Rattle.sled_core.proofs.Tail.LogFileLemmas.{record_moved}
use Rattle.sled_core.proofs.Reached.KeptStands.{path_kept}
use Rattle.sled_core.proofs.Reached.StandsTo.{StandsTo}
use Rattle.sled_core.proofs.Reserve.Ranges.{part-append}
use Rattle.sled_core.proofs.Tail.Multiples.{one_multiple, put_down}
use Rattle.sled_core.proofs.Tail.OfHistory.{message_of}
use Rattle.sled_core.proofs.Tail.OneReading.{one_scan}
use Rattle.sled_core.proofs.Tail.OneTail.{segment_there}
use Rattle.sled_core.proofs.Tail.Rows.{path_covers, stop_inside}
use Rattle.sled_core.proofs.Tail.Tails.{whole}
use Rattle.sled_core.proofs.Torn.WrittenParts.{path_rises}

-- A record of a path ends below where that ends.
path_within : (sum : List ℕ → ℕ) (size : ℕ) (log : List ℕ) (slot place at : ℕ) (ms : List ScannedRecord) (next : ℕ) → IsPath sum size log slot place at ms next → (x : ScannedRecord) → Contains ms x → x.place + x.len ≤ place + next
path_within sum size log slot place at [] next path x there = absurd (in_nothing x there)
path_within sum size log slot place at (m ∷ ms) next path x there = elim (in_cases m x ms there) [
  | inl same ↦ (
      let up = path_rises sum size log slot place (at + m.len) ms next path.3 in
      let its_place = ap (λ (y : ScannedRecord). y.place) same in
      let its_len = ap (λ (y : ScannedRecord). y.len) same in
      omega (arith, path.1, up, its_place, its_len))
  | inr later ↦ path_within sum size log slot place (at + m.len) ms next path.3 x later
]

-- What fills a segment, or where no header has room, ends the reading with more behind the end of the file too.
end_longer : (sum : List ℕ → ℕ) (size : ℕ) (log more : List ℕ) (slot place at : ℕ) (why : ScanEnd) → why ≢ Broken → IsEnd sum size log slot place at why → IsEnd sum size (log ++ more) slot place at why
unfolding EndsThere
end_longer sum size log more slot place at Full goes end = end
end_longer sum size log more slot place at Capped goes (room, (h, body, len, stands, is_cap)) =
    let there = stands.in_file in
    (room, (h, body, len, record_moved sum size log (log ++ more) (slot + at) (place / size) h body len (part-append log more (slot + at) len there) (let longer = length-append log more in omega (arith, there, longer)) stands, is_cap))
end_longer sum size log more slot place at Broken goes end = absurd (goes refl)

-- So the segment is read to the same place there.
pub same_stop : (sum : List ℕ → ℕ) (size : ℕ) (log more : List ℕ) (slot place : ℕ) → slot % size ≡ 0 → (ms : List ScannedRecord) (stop : ℕ) (why : ScanEnd) → why ≢ Broken → IsScan sum size log slot place ms stop why
    → (ns : List ScannedRecord) (stop' : ℕ) (other : ScanEnd) → IsScan sum size (log ++ more) slot place ns stop' other → stop' ≡ stop
unfolding IsScan
same_stop sum size log more slot place aligned ms stop why goes scan ns stop' other also =
    let segment : Segment = record { place = place; slot = slot; mark = pos 0 } in
    let a : Scanned = record { segment = segment; met = ms; stop = stop; why = why } in
    let b : Scanned = record { segment = segment; met = ns; stop = stop'; why = other } in
    let there : IsScan sum size (log ++ more) slot place ms stop why =
    (path_kept sum size log (log ++ more) slot aligned (λ lid len low high inside. part-append log more lid len inside) place 20 ms stop scan.0, end_longer sum size log more slot place stop why goes scan.1) in
    ap (λ (t : Scanned). t.stop) (one_scan sum size (log ++ more) b a refl also there)

module _ (sum : List ℕ → ℕ) (size : ℕ) (log : List ℕ) (some : 256 ≤ size) (H : History) (A : ℕ) (first : SnapshotModel) (reach : ℕ) (is : StandsTo sum size log H A first reach) (ordered : Ascends H.messages)
    (y : Scanned) (there : Contains is.scanned y) (goes : y.why ≢ Broken) where
  known : IsScanned sum size log y
  known = (segment_there sum size log is.ordering is.scanned is.reads y there).1

  aligned : y.segment.place % size ≡ 0
  aligned = (whole sum size log some (least_place size first) is.ordering is.numbers is.scanned is.reads y there).1

  pub inside : y.stop ≤ size
  inside = stop_inside sum size log some y (whole sum size log some (least_place size first) is.ordering is.numbers is.scanned is.reads y there)

  -- Nothing begins behind the end of the reading: no message,
  none_short : y.why ≡ Full → (n : ℕ) → BeginsInSegment size n → (n < y.segment.place + y.stop) ⊎ (y.segment.place + size ≤ n)
  unfolding IsScan
  none_short at n begins = elim (cases_lt n (y.segment.place + y.stop)) [
    | inl under ↦ inl under
    | inr above ↦ elim (cases_lt n (y.segment.place + size)) [
      | inr past ↦ inr past
      | inl under ↦ (
          let full : size < y.stop + 32 = subst (λ (w : ScanEnd). IsEnd sum size log y.segment.slot y.segment.place y.stop w) at known.1 in
          let room = begins.room in
          let multiple = one_multiple size some y.segment.place n aligned (omega (arith, above)) under in
          let parts = put_down size n in
          absurd (omega (arith, full, room, multiple, parts.0, above)))
    ]
  ]

  pub none_behind : NoMessageBegins H (y.segment.place + y.stop) (y.segment.place + size)
  none_behind = by y.why refl goes where
    by : (why : ScanEnd) → y.why ≡ why → why ≢ Broken → NoMessageBegins H (y.segment.place + y.stop) (y.segment.place + size)
    by Capped at on m known_m = ((is.caps y there).0 at).0 m known_m
    by Broken at on m known_m = absurd (on refl)
    by Full at on m known_m = none_short at m.place (is.placed m known_m).begins

  -- and no batch, and none ends there.
  pub no_batch_behind : NoBatchBegins H (y.segment.place + y.stop) (y.segment.place + size)
  no_batch_behind = by y.why refl goes where
    by : (why : ScanEnd) → y.why ≡ why → why ≢ Broken → NoBatchBegins H (y.segment.place + y.stop) (y.segment.place + size)
    by Capped at on b known_b = ((is.caps y there).0 at).1 b known_b
    by Broken at on b known_b = absurd (on refl)
    by Full at on b known_b = none_short at b.low (is.batched b known_b).begins

  pub no_end_behind : NoBatchEnds H (y.segment.place + y.stop) (y.segment.place + size)
  no_end_behind = (is.caps y there).1 goes

  -- One that begins in the segment ends before it.
  pub ends_read : (m : Message) → Contains H.messages m → y.segment.place ≤ m.place → m.place < y.segment.place + size → (m.place < y.segment.place + y.stop) × (m.place + m.size ≤ y.segment.place + y.stop)
  unfolding IsScan
  ends_read m known_m above under =
      let lower : m.place < y.segment.place + y.stop = elim (none_behind m known_m) [ inl below ↦ below | inr past ↦ absurd (omega (arith, past, under)) ] in
      let behind = (is.placed m known_m).begins.behind in
      let multiple = one_multiple size some y.segment.place m.place aligned above under in
      let parts = put_down size m.place in
      let x = path_covers sum size log y.segment.slot y.segment.place 20 y.met y.stop known.0 m.place (omega (arith, behind, multiple, parts.0)) lower in
      let its = message_of sum size log H ordered x.0 (is.truth y x.0 there x.1) m known_m x.2 x.3 in
      let within = path_within sum size log y.segment.slot y.segment.place 20 y.met y.stop known.0 x.0 x.1 in
      let place = its.0.place in
      let len = its.0.len in
      (lower, omega (arith, within, place, len))
