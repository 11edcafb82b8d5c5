-- The first buffer behind what was written of a segment is written: behind it come those that were written before. A reader meets their records, which are of the history, and ends behind the last one, for want of a record or of room, or at what fills the segment.
use Rattle.sled_core.proofs.Reserve.Batches.{batches_between}
use Rattle.std.proofs.Common.{◌≡◌, ◌≢◌, ◌≤◌, ◌<◌, ◌+◌, ◌-◌, ◌/◌, ◌%◌, ◌^◌, ◌∙◌, ℕ, max, Bool, true, false, nat_lt, if◌then◌else◌, List, [], ◌∷◌, ◌++◌, length, take, drop, get_or, sym, ap, refl, subst, arith, inl, inr}
use Rattle.std.specs.List.{All, Contains}
use Rattle.std.proofs.Math.Nat.{div-le_self}
use Rattle.std.proofs.lemmas.List.{take-take}
use Rattle.std.proofs.lemmas.List.Elements.{All-contains, All-drop, All-take}
use Rattle.sled_codec.specs.History.{Message, Batch, History}
use Rattle.sled_codec.specs.Places.{part}
use Rattle.sled_store.specs.Device.{overwritten}
use Rattle.sled_core.specs.declared.iobuf.Reserved.{Reserved}
use Rattle.sled_core.specs.declared.iobuf.Sealed.{Sealed}
use Rattle.sled_core.specs.declared.iobuf.SegmentPosition.{SegmentPosition}
use Rattle.sled_core.specs.declared.iterator.scan.ScannedRecord.{ScannedRecord}
use Rattle.sled_core.specs.declared.iterator.scan.ScanEnd.{ScanEnd}
use Rattle.sled_core.specs.declared.iterator.scan.ScanEnd.TheVariants.{Full, Capped, Broken}
use Rattle.sled_core.specs.inside.Buffers.{IsChain, batches_in, completed_in, records_end, records_of, NoPadding, Stands}
use Rattle.sled_core.specs.Buffers.{message_in, none_open}
use Rattle.sled_core.specs.inside.Caps.{rest_why}
use Rattle.sled_core.specs.invariants.Caps.{segment_rest}
use Rattle.sled_core.specs.inside.Fits.{HasMark}
use Rattle.sled_core.specs.inside.Recoverable.{NoBatchEnds, NothingBehind, NoBatchBegins, NoMessageBegins, IsOfHistory}
use Rattle.sled_core.specs.Scan.{IsPath, IsEnd}
use Rattle.sled_core.specs.inside.SealedBuffers.{Agrees, AreSealed, LaidOne, Laid, now_written, run_end, run_count, behind_run}
use Rattle.sled_core.specs.SealedBuffers.{AreZeros, sealed_end, bytes_between}
use Rattle.sled_core.proofs.Reached.BufferPath.{HasOnly, ending_at, never_capped, path_to, truth_to}
use Rattle.sled_core.proofs.Reached.BufferStands.{met_as, met_in, same_part}
use Rattle.sled_core.proofs.Reached.CapStands.{rest_ends}
use Rattle.sled_core.proofs.Reserve.Entries.{IsLong, all_long, some_long}
use Rattle.sled_core.proofs.Reserve.Ranges.{chain_grows, completed_between}
use Rattle.sled_core.proofs.Sealed.BehindUnwritten.{head_headed}
use Rattle.sled_core.proofs.Sealed.Clear.{clear_behind, clear_on, run_ends}
use Rattle.sled_core.proofs.Sealed.LaidLemmas.{EndsRise, ends_below}
use Rattle.sled_core.proofs.Sealed.OneWritten.{laid_new, long, sealed_written}
use Rattle.sled_core.proofs.Sealed.RecordsEnd.{AreRecords, IsFilled, records_in, records_on, records_why}
use Rattle.sled_core.proofs.Sealed.Runs.{IsRun, run_laid, run_of, run_stops, run_there, take_more, written_ended}
use Rattle.sled_core.proofs.Torn.WrittenRecords.{AreClear, all_clear}

-- what is met of two parts
met_on : (site : SegmentPosition) (bytes : List ℕ) (xs ys : List Reserved) → met_in site bytes (xs ++ ys) ≡ met_in site bytes xs ++ met_in site bytes ys
met_on site bytes [] ys = refl
met_on site bytes (x ∷ xs) ys = ap (λ (ms : List ScannedRecord). met_as x.state x.kind (message_in site bytes x) ∷ ms) (met_on site bytes xs ys)

-- those at the front end below where all do
pub run_below : (at : ℕ) (cs : List Sealed) (to : ℕ) → EndsRise at cs to → run_end at cs ≤ to
run_below at [] to up = up
run_below at (c ∷ cs) to up = by_test (run_below c.end cs to up.1) (ends_below c.end cs to up.1) c.is_written where
  by_test : run_end c.end cs ≤ to → (c.end ≤ sealed_end c.end cs) × (sealed_end c.end cs ≤ to) → (o : Bool) → (if o then run_end c.end cs else at) ≤ to
  by_test on below true = on
  by_test on below false = let here = up.0 in omega (arith, here, below.0, below.1)

-- a file that has the bytes up to an offset has them up to a lower one
less_agrees : (log : List ℕ) (slot : ℕ) (bytes : List ℕ) (from to less : ℕ) → less ≤ to → Agrees log slot bytes from to → Agrees log slot bytes from less
less_agrees log slot bytes from to less low agrees =
    let in_file = agrees.in_file in
    let in_bytes = agrees.in_bytes in
    record { same = λ i above below. agrees.same i above (omega (arith, below, low)); in_file = omega (arith, in_file, low); in_bytes = omega (arith, in_bytes, low) }

-- the reading of a segment that was filled ends not for want of a record
pub never_broken : (size stop : ℕ) → rest_why size stop ≢ Broken
never_broken size stop = by_test (nat_lt size (stop + 32)) where
  by_test : (o : Bool) → (if o then Full else Capped) ≢ Broken
  by_test false is = cc
  by_test true is = cc

-- the bytes of a segment up to an offset behind its header begin with that
abbrev pub front_mark : (sum : List ℕ → ℕ) (site : SegmentPosition) (bytes : List ℕ) (H : History) (from until : ℕ) → from ≡ 0 → 20 ≤ until → HasMark sum site bytes H → HasMark sum site (bytes_between bytes from until) H
front_mark sum site bytes H from until none begun m = record { mark = m.mark; is = ap (λ n. take 20 (drop n (take until bytes))) none ∙ take-take 20 until bytes begun ∙ m.is; of_history = m.of_history }

-- A buffer that begins at an offset of a segment, where the file has zeros up to its end, is written, and these entries stand there then, up to a second end: what a reader meets of them, and what that says of a history that has no other messages there.
pub record MeetsRun (sum : List ℕ → ℕ) (size : ℕ) (file new : List ℕ) (site : SegmentPosition) (bytes : List ℕ) (from until : ℕ) (done : List Reserved) (stop : ℕ) : Type 0 where
  pub covers : from + length (bytes_between bytes from until) ≤ until
  pub reaches : until ≤ size
  pub headed : from ≡ 0 → 20 ≤ until
  pub clean : AreZeros file (site.slot + from) (site.slot + until)
  pub far : until ≤ stop
  pub low : stop ≤ size
  -- the records among them, and where these end
  pub records : AreRecords sum size (site.place / size) bytes (max 20 from) done stop (records_of done) (records_end done stop) (records_why size done stop)
  pub clear : AreClear size until (max 20 from) (met_in site bytes (records_of done))
  pub path : IsPath sum size new site.slot site.place (max 20 from) (met_in site bytes (records_of done)) (records_end done stop)
  pub ends : IsEnd sum size new site.slot site.place (records_end done stop) (records_why size done stop)
  pub truth : (H : History) → HasOnly H (completed_in site bytes done) (batches_in site bytes done) (site.place + max 20 from) (site.place + stop) → (x : ScannedRecord) → Contains (met_in site bytes (records_of done)) x → IsOfHistory sum size new H x
  -- in what fills the segment nothing of the history begins
  pub none_filled : (H : History) → HasOnly H (completed_in site bytes done) (batches_in site bytes done) (site.place + max 20 from) (site.place + stop) → IsFilled sum size (site.place / size) bytes done stop (records_end done stop) (records_why size done stop)
      → NoMessageBegins H (site.place + records_end done stop) (site.place + size) × NoBatchBegins H (site.place + records_end done stop) (site.place + size)
  pub caps : (H : History) → HasOnly H (completed_in site bytes done) (batches_in site bytes done) (site.place + max 20 from) (site.place + stop)
      → (records_why size done stop ≢ Broken → NoBatchEnds H (site.place + records_end done stop) (site.place + size)) → NothingBehind size H site.place (records_end done stop) (records_why size done stop)

module _ (sum : List ℕ → ℕ) (size : ℕ) (file : List ℕ) (site : SegmentPosition)
    (place_begins : site.place % size ≡ 0) (slot_begins : site.slot % size ≡ 0) (place_small : site.place + size < 2 ^ 63) (slot_small : site.slot + size < 2 ^ 63)
    (bytes : List ℕ) (from : ℕ) (rs : List Reserved) (b : Sealed) (rest : List Sealed)
    (fresh : b.is_written ≡ false) (closed : b.open_count ≡ 0) (are : AreSealed from rs (b ∷ rest)) (rise : EndsRise from (b ∷ rest) size) (inside : b.end ≤ length bytes)
    (stand : All (Stands sum size (site.place / size) bytes) rs) (laid : Laid file site.slot bytes from (b ∷ rest) size) where
  abbrev asked : List ℕ
  asked = bytes_between bytes from b.end

  abbrev new : List ℕ
  new = overwritten file (site.slot + from) asked

  abbrev bs : List Sealed
  bs = now_written b ∷ rest

  -- where those end that are written now
  abbrev stop : ℕ
  stop = run_end b.end rest

  -- and their entries
  abbrev done : List Reserved
  done = take (b.count + run_count rest) rs

  -- where the records of these end
  abbrev last : ℕ
  last = records_end done stop

  abbrev records : List Reserved
  records = records_of done

  abbrev why : ScanEnd
  why = records_why size done stop

  are_new : AreSealed from rs bs
  are_new = sealed_written from rs [] b rest closed are

  laid_now : Laid new site.slot bytes from bs size
  laid_now = laid_new file site.slot bytes from [] b rest size rise inside laid

  run : IsRun from rs bs
  run = run_of from rs bs are_new

  rest_run : IsRun b.end (drop b.count rs) rest
  rest_run = run_of b.end (drop b.count rs) rest are.1

  begun : 20 ≤ b.end
  begun = let grows = chain_grows (max 20 from) b.end (take b.count rs) are.0.chain in omega (arith, grows)

  far : b.end ≤ stop
  far = rest_run.rises

  low : stop ≤ size
  low = run_below b.end rest size rise.1

  up : from < b.end
  up = rise.0

  agrees : Agrees new site.slot bytes from stop
  agrees = run_there new site.slot bytes from rs bs size are_new laid_now (omega (arith, up, far))

  stand_own : All (Stands sum size (site.place / size) bytes) (take b.count rs)
  stand_own = All-take (Stands sum size (site.place / size) bytes) b.count rs stand

  stand_done : All (Stands sum size (site.place / size) bytes) done
  stand_done = All-take (Stands sum size (site.place / size) bytes) (b.count + run_count rest) rs stand

  chain_done : IsChain (max 20 from) done stop
  chain_done = let same : max 20 stop ≡ stop = omega (arith, begun, far) in subst (λ n. IsChain (max 20 from) done n) same run.chain

  its : AreRecords sum size (site.place / size) bytes (max 20 from) done stop records last why
  its = records_in sum size (site.place / size) bytes (max 20 from) done stop chain_done low stand_done

  behind_from : max 20 from ≤ last
  behind_from = chain_grows (max 20 from) last records its.chain

  last_low : last ≤ stop
  last_low = its.low

  agrees_last : Agrees new site.slot bytes from last
  agrees_last = less_agrees new site.slot bytes from stop last last_low agrees

  path : IsPath sum size new site.slot site.place (max 20 from) (met_in site bytes records) last
  path = path_to sum size site new bytes from last agrees_last (omega (arith, last_low, low)) place_begins slot_begins place_small slot_small records its.chain its.stand its.plain (its.closed run.ended)

  -- Behind the last record a zero is in place of the next kind,
  ends_behind : IsEnd sum size new site.slot site.place stop (ending_at size stop)
  ends_behind = run_ends sum new site bytes size stop (drop (b.count + run_count rest) rs) (behind_run rest) (omega (arith, begun, far)) (All-drop (IsLong size) (b.count + run_count rest) rs (all_long sum size (site.place / size) bytes rs stand))
      (run_stops rest) run.rest (run_laid new site.slot bytes from bs size laid_now)

  -- or there stands what fills the segment.
  ends_filled : IsFilled sum size (site.place / size) bytes done stop last why → IsEnd sum size new site.slot site.place last (rest_why size last)
  ends_filled f =
      let p : Reserved = f.padding in
      let full = f.full in
      let at = f.begins in
      let to_end = f.fills.to_end in
      let in_file = agrees.in_file in
      let count : p.len ≡ size - last = omega (arith, at, to_end) in
      let text : part bytes last (size - last) ≡ segment_rest sum size (site.place / size) last =
      sym (λ i. part bytes (at i) (count i)) ∙ f.fills.is ∙ ap (λ n. segment_rest sum size (site.place / size) n) at in
      rest_ends sum size new site.slot site.place last slot_begins (omega (arith, last_low, low)) (omega (arith, in_file, full)) slot_small (omega (arith, div-le_self site.place size, place_small))
      (same_part new site.slot bytes from stop agrees last (size - last) (omega (arith, behind_from)) (omega (arith, last_low, full)) ∙ text)

  ends : IsEnd sum size new site.slot site.place last why
  ends = elim its.last [
    | inl l ↦ subst (λ (w : ScanEnd). IsEnd sum size new site.slot site.place last w) (sym l.2) (subst (λ n. IsEnd sum size new site.slot site.place n (ending_at size stop)) (sym l.1) ends_behind)
    | inr f ↦ subst (λ (w : ScanEnd). IsEnd sum size new site.slot site.place last w) (sym f.reason) (ends_filled f)
  ]

  own_closed : none_open (take b.count rs) ≡ true
  own_closed = written_ended from (take b.count rs) (now_written b) are_new.0 refl

  -- A record begins up to the end of the buffer, or behind it.
  clear_plain : All NoPadding (take b.count rs) → AreClear size b.end (max 20 from) (met_in site bytes records)
  clear_plain plain =
      let own : List Reserved = take b.count rs in
      let more : List Reserved = take (run_count rest) (drop b.count rs) in
      let two : done ≡ own ++ more = take_more b.count (run_count rest) rs in
      let on = records_on own more stop plain in
      let same : max 20 b.end ≡ b.end = omega (arith, begun) in
      let also : max 20 stop ≡ stop = omega (arith, begun, far) in
      let in_file = agrees.in_file in
      let in_bytes = agrees.in_bytes in
      let all : records ≡ own ++ records_of more = ap records_of two ∙ on.0 in
      let stand_more : All (Stands sum size (site.place / size) bytes) more =
      All-take (Stands sum size (site.place / size) bytes) (run_count rest) (drop b.count rs) (All-drop (Stands sum size (site.place / size) bytes) b.count rs stand) in
      let theirs : AreRecords sum size (site.place / size) bytes (max 20 b.end) more stop (records_of more) (records_end more stop) (records_why size more stop) =
      records_in sum size (site.place / size) bytes (max 20 b.end) more stop (subst (λ n. IsChain (max 20 b.end) more n) also rest_run.chain) low stand_more in
      let under = theirs.low in
      let here : Agrees new site.slot bytes from b.end = less_agrees new site.slot bytes from stop b.end far agrees in
      let behind : Agrees new site.slot bytes b.end (records_end more stop) =
      record { same = λ i above below. agrees.same i (omega (arith, above, up)) (omega (arith, below, under)); in_file = omega (arith, in_file, under); in_bytes = omega (arith, in_bytes, under) } in
      let path_own = path_to sum size site new bytes from b.end here (omega (arith, far, low)) place_begins slot_begins place_small slot_small own are.0.chain stand_own plain own_closed in
      let path_more = path_to sum size site new bytes b.end (records_end more stop) behind (omega (arith, under, low)) place_begins slot_begins place_small slot_small (records_of more) theirs.chain theirs.stand theirs.plain (theirs.closed rest_run.ended) in
      let path_on = subst (λ n. IsPath sum size new site.slot site.place n (met_in site bytes (records_of more)) (records_end more stop)) same path_more in
      subst (λ (ms : List ScannedRecord). AreClear size b.end (max 20 from) ms) (sym (ap (met_in site bytes) all ∙ met_on site bytes own (records_of more)))
      (clear_on sum size new site.slot site.place b.end (max 20 from) (met_in site bytes own) (met_in site bytes (records_of more)) path_own
      (clear_behind sum size new site.slot site.place b.end b.end (met_in site bytes (records_of more)) (records_end more stop) (omega arith) path_on))

  clear : AreClear size b.end (max 20 from) (met_in site bytes records)
  clear = elim (records_in sum size (site.place / size) bytes (max 20 from) (take b.count rs) b.end are.0.chain (omega (arith, far, low)) stand_own).last [
    | inl l ↦ clear_plain (subst (All NoPadding) l.0 (records_in sum size (site.place / size) bytes (max 20 from) (take b.count rs) b.end are.0.chain (omega (arith, far, low)) stand_own).plain)
    | inr f ↦ subst (λ n. AreClear size n (max 20 from) (met_in site bytes records)) (sym f.full) (all_clear size (max 20 from) (met_in site bytes records))
  ]

  clean : (i : ℕ) → site.slot + from ≤ i → i < site.slot + b.end → get_or file i 0 ≡ 0
  clean = let zeros : LaidOne file site.slot bytes from false b.end = subst (λ (o : Bool). LaidOne file site.slot bytes from o b.end) fresh laid.0 in zeros

  covers : from + length asked ≤ b.end
  covers = let l = long file site.slot bytes from [] b rest size rise inside in omega (arith, l)

  module _ (H : History) (has : HasOnly H (completed_in site bytes done) (batches_in site bytes done) (site.place + max 20 from) (site.place + stop)) where
    same_messages : completed_in site bytes records ≡ completed_in site bytes done
    same_messages = its.messages site

    same_batches : batches_in site bytes records ≡ batches_in site bytes done
    same_batches = its.batches site

    has_records : HasOnly H (completed_in site bytes records) (batches_in site bytes records) (site.place + max 20 from) (site.place + last)
    has_records = record {
      there = λ m among. has.there m (subst (λ (ms : List Message). Contains ms m) same_messages among);
      only = λ m there. elim (has.only m there) [
        | inl among ↦ inl (subst (λ (ms : List Message). Contains ms m) (sym same_messages) among)
        | inr (inl before) ↦ inr (inl before)
        | inr (inr after) ↦ inr (inr (omega (arith, after, last_low)))
      ];
      noted = λ c among. has.noted c (subst (λ (cs : List Batch). Contains cs c) same_batches among);
      begun = λ c there. elim (has.begun c there) [
        | inl among ↦ inl (subst (λ (cs : List Batch). Contains cs c) (sym same_batches) among)
        | inr (inl before) ↦ inr (inl before)
        | inr (inr after) ↦ inr (inr (omega (arith, after, last_low)))
      ];
    }

    truth : (x : ScannedRecord) → Contains (met_in site bytes records) x → IsOfHistory sum size new H x
    truth = truth_to sum size site new bytes from last agrees_last (omega (arith, last_low, low)) place_begins slot_begins place_small slot_small H records its.chain its.stand its.plain (its.closed run.ended) has_records

    -- In what fills the segment nothing of the history begins.
    none_filled : IsFilled sum size (site.place / size) bytes done stop last why → NoMessageBegins H (site.place + last) (site.place + size) × NoBatchBegins H (site.place + last) (site.place + size)
    none_filled f =
        let full = f.full in
        let Between : Message → Type 0 = λ m. (site.place + max 20 from ≤ m.place) × (m.place < site.place + last) × (m.place + m.size ≤ site.place + last) in
        let all : All Between (completed_in site bytes records) = completed_between site bytes (max 20 from) last records its.chain (some_long sum size (site.place / size) bytes records its.stand) in (
          (λ m there. elim (has.only m there) [
            | inl among ↦ (let lies = All-contains Between (completed_in site bytes records) m all (subst (λ (ms : List Message). Contains ms m) (sym same_messages) among) in inl lies.1)
            | inr (inl before) ↦ inl (omega (arith, before, behind_from))
            | inr (inr after) ↦ inr (omega (arith, after, full))
          ]),
          (λ c there. elim (has.begun c there) [
            | inl among ↦ (let lies = batches_between site bytes (max 20 from) last records its.chain (some_long sum size (site.place / size) bytes records its.stand) c (subst (λ (cs : List Batch). Contains cs c) (sym same_batches) among) in inl lies.1)
            | inr (inl before) ↦ inl (omega (arith, before, behind_from))
            | inr (inr after) ↦ inr (omega (arith, after, full))
          ]),
        )

    caps : (why ≢ Broken → NoBatchEnds H (site.place + last) (site.place + size)) → NothingBehind size H site.place last why
    caps no_end = ((λ capped. elim its.last [ inl l ↦ absurd (never_capped size stop (sym l.2 ∙ capped)) | inr f ↦ none_filled f ]), no_end)

  pub meets_run : MeetsRun sum size file new site bytes from b.end done stop
  meets_run = record {
    covers = covers;
    reaches = omega (arith, far, low);
    headed = head_headed from rs b rest are;
    clean = clean;
    far = far;
    low = low;
    records = its;
    clear = clear;
    path = path;
    ends = ends;
    truth = truth;
    none_filled = none_filled;
    caps = caps;
  }
