-- What is met in a slot of a log file hangs on the bytes of that slot alone.
use Rattle.std.proofs.Common.{◌≡◌, ◌∙◌, ◌+◌, ◌-◌, ◌/◌, ◌%◌, ◌<◌, ◌≤◌, ℕ, List, [], ◌∷◌, ◌++◌, length, take, drop, replicate, ◌^◌, Option, Some, None, IfNone, sym, ap, subst, arith, length-append, length-take, length-drop}
use Rattle.std.proofs.lemmas.List.{drop-drop, drop-take, take-take, drop-append-le, drop_all, length-replicate}
use Rattle.sled_codec.specs.declared.serialization.message.MessageHeader.{MessageHeader}
use Rattle.sled_codec.specs.Places.{part}
use Rattle.sled_core.specs.declared.iterator.scan.ScannedRecord.{ScannedRecord}
use Rattle.sled_core.specs.declared.iterator.scan.ScanEnd.{ScanEnd}
use Rattle.sled_core.specs.declared.iterator.scan.SegmentScan.{SegmentScan}
use Rattle.sled_core.specs.declared.iterator.scan.ScanEnd.TheVariants.{Full, Capped, Broken}
use Rattle.sled_core.specs.declared.logger.read_at.BasedBuf.{BasedBuf}
use Rattle.sled_core.specs.Reading.{IsMalformed, StandsAt, file_of}
use Rattle.sled_core.specs.Scan.{IsMet, EndsThere, IsPath, IsEnd, IsScan, IsDamagedIn}
use Rattle.sled_core.specs.declared.iterator.Segment.{Segment}
use Rattle.sled_core.proofs.Read.ScanLemmas.{aligned_offset}
use Rattle.sled_core.specs.inside.Ahead.{IsDamagedBehind}
use Rattle.sled_core.specs.Replayed.{CanBeRead, IsDamagedBefore}
use Rattle.sled_core.specs.Tail.{open_at}

-- The second file has all that the first one has in a slot.
pub record HasSlot (size slot : ℕ) (a b : List ℕ) : Type 0 where
  pub parts : (lid len : ℕ) → slot ≤ lid → lid + len ≤ slot + size → lid + len ≤ length a → part b lid len ≡ part a lid len
  pub ends : (end : ℕ) → slot ≤ end → end ≤ slot + size → end ≤ length a → end ≤ length b

module _ (sum : List ℕ → ℕ) (size slot : ℕ) (aligned : slot % size ≡ 0) where
  -- a record in the slot
  pub stands_in : (a b : List ℕ) → HasSlot size slot a b → (at number : ℕ) (h : MessageHeader) (body : List ℕ) (len : ℕ) → at < size → StandsAt sum size a (slot + at) number h body len → StandsAt sum size b (slot + at) number h body len
  stands_in a b has at number h body len below s =
      let offset = aligned_offset slot at size aligned below in
      let in_slot = s.in_slot in
      let within : slot + at + len ≤ slot + size = omega (arith, offset, in_slot) in
      record {
        header = s.header;
        spelled = s.spelled;
        is = has.parts (slot + at) len (omega arith) within s.in_file ∙ s.is;
        counted = s.counted;
        numbered = s.numbered;
        summed = s.summed;
        valid = s.valid;
        in_file = has.ends (slot + at + len) (omega arith) within s.in_file;
        in_slot = s.in_slot;
        small = s.small;
      }

  module _ (a b : List ℕ) (there : HasSlot size slot a b) (back : HasSlot size slot b a) where
    met_in : (at number : ℕ) (m : ScannedRecord) → at < size → IsMet sum size a (slot + at) number m → IsMet sum size b (slot + at) number m
    unfolding IsMet
    met_in at number m below met = (met.0, met.1, stands_in a b there at number met.0 met.1 m.len below met.2, met.3)

    damaged_at : (at number : ℕ) → at < size → IsMalformed sum size a (slot + at) number → IsMalformed sum size b (slot + at) number
    damaged_at at number below damaged = record {
      header = damaged.header;
      body = damaged.body;
      len = damaged.len;
      stands = stands_in a b there at number damaged.header damaged.body damaged.len below damaged.stands;
      kind = damaged.kind;
      not_eight = damaged.not_eight;
    }

    ends_there : (at number : ℕ) (why : ScanEnd) → at < size → EndsThere sum size a (slot + at) number why → EndsThere sum size b (slot + at) number why
    unfolding EndsThere
    ends_there at number Full below ends = ends
    ends_there at number Capped below ends = (ends.0, ends.1, ends.2, stands_in a b there at number ends.0 ends.1 ends.2 below ends.3, ends.4)
    ends_there at number Broken below ends = λ h body len stands. ends h body len (stands_in b a back at number h body len below stands)

    path_in : (place at : ℕ) (ms : List ScannedRecord) (next : ℕ) → IsPath sum size a slot place at ms next → IsPath sum size b slot place at ms next
    path_in place at [] next path = path
    path_in place at (m ∷ ms) next path = (path.0, path.1, met_in at (place / size) m (omega (arith, path.0)) path.2, path_in place (at + m.len) ms next path.3)

    end_in : (place stop : ℕ) (why : ScanEnd) → IsEnd sum size a slot place stop why → IsEnd sum size b slot place stop why
    end_in place stop Full end = end
    end_in place stop Capped end = (end.0, ends_there stop (place / size) Capped (omega (arith, end.0)) end.1)
    end_in place stop Broken end = (end.0, ends_there stop (place / size) Broken (omega (arith, end.0)) end.1)

    -- all that is met in it
    pub scan_in : (place : ℕ) (ms : List ScannedRecord) (stop : ℕ) (why : ScanEnd) → IsScan sum size a slot place ms stop why → IsScan sum size b slot place ms stop why
    unfolding IsScan
    scan_in place ms stop why scan = (path_in place 20 ms stop scan.0, end_in place stop why scan.1)

    -- a damaged record in it
    pub damaged_in_slot : (place : ℕ) → IsDamagedIn sum size a slot place → IsDamagedIn sum size b slot place
    unfolding IsDamagedIn
    damaged_in_slot place damaged =
        (damaged.0, damaged.1, path_in place 20 damaged.0 damaged.1 damaged.2, damaged.3, damaged_at damaged.1 (place / size) (omega (arith, damaged.3)) damaged.4)

-- The file of a buffer that has the bytes of a slot.
module _ (size slot : ℕ) (log : List ℕ) (inside : slot ≤ length log) where
  abbrev alone : List ℕ
  alone = replicate slot 0 ++ part log slot size

  own_slot : drop slot alone ≡ part log slot size
  own_slot =
      let zeros = length-replicate {A = ℕ} slot 0 in
      drop-append-le slot (replicate slot 0) (part log slot size) (omega (arith, zeros)) ∙ ap (λ (l : List ℕ). l ++ part log slot size) (drop_all slot (replicate slot 0) (omega (arith, zeros)))

  own_part : (k len : ℕ) → k + len ≤ size → part alone (slot + k) len ≡ part log (slot + k) len
  own_part k len within =
      ap (take len) (sym (drop-drop k slot alone) ∙ ap (drop k) own_slot)
      ∙ sym (drop-take k len (part log slot size))
      ∙ ap (drop k) (take-take (k + len) size (drop slot log) within)
      ∙ drop-take k len (drop slot log)
      ∙ ap (take len) (drop-drop k slot log)

  own_parts : (lid len : ℕ) → slot ≤ lid → lid + len ≤ slot + size → part alone lid len ≡ part log lid len
  own_parts lid len from to =
      let is : slot + (lid - slot) ≡ lid = omega (arith, from) in
      subst (λ k. part alone k len ≡ part log k len) is (own_part (lid - slot) len (omega (arith, from, to)))

  pub in_buffer : HasSlot size slot log alone
  in_buffer = record {
    parts = λ lid len from to there. own_parts lid len from to;
    ends = λ end from to there. omega (arith, from, to, there, length-append (replicate slot 0) (part log slot size), length-replicate {A = ℕ} slot 0, length-take size (drop slot log), length-drop slot log);
  }

  pub in_file : HasSlot size slot alone log
  in_file = record {
    parts = λ lid len from to there. sym (own_parts lid len from to);
    ends = λ end from to there. omega (arith, from, to, there, inside, length-append (replicate slot 0) (part log slot size), length-replicate {A = ℕ} slot 0, length-take size (drop slot log), length-drop slot log);
  }

-- that file is the one that a buffer stands for
pub file_alone : (b : BasedBuf) (size slot : ℕ) (log : List ℕ) → b.offset ≡ slot → b.buf.items ≡ part log slot size → file_of b ≡ replicate slot 0 ++ part log slot size
file_alone b size slot log offset is = ap (λ n. replicate n 0 ++ b.buf.items) offset ∙ ap (λ (l : List ℕ). replicate slot 0 ++ l) is

-- What was read from a buffer with the bytes of a slot is so of the whole file.
module _ (sum : List ℕ → ℕ) (size : ℕ) (slot : ℕ) (log : List ℕ) (b : BasedBuf) (own : ℕ) (same : own ≡ size) (offset : b.offset ≡ slot) (is : b.buf.items ≡ part log slot size) (aligned : slot % size ≡ 0) (inside : slot ≤ length log) where
  read_so : (P : ℕ → List ℕ → ℕ → Type 0) → P own (file_of b) b.offset → P size (replicate slot 0 ++ part log slot size) slot
  read_so P holds = subst (λ n. P n (replicate slot 0 ++ part log slot size) slot) same
      (subst (λ (l : List ℕ). P own l slot) (file_alone b size slot log offset is) (subst (λ n. P own (file_of b) n) offset holds))

  pub scan_whole : (place : ℕ) (ms : List ScannedRecord) (stop : ℕ) (why : ScanEnd) → IsScan sum own (file_of b) b.offset place ms stop why → IsScan sum size log slot place ms stop why
  scan_whole place ms stop why scan =
      scan_in sum size slot aligned (replicate slot 0 ++ part log slot size) log (in_file size slot log inside) (in_buffer size slot log inside) place ms stop why
      (read_so (λ n l at. IsScan sum n l at place ms stop why) scan)

  pub damaged_whole : (place : ℕ) → IsDamagedIn sum own (file_of b) b.offset place → IsDamagedIn sum size log slot place
  damaged_whole place damaged =
      damaged_in_slot sum size slot aligned (replicate slot 0 ++ part log slot size) log (in_file size slot log inside) (in_buffer size slot log inside) place
      (read_so (λ n l at. IsDamagedIn sum n l at place) damaged)

-- The same of a segment as the pass reads it, from a buffer with the bytes of its slot.
module _ (sum : List ℕ → ℕ) (size : ℕ) (s : Segment) (log : List ℕ) (b : BasedBuf) (own : ℕ) (same : own ≡ size) (offset : b.offset ≡ s.slot) (is : b.buf.items ≡ part log s.slot size) where
  alone_so : (P : ℕ → List ℕ → Type 0) → P own (file_of b) → P size (replicate s.slot 0 ++ part log s.slot size)
  alone_so P holds = subst (λ n. P n (replicate s.slot 0 ++ part log s.slot size)) same (subst (λ (l : List ℕ). P own l) (file_alone b size s.slot log offset is) holds)

  if_none : (o : Option ℕ) (A B : Type 0) → (A → B) → IfNone o A → IfNone o B
  if_none None A B then holds = then holds
  if_none (Some place) A B then holds = tt

  -- it can be read there
  pub ready_alone : CanBeRead size log s → CanBeRead own (file_of b) s
  ready_alone ready =
      let all : length (file_of b) ≡ length (replicate b.offset 0) + length b.buf.items = length-append (replicate b.offset 0) b.buf.items in
      let zeros : length (replicate b.offset 0) ≡ b.offset = length-replicate {A = ℕ} b.offset 0 in
      record {
        aligned = subst (λ n. s.slot % n ≡ 0) (sym same) ready.aligned;
        inside = omega (arith, all, zeros, offset);
        slot = subst (λ n. s.slot + n < 2 ^ 63) (sym same) ready.slot;
        place = subst (λ n. s.place + n < 2 ^ 63) (sym same) ready.place;
      }

  module _ (ready : CanBeRead size log s) where
    abbrev alone_file : List ℕ
    alone_file = replicate s.slot 0 ++ part log s.slot size

    pub replayed_whole : (end : ℕ) (ms : List ScannedRecord) (stop : ℕ) (why : ScanEnd) → IsPath sum own (file_of b) s.slot s.place 20 ms stop × IfNone (open_at end ms) (IsEnd sum own (file_of b) s.slot s.place stop why)
        → IsPath sum size log s.slot s.place 20 ms stop × IfNone (open_at end ms) (IsEnd sum size log s.slot s.place stop why)
    replayed_whole end ms stop why read =
        let there = in_file size s.slot log ready.inside in
        let back = in_buffer size s.slot log ready.inside in
        let path = alone_so (λ n l. IsPath sum n l s.slot s.place 20 ms stop) read.0 in
        let ends = alone_so (λ n l. IfNone (open_at end ms) (IsEnd sum n l s.slot s.place stop why)) read.1 in (
          path_in sum size s.slot ready.aligned alone_file log there back s.place 20 ms stop path,
          if_none (open_at end ms) (IsEnd sum size alone_file s.slot s.place stop why) (IsEnd sum size log s.slot s.place stop why) (end_in sum size s.slot ready.aligned alone_file log there back s.place stop why) ends,
        )

    pub damaged_before_whole : (end : ℕ) → IsDamagedBefore sum own (file_of b) end s → IsDamagedBefore sum size log end s
    damaged_before_whole end bad =
        let there = in_file size s.slot log ready.inside in
        let back = in_buffer size s.slot log ready.inside in
        let d = alone_so (λ n l. IsDamagedBefore sum n l end s) bad in
        let room = d.room in
        record {
          met = d.met;
          next = d.next;
          path = path_in sum size s.slot ready.aligned alone_file log there back s.place 20 d.met d.next d.path;
          not_open = d.not_open;
          room = d.room;
          damaged = damaged_at sum size s.slot ready.aligned alone_file log there back d.next (s.place / size) (omega (arith, room)) d.damaged;
        }

    pub damaged_behind_whole : (end : ℕ) (scan : SegmentScan) → IsDamagedBehind sum own (file_of b) end s scan → IsDamagedBehind sum size log end s scan
    damaged_behind_whole end scan bad =
        let there = in_file size s.slot log ready.inside in
        let back = in_buffer size s.slot log ready.inside in
        let d = alone_so (λ n l. IsDamagedBehind sum n l end s scan) bad in
        let room = d.0.room in (
          record {
            met = d.0.met;
            next = d.0.next;
            path = path_in sum size s.slot ready.aligned alone_file log there back s.place 20 d.0.met d.0.next d.0.path;
            not_open = d.0.not_open;
            room = d.0.room;
            damaged = damaged_at sum size s.slot ready.aligned alone_file log there back d.0.next (s.place / size) (omega (arith, room)) d.0.damaged;
          },
          d.1,
          d.2,
        )
