-- Where a segment in a slot is read in two files alike, what is own of it in one of them is own in the other one.
use Rattle.std.proofs.Common.{◌≡◌, ◌∙◌, ◌<◌, ◌+◌, ◌-◌, ◌*◌, ◌/◌, ◌%◌, ◌^◌, ◌≤◌, ℕ, ℤ, pos, List, [], ◌∷◌, length, take, drop, get_or, refl, sym, ap, subst, arith, inl, inr, length-take, length-drop}
use Rattle.std.proofs.Math.Nat.{mul-mod_left}
use Rattle.std.proofs.lemmas.Bool.{cases_lt}
use Rattle.std.proofs.lemmas.List.{get_or-drop, get_or-take}
use Rattle.sled_codec.specs.declared.serialization.message.MessageHeader.{MessageHeader}
use Rattle.sled_codec.specs.declared.serialization.message.MessageKind.TheVariants.{Cap}
use Rattle.sled_codec.specs.Places.{part}
use Rattle.sled_codec.specs.Record.{IsHeader, IsRecord}
use Rattle.sled_store.specs.Readers.{Reads, ReadsTo}
use Rattle.sled_store.proofs.LogFile.LogLemmas.{same_part}
use Rattle.sled_store.proofs.Own.ReaderLemmas.{SameFrom, no_lower, read_same, reads_apart, starts}
use Rattle.sled_core.specs.declared.iterator.scan.ScannedRecord.{ScannedRecord}
use Rattle.sled_core.specs.declared.iterator.scan.ScanEnd.{ScanEnd}
use Rattle.sled_core.specs.declared.iterator.scan.ScanEnd.TheVariants.{Full, Capped, Broken}
use Rattle.sled_core.specs.Reading.{StandsAt}
use Rattle.sled_core.specs.Scan.{EndsThere, IsEnd, IsMet, IsPath, IsScan}
use Rattle.sled_core.specs.inside.OwnLog.{ReadsOwn}
use Rattle.sled_core.specs.inside.Scan.{IsFoundSegment}
use Rattle.sled_core.specs.inside.Slots.{marked_at}
use Rattle.sled_core.proofs.Freed.ShownReads.{header_read, read_stands}
use Rattle.sled_core.proofs.OwnLog.Kept.{part_in}
use Rattle.sled_core.proofs.OwnLog.Paths.{path_reads}
use Rattle.sled_core.proofs.OwnLog.ScanEnds.{reads_inside}
use Rattle.sled_core.proofs.Read.GivesLemmas.{one_header}
use Rattle.sled_core.proofs.Tail.Moved.{one_in_slot}
use Rattle.sled_core.proofs.Torn.WrittenParts.{path_rises, twenty}
use Rattle.sled_core.proofs.Torn.WrittenRecords.{AlikeAlong}

-- the same bytes in a range make the same part of two files that have it
pub part_alike : (a b : List ℕ) (lid n : ℕ) → lid + n ≤ length a → lid + n ≤ length b → ((i : ℕ) → lid ≤ i → i < lid + n → get_or b i 0 ≡ get_or a i 0)
    → part b lid n ≡ part a lid n
part_alike a b lid n in_a in_b same =
    let count : lid + n - lid ≡ n = omega arith in
    ap (λ k. take k (drop lid b)) (sym count) ∙ same_part b a lid (lid + n) in_b in_a same ∙ ap (λ k. take k (drop lid a)) count

-- a byte of a part is one of the file
get_part : (log : List ℕ) (lid n k : ℕ) → k < n → get_or (part log lid n) k 0 ≡ get_or log (lid + k) 0
get_part log lid n k low = get_or-take n (drop lid log) k 0 low ∙ get_or-drop lid log k 0

module _ (sum : List ℕ → ℕ) (size : ℕ) where
  -- What is met in a file lies in it.
  pub path_inside : (log : List ℕ) (slot place from : ℕ) (ms : List ScannedRecord) (next : ℕ) → slot + from ≤ length log
      → IsPath sum size log slot place from ms next → slot + next ≤ length log
  unfolding IsMet
  path_inside log slot place from [] next low path = omega (arith, low, path)
  path_inside log slot place from (m ∷ ms) next low (room, at_place, (h, body, stands, says), path) =
      path_inside log slot place (from + m.len) ms next (let there = stands.in_file in omega (arith, there)) path

  module _ (a b : List ℕ) (slot place : ℕ) where
    -- Records with the same bytes in two files have each byte the same.
    pub alike_bytes : (from : ℕ) (ms : List ScannedRecord) (next : ℕ) → IsPath sum size a slot place from ms next → AlikeAlong a b slot from ms
        → (i : ℕ) → from ≤ i → i < next → get_or b (slot + i) 0 ≡ get_or a (slot + i) 0
    alike_bytes from [] next path alike i low high = absurd (omega (arith, path, low, high))
    alike_bytes from (m ∷ ms) next path alike i low high = elim (cases_lt i (from + m.len)) [
      | inl inside ↦ (
          let k : ℕ = i - from in
          let here : slot + from + k ≡ slot + i = omega (arith, low) in
          let short : k < m.len = omega (arith, inside, low) in
          ap (λ j. get_or b j 0) (sym here)
          ∙ sym (get_part b (slot + from) m.len k short)
          ∙ ap (λ (l : List ℕ). get_or l k 0) alike.0
          ∙ get_part a (slot + from) m.len k short
          ∙ ap (λ j. get_or a j 0) here)
      | inr later ↦ alike_bytes (from + m.len) ms next path.3 alike.2 i later high
    ]

    -- Where the bytes are the same up to the end of what is met, the records have them.
    pub alike_below : (top : ℕ) → slot + top ≤ length b → ((i : ℕ) → i < slot + top → get_or b i 0 ≡ get_or a i 0)
        → (from : ℕ) (ms : List ScannedRecord) (next : ℕ) → IsPath sum size a slot place from ms next → next ≤ top → AlikeAlong a b slot from ms
    unfolding IsMet
    alike_below top there same from [] next path high = tt
    alike_below top there same from (m ∷ ms) next (room, at_place, (h, body, stands, says), path) high =
        let up = path_rises sum size a slot place (from + m.len) ms next path in
        let lies = stands.in_file in (
          part_alike a b (slot + from) m.len lies (omega (arith, there, up, high)) (λ i low below. same i (omega (arith, below, up, high))),
          omega (arith, there, up, high),
          alike_below top there same (from + m.len) ms next path high,
        )

  -- A segment in a slot, with the same header in both files, that is read alike in them.
  module _ (some : 20 ≤ size) (a b : List ℕ) (slot place : ℕ) (reach : slot * size + size < 2 ^ 64) (mark : ℤ)
      (header : IsHeader sum (part a (slot * size) 20) (pos place) mark) (same_header : part b (slot * size) 20 ≡ part a (slot * size) 20)
      (met : List ScannedRecord) (stop : ℕ) (why : ScanEnd) (read : IsScan sum size a (slot * size) place met stop why)
      (read_too : IsScan sum size b (slot * size) place met stop why) (alike : AlikeAlong a b (slot * size) 20 met)
      (cap : why ≡ Capped → (h : MessageHeader) (body : List ℕ) (len : ℕ) → StandsAt sum size a (slot * size + stop) (place / size) h body len
      → (part b (slot * size + stop) len ≡ part a (slot * size + stop) len) × (slot * size + stop + len ≤ length b)) where
    abbrev at_slot : ℕ
    at_slot = slot * size

    abbrev number : ℕ
    number = place / size

    aligned : at_slot % size ≡ 0
    aligned = mul-mod_left slot size

    abbrev text_a : List ℕ
    text_a = part a at_slot size

    abbrev text_b : List ℕ
    text_b = part b at_slot size

    -- a header is all in its file
    long : (log : List ℕ) → length (part log at_slot 20) ≡ 20 → 20 ≤ length (part log at_slot size)
    long log whole = omega (arith, whole, some, length-take 20 (drop at_slot log), length-take size (drop at_slot log))

    whole_a : length (part a at_slot 20) ≡ 20
    whole_a = twenty sum size a at_slot (pos place) mark header

    comes_a : ReadsTo sum size number text_a 20 stop
    unfolding IsScan
    comes_a = path_reads sum size a at_slot place 20 met stop aligned read.0

    comes_b : ReadsTo sum size number text_b 20 stop
    unfolding IsScan
    comes_b = path_reads sum size b at_slot place 20 met stop aligned read_too.0

    stop_a : stop ≤ length text_a
    stop_a = reads_inside sum size number 20 stop text_a comes_a (long a whole_a)

    stop_b : stop ≤ length text_b
    stop_b = reads_inside sum size number 20 stop text_b comes_b (long b (ap length same_header ∙ whole_a))

    front_same : SameFrom sum size number text_a text_b 20 stop
    unfolding IsScan
    front_same i n low high =
        let fits : i + n ≤ size = omega (arith, high, stop_a, length-take size (drop at_slot a)) in
        part_in size b at_slot i n fits
        ∙ part_alike a b (at_slot + i) n
        (omega (arith, high, low, stop_a, length-take size (drop at_slot a), length-drop at_slot a))
        (omega (arith, high, low, stop_b, length-take size (drop at_slot b), length-drop at_slot b))
        (λ j above below.
        let k : ℕ = j - at_slot in
        let here : at_slot + k ≡ j = omega (arith, above) in
        ap (λ x. get_or b x 0) (sym here)
        ∙ alike_bytes a b at_slot place 20 met stop read.0 alike k (omega (arith, above, low)) (omega (arith, above, below, high))
        ∙ ap (λ x. get_or a x 0) here)
        ∙ sym (part_in size a at_slot i n fits)

    -- What is read of it ends where the reading ends, or is the Cap there.
    cap_or_none : (len : ℕ) (r : Reads sum size number text_a stop stop len) → (why ≡ Capped) × (r.kind ≡ Cap)
    unfolding IsScan EndsThere
    cap_or_none len r = by why refl read.1 where
      behind : 20 ≤ stop
      behind = no_lower sum size number text_a 20 stop comes_a

      stands : StandsAt sum size a (at_slot + stop) number (header_read sum size a at_slot aligned reach number stop stop len
          (omega (arith, behind)) r) r.body len
      stands = read_stands sum size a at_slot aligned reach number stop stop len (omega (arith, behind)) r

      by : (o : ScanEnd) → why ≡ o → IsEnd sum size a at_slot place stop o → (why ≡ Capped) × (r.kind ≡ Cap)
      by Full is end = let room = r.room in absurd (omega (arith, room, end))
      by Broken is end = absurd (end.1 (header_read sum size a at_slot aligned reach number stop stop len (omega (arith, behind)) r) r.body len stands)
      by Capped is end =
          let (h, body, l, s, is_cap) = end.1 in (
            is,
            ap (λ (x : MessageHeader). x.kind) (one_header sum size a (at_slot + stop) number
                (header_read sum size a at_slot aligned reach number stop stop len (omega (arith, behind)) r) h r.body body len l stands s) ∙ is_cap,
          )

    -- What is read of it in the one file is read in the other one.
    pub reads_over : (at len : ℕ) → Reads sum size number text_a 20 at len → Reads sum size number text_b 20 at len
        × (part b (at_slot + at) len ≡ part a (at_slot + at) len)
    reads_over at len r = elim (reads_apart sum size number text_a 20 stop at len comes_a r) [
      | inl below ↦ (
          let low = no_lower sum size number text_a 20 at r.comes in
          let fits : at + len ≤ size = omega (arith, below, stop_a, length-take size (drop at_slot a)) in (
            read_same sum size number text_a text_b 20 stop 20 at len front_same stop_b (omega arith) below r,
            sym (part_in size b at_slot at len fits) ∙ front_same at len low below ∙ part_in size a at_slot at len fits,
          ))
      | inr on ↦ elim (cases_lt stop at) [
        | inl less ↦ (
            let s = starts sum size number text_a stop at on.comes less in
            absurd (s.plain (cap_or_none s.len s.reads).1))
        | inr most ↦ (
            let low = no_lower sum size number text_a stop at on.comes in
            let same : at ≡ stop = omega (arith, low, most) in
            subst (λ n. Reads sum size number text_b 20 n len × (part b (at_slot + n) len ≡ part a (at_slot + n) len)) (sym same)
            (at_end len (subst (λ n. Reads sum size number text_a stop n len) same on)))
      ]
    ] where
      at_end : (len : ℕ) → Reads sum size number text_a stop stop len
          → Reads sum size number text_b 20 stop len × (part b (at_slot + stop) len ≡ part a (at_slot + stop) len)
      at_end len r =
          let behind : 20 ≤ stop = no_lower sum size number text_a 20 stop comes_a in
          let inside = r.inside in
          let fits : stop + len ≤ size = omega (arith, inside, length-take size (drop at_slot a)) in
          let same = cap (cap_or_none len r).0 (header_read sum size a at_slot aligned reach number stop stop len (omega (arith, behind)) r) r.body len
          (read_stands sum size a at_slot aligned reach number stop stop len (omega (arith, behind)) r) in (
            record {
              comes = comes_b;
              room = r.room;
              inside = omega (arith, same.1, fits, stop_b, length-take size (drop at_slot b), length-drop at_slot b);
              kind = r.kind;
              page = r.page;
              body = r.body;
              is = subst (λ (l : List ℕ). IsRecord sum l r.kind r.page number r.body)
                  (sym (part_in size b at_slot stop len fits ∙ same.0 ∙ sym (part_in size a at_slot stop len fits))) r.is;
            },
            same.0,
          )

    -- So it is own there where it is own here.
    pub own_alike : (Header : ℕ → List ℕ → Type 0) (Own : ℕ → ℕ → List ℕ → Type 0) → ReadsOwn sum size Header Own b slot → ReadsOwn sum size Header Own a slot
    own_alike Header Own own = record {
      header = λ lsn mark' is. subst (Header at_slot) same_header
          (own.header lsn mark' (subst (λ (l : List ℕ). IsHeader sum l lsn mark') (sym same_header) is));
      records = λ lsn mark' at len is r.
          let found : (n : ℕ) (x : ℤ) → IsHeader sum (part a at_slot 20) (pos n) x → IsFoundSegment sum size a 0 (marked_at at_slot n x) =
          λ n x head. record { slot = aligned; header = head; not_below = omega arith } in
          let one : lsn ≡ place =
          one_in_slot sum size a 0 0 (marked_at at_slot lsn mark') (marked_at at_slot place mark) (found lsn mark' is) (found place mark header) refl in
          let over = reads_over at len (subst (λ n. Reads sum size (n / size) text_a 20 at len) one r) in
          subst (λ n. Own (n / size) (at_slot + at) (part a (at_slot + at) len)) (sym one)
          (subst (Own number (at_slot + at)) over.1
          (own.records place mark at len (subst (λ (l : List ℕ). IsHeader sum l (pos place) mark) (sym same_header) header) over.0));
    }
