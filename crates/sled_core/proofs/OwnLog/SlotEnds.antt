-- A slot is own, also with zeros behind the end of its file, where what is read of it in the file is, and a reader comes to an offset in it behind which nothing is read: there is a Cap, or no room, or zeros.
use Rattle.std.proofs.Common.{◌≡◌, ◌∙◌, ◌≤◌, ◌<◌, ◌+◌, ◌-◌, ◌*◌, ◌/◌, ℕ, ℤ, pos, List, length, take, drop, get_or, sym, ap, subst, arith, inl, inr, length-take, length-drop}
use Rattle.std.proofs.lemmas.Bool.{cases_lt}
use Rattle.std.proofs.lemmas.List.{get_or-take, get_or-drop}
use Rattle.sled_codec.specs.declared.serialization.message.MessageKind.TheVariants.{Cap}
use Rattle.sled_codec.specs.Places.{part}
use Rattle.sled_codec.specs.Record.{IsRecord, IsHeader}
use Rattle.sled_codec.proofs.Segments.{length-short_header, one_header}
use Rattle.sled_store.specs.Readers.{Reads, ReadsTo}
use Rattle.sled_store.proofs.LogFile.LogLemmas.{same_part}
use Rattle.sled_store.proofs.Own.NoRecord.{reads_none}
use Rattle.sled_store.proofs.Own.ReaderLemmas.{SameFrom, no_lower, read_same, reads_apart, reads_same, starts}
use Rattle.sled_core.specs.inside.LogFile.{padded}
use Rattle.sled_core.specs.inside.OwnLog.{HasOwnSlot}
use Rattle.sled_core.specs.Recoverable.{NoHeaderOfZeros}
use Rattle.sled_core.specs.SealedBuffers.{AreZeros}
use Rattle.sled_core.proofs.Sealed.Padded.{length-padded, padded_get}
use Rattle.sled_core.proofs.OwnLog.Kept.{part_in}
use Rattle.sled_core.proofs.OwnLog.NoHeader.{no_header_of}

module _ (sum : List ℕ → ℕ) (size : ℕ) (Header : ℕ → List ℕ → Type 0) (Own : ℕ → ℕ → List ℕ → Type 0) (log : List ℕ) (slot : ℕ) where
  abbrev begin : ℕ
  begin = slot * size

  abbrev text : List ℕ
  text = part log begin size

  -- the slot in the file with zeros behind its end
  abbrev pub more : ℕ → List ℕ
  more to = part (padded to log) begin size

  pub longer : (to : ℕ) → length text ≤ length (more to)
  longer to = omega (arith, length-take size (drop begin log), length-drop begin log, length-take size (drop begin (padded to log)), length-drop begin (padded to log), length-padded to log)

  in_file : (to at len : ℕ) → begin + at + len ≤ length log → part (padded to log) (begin + at) len ≡ part log (begin + at) len
  in_file to at len there =
      let count : begin + at + len - (begin + at) ≡ len = omega arith in
      ap (λ n. take n (drop (begin + at) (padded to log))) (sym count)
      ∙ same_part (padded to log) log (begin + at) (begin + at + len) (omega (arith, there, length-padded to log)) there (λ i low high. padded_get to log i)
      ∙ ap (λ n. take n (drop (begin + at) log)) count

  pub same : (to i n : ℕ) → i + n ≤ length text → part (more to) i n ≡ part text i n
  same to i n low = elim (cases_lt n 1) [
    | inl no_byte ↦ (let empty : n ≡ 0 = omega (arith, no_byte) in ap (λ m. part (more to) i m) empty ∙ ap (λ m. part text i m) (sym empty))
    | inr some_byte ↦ (
        let short : i + n ≤ size = omega (arith, low, length-take size (drop begin log)) in
        part_in size (padded to log) begin i n short ∙ in_file to i n (omega (arith, low, some_byte, length-take size (drop begin log), length-drop begin log)) ∙ sym (part_in size log begin i n short))
  ]

  pub byte_more : (to at : ℕ) → at < size → get_or (more to) at 0 ≡ get_or log (begin + at) 0
  byte_more to at below = get_or-take size (drop begin (padded to log)) at 0 below ∙ get_or-drop begin (padded to log) at 0 ∙ padded_get to log (begin + at)

  -- A record that is read at an offset is a Cap, and lies in the file.
  abbrev pub EndsAt : ℕ → ℕ → Type 0
  EndsAt number end = (to len : ℕ) (r : Reads sum size number (more to) end end len) → (r.kind ≡ Cap) × (end + len ≤ length text)

  -- So it ends where no record has room, and where zeros follow.
  pub ends_full : (number end : ℕ) → size < end + 32 → EndsAt number end
  ends_full number end full to len r = let room = r.room in absurd (omega (arith, full, room))

  pub ends_zero : (number end : ℕ) → (end + 32 ≤ size → get_or log (begin + end + 4) 0 ≡ 0) → EndsAt number end
  ends_zero number end zero to len r =
      let room = r.room in
      let at : begin + (end + 4) ≡ begin + end + 4 = omega arith in
      absurd (reads_none sum size number (more to) end end len (byte_more to (end + 4) (omega (arith, room)) ∙ ap (λ n. get_or log n 0) at ∙ zero room) r)

  -- What is read of the file as it is, of a segment of a number, is own, where it begins at an offset at most.
  abbrev pub OwnTo : ℕ → ℕ → Type 0
  OwnTo number end = (at len : ℕ) → at ≤ end → Reads sum size number text 20 at len → Own number (begin + at) (part text at len)

  -- so it is with the file with zeros behind its end
  abbrev pub OwnWithZeros : ℕ → Type 0
  OwnWithZeros number = (to at len : ℕ) → Reads sum size number (more to) 20 at len → (at + len ≤ length text) × Own number (begin + at) (part text at len)

  module _ (number end : ℕ) (own : OwnTo number end) where
    own_in_file : (to at len : ℕ) → at ≤ end → at + len ≤ length text → Reads sum size number (more to) 20 at len → (at + len ≤ length text) × Own number (begin + at) (part text at len)
    own_in_file to at len low there r =
        let kept : SameFrom sum size number (more to) text 20 (length text) = λ i n above below. sym (same to i n below) in
        (there, own at len low (read_same sum size number (more to) text 20 (length text) 20 at len kept (omega arith) (omega arith) there r))

    -- where the file has all of the slot
    pub own_whole : size ≤ length text → size ≤ end → OwnWithZeros number
    own_whole long far to at len r =
        let inside = r.inside in
        let there : at + len ≤ size = omega (arith, inside, length-take size (drop begin (padded to log))) in
        own_in_file to at len (omega (arith, there, far)) (omega (arith, there, long)) r

    pub own_to_end : end ≤ length text → ReadsTo sum size number text 20 end → EndsAt number end → OwnWithZeros number
    own_to_end inside comes ends to at len r =
        let kept : SameFrom sum size number text (more to) 20 end = λ i n above below. same to i n (omega (arith, below, inside)) in
        let long = longer to in
        let reached = reads_same sum size number text (more to) 20 end 20 end kept (omega (arith, inside, long)) (omega arith) (omega arith) comes in
        elim (reads_apart sum size number (more to) 20 end at len reached r) [
          | inl before ↦ own_in_file to at len (omega (arith, before)) (omega (arith, before, inside)) r
          | inr on ↦ elim (cases_lt end at) [
            | inl less ↦ absurd (let s = starts sum size number (more to) end at on.comes less in s.plain (ends to s.len s.reads).0)
            | inr last ↦ (
                let up = no_lower sum size number (more to) end at on.comes in
                let here : at ≡ end = omega (arith, up, last) in
                let there = (ends to len (record {
                  comes = subst (λ n. ReadsTo sum size number (more to) end n) here on.comes;
                  room = omega (arith, on.room, here);
                  inside = omega (arith, on.inside, here);
                  kind = on.kind;
                  page = on.page;
                  body = on.body;
                  is = subst (λ n. IsRecord sum (part (more to) n len) on.kind on.page number on.body) here on.is;
                })).1 in
                own_in_file to at len (omega (arith, here)) (omega (arith, there, here)) r)
          ]
        ]

  -- The slot has the header of that segment.
  pub slot_has : (place : ℕ) (mark : ℤ) → IsHeader sum (part log begin 20) (pos place) mark → Header begin (part log begin 20) → OwnWithZeros (place / size) → HasOwnSlot sum size Header Own log slot
  slot_has place mark header placed own =
      let twenty : length (part log begin 20) ≡ 20 = ap length header.is ∙ length-short_header sum (pos place) mark in
      let there : begin + 20 ≤ length log = omega (arith, twenty, length-take 20 (drop begin log), length-drop begin log) in
      record {
        header = λ to lsn other is. (there, placed);
        records = λ to lsn other at len is r.
            let same_place : pos lsn ≡ pos place = (one_header sum (part log begin 20) (pos lsn) other (pos place) mark is header).0 in
            let number : lsn / size ≡ place / size = ap (λ n. n / size) (let n : lsn ≡ place = cc in n) in
            let found = own to at len (subst (λ n. Reads sum size n (more to) 20 at len) number r) in
            let in_text = found.0 in
            let fits : at + len ≤ size = omega (arith, in_text, length-take size (drop begin log)) in (
              omega (arith, in_text, there, length-take size (drop begin log), length-drop begin log),
              subst (λ n. Own n (begin + at) (part log (begin + at) len)) (sym number) (subst (Own (place / size) (begin + at)) (part_in size log begin at len fits) found.1),
            );
      }

  -- It has zeros in place of a header.
  pub slot_unbegun : NoHeaderOfZeros sum → AreZeros log begin (begin + 20) → HasOwnSlot sum size Header Own log slot
  slot_unbegun none zeros = record {
    header = λ to lsn mark is. absurd (never to lsn mark is);
    records = λ to lsn mark at len is r. absurd (
        let twenty : length (part log begin 20) ≡ 20 = ap length is.is ∙ length-short_header sum (pos lsn) mark in
        let there : begin + 0 + 20 ≤ length log = omega (arith, twenty, length-take 20 (drop begin log), length-drop begin log) in
        let at_begin : begin + 0 ≡ begin = omega arith in
        let whole : part (padded 0 log) begin 20 ≡ part log begin 20 = subst (λ n. part (padded 0 log) n 20 ≡ part log n 20) at_begin (in_file 0 0 20 there) in
        never 0 (pos lsn) mark (subst (λ (l : List ℕ). IsHeader sum l (pos lsn) mark) (sym whole) is));
  }
    where
      never : (to : ℕ) (lsn mark : ℤ) → IsHeader sum (part (padded to log) begin 20) lsn mark → ⊥
      never to lsn mark is = no_header_of sum none (padded to log) begin (λ i above below. padded_get to log i ∙ zeros i above below) lsn mark is
