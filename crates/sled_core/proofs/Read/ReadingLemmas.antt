-- What is found of a header in the first bytes at an offset is the header of the record that stands there, and no other one does.
use Rattle.std.proofs.Common.{◌^◌, ◌≡◌, ◌≢◌, ◌≤◌, ◌<◌, ◌+◌, ◌-◌, ◌%◌, ℕ, suc, List, [], ◌∷◌, ◌++◌, length, take, drop, get_or, sym, ◌∙◌, ap, arith, refl, subst, append_assoc, length-append, length-take, length-drop}
use Rattle.std.proofs.lemmas.List.{drop-take, take-take, take_at, take-append-drop, drop-drop, get_or-take, get_or_append_left, get_or-append-add, append-nil}
use Rattle.std.proofs.lemmas.Bool.Decides.{nat_tests}
use Rattle.sled_codec.specs.declared.serialization.message.MessageHeader.{MessageHeader}
use Rattle.sled_codec.specs.declared.serialization.message.MessageKind.TheVariants as kind
use Rattle.sled_codec.specs.Places.{part}
use Rattle.sled_codec.specs.Sums.{flipped}
use Rattle.sled_codec.specs.Spelling.{SpellsNumber, SpellsMessageHeader}
use Rattle.sled_codec.specs.HeaderLaws.{no_front-header, one_value-header}
use Rattle.sled_codec.specs.declared.serialization.message.SegmentNumber.{SegmentNumber}
use Rattle.std.specs.Prelude.{Result, Ok, Err, IfOk}
use Rattle.sled_core.specs.declared.logger.read_message.LogRead.{LogRead}
use Rattle.sled_core.specs.declared.logger.read_message.LogRead.TheVariants.{Inline, Blob, Canceled, Cap, Corrupted, DanglingBlob, BatchManifest}
use Rattle.sled_codec.specs.SpellingLaws.{same_fronts, same_rests}
use Rattle.sled_core.specs.Reading.{StandsAt, IsAnnounced, IsRecordRead, is_inline, is_blob}
use Rattle.sled_core.specs.inside.Reading.{IsLaid, HoldsAs}

-- a number whose lead is a byte has nine bytes at most
number_short : (text : List ℕ) (v : ℕ) → SpellsNumber text v → get_or text 0 0 < 256 → (1 ≤ length text) × (length text ≤ 9)
unfolding SpellsNumber
number_short [] v spells small = absurd spells
number_short (lead ∷ more) v spells small = let count = spells.0 in (omega arith, grind (arith, nat_tests))

-- a byte behind a front of a text
get_behind : (xs ys : List ℕ) (i : ℕ) → get_or (xs ++ ys) (length xs + i) 0 ≡ get_or ys i 0
get_behind xs ys i = get_or-append-add xs ys i 0

number_some : (text : List ℕ) (v : ℕ) → SpellsNumber text v → 1 ≤ length text
unfolding SpellsNumber
number_some [] v spells = absurd spells
number_some (lead ∷ more) v spells = omega arith

-- no header is shorter than eight bytes
pub header_some : (text : List ℕ) (h : MessageHeader) → SpellsMessageHeader text h → 8 ≤ length text
header_some text h s =
    let l1 = number_some s.len h.len s.counted in
    let n1 = number_some s.number h.segment_number.0 s.numbered in
    let p1 = number_some s.page h.pid s.paged in
    let whole = ap length s.is in
    omega (arith, s.summed.long, l1, n1, p1, whole, length-append ((s.sum ++ (s.code ∷ s.len)) ++ s.number) s.page, length-append (s.sum ++ (s.code ∷ s.len)) s.number, length-append s.sum (s.code ∷ s.len))

-- the lead byte of a part that stands behind others
lead_behind : (text front mid back : List ℕ) (at : ℕ) → text ≡ front ++ (mid ++ back) → length front ≡ at → 1 ≤ length mid → get_or text at 0 ≡ get_or mid 0 0
lead_behind text front mid back at is long some =
    let here : length front + 0 ≡ at = omega (arith, long) in
    ap (λ (l : List ℕ). get_or l at 0) is
    ∙ ap (λ n. get_or (front ++ (mid ++ back)) n 0) (sym here)
    ∙ get_behind front (mid ++ back) 0
    ∙ get_or_append_left mid back 0 0 some

-- the header of a message is no longer than thirty-two bytes, where its first ones are bytes
header_short : (text : List ℕ) (h : MessageHeader) → SpellsMessageHeader text h → ((i : ℕ) → i < length text → i < 32 → get_or text i 0 < 256) → (8 ≤ length text) × (length text ≤ 32)
header_short text h s bytes =
    let sum = s.summed.long in
    let l1 = number_some s.len h.len s.counted in
    let n1 = number_some s.number h.segment_number.0 s.numbered in
    let p1 = number_some s.page h.pid s.paged in
    let start : List ℕ = s.sum ++ s.code ∷ [] in
    let start_long : length start ≡ 5 = omega (arith, sum, length-append s.sum (s.code ∷ [])) in
    let is1 : text ≡ start ++ (s.len ++ (s.number ++ s.page)) = s.is ∙ simp append_assoc in
    let is2 : text ≡ (start ++ s.len) ++ (s.number ++ s.page) = is1 ∙ sym (append_assoc start s.len (s.number ++ s.page)) in
    let is3 : text ≡ ((start ++ s.len) ++ s.number) ++ (s.page ++ []) = is2 ∙ simp (append_assoc, append-nil) in
    let whole : length text ≡ 5 + length s.len + (length s.number + length s.page) = ap length is2 ∙ omega (arith, start_long, length-append (start ++ s.len) (s.number ++ s.page), length-append start s.len, length-append s.number s.page) in
    let first : get_or s.len 0 0 < 256 = subst (λ n. n < 256) (lead_behind text start s.len (s.number ++ s.page) 5 is1 start_long l1) (bytes 5 (omega (arith, whole, l1)) (omega arith)) in
    let l9 = (number_short s.len h.len s.counted first).1 in
    let second : get_or s.number 0 0 < 256 = subst (λ n. n < 256) (lead_behind text (start ++ s.len) s.number s.page (5 + length s.len) is2 (omega (arith, start_long, length-append start s.len)) n1) (bytes (5 + length s.len) (omega (arith, whole, n1)) (omega (arith, l9))) in
    let n9 = (number_short s.number h.segment_number.0 s.numbered second).1 in
    let third : get_or s.page 0 0 < 256 = subst (λ n. n < 256) (lead_behind text ((start ++ s.len) ++ s.number) s.page [] (5 + length s.len + length s.number) is3 (omega (arith, start_long, length-append (start ++ s.len) s.number, length-append start s.len)) p1) (bytes (5 + length s.len + length s.number) (omega (arith, whole, p1)) (omega (arith, l9, n9))) in
    let p9 = (number_short s.page h.pid s.paged third).1 in
    (omega (arith, whole, l1, n1, p1), omega (arith, whole, l9, n9, p9))

-- a part within a part
part_front : (log : List ℕ) (lid k len : ℕ) → k ≤ len → part log lid k ≡ take k (part log lid len)
part_front log lid k len le = sym (take-take k len (drop lid log) le)

module _ (sum : List ℕ → ℕ) (size : ℕ) (log : List ℕ) (lid number : ℕ) (head : List ℕ) (long : length head ≡ 32) (bytes : (i : ℕ) → i < 32 → get_or head i 0 < 256)
    (same : (k : ℕ) → k ≤ 32 → lid + k ≤ length log → take k head ≡ part log lid k) where
  module _ (h : MessageHeader) (body : List ℕ) (len : ℕ) (stands : StandsAt sum size log lid number h body len) where
    -- the record is as long as its header and its body
    pub record_long : len ≡ length stands.header + length body
    record_long =
        let there : length (part log lid len) ≡ len = let within = stands.in_file in omega (arith, within, length-take len (drop lid log), length-drop lid log) in
        sym there ∙ ap length stands.is ∙ length-append stands.header body

    header_byte : (i : ℕ) → i < length stands.header → i < 32 → get_or stands.header i 0 < 256
    header_byte i lt below =
        let within : lid + suc i ≤ length log = let inside = stands.in_file in omega (arith, inside, record_long) in
        let le : suc i ≤ len = omega (arith, record_long) in
        let fronts : take (suc i) head ≡ take (suc i) (part log lid len) = same (suc i) below within ∙ part_front log lid (suc i) len le in
        let is : get_or head i 0 ≡ get_or stands.header i 0 =
        sym (get_or-take (suc i) head i 0 (omega arith)) ∙ ap (λ (l : List ℕ). get_or l i 0) fronts ∙ get_or-take (suc i) (part log lid len) i 0 (omega arith)
        ∙ ap (λ (l : List ℕ). get_or l i 0) stands.is ∙ get_or_append_left stands.header body 0 i lt in
        subst (λ n. n < 256) is (bytes i below)

    pub header_there : (8 ≤ length stands.header) × (length stands.header ≤ 32)
    header_there = header_short stands.header h stands.spelled header_byte

    -- its header is a front of what was read
    pub header_front : head ≡ stands.header ++ drop (length stands.header) head
    header_front =
        let n : ℕ = length stands.header in
        let short = header_there.1 in
        let within : lid + n ≤ length log = let inside = stands.in_file in omega (arith, inside, record_long) in
        let front : take n head ≡ stands.header =
        same n (omega (arith, short)) within ∙ part_front log lid n len (omega (arith, record_long)) ∙ ap (take n) stands.is ∙ take_at stands.header body n refl in
        sym (take-append-drop n head) ∙ ap (λ (l : List ℕ). l ++ drop n head) front

  module _ (n : ℕ) (h0 : MessageHeader) (found : SpellsMessageHeader (take n head) h0) (small : n ≤ 32) where
    found_long : length (take n head) ≡ n
    found_long = omega (arith, long, length-take n head)

    pub found_some : 8 ≤ n
    found_some =
        let byte : (i : ℕ) → i < length (take n head) → i < 32 → get_or (take n head) i 0 < 256 = λ i lt below. subst (λ b. b < 256) (sym (get_or-take n head i 0 (omega (arith, found_long)))) (bytes i below) in
        let le = (header_short (take n head) h0 found byte).0 in omega (arith, le, found_long)

    -- a record that stands there has the header that was found
    pub same_found : (h : MessageHeader) (body : List ℕ) (len : ℕ) (stands : StandsAt sum size log lid number h body len) → (stands.header ≡ take n head) × (h ≡ h0)
    same_found h body len stands =
        let fronts : stands.header ++ drop (length stands.header) head ≡ take n head ++ drop n head = sym (header_front h body len stands) ∙ sym (take-append-drop n head) in
        let same_header : stands.header ≡ take n head = no_front-header stands.header (take n head) _ _ h h0 stands.spelled found fronts in
        (same_header, one_value-header (take n head) h h0 (subst (λ (t : List ℕ). SpellsMessageHeader t h) same_header stands.spelled) found)

    -- and is as long
    pub same_long : (h : MessageHeader) (body : List ℕ) (len : ℕ) (stands : StandsAt sum size log lid number h body len) → len ≡ n + h0.len
    same_long h body len stands =
        let same = same_found h body len stands in
        let counted : length body ≡ h0.len = sym stands.counted ∙ ap (λ (x : MessageHeader). x.len) same.1 in
        omega (arith, record_long h body len stands, ap length same.0, found_long, counted)

    -- What passes the tests is laid there.
    pub laid_here : (body : List ℕ) → h0.kind ≢ kind.Corrupted → h0.segment_number.0 ≡ number → body ≡ part log (lid + n) h0.len → length body ≡ h0.len
        → n + h0.len ≤ size - lid % size → lid + n + h0.len ≤ length log → lid + (n + h0.len) < 2 ^ 64 → IsLaid size log lid number (take n head) h0 body
    laid_here body valid numbered is counted in_slot in_file small_end =
        let some = found_some in
        let within : lid + n ≤ length log = omega (arith, in_file) in
        let long_here : length (take n head) + length body ≡ n + h0.len = omega (arith, found_long, counted) in
        let whole : part log lid (n + h0.len) ≡ part log lid n ++ part log (lid + n) h0.len =
        sym (take-append-drop n (part log lid (n + h0.len)))
        ∙ ap (λ (l : List ℕ). l ++ drop n (part log lid (n + h0.len))) (take-take n (n + h0.len) (drop lid log) (omega arith))
        ∙ ap (λ (l : List ℕ). part log lid n ++ l) (drop-take n h0.len (drop lid log) ∙ ap (take h0.len) (drop-drop n lid log)) in
        record {
          spelled = found;
          is = ap (part log lid) long_here ∙ whole ∙ ap (λ (l : List ℕ). l ++ part log (lid + n) h0.len) (sym (same n small within)) ∙ ap (λ (l : List ℕ). take n head ++ l) (sym is);
          counted = sym counted;
          numbered = numbered;
          valid = valid;
          in_file = omega (arith, long_here, in_file);
          in_slot = omega (arith, some, long_here, in_slot);
          small = omega (arith, long_here, small_end);
        }

-- A record is laid where it stands.
pub laid_of : (sum : List ℕ → ℕ) (size : ℕ) (log : List ℕ) (lid number : ℕ) (h : MessageHeader) (body : List ℕ) (len : ℕ) (stands : StandsAt sum size log lid number h body len)
    → (IsLaid size log lid number stands.header h body) × (len ≡ length stands.header + length body)
laid_of sum size log lid number h body len stands =
    let within = stands.in_file in
    let there : length (part log lid len) ≡ len = omega (arith, within, length-take len (drop lid log), length-drop lid log) in
    let long : len ≡ length stands.header + length body = sym there ∙ ap length stands.is ∙ length-append stands.header body in (
      record {
        spelled = stands.spelled;
        is = ap (part log lid) (sym long) ∙ stands.is;
        counted = stands.counted;
        numbered = stands.numbered;
        valid = stands.valid;
        in_file = let end = stands.in_file in omega (arith, long, end);
        in_slot = let end = stands.in_slot in omega (arith, long, end);
        small = let end = stands.small in omega (arith, long, end);
      },
      long,
    )

-- So it is announced there.
pub announced_of : (sum : List ℕ → ℕ) (size : ℕ) (log : List ℕ) (lid number : ℕ) (h : MessageHeader) (body : List ℕ) (len : ℕ) → StandsAt sum size log lid number h body len → IsAnnounced size log lid number
announced_of sum size log lid number h body len stands =
    let n : ℕ = length stands.header in
    let long : len ≡ n + length body = (laid_of sum size log lid number h body len stands).1 in
    let counted = stands.counted in
    let end = stands.in_slot in
    record {
      header = stands.header;
      announced = h;
      spelled = stands.spelled;
      is = part_front log lid n len (omega (arith, long)) ∙ ap (take n) stands.is ∙ take_at stands.header body n refl;
      numbered = stands.numbered;
      valid = stands.valid;
      in_slot = omega (arith, long, counted, end);
    }

-- What is laid with a right sum stands there.
pub stands_of : (sum : List ℕ → ℕ) (size : ℕ) (log : List ℕ) (lid number : ℕ) (header : List ℕ) (h : MessageHeader) (body : List ℕ) (laid : IsLaid size log lid number header h body)
    → h.crc32 ≡ flipped (sum (body ++ drop 4 header)) → StandsAt sum size log lid number h body (length header + length body)
stands_of sum size log lid number header h body laid summed = record {
  header = header;
  spelled = laid.spelled;
  is = laid.is;
  counted = laid.counted;
  numbered = laid.numbered;
  summed = summed;
  valid = laid.valid;
  in_file = laid.in_file;
  in_slot = laid.in_slot;
  small = laid.small;
}

-- what is laid is the front of the file from there on
pub laid_front : (size : ℕ) (log : List ℕ) (lid number : ℕ) (header : List ℕ) (h : MessageHeader) (body : List ℕ) → IsLaid size log lid number header h body
    → drop lid log ≡ header ++ (body ++ drop (length header + length body) (drop lid log))
laid_front size log lid number header h body a =
    let n : ℕ = length header + length body in
    sym (take-append-drop n (drop lid log)) ∙ ap (λ (l : List ℕ). l ++ drop n (drop lid log)) a.is ∙ append_assoc header body (drop n (drop lid log))

-- At one offset one thing is laid.
module _ (size : ℕ) (log : List ℕ) (lid number : ℕ) (header header' : List ℕ) (h h' : MessageHeader) (body body' : List ℕ)
    (a : IsLaid size log lid number header h body) (b : IsLaid size log lid number header' h' body') where
  fronts : header ++ (body ++ drop (length header + length body) (drop lid log)) ≡ header' ++ (body' ++ drop (length header' + length body') (drop lid log))
  fronts = sym (laid_front size log lid number header h body a) ∙ laid_front size log lid number header' h' body' b

  pub one_head : header ≡ header'
  one_head = no_front-header header header' _ _ h h' a.spelled b.spelled fronts

  pub one_laid : h ≡ h'
  one_laid = one_value-header header' h h' (rw one_head at a.spelled) b.spelled

  pub one_text : body ≡ body'
  one_text =
      let lens : length body ≡ length body' = sym a.counted ∙ ap (λ (x : MessageHeader). x.len) one_laid ∙ b.counted in
      same_fronts body body' _ _ lens (same_rests header header' _ _ one_head fronts)

-- What a record holds is what is read where it stands.
pub reading_is : (sum : List ℕ → ℕ) (size : ℕ) (log : List ℕ) (lid number : ℕ) (h : MessageHeader) (body : List ℕ) (len : ℕ) (r : LogRead)
    → StandsAt sum size log lid number h body len → HoldsAs h body len r → IsRecordRead sum size log lid number r
reading_is sum size log lid number h body len (Inline h' bytes n) stands holds = (
  subst (λ (x : MessageHeader). StandsAt sum size log lid number x bytes.items n) (sym holds.0)
      (subst (λ (b : List ℕ). StandsAt sum size log lid number h b n) (sym holds.1) (subst (λ k. StandsAt sum size log lid number h body k) (sym holds.2) stands)),
  ap (λ (x : MessageHeader). is_inline x.kind) holds.0 ∙ holds.3,
)
reading_is sum size log lid number h body len (Blob h' bytes place n) stands holds = holds
reading_is sum size log lid number h body len (Canceled n) stands holds = (h, body, subst (λ k. StandsAt sum size log lid number h body k) (sym holds.0) stands, holds.1)
reading_is sum size log lid number h body len (Cap segment) stands holds = (h, body, len, stands, holds.1, ap (λ (n : SegmentNumber). n.0) holds.0 ∙ stands.numbered)
reading_is sum size log lid number h body len Corrupted stands holds = absurd holds
reading_is sum size log lid number h body len (DanglingBlob h' place n) stands holds = (
  body,
  subst (λ (x : MessageHeader). StandsAt sum size log lid number x body n) (sym holds.0) (subst (λ k. StandsAt sum size log lid number h body k) (sym holds.1) stands),
  ap (λ (x : MessageHeader). is_blob x.kind) holds.0 ∙ holds.2,
  holds.3,
)
reading_is sum size log lid number h body len (BatchManifest peg n) stands holds = (h, body, subst (λ k. StandsAt sum size log lid number h body k) (sym holds.0) stands, holds.1, holds.2)

-- what follows from what an answer is, where it is one
pub if_ok : {T E : Type 0} (r : Result T E) (P Q : T → Type 0) → ((x : T) → P x → Q x) → IfOk r P → IfOk r Q
if_ok (Ok x) P Q follows holds = follows x holds
if_ok (Err e) P Q follows holds = tt
