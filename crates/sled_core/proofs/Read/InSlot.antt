-- What is laid at an offset, told from the bytes of the file from there on.
use Rattle.std.proofs.Common.{◌^◌, ◌≡◌, ◌≢◌, ◌∙◌, ◌+◌, ◌-◌, ◌%◌, ◌≤◌, ◌<◌, ℕ, List, ◌++◌, length, take, drop, replicate, ap, sym, subst, arith, length-take, length-drop}
use Rattle.std.proofs.lemmas.List.{drop-drop, drop-take, drop_at, length-replicate, take-append-drop, take-take}
use Rattle.sled_codec.specs.declared.serialization.message.MessageHeader.{MessageHeader}
use Rattle.sled_codec.specs.declared.serialization.message.MessageKind.TheVariants as kind
use Rattle.sled_codec.specs.HeaderLaws.{no_front-header, one_value-header}
use Rattle.sled_codec.specs.Places.{part}
use Rattle.sled_codec.specs.Spelling.{SpellsMessageHeader}
use Rattle.sled_core.specs.declared.logger.read_at.BasedBuf.{BasedBuf}
use Rattle.sled_core.specs.inside.Reading.{IsLaid}
use Rattle.sled_core.specs.Reading.{StandsAt, file_of}
use Rattle.sled_core.proofs.Read.ReadingLemmas.{header_some, laid_front, laid_of}
use Rattle.sled_core.proofs.Reserve.Parts.{mid_is}

-- behind the beginning of a buffer its bytes are the file
pub file_behind : (start at : ℕ) (bytes : List ℕ) → start ≤ at → drop at (replicate start 0 ++ bytes) ≡ drop (at - start) bytes
file_behind start at bytes le =
    let k : ℕ = at - start in
    let e : start + k ≡ at = omega arith in
    sym (ap (λ n. drop n (replicate start 0 ++ bytes)) e) ∙ sym (drop-drop k start (replicate start 0 ++ bytes))
    ∙ ap (drop k) (drop_at (replicate start 0) bytes start (length-replicate start 0))

-- which are those from an index in it on
pub slot_behind : (start at : ℕ) (bytes : List ℕ) → drop (start + at) (replicate start 0 ++ bytes) ≡ drop at bytes
slot_behind start at bytes =
    let e : start + at - start ≡ at = omega arith in
    file_behind start (start + at) bytes (omega arith) ∙ ap (λ n. drop n bytes) e

-- What holds of a buffer holds of one with the same bytes at the same offset.
pub of_same_buf : (P : List ℕ → ℕ → Type 0) (b b' : BasedBuf) → b'.buf.items ≡ b.buf.items → b'.offset ≡ b.offset → P (file_of b') b'.offset → P (file_of b) b.offset
of_same_buf P b b' items offset holds =
    subst (λ o. P (replicate o 0 ++ b.buf.items) o) offset (subst (λ (l : List ℕ). P (replicate b'.offset 0 ++ l) b'.offset) items holds)

-- what is summed of a record that stands in bytes
pub summed_there : (sum : List ℕ → ℕ) (bytes : List ℕ) (at n len : ℕ) → 4 ≤ n → sum (part bytes (at + n) (n + len - n) ++ part bytes (at + 4) (n - 4)) ≡ sum (part bytes (at + n) len ++ drop 4 (part bytes at n))
summed_there sum bytes at n len some =
    let count : n + len - n ≡ len = omega arith in
    let tail : part bytes (at + 4) (n - 4) ≡ drop 4 (part bytes at n) = ap (take (n - 4)) (sym (drop-drop 4 at bytes)) ∙ mid_is (drop at bytes) 4 n some in
    ap (λ k. sum (part bytes (at + n) k ++ part bytes (at + 4) (n - 4))) count ∙ ap (λ (l : List ℕ). sum (part bytes (at + n) len ++ l)) tail

module _ (size : ℕ) (log : List ℕ) (lid number : ℕ) (rest : List ℕ) (is : drop lid log ≡ rest) where
  -- they begin with the header of the record that stands there
  pub header_first : (sum : List ℕ → ℕ) (h : MessageHeader) (body : List ℕ) (len : ℕ) (stands : StandsAt sum size log lid number h body len)
      → rest ≡ stands.header ++ (body ++ drop (length stands.header + length body) (drop lid log))
  header_first sum h body len stands = sym is ∙ laid_front size log lid number stands.header h body (laid_of sum size log lid number h body len stands).0

  module _ (n : ℕ) (h0 : MessageHeader) (found : SpellsMessageHeader (take n rest) h0) (inside : n ≤ length rest) where
    found_long : length (take n rest) ≡ n
    found_long = omega (arith, inside, length-take n rest)

    found_some : 8 ≤ n
    found_some = let some = header_some (take n rest) h0 found in omega (arith, some, found_long)

    -- the record that stands there has the header that they begin with, and has room there
    pub same_record : (sum : List ℕ → ℕ) (h : MessageHeader) (body : List ℕ) (len : ℕ) → StandsAt sum size log lid number h body len
        → (h0.kind ≢ kind.Corrupted) × (h0.segment_number.0 ≡ number) × (lid % size + (n + h0.len) ≤ size) × (n + h0.len ≤ length rest)
    same_record sum h body len stands =
        let fronts = sym (header_first sum h body len stands) ∙ sym (take-append-drop n rest) in
        let same : stands.header ≡ take n rest = no_front-header stands.header (take n rest) _ _ h h0 stands.spelled found fronts in
        let one : h ≡ h0 = one_value-header (take n rest) h h0 (subst (λ (t : List ℕ). SpellsMessageHeader t h) same stands.spelled) found in
        let counted : length body ≡ h0.len = sym stands.counted ∙ ap (λ (x : MessageHeader). x.len) one in
        let long : len ≡ n + h0.len = omega (arith, (laid_of sum size log lid number h body len stands).1, ap length same, found_long, counted) in
        let in_slot = stands.in_slot in
        let in_file = stands.in_file in
        let there = ap length is in
        let behind = length-drop lid log in (
          λ bad. stands.valid (ap (λ (x : MessageHeader). x.kind) one ∙ bad),
          sym (ap (λ (x : MessageHeader). x.segment_number.0) one) ∙ stands.numbered,
          omega (arith, long, in_slot),
          omega (arith, long, in_file, there, behind),
        )

    -- what passes the tests is laid there
    pub laid_there : h0.kind ≢ kind.Corrupted → h0.segment_number.0 ≡ number → lid % size + (n + h0.len) ≤ size → n + h0.len ≤ length rest → lid + size < 2 ^ 64
        → IsLaid size log lid number (take n rest) h0 (take h0.len (drop n rest))
    laid_there valid numbered in_slot in_file small =
        let some = found_some in
        let there = ap length is in
        let behind = length-drop lid log in
        let body_long : length (take h0.len (drop n rest)) ≡ h0.len = omega (arith, in_file, length-take h0.len (drop n rest), length-drop n rest) in
        let long : length (take n rest) + length (take h0.len (drop n rest)) ≡ n + h0.len = omega (arith, found_long, body_long) in
        record {
          spelled = found;
          is = ap (part log lid) long
              ∙ ap (take (n + h0.len)) is
              ∙ sym (take-append-drop n (take (n + h0.len) rest))
              ∙ ap (λ (l : List ℕ). l ++ drop n (take (n + h0.len) rest)) (take-take n (n + h0.len) rest (omega arith))
              ∙ ap (λ (l : List ℕ). take n rest ++ l) (drop-take n h0.len rest);
          counted = sym body_long;
          numbered = numbered;
          valid = valid;
          in_file = omega (arith, some, long, in_file, there, behind);
          in_slot = omega (arith, long, in_slot);
          small = omega (arith, long, in_slot, small);
        }
