-- Records in the words of what is foreign: what stands at an offset is one, and a reader comes from its beginning to its end.
use Rattle.std.proofs.Common.{◌≡◌, ◌≢◌, ◌⊎◌, ◌≤◌, ◌+◌, ◌-◌, ◌%◌, ◌∙◌, ℕ, true, List, [], ◌∷◌, ◌++◌, length, take, drop, sym, ap, arith, refl, subst, inl, inr, length-take, length-drop}
use Rattle.std.specs.List.{Contains}
use Rattle.std.specs.Str.{bytes_eq}
use Rattle.std.proofs.lemmas.Bool.{cases_Bool}
use Rattle.std.proofs.lemmas.List.{drop-take, take-take, drop-drop}
use Rattle.std.proofs.lemmas.Slice.Eq.{bytes_eq-Decides}
use Rattle.std.proofs.lemmas.List.Elements.{All-contains, All-cons}
use Rattle.sled_codec.specs.declared.serialization.message.MessageHeader.{MessageHeader}
use Rattle.sled_codec.specs.declared.serialization.message.MessageKind.{MessageKind}
use Rattle.sled_codec.specs.declared.serialization.message.MessageKind.TheVariants.{Cap}
use Rattle.sled_codec.specs.HeaderLaws.{same_header}
use Rattle.sled_codec.specs.Places.{part}
use Rattle.sled_codec.specs.Record.{IsRecord}
use Rattle.sled_codec.specs.Spelling.{SpellsMessageHeader}
use Rattle.sled_codec.specs.Sums.{flipped}
use Rattle.sled_store.specs.Readers.{ReadsTo, Reads, reads_past}
use Rattle.sled_core.specs.declared.iobuf.SegmentPosition.{SegmentPosition}
use Rattle.sled_core.specs.declared.iterator.scan.RecordContent.{RecordContent}
use Rattle.sled_core.specs.declared.iterator.scan.RecordContent.TheVariants.{Gives, NamesBlob, Skipped, BatchStart}
use Rattle.sled_core.specs.Reading.{StandsAt, is_blob, is_inline}
use Rattle.sled_core.specs.Scan.{Says}
use Rattle.sled_core.proofs.Read.ReadingLemmas.{header_some, laid_of}
use Rattle.sled_core.proofs.Read.ScanLemmas.{aligned_offset}

-- one text is the other, or isn't
pub same_or_not : (xs ys : List ℕ) → (xs ≡ ys) ⊎ (xs ≡ ys → ⊥)
same_or_not xs ys = elim (cases_Bool (bytes_eq xs ys)) [
  | inl same ↦ inl ((bytes_eq-Decides xs ys).0 same)
  | inr other ↦ inr (λ is. let both = (bytes_eq-Decides xs ys).1 is in cc)
]

-- what is in a list of one is that one
pub the_only : {X : Type 0} (x y : X) → Contains (x ∷ []) y → y ≡ x
the_only x y there = All-contains (λ z. z ≡ x) (x ∷ []) y (All-cons (λ z. z ≡ x) x [] refl (λ k d lt. absurd (omega arith))) there

-- What stands at an offset is a record there.
pub record_of_stands : (sum : List ℕ → ℕ) (size : ℕ) (log : List ℕ) (lid number : ℕ) (h : MessageHeader) (body : List ℕ) (len : ℕ) → StandsAt sum size log lid number h body len
    → IsRecord sum (part log lid len) h.kind h.pid number body
record_of_stands sum size log lid number h body len s =
    let full : MessageHeader = record { crc32 = flipped (sum (body ++ drop 4 s.header)); kind = h.kind; segment_number = record { 0 = number }; pid = h.pid; len = length body } in
    record {
      header = s.header;
      spelled = subst (λ (x : MessageHeader). SpellsMessageHeader s.header x) (same_header h full s.summed refl s.counted s.numbered refl) s.spelled;
      is = s.is;
      valid = s.valid;
    }

-- a record that stands somewhere is no shorter than a header
pub long_enough : (sum : List ℕ → ℕ) (size : ℕ) (log : List ℕ) (lid number : ℕ) (h : MessageHeader) (body : List ℕ) (len : ℕ) → StandsAt sum size log lid number h body len → 8 ≤ len
long_enough sum size log lid number h body len s =
    let some = header_some s.header h s.spelled in
    omega (arith, some, (laid_of sum size log lid number h body len s).1)

-- what is met is no Cap
pub says_plain : (h : MessageHeader) (body : List ℕ) (lid : ℕ) (what : RecordContent) → Says h body lid what → h.kind ≢ Cap
says_plain h body lid (Gives does page pointer) says cap = let none : is_inline Cap ≡ true = subst (λ (k : MessageKind). is_inline k ≡ true) cap says.2 in cc
says_plain h body lid (NamesBlob k page at place) says cap = let none : is_blob Cap ≡ true = subst (λ (k : MessageKind). is_blob k ≡ true) cap says.3 in cc
says_plain h body lid Skipped says cap = cc
says_plain h body lid (BatchStart peg) says cap = let named = says.0 in cc

module _ (sum : List ℕ → ℕ) (size : ℕ) (log : List ℕ) (site : SegmentPosition) (aligned : site.slot % size ≡ 0) where
  -- a part of the slot is a part of the file
  part_slot : (at len : ℕ) → at + len ≤ size → part (part log site.slot size) at len ≡ part log (site.slot + at) len
  part_slot at len fits =
      let whole : at + (size - at) ≡ size = omega (arith, fits) in
      ap (λ n. take len (drop at (take n (drop site.slot log)))) (sym whole)
      ∙ ap (take len) (drop-take at (size - at) (drop site.slot log))
      ∙ take-take len (size - at) (drop at (drop site.slot log)) (omega (arith, fits))
      ∙ ap (take len) (drop-drop at site.slot log)

  -- a reader that comes to a record reads it
  pub record_read : (number first at : ℕ) (h : MessageHeader) (body : List ℕ) (len : ℕ) → at + 32 ≤ size → StandsAt sum size log (site.slot + at) number h body len → ReadsTo sum size number (part log site.slot size) first at
      → Reads sum size number (part log site.slot size) first at len
  record_read number first at h body len room s comes =
      let inside = s.in_slot in let there = s.in_file in
      let fits : at + len ≤ size = omega (arith, inside, aligned_offset site.slot at size aligned (omega (arith, room))) in
      record {
        comes = comes;
        room = room;
        inside = omega (arith, fits, there, length-take size (drop site.slot log), length-drop site.slot log);
        kind = h.kind;
        page = h.pid;
        body = body;
        is = subst (λ (l : List ℕ). IsRecord sum l h.kind h.pid number body) (sym (part_slot at len fits)) (record_of_stands sum size log (site.slot + at) number h body len s);
      }

  -- and behind it, unless it is a Cap
  pub record_reached : (number first at : ℕ) (h : MessageHeader) (body : List ℕ) (len : ℕ) → at + 32 ≤ size → h.kind ≢ Cap → StandsAt sum size log (site.slot + at) number h body len
      → ReadsTo sum size number (part log site.slot size) first at → ReadsTo sum size number (part log site.slot size) first (at + len)
  unfolding record_read
  record_reached number first at h body len room plain s comes = let r = record_read number first at h body len room s comes in reads_past at len h.kind h.pid body comes room plain r.inside r.is
