-- What is own of the file that a log shows is own of another one that has the same bytes in the slots of the log's segments, and in each other slot, but
-- for those that have zeros now.
use Rattle.std.proofs.Common.{◌≡◌, ◌⊎◌, ◌∙◌, ◌+◌, ◌*◌, ◌/◌, ◌<◌, ◌≤◌, ℕ, pos, List, length-take, drop, get_or, sym, subst, arith}
use Rattle.std.proofs.Common.{inl, inr}
use Rattle.std.specs.List.{Contains}
use Rattle.std.proofs.lemmas.List.Elements.{All-contains}
use Rattle.sled_codec.specs.Places.{part}
use Rattle.sled_codec.specs.Record.{IsHeader}
use Rattle.sled_store.specs.Readers.{IsOwnRange, Reads}
use Rattle.sled_store.proofs.Segments.Elements.{all_from_in}
use Rattle.sled_core.specs.declared.iobuf.Sealed.{Sealed}
use Rattle.sled_core.specs.declared.iobuf.SegmentPosition.{SegmentPosition}
use Rattle.sled_core.specs.Begun.{SegmentView}
use Rattle.sled_core.specs.NoForeign.{NoHeaderOfZeros}
use Rattle.sled_core.specs.inside.LogFile.{padded}
use Rattle.sled_core.specs.inside.OwnLog.{AreWritten, HasOwnSlot, IsOwnFile, IsOwnSegment}
use Rattle.sled_core.proofs.Freed.SameSlots.{SameSlot, slot_beyond, slot_ends, slot_part}
use Rattle.sled_core.proofs.Sealed.Padded.{padded_get}
use Rattle.sled_core.proofs.Torn.WrittenBegun.{none_in_zeros}

module _ (sum : List ℕ → ℕ) (none : NoHeaderOfZeros sum) (size : ℕ) (some : 256 ≤ size) (Header : ℕ → List ℕ → Type 0) (Own : ℕ → ℕ → List ℕ → Type 0)
    (old new : List ℕ) where
  -- A part of such a slot is the same, also with zeros behind the file's end.
  module _ (k : ℕ) (same : SameSlot size old new k) (at len : ℕ) (low : k * size ≤ at) (high : at + len ≤ k * size + size) where
    file_part : part new at len ≡ part old at len
    file_part = slot_part size old new k same at len low high

    beyond_part : (to : ℕ) → part (padded to new) at len ≡ part (padded to old) at len
    beyond_part to = slot_part size (padded to old) (padded to new) k (slot_beyond size old new k same to) at len low high

  slot_same : (k : ℕ) → SameSlot size old new k → HasOwnSlot sum size Header Own old k → HasOwnSlot sum size Header Own new k
  slot_same k same has = record {
    header = λ to lsn mark is.
        let its = has.header to lsn mark
        (subst (λ (l : List ℕ). IsHeader sum l lsn mark) (beyond_part k same (k * size) 20 (omega arith) (omega (arith, some)) to) is) in (
          slot_ends size old new k same (k * size + 20) (omega (arith, some)) its.0,
          subst (Header (k * size)) (sym (file_part k same (k * size) 20 (omega arith) (omega (arith, some)))) its.1,
        );
    records = λ to lsn mark at len is r.
        let its = has.records to lsn mark at len
        (subst (λ (l : List ℕ). IsHeader sum l (pos lsn) mark) (file_part k same (k * size) 20 (omega arith) (omega (arith, some))) is)
        (subst (λ (l : List ℕ). Reads sum size (lsn / size) l 20 at len) (beyond_part k same (k * size) size (omega arith) (omega arith) to) r) in
        let inside = r.inside in
        let fits : at + len ≤ size = omega (arith, inside, length-take size (drop (k * size) (padded to new))) in (
          slot_ends size old new k same (k * size + at + len) (omega (arith, fits)) its.0,
          subst (Own (lsn / size) (k * size + at)) (sym (file_part k same (k * size + at) len (omega arith) (omega (arith, fits)))) its.1,
        );
  }

  -- A slot of zeros has nothing.
  slot_zeros : (k : ℕ) → ((i : ℕ) → k * size ≤ i → i < k * size + size → get_or new i 0 ≡ 0) → HasOwnSlot sum size Header Own new k
  slot_zeros k zeros = record {
    header = λ to lsn mark is.
        absurd (none_in_zeros sum size none (omega (arith, some)) (padded to new) (k * size)
        (λ i low high. padded_get to new i ∙ zeros i low high) lsn mark is);
    records = λ to lsn mark at len is r. absurd (none_in_zeros sum size none (omega (arith, some)) new (k * size) zeros (pos lsn) mark is);
  }

  segment_same : (site : SegmentPosition) (from : ℕ) (bs : List Sealed) → part new site.slot size ≡ part old site.slot size
      → IsOwnSegment sum size Header Own old site from bs → IsOwnSegment sum size Header Own new site from bs
  segment_same site from bs same its = record {
    front = λ later. subst (λ (t : List ℕ). IsOwnRange sum size Header Own (site.place / size) site.slot t 0 from) (sym same) (its.front later);
    behind = subst (λ (t : List ℕ). AreWritten (IsOwnRange sum size Header Own (site.place / size) site.slot t) from bs) (sym same) its.behind;
  }

  -- So all that is read of it is own.
  pub placed_same : (line : List SegmentView) → ((v : SegmentView) → Contains line v → (k : ℕ) × (v.parts.site.slot ≡ k * size) × SameSlot size old new k)
      → ((k : ℕ) → SameSlot size old new k ⊎ ((i : ℕ) → k * size ≤ i → i < k * size + size → get_or new i 0 ≡ 0))
      → IsOwnFile sum size Header Own old line → IsOwnFile sum size Header Own new line
  placed_same line own each file = record {
    segments = all_from_in (λ v. IsOwnSegment sum size Header Own new v.parts.site v.parts.written_len v.parts.sealed) line (λ v there.
        let (k, lies, same) = own v there in
        segment_same v.parts.site v.parts.written_len v.parts.sealed
        (file_part k same v.parts.site.slot size (omega (arith, lies)) (omega (arith, lies)))
        (All-contains (λ u. IsOwnSegment sum size Header Own old u.parts.site u.parts.written_len u.parts.sealed) line v file.segments there));
    others = λ k beside. elim (each k) [ inl same ↦ slot_same k same (file.others k beside) | inr zeros ↦ slot_zeros k zeros ];
  }
