-- Where all slots of a log are own, each header that stands in its file is, and each record that a reader reads there.
use Rattle.std.proofs.Common.{◌≡◌, ◌≢◌, ◌⊎◌, ◌+◌, ◌*◌, ◌/◌, ℕ, ℤ, pos, List, [], ◌∷◌, sym, subst, arith, inl, inr}
use Rattle.std.specs.List.{Contains}
use Rattle.std.proofs.lemmas.Bool.{cases_order}
use Rattle.sled_codec.specs.Places.{part}
use Rattle.sled_codec.specs.Record.{IsHeader}
use Rattle.sled_store.specs.Readers.{Reads}
use Rattle.sled_store.proofs.Segments.Elements.{in_cases, in_first, in_nothing, in_rest}
use Rattle.sled_core.specs.Begun.{SegmentView}
use Rattle.sled_core.specs.inside.LogFile.{padded}
use Rattle.sled_core.specs.inside.OwnLog.{HasOwnSlot, IsOwnFile}
use Rattle.sled_core.proofs.Sealed.Padded.{padded_none}

-- a segment of a line lies in a slot, or none does
in_line_or_not : (size : ℕ) (line : List SegmentView) (slot : ℕ) → ((v : SegmentView) × Contains line v × (v.parts.site.slot ≡ slot * size)) ⊎ ((v : SegmentView) → Contains line v → v.parts.site.slot ≢ slot * size)
in_line_or_not size [] slot = inr (λ v there. absurd (in_nothing v there))
in_line_or_not size (x ∷ xs) slot = elim (in_line_or_not size xs slot) [
  | inl found ↦ inl (found.0, in_rest x found.0 xs found.1, found.2)
  | inr others ↦ elim (cases_order x.parts.site.slot (slot * size)) [
    | inl same ↦ inl (x, in_first x xs, same)
    | inr differs ↦ inr (λ v there. elim (in_cases x v xs there) [
      | inl is ↦ subst (λ (y : SegmentView). y.parts.site.slot ≢ slot * size) is (λ same. elim differs [ inl lower ↦ omega (arith, lower, same) | inr higher ↦ omega (arith, higher, same) ])
      | inr among ↦ others v among
    ])
  ]
]

module _ (sum : List ℕ → ℕ) (size : ℕ) (Header : ℕ → List ℕ → Type 0) (Own : ℕ → ℕ → List ℕ → Type 0) (log : List ℕ) where
  pub all_slots : (line : List SegmentView) → IsOwnFile sum size Header Own log line → ((v : SegmentView) → Contains line v → (slot : ℕ) → v.parts.site.slot ≡ slot * size → HasOwnSlot sum size Header Own log slot)
      → (slot : ℕ) → HasOwnSlot sum size Header Own log slot
  all_slots line own segments slot = elim (in_line_or_not size line slot) [ inl found ↦ segments found.0 found.1 slot found.2 | inr others ↦ own.others slot others ]

  module _ (slot : ℕ) (own : HasOwnSlot sum size Header Own log slot) where
    whole : padded 0 log ≡ log
    whole = padded_none 0 log (omega arith)

    pub header_own : (lsn mark : ℤ) → IsHeader sum (part log (slot * size) 20) lsn mark → Header (slot * size) (part log (slot * size) 20)
    header_own lsn mark is = (own.header 0 lsn mark (subst (λ (l : List ℕ). IsHeader sum (part l (slot * size) 20) lsn mark) (sym whole) is)).1

    pub record_own : (lsn : ℕ) (mark : ℤ) (at len : ℕ) → IsHeader sum (part log (slot * size) 20) (pos lsn) mark → Reads sum size (lsn / size) (part log (slot * size) size) 20 at len → Own (lsn / size) (slot * size + at) (part log (slot * size + at) len)
    record_own lsn mark at len is r = (own.records 0 lsn mark at len is (subst (λ (l : List ℕ). Reads sum size (lsn / size) (part l (slot * size) size) 20 at len) (sym whole) r)).1
