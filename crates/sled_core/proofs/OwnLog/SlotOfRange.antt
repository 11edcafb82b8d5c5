-- A slot is own whose header is, and what is read of it up to an offset, where it has a zero behind that in place of a kind: nothing is read there.
use Rattle.std.proofs.Common.{◌≡◌, ◌∙◌, ◌≤◌, ◌<◌, ◌+◌, ◌*◌, ◌/◌, ℕ, ℤ, pos, List, length, take, drop, get_or, sym, ap, refl, subst, arith, inl, inr, length-take}
use Rattle.std.proofs.lemmas.Bool.{cases_lt}
use Rattle.std.proofs.lemmas.List.{get_or-take, get_or-drop, take-take}
use Rattle.sled_codec.specs.Places.{part}
use Rattle.sled_codec.specs.Record.{IsHeader}
use Rattle.sled_store.specs.Readers.{Reads, ReadsTo, IsOwnRange}
use Rattle.sled_store.proofs.Own.NoRecord.{reads_none}
use Rattle.sled_store.proofs.Own.ReaderLemmas.{no_lower, reads_apart}
use Rattle.sled_core.specs.inside.OwnLog.{HasOwnSlot}
use Rattle.sled_core.proofs.OwnLog.SlotEnds.{OwnTo, ends_zero, own_to_end, own_whole, slot_has}

module _ (sum : List ℕ → ℕ) (size : ℕ) (Header : ℕ → List ℕ → Type 0) (Own : ℕ → ℕ → List ℕ → Type 0) (big : 32 ≤ size) (log : List ℕ) (slot place from : ℕ) where
  abbrev text : List ℕ
  text = part log (slot * size) size

  module _ (zero_kind : from + 32 ≤ size → get_or log (slot * size + from + 4) 0 ≡ 0) (range : IsOwnRange sum size Header Own (place / size) (slot * size) text 0 from) where
    -- What is read of it in the file is own.
    own_there : OwnTo sum size Header Own log slot (place / size) from
    own_there at len low r = elim (cases_lt from size) [
      | inl below ↦ elim (reads_apart sum size (place / size) text 20 from at len (range.comes below) r) [
        | inl inside ↦ range.own at len r inside
        | inr on ↦ absurd (
            let up = no_lower sum size (place / size) text from at on.comes in
            let here : at ≡ from = omega (arith, up, low) in
            let room = on.room in
            let short : from + 4 < size = omega (arith, room, here) in
            let offset : slot * size + (from + 4) ≡ slot * size + from + 4 = omega arith in
            let same : at + 4 ≡ from + 4 = omega (arith, here) in
            reads_none sum size (place / size) text from at len
            (ap (λ n. get_or text n 0) same ∙ get_or-take size (drop (slot * size) log) (from + 4) 0 short ∙ get_or-drop (slot * size) log (from + 4) 0 ∙ ap (λ n. get_or log n 0) offset ∙ zero_kind (omega (arith, room, here))) on)
      ]
      | inr whole ↦ (
          let inside = r.inside in
          range.own at len r (omega (arith, inside, whole, length-take size (drop (slot * size) log))))
    ]

    pub slot_of_range : (mark : ℤ) → IsHeader sum (part log (slot * size) 20) (pos place) mark → HasOwnSlot sum size Header Own log slot
    slot_of_range mark header =
        let front : take 20 text ≡ part log (slot * size) 20 = take-take 20 size (drop (slot * size) log) (omega (arith, big)) in
        let there = range.there in
        slot_has sum size Header Own log slot place mark header (subst (Header (slot * size)) front (range.headed refl)) (elim (cases_lt from size) [
          | inl below ↦ own_to_end sum size Header Own log slot (place / size) from own_there there (range.comes below) (ends_zero sum size Header Own log slot (place / size) from zero_kind)
          | inr whole ↦ own_whole sum size Header Own log slot (place / size) from own_there (omega (arith, there, whole)) whole
        ])

  -- What is read of a slot up to an offset that a reader comes to is such a range, where all that is read of it is own.
  pub range_before : Header (slot * size) (part log (slot * size) 20) → 20 ≤ from → from ≤ length text → ReadsTo sum size (place / size) text 20 from
      → ((at len : ℕ) → Reads sum size (place / size) text 20 at len → Own (place / size) (slot * size + at) (part text at len)) → IsOwnRange sum size Header Own (place / size) (slot * size) text 0 from
  range_before placed low inside comes own = record {
    there = inside;
    rises = low;
    headed = λ none. subst (Header (slot * size)) (sym (take-take 20 size (drop (slot * size) log) (omega (arith, big)))) placed;
    comes = λ below. comes;
    own = λ at len r fits. own at len r;
  }
