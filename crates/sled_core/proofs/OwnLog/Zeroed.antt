-- Zeros are written over the rest of a slot, from where a reader comes to, or over all of it: what is read of that slot is own, and so is what is read of each other one, as it was.
use Rattle.std.proofs.Common.{◌≡◌, ◌≢◌, ◌∙◌, ◌≤◌, ◌<◌, ◌+◌, ◌*◌, ◌/◌, ℕ, ℤ, pos, List, [], ◌∷◌, length, drop, replicate, sym, refl, subst, arith, inl, inr, length-take, length-drop}
use Rattle.std.proofs.lemmas.Bool.{cases_lt, cases_order}
use Rattle.sled_codec.specs.Places.{part}
use Rattle.sled_codec.specs.Record.{IsHeader}
use Rattle.sled_store.specs.Device.{overwritten}
use Rattle.sled_store.specs.Readers.{Reads, ReadsTo}
use Rattle.sled_store.proofs.LogFile.LooseLemmas.{end_of-some}
use Rattle.sled_store.proofs.LogFile.OverwrittenLemmas.{length-overwritten}
use Rattle.sled_store.proofs.Segments.FilledLemmas.{slot_before}
use Rattle.sled_core.specs.inside.OwnLog.{HasOwnSlot, ReadsOwn}
use Rattle.sled_core.specs.Recoverable.{NoHeaderOfZeros}
use Rattle.sled_core.proofs.OwnLog.AllSlots.{header_own, record_own}
use Rattle.sled_core.proofs.OwnLog.Kept.{HeadersStay, RecordsStay, part_in, range_kept, same_parts}
use Rattle.sled_core.proofs.OwnLog.SlotEnds.{slot_unbegun}
use Rattle.sled_core.proofs.OwnLog.SlotOfRange.{range_before, slot_of_range}
use Rattle.sled_core.proofs.Tail.LogFileLemmas.{part_kept}
use Rattle.sled_core.proofs.Sealed.OneWritten.{overwritten_beside}
use Rattle.sled_core.proofs.Torn.ZeroedSlots.{zeros_read}

-- parts of files that both end before are empty
both_ended : (xs ys : List ℕ) (from n : ℕ) → length xs ≤ from → length ys ≤ from → part xs from n ≡ part ys from n
both_ended xs ys from n first second = ended xs first ∙ sym (ended ys second) where
  none : (l : List ℕ) → length l ≡ 0 → l ≡ []
  none [] is = refl
  none (x ∷ l) is = absurd (omega (arith, is))

  ended : (l : List ℕ) → length l ≤ from → part l from n ≡ []
  ended l low = none (part l from n) (omega (arith, low, length-take n (drop from l), length-drop from l))

-- What is read with zeros behind the file's end is read of the file.
pub own_read : (sum : List ℕ → ℕ) (size : ℕ) (Header : ℕ → List ℕ → Type 0) (Own : ℕ → ℕ → List ℕ → Type 0) (log : List ℕ) (slot : ℕ) → HasOwnSlot sum size Header Own log slot → ReadsOwn sum size Header Own log slot
own_read sum size Header Own log slot own = record { header = header_own sum size Header Own log slot own; records = record_own sum size Header Own log slot own }

-- A write within one slot.
module _ (sum : List ℕ → ℕ) (size : ℕ) (Header Header' : ℕ → List ℕ → Type 0) (Own Own' : ℕ → ℕ → List ℕ → Type 0) (log : List ℕ) (at : ℕ) (xs : List ℕ) (some : 0 < length xs) (big : 20 ≤ size)
    (headers : HeadersStay sum size Header Header' Own Own' log at xs some big) (records : RecordsStay sum size Header Header' Own Own' log at xs some big) (slot : ℕ) (low : slot * size ≤ at) (high : at + length xs ≤ slot * size + size) (there : slot * size ≤ length log) where
  abbrev new : List ℕ
  new = overwritten log at xs

  -- Each other slot is as it was,
  other_same : (j : ℕ) → j ≢ slot → (i n : ℕ) → j * size ≤ i → i + n ≤ j * size + size → part new i n ≡ part log i n
  other_same j other i n above below = elim (cases_order j slot) [
    | inl same ↦ absurd (other same)
    | inr (inl before) ↦ (let far = slot_before size j slot before in part_kept sum size log at xs i n (omega (arith, far, below, there)) (inl (omega (arith, far, below, low))))
    | inr (inr behind) ↦ (
        let far = slot_before size slot j behind in
        elim (cases_lt (length log) (slot * size + size)) [
          | inl short ↦ both_ended new log i n (omega (arith, short, far, high, above, length-overwritten log at xs, end_of-some at (length xs) some)) (omega (arith, short, far, above))
          | inr long ↦ same_parts new log i n (omega (arith, long, high, length-overwritten log at xs, end_of-some at (length xs) some)) (λ k over under. overwritten_beside log at xs k some (inr (omega (arith, far, high, above, over))))
        ])
  ]

  -- so what is read of it is own still.
  pub other_own : (j : ℕ) → j ≢ slot → ReadsOwn sum size Header Own log j → ReadsOwn sum size Header' Own' new j
  other_own j other own =
      let same = other_same j other in
      let head : part new (j * size) 20 ≡ part log (j * size) 20 = same (j * size) 20 (omega arith) (omega (arith, big)) in
      record {
        header = λ lsn mark is. subst (Header' (j * size)) (sym head) (headers (j * size) (part log (j * size) 20) head (own.header lsn mark (subst (λ (l : List ℕ). IsHeader sum l lsn mark) head is)));
        records = λ lsn mark from len is r.
            let inside = r.inside in
            let fits : from + len ≤ size = omega (arith, inside, length-take size (drop (j * size) new)) in
            let stands : part new (j * size + from) len ≡ part log (j * size + from) len = same (j * size + from) len (omega arith) (omega (arith, fits)) in
            subst (Own' (lsn / size) (j * size + from)) (sym stands)
            (records (lsn / size) (j * size + from) len (part log (j * size + from) len) stands
            (own.records lsn mark from len (subst (λ (l : List ℕ). IsHeader sum l (pos lsn) mark) head is) (subst (λ (l : List ℕ). Reads sum size (lsn / size) l 20 from len) (same (j * size) size (omega arith) (omega arith)) r)));
      }

-- Zeros over the rest of a slot.
module _ (sum : List ℕ → ℕ) (size : ℕ) (Header Header' : ℕ → List ℕ → Type 0) (Own Own' : ℕ → ℕ → List ℕ → Type 0) (log : List ℕ) (slot from count : ℕ) (some : 0 < length (replicate {A = ℕ} count 0)) (big : 32 ≤ size) (twenty : 20 ≤ size)
    (headers : HeadersStay sum size Header Header' Own Own' log (slot * size + from) (replicate count 0) some twenty) (records : RecordsStay sum size Header Header' Own Own' log (slot * size + from) (replicate count 0) some twenty) (all : from + count ≡ size) where
  abbrev filled : List ℕ
  filled = overwritten log (slot * size + from) (replicate count 0)

  pub slot_filled : (place : ℕ) (mark : ℤ) → IsHeader sum (part log (slot * size) 20) (pos place) mark → 20 ≤ from → from ≤ length (part log (slot * size) size) → ReadsTo sum size (place / size) (part log (slot * size) size) 20 from
      → ReadsOwn sum size Header Own log slot → HasOwnSlot sum size Header' Own' filled slot
  slot_filled place mark header low inside comes own =
      let text : List ℕ = part log (slot * size) size in
      let short : from ≤ size = omega (arith, all) in
      let before = range_before sum size Header Own big log slot place from (own.header (pos place) mark header) low inside comes (λ at len r.
      let in_text = r.inside in
      let fits : at + len ≤ size = omega (arith, in_text, length-take size (drop (slot * size) log)) in
      subst (Own (place / size) (slot * size + at)) (sym (part_in size log (slot * size) at len fits)) (own.records place mark at len header r)) in
      let now = range_kept sum size Header Header' Own Own' log (slot * size + from) (replicate count 0) some twenty headers records (place / size) (slot * size) 0 from short (inl (omega arith)) before in
      let in_file : slot * size + 20 ≤ length log = omega (arith, low, inside, length-take size (drop (slot * size) log), length-drop (slot * size) log) in
      let head : part filled (slot * size) 20 ≡ part log (slot * size) 20 = part_kept sum size log (slot * size + from) (replicate count 0) (slot * size) 20 in_file (inl (omega (arith, low))) in
      slot_of_range sum size Header' Own' big filled slot place from (λ room. zeros_read log (slot * size + from) count (slot * size + from + 4) (omega arith) (omega (arith, all, room))) now mark
      (subst (λ (l : List ℕ). IsHeader sum l (pos place) mark) (sym head) header)

  -- over all of it
  pub slot_zeroed : NoHeaderOfZeros sum → from ≡ 0 → HasOwnSlot sum size Header' Own' filled slot
  slot_zeroed none begins = slot_unbegun sum size Header' Own' filled slot none (λ i above below. zeros_read log (slot * size + from) count i (omega (arith, above, begins)) (omega (arith, below, begins, all, big)))
