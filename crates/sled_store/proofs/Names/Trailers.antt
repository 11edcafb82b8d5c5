-- Bytes are the file of one spelling at most.
use Rattle.std.proofs.Common.{◌≡◌, ◌∙◌, ◌+◌, ◌-◌, ◌≤◌, ℕ, List, ◌++◌, length, take, drop, [], refl, sym, ap, subst, arith, length-append, append_assoc, append-nil, length-drop}
use Rattle.std.proofs.lemmas.List.{drop_all}
use Rattle.sled_codec.specs.Spelling.{low_bytes}
use Rattle.sled_codec.specs.SpellingLaws.{same_fronts, same_rests}
use Rattle.sled_codec.specs.Written.{written, take-written}
use Rattle.sled_codec.specs.Snapshots.{SnapshotModel, SpellsSnapshot}
use Rattle.sled_codec.specs.SnapshotLaws.{one_value-snapshot}
use Rattle.sled_store.specs.SnapshotFiles.{IsSnapshotFile}

module _ (sum : List ℕ → ℕ) where
  -- what stands behind a spelling
  abbrev pub trailer : List ℕ → List ℕ
  trailer text = low_bytes 8 (length text) ++ low_bytes 4 (sum text)

  abbrev pub file_of : List ℕ → List ℕ
  file_of text = text ++ low_bytes 8 (length text) ++ low_bytes 4 (sum text)

  pub with_trailer : (text : List ℕ) → file_of text ≡ text ++ trailer text
  with_trailer text = append_assoc text (low_bytes 8 (length text)) (low_bytes 4 (sum text))

  -- where bytes are a file, their last twelve stand behind the spelling
  pub split_file : (bytes front back text : List ℕ) → bytes ≡ front ++ back → length back ≡ 12 → bytes ≡ file_of text → (text ≡ front) × (trailer text ≡ back)
  split_file bytes front back text is long file =
      let both : text ++ trailer text ≡ front ++ back = sym (with_trailer text) ∙ sym file ∙ is in
      let lengths : length text + 12 ≡ length front + 12 = sym (length-append text (trailer text)) ∙ ap length both ∙ length-append front back ∙ ap (λ n. length front + n) long in
      let same : text ≡ front = same_fronts text front (trailer text) back (omega (arith, lengths)) both in
      (same, same_rests text front (trailer text) back same both)

  pub one_file : (a b : List ℕ) → file_of a ≡ file_of b → a ≡ b
  one_file a b both = (split_file (file_of b) b (trailer b) a (with_trailer b) refl (sym both)).0

  -- a spelling that was written into a buffer, and its trailer over all that stands behind it
  pub laid_out : (old buf text tail : List ℕ) (n : ℕ) → n ≡ 0 + length text → length text ≤ length old → buf ≡ written old 0 text → tail ≡ trailer (take n buf)
      → take n buf ++ (tail ++ drop (length buf - n) (drop n buf)) ≡ file_of text
  laid_out old buf text tail n next room is tail_is =
      let front : take n buf ≡ text = ap (λ m. take m buf) next ∙ ap (take (0 + length text)) is ∙ take-written old 0 text (omega (arith, room)) in
      let end : drop (length buf - n) (drop n buf) ≡ [] = drop_all (length buf - n) (drop n buf) (omega (arith, length-drop n buf)) in
      ap (λ (l : List ℕ). take n buf ++ (tail ++ l)) end
      ∙ ap (λ (l : List ℕ). take n buf ++ l) (append-nil tail ∙ tail_is)
      ∙ ap (λ (l : List ℕ). l ++ trailer l) front
      ∙ sym (with_trailer text)

  -- bytes are the file of one snapshot at most
  pub one_snapshot : (bytes : List ℕ) (s w : SnapshotModel) → IsSnapshotFile sum bytes s → IsSnapshotFile sum bytes w → s ≡ w
  one_snapshot bytes s w a b =
      let same : a.text ≡ b.text = one_file a.text b.text (sym a.is ∙ b.is) in
      one_value-snapshot b.text s w (subst (λ (t : List ℕ). SpellsSnapshot t s) same a.spelled) b.spelled
