-- A record's placeholder is written over zeros behind a text, with the header behind its sum once more behind it, for the checksum.
use Rattle.std.proofs.Common.{◌≡◌, ◌≤◌, ◌+◌, ◌-◌, ◌∙◌, ◌++◌, ℕ, List, length, take, drop, replicate, sym, ap, arith, refl, append_assoc, length-append, length-take, length-drop}
use Rattle.std.proofs.lemmas.List.{take_at, take-take, take-append-drop, drop_at, drop-take, take-append-le, drop-append-le, drop-drop, length-replicate}
use Rattle.sled_codec.specs.Written.{written, take-written}
use Rattle.sled_core.specs.inside.Buffers.{placeholder_head}
use Rattle.sled_core.proofs.Reserve.Parts.{mid_is}

-- what stands behind a first part, up to an end within it
pub take_behind : (xs ys : List ℕ) (n k : ℕ) → n ≡ length xs + k → take n (xs ++ ys) ≡ xs ++ take k ys
take_behind xs ys n k is =
    ap (λ m. take m (xs ++ ys)) is
    ∙ sym (take-append-drop (length xs) (take (length xs + k) (xs ++ ys)))
    ∙ ap (λ (l : List ℕ). l ++ drop (length xs) (take (length xs + k) (xs ++ ys))) (take-take (length xs) (length xs + k) (xs ++ ys) (omega arith) ∙ take_at xs ys (length xs) refl)
    ∙ ap (λ (l : List ℕ). xs ++ l) (drop-take (length xs) k (xs ++ ys) ∙ ap (take k) (drop_at xs ys (length xs) refl))

-- A whole header, over which zeros are written, is its placeholder as far as it goes.
pub head_placed : (buf head : List ℕ) (at len : ℕ) → length head ≡ 32 → 5 ≤ len → len ≤ 32 → at + 32 ≤ length buf
    → take (at + len) (written (written buf at head) at (replicate 5 0)) ≡ take at buf ++ placeholder_head (take len head)
head_placed buf head at len long least most room =
    let zeros : List ℕ = replicate 5 0 in
    let first : List ℕ = take at buf in
    let rest : List ℕ = drop (at + length head) buf in
    let at_long : length first ≡ at = omega (arith, length-take at buf) in
    let front : take at (written buf at head) ≡ first = ap (take at) (append_assoc first head rest) ∙ take_at first (head ++ rest) at at_long in
    let behind : drop (at + 5) (written buf at head) ≡ drop 5 head ++ rest =
    sym (drop-drop 5 at (written buf at head)) ∙ ap (λ (l : List ℕ). drop 5 (drop at l)) (append_assoc first head rest) ∙ ap (drop 5) (drop_at first (head ++ rest) at at_long)
    ∙ drop-append-le 5 head rest (omega (arith, long)) in
    let whole : written (written buf at head) at zeros ≡ (first ++ zeros) ++ (drop 5 head ++ rest) =
    ap (λ (l : List ℕ). l ++ zeros ++ drop (at + 5) (written buf at head)) front ∙ ap (λ (l : List ℕ). first ++ zeros ++ l) behind in
    ap (take (at + len)) whole
    ∙ take_behind (first ++ zeros) (drop 5 head ++ rest) (at + len) (len - 5) (omega (arith, length-append first zeros, at_long, least))
    ∙ ap (λ (l : List ℕ). (first ++ zeros) ++ l) (take-append-le (len - 5) (drop 5 head) rest (omega (arith, length-drop 5 head, long, most)) ∙ mid_is head 5 len least)
    ∙ append_assoc first zeros (drop 5 (take len head))

-- The placeholder's head was written into a text, then the item behind it and, behind that, what is summed of the header.
module _ (buf headed itemed tailed head item : List ℕ) (at len : ℕ) (long : length head ≡ 32) (most : len ≤ 32) (least : 5 ≤ len)
    (room : at + len + length item + 32 ≤ length buf)
    (front : take (at + len) headed ≡ take at buf ++ placeholder_head (take len head)) (same : length headed ≡ length buf)
    (over : itemed ≡ written headed (at + len) item) (behind : tailed ≡ written itemed (at + len + length item) (drop 4 head)) where
  abbrev laid : List ℕ
  laid = take at buf ++ placeholder_head (take len head)

  laid_long : length laid ≡ at + len
  laid_long = omega (
    arith,
    length-append (take at buf) (placeholder_head (take len head)),
    length-append (replicate 5 0) (drop 5 (take len head)),
    length-replicate {A = ℕ} 5 0,
    length-drop 5 (take len head),
    length-take len head,
    length-take at buf,
    long,
    most,
    least,
    room,
  )

  -- up to the end of the item
  itemed_front : take (at + len + length item) itemed ≡ laid ++ item
  itemed_front =
      ap (take (at + len + length item)) over
      ∙ take-written headed (at + len) item (omega (arith, same, room))
      ∙ ap (λ (l : List ℕ). l ++ item) front

  abbrev last : List ℕ
  last = drop (at + len + length item + length (drop 4 head)) itemed

  tailed_is : tailed ≡ (laid ++ item) ++ (drop 4 head ++ last)
  tailed_is = behind ∙ ap (λ (l : List ℕ). l ++ drop 4 head ++ last) itemed_front ∙ append_assoc (laid ++ item) (drop 4 head) last

  -- the placeholder
  pub placed_is : (end : ℕ) → end ≡ at + len + length item → take end tailed ≡ take at buf ++ placeholder_head (take len head) ++ item
  placed_is end is = ap (take end) tailed_is ∙ take_at (laid ++ item) (drop 4 head ++ last) end (omega (arith, length-append laid item, laid_long, is))

  -- what is summed
  pub summed_is : (body stop : ℕ) → body ≡ at + len → stop ≡ body + length item + len - 4 → take (stop - body) (drop body tailed) ≡ item ++ drop 4 (take len head)
  summed_is body stop here up_to =
      let count : stop - body ≡ length item + (len - 4) = omega (arith, up_to, least) in
      ap (λ (l : List ℕ). take (stop - body) (drop body l)) (tailed_is ∙ append_assoc laid item (drop 4 head ++ last))
      ∙ ap (take (stop - body)) (drop_at laid (item ++ (drop 4 head ++ last)) body (laid_long ∙ sym here))
      ∙ take_behind item (drop 4 head ++ last) (stop - body) (len - 4) count
      ∙ ap (λ (l : List ℕ). item ++ l) (take-append-le (len - 4) (drop 4 head) last (omega (arith, length-drop 4 head, long, most)) ∙ mid_is head 4 len (omega (arith, least)))
