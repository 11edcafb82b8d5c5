-- Bytes that are put over others for a while, and what stands then behind what is before them.
use Rattle.std.proofs.Common.{◌≡◌, ◌∙◌, ◌+◌, ◌-◌, ◌≤◌, ℕ, List, ◌++◌, length, take, drop, ap, sym, arith, append_assoc, length-take, length-drop}
use Rattle.std.proofs.lemmas.List.{drop-drop, take-take, take_at, drop-append-le, take-append-le, take-append-drop}
use Rattle.sled_codec.specs.Places.{part}
use Rattle.sled_codec.specs.Written.{written, drop-written}
use Rattle.sled_core.proofs.Reserve.Parts.{mid_is}
use Rattle.sled_core.proofs.Reserve.Placeholders.{take_behind}

module _ (bytes : List ℕ) (end count : ℕ) (room : end + count ≤ length bytes) where
  pub part_long : (at : ℕ) → at ≤ end → length (part bytes at count) ≡ count
  part_long at le = omega (arith, le, room, length-take count (drop at bytes), length-drop at bytes)

  -- what stood there is put back
  pub put_back : (chunk : List ℕ) → length chunk ≡ count → written (written bytes end chunk) end (part bytes end count) ≡ bytes
  put_back chunk long =
      let within : end + length chunk ≤ length bytes = omega (arith, long, room) in
      let back = part_long end (omega arith) in
      let front : take end (written bytes end chunk) ≡ take end bytes =
      ap (take end) (append_assoc (take end bytes) chunk (drop (end + length chunk) bytes)) ∙ take_at (take end bytes) (chunk ++ drop (end + length chunk) bytes) end (omega (arith, room, length-take end bytes)) in
      let rest : drop (end + length (part bytes end count)) (written bytes end chunk) ≡ drop (end + count) bytes =
      drop-written bytes end chunk within (end + length (part bytes end count)) 0 (omega (arith, long, back)) ∙ ap (λ n. drop (end + n) bytes) back in
      ap (λ (l : List ℕ). l ++ part bytes end count ++ drop (end + length (part bytes end count)) (written bytes end chunk)) front
      ∙ ap (λ (l : List ℕ). take end bytes ++ part bytes end count ++ l) rest
      ∙ append_assoc (take end bytes) (part bytes end count) (drop (end + count) bytes)
      ∙ ap (λ (l : List ℕ). take end bytes ++ l) (ap (λ (l : List ℕ). part bytes end count ++ l) (sym (drop-drop count end bytes)) ∙ take-append-drop count (drop end bytes))
      ∙ take-append-drop end bytes

  -- from an index before it on stand the bytes up to it, and then a front of what was put there
  pub behind_it : (at tail len k : ℕ) → at ≤ end → tail ≤ end → k ≤ count → len ≡ end + k - at → take len (drop at (written bytes end (part bytes tail count))) ≡ part bytes at (end - at) ++ part bytes tail k
  behind_it at tail len k before early short is =
      let chunk : List ℕ = part bytes tail count in
      let rest : List ℕ = drop (end + length chunk) bytes in
      let long = part_long tail early in
      let within : length (take end bytes) ≡ end = omega (arith, room, length-take end bytes) in
      let body : List ℕ = part bytes at (end - at) in
      let body_long : length body ≡ end - at = omega (arith, before, room, length-take (end - at) (drop at bytes), length-drop at bytes) in
      ap (λ (l : List ℕ). take len (drop at l)) (append_assoc (take end bytes) chunk rest)
      ∙ ap (take len) (drop-append-le at (take end bytes) (chunk ++ rest) (omega (arith, within, before)) ∙ ap (λ (l : List ℕ). l ++ (chunk ++ rest)) (sym (mid_is bytes at end before)))
      ∙ take_behind body (chunk ++ rest) len k (omega (arith, body_long, is, before))
      ∙ ap (λ (l : List ℕ). body ++ l) (take-append-le k chunk rest (omega (arith, long, short)) ∙ take-take k count (drop tail bytes) short)
