-- A part of a slot is a part of the file.
use Rattle.std.proofs.Common.{◌≡◌, ◌≤◌, ◌+◌, ◌-◌, ◌∙◌, ℕ, List, take, drop, ap, arith}
use Rattle.std.proofs.lemmas.List.{drop-take, drop-drop, take-take}
use Rattle.sled_codec.specs.Places.{part}

pub part_in_slot : (log : List ℕ) (size begin at len : ℕ) → at + len ≤ size → part (part log begin size) at len ≡ part log (begin + at) len
part_in_slot log size begin at len fits =
    let split : size ≡ at + (size - at) = omega (arith, fits) in
    let rest : len ≤ size - at = omega (arith, fits) in
    ap (λ n. take len (drop at (take n (drop begin log)))) split
    ∙ ap (take len) (drop-take at (size - at) (drop begin log))
    ∙ take-take len (size - at) (drop at (drop begin log)) rest
    ∙ ap (take len) (drop-drop at begin log)
