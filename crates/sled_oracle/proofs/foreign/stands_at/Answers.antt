-- What is compared is the part at the offset.
use Rattle.std.proofs.Common.{◌≡◌, ◌∙◌, ℕ, List, length, take, sym, ap}
use Rattle.std.specs.Str.{bytes_eq}
use Rattle.std.proofs.lemmas.List.{take_rest}
use Rattle.std.proofs.lemmas.Slice.Eq.{bytes_eq-Decides}
use Rattle.sled_codec.specs.Places.{part}
use Rattle.sled_oracle.proofs.foreign.stands_at.Goals as goal

pub returns : goal.returns
returns c =
    let bytes : List ℕ = c.args.bytes.now in
    let text : List ℕ = c.args.text.now in
    let there : List ℕ = part bytes c.args.at (length text) in
    let is : c.eq.result ≡ bytes_eq there text = c.eq.ensures ∙ ap (λ (l : List ℕ). bytes_eq (take (length text) l) text) (take_rest bytes c.args.at) in
    (λ t. (bytes_eq-Decides there text).0 (sym is ∙ t), λ p. is ∙ (bytes_eq-Decides there text).1 p)
