-- The kind of the code has that code again, or no kind has it.
use Rattle.std.proofs.Common.{◌≡◌, ◌∙◌, ℕ, sym, ap}
use Rattle.std.proofs.lemmas.Bool.Decides.{Decides-eqb}
use Rattle.sled_codec.specs.Kinds.{code_of, kind_of}
use Rattle.sled_oracle.proofs.OwnBlobs.{blob_of_kind, kind_of_blob}
use Rattle.sled_oracle.proofs.own.is_blob.Goals as goal

pub returns-in-Some : goal.returns-in-Some
returns-in-Some g c =
    let code : ℕ = c.in-Some.code in
    let found = c.in-Some.ensures.found in
    let told : c.from-in-Some.result ≡ code_of (kind_of code) = c.from-in-Some.ensures ∙ ap code_of c.from.ensures in (
      λ t. blob_of_kind g.C.Checksum.sum_of c.args.bytes.now code found.0 found.1 (sym told ∙ (Decides-eqb c.from-in-Some.result code).0 t),
      λ some. (Decides-eqb c.from-in-Some.result code).1 (told ∙ kind_of_blob g.C.Checksum.sum_of c.args.bytes.now code found.0 found.1 some),
    )

pub returns-in-None : goal.returns-in-None
returns-in-None g c = (λ t. cc, λ some. absurd (c.in-None.ensures.none (code_of some.0) some.1 some.2))
