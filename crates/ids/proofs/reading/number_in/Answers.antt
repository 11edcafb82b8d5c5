use Rattle.std.proofs.Common.{◌∙◌, List, ℕ, subst, sym}
use Rattle.std.specs.Prelude.{IfOk, OnErr}
use Rattle.sled_codec.specs.Spelling.{SpellsNumber}
use Rattle.sled_core.specs.Reading.{GivesMessage}
use Rattle.ids.specs.Readings.{IsNumberIn}
use Rattle.ids.proofs.ReadLemmas.{decoded, inline_read, no_number, on_reason, spells_front, spells_none}
use Rattle.ids.proofs.reading.number_in.Goals as goal

-- The item of the message is decoded.

pub returns-clause-number : goal.returns-clause-number
returns-clause-number g = λ m n gives has.
    let same = g.as_slice.ensures.value ∙ (subst (GivesMessage m) g.in-Inline.is gives).2 in
    let read = decoded g.deserialize.result g.as_slice.result.now _ n (subst (λ (t : List ℕ). SpellsNumber t n) (sym same) has) g.deserialize.ensures.ok g.deserialize.ensures.corrupt g.deserialize.ensures.errors in
    (read.0, on_reason _ g.deserialize.result read.1)

pub returns-clause-spelled : goal.returns-clause-spelled
returns-clause-spelled g = subst (λ r. IfOk g.deserialize.result (IsNumberIn r)) (sym g.in-Inline.is)
    (spells_front g.deserialize.result g.as_slice.result.now g.in-Inline.item.items _ g.as_slice.ensures.value g.deserialize.ensures.ok)

pub returns-clause-none : goal.returns-clause-none
returns-clause-none g = subst (λ r. OnErr g.deserialize.result ((n : ℕ) → IsNumberIn r n → ⊥)) (sym g.in-Inline.is)
    (spells_none g.deserialize.result g.as_slice.result.now g.in-Inline.item.items g.as_slice.ensures.value g.deserialize.ensures.corrupt g.deserialize.ensures.errors)

-- No item was read with its record.

pub returns-in_default-clause-number : goal.returns-in_default-clause-number
returns-in_default-clause-number g = λ m n gives has. (tt, λ inline. inline_read m g.args.read gives inline g.in_default.not-Inline)

pub returns-in_default-clause-none : goal.returns-in_default-clause-none
returns-in_default-clause-none g = λ n is. no_number g.args.read n is g.in_default.not-Inline
