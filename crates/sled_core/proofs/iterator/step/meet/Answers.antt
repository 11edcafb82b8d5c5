use Rattle.std.proofs.Common.{◌≡◌, ◌∙◌, ◌+◌, ◌-◌, ℕ, List, ap, refl, subst, arith}
use Rattle.sled_codec.specs.declared.serialization.message.MessageHeader.{MessageHeader}
use Rattle.sled_codec.specs.Places.{part}
use Rattle.sled_core.specs.Scan.{EndsThere, IsMet, Says}
use Rattle.sled_core.proofs.iterator.step.meet.Goals as goal

pub returns-in-None-clause-step : goal.returns-in-None-clause-step
unfolding EndsThere
returns-in-None-clause-step g c = c.in-None.ensures.none

pub returns-in-Ok-Some-clause-step : goal.returns-in-Ok-Some-clause-step
unfolding IsMet
returns-in-Ok-Some-clause-step g c =
    let at : ℕ = c.args.at in
    let h : MessageHeader = c.in-Some.found.0 in
    let n : ℕ = c.in-Some.found.1 in
    let items : List ℕ = c.args.buf.now.buf.items in
    let count : at + (n + h.len) - (at + n) ≡ h.len = omega arith in
    let body : part c.deref.result.now (at + n) (at + (n + h.len) - (at + n)) ≡ part items (at + n) h.len =
    ap (λ (l : List ℕ). part l (at + n) (at + (n + h.len) - (at + n))) (c.deref.ensures.value ∙ c.stands_at.ensures.bytes) ∙ ap (part items (at + n)) count in
    let says = rw c.in-Ok-Some.field-0-is at c.in-Ok-Some.ensures.says in (
      refl,
      (
        h,
        part items (at + n) h.len,
        c.in-Some.ensures.stands,
        subst (λ (l : List ℕ). Says h l (c.args.buf.now.offset + at) c.in-Ok-Some.what) body
            (subst (λ o. Says h (part c.deref.result.now (at + n) (at + (n + h.len) - (at + n))) (o + at) c.in-Ok-Some.what) c.stands_at.ensures.offset says),
      ),
    )

pub returns-in-Ok-Some-clause-room : goal.returns-in-Ok-Some-clause-room
returns-in-Ok-Some-clause-room g c =
    let headed = c.in-Some.ensures.headed in
    let in_slot = c.in-Some.ensures.in_slot in
    (omega (arith, headed), omega (arith, in_slot))

pub returns-in-Ok-None-clause-step : goal.returns-in-Ok-None-clause-step
unfolding EndsThere
returns-in-Ok-None-clause-step g c =
    let h : MessageHeader = c.in-Some.found.0 in
    let n : ℕ = c.in-Some.found.1 in
    (h, part c.args.buf.now.buf.items (c.args.at + n) h.len, n + h.len, c.in-Some.ensures.stands, rw c.in-Ok-None.field-0-is at c.in-Ok-None.ensures.says)
