-- A reader of the records of one number comes to one offset after another: where it goes on, one record begins.
use Rattle.std.proofs.Common.{◌≡◌, ◌≤◌, ◌<◌, ◌+◌, ◌∙◌, ℕ, zero, suc, List, length, drop, sym, ap, subst, arith, inl, inr, length-append, length-take, length-drop}
use Rattle.std.proofs.lemmas.Bool.{cases_lt}
use Rattle.std.proofs.lemmas.List.{take-append-drop}
use Rattle.sled_codec.specs.declared.serialization.message.MessageKind.{MessageKind}
use Rattle.sled_codec.specs.HeaderLaws.{length-message_header}
use Rattle.sled_codec.specs.Places.{part}
use Rattle.sled_codec.specs.Record.{IsRecord}
use Rattle.sled_codec.proofs.Records.{one_record}
use Rattle.sled_store.specs.Foreign.{IsReached, at_first, behind}
use Rattle.sled_store.specs.Readers.{BeginsAt}

-- a record is no shorter than the shortest header of one
pub record_some : (sum : List ℕ → ℕ) (text : List ℕ) (kind : MessageKind) (page number : ℕ) (body : List ℕ) → IsRecord sum text kind page number body → 8 ≤ length text
record_some sum text kind page number body r = let some = length-message_header r.header _ r.spelled in omega (arith, some, ap length r.is, length-append r.header body)

module _ (sum : List ℕ → ℕ) (size number : ℕ) where
  -- where a record stands one begins
  pub begins : (text : List ℕ) (at len : ℕ) (kind : MessageKind) (page : ℕ) (body : List ℕ) → at + len ≤ length text → IsRecord sum (part text at len) kind page number body → BeginsAt sum number text at len
  begins text at len kind page body fits rec =
      let some = record_some sum (part text at len) kind page number body rec in
      record { kind = kind; page = page; body = body; is = rec; some = omega (arith, some, length-take len (drop at text)); inside = fits }

  -- records at one offset are one
  pub same_record : (text : List ℕ) (at len len' : ℕ) (kind : MessageKind) (page : ℕ) (body : List ℕ) (kind' : MessageKind) (page' : ℕ) (body' : List ℕ)
      → IsRecord sum (part text at len) kind page number body → IsRecord sum (part text at len') kind' page' number body' → part text at len ≡ part text at len'
  same_record text at len len' kind page body kind' page' body' p q =
      one_record sum (part text at len) (part text at len') (drop len (drop at text)) (drop len' (drop at text)) kind kind' page page' number number body body' p q
      (take-append-drop len (drop at text) ∙ sym (take-append-drop len' (drop at text)))

  pub same_len : (text : List ℕ) (at len len' : ℕ) → BeginsAt sum number text at len → BeginsAt sum number text at len' → len ≡ len'
  same_len text at len len' a b =
      let same = ap length (same_record text at len len' a.kind a.page a.body b.kind b.page b.body a.is b.is) in
      omega (arith, same, a.inside, b.inside, length-take len (drop at text), length-take len' (drop at text), length-drop at text)

  pub no_less : (text : List ℕ) (first at : ℕ) → IsReached sum size number text first at → first ≤ at
  no_less text first at at_first = omega arith
  no_less text first at (behind from len kind page body reached fits rec) = let le = no_less text first from reached in omega (arith, le)

  -- a reader that goes on from an offset finds a record there first
  pub first_step : (text : List ℕ) (first at : ℕ) → IsReached sum size number text first at → first < at → (len : ℕ) × BeginsAt sum number text first len × (first + len ≤ at)
  first_step text first at at_first less = absurd (omega (arith, less))
  first_step text first at (behind from len kind page body reached fits rec) less = elim (cases_lt first from) [
    | inl more ↦ (let found = first_step text first from reached more in (found.0, found.1, let le = found.2 in omega (arith, le)))
    | inr last ↦ (
        let le = no_less text first from reached in
        let here : from ≡ first = omega (arith, le, last) in
        (len, subst (λ n. BeginsAt sum number text n len) here (begins text from len kind page body fits rec), omega (arith, here)))
  ]

  -- Of two offsets that a reader comes to, it comes from the lower one to the other.
  pub goes_on : (fuel : ℕ) (text : List ℕ) (first a b : ℕ) → a + b < fuel → IsReached sum size number text first a → IsReached sum size number text first b → a ≤ b → IsReached sum size number text a b
  goes_on zero text first a b less ra rb le = absurd (omega (arith, less))
  goes_on (suc fuel) text first a b less ra at_first le =
      let low = no_less text first a ra in
      let here : a ≡ b = omega (arith, low, le) in
      subst (λ n. IsReached sum size number text a n) here at_first
  goes_on (suc fuel) text first a b less ra (behind from len kind page body reached fits rec) le =
      let here = begins text from len kind page body fits rec in
      let some = here.some in
      elim (cases_lt from a) [
        | inl passed ↦ (
            let found = first_step text from a (goes_on fuel text first from a (omega (arith, less, some)) reached ra (omega (arith, passed))) passed in
            let step_le = found.2 in
            let same = same_len text from len found.0 here found.1 in
            let is : a ≡ from + len = omega (arith, le, step_le, same) in
            subst (λ n. IsReached sum size number text a n) is at_first)
        | inr before ↦ behind from len kind page body (goes_on fuel text first a from (omega (arith, less, some)) ra reached (omega (arith, before))) fits rec
      ]
