-- Where a zero is in place of its kind no record begins, so a reader reads none there.
use Rattle.std.proofs.Common.{◌≡◌, ◌≤◌, ◌<◌, ◌+◌, ◌∙◌, ℕ, List, ◌∷◌, ◌++◌, length, drop, get_or, sym, ap, arith, length-append, length-take, append_assoc}
use Rattle.std.proofs.lemmas.List.{get_or-drop, get_or-take, get_or-append-add, get_or_append_left}
use Rattle.sled_codec.specs.declared.serialization.message.MessageKind.{MessageKind}
use Rattle.sled_codec.specs.Kinds.{kind_of}
use Rattle.sled_codec.specs.Places.{part}
use Rattle.sled_codec.specs.Record.{IsRecord}
use Rattle.sled_store.specs.Readers.{Reads}
use Rattle.sled_store.proofs.Own.ReachedLemmas.{record_some}

-- the fifth byte of a record says its kind
pub kind_is : (sum : List ℕ → ℕ) (text : List ℕ) (kind : MessageKind) (page number : ℕ) (body : List ℕ) → IsRecord sum text kind page number body → kind ≡ kind_of (get_or text 4 0)
kind_is sum text kind page number body r =
    let spelled = r.spelled in
    let long : 5 ≤ length r.header = let b = spelled.summed.long in omega (arith, b, ap length spelled.is, length-append ((spelled.sum ++ (spelled.code ∷ spelled.len)) ++ spelled.number) spelled.page, length-append (spelled.sum ++ (spelled.code ∷ spelled.len)) spelled.number, length-append spelled.sum (spelled.code ∷ spelled.len)) in
    let front : spelled.sum ++ (spelled.code ∷ (spelled.len ++ (spelled.number ++ spelled.page))) ≡ r.header = sym (spelled.is ∙ simp append_assoc) in
    let four : length spelled.sum + 0 ≡ 4 = let b = spelled.summed.long in omega (arith, b) in
    let code : spelled.code ≡ get_or text 4 0 =
    sym (ap (λ k. get_or (spelled.sum ++ (spelled.code ∷ (spelled.len ++ (spelled.number ++ spelled.page)))) k 0) (sym four) ∙ get_or-append-add spelled.sum (spelled.code ∷ (spelled.len ++ (spelled.number ++ spelled.page))) 0 0)
    ∙ ap (λ (l : List ℕ). get_or l 4 0) front
    ∙ sym (get_or_append_left r.header body 0 4 (omega (arith, long)))
    ∙ ap (λ (l : List ℕ). get_or l 4 0) (sym r.is) in
    spelled.kind ∙ ap kind_of code

pub no_kind : (sum : List ℕ → ℕ) (text : List ℕ) (kind : MessageKind) (page number : ℕ) (body : List ℕ) → IsRecord sum text kind page number body → get_or text 4 0 ≡ 0 → ⊥
no_kind sum text kind page number body r zero = r.valid (kind_is sum text kind page number body r ∙ ap kind_of zero)

pub reads_none : (sum : List ℕ → ℕ) (size number : ℕ) (text : List ℕ) (first at len : ℕ) → get_or text (at + 4) 0 ≡ 0 → Reads sum size number text first at len → ⊥
reads_none sum size number text first at len zero r =
    let some = record_some sum (part text at len) r.kind r.page number r.body r.is in
    let long : 4 < len = omega (arith, some, length-take len (drop at text)) in
    no_kind sum (part text at len) r.kind r.page number r.body r.is (get_or-take len (drop at text) 4 0 long ∙ get_or-drop at text 4 0 ∙ zero)
